pub mod KeptCases
pub mod KeptLaws
pub mod PayloadCases
pub mod LeadLaws
