pub mod KeptCases
pub mod PartCases
pub mod RunCases
pub mod LeadCases
