pub mod MarkCases
pub mod ByLaws
