pub mod RunCases
pub mod RunLaws
