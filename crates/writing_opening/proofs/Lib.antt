pub mod HeaderCases
