pub mod BackLaws
pub mod SaveCases
pub mod Promises
