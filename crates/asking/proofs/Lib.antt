pub mod AskLaws
pub mod PartLaws
pub mod FindCases
pub mod Promises
