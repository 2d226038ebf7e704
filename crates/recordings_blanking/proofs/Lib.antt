pub mod JoinLaws
pub mod CopyLaws
pub mod BlankCases
pub mod Promises
