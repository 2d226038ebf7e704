pub mod ReachLaws
pub mod Promises
