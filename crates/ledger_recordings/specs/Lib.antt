pub mod Reckoning
pub mod Promises
