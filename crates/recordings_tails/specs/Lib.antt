pub mod Tails
pub mod Promises
