pub mod Reaching
pub mod Promises
