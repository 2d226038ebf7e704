pub mod TailLaws
pub mod Promises
