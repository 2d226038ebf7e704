pub mod Page
pub mod Judging
pub mod Places
pub mod Parts
pub mod Promises
pub mod Examples
