pub mod Blanking
pub mod Copying
pub mod Promises
