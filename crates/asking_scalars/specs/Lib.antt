pub mod Scalars
pub mod Bytes
pub mod Promises
