pub mod Book
pub mod Taking
pub mod Promises
pub mod History
pub mod Examples
