pub mod Recorder
pub mod History
pub mod Promises
