pub mod Tail
pub mod Index
