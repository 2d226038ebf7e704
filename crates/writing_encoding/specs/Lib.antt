pub mod Scalars
pub mod Encoded
