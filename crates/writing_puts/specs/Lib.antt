pub mod Placing
pub mod Signed
