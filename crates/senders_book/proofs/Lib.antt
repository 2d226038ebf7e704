pub mod IdLaws
pub mod PlaceLaws
pub mod TakeCases
pub mod StampLaws
pub mod Promises
pub mod History
