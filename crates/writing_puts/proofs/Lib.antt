pub mod PlaceLaws
pub mod NumberLaws
pub mod SignedLaws
