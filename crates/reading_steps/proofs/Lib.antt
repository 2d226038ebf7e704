pub mod SizeLaws
pub mod SlowestLaws
pub mod Promises
