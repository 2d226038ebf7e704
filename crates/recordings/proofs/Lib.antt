pub mod StatedLaws
pub mod StretchCases
pub mod OpenCases
pub mod StoreCases
