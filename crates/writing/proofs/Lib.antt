pub mod OpenCases
pub mod AddCases
