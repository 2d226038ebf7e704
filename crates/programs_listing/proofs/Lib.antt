pub mod PutCases
pub mod Front
pub mod Examples
