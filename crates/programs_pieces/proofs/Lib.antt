pub mod PutCases
pub mod DecimalCases
