pub mod TableCases
