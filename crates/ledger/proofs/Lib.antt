pub mod CallCases
