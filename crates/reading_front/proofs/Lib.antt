pub mod FrontCases
