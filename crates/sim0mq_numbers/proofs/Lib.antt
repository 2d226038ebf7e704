pub mod NumberCases
pub mod ByteLaws
