pub mod AnswerCases
pub mod SaidLaws
