pub mod TurnLaws
pub mod BlankCases
pub mod RenewLaws
