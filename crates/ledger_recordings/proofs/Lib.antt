pub mod TurnLaws
pub mod ReckonLaws
pub mod Promises
