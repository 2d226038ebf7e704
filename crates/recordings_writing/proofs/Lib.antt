pub mod StateLaws
pub mod CloseCases
pub mod HistoryLaws
pub mod RefusalLaws
pub mod Promises
