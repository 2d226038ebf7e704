pub mod OrderCases
pub mod DeckLaws
pub mod FrameLaws
pub mod RefusedLaws
pub mod Promises
pub mod History
