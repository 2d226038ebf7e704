pub mod Decks
pub mod Mustering
pub mod Promises
pub mod History
pub mod Examples
