pub mod DeckLaws
