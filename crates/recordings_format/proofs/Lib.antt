pub mod EditionLaws
pub mod TextLaws
pub mod IndexLaws
pub mod CompleteLaws
pub mod SoundLaws
pub mod RefusalLaws
pub mod Promises
