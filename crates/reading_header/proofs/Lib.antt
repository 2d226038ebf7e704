pub mod FrameCases
mod TextLaws
