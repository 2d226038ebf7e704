pub mod Opening
pub mod Judges
