pub mod PageLaws
pub mod WordLaws
pub mod Places
pub mod Refusals
pub mod Verdict
pub mod PartLaws
pub mod Parts
