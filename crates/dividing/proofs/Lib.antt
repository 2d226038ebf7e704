pub mod RestLaws
pub mod FrontLaws
pub mod RunLaws
pub mod Promises
