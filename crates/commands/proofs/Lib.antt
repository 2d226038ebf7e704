pub mod CommandLaws
pub mod TableLaws
pub mod EachLaws
pub mod NumberLaws
pub mod ReadLaws
pub mod NameLaws
pub mod ReasonLaws
