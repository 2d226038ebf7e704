pub mod TrailerCases
pub mod EntryCases
pub mod TileCases
pub mod IndexCases
pub mod TailLaws
