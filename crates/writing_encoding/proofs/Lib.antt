pub mod EncodeCases
