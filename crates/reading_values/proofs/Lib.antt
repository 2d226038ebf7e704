pub mod ValueCases
