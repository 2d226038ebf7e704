pub mod CurrencyCases
