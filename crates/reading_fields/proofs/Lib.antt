pub mod FieldCases
