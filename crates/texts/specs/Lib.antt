pub mod Lexemes
pub mod NetText
pub mod Faults
pub mod NetForm
pub mod Reading
pub mod Rows
pub mod Outcomes
pub mod Examples
