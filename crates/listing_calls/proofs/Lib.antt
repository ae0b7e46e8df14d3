pub mod Determined
pub mod Graphing
pub mod Sheets
