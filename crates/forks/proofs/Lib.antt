pub mod Growing
pub mod Labels
pub mod Noting
