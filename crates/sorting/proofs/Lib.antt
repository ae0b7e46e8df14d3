pub mod Runs
pub mod Sorting
