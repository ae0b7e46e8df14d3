pub mod Copies
pub mod Link
pub mod Tested
