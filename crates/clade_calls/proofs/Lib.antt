pub mod Determined
pub mod Supporting
