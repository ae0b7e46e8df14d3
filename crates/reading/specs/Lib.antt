pub mod Opening
pub mod Whole
