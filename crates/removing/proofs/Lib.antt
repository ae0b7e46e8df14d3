pub mod Gaps
pub mod Removal
