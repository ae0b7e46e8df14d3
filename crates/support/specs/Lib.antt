pub mod Counted
pub mod Supports
