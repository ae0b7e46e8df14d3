pub mod Counting
pub mod Grouping
pub mod Pooled
pub mod Supported
pub mod Supports
