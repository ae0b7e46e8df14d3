pub mod Entries
pub mod Links
pub mod Rows
pub mod Sharing
