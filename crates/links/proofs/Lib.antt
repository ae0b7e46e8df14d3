pub mod Flags
pub mod Linked
