pub mod Nodes
pub mod Noted
pub mod Places
pub mod Sorting
pub mod Tests
pub mod Whole
