pub mod Found
pub mod Listed
pub mod Marking
pub mod Searching
pub mod Walk
