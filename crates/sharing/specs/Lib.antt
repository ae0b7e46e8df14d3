pub mod Entries
pub mod Firsts
pub mod Links
