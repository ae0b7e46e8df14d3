pub mod Paper
pub mod Tabled
