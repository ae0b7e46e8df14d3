pub mod Cuts
pub mod Paired
pub mod Paper
pub mod Tabled
