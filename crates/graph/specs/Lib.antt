pub mod Copies
pub mod Graph
pub mod Listed
