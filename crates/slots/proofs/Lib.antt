pub mod Shelving
pub mod Walks
