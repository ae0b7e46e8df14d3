pub mod Addition
pub mod Bytes
pub mod Checking
pub mod Filling
pub mod Room
pub mod Standing
