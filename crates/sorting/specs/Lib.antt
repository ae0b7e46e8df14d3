pub mod Pool
pub mod Sort
