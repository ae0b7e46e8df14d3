pub mod Parts
pub mod Regroup
pub mod Walk
