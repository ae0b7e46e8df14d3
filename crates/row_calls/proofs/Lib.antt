pub mod Determined
pub mod Rowing
