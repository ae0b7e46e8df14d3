pub mod Fork
pub mod Opening
pub mod Three
pub mod Whole
