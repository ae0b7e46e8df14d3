pub mod Drawn
pub mod Placing
