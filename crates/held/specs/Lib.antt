pub mod Held
pub mod Kept
pub mod Labels
pub mod Node
pub mod Subtree
pub mod Turning
