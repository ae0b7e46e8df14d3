pub mod Apart
pub mod Turned
