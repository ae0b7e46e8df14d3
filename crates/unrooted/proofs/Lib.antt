pub mod Apart
pub mod Beside
pub mod Path
pub mod Round
pub mod Walk
