pub mod Determined
pub mod Pairing
pub mod Tabling
pub mod Texts
