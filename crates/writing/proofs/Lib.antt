pub mod Laws
pub mod Lines
pub mod Texts
pub mod Unrooted
