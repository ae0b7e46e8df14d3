pub mod Firsts
pub mod Listed
pub mod Moves
pub mod Stores
pub mod Turns
