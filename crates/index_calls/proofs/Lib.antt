pub mod Calling
pub mod Determined
pub mod Firsts
