pub mod Outcomes
pub mod Renaming
pub mod Reordering
