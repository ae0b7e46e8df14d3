pub mod Draft
pub mod Marking
pub mod Meet
pub mod Refusals
pub mod Runs
pub mod Steps
