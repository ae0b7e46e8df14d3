pub mod Clades
pub mod Grown
pub mod Majority
pub mod Row
pub mod RowCalls
pub mod RowRefusals
pub mod Support
pub mod SupportCall
