pub mod Keys
pub mod Print
pub mod Rest
