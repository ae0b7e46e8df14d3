pub mod Keys
pub mod Laws
pub mod Print
pub mod Rest
