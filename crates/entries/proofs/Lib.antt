pub mod EntryTexts
pub mod Parting
pub mod Passing
pub mod Ranking
