pub mod Children
pub mod Left
pub mod Ordered
pub mod Pair
pub mod Parting
