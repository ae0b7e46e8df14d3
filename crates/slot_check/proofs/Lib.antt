pub mod InOrder
pub mod Shelves
pub mod Slots
