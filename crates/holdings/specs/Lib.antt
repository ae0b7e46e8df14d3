pub mod Entries
pub mod IndexCalls
pub mod IndexRefusals
pub mod Memory
pub mod Neighbours
pub mod Slots
