pub mod Coded
pub mod LongCoded
