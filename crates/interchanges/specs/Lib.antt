pub mod Interchanged
