pub mod Islands
pub mod Lines
pub mod Printed
