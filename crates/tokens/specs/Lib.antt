pub mod Draft
pub mod Mark
pub mod Paper
pub mod Printed
