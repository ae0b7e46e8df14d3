pub mod Between
pub mod Nodes
pub mod PlotCall
pub mod Rounding
pub mod Rows
pub mod Samples
pub mod Step
