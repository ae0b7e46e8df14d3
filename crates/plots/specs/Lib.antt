pub mod Plot
pub mod PlotCall
pub mod PlotRefusals
