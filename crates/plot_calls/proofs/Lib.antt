pub mod Determined
pub mod PlotWays
