pub mod Fitting
pub mod Scan
pub mod Next
