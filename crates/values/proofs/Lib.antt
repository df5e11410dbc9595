pub mod Admitting
pub mod Fitting
pub mod Members
pub mod SameType
