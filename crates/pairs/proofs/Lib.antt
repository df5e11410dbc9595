pub mod Rows
pub mod Told
pub mod Changed
pub mod Found
pub mod Sets
