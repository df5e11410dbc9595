pub mod Rows
pub mod Changes
pub mod Gathering
pub mod Sets
