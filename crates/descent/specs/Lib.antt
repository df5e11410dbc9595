pub mod Descent
pub mod Nearest
pub mod Rows
