pub mod Random
