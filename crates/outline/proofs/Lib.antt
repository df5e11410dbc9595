pub mod Following
pub mod Heights
pub mod Laying
pub mod Shown
pub mod Tracking
