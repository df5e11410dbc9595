pub mod Building
pub mod Built
pub mod Contents
pub mod Drafts
pub mod Layout
pub mod Limits
pub mod Outlined
