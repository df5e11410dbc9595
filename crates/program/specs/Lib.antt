pub mod Checked
pub mod Model
pub mod Refusals
pub mod Verdict
