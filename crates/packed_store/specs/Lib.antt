pub mod Packed
pub mod PackedSpans
