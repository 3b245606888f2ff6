pub mod EffectCounts
pub mod Marks
