mod PartWrites
mod FilledSums
mod ReadBack
pub mod SegmentTests
mod FieldRanges
mod PayloadPlaces
