pub mod MergedCapture
pub mod KeyedSegments
pub mod Sinks
