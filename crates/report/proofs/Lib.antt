pub mod ByteRuns
pub mod QuietSides
pub mod SeenCounts
