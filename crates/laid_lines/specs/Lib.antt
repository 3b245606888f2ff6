pub mod FlatLines
pub mod RecordedLines
