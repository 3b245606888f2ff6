mod Meetings
pub mod RowLemmas
pub mod TableConnections
mod ShareSteps
mod MadeOfRecorded
