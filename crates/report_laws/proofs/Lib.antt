mod MappedLists
mod ZeroedLines
mod ZeroedToxics
mod ZeroedReports
mod FrameHeads
mod SeenHeads
