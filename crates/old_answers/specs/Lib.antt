pub mod ReadingBefore
pub mod FramesBefore
pub mod ConnectionsBefore
pub mod SegmentsBefore
pub mod ReportsBefore
pub mod WritingBefore
pub mod AnswersBefore
pub mod OldAnswers
