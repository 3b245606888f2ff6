mod ReadingKept
mod FramesKept
mod ConnectionsKept
mod ContributionsKept
mod AnswersKept
