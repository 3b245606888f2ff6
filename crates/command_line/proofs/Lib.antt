mod NumberSteps
mod ReadingSteps
