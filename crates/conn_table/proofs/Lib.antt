pub mod Peers
mod GroupingFilters
mod GroupingOrder
mod CountingSteps
pub mod RangeSteps
mod PartialSteps
mod LastSteps
mod Growths
mod FilterSteps
mod TableForms
pub mod TableSoundness
mod Sides
