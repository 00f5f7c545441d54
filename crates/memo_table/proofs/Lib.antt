pub mod Counting
mod Copying
mod MemoWords
mod TreeWords
mod Holding
mod WordSteps
mod CounterSteps
mod SeatSteps
mod Ending
pub mod SeatLaws
mod Leaves
mod TwoRelations
mod Final
