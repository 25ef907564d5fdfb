pub mod Heads
pub mod Writing
mod WritingWords
pub mod Filled
pub mod Closing
mod Slotted
mod Drafted
mod Narrowing
mod Seeing
mod Adding
mod Homes
mod Dividing
mod Reaching
mod Making
mod Finished
