pub mod Good
mod Views
mod Tells
mod Claims
mod Named
mod Refusing
mod Inside
mod Further
mod Changing
mod Receiving
mod Staying
mod Behind
mod Answers
mod Tail
mod Stages
pub mod Calls
mod Worked
