mod Branching
mod Opening
mod Single
mod Storing
