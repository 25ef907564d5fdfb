mod Turns
mod Numbering
mod Joining
