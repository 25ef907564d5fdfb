mod Gathering
mod Loops
mod Comparing
mod Functions_at
