mod Whole
mod Unused
