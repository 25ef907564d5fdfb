pub mod Passing
mod Lists
mod Outside
mod Lacking
mod Marking
mod Letting
mod Changing
mod Staying
mod Checks
mod Closed
