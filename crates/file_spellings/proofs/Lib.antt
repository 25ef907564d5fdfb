pub mod Spelling_all
