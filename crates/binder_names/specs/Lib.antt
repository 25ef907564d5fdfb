pub mod Binders
pub mod Notes
pub mod Trees
pub mod Tables
