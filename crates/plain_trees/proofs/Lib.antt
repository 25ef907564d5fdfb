pub mod Counting
pub mod Reading
pub mod Walking
pub mod Regional
pub mod Passing
pub mod Placing
pub mod Texts_alike
pub mod Settings_plain
