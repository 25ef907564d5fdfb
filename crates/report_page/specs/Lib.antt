pub mod Markup
pub mod Style
pub mod Page
pub mod View
