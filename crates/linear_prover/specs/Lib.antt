pub mod LiteralLinks
pub mod Relations
