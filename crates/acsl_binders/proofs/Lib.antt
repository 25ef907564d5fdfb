pub mod Preds
pub mod Annots
pub mod Stmts
pub mod Decls
pub mod Typed
