pub mod Texts_by
