pub mod NameLaws
pub mod LoadLaws
pub mod Gathered
pub mod AskedLaws
