pub mod AllocLaws
pub mod AskedLaws
pub mod LayoutLaws
