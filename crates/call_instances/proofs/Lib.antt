pub mod HeadSorts
pub mod BodyLaws
pub mod TakerLaws
pub mod CaseLaws
