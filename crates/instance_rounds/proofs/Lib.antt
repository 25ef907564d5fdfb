pub mod StepLaws
pub mod PartLaws
pub mod GivenLaws
pub mod RoundLaws
