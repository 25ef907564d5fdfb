pub mod MeetingLaws
pub mod GivenLaws
pub mod OrderLaws
