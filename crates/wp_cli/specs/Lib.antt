pub mod Answers
pub mod AnswerView
pub mod Report
pub mod Top
