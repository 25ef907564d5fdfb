pub mod Given
pub mod Same
pub mod Lists
pub mod CallLaws
pub mod AskedLaws
