pub mod Tests
pub mod StoredKids
pub mod FreeKids
pub mod ClearKids
pub mod PutKids
pub mod PutFits
pub mod Unchanged
