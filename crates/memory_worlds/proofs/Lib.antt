pub mod Pushing
pub mod GivenNames
pub mod Joined
pub mod JoinedTables
pub mod Renewed
pub mod Ending
