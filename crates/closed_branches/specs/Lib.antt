pub mod ClosedBranches
