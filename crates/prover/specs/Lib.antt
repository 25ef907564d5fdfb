pub mod Prover
pub mod Late
