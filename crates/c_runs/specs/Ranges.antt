-- What the numbers between two ends are, in other words than those of their definition.
use Rattle.std.specs.Prelude.{◌≡◌, ℤ, Bool, true, ◌≤ℤ◌}
use Rattle.c_runs.specs.TruthStates.{every_between, some_between}

-- a number between two ends that passes
pub record One (low high : ℤ) (test : ℤ → Bool) : Type 0 where
  pub number : ℤ
  pub above : low ≤ℤ number
  pub below : number ≤ℤ high
  pub passes : test number ≡ true

-- A test that all of them pass is one that each passes, and one that some pass is one that some number passes.
pub record RangesSay : Type 0 where
  pub each : (low high : ℤ) (test : ℤ → Bool) → every_between low high test ≡ true → (z : ℤ) → low ≤ℤ z → z ≤ℤ high → test z ≡ true
  pub all : (low high : ℤ) (test : ℤ → Bool) → ((z : ℤ) → low ≤ℤ z → z ≤ℤ high → test z ≡ true) → every_between low high test ≡ true
  pub one : (low high : ℤ) (test : ℤ → Bool) → some_between low high test ≡ true → One low high test
  pub some : (low high : ℤ) (test : ℤ → Bool) → One low high test → some_between low high test ≡ true
