-- Programs in which temporaries are set before they are used: none is used at the beginning of a function, and none that is used at the head of a
-- loop is set in it.
use Rattle.std.specs.Prelude.{◌≡◌, ℕ, true, false, List, [], ◌∷◌, Some}
use Rattle.c_runs.specs.Program.{Function, Program}
use Rattle.c_runs.specs.Tree.{Step, set, store, start, call, branch, repeat, around, exit, give, claim, scope, Steps, end, then_}
use Rattle.plain_runs.specs.Kept.{some_temps}
use Rattle.program_steps.specs.Temporaries.{Temporaries, no_temporaries, all_live}

-- `os`: the temporaries that are used behind the blocks around; `t`: behind the statement
abbrev mutual
  pub KeepsOrder : (os : List Temporaries) → (t : Temporaries) → Step → Type 0
  KeepsOrder os t (branch cs e a b) = KeepOrder os t a × KeepOrder os t b
  KeepsOrder os t (repeat l ss) = ((n : ℕ) → all_live ss os no_temporaries n ≡ true → some_temps ss n ≡ false) × KeepOrder os no_temporaries ss
  KeepsOrder os t (around ss) = KeepOrder (t ∷ os) t ss
  KeepsOrder os t (scope ys ss) = KeepOrder os t ss
  KeepsOrder os t (set cs n e) = Unit {0}
  KeepsOrder os t (store cs type l path es) = Unit {0}
  KeepsOrder os t (start cs x e) = Unit {0}
  KeepsOrder os t (call cs to n l es) = Unit {0}
  KeepsOrder os t (exit k) = Unit {0}
  KeepsOrder os t (give cs e) = Unit {0}
  KeepsOrder os t (claim c) = Unit {0}

  pub KeepOrder : (os : List Temporaries) → (t : Temporaries) → Steps → Type 0
  KeepOrder os t end = Unit {0}
  KeepOrder os t (then_ a ss) = KeepsOrder os (all_live ss os t) a × KeepOrder os t ss

pub record SetsFirst (body : Steps) : Type 0 where
  pub begins : (n : ℕ) → all_live body [] no_temporaries n ≡ false
  pub loops : KeepOrder [] no_temporaries body

abbrev pub AllSetFirst : Program Steps → Type 0
AllSetFirst q = (n : ℕ) (g : Function Steps) → q.functions n ≡ Some g → SetsFirst g.body
