-- How many temporaries a function has: one more than the greatest number of one that is set, and none where none is set.
use Rattle.std.specs.Prelude.{ℕ, suc, nat_lt, if◌then◌else◌}
use Rattle.c_runs.specs.Tree.{Goal, temporary, Step, set, store, start, call, branch, repeat, around, exit, give, claim, scope, Steps, end, then_}

abbrev pub greater : ℕ → ℕ → ℕ
greater n k = if nat_lt n k then k else n

abbrev pub temporaries_of : Goal → ℕ
temporaries_of (temporary n) = suc n
temporaries_of to = 0

abbrev mutual
  pub temporaries_by : Step → ℕ
  temporaries_by (set cs n e) = suc n
  temporaries_by (call cs to f line es) = temporaries_of to
  temporaries_by (branch cs e a b) = greater (temporaries_in a) (temporaries_in b)
  temporaries_by (repeat l ss) = temporaries_in ss
  temporaries_by (around ss) = temporaries_in ss
  temporaries_by (scope ys ss) = temporaries_in ss
  temporaries_by (store cs type line path es) = 0
  temporaries_by (start cs x e) = 0
  temporaries_by (exit k) = 0
  temporaries_by (give cs e) = 0
  temporaries_by (claim c) = 0

  pub temporaries_in : Steps → ℕ
  temporaries_in end = 0
  temporaries_in (then_ s ss) = greater (temporaries_by s) (temporaries_in ss)
