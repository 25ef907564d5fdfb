-- Temporaries that are still used: behind a point, on some way from there. No other one has a term in the slots, so that none meets another one where
-- ways meet.
use Rattle.std.specs.Prelude.{ℕ, zero, suc, ◌==◌, Bool, true, false, not, ◌&&◌, ◌||◌, List, [], ◌∷◌, Option, Some, None}
use Rattle.typed_prog.specs.Tree as t
use Rattle.c_runs.specs.Tree.{Goal, nowhere, temporary, place, variable, Step, set, store, start, call, branch, repeat, around, exit, give, claim, scope, Steps, end, then_}
use Rattle.goal_segments.specs.Told.{goal_temp}

abbrev pub Temporaries : Type 0
Temporaries = ℕ → Bool

abbrev pub no_temporaries : Temporaries
no_temporaries n = false

-- ---- expressions

abbrev mutual
  pub node_uses : t.ValueNode → Temporaries
  node_uses (t.temporary m) n = m == n
  node_uses (t.apply o es) n = some_use es n
  node_uses _ n = false

  pub uses : t.Value → Temporaries
  uses (t.typed node type line) n = node_uses node n

  pub some_use : t.Values → Temporaries
  some_use t.stop n = false
  some_use (t.more e es) n = uses e n || some_use es n

-- ---- statements

-- behind the ends of the blocks around, the innermost first
abbrev pub out_at : List Temporaries → ℕ → Temporaries
out_at [] k = no_temporaries
out_at (f ∷ fs) zero = f
out_at (f ∷ fs) (suc k) = out_at fs k

abbrev pub goal_uses : Goal → Temporaries
goal_uses (place cs type l path es) n = some_use es n
goal_uses _ n = false

abbrev pub given_uses : Option t.Value → Temporaries
given_uses None n = false
given_uses (Some e) n = uses e n

abbrev mutual
  -- before a statement, behind whose end these are used
  pub live : Step → (outs : List Temporaries) → (after : Temporaries) → Temporaries
  live (set cs m e) os f n = uses e n || (not (m == n) && f n)
  live (store cs type l path es) os f n = some_use es n || f n
  live (start cs x e) os f n = uses e n || f n
  live (call cs to g l es) os f n = some_use es n || goal_uses to n || (not (goal_temp to n) && f n)
  live (branch cs e a b) os f n = uses e n || (all_live a os f n || all_live b os f n)
  live (repeat l ss) os f n = all_live ss os no_temporaries n
  live (around ss) os f n = all_live ss (f ∷ os) f n
  live (exit k) os f n = out_at os k n
  live (give cs e) os f n = given_uses e n
  live (claim c) os f n = f n
  live (scope ys ss) os f n = all_live ss os f n

  pub all_live : Steps → (outs : List Temporaries) → (after : Temporaries) → Temporaries
  all_live end os f n = f n
  all_live (then_ s ss) os f n = live s os (all_live ss os f) n
