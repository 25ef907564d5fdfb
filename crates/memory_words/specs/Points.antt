-- Where a statement stands, as its word knows it.
use Rattle.std.specs.Prelude.{ℕ, zero, suc, Bool, List, [], ◌∷◌, ◌++◌, map, Option, Some, None, option_map}
use Rattle.wp_base.specs.declared.kinds.CellKind.{CellKind}
use Rattle.acsl_trees.specs.Tree as acsl
use Rattle.memory_words.specs.Readings.{Standpoint, InScope}
use Rattle.memory_words.specs.Standing.{Temporaries}

-- a scope with blocks that is open: which of the remembered states is that before its blocks were made, the last one being 0, and the kinds of their cells
pub record Open : Type 0 where
  pub level : ℕ
  pub has_kind : CellKind → Bool

-- a block around: the temporaries that are used behind it, and the open scopes that stand directly around it, the innermost first
pub record Out : Type 0 where
  pub uses : Temporaries
  pub scopes : List Open

-- the set in force: the function's clauses, or that of a loop, which was entered there and finds so many variables declared
pub data Force : Type 0 where
  of_function : Force
  of_loop : (entered : Standpoint) (regions : List acsl.Tree) (declared : ℕ) → Force

-- The number of the function; how annotations are read there; the open scopes inside of the innermost block, the innermost first; the blocks around; and the
-- set in force.
pub record Point : Type 0 where
  pub self : ℕ
  pub stands : Standpoint
  pub scopes : List Open
  pub outs : List Out
  pub force : Force

-- ---- one more state is remembered

abbrev pub later : Standpoint → Standpoint
later sp = record sp { here = suc sp.here; entry = suc sp.entry; loop_entry = option_map suc sp.loop_entry }

-- the present state is another one
abbrev pub at_present : Standpoint → Standpoint
at_present sp = record (later sp) { here = 0 }

abbrev pub deeper : Open → Open
deeper o = record o { level = suc o.level }

abbrev pub deeper_out : Out → Out
deeper_out o = record o { scopes = map deeper o.scopes }

abbrev pub later_force : Force → Force
later_force of_function = of_function
later_force (of_loop sp rs d) = of_loop (later sp) rs d

abbrev pub remembered : Point → Point
remembered pt = record {
  self = pt.self;
  stands = at_present pt.stands;
  scopes = map deeper pt.scopes;
  outs = map deeper_out pt.outs;
  force = later_force pt.force;
}

-- ---- blocks and scopes

abbrev pub in_block : Temporaries → Point → Point
in_block f pt = record pt { scopes = []; outs = record { uses = f; scopes = pt.scopes } ∷ pt.outs }

abbrev pub with_scope : Option Open → InScope → Point → Point
with_scope None i pt = record pt { stands = record pt.stands { in_scope = i } }
with_scope (Some o) i pt = record pt { stands = record pt.stands { in_scope = i }; scopes = o ∷ pt.scopes }

-- the temporaries that are used behind the blocks around
abbrev pub uses_of : List Out → List Temporaries
uses_of os = map (λ (o : Out). o.uses) os

-- the open scopes that an exit leaves, out of so many blocks and one more; and all of them
abbrev pub left_by : (k : ℕ) → List Open → List Out → List Open
left_by zero here os = here
left_by (suc k) here [] = here
left_by (suc k) here (o ∷ os) = here ++ left_by k o.scopes os

abbrev pub all_open : List Open → List Out → List Open
all_open here [] = here
all_open here (o ∷ os) = here ++ all_open o.scopes os
