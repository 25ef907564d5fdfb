-- What is told of a source beside its goals: names of a function's own variables, annotations with their binders, and whether sets of loops fit.
use Rattle.std.specs.Prelude.{ℕ, ◌==◌, Bool, true, if◌then◌else◌, List, [], ◌∷◌, Option, Some, None}
use Rattle.typed_unit.specs.Unit as u
use Rattle.c_runs.specs.Program.{Stmts, Function, Facts}
use Rattle.plain_goals.specs.Told.{program_of}
use Rattle.plain_runs.specs.Fitting.{is_param}
use Rattle.plain_words.specs.Sets.{all_sets_stand}
use Rattle.slot_names.specs.Bases.{Name}
use Rattle.plain_goals.specs.Files.{names_in}
use Rattle.binder_names.specs.Tables.{Named, table_of}
use Rattle.plain_sources.specs.Sources.{Source}

-- the names of a function's parameters and locals: those of its first body
abbrev pub first_names : (function : ℕ) → List u.Body → List Name
first_names n [] = []
first_names n (b ∷ bs) = if b.function == n then names_in b.locals else first_names n bs

module _ (s : Source) where
  abbrev pub facts_in : Facts
  facts_in = (program_of s.typed s.annots).facts

  -- its annotations with their binders as they are spelled; no other name of them stands in a goal
  abbrev pub table_in : List Named
  table_in = table_of s.typed (program_of s.typed s.annots).functions

  -- sets of its loops name variables that are in scope
  abbrev pub loops_fit : Option (Function Stmts) → Bool
  loops_fit None = true
  loops_fit (Some f) = all_sets_stand (is_param f.params) f.body

  abbrev pub sets_fit : u.Body → Bool
  sets_fit b = loops_fit ((program_of s.typed s.annots).functions b.function)
