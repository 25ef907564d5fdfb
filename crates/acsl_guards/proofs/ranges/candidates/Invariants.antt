use Rattle.std.proofs.Common.{◌≡◌, ◌++◌, drop, map}
use Rattle.c_syntax.specs.View.{view_var}
use Rattle.acsl_guards.specs.Mentions.{names_of}
use Rattle.acsl_guards.specs.Guarding as spec
use Rattle.acsl_guards.specs.Parts.{candidates_in, preds_in}
use Rattle.acsl_guards.proofs.ranges.candidates.Given as goal

-- those found, and those of the conjuncts to come, are all
abbrev pub invariant-loop-number : goal.invariant-loop-number
invariant-loop-number l =
    candidates_in l.found.items ++ spec.candidates (names_of (map view_var l.binders)) l.number (drop l.number (preds_in l.preds)) ≡ spec.candidates (names_of (map view_var l.binders)) 0 (preds_in l.preds)
