use Rattle.std.proofs.Common.{◌≡◌, drop, map}
use Rattle.c_syntax.specs.View.{view_var}
use Rattle.c_taken.specs.Addressed.{names_of}
use Rattle.c_taken.specs.Pieces.{hidden_by_all}
use Rattle.c_taken.proofs.hidden.Hidden.hide_all.Given as goal

-- with the names that are left, all are hidden
abbrev pub invariant-loop-var : goal.invariant-loop-var
invariant-loop-var l = hidden_by_all l.self (names_of (map view_var (drop l.var-index l.vars))) ≡ hidden_by_all l.initial.self (names_of (map view_var l.vars))
