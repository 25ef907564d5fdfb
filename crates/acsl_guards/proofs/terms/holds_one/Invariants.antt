use Rattle.std.proofs.Common.{◌≡◌, map}
use Rattle.std.specs.List.{list_any}
use Rattle.c_syntax.specs.View.{view_term, view_var}
use Rattle.acsl_guards.specs.Mentions.{names_of, is_one_of, some_part}
use Rattle.acsl_guards.specs.Parts.{terms_in}
use Rattle.acsl_guards.proofs.Searching.{left_weight}
use Rattle.acsl_guards.proofs.terms.holds_one.Given as goal

-- one stands in what is left exactly where one stands in the term
abbrev pub invariant-loop-part : goal.invariant-loop-part
invariant-loop-part l =
    list_any (some_part (is_one_of (names_of (map view_var l.binders)))) (terms_in l.left.items) ≡ some_part (is_one_of (names_of (map view_var l.binders))) (view_term l.term)

abbrev pub decreases-loop-part : goal.decreases-loop-part
decreases-loop-part l = left_weight l.left.items
