use Rattle.std.proofs.Common.{◌≡◌, drop, map}
use Rattle.std.specs.List.{list_all}
use Rattle.c_syntax.specs.View.{view_term, view_var}
use Rattle.acsl_guards.specs.Mentions.{names_of, is_one_of}
use Rattle.acsl_guards.proofs.chains.all_binders.Given as goal

abbrev pub invariant-loop-term : goal.invariant-loop-term
invariant-loop-term l =
    list_all (is_one_of (names_of (map view_var l.binders))) (map view_term (drop l.term-index l.terms)) ≡ list_all (is_one_of (names_of (map view_var l.binders))) (map view_term l.terms)
