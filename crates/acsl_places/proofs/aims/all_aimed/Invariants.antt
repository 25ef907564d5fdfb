use Rattle.std.proofs.Common.{◌≡◌, drop, map}
use Rattle.c_syntax.specs.View.{view_term}
use Rattle.acsl_names.specs.Names.{view_around}
use Rattle.acsl_places.specs.Places as spec
use Rattle.acsl_places.proofs.Turns.{typed_onto}
use Rattle.acsl_places.proofs.aims.all_aimed.Given as goal

-- those typed so far, and those that are to come
abbrev pub invariant-loop-term : goal.invariant-loop-term
invariant-loop-term l =
    typed_onto (map spec.view_aim l.aims) (spec.all_aimed (view_around l.around) l.names l.reading l.count (map view_term (drop l.term-index l.terms)))
    ≡ spec.all_aimed (view_around l.around) l.names l.reading l.initial.count (map view_term l.terms)
