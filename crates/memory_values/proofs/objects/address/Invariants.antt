use Rattle.std.specs.Prelude.{◌≡◌, drop}
use Rattle.value_terms.specs.Terms.{along_term, address_term}
use Rattle.memory_values.specs.View.{facts_in, view_reading, view_term, view_terms}
use Rattle.memory_values.proofs.objects.address.Given as goal

abbrev pub invariant-loop-step : goal.invariant-loop-step
invariant-loop-step l =
    along_term (facts_in l.reading) (view_reading l.reading) (view_terms l.terms) (drop l.step-index l.path.steps) (view_term l.pointer)
    ≡ address_term (facts_in l.reading) (view_reading l.reading) l.path (view_terms l.terms)
