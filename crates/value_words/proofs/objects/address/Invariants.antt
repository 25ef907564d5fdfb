use Rattle.std.specs.Prelude.{◌≡◌, List, drop}
use Rattle.walk_steps.specs.Forms.{Slots}
use Rattle.c_runs.specs.Program.{Variable}
use Rattle.program_trees.specs.View.{view_facts}
use Rattle.value_terms.specs.Terms.{along_term, address_term}
use Rattle.value_words.specs.OverSlots.{reading_of}
use Rattle.value_words.specs.View.{view_term, view_terms}
use Rattle.value_words.proofs.objects.address.Given as goal

abbrev pub invariant-loop-step : goal.invariant-loop-step
invariant-loop-step l =
    (xs : List Variable) (ts : Slots) → along_term (view_facts l.facts) (reading_of (view_facts l.facts) xs ts) (view_terms l.terms) (drop l.step-index l.path.steps) (view_term l.pointer)
    ≡ address_term (view_facts l.facts) (reading_of (view_facts l.facts) xs ts) l.path (view_terms l.terms)
