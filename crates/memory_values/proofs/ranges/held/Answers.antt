use Rattle.std.proofs.Common.{subst}
use Rattle.value_terms.specs.Words.{held_term}
use Rattle.term_drafts.specs.Drafts.{FormulaIs}
use Rattle.term_drafts.proofs.Drafted.{term_is}
use Rattle.memory_values.proofs.ranges.held.Goals as goal

pub returns : goal.returns
returns c = λ t h.
    subst (λ t. FormulaIs c.conjunction.result (held_term c.args.model c.args.kind t)) (term_is c.args.term c.in_ok-term.term t h c.in_ok-term.was) (c.conjunction.ensures _ _ c.from_low-low.ensures c.up_to_high-high.ensures)
