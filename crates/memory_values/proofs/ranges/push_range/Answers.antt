use Rattle.std.proofs.Common.{subst}
use Rattle.value_terms.specs.Words.{range_facts}
use Rattle.term_drafts.proofs.Drafted.{term_is}
use Rattle.memory_values.specs.Drafts.{Pushes}
use Rattle.memory_values.proofs.ranges.push_range.Goals as goal

pub returns : goal.returns
returns c = λ t h.
    subst (λ t. Pushes c.push_ends.result c.args.out.now.items c.push_ends.new.out.items (range_facts c.args.model c.args.kind t)) (term_is c.args.term c.in_ok-term.term t h c.in_ok-term.was) c.push_ends.ensures
