use Rattle.std.proofs.Common.{◌++◌, ap, ◌∙◌}
use Rattle.c_taken.specs.Addressed.{term_addressed, last_first}
use Rattle.c_taken.specs.Pieces.{pointed, terms_in}
use Rattle.c_taken.proofs.Gathering.{term_turn}
use Rattle.c_taken.proofs.terms.names_in.Goals as goal

pub loop-term-preserved : goal.loop-term-preserved
loop-term-preserved c =
    term_turn c.loop-term.left.items c.pop.new.self.items c.put_parts.new.left.items c.in-Some.term (pointed c.loop-term.names.items) (pointed c.put_names.new.names.items)
    (last_first term_addressed (terms_in c.args.left.items)) c.in-Some.ensures.items
    (c.in_ok-put_names.ensures ∙ ap (λ ns. pointed c.loop-term.names.items ++ ns) c.in_ok-own_names.ensures) c.in_ok-put_parts.ensures c.loop-term.invariant
