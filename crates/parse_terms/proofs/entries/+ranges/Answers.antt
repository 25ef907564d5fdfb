use Rattle.std.proofs.Common.{arith, ap, map, ◌∙◌}
use Rattle.c_syntax.specs.Term.{terms_of}
use Rattle.c_syntax.specs.View.{view_term}
use Rattle.parse_terms.specs.Sets.{args_ranges, joined}
use Rattle.parse_terms.proofs.Ranging.{args_next, args_end}
use Rattle.parse_terms.proofs.entries.+ranges.Goals as goal

pub args_ranges-loop-arg-preserved : goal.args_ranges-loop-arg-preserved
args_ranges-loop-arg-preserved t c =
    args_next c.as_slice-arg-items.result.now c.loop-arg.arg-index c.arg-item.result c.loop-arg.ranges c.joined-ranges.result (omega arith) c.arg-item.is (c.joined-ranges.ensures ∙ ap (joined c.loop-arg.ranges) c.ranges_of.ensures)
    ∙ c.loop-arg.invariant

pub args_ranges-returns : goal.args_ranges-returns
args_ranges-returns t c =
    c.joined.ensures
    ∙ ap (joined c.loop-arg.ranges) (c.no_ranges.ensures ∙ args_end c.as_slice-arg-items.result.now c.loop-arg.arg-index c.loop-arg-test.false)
    ∙ c.loop-arg.invariant
    ∙ ap (λ args. args_ranges (terms_of (map view_term args))) c.as_slice-arg-items.ensures
