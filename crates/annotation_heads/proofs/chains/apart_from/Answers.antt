use Rattle.std.proofs.Common.{sym, ap, ◌∙◌}
use Rattle.std.specs.Option.{option_map}
use Rattle.qed_terms.specs.View.{formula_tree}
use Rattle.annotation_heads.proofs.Chained_so.{other_turn}
use Rattle.annotation_heads.proofs.chains.apart_from.Goals as goal

pub loop-other-preserved : goal.loop-other-preserved
loop-other-preserved c =
    let made = ap (option_map formula_tree) (sym c.in-Some.is) ∙ c.in_ok-part.ensures in
    other_turn c.args.regions.now c.loop-other.parts _ c.args.place c.loop-other.other c.index-regions-place.result c.index-regions-other.result c.in-Some.part _
    c.requires c.loop-other-test.true c.index-regions-place.is c.index-regions-other.is made c.in_ok-push.ensures.ok c.loop-other.invariant
