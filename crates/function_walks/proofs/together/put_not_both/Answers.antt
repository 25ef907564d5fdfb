use Rattle.std.proofs.Common.{◌++◌, map, ap, ◌∙◌}
use Rattle.std.proofs.lemmas.List.{map_push}
use Rattle.qed_terms.specs.View.{formula_tree}
use Rattle.function_walks.proofs.Choices.{not_with, not_both_are}
use Rattle.function_walks.proofs.Requiring.{list_step, list_done}
use Rattle.function_walks.proofs.together.put_not_both.Goals as goal

pub loop-other-preserved : goal.loop-other-preserved
loop-other-preserved c =
    let f = not_with c.args.first.now in
    let old = c.loop-other.made in
    let push = ap (map formula_tree) c.in_ok-push.ensures.ok ∙ map_push formula_tree old c.in_ok-both.both ∙ ap (λ ts. map formula_tree old ++ ts) c.in_ok-both.ensures in
    list_step f c.args.others.now c.loop-other.other-index c.other-item.result (map formula_tree old) (map formula_tree c.push.new.self) (map formula_tree c.args.made.now ++ map f c.args.others.now) c.loop-other-test.true
    c.other-item.is c.loop-other.invariant push

pub returns : goal.returns
returns c =
    let f = not_with c.args.first.now in
    list_done f c.args.others.now c.loop-other.other-index (map formula_tree c.loop-other.made) (map formula_tree c.args.made.now ++ map f c.args.others.now) c.loop-other-test.false c.loop-other.invariant
    ∙ ap (λ ts. map formula_tree c.args.made.now ++ ts) (not_both_are c.args.first.now c.args.others.now)
