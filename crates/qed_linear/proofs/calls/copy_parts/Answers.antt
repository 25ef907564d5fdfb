use Rattle.std.proofs.Common.{◌++◌, ◌∷◌, [], take_all, take, sym, ◌∙◌, ap, arith, rules, FitsSigned}
use Rattle.std.specs.Int.{w128}
use Rattle.std.proofs.lemmas.Int.{to_z-of_z}
use Rattle.qed_terms.specs.View.{term_tree}
use Rattle.qed_linear.specs.Linear.{part}
use Rattle.qed_linear.specs.View.{part_of, parts_of}
use Rattle.qed_linear.proofs.Places.{take_one, map_append}
use Rattle.qed_linear.proofs.calls.copy_parts.Goals as goal

pub loop-part-preserved : goal.loop-part-preserved
loop-part-preserved c =
    let x = c.part-item.result in
    let i = c.loop-part.part-index in
    let xs = c.args.parts.now in
    let fits : FitsSigned w128 x.times = search rules in
    let a = ap term_tree c.in_ok-copy.ensures in
    let g = rw (to_z-of_z w128 x.times fits) at c.in_ok-push_part.ensures in
    g ∙ (λ j. c.loop-part.invariant j ++ part (a j) x.times ∷ []) ∙ sym (map_append part_of (take i xs) (x ∷ [])) ∙ ap parts_of (sym (take_one xs i x (omega arith) c.part-item.is))

pub returns : goal.returns
returns c = c.loop-part.invariant ∙ ap parts_of (take_all c.loop-part.part-index c.args.parts.now (omega arith))
