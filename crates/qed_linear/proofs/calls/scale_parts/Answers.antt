use Rattle.std.proofs.Common.{◌≡◌, ◌+◌, ◌<◌, length, get_or, set, sym, ◌∙◌, ap, arith, rules, FitsSigned}
use Rattle.std.specs.Int.{w128}
use Rattle.std.proofs.lemmas.Int.{to_z-of_z}
use Rattle.std.proofs.lemmas.List.{get_or_read}
use Rattle.qed_linear.specs.declared.forms.LinPart.{LinPart}
use Rattle.qed_linear.specs.View.{parts_of, multiple}
use Rattle.qed_linear.proofs.Fitting.{changed_to, changed_more, changed_length, changed_all, with_multiple, multiples_of}
use Rattle.qed_linear.proofs.calls.scale_parts.Goals as goal

pub loop-at-preserved : goal.loop-at-preserved
loop-at-preserved c =
    let ys = c.loop-at.parts.items in
    let xs = c.args.parts.now.items in
    let i = c.loop-at.at in
    let m = c.multiple.result in
    let x = c.index_mut.result.now in
    let fits : FitsSigned w128 m = search rules in
    let by = to_z-of_z w128 c.args.by c.ranges.by in
    let low : i < length ys = omega arith in
    let here : i < length xs = omega (arith, low, c.loop-at.invariant.same) in
    let so_far = rw by at c.loop-at.invariant.so_far in
    let y = c.index.result.now in
    let times : FitsSigned w128 y.times = search rules in
    let f = with_multiple c.args.by in
    let alike : y ≡ x = get_or_read ys i y low c.index.ensures x ∙ sym c.index_mut.ensures.value in
    let product = rw (by, to_z-of_z w128 y.times times) at c.multiple.ensures ∙ ap (λ z. multiple c.args.by z.times) alike in
    let w : LinPart = record { atom = x.atom; times = m } in
    let made : w ≡ f x = λ j. record { atom = x.atom; times = product j } in
    let step : set ys i w ≡ changed_to f xs (i + 1) = ap (λ zs. set zs i w) so_far ∙ changed_more f xs i x w here (c.index_mut.ensures.value ∙ ap (λ zs. get_or zs i x) so_far) made in
    rw (to_z-of_z w128 m fits, by) (record {
      within = omega (arith, here);
      same = ap length step ∙ changed_length f xs (i + 1);
      so_far = step;
    })

pub returns : goal.returns
returns c =
    let by = to_z-of_z w128 c.args.by c.ranges.by in
    ap parts_of (rw by at c.loop-at.invariant.so_far) ∙ ap parts_of (changed_all (with_multiple c.args.by) c.args.parts.now.items c.loop-at.at (omega arith)) ∙ multiples_of c.args.by c.args.parts.now.items
