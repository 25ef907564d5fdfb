use Rattle.std.proofs.Common.{◌≤◌, ◌^◌, pos, Some, ◌∙◌, ap, arith}
use Rattle.std.specs.Int.{w128}
use Rattle.std.proofs.lemmas.Int.{to_z_pos, to_z-of_z}
use Rattle.qed_numbers.proofs.Shifts.{a_power, power_fits}
use Rattle.qed_numbers.proofs.values.power_of_two.Goals as goal

pub overflow_cast-result-2 : goal.overflow_cast-result-2
overflow_cast-result-2 c =
    let p = power_fits c.places-places.result (omega (arith, c.if-places-gt126.false)) in
    record { sfits = omega (arith, p.0, p.1) }

pub returns : goal.returns
returns c =
    let low : c.places-places.result ≤ 126 = omega (arith, c.if-places-gt126.false) in
    let p = power_fits c.places-places.result low in
    let z = to_z_pos w128 _ (omega (arith, p.0, p.1)) in
    let e = rw (to_z-of_z w128 c.args.by c.ranges.by) at c.places-places.ensures in
    ap Some (z ∙ ap pos p.0) ∙ ap (λ i. Some (pos (2 ^ i))) e ∙ a_power c.args.by (rw e at low)
