use Rattle.std.proofs.Common.{rules, ◌≡◌, ◌<◌, ◌+◌, ◌++◌, ◌∷◌, []}
use Rattle.slot_names.specs.Bases.{temporary_name}
use Rattle.slot_names.proofs.Pairs.{temporary_next}
use Rattle.slot_names.proofs.bases.push_temporaries.Goals as goal

pub loop-number-preserved : goal.loop-number-preserved
loop-number-preserved c =
    let within : c.loop-number.number < c.args.count = search (rules, c.loop-number-test.true) in
    let named : c.in_ok-temporary_name.field-0 ≡ temporary_name (c.loop-number.number + 1) = search (rules, c.in_ok-temporary_name.ensures, c.temporary_name.ensures) in
    let pushed : c.push.new.self.items ≡ c.loop-number.bases.items ++ c.in_ok-temporary_name.field-0 ∷ [] = search (rules, c.in_ok-push.ensures.items) in
    temporary_next _ _ _ c.loop-number.number c.args.count _ within named pushed c.loop-number.invariant
