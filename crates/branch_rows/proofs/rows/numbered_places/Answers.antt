use Rattle.std.proofs.Common.{◌++◌, ◌∷◌, [], sym, ◌∙◌}
use Rattle.branch_rows.proofs.Rowing.{numbered_more}
use Rattle.branch_rows.proofs.rows.numbered_places.Goals as goal

pub loop-i-preserved : goal.loop-i-preserved
loop-i-preserved c =
    c.in_ok-push.ensures.items ∙ (λ z. c.loop-i.invariant z ++ c.numbered_place.ensures z ∷ []) ∙ sym (numbered_more c.args.places.now c.loop-i.i c.loop-i-test.true)
