use Rattle.std.proofs.Common.{◌≡◌, ◌≤◌, ◌||◌, map, length, arith, subst, sym, ap, ◌∙◌}
use Rattle.same_places.specs.Members.{class_list}
use Rattle.same_places.specs.Passing.{Passing}
use Rattle.same_places.specs.View.{row_of, place_in}
use Rattle.same_places.proofs.Passing.{or_false, or_true, passing_closed}
use Rattle.same_places.proofs.Turns.{length_mapped, pass_turn}
use Rattle.same_places.proofs.classes.pass.Goals as goal
use Rattle.same_places.proofs.classes.pass.Goals.{then-branch, else-branch}

pub loop-n-preserved : goal.loop-n-preserved
loop-n-preserved c =
    let is : (c.loop-n.moved || c.in_ok-visit.field-0) ≡ c.if-branch.moved = elim c.if-branch.branch [
      | then-branch w ↦ ap (λ b. c.loop-n.moved || b) w.if-branch.true ∙ or_true c.loop-n.moved ∙ sym w.moved-is
      | else-branch w ↦ ap (λ b. c.loop-n.moved || b) w.if-branch.false ∙ or_false c.loop-n.moved ∙ sym w.moved-is
    ] in
    record { kept = c.in_ok-visit.ensures.kept; so_far = pass_turn (length (class_list c.args.classes.now)) (map row_of c.args.rows.now) (class_list c.args.classes.now) (class_list c.loop-n.classes) (class_list c.visit.new.classes) c.loop-n.moved c.in_ok-visit.field-0 c.if-branch.moved (place_in c.loop-n.seen.entries) (place_in c.visit.new.seen.entries) c.loop-n.n c.in_ok-visit.ensures.step is c.loop-n.invariant.so_far }

pub returns-clause-closed : goal.returns-clause-closed
returns-clause-closed c moved =
    let long = length_mapped row_of c.args.rows.now in
    let end : length (map row_of c.args.rows.now) ≤ c.loop-n.n = let h = c.loop-n-test.false in omega arith in
    passing_closed (length (class_list c.args.classes.now)) (map row_of c.args.rows.now) (class_list c.args.classes.now) (class_list c.loop-n.classes) (place_in c.loop-n.seen.entries) c.loop-n.n end
    (subst (λ m. Passing (length (class_list c.args.classes.now)) (map row_of c.args.rows.now) (class_list c.args.classes.now) (class_list c.loop-n.classes) m (place_in c.loop-n.seen.entries) c.loop-n.n) moved c.loop-n.invariant.so_far)
