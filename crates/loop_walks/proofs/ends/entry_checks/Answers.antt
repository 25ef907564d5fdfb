use Rattle.std.proofs.Common.{rules, ◌≡◌, ◌+◌, ◌++◌, [], ◌∙◌, arith, map, suc, false}
use Rattle.core_trees.specs.View.{view_claim}
use Rattle.step_walks.specs.View.{view_state}
use Rattle.step_walks.specs.Walks.{states}
use Rattle.walk_frames.specs.Asked.{view_asked, written_check}
use Rattle.walk_frames.specs.View.{facts_in, shape_in}
use Rattle.loop_walks.specs.Parts.{invariant_check}
use Rattle.loop_walks.proofs.ends.entry_checks.Goals as goal

pub returns : goal.returns
returns g c m k os =
    let ss = states (view_state c.args.state.now) in
    let check = invariant_check (facts_in c.args.frame) (shape_in c.args.frame k) (g.T.Texts.text c.args.texts.now) m false in
    let further : c.in_ok-entry.entry ≡ c.args.point.entry + 2 = c.in_ok-entry.ensures in
    let level : c.in_ok-entry.entry ≡ suc (suc c.args.point.entry) = omega (arith, further) in
    let none : c.new-made.result ≡ [] = c.new-made.ensures in
    let seen : c.as_slice-claims.result.now ≡ c.args.l.now.invariants = search (rules, c.as_slice-claims.ensures) in
    c.in_ok-add_invariants.ensures m k ∙ (λ i. map view_asked (none i) ++ map (written_check ss) (map (check (level i) 1) (map view_claim (seen i))))
