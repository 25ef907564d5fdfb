use Rattle.std.proofs.Common.{rules, ◌≡◌, ◌+◌, ◌++◌, [], ◌∙◌, arith, map, suc, true}
use Rattle.std.specs.Option.{option_map}
use Rattle.core_trees.specs.View.{view_claim, view_measure}
use Rattle.step_walks.specs.View.{view_state}
use Rattle.step_walks.specs.Walks.{states}
use Rattle.walk_frames.specs.Asked.{view_asked, written_check}
use Rattle.walk_frames.specs.View.{facts_in, shape_in, view_point}
use Rattle.loop_words.specs.Words as words
use Rattle.loop_walks.specs.Parts.{invariant_check}
use Rattle.loop_walks.proofs.Checks.{checks_both}
use Rattle.loop_walks.proofs.ends.end_checks.Goals as goal

pub returns : goal.returns
returns g c m k os =
    let ss = states (view_state c.args.state.now) in
    let p = facts_in c.args.frame in
    let s = shape_in c.args.frame k in
    let tx = g.T.Texts.text c.args.texts.now in
    let pt = view_point c.args.frame os c.args.point in
    let check = invariant_check p s tx m true in
    let further : c.in_ok-entry.entry ≡ c.args.point.entry + 3 = c.in_ok-entry.ensures in
    let level : c.in_ok-entry.entry ≡ suc (suc (suc c.args.point.entry)) = omega (arith, further) in
    let none : c.new-made.result ≡ [] = c.new-made.ensures in
    let seen : c.as_slice-claims.result.now ≡ c.args.l.now.invariants = search (rules, c.as_slice-claims.ensures) in
    checks_both ss (map (words.kept_check p s tx m pt) (map view_claim c.args.l.now.invariants)) (words.variant_checks p s tx m pt (option_map view_measure c.args.l.now.variant))
    (map view_asked c.add_variant.new.made) (map view_asked c.add_invariants.new.made)
    (c.in_ok-add_invariants.ensures m k ∙ (λ i. map view_asked (none i) ++ map (written_check ss) (map (check (level i) 2) (map view_claim (seen i)))))
    (c.in_ok-add_variant.ensures m k pt level)
