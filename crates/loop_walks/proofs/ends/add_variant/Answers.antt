use Rattle.std.proofs.Common.{◌++◌, ◌∷◌, [], ◌∙◌, ap, sym, map}
use Rattle.std.specs.Option.{option_map}
use Rattle.core_trees.specs.View.{view_measure}
use Rattle.step_walks.specs.View.{view_state}
use Rattle.step_walks.specs.Walks.{states}
use Rattle.walk_frames.specs.Asked.{view_asked, written_check}
use Rattle.walk_frames.specs.View.{facts_in, shape_in}
use Rattle.walk_words.proofs.Pushing.{two_pushed}
use Rattle.loop_words.specs.Words as words
use Rattle.loop_walks.specs.Parts.{positive_check, less_check}
use Rattle.loop_walks.proofs.ends.add_variant.Goals as goal

pub returns-in_ok-push-2 : goal.returns-in_ok-push-2
returns-in_ok-push-2 g c m k pt e =
    let ss = states (view_state c.args.state.now) in
    let p = facts_in c.args.frame in
    let s = shape_in c.args.frame k in
    let tx = g.T.Texts.text c.args.texts.now in
    let v = view_measure c.in-Some.measure in
    let first = c.in_ok-positive.field-0 in
    let second = c.in_ok-less.field-0 in
    ap (map view_asked) (c.in_ok-push-2.ensures.ok ∙ ap (λ xs. xs ++ second ∷ []) c.in_ok-push.ensures.ok)
    ∙ two_pushed view_asked c.args.made.now first second (written_check ss (positive_check p s tx m pt v)) (written_check ss (less_check p s tx m pt v)) (c.in_ok-positive.ensures m k pt e)
    (c.in_ok-less.ensures m k pt e)
    ∙ (λ i. map view_asked c.args.made.now ++ map (written_check ss) (words.variant_checks p s tx m pt (option_map view_measure (sym c.in-Some.is i))))
