use Rattle.std.proofs.Common.{rules, ◌≡◌, ap, subst, sym, ◌∙◌}
use Rattle.qed_terms.specs.View.{term_tree}
use Rattle.typed_prog.specs.Tree.{values_of}
use Rattle.typed_prog.specs.View.{view_values}
use Rattle.value_terms.specs.Readings.{number_term, term_at}
use Rattle.value_words.specs.Laws.{AreClosed}
use Rattle.value_words.specs.View.{view_terms}
use Rattle.step_walks.specs.View.{view_state}
use Rattle.walk_frames.specs.Evaluated.{EvaluatedAll}
use Rattle.walk_frames.specs.View.{facts_in, shape_in, variables_in, view_point}
use Rattle.program_walk.proofs.Storing.{store_walks}
use Rattle.program_walk.proofs.stores.walk_store.Goals as goal

pub returns : goal.returns
returns g c first o fs cs os f closed =
    let x = c.args.frame in
    let values : c.as_slice.result.now ≡ c.args.values.now = search (rules, c.as_slice.ensures) in
    let terms : c.as_slice-2.result.now ≡ c.in_ok-terms.terms.items = search (rules, c.as_slice-2.ensures.value) in
    let value = c.in_ok-value.ensures ∙ ap (λ ts. number_term (term_at (view_terms ts) 0)) terms in
    let made =
    subst (λ vs. EvaluatedAll o.world x.bases.now (facts_in x) (variables_in x) (values_of (view_values vs)) (view_terms c.in_ok-terms.terms.items) (view_state c.args.state.now) (view_state c.walk_values.new.state)
    (g.S.GoalSink.fits first c.args.sink.now) (g.S.GoalSink.fits first c.walk_values.new.sink)) values
    (c.in_ok-terms.ensures first o.world o.kinds (subst (λ vs. AreClosed (facts_in x) (shape_in x o.kinds) (values_of (view_values vs))) (sym values) closed)) in
    store_walks o x fs (g.T.Texts.text c.args.texts.now) (view_point x os c.args.point) cs c.args.ty.now c.args.line c.args.path.now (values_of (view_values c.args.values.now)) f (view_terms c.in_ok-terms.terms.items)
    (term_tree c.in_ok-value.value) closed made value (λ u is. c.in_ok-goes.ensures first o.world o.kinds os u is)
