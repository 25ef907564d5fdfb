use Rattle.std.proofs.Common.{◌≡◌, ◌∷◌, [], map, sym, ap, ◌∙◌}
use Rattle.program_steps.specs.Leaves.{fill}
use Rattle.program_trees.specs.View.{view_contract}
use Rattle.qed_terms.specs.View.{formula_tree, term_tree}
use Rattle.step_walks.specs.Walks.{Held}
use Rattle.walk_frames.specs.View.{facts_in, shape_in}
use Rattle.walk_steps.specs.Laws.{start_slots}
use Rattle.function_walks.specs.Entry.{entry_trees, view_origins}
use Rattle.function_walks.proofs.Entering.{forms_written, entry_closed}
use Rattle.function_walks.proofs.entry.enter.Goals as goal

pub returns : goal.returns
returns g c m k =
    let p = facts_in c.args.frame in
    let s = shape_in c.args.frame k in
    let texts = g.T.Texts.text c.args.texts.now in
    let contract = view_contract c.args.frame.contract.now in
    let e = c.bare-state.ensures in
    let olds = ap (λ (h : Held). h.olds) e in
    let used = ap (λ (h : Held). h.used) e in
    let left = ap (λ (h : Held). h.left) e in
    let bases : c.as_slice.result.now ≡ c.args.frame.bases.now = c.as_slice.ensures in
    let origins = ap view_origins c.as_slice-2.ensures.value ∙ c.in_ok-origins.ensures m k texts in
    let slots = ap (λ (h : Held). h.world.slots) e ∙ c.in_ok-slots.ensures ∙ (λ i. start_slots (bases i) (origins i)) in
    let trees = entry_trees m p s texts c.args.params contract in
    let given = c.in_ok-known.ensures m k (λ i. map term_tree c.bare-state.result.world.slots.items ∷ olds i) in
    let known =
    ap (λ v. map formula_tree v.items) c.replace-none.ensures.after ∙ given ∙ (λ i. map (fill (slots i ∷ [])) trees)
    ∙ sym (forms_written m _ trees (entry_closed m p s texts c.args.params contract)) in
    λ i. record { olds = olds i; used = used i; world = record { known = known i; slots = slots i }; left = left i }
