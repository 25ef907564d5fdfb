use Rattle.std.proofs.Common.{rules, ap, ◌++◌, ◌∙◌, true, ◌≡◌, ℕ, List, false, map}
use Rattle.qed_terms.specs.View.{formula_tree}
use Rattle.program_trees.specs.View.{view_behavior, view_contract, view_facts}
use Rattle.wp_base.specs.declared.kinds.Kind.{Kind}
use Rattle.acsl_trees.specs.Tree as acsl
use Rattle.program_steps.specs.Leaves.{fill}
use Rattle.program_steps.specs.Terms.{assumed_tree, entry_reading}
use Rattle.step_walks.specs.View.{view_state}
use Rattle.step_walks.specs.Walks.{states}
use Rattle.walk_frames.specs.View.{facts_in, shape_in}
use Rattle.program_steps.specs.Words.{as_one_unless}
use Rattle.call_walks.specs.Claimed.{joined}
use Rattle.call_walks.specs.Sets.{inclusion_by}
use Rattle.call_walks.proofs.sets.within_clauses.Goals as goal

pub returns : goal.returns
returns g c k =
    let by = inclusion_by (facts_in c.args.frame) (g.T.Texts.text c.args.texts.now) c.args.entered (view_contract c.args.contract.now) (λ (as_ : List acsl.Tree). fill (states (view_state c.args.state.now)) (assumed_tree (facts_in c.args.frame) (shape_in c.args.frame k) (g.T.Texts.text c.args.texts.now) (entry_reading (facts_in c.args.frame) (shape_in c.args.frame k) (g.T.Texts.text c.args.texts.now) c.args.level) as_)) in
    let slice : c.as_slice-behaviors.result.now ≡ c.args.frame.contract.now.behaviors = search (rules, c.as_slice-behaviors.ensures) in
    let plain = view_behavior c.args.frame.contract.now.plain in
    let clauses =
    c.in_ok-push_inclusions.ensures k ∙ ap (λ bs. map formula_tree c.push_inclusion.new.made ++ joined (by false) (map view_behavior bs)) slice
    ∙ ap (λ fs. fs ++ joined (by false) (map view_behavior c.args.frame.contract.now.behaviors)) (c.in_ok-push_inclusion.ensures k ∙ ap (λ fs. map formula_tree fs ++ by true plain) c.new-made.ensures)
    in
    c.in_ok-one.ensures ∙ (λ i. as_one_unless (c.refuses-refused.ensures i) (clauses i))
