use Rattle.std.proofs.Common.{rules, ◌≡◌, IfOk, ap, sym, subst, ◌∙◌}
use Rattle.acsl_trees.specs.Tree.{view_trees}
use Rattle.qed_terms.specs.Tree.{imp_of}
use Rattle.qed_terms.specs.View.{formula_tree}
use Rattle.program_steps.specs.Leaves.{fill}
use Rattle.program_steps.specs.Terms.{assumed_tree, entry_reading}
use Rattle.program_steps.specs.Words.{under}
use Rattle.step_walks.specs.View.{view_state}
use Rattle.step_walks.specs.Walks.{states}
use Rattle.walk_frames.specs.View.{facts_in, shape_in}
use Rattle.walk_frames.proofs.clauses.claim_under.Goals as goal

pub returns : goal.returns
returns g c k =
    let p = facts_in c.args.frame in
    let s = shape_in c.args.frame k in
    let tx = g.T.Texts.text c.args.texts.now in
    let ss = states (view_state c.args.state.now) in
    let f = formula_tree c.args.claim in
    let slice : c.as_slice.result.now ≡ c.args.behavior.now.assumes = search (rules, c.as_slice.ensures) in
    let assumed = c.in_ok-assumed.ensures k ∙ ap (λ ts. fill ss (assumed_tree p s tx (entry_reading p s tx c.args.level) (view_trees ts))) slice in
    let no = c.if-is_plain.false in
    subst (λ u. IfOk c.implication.result (λ made. formula_tree made ≡ u))
    (ap (λ x. imp_of x f) assumed ∙ ap (λ b. under b (fill ss (assumed_tree p s tx (entry_reading p s tx c.args.level) (view_trees c.args.behavior.now.assumes))) f) (sym no)) c.implication.ensures
