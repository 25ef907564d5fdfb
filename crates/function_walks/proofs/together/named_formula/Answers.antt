use Rattle.std.proofs.Common.{rules, ◌≡◌, IfOk, Option, Some, None, option_map, sym, ap, ◌∙◌, subst}
use Rattle.std.specs.Prelude.{slice_get}
use Rattle.std.proofs.lemmas.Option.{slice_get-map}
use Rattle.c_runs.specs.Program as program
use Rattle.program_steps.specs.Functions.{named_tree}
use Rattle.program_steps.specs.Leaves.{fill}
use Rattle.program_trees.specs.View.{view_behavior}
use Rattle.qed_terms.proofs.Equations.{formula_tree-False}
use Rattle.qed_terms.specs.View.{formula_tree}
use Rattle.step_walks.specs.View.{view_state}
use Rattle.step_walks.specs.Walks.{states}
use Rattle.walk_frames.specs.View.{facts_in, shape_in}
use Rattle.function_walks.proofs.together.named_formula.Goals as goal

pub returns-in-Some : goal.returns-in-Some
returns-in-Some g c m k =
    let p = facts_in c.args.frame in
    let s = shape_in c.args.frame k in
    let texts = g.T.Texts.text c.args.texts.now in
    let ss = states (view_state c.args.state.now) in
    let bs = c.args.frame.contract.now.behaviors in
    let at : slice_get bs c.args.number ≡ Some c.in-Some.behavior.now = search (rules, c.get.ensures, c.in-Some.is) in
    let named = slice_get-map view_behavior bs c.args.number ∙ ap (option_map view_behavior) at in
    subst (λ (o : Option program.Behavior). IfOk c.behavior_formula.result (λ made. formula_tree made ≡ fill ss (named_tree m p s texts o))) (sym named) (c.behavior_formula.ensures m k)

pub returns-in-None : goal.returns-in-None
returns-in-None g c m k =
    let p = facts_in c.args.frame in
    let s = shape_in c.args.frame k in
    let texts = g.T.Texts.text c.args.texts.now in
    let ss = states (view_state c.args.state.now) in
    let bs = c.args.frame.contract.now.behaviors in
    let at : slice_get bs c.args.number ≡ None = search (rules, c.get.ensures, c.in-None.is) in
    let named = slice_get-map view_behavior bs c.args.number ∙ ap (option_map view_behavior) at in
    formula_tree-False ∙ ap (λ (o : Option program.Behavior). fill ss (named_tree m p s texts o)) (sym named)
