use Rattle.std.proofs.Common.{rules, ◌≡◌, ◌++◌, ◌∷◌, [], IfOk, map, length, get_or, ap, ◌∙◌, subst}
use Rattle.std.proofs.lemmas.List.{map_push}
use Rattle.program_trees.specs.View.{view_behavior}
use Rattle.qed_terms.specs.View.{formula_tree}
use Rattle.step_walks.specs.View.{view_state}
use Rattle.step_walks.specs.Walks.{states}
use Rattle.walk_frames.specs.View.{facts_in, shape_in}
use Rattle.function_walks.proofs.Behaviors.{named_by, none_named, some_named}
use Rattle.function_walks.proofs.Requiring.{list_step, list_done, same_item}
use Rattle.function_walks.proofs.together.named_formulas.Goals as goal

pub returns-then-is_empty : goal.returns-then-is_empty
returns-then-is_empty g c m k =
    let p = facts_in c.args.frame in
    let s = shape_in c.args.frame k in
    let texts = g.T.Texts.text c.args.texts.now in
    let ss = states (view_state c.args.state.now) in
    let none : length c.args.numbers.now ≡ 0 = search (rules, c.if-is_empty.true, c.is_empty.ensures) in
    subst (λ ts. IfOk c.all_formulas.result (λ made. map formula_tree made ≡ ts)) (none_named m p s texts ss (map view_behavior c.args.frame.contract.now.behaviors) c.args.numbers.now none) (c.all_formulas.ensures m k)

pub loop-number-preserved : goal.loop-number-preserved
loop-number-preserved g c m k =
    let p = facts_in c.args.frame in
    let s = shape_in c.args.frame k in
    let texts = g.T.Texts.text c.args.texts.now in
    let ss = states (view_state c.args.state.now) in
    let f = named_by m p s texts ss (map view_behavior c.args.frame.contract.now.behaviors) in
    let ns = c.args.numbers.now in
    let old = c.loop-number.made in
    let i = c.loop-number.number-index in
    let x = get_or ns i 0 in
    let made : formula_tree c.in_ok-formula.formula ≡ f x = c.in_ok-formula.ensures m k in
    let push = ap (map formula_tree) c.in_ok-push.ensures.ok ∙ map_push formula_tree old c.in_ok-formula.formula ∙ ap (λ t. map formula_tree old ++ t ∷ []) made in
    list_step f ns i x (map formula_tree old) (map formula_tree c.push.new.self) (map f ns) c.loop-number-test.true (same_item ns i 0 x c.loop-number-test.true) (c.loop-number.invariant m k) push

pub returns : goal.returns
returns g c m k =
    let p = facts_in c.args.frame in
    let s = shape_in c.args.frame k in
    let texts = g.T.Texts.text c.args.texts.now in
    let ss = states (view_state c.args.state.now) in
    let bs = map view_behavior c.args.frame.contract.now.behaviors in
    let f = named_by m p s texts ss bs in
    let ns = c.args.numbers.now in
    let some : length ns ≡ 0 → ⊥ = λ h. search (rules, c.if-is_empty.false, c.is_empty.ensures, h) in
    list_done f ns c.loop-number.number-index (map formula_tree c.loop-number.made) (map f ns) c.loop-number-test.false (c.loop-number.invariant m k) ∙ some_named m p s texts ss bs ns some
