use Rattle.std.proofs.Common.{rules, ◌≡◌, ◌<◌, ◌≤◌, pos, get_or, length, ap, arith, sym, ◌∙◌}
use Rattle.qed_terms.specs.Tree.{num}
use Rattle.core_trees.specs.declared.variables.FunctionVariable.{FunctionVariable}
use Rattle.plain_runs.specs.Fitting.{sizes}
use Rattle.walk_frames.specs.View.{facts_in, shape_in}
use Rattle.program_walk.proofs.Opening.{opened_none, opened_set, opened_unset}
use Rattle.program_walk.proofs.scopes.open_one.Goals as goal

pub returns-then-at-variables : goal.returns-then-at-variables
returns-then-at-variables c m k gs =
    let x = c.args.frame in
    let p = facts_in x in
    let s = shape_in x k in
    let vs = x.variables.now in
    let slice : c.as_slice-variables.result.now ≡ vs = search (rules, c.as_slice-variables.ensures) in
    let away : length vs ≤ c.args.variable = (let t = c.if-at-variables.true in let l = ap length slice in omega (arith, t, l)) in
    opened_none m s (sizes p s) vs c.args.variable away

pub returns-then-variables-at : goal.returns-then-variables-at
returns-then-variables-at c m k gs =
    let x = c.args.frame in
    let p = facts_in x in
    let s = shape_in x k in
    let vs = x.variables.now in
    let slice : c.as_slice-variables.result.now ≡ vs = search (rules, c.as_slice-variables.ensures) in
    let within : c.args.variable < length vs = (let t = c.if-at-variables.false in let l = ap length slice in omega (arith, t, l)) in
    let v = c.index-variables-at.result in
    opened_set m s (sizes p s) vs c.args.variable v c.in_ok-number.number within (c.index-variables-at.is ∙ ap (λ ws. get_or ws c.args.variable v) slice) c.in_ok-number.ensures (ap (λ (w : FunctionVariable). w.has_value) c.index-variables-at.is ∙ c.if-variables-at.true)
    (c.in_ok-set_to.ensures m x.bases.now (num (pos 0)) gs (sym c.number.ensures))

pub returns : goal.returns
returns c m k gs =
    let x = c.args.frame in
    let p = facts_in x in
    let s = shape_in x k in
    let vs = x.variables.now in
    let slice : c.as_slice-variables.result.now ≡ vs = search (rules, c.as_slice-variables.ensures) in
    let within : c.args.variable < length vs = (let t = c.if-at-variables.false in let l = ap length slice in omega (arith, t, l)) in
    let v = c.index-variables-at.result in
    opened_unset m s (sizes p s) vs c.args.variable v c.in_ok-number.number within (c.index-variables-at.is ∙ ap (λ ws. get_or ws c.args.variable v) slice) c.in_ok-number.ensures (ap (λ (w : FunctionVariable). w.has_value) c.index-variables-at.is ∙ c.if-variables-at.false)
    (c.in_ok-open_unset.ensures m gs)
