use Rattle.std.proofs.Common.{◌<◌, ◌≤◌, ap, arith, length, map}
use Rattle.std.specs.Option.{option_map}
use Rattle.acsl_trees.specs.Tree.{view_trees}
use Rattle.qed_terms.specs.View.{formula_tree}
use Rattle.step_walks.specs.View.{view_state}
use Rattle.step_walks.specs.Walks.{states}
use Rattle.walk_live.proofs.Bitwise.{bits_length}
use Rattle.loop_walks.proofs.Staying.{stays_next, stays_end}
use Rattle.loop_walks.proofs.heads.add_stays.Goals as goal

pub loop-variable-preserved : goal.loop-variable-preserved
loop-variable-preserved c a f vs ha hb =
    let i = c.loop-variable.variable in
    let within : i < length c.args.changing.now = c.loop-variable-test.true in
    let lt : i < length vs = (let e = ap length hb in let b = bits_length (length vs) f in omega (arith, within, e, b)) in
    stays_next (states (view_state c.args.state.now)) a (option_map view_trees c.args.assigns.now) f vs i (map formula_tree c.loop-variable.made) (map formula_tree c.add_stay.new.made) _ lt
    (c.loop-variable.invariant a f vs ha hb) (c.in_ok-add_stay.ensures a f ha (c.is_in-changes.ensures (length vs) f hb lt))

pub returns : goal.returns
returns c a f vs ha hb =
    let i = c.loop-variable.variable in
    let le : length vs ≤ i = (let e = ap length hb in let b = bits_length (length vs) f in omega (arith, c.loop-variable-test.false, e, b)) in
    stays_end (states (view_state c.args.state.now)) a (option_map view_trees c.args.assigns.now) f vs i (map formula_tree c.loop-variable.made) _ le (c.loop-variable.invariant a f vs ha hb)
