-- The plain statement with checks of one in memory, by its variant.
use Rattle.std.proofs.Common.{◌≡◌, ℕ, List, Option, map, ap, sym, ◌∙◌}
use Rattle.std.specs.Option.{option_map}
use Rattle.std.specs.Borrow.{Bor}
use Rattle.typed_prog.specs.declared.types.CoreType.{CoreType}
use Rattle.typed_prog.specs.declared.operators.Path.{Path}
use Rattle.typed_prog.specs.declared.tree.Value.{Value}
use Rattle.typed_prog.specs.Tree.{values_of}
use Rattle.typed_prog.specs.View.{view_value, view_values}
use Rattle.core_trees.specs.declared.claims.Claim.{Claim}
use Rattle.core_trees.specs.declared.claims.Loop.{Loop}
use Rattle.core_trees.specs.View.{view_claim, view_loop}
use Rattle.c_runs.specs.Tree as k
use Rattle.check_lists.specs.declared.checks.Check.{Check}
use Rattle.check_lists.specs.View.{view_checks}
use Rattle.checked_trees.specs.declared.steps.Goal.{Goal}
use Rattle.checked_trees.specs.declared.steps.Step.{Step, Step-F, fold-roll-Step}
use Rattle.checked_trees.specs.declared.steps.Step.TheVariants as step
use Rattle.checked_trees.specs.View.{view_goal, view_step, view_steps, step_layer}

pub view_step-Set : (cs : List Check) (n : ℕ) (e : Bor Value) → view_step (step.Set cs n e) ≡ k.set (view_checks cs) n (view_value e.now)
unfolding view_step
view_step-Set cs n e = ap view_step (sym (step.rolls-Set cs n e)) ∙ fold-roll-Step k.Step step_layer (Step-F.Set cs n e)

pub view_step-Store : (cs : List Check) (type : Bor CoreType) (line : ℕ) (path : Bor Path) (es : Bor (List Value)) → view_step (step.Store cs type line path es) ≡ k.store (view_checks cs) type.now line path.now (values_of (view_values es.now))
unfolding view_step
view_step-Store cs type line path es = ap view_step (sym (step.rolls-Store cs type line path es)) ∙ fold-roll-Step k.Step step_layer (Step-F.Store cs type line path es)

pub view_step-Start : (cs : List Check) (x : ℕ) (e : Bor Value) → view_step (step.Start cs x e) ≡ k.start (view_checks cs) x (view_value e.now)
unfolding view_step
view_step-Start cs x e = ap view_step (sym (step.rolls-Start cs x e)) ∙ fold-roll-Step k.Step step_layer (Step-F.Start cs x e)

pub view_step-Call : (cs : List Check) (to : Goal) (function line : ℕ) (es : Bor (List Value)) → view_step (step.Call cs to function line es) ≡ k.call (view_checks cs) (view_goal to) function line (values_of (view_values es.now))
unfolding view_step
view_step-Call cs to function line es = ap view_step (sym (step.rolls-Call cs to function line es)) ∙ fold-roll-Step k.Step step_layer (Step-F.Call cs to function line es)

pub view_step-Branch : (cs : List Check) (e : Bor Value) (a b : List Step) → view_step (step.Branch cs e a b) ≡ k.branch (view_checks cs) (view_value e.now) (view_steps a) (view_steps b)
unfolding view_step
view_step-Branch cs e a b = ap view_step (sym (step.rolls-Branch cs e a b)) ∙ fold-roll-Step k.Step step_layer (Step-F.Branch cs e a b)

pub view_step-Repeat : (l : Bor Loop) (ss : List Step) → view_step (step.Repeat l ss) ≡ k.repeat (view_loop l.now) (view_steps ss)
unfolding view_step
view_step-Repeat l ss = ap view_step (sym (step.rolls-Repeat l ss)) ∙ fold-roll-Step k.Step step_layer (Step-F.Repeat l ss)

pub view_step-Around : (ss : List Step) → view_step (step.Around ss) ≡ k.around (view_steps ss)
unfolding view_step
view_step-Around ss = ap view_step (sym (step.rolls-Around ss)) ∙ fold-roll-Step k.Step step_layer (Step-F.Around ss)

pub view_step-Exit : (n : ℕ) → view_step (step.Exit n) ≡ k.exit n
unfolding view_step
view_step-Exit n = ap view_step (sym (step.rolls-Exit n)) ∙ fold-roll-Step k.Step step_layer (Step-F.Exit n)

pub view_step-Give : (cs : List Check) (e : Bor (Option Value)) → view_step (step.Give cs e) ≡ k.give (view_checks cs) (option_map view_value e.now)
unfolding view_step
view_step-Give cs e = ap view_step (sym (step.rolls-Give cs e)) ∙ fold-roll-Step k.Step step_layer (Step-F.Give cs e)

pub view_step-Claim : (q : Bor Claim) → view_step (step.Claim q) ≡ k.claim (view_claim q.now)
unfolding view_step
view_step-Claim q = ap view_step (sym (step.rolls-Claim q)) ∙ fold-roll-Step k.Step step_layer (Step-F.Claim q)

pub view_step-Scope : (xs : Bor (List ℕ)) (ss : List Step) → view_step (step.Scope xs ss) ≡ k.scope xs.now (view_steps ss)
unfolding view_step
view_step-Scope xs ss = ap view_step (sym (step.rolls-Scope xs ss)) ∙ fold-roll-Step k.Step step_layer (Step-F.Scope xs ss)

pub ruleset step_laws = (
  view_step-Set,
  view_step-Store,
  view_step-Start,
  view_step-Call,
  view_step-Branch,
  view_step-Repeat,
  view_step-Around,
  view_step-Exit,
  view_step-Give,
  view_step-Claim,
  view_step-Scope,
)
