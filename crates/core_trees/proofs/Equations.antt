-- The plain statement of one in memory, by its variant.
use Rattle.std.proofs.Common.{◌≡◌, ℕ, List, Option, map, ap, sym, ◌∙◌}
use Rattle.std.specs.Option.{option_map}
use Rattle.typed_prog.specs.declared.types.CoreType.{CoreType}
use Rattle.typed_prog.specs.declared.operators.Path.{Path}
use Rattle.typed_prog.specs.declared.tree.Value.{Value}
use Rattle.typed_prog.specs.Tree.{values_of}
use Rattle.typed_prog.specs.View.{view_value, view_values}
use Rattle.c_runs.specs.Core as c
use Rattle.core_trees.specs.declared.claims.Claim.{Claim}
use Rattle.core_trees.specs.declared.claims.Loop.{Loop}
use Rattle.core_trees.specs.declared.statements.Target.{Target}
use Rattle.core_trees.specs.declared.statements.Core.{Core, Core-F, fold-roll-Core}
use Rattle.core_trees.specs.declared.statements.Core.TheVariants as core
use Rattle.core_trees.specs.View.{view_claim, view_loop, view_target, view_core, view_cores, core_layer}

pub view_core-Set : (n : ℕ) (e : Value) → view_core (core.Set n e) ≡ c.set n (view_value e)
unfolding view_core
view_core-Set n e = ap view_core (sym (core.rolls-Set n e)) ∙ fold-roll-Core c.Core core_layer (Core-F.Set n e)

pub view_core-Store : (type : CoreType) (line : ℕ) (path : Path) (es : List Value) → view_core (core.Store type line path es) ≡ c.store type line path (values_of (view_values es))
unfolding view_core
view_core-Store type line path es = ap view_core (sym (core.rolls-Store type line path es)) ∙ fold-roll-Core c.Core core_layer (Core-F.Store type line path es)

pub view_core-Start : (x : ℕ) (e : Value) → view_core (core.Start x e) ≡ c.start x (view_value e)
unfolding view_core
view_core-Start x e = ap view_core (sym (core.rolls-Start x e)) ∙ fold-roll-Core c.Core core_layer (Core-F.Start x e)

pub view_core-Call : (to : Target) (function line : ℕ) (es : List Value) → view_core (core.Call to function line es) ≡ c.call (view_target to) function line (values_of (view_values es))
unfolding view_core
view_core-Call to function line es = ap view_core (sym (core.rolls-Call to function line es)) ∙ fold-roll-Core c.Core core_layer (Core-F.Call to function line es)

pub view_core-Branch : (e : Value) (a b : List Core) → view_core (core.Branch e a b) ≡ c.branch (view_value e) (view_cores a) (view_cores b)
unfolding view_core
view_core-Branch e a b = ap view_core (sym (core.rolls-Branch e a b)) ∙ fold-roll-Core c.Core core_layer (Core-F.Branch e a b)

pub view_core-Repeat : (l : Loop) (ss : List Core) → view_core (core.Repeat l ss) ≡ c.repeat (view_loop l) (view_cores ss)
unfolding view_core
view_core-Repeat l ss = ap view_core (sym (core.rolls-Repeat l ss)) ∙ fold-roll-Core c.Core core_layer (Core-F.Repeat l ss)

pub view_core-Around : (ss : List Core) → view_core (core.Around ss) ≡ c.around (view_cores ss)
unfolding view_core
view_core-Around ss = ap view_core (sym (core.rolls-Around ss)) ∙ fold-roll-Core c.Core core_layer (Core-F.Around ss)

pub view_core-Exit : (k : ℕ) → view_core (core.Exit k) ≡ c.exit k
unfolding view_core
view_core-Exit k = ap view_core (sym (core.rolls-Exit k)) ∙ fold-roll-Core c.Core core_layer (Core-F.Exit k)

pub view_core-Give : (e : Option Value) → view_core (core.Give e) ≡ c.give (option_map view_value e)
unfolding view_core
view_core-Give e = ap view_core (sym (core.rolls-Give e)) ∙ fold-roll-Core c.Core core_layer (Core-F.Give e)

pub view_core-Claim : (q : Claim) → view_core (core.Claim q) ≡ c.claim (view_claim q)
unfolding view_core
view_core-Claim q = ap view_core (sym (core.rolls-Claim q)) ∙ fold-roll-Core c.Core core_layer (Core-F.Claim q)

pub view_core-Scope : (xs : List ℕ) (ss : List Core) → view_core (core.Scope xs ss) ≡ c.scope xs (view_cores ss)
unfolding view_core
view_core-Scope xs ss = ap view_core (sym (core.rolls-Scope xs ss)) ∙ fold-roll-Core c.Core core_layer (Core-F.Scope xs ss)

pub ruleset core_laws = (view_core-Set, view_core-Store, view_core-Start, view_core-Call, view_core-Branch, view_core-Repeat, view_core-Around, view_core-Exit, view_core-Give, view_core-Claim, view_core-Scope)
