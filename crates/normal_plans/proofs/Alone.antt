-- Statements on operands, and values that go nowhere or to a variable.
use Rattle.std.proofs.Common.{◌≡◌, ℕ, Bool, true, false, ◌||◌, if◌then◌else◌, List, [], ◌∷◌, length, Option, Some, None, refl, sym, ap, ◌∙◌, subst, arith}
use Rattle.typed_prog.specs.declared.types.CoreType.{CoreType}
use Rattle.typed_prog.specs.declared.operators.Path.{Path}
use Rattle.typed_prog.specs.declared.operators.Effect.TheVariants as effect
use Rattle.typed_prog.specs.declared.tree.Value.{Value}
use Rattle.typed_prog.specs.Tree as t
use Rattle.typed_prog.specs.View.{view_value, view_values}
use Rattle.c_runs.specs.Program.{Variable}
use Rattle.c_runs.specs.Values.{have_effect}
use Rattle.c_runs.specs.Core as c
use Rattle.core_trees.specs.declared.statements.Core.{Core}
use Rattle.core_trees.specs.declared.statements.Core.TheVariants as core
use Rattle.core_trees.specs.declared.statements.Target.{Target}
use Rattle.core_trees.specs.declared.statements.Target.TheVariants as target
use Rattle.core_trees.proofs.Equations.{view_core-Call, view_core-Start}
use Rattle.core_trees.specs.View.{view_core, view_cores, view_target}
use Rattle.c_runs.specs.Plans.{Made, Mades, kept, save, no_value, need, pures, operands, first_plan, planned}
use Rattle.c_runs.specs.Normal.{Did, is_temp, dropped, called_into, plain_store, called_to, stored, started}
use Rattle.normal_steps.specs.Into.{MadeInto, MadesInto, DidInto}
use Rattle.normal_steps.proofs.Joins.{join_twice}
use Rattle.normal_plans.specs.Calls.{call_in, starting}

abbrev put_one : List Core → c.Core → c.Cores
put_one old s = c.join (view_cores old) (c.one s)

pub operands_done : (old mid new : List Core) (xs : List Variable) (es : t.Values) (first : ℕ → Made) (d : Value) (ks : List Value) (k n n' : ℕ) → MadeInto old mid (first k) d n → MadesInto mid new (pures xs (view_value d) es n) ks n'
    → MadesInto old new (operands xs es first k) ks n'
operands_done old mid new xs es first d ks k n n' h g =
    let m = first k in
    let y = pures xs m.value es m.next_temp in
    let g' : MadesInto mid new y ks n' = subst (λ e. MadesInto mid new (pures xs e es m.next_temp) ks n') h.value_is (subst (λ n. MadesInto mid new (pures xs (view_value d) es n) ks n') h.next_is g) in
    record { pushed = join_twice (view_cores old) (view_cores mid) (view_cores new) m.before y.before h.pushed g'.pushed; values_are = g'.values_are; next_is = g'.next_is }

pub plain_store_done : (old mid new : List Core) (xs : List Variable) (type : CoreType) (l : ℕ) (path : Path) (y : Mades) (vs : List Value) (n : ℕ) → MadesInto old mid y vs n
    → view_cores new ≡ c.join (view_cores mid) (c.one (c.store type l path (t.values_of (view_values vs)))) → DidInto old new (plain_store xs type l path y) n
plain_store_done old mid new xs type l path y vs n h p = record {
  pushed = join_twice (view_cores old) (view_cores mid) (view_cores new) y.before (c.one (c.store type l path y.values)) h.pushed (p ∙ ap (λ es. put_one mid (c.store type l path es)) h.values_are);
  next_is = h.next_is;
}

pub call_done : (old mid new : List Core) (to : Target) (f l : ℕ) (y : Mades) (vs : List Value) (n : ℕ) → MadesInto old mid y vs n → view_cores new ≡ c.join (view_cores mid) (c.one (view_core (core.Call to f l vs)))
    → DidInto old new (called_into (view_target to) l f y) n
call_done old mid new to f l y vs n h p = record {
  pushed = join_twice (view_cores old) (view_cores mid) (view_cores new) y.before (c.one (c.call (view_target to) f l y.values)) h.pushed (p ∙ ap (put_one mid) (view_core-Call to f l vs ∙ ap (c.call (view_target to) f l) h.values_are));
  next_is = h.next_is;
}

pub place_is : (old new : List Core) (xs : List Variable) (type : CoreType) (l : ℕ) (path : Path) (none : Value) (es : t.Values) (way : List Value) (n n' : ℕ) → view_value none ≡ no_value → MadesInto old new (pures xs (view_value none) es n) way n'
    → view_target (target.Place type l path way) ≡ c.place type l path (pures xs no_value es n).values
place_is old new xs type l path none es way n n' e h = ap (c.place type l path) (h.values_are ∙ ap (λ d. (pures xs d es n).values) e)

pub called_to_done : (old new : List Core) (xs : List Variable) (type : CoreType) (l : ℕ) (path : Path) (k f : ℕ) (args es : t.Values) (n n' : ℕ) (to : Target) → view_target to ≡ c.place type l path (pures xs no_value es n).values
    → DidInto old new (called_into (view_target to) k f (operands xs args (first_plan xs args) n)) n' → DidInto old new (called_to xs type l path k f args es n) n'
called_to_done old new xs type l path k f args es n n' to e h = subst (λ to. DidInto old new (called_into to k f (operands xs args (first_plan xs args) n)) n') e h

pub updating_done : (old new : List Core) (xs : List Variable) (type : CoreType) (l : ℕ) (path : Path) (es fs : t.Values) (first : ℕ → Made) (n n' : ℕ) → es ≡ fs → DidInto old new (plain_store xs type l path (operands xs es first n)) n'
    → DidInto old new (plain_store xs type l path (operands xs fs first n)) n'
updating_done old new xs type l path es fs first n n' e h = subst (λ es. DidInto old new (plain_store xs type l path (operands xs es first n)) n') e h

-- ---- a value that isn't wanted

pub dropped_kept : (old new : List Core) (m : Made) (v : Value) (n : ℕ) (temp : Bool) → MadeInto old new m v n → temp ≡ is_temp (view_value v) → temp ≡ true → DidInto old new (dropped m) n
dropped_kept old new m v n temp h e g =
    let there : is_temp m.value ≡ true = sym (ap is_temp h.value_is) ∙ sym e ∙ g in
    rw there (record { pushed = h.pushed; next_is = h.next_is })

pub dropped_saved : (old mid new : List Core) (m : Made) (v w : Value) (n n' : ℕ) (temp : Bool) → MadeInto old mid m v n → temp ≡ is_temp (view_value v) → temp ≡ false → MadeInto mid new (save (kept (view_value v) n)) w n' → DidInto old new (dropped m) n'
dropped_saved old mid new m v w n n' temp h e g s =
    let there : is_temp m.value ≡ false = sym (ap is_temp h.value_is) ∙ sym e ∙ g in
    let s' : MadeInto mid new (save (kept m.value m.next_temp)) w n' = subst (λ e. MadeInto mid new (save (kept e m.next_temp)) w n') h.value_is (subst (λ n. MadeInto mid new (save (kept (view_value v) n)) w n') h.next_is s) in
    rw there (record { pushed = join_twice (view_cores old) (view_cores mid) (view_cores new) m.before (c.one (c.set m.next_temp m.value)) h.pushed s'.pushed; next_is = s'.next_is })

-- ---- declared variables

pub starting_done : (old mid new : List Core) (x : ℕ) (m : Made) (v : Value) (n : ℕ) → MadeInto old mid m v n → view_cores new ≡ c.join (view_cores mid) (c.one (view_core (core.Start x v))) → DidInto old new (starting x m) n
starting_done old mid new x m v n h p = record {
  pushed = join_twice (view_cores old) (view_cores mid) (view_cores new) m.before (c.one (c.start x m.value)) h.pushed (p ∙ ap (put_one mid) (view_core-Start x v ∙ ap (c.start x) h.value_is));
  next_is = h.next_is;
}

-- by whether it is a call
abbrev started_by : List Variable → (x : ℕ) → t.Value → ℕ → Option (ℕ × t.Values) → Did
started_by xs x e n (Some call) = called_into (c.variable x) (t.line_of e) call.0 (operands xs call.1 (first_plan xs call.1) n)
started_by xs x e n None = starting x ((planned xs e).made n)

started_is : (xs : List Variable) (x : ℕ) (e : t.Value) (n : ℕ) → started xs x e n ≡ started_by xs x e n (call_in e)
started_is xs x (t.typed (t.constant z) type l) n = refl
started_is xs x (t.typed t.null type l) n = refl
started_is xs x (t.typed (t.temporary k) type l) n = refl
started_is xs x (t.typed (t.apply o es) type l) n = refl
started_is xs x (t.typed (t.logic how a b) type l) n = refl
started_is xs x (t.typed (t.choose q a b) type l) n = refl
started_is xs x (t.typed (t.effect (effect.Assign path) es) type l) n = refl
started_is xs x (t.typed (t.effect (effect.Update path by form) es) type l) n = refl
started_is xs x (t.typed (t.effect (effect.Call f) es) type l) n = refl

pub started_call : (old new : List Core) (xs : List Variable) (x : ℕ) (e : t.Value) (n n' f : ℕ) (es : t.Values) → Some (f, es) ≡ call_in e → DidInto old new (called_into (c.variable x) (t.line_of e) f (operands xs es (first_plan xs es) n)) n'
    → DidInto old new (started xs x e n) n'
started_call old new xs x e n n' f es h d = subst (λ x. DidInto old new x n') (ap (started_by xs x e n) h ∙ sym (started_is xs x e n)) d

pub started_value : (old new : List Core) (xs : List Variable) (x : ℕ) (e : t.Value) (n n' : ℕ) → None ≡ call_in e → DidInto old new (starting x ((planned xs e).made n)) n' → DidInto old new (started xs x e n) n'
started_value old new xs x e n n' h d = subst (λ x. DidInto old new x n') (ap (started_by xs x e n) h ∙ sym (started_is xs x e n)) d

-- ---- assignments

abbrev plain : List Variable → CoreType → ℕ → Path → t.Values → ℕ → Did
plain xs type l path es n = plain_store xs type l path (operands xs es (first_plan xs es) n)

abbrev stored_by : List Variable → CoreType → (line : ℕ) → Path → t.Value → t.Values → ℕ → Option (ℕ × t.Values) → (busy : Bool) → Did
stored_by xs type l path e es n (Some call) busy = if busy then plain xs type l path (t.more e es) n else called_to xs type l path (t.line_of e) call.0 call.1 es n
stored_by xs type l path e es n None busy = plain xs type l path (t.more e es) n

stored_is : (xs : List Variable) (type : CoreType) (l : ℕ) (path : Path) (e : t.Value) (es : t.Values) (n : ℕ) → stored xs type l path (t.more e es) n ≡ stored_by xs type l path e es n (call_in e) (need es || have_effect es)
stored_is xs type l path (t.typed (t.constant z) u k) es n = refl
stored_is xs type l path (t.typed t.null u k) es n = refl
stored_is xs type l path (t.typed (t.temporary j) u k) es n = refl
stored_is xs type l path (t.typed (t.apply o as_) u k) es n = refl
stored_is xs type l path (t.typed (t.logic how a b) u k) es n = refl
stored_is xs type l path (t.typed (t.choose q a b) u k) es n = refl
stored_is xs type l path (t.typed (t.effect (effect.Assign p) as_) u k) es n = refl
stored_is xs type l path (t.typed (t.effect (effect.Update p by form) as_) u k) es n = refl
stored_is xs type l path (t.typed (t.effect (effect.Call f) as_) u k) es n = refl

abbrev all_of : List Value → t.Values
all_of vs = t.values_of (view_values vs)

pub stored_none : (old new : List Core) (xs : List Variable) (type : CoreType) (l : ℕ) (path : Path) (vs : List Value) (n n' : ℕ) → length vs ≡ 0 → DidInto old new (plain xs type l path (all_of vs) n) n' → DidInto old new (stored xs type l path (all_of vs) n) n'
stored_none old new xs type l path [] n n' e d = d
stored_none old new xs type l path (v ∷ vs) n n' e d = absurd (omega (arith, e))

pub stored_plain : (old new : List Core) (xs : List Variable) (type : CoreType) (l : ℕ) (path : Path) (vs : List Value) (v : Value) (others : List Value) (n n' : ℕ) → vs ≡ v ∷ others → None ≡ call_in (view_value v)
    → DidInto old new (plain xs type l path (all_of vs) n) n' → DidInto old new (stored xs type l path (all_of vs) n) n'
stored_plain old new xs type l path vs v others n n' e h d =
    let es = all_of others in
    let busy = need es || have_effect es in
    let same : plain xs type l path (t.more (view_value v) es) n ≡ stored xs type l path (t.more (view_value v) es) n =
    ap (λ o. stored_by xs type l path (view_value v) es n o busy) h ∙ sym (stored_is xs type l path (view_value v) es n) in
    let d' : DidInto old new (plain xs type l path (t.more (view_value v) es) n) n' = subst (λ vs. DidInto old new (plain xs type l path (all_of vs) n) n') e d in
    subst (λ vs. DidInto old new (stored xs type l path (all_of vs) n) n') (sym e) (subst (λ x. DidInto old new x n') same d')

pub stored_busy : (old new : List Core) (xs : List Variable) (type : CoreType) (l : ℕ) (path : Path) (vs : List Value) (v : Value) (others : List Value) (n n' f : ℕ) (es : t.Values) → vs ≡ v ∷ others → Some (f, es) ≡ call_in (view_value v)
    → (need (all_of others) || have_effect (all_of others)) ≡ true → DidInto old new (plain xs type l path (all_of vs) n) n' → DidInto old new (stored xs type l path (all_of vs) n) n'
stored_busy old new xs type l path vs v others n n' f es e h b d =
    let rest = all_of others in
    let call : Option (ℕ × t.Values) = Some (f, es) in
    let same : plain xs type l path (t.more (view_value v) rest) n ≡ stored xs type l path (t.more (view_value v) rest) n =
    sym (ap (stored_by xs type l path (view_value v) rest n call) b) ∙ ap (λ o. stored_by xs type l path (view_value v) rest n o (need rest || have_effect rest)) h ∙ sym (stored_is xs type l path (view_value v) rest n) in
    let d' : DidInto old new (plain xs type l path (t.more (view_value v) rest) n) n' = subst (λ vs. DidInto old new (plain xs type l path (all_of vs) n) n') e d in
    subst (λ vs. DidInto old new (stored xs type l path (all_of vs) n) n') (sym e) (subst (λ x. DidInto old new x n') same d')

pub stored_call : (old new : List Core) (xs : List Variable) (type : CoreType) (l : ℕ) (path : Path) (vs : List Value) (v : Value) (others : List Value) (n n' f : ℕ) (es : t.Values) → vs ≡ v ∷ others → Some (f, es) ≡ call_in (view_value v)
    → (need (all_of others) || have_effect (all_of others)) ≡ false → DidInto old new (called_to xs type l path (t.line_of (view_value v)) f es (all_of others) n) n' → DidInto old new (stored xs type l path (all_of vs) n) n'
stored_call old new xs type l path vs v others n n' f es e h b d =
    let rest = all_of others in
    let call : Option (ℕ × t.Values) = Some (f, es) in
    let same : called_to xs type l path (t.line_of (view_value v)) f es rest n ≡ stored xs type l path (t.more (view_value v) rest) n =
    sym (ap (stored_by xs type l path (view_value v) rest n call) b) ∙ ap (λ o. stored_by xs type l path (view_value v) rest n o (need rest || have_effect rest)) h ∙ sym (stored_is xs type l path (view_value v) rest n) in
    subst (λ vs. DidInto old new (stored xs type l path (all_of vs) n) n') (sym e) (subst (λ x. DidInto old new x n') same d)
