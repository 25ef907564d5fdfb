-- Effects come behind what is first in their operands.
use Rattle.std.proofs.Common.{◌≡◌, ℕ, List, refl, sym, ap, subst}
use Rattle.typed_prog.specs.declared.types.CoreType.{CoreType}
use Rattle.typed_prog.specs.declared.operators.Path.{Path}
use Rattle.typed_prog.specs.declared.operators.Change.{Change}
use Rattle.typed_prog.specs.declared.operators.UpdateForm.{UpdateForm}
use Rattle.typed_prog.specs.declared.operators.UpdateForm.TheVariants as form
use Rattle.typed_prog.specs.declared.operators.Effect.{Effect}
use Rattle.typed_prog.specs.declared.operators.Effect.TheVariants as effect
use Rattle.typed_prog.specs.declared.tree.Value.{Value}
use Rattle.typed_prog.specs.Tree as t
use Rattle.typed_prog.specs.View.{view_value}
use Rattle.c_runs.specs.Program.{Variable}
use Rattle.c_runs.specs.Run.{updating}
use Rattle.c_runs.specs.Core as c
use Rattle.core_trees.specs.declared.statements.Core.{Core}
use Rattle.core_trees.specs.View.{view_cores}
use Rattle.c_runs.specs.Plans.{Made, Sent, kept, after, save, pure, pures, put_before, assigned_made, update_made, effect_plan}
use Rattle.normal_steps.specs.declared.puts.Put.{Put}
use Rattle.normal_steps.specs.Into.{MadeInto, SentInto}
use Rattle.normal_steps.proofs.Joins.{join_assoc, join_twice}

-- statements in front of others
abbrev with_before : Made → c.Cores → Made
with_before m ss = record m { before = ss }

assigned_behind : (xs : List Variable) (type : CoreType) (l : ℕ) (path : Path) (es : t.Values) (first : ℕ → Made) (n : ℕ)
    → assigned_made xs type l path es first n ≡ after (first n) (assigned_made xs type l path es (kept (first n).value) (first n).next_temp)
assigned_behind xs type l path t.stop first n =
    let m = first n in
    let stmt = c.one (c.store type l path t.stop) in
    ap (with_before (after m (assigned_made xs type l path t.stop (kept m.value) m.next_temp))) (join_assoc m.before c.end stmt)
assigned_behind xs type l path (t.more e es) first n =
    let m = first n in
    let x = save ((pure xs m.value e).made m.next_temp) in
    let y = put_before x (pures xs m.value es x.next_temp) in
    let stmt = c.one (c.store type l path y.values) in
    ap (with_before (after m (assigned_made xs type l path (t.more e es) (kept m.value) m.next_temp))) (join_assoc m.before y.before stmt)

update_behind : (xs : List Variable) (type : CoreType) (l : ℕ) (path : Path) (by : Change) (f : UpdateForm) (es : t.Values) (first : ℕ → Made) (n : ℕ)
    → update_made xs type l path by f es first n ≡ after (first n) (update_made xs type l path by f es (kept (first n).value) (first n).next_temp)
update_behind xs type l path by form.Postfix es first n = refl
update_behind xs type l path by form.Compound es first n = assigned_behind xs type l path (updating path by type l es) first n
update_behind xs type l path by form.Prefix es first n = assigned_behind xs type l path (updating path by type l es) first n

call_behind : (xs : List Variable) (type : CoreType) (l f : ℕ) (es : t.Values) (first : ℕ → Made) (n : ℕ)
    → (effect_plan xs type l (effect.Call f) es first).made n ≡ after (first n) ((effect_plan xs type l (effect.Call f) es (kept (first n).value)).made (first n).next_temp)
call_behind xs type l f es first n =
    let m = first n in
    let y = pures xs m.value es m.next_temp in
    let stmt = c.one (c.call (c.temporary y.next_temp) f l y.values) in
    ap (with_before (after m ((effect_plan xs type l (effect.Call f) es (kept m.value)).made m.next_temp))) (join_assoc m.before y.before stmt)

effect_behind : (xs : List Variable) (type : CoreType) (l : ℕ) (e : Effect) (es : t.Values) (first : ℕ → Made) (n : ℕ)
    → (effect_plan xs type l e es first).made n ≡ after (first n) ((effect_plan xs type l e es (kept (first n).value)).made (first n).next_temp)
effect_behind xs type l (effect.Assign path) es first n = assigned_behind xs type l path es first n
effect_behind xs type l (effect.Update path by f) es first n = update_behind xs type l path by f es first n
effect_behind xs type l (effect.Call f) es first n = call_behind xs type l f es first n

-- ---- in the words of the code

-- what is made behind what comes first
pub made_after : (old mid new : List Core) (m : Made) (f : t.Value → ℕ → Made) (d w : Value) (n n' : ℕ) → MadeInto old mid m d n → MadeInto mid new (f (view_value d) n) w n' → MadeInto old new (after m (f m.value m.next_temp)) w n'
made_after old mid new m f d w n n' h g =
    let x = f m.value m.next_temp in
    let g' : MadeInto mid new x w n' = subst (λ e. MadeInto mid new (f e m.next_temp) w n') h.value_is (subst (λ n. MadeInto mid new (f (view_value d) n) w n') h.next_is g) in
    record { pushed = join_twice (view_cores old) (view_cores mid) (view_cores new) m.before x.before h.pushed g'.pushed; value_is = g'.value_is; next_is = g'.next_is }

pub effect_done : (old mid new : List Core) (xs : List Variable) (type : CoreType) (l : ℕ) (e : Effect) (es : t.Values) (first : ℕ → Made) (d w : Value) (k n n' : ℕ) → MadeInto old mid (first k) d n
    → MadeInto mid new ((effect_plan xs type l e es (kept (view_value d))).made n) w n' → MadeInto old new ((effect_plan xs type l e es first).made k) w n'
effect_done old mid new xs type l e es first d w k n n' h g =
    subst (λ m. MadeInto old new m w n') (sym (effect_behind xs type l e es first k)) (made_after old mid new (first k) (λ d n. (effect_plan xs type l e es (kept d)).made n) d w n n' h g)

-- what goes to a temporary, behind what comes first
abbrev sent_after : Made → Sent → Sent
sent_after m s = record s { before = c.join m.before s.before }

abbrev sent_before : Sent → c.Cores → Sent
sent_before s ss = record s { before = ss }

sent_behind : (xs : List Variable) (type : CoreType) (l : ℕ) (e : Effect) (es : t.Values) (first : ℕ → Made) (n : ℕ)
    → (effect_plan xs type l e es first).sent n ≡ sent_after (first n) ((effect_plan xs type l e es (kept (first n).value)).sent (first n).next_temp)
sent_behind xs type l (effect.Assign path) es first n = ap (λ (m : Made). let x : Sent = record { before = m.before; put = λ k. c.set k m.value; next_temp = m.next_temp } in x) (assigned_behind xs type l path es first n)
sent_behind xs type l (effect.Update path by f) es first n = ap (λ (m : Made). let x : Sent = record { before = m.before; put = λ k. c.set k m.value; next_temp = m.next_temp } in x) (update_behind xs type l path by f es first n)
sent_behind xs type l (effect.Call f) es first n = refl

pub effect_sent_done : (old mid new : List Core) (xs : List Variable) (type : CoreType) (l : ℕ) (e : Effect) (es : t.Values) (first : ℕ → Made) (d : Value) (sent : Put) (k n n' : ℕ) → MadeInto old mid (first k) d n
    → SentInto mid new ((effect_plan xs type l e es (kept (view_value d))).sent n) sent n' → SentInto old new ((effect_plan xs type l e es first).sent k) sent n'
effect_sent_done old mid new xs type l e es first d sent k n n' h g =
    let m = first k in
    let f : t.Value → ℕ → Sent = λ d n. (effect_plan xs type l e es (kept d)).sent n in
    let x = f m.value m.next_temp in
    let g' : SentInto mid new x sent n' = subst (λ e. SentInto mid new (f e m.next_temp) sent n') h.value_is (subst (λ n. SentInto mid new (f (view_value d) n) sent n') h.next_is g) in
    let whole : SentInto old new (sent_after m x) sent n' = record { pushed = join_twice (view_cores old) (view_cores mid) (view_cores new) m.before x.before h.pushed g'.pushed; put_is = g'.put_is; next_is = g'.next_is } in
    subst (λ s. SentInto old new s sent n') (sym (sent_behind xs type l e es first k)) whole
