-- Assignments and increments.
use Rattle.std.proofs.Common.{◌≡◌, ℕ, Bool, List, [], ◌∷◌, length, arith, refl, sym, ap, ◌∙◌, subst}
use Rattle.typed_prog.specs.declared.types.CoreType.{CoreType}
use Rattle.typed_prog.specs.declared.operators.Path.{Path}
use Rattle.typed_prog.specs.declared.operators.Change.{Change}
use Rattle.typed_prog.specs.declared.tree.Value.{Value}
use Rattle.typed_prog.specs.Tree as t
use Rattle.typed_prog.specs.View.{view_value, view_values}
use Rattle.c_runs.specs.Program.{Variable}
use Rattle.c_runs.specs.Effects.{changed}
use Rattle.c_runs.specs.Run.{old_value, first_operand, other_operands}
use Rattle.c_runs.specs.Core as c
use Rattle.core_trees.specs.declared.statements.Core.{Core}
use Rattle.core_trees.specs.View.{view_cores}
use Rattle.c_runs.specs.Plans.{Made, kept, save, save_if, need, pure, pures, put_before, no_value, stored_made, assigned_made, changed_made, postfix_made}
use Rattle.normal_steps.specs.Into.{MadeInto, MadesInto, DidInto}
use Rattle.normal_steps.proofs.Joins.{join_end, join_assoc, join_twice}
use Rattle.normal_values.proofs.Operands.{save_after}
use Rattle.normal_effects.specs.Stored.{stored_behind}

abbrev put_one : List Core → c.Core → c.Cores
put_one old s = c.join (view_cores old) (c.one s)

pub stored_done : (old mid new : List Core) (xs : List Variable) (type : CoreType) (l : ℕ) (path : Path) (v : Value) (d : t.Value) (es : t.Values) (n n' : ℕ) (way values : List Value) → MadesInto old mid (pures xs d es n) way n'
    → values ≡ v ∷ way → view_cores new ≡ c.join (view_cores mid) (c.one (c.store type l path (t.values_of (view_values values)))) → DidInto old new (stored_behind xs type l path (view_value v) d es n) n'
stored_done old mid new xs type l path v d es n n' way values h e p =
    let y = pures xs d es n in
    let values_are : t.values_of (view_values values) ≡ t.more (view_value v) y.values = ap (λ zs. t.values_of (view_values zs)) e ∙ ap (t.more (view_value v)) h.values_are in
    record {
      pushed = join_twice (view_cores old) (view_cores mid) (view_cores new) y.before (c.one (c.store type l path (t.more (view_value v) y.values))) h.pushed (p ∙ ap (λ zs. put_one mid (c.store type l path zs)) values_are);
      next_is = h.next_is;
    }

-- the same behind a value that was made
store_behind : (old mid new : List Core) (xs : List Variable) (type : CoreType) (l : ℕ) (path : Path) (m : Made) (v : Value) (d : t.Value) (es : t.Values) (n n' : ℕ) → MadeInto old mid m v n
    → DidInto mid new (stored_behind xs type l path (view_value v) d es n) n' → DidInto mid new (stored_behind xs type l path m.value d es m.next_temp) n'
store_behind old mid new xs type l path m v d es n n' h g =
    subst (λ e. DidInto mid new (stored_behind xs type l path e d es m.next_temp) n') h.value_is (subst (λ n. DidInto mid new (stored_behind xs type l path (view_value v) d es n) n') h.next_is g)

-- a value that was made, and what is made behind it
made_behind : (old mid new : List Core) (m : Made) (f : t.Value → ℕ → Made) (v w : Value) (n n' : ℕ) → MadeInto old mid m v n → MadeInto mid new (f (view_value v) n) w n' → MadeInto mid new (f m.value m.next_temp) w n'
made_behind old mid new m f v w n n' h g = subst (λ e. MadeInto mid new (f e m.next_temp) w n') h.value_is (subst (λ n. MadeInto mid new (f (view_value v) n) w n') h.next_is g)

saved_behind : (old mid new : List Core) (m : Made) (v w : Value) (n n' : ℕ) → MadeInto old mid m v n → MadeInto mid new (save (kept (view_value v) n)) w n' → MadeInto old new (save m) w n'
saved_behind old mid new m v w n n' h g =
    let g' : MadeInto mid new (save (kept m.value m.next_temp)) w n' = made_behind old mid new m (λ e n. save (kept e n)) v w n n' h g in
    record { pushed = join_twice (view_cores old) (view_cores mid) (view_cores new) m.before (c.one (c.set m.next_temp m.value)) h.pushed g'.pushed; value_is = g'.value_is; next_is = g'.next_is }

pub assigned_done : (old mid1 mid2 new : List Core) (xs : List Variable) (type : CoreType) (l : ℕ) (path : Path) (m : Made) (v1 v2 w : Value) (d : t.Value) (es : t.Values) (n1 n2 n' : ℕ) → MadeInto old mid1 m v1 n1
    → MadeInto mid1 mid2 (save (kept (view_value v1) n1)) v2 n2 → w ≡ v2 → DidInto mid2 new (stored_behind xs type l path (view_value v2) d es n2) n'
    → MadeInto old new (stored_made type l path (put_before (save m) (pures xs d es (save m).next_temp))) w n'
assigned_done old mid1 mid2 new xs type l path m v1 v2 w d es n1 n2 n' h g same s =
    let x = save m in
    let hx : MadeInto old mid2 x v2 n2 = saved_behind old mid1 mid2 m v1 v2 n1 n2 h g in
    let s' : DidInto mid2 new (stored_behind xs type l path x.value d es x.next_temp) n' = store_behind old mid2 new xs type l path x v2 d es n2 n' hx s in
    let y = pures xs d es x.next_temp in
    let stmt = c.one (c.store type l path (t.more x.value y.values)) in
    record {
      pushed = join_twice (view_cores old) (view_cores mid2) (view_cores new) x.before (c.join y.before stmt) hx.pushed s'.pushed ∙ ap (c.join (view_cores old)) (sym (join_assoc x.before y.before stmt));
      value_is = ap view_value same ∙ hx.value_is;
      next_is = s'.next_is;
    }

pub none_stored : (old new : List Core) (type : CoreType) (l n : ℕ) (path : Path) (none : List Value) (w : Value) → none ≡ [] → view_cores new ≡ c.join (view_cores old) (c.one (c.store type l path (t.values_of (view_values none))))
    → view_value w ≡ no_value → MadeInto old new (stored_made type l path (record { before = c.end; values = t.stop; next_temp = n })) w n
none_stored old new type l n path none w e p v = record { pushed = p ∙ ap (λ zs. put_one old (c.store type l path (t.values_of (view_values zs)))) e; value_is = v; next_is = refl }

pub updated_done : (old new : List Core) (xs : List Variable) (type : CoreType) (l : ℕ) (path : Path) (es fs : t.Values) (first : ℕ → Made) (n n' : ℕ) (w : Value) → es ≡ fs → MadeInto old new (assigned_made xs type l path es first n) w n'
    → MadeInto old new (assigned_made xs type l path fs first n) w n'
updated_done old new xs type l path es fs first n n' w e h = subst (λ es. MadeInto old new (assigned_made xs type l path es first n) w n') e h

-- ---- increments

pub none_made : (old : List Core) (xs : List Variable) (d : t.Value) (es : List Value) (n : ℕ) (w : Value) → length es ≡ 0 → view_value w ≡ no_value
    → MadeInto old old ((pure xs d (first_operand (t.values_of (view_values es)))).made n) w n
none_made old xs d [] n w e v = record { pushed = sym (join_end (view_cores old)); value_is = v; next_is = refl }
none_made old xs d (x ∷ es) n w e v = absurd (omega (arith, e))

pub old_done : (old mid new : List Core) (xs : List Variable) (path : Path) (type : CoreType) (l : ℕ) (d : t.Value) (es : t.Values) (n n1 n' : ℕ) (way : List Value) (v w : Value) → MadesInto old mid (pures xs d es n) way n1
    → view_value v ≡ old_value path type l (t.values_of (view_values way)) → MadeInto mid new (save (kept (view_value v) n1)) w n' → MadeInto old new (save ((pure xs d (old_value path type l es)).made n)) w n'
old_done old mid new xs path type l d es n n1 n' way v w h e g =
    let m = (pure xs d (old_value path type l es)).made n in
    let hv : MadeInto old mid m v n1 = record { pushed = h.pushed; value_is = e ∙ ap (old_value path type l) h.values_are; next_is = h.next_is } in
    saved_behind old mid new m v w n1 n' hv g

pub new_done : (old mid new : List Core) (xs : List Variable) (by : Change) (type : CoreType) (l : ℕ) (needed : Bool) (rest es : t.Values) (m : Made) (before other v w : Value) (n1 n' : ℕ) → MadeInto old mid m other n1
    → view_value v ≡ changed by type l (view_value before) (view_value other) → rest ≡ other_operands es → needed ≡ need rest → MadeInto mid new (save_if xs needed (kept (view_value v) n1)) w n'
    → MadeInto old new (save_if xs (need (other_operands es)) (changed_made xs by type l (view_value before) m)) w n'
new_done old mid new xs by type l needed rest es m before other v w n1 n' h e r q g =
    let x = changed_made xs by type l (view_value before) m in
    let hx : MadeInto old mid x v n1 = record { pushed = h.pushed; value_is = e ∙ ap (changed by type l (view_value before)) h.value_is; next_is = h.next_is } in
    let same : needed ≡ need (other_operands es) = q ∙ ap need r in
    save_after old mid new xs (need (other_operands es)) x v w n1 n' hx (subst (λ b. MadeInto mid new (save_if xs b (kept (view_value v) n1)) w n') same g)

postfix_done : (old mid1 mid2 new : List Core) (xs : List Variable) (type : CoreType) (l : ℕ) (path : Path) (x : Made) (u : t.Value → ℕ → Made) (before value w : Value) (d : t.Value) (es : t.Values) (n1 n2 n' : ℕ) → MadeInto old mid1 x before n1
    → w ≡ before → MadeInto mid1 mid2 (u (view_value before) n1) value n2 → DidInto mid2 new (stored_behind xs type l path (view_value value) d es n2) n'
    → (let m = u x.value x.next_temp in let y = put_before m (pures xs d es m.next_temp) in MadeInto old new (record { before = c.join x.before (c.join y.before (c.one (c.store type l path y.values))); value = x.value; next_temp = y.next_temp }) w n')
postfix_done old mid1 mid2 new xs type l path x u before value w d es n1 n2 n' h same g s =
    let m = u x.value x.next_temp in
    let hm : MadeInto mid1 mid2 m value n2 = made_behind old mid1 mid2 x u before value n1 n2 h g in
    let s' : DidInto mid2 new (stored_behind xs type l path m.value d es m.next_temp) n' = store_behind mid1 mid2 new xs type l path m value d es n2 n' hm s in
    let y = pures xs d es m.next_temp in
    let stmt = c.one (c.store type l path (t.more m.value y.values)) in
    let inner : view_cores new ≡ c.join (view_cores mid1) (c.join (c.join m.before y.before) stmt) =
    join_twice (view_cores mid1) (view_cores mid2) (view_cores new) m.before (c.join y.before stmt) hm.pushed s'.pushed ∙ ap (c.join (view_cores mid1)) (sym (join_assoc m.before y.before stmt)) in
    record {
      pushed = join_twice (view_cores old) (view_cores mid1) (view_cores new) x.before (c.join (c.join m.before y.before) stmt) h.pushed inner;
      value_is = ap view_value same ∙ h.value_is;
      next_is = s'.next_is;
    }

-- the same in the words of the code
pub postfix_whole : (old mid1 mid2 new : List Core) (xs : List Variable) (type : CoreType) (l : ℕ) (path : Path) (by : Change) (d : t.Value) (rest es : t.Values) (n n1 n2 n' : ℕ) (before value w : Value) → rest ≡ other_operands es
    → MadeInto old mid1 (save ((pure xs d (old_value path type l rest)).made n)) before n1 → w ≡ before
    → MadeInto mid1 mid2 (save_if xs (need (other_operands es)) (changed_made xs by type l (view_value before) ((pure xs d (first_operand es)).made n1))) value n2 → DidInto mid2 new (stored_behind xs type l path (view_value value) d rest n2) n'
    → MadeInto old new (postfix_made xs type l path by es (kept d) n) w n'
postfix_whole old mid1 mid2 new xs type l path by d rest es n n1 n2 n' before value w e h same g s =
    let others = other_operands es in
    let h' : MadeInto old mid1 (save ((pure xs d (old_value path type l others)).made n)) before n1 = subst (λ es. MadeInto old mid1 (save ((pure xs d (old_value path type l es)).made n)) before n1) e h in
    let s' : DidInto mid2 new (stored_behind xs type l path (view_value value) d others n2) n' = subst (λ es. DidInto mid2 new (stored_behind xs type l path (view_value value) d es n2) n') e s in
    postfix_done old mid1 mid2 new xs type l path (save ((pure xs d (old_value path type l others)).made n)) (λ v k. save_if xs (need others) (changed_made xs by type l v ((pure xs d (first_operand es)).made k))) before value w d others n1 n2 n'
    h' same g s'
