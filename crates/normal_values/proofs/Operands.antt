-- Operands, one after another.
use Rattle.std.proofs.Common.{◌≡◌, ◌<◌, ◌≤◌, ◌+◌, ℕ, Bool, true, false, ◌&&◌, if◌then◌else◌, List, [], ◌∷◌, ◌++◌, length, drop, get_or, refl, sym, ap, ◌∙◌, subst}
use Rattle.std.proofs.lemmas.List.{at_drop_more, at_drop_all}
use Rattle.typed_prog.specs.declared.tree.Value.{Value}
use Rattle.typed_prog.specs.Tree as t
use Rattle.typed_prog.specs.View.{view_value, view_values}
use Rattle.c_runs.specs.Core as c
use Rattle.core_trees.specs.declared.statements.Core.{Core}
use Rattle.core_trees.specs.View.{view_cores}
use Rattle.c_runs.specs.Program.{Variable}
use Rattle.c_runs.specs.Checks.{has_checks}
use Rattle.c_runs.specs.Plans.{Made, Mades, kept, save, save_if, need, pure, pures}
use Rattle.normal_steps.specs.Into.{MadeInto, MadesInto}
use Rattle.normal_steps.proofs.Joins.{join_end, join_assoc, join_twice}

-- operands so far in front of others
abbrev pub put_all : List Value → t.Values → t.Values
put_all [] es = es
put_all (k ∷ ks) es = t.more (view_value k) (put_all ks es)

-- what was pushed for some operands, and what will be for the rest, is the whole
pub record RestInto (old now : List Core) (operands : List Value) (rest whole : Mades) : Type 0 where
  pub pushed : c.join (view_cores now) rest.before ≡ c.join (view_cores old) whole.before
  pub values_are : put_all operands rest.values ≡ whole.values
  pub next_is : rest.next_temp ≡ whole.next_temp

-- a value that was made, and then perhaps saved
pub save_after : (old mid new : List Core) (xs : List Variable) (needed : Bool) (m : Made) (v w : Value) (n n' : ℕ) → MadeInto old mid m v n → MadeInto mid new (save_if xs needed (kept (view_value v) n)) w n' → MadeInto old new (save_if xs needed m) w n'
save_after old mid new xs needed m v w n n' h g =
    let g0 : MadeInto mid new (save_if xs needed (kept (view_value v) m.next_temp)) w n' = subst (λ n. MadeInto mid new (save_if xs needed (kept (view_value v) n)) w n') h.next_is g in
    let g1 : MadeInto mid new (save_if xs needed (kept m.value m.next_temp)) w n' = subst (λ e. MadeInto mid new (save_if xs needed (kept e m.next_temp)) w n') h.value_is g0 in
    elim (needed && has_checks xs m.value) as (λ b. MadeInto mid new (if b then save (kept m.value m.next_temp) else kept m.value m.next_temp) w n' → MadeInto old new (if b then save m else m) w n') [
      | true ↦ (λ q. record { pushed = join_twice (view_cores old) (view_cores mid) (view_cores new) m.before (c.one (c.set m.next_temp m.value)) h.pushed q.pushed; value_is = q.value_is; next_is = q.next_is })
      | false ↦ (λ q. record { pushed = q.pushed ∙ join_end (view_cores mid) ∙ h.pushed; value_is = q.value_is; next_is = q.next_is })
    ] g1

put_more : (ks : List Value) (k : Value) (es : t.Values) → put_all (ks ++ k ∷ []) es ≡ put_all ks (t.more (view_value k) es)
put_more [] k es = refl
put_more (x ∷ ks) k es = ap (t.more (view_value x)) (put_more ks k es)

put_none : (ks : List Value) → put_all ks t.stop ≡ t.values_of (view_values ks)
put_none [] = refl
put_none (x ∷ ks) = ap (t.more (view_value x)) (put_none ks)

-- one more operand
rest_turn : (old now new : List Core) (xs : List Variable) (ks ks' : List Value) (d e : t.Value) (es : t.Values) (n n' : ℕ) (k : Value) (whole : Mades) → RestInto old now ks (pures xs d (t.more e es) n) whole
    → MadeInto now new (save_if xs (need es) ((pure xs d e).made n)) k n' → ks' ≡ ks ++ k ∷ [] → RestInto old new ks' (pures xs d es n') whole
rest_turn old now new xs ks ks' d e es n n' k whole h g more =
    let x = save_if xs (need es) ((pure xs d e).made n) in
    let y = pures xs d es x.next_temp in
    subst (λ n. RestInto old new ks' (pures xs d es n) whole) (sym g.next_is)
    (record {
      pushed = ap (λ z. c.join z y.before) g.pushed ∙ join_assoc (view_cores now) x.before y.before ∙ h.pushed;
      values_are = ap (λ ks. put_all ks y.values) more ∙ put_more ks k y.values ∙ ap (λ e. put_all ks (t.more e y.values)) g.value_is ∙ h.values_are;
      next_is = h.next_is;
    })

rest_done : (old new : List Core) (ks : List Value) (xs : List Variable) (d : t.Value) (n : ℕ) (whole : Mades) → RestInto old new ks (pures xs d t.stop n) whole → MadesInto old new whole ks n
rest_done old new ks xs d n whole h = record {
  pushed = sym (join_end (view_cores new)) ∙ h.pushed;
  values_are = sym (put_none ks) ∙ h.values_are;
  next_is = h.next_is;
}

pub operands_begin : (old : List Core) (ks : List Value) (whole : Mades) → ks ≡ [] → RestInto old old ks whole whole
operands_begin old ks whole e = record { pushed = refl; values_are = ap (λ ks. put_all ks whole.values) e; next_is = refl }

-- one turn over operands
pub operand_turn : (old now mid new : List Core) (xs : List Variable) (ks ks' items : List Value) (d : t.Value) (i at n used n' : ℕ) (item v k : Value) (whole : Mades) → i < length items → item ≡ get_or items i item → at ≡ i + 1
    → RestInto old now ks (pures xs d (t.values_of (view_values (drop i items))) n) whole → MadeInto now mid ((pure xs d (view_value item)).made n) v used
    → MadeInto mid new (save_if xs (need (t.values_of (view_values (drop at items)))) (kept (view_value v) used)) k n' → ks' ≡ ks ++ k ∷ [] → RestInto old new ks' (pures xs d (t.values_of (view_values (drop (i + 1) items))) n') whole
operand_turn old now mid new xs ks ks' items d i at n used n' item v k whole lt is counted h m s more =
    let rest = t.values_of (view_values (drop (i + 1) items)) in
    let first : pures xs d (t.values_of (view_values (drop i items))) n ≡ pures xs d (t.more (view_value item) rest) n =
    at_drop_more (λ zs. pures xs d (t.values_of (view_values zs)) n) items i item lt ∙ ap (λ (z : Value). pures xs d (t.more (view_value z) rest) n) (sym is) in
    let s' : MadeInto mid new (save_if xs (need rest) (kept (view_value v) used)) k n' = subst (λ j. MadeInto mid new (save_if xs (need (t.values_of (view_values (drop j items)))) (kept (view_value v) used)) k n') counted s in
    rest_turn old now new xs ks ks' d (view_value item) rest n n' k whole (subst (λ r. RestInto old now ks r whole) first h) (save_after now mid new xs (need rest) ((pure xs d (view_value item)).made n) v k used n' m s') more

pub operands_done : (old new : List Core) (xs : List Variable) (ks items : List Value) (d : t.Value) (i n : ℕ) (whole : Mades) → length items ≤ i → RestInto old new ks (pures xs d (t.values_of (view_values (drop i items))) n) whole → MadesInto old new whole ks n
operands_done old new xs ks items d i n whole le h =
    rest_done old new ks xs d n whole (subst (λ r. RestInto old new ks r whole) (at_drop_all (λ zs. pures xs d (t.values_of (view_values zs)) n) items i le) h)
