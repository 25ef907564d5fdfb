-- Expressions as they are spelled.
use Rattle.std.proofs.Common.{◌≡◌, ℕ, zero, suc, Bool, true, false, not, ◌&&◌, ◌||◌, if◌then◌else◌, List, [], ◌∷◌, length, Some, slice_get, refl, sym, ◌∙◌, subst}
use Rattle.std.specs.Prelude.{slice_index_or}
use Rattle.std.proofs.lemmas.Bool.{and_parts}
use Rattle.wp_base.specs.declared.kinds.Kind.{Kind}
use Rattle.wp_base.specs.declared.kinds.Kind.TheVariants as kind
use Rattle.typed_prog.specs.declared.types.CoreType.{CoreType}
use Rattle.typed_prog.specs.declared.operators.Change.{Change}
use Rattle.typed_prog.specs.declared.operators.Change.TheVariants as change
use Rattle.typed_prog.specs.declared.operators.Effect.{Effect}
use Rattle.typed_prog.specs.declared.operators.Effect.TheVariants as effect
use Rattle.typed_prog.specs.declared.operators.Path.{Path}
use Rattle.typed_prog.specs.declared.operators.UpdateForm.TheVariants as form
use Rattle.typed_prog.specs.Types.{of_kind, void, is_pointer}
use Rattle.typed_prog.specs.Tree as t
use Rattle.c_runs.specs.Values.{has_effect, have_effect, kind_at}
use Rattle.c_runs.specs.Effects.{changed}
use Rattle.c_runs.specs.Run.{old_value, updating}
use Rattle.c_runs.specs.Core.{store, end, join, one}
use Rattle.c_runs.specs.Plans.{no_value, Made, Mades, Plan, save, leafy, logic_plan, choice_made, put_before, save_if, pure, pures, nothing_made, made_if, first_value, stored_made, called_sent, sent_value, sending, whole_made, operands, saved_operands, assigned_made, changed_made, postfix_made, effect_plan, plans, first_plan}
use Rattle.plain_states.proofs.Scoping.{none_some, found_below}
use Rattle.plain_states.proofs.Calling.{some_same}
use Rattle.plain_normal.specs.Single.{is_single, are_single}
use Rattle.plain_normal.specs.Plain.{ChangeIsPlain, IsCalled, ResultIsPlain, Names, EffectIsPlain, NodeIsPlain, IsPlain, AreAllPlain}
use Rattle.value_terms.specs.Typed.{AreTyped}
use Rattle.plain_typing.specs.Laws.{scope_of}
use Rattle.plain_normal.proofs.Sorts.{SameTypes}
use Rattle.plain_normal.proofs.Done.{first_type, first_types, Takes, AllTake, take_first}
use Rattle.plain_normal.proofs.Making.{Place, Env, shape, Known, Makes, makes_then, makes_map, makes_temp, Has, has_more, has_no_value, TypedIn, MadeIs, MadesAre, SentIs, FirstIs, PlanIs, join_fits, temp_is, saves, leaf_fits, leafy_is, logic_is, choice_is, nothing_is, if_is}
use Rattle.plain_normal.proofs.Objects.{store_fits, changed_typed, changed_plain, old_plain, sent_fits}
use Rattle.plain_normal.proofs.Pure.{put_is, pure_is, pures_are}

-- ---- an environment with these temporaries alone

abbrev pub env_of : List Kind → Env
env_of ks = record { count = length ks; kind = λ n. slice_index_or ks n kind.Int }

kind_there : (ks : List Kind) (n : ℕ) (k : Kind) → slice_get ks n ≡ Some k → slice_index_or ks n kind.Int ≡ k
kind_there [] n k h = absurd (none_some k h)
kind_there (j ∷ ks) zero k h = some_same j k h
kind_there (j ∷ ks) (suc n) k h = kind_there ks n k h

pub env_known : (ks : List Kind) → Known ks (env_of ks)
env_known ks n k h = (found_below ks n k h, kind_there ks n k h)

module _ (q : Place) (f : ℕ → Bool) (low : ℕ) where
  made_type : (ks : List Kind) (n : ℕ) (type : CoreType) (m : Made) → Makes ks n (MadeIs q f low type m) → t.type_of m.value ≡ type
  made_type ks n type m h = (h.so (env_of h.kinds) (env_known h.kinds)).same

  -- what comes first leaves a value of this type
  abbrev pub Leaves : CoreType → (ℕ → Made) → Type 0
  Leaves type g = FirstIs q f low no_value type g

  abbrev pub IsPlanned : CoreType → Plan → Type 0
  IsPlanned type plan = PlanIs q f low no_value type plan

  leaves_more : (ks : List Kind) (n : ℕ) (u : CoreType) (g : ℕ → Made) → Leaves u g → length ks ≡ n → Makes ks (g n).next_temp (MadeIs q f low u (g n))
  leaves_more ks n u g h count = h ks n count (has_no_value q ks)

  -- ---- behind what comes first

  whole_is : (e : t.Value) (u : CoreType) (g : ℕ → Made) → IsPlain q.facts q.variables q.functions f e → Takes u e → Leaves u g → Leaves (t.type_of e) (whole_made q.variables e g)
  whole_is e u g h takes first ks n count left =
      let m = g n in
      let a = leaves_more ks n u g first count in
      let r = (pure q.variables m.value e).made m.next_temp in
      let rest = pure_is q f low m.value e h (subst (λ v. Takes v e) (sym (made_type ks m.next_temp u m a)) takes) in
      makes_map ks r.next_temp
      (λ env both. record { before = join_fits q f low env m.before r.before both.0.before both.1.before; value = both.1.value; same = both.1.same; number = both.1.number })
      (makes_then ks m.next_temp r.next_temp a (λ ls count more so. rest.made ls m.next_temp count (λ env known. (so env known).value)))

  pub operands_are : (es : t.Values) (u : CoreType) (g : ℕ → Made) → AreAllPlain q.facts q.variables q.functions f es → AllTake u es → Leaves u g → (ks : List Kind) (n : ℕ) → length ks ≡ n
      → Makes ks (operands q.variables es g n).next_temp (MadesAre q f low es (operands q.variables es g n))
  operands_are es u g h takes first ks n count =
      let m = g n in
      let a = leaves_more ks n u g first count in
      let y = pures q.variables m.value es m.next_temp in
      makes_map ks y.next_temp
      (λ env both. record { before = join_fits q f low env m.before y.before both.0.before both.1.before; values = both.1.values; same = both.1.same })
      (makes_then ks m.next_temp y.next_temp a (λ ls count more so.
      pures_are q f low m.value es h (subst (λ v. AllTake v es) (sym (made_type ks m.next_temp u m a)) takes) ls m.next_temp count (λ env known. (so env known).value)))

  saved_are : (e : t.Value) (es : t.Values) (u : CoreType) (g : ℕ → Made) → AreAllPlain q.facts q.variables q.functions f (t.more e es) → AllTake u (t.more e es) → Leaves u g
      → (ks : List Kind) (n : ℕ) → length ks ≡ n → Makes ks (saved_operands q.variables e es g n).next_temp (MadesAre q f low (t.more e es) (saved_operands q.variables e es g n))
  saved_are e es u g h takes first ks n count =
      let m = g n in
      let a = leaves_more ks n u g first count in
      let left = made_type ks m.next_temp u m a in
      let r = (pure q.variables m.value e).made m.next_temp in
      let x = save r in
      let y = put_before x (pures q.variables m.value es x.next_temp) in
      makes_map ks y.next_temp
      (λ env both. record { before = join_fits q f low env m.before y.before both.0.before both.1.before; values = both.1.values; same = both.1.same })
      (makes_then ks m.next_temp y.next_temp a (λ ls count more so.
      let has : Has q ls m.value = λ env known. (so env known).value in
      put_is q f low ls e es x (pures q.variables m.value es x.next_temp)
      (saves q f low ls (t.type_of e) r ((pure_is q f low m.value e h.0 (subst (λ v. Takes v e) (sym left) takes.0)).made ls m.next_temp count has))
      (λ js count more. pures_are q f low m.value es h.1 (subst (λ v. AllTake v es) (sym left) takes.1) js x.next_temp count (has_more q ls js m.value more has))))

  -- ---- assignments

  first_typed : (e : Env) (a : t.Value) (vs : t.Values) → AreTyped q.facts q.variables (scope_of (shape q e)) vs → SameTypes (t.more a t.stop) vs → TypedIn q e (first_value vs)
  first_typed e a t.stop typed types = elim types [ ]
  first_typed e a (t.more v vs) typed types = typed.0

  first_same : (a : t.Value) (vs : t.Values) → SameTypes (t.more a t.stop) vs → t.type_of (first_value vs) ≡ t.type_of a
  first_same a t.stop types = elim types [ ]
  first_same a (t.more v vs) types = sym types.0

  stored_is : (e : Env) (type : CoreType) (l : ℕ) (path : Path) (k : Kind) (a : t.Value) (y : Mades) → is_pointer type ≡ false → type ≡ of_kind k → Names q.facts q.variables f path k
      → t.type_of a ≡ type → MadesAre q f low (t.more a t.stop) y e → MadeIs q f low type (stored_made type l path y) e
  stored_is e type l path k a y number int names same h = record {
    before = join_fits q f low e y.before (one (store type l path y.values)) h.before (store_fits q f low e type l path k int names a y.values same h.values h.same, tt);
    value = first_typed e a y.values h.values h.same;
    same = first_same a y.values h.same ∙ same;
    number = number;
  }

  assigned_is : (type : CoreType) (l : ℕ) (path : Path) (k : Kind) (a : t.Value) (u : CoreType) (g : ℕ → Made) → is_pointer type ≡ false → type ≡ of_kind k → Names q.facts q.variables f path k
      → t.type_of a ≡ type → IsPlain q.facts q.variables q.functions f a → Takes u a → Leaves u g → Leaves type (assigned_made q.variables type l path (t.more a t.stop) g)
  assigned_is type l path k a u g number int names same h takes first ks n count left =
      makes_map ks (saved_operands q.variables a t.stop g n).next_temp
      (λ e y. stored_is e type l path k a (saved_operands q.variables a t.stop g n) number int names same y)
      (saved_are a t.stop u g (h, tt) (takes, tt) first ks n count)

  -- what is left of the effect in the other operand is left in the new value
  pub changed_takes : (d : CoreType) (by : Change) (type : CoreType) (l : ℕ) (path : Path) (b : t.Value) → ChangeIsPlain by (t.type_of b) → Takes d b → Takes d (changed by type l (old_value path type l t.stop) b)
  changed_takes d (change.Integer o k) type l path b h takes = ((((tt, tt), (takes, tt)), tt))
  changed_takes d (change.Pointer minus size) type l path b h takes = elim h [ ]

  pub changed_same : (by : Change) (type : CoreType) (l : ℕ) (a b : t.Value) → t.type_of (changed by type l a b) ≡ type
  changed_same (change.Integer o k) type l a b = refl
  changed_same (change.Pointer minus size) type l a b = refl

  updated_is : (type : CoreType) (l : ℕ) (path : Path) (by : Change) (k : Kind) (b : t.Value) (u : CoreType) (g : ℕ → Made) → is_pointer type ≡ false → type ≡ of_kind k
      → Names q.facts q.variables f path k → ChangeIsPlain by (t.type_of b) → IsPlain q.facts q.variables q.functions f b → Takes u b → Leaves u g
      → Leaves type (assigned_made q.variables type l path (updating path by type l (t.more b t.stop)) g)
  updated_is type l path by k b u g number int names computes h takes first =
      let old = old_value path type l t.stop in
      assigned_is type l path k (changed by type l old b) u g number int names (changed_same by type l old b)
      (changed_plain q f by type l old b number computes (old_plain q f type l path k number int names) h) (changed_takes u by type l path b computes takes) first

  postfix_is : (type : CoreType) (l : ℕ) (path : Path) (by : Change) (k : Kind) (b : t.Value) (u : CoreType) (g : ℕ → Made) → is_pointer type ≡ false → type ≡ of_kind k
      → Names q.facts q.variables f path k → ChangeIsPlain by (t.type_of b) → IsPlain q.facts q.variables q.functions f b → Takes u b → Leaves u g
      → Leaves type (postfix_made q.variables type l path by (t.more b t.stop) g)
  postfix_is type l path by k b u g number int names computes h takes first ks n count left =
      let m = g n in
      let a = leaves_more ks n u g first count in
      let same = made_type ks m.next_temp u m a in
      let old = (pure q.variables m.value (old_value path type l t.stop)).made m.next_temp in
      let x = save old in
      let r = (pure q.variables m.value b).made x.next_temp in
      let c = changed_made q.variables by type l x.value r in
      let w = save_if q.variables false c in
      let z = pures q.variables m.value t.stop w.next_temp in
      let y = put_before w z in
      let s = store type l path y.values in
      makes_map ks r.next_temp
      (λ e all.
      let value = all.1.1.value in
      let by_new : ChangeIsPlain by (t.type_of r.value) = subst (ChangeIsPlain by) (sym all.1.1.same) computes in
      let new : AreTyped q.facts q.variables (scope_of (shape q e)) y.values = (changed_typed q by e type l x.value r.value number by_new all.1.0.value value, tt) in
      record {
        before = join_fits q f low e m.before (join x.before (join y.before (one s))) all.0.before
            (join_fits q f low e x.before (join y.before (one s)) all.1.0.before
            (join_fits q f low e y.before (one s) (join_fits q f low e r.before end all.1.1.before tt)
            (store_fits q f low e type l path k int names (changed by type l x.value r.value) y.values (changed_same by type l x.value r.value) new (refl, tt), tt)));
        value = all.1.0.value;
        same = all.1.0.same;
        number = number;
      })
      (makes_then ks m.next_temp r.next_temp a (λ ls count more so.
      let has : Has q ls m.value = λ env known. (so env known).value in
      makes_then ls x.next_temp r.next_temp
      (saves q f low ls type old ((pure_is q f low m.value (old_value path type l t.stop) (old_plain q f type l path k number int names) tt).made ls m.next_temp count has))
      (λ js count' more' so'. (pure_is q f low m.value b h (subst (λ v. Takes v b) (sym same) takes)).made js x.next_temp count' (has_more q ls js m.value more' has))))

  -- ---- calls

  called_is : (type : CoreType) (l n : ℕ) (es : t.Values) (u : CoreType) (g : ℕ → Made) → is_pointer type ≡ false → (c : IsCalled q.functions n es) → ResultIsPlain type c.function.result
      → AreAllPlain q.facts q.variables q.functions f es → AllTake u es → Leaves u g → IsPlanned type (sending type l (λ i. called_sent l n (operands q.variables es g i)))
  called_is type l n es u g number c result h takes first =
      let sent : (ks : List Kind) (i : ℕ) → length ks ≡ i → Has q ks no_value → Makes ks (operands q.variables es g i).next_temp (SentIs q f low type (called_sent l n (operands q.variables es g i))) =
      λ ks i count left. makes_map ks (operands q.variables es g i).next_temp
      (λ e y. record {
        before = y.before;
        put = λ j temp. sent_fits q f low e type n l j es (operands q.variables es g i).values c result temp y.values y.same;
      })
      (operands_are es u g h takes first ks i count) in
      let made : (ks : List Kind) (i : ℕ) → length ks ≡ i → Has q ks no_value
      → Makes ks (suc (operands q.variables es g i).next_temp) (MadeIs q f low type (sent_value type l (called_sent l n (operands q.variables es g i)))) =
      λ ks i count left. let x = called_sent l n (operands q.variables es g i) in
      makes_map ks (suc x.next_temp)
      (λ e both. record {
        before = join_fits q f low e x.before (one (x.put x.next_temp)) both.0.before (both.0.put x.next_temp both.1, tt);
        value = temp_is q f low e type l x.next_temp number both.1;
        same = refl;
        number = number;
      })
      (makes_then ks x.next_temp (suc x.next_temp) (sent ks i count left) (λ ls count more so. makes_temp ls x.next_temp (kind_at type) count)) in
      record {
        made = made;
        sent = sent;
        test = λ want j ks i count left. leaf_fits q f low want j ks type (sent_value type l (called_sent l n (operands q.variables es g i))) (made ks i count left);
      }

  -- ---- effects whose value is wanted

  effect_is : (type : CoreType) (l : ℕ) (e : Effect) (es : t.Values) (g : ℕ → Made) → is_pointer type ≡ false → AreAllPlain q.facts q.variables q.functions f es
      → EffectIsPlain q.facts q.variables q.functions f type e es → AllTake (first_types es) es → Leaves (first_types es) g → IsPlanned type (effect_plan q.variables type l e es g)
  effect_is type l (effect.Assign path) t.stop g number h fits takes first = elim fits.3 [ ]
  effect_is type l (effect.Assign path) (t.more a (t.more b es)) g number h fits takes first = elim fits.3 [ ]
  effect_is type l (effect.Assign path) (t.more a t.stop) g number h fits takes first =
      leafy_is q f low no_value type (assigned_made q.variables type l path (t.more a t.stop) g)
      (assigned_is type l path fits.0 a (first_types (t.more a t.stop)) g number fits.1 fits.2 fits.3 h.0 takes.0 first)
  effect_is type l (effect.Update path by form) t.stop g number h fits takes first = elim fits.3 [ ]
  effect_is type l (effect.Update path by form) (t.more a (t.more b es)) g number h fits takes first = elim fits.3 [ ]
  effect_is type l (effect.Update path by form.Postfix) (t.more b t.stop) g number h fits takes first =
      leafy_is q f low no_value type (postfix_made q.variables type l path by (t.more b t.stop) g)
      (postfix_is type l path by fits.0 b (first_types (t.more b t.stop)) g number fits.1 fits.2 fits.3 h.0 takes.0 first)
  effect_is type l (effect.Update path by form.Prefix) (t.more b t.stop) g number h fits takes first =
      leafy_is q f low no_value type (assigned_made q.variables type l path (updating path by type l (t.more b t.stop)) g)
      (updated_is type l path by fits.0 b (first_types (t.more b t.stop)) g number fits.1 fits.2 fits.3 h.0 takes.0 first)
  effect_is type l (effect.Update path by form.Compound) (t.more b t.stop) g number h fits takes first =
      leafy_is q f low no_value type (assigned_made q.variables type l path (updating path by type l (t.more b t.stop)) g)
      (updated_is type l path by fits.0 b (first_types (t.more b t.stop)) g number fits.1 fits.2 fits.3 h.0 takes.0 first)
  effect_is type l (effect.Call n) es g number h fits takes first = called_is type l n es (first_types es) g number fits.0 fits.1 h takes first

  -- ---- expressions

  pub record BothAre (e : t.Value) : Type 0 where
    pub first : Leaves (first_type e) (plans q.variables e).first
    pub all : IsPlanned (t.type_of e) (plans q.variables e).all

  plain_are : (e : t.Value) (u : CoreType) (g : ℕ → Made) → IsPlain q.facts q.variables q.functions f e → Takes u e → Leaves u g → IsPlanned (t.type_of e) (leafy (whole_made q.variables e g))
  plain_are e u g h takes first = leafy_is q f low no_value (t.type_of e) (whole_made q.variables e g) (whole_is e u g h takes first)

  nothing_leaves : Leaves void nothing_made
  nothing_leaves = nothing_is q f low no_value

  mutual
    node_are : (type : CoreType) (l : ℕ) (e : t.ValueNode) → is_pointer type ≡ false → NodeIsPlain q.facts q.variables q.functions f type e → is_single (t.typed e type l) ≡ true → BothAre (t.typed e type l)
    node_are type l (t.constant z) number h single = record { first = nothing_leaves; all = plain_are (t.typed (t.constant z) type l) void nothing_made (number, h) tt nothing_leaves }
    node_are type l t.null number h single = elim h [ ]
    node_are type l (t.temporary n) number h single = elim h [ ]
    node_are type l (t.apply o es) number h single =
        let first = first_are es h.0 single in
        record { first = first; all = plain_are (t.typed (t.apply o es) type l) (first_types es) (first_plan q.variables es) (number, h) (take_first es single) first }
    node_are type l (t.logic c a b) number h single =
        let parts = and_parts (not (has_effect a && has_effect b)) (is_single a && is_single b) single in
        let inner = and_parts (is_single a) (is_single b) parts.1 in
        let pa = value_is a h.0 inner.0 in
        let pb = value_is b h.1 inner.1 in
        let plan = logic_plan type l c (plans q.variables a).all (plans q.variables b).all in
        let all = logic_is q f low no_value type l c (t.type_of a) (t.type_of b) (plans q.variables a).all (plans q.variables b).all h.2 pa.all pb.all in
        record {
          first = if_is q f low (has_effect a) no_value (first_type a) (if has_effect b then type else void) (plans q.variables a).first (made_if (has_effect b) plan.made nothing_made) pa.first
              (if_is q f low (has_effect b) no_value type void plan.made nothing_made all.made nothing_leaves);
          all = all;
        }
    node_are type l (t.choose c a b) number h single =
        let parts = and_parts (not (has_effect c && (has_effect a || has_effect b))) (is_single c && (is_single a && is_single b)) single in
        let inner = and_parts (is_single c) (is_single a && is_single b) parts.1 in
        let arms = and_parts (is_single a) (is_single b) inner.1 in
        let pc = value_is c h.0 inner.0 in
        let pa = value_is a h.1 arms.0 in
        let pb = value_is b h.2 arms.1 in
        let g = choice_made type l (plans q.variables c).all (plans q.variables a).all (plans q.variables b).all in
        let made = choice_is q f low no_value type l (t.type_of c) (plans q.variables c).all (plans q.variables a).all (plans q.variables b).all number pc.all
        (subst (λ u. IsPlanned u (plans q.variables a).all) h.3 pa.all) (subst (λ u. IsPlanned u (plans q.variables b).all) h.4 pb.all) in
        record {
          first = if_is q f low (has_effect c) no_value (first_type c) (if has_effect a || has_effect b then type else void) (plans q.variables c).first
              (made_if (has_effect a || has_effect b) g nothing_made) pc.first (if_is q f low (has_effect a || has_effect b) no_value type void g nothing_made made nothing_leaves);
          all = leafy_is q f low no_value type g made;
        }
    node_are type l (t.effect e es) number h single =
        let plan = effect_is type l e es (first_plan q.variables es) number h.0 h.1 (take_first es single) (first_are es h.0 single) in
        record { first = plan.made; all = plan }

    pub value_is : (e : t.Value) → IsPlain q.facts q.variables q.functions f e → is_single e ≡ true → BothAre e
    value_is (t.typed node type l) h single = node_are type l node h.0 h.1 single

    pub first_are : (es : t.Values) → AreAllPlain q.facts q.variables q.functions f es → are_single es ≡ true → Leaves (first_types es) (first_plan q.variables es)
    first_are t.stop h single = nothing_leaves
    first_are (t.more e es) h single =
        let parts = and_parts (not (has_effect e && have_effect es)) (is_single e && are_single es) single in
        let inner = and_parts (is_single e) (are_single es) parts.1 in
        if_is q f low (has_effect e) no_value (first_type e) (first_types es) (plans q.variables e).first (first_plan q.variables es) (value_is e h.0 inner.0).first (first_are es h.1 inner.1)
