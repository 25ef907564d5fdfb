-- Expressions as they are spelled.
use Rattle.std.proofs.Common.{◌≡◌, ℕ, zero, suc, true, not, ◌&&◌, ◌||◌, if◌then◌else◌, List, [], ◌∷◌, length, Some, slice_get, refl, sym, ap, ◌∙◌, subst}
use Rattle.std.specs.Prelude.{slice_index_or}
use Rattle.std.proofs.lemmas.Bool.{and_parts}
use Rattle.wp_base.specs.declared.kinds.CellKind.{CellKind}
use Rattle.wp_base.specs.declared.kinds.CellKind.TheVariants as cell
use Rattle.wp_base.specs.declared.kinds.Kind.TheVariants as kind
use Rattle.typed_prog.specs.declared.types.CoreType.{CoreType}
use Rattle.typed_prog.specs.declared.operators.Change.{Change}
use Rattle.typed_prog.specs.declared.operators.Change.TheVariants as change
use Rattle.typed_prog.specs.declared.operators.Effect.{Effect}
use Rattle.typed_prog.specs.declared.operators.Effect.TheVariants as effect
use Rattle.typed_prog.specs.declared.operators.Op.TheVariants as op
use Rattle.typed_prog.specs.declared.operators.Path.{Path}
use Rattle.typed_prog.specs.declared.operators.UpdateForm.TheVariants as form
use Rattle.typed_prog.specs.Types.{void}
use Rattle.typed_prog.specs.Tree as t
use Rattle.c_runs.specs.Values.{has_effect, have_effect}
use Rattle.c_runs.specs.Objects.{cell_of}
use Rattle.c_runs.specs.Effects.{changed}
use Rattle.c_runs.specs.Run.{old_value, updating}
use Rattle.c_runs.specs.Core.{store, join, one}
use Rattle.c_runs.specs.Plans.{no_value, Made, Mades, Plan, save, leafy, logic_plan, choice_made, need, put_before, save_if, pure, pures, nothing_made, made_if, first_value, stored_made, called_sent, sent_value, sending, whole_made, operands, saved_operands, assigned_made, changed_made, postfix_made, effect_plan, plans, first_plan}
use Rattle.plain_states.proofs.Scoping.{none_some, found_below}
use Rattle.plain_states.proofs.Calling.{some_same}
use Rattle.plain_normal.specs.Single.{is_single, are_single}
use Rattle.typed_runs.specs.Fitting.{InScope, LeadsTo}
use Rattle.typed_normal.specs.Spelled.{spelled_scope, ChangeIsKinded, IsCalled, EffectIsKinded, NodeIsKinded, IsKinded, AllAreKinded}
use Rattle.typed_normal.specs.Typed.{core_scope}
use Rattle.value_terms.specs.Typed.{kind_given, AreTyped, OpIsTyped}
use Rattle.program_steps.specs.Temporaries.{no_temporaries}
use Rattle.typed_normal.proofs.Sorts.{SameTypes}
use Rattle.plain_normal.proofs.Done.{first_type, first_types, Takes, AllTake, take_first}
use Rattle.typed_normal.proofs.Making.{Place, Env, shape, Known, Makes, makes_then, makes_map, makes_with, makes_temp, Has, has_more, has_no_value, TypedIn, MadeIs, MadesAre, SentIs, FirstIs, PlanIs, join_fits, temp_is, saves, saves_if, leaf_fits, leafy_is, logic_is, choice_is, nothing_is, if_is}
use Rattle.typed_normal.proofs.Objects.{store_fits, changed_typed, changed_kinded, sent_fits}
use Rattle.typed_normal.proofs.Pure.{put_is, pure_is, pures_are}

-- ---- an environment with these temporaries alone

abbrev pub env_of : List CellKind → Env
env_of ks = record { count = length ks; kind = λ n. slice_index_or ks n (cell.Of kind.Int) }

kind_there : (ks : List CellKind) (n : ℕ) (k : CellKind) → slice_get ks n ≡ Some k → slice_index_or ks n (cell.Of kind.Int) ≡ k
kind_there [] n k h = absurd (none_some k h)
kind_there (j ∷ ks) zero k h = some_same j k h
kind_there (j ∷ ks) (suc n) k h = kind_there ks n k h

pub env_known : (ks : List CellKind) → Known ks (env_of ks)
env_known ks n k h = (found_below ks n k h, kind_there ks n k h)

module _ (q : Place) (f : InScope) (low : ℕ) where
  made_type : (ks : List CellKind) (n : ℕ) (type : CoreType) (m : Made) → Makes ks n (MadeIs q f low type m) → t.type_of m.value ≡ type
  made_type ks n type m h = (h.so (env_of h.kinds) (env_known h.kinds)).same

  -- what comes first leaves a value of this type
  abbrev pub Leaves : CoreType → (ℕ → Made) → Type 0
  Leaves type g = FirstIs q f low no_value type g

  abbrev pub IsPlanned : CoreType → Plan → Type 0
  IsPlanned type plan = PlanIs q f low no_value type plan

  leaves_more : (ks : List CellKind) (n : ℕ) (u : CoreType) (g : ℕ → Made) → Leaves u g → length ks ≡ n → Makes ks (g n).next_temp (MadeIs q f low u (g n))
  leaves_more ks n u g h count = h ks n count (has_no_value q f ks)

  -- ---- behind what comes first

  whole_is : (e : t.Value) (u : CoreType) (g : ℕ → Made) → IsKinded q.facts q.bare q.functions f e → Takes u e → Leaves u g → Leaves (t.type_of e) (whole_made q.bare.variables e g)
  whole_is e u g h takes first ks n count left =
      let m = g n in
      let a = leaves_more ks n u g first count in
      let r = (pure q.bare.variables m.value e).made m.next_temp in
      let rest = pure_is q f low m.value e h (subst (λ v. Takes v e) (sym (made_type ks m.next_temp u m a)) takes) in
      makes_map ks r.next_temp
      (λ env both. record { before = join_fits q f low env m.before r.before both.0.before both.1.before; value = both.1.value; same = both.1.same })
      (makes_then ks m.next_temp r.next_temp a (λ ls count more so. rest.made ls m.next_temp count (λ env known. (so env known).value)))

  pub operands_are : (es : t.Values) (u : CoreType) (g : ℕ → Made) → AllAreKinded q.facts q.bare q.functions f es → AllTake u es → Leaves u g → (ks : List CellKind) (n : ℕ) → length ks ≡ n
      → Makes ks (operands q.bare.variables es g n).next_temp (MadesAre q f low es (operands q.bare.variables es g n))
  operands_are es u g h takes first ks n count =
      let m = g n in
      let a = leaves_more ks n u g first count in
      let y = pures q.bare.variables m.value es m.next_temp in
      makes_map ks y.next_temp
      (λ env both. record { before = join_fits q f low env m.before y.before both.0.before both.1.before; values = both.1.values; same = both.1.same })
      (makes_then ks m.next_temp y.next_temp a (λ ls count more so.
      pures_are q f low m.value es h (subst (λ v. AllTake v es) (sym (made_type ks m.next_temp u m a)) takes) ls m.next_temp count (λ env known. (so env known).value)))

  saved_are : (e : t.Value) (es : t.Values) (u : CoreType) (g : ℕ → Made) → AllAreKinded q.facts q.bare q.functions f (t.more e es) → AllTake u (t.more e es) → Leaves u g
      → (ks : List CellKind) (n : ℕ) → length ks ≡ n → Makes ks (saved_operands q.bare.variables e es g n).next_temp (MadesAre q f low (t.more e es) (saved_operands q.bare.variables e es g n))
  saved_are e es u g h takes first ks n count =
      let m = g n in
      let a = leaves_more ks n u g first count in
      let left = made_type ks m.next_temp u m a in
      let r = (pure q.bare.variables m.value e).made m.next_temp in
      let x = save r in
      let y = put_before x (pures q.bare.variables m.value es x.next_temp) in
      makes_map ks y.next_temp
      (λ env both. record { before = join_fits q f low env m.before y.before both.0.before both.1.before; values = both.1.values; same = both.1.same })
      (makes_then ks m.next_temp y.next_temp a (λ ls count more so.
      let has : Has q f ls m.value = λ env known. (so env known).value in
      put_is q f low ls e es x (pures q.bare.variables m.value es x.next_temp)
      (saves q f low ls (t.type_of e) r ((pure_is q f low m.value e h.0 (subst (λ v. Takes v e) (sym left) takes.0)).made ls m.next_temp count has))
      (λ js count more. pures_are q f low m.value es h.1 (subst (λ v. AllTake v es) (sym left) takes.1) js x.next_temp count (has_more q f ls js m.value more has))))

  -- ---- assignments

  first_typed : (e : Env) (a : t.Value) (es vs : t.Values) → AreTyped q.facts q.bare.variables (core_scope q.facts (shape q e) f) vs → SameTypes (t.more a es) vs
      → TypedIn q f e (first_value vs)
  first_typed e a es t.stop typed types = elim types [ ]
  first_typed e a es (t.more v vs) typed types = typed.0

  first_same : (a : t.Value) (es vs : t.Values) → SameTypes (t.more a es) vs → t.type_of (first_value vs) ≡ t.type_of a
  first_same a es t.stop types = elim types [ ]
  first_same a es (t.more v vs) types = sym types.0

  abbrev pub IsWay : CoreType → Path → Type 0
  IsWay type path = (cell_of type ≡ kind_given type) × LeadsTo q.facts q.bare f no_temporaries type path

  stored_is : (e : Env) (type : CoreType) (l : ℕ) (path : Path) (a : t.Value) (es : t.Values) (y : Mades) → IsWay type path → t.type_of a ≡ type → MadesAre q f low (t.more a es) y e
      → MadeIs q f low type (stored_made type l path y) e
  stored_is e type l path a es y way same h = record {
    before = join_fits q f low e y.before (one (store type l path y.values)) h.before
        (store_fits q f low e type l path a es y.values way.0 way.1 (ap kind_given same) h.values h.same, tt);
    value = first_typed e a es y.values h.values h.same;
    same = first_same a es y.values h.same ∙ same;
  }

  assigned_is : (type : CoreType) (l : ℕ) (path : Path) (a : t.Value) (es : t.Values) (u : CoreType) (g : ℕ → Made) → IsWay type path → t.type_of a ≡ type
      → AllAreKinded q.facts q.bare q.functions f (t.more a es) → AllTake u (t.more a es) → Leaves u g → Leaves type (assigned_made q.bare.variables type l path (t.more a es) g)
  assigned_is type l path a es u g way same h takes first ks n count left =
      makes_map ks (saved_operands q.bare.variables a es g n).next_temp
      (λ e y. stored_is e type l path a es (saved_operands q.bare.variables a es g n) way same y)
      (saved_are a es u g h takes first ks n count)

  -- what is left of the effect in the other operand is left in the new value
  pub changed_takes : (d : CoreType) (by : Change) (type : CoreType) (l : ℕ) (path : Path) (b : t.Value) (es : t.Values) → Takes d b → AllTake d es
      → Takes d (changed by type l (old_value path type l es) b)
  changed_takes d (change.Integer o k) type l path b es takes others = ((((others, tt), (takes, tt)), tt))
  changed_takes d (change.Pointer minus size) type l path b es takes others = (others, (takes, tt))

  pub changed_same : (by : Change) (type : CoreType) (l : ℕ) (a b : t.Value) → t.type_of (changed by type l a b) ≡ type
  changed_same (change.Integer o k) type l a b = refl
  changed_same (change.Pointer minus size) type l a b = refl

  abbrev pub IsRead : CoreType → Path → t.Values → Type 0
  IsRead type path es = OpIsTyped q.facts q.bare.variables (spelled_scope q.facts q.bare f) type (op.Read path) es

  updated_is : (type : CoreType) (l : ℕ) (path : Path) (by : Change) (b : t.Value) (es : t.Values) (u : CoreType) (g : ℕ → Made) → IsWay type path → IsRead type path es
      → ChangeIsKinded q.facts q.bare type by (t.type_of b) → AllAreKinded q.facts q.bare q.functions f (t.more b es) → AllTake u (t.more b es) → Leaves u g
      → Leaves type (assigned_made q.bare.variables type l path (updating path by type l (t.more b es)) g)
  updated_is type l path by b es u g way read computes h takes first =
      let old = old_value path type l es in
      assigned_is type l path (changed by type l old b) es u g way (changed_same by type l old b)
      (changed_kinded q f by type l old b computes refl (h.1, read) h.0, h.1) (changed_takes u by type l path b es takes.0 takes.1, takes.1) first

  -- the new value, of the old one in a temporary
  change_is : (e : Env) (by : Change) (type u : CoreType) (l : ℕ) (x r : Made) → ChangeIsKinded q.facts q.bare type by u → MadeIs q f low type x e → MadeIs q f low u r e
      → MadeIs q f low type (changed_made q.bare.variables by type l x.value r) e
  change_is e by type u l x r computes hx hr = record {
    before = hr.before;
    value = changed_typed q f by e type l x.value r.value (subst (ChangeIsKinded q.facts q.bare type by) (sym hr.same) computes) hx.same hx.value hr.value;
    same = changed_same by type l x.value r.value;
  }

  postfix_is : (type : CoreType) (l : ℕ) (path : Path) (by : Change) (b : t.Value) (es : t.Values) (u : CoreType) (g : ℕ → Made) → IsWay type path → IsRead type path es
      → ChangeIsKinded q.facts q.bare type by (t.type_of b) → AllAreKinded q.facts q.bare q.functions f (t.more b es) → AllTake u (t.more b es) → Leaves u g
      → Leaves type (postfix_made q.bare.variables type l path by (t.more b es) g)
  postfix_is type l path by b es u g way read computes h takes first ks n count left =
      let m = g n in
      let a = leaves_more ks n u g first count in
      let same = made_type ks m.next_temp u m a in
      let old = old_value path type l es in
      let o = (pure q.bare.variables m.value old).made m.next_temp in
      let x = save o in
      let r = (pure q.bare.variables m.value b).made x.next_temp in
      let c = changed_made q.bare.variables by type l x.value r in
      let w = save_if q.bare.variables (need es) c in
      let z = pures q.bare.variables m.value es w.next_temp in
      let y = put_before w z in
      let s = store type l path y.values in
      makes_map ks z.next_temp
      (λ e all. record {
        before = join_fits q f low e m.before (join x.before (join y.before (one s))) all.0.before
            (join_fits q f low e x.before (join y.before (one s)) all.1.0.before
            (join_fits q f low e y.before (one s) all.1.1.before
            (store_fits q f low e type l path old es y.values way.0 way.1 refl all.1.1.values all.1.1.same, tt)));
        value = all.1.0.value;
        same = all.1.0.same;
      })
      (makes_then ks m.next_temp z.next_temp a (λ ls count more so.
      let has : Has q f ls m.value = λ env known. (so env known).value in
      let others = subst (λ v. AllTake v es) (sym same) takes.1 in
      makes_then ls x.next_temp z.next_temp
      (saves q f low ls type o ((pure_is q f low m.value old (h.1, read) others).made ls m.next_temp count has))
      (λ js count' more' so'.
      let has' = has_more q f ls js m.value more' has in
      put_is q f low js old es w z
      (saves_if q f low (need es) js type c
      (makes_map js r.next_temp (λ e both. change_is e by type (t.type_of b) l x r computes both.1 both.0)
      (makes_with js r.next_temp so' ((pure_is q f low m.value b h.0 (subst (λ v. Takes v b) (sym same) takes.0)).made js x.next_temp count' has'))))
      (λ is count'' more''. pures_are q f low m.value es h.1 others is w.next_temp count'' (has_more q f js is m.value more'' has')))))

  -- ---- calls

  called_is : (type : CoreType) (l n : ℕ) (es : t.Values) (u : CoreType) (g : ℕ → Made) → IsCalled q.facts q.bare q.functions n type es
      → AllAreKinded q.facts q.bare q.functions f es → AllTake u es → Leaves u g → IsPlanned type (sending type l (λ i. called_sent l n (operands q.bare.variables es g i)))
  called_is type l n es u g c h takes first =
      let sent : (ks : List CellKind) (i : ℕ) → length ks ≡ i → Has q f ks no_value
      → Makes ks (operands q.bare.variables es g i).next_temp (SentIs q f low type (called_sent l n (operands q.bare.variables es g i))) =
      λ ks i count left. makes_map ks (operands q.bare.variables es g i).next_temp
      (λ e y. record { before = y.before; put = λ j temp. sent_fits q f low e n l type es (operands q.bare.variables es g i).values c y.values y.same j temp })
      (operands_are es u g h takes first ks i count) in
      let made : (ks : List CellKind) (i : ℕ) → length ks ≡ i → Has q f ks no_value
      → Makes ks (suc (operands q.bare.variables es g i).next_temp) (MadeIs q f low type (sent_value type l (called_sent l n (operands q.bare.variables es g i)))) =
      λ ks i count left. let x = called_sent l n (operands q.bare.variables es g i) in
      makes_map ks (suc x.next_temp)
      (λ e both. record {
        before = join_fits q f low e x.before (one (x.put x.next_temp)) both.0.before (both.0.put x.next_temp both.1, tt);
        value = temp_is q f low e type l x.next_temp both.1;
        same = refl;
      })
      (makes_then ks x.next_temp (suc x.next_temp) (sent ks i count left) (λ ls count more so. makes_temp ls x.next_temp (kind_given type) count)) in
      record {
        made = made;
        sent = sent;
        test = λ want j ks i count left. leaf_fits q f low want j ks type (sent_value type l (called_sent l n (operands q.bare.variables es g i))) (made ks i count left);
      }

  -- ---- effects whose value is wanted

  effect_is : (type : CoreType) (l : ℕ) (e : Effect) (es : t.Values) (g : ℕ → Made) → AllAreKinded q.facts q.bare q.functions f es
      → EffectIsKinded q.facts q.bare q.functions f type e es → AllTake (first_types es) es → Leaves (first_types es) g → IsPlanned type (effect_plan q.bare.variables type l e es g)
  effect_is type l (effect.Assign path) t.stop g h fits takes first = elim fits [ ]
  effect_is type l (effect.Assign path) (t.more a es) g h fits takes first =
      leafy_is q f low no_value type (assigned_made q.bare.variables type l path (t.more a es) g)
      (assigned_is type l path a es (first_types (t.more a es)) g (fits.0, fits.1) fits.2 h takes first)
  effect_is type l (effect.Update path by form) t.stop g h fits takes first = elim fits [ ]
  effect_is type l (effect.Update path by form.Postfix) (t.more b es) g h fits takes first =
      leafy_is q f low no_value type (postfix_made q.bare.variables type l path by (t.more b es) g)
      (postfix_is type l path by b es (first_types (t.more b es)) g (fits.0, fits.1) fits.2 fits.3 h takes first)
  effect_is type l (effect.Update path by form.Prefix) (t.more b es) g h fits takes first =
      leafy_is q f low no_value type (assigned_made q.bare.variables type l path (updating path by type l (t.more b es)) g)
      (updated_is type l path by b es (first_types (t.more b es)) g (fits.0, fits.1) fits.2 fits.3 h takes first)
  effect_is type l (effect.Update path by form.Compound) (t.more b es) g h fits takes first =
      leafy_is q f low no_value type (assigned_made q.bare.variables type l path (updating path by type l (t.more b es)) g)
      (updated_is type l path by b es (first_types (t.more b es)) g (fits.0, fits.1) fits.2 fits.3 h takes first)
  effect_is type l (effect.Call n) es g h fits takes first = called_is type l n es (first_types es) g fits h takes first

  -- ---- expressions

  pub record BothAre (e : t.Value) : Type 0 where
    pub first : Leaves (first_type e) (plans q.bare.variables e).first
    pub all : IsPlanned (t.type_of e) (plans q.bare.variables e).all

  plain_are : (e : t.Value) (u : CoreType) (g : ℕ → Made) → IsKinded q.facts q.bare q.functions f e → Takes u e → Leaves u g → IsPlanned (t.type_of e) (leafy (whole_made q.bare.variables e g))
  plain_are e u g h takes first = leafy_is q f low no_value (t.type_of e) (whole_made q.bare.variables e g) (whole_is e u g h takes first)

  nothing_leaves : Leaves void nothing_made
  nothing_leaves = nothing_is q f low no_value

  mutual
    node_are : (type : CoreType) (l : ℕ) (e : t.ValueNode) → NodeIsKinded q.facts q.bare q.functions f type e → is_single (t.typed e type l) ≡ true → BothAre (t.typed e type l)
    node_are type l (t.constant z) h single = record { first = nothing_leaves; all = plain_are (t.typed (t.constant z) type l) void nothing_made h tt nothing_leaves }
    node_are type l t.null h single = record { first = nothing_leaves; all = plain_are (t.typed t.null type l) void nothing_made h tt nothing_leaves }
    node_are type l (t.temporary n) h single = elim h [ ]
    node_are type l (t.apply o es) h single =
        let first = first_are es h.0 single in
        record { first = first; all = plain_are (t.typed (t.apply o es) type l) (first_types es) (first_plan q.bare.variables es) h (take_first es single) first }
    node_are type l (t.logic c a b) h single =
        let parts = and_parts (not (has_effect a && has_effect b)) (is_single a && is_single b) single in
        let inner = and_parts (is_single a) (is_single b) parts.1 in
        let pa = value_is a h.0 inner.0 in
        let pb = value_is b h.1 inner.1 in
        let plan = logic_plan type l c (plans q.bare.variables a).all (plans q.bare.variables b).all in
        let all = logic_is q f low no_value type l c (t.type_of a) (t.type_of b) (plans q.bare.variables a).all (plans q.bare.variables b).all h.2 pa.all pb.all in
        record {
          first = if_is q f low (has_effect a) no_value (first_type a) (if has_effect b then type else void) (plans q.bare.variables a).first (made_if (has_effect b) plan.made nothing_made) pa.first
              (if_is q f low (has_effect b) no_value type void plan.made nothing_made all.made nothing_leaves);
          all = all;
        }
    node_are type l (t.choose c a b) h single =
        let parts = and_parts (not (has_effect c && (has_effect a || has_effect b))) (is_single c && (is_single a && is_single b)) single in
        let inner = and_parts (is_single c) (is_single a && is_single b) parts.1 in
        let arms = and_parts (is_single a) (is_single b) inner.1 in
        let pc = value_is c h.0 inner.0 in
        let pa = value_is a h.1 arms.0 in
        let pb = value_is b h.2 arms.1 in
        let g = choice_made type l (plans q.bare.variables c).all (plans q.bare.variables a).all (plans q.bare.variables b).all in
        let made = choice_is q f low no_value type l (t.type_of c) (t.type_of a) (t.type_of b) (plans q.bare.variables c).all (plans q.bare.variables a).all (plans q.bare.variables b).all
        h.3 h.4 pc.all pa.all pb.all in
        record {
          first = if_is q f low (has_effect c) no_value (first_type c) (if has_effect a || has_effect b then type else void) (plans q.bare.variables c).first
              (made_if (has_effect a || has_effect b) g nothing_made) pc.first (if_is q f low (has_effect a || has_effect b) no_value type void g nothing_made made nothing_leaves);
          all = leafy_is q f low no_value type g made;
        }
    node_are type l (t.effect e es) h single =
        let plan = effect_is type l e es (first_plan q.bare.variables es) h.0 h.1 (take_first es single) (first_are es h.0 single) in
        record { first = plan.made; all = plan }

    pub value_is : (e : t.Value) → IsKinded q.facts q.bare q.functions f e → is_single e ≡ true → BothAre e
    value_is (t.typed node type l) h single = node_are type l node h single

    pub first_are : (es : t.Values) → AllAreKinded q.facts q.bare q.functions f es → are_single es ≡ true → Leaves (first_types es) (first_plan q.bare.variables es)
    first_are t.stop h single = nothing_leaves
    first_are (t.more e es) h single =
        let parts = and_parts (not (has_effect e && have_effect es)) (is_single e && are_single es) single in
        let inner = and_parts (is_single e) (are_single es) parts.1 in
        if_is q f low (has_effect e) no_value (first_type e) (first_types es) (plans q.bare.variables e).first (first_plan q.bare.variables es) (value_is e h.0 inner.0).first (first_are es h.1 inner.1)
