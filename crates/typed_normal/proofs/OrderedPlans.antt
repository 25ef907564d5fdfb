-- Expressions as they are spelled become statements that set temporaries before they use them.
use Rattle.std.proofs.Common.{◌≡◌, ℕ, Bool, true, false, not, ◌&&◌, ◌||◌, if◌then◌else◌, List, refl, inl, inr}
use Rattle.std.specs.Prelude.{◌⊎◌, ◌==◌}
use Rattle.std.proofs.lemmas.Bool.{false≢true}
use Rattle.typed_prog.specs.declared.types.CoreType.{CoreType}
use Rattle.typed_prog.specs.declared.operators.Change.{Change}
use Rattle.typed_prog.specs.declared.operators.Change.TheVariants as change
use Rattle.typed_prog.specs.declared.operators.Effect.{Effect}
use Rattle.typed_prog.specs.declared.operators.Effect.TheVariants as effect
use Rattle.typed_prog.specs.declared.operators.Path.{Path}
use Rattle.typed_prog.specs.declared.operators.UpdateForm.TheVariants as form
use Rattle.typed_prog.specs.Tree as tree
use Rattle.c_runs.specs.Program.{Variable}
use Rattle.c_runs.specs.Values.{has_effect}
use Rattle.c_runs.specs.Effects.{changed}
use Rattle.c_runs.specs.Run.{first_operand, other_operands, old_value, updating}
use Rattle.c_runs.specs.Core.{temporary, store, call, Cores, join, one}
use Rattle.c_runs.specs.Plans.{no_value, Made, Sent, Mades, kept, save, leafy, logic_plan, choice_made, need, put_before, op_made, save_if, pure, pures, nothing_made, made_if, first_value, stored_made, called_sent, sent_value, sending, whole_made, operands, saved_operands, assigned_made, changed_made, postfix_made, effect_plan, plans, first_plan}
use Rattle.program_steps.specs.Temporaries.{Temporaries, no_temporaries, uses, some_use}
use Rattle.typed_normal.proofs.Ordered.{Sets, In, With, of_either, of_others, without, before, Good, join_good, end_good, MadeOk, MadesOk, SentOk, PlanOk, save_ok, save_if_ok, leaf_ok, leafy_ok, logic_ok, choice_ok}

either_left : (a b : Bool) → a ≡ true → (a || b) ≡ true
either_left true b h = refl
either_left false b h = absurd (false≢true h)

either_right : (a b : Bool) → b ≡ true → (a || b) ≡ true
either_right true b h = refl
either_right false b h = h

in_all : {D X : Type 0} → D ⊎ X → (X → D) → D
in_all (inl d) f = d
in_all (inr x) f = f x

wider : {D X Y : Type 0} → D ⊎ X → (D ⊎ Y) ⊎ X
wider (inl d) = inl (inl d)
wider (inr x) = inr x

regroup : {D : Type 0} (a b : Bool) → D ⊎ ((a || b) ≡ true) → (D ⊎ (a ≡ true)) ⊎ (b ≡ true)
regroup a b (inl d) = inl (inl d)
regroup a b (inr h) = of_either a b h (λ x. inl (inr x)) (λ y. inr y)

first_in : {D : Type 0} (vs : tree.Values) (i : ℕ) → D ⊎ (uses (first_value vs) i ≡ true) → D ⊎ (some_use vs i ≡ true)
first_in vs i (inl d) = inl d
first_in tree.stop i (inr h) = absurd (false≢true h)
first_in (tree.more v vs) i (inr h) = inr (either_left (uses v i) (some_use vs i) h)

module _ (xs : List Variable) where
  -- ---- code and then code

  abbrev pub CodeOk : Temporaries → Cores → Temporaries → Type 1
  CodeOk L cs U = (D : Sets) → In L D → (os : List Temporaries) (t : Temporaries) → In t (With U D) → Good xs cs os t D

  then_code : (L U V : Temporaries) (a b : Cores) → CodeOk L a U → CodeOk U b V → CodeOk L (join a b) V
  then_code L U V a b ha hb D left os t k =
      let h = hb (With U D) (λ i u. inr u) os t (λ i u. wider (k i u)) in join_good xs a b os t D (ha D left os (before xs b os t) h.used) h.order

  put_code : (L U V : Temporaries) (a b : Cores) → CodeOk L a U → CodeOk L b V → CodeOk L (join a b) (λ i. U i || V i)
  put_code L U V a b ha hb D left os t k =
      let h = hb (With U D) (λ i u. inl (left i u)) os t (λ i u. regroup (U i) (V i) (k i u)) in join_good xs a b os t D (ha D left os (before xs b os t) h.used) h.order

  put_ok : (L : Temporaries) (x : Made) (y : Mades) → MadeOk xs L x → MadesOk xs L y → MadesOk xs L (put_before x y)
  put_ok L x y hx hy = put_code L (uses x.value) (some_use y.values) x.before y.before hx hy

  kept_ok : (L : Temporaries) (v : tree.Value) (n : ℕ) → ((i : ℕ) → uses v i ≡ true → L i ≡ true) → MadeOk xs L (kept v n)
  kept_ok L v n sub D left os t k = end_good xs os t D (λ i u. in_all (k i u) (λ e. left i (sub i e)))

  -- ---- expressions whose effect is done

  module _ (d : tree.Value) where
    left_ok : PlanOk xs (uses d) (leafy (kept d))
    left_ok = leafy_ok xs (uses d) (kept d) (λ n. kept_ok (uses d) d n (λ i u. u))

    mutual
      node_pure : (type : CoreType) (l : ℕ) (e : tree.ValueNode) → PlanOk xs (uses d) (pure xs d (tree.typed e type l))
      node_pure type l (tree.constant z) =
          leafy_ok xs (uses d) (kept (tree.typed (tree.constant z) type l)) (λ n. kept_ok (uses d) (tree.typed (tree.constant z) type l) n (λ i u. absurd (false≢true u)))
      node_pure type l tree.null = leafy_ok xs (uses d) (kept (tree.typed tree.null type l)) (λ n. kept_ok (uses d) (tree.typed tree.null type l) n (λ i u. absurd (false≢true u)))
      node_pure type l (tree.temporary m) = leafy_ok xs (uses d) (kept no_value) (λ n. kept_ok (uses d) no_value n (λ i u. absurd (false≢true u)))
      node_pure type l (tree.apply o es) = leafy_ok xs (uses d) (op_made type l o (pures xs d es)) (λ n. pures_ok es n)
      node_pure type l (tree.logic c a b) =
          elim (has_effect b) as (λ z. PlanOk xs (uses d) (if z then leafy (kept d) else logic_plan type l c (pure xs d a) (pure xs d b)))
          [ true ↦ left_ok | false ↦ logic_ok xs (uses d) type l c (pure xs d a) (pure xs d b) (pure_ok a) (pure_ok b) ]
      node_pure type l (tree.choose c a b) =
          elim (has_effect a || has_effect b) as (λ z. PlanOk xs (uses d) (if z then leafy (kept d) else leafy (choice_made type l (pure xs d c) (pure xs d a) (pure xs d b)))) [
            | true ↦ left_ok
            | false ↦ leafy_ok xs (uses d) (choice_made type l (pure xs d c) (pure xs d a) (pure xs d b))
                (choice_ok xs (uses d) type l (pure xs d c) (pure xs d a) (pure xs d b) (pure_ok c) (pure_ok a) (pure_ok b))
          ]
      node_pure type l (tree.effect e es) = left_ok

      pub pure_ok : (e : tree.Value) → PlanOk xs (uses d) (pure xs d e)
      pure_ok (tree.typed node type l) = node_pure type l node

      pub pures_ok : (es : tree.Values) (n : ℕ) → MadesOk xs (uses d) (pures xs d es n)
      pures_ok tree.stop n = λ D left os t k. end_good xs os t D (λ i u. in_all (k i u) (λ e. absurd (false≢true e)))
      pures_ok (tree.more e es) n =
          let m = (pure xs d e).made n in
          let x = save_if xs (need es) m in
          put_ok (uses d) x (pures xs d es x.next_temp) (save_if_ok xs (uses d) (need es) m ((pure_ok e).made n)) (pures_ok es x.next_temp)

  -- ---- behind what comes first

  abbrev pub Leaves : (ℕ → Made) → Type 1
  Leaves g = (n : ℕ) → MadeOk xs no_temporaries (g n)

  nothing_leaves : Leaves nothing_made
  nothing_leaves n = kept_ok no_temporaries no_value n (λ i u. u)

  if_ok : (b : Bool) (g h : ℕ → Made) → Leaves g → Leaves h → Leaves (made_if b g h)
  if_ok true g h pg ph = pg
  if_ok false g h pg ph = ph

  whole_ok : (e : tree.Value) (g : ℕ → Made) → Leaves g → Leaves (whole_made xs e g)
  whole_ok e g h n =
      let m = g n in
      let r = (pure xs m.value e).made m.next_temp in
      then_code no_temporaries (uses m.value) (uses r.value) m.before r.before (h n) ((pure_ok m.value e).made m.next_temp)

  pub operands_ok : (es : tree.Values) (g : ℕ → Made) → Leaves g → (n : ℕ) → MadesOk xs no_temporaries (operands xs es g n)
  operands_ok es g h n =
      let m = g n in
      let y = pures xs m.value es m.next_temp in
      then_code no_temporaries (uses m.value) (some_use y.values) m.before y.before (h n) (pures_ok m.value es m.next_temp)

  saved_ok : (e : tree.Value) (es : tree.Values) (g : ℕ → Made) → Leaves g → (n : ℕ) → MadesOk xs no_temporaries (saved_operands xs e es g n)
  saved_ok e es g h n =
      let m = g n in
      let r = (pure xs m.value e).made m.next_temp in
      let x = save r in
      let z = pures xs m.value es x.next_temp in
      let y = put_before x z in
      then_code no_temporaries (uses m.value) (some_use y.values) m.before y.before (h n)
      (put_ok (uses m.value) x z (save_ok xs (uses m.value) r ((pure_ok m.value e).made m.next_temp)) (pures_ok m.value es x.next_temp))

  -- ---- assignments

  stored_ok : (type : CoreType) (l : ℕ) (path : Path) (y : Mades) → MadesOk xs no_temporaries y → MadeOk xs no_temporaries (stored_made type l path y)
  stored_ok type l path y h D left os t k =
      join_good xs y.before (one (store type l path y.values)) os t D
      (h D left os (before xs (one (store type l path y.values)) os t) (λ i u. of_either (some_use y.values i) (t i) u (λ v. inr v) (λ v. first_in y.values i (k i v)))) (tt, tt)

  assigned_ok : (type : CoreType) (l : ℕ) (path : Path) (es : tree.Values) (g : ℕ → Made) → Leaves g → Leaves (assigned_made xs type l path es g)
  assigned_ok type l path tree.stop g h n = stored_ok type l path (operands xs tree.stop g n) (operands_ok tree.stop g h n)
  assigned_ok type l path (tree.more e es) g h n = stored_ok type l path (saved_operands xs e es g n) (saved_ok e es g h n)

  pub no_more : (a : Bool) → (a || false) ≡ true → a ≡ true
  no_more true h = refl
  no_more false h = h

  changed_uses : (by : Change) (type : CoreType) (l : ℕ) (a b : tree.Value) (i : ℕ) → uses (changed by type l a b) i ≡ true → (uses a i ≡ true) ⊎ (uses b i ≡ true)
  changed_uses (change.Integer o k) type l a b i h =
      of_either ((uses a i || false)) (uses b i || false) (no_more ((uses a i || false) || (uses b i || false)) h) (λ x. inl (no_more (uses a i) x)) (λ y. inr (no_more (uses b i) y))
  changed_uses (change.Pointer minus size) type l a b i h = of_either (uses a i) (uses b i || false) h (λ x. inl x) (λ y. inr (no_more (uses b i) y))

  of_both : {E A B : Type 0} → A ⊎ B → (A → E) → E ⊎ B
  of_both (inl x) f = inl (f x)
  of_both (inr y) f = inr y

  new_uses : {E : Type 0} (by : Change) (type : CoreType) (l : ℕ) (a b : tree.Value) (i : ℕ) → E ⊎ (uses (changed by type l a b) i ≡ true) → (uses a i ≡ true → E) → E ⊎ (uses b i ≡ true)
  new_uses by type l a b i (inl e) f = inl e
  new_uses by type l a b i (inr u) f = of_both (changed_uses by type l a b i u) f

  postfix_ok : (type : CoreType) (l : ℕ) (path : Path) (by : Change) (es : tree.Values) (g : ℕ → Made) → Leaves g → Leaves (postfix_made xs type l path by es g)
  postfix_ok type l path by es g h n D left os t k =
      let m = g n in
      let o = (pure xs m.value (old_value path type l (other_operands es))).made m.next_temp in
      let x = save o in
      let r = (pure xs m.value (first_operand es)).made x.next_temp in
      let c = changed_made xs by type l x.value r in
      let w = save_if xs (need (other_operands es)) c in
      let z = pures xs m.value (other_operands es) w.next_temp in
      let y = put_before w z in
      let s = one (store type l path y.values) in
      let L : Temporaries = λ i. uses m.value i || uses x.value i in
      let with_value : Sets = With (uses m.value) D in
      let with_both : Sets = With (uses x.value) with_value in
      let hc : MadeOk xs L c =
      λ E in_e ps u j. (pure_ok m.value (first_operand es)).made x.next_temp E (λ i v. in_e i (either_left (uses m.value i) (uses x.value i) v)) ps u
      (λ i v. new_uses by type l x.value r.value i (j i v) (λ a. in_e i (either_right (uses m.value i) (uses x.value i) a))) in
      let hz : MadesOk xs L z = λ E in_e ps u j. pures_ok m.value (other_operands es) w.next_temp E (λ i v. in_e i (either_left (uses m.value i) (uses x.value i) v)) ps u j in
      let hy = put_ok L w z (save_if_ok xs L (need (other_operands es)) c hc) hz in
      let gy = join_good xs y.before s os t with_both
      (hy with_both (λ i v. of_either (uses m.value i) (uses x.value i) v (λ a. inl (inr a)) (λ b. inr b)) os (before xs s os t)
      (λ i u. of_either (some_use y.values i) (t i) u (λ v. inr v) (λ v. inl (wider (k i v))))) (tt, tt) in
      let gx = join_good xs x.before (join y.before s) os t with_value
      (save_ok xs (uses m.value) o ((pure_ok m.value (old_value path type l (other_operands es))).made m.next_temp) with_value (λ i v. inr v) os (before xs (join y.before s) os t) gy.used) gy.order in
      join_good xs m.before (join x.before (join y.before s)) os t D (h n D left os (before xs (join x.before (join y.before s)) os t) gx.used) gx.order

  -- ---- calls

  called_ok : (l f : ℕ) (y : Mades) → MadesOk xs no_temporaries y → SentOk xs no_temporaries (called_sent l f y)
  called_ok l f y h D left n os t k =
      join_good xs y.before (one (call (temporary n) f l y.values)) os t D
      (h D left os (before xs (one (call (temporary n) f l y.values)) os t)
      (λ i u. of_either (some_use y.values i || false) (not (n == i) && t i) u (λ v. inr (no_more (some_use y.values i) v))
      (λ v. of_others (n == i) (t i) v (λ other there. inl (without n i D other (k i there)))))) (tt, tt)

  sending_ok : (type : CoreType) (l : ℕ) (f : ℕ → Sent) → ((n : ℕ) → SentOk xs no_temporaries (f n)) → PlanOk xs no_temporaries (sending type l f)
  sending_ok type l f h =
      let made : (n : ℕ) → MadeOk xs no_temporaries (sent_value type l (f n)) = λ n D left os t k. h n D left (f n).next_temp os t k in
      record { made = made; sent = h; test = λ want k n. leaf_ok xs no_temporaries want k (sent_value type l (f n)) (made n) }

  effect_ok : (type : CoreType) (l : ℕ) (e : Effect) (es : tree.Values) (g : ℕ → Made) → Leaves g → PlanOk xs no_temporaries (effect_plan xs type l e es g)
  effect_ok type l (effect.Assign path) es g h = leafy_ok xs no_temporaries (assigned_made xs type l path es g) (assigned_ok type l path es g h)
  effect_ok type l (effect.Update path by form.Postfix) es g h = leafy_ok xs no_temporaries (postfix_made xs type l path by es g) (postfix_ok type l path by es g h)
  effect_ok type l (effect.Update path by form.Prefix) es g h =
      leafy_ok xs no_temporaries (assigned_made xs type l path (updating path by type l es) g) (assigned_ok type l path (updating path by type l es) g h)
  effect_ok type l (effect.Update path by form.Compound) es g h =
      leafy_ok xs no_temporaries (assigned_made xs type l path (updating path by type l es) g) (assigned_ok type l path (updating path by type l es) g h)
  effect_ok type l (effect.Call f) es g h = sending_ok type l (λ n. called_sent l f (operands xs es g n)) (λ n. called_ok l f (operands xs es g n) (operands_ok es g h n))

  -- ---- expressions

  pub record BothOk (e : tree.Value) : Type 1 where
    pub first : Leaves (plans xs e).first
    pub all : PlanOk xs no_temporaries (plans xs e).all

  plain_ok : (e : tree.Value) (g : ℕ → Made) → Leaves g → PlanOk xs no_temporaries (leafy (whole_made xs e g))
  plain_ok e g h = leafy_ok xs no_temporaries (whole_made xs e g) (whole_ok e g h)

  mutual
    node_ok : (type : CoreType) (l : ℕ) (e : tree.ValueNode) → BothOk (tree.typed e type l)
    node_ok type l (tree.constant z) = record { first = nothing_leaves; all = plain_ok (tree.typed (tree.constant z) type l) nothing_made nothing_leaves }
    node_ok type l tree.null = record { first = nothing_leaves; all = plain_ok (tree.typed tree.null type l) nothing_made nothing_leaves }
    node_ok type l (tree.temporary n) = record { first = nothing_leaves; all = plain_ok (tree.typed (tree.temporary n) type l) nothing_made nothing_leaves }
    node_ok type l (tree.apply o es) = record { first = first_ok es; all = plain_ok (tree.typed (tree.apply o es) type l) (first_plan xs es) (first_ok es) }
    node_ok type l (tree.logic c a b) =
        let pa = value_ok a in
        let pb = value_ok b in
        let plan = logic_plan type l c (plans xs a).all (plans xs b).all in
        let all = logic_ok xs no_temporaries type l c (plans xs a).all (plans xs b).all pa.all pb.all in
        record {
          first = if_ok (has_effect a) (plans xs a).first (made_if (has_effect b) plan.made nothing_made) pa.first (if_ok (has_effect b) plan.made nothing_made all.made nothing_leaves);
          all = all;
        }
    node_ok type l (tree.choose c a b) =
        let g = choice_made type l (plans xs c).all (plans xs a).all (plans xs b).all in
        let made = choice_ok xs no_temporaries type l (plans xs c).all (plans xs a).all (plans xs b).all (value_ok c).all (value_ok a).all (value_ok b).all in
        record {
          first = if_ok (has_effect c) (plans xs c).first (made_if (has_effect a || has_effect b) g nothing_made) (value_ok c).first
              (if_ok (has_effect a || has_effect b) g nothing_made made nothing_leaves);
          all = leafy_ok xs no_temporaries g made;
        }
    node_ok type l (tree.effect e es) = let plan = effect_ok type l e es (first_plan xs es) (first_ok es) in record { first = plan.made; all = plan }

    pub value_ok : (e : tree.Value) → BothOk e
    value_ok (tree.typed node type l) = node_ok type l node

    pub first_ok : (es : tree.Values) → Leaves (first_plan xs es)
    first_ok tree.stop = nothing_leaves
    first_ok (tree.more e es) = if_ok (has_effect e) (plans xs e).first (first_plan xs es) (value_ok e).first (first_ok es)
