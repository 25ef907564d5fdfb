-- Expressions: what is made of each uses no temporary that it doesn't set itself, but for those of what is left of its effect.
use Rattle.std.proofs.Common.{◌≡◌, ℕ, Bool, true, false, ◌&&◌, ◌||◌, if◌then◌else◌, List, refl}
use Rattle.std.specs.Prelude.{◌==◌, not}
use Rattle.std.proofs.lemmas.Bool.{false≢true}
use Rattle.typed_prog.specs.declared.types.CoreType.{CoreType}
use Rattle.typed_prog.specs.declared.operators.Change.{Change}
use Rattle.typed_prog.specs.declared.operators.Change.TheVariants as change
use Rattle.typed_prog.specs.declared.operators.Effect.{Effect}
use Rattle.typed_prog.specs.declared.operators.Effect.TheVariants as effect
use Rattle.typed_prog.specs.declared.operators.Op.{Op}
use Rattle.typed_prog.specs.declared.operators.Path.{Path}
use Rattle.typed_prog.specs.declared.operators.UpdateForm.{UpdateForm}
use Rattle.typed_prog.specs.declared.operators.UpdateForm.TheVariants as form
use Rattle.typed_prog.specs.Tree as t
use Rattle.c_runs.specs.Program.{Variable}
use Rattle.c_runs.specs.Values.{has_effect}
use Rattle.c_runs.specs.Effects.{changed}
use Rattle.c_runs.specs.Run.{first_operand, other_operands, old_value, updating}
use Rattle.c_runs.specs.Core.{temporary, call, store, Cores, join, one}
use Rattle.c_runs.specs.Plans.{no_value, Made, Sent, Mades, Plan, Plans, kept, save, leafy, logic_plan, choice_made, need, put_before, op_made, save_if, pure, pures, nothing_made, made_if, first_value, stored_made, called_sent, sent_value, sending, whole_made, operands, saved_operands, assigned_made, changed_made, postfix_made, update_made, effect_plan, plain_plans, plans, node_plans, first_plan, planned}
use Rattle.loop_words.specs.Told.{Temporaries, no_temporaries, uses, some_use}
use Rattle.plain_words.proofs.Live.{either, left_in, right_in, before_set, Among, also, among_none, among_more, among_other, join_below, one_below, lives, Fine, end_fine, join_fine}
use Rattle.plain_words.proofs.Made.{MadeWell, MadesWell, SentWell, AllMade, PlanWell, made_more, mades_more, save_well, save_if_well, leaf_well, leafy_well, logic_well, choice_well, kept_well, if_well, put_well, nothing_well}

module _ (xs : List Variable) (i : ℕ → Bool) where
  -- ---- over what is left of the effect

  module _ (d : t.Value) where
    abbrev PureWell : Plan → Type 0
    PureWell plan = PlanWell xs i (uses d) plan

    left_well : PureWell (leafy (kept d))
    left_well = leafy_well xs i (uses d) (kept d) (kept_well xs i (uses d) d (λ j h. h))

    plain_well : (v : t.Value) → Among (uses v) (uses d) → PureWell (leafy (kept v))
    plain_well v h = leafy_well xs i (uses d) (kept v) (kept_well xs i (uses d) v h)

    op_well : (type : CoreType) (l : ℕ) (o : Op) (f : ℕ → Mades) → ((n : ℕ) → MadesWell xs i (uses d) n (f n)) → AllMade xs i (uses d) (op_made type l o f)
    op_well type l o f h n = record { reaches = (h n).reaches; fine = (h n).fine }

    mutual
      node_pure : (type : CoreType) (l : ℕ) (e : t.ValueNode) → PureWell (pure xs d (t.typed e type l))
      node_pure type l (t.constant z) = plain_well (t.typed (t.constant z) type l) (λ j h. absurd (false≢true h))
      node_pure type l t.null = plain_well (t.typed t.null type l) (λ j h. absurd (false≢true h))
      node_pure type l (t.temporary n) = plain_well no_value (λ j h. absurd (false≢true h))
      node_pure type l (t.apply o es) = leafy_well xs i (uses d) (op_made type l o (pures xs d es)) (op_well type l o (pures xs d es) (pures_well es))
      node_pure type l (t.logic c a b) =
          elim (has_effect b) as (λ z. PureWell (if z then leafy (kept d) else logic_plan type l c (pure xs d a) (pure xs d b)))
          [ true ↦ left_well | false ↦ logic_well xs i (uses d) type l c (pure xs d a) (pure xs d b) (pure_well a) (pure_well b) ]
      node_pure type l (t.choose c a b) =
          elim (has_effect a || has_effect b) as (λ z. PureWell (if z then leafy (kept d) else leafy (choice_made type l (pure xs d c) (pure xs d a) (pure xs d b)))) [
            | true ↦ left_well
            | false ↦ leafy_well xs i (uses d) (choice_made type l (pure xs d c) (pure xs d a) (pure xs d b))
                (choice_well xs i (uses d) type l (pure xs d c) (pure xs d a) (pure xs d b) (pure_well c) (pure_well a) (pure_well b))
          ]
      node_pure type l (t.effect e es) = left_well

      pub pure_well : (e : t.Value) → PureWell (pure xs d e)
      pure_well (t.typed node type l) = node_pure type l node

      pub pures_well : (es : t.Values) (n : ℕ) → MadesWell xs i (uses d) n (pures xs d es n)
      pures_well t.stop n = record {
        reaches = λ k low below. low;
        fine = λ a os f g e. end_fine xs i a os f (λ j k. either (a j) false (λ u. u) (λ u. absurd (false≢true u)) (e j k));
      }
      pures_well (t.more e es) n =
          let x = save_if xs (need es) ((pure xs d e).made n) in
          put_well xs i (uses d) n x (pures xs d es x.next_temp) (save_if_well xs i (uses d) (need es) n ((pure xs d e).made n) ((pure_well e).made n)) (pures_well es x.next_temp)

  -- ---- behind what comes first

  abbrev pub FirstWell : (ℕ → Made) → Type 0
  FirstWell g = AllMade xs i no_temporaries g

  abbrev pub AllPlanned : Plan → Type 0
  AllPlanned plan = PlanWell xs i no_temporaries plan

  -- statements behind what comes first, whose value is left
  behind_first : (n : ℕ) (m : Made) (cs : Cores) (a : Temporaries) (os : List Temporaries) (f : Temporaries) → MadeWell xs i no_temporaries n m → Fine xs i (also a (uses m.value)) os f cs
      → Fine xs i a os f (join m.before cs)
  behind_first n m cs a os f h k = join_fine xs i m.before cs a os f (h.fine a os (lives xs cs os f) (among_none a) k.live) k.stays

  whole_well : (e : t.Value) (g : ℕ → Made) → FirstWell g → FirstWell (whole_made xs e g)
  whole_well e g h n =
      let m = g n in
      let r = (pure xs m.value e).made m.next_temp in
      let hr = (pure_well m.value e).made m.next_temp in
      record {
        reaches = λ k low below. let parts = join_below xs m.before r.before k below in hr.reaches k ((h n).reaches k low parts.0) parts.1;
        fine = λ a os f l e.
            behind_first n m r.before a os f (h n)
            (hr.fine (also a (uses m.value)) os f (among_other a (uses m.value)) (λ j k. either (a j) (uses r.value j) (λ u. left_in (a j || uses m.value j) (uses r.value j) (left_in (a j) (uses m.value j) u))
            (right_in (a j || uses m.value j) (uses r.value j)) (e j k)));
      }

  -- so it is of operands
  mades_behind : (n : ℕ) (m : Made) (y : Mades) → MadeWell xs i no_temporaries n m → MadesWell xs i (uses m.value) m.next_temp y
      → MadesWell xs i no_temporaries n (record { before = join m.before y.before; values = y.values; next_temp = y.next_temp })
  mades_behind n m y h g = record {
    reaches = λ k low below. let parts = join_below xs m.before y.before k below in g.reaches k (h.reaches k low parts.0) parts.1;
    fine = λ a os f l e.
        behind_first n m y.before a os f h
        (g.fine (also a (uses m.value)) os f (among_other a (uses m.value)) (λ j k. either (a j) (some_use y.values j)
        (λ u. left_in (a j || uses m.value j) (some_use y.values j) (left_in (a j) (uses m.value j) u)) (right_in (a j || uses m.value j) (some_use y.values j)) (e j k)));
  }

  pub operands_well : (es : t.Values) (g : ℕ → Made) → FirstWell g → (n : ℕ) → MadesWell xs i no_temporaries n (operands xs es g n)
  operands_well es g h n = let m = g n in mades_behind n m (pures xs m.value es m.next_temp) (h n) (pures_well m.value es m.next_temp)

  saved_well : (e : t.Value) (es : t.Values) (g : ℕ → Made) → FirstWell g → (n : ℕ) → MadesWell xs i no_temporaries n (saved_operands xs e es g n)
  saved_well e es g h n =
      let m = g n in
      let r = (pure xs m.value e).made m.next_temp in
      let x = save r in
      mades_behind n m (put_before x (pures xs m.value es x.next_temp)) (h n)
      (put_well xs i (uses m.value) m.next_temp x (pures xs m.value es x.next_temp) (save_well xs i (uses m.value) m.next_temp r ((pure_well m.value e).made m.next_temp)) (pures_well m.value es x.next_temp))

  -- ---- assignments

  first_among : (vs : t.Values) → Among (uses (first_value vs)) (some_use vs)
  first_among t.stop j h = h
  first_among (t.more v vs) j h = left_in (uses v j) (some_use vs j) h

  store_live : (type : CoreType) (l : ℕ) (path : Path) (vs : t.Values) (a : Temporaries) (os : List Temporaries) (f : Temporaries) → Among f (also a (some_use vs))
      → Among (lives xs (one (store type l path vs)) os f) (also a (some_use vs))
  store_live type l path vs a os f h j = either (some_use vs j) (f j) (right_in (a j) (some_use vs j)) (h j)

  stored_well : (type : CoreType) (l : ℕ) (path : Path) (left : Temporaries) (n : ℕ) (y : Mades) → MadesWell xs i left n y → MadeWell xs i left n (stored_made type l path y)
  stored_well type l path left n y h =
      let s = store type l path y.values in
      record {
        reaches = λ k low below. h.reaches k low (join_below xs y.before (one s) k below).0;
        fine = λ a os f g e.
            join_fine xs i y.before (one s) a os f
            (h.fine a os (lives xs (one s) os f) g (store_live type l path y.values a os f
            (λ j k. either (a j) (uses (first_value y.values) j) (left_in (a j) (some_use y.values j)) (λ u. right_in (a j) (some_use y.values j) (first_among y.values j u)) (e j k))))
            (tt, tt);
      }

  assigned_well : (type : CoreType) (l : ℕ) (path : Path) (es : t.Values) (g : ℕ → Made) → FirstWell g → FirstWell (assigned_made xs type l path es g)
  assigned_well type l path t.stop g h n = stored_well type l path no_temporaries n (operands xs t.stop g n) (operands_well t.stop g h n)
  assigned_well type l path (t.more e es) g h n = stored_well type l path no_temporaries n (saved_operands xs e es g n) (saved_well e es g h n)

  -- the new value of an update uses what the old one and the other operand use
  changed_uses : (by : Change) (type : CoreType) (l : ℕ) (a b : t.Value) (left : Temporaries) → Among (uses a) left → Among (uses b) left → Among (uses (changed by type l a b)) left
  changed_uses (change.Integer o k) type l a b left h g j =
      either ((uses a j || false) || (uses b j || false)) false
      (either (uses a j || false) (uses b j || false) (either (uses a j) false (h j) (λ u. absurd (false≢true u))) (either (uses b j) false (g j) (λ u. absurd (false≢true u)))) (λ u. absurd (false≢true u))
  changed_uses (change.Pointer minus size) type l a b left h g j = either (uses a j) (uses b j || false) (h j) (either (uses b j) false (g j) (λ u. absurd (false≢true u)))

  changed_well : (by : Change) (type : CoreType) (l : ℕ) (v : t.Value) (left : Temporaries) (n : ℕ) (m : Made) → Among (uses v) left → MadeWell xs i left n m
      → MadeWell xs i left n (changed_made xs by type l v m)
  changed_well by type l v left n m h g = record {
    reaches = g.reaches;
    fine = λ a os f k e.
        g.fine a os f k (λ j u. either (a j) (uses (changed by type l v m.value) j) (left_in (a j) (uses m.value j))
        (changed_uses by type l v m.value (also a (uses m.value)) (λ x w. left_in (a x) (uses m.value x) (k x (h x w))) (among_other a (uses m.value)) j) (e j u));
  }

  postfix_well : (type : CoreType) (l : ℕ) (path : Path) (by : Change) (es : t.Values) (g : ℕ → Made) → FirstWell g → FirstWell (postfix_made xs type l path by es g)
  postfix_well type l path by es g h n =
      let m = g n in
      let old = (pure xs m.value (old_value path type l (other_operands es))).made m.next_temp in
      let x = save old in
      let r = (pure xs m.value (first_operand es)).made x.next_temp in
      let c = changed_made xs by type l x.value r in
      let w = save_if xs (need (other_operands es)) c in
      let z = pures xs m.value (other_operands es) w.next_temp in
      let y = put_before w z in
      let s = store type l path y.values in
      let left : Temporaries = also (uses m.value) (uses x.value) in
      let in_left : Among (uses m.value) left = among_more (uses m.value) (uses x.value) in
      let hx = save_well xs i (uses m.value) m.next_temp old ((pure_well m.value (old_value path type l (other_operands es))).made m.next_temp) in
      let hr = made_more xs i (uses m.value) left x.next_temp r in_left ((pure_well m.value (first_operand es)).made x.next_temp) in
      let hw = save_if_well xs i left (need (other_operands es)) x.next_temp c (changed_well by type l x.value left x.next_temp r (among_other (uses m.value) (uses x.value)) hr) in
      let hz = mades_more xs i (uses m.value) left w.next_temp z in_left (pures_well m.value (other_operands es) w.next_temp) in
      let hy = put_well xs i left x.next_temp w z hw hz in
      record {
        reaches = λ k low below.
            let first = join_below xs m.before (join x.before (join y.before (one s))) k below in
            let second = join_below xs x.before (join y.before (one s)) k first.1 in
            let third = join_below xs y.before (one s) k second.1 in
            hy.reaches k (hx.reaches k ((h n).reaches k low first.0) second.0) third.0;
        fine = λ a os f l' e.
            let a1 = also a (uses m.value) in
            let a2 = also a1 (uses x.value) in
            let last = join_fine xs i y.before (one s) a2 os f
            (hy.fine a2 os (lives xs (one s) os f)
            (λ j. either (uses m.value j) (uses x.value j) (λ u. left_in (a1 j) (uses x.value j) (right_in (a j) (uses m.value j) u)) (right_in (a1 j) (uses x.value j)))
            (store_live type l path y.values a2 os f (λ j k. left_in (a2 j) (some_use y.values j)
            (either (a j) (uses x.value j) (λ u. left_in (a1 j) (uses x.value j) (left_in (a j) (uses m.value j) u)) (right_in (a1 j) (uses x.value j)) (e j k)))))
            (tt, tt) in
            behind_first n m (join x.before (join y.before (one s))) a os f (h n)
            (join_fine xs i x.before (join y.before (one s)) a1 os f (hx.fine a1 os (lives xs (join y.before (one s)) os f) (among_other a (uses m.value)) last.live) last.stays);
      }

  update_well : (type : CoreType) (l : ℕ) (path : Path) (by : Change) (how : UpdateForm) (es : t.Values) (g : ℕ → Made) → FirstWell g → FirstWell (update_made xs type l path by how es g)
  update_well type l path by form.Postfix es g h = postfix_well type l path by es g h
  update_well type l path by form.Prefix es g h = assigned_well type l path (updating path by type l es) g h
  update_well type l path by form.Compound es g h = assigned_well type l path (updating path by type l es) g h

  -- ---- calls

  call_live : (u e g a : Bool) → (u || false || (not e && g)) ≡ true → (g ≡ true → (a || e) ≡ true) → (a || u) ≡ true
  call_live true e g a h k = right_in a true refl
  call_live false e g a h k = before_set false e g a h k

  called_well : (l n : ℕ) (y : ℕ → Mades) → ((j : ℕ) → MadesWell xs i no_temporaries j (y j)) → (j : ℕ) → SentWell xs i no_temporaries j (called_sent l n (y j))
  called_well l n y h j = record {
    reaches = (h j).reaches;
    puts = λ v k below. one_below xs (call (temporary v) n l (y j).values) k below;
    fine = λ v a os f g e.
        let s = call (temporary v) n l (y j).values in
        join_fine xs i (y j).before (one s) a os f
        ((h j).fine a os (lives xs (one s) os f) g (λ b k. call_live (some_use (y j).values b) (v == b) (f b) (a b) k (e b))) (tt, tt);
  }

  sending_well : (type : CoreType) (l : ℕ) (f : ℕ → Sent) → ((n : ℕ) → SentWell xs i no_temporaries n (f n)) → AllPlanned (sending type l f)
  sending_well type l f h =
      let made : (n : ℕ) → MadeWell xs i no_temporaries n (sent_value type l (f n)) = λ n. record {
        reaches = λ k low below. (h n).puts (f n).next_temp k (join_below xs (f n).before (one ((f n).put (f n).next_temp)) k below).1;
        fine = (h n).fine (f n).next_temp;
      } in
      record { made = made; sent = h; test = λ want k n. leaf_well xs i no_temporaries want k n (sent_value type l (f n)) (made n) }

  -- ---- expressions as they are spelled

  pub record PlansWell (p : Plans) : Type 0 where
    pub first : FirstWell p.first
    pub all : AllPlanned p.all

  plain_is : (e : t.Value) (g : ℕ → Made) → FirstWell g → PlansWell (plain_plans xs e g)
  plain_is e g h = record { first = h; all = leafy_well xs i no_temporaries (whole_made xs e g) (whole_well e g h) }

  effect_well : (type : CoreType) (l : ℕ) (e : Effect) (es : t.Values) (g : ℕ → Made) → FirstWell g → AllPlanned (effect_plan xs type l e es g)
  effect_well type l (effect.Assign path) es g h = leafy_well xs i no_temporaries (assigned_made xs type l path es g) (assigned_well type l path es g h)
  effect_well type l (effect.Update path by how) es g h = leafy_well xs i no_temporaries (update_made xs type l path by how es g) (update_well type l path by how es g h)
  effect_well type l (effect.Call n) es g h = sending_well type l (λ j. called_sent l n (operands xs es g j)) (called_well l n (operands xs es g) (operands_well es g h))

  mutual
    node_well : (type : CoreType) (l : ℕ) (e : t.ValueNode) → PlansWell (node_plans xs type l e)
    node_well type l (t.constant z) = plain_is (t.typed (t.constant z) type l) nothing_made (nothing_well xs i)
    node_well type l t.null = plain_is (t.typed t.null type l) nothing_made (nothing_well xs i)
    node_well type l (t.temporary n) = plain_is (t.typed (t.temporary n) type l) nothing_made (nothing_well xs i)
    node_well type l (t.apply o es) = plain_is (t.typed (t.apply o es) type l) (first_plan xs es) (first_well es)
    node_well type l (t.logic c a b) =
        let all = logic_well xs i no_temporaries type l c (plans xs a).all (plans xs b).all (plans_well a).all (plans_well b).all in
        let plan = logic_plan type l c (plans xs a).all (plans xs b).all in
        record {
          first = if_well xs i no_temporaries (has_effect a) (plans xs a).first (made_if (has_effect b) plan.made nothing_made) (plans_well a).first
              (if_well xs i no_temporaries (has_effect b) plan.made nothing_made all.made (nothing_well xs i));
          all = all;
        }
    node_well type l (t.choose c a b) =
        let made = choice_made type l (plans xs c).all (plans xs a).all (plans xs b).all in
        let all = choice_well xs i no_temporaries type l (plans xs c).all (plans xs a).all (plans xs b).all (plans_well c).all (plans_well a).all (plans_well b).all in
        record {
          first = if_well xs i no_temporaries (has_effect c) (plans xs c).first (made_if (has_effect a || has_effect b) made nothing_made) (plans_well c).first
              (if_well xs i no_temporaries (has_effect a || has_effect b) made nothing_made all (nothing_well xs i));
          all = leafy_well xs i no_temporaries made all;
        }
    node_well type l (t.effect e es) =
        let all = effect_well type l e es (first_plan xs es) (first_well es) in record { first = all.made; all = all }

    pub plans_well : (e : t.Value) → PlansWell (plans xs e)
    plans_well (t.typed node type l) = node_well type l node

    pub first_well : (es : t.Values) → FirstWell (first_plan xs es)
    first_well t.stop = nothing_well xs i
    first_well (t.more e es) = if_well xs i no_temporaries (has_effect e) (plans xs e).first (first_plan xs es) (plans_well e).first (first_well es)

  pub planned_well : (e : t.Value) → AllPlanned (planned xs e)
  planned_well e = (plans_well e).all
