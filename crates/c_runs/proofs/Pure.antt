-- An expression whose effect is done.
use Rattle.std.proofs.Common.{◌≡◌, ℕ, ◌≤◌, Bool, true, false, not, ◌||◌, if◌then◌else◌, List, [], refl, sym, ap, ◌∙◌, subst, arith}
use Rattle.std.proofs.lemmas.Bool.{false≢true}
use Rattle.typed_prog.specs.declared.types.CoreType.{CoreType}
use Rattle.typed_prog.specs.declared.operators.Connective.{Connective}
use Rattle.typed_prog.specs.declared.operators.Op.{Op}
use Rattle.typed_prog.specs.Tree as tree
use Rattle.c_runs.specs.Told.{Value, number, null}
use Rattle.c_runs.specs.Program.{Facts, Variable, Program}
use Rattle.c_runs.specs.States.{World, Here, is_nonzero}
use Rattle.c_runs.specs.Operators.{Undefined, init, Val, is, wrong, then_val, truth_number}
use Rattle.c_runs.specs.Values.{has_effect, agree, decides, logic_of, choice_of, applied, Temps, Vals, are, wrongs, push_val, with_vals, node_value, value, values}
use Rattle.c_runs.specs.Claims.{Stop, spent, undefined}
use Rattle.c_runs.specs.Calls.{Eval, gives, stops, Act, bind, of_val, nought}
use Rattle.c_runs.specs.Run.{no_temps, logic_act, choice_act}
use Rattle.c_runs.specs.Core.{Cores}
use Rattle.c_runs.specs.CoreRun.{CoreWorld, Ending, goes_on, stopped, then_do}
use Rattle.c_runs.specs.CoreRun as core
use Rattle.c_runs.specs.Plans.{Made, Mades, kept, save_if, leafy, logic_plan, choice_made, put_before, op_made, no_value, needs, need, node_needs, pure, pure_node, pures}
use Rattle.c_runs.proofs.Relations.{pair, Keeps, keeps_trans, Moved, moved_none, moved_trans, Gives, early, there, Sure, sure_early, sure, Fixed, fixed_early, fixed, Lists, lists_early, lists, Stays, stays_later, Quiet, PlanOk}
use Rattle.c_runs.proofs.Unchecked.{or_parts}
use Rattle.c_runs.proofs.Plans.{ex, join_ex, save_if_sure, save_grows, leafy_ok, plan_as, logic_ok}
use Rattle.c_runs.proofs.Forks.{choice_ok}

-- ---- acts of values

logic_val : (c : Connective) (w : World) (b : Act) (y : Val) → b w ≡ of_val w y → (x : Val)
    → bind (of_val w x) (λ p w1. if agree (decides c) (is_nonzero p) then gives (truth_number (decides c)) w1 else bind (b w1) (λ u w2. gives (truth_number (is_nonzero u)) w2)) ≡ of_val w (logic_of c x y)
logic_val c w b y h (wrong u l) = refl
logic_val c w b y h (is p) = decided (agree (decides c) (is_nonzero p)) y h
  where
    decided : (d : Bool) (y : Val) → b w ≡ of_val w y → (if d then gives (truth_number (decides c)) w else bind (b w) (λ u w2. gives (truth_number (is_nonzero u)) w2))
        ≡ of_val w (if d then is (truth_number (decides c)) else then_val y (λ u. is (truth_number (is_nonzero u))))
    decided true y h = refl
    decided false (is u) h = rw h refl
    decided false (wrong u l) h = rw h refl

choice_val : (w : World) (a b : Act) (x y : Val) → a w ≡ of_val w x → b w ≡ of_val w y → (c : Val) → bind (of_val w c) (λ p w1. if is_nonzero p then a w1 else b w1) ≡ of_val w (choice_of c x y)
choice_val w a b x y ha hb (wrong u l) = refl
choice_val w a b x y ha hb (is p) = elim (is_nonzero p) as (λ t. (if t then a w else b w) ≡ of_val w (if t then x else y)) [ true ↦ ha | false ↦ hb ]

-- ---- expressions that need no statements

not_false : (b : Bool) → not b ≡ false → b ≡ true
not_false true h = refl
not_false false h = absurd (false≢true (sym h))

module _ (xs : List Variable) where
  quiet_more : (d e : tree.Value) (es : tree.Values) (b : Bool) (t : ℕ) → b ≡ false → Quiet t ((pure xs d e).made t).before ((pure xs d e).made t).next_temp
      → ((t : ℕ) → Quiet t (pures xs d es t).before (pures xs d es t).next_temp)
      → (let x = save_if xs b ((pure xs d e).made t) in let y = put_before x (pures xs d es x.next_temp) in Quiet t y.before y.next_temp)
  quiet_more d e es true t h qa qb = absurd (false≢true (sym h))
  quiet_more d e es false t h qa qb = let q = qb ((pure xs d e).made t).next_temp in record { none = rw (qa.none) q.none; same = q.same ∙ qa.same }

  mutual
    quiet_node : (d : tree.Value) (type : CoreType) (l : ℕ) (e : tree.ValueNode) → node_needs e ≡ false → (t : ℕ) → Quiet t ((pure_node xs d type l e).made t).before ((pure_node xs d type l e).made t).next_temp
    quiet_node d type l (tree.constant z) h t = record { none = refl; same = refl }
    quiet_node d type l tree.null h t = record { none = refl; same = refl }
    quiet_node d type l (tree.temporary i) h t = record { none = refl; same = refl }
    quiet_node d type l (tree.apply o es) h t = let q = quiet_all d es h t in record { none = q.none; same = q.same }
    quiet_node d type l (tree.logic c a b) h t = rw (not_false (has_effect b) h) (record { none = refl; same = refl })
    quiet_node d type l (tree.choose c a b) h t = rw (not_false (has_effect a || has_effect b) h) (record { none = refl; same = refl })
    quiet_node d type l (tree.effect e es) h t = record { none = refl; same = refl }

    pub quiet_of : (d e : tree.Value) → needs e ≡ false → (t : ℕ) → Quiet t ((pure xs d e).made t).before ((pure xs d e).made t).next_temp
    quiet_of d (tree.typed node type l) h t = quiet_node d type l node h t

    pub quiet_all : (d : tree.Value) (es : tree.Values) → need es ≡ false → (t : ℕ) → Quiet t (pures xs d es t).before (pures xs d es t).next_temp
    quiet_all d tree.stop h t = record { none = refl; same = refl }
    quiet_all d (tree.more e es) h t =
        let l = or_parts (needs e) (need es) h in
        quiet_more d e es (need es) t l.1 (quiet_of d e l.0 t) (λ t. quiet_all d es l.1 t)

-- ---- values as they are made

-- the value, in the same world
pub data Plain (p : Facts) (xs : List Variable) (w : World) (tm : Temps) (t : ℕ) (e : tree.Value) (n : ℕ) : Ending → Val → Type 0 where
  plain_early : (u : Undefined) (l : ℕ) → Plain p xs w tm t e n (stopped (undefined u l)) (wrong u l)
  plain : (tm' : Temps) (v : Val) → Moved true w w t tm tm' n → ((tm2 : Temps) → Keeps n tm' tm2 → value p xs tm2 nought w e ≡ v) → Plain p xs w tm t e n (goes_on (pair w tm')) v

-- the value can't be undefined
pub data Certain (p : Facts) (xs : List Variable) (w : World) (tm : Temps) (t : ℕ) (e : tree.Value) (n : ℕ) : Ending → Val → Type 0 where
  certain_early : (u : Undefined) (l : ℕ) → Certain p xs w tm t e n (stopped (undefined u l)) (wrong u l)
  certain : (tm' : Temps) (v : Value) → Moved true w w t tm tm' n → ((tm2 : Temps) → Keeps n tm' tm2 → value p xs tm2 nought w e ≡ is v) → Certain p xs w tm t e n (goes_on (pair w tm')) (is v)

-- the value is the same in every world
pub data Sealed (p : Facts) (xs : List Variable) (w : World) (tm : Temps) (t : ℕ) (e : tree.Value) (n : ℕ) : Ending → Val → Type 0 where
  sealed_early : (u : Undefined) (l : ℕ) → Sealed p xs w tm t e n (stopped (undefined u l)) (wrong u l)
  sealed : (tm' : Temps) (v : Value) → Moved true w w t tm tm' n → ((tm2 : Temps) → Keeps n tm' tm2 → (w2 : World) → value p xs tm2 nought w2 e ≡ is v) → Sealed p xs w tm t e n (goes_on (pair w tm')) (is v)

abbrev stop_in : Eval → Stop
stop_in (gives v w) = spent w
stop_in (stops s) = s

abbrev is_stop : Eval → Type 0
is_stop (gives v w) = ⊥
is_stop (stops s) = Unit {0}

abbrev val_of : Stop → Val
val_of (undefined u l) = wrong u l
val_of s = wrong init 0

abbrev val_in : Eval → Val
val_in (gives v w) = is v
val_in (stops s) = val_of s

val_back : (w : World) (v : Val) → val_in (of_val w v) ≡ v
val_back w (is v) = refl
val_back w (wrong u l) = refl

module _ {p : Facts} {xs : List Variable} {w : World} {tm : Temps} {t n : ℕ} {e : tree.Value} where
  pub plain_of : {o : Ending} {r : Eval} → Gives p xs true w tm t e n o r → (v : Val) → r ≡ of_val w v → Plain p xs w tm t e n o v
  plain_of (early s) (is v) h = absurd (subst is_stop h tt)
  plain_of (early s) (wrong u l) h = subst (λ s. Plain p xs w tm t e n (stopped s) (wrong u l)) (sym (ap stop_in h)) (plain_early u l)
  plain_of (there w' tm' v' mv g) v h =
      let i : v' ≡ v = sym (val_back w' v') ∙ ap val_in h ∙ val_back w v in
      let same = mv.stays refl in
      subst (λ u. Plain p xs w tm t e n (goes_on (pair u tm')) v) (sym same)
      (plain tm' v (record { stays = λ i. refl; keeps = mv.keeps; later = mv.later }) (λ tm2 k. subst (λ u. value p xs tm2 nought u e ≡ v) same (g tm2 k ∙ i)))

  pub certain_of : {o : Ending} {r : Eval} → Sure p xs true w tm t e n o r → (v : Val) → r ≡ of_val w v → Certain p xs w tm t e n o v
  certain_of (sure_early s) (is v) h = absurd (subst is_stop h tt)
  certain_of (sure_early s) (wrong u l) h = subst (λ s. Certain p xs w tm t e n (stopped s) (wrong u l)) (sym (ap stop_in h)) (certain_early u l)
  certain_of (sure w' tm' z mv g) v h =
      let i : is z ≡ v = ap val_in h ∙ val_back w v in
      let same = mv.stays refl in
      subst (λ u. Certain p xs w tm t e n (goes_on (pair u tm')) v) (sym same)
      (subst (λ v. Certain p xs w tm t e n (goes_on (pair w tm')) v) i
      (certain tm' z (record { stays = λ i. refl; keeps = mv.keeps; later = mv.later }) (λ tm2 k. subst (λ u. value p xs tm2 nought u e ≡ is z) same (g tm2 k))))

  pub sealed_of : {o : Ending} {r : Eval} → Fixed p xs true w tm t e n o r → (v : Val) → r ≡ of_val w v → Sealed p xs w tm t e n o v
  sealed_of (fixed_early s) (is v) h = absurd (subst is_stop h tt)
  sealed_of (fixed_early s) (wrong u l) h = subst (λ s. Sealed p xs w tm t e n (stopped s) (wrong u l)) (sym (ap stop_in h)) (sealed_early u l)
  sealed_of (fixed w' tm' z mv g) v h =
      let i : is z ≡ v = ap val_in h ∙ val_back w v in
      let same = mv.stays refl in
      subst (λ u. Sealed p xs w tm t e n (goes_on (pair u tm')) v) (sym same)
      (subst (λ v. Sealed p xs w tm t e n (goes_on (pair w tm')) v) i
      (sealed tm' z (record { stays = λ i. refl; keeps = mv.keeps; later = mv.later }) g))

-- ---- with core statements run

abbrev pub pure_act : Facts → List Variable → Value → tree.Value → Act
pure_act p xs v e w = of_val w (value p xs no_temps v w e)

module _ (cp : Program Cores) (deeper : core.Deeper) (xs : List Variable) (here : Here) where
  abbrev run : Cores → CoreWorld → Ending
  run = ex cp deeper xs here

  abbrev Ok : tree.Value → Value → tree.Value → Type 0
  Ok d v e = PlanOk cp.facts xs run true d v (pure xs d e) (pure_act cp.facts xs v e)

  kept_plan : (d : tree.Value) (v : Value) (e : tree.Value) (act : Act) → ((w : World) (tm : Temps) (t : ℕ) → Stays cp.facts xs d v t tm → Gives cp.facts xs true w tm t e t (goes_on (pair w tm)) (act w))
      → PlanOk cp.facts xs run true d v (leafy (kept e)) act
  kept_plan d v e act h = leafy_ok cp deeper xs here (kept e) act (λ t. omega arith) (λ t w tm st. h w tm t st)

  done_plan : (d : tree.Value) (v : Value) → PlanOk cp.facts xs run true d v (leafy (kept d)) (λ w. gives v w)
  done_plan d v = kept_plan d v d (λ w. gives v w) (λ w tm t st. there w tm (is v) (moved_none true w t tm) (λ tm2 k. st tm2 k w))

  -- ---- operands

  lists_step : {w : World} {tm tm1 : Temps} {t n m : ℕ} {es : tree.Values} {o : Ending} {vs : Vals} (e : tree.Value) (x : Val) (v : Value) → x ≡ is v → Moved true w w t tm tm1 n
      → ((tm2 : Temps) → Keeps n tm1 tm2 → value cp.facts xs tm2 nought w e ≡ x) → Lists cp.facts xs w tm1 n es m o vs
      → Lists cp.facts xs w tm t (tree.more e es) m o (push_val x vs)
  lists_step e x v i mv h (lists_early u l) = rw i (lists_early u l)
  lists_step {w} {tm} {tm1} {t} {n} {m} e x v i mv h (lists tm2 vs mv2 h2) =
      lists tm2 (push_val x vs) (moved_trans mv mv2) (λ tm3 k. rw (h tm3 (keeps_trans n m tm1 tm2 tm3 mv2.later mv2.keeps k), h2 tm3 k) refl)

  certain_lists : {w : World} {tm : Temps} {t n m : ℕ} {e : tree.Value} {es : tree.Values} {o : Ending} {x : Val} {vs : Vals} (before : Cores)
      → ((tm1 : Temps) → Moved true w w t tm tm1 n → Lists cp.facts xs w tm1 n es m (run before (pair w tm1)) vs) → Certain cp.facts xs w tm t e n o x
      → Lists cp.facts xs w tm t (tree.more e es) m (then_do o (run before)) (push_val x vs)
  certain_lists before f (certain_early u l) = lists_early u l
  certain_lists {w} {tm} {t} {n} {m} {e} before f (certain tm1 v mv h) = lists_step e (is v) v refl mv h (f tm1 mv)

  quiet_lists : {w : World} {tm : Temps} {t n m : ℕ} {e : tree.Value} {es : tree.Values} {o : Ending} {x : Val} {vs : Vals} (before : Cores) → Quiet n before m
      → ((tm1 : Temps) → Moved true w w t tm tm1 n → Lists cp.facts xs w tm1 n es m (run before (pair w tm1)) vs) → Plain cp.facts xs w tm t e n o x
      → Lists cp.facts xs w tm t (tree.more e es) m (then_do o (run before)) (push_val x vs)
  quiet_lists before q f (plain_early u l) = lists_early u l
  quiet_lists {w} {tm} {t} {n} {m} {e} before q f (plain tm1 (is v) mv h) = lists_step e (is v) v refl mv h (f tm1 mv)
  quiet_lists {w} {tm} {t} {n} {m} {e} {es} before q f (plain tm1 (wrong u l) mv h) =
      let at_end : run before (pair w tm1) ≡ goes_on (pair w tm1) = ap (λ s. run s (pair w tm1)) q.none in
      subst (λ o. Lists cp.facts xs w tm t (tree.more e es) m o (wrongs u l)) (sym at_end)
      (lists tm1 (wrongs u l) (record { stays = mv.stays; keeps = mv.keeps; later = omega (arith, mv.later, q.same) }) (λ tm2 k. rw (h tm2 (λ i j. k i (omega (arith, j, q.same)))) refl))

  -- the first operand, and then the others
  pub put_lists : {w : World} {tm : Temps} {t : ℕ} (m : Made) (x : Val) (rest : ℕ → Mades) (vs : Vals) (b : Bool) → (b ≡ false → (t : ℕ) → Quiet t (rest t).before (rest t).next_temp)
      → Gives cp.facts xs true w tm t m.value m.next_temp (run m.before (pair w tm)) (of_val w x)
      → ((n : ℕ) (tm1 : Temps) → Moved true w w t tm tm1 n → Lists cp.facts xs w tm1 n (rest n).values (rest n).next_temp (run (rest n).before (pair w tm1)) vs)
      → (let y = (let u = save_if xs b m in put_before u (rest u.next_temp)) in Lists cp.facts xs w tm t y.values y.next_temp (run y.before (pair w tm)) (push_val x vs))
  put_lists {w} {tm} {t} m x rest vs true q g f =
      let u = save_if xs true m in
      let y = rest u.next_temp in
      rw (join_ex cp deeper xs here u.before y.before (pair w tm))
      (certain_lists y.before (λ tm1 mv. f u.next_temp tm1 mv) (certain_of (save_if_sure cp deeper xs here m g) x refl))
  put_lists {w} {tm} {t} m x rest vs false q g f =
      let y = rest m.next_temp in
      rw (join_ex cp deeper xs here m.before y.before (pair w tm))
      (quiet_lists y.before (q refl m.next_temp) (λ tm1 mv. f m.next_temp tm1 mv) (plain_of g x refl))

  -- an operation on its operands
  op_gives : {w : World} {tm : Temps} {t n : ℕ} {es : tree.Values} {o : Ending} {vs : Vals} (type : CoreType) (l : ℕ) (f : Op) → Lists cp.facts xs w tm t es n o vs
      → Gives cp.facts xs true w tm t (tree.typed (tree.apply f es) type l) n o (of_val w (with_vals vs (applied cp.facts xs w type l f)))
  op_gives type l f (lists_early u line) = early (undefined u line)
  op_gives {w} type l f (lists tm1 vs mv h) = there w tm1 (with_vals vs (applied cp.facts xs w type l f)) mv (λ tm2 k. rw (h tm2 k) refl)

  mutual
    node_ok : (d : tree.Value) (v : Value) (type : CoreType) (l : ℕ) (e : tree.ValueNode) → PlanOk cp.facts xs run true d v (pure_node xs d type l e) (λ w. of_val w (node_value cp.facts xs no_temps v w type l e))
    node_ok d v type l (tree.constant z) =
        kept_plan d v (tree.typed (tree.constant z) type l) (λ w. gives (number z) w) (λ w tm t st. there w tm (is (number z)) (moved_none true w t tm) (λ tm2 k. refl))
    node_ok d v type l tree.null = kept_plan d v (tree.typed tree.null type l) (λ w. gives null w) (λ w tm t st. there w tm (is null) (moved_none true w t tm) (λ tm2 k. refl))
    node_ok d v type l (tree.temporary i) = kept_plan d v no_value (λ w. gives nought w) (λ w tm t st. there w tm (is nought) (moved_none true w t tm) (λ tm2 k. refl))
    node_ok d v type l (tree.apply o es) =
        leafy_ok cp deeper xs here (op_made type l o (pures xs d es)) (λ w. of_val w (with_vals (values cp.facts xs no_temps v w es) (applied cp.facts xs w type l o)))
        (λ t. pures_grow d es t) (λ t w tm st. op_gives type l o (pures_ok d v es w t tm st))
    node_ok d v type l (tree.logic c a b) =
        elim (has_effect b) as (λ f. PlanOk cp.facts xs run true d v (if f then leafy (kept d) else logic_plan type l c (pure xs d a) (pure xs d b))
        (λ w. of_val w (if f then is v else logic_of c (value cp.facts xs no_temps v w a) (value cp.facts xs no_temps v w b)))) [
          | true ↦ done_plan d v
          | false ↦ plan_as cp deeper xs here true d v (logic_plan type l c (pure xs d a) (pure xs d b)) (logic_act c (pure_act cp.facts xs v a) (pure_act cp.facts xs v b))
              (λ w. of_val w (logic_of c (value cp.facts xs no_temps v w a) (value cp.facts xs no_temps v w b)))
              (λ w. logic_val c w (pure_act cp.facts xs v b) (value cp.facts xs no_temps v w b) refl (value cp.facts xs no_temps v w a))
              (logic_ok cp deeper xs here true d v c (pure xs d a) (pure xs d b) (pure_act cp.facts xs v a) (pure_act cp.facts xs v b) (pure_ok d v a) (pure_ok d v b) type l)
        ]
    node_ok d v type l (tree.choose c a b) =
        elim (has_effect a || has_effect b) as (λ f. PlanOk cp.facts xs run true d v (if f then leafy (kept d) else leafy (choice_made type l (pure xs d c) (pure xs d a) (pure xs d b)))
        (λ w. of_val w (if f then is v else choice_of (value cp.facts xs no_temps v w c) (value cp.facts xs no_temps v w a) (value cp.facts xs no_temps v w b)))) [
          | true ↦ done_plan d v
          | false ↦ plan_as cp deeper xs here true d v (leafy (choice_made type l (pure xs d c) (pure xs d a) (pure xs d b))) (choice_act (pure_act cp.facts xs v c) (pure_act cp.facts xs v a) (pure_act cp.facts xs v b))
              (λ w. of_val w (choice_of (value cp.facts xs no_temps v w c) (value cp.facts xs no_temps v w a) (value cp.facts xs no_temps v w b)))
              (λ w. choice_val w (pure_act cp.facts xs v a) (pure_act cp.facts xs v b) (value cp.facts xs no_temps v w a) (value cp.facts xs no_temps v w b) refl refl (value cp.facts xs no_temps v w c))
              (choice_ok cp deeper xs here true d v (pure xs d c) (pure xs d a) (pure xs d b) (pure_act cp.facts xs v c) (pure_act cp.facts xs v a) (pure_act cp.facts xs v b) (pure_ok d v c) (pure_ok d v a) (pure_ok d v b) type l)
        ]
    node_ok d v type l (tree.effect e es) = done_plan d v

    pub pure_ok : (d : tree.Value) (v : Value) (e : tree.Value) → Ok d v e
    pure_ok d v (tree.typed node type l) = node_ok d v type l node

    pub pures_ok : (d : tree.Value) (v : Value) (es : tree.Values) (w : World) (t : ℕ) (tm : Temps) → Stays cp.facts xs d v t tm
        → Lists cp.facts xs w tm t (pures xs d es t).values (pures xs d es t).next_temp (run (pures xs d es t).before (pair w tm)) (values cp.facts xs no_temps v w es)
    pures_ok d v tree.stop w t tm st = lists tm (are []) (moved_none true w t tm) (λ tm2 k. refl)
    pures_ok d v (tree.more e es) w t tm st =
        put_lists ((pure xs d e).made t) (value cp.facts xs no_temps v w e) (pures xs d es) (values cp.facts xs no_temps v w es) (need es) (quiet_all xs d es)
        ((pure_ok d v e).made_ok t w tm st) (λ n tm1 mv. pures_ok d v es w n tm1 (stays_later cp.facts xs d v mv st))

    pub pures_grow : (d : tree.Value) (es : tree.Values) (t : ℕ) → t ≤ (pures xs d es t).next_temp
    pures_grow d tree.stop t = omega arith
    pures_grow d (tree.more e es) t =
        let h = (pure_ok d nought e).made_grows t in
        let g = save_grows cp deeper xs here (need es) ((pure xs d e).made t) in
        let k = pures_grow d es (save_if xs (need es) ((pure xs d e).made t)).next_temp in
        omega (arith, h, g, k)
