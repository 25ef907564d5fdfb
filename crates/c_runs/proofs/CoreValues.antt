-- What expressions become: in its statements and in the value that is left there is no effect, connective or choice.
use Rattle.std.proofs.Common.{◌≡◌, ℕ, suc, pos, Bool, true, false, not, ◌&&◌, ◌||◌, if◌then◌else◌, List, refl}
use Rattle.typed_prog.specs.declared.types.CoreType.{CoreType}
use Rattle.typed_prog.specs.declared.operators.Connective.{Connective}
use Rattle.typed_prog.specs.declared.operators.Path.{Path}
use Rattle.typed_prog.specs.declared.operators.Change.{Change}
use Rattle.typed_prog.specs.declared.operators.Change.TheVariants as change
use Rattle.typed_prog.specs.declared.operators.UpdateForm.{UpdateForm}
use Rattle.typed_prog.specs.declared.operators.UpdateForm.TheVariants as form
use Rattle.typed_prog.specs.declared.operators.Effect.{Effect}
use Rattle.typed_prog.specs.declared.operators.Effect.TheVariants as effect
use Rattle.typed_prog.specs.Tree as t
use Rattle.c_runs.specs.Program.{Variable}
use Rattle.c_runs.specs.Values.{has_effect, decides, agree}
use Rattle.c_runs.specs.Effects.{changed}
use Rattle.c_runs.specs.Run.{first_operand, other_operands, old_value, updating}
use Rattle.c_runs.specs.Core.{Core, set, store, branch, around, exit, Cores, end, then_, join, one}
use Rattle.c_runs.specs.Checks.{has_checks, is_pure, are_pure}
use Rattle.c_runs.specs.Plans.{constant_of, no_value, Made, Tests, Sent, Mades, Plan, kept, save, after, sent_made, jump, leaf, leafy, straight, crossed, logic_test, flag, logic_made, logic_plan, jumps_, tests_, condition, next_of, fork, into, choice_made, need, put_before, op_made, save_if, pure, pures, Plans, nothing_made, made_if, first_value, stored_made, called_sent, sent_value, sending, whole_made, operands, saved_operands, assigned_made, changed_made, postfix_made, update_made, effect_plan, plans, first_plan, planned}
use Rattle.c_runs.specs.NormalLaws.{is_core, are_core}

-- ---- parts

pub both_true : (a b : Bool) → a ≡ true → b ≡ true → (a && b) ≡ true
both_true true b h k = k
both_true false b h k = h

first_true : (a b : Bool) → (a && b) ≡ true → a ≡ true
first_true true b h = refl
first_true false b h = h

second_true : (a b : Bool) → (a && b) ≡ true → b ≡ true
second_true true b h = h
second_true false true h = refl
second_true false false h = h

pub join_core : (a b : Cores) → are_core a ≡ true → are_core b ≡ true → are_core (join a b) ≡ true
join_core end b h k = k
join_core (then_ s a) b h k = both_true (is_core s) (are_core (join a b)) (first_true (is_core s) (are_core a) h) (join_core a b (second_true (is_core s) (are_core a) h) k)

pub one_core : (s : Core) → is_core s ≡ true → are_core (one s) ≡ true
one_core s h = both_true (is_core s) true h refl

pub two_core : (s : Core) (ss : Cores) → is_core s ≡ true → are_core ss ≡ true → are_core (then_ s ss) ≡ true
two_core s ss h k = both_true (is_core s) (are_core ss) h k

pub more_pure : (e : t.Value) (es : t.Values) → is_pure e ≡ true → are_pure es ≡ true → are_pure (t.more e es) ≡ true
more_pure e es h k = both_true (is_pure e) (are_pure es) h k

pub record MadeCore (m : Made) : Type 0 where
  pub before : are_core m.before ≡ true
  pub value : is_pure m.value ≡ true

pub record MadesCore (m : Mades) : Type 0 where
  pub before : are_core m.before ≡ true
  pub values : are_pure m.values ≡ true

pub record SentCore (x : Sent) : Type 0 where
  pub before : are_core x.before ≡ true
  pub put : (i : ℕ) → is_core (x.put i) ≡ true

pub record PlanCore (p : Plan) : Type 0 where
  pub made : (n : ℕ) → MadeCore (p.made n)
  pub sent : (n : ℕ) → SentCore (p.sent n)
  pub test : (want : Bool) (k n : ℕ) → are_core (p.test want k n).tests ≡ true

abbrev pub FirstCore : (ℕ → Made) → Type 0
FirstCore f = (n : ℕ) → MadeCore (f n)

-- ---- values that are kept

pub save_core : (m : Made) → MadeCore m → MadeCore (save m)
save_core m h = record { before = join_core m.before (one (set m.next_temp m.value)) h.before (one_core (set m.next_temp m.value) h.value); value = refl }

sent_core : (m : Made) → MadeCore m → SentCore (sent_made m)
sent_core m h = record { before = h.before; put = λ i. h.value }

after_core : (m q : Made) → MadeCore m → MadeCore q → MadeCore (after m q)
after_core m q h g = record { before = join_core m.before q.before h.before g.before; value = g.value }

put_core : (x : Made) (y : Mades) → MadeCore x → MadesCore y → MadesCore (put_before x y)
put_core x y h k = record { before = join_core x.before y.before h.before k.before; values = more_pure x.value y.values h.value k.values }

-- ---- conditions

jump_core : (want : Bool) (k : ℕ) (e : t.Value) → is_pure e ≡ true → is_core (jump want k e) ≡ true
jump_core true k e h = both_true (is_pure e) true h refl
jump_core false k e h = both_true (is_pure e) true h refl

leaf_core : (want : Bool) (k : ℕ) (m : Made) → MadeCore m → are_core (leaf want k m).tests ≡ true
leaf_core want k m h = join_core m.before (one (jump want k m.value)) h.before (one_core (jump want k m.value) (jump_core want k m.value h.value))

leafy_core : (f : ℕ → Made) → FirstCore f → PlanCore (leafy f)
leafy_core f h = record { made = h; sent = λ n. sent_core (f n) (h n); test = λ want k n. leaf_core want k (f n) (h n) }

logic_test_core : (c : Connective) (want : Bool) (k n : ℕ) (a b : Plan) → PlanCore a → PlanCore b → are_core (logic_test c a b want k n).tests ≡ true
logic_test_core c want k n a b pa pb =
    elim (agree (decides c) want) as (λ q. are_core (if q then crossed a b want k n else straight a b want k n).tests ≡ true) [
      | true ↦ (let x = a.test (not want) 0 n in let y = b.test want (suc k) x.next_temp in one_core (around (join x.tests y.tests)) (join_core x.tests y.tests (pa.test (not want) 0 n) (pb.test want (suc k) x.next_temp)))
      | false ↦ (let x = a.test want k n in let y = b.test want k x.next_temp in join_core x.tests y.tests (pa.test want k n) (pb.test want k x.next_temp))
    ]

flag_core : (type : CoreType) (l : ℕ) (x : Tests) → are_core x.tests ≡ true → MadeCore (flag type l x)
flag_core type l x h =
    let yes = then_ (set x.next_temp (constant_of type l (pos 1))) (one (exit 1)) in
    let no = one (set x.next_temp (constant_of type l (pos 0))) in
    let inside = join x.tests yes in
    record { before = one_core (around (then_ (around inside) no)) (two_core (around inside) no (join_core x.tests yes h refl) refl); value = refl }

logic_core : (type : CoreType) (l : ℕ) (c : Connective) (a b : Plan) → PlanCore a → PlanCore b → PlanCore (logic_plan type l c a b)
logic_core type l c a b pa pb =
    let made : FirstCore (logic_made type l c a b) = λ n. flag_core type l (logic_test c a b true 0 n) (logic_test_core c true 0 n a b pa pb) in
    record { made = made; sent = λ n. sent_core (logic_made type l c a b n) (made n); test = λ want k n. logic_test_core c want k n a b pa pb }

pub fork_core : (plan : Plan) (n : ℕ) (first other : ℕ → Cores) → PlanCore plan → ((k : ℕ) → are_core (first k) ≡ true) → ((k : ℕ) → are_core (other k) ≡ true) → are_core (fork (condition plan n) first other) ≡ true
fork_core plan n first other p f g =
    elim plan.jumps as (λ b. are_core (fork (if b then jumps_ (plan.test true 0 n) else tests_ (plan.made n)) first other) ≡ true) [
      | true ↦ (let x = plan.test true 0 n in let inside = join x.tests (join (first 2) (one (exit 1))) in
          one_core (around (then_ (around inside) (other 1))) (two_core (around inside) (other 1) (join_core x.tests (join (first 2) (one (exit 1))) (p.test true 0 n) (join_core (first 2) (one (exit 1)) (f 2) refl)) (g 1)))
      | false ↦ (let m = plan.made n in join_core m.before (one (branch m.value (first 0) (other 0))) (p.made n).before
          (one_core (branch m.value (first 0) (other 0)) (both_true (is_pure m.value) (are_core (first 0) && are_core (other 0)) (p.made n).value (both_true (are_core (first 0)) (are_core (other 0)) (f 0) (g 0)))))
    ]

into_core : (i : ℕ) (x : Sent) → SentCore x → (k : ℕ) → are_core (into i x k) ≡ true
into_core i x h k = join_core x.before (one (x.put i)) h.before (one_core (x.put i) (h.put i))

choice_core : (type : CoreType) (l : ℕ) (c a b : Plan) → PlanCore c → PlanCore a → PlanCore b → FirstCore (choice_made type l c a b)
choice_core type l c a b pc pa pb n =
    let i = next_of (condition c n) in
    let x = a.sent i in
    let y = b.sent (suc x.next_temp) in
    record { before = fork_core c n (into x.next_temp x) (into x.next_temp y) pc (into_core x.next_temp x (pa.sent i)) (into_core x.next_temp y (pb.sent (suc x.next_temp))); value = refl }

-- ---- an update

changed_core : (by : Change) (type : CoreType) (l : ℕ) (a b : t.Value) → is_pure a ≡ true → is_pure b ≡ true → is_pure (changed by type l a b) ≡ true
changed_core (change.Integer o k) type l a b h g =
    both_true ((is_pure a && true) && (is_pure b && true)) true (both_true (is_pure a && true) (is_pure b && true) (both_true (is_pure a) true h refl) (both_true (is_pure b) true g refl)) refl
changed_core (change.Pointer minus size) type l a b h g = both_true (is_pure a) (is_pure b && true) h (both_true (is_pure b) true g refl)

first_pure : (es : t.Values) → are_pure es ≡ true → is_pure (first_value es) ≡ true
first_pure t.stop h = refl
first_pure (t.more e es) h = first_true (is_pure e) (are_pure es) h

stored_made_core : (type : CoreType) (l : ℕ) (path : Path) (y : Mades) → MadesCore y → MadeCore (stored_made type l path y)
stored_made_core type l path y h =
    record { before = join_core y.before (one (store type l path y.values)) h.before (one_core (store type l path y.values) h.values); value = first_pure y.values h.values }

sent_value_core : (type : CoreType) (l : ℕ) (x : Sent) → SentCore x → MadeCore (sent_value type l x)
sent_value_core type l x h = record { before = join_core x.before (one (x.put x.next_temp)) h.before (one_core (x.put x.next_temp) (h.put x.next_temp)); value = refl }

sending_core : (type : CoreType) (l : ℕ) (f : ℕ → Sent) → ((n : ℕ) → SentCore (f n)) → PlanCore (sending type l f)
sending_core type l f h = record {
  made = λ n. sent_value_core type l (f n) (h n);
  sent = h;
  test = λ want k n. leaf_core want k (sent_value type l (f n)) (sent_value_core type l (f n) (h n));
}

nothing_core : FirstCore nothing_made
nothing_core n = record { before = refl; value = refl }

if_core : (b : Bool) (f g : ℕ → Made) → FirstCore f → FirstCore g → FirstCore (made_if b f g)
if_core true f g h k = h
if_core false f g h k = k

module _ (xs : List Variable) where
  save_if_core : (b : Bool) (m : Made) → MadeCore m → MadeCore (save_if xs b m)
  save_if_core b m h = elim (b && has_checks xs m.value) as (λ c. MadeCore (if c then save m else m)) [ true ↦ save_core m h | false ↦ h ]

  -- ---- expressions whose effect is done

  module _ (d : t.Value) (hd : is_pure d ≡ true) where
    done_core : PlanCore (leafy (kept d))
    done_core = leafy_core (kept d) (λ n. record { before = refl; value = hd })

    mutual
      node_core : (type : CoreType) (l : ℕ) (e : t.ValueNode) → PlanCore (pure xs d (t.typed e type l))
      node_core type l (t.constant z) = leafy_core (kept (t.typed (t.constant z) type l)) (λ n. record { before = refl; value = refl })
      node_core type l t.null = leafy_core (kept (t.typed t.null type l)) (λ n. record { before = refl; value = refl })
      node_core type l (t.temporary i) = leafy_core (kept no_value) (λ n. record { before = refl; value = refl })
      node_core type l (t.apply o es) = leafy_core (op_made type l o (pures xs d es)) (λ n. let h = pures_core es n in record { before = h.before; value = h.values })
      node_core type l (t.logic c a b) =
          elim (has_effect b) as (λ q. PlanCore (if q then leafy (kept d) else logic_plan type l c (pure xs d a) (pure xs d b)))
          [ true ↦ done_core | false ↦ logic_core type l c (pure xs d a) (pure xs d b) (pure_core a) (pure_core b) ]
      node_core type l (t.choose c a b) =
          let made = choice_made type l (pure xs d c) (pure xs d a) (pure xs d b) in
          elim (has_effect a || has_effect b) as (λ q. PlanCore (if q then leafy (kept d) else leafy made))
          [ true ↦ done_core | false ↦ leafy_core made (choice_core type l (pure xs d c) (pure xs d a) (pure xs d b) (pure_core c) (pure_core a) (pure_core b)) ]
      node_core type l (t.effect e es) = done_core

      pure_core : (e : t.Value) → PlanCore (pure xs d e)
      pure_core (t.typed node type l) = node_core type l node

      pub pures_core : (es : t.Values) (n : ℕ) → MadesCore (pures xs d es n)
      pures_core t.stop n = record { before = refl; values = refl }
      pures_core (t.more e es) n =
          let m = (pure xs d e).made n in
          let x = save_if xs (need es) m in
          put_core x (pures xs d es x.next_temp) (save_if_core (need es) m ((pure_core e).made n)) (pures_core es x.next_temp)

  -- ---- expressions as they are spelled

  pub record BothCore (p : Plans) : Type 0 where
    pub first : FirstCore p.first
    pub all : PlanCore p.all

  whole_core : (e : t.Value) (f : ℕ → Made) → FirstCore f → FirstCore (whole_made xs e f)
  whole_core e f h n =
      let m = f n in
      after_core m ((pure xs m.value e).made m.next_temp) (h n) ((pure_core m.value (h n).value e).made m.next_temp)

  plain_core : (e : t.Value) (f : ℕ → Made) → FirstCore f → BothCore (record { first = f; all = leafy (whole_made xs e f) })
  plain_core e f h = record { first = h; all = leafy_core (whole_made xs e f) (whole_core e f h) }

  pub operands_core : (es : t.Values) (f : ℕ → Made) → FirstCore f → (n : ℕ) → MadesCore (operands xs es f n)
  operands_core es f h n =
      let m = f n in
      let g = pures_core m.value (h n).value es m.next_temp in
      record { before = join_core m.before (pures xs m.value es m.next_temp).before (h n).before g.before; values = g.values }

  saved_core : (e : t.Value) (es : t.Values) (f : ℕ → Made) → FirstCore f → (n : ℕ) → MadesCore (saved_operands xs e es f n)
  saved_core e es f h n =
      let m = f n in
      let q = (pure xs m.value e).made m.next_temp in
      let x = save q in
      let y = pures xs m.value es x.next_temp in
      let z = put_before x y in
      let hz = put_core x y (save_core q ((pure_core m.value (h n).value e).made m.next_temp)) (pures_core m.value (h n).value es x.next_temp) in
      record { before = join_core m.before z.before (h n).before hz.before; values = hz.values }

  assigned_core : (type : CoreType) (l : ℕ) (path : Path) (es : t.Values) (f : ℕ → Made) → FirstCore f → FirstCore (assigned_made xs type l path es f)
  assigned_core type l path t.stop f h n = stored_made_core type l path (operands xs t.stop f n) (operands_core t.stop f h n)
  assigned_core type l path (t.more e es) f h n = stored_made_core type l path (saved_operands xs e es f n) (saved_core e es f h n)

  changed_made_core : (by : Change) (type : CoreType) (l : ℕ) (a : t.Value) (m : Made) → is_pure a ≡ true → MadeCore m → MadeCore (changed_made xs by type l a m)
  changed_made_core by type l a m h g = record { before = g.before; value = changed_core by type l a m.value h g.value }

  postfix_core : (type : CoreType) (l : ℕ) (path : Path) (by : Change) (es : t.Values) (f : ℕ → Made) → FirstCore f → FirstCore (postfix_made xs type l path by es f)
  postfix_core type l path by es f h n =
      let m = f n in
      let old = (pure xs m.value (old_value path type l (other_operands es))).made m.next_temp in
      let x = save old in
      let hx = save_core old ((pure_core m.value (h n).value (old_value path type l (other_operands es))).made m.next_temp) in
      let b = (pure xs m.value (first_operand es)).made x.next_temp in
      let c = changed_made xs by type l x.value b in
      let u = save_if xs (need (other_operands es)) c in
      let hu = save_if_core (need (other_operands es)) c (changed_made_core by type l x.value b hx.value ((pure_core m.value (h n).value (first_operand es)).made x.next_temp)) in
      let z = pures xs m.value (other_operands es) u.next_temp in
      let y = put_before u z in
      let hy = put_core u z hu (pures_core m.value (h n).value (other_operands es) u.next_temp) in
      let s = store type l path y.values in
      record {
        before = join_core m.before (join x.before (join y.before (one s))) (h n).before (join_core x.before (join y.before (one s)) hx.before (join_core y.before (one s) hy.before (one_core s hy.values)));
        value = refl;
      }

  update_core : (type : CoreType) (l : ℕ) (path : Path) (by : Change) (f : UpdateForm) (es : t.Values) (first : ℕ → Made) → FirstCore first → FirstCore (update_made xs type l path by f es first)
  update_core type l path by form.Postfix es first h = postfix_core type l path by es first h
  update_core type l path by form.Compound es first h = assigned_core type l path (updating path by type l es) first h
  update_core type l path by form.Prefix es first h = assigned_core type l path (updating path by type l es) first h

  called_sent_core : (l f : ℕ) (y : Mades) → MadesCore y → SentCore (called_sent l f y)
  called_sent_core l f y h = record { before = h.before; put = λ i. h.values }

  effect_core : (type : CoreType) (l : ℕ) (e : Effect) (es : t.Values) (first : ℕ → Made) → FirstCore first → PlanCore (effect_plan xs type l e es first)
  effect_core type l (effect.Assign path) es first h = leafy_core (assigned_made xs type l path es first) (assigned_core type l path es first h)
  effect_core type l (effect.Update path by f) es first h = leafy_core (update_made xs type l path by f es first) (update_core type l path by f es first h)
  effect_core type l (effect.Call f) es first h = sending_core type l (λ n. called_sent l f (operands xs es first n)) (λ n. called_sent_core l f (operands xs es first n) (operands_core es first h n))

  plans_of_core : (p : Plan) → PlanCore p → BothCore (record { first = p.made; all = p })
  plans_of_core p h = record { first = h.made; all = h }

  mutual
    plans_node_core : (type : CoreType) (l : ℕ) (e : t.ValueNode) → BothCore (plans xs (t.typed e type l))
    plans_node_core type l (t.constant z) = plain_core (t.typed (t.constant z) type l) nothing_made nothing_core
    plans_node_core type l t.null = plain_core (t.typed t.null type l) nothing_made nothing_core
    plans_node_core type l (t.temporary n) = plain_core (t.typed (t.temporary n) type l) nothing_made nothing_core
    plans_node_core type l (t.apply o es) = plain_core (t.typed (t.apply o es) type l) (first_plan xs es) (first_core es)
    plans_node_core type l (t.logic c a b) =
        let plan = logic_plan type l c (plans xs a).all (plans xs b).all in
        let all = logic_core type l c (plans xs a).all (plans xs b).all (plans_core a).all (plans_core b).all in
        record {
          first = if_core (has_effect a) (plans xs a).first (made_if (has_effect b) plan.made nothing_made) (plans_core a).first (if_core (has_effect b) plan.made nothing_made all.made nothing_core);
          all = all;
        }
    plans_node_core type l (t.choose c a b) =
        let f = choice_made type l (plans xs c).all (plans xs a).all (plans xs b).all in
        let made = choice_core type l (plans xs c).all (plans xs a).all (plans xs b).all (plans_core c).all (plans_core a).all (plans_core b).all in
        record {
          first = if_core (has_effect c) (plans xs c).first (made_if (has_effect a || has_effect b) f nothing_made) (plans_core c).first (if_core (has_effect a || has_effect b) f nothing_made made nothing_core);
          all = leafy_core f made;
        }
    plans_node_core type l (t.effect e es) = let p = effect_plan xs type l e es (first_plan xs es) in plans_of_core p (effect_core type l e es (first_plan xs es) (first_core es))

    pub plans_core : (e : t.Value) → BothCore (plans xs e)
    plans_core (t.typed node type l) = plans_node_core type l node

    pub first_core : (es : t.Values) → FirstCore (first_plan xs es)
    first_core t.stop = nothing_core
    first_core (t.more e es) = if_core (has_effect e) (plans xs e).first (first_plan xs es) (plans_core e).first (first_core es)

  pub planned_core : (e : t.Value) (n : ℕ) → MadeCore ((planned xs e).made n)
  planned_core e n = (plans_core e).all.made n
