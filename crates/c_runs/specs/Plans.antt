-- What an expression of a program as spelled becomes in a core program. Its effect, connectives and choices become statements before it, and a value of theirs
-- goes to a temporary; temporaries are numbered in the order in which these statements first set them.
use Rattle.std.specs.Prelude.{ℕ, suc, ℤ, pos, Bool, true, false, not, ◌&&◌, ◌||◌, if◌then◌else◌, List}
use Rattle.typed_prog.specs.declared.types.CoreType.{CoreType}
use Rattle.typed_prog.specs.declared.operators.Connective.{Connective}
use Rattle.typed_prog.specs.declared.operators.Path.{Path}
use Rattle.typed_prog.specs.declared.operators.Change.{Change}
use Rattle.typed_prog.specs.declared.operators.UpdateForm.{UpdateForm}
use Rattle.typed_prog.specs.declared.operators.UpdateForm.TheVariants as form
use Rattle.typed_prog.specs.declared.operators.Effect.{Effect}
use Rattle.typed_prog.specs.declared.operators.Effect.TheVariants as effect
use Rattle.typed_prog.specs.declared.operators.Op.{Op}
use Rattle.typed_prog.specs.Types.{void}
use Rattle.typed_prog.specs.Tree as t
use Rattle.c_runs.specs.Program.{Variable}
use Rattle.c_runs.specs.Values.{has_effect, decides, agree}
use Rattle.c_runs.specs.Effects.{changed}
use Rattle.c_runs.specs.Run.{first_operand, other_operands, old_value, updating}
use Rattle.c_runs.specs.Core.{temporary, Core, set, store, call, branch, around, exit, Cores, end, then_, join, one}
use Rattle.c_runs.specs.Checks.{has_checks}

-- ---- values

abbrev pub temp_of : CoreType → (line number : ℕ) → t.Value
temp_of type l n = t.typed (t.temporary n) type l

-- the temporary that takes the place of a value
abbrev pub temp_for : t.Value → (number : ℕ) → t.Value
temp_for e n = temp_of (t.type_of e) (t.line_of e) n

abbrev pub constant_of : CoreType → (line : ℕ) → ℤ → t.Value
constant_of type l z = t.typed (t.constant z) type l

-- what is of no use
abbrev pub no_value : t.Value
no_value = constant_of void 0 (pos 0)

-- ---- what is made

-- what is done before, the value that is left, and the next temporary
pub record Made : Type 0 where
  pub before : Cores
  pub value : t.Value
  pub next_temp : ℕ

-- what goes on where a condition is so, and the next temporary
pub record Tests : Type 0 where
  pub tests : Cores
  pub next_temp : ℕ

-- what is done before, and then the statement that puts the value into the temporary with this number
pub record Sent : Type 0 where
  pub before : Cores
  pub put : (number : ℕ) → Core
  pub next_temp : ℕ

pub record Mades : Type 0 where
  pub before : Cores
  pub values : t.Values
  pub next_temp : ℕ

-- What an expression becomes from the next temporary on: where its value is wanted; where that goes to a temporary at once; and where it is a condition, which
-- goes on where its truth is as wanted, and leaves the block k where it isn't. `jumps`: the condition is made of jumps alone.
pub record Plan : Type 0 where
  pub made : (next : ℕ) → Made
  pub sent : (next : ℕ) → Sent
  pub test : (want : Bool) (k next : ℕ) → Tests
  pub jumps : Bool

abbrev pub kept : t.Value → ℕ → Made
kept e n = record { before = end; value = e; next_temp = n }

-- the value is put into a temporary
abbrev pub save : Made → Made
save m = record { before = join m.before (one (set m.next_temp m.value)); value = temp_for m.value m.next_temp; next_temp = suc m.next_temp }

abbrev pub after : Made → Made → Made
after m n = record { before = join m.before n.before; value = n.value; next_temp = n.next_temp }

abbrev pub sent_made : Made → Sent
sent_made m = record { before = m.before; put = λ n. set n m.value; next_temp = m.next_temp }

-- ---- conditions

abbrev pub jump : Bool → ℕ → t.Value → Core
jump true k e = branch e end (one (exit k))
jump false k e = branch e (one (exit k)) end

abbrev pub leaf : Bool → ℕ → Made → Tests
leaf want k m = record { tests = join m.before (one (jump want k m.value)); next_temp = m.next_temp }

abbrev pub leafy : (ℕ → Made) → Plan
leafy f = record { made = f; sent = λ n. sent_made (f n); test = λ want k n. leaf want k (f n); jumps = false }

-- where one operand isn't as wanted, nor is the whole
abbrev pub straight : Plan → Plan → Bool → ℕ → ℕ → Tests
straight a b want k n =
    let x = a.test want k n in
    let y = b.test want k x.next_temp in
    record { tests = join x.tests y.tests; next_temp = y.next_temp }

-- where one operand is as wanted, so is the whole
abbrev pub crossed : Plan → Plan → Bool → ℕ → ℕ → Tests
crossed a b want k n =
    let x = a.test (not want) 0 n in
    let y = b.test want (suc k) x.next_temp in
    record { tests = one (around (join x.tests y.tests)); next_temp = y.next_temp }

abbrev pub logic_test : Connective → Plan → Plan → Bool → ℕ → ℕ → Tests
logic_test c a b want k n = if agree (decides c) want then crossed a b want k n else straight a b want k n

-- 1 or 0, each set once
abbrev pub flag : CoreType → (line : ℕ) → Tests → Made
flag type l x = record {
  before = one (around (then_ (around (join x.tests (then_ (set x.next_temp (constant_of type l (pos 1))) (one (exit 1)))))
      (one (set x.next_temp (constant_of type l (pos 0))))));
  value = temp_of type l x.next_temp;
  next_temp = suc x.next_temp;
}

abbrev pub logic_made : CoreType → (line : ℕ) → Connective → Plan → Plan → ℕ → Made
logic_made type l c a b n = flag type l (logic_test c a b true 0 n)

abbrev pub logic_plan : CoreType → (line : ℕ) → Connective → Plan → Plan → Plan
logic_plan type l c a b = record {
  made = logic_made type l c a b;
  sent = λ n. sent_made (logic_made type l c a b n);
  test = logic_test c a b;
  jumps = true;
}

pub data Condition : Type 0 where
  jumps_ : (x : Tests) → Condition
  tests_ : (m : Made) → Condition

abbrev pub condition : Plan → ℕ → Condition
condition c n = if c.jumps then jumps_ (c.test true 0 n) else tests_ (c.made n)

abbrev pub next_of : Condition → ℕ
next_of (jumps_ x) = x.next_temp
next_of (tests_ m) = m.next_temp

-- two ways, made for so many blocks more around them
abbrev pub fork : Condition → (ℕ → Cores) → (ℕ → Cores) → Cores
fork (jumps_ x) first other = one (around (then_ (around (join x.tests (join (first 2) (one (exit 1))))) (other 1)))
fork (tests_ m) first other = join m.before (one (branch m.value (first 0) (other 0)))

-- ---- choices

-- the value goes to the temporary
abbrev pub into : (number : ℕ) → Sent → ℕ → Cores
into n x k = join x.before (one (x.put n))

abbrev pub choice_made : CoreType → (line : ℕ) → Plan → Plan → Plan → ℕ → Made
choice_made type l c a b n =
    let q = condition c n in
    let x = a.sent (next_of q) in
    let y = b.sent (suc x.next_temp) in
    record { before = fork q (into x.next_temp x) (into x.next_temp y); value = temp_of type l x.next_temp; next_temp = y.next_temp }

-- ---- operands

abbrev mutual
  -- statements come of it, the effect in it being done
  pub node_needs : t.ValueNode → Bool
  node_needs (t.apply o es) = need es
  node_needs (t.logic c a b) = not (has_effect b)
  node_needs (t.choose c a b) = not (has_effect a || has_effect b)
  node_needs _ = false

  pub needs : t.Value → Bool
  needs (t.typed node type line) = node_needs node

  pub need : t.Values → Bool
  need t.stop = false
  need (t.more e es) = needs e || need es

-- the first operand, and then the others
abbrev pub put_before : Made → Mades → Mades
put_before x y = record { before = join x.before y.before; values = t.more x.value y.values; next_temp = y.next_temp }

abbrev pub op_made : CoreType → (line : ℕ) → Op → (ℕ → Mades) → ℕ → Made
op_made type l o f n = let y = f n in record { before = y.before; value = t.typed (t.apply o y.values) type l; next_temp = y.next_temp }

module _ (xs : List Variable) where
  abbrev pub save_if : Bool → Made → Made
  save_if b m = if b && has_checks xs m.value then save m else m

  abbrev mutual
    -- an expression whose effect is done and left the value d
    pub pure_node : t.Value → CoreType → (line : ℕ) → t.ValueNode → Plan
    pure_node d type l (t.constant z) = leafy (kept (t.typed (t.constant z) type l))
    pure_node d type l t.null = leafy (kept (t.typed t.null type l))
    pure_node d type l (t.temporary n) = leafy (kept no_value)
    pure_node d type l (t.apply o es) = leafy (op_made type l o (pures d es))
    pure_node d type l (t.logic c a b) = if has_effect b then leafy (kept d) else logic_plan type l c (pure d a) (pure d b)
    pure_node d type l (t.choose c a b) =
        if has_effect a || has_effect b then leafy (kept d) else leafy (choice_made type l (pure d c) (pure d a) (pure d b))
    pure_node d type l (t.effect e es) = leafy (kept d)

    pub pure : t.Value → t.Value → Plan
    pure d (t.typed node type line) = pure_node d type line node

    -- operands: one with checks goes to a temporary where a later one needs statements
    pub pures : t.Value → t.Values → ℕ → Mades
    pures d t.stop n = record { before = end; values = t.stop; next_temp = n }
    pures d (t.more e es) n = let x = save_if (need es) ((pure d e).made n) in put_before x (pures d es x.next_temp)

-- ---- expressions as they are spelled

-- what comes first in an expression, and all of it
pub record Plans : Type 0 where
  pub first : (next : ℕ) → Made
  pub all : Plan

abbrev pub nothing_made : ℕ → Made
nothing_made = kept no_value

abbrev pub made_if : Bool → (ℕ → Made) → (ℕ → Made) → ℕ → Made
made_if b x y = if b then x else y

abbrev pub first_value : t.Values → t.Value
first_value t.stop = no_value
first_value (t.more e es) = e

-- an object gets the first value, which is that of the assignment
abbrev pub stored_made : CoreType → (line : ℕ) → Path → Mades → Made
stored_made type l path y = record { before = join y.before (one (store type l path y.values)); value = first_value y.values; next_temp = y.next_temp }

-- a call, whose result goes to a temporary
abbrev pub called_sent : (line function : ℕ) → Mades → Sent
called_sent l f y = record { before = y.before; put = λ n. call (temporary n) f l y.values; next_temp = y.next_temp }

abbrev pub sent_value : CoreType → (line : ℕ) → Sent → Made
sent_value type l x = record { before = join x.before (one (x.put x.next_temp)); value = temp_of type l x.next_temp; next_temp = suc x.next_temp }

-- what is sent to a temporary wherever it is wanted
abbrev pub sending : CoreType → (line : ℕ) → (ℕ → Sent) → Plan
sending type l f = record {
  made = λ n. sent_value type l (f n);
  sent = f;
  test = λ want k n. leaf want k (sent_value type l (f n));
  jumps = false;
}

abbrev pub plans_of : Plan → Plans
plans_of p = record { first = p.made; all = p }

module _ (xs : List Variable) where
  -- what comes first in it, and then what is left
  abbrev pub whole_made : t.Value → (ℕ → Made) → ℕ → Made
  whole_made e first n = let m = first n in after m ((pure xs m.value e).made m.next_temp)

  abbrev pub plain_plans : t.Value → (ℕ → Made) → Plans
  plain_plans e first = record { first = first; all = leafy (whole_made e first) }

  -- operands behind what comes first in them
  abbrev pub operands : t.Values → (ℕ → Made) → ℕ → Mades
  operands es first n =
      let m = first n in
      let y = pures xs m.value es m.next_temp in
      record { before = join m.before y.before; values = y.values; next_temp = y.next_temp }

  -- the same, the value that is assigned going to a temporary
  abbrev pub saved_operands : t.Value → t.Values → (ℕ → Made) → ℕ → Mades
  saved_operands e es first n =
      let m = first n in
      let x = save ((pure xs m.value e).made m.next_temp) in
      let y = put_before x (pures xs m.value es x.next_temp) in
      record { before = join m.before y.before; values = y.values; next_temp = y.next_temp }

  -- the first of these operands is the value, and those of the way follow
  abbrev pub assigned_made : CoreType → (line : ℕ) → Path → t.Values → (ℕ → Made) → ℕ → Made
  assigned_made type l path t.stop first n = stored_made type l path (operands t.stop first n)
  assigned_made type l path (t.more e es) first n = stored_made type l path (saved_operands e es first n)

  -- the other operand of an update, and with it the new value
  abbrev pub changed_made : Change → CoreType → (line : ℕ) → (old : t.Value) → Made → Made
  changed_made by type l a m = record { before = m.before; value = changed by type l a m.value; next_temp = m.next_temp }

  -- an old value that is wanted goes to a temporary
  abbrev pub postfix_made : CoreType → (line : ℕ) → Path → Change → t.Values → (ℕ → Made) → ℕ → Made
  postfix_made type l path by es first n =
      let m = first n in
      let x = save ((pure xs m.value (old_value path type l (other_operands es))).made m.next_temp) in
      let u = save_if xs (need (other_operands es)) (changed_made by type l x.value ((pure xs m.value (first_operand es)).made x.next_temp)) in
      let y = put_before u (pures xs m.value (other_operands es) u.next_temp) in
      record { before = join m.before (join x.before (join y.before (one (store type l path y.values)))); value = x.value; next_temp = y.next_temp }

  abbrev pub update_made : CoreType → (line : ℕ) → Path → Change → UpdateForm → t.Values → (ℕ → Made) → ℕ → Made
  update_made type l path by form.Postfix es first n = postfix_made type l path by es first n
  update_made type l path by f es first n = assigned_made type l path (updating path by type l es) first n

  -- an effect whose value is wanted
  abbrev pub effect_plan : CoreType → (line : ℕ) → Effect → t.Values → (ℕ → Made) → Plan
  effect_plan type l (effect.Assign path) es first = leafy (assigned_made type l path es first)
  effect_plan type l (effect.Update path by f) es first = leafy (update_made type l path by f es first)
  effect_plan type l (effect.Call f) es first = sending type l (λ n. called_sent l f (operands es first n))

  abbrev mutual
    pub node_plans : CoreType → (line : ℕ) → t.ValueNode → Plans
    node_plans type l (t.constant z) = plain_plans (t.typed (t.constant z) type l) nothing_made
    node_plans type l t.null = plain_plans (t.typed t.null type l) nothing_made
    node_plans type l (t.temporary n) = plain_plans (t.typed (t.temporary n) type l) nothing_made
    node_plans type l (t.apply o es) = plain_plans (t.typed (t.apply o es) type l) (first_plan es)
    node_plans type l (t.logic c a b) =
        let all = logic_plan type l c (plans a).all (plans b).all in
        record { first = made_if (has_effect a) (plans a).first (made_if (has_effect b) all.made nothing_made); all = all }
    node_plans type l (t.choose c a b) =
        let all = leafy (choice_made type l (plans c).all (plans a).all (plans b).all) in
        record { first = made_if (has_effect c) (plans c).first (made_if (has_effect a || has_effect b) all.made nothing_made); all = all }
    node_plans type l (t.effect e es) = plans_of (effect_plan type l e es (first_plan es))

    pub plans : t.Value → Plans
    plans (t.typed node type line) = node_plans type line node

    pub first_plan : t.Values → ℕ → Made
    first_plan t.stop = nothing_made
    first_plan (t.more e es) = made_if (has_effect e) (plans e).first (first_plan es)

  abbrev pub planned : t.Value → Plan
  planned e = (plans e).all
