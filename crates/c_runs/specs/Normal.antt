-- The core program of a program as spelled (C11 6.8). `break`, `continue` and labels become exits of blocks.
use Rattle.std.specs.Prelude.{ℕ, zero, suc, ℤ, pos, Bool, true, false, ◌||◌, if◌then◌else◌, List, Option, Some, None}
use Rattle.std.specs.Option.{option_map}
use Rattle.wp_base.specs.declared.kinds.Kind.TheVariants as kind
use Rattle.typed_prog.specs.declared.types.CoreType.{CoreType}
use Rattle.typed_prog.specs.declared.operators.Comparison.TheVariants as cmp
use Rattle.typed_prog.specs.declared.operators.Path.{Path}
use Rattle.typed_prog.specs.declared.operators.Effect.TheVariants as effect
use Rattle.typed_prog.specs.declared.operators.Op.TheVariants as op
use Rattle.typed_prog.specs.Types.{of_kind}
use Rattle.typed_prog.specs.Tree as t
use Rattle.qed_terms.specs.Operators.{is_equal}
use Rattle.c_runs.specs.Program.{Stmt, evaluate, block, initial, choose, loop, switch, case_of, default, break, continue, return_of, assert, Stmts, stop, more, Variable, Function, Program}
use Rattle.c_runs.specs.Values.{have_effect}
use Rattle.c_runs.specs.Run.{updating, is_case, is_default}
use Rattle.c_runs.specs.Core.{Target, nowhere, place, variable, start, call, store, branch, repeat, around, exit, give, claim, scope, Cores, end, then_, join, one}
use Rattle.c_runs.specs.Plans.{Made, Tests, Mades, save, operands, first_plan, planned, condition, next_of, fork, no_value, constant_of, pures, need}

-- what is done, and the next temporary
pub record Did : Type 0 where
  pub did : Cores
  pub next_temp : ℕ

-- ---- values that go somewhere or nowhere

abbrev pub is_temp_node : t.ValueNode → Bool
is_temp_node (t.temporary n) = true
is_temp_node _ = false

abbrev pub is_temp : t.Value → Bool
is_temp e = is_temp_node (t.node_of e)

abbrev pub is_settled_node : t.ValueNode → Bool
is_settled_node (t.temporary n) = true
is_settled_node (t.constant z) = true
is_settled_node _ = false

abbrev pub is_settled : t.Value → Bool
is_settled e = is_settled_node (t.node_of e)

abbrev pub save_unless : Bool → Made → Made
save_unless b m = if b then m else save m

-- for the checks of a value that isn't wanted
abbrev pub dropped : Made → Did
dropped m = let x = save_unless (is_temp m.value) m in record { did = x.before; next_temp = x.next_temp }

abbrev pub called_into : Target → (line function : ℕ) → Mades → Did
called_into to l f y = record { did = join y.before (one (call to f l y.values)); next_temp = y.next_temp }

module _ (xs : List Variable) where
  abbrev pub plain_store : CoreType → (line : ℕ) → Path → Mades → Did
  plain_store type l path y = record { did = join y.before (one (store type l path y.values)); next_temp = y.next_temp }

  -- the result of a call goes to the object at once, whose way asks for nothing that has to be done before
  abbrev pub called_to : CoreType → (line : ℕ) → Path → (call_line function : ℕ) → (arguments others : t.Values) → ℕ → Did
  called_to type l path k f as_ es n = called_into (place type l path (pures xs no_value es n).values) k f (operands xs as_ (first_plan xs as_) n)

  -- an assignment whose value isn't wanted
  abbrev pub stored : CoreType → (line : ℕ) → Path → t.Values → ℕ → Did
  stored type l path (t.more (t.typed (t.effect (effect.Call f) as_) u k) es) n =
      if need es || have_effect es then
      plain_store type l path (operands xs (t.more (t.typed (t.effect (effect.Call f) as_) u k) es) (first_plan xs (t.more (t.typed (t.effect (effect.Call f) as_) u k) es)) n)
      else called_to type l path k f as_ es n
  stored type l path es n = plain_store type l path (operands xs es (first_plan xs es) n)

  -- an expression that is done for its effect and its checks
  abbrev pub effect_of : t.Value → ℕ → Did
  effect_of (t.typed (t.effect (effect.Assign path) es) type l) n = stored type l path es n
  effect_of (t.typed (t.effect (effect.Update path by f) es) type l) n =
      plain_store type l path (operands xs (updating path by type l es) (first_plan xs es) n)
  effect_of (t.typed (t.effect (effect.Call f) es) type l) n = called_into nowhere l f (operands xs es (first_plan xs es) n)
  effect_of e n = dropped ((planned xs e).made n)

  -- a declared variable with its value
  abbrev pub started : (variable : ℕ) → t.Value → ℕ → Did
  started x (t.typed (t.effect (effect.Call f) es) type l) n = called_into (variable x) l f (operands xs es (first_plan xs es) n)
  started x e n = let m = (planned xs e).made n in record { did = join m.before (one (start x m.value)); next_temp = m.next_temp }

  -- the test of a loop: it goes on where it is true
  abbrev pub loop_test : Option t.Value → ℕ → Tests
  loop_test None n = record { tests = end; next_temp = n }
  loop_test (Some e) n = (planned xs e).test true 0 n

  abbrev pub loop_step : Option t.Value → ℕ → Did
  loop_step None n = record { did = end; next_temp = n }
  loop_step (Some e) n = effect_of e n

  abbrev pub given : Option t.Value → ℕ → Did
  given None n = record { did = one (give None); next_temp = n }
  given (Some e) n = let m = (planned xs e).made n in record { did = join m.before (one (give (Some m.value))); next_temp = m.next_temp }

-- ---- labels of a switch

abbrev pub is_label : Stmt → Bool
is_label (case_of z) = true
is_label default = true
is_label _ = false

-- How many blocks stand between here and the label, each of them around what leads to a group of adjacent labels: `open`, the block of a group isn't closed
-- yet. Where there is no such label, the block of the whole switch.
abbrev pub index_of : (Stmt → Bool) → (is_open : Bool) → Stmts → ℕ
index_of q true stop = 1
index_of q false stop = 0
index_of q o (more s ss) =
    if q s then 0
    else if is_label s then index_of q true ss
    else if o then suc (index_of q false ss)
    else index_of q false ss

abbrev pub no_label : Stmt → Bool
no_label s = false

-- the block of the whole switch
abbrev pub whole_switch : (is_open : Bool) → Stmts → ℕ
whole_switch = index_of no_label

abbrev pub close : (is_open : Bool) → Cores → Cores
close true inner = one (around inner)
close false inner = inner

abbrev pub int_type : CoreType
int_type = of_kind kind.Int

abbrev pub truth_of : (line : ℕ) → Bool → t.Value
truth_of l true = constant_of int_type l (pos 1)
truth_of l false = constant_of int_type l (pos 0)

-- whether a value is that of a label; of a constant that is known
abbrev pub label_test_by : t.ValueNode → CoreType → (line : ℕ) → ℤ → t.Value
label_test_by (t.constant y) type l z = truth_of l (is_equal y z)
label_test_by node type l z =
    t.typed (t.apply (op.Compare cmp.Equal) (t.more (t.typed node type l) (t.more (constant_of type l z) t.stop))) int_type l

abbrev pub label_test : t.Value → ℤ → t.Value
label_test (t.typed node type l) z = label_test_by node type l z

-- one test for each label, and then to `default` or to the end
abbrev pub dispatch : t.Value → (all left : Stmts) → Cores
dispatch v all stop = one (exit (index_of is_default false all))
dispatch v all (more (case_of z) ss) = then_ (branch (label_test v z) (one (exit (index_of (is_case z) false all))) end) (dispatch v all ss)
dispatch v all (more s ss) = dispatch v all ss

-- a block's number from under so many more
abbrev pub up : ℕ → ℕ → ℕ
up zero b = b
up (suc k) b = suc (up k b)

-- the statements of a loop: the test before, the body, the step, the test behind it
abbrev pub loop_body : Tests → Cores → Did → Tests → Cores
loop_body x y z u = join x.tests (then_ (around y) (join z.did u.tests))

-- ---- statements

module _ (xs : List Variable) where
  -- b and c: the blocks that `break` and `continue` leave; n: the next temporary
  abbrev mutual
    pub stmt : (b c n : ℕ) → Stmt → Did
    stmt b c n (evaluate e) = effect_of xs e n
    stmt b c n (block ys ss) = let x = stmts b c n ss in record { did = one (scope ys x.did); next_temp = x.next_temp }
    stmt b c n (initial x line e) = started xs x e n
    stmt b c n (choose e s s') =
        let q = condition (planned xs e) n in
        let n1 = next_of q in
        let n2 = (stmt b c n1 s).next_temp in
        record {
          did = fork q (λ k. (stmt (up k b) (up k c) n1 s).did) (λ k. (stmt (up k b) (up k c) n2 s').did);
          next_temp = (stmt b c n2 s').next_temp;
        }
    stmt b c n (loop l before s step behind) =
        let x = loop_test xs before n in
        let y = stmt 1 0 x.next_temp s in
        let z = loop_step xs step y.next_temp in
        let u = loop_test xs behind z.next_temp in
        record { did = one (around (one (repeat l (loop_body x y.did z u)))); next_temp = u.next_temp }
    stmt b c n (switch e ss) =
        let m = (planned xs e).made n in
        let x = save_unless (is_settled m.value) m in
        let y = groups c x.next_temp false (dispatch x.value ss ss) ss in
        record { did = join x.before (one (around y.did)); next_temp = y.next_temp }
    stmt b c n (case_of z) = record { did = end; next_temp = n }
    stmt b c n default = record { did = end; next_temp = n }
    stmt b c n break = record { did = one (exit b); next_temp = n }
    stmt b c n continue = record { did = one (exit c); next_temp = n }
    stmt b c n (return_of e) = given xs e n
    stmt b c n (assert q) = record { did = one (claim q); next_temp = n }

    pub stmts : (b c n : ℕ) → Stmts → Did
    stmts b c n stop = record { did = end; next_temp = n }
    stmts b c n (more s ss) = let x = stmt b c n s in let y = stmts b c x.next_temp ss in record { did = join x.did y.did; next_temp = y.next_temp }

    -- the statements of a switch behind what leads to them
    pub groups : (c n : ℕ) → (is_open : Bool) → Cores → Stmts → Did
    groups c n o inner stop = record { did = close o inner; next_temp = n }
    groups c n o inner (more s ss) =
        if is_label s then groups c n true inner ss
        else
        let b = whole_switch false ss in
        let x = stmt b (up (suc b) c) n s in
        groups c x.next_temp false (join (close o inner) x.did) ss

abbrev pub normal_function : Function Stmts → Function Cores
normal_function f = record {
  params = f.params;
  variables = f.variables;
  result = f.result;
  contract = f.contract;
  body = (stmts f.variables 0 0 0 f.body).did;
  end = f.end;
}

-- what is known of the file stays
abbrev pub normal : Program Stmts → Program Cores
normal p = record { facts = p.facts; functions = λ f. option_map normal_function (p.functions f) }
