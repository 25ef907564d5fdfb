-- Conditions of two operands, over any plans.
use Rattle.std.proofs.Common.{◌≡◌, ℕ, suc, Bool, true, false, not, List, [], refl, sym, ap, ◌∙◌, subst}
use Rattle.std.proofs.Math.Bool.{beq}
use Rattle.std.proofs.lemmas.Bool.{false≢true}
use Rattle.typed_prog.specs.declared.types.CoreType.{CoreType}
use Rattle.typed_prog.specs.declared.operators.Connective.{Connective}
use Rattle.typed_prog.specs.declared.tree.Value.{Value}
use Rattle.typed_prog.specs.View.{view_value}
use Rattle.c_runs.specs.Core as c
use Rattle.core_trees.specs.declared.statements.Core.{Core}
use Rattle.core_trees.specs.declared.statements.Core.TheVariants as core
use Rattle.core_trees.proofs.Equations.{view_core-Around}
use Rattle.core_trees.specs.View.{view_core, view_cores}
use Rattle.c_runs.specs.Values.{decides, agree}
use Rattle.c_runs.specs.Plans.{Made, Tests, Plan, jump, leaf, flag, logic_test}
use Rattle.normal_steps.specs.Into.{MadeInto, TestsInto}
use Rattle.normal_steps.proofs.Joins.{join_twice}

-- the test of a value that was made
pub leaf_done : (old mid new : List Core) (m : Made) (v : Value) (want : Bool) (k n : ℕ) → MadeInto old mid m v n → view_cores new ≡ c.join (view_cores mid) (c.one (jump want k (view_value v))) → TestsInto old new (leaf want k m) n
leaf_done old mid new m v want k n h p = record {
  pushed = join_twice (view_cores old) (view_cores mid) (view_cores new) m.before (c.one (jump want k m.value)) h.pushed (p ∙ ap (λ e. c.join (view_cores mid) (c.one (jump want k e))) h.value_is);
  next_is = h.next_is;
}

agree_equal : (a b : Bool) → a ≡ b → agree a b ≡ true
agree_equal true true h = refl
agree_equal true false h = absurd (false≢true (sym h))
agree_equal false true h = absurd (false≢true h)
agree_equal false false h = refl

agree_other : (a b : Bool) → beq a b ≡ false → agree a b ≡ false
agree_other true true h = h
agree_other true false h = refl
agree_other false true h = refl
agree_other false false h = h

pub straight_done : (old mid new : List Core) (a b : Plan) (how : Connective) (d want : Bool) (k t n n' : ℕ) → d ≡ decides how → beq d want ≡ false → TestsInto old mid (a.test want k t) n → TestsInto mid new (b.test want k n) n'
    → TestsInto old new (logic_test how a b want k t) n'
straight_done old mid new a b how d want k t n n' s e h g =
    let x = a.test want k t in
    let g' : TestsInto mid new (b.test want k x.next_temp) n' = subst (λ n. TestsInto mid new (b.test want k n) n') h.next_is g in
    let differ : agree (decides how) want ≡ false = agree_other (decides how) want (ap (λ x. beq x want) (sym s) ∙ e) in
    rw differ (record { pushed = join_twice (view_cores old) (view_cores mid) (view_cores new) x.tests (b.test want k x.next_temp).tests h.pushed g'.pushed; next_is = g'.next_is })

pub crossed_done : (old new none in1 in2 : List Core) (a b : Plan) (how : Connective) (d want : Bool) (k k' t n n' : ℕ) → d ≡ decides how → d ≡ want → none ≡ [] → k' ≡ suc k → TestsInto none in1 (a.test (not want) 0 t) n
    → TestsInto in1 in2 (b.test want k' n) n' → view_cores new ≡ c.join (view_cores old) (c.one (view_core (core.Around in2))) → TestsInto old new (logic_test how a b want k t) n'
crossed_done old new none in1 in2 a b how d want k k' t n n' s e z up h0 g0 p =
    let x = a.test (not want) 0 t in
    let h : TestsInto [] in1 x n = subst (λ xs. TestsInto xs in1 x n) z h0 in
    let g1 : TestsInto in1 in2 (b.test want (suc k) n) n' = subst (λ k. TestsInto in1 in2 (b.test want k n) n') up g0 in
    let y = b.test want (suc k) x.next_temp in
    let g : TestsInto in1 in2 y n' = subst (λ n. TestsInto in1 in2 (b.test want (suc k) n) n') h.next_is g1 in
    let both : view_cores in2 ≡ c.join x.tests y.tests = g.pushed ∙ ap (λ z. c.join z y.tests) h.pushed in
    let same : agree (decides how) want ≡ true = agree_equal (decides how) want (sym s ∙ e) in
    rw same (record { pushed = p ∙ ap (λ s. c.join (view_cores old) (c.one s)) (view_core-Around in2 ∙ ap c.around both); next_is = g.next_is })

-- the flag of tests that were made in a list of their own
pub flag_of : (old new none inner : List Core) (type : CoreType) (l n n' : ℕ) (x : Tests) (w : Value) → none ≡ [] → TestsInto none inner x n → MadeInto old new (flag type l (record { tests = view_cores inner; next_temp = n })) w n'
    → MadeInto old new (flag type l x) w n'
flag_of old new none inner type l n n' x w z h m =
    let tests_are : view_cores inner ≡ x.tests = h.pushed ∙ ap (λ xs. c.join (view_cores xs) x.tests) z in
    let m1 : MadeInto old new (flag type l (record { tests = x.tests; next_temp = n })) w n' = subst (λ (ss : c.Cores). MadeInto old new (flag type l (record { tests = ss; next_temp = n })) w n') tests_are m in
    subst (λ n. MadeInto old new (flag type l (record { tests = x.tests; next_temp = n })) w n') h.next_is m1
