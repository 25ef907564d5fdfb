-- What single steps push.
use Rattle.std.proofs.Common.{◌≡◌, ℕ, Bool, true, false, List, Option, Some, None, refl, sym, ap, ◌∙◌, subst}
use Rattle.std.specs.Borrow.{Bor}
use Rattle.typed_prog.specs.declared.tree.Value.{Value}
use Rattle.typed_prog.specs.Tree as t
use Rattle.typed_prog.specs.View.{view_value}
use Rattle.c_runs.specs.Program.{Stmts, Variable}
use Rattle.c_runs.specs.Core as c
use Rattle.core_trees.specs.declared.statements.Core.{Core}
use Rattle.core_trees.specs.declared.statements.Core.TheVariants as core
use Rattle.core_trees.specs.View.{view_core, view_cores}
use Rattle.core_trees.proofs.Equations.{view_core-Give}
use Rattle.c_runs.specs.Plans.{Made, kept, save, planned}
use Rattle.program_trees.specs.View.{view_option}
use Rattle.c_runs.specs.Normal.{given, loop_test, loop_step, is_settled, save_unless, dispatch}
use Rattle.normal_steps.specs.Into.{MadeInto, TestsInto, DidInto}
use Rattle.normal_steps.proofs.Joins.{join_end, join_twice}
use Rattle.normal_bodies.specs.Parts.{alone, Begins, operand}

pub one_done : (old new : List Core) (s : c.Core) (n : ℕ) → view_cores new ≡ c.join (view_cores old) (c.one s) → DidInto old new (alone s n) n
one_done old new s n p = record { pushed = p; next_is = refl }

-- ---- what is returned

pub given_nothing : (old new : List Core) (xs : List Variable) (e : Option (Bor Value)) (n : ℕ) → e ≡ None → view_cores new ≡ c.join (view_cores old) (c.one (view_core (core.Give None)))
    → DidInto old new (given xs (view_option e) n) n
given_nothing old new xs e n h p =
    rw h (record { pushed = p ∙ ap (λ s. c.join (view_cores old) (c.one s)) (view_core-Give None); next_is = refl })

pub given_value : (old mid new : List Core) (m : Made) (v : Value) (n : ℕ) → MadeInto old mid m v n → view_cores new ≡ c.join (view_cores mid) (c.one (view_core (core.Give (Some v))))
    → DidInto old new (record { did = c.join m.before (c.one (c.give (Some m.value))); next_temp = m.next_temp }) n
given_value old mid new m v n h p = record {
  pushed = join_twice (view_cores old) (view_cores mid) (view_cores new) m.before (c.one (c.give (Some m.value))) h.pushed
      (p ∙ ap (λ s. c.join (view_cores mid) (c.one s)) (view_core-Give (Some v) ∙ ap (λ e. c.give (Some e)) h.value_is));
  next_is = h.next_is;
}

-- ---- loops

pub no_test : (old : List Core) (xs : List Variable) (e : Option (Bor Value)) (n : ℕ) → e ≡ None → TestsInto old old (loop_test xs (view_option e) n) n
no_test old xs e n h = rw h (record { pushed = sym (join_end (view_cores old)); next_is = refl })

pub no_step : (old : List Core) (xs : List Variable) (e : Option (Bor Value)) (n : ℕ) → e ≡ None → DidInto old old (loop_step xs (view_option e) n) n
no_step old xs e n h = rw h (record { pushed = sym (join_end (view_cores old)); next_is = refl })

-- ---- the operand of a switch

pub stays : (old : List Core) (v : Value) (n : ℕ) → is_settled (view_value v) ≡ true → MadeInto old old (save_unless (is_settled (view_value v)) (kept (view_value v) n)) v n
stays old v n h = rw h (record { pushed = sym (join_end (view_cores old)); value_is = refl; next_is = refl })

pub goes : (old new : List Core) (v w : Value) (n k : ℕ) → is_settled (view_value v) ≡ false → MadeInto old new (save (kept (view_value v) n)) w k
    → MadeInto old new (save_unless (is_settled (view_value v)) (kept (view_value v) n)) w k
goes old new v w n k h m = rw h m

settled_twice : (old mid new : List Core) (m : Made) (v : t.Value) (n : ℕ) (w : Value) (k : ℕ) → view_cores mid ≡ c.join (view_cores old) m.before → v ≡ m.value → n ≡ m.next_temp
    → MadeInto mid new (save_unless (is_settled v) (kept v n)) w k → MadeInto old new (save_unless (is_settled m.value) m) w k
settled_twice old mid new m v n w k p e d h = by_form (is_settled m.value) (subst (λ n. MadeInto mid new (save_unless (is_settled m.value) (kept m.value n)) w k) d (subst (λ v. MadeInto mid new (save_unless (is_settled v) (kept v n)) w k) e h))
  where
    by_form : (b : Bool) → MadeInto mid new (save_unless b (kept m.value m.next_temp)) w k → MadeInto old new (save_unless b m) w k
    by_form true g = record { pushed = g.pushed ∙ join_end (view_cores mid) ∙ p; value_is = g.value_is; next_is = g.next_is }
    by_form false g = record {
      pushed = join_twice (view_cores old) (view_cores mid) (view_cores new) m.before (c.one (c.set m.next_temp m.value)) p g.pushed;
      value_is = g.value_is;
      next_is = g.next_is;
    }

pub operand_settled : (old mid new lead : List Core) (xs : List Variable) (e : t.Value) (ss : Stmts) (n : ℕ) (v : Value) (k : ℕ) (w : Value) (last : ℕ) → MadeInto old mid ((planned xs e).made n) v k
    → MadeInto mid new (save_unless (is_settled (view_value v)) (kept (view_value v) k)) w last → view_cores lead ≡ dispatch (view_value w) ss ss
    → Begins (view_cores old) (view_cores new) (operand xs e n) ss (view_cores lead) last
operand_settled old mid new lead xs e ss n v k w last h g d =
    let m = (planned xs e).made n in
    let whole = settled_twice old mid new m (view_value v) k w last h.pushed h.value_is h.next_is g in
    record { pushed = whole.pushed; lead_is = d ∙ ap (λ v. dispatch v ss ss) whole.value_is; next_is = whole.next_is }
