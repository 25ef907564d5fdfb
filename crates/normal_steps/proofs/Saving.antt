-- Values that go to temporaries.
use Rattle.std.proofs.Common.{◌≡◌, ℕ, suc, Bool, true, false, ◌&&◌, List, refl, sym, ap, ◌∙◌}
use Rattle.typed_prog.specs.declared.tree.Value.{Value}
use Rattle.typed_prog.specs.View.{view_value}
use Rattle.c_runs.specs.Core as c
use Rattle.core_trees.specs.declared.statements.Core.{Core}
use Rattle.core_trees.specs.View.{view_cores}
use Rattle.c_runs.specs.Program.{Variable}
use Rattle.c_runs.specs.Checks.{has_checks}
use Rattle.c_runs.specs.Plans.{kept, save, save_if, temp_for}
use Rattle.normal_steps.specs.Into.{MadeInto}
use Rattle.normal_steps.proofs.Joins.{join_end}

pub saved : (old new : List Core) (v w : Value) (n n' : ℕ) → view_cores new ≡ c.join (view_cores old) (c.one (c.set n (view_value v))) → view_value w ≡ temp_for (view_value v) n → n' ≡ suc n
    → MadeInto old new (save (kept (view_value v) n)) w n'
saved old new v w n n' p e k = record { pushed = p; value_is = e; next_is = k }

pub saved_if : (old new : List Core) (xs : List Variable) (needed : Bool) (v w : Value) (n n' : ℕ) → (needed && has_checks xs (view_value v)) ≡ true → MadeInto old new (save (kept (view_value v) n)) w n'
    → MadeInto old new (save_if xs needed (kept (view_value v) n)) w n'
saved_if old new xs needed v w n n' h m = rw h m

pub kept_if : (old : List Core) (xs : List Variable) (needed : Bool) (v : Value) (n : ℕ) → (needed && has_checks xs (view_value v)) ≡ false → MadeInto old old (save_if xs needed (kept (view_value v) n)) v n
kept_if old xs needed v n h = rw h (record { pushed = sym (join_end (view_cores old)); value_is = refl; next_is = refl })

pub not_both : (xs : List Variable) (needed b : Bool) (v : Value) → b ≡ has_checks xs (view_value v) → b ≡ false → (needed && has_checks xs (view_value v)) ≡ false
not_both xs true b v h g = sym h ∙ g
not_both xs false b v h g = refl

pub not_first : (xs : List Variable) (needed : Bool) (v : Value) → needed ≡ false → (needed && has_checks xs (view_value v)) ≡ false
not_first xs needed v h = ap (λ b. b && has_checks xs (view_value v)) h
