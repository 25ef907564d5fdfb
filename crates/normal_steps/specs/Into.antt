-- What a call that makes statements pushes behind those that are there, and what it answers.
use Rattle.std.specs.Prelude.{◌≡◌, ℕ, suc, List}
use Rattle.typed_prog.specs.declared.types.CoreType.{CoreType}
use Rattle.typed_prog.specs.declared.tree.Value.{Value}
use Rattle.typed_prog.specs.Tree.{values_of}
use Rattle.typed_prog.specs.View.{view_value, view_values}
use Rattle.c_runs.specs.Core as c
use Rattle.core_trees.specs.declared.statements.Core.{Core}
use Rattle.core_trees.specs.View.{view_cores}
use Rattle.c_runs.specs.Plans.{Made, Mades, Tests, Sent, Plan, Condition, temp_of, next_of, fork, into}
use Rattle.c_runs.specs.Normal.{Did}
use Rattle.normal_steps.specs.declared.puts.Put.{Put}
use Rattle.normal_steps.specs.declared.puts.Put.TheVariants as put

-- a value, and the next temporary
pub record MadeInto (old new : List Core) (m : Made) (value : Value) (next_temp : ℕ) : Type 0 where
  pub pushed : view_cores new ≡ c.join (view_cores old) m.before
  pub value_is : view_value value ≡ m.value
  pub next_is : next_temp ≡ m.next_temp

-- operands
pub record MadesInto (old new : List Core) (m : Mades) (values : List Value) (next_temp : ℕ) : Type 0 where
  pub pushed : view_cores new ≡ c.join (view_cores old) m.before
  pub values_are : values_of (view_values values) ≡ m.values
  pub next_is : next_temp ≡ m.next_temp

-- a condition
pub record TestsInto (old new : List Core) (x : Tests) (next_temp : ℕ) : Type 0 where
  pub pushed : view_cores new ≡ c.join (view_cores old) x.tests
  pub next_is : next_temp ≡ x.next_temp

-- what is done for its effect
pub record DidInto (old new : List Core) (x : Did) (next_temp : ℕ) : Type 0 where
  pub pushed : view_cores new ≡ c.join (view_cores old) x.did
  pub next_is : next_temp ≡ x.next_temp

-- the statement that puts a value into a temporary, by the number of that
abbrev pub view_put : Put → (number : ℕ) → c.Core
view_put (put.Made e) n = c.set n (view_value e)
view_put (put.Called f l es) n = c.call (c.temporary n) f l (values_of (view_values es))

-- what goes to a temporary
pub record SentInto (old new : List Core) (x : Sent) (sent : Put) (next_temp : ℕ) : Type 0 where
  pub pushed : view_cores new ≡ c.join (view_cores old) x.before
  pub put_is : view_put sent ≡ x.put
  pub next_is : next_temp ≡ x.next_temp

-- a choice from its condition on
abbrev pub choice_from : CoreType → (line : ℕ) → Condition → Plan → Plan → Made
choice_from type l q a b =
    let x = a.sent (next_of q) in
    let y = b.sent (suc x.next_temp) in
    record { before = fork q (into x.next_temp x) (into x.next_temp y); value = temp_of type l x.next_temp; next_temp = y.next_temp }
