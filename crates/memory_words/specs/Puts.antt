-- What is put into slots that stand for a world.
use Rattle.std.specs.Prelude.{◌≡◌, ℕ, Bool, true, false, ℤ, pos, List, ◌∷◌, length}
use Rattle.wp_base.specs.declared.kinds.CellKind.{CellKind}
use Rattle.wp_base.specs.declared.kinds.CellKind.TheVariants as cell
use Rattle.typed_prog.specs.declared.operators.Variable.{Variable}
use Rattle.qed_terms.specs.Meaning as sense
use Rattle.c_runs.specs.TruthStates.{Value, nothing_of}
use Rattle.c_runs.specs.States.{World, plain, with_local}
use Rattle.goal_segments.specs.Told.{with_name}
use Rattle.goal_segments.specs.Segments.{IsAny}
use Rattle.value_terms.specs.Readings.{Term, number_term, block_term, offset_term}
use Rattle.memory_steps.specs.State.{State, HasSort, number}
use Rattle.memory_steps.specs.Step.{Step}
use Rattle.memory_steps.specs.Run.{End, goes_on, Seg}
use Rattle.memory_words.specs.Places.{Place, value, offset, flag, result, result_offset, answer, answer_offset, temporary, temporary_offset, Sizes, IsIn, slots_in, held, with_held}
use Rattle.memory_words.specs.Leaves.{leaves_of, closed}
use Rattle.memory_words.specs.Standing.{Temporaries, IsHeldAs, Frame}

-- ---- places

-- whether slots that stand for a world say something at a place, where these temporaries are used
abbrev pub counts : Temporaries → Place → Bool
counts f (temporary n) = f n
counts f (temporary_offset n) = f n
counts f result = false
counts f result_offset = false
counts f answer = false
counts f answer_offset = false
counts f a = true

-- whether no expression reads a place
abbrev pub is_spare : Place → Bool
is_spare result = true
is_spare result_offset = true
is_spare answer = true
is_spare answer_offset = true
is_spare a = false

-- The same is held at each place that counts and isn't one of these, and numbers where numbers were.
pub record Keeps (z : Sizes) (used : Temporaries) (but : Place → Type 0) (old new : State) : Type 0 where
  pub size : length new.slots ≡ slots_in z
  pub table : new.table ≡ old.table
  pub same : (a : Place) → IsIn z a → counts used a ≡ true → (but a → ⊥) → held z new a ≡ held z old a
  pub sorted : (a : Place) → IsIn z a → HasSort false (held z old a) → HasSort false (held z new a)

abbrev pub NoPlace : Place → Type 0
NoPlace a = ⊥

abbrev pub IsOfTemporary : ℕ → Place → Type 0
IsOfTemporary n (temporary j) = n ≡ j
IsOfTemporary n (temporary_offset j) = n ≡ j
IsOfTemporary n a = ⊥

abbrev pub IsOfVariable : Variable → Place → Type 0
IsOfVariable x (value y) = x ≡ y
IsOfVariable x (offset y) = x ≡ y
IsOfVariable x (flag y) = x ≡ y
IsOfVariable x a = ⊥

-- ---- frames

-- The variable is in scope now, whose block isn't asked for; all else is as before.
pub record ScopeHas (x : ℕ) (old new : Frame) : Type 0 where
  pub now : new.in_scope x ≡ true
  pub scope : (y : ℕ) → (x ≡ y → ⊥) → new.in_scope y ≡ old.in_scope y
  pub lives : (y : ℕ) → (x ≡ y → ⊥) → new.lives y ≡ true → old.lives y ≡ true
  pub table : new.table ≡ old.table
  pub homes : (y : ℕ) → new.homes y ≡ old.homes y

-- a plain variable gets into scope
abbrev pub scope_with : ℕ → Frame → Frame
scope_with x fr = record fr { in_scope = with_name x fr.in_scope; lives = with_name x fr.lives }

-- ---- values of terms

module _ (m : sense.World) (sts : List State) where
  abbrev pub first_value : CellKind → Term → ℤ
  first_value (cell.Of k) u = sense.value m (leaves_of sts) (closed (number_term u))
  first_value cell.Ptr u = sense.value m (leaves_of sts) (closed (block_term u))

  abbrev pub second_value : CellKind → Term → ℤ
  second_value (cell.Of k) u = pos 0
  second_value cell.Ptr u = sense.value m (leaves_of sts) (closed (offset_term u))

-- two places hold these
abbrev pub with_two : Sizes → CellKind → (first second : Place) → (x y : ℤ) → State → State
with_two z (cell.Of k) a b x y st = with_held z a (number x) st
with_two z cell.Ptr a b x y st = with_held z b (number y) (with_held z a (number x) st)

-- A term of the kind has the value in these slots, and its second part also where the place holds its first part meanwhile.
pub record Gives (m : sense.World) (z : Sizes) (olds : List State) (a : Place) (k : CellKind) (u : Term) (v : Value) (st : State) : Type 0 where
  pub held : IsHeldAs k v (first_value m (st ∷ olds) k u) (second_value m (st ∷ olds) k u)
  pub stays : second_value m (with_held z a (number (first_value m (st ∷ olds) k u)) st ∷ olds) k u ≡ second_value m (st ∷ olds) k u

-- ---- runs

-- A word that has one end: it goes on in this state, whatever numbers its checks have.
pub record OneEnd (olds : List State) (b : Step) (st new : State) : Type 0 where
  pub runs : (n : ℕ) → Seg olds n b st (goes_on new)
  pub only : (n : ℕ) (e : End) → Seg olds n b st e → goes_on new ≡ e

-- and of the state this is so
pub record Reaches (olds : List State) (b : Step) (st : State) (so : State → Type 0) : Type 0 where
  pub state : State
  pub end : OneEnd olds b st state
  pub is : so state

-- ---- a plain variable of the function gets into scope

-- The machine makes it: with a value it is 0 or null, and without one it holds anything, whatever contents are left then.
abbrev pub MakesLocal : (has_value : Bool) → CellKind → (variable : ℕ) → (before after : World) → Type 0
MakesLocal true k x w u = u ≡ with_local x (plain (nothing_of k) true) w
MakesLocal false k x w u = (held : Value) × IsAny k held × (contents : List Value) × (u ≡ with_local x (plain held false) (record w { contents = contents }))
