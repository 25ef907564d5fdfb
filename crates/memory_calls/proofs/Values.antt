-- Values of their kinds, as one or two integers, and what the facts of a change tell of them.
use Rattle.std.proofs.Common.{◌≡◌, ◌↔◌, true, false, ℤ, pos, List, ◌∷◌, map, refl, sym, arith}
use Rattle.std.specs.Prelude.{neg_ℤ, int_le, int_lt}
use Rattle.std.proofs.lemmas.Bool.{false≢true, and_parts}
use Rattle.std.proofs.lemmas.Int.{ints}
use Rattle.wp_base.specs.declared.kinds.CellKind.{CellKind}
use Rattle.wp_base.specs.declared.kinds.CellKind.TheVariants as cell
use Rattle.wp_base.specs.Blocks.{Table, count}
use Rattle.c_kinds.specs.Models.{low, high}
use Rattle.c_kinds.proofs.Converting.{test_le, le_test}
use Rattle.qed_terms.specs.Meaning as sense
use Rattle.c_runs.specs.TruthStates.{Value, number, pointer, addresses, region, number_of, block_of, offset_of}
use Rattle.c_runs.specs.Program.{Facts}
use Rattle.c_runs.specs.States.{plain_globals}
use Rattle.c_runs.specs.Scopes.{is_content}
use Rattle.c_runs.specs.Entry.{is_value, leads_well}
use Rattle.typed_memories.proofs.Tests.{both_so}
use Rattle.memory_steps.specs.State.{Datum, State}
use Rattle.memory_steps.specs.Forms.{AllTold}
use Rattle.memory_words.specs.Places.{number_in}
use Rattle.memory_words.specs.Leaves.{leaf_name, fact}
use Rattle.memory_words.specs.Shapes.{is_pointer_cell}
use Rattle.memory_words.specs.Standing.{IsHeldAs}
use Rattle.memory_calls.specs.Havoc.{range_facts}

-- ---- values as integers

abbrev pub value_of : CellKind → (first second : ℤ) → Value
value_of (cell.Of k) x y = number x
value_of cell.Ptr x y = pointer x y

abbrev pub first_of : CellKind → Value → ℤ
first_of (cell.Of k) v = number_of v
first_of cell.Ptr v = block_of v

pub held_so : (k : CellKind) (v : Value) (x y : ℤ) → v ≡ value_of k x y → IsHeldAs k v x y
held_so (cell.Of k) v x y e = e
held_so cell.Ptr v x y e = e

pub so_held : (k : CellKind) (v : Value) (x y : ℤ) → IsHeldAs k v x y → v ≡ value_of k x y
so_held (cell.Of k) v x y e = e
so_held cell.Ptr v x y e = e

-- a value of a kind is what its integers are
pub content_parts : (p : Facts) (n : ℤ) (k : CellKind) (v : Value) → is_content p n k v ≡ true → v ≡ value_of k (first_of k v) (offset_of v)
content_parts p n (cell.Of k) (number z) h = refl
content_parts p n (cell.Of k) (pointer b o) h = absurd (false≢true h)
content_parts p n (cell.Of k) (addresses s) h = absurd (false≢true h)
content_parts p n (cell.Of k) (region ks s) h = absurd (false≢true h)
content_parts p n cell.Ptr (number z) h = absurd (false≢true h)
content_parts p n cell.Ptr (pointer b o) h = refl
content_parts p n cell.Ptr (addresses s) h = absurd (false≢true h)
content_parts p n cell.Ptr (region ks s) h = absurd (false≢true h)

above_hidden : (n : _) (b : ℤ) → int_le (pos 0) b ≡ true → int_le (neg_ℤ (pos n)) b ≡ true
above_hidden n b h = let e = test_le (pos 0) b h in le_test (neg_ℤ (pos n)) b (omega (arith, ints, e))

-- what a cell may hold is a value, which leads well
pub content_value : (p : Facts) (t : Table) (k : CellKind) (v : Value) → is_content p (count t) k v ≡ true → (is_value p t k v ≡ true) × (leads_well v ≡ true)
content_value p t (cell.Of k) (number z) h = (h, refl)
content_value p t (cell.Of k) (pointer b o) h = absurd (false≢true h)
content_value p t (cell.Of k) (addresses s) h = absurd (false≢true h)
content_value p t (cell.Of k) (region ks s) h = absurd (false≢true h)
content_value p t cell.Ptr (number z) h = absurd (false≢true h)
content_value p t cell.Ptr (pointer b o) h =
    let both = and_parts (int_le (pos 0) b) (int_lt b (count t)) h in
    (both_so (int_lt b (count t)) (int_le (neg_ℤ (pos (plain_globals p))) b) both.1 (above_hidden (plain_globals p) b both.0), both.0)
content_value p t cell.Ptr (addresses s) h = absurd (false≢true h)
content_value p t cell.Ptr (region ks s) h = absurd (false≢true h)

-- integers don't ask for blocks
pub integer_anywhere : (p : Facts) (n n' : ℤ) (k : CellKind) (v : Value) → is_pointer_cell k ≡ false → is_content p n k v ≡ true → is_content p n' k v ≡ true
integer_anywhere p n n' (cell.Of k) (number z) is h = h
integer_anywhere p n n' (cell.Of k) (pointer b o) is h = absurd (false≢true h)
integer_anywhere p n n' (cell.Of k) (addresses s) is h = absurd (false≢true h)
integer_anywhere p n n' (cell.Of k) (region ks s) is h = absurd (false≢true h)
integer_anywhere p n n' cell.Ptr v is h = absurd (false≢true (sym is))

-- ---- the facts of a change

module _ (m : sense.World) (p : Facts) (present : State) (olds : List State) (d : Datum) where
  pub range_told : (k : CellKind) (y : ℤ) → AllTold (present ∷ olds) (map (fact m) (range_facts p k)) d
      ↔ (is_content p (count present.table) k (value_of k (number_in d) y) ≡ true)
  unfolding leaf_name
  range_told (cell.Of k) y = (
    (λ h. both_so (int_le (low p.model k) (number_in d)) (int_le (number_in d) (high p.model k)) (h.0 (pos 0) (pos 0)) (h.1.0 (pos 0) (pos 0))),
    (λ h. let both = and_parts (int_le (low p.model k) (number_in d)) (int_le (number_in d) (high p.model k)) h in ((λ b o. both.0), ((λ b o. both.1), tt))),
  )
  range_told cell.Ptr y = (
    (λ h. both_so (int_le (pos 0) (number_in d)) (int_lt (number_in d) (count present.table)) (h.0 (pos 0) (pos 0)) (h.1.0 (pos 0) (pos 0))),
    (λ h. let both = and_parts (int_le (pos 0) (number_in d)) (int_lt (number_in d) (count present.table)) h in ((λ b o. both.0), ((λ b o. both.1), tt))),
  )
