-- Tables, layouts and cells; and that a way inside of an object leads to a cell.
use Rattle.std.proofs.Common.{◌≡◌, ℕ, zero, suc, ◌+◌, ◌*◌, ◌<◌, Bool, true, false, ◌&&◌, ℤ, pos, negsuc, ◌+ℤ◌, ◌-ℤ◌, ◌*ℤ◌, neg_ℤ, List, [], ◌∷◌, length, Some, refl, sym, ap, ◌∙◌, subst, T, arith}
use Rattle.std.specs.Prelude.{slice_get, int_le, int_lt, ◌≤ℤ◌, ◌<ℤ◌}
use lib.Signed.{lt_z_yes}
use Rattle.std.proofs.lemmas.Int.{ints}
use Rattle.std.proofs.lemmas.Bool.{and_parts}
use Rattle.std.proofs.lemmas.Bool.Decides.{Decides-eqb}
use Rattle.wp_base.specs.declared.kinds.CellKind.{CellKind}
use Rattle.wp_base.specs.declared.kinds.CellKind.TheVariants as cell
use Rattle.wp_base.specs.declared.kinds.Layout.{Layout}
use Rattle.wp_base.specs.Kinds.{cell_place}
use Rattle.wp_base.specs.Blocks.{Block, ended, live, Table, count, or_ended, block_at, block_cells, same_cell, is_some_cell, is_cell, cells_of, block_of, same_cells, is_block, has_layout}
use Rattle.wp_base.specs.Kinds.{is_signed}
use Rattle.wp_base.specs.Blocks.{len, is_live}
use Rattle.c_kinds.specs.declared.models.Machdep.{Machdep}
use Rattle.c_kinds.specs.declared.models.Machdep.TheVariants as model
use Rattle.c_kinds.specs.Models.{high, holds, difference_kind}
use Rattle.std.proofs.Math.Nat.{div-le_self}
use Rattle.qed_terms.specs.Operators.{is_equal, quotient}
use Rattle.c_runs.proofs.Numbers.{zero_when, signed_ends, in_between}
use Rattle.c_kinds.proofs.Converting.{le_test, test_le, both_true}
use Rattle.typed_prog.specs.declared.operators.Step.{Step}
use Rattle.typed_prog.specs.declared.operators.Step.TheVariants as step
use Rattle.c_runs.specs.TruthStates.{Value, number, pointer, addresses, region, number_of, offset_of, of_kind}
use Rattle.c_runs.specs.TruthStates as value
use Rattle.c_runs.specs.Truth.{value_at}
use Rattle.c_runs.specs.Program.{Facts}
use Rattle.c_runs.specs.Operators.{index, may_point, may_compare}
use Rattle.c_runs.specs.Objects.{along, is_index}
use Rattle.c_runs.specs.Scopes.{is_content}
use Rattle.c_runs.specs.Checks.{Check, index_checks}
use Rattle.c_runs.specs.Tests.{step_test}
use Rattle.c_runs.proofs.Operators.{at_step}
use Rattle.value_terms.specs.Typed.{ReachesFrom}
use Rattle.value_terms.proofs.Listing.{all}

from_t : (b : Bool) → T b → b ≡ true
from_t true t = refl
from_t false t = absurd t

less_of : (a b : ℤ) → int_lt a b ≡ true → a <ℤ b
less_of a b e = lt_z_yes (subst T (sym e) tt)

pub less_test : (a b : ℤ) → a <ℤ b → int_lt a b ≡ true
less_test a b h = from_t (int_lt a b) h.lt

-- ---- layouts

same_self : (k : CellKind) → same_cell k k ≡ true
same_self k = (Decides-eqb (cell_place k) (cell_place k)).1 refl

same_again : (k c d : CellKind) → same_cell c d ≡ true → same_cell k d ≡ true → same_cell k c ≡ true
same_again k c d h g =
    (Decides-eqb (cell_place k) (cell_place c)).1
    ((Decides-eqb (cell_place k) (cell_place d)).0 g ∙ sym ((Decides-eqb (cell_place c) (cell_place d)).0 h))

same_at : (cs ds : List CellKind) (n : ℕ) (k : CellKind) → same_cells cs ds ≡ true → is_some_cell k (slice_get ds n) ≡ true
    → is_some_cell k (slice_get cs n) ≡ true
same_at [] [] n k h g = g
same_at [] (d ∷ ds) n k h g = absurd cc
same_at (c ∷ cs) [] n k h g = absurd cc
same_at (c ∷ cs) (d ∷ ds) zero k h g = same_again k c d (and_parts (same_cell c d) _ h).0 g
same_at (c ∷ cs) (d ∷ ds) (suc n) k h g = same_at cs ds n k (and_parts (same_cell c d) _ h).1 g

cells_by : (b : Block) (cs : List CellKind) (w : Bool) → is_block b (live cs w) ≡ true → same_cells (block_cells b) cs ≡ true
cells_by ended cs w h = absurd cc
cells_by (live ds v) cs w h = (and_parts (same_cells ds cs) _ h).0

-- a cell of the layout is one of the block
pub cell_there : (t : Table) (b : ℤ) (l : Layout) (n : ℕ) (k : CellKind) → has_layout t b l ≡ true → slice_get (cells_of l) n ≡ Some k
    → is_cell k t b (pos n) ≡ true
cell_there t b l n k h g =
    same_at (block_cells (block_at t b)) (cells_of l) n k (cells_by (block_at t b) (cells_of l) l.writable h) (ap (is_some_cell k) g ∙ same_self k)

in_list : (t : Table) (n : ℕ) (b : Block) → is_block (or_ended (slice_get t n)) b ≡ true → n < length t
in_list [] n b h = absurd cc
in_list (c ∷ t) zero b h = omega arith
in_list (c ∷ t) (suc n) b h = let rest = in_list t n b h in omega (arith, rest)

-- a block that is live was made
pub in_table : (t : Table) (b : ℤ) (l : Layout) → has_layout t b l ≡ true → (int_le (pos 0) b && int_lt b (count t)) ≡ true
unfolding block_at
in_table t (pos zero) l h = absurd cc
in_table t (pos (suc n)) l h =
    let below = in_list t n (block_of l) h in
    both_true (le_test (pos 0) (pos (suc n)) (omega (arith, ints))) (less_test (pos (suc n)) (count t) (omega (arith, ints, below)))
in_table t (negsuc n) l h = absurd cc

-- ---- contents

pub of_kind_same : (p : Facts) (n : ℤ) (k : CellKind) (v : Value) → is_content p n k v ≡ true → of_kind k v ≡ v
of_kind_same p n (cell.Of k) (number z) h = refl
of_kind_same p n (cell.Of k) (pointer b o) h = absurd cc
of_kind_same p n (cell.Of k) (addresses s) h = absurd cc
of_kind_same p n (cell.Of k) (region cs s) h = absurd cc
of_kind_same p n cell.Ptr (number z) h = absurd cc
of_kind_same p n cell.Ptr (pointer b o) h = refl
of_kind_same p n cell.Ptr (addresses s) h = absurd cc
of_kind_same p n cell.Ptr (region cs s) h = absurd cc

-- a pointer, and its block
pub record IsPointer (t : ℤ) (v : Value) : Type 0 where
  pub same : v ≡ pointer (value.block_of v) (offset_of v)
  pub made : (int_le (pos 0) (value.block_of v) && int_lt (value.block_of v) t) ≡ true

pub pointer_is : (p : Facts) (n : ℤ) (v : Value) → is_content p n cell.Ptr v ≡ true → IsPointer n v
pointer_is p n (number z) h = absurd cc
pointer_is p n (pointer b o) h = record { same = refl; made = h }
pointer_is p n (addresses s) h = absurd cc
pointer_is p n (region cs s) h = absurd cc

-- ---- ways

pub block_along : (vs : List Value) (ss : List Step) (v : Value) → value.block_of (along vs ss v) ≡ value.block_of v
block_along vs [] v = refl
block_along vs (step.Field field offset ∷ ss) v = block_along vs ss _
block_along vs (step.Element operand size many line ∷ ss) v = block_along vs ss _
block_along vs (step.Moved operand size ∷ ss) v = block_along vs ss _

record IsBelow (n : ℕ) (z : ℤ) : Type 0 where
  at : ℕ
  same : z ≡ pos at
  below : at < n

index_below : (n : ℕ) (z : ℤ) → is_index n z ≡ true → IsBelow n z
index_below n (pos i) h = record { at = i; same = refl; below = below i (and_parts (int_le (pos 0) (pos i)) _ h).1 }
  where
    below : (i : ℕ) → int_lt (pos i) (pos n) ≡ true → i < n
    below i e = let l = less_of (pos i) (pos n) e in omega (arith, ints, l)
index_below n (negsuc i) h = absurd cc

-- each index of a declared array is below its length
abbrev pub IndicesMet : (vs : List Value) (first : ℕ) → List Step → (Check → Bool) → Type 0
IndicesMet vs n ss met = (i k l : ℕ) → k ≡ n + i → met (at_step index l k) ≡ step_test vs (slice_get ss i)

pub record Reached (cells : List CellKind) (k : CellKind) (v : Value) : Type 0 where
  pub at : ℕ
  pub offset : offset_of v ≡ pos at
  pub found : slice_get cells at ≡ Some k

pub reached : (vs : List Value) (ss : List Step) (n at : ℕ) (cells : List CellKind) (k : CellKind) (v : Value) (met : Check → Bool)
    → offset_of v ≡ pos at → ReachesFrom at cells ss k → IndicesMet vs n ss met
    → all met (index_checks n ss) ≡ true → Reached cells k (along vs ss v)
reached vs [] n at cells k v met e h test a = record { at = at; offset = e; found = h }
reached vs (step.Field field offset ∷ ss) n at cells k v met e h test a =
    reached vs ss (suc n) (at + offset) cells k _ met (ap (λ z. z +ℤ pos offset) e) h (λ i j l q. test (suc i) j l (omega (arith, q))) a
reached vs (step.Element operand size many line ∷ ss) n at cells k v met e h test a =
    let parts = and_parts (met (at_step index line n)) _ a in
    let i = index_below many (number_of (value_at vs operand)) (sym (test 0 n line (omega arith)) ∙ parts.0) in
    reached vs ss (suc n) (at + size * i.at) cells k _ met
    ((λ j. e j +ℤ (pos size *ℤ i.same j))) (h i.at i.below) (λ i j l q. test (suc i) j l (omega (arith, q))) parts.1
reached vs (step.Moved operand size ∷ ss) n at cells k v met e h test a = absurd h

abbrev pub IsAddress : Value → Type 0
IsAddress v = v ≡ pointer (value.block_of v) (offset_of v)

-- each address on a way is a pointer where its start is one
pub along_pointer : (vs : List Value) (ss : List Step) (v : Value) → IsAddress v → IsAddress (along vs ss v)
along_pointer vs [] v h = h
along_pointer vs (step.Field field offset ∷ ss) v h = along_pointer vs ss _ refl
along_pointer vs (step.Element operand size many line ∷ ss) v h = along_pointer vs ss _ refl
along_pointer vs (step.Moved operand size ∷ ss) v h = along_pointer vs ss _ refl

-- ---- differences

pub equal_when : (a b : ℤ) → is_equal a b ≡ true → a ≡ b
equal_when a b h = let z = zero_when (a -ℤ b) h in omega (arith, ints, z)

-- a quotient by a size is no larger than what is divided
quotient_near : (a : ℤ) (d n : ℕ) → neg_ℤ (pos n) ≤ℤ a → a ≤ℤ pos n → (neg_ℤ (pos n) ≤ℤ quotient a (pos d)) × (quotient a (pos d) ≤ℤ pos n)
quotient_near a zero n p q = (omega (arith, ints), omega (arith, ints))
quotient_near (pos a) (suc d) n p q = let le = div-le_self a (suc d) in (omega (arith, ints, le), omega (arith, ints, le, q))
quotient_near (negsuc a) (suc d) n p q = let le = div-le_self (suc a) (suc d) in (omega (arith, ints, le, p), omega (arith, ints, le))

-- where two pointers lead into one block, the kind of differences holds theirs
difference_signed : (m : Machdep) → is_signed (difference_kind m) ≡ true
difference_signed model.X86_32 = refl
difference_signed model.X86_64 = refl

near_held : (m : Machdep) (n : ℕ) (z : ℤ) → pos n ≤ℤ high m (difference_kind m) → neg_ℤ (pos n) ≤ℤ z → z ≤ℤ pos n → holds m (difference_kind m) z ≡ true
near_held m n z top p q =
    let e = signed_ends m (difference_kind m) (difference_signed m) in
    let hi = e.high_is in
    let lo = e.low_is in
    let most : pos n ≤ℤ pos e.most = subst (λ h. pos n ≤ℤ h) hi top in
    in_between m (difference_kind m) z (rw lo (omega (arith, ints, most, p))) (rw hi (omega (arith, ints, most, q)))

pub difference_held : (m : Machdep) (t : Table) (size : ℕ) (v w : Value) → ((b : ℤ) → int_le (len t b) (high m (difference_kind m)) ≡ true)
    → may_compare t v w ≡ true → holds m (difference_kind m) (quotient (offset_of v -ℤ offset_of w) (pos size)) ≡ true
difference_held m t size v w short h =
    let parts = and_parts (is_equal (value.block_of v) (value.block_of w)) _ h in
    let both = and_parts (may_point t v) _ parts.1 in
    let first = and_parts (is_live t (value.block_of v) && int_le (pos 0) (offset_of v)) _ both.0 in
    let second = and_parts (is_live t (value.block_of w) && int_le (pos 0) (offset_of w)) _ both.1 in
    let low_v = test_le (pos 0) (offset_of v) (and_parts (is_live t (value.block_of v)) _ first.0).1 in
    let low_w = test_le (pos 0) (offset_of w) (and_parts (is_live t (value.block_of w)) _ second.0).1 in
    let high_v = test_le (offset_of v) (len t (value.block_of v)) first.1 in
    let same = equal_when (value.block_of v) (value.block_of w) parts.0 in
    let high_w : offset_of w ≤ℤ len t (value.block_of v) =
    subst (λ b. offset_of w ≤ℤ len t b) (sym same) (test_le (offset_of w) (len t (value.block_of w)) second.1) in
    let top = test_le (len t (value.block_of v)) (high m (difference_kind m)) (short (value.block_of v)) in
    let n = length (block_cells (block_at t (value.block_of v))) in
    let near = quotient_near (offset_of v -ℤ offset_of w) size n (omega (arith, ints, low_v, high_w)) (omega (arith, ints, low_w, high_v)) in
    near_held m n _ top near.0 near.1
