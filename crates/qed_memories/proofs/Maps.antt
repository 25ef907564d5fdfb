-- Tests on memories tell no two apart that hold the same at each address.
use Rattle.std.proofs.Common.{◌≡◌, ◌⊎◌, inl, inr, ℕ, Bool, true, false, ◌&&◌, ◌||◌, cond, ℤ, pos, ◌-ℤ◌, ◌-◌, ◌^◌, int_le, int_lt, List, [], ◌∷◌, ◌++◌, refl, sym, ◌∙◌, ap, arith}
use Rattle.std.proofs.lemmas.Int.{ints}
use Rattle.std.proofs.lemmas.Bool.Decides.{Decides-int_eq}
use Rattle.std.specs.Ordering.{int_eq}
use Rattle.std.specs.List.{list_all, list_any}
use Rattle.wp_base.specs.declared.kinds.Kind.{Kind}
use Rattle.wp_base.specs.declared.kinds.Kind.TheVariants as kind
use Rattle.wp_base.specs.declared.kinds.CellKind.TheVariants as cell
use Rattle.wp_base.specs.Kinds.{kind_low, kind_high, kind_bits, whole_high, is_signed}
use Rattle.wp_base.specs.Blocks.{Table, count, is_cell}
use Rattle.qed_terms.specs.Memory.{Memory, Entry, is_at, load, same_memory, is_between, is_well_formed, are_well_formed, Region, is_inside, agree_outside}
use Rattle.qed_linear.proofs.Facts.{and_left, and_right}
use Rattle.qed_linear.proofs.Rounding.{le_test, lt_test, same_tests}
use Rattle.qed_memories.specs.Alike.{SameMap}

-- a test of an address
abbrev Test : Type 0
Test = (block offset : ℤ) → Bool

abbrev all_pass : Test → Memory → Bool
all_pass p m = list_all (λ (e : Entry). p (e.block) (e.offset)) m

pub load_at : (m : Memory) (e : Entry) (b o : ℤ) → load (e ∷ m) b o ≡ cond (is_at b o e) (e.value) (load m b o)
unfolding load
load_at m e b o = refl

load_none : (b o : ℤ) → load [] b o ≡ pos 0
unfolding load
load_none b o = refl

-- where all entries pass, an address passes, or holds 0
everywhere : (p : Test) (m : Memory) → all_pass p m ≡ true → (b o : ℤ) → (p b o ≡ true) ⊎ (load m b o ≡ pos 0)
everywhere p [] k b o = inr (load_none b o)
everywhere p (e ∷ m) k b o = go (is_at b o e) refl (everywhere p m (and_right (p (e.block) (e.offset)) (all_pass p m) k) b o)
  where
    go : (x : Bool) → is_at b o e ≡ x → (p b o ≡ true) ⊎ (load m b o ≡ pos 0) → (p b o ≡ true) ⊎ (load (e ∷ m) b o ≡ pos 0)
    go true f r =
        let s = (Decides-int_eq (e.block) b).0 (and_left (int_eq (e.block) b) (int_eq (e.offset) o) f) in
        let t = (Decides-int_eq (e.offset) o).0 (and_right (int_eq (e.block) b) (int_eq (e.offset) o) f) in
        inl ((λ i. p (sym s i) (sym t i)) ∙ and_left (p (e.block) (e.offset)) (all_pass p m) k)
    go false f (inl r) = inl r
    go false f (inr r) = inr (load_at m e b o ∙ ap (λ c. cond c (e.value) (load m b o)) f ∙ r)

each_passes : (p : Test) (m : Memory) → ((b o : ℤ) → p b o ≡ true) → all_pass p m ≡ true
each_passes p [] h = refl
each_passes p (e ∷ m) h = let a = h (e.block) (e.offset) in let r = each_passes p m h in λ i. a i && r i

append_pass : (p : Test) (m n : Memory) → all_pass p (m ++ n) ≡ all_pass p m && all_pass p n
append_pass p [] n = refl
append_pass p (e ∷ m) n = ap (λ x. p (e.block) (e.offset) && x) (append_pass p m n) ∙ assoc (p (e.block) (e.offset)) (all_pass p m) (all_pass p n)
  where
    assoc : (x y z : Bool) → x && (y && z) ≡ (x && y) && z
    assoc true y z = refl
    assoc false y z = refl

-- where 0 passes, all addresses do
pass_one : (p : Test) (m : Memory) → ((b o : ℤ) → load m b o ≡ pos 0 → p b o ≡ true) → all_pass p m ≡ true → (b o : ℤ) → p b o ≡ true
pass_one p m zero k b o = go (everywhere p m k b o)
  where
    go : (p b o ≡ true) ⊎ (load m b o ≡ pos 0) → p b o ≡ true
    go (inl r) = r
    go (inr r) = zero b o r

pass_two : (p : Test) (m n : Memory) → ((b o : ℤ) → load m b o ≡ pos 0 → load n b o ≡ pos 0 → p b o ≡ true) → all_pass p (m ++ n) ≡ true → (b o : ℤ) → p b o ≡ true
pass_two p m n zero k b o =
    let both = sym (append_pass p m n) ∙ k in
    go (everywhere p m (and_left (all_pass p m) (all_pass p n) both) b o) (everywhere p n (and_right (all_pass p m) (all_pass p n) both) b o)
  where
    go : (p b o ≡ true) ⊎ (load m b o ≡ pos 0) → (p b o ≡ true) ⊎ (load n b o ≡ pos 0) → p b o ≡ true
    go (inl r) s = r
    go (inr r) (inl s) = s
    go (inr r) (inr s) = zero b o r s

alike_one : (p q : Test) (m n : Memory) → ((b o : ℤ) → p b o ≡ q b o) → ((b o : ℤ) → load m b o ≡ pos 0 → p b o ≡ true) → ((b o : ℤ) → load n b o ≡ pos 0 → q b o ≡ true) → all_pass p m ≡ all_pass q n
alike_one p q m n same f g =
    same_tests (all_pass p m) (all_pass q n)
    (λ k. each_passes q n (λ b o. sym (same b o) ∙ pass_one p m f k b o))
    (λ k. each_passes p m (λ b o. same b o ∙ pass_one q n g k b o))

alike_two : (p q : Test) (m n m' n' : Memory) → ((b o : ℤ) → p b o ≡ q b o) → ((b o : ℤ) → load m b o ≡ pos 0 → load n b o ≡ pos 0 → p b o ≡ true) → ((b o : ℤ) → load m' b o ≡ pos 0 → load n' b o ≡ pos 0 → q b o ≡ true)
    → all_pass p (m ++ n) ≡ all_pass q (m' ++ n')
alike_two p q m n m' n' same f g =
    same_tests (all_pass p (m ++ n)) (all_pass q (m' ++ n'))
    (λ k. each_passes q (m' ++ n') (λ b o. sym (same b o) ∙ pass_two p m n f k b o))
    (λ k. each_passes p (m ++ n) (λ b o. same b o ∙ pass_two q m' n' g k b o))

-- ---- equal memories

agree : Memory → Memory → Test
agree m n b o = int_eq (load m b o) (load n b o)

int_itself : (z : ℤ) → int_eq z z ≡ true
int_itself z = (Decides-int_eq z z).1 refl

zeros_agree : (m n : Memory) (b o : ℤ) → load m b o ≡ pos 0 → load n b o ≡ pos 0 → int_eq (load m b o) (load n b o) ≡ true
zeros_agree m n b o f g = (λ i. int_eq (f i) (g i)) ∙ int_itself (pos 0)

pub same_alike : (m n m' n' : Memory) → SameMap m m' → SameMap n n' → same_memory m n ≡ same_memory m' n'
unfolding same_memory
same_alike m n m' n' s t =
    alike_two (λ b o. int_eq (load m b o) (load n b o)) (λ b o. int_eq (load m' b o) (load n' b o)) m n m' n' (λ b o i. int_eq (s b o i) (t b o i)) (zeros_agree m n) (zeros_agree m' n')

-- ---- well formed memories

from_zero : (n : ℕ) → int_le (pos 0) (pos n) ≡ true
from_zero n = le_test (pos 0) (pos n) (omega (arith, ints))

low_zero : (n : ℕ) → int_le (pos 0 -ℤ pos n) (pos 0) ≡ true
low_zero n = le_test (pos 0 -ℤ pos n) (pos 0) (omega (arith, ints))

low_is : (bits : ℕ) (k : Kind) → int_le (kind_low bits k) (pos 0) ≡ true
low_is bits k = go (is_signed k)
  where
    go : (b : Bool) → int_le (cond b (pos 0 -ℤ pos (2 ^ (kind_bits bits k - 1))) (pos 0)) (pos 0) ≡ true
    go true = low_zero (2 ^ (kind_bits bits k - 1))
    go false = refl

whole_high_is : (bits : ℕ) (b : Bool) → int_le (pos 0) (whole_high bits b) ≡ true
whole_high_is bits true = from_zero (2 ^ (bits - 1) - 1)
whole_high_is bits false = from_zero (2 ^ bits - 1)

high_is : (bits : ℕ) (k : Kind) → int_le (pos 0) (kind_high bits k) ≡ true
high_is bits kind.Bool = refl
high_is bits k = whole_high_is (kind_bits bits k) (is_signed k)

abbrev good : (bits : ℕ) → Kind → Table → Memory → Test
good bits k t m b o = cond (is_cell (cell.Of k) t b o) (is_between (kind_low bits k) (kind_high bits k) (load m b o)) (int_eq (load m b o) (pos 0))

zero_good : (bits : ℕ) (k : Kind) (t : Table) (m : Memory) (b o : ℤ) → load m b o ≡ pos 0 → good bits k t m b o ≡ true
zero_good bits k t m b o f = ap (λ z. cond (is_cell (cell.Of k) t b o) (is_between (kind_low bits k) (kind_high bits k) z) (int_eq z (pos 0))) f ∙ go (is_cell (cell.Of k) t b o)
  where
    go : (x : Bool) → cond x (is_between (kind_low bits k) (kind_high bits k) (pos 0)) (int_eq (pos 0) (pos 0)) ≡ true
    go true = let l = low_is bits k in let u = high_is bits k in λ i. l i && u i
    go false = int_itself (pos 0)

pub well_formed_alike : (bits : ℕ) (k : Kind) (t : Table) (m n : Memory) → SameMap m n → is_well_formed bits k t m ≡ is_well_formed bits k t n
unfolding is_well_formed
well_formed_alike bits k t m n s =
    alike_one (good bits k t m) (good bits k t n) m n (λ b o. ap (λ z. cond (is_cell (cell.Of k) t b o) (is_between (kind_low bits k) (kind_high bits k) z) (int_eq z (pos 0))) (s b o)) (zero_good bits k t m) (zero_good bits k t n)

abbrev points : Table → (blocks offsets : Memory) → Test
points t bs os b o = cond (is_cell cell.Ptr t b o) (int_le (pos 0) (load bs b o) && int_lt (load bs b o) (count t)) (int_eq (load bs b o) (pos 0) && int_eq (load os b o) (pos 0))

abbrev points_at : Table → ℤ → ℤ → (y z : ℤ) → Bool
points_at t b o y z = cond (is_cell cell.Ptr t b o) (int_le (pos 0) y && int_lt y (count t)) (int_eq y (pos 0) && int_eq z (pos 0))

zero_points : (t : Table) (bs os : Memory) (b o : ℤ) → load bs b o ≡ pos 0 → load os b o ≡ pos 0 → points t bs os b o ≡ true
zero_points t bs os b o f g = (λ i. points_at t b o (f i) (g i)) ∙ go (is_cell cell.Ptr t b o)
  where
    go : (x : Bool) → cond x (int_le (pos 0) (pos 0) && int_lt (pos 0) (count t)) (int_eq (pos 0) (pos 0) && int_eq (pos 0) (pos 0)) ≡ true
    go true = let u = lt_test (pos 0) (count t) (omega (arith, ints)) in let l = from_zero 0 in λ i. l i && u i
    go false = let z = int_itself (pos 0) in λ i. z i && z i

pub pointers_alike : (t : Table) (bs os bs' os' : Memory) → SameMap bs bs' → SameMap os os' → are_well_formed t bs os ≡ are_well_formed t bs' os'
unfolding are_well_formed
pointers_alike t bs os bs' os' s r = alike_two (points t bs os) (points t bs' os') bs os bs' os' (λ b o i. points_at t b o (s b o i) (r b o i)) (zero_points t bs os) (zero_points t bs' os')

-- ---- frames

abbrev kept : List Region → Memory → Memory → Test
kept rs m n b o = list_any (is_inside b o) rs || int_eq (load m b o) (load n b o)

zeros_kept : (rs : List Region) (m n : Memory) (b o : ℤ) → load m b o ≡ pos 0 → load n b o ≡ pos 0 → kept rs m n b o ≡ true
zeros_kept rs m n b o f g = ap (λ x. list_any (is_inside b o) rs || x) (zeros_agree m n b o f g) ∙ or_true (list_any (is_inside b o) rs)
  where
    or_true : (x : Bool) → x || true ≡ true
    or_true true = refl
    or_true false = refl

pub frame_alike : (rs : List Region) (m n m' n' : Memory) → SameMap m m' → SameMap n n' → agree_outside m n rs ≡ agree_outside m' n' rs
unfolding agree_outside
frame_alike rs m n m' n' s t = alike_two (kept rs m n) (kept rs m' n') m n m' n' (λ b o i. list_any (is_inside b o) rs || int_eq (s b o i) (t b o i)) (zeros_kept rs m n) (zeros_kept rs m' n')
