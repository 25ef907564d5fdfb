-- Memories as lists of entries, and as maps: a test of addresses that 0 passes, and that all entries pass, is passed at each address. So tests on
-- memories don't tell two lists of one map apart.
use Rattle.std.proofs.Common.{◌≡◌, ◌⊎◌, inl, inr, ℕ, Bool, true, false, ◌&&◌, ◌||◌, if◌then◌else◌, ℤ, pos, ◌-ℤ◌, ◌-◌, ◌^◌, int_le, int_lt, List, [], ◌∷◌, ◌++◌, refl, sym, ◌∙◌, ap, ap₂, arith}
use Rattle.std.proofs.lemmas.Int.{ints}
use Rattle.std.proofs.lemmas.Bool.{and_parts}
use Rattle.std.specs.Ordering.{int_eq}
use Rattle.std.specs.List.{list_all, list_any}
use Rattle.wp_base.specs.declared.kinds.Kind.{Kind}
use Rattle.wp_base.specs.declared.kinds.Kind.TheVariants as kind
use Rattle.wp_base.specs.declared.kinds.CellKind.TheVariants as cell
use Rattle.wp_base.specs.Kinds.{kind_low, kind_high, kind_bits, whole_high, is_signed}
use Rattle.wp_base.specs.Blocks.{Table, count, is_cell}
use Rattle.qed_terms.specs.Memory.{Entry, Memory, is_at, load, same_memory, is_between, is_well_formed, are_well_formed, Region, is_inside, agree_outside}
use Rattle.same_memories.specs.Alike.{SameMap}
use Rattle.same_memories.proofs.Order.{on_test, both_so, second_so, same_bools, number_same, same_number, at_told, less_so, at_most_so}

pub load_none : (b o : ℤ) → load [] b o ≡ pos 0
unfolding load
load_none b o = refl

pub load_more : (e : Entry) (m : Memory) (b o : ℤ) → load (e ∷ m) b o ≡ (if is_at b o e then e.value else load m b o)
unfolding load
load_more e m b o = refl

-- ---- tests of addresses

abbrev Test : Type 0
Test = (block offset : ℤ) → Bool

abbrev all_pass : Test → Memory → Bool
all_pass p m = list_all (λ (e : Entry). p e.block e.offset) m

-- where all entries pass, an address passes, or holds 0
everywhere : (p : Test) (m : Memory) → all_pass p m ≡ true → (b o : ℤ) → (p b o ≡ true) ⊎ (load m b o ≡ pos 0)
everywhere p [] k b o = inr (load_none b o)
everywhere p (e ∷ m) k b o = go (everywhere p m both.1 b o)
  where
    both : (p e.block e.offset ≡ true) × (all_pass p m ≡ true)
    both = and_parts (p e.block e.offset) (all_pass p m) k

    here : is_at b o e ≡ true → p b o ≡ true
    here h = let e' = at_told b o e h in (λ i. p (sym e'.0 i) (sym e'.1 i)) ∙ both.0

    go : (p b o ≡ true) ⊎ (load m b o ≡ pos 0) → (p b o ≡ true) ⊎ (load (e ∷ m) b o ≡ pos 0)
    go (inl r) = inl r
    go (inr r) = on_test (is_at b o e) (λ h. inl (here h)) (λ h. inr (load_more e m b o ∙ ap (λ t. if t then e.value else load m b o) h ∙ r))

each_passes : (p : Test) (m : Memory) → ((b o : ℤ) → p b o ≡ true) → all_pass p m ≡ true
each_passes p [] h = refl
each_passes p (e ∷ m) h = both_so (p e.block e.offset) (all_pass p m) (h e.block e.offset) (each_passes p m h)

all_parts : (p : Test) (m n : Memory) → all_pass p (m ++ n) ≡ true → (all_pass p m ≡ true) × (all_pass p n ≡ true)
all_parts p [] n k = (refl, k)
all_parts p (e ∷ m) n k =
    let both = and_parts (p e.block e.offset) (all_pass p (m ++ n)) k in
    let rest = all_parts p m n both.1 in
    (both_so (p e.block e.offset) (all_pass p m) both.0 rest.0, rest.1)

pass_one : (p : Test) (m : Memory) → ((b o : ℤ) → load m b o ≡ pos 0 → p b o ≡ true) → all_pass p m ≡ true → (b o : ℤ) → p b o ≡ true
pass_one p m zero k b o = go (everywhere p m k b o)
  where
    go : (p b o ≡ true) ⊎ (load m b o ≡ pos 0) → p b o ≡ true
    go (inl r) = r
    go (inr r) = zero b o r

pass_two : (p : Test) (m n : Memory) → ((b o : ℤ) → load m b o ≡ pos 0 → load n b o ≡ pos 0 → p b o ≡ true) → all_pass p (m ++ n) ≡ true
    → (b o : ℤ) → p b o ≡ true
pass_two p m n zero k b o = let parts = all_parts p m n k in go (everywhere p m parts.0 b o) (everywhere p n parts.1 b o)
  where
    go : (p b o ≡ true) ⊎ (load m b o ≡ pos 0) → (p b o ≡ true) ⊎ (load n b o ≡ pos 0) → p b o ≡ true
    go (inl r) s = r
    go (inr r) (inl s) = s
    go (inr r) (inr s) = zero b o r s

-- two tests that answer alike, of one memory each, and of two
alike_one : (p q : Test) (m n : Memory) → ((b o : ℤ) → p b o ≡ q b o) → ((b o : ℤ) → load m b o ≡ pos 0 → p b o ≡ true)
    → ((b o : ℤ) → load n b o ≡ pos 0 → q b o ≡ true) → all_pass p m ≡ all_pass q n
alike_one p q m n same f g =
    same_bools (all_pass p m) (all_pass q n) (λ k. each_passes q n (λ b o. sym (same b o) ∙ pass_one p m f k b o))
    (λ k. each_passes p m (λ b o. same b o ∙ pass_one q n g k b o))

alike_two : (p q : Test) (m n m' n' : Memory) → ((b o : ℤ) → p b o ≡ q b o) → ((b o : ℤ) → load m b o ≡ pos 0 → load n b o ≡ pos 0 → p b o ≡ true)
    → ((b o : ℤ) → load m' b o ≡ pos 0 → load n' b o ≡ pos 0 → q b o ≡ true) → all_pass p (m ++ n) ≡ all_pass q (m' ++ n')
alike_two p q m n m' n' same f g =
    same_bools (all_pass p (m ++ n)) (all_pass q (m' ++ n')) (λ k. each_passes q (m' ++ n') (λ b o. sym (same b o) ∙ pass_two p m n f k b o))
    (λ k. each_passes p (m ++ n) (λ b o. same b o ∙ pass_two q m' n' g k b o))

-- ---- equal memories

abbrev agree : Memory → Memory → Test
agree m n b o = int_eq (load m b o) (load n b o)

zeros_agree : (m n : Memory) (b o : ℤ) → load m b o ≡ pos 0 → load n b o ≡ pos 0 → agree m n b o ≡ true
zeros_agree m n b o f g = number_same (load m b o) (load n b o) (f ∙ sym g)

pub same_loads : (m n : Memory) → same_memory m n ≡ true → SameMap m n
unfolding same_memory
same_loads m n h b o = same_number (load m b o) (load n b o) (pass_two (agree m n) m n (zeros_agree m n) h b o)

pub loads_same : (m n : Memory) → SameMap m n → same_memory m n ≡ true
unfolding same_memory
loads_same m n same = each_passes (agree m n) (m ++ n) (λ b o. number_same (load m b o) (load n b o) (same b o))

pub same_alike : (m n m' n' : Memory) → SameMap m m' → SameMap n n' → same_memory m n ≡ same_memory m' n'
unfolding same_memory
same_alike m n m' n' s t = alike_two (agree m n) (agree m' n') m n m' n' (λ b o i. int_eq (s b o i) (t b o i)) (zeros_agree m n) (zeros_agree m' n')

-- ---- well formed memories

-- 0 lies in the range of each kind
low_is : (bits : ℕ) (k : Kind) → int_le (kind_low bits k) (pos 0) ≡ true
low_is bits k = go (is_signed k)
  where
    go : (b : Bool) → int_le (if b then pos 0 -ℤ pos (2 ^ (kind_bits bits k - 1)) else pos 0) (pos 0) ≡ true
    go true = at_most_so (pos 0 -ℤ pos (2 ^ (kind_bits bits k - 1))) (pos 0) (omega (arith, ints))
    go false = refl

natural : (n : ℕ) → int_le (pos 0) (pos n) ≡ true
natural n = at_most_so (pos 0) (pos n) (omega (arith, ints))

whole_high_is : (bits : ℕ) (b : Bool) → int_le (pos 0) (whole_high bits b) ≡ true
whole_high_is bits true = natural (2 ^ (bits - 1) - 1)
whole_high_is bits false = natural (2 ^ bits - 1)

high_is : (bits : ℕ) (k : Kind) → int_le (pos 0) (kind_high bits k) ≡ true
high_is bits kind.Bool = refl
high_is bits k = whole_high_is (kind_bits bits k) (is_signed k)

abbrev good_at : (bits : ℕ) → Kind → Table → (b o z : ℤ) → Bool
good_at bits k t b o z = if is_cell (cell.Of k) t b o then is_between (kind_low bits k) (kind_high bits k) z else int_eq z (pos 0)

zero_good : (bits : ℕ) (k : Kind) (t : Table) (b o z : ℤ) → z ≡ pos 0 → good_at bits k t b o z ≡ true
zero_good bits k t b o z f = ap (good_at bits k t b o) f ∙ go (is_cell (cell.Of k) t b o)
  where
    go : (x : Bool) → (if x then is_between (kind_low bits k) (kind_high bits k) (pos 0) else int_eq (pos 0) (pos 0)) ≡ true
    go true = both_so (int_le (kind_low bits k) (pos 0)) (int_le (pos 0) (kind_high bits k)) (low_is bits k) (high_is bits k)
    go false = number_same (pos 0) (pos 0) refl

pub well_formed_alike : (bits : ℕ) (k : Kind) (t : Table) (m n : Memory) → SameMap m n → is_well_formed bits k t m ≡ is_well_formed bits k t n
unfolding is_well_formed
well_formed_alike bits k t m n s =
    alike_one (λ b o. good_at bits k t b o (load m b o)) (λ b o. good_at bits k t b o (load n b o)) m n (λ b o. ap (good_at bits k t b o) (s b o))
    (λ b o. zero_good bits k t b o (load m b o)) (λ b o. zero_good bits k t b o (load n b o))

abbrev points_at : Table → (b o y z : ℤ) → Bool
points_at t b o y z = if is_cell cell.Ptr t b o then int_le (pos 0) y && int_lt y (count t) else int_eq y (pos 0) && int_eq z (pos 0)

zero_points : (t : Table) (b o y z : ℤ) → y ≡ pos 0 → z ≡ pos 0 → points_at t b o y z ≡ true
zero_points t b o y z f g = ap₂ (points_at t b o) f g ∙ go (is_cell cell.Ptr t b o)
  where
    go : (x : Bool) → (if x then int_le (pos 0) (pos 0) && int_lt (pos 0) (count t) else int_eq (pos 0) (pos 0) && int_eq (pos 0) (pos 0)) ≡ true
    go true = both_so (int_le (pos 0) (pos 0)) (int_lt (pos 0) (count t)) (natural 0) (less_so (pos 0) (count t) (omega (arith, ints)))
    go false = let z = number_same (pos 0) (pos 0) refl in both_so (int_eq (pos 0) (pos 0)) (int_eq (pos 0) (pos 0)) z z

pub pointers_alike : (t : Table) (bs os bs' os' : Memory) → SameMap bs bs' → SameMap os os' → are_well_formed t bs os ≡ are_well_formed t bs' os'
unfolding are_well_formed
pointers_alike t bs os bs' os' s r =
    alike_two (λ b o. points_at t b o (load bs b o) (load os b o)) (λ b o. points_at t b o (load bs' b o) (load os' b o)) bs os bs' os'
    (λ b o i. points_at t b o (s b o i) (r b o i)) (λ b o. zero_points t b o (load bs b o) (load os b o))
    (λ b o. zero_points t b o (load bs' b o) (load os' b o))

-- ---- frames

abbrev kept : List Region → Memory → Memory → Test
kept rs m n b o = list_any (is_inside b o) rs || agree m n b o

zeros_kept : (rs : List Region) (m n : Memory) (b o : ℤ) → load m b o ≡ pos 0 → load n b o ≡ pos 0 → kept rs m n b o ≡ true
zeros_kept rs m n b o f g = second_so (list_any (is_inside b o) rs) (agree m n b o) (zeros_agree m n b o f g)

pub frame_alike : (rs : List Region) (m n m' n' : Memory) → SameMap m m' → SameMap n n' → agree_outside m n rs ≡ agree_outside m' n' rs
unfolding agree_outside
frame_alike rs m n m' n' s t =
    alike_two (kept rs m n) (kept rs m' n') m n m' n' (λ b o i. list_any (is_inside b o) rs || int_eq (s b o i) (t b o i)) (zeros_kept rs m n)
    (zeros_kept rs m' n')
