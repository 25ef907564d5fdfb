-- Tables that grow by a live block, and by ended ones.
use Rattle.std.proofs.Common.{◌≡◌, ℕ, zero, suc, ◌+◌, ◌-◌, ◌≤◌, ◌<◌, true, false, ℤ, pos, negsuc, ◌-ℤ◌, [], ◌∷◌, ◌++◌, length, Some, slice_get, refl, sym, ap, ◌∙◌, arith, length-append}
use Rattle.std.specs.Prelude.{int_le, int_lt, ◌≤ℤ◌, ◌<ℤ◌}
use Rattle.std.specs.Ordering.{int_eq}
use Rattle.std.proofs.lemmas.Bool.{false≢true}
use Rattle.std.proofs.lemmas.Int.{ints}
use Rattle.std.proofs.lemmas.Option.{slice_get_past}
use Rattle.wp_base.specs.declared.kinds.CellKind.{CellKind}
use Rattle.wp_base.specs.declared.kinds.Layout.{Layout}
use Rattle.wp_base.specs.Blocks.{Block, ended, Table, count, or_ended, block_at, block_cells, has_cell, is_cell, block_of, alloc, to_nat, endeds, grow}
use Rattle.c_kinds.proofs.Converting.{test_le, le_test}
use Rattle.goal_segments.specs.Segments.{SameBlocks}
use Rattle.typed_memories.proofs.Tests.{on_test, not_both, same_number, number_same}
use Rattle.typed_memories.specs.Changes.{StillThere}
use Rattle.typed_memories.specs.ChangeLaws.{GrownTablesHaveTheSameBlocks}

-- ---- tests

pub lt_test : (a b : ℤ) → a <ℤ b → int_lt a b ≡ true
lt_test a b h = grind (arith, ints, h)

pub test_lt : (a b : ℤ) → int_lt a b ≡ true → a <ℤ b
test_lt a b h = grind (arith, ints, h)

pub test_not_lt : (a b : ℤ) → int_lt a b ≡ false → b ≤ℤ a
test_not_lt a b h = grind (arith, ints, h)

pub not_lt_test : (a b : ℤ) → b ≤ℤ a → int_lt a b ≡ false
not_lt_test a b h = grind (arith, ints, h)

pub not_le_test : (a b : ℤ) → b <ℤ a → int_le a b ≡ false
not_le_test a b h = grind (arith, ints, h)

pub test_not_le : (a b : ℤ) → int_le a b ≡ false → b <ℤ a
test_not_le a b h = grind (arith, ints, h)

pub below_more : (b m n : ℤ) → int_lt b m ≡ true → int_le m n ≡ true → int_lt b n ≡ true
below_more b m n h k = let x = test_lt b m h in let y = test_le m n k in lt_test b n (omega (arith, ints, x, y))

pub above_less : (b m n : ℤ) → int_lt b n ≡ false → int_le m n ≡ true → int_lt b m ≡ false
above_less b m n h k = let x = test_not_lt b n h in let y = test_le m n k in not_lt_test b m (omega (arith, ints, x, y))

pub not_count : (b n : ℤ) → int_lt b n ≡ true → int_eq b n ≡ false
not_count b n h =
    on_test (int_eq b n) (λ same. let x = test_lt b n h in let e = same_number b n same in absurd (omega (arith, ints, x, e))) (λ other. other)

-- ---- blocks by their numbers

first_found : (t u : Table) (i : ℕ) → i < length t → slice_get (t ++ u) i ≡ slice_get t i
first_found [] u i h = absurd (omega (arith, h))
first_found (x ∷ t) u zero h = refl
first_found (x ∷ t) u (suc i) h = first_found t u i (omega (arith, h))

pub first_block : (t u : Table) (b : ℤ) → int_lt b (count t) ≡ true → block_at (t ++ u) b ≡ block_at t b
unfolding block_at
first_block t u (pos zero) h = refl
first_block t u (pos (suc i)) h = let x = test_lt (pos (suc i)) (count t) h in ap or_ended (first_found t u i (omega (arith, ints, x)))
first_block t u (negsuc i) h = refl

-- from the count on there is none
pub no_block : (t : Table) (b : ℤ) → int_lt b (count t) ≡ false → block_at t b ≡ ended
unfolding block_at
no_block t (pos zero) h = refl
no_block t (pos (suc i)) h = let x = test_not_lt (pos (suc i)) (count t) h in ap or_ended (slice_get_past t i (omega (arith, ints, x)))
no_block t (negsuc i) h = refl

pub count_appended : (t u : Table) → count (t ++ u) ≡ pos (suc (length t + length u))
count_appended t u = ap (λ n. pos (suc n)) (length-append t u)

no_cell_in : (k : CellKind) (o : ℤ) → has_cell k [] o ≡ false
no_cell_in k (pos n) = refl
no_cell_in k (negsuc n) = refl

pub no_cell_beyond : (k : CellKind) (t : Table) (b o : ℤ) → int_lt b (count t) ≡ false → is_cell k t b o ≡ false
no_cell_beyond k t b o h = ap (λ x. has_cell k (block_cells x) o) (no_block t b h) ∙ no_cell_in k o

pub cell_below : (k : CellKind) (t : Table) (b o : ℤ) → is_cell k t b o ≡ true → int_lt b (count t) ≡ true
cell_below k t b o is = on_test (int_lt b (count t)) (λ h. h) (λ h. not_both (is_cell k t b o) is (no_cell_beyond k t b o h))

-- ---- one more block

last_found : (t : Table) (x : Block) → slice_get (t ++ x ∷ []) (length t) ≡ Some x
last_found [] x = refl
last_found (y ∷ t) x = last_found t x

pub new_block : (t : Table) (l : Layout) → block_at (alloc t l) (count t) ≡ block_of l
unfolding block_at
new_block t l = ap or_ended (last_found t (block_of l))

pub count_alloc : (t : Table) (l : Layout) → count (alloc t l) ≡ pos (suc (suc (length t)))
count_alloc t l = let e = count_appended t (block_of l ∷ []) in let n : length t + 1 ≡ suc (length t) = omega arith in e ∙ ap (λ n. pos (suc n)) n

pub other_block : (t : Table) (l : Layout) (b : ℤ) → int_eq b (count t) ≡ false → block_at (alloc t l) b ≡ block_at t b
other_block t l b h =
    on_test (int_lt b (count t)) (first_block t (block_of l ∷ []) b)
    (λ above.
    let x = test_not_lt b (count t) above in
    let c = count_alloc t l in
    let apart : (b ≡ count t) → ⊥ = λ e. false≢true (sym h ∙ number_same b (count t) e) in
    no_block (alloc t l) b (not_lt_test b (count (alloc t l)) (omega (arith, ints, x, c, apart))) ∙ sym (no_block t b above))

-- ---- ended blocks added

ended_there : (n i : ℕ) → or_ended (slice_get (endeds n) i) ≡ ended
ended_there zero i = refl
ended_there (suc n) zero = refl
ended_there (suc n) (suc i) = ended_there n i

found_with_ended : (t : Table) (n i : ℕ) → or_ended (slice_get (t ++ endeds n) i) ≡ or_ended (slice_get t i)
found_with_ended [] n i = ended_there n i
found_with_ended (x ∷ t) n zero = refl
found_with_ended (x ∷ t) n (suc i) = found_with_ended t n i

pub with_ended : (t : Table) (n : ℕ) (b : ℤ) → block_at (t ++ endeds n) b ≡ block_at t b
unfolding block_at
with_ended t n (pos zero) = refl
with_ended t n (pos (suc i)) = found_with_ended t n i
with_ended t n (negsuc i) = refl

length_endeds : (n : ℕ) → length (endeds n) ≡ n
length_endeds zero = refl
length_endeds (suc n) = ap suc (length_endeds n)

pub count_with_ended : (t : Table) (n : ℕ) → count (t ++ endeds n) ≡ pos (suc (length t + n))
count_with_ended t n = count_appended t (endeds n) ∙ ap (λ m. pos (suc (length t + m))) (length_endeds n)

pub grown_block : (t : Table) (z b : ℤ) → block_at (grow t z) b ≡ block_at t b
grown_block t z b = with_ended t (to_nat (z -ℤ count t)) b

grown_by : (t : Table) (z : ℤ) (n : ℕ) → z ≡ pos (suc (length t + n)) → grow t z ≡ t ++ endeds n
grown_by t z n e = let d : z -ℤ count t ≡ pos n = omega (arith, ints, e) in ap (λ z. t ++ endeds (to_nat z)) d

pub grown_count : (t : Table) (z : ℤ) → int_le (count t) z ≡ true → count (grow t z) ≡ z
grown_count t (pos (suc m)) h =
    let x = test_le (count t) (pos (suc m)) h in
    let e : pos (suc m) ≡ pos (suc (length t + (m - length t))) = ap (λ n. pos (suc n)) (omega (arith, ints, x)) in
    ap count (grown_by t (pos (suc m)) (m - length t) e) ∙ count_with_ended t (m - length t) ∙ sym e
grown_count t (pos zero) h = let x = test_le (count t) (pos zero) h in absurd (omega (arith, ints, x))
grown_count t (negsuc m) h = let x = test_le (count t) (negsuc m) h in absurd (omega (arith, ints, x))

pub count_grows : (t : Table) (z : ℤ) → int_le (count t) (count (grow t z)) ≡ true
count_grows t z =
    let n = to_nat (z -ℤ count t) in let e = count_with_ended t n in le_test (count t) (count (grow t z)) (omega (arith, ints, e))

-- ---- the same live blocks

pub grown_same : (t : Table) (z : ℤ) → SameBlocks t (grow t z)
grown_same t z = record { live = grown_block t z; more = count_grows t z }

all_ended : (t : Table) → ((i : ℕ) → or_ended (slice_get t i) ≡ ended) → t ≡ endeds (length t)
all_ended [] h = refl
all_ended (x ∷ t) h = let e = h zero in let more = all_ended t (λ i. h (suc i)) in λ i. e i ∷ more i

same_found : (t u : Table) → length t ≤ length u → ((i : ℕ) → or_ended (slice_get u i) ≡ or_ended (slice_get t i)) → t ++ endeds (length u - length t) ≡ u
same_found [] u le h = ap endeds (omega arith) ∙ sym (all_ended u h)
same_found (x ∷ t) [] le h = absurd (omega (arith, le))
same_found (x ∷ t) (y ∷ u) le h =
    let e : y ≡ x = h zero in
    let more = same_found t u (omega (arith, le)) (λ i. h (suc i)) in
    let n : length (y ∷ u) - length (x ∷ t) ≡ length u - length t = omega arith in
    ap (λ n. x ∷ (t ++ endeds n)) n ∙ (λ i. sym e i ∷ more i)

pub same_grown : (t u : Table) → SameBlocks t u → grow t (count u) ≡ u
unfolding block_at
same_grown t u s =
    let x = test_le (count t) (count u) s.more in
    let le : length t ≤ length u = omega (arith, ints, x) in
    let e : pos (suc (length u)) ≡ pos (suc (length t + (length u - length t))) = ap (λ n. pos (suc n)) (omega (arith, le)) in
    grown_by t (count u) (length u - length t) e ∙ same_found t u le (λ i. s.live (pos (suc i)))

pub grown_tables_have_the_same_blocks : GrownTablesHaveTheSameBlocks
grown_tables_have_the_same_blocks t = record { grown = grown_same t; counted = grown_count t; back = same_grown t }

-- ---- blocks that stay

module _ (t u : Table) (s : StillThere t u) where
  pub stay_changed : (w : Table) → SameBlocks u w → StillThere t w
  stay_changed w c = record {
    blocks = λ b h. c.live b ∙ s.blocks b h;
    more = let x = test_le (count t) (count u) s.more in let y = test_le (count u) (count w) c.more in le_test (count t) (count w) (omega (arith, ints, x, y));
  }

  pub stay_made : (l : Layout) → StillThere t (alloc u l)
  stay_made l = record {
    blocks = λ b h. first_block u (block_of l ∷ []) b (below_more b (count t) (count u) h s.more) ∙ s.blocks b h;
    more = let x = test_le (count t) (count u) s.more in let c = count_alloc u l in le_test (count t) (count (alloc u l)) (omega (arith, ints, x, c));
  }

  pub stay_ended : (w : Table) → StillThere u w → StillThere t (grow u (count w))
  stay_ended w r = record {
    blocks = λ b h. grown_block u (count w) b ∙ s.blocks b h;
    more = let x = test_le (count t) (count u) s.more in let y = test_le (count u) (count (grow u (count w))) (count_grows u (count w)) in
        le_test (count t) (count (grow u (count w))) (omega (arith, ints, x, y));
  }

  pub ended_all : SameBlocks t (grow t (count u)) × (count (grow t (count u)) ≡ count u)
  ended_all = (grown_same t (count u), grown_count t (count u) s.more)
