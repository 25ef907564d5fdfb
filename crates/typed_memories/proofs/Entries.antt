-- Memories as lists of entries, and as functions of addresses: a test that all entries pass, and each address without entry, is passed at each address.
use Rattle.std.proofs.Common.{◌≡◌, Bool, true, false, ◌||◌, if◌then◌else◌, ℤ, pos, List, [], ◌∷◌, ◌++◌, refl, sym, ap, ap₂, ◌∙◌}
use Rattle.std.specs.Ordering.{int_eq}
use Rattle.std.specs.List.{list_all, list_any}
use Rattle.std.proofs.lemmas.Bool.{false≢true, and_parts}
use Rattle.qed_terms.specs.Memory.{Entry, Memory, is_at, load, store, same_memory, Region, agree_outside}
use Rattle.c_runs.specs.TruthStates.{number, pointer, number_of, block_of, offset_of}
use Rattle.c_runs.specs.States.{with_cell}
use Rattle.typed_memories.specs.Cells.{numbers_by, pointers_by, lies_inside}
use Rattle.typed_memories.specs.Laws.{MapsAre, FrameIs}
use Rattle.typed_memories.proofs.Tests.{on_test, unchosen, both_so, neither, or_second, or_left, or_unless, same_number, number_same, is_here, moved, with_cell_is}

-- ---- entries

abbrev has_entry : Memory → (b o : ℤ) → Bool
has_entry m b o = list_any (is_at b o) m

pub unlisted : (m : Memory) (b o : ℤ) → has_entry m b o ≡ false → load m b o ≡ pos 0
unfolding load
unlisted [] b o h = refl
unlisted (e ∷ m) b o h = let apart = neither (is_at b o e) (has_entry m b o) h in unchosen (is_at b o e) e.value (load m b o) apart.0 ∙ unlisted m b o apart.1

both_unlisted : (m n : Memory) (b o : ℤ) → has_entry (m ++ n) b o ≡ false → (load m b o ≡ pos 0) × (load n b o ≡ pos 0)
unfolding load
both_unlisted [] n b o h = (refl, unlisted n b o h)
both_unlisted (e ∷ m) n b o h =
    let apart = neither (is_at b o e) (has_entry (m ++ n) b o) h in
    let more = both_unlisted m n b o apart.1 in
    (unchosen (is_at b o e) e.value (load m b o) apart.0 ∙ more.0, more.1)

-- a test of addresses, at that of an entry
abbrev at : ((b o : ℤ) → Bool) → Entry → Bool
at q e = q e.block e.offset

module _ (q : (b o : ℤ) → Bool) where
  passed_where_listed : (m : Memory) → list_all (at q) m ≡ true → (b o : ℤ) → has_entry m b o ≡ true → q b o ≡ true
  passed_where_listed [] all b o h = absurd (false≢true h)
  passed_where_listed (e ∷ m) all b o h =
      let both = and_parts (q e.block e.offset) (list_all (at q) m) all in
      on_test (is_at b o e) (λ so. moved (λ b o. q b o ≡ true) e.block e.offset b o so both.0)
      (λ not_so. passed_where_listed m both.1 b o (or_left (is_at b o e) (has_entry m b o) h not_so))

  pub passed_everywhere : (m : Memory) → list_all (at q) m ≡ true → ((b o : ℤ) → has_entry m b o ≡ false → q b o ≡ true) → (b o : ℤ) → q b o ≡ true
  passed_everywhere m all none b o = on_test (has_entry m b o) (passed_where_listed m all b o) (none b o)

  pub passed_by_all : (m : Memory) → ((b o : ℤ) → q b o ≡ true) → list_all (at q) m ≡ true
  passed_by_all [] h = refl
  passed_by_all (e ∷ m) h = both_so (q e.block e.offset) (list_all (at q) m) (h e.block e.offset) (passed_by_all m h)

-- of two memories that both hold 0 where neither has an entry
pub passed_by_both : (q : (b o : ℤ) → Bool) (m n : Memory) → list_all (at q) (m ++ n) ≡ true
    → ((b o : ℤ) → load m b o ≡ pos 0 → load n b o ≡ pos 0 → q b o ≡ true) → (b o : ℤ) → q b o ≡ true
passed_by_both q m n all none = passed_everywhere q (m ++ n) all (λ b o h. let both = both_unlisted m n b o h in none b o both.0 both.1)

-- ---- stores

pub load_store : (m : Memory) (b o z b' o' : ℤ) → load (store m b o z) b' o' ≡ (if is_here b o b' o' then z else load m b' o')
unfolding load
load_store m b o z b' o' = refl

number_in_if : (t : Bool) (x y : ℤ) → number (if t then x else y) ≡ (if t then number x else number y)
number_in_if true x y = refl
number_in_if false x y = refl

pointer_in_if : (t : Bool) (x y x' y' : ℤ) → pointer (if t then x else x') (if t then y else y') ≡ (if t then pointer x y else pointer x' y')
pointer_in_if true x y x' y' = refl
pointer_in_if false x y x' y' = refl

number_stored : (m : Memory) (b o z b' o' : ℤ) → numbers_by (load (store m b o z)) b' o' ≡ with_cell b o (number z) (numbers_by (load m)) b' o'
number_stored m b o z b' o' =
    ap number (load_store m b o z b' o') ∙ number_in_if (is_here b o b' o') z (load m b' o') ∙ sym (with_cell_is b o (number z) (numbers_by (load m)) b' o')

pointer_stored : (ms ns : Memory) (b o x y b' o' : ℤ)
    → pointers_by (load (store ms b o x)) (load (store ns b o y)) b' o' ≡ with_cell b o (pointer x y) (pointers_by (load ms) (load ns)) b' o'
pointer_stored ms ns b o x y b' o' =
    ap₂ pointer (load_store ms b o x b' o') (load_store ns b o y b' o') ∙ pointer_in_if (is_here b o b' o') x y (load ms b' o') (load ns b' o')
    ∙ sym (with_cell_is b o (pointer x y) (pointers_by (load ms) (load ns)) b' o')

-- ---- the same map

abbrev agree : Memory → Memory → (b o : ℤ) → Bool
agree m n b o = int_eq (load m b o) (load n b o)

both_nothing : (m n : Memory) (b o : ℤ) → load m b o ≡ pos 0 → load n b o ≡ pos 0 → agree m n b o ≡ true
both_nothing m n b o h k = number_same (load m b o) (load n b o) (h ∙ sym k)

same_loads : (m n : Memory) → same_memory m n ≡ true → load m ≡ load n
unfolding same_memory
same_loads m n h = λ i. λ b o. same_number (load m b o) (load n b o) (passed_by_both (agree m n) m n h (both_nothing m n) b o) i

loads_same : (m n : Memory) → load m ≡ load n → same_memory m n ≡ true
unfolding same_memory
loads_same m n e = passed_by_all (agree m n) (m ++ n) (λ b o. number_same (load m b o) (load n b o) (λ i. e i b o))

pub maps_are : MapsAre
maps_are = record {
  number = λ m b o z. λ i. λ b' o'. number_stored m b o z b' o' i;
  pointer = λ ms ns b o x y. λ i. λ b' o'. pointer_stored ms ns b o x y b' o' i;
  same = λ m n. (same_loads m n, loads_same m n);
}

-- ---- frames

module _ (rs : List Region) where
  pub framed : (m n : Memory) → agree_outside m n rs ≡ true → (b o : ℤ) → lies_inside rs b o ≡ false → load n b o ≡ load m b o
  unfolding agree_outside
  framed m n h b o out =
      sym (same_number (load m b o) (load n b o)
      (or_left (lies_inside rs b o) (agree m n b o)
      (passed_by_both (λ b o. lies_inside rs b o || agree m n b o) m n h
      (λ b o x y. or_second (lies_inside rs b o) (agree m n b o) (both_nothing m n b o x y)) b o) out))

  pub to_frame : (m n : Memory) → ((b o : ℤ) → lies_inside rs b o ≡ false → load n b o ≡ load m b o) → agree_outside m n rs ≡ true
  unfolding agree_outside
  to_frame m n h =
      passed_by_all (λ b o. lies_inside rs b o || agree m n b o) (m ++ n)
      (λ b o. or_unless (lies_inside rs b o) (agree m n b o) (λ out. number_same (load m b o) (load n b o) (sym (h b o out))))

  pub frame_is : FrameIs rs
  frame_is = record {
    numbers = λ m n. (
      (λ h b o out. ap number (framed m n h b o out)),
      (λ h. to_frame m n (λ b o out. ap number_of (h b o out))),
    );
    pointers = λ ms ns ms' ns'. (
      (λ h b o out. ap₂ pointer (framed ms ms' h.0 b o out) (framed ns ns' h.1 b o out)),
      (λ h. (to_frame ms ms' (λ b o out. ap block_of (h b o out)), to_frame ns ns' (λ b o out. ap offset_of (h b o out)))),
    );
  }
