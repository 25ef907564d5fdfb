-- Whether a block of a layout has a cell, as the tree that says it.
use Rattle.std.proofs.Common.{◌≡◌, ◌⊎◌, inl, inr, ℕ, zero, suc, ◌+◌, ◌*◌, ◌-◌, ◌%◌, ◌<◌, ◌≤◌, Bool, true, false, ◌&&◌, ◌||◌, cond, ℤ, pos, negsuc, ◌-ℤ◌, int_le, int_lt, List, [], ◌∷◌, ◌++◌, length, refl, sym, ◌∙◌, ap, arith, suc-mul}
use Rattle.std.proofs.lemmas.Int.{ints}
use Rattle.std.proofs.lemmas.Bool.{cases_lt}
use Rattle.std.proofs.lemmas.Option.{slice_get_past}
use Rattle.std.proofs.Math.Nat.{mod-eq-sub-mod, mod-eq_of_lt}
use Rattle.std.specs.Prelude.{map, slice_get}
use Rattle.wp_base.specs.declared.kinds.CellKind.{CellKind}
use Rattle.wp_base.specs.declared.kinds.Layout.{Layout}
use Rattle.wp_base.specs.Blocks.{same_cell, is_some_cell, has_cell, repeated, cells_of}
use Rattle.qed_terms.specs.Tree.{Tree, trees_of}
use Rattle.qed_terms.specs.Operators.{is_zero, is_equal, remainder}
use Rattle.qed_terms.specs.Meaning.{World, Values, is_so, some_true, meanings, value, truth}
use Rattle.qed_linear.proofs.Facts.{equal_is}
use Rattle.qed_linear.proofs.Rounding.{le_test, lt_fact, lt_test}
use Rattle.qed_memories.specs.Memories.{is_at_place, are_at_places, cell_count, has_cell_tree}

-- ---- the cells of an object

append_length : (xs ys : List CellKind) → length (xs ++ ys) ≡ length xs + length ys
append_length [] ys = omega arith
append_length (x ∷ xs) ys = omega (arith, append_length xs ys)

pub repeated_length : (n : ℕ) (cs : List CellKind) → length (repeated n cs) ≡ n * length cs
repeated_length zero cs = omega arith
repeated_length (suc n) cs = omega (arith, append_length cs (repeated n cs), repeated_length n cs, suc-mul n (length cs))

get_front : (xs ys : List CellKind) (i : ℕ) → i < length xs → slice_get (xs ++ ys) i ≡ slice_get xs i
get_front [] ys i k = absurd (omega (arith, k))
get_front (x ∷ xs) ys zero k = refl
get_front (x ∷ xs) ys (suc i) k = get_front xs ys i (omega (arith, k))

get_back : (xs ys : List CellKind) (i : ℕ) → slice_get (xs ++ ys) (length xs + i) ≡ slice_get ys i
get_back [] ys i = let e : 0 + i ≡ i = omega arith in ap (slice_get ys) e
get_back (x ∷ xs) ys i = let e : suc (length xs) + i ≡ suc (length xs + i) = omega arith in ap (slice_get (x ∷ (xs ++ ys))) e ∙ get_back xs ys i

-- each element has the cells at their places
get_repeated : (n : ℕ) (cs : List CellKind) (i : ℕ) → i < n * length cs → slice_get (repeated n cs) i ≡ slice_get cs (i % length cs)
get_repeated zero cs i k = absurd (omega (arith, k))
get_repeated (suc n) cs i k = go (length cs) (n * length cs) refl refl (cases_lt i (length cs)) (get_repeated n cs (i - length cs))
  where
    go : (s m : ℕ) → length cs ≡ s → n * length cs ≡ m → (i < length cs) ⊎ (length cs ≤ i) → (i - length cs < n * length cs → slice_get (repeated n cs) (i - length cs) ≡ slice_get cs ((i - length cs) % length cs)) → slice_get (cs ++ repeated n cs) i ≡ slice_get cs (i % length cs)
    go s m e f (inl l) r = get_front cs (repeated n cs) i l ∙ ap (slice_get cs) (sym (mod-eq_of_lt l))
    go s m e f (inr l) r =
        let back : length cs + (i - length cs) ≡ i = omega (arith, l) in
        let within : i - length cs < n * length cs = omega (arith, l, k) in
        ap (slice_get (cs ++ repeated n cs)) (sym back) ∙ get_back cs (repeated n cs) (i - length cs) ∙ r within ∙ ap (slice_get cs) (sym (mod-eq-sub-mod l))

-- ---- numbers

equal_at : (a b : ℤ) → a ≡ b → is_equal a b ≡ true
equal_at a b e = let z : a -ℤ b ≡ pos 0 = omega (arith, ints, e) in ap is_zero z

equal_not : (a b : ℤ) → (a ≡ b → ⊥) → is_equal a b ≡ false
equal_not a b n = go (is_equal a b) refl
  where
    go : (c : Bool) → is_equal a b ≡ c → c ≡ false
    go true e = absurd (n (equal_is a b e))
    go false e = refl

-- ---- the places of a kind

-- one of the cells at this place and after it is of the kind and at place r
abbrev on_place : ℤ → CellKind → ℕ → List CellKind → Bool
on_place r k j [] = false
on_place r k j (c ∷ cs) = cond (same_cell k c) (is_equal r (pos j) || on_place r k (suc j) cs) (on_place r k (suc j) cs)

before_place : (r j : ℕ) (k : CellKind) (cs : List CellKind) → r < j → on_place (pos r) k j cs ≡ false
before_place r j k [] l = refl
before_place r j k (c ∷ cs) l = go (same_cell k c) (before_place r (suc j) k cs (omega (arith, l)))
  where
    go : (b : Bool) → on_place (pos r) k (suc j) cs ≡ false → cond b (is_equal (pos r) (pos j) || on_place (pos r) k (suc j) cs) (on_place (pos r) k (suc j) cs) ≡ false
    go true i = let n = equal_not (pos r) (pos j) (λ e. omega (arith, ints, e, l)) in (λ x. n x || i x)
    go false i = i

at_its_place : (i j r : ℕ) (k : CellKind) (cs : List CellKind) → r ≡ j + i → on_place (pos r) k j cs ≡ is_some_cell k (slice_get cs i)
at_its_place i j r k [] e = refl
at_its_place zero j r k (c ∷ cs) e = go (same_cell k c) (before_place r (suc j) k cs (omega (arith, e)))
  where
    go : (b : Bool) → on_place (pos r) k (suc j) cs ≡ false → cond b (is_equal (pos r) (pos j) || on_place (pos r) k (suc j) cs) (on_place (pos r) k (suc j) cs) ≡ b
    go true i = let n = equal_at (pos r) (pos j) (omega (arith, ints, e)) in ap (λ x. x || on_place (pos r) k (suc j) cs) n
    go false i = i
at_its_place (suc i) j r k (c ∷ cs) e = go (same_cell k c) (at_its_place i (suc j) r k cs (omega (arith, e)))
  where
    go : (b : Bool) → on_place (pos r) k (suc j) cs ≡ is_some_cell k (slice_get cs i) → cond b (is_equal (pos r) (pos j) || on_place (pos r) k (suc j) cs) (on_place (pos r) k (suc j) cs) ≡ is_some_cell k (slice_get cs i)
    go true h = let n = equal_not (pos r) (pos j) (λ q. omega (arith, ints, q, e)) in ap (λ x. x || on_place (pos r) k (suc j) cs) n ∙ h
    go false h = h

some_cells : (n m : ℕ) (cs : List CellKind) → m < n * length cs → 0 < length cs
some_cells n m [] l = absurd (omega (arith, l))
some_cells n m (c ∷ cs) l = omega arith

rest_is : (m s : ℕ) → 0 < s → remainder (pos m) (pos s) ≡ pos (m % s)
rest_is m zero l = absurd (omega (arith, l))
rest_is m (suc s) l = refl

from_start : (m : ℕ) → int_le (pos 0) (pos m) ≡ true
from_start m = le_test (pos 0) (pos m) (omega (arith, ints))

not_below : (m n : ℕ) → n ≤ m → int_lt (pos m) (pos n) ≡ false
not_below m n l = go (int_lt (pos m) (pos n)) refl
  where
    go : (b : Bool) → int_lt (pos m) (pos n) ≡ b → b ≡ false
    go true e = absurd (omega (arith, ints, lt_fact (pos m) (pos n) e, l))
    go false e = refl

has_it : (n : ℕ) (cs : List CellKind) (k : CellKind) (z : ℤ) → (int_le (pos 0) z && int_lt z (pos (n * length cs))) && on_place (remainder z (pos (length cs))) k 0 cs ≡ has_cell k (repeated n cs) z
has_it n cs k (negsuc m) = refl
has_it n cs k (pos m) = go (cases_lt m (n * length cs))
  where
    go : (m < n * length cs) ⊎ (n * length cs ≤ m) → (int_le (pos 0) (pos m) && int_lt (pos m) (pos (n * length cs))) && on_place (remainder (pos m) (pos (length cs))) k 0 cs ≡ is_some_cell k (slice_get (repeated n cs) m)
    go (inl l) =
        let below = lt_test (pos m) (pos (n * length cs)) (omega (arith, ints, l)) in
        (λ i. (from_start m i && below i) && on_place (remainder (pos m) (pos (length cs))) k 0 cs)
        ∙ ap (λ r. on_place r k 0 cs) (rest_is m (length cs) (some_cells n m cs l))
        ∙ at_its_place (m % length cs) 0 (m % length cs) k cs (omega arith)
        ∙ ap (is_some_cell k) (sym (get_repeated n cs m l))
    go (inr l) =
        (λ i. (from_start m i && not_below m (n * length cs) l i) && on_place (remainder (pos m) (pos (length cs))) k 0 cs)
        ∙ ap (is_some_cell k) (sym (slice_get_past (repeated n cs) m (omega (arith, repeated_length n cs, l))))

module _ (world : World) (env : Values) where
  abbrev V : Tree → ℤ
  V = value world env

  abbrev so : Tree → Bool
  so = truth world env

  abbrev some_so : List Tree → Bool
  some_so ts = some_true (map is_so (meanings world env (trees_of ts)))

  abbrev inside : (cells : ℕ) → ℤ → Bool
  inside n z = int_le (pos 0) z && int_lt z (pos n)

  places_so : (n s : ℕ) (k : CellKind) (o : Tree) (j : ℕ) (cs : List CellKind) → some_so (are_at_places n s k o j cs) ≡ inside n (V o) && on_place (remainder (V o) (pos s)) k j cs
  places_so n s k o j [] = none (inside n (V o))
    where
      none : (b : Bool) → false ≡ b && false
      none true = refl
      none false = refl
  places_so n s k o j (c ∷ cs) = go (same_cell k c) (places_so n s k o (suc j) cs)
    where
      z : ℤ
      z = V o

      r : ℤ
      r = remainder (V o) (pos s)

      spread : (a b h q : Bool) → (a && (b && (h && true))) || ((a && b) && q) ≡ (a && b) && (h || q)
      spread true true true q = refl
      spread true true false q = refl
      spread true false h q = refl
      spread false b h q = refl

      go : (b : Bool) → some_so (are_at_places n s k o (suc j) cs) ≡ inside n (V o) && on_place r k (suc j) cs
          → some_so (cond b (is_at_place n s o j ∷ are_at_places n s k o (suc j) cs) (are_at_places n s k o (suc j) cs)) ≡ inside n (V o) && cond b (is_equal r (pos j) || on_place r k (suc j) cs) (on_place r k (suc j) cs)
      go true i = ap (λ x. (int_le (pos 0) (V o) && (int_lt (V o) (pos n) && (is_equal r (pos j) && true))) || x) i ∙ spread (int_le (pos 0) (V o)) (int_lt (V o) (pos n)) (is_equal r (pos j)) (on_place r k (suc j) cs)
      go false i = i

  pub cell_answer : (l : Layout) (k : CellKind) (o : Tree) → so (has_cell_tree l k o) ≡ has_cell k (cells_of l) (V o)
  cell_answer l k o = places_so (cell_count l) (length l.cells) k o 0 l.cells ∙ has_it l.count l.cells k (V o)
