-- Tables, entry by entry and row by row.
use Rattle.std.proofs.Common.{◌≡◌, ◌≢◌, ℕ, zero, suc, ◌+◌, ◌-◌, ◌<◌, ◌≤◌, ◌==◌, Bool, true, false, ◌&&◌, ◌||◌, ◌⊎◌, inl, inr, if◌then◌else◌, List, [], ◌∷◌, ◌++◌, length, take, get_or, set, replicate, Option, Some, None, refl, sym, ap, ◌∙◌, subst, arith, append_assoc, append-nil}
use Rattle.std.proofs.lemmas.Bool.{ltb-true, ltb-false}
use Rattle.std.proofs.lemmas.Bool.Decides.{nat_tests}
use Rattle.std.specs.Prelude.{nat_lt}
use Rattle.std.proofs.lemmas.List.{take_more, take_all, get_or-set_same, get_or-set_other, get_or-replicate}
use Rattle.call_clusters.specs.Callees.{is_among}
use Rattle.call_clusters.specs.Rows.{entry, IsMarked, IsRow, AreRows, least_from, cluster_in, clusters_from}
use Rattle.c_programs.specs.Clusters.{reaches_through}

-- ---- one item more

pub get-push : {X : Type 0} (xs : List X) (y d : X) → get_or (xs ++ y ∷ []) (length xs) d ≡ y
get-push [] y d = refl
get-push (x ∷ xs) y d = get-push xs y d

pub get-before : {X : Type 0} (xs : List X) (y d : X) (i : ℕ) → i < length xs → get_or (xs ++ y ∷ []) i d ≡ get_or xs i d
get-before [] y d i lt = absurd (omega (arith, lt))
get-before (x ∷ xs) y d zero lt = refl
get-before (x ∷ xs) y d (suc i) lt = get-before xs y d i (omega (arith, lt))

length-more : {X : Type 0} (xs : List X) (y : X) → length (xs ++ y ∷ []) ≡ length xs + 1
length-more [] y = refl
length-more (x ∷ xs) y = ap suc (length-more xs y) ∙ omega arith

last_or_before : (i n : ℕ) → i < n + 1 → (i < n) ⊎ (i ≡ n)
last_or_before i n lt = grind arith

pub row_more : (n : ℕ) (q : ℕ → Bool) (row all : List Bool) (b : Bool) → all ≡ row ++ b ∷ [] → b ≡ q n → IsRow n q row → IsRow (n + 1) q all
row_more n q row all b grown is so =
    let P : List Bool → Type 0 = IsRow (n + 1) q in
    subst P (sym grown) (record { count = length-more row b ∙ ap (λ u. u + 1) so.count; entries = λ g lt. by g (last_or_before g n lt) })
  where
    by : (g : ℕ) → (g < n) ⊎ (g ≡ n) → get_or (row ++ b ∷ []) g false ≡ q g
    by g (inl less) = let P : ℕ → Type 0 = λ m. g < m in get-before row b false g (subst P (sym so.count) less) ∙ so.entries g less
    by g (inr same) = ap (λ i. get_or (row ++ b ∷ []) i false) (same ∙ sym so.count) ∙ get-push row b false ∙ is ∙ ap q (sym same)

pub rows_more : (n m : ℕ) (q : ℕ → ℕ → Bool) (rows all : List (List Bool)) (row : List Bool) → all ≡ rows ++ row ∷ [] → IsRow n (q m) row → AreRows n m q rows → AreRows n (m + 1) q all
rows_more n m q rows all row grown is so =
    let P : List (List Bool) → Type 0 = AreRows n (m + 1) q in
    subst P (sym grown) (record { count = length-more rows row ∙ ap (λ u. u + 1) so.count; each = λ f lt. by f (last_or_before f m lt) })
  where
    by : (f : ℕ) → (f < m) ⊎ (f ≡ m) → IsRow n (q f) (get_or (rows ++ row ∷ []) f [])
    by f (inl less) =
        let P : List Bool → Type 0 = IsRow n (q f) in
        let Q : ℕ → Type 0 = λ k. f < k in subst P (sym (get-before rows row [] f (subst Q (sym so.count) less))) (so.each f less)
    by f (inr same) =
        let P : List Bool → Type 0 = IsRow n (q f) in
        let Q : ℕ → Type 0 = λ k. IsRow n (q k) row in
        subst P (sym (ap (λ i. get_or (rows ++ row ∷ []) i []) (same ∙ sym so.count) ∙ get-push rows row [])) (subst Q (sym same) is)

pub no_row : (q : ℕ → Bool) → IsRow 0 q []
no_row q = record { count = refl; entries = λ g lt. absurd (omega (arith, lt)) }

pub no_rows : (n : ℕ) (q : ℕ → ℕ → Bool) → AreRows n 0 q []
no_rows n q = record { count = refl; each = λ f lt. absurd (omega (arith, lt)) }

pub ruleset table_laws = (row_more, rows_more, no_row, no_rows)

-- ---- a row of marks

among-push : (g x : ℕ) (xs : List ℕ) → is_among g (xs ++ x ∷ []) ≡ (is_among g xs || (x == g))
among-push g x [] = or-false (x == g)
  where
    or-false : (a : Bool) → (a || false) ≡ a
    or-false true = refl
    or-false false = refl
among-push g x (y ∷ ys) = ap (λ b. (y == g) || b) (among-push g x ys) ∙ or-assoc (y == g) (is_among g ys) (x == g)
  where
    or-assoc : (a b c : Bool) → (a || (b || c)) ≡ ((a || b) || c)
    or-assoc true b c = refl
    or-assoc false b c = refl

among-more : (g : ℕ) (xs : List ℕ) (i x : ℕ) → i < length xs → x ≡ get_or xs i x → is_among g (take (i + 1) xs) ≡ (is_among g (take i xs) || (x == g))
among-more g xs i x in_list is = ap (is_among g) (take_more xs i x in_list ∙ ap (λ z. take i xs ++ z ∷ []) (sym is)) ∙ among-push g x (take i xs)

or-true : (a : Bool) → (a || true) ≡ true
or-true true = refl
or-true false = refl

or-false : (a : Bool) → (a || false) ≡ a
or-false true = refl
or-false false = refl

same_number : (g x : ℕ) → g ≡ x → (x == g) ≡ true
same_number g x e = grind (arith, nat_tests)

other_number : (g x : ℕ) → g ≢ x → (x == g) ≡ false
other_number g x e = grind (arith, nat_tests)

same_or_other : (g x : ℕ) → (g ≡ x) ⊎ (g ≢ x)
same_or_other g x = grind arith

set-length : {X : Type 0} (xs : List X) (i : ℕ) (y : X) → length (set xs i y) ≡ length xs
set-length [] i y = refl
set-length (x ∷ xs) zero y = refl
set-length (x ∷ xs) (suc i) y = ap suc (set-length xs i y)

inside_turn : (n : ℕ) (xs : List ℕ) (i x : ℕ) (row : List Bool) → i < length xs → x ≡ get_or xs i x → x < length row → IsRow n (λ g. is_among g (take i xs)) row
    → IsRow n (λ g. is_among g (take (i + 1) xs)) (set row x true)
inside_turn n xs i x row in_list is inside so =
    record { count = set-length row x true ∙ so.count; entries = λ g lt. by g lt (same_or_other g x) ∙ sym (among-more g xs i x in_list is) }
  where
    by : (g : ℕ) → g < n → (g ≡ x) ⊎ (g ≢ x) → get_or (set row x true) g false ≡ (is_among g (take i xs) || (x == g))
    by g lt (inl same) =
        ap (λ k. get_or (set row x true) k false) same ∙ get_or-set_same row x true false inside
        ∙ sym (ap (λ b. is_among g (take i xs) || b) (same_number g x same) ∙ or-true (is_among g (take i xs)))
    by g lt (inr other) =
        get_or-set_other row x g true false other ∙ so.entries g lt ∙ sym (ap (λ b. is_among g (take i xs) || b) (other_number g x other) ∙ or-false (is_among g (take i xs)))

outside_turn : (n : ℕ) (xs : List ℕ) (i x : ℕ) (row : List Bool) → i < length xs → x ≡ get_or xs i x → length row ≤ x → IsRow n (λ g. is_among g (take i xs)) row → IsRow n (λ g. is_among g (take (i + 1) xs)) row
outside_turn n xs i x row in_list is past so =
    let P : ℕ → Type 0 = λ m. m ≤ x in
    let beyond : n ≤ x = subst P so.count past in
    record {
      count = so.count;
      entries =
          λ g lt. let other : g ≢ x = omega (arith, lt, beyond) in
          so.entries g lt ∙ sym (among-more g xs i x in_list is ∙ ap (λ b. is_among g (take i xs) || b) (other_number g x other) ∙ or-false (is_among g (take i xs)));
    }

test_cases : (b : Bool) → (b ≡ true) ⊎ (b ≡ false)
test_cases true = inl refl
test_cases false = inr refl

row_turn : (n : ℕ) (xs : List ℕ) (i x : ℕ) (row next : List Bool) → i < length xs → x ≡ get_or xs i x → next ≡ (if nat_lt x (length row) then set row x true else row)
    → IsRow n (λ g. is_among g (take i xs)) row → IsRow n (λ g. is_among g (take (i + 1) xs)) next
row_turn n xs i x row next in_list is made so = by (test_cases (nat_lt x (length row)))
  where
    by : (nat_lt x (length row) ≡ true) ⊎ (nat_lt x (length row) ≡ false) → IsRow n (λ g. is_among g (take (i + 1) xs)) next
    by (inl p) =
        let Q : List Bool → Type 0 = IsRow n (λ g. is_among g (take (i + 1) xs)) in
        subst Q (sym (made ∙ ap (λ b. if b then set row x true else row) p)) (inside_turn n xs i x row in_list is (ltb-true x (length row) p) so)
    by (inr p) =
        let Q : List Bool → Type 0 = IsRow n (λ g. is_among g (take (i + 1) xs)) in
        subst Q (sym (made ∙ ap (λ b. if b then set row x true else row) p)) (outside_turn n xs i x row in_list is (ltb-false x (length row) p) so)

row_done : (n : ℕ) (xs : List ℕ) (i : ℕ) (row : List Bool) → length xs ≤ i → IsRow n (λ g. is_among g (take i xs)) row → IsRow n (λ g. is_among g xs) row
row_done n xs i row past so = record { count = so.count; entries = λ g lt. so.entries g lt ∙ ap (is_among g) (take_all i xs past) }

length-replicate : (n : ℕ) → length (replicate n false) ≡ n
length-replicate zero = refl
length-replicate (suc n) = ap suc (length-replicate n)

row_start : (n : ℕ) (xs : List ℕ) (row : List Bool) → row ≡ replicate n false → IsRow n (λ g. is_among g (take 0 xs)) row
row_start n xs row is =
    let P : List Bool → Type 0 = IsRow n (λ g. is_among g (take 0 xs)) in
    subst P (sym is) (record { count = length-replicate n; entries = λ g lt. get_or-replicate n g false false lt })

to_row : (n : ℕ) (xs : List ℕ) (row : List Bool) → IsMarked n xs row → IsRow n (λ g. is_among g xs) row
to_row n xs row so = record { count = so.count; entries = so.entries }

from_row : (n : ℕ) (xs : List ℕ) (row : List Bool) → IsRow n (λ g. is_among g xs) row → IsMarked n xs row
from_row n xs row so = record { count = so.count; entries = so.entries }

mark_turn : (n : ℕ) (xs : List ℕ) (i x : ℕ) (row next : List Bool) → i < length xs → x ≡ get_or xs i x → next ≡ (if nat_lt x (length row) then set row x true else row)
    → IsMarked n (take i xs) row → IsMarked n (take (i + 1) xs) next
mark_turn n xs i x row next in_list is made so = from_row n (take (i + 1) xs) next (row_turn n xs i x row next in_list is made (to_row n (take i xs) row so))

get-any : (xs : List ℕ) (i d e : ℕ) → i < length xs → get_or xs i d ≡ get_or xs i e
get-any [] i d e lt = absurd (omega (arith, lt))
get-any (x ∷ xs) zero d e lt = refl
get-any (x ∷ xs) (suc i) d e lt = get-any xs i d e (omega (arith, lt))

-- the same for the number at a place
pub mark_at : (n : ℕ) (xs : List ℕ) (i : ℕ) (row next : List Bool) → i < length xs
    → next ≡ (if nat_lt (get_or xs i 0) (length row) then set row (get_or xs i 0) true else row) → IsMarked n (take i xs) row → IsMarked n (take (i + 1) xs) next
mark_at n xs i row next in_list made so = mark_turn n xs i (get_or xs i 0) row next in_list (get-any xs i 0 (get_or xs i 0) in_list) made so

pub marks_done : (n : ℕ) (xs : List ℕ) (i : ℕ) (row : List Bool) → length xs ≤ i → IsMarked n (take i xs) row → IsMarked n xs row
marks_done n xs i row past so = from_row n xs row (row_done n xs i row past (to_row n (take i xs) row so))

pub no_marks : (n : ℕ) (xs : List ℕ) (row : List Bool) → row ≡ replicate n false → IsMarked n (take 0 xs) row
no_marks n xs row is = from_row n (take 0 xs) row (row_start n xs row is)

pub ruleset mark_laws = (mark_at, marks_done, no_marks)

-- ---- rounds

-- tests that are the same below the number of rows
pub same_row : (n : ℕ) (p q : ℕ → Bool) (row : List Bool) → ((g : ℕ) → g < n → p g ≡ q g) → IsRow n p row → IsRow n q row
same_row n p q row same so = record { count = so.count; entries = λ g lt. so.entries g lt ∙ same g lt }

module _ (n : ℕ) (d : ℕ → ℕ → Bool) (k : ℕ) (rows next : List (List Bool)) (in_range : k < n) (so : AreRows n n (reaches_through d k) rows) where
  entry_is : (f g : ℕ) → f < n → g < n → entry rows f g ≡ reaches_through d k f g
  entry_is f g f_in g_in = (so.each f f_in).entries g g_in

  pub round_turn : AreRows n n (λ f g. entry rows f g || (entry rows f k && entry rows k g)) next → AreRows n n (reaches_through d (k + 1)) next
  round_turn made =
      let e : suc k ≡ k + 1 = omega arith in
      let P : ℕ → Type 0 = λ m. AreRows n n (reaches_through d m) next in
      subst P e (record { count = made.count; each = λ f lt. same_row n _ _ (get_or next f []) (λ g g_in. joins f g lt g_in) (made.each f lt) })
    where
      joins : (f g : ℕ) → f < n → g < n → (entry rows f g || (entry rows f k && entry rows k g)) ≡ reaches_through d (suc k) f g
      joins f g f_in g_in =
          ap (λ b. b || (entry rows f k && entry rows k g)) (entry_is f g f_in g_in)
          ∙ ap (λ b. reaches_through d k f g || (b && entry rows k g)) (entry_is f k f_in in_range)
          ∙ ap (λ b. reaches_through d k f g || (reaches_through d k f k && b)) (entry_is k g in_range g_in)

-- ---- the first that passes

pub least_turn : (q : ℕ → Bool) (n g : ℕ) (whole : Option ℕ) (b : Bool) → g < n → b ≡ q g → b ≡ false → least_from q (n - g) g ≡ whole → least_from q (n - (g + 1)) (g + 1) ≡ whole
least_turn q n g whole b lt is fails so =
    let e : n - g ≡ suc (n - (g + 1)) = omega arith in
    sym (ap (λ m. least_from q m g) e ∙ ap (λ u. if u then Some g else least_from q (n - (g + 1)) (g + 1)) (sym is ∙ fails)) ∙ so

pub least_here : (q : ℕ → Bool) (n g : ℕ) (whole : Option ℕ) (b : Bool) → g < n → b ≡ q g → b ≡ true → least_from q (n - g) g ≡ whole → Some g ≡ whole
least_here q n g whole b lt is passes so =
    let e : n - g ≡ suc (n - (g + 1)) = omega arith in
    sym (ap (λ m. least_from q m g) e ∙ ap (λ u. if u then Some g else least_from q (n - (g + 1)) (g + 1)) (sym is ∙ passes)) ∙ so

pub least_none : (q : ℕ → Bool) (n g : ℕ) (whole : Option ℕ) → n ≤ g → least_from q (n - g) g ≡ whole → None ≡ whole
least_none q n g whole past so = let e : n - g ≡ 0 = omega arith in sym (ap (λ m. least_from q m g) e) ∙ so

pub ruleset least_laws = (least_turn, least_here, least_none)

-- ---- clusters

pub clusters_turn : (rows : List (List Bool)) (f : ℕ) (made more whole : List (Option ℕ)) (c : Option ℕ) → f < length rows → c ≡ cluster_in rows f → more ≡ made ++ c ∷ []
    → made ++ clusters_from rows (length rows - f) f ≡ whole → more ++ clusters_from rows (length rows - (f + 1)) (f + 1) ≡ whole
clusters_turn rows f made more whole c lt is grown so =
    let n = length rows in
    let e : n - f ≡ suc (n - (f + 1)) = omega arith in
    let rest = clusters_from rows (n - (f + 1)) (f + 1) in
    ap (λ us. us ++ rest) grown ∙ append_assoc made (c ∷ []) rest ∙ ap (λ u. made ++ u ∷ rest) is ∙ ap (λ us. made ++ us) (sym (ap (λ m. clusters_from rows m f) e)) ∙ so

pub clusters_done : (rows : List (List Bool)) (f : ℕ) (made whole : List (Option ℕ)) → length rows ≤ f → made ++ clusters_from rows (length rows - f) f ≡ whole → made ≡ whole
clusters_done rows f made whole past so =
    let e : length rows - f ≡ 0 = omega arith in sym (append-nil made) ∙ sym (ap (λ m. made ++ clusters_from rows m f) e) ∙ so

pub ruleset cluster_laws = (clusters_turn, clusters_done)
