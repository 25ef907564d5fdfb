-- Names of logic functions tell them apart.
use Rattle.std.proofs.Common.{◌≡◌, ℕ, zero, suc, ◌+◌, Bool, true, false, not, ◌||◌, List, [], ◌∷◌, map, length, refl, sym, ap, ◌∙◌, arith, bytes_eq}
use Rattle.std.specs.Prelude.{Option, Some, None, slice_get}
use Rattle.std.specs.List.{list_all, list_any}
use Rattle.std.proofs.lemmas.Bool.{and_parts, false≢true}
use Rattle.std.proofs.lemmas.Slice.Eq.{bytes_eq-Decides}
use Rattle.acsl_encode.specs.Binders.{mark}
use Rattle.acsl_encode.specs.Told.{Spelling}
use Rattle.qed_terms.specs.Setting.{all_differ}
use Rattle.plain_annotations.specs.Told.{after_as}
use Rattle.logic_order.specs.Names.{spelling_or, spelled_in, is_unmarked, name_in, are_apart}

as_many : (n : ℕ) (xs : List ℕ) → length (after_as n xs) ≡ n + length xs
as_many zero xs = omega arith
as_many (suc n) xs = let e = as_many n xs in let g : suc (length (after_as n xs)) ≡ suc n + length xs = omega (arith, e) in g

unspelled_differ : (i j : ℕ) → mark ∷ after_as i [] ≡ mark ∷ after_as j [] → i ≡ j
unspelled_differ i j e =
    let a : length (after_as i []) ≡ i + 0 = as_many i [] in
    let b : length (after_as j []) ≡ j + 0 = as_many j [] in
    let c : suc (length (after_as i [])) ≡ suc (length (after_as j [])) = ap length e in
    omega (arith, a, b, c)

-- one that is spelled has no mark
unmarked_at : (ss : List Spelling) (i : ℕ) (s : Spelling) → list_all is_unmarked (map name_in ss) ≡ true → slice_get ss i ≡ Some s → is_unmarked s.name ≡ true
unmarked_at [] i s h e = absurd cc
unmarked_at (t ∷ ss) zero s h e =
    let same : t ≡ s = cc in ap (λ (u : Spelling). is_unmarked u.name) (sym same) ∙ (and_parts (is_unmarked t.name) _ h).0
unmarked_at (t ∷ ss) (suc i) s h e = unmarked_at ss i s (and_parts (is_unmarked t.name) _ h).1 e

marked : (x y : List ℕ) → is_unmarked x ≡ true → x ≡ mark ∷ y → ⊥
marked x y h e = false≢true (ap is_unmarked (sym e) ∙ h)

-- it is among those behind
among_at : (ss : List Spelling) (x : List ℕ) (j : ℕ) (s : Spelling) → slice_get ss j ≡ Some s → x ≡ s.name → list_any (bytes_eq x) (map name_in ss) ≡ true
among_at [] x j s e same = absurd cc
among_at (t ∷ ss) x zero s e same =
    let is : s ≡ t = cc in
    let so : bytes_eq x t.name ≡ true = (bytes_eq-Decides x t.name).1 (same ∙ ap (λ (u : Spelling). u.name) is) in
    ap (λ b. b || list_any (bytes_eq x) (map name_in ss)) so
among_at (t ∷ ss) x (suc j) s e same = by (bytes_eq x t.name) (among_at ss x j s e same)
  where
    by : (b : Bool) → list_any (bytes_eq x) (map name_in ss) ≡ true → (b || list_any (bytes_eq x) (map name_in ss)) ≡ true
    by true k = refl
    by false k = k

not_true : (b : Bool) → b ≡ true → not b ≡ true → ⊥
not_true true e f = false≢true f
not_true false e f = false≢true e

both_spelled : (ss : List Spelling) (i j : ℕ) (s t : Spelling) → all_differ bytes_eq (map name_in ss) ≡ true → slice_get ss i ≡ Some s → slice_get ss j ≡ Some t → s.name ≡ t.name → i ≡ j
both_spelled [] i j s t h e f same = absurd cc
both_spelled (u ∷ ss) zero zero s t h e f same = refl
both_spelled (u ∷ ss) zero (suc j) s t h e f same =
    let is : u ≡ s = cc in
    let k = among_at ss u.name j t f (ap (λ (v : Spelling). v.name) is ∙ same) in
    absurd (not_true (list_any (bytes_eq u.name) (map name_in ss)) k (and_parts (not (list_any (bytes_eq u.name) (map name_in ss))) _ h).0)
both_spelled (u ∷ ss) (suc i) zero s t h e f same =
    let is : u ≡ t = cc in
    let k = among_at ss u.name i s e (ap (λ (v : Spelling). v.name) is ∙ sym same) in
    absurd (not_true (list_any (bytes_eq u.name) (map name_in ss)) k (and_parts (not (list_any (bytes_eq u.name) (map name_in ss))) _ h).0)
both_spelled (u ∷ ss) (suc i) (suc j) s t h e f same =
    ap suc (both_spelled ss i j s t (and_parts (not (list_any (bytes_eq u.name) (map name_in ss))) _ h).1 e f same)

pub names_apart : (ss : List Spelling) → are_apart ss ≡ true → (i j : ℕ) → (spelled_in ss i).name ≡ (spelled_in ss j).name → i ≡ j
names_apart ss h i j same =
    let parts = and_parts (list_all is_unmarked (map name_in ss)) (all_differ bytes_eq (map name_in ss)) h in
    by parts.0 parts.1 (slice_get ss i) (slice_get ss j) refl refl same
  where
    by : list_all is_unmarked (map name_in ss) ≡ true → all_differ bytes_eq (map name_in ss) ≡ true → (o p : Option Spelling) → slice_get ss i ≡ o → slice_get ss j ≡ p
        → (spelling_or i o).name ≡ (spelling_or j p).name → i ≡ j
    by clean apart (Some s) (Some t) e f k = both_spelled ss i j s t apart e f k
    by clean apart (Some s) None e f k = absurd (marked s.name (after_as j []) (unmarked_at ss i s clean e) k)
    by clean apart None (Some t) e f k = absurd (marked t.name (after_as i []) (unmarked_at ss j t clean f) (sym k))
    by clean apart None None e f k = unspelled_differ i j k
