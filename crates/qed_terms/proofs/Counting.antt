-- Counts of base names: where one stands, and what one more changes.
use Rattle.std.proofs.Common.{◌≡◌, ℕ, zero, suc, ◌+◌, ◌<◌, ◌≤◌, Bool, true, false, cond, List, [], ◌∷◌, ◌++◌, map, length, drop, drop_of_length-le, get_or, set, refl, sym, ◌∙◌, ap, arith}
use Rattle.std.specs.Prelude.{Option, Some, None}
use Rattle.std.specs.Option.{option_map}
use Rattle.std.specs.Str.{bytes_eq}
use Rattle.std.proofs.lemmas.Slice.Eq.{bytes_eq-Decides}
use Rattle.std.proofs.lemmas.List.{get_or-map, length-map, map-set, map_push}
use Rattle.qed_terms.specs.declared.fresh.Count.{Count}
use Rattle.qed_terms.specs.Fresh.{Used, use_one, used_in}
use Rattle.qed_terms.specs.Counts.{place_of, row_of}
use Rattle.qed_terms.proofs.Places.{drop_at}

abbrev Rows : Type 0
Rows = List (List ℕ × ℕ)

pub bytes_itself : (x : List ℕ) → bytes_eq x x ≡ true
bytes_itself x = (bytes_eq-Decides x x).1 refl

known_bytes : (x y : List ℕ) → bytes_eq x y ≡ true → x ≡ y
known_bytes x y e = (bytes_eq-Decides x y).0 e

apart_bytes : (x y : List ℕ) → (x ≡ y → ⊥) → bytes_eq x y ≡ false
apart_bytes x y n = go (bytes_eq x y) refl
  where
    go : (b : Bool) → bytes_eq x y ≡ b → b ≡ false
    go true e = absurd (n (known_bytes x y e))
    go false e = refl

-- ---- from a place on

pub further : ℕ → Option ℕ → Option ℕ
further i o = option_map (λ k. i + k) o

pub further-zero : (o : Option ℕ) → o ≡ further 0 o
unfolding further
further-zero None = refl
further-zero (Some k) = let e : k ≡ 0 + k = omega arith in ap Some e

further-suc : (i : ℕ) (o : Option ℕ) → further i (option_map suc o) ≡ further (i + 1) o
unfolding further
further-suc i None = refl
further-suc i (Some k) = let e : i + suc k ≡ (i + 1) + k = omega arith in ap Some e

pub not_here : (rows : Rows) (i : ℕ) (base : List ℕ) (row : List ℕ × ℕ) → i < length rows → row ≡ get_or rows i row → (row.0 ≡ base → ⊥)
    → further i (place_of (drop i rows) base) ≡ further (i + 1) (place_of (drop (i + 1) rows) base)
not_here rows i base row k e n =
    let a = apart_bytes base row.0 (λ p. n (sym p)) in
    ap (λ rs. further i (place_of rs base)) (drop_at rows i row k ∙ ap (λ r. r ∷ drop (i + 1) rows) (sym e))
    ∙ ap (λ b. further i (cond b (Some 0) (option_map suc (place_of (drop (i + 1) rows) base)))) a
    ∙ further-suc i (place_of (drop (i + 1) rows) base)

pub is_here : (rows : Rows) (i : ℕ) (base : List ℕ) (row : List ℕ × ℕ) → i < length rows → row ≡ get_or rows i row → row.0 ≡ base → further i (place_of (drop i rows) base) ≡ Some i
unfolding further
is_here rows i base row k e p =
    let a : bytes_eq base row.0 ≡ true = ap (λ x. bytes_eq base x) p ∙ bytes_itself base in
    let z : i + 0 ≡ i = omega arith in
    ap (λ rs. further i (place_of rs base)) (drop_at rows i row k ∙ ap (λ r. r ∷ drop (i + 1) rows) (sym e))
    ∙ ap (λ b. further i (cond b (Some 0) (option_map suc (place_of (drop (i + 1) rows) base)))) a
    ∙ ap Some z

pub nowhere : (rows : Rows) (i : ℕ) (base : List ℕ) → length rows ≤ i → further i (place_of (drop i rows) base) ≡ None
unfolding further
nowhere rows i base k = ap (λ rs. further i (place_of rs base)) (drop_of_length-le rows k)

-- ---- counts

some_suc : (o : Option ℕ) (i : ℕ) → option_map suc o ≡ Some i → (j : ℕ) × ((o ≡ Some j) × (i ≡ suc j))
some_suc None i e = absurd cc
some_suc (Some j) i e = (j, (refl, cc))

none_suc : (o : Option ℕ) → option_map suc o ≡ None → o ≡ None
none_suc None e = refl
none_suc (Some j) e = absurd cc

-- this number for the base
abbrev pub counted : Used → List ℕ → ℕ → Used
counted c base n x = cond (bytes_eq x base) n (c x)

pub found_within : (rows : Rows) (base : List ℕ) (i : ℕ) → place_of rows base ≡ Some i → i < length rows
found_within [] base i e = absurd cc
found_within (r ∷ rows) base i e = go (bytes_eq base r.0) e (λ j q. found_within rows base j q)
  where
    go : (b : Bool) → cond b (Some 0) (option_map suc (place_of rows base)) ≡ Some i → ((j : ℕ) → place_of rows base ≡ Some j → j < length rows) → i < suc (length rows)
    go true e rest = let z : 0 ≡ i = cc in omega (arith, z)
    go false e rest = let s = some_suc (place_of rows base) i e in let k = rest s.0 s.1.0 in omega (arith, s.1.1, k)

pub found_count : (rows : Rows) (base : List ℕ) (i : ℕ) (d : List ℕ × ℕ) → place_of rows base ≡ Some i → used_in rows base ≡ (get_or rows i d).1
found_count [] base i d e = absurd cc
found_count (r ∷ rows) base i d e = go (bytes_eq base r.0) e (λ j q. found_count rows base j d q)
  where
    go : (b : Bool) → cond b (Some 0) (option_map suc (place_of rows base)) ≡ Some i → ((j : ℕ) → place_of rows base ≡ Some j → used_in rows base ≡ (get_or rows j d).1)
        → cond b r.1 (used_in rows base) ≡ (get_or (r ∷ rows) i d).1
    go true e rest = let z : 0 ≡ i = cc in ap (λ k. (get_or (r ∷ rows) k d).1) z
    go false e rest = let s = some_suc (place_of rows base) i e in rest s.0 s.1.0 ∙ ap (λ k. (get_or (r ∷ rows) k d).1) (sym s.1.1)

-- the found count is set to this number
pub found_set : (rows : Rows) (base : List ℕ) (i n : ℕ) (row : List ℕ × ℕ) → place_of rows base ≡ Some i → row.0 ≡ (get_or rows i row).0 → row.1 ≡ n
    → (x : List ℕ) → used_in (set rows i row) x ≡ counted (used_in rows) base n x
found_set [] base i n row e q m x = absurd cc
found_set (r ∷ rows) base i n row e q m x = go (bytes_eq base r.0) refl e (λ j p q. found_set rows base j n row p q m x)
  where
    last : (a b : Bool) → a ≡ b → cond a row.1 (used_in rows x) ≡ cond b n (cond a r.1 (used_in rows x))
    last true true k = m
    last true false k = absurd cc
    last false true k = absurd cc
    last false false k = refl

    there : (a b : Bool) → bytes_eq x r.0 ≡ a → bytes_eq x base ≡ b → bytes_eq base r.0 ≡ false → cond a r.1 (cond b n (used_in rows x)) ≡ cond b n (cond a r.1 (used_in rows x))
    there true true k l f = let z : bytes_eq base r.0 ≡ true = ap (λ y. bytes_eq y r.0) (sym (known_bytes x base l)) ∙ k in absurd cc
    there true false k l f = refl
    there false b k l f = refl

    go : (c : Bool) → bytes_eq base r.0 ≡ c → cond c (Some 0) (option_map suc (place_of rows base)) ≡ Some i
        → ((j : ℕ) → place_of rows base ≡ Some j → row.0 ≡ (get_or rows j row).0 → used_in (set rows j row) x ≡ cond (bytes_eq x base) n (used_in rows x))
        → used_in (set (r ∷ rows) i row) x ≡ cond (bytes_eq x base) n (cond (bytes_eq x r.0) r.1 (used_in rows x))
    go true f e rest =
        let z : 0 ≡ i = cc in
        let p : row.0 ≡ r.0 = q ∙ ap (λ k. (get_or (r ∷ rows) k row).0) (sym z) in
        let b : base ≡ r.0 = known_bytes base r.0 f in
        ap (λ k. used_in (set (r ∷ rows) k row) x) (sym z) ∙ ap (λ y. cond (bytes_eq x y) row.1 (used_in rows x)) p ∙ last (bytes_eq x r.0) (bytes_eq x base) (ap (λ y. bytes_eq x y) (sym b))
    go false f e rest =
        let s = some_suc (place_of rows base) i e in
        let p : row.0 ≡ (get_or rows s.0 row).0 = q ∙ ap (λ k. (get_or (r ∷ rows) k row).0) s.1.1 in
        ap (λ k. used_in (set (r ∷ rows) k row) x) s.1.1 ∙ ap (λ w. cond (bytes_eq x r.0) r.1 w) (rest s.0 s.1.0 p) ∙ there (bytes_eq x r.0) (bytes_eq x base) refl refl f

pub none_count : (rows : Rows) (base : List ℕ) → place_of rows base ≡ None → used_in rows base ≡ 0
none_count [] base e = refl
none_count (r ∷ rows) base e = go (bytes_eq base r.0) e (λ q. none_count rows base q)
  where
    go : (b : Bool) → cond b (Some 0) (option_map suc (place_of rows base)) ≡ None → (place_of rows base ≡ None → used_in rows base ≡ 0) → cond b r.1 (used_in rows base) ≡ 0
    go true e rest = absurd cc
    go false e rest = rest (none_suc (place_of rows base) e)

pub none_push : (rows : Rows) (base : List ℕ) (n : ℕ) → place_of rows base ≡ None → (x : List ℕ) → used_in (rows ++ (base, n) ∷ []) x ≡ counted (used_in rows) base n x
none_push [] base n e x = refl
none_push (r ∷ rows) base n e x = go (bytes_eq base r.0) refl e (λ q. none_push rows base n q x)
  where
    there : (a b : Bool) → bytes_eq x r.0 ≡ a → bytes_eq x base ≡ b → bytes_eq base r.0 ≡ false → cond a r.1 (cond b n (used_in rows x)) ≡ cond b n (cond a r.1 (used_in rows x))
    there true true k l f = let z : bytes_eq base r.0 ≡ true = ap (λ y. bytes_eq y r.0) (sym (known_bytes x base l)) ∙ k in absurd cc
    there true false k l f = refl
    there false b k l f = refl

    go : (c : Bool) → bytes_eq base r.0 ≡ c → cond c (Some 0) (option_map suc (place_of rows base)) ≡ None
        → (place_of rows base ≡ None → used_in (rows ++ (base, n) ∷ []) x ≡ cond (bytes_eq x base) n (used_in rows x))
        → cond (bytes_eq x r.0) r.1 (used_in (rows ++ (base, n) ∷ []) x) ≡ cond (bytes_eq x base) n (cond (bytes_eq x r.0) r.1 (used_in rows x))
    go true f e rest = absurd cc
    go false f e rest = ap (λ w. cond (bytes_eq x r.0) r.1 w) (rest (none_suc (place_of rows base) e)) ∙ there (bytes_eq x r.0) (bytes_eq x base) refl refl f

-- ---- one more

one_more : (c : Used) (base : List ℕ) (n : ℕ) → n ≡ suc (c base) → (x : List ℕ) → counted c base n x ≡ use_one c base x
one_more c base n e x = go (bytes_eq x base) refl
  where
    go : (b : Bool) → bytes_eq x base ≡ b → cond b n (c x) ≡ cond b (suc (c x)) (c x)
    go true k = e ∙ ap (λ y. suc (c y)) (sym (known_bytes x base k))
    go false k = refl

pub count_is : (c : Used) (base : List ℕ) → use_one c base base ≡ suc (c base)
count_is c base = ap (λ b. cond b (suc (c base)) (c base)) (bytes_itself base)

pub one_more_there : (rows : Rows) (base : List ℕ) (i : ℕ) (row : List ℕ × ℕ) → place_of rows base ≡ Some i → row.0 ≡ (get_or rows i row).0 → row.1 ≡ (get_or rows i row).1 + 1
    → used_in (set rows i row) ≡ use_one (used_in rows) base
one_more_there rows base i row e p q =
    let n : row.1 ≡ suc (used_in rows base) = omega (arith, q, found_count rows base i row e) in
    λ k x. (found_set rows base i row.1 row e p refl x ∙ one_more (used_in rows) base row.1 n x) k

pub one_more_new : (rows : Rows) (base : List ℕ) → place_of rows base ≡ None → used_in (rows ++ (base, 1) ∷ []) ≡ use_one (used_in rows) base
one_more_new rows base e =
    let n : 1 ≡ suc (used_in rows base) = omega (arith, none_count rows base e) in
    λ k x. (none_push rows base 1 e x ∙ one_more (used_in rows) base 1 n x) k

-- ---- the counts themselves

row_at : (counts : List Count) (rows : Rows) (i : ℕ) (old : Count) (d : List ℕ × ℕ) → map row_of counts ≡ rows → i < length rows → old ≡ get_or counts i old → get_or rows i d ≡ row_of old
row_at counts rows i old d view k e =
    let l : length rows ≡ length counts = ap length (sym view) ∙ length-map counts row_of in
    ap (λ rs. get_or rs i d) (sym view) ∙ get_or-map row_of counts i old d (omega (arith, k, l)) ∙ ap row_of (sym e)

pub one_item : {X : Type 0} (xs : List X) (i : ℕ) (x y : X) → i < length xs → x ≡ get_or xs i x → y ≡ get_or xs i y → x ≡ y
one_item [] i x y k e f = absurd (omega arith)
one_item (z ∷ xs) zero x y k e f = e ∙ sym f
one_item (z ∷ xs) (suc i) x y k e f = one_item xs i x y (omega arith) e f

pub within : (counts : List Count) (rows : Rows) (base : List ℕ) (i : ℕ) → map row_of counts ≡ rows → place_of rows base ≡ Some i → i < length counts
within counts rows base i view e =
    let l : length rows ≡ length counts = ap length (sym view) ∙ length-map counts row_of in
    let k = found_within rows base i e in
    omega (arith, k, l)

pub more_there : (counts : List Count) (rows : Rows) (base : List ℕ) (i : ℕ) (old c : Count) → map row_of counts ≡ rows → place_of rows base ≡ Some i → old ≡ get_or counts i old → c.base ≡ old.base → c.given ≡ old.given + 1
    → used_in (map row_of (set counts i c)) ≡ use_one (used_in rows) base
more_there counts rows base i old c view e o p q =
    let r = row_at counts rows i old (row_of c) view (found_within rows base i e) o in
    ap used_in (map-set row_of counts i c ∙ ap (λ rs. set rs i (row_of c)) view)
    ∙ one_more_there rows base i (row_of c) e (p ∙ ap (λ r. r.0) (sym r)) (q ∙ ap (λ r. r.1 + 1) (sym r))

pub more_new : (counts : List Count) (rows : Rows) (base : List ℕ) (c : Count) → map row_of counts ≡ rows → place_of rows base ≡ None → c.base ≡ base → c.given ≡ 1
    → used_in (map row_of (counts ++ c ∷ [])) ≡ use_one (used_in rows) base
more_new counts rows base c view e p q =
    ap used_in (map_push row_of counts c ∙ ap (λ rs. rs ++ row_of c ∷ []) view ∙ (λ i. rows ++ (p i, q i) ∷ [])) ∙ one_more_new rows base e

-- the number that is given now
pub now_given : (used used' : Used) (base : List ℕ) → used' ≡ use_one used base → suc (used base) ≡ used' base
now_given used used' base e = sym (count_is used base) ∙ ap (λ u. u base) (sym e)

pub counted_there : (counts : List Count) (rows : Rows) (base : List ℕ) (i : ℕ) (old : Count) → map row_of counts ≡ rows → place_of rows base ≡ Some i → old ≡ get_or counts i old → used_in rows base ≡ old.given
counted_there counts rows base i old view e o = found_count rows base i (row_of old) e ∙ ap (λ r. r.1) (row_at counts rows i old (row_of old) view (found_within rows base i e) o)
