-- Items one after another.
use Rattle.std.proofs.Common.{◌≡◌, ℕ, zero, suc, ◌+◌, ◌<◌, ◌≤◌, Bool, true, false, ◌&&◌, List, [], ◌∷◌, ◌++◌, length, map, Option, Some, None, refl, sym, ap, ◌∙◌, subst, arith, append_assoc, append-nil, length-append}
use Rattle.std.specs.List.{list_all}
use Rattle.std.proofs.lemmas.List.{map_push}
use Rattle.goal_words.specs.Bytes.{Reader}
use Rattle.goal_words.proofs.Numerals.{both_true}
use Rattle.report_read.specs.Bytes.{joined, one_and_more, many, all_of}

-- what stands behind an item is shorter
abbrev pub Consumes : {X : Type 0} → Reader X → Type 0
Consumes {X} at = (bytes : List ℕ) (x : X) (rest : List ℕ) → at bytes ≡ Some (x, rest) → length rest < length bytes

no_more : {X : Type 0} (at : Reader X) (n : ℕ) (bytes : List ℕ) → at bytes ≡ None → many at n bytes ≡ ([], bytes)
unfolding many
no_more at zero bytes e = refl
no_more at (suc n) bytes e = ap (one_and_more (many at n) bytes) e

one_more : {X : Type 0} (at : Reader X) (n : ℕ) (bytes : List ℕ) (x : X) (rest : List ℕ) → at bytes ≡ Some (x, rest) → many at (suc n) bytes ≡ (x ∷ (many at n rest).0, (many at n rest).1)
unfolding many
one_more at n bytes x rest e = ap (one_and_more (many at n) bytes) e

none_there : {X : Type 0} (at : Reader X) → Consumes at → (bytes : List ℕ) → length bytes ≤ 0 → at bytes ≡ None
none_there {X} at less bytes k = by (at bytes) refl
  where
    by : (o : Option (X × List ℕ)) → at bytes ≡ o → o ≡ None
    by None e = refl
    by (Some p) e = absurd (omega (arith, less bytes p.0 p.1 e, k))

-- more turns than bytes change nothing
enough : {X : Type 0} (at : Reader X) → Consumes at → (n m : ℕ) (bytes : List ℕ) → length bytes ≤ n → length bytes ≤ m → many at n bytes ≡ many at m bytes
enough at less zero m bytes k l = let e = none_there at less bytes k in no_more at zero bytes e ∙ sym (no_more at m bytes e)
enough at less (suc n) zero bytes k l = let e = none_there at less bytes l in no_more at (suc n) bytes e ∙ sym (no_more at zero bytes e)
enough {X} at less (suc n) (suc m) bytes k l = by (at bytes) refl (enough at less n m)
  where
    by : (o : Option (X × List ℕ)) → at bytes ≡ o → ((rest : List ℕ) → length rest ≤ n → length rest ≤ m → many at n rest ≡ many at m rest) → many at (suc n) bytes ≡ many at (suc m) bytes
    by None e more = no_more at (suc n) bytes e ∙ sym (no_more at (suc m) bytes e)
    by (Some p) e more =
        let s = less bytes p.0 p.1 e in
        let behind = more p.1 (omega (arith, s, k)) (omega (arith, s, l)) in
        one_more at n bytes p.0 p.1 e ∙ ap (λ (r : List X × List ℕ). (p.0 ∷ r.0, r.1)) behind ∙ sym (one_more at m bytes p.0 p.1 e)

-- ---- all of them

pub all_end : {X : Type 0} (at : Reader X) (bytes : List ℕ) → at bytes ≡ None → all_of at bytes ≡ ([], bytes)
all_end at bytes e = no_more at (length bytes) bytes e

pub all_more : {X : Type 0} (at : Reader X) → Consumes at → (bytes : List ℕ) (x : X) (rest : List ℕ) → at bytes ≡ Some (x, rest) → all_of at bytes ≡ (x ∷ (all_of at rest).0, (all_of at rest).1)
all_more {X} at less bytes x rest e = by (length bytes) refl
  where
    by : (n : ℕ) → length bytes ≡ n → many at n bytes ≡ (x ∷ (all_of at rest).0, (all_of at rest).1)
    by zero l = absurd (omega (arith, less bytes x rest e, l))
    by (suc n) l =
        let s = less bytes x rest e in
        one_more at n bytes x rest e ∙ ap (λ (r : List X × List ℕ). (x ∷ r.0, r.1)) (enough at less n (length rest) rest (omega (arith, s, l)) (omega arith))

-- ---- what is read is spelled

pub many_is : {X : Type 0} (at : Reader X) (spell : X → List ℕ) → ((bytes : List ℕ) (x : X) (rest : List ℕ) → at bytes ≡ Some (x, rest) → bytes ≡ spell x ++ rest) → (n : ℕ) (bytes : List ℕ)
    → bytes ≡ joined (map spell (many at n bytes).0) ++ (many at n bytes).1
unfolding many
many_is at spell one zero bytes = refl
many_is {X} at spell one (suc n) bytes = by (at bytes) refl (many_is at spell one n)
  where
    by : (o : Option (X × List ℕ)) → at bytes ≡ o → ((rest : List ℕ) → rest ≡ joined (map spell (many at n rest).0) ++ (many at n rest).1) → bytes ≡ joined (map spell (one_and_more (many at n) bytes o).0) ++ (one_and_more (many at n) bytes o).1
    by None e more = refl
    by (Some p) e more = one bytes p.0 p.1 e ∙ ap (λ r. spell p.0 ++ r) (more p.1) ∙ sym (append_assoc (spell p.0) (joined (map spell (many at n p.1).0)) (many at n p.1).1)

-- ---- what is spelled is read: each item as long as what follows may stand behind one

pub all_are : {X : Type 0} (at : Reader X) (spell : X → List ℕ) (is : X → Bool) (Follows : List ℕ → Type 0) → Consumes at
    → ((x : X) (rest : List ℕ) → is x ≡ true → Follows rest → at (spell x ++ rest) ≡ Some (x, rest)) → ((x : X) (rest : List ℕ) → Follows (spell x ++ rest))
    → (xs : List X) (rest : List ℕ) → list_all is xs ≡ true → Follows rest → at rest ≡ None → all_of at (joined (map spell xs) ++ rest) ≡ (xs, rest)
all_are at spell is Follows less one begins [] rest all f none = all_end at rest none
all_are {X} at spell is Follows less one begins (x ∷ xs) rest all f none =
    let b = both_true (is x) (list_all is xs) all in
    let behind = joined (map spell xs) ++ rest in
    let follows : Follows behind = follow xs in
    let assoc : (spell x ++ joined (map spell xs)) ++ rest ≡ spell x ++ behind = append_assoc (spell x) (joined (map spell xs)) rest in
    ap (all_of at) assoc ∙ all_more at less (spell x ++ behind) x behind (one x behind b.0 follows)
    ∙ ap (λ (r : List X × List ℕ). (x ∷ r.0, r.1)) (all_are at spell is Follows less one begins xs rest b.1 f none)
  where
    follow : (ys : List X) → Follows (joined (map spell ys) ++ rest)
    follow [] = f
    follow (y ∷ ys) = subst Follows (sym (append_assoc (spell y) (joined (map spell ys)) rest)) (begins y (joined (map spell ys) ++ rest))

-- ---- the same, where each item has a byte at least

many_read : {X : Type 0} (at : Reader X) (spell : X → List ℕ) (is : X → Bool) (Follows : List ℕ → Type 0)
    → ((x : X) (rest : List ℕ) → is x ≡ true → Follows rest → at (spell x ++ rest) ≡ Some (x, rest)) → ((x : X) (rest : List ℕ) → Follows (spell x ++ rest))
    → (n : ℕ) (xs : List X) (rest : List ℕ) → length xs ≤ n → list_all is xs ≡ true → Follows rest → at rest ≡ None → many at n (joined (map spell xs) ++ rest) ≡ (xs, rest)
many_read at spell is Follows one begins n [] rest l all f none = no_more at n rest none
many_read at spell is Follows one begins zero (x ∷ xs) rest l all f none = absurd (omega (arith, l))
many_read {X} at spell is Follows one begins (suc n) (x ∷ xs) rest l all f none =
    let b = both_true (is x) (list_all is xs) all in
    let behind = joined (map spell xs) ++ rest in
    let follows : Follows behind = follow xs in
    let assoc : (spell x ++ joined (map spell xs)) ++ rest ≡ spell x ++ behind = append_assoc (spell x) (joined (map spell xs)) rest in
    ap (many at (suc n)) assoc ∙ one_more at n (spell x ++ behind) x behind (one x behind b.0 follows)
    ∙ ap (λ (r : List X × List ℕ). (x ∷ r.0, r.1)) (many_read at spell is Follows one begins n xs rest (omega (arith, l)) b.1 f none)
  where
    follow : (ys : List X) → Follows (joined (map spell ys) ++ rest)
    follow [] = f
    follow (y ∷ ys) = subst Follows (sym (append_assoc (spell y) (joined (map spell ys)) rest)) (begins y (joined (map spell ys) ++ rest))

as_many_bytes : {X : Type 0} (spell : X → List ℕ) → ((x : X) → 0 < length (spell x)) → (xs : List X) (rest : List ℕ) → length xs ≤ length (joined (map spell xs) ++ rest)
as_many_bytes spell some [] rest = omega arith
as_many_bytes spell some (x ∷ xs) rest =
    let first = some x in
    let more = as_many_bytes spell some xs rest in
    let assoc = ap length (append_assoc (spell x) (joined (map spell xs)) rest) in
    let sum = length-append (spell x) (joined (map spell xs) ++ rest) in
    omega (arith, first, more, assoc, sum)

pub all_read : {X : Type 0} (at : Reader X) (spell : X → List ℕ) (is : X → Bool) (Follows : List ℕ → Type 0)
    → ((x : X) (rest : List ℕ) → is x ≡ true → Follows rest → at (spell x ++ rest) ≡ Some (x, rest)) → ((x : X) (rest : List ℕ) → Follows (spell x ++ rest)) → ((x : X) → 0 < length (spell x))
    → (xs : List X) (rest : List ℕ) → list_all is xs ≡ true → Follows rest → at rest ≡ None → all_of at (joined (map spell xs) ++ rest) ≡ (xs, rest)
all_read at spell is Follows one begins some xs rest all f none =
    many_read at spell is Follows one begins (length (joined (map spell xs) ++ rest)) xs rest (as_many_bytes spell some xs rest) all f none

-- ---- bytes that stand for themselves

abbrev alone : ℕ → List ℕ
alone b = b ∷ []

all_alone : (s : List ℕ) → joined (map alone s) ≡ s
all_alone [] = refl
all_alone (b ∷ s) = ap (λ r. b ∷ r) (all_alone s)

pub bytes_read : (at : Reader ℕ) (is : ℕ → Bool) → ((b : ℕ) (rest : List ℕ) → is b ≡ true → at (b ∷ rest) ≡ Some (b, rest))
    → (s rest : List ℕ) → list_all is s ≡ true → at rest ≡ None → all_of at (s ++ rest) ≡ (s, rest)
bytes_read at is one s rest all none =
    ap (λ bytes. all_of at (bytes ++ rest)) (sym (all_alone s)) ∙ all_read at alone is (λ _. Unit {0}) (λ b r i f. one b r i) (λ b r. tt) (λ b. omega arith) s rest all tt none

-- ---- a loop over them: what is done, and what is to come, make the whole

pub found_more : {X : Type 0} (at : Reader X) → Consumes at → (bytes rest : List ℕ) (x : X) (done done' whole : List X) → at bytes ≡ Some (x, rest) → done' ≡ done ++ x ∷ []
    → done ++ (all_of at bytes).0 ≡ whole → done' ++ (all_of at rest).0 ≡ whole
found_more {X} at less bytes rest x done done' whole e d h =
    let more = ap (λ (r : List X × List ℕ). done ++ r.0) (all_more at less bytes x rest e) in
    ap (λ xs. xs ++ (all_of at rest).0) d ∙ append_assoc done (x ∷ []) (all_of at rest).0 ∙ sym more ∙ h

pub behind_more : {X : Type 0} (at : Reader X) → Consumes at → (bytes rest : List ℕ) (x : X) (whole : List ℕ) → at bytes ≡ Some (x, rest) → (all_of at bytes).1 ≡ whole → (all_of at rest).1 ≡ whole
behind_more {X} at less bytes rest x whole e h = sym (ap (λ (r : List X × List ℕ). r.1) (all_more at less bytes x rest e)) ∙ h

pub found_end : {X : Type 0} (at : Reader X) (bytes : List ℕ) (done whole : List X) → at bytes ≡ None → done ++ (all_of at bytes).0 ≡ whole → done ≡ whole
found_end {X} at bytes done whole e h = sym (append-nil done) ∙ sym (ap (λ (r : List X × List ℕ). done ++ r.0) (all_end at bytes e)) ∙ h

pub behind_end : {X : Type 0} (at : Reader X) (bytes whole : List ℕ) → at bytes ≡ None → (all_of at bytes).1 ≡ whole → bytes ≡ whole
behind_end {X} at bytes whole e h = sym (ap (λ (r : List X × List ℕ). r.1) (all_end at bytes e)) ∙ h

pub seen_more : {A X : Type 0} (at : Reader X) (see : A → X) → Consumes at → (bytes rest : List ℕ) (a : A) (done done' : List A) (whole : List X) → at bytes ≡ Some (see a, rest) → done' ≡ done ++ a ∷ []
    → map see done ++ (all_of at bytes).0 ≡ whole → map see done' ++ (all_of at rest).0 ≡ whole
seen_more at see less bytes rest a done done' whole e d h = found_more at less bytes rest (see a) (map see done) (map see done') whole e (ap (map see) d ∙ map_push see done a) h
