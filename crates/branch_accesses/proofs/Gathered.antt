-- Items gathered one after another: what is done and what is to come make the whole.
use Rattle.std.proofs.Common.{◌≡◌, ℕ, zero, suc, ◌+◌, ◌<◌, ◌≤◌, Bool, true, false, cond, List, [], ◌∷◌, ◌++◌, map, take, drop, length, get_or, All, append_assoc, refl, sym, ◌∙◌, ap, arith}
use Rattle.std.specs.Prelude.{Option, Some, None, option_map, option_to_list, IfSome}
use Rattle.std.proofs.lemmas.List.{map_push, take_all}
use Rattle.std.proofs.lemmas.List.Elements.{All-push, All-same}
use Rattle.qed_terms.specs.Tree.{Tree}
use Rattle.instance_rows.specs.Accesses.{with_some, each_some}

-- ---- lists

pub nil_behind : {A : Type 0} (xs : List A) → xs ++ [] ≡ xs
nil_behind [] = refl
nil_behind (x ∷ xs) = ap (λ ys. x ∷ ys) (nil_behind xs)

-- an item, and those behind it
pub cut : {A : Type 0} (xs : List A) (i : ℕ) (x : A) → i < length xs → x ≡ get_or xs i x → drop i xs ≡ x ∷ drop (i + 1) xs
cut xs i x k e = let m : i + 1 ≡ suc i = omega arith in go xs i k ∙ (λ j. sym e j ∷ drop (sym m j) xs)
  where
    go : (ys : List _) (j : ℕ) → j < length ys → drop j ys ≡ get_or ys j x ∷ drop (suc j) ys
    go [] j k = absurd (omega (arith, k))
    go (y ∷ ys) zero k = refl
    go (y ∷ ys) (suc j) k = go ys j (omega (arith, k))

pub none_behind : {A : Type 0} (xs : List A) (i : ℕ) → length xs ≤ i → drop i xs ≡ []
none_behind [] zero k = refl
none_behind [] (suc i) k = refl
none_behind (x ∷ xs) zero k = absurd (omega (arith, k))
none_behind (x ∷ xs) (suc i) k = none_behind xs i (omega (arith, k))

-- all items up to one, and that one
pub take_one : {A : Type 0} (xs : List A) (i : ℕ) (x : A) → i < length xs → x ≡ get_or xs i x → take (i + 1) xs ≡ take i xs ++ x ∷ []
take_one xs i x k e = let m : i + 1 ≡ suc i = omega arith in ap (λ n. take n xs) m ∙ go xs i k ∙ ap (λ y. take i xs ++ y ∷ []) (sym e)
  where
    go : (ys : List _) (j : ℕ) → j < length ys → take (suc j) ys ≡ take j ys ++ get_or ys j x ∷ []
    go [] j k = absurd (omega (arith, k))
    go (y ∷ ys) zero k = refl
    go (y ∷ ys) (suc j) k = ap (λ zs. y ∷ zs) (go ys j (omega (arith, k)))

-- ---- seen in one way and in another

pub mapped_more : {X Y A : Type 0} (v : X → A) (w : Y → A) (ys : List Y) (i : ℕ) (y : Y) (x : X) (done now : List X)
    → i < length ys → y ≡ get_or ys i y → v x ≡ w y → now ≡ done ++ x ∷ [] → map v done ≡ map w (take i ys) → map v now ≡ map w (take (i + 1) ys)
mapped_more v w ys i y x done now k e s n d =
    ap (map v) n ∙ map_push v done x ∙ (λ j. d j ++ s j ∷ []) ∙ sym (ap (map w) (take_one ys i y k e) ∙ map_push w (take i ys) y)

pub mapped_done : {X Y A : Type 0} (v : X → A) (w : Y → A) (ys : List Y) (i : ℕ) (done : List X) → length ys ≤ i → map v done ≡ map w (take i ys) → map v done ≡ map w ys
mapped_done v w ys i done k d = d ∙ ap (map w) (take_all i ys k)

-- ---- at each node, where there is one

some_behind : {X A : Type 0} (view : X → A) (o : Option X) (done : List X) (rest : List A) → map view (done ++ option_to_list o) ++ rest ≡ map view done ++ with_some (option_map view o) rest
some_behind view None done rest = ap (λ xs. map view xs ++ rest) (nil_behind done)
some_behind view (Some x) done rest = ap (λ xs. xs ++ rest) (map_push view done x) ∙ append_assoc (map view done) (view x ∷ []) rest

module _ {Id X A : Type 0} (tree : Id → Tree) (view : X → A) (f : Tree → Option A) where
  pub some_more : (nodes : List Id) (i : ℕ) (n : Id) (o : Option X) (done now : List X) (whole : List A) → i < length nodes → n ≡ get_or nodes i n → option_map view o ≡ f (tree n)
      → now ≡ done ++ option_to_list o → map view done ++ each_some f (map tree (drop i nodes)) ≡ whole → map view now ++ each_some f (map tree (drop (i + 1) nodes)) ≡ whole
  some_more nodes i n o done now whole k e s m w =
      let rest = each_some f (map tree (drop (i + 1) nodes)) in
      ap (λ xs. map view xs ++ rest) m ∙ some_behind view o done rest ∙ ap (λ p. map view done ++ with_some p rest) s
      ∙ ap (λ us. map view done ++ each_some f (map tree us)) (sym (cut nodes i n k e)) ∙ w

  pub some_done : (nodes : List Id) (i : ℕ) (done : List X) (whole : List A) → length nodes ≤ i → map view done ++ each_some f (map tree (drop i nodes)) ≡ whole → map view done ≡ whole
  some_done nodes i done whole k w = sym (nil_behind (map view done)) ∙ ap (λ us. map view done ++ each_some f (map tree us)) (sym (none_behind nodes i k)) ∙ w

pub held_more : {X : Type 0} (held : X → Type 0) (o : Option X) (done now : List X) → All held done → IfSome o held → now ≡ done ++ option_to_list o → All held now
held_more held None done now a s e = All-same held now done (e ∙ nil_behind done) a
held_more held (Some x) done now a s e = All-same held now (done ++ x ∷ []) e (All-push held done x a s)

pub held_if : {X : Type 0} (held : X → Type 0) (b : Bool) (x : X) (done now : List X) → All held done → held x → now ≡ (cond b (done ++ x ∷ []) done) → All held now
held_if held true x done now a s e = All-same held now (done ++ x ∷ []) e (All-push held done x a s)
held_if held false x done now a s e = All-same held now done e a
