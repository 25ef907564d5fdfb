-- Names that are pushed one after the other.
use Rattle.std.proofs.Common.{◌≡◌, ◌<◌, ◌≤◌, ℕ, zero, suc, ◌+◌, ◌-◌, Bool, true, false, List, [], ◌∷◌, ◌++◌, drop, length, get_or, refl, ap, sym, ◌∙◌, append_assoc, append-nil, arith}
use Rattle.std.proofs.Common.{◌^◌}
use Rattle.std.specs.Fmt.{decimal}
use Rattle.std.proofs.lemmas.List.{at_drop_more, at_drop_all}
use Rattle.std.proofs.lemmas.Fmt.{decimal-digits_of}
use Rattle.std.specs.Prelude.{◌&&◌, if◌then◌else◌, codes, not, ◌==◌, nat_lt}
use Rattle.slot_names.specs.Bases.{Name, is_among, shown_as, pairs_of, own_name, own_names, temporary_name, temporary_names}

-- what was pushed goes to what is to come
pushed : (done more rest : List Name) → (done ++ more) ++ rest ≡ done ++ (more ++ rest)
pushed = append_assoc

pub pair_next : (whole bases done file : List Name) (i : ℕ) (x : Name) → i < length file → x ≡ get_or file i x → bases ≡ done ++ pairs_of (x ∷ [])
    → done ++ pairs_of (drop i file) ≡ whole → bases ++ pairs_of (drop (i + 1) file) ≡ whole
pair_next whole bases done file i x lt e h k =
    ap (λ zs. zs ++ pairs_of (drop (i + 1) file)) h ∙ append_assoc done (pairs_of (x ∷ [])) (pairs_of (drop (i + 1) file))
    ∙ ap (λ y. done ++ (pairs_of (y ∷ []) ++ pairs_of (drop (i + 1) file))) e ∙ sym (at_drop_more (λ zs. done ++ pairs_of zs) file i x lt) ∙ k

pub pair_all : (whole done file : List Name) (i : ℕ) → length file ≤ i → done ++ pairs_of (drop i file) ≡ whole → done ≡ whole
pair_all whole done file i h k = sym (append-nil done) ∙ sym (at_drop_all (λ zs. done ++ pairs_of zs) file i h) ∙ k

-- one more of the function's own
pub own_next : (whole bases done gs own : List Name) (left less i : ℕ) (x y : Name) → i < length own → x ≡ get_or own i x → y ≡ own_name gs left x
    → bases ≡ done ++ pairs_of (y ∷ []) → less ≡ left - 1
    → done ++ pairs_of (own_names gs left (drop i own)) ≡ whole → bases ++ pairs_of (own_names gs less (drop (i + 1) own)) ≡ whole
own_next whole bases done gs own left less i x y lt e k b l w =
    (λ j. b j ++ pairs_of (own_names gs (l j) (drop (i + 1) own)))
    ∙ append_assoc done (pairs_of (y ∷ [])) (pairs_of (own_names gs (left - 1) (drop (i + 1) own)))
    ∙ ap (λ z. done ++ (pairs_of (z ∷ []) ++ pairs_of (own_names gs (left - 1) (drop (i + 1) own)))) k
    ∙ sym (at_drop_more (λ zs. done ++ pairs_of (own_names gs left zs)) own i x lt ∙ ap (λ z. done ++ pairs_of (own_names gs left (z ∷ drop (i + 1) own))) (sym e))
    ∙ w

pub own_all : (whole done gs own : List Name) (left i : ℕ) → length own ≤ i → done ++ pairs_of (own_names gs left (drop i own)) ≡ whole → done ≡ whole
own_all whole done gs own left i h k = sym (append-nil done) ∙ sym (at_drop_all (λ zs. done ++ pairs_of (own_names gs left zs)) own i h) ∙ k

pub temporary_next : (whole bases done : List Name) (n count : ℕ) (x : Name) → n < count → x ≡ temporary_name (n + 1) → bases ≡ done ++ x ∷ []
    → done ++ temporary_names (suc n) (count - n) ≡ whole → bases ++ temporary_names (suc (n + 1)) (count - (n + 1)) ≡ whole
temporary_next whole bases done n count x lt e h k =
    ap (λ zs. zs ++ temporary_names (suc (n + 1)) (count - (n + 1))) h ∙ append_assoc done (x ∷ []) (temporary_names (suc (n + 1)) (count - (n + 1)))
    ∙ ap (λ y. done ++ y ∷ temporary_names (suc (n + 1)) (count - (n + 1))) e
    ∙ (λ i. done ++ temporary_name (one i) ∷ temporary_names (suc (one i)) (count - (n + 1)))
    ∙ ap (λ m. done ++ temporary_names (suc n) m) left ∙ k
  where
    one : n + 1 ≡ suc n
    one = omega (arith)

    left : suc (count - (n + 1)) ≡ count - n
    left = omega (arith, lt)

pub temporary_all : (whole done : List Name) (n count : ℕ) → count ≤ n → done ++ temporary_names (suc n) (count - n) ≡ whole → done ≡ whole
temporary_all whole done n count h k = sym (append-nil done) ∙ ap (λ m. done ++ temporary_names (suc n) m) none ∙ k
  where
    none : 0 ≡ count - n
    none = omega (arith, h)

-- the name of a temporary, as it is written
pub numbered : (n : ℕ) (digits : List ℕ) → 0 < n → n < 2 ^ 64 → digits ≡ decimal n → ([] ++ 37 ∷ []) ++ digits ≡ temporary_name n
numbered n digits some small e = ap (λ ds. 37 ∷ ds) (e ∙ decimal-digits_of n some small)
