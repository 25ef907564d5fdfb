-- What is seen of the classes of places, place by place.
use Rattle.std.proofs.Common.{◌≡◌, ◌⊎◌, ℕ, ◌+◌, ◌<◌, ◌==◌, ◌++◌, Bool, true, false, List, [], ◌∷◌, length, get_or, refl, sym, ◌∙◌, ap, subst, inl, inr, below_more, arith}
use Rattle.std.specs.Prelude.{Option, Some, None, ℤ, nat_eq, if◌then◌else◌}
use Rattle.std.specs.Bool.{MatchBool}
use Rattle.std.proofs.lemmas.List.{get_or_append_left, get_or_push, length-append}
use Rattle.qed_terms.specs.Tree.{Tree}
use Rattle.same_terms.specs.Written.{number_in}
use Rattle.branch_rows.specs.Marks.{mark_at}
use Rattle.branch_rows.proofs.Marking.{number_is}
use Rattle.clashes.specs.Seen.{AreSeen, HasNumber, IsNumberThere, AreNumbers}

pub class_either : (class other : ℕ) (P : Type 0) → (nat_eq class other ≡ false → P) → (other ≡ class) ⊎ P
class_either class other P f = go (nat_eq class other) refl
  where
    go : (b : Bool) → nat_eq class other ≡ b → (other ≡ class) ⊎ P
    go true e = inl (sym (number_is class other e))
    go false e = inr (f e)

pub seen_none : (class_of : ℕ → ℕ) (ks : List ℕ) (find : ℕ → Option ℕ) → ((c : ℕ) → find c ≡ None) → AreSeen class_of ks 0 find
seen_none class_of ks find none = record {
  each = λ c k e. let d = none c in absurd cc;
  every = λ i l. absurd (omega arith);
}

module _ (class_of : ℕ → ℕ) (ks : List ℕ) (n : ℕ) (find find' : ℕ → Option ℕ) (k : ℕ) (is : k ≡ get_or ks n 0) (so_far : AreSeen class_of ks n find) (new : find' (class_of k) ≡ Some k) (others : (c : ℕ) → (c ≡ class_of k) ⊎ (find' c ≡ find c)) where
  abbrev IsThere : ℕ → Type 0
  IsThere i = (p : ℕ) × (find' (class_of (get_or ks i 0)) ≡ Some p)

  pub seen_more : AreSeen class_of ks (n + 1) find'
  seen_more = record {
    each = λ c p e. elim (others c) [
      | inl s ↦
          let d : Some k ≡ Some p = sym new ∙ ap find' (sym s) ∙ e in
          let m : k ≡ p = cc in
          (n, omega arith, sym is ∙ m, ap class_of (sym m) ∙ sym s)
      | inr s ↦ let r = so_far.each c p (sym s ∙ e) in (r.0, (let l = r.1 in omega arith), r.2, r.3)
    ];
    every = below_more IsThere n (λ i l. older i l) (k, ap (λ z. find' (class_of z)) (sym is) ∙ new);
  }
    where
      older : (i : ℕ) → i < n → IsThere i
      older i l =
          let r = so_far.every i l in
          elim (others (class_of (get_or ks i 0))) [ inl s ↦ (k, ap find' s ∙ new) | inr s ↦ (r.0, s ∙ r.1) ]

-- ---- numbers

pub numbers_none : (tree : ℕ → Tree) (marks : List Bool) → AreNumbers tree marks 0 []
numbers_none tree marks = record {
  each = λ i l. absurd (omega arith);
  every = λ k z l m e. absurd (omega arith);
}

module _ (tree : ℕ → Tree) (marks : List Bool) (n : ℕ) (places : List ℕ) (are : AreNumbers tree marks n places) where
  -- what stands there is no number, or isn't marked
  pub numbers_passed : ((z : ℤ) → mark_at marks n ≡ true → number_in (tree n) ≡ Some z → ⊥) → AreNumbers tree marks (n + 1) places
  numbers_passed none = record {
    each = λ i l. let r = are.each i l in (r.0, (let b = r.1 in omega arith), r.2);
    every = λ k z l m e. go k z m e (k == n) refl l;
  }
    where
      apart : (k : ℕ) → (k == n) ≡ false → k < n + 1 → k < n
      apart k e l = grind (arith, e, l)

      go : (k : ℕ) (z : ℤ) → mark_at marks k ≡ true → number_in (tree k) ≡ Some z → (b : Bool) → (k == n) ≡ b → k < n + 1 → (i : ℕ) × (i < length places) × (get_or places i 0 ≡ k)
      go k z m e true d l = let s = number_is k n d in absurd (none z (ap (mark_at marks) (sym s) ∙ m) (ap (λ y. number_in (tree y)) (sym s) ∙ e))
      go k z m e false d l = are.every k z (apart k d l) m e

  pub numbers_more : mark_at marks n ≡ true → HasNumber (tree n) → AreNumbers tree marks (n + 1) (places ++ n ∷ [])
  numbers_more mark number = record {
    each = λ i l. item i (i == length places) refl l;
    every = λ k z l m e. go k z m e (k == n) refl l;
  }
    where
      long : length (places ++ n ∷ []) ≡ length places + 1
      long = length-append places (n ∷ [])

      last : get_or (places ++ n ∷ []) (length places) 0 ≡ n
      last = get_or_push places n 0 (length places) refl

      first : (i : ℕ) → i < length places → get_or (places ++ n ∷ []) i 0 ≡ get_or places i 0
      first i l = get_or_append_left places (n ∷ []) 0 i l

      before : (i : ℕ) → (i == length places) ≡ false → i < length (places ++ n ∷ []) → i < length places
      before i e l = let a = long in grind (arith, e, l, a)

      apart : (k : ℕ) → (k == n) ≡ false → k < n + 1 → k < n
      apart k e l = grind (arith, e, l)

      item : (i : ℕ) (b : Bool) → (i == length places) ≡ b → i < length (places ++ n ∷ []) → (mark_at marks (get_or (places ++ n ∷ []) i 0) ≡ true) × (get_or (places ++ n ∷ []) i 0 < n + 1) × HasNumber (tree (get_or (places ++ n ∷ []) i 0))
      item i true e l =
          let s = ap (λ z. get_or (places ++ n ∷ []) z 0) (number_is i (length places) e) ∙ last in
          (ap (mark_at marks) s ∙ mark, subst (λ z. z < n + 1) (sym s) (omega arith), subst (λ z. HasNumber (tree z)) (sym s) number)
      item i false e l =
          let b = before i e l in
          let s = first i b in
          let r = are.each i b in
          (ap (mark_at marks) s ∙ r.0, subst (λ z. z < n + 1) (sym s) (let q = r.1 in omega arith), subst (λ z. HasNumber (tree z)) (sym s) r.2)

      go : (k : ℕ) (z : ℤ) → mark_at marks k ≡ true → number_in (tree k) ≡ Some z → (b : Bool) → (k == n) ≡ b → k < n + 1 → (i : ℕ) × (i < length (places ++ n ∷ [])) × (get_or (places ++ n ∷ []) i 0 ≡ k)
      go k z m e true d l = (length places, (let a = long in omega arith), last ∙ sym (number_is k n d))
      go k z m e false d l = let r = are.every k z (apart k d l) m e in (r.0, (let a = long in let b = r.1 in omega arith), first r.0 r.1 ∙ r.2)

pub numbers_put : (tree : ℕ → Tree) (marks : List Bool) (n : ℕ) (places : List ℕ) (b : Bool) → MatchBool b (IsNumberThere tree marks n) (IsNumberThere tree marks n → ⊥) → AreNumbers tree marks n places → AreNumbers tree marks (n + 1) (if b then places ++ n ∷ [] else places)
numbers_put tree marks n places true m are = numbers_more tree marks n places are m.0 m.1
numbers_put tree marks n places false m are = numbers_passed tree marks n places are (λ z d e. m (d, (z, e)))
