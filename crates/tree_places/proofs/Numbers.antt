-- Tables of heads and of keys: one entry more.
use Rattle.std.proofs.Common.{◌≡◌, ◌⊎◌, ℕ, ◌+◌, ◌==◌, ◌&&◌, Bool, true, false, List, [], ◌∷◌, refl, sym, ◌∙◌, ap, subst, inl, inr, arith}
use Rattle.std.specs.Prelude.{Option, Some, None}
use Rattle.std.specs.Map.{KeepsOthers}
use Rattle.std.specs.declared.vec.Vec.{Vec}
use Rattle.qed_terms.specs.declared.head.Head.{Head}
use Rattle.qed_terms.specs.Order.{same_head}
use Rattle.qed_terms.proofs.Total.{heads_are_exact}
use Rattle.tree_places.specs.Heads.{number_in, AreHeads, KeepsNumbers}
use Rattle.tree_places.specs.View.{same_numbers, find_in}

-- ---- heads

head_told : (g k : Head) → (g ≡ k) ⊎ (same_head g k ≡ false)
head_told g k = go (same_head g k) refl
  where
    go : (b : Bool) → same_head g k ≡ b → (g ≡ k) ⊎ (same_head g k ≡ false)
    go true e = inl ((heads_are_exact g k).0 e)
    go false e = inr e

pub other_heads : (head : Head) (old new : List (Head × ℕ)) → KeepsOthers same_head (same_head head) old new → (g : Head) → (g ≡ head) ⊎ (number_in new g ≡ number_in old g)
unfolding KeepsOthers number_in
other_heads head old new keeps g = elim (head_told g head) [
  | inl e ↦ inl e
  | inr n ↦ inr (keeps (same_head g) (λ x y e. ap (λ z. same_head z y) ((heads_are_exact g x).0 e)) (λ k e. ap (same_head g) (sym ((heads_are_exact head k).0 e)) ∙ n))
]

module _ (number number' : Head → Option ℕ) (count : ℕ) (head : Head) (are : AreHeads number count) (none : number head ≡ None) (new : number' head ≡ Some count) (others : (g : Head) → (g ≡ head) ⊎ (number' g ≡ number g)) where
  pub heads_keep : KeepsNumbers number number'
  heads_keep g n e = elim (others g) [ inl s ↦ let d : number g ≡ None = ap number s ∙ none in absurd cc | inr s ↦ s ∙ e ]

  pub heads_more : (next : ℕ) → next ≡ count + 1 → AreHeads number' next
  heads_more next is = record {
    below = λ g n e. elim (others g) [
      | inl s ↦ let d : Some n ≡ Some count = sym e ∙ ap number' s ∙ new in let m : n ≡ count = cc in omega arith
      | inr s ↦ let l = are.below g n (sym s ∙ e) in omega arith
    ];
    one = λ g k n e d. elim (others g) [
      | inl s ↦ elim (others k) [
        | inl t ↦ s ∙ sym t
        | inr t ↦ let a : Some n ≡ Some count = sym e ∙ ap number' s ∙ new in let m : n ≡ count = cc in let l = are.below k n (sym t ∙ d) in absurd (omega arith)
      ]
      | inr s ↦ elim (others k) [
        | inl t ↦ let a : Some n ≡ Some count = sym d ∙ ap number' t ∙ new in let m : n ≡ count = cc in let l = are.below g n (sym s ∙ e) in absurd (omega arith)
        | inr t ↦ are.one g k n (sym s ∙ e) (sym t ∙ d)
      ]
    ];
  }

-- ---- keys

first : (a b : Bool) → (a && b) ≡ true → a ≡ true
first true b e = refl
first false b e = absurd cc

second : (a b : Bool) → (a && b) ≡ true → b ≡ true
second true b e = e
second false b e = absurd cc

both : (a b : Bool) → a ≡ true → b ≡ true → (a && b) ≡ true
both true b e f = f
both false b e f = absurd cc

number_is : (a b : ℕ) → (a == b) ≡ true → a ≡ b
number_is a b e = grind (arith, e)

number_self : (a : ℕ) → (a == a) ≡ true
number_self a = grind arith

numbers_are : (ks ls : List ℕ) → same_numbers ks ls ≡ true → ks ≡ ls
numbers_are [] [] e = refl
numbers_are [] (l ∷ ls) e = absurd cc
numbers_are (k ∷ ks) [] e = absurd cc
numbers_are (k ∷ ks) (l ∷ ls) e =
    let d = number_is k l (first (k == l) (same_numbers ks ls) e) in
    let r = numbers_are ks ls (second (k == l) (same_numbers ks ls) e) in
    λ i. d i ∷ r i

numbers_self : (ks : List ℕ) → same_numbers ks ks ≡ true
numbers_self [] = refl
numbers_self (k ∷ ks) = both (k == k) (same_numbers ks ks) (number_self k) (numbers_self ks)

pub key_told : (f g : List ℕ) → (f ≡ g) ⊎ (f ≡ g → ⊥)
key_told f g = go (same_numbers f g) refl
  where
    go : (b : Bool) → same_numbers f g ≡ b → (f ≡ g) ⊎ (f ≡ g → ⊥)
    go true e = inl (numbers_are f g e)
    go false e = inr (λ h. let t : same_numbers f g ≡ true = ap (same_numbers f) (sym h) ∙ numbers_self f in absurd cc)

module _ {Z : Type 0} (key : Vec ℕ Z) (old new : List (Vec ℕ Z × ℕ)) where
  pub other_keys : KeepsOthers (λ x y. same_numbers (x.items) (y.items)) (λ v. same_numbers (key.items) (v.items)) old new → (f : List ℕ) → (f ≡ key.items) ⊎ (find_in new f ≡ find_in old f)
  unfolding KeepsOthers
  other_keys keeps f = elim (key_told f (key.items)) [
    | inl e ↦ inl e
    | inr n ↦ inr (keeps (λ v. same_numbers f (v.items)) (λ x y e. ap (λ g. same_numbers g (y.items)) (numbers_are f (x.items) e)) (λ v e. apart v e n))
  ]
    where
      apart : (v : Vec ℕ Z) → same_numbers (key.items) (v.items) ≡ true → (f ≡ key.items → ⊥) → same_numbers f (v.items) ≡ false
      apart v e n = go (same_numbers f (v.items)) refl
        where
          go : (b : Bool) → same_numbers f (v.items) ≡ b → b ≡ false
          go true h = absurd (n (numbers_are f (v.items) h ∙ sym (numbers_are (key.items) (v.items) e)))
          go false h = refl

-- ---- no entries

pub no_heads : (entries : List (Head × ℕ)) → entries ≡ [] → AreHeads (number_in entries) 0
unfolding number_in
no_heads entries e = subst (λ xs. AreHeads (number_in xs) 0) (sym e) (record { below = λ g n d. absurd cc; one = λ g k n d f. absurd cc })

pub no_keys : {Z : Type 0} (entries : List (Vec ℕ Z × ℕ)) → entries ≡ [] → (key : List ℕ) → find_in entries key ≡ None
no_keys entries e key = ap (λ xs. find_in xs key) e
