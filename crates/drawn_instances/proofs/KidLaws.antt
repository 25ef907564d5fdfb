-- Ids of the kids of a node, by how many there are.
use Rattle.std.proofs.Common.{◌≡◌, ℕ, zero, suc, ◌<◌, Bool, true, false, List, [], ◌∷◌, map, length, get_or, All, refl, sym, ◌∙◌, ap, subst, arith}
use Rattle.std.proofs.lemmas.List.{length-map}
use Rattle.std.proofs.lemmas.List.Elements.{All-get_or}
use Rattle.qed_terms.specs.Tree.{Tree, Trees, stop, more, list_of, one, two, three, kids_in}
use Rattle.qed_terms.specs.Nodes.{kids_of}
use Rattle.drawn_instances.specs.Heads.{is_one, is_two, is_three, is_four}

pub kid_held : {Id : Type 0} (held : Id → Type 0) (ks : List Id) (i : ℕ) (k : Id) → All held ks → i < length ks → k ≡ get_or ks i k → held k
kid_held held ks i k a n e = subst held (sym e) (All-get_or held ks i k n a)

module _ {Id : Type 0} (tree : Id → Tree) where
  pub stop_so : (ts : Trees) → map tree [] ≡ list_of ts → ts ≡ stop
  stop_so stop e = refl
  stop_so (more t ts) e = absurd cc

  pub more_so : (k : Id) (ks : List Id) (ts : Trees) → map tree (k ∷ ks) ≡ list_of ts → (us : Trees) × ((ts ≡ more (tree k) us) × (map tree ks ≡ list_of us))
  more_so k ks stop e = absurd cc
  more_so k ks (more t ts) e =
      let first : tree k ≡ t = cc in
      let rest : map tree ks ≡ list_of ts = cc in
      (ts, (ap (λ x. more x ts) (sym first), rest))

  pub only : (a : Id) (ts : Trees) → map tree (a ∷ []) ≡ list_of ts → ts ≡ one (tree a)
  only a ts e = let m = more_so a [] ts e in m.1.0 ∙ ap (more (tree a)) (stop_so m.0 m.1.1)

  pub both : (a b : Id) (ts : Trees) → map tree (a ∷ b ∷ []) ≡ list_of ts → ts ≡ two (tree a) (tree b)
  both a b ts e = let m = more_so a (b ∷ []) ts e in m.1.0 ∙ ap (more (tree a)) (only b m.0 m.1.1)

  pub all_three : (a b c : Id) (ts : Trees) → map tree (a ∷ b ∷ c ∷ []) ≡ list_of ts → ts ≡ three (tree a) (tree b) (tree c)
  all_three a b c ts e = let m = more_so a (b ∷ c ∷ []) ts e in m.1.0 ∙ ap (more (tree a)) (both b c m.0 m.1.1)

  pub all_four : (a b c d : Id) (ts : Trees) → map tree (a ∷ b ∷ c ∷ d ∷ []) ≡ list_of ts → ts ≡ more (tree a) (three (tree b) (tree c) (tree d))
  all_four a b c d ts e = let m = more_so a (b ∷ c ∷ d ∷ []) ts e in m.1.0 ∙ ap (more (tree a)) (all_three b c d m.0 m.1.1)

-- ---- as many as there are

pub one_there : {Id : Type 0} (tree : Id → Tree) (t : Tree) (ks : List Id) (a : Id) → length ks ≡ 1 → map tree ks ≡ kids_of t → a ≡ get_or ks 0 a → kids_in t ≡ one (tree a)
one_there tree t [] a n e p = absurd (omega arith)
one_there tree t (x ∷ []) a n e p = only tree x (kids_in t) e ∙ ap (λ k. one (tree k)) (sym p)
one_there tree t (x ∷ y ∷ ks) a n e p = absurd (omega arith)

pub two_there : {Id : Type 0} (tree : Id → Tree) (t : Tree) (ks : List Id) (a b : Id) → length ks ≡ 2 → map tree ks ≡ kids_of t → a ≡ get_or ks 0 a → b ≡ get_or ks 1 b → kids_in t ≡ two (tree a) (tree b)
two_there tree t [] a b n e p q = absurd (omega arith)
two_there tree t (x ∷ []) a b n e p q = absurd (omega arith)
two_there tree t (x ∷ y ∷ []) a b n e p q = both tree x y (kids_in t) e ∙ (λ i. two (tree (sym p i)) (tree (sym q i)))
two_there tree t (x ∷ y ∷ z ∷ ks) a b n e p q = absurd (omega arith)

pub three_there : {Id : Type 0} (tree : Id → Tree) (t : Tree) (ks : List Id) (a b c : Id) → length ks ≡ 3 → map tree ks ≡ kids_of t → a ≡ get_or ks 0 a → b ≡ get_or ks 1 b → c ≡ get_or ks 2 c
    → kids_in t ≡ three (tree a) (tree b) (tree c)
three_there tree t [] a b c n e p q r = absurd (omega arith)
three_there tree t (x ∷ []) a b c n e p q r = absurd (omega arith)
three_there tree t (x ∷ y ∷ []) a b c n e p q r = absurd (omega arith)
three_there tree t (x ∷ y ∷ z ∷ []) a b c n e p q r = all_three tree x y z (kids_in t) e ∙ (λ i. three (tree (sym p i)) (tree (sym q i)) (tree (sym r i)))
three_there tree t (x ∷ y ∷ z ∷ w ∷ ks) a b c n e p q r = absurd (omega arith)

pub four_there : {Id : Type 0} (tree : Id → Tree) (t : Tree) (ks : List Id) (a b c d : Id) → length ks ≡ 4 → map tree ks ≡ kids_of t
    → a ≡ get_or ks 0 a → b ≡ get_or ks 1 b → c ≡ get_or ks 2 c → d ≡ get_or ks 3 d → kids_in t ≡ more (tree a) (three (tree b) (tree c) (tree d))
four_there tree t [] a b c d n e p q r s = absurd (omega arith)
four_there tree t (x ∷ []) a b c d n e p q r s = absurd (omega arith)
four_there tree t (x ∷ y ∷ []) a b c d n e p q r s = absurd (omega arith)
four_there tree t (x ∷ y ∷ z ∷ []) a b c d n e p q r s = absurd (omega arith)
four_there tree t (x ∷ y ∷ z ∷ w ∷ []) a b c d n e p q r s =
    all_four tree x y z w (kids_in t) e ∙ (λ i. more (tree (sym p i)) (three (tree (sym q i)) (tree (sym r i)) (tree (sym s i))))
four_there tree t (x ∷ y ∷ z ∷ w ∷ v ∷ ks) a b c d n e p q r s = absurd (omega arith)

-- ---- another number of kids

not_one : {Id : Type 0} (ks : List Id) (tree : Id → Tree) (ts : Trees) → (length ks ≡ 1 → ⊥) → map tree ks ≡ list_of ts → is_one ts ≡ false
not_one ks tree stop n e = refl
not_one ks tree (more t stop) n e = absurd (n (sym (length-map ks tree) ∙ ap length e))
not_one ks tree (more t (more u ts)) n e = refl

not_two : {Id : Type 0} (ks : List Id) (tree : Id → Tree) (ts : Trees) → (length ks ≡ 2 → ⊥) → map tree ks ≡ list_of ts → is_two ts ≡ false
not_two ks tree stop n e = refl
not_two ks tree (more t stop) n e = refl
not_two ks tree (more t (more u stop)) n e = absurd (n (sym (length-map ks tree) ∙ ap length e))
not_two ks tree (more t (more u (more v ts))) n e = refl

not_three : {Id : Type 0} (ks : List Id) (tree : Id → Tree) (ts : Trees) → (length ks ≡ 3 → ⊥) → map tree ks ≡ list_of ts → is_three ts ≡ false
not_three ks tree stop n e = refl
not_three ks tree (more t stop) n e = refl
not_three ks tree (more t (more u stop)) n e = refl
not_three ks tree (more t (more u (more v stop))) n e = absurd (n (sym (length-map ks tree) ∙ ap length e))
not_three ks tree (more t (more u (more v (more w ts)))) n e = refl

not_four : {Id : Type 0} (ks : List Id) (tree : Id → Tree) (ts : Trees) → (length ks ≡ 4 → ⊥) → map tree ks ≡ list_of ts → is_four ts ≡ false
not_four ks tree stop n e = refl
not_four ks tree (more t stop) n e = refl
not_four ks tree (more t (more u stop)) n e = refl
not_four ks tree (more t (more u (more v stop))) n e = refl
not_four ks tree (more t (more u (more v (more w stop)))) n e = absurd (n (sym (length-map ks tree) ∙ ap length e))
not_four ks tree (more t (more u (more v (more w (more z ts))))) n e = refl

pub one_not : {Id : Type 0} (tree : Id → Tree) (t : Tree) (ks : List Id) → (length ks ≡ 1 → ⊥) → map tree ks ≡ kids_of t → is_one (kids_in t) ≡ false
one_not tree t ks n e = not_one ks tree (kids_in t) n e

pub two_not : {Id : Type 0} (tree : Id → Tree) (t : Tree) (ks : List Id) → (length ks ≡ 2 → ⊥) → map tree ks ≡ kids_of t → is_two (kids_in t) ≡ false
two_not tree t ks n e = not_two ks tree (kids_in t) n e

pub three_not : {Id : Type 0} (tree : Id → Tree) (t : Tree) (ks : List Id) → (length ks ≡ 3 → ⊥) → map tree ks ≡ kids_of t → is_three (kids_in t) ≡ false
three_not tree t ks n e = not_three ks tree (kids_in t) n e

pub four_not : {Id : Type 0} (tree : Id → Tree) (t : Tree) (ks : List Id) → (length ks ≡ 4 → ⊥) → map tree ks ≡ kids_of t → is_four (kids_in t) ≡ false
four_not tree t ks n e = not_four ks tree (kids_in t) n e

pub ruleset kid_laws = (kid_held, one_there, two_there, three_there, four_there, one_not, two_not, three_not, four_not)
