-- What parts add up to over atoms that are taken as one.
use Rattle.std.proofs.Common.{◌≡◌, List, [], ◌∷◌, ◌++◌, map, refl, sym, ◌∙◌, ap, subst, inl, inr, arith}
use Rattle.std.specs.Prelude.{ℤ, pos, neg_ℤ, ◌+ℤ◌, int_lt, Bool, true, false, if◌then◌else◌}
use Rattle.std.proofs.lemmas.Int.{ints}
use Rattle.qed_terms.specs.Tree.{Tree}
use Rattle.qed_linear.specs.Linear.{Part}
use Rattle.same_terms.specs.Written.{turned}
use Rattle.same_terms.specs.SameTerms.{SameTerm}
use Rattle.same_terms.specs.Clashes.{AddUp}
use Rattle.branch_links.specs.BranchLinks.{IsAtom, BranchLink, added, taken, parts_of, Chained}

module _ (r : Tree → Tree → Type 0) (a : Tree) where
  pub one_sum : (ps : List Part) (y z : ℤ) → AddUp r a ps y → AddUp r a ps z → y ≡ z
  one_sum [] y z d e = d ∙ sym e
  one_sum (p ∷ ps) y z (inl d) (inl e) = let s = one_sum ps d.1.0 e.1.0 d.1.1 e.1.1 in d.1.2 ∙ ap (λ x. p.times +ℤ x) s ∙ sym e.1.2
  one_sum (p ∷ ps) y z (inl d) (inr e) = absurd (e.0 d.0)
  one_sum (p ∷ ps) y z (inr d) (inl e) = absurd (d.0 e.0)
  one_sum (p ∷ ps) y z (inr d) (inr e) = one_sum ps y z d.1 e.1

  pub both_sums : (ps qs : List Part) (y z x : ℤ) → AddUp r a ps y → AddUp r a qs z → x ≡ y +ℤ z → AddUp r a (ps ++ qs) x
  both_sums [] qs y z x d e f = let g : z ≡ x = omega (arith, ints) in subst (AddUp r a qs) g e
  both_sums (p ∷ ps) qs y z x (inl d) e f =
      let g = d.1.2 in
      inl (d.0, (d.1.0 +ℤ z, both_sums ps qs d.1.0 z (d.1.0 +ℤ z) d.1.1 e refl, omega (arith, ints)))
  both_sums (p ∷ ps) qs y z x (inr d) e f = inr (d.0, both_sums ps qs y z x d.1 e f)

  pub sum_turned : (ps : List Part) (z : ℤ) → AddUp r a ps z → AddUp r a (map turned ps) (neg_ℤ z)
  sum_turned [] z e = ap neg_ℤ e
  sum_turned (p ∷ ps) z (inl e) = let g = e.1.2 in inl (e.0, (neg_ℤ e.1.0, sum_turned ps e.1.0 e.1.1, omega (arith, ints)))
  sum_turned (p ∷ ps) z (inr e) = inr (e.0, sum_turned ps z e.1)

-- ---- along a chain

two_sides : (z : ℤ) → added z ≡ z +ℤ taken z
two_sides z = go (int_lt (pos 0) z) (int_lt z (pos 0)) refl refl
  where
    go : (b c : Bool) → int_lt (pos 0) z ≡ b → int_lt z (pos 0) ≡ c → (if b then z else pos 0) ≡ z +ℤ (if c then neg_ℤ z else pos 0)
    go true true d e = absurd (omega (arith, ints, d, e))
    go true false d e = omega (arith, ints)
    go false true d e = omega (arith, ints)
    go false false d e = omega (arith, ints, d, e)

module _ (ls : List Tree) (t : Tree) (atom : IsAtom ls t) where
  -- what is left of an atom is what the first link adds, less what the end of the chain adds
  pub chained_sum : (l : BranchLink) (ms : List BranchLink) (end : BranchLink) (y x z : ℤ) → Chained ls l ms end → AddUp (SameTerm ls) t (l.parts) y → AddUp (SameTerm ls) t (end.parts) x → added y ≡ z +ℤ added x → AddUp (SameTerm ls) t (parts_of (l ∷ ms)) z
  chained_sum l [] end y x z h d e f =
      let s = h t atom in
      let a = one_sum (SameTerm ls) t (l.parts) s.0 y s.2 d in
      let b = one_sum (SameTerm ls) t (end.parts) s.1 x s.3 e in
      let g : taken y ≡ added x = ap taken (sym a) ∙ s.4 ∙ ap added b in
      let k = two_sides y in
      both_sums (SameTerm ls) t (l.parts) [] y (pos 0) z d refl (last y (added y) (taken y) (added x) z k g f)
    where
      last : (y p n q z : ℤ) → p ≡ y +ℤ n → n ≡ q → p ≡ z +ℤ q → z ≡ y +ℤ pos 0
      last y p n q z k g f = omega (arith, ints)
  chained_sum l (m ∷ ms) end y x z h d e f =
      let s = h.0 t atom in
      let a = one_sum (SameTerm ls) t (l.parts) s.0 y s.2 d in
      let g : taken y ≡ added s.1 = ap taken (sym a) ∙ s.4 in
      let w = added s.1 +ℤ neg_ℤ (added x) in
      let rest = chained_sum m ms end s.1 x w h.1 s.3 e (there (added s.1) (added x)) in
      let k = two_sides y in
      both_sums (SameTerm ls) t (l.parts) (parts_of (m ∷ ms)) y w z d rest (step y (added y) (taken y) (added s.1) (added x) z k g f)
    where
      there : (p q : ℤ) → p ≡ (p +ℤ neg_ℤ q) +ℤ q
      there p q = omega (arith, ints)

      step : (y p n m q z : ℤ) → p ≡ y +ℤ n → n ≡ m → p ≡ z +ℤ q → z ≡ y +ℤ (m +ℤ neg_ℤ q)
      step y p n m q z k g f = omega (arith, ints)
