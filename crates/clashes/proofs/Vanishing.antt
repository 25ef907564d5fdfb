-- Sums by class, and what related atoms add up to.
use Rattle.std.proofs.Common.{◌≡◌, ℕ, ◌<◌, ◌==◌, Bool, true, false, List, [], ◌∷◌, ◌++◌, refl, sym, ◌∙◌, ap, inl, inr, arith}
use Rattle.std.specs.Prelude.{◌↔◌, ℤ, pos, if◌then◌else◌}
use Rattle.std.proofs.lemmas.Int.{ints}
use Rattle.std.proofs.lemmas.List.Elements.{All-head, All-tail}
use Rattle.qed_terms.specs.Tree.{Tree}
use Rattle.same_places.specs.Same.{Part, PartsWithin}
use Rattle.same_terms.specs.SameTerms.{InBranch}
use Rattle.same_terms.specs.Stands.{tree_parts}
use Rattle.same_terms.specs.Clashes.{AddUp, EachPart, Vanish}
use Rattle.same_terms.proofs.Terms.{EachAtom}
use Rattle.branch_rows.proofs.Marking.{number_is, number_self}
use Rattle.clashes.specs.Sums.{share, class_sum, EachSumVanishes}

-- places of terms of the branch
abbrev pub IsFine : (ls : List Tree) (count : ℕ) (tree : ℕ → Tree) → ℕ → Type 0
IsFine ls count tree k = (k < count) × InBranch ls (tree k)

abbrev pub AreFine : (ls : List Tree) (count : ℕ) (tree : ℕ → Tree) → List Part → Type 0
AreFine ls count tree [] = Unit {0}
AreFine ls count tree (p ∷ ps) = IsFine ls count tree (p.0) × AreFine ls count tree ps

pub fine_of : (ls : List Tree) (count : ℕ) (tree : ℕ → Tree) (ps : List Part) → PartsWithin count ps → EachAtom (InBranch ls) (tree_parts tree ps) → AreFine ls count tree ps
fine_of ls count tree [] within all = tt
fine_of ls count tree (p ∷ ps) within all = ((All-head (λ (q : Part). q.0 < count) p ps within, all.0), fine_of ls count tree ps (All-tail (λ (q : Part). q.0 < count) p ps within) all.1)

pub fine_both : (ls : List Tree) (count : ℕ) (tree : ℕ → Tree) (ps qs : List Part) → AreFine ls count tree ps → AreFine ls count tree qs → AreFine ls count tree (ps ++ qs)
fine_both ls count tree [] qs a b = b
fine_both ls count tree (p ∷ ps) qs a b = (a.0, fine_both ls count tree ps qs a.1 b)

module _ (ls : List Tree) (count : ℕ) (tree : ℕ → Tree) (class_of : ℕ → ℕ) (r : Tree → Tree → Type 0) (told : (i j : ℕ) → IsFine ls count tree i → IsFine ls count tree j → (class_of i ≡ class_of j) ↔ r (tree i) (tree j)) where
  share_is : (c : ℕ) (p : Part) → class_of (p.0) ≡ c → share class_of c p ≡ p.1
  share_is c p e = ap (λ b. if b then p.1 else pos 0) (ap (λ z. z == c) e ∙ number_self c)

  share_none : (c : ℕ) (p : Part) → (class_of (p.0) == c) ≡ false → share class_of c p ≡ pos 0
  share_none c p e = ap (λ b. if b then p.1 else pos 0) e

  is_none : (c d : ℕ) → (c ≡ d → ⊥) → (c == d) ≡ false
  is_none c d n = go (c == d) refl
    where
      go : (b : Bool) → (c == d) ≡ b → b ≡ false
      go true e = absurd (n (number_is c d e))
      go false e = refl

  add_to : (a : ℕ) (ps : List Part) (z : ℤ) → IsFine ls count tree a → AreFine ls count tree ps → AddUp r (tree a) (tree_parts tree ps) z → z ≡ class_sum class_of (class_of a) ps
  add_to a [] z fine all e = e
  add_to a (p ∷ ps) z fine all (inl x) =
      let s = share_is (class_of a) p (sym ((told a (p.0) fine all.0).1 x.0)) in
      let m = add_to a ps x.1.0 fine all.1 x.1.1 in
      let e = x.1.2 in
      omega (arith, ints, s, m, e)
  add_to a (p ∷ ps) z fine all (inr x) =
      let s = share_none (class_of a) p (is_none (class_of (p.0)) (class_of a) (λ e. x.0 ((told a (p.0) fine all.0).0 (sym e)))) in
      let m = add_to a ps z fine all.1 x.1 in
      omega (arith, ints, s, m)

  add_from : (a : ℕ) (ps : List Part) (z : ℤ) → IsFine ls count tree a → AreFine ls count tree ps → z ≡ class_sum class_of (class_of a) ps → AddUp r (tree a) (tree_parts tree ps) z
  add_from a [] z fine all e = e
  add_from a (p ∷ ps) z fine all e = go (λ y d. add_from a ps y fine all.1 d) (class_of (p.0) == class_of a) refl
    where
      go : ((y : ℤ) → y ≡ class_sum class_of (class_of a) ps → AddUp r (tree a) (tree_parts tree ps) y) → (b : Bool) → (class_of (p.0) == class_of a) ≡ b → AddUp r (tree a) (tree_parts tree (p ∷ ps)) z
      go rest true d =
          let c = number_is (class_of (p.0)) (class_of a) d in
          let s = share_is (class_of a) p c in
          inl ((told a (p.0) fine all.0).0 (sym c), (class_sum class_of (class_of a) ps, rest (class_sum class_of (class_of a) ps) refl, omega (arith, ints, s, e)))
      go rest false d =
          let s = share_none (class_of a) p d in
          inr (
            λ x. let c = (told a (p.0) fine all.0).1 x in let n : true ≡ false = sym (ap (λ z. z == class_of a) (sym c) ∙ number_self (class_of a)) ∙ d in absurd cc,
            rest z (omega (arith, ints, s, e)),
          )

  vanish_to : (all ps : List Part) → AreFine ls count tree all → AreFine ls count tree ps → EachPart (λ p. AddUp r (p.atom) (tree_parts tree all) (pos 0)) (tree_parts tree ps) → EachSumVanishes class_of all ps
  vanish_to all [] fine these v = tt
  vanish_to all (p ∷ ps) fine these v = (sym (add_to (p.0) all (pos 0) these.0 fine v.0), vanish_to all ps fine these.1 v.1)

  vanish_from : (all ps : List Part) → AreFine ls count tree all → AreFine ls count tree ps → EachSumVanishes class_of all ps → EachPart (λ p. AddUp r (p.atom) (tree_parts tree all) (pos 0)) (tree_parts tree ps)
  vanish_from all [] fine these v = tt
  vanish_from all (p ∷ ps) fine these v = (add_from (p.0) all (pos 0) these.0 fine (sym v.0), vanish_from all ps fine these.1 v.1)

  -- nothing is left by classes where nothing is left by the relation
  pub vanish_told : (ps : List Part) → AreFine ls count tree ps → EachSumVanishes class_of ps ps ↔ Vanish r (tree_parts tree ps)
  vanish_told ps fine = (vanish_from ps ps fine fine, vanish_to ps ps fine fine)
