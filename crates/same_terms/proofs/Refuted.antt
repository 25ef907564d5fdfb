-- Where literals clash, they aren't all true.
use Rattle.std.proofs.Common.{◌≡◌, ℕ, zero, suc, ◌≤◌, true, false, not, List, [], ◌∷◌, ◌++◌, map, length, refl, sym, ◌∙◌, ap, inl, inr, arith}
use Rattle.std.specs.Prelude.{ℤ, pos, ◌+ℤ◌, ◌-ℤ◌, ◌*ℤ◌}
use Rattle.std.proofs.lemmas.Int.{ints}
use Rattle.std.proofs.Math.IntN.{zero-*ℤ}
use Rattle.qed_terms.specs.Meaning.{World, Values, whole, value, is_so, truth}
use Rattle.qed_terms.specs.Operators.{is_zero, is_equal}
use Rattle.qed_terms.specs.Tree.{Tree, false_tree, not_of, equal}
use Rattle.qed_linear.specs.Linear.{Part}
use Rattle.qed_linear.proofs.Ring.{sum_times}
use Rattle.qed_linear.proofs.Values as values
use Rattle.same_terms.specs.Written.{written, turned}
use Rattle.same_terms.specs.SameTerms.{Among, AreTrue, InBranch, as_whole, SameTerm, itself, turned as same_turned, through}
use Rattle.same_terms.specs.Clashes.{AddUp, EachPart, Vanish, difference, Clash, false_literal, literal_and_not, two_numbers, no_difference}
use Rattle.same_terms.proofs.Means.{number_value, written_value, same_means, turned_value}
use Rattle.same_terms.proofs.Terms.{EachAtom, atoms_in_branch, kid_in_branch}

module _ (w : World) (env : Values) where
  abbrev V : Tree → ℤ
  V = value w env

  abbrev P : List Part → ℤ
  P = values.parts_value w env

  -- ---- atoms taken as one

  module _ (r : Tree → Tree → Type 0) (back : (a b : Tree) → r a b → r b a) (on : (a b c : Tree) → r a b → r b c → r a c) (same : (a b : Tree) → r a b → V a ≡ V b) where
    -- the parts that aren't related to an atom
    others : (a : Tree) (ps : List Part) (z : ℤ) → AddUp r a ps z → List Part
    others a [] z e = []
    others a (p ∷ ps) z (inl x) = others a ps x.1.0 x.1.1
    others a (p ∷ ps) z (inr x) = p ∷ others a ps z x.1

    others_value : (a : Tree) (ps : List Part) (z : ℤ) (e : AddUp r a ps z) → P ps ≡ z *ℤ V a +ℤ P (others a ps z e)
    unfolding others
    others_value a [] z e = let m = ap (λ x. x *ℤ V a) e ∙ zero-*ℤ (V a) in omega (arith, ints, m)
    others_value a (p ∷ ps) z (inl x) =
        let v = others_value a ps x.1.0 x.1.1 in
        let m = ap (λ y. y *ℤ V a) x.1.2 ∙ sum_times (p.times) x.1.0 (V a) in
        let q = ap (λ y. p.times *ℤ y) (same a (p.atom) x.0) in
        omega (arith, ints, v, m, q)
    others_value a (p ∷ ps) z (inr x) = let v = others_value a ps z x.1 in omega (arith, ints, v)

    others_fewer : (a : Tree) (ps : List Part) (z : ℤ) (e : AddUp r a ps z) → length (others a ps z e) ≤ length ps
    unfolding others
    others_fewer a [] z e = omega arith
    others_fewer a (p ∷ ps) z (inl x) = let l = others_fewer a ps x.1.0 x.1.1 in omega arith
    others_fewer a (p ∷ ps) z (inr x) = let l = others_fewer a ps z x.1 in omega arith

    -- what another atom's parts add up to stays
    others_add : (b : Tree) (y : ℤ) (a : Tree) (ps : List Part) (z : ℤ) (e : AddUp r a ps z) → (r a b → ⊥) → AddUp r b ps y → AddUp r b (others a ps z e) y
    unfolding others
    others_add b y a [] z e n d = d
    others_add b y a (p ∷ ps) z (inl x) n (inl d) = absurd (n (on a (p.atom) b x.0 (back b (p.atom) d.0)))
    others_add b y a (p ∷ ps) z (inl x) n (inr d) = others_add b y a ps x.1.0 x.1.1 n d.1
    others_add b y a (p ∷ ps) z (inr x) n (inl d) = inl (d.0, (d.1.0, others_add b d.1.0 a ps z x.1 n d.1.1, d.1.2))
    others_add b y a (p ∷ ps) z (inr x) n (inr d) = inr (d.0, others_add b y a ps z x.1 n d.1)

    others_each : (so so' : Part → Type 0) (a : Tree) (ps : List Part) (z : ℤ) (e : AddUp r a ps z) → ((p : Part) → (r a (p.atom) → ⊥) → so p → so' p) → EachPart so ps → EachPart so' (others a ps z e)
    unfolding others
    others_each so so' a [] z e f all = tt
    others_each so so' a (p ∷ ps) z (inl x) f all = others_each so so' a ps x.1.0 x.1.1 f all.1
    others_each so so' a (p ∷ ps) z (inr x) f all = (f p x.0 all.0, others_each so so' a ps z x.1 f all.1)

    vanish_value : (n : ℕ) (ps : List Part) → length ps ≤ n → EachPart (λ p. r (p.atom) (p.atom)) ps → Vanish r ps → P ps ≡ pos 0
    unfolding others
    vanish_value n [] l selves all = refl
    vanish_value zero (p ∷ ps) l selves all = absurd (omega arith)
    vanish_value (suc n) (p ∷ ps) l selves all = go (λ rest k s v. vanish_value n rest k s v) (all.0)
      where
        left : ((rest : List Part) → length rest ≤ n → EachPart (λ q. r (q.atom) (q.atom)) rest → Vanish r rest → P rest ≡ pos 0) → (x : r (p.atom) (p.atom) × ((y : ℤ) × AddUp r (p.atom) ps y × (pos 0 ≡ p.times +ℤ y))) → P (p ∷ ps) ≡ pos 0
        left again x =
            let rest = others (p.atom) ps x.1.0 x.1.1 in
            let so : Vanish r rest = others_each (λ q. AddUp r (q.atom) (p ∷ ps) (pos 0)) (λ q. AddUp r (q.atom) rest (pos 0)) (p.atom) ps x.1.0 x.1.1 (λ q m d. others_add (q.atom) (pos 0) (p.atom) (p ∷ ps) (pos 0) (inl x) m d) all.1 in
            let self = others_each (λ q. r (q.atom) (q.atom)) (λ q. r (q.atom) (q.atom)) (p.atom) ps x.1.0 x.1.1 (λ q m d. d) selves.1 in
            let few = others_fewer (p.atom) ps x.1.0 x.1.1 in
            let none = again rest (omega arith) self so in
            let v = others_value (p.atom) ps x.1.0 x.1.1 in
            let m = sum_times (p.times) x.1.0 (V (p.atom)) in
            let q = ap (λ y. y *ℤ V (p.atom)) x.1.2 in
            let o = zero-*ℤ (V (p.atom)) in
            omega (arith, ints, none, v, m, q, o)

        go : ((rest : List Part) → length rest ≤ n → EachPart (λ q. r (q.atom) (q.atom)) rest → Vanish r rest → P rest ≡ pos 0) → AddUp r (p.atom) (p ∷ ps) (pos 0) → P (p ∷ ps) ≡ pos 0
        go again (inl x) = left again x
        go again (inr x) = absurd (x.0 selves.0)

  -- ---- clashes

  both_parts : (ps qs : List Part) → P (ps ++ qs) ≡ P ps +ℤ P qs
  both_parts [] qs = omega (arith, ints)
  both_parts (p ∷ ps) qs = let r = both_parts ps qs in omega (arith, ints, r)

  difference_value : (t u : Tree) → P (difference t u) ≡ P ((written t).parts) -ℤ P ((written u).parts)
  difference_value t u =
      let b = both_parts ((written t).parts) (map turned ((written u).parts)) in
      let n = turned_value w env ((written u).parts) in
      omega (arith, ints, b, n)

  equal_told : (a b : ℤ) → a ≡ b → is_equal a b ≡ true
  equal_told a b e = let z : a -ℤ b ≡ pos 0 = omega (arith, ints, e) in ap is_zero z

  module _ (ls : List Tree) (are : AreTrue w env ls) where
    selves_of : (ps : List Part) → EachAtom (InBranch ls) ps → EachPart (λ p. SameTerm ls (p.atom) (p.atom)) ps
    selves_of [] all = tt
    selves_of (p ∷ ps) all = (itself all.0, selves_of ps all.1)

    atoms_turned : (ps : List Part) → EachAtom (InBranch ls) ps → EachAtom (InBranch ls) (map turned ps)
    atoms_turned [] all = tt
    atoms_turned (p ∷ ps) all = (all.0, atoms_turned ps all.1)

    atoms_both : (ps qs : List Part) → EachAtom (InBranch ls) ps → EachAtom (InBranch ls) qs → EachAtom (InBranch ls) (ps ++ qs)
    atoms_both [] qs all all' = all'
    atoms_both (p ∷ ps) qs all all' = (all.0, atoms_both ps qs all.1 all')

    no_difference_refuted : (t u : Tree) → Among (not_of (equal t u)) ls → Vanish (SameTerm ls) (difference t u) → (written t).constant ≡ (written u).constant → ⊥
    no_difference_refuted t u m v c =
        let whole_in : InBranch ls (not_of (equal t u)) = inl (not_of (equal t u), m, as_whole) in
        let both_in = kid_in_branch ls (not_of (equal t u)) (equal t u) refl (inl refl) whole_in in
        let left_in = kid_in_branch ls (equal t u) t refl (inl refl) both_in in
        let right_in = kid_in_branch ls (equal t u) u refl (inr (inl refl)) both_in in
        let atoms = atoms_both ((written t).parts) (map turned ((written u).parts)) (atoms_in_branch ls t left_in) (atoms_turned ((written u).parts) (atoms_in_branch ls u right_in)) in
        let none = vanish_value (SameTerm ls) (λ a b s. same_turned s) (λ a b c s q. through s q) (λ a b s. ap whole (same_means w env ls are s)) (length (difference t u)) (difference t u) (omega arith) (selves_of (difference t u) atoms) v in
        let d = difference_value t u in
        let x = written_value w env t in
        let y = written_value w env u in
        let e : V t ≡ V u = omega (arith, ints, none, d, x, y, c) in
        let told = equal_told (V t) (V u) e in
        let is : not (is_equal (V t) (V u)) ≡ true = are (not_of (equal t u)) m in
        let f : not true ≡ true = sym (ap not told) ∙ is in
        absurd cc

    pub refuted : Clash ls → ⊥
    refuted (false_literal m) = let e : false ≡ true = are false_tree m in absurd cc
    refuted (literal_and_not t u m n s) =
        let a = are t m in
        let b : not (truth w env u) ≡ true = are (not_of u) n in
        let e : truth w env t ≡ truth w env u = ap is_so (same_means w env ls are s) in
        let f : not true ≡ true = ap not (sym a ∙ e) ∙ b in
        absurd cc
    refuted (two_numbers t u y z s e d n) = n (sym (number_value w env t y e) ∙ ap whole (same_means w env ls are s) ∙ number_value w env u z d)
    refuted (no_difference t u m v c) = no_difference_refuted t u m v c
