-- Links over the classes of places stand for those of the branch.
use Rattle.std.proofs.Common.{◌≡◌, ◌⊎◌, ℕ, ◌<◌, ◌==◌, Bool, true, false, if◌then◌else◌, List, [], ◌∷◌, refl, sym, ◌∙◌, ap, subst, inl, inr, arith}
use Rattle.std.specs.Prelude.{ℤ, pos, neg_ℤ, ◌+ℤ◌, ◌*ℤ◌, ◌≤ℤ◌, Option, Some, None}
use Rattle.std.proofs.lemmas.Int.{ints}
use Rattle.qed_terms.specs.Tree.{Tree}
use Rattle.qed_linear.specs.Linear as linear
use Rattle.qed_linear.specs.Linear.{lin}
use Rattle.linear_chains.specs.Links.{Link, times_at}
use Rattle.same_places.specs.Same.{Part}
use Rattle.same_terms.specs.Written.{number_in}
use Rattle.same_terms.specs.SameTerms.{Among, InBranch, SameTerm}
use Rattle.same_terms.specs.Clashes.{AddUp}
use Rattle.same_terms.specs.Stands.{tree_parts}
use Rattle.same_terms.proofs.Terms.{right_in}
use Rattle.branch_links.specs.BranchLinks.{IsNumber, NoNumber, IsAtom, NumbersAddUp, Says, BranchLink, IsWithin, IsLink}
use Rattle.branch_links.specs.Numbered.{TellApart, StandsFor}
use Rattle.branch_links.proofs.Sums.{one_sum}
use Rattle.class_links.specs.ClassForms.{AreLeast, number_part, atom_part, numbers_of, part_at, times_of, AreWithin, IsClassLink}

-- ---- one sum of numbers

one_number : (ls : List Tree) (t : Tree) (y z : ℤ) → IsNumber ls t y → IsNumber ls t z → y ≡ z
one_number ls t y z a b = let l = a.least (b.tree) z (b.same) (b.number) in let m = b.least (a.tree) y (a.same) (a.number) in omega (arith, ints)

pub one_numbers : (ls : List Tree) (ps : List linear.Part) (y z : ℤ) → NumbersAddUp ls ps y → NumbersAddUp ls ps z → y ≡ z
one_numbers ls [] y z d e = d ∙ sym e
one_numbers ls (p ∷ ps) y z (inl d) (inl e) =
    let n = one_number ls (p.atom) d.0 e.0 d.2 e.2 in
    let r = one_numbers ls ps d.1 e.1 d.3 e.3 in
    d.4 ∙ (λ i. p.times *ℤ n i +ℤ r i) ∙ sym e.4
one_numbers ls (p ∷ ps) y z (inl d) (inr e) = absurd (e.0 (d.2.tree) d.0 (d.2.same) (d.2.number))
one_numbers ls (p ∷ ps) y z (inr d) (inl e) = absurd (d.0 (e.2.tree) e.0 (e.2.same) (e.2.number))
one_numbers ls (p ∷ ps) y z (inr d) (inr e) = one_numbers ls ps y z d.1 e.1

zero_before : (x : ℤ) → x ≡ pos 0 +ℤ x
zero_before x = omega (arith, ints)

told : (a b : ℕ) → ((a ≡ b) × ((a == b) ≡ true)) ⊎ ((a ≡ b → ⊥) × ((a == b) ≡ false))
told a b = go (a == b) refl
  where
    go : (t : Bool) → (a == b) ≡ t → ((a ≡ b) × ((a == b) ≡ true)) ⊎ ((a ≡ b → ⊥) × ((a == b) ≡ false))
    go true e = inl (grind (arith, e), e)
    go false e = inr ((λ h. grind (arith, e, h)), e)

module _ (ls : List Tree) (count : ℕ) (tree : ℕ → Tree) (class : ℕ → ℕ) (look : ℕ → Option ℤ) (tells : TellApart ls count tree class) (least : AreLeast count tree class look) where
  -- ---- what classes count as

  number_there : (i : ℕ) (y : ℤ) → i < count → InBranch ls (tree i) → look (class i) ≡ Some y → IsNumber ls (tree i) y
  number_there i y l b e =
      let f = least.found (class i) y e in
      record {
        tree = tree f.0;
        number = f.3;
        same = (tells.same i f.0 l f.1 b).0 (sym f.2);
        least = λ u z s n.
            let p = tells.place u (right_in s) in
            let c : class i ≡ class p.0 = (tells.same i p.0 l p.1 b).1 (subst (SameTerm ls (tree i)) (sym p.2) s) in
            let g = least.least p.0 z p.1 (ap number_in p.2 ∙ n) in
            let d : Some y ≡ Some g.0 = sym e ∙ ap look c ∙ g.1 in
            let h : g.0 ≡ y = cc in
            subst (λ x. x ≤ℤ z) h g.2;
      }

  no_number : (i : ℕ) → i < count → InBranch ls (tree i) → look (class i) ≡ None → NoNumber ls (tree i)
  no_number i l b e u z s n =
      let p = tells.place u (right_in s) in
      let c : class i ≡ class p.0 = (tells.same i p.0 l p.1 b).1 (subst (SameTerm ls (tree i)) (sym p.2) s) in
      let g = least.least p.0 z p.1 (ap number_in p.2 ∙ n) in
      let d : None ≡ Some g.0 = sym e ∙ ap look c ∙ g.1 in
      absurd cc

  atom_none : (i : ℕ) → i < count → IsAtom ls (tree i) → look (class i) ≡ None
  atom_none i l atom = go (look (class i)) refl
    where
      go : (o : Option ℤ) → look (class i) ≡ o → o ≡ None
      go None e = refl
      go (Some y) e = let n = number_there i y l (atom.there) e in absurd (atom.none (n.tree) y (n.same) (n.number))

  -- ---- parts at places of the branch

  abbrev pub EachPlace : List Part → Type 0
  EachPlace [] = Unit {0}
  EachPlace (p ∷ ps) = (p.0 < count) × InBranch ls (tree (p.0)) × EachPlace ps

  numbers_add : (ps : List Part) → EachPlace ps → NumbersAddUp ls (tree_parts tree ps) (numbers_of class look ps)
  numbers_add [] all = refl
  numbers_add (p ∷ ps) all = go (look (class (p.0))) refl (numbers_add ps all.2)
    where
      go : (o : Option ℤ) → look (class (p.0)) ≡ o → NumbersAddUp ls (tree_parts tree ps) (numbers_of class look ps) → NumbersAddUp ls (tree_parts tree (p ∷ ps)) (number_part o (p.1) +ℤ numbers_of class look ps)
      go (Some y) e rest = inl (y, numbers_of class look ps, number_there (p.0) y all.0 all.1 e, rest, refl)
      go None e rest = inr (no_number (p.0) all.0 all.1 e, subst (NumbersAddUp ls (tree_parts tree ps)) (zero_before (numbers_of class look ps)) rest)

  times_add : (ps : List Part) → EachPlace ps → (i : ℕ) → i < count → IsAtom ls (tree i) → AddUp (SameTerm ls) (tree i) (tree_parts tree ps) (times_of class look ps (class i))
  times_add [] all i l atom = refl
  times_add (p ∷ ps) all i l atom = elim (told (class (p.0)) (class i)) [
    | inl e ↦
        let same : SameTerm ls (tree i) (tree (p.0)) = (tells.same i (p.0) l all.0 (atom.there)).0 (sym e.0) in
        let none : look (class (p.0)) ≡ None = ap look e.0 ∙ atom_none i l atom in
        let here : part_at class look p (class i) ≡ p.1 = ap (λ b. if b then atom_part (look (class (p.0))) (p.1) else pos 0) e.1 ∙ ap (λ o. atom_part o (p.1)) none in
        inl (same, (times_of class look ps (class i), times_add ps all.2 i l atom, ap (λ x. x +ℤ times_of class look ps (class i)) here))
    | inr n ↦
        let apart : SameTerm ls (tree i) (tree (p.0)) → ⊥ = λ s. n.0 (sym ((tells.same i (p.0) l all.0 (atom.there)).1 s)) in
        let here : part_at class look p (class i) ≡ pos 0 = ap (λ b. if b then atom_part (look (class (p.0))) (p.1) else pos 0) n.1 in
        let whole = zero_before (times_of class look ps (class i)) ∙ ap (λ x. x +ℤ times_of class look ps (class i)) (sym here) in
        inr (apart, subst (AddUp (SameTerm ls) (tree i) (tree_parts tree ps)) whole (times_add ps all.2 i l atom))
  ]

  -- a class of one of the atoms
  abbrev HasAtom : ℕ → Type 0
  HasAtom c = (i : ℕ) × (i < count) × IsAtom ls (tree i) × (class i ≡ c)

  atoms_of : (ps : List Part) → EachPlace ps → (c : ℕ) → (times_of class look ps c ≡ pos 0) ⊎ ((i : ℕ) × (i < count) × IsAtom ls (tree i) × (class i ≡ c))
  atoms_of [] all c = inl refl
  atoms_of (p ∷ ps) all c = elim (told (class (p.0)) c) [
    | inl e ↦ at_class (atoms_of ps all.2 c) e.0 (look (class (p.0))) refl
    | inr n ↦ behind (atoms_of ps all.2 c) (ap (λ b. if b then atom_part (look (class (p.0))) (p.1) else pos 0) n.1)
  ]
    where
      two_zeros : (x y : ℤ) → x ≡ pos 0 → y ≡ pos 0 → x +ℤ y ≡ pos 0
      two_zeros x y d e = omega (arith, ints)

      behind : ((times_of class look ps c ≡ pos 0) ⊎ HasAtom c) → part_at class look p c ≡ pos 0 → (times_of class look (p ∷ ps) c ≡ pos 0) ⊎ HasAtom c
      behind rest none = elim rest [ inl z ↦ inl (two_zeros (part_at class look p c) (times_of class look ps c) none z) | inr a ↦ inr a ]

      nothing : (b : Bool) (o : Option ℤ) (y : ℤ) → o ≡ Some y → (if b then atom_part o (p.1) else pos 0) ≡ pos 0
      nothing true o y d = ap (λ q. atom_part q (p.1)) d
      nothing false o y d = refl

      at_class : ((times_of class look ps c ≡ pos 0) ⊎ HasAtom c) → class (p.0) ≡ c → (o : Option ℤ) → look (class (p.0)) ≡ o → (times_of class look (p ∷ ps) c ≡ pos 0) ⊎ HasAtom c
      at_class rest e None d = inr (p.0, all.0, record { there = all.1; none = no_number (p.0) all.0 all.1 d }, e)
      at_class rest e (Some y) d = behind rest (nothing (class (p.0) == c) (look (class (p.0))) y d)

  -- ---- links

  module _ (ps : List Part) (all : EachPlace ps) (z : ℤ) (literal : Tree) (says : Says literal (lin (tree_parts tree ps) z)) (among : Among literal ls) where
    abbrev link_with : ℤ → BranchLink
    link_with bound = record { literal = literal; parts = tree_parts tree ps; bound = bound }

    pub is_link : (l : Link) → IsClassLink class look ps z l → IsLink ls (link_with (l.bound))
    is_link l is = record {
      among = among;
      form = lin (tree_parts tree ps) z;
      says = says;
      parts = refl;
      numbers = numbers_of class look ps;
      put = numbers_add ps all;
      bound = is.bound;
      bound_within = subst IsWithin (sym (is.bound)) (is.within.bound);
      times_within = λ t atom.
          let p = tells.place t (atom.there) in
          let there : IsAtom ls (tree p.0) = subst (IsAtom ls) (sym p.2) atom in
          (times_of class look ps (class p.0), subst (λ u. AddUp (SameTerm ls) u (tree_parts tree ps) (times_of class look ps (class p.0))) p.2 (times_add ps all p.0 p.1 there), is.within.times (class p.0));
    }

    pub stands : (l : Link) → IsClassLink class look ps z l → StandsFor ls count tree class l (link_with (l.bound))
    stands l is = record {
      bound = refl;
      ordered = is.ordered;
      times = λ i b atom. subst (AddUp (SameTerm ls) (tree i) (tree_parts tree ps)) (sym (is.same (class i))) (times_add ps all i b atom);
      atoms = λ c. elim (atoms_of ps all c) [ inl e ↦ inl (is.same c ∙ e) | inr a ↦ inr a ];
    }

  -- a link of the branch with these parts is within the limits, and is what the link over classes stands for
  module _ (ps : List Part) (all : EachPlace ps) (m : BranchLink) (is_in : IsLink ls m) (parts : m.parts ≡ tree_parts tree ps) where
    numbers_same : is_in.numbers ≡ numbers_of class look ps
    numbers_same = one_numbers ls (tree_parts tree ps) (is_in.numbers) (numbers_of class look ps) (subst (λ qs. NumbersAddUp ls qs (is_in.numbers)) parts (is_in.put)) (numbers_add ps all)

    pub within_there : AreWithin class look ps (is_in.form.constant)
    within_there = record {
      bound = subst IsWithin (is_in.bound ∙ ap (λ x. neg_ℤ (is_in.form.constant +ℤ x)) numbers_same) (is_in.bound_within);
      times = λ c. elim (atoms_of ps all c) [
        | inl e ↦ subst IsWithin (sym e) nothing_within
        | inr a ↦
            let w = is_in.times_within (tree a.0) a.2 in
            let same = one_sum (SameTerm ls) (tree a.0) (tree_parts tree ps) w.0 (times_of class look ps (class a.0)) (subst (λ qs. AddUp (SameTerm ls) (tree a.0) qs w.0) parts w.1) (times_add ps all a.0 a.1 a.2) in
            subst (λ d. IsWithin (times_of class look ps d)) a.3 (subst IsWithin same w.2)
      ];
    }
      where
        nothing_within : IsWithin (pos 0)
        nothing_within = (omega (arith, ints), omega (arith, ints))

    pub stands_there : (l : Link) → IsClassLink class look ps (is_in.form.constant) l → StandsFor ls count tree class l m
    stands_there l is = record {
      bound = is.bound ∙ ap (λ x. neg_ℤ (is_in.form.constant +ℤ x)) (sym numbers_same) ∙ sym (is_in.bound);
      ordered = is.ordered;
      times = λ i b atom. subst (λ qs. AddUp (SameTerm ls) (tree i) qs (times_at (l.form) (class i))) (sym parts) (subst (AddUp (SameTerm ls) (tree i) (tree_parts tree ps)) (sym (is.same (class i))) (times_add ps all i b atom));
      atoms = λ c. elim (atoms_of ps all c) [ inl e ↦ inl (is.same c ∙ e) | inr a ↦ inr a ];
    }
