-- What is same on rows that stand for the terms of a branch is same on the terms.
use Rattle.std.proofs.Common.{◌≡◌, ◌⊎◌, ℕ, suc, ◌≤◌, List, [], ◌∷◌, refl, sym, ◌∙◌, ap, subst, inl, inr, arith}
use Rattle.std.specs.Prelude.{pos}
use Rattle.qed_terms.specs.Nodes.{kids_of}
use Rattle.qed_terms.specs.Tree.{Tree, head_of}
use Rattle.qed_linear.specs.Linear.{part}
use Rattle.same_places.specs.Pairing.{Takes, here, there, PairsOff, none_left, one_pair}
use Rattle.same_places.specs.Same.{Row, Pairs, Same, SameParts, no_parts, one_part}
use Rattle.same_places.specs.Same as places
use Rattle.same_places.specs.Passing.{OneMark}
use Rattle.same_places.proofs.Pairing.{take_mapped}
use Rattle.same_terms.specs.Written.{written}
use Rattle.same_terms.specs.SameTerms.{Among, InBranch, SameTerm, itself, turned, through, given, alike, paired, SameKids, no_kids, one_kid, SameAtoms, no_atoms, one_atom}
use Rattle.same_terms.specs.Stands.{Label, over_kids, over_atoms, numbered, tree_part, tree_parts, IsKidsRow, IsAtomsRow, Stand}
use Rattle.same_terms.proofs.Terms.{EachAtom, kid_in_branch, atoms_in_branch}

module _ (tree : ℕ → Tree) where
  -- a part behind the first has a larger number
  number_of : (q : places.Part) (qs rest : List places.Part) (m : ℕ) (us : List Tree) → tree_parts tree qs ≡ numbered m us → Takes q qs rest → (k : ℕ) × (m ≤ k) × (q.1 ≡ pos k)
  number_of q qs rest m [] e (here {xs}) = absurd cc
  number_of q qs rest m (u ∷ us) e (here {xs}) =
      let d : tree_part tree q ≡ part u (pos m) = cc in (m, omega arith, ap (λ p. p.times) d)
  number_of q qs rest m [] e (there {xs} t) = absurd cc
  number_of q qs rest m (u ∷ us) e (there {y} {xs} {ys} t) =
      let r = number_of q xs ys (suc m) us (cc) t in (r.0, (let l = r.1 in omega arith), r.2)

  -- so the one with the first number is the first
  pub first_taken : (q : places.Part) (qs rest : List places.Part) (n : ℕ) (us : List Tree) → tree_parts tree qs ≡ numbered n us → Takes q qs rest → q.1 ≡ pos n → (u : Tree) × (vs : List Tree) × (us ≡ u ∷ vs) × (tree (q.0) ≡ u) × (tree_parts tree rest ≡ numbered (suc n) vs)
  first_taken q qs rest n [] e (here {xs}) m = absurd cc
  first_taken q qs rest n (u ∷ us) e (here {xs}) m =
      let d : tree_part tree q ≡ part u (pos n) = cc in (u, us, refl, ap (λ p. p.atom) d, cc)
  first_taken q qs rest n [] e (there {xs} t) m = absurd cc
  first_taken q qs rest n (u ∷ us) e (there {y} {xs} {ys} t) m =
      let r = number_of q xs ys (suc n) us (cc) t in
      let k : n ≡ r.0 = let a = r.2 in cc in
      let l = r.1 in
      absurd (omega arith)

module _ (ls : List Tree) (count : ℕ) (tree : ℕ → Tree) (stands_for : ℕ → Label → Type 0) (rows : List Row) (pairs : Pairs) (st : Stand ls count tree stands_for rows pairs) where
  -- one place, or two whose terms are same
  abbrev Related : ℕ → ℕ → Type 0
  Related i j = (i ≡ j) ⊎ SameTerm ls (tree i) (tree j)

  related_turned : (i j : ℕ) → Related i j → Related j i
  related_turned i j (inl e) = inl (sym e)
  related_turned i j (inr s) = inr (turned s)

  related_through : (i j k : ℕ) → Related i j → Related j k → Related i k
  related_through i j k (inl e) r = subst (λ z. Related z k) (sym e) r
  related_through i j k (inr s) (inl e) = inr (subst (λ z. SameTerm ls (tree i) (tree z)) e s)
  related_through i j k (inr s) (inr t) = inr (through s t)

  terms_of : (i j : ℕ) → InBranch ls (tree i) → Related i j → SameTerm ls (tree i) (tree j)
  terms_of i j b (inl e) = subst (λ z. SameTerm ls (tree i) (tree z)) e (itself b)
  terms_of i j b (inr s) = s

  abbrev EachIn : List Tree → Type 0
  EachIn ts = (k : Tree) → Among k ts → InBranch ls k

  same_kids : (ts us : List Tree) (n : ℕ) (ps qs : List places.Part) → tree_parts tree ps ≡ numbered n ts → tree_parts tree qs ≡ numbered n us → EachIn ts → PairsOff (OneMark Related) ps qs → SameKids ls ts us
  same_kids [] [] n ps qs e d all off = no_kids
  same_kids [] (u ∷ us) n [] qs e d all none_left = absurd cc
  same_kids [] (u ∷ us) n (p ∷ ps) qs e d all off = absurd cc
  same_kids (t ∷ ts) us n [] qs e d all off = absurd cc
  same_kids (t ∷ ts) us n (p ∷ ps) qs e d all (one_pair {y = q} {rest = rest} h take off) =
      let is : tree_part tree p ≡ part t (pos n) = cc in
      let mark : p.1 ≡ pos n = ap (λ x. x.times) is in
      let atom : tree p.0 ≡ t = ap (λ x. x.atom) is in
      let f = first_taken tree q qs rest n us d take (sym h.0 ∙ mark) in
      let b : InBranch ls (tree p.0) = subst (InBranch ls) (sym atom) (all t (inl refl)) in
      let s = terms_of (p.0) (q.0) b h.1 in
      let s' = subst (λ z. SameTerm ls z (f.0)) atom (subst (λ z. SameTerm ls (tree p.0) z) f.3 s) in
      subst (λ z. SameKids ls (t ∷ ts) z) (sym f.2) (one_kid s' (same_kids ts f.1 (suc n) ps rest (cc) f.4 (λ k m. all k (inr m)) off))

  same_atoms : {ps qs : List places.Part} → EachAtom (InBranch ls) (tree_parts tree ps) → PairsOff (OneMark Related) ps qs → SameAtoms ls (tree_parts tree ps) (tree_parts tree qs)
  same_atoms all none_left = no_atoms
  same_atoms all (one_pair {x} {y} {ys = ys} {rest = rest} h take off) =
      let take' = take_mapped (tree_part tree) take in
      one_atom (terms_of (x.0) (y.0) all.0 h.1) (subst (λ z. Takes (part (tree y.0) z) (tree_parts tree ys) (tree_parts tree rest)) (sym h.0) take') (same_atoms all.1 off)

  one_of : (r s : Row) (x y : Label) → r.label ≡ s.label → stands_for (r.label) x → stands_for (s.label) y → x ≡ y
  one_of r s x y e a b = st.one_meaning (s.label) x y (subst (λ n. stands_for n x) e a) b

  both_kids : (r s : Row) → InBranch ls (tree r.place) → InBranch ls (tree s.place) → IsKidsRow tree stands_for r → IsKidsRow tree stands_for s → r.label ≡ s.label → PairsOff (OneMark Related) (r.parts) (s.parts) → SameTerm ls (tree r.place) (tree s.place)
  both_kids r s b c x y e off =
      let d : over_kids (head_of (tree r.place)) ≡ over_kids (head_of (tree s.place)) = one_of r s (over_kids (head_of (tree r.place))) (over_kids (head_of (tree s.place))) e (x.labelled) (y.labelled) in
      alike b c (x.unbound) (cc) (same_kids (kids_of (tree r.place)) (kids_of (tree s.place)) 0 (r.parts) (s.parts) (x.kids) (y.kids) (λ k m. kid_in_branch ls (tree r.place) k (x.unbound) m b) off)

  both_atoms : (r s : Row) → InBranch ls (tree r.place) → InBranch ls (tree s.place) → IsAtomsRow tree stands_for r → IsAtomsRow tree stands_for s → r.label ≡ s.label → PairsOff (OneMark Related) (r.parts) (s.parts) → SameTerm ls (tree r.place) (tree s.place)
  both_atoms r s b c x y e off =
      let d : over_atoms ((written (tree r.place)).constant) ≡ over_atoms ((written (tree s.place)).constant) = one_of r s (over_atoms ((written (tree r.place)).constant)) (over_atoms ((written (tree s.place)).constant)) e (x.labelled) (y.labelled) in
      let all = subst (EachAtom (InBranch ls)) (sym (x.atoms)) (atoms_in_branch ls (tree r.place) b) in
      let same = same_atoms all off in
      paired b c (x.sum) (y.sum) (cc) (subst (λ z. SameAtoms ls z ((written (tree s.place)).parts)) (x.atoms) (subst (λ z. SameAtoms ls (tree_parts tree (r.parts)) z) (y.atoms) same))

  rows_same : (r s : Row) → InBranch ls (tree r.place) → InBranch ls (tree s.place) → (IsKidsRow tree stands_for r ⊎ IsAtomsRow tree stands_for r) → (IsKidsRow tree stands_for s ⊎ IsAtomsRow tree stands_for s) → r.label ≡ s.label → PairsOff (OneMark Related) (r.parts) (s.parts) → SameTerm ls (tree r.place) (tree s.place)
  rows_same r s b c (inl x) (inl y) e off = both_kids r s b c x y e off
  rows_same r s b c (inr x) (inr y) e off = both_atoms r s b c x y e off
  rows_same r s b c (inl x) (inr y) e off =
      let d : over_kids (head_of (tree r.place)) ≡ over_atoms ((written (tree s.place)).constant) = one_of r s (over_kids (head_of (tree r.place))) (over_atoms ((written (tree s.place)).constant)) e (x.labelled) (y.labelled) in absurd cc
  rows_same r s b c (inr x) (inl y) e off =
      let d : over_atoms ((written (tree r.place)).constant) ≡ over_kids (head_of (tree s.place)) = one_of r s (over_atoms ((written (tree r.place)).constant)) (over_kids (head_of (tree s.place))) e (x.labelled) (y.labelled) in absurd cc

  mutual
    related : {i j : ℕ} → Same rows pairs i j → Related i j
    related places.itself = inl refl
    related (places.turned {i} {j} s) = related_turned i j (related s)
    related (places.through {i} {j} {k} s t) = related_through i j k (related s) (related t)
    related (places.given {i} {j} k e) = inr (given (st.pair_is k i j e))
    related (places.alike {i} {j} k l r s e d x y h ps) =
        let a = st.row_is k r e in
        let b = st.row_is l s d in
        inr (subst (λ z. SameTerm ls (tree z) (tree j)) x (subst (λ z. SameTerm ls (tree r.place) (tree z)) y (rows_same r s a.0 b.0 a.1 b.1 h (parts_related ps))))

    parts_related : {ps qs : List places.Part} → SameParts rows pairs ps qs → PairsOff (OneMark Related) ps qs
    parts_related no_parts = none_left
    parts_related (one_part s t r) = one_pair (refl, related s) t (parts_related r)

  pub rows_terms : (i j : ℕ) → InBranch ls (tree i) → Same rows pairs i j → SameTerm ls (tree i) (tree j)
  rows_terms i j b s = terms_of i j b (related s)
