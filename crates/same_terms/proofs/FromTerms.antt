-- What is same on the terms of a branch is same on rows that stand for them.
use Rattle.std.proofs.Common.{◌≡◌, ℕ, suc, ◌<◌, true, false, List, [], ◌∷◌, map, sym, ◌∙◌, ap, subst, arith}
use Rattle.std.specs.Prelude.{pos, Some, slice_get}
use Rattle.std.proofs.lemmas.List.Elements.{All-tail}
use Rattle.qed_terms.specs.Nodes.{kids_of}
use Rattle.qed_terms.specs.Tree.{Tree, head_of}
use Rattle.qed_linear.specs.Linear.{Part, part}
use Rattle.same_places.specs.Pairing.{Takes, here, there}
use Rattle.same_places.specs.Same.{Row, Pairs, Same, SameParts, no_parts, one_part, PartsWithin}
use Rattle.same_places.specs.Same as places
use Rattle.same_places.proofs.Pairing.{take_all}
use Rattle.same_terms.specs.Written.{is_sum, written}
use Rattle.same_terms.specs.SameTerms.{is_binder, InBranch, SameTerm, itself, turned, through, given, alike, paired, SameKids, no_kids, one_kid, SameAtoms, no_atoms, one_atom}
use Rattle.same_terms.specs.Stands.{Label, over_kids, over_atoms, numbered, tree_part, tree_parts, Stand}
use Rattle.same_terms.proofs.Terms.{right_in}

-- an item taken from the images is the image of one taken from the list
take_unmapped : {A B : Type 0} (f : A → B) {y : B} {ys zs : List B} → Takes y ys zs → (xs : List A) → map f xs ≡ ys → (x : A) × (rest : List A) × Takes x xs rest × (f x ≡ y) × (map f rest ≡ zs)
take_unmapped f here [] e = absurd cc
take_unmapped f here (x ∷ xs) e = (x, xs, here, cc, cc)
take_unmapped f (there t) [] e = absurd cc
take_unmapped f (there {y = w} {xs = ws} t) (x ∷ xs) e =
    let r = take_unmapped f t xs (cc) in
    let h : f x ≡ w = cc in (r.0, x ∷ r.1, there r.2, r.3, (λ i. h i ∷ r.4 i))

module _ (ls : List Tree) (count : ℕ) (tree : ℕ → Tree) (stands_for : ℕ → Label → Type 0) (rows : List Row) (pairs : Pairs) (st : Stand ls count tree stands_for rows pairs) where
  one_place : (i j : ℕ) (t : Tree) → i < count → j < count → tree i ≡ t → tree j ≡ t → Same rows pairs i j
  one_place i j t k l e d = subst (λ z. Same rows pairs i z) (st.once i j k l (e ∙ sym d)) places.itself

  -- two rows of one label
  module _ (i j : ℕ) (k l : ℕ) (r s : Row) (at_k : slice_get rows k ≡ Some r) (at_l : slice_get rows l ≡ Some s) (x : r.place ≡ i) (y : s.place ≡ j) where
    by_rows : (a : Label) → stands_for (r.label) a → stands_for (s.label) a → SameParts rows pairs (r.parts) (s.parts) → Same rows pairs i j
    by_rows a e d ps = places.alike k l r s at_k at_l x y (st.one_label (r.label) (s.label) a e d) ps

  abbrev Whole : List Tree → List Tree → Type 0
  Whole ts us = (n : ℕ) (ps qs : List places.Part) → tree_parts tree ps ≡ numbered n ts → tree_parts tree qs ≡ numbered n us → PartsWithin count ps → PartsWithin count qs → SameParts rows pairs ps qs

  first_within : (p : places.Part) (ps : List places.Part) → PartsWithin count (p ∷ ps) → p.0 < count
  first_within p ps all = all 0 p (omega arith)

  kids_alike : (i j : ℕ) (t u : Tree) → i < count → j < count → tree i ≡ t → tree j ≡ u → InBranch ls t → InBranch ls u → is_binder (head_of t) ≡ false → head_of t ≡ head_of u → Whole (kids_of t) (kids_of u) → Same rows pairs i j
  kids_alike i j t u m n e d b c unbound heads whole =
      let unbound' : is_binder (head_of u) ≡ false = ap is_binder (sym heads) ∙ unbound in
      let x = st.kids_row i m (subst (InBranch ls) (sym e) b) (ap (λ z. is_binder (head_of z)) e ∙ unbound) in
      let y = st.kids_row j n (subst (InBranch ls) (sym d) c) (ap (λ z. is_binder (head_of z)) d ∙ unbound') in
      let f = ap tree x.3 ∙ e in
      let g = ap tree y.3 ∙ d in
      let a = subst (λ z. stands_for (x.1.label) (over_kids (head_of z))) f (x.4.labelled) in
      let o = subst (λ z. stands_for (y.1.label) (over_kids z)) (sym heads) (subst (λ z. stands_for (y.1.label) (over_kids (head_of z))) g (y.4.labelled)) in
      let p = x.4.kids ∙ ap (λ z. numbered 0 (kids_of z)) f in
      let q = y.4.kids ∙ ap (λ z. numbered 0 (kids_of z)) g in
      by_rows i j x.0 y.0 x.1 y.1 x.2 y.2 x.3 y.3 (over_kids (head_of t)) a o (whole 0 (x.1.parts) (y.1.parts) p q (st.rows_within x.0 x.1 x.2).1 (st.rows_within y.0 y.1 y.2).1)

  abbrev Atoms : List Part → List Part → Type 0
  Atoms as' bs = (ps qs : List places.Part) → tree_parts tree ps ≡ as' → tree_parts tree qs ≡ bs → PartsWithin count ps → PartsWithin count qs → SameParts rows pairs ps qs

  atoms_alike : (i j : ℕ) (t u : Tree) → i < count → j < count → tree i ≡ t → tree j ≡ u → InBranch ls t → InBranch ls u → is_sum (head_of t) ≡ true → is_sum (head_of u) ≡ true → (written t).constant ≡ (written u).constant → Atoms ((written t).parts) ((written u).parts) → Same rows pairs i j
  atoms_alike i j t u m n e d b c sum sum' constants whole =
      let x = st.atoms_row i m (subst (InBranch ls) (sym e) b) (ap (λ z. is_sum (head_of z)) e ∙ sum) in
      let y = st.atoms_row j n (subst (InBranch ls) (sym d) c) (ap (λ z. is_sum (head_of z)) d ∙ sum') in
      let f = ap tree x.3 ∙ e in
      let g = ap tree y.3 ∙ d in
      let a = subst (λ z. stands_for (x.1.label) (over_atoms ((written z).constant))) f (x.4.labelled) in
      let o = subst (λ z. stands_for (y.1.label) (over_atoms z)) (sym constants) (subst (λ z. stands_for (y.1.label) (over_atoms ((written z).constant))) g (y.4.labelled)) in
      let p = x.4.atoms ∙ ap (λ z. (written z).parts) f in
      let q = y.4.atoms ∙ ap (λ z. (written z).parts) g in
      by_rows i j x.0 y.0 x.1 y.1 x.2 y.2 x.3 y.3 (over_atoms ((written t).constant)) a o (whole (x.1.parts) (y.1.parts) p q (st.rows_within x.0 x.1 x.2).1 (st.rows_within y.0 y.1 y.2).1)

  mutual
    pub terms_rows : {t u : Tree} → SameTerm ls t u → (i j : ℕ) → i < count → j < count → tree i ≡ t → tree j ≡ u → Same rows pairs i j
    terms_rows (itself {t} b) i j m n e d = one_place i j t m n e d
    terms_rows (turned s) i j m n e d = places.turned (terms_rows s j i n m d e)
    terms_rows (through {t} {u} {v} s r) i j m n e d =
        let w = st.place u (right_in s) in
        places.through (terms_rows s i w.0 m w.1 e w.2) (terms_rows r w.0 j w.1 n w.2 d)
    terms_rows (given {t} {u} rest) i j m n e d =
        let p = st.pair_of t u rest in
        let w = st.pairs_within p.0 p.1 p.2 p.3 in
        let a = one_place i p.1 t m w.0 e p.4 in
        let b = one_place p.2 j u w.1 n p.5 d in
        places.through a (places.through (places.given p.0 p.3) b)
    terms_rows (alike {t} {u} b c unbound heads s) i j m n e d = kids_alike i j t u m n e d b c unbound heads (kids_rows s)
    terms_rows (paired {t} {u} b c x y constants s) i j m n e d = atoms_alike i j t u m n e d b c x y constants (atoms_rows s)

    kids_rows : {ts us : List Tree} → SameKids ls ts us → (n : ℕ) (ps qs : List places.Part) → tree_parts tree ps ≡ numbered n ts → tree_parts tree qs ≡ numbered n us → PartsWithin count ps → PartsWithin count qs → SameParts rows pairs ps qs
    kids_rows no_kids n [] [] e d within within' = no_parts
    kids_rows no_kids n [] (q ∷ qs) e d within within' = absurd cc
    kids_rows no_kids n (p ∷ ps) qs e d within within' = absurd cc
    kids_rows (one_kid s r) n [] qs e d within within' = absurd cc
    kids_rows (one_kid s r) n (p ∷ ps) [] e d within within' = absurd cc
    kids_rows (one_kid {t} {u} {ts} {us} s r) n (p ∷ ps) (q ∷ qs) e d within within' =
        let x : tree_part tree p ≡ part t (pos n) = cc in
        let y : tree_part tree q ≡ part u (pos n) = cc in
        let mark : p.1 ≡ q.1 = ap (λ z. z.times) x ∙ sym (ap (λ z. z.times) y) in
        let same = terms_rows s (p.0) (q.0) (first_within p ps within) (first_within q qs within') (ap (λ z. z.atom) x) (ap (λ z. z.atom) y) in
        one_part {mark = p.1} same (subst (λ z. Takes (q.0, z) (q ∷ qs) qs) (sym mark) here)
        (kids_rows r (suc n) ps qs (cc) (cc) (All-tail (λ z. z.0 < count) p ps within) (All-tail (λ z. z.0 < count) q qs within'))

    atoms_rows : {as' bs : List Part} → SameAtoms ls as' bs → (ps qs : List places.Part) → tree_parts tree ps ≡ as' → tree_parts tree qs ≡ bs → PartsWithin count ps → PartsWithin count qs → SameParts rows pairs ps qs
    atoms_rows no_atoms [] [] e d within within' = no_parts
    atoms_rows no_atoms [] (q ∷ qs) e d within within' = absurd cc
    atoms_rows no_atoms (p ∷ ps) qs e d within within' = absurd cc
    atoms_rows (one_atom s take r) [] qs e d within within' = absurd cc
    atoms_rows (one_atom {t} {u} {z} s take r) (p ∷ ps) qs e d within within' =
        let x : tree_part tree p ≡ part t z = cc in
        let o = take_unmapped (tree_part tree) take qs d in
        let w = take_all (λ (y : places.Part). y.0 < count) within' o.2 in
        let mark : p.1 ≡ o.0.1 = ap (λ y. y.times) x ∙ sym (ap (λ y. y.times) o.3) in
        let same = terms_rows s (p.0) (o.0.0) (first_within p ps within) w.0 (ap (λ y. y.atom) x) (ap (λ y. y.atom) o.3) in
        one_part {mark = p.1} same (subst (λ y. Takes (o.0.0, y) qs o.1) (sym mark) o.2) (atoms_rows r ps o.1 (cc) o.4 (All-tail (λ y. y.0 < count) p ps within) w.1)
