-- Rows, a place more.
use Rattle.std.proofs.Common.{◌≡◌, ◌⊎◌, ℕ, zero, suc, ◌+◌, ◌*◌, ◌<◌, ◌≤◌, ◌==◌, Bool, true, false, List, [], ◌∷◌, ◌++◌, map, length, get_or, take, refl, sym, ◌∙◌, ap, subst, inl, inr, arith}
use Rattle.std.specs.Prelude.{pos, Option, Some, None, slice_get}
use Rattle.std.proofs.lemmas.List.{take_more}
use Rattle.std.proofs.lemmas.List.Elements.{All-cons}
use Rattle.qed_terms.specs.declared.head.Head.{Head}
use Rattle.qed_terms.specs.Nodes.{kids_of}
use Rattle.qed_terms.specs.Tree.{Tree, head_of}
use Rattle.same_places.specs.declared.rows.ClassRow.{ClassRow}
use Rattle.same_places.specs.Same.{Part, Row, PartsWithin}
use Rattle.same_places.specs.View.{row_of}
use Rattle.same_terms.specs.SameTerms.{is_binder}
use Rattle.same_terms.specs.Stands.{Label, over_kids, over_atoms, StandsFor, numbered, tree_part, tree_parts, IsKidsRow, IsAtomsRow}
use Rattle.same_terms.specs.Written.{is_sum, written}
use Rattle.tree_places.specs.Heads.{KeepsNumbers}
use Rattle.tree_places.proofs.Nodes.{get_front, get_end}
use Rattle.term_forms.specs.declared.forms.Form.{Form}
use Rattle.term_forms.specs.Forms.{lin_of}
use Rattle.branch_rows.specs.Rows.{numbered_places, KidsRowOf, AtomsRowOf, with_row, AreRows}
use Rattle.branch_rows.proofs.Marking.{number_is}

-- ---- places with their numbers

numbered_end : (n : ℕ) (ks : List ℕ) (k : ℕ) → numbered_places n (ks ++ k ∷ []) ≡ numbered_places n ks ++ (k, pos (n + length ks)) ∷ []
numbered_end n [] k = let e : n ≡ n + 0 = omega arith in ap (λ z. (k, pos z) ∷ []) e
numbered_end n (l ∷ ks) k =
    let e : suc n + length ks ≡ n + suc (length ks) = omega arith in
    ap (λ ps. (l, pos n) ∷ ps) (numbered_end (suc n) ks k ∙ ap (λ z. numbered_places (suc n) ks ++ (k, pos z) ∷ []) e)

length_take : {A : Type 0} (xs : List A) (n : ℕ) → n ≤ length xs → length (take n xs) ≡ n
length_take xs zero l = refl
length_take [] (suc n) l = absurd (omega arith)
length_take (x ∷ xs) (suc n) l = ap suc (length_take xs n (omega arith))

pub numbered_more : (ks : List ℕ) (i : ℕ) → i < length ks → numbered_places 0 (take (i + 1) ks) ≡ numbered_places 0 (take i ks) ++ (get_or ks i 0, pos i) ∷ []
numbered_more ks i l =
    let long = length_take ks i (omega arith) in
    let e : 0 + length (take i ks) ≡ i = omega (arith, long) in
    ap (numbered_places 0) (take_more ks i 0 l) ∙ numbered_end 0 (take i ks) (get_or ks i 0) ∙ ap (λ z. numbered_places 0 (take i ks) ++ (get_or ks i 0, pos z) ∷ []) e

pub numbered_trees : (tree : ℕ → Tree) (n : ℕ) (ks : List ℕ) → tree_parts tree (numbered_places n ks) ≡ numbered n (map tree ks)
numbered_trees tree n [] = refl
numbered_trees tree n (k ∷ ks) = ap (λ ps. tree_part tree (k, pos n) ∷ ps) (numbered_trees tree (suc n) ks)

pub numbered_within : (count n : ℕ) (ks : List ℕ) → ((k d : ℕ) → k < length ks → get_or ks k d < count) → PartsWithin count (numbered_places n ks)
numbered_within count n [] all = λ k d l. absurd (omega arith)
numbered_within count n (x ∷ ks) all =
    All-cons (λ (p : Part). p.0 < count) (x, pos n) (numbered_places (suc n) ks) (all 0 0 (omega arith)) (numbered_within count (suc n) ks (λ k d l. all (suc k) d (omega arith)))

-- ---- more heads with numbers

module _ (tree : ℕ → Tree) (number number' : Head → Option ℕ) (keeps : KeepsNumbers number number') where
  stands_still : (n : ℕ) (x : Label) → StandsFor number n x → StandsFor number' n x
  stands_still n (over_kids head) s = (s.0, keeps head s.0 s.1, s.2)
  stands_still n (over_atoms z) s = (s.0, keeps _ s.0 s.1, s.2)

  pub kids_still : (r : Row) → IsKidsRow tree (StandsFor number) r → IsKidsRow tree (StandsFor number') r
  kids_still r is = record { unbound = is.unbound; labelled = stands_still (r.label) (over_kids (head_of (tree (r.place)))) (is.labelled); kids = is.kids }

  pub atoms_still : (r : Row) → IsAtomsRow tree (StandsFor number) r → IsAtomsRow tree (StandsFor number') r
  atoms_still r is = record { sum = is.sum; labelled = stands_still (r.label) (over_atoms _) (is.labelled); atoms = is.atoms }

  pub rows_still : (count : ℕ) (marked : ℕ → Bool) (n : ℕ) (rows : List Row) → AreRows tree number count marked n rows → AreRows tree number' count marked n rows
  rows_still count marked n rows are = record {
    within = are.within;
    each = λ k r e. let x = are.each k r e in (x.0, elim x.1 [ inl a ↦ inl (kids_still r a) | inr a ↦ inr (atoms_still r a) ]);
    kids = λ i l m b. let x = are.kids i l m b in (x.0, x.1, x.2, x.3, kids_still x.1 x.4);
    atoms = λ i l m b. let x = are.atoms i l m b in (x.0, x.1, x.2, x.3, atoms_still x.1 x.4);
  }

  pub kids_row_still : (count place : ℕ) (row : Option ClassRow) → KidsRowOf tree number count place row → KidsRowOf tree number' count place row
  kids_row_still count place None is = is
  kids_row_still count place (Some r) is = (is.0, is.1, kids_still (row_of r) is.2)

-- ---- the rows that are made

pub kids_row_of : (tree : ℕ → Tree) (number : Head → Option ℕ) (count place m : ℕ) (ks : List ℕ) (r : Row) → r.place ≡ place → r.label ≡ 2 * m → r.parts ≡ numbered_places 0 ks → is_binder (head_of (tree place)) ≡ false → number (head_of (tree place)) ≡ Some m → map tree ks ≡ kids_of (tree place) → ((k d : ℕ) → k < length ks → get_or ks k d < count) →
    (r.place ≡ place) × PartsWithin count (r.parts) × IsKidsRow tree (StandsFor number) r
kids_row_of tree number count place m ks r at label parts unbound numbered_ kids below = (
  at,
  subst (PartsWithin count) (sym parts) (numbered_within count 0 ks below),
  record {
    unbound = ap (λ z. is_binder (head_of (tree z))) at ∙ unbound;
    labelled = (m, ap (λ z. number (head_of (tree z))) at ∙ numbered_, label);
    kids = ap (tree_parts tree) parts ∙ numbered_trees tree 0 ks ∙ ap (numbered 0) kids ∙ ap (λ z. numbered 0 (kids_of (tree z))) (sym at);
  },
)

pub atoms_row_of : (tree : ℕ → Tree) (number : Head → Option ℕ) (count place label : ℕ) (form : Form) (r : Row) → r.place ≡ place → r.label ≡ label → r.parts ≡ form.parts.items → is_sum (head_of (tree place)) ≡ true → StandsFor number label (over_atoms (form.constant)) → lin_of tree form ≡ written (tree place) → PartsWithin count (form.parts.items) →
    (r.place ≡ place) × PartsWithin count (r.parts) × IsAtomsRow tree (StandsFor number) r
atoms_row_of tree number count place label form r at labels parts sum stands is below = (
  at,
  subst (PartsWithin count) (sym parts) below,
  record {
    sum = ap (λ z. is_sum (head_of (tree z))) at ∙ sum;
    labelled = subst (λ z. StandsFor number (r.label) (over_atoms z)) (ap (λ z. z.constant) is ∙ ap (λ z. (written (tree z)).constant) (sym at)) (subst (λ z. StandsFor number z (over_atoms (form.constant))) (sym labels) stands);
    atoms = ap (tree_parts tree) parts ∙ ap (λ z. z.parts) is ∙ ap (λ z. (written (tree z)).parts) (sym at);
  },
)

-- ---- a row more

last_of : {A : Type 0} (xs : List A) (y : A) (i : ℕ) (x : A) → slice_get (xs ++ y ∷ []) i ≡ Some x → (slice_get xs i ≡ Some x) ⊎ (y ≡ x)
last_of [] y zero x e = inr cc
last_of [] y (suc i) x e = absurd cc
last_of (z ∷ xs) y zero x e = inl e
last_of (z ∷ xs) y (suc i) x e = last_of xs y i x e

module _ (tree : ℕ → Tree) (number : Head → Option ℕ) (count : ℕ) (marked : ℕ → Bool) where
  abbrev IsRow : Row → Type 0
  IsRow r = IsKidsRow tree (StandsFor number) r ⊎ IsAtomsRow tree (StandsFor number) r

  pub one_row : (n : ℕ) (rows : List Row) (r : Row) → r.place < count → PartsWithin count (r.parts) → marked (r.place) ≡ true → IsRow r → AreRows tree number count marked n rows → AreRows tree number count marked n (rows ++ r ∷ [])
  one_row n rows r below parts mark is are = record {
    within = λ k s e. elim (last_of rows r k s e) [ inl o ↦ are.within k s o | inr d ↦ subst (λ (z : Row). (z.place < count) × PartsWithin count (z.parts)) d (below, parts) ];
    each = λ k s e. elim (last_of rows r k s e) [ inl o ↦ are.each k s o | inr d ↦ subst (λ (z : Row). (marked (z.place) ≡ true) × IsRow z) d (mark, is) ];
    kids = λ i l m b. let x = are.kids i l m b in (x.0, x.1, get_front rows (r ∷ []) x.0 x.1 x.2, x.3, x.4);
    atoms = λ i l m b. let x = are.atoms i l m b in (x.0, x.1, get_front rows (r ∷ []) x.0 x.1 x.2, x.3, x.4);
  }

  abbrev HasKids : ℕ → List Row → Type 0
  HasKids i rows = is_binder (head_of (tree i)) ≡ false → (k : ℕ) × (r : Row) × (slice_get rows k ≡ Some r) × (r.place ≡ i) × IsKidsRow tree (StandsFor number) r

  abbrev HasAtoms : ℕ → List Row → Type 0
  HasAtoms i rows = is_sum (head_of (tree i)) ≡ true → (k : ℕ) × (r : Row) × (slice_get rows k ≡ Some r) × (r.place ≡ i) × IsAtomsRow tree (StandsFor number) r

  -- the rows of the next place are there too
  more_places : (n : ℕ) (rows : List Row) → AreRows tree number count marked n rows → (marked n ≡ true → HasKids n rows) → (marked n ≡ true → HasAtoms n rows) → AreRows tree number count marked (n + 1) rows
  more_places n rows are has_kids has_atoms = record {
    within = are.within;
    each = are.each;
    kids = λ i l m. kids_at i (i == n) refl l m;
    atoms = λ i l m. atoms_at i (i == n) refl l m;
  }
    where
      before : (i : ℕ) → (i == n) ≡ false → i < n + 1 → i < n
      before i e l = grind (arith, e, l)

      kids_at : (i : ℕ) (b : Bool) → (i == n) ≡ b → i < n + 1 → marked i ≡ true → HasKids i rows
      kids_at i true e l m = subst (λ z. HasKids z rows) (sym (number_is i n e)) (has_kids (ap marked (sym (number_is i n e)) ∙ m))
      kids_at i false e l m = are.kids i (before i e l) m

      atoms_at : (i : ℕ) (b : Bool) → (i == n) ≡ b → i < n + 1 → marked i ≡ true → HasAtoms i rows
      atoms_at i true e l m = subst (λ z. HasAtoms z rows) (sym (number_is i n e)) (has_atoms (ap marked (sym (number_is i n e)) ∙ m))
      atoms_at i false e l m = are.atoms i (before i e l) m

  pub place_passed : (n : ℕ) (rows : List Row) → marked n ≡ false → AreRows tree number count marked n rows → AreRows tree number count marked (n + 1) rows
  place_passed n rows none are = more_places n rows are (λ m. let d : true ≡ false = sym m ∙ none in absurd cc) (λ m. let d : true ≡ false = sym m ∙ none in absurd cc)

  module _ (n : ℕ) (below : n < count) (mark : marked n ≡ true) where
    with_kids : (rows : List Row) (row : Option ClassRow) → KidsRowOf tree number count n row → AreRows tree number count marked n rows → AreRows tree number count marked n (with_row rows row) × HasKids n (with_row rows row)
    with_kids rows None is are = (are, λ b. let d : true ≡ false = sym is ∙ b in absurd cc)
    with_kids rows (Some r) is are =
        (one_row n rows (row_of r) (subst (λ z. z < count) (sym is.0) below) is.1 (ap marked is.0 ∙ mark) (inl is.2) are, λ b. (length rows, row_of r, get_end rows (row_of r), is.0, is.2))

    with_atoms : (rows : List Row) (row : Option ClassRow) → AtomsRowOf tree number count n row → AreRows tree number count marked n rows → AreRows tree number count marked n (with_row rows row) × HasAtoms n (with_row rows row)
    with_atoms rows None is are = (are, λ b. let d : true ≡ false = sym b ∙ is in absurd cc)
    with_atoms rows (Some r) is are =
        (one_row n rows (row_of r) (subst (λ z. z < count) (sym is.0) below) is.1 (ap marked is.0 ∙ mark) (inr is.2) are, λ b. (length rows, row_of r, get_end rows (row_of r), is.0, is.2))

    still_kids : (rows : List Row) (row : Option ClassRow) → HasKids n rows → HasKids n (with_row rows row)
    still_kids rows None has = has
    still_kids rows (Some r) has = λ b. let x = has b in (x.0, x.1, get_front rows (row_of r ∷ []) x.0 x.1 x.2, x.3, x.4)

    pub rows_more : (rows : List Row) (kids atoms : Option ClassRow) → KidsRowOf tree number count n kids → AtomsRowOf tree number count n atoms → AreRows tree number count marked n rows → AreRows tree number count marked (n + 1) (with_row (with_row rows kids) atoms)
    rows_more rows kids atoms x y are =
        let a = with_kids rows kids x are in
        let b = with_atoms (with_row rows kids) atoms y a.0 in
        more_places n (with_row (with_row rows kids) atoms) b.0 (λ m. still_kids (with_row rows kids) atoms a.1) (λ m. b.1)

pub no_rows : (tree : ℕ → Tree) (number : Head → Option ℕ) (count : ℕ) (marked : ℕ → Bool) (rows : List Row) → rows ≡ [] → AreRows tree number count marked 0 rows
no_rows tree number count marked rows e = subst (λ rs. AreRows tree number count marked 0 rs) (sym e) (record {
  within = λ k r d. absurd cc;
  each = λ k r d. absurd cc;
  kids = λ i l m. absurd (omega arith);
  atoms = λ i l m. absurd (omega arith);
})
