-- Trees and their kids, in the words of the code.
use Rattle.std.proofs.Common.{◌≡◌, ◌<◌, ◌≤◌, ℕ, zero, suc, ◌+◌, ◌==◌, Bool, true, false, not, ◌&&◌, if◌then◌else◌, List, [], ◌∷◌, length, drop, get_or, refl, sym, ap, ◌∙◌, ⊎_elim, eqb, arith}
use Rattle.std.proofs.lemmas.Bool.{cases_Bool, false≢true}
use Rattle.std.proofs.lemmas.Bool.Decides.{Decides-eqb}
use Rattle.std.proofs.lemmas.List.{at_drop_more, at_drop_all}
use Rattle.acsl_trees.specs.declared.heads.Head.{Head}
use Rattle.acsl_trees.specs.declared.heads.Head.TheVariants as hd
use Rattle.acsl_trees.specs.declared.tree.Tree.{Tree as Code, out-Tree}
use Rattle.acsl_trees.specs.Tree.{Tree, Trees, node, trees_of, view_tree, view_trees}
use Rattle.acsl_expand.specs.Expansion.{binds, around_kid}
use Rattle.plain_annotations.specs.Plain.{Place, node_fits, is_read, is_plain, are_plain}
use Rattle.plain_trees.specs.declared.roles.Role.{Role}
use Rattle.plain_trees.specs.View.{role_of, is_binder}
use Rattle.plain_trees.specs.View.{is_read as is_read_role}
use Rattle.plain_trees.proofs.Reading.{view_whole, passed, failed}

abbrev kids_of : Code → Trees
kids_of u = trees_of (view_trees (out-Tree u).kids)

-- ---- trees

module _ (p : Place) (d : ℕ) where
  abbrev below : Head → Trees → Bool
  below head ks = if is_read head then true else are_plain p d (binds head) ks

  whole_is : (u : Code) → (node_fits p d (out-Tree u).head (kids_of u) && below (out-Tree u).head (kids_of u)) ≡ is_plain p d (view_tree u)
  whole_is u = ap (is_plain p d) (sym (view_whole u))

  below_is : (head : Head) (ks : Trees) → (if is_read_role (role_of head) then true else are_plain p d (is_binder (role_of head)) ks) ≡ below head ks
  below_is (hd.Read c l) ks = refl
  below_is hd.Let ks = refl
  below_is (hd.Every g) ks = refl
  below_is (hd.Some g) ks = refl
  below_is (hd.Variable x) ks = refl
  below_is (hd.Link c) ks = refl
  below_is _ ks = refl

  abbrev fits_at : Code → List Code → Bool
  fits_at u ks = node_fits p d (out-Tree u).head (trees_of (view_trees ks))

  joined : (b c : Bool) (u : Code) → b ≡ node_fits p d (out-Tree u).head (kids_of u) → b ≡ true → c ≡ below (out-Tree u).head (kids_of u)
      → c ≡ is_plain p d (view_tree u)
  joined b c u is fits so = passed b c (b && c) fits refl ∙ (λ i. is i && so i) ∙ whole_is u

  -- these are its kids
  pub unfit : (b : Bool) (u : Code) (ks : List Code) → ks ≡ (out-Tree u).kids → b ≡ fits_at u ks → b ≡ false → false ≡ is_plain p d (view_tree u)
  unfit b u ks kids is fails =
      failed b (below (out-Tree u).head (kids_of u)) (is_plain p d (view_tree u)) fails
      (ap (λ x. x && below (out-Tree u).head (kids_of u)) (is ∙ ap (fits_at u) kids) ∙ whole_is u)

  pub read_is : (b s : Bool) (r : Role) (u : Code) (ks : List Code) → ks ≡ (out-Tree u).kids → b ≡ fits_at u ks → b ≡ true → r ≡ role_of (out-Tree u).head
      → s ≡ is_read_role r → s ≡ true → true ≡ is_plain p d (view_tree u)
  read_is b s r u ks kids is fits of so yes_read =
      let e : is_read_role (role_of (out-Tree u).head) ≡ true = ap is_read_role (sym of) ∙ sym so ∙ yes_read in
      joined b true u (is ∙ ap (fits_at u) kids) fits
      (ap (λ c. if c then true else are_plain p d (is_binder (role_of (out-Tree u).head)) (kids_of u)) (sym e) ∙ below_is (out-Tree u).head (kids_of u))

  pub kids_are : (b s v c : Bool) (r : Role) (u : Code) (ks : List Code) → ks ≡ (out-Tree u).kids → b ≡ fits_at u ks → b ≡ true → r ≡ role_of (out-Tree u).head
      → s ≡ is_read_role r → s ≡ false → v ≡ is_binder r → c ≡ are_plain p d v (trees_of (view_trees ks)) → c ≡ is_plain p d (view_tree u)
  kids_are b s v c r u ks kids is fits of so no_read binder made =
      let e : is_read_role (role_of (out-Tree u).head) ≡ false = ap is_read_role (sym of) ∙ sym so ∙ no_read in
      let k : v ≡ is_binder (role_of (out-Tree u).head) = binder ∙ ap is_binder of in
      joined b c u (is ∙ ap (fits_at u) kids) fits
      (made ∙ (λ j. are_plain p d (k j) (trees_of (view_trees (kids j))))
      ∙ ap (λ c. if c then true else are_plain p d (is_binder (role_of (out-Tree u).head)) (kids_of u)) (sym e) ∙ below_is (out-Tree u).head (kids_of u))

pub ruleset tree_laws = (unfit, read_is, kids_are)

-- ---- kids

last_kid : (items : List Code) (i d : ℕ) → suc i ≡ length items → around_kid true (trees_of (view_trees (drop (suc i) items))) d ≡ suc d
last_kid [] i d last = absurd (omega (arith, last))
last_kid (x ∷ []) i d last = let e : i ≡ 0 = omega (arith, last) in rw e refl
last_kid (x ∷ y ∷ items) zero d last = absurd (omega (arith, last))
last_kid (x ∷ y ∷ items) (suc i) d last = last_kid (y ∷ items) i d (omega (arith, last))

earlier_kid : (items : List Code) (i d : ℕ) → suc i < length items → around_kid true (trees_of (view_trees (drop (suc i) items))) d ≡ d
earlier_kid [] i d lt = absurd (omega (arith, lt))
earlier_kid (x ∷ []) i d lt = absurd (omega (arith, lt))
earlier_kid (x ∷ y ∷ items) zero d lt = refl
earlier_kid (x ∷ y ∷ items) (suc i) d lt = earlier_kid (y ∷ items) i d (omega (arith, lt))

abbrev pub kid_around : (in_binder : Bool) → List Code → (place around : ℕ) → ℕ
kid_around u items i d = if u && i + 1 == length items then suc d else d

around_next : (u : Bool) (items : List Code) (i d : ℕ) → i < length items → around_kid u (trees_of (view_trees (drop (i + 1) items))) d ≡ kid_around u items i d
around_next false items i d lt = refl
around_next true items i d lt =
    let next : i + 1 ≡ suc i = omega arith in
    ap (λ k. around_kid true (trees_of (view_trees (drop k items))) d) next
    ∙ ⊎_elim (λ t. last t ((Decides-eqb (i + 1) (length items)).0 t)) earlier (cases_Bool (eqb (i + 1) (length items)))
  where
    last : eqb (i + 1) (length items) ≡ true → i + 1 ≡ length items → around_kid true (trees_of (view_trees (drop (suc i) items))) d ≡ kid_around true items i d
    last t p = let q : suc i ≡ length items = omega (arith, p) in last_kid items i d q ∙ rw t refl

    earlier : eqb (i + 1) (length items) ≡ false → around_kid true (trees_of (view_trees (drop (suc i) items))) d ≡ kid_around true items i d
    earlier x =
        let e : i + 1 ≡ length items → ⊥ = λ e. false≢true (sym x ∙ (Decides-eqb (i + 1) (length items)).1 e) in
        let q : suc i < length items = grind (arith, lt, e) in earlier_kid items i d q ∙ rw x refl

module _ (p : Place) (d : ℕ) (u : Bool) where
  abbrev rest : List Code → Bool
  rest items = are_plain p d u (trees_of (view_trees items))

  kid_next : (items : List Code) (i : ℕ) (x : Code) (b : Bool) → i < length items → x ≡ get_or items i x → b ≡ is_plain p (kid_around u items i d) (view_tree x)
      → rest (drop i items) ≡ (b && rest (drop (i + 1) items))
  kid_next items i x b lt is made =
      at_drop_more rest items i x lt
      ∙ (λ j. is_plain p (around_next u items i d lt j) (view_tree (sym is j)) && rest (drop (i + 1) items))
      ∙ ap (λ c. c && rest (drop (i + 1) items)) (sym made)

  pub kid_turn : (items : List Code) (i : ℕ) (x : Code) (b all : Bool) → i < length items → x ≡ get_or items i x
      → b ≡ is_plain p (kid_around u items i d) (view_tree x) → b ≡ true → rest (drop i items) ≡ all → rest (drop (i + 1) items) ≡ all
  kid_turn items i x b all lt is made fits so_far = passed b (rest (drop (i + 1) items)) all fits (sym (kid_next items i x b lt is made) ∙ so_far)

  pub kid_fault : (items : List Code) (i : ℕ) (x : Code) (b all : Bool) → i < length items → x ≡ get_or items i x
      → b ≡ is_plain p (kid_around u items i d) (view_tree x) → b ≡ false → rest (drop i items) ≡ all → false ≡ all
  kid_fault items i x b all lt is made fails so_far = failed b (rest (drop (i + 1) items)) all fails (sym (kid_next items i x b lt is made) ∙ so_far)

  pub kids_done : (items : List Code) (i : ℕ) (all : Bool) → length items ≤ i → rest (drop i items) ≡ all → true ≡ all
  kids_done items i all past so_far = sym (at_drop_all rest items i past) ∙ so_far

pub ruleset kid_laws = (kid_turn, kid_fault, kids_done)
