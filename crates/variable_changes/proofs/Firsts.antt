-- The first variable that can be replaced everywhere.
use Rattle.std.proofs.Common.{◌≡◌, ℕ, suc, ◌+◌, ◌-◌, ◌<◌, ◌≤◌, Bool, true, false, ◌&&◌, List, [], ◌∷◌, map, take, drop, length, get_or, drop-cons, drop_of_length-le, refl, sym, ◌∙◌, ap, subst, arith}
use Rattle.std.specs.Prelude.{ℤ, if◌then◌else◌, Option, Some, None}
use Rattle.std.specs.List.{list_all}
use Rattle.std.proofs.lemmas.List.{length-map}
use Rattle.qed_terms.specs.Store.{KeepsOlder}
use Rattle.qed_terms.specs.Tree.{Tree, true_tree}
use Rattle.qed_linear.specs.Linear.{Lin, lin, part}
use Rattle.branches.specs.Branch.{Branch}
use Rattle.branches.specs.Steps.{NoneSo}
use Rattle.branches.proofs.Places.{tree_at}
use Rattle.branch_changes.specs.declared.rules.IdGiven.{IdGiven}
use Rattle.branch_changes.specs.Changes.{Gives}
use Rattle.branch_changes.specs.Givens.{Given, given, can_put, first_put, with_given, givens, givens_below, given_at, form_givens}
use Rattle.branch_changes.specs.Ids.{given_of}
use Rattle.equality_variables.specs.declared.forms.IdForm.{IdForm}
use Rattle.variable_changes.specs.declared.literals.Elimination.{Elimination}
use Rattle.variable_changes.specs.Found.{IsFirstElimination}
use Rattle.equality_variables.specs.Forms.{part_of, parts_of, lin_of, PartsHeld}

-- ---- a test of all formulas, from a place on

module _ {Id : Type 0} (tree : Id → Tree) (p : Tree → Bool) (ids : List Id) (i : ℕ) where
  next : (id : Id) → i < length ids → id ≡ get_or ids i id → list_all p (drop i (map tree ids)) ≡ (p (tree id) && list_all p (drop (i + 1) (map tree ids)))
  next id below is =
      let long = length-map ids tree in
      let within : i < length (map tree ids) = omega (arith, long) in
      let s : suc i ≡ i + 1 = omega arith in
      let here : get_or (map tree ids) i (tree id) ≡ tree id = tree_at tree ids i id (tree id) below ∙ ap tree (sym is) in
      ap (list_all p) (drop-cons (map tree ids) i (tree id) within) ∙ (λ j. p (here j) && list_all p (drop (s j) (map tree ids)))

  pub all_later : (whole : Bool) (id : Id) → i < length ids → id ≡ get_or ids i id → p (tree id) ≡ true → whole ≡ list_all p (drop i (map tree ids)) → whole ≡ list_all p (drop (i + 1) (map tree ids))
  all_later whole id below is e w = w ∙ next id below is ∙ ap (λ b. b && list_all p (drop (i + 1) (map tree ids))) e

  pub not_here : (whole : Bool) (id : Id) → i < length ids → id ≡ get_or ids i id → p (tree id) ≡ false → whole ≡ list_all p (drop i (map tree ids)) → false ≡ whole
  not_here whole id below is e w = sym (w ∙ next id below is ∙ ap (λ b. b && list_all p (drop (i + 1) (map tree ids))) e)

  pub all_done : (whole : Bool) → length ids ≤ i → whole ≡ list_all p (drop i (map tree ids)) → true ≡ whole
  all_done whole past w = let long = length-map ids tree in let l : length (map tree ids) ≤ i = omega (arith, past, long) in sym (w ∙ ap (list_all p) (drop_of_length-le (map tree ids) l))

-- ---- the first of several

module _ (b : Branch) where
  pub put_here : (g : Given) → can_put b g ≡ true → Some g ≡ first_put b (g ∷ [])
  put_here g e = sym (ap (λ c. if c then Some g else None) e)

  pub put_nowhere : (g : Given) → can_put b g ≡ false → None ≡ first_put b (g ∷ [])
  put_nowhere g e = sym (ap (λ c. if c then Some g else None) e)

  pub with_first : (o : Option Given) (gs : List Given) (g : Given) → Some g ≡ first_put b (with_given o []) → Some g ≡ first_put b (with_given o gs)
  with_first None gs g e = absurd cc
  with_first (Some k) gs g e = go (can_put b k) refl
    where
      go : (c : Bool) → can_put b k ≡ c → Some g ≡ (if can_put b k then Some k else first_put b gs)
      go true f = e ∙ ap (λ c. if c then Some k else None) f ∙ sym (ap (λ c. if c then Some k else first_put b gs) f)
      go false f = let n : Some g ≡ None = e ∙ ap (λ c. if c then Some k else None) f in absurd cc

  pub with_none : (o : Option Given) (gs : List Given) → None ≡ first_put b (with_given o []) → first_put b (with_given o gs) ≡ first_put b gs
  with_none None gs e = refl
  with_none (Some k) gs e = go (can_put b k) refl
    where
      go : (c : Bool) → can_put b k ≡ c → (if can_put b k then Some k else first_put b gs) ≡ first_put b gs
      go true f = let n : None ≡ Some k = e ∙ ap (λ c. if c then Some k else None) f in absurd cc
      go false f = ap (λ c. if c then Some k else first_put b gs) f

  -- those of a form from a part down
  module _ (f f' : Lin) (same : f' ≡ f) (whole : Option Given) (count i : ℕ) (below : i < count) (n : ℕ) (place : n ≡ count - 1 - i) (o : Option Given) (is : o ≡ given_at f' n) where
    there : o ≡ given_at f (count - 1 - i)
    there = is ∙ (λ j. given_at (same j) (place j))

    step_down : givens_below f (count - i) ≡ with_given o (givens_below f (count - 1 - i))
    step_down = let e : count - i ≡ suc (count - 1 - i) = omega (arith, below) in ap (givens_below f) e ∙ ap (λ z. with_given z (givens_below f (count - 1 - i))) (sym there)

    pub form_first : (g : Given) → whole ≡ first_put b (givens_below f (count - i)) → Some g ≡ first_put b (with_given o []) → Some g ≡ whole
    form_first g w first = with_first o (givens_below f (count - 1 - i)) g first ∙ sym (w ∙ ap (first_put b) step_down)

    pub form_later : whole ≡ first_put b (givens_below f (count - i)) → None ≡ first_put b (with_given o []) → whole ≡ first_put b (givens_below f (count - (i + 1)))
    form_later w none =
        let s : count - 1 - i ≡ count - (i + 1) = omega (arith, below) in
        w ∙ ap (first_put b) step_down ∙ with_none o (givens_below f (count - 1 - i)) none ∙ ap (λ m. first_put b (givens_below f m)) s

  pub form_start : {Id : Type 0} (tree : Id → Tree) (form : IdForm Id) (count : ℕ) → count ≡ length form.parts.items → first_put b (form_givens (lin_of tree form)) ≡ first_put b (givens_below (lin_of tree form) (count - 0))
  form_start tree form count e =
      let long = length-map form.parts.items (part_of tree) in
      let s : length (parts_of tree form.parts.items) ≡ count - 0 = omega (arith, e, long) in
      ap (λ n. first_put b (givens_below (lin_of tree form) n)) s

  pub form_done : (f : Lin) (whole : Option Given) (count i : ℕ) → count ≤ i → whole ≡ first_put b (givens_below f (count - i)) → None ≡ whole
  form_done f whole count i past w = let s : count - i ≡ 0 = omega (arith, past) in sym (w ∙ ap (λ n. first_put b (givens_below f n)) s)

  -- what is put first can be put
  pub can_first : (gs : List Given) (g : Given) → first_put b gs ≡ Some g → can_put b g ≡ true
  can_first [] g e = absurd cc
  can_first (k ∷ gs) g e = go (can_put b k) refl (can_first gs g)
    where
      go : (c : Bool) → can_put b k ≡ c → (first_put b gs ≡ Some g → can_put b g ≡ true) → can_put b g ≡ true
      go true f later = let s : Some k ≡ Some g = sym (ap (λ c. if c then Some k else first_put b gs) f) ∙ e in let t : k ≡ g = cc in ap (can_put b) (sym t) ∙ f
      go false f later = later (sym (ap (λ c. if c then Some k else first_put b gs) f) ∙ e)

  pub gives_none : (l : Tree) → None ≡ first_put b (givens l) → Gives b l → ⊥
  gives_none l e k = let n : None ≡ Some k.0 = e ∙ k.1 in absurd cc

-- ---- the same in a later store

module _ {Id : Type 0} (held held' : Id → Type 0) (tree tree' : Id → Tree) (kept : KeepsOlder held held' tree tree') where
  pub form_same : (f : IdForm Id) → PartsHeld held f.parts.items → lin_of tree' f ≡ lin_of tree f
  form_same f h = ap (λ ps. lin ps (f.constant)) (go f.parts.items h)
    where
      go : (ps : List (Id × ℤ)) → PartsHeld held ps → parts_of tree' ps ≡ parts_of tree ps
      go [] h = refl
      go (p ∷ ps) h =
          let first = ap (λ t. part t (p.1)) (kept.same_tree (p.0) (h 0 p (omega arith))) in
          let rest = go ps (λ i d l. h (suc i) d (omega (arith, l))) in
          λ j. first j ∷ rest j

  pub parts_still : (ps : List (Id × ℤ)) → PartsHeld held ps → PartsHeld held' ps
  parts_still ps h i d l = kept.still_held _ (h i d l)

  pub given_same : (g : IdGiven Id) → held g.term → given_of tree' g ≡ given_of tree g
  given_same g h = ap (given g.name g.sort) (kept.same_tree g.term h)

-- the literal at a place gives this
pub gives_at : {Id : Type 0} (tree tree' : Id → Tree) (b : Branch) (ids : List Id) (i : ℕ) (id : Id) (g : IdGiven Id) (e : Elimination Id) → e.at ≡ i → e.given ≡ g → NoneSo (Gives b) (take i (map tree ids)) → i < length ids → id ≡ get_or ids i id
    → Some (given_of tree' g) ≡ first_put b (givens (tree id)) → b.literals ≡ map tree ids → IsFirstElimination tree' b (Some e)
gives_at tree tree' b ids i id g e at is none below here told whole =
    let long = length-map ids tree in
    let n : NoneSo (Gives b) (take e.at b.literals) = subst (NoneSo (Gives b)) (λ j. take (sym at j) (sym whole j)) none in
    let within : e.at < length b.literals = subst (λ xs. e.at < length xs) (sym whole) (omega (arith, below, long, at)) in
    (within, n, λ l. (λ j. first_put b (givens (get_or (whole j) (at j) l))) ∙ ap (λ t. first_put b (givens t)) (tree_at tree ids i id l below ∙ ap tree (sym here)) ∙ sym told ∙ ap (λ k. Some (given_of tree' k)) (sym is))

-- what is given at a place can be put
pub can_found : (b : Branch) (g : Given) (l : Tree → Tree) → ((d : Tree) → first_put b (givens (l d)) ≡ Some g) → can_put b g ≡ true
can_found b g l gives = can_first b (givens (l true_tree)) g (gives true_tree)
