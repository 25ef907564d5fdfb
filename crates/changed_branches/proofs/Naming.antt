-- A name among some formulas, from a place on.
use Rattle.std.proofs.Common.{◌≡◌, ℕ, zero, suc, ◌+◌, ◌<◌, ◌≤◌, Bool, true, false, ◌||◌, List, [], ◌∷◌, map, drop, length, get_or, drop-cons, drop_of_length-le, refl, sym, ◌∙◌, ap, arith}
use Rattle.std.proofs.lemmas.List.{length-map}
use Rattle.qed_terms.specs.Nodes.{kids_of}
use Rattle.qed_terms.specs.Tree.{Tree, node, Trees, stop, more, list_of, kids_in, head_of, size, sizes}
use Rattle.branches.proofs.Places.{tree_at}
use Rattle.branch_changes.specs.NewNames.{is_named, is_in, is_in_one, is_among}

one_is_among : (x : List ℕ) (ts : Trees) → is_in_one x ts ≡ is_among x (list_of ts)
one_is_among x stop = refl
one_is_among x (more t ts) = ap (λ b. is_in x t || b) (one_is_among x ts)

module _ {Id : Type 0} (tree : Id → Tree) (x : List ℕ) (ids : List Id) (i : ℕ) where
  next : (id : Id) → i < length ids → id ≡ get_or ids i id → is_among x (drop i (map tree ids)) ≡ is_in x (tree id) || is_among x (drop (i + 1) (map tree ids))
  next id below is =
      let long = length-map ids tree in
      let within : i < length (map tree ids) = omega (arith, long) in
      let s : suc i ≡ i + 1 = omega arith in
      let here : get_or (map tree ids) i (tree id) ≡ tree id = tree_at tree ids i id (tree id) below ∙ ap tree (sym is) in
      ap (is_among x) (drop-cons (map tree ids) i (tree id) within) ∙ (λ j. is_in x (here j) || is_among x (drop (s j) (map tree ids)))

  pub name_later : (whole : Bool) (id : Id) → i < length ids → id ≡ get_or ids i id → is_in x (tree id) ≡ false → whole ≡ is_among x (drop i (map tree ids)) → whole ≡ is_among x (drop (i + 1) (map tree ids))
  name_later whole id below is e w = w ∙ next id below is ∙ ap (λ b. b || is_among x (drop (i + 1) (map tree ids))) e

  pub name_here : (whole : Bool) (id : Id) → i < length ids → id ≡ get_or ids i id → is_in x (tree id) ≡ true → whole ≡ is_among x (drop i (map tree ids)) → true ≡ whole
  name_here whole id below is e w = sym (w ∙ next id below is ∙ ap (λ b. b || is_among x (drop (i + 1) (map tree ids))) e)

  pub name_nowhere : (whole : Bool) → length ids ≤ i → whole ≡ is_among x (drop i (map tree ids)) → false ≡ whole
  name_nowhere whole past w = let long = length-map ids tree in let l : length (map tree ids) ≤ i = omega (arith, past, long) in sym (w ∙ ap (is_among x) (drop_of_length-le (map tree ids) l))

-- in a tree, by its head and its kids
pub by_kids : {Id : Type 0} (tree : Id → Tree) (x : List ℕ) (t : Tree) (ids : List Id) → is_named x (head_of t) ≡ false → map tree ids ≡ kids_of t → is_in x t ≡ is_among x (drop 0 (map tree ids))
by_kids tree x (node head ts) ids e stand = ap (λ b. b || is_in_one x ts) e ∙ one_is_among x ts ∙ ap (is_among x) (sym stand)

pub by_head : (x : List ℕ) (t : Tree) → is_named x (head_of t) ≡ true → true ≡ is_in x t
by_head x (node head ts) e = sym (ap (λ b. b || is_in_one x ts) e)

-- a kid is smaller
kid_below : (ts : Trees) (i : ℕ) (d : Tree) → i < length (list_of ts) → size (get_or (list_of ts) i d) ≤ sizes ts
kid_below stop i d l = absurd (omega arith)
kid_below (more t ts) zero d l = omega arith
kid_below (more t ts) (suc i) d l = let k = kid_below ts i d (omega arith) in omega (arith, k)

pub kid_smaller : {Id : Type 0} (tree : Id → Tree) (t : Tree) (ids : List Id) (i : ℕ) (id : Id) → map tree ids ≡ kids_of t → i < length ids → id ≡ get_or ids i id → size (tree id) < size t
kid_smaller tree (node head ts) ids i id stand below is =
    let long = length-map ids tree in
    let same = ap length stand in
    let within : i < length (list_of ts) = omega (arith, below, long, same) in
    let k = kid_below ts i (tree id) within in
    let here = ap size (ap (λ z. get_or z i (tree id)) (sym stand) ∙ tree_at tree ids i id (tree id) below ∙ ap tree (sym is)) in
    omega (arith, k, here)
