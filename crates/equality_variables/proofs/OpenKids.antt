-- A name that is free in one of the kids of a tree in which its head doesn't bind it.
use Rattle.std.proofs.Common.{◌≡◌, ℕ, zero, suc, ◌+◌, ◌<◌, ◌≤◌, Bool, true, false, not, ◌&&◌, ◌||◌, List, [], ◌∷◌, map, take, drop, length, get_or, All, drop-cons, drop_of_length-le, refl, sym, ◌∙◌, ap, arith}
use Rattle.std.proofs.lemmas.List.{length-map, take-map}
use Rattle.qed_terms.specs.declared.head.Sort.{Sort}
use Rattle.qed_terms.specs.declared.head.Head.{Head}
use Rattle.qed_terms.specs.declared.head.Head.TheVariants as h
use Rattle.qed_terms.specs.Free.{is_this, binds, is_free, free_among}
use Rattle.qed_terms.specs.Nodes.{kids_of}
use Rattle.qed_terms.specs.Store.{is_well_formed}
use Rattle.qed_terms.specs.Tree.{Tree, node, Trees, stop, more, list_of, head_of, size, sizes}
use Rattle.qed_terms.specs.WellFormed.{int, formula, fits, all_fit, may_stand}
use Rattle.branches.proofs.Places.{tree_at}
use Rattle.branch_changes.proofs.Truths.{and_right}
use Rattle.equality_variables.specs.Names.{free_in}

module _ (x : List ℕ) (s : Sort) where
  free_all : (ts : Trees) → free_among false x s ts ≡ free_in x s (list_of ts)
  free_all stop = refl
  free_all (more t stop) = one (is_free x s t)
    where
      one : (a : Bool) → a ≡ (a || false)
      one true = refl
      one false = refl
  free_all (more t (more u stop)) = two (is_free x s t) (is_free x s u)
    where
      two : (a b : Bool) → (a || b) ≡ (a || (b || false))
      two true b = refl
      two false true = refl
      two false false = refl
  free_all (more t (more u (more v ts))) = ap (λ b. ((is_free x s t || is_free x s u) || is_free x s v) || b) (free_all ts) ∙ four (is_free x s t) (is_free x s u) (is_free x s v) (free_in x s (list_of ts))
    where
      four : (a b c d : Bool) → (((a || b) || c) || d) ≡ (a || (b || (c || d)))
      four true b c d = refl
      four false true c d = refl
      four false false c d = refl

  -- where the head doesn't bind it, it may be in any
  pub open_all : (t : Tree) → binds x s (head_of t) ≡ false → is_this x s (head_of t) ≡ false → is_free x s t ≡ free_in x s (kids_of t)
  open_all (node head ts) b e = (λ i. e i || free_among (b i) x s ts) ∙ free_all ts

  never : (p : Bool) → (p && false) ≡ true → ⊥
  never true e = absurd cc
  never false e = absurd cc

  bounds : (a b c : Bool) → (((a || b) || (not true && c)) || false) ≡ (a || (b || false))
  bounds true b c = refl
  bounds false true c = refl
  bounds false false c = refl

  open_three : (ts : Trees) → all_fit (int ∷ int ∷ formula ∷ []) ts ≡ true → free_among true x s ts ≡ free_in x s (take 2 (list_of ts))
  open_three stop e = absurd cc
  open_three (more a stop) e = absurd (never (fits int a) e)
  open_three (more a (more b stop)) e = absurd (never (fits int b) (and_right (fits int a) _ e))
  open_three (more a (more b (more c stop))) e = bounds (is_free x s a) (is_free x s b) (is_free x s c)
  open_three (more a (more b (more c (more d ts)))) e = absurd (never (fits formula c) (and_right (fits int b) _ (and_right (fits int a) _ e)))

  open_at : (head : Head) (ts : Trees) → is_well_formed (node head ts) ≡ true → binds x s head ≡ true → free_among true x s ts ≡ free_in x s (take 2 (list_of ts))
  open_at (h.Forall y) ts w b = open_three ts (and_right (may_stand formula (h.Forall y)) _ w)
  open_at (h.Exists y) ts w b = open_three ts (and_right (may_stand formula (h.Exists y)) _ w)
  open_at (h.Num z) ts w b = absurd cc
  open_at (h.Var y r) ts w b = absurd cc
  open_at (h.Term o) ts w b = absurd cc
  open_at h.Ite ts w b = absurd cc
  open_at (h.App f) ts w b = absurd cc
  open_at (h.Form o) ts w b = absurd cc
  open_at h.True ts w b = absurd cc
  open_at h.False ts w b = absurd cc
  open_at h.Not ts w b = absurd cc
  open_at h.And ts w b = absurd cc
  open_at h.Or ts w b = absurd cc
  open_at h.Imp ts w b = absurd cc
  open_at h.Iff ts w b = absurd cc

  -- where it does, it may be in the bounds
  pub open_bounds : (t : Tree) → is_well_formed t ≡ true → binds x s (head_of t) ≡ true → is_this x s (head_of t) ≡ false → is_free x s t ≡ free_in x s (take 2 (kids_of t))
  open_bounds (node head ts) w b e = (λ i. e i || free_among (b i) x s ts) ∙ open_at head ts w b

  three_kids : (ts : Trees) → all_fit (int ∷ int ∷ formula ∷ []) ts ≡ true → length (list_of ts) ≡ 3
  three_kids stop e = absurd cc
  three_kids (more a stop) e = absurd (never (fits int a) e)
  three_kids (more a (more b stop)) e = absurd (never (fits int b) (and_right (fits int a) _ e))
  three_kids (more a (more b (more c stop))) e = refl
  three_kids (more a (more b (more c (more d ts)))) e = absurd (never (fits formula c) (and_right (fits int b) _ (and_right (fits int a) _ e)))

  -- a quantifier has three kids
  pub binder_kids : (t : Tree) → is_well_formed t ≡ true → binds x s (head_of t) ≡ true → length (kids_of t) ≡ 3
  binder_kids (node (h.Forall y) ts) w b = three_kids ts (and_right (may_stand formula (h.Forall y)) _ w)
  binder_kids (node (h.Exists y) ts) w b = three_kids ts (and_right (may_stand formula (h.Exists y)) _ w)
  binder_kids (node (h.Num z) ts) w b = absurd cc
  binder_kids (node (h.Var y r) ts) w b = absurd cc
  binder_kids (node (h.Term o) ts) w b = absurd cc
  binder_kids (node h.Ite ts) w b = absurd cc
  binder_kids (node (h.App f) ts) w b = absurd cc
  binder_kids (node (h.Form o) ts) w b = absurd cc
  binder_kids (node h.True ts) w b = absurd cc
  binder_kids (node h.False ts) w b = absurd cc
  binder_kids (node h.Not ts) w b = absurd cc
  binder_kids (node h.And ts) w b = absurd cc
  binder_kids (node h.Or ts) w b = absurd cc
  binder_kids (node h.Imp ts) w b = absurd cc
  binder_kids (node h.Iff ts) w b = absurd cc

  pub by_head : (t : Tree) → is_this x s (head_of t) ≡ true → true ≡ is_free x s t
  by_head (node head ts) e = sym (ap (λ b. b || free_among (binds x s head) x s ts) e)

  -- ---- from a place on

  module _ {Id : Type 0} (tree : Id → Tree) (ids : List Id) (i : ℕ) where
    next : (id : Id) → i < length ids → id ≡ get_or ids i id → free_in x s (drop i (map tree ids)) ≡ is_free x s (tree id) || free_in x s (drop (i + 1) (map tree ids))
    next id below is =
        let long = length-map ids tree in
        let within : i < length (map tree ids) = omega (arith, long) in
        let m : suc i ≡ i + 1 = omega arith in
        let here : get_or (map tree ids) i (tree id) ≡ tree id = tree_at tree ids i id (tree id) below ∙ ap tree (sym is) in
        ap (free_in x s) (drop-cons (map tree ids) i (tree id) within) ∙ (λ j. is_free x s (here j) || free_in x s (drop (m j) (map tree ids)))

    pub free_later : (whole : Bool) (id : Id) → i < length ids → id ≡ get_or ids i id → is_free x s (tree id) ≡ false → whole ≡ free_in x s (drop i (map tree ids)) → whole ≡ free_in x s (drop (i + 1) (map tree ids))
    free_later whole id below is e w = w ∙ next id below is ∙ ap (λ b. b || free_in x s (drop (i + 1) (map tree ids))) e

    pub free_here : (whole : Bool) (id : Id) → i < length ids → id ≡ get_or ids i id → is_free x s (tree id) ≡ true → whole ≡ free_in x s (drop i (map tree ids)) → true ≡ whole
    free_here whole id below is e w = sym (w ∙ next id below is ∙ ap (λ b. b || free_in x s (drop (i + 1) (map tree ids))) e)

    pub free_nowhere : (whole : Bool) → length ids ≤ i → whole ≡ free_in x s (drop i (map tree ids)) → false ≡ whole
    free_nowhere whole past w = let long = length-map ids tree in let l : length (map tree ids) ≤ i = omega (arith, past, long) in sym (w ∙ ap (free_in x s) (drop_of_length-le (map tree ids) l))

-- ---- kids are smaller

kid_below : (ts : Trees) (i : ℕ) (d : Tree) → i < length (list_of ts) → size (get_or (list_of ts) i d) ≤ sizes ts
kid_below stop i d l = absurd (omega arith)
kid_below (more t ts) zero d l = omega arith
kid_below (more t ts) (suc i) d l = let k = kid_below ts i d (omega arith) in omega (arith, k)

pub kids_smaller : {Id : Type 0} (tree : Id → Tree) (t : Tree) (ids : List Id) → map tree ids ≡ kids_of t → All (λ k. size (tree k) < size t) ids
kids_smaller tree (node head ts) ids stand i d below =
    let long = length-map ids tree in
    let same = ap length stand in
    let within : i < length (list_of ts) = omega (arith, below, long, same) in
    let k = kid_below ts i (tree d) within in
    let here = ap size (ap (λ z. get_or z i (tree d)) (sym stand) ∙ tree_at tree ids i d (tree d) below) in
    omega (arith, k, here)

-- ---- the bounds of a quantifier

module _ {Id : Type 0} (tree : Id → Tree) (x : List ℕ) (s : Sort) (t : Tree) (ids : List Id) (stand : map tree ids ≡ kids_of t) (w : is_well_formed t ≡ true) (b : binds x s (head_of t) ≡ true) where
  pub two_there : 2 ≤ length ids
  two_there = let long = length-map ids tree in let same = ap length stand in let three = binder_kids x s t w b in omega (arith, long, same, three)

  pub bounds_open : is_this x s (head_of t) ≡ false → is_free x s t ≡ free_in x s (map tree (take 2 ids))
  bounds_open e = open_bounds x s t w b e ∙ ap (λ ts. free_in x s (take 2 ts)) (sym stand) ∙ ap (free_in x s) (take-map tree 2 ids)

pub kids_open : {Id : Type 0} (tree : Id → Tree) (x : List ℕ) (s : Sort) (t : Tree) (ids : List Id) → map tree ids ≡ kids_of t → binds x s (head_of t) ≡ false → is_this x s (head_of t) ≡ false → is_free x s t ≡ free_in x s (map tree ids)
kids_open tree x s t ids stand b e = open_all x s t b e ∙ ap (free_in x s) (sym stand)
