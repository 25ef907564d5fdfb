-- The places of a kind among the cells of an element, drawn one after the other.
use Rattle.std.proofs.Common.{◌≡◌, ℕ, zero, suc, ◌+◌, ◌<◌, ◌≤◌, Bool, true, false, cond, List, [], ◌∷◌, ◌++◌, map, length, drop, get_or, refl, sym, ◌∙◌, ap, append_assoc, arith, drop-cons}
use Rattle.std.proofs.lemmas.List.{map_push}
use Rattle.std.specs.Prelude.{Result, Ok, Err}
use Rattle.wp_base.specs.declared.kinds.CellKind.{CellKind}
use Rattle.wp_base.specs.declared.kinds.Layout.{Layout}
use Rattle.wp_base.specs.declared.memory.NoMemory.{NoMemory}
use Rattle.wp_base.specs.Blocks.{same_cell}
use Rattle.qed_terms.specs.declared.head.Head.TheVariants as h
use Rattle.qed_terms.specs.Tree.{Tree, node, trees_of}
use Rattle.qed_memories.specs.Memories.{is_at_place, are_at_places, cell_count, has_cell_tree}
use Rattle.term_sketches.specs.declared.sketch.Sketch.{Sketch}
use Rattle.term_sketches.specs.Sketches.{Draws, sketch_tree}

one_off : (xs : List CellKind) (i : ℕ) (x : CellKind) → i < length xs → x ≡ get_or xs i x → drop i xs ≡ x ∷ drop (i + 1) xs
one_off xs i x k p =
    let e : suc i ≡ i + 1 = omega arith in
    drop-cons xs i x k ∙ ap (λ z. z ∷ drop (suc i) xs) (sym p) ∙ ap (λ n. x ∷ drop n xs) e

-- ---- one place more

pub place_here : (n s : ℕ) (k : CellKind) (o : ℕ) (j : ℕ) (all : List CellKind) (c : CellKind) (made more : List Sketch) (here : Sketch)
    → j < length all → c ≡ get_or all j c → same_cell k c ≡ true
    → ((f : ℕ → Tree) → Draws f (Ok here) (is_at_place n s (f o) j)) → more ≡ made ++ here ∷ []
    → ((f : ℕ → Tree) → map (sketch_tree f) made ++ are_at_places n s k (f o) j (drop j all) ≡ are_at_places n s k (f o) 0 all)
    → (f : ℕ → Tree) → map (sketch_tree f) more ++ are_at_places n s k (f o) (j + 1) (drop (j + 1) all) ≡ are_at_places n s k (f o) 0 all
place_here n s k o j all c made more here l e q w a i f =
    let step : j + 1 ≡ suc j = omega arith in
    let rest = are_at_places n s k (f o) (suc j) (drop (j + 1) all) in
    let first = map (sketch_tree f) made in
    ap (λ xs. map (sketch_tree f) xs ++ are_at_places n s k (f o) (j + 1) (drop (j + 1) all)) a
    ∙ ap (λ xs. xs ++ are_at_places n s k (f o) (j + 1) (drop (j + 1) all)) (map_push (sketch_tree f) made here)
    ∙ ap (λ m. (first ++ sketch_tree f here ∷ []) ++ are_at_places n s k (f o) m (drop (j + 1) all)) step
    ∙ append_assoc first (sketch_tree f here ∷ []) rest
    ∙ ap (λ t. first ++ t ∷ rest) ((w f).drawn)
    ∙ ap (λ b. first ++ cond b (is_at_place n s (f o) j ∷ rest) rest) (sym q)
    ∙ ap (λ xs. first ++ are_at_places n s k (f o) j xs) (sym (one_off all j c l e))
    ∙ i f

pub place_skipped : (n s : ℕ) (k : CellKind) (o : ℕ) (j : ℕ) (all : List CellKind) (c : CellKind) (made : List Sketch)
    → j < length all → c ≡ get_or all j c → same_cell k c ≡ false
    → ((f : ℕ → Tree) → map (sketch_tree f) made ++ are_at_places n s k (f o) j (drop j all) ≡ are_at_places n s k (f o) 0 all)
    → (f : ℕ → Tree) → map (sketch_tree f) made ++ are_at_places n s k (f o) (j + 1) (drop (j + 1) all) ≡ are_at_places n s k (f o) 0 all
place_skipped n s k o j all c made l e q i f =
    let step : j + 1 ≡ suc j = omega arith in
    let rest = are_at_places n s k (f o) (suc j) (drop (j + 1) all) in
    let first = map (sketch_tree f) made in
    ap (λ m. first ++ are_at_places n s k (f o) m (drop (j + 1) all)) step
    ∙ ap (λ b. first ++ cond b (is_at_place n s (f o) j ∷ rest) rest) (sym q)
    ∙ ap (λ xs. first ++ are_at_places n s k (f o) j xs) (sym (one_off all j c l e))
    ∙ i f

pub places_done : (n s : ℕ) (k : CellKind) (o : ℕ) (j : ℕ) (all : List CellKind) (made : List Sketch) → length all ≤ j
    → ((f : ℕ → Tree) → map (sketch_tree f) made ++ are_at_places n s k (f o) j (drop j all) ≡ are_at_places n s k (f o) 0 all)
    → (f : ℕ → Tree) → map (sketch_tree f) made ≡ are_at_places n s k (f o) 0 all
places_done n s k o j all made l i f =
    append_none (map (sketch_tree f) made) ∙ ap (λ xs. map (sketch_tree f) made ++ are_at_places n s k (f o) j xs) (sym (drop_all_of j all l)) ∙ i f
  where
    append_none : (xs : List Tree) → xs ≡ xs ++ []
    append_none [] = refl
    append_none (x ∷ xs) = ap (λ ys. x ∷ ys) (append_none xs)

    drop_all_of : (j : ℕ) (xs : List CellKind) → length xs ≤ j → drop j xs ≡ []
    drop_all_of zero [] l = refl
    drop_all_of (suc j) [] l = refl
    drop_all_of zero (x ∷ xs) l = absurd (omega (arith, l))
    drop_all_of (suc j) (x ∷ xs) l = drop_all_of j xs (omega (arith, l))

-- ---- the whole

pub cells_drawn : (l : Layout) (k : CellKind) (o : ℕ) (made : List Sketch) (whole : Sketch)
    → ((f : ℕ → Tree) → map (sketch_tree f) made ≡ are_at_places (cell_count l) (length l.cells) k (f o) 0 l.cells)
    → ((f : ℕ → Tree) → sketch_tree f whole ≡ node h.Or (trees_of (map (sketch_tree f) made)))
    → (f : ℕ → Tree) → Draws f (Ok whole) (has_cell_tree l k (f o))
cells_drawn l k o made whole e w f = record { drawn = w f ∙ ap (λ ts. node h.Or (trees_of ts)) (e f) }

pub no_memory_drawn : (f : ℕ → Tree) (e : NoMemory) (t : Tree) → Draws f (Err e) t
no_memory_drawn f e t = record { drawn = tt }
