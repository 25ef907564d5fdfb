-- Fields and their cells.
use Rattle.std.proofs.Common.{◌≡◌, ℕ, zero, suc, ◌+◌, ◌*◌, ◌<◌, ◌≤◌, List, [], ◌∷◌, ◌++◌, length, take, drop, refl, sym, ap, ◌∙◌, Some, arith, get_or, length-append, append_assoc, append-nil, drop-cons}
use Rattle.std.specs.Prelude.{slice_get}
use Rattle.std.proofs.Math.Nat.{suc-mul}
use Rattle.wp_base.specs.declared.kinds.CellKind.{CellKind}
use Rattle.wp_base.specs.declared.kinds.Layout.{Layout}
use Rattle.wp_base.specs.Blocks.{repeated, cells_of}
use Rattle.c_kinds.specs.Layouts.{size, all_cells, places}
use Rattle.c_kinds.specs.Laws.{StructsAreInOrder}

repeated_length : (n : ℕ) (cells : List CellKind) → length (repeated n cells) ≡ n * length cells
repeated_length zero cells = omega arith
repeated_length (suc n) cells =
    let rest = repeated_length n cells in
    let both = length-append cells (repeated n cells) in
    let one_more = suc-mul n (length cells) in
    omega (arith, rest, both, one_more)

pub size_is : (part : Layout) → length (cells_of part) ≡ size part
size_is part = repeated_length part.count part.cells

-- ---- one turn of a loop

-- one element more
pub repeated_more : (n : ℕ) (cells before now now' : List CellKind) → now ≡ before ++ repeated n cells → now' ≡ now ++ cells → now' ≡ before ++ repeated (n + 1) cells
repeated_more n cells before now now' is more =
    let next : suc n ≡ n + 1 = omega arith in
    let whole : repeated n cells ++ cells ≡ repeated (n + 1) cells = at_the_end n ∙ ap (λ k. repeated k cells) next in
    more ∙ ap (λ (xs : List CellKind). xs ++ cells) is ∙ append_assoc before (repeated n cells) cells ∙ ap (λ (xs : List CellKind). before ++ xs) whole
  where
    at_the_end : (n : ℕ) → repeated n cells ++ cells ≡ repeated (suc n) cells
    at_the_end zero = sym (append-nil cells)
    at_the_end (suc n) = append_assoc cells (repeated n cells) cells ∙ ap (λ (xs : List CellKind). cells ++ xs) (at_the_end n)

one_more_left : (parts : List Layout) (i : ℕ) (part : Layout) → i < length parts → part ≡ get_or parts i part → drop i parts ≡ part ∷ drop (i + 1) parts
one_more_left parts i part within is =
    let next : suc i ≡ i + 1 = omega arith in
    drop-cons parts i part within ∙ ap (λ x. x ∷ drop (suc i) parts) (sym is) ∙ ap (λ n. part ∷ drop n parts) next

pub fields_turn : (parts : List Layout) (i : ℕ) (part : Layout) (done done' whole : List ℕ) (cells cells' : List CellKind) → i < length parts → part ≡ get_or parts i part → done' ≡ done ++ length cells ∷ [] → cells' ≡ cells ++ cells_of part
    → done ++ places (length cells) (drop i parts) ≡ whole → done' ++ places (length cells') (drop (i + 1) parts) ≡ whole
fields_turn parts i part done done' whole cells cells' within is more grown so =
    let first : length cells' ≡ length cells + size part = ap length grown ∙ length-append cells (cells_of part) ∙ ap (λ n. length cells + n) (size_is part) in
    ap (λ xs. xs ++ places (length cells') (drop (i + 1) parts)) more
    ∙ append_assoc done (length cells ∷ []) (places (length cells') (drop (i + 1) parts))
    ∙ ap (λ n. done ++ length cells ∷ places n (drop (i + 1) parts)) first
    ∙ ap (λ ps. done ++ places (length cells) ps) (sym (one_more_left parts i part within is))
    ∙ so

pub cells_turn : (parts : List Layout) (i : ℕ) (part : Layout) (cells cells' whole : List CellKind) → i < length parts → part ≡ get_or parts i part → cells' ≡ cells ++ cells_of part
    → cells ++ all_cells (drop i parts) ≡ whole → cells' ++ all_cells (drop (i + 1) parts) ≡ whole
cells_turn parts i part cells cells' whole within is grown so =
    ap (λ xs. xs ++ all_cells (drop (i + 1) parts)) grown
    ∙ append_assoc cells (cells_of part) (all_cells (drop (i + 1) parts))
    ∙ ap (λ ps. cells ++ all_cells ps) (sym (one_more_left parts i part within is))
    ∙ so

-- as many cells are made as there are at most
pub made_within : (cells left whole : List CellKind) → cells ++ left ≡ whole → length whole ≤ 64 → length cells ≤ 64
made_within cells left whole so within =
    let both = length-append cells left in
    let size = ap length so in
    omega (arith, both, size, within)

-- ---- fields at their places

-- what stands behind the front of a list, and what the front is
drop_front : {X : Type 0} (xs ys : List X) → drop (length xs) (xs ++ ys) ≡ ys
drop_front [] ys = refl
drop_front (x ∷ xs) ys = drop_front xs ys

take_front : {X : Type 0} (xs ys : List X) → take (length xs) (xs ++ ys) ≡ xs
take_front [] ys = refl
take_front (x ∷ xs) ys = ap (λ zs. x ∷ zs) (take_front xs ys)

-- with so many cells before the first field
behind : (before : List CellKind) (parts : List Layout) (i : ℕ) (part : Layout) → slice_get parts i ≡ Some part
    → (first : ℕ) × (slice_get (places (length before) parts) i ≡ Some first) × (take (size part) (drop first (before ++ all_cells parts)) ≡ cells_of part)
behind before [] i part h = absurd cc
behind before (p ∷ parts) zero part h =
    let same : p ≡ part = cc in (
      length before,
      refl,
      ap (λ cells. take (size part) cells) (drop_front before (all_cells (p ∷ parts)))
          ∙ ap (λ (p : Layout). take (size part) (cells_of p ++ all_cells parts)) same
          ∙ ap (λ n. take n (cells_of part ++ all_cells parts)) (sym (size_is part))
          ∙ take_front (cells_of part) (all_cells parts),
    )
behind before (p ∷ parts) (suc i) part h =
    let rest = behind (before ++ cells_of p) parts i part h in
    let first : length (before ++ cells_of p) ≡ length before + size p = length-append before (cells_of p) ∙ ap (λ n. length before + n) (size_is p) in
    (rest.0, ap (λ n. slice_get (places n parts) i) (sym first) ∙ rest.1, ap (λ cells. take (size part) (drop rest.0 cells)) (sym (append_assoc before (cells_of p) (all_cells parts))) ∙ rest.2)

pub structs_are_in_order : StructsAreInOrder
structs_are_in_order parts i part h = behind [] parts i part h
