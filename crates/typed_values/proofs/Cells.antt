-- Where the cells of objects lie in those of the objects that they are parts of.
use Rattle.std.proofs.Common.{◌≡◌, ℕ, zero, suc, ◌+◌, ◌*◌, ◌<◌, List, [], ◌∷◌, ◌++◌, length, Some, slice_get, refl, sym, ap, subst, ◌∙◌, arith, append_assoc, length-append}
use Rattle.std.proofs.Math.Nat.{suc-mul, mul-suc}
use Rattle.wp_base.specs.declared.kinds.CellKind.{CellKind}
use Rattle.wp_base.specs.declared.kinds.Layout.{Layout}
use Rattle.wp_base.specs.Blocks.{repeated, cells_of}
use Rattle.c_kinds.specs.Layouts.{size, all_cells, places}
use Rattle.c_scopes.specs.declared.symbols.Structure.{Structure}
use Rattle.c_scopes.specs.declared.symbols.Field.{Field as Member}
use Rattle.typed_values.specs.Declared.{HasLayout, FieldsHave}

-- ---- lists

pub found_first : {X : Type 0} (xs ys : List X) (i : ℕ) (x : X) → slice_get xs i ≡ Some x → slice_get (xs ++ ys) i ≡ Some x
found_first [] ys i x h = absurd cc
found_first (z ∷ xs) ys zero x h = h
found_first (z ∷ xs) ys (suc i) x h = found_first xs ys i x h

pub found_behind : {X : Type 0} (xs ys : List X) (i : ℕ) (x : X) → slice_get ys i ≡ Some x → slice_get (xs ++ ys) (length xs + i) ≡ Some x
found_behind [] ys i x h = let e : 0 + i ≡ i = omega arith in ap (λ n. slice_get ys n) e ∙ h
found_behind (z ∷ xs) ys i x h =
    let e : suc (length xs) + i ≡ suc (length xs + i) = omega arith in ap (λ n. slice_get (z ∷ (xs ++ ys)) n) e ∙ found_behind xs ys i x h

-- ---- elements of an array

pub in_element : (count i j : ℕ) (cells : List CellKind) (k : CellKind) → i < count → slice_get cells j ≡ Some k
    → slice_get (repeated count cells) (length cells * i + j) ≡ Some k
in_element zero i j cells k below h = absurd (omega (arith, below))
in_element (suc count) zero j cells k below h =
    let e : length cells * 0 + j ≡ j = omega arith in
    ap (λ n. slice_get (cells ++ repeated count cells) n) e ∙ found_first cells (repeated count cells) j k h
in_element (suc count) (suc i) j cells k below h =
    let more = mul-suc (length cells) i in
    let e : length cells * suc i + j ≡ length cells + (length cells * i + j) = omega (arith, more) in
    ap (λ n. slice_get (cells ++ repeated count cells) n) e
    ∙ found_behind cells (repeated count cells) (length cells * i + j) k (in_element count i j cells k (omega (arith, below)) h)

-- ---- fields of a struct

repeated_length : (n : ℕ) (cells : List CellKind) → length (repeated n cells) ≡ n * length cells
repeated_length zero cells = omega arith
repeated_length (suc n) cells =
    let rest = repeated_length n cells in
    let both = length-append cells (repeated n cells) in
    let one_more = suc-mul n (length cells) in
    omega (arith, rest, both, one_more)

behind : (before : List CellKind) (parts : List Layout) (i : ℕ) (part : Layout) (offset : ℕ) → slice_get parts i ≡ Some part → slice_get (places (length before) parts) i ≡ Some offset
    → (j : ℕ) (k : CellKind) → slice_get (cells_of part) j ≡ Some k → slice_get (before ++ all_cells parts) (offset + j) ≡ Some k
behind before [] i part offset has stands j k h = absurd cc
behind before (p ∷ parts) zero part offset has stands j k h =
    let same : p ≡ part = cc in
    let at : length before ≡ offset = cc in
    ap (λ n. slice_get (before ++ all_cells (p ∷ parts)) (n + j)) (sym at)
    ∙ found_behind before (all_cells (p ∷ parts)) j k (found_first (cells_of p) (all_cells parts) j k (ap (λ (q : Layout). slice_get (cells_of q) j) same ∙ h))
behind before (p ∷ parts) (suc i) part offset has stands j k h =
    let first : length (before ++ cells_of p) ≡ length before + size p = length-append before (cells_of p) ∙ ap (λ n. length before + n) (repeated_length p.count p.cells) in
    ap (λ cells. slice_get cells (offset + j)) (sym (append_assoc before (cells_of p) (all_cells parts)))
    ∙ behind (before ++ cells_of p) parts i part offset has (ap (λ n. slice_get (places n parts) i) first ∙ stands) j k h

pub in_field : (parts : List Layout) (i : ℕ) (part : Layout) (offset : ℕ) → slice_get parts i ≡ Some part → slice_get (places 0 parts) i ≡ Some offset
    → (j : ℕ) (k : CellKind) → slice_get (cells_of part) j ≡ Some k → slice_get (all_cells parts) (offset + j) ≡ Some k
in_field parts i part offset has stands j k h = behind [] parts i part offset has stands j k h

pub record FieldHas (ss : List Structure) (parts : List Layout) (i : ℕ) (f : Member) : Type 0 where
  pub part : Layout
  pub found : slice_get parts i ≡ Some part
  pub layout : HasLayout ss f.ty part

pub field_has : (ss : List Structure) (fs : List Member) (parts : List Layout) (i : ℕ) (f : Member) → FieldsHave ss fs parts → slice_get fs i ≡ Some f → FieldHas ss parts i f
field_has ss [] parts i f have h = absurd cc
field_has ss (g ∷ fs) [] i f have h = elim have [ ]
field_has ss (g ∷ fs) (p ∷ parts) zero f have h =
    let same : g ≡ f = cc in record { part = p; found = refl; layout = subst (λ (x : Member). HasLayout ss x.ty p) same have.0 }
field_has ss (g ∷ fs) (p ∷ parts) (suc i) f have h =
    let r = field_has ss fs parts i f have.1 h in record { part = r.part; found = r.found; layout = r.layout }
