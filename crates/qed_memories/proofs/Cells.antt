-- Kinds of cells by their places in the order, and the places of a kind among the cells of an element.
use Rattle.std.proofs.Common.{◌≡◌, ℕ, zero, suc, ◌+◌, ◌<◌, ◌≤◌, Bool, true, false, cond, List, [], ◌∷◌, ◌++◌, map, length, drop, get_or, refl, sym, ◌∙◌, ap, arith, eqb-true, eq-eqb}
use Rattle.wp_base.specs.declared.kinds.Kind.{Kind}
use Rattle.wp_base.specs.declared.kinds.Kind.TheVariants as kind
use Rattle.wp_base.specs.declared.kinds.CellKind.{CellKind}
use Rattle.wp_base.specs.declared.kinds.CellKind.TheVariants as cell
use Rattle.wp_base.specs.Kinds.{kind_place, cell_place}
use Rattle.wp_base.specs.Blocks.{same_cell}
use Rattle.qed_terms.specs.declared.term.Formula.{Formula}
use Rattle.qed_terms.specs.Tree.{Tree}
use Rattle.qed_terms.specs.View.{formula_tree}
use Rattle.qed_linear.proofs.Places.{one_off, map_append}
use Rattle.qed_memories.specs.Memories.{is_at_place, are_at_places}

abbrev at : List Kind → ℕ → CellKind
at [] n = cell.Ptr
at (k ∷ ks) zero = cell.Of k
at (k ∷ ks) (suc n) = at ks n

abbrev kinds : List Kind
kinds = kind.Bool ∷ kind.Char ∷ kind.SChar ∷ kind.UChar ∷ kind.Short ∷ kind.UShort ∷ kind.Int ∷ kind.UInt ∷ kind.Long ∷ kind.ULong ∷ kind.LLong ∷ kind.ULLong ∷ []

at_kind : (k : Kind) → at kinds (kind_place k) ≡ cell.Of k
at_kind kind.Bool = refl
at_kind kind.Char = refl
at_kind kind.SChar = refl
at_kind kind.UChar = refl
at_kind kind.Short = refl
at_kind kind.UShort = refl
at_kind kind.Int = refl
at_kind kind.UInt = refl
at_kind kind.Long = refl
at_kind kind.ULong = refl
at_kind kind.LLong = refl
at_kind kind.ULLong = refl

at_cell : (k : CellKind) → at kinds (cell_place k) ≡ k
at_cell (cell.Of k) = at_kind k
at_cell cell.Ptr = refl

pub same_cell_is : (k l : CellKind) → same_cell k l ≡ true → k ≡ l
same_cell_is k l e = sym (at_cell k) ∙ ap (at kinds) (eqb-true (cell_place k) (cell_place l) e) ∙ at_cell l

pub is_same_cell : (k l : CellKind) → k ≡ l → same_cell k l ≡ true
is_same_cell k l e = ap (λ x. same_cell k x) (sym e) ∙ eq-eqb (cell_place k) (cell_place k) refl

pub other_cell : (k l : CellKind) → (k ≡ l → ⊥) → same_cell k l ≡ false
other_cell k l n = go (same_cell k l) refl
  where
    go : (b : Bool) → same_cell k l ≡ b → b ≡ false
    go true e = absurd (n (same_cell_is k l e))
    go false e = refl

-- ---- one place more

pub place_here : (n s : ℕ) (k : CellKind) (o : Tree) (j : ℕ) (cs all : List CellKind) (c : CellKind) (fs gs : List Formula) (f : Formula) (ts : List Tree) → j < length all → c ≡ get_or all j c → same_cell k c ≡ true
    → formula_tree f ≡ is_at_place n s o j → gs ≡ fs ++ f ∷ [] → map formula_tree fs ++ are_at_places n s k o j (drop j all) ≡ ts → map formula_tree gs ++ are_at_places n s k o (j + 1) (drop (j + 1) all) ≡ ts
place_here n s k o j cs all c fs gs f ts l e q w a i =
    let step : j + 1 ≡ suc j = omega arith in
    let rest = are_at_places n s k o (suc j) (drop (j + 1) all) in
    ap (λ xs. map formula_tree xs ++ are_at_places n s k o (j + 1) (drop (j + 1) all)) a
    ∙ ap (λ xs. xs ++ are_at_places n s k o (j + 1) (drop (j + 1) all)) (map_append formula_tree fs (f ∷ []))
    ∙ ap (λ m. (map formula_tree fs ++ formula_tree f ∷ []) ++ are_at_places n s k o m (drop (j + 1) all)) step
    ∙ append_one (map formula_tree fs) (formula_tree f) rest
    ∙ ap (λ t. map formula_tree fs ++ t ∷ rest) w
    ∙ ap (λ b. map formula_tree fs ++ cond b (is_at_place n s o j ∷ rest) rest) (sym q)
    ∙ ap (λ xs. map formula_tree fs ++ are_at_places n s k o j xs) (sym (one_off all j c l e))
    ∙ i
  where
    append_one : (xs : List Tree) (x : Tree) (ys : List Tree) → (xs ++ x ∷ []) ++ ys ≡ xs ++ x ∷ ys
    append_one [] x ys = refl
    append_one (z ∷ xs) x ys = ap (λ zs. z ∷ zs) (append_one xs x ys)

pub place_skipped : (n s : ℕ) (k : CellKind) (o : Tree) (j : ℕ) (all : List CellKind) (c : CellKind) (fs : List Formula) (ts : List Tree) → j < length all → c ≡ get_or all j c → same_cell k c ≡ false
    → map formula_tree fs ++ are_at_places n s k o j (drop j all) ≡ ts → map formula_tree fs ++ are_at_places n s k o (j + 1) (drop (j + 1) all) ≡ ts
place_skipped n s k o j all c fs ts l e q i =
    let step : j + 1 ≡ suc j = omega arith in
    let rest = are_at_places n s k o (suc j) (drop (j + 1) all) in
    ap (λ m. map formula_tree fs ++ are_at_places n s k o m (drop (j + 1) all)) step
    ∙ ap (λ b. map formula_tree fs ++ cond b (is_at_place n s o j ∷ rest) rest) (sym q)
    ∙ ap (λ xs. map formula_tree fs ++ are_at_places n s k o j xs) (sym (one_off all j c l e))
    ∙ i

pub places_done : (n s : ℕ) (k : CellKind) (o : Tree) (j : ℕ) (all : List CellKind) (fs : List Formula) (ts : List Tree) → length all ≤ j → map formula_tree fs ++ are_at_places n s k o j (drop j all) ≡ ts → map formula_tree fs ≡ ts
places_done n s k o j all fs ts l i = append_none (map formula_tree fs) ∙ ap (λ xs. map formula_tree fs ++ are_at_places n s k o j xs) (sym (drop_all_of j all l)) ∙ i
  where
    append_none : (xs : List Tree) → xs ≡ xs ++ []
    append_none [] = refl
    append_none (x ∷ xs) = ap (λ ys. x ∷ ys) (append_none xs)

    drop_all_of : (j : ℕ) (xs : List CellKind) → length xs ≤ j → drop j xs ≡ []
    drop_all_of zero [] l = refl
    drop_all_of (suc j) [] l = refl
    drop_all_of zero (x ∷ xs) l = absurd (omega (arith, l))
    drop_all_of (suc j) (x ∷ xs) l = drop_all_of j xs (omega (arith, l))
