-- The cells of objects and of structs.
use Rattle.std.proofs.Common.{◌≡◌, ℕ, ◌+◌, ◌≤◌, Bool, true, false, List, [], ◌∷◌, length, Option, Some, None, Ok, refl, sym, ap, subst, ◌∙◌, if◌then◌else◌, arith, length-append, nat_le, lit≤, ◌⊎◌, inl, inr}
use Rattle.std.proofs.lemmas.Bool.{leb-true, le-leb}
use Rattle.std.specs.Option.{unwrap_or}
use Rattle.wp_base.specs.declared.kinds.CellKind.{CellKind}
use Rattle.wp_base.specs.declared.kinds.Layout.{Layout}
use Rattle.wp_base.specs.Blocks.{cells_of}
use Rattle.c_kinds.specs.Layouts.{size, all_cells}
use Rattle.c_kinds.proofs.Laying.{size_is}
use Rattle.c_answers.specs.Answers.{after, too_large}
use Rattle.c_scopes.specs.declared.symbols.Structure.{Structure}
use Rattle.c_scopes.specs.declared.symbols.Resolved.{Resolved}
use Rattle.c_scopes.specs.Extents.{most_cells, element_cells, layout_with, held, most_struct_cells, extent}
use Rattle.c_scopes.specs.Laws.{Extends, ExtentsAreWithin, cells_through, parts_of, StructsAreWithin}

-- ---- objects

counts : (o : Option ℕ) → (o ≡ Some (unwrap_or o 1)) ⊎ ((o ≡ None) × (unwrap_or o 1 ≡ 1))
counts (Some n) = inl refl
counts None = inr (refl, refl)

extends_by : (ss : List Structure) (line : ℕ) (t : Resolved) (l : Layout) (cells : List CellKind) (b : Bool) → element_cells ss t.ty.base t.ty.stars ≡ Some cells
    → nat_le (size (layout_with t cells)) most_cells ≡ b → (if b then Ok (layout_with t cells) else too_large line) ≡ Ok l → Extends ss t l
extends_by ss line t l cells true is fits h =
    let same : layout_with t cells ≡ l = cc in
    let le = leb-true (size (layout_with t cells)) most_cells fits in
    let within : length (cells_of (layout_with t cells)) ≤ most_cells = subst (λ n. n ≤ most_cells) (sym (size_is (layout_with t cells))) le in
    subst (λ l. Extends ss t l) same (record { elements = is; count = counts t.ty.count; within = within; writable = refl })
extends_by ss line t l cells false is fits h = absurd cc

extends : (ss : List Structure) (line : ℕ) (t : Resolved) (l : Layout) (o : Option (List CellKind)) → element_cells ss t.ty.base t.ty.stars ≡ o → held line t o ≡ Ok l
    → Extends ss t l
extends ss line t l None is h = absurd cc
extends ss line t l (Some cells) is h = extends_by ss line t l cells (nat_le (size (layout_with t cells)) most_cells) is refl h

counted_by : (o : Option ℕ) (n : ℕ) → (o ≡ Some n) ⊎ ((o ≡ None) × (n ≡ 1)) → unwrap_or o 1 ≡ n
counted_by o n (inl h) = ap (λ o. unwrap_or o 1) h
counted_by o n (inr h) = ap (λ o. unwrap_or o 1) h.0 ∙ sym h.1

layout_is : (ss : List Structure) (t : Resolved) (l : Layout) → Extends ss t l → layout_with t l.cells ≡ l
layout_is ss t l x i = record { count = counted_by t.ty.count l.count x.count i; cells = l.cells; writable = sym x.writable i }

holds : (ss : List Structure) (line : ℕ) (t : Resolved) (l : Layout) → Extends ss t l → extent ss line t ≡ Ok l
holds ss line t l x =
    let same = layout_is ss t l x in
    let fits : size l ≤ most_cells = subst (λ n. n ≤ most_cells) (size_is l) x.within in
    ap (held line t) x.elements
    ∙ ap (λ b. if b then Ok (layout_with t l.cells) else too_large line) (le-leb (size (layout_with t l.cells)) most_cells (subst (λ (l : Layout). size l ≤ most_cells) (sym same) fits))
    ∙ ap (λ l. Ok l) same

pub extents_are_within : ExtentsAreWithin
extents_are_within ss line t l = (extends ss line t l (element_cells ss t.ty.base t.ty.stars) refl, holds ss line t l)

-- ---- structs

one_more : (before : ℕ) (p : ℕ × Layout) (ps : List (ℕ × Layout)) → before + size p.1 + length (all_cells (parts_of ps)) ≡ before + length (all_cells (parts_of (p ∷ ps)))
one_more before p ps = omega (arith, length-append (cells_of p.1) (all_cells (parts_of ps)), size_is p.1)

counted : (before : ℕ) (ps : List (ℕ × Layout)) (n : ℕ) → before ≤ most_struct_cells → cells_through before ps ≡ Ok n → (n ≡ before + length (all_cells (parts_of ps))) × (n ≤ most_struct_cells)
counted before [] n within h =
    let same : before ≡ n = cc in
    (omega arith, omega arith)
counted before (p ∷ ps) n within h = by (nat_le (before + size p.1) most_struct_cells) refl h (counted (before + size p.1) ps n)
  where
    by : (b : Bool) → nat_le (before + size p.1) most_struct_cells ≡ b → after (if b then Ok (before + size p.1) else too_large p.0) (λ cells. cells_through cells ps) ≡ Ok n
        → (before + size p.1 ≤ most_struct_cells → cells_through (before + size p.1) ps ≡ Ok n → (n ≡ before + size p.1 + length (all_cells (parts_of ps))) × (n ≤ most_struct_cells))
        → (n ≡ before + length (all_cells (parts_of (p ∷ ps)))) × (n ≤ most_struct_cells)
    by true fits h rest =
        let r = rest (leb-true (before + size p.1) most_struct_cells fits) h in
        (r.0 ∙ one_more before p ps, r.1)
    by false fits h rest = absurd cc

through : (before : ℕ) (ps : List (ℕ × Layout)) (n : ℕ) → n ≡ before + length (all_cells (parts_of ps)) → n ≤ most_struct_cells → cells_through before ps ≡ Ok n
through before [] n is within = let same : before ≡ n = omega arith in ap (λ n. Ok n) same
through before (p ∷ ps) n is within =
    let more = one_more before p ps in
    let fits : before + size p.1 ≤ most_struct_cells = omega arith in
    ap (λ b. after (if b then Ok (before + size p.1) else too_large p.0) (λ cells. cells_through cells ps)) (le-leb (before + size p.1) most_struct_cells fits)
    ∙ through (before + size p.1) ps n (is ∙ sym more) within

pub structs_are_within : StructsAreWithin
structs_are_within ps n = (within, without)
  where
    within : cells_through 0 ps ≡ Ok n → (n ≡ length (all_cells (parts_of ps))) × (n ≤ most_struct_cells)
    within h = let r = counted 0 ps n (lit≤ tt) h in (omega (arith, r.0), r.1)

    without : (n ≡ length (all_cells (parts_of ps))) × (n ≤ most_struct_cells) → cells_through 0 ps ≡ Ok n
    without r = through 0 ps n (omega (arith, r.0)) r.1
