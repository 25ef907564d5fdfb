-- The cells of a struct and of its fields.
use Rattle.std.proofs.Common.{◌≡◌, ℕ, ◌+◌, ◌≤◌, Bool, true, false, List, [], ◌∷◌, ◌++◌, length, Ok, refl, sym, ap, subst, ◌∙◌, if◌then◌else◌, arith, length-append, append-nil, append_assoc, lit≤, nat_le}
use Rattle.std.proofs.lemmas.Bool.{leb-true}
use Rattle.wp_base.specs.declared.kinds.Layout.{Layout}
use Rattle.wp_base.specs.declared.kinds.CellKind.{CellKind}
use Rattle.wp_base.specs.Blocks.{cells_of}
use Rattle.c_kinds.specs.Layouts.{size, all_cells}
use Rattle.c_kinds.proofs.Laying.{size_is}
use Rattle.c_syntax.specs.Expr as e
use Rattle.name_table.specs.Names.{is_free}
use Rattle.c_answers.specs.Answers.{too_large}
use Rattle.c_scopes.specs.Extents.{extent, cells_with, most_struct_cells}
use Rattle.c_variables.specs.declared.context.Context.{Context}
use Rattle.c_variables.specs.Contexts.{around_of}
use Rattle.c_variables.specs.Variables.{variable}
use Rattle.c_decls.specs.declared.structs.Fields.{Fields}
use Rattle.c_decls.specs.Structs.{no_fields, fields_with, with_field, all_fields}
use Rattle.c_decls.proofs.Turns.{after_gives, each_keeps}

-- the cells of one part more
pub one_part_more : (parts : List Layout) (part : Layout) → all_cells (parts ++ part ∷ []) ≡ all_cells parts ++ cells_of part
one_part_more [] part = append-nil (cells_of part)
one_part_more (p ∷ parts) part = ap (λ (cells : List CellKind). cells_of p ++ cells) (one_part_more parts part) ∙ sym (append_assoc (cells_of p) (all_cells parts) (cells_of part))

-- As many cells are counted as the parts have, and no more than a struct may have.
pub record Sized (fs : Fields) : Type 0 where
  pub cells : fs.cells ≡ length (all_cells fs.parts)
  pub within : fs.cells ≤ most_struct_cells

within_by : (b : Bool) (line before cells : ℕ) (part : Layout) → nat_le (before + size part) most_struct_cells ≡ b
    → (if b then Ok (before + size part) else too_large line) ≡ Ok cells → (cells ≡ before + size part) × (cells ≤ most_struct_cells)
within_by true line before cells part fits h =
    let same : before + size part ≡ cells = cc in
    (sym same, subst (λ n. n ≤ most_struct_cells) same (leb-true (before + size part) most_struct_cells fits))
within_by false line before cells part fits h = absurd cc

pub counted : (line before cells : ℕ) (part : Layout) → cells_with line before part ≡ Ok cells → (cells ≡ before + size part) × (cells ≤ most_struct_cells)
counted line before cells part h = within_by (nat_le (before + size part) most_struct_cells) line before cells part refl h

one_sized : (fs : Fields) (part : Layout) (cells : ℕ) → fs.cells ≡ length (all_cells fs.parts) → cells ≡ fs.cells + size part → cells ≡ length (all_cells (fs.parts ++ part ∷ []))
one_sized fs part cells so_far is =
    let more : length (all_cells (fs.parts ++ part ∷ [])) ≡ length (all_cells fs.parts) + length (cells_of part) = ap length (one_part_more fs.parts part) ∙ length-append (all_cells fs.parts) (cells_of part) in
    omega (arith, more, size_is part, so_far, is)

field_sized : (c : Context) (fs : Fields) (d : e.VarDecl) (gs : Fields) → Sized fs → with_field c fs d ≡ Ok gs → Sized gs
unfolding with_field
field_sized c fs d gs so_far h =
    let a = after_gives (variable (around_of c) (is_free fs.names d.name) d.line d.ty) _ gs h in
    let b = after_gives (extent c.scope.file.structs d.line a.0) _ gs a.2 in
    let k = after_gives (cells_with d.line fs.cells b.0) _ gs b.2 in
    let n = counted d.line fs.cells k.0 b.0 k.1 in
    let same : fields_with fs d a.0 b.0 k.0 ≡ gs = cc in
    subst Sized same (record { cells = one_sized fs b.0 k.0 so_far.cells n.0; within = n.1 })

none_sized : Sized no_fields
none_sized = record { cells = refl; within = lit≤ tt }

pub all_sized : (c : Context) (ds : List e.VarDecl) (fs : Fields) → all_fields c ds ≡ Ok fs → Sized fs
all_sized c ds fs h = each_keeps Sized (with_field c) (field_sized c) no_fields ds fs none_sized h

-- the layout can be made
pub fields_within : (c : Context) (ds : List e.VarDecl) (fs : Fields) → all_fields c ds ≡ Ok fs → length (all_cells fs.parts) ≤ most_struct_cells
fields_within c ds fs h = let s = all_sized c ds fs h in subst (λ n. n ≤ most_struct_cells) s.cells s.within
