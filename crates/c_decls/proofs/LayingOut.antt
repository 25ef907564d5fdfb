-- A declared struct, its fields and its cells.
use Rattle.std.proofs.Common.{◌≡◌, ℕ, ◌+◌, Bool, true, false, List, [], ◌∷◌, ◌++◌, length, Ok, refl, sym, ap, subst, ◌∙◌, if◌then◌else◌, length-append, append_assoc, append-nil}
use Rattle.std.proofs.lemmas.List.{map_push}
use Rattle.wp_base.specs.declared.kinds.Layout.{Layout}
use Rattle.wp_base.specs.Blocks.{cells_of}
use Rattle.c_kinds.specs.Layouts.{all_cells}
use Rattle.c_kinds.proofs.Laying.{size_is}
use Rattle.c_syntax.specs.Expr as e
use Rattle.c_syntax.specs.Decl as decl
use Rattle.name_table.specs.Names.{meaning_of, is_free}
use Rattle.name_table.proofs.Declaring.{declares}
use Rattle.c_answers.specs.Answers.{Answer, after, unknown}
use Rattle.c_scopes.specs.declared.symbols.Tag.TheVariants as tag
use Rattle.c_scopes.specs.declared.symbols.Field.{Field}
use Rattle.c_scopes.specs.declared.symbols.Structure.{Structure}
use Rattle.c_scopes.specs.Extents.{extent, cells_with}
use Rattle.c_scopes.specs.Laws.{Extends}
use Rattle.c_scopes.proofs.Holding.{extents_are_within}
use Rattle.c_variables.specs.declared.context.Context.{Context}
use Rattle.c_variables.specs.Contexts.{around_of}
use Rattle.c_variables.specs.Variables.{variable}
use Rattle.c_decls.specs.declared.structs.Fields.{Fields}
use Rattle.c_decls.specs.Each.{each}
use Rattle.c_decls.specs.Structs.{no_fields, field_of, fields_with, with_field, all_fields, structure_of, tagged, completed, struct_declared}
use Rattle.c_decls.specs.Laws.{type_of_field, FieldsExtend, sizes_of, names_of, field_names, StructsAreLaidOut}
use Rattle.c_decls.proofs.Turns.{after_gives, each_keeps, ok_is}
use Rattle.c_decls.proofs.Sizing.{all_sized}

struct_by : (b : Bool) (c : Context) (x : List ℕ) (o : Answer Fields) (line : ℕ) (c' : Context) → (if b then after o (λ fs. Ok (completed (tagged c x) x fs)) else unknown line) ≡ Ok c'
    → (b ≡ true) × ((fs : Fields) × (o ≡ Ok fs) × (c' ≡ completed (tagged c x) x fs))
struct_by true c x o line c' h =
    let a = after_gives o (λ fs. Ok (completed (tagged c x) x fs)) c' h in
    (refl, (a.0, a.1, sym (ok_is (completed (tagged c x) x a.0) c' a.2)))
struct_by false c x o line c' h = absurd cc

pub struct_gives : (c : Context) (d : decl.StructDecl) (c' : Context) → struct_declared c d ≡ Ok c'
    → (is_free c.scope.file.tags d.name ≡ true) × ((fs : Fields) × (all_fields (tagged c d.name) d.fields ≡ Ok fs) × (c' ≡ completed (tagged c d.name) d.name fs))
unfolding struct_declared
struct_gives c d c' h = struct_by (is_free c.scope.file.tags d.name) c d.name (all_fields (tagged c d.name) d.fields) d.line c' h

-- A field that was declared, with its layout.
pub record Laid (c : Context) (fs : Fields) (d : e.VarDecl) (gs : Fields) : Type 0 where
  pub field : Field
  pub part : Layout
  pub cells : ℕ
  pub free : variable (around_of c) (is_free fs.names d.name) d.line d.ty ≡ Ok (type_of_field field)
  pub name : field.name ≡ d.name
  pub extends : Extends c.scope.file.structs (type_of_field field) part
  pub whole : gs ≡ fields_with fs d (type_of_field field) part cells

pub laid : (c : Context) (fs : Fields) (d : e.VarDecl) (gs : Fields) → with_field c fs d ≡ Ok gs → Laid c fs d gs
unfolding with_field
laid c fs d gs h =
    let a = after_gives (variable (around_of c) (is_free fs.names d.name) d.line d.ty) _ gs h in
    let b = after_gives (extent c.scope.file.structs d.line a.0) _ gs a.2 in
    let k = after_gives (cells_with d.line fs.cells b.0) (λ cells. Ok (fields_with fs d a.0 b.0 cells)) gs b.2 in
    record {
      field = field_of d a.0;
      part = b.0;
      cells = k.0;
      free = a.1;
      name = refl;
      extends = (extents_are_within c.scope.file.structs d.line a.0 b.0).0 b.1;
      whole = sym (ok_is (fields_with fs d a.0 b.0 k.0) gs k.2);
    }

-- ---- layouts

extend_more : (ss : List Structure) (fs : List Field) (ps : List Layout) (f : Field) (p : Layout) → FieldsExtend ss fs ps → Extends ss (type_of_field f) p → FieldsExtend ss (fs ++ f ∷ []) (ps ++ p ∷ [])
extend_more ss [] [] f p so_far more = (more, tt)
extend_more ss [] (q ∷ ps) f p so_far more = absurd so_far
extend_more ss (g ∷ fs) [] f p so_far more = absurd so_far
extend_more ss (g ∷ fs) (q ∷ ps) f p so_far more = (so_far.0, extend_more ss fs ps f p so_far.1 more)

abbrev AllExtend : Context → Fields → Type 0
AllExtend c fs = FieldsExtend c.scope.file.structs fs.fields fs.parts

field_extends : (c : Context) (fs : Fields) (d : e.VarDecl) (gs : Fields) → AllExtend c fs → with_field c fs d ≡ Ok gs → AllExtend c gs
field_extends c fs d gs so_far h =
    let l = laid c fs d gs h in
    subst (AllExtend c) (sym l.whole) (extend_more c.scope.file.structs fs.fields fs.parts (field_of d (type_of_field l.field)) l.part so_far l.extends)

all_extend : (c : Context) (ds : List e.VarDecl) (fs : Fields) → all_fields c ds ≡ Ok fs → AllExtend c fs
all_extend c ds fs h = each_keeps (AllExtend c) (with_field c) (field_extends c) no_fields ds fs tt h

-- ---- names

pub named_more : (c : Context) (fs : Fields) (ds : List e.VarDecl) (gs : Fields) → each (with_field c) fs ds ≡ Ok gs → field_names gs.fields ≡ field_names fs.fields ++ names_of ds
named_more c fs [] gs h = ap (λ (fs : Fields). field_names fs.fields) (sym (ok_is fs gs h)) ∙ sym (append-nil (field_names fs.fields))
named_more c fs (d ∷ ds) gs h =
    let a = after_gives (with_field c fs d) (λ next. each (with_field c) next ds) gs h in
    let l = laid c fs d a.0 a.1 in
    let rest = named_more c a.0 ds gs a.2 in
    let one : field_names a.0.fields ≡ field_names fs.fields ++ d.name ∷ [] = ap (λ (fs : Fields). field_names fs.fields) l.whole ∙ map_push (λ (f : Field). f.name) fs.fields (field_of d (type_of_field l.field)) in
    rest ∙ ap (λ xs. xs ++ names_of ds) one ∙ append_assoc (field_names fs.fields) (d.name ∷ []) (names_of ds)

-- ---- cells

summed : (parts : List Layout) → length (all_cells parts) ≡ sizes_of parts
summed [] = refl
summed (p ∷ ps) = length-append (cells_of p) (all_cells ps) ∙ (λ i. size_is p i + summed ps i)

pub structs_are_laid_out : StructsAreLaidOut
structs_are_laid_out c c' d h =
    let g = struct_gives c d c' h in
    let fs = g.1.0 in
    let is : c' ≡ completed (tagged c d.name) d.name fs = g.1.2 in
    let s = all_sized (tagged c d.name) d.fields fs g.1.1 in
    record {
      made = structure_of d.name fs;
      parts = fs.parts;
      cells = fs.cells;
      structs = ap (λ (k : Context). k.scope.file.structs) is;
      sizes = ap (λ (k : Context). k.sizes) is;
      tagged = ap (λ (k : Context). meaning_of k.scope.file.tags d.name) is ∙ (declares c.scope.file.tags d.name (tag.Struct (length c.scope.file.structs))).new g.0;
      named = named_more (tagged c d.name) no_fields d.fields fs g.1.1;
      extend = all_extend (tagged c d.name) d.fields fs g.1.1;
      offsets = refl;
      laid = refl;
      counted = s.cells;
      summed = s.cells ∙ summed fs.parts;
      within = s.within;
    }
