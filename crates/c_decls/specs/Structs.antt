-- Declarations of structs (C11 6.7.2.1). The tag is in scope in the fields, where the struct isn't complete: so a field may point to it (6.7.2.1p3). Of each
-- field come first the faults of names, and then of what stands in its type; then that no object can have its type; and last that the struct has too many
-- cells.
use Rattle.std.specs.Prelude.{ℕ, true, List, [], ◌∷◌, ◌++◌, if◌then◌else◌, Ok}
use Rattle.wp_base.specs.declared.kinds.Layout.{Layout}
use Rattle.c_kinds.specs.declared.layouts.StructLayout.{StructLayout}
use Rattle.c_kinds.specs.Layouts.{all_cells, places}
use Rattle.c_syntax.specs.Expr as e
use Rattle.c_syntax.specs.Decl as decl
use Rattle.name_table.specs.Names.{is_free, declared}
use Rattle.c_answers.specs.Answers.{Answer, after, unknown}
use Rattle.c_scopes.specs.declared.symbols.Resolved.{Resolved}
use Rattle.c_scopes.specs.declared.symbols.Field.{Field}
use Rattle.c_scopes.specs.declared.symbols.Structure.{Structure}
use Rattle.c_scopes.specs.Declarations.{with_struct_tag, with_struct}
use Rattle.c_scopes.specs.Extents.{extent, cells_with}
use Rattle.c_variables.specs.declared.context.Context.{Context}
use Rattle.c_variables.specs.Contexts.{around_of}
use Rattle.c_variables.specs.Variables.{variable}
use Rattle.c_decls.specs.Each.{each, with_file}
use Rattle.c_decls.specs.declared.structs.Fields.{Fields}

-- ---- fields

abbrev pub no_fields : Fields
no_fields = record { names = []; fields = []; parts = []; cells = 0 }

abbrev pub field_of : e.VarDecl → Resolved → Field
field_of d t = record { name = d.name; ty = t.ty; is_const = t.is_const }

-- with one field more, and so many cells in all
abbrev pub fields_with : Fields → e.VarDecl → Resolved → Layout → (cells : ℕ) → Fields
fields_with fs d t part cells =
    record { names = declared fs.names d.name true; fields = fs.fields ++ field_of d t ∷ []; parts = fs.parts ++ part ∷ []; cells = cells }

-- the names of fields are a name space of their own (C11 6.2.3p1)
unfoldable pub with_field : Context → Fields → e.VarDecl → Answer Fields
with_field c fs d =
    after (variable (around_of c) (is_free fs.names d.name) d.line d.ty) (λ t.
    after (extent c.scope.file.structs d.line t) (λ part. after (cells_with d.line fs.cells part) (λ cells. Ok (fields_with fs d t part cells))))

abbrev pub all_fields : Context → List e.VarDecl → Answer Fields
all_fields c ds = each (with_field c) no_fields ds

-- ---- structs

abbrev pub layout_of : List Layout → StructLayout
layout_of parts = record { fields = places 0 parts; cells = all_cells parts }

abbrev pub structure_of : (name : List ℕ) → Fields → Structure
structure_of x fs = record { name = x; fields = fs.fields; layout = layout_of fs.parts }

-- the tag of a struct whose fields aren't declared yet
abbrev pub tagged : Context → (name : List ℕ) → Context
tagged c x = with_file c (with_struct_tag c.scope.file x)

abbrev pub completed : Context → (name : List ℕ) → Fields → Context
completed c x fs = record (with_file c (with_struct c.scope.file (structure_of x fs))) { sizes = c.sizes ++ fs.cells ∷ [] }

-- a tag is declared once, whatever it is of (narrower than C11 6.7.2.3, by which it may be named before its struct is declared)
unfoldable pub struct_declared : Context → decl.StructDecl → Answer Context
struct_declared c d =
    if is_free c.scope.file.tags d.name then after (all_fields (tagged c d.name) d.fields) (λ fs. Ok (completed (tagged c d.name) d.name fs))
    else unknown d.line
