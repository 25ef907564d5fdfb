-- How a typed file spells its logic functions with their parameters, and its variables (ACSL 2.6, C11 6.4.2). A parameter that has the name of a variable of
-- the file has `%` before it.
use Rattle.std.specs.Prelude.{List, [], ◌∷◌, ◌++◌, map}
use Rattle.c_syntax.specs.Expr.{VarDecl}
use Rattle.c_syntax.specs.Decl.{LogicDecl}
use Rattle.c_scopes.specs.declared.symbols.Object.{Object}
use Rattle.typed_unit.specs.Unit as u
use Rattle.acsl_encode.specs.Readings.{Named, one}
use Rattle.acsl_encode.specs.Told.{Spelling}
use Rattle.slot_names.specs.Bases.{Name, is_among, shown_as}
use Rattle.logic_order.specs.Names.{FileNames}

abbrev pub object_name : Object → Name
object_name o = o.name

-- ---- a logic function, beside these variables of the file

abbrev pub param_named : (file : List Name) → VarDecl → Named
param_named gs x = one (shown_as (is_among x.name gs) x.name)

abbrev pub spelling_of : (file : List Name) → LogicDecl → Spelling
spelling_of gs l = record { name = l.name; params = map (param_named gs) l.params }

-- ---- a file: its definitions in the order of the text

abbrev pub spelled_by : (file : List Name) → u.Annotated → List Spelling
spelled_by gs (u.of_logic l) = spelling_of gs l ∷ []
spelled_by gs (u.of_function n params k has_body) = []

abbrev pub spelled_parts : (file : List Name) → List u.Part → List Spelling
spelled_parts gs [] = []
spelled_parts gs (x ∷ xs) = spelled_by gs x.decl ++ spelled_parts gs xs

abbrev pub file_names : u.Typed → FileNames
file_names t = record { functions = spelled_parts (map object_name t.file.globals) t.parts; variables = map object_name t.file.globals }
