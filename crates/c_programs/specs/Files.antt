-- Files as programs that run (C11 6.9): their functions by numbers, with contracts and bodies, and what is known of all of them.
use Rattle.std.specs.Prelude.{ℕ, ◌+◌, ◌==◌, not, Bool, true, false, if◌then◌else◌, List, [], ◌∷◌, ◌++◌, map, length, replicate, slice_index_or, Option, Some, None}
use Rattle.std.specs.Option.{is_some, option_map, unwrap_or}
use Rattle.wp_base.specs.declared.kinds.CellKind.{CellKind}
use Rattle.wp_base.specs.declared.kinds.Layout.{Layout}
use Rattle.typed_prog.specs.declared.types.CoreType.{CoreType}
use Rattle.typed_prog.specs.Types.{is_void}
use Rattle.c_scopes.specs.declared.symbols.Object.{Object}
use Rattle.c_scopes.specs.declared.symbols.Signature.{Signature}
use Rattle.c_scopes.specs.declared.symbols.Structure.{Structure}
use Rattle.c_scopes.specs.Extents.{element_cells}
use Rattle.typed_unit.specs.Unit as u
use Rattle.acsl_clauses.specs.Typed.{TypedClause}
use Rattle.acsl_notes.specs.Notes.{Note}
use Rattle.acsl_annotated.specs.Told.{Annotation, Annotations, of_function, of_definition}
use Rattle.acsl_annotated.specs.Annotated.{meant_from}
use Rattle.c_runs.specs.Program.{Stmts, Variable, Function, Facts, Program}
use Rattle.c_runs.specs.Objects.{cell_of}
use Rattle.c_programs.specs.Clauses.{contract_of}
use Rattle.c_programs.specs.Bodies.{placed, valued}
use Rattle.c_programs.specs.Clusters.{at, call_each_other}

-- ---- variables

abbrev pub or_none : Option (List CellKind) → List CellKind
or_none None = []
or_none (Some ks) = ks

-- the cells of an object of this type
abbrev pub layout_of : List Structure → CoreType → (is_const : Bool) → Layout
layout_of ss type is_const = record { count = unwrap_or type.count 1; cells = or_none (element_cells ss type.base type.stars); writable = not is_const }

abbrev pub variable_of : List Structure → Object → (is_plain has_value : Bool) → Variable
variable_of ss o is_plain has_value = record { layout = layout_of ss o.ty o.is_const; is_plain = is_plain; has_value = has_value }

-- objects from this number on, with what is known of them by their numbers
abbrev pub variables_from : List Structure → (plain valued : List Bool) → (number : ℕ) → List Object → List Variable
variables_from ss ps vs n [] = []
variables_from ss ps vs n (o ∷ os) = variable_of ss o (slice_index_or ps n false) (slice_index_or vs n false) ∷ variables_from ss ps vs (n + 1) os

-- ---- annotations

abbrev pub clauses_in : (function : ℕ) → u.Annotated → Annotation → List TypedClause
clauses_in f (u.of_function i params q has_body) (of_function cs ns) = if i == f then cs else []
clauses_in f (u.of_function i params q has_body) (of_definition t) = []
clauses_in f (u.of_logic l) x = []

abbrev pub or_these : List TypedClause → List TypedClause → List TypedClause
or_these [] ys = ys
or_these (x ∷ xs) ys = x ∷ xs

-- the clauses at the first declaration of a function that has some; the others have none
abbrev pub clauses_for : (function : ℕ) → List u.Part → List Annotation → List TypedClause
clauses_for f [] xs = []
clauses_for f (p ∷ ps) [] = []
clauses_for f (p ∷ ps) (x ∷ xs) = or_these (clauses_in f p.decl x) (clauses_for f ps xs)

abbrev pub notes_by : (has_body : Bool) → Annotation → List (List Note)
notes_by true (of_function cs ns) = ns ∷ []
notes_by true (of_definition t) = []
notes_by false x = []

abbrev pub notes_in : u.Annotated → Annotation → List (List Note)
notes_in (u.of_function i params q has_body) x = notes_by has_body x
notes_in (u.of_logic l) x = []

-- what stands in each body, in the order of the text
abbrev pub notes_of : List u.Part → List Annotation → List (List Note)
notes_of [] xs = []
notes_of (p ∷ ps) [] = []
notes_of (p ∷ ps) (x ∷ xs) = notes_in p.decl x ++ notes_of ps xs

-- ---- functions

-- a body, and the annotations in it
pub record Text : Type 0 where
  pub body : u.Body
  pub notes : List Note

abbrev pub text_of : (function : ℕ) → List u.Body → List (List Note) → Option Text
text_of f [] nss = None
text_of f (b ∷ bs) [] = None
text_of f (b ∷ bs) (ns ∷ nss) = if b.function == f then Some (record { body = b; notes = ns }) else text_of f bs nss

-- parameters have values, and locals come behind them in the order of their declarations
abbrev pub values_of : (params : ℕ) → u.Body → List Bool
values_of n b = replicate n true ++ valued b.stmt

-- the kind of what a function of this type gives, which is a scalar
abbrev pub result_of : CoreType → Option CellKind
result_of type = if is_void type then None else Some (cell_of type)

abbrev pub function_with : List Structure → Signature → List TypedClause → Text → Function Stmts
function_with ss g cs x = record {
  params = length g.params;
  variables = variables_from ss x.body.plain (values_of (length g.params) x.body) 0 x.body.locals;
  result = result_of g.result;
  contract = contract_of cs;
  body = (placed x.body.stmt x.notes (length g.params)).stmts;
  end = x.body.end;
}

abbrev pub function_of : u.Typed → Annotations → (number : ℕ) → Signature → Option (Function Stmts)
function_of t a f g = option_map (function_with t.file.structs g (clauses_for f t.parts a.items)) (text_of f t.bodies (notes_of t.parts a.items))

-- those with these numbers on
abbrev pub functions_from : u.Typed → Annotations → (number : ℕ) → List Signature → List (Option (Function Stmts))
functions_from t a f [] = []
functions_from t a f (g ∷ gs) = function_of t a f g ∷ functions_from t a (f + 1) gs

unfoldable pub functions_of : u.Typed → Annotations → List (Option (Function Stmts))
functions_of t a = functions_from t a 0 t.file.functions

-- ---- files

abbrev pub cells_in : Structure → List CellKind
cells_in x = x.layout.cells

abbrev pub facts_of : u.Typed → Annotations → Facts
facts_of t a = record {
  model = t.model;
  globals = variables_from t.file.structs t.plain (map is_some t.inits) 0 t.file.globals;
  structs = map cells_in t.file.structs;
  definitions = meant_from a.definitions.items 0 a.items;
  in_cluster = call_each_other (functions_of t a);
}

-- the program that a typed file is, with its annotations, whose definitions are expanded
unfoldable pub program_of : u.Typed → Annotations → Program Stmts
program_of t a = record { facts = facts_of t a; functions = at (functions_of t a) }
