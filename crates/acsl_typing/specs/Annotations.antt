-- The annotations of a typed file, typed in the order of the text, or the first fault among them (ACSL 2.3 to 2.6). Of each declaration first the
-- contract, and then what stands in the body.
use Rattle.std.specs.Prelude.{ℕ, ◌+◌, nat_lt, ◌&&◌, Bool, true, false, if◌then◌else◌, List, [], ◌∷◌, ◌++◌, length, map, slice_get, slice_index_or, slice_set, Option, Some, None, Ok}
use Rattle.std.specs.Option.{is_some}
use Rattle.c_answers.specs.Answers.{Answer, after}
use Rattle.name_table.specs.Names.{meaning_among}
use Rattle.c_syntax.specs.Contract.{Contract}
use Rattle.c_syntax.specs.Decl as d
use Rattle.typed_prog.specs.declared.types.CoreType.{CoreType}
use Rattle.typed_prog.specs.Types.{void}
use Rattle.c_scopes.specs.declared.symbols.Object.{Object}
use Rattle.c_scopes.specs.declared.symbols.Signature.{Signature}
use Rattle.c_scopes.specs.declared.symbols.Structure.{Structure}
use Rattle.c_scopes.specs.declared.file.File.{File}
use Rattle.typed_unit.specs.Unit as u
use Rattle.acsl_trees.specs.Tree.{Tree, view_tree}
use Rattle.acsl_names.specs.declared.names.Definitions.{Definitions}
use Rattle.acsl_names.specs.declared.names.Site.TheVariants as site
use Rattle.acsl_names.specs.Names.{Around}
use Rattle.acsl_names.specs.Sites.{Before, Within, around}
use Rattle.acsl_terms.specs.Leaves.{misshapen}
use Rattle.acsl_clauses.specs.Items.{Item, line_of, contract_items}
use Rattle.acsl_clauses.specs.Typed.{TypedClause, view_clause}
use Rattle.acsl_clauses.specs.Clauses.{contract_typed}
use Rattle.acsl_definitions.specs.Definitions.{definition_typed}
use Rattle.acsl_notes.specs.Notes.{Note, Enclosing, view_note, params_scope, body_noted}
use Rattle.acsl_typing.specs.declared.annotations.Annotation.{Annotation as CodeAnnotation}
use Rattle.acsl_typing.specs.declared.annotations.Annotation.TheVariants as code
use Rattle.acsl_typing.specs.declared.annotations.Annotations.{Annotations as Code}
use Rattle.acsl_typing.specs.declared.annotations.Annotating.{Annotating as CodeAnnotating}

-- what the annotations of a declaration say: its contract and what stands in its body, or what a definition stands for
pub data Annotation : Type 0 where
  of_function : (contract : List TypedClause) (notes : List Note) → Annotation
  of_definition : (t : Tree) → Annotation

abbrev pub view_annotation : CodeAnnotation → Annotation
view_annotation (code.Function cs ns) = of_function (map view_clause cs) (map view_note ns)
view_annotation (code.Definition t) = of_definition (view_tree t)

-- the definitions of a file, and what each of its declarations says, in order
pub record Annotations : Type 0 where
  pub definitions : Definitions
  pub items : List Annotation

abbrev pub view_annotations : Code → Annotations
view_annotations x = record { definitions = x.definitions; items = map view_annotation x.items }

-- what is known so far: beside these how many cells each struct has, which functions have a contract, and how many bodies were read
pub record Annotating : Type 0 where
  pub sizes : List ℕ
  pub definitions : Definitions
  pub contracted : List Bool
  pub bodies : ℕ
  pub items : List Annotation

abbrev pub view_annotating : CodeAnnotating → Annotating
view_annotating x = record { sizes = x.sizes.items; definitions = x.definitions; contracted = x.contracted.items; bodies = x.bodies; items = map view_annotation x.items }

-- ---- what stands before

-- how many cells each struct has
abbrev pub cells_in : Structure → ℕ
cells_in s = length s.layout.cells

abbrev pub sizes_of : File → List ℕ
sizes_of f = map cells_in f.structs

abbrev pub before_of : u.Typed → (sizes : List ℕ) → (names tags : ℕ) → Before
before_of t sizes names tags = record { model = t.model; sizes = sizes; file = t.file; names = names; tags = tags }

-- what the function with this number gives
abbrev pub given_by : Option Signature → CoreType
given_by (Some g) = g.result
given_by None = void

abbrev pub result_of : File → (number : ℕ) → CoreType
result_of f i = given_by (slice_get f.functions i)

-- a function with these objects, of which so many are parameters
abbrev pub within_of : File → (number : ℕ) → List Object → (params : ℕ) → Within
within_of f i os n = record { objects = os; params = n; result = result_of f i }

-- ---- contracts

-- A function has one contract. A second one is a fault at its first clause; one without clauses is none.
abbrev pub second : List Item → Answer (List TypedClause)
second [] = Ok []
second (x ∷ xs) = misshapen (line_of x)

abbrev pub contract_checked : Around → (has_one : Bool) → Contract → Answer (List TypedClause)
contract_checked c true k = second (contract_items k)
contract_checked c false k = contract_typed c k

abbrev pub around_contract : u.Typed → Annotating → (names tags number : ℕ) → List Object → Around
around_contract t k names tags i ps = around (before_of t k.sizes names tags) k.definitions (params_scope ps) (within_of t.file i ps (length ps)) site.Contract None

abbrev pub has_contract : Annotating → (number : ℕ) → Bool
has_contract k i = slice_index_or k.contracted i false

abbrev pub contract_of : u.Typed → Annotating → (names tags number : ℕ) → List Object → Contract → Answer (List TypedClause)
contract_of t k names tags i ps q = contract_checked (around_contract t k names tags i ps) (has_contract k i) q

-- ---- bodies

-- In its body a function is declared itself, also where it wasn't before.
abbrev pub names_by : (names : ℕ) → (is_declared : Bool) → ℕ
names_by n true = n
names_by n false = n + 1

abbrev pub is_declared_among : File → (names : ℕ) → Option Signature → Bool
is_declared_among f n (Some g) = is_some (meaning_among n f.names g.name)
is_declared_among f n None = true

abbrev pub names_inside : File → (names number : ℕ) → ℕ
names_inside f n i = names_by n (is_declared_among f n (slice_get f.functions i))

abbrev pub enclosing_of : u.Typed → Annotating → (names tags number : ℕ) → List Object → u.Body → Enclosing
enclosing_of t k names tags i ps b = record { before = before_of t k.sizes (names_inside t.file names i) tags; definitions = k.definitions; within = within_of t.file i b.locals (length ps) }

abbrev pub notes_in : u.Typed → Annotating → (names tags number : ℕ) → List Object → Option u.Body → Answer (List Note)
notes_in t k names tags i ps None = Ok []
notes_in t k names tags i ps (Some b) = body_noted (enclosing_of t k names tags i ps b) (params_scope ps) b.stmt

-- the body that is next in the text, where one stands here
abbrev pub next_body : u.Typed → Annotating → (has_body : Bool) → Option u.Body
next_body t k true = slice_get t.bodies k.bodies
next_body t k false = None

abbrev pub notes_of : u.Typed → Annotating → (names tags number : ℕ) → List Object → (has_body : Bool) → Answer (List Note)
notes_of t k names tags i ps has_body = notes_in t k names tags i ps (next_body t k has_body)

-- ---- declarations

-- it has a contract now, where it has clauses
abbrev pub marked : List TypedClause → (number : ℕ) → List Bool → List Bool
marked cs i bs = if nat_lt 0 (length cs) && nat_lt i (length bs) then slice_set bs i true else bs

abbrev pub bodies_behind : (has_body : Bool) → ℕ → ℕ
bodies_behind true n = n + 1
bodies_behind false n = n

abbrev pub with_function : Annotating → (number : ℕ) → (has_body : Bool) → List TypedClause → List Note → Annotating
with_function k i has_body cs ns =
    record k { contracted = marked cs i k.contracted; bodies = bodies_behind has_body k.bodies; items = k.items ++ of_function cs ns ∷ [] }

abbrev pub function_annotated : u.Typed → Annotating → (names tags number : ℕ) → List Object → Contract → (has_body : Bool) → Answer Annotating
function_annotated t k names tags i ps q has_body =
    after (contract_of t k names tags i ps q) (λ cs. after (notes_of t k names tags i ps has_body) (λ ns. Ok (with_function k i has_body cs ns)))

abbrev pub definition_annotated : u.Typed → Annotating → (names tags : ℕ) → d.LogicDecl → Answer Annotating
definition_annotated t k names tags l =
    after (definition_typed (before_of t k.sizes names tags) k.definitions l) (λ r. Ok (record k { definitions = r.1; items = k.items ++ of_definition r.0 ∷ [] }))

abbrev pub part_by : u.Typed → Annotating → (names tags : ℕ) → u.Annotated → Answer Annotating
part_by t k names tags (u.of_function i ps q has_body) = function_annotated t k names tags i ps q has_body
part_by t k names tags (u.of_logic l) = definition_annotated t k names tags l

abbrev pub part_annotated : u.Typed → Annotating → u.Part → Answer Annotating
part_annotated t k p = part_by t k p.names p.tags p.decl

abbrev pub parts_annotated : u.Typed → Annotating → List u.Part → Answer Annotating
parts_annotated t k [] = Ok k
parts_annotated t k (p ∷ ps) = after (part_annotated t k p) (λ j. parts_annotated t j ps)

-- ---- files

-- no function has a contract yet
abbrev pub none_of : {X : Type 0} → List X → List Bool
none_of xs = map (λ x. false) xs

abbrev pub at_start : File → Annotating
at_start f = record { sizes = sizes_of f; definitions = record { names = []; items = [] }; contracted = none_of f.functions; bodies = 0; items = [] }

abbrev pub finished : Annotating → Annotations
finished k = record { definitions = k.definitions; items = k.items }

unfoldable pub file_annotated : u.Typed → Answer Annotations
file_annotated t = after (parts_annotated t (at_start t.file) t.parts) (λ k. Ok (finished k))
