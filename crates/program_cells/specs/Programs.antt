-- What a core program with checks speaks of: the cells of variables with blocks, those that pointers in it lead to, and those that are read or written.
use Rattle.std.specs.Prelude.{Bool, false, if◌then◌else◌, List, [], ◌∷◌, ◌++◌, map, flat_map, Option, Some, None, slice_get}
use Rattle.wp_base.specs.declared.kinds.CellKind.{CellKind}
use Rattle.wp_base.specs.declared.kinds.CellKind.TheVariants as cell
use Rattle.typed_prog.specs.declared.types.CoreType.{CoreType}
use Rattle.typed_prog.specs.declared.operators.Op.{Op}
use Rattle.typed_prog.specs.declared.operators.Op.TheVariants as op
use Rattle.typed_prog.specs.declared.operators.Path.{Path}
use Rattle.typed_prog.specs.declared.operators.Root.{Root}
use Rattle.typed_prog.specs.declared.operators.Root.TheVariants as root
use Rattle.typed_prog.specs.declared.operators.Variable.TheVariants as variables
use Rattle.typed_prog.specs.Tree as t
use Rattle.acsl_trees.specs.Tree.{Tree}
use Rattle.acsl_expand.specs.Expansion.{Definition}
use Rattle.c_scopes.specs.declared.symbols.Signature.{Signature}
use Rattle.typed_unit.specs.Unit as u
use Rattle.c_runs.specs.Program.{Variable, Claim, Measure, Behavior, Contract, Loop, Function, Facts, Program}
use Rattle.c_runs.specs.Objects.{is_plain_in, cell_of}
use Rattle.c_runs.specs.Tree as core
use Rattle.c_runs.specs.Tree.{Goal, Steps}
use Rattle.value_terms.specs.Typed.{kind_given}
use Rattle.memory_words.specs.Shapes.{FileCells, kind_of}
use Rattle.program_cells.specs.Parts.{Part, blocks, of_kind, type_parts, cells_among}
use Rattle.program_cells.specs.Trees.{Declared, tree_parts, list_parts}

-- ---- variables

abbrev pub if_pointer : CellKind → List Part
if_pointer (cell.Of k) = []
if_pointer cell.Ptr = blocks ∷ []

abbrev pub variable_parts : Variable → List Part
variable_parts v = if v.is_plain then if_pointer (kind_of v) else blocks ∷ map of_kind v.layout.cells

abbrev pub variables_parts : List Variable → List Part
variables_parts vs = flat_map variable_parts vs

abbrev pub given_parts : Option CellKind → List Part
given_parts None = []
given_parts (Some k) = if_pointer k

module _ (p : Facts) (xs : List Variable) where
  -- ---- expressions

  -- the way begins at a variable that no pointer leads to
  abbrev pub is_plain_root : Root → Bool
  is_plain_root (root.Variable (variables.Global x)) = is_plain_in (slice_get p.globals x)
  is_plain_root (root.Variable (variables.Local x)) = is_plain_in (slice_get xs x)
  is_plain_root (root.Pointed n) = false

  -- a cell at the end of another way
  abbrev pub place_parts : Path → CellKind → List Part
  place_parts path k = if is_plain_root path.root then [] else blocks ∷ of_kind k ∷ []

  abbrev pub op_parts : CoreType → Op → List Part
  op_parts type (op.Read path) = place_parts path (kind_given type)
  op_parts type (op.Address path accessed) = blocks ∷ []
  op_parts type (op.Decay path accessed) = blocks ∷ []
  op_parts type (op.ComparePointers c) = blocks ∷ []
  op_parts type (op.Offset minus index_first size accessed) = blocks ∷ []
  op_parts type (op.Difference size) = blocks ∷ []
  op_parts type o = []

  -- each node of pointer type leads to the cells of what it points to
  abbrev mutual
    pub node_parts : CoreType → t.ValueNode → List Part
    node_parts type (t.constant z) = []
    node_parts type t.null = []
    node_parts type (t.temporary n) = []
    node_parts type (t.apply o es) = op_parts type o ++ values_parts es
    node_parts type (t.logic c a b) = value_parts a ++ value_parts b
    node_parts type (t.choose c a b) = value_parts c ++ (value_parts a ++ value_parts b)
    node_parts type (t.effect e es) = values_parts es

    pub value_parts : t.Value → List Part
    value_parts (t.typed node type line) = type_parts p type ++ node_parts type node

    pub values_parts : t.Values → List Part
    values_parts t.stop = []
    values_parts (t.more e es) = value_parts e ++ values_parts es

  abbrev pub value_parts_if : Option t.Value → List Part
  value_parts_if None = []
  value_parts_if (Some e) = value_parts e

  -- a place that is written, and the operands of its way
  abbrev pub written_parts : CoreType → Path → t.Values → List Part
  written_parts type path es = place_parts path (cell_of type) ++ values_parts es

  abbrev pub goal_parts : Goal → List Part
  goal_parts (core.place cs type l path es) = written_parts type path es
  goal_parts to = []

  abbrev pub call_parts : Goal → t.Values → List Part
  call_parts to es = goal_parts to ++ values_parts es

  -- ---- annotations, where this is declared

  module _ (d : Declared) where
    abbrev pub claim_parts : List Claim → List Part
    claim_parts cs = flat_map (λ (c : Claim). tree_parts p xs d c.what) cs

    abbrev pub measure_parts : Option Measure → List Part
    measure_parts None = []
    measure_parts (Some v) = tree_parts p xs d v.what

    abbrev pub set_parts : Option (List Tree) → List Part
    set_parts None = []
    set_parts (Some ts) = list_parts p xs d ts

    abbrev pub loop_parts : Loop → List Part
    loop_parts l = claim_parts l.invariants ++ (set_parts l.assigns ++ measure_parts l.variant)

    abbrev pub behavior_parts : Behavior → List Part
    behavior_parts b = list_parts p xs d b.assumes ++ (claim_parts b.requires ++ (claim_parts b.ensures ++ set_parts b.assigns))

    abbrev pub behaviors_parts : List Behavior → List Part
    behaviors_parts bs = flat_map behavior_parts bs

    abbrev pub contract_parts : Contract → List Part
    contract_parts c = behavior_parts c.plain ++ (measure_parts c.decreases ++ behaviors_parts c.behaviors)

    -- ---- statements

    abbrev mutual
      pub step_parts : core.Step → List Part
      step_parts (core.set cs n e) = value_parts e
      step_parts (core.store cs type l path es) = written_parts type path es
      step_parts (core.start cs x e) = value_parts e
      step_parts (core.call cs to n l es) = call_parts to es
      step_parts (core.branch cs e a b) = value_parts e ++ (steps_parts a ++ steps_parts b)
      step_parts (core.repeat l ss) = loop_parts l ++ steps_parts ss
      step_parts (core.around ss) = steps_parts ss
      step_parts (core.exit k) = []
      step_parts (core.give cs e) = value_parts_if e
      step_parts (core.claim c) = tree_parts p xs d c.what
      step_parts (core.scope ys ss) = steps_parts ss

      pub steps_parts : Steps → List Part
      steps_parts core.end = []
      steps_parts (core.then_ s ss) = step_parts s ++ steps_parts ss

-- ---- functions

abbrev pub function_parts : Facts → Declared → Function Steps → List Part
function_parts p d f =
    variables_parts f.variables ++ (given_parts f.result ++ (contract_parts p f.variables d f.contract ++ steps_parts p f.variables d f.body))

abbrev pub function_parts_if : Facts → Declared → Option (Function Steps) → List Part
function_parts_if p d None = []
function_parts_if p d (Some f) = function_parts p d f

-- ---- files

abbrev pub result_in : Option Signature → Option CoreType
result_in (Some g) = Some g.result
result_in None = None

module _ (t : u.Typed) (q : Program Steps) where
  -- in a body
  abbrev pub declared_in : u.Body → Declared
  declared_in b = record {
    globals = t.file.globals;
    locals = b.locals;
    structs = t.file.structs;
    result = result_in (slice_get t.file.functions b.function);
  }

  -- in a logic definition
  abbrev pub declared_alone : Declared
  declared_alone = record { globals = t.file.globals; locals = []; structs = t.file.structs; result = None }

  abbrev pub body_parts : u.Body → List Part
  body_parts b = function_parts_if q.facts (declared_in b) (q.functions b.function)

  abbrev pub bodies_parts : List u.Body → List Part
  bodies_parts bs = flat_map body_parts bs

  -- logic functions that call themselves stay in annotations (ACSL 2.6.3)
  abbrev pub definition_parts : Definition → List Part
  definition_parts d = if d.is_recursive then tree_parts q.facts [] declared_alone d.body else []

  abbrev pub definitions_parts : List Definition → List Part
  definitions_parts ds = flat_map definition_parts ds

  unfoldable pub program_parts : List Part
  program_parts = variables_parts q.facts.globals ++ (bodies_parts t.bodies ++ definitions_parts q.facts.definitions)

  -- the cells of the file
  abbrev pub program_cells : FileCells
  program_cells = cells_among program_parts
