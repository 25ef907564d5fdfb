-- What stands around terms that were typed (ACSL 2.2.2, 2.2.3, 2.3.4).
use Rattle.std.specs.Prelude.{ℕ, Bool, true, false, ◌&&◌, ◌||◌, not, nat_lt, List, [], ◌∷◌, Option, Some, None, Ok, Err, if◌then◌else◌}
use Rattle.c_syntax.specs.declared.expr.UnOp.{UnOp}
use Rattle.c_syntax.specs.declared.expr.UnOp.TheVariants as un
use Rattle.c_syntax.specs.Expr as e
use Rattle.c_answers.specs.Answers.{Answer, after, wrong}
use Rattle.typed_prog.specs.declared.types.CoreType.{CoreType}
use Rattle.typed_prog.specs.declared.operators.Variable.{Variable}
use Rattle.typed_prog.specs.declared.operators.Variable.TheVariants as variable
use Rattle.c_scopes.specs.declared.symbols.Resolved.{Resolved}
use Rattle.c_scopes.specs.Meanings.{type_of, is_void_pointer}
use Rattle.acsl_trees.specs.declared.heads.Head.{Head}
use Rattle.acsl_trees.specs.declared.heads.Head.TheVariants as head
use Rattle.acsl_trees.specs.declared.heads.Label.{Label}
use Rattle.acsl_trees.specs.Tree.{Tree, node}
use Rattle.acsl_trees.specs.Operands.{Operand}
use Rattle.acsl_rules.specs.Operators.{unary}
use Rattle.acsl_rules.specs.Contexts.{cast, labelled}
use Rattle.acsl_names.specs.declared.names.Reading.{Reading}
use Rattle.acsl_names.specs.Names.{Around}
use Rattle.acsl_names.specs.Labels.{has_address}
use Rattle.acsl_terms.specs.Leaves.{misshapen, void_pointer}

-- ---- `&`

-- the local that a term is by its very name
abbrev pub local_by : Head → Option ℕ
local_by (head.Variable (variable.Local i)) = Some i
local_by _ = None

abbrev pub local_of : Tree → Option ℕ
local_of (node h kids) = local_by h

abbrev pub is_addressed : UnOp → Bool
is_addressed un.AddressOf = true
is_addressed _ = false

abbrev pub may_address : Around → Reading → UnOp → Option ℕ → Bool
may_address c r o (Some i) = not (is_addressed o) || has_address c r i
may_address c r o None = true

-- a prefix operator; a parameter has no address in a contract
unfoldable pub prefixed : Around → Reading → (line : ℕ) → UnOp → Operand → Answer Operand
prefixed c r line o x = after (unary line o x) (λ y. if may_address c r o (local_of x.tree) then Ok y else misshapen line)

-- ---- casts

abbrev pub cast_type : (line : ℕ) → (is_void_pointer : Bool) → Option Resolved → Answer CoreType
cast_type line true t = Ok void_pointer
cast_type line false t = after (type_of line t) (λ r. Ok r.ty)

-- the names in the type were looked up
unfoldable pub cast_with : Around → (line : ℕ) → e.CType → Option Resolved → Operand → Answer Operand
cast_with c line type t x = after (is_void_pointer c.file line type) (λ p. after (cast_type line p t) (λ to. cast c.model line to p x))

-- ---- labels

unfoldable pub labelled_by : (line : ℕ) → Option Label → Operand → Answer Operand
labelled_by line (Some l) x = labelled l x
labelled_by line None x = misshapen line
