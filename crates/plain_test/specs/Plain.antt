-- Files over integers that no pointer leads to: without pointer, array and struct, and without a variable whose address is taken (C11 6.2.5, 6.5.3.2). For
-- such files programs, runs and goals are proved to fit. Each constant and each label is a number of its kind, as in every typed file (C11 6.4.4.1p5, 6.6p4).
use Rattle.std.specs.Prelude.{ℕ, ℤ, ◌+◌, Bool, true, false, ◌&&◌, ◌||◌, is_some, List, [], ◌∷◌, Option, Some, None, slice_index_or}
use Rattle.std.specs.List.{list_all}
use Rattle.wp_base.specs.declared.kinds.Kind.{Kind}
use Rattle.c_kinds.specs.declared.models.Machdep.{Machdep}
use Rattle.c_kinds.specs.Models.{holds}
use Rattle.typed_prog.specs.declared.types.CoreType.{CoreType}
use Rattle.typed_prog.specs.declared.operators.Change.{Change}
use Rattle.typed_prog.specs.declared.operators.Change.TheVariants as change
use Rattle.typed_prog.specs.declared.operators.Effect.{Effect}
use Rattle.typed_prog.specs.declared.operators.Effect.TheVariants as effect
use Rattle.typed_prog.specs.declared.operators.Op.{Op}
use Rattle.typed_prog.specs.declared.operators.Op.TheVariants as op
use Rattle.typed_prog.specs.declared.operators.Path.{Path}
use Rattle.typed_prog.specs.declared.operators.Root.{Root}
use Rattle.typed_prog.specs.declared.operators.Root.TheVariants as root
use Rattle.typed_prog.specs.declared.operators.Step.{Step}
use Rattle.typed_prog.specs.Types.{kind_of, is_void}
use Rattle.typed_prog.specs.Tree as t
use Rattle.c_scopes.specs.declared.symbols.Object.{Object}
use Rattle.c_scopes.specs.declared.symbols.Signature.{Signature}
use Rattle.typed_unit.specs.Stmt as s
use Rattle.typed_unit.specs.Unit as u

-- ---- types

-- an integer kind
abbrev pub is_integer_type : CoreType → Bool
is_integer_type type = is_some (kind_of type)

-- that of a value; a call of a function without result, and what is cast to `void`, have none
abbrev pub is_value_type : CoreType → Bool
is_value_type type = is_integer_type type || is_void type

-- ---- expressions

abbrev pub is_variable : Root → List Step → Bool
is_variable (root.Variable x) [] = true
is_variable (root.Variable x) (s ∷ ss) = false
is_variable (root.Pointed n) ss = false

-- the way to an object is the name of a variable
abbrev pub is_plain_path : Path → Bool
is_plain_path path = is_variable path.root path.steps

abbrev pub is_plain_op : Op → Bool
is_plain_op (op.Read path) = is_plain_path path
is_plain_op (op.Address path accessed) = false
is_plain_op (op.Decay path accessed) = false
is_plain_op op.Negate = true
is_plain_op op.Complement = true
is_plain_op op.Not = true
is_plain_op (op.Arithmetic o) = true
is_plain_op (op.Compare c) = true
is_plain_op (op.ComparePointers c) = false
is_plain_op (op.Offset minus index_first size accessed) = false
is_plain_op (op.Difference size) = false
is_plain_op op.Convert = true
is_plain_op op.Requalify = false
is_plain_op op.Cast = true

abbrev pub is_integer_change : Change → Bool
is_integer_change (change.Integer o k) = true
is_integer_change (change.Pointer minus size) = false

abbrev pub is_plain_effect : Effect → Bool
is_plain_effect (effect.Assign path) = is_plain_path path
is_plain_effect (effect.Update path by form) = is_plain_path path && is_integer_change by
is_plain_effect (effect.Call n) = true

abbrev pub is_one : t.Values → Bool
is_one (t.more e t.stop) = true
is_one es = false

-- beside the value that a variable gets there is no operand
abbrev pub has_operands : Effect → t.Values → Bool
has_operands (effect.Assign path) es = is_one es
has_operands (effect.Update path by form) es = is_one es
has_operands (effect.Call n) es = true

-- a number of this kind
abbrev pub is_number_of : Machdep → Option Kind → ℤ → Bool
is_number_of m None z = false
is_number_of m (Some k) z = holds m k z

module _ (m : Machdep) where
  abbrev mutual
    pub is_plain_node : CoreType → t.ValueNode → Bool
    is_plain_node type (t.constant z) = is_number_of m (kind_of type) z
    is_plain_node type t.null = false
    is_plain_node type (t.temporary n) = false
    is_plain_node type (t.apply o es) = is_plain_op o && are_plain_values es
    is_plain_node type (t.logic c a b) = is_plain_value a && is_plain_value b
    is_plain_node type (t.choose c a b) = is_plain_value c && (is_plain_value a && is_plain_value b)
    is_plain_node type (t.effect e es) = is_plain_effect e && (has_operands e es && are_plain_values es)

    pub is_plain_value : t.Value → Bool
    is_plain_value (t.typed node type line) = is_value_type type && is_plain_node type node

    pub are_plain_values : t.Values → Bool
    are_plain_values t.stop = true
    are_plain_values (t.more e es) = is_plain_value e && are_plain_values es

  abbrev pub if_plain : Option t.Value → Bool
  if_plain None = true
  if_plain (Some e) = is_plain_value e

  -- ---- statements

  abbrev pub are_plain_turns : s.Turns → Bool
  are_plain_turns turns = if_plain turns.before && (if_plain turns.step && if_plain turns.behind)

  abbrev pub is_plain_declared : s.Declared → Bool
  is_plain_declared d = if_plain d.init

  -- a label is a number of the kind of what is switched over (C11 6.8.4.2p5)
  abbrev pub label_fits : Option Kind → s.Stmt → Bool
  label_fits k (s.case_of line z) = is_number_of m k z
  label_fits k x = true

  abbrev pub labels_fit : Option Kind → s.Stmts → Bool
  labels_fit k s.stop = true
  labels_fit k (s.more x xs) = label_fits k x && labels_fit k xs

  abbrev mutual
    pub is_plain_stmt : s.Stmt → Bool
    is_plain_stmt (s.empty line) = true
    is_plain_stmt (s.expr line e) = is_plain_value e
    is_plain_stmt (s.block line body) = are_plain_stmts body
    is_plain_stmt (s.locals line ds) = list_all is_plain_declared ds
    is_plain_stmt (s.if_else line e a b) = is_plain_value e && (is_plain_stmt a && is_plain_stmt b)
    is_plain_stmt (s.loop_of line annot turns body) = are_plain_turns turns && is_plain_stmt body
    is_plain_stmt (s.switch line e body) = is_plain_value e && (labels_fit (kind_of (t.type_of e)) body && are_plain_stmts body)
    is_plain_stmt (s.case_of line z) = true
    is_plain_stmt (s.default line) = true
    is_plain_stmt (s.break line) = true
    is_plain_stmt (s.continue line) = true
    is_plain_stmt (s.return_of line e) = if_plain e
    is_plain_stmt (s.assert line p) = true

    pub are_plain_stmts : s.Stmts → Bool
    are_plain_stmts s.stop = true
    are_plain_stmts (s.more x xs) = is_plain_stmt x && are_plain_stmts xs

-- ---- variables, from this number on, with what is known of them by their numbers

abbrev pub are_plain_objects : (plain : List Bool) → (number : ℕ) → List Object → Bool
are_plain_objects ps n [] = true
are_plain_objects ps n (o ∷ os) = (slice_index_or ps n false && is_integer_type o.ty) && are_plain_objects ps (n + 1) os

-- ---- files

abbrev pub is_plain_body : Machdep → u.Body → Bool
is_plain_body m b = are_plain_objects b.plain 0 b.locals && is_plain_stmt m b.stmt

abbrev pub is_plain_result : Signature → Bool
is_plain_result g = is_value_type g.result

unfoldable pub is_plain_file : u.Typed → Bool
is_plain_file t = are_plain_objects t.plain 0 t.file.globals && (list_all is_plain_result t.file.functions && list_all (is_plain_body t.model) t.bodies)
