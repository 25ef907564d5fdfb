-- Operands of the same types serve an operator alike, in each scope where no less is known; and temporaries of known kinds.
use Rattle.std.proofs.Common.{◌≡◌, ℕ, zero, suc, true, if◌then◌else◌, List, [], ◌∷◌, Option, Some, None, refl, sym, ap, ◌∙◌, subst}
use Rattle.wp_base.specs.declared.kinds.CellKind.{CellKind}
use Rattle.typed_prog.specs.declared.types.CoreType.{CoreType}
use Rattle.typed_prog.specs.declared.operators.Op.{Op}
use Rattle.typed_prog.specs.declared.operators.Op.TheVariants as op
use Rattle.typed_prog.specs.declared.operators.Path.{Path}
use Rattle.typed_prog.specs.declared.operators.Root.{Root}
use Rattle.typed_prog.specs.declared.operators.Root.TheVariants as root
use Rattle.typed_prog.specs.declared.operators.Step.{Step}
use Rattle.typed_prog.specs.declared.operators.Variable as code
use Rattle.typed_prog.specs.declared.operators.Variable.TheVariants as variable
use Rattle.typed_prog.specs.Tree as t
use Rattle.c_runs.specs.Program.{Variable, Facts}
use Rattle.c_runs.specs.Objects.{plain_root}
use Rattle.value_terms.specs.Readings.{plain_global}
use Rattle.value_terms.specs.Typed.{Scope, kind_given, operand_kind, second_is, VariableIs, HasBlock, ObjectIsTyped, CellIsTyped, ReadIsTyped, StartIsTyped, OpIsTyped}
use Rattle.typed_runs.specs.Fitting.{Shape, ArgumentsAre}

-- ---- operands of the same types

abbrev pub SameTypes : t.Values → t.Values → Type 0
SameTypes t.stop t.stop = Unit {0}
SameTypes (t.more a as_) (t.more b bs) = (t.type_of a ≡ t.type_of b) × SameTypes as_ bs
SameTypes t.stop (t.more b bs) = ⊥
SameTypes (t.more a as_) t.stop = ⊥

pub types_same : (es : t.Values) → SameTypes es es
types_same t.stop = tt
types_same (t.more e es) = (refl, types_same es)

pub same_kind : (as_ bs : t.Values) → SameTypes as_ bs → (i : ℕ) → operand_kind as_ i ≡ operand_kind bs i
same_kind t.stop t.stop h i = refl
same_kind t.stop (t.more b bs) h i = elim h [ ]
same_kind (t.more a as_) t.stop h i = elim h [ ]
same_kind (t.more a as_) (t.more b bs) h zero = ap kind_given h.0
same_kind (t.more a as_) (t.more b bs) h (suc i) = same_kind as_ bs h.1 i

pub arguments_same : (p : Facts) (s s' : Shape) (n : ℕ) (xs : List Variable) (as_ bs : t.Values) → SameTypes as_ bs → ArgumentsAre p s n xs as_ → ArgumentsAre p s' n xs bs
arguments_same p s s' zero xs t.stop t.stop same h = tt
arguments_same p s s' zero xs t.stop (t.more b bs) same h = elim same [ ]
arguments_same p s s' zero [] (t.more a as_) bs same h = elim h [ ]
arguments_same p s s' zero (x ∷ xs) (t.more a as_) bs same h = elim h [ ]
arguments_same p s s' (suc n) [] as_ bs same h = elim h [ ]
arguments_same p s s' (suc n) (x ∷ xs) t.stop bs same h = elim h [ ]
arguments_same p s s' (suc n) (x ∷ xs) (t.more a as_) t.stop same h = elim same [ ]
arguments_same p s s' (suc n) (x ∷ xs) (t.more a as_) (t.more b bs) same h = (ap kind_given (sym same.0) ∙ h.0, arguments_same p s s' n xs as_ bs same.1 h.1)

-- ---- where no less is known

-- of blocks, kinds of cells and variables
pub record NoLess (s s' : Scope) : Type 0 where
  pub blocks : s.has_blocks ≡ true → s'.has_blocks ≡ true
  pub kinds : (k : CellKind) → s.has_kind k ≡ true → s'.has_kind k ≡ true
  pub declared : (x : ℕ) → s.is_declared x ≡ true → s'.is_declared x ≡ true

module _ (p : Facts) (xs : List Variable) (s s' : Scope) (less : NoLess s s') where
  variable_kept : (x : code.Variable) (v : Variable) → VariableIs p xs s x v → VariableIs p xs s' x v
  variable_kept (variable.Global x) v h = h
  variable_kept (variable.Local x) v h = (h.0, less.declared x h.1)

  abbrev block_kept : (x : code.Variable) → HasBlock p xs s x → HasBlock p xs s' x
  block_kept x h = record { variable = h.variable; is = variable_kept x h.variable h.is; block = h.block }

  pub object_kept : (r : Root) (ss : List Step) (k : CellKind) → ObjectIsTyped p xs s r ss k → ObjectIsTyped p xs s' r ss k
  object_kept (root.Variable x) ss k h = (block_kept x h.0, h.1)
  object_kept (root.Pointed n) ss k h = tt

  cell_kept : (o : Option ℕ) (r : Root) (ss : List Step) (k : CellKind) → CellIsTyped p xs s o r ss k → CellIsTyped p xs s' o r ss k
  cell_kept (Some x) r ss k h = h
  cell_kept None r ss k h = (less.blocks h.0, less.kinds k h.1, object_kept r ss k h.2)

  read_kept : (o : Option ℕ) (type : CoreType) (path : Path) → ReadIsTyped p xs s o type path → ReadIsTyped p xs s' o type path
  read_kept (Some x) type path h = record { variable = h.variable; found = h.found; declared = less.declared x h.declared; kind = h.kind }
  read_kept None type path h = (h.0, cell_kept (plain_global p.globals path.root) path.root path.steps (kind_given type) h.1)

  start_kept : (r : Root) (as_ bs : t.Values) → SameTypes as_ bs → StartIsTyped p xs s r as_ → StartIsTyped p xs s' r bs
  start_kept (root.Variable x) as_ bs same h = block_kept x h
  start_kept (root.Pointed n) as_ bs same h = sym (same_kind as_ bs same n) ∙ h

  pub op_kept : (type : CoreType) (o : Op) (as_ bs : t.Values) → SameTypes as_ bs → OpIsTyped p xs s type o as_ → OpIsTyped p xs s' type o bs
  op_kept type (op.Read path) as_ bs same h = read_kept (plain_root xs path.root) type path h
  op_kept type (op.Address path accessed) as_ bs same h = (h.0, less.blocks h.1, start_kept path.root as_ bs same h.2)
  op_kept type (op.Decay path accessed) as_ bs same h = (h.0, less.blocks h.1, start_kept path.root as_ bs same h.2)
  op_kept type op.Negate as_ bs same h = (h.0, sym (same_kind as_ bs same 0) ∙ h.1)
  op_kept type op.Complement as_ bs same h = (h.0, sym (same_kind as_ bs same 0) ∙ h.1)
  op_kept type op.Not as_ bs same h = h
  op_kept type (op.Arithmetic o) as_ bs same h =
      (h.0, sym (same_kind as_ bs same 0) ∙ h.1, subst (second_is o (kind_given type)) (same_kind as_ bs same 1) h.2)
  op_kept type (op.Compare c) as_ bs same h = h
  op_kept type (op.ComparePointers c) as_ bs same h = (h.0, less.blocks h.1)
  op_kept type (op.Offset minus index_first size accessed) as_ bs same h =
      (h.0, less.blocks h.1, sym (same_kind as_ bs same (if index_first then 1 else 0)) ∙ h.2)
  op_kept type (op.Difference size) as_ bs same h = (h.0, less.blocks h.1, h.2)
  op_kept type op.Convert as_ bs same h = h
  op_kept type op.Requalify as_ bs same h = sym (same_kind as_ bs same 0) ∙ h
  op_kept type op.Cast as_ bs same h = h
