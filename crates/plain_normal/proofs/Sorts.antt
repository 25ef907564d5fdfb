-- Operands of the same types serve an operator alike; and temporaries of known kinds.
use Rattle.std.proofs.Common.{◌≡◌, ℕ, zero, suc, ◌<◌, false, if◌then◌else◌, List, Option, Some, None, refl, sym, ap, ◌∙◌, subst}
use Rattle.std.proofs.lemmas.Bool.{false≢true, lt-ltb}
use Rattle.wp_base.specs.declared.kinds.CellKind.{CellKind}
use Rattle.wp_base.specs.declared.kinds.CellKind.TheVariants as cell
use Rattle.typed_prog.specs.declared.types.CoreType.{CoreType}
use Rattle.typed_prog.specs.declared.operators.Arithmetic.{Arithmetic}
use Rattle.typed_prog.specs.declared.operators.Op.{Op}
use Rattle.typed_prog.specs.declared.operators.Op.TheVariants as op
use Rattle.typed_prog.specs.declared.operators.Path.{Path}
use Rattle.typed_prog.specs.declared.operators.Root.{Root}
use Rattle.typed_prog.specs.declared.operators.Step.{Step}
use Rattle.typed_prog.specs.Types.{is_pointer}
use Rattle.typed_prog.specs.Tree as t
use Rattle.c_runs.specs.Program.{Variable, Facts}
use Rattle.c_runs.specs.Objects.{plain_root}
use Rattle.c_runs.specs.Values.{kind_at}
use Rattle.plain_runs.specs.Fitting.{Shape}
use Rattle.plain_typing.specs.Laws.{scope_of, count_of}
use Rattle.value_terms.specs.Readings.{plain_global}
use Rattle.value_terms.specs.Typed.{given_by, kind_given, operand_kind, second_is, CellIsTyped, ReadIsTyped, OpIsTyped, IsTyped}
use Rattle.plain_normal.specs.Plain.{anywhere}

-- the kind of what is no pointer
pub integer_given : (type : CoreType) → is_pointer type ≡ false → kind_given type ≡ cell.Of (kind_at type)
integer_given type h = ap (λ b. given_by b (kind_at type)) h

-- ---- operands of the same types

abbrev pub SameTypes : t.Values → t.Values → Type 0
SameTypes t.stop t.stop = Unit {0}
SameTypes (t.more a as_) (t.more b bs) = (t.type_of a ≡ t.type_of b) × SameTypes as_ bs
SameTypes t.stop (t.more b bs) = ⊥
SameTypes (t.more a as_) t.stop = ⊥

pub same_count : (as_ bs : t.Values) → SameTypes as_ bs → count_of as_ ≡ count_of bs
same_count t.stop t.stop h = refl
same_count t.stop (t.more b bs) h = elim h [ ]
same_count (t.more a as_) t.stop h = elim h [ ]
same_count (t.more a as_) (t.more b bs) h = ap suc (same_count as_ bs h.1)

pub same_kind : (as_ bs : t.Values) → SameTypes as_ bs → (i : ℕ) → operand_kind as_ i ≡ operand_kind bs i
same_kind t.stop t.stop h i = refl
same_kind t.stop (t.more b bs) h i = elim h [ ]
same_kind (t.more a as_) t.stop h i = elim h [ ]
same_kind (t.more a as_) (t.more b bs) h zero = ap kind_given h.0
same_kind (t.more a as_) (t.more b bs) h (suc i) = same_kind as_ bs h.1 i

second_same : (o : Arithmetic) (k l m : CellKind) → l ≡ m → second_is o k l → second_is o k m
second_same o k l m e h = subst (second_is o k) e h

module _ (p : Facts) (xs : List Variable) (s : Shape) where
  cell_same : (o : Option ℕ) (r : Root) (ss : List Step) (k : CellKind) → CellIsTyped p xs anywhere o r ss k → CellIsTyped p xs (scope_of s) o r ss k
  cell_same (Some x) r ss k h = h
  cell_same None r ss k h = absurd (false≢true h.0)

  read_same : (o : Option ℕ) (type : CoreType) (path : Path) → ReadIsTyped p xs anywhere o type path → ReadIsTyped p xs (scope_of s) o type path
  read_same (Some x) type path h = record { variable = h.variable; found = h.found; declared = refl; kind = h.kind }
  read_same None type path h = (h.0, cell_same (plain_global p.globals path.root) path.root path.steps (kind_given type) h.1)

  -- nothing is asked of blocks
  pub op_same : (type : CoreType) (o : Op) (as_ bs : t.Values) → SameTypes as_ bs → OpIsTyped p xs anywhere type o as_ → OpIsTyped p xs (scope_of s) type o bs
  op_same type (op.Read path) as_ bs same h = read_same (plain_root xs path.root) type path h
  op_same type (op.Address path accessed) as_ bs same h = absurd (false≢true h.1)
  op_same type (op.Decay path accessed) as_ bs same h = absurd (false≢true h.1)
  op_same type op.Negate as_ bs same h = (h.0, sym (same_kind as_ bs same 0) ∙ h.1)
  op_same type op.Complement as_ bs same h = (h.0, sym (same_kind as_ bs same 0) ∙ h.1)
  op_same type op.Not as_ bs same h = h
  op_same type (op.Arithmetic o) as_ bs same h =
      (h.0, sym (same_kind as_ bs same 0) ∙ h.1, second_same o (kind_given type) (operand_kind as_ 1) (operand_kind bs 1) (same_kind as_ bs same 1) h.2)
  op_same type (op.Compare c) as_ bs same h = h
  op_same type (op.ComparePointers c) as_ bs same h = absurd (false≢true h.1)
  op_same type (op.Offset minus index_first size accessed) as_ bs same h = absurd (false≢true h.1)
  op_same type (op.Difference size) as_ bs same h = absurd (false≢true h.1)
  op_same type op.Convert as_ bs same h = h
  op_same type op.Requalify as_ bs same h = sym (same_kind as_ bs same 0) ∙ h
  op_same type op.Cast as_ bs same h = h

  -- ---- temporaries

  pub temporary_typed : (type : CoreType) (n line : ℕ) → is_pointer type ≡ false → n < s.temporaries → s.temp_kind n ≡ kind_at type
      → IsTyped p xs (scope_of s) (t.typed (t.temporary n) type line)
  temporary_typed type n line number below kind =
      ap (λ b. if b then Some (cell.Of (s.temp_kind n)) else None) (lt-ltb n s.temporaries below) ∙ ap (λ k. Some (cell.Of k)) kind ∙ ap Some (sym (integer_given type number))
