-- Values that spell an expression name local variables in scope, and their ways stay in the variables that they begin at.
use Rattle.std.proofs.Common.{◌≡◌, ℕ, pos, Bool, true, List, [], ◌∷◌, Some, refl}
use Rattle.std.specs.List.{list_all}
use Rattle.c_syntax.specs.Expr as e
use Rattle.typed_prog.specs.declared.types.CoreType.{CoreType}
use Rattle.typed_prog.specs.declared.operators.Effect.TheVariants as effect
use Rattle.typed_prog.specs.declared.operators.Op.{Op}
use Rattle.typed_prog.specs.declared.operators.Op.TheVariants as op
use Rattle.typed_prog.specs.declared.operators.Path.{Path}
use Rattle.typed_prog.specs.declared.operators.Root.{Root}
use Rattle.typed_prog.specs.declared.operators.Root.TheVariants as root
use Rattle.typed_prog.specs.declared.operators.Step.{Step}
use Rattle.typed_prog.specs.declared.operators.Step.TheVariants as step
use Rattle.typed_prog.specs.declared.operators.UpdateForm.TheVariants as form
use Rattle.typed_prog.specs.declared.operators.Variable.TheVariants as variable
use Rattle.typed_prog.specs.Tree as t
use Rattle.c_operands.specs.Conversions.{number_of}
use Rattle.c_exprs.specs.Typing.{Around}
use Rattle.c_runs.specs.Program.{Facts}
use Rattle.c_spelled_back.specs.Ways.{StepsSpell, WaySpells}
use Rattle.c_spelled_back.specs.Spelled.{OpSpells, ValueSpells, NodeSpells, ValuesSpell, BehindOneSpell}
use Rattle.typed_values.specs.Values.{stays, stays_inside, is_in_scope}
use Rattle.typed_runs.specs.Fitting.{Shape}
use Rattle.typed_normal.specs.Spelled.{spelled_scope}
use Rattle.plain_files.proofs.Spelling.{Finds}
use Rattle.kinded_programs.specs.Nodes.{EachNode, EachPart, EachOperand}
use Rattle.kinded_programs.specs.Values.{WayStands, EffectStands}

module _ (p : Facts) (sh : Shape) (g : ℕ → Bool) where
  -- what an operator names is in scope, and what it reads is in its variable
  abbrev pub OpIsScoped : Op → Type 0
  OpIsScoped (op.Read path) = WayStands p sh g path
  OpIsScoped (op.Address path accessed) = WayStands p sh g path
  OpIsScoped (op.Decay path accessed) = WayStands p sh g path
  OpIsScoped op.Negate = Unit {0}
  OpIsScoped op.Complement = Unit {0}
  OpIsScoped op.Not = Unit {0}
  OpIsScoped (op.Arithmetic o) = Unit {0}
  OpIsScoped (op.Compare how) = Unit {0}
  OpIsScoped (op.ComparePointers how) = Unit {0}
  OpIsScoped (op.Offset minus index_first size accessed) = Unit {0}
  OpIsScoped (op.Difference size) = Unit {0}
  OpIsScoped op.Convert = Unit {0}
  OpIsScoped op.Requalify = Unit {0}
  OpIsScoped op.Cast = Unit {0}

  abbrev pub IsScoped : CoreType → t.ValueNode → Type 0
  IsScoped type (t.constant z) = Unit {0}
  IsScoped type t.null = Unit {0}
  IsScoped type (t.temporary n) = Unit {0}
  IsScoped type (t.apply o es) = OpIsScoped o
  IsScoped type (t.logic c a b) = Unit {0}
  IsScoped type (t.choose c a b) = Unit {0}
  IsScoped type (t.effect e es) = EffectStands p sh g e

  abbrev pub Scoped : t.Value → Type 0
  Scoped v = EachNode IsScoped v

  -- the number 1 uses no variable
  one_scoped : (v : t.Value) → number_of v ≡ Some (pos 1) → Scoped v
  one_scoped (t.typed (t.constant z) type l) h = (tt, tt)
  one_scoped (t.typed t.null type l) h = (tt, tt)
  one_scoped (t.typed (t.temporary n) type l) h = (tt, tt)
  one_scoped (t.typed (t.apply o es) type l) h = absurd cc
  one_scoped (t.typed (t.logic c a b) type l) h = absurd cc
  one_scoped (t.typed (t.choose c a b) type l) h = absurd cc
  one_scoped (t.typed (t.effect e es) type l) h = absurd cc

  module _ (c : Around) (finds : Finds c g) where
    -- ---- ways

    steps_stay : (xs : List e.Expr) (ss : List Step) (a x : e.Expr) → StepsSpell c xs ss a x → list_all stays ss ≡ true
    steps_stay xs [] a x h = refl
    steps_stay xs (step.Field number offset ∷ ss) a x h = steps_stay xs ss h.0 x h.2
    steps_stay xs (step.Element operand size count line ∷ ss) a x h = steps_stay xs ss h.0 x h.2
    steps_stay xs (step.Moved operand size ∷ ss) a x h = elim h.1 [ ]

    root_scoped : (xs : List e.Expr) (r : Root) (ss : List Step) (x : e.Expr) → WaySpells c xs r ss x → is_in_scope (spelled_scope p sh g) r ≡ true
    root_scoped xs (root.Variable (variable.Local n)) ss x h = finds h.1 n h.2
    root_scoped xs (root.Variable (variable.Global n)) ss x h = refl
    root_scoped xs (root.Pointed n) ss x h = refl

    way_stays : (xs : List e.Expr) (r : Root) (ss : List Step) (x : e.Expr) → WaySpells c xs r ss x → stays_inside r ss ≡ true
    way_stays xs (root.Variable v) ss x h = steps_stay xs ss (e.name h.0 h.1) x h.3
    way_stays xs (root.Pointed n) ss x h = refl

    way_scoped : (xs : List e.Expr) (path : Path) (x : e.Expr) → WaySpells c xs path.root path.steps x → WayStands p sh g path
    way_scoped xs path x h = (root_scoped xs path.root path.steps x h, way_stays xs path.root path.steps x h)

    -- ---- operators; some expressions are spelled by the operands

    record OpIs (o : Op) (P : List e.Expr → Type 0) : Type 0 where
      pub operands : List e.Expr
      pub spelled : P operands
      pub scoped : OpIsScoped o

    op_is : (o : Op) (P : List e.Expr → Type 0) (type : CoreType) (line : ℕ) (x : e.Expr) → OpSpells c o P type line x → OpIs o P
    op_is (op.Read path) P type line x h = record { operands = h.0; spelled = h.1; scoped = way_scoped h.0 path x h.2.1 }
    op_is (op.Decay path accessed) P type line x h = record { operands = h.0; spelled = h.1; scoped = way_scoped h.0 path x h.2.1 }
    op_is (op.Address path accessed) P type line x h = record { operands = h.0; spelled = h.2; scoped = way_scoped h.0 path h.1 h.3.1 }
    op_is op.Negate P type line x h = record { operands = h.0 ∷ []; spelled = h.1; scoped = tt }
    op_is op.Complement P type line x h = record { operands = h.0 ∷ []; spelled = h.1; scoped = tt }
    op_is op.Not P type line x h = record { operands = h.0 ∷ []; spelled = h.1; scoped = tt }
    op_is (op.Arithmetic o) P type line x h = record { operands = h.0 ∷ h.1 ∷ []; spelled = h.2; scoped = tt }
    op_is (op.Compare o) P type line x h = record { operands = h.0 ∷ h.1 ∷ []; spelled = h.2; scoped = tt }
    op_is (op.ComparePointers o) P type line x h = record { operands = h.0 ∷ h.1 ∷ []; spelled = h.2; scoped = tt }
    op_is (op.Offset minus index_first size accessed) P type line x h = record { operands = h.0 ∷ h.1 ∷ []; spelled = h.2; scoped = tt }
    op_is (op.Difference size) P type line x h = record { operands = h.0 ∷ h.1 ∷ []; spelled = h.2; scoped = tt }
    op_is op.Convert P type line x h = record { operands = x ∷ []; spelled = h; scoped = tt }
    op_is op.Requalify P type line x h = record { operands = x ∷ []; spelled = h; scoped = tt }
    op_is op.Cast P type line x h = record { operands = h.4.0 ∷ []; spelled = h.4.1; scoped = tt }

    -- ---- values

    mutual
      pub value_scoped : (v : t.Value) (x : e.Expr) → ValueSpells c v x → Scoped v
      value_scoped (t.typed node type line) x h = node_scoped node type line h.0 h.3

      node_scoped : (node : t.ValueNode) (type : CoreType) (line : ℕ) (x : e.Expr) → NodeSpells c node type line x → IsScoped type node × EachPart IsScoped node
      node_scoped (t.constant z) type line x h = (tt, tt)
      node_scoped t.null type line x h = (tt, tt)
      node_scoped (t.temporary n) type line x h = (tt, tt)
      node_scoped (t.apply o es) type line x h =
          let r = op_is o (λ xs. ValuesSpell c es xs) type line x h in (r.scoped, values_scoped es r.operands r.spelled)
      node_scoped (t.logic how v w) type line x h = (tt, (value_scoped v h.0 h.2, value_scoped w h.1 h.3))
      node_scoped (t.choose test v w) type line x h = (tt, (value_scoped test h.0 h.3, value_scoped v h.1 h.4, value_scoped w h.2 h.5))
      node_scoped (t.effect (effect.Assign path) es) type line x h = (way_scoped h.1 path h.2 h.4.1, values_scoped es (h.0 ∷ h.1) h.3)
      node_scoped (t.effect (effect.Update path by form.Compound) es) type line x h = (way_scoped h.1 path h.2 h.4.1, values_scoped es (h.0 ∷ h.1) h.3)
      node_scoped (t.effect (effect.Update path by form.Prefix) es) type line x h = (way_scoped h.1 path h.2 h.4.1, behind_one_scoped es h.1 h.3)
      node_scoped (t.effect (effect.Update path by form.Postfix) es) type line x h = (way_scoped h.1 path h.2 h.4.1, behind_one_scoped es h.1 h.3)
      node_scoped (t.effect (effect.Call n) es) type line x h = (tt, values_scoped es (e.list_of h.1) h.3)

      values_scoped : (es : t.Values) (xs : List e.Expr) → ValuesSpell c es xs → EachOperand IsScoped es
      values_scoped t.stop xs h = tt
      values_scoped (t.more v vs) [] h = elim h [ ]
      values_scoped (t.more v vs) (x ∷ xs) h = (value_scoped v x h.0, values_scoped vs xs h.1)

      behind_one_scoped : (es : t.Values) (xs : List e.Expr) → BehindOneSpell c es xs → EachOperand IsScoped es
      behind_one_scoped t.stop xs h = elim h [ ]
      behind_one_scoped (t.more v vs) xs h = (one_scoped v h.0, values_scoped vs xs h.1)
