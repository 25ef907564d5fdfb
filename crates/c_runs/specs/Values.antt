-- The value of an expression whose effect is done, if it has one, or the undefined behaviour that its evaluation meets first (C11 6.5). Operands are
-- evaluated from left to right.
use Rattle.std.specs.Prelude.{ℕ, Bool, true, false, not, ◌||◌, if◌then◌else◌, ℤ, pos, List, [], ◌∷◌, Option, Some, None}
use Rattle.std.specs.Option.{unwrap_or}
use Rattle.wp_base.specs.declared.kinds.Kind.{Kind}
use Rattle.wp_base.specs.declared.kinds.Kind.TheVariants as kind
use Rattle.c_kinds.specs.Models.{convert}
use Rattle.typed_prog.specs.declared.types.CoreType.{CoreType}
use Rattle.typed_prog.specs.declared.operators.Connective.{Connective}
use Rattle.typed_prog.specs.declared.operators.Connective.TheVariants as connective
use Rattle.typed_prog.specs.declared.operators.Op.{Op}
use Rattle.typed_prog.specs.declared.operators.Op.TheVariants as op
use Rattle.typed_prog.specs.Types.{kind_of}
use Rattle.typed_prog.specs.Tree as t
use Rattle.c_runs.specs.TruthStates.{Value, number, null, number_of}
use Rattle.c_runs.specs.Truth.{compare, moved_by, first, second}
use Rattle.c_runs.specs.Program.{Facts, Variable}
use Rattle.c_runs.specs.States.{World, is_nonzero}
use Rattle.c_runs.specs.Operators.{Undefined, Val, is, wrong, then_val, truth_number, computed, negated, complement, compared, subtracted, pointed_unless}
use Rattle.c_runs.specs.Objects.{read, address_made}

-- ---- effects in an expression

abbrev mutual
  -- an assignment, an increment or a call stands in it
  pub node_has_effect : t.ValueNode → Bool
  node_has_effect (t.constant z) = false
  node_has_effect t.null = false
  node_has_effect (t.temporary n) = false
  node_has_effect (t.apply o es) = have_effect es
  node_has_effect (t.logic c a b) = has_effect a || has_effect b
  node_has_effect (t.choose c a b) = has_effect c || has_effect a || has_effect b
  node_has_effect (t.effect e es) = true

  pub has_effect : t.Value → Bool
  has_effect (t.typed node type line) = node_has_effect node

  pub have_effect : t.Values → Bool
  have_effect t.stop = false
  have_effect (t.more e es) = has_effect e || have_effect es

-- ---- operators

-- the kind of an integer; a value that is none has no use for it
abbrev pub kind_at : CoreType → Kind
kind_at type = unwrap_or (kind_of type) kind.Int

-- moved by the integer, which is the second operand or the first
abbrev pub moved_in : (index_first minus : Bool) → (size : ℕ) → List Value → Value
moved_in true minus size vs = moved_by minus size (second vs) (first vs)
moved_in false minus size vs = moved_by minus size (first vs) (second vs)

-- to an integer kind; what is cast to `void` is of no use
abbrev pub converted : Facts → CoreType → Value → Value
converted p type v = number (convert p.model (kind_at type) (number_of v))

-- what an operation of this type and line gives for the values of its operands
unfoldable pub applied : Facts → List Variable → World → CoreType → (line : ℕ) → Op → List Value → Val
applied p xs w type l (op.Read path) vs = read p xs w type path vs
applied p xs w type l (op.Address path accessed) vs = address_made p w accessed path vs
applied p xs w type l (op.Decay path accessed) vs = address_made p w accessed path vs
applied p xs w type l op.Negate vs = negated p.model (kind_at type) l (number_of (first vs))
applied p xs w type l op.Complement vs = is (number (complement p.model (kind_at type) (number_of (first vs))))
applied p xs w type l op.Not vs = is (truth_number (not (is_nonzero (first vs))))
applied p xs w type l (op.Arithmetic o) vs = computed p.model (kind_at type) l o (number_of (first vs)) (number_of (second vs))
applied p xs w type l (op.Compare c) vs = is (truth_number (compare c (number_of (first vs)) (number_of (second vs))))
applied p xs w type l (op.ComparePointers c) vs = compared w.memory.blocks l c (first vs) (second vs)
applied p xs w type l (op.Offset minus index_first size accessed) vs = pointed_unless accessed w.memory.blocks l (moved_in index_first minus size vs)
applied p xs w type l (op.Difference size) vs = subtracted w.memory.blocks l size (first vs) (second vs)
applied p xs w type l op.Convert vs = is (converted p type (first vs))
applied p xs w type l op.Requalify vs = is (first vs)
applied p xs w type l op.Cast vs = is (converted p type (first vs))

-- ---- lists of operands

pub data Vals : Type 0 where
  are : (vs : List Value) → Vals
  wrongs : (u : Undefined) (line : ℕ) → Vals

abbrev pub push_val : Val → Vals → Vals
push_val (is v) (are vs) = are (v ∷ vs)
push_val (is v) (wrongs u l) = wrongs u l
push_val (wrong u l) vs = wrongs u l

abbrev pub with_vals : Vals → (List Value → Val) → Val
with_vals (are vs) go = go vs
with_vals (wrongs u l) go = wrong u l

-- ---- `&&`, `||` and `?:` (C11 6.5.13 to 6.5.15)

-- the truth of the first operand that decides
abbrev pub decides : Connective → Bool
decides connective.And = false
decides connective.Or = true

abbrev pub agree : Bool → Bool → Bool
agree true b = b
agree false b = not b

abbrev pub logic_of : Connective → Val → Val → Val
logic_of c a b =
    then_val a (λ x. if agree (decides c) (is_nonzero x) then is (truth_number (decides c)) else then_val b (λ y. is (truth_number (is_nonzero y))))

abbrev pub choice_of : Val → Val → Val → Val
choice_of c a b = then_val c (λ x. if is_nonzero x then a else b)

-- ---- expressions

-- what temporaries of a core program hold
abbrev pub Temps : Type 0
Temps = ℕ → Value

module _ (p : Facts) (xs : List Variable) where
  abbrev mutual
    -- The value in a world in which the effect in the expression was done and gave `done`. An effect that a choice or a connective decides about was
    -- done with the whole of it.
    pub node_value : Temps → (done : Value) → World → CoreType → (line : ℕ) → t.ValueNode → Val
    node_value tm d w type l (t.constant z) = is (number z)
    node_value tm d w type l t.null = is null
    node_value tm d w type l (t.temporary n) = is (tm n)
    node_value tm d w type l (t.apply o es) = with_vals (values tm d w es) (applied p xs w type l o)
    node_value tm d w type l (t.logic c a b) = if has_effect b then is d else logic_of c (value tm d w a) (value tm d w b)
    node_value tm d w type l (t.choose c a b) =
        if has_effect a || has_effect b then is d else choice_of (value tm d w c) (value tm d w a) (value tm d w b)
    node_value tm d w type l (t.effect e es) = is d

    pub value : Temps → (done : Value) → World → t.Value → Val
    value tm d w (t.typed node type line) = node_value tm d w type line node

    pub values : Temps → (done : Value) → World → t.Values → Vals
    values tm d w t.stop = are []
    values tm d w (t.more e es) = push_val (value tm d w e) (values tm d w es)
