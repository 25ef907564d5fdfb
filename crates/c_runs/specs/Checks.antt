-- The checks of an expression of a core program: each place where its value may be undefined, in the order in which its evaluation comes to them.
use Rattle.std.specs.Prelude.{ℕ, zero, suc, Bool, true, false, not, ◌&&◌, ◌||◌, if◌then◌else◌, ℤ, pos, negsuc, List, [], ◌∷◌, ◌++◌, map, Option, Some, None}
use Rattle.wp_base.specs.declared.kinds.Kind.{Kind}
use Rattle.wp_base.specs.Kinds.{is_signed}
use Rattle.typed_prog.specs.declared.types.CoreType.{CoreType}
use Rattle.typed_prog.specs.declared.operators.Arithmetic.{Arithmetic}
use Rattle.typed_prog.specs.declared.operators.Arithmetic.TheVariants as ar
use Rattle.typed_prog.specs.declared.operators.Op.{Op}
use Rattle.typed_prog.specs.declared.operators.Op.TheVariants as op
use Rattle.typed_prog.specs.declared.operators.Path.{Path}
use Rattle.typed_prog.specs.declared.operators.Step.{Step}
use Rattle.typed_prog.specs.declared.operators.Step.TheVariants as step
use Rattle.typed_prog.specs.Tree as t
use Rattle.qed_terms.specs.Operators.{is_zero, is_equal}
use Rattle.c_runs.specs.Program.{Variable}
use Rattle.c_runs.specs.Operators.{Undefined, init, overflow, divzero, shift, access, index, pointing, comparing, is_order}
use Rattle.c_runs.specs.Objects.{plain_root, has_value, is_pointed, is_sure}
use Rattle.c_runs.specs.Values.{kind_at}

-- A check: what may be undefined, the line, the way from the whole expression to the operation, by the numbers of operands, and of a check of an index the
-- number of its step.
pub record Check : Type 0 where
  pub kind : Undefined
  pub line : ℕ
  pub step : ℕ
  pub way : List ℕ

abbrev pub here : Undefined → (line : ℕ) → Check
here u l = record { kind = u; line = l; step = 0; way = [] }

abbrev pub one_if : Bool → Undefined → (line : ℕ) → List Check
one_if true u l = here u l ∷ []
one_if false u l = []

-- ---- objects

-- the index of each declared array on a way; the next step has this number
abbrev pub index_checks : (number : ℕ) → List Step → List Check
index_checks n [] = []
index_checks n (step.Element operand size count line ∷ ss) = record { kind = index; line = line; step = n; way = [] } ∷ index_checks (suc n) ss
index_checks n (step.Field number offset ∷ ss) = index_checks (suc n) ss
index_checks n (step.Moved operand size ∷ ss) = index_checks (suc n) ss

abbrev pub read_checks_by : Option ℕ → List Variable → Path → List Check
read_checks_by (Some x) xs path = one_if (not (has_value xs x)) init path.line
read_checks_by None xs path = index_checks 0 path.steps ++ one_if (is_pointed path.root) access path.line

abbrev pub read_checks : List Variable → Path → List Check
read_checks xs path = read_checks_by (plain_root xs path.root) xs path

-- a pointer that is made and not at once followed
abbrev pub address_checks : (accessed : Bool) → Path → List Check
address_checks accessed path = one_if (not (accessed || is_sure path.steps)) pointing path.line

-- ---- integers

-- the second operand, where it is a number as spelled
abbrev pub constant_of : t.ValueNode → Option ℤ
constant_of (t.constant z) = Some z
constant_of _ = None

abbrev pub second_constant : t.Values → Option ℤ
second_constant (t.more a (t.more b es)) = constant_of (t.node_of b)
second_constant _ = None

-- a divisor that may be 0, and one that may be -1 or 0
abbrev pub may_be_zero : Option ℤ → Bool
may_be_zero None = true
may_be_zero (Some z) = is_zero z

abbrev pub may_be_minus_one : Option ℤ → Bool
may_be_minus_one None = true
may_be_minus_one (Some z) = is_zero z || is_equal z (negsuc 0)

abbrev pub division_checks : (signed : Bool) → (line : ℕ) → (divisor : Option ℤ) → List Check
division_checks signed l u = one_if (may_be_zero u) divzero l ++ one_if (signed && may_be_minus_one u) overflow l

abbrev pub arithmetic_checks : (signed : Bool) → (line : ℕ) → Arithmetic → (second : Option ℤ) → List Check
arithmetic_checks signed l ar.Mul u = one_if signed overflow l
arithmetic_checks signed l ar.Add u = one_if signed overflow l
arithmetic_checks signed l ar.Sub u = one_if signed overflow l
arithmetic_checks signed l ar.Div u = division_checks signed l u
arithmetic_checks signed l ar.Rem u = division_checks signed l u
arithmetic_checks signed l ar.Shl u = here shift l ∷ one_if signed overflow l
arithmetic_checks signed l ar.Shr u = here shift l ∷ []
arithmetic_checks signed l o u = []

-- ---- operators

-- those of an operation of this type and line itself, behind those of its operands
abbrev pub op_checks : List Variable → CoreType → (line : ℕ) → Op → t.Values → List Check
op_checks xs type l (op.Read path) es = read_checks xs path
op_checks xs type l (op.Address path accessed) es = address_checks accessed path
op_checks xs type l (op.Decay path accessed) es = address_checks accessed path
op_checks xs type l op.Negate es = one_if (is_signed (kind_at type)) overflow l
op_checks xs type l (op.Arithmetic o) es = arithmetic_checks (is_signed (kind_at type)) l o (second_constant es)
op_checks xs type l (op.ComparePointers c) es = one_if (is_order c) comparing l
op_checks xs type l (op.Offset minus index_first size accessed) es = one_if (not accessed) pointing l
op_checks xs type l (op.Difference size) es = here comparing l ∷ []
op_checks xs type l o es = []

-- ---- expressions

abbrev pub in_operand : ℕ → Check → Check
in_operand i c = record c { way = i ∷ c.way }

-- the same in one operand further on
abbrev pub bump : List ℕ → List ℕ
bump [] = []
bump (i ∷ way) = suc i ∷ way

abbrev pub later : Check → Check
later c = record c { way = bump c.way }

module _ (xs : List Variable) where
  abbrev mutual
    pub node_checks : CoreType → (line : ℕ) → t.ValueNode → List Check
    node_checks type l (t.apply o es) = all_checks es ++ op_checks xs type l o es
    node_checks type l _ = []

    pub checks_of : t.Value → List Check
    checks_of (t.typed node type line) = node_checks type line node

    pub all_checks : t.Values → List Check
    all_checks t.stop = []
    all_checks (t.more e es) = map (in_operand 0) (checks_of e) ++ map later (all_checks es)

-- ---- whether there are some

abbrev pub is_empty : {X : Type 0} → List X → Bool
is_empty [] = true
is_empty (x ∷ xs) = false

module _ (xs : List Variable) where
  abbrev mutual
    pub node_may_fail : CoreType → (line : ℕ) → t.ValueNode → Bool
    node_may_fail type l (t.constant z) = false
    node_may_fail type l t.null = false
    node_may_fail type l (t.temporary n) = false
    node_may_fail type l (t.apply o es) = have_checks es || not (is_empty (op_checks xs type l o es))
    node_may_fail type l _ = true

    pub has_checks : t.Value → Bool
    has_checks (t.typed node type line) = node_may_fail type line node

    pub have_checks : t.Values → Bool
    have_checks t.stop = false
    have_checks (t.more e es) = has_checks e || have_checks es

abbrev mutual
  -- no effect, connective or choice is in it, as in core programs
  pub is_pure_node : t.ValueNode → Bool
  is_pure_node (t.constant z) = true
  is_pure_node t.null = true
  is_pure_node (t.temporary n) = true
  is_pure_node (t.apply o es) = are_pure es
  is_pure_node _ = false

  pub is_pure : t.Value → Bool
  is_pure (t.typed node type line) = is_pure_node node

  pub are_pure : t.Values → Bool
  are_pure t.stop = true
  are_pure (t.more e es) = is_pure e && are_pure es
