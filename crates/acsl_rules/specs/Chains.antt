-- Chains of comparisons (ACSL 2.2.1): each term but the first is compared with the one before.
use Rattle.std.specs.Prelude.{ℕ, Bool, true, false, ◌&&◌, if◌then◌else◌, List, [], ◌∷◌, ◌++◌, reverse, Option, Some, None, Ok}
use Rattle.c_syntax.specs.declared.expr.BinOp.{BinOp}
use Rattle.c_syntax.specs.declared.expr.BinOp.TheVariants as bin
use Rattle.c_answers.specs.Answers.{Answer, wrong, after}
use Rattle.typed_prog.specs.declared.operators.Comparison.{Comparison}
use Rattle.typed_prog.specs.declared.operators.Comparison.TheVariants as cmp
use Rattle.typed_prog.specs.Types.{void, pointer_to}
use Rattle.acsl_trees.specs.declared.heads.Head.TheVariants as head
use Rattle.acsl_trees.specs.declared.operands.Sort.{Sort}
use Rattle.acsl_trees.specs.declared.operands.Sort.TheVariants as sort
use Rattle.acsl_trees.specs.Tree.{Tree, node, trees_of, leaf, one}
use Rattle.acsl_trees.specs.Operands.{Operand, operand}
use Rattle.acsl_rules.specs.declared.comparisons.Comparing.{Comparing}
use Rattle.acsl_rules.specs.declared.comparisons.Comparing.TheVariants as comparing
use Rattle.acsl_rules.specs.Sorts.{is_pointer, is_null}
use Rattle.acsl_rules.specs.Values.{valued}
use Rattle.acsl_rules.specs.Operators.{ordered, equated}

-- behind those that are there
abbrev pub onto : {X : Type 0} → List X → Answer (List X) → Answer (List X)
onto done o = after o (λ xs. Ok (done ++ xs))

abbrev pub all_valued : (line : ℕ) → List Operand → Answer (List Operand)
all_valued line [] = Ok []
all_valued line (x ∷ xs) = after (valued line x) (λ v. after (all_valued line xs) (λ vs. Ok (v ∷ vs)))

-- ---- operators before the terms that are left

abbrev pub first_op : List BinOp → Option BinOp
first_op [] = None
first_op (o ∷ os) = Some o

abbrev pub other_ops : List BinOp → List BinOp
other_ops [] = []
other_ops (o ∷ os) = os

abbrev pub is_equality : BinOp → Bool
is_equality bin.Equal = true
is_equality bin.NotEqual = true
is_equality _ = false

abbrev pub is_first_equality : Option BinOp → Bool
is_first_equality (Some o) = is_equality o
is_first_equality None = false

-- ---- null

-- Where `==` or `!=` stands between a null pointer constant and a pointer, the constant is null. It is null for both its neighbours then, and a pointer
-- itself: so in `p == 0 == q` both pointers are compared with null, `0 == 0 == p` has two nulls, and `1 == 0 == p` has a fault.
abbrev pub null : Operand
null = operand (leaf head.Null) (sort.Pointer (pointer_to void false) true)

abbrev pub null_beside : (pointer_beside : Bool) → Operand → Operand
null_beside p v = if p && is_null v.sort then null else v

abbrev pub is_beside : Sort → List BinOp → Bool
is_beside s ops = is_pointer s && is_first_equality (first_op ops)

-- null behind a pointer
abbrev pub nulls_behind : (pointer_before : Bool) → List BinOp → List Operand → List Operand
nulls_behind p ops [] = []
nulls_behind p ops (v ∷ vs) = null_beside p v ∷ nulls_behind (is_beside (null_beside p v).sort ops) (other_ops ops) vs

-- behind one and before one
unfoldable pub with_nulls : List BinOp → List Operand → List Operand
with_nulls ops vs = reverse (nulls_behind false (reverse ops) (reverse (nulls_behind false ops vs)))

-- ---- links

abbrev pub comparison_of : BinOp → Option Comparison
comparison_of bin.Less = Some cmp.Less
comparison_of bin.AtMost = Some cmp.AtMost
comparison_of bin.Greater = Some cmp.Greater
comparison_of bin.AtLeast = Some cmp.AtLeast
comparison_of bin.Equal = Some cmp.Equal
comparison_of bin.NotEqual = Some cmp.NotEqual
comparison_of _ = None

abbrev pub both_or_neither : Bool → Bool → Bool
both_or_neither true b = b
both_or_neither false true = false
both_or_neither false false = true

-- No integer is compared with a pointer: a null pointer constant beside one is null by now.
abbrev pub related : BinOp → Sort → Sort → Option Comparing
related o s t = if is_equality o && both_or_neither (is_pointer s) (is_pointer t) then equated s t else ordered s t

abbrev pub link_by : (line : ℕ) → Tree → Option Comparison → Option Comparing → Answer Tree
link_by line t (Some how) (Some comparing.Numbers) = Ok (one (head.Link how) t)
link_by line t (Some how) (Some comparing.Pointers) = Ok (one (head.LinkPointers how) t)
link_by line t (Some how) None = wrong line
link_by line t None c = wrong line

-- a term, behind one of this sort and the operator
abbrev pub link : (line : ℕ) → Option BinOp → Sort → Operand → Answer Tree
link line (Some o) s v = link_by line v.tree (comparison_of o) (related o s v.sort)
link line None s v = wrong line

abbrev pub links : (line : ℕ) → Sort → List BinOp → List Operand → Answer (List Tree)
links line s ops [] = Ok []
links line s ops (v ∷ vs) = after (link line (first_op ops) s v) (λ t. after (links line v.sort (other_ops ops) vs) (λ ts. Ok (t ∷ ts)))

abbrev pub chained : (line : ℕ) → List BinOp → List Operand → Answer Tree
chained line ops [] = Ok (leaf head.Chain)
chained line ops (v ∷ vs) = after (onto (v.tree ∷ []) (links line v.sort ops vs)) (λ ts. Ok (node head.Chain (trees_of ts)))

-- the operators stand between the terms, one fewer than there are terms
unfoldable pub chain : (line : ℕ) → List Operand → List BinOp → Answer Tree
chain line xs ops = after (all_valued line xs) (λ vs. chained line ops (with_nulls ops vs))
