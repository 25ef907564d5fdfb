-- The typed form of a predicate, or the first fault in it (ACSL 2.2). Faults come in the order of the text, those inside a predicate before its own;
-- those of binders come before the body under them.
use Rattle.std.specs.Prelude.{ℕ, pos, true, false, Bool, List, [], ◌∷◌, ◌++◌, length, Option, Some, None, Ok, Err}
use Rattle.c_syntax.specs.declared.expr.BinOp.{BinOp}
use Rattle.c_syntax.specs.Term as t
use Rattle.c_syntax.specs.Expr as e
use Rattle.c_syntax.specs.Pred as p
use Rattle.c_answers.specs.Answers.{Answer, after, wrong}
use Rattle.acsl_guards.specs.Guarding.{guards}
use Rattle.acsl_trees.specs.declared.heads.BinderPlace.{BinderPlace}
use Rattle.acsl_trees.specs.declared.heads.Head.{Head}
use Rattle.acsl_trees.specs.declared.heads.Head.TheVariants as head
use Rattle.acsl_trees.specs.declared.heads.Label.{Label}
use Rattle.acsl_trees.specs.declared.operands.TermType.{TermType}
use Rattle.acsl_trees.specs.declared.operands.TermType.TheVariants as type
use Rattle.acsl_trees.specs.declared.operands.Sort.{Sort}
use Rattle.acsl_trees.specs.declared.operands.Sort.TheVariants as sort
use Rattle.acsl_trees.specs.Tree.{Tree, leaf, one, two, three, view_tree}
use Rattle.acsl_trees.specs.Operands.{Operand}
use Rattle.acsl_rules.specs.Values.{valued}
use Rattle.acsl_rules.specs.Chains.{chain}
use Rattle.acsl_names.specs.declared.names.Bound.{Bound}
use Rattle.acsl_names.specs.declared.names.Reading.{Reading}
use Rattle.acsl_names.specs.declared.counting.Limit.{Limit}
use Rattle.acsl_names.specs.declared.counting.Count.{Count}
use Rattle.acsl_names.specs.Names.{Around}
use Rattle.acsl_names.specs.Labels.{old_at, under_if}
use Rattle.acsl_names.specs.Counting.{with_node, ended}
use Rattle.acsl_terms.specs.Leaves.{closed, leafed, misshapen}
use Rattle.acsl_terms.specs.Calls.{called_at}
use Rattle.acsl_terms.specs.Terms.{typed, predicate_call}
use Rattle.acsl_places.specs.Places.{valid_typed, separated_typed}
use Rattle.acsl_preds.specs.declared.binders.Over.{Over}
use Rattle.acsl_preds.specs.declared.lets.LetValue.{LetValue as Code}
use Rattle.acsl_preds.specs.Binders.{inside, with_bound, binders}
use Rattle.acsl_preds.specs.Ranges.{quantified}

-- ---- chains

-- the other terms of a chain, in order
abbrev pub all_typed : Around → Bound → Reading → Count → List t.Term → Answer (List Operand × Count)
all_typed c b r n [] = Ok ([], n)
all_typed c b r n (a ∷ rest) = after (typed c b r n a) (λ x. after (all_typed c b r x.1 rest) (λ xs. Ok (x.0 ∷ xs.0, xs.1)))

-- operands so far, and those to come
abbrev pub onto : List Operand → Answer (List Operand × Count) → Answer (List Operand × Count)
onto xs o = after o (λ ys. Ok (xs ++ ys.0, ys.1))

-- a chain counts where its first comparison stands
abbrev pub chain_from : Around → Bound → Reading → Count → (line : ℕ) → t.Term → List t.Term → List BinOp → Answer (Tree × Count)
chain_from c b r n line a rest ops =
    after (typed c b r n a)
    (λ x. after (onto (x.0 ∷ []) (all_typed c b r (with_node line x.1) rest)) (λ xs. closed x.1.limit (with_node line x.1).limit xs.1 (chain line xs.0 ops)))

unfoldable pub chain_typed : Around → Bound → Reading → Count → (line : ℕ) → List t.Term → List BinOp → Answer (Tree × Count)
chain_typed c b r n line [] ops = leafed line n (chain line [] ops)
chain_typed c b r n line (a ∷ rest) ops = chain_from c b r n line a rest ops

-- ---- `\let`

abbrev pub type_of : Sort → TermType
type_of (sort.Integer known) = type.Integer
type_of (sort.Pointer t null) = type.Pointer t
type_of sort.Unknown = type.Unknown
type_of (sort.Object t label) = type.Unknown

-- the value, and whether it has one that a name may stand for: a struct has none, which is a fault behind the predicate
pub record LetValue : Type 0 where
  pub tree : Tree
  pub type : TermType
  pub is_value : Bool

abbrev pub view_let : Code → LetValue
view_let x = record { tree = view_tree x.tree; type = x.ty; is_value = x.is_value }

abbrev pub let_by : Answer Operand → LetValue
let_by (Ok v) = record { tree = v.tree; type = type_of v.sort; is_value = true }
let_by (Err r) = record { tree = leaf head.Null; type = type.Unknown; is_value = false }

abbrev pub let_value : (line : ℕ) → Operand → LetValue
let_value line x = let_by (valued line x)

abbrev pub let_tree : (line : ℕ) → (has_value : Bool) → (value body : Tree) → Answer Tree
let_tree line true v t = Ok (two head.Let v t)
let_tree line false v t = wrong line

-- ---- labels

abbrev pub labelled : (line : ℕ) → Option Label → Tree → Answer Tree
labelled line (Some l) t = Ok (one (head.At l) t)
labelled line None t = misshapen line

-- ---- truths

abbrev pub number : (is_true : Bool) → Tree
number true = leaf (head.Number (pos 1))
number false = leaf (head.Number (pos 0))

-- ---- predicates

-- the binders of a quantifier, whose faults stand behind it and before its body
abbrev pub binders_typed : Around → Bound → Limit → (for_all : Bool) → List e.VarDecl → p.Pred → Answer (List Over × Bound)
binders_typed c b at a ds body = ended at at at (binders c (inside b) ds (guards a ds body))

-- where a quantifier on this line stands, behind what was counted: its own node is counted too
abbrev pub place_at : (line : ℕ) → Count → BinderPlace
place_at line n = record { line = line; node = (with_node line n).weight.own }

abbrev pub truth_typed : Count → (line : ℕ) → (is_true : Bool) → Answer (Tree × Count)
truth_typed n line is_true = leafed line n (Ok (number is_true))

abbrev mutual
  pub typed_pred : Around → Bound → Reading → Count → p.Pred → Answer (Tree × Count)
  typed_pred c b r n (p.always line) = leafed line n (Ok (number true))
  typed_pred c b r n (p.never line) = leafed line n (Ok (number false))
  typed_pred c b r n (p.chain line ts ops) = chain_typed c b r n line ts ops
  typed_pred c b r n (p.valid line a) = valid_typed c b r n line true a
  typed_pred c b r n (p.valid_read line a) = valid_typed c b r n line false a
  typed_pred c b r n (p.separated line ts) = separated_typed c b r n line ts
  typed_pred c b r n (p.call line f args) = predicate_call c b r n line (t.terms_of args) (called_at c b false (length args) f)
  typed_pred c b r n (p.not_of line a) = after (typed_pred c b r (with_node line n) a) (λ x. Ok (one head.Not x.0, x.1))
  typed_pred c b r n (p.old line a) =
      after (typed_pred c b (under_if (old_at c.site) r) (with_node line n) a) (λ x. closed n.limit (with_node line n).limit x.1 (labelled line (old_at c.site) x.0))
  typed_pred c b r n (p.and_of line a d) = after (typed_pred c b r n a) (λ x. after (typed_pred c b r (with_node line x.1) d) (λ y. Ok (two head.And x.0 y.0, y.1)))
  typed_pred c b r n (p.xor_of line a d) = after (typed_pred c b r n a) (λ x. after (typed_pred c b r (with_node line x.1) d) (λ y. Ok (two head.Xor x.0 y.0, y.1)))
  typed_pred c b r n (p.or_of line a d) = after (typed_pred c b r n a) (λ x. after (typed_pred c b r (with_node line x.1) d) (λ y. Ok (two head.Or x.0 y.0, y.1)))
  typed_pred c b r n (p.implies line a d) = after (typed_pred c b r n a) (λ x. after (typed_pred c b r (with_node line x.1) d) (λ y. Ok (two head.Implies x.0 y.0, y.1)))
  typed_pred c b r n (p.iff line a d) = after (typed_pred c b r n a) (λ x. after (typed_pred c b r (with_node line x.1) d) (λ y. Ok (two head.Iff x.0 y.0, y.1)))
  typed_pred c b r n (p.cond line test a d) =
      after (typed_pred c b r n test) (λ x. after (typed_pred c b r (with_node line x.1) a) (λ y. after (typed_pred c b r y.1 d) (λ z. Ok (three head.Choose x.0 y.0 z.0, z.1))))
  typed_pred c b r n (p.let_in line x value a) =
      after (typed c b r (with_node line n) value) (λ v. after (typed_pred c (with_bound (inside b) x (let_value line v.0).type) r v.1 a)
      (λ t. closed n.limit (with_node line n).limit t.1 (let_tree line (let_value line v.0).is_value (let_value line v.0).tree t.0)))
  typed_pred c b r n (p.for_all line ds a) =
      after (binders_typed c b (with_node line n).limit true ds a) (λ o. after (typed_pred c o.1 r (with_node line n) a) (λ t. Ok (quantified (place_at line n) true o.0 t.0, t.1)))
  typed_pred c b r n (p.for_some line ds a) =
      after (binders_typed c b (with_node line n).limit false ds a) (λ o. after (typed_pred c o.1 r (with_node line n) a) (λ t. Ok (quantified (place_at line n) false o.0 t.0, t.1)))

-- what stands between two predicates
abbrev pub two_typed : Around → Bound → Reading → Count → (line : ℕ) → Head → p.Pred → p.Pred → Answer (Tree × Count)
two_typed c b r n line h a d = after (typed_pred c b r n a) (λ x. after (typed_pred c b r (with_node line x.1) d) (λ y. Ok (two h x.0 y.0, y.1)))

-- a quantifier
abbrev pub quantifier_typed : Around → Bound → Reading → Count → (line : ℕ) → (for_all : Bool) → List e.VarDecl → p.Pred → Answer (Tree × Count)
quantifier_typed c b r n line a ds body =
    after (binders_typed c b (with_node line n).limit a ds body) (λ o. after (typed_pred c o.1 r (with_node line n) body) (λ t. Ok (quantified (place_at line n) a o.0 t.0, t.1)))
