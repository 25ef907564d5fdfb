-- The typed form of a term, or the first fault in it (ACSL 2.2.2, 2.2.3). Faults come in the order of the text: those inside a node before its own.
-- What a node counts is counted where its first own token stands.
use Rattle.std.specs.Prelude.{ℕ, true, List, [], ◌∷◌, ◌++◌, Option, Some, None, Ok, Err, slice_get}
use Rattle.wp_base.specs.declared.answers.Rule.TheVariants as rule
use Rattle.c_syntax.specs.declared.shapes.terms.TermLeaf.{TermLeaf}
use Rattle.c_syntax.specs.declared.shapes.terms.TermLeaf.TheVariants as leaf
use Rattle.c_syntax.specs.declared.shapes.terms.TermTwo.{TermTwo}
use Rattle.c_syntax.specs.declared.shapes.terms.TermTwo.TheVariants as two
use Rattle.c_syntax.specs.Term as t
use Rattle.c_syntax.specs.Lines.{term_line_of}
use Rattle.c_answers.specs.Answers.{Answer, after, fault, unknown, wrong}
use Rattle.typed_prog.specs.declared.operators.Variable.TheVariants as variable
use Rattle.acsl_trees.specs.declared.heads.Label.{Label}
use Rattle.acsl_trees.specs.declared.operands.TermType.{TermType}
use Rattle.acsl_trees.specs.Tree.{Tree}
use Rattle.acsl_trees.specs.Operands.{Operand, operand}
use Rattle.acsl_rules.specs.Operators.{binary}
use Rattle.acsl_rules.specs.Choices.{conditional}
use Rattle.acsl_rules.specs.Objects.{indexed, field}
use Rattle.acsl_rules.specs.Contexts.{passed}
use Rattle.acsl_names.specs.declared.names.Bound.{Bound}
use Rattle.acsl_names.specs.declared.names.Definition.{Definition}
use Rattle.acsl_names.specs.declared.names.Reading.{Reading}
use Rattle.acsl_names.specs.declared.names.Meaning.{Meaning}
use Rattle.acsl_names.specs.declared.names.Meaning.TheVariants as meaning
use Rattle.acsl_names.specs.declared.counting.Count.{Count}
use Rattle.acsl_names.specs.Names.{Around, meaning_at, type_named}
use Rattle.acsl_names.specs.Labels.{label_at, old_at, under_if}
use Rattle.acsl_names.specs.Counting.{with_node, with_bound, counted, inside_call, ended}
use Rattle.acsl_names.specs.Weights.{with_expanded, count_of}
use Rattle.acsl_terms.specs.declared.calls.Called.{Called}
use Rattle.acsl_terms.specs.declared.calls.Called.TheVariants as called
use Rattle.acsl_terms.specs.Leaves.{closed, leafed, misshapen, number, literal, null, bound_by, object_by, local, result}
use Rattle.acsl_terms.specs.Steps.{prefixed, cast_with, labelled_by}
use Rattle.acsl_terms.specs.Calls.{called_at, called_by, call_tree, sort_called, recursion}

-- ---- arguments

-- these trees, and then those that are typed
abbrev pub behind : List Tree → Answer (List Tree × Count) → Answer (List Tree × Count)
behind vs o = after o (λ ws. Ok (vs ++ ws.0, ws.1))

-- ---- calls, by what typing their arguments for parameters, and alone, gives

abbrev pub ForParams : Type 0
ForParams = Count → List TermType → Answer (List Tree × Count)

-- A call of a function that calls itself isn't expanded.
abbrev pub recursive_call : Around → Count → (line number : ℕ) → t.Terms → ForParams → Option Definition → Answer (Tree × Count)
recursive_call c n line k args each None = leafed line n (wrong line)
recursive_call c n line k args each (Some d) =
    after (each (with_node line n) d.params) (λ vs. closed n.limit (with_node line n).limit vs.1 (recursion c line k args vs.0))

-- the call is counted whole, with its arguments
abbrev pub expanded_count : Around → Bound → Count → (line : ℕ) → Definition → t.Terms → Count
expanded_count c b n line d args = counted line (with_expanded c b d args n.weight) n

abbrev pub expanded_call : Around → Bound → Count → (line number : ℕ) → t.Terms → ForParams → Option Definition → Answer (Tree × Count)
expanded_call c b n line k args each None = leafed line n (wrong line)
expanded_call c b n line k args each (Some d) =
    after (each (inside_call (expanded_count c b n line d args)) d.params)
    (λ vs. closed n.limit (expanded_count c b n line d args).limit (expanded_count c b n line d args) (Ok (call_tree k vs.0)))

-- what isn't declared is a fault at once, and what can't be called so one behind the arguments
abbrev pub call_by : Around → Bound → Count → (line : ℕ) → t.Terms → ForParams → (alone : Count → Answer Count) → Called → Answer (Tree × Count)
call_by c b n line args each alone called.Unknown = leafed line n (unknown line)
call_by c b n line args each alone (called.Wrong r) =
    after (alone (with_node line n)) (λ m. closed n.limit (with_node line n).limit m (Err (fault r line)))
call_by c b n line args each alone (called.Recursive k) = recursive_call c n line k args each (slice_get c.definitions.items k)
call_by c b n line args each alone (called.Expanded k) = expanded_call c b n line k args each (slice_get c.definitions.items k)

-- a call that is a term
abbrev pub as_term : Around → Called → Answer (Tree × Count) → Answer (Operand × Count)
as_term c f tree = after tree (λ v. Ok (operand v.0 (sort_called c.definitions f), v.1))

-- without arguments
abbrev pub alone_tree : Around → Bound → Count → (line : ℕ) → Called → Answer (Tree × Count)
alone_tree c b n line f = call_by c b n line t.stop (λ m params. Ok ([], m)) (λ m. Ok m) f

abbrev pub alone_call : Around → Bound → Count → (line : ℕ) → Called → Answer (Operand × Count)
alone_call c b n line f = as_term c f (alone_tree c b n line f)

-- ---- names

abbrev pub meant : Around → Bound → Reading → (line : ℕ) → Meaning → Answer Operand
meant c b r line (meaning.Bound i) = bound_by line i (slice_get b.types i)
meant c b r line (meaning.Local i) = local c r line i
meant c b r line (meaning.Global i) = object_by line (variable.Global i) (slice_get c.file.globals i)
meant c b r line (meaning.Enumerator z) = Ok (number z)
meant c b r line meaning.Function = wrong line
meant c b r line meaning.Typedef = wrong line
meant c b r line (meaning.Definition k) = wrong line
meant c b r line meaning.Nothing = unknown line

-- a parameter of the definition that is read counts by itself
abbrev pub with_name_counted : (line : ℕ) → Meaning → Count → Count
with_name_counted line (meaning.Bound i) n = with_bound line i n
with_name_counted line _ n = with_node line n

abbrev pub plainly_named : Around → Bound → Reading → Count → (line : ℕ) → Meaning → Answer (Operand × Count)
plainly_named c b r n line m = closed n.limit (with_name_counted line m n).limit (with_name_counted line m n) (meant c b r line m)

-- a definition's name alone is a call
abbrev pub named : Around → Bound → Reading → Count → (line : ℕ) → (call : Called → Answer (Operand × Count)) → Meaning → Answer (Operand × Count)
named c b r n line call (meaning.Definition k) = call (called_by c.definitions true 0 (meaning.Definition k))
named c b r n line call m = plainly_named c b r n line m

-- ---- operators

abbrev pub constant : Around → (line : ℕ) → TermLeaf → Answer Operand
constant c line (leaf.Number token) = literal line token.now.kind
constant c line (leaf.Char z) = Ok (number z)
constant c line leaf.Result = result c line
constant c line leaf.Null = Ok null
constant c line (leaf.Name x) = wrong line

-- `\old` and `\at`, around what is inside
abbrev pub under_label : Answer (Operand × Count) → Count → (line : ℕ) → Option Label → Answer (Operand × Count)
under_label inside n line l = after inside (λ x. closed n.limit (with_node line n).limit x.1 (labelled_by line l x.0))

-- what two operands make
abbrev pub joined : Around → (line : ℕ) → TermTwo → Operand → Operand → Answer Operand
joined c line (two.Binary o) x y = binary c.sizes line o x y
joined c line two.Index x y = indexed c.sizes line x y
joined c line two.Range x y = misshapen line

-- ---- terms

abbrev mutual
  pub typed : Around → Bound → Reading → Count → t.Term → Answer (Operand × Count)
  typed c b r n (t.number line token) = leafed line n (literal line token.kind)
  typed c b r n (t.char line z) = leafed line n (Ok (number z))
  typed c b r n (t.result line) = leafed line n (result c line)
  typed c b r n (t.null line) = leafed line n (Ok null)
  typed c b r n (t.name line x) = named c b r n line (alone_call c b n line) (meaning_at c b x)
  typed c b r n (t.unary line o a) =
      after (typed c b r (with_node line n) a) (λ x. closed n.limit (with_node line n).limit x.1 (prefixed c r line o x.0))
  typed c b r n (t.cast line type a) =
      after (ended n.limit (with_node line n).limit (with_node line n).limit (type_named c line type))
      (λ t. after (typed c b r (with_node line n) a) (λ x. closed n.limit (with_node line n).limit x.1 (cast_with c line type t x.0)))
  typed c b r n (t.old line a) = under_label (typed c b (under_if (old_at c.site) r) (with_node line n) a) n line (old_at c.site)
  typed c b r n (t.at_label line a l) = under_label (typed c b (under_if (label_at c.site l) r) (with_node line n) a) n line (label_at c.site l)
  typed c b r n (t.field line a f arrow) =
      after (typed c b r n a) (λ x. closed x.1.limit (with_node line x.1).limit (with_node line x.1) (field c.file line f arrow x.0))
  typed c b r n (t.binary line o a d) = after (typed c b r n a) (λ x. after (typed c b r (with_node line x.1) d) (λ y. closed x.1.limit (with_node line x.1).limit y.1 (joined c line (two.Binary o) x.0 y.0)))
  typed c b r n (t.index line a d) = after (typed c b r n a) (λ x. after (typed c b r (with_node line x.1) d) (λ y. closed x.1.limit (with_node line x.1).limit y.1 (joined c line two.Index x.0 y.0)))
  typed c b r n (t.range line a d) = after (typed c b r n a) (λ x. after (typed c b r (with_node line x.1) d) (λ y. closed x.1.limit (with_node line x.1).limit y.1 (joined c line two.Range x.0 y.0)))
  typed c b r n (t.cond line test a d) =
      after (typed c b r n test) (λ x. after (typed c b r (with_node line x.1) a) (λ y. after (typed c b r y.1 d)
      (λ z. closed x.1.limit (with_node line x.1).limit z.1 (conditional line x.0 y.0 z.0))))
  typed c b r n (t.call line f args) = as_term c (called_at c b true (count_of args) f)
      (call_by c b n line args (λ m params. typed_for c b r m params args) (λ m. typed_all c b r m args) (called_at c b true (count_of args) f))

  -- arguments for parameters of these types, the faults of each before those of the next
  pub typed_for : Around → Bound → Reading → Count → List TermType → t.Terms → Answer (List Tree × Count)
  typed_for c b r n (type ∷ types) (t.more a rest) =
      after (after (typed c b r n a) (λ x. closed n.limit n.limit x.1 (passed (term_line_of a) type x.0)))
      (λ v. after (typed_for c b r v.1 types rest) (λ vs. Ok (v.0 ∷ vs.0, vs.1)))
  typed_for c b r n types args = Ok ([], n)

  pub typed_all : Around → Bound → Reading → Count → t.Terms → Answer Count
  typed_all c b r n t.stop = Ok n
  typed_all c b r n (t.more a rest) = after (typed c b r n a) (λ x. typed_all c b r x.1 rest)

-- an operator between two terms
abbrev pub two_typed : Around → Bound → Reading → Count → (line : ℕ) → TermTwo → t.Term → t.Term → Answer (Operand × Count)
two_typed c b r n line h a d =
    after (typed c b r n a) (λ x. after (typed c b r (with_node line x.1) d) (λ y. closed x.1.limit (with_node line x.1).limit y.1 (joined c line h x.0 y.0)))

-- an argument for a parameter of this type
abbrev pub argument : Around → Bound → Reading → Count → TermType → t.Term → Answer (Tree × Count)
argument c b r n type a = after (typed c b r n a) (λ x. closed n.limit n.limit x.1 (passed (term_line_of a) type x.0))

-- a call of a predicate or of a logic function
abbrev pub any_call : Around → Bound → Reading → Count → (line : ℕ) → t.Terms → Called → Answer (Tree × Count)
any_call c b r n line args f = call_by c b n line args (λ m params. typed_for c b r m params args) (λ m. typed_all c b r m args) f

-- a call that is a predicate
unfoldable pub predicate_call : Around → Bound → Reading → Count → (line : ℕ) → t.Terms → Called → Answer (Tree × Count)
predicate_call c b r n line args f = any_call c b r n line args f
