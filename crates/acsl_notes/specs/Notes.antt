-- The annotations in the body of a function, typed in the order of the text, or the first fault in them (ACSL 2.4). What a block declares is in scope in
-- what follows it in the block; the locals that a loop's beginning knows are those that are declared before it.
use Rattle.std.specs.Prelude.{ℕ, ◌+◌, List, [], ◌∷◌, ◌++◌, map, Option, Some, None, Ok, slice_get}
use Rattle.c_answers.specs.Answers.{Answer, after}
use Rattle.c_syntax.specs.Pred.{Pred}
use Rattle.c_syntax.specs.Contract.{LoopAnnot}
use Rattle.c_scopes.specs.declared.symbols.Object.{Object}
use Rattle.typed_unit.specs.Stmt as s
use Rattle.name_table.specs.Names.{Names}
use Rattle.name_table.specs.Nesting.{entered, around, declared_in}
use Rattle.acsl_trees.specs.Tree.{Tree, view_tree}
use Rattle.acsl_names.specs.declared.names.Definitions.{Definitions}
use Rattle.acsl_names.specs.declared.names.Site.TheVariants as site
use Rattle.acsl_names.specs.Names.{Around}
use Rattle.acsl_names.specs.Sites as at
use Rattle.acsl_clauses.specs.Typed.{TypedClause, view_clause}
use Rattle.acsl_clauses.specs.Clauses.{loop_typed, assertion_typed}
use Rattle.acsl_notes.specs.declared.notes.Note.{Note as CodeNote}
use Rattle.acsl_notes.specs.declared.notes.Note.TheVariants as code
use Rattle.acsl_notes.specs.declared.notes.Noted.{Noted as CodeNoted}
use Rattle.acsl_notes.specs.declared.notes.Enclosing.{Enclosing as CodeEnclosing}

-- what an annotation of a body says: the clauses of a loop, or an assertion
pub data Note : Type 0 where
  of_loop : (clauses : List TypedClause) → Note
  assertion : (t : Tree) → Note

abbrev pub view_note : CodeNote → Note
view_note (code.Loop cs) = of_loop (map view_clause cs)
view_note (code.Assertion t) = assertion (view_tree t)

-- what encloses them: what the file declares before the body, and its function
pub record Enclosing : Type 0 where
  pub before : at.Before
  pub definitions : Definitions
  pub within : at.Within

abbrev pub view_enclosing : CodeEnclosing → Enclosing
view_enclosing x = record { before = at.view_before x.before; definitions = x.definitions.now; within = at.view_within x.within }

-- the annotations so far; the locals in scope, by their numbers; and how many are declared
pub record Noted : Type 0 where
  pub notes : List Note
  pub blocks : List (Names ℕ)
  pub declared : ℕ

abbrev pub view_noted : CodeNoted → Noted
view_noted x = record { notes = map view_note x.notes; blocks = x.blocks; declared = x.declared }

-- ---- scopes

-- objects from this number on, in the innermost scope
abbrev pub named_from : (number : ℕ) → List Object → List (Names ℕ) → List (Names ℕ)
named_from i [] bs = bs
named_from i (o ∷ os) bs = named_from (i + 1) os (declared_in bs o.name i)

-- the parameters of a function
abbrev pub params_scope : List Object → List (Names ℕ)
params_scope os = named_from 0 os (entered [])

abbrev pub opened : Noted → Noted
opened k = record k { blocks = entered k.blocks }

abbrev pub closed : Noted → Noted
closed k = record k { blocks = around k.blocks }

-- a local, by its number
abbrev pub with_object : Noted → (number : ℕ) → Option Object → Noted
with_object k i (Some o) = record k { blocks = declared_in k.blocks o.name i; declared = i + 1 }
with_object k i None = k

abbrev pub with_locals : List Object → Noted → List s.Declared → Noted
with_locals os k [] = k
with_locals os k (d ∷ ds) = with_locals os (with_object k d.local (slice_get os d.local)) ds

-- ---- annotations

-- What is around one, inside a loop that began where so many locals were declared, or in none.
abbrev pub around_at : Enclosing → (blocks : List (Names ℕ)) → (entry : Option ℕ) → Around
around_at e bs i = at.around e.before e.definitions bs e.within (site.Code i) None

abbrev pub with_note : Note → Noted → Noted
with_note x k = record k { notes = k.notes ++ x ∷ [] }

-- the clauses of a loop that begins here
abbrev pub with_loop : Enclosing → Noted → LoopAnnot → Answer Noted
with_loop e k a = after (loop_typed (around_at e k.blocks (Some k.declared)) a) (λ cs. Ok (with_note (of_loop cs) k))

abbrev pub with_assertion : Enclosing → (entry : Option ℕ) → Noted → Pred → Answer Noted
with_assertion e i k p = after (assertion_typed (around_at e k.blocks i) p) (λ t. Ok (with_note (assertion t) k))

-- ---- statements

abbrev mutual
  pub noted : Enclosing → (entry : Option ℕ) → Noted → s.Stmt → Answer Noted
  noted e i k (s.empty line) = Ok k
  noted e i k (s.expr line v) = Ok k
  noted e i k (s.block line body) = after (all_noted e i (opened k) body) (λ j. Ok (closed j))
  noted e i k (s.locals line vars) = Ok (with_locals e.within.objects k vars)
  noted e i k (s.if_else line test a b) = after (noted e i k a) (λ j. noted e i j b)
  noted e i k (s.loop_of line annot turns body) = after (with_loop e k annot) (λ j. noted e (Some k.declared) j body)
  noted e i k (s.switch line v body) = after (all_noted e i (opened k) body) (λ j. Ok (closed j))
  noted e i k (s.case_of line z) = Ok k
  noted e i k (s.default line) = Ok k
  noted e i k (s.break line) = Ok k
  noted e i k (s.continue line) = Ok k
  noted e i k (s.return_of line v) = Ok k
  noted e i k (s.assert line p) = with_assertion e i k p

  pub all_noted : Enclosing → (entry : Option ℕ) → Noted → s.Stmts → Answer Noted
  all_noted e i k s.stop = Ok k
  all_noted e i k (s.more x xs) = after (noted e i k x) (λ j. all_noted e i j xs)

-- what stands in a block of its own
abbrev pub block_noted : Enclosing → (entry : Option ℕ) → Noted → s.Stmts → Answer Noted
block_noted e i k body = after (all_noted e i (opened k) body) (λ j. Ok (closed j))

-- what stands before a body: its parameters are in scope, which are declared
abbrev pub at_start : (blocks : List (Names ℕ)) → (params : ℕ) → Noted
at_start bs n = record { notes = []; blocks = bs; declared = n }

-- those of a body
unfoldable pub body_noted : Enclosing → (blocks : List (Names ℕ)) → s.Stmt → Answer (List Note)
body_noted e bs x = after (noted e None (at_start bs e.within.params) x) (λ k. Ok k.notes)
