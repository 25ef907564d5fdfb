-- What is so of programs that are made of typed files.
use Rattle.std.specs.Prelude.{◌≡◌, ℕ, List, [], ◌∷◌, ◌++◌, map, Some, None, Option, Ok, IsSome, slice_get}
use Rattle.typed_unit.specs.Stmt as s
use Rattle.c_scopes.specs.declared.symbols.Object.{Object}
use Rattle.acsl_expand.specs.Expansion.{Definition}
use Rattle.acsl_notes.specs.Notes.{Enclosing, Note, Noted, noted}
use Rattle.acsl_annotated.specs.Annotated.{note_expanded}
use Rattle.c_runs.specs.Program.{Stmts, Behavior, Contract, Loop}
use Rattle.acsl_trees.specs.Tree.{Tree}
use Rattle.acsl_clauses.specs.declared.items.Role.{Role}
use Rattle.acsl_clauses.specs.declared.items.Role.TheVariants as role
use Rattle.acsl_clauses.specs.Typed.{Said, TypedClause, claims, decreases, assigns, begins, together}
use Rattle.c_programs.specs.Clauses.{claim_of, measure_of, together_of, contract_of, loop_with}
use Rattle.c_programs.specs.Bodies.{Placed, placed}
use Rattle.c_programs.specs.Placing.{Becomes}

-- ---- contracts, clause by clause from the end

abbrev pub no_behavior : Behavior
no_behavior = record { assumes = []; requires = []; ensures = []; assigns = None }

abbrev pub no_contract : Contract
no_contract = record { plain = no_behavior; decreases = None; behaviors = []; together = [] }

abbrev pub with_claim : (line : ℕ) → Role → Tree → Behavior → Behavior
with_claim l role.Requires t b = record b { requires = claim_of l t ∷ b.requires }
with_claim l role.Assumes t b = record b { assumes = t ∷ b.assumes }
with_claim l role.Ensures t b = record b { ensures = claim_of l t ∷ b.ensures }
with_claim l role.Invariant t b = b

-- A clause before these: it is plain, but where a behavior begins, what was plain is its own.
abbrev pub with_said : (line : ℕ) → Said → Contract → Contract
with_said l (claims r t) c = record c { plain = with_claim l r t c.plain }
with_said l (decreases t) c = record c { decreases = Some (measure_of l t) }
with_said l (assigns ts) c = record c { plain = record c.plain { assigns = Some ts } }
with_said l (begins n) c = record c { plain = no_behavior; behaviors = c.plain ∷ c.behaviors }
with_said l (together g ns) c = record c { together = together_of l g ns ∷ c.together }

abbrev pub read_back : List TypedClause → Contract
read_back [] = no_contract
read_back (x ∷ xs) = with_said x.line x.said (read_back xs)

-- So no clause is lost, and each stands in its part and in its order.
abbrev pub ContractsAreRead : Type 0
ContractsAreRead = (xs : List TypedClause) → contract_of xs ≡ read_back xs

-- ---- what is claimed of a loop, clause by clause from the end

abbrev pub no_claims : (declared : ℕ) → Loop
no_claims n = record { invariants = []; assigns = None; line = 0; variant = None; declared = n }

abbrev pub with_invariant : (line : ℕ) → Role → Tree → Loop → Loop
with_invariant l role.Invariant t k = record k { invariants = claim_of l t ∷ k.invariants }
with_invariant l r t k = k

abbrev pub with_loop_said : (line : ℕ) → Said → Loop → Loop
with_loop_said l (claims r t) k = with_invariant l r t k
with_loop_said l (decreases t) k = record k { variant = Some (measure_of l t) }
with_loop_said l (assigns ts) k = record k { assigns = Some ts; line = l }
with_loop_said l (begins n) k = k
with_loop_said l (together g ns) k = k

abbrev pub loop_read_back : (declared : ℕ) → List TypedClause → Loop
loop_read_back n [] = no_claims n
loop_read_back n (x ∷ xs) = with_loop_said x.line x.said (loop_read_back n xs)

-- So a set of regions has the line of its own clause.
abbrev pub LoopsAreRead : Type 0
LoopsAreRead = (n : ℕ) (xs : List TypedClause) → loop_with n xs ≡ loop_read_back n xs

-- ---- each annotation stands in its place

-- each local that a statement declares is an object of the function
abbrev pub AreObjects : List Object → List s.Declared → Type 0
AreObjects os [] = Unit {0}
AreObjects os (d ∷ ds) = IsSome (slice_get os d.local) × AreObjects os ds

abbrev mutual
  pub Declares : List Object → s.Stmt → Type 0
  Declares os (s.empty line) = Unit {0}
  Declares os (s.expr line v) = Unit {0}
  Declares os (s.block line body) = AllDeclare os body
  Declares os (s.locals line vars) = AreObjects os vars
  Declares os (s.if_else line test a b) = Declares os a × Declares os b
  Declares os (s.loop_of line annot turns body) = Declares os body
  Declares os (s.switch line v body) = AllDeclare os body
  Declares os (s.case_of line z) = Unit {0}
  Declares os (s.default line) = Unit {0}
  Declares os (s.break line) = Unit {0}
  Declares os (s.continue line) = Unit {0}
  Declares os (s.return_of line v) = Unit {0}
  Declares os (s.assert line p) = Unit {0}

  pub AllDeclare : List Object → s.Stmts → Type 0
  AllDeclare os s.stop = Unit {0}
  AllDeclare os (s.more x xs) = Declares os x × AllDeclare os xs

-- What is placed is this, leaves the annotations behind its own, and knows how many locals are declared.
pub record IsPlaced (Is : Stmts → Type 0) (declared : ℕ) (behind : List Note) (p : Placed) : Type 0 where
  pub left : p.notes ≡ behind
  pub count : p.declared ≡ declared
  pub is : Is p.stmts

-- A statement whose annotations are typed takes those that it added, expanded, whatever stands behind them; and it becomes what it is with its own.
abbrev pub NotesArePlaced : Type 0
NotesArePlaced =
    (e : Enclosing) (ds : List Definition) (entry : Option ℕ) (k j : Noted) (x : s.Stmt) → Declares e.within.objects x → noted e entry k x ≡ Ok j
    → (added : List Note) × (j.notes ≡ k.notes ++ added)
    × ((behind : List Note) → IsPlaced (Becomes e ds entry k x j) j.declared behind (placed x (map (note_expanded ds) added ++ behind) k.declared))
