-- Contracts and annotations of loops as runs read them, out of typed clauses in the order of the text (ACSL 2.3, 2.4.2).
use Rattle.std.specs.Prelude.{ℕ, ◌==◌, if◌then◌else◌, Bool, true, false, List, [], ◌∷◌, Option, Some, None}
use Rattle.std.specs.Option.{option_map, unwrap_or}
use Rattle.std.specs.List.{filter_map}
use Rattle.acsl_trees.specs.Tree.{Tree}
use Rattle.acsl_clauses.specs.declared.items.Role.{Role}
use Rattle.acsl_clauses.specs.declared.items.Role.TheVariants as role
use Rattle.acsl_clauses.specs.declared.items.Group.{Group}
use Rattle.acsl_clauses.specs.declared.items.Group.TheVariants as group
use Rattle.acsl_clauses.specs.Typed.{Said, TypedClause, claims, decreases, assigns, begins, together}
use Rattle.c_runs.specs.Program.{Claim, Measure, Behavior, Together, Contract, Loop}

-- ---- single clauses

abbrev pub role_place : Role → ℕ
role_place role.Requires = 0
role_place role.Assumes = 1
role_place role.Ensures = 2
role_place role.Invariant = 3

abbrev pub claim_of : (line : ℕ) → Tree → Claim
claim_of l t = record { what = t; line = l }

abbrev pub measure_of : (line : ℕ) → Tree → Measure
measure_of l t = record { what = t; line = l }

-- the predicate of a clause in this role
abbrev pub tree_by : Role → Said → Option Tree
tree_by r (claims q t) = if role_place r == role_place q then Some t else None
tree_by r (decreases t) = None
tree_by r (assigns ts) = None
tree_by r (begins n) = None
tree_by r (together g ns) = None

abbrev pub tree_in : Role → TypedClause → Option Tree
tree_in r x = tree_by r x.said

abbrev pub claim_in : Role → TypedClause → Option Claim
claim_in r x = option_map (claim_of x.line) (tree_in r x)

-- the number that has to decrease
abbrev pub measure_by : (line : ℕ) → Said → Option Measure
measure_by l (decreases t) = Some (measure_of l t)
measure_by l (claims r t) = None
measure_by l (assigns ts) = None
measure_by l (begins n) = None
measure_by l (together g ns) = None

abbrev pub regions_by : Said → Option (List Tree)
regions_by (assigns ts) = Some ts
regions_by (claims r t) = None
regions_by (decreases t) = None
regions_by (begins n) = None
regions_by (together g ns) = None

abbrev pub is_complete : Group → Bool
is_complete group.Complete = true
is_complete group.Disjoint = false

abbrev pub together_of : (line : ℕ) → Group → (numbers : List ℕ) → Together
together_of l g ns = record { is_complete = is_complete g; numbers = ns; line = l }

abbrev pub together_said : (line : ℕ) → Said → Option Together
together_said l (together g ns) = Some (together_of l g ns)
together_said l (claims r t) = None
together_said l (decreases t) = None
together_said l (assigns ts) = None
together_said l (begins n) = None

abbrev pub together_by : TypedClause → Option Together
together_by x = together_said x.line x.said

-- ---- several clauses

abbrev pub or_else : {X : Type 0} → Option X → Option X → Option X
or_else (Some x) o = Some x
or_else None o = o

abbrev pub trees_in : Role → List TypedClause → List Tree
trees_in r xs = filter_map (tree_in r) xs

abbrev pub claims_in : Role → List TypedClause → List Claim
claims_in r xs = filter_map (claim_in r) xs

abbrev pub together_in : List TypedClause → List Together
together_in xs = filter_map together_by xs

abbrev pub first : {X Y : Type 0} → (X → Option Y) → List X → Option Y
first f [] = None
first f (x ∷ xs) = or_else (f x) (first f xs)

abbrev pub regions_at : TypedClause → Option (List Tree)
regions_at x = regions_by x.said

-- the line of a clause on what is assigned
abbrev pub assigns_line : TypedClause → Option ℕ
assigns_line x = option_map (λ ts. x.line) (regions_at x)

abbrev pub measure_at : TypedClause → Option Measure
measure_at x = measure_by x.line x.said

-- a contract, a behavior or a loop has one such clause at most
abbrev pub regions_in : List TypedClause → Option (List Tree)
regions_in xs = first regions_at xs

abbrev pub assigns_line_in : List TypedClause → Option ℕ
assigns_line_in xs = first assigns_line xs

abbrev pub measure_in : List TypedClause → Option Measure
measure_in xs = first measure_at xs

-- ---- contracts

abbrev pub begins_one : Said → Bool
begins_one (begins n) = true
begins_one (claims r t) = false
begins_one (decreases t) = false
begins_one (assigns ts) = false
begins_one (together g ns) = false

-- the clauses up to the next behavior
abbrev pub own : List TypedClause → List TypedClause
own [] = []
own (x ∷ xs) = if begins_one x.said then [] else x ∷ own xs

abbrev pub behavior_of : List TypedClause → Behavior
behavior_of xs = record { assumes = trees_in role.Assumes xs; requires = claims_in role.Requires xs; ensures = claims_in role.Ensures xs; assigns = regions_in xs }

-- Each behavior has the clauses behind its beginning. Their numbers are their places, from 0.
abbrev pub behaviors_of : List TypedClause → List Behavior
behaviors_of [] = []
behaviors_of (x ∷ xs) = if begins_one x.said then behavior_of (own xs) ∷ behaviors_of xs else behaviors_of xs

-- what stands before the first behavior is the contract's own
abbrev pub contract_of : List TypedClause → Contract
contract_of xs = record { plain = behavior_of (own xs); decreases = measure_in xs; behaviors = behaviors_of xs; together = together_in xs }

-- ---- loops

-- a loop before which so many variables are declared
abbrev pub loop_with : (declared : ℕ) → List TypedClause → Loop
loop_with n xs = record {
  invariants = claims_in role.Invariant xs;
  assigns = regions_in xs;
  line = unwrap_or (assigns_line_in xs) 0;
  variant = measure_in xs;
  declared = n;
}
