-- The changes of a branch, in their order. What closes a branch, and what the normal form of a tree is, are parameters.
use Rattle.std.specs.Prelude.{◌≡◌, ◌⊎◌, ℕ, true, if◌then◌else◌, List, [], ◌∷◌, ◌++◌, map, Option, Some, None}
use Rattle.qed_terms.specs.declared.head.Head.TheVariants as h
use Rattle.qed_terms.specs.Nodes.{kids_of}
use Rattle.qed_terms.specs.Tree.{Tree, node, three, head_of, var, false_tree, at_most, less, not_of, or_of}
use Rattle.qed_substitution.specs.Substitution.{replace, may_replace}
use Rattle.branches.specs.declared.kinds.Kind.TheVariants as kind
use Rattle.branches.specs.Steps.{or_else, FirstSo}
use Rattle.branches.specs.Branch.{Branch, branch, is_kind, IsLiteral, IsAnd, IsOr, IsExists}
use Rattle.branch_changes.specs.NewNames.{numbered_name, IsFirstNew}
use Rattle.branch_changes.specs.Givens.{Given, put, givens, first_put}

-- it stands in the list
abbrev pub Among : Tree → List Tree → Type 0
Among t [] = ⊥
Among t (u ∷ us) = (t ≡ u) ⊎ Among t us

-- of one of these it is so
abbrev pub SomeSo : {A : Type 0} → (A → Type 0) → List A → Type 0
SomeSo so [] = ⊥
SomeSo so (x ∷ xs) = so x ⊎ SomeSo so xs

-- each tree is related to the one at its place
abbrev pub EachTo : (Tree → Tree → Type 0) → List Tree → List Tree → Type 0
EachTo r [] [] = Unit {0}
EachTo r [] (u ∷ us) = ⊥
EachTo r (t ∷ ts) [] = ⊥
EachTo r (t ∷ ts) (u ∷ us) = r t u × EachTo r ts us

-- ---- a literal moves to the literals

pub record Moves (b c : Branch) : Type 0 where
  pub before : List Tree
  pub literal : Tree
  pub behind : List Tree
  pub first : FirstSo IsLiteral b.waiting before literal behind
  pub now : c ≡ branch (b.literals ++ literal ∷ []) (before ++ behind)

-- ---- a formula that waits is replaced: the first that is so

pub record Replaces (so : Tree → Type 0) (parts : Tree → List Tree → Type 0) (b c : Branch) : Type 0 where
  pub before : List Tree
  pub formula : Tree
  pub behind : List Tree
  pub by : List Tree
  pub first : FirstSo so b.waiting before formula behind
  pub are : parts formula by
  pub now : c ≡ branch b.literals (before ++ (by ++ behind))

-- an `and`, by its parts
abbrev pub ArePartsOf : Tree → List Tree → Type 0
ArePartsOf f fs = fs ≡ kids_of f

abbrev pub TakesApart : Branch → Branch → Type 0
TakesApart = Replaces IsAnd ArePartsOf

-- An `exists`, by its bounds and its body for a new name, in normal form. The name may be put in the body wherever the body is well formed, since it
-- isn't in it.
pub record AreWitnessed (normal : Tree → Tree → Type 0) (b : Branch) (f : Tree) (fs : List Tree) : Type 0 where
  pub name : List ℕ
  pub low : Tree
  pub high : Tree
  pub body : Tree
  pub number : ℕ
  pub is : f ≡ node (h.Exists name) (three low high body)
  pub new : IsFirstNew b number
  pub allowed : may_replace name (var (numbered_name number)) body ≡ true
  pub normals :
      let witness : Tree = var (numbered_name number) in
      EachTo normal (at_most low witness ∷ less witness high ∷ replace name witness body ∷ []) fs

abbrev pub Witnesses : (Tree → Tree → Type 0) → Branch → Branch → Type 0
Witnesses normal b = Replaces IsExists (AreWitnessed normal b) b

-- ---- an equality that gives a variable is dropped, and its term takes the variable's places

abbrev pub literals_of : List Tree → List Tree
literals_of [] = []
literals_of (f ∷ fs) = if is_kind kind.Literal (head_of f) then f ∷ literals_of fs else literals_of fs

abbrev pub others_of : List Tree → List Tree
others_of [] = []
others_of (f ∷ fs) = if is_kind kind.Literal (head_of f) then others_of fs else f ∷ others_of fs

-- a variable that it gives can be replaced everywhere in the branch
abbrev pub Gives : Branch → Tree → Type 0
Gives b l = (g : Given) × (first_put b (givens l) ≡ Some g)

-- What was a literal and is none now waits, behind the others.
pub record Eliminates (normal : Tree → Tree → Type 0) (b c : Branch) : Type 0 where
  pub before : List Tree
  pub equality : Tree
  pub behind : List Tree
  pub given : Given
  pub literals : List Tree
  pub waiting : List Tree
  pub first : FirstSo (Gives b) b.literals before equality behind
  pub gives : first_put b (givens equality) ≡ Some given
  pub new_literals : EachTo normal (map (put given) (before ++ behind)) literals
  pub new_waiting : EachTo normal (map (put given) b.waiting) waiting
  pub now : c ≡ branch (literals_of literals) (waiting ++ others_of literals)

-- ---- an `or` is dropped, or one of its disjuncts

abbrev pub with_literal : Branch → Tree → Branch
with_literal b l = branch (b.literals ++ l ∷ []) b.waiting

-- a literal that would close the branch
abbrev pub WouldClose : (Branch → Type 0) → Branch → Tree → Type 0
WouldClose closed b l = IsLiteral l × closed (with_literal b l)

-- it is a literal of the branch, or its `not` would close the branch
abbrev pub Holds : (Tree → Tree → Type 0) → (Branch → Type 0) → Branch → Tree → Type 0
Holds normal closed b d = Among d b.literals ⊎ (IsLiteral d × ((n : Tree) × normal (not_of d) n × WouldClose closed b n))

abbrev pub HasTrue : (Tree → Tree → Type 0) → (Branch → Type 0) → Branch → Tree → Type 0
HasTrue normal closed b f = IsOr f × SomeSo (Holds normal closed b) (kids_of f)

abbrev pub AreNone : Tree → List Tree → Type 0
AreNone f fs = fs ≡ []

abbrev pub Drops : (Tree → Tree → Type 0) → (Branch → Type 0) → Branch → Branch → Type 0
Drops normal closed b = Replaces (HasTrue normal closed b) AreNone b

abbrev pub HasFalse : (Branch → Type 0) → Branch → Tree → Type 0
HasFalse closed b f = IsOr f × SomeSo (WouldClose closed b) (kids_of f)

-- What is left of an `or`: one disjunct stands alone. None is the literal `false`, which closes the branch.
abbrev pub rest_of_or : List Tree → Tree
rest_of_or [] = false_tree
rest_of_or (d ∷ []) = d
rest_of_or (d ∷ e ∷ ds) = or_of (d ∷ e ∷ ds)

-- the `or` without the first disjunct that would close the branch
pub record IsLessOne (closed : Branch → Type 0) (b : Branch) (f : Tree) (fs : List Tree) : Type 0 where
  pub before : List Tree
  pub disjunct : Tree
  pub behind : List Tree
  pub first : FirstSo (WouldClose closed b) (kids_of f) before disjunct behind
  pub is : fs ≡ rest_of_or (before ++ behind) ∷ []

abbrev pub Removes : (Branch → Type 0) → Branch → Branch → Type 0
Removes closed b = Replaces (HasFalse closed b) (IsLessOne closed b) b

-- ---- all of them: the first that applies

abbrev pub FromDrops : (Tree → Tree → Type 0) → (Branch → Type 0) → Branch → Branch → Type 0
FromDrops normal closed = or_else (Drops normal closed) (Removes closed)

abbrev pub FromEliminates : (Tree → Tree → Type 0) → (Branch → Type 0) → Branch → Branch → Type 0
FromEliminates normal closed = or_else (Eliminates normal) (FromDrops normal closed)

abbrev pub FromWitnesses : (Tree → Tree → Type 0) → (Branch → Type 0) → Branch → Branch → Type 0
FromWitnesses normal closed = or_else (Witnesses normal) (FromEliminates normal closed)

abbrev pub FromTakesApart : (Tree → Tree → Type 0) → (Branch → Type 0) → Branch → Branch → Type 0
FromTakesApart normal closed = or_else TakesApart (FromWitnesses normal closed)

abbrev pub Changes : (Tree → Tree → Type 0) → (Branch → Type 0) → Branch → Branch → Type 0
Changes normal closed = or_else Moves (FromTakesApart normal closed)
