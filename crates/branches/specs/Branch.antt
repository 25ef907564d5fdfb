-- Branches, what they mean, and the kinds of formulas that wait in one.
use Rattle.std.specs.Prelude.{◌≡◌, ℕ, ◌+◌, Bool, true, false, List, [], ◌∷◌}
use Rattle.qed_terms.specs.declared.head.Head.{Head}
use Rattle.qed_terms.specs.declared.head.Head.TheVariants as h
use Rattle.qed_terms.specs.Meaning.{World, Values, truth}
use Rattle.qed_terms.specs.Tree.{Tree, head_of, size}
use Rattle.branches.specs.declared.kinds.Kind.{Kind}
use Rattle.branches.specs.declared.kinds.Kind.TheVariants as kind

-- what is taken to hold together: literals, and formulas that wait to be taken apart
pub record Branch : Type 0 where
  pub literals : List Tree
  pub waiting : List Tree

abbrev pub branch : List Tree → List Tree → Branch
branch ls ws = record { literals = ls; waiting = ws }

-- how many nodes it has: heads, numbers and names
abbrev pub nodes_of : List Tree → ℕ
nodes_of [] = 0
nodes_of (t ∷ ts) = size t + nodes_of ts

abbrev pub nodes : Branch → ℕ
nodes b = nodes_of b.literals + nodes_of b.waiting

-- ---- what it means

-- each of the formulas is true
abbrev pub AreTrue : World → Values → List Tree → Type 0
AreTrue w env [] = Unit {0}
AreTrue w env (f ∷ fs) = (truth w env f ≡ true) × AreTrue w env fs

abbrev pub IsTrueUnder : World → Values → Branch → Type 0
IsTrueUnder w env b = AreTrue w env b.literals × AreTrue w env b.waiting

-- some values make it true: it has a model
abbrev pub HasModel : World → Branch → Type 0
HasModel w b = (env : Values) × IsTrueUnder w env b

-- ---- the kinds of formulas

-- A conjunction, a disjunction and an existence are taken apart; all else is a literal: relations, `forall`, and their `not`.
abbrev pub is_kind : Kind → Head → Bool
is_kind kind.And h.And = true
is_kind kind.Or h.Or = true
is_kind kind.Exists (h.Exists x) = true
is_kind kind.Literal h.And = false
is_kind kind.Literal h.Or = false
is_kind kind.Literal (h.Exists x) = false
is_kind kind.Literal head = true
is_kind k head = false

abbrev pub IsKind : Kind → Tree → Type 0
IsKind k f = is_kind k (head_of f) ≡ true

abbrev pub IsLiteral : Tree → Type 0
IsLiteral = IsKind kind.Literal

abbrev pub IsAnd : Tree → Type 0
IsAnd = IsKind kind.And

abbrev pub IsOr : Tree → Type 0
IsOr = IsKind kind.Or

abbrev pub IsExists : Tree → Type 0
IsExists = IsKind kind.Exists
