-- Annotations over plain integers: a test of trees (ACSL 2.2). What is read is a variable that no pointer leads to, and no pointer stands in it.
use Rattle.std.specs.Prelude.{ℕ, zero, suc, nat_lt, Bool, true, false, ◌&&◌, if◌then◌else◌, List, [], ◌∷◌, Option, Some, None}
use Rattle.typed_prog.specs.declared.operators.Variable.{Variable}
use Rattle.acsl_trees.specs.declared.heads.Content.TheVariants as content
use Rattle.acsl_trees.specs.declared.heads.Range.{Range}
use Rattle.acsl_trees.specs.declared.heads.Range.TheVariants as range
use Rattle.acsl_trees.specs.declared.heads.Head.{Head}
use Rattle.acsl_trees.specs.declared.heads.Head.TheVariants as h
use Rattle.acsl_trees.specs.Tree.{Tree, Trees, node, stop, more}
use Rattle.c_runs.specs.Truth.{heads_of}
use Rattle.acsl_expand.specs.Expansion.{binds, around_kid}

-- What may be named: these variables, the result or not, and logic functions that call themselves, with as many integers.
pub record Place : Type 0 where
  pub variables : Variable → Bool
  pub has_result : Bool
  pub params : (function : ℕ) → Option ℕ

-- how many kids there are at least
abbrev pub has : ℕ → Trees → Bool
has zero ks = true
has (suc n) stop = false
has (suc n) (more t ts) = has n ts

-- and there are no others
abbrev pub counts : ℕ → Trees → Bool
counts zero stop = true
counts zero (more t ts) = false
counts (suc n) stop = false
counts (suc n) (more t ts) = counts n ts

abbrev pub takes : Option ℕ → Trees → Bool
takes None ks = false
takes (Some n) ks = counts n ks

-- a first term, and links behind it
abbrev pub is_link : Head → Bool
is_link (h.Link c) = true
is_link head = false

abbrev pub are_links : List Head → Bool
are_links [] = true
are_links (l ∷ ls) = is_link l && are_links ls

abbrev pub is_chain : List Head → Bool
is_chain [] = true
is_chain (l ∷ ls) = are_links ls

-- the kid is a variable itself
abbrev pub reads_variable : (Variable → Bool) → Trees → Bool
reads_variable vs (more (node (h.Variable x) us) ts) = vs x
reads_variable vs ks = false

abbrev pub ends : Range → ℕ
ends (range.Between low_out high_out place) = 2
ends (range.Kind k place) = 0

-- a node, where so many names are around
abbrev pub node_fits : Place → (around : ℕ) → Head → Trees → Bool
node_fits p d (h.Number z) ks = true
node_fits p d (h.Name x) ks = nat_lt x d
node_fits p d (h.Call f) ks = takes (p.params f) ks
node_fits p d h.Result ks = p.has_result
node_fits p d (h.At l) ks = has 1 ks
node_fits p d (h.Read (content.Integer k) l) ks = reads_variable p.variables ks
node_fits p d h.Negate ks = has 1 ks
node_fits p d h.Complement ks = has 1 ks
node_fits p d (h.Arithmetic o) ks = has 2 ks
node_fits p d (h.Convert k) ks = has 1 ks
node_fits p d (h.Compare c) ks = has 2 ks
node_fits p d h.Not ks = has 1 ks
node_fits p d h.And ks = has 2 ks
node_fits p d h.Or ks = has 2 ks
node_fits p d h.Xor ks = has 2 ks
node_fits p d h.Implies ks = has 2 ks
node_fits p d h.Iff ks = has 2 ks
node_fits p d h.Choose ks = has 3 ks
node_fits p d (h.Link c) ks = has 1 ks
node_fits p d h.Chain ks = is_chain (heads_of ks)
node_fits p d h.Let ks = counts 2 ks
node_fits p d (h.Every g) ks = counts (suc (ends g)) ks
node_fits p d (h.Some g) ks = counts (suc (ends g)) ks
node_fits p d head ks = false

-- what is read isn't a term
abbrev pub is_read : Head → Bool
is_read (h.Read c l) = true
is_read head = false

abbrev mutual
  pub is_plain : Place → (around : ℕ) → Tree → Bool
  is_plain p d (node head ks) = node_fits p d head ks && (if is_read head then true else are_plain p d (binds head) ks)

  pub are_plain : Place → (around : ℕ) → (in_binder : Bool) → Trees → Bool
  are_plain p d u stop = true
  are_plain p d u (more t ts) = is_plain p (around_kid u ts d) t && are_plain p d u ts
