-- Definitions of predicates and logic functions expanded in place (ACSL 2.6). Names have numbers from outside in, so an argument, which is a term and binds
-- no name, stands where its parameter stood as it is.
use Rattle.std.specs.Prelude.{ℕ, pos, zero, suc, ◌+◌, ◌-◌, ◌==◌, nat_lt, Bool, true, false, if◌then◌else◌, List, [], ◌∷◌, map, length, slice_index_or}
use Rattle.acsl_trees.specs.declared.heads.Head.{Head}
use Rattle.acsl_trees.specs.declared.heads.Head.TheVariants as h
use Rattle.acsl_trees.specs.Tree.{Tree, Trees, node, stop, more, leaf, trees_of, view_tree}
use Rattle.acsl_expand.specs.declared.expansion.Meant.{Meant}

-- what a definition stands for, and whether it calls itself
pub record Definition : Type 0 where
  pub body : Tree
  pub is_recursive : Bool

abbrev pub nought : Tree
nought = leaf (h.Number (pos 0))

abbrev pub definition_at : List Definition → (number : ℕ) → Definition
definition_at ds n = slice_index_or ds n (record { body = nought; is_recursive = false })

abbrev pub view_meant : Meant → Definition
view_meant x = record { body = view_tree x.body; is_recursive = x.is_recursive }

abbrev pub view_all : List Meant → List Definition
view_all xs = map view_meant xs

-- ---- names

-- a name is bound in the last kid
abbrev pub binds : Head → Bool
binds h.Let = true
binds (h.Every r) = true
binds (h.Some r) = true
binds _ = false

-- how many names are around a kid, with these kids behind it
abbrev pub around_kid : (in_binder : Bool) → (behind : Trees) → (around : ℕ) → ℕ
around_kid true stop d = suc d
around_kid true (more t ts) d = d
around_kid false ts d = d

-- A parameter becomes its argument. Binders of the body come behind the names around the call.
abbrev pub placed : List Tree → (base name : ℕ) → Tree
placed args base x = if nat_lt x (length args) then slice_index_or args x nought else leaf (h.Name ((x - length args) + base))

-- ---- trees

-- what a call becomes where so many names are around, by the number of the definition and the arguments, which are expanded
abbrev pub CallTrees : Type 0
CallTrees = (number around : ℕ) → List Tree → Tree

-- what a node becomes, whose kids have become these
abbrev pub node_tree : CallTrees → List Tree → (base around : ℕ) → Head → List Tree → Tree
node_tree b args base d (h.Name x) ks = placed args base x
node_tree b args base d (h.Call f) ks = b f d ks
node_tree b args base d head ks = node head (trees_of ks)

abbrev mutual
  -- a body for these arguments: so many names are around its call, and so many around the tree
  pub expand : CallTrees → List Tree → (base around : ℕ) → Tree → Tree
  expand b args base d (node head ks) = node_tree b args base d head (expand_kids b args base d (binds head) ks)

  pub expand_kids : CallTrees → List Tree → (base around : ℕ) → (in_binder : Bool) → Trees → List Tree
  expand_kids b args base d u stop = []
  expand_kids b args base d u (more t ts) = expand b args base (around_kid u ts d) t ∷ expand_kids b args base d u ts

-- ---- definitions

-- a call stays one where the definition calls itself
abbrev pub call_tree : CallTrees → (number : ℕ) → Definition → (around : ℕ) → List Tree → Tree
call_tree b n x d args = if x.is_recursive then node (h.Call n) (trees_of args) else expand b args d d x.body

-- Of so many definitions. A call of another one becomes 0, and doesn't come from a text.
unfoldable pub call_trees : List Definition → (count : ℕ) → CallTrees
call_trees ds zero f d args = nought
call_trees ds (suc n) f d args = if f == n then call_tree (call_trees ds n) n (definition_at ds n) d args else call_trees ds n f d args

-- what a call becomes that may call all of these
abbrev pub calls_in : List Meant → CallTrees
calls_in xs = call_trees (view_all xs) (length xs)

-- an annotation, which has no parameters
abbrev pub expanded : List Definition → Tree → Tree
expanded ds t = expand (call_trees ds (length ds)) [] 0 0 t

-- the body of a definition that calls itself and has so many parameters
abbrev pub expanded_body : List Definition → (number params : ℕ) → Tree
expanded_body ds n params = expand (call_trees ds (suc n)) [] 0 params (definition_at ds n).body
