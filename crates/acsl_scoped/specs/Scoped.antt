-- Which objects the regions of typed annotations are: of the function's own variables those that are in scope (ACSL 2.2, 2.3.4).
use Rattle.std.specs.Prelude.{◌≡◌, ℕ, List, [], ◌∷◌, Some}
use Rattle.typed_prog.specs.declared.operators.Variable.TheVariants as variable
use Rattle.name_table.specs.Names.{Names}
use Rattle.name_table.specs.Nesting.{meaning_in}
use Rattle.acsl_trees.specs.declared.heads.Content.{Content}
use Rattle.acsl_trees.specs.declared.heads.Head.TheVariants as head
use Rattle.acsl_trees.specs.Tree.{Tree, Trees, node, one}

-- an object, or a set of these, whose variable is in scope where it is one of the function's
pub data IsPlace (blocks : List (Names ℕ)) : Tree → Type 0 where
  local : {i : ℕ} {ks : Trees} (x : List ℕ) → meaning_in blocks x ≡ Some i → IsPlace blocks (node (head.Variable (variable.Local i)) ks)
  global : {i : ℕ} {ks : Trees} → IsPlace blocks (node (head.Variable (variable.Global i)) ks)
  pointed : {ks : Trees} → IsPlace blocks (node head.Pointed ks)
  field : {n offset : ℕ} {ks : Trees} → IsPlace blocks (node (head.Field n offset) ks)
  element : {size count : ℕ} {ks : Trees} → IsPlace blocks (node (head.Element size count) ks)
  elements : {size count : ℕ} {ks : Trees} → IsPlace blocks (node (head.Elements size count) ks)
  behind : {size : ℕ} {ks : Trees} → IsPlace blocks (node (head.Behind size) ks)

pub record IsRegion (blocks : List (Names ℕ)) (t : Tree) : Type 0 where
  pub content : Content
  pub place : Tree
  pub is : t ≡ one (head.Region content) place
  pub fits : IsPlace blocks place

abbrev pub AreRegions : (blocks : List (Names ℕ)) → List Tree → Type 0
AreRegions bs [] = Unit {0}
AreRegions bs (t ∷ ts) = IsRegion bs t × AreRegions bs ts
