-- Bodies of logic functions over plain integers (ACSL 2.2): they bind no names, stand under no labels, and read variables of the file themselves.
use Rattle.std.specs.Prelude.{Bool, true, false, ◌&&◌, if◌then◌else◌, List, ◌∷◌, Option, Some, None}
use Rattle.typed_prog.specs.declared.operators.Variable.TheVariants as variables
use Rattle.acsl_trees.specs.declared.heads.Content.{Content}
use Rattle.acsl_trees.specs.declared.heads.Content.TheVariants as content
use Rattle.acsl_trees.specs.declared.heads.Head.{Head}
use Rattle.acsl_trees.specs.declared.heads.Head.TheVariants as h
use Rattle.acsl_trees.specs.declared.heads.Label.{Label}
use Rattle.acsl_trees.specs.Tree.{Tree, Trees, node, stop, more}
use Rattle.c_runs.specs.Truth.{heads_of}
use Rattle.plain_annotations.specs.Plain.{is_read}

-- the first kid is a variable of the file
abbrev pub is_of_file : List Head → Bool
is_of_file (h.Variable (variables.Global x) ∷ ls) = true
is_of_file ls = false

-- an integer that is read in the state in force
abbrev pub reads_plainly : Content → Option Label → List Head → Bool
reads_plainly (content.Integer k) None ls = is_of_file ls
reads_plainly (content.Integer k) (Some l) ls = false
reads_plainly content.Pointer l ls = false
reads_plainly (content.Struct n) l ls = false

abbrev pub node_is_simple : Head → List Head → Bool
node_is_simple (h.Number z) ls = true
node_is_simple (h.Name x) ls = true
node_is_simple (h.Call f) ls = true
node_is_simple (h.Read c l) ls = reads_plainly c l ls
node_is_simple h.Negate ls = true
node_is_simple h.Complement ls = true
node_is_simple (h.Arithmetic o) ls = true
node_is_simple (h.Convert k) ls = true
node_is_simple (h.Compare c) ls = true
node_is_simple h.Not ls = true
node_is_simple h.And ls = true
node_is_simple h.Or ls = true
node_is_simple h.Xor ls = true
node_is_simple h.Implies ls = true
node_is_simple h.Iff ls = true
node_is_simple h.Choose ls = true
node_is_simple (h.Link c) ls = true
node_is_simple h.Chain ls = true
node_is_simple head ls = false

-- what is read isn't a term
abbrev mutual
  pub is_simple : Tree → Bool
  is_simple (node head ks) = node_is_simple head (heads_of ks) && (if is_read head then true else are_simple ks)

  pub are_simple : Trees → Bool
  are_simple stop = true
  are_simple (more t ts) = is_simple t && are_simple ts
