-- What bodies of logic functions come to that are over plain integers and bind no names (ACSL 2.2, 2.6.3).
use Rattle.std.specs.Prelude.{ℕ, ◌==◌, if◌then◌else◌, List, [], ◌∷◌, Option, Some, None}
use Rattle.c_kinds.specs.declared.models.Machdep.{Machdep}
use Rattle.typed_prog.specs.declared.operators.Variable.TheVariants as variables
use Rattle.acsl_trees.specs.declared.heads.Content.{Content}
use Rattle.acsl_trees.specs.declared.heads.Content.TheVariants as content
use Rattle.acsl_trees.specs.declared.heads.Head.{Head}
use Rattle.acsl_trees.specs.declared.heads.Head.TheVariants as h
use Rattle.acsl_trees.specs.Tree.{Tree, Trees, node, stop, more}
use Rattle.c_runs.specs.Truth.{heads_of}
use Rattle.qed_terms.specs.Tree.{Tree as Term, var}
use Rattle.acsl_encode.specs.Readings.{Global, integer_global, pointer_global, Slot, whole, pointer, absent, Terms, truth, nothing, Common, Reading}
use Rattle.acsl_encode.specs.Encode.{Names, with_one, all_of, in_chain, held, applied, called, integer_of, pointer_in}
use Rattle.acsl_encode.specs.Setting.{Known, body_reading}
use Rattle.acsl_encode.specs.Told.{number_of}
use Rattle.logic_trees.specs.Told.{node_is_simple}
use Rattle.logic_trees.specs.Heads.{first_global}

-- the reading of a body that is given these variables and no memories
abbrev pub reading_with : Common → Known → List Global → Reading
reading_with r known gs = body_reading r known (record { name = []; params = []; memories = []; globals = gs })

-- ---- variables

abbrev pub found_in : List Global → (number : ℕ) → Option Global
found_in [] n = None
found_in (g ∷ gs) n = if number_of g == n then Some g else found_in gs n

abbrev pub slot_of : Option Global → Slot
slot_of (Some (integer_global n k x)) = whole k (var x)
slot_of (Some (pointer_global n b o)) = pointer (var b) (var o)
slot_of None = absent

-- what a function wants of a variable
abbrev pub wanted : Machdep → Global → Slot → Option (List Term)
wanted m (integer_global n k x) s = integer_of m k s
wanted m (pointer_global n b o) s = pointer_in s

-- the integer in a variable of the file
abbrev pub read_by : Reading → Content → Option ℕ → Terms
read_by r (content.Integer k) (Some n) = held (content.Integer k) (r.here.variable (variables.Global n))
read_by r (content.Integer k) None = nothing
read_by r content.Pointer o = nothing
read_by r (content.Struct n) o = nothing

-- ---- trees

module _ (r : Reading) (ns : Names) where
  abbrev pub body_node : Head → List Head → List Terms → Terms
  body_node (h.Name x) ls xs = ns x
  body_node (h.Call f) ls xs = called r (r.called f) xs
  body_node (h.Read c l) ls xs = read_by r c (first_global ls)
  body_node h.Chain ls xs = with_one (λ fs. truth (all_of fs)) (in_chain ls xs)
  body_node head ls xs = if node_is_simple head ls then applied r head xs else nothing

  abbrev mutual
    pub body_terms : Tree → Terms
    body_terms (node head ks) = body_node head (heads_of ks) (all_terms ks)

    pub all_terms : Trees → List Terms
    all_terms stop = []
    all_terms (more t ts) = body_terms t ∷ all_terms ts
