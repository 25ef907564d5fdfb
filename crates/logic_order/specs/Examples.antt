-- A file with an `int` g and the function `sum(n) = n <= 0 ? 0 : sum(n - 1) + g` is in order, and others aren't.
use Rattle.std.specs.Prelude.{◌≡◌, ℕ, ℤ, pos, true, false, List, [], ◌∷◌, codes, Some, None}
use Rattle.wp_base.specs.declared.kinds.Kind.TheVariants as kind
use Rattle.wp_base.specs.declared.kinds.CellKind.TheVariants as cell
use Rattle.c_kinds.specs.declared.models.Machdep.TheVariants as machdep
use Rattle.typed_prog.specs.declared.operators.Variable.TheVariants as variables
use Rattle.typed_prog.specs.declared.operators.Arithmetic.TheVariants as ar
use Rattle.typed_prog.specs.declared.operators.Comparison.TheVariants as cmp
use Rattle.acsl_trees.specs.declared.heads.Content.TheVariants as content
use Rattle.acsl_trees.specs.declared.heads.Head.TheVariants as h
use Rattle.acsl_trees.specs.Tree.{Tree, leaf, one as one_kid, two, three}
use Rattle.c_runs.specs.Program.{Variable, Facts}
use Rattle.acsl_encode.specs.Readings.{one, integer_global}
use Rattle.logic_order.specs.Names.{FileNames}
use Rattle.logic_order.specs.Order.{told_as, is_in_order, takes_in}

abbrev pub of_int : Variable
of_int = record { layout = record { count = 1; cells = cell.Of kind.Int ∷ []; writable = true }; is_plain = true; has_value = false }

abbrev pub read_g : Tree
read_g = one_kid (h.Read (content.Integer kind.Int) None) (leaf (h.Variable (variables.Global 0)))

-- `sum(n - z)`
abbrev pub call_less : ℤ → Tree
call_less z = one_kid (h.Call 0) (two (h.Arithmetic ar.Sub) (leaf (h.Name 0)) (leaf (h.Number z)))

abbrev pub body_with : (less : ℤ) → Tree
body_with z =
    three h.Choose (two (h.Compare cmp.AtMost) (leaf (h.Name 0)) (leaf (h.Number (pos 0)))) (leaf (h.Number (pos 0)))
    (two (h.Arithmetic ar.Add) (call_less z) read_g)

abbrev pub file_with : (less : ℤ) → Facts
file_with z = record {
  model = machdep.X86_64;
  globals = of_int ∷ [];
  structs = [];
  definitions = record { body = body_with z; is_recursive = true } ∷ [];
  in_cluster = λ m n. false;
}

abbrev pub spelled_as : (param : List ℕ) → FileNames
spelled_as x = record { functions = record { name = codes "sum"; params = one x ∷ [] } ∷ []; variables = codes "g" ∷ [] }

pub record ExamplesHold : Type 0 where
  pub ordered : is_in_order (file_with (pos 1)) (spelled_as (codes "n")) ≡ true
  -- it is given g, and takes one integer
  pub given : (told_as (file_with (pos 1)) (spelled_as (codes "n")) 0).globals ≡ integer_global 0 kind.Int (codes "g") ∷ []
  pub takes : takes_in (file_with (pos 1)) (spelled_as (codes "n")) ≡ Some 1 ∷ []
  -- two steps at once, and a parameter with the name of the variable
  pub two_steps : is_in_order (file_with (pos 2)) (spelled_as (codes "n")) ≡ false
  pub same_name : is_in_order (file_with (pos 1)) (spelled_as (codes "g")) ≡ false
