-- Trees that typing's test lets pass, and which of them have what they need.
use Rattle.std.specs.Prelude.{◌≡◌, ℕ, zero, suc, pos, Bool, true, false, List, [], ◌∷◌, Option, Some, None}
use Rattle.wp_base.specs.declared.kinds.Kind.TheVariants as kind
use Rattle.wp_base.specs.declared.kinds.CellKind.{CellKind}
use Rattle.wp_base.specs.declared.kinds.CellKind.TheVariants as cell
use Rattle.c_kinds.specs.declared.models.Machdep.{Machdep}
use Rattle.typed_prog.specs.declared.operators.Variable.{Variable}
use Rattle.typed_prog.specs.declared.operators.Variable.TheVariants as variables
use Rattle.typed_prog.specs.Types.{void}
use Rattle.acsl_trees.specs.declared.heads.Content.TheVariants as content
use Rattle.acsl_trees.specs.declared.heads.Head.TheVariants as head
use Rattle.acsl_trees.specs.Tree.{Tree, leaf, one, three}
use Rattle.acsl_well_typed.specs.WellTyped.{What, an_integer, a_pointer, a_region, Known, what_of}
use Rattle.acsl_well_typed.specs.Definitions.{known_with}
use Rattle.annotations_encoded.specs.Sights.{Site, holds_integer, holds_pointer, has_block, unknown, Sight, Sights}
use Rattle.annotations_encoded.specs.Serving.{serves}

-- the file has an `int` and a pointer that no pointer leads to, and an array; there are cells of `int`, and none of pointers
abbrev pub its_site : Variable → Site
its_site (variables.Global zero) = holds_integer (Some kind.Int)
its_site (variables.Global (suc zero)) = holds_pointer
its_site (variables.Global (suc (suc zero))) = has_block
its_site x = unknown

abbrev pub its_kind : CellKind → Bool
its_kind (cell.Of kind.Int) = true
its_kind k = false

abbrev pub its : Sight
its = record { site = its_site; has_table = true; has_kind = its_kind }

abbrev pub sights : Machdep → Sights
sights m = record { here = its; pre = its; post = its; loop_entry = its; result = None; model = m; structs = λ n. []; called = λ f. None }

abbrev pub k : Known
k = known_with true [] void

-- `x`, `p` and `a`, a number, and some elements of `a`
abbrev pub x : Tree
x = leaf (head.Variable (variables.Global 0))

abbrev pub p : Tree
p = one (head.Read content.Pointer None) (leaf (head.Variable (variables.Global 1)))

abbrev pub a : Tree
a = leaf (head.Variable (variables.Global 2))

abbrev pub number : ℕ → Tree
number n = leaf (head.Number (pos n))

abbrev pub some_elements : (size : ℕ) → Tree
some_elements size = three (head.Elements size 10) a (number 0) (number 3)

abbrev pub read : Tree → Tree
read t = one (head.Read (content.Integer kind.Int) None) t

-- typed so, and served or not
abbrev pub Row : Machdep → Tree → What → Bool → Type 0
Row m t w b = (what_of k [] t ≡ Some w) × (serves k (sights m) t ≡ b)

pub record ExamplesHold : Type 0 where
  -- what a variable holds, and what is at an address
  pub variable : (m : Machdep) → Row m (read x) an_integer true
  pub pointed : (m : Machdep) → Row m (read (one head.Pointed p)) an_integer true
  pub element : (m : Machdep) → Row m (read (one head.Pointed (one head.Address a))) an_integer true
  -- the memory of pointers isn't there
  pub no_memory : (m : Machdep) → Row m (one (head.Read content.Pointer None) (one head.Pointed p)) a_pointer false
  -- the variable holds an integer, or isn't in sight
  pub no_pointer : (m : Machdep) → Row m (one (head.Read content.Pointer None) x) a_pointer false
  pub unseen : (m : Machdep) → Row m (read (leaf (head.Variable (variables.Global 3)))) an_integer false
  -- addresses
  pub address : (m : Machdep) → Row m (one head.Address a) a_pointer true
  pub no_address : (m : Machdep) → Row m (one head.Address x) a_pointer false
  -- sets hold nothing and have no address; they may be valid, as no variable is that no pointer leads to
  pub set_read : (m : Machdep) → Row m (read (some_elements 1)) an_integer false
  pub set_address : (m : Machdep) → Row m (one head.Address (some_elements 1)) a_pointer false
  pub set_valid : (m : Machdep) → Row m (one (head.Valid (content.Integer kind.Int) true) (some_elements 1)) an_integer true
  pub not_valid : (m : Machdep) → Row m (one (head.Valid (content.Integer kind.Int) true) x) an_integer false
  -- regions
  pub object_region : (m : Machdep) → Row m (one (head.Region (content.Integer kind.Int)) (one head.Pointed p)) a_region true
  pub set_region : (m : Machdep) → Row m (one (head.Region (content.Integer kind.Int)) (some_elements 1)) a_region true
  pub other_size : (m : Machdep) → Row m (one (head.Region (content.Integer kind.Int)) (some_elements 2)) a_region false
  pub variable_region : (m : Machdep) → Row m (one (head.Region (content.Integer kind.Int)) x) a_region false
  -- a choice between objects
  pub choice : (m : Machdep) → Row m (read (three head.Choose (number 1) a a)) an_integer true
  pub no_choice : (m : Machdep) → Row m (read (three head.Choose (number 1) x a)) an_integer false
