-- Expressions, in the words of the code.
use Rattle.std.proofs.Common.{◌≡◌, ◌++◌, List, [], ◌∷◌, flat_map, ℤ, ℕ, refl, sym, ap, subst}
use Rattle.typed_prog.specs.declared.types.CoreType.{CoreType}
use Rattle.typed_prog.specs.declared.operators.Connective.{Connective}
use Rattle.typed_prog.specs.declared.operators.Effect.{Effect}
use Rattle.typed_prog.specs.declared.operators.Op.{Op}
use Rattle.typed_prog.specs.declared.tree.Value.{Value as Code}
use Rattle.typed_prog.specs.Tree as t
use Rattle.typed_prog.specs.Tree.{values_of}
use Rattle.typed_prog.specs.View.{view_value, view_values}
use Rattle.c_runs.specs.Program.{Variable, Facts}
use Rattle.program_cells.specs.declared.cells.Cells.{Cells}
use Rattle.program_cells.specs.Parts.{Part, type_parts}
use Rattle.program_cells.specs.Programs.{op_parts, node_parts, value_parts, values_parts}
use Rattle.program_cells.specs.View.{Adds}
use Rattle.program_cells.proofs.Adding.{nothing, then}

module _ (p : Facts) (xs : List Variable) where
  pub value_added : (type : CoreType) (n : t.ValueNode) (line : ℕ) (a b c : Cells) → Adds a b (type_parts p type) → Adds b c (node_parts p xs type n)
      → Adds a c (value_parts p xs (t.typed n type line))
  value_added type n line a b c h i = then a b c (type_parts p type) (node_parts p xs type n) h i

  -- ---- nodes

  pub constant_added : (type : CoreType) (n : t.ValueNode) (z : ℤ) (a : Cells) → n ≡ t.constant z → Adds a a (node_parts p xs type n)
  constant_added type n z a is = subst (λ m. Adds a a (node_parts p xs type m)) (sym is) (nothing a)

  pub null_added : (type : CoreType) (n : t.ValueNode) (a : Cells) → n ≡ t.null → Adds a a (node_parts p xs type n)
  null_added type n a is = subst (λ m. Adds a a (node_parts p xs type m)) (sym is) (nothing a)

  pub temporary_added : (type : CoreType) (n : t.ValueNode) (k : ℕ) (a : Cells) → n ≡ t.temporary k → Adds a a (node_parts p xs type n)
  temporary_added type n k a is = subst (λ m. Adds a a (node_parts p xs type m)) (sym is) (nothing a)

  pub operation_added : (type : CoreType) (n : t.ValueNode) (o : Op) (es : t.Values) (a b c : Cells) → n ≡ t.apply o es → Adds a b (op_parts p xs type o)
      → Adds b c (values_parts p xs es) → Adds a c (node_parts p xs type n)
  operation_added type n o es a b c is h i =
      subst (λ m. Adds a c (node_parts p xs type m)) (sym is) (then a b c (op_parts p xs type o) (values_parts p xs es) h i)

  pub logic_added : (type : CoreType) (n : t.ValueNode) (how : Connective) (e f : t.Value) (a b c : Cells) → n ≡ t.logic how e f → Adds a b (value_parts p xs e)
      → Adds b c (value_parts p xs f) → Adds a c (node_parts p xs type n)
  logic_added type n how e f a b c is h i =
      subst (λ m. Adds a c (node_parts p xs type m)) (sym is) (then a b c (value_parts p xs e) (value_parts p xs f) h i)

  pub choice_added : (type : CoreType) (n : t.ValueNode) (e f g : t.Value) (a b c d : Cells) → n ≡ t.choose e f g → Adds a b (value_parts p xs e)
      → Adds b c (value_parts p xs f) → Adds c d (value_parts p xs g) → Adds a d (node_parts p xs type n)
  choice_added type n e f g a b c d is h i j =
      subst (λ m. Adds a d (node_parts p xs type m)) (sym is) (then a b d (value_parts p xs e) (value_parts p xs f ++ value_parts p xs g) h
      (then b c d (value_parts p xs f) (value_parts p xs g) i j))

  pub effect_added : (type : CoreType) (n : t.ValueNode) (does : Effect) (es : t.Values) (a b : Cells) → n ≡ t.effect does es → Adds a b (values_parts p xs es)
      → Adds a b (node_parts p xs type n)
  effect_added type n does es a b is h = subst (λ m. Adds a b (node_parts p xs type m)) (sym is) h

  -- ---- operands

  abbrev pub code_parts : Code → List Part
  code_parts v = value_parts p xs (view_value v)

  pub parts_of_values : (es : List Code) → values_parts p xs (values_of (view_values es)) ≡ flat_map code_parts es
  parts_of_values [] = refl
  parts_of_values (e ∷ es) = ap (λ ps. code_parts e ++ ps) (parts_of_values es)

pub ruleset value_laws = (value_added)

pub ruleset node_laws = (constant_added, null_added, temporary_added, operation_added, logic_added, choice_added, effect_added)
