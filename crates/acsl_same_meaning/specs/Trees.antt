-- What typing makes of terms is well formed (ACSL 2.2.3): names have numbers below those around, and calls as many arguments as parameters.
use Rattle.std.specs.Prelude.{◌≡◌, ℕ, Bool, true, List, length, Some, slice_get}
use Rattle.std.specs.Option.{is_some}
use Rattle.c_syntax.specs.declared.expr.UnOp.{UnOp}
use Rattle.c_syntax.specs.declared.expr.BinOp.{BinOp}
use Rattle.c_syntax.specs.Term as t
use Rattle.acsl_trees.specs.declared.heads.Label.{Label}
use Rattle.acsl_trees.specs.Tree.{Tree}
use Rattle.acsl_trees.specs.Operands.{Operand}
use Rattle.acsl_rules.specs.Laws.{Holds}
use Rattle.acsl_rules.specs.Operators.{unary, binary}
use Rattle.acsl_rules.specs.Choices.{conditional}
use Rattle.acsl_names.specs.declared.names.Bound.{Bound}
use Rattle.acsl_names.specs.declared.names.Definition.{Definition}
use Rattle.acsl_names.specs.declared.names.Reading.{Reading}
use Rattle.acsl_names.specs.declared.names.Site.{Site}
use Rattle.acsl_names.specs.declared.counting.Count.{Count}
use Rattle.acsl_names.specs.Names.{Around}
use Rattle.acsl_names.specs.Labels.{label_at, old_at}
use Rattle.acsl_terms.specs.Terms.{typed}
use Rattle.c_runs.specs.TruthLaws.{Signatures, is_well_formed}

-- where labels and binders may stand or not, by the signatures of the definitions, and with so many names around
abbrev pub Fits : (labels binders : Bool) → Signatures → (around : ℕ) → Tree → Type 0
Fits l u s d t = is_well_formed l u s d t ≡ true

abbrev pub OperandFits : (labels binders : Bool) → Signatures → (around : ℕ) → Operand → Type 0
OperandFits l u s d x = Fits l u s d x.tree

pub record OperatorsFit (l u : Bool) (s : Signatures) (d : ℕ) : Type 0 where
  pub of_one : (line : ℕ) (o : UnOp) (x : Operand) → OperandFits l u s d x → Holds (OperandFits l u s d) (unary line o x)
  pub of_two : (sizes : List ℕ) (line : ℕ) (o : BinOp) (x y : Operand) → OperandFits l u s d x → OperandFits l u s d y
      → Holds (OperandFits l u s d) (binary sizes line o x y)
  pub of_three : (line : ℕ) (b x y : Operand) → OperandFits l u s d b → OperandFits l u s d x → OperandFits l u s d y
      → Holds (OperandFits l u s d) (conditional line b x y)

abbrev pub OperatorsKeep : Type 0
OperatorsKeep = (l u : Bool) (s : Signatures) (d : ℕ) → OperatorsFit l u s d

-- ---- what stands around

-- the signatures of these definitions, and perhaps of more
abbrev pub Signed : Signatures → List Definition → Type 0
Signed s ds = (i : ℕ) (x : Definition) → slice_get ds i ≡ Some x → ((s i).params ≡ length x.params) × ((s i).is_term ≡ is_some x.result)

-- Where no label may stand, none has a meaning.
pub record MayLabel (l : Bool) (a : Site) : Type 0 where
  pub old : (x : Label) → old_at a ≡ Some x → l ≡ true
  pub named : (name : List ℕ) (x : Label) → label_at a name ≡ Some x → l ≡ true

abbrev pub TermsAreWellFormed : Type 0
TermsAreWellFormed =
    (l u : Bool) (s : Signatures) (c : Around) (b : Bound) (r : Reading) (n : Count) (a : t.Term) → Signed s c.definitions.items → MayLabel l c.site
    → Holds (λ x. OperandFits l u s (length b.types) x.0) (typed c b r n a)
