-- Which expressions spell the way to an object, over operands as spelled (C11 6.5.1, 6.5.2.1, 6.5.2.3, 6.5.3.2).
use Rattle.std.specs.Prelude.{◌≡◌, ◌⊎◌, ℕ, true, false, List, [], ◌∷◌, Some, Ok, bytes_eq, slice_get}
use Rattle.c_syntax.specs.declared.expr.UnOp.TheVariants as un
use Rattle.c_syntax.specs.Expr as e
use Rattle.c_syntax.specs.Lines.{line_of}
use Rattle.typed_prog.specs.declared.operators.Root.{Root}
use Rattle.typed_prog.specs.declared.operators.Root.TheVariants as root
use Rattle.typed_prog.specs.declared.operators.Step.{Step}
use Rattle.typed_prog.specs.declared.operators.Step.TheVariants as step
use Rattle.typed_prog.specs.declared.operators.Path.{Path}
use Rattle.c_operands.specs.Operands.{Operand}
use Rattle.c_places.specs.Objects.{dotted_struct}
use Rattle.c_scopes.specs.declared.symbols.Symbol.TheVariants as symbol
use Rattle.c_scopes.specs.declared.symbols.Structure.{Structure}
use Rattle.c_scopes.specs.declared.symbols.Field.{Field}
use Rattle.c_scopes.specs.Declarations.{find}
use Rattle.c_exprs.specs.Typing.{Around, typed}

-- `a[b]` is the same as `b[a]` (6.5.2.1p2)
abbrev pub IsElement : (line : ℕ) → (base at : e.Expr) → e.Expr → Type 0
IsElement line base at x = (x ≡ e.index line base at) ⊎ (x ≡ e.index line at base)

-- `(*a).f` is the same as `a->f` (6.5.2.3p4)
abbrev pub IsMember : (line : ℕ) → (base : e.Expr) → (f : List ℕ) → e.Expr → Type 0
IsMember line base f x =
    (x ≡ e.field line base f false) ⊎ ((at : ℕ) × (a : e.Expr) × (base ≡ e.unary at un.Deref a) × (x ≡ e.field line a f true))

-- in the struct that the object before the `.` is, the field with this number and this first cell has the name
abbrev pub NamesField : Around → (base : e.Expr) → (number offset : ℕ) → (f : List ℕ) → Type 0
NamesField c base number offset f =
    (o : Operand) × (n : ℕ) × (s : Structure) × (m : Field) × (typed c base ≡ Ok o) × (dotted_struct o ≡ Some n) × (slice_get c.scope.file.structs n ≡ Some s)
    × (slice_get s.fields number ≡ Some m) × (bytes_eq f m.name ≡ true) × (slice_get s.layout.fields number ≡ Some offset)

-- one step on from an object; `operands` are the operands of the way, in their order
abbrev pub StepSpells : Around → (operands : List e.Expr) → Step → (inner whole : e.Expr) → Type 0
StepSpells c xs (step.Field number offset) a x = (line : ℕ) × (f : List ℕ) × NamesField c a number offset f × IsMember line a f x
StepSpells c xs (step.Element operand size count line) a x = (at : e.Expr) × (slice_get xs operand ≡ Some at) × IsElement line a at x
StepSpells c xs (step.Moved operand size) a x = ⊥

-- these steps lead from the object that is spelled first to the one that is spelled last
abbrev pub StepsSpell : Around → (operands : List e.Expr) → List Step → (inner whole : e.Expr) → Type 0
StepsSpell c xs [] a x = a ≡ x
StepsSpell c xs (s ∷ ss) a x = (b : e.Expr) × StepSpells c xs s a b × StepsSpell c xs ss b x

-- where a pointer leads: `*a`, or with a step from there `a[b]`; and then on by these steps
abbrev pub PointedSpells : Around → (operands : List e.Expr) → (pointer : e.Expr) → List Step → e.Expr → Type 0
PointedSpells c xs a (step.Moved operand size ∷ ss) x =
    (line : ℕ) × (at : e.Expr) × (b : e.Expr) × (slice_get xs operand ≡ Some at) × IsElement line a at b × StepsSpell c xs ss b x
PointedSpells c xs a ss x = (line : ℕ) × StepsSpell c xs ss (e.unary line un.Deref a) x

abbrev pub WaySpells : Around → (operands : List e.Expr) → Root → List Step → e.Expr → Type 0
WaySpells c xs (root.Variable v) ss x = (line : ℕ) × (y : List ℕ) × (find c.scope y ≡ Some (symbol.Object v)) × StepsSpell c xs ss (e.name line y) x
WaySpells c xs (root.Pointed operand) ss x = (a : e.Expr) × (slice_get xs operand ≡ Some a) × PointedSpells c xs a ss x

-- the object that the way leads to, on the line of its last step
abbrev pub PathSpells : Around → (operands : List e.Expr) → Path → e.Expr → Type 0
PathSpells c xs p x = (line_of x ≡ p.line) × WaySpells c xs p.root p.steps x
