-- What holds of an answer that is no fault, and of operands and values that spell an expression.
use Rattle.std.proofs.Common.{◌≡◌, ℕ, Bool, true, false, ◌&&◌, Ok, Err, refl, sym, true≢false}
use Rattle.c_syntax.specs.declared.expr.UnOp.TheVariants as un
use Rattle.c_syntax.specs.Expr as e
use Rattle.typed_prog.specs.Tree as t
use Rattle.c_answers.specs.Answers.{Answer, after}
use Rattle.c_operands.specs.Operands.{Operand, Rvalue}
use Rattle.c_exprs.specs.Typing.{Around}
use Rattle.c_spelled_back.specs.Constants.{IsConstantExpr, behind_plus, behind_both}
use Rattle.c_spelled_back.specs.Spelled.{ValueSpells, OperandSpells}

abbrev pub Holds : {X : Type 0} → (P : X → Type 0) → Answer X → Type 0
Holds P (Ok x) = P x
Holds P (Err r) = Unit {0}

pub after_holds : {X Y : Type 0} (P : X → Type 0) (Q : Y → Type 0) (o : Answer X) (f : X → Answer Y) → Holds P o → ((x : X) → P x → Holds Q (f x))
    → Holds Q (after o f)
after_holds P Q (Ok x) f holds more = more x holds
after_holds P Q (Err r) f holds more = tt

-- the same of what the answer is
pub after_is : {X Y : Type 0} (Q : Y → Type 0) (o : Answer X) (f : X → Answer Y) → ((x : X) → o ≡ Ok x → Holds Q (f x)) → Holds Q (after o f)
after_is Q (Ok x) f more = more x refl
after_is Q (Err r) f more = tt

-- the same of both
pub after_known : {X Y : Type 0} (P : X → Type 0) (Q : Y → Type 0) (o : Answer X) (f : X → Answer Y) → Holds P o → ((x : X) → o ≡ Ok x → P x → Holds Q (f x))
    → Holds Q (after o f)
after_known P Q (Ok x) f holds more = more x refl holds
after_known P Q (Err r) f holds more = tt

-- the value of an operand that spells the expression
abbrev pub RvalueSpells : Around → e.Expr → Rvalue → Type 0
RvalueSpells c x v = ValueSpells c v.value x × (v.is_constant ≡ true → IsConstantExpr c x)

abbrev pub Made : Around → e.Expr → Answer Operand → Type 0
Made c x o = Holds (λ y. OperandSpells c y x) o

-- ---- booleans

pub never : {X : Type 0} → false ≡ true → X
never h = absurd (true≢false (sym h))

pub both : (f g : Bool) → (f && g) ≡ true → (f ≡ true) × (g ≡ true)
both true g h = (refl, h)
both false g h = never h

-- ---- what leaves no node

pub plus_stands : (c : Around) (line : ℕ) (v : t.Value) (x : e.Expr) → ValueSpells c v x → ValueSpells c v (e.unary line un.Plus x)
plus_stands c line (t.typed node type at) x fits = (fits.0, behind_plus line x fits.0 fits.1, fits.2, fits.3)

pub both_stand : (c : Around) (line at : ℕ) (v : t.Value) (x : e.Expr) → ValueSpells c v x
    → ValueSpells c v (e.unary line un.AddressOf (e.unary at un.Deref x))
both_stand c line at (t.typed node type l) x fits = (fits.0, behind_both line at x fits.0 fits.1, fits.2, fits.3)
