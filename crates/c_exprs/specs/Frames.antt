-- What stands around an operand that is typed first, from the outermost operator on.
use Rattle.std.specs.Prelude.{◌≡◌, ℕ, List, [], ◌∷◌, ◌++◌, map, Result, Ok, Err}
use Rattle.wp_base.specs.declared.answers.Refusal.{Refusal}
use Rattle.wp_base.specs.declared.answers.Stop.{Stop}
use Rattle.wp_base.specs.declared.answers.Stop.TheVariants as stop
use Rattle.wp_base.specs.declared.memory.NoMemory.{NoMemory}
use Rattle.c_syntax.specs.declared.expr.Expr.{Expr}
use Rattle.c_syntax.specs.Expr as e
use Rattle.c_syntax.specs.View.{view_expr}
use Rattle.c_answers.specs.Answers.{Answer, after, Gives}
use Rattle.typed_prog.specs.Tree as t
use Rattle.c_operands.specs.declared.operands.Operand.{Operand as CodeOperand}
use Rattle.c_operands.specs.Operands.{Operand, view_operand}
use Rattle.c_rules.specs.Operators.{binary}
use Rattle.c_places.specs.Objects.{indexed}
use Rattle.c_places.specs.Changes.{stepped}
use Rattle.c_exprs.specs.declared.frames.Frame.{Frame}
use Rattle.c_exprs.specs.declared.frames.Frame.TheVariants as frame
use Rattle.c_exprs.specs.Typing.{Around, assign, field}

abbrev pub view_settled : Result CodeOperand Refusal → Answer Operand
view_settled (Ok x) = Ok (view_operand x)
view_settled (Err r) = Err r

-- an operator over its first operand; the other one was typed already
abbrev pub framed : Around → Frame → Answer Operand → Answer Operand
framed c (frame.Binary o line right) x = after x (λ v. after (view_settled right) (binary c.model c.sizes line o v))
framed c (frame.Index line right) x = after x (λ v. after (view_settled right) (indexed c.sizes line v))
framed c (frame.Assign o line place) x = after x (assign c.model c.sizes line o (view_operand place))
framed c (frame.Field name arrow line) x = after x (field c.scope line name.now arrow)
framed c (frame.Step up prefix line) x = after x (stepped c.model c.sizes line up prefix)

unfoldable pub all_framed : Around → List Frame → Answer Operand → Answer Operand
all_framed c [] x = x
all_framed c (f ∷ fs) x = framed c f (all_framed c fs x)

abbrev pub Given : Type 0
Given = Answer Operand

-- An answer that isn't want of memory is the one that is settled.
abbrev pub Settles : Result CodeOperand Stop → Result (Result CodeOperand Refusal) NoMemory → Type 0
Settles answer (Ok settled) = (given : Answer Operand) → Gives view_operand answer given → given ≡ view_settled settled
Settles answer (Err e) = answer ≡ Err stop.NoMemory

-- ---- arguments

abbrev pub args_of : List Expr → e.Exprs
args_of args = e.exprs_of (map view_expr args)

-- these values, and then those that are typed
abbrev pub behind : List t.Value → Answer (List t.Value) → Answer (List t.Value)
behind vs o = after o (λ ws. Ok (vs ++ ws))
