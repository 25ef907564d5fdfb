-- Operators around an operand that is typed first.
use Rattle.std.proofs.Common.{◌≡◌, ℕ, Bool, List, [], ◌∷◌, ◌++◌, Option, Result, Ok, Err, refl, sym, ap, subst, ◌∙◌}
use Rattle.wp_base.specs.declared.answers.Stop.{Stop}
use Rattle.wp_base.specs.declared.answers.Stop.TheVariants as stop
use Rattle.wp_base.specs.declared.answers.Refusal.{Refusal}
use Rattle.c_syntax.specs.declared.expr.BinOp.{BinOp}
use Rattle.c_syntax.specs.declared.expr.Expr.{Expr}
use Rattle.c_syntax.specs.declared.expr.ExprNode.{ExprNode}
use Rattle.c_syntax.specs.declared.expr.ExprNode.TheVariants as node
use Rattle.c_syntax.specs.View.{view_expr, view_expr_node}
use Rattle.c_syntax.proofs.Equations.{view_expr_node-Binary, view_expr_node-Index, view_expr_node-Assign, view_expr_node-Field, view_expr_node-Step, view_expr_node-Cond}
use Rattle.c_answers.specs.Answers.{Answer, after, Gives}
use Rattle.c_operands.specs.declared.operands.Operand.{Operand as CodeOperand}
use Rattle.c_operands.specs.Operands.{Operand, view_operand}
use Rattle.c_rules.specs.Operators.{binary, conditional}
use Rattle.c_places.specs.Objects.{indexed}
use Rattle.c_exprs.specs.declared.frames.Frame.{Frame}
use Rattle.c_exprs.specs.declared.frames.Frame.TheVariants as frame
use Rattle.c_exprs.specs.Typing.{Around, typed, assign}
use Rattle.c_exprs.specs.Frames.{view_settled, framed, all_framed}

-- the last one is the innermost
pub innermost : (c : Around) (fs : List Frame) (f : Frame) (x : Answer Operand) → all_framed c (fs ++ f ∷ []) x ≡ all_framed c fs (framed c f x)
unfolding all_framed
innermost c [] f x = refl
innermost c (g ∷ fs) f x = ap (framed c g) (innermost c fs f x)

-- a fault inside is one of the whole
one_fault : (c : Around) (f : Frame) (r : Refusal) → framed c f (Err r) ≡ Err r
one_fault c (frame.Binary o line right) r = refl
one_fault c (frame.Index line right) r = refl
one_fault c (frame.Assign o line place) r = refl
one_fault c (frame.Field name arrow line) r = refl
one_fault c (frame.Step up prefix line) r = refl

every_fault : (c : Around) (fs : List Frame) (r : Refusal) → all_framed c fs (Err r) ≡ Err r
unfolding all_framed
every_fault c [] r = refl
every_fault c (f ∷ fs) r = ap (framed c f) (every_fault c fs r) ∙ one_fault c f r

pub nothing_around : (c : Around) (fs : List Frame) (x : Answer Operand) → fs ≡ [] → all_framed c fs x ≡ x
unfolding all_framed
nothing_around c fs x none = ap (λ gs. all_framed c gs x) none

-- ---- on the way up

pub frame_turn : (c : Around) (all fs : List Frame) (f : Frame) (x : Answer Operand) (y : Operand) (whole : Answer Operand) → all ≡ fs ++ f ∷ [] → framed c f x ≡ Ok y → all_framed c all x ≡ whole → all_framed c fs (Ok y) ≡ whole
frame_turn c all fs f x y whole split made so_far = ap (all_framed c fs) (sym made) ∙ sym (innermost c fs f x) ∙ ap (λ gs. all_framed c gs x) (sym split) ∙ so_far

pub frame_fault : {V : Type 0} (see : V → Operand) (c : Around) (all fs : List Frame) (f : Frame) (x : Answer Operand) (e : Stop) (whole : Answer Operand) → all ≡ fs ++ f ∷ [] → Gives see (Err e) (framed c f x)
    → all_framed c all x ≡ whole → Gives see (Err e) whole
frame_fault see c all fs f x (stop.Refused r) whole split fault so_far =
    sym so_far ∙ ap (λ gs. all_framed c gs x) split ∙ innermost c fs f x ∙ ap (all_framed c fs) fault ∙ every_fault c fs r
frame_fault see c all fs f x stop.NoMemory whole split fault so_far = tt

pub fault_inside : {V : Type 0} (see : V → Operand) (c : Around) (fs : List Frame) (x : Answer Operand) (e : Stop) → Gives see (Err e) x → Gives see (Err e) (all_framed c fs x)
fault_inside see c fs x (stop.Refused r) fault = ap (all_framed c fs) fault ∙ every_fault c fs r
fault_inside see c fs x stop.NoMemory fault = tt

-- ---- on the way down: one operator more is around what is left

down : (c : Around) (fs more : List Frame) (f : Frame) (x inner whole : Answer Operand) → more ≡ fs ++ f ∷ [] → x ≡ framed c f inner → all_framed c fs x ≡ whole → all_framed c more inner ≡ whole
down c fs more f x inner whole grown is so_far = ap (λ gs. all_framed c gs inner) grown ∙ innermost c fs f inner ∙ ap (all_framed c fs) (sym is) ∙ so_far

seen : (c : Around) (x : Expr) (n : ExprNode) → x.node ≡ n → typed c (view_expr x) ≡ typed c (view_expr_node n x.line)
seen c x n is = ap (λ m. typed c (view_expr_node m x.line)) is

pub binary_turn : (c : Around) (fs more : List Frame) (x left right : Expr) (o : BinOp) (a : Result CodeOperand Refusal) (whole : Answer Operand) → x.node ≡ node.Binary o left right → more ≡ fs ++ frame.Binary o x.line a ∷ []
    → typed c (view_expr right) ≡ view_settled a → all_framed c fs (typed c (view_expr x)) ≡ whole → all_framed c more (typed c (view_expr left)) ≡ whole
binary_turn c fs more x left right o a whole is grown made so_far =
    down c fs more (frame.Binary o x.line a) (typed c (view_expr x)) (typed c (view_expr left)) whole grown
    (seen c x (node.Binary o left right) is ∙ ap (typed c) (view_expr_node-Binary o left right x.line)
    ∙ ap (λ b. after (typed c (view_expr left)) (λ v. after b (binary c.model c.sizes x.line o v))) made) so_far

pub index_turn : (c : Around) (fs more : List Frame) (x left right : Expr) (a : Result CodeOperand Refusal) (whole : Answer Operand) → x.node ≡ node.Index left right → more ≡ fs ++ frame.Index x.line a ∷ []
    → typed c (view_expr right) ≡ view_settled a → all_framed c fs (typed c (view_expr x)) ≡ whole → all_framed c more (typed c (view_expr left)) ≡ whole
index_turn c fs more x left right a whole is grown made so_far =
    down c fs more (frame.Index x.line a) (typed c (view_expr x)) (typed c (view_expr left)) whole grown
    (seen c x (node.Index left right) is ∙ ap (typed c) (view_expr_node-Index left right x.line)
    ∙ ap (λ b. after (typed c (view_expr left)) (λ v. after b (indexed c.sizes x.line v))) made) so_far

assign_seen : (c : Around) (x place value : Expr) (o : Option BinOp) (p : Answer Operand) → x.node ≡ node.Assign o place value → typed c (view_expr place) ≡ p
    → typed c (view_expr x) ≡ after p (λ q. after (typed c (view_expr value)) (assign c.model c.sizes x.line o q))
assign_seen c x place value o p is made =
    seen c x (node.Assign o place value) is ∙ ap (typed c) (view_expr_node-Assign o place value x.line)
    ∙ ap (λ q. after q (λ q'. after (typed c (view_expr value)) (assign c.model c.sizes x.line o q'))) made

pub assign_turn : (c : Around) (fs more : List Frame) (x place value : Expr) (o : Option BinOp) (p : CodeOperand) (whole : Answer Operand) → x.node ≡ node.Assign o place value → more ≡ fs ++ frame.Assign o x.line p ∷ []
    → typed c (view_expr place) ≡ Ok (view_operand p) → all_framed c fs (typed c (view_expr x)) ≡ whole → all_framed c more (typed c (view_expr value)) ≡ whole
assign_turn c fs more x place value o p whole is grown made so_far =
    down c fs more (frame.Assign o x.line p) (typed c (view_expr x)) (typed c (view_expr value)) whole grown (assign_seen c x place value o (Ok (view_operand p)) is made) so_far

pub assign_fault : {V W : Type 0} (see : V → Operand) (see' : W → Operand) (c : Around) (fs : List Frame) (x place value : Expr) (o : Option BinOp) (e : Stop) (whole : Answer Operand) → x.node ≡ node.Assign o place value
    → Gives see (Err e) (typed c (view_expr place)) → all_framed c fs (typed c (view_expr x)) ≡ whole → Gives see' (Err e) whole
assign_fault see see' c fs x place value o (stop.Refused r) whole is fault so_far =
    sym so_far ∙ ap (all_framed c fs) (assign_seen c x place value o (Err r) is fault) ∙ every_fault c fs r
assign_fault see see' c fs x place value o stop.NoMemory whole is fault so_far = tt

pub field_turn : (c : Around) (fs more : List Frame) (x of : Expr) (f : Frame) (name : List ℕ) (arrow : Bool) (whole : Answer Operand) → x.node ≡ node.Field of name arrow → more ≡ fs ++ f ∷ []
    → framed c f (typed c (view_expr of)) ≡ typed c (view_expr_node (node.Field of name arrow) x.line) → all_framed c fs (typed c (view_expr x)) ≡ whole → all_framed c more (typed c (view_expr of)) ≡ whole
field_turn c fs more x of f name arrow whole is grown made so_far =
    down c fs more f (typed c (view_expr x)) (typed c (view_expr of)) whole grown (seen c x (node.Field of name arrow) is ∙ sym made) so_far

pub step_turn : (c : Around) (fs more : List Frame) (x of : Expr) (up prefix : Bool) (whole : Answer Operand) → x.node ≡ node.Step up prefix of → more ≡ fs ++ frame.Step up prefix x.line ∷ []
    → all_framed c fs (typed c (view_expr x)) ≡ whole → all_framed c more (typed c (view_expr of)) ≡ whole
step_turn c fs more x of up prefix whole is grown so_far =
    down c fs more (frame.Step up prefix x.line) (typed c (view_expr x)) (typed c (view_expr of)) whole grown
    (seen c x (node.Step up prefix of) is ∙ ap (typed c) (view_expr_node-Step up prefix of x.line)) so_far

-- ---- at the operand itself

pub cond_is : (c : Around) (fs : List Frame) (x test first second test' first' second' : Expr) (whole : Answer Operand) → x.node ≡ node.Cond test first second → test' ≡ test → first' ≡ first → second' ≡ second
    → all_framed c fs (typed c (view_expr x)) ≡ whole
    → all_framed c fs (after (typed c (view_expr test')) (λ v. after (typed c (view_expr first')) (λ w. after (typed c (view_expr second')) (conditional c.model x.line v w)))) ≡ whole
cond_is c fs x test first second test' first' second' whole is is_test is_first is_second so_far =
    (λ i. all_framed c fs (after (typed c (view_expr (is_test i))) (λ v. after (typed c (view_expr (is_first i))) (λ w. after (typed c (view_expr (is_second i))) (conditional c.model x.line v w)))))
    ∙ ap (all_framed c fs) (sym (seen c x (node.Cond test first second) is ∙ ap (typed c) (view_expr_node-Cond test first second x.line))) ∙ so_far

pub at_operand : {V W : Type 0} (see : V → Operand) (see' : W → Operand) (c : Around) (fs : List Frame) (first : Result V Stop) (result : Result W Stop) (x whole : Answer Operand)
    → ((given : Answer Operand) → Gives see first given → Gives see' result (all_framed c fs given)) → Gives see first x → all_framed c fs x ≡ whole → Gives see' result whole
at_operand see see' c fs first result x whole all gives so_far = subst (λ w. Gives see' result w) so_far (all x gives)

pub ruleset turn_laws = (binary_turn, index_turn, assign_turn, assign_fault, step_turn, at_operand)
