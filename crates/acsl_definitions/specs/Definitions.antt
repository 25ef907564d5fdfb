-- The definition of a predicate or of a logic function, typed, or the first fault in it (ACSL 2.6). First what is to be said at its name: that nothing
-- else has it, its result, and in which form it calls itself; then its parameters, and then its body.
use Rattle.std.specs.Prelude.{ℕ, Bool, true, ◌&&◌, not, List, [], ◌∷◌, ◌++◌, length, if◌then◌else◌, Option, Some, None, Ok}
use Rattle.std.specs.Option.{is_some}
use Rattle.c_answers.specs.Answers.{Answer, after, unknown, wrong}
use Rattle.c_syntax.specs.Expr as e
use Rattle.c_syntax.specs.Term as t
use Rattle.c_syntax.specs.Decl as d
use Rattle.c_syntax.specs.Lines.{term_line_of}
use Rattle.name_table.specs.Names.{declared, is_free}
use Rattle.typed_prog.specs.declared.types.CoreType.{CoreType}
use Rattle.typed_prog.specs.Types.{void, kind_of, is_pointer}
use Rattle.c_scopes.specs.declared.symbols.Resolved.{Resolved}
use Rattle.acsl_guards.specs.Guarding.{is_integer}
use Rattle.acsl_guards.specs.Recursive.{calls_itself, is_recursive_form}
use Rattle.acsl_trees.specs.Tree.{Tree}
use Rattle.acsl_trees.specs.Operands.{Operand}
use Rattle.acsl_trees.specs.declared.operands.TermType.{TermType}
use Rattle.acsl_trees.specs.declared.operands.TermType.TheVariants as type
use Rattle.acsl_rules.specs.Choices.{conditional}
use Rattle.acsl_rules.specs.Contexts.{passed}
use Rattle.acsl_names.specs.declared.names.Bound.{Bound}
use Rattle.acsl_names.specs.declared.names.Definition.{Definition}
use Rattle.acsl_names.specs.declared.names.Definitions.{Definitions}
use Rattle.acsl_names.specs.declared.names.Site.TheVariants as site
use Rattle.acsl_names.specs.declared.counting.Limit.TheVariants as limit
use Rattle.acsl_names.specs.declared.counting.Weight.{Weight}
use Rattle.acsl_names.specs.declared.counting.Count.{Count}
use Rattle.acsl_names.specs.Names.{Around, type_named, going_down}
use Rattle.acsl_names.specs.Sites.{Before, Within, around}
use Rattle.acsl_names.specs.Labels.{current}
use Rattle.acsl_names.specs.Counting.{no_weight, with_node, within}
use Rattle.acsl_terms.specs.Leaves.{closed, misshapen}
use Rattle.acsl_terms.specs.Terms.{typed}
use Rattle.acsl_definitions.specs.declared.headers.Header.{Header}
use Rattle.acsl_preds.specs.Binders.{inside, with_bound, is_new}
use Rattle.acsl_preds.specs.Preds.{typed_pred}

-- no function is around a definition
abbrev pub nowhere : Within
nowhere = record { objects = []; params = 0; result = void }

-- what is around a definition with this number, where these stand before it
abbrev pub around_body : Before → Definitions → (itself : Option ℕ) → Around
around_body f ds i = around f ds [] nowhere site.Definition i

-- ---- its name

-- No other definition has it, and nothing of C anywhere in the file.
abbrev pub name_checked : Before → Definitions → d.LogicDecl → Answer (Unit {0})
name_checked f ds l = if is_free f.file.names l.name && is_free ds.names l.name then Ok tt else unknown l.line

-- ---- types of parameters and results

-- an integer, whatever kind it is spelled with, or a pointer
abbrev pub term_type : (line : ℕ) → CoreType → Answer TermType
term_type line t = if is_some (kind_of t) then Ok type.Integer else if is_pointer t then Ok (type.Pointer t) else wrong line

abbrev pub resolved_type : (line : ℕ) → Option Resolved → Answer TermType
resolved_type line (Some r) = term_type line r.ty
resolved_type line None = wrong line

abbrev pub named_type : Around → (line : ℕ) → e.CType → Answer TermType
named_type c line x = after (type_named c line x) (resolved_type line)

abbrev pub spelled_type : Around → (line : ℕ) → e.CType → Answer TermType
spelled_type c line x = if is_integer x then Ok type.Integer else named_type c line x

abbrev pub result_by : Around → (line : ℕ) → Option e.CType → Answer (Option TermType)
result_by c line None = Ok None
result_by c line (Some x) = after (spelled_type c line x) (λ t. Ok (Some t))

-- ---- a definition that calls itself

-- A logic function that does is of type `integer` and has the form of a recursion. Of a predicate each call of itself is a fault where it stands.
abbrev pub has_form : d.LogicDecl → Option e.CType → d.LogicBody → Bool
has_form l (Some x) (d.term a) = is_integer x && is_recursive_form l.params a
has_form l _ _ = true

abbrev pub form_checked : d.LogicDecl → Answer (Unit {0})
form_checked l = if calls_itself l && not (has_form l l.result l.body) then misshapen l.line else Ok tt

-- ---- parameters

-- a parameter that has the name of one before it is a fault
abbrev pub param_type : Around → Bound → e.VarDecl → Answer TermType
param_type c b x = if is_new b x.name then spelled_type c x.line x.ty else unknown x.line

abbrev pub param_typed : Around → Bound → e.VarDecl → Answer Bound
param_typed c b x = after (param_type c b x) (λ t. Ok (with_bound b x.name t))

abbrev pub params_typed : Around → Bound → List e.VarDecl → Answer Bound
params_typed c b [] = Ok b
params_typed c b (x ∷ xs) = after (param_typed c b x) (λ b'. params_typed c b' xs)

abbrev pub no_params : Bound
no_params = inside (record { scopes = []; types = [] })

-- ---- what stands of a definition before its body

-- the types of its parameters, by their names, and that of its result, or the first fault in these or in the form
abbrev pub header_typed : Around → d.LogicDecl → Answer Header
header_typed c l =
    after (result_by c l.line l.result)
    (λ r. after (form_checked l) (λ _. after (params_typed c no_params l.params) (λ b. Ok (record { params = b; result = r }))))

-- ---- its body

-- A logic function may call itself in the last branch of a conditional that is its body; elsewhere it has been told that it doesn't.
abbrev pub function_typed : Around → List e.VarDecl → Bound → Count → t.Term → Answer (Operand × Count)
function_typed c ps b n (t.cond line test a d) =
    after (typed c b current n test) (λ x. after (typed c b current (with_node line x.1) a) (λ y. after (typed (going_down ps c) b current y.1 d)
    (λ z. closed x.1.limit (with_node line x.1).limit z.1 (conditional line x.0 y.0 z.0))))
function_typed c ps b n a = typed c b current n a

-- the value of a logic function, of the type of its result
abbrev pub value_typed : Around → List e.VarDecl → Bound → Count → TermType → t.Term → Answer (Tree × Count)
value_typed c ps b n r a = after (function_typed c ps b n a) (λ x. closed n.limit n.limit x.1 (passed (term_line_of a) r x.0))

-- a body that is a term without a result doesn't come from a text
abbrev pub or_unknown : Option TermType → TermType
or_unknown (Some t) = t
or_unknown None = type.Unknown

abbrev pub body_by : Around → List e.VarDecl → Bound → Count → Option TermType → d.LogicBody → Answer (Tree × Count)
body_by c ps b n r (d.term a) = value_typed c ps b n (or_unknown r) a
body_by c ps b n r (d.pred a) = typed_pred c b current n a

-- nothing is counted yet, beside so many parameters
abbrev pub no_nodes : (params : ℕ) → Count
no_nodes n = record { limit = limit.Counting; weight = no_weight n }

-- the body, and how many nodes it has, which are no more than the limit
abbrev pub body_typed : Around → d.LogicDecl → Header → Answer (Tree × Weight)
body_typed c l h =
    after (body_by c l.params h.params (no_nodes (length h.params.types)) h.result l.body) (λ x. after (within x.1.limit) (λ _. Ok (x.0, x.1.weight)))

-- ---- the definition whole

abbrev pub definition_of : Header → Weight → (is_recursive : Bool) → Definition
definition_of h w is_recursive = record { params = h.params.types; result = h.result; weight = w; is_recursive = is_recursive }

-- While its body is read: it may call itself, and no call of it is expanded.
abbrev pub while_read : Header → Definition
while_read h = definition_of h (no_weight (length h.params.types)) true

-- once its body was read
abbrev pub once_read : Weight → (is_recursive : Bool) → Definition → Definition
once_read w is_recursive d = record d { weight = w; is_recursive = is_recursive }

-- one definition more, with the next number
abbrev pub with_definition : Definitions → List ℕ → Definition → Definitions
with_definition ds x y = record { names = declared ds.names x (length ds.items); items = ds.items ++ y ∷ [] }

abbrev pub defined : Before → Definitions → d.LogicDecl → Header → Answer (Tree × Definitions)
defined f ds l h =
    after (body_typed (around_body f (with_definition ds l.name (while_read h)) (Some (length ds.items))) l h)
    (λ x. Ok (x.0, with_definition ds l.name (definition_of h x.1 (calls_itself l))))

-- what is looked at while it isn't one of the definitions yet
abbrev pub header_of : Before → Definitions → d.LogicDecl → Answer Header
header_of f ds l = after (name_checked f ds l) (λ _. header_typed (around_body f ds None) l)

-- what it stands for, and the definitions with it
unfoldable pub definition_typed : Before → Definitions → d.LogicDecl → Answer (Tree × Definitions)
definition_typed f ds l = after (header_of f ds l) (λ h. defined f ds l h)
