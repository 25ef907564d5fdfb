-- What typing makes of definitions is in order.
use Rattle.std.proofs.Common.{◌≡◌, ℕ, Bool, true, false, if◌then◌else◌, length, List, [], ◌∷◌, ◌++◌, Option, Some, None, Ok, refl, zero, suc}
use Rattle.std.specs.Option.{is_some}
use Rattle.c_answers.specs.Answers.{after, unknown, wrong}
use Rattle.c_syntax.specs.Expr as e
use Rattle.c_syntax.specs.Term as t
use Rattle.c_syntax.specs.Decl as d
use Rattle.c_syntax.specs.Lines.{term_line_of}
use Rattle.typed_prog.specs.declared.types.CoreType.{CoreType}
use Rattle.typed_prog.specs.Types.{void, kind_of, is_pointer}
use Rattle.c_scopes.specs.declared.symbols.Resolved.{Resolved}
use Rattle.acsl_guards.specs.Guarding.{is_integer}
use Rattle.acsl_guards.specs.Recursive.{calls_itself}
use Rattle.acsl_trees.specs.Tree.{Tree}
use Rattle.acsl_trees.specs.Operands.{Operand}
use Rattle.acsl_trees.specs.declared.operands.TermType.{TermType}
use Rattle.acsl_trees.specs.declared.operands.TermType.TheVariants as type
use Rattle.acsl_rules.specs.Choices.{conditional}
use Rattle.acsl_rules.specs.Contexts.{passed}
use Rattle.acsl_rules.specs.Laws.{Fits, FitsType, Holds}
use Rattle.acsl_names.specs.declared.names.Bound.{Bound}
use Rattle.acsl_names.specs.declared.names.Definition.{Definition}
use Rattle.acsl_names.specs.declared.names.Definitions.{Definitions}
use Rattle.acsl_names.specs.declared.counting.Weight.{Weight}
use Rattle.acsl_names.specs.declared.counting.Count.{Count}
use Rattle.acsl_names.specs.Names.{Around, type_named, going_down}
use Rattle.acsl_names.specs.Sites.{Before}
use Rattle.acsl_names.specs.Labels.{current}
use Rattle.acsl_names.specs.Counting.{with_node, within}
use Rattle.acsl_terms.specs.Terms.{typed}
use Rattle.acsl_preds.specs.Binders.{with_bound, is_new}
use Rattle.acsl_clauses.specs.Clauses.{no_names}
use Rattle.acsl_definitions.specs.Definitions.{around_body, name_checked, resolved_type, named_type, spelled_type, result_by, form_checked, param_typed, params_typed, no_params, header_typed, function_typed, or_unknown, body_by, no_nodes, body_typed, definition_of, while_read, with_definition, defined, header_of, definition_typed}
use Rattle.acsl_well_typed.specs.WellTyped.{What, an_integer, a_pointer, Known, Names, type_gives, types_give, result_gives, called}
use Rattle.acsl_well_typed.specs.Terms.{HasTypes, HaveTypes, known_at}
use Rattle.acsl_well_typed.specs.Ranges.{AreNumbered}
use Rattle.acsl_well_typed.specs.Definitions.{known_with, BodyBinds, BodyFits, IsOneMore, DefinitionsAreWellTyped}
use Rattle.acsl_well_typed.proofs.Answers.{after_holds, after_any, holds_all, closed_holds, Of}
use Rattle.acsl_well_typed.proofs.Making.{given, as_made, makes}
use Rattle.acsl_well_typed.proofs.Finding.{all_fine}
use Rattle.acsl_well_typed.proofs.Terms.{operators, lists, typed_any, passed_is}
use Rattle.acsl_well_typed.proofs.Judging.{pred_fits}
use Rattle.acsl_well_typed.proofs.Scoping.{inside_numbered, more_numbered}
use Rattle.acsl_well_typed.proofs.Lists.{none_numbered}
use Rattle.acsl_well_typed.proofs.Truths.{types_more}
use Rattle.acsl_well_typed.proofs.Growth.{Grow, tree_grows}

-- ---- types

abbrev pub IsType : TermType → Type 0
IsType t = (w : What) × (type_gives t ≡ Some w)

abbrev pub HaveNames : List TermType → Type 0
HaveNames ts = (ns : Names) × (types_give ts ≡ Some ns)

term_type_if : (line : ℕ) (t : CoreType) (a b : Bool) → Holds IsType (if a then Ok type.Integer else if b then Ok (type.Pointer t) else wrong line)
term_type_if line t true b = (an_integer, refl)
term_type_if line t false true = (a_pointer, refl)
term_type_if line t false false = tt

resolved_is : (line : ℕ) (o : Option Resolved) → Holds IsType (resolved_type line o)
resolved_is line (Some r) = term_type_if line r.ty (is_some (kind_of r.ty)) (is_pointer r.ty)
resolved_is line None = tt

spelled_if : (c : Around) (line : ℕ) (x : e.CType) (b : Bool) → Holds IsType (if b then Ok type.Integer else named_type c line x)
spelled_if c line x true = (an_integer, refl)
spelled_if c line x false = after_any IsType (type_named c line x) _ (λ o. resolved_is line o)

spelled_is : (c : Around) (line : ℕ) (x : e.CType) → Holds IsType (spelled_type c line x)
spelled_is c line x = spelled_if c line x (is_integer x)

abbrev pub IsResult : Option TermType → Type 0
IsResult o = (w : What) × (result_gives o ≡ Some w)

result_is : (c : Around) (line : ℕ) (o : Option e.CType) → Holds IsResult (result_by c line o)
result_is c line None = (an_integer, refl)
result_is c line (Some x) = after_holds IsType IsResult (spelled_type c line x) _ (spelled_is c line x) (λ t f. f)

abbrev pub HasNames : Bound → Type 0
HasNames b = HaveNames b.types × AreNumbered b

param_by : (c : Around) (b : Bound) (x : e.VarDecl) (new : Bool) → is_new b x.name ≡ new → HasNames b
    → Holds HasNames (after (if new then spelled_type c x.line x.ty else unknown x.line) (λ t. Ok (with_bound b x.name t)))
param_by c b x true is f =
    after_holds IsType HasNames (spelled_type c x.line x.ty) _ (spelled_is c x.line x.ty)
    (λ t ft. ((f.0.0 ++ ft.0 ∷ [], types_more b.types f.0.0 t ft.0 f.0.1 ft.1), more_numbered b x.name t f.1 is))
param_by c b x false is f = tt

param_is : (c : Around) (b : Bound) (x : e.VarDecl) → HasNames b → Holds HasNames (param_typed c b x)
param_is c b x f = param_by c b x _ refl f

params_are : (c : Around) (b : Bound) (xs : List e.VarDecl) → HasNames b → Holds HasNames (params_typed c b xs)
params_are c b [] f = f
params_are c b (x ∷ xs) f = after_holds HasNames HasNames (param_typed c b x) _ (param_is c b x f) (λ q fq. params_are c q xs fq)

-- what stands before a body
abbrev pub domain_of : {X Y : Type 0} → (X → Y) → Type 0
domain_of {X = X} f = X

abbrev pub Header : Type 0
Header = domain_of while_read

pub record IsHeader (h : Header) : Type 0 where
  pub names : Names
  pub params : types_give h.params.types ≡ Some names
  pub given : What
  pub result : result_gives h.result ≡ Some given
  pub numbered : AreNumbered h.params

header_is : (c : Around) (q : d.LogicDecl) → Holds IsHeader (header_typed c q)
header_is c q =
    after_holds IsResult IsHeader (result_by c q.line q.result) _ (result_is c q.line q.result)
    (λ r fr. after_any IsHeader (form_checked q) _ (λ u. after_holds HasNames IsHeader (params_typed c no_params q.params) _
    (params_are c no_params q.params (([], refl), inside_numbered no_names none_numbered))
    (λ b fb. record { names = fb.0.0; params = fb.0.1; given = fr.0; result = fr.1; numbered = fb.1 })))

-- ---- one definition more

pub have_more : (ds : List Definition) (d : Definition) → HaveTypes ds → HasTypes d → HaveTypes (ds ++ d ∷ [])
have_more [] d f g = (g, tt)
have_more (x ∷ ds) d f g = (f.0, have_more ds d f.1 g)

-- only the types of the last one count
last_grows : (ds : List Definition) (x y : Definition) → ((ws : List What) (w : What) → called (Some x) ws ≡ Some w → called (Some y) ws ≡ Some w)
    → Grow (ds ++ x ∷ []) (ds ++ y ∷ [])
last_grows [] x y same zero ws w e = same ws w e
last_grows [] x y same (suc i) ws w e = absurd cc
last_grows (d ∷ ds) x y same zero ws w e = e
last_grows (d ∷ ds) x y same (suc i) ws w e = last_grows ds x y same i ws w e

pub body_grows : (z : Bool) (ds es : List Definition) (ns : Names) (body : d.LogicBody) (r : Option TermType) (u : Tree) → Grow ds es
    → BodyFits (known_with z ds void) ns body r u → BodyFits (known_with z es void) ns body r u
body_grows z ds es ns (d.term a) (Some r) u grow f = (f.0, f.1, tree_grows z ds es void grow ns f.0 u f.2)
body_grows z ds es ns (d.term a) None u grow f = (f.0, tree_grows z ds es void grow ns f.0 u f.1)
body_grows z ds es ns (d.pred p) r u grow f = tree_grows z ds es void grow ns an_integer u f

-- ---- bodies

module _ (z : Bool) (c : Around) (b : Bound) (ns : Names) (have : HaveTypes c.definitions.items) (scope : types_give b.types ≡ Some ns) where
  abbrev pub k : Known
  k = known_at z c

  abbrev pub IsTerm : Operand → Type 0
  IsTerm x = Fits (given k ns) x

  of_term : (n : Count) (a : t.Term) → Holds (Of IsTerm) (typed c b current n a)
  of_term n a = typed_any z c b ns have scope current n a

  function_fits : (ps : List e.VarDecl) (n : Count) (a : t.Term) → Holds (Of IsTerm) (function_typed c ps b n a)
  function_fits ps n (t.cond line test a d) =
      after_holds (Of IsTerm) (Of IsTerm) (typed c b current n test) _ (of_term n test) (λ x fx.
      after_holds (Of IsTerm) (Of IsTerm) (typed c b current (with_node line x.1) a) _ (of_term (with_node line x.1) a) (λ y fy.
      after_holds (Of IsTerm) (Of IsTerm) (typed (going_down ps c) b current y.1 d) _ (typed_any z (going_down ps c) b ns have scope current y.1 d) (λ w fw.
      closed_holds IsTerm x.1.limit (with_node line x.1).limit w.1 (conditional line x.0 y.0 w.0)
      ((operators z c b ns have [] (all_fine c b ns scope)).of_three line x.0 y.0 w.0 fx fy fw))))
  function_fits ps n (t.number line token) = of_term n (t.number line token)
  function_fits ps n (t.char line z) = of_term n (t.char line z)
  function_fits ps n (t.name line x) = of_term n (t.name line x)
  function_fits ps n (t.unary line o a) = of_term n (t.unary line o a)
  function_fits ps n (t.binary line o a d) = of_term n (t.binary line o a d)
  function_fits ps n (t.call line f args) = of_term n (t.call line f args)
  function_fits ps n (t.index line a d) = of_term n (t.index line a d)
  function_fits ps n (t.field line a f arrow) = of_term n (t.field line a f arrow)
  function_fits ps n (t.cast line type a) = of_term n (t.cast line type a)
  function_fits ps n (t.result line) = of_term n (t.result line)
  function_fits ps n (t.old line a) = of_term n (t.old line a)
  function_fits ps n (t.at_label line a x) = of_term n (t.at_label line a x)
  function_fits ps n (t.null line) = of_term n (t.null line)
  function_fits ps n (t.range line a d) = of_term n (t.range line a d)

  passed_fits : (line : ℕ) (a : t.Term) (r : Option TermType) (x : Operand) → IsResult r → IsTerm x
      → Holds (BodyFits k ns (d.term a) r) (passed line (or_unknown r) x)
  passed_fits line a (Some p) x has f = passed_is z c b ns have [] (all_fine c b ns scope) line p has.0 x has.1 f
  passed_fits line a None x has f =
      holds_all (FitsType (given k ns) type.Unknown) (BodyFits k ns (d.term a) None) (passed line type.Unknown x)
      (λ u q. (as_made k ns q.0, makes k ns q.0 u q.1)) ((lists z c b ns have [] (all_fine c b ns scope)).of_argument line type.Unknown x f)

  body_fits : (ps : List e.VarDecl) (n : Count) (r : Option TermType) (body : d.LogicBody) → IsResult r → (z ≡ true → AreNumbered b × BodyBinds body)
      → Holds (Of (BodyFits k ns body r)) (body_by c ps b n r body)
  body_fits ps n r (d.term a) has asked =
      after_holds (Of IsTerm) (Of (BodyFits k ns (d.term a) r)) (function_typed c ps b n a) _ (function_fits ps n a)
      (λ x fx. closed_holds (BodyFits k ns (d.term a) r) n.limit n.limit x.1 (passed (term_line_of a) (or_unknown r) x.0)
      (passed_fits (term_line_of a) a r x.0 has fx))
  body_fits ps n r (d.pred a) has asked = pred_fits z c have b ns current n a scope asked

-- ---- definitions whole

whole_fits : (z : Bool) (c : Around) (q : d.LogicDecl) (h : Header) (have : HaveTypes c.definitions.items) (is : IsHeader h) → (z ≡ true → BodyBinds q.body)
    → Holds (λ x. BodyFits (known_at z c) is.names q.body h.result x.0) (body_typed c q h)
whole_fits z c q h have is asked =
    after_holds (Of (BodyFits (known_at z c) is.names q.body h.result)) (λ x. BodyFits (known_at z c) is.names q.body h.result x.0)
    (body_by c q.params h.params (no_nodes (length h.params.types)) h.result q.body) _
    (body_fits z c h.params is.names have is.params q.params (no_nodes (length h.params.types)) h.result q.body (is.given, is.result)
    (λ h. (is.numbered, asked h)))
    (λ x f. after_any (λ x. BodyFits (known_at z c) is.names q.body h.result x.0) (within x.1.limit) _ (λ u. f))

read_has : (h : Header) → IsHeader h → HasTypes (while_read h)
read_has h is = record { names = is.names; params = is.params; given = is.given; result = is.result }

defined_is : (z : Bool) (f : Before) (ds : Definitions) (q : d.LogicDecl) (h : Header) → HaveTypes ds.items → IsHeader h → (z ≡ true → BodyBinds q.body)
    → Holds (λ r. IsOneMore z ds.items q r.0 r.1.items) (defined f ds q h)
defined_is z f ds q h have is asked =
    after_holds (λ x. BodyFits (known_with z (ds.items ++ while_read h ∷ []) void) is.names q.body h.result x.0) (λ r. IsOneMore z ds.items q r.0 r.1.items)
    (body_typed (around_body f (with_definition ds q.name (while_read h)) (Some (length ds.items))) q h) _
    (whole_fits z (around_body f (with_definition ds q.name (while_read h)) (Some (length ds.items))) q h
    (have_more ds.items (while_read h) have (read_has h is)) is asked)
    (λ x fx. one_more_is z ds.items q h is x.0 x.1 fx)
  where
    one_more_is : (z : Bool) (ds : List Definition) (q : d.LogicDecl) (h : Header) (is : IsHeader h) (u : Tree) (w : Weight)
        → BodyFits (known_with z (ds ++ while_read h ∷ []) void) is.names q.body h.result u
        → IsOneMore z ds q u (ds ++ definition_of h w (calls_itself q) ∷ [])
    one_more_is z ds q h is u w f = record {
      last = definition_of h w (calls_itself q);
      is = refl;
      types = record { names = is.names; params = is.params; given = is.given; result = is.result };
      fits = record {
        names = is.names;
        params = is.params;
        body = body_grows z (ds ++ while_read h ∷ []) (ds ++ definition_of h w (calls_itself q) ∷ []) is.names q.body h.result u
            (last_grows ds (while_read h) (definition_of h w (calls_itself q)) (λ ws w e. e)) f;
      };
    }

pub definitions_are_well_typed : DefinitionsAreWellTyped
unfolding definition_typed
definitions_are_well_typed z f ds q have asked =
    after_holds IsHeader (λ r. IsOneMore z ds.items q r.0 r.1.items) (header_of f ds q) _
    (after_any IsHeader (name_checked f ds q) _ (λ u. header_is (around_body f ds None) q)) (λ h is. defined_is z f ds q h have is asked)
