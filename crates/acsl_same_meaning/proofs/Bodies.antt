-- What a definition stands for is well formed, and has the form of a recursion where it calls itself.
use Rattle.std.proofs.Common.{◌≡◌, ℕ, zero, suc, Bool, true, false, ◌&&◌, not, if◌then◌else◌, List, [], ◌∷◌, ◌++◌, length, Option, Some, None, Ok, Err, slice_get, refl, ap, sym, ◌∙◌, subst}
use Rattle.std.specs.Option.{is_some}
use Rattle.std.proofs.lemmas.Bool.{and_parts}
use Rattle.c_answers.specs.Answers.{Answer, unknown}
use Rattle.c_syntax.specs.Expr as e
use Rattle.c_syntax.specs.Term as t
use Rattle.c_syntax.specs.Decl as d
use Rattle.c_syntax.specs.Lines.{term_line_of}
use Rattle.name_table.specs.Names.{is_free}
use Rattle.name_table.proofs.Declaring.{declares}
use Rattle.acsl_guards.specs.Guarding.{is_integer}
use Rattle.acsl_guards.specs.Mentions.{calls}
use Rattle.acsl_guards.specs.Recursive.{body_calls, calls_itself, is_recursive_form, pred_calls}
use Rattle.acsl_trees.specs.declared.operands.TermType.{TermType}
use Rattle.acsl_trees.specs.declared.operands.TermType.TheVariants as type
use Rattle.acsl_trees.specs.Tree.{Tree}
use Rattle.acsl_trees.specs.Operands.{Operand}
use Rattle.acsl_rules.specs.Choices.{conditional}
use Rattle.acsl_rules.specs.Contexts.{passed}
use Rattle.acsl_rules.specs.Laws.{Holds}
use Rattle.acsl_names.specs.declared.names.Bound.{Bound}
use Rattle.acsl_names.specs.declared.names.Definition.{Definition}
use Rattle.acsl_names.specs.declared.names.Definitions.{Definitions}
use Rattle.acsl_names.specs.declared.names.Meaning.TheVariants as meaning
use Rattle.acsl_names.specs.declared.names.Site.TheVariants as site
use Rattle.acsl_names.specs.declared.counting.Weight.{Weight}
use Rattle.acsl_names.specs.declared.counting.Count.{Count}
use Rattle.acsl_names.specs.Names.{Around, going_down, as_definition, definition_of as definition_named}
use Rattle.acsl_names.specs.Sites.{Before}
use Rattle.acsl_names.specs.Labels.{current, label_at}
use Rattle.acsl_names.specs.Counting.{with_node, within}
use Rattle.acsl_terms.specs.Leaves.{misshapen}
use Rattle.acsl_terms.specs.Terms.{typed}
use Rattle.acsl_preds.specs.Binders.{is_new}
use Rattle.acsl_preds.specs.Preds.{typed_pred}
use Rattle.acsl_definitions.specs.Definitions.{around_body, name_checked, spelled_type, result_by, has_form, form_checked, param_type, param_typed, params_typed, no_params, header_typed, function_typed, value_typed, or_unknown, body_by, no_nodes, body_typed, definition_of, while_read, with_definition, defined, header_of, definition_typed}
use Rattle.c_runs.specs.TruthLaws.{Signatures, is_well_formed, tests_number, is_definition}
use Rattle.acsl_same_meaning.specs.Trees.{Signed, MayLabel}
use Rattle.acsl_same_meaning.specs.Definitions.{IsOneMore}
use Rattle.acsl_well_typed.specs.Ranges.{AreNumbered}
use Rattle.acsl_same_meaning.specs.Spelled.{BodyIsSpelled, IsSpelled}
use Rattle.acsl_same_meaning.proofs.Answers.{after_holds, after_any, holds_all, holds_any, holds_each, holds_both, closed_holds, Of}
use Rattle.acsl_same_meaning.proofs.Operators.{both, Good, IsGood, conditional_fits}
use Rattle.acsl_same_meaning.proofs.Objects.{passed_fits}
use Rattle.acsl_same_meaning.proofs.Terms.{typed_any}
use Rattle.acsl_same_meaning.proofs.Scoping.{more_numbered, inside_numbered, some_same}
use Rattle.acsl_same_meaning.proofs.Truths.{EndsStand, pred_fits}
use Rattle.acsl_same_meaning.proofs.Silent.{pred_says}
use Rattle.acsl_same_meaning.proofs.Recursive.{Tests, value_is}

abbrev domain_of : {X Y : Type 0} → (X → Y) → Type 0
domain_of {X = X} f = X

abbrev pub Header : Type 0
Header = domain_of while_read

-- the ends of ranges are well formed, wherever they stand
abbrev pub AllStand : Type 0
AllStand = (l : Bool) (s : Signatures) (c : Around) (sig : Signed s c.definitions.items) (lab : MayLabel l c.site) → EndsStand l s c sig lab

-- ---- one definition more

-- only the types count
pub signed_last : (s : Signatures) (ds : List Definition) (x y : Definition) → x.params ≡ y.params → x.result ≡ y.result → Signed s (ds ++ x ∷ [])
    → Signed s (ds ++ y ∷ [])
signed_last s [] x y p r f zero z found =
    let same : y ≡ z = cc in let q = f 0 x refl in (q.0 ∙ ap length p ∙ ap (λ y. length y.params) same, q.1 ∙ ap is_some r ∙ ap (λ y. is_some y.result) same)
signed_last s [] x y p r f (suc i) z found = absurd cc
signed_last s (d ∷ ds) x y p r f zero z found = f zero z found
signed_last s (d ∷ ds) x y p r f (suc i) z found = signed_last (λ i. s (suc i)) ds x y p r (λ i z found. f (suc i) z found) i z found

-- what stands first, stands in the whole
pub found_first : {X : Type 0} (xs ys : List X) (i : ℕ) (x : X) → slice_get xs i ≡ Some x → slice_get (xs ++ ys) i ≡ Some x
found_first [] ys i x h = absurd cc
found_first (z ∷ xs) ys zero x h = h
found_first (z ∷ xs) ys (suc i) x h = found_first xs ys i x h

pub signed_first : (s : Signatures) (ds es : List Definition) → Signed s (ds ++ es) → Signed s ds
signed_first s ds es f i x found = f i x (found_first ds es i x found)

pub found_last : {X : Type 0} (xs : List X) (x : X) → slice_get (xs ++ x ∷ []) (length xs) ≡ Some x
found_last [] x = refl
found_last (z ∷ xs) x = found_last xs x

-- ---- labels have no meaning in a definition

pub no_labels : MayLabel false site.Definition
unfolding label_at
no_labels = record { old = λ x is. absurd cc; named = λ name x is. absurd cc }

-- ---- what stands of a definition before its body

no_names : AreNumbered no_params
no_names = inside_numbered (record { scopes = []; types = [] }) (λ x i is. absurd cc)

param_if : (c : Around) (b : Bound) (x : e.VarDecl) (new : Bool) → is_new b x.name ≡ new
    → Holds (λ t. is_new b x.name ≡ true) (if new then spelled_type c x.line x.ty else unknown x.line)
param_if c b x true is = holds_any (λ t. is_new b x.name ≡ true) (spelled_type c x.line x.ty) (λ t. is)
param_if c b x false is = tt

params_are : (c : Around) (b : Bound) (xs : List e.VarDecl) → AreNumbered b → Holds AreNumbered (params_typed c b xs)
params_are c b [] f = f
params_are c b (x ∷ xs) f =
    after_holds AreNumbered AreNumbered (param_typed c b x) _
    (after_holds (λ t. is_new b x.name ≡ true) AreNumbered (param_type c b x) _ (param_if c b x (is_new b x.name) refl)
    (λ t new. more_numbered b x.name t f new)) (λ b' fb. params_are c b' xs fb)

pub record IsHeader (ds : Definitions) (l : d.LogicDecl) (h : Header) : Type 0 where
  pub free : is_free ds.names l.name ≡ true
  pub form : calls_itself l ≡ true → has_form l l.result l.body ≡ true
  pub none : l.result ≡ None → h.result ≡ None
  pub integer : (x : e.CType) → l.result ≡ Some x → is_integer x ≡ true → h.result ≡ Some type.Integer
  pub numbered : AreNumbered h.params

abbrev IsResult : Option e.CType → Option TermType → Type 0
IsResult o r = (o ≡ None → r ≡ None) × ((x : e.CType) → o ≡ Some x → is_integer x ≡ true → r ≡ Some type.Integer)

spelled_if : (o : Answer TermType) (b : Bool) → Holds (λ t. b ≡ true → t ≡ type.Integer) (if b then Ok type.Integer else o)
spelled_if o true = λ e. refl
spelled_if o false = holds_any (λ t. false ≡ true → t ≡ type.Integer) o (λ t e. absurd cc)

result_is : (c : Around) (line : ℕ) (o : Option e.CType) → Holds (IsResult o) (result_by c line o)
result_is c line None = ((λ e. refl), (λ x e. absurd cc))
result_is c line (Some y) =
    after_holds (λ t. is_integer y ≡ true → t ≡ type.Integer) (IsResult (Some y)) (spelled_type c line y) _ (spelled_if _ (is_integer y))
    (λ t f. ((λ e. absurd cc), (λ x e is. ap (λ t. Some t) (f (ap is_integer (some_same y x e) ∙ is)))))

form_if : (line : ℕ) (a b : Bool) → Holds {X = Unit {0}} (λ u. a ≡ true → b ≡ true) (if a && not b then misshapen line else Ok tt)
form_if line true true = λ e. refl
form_if line true false = tt
form_if line false b = λ e. absurd cc

header_of_is : (ds : Definitions) (c : Around) (l : d.LogicDecl) → is_free ds.names l.name ≡ true → Holds (IsHeader ds l) (header_typed c l)
header_of_is ds c l free =
    after_holds (IsResult l.result) (IsHeader ds l) (result_by c l.line l.result) _ (result_is c l.line l.result)
    (λ r fr. after_holds (λ u. calls_itself l ≡ true → has_form l l.result l.body ≡ true) (IsHeader ds l) (form_checked l) _
    (form_if l.line (calls_itself l) (has_form l l.result l.body))
    (λ u form. after_holds AreNumbered (IsHeader ds l) (params_typed c no_params l.params) _ (params_are c no_params l.params no_names)
    (λ b fb. record { free = free; form = form; none = fr.0; integer = fr.1; numbered = fb })))

name_if : (line : ℕ) (a b : Bool) → Holds {X = Unit {0}} (λ u. b ≡ true) (if a && b then Ok tt else unknown line)
name_if line true true = refl
name_if line true false = tt
name_if line false b = tt

header_is : (f : Before) (ds : Definitions) (l : d.LogicDecl) → Holds (IsHeader ds l) (header_of f ds l)
header_is f ds l =
    after_holds (λ u. is_free ds.names l.name ≡ true) (IsHeader ds l) (name_checked f ds l) _
    (name_if l.line (is_free f.file.names l.name) (is_free ds.names l.name))
    (λ u free. header_of_is ds (around_body f ds None) l free)

-- ---- bodies

module _ (stand : AllStand) (c : Around) (b : Bound) (lab : MayLabel false c.site) (numbered : AreNumbered b) where
  abbrev depth : ℕ
  depth = length b.types

  module _ (s : Signatures) (sig : Signed s c.definitions.items) (u : Bool) where
    abbrev IsTerm : Operand → Type 0
    IsTerm x = IsGood false u s depth x

    of_term : (n : Count) (a : t.Term) → Holds (Of IsTerm) (typed c b current n a)
    of_term n a = typed_any false s c b sig lab u current n a

    function_fits : (ps : List e.VarDecl) (n : Count) (a : t.Term) → Holds (Of IsTerm) (function_typed c ps b n a)
    function_fits ps n (t.cond line test a e) =
        after_holds (Of IsTerm) (Of IsTerm) (typed c b current n test) _ (of_term n test) (λ x fx.
        after_holds (Of IsTerm) (Of IsTerm) (typed c b current (with_node line x.1) a) _ (of_term (with_node line x.1) a) (λ y fy.
        after_holds (Of IsTerm) (Of IsTerm) (typed (going_down ps c) b current y.1 e) _ (typed_any false s (going_down ps c) b sig lab u current y.1 e) (λ z fz.
        closed_holds IsTerm x.1.limit (with_node line x.1).limit z.1 (conditional line x.0 y.0 z.0)
        (conditional_fits false u s depth line x.0 y.0 z.0 fx fy fz))))
    function_fits ps n (t.number line token) = of_term n (t.number line token)
    function_fits ps n (t.char line z) = of_term n (t.char line z)
    function_fits ps n (t.name line x) = of_term n (t.name line x)
    function_fits ps n (t.unary line o a) = of_term n (t.unary line o a)
    function_fits ps n (t.binary line o a e) = of_term n (t.binary line o a e)
    function_fits ps n (t.call line f args) = of_term n (t.call line f args)
    function_fits ps n (t.index line a e) = of_term n (t.index line a e)
    function_fits ps n (t.field line a f arrow) = of_term n (t.field line a f arrow)
    function_fits ps n (t.cast line type a) = of_term n (t.cast line type a)
    function_fits ps n (t.result line) = of_term n (t.result line)
    function_fits ps n (t.old line a) = of_term n (t.old line a)
    function_fits ps n (t.at_label line a x) = of_term n (t.at_label line a x)
    function_fits ps n (t.null line) = of_term n (t.null line)
    function_fits ps n (t.range line a e) = of_term n (t.range line a e)

    value_fits : (ps : List e.VarDecl) (n : Count) (r : TermType) (a : t.Term) → Holds (Of (Good false u s depth)) (value_typed c ps b n r a)
    value_fits ps n r a =
        after_holds (Of IsTerm) (Of (Good false u s depth)) (function_typed c ps b n a) _ (function_fits ps n a)
        (λ x fx. closed_holds (Good false u s depth) n.limit n.limit x.1 (passed (term_line_of a) r x.0)
        (passed_fits false u s depth (term_line_of a) r x.0 fx))

  -- by the definition's own signature, which has a result or not
  body_fits : (k : ℕ) (x : Definition) → slice_get c.definitions.items k ≡ Some x → (ps : List e.VarDecl) (n : Count) (r : Option TermType) → x.result ≡ r
      → (res : Option e.CType)
      → (res ≡ None → r ≡ None) → (body : d.LogicBody) → BodyIsSpelled res body → (s : Signatures) → Signed s c.definitions.items
      → Holds (Of (Good false (not (s k).is_term) s depth)) (body_by c ps b n r body)
  body_fits k x at ps n r is (Some y) none (d.term a) spelled s sig = value_fits s sig (not (s k).is_term) ps n (or_unknown r) a
  body_fits k x at ps n r is None none (d.pred a) spelled s sig =
      let no : (s k).is_term ≡ false = (sig k x at).1 ∙ ap is_some (is ∙ none refl) in
      subst (λ q. Holds (Of (Good false (not q) s depth)) (typed_pred c b current n a)) (sym no)
      (pred_fits false s c sig lab (stand false s c sig lab) b current n a numbered spelled)
  body_fits k x at ps n r is (Some y) none (d.pred a) spelled s sig = absurd spelled
  body_fits k x at ps n r is None none (d.term a) spelled s sig = absurd spelled

  -- ---- recursion

  abbrev TestsIf : Bool → Tree → Type 0
  TestsIf q t = q ≡ true → Tests t

  term_tests : (l : d.LogicDecl) (n : Count) (r : Option TermType) (y : e.CType) (a : t.Term) (q : Bool) → (q ≡ true → has_form l (Some y) (d.term a) ≡ true)
      → (is_integer y ≡ true → r ≡ Some type.Integer) → Holds (Of (TestsIf q)) (value_typed c l.params b n (or_unknown r) a)
  term_tests l n r y a true form integer =
      let p : (is_integer y ≡ true) × (is_recursive_form l.params a ≡ true) = and_parts (is_integer y) (is_recursive_form l.params a) (form refl) in
      subst (λ r. Holds (Of (TestsIf true)) (value_typed c l.params b n (or_unknown r) a)) (sym (integer p.0))
      (holds_all (Of Tests) (Of (TestsIf true)) (value_typed c l.params b n type.Integer a) (λ x f e. f) (value_is c l.params b n a p.1))
  term_tests l n r y a false form integer = holds_any (Of (TestsIf false)) (value_typed c l.params b n (or_unknown r) a) (λ x e. absurd cc)

  body_tests : (l : d.LogicDecl) (k : ℕ) (x : Definition) → definition_named c.definitions l.name ≡ meaning.Definition k
      → slice_get c.definitions.items k ≡ Some x → x.is_recursive ≡ true
      → c.itself ≡ Some k → c.down ≡ None → (n : Count) (r : Option TermType) → x.result ≡ r → (res : Option e.CType) → (res ≡ None → r ≡ None)
      → ((y : e.CType) → res ≡ Some y → is_integer y ≡ true → r ≡ Some type.Integer) → (body : d.LogicBody) → BodyIsSpelled res body
      → (body_calls l.name body ≡ true → has_form l res body ≡ true)
      → Holds (Of (TestsIf (body_calls l.name body))) (body_by c l.params b n r body)
  body_tests l k x named at rec itself down n r is (Some y) none integer (d.term a) spelled form = term_tests l n r y a (calls l.name a) form (integer y refl)
  body_tests l k x named at rec itself down n r is None none integer (d.pred a) spelled form =
      holds_all (λ q. pred_calls l.name a ≡ false) (Of (TestsIf (pred_calls l.name a))) (typed_pred c b current n a) (λ q no e. absurd cc)
      (pred_says c l.name k x named at (is ∙ none refl) rec itself down b current n a)
  body_tests l k x named at rec itself down n r is (Some y) none integer (d.pred a) spelled form = absurd spelled
  body_tests l k x named at rec itself down n r is None none integer (d.term a) spelled form = absurd spelled

-- ---- definitions whole

if_tests : (q : Bool) (t : Tree) → (q ≡ true → Tests t) → (if q then tests_number t else true) ≡ true
if_tests true t f = f refl
if_tests false t f = refl

module _ (stand : AllStand) (f : Before) (ds : Definitions) (l : d.LogicDecl) (spelled : IsSpelled l) where
  abbrev k : ℕ
  k = length ds.items

  module _ (h : Header) (is : IsHeader ds l h) where
    abbrev c : Around
    c = around_body f (with_definition ds l.name (while_read h)) (Some k)

    abbrev params : ℕ
    params = length h.params.types

    named : definition_named c.definitions l.name ≡ meaning.Definition k
    named = ap as_definition ((declares ds.names l.name k).new is.free)

    at : slice_get c.definitions.items k ≡ Some (while_read h)
    at = found_last ds.items (while_read h)

    -- whatever signatures there are
    abbrev Fits : Tree → Type 0
    Fits t = (s : Signatures) → Signed s c.definitions.items → Good false (not (s k).is_term) s params t

    abbrev Whole : Tree → Type 0
    Whole t = Fits t × (calls_itself l ≡ true → Tests t)

    abbrev start : Count
    start = no_nodes params

    whole_by : Holds (Of Whole) (body_by c l.params h.params start h.result l.body)
    whole_by =
        holds_both (Of Fits) (Of (λ t. calls_itself l ≡ true → Tests t)) (body_by c l.params h.params start h.result l.body)
        (holds_each (λ s x. Signed s c.definitions.items → Good false (not (s k).is_term) s params x.0) (body_by c l.params h.params start h.result l.body)
        (λ s. each_signed (body_by c l.params h.params start h.result l.body) (λ sig.
        body_fits stand c h.params no_labels is.numbered k (while_read h) at l.params start h.result refl l.result is.none l.body spelled s sig)))
        (body_tests stand c h.params no_labels is.numbered l k
        (while_read h) named at refl refl refl start h.result refl l.result is.none is.integer l.body spelled is.form)
      where
        each_signed : {s : Signatures} (o : Answer (Tree × Count)) → (Signed s c.definitions.items → Holds (Of (Good false (not (s k).is_term) s params)) o)
            → Holds (λ x. Signed s c.definitions.items → Good false (not (s k).is_term) s params x.0) o
        each_signed (Ok x) f = f
        each_signed (Err r) f = tt

    body_is : Holds (λ x. Whole x.0) (body_typed c l h)
    body_is = after_holds (Of Whole) (λ x. Whole x.0) (body_by c l.params h.params start h.result l.body) _ whole_by
        (λ x f. after_any (λ x. Whole x.0) (within x.1.limit) _ (λ u. f))

    one_more : (t : Tree) (w : Weight) → Whole t → IsOneMore ds.items l t (ds.items ++ definition_of h w (calls_itself l) ∷ [])
    one_more t w f = record { last = definition_of h w (calls_itself l); is = refl; recursive = refl; fits = fits }
      where
        fits : (s : Signatures) → Signed s (ds.items ++ definition_of h w (calls_itself l) ∷ [])
            → is_definition s k (record { body = t; is_recursive = calls_itself l }) ≡ true
        fits s sig =
            let read : Signed s c.definitions.items = signed_last s ds.items (definition_of h w (calls_itself l)) (while_read h) refl refl sig in
            both (ap (λ d. is_well_formed false (not (s k).is_term) s d t) (read k (while_read h) at).0 ∙ f.0 s read) (if_tests (calls_itself l) t f.1)

    defined_is : Holds (λ r. IsOneMore ds.items l r.0 r.1.items) (defined f ds l h)
    defined_is = after_holds (λ x. Whole x.0) (λ r. IsOneMore ds.items l r.0 r.1.items) (body_typed c l h) _ body_is (λ x fx. one_more x.0 x.1 fx)

  pub definition_is : Holds (λ r. IsOneMore ds.items l r.0 r.1.items) (definition_typed f ds l)
  unfolding definition_typed
  definition_is = after_holds (IsHeader ds l) (λ r. IsOneMore ds.items l r.0 r.1.items) (header_of f ds l) _ (header_is f ds l) (λ h is. defined_is h is)
