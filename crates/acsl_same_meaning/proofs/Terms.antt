-- What typing makes of terms is well formed.
use Rattle.std.proofs.Common.{◌≡◌, ℕ, suc, zero, ◌<◌, Bool, true, false, ◌==◌, ◌&&◌, ◌||◌, not, if◌then◌else◌, nat_lt, List, [], ◌∷◌, length, Option, Some, None, Ok, Err, slice_get, refl, ap, sym, ◌∙◌, arith}
use Rattle.std.specs.Option.{is_some}
use Rattle.std.proofs.lemmas.Bool.{eqb-true}
use Rattle.std.proofs.lemmas.Bool.Decides.{Decides-eqb}
use Rattle.wp_base.specs.declared.answers.Rule.TheVariants as rule
use Rattle.c_syntax.specs.declared.token.TokenKind.{TokenKind}
use Rattle.c_syntax.specs.declared.token.TokenKind.TheVariants as token
use Rattle.c_syntax.specs.declared.expr.UnOp.{UnOp}
use Rattle.c_syntax.specs.declared.shapes.terms.TermTwo.{TermTwo}
use Rattle.c_syntax.specs.declared.shapes.terms.TermTwo.TheVariants as between
use Rattle.c_syntax.specs.Expr as e
use Rattle.c_syntax.specs.Term as t
use Rattle.c_syntax.specs.Lines.{term_line_of}
use Rattle.c_answers.specs.Answers.{Answer, after, fault, unknown, wrong}
use Rattle.typed_prog.specs.declared.operators.Variable.{Variable}
use Rattle.typed_prog.specs.declared.operators.Variable.TheVariants as variable
use Rattle.typed_prog.specs.Types.{is_void}
use Rattle.c_scopes.specs.declared.symbols.Object.{Object}
use Rattle.c_scopes.specs.declared.symbols.Resolved.{Resolved}
use Rattle.c_scopes.specs.Meanings.{is_void_pointer}
use Rattle.acsl_trees.specs.declared.heads.Head.TheVariants as head
use Rattle.acsl_trees.specs.declared.heads.Label.{Label}
use Rattle.acsl_trees.specs.declared.operands.TermType.{TermType}
use Rattle.acsl_trees.specs.Tree.{Tree, trees_of, leaf}
use Rattle.acsl_trees.specs.Operands.{Operand, operand}
use Rattle.acsl_rules.specs.Operators.{unary}
use Rattle.acsl_rules.specs.Choices.{conditional}
use Rattle.acsl_rules.specs.Objects.{field}
use Rattle.acsl_rules.specs.Contexts.{passed}
use Rattle.acsl_rules.specs.Laws.{Holds}
use Rattle.acsl_guards.specs.Mentions.{Names as NotThese, is_among, is_one_of, some_part_of, holds_one}
use Rattle.acsl_names.specs.declared.names.Bound.{Bound}
use Rattle.acsl_names.specs.declared.names.Definition.{Definition}
use Rattle.acsl_names.specs.declared.names.Reading.{Reading}
use Rattle.acsl_names.specs.declared.names.Meaning.{Meaning}
use Rattle.acsl_names.specs.declared.names.Meaning.TheVariants as meaning
use Rattle.acsl_names.specs.declared.counting.Count.{Count}
use Rattle.acsl_names.specs.Names.{Around, meaning_at, type_named}
use Rattle.acsl_names.specs.Labels.{may_stand, is_ensures, label_at, old_at, under_if}
use Rattle.acsl_names.specs.Counting.{with_node, inside_call, ended}
use Rattle.acsl_names.specs.Weights.{count_of}
use Rattle.acsl_terms.specs.declared.calls.Called.{Called}
use Rattle.acsl_terms.specs.declared.calls.Called.TheVariants as called
use Rattle.acsl_terms.specs.Leaves.{closed, leafed, misshapen, literal, bound_by, object_by, result_of, result, value_sort}
use Rattle.acsl_terms.specs.Steps.{local_of, may_address, prefixed, cast_type, cast_with, labelled_by}
use Rattle.acsl_terms.specs.Calls.{counted_call, sorted_call, call_of, called_by, called_at, call_tree, recursion, is_itself, goes_down}
use Rattle.acsl_terms.specs.Terms.{ForParams, recursive_call, expanded_count, expanded_call, call_by, as_term, alone_tree, alone_call, meant, with_name_counted, plainly_named, named, under_label, joined, typed, typed_for, typed_all}
use Rattle.c_runs.specs.TruthLaws as law
use Rattle.c_runs.specs.TruthLaws.{Signatures, are_well_formed}
use Rattle.acsl_same_meaning.specs.Trees.{Signed, MayLabel, TermsAreWellFormed}
use Rattle.acsl_same_meaning.proofs.Answers.{after_holds, after_any, if_holds, closed_holds, Of}
use Rattle.acsl_same_meaning.proofs.Operators.{both, only, Good, IsGood, Made, unary_fits, binary_fits, conditional_fits}
use Rattle.acsl_same_meaning.proofs.Objects.{indexed_fits, field_fits, cast_fits, labelled_fits, passed_fits}

-- ---- names by number

pub below : {X : Type 0} (ts : List X) (i : ℕ) (t : X) → slice_get ts i ≡ Some t → i < length ts
below [] i t found = absurd cc
below (u ∷ ts) zero t found = omega arith
below (u ∷ ts) (suc i) t found = let lt : i < length ts = below ts i t found in omega (arith, lt)

pub is_below : {X : Type 0} (ts : List X) (i : ℕ) (t : X) → slice_get ts i ≡ Some t → nat_lt i (length ts) ≡ true
is_below ts i t found = let lt : i < length ts = below ts i t found in grind (arith, lt)

count_is : (vs : List Tree) → law.count_of (trees_of vs) ≡ length vs
count_is [] = refl
count_is (v ∷ vs) = ap suc (count_is vs)

pub counted : (args : List t.Term) → count_of (t.terms_of args) ≡ length args
counted [] = refl
counted (a ∷ args) = ap suc (counted args)

pub is_equal : (m n : ℕ) → m ≡ n → (m == n) ≡ true
is_equal m n e = (Decides-eqb m n).1 e

or_true : (b : Bool) → (b || true) ≡ true
or_true true = refl
or_true false = refl

-- ---- what is called, and with how many arguments

module _ (c : Around) where
  abbrev pub IsCall : (is_term : Bool) → (count number : ℕ) → Type 0
  IsCall is_term n i = (d : Definition) × (slice_get c.definitions.items i ≡ Some d) × (is_some d.result ≡ is_term) × (length d.params ≡ n)

  abbrev pub CallIs : (is_term : Bool) → (count : ℕ) → Called → Type 0
  CallIs is_term n (called.Recursive i) = IsCall is_term n i
  CallIs is_term n (called.Expanded i) = IsCall is_term n i
  CallIs is_term n called.Unknown = Unit {0}
  CallIs is_term n (called.Wrong r) = Unit {0}

  counted_is : (is_term : Bool) (n i : ℕ) (fits is_recursive : Bool) → (fits ≡ true → IsCall is_term n i) → CallIs is_term n (counted_call i fits is_recursive)
  counted_is is_term n i false is_recursive is = tt
  counted_is is_term n i true true is = is refl
  counted_is is_term n i true false is = is refl

  as_function : (n i : ℕ) (d : Definition) (has : Bool) → is_some d.result ≡ has → slice_get c.definitions.items i ≡ Some d
      → CallIs true n (if has then counted_call i (length d.params == n) d.is_recursive else called.Wrong rule.Shape)
  as_function n i d true e found = counted_is true n i (length d.params == n) d.is_recursive (λ h. (d, found, e, eqb-true (length d.params) n h))
  as_function n i d false e found = tt

  as_predicate : (n i : ℕ) (d : Definition) (has : Bool) → is_some d.result ≡ has → slice_get c.definitions.items i ≡ Some d
      → CallIs false n (if has then called.Wrong rule.Shape else counted_call i (length d.params == n) d.is_recursive)
  as_predicate n i d true e found = tt
  as_predicate n i d false e found = counted_is false n i (length d.params == n) d.is_recursive (λ h. (d, found, e, eqb-true (length d.params) n h))

  sorted_is : (is_term : Bool) (n i : ℕ) (d : Definition) → slice_get c.definitions.items i ≡ Some d → CallIs is_term n (sorted_call is_term i n d)
  sorted_is true n i d found = as_function n i d _ refl found
  sorted_is false n i d found = as_predicate n i d _ refl found

  call_is : (is_term : Bool) (n i : ℕ) (o : Option Definition) → slice_get c.definitions.items i ≡ o → CallIs is_term n (call_of is_term i n o)
  call_is is_term n i (Some d) found = sorted_is is_term n i d found
  call_is is_term n i None found = tt

  pub called_is : (is_term : Bool) (n : ℕ) (m : Meaning) → CallIs is_term n (called_by c.definitions is_term n m)
  called_is is_term n (meaning.Definition i) = call_is is_term n i _ refl
  called_is is_term n meaning.Nothing = tt
  called_is is_term n (meaning.Bound i) = tt
  called_is is_term n (meaning.Local i) = tt
  called_is is_term n (meaning.Global i) = tt
  called_is is_term n (meaning.Enumerator z) = tt
  called_is is_term n meaning.Function = tt
  called_is is_term n meaning.Typedef = tt

-- so many arguments, and terms
abbrev pub AreTerms : (labels : Bool) → Signatures → (around count : ℕ) → List Tree → Type 0
AreTerms l s d n vs = (length vs ≡ n) × (are_well_formed l false s d false (trees_of vs) ≡ true)

-- what a name of this meaning is, if it is bound, has a number below this
abbrev pub IsFine : Bound → (around : ℕ) → Meaning → Type 0
IsFine b d m = (i : ℕ) (t : TermType) → m ≡ meaning.Bound i → slice_get b.types i ≡ Some t → nat_lt i d ≡ true

-- so are all names but these
abbrev pub AreFine : Around → Bound → (around : ℕ) → NotThese → Type 0
AreFine c b d xs = (x : List ℕ) → is_among xs x ≡ false → IsFine b d (meaning_at c b x)

pub both_no : (a b : Bool) → a ≡ false → b ≡ false → (a || b) ≡ false
both_no true b e d = absurd cc
both_no false b e d = d

pub neither : (a b : Bool) → (a || b) ≡ false → (a ≡ false) × (b ≡ false)
neither true b e = absurd cc
neither false b e = (refl, e)

module _ (l u : Bool) (s : Signatures) (c : Around) (b : Bound) (sig : Signed s c.definitions.items) (lab : MayLabel l c.site) (around : ℕ) where
  abbrev G : Tree → Type 0
  G = Good l u s around

  abbrev I : Operand → Type 0
  I = IsGood l u s around

  abbrev M : Answer Operand → Type 0
  M = Made l u s around

  -- ---- leaves

  literal_fits : (line : ℕ) (k : TokenKind) → M (literal line k)
  literal_fits line (token.Number z base suffix) = refl
  literal_fits line (token.Name x) = tt
  literal_fits line (token.Word w) = tt
  literal_fits line (token.Char z) = tt
  literal_fits line (token.Punct p) = tt
  literal_fits line token.AnnotOpen = tt
  literal_fits line token.AnnotClose = tt

  bound_fits : (line i : ℕ) (o : Option TermType) → slice_get b.types i ≡ o → IsFine b around (meaning.Bound i) → M (bound_by line i o)
  bound_fits line i (Some t) found f = only (f i t refl found)
  bound_fits line i None found f = tt

  object_fits : (line : ℕ) (x : Variable) (o : Option Object) → M (object_by line x o)
  object_fits line x (Some o) = refl
  object_fits line x None = tt

  result_made : (line : ℕ) → M (result c line)
  result_made line =
      if_holds I (is_ensures c.site) (result_of line c.result) (misshapen line)
      (if_holds I (is_void c.result) (wrong line) (Ok (operand (leaf head.Result) (value_sort c.result))) tt refl) tt

  meant_fits : (r : Reading) (line : ℕ) (m : Meaning) → IsFine b around m → M (meant c b r line m)
  meant_fits r line (meaning.Bound i) f = bound_fits line i _ refl f
  meant_fits r line (meaning.Local i) f =
      if_holds I (may_stand c r i) (object_by line (variable.Local i) (slice_get c.objects i)) (misshapen line)
      (object_fits line (variable.Local i) (slice_get c.objects i)) tt
  meant_fits r line (meaning.Global i) f = object_fits line (variable.Global i) (slice_get c.file.globals i)
  meant_fits r line (meaning.Enumerator z) f = refl
  meant_fits r line meaning.Function f = tt
  meant_fits r line meaning.Typedef f = tt
  meant_fits r line (meaning.Definition i) f = tt
  meant_fits r line meaning.Nothing f = tt

  -- ---- around operands

  prefixed_fits : (r : Reading) (line : ℕ) (o : UnOp) (x : Operand) → I x → M (prefixed c r line o x)
  unfolding prefixed
  prefixed_fits r line o x f =
      after_holds I I (unary line o x) _ (unary_fits l u s around line o x f)
      (λ y fy. if_holds I (may_address c r o (local_of x.tree)) (Ok y) (misshapen line) fy tt)

  cast_with_fits : (line : ℕ) (type : e.CType) (to : Option Resolved) (x : Operand) → I x → M (cast_with c line type to x)
  unfolding cast_with
  cast_with_fits line type to x f =
      after_any I (is_void_pointer c.file line type) _ (λ p. after_any I (cast_type line p to) _ (λ z. cast_fits l u s around c.model line z p x f))

  state_fits : (line : ℕ) (o : Option Label) (x : Operand) → ((y : Label) → o ≡ Some y → l ≡ true) → I x → M (labelled_by line o x)
  unfolding labelled_by
  state_fits line (Some y) x may f = labelled_fits l u s around y x (may y refl) f
  state_fits line None x may f = tt

  joined_fits : (line : ℕ) (h : TermTwo) (x y : Operand) → I x → I y → M (joined c line h x y)
  joined_fits line (between.Binary o) x y f g = binary_fits l u s around c.sizes line o x y f g
  joined_fits line between.Index x y f g = indexed_fits l u s around c.sizes line x y f g
  joined_fits line between.Range x y f g = tt

  -- ---- calls

  abbrev pub AreArgs : (count : ℕ) → List Tree → Type 0
  AreArgs = AreTerms l s around

  abbrev pub EachFits : ForParams → (count : ℕ) → Type 0
  EachFits each n = (m : Count) (params : List TermType) → length params ≡ n → Holds (Of (AreArgs n)) (each m params)

  call_tree_fits : (is_term : Bool) (n i : ℕ) (vs : List Tree) → (u || is_term) ≡ true → IsCall c is_term n i → AreArgs n vs → G (call_tree i vs)
  call_tree_fits is_term n i vs may is are =
      let q : ((s i).params ≡ length is.0.params) × ((s i).is_term ≡ is_some is.0.result) = sig i is.0 is.1 in
      both (both (is_equal _ _ (count_is vs ∙ are.0 ∙ sym is.3 ∙ sym q.0)) (ap (λ b. u || b) (q.1 ∙ is.2) ∙ may)) are.1

  same_params : (is_term : Bool) (n i : ℕ) (d : Definition) → IsCall c is_term n i → slice_get c.definitions.items i ≡ Some d → length d.params ≡ n
  same_params is_term n i d is found = let same : is.0 ≡ d = cc in ap (λ d. length d.params) (sym same) ∙ is.3

  recursion_fits : (line i : ℕ) (args : t.Terms) (vs : List Tree) → G (call_tree i vs) → Holds G (recursion c line i args vs)
  unfolding recursion
  recursion_fits line i args vs f = if_holds G (is_itself c.itself i && not (goes_down c.down args)) (misshapen line) (Ok (call_tree i vs)) tt f

  module _ (is_term : Bool) (may : (u || is_term) ≡ true) (count : ℕ) (n : Count) (line : ℕ) (args : t.Terms) (each : ForParams)
      (fits : EachFits each count) where
    recursive_fits : (i : ℕ) (o : Option Definition) → slice_get c.definitions.items i ≡ o → IsCall c is_term count i
        → Holds (Of G) (recursive_call c n line i args each o)
    recursive_fits i None found is = closed_holds G n.limit (with_node line n).limit (with_node line n) (wrong line) tt
    recursive_fits i (Some d) found is =
        after_holds (Of (AreArgs count)) (Of G) (each (with_node line n) d.params) _ (fits (with_node line n) d.params (same_params is_term count i d is found))
        (λ vs are. closed_holds G n.limit (with_node line n).limit vs.1 (recursion c line i args vs.0)
        (recursion_fits line i args vs.0 (call_tree_fits is_term count i vs.0 may is are)))

    expanded_fits : (i : ℕ) (o : Option Definition) → slice_get c.definitions.items i ≡ o → IsCall c is_term count i
        → Holds (Of G) (expanded_call c b n line i args each o)
    expanded_fits i None found is = closed_holds G n.limit (with_node line n).limit (with_node line n) (wrong line) tt
    expanded_fits i (Some d) found is =
        after_holds (Of (AreArgs count)) (Of G) (each (inside_call (expanded_count c b n line d args)) d.params) _
        (fits (inside_call (expanded_count c b n line d args)) d.params (same_params is_term count i d is found))
        (λ vs are. closed_holds G n.limit (expanded_count c b n line d args).limit (expanded_count c b n line d args) (Ok (call_tree i vs.0))
        (call_tree_fits is_term count i vs.0 may is are))

    pub call_fits : (alone : Count → Answer Count) (f : Called) → CallIs c is_term count f → Holds (Of G) (call_by c b n line args each alone f)
    call_fits alone called.Unknown is = closed_holds G n.limit (with_node line n).limit (with_node line n) (unknown line) tt
    call_fits alone (called.Wrong r) is =
        after_any (Of G) (alone (with_node line n)) _ (λ m. closed_holds G n.limit (with_node line n).limit m (Err (fault r line)) tt)
    call_fits alone (called.Recursive i) is = recursive_fits i _ refl is
    call_fits alone (called.Expanded i) is = expanded_fits i _ refl is

  as_term_fits : (f : Called) (o : Answer (Tree × Count)) → Holds (Of G) o → Holds (Of I) (as_term c f o)
  as_term_fits f o made = after_holds (Of G) (Of I) o _ made (λ v m. m)

  -- ---- names

  no_arguments : EachFits (λ m params. Ok ([], m)) 0
  no_arguments m params same = (refl, refl)

  alone_fits : (n : Count) (line : ℕ) (f : Called) → CallIs c true 0 f → Holds (Of I) (alone_call c b n line f)
  alone_fits n line f is =
      as_term_fits f (alone_tree c b n line f) (call_fits true (or_true u) 0 n line t.stop (λ m params. Ok ([], m)) no_arguments (λ m. Ok m) f is)

  plainly_fits : (r : Reading) (n : Count) (line : ℕ) (m : Meaning) → IsFine b around m → Holds (Of I) (plainly_named c b r n line m)
  plainly_fits r n line m f =
      closed_holds I n.limit (with_name_counted line m n).limit (with_name_counted line m n) (meant c b r line m) (meant_fits r line m f)

  named_fits : (r : Reading) (n : Count) (line : ℕ) (m : Meaning) → IsFine b around m → Holds (Of I) (named c b r n line (alone_call c b n line) m)
  named_fits r n line (meaning.Definition i) f = alone_fits n line _ (called_is c true 0 (meaning.Definition i))
  named_fits r n line (meaning.Bound i) f = plainly_fits r n line (meaning.Bound i) f
  named_fits r n line (meaning.Local i) f = plainly_fits r n line (meaning.Local i) f
  named_fits r n line (meaning.Global i) f = plainly_fits r n line (meaning.Global i) f
  named_fits r n line (meaning.Enumerator z) f = plainly_fits r n line (meaning.Enumerator z) f
  named_fits r n line meaning.Function f = plainly_fits r n line meaning.Function f
  named_fits r n line meaning.Typedef f = plainly_fits r n line meaning.Typedef f
  named_fits r n line meaning.Nothing f = plainly_fits r n line meaning.Nothing f

  -- ---- terms by what is made of the terms inside

  leafed_fits : (n : Count) (line : ℕ) (o : Answer Operand) → M o → Holds (Of I) (leafed line n o)
  leafed_fits n line o f = closed_holds I n.limit (with_node line n).limit (with_node line n) o f

  label_fits : (n : Count) (line : ℕ) (o : Option Label) (inside : Answer (Operand × Count)) → ((y : Label) → o ≡ Some y → l ≡ true) → Holds (Of I) inside
      → Holds (Of I) (under_label inside n line o)
  label_fits n line o inside may f =
      after_holds (Of I) (Of I) inside _ f (λ x fx. closed_holds I n.limit (with_node line n).limit x.1 (labelled_by line o x.0) (state_fits line o x.0 may fx))

  two_fit : (line : ℕ) (h : TermTwo) (o : Answer (Operand × Count)) (p : Count → Answer (Operand × Count)) → Holds (Of I) o → ((m : Count) → Holds (Of I) (p m))
      → Holds (Of I) (after o (λ x. after (p (with_node line x.1)) (λ y. closed x.1.limit (with_node line x.1).limit y.1 (joined c line h x.0 y.0))))
  two_fit line h o p f g =
      after_holds (Of I) (Of I) o _ f (λ x fx. after_holds (Of I) (Of I) (p (with_node line x.1)) _ (g (with_node line x.1))
      (λ y fy. closed_holds I x.1.limit (with_node line x.1).limit y.1 (joined c line h x.0 y.0) (joined_fits line h x.0 y.0 fx fy)))

module _ (l : Bool) (s : Signatures) (c : Around) (b : Bound) (sig : Signed s c.definitions.items) (lab : MayLabel l c.site) (around : ℕ) (xs : NotThese)
    (fine : AreFine c b around xs) where
  abbrev pub IsTerm : (binders : Bool) → Operand → Type 0
  IsTerm u = IsGood l u s around

  mutual
    pub typed_fits : (u : Bool) (r : Reading) (n : Count) (a : t.Term) → holds_one xs a ≡ false → Holds (Of (IsTerm u)) (typed c b r n a)
    typed_fits u r n (t.number line token) free =
        leafed_fits l u s c b sig lab around n line (literal line token.kind) (literal_fits l u s c b sig lab around line token.kind)
    typed_fits u r n (t.char line z) free = leafed_fits l u s c b sig lab around n line _ refl
    typed_fits u r n (t.result line) free = leafed_fits l u s c b sig lab around n line (result c line) (result_made l u s c b sig lab around line)
    typed_fits u r n (t.null line) free = leafed_fits l u s c b sig lab around n line _ refl
    typed_fits u r n (t.name line x) free = named_fits l u s c b sig lab around r n line (meaning_at c b x) (fine x free)
    typed_fits u r n (t.unary line o a) free =
        after_holds (Of (IsTerm u)) (Of (IsTerm u)) (typed c b r (with_node line n) a) _ (typed_fits u r (with_node line n) a free)
        (λ x fx. closed_holds (IsTerm u) n.limit (with_node line n).limit x.1 (prefixed c r line o x.0)
        (prefixed_fits l u s c b sig lab around r line o x.0 fx))
    typed_fits u r n (t.cast line type a) free =
        after_any (Of (IsTerm u)) (ended n.limit (with_node line n).limit (with_node line n).limit (type_named c line type)) _ (λ to.
        after_holds (Of (IsTerm u)) (Of (IsTerm u)) (typed c b r (with_node line n) a) _ (typed_fits u r (with_node line n) a free)
        (λ x fx. closed_holds (IsTerm u) n.limit (with_node line n).limit x.1 (cast_with c line type to x.0)
        (cast_with_fits l u s c b sig lab around line type to x.0 fx)))
    typed_fits u r n (t.old line a) free =
        label_fits l u s c b sig lab around n line (old_at c.site) _ lab.old (typed_fits u (under_if (old_at c.site) r) (with_node line n) a free)
    typed_fits u r n (t.at_label line a x) free =
        label_fits l u s c b sig lab around n line (label_at c.site x) _ (lab.named x) (typed_fits u (under_if (label_at c.site x) r) (with_node line n) a free)
    typed_fits u r n (t.field line a f arrow) free =
        after_holds (Of (IsTerm u)) (Of (IsTerm u)) (typed c b r n a) _ (typed_fits u r n a free)
        (λ x fx. closed_holds (IsTerm u) x.1.limit (with_node line x.1).limit (with_node line x.1) (field c.file line f arrow x.0)
        (field_fits l u s around c.file line f arrow x.0 fx))
    typed_fits u r n (t.binary line o a d) free =
        two_fit l u s c b sig lab around line (between.Binary o) (typed c b r n a) (λ m. typed c b r m d) (typed_fits u r n a (neither _ _ free).0)
        (λ m. typed_fits u r m d (neither _ _ free).1)
    typed_fits u r n (t.index line a d) free =
        two_fit l u s c b sig lab around line between.Index (typed c b r n a) (λ m. typed c b r m d) (typed_fits u r n a (neither _ _ free).0)
        (λ m. typed_fits u r m d (neither _ _ free).1)
    typed_fits u r n (t.range line a d) free =
        two_fit l u s c b sig lab around line between.Range (typed c b r n a) (λ m. typed c b r m d) (typed_fits u r n a (neither _ _ free).0)
        (λ m. typed_fits u r m d (neither _ _ free).1)
    typed_fits u r n (t.cond line test a d) free =
        after_holds (Of (IsTerm u)) (Of (IsTerm u)) (typed c b r n test) _ (typed_fits u r n test (neither _ _ free).0) (λ x fx.
        after_holds (Of (IsTerm u)) (Of (IsTerm u)) (typed c b r (with_node line x.1) a) _
        (typed_fits u r (with_node line x.1) a (neither _ _ (neither _ _ free).1).0) (λ y fy.
        after_holds (Of (IsTerm u)) (Of (IsTerm u)) (typed c b r y.1 d) _ (typed_fits u r y.1 d (neither _ _ (neither _ _ free).1).1) (λ z fz.
        closed_holds (IsTerm u) x.1.limit (with_node line x.1).limit z.1 (conditional line x.0 y.0 z.0)
        (conditional_fits l u s around line x.0 y.0 z.0 fx fy fz))))
    typed_fits u r n (t.call line f args) free =
        as_term_fits l u s c b sig lab around (called_at c b true (count_of args) f) _
        (call_fits l u s c b sig lab around true (or_true u) (count_of args) n line args (λ m params. typed_for c b r m params args)
        (λ m params same. args_fit r m params args free same)
        (λ m. typed_all c b r m args) (called_at c b true (count_of args) f) (called_is c true (count_of args) _))

    pub args_fit : (r : Reading) (n : Count) (types : List TermType) (args : t.Terms) → some_part_of (is_one_of xs) args ≡ false
        → length types ≡ count_of args → Holds (Of (AreTerms l s around (count_of args))) (typed_for c b r n types args)
    args_fit r n [] t.stop free same = (refl, refl)
    args_fit r n [] (t.more a rest) free same = absurd (omega (arith, same))
    args_fit r n (p ∷ ps) t.stop free same = absurd (omega (arith, same))
    args_fit r n (p ∷ ps) (t.more a rest) free same =
        after_holds (Of (Good l false s around)) (Of (AreTerms l s around (suc (count_of rest))))
        (after (typed c b r n a) (λ x. closed n.limit n.limit x.1 (passed (term_line_of a) p x.0))) _
        (after_holds (Of (IsTerm false)) (Of (Good l false s around)) (typed c b r n a) _ (typed_fits false r n a (neither _ _ free).0)
        (λ x fx. closed_holds (Good l false s around) n.limit n.limit x.1 (passed (term_line_of a) p x.0)
        (passed_fits l false s around (term_line_of a) p x.0 fx)))
        (λ v fv. after_holds (Of (AreTerms l s around (count_of rest))) (Of (AreTerms l s around (suc (count_of rest)))) (typed_for c b r v.1 ps rest) _
        (args_fit r v.1 ps rest (neither _ _ free).1 (omega (arith, same)))
        (λ vs fvs. (ap suc fvs.0, both fv fvs.1)))

-- ---- all names in scope

mutual
  none_of_no : (a : t.Term) → holds_one [] a ≡ false
  none_of_no (t.number line token) = refl
  none_of_no (t.char line v) = refl
  none_of_no (t.name line x) = refl
  none_of_no (t.unary line o a) = none_of_no a
  none_of_no (t.binary line o a d) = both_no _ _ (none_of_no a) (none_of_no d)
  none_of_no (t.cond line test a d) = both_no _ _ (none_of_no test) (both_no _ _ (none_of_no a) (none_of_no d))
  none_of_no (t.call line f args) = none_of_nothing args
  none_of_no (t.index line a d) = both_no _ _ (none_of_no a) (none_of_no d)
  none_of_no (t.field line a f arrow) = none_of_no a
  none_of_no (t.cast line type a) = none_of_no a
  none_of_no (t.result line) = refl
  none_of_no (t.old line a) = none_of_no a
  none_of_no (t.at_label line a x) = none_of_no a
  none_of_no (t.null line) = refl
  none_of_no (t.range line a d) = both_no _ _ (none_of_no a) (none_of_no d)

  none_of_nothing : (args : t.Terms) → some_part_of (is_one_of []) args ≡ false
  none_of_nothing t.stop = refl
  none_of_nothing (t.more a rest) = both_no _ _ (none_of_no a) (none_of_nothing rest)

-- each number is below that of all
pub all_fine : (c : Around) (b : Bound) → AreFine c b (length b.types) []
all_fine c b x free i t is found = is_below b.types i t found

module _ (l : Bool) (s : Signatures) (c : Around) (b : Bound) (sig : Signed s c.definitions.items) (lab : MayLabel l c.site) where
  pub typed_any : (u : Bool) (r : Reading) (n : Count) (a : t.Term) → Holds (Of (IsGood l u s (length b.types))) (typed c b r n a)
  typed_any u r n a = typed_fits l s c b sig lab (length b.types) [] (all_fine c b) u r n a (none_of_no a)

  pub args_any : (r : Reading) (n : Count) (types : List TermType) (args : t.Terms) → length types ≡ count_of args
      → Holds (Of (AreTerms l s (length b.types) (count_of args))) (typed_for c b r n types args)
  args_any r n types args same = args_fit l s c b sig lab (length b.types) [] (all_fine c b) r n types args (none_of_nothing args) same

pub terms_are_well_formed : TermsAreWellFormed
terms_are_well_formed l u s c b r n a sig lab = typed_any l s c b sig lab u r n a
