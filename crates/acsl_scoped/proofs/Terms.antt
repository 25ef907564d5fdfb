-- Terms: one that is an object in the state in force is a place.
use Rattle.std.proofs.Common.{◌≡◌, ℕ, Bool, true, false, if◌then◌else◌, List, Option, Some, None, Ok, Err, slice_get, refl, ap, ◌⊎◌, inl, inr}
use Rattle.std.proofs.lemmas.Bool.{false≢true}
use Rattle.c_syntax.specs.declared.token.TokenKind.{TokenKind}
use Rattle.c_syntax.specs.declared.token.TokenKind.TheVariants as token
use Rattle.c_syntax.specs.declared.expr.UnOp.{UnOp}
use Rattle.c_syntax.specs.declared.shapes.terms.TermTwo.{TermTwo}
use Rattle.c_syntax.specs.declared.shapes.terms.TermTwo.TheVariants as between
use Rattle.c_syntax.specs.Expr as e
use Rattle.c_syntax.specs.Term as t
use Rattle.c_answers.specs.Answers.{Answer, after}
use Rattle.typed_prog.specs.declared.operators.Variable.TheVariants as variable
use Rattle.typed_prog.specs.Types.{is_void, is_pointer}
use Rattle.name_table.specs.Names.{meaning_of, meaning_among}
use Rattle.name_table.specs.Nesting.{meaning_in}
use Rattle.c_scopes.specs.declared.symbols.Object.{Object}
use Rattle.c_scopes.specs.declared.symbols.Resolved.{Resolved}
use Rattle.c_scopes.specs.declared.symbols.Symbol.{Symbol}
use Rattle.c_scopes.specs.declared.symbols.Symbol.TheVariants as symbol
use Rattle.c_scopes.specs.Meanings.{is_void_pointer}
use Rattle.acsl_trees.specs.declared.heads.Label.{Label}
use Rattle.acsl_trees.specs.declared.operands.TermType.{TermType}
use Rattle.acsl_trees.specs.declared.operands.TermType.TheVariants as type
use Rattle.acsl_trees.specs.declared.operands.Sort.{Sort}
use Rattle.acsl_trees.specs.declared.operands.Sort.TheVariants as sort
use Rattle.acsl_trees.specs.Tree.{Tree}
use Rattle.acsl_trees.specs.Operands.{Operand}
use Rattle.acsl_rules.specs.Operators.{unary}
use Rattle.acsl_rules.specs.Choices.{conditional}
use Rattle.acsl_rules.specs.Objects.{field}
use Rattle.acsl_rules.specs.Laws.{Holds}
use Rattle.acsl_names.specs.declared.names.Bound.{Bound}
use Rattle.acsl_names.specs.declared.names.Definition.{Definition}
use Rattle.acsl_names.specs.declared.names.Definitions.{Definitions}
use Rattle.acsl_names.specs.declared.names.Reading.{Reading}
use Rattle.acsl_names.specs.declared.names.Meaning.{Meaning}
use Rattle.acsl_names.specs.declared.names.Meaning.TheVariants as meaning
use Rattle.acsl_names.specs.declared.counting.Limit.{Limit}
use Rattle.acsl_names.specs.declared.counting.Count.{Count}
use Rattle.acsl_names.specs.Names.{Around, of_symbol, as_definition, as_symbol, as_local, as_bound, meaning_at, type_named}
use Rattle.acsl_names.specs.Labels.{may_stand, is_ensures, label_at, old_at, under_if}
use Rattle.acsl_names.specs.Counting.{with_node, ended}
use Rattle.acsl_names.specs.Weights.{count_of}
use Rattle.acsl_terms.specs.declared.calls.Called.{Called}
use Rattle.acsl_terms.specs.declared.calls.Called.TheVariants as called
use Rattle.acsl_terms.specs.Leaves.{closed, misshapen, literal, bound_by, object_by, result_of, result, sort_of}
use Rattle.acsl_terms.specs.Steps.{local_of, may_address, prefixed, cast_type, cast_with, labelled_by}
use Rattle.acsl_terms.specs.Calls.{called_at, result_sort, sort_called}
use Rattle.acsl_terms.specs.Terms.{call_by, as_term, alone_call, meant, with_name_counted, plainly_named, named, joined, typed, typed_for, typed_all}
use Rattle.acsl_scoped.specs.Scoped.{local, global}
use Rattle.acsl_scoped.specs.Laws.{NamesNoLocals}
use Rattle.acsl_scoped.proofs.Values.{after_any, after_holds, if_holds, is_here, Here, value_here, values_here, binary_is, conditional_is, cast_is, labelled_is, unary_here, indexed_here, field_here}

-- what is counted beside it changes nothing
abbrev pub Of : {Y : Type 0} → (Y → Type 0) → Y × Count → Type 0
Of P y = P y.0

pub closed_holds : {Y : Type 0} (P : Y → Type 0) (before at : Limit) (n : Count) (o : Answer Y) → Holds P o → Holds (Of P) (closed before at n o)
unfolding ended
closed_holds P before at n (Ok y) h = h
closed_holds P before at n (Err r) h = tt

-- ---- which name a local has

symbol_by : (s : Symbol) (i : ℕ) → of_symbol s ≡ meaning.Local i → s ≡ symbol.Object (variable.Local i)
symbol_by (symbol.Object (variable.Global n)) i h = absurd cc
symbol_by (symbol.Object (variable.Local n)) i h = let e : n ≡ i = cc in ap (λ j. symbol.Object (variable.Local j)) e
symbol_by (symbol.Function n) i h = absurd cc
symbol_by (symbol.Enumerator z) i h = absurd cc
symbol_by (symbol.Typedef n) i h = absurd cc

local_by : (o p : Option ℕ) (s : Option Symbol) (d : Option ℕ) (i : ℕ) → as_bound o (as_local p (as_symbol s (as_definition d))) ≡ meaning.Local i
    → (p ≡ Some i) ⊎ (s ≡ Some (symbol.Object (variable.Local i)))
local_by (Some n) p s d i h = absurd cc
local_by None (Some n) s d i h = let e : n ≡ i = cc in inl (ap (λ j. Some j) e)
local_by None None (Some s) d i h = inr (ap (λ j. Some j) (symbol_by s i h))
local_by None None None (Some n) i h = absurd cc
local_by None None None None i h = absurd cc

-- the sort of what is called, by its result
abbrev sort_given : Option TermType → Sort
sort_given (Some t) = sort_of t
sort_given None = sort.Unknown

type_is : (t : TermType) → is_here (sort_of t) ≡ false
type_is type.Integer = refl
type_is (type.Pointer t) = refl
type_is type.Unknown = refl

given_is : (o : Option TermType) → is_here (sort_given o) ≡ false
given_is (Some t) = type_is t
given_is None = refl

result_is : (o : Option Definition) → is_here (result_sort o) ≡ false
result_is None = refl
result_is (Some d) = given_is d.result

called_is : (ds : Definitions) (f : Called) → is_here (sort_called ds f) ≡ false
called_is ds (called.Recursive k) = result_is (slice_get ds.items k)
called_is ds (called.Expanded k) = result_is (slice_get ds.items k)
called_is ds called.Unknown = refl
called_is ds (called.Wrong r) = refl

module _ (c : Around) (none : NamesNoLocals c) (b : Bound) where
  abbrev pub Place : Operand → Type 0
  Place v = Here c.blocks v

  -- ---- names

  local_at : (x : List ℕ) (i : ℕ) → meaning_at c b x ≡ meaning.Local i → meaning_in c.blocks x ≡ Some i
  unfolding meaning_at
  local_at x i h = by (local_by (meaning_in b.scopes x) (meaning_in c.blocks x) (meaning_among c.names c.file.names x) (meaning_of c.definitions.names x) i h) where
    by : (meaning_in c.blocks x ≡ Some i) ⊎ (meaning_among c.names c.file.names x ≡ Some (symbol.Object (variable.Local i))) → meaning_in c.blocks x ≡ Some i
    by (inl e) = e
    by (inr e) = absurd (none x i e)

  bound_here : (line i : ℕ) (o : Option TermType) → Holds Place (bound_by line i o)
  bound_here line i (Some t) = value_here c.blocks _ (type_is t)
  bound_here line i None = tt

  object_here : (line i : ℕ) (x : List ℕ) (o : Option Object) → meaning_in c.blocks x ≡ Some i → Holds Place (object_by line (variable.Local i) o)
  object_here line i x (Some o) e = λ k. local x e
  object_here line i x None e = tt

  global_here : (line i : ℕ) (o : Option Object) → Holds Place (object_by line (variable.Global i) o)
  global_here line i (Some o) = λ k. global
  global_here line i None = tt

  meant_here : (r : Reading) (line : ℕ) (x : List ℕ) (m : Meaning) → ((i : ℕ) → m ≡ meaning.Local i → meaning_in c.blocks x ≡ Some i) → Holds Place (meant c b r line m)
  meant_here r line x (meaning.Bound i) h = bound_here line i (slice_get b.types i)
  meant_here r line x (meaning.Local i) h =
      if_holds Place (may_stand c r i) (object_by line (variable.Local i) (slice_get c.objects i)) (misshapen line) (object_here line i x (slice_get c.objects i) (h i refl)) tt
  meant_here r line x (meaning.Global i) h = global_here line i (slice_get c.file.globals i)
  meant_here r line x (meaning.Enumerator z) h = λ e. absurd (false≢true e)
  meant_here r line x meaning.Function h = tt
  meant_here r line x meaning.Typedef h = tt
  meant_here r line x (meaning.Definition k) h = tt
  meant_here r line x meaning.Nothing h = tt

  plainly_here : (r : Reading) (n : Count) (line : ℕ) (x : List ℕ) (m : Meaning) → ((i : ℕ) → m ≡ meaning.Local i → meaning_in c.blocks x ≡ Some i)
      → Holds (Of Place) (plainly_named c b r n line m)
  plainly_here r n line x m h = closed_holds Place n.limit (with_name_counted line m n).limit (with_name_counted line m n) (meant c b r line m) (meant_here r line x m h)

  call_here : (f : Called) (o : Answer (Tree × Count)) → Holds (Of Place) (as_term c f o)
  call_here f o = after_any (Of Place) o _ (λ v. value_here c.blocks _ (called_is c.definitions f))

  named_here : (r : Reading) (n : Count) (line : ℕ) (x : List ℕ) (m : Meaning) → ((i : ℕ) → m ≡ meaning.Local i → meaning_in c.blocks x ≡ Some i)
      → Holds (Of Place) (named c b r n line (alone_call c b n line) m)
  named_here r n line x (meaning.Definition k) h = call_here _ _
  named_here r n line x (meaning.Bound i) h = plainly_here r n line x (meaning.Bound i) h
  named_here r n line x (meaning.Local i) h = plainly_here r n line x (meaning.Local i) h
  named_here r n line x (meaning.Global i) h = plainly_here r n line x (meaning.Global i) h
  named_here r n line x (meaning.Enumerator z) h = plainly_here r n line x (meaning.Enumerator z) h
  named_here r n line x meaning.Function h = plainly_here r n line x meaning.Function h
  named_here r n line x meaning.Typedef h = plainly_here r n line x meaning.Typedef h
  named_here r n line x meaning.Nothing h = plainly_here r n line x meaning.Nothing h

  -- ---- leaves

  literal_here : (line : ℕ) (k : TokenKind) → Holds Place (literal line k)
  literal_here line (token.Number z base suffix) = λ e. absurd (false≢true e)
  literal_here line (token.Name x) = tt
  literal_here line (token.Word w) = tt
  literal_here line (token.Char z) = tt
  literal_here line (token.Punct p) = tt
  literal_here line token.AnnotOpen = tt
  literal_here line token.AnnotClose = tt

  value_sort_is : (p : Bool) → is_here (if p then sort.Pointer c.result false else sort.Integer None) ≡ false
  value_sort_is true = refl
  value_sort_is false = refl

  result_here : (line : ℕ) → Holds Place (result c line)
  result_here line =
      if_holds Place (is_ensures c.site) (result_of line c.result) (misshapen line)
      (if_holds Place (is_void c.result) _ _ tt (value_here c.blocks _ (value_sort_is (is_pointer c.result)))) tt

  -- ---- around operands

  prefixed_here : (r : Reading) (line : ℕ) (o : UnOp) (v : Operand) → Holds Place (prefixed c r line o v)
  unfolding prefixed
  prefixed_here r line o v =
      after_holds Place Place (unary line o v) _ (unary_here c.blocks line o v) (λ y h. if_holds Place (may_address c r o (local_of v.tree)) (Ok y) (misshapen line) h tt)

  cast_here : (line : ℕ) (type : e.CType) (to : Option Resolved) (v : Operand) → Holds Place (cast_with c line type to v)
  unfolding cast_with
  cast_here line type to v =
      after_any Place (is_void_pointer c.file line type) _ (λ p. after_any Place (cast_type line p to) _ (λ z. values_here c.blocks _ (cast_is c.model line z p v)))

  state_here : (line : ℕ) (o : Option Label) (v : Operand) → Holds Place (labelled_by line o v)
  unfolding labelled_by
  state_here line (Some l) v = values_here c.blocks _ (labelled_is l v)
  state_here line None v = tt

  joined_here : (line : ℕ) (h : TermTwo) (x y : Operand) → Holds Place (joined c line h x y)
  joined_here line (between.Binary o) x y = values_here c.blocks _ (binary_is c.sizes line o x y)
  joined_here line between.Index x y = indexed_here c.blocks c.sizes line x y
  joined_here line between.Range x y = tt

  two_here : (r : Reading) (n : Count) (line : ℕ) (h : TermTwo) (a d : t.Term)
      → Holds (Of Place) (after (typed c b r n a) (λ x. after (typed c b r (with_node line x.1) d) (λ y. closed x.1.limit (with_node line x.1).limit y.1 (joined c line h x.0 y.0))))
  two_here r n line h a d =
      after_any (Of Place) (typed c b r n a) _ (λ x. after_any (Of Place) (typed c b r (with_node line x.1) d) _ (λ y.
      closed_holds Place x.1.limit (with_node line x.1).limit y.1 (joined c line h x.0 y.0) (joined_here line h x.0 y.0)))

  -- ---- terms

  pub typed_here : (r : Reading) (n : Count) (a : t.Term) → Holds (Of Place) (typed c b r n a)
  typed_here r n (t.number line tok) = closed_holds Place n.limit (with_node line n).limit (with_node line n) (literal line tok.kind) (literal_here line tok.kind)
  typed_here r n (t.char line z) = closed_holds Place n.limit (with_node line n).limit (with_node line n) _ (λ e. absurd (false≢true e))
  typed_here r n (t.result line) = closed_holds Place n.limit (with_node line n).limit (with_node line n) (result c line) (result_here line)
  typed_here r n (t.null line) = closed_holds Place n.limit (with_node line n).limit (with_node line n) _ (λ e. absurd (false≢true e))
  typed_here r n (t.name line x) = named_here r n line x (meaning_at c b x) (local_at x)
  typed_here r n (t.unary line o a) =
      after_any (Of Place) (typed c b r (with_node line n) a) _ (λ x. closed_holds Place n.limit (with_node line n).limit x.1 (prefixed c r line o x.0) (prefixed_here r line o x.0))
  typed_here r n (t.cast line type a) =
      after_any (Of Place) (ended n.limit (with_node line n).limit (with_node line n).limit (type_named c line type)) _ (λ u. after_any (Of Place) (typed c b r (with_node line n) a) _ (λ x.
      closed_holds Place n.limit (with_node line n).limit x.1 (cast_with c line type u x.0) (cast_here line type u x.0)))
  typed_here r n (t.old line a) =
      after_any (Of Place) (typed c b (under_if (old_at c.site) r) (with_node line n) a) _ (λ x.
      closed_holds Place n.limit (with_node line n).limit x.1 (labelled_by line (old_at c.site) x.0) (state_here line (old_at c.site) x.0))
  typed_here r n (t.at_label line a l) =
      after_any (Of Place) (typed c b (under_if (label_at c.site l) r) (with_node line n) a) _ (λ x.
      closed_holds Place n.limit (with_node line n).limit x.1 (labelled_by line (label_at c.site l) x.0) (state_here line (label_at c.site l) x.0))
  typed_here r n (t.field line a f arrow) =
      after_any (Of Place) (typed c b r n a) _ (λ x.
      closed_holds Place x.1.limit (with_node line x.1).limit (with_node line x.1) (field c.file line f arrow x.0) (field_here c.blocks c.file line f arrow x.0))
  typed_here r n (t.binary line o a d) = two_here r n line (between.Binary o) a d
  typed_here r n (t.index line a d) = two_here r n line between.Index a d
  typed_here r n (t.range line a d) = two_here r n line between.Range a d
  typed_here r n (t.cond line test a d) =
      after_any (Of Place) (typed c b r n test) _ (λ x. after_any (Of Place) (typed c b r (with_node line x.1) a) _ (λ y. after_any (Of Place) (typed c b r y.1 d) _ (λ z.
      closed_holds Place x.1.limit (with_node line x.1).limit z.1 (conditional line x.0 y.0 z.0) (values_here c.blocks _ (conditional_is line x.0 y.0 z.0)))))
  typed_here r n (t.call line f args) =
      call_here (called_at c b true (count_of args) f) (call_by c b n line args (λ m params. typed_for c b r m params args) (λ m. typed_all c b r m args) (called_at c b true (count_of args) f))
