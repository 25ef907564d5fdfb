-- What typing makes of terms gives what its sort says.
use Rattle.std.proofs.Common.{◌≡◌, ℕ, ℤ, suc, zero, Bool, true, false, ◌==◌, ◌&&◌, ◌||◌, not, if◌then◌else◌, List, [], ◌∷◌, length, Option, Some, None, Ok, Err, slice_get, refl, ap, sym, ◌∙◌, subst, arith}
use Rattle.std.specs.Option.{is_some}
use Rattle.std.proofs.lemmas.Bool.{eqb-true}
use Rattle.wp_base.specs.declared.answers.Rule.TheVariants as rule
use Rattle.c_syntax.specs.declared.token.TokenKind.{TokenKind}
use Rattle.c_syntax.specs.declared.token.TokenKind.TheVariants as token
use Rattle.c_syntax.specs.declared.expr.UnOp.{UnOp}
use Rattle.c_syntax.specs.declared.shapes.terms.TermTwo.{TermTwo}
use Rattle.c_syntax.specs.declared.shapes.terms.TermTwo.TheVariants as between
use Rattle.c_syntax.specs.Expr as e
use Rattle.c_syntax.specs.Term as t
use Rattle.c_syntax.specs.Lines.{term_line_of}
use Rattle.c_answers.specs.Answers.{Answer, after, fault, unknown, wrong}
use Rattle.typed_prog.specs.declared.operators.Variable.{Variable}
use Rattle.typed_prog.specs.declared.operators.Variable.TheVariants as variable
use Rattle.typed_prog.specs.Types.{is_void, is_pointer}
use Rattle.c_scopes.specs.declared.symbols.Object.{Object}
use Rattle.c_scopes.specs.declared.symbols.Resolved.{Resolved}
use Rattle.c_scopes.specs.Meanings.{is_void_pointer}
use Rattle.acsl_trees.specs.declared.heads.Head.TheVariants as head
use Rattle.acsl_trees.specs.declared.heads.Label.{Label}
use Rattle.acsl_trees.specs.declared.operands.TermType.{TermType}
use Rattle.acsl_trees.specs.declared.operands.TermType.TheVariants as type
use Rattle.acsl_trees.specs.declared.operands.Sort.TheVariants as sort
use Rattle.acsl_trees.specs.Tree.{Tree, node, Trees, stop, trees_of, leaf}
use Rattle.acsl_trees.specs.Operands.{Operand, operand}
use Rattle.acsl_rules.specs.Operators.{unary}
use Rattle.acsl_rules.specs.Choices.{conditional}
use Rattle.acsl_rules.specs.Objects.{field}
use Rattle.acsl_rules.specs.Contexts.{passed}
use Rattle.acsl_rules.specs.Laws as l
use Rattle.acsl_rules.specs.Laws.{Leaves, Makes, Fits, FitsSort, FitsType, Made, Holds, OperatorsFit, ObjectsFit, ListsFit}
use Rattle.acsl_rules.proofs.Terms.{terms_fit}
use Rattle.acsl_guards.specs.Mentions.{Names as NotThese, is_among, is_one_of, some_part_of, holds_one}
use Rattle.acsl_names.specs.declared.names.Bound.{Bound}
use Rattle.acsl_names.specs.declared.names.Definition.{Definition}
use Rattle.acsl_names.specs.declared.names.Reading.{Reading}
use Rattle.acsl_names.specs.declared.names.Meaning.{Meaning}
use Rattle.acsl_names.specs.declared.names.Meaning.TheVariants as meaning
use Rattle.acsl_names.specs.declared.counting.Count.{Count}
use Rattle.acsl_names.specs.Names.{Around, meaning_at, type_named}
use Rattle.acsl_names.specs.Labels.{may_stand, is_ensures, label_at, old_at, under_if}
use Rattle.acsl_names.specs.Counting.{with_node, inside_call, ended}
use Rattle.acsl_names.specs.Weights.{count_of}
use Rattle.acsl_terms.specs.declared.calls.Called.{Called}
use Rattle.acsl_terms.specs.declared.calls.Called.TheVariants as called
use Rattle.acsl_terms.specs.Leaves.{closed, leafed, misshapen, literal, bound_by, object_by, result_of, result, sort_of, value_sort}
use Rattle.acsl_terms.specs.Steps.{local_of, may_address, prefixed, cast_type, cast_with, labelled_by}
use Rattle.acsl_terms.specs.Calls.{counted_call, sorted_call, call_of, called_by, called_at, call_tree, result_sort, sort_called, recursion, is_itself, goes_down}
use Rattle.acsl_terms.specs.Terms.{ForParams, recursive_call, expanded_count, expanded_call, call_by, as_term, alone_tree, alone_call, meant, with_name_counted, plainly_named, named, under_label, joined, typed, typed_for, typed_all}
use Rattle.acsl_well_typed.specs.WellTyped as s
use Rattle.acsl_well_typed.specs.WellTyped.{What, an_integer, a_pointer, an_object, Known, Names, no_name, type_gives, types_give, result_gives, takes, all_taken, one_more, what_of, kids_give}
use Rattle.acsl_well_typed.specs.Terms.{HasTypes, HaveTypes, known_at, IsOfItsSort, Gives, AreOfTypes, TermsAreWellTyped, ArgumentsAreWellTyped}
use Rattle.acsl_well_typed.proofs.Answers.{after_holds, after_any, holds_all, closed_holds, Of}
use Rattle.acsl_well_typed.proofs.Finding.{parts_by, definition_at, IsFine, AreFine, neither, none_of_no, none_of_nothing, all_fine}
use Rattle.acsl_well_typed.proofs.Making.{node_gives, kid_more, given, as_leaf, makes, is_of_its_sort}

module _ (z : Bool) (c : Around) (b : Bound) (ns : Names) (have : HaveTypes c.definitions.items) (xs : NotThese) (fine : AreFine c b ns xs) where
  abbrev pub k : Known
  k = known_at z c

  abbrev pub g : Leaves
  g = given k ns

  pub operators : OperatorsFit g
  operators = (terms_fit g).0

  pub objects : ObjectsFit g
  objects = (terms_fit g).1

  pub lists : ListsFit g
  lists = (terms_fit g).2

  -- ---- leaves

  literal_fits : (line : ℕ) (token : TokenKind) → Made g (literal line token)
  literal_fits line (token.Number z base suffix) = as_leaf k ns l.an_integer (head.Number z) stop refl refl
  literal_fits line (token.Name x) = tt
  literal_fits line (token.Word w) = tt
  literal_fits line (token.Char z) = tt
  literal_fits line (token.Punct p) = tt
  literal_fits line token.AnnotOpen = tt
  literal_fits line token.AnnotClose = tt

  name_fits : (i : ℕ) (t : TermType) (w : What) → type_gives t ≡ Some w → slice_get ns i ≡ Some w → FitsSort g (leaf (head.Name i)) (sort_of t)
  name_fits i type.Integer w e h = let same : an_integer ≡ w = cc in as_leaf k ns l.an_integer (head.Name i) stop refl (h ∙ ap (λ w. Some w) (sym same))
  name_fits i (type.Pointer p) w e h = let same : a_pointer ≡ w = cc in as_leaf k ns l.a_pointer (head.Name i) stop refl (h ∙ ap (λ w. Some w) (sym same))
  name_fits i type.Unknown w e h = absurd cc

  bound_fits : (line i : ℕ) (o : Option TermType) → slice_get b.types i ≡ o → IsFine b ns (meaning.Bound i) → Made g (bound_by line i o)
  bound_fits line i (Some t) h f = let p : (w : What) × (type_gives t ≡ Some w) × (slice_get ns i ≡ Some w) = f i t refl h in name_fits i t p.0 p.1 p.2
  bound_fits line i None h f = tt

  object_fits : (line : ℕ) (x : Variable) (o : Option Object) → Made g (object_by line x o)
  object_fits line x (Some o) = as_leaf k ns l.an_object (head.Variable x) stop refl refl
  object_fits line x None = tt

  local_if : (line i : ℕ) (b : Bool) → Made g (if b then object_by line (variable.Local i) (slice_get c.objects i) else misshapen line)
  local_if line i true = object_fits line (variable.Local i) (slice_get c.objects i)
  local_if line i false = tt

  -- the type of `\result` by whether it is a pointer
  value_fits : (p : Bool) → is_void c.result ≡ false → is_pointer c.result ≡ p
      → FitsSort g (leaf head.Result) (if p then sort.Pointer c.result false else sort.Integer None)
  value_fits true e d = as_leaf k ns l.a_pointer head.Result stop refl (ap (λ v. s.value_gives v (is_pointer c.result)) e ∙ ap (s.value_gives false) d)
  value_fits false e d = as_leaf k ns l.an_integer head.Result stop refl (ap (λ v. s.value_gives v (is_pointer c.result)) e ∙ ap (s.value_gives false) d)

  result_by : (line : ℕ) (v : Bool) → is_void c.result ≡ v → Made g (if v then wrong line else Ok (operand (leaf head.Result) (value_sort c.result)))
  result_by line true e = tt
  result_by line false e = value_fits _ e refl

  result_if : (line : ℕ) (b : Bool) → Made g (if b then result_of line c.result else misshapen line)
  result_if line true = result_by line _ refl
  result_if line false = tt

  number_fits : (z : ℤ) → Fits g (operand (leaf (head.Number z)) (sort.Integer (Some z)))
  number_fits z = as_leaf k ns l.an_integer (head.Number z) stop refl refl

  meant_fits : (r : Reading) (line : ℕ) (m : Meaning) → IsFine b ns m → Made g (meant c b r line m)
  meant_fits r line (meaning.Bound i) f = bound_fits line i _ refl f
  meant_fits r line (meaning.Local i) f = local_if line i (may_stand c r i)
  meant_fits r line (meaning.Global i) f = object_fits line (variable.Global i) (slice_get c.file.globals i)
  meant_fits r line (meaning.Enumerator z) f = number_fits z
  meant_fits r line meaning.Function f = tt
  meant_fits r line meaning.Typedef f = tt
  meant_fits r line (meaning.Definition i) f = tt
  meant_fits r line meaning.Nothing f = tt

  -- ---- around operands

  address_if : (line : ℕ) (y : Operand) (b : Bool) → Fits g y → Made g (if b then Ok y else misshapen line)
  address_if line y true f = f
  address_if line y false f = tt

  prefixed_fits : (r : Reading) (line : ℕ) (o : UnOp) (x : Operand) → Fits g x → Made g (prefixed c r line o x)
  unfolding prefixed
  prefixed_fits r line o x f = after_holds (Fits g) (Fits g) (unary line o x) _ (operators.of_one line o x f)
      (λ y fy. address_if line y (may_address c r o (local_of x.tree)) fy)

  cast_fits : (line : ℕ) (type : e.CType) (to : Option Resolved) (x : Operand) → Fits g x → Made g (cast_with c line type to x)
  unfolding cast_with
  cast_fits line type to x f =
      after_any (Fits g) (is_void_pointer c.file line type) _ (λ p. after_any (Fits g) (cast_type line p to) _ (λ z. objects.of_cast c.model line z p x f))

  state_fits : (line : ℕ) (o : Option Label) (x : Operand) → Fits g x → Made g (labelled_by line o x)
  unfolding labelled_by
  state_fits line (Some y) x f = objects.of_state y x f
  state_fits line None x f = tt

  joined_fits : (line : ℕ) (h : TermTwo) (x y : Operand) → Fits g x → Fits g y → Made g (joined c line h x y)
  joined_fits line (between.Binary o) x y f d = operators.of_two c.sizes line o x y f d
  joined_fits line between.Index x y f d = objects.of_index c.sizes line x y f d
  joined_fits line between.Range x y f d = tt

  -- ---- calls

  -- what is called, and with how many arguments
  abbrev pub IsCall : (is_term : Bool) → (count number : ℕ) → Type 0
  IsCall is_term n i = (d : Definition) × (slice_get c.definitions.items i ≡ Some d) × (is_some d.result ≡ is_term) × (length d.params ≡ n)

  abbrev pub CallIs : (is_term : Bool) → (count : ℕ) → Called → Type 0
  CallIs is_term n (called.Recursive i) = IsCall is_term n i
  CallIs is_term n (called.Expanded i) = IsCall is_term n i
  CallIs is_term n called.Unknown = Unit {0}
  CallIs is_term n (called.Wrong r) = Unit {0}

  counted_is : (is_term : Bool) (n i : ℕ) (fits is_recursive : Bool) → (fits ≡ true → IsCall is_term n i) → CallIs is_term n (counted_call i fits is_recursive)
  counted_is is_term n i false is_recursive is = tt
  counted_is is_term n i true true is = is refl
  counted_is is_term n i true false is = is refl

  as_function : (n i : ℕ) (d : Definition) (has : Bool) → is_some d.result ≡ has → slice_get c.definitions.items i ≡ Some d
      → CallIs true n (if has then counted_call i (length d.params == n) d.is_recursive else called.Wrong rule.Shape)
  as_function n i d true e found = counted_is true n i (length d.params == n) d.is_recursive (λ h. (d, found, e, eqb-true (length d.params) n h))
  as_function n i d false e found = tt

  as_predicate : (n i : ℕ) (d : Definition) (has : Bool) → is_some d.result ≡ has → slice_get c.definitions.items i ≡ Some d
      → CallIs false n (if has then called.Wrong rule.Shape else counted_call i (length d.params == n) d.is_recursive)
  as_predicate n i d true e found = tt
  as_predicate n i d false e found = counted_is false n i (length d.params == n) d.is_recursive (λ h. (d, found, e, eqb-true (length d.params) n h))

  sorted_is : (is_term : Bool) (n i : ℕ) (d : Definition) → slice_get c.definitions.items i ≡ Some d → CallIs is_term n (sorted_call is_term i n d)
  sorted_is true n i d found = as_function n i d _ refl found
  sorted_is false n i d found = as_predicate n i d _ refl found

  call_is : (is_term : Bool) (n i : ℕ) (o : Option Definition) → slice_get c.definitions.items i ≡ o → CallIs is_term n (call_of is_term i n o)
  call_is is_term n i (Some d) found = sorted_is is_term n i d found
  call_is is_term n i None found = tt

  pub called_is : (is_term : Bool) (n : ℕ) (m : Meaning) → CallIs is_term n (called_by c.definitions is_term n m)
  called_is is_term n (meaning.Definition i) = call_is is_term n i _ refl
  called_is is_term n meaning.Nothing = tt
  called_is is_term n (meaning.Bound i) = tt
  called_is is_term n (meaning.Local i) = tt
  called_is is_term n (meaning.Global i) = tt
  called_is is_term n (meaning.Enumerator z) = tt
  called_is is_term n meaning.Function = tt
  called_is is_term n meaning.Typedef = tt

  -- what the definition with this number gives
  abbrev pub definition_gives : Option Definition → Option What
  definition_gives (Some d) = result_gives d.result
  definition_gives None = None

  abbrev pub call_gives : Called → Option What
  call_gives (called.Recursive i) = definition_gives (slice_get c.definitions.items i)
  call_gives (called.Expanded i) = definition_gives (slice_get c.definitions.items i)
  call_gives called.Unknown = None
  call_gives (called.Wrong r) = None

  -- a call that gives what its definition does
  pub record IsMadeOf (f : Called) (v : Tree) : Type 0 where
    pub number : ℕ
    pub kids : Trees
    pub is : v ≡ node (head.Call number) kids
    pub what : What
    pub result : call_gives f ≡ Some what
    pub tree : Gives k ns what v

  -- what the arguments give is what the parameters take
  takes_one : (p : TermType) (w : What) → type_gives p ≡ Some w → takes p w ≡ true
  takes_one type.Integer w e = let same : an_integer ≡ w = cc in ap (takes type.Integer) (sym same)
  takes_one (type.Pointer q) w e = let same : a_pointer ≡ w = cc in ap (takes (type.Pointer q)) (sym same)
  takes_one type.Unknown w e = absurd cc

  arguments_give : (ps : List TermType) (vs : List Tree) → AreOfTypes k ns ps vs
      → (ws : List What) × (kids_give k ns no_name (trees_of vs) ≡ Some ws) × (all_taken ps ws ≡ true)
  arguments_give [] [] f = ([], refl, refl)
  arguments_give [] (v ∷ vs) f = absurd f
  arguments_give (p ∷ ps) [] f = absurd f
  arguments_give (p ∷ ps) (v ∷ vs) f =
      let q : (w : What) × (type_gives p ≡ Some w) × Gives k ns w v = f.0 in
      let r : (ws : List What) × (kids_give k ns no_name (trees_of vs) ≡ Some ws) × (all_taken ps ws ≡ true) = arguments_give ps vs f.1 in
      (q.0 ∷ r.0, kid_more k ns v (trees_of vs) q.0 r.0 q.2 r.1, ap (λ b. b && all_taken ps r.0) (takes_one p q.0 q.1) ∙ r.2)

  call_tree_gives : (i : ℕ) (d : Definition) (vs : List Tree) (w : What) → slice_get c.definitions.items i ≡ Some d → AreOfTypes k ns d.params vs
      → result_gives d.result ≡ Some w
      → Gives k ns w (call_tree i vs)
  call_tree_gives i d vs w found f e =
      let r : (ws : List What) × (kids_give k ns no_name (trees_of vs) ≡ Some ws) × (all_taken d.params ws ≡ true) = arguments_give d.params vs f in
      node_gives k ns (head.Call i) (trees_of vs) r.0 r.1 ∙ ap (λ o. s.called o r.0) found ∙ ap (λ b. if b then result_gives d.result else None) r.2 ∙ e

  call_tree_made : (f : Called) (i : ℕ) (d : Definition) (vs : List Tree) → call_gives f ≡ definition_gives (slice_get c.definitions.items i)
      → slice_get c.definitions.items i ≡ Some d
      → AreOfTypes k ns d.params vs → IsMadeOf f (call_tree i vs)
  call_tree_made f i d vs same found are =
      let h : HasTypes d = definition_at c.definitions.items i d have found in
      record {
        number = i;
        kids = trees_of vs;
        is = refl;
        what = h.given;
        result = same ∙ ap definition_gives found ∙ h.result;
        tree = call_tree_gives i d vs h.given found are h.result;
      }

  abbrev pub EachFits : ForParams → (count : ℕ) → Type 0
  EachFits each n = (m : Count) (params : List TermType) (ws : Names) → types_give params ≡ Some ws → length params ≡ n
      → Holds (Of (AreOfTypes k ns params)) (each m params)

  each_fits : (is_term : Bool) (n i : ℕ) (each : ForParams) (d : Definition) (m : Count) → EachFits each n → IsCall is_term n i
      → slice_get c.definitions.items i ≡ Some d
      → Holds (Of (AreOfTypes k ns d.params)) (each m d.params)
  each_fits is_term n i each d m fits is found =
      let h : HasTypes d = definition_at c.definitions.items i d have found in
      let same : is.0 ≡ d = cc in
      fits m d.params h.names h.params (ap (λ d. length d.params) (sym same) ∙ is.3)

  recursion_if : (i line : ℕ) (vs : List Tree) (b : Bool) → IsMadeOf (called.Recursive i) (call_tree i vs)
      → Holds (IsMadeOf (called.Recursive i)) (if b then misshapen line else Ok (call_tree i vs))
  recursion_if i line vs true f = tt
  recursion_if i line vs false f = f

  recursion_fits : (i line : ℕ) (args : t.Terms) (vs : List Tree) → IsMadeOf (called.Recursive i) (call_tree i vs)
      → Holds (IsMadeOf (called.Recursive i)) (recursion c line i args vs)
  unfolding recursion
  recursion_fits i line args vs f = recursion_if i line vs (is_itself c.itself i && not (goes_down c.down args)) f

  recursive_fits : (is_term : Bool) (count : ℕ) (n : Count) (line i : ℕ) (args : t.Terms) (each : ForParams) (o : Option Definition)
      → slice_get c.definitions.items i ≡ o → IsCall is_term count i
      → EachFits each count → Holds (Of (IsMadeOf (called.Recursive i))) (recursive_call c n line i args each o)
  recursive_fits is_term count n line i args each None found is fits =
      closed_holds (IsMadeOf (called.Recursive i)) n.limit (with_node line n).limit (with_node line n) (wrong line) tt
  recursive_fits is_term count n line i args each (Some d) found is fits =
      after_holds (Of (AreOfTypes k ns d.params)) (Of (IsMadeOf (called.Recursive i))) (each (with_node line n) d.params) _
      (each_fits is_term count i each d (with_node line n) fits is found)
      (λ vs are. closed_holds (IsMadeOf (called.Recursive i)) n.limit (with_node line n).limit vs.1 (recursion c line i args vs.0)
      (recursion_fits i line args vs.0 (call_tree_made (called.Recursive i) i d vs.0 refl found are)))

  expanded_fits : (is_term : Bool) (count : ℕ) (n : Count) (line i : ℕ) (args : t.Terms) (each : ForParams) (o : Option Definition)
      → slice_get c.definitions.items i ≡ o → IsCall is_term count i
      → EachFits each count → Holds (Of (IsMadeOf (called.Expanded i))) (expanded_call c b n line i args each o)
  expanded_fits is_term count n line i args each None found is fits =
      closed_holds (IsMadeOf (called.Expanded i)) n.limit (with_node line n).limit (with_node line n) (wrong line) tt
  expanded_fits is_term count n line i args each (Some d) found is fits =
      after_holds (Of (AreOfTypes k ns d.params)) (Of (IsMadeOf (called.Expanded i))) (each (inside_call (expanded_count c b n line d args)) d.params) _
      (each_fits is_term count i each d (inside_call (expanded_count c b n line d args)) fits is found)
      (λ vs are. closed_holds (IsMadeOf (called.Expanded i)) n.limit (expanded_count c b n line d args).limit (expanded_count c b n line d args)
      (Ok (call_tree i vs.0))
      (call_tree_made (called.Expanded i) i d vs.0 refl found are))

  pub call_fits : (is_term : Bool) (count : ℕ) (n : Count) (line : ℕ) (args : t.Terms) (each : ForParams) (alone : Count → Answer Count) (f : Called)
      → CallIs is_term count f → EachFits each count
      → Holds (Of (IsMadeOf f)) (call_by c b n line args each alone f)
  call_fits is_term count n line args each alone called.Unknown is fits = closed_holds (IsMadeOf called.Unknown) n.limit (with_node line n).limit
      (with_node line n) (unknown line) tt
  call_fits is_term count n line args each alone (called.Wrong r) is fits =
      after_any (Of (IsMadeOf (called.Wrong r))) (alone (with_node line n)) _
      (λ m. closed_holds (IsMadeOf (called.Wrong r)) n.limit (with_node line n).limit m (Err (fault r line)) tt)
  call_fits is_term count n line args each alone (called.Recursive i) is fits = recursive_fits is_term count n line i args each _ refl is fits
  call_fits is_term count n line args each alone (called.Expanded i) is fits = expanded_fits is_term count n line i args each _ refl is fits

  -- ---- calls that are terms

  no_call : (w : What) → ◌≡◌ {A = Option What} None (Some w) → ⊥
  no_call w e = absurd cc

  result_fits : (i : ℕ) (kids : Trees) (d : Definition) (r : Option TermType) (w : What) → is_some r ≡ true → result_gives r ≡ Some w
      → Gives k ns w (node (head.Call i) kids) → d.result ≡ r
      → FitsSort g (node (head.Call i) kids) (result_sort (Some d))
  result_fits i kids d None w has e f is = absurd cc
  result_fits i kids d (Some type.Integer) w has e f is =
      let same : an_integer ≡ w = cc in
      subst (λ r. FitsSort g (node (head.Call i) kids) (result_sort (Some (record d { result = r })))) (sym is)
      (as_leaf k ns l.an_integer (head.Call i) kids refl (f ∙ ap (λ w. Some w) (sym same)))
  result_fits i kids d (Some (type.Pointer p)) w has e f is =
      let same : a_pointer ≡ w = cc in
      subst (λ r. FitsSort g (node (head.Call i) kids) (result_sort (Some (record d { result = r })))) (sym is)
      (as_leaf k ns l.a_pointer (head.Call i) kids refl (f ∙ ap (λ w. Some w) (sym same)))
  result_fits i kids d (Some type.Unknown) w has e f is = absurd cc

  called_fits : (count i : ℕ) (v : Tree) → IsCall true count i → (number : ℕ) (kids : Trees) → v ≡ node (head.Call number) kids → (w : What)
      → definition_gives (slice_get c.definitions.items i) ≡ Some w → Gives k ns w v → FitsSort g v (result_sort (slice_get c.definitions.items i))
  called_fits count i v is number kids same w e f =
      subst (λ o. FitsSort g v (result_sort o)) (sym is.1) (subst (λ v. FitsSort g v (result_sort (Some is.0))) (sym same)
      (result_fits number kids is.0 is.0.result w is.2 (ap definition_gives (sym is.1) ∙ e) (ap (what_of k ns) (sym same) ∙ f) refl))

  term_fits : (count : ℕ) (f : Called) (v : Tree) → CallIs true count f → IsMadeOf f v → FitsSort g v (sort_called c.definitions f)
  term_fits count (called.Recursive i) v is made = called_fits count i v is made.number made.kids made.is made.what made.result made.tree
  term_fits count (called.Expanded i) v is made = called_fits count i v is made.number made.kids made.is made.what made.result made.tree
  term_fits count called.Unknown v is made = absurd (no_call made.what made.result)
  term_fits count (called.Wrong r) v is made = absurd (no_call made.what made.result)

  as_term_fits : (count : ℕ) (f : Called) (o : Answer (Tree × Count)) → CallIs true count f → Holds (Of (IsMadeOf f)) o → Holds (Of (Fits g)) (as_term c f o)
  as_term_fits count f o is made = after_holds (Of (IsMadeOf f)) (Of (Fits g)) o _ made (λ v m. term_fits count f v.0 is m)

  -- ---- names

  no_arguments : EachFits (λ m params. Ok ([], m)) 0
  no_arguments m [] ws e same = tt
  no_arguments m (p ∷ ps) ws e same = absurd (omega (arith, same))

  alone_fits : (n : Count) (line : ℕ) (f : Called) → CallIs true 0 f → Holds (Of (Fits g)) (alone_call c b n line f)
  alone_fits n line f is =
      as_term_fits 0 f (alone_tree c b n line f) is (call_fits true 0 n line t.stop (λ m params. Ok ([], m)) (λ m. Ok m) f is no_arguments)

  plainly_fits : (r : Reading) (n : Count) (line : ℕ) (m : Meaning) → IsFine b ns m → Holds (Of (Fits g)) (plainly_named c b r n line m)
  plainly_fits r n line m f = closed_holds (Fits g) n.limit (with_name_counted line m n).limit (with_name_counted line m n) (meant c b r line m)
      (meant_fits r line m f)

  named_fits : (r : Reading) (n : Count) (line : ℕ) (m : Meaning) → IsFine b ns m → Holds (Of (Fits g)) (named c b r n line (alone_call c b n line) m)
  named_fits r n line (meaning.Definition i) f = alone_fits n line _ (called_is true 0 (meaning.Definition i))
  named_fits r n line (meaning.Bound i) f = plainly_fits r n line (meaning.Bound i) f
  named_fits r n line (meaning.Local i) f = plainly_fits r n line (meaning.Local i) f
  named_fits r n line (meaning.Global i) f = plainly_fits r n line (meaning.Global i) f
  named_fits r n line (meaning.Enumerator z) f = plainly_fits r n line (meaning.Enumerator z) f
  named_fits r n line meaning.Function f = plainly_fits r n line meaning.Function f
  named_fits r n line meaning.Typedef f = plainly_fits r n line meaning.Typedef f
  named_fits r n line meaning.Nothing f = plainly_fits r n line meaning.Nothing f

  -- ---- terms

  leafed_fits : (n : Count) (line : ℕ) (o : Answer Operand) → Made g o → Holds (Of (Fits g)) (leafed line n o)
  leafed_fits n line o f = closed_holds (Fits g) n.limit (with_node line n).limit (with_node line n) o f

  result_made : (line : ℕ) → Made g (result c line)
  result_made line = result_if line (is_ensures c.site)

  labelled_fits : (n : Count) (line : ℕ) (o : Option Label) (inside : Answer (Operand × Count)) → Holds (Of (Fits g)) inside
      → Holds (Of (Fits g)) (under_label inside n line o)
  labelled_fits n line o inside f =
      after_holds (Of (Fits g)) (Of (Fits g)) inside _ f (λ x fx. closed_holds (Fits g) n.limit (with_node line n).limit x.1 (labelled_by line o x.0)
      (state_fits line o x.0 fx))

  two_fit : (n : Count) (line : ℕ) (h : TermTwo) (o : Answer (Operand × Count)) (p : Count → Answer (Operand × Count)) → Holds (Of (Fits g)) o
      → ((m : Count) → Holds (Of (Fits g)) (p m))
      → Holds (Of (Fits g)) (after o (λ x. after (p (with_node line x.1)) (λ y. closed x.1.limit (with_node line x.1).limit y.1 (joined c line h x.0 y.0))))
  two_fit n line h o p f d =
      after_holds (Of (Fits g)) (Of (Fits g)) o _ f (λ x fx. after_holds (Of (Fits g)) (Of (Fits g)) (p (with_node line x.1)) _ (d (with_node line x.1))
      (λ y fy. closed_holds (Fits g) x.1.limit (with_node line x.1).limit y.1 (joined c line h x.0 y.0) (joined_fits line h x.0 y.0 fx fy)))

  -- of this type
  abbrev pub IsOfType : TermType → Tree → Type 0
  IsOfType p v = (w : What) × (type_gives p ≡ Some w) × Gives k ns w v

  of_type : (p : TermType) (v : Tree) (w : What) → type_gives p ≡ Some w → FitsType g p v → IsOfType p v
  of_type type.Integer v w e f = (an_integer, refl, makes k ns l.an_integer v f)
  of_type (type.Pointer q) v w e f = (a_pointer, refl, makes k ns l.a_pointer v f)
  of_type type.Unknown v w e f = absurd cc

  holds_type : (p : TermType) (w : What) (o : Answer Tree) → type_gives p ≡ Some w → Holds (FitsType g p) o → Holds (IsOfType p) o
  holds_type p w (Ok v) e f = of_type p v w e f
  holds_type p w (Err r) e f = tt

  pub passed_is : (line : ℕ) (p : TermType) (w : What) (x : Operand) → type_gives p ≡ Some w → Fits g x → Holds (IsOfType p) (passed line p x)
  passed_is line p w x e f = holds_type p w (passed line p x) e (lists.of_argument line p x f)

  mutual
    pub typed_fits : (r : Reading) (n : Count) (a : t.Term) → holds_one xs a ≡ false → Holds (Of (Fits g)) (typed c b r n a)
    typed_fits r n (t.number line token) free = leafed_fits n line (literal line token.kind) (literal_fits line token.kind)
    typed_fits r n (t.char line z) free = leafed_fits n line _ (number_fits z)
    typed_fits r n (t.result line) free = leafed_fits n line (result c line) (result_made line)
    typed_fits r n (t.null line) free = leafed_fits n line _ l.is_null
    typed_fits r n (t.name line x) free = named_fits r n line (meaning_at c b x) (fine x free)
    typed_fits r n (t.unary line o a) free =
        after_holds (Of (Fits g)) (Of (Fits g)) (typed c b r (with_node line n) a) _ (typed_fits r (with_node line n) a free)
        (λ x fx. closed_holds (Fits g) n.limit (with_node line n).limit x.1 (prefixed c r line o x.0) (prefixed_fits r line o x.0 fx))
    typed_fits r n (t.cast line type a) free =
        after_any (Of (Fits g)) (ended n.limit (with_node line n).limit (with_node line n).limit (type_named c line type)) _ (λ to.
        after_holds (Of (Fits g)) (Of (Fits g)) (typed c b r (with_node line n) a) _ (typed_fits r (with_node line n) a free)
        (λ x fx. closed_holds (Fits g) n.limit (with_node line n).limit x.1 (cast_with c line type to x.0) (cast_fits line type to x.0 fx)))
    typed_fits r n (t.old line a) free = labelled_fits n line (old_at c.site) _ (typed_fits (under_if (old_at c.site) r) (with_node line n) a free)
    typed_fits r n (t.at_label line a x) free = labelled_fits n line (label_at c.site x) _
        (typed_fits (under_if (label_at c.site x) r) (with_node line n) a free)
    typed_fits r n (t.field line a f arrow) free =
        after_holds (Of (Fits g)) (Of (Fits g)) (typed c b r n a) _ (typed_fits r n a free)
        (λ x fx. closed_holds (Fits g) x.1.limit (with_node line x.1).limit (with_node line x.1) (field c.file line f arrow x.0)
        (objects.of_fields c.file line f arrow x.0 fx))
    typed_fits r n (t.binary line o a d) free = two_fit n line (between.Binary o) (typed c b r n a) (λ m. typed c b r m d)
        (typed_fits r n a (neither _ _ free).0) (λ m. typed_fits r m d (neither _ _ free).1)
    typed_fits r n (t.index line a d) free = two_fit n line between.Index (typed c b r n a) (λ m. typed c b r m d) (typed_fits r n a (neither _ _ free).0)
        (λ m. typed_fits r m d (neither _ _ free).1)
    typed_fits r n (t.range line a d) free = two_fit n line between.Range (typed c b r n a) (λ m. typed c b r m d) (typed_fits r n a (neither _ _ free).0)
        (λ m. typed_fits r m d (neither _ _ free).1)
    typed_fits r n (t.cond line test a d) free =
        after_holds (Of (Fits g)) (Of (Fits g)) (typed c b r n test) _ (typed_fits r n test (neither _ _ free).0) (λ x fx.
        after_holds (Of (Fits g)) (Of (Fits g)) (typed c b r (with_node line x.1) a) _
        (typed_fits r (with_node line x.1) a (neither _ _ (neither _ _ free).1).0) (λ y fy.
        after_holds (Of (Fits g)) (Of (Fits g)) (typed c b r y.1 d) _ (typed_fits r y.1 d (neither _ _ (neither _ _ free).1).1) (λ z fz.
        closed_holds (Fits g) x.1.limit (with_node line x.1).limit z.1 (conditional line x.0 y.0 z.0) (operators.of_three line x.0 y.0 z.0 fx fy fz))))
    typed_fits r n (t.call line f args) free =
        as_term_fits (count_of args) (called_at c b true (count_of args) f) _ (called_is true (count_of args) _)
        (call_fits true (count_of args) n line args (λ m params. typed_for c b r m params args) (λ m. typed_all c b r m args)
        (called_at c b true (count_of args) f)
        (called_is true (count_of args) _) (λ m params ws e same. typed_for_fits r m params args ws free e same))

    pub typed_for_fits : (r : Reading) (n : Count) (types : List TermType) (args : t.Terms) (ws : Names) → some_part_of (is_one_of xs) args ≡ false
        → types_give types ≡ Some ws → length types ≡ count_of args
        → Holds (Of (AreOfTypes k ns types)) (typed_for c b r n types args)
    typed_for_fits r n [] t.stop ws free e same = tt
    typed_for_fits r n [] (t.more a rest) ws free e same = absurd (omega (arith, same))
    typed_for_fits r n (p ∷ ps) t.stop ws free e same = absurd (omega (arith, same))
    typed_for_fits r n (p ∷ ps) (t.more a rest) ws free e same =
        let q : (x : What) × (others : Names) × (type_gives p ≡ Some x) × (types_give ps ≡ Some others) × (ws ≡ x ∷ others) = parts_by _ _ ws e in
        after_holds (Of (IsOfType p)) (Of (AreOfTypes k ns (p ∷ ps))) (after (typed c b r n a)
        (λ x. closed n.limit n.limit x.1 (passed (term_line_of a) p x.0))) _
        (after_holds (Of (Fits g)) (Of (IsOfType p)) (typed c b r n a) _ (typed_fits r n a (neither _ _ free).0)
        (λ x fx. closed_holds (IsOfType p) n.limit n.limit x.1 (passed (term_line_of a) p x.0) (passed_is (term_line_of a) p q.0 x.0 q.2 fx)))
        (λ v fv. after_holds (Of (AreOfTypes k ns ps)) (Of (AreOfTypes k ns (p ∷ ps))) (typed_for c b r v.1 ps rest) _
        (typed_for_fits r v.1 ps rest q.1 (neither _ _ free).1 q.3 (omega (arith, same))) (λ vs fvs. (fv, fvs)))

-- ---- where each name has a type

module _ (z : Bool) (c : Around) (b : Bound) (ns : Names) (have : HaveTypes c.definitions.items) (scope : types_give b.types ≡ Some ns) where
  pub typed_any : (r : Reading) (n : Count) (a : t.Term) → Holds (Of (Fits (given (known_at z c) ns))) (typed c b r n a)
  typed_any r n a = typed_fits z c b ns have [] (all_fine c b ns scope) r n a (none_of_no a)

  pub typed_for_any : (r : Reading) (n : Count) (types : List TermType) (args : t.Terms) (ws : Names) → types_give types ≡ Some ws
      → length types ≡ count_of args
      → Holds (Of (AreOfTypes (known_at z c) ns types)) (typed_for c b r n types args)
  typed_for_any r n types args ws e same = typed_for_fits z c b ns have [] (all_fine c b ns scope) r n types args ws (none_of_nothing args) e same

pub terms_are_well_typed : TermsAreWellTyped
terms_are_well_typed z c b ns r n a have scope =
    holds_all (Of (Fits (given (known_at z c) ns))) (Of (IsOfItsSort (known_at z c) ns)) (typed c b r n a) (λ x f. is_of_its_sort (known_at z c) ns x.0 f)
    (typed_any z c b ns have scope r n a)

pub arguments_are_well_typed : ArgumentsAreWellTyped
arguments_are_well_typed z c b ns r n types args have scope params e same = typed_for_any z c b ns have scope r n types args params e same
