-- A predicate that calls itself has a fault, so what was typed of one doesn't.
use Rattle.std.proofs.Common.{◌≡◌, ℕ, Bool, true, false, ◌==◌, ◌&&◌, ◌||◌, not, if◌then◌else◌, List, [], ◌∷◌, length, Option, Some, None, Ok, Err, slice_get, refl, ap, sym, ◌∙◌, subst, arith}
use Rattle.std.specs.Option.{is_some}
use Rattle.std.specs.List.{list_any}
use Rattle.std.specs.Str.{bytes_eq}
use Rattle.wp_base.specs.declared.answers.Rule.{Rule}
use Rattle.wp_base.specs.declared.answers.Rule.TheVariants as rule
use Rattle.c_syntax.specs.declared.expr.BinOp.{BinOp}
use Rattle.c_syntax.specs.declared.expr.BinOp.TheVariants as op
use Rattle.c_syntax.specs.Term as t
use Rattle.c_syntax.specs.Pred as p
use Rattle.c_answers.specs.Answers.{Answer, after}
use Rattle.acsl_guards.specs.Mentions.{some_part_of, is_call, calls}
use Rattle.acsl_guards.specs.Recursive.{pred_calls}
use Rattle.acsl_trees.specs.declared.operands.TermType.{TermType}
use Rattle.acsl_trees.specs.Tree.{Tree}
use Rattle.acsl_trees.specs.Operands.{Operand}
use Rattle.acsl_rules.specs.Laws.{Holds}
use Rattle.acsl_names.specs.declared.names.Bound.{Bound}
use Rattle.acsl_names.specs.declared.names.Definition.{Definition}
use Rattle.acsl_names.specs.declared.names.Reading.{Reading}
use Rattle.acsl_names.specs.declared.names.Meaning.TheVariants as meaning
use Rattle.acsl_names.specs.declared.counting.Limit.{Limit}
use Rattle.acsl_names.specs.declared.counting.Count.{Count}
use Rattle.acsl_names.specs.Names.{Around, meaning_at, definition_of, type_named}
use Rattle.acsl_names.specs.Labels.{label_at, old_at, under_if}
use Rattle.acsl_names.specs.Counting.{with_node, inside_call, ended}
use Rattle.acsl_names.specs.Weights.{count_of}
use Rattle.acsl_terms.specs.declared.calls.Called.{Called}
use Rattle.acsl_terms.specs.declared.calls.Called.TheVariants as called
use Rattle.acsl_terms.specs.Leaves.{closed, misshapen}
use Rattle.acsl_terms.specs.Calls.{counted_call, call_of, called_by, called_at, or_else, call_tree, recursion, is_itself, goes_down}
use Rattle.acsl_terms.specs.Terms.{ForParams, recursive_call, expanded_call, expanded_count, call_by, typed, typed_for, typed_all, predicate_call}
use Rattle.acsl_places.specs.Spans.{Span, Ranged, added_range}
use Rattle.acsl_places.specs.Places.{end_typed, ends_typed, range_typed, aimed_by, aimed, all_aimed, valid_typed, separated_typed}
use Rattle.acsl_preds.specs.Binders.{inside, with_bound}
use Rattle.acsl_preds.specs.Preds.{all_typed, onto, chain_typed, let_value, binders_typed, typed_pred}
use Rattle.acsl_same_meaning.proofs.Answers.{after_any}
use Rattle.acsl_same_meaning.proofs.Terms.{CallIs, IsCall, called_is, both_no, is_equal, counted}
use Rattle.acsl_same_meaning.proofs.Scoping.{same_bytes}

-- whatever is answered, this is so
abbrev pub Says : Type 0 → {X : Type 0} → Answer X → Type 0
Says Q o = Holds (λ x. Q) o

pub always : (Q : Type 0) {X : Type 0} (o : Answer X) → Q → Says Q o
always Q (Ok x) q = q
always Q (Err r) q = tt

-- one part says it
first_says : (Q : Type 0) {X Y : Type 0} (o : Answer X) (f : X → Answer Y) → Says Q o → Says Q (after o f)
first_says Q (Ok x) f q = always Q (f x) q
first_says Q (Err r) f q = tt

both_say : (P Q : Type 0) {X Y : Type 0} (o : Answer X) (f : X → Answer Y) → Says P o → ((x : X) → Says Q (f x)) → Says (P × Q) (after o f)
both_say P Q {Y = Y} (Ok x) f p go = with_first (f x) (go x)
  where
    with_first : (o : Answer Y) → Says Q o → Says (P × Q) o
    with_first (Ok y) q = (p, q)
    with_first (Err r) q = tt
both_say P Q (Err r) f p go = tt

so : {P Q : Type 0} {X : Type 0} (o : Answer X) → (P → Q) → Says P o → Says Q o
so (Ok x) go p = go p
so (Err r) go p = tt

not_both : (a b : Bool) → (a ≡ false) × (b ≡ false) → (a || b) ≡ false
not_both a b q = both_no a b q.0 q.1

three_not : (a b c : Bool) → (a ≡ false) × ((b ≡ false) × (c ≡ false)) → (a || (b || c)) ≡ false
three_not a b c q = both_no a (b || c) q.0 (both_no b c q.1.0 q.1.1)

module _ (c : Around) (b : Bound) (Q : Type 0) (is_term : Bool) (count : ℕ) (n : Count) (line : ℕ) (args : t.Terms) (each : ForParams)
    (says : (m : Count) (params : List TermType) → length params ≡ count → Says Q (each m params)) where
  same_params : (i : ℕ) (d : Definition) → IsCall c is_term count i → slice_get c.definitions.items i ≡ Some d → length d.params ≡ count
  same_params i d is found = let same : is.0 ≡ d = cc in ap (λ d. length d.params) (sym same) ∙ is.3

  recursive_says : (i : ℕ) (o : Option Definition) → slice_get c.definitions.items i ≡ o → IsCall c is_term count i
      → Says Q (recursive_call c n line i args each o)
  unfolding ended
  recursive_says i None found is = tt
  recursive_says i (Some d) found is = first_says Q (each (with_node line n) d.params) _ (says (with_node line n) d.params (same_params i d is found))

  expanded_says : (i : ℕ) (o : Option Definition) → slice_get c.definitions.items i ≡ o → IsCall c is_term count i
      → Says Q (expanded_call c b n line i args each o)
  unfolding ended
  expanded_says i None found is = tt
  expanded_says i (Some d) found is =
      first_says Q (each (inside_call (expanded_count c b n line d args)) d.params) _
      (says (inside_call (expanded_count c b n line d args)) d.params (same_params i d is found))

  pub call_says : (alone : Count → Answer Count) (f : Called) → CallIs c is_term count f → Says Q (call_by c b n line args each alone f)
  unfolding ended
  call_says alone called.Unknown is = tt
  call_says alone (called.Wrong r) is = after_any (λ x. Q) (alone (with_node line n)) _ (λ m. tt)
  call_says alone (called.Recursive i) is = recursive_says i _ refl is
  call_says alone (called.Expanded i) is = expanded_says i _ refl is

-- a call that can't be
wrong_says : (Q : Type 0) (c : Around) (b : Bound) (n : Count) (line : ℕ) (args : t.Terms) (each : ForParams) (alone : Count → Answer Count) (r : Rule)
    → Says Q (call_by c b n line args each alone (called.Wrong r))
unfolding ended
wrong_says Q c b n line args each alone r = after_any (λ x. Q) (alone (with_node line n)) _ (λ m. tt)

module _ (c : Around) (f : List ℕ) (k : ℕ) (d : Definition) (named : definition_of c.definitions f ≡ meaning.Definition k)
    (at : slice_get c.definitions.items k ≡ Some d)
    (no_result : d.result ≡ None) (recursive : d.is_recursive ≡ true) (itself : c.itself ≡ Some k) (down : c.down ≡ None) where
  -- ---- terms: a predicate is none

  call_is : (b : Bound) (is_term : Bool) (count : ℕ) (g : List ℕ) → bytes_eq f g ≡ true → called_at c b is_term count g ≡ call_of is_term k count (Some d)
  call_is b is_term count g e =
      ap (λ g. called_by c.definitions is_term count (or_else (definition_of c.definitions g) (meaning_at c b g))) (sym (same_bytes f g e))
      ∙ ap (λ m. called_by c.definitions is_term count (or_else m (meaning_at c b f))) named ∙ ap (call_of is_term k count) at

  no_term : (b : Bound) (count : ℕ) (g : List ℕ) → bytes_eq f g ≡ true → called_at c b true count g ≡ called.Wrong rule.Shape
  no_term b count g e =
      call_is b true count g e ∙ ap (λ o. if is_some o then counted_call k (length d.params == count) d.is_recursive else called.Wrong rule.Shape) no_result

  two_say : (p q : Bool) (line : ℕ) (o : Answer (Operand × Count)) (next : Count → Answer (Operand × Count))
      (go : Operand × Count → Operand × Count → Answer (Operand × Count))
      → Says (p ≡ false) o → ((m : Count) → Says (q ≡ false) (next m)) → Says ((p || q) ≡ false) (after o (λ x. after (next (with_node line x.1)) (go x)))
  two_say p q line o next go f g =
      so _ (not_both p q) (both_say (p ≡ false) (q ≡ false) o _ f (λ x. first_says (q ≡ false) (next (with_node line x.1)) (go x) (g (with_node line x.1))))

  call_by_name : (b : Bound) (r : Reading) (n : Count) (line : ℕ) (g : List ℕ) (args : t.Terms) (z : Bool) → bytes_eq f g ≡ z
      → ((m : Count) (params : List TermType) → length params ≡ count_of args → Says (some_part_of (is_call f) args ≡ false) (typed_for c b r m params args))
      → Says ((bytes_eq f g || some_part_of (is_call f) args) ≡ false) (typed c b r n (t.call line g args))
  call_by_name b r n line g args true is says =
      first_says _ (call_by c b n line args (λ m params. typed_for c b r m params args) (λ m. typed_all c b r m args) (called_at c b true (count_of args) g)) _
      (subst (λ q. Says ((bytes_eq f g || some_part_of (is_call f) args) ≡ false)
      (call_by c b n line args (λ m params. typed_for c b r m params args) (λ m. typed_all c b r m args) q))
      (sym (no_term b (count_of args) g is)) (wrong_says _ c b n line args (λ m params. typed_for c b r m params args)
      (λ m. typed_all c b r m args) rule.Shape))
  call_by_name b r n line g args false is says =
      first_says _ (call_by c b n line args (λ m params. typed_for c b r m params args) (λ m. typed_all c b r m args) (called_at c b true (count_of args) g)) _
      (so _ (λ q. both_no (bytes_eq f g) (some_part_of (is_call f) args) is q)
      (call_says c b (some_part_of (is_call f) args ≡ false) true (count_of args) n line args (λ m params. typed_for c b r m params args) says
      (λ m. typed_all c b r m args) (called_at c b true (count_of args) g) (called_is c true (count_of args) _)))

  mutual
    pub term_says : (b : Bound) (r : Reading) (n : Count) (a : t.Term) → Says (calls f a ≡ false) (typed c b r n a)
    term_says b r n (t.number line token) = always _ (typed c b r n (t.number line token)) refl
    term_says b r n (t.char line z) = always _ (typed c b r n (t.char line z)) refl
    term_says b r n (t.result line) = always _ (typed c b r n (t.result line)) refl
    term_says b r n (t.null line) = always _ (typed c b r n (t.null line)) refl
    term_says b r n (t.name line x) = always _ (typed c b r n (t.name line x)) refl
    term_says b r n (t.unary line o a) = first_says _ (typed c b r (with_node line n) a) _ (term_says b r (with_node line n) a)
    term_says b r n (t.cast line type a) =
        after_any (λ x. calls f a ≡ false) (ended n.limit (with_node line n).limit (with_node line n).limit (type_named c line type)) _
        (λ to. first_says _ (typed c b r (with_node line n) a) _ (term_says b r (with_node line n) a))
    term_says b r n (t.old line a) =
        first_says _ (typed c b (under_if (old_at c.site) r) (with_node line n) a) _ (term_says b (under_if (old_at c.site) r) (with_node line n) a)
    term_says b r n (t.at_label line a x) =
        first_says _ (typed c b (under_if (label_at c.site x) r) (with_node line n) a) _ (term_says b (under_if (label_at c.site x) r) (with_node line n) a)
    term_says b r n (t.field line a g arrow) = first_says _ (typed c b r n a) _ (term_says b r n a)
    term_says b r n (t.binary line o a e) =
        two_say (calls f a) (calls f e) line (typed c b r n a) (λ m. typed c b r m e) _ (term_says b r n a) (λ m. term_says b r m e)
    term_says b r n (t.index line a e) =
        two_say (calls f a) (calls f e) line (typed c b r n a) (λ m. typed c b r m e) _ (term_says b r n a) (λ m. term_says b r m e)
    term_says b r n (t.range line a e) =
        two_say (calls f a) (calls f e) line (typed c b r n a) (λ m. typed c b r m e) _ (term_says b r n a) (λ m. term_says b r m e)
    term_says b r n (t.cond line test a e) =
        so _ (three_not (calls f test) (calls f a) (calls f e))
        (both_say (calls f test ≡ false) ((calls f a ≡ false) × (calls f e ≡ false)) (typed c b r n test) _ (term_says b r n test) (λ x.
        both_say (calls f a ≡ false) (calls f e ≡ false) (typed c b r (with_node line x.1) a) _ (term_says b r (with_node line x.1) a) (λ y.
        first_says _ (typed c b r y.1 e) _ (term_says b r y.1 e))))
    term_says b r n (t.call line g args) = call_by_name b r n line g args (bytes_eq f g) refl (λ m params same. args_say b r m params args same)

    pub args_say : (b : Bound) (r : Reading) (n : Count) (types : List TermType) (args : t.Terms) → length types ≡ count_of args
        → Says (some_part_of (is_call f) args ≡ false) (typed_for c b r n types args)
    args_say b r n [] t.stop same = refl
    args_say b r n [] (t.more a rest) same = absurd (omega (arith, same))
    args_say b r n (q ∷ qs) t.stop same = absurd (omega (arith, same))
    args_say b r n (q ∷ qs) (t.more a rest) same =
        so _ (not_both (calls f a) (some_part_of (is_call f) rest))
        (both_say (calls f a ≡ false) (some_part_of (is_call f) rest ≡ false) _ _ (first_says _ (typed c b r n a) _ (term_says b r n a))
        (λ v. first_says _ (typed_for c b r v.1 qs rest) _ (args_say b r v.1 qs rest (omega (arith, same)))))

  -- ---- sets of addresses

  ends_say : (b : Bound) (r : Reading) (n : Count) (q : Span) → Says ((calls f q.low || calls f q.high) ≡ false) (ends_typed c b r n q)
  ends_say b r n q =
      so _ (not_both (calls f q.low) (calls f q.high))
      (both_say (calls f q.low ≡ false) (calls f q.high ≡ false) (end_typed c b r n q.low) _ (first_says _ (typed c b r n q.low) _ (term_says b r n q.low))
      (λ x. first_says _ (end_typed c b r (with_node q.line x.1) q.high) _
      (first_says _ (typed c b r (with_node q.line x.1) q.high) _ (term_says b r (with_node q.line x.1) q.high))))

  range_says : (b : Bound) (r : Reading) (n : Count) (is_index : Bool) (z : Ranged)
      → Says ((calls f z.base || (calls f z.span.low || calls f z.span.high)) ≡ false) (range_typed c b r n is_index z)
  range_says b r n is_index z =
      so _ (not_both (calls f z.base) (calls f z.span.low || calls f z.span.high))
      (both_say (calls f z.base ≡ false) ((calls f z.span.low || calls f z.span.high) ≡ false) (typed c b r n z.base) _ (term_says b r n z.base)
      (λ x. first_says _ (ends_typed c b r (with_node z.line x.1) z.span) _ (ends_say b r (with_node z.line x.1) z.span)))

  -- the range behind a `+`
  aimed_by_says : (b : Bound) (r : Reading) (n : Count) (a : t.Term) (o : Option Ranged)
      → ((z : Ranged) → o ≡ Some z → (calls f z.base || (calls f z.span.low || calls f z.span.high)) ≡ false → calls f a ≡ false)
      → Says (calls f a ≡ false) (aimed_by c b r n a o)
  aimed_by_says b r n a (Some z) is = first_says _ (range_typed c b r n false z) _ (so _ (is z refl) (range_says b r n false z))
  aimed_by_says b r n a None is = first_says _ (typed c b r n a) _ (term_says b r n a)

  added_is : (a : t.Term) (z : Ranged) → added_range a ≡ Some z → (calls f z.base || (calls f z.span.low || calls f z.span.high)) ≡ false → calls f a ≡ false
  added_is (t.binary line op.Add a (t.range place low high)) z is e =
      let same : record { line = line; base = a; span = record { line = place; low = low; high = high } } ≡ z = cc in
      ap (λ z. calls f z.base || (calls f z.span.low || calls f z.span.high)) same ∙ e
  added_is _ z is e = absurd cc

  aimed_says : (b : Bound) (r : Reading) (n : Count) (a : t.Term) → Says (calls f a ≡ false) (aimed c b r n a)
  unfolding aimed
  aimed_says b r n a = aimed_by_says b r n a (added_range a) (added_is a)

  all_aimed_say : (b : Bound) (r : Reading) (n : Count) (terms : List t.Term) → Says (list_any (calls f) terms ≡ false) (all_aimed c b r n terms)
  all_aimed_say b r n [] = refl
  all_aimed_say b r n (a ∷ rest) =
      so _ (not_both (calls f a) (list_any (calls f) rest))
      (both_say (calls f a ≡ false) (list_any (calls f) rest ≡ false) (aimed c b r n a) _ (aimed_says b r n a)
      (λ x. first_says _ (all_aimed c b r x.1 rest) _ (all_aimed_say b r x.1 rest)))

  valid_says : (b : Bound) (r : Reading) (n : Count) (line : ℕ) (writable : Bool) (a : t.Term) → Says (calls f a ≡ false) (valid_typed c b r n line writable a)
  unfolding valid_typed
  valid_says b r n line writable a = first_says _ (aimed c b r (with_node line n) a) _ (aimed_says b r (with_node line n) a)

  separated_says : (b : Bound) (r : Reading) (n : Count) (line : ℕ) (terms : List t.Term)
      → Says (list_any (calls f) terms ≡ false) (separated_typed c b r n line terms)
  unfolding separated_typed
  separated_says b r n line terms = first_says _ (all_aimed c b r (with_node line n) terms) _ (all_aimed_say b r (with_node line n) terms)

  -- ---- chains

  all_say : (b : Bound) (r : Reading) (n : Count) (terms : List t.Term) → Says (list_any (calls f) terms ≡ false) (all_typed c b r n terms)
  all_say b r n [] = refl
  all_say b r n (a ∷ rest) =
      so _ (not_both (calls f a) (list_any (calls f) rest))
      (both_say (calls f a ≡ false) (list_any (calls f) rest ≡ false) (typed c b r n a) _ (term_says b r n a)
      (λ x. first_says _ (all_typed c b r x.1 rest) _ (all_say b r x.1 rest)))

  chain_says : (b : Bound) (r : Reading) (n : Count) (line : ℕ) (terms : List t.Term) (ops : List BinOp)
      → Says (list_any (calls f) terms ≡ false) (chain_typed c b r n line terms ops)
  unfolding chain_typed
  chain_says b r n line [] ops = always _ (chain_typed c b r n line [] ops) refl
  chain_says b r n line (a ∷ rest) ops =
      so _ (not_both (calls f a) (list_any (calls f) rest))
      (both_say (calls f a ≡ false) (list_any (calls f) rest ≡ false) (typed c b r n a) _ (term_says b r n a)
      (λ x. first_says _ (onto (x.0 ∷ []) (all_typed c b r (with_node line x.1) rest)) _
      (first_says _ (all_typed c b r (with_node line x.1) rest) _ (all_say b r (with_node line x.1) rest))))

  -- ---- calls that are predicates: one of itself is a fault

  listed : (args : List t.Term) → some_part_of (is_call f) (t.terms_of args) ≡ list_any (calls f) args
  listed [] = refl
  listed (a ∷ args) = ap (λ q. calls f a || q) (listed args)

  no_pred : (b : Bound) (count : ℕ) (g : List ℕ) → bytes_eq f g ≡ true → called_at c b false count g ≡ counted_call k (length d.params == count) true
  no_pred b count g e =
      call_is b false count g e ∙ ap (λ o. if is_some o then called.Wrong rule.Shape else counted_call k (length d.params == count) d.is_recursive) no_result
      ∙ ap (counted_call k (length d.params == count)) recursive

  if_never : (Q : Type 0) (x y : Limit) (m : Count) (line : ℕ) (v : Tree) (z : Bool) → z ≡ true → Says Q (closed x y m (if z then misshapen line else Ok v))
  unfolding ended
  if_never Q x y m line v true e = tt
  if_never Q x y m line v false e = absurd cc

  goes_nowhere : (args : t.Terms) → (is_itself c.itself k && not (goes_down c.down args)) ≡ true
  goes_nowhere args =
      ap (λ o. is_itself o k && not (goes_down c.down args)) itself ∙ ap (λ o. (k == k) && not (goes_down o args)) down
      ∙ ap (λ z. z && true) (is_equal k k refl)

  itself_says : (Q : Type 0) (b : Bound) (n : Count) (line : ℕ) (args : t.Terms) (each : ForParams) (alone : Count → Answer Count) (z : Bool)
      → Says Q (call_by c b n line args each alone (counted_call k z true))
  unfolding recursion
  itself_says Q b n line args each alone false = wrong_says Q c b n line args each alone rule.Typing
  itself_says Q b n line args each alone true =
      subst (λ o. Says Q (recursive_call c n line k args each o)) (sym at)
      (after_any (λ x. Q) (each (with_node line n) d.params) _
      (λ vs. if_never Q n.limit (with_node line n).limit vs.1 line (call_tree k vs.0) _ (goes_nowhere args)))

  pred_call : (b : Bound) (r : Reading) (n : Count) (line : ℕ) (g : List ℕ) (args : List t.Term) (z : Bool) → bytes_eq f g ≡ z
      → Says ((bytes_eq f g || list_any (calls f) args) ≡ false) (predicate_call c b r n line (t.terms_of args) (called_at c b false (length args) g))
  unfolding predicate_call
  pred_call b r n line g args true is =
      subst (λ q. Says ((bytes_eq f g || list_any (calls f) args) ≡ false)
      (call_by c b n line (t.terms_of args) (λ m params. typed_for c b r m params (t.terms_of args)) (λ m. typed_all c b r m (t.terms_of args)) q))
      (sym (no_pred b (length args) g is))
      (itself_says ((bytes_eq f g || list_any (calls f) args) ≡ false) b n line (t.terms_of args) (λ m params. typed_for c b r m params (t.terms_of args))
      (λ m. typed_all c b r m (t.terms_of args)) _)
  pred_call b r n line g args false is =
      so _ (λ q. both_no (bytes_eq f g) (list_any (calls f) args) is (sym (listed args) ∙ q))
      (call_says c b (some_part_of (is_call f) (t.terms_of args) ≡ false) false (length args) n line (t.terms_of args)
      (λ m params. typed_for c b r m params (t.terms_of args))
      (λ m params same. args_say b r m params (t.terms_of args) (same ∙ sym (counted args)))
      (λ m. typed_all c b r m (t.terms_of args)) (called_at c b false (length args) g) (called_is c false (length args) _))

  -- ---- predicates

  two_preds : (x y : Bool) (line : ℕ) (o : Answer (Tree × Count)) (next : Count → Answer (Tree × Count))
      (go : Tree × Count → Tree × Count → Answer (Tree × Count))
      → Says (x ≡ false) o → ((m : Count) → Says (y ≡ false) (next m)) → Says ((x || y) ≡ false) (after o (λ v. after (next (with_node line v.1)) (go v)))
  two_preds x y line o next go g h =
      so _ (not_both x y) (both_say (x ≡ false) (y ≡ false) o _ g (λ v. first_says (y ≡ false) (next (with_node line v.1)) (go v) (h (with_node line v.1))))

  mutual
    pub pred_says : (b : Bound) (r : Reading) (n : Count) (a : p.Pred) → Says (pred_calls f a ≡ false) (typed_pred c b r n a)
    pred_says b r n (p.always line) = always _ (typed_pred c b r n (p.always line)) refl
    pred_says b r n (p.never line) = always _ (typed_pred c b r n (p.never line)) refl
    pred_says b r n (p.chain line terms ops) = chain_says b r n line terms ops
    pred_says b r n (p.valid line a) = valid_says b r n line true a
    pred_says b r n (p.valid_read line a) = valid_says b r n line false a
    pred_says b r n (p.separated line terms) = separated_says b r n line terms
    pred_says b r n (p.call line g args) = pred_call b r n line g args (bytes_eq f g) refl
    pred_says b r n (p.not_of line a) = first_says _ (typed_pred c b r (with_node line n) a) _ (pred_says b r (with_node line n) a)
    pred_says b r n (p.old line a) =
        first_says _ (typed_pred c b (under_if (old_at c.site) r) (with_node line n) a) _ (pred_says b (under_if (old_at c.site) r) (with_node line n) a)
    pred_says b r n (p.and_of line a e) =
        two_preds (pred_calls f a) (pred_calls f e) line (typed_pred c b r n a) (λ m. typed_pred c b r m e) _ (pred_says b r n a) (λ m. pred_says b r m e)
    pred_says b r n (p.xor_of line a e) =
        two_preds (pred_calls f a) (pred_calls f e) line (typed_pred c b r n a) (λ m. typed_pred c b r m e) _ (pred_says b r n a) (λ m. pred_says b r m e)
    pred_says b r n (p.or_of line a e) =
        two_preds (pred_calls f a) (pred_calls f e) line (typed_pred c b r n a) (λ m. typed_pred c b r m e) _ (pred_says b r n a) (λ m. pred_says b r m e)
    pred_says b r n (p.implies line a e) =
        two_preds (pred_calls f a) (pred_calls f e) line (typed_pred c b r n a) (λ m. typed_pred c b r m e) _ (pred_says b r n a) (λ m. pred_says b r m e)
    pred_says b r n (p.iff line a e) =
        two_preds (pred_calls f a) (pred_calls f e) line (typed_pred c b r n a) (λ m. typed_pred c b r m e) _ (pred_says b r n a) (λ m. pred_says b r m e)
    pred_says b r n (p.cond line test a e) =
        so _ (three_not (pred_calls f test) (pred_calls f a) (pred_calls f e))
        (both_say (pred_calls f test ≡ false) ((pred_calls f a ≡ false) × (pred_calls f e ≡ false)) (typed_pred c b r n test) _ (pred_says b r n test) (λ x.
        both_say (pred_calls f a ≡ false) (pred_calls f e ≡ false) (typed_pred c b r (with_node line x.1) a) _ (pred_says b r (with_node line x.1) a) (λ y.
        first_says _ (typed_pred c b r y.1 e) _ (pred_says b r y.1 e))))
    pred_says b r n (p.let_in line x value a) =
        so _ (not_both (calls f value) (pred_calls f a))
        (both_say (calls f value ≡ false) (pred_calls f a ≡ false) (typed c b r (with_node line n) value) _ (term_says b r (with_node line n) value)
        (λ v. first_says _ (typed_pred c (with_bound (inside b) x (let_value line v.0).type) r v.1 a) _
        (pred_says (with_bound (inside b) x (let_value line v.0).type) r v.1 a)))
    pred_says b r n (p.for_all line ds a) =
        after_any (λ x. pred_calls f a ≡ false) (binders_typed c b (with_node line n).limit true ds a) _
        (λ o. first_says _ (typed_pred c o.1 r (with_node line n) a) _ (pred_says o.1 r (with_node line n) a))
    pred_says b r n (p.for_some line ds a) =
        after_any (λ x. pred_calls f a ≡ false) (binders_typed c b (with_node line n).limit false ds a) _
        (λ o. first_says _ (typed_pred c o.1 r (with_node line n) a) _ (pred_says o.1 r (with_node line n) a))
