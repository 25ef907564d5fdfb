-- What is made of closed terms is closed.
use Rattle.std.proofs.Common.{◌≡◌, ℕ, zero, suc, Bool, true, false, ◌&&◌, if◌then◌else◌, List, [], ◌∷◌, ◌++◌, refl, sym, subst}
use Rattle.std.specs.Prelude.{Option, Some, None}
use Rattle.std.specs.Option.{option_map}
use Rattle.std.proofs.lemmas.Bool.{and_parts, false≢true}
use Rattle.wp_base.specs.declared.kinds.Kind.{Kind}
use Rattle.wp_base.specs.declared.kinds.Kind.TheVariants as kind
use Rattle.c_kinds.specs.declared.models.Machdep.{Machdep}
use Rattle.c_kinds.specs.Conversions.{holds_all}
use Rattle.typed_prog.specs.declared.operators.Variable.{Variable}
use Rattle.typed_prog.specs.declared.operators.Variable.TheVariants as variables
use Rattle.typed_prog.specs.declared.operators.Comparison.{Comparison}
use Rattle.typed_prog.specs.declared.operators.Comparison.TheVariants as cmp
use Rattle.acsl_trees.specs.declared.heads.Content.TheVariants as content
use Rattle.acsl_trees.specs.declared.heads.Head.{Head}
use Rattle.acsl_trees.specs.declared.heads.Head.TheVariants as h
use Rattle.qed_terms.specs.Tree.{Tree as Term, ite, trees_of}
use Rattle.acsl_encode.specs.Readings.{Named, one, two, Global, integer_global, pointer_global, Called, Terms, integer, truth, address, variable, elements, region, nothing}
use Rattle.acsl_encode.specs.Readings.{at, Slot, whole, any_integer, pointer, home, absent, Seen, Reading}
use Rattle.acsl_encode.specs.Encode as encode
use Rattle.acsl_encode.specs.Encode.{Names, with_name, with_one, with_two, as_integer, as_formula, as_pointer, terms_at, encoded, all_encoded, binders, wrapped}
use Rattle.acsl_encode.specs.Encode.{put, all_put, memory_of, global_of, linked, all_linked}
use Rattle.program_steps.specs.Leaves.{is_closed, are_closed}
use Rattle.plain_annotations.specs.Plain.{is_link, are_links, is_chain}
use Rattle.plain_annotations.specs.Views.{SlotIsInteger, AreIntegers, SlotIsClosed, TermsAreClosed, SeenIsClosed, MayCall}
use Rattle.plain_annotations.proofs.Bound.{still_closed, Within}

-- ---- operators

pub alone : (a : Bool) → a ≡ true → (a && true) ≡ true
alone a e = λ i. e i && true

pub pair : (a b : Bool) → a ≡ true → b ≡ true → (a && (b && true)) ≡ true
pair a b e f = λ i. e i && (f i && true)

pub triple : (a b c : Bool) → a ≡ true → b ≡ true → c ≡ true → (a && (b && (c && true))) ≡ true
triple a b c e f g = λ i. e i && (f i && (g i && true))

module _ (xs : List (List ℕ)) where
  abbrev pub C : Term → Bool
  C t = is_closed xs t

  abbrev pub T : Terms → Type 0
  T x = TermsAreClosed xs x

  abbrev pub Given : Option Term → Type 0
  Given (Some t) = C t ≡ true
  Given None = Unit {0}

  pub truth_closed : (f : Term) → C f ≡ true → C (encode.truth_term f) ≡ true
  truth_closed f e = triple (C f) true true e refl refl

  pub number_closed : (x : Terms) → T x → Given (as_integer x)
  number_closed (integer k t) e = e
  number_closed (truth f) e = truth_closed f e
  number_closed (address b o) e = tt
  number_closed (variable x) e = tt
  number_closed (elements b o n i j) e = tt
  number_closed (region cells b i j) e = tt
  number_closed nothing e = tt

  pub formula_closed : (x : Terms) → T x → Given (as_formula x)
  formula_closed (integer k t) e = alone (C t && true) (alone (C t) e)
  formula_closed (truth f) e = e
  formula_closed (address b o) e = tt
  formula_closed (variable x) e = tt
  formula_closed (elements b o n i j) e = tt
  formula_closed (region cells b i j) e = tt
  formula_closed nothing e = tt

  pub on_one : (f : Term → Terms) (o : Option Term) → Given o → ((t : Term) → C t ≡ true → T (f t)) → T (with_one f o)
  on_one f (Some t) e made = made t e
  on_one f None e made = tt

  pub on_two : (f : Term → Term → Terms) (o o' : Option Term) → Given o → Given o' → ((t u : Term) → C t ≡ true → C u ≡ true → T (f t u)) → T (with_two f o o')
  on_two f (Some t) (Some u) e e' made = made t u e e'
  on_two f (Some t) None e e' made = tt
  on_two f None o' e e' made = tt

  pub comparison_closed : (c : Comparison) (t u : Term) → C t ≡ true → C u ≡ true → C (encode.comparison c t u) ≡ true
  comparison_closed cmp.Less t u e f = pair (C t) (C u) e f
  comparison_closed cmp.AtMost t u e f = pair (C t) (C u) e f
  comparison_closed cmp.Greater t u e f = pair (C u) (C t) f e
  comparison_closed cmp.AtLeast t u e f = pair (C u) (C t) f e
  comparison_closed cmp.Equal t u e f = pair (C t) (C u) e f
  comparison_closed cmp.NotEqual t u e f = alone (C t && (C u && true)) (pair (C t) (C u) e f)

  pub wrapped_closed : (k : Kind) (t : Term) → C t ≡ true → C (wrapped k t) ≡ true
  wrapped_closed kind.Bool t e = triple (C t && true) true true (alone (C t) e) refl refl
  wrapped_closed kind.Char t e = alone (C t) e
  wrapped_closed kind.SChar t e = alone (C t) e
  wrapped_closed kind.UChar t e = alone (C t) e
  wrapped_closed kind.Short t e = alone (C t) e
  wrapped_closed kind.UShort t e = alone (C t) e
  wrapped_closed kind.Int t e = alone (C t) e
  wrapped_closed kind.UInt t e = alone (C t) e
  wrapped_closed kind.Long t e = alone (C t) e
  wrapped_closed kind.ULong t e = alone (C t) e
  wrapped_closed kind.LLong t e = alone (C t) e
  wrapped_closed kind.ULLong t e = alone (C t) e

  pub kept_closed : (b : Bool) (k : Kind) (t : Term) → C t ≡ true → C (if b then t else wrapped k t) ≡ true
  kept_closed true k t e = e
  kept_closed false k t e = wrapped_closed k t e

  pub converted_closed : (m : Machdep) (k : Kind) (x : Terms) → T x → T (encode.converted m k x)
  converted_closed m k (integer (Some l) t) e = kept_closed (holds_all m k l) k t e
  converted_closed m k (integer None t) e = wrapped_closed k t e
  converted_closed m k (truth f) e = wrapped_closed k (encode.truth_term f) (truth_closed f e)
  converted_closed m k (address b o) e = tt
  converted_closed m k (variable x) e = tt
  converted_closed m k (elements b o n i j) e = tt
  converted_closed m k (region cells b i j) e = tt
  converted_closed m k nothing e = tt

  pub either_truth : (c f : Term) (y : Terms) → C c ≡ true → C f ≡ true → T y → T (encode.either_truth c f y)
  either_truth c f (truth g) e e' e'' = pair (C c && (C f && true)) ((C c && true) && (C g && true)) (pair (C c) (C f) e e') (pair (C c && true) (C g) (alone (C c) e) e'')
  either_truth c f (integer k u) e e' e'' = triple (C c) (C (encode.truth_term f)) (C u) e (truth_closed f e') e''
  either_truth c f (address b o) e e' e'' = tt
  either_truth c f (variable x) e e' e'' = tt
  either_truth c f (elements b o n i j) e e' e'' = tt
  either_truth c f (region cells b i j) e e' e'' = tt
  either_truth c f nothing e e' e'' = tt

  pub either_address : (c : Term) (p : _) (y : Terms) → T (encode.either_address c p y)
  either_address c p (truth g) = tt
  either_address c p (integer k u) = tt
  either_address c p (address b o) = tt
  either_address c p (variable x) = tt
  either_address c p (elements b o n i j) = tt
  either_address c p (region cells b i j) = tt
  either_address c p nothing = tt

  pub either_closed : (x y : Terms) (c : Term) → C c ≡ true → T x → T y → T (encode.either x y c)
  either_closed (truth f) y c e e' e'' = either_truth c f y e e' e''
  either_closed (integer k t) y c e e' e'' = on_one (λ u. encode.unbounded (ite c t u)) (as_integer y) (number_closed y e'') (λ u g. triple (C c) (C t) (C u) e e' g)
  either_closed (address b o) y c e e' e'' = either_address c (at b o) y
  either_closed (variable x) y c e e' e'' = tt
  either_closed (elements b o n i j) y c e e' e'' = tt
  either_closed (region cells b i j) y c e e' e'' = tt
  either_closed nothing y c e e' e'' = tt

  -- ---- lists

  abbrev pub AllClosed : List Term → Type 0
  AllClosed [] = Unit {0}
  AllClosed (t ∷ ts) = (C t ≡ true) × AllClosed ts

  abbrev pub AllGiven : Option (List Term) → Type 0
  AllGiven (Some ts) = AllClosed ts
  AllGiven None = Unit {0}

  pub all_trees : (ts : List Term) → AllClosed ts → are_closed xs (trees_of ts) ≡ true
  all_trees [] a = refl
  all_trees (t ∷ ts) a = let e = a.0 in let f = all_trees ts a.1 in λ i. e i && f i

  pub both_lists : (ts us : List Term) → AllClosed ts → AllClosed us → AllClosed (ts ++ us)
  both_lists [] us a b = b
  both_lists (t ∷ ts) us a b = (a.0, both_lists ts us a.1 b)

  pub put_given : (o o' : Option (List Term)) → AllGiven o → AllGiven o' → AllGiven (put o o')
  put_given (Some ts) (Some us) a b = both_lists ts us a b
  put_given (Some ts) None a b = tt
  put_given None o' a b = tt

  pub all_put_given : {X : Type 0} (f : X → Option (List Term)) (ys : List X) → ((x : X) → AllGiven (f x)) → AllGiven (all_put f ys)
  all_put_given f [] h = tt
  all_put_given f (y ∷ ys) h = put_given (f y) (all_put f ys) (h y) (all_put_given f ys h)

  pub one_given : (o : Option Term) → Given o → AllGiven (option_map (λ u. u ∷ []) o)
  one_given (Some t) e = (e, tt)
  one_given None e = tt

  abbrev pub AllTerms : List Terms → Type 0
  AllTerms [] = Unit {0}
  AllTerms (y ∷ ys) = T y × AllTerms ys

  pub kid_closed : (ys : List Terms) (i : ℕ) → AllTerms ys → T (terms_at ys i)
  kid_closed [] i a = tt
  kid_closed (y ∷ ys) zero a = a.0
  kid_closed (y ∷ ys) (suc i) a = kid_closed ys i a.1

  pub all_closed : (fs : List Term) → AllClosed fs → C (encode.all_of fs) ≡ true
  all_closed [] a = refl
  all_closed (f ∷ []) a = a.0
  all_closed (f ∷ g ∷ fs) a = all_trees (f ∷ g ∷ fs) a

  pub link_closed : (l : Head) (x y : Terms) → is_link l ≡ true → T x → T y → Given (linked l x y)
  link_closed (h.Link c) x y k a b = by (as_integer x) (as_integer y) (number_closed x a) (number_closed y b)
    where
      by : (o o' : Option Term) → Given o → Given o' → Given (encode.on_two (encode.comparison c) o o')
      by (Some t) (Some u) e f = comparison_closed c t u e f
      by (Some t) None e f = tt
      by None o' e f = tt
  link_closed (h.Number z0) x y k a b = tt
  link_closed h.Null x y k a b = tt
  link_closed (h.Name z0) x y k a b = tt
  link_closed (h.Call z0) x y k a b = tt
  link_closed h.Result x y k a b = tt
  link_closed (h.At z0) x y k a b = tt
  link_closed (h.Variable z0) x y k a b = tt
  link_closed h.Pointed x y k a b = tt
  link_closed (h.Field z0 z1) x y k a b = tt
  link_closed (h.Element z0 z1) x y k a b = tt
  link_closed (h.Elements z0 z1) x y k a b = tt
  link_closed (h.Behind z0) x y k a b = tt
  link_closed (h.Read z0 z1) x y k a b = tt
  link_closed h.Address x y k a b = tt
  link_closed (h.Moved z0 z1) x y k a b = tt
  link_closed (h.Difference z0) x y k a b = tt
  link_closed h.Negate x y k a b = tt
  link_closed h.Complement x y k a b = tt
  link_closed (h.Arithmetic z0) x y k a b = tt
  link_closed (h.Convert z0) x y k a b = tt
  link_closed (h.Compare z0) x y k a b = tt
  link_closed (h.ComparePointers z0) x y k a b = tt
  link_closed h.Not x y k a b = tt
  link_closed h.And x y k a b = tt
  link_closed h.Or x y k a b = tt
  link_closed h.Xor x y k a b = tt
  link_closed h.Implies x y k a b = tt
  link_closed h.Iff x y k a b = tt
  link_closed h.Choose x y k a b = tt
  link_closed h.Chain x y k a b = tt
  link_closed h.Let x y k a b = tt
  link_closed (h.Every z0) x y k a b = tt
  link_closed (h.Some z0) x y k a b = tt
  link_closed (h.Valid z0 z1) x y k a b = tt
  link_closed h.Separated x y k a b = tt
  link_closed (h.Region z0) x y k a b = tt
  link_closed (h.LinkPointers c) x y k a b = absurd (false≢true k)

  pub both_given : (o : Option Term) (o' : Option (List Term)) → Given o → AllGiven o' → AllGiven (encode.both o o')
  both_given (Some t) (Some ts) a b = (a, b)
  both_given (Some t) None a b = tt
  both_given None o' a b = tt

  pub links_closed : (x : Terms) (ls : List Head) (ys : List Terms) → are_links ls ≡ true → T x → AllTerms ys → AllGiven (all_linked x ls ys)
  links_closed x [] ys k a b = tt
  links_closed x (l ∷ ls) [] k a b = tt
  links_closed x (l ∷ ls) (y ∷ ys) k a b =
      let c = and_parts (is_link l) (are_links ls) k in
      both_given (linked l x y) (all_linked y ls ys) (link_closed l x y c.0 a b.0) (links_closed y ls ys c.1 b.0 b.1)

  pub chain_closed : (ls : List Head) (ys : List Terms) → is_chain ls ≡ true → AllTerms ys → AllGiven (encode.in_chain ls ys)
  chain_closed [] ys k a = tt
  chain_closed (l ∷ ls) [] k a = tt
  chain_closed (l ∷ ls) (y ∷ ys) k a = links_closed y ls ys k a.0 a.1

  pub all_on_one : (f : List Term → Terms) (o : Option (List Term)) → AllGiven o → ((ts : List Term) → AllClosed ts → T (f ts)) → T (with_one f o)
  all_on_one f (Some ts) a made = made ts a
  all_on_one f None a made = tt

  -- ---- slots and calls

  pub no_names : Within [] xs
  no_names n e = absurd (false≢true e)

  pub slot_closed : (k : Kind) (o : Slot) → SlotIsClosed o → T (encode.held (content.Integer k) o)
  slot_closed k (whole l t) e = still_closed t [] xs no_names e
  slot_closed k (any_integer t) e = still_closed t [] xs no_names e
  slot_closed k (pointer b o) e = tt
  slot_closed k (home b) e = tt
  slot_closed k absent e = tt

  pub integer_given : (m : Machdep) (k : Kind) (o : Slot) → SlotIsClosed o → AllGiven (encode.integer_of m k o)
  integer_given m k (whole l t) e = by (holds_all m k l)
    where
      by : (b : Bool) → AllGiven (if b then Some (t ∷ []) else None)
      by true = (still_closed t [] xs no_names e, tt)
      by false = tt
  integer_given m k (any_integer t) e = tt
  integer_given m k (pointer b o) e = tt
  integer_given m k (home b) e = tt
  integer_given m k absent e = tt

  pub pointer_given : (o : Slot) → SlotIsClosed o → AllGiven (encode.pointer_in o)
  pointer_given (whole l t) e = tt
  pointer_given (any_integer t) e = tt
  pointer_given (pointer b o) e = (still_closed b [] xs no_names e.0, (still_closed o [] xs no_names e.1, tt))
  pointer_given (home b) e = tt
  pointer_given absent e = tt

  pub global_given : (m : Machdep) (s : Seen) → SeenIsClosed s → (g : Global) → AllGiven (global_of m s g)
  global_given m s e (integer_global n k x) = integer_given m k (s.variable (variables.Global n)) (e (variables.Global n))
  global_given m s e (pointer_global n b o) = pointer_given (s.variable (variables.Global n)) (e (variables.Global n))

  pub arguments_given : (n : ℕ) (ps : List Named) (ys : List Terms) → AreIntegers n ps → AllTerms ys → AllGiven (encode.arguments ps ys)
  arguments_given zero [] [] a b = tt
  arguments_given zero [] (y ∷ ys) a b = tt
  arguments_given zero (p ∷ ps) ys a b = absurd a
  arguments_given (suc n) [] ys a b = absurd a
  arguments_given (suc n) (one z ∷ ps) [] a b = tt
  arguments_given (suc n) (one z ∷ ps) (y ∷ ys) a b =
      put_given (encode.argument (one z) y) (encode.arguments ps ys) (one_given (as_integer y) (number_closed y b.0)) (arguments_given n ps ys a b.1)
  arguments_given (suc n) (two i j ∷ ps) ys a b = absurd a

  pub called_closed : (r : Reading) (o : Option Called) (n : ℕ) (ys : List Terms) → MayCall r.common.model r.here n o → SeenIsClosed r.here → AllTerms ys
      → T (encode.called r o ys)
  called_closed r (Some c) n ys m e a =
      all_on_one (λ ts. encode.unbounded (encode.app c.name ts)) (encode.all_given r c ys)
      (put_given (encode.arguments c.params ys) (put (all_put (memory_of r.here) c.memories) (all_put (global_of r.common.model r.here) c.globals))
      (arguments_given n c.params ys m.integers a)
      (put_given (all_put (memory_of r.here) c.memories) (all_put (global_of r.common.model r.here) c.globals)
      (subst (λ ks. AllGiven (all_put (memory_of r.here) ks)) (sym m.no_memories) tt)
      (all_put_given (global_of r.common.model r.here) c.globals (global_given r.common.model r.here e))))
      all_trees
  called_closed r None n ys m e a = absurd m

  pub read_closed : (k : Kind) (s : Seen) (x : Variable) (o : Slot) → SeenIsClosed s → SlotIsInteger o
      → T (encode.read (content.Integer k) s (encode.of_variable x o))
  read_closed k s x (whole l t) e i = slot_closed k (s.variable x) (e x)
  read_closed k s x (any_integer t) e i = slot_closed k (s.variable x) (e x)
  read_closed k s x (pointer b o) e i = absurd i
  read_closed k s x (home b) e i = absurd i
  read_closed k s x absent e i = absurd i
