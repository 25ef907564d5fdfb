-- What annotations make of closed terms is closed.
use Rattle.std.proofs.Common.{◌≡◌, ℕ, zero, suc, ◌==◌, Bool, true, false, not, ◌&&◌, ◌||◌, if◌then◌else◌, pos, List, [], ◌∷◌, ◌++◌, refl}
use Rattle.std.specs.Prelude.{Option, Some, None}
use Rattle.std.specs.List.{list_any}
use Rattle.std.specs.Str.{bytes_eq}
use Rattle.std.proofs.lemmas.Bool.{false≢true, and_parts}
use Rattle.std.proofs.lemmas.Slice.Eq.{bytes_eq-Decides}
use Rattle.wp_base.specs.declared.kinds.Kind.{Kind}
use Rattle.wp_base.specs.declared.kinds.Kind.TheVariants as kind
use Rattle.c_kinds.specs.declared.models.Machdep.{Machdep}
use Rattle.c_kinds.specs.Conversions.{holds_all}
use Rattle.typed_prog.specs.declared.operators.Variable.{Variable}
use Rattle.typed_prog.specs.declared.operators.Comparison.{Comparison}
use Rattle.typed_prog.specs.declared.operators.Comparison.TheVariants as cmp
use Rattle.acsl_trees.specs.declared.heads.Content.{Content}
use Rattle.acsl_trees.specs.declared.heads.Content.TheVariants as content
use Rattle.acsl_trees.specs.declared.heads.Range.{Range}
use Rattle.acsl_trees.specs.declared.heads.Range.TheVariants as range
use Rattle.qed_terms.specs.declared.head.Head.TheVariants as h
use Rattle.qed_terms.specs.declared.head.Sort.TheVariants as sort
use Rattle.qed_terms.specs.declared.head.TermOp.TheVariants as op
use Rattle.qed_terms.specs.Tree as tree
use Rattle.qed_terms.specs.Tree.{Tree as Term, Trees, node, stop, more, trees_of, num, var}
use Rattle.memory_words.specs.Leaves.{is_marked, is_closed, are_closed, is_closed_range}
use Rattle.acsl_encode.specs.Readings.{Terms, integer, truth, address, variable, elements, region, nothing, Pointer, at, Slot, whole, any_integer, pointer, home, absent, Seen}
use Rattle.acsl_encode.specs.Encode as encode
use Rattle.acsl_encode.specs.Encode.{as_integer, as_formula, as_pointer, with_one, with_two, terms_at, comparison, pointer_comparison, times, further, moved}
use Rattle.acsl_encode.specs.Encode.{difference, of_variable, held, read, wrapped, converted, either, either_truth, either_address, reached, all_of, Ends, ends_of}
use Rattle.acsl_encode.specs.Encode.{low_end, high_end}
use Rattle.acsl_encode.specs.Meaning.{Holds}
use Rattle.leaf_annotations.specs.Closed.{IsClosed, PointerClosed, TermsClosed, SlotClosed, SeenClosed}

-- ---- more names that are bound

abbrev pub IsAmongThem : (xs ys : List (List ℕ)) → Type 0
IsAmongThem xs ys = (x : List ℕ) → list_any (bytes_eq x) xs ≡ true → list_any (bytes_eq x) ys ≡ true

under : (xs ys : List (List ℕ)) (y : List ℕ) → IsAmongThem xs ys → IsAmongThem (y ∷ xs) (y ∷ ys)
under xs ys y sub x e = by (bytes_eq x y) e where
  by : (b : Bool) → (b || list_any (bytes_eq x) xs) ≡ true → (b || list_any (bytes_eq x) ys) ≡ true
  by true e = refl
  by false e = sub x e

one_more_name : (xs : List (List ℕ)) (y : List ℕ) → IsAmongThem xs (y ∷ xs)
one_more_name xs y x e = by (bytes_eq x y) where
  by : (b : Bool) → (b || list_any (bytes_eq x) xs) ≡ true
  by true = refl
  by false = e

leaf_among : (xs ys : List (List ℕ)) (x : List ℕ) → IsAmongThem xs ys → (not (is_marked x) || list_any (bytes_eq x) xs) ≡ true
    → (not (is_marked x) || list_any (bytes_eq x) ys) ≡ true
leaf_among xs ys x sub e = by (not (is_marked x)) e where
  by : (b : Bool) → (b || list_any (bytes_eq x) xs) ≡ true → (b || list_any (bytes_eq x) ys) ≡ true
  by true e = refl
  by false e = sub x e

mutual
  tree_among : (t : Term) (xs ys : List (List ℕ)) → IsAmongThem xs ys → IsClosed xs t → IsClosed ys t
  tree_among (node (h.Var x sort.Int) ts) xs ys sub e = leaf_among xs ys x sub e
  tree_among (node (h.Var x sort.Memory) ts) xs ys sub e = refl
  tree_among (node (h.Var x sort.Table) ts) xs ys sub e = refl
  tree_among (node (h.Forall x) ts) xs ys sub e = let both = and_parts (is_marked x) (is_closed_range xs x ts) e in
      let r = range_among ts xs ys x sub both.1 in λ i. both.0 i && r i
  tree_among (node (h.Exists x) ts) xs ys sub e = let both = and_parts (is_marked x) (is_closed_range xs x ts) e in
      let r = range_among ts xs ys x sub both.1 in λ i. both.0 i && r i
  tree_among (node (h.Num z) ts) xs ys sub e = trees_among ts xs ys sub e
  tree_among (node (h.Term o) ts) xs ys sub e = trees_among ts xs ys sub e
  tree_among (node h.Ite ts) xs ys sub e = trees_among ts xs ys sub e
  tree_among (node (h.App f) ts) xs ys sub e = trees_among ts xs ys sub e
  tree_among (node (h.Form o) ts) xs ys sub e = trees_among ts xs ys sub e
  tree_among (node h.True ts) xs ys sub e = trees_among ts xs ys sub e
  tree_among (node h.False ts) xs ys sub e = trees_among ts xs ys sub e
  tree_among (node h.Not ts) xs ys sub e = trees_among ts xs ys sub e
  tree_among (node h.And ts) xs ys sub e = trees_among ts xs ys sub e
  tree_among (node h.Or ts) xs ys sub e = trees_among ts xs ys sub e
  tree_among (node h.Imp ts) xs ys sub e = trees_among ts xs ys sub e
  tree_among (node h.Iff ts) xs ys sub e = trees_among ts xs ys sub e

  trees_among : (ts : Trees) (xs ys : List (List ℕ)) → IsAmongThem xs ys → are_closed xs ts ≡ true → are_closed ys ts ≡ true
  trees_among stop xs ys sub e = refl
  trees_among (more t ts) xs ys sub e =
      let both = and_parts (is_closed xs t) (are_closed xs ts) e in
      let a = tree_among t xs ys sub both.0 in
      let b = trees_among ts xs ys sub both.1 in
      λ i. a i && b i

  range_among : (ts : Trees) (xs ys : List (List ℕ)) (x : List ℕ) → IsAmongThem xs ys → is_closed_range xs x ts ≡ true → is_closed_range ys x ts ≡ true
  range_among stop xs ys x sub e = absurd (false≢true e)
  range_among (more a stop) xs ys x sub e = absurd (false≢true e)
  range_among (more a (more b stop)) xs ys x sub e = absurd (false≢true e)
  range_among (more a (more b (more c stop))) xs ys x sub e =
      let all = and_parts (is_closed xs a && is_closed xs b) (is_closed (x ∷ xs) c) e in
      let ends = and_parts (is_closed xs a) (is_closed xs b) all.0 in
      let p = tree_among a xs ys sub ends.0 in
      let q = tree_among b xs ys sub ends.1 in
      let r = tree_among c (x ∷ xs) (x ∷ ys) (under xs ys x sub) all.1 in
      λ i. (p i && q i) && r i
  range_among (more a (more b (more c (more d ts)))) xs ys x sub e = absurd (false≢true e)

pub one_more : (xs : List (List ℕ)) (x : List ℕ) (t : Term) → IsClosed xs t → IsClosed (x ∷ xs) t
one_more xs x t e = tree_among t xs (x ∷ xs) (one_more_name xs x) e

pub anywhere : (xs : List (List ℕ)) (t : Term) → IsClosed [] t → IsClosed xs t
anywhere xs t e = tree_among t [] xs (λ x k. absurd (false≢true k)) e

-- the name that is bound
pub bound_closed : (xs : List (List ℕ)) (x : List ℕ) → IsClosed (x ∷ xs) (var x)
bound_closed xs x = by (bytes_eq x x) ((bytes_eq-Decides x x).1 refl) (not (is_marked x)) where
  by : (b : Bool) → b ≡ true → (m : Bool) → (m || (b || list_any (bytes_eq x) xs)) ≡ true
  by true e true = refl
  by true e false = refl
  by false e m = absurd (false≢true e)

pub terms_more : (xs : List (List ℕ)) (x : List ℕ) (t : Terms) → TermsClosed xs t → TermsClosed (x ∷ xs) t
terms_more xs x (integer k t) e = one_more xs x t e
terms_more xs x (truth f) e = one_more xs x f e
terms_more xs x (address b o) e = (one_more xs x b e.0, one_more xs x o e.1)
terms_more xs x (variable y) e = tt
terms_more xs x (elements b o n i j) e = (one_more xs x b e.0, one_more xs x o e.1, one_more xs x i e.2, one_more xs x j e.3)
terms_more xs x (region cs b i j) e = (one_more xs x b e.0, one_more xs x i e.1, one_more xs x j e.2)
terms_more xs x nothing e = tt

pub terms_anywhere : (xs : List (List ℕ)) (t : Terms) → TermsClosed [] t → TermsClosed xs t
terms_anywhere xs (integer k t) e = anywhere xs t e
terms_anywhere xs (truth f) e = anywhere xs f e
terms_anywhere xs (address b o) e = (anywhere xs b e.0, anywhere xs o e.1)
terms_anywhere xs (variable y) e = tt
terms_anywhere xs (elements b o n i j) e = (anywhere xs b e.0, anywhere xs o e.1, anywhere xs i e.2, anywhere xs j e.3)
terms_anywhere xs (region cs b i j) e = (anywhere xs b e.0, anywhere xs i e.1, anywhere xs j e.2)
terms_anywhere xs nothing e = tt

module _ (xs : List (List ℕ)) where
  abbrev C : Term → Type 0
  C = IsClosed xs

  abbrev pub AllClosed : List Term → Type 0
  AllClosed [] = Unit {0}
  AllClosed (t ∷ ts) = C t × AllClosed ts

  -- ---- nodes

  pub one_kid : (t : Term) → C t → are_closed xs (tree.one t) ≡ true
  one_kid t a = λ i. a i && true

  pub two_kids : (t u : Term) → C t → C u → are_closed xs (tree.two t u) ≡ true
  two_kids t u a b = λ i. a i && (b i && true)

  pub three_kids : (t u v : Term) → C t → C u → C v → are_closed xs (tree.three t u v) ≡ true
  three_kids t u v a b c = λ i. a i && (b i && (c i && true))

  pub all_closed : (ts : List Term) → AllClosed ts → are_closed xs (trees_of ts) ≡ true
  all_closed [] a = refl
  all_closed (t ∷ ts) a = let rest = all_closed ts a.1 in λ i. a.0 i && rest i

  pub both_closed : (ts us : List Term) → AllClosed ts → AllClosed us → AllClosed (ts ++ us)
  both_closed [] us a b = b
  both_closed (t ∷ ts) us a b = (a.0, both_closed ts us a.1 b)

  pub all_of_closed : (fs : List Term) → AllClosed fs → C (all_of fs)
  all_of_closed [] a = refl
  all_of_closed (f ∷ []) a = a.0
  all_of_closed (f ∷ g ∷ fs) a = all_closed (f ∷ g ∷ fs) a

  -- ---- terms and formulas

  pub comparison_closed : (c : Comparison) (t u : Term) → C t → C u → C (comparison c t u)
  comparison_closed cmp.Less t u a b = two_kids t u a b
  comparison_closed cmp.AtMost t u a b = two_kids t u a b
  comparison_closed cmp.Greater t u a b = two_kids u t b a
  comparison_closed cmp.AtLeast t u a b = two_kids u t b a
  comparison_closed cmp.Equal t u a b = two_kids t u a b
  comparison_closed cmp.NotEqual t u a b = one_kid (tree.equal t u) (two_kids t u a b)

  same_closed : (p q : Pointer) → PointerClosed xs p → PointerClosed xs q → C (encode.same_pointer p q)
  same_closed p q a b =
      two_kids (tree.equal p.block q.block) (tree.equal p.offset q.offset) (two_kids p.block q.block a.0 b.0) (two_kids p.offset q.offset a.1 b.1)

  pub pointers_closed : (c : Comparison) (p q : Pointer) → PointerClosed xs p → PointerClosed xs q → C (pointer_comparison c p q)
  pointers_closed cmp.Less p q a b = comparison_closed cmp.Less p.offset q.offset a.1 b.1
  pointers_closed cmp.AtMost p q a b = comparison_closed cmp.AtMost p.offset q.offset a.1 b.1
  pointers_closed cmp.Greater p q a b = comparison_closed cmp.Greater p.offset q.offset a.1 b.1
  pointers_closed cmp.AtLeast p q a b = comparison_closed cmp.AtLeast p.offset q.offset a.1 b.1
  pointers_closed cmp.Equal p q a b = same_closed p q a b
  pointers_closed cmp.NotEqual p q a b = one_kid (encode.same_pointer p q) (same_closed p q a b)

  if_closed : (b : Bool) (t u : Term) → C t → C u → C (if b then t else u)
  if_closed true t u a k = a
  if_closed false t u a k = k

  pub truth_closed : (f : Term) → C f → C (encode.truth_term f)
  truth_closed f a = three_kids f (num (pos 1)) (num (pos 0)) a refl refl

  pub times_closed : (n : ℕ) (t : Term) → C t → C (times n t)
  times_closed n t a = if_closed (n == 1) t (encode.op_two op.Mul (num (pos n)) t) a (two_kids (num (pos n)) t refl a)

  pub further_closed : (n : ℕ) (o : Term) → C o → C (further n o)
  further_closed zero o a = a
  further_closed (suc n) o a = two_kids o (num (pos (suc n))) a refl

  pub moved_closed : (minus : Bool) (n : ℕ) (p : Pointer) (t : Term) → PointerClosed xs p → C t → TermsClosed xs (moved minus n p t)
  moved_closed true n p t a b = (a.0, two_kids p.offset (times n t) a.1 (times_closed n t b))
  moved_closed false n p t a b = (a.0, two_kids p.offset (times n t) a.1 (times_closed n t b))

  pub difference_closed : (n : ℕ) (p q : Pointer) → PointerClosed xs p → PointerClosed xs q → C (difference n p q)
  difference_closed n p q a b =
      if_closed (n == 1) (encode.op_two op.Sub p.offset q.offset) (encode.op_two op.Div (encode.op_two op.Sub p.offset q.offset) (num (pos n)))
      (two_kids p.offset q.offset a.1 b.1)
      (two_kids (encode.op_two op.Sub p.offset q.offset) (num (pos n)) (two_kids p.offset q.offset a.1 b.1) refl)

  pub wrapped_closed : (k : Kind) (t : Term) → C t → C (wrapped k t)
  wrapped_closed kind.Bool t a = three_kids (tree.equal t (num (pos 0))) (num (pos 0)) (num (pos 1)) (two_kids t (num (pos 0)) a refl) refl refl
  wrapped_closed kind.Char t a = one_kid t a
  wrapped_closed kind.SChar t a = one_kid t a
  wrapped_closed kind.UChar t a = one_kid t a
  wrapped_closed kind.Short t a = one_kid t a
  wrapped_closed kind.UShort t a = one_kid t a
  wrapped_closed kind.Int t a = one_kid t a
  wrapped_closed kind.UInt t a = one_kid t a
  wrapped_closed kind.Long t a = one_kid t a
  wrapped_closed kind.ULong t a = one_kid t a
  wrapped_closed kind.LLong t a = one_kid t a
  wrapped_closed kind.ULLong t a = one_kid t a

  -- ---- what values are taken for

  pub integer_closed : (x : Terms) → TermsClosed xs x → Holds C (as_integer x)
  integer_closed (integer k t) a = a
  integer_closed (truth f) a = truth_closed f a
  integer_closed (address b o) a = tt
  integer_closed (variable x) a = tt
  integer_closed (elements b o n i j) a = tt
  integer_closed (region cs b i j) a = tt
  integer_closed nothing a = tt

  pub formula_closed : (x : Terms) → TermsClosed xs x → Holds C (as_formula x)
  formula_closed (integer k t) a = one_kid (tree.equal t (num (pos 0))) (two_kids t (num (pos 0)) a refl)
  formula_closed (truth f) a = a
  formula_closed (address b o) a = tt
  formula_closed (variable x) a = tt
  formula_closed (elements b o n i j) a = tt
  formula_closed (region cs b i j) a = tt
  formula_closed nothing a = tt

  pub pointer_closed : (x : Terms) → TermsClosed xs x → Holds (PointerClosed xs) (as_pointer x)
  pointer_closed (integer k t) a = tt
  pointer_closed (truth f) a = tt
  pointer_closed (address b o) a = a
  pointer_closed (variable x) a = tt
  pointer_closed (elements b o n i j) a = tt
  pointer_closed (region cs b i j) a = tt
  pointer_closed nothing a = tt

  pub on_one : {X : Type 0} (p : X → Type 0) (f : X → Terms) (o : Option X) → Holds p o → ((x : X) → p x → TermsClosed xs (f x)) → TermsClosed xs (with_one f o)
  on_one p f (Some x) a made = made x a
  on_one p f None a made = tt

  pub on_two : {X Y : Type 0} (p : X → Type 0) (q : Y → Type 0) (f : X → Y → Terms) (o : Option X) (o' : Option Y) → Holds p o → Holds q o'
      → ((x : X) (y : Y) → p x → q y → TermsClosed xs (f x y)) → TermsClosed xs (with_two f o o')
  on_two p q f (Some x) (Some y) a b made = made x y a b
  on_two p q f (Some x) None a b made = tt
  on_two p q f None o' a b made = tt

  pub reached_closed : (n : ℕ) (o : Option Pointer) (i j : Option Term) → Holds (PointerClosed xs) o → Holds C i → Holds C j → TermsClosed xs (reached n o i j)
  reached_closed n (Some p) (Some t) (Some u) a b c = (a.0, a.1, b, c)
  reached_closed n (Some p) (Some t) None a b c = tt
  reached_closed n (Some p) None j a b c = tt
  reached_closed n None i j a b c = tt

  -- ---- reading

  pub variable_closed : (x : Variable) (s : Slot) → SlotClosed s → TermsClosed xs (of_variable x s)
  variable_closed x (whole k t) a = tt
  variable_closed x (any_integer t) a = tt
  variable_closed x (pointer b o) a = tt
  variable_closed x (home b) a = (anywhere xs b a, refl)
  variable_closed x absent a = tt

  held_closed : (c : Content) (s : Slot) → SlotClosed s → TermsClosed xs (held c s)
  held_closed (content.Integer k) (whole l t) a = anywhere xs t a
  held_closed (content.Integer k) (any_integer t) a = anywhere xs t a
  held_closed content.Pointer (pointer b o) a = (anywhere xs b a.0, anywhere xs o a.1)
  held_closed (content.Integer k) (pointer b o) a = tt
  held_closed (content.Integer k) (home b) a = tt
  held_closed (content.Integer k) absent a = tt
  held_closed content.Pointer (whole l t) a = tt
  held_closed content.Pointer (any_integer t) a = tt
  held_closed content.Pointer (home b) a = tt
  held_closed content.Pointer absent a = tt
  held_closed (content.Struct n) (whole l t) a = tt
  held_closed (content.Struct n) (any_integer t) a = tt
  held_closed (content.Struct n) (pointer b o) a = tt
  held_closed (content.Struct n) (home b) a = tt
  held_closed (content.Struct n) absent a = tt

  pub read_closed : (c : Content) (s : Seen) (x : Terms) → SeenClosed s → TermsClosed xs x → TermsClosed xs (read c s x)
  read_closed (content.Integer k) s (address b o) good a =
      on_one (IsClosed []) (λ m. integer (Some k) (encode.load m b o)) (s.numbers k) (good.numbers k)
      (λ m e. three_kids m b o (anywhere xs m e) a.0 a.1)
  read_closed (content.Integer k) s (variable x) good a = held_closed (content.Integer k) (s.variable x) (good.variables x)
  read_closed content.Pointer s (address b o) good a =
      on_one (PointerClosed []) (λ p. address (encode.load p.block b o) (encode.load p.offset b o)) s.pointers good.pointers
      (λ p e. (three_kids p.block b o (anywhere xs p.block e.0) a.0 a.1, three_kids p.offset b o (anywhere xs p.offset e.1) a.0 a.1))
  read_closed content.Pointer s (variable x) good a = held_closed content.Pointer (s.variable x) (good.variables x)
  read_closed (content.Struct n) s (address b o) good a = a
  read_closed (content.Integer k) s (integer l t) good a = tt
  read_closed (content.Integer k) s (truth f) good a = tt
  read_closed (content.Integer k) s (elements b o n i j) good a = tt
  read_closed (content.Integer k) s (region cs b i j) good a = tt
  read_closed (content.Integer k) s nothing good a = tt
  read_closed content.Pointer s (integer l t) good a = tt
  read_closed content.Pointer s (truth f) good a = tt
  read_closed content.Pointer s (elements b o n i j) good a = tt
  read_closed content.Pointer s (region cs b i j) good a = tt
  read_closed content.Pointer s nothing good a = tt
  read_closed (content.Struct m) s (variable x) good a = tt
  read_closed (content.Struct m) s (integer l t) good a = tt
  read_closed (content.Struct m) s (truth f) good a = tt
  read_closed (content.Struct m) s (elements b o n i j) good a = tt
  read_closed (content.Struct m) s (region cs b i j) good a = tt
  read_closed (content.Struct m) s nothing good a = tt

  pub converted_closed : (m : Machdep) (k : Kind) (x : Terms) → TermsClosed xs x → TermsClosed xs (converted m k x)
  converted_closed m k (integer (Some l) t) a = if_closed (holds_all m k l) t (wrapped k t) a (wrapped_closed k t a)
  converted_closed m k (integer None t) a = wrapped_closed k t a
  converted_closed m k (truth f) a = wrapped_closed k (encode.truth_term f) (truth_closed f a)
  converted_closed m k (address b o) a = tt
  converted_closed m k (variable x) a = tt
  converted_closed m k (elements b o n i j) a = tt
  converted_closed m k (region cs b i j) a = tt
  converted_closed m k nothing a = tt

  -- ---- choices

  either_truth_closed : (c f : Term) (y : Terms) → C c → C f → TermsClosed xs y → TermsClosed xs (either_truth c f y)
  either_truth_closed c f (truth g) e a b =
      two_kids (tree.imp_of c f) (tree.imp_of (tree.not_of c) g) (two_kids c f e a) (two_kids (tree.not_of c) g (one_kid c e) b)
  either_truth_closed c f (integer k u) e a b = three_kids c (encode.truth_term f) u e (truth_closed f a) b
  either_truth_closed c f (address p o) e a b = tt
  either_truth_closed c f (variable x) e a b = tt
  either_truth_closed c f (elements p o n i j) e a b = tt
  either_truth_closed c f (region cs p i j) e a b = tt
  either_truth_closed c f nothing e a b = tt

  either_address_closed : (c : Term) (p : Pointer) (y : Terms) → C c → PointerClosed xs p → TermsClosed xs y → TermsClosed xs (either_address c p y)
  either_address_closed c p (address b o) e a d = (three_kids c p.block b e a.0 d.0, three_kids c p.offset o e a.1 d.1)
  either_address_closed c p (integer k u) e a d = tt
  either_address_closed c p (truth g) e a d = tt
  either_address_closed c p (variable x) e a d = tt
  either_address_closed c p (elements b o n i j) e a d = tt
  either_address_closed c p (region cs b i j) e a d = tt
  either_address_closed c p nothing e a d = tt

  pub either_closed : (x y : Terms) (c : Term) → C c → TermsClosed xs x → TermsClosed xs y → TermsClosed xs (either x y c)
  either_closed (truth f) y c e a b = either_truth_closed c f y e a b
  either_closed (integer k t) y c e a b =
      on_one C (λ u. encode.unbounded (tree.ite c t u)) (as_integer y) (integer_closed y b) (λ u d. three_kids c t u e a d)
  either_closed (address p o) y c e a b = either_address_closed c (at p o) y e a b
  either_closed (variable x) y c e a b = tt
  either_closed (elements p o n i j) y c e a b = tt
  either_closed (region cs p i j) y c e a b = tt
  either_closed nothing y c e a b = tt

  -- ---- ranges

  abbrev pub EndsClosed : Ends → Type 0
  EndsClosed e = C e.low × C e.high

  low_closed : (p : Bool) (t : Term) → C t → C (low_end p t)
  low_closed true t a = two_kids t (num (pos 1)) a refl
  low_closed false t a = a

  high_closed : (p : Bool) (t : Term) → C t → C (high_end p t)
  high_closed true t a = a
  high_closed false t a = two_kids t (num (pos 1)) a refl

  pub ends_closed : (m : Machdep) (g : Range) (ts : List Terms) → Holds C (as_integer (terms_at ts 0)) → Holds C (as_integer (terms_at ts 1))
      → Holds EndsClosed (ends_of m g ts)
  ends_closed m (range.Between p q place) ts a b = by (as_integer (terms_at ts 0)) (as_integer (terms_at ts 1)) a b where
    by : (o o' : Option Term) → Holds C o → Holds C o' → Holds EndsClosed (encode.on_two (λ t u. record { low = low_end p t; high = high_end q u }) o o')
    by (Some t) (Some u) a b = (low_closed p t a, high_closed q u b)
    by (Some t) None a b = tt
    by None o' a b = tt
  ends_closed m (range.Kind k place) ts a b = (refl, refl)
