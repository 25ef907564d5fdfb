-- Annotations that are read in states of one more level have the terms of that level.
use Rattle.std.proofs.Common.{◌≡◌, ℕ, zero, suc, ◌==◌, Bool, true, false, if◌then◌else◌, pos, List, [], ◌∷◌, map, length, Option, Some, None, refl, ap, ap₂, ◌∙◌}
use Rattle.std.specs.Prelude.{◌-◌}
use Rattle.std.specs.Option.{option_map}
use Rattle.std.proofs.lemmas.List.{length-map}
use Rattle.wp_base.specs.declared.kinds.Kind.{Kind}
use Rattle.wp_base.specs.declared.kinds.Kind.TheVariants as kind
use Rattle.c_kinds.specs.declared.models.Machdep.{Machdep}
use Rattle.c_kinds.specs.Conversions.{holds_all}
use Rattle.typed_prog.specs.declared.operators.Variable.{Variable}
use Rattle.typed_prog.specs.declared.operators.Comparison.{Comparison}
use Rattle.typed_prog.specs.declared.operators.Comparison.TheVariants as cmp
use Rattle.acsl_trees.specs.declared.heads.Content.{Content}
use Rattle.acsl_trees.specs.declared.heads.Content.TheVariants as content
use Rattle.acsl_trees.specs.declared.heads.Label.{Label}
use Rattle.acsl_trees.specs.declared.heads.Label.TheVariants as label
use Rattle.acsl_trees.specs.declared.heads.Head.{Head}
use Rattle.acsl_trees.specs.declared.heads.Head.TheVariants as h
use Rattle.qed_terms.specs.declared.head.TermOp.TheVariants as op
use Rattle.qed_terms.specs.Tree.{Tree as Term, num, not_of, and_of, or_of, imp_of, ite}
use Rattle.acsl_encode.specs.Readings.{Pointer, at, Terms, integer, truth, address, variable, elements, region, nothing, Slot, whole, any_integer, pointer, home}
use Rattle.acsl_encode.specs.Readings.{absent, Seen, Reading, seen_in}
use Rattle.acsl_encode.specs.Encode as encode
use Rattle.acsl_encode.specs.Encode.{Ends, Names, Kids, as_integer, as_formula, as_pointer, with_one, with_two, unbounded, terms_at, first, second, third, last_of}
use Rattle.acsl_encode.specs.Encode.{comparison, pointer_comparison, times, moved, further, difference, held, read, wrapped, converted, either, reached, applied}
use Rattle.acsl_encode.specs.Encode.{app, put, all_put, both, argument, arguments, memory_of, integer_of, pointer_in, global_of, all_given, linked, all_linked}
use Rattle.acsl_encode.specs.Encode.{in_chain, ends_of, over, quantified, good_cells, element_at, one_more, valid, region_of, apart_from, apart, apart_all}
use Rattle.acsl_encode.specs.Encode.{pairs_apart, all_of, with_name, body_of, node_terms, encoded, all_encoded, own_binders, content_cells, binders, op_one, op_two}
use Rattle.acsl_encode.specs.Encode.{op_of, load, iff_of, low_end, high_end, kind_of, is_range, terms_of, no_names, formula_of}
use Rattle.memory_statements.proofs.ShiftedTrees.{later_tree}

-- ---- readings of one more level

abbrev pub later_pointer : Pointer → Pointer
later_pointer p = at (later_tree p.block) (later_tree p.offset)

abbrev pub later_terms : Terms → Terms
later_terms (integer k t) = integer k (later_tree t)
later_terms (truth f) = truth (later_tree f)
later_terms (address b o) = address (later_tree b) (later_tree o)
later_terms (variable x) = variable x
later_terms (elements b o n low high) = elements (later_tree b) (later_tree o) n (later_tree low) (later_tree high)
later_terms (region ks b low high) = region ks (later_tree b) (later_tree low) (later_tree high)
later_terms nothing = nothing

abbrev pub later_slot : Slot → Slot
later_slot (whole k t) = whole k (later_tree t)
later_slot (any_integer t) = any_integer (later_tree t)
later_slot (pointer b o) = pointer (later_tree b) (later_tree o)
later_slot (home b) = home (later_tree b)
later_slot absent = absent

abbrev pub later_seen : Seen → Seen
later_seen s = record {
  variable = λ x. later_slot (s.variable x);
  table = option_map later_tree s.table;
  numbers = λ k. option_map later_tree (s.numbers k);
  pointers = option_map later_pointer s.pointers;
}

abbrev pub later_reading : Reading → Reading
later_reading r = record {
  here = later_seen r.here;
  pre = later_seen r.pre;
  post = later_seen r.post;
  loop_entry = later_seen r.loop_entry;
  result = later_terms r.result;
  common = r.common;
  called = r.called;
}

-- ---- what a value is taken for

pub later_integer : (t : Terms) → as_integer (later_terms t) ≡ option_map later_tree (as_integer t)
later_integer (integer k t) = refl
later_integer (truth f) = refl
later_integer (address b o) = refl
later_integer (variable x) = refl
later_integer (elements b o n low high) = refl
later_integer (region ks b low high) = refl
later_integer nothing = refl

pub later_formula : (t : Terms) → as_formula (later_terms t) ≡ option_map later_tree (as_formula t)
later_formula (integer k t) = refl
later_formula (truth f) = refl
later_formula (address b o) = refl
later_formula (variable x) = refl
later_formula (elements b o n low high) = refl
later_formula (region ks b low high) = refl
later_formula nothing = refl

pub later_address : (t : Terms) → as_pointer (later_terms t) ≡ option_map later_pointer (as_pointer t)
later_address (integer k t) = refl
later_address (truth f) = refl
later_address (address b o) = refl
later_address (variable x) = refl
later_address (elements b o n low high) = refl
later_address (region ks b low high) = refl
later_address nothing = refl

pub later_one : {X : Type 0} (g : X → X) (f f' : X → Terms) → ((x : X) → f' (g x) ≡ later_terms (f x)) → (o : Option X)
    → with_one f' (option_map g o) ≡ later_terms (with_one f o)
later_one g f f' h (Some x) = h x
later_one g f f' h None = refl

pub later_two : {X Y : Type 0} (g : X → X) (k : Y → Y) (f f' : X → Y → Terms) → ((x : X) (y : Y) → f' (g x) (k y) ≡ later_terms (f x y)) → (o : Option X) (u : Option Y)
    → with_two f' (option_map g o) (option_map k u) ≡ later_terms (with_two f o u)
later_two g k f f' h (Some x) u = later_one k (f x) (f' (g x)) (h x) u
later_two g k f f' h None u = refl

-- ---- operands

pub later_at : (xs : List Terms) (i : ℕ) → terms_at (map later_terms xs) i ≡ later_terms (terms_at xs i)
later_at [] i = refl
later_at (x ∷ xs) zero = refl
later_at (x ∷ xs) (suc i) = later_at xs i

pub later_last : (xs : List Terms) → last_of (map later_terms xs) ≡ later_terms (last_of xs)
later_last xs = ap (λ n. terms_at (map later_terms xs) (n - 1)) (length-map xs later_terms) ∙ later_at xs (length xs - 1)

module _ (xs : List Terms) where
  pub int_at : (i : ℕ) → as_integer (terms_at (map later_terms xs) i) ≡ option_map later_tree (as_integer (terms_at xs i))
  int_at i = ap as_integer (later_at xs i) ∙ later_integer (terms_at xs i)

  form_at : (i : ℕ) → as_formula (terms_at (map later_terms xs) i) ≡ option_map later_tree (as_formula (terms_at xs i))
  form_at i = ap as_formula (later_at xs i) ∙ later_formula (terms_at xs i)

  pointer_at : (i : ℕ) → as_pointer (terms_at (map later_terms xs) i) ≡ option_map later_pointer (as_pointer (terms_at xs i))
  pointer_at i = ap as_pointer (later_at xs i) ∙ later_address (terms_at xs i)

  one_int : (f f' : Term → Terms) → ((t : Term) → f' (later_tree t) ≡ later_terms (f t)) → with_one f' (as_integer (first (map later_terms xs))) ≡ later_terms (with_one f (as_integer (first xs)))
  one_int f f' h = ap (with_one f') (int_at 0) ∙ later_one later_tree f f' h (as_integer (first xs))

  one_form : (f f' : Term → Terms) → ((t : Term) → f' (later_tree t) ≡ later_terms (f t)) → with_one f' (as_formula (first (map later_terms xs))) ≡ later_terms (with_one f (as_formula (first xs)))
  one_form f f' h = ap (with_one f') (form_at 0) ∙ later_one later_tree f f' h (as_formula (first xs))

  one_pointer : (f f' : Pointer → Terms) → ((p : Pointer) → f' (later_pointer p) ≡ later_terms (f p))
      → with_one f' (as_pointer (first (map later_terms xs))) ≡ later_terms (with_one f (as_pointer (first xs)))
  one_pointer f f' h = ap (with_one f') (pointer_at 0) ∙ later_one later_pointer f f' h (as_pointer (first xs))

  two_ints : (f f' : Term → Term → Terms) → ((t u : Term) → f' (later_tree t) (later_tree u) ≡ later_terms (f t u))
      → with_two f' (as_integer (first (map later_terms xs))) (as_integer (second (map later_terms xs))) ≡ later_terms (with_two f (as_integer (first xs)) (as_integer (second xs)))
  two_ints f f' h = ap₂ (with_two f') (int_at 0) (int_at 1) ∙ later_two later_tree later_tree f f' h (as_integer (first xs)) (as_integer (second xs))

  two_forms : (f f' : Term → Term → Terms) → ((t u : Term) → f' (later_tree t) (later_tree u) ≡ later_terms (f t u))
      → with_two f' (as_formula (first (map later_terms xs))) (as_formula (second (map later_terms xs))) ≡ later_terms (with_two f (as_formula (first xs)) (as_formula (second xs)))
  two_forms f f' h = ap₂ (with_two f') (form_at 0) (form_at 1) ∙ later_two later_tree later_tree f f' h (as_formula (first xs)) (as_formula (second xs))

  two_pointers : (f f' : Pointer → Pointer → Terms) → ((p q : Pointer) → f' (later_pointer p) (later_pointer q) ≡ later_terms (f p q))
      → with_two f' (as_pointer (first (map later_terms xs))) (as_pointer (second (map later_terms xs))) ≡ later_terms (with_two f (as_pointer (first xs)) (as_pointer (second xs)))
  two_pointers f f' h = ap₂ (with_two f') (pointer_at 0) (pointer_at 1) ∙ later_two later_pointer later_pointer f f' h (as_pointer (first xs)) (as_pointer (second xs))

  pointer_int : (f f' : Pointer → Term → Terms) → ((p : Pointer) (t : Term) → f' (later_pointer p) (later_tree t) ≡ later_terms (f p t))
      → with_two f' (as_pointer (first (map later_terms xs))) (as_integer (second (map later_terms xs))) ≡ later_terms (with_two f (as_pointer (first xs)) (as_integer (second xs)))
  pointer_int f f' h = ap₂ (with_two f') (pointer_at 0) (int_at 1) ∙ later_two later_pointer later_tree f f' h (as_pointer (first xs)) (as_integer (second xs))

-- ---- heads by themselves

later_if : (b : Bool) (t u : Term) → (if b then later_tree t else later_tree u) ≡ later_tree (if b then t else u)
later_if true t u = refl
later_if false t u = refl

pub later_terms_if : (b : Bool) (t u : Terms) → (if b then later_terms t else later_terms u) ≡ later_terms (if b then t else u)
later_terms_if true t u = refl
later_terms_if false t u = refl

pub later_comparison : (c : Comparison) (t u : Term) → comparison c (later_tree t) (later_tree u) ≡ later_tree (comparison c t u)
later_comparison cmp.Less t u = refl
later_comparison cmp.AtMost t u = refl
later_comparison cmp.Greater t u = refl
later_comparison cmp.AtLeast t u = refl
later_comparison cmp.Equal t u = refl
later_comparison cmp.NotEqual t u = refl

pub later_pointers : (c : Comparison) (p q : Pointer) → pointer_comparison c (later_pointer p) (later_pointer q) ≡ later_tree (pointer_comparison c p q)
later_pointers cmp.Less p q = refl
later_pointers cmp.AtMost p q = refl
later_pointers cmp.Greater p q = refl
later_pointers cmp.AtLeast p q = refl
later_pointers cmp.Equal p q = refl
later_pointers cmp.NotEqual p q = refl

pub later_times : (n : ℕ) (t : Term) → times n (later_tree t) ≡ later_tree (times n t)
later_times n t = later_if (n == 1) t (op_two op.Mul (num (pos n)) t)

later_moved : (minus : Bool) (n : ℕ) (p : Pointer) (t : Term) → moved minus n (later_pointer p) (later_tree t) ≡ later_terms (moved minus n p t)
later_moved true n p t = ap (λ u. address (later_tree p.block) (op_two op.Sub (later_tree p.offset) u)) (later_times n t)
later_moved false n p t = ap (λ u. address (later_tree p.block) (op_two op.Add (later_tree p.offset) u)) (later_times n t)

pub later_further : (n : ℕ) (o : Term) → further n (later_tree o) ≡ later_tree (further n o)
later_further zero o = refl
later_further (suc n) o = refl

later_difference : (n : ℕ) (p q : Pointer) → difference n (later_pointer p) (later_pointer q) ≡ later_tree (difference n p q)
later_difference n p q = later_if (n == 1) (op_two op.Sub p.offset q.offset) (op_two op.Div (op_two op.Sub p.offset q.offset) (num (pos n)))

later_held : (c : Content) (s : Slot) → held c (later_slot s) ≡ later_terms (held c s)
later_held (content.Integer k) (whole l t) = refl
later_held (content.Integer k) (any_integer t) = refl
later_held (content.Integer k) (pointer b o) = refl
later_held (content.Integer k) (home b) = refl
later_held (content.Integer k) absent = refl
later_held content.Pointer (whole l t) = refl
later_held content.Pointer (any_integer t) = refl
later_held content.Pointer (pointer b o) = refl
later_held content.Pointer (home b) = refl
later_held content.Pointer absent = refl
later_held (content.Struct n) (whole l t) = refl
later_held (content.Struct n) (any_integer t) = refl
later_held (content.Struct n) (pointer b o) = refl
later_held (content.Struct n) (home b) = refl
later_held (content.Struct n) absent = refl

later_read : (c : Content) (s : Seen) (t : Terms) → read c (later_seen s) (later_terms t) ≡ later_terms (read c s t)
later_read (content.Integer k) s (integer l t) = refl
later_read (content.Integer k) s (truth f) = refl
later_read (content.Integer k) s (address b o) = later_one later_tree (λ m. integer (Some k) (load m b o)) (λ m. integer (Some k) (load m (later_tree b) (later_tree o))) (λ m. refl) (s.numbers k)
later_read (content.Integer k) s (variable x) = later_held (content.Integer k) (s.variable x)
later_read (content.Integer k) s (elements b o n low high) = refl
later_read (content.Integer k) s (region ks b low high) = refl
later_read (content.Integer k) s nothing = refl
later_read content.Pointer s (integer l t) = refl
later_read content.Pointer s (truth f) = refl
later_read content.Pointer s (address b o) =
    later_one later_pointer (λ p. address (load p.block b o) (load p.offset b o)) (λ p. address (load p.block (later_tree b) (later_tree o)) (load p.offset (later_tree b) (later_tree o)))
    (λ p. refl) s.pointers
later_read content.Pointer s (variable x) = later_held content.Pointer (s.variable x)
later_read content.Pointer s (elements b o n low high) = refl
later_read content.Pointer s (region ks b low high) = refl
later_read content.Pointer s nothing = refl
later_read (content.Struct n) s (integer l t) = refl
later_read (content.Struct n) s (truth f) = refl
later_read (content.Struct n) s (address b o) = refl
later_read (content.Struct n) s (variable x) = refl
later_read (content.Struct n) s (elements b o k low high) = refl
later_read (content.Struct n) s (region ks b low high) = refl
later_read (content.Struct n) s nothing = refl

later_wrapped : (k : Kind) (t : Term) → wrapped k (later_tree t) ≡ later_tree (wrapped k t)
later_wrapped kind.Bool t = refl
later_wrapped kind.Char t = refl
later_wrapped kind.SChar t = refl
later_wrapped kind.UChar t = refl
later_wrapped kind.Short t = refl
later_wrapped kind.UShort t = refl
later_wrapped kind.Int t = refl
later_wrapped kind.UInt t = refl
later_wrapped kind.Long t = refl
later_wrapped kind.ULong t = refl
later_wrapped kind.LLong t = refl
later_wrapped kind.ULLong t = refl

later_converted : (m : Machdep) (k : Kind) (t : Terms) → converted m k (later_terms t) ≡ later_terms (converted m k t)
later_converted m k (integer (Some l) t) =
    ap (λ u. integer (Some k) (if holds_all m k l then later_tree t else u)) (later_wrapped k t) ∙ ap (integer (Some k)) (later_if (holds_all m k l) t (wrapped k t))
later_converted m k (integer None t) = ap (integer (Some k)) (later_wrapped k t)
later_converted m k (truth f) = ap (integer (Some k)) (later_wrapped k (ite f (num (pos 1)) (num (pos 0))))
later_converted m k (address b o) = refl
later_converted m k (variable x) = refl
later_converted m k (elements b o n low high) = refl
later_converted m k (region ks b low high) = refl
later_converted m k nothing = refl

later_either : (x y : Terms) (c : Term) → either (later_terms x) (later_terms y) (later_tree c) ≡ later_terms (either x y c)
later_either (truth f) (integer k t) c = refl
later_either (truth f) (truth g) c = refl
later_either (truth f) (address b o) c = refl
later_either (truth f) (variable x) c = refl
later_either (truth f) (elements b o n low high) c = refl
later_either (truth f) (region ks b low high) c = refl
later_either (truth f) nothing c = refl
later_either (integer k t) y c =
    ap (with_one (λ u. unbounded (ite (later_tree c) (later_tree t) u))) (later_integer y)
    ∙ later_one later_tree (λ u. unbounded (ite c t u)) (λ u. unbounded (ite (later_tree c) (later_tree t) u)) (λ u. refl) (as_integer y)
later_either (address b o) (integer k t) c = refl
later_either (address b o) (truth g) c = refl
later_either (address b o) (address d e) c = refl
later_either (address b o) (variable x) c = refl
later_either (address b o) (elements d e n low high) c = refl
later_either (address b o) (region ks d low high) c = refl
later_either (address b o) nothing c = refl
later_either (variable x) y c = refl
later_either (elements b o n low high) y c = refl
later_either (region ks b low high) y c = refl
later_either nothing y c = refl

later_reached : (n : ℕ) (p : Option Pointer) (i j : Option Term)
    → reached n (option_map later_pointer p) (option_map later_tree i) (option_map later_tree j) ≡ later_terms (reached n p i j)
later_reached n (Some p) i j =
    later_two later_tree later_tree (elements p.block p.offset n) (elements (later_tree p.block) (later_tree p.offset) n) (λ t u. refl) i j
later_reached n None i j = refl

later_variable : (x : Variable) (s : Slot) → encode.of_variable x (later_slot s) ≡ later_terms (encode.of_variable x s)
later_variable x (whole k t) = refl
later_variable x (any_integer t) = refl
later_variable x (pointer b o) = refl
later_variable x (home b) = refl
later_variable x absent = refl

later_label : (l : Option Label) (r : Reading) → seen_in l (later_reading r) ≡ later_seen (seen_in l r)
later_label None r = refl
later_label (Some label.Here) r = refl
later_label (Some label.Pre) r = refl
later_label (Some label.Post) r = refl
later_label (Some label.LoopEntry) r = refl

-- ---- heads over their operands

module _ (r : Reading) (xs : List Terms) where
  abbrev ys : List Terms
  ys = map later_terms xs

  all_reached : (n : ℕ) → reached n (as_pointer (first ys)) (as_integer (second ys)) (as_integer (third ys))
      ≡ later_terms (reached n (as_pointer (first xs)) (as_integer (second xs)) (as_integer (third xs)))
  all_reached n =
      (λ i. reached n (pointer_at xs 0 i) (int_at xs 1 i) (int_at xs 2 i))
      ∙ later_reached n (as_pointer (first xs)) (as_integer (second xs)) (as_integer (third xs))

  pub later_applied : (head : Head) → applied (later_reading r) head ys ≡ later_terms (applied r head xs)
  later_applied (h.Number z) = refl
  later_applied h.Null = refl
  later_applied (h.Name x) = refl
  later_applied (h.Call f) = refl
  later_applied h.Result = refl
  later_applied (h.At l) = refl
  later_applied (h.Variable x) = later_variable x (r.here.variable x)
  later_applied h.Pointed = later_at xs 0
  later_applied (h.Field k offset) =
      one_pointer xs (λ p. address p.block (further offset p.offset)) (λ p. address p.block (further offset p.offset)) (λ p. ap (address (later_tree p.block)) (later_further offset p.offset))
  later_applied (h.Element size count) = pointer_int xs (moved false size) (moved false size) (later_moved false size)
  later_applied (h.Elements size count) = all_reached size
  later_applied (h.Behind size) = all_reached size
  later_applied (h.Read c l) = ap₂ (read c) (later_label l r) (later_at xs 0) ∙ later_read c (seen_in l r) (first xs)
  later_applied h.Address = later_at xs 0
  later_applied (h.Moved minus size) = pointer_int xs (moved minus size) (moved minus size) (later_moved minus size)
  later_applied (h.Difference size) =
      two_pointers xs (λ p q. unbounded (difference size p q)) (λ p q. unbounded (difference size p q)) (λ p q. ap unbounded (later_difference size p q))
  later_applied h.Negate = one_int xs (λ t. unbounded (op_one op.Neg t)) (λ t. unbounded (op_one op.Neg t)) (λ t. refl)
  later_applied h.Complement = one_int xs (λ t. unbounded (op_one op.BitNot t)) (λ t. unbounded (op_one op.BitNot t)) (λ t. refl)
  later_applied (h.Arithmetic o) = two_ints xs (λ t u. unbounded (op_two (op_of o) t u)) (λ t u. unbounded (op_two (op_of o) t u)) (λ t u. refl)
  later_applied (h.Convert k) = ap (converted r.common.model k) (later_at xs 0) ∙ later_converted r.common.model k (first xs)
  later_applied (h.Compare c) = two_ints xs (λ t u. truth (comparison c t u)) (λ t u. truth (comparison c t u)) (λ t u. ap truth (later_comparison c t u))
  later_applied (h.ComparePointers c) =
      two_pointers xs (λ p q. truth (pointer_comparison c p q)) (λ p q. truth (pointer_comparison c p q)) (λ p q. ap truth (later_pointers c p q))
  later_applied h.Not = one_form xs (λ f. truth (not_of f)) (λ f. truth (not_of f)) (λ f. refl)
  later_applied h.And = two_forms xs (λ f g. truth (and_of (f ∷ g ∷ []))) (λ f g. truth (and_of (f ∷ g ∷ []))) (λ f g. refl)
  later_applied h.Or = two_forms xs (λ f g. truth (or_of (f ∷ g ∷ []))) (λ f g. truth (or_of (f ∷ g ∷ []))) (λ f g. refl)
  later_applied h.Xor = two_forms xs (λ f g. truth (not_of (iff_of f g))) (λ f g. truth (not_of (iff_of f g))) (λ f g. refl)
  later_applied h.Implies = two_forms xs (λ f g. truth (imp_of f g)) (λ f g. truth (imp_of f g)) (λ f g. refl)
  later_applied h.Iff = two_forms xs (λ f g. truth (iff_of f g)) (λ f g. truth (iff_of f g)) (λ f g. refl)
  later_applied h.Choose =
      (λ i. with_one (either (later_at xs 1 i) (later_at xs 2 i)) (form_at xs 0 i))
      ∙ later_one later_tree (either (second xs) (third xs)) (either (later_terms (second xs)) (later_terms (third xs))) (later_either (second xs) (third xs)) (as_formula (first xs))
  later_applied h.Chain = refl
  later_applied (h.Link c) = later_at xs 0
  later_applied (h.LinkPointers c) = later_at xs 0
  later_applied h.Let = refl
  later_applied (h.Every g) = refl
  later_applied (h.Some g) = refl
  later_applied (h.Valid c w) = refl
  later_applied h.Separated = refl
  later_applied (h.Region c) = refl
