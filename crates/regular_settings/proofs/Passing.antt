-- What is so from a place on, in lists that are gone through.
use Rattle.std.proofs.Common.{◌≡◌, ℕ, zero, suc, ◌+◌, ◌<◌, ◌≤◌, Bool, true, false, not, ◌&&◌, ◌||◌, ℤ, List, [], ◌∷◌, ◌++◌, map, length, take, drop, get_or, drop_of_length-le, refl, sym, ap, ◌∙◌, arith}
use Rattle.std.specs.Prelude.{pos, negsuc}
use Rattle.std.specs.List.{list_all, list_any}
use Rattle.std.specs.Str.{bytes_eq}
use Rattle.qed_linear.proofs.Places.{one_off, take_one, map_append}
use Rattle.qed_terms.specs.declared.head.Head.TheVariants as h
use Rattle.qed_terms.specs.declared.head.Sort.TheVariants as sort
use Rattle.qed_terms.specs.declared.head.TermOp.{TermOp}
use Rattle.qed_terms.specs.declared.head.TermOp.TheVariants as op
use Rattle.qed_terms.specs.declared.setting.LogicFn.{LogicFn}
use Rattle.qed_terms.specs.declared.term.Term.{Term}
use Rattle.qed_terms.specs.Setting.{Param, all_differ, same_param, is_plain, are_plain, is_one_less, kid_at}
use Rattle.qed_terms.specs.Tree.{Tree, node, Trees, stop, more, trees_of}
use Rattle.qed_terms.specs.View.{term_tree, view_logic}
use Rattle.regular_settings.specs.Shapes.{is_shaped_after, are_shaped_after}
use Rattle.regular_settings.specs.View.{param, params, is_counter, is_number, is_pair, less_by, is_less_by}

-- ---- lists that are gone through with a test

module _ {X Y : Type 0} (p : Y → Bool) (view : X → Y) (xs : List X) (i : ℕ) where
  opened : (x : X) → i < length xs → x ≡ get_or xs i x → map view (drop i xs) ≡ view x ∷ map view (drop (i + 1) xs)
  opened x l e = ap (map view) (one_off xs i x l e)

  pub any_found : (whole : Bool) (x : X) → whole ≡ list_any p (map view (drop i xs)) → i < length xs → x ≡ get_or xs i x → true ≡ p (view x) → true ≡ whole
  any_found whole x k l e so =
      sym (k ∙ ap (list_any p) (opened x l e) ∙ ap (λ b. b || list_any p (map view (drop (i + 1) xs))) (sym so))

  pub any_next : (whole : Bool) (x : X) → whole ≡ list_any p (map view (drop i xs)) → i < length xs → x ≡ get_or xs i x → false ≡ p (view x)
      → whole ≡ list_any p (map view (drop (i + 1) xs))
  any_next whole x k l e so =
      k ∙ ap (list_any p) (opened x l e) ∙ ap (λ b. b || list_any p (map view (drop (i + 1) xs))) (sym so)

  pub any_end : (whole : Bool) → whole ≡ list_any p (map view (drop i xs)) → length xs ≤ i → false ≡ whole
  any_end whole k l = sym (k ∙ ap (λ ys. list_any p (map view ys)) (drop_of_length-le xs l))

  pub all_found : (whole : Bool) (x : X) → whole ≡ list_all p (map view (drop i xs)) → i < length xs → x ≡ get_or xs i x → false ≡ p (view x) → false ≡ whole
  all_found whole x k l e so =
      sym (k ∙ ap (list_all p) (opened x l e) ∙ ap (λ b. b && list_all p (map view (drop (i + 1) xs))) (sym so))

  pub all_next : (whole : Bool) (x : X) → whole ≡ list_all p (map view (drop i xs)) → i < length xs → x ≡ get_or xs i x → true ≡ p (view x)
      → whole ≡ list_all p (map view (drop (i + 1) xs))
  all_next whole x k l e so =
      k ∙ ap (list_all p) (opened x l e) ∙ ap (λ b. b && list_all p (map view (drop (i + 1) xs))) (sym so)

  pub all_end : (whole : Bool) → whole ≡ list_all p (map view (drop i xs)) → length xs ≤ i → true ≡ whole
  all_end whole k l = sym (k ∙ ap (λ ys. list_all p (map view ys)) (drop_of_length-le xs l))

-- ---- parameters that differ

abbrev pub DifferFrom : List Term → ℕ → Bool
DifferFrom ns i = all_differ same_param (params (drop i ns))

differ_opened : (ns : List Term) (i : ℕ) (n : Term) → i < length ns → n ≡ get_or ns i n
    → DifferFrom ns i ≡ not (list_any (same_param (param n)) (params (drop (i + 1) ns))) && DifferFrom ns (i + 1)
differ_opened ns i n l e = ap (λ ms. all_differ same_param (params ms)) (one_off ns i n l e)

pub differ_found : (ns : List Term) (i : ℕ) (n : Term) (whole : Bool) → whole ≡ DifferFrom ns i → i < length ns → n ≡ get_or ns i n
    → true ≡ list_any (same_param (param n)) (params (drop (i + 1) ns)) → false ≡ whole
differ_found ns i n whole k l e so = sym (k ∙ differ_opened ns i n l e ∙ ap (λ b. not b && DifferFrom ns (i + 1)) (sym so))

pub differ_next : (ns : List Term) (i : ℕ) (n : Term) (whole : Bool) → whole ≡ DifferFrom ns i → i < length ns → n ≡ get_or ns i n
    → false ≡ list_any (same_param (param n)) (params (drop (i + 1) ns)) → whole ≡ DifferFrom ns (i + 1)
differ_next ns i n whole k l e so = k ∙ differ_opened ns i n l e ∙ ap (λ b. not b && DifferFrom ns (i + 1)) (sym so)

pub differ_end : (ns : List Term) (i : ℕ) (whole : Bool) → whole ≡ DifferFrom ns i → length ns ≤ i → true ≡ whole
differ_end ns i whole k l = sym (k ∙ ap (λ ms. all_differ same_param (params ms)) (drop_of_length-le ns l))

-- ---- bodies, their kids from a place on

module _ {X : Type 0} (view : X → Tree) (ps : List Param) (may : List ℕ → Trees → Bool) (xs : List X) (i : ℕ) where
  abbrev pub PlainFrom : ℕ → Bool
  PlainFrom n = are_plain ps may (trees_of (map view (drop n xs)))

  plain_opened : (x : X) → i < length xs → x ≡ get_or xs i x → PlainFrom i ≡ is_plain ps may (view x) && PlainFrom (i + 1)
  plain_opened x l e = ap (λ ys. are_plain ps may (trees_of (map view ys))) (one_off xs i x l e)

  pub plain_found : (whole : Bool) (x : X) → whole ≡ PlainFrom i → i < length xs → x ≡ get_or xs i x → false ≡ is_plain ps may (view x) → false ≡ whole
  plain_found whole x k l e so = sym (k ∙ plain_opened x l e ∙ ap (λ b. b && PlainFrom (i + 1)) (sym so))

  pub plain_next : (whole : Bool) (x : X) → whole ≡ PlainFrom i → i < length xs → x ≡ get_or xs i x → true ≡ is_plain ps may (view x) → whole ≡ PlainFrom (i + 1)
  plain_next whole x k l e so = k ∙ plain_opened x l e ∙ ap (λ b. b && PlainFrom (i + 1)) (sym so)

  pub plain_end : (whole : Bool) → whole ≡ PlainFrom i → length xs ≤ i → true ≡ whole
  plain_end whole k l = sym (k ∙ ap (λ ys. are_plain ps may (trees_of (map view ys))) (drop_of_length-le xs l))

-- ---- functions, each after those before it

abbrev pub ShapedFrom : List LogicFn → ℕ → Bool
ShapedFrom fs i = are_shaped_after (map view_logic (take i fs)) (map view_logic (drop i fs))

shaped_opened : (fs : List LogicFn) (i : ℕ) (f : LogicFn) → i < length fs → f ≡ get_or fs i f
    → ShapedFrom fs i ≡ is_shaped_after (map view_logic (take i fs)) (view_logic f) && ShapedFrom fs (i + 1)
shaped_opened fs i f l e =
    let own = is_shaped_after (map view_logic (take i fs)) (view_logic f) in
    let front : map view_logic (take (i + 1) fs) ≡ map view_logic (take i fs) ++ view_logic f ∷ [] =
    ap (map view_logic) (take_one fs i f l e) ∙ map_append view_logic (take i fs) (f ∷ []) in
    ap (λ gs. are_shaped_after (map view_logic (take i fs)) (map view_logic gs)) (one_off fs i f l e)
    ∙ ap (λ before. own && are_shaped_after before (map view_logic (drop (i + 1) fs))) (sym front)

pub shaped_found : (fs : List LogicFn) (i : ℕ) (f : LogicFn) (whole : Bool) → whole ≡ ShapedFrom fs i → i < length fs → f ≡ get_or fs i f
    → false ≡ is_shaped_after (map view_logic (take i fs)) (view_logic f) → false ≡ whole
shaped_found fs i f whole k l e so = sym (k ∙ shaped_opened fs i f l e ∙ ap (λ b. b && ShapedFrom fs (i + 1)) (sym so))

pub shaped_next : (fs : List LogicFn) (i : ℕ) (f : LogicFn) (whole : Bool) → whole ≡ ShapedFrom fs i → i < length fs → f ≡ get_or fs i f
    → true ≡ is_shaped_after (map view_logic (take i fs)) (view_logic f) → whole ≡ ShapedFrom fs (i + 1)
shaped_next fs i f whole k l e so = k ∙ shaped_opened fs i f l e ∙ ap (λ b. b && ShapedFrom fs (i + 1)) (sym so)

pub shaped_end : (fs : List LogicFn) (i : ℕ) (whole : Bool) → whole ≡ ShapedFrom fs i → length fs ≤ i → true ≡ whole
shaped_end fs i whole k l = sym (k ∙ ap (λ gs. are_shaped_after (map view_logic (take i fs)) (map view_logic gs)) (drop_of_length-le fs l))

-- ---- the kid at a place

pub kid_there : (test : Tree → Bool) (ts : List Term) (n : ℕ) (t : Term) (b : Bool) → n < length ts → t ≡ get_or ts n t → b ≡ test (term_tree t) → b ≡ kid_at test (trees_of (map term_tree ts)) n
kid_there test [] n t b l k so = absurd (omega (arith, l))
kid_there test (u ∷ ts) zero t b l k so = so ∙ ap (λ v. test (term_tree v)) k
kid_there test (u ∷ ts) (suc n) t b l k so = kid_there test ts n t b (omega (arith, l)) k so

pub kid_nowhere : (test : Tree → Bool) (ts : List Term) (n : ℕ) → length ts ≤ n → false ≡ kid_at test (trees_of (map term_tree ts)) n
kid_nowhere test [] n k = refl
kid_nowhere test (u ∷ ts) zero k = absurd (omega (arith, k))
kid_nowhere test (u ∷ ts) (suc n) k = kid_nowhere test ts n (omega (arith, k))

pub no_pair : (ts : List Term) (n : List ℕ) (i : ℤ) → (length ts ≡ 2 → ⊥) → false ≡ is_pair n i (trees_of (map term_tree ts))
no_pair [] n i h = refl
no_pair (t ∷ []) n i h = refl
no_pair (t ∷ u ∷ []) n i h = absurd (h refl)
no_pair (t ∷ u ∷ v ∷ ts) n i h = refl

-- ---- one less

first_false : (b : Bool) → false ≡ b && false
first_false true = refl
first_false false = refl

sub_less : (n : List ℕ) (ts : Trees) → is_pair n (pos 1) ts ≡ is_one_less n (node (h.Term op.Sub) ts)
sub_less n stop = refl
sub_less n (more t stop) = by t
  where
    by : (t : Tree) → false ≡ is_one_less n (node (h.Term op.Sub) (more t stop))
    by (node (h.Var x sort.Int) stop) = refl
    by (node head ts) = refl
sub_less n (more t (more u (more v ts))) = by t u
  where
    by : (t u : Tree) → false ≡ is_one_less n (node (h.Term op.Sub) (more t (more u (more v ts))))
    by (node (h.Var x sort.Int) stop) (node (h.Num z) stop) = refl
    by (node (h.Var x sort.Int) stop) u = refl
    by t u = refl
sub_less n (more t (more u stop)) = by t u
  where
    by : (t u : Tree) → (is_counter n t && is_number (pos 1) u) ≡ is_one_less n (node (h.Term op.Sub) (more t (more u stop)))
    by (node (h.Var x sort.Int) stop) (node (h.Num z) stop) = refl
    by (node (h.Var x sort.Int) stop) (node head us) = sym (first_false (bytes_eq x n))
    by t u = refl

add_less : (n : List ℕ) (ts : Trees) → is_pair n (negsuc 0) ts ≡ is_one_less n (node (h.Term op.Add) ts)
add_less n stop = refl
add_less n (more t stop) = by t
  where
    by : (t : Tree) → false ≡ is_one_less n (node (h.Term op.Add) (more t stop))
    by (node (h.Var x sort.Int) stop) = refl
    by (node head ts) = refl
add_less n (more t (more u (more v ts))) = by t u
  where
    by : (t u : Tree) → false ≡ is_one_less n (node (h.Term op.Add) (more t (more u (more v ts))))
    by (node (h.Var x sort.Int) stop) (node (h.Num z) stop) = refl
    by (node (h.Var x sort.Int) stop) u = refl
    by t u = refl
add_less n (more t (more u stop)) = by t u
  where
    by : (t u : Tree) → (is_counter n t && is_number (negsuc 0) u) ≡ is_one_less n (node (h.Term op.Add) (more t (more u stop)))
    by (node (h.Var x sort.Int) stop) (node (h.Num z) stop) = refl
    by (node (h.Var x sort.Int) stop) (node head us) = sym (first_false (bytes_eq x n))
    by t u = refl

pub less_is : (n : List ℕ) (o : TermOp) (ts : Trees) → is_less_by n (less_by o) ts ≡ is_one_less n (node (h.Term o) ts)
less_is n op.Sub ts = sub_less n ts
less_is n op.Add ts = add_less n ts
less_is n o ts = refl

pub ruleset any_laws = (any_found, any_next, any_end)

pub ruleset all_laws = (all_found, all_next, all_end)

pub ruleset differ_laws = (differ_found, differ_next, differ_end)

pub ruleset plain_laws = (plain_found, plain_next, plain_end)

pub ruleset shaped_laws = (shaped_found, shaped_next, shaped_end)

pub ruleset kid_laws = (kid_there, kid_nowhere)
