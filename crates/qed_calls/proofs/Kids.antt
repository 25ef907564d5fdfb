-- Arguments and parameters from a place on, and kids that are terms.
use Rattle.std.proofs.Common.{◌≡◌, ℕ, zero, suc, ◌+◌, ◌<◌, ◌≤◌, Bool, true, false, ◌&&◌, cond, ℤ, List, [], ◌∷◌, map, length, drop, get_or, drop_of_length-le, bytes_eq, refl, sym, ◌∙◌, ap, subst, arith}
use Rattle.std.specs.Prelude.{Option, Some, None, slice_get}
use Rattle.qed_terms.specs.declared.head.Sort.{Sort}
use Rattle.qed_terms.specs.declared.term.Term.{Term, Term-F, roll-Term, out-Term, roll-out-Term, fold-roll-Term}
use Rattle.qed_terms.specs.declared.term.Formula.{Formula}
use Rattle.qed_terms.specs.Setting.{Param, Logic, kids_match, sort_of}
use Rattle.qed_terms.specs.Tree.{Tree, Trees, stop, trees_of, head_of}
use Rattle.qed_terms.specs.View.{term_tree, term_layer, formula_tree, formula_layer}
use Rattle.qed_terms.specs.WellFormed.{same_sort}
use Rattle.qed_linear.proofs.Places.{one_off}
use Rattle.qed_numbers.specs.Numbers.{number_at}
use Rattle.qed_calls.specs.Calls.{is_term, are_terms, argument_for, kid_number, is_at_most, fits_call, base_at, base_of}
use Rattle.qed_calls.specs.View.{param, params}

-- ---- terms

term_here : (y : Term-F Formula Term) → is_term (head_of (term_tree (roll-Term y))) ≡ true
unfolding term_tree formula_tree
term_here (Term-F.Num z) = ap (λ t. is_term (head_of t)) (fold-roll-Term Tree Tree formula_layer term_layer (Term-F.Num z))
term_here (Term-F.Var x s) = ap (λ t. is_term (head_of t)) (fold-roll-Term Tree Tree formula_layer term_layer (Term-F.Var x s))
term_here (Term-F.Op o ts) = ap (λ t. is_term (head_of t)) (fold-roll-Term Tree Tree formula_layer term_layer (Term-F.Op o ts))
term_here (Term-F.Ite f t u) = ap (λ t. is_term (head_of t)) (fold-roll-Term Tree Tree formula_layer term_layer (Term-F.Ite f t u))
term_here (Term-F.App f ts) = ap (λ t. is_term (head_of t)) (fold-roll-Term Tree Tree formula_layer term_layer (Term-F.App f ts))

term_is : (t : Term) → is_term (head_of (term_tree t)) ≡ true
term_is t = let P : Term → Type 0 = λ u. is_term (head_of (term_tree u)) ≡ true in subst P (roll-out-Term t) (term_here (out-Term t))

pub terms_are : (ts : List Term) → are_terms (trees_of (map term_tree ts)) ≡ true
terms_are [] = refl
terms_are (t ∷ ts) = let a = term_is t in let b = terms_are ts in λ i. a i && b i

and_unit : (b : Bool) → b && true ≡ b
and_unit true = refl
and_unit false = refl

-- a test beside the one that kids are terms
pub all_terms : (b : Bool) (ts : List Term) → b ≡ b && are_terms (trees_of (map term_tree ts))
all_terms b ts = sym (ap (λ c. b && c) (terms_are ts) ∙ and_unit b)

-- ---- the kid at a place

number_there : (ts : List Term) (n : ℕ) (t : Term) → Some t ≡ slice_get ts n → kid_number (trees_of (map term_tree ts)) n ≡ number_at (term_tree t)
number_there [] n t k = absurd cc
number_there (u ∷ ts) zero t k = let same : u ≡ t = cc in ap (λ v. number_at (term_tree v)) same
number_there (u ∷ ts) (suc n) t k = number_there ts n t k

number_nowhere : (ts : List Term) (n : ℕ) → None ≡ slice_get ts n → kid_number (trees_of (map term_tree ts)) n ≡ None
number_nowhere [] n k = refl
number_nowhere (u ∷ ts) zero k = absurd cc
number_nowhere (u ∷ ts) (suc n) k = number_nowhere ts n k

pub at_most_there : (ts : List Term) (n : ℕ) (t : Term) (cut : ℤ) (b : Bool) → Some t ≡ slice_get ts n → b ≡ is_at_most cut (number_at (term_tree t)) → b ≡ is_at_most cut (kid_number (trees_of (map term_tree ts)) n)
at_most_there ts n t cut b k e = e ∙ ap (is_at_most cut) (sym (number_there ts n t k))

pub at_most_nowhere : (ts : List Term) (n : ℕ) (cut : ℤ) → None ≡ slice_get ts n → false ≡ is_at_most cut (kid_number (trees_of (map term_tree ts)) n)
at_most_nowhere ts n cut k = ap (is_at_most cut) (sym (number_nowhere ts n k))

pub ruleset number_laws = (at_most_there, at_most_nowhere)

-- ---- parameters and arguments, from a place on

abbrev pub ArgumentFrom : List Term → List Term → List ℕ → Sort → ℕ → Option Tree
ArgumentFrom ns ks x s i = argument_for (params (drop i ns)) (trees_of (map term_tree (drop i ks))) x s

pub argument_here : (ns ks : List Term) (x : List ℕ) (s : Sort) (i : ℕ) (n k : Term) (b : Bool) → i < length ns → i < length ks → n ≡ get_or ns i n → k ≡ get_or ks i k
    → b ≡ bytes_eq x (param n).name && same_sort s (param n).sort → ArgumentFrom ns ks x s i ≡ cond b (Some (term_tree k)) (ArgumentFrom ns ks x s (i + 1))
argument_here ns ks x s i n k b l m p q e =
    let a = one_off ns i n l p in
    let c = one_off ks i k m q in
    (λ j. argument_for (params (a j)) (trees_of (map term_tree (c j))) x s) ∙ ap (λ d. cond d (Some (term_tree k)) (ArgumentFrom ns ks x s (i + 1))) (sym e)

same_default : {X : Type 0} (xs : List X) (i : ℕ) (a b : X) → i < length xs → get_or xs i a ≡ get_or xs i b
same_default [] i a b l = absurd (omega (arith, l))
same_default (x ∷ xs) zero a b l = refl
same_default (x ∷ xs) (suc i) a b l = same_default xs i a b (omega (arith, l))

-- the first of them isn't it
pub argument_next : (ns ks : List Term) (x : List ℕ) (s : Sort) (i : ℕ) (n : Term) (b : Bool) (whole : Option Tree) → i < length ns → i < length ks → n ≡ get_or ns i n
    → b ≡ bytes_eq x (param n).name && same_sort s (param n).sort → b ≡ false → whole ≡ ArgumentFrom ns ks x s i → whole ≡ ArgumentFrom ns ks x s (i + 1)
argument_next ns ks x s i n b whole l m p e differs k =
    let u = get_or ks i n in
    k ∙ argument_here ns ks x s i n u b l m p (same_default ks i n u m) e ∙ ap (λ c. cond c (Some (term_tree u)) (ArgumentFrom ns ks x s (i + 1))) differs

pub argument_none : (ns ks : List Term) (x : List ℕ) (s : Sort) (i : ℕ) → length ks ≤ i → ArgumentFrom ns ks x s i ≡ None
argument_none ns ks x s i l = ap (λ zs. argument_for (params (drop i ns)) (trees_of (map term_tree zs)) x s) (drop_of_length-le ks l) ∙ go (params (drop i ns))
  where
    go : (ps : List Param) → argument_for ps stop x s ≡ None
    go [] = refl
    go (p ∷ ps) = refl

pub argument_past : (ns ks : List Term) (x : List ℕ) (s : Sort) (i : ℕ) → length ns ≤ i → ArgumentFrom ns ks x s i ≡ None
argument_past ns ks x s i l = ap (λ zs. argument_for (params zs) (trees_of (map term_tree (drop i ks))) x s) (drop_of_length-le ns l)

pub ruleset argument_laws = (argument_here, argument_next, argument_none, argument_past)

abbrev pub MatchFrom : List Term → List Term → ℕ → Bool
MatchFrom ns ks i = kids_match (params (drop i ns)) (trees_of (map term_tree (drop i ks)))

pub match_here : (ns ks : List Term) (i : ℕ) (n k : Term) (b : Bool) → i < length ns → i < length ks → n ≡ get_or ns i n → k ≡ get_or ks i k
    → b ≡ same_sort (param n).sort (sort_of (term_tree k)) → MatchFrom ns ks i ≡ b && MatchFrom ns ks (i + 1)
match_here ns ks i n k b l m p q e =
    let a = one_off ns i n l p in
    let c = one_off ks i k m q in
    (λ j. kids_match (params (a j)) (trees_of (map term_tree (c j)))) ∙ ap (λ d. d && MatchFrom ns ks (i + 1)) (sym e)

pub match_few : (ns ks : List Term) (i : ℕ) → i < length ns → length ks ≤ i → MatchFrom ns ks i ≡ false
match_few ns ks i l m = ap (λ zs. kids_match (params (drop i ns)) (trees_of (map term_tree zs))) (drop_of_length-le ks m) ∙ go ns i l
  where
    go : (ns : List Term) (i : ℕ) → i < length ns → kids_match (params (drop i ns)) stop ≡ false
    go [] i l = absurd (omega (arith, l))
    go (n ∷ ns) zero l = refl
    go (n ∷ ns) (suc i) l = go ns i (omega (arith, l))

pub match_end : (ns ks : List Term) (i : ℕ) → length ns ≤ i → length ks ≤ i → MatchFrom ns ks i ≡ true
match_end ns ks i l m = let a = drop_of_length-le ns l in let b = drop_of_length-le ks m in λ j. kids_match (params (a j)) (trees_of (map term_tree (b j)))

pub match_many : (ns ks : List Term) (i : ℕ) → length ns ≤ i → i < length ks → MatchFrom ns ks i ≡ false
match_many ns ks i l m = ap (λ zs. kids_match (params zs) (trees_of (map term_tree (drop i ks)))) (drop_of_length-le ns l) ∙ go ks i m
  where
    go : (ks : List Term) (i : ℕ) → i < length ks → kids_match [] (trees_of (map term_tree (drop i ks))) ≡ false
    go [] i m = absurd (omega (arith, m))
    go (k ∷ ks) zero m = refl
    go (k ∷ ks) (suc i) m = go ks i (omega (arith, m))

pub ruleset match_laws = (match_here, match_few, match_end, match_many)

-- ---- functions, from a place on

pub base_here : {X : Type 0} (view : X → Logic) (fs : List X) (x : List ℕ) (ts : Trees) (i : ℕ) (f : X) (b : Bool) → i < length fs → f ≡ get_or fs i f → b ≡ fits_call x ts (view f)
    → base_of (map view (drop i fs)) x ts ≡ cond b (base_at (view f) ts) (base_of (map view (drop (i + 1) fs)) x ts)
base_here view fs x ts i f b l p e =
    ap (λ gs. base_of (map view gs) x ts) (one_off fs i f l p) ∙ ap (λ c. cond c (base_at (view f) ts) (base_of (map view (drop (i + 1) fs)) x ts)) (sym e)

pub base_none : {X : Type 0} (view : X → Logic) (fs : List X) (x : List ℕ) (ts : Trees) (i : ℕ) → length fs ≤ i → base_of (map view (drop i fs)) x ts ≡ None
base_none view fs x ts i l = ap (λ gs. base_of (map view gs) x ts) (drop_of_length-le fs l)

pub ruleset base_laws = (base_here, base_none)
