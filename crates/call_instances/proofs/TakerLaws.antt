-- Kids that fit parameters, from a place on, and the first function that takes them.
use Rattle.std.proofs.Common.{◌≡◌, ℕ, zero, suc, ◌+◌, ◌<◌, ◌≤◌, Bool, true, false, ◌&&◌, cond, List, [], ◌∷◌, map, length, drop, get_or, drop_of_length-le, refl, sym, ◌∙◌, ap, arith}
use Rattle.qed_terms.specs.declared.head.Head.TheVariants as h
use Rattle.qed_terms.specs.declared.term.Term.{Term}
use Rattle.qed_terms.specs.declared.setting.LogicFn.{LogicFn}
use Rattle.qed_terms.specs.Setting.{kids_match, sort_of}
use Rattle.qed_terms.specs.Tree.{Tree, node, Trees, stop, trees_of, head_of}
use Rattle.qed_terms.specs.View.{view_logic}
use Rattle.qed_terms.specs.WellFormed.{same_sort}
use Rattle.qed_linear.proofs.Places.{one_off}
use Rattle.qed_calls.specs.Calls.{is_term, are_terms, fits_call}
use Rattle.qed_calls.specs.View.{param, params}
use Rattle.instance_rows.specs.Calls.{argument_tree, cases_among, cases_at}

-- ---- parameters and kids

abbrev pub MatchFrom : {Id : Type 0} (tree : Id → Tree) → List Term → List Id → ℕ → Bool
MatchFrom tree ns ks i = kids_match (params (drop i ns)) (trees_of (map tree (drop i ks)))

pub match_here : {Id : Type 0} (tree : Id → Tree) (ns : List Term) (ks : List Id) (i : ℕ) (n : Term) (k : Id) (b : Bool) → i < length ns → i < length ks → n ≡ get_or ns i n → k ≡ get_or ks i k
    → b ≡ same_sort (param n).sort (sort_of (tree k)) → MatchFrom tree ns ks i ≡ b && MatchFrom tree ns ks (i + 1)
match_here tree ns ks i n k b l m p q e =
    let a = one_off ns i n l p in
    let c = one_off ks i k m q in
    (λ j. kids_match (params (a j)) (trees_of (map tree (c j)))) ∙ ap (λ d. d && MatchFrom tree ns ks (i + 1)) (sym e)

pub match_few : {Id : Type 0} (tree : Id → Tree) (ns : List Term) (ks : List Id) (i : ℕ) → i < length ns → length ks ≤ i → MatchFrom tree ns ks i ≡ false
match_few tree ns ks i l m = ap (λ zs. kids_match (params (drop i ns)) (trees_of (map tree zs))) (drop_of_length-le ks m) ∙ go ns i l
  where
    go : (ns : List Term) (i : ℕ) → i < length ns → kids_match (params (drop i ns)) stop ≡ false
    go [] i l = absurd (omega (arith, l))
    go (n ∷ ns) zero l = refl
    go (n ∷ ns) (suc i) l = go ns i (omega (arith, l))

pub match_end : {Id : Type 0} (tree : Id → Tree) (ns : List Term) (ks : List Id) (i : ℕ) → length ns ≤ i → length ks ≤ i → MatchFrom tree ns ks i ≡ true
match_end tree ns ks i l m = let a = drop_of_length-le ns l in let b = drop_of_length-le ks m in λ j. kids_match (params (a j)) (trees_of (map tree (b j)))

pub match_many : {Id : Type 0} (tree : Id → Tree) (ns : List Term) (ks : List Id) (i : ℕ) → length ns ≤ i → i < length ks → MatchFrom tree ns ks i ≡ false
match_many tree ns ks i l m = ap (λ zs. kids_match (params zs) (trees_of (map tree (drop i ks)))) (drop_of_length-le ns l) ∙ go ks i m
  where
    go : (ks : List _) (i : ℕ) → i < length ks → kids_match [] (trees_of (map tree (drop i ks))) ≡ false
    go [] i m = absurd (omega (arith, m))
    go (k ∷ ks) zero m = refl
    go (k ∷ ks) (suc i) m = go ks i (omega (arith, m))

pub ruleset match_laws = (match_here, match_few, match_end, match_many)

-- ---- kids that are terms

abbrev pub TermsFrom : {Id : Type 0} (tree : Id → Tree) → List Id → ℕ → Bool
TermsFrom tree ks i = are_terms (trees_of (map tree (drop i ks)))

pub term_here : {Id : Type 0} (tree : Id → Tree) (ks : List Id) (i : ℕ) (k : Id) (b : Bool) → i < length ks → k ≡ get_or ks i k → b ≡ is_term (head_of (tree k)) → TermsFrom tree ks i ≡ b && TermsFrom tree ks (i + 1)
term_here tree ks i k b l p e = ap (λ zs. are_terms (trees_of (map tree zs))) (one_off ks i k l p) ∙ ap (λ c. c && TermsFrom tree ks (i + 1)) (sym e)

pub term_end : {Id : Type 0} (tree : Id → Tree) (ks : List Id) (i : ℕ) → length ks ≤ i → TermsFrom tree ks i ≡ true
term_end tree ks i l = ap (λ zs. are_terms (trees_of (map tree zs))) (drop_of_length-le ks l)

pub ruleset term_laws = (term_here, term_end)

-- ---- functions, from a place on

abbrev pub CasesFrom : List LogicFn → List ℕ → Trees → ℕ → List Tree
CasesFrom fs x ts i = cases_among (map view_logic (drop i fs)) x ts

taker_here : (fs : List LogicFn) (x : List ℕ) (ts : Trees) (i : ℕ) (f : LogicFn) (b : Bool) → i < length fs → f ≡ get_or fs i f → b ≡ fits_call x ts (view_logic f)
    → CasesFrom fs x ts i ≡ cond b (cases_at (view_logic f) ts (node (h.App x) ts) (argument_tree ts f.number)) (CasesFrom fs x ts (i + 1))
taker_here fs x ts i f b l p e =
    ap (λ gs. cases_among (map view_logic gs) x ts) (one_off fs i f l p)
    ∙ ap (λ c. cond c (cases_at (view_logic f) ts (node (h.App x) ts) (argument_tree ts f.number)) (CasesFrom fs x ts (i + 1))) (sym e)

pub taker_found : (fs : List LogicFn) (x : List ℕ) (ts : Trees) (i : ℕ) (f : LogicFn) (b : Bool) (whole : List Tree) → i < length fs → f ≡ get_or fs i f → b ≡ fits_call x ts (view_logic f) → b ≡ true
    → whole ≡ CasesFrom fs x ts i → whole ≡ cases_at (view_logic f) ts (node (h.App x) ts) (argument_tree ts f.number)
taker_found fs x ts i f b whole l p e is k =
    k ∙ taker_here fs x ts i f b l p e ∙ ap (λ c. cond c (cases_at (view_logic f) ts (node (h.App x) ts) (argument_tree ts f.number)) (CasesFrom fs x ts (i + 1))) is

pub taker_next : (fs : List LogicFn) (x : List ℕ) (ts : Trees) (i : ℕ) (f : LogicFn) (b : Bool) (whole : List Tree) → i < length fs → f ≡ get_or fs i f → b ≡ fits_call x ts (view_logic f) → b ≡ false
    → whole ≡ CasesFrom fs x ts i → whole ≡ CasesFrom fs x ts (i + 1)
taker_next fs x ts i f b whole l p e differs k =
    k ∙ taker_here fs x ts i f b l p e ∙ ap (λ c. cond c (cases_at (view_logic f) ts (node (h.App x) ts) (argument_tree ts f.number)) (CasesFrom fs x ts (i + 1))) differs

pub no_taker : (fs : List LogicFn) (x : List ℕ) (ts : Trees) (i : ℕ) (whole : List Tree) → length fs ≤ i → whole ≡ CasesFrom fs x ts i → whole ≡ []
no_taker fs x ts i whole l k = k ∙ ap (λ gs. cases_among (map view_logic gs) x ts) (drop_of_length-le fs l)

pub ruleset taker_laws = (taker_found, taker_next, no_taker)
