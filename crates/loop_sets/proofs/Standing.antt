-- Statements one behind another, and what is in scope in a block.
use Rattle.std.proofs.Common.{◌≡◌, ℕ, ◌+◌, ◌<◌, ◌≤◌, ◌==◌, Bool, true, false, not, ◌&&◌, ◌||◌, List, [], ◌∷◌, ◌++◌, length, drop, get_or, refl, sym, ap, ◌∙◌, append_assoc, append-nil}
use Rattle.std.proofs.lemmas.List.{at_drop_more, at_drop_all}
use Rattle.program_trees.specs.declared.stmts.Stmt.{Stmt}
use Rattle.program_trees.specs.View.{view_stmt, view_stmts}
use Rattle.c_runs.specs.Program as run
use Rattle.plain_runs.specs.Fitting.{is_param, with_name, with_names}
use Rattle.plain_words.specs.Sets.{sets_stand, all_sets_stand}
use Rattle.loop_sets.specs.Scopes.{is_among, scope_of}

-- ---- blocks

among_behind : (ns : List ℕ) (y x : ℕ) → is_among (ns ++ y ∷ []) x ≡ (is_among ns x || ((y == x) || false))
among_behind [] y x = refl
among_behind (n ∷ ns) y x = by (n == x) (is_among ns x) ((y == x) || false) (is_among (ns ++ y ∷ []) x) (among_behind ns y x) where
  by : (a b c d : Bool) → d ≡ (b || c) → (a || d) ≡ ((a || b) || c)
  by true b c d h = refl
  by false b c d h = h

moved : (a b c : Bool) → ((a || (b || false)) || c) ≡ (b || (a || c))
moved true true c = refl
moved true false c = refl
moved false true c = refl
moved false false c = refl

one_name : (ns : List ℕ) (p y : ℕ) → scope_of (ns ++ y ∷ []) p ≡ with_name y (scope_of ns p)
one_name ns p y = λ i x. (ap (λ b. b || is_param p x) (among_behind ns y x) ∙ moved (is_among ns x) (y == x) (is_param p x)) i

all_names : (ns : List ℕ) (p : ℕ) (ys : List ℕ) → scope_of (ns ++ ys) p ≡ with_names ys (scope_of ns p)
all_names ns p [] = ap (λ ms. scope_of ms p) (append-nil ns)
all_names ns p (y ∷ ys) =
    ap (λ ms. scope_of ms p) (sym (append_assoc ns (y ∷ []) ys)) ∙ all_names (ns ++ y ∷ []) p ys ∙ ap (with_names ys) (one_name ns p y)

pub block_stands : (ns ys ms : List ℕ) (p : ℕ) (ss : run.Stmts) (b : Bool) → ms ≡ ns ++ ys → b ≡ all_sets_stand (scope_of ms p) ss → b ≡ all_sets_stand (with_names ys (scope_of ns p)) ss
block_stands ns ys ms p ss b is h = h ∙ ap (λ l. all_sets_stand (scope_of l p) ss) is ∙ ap (λ f. all_sets_stand f ss) (all_names ns p ys)

-- ---- two parts

pub both_stand : (a b x y r : Bool) → a ≡ x → b ≡ y → r ≡ (a && b) → r ≡ (x && y)
both_stand a b x y r h k e = e ∙ ap (λ u. u && b) h ∙ ap (λ u. x && u) k

pub ruleset part_laws = (block_stands, both_stand)

-- ---- in turn

passed : (b c all : Bool) → not b ≡ false → (b && c) ≡ all → c ≡ all
passed true c all h k = k
passed false c all h k = absurd cc

failed : (b c all : Bool) → not b ≡ true → (b && c) ≡ all → false ≡ all
failed true c all h k = absurd cc
failed false c all h k = k

pub stmts_turn : (ns : List ℕ) (p : ℕ) (xs : List Stmt) (i : ℕ) (x : Stmt) (b all : Bool) → i < length xs → x ≡ get_or xs i x → b ≡ sets_stand (scope_of ns p) (view_stmt x) → not b ≡ false
    → all_sets_stand (scope_of ns p) (view_stmts (drop i xs)) ≡ all → all_sets_stand (scope_of ns p) (view_stmts (drop (i + 1) xs)) ≡ all
stmts_turn ns p xs i x b all in_list is so fits so_far =
    let rest = all_sets_stand (scope_of ns p) (view_stmts (drop (i + 1) xs)) in
    passed b rest all fits (ap (λ u. u && rest) (so ∙ ap (λ z. sets_stand (scope_of ns p) (view_stmt z)) is) ∙ sym (at_drop_more (λ zs. all_sets_stand (scope_of ns p) (view_stmts zs)) xs i x in_list) ∙ so_far)

pub stmts_fault : (ns : List ℕ) (p : ℕ) (xs : List Stmt) (i : ℕ) (x : Stmt) (b all : Bool) → i < length xs → x ≡ get_or xs i x → b ≡ sets_stand (scope_of ns p) (view_stmt x) → not b ≡ true
    → all_sets_stand (scope_of ns p) (view_stmts (drop i xs)) ≡ all → false ≡ all
stmts_fault ns p xs i x b all in_list is so fails so_far =
    let rest = all_sets_stand (scope_of ns p) (view_stmts (drop (i + 1) xs)) in
    failed b rest all fails (ap (λ u. u && rest) (so ∙ ap (λ z. sets_stand (scope_of ns p) (view_stmt z)) is) ∙ sym (at_drop_more (λ zs. all_sets_stand (scope_of ns p) (view_stmts zs)) xs i x in_list) ∙ so_far)

pub stmts_done : (ns : List ℕ) (p : ℕ) (xs : List Stmt) (i : ℕ) (all : Bool) → length xs ≤ i → all_sets_stand (scope_of ns p) (view_stmts (drop i xs)) ≡ all → true ≡ all
stmts_done ns p xs i all past so_far = sym (at_drop_all (λ zs. all_sets_stand (scope_of ns p) (view_stmts zs)) xs i past) ∙ so_far

pub ruleset stmts_laws = (stmts_turn, stmts_fault, stmts_done)

-- ---- a body, around which nothing is declared but the parameters

pub whole_body : (ns : List ℕ) (p : ℕ) (ss : run.Stmts) (b : Bool) → ns ≡ [] → b ≡ all_sets_stand (scope_of ns p) ss → b ≡ all_sets_stand (is_param p) ss
whole_body ns p ss b none h = h ∙ ap (λ ms. all_sets_stand (scope_of ms p) ss) none
