-- What slots have where a function is entered, one by one.
use Rattle.std.proofs.Common.{◌≡◌, ◌<◌, ◌≤◌, ℕ, zero, suc, ◌+◌, ◌-◌, pos, List, [], ◌∷◌, ◌++◌, drop, length, get_or, refl, sym, ap, ◌∙◌, append_assoc, append-nil, arith}
use Rattle.std.proofs.lemmas.List.{at_drop_more, drop_all}
use Rattle.core_trees.specs.View.{view_variable, view_variables}
use Rattle.core_trees.specs.declared.variables.FunctionVariable.{FunctionVariable}
use Rattle.c_runs.specs.Program.{Variable}
use Rattle.qed_terms.specs.Tree.{Tree}
use Rattle.walk_steps.specs.Laws as walk
use Rattle.walk_steps.specs.Laws.{own, fixed, start_slots}
use Rattle.program_steps.specs.Starting.{file_origins, own_origins, zero_origins}
use Rattle.function_walks.specs.declared.origins.Origin.{Origin}
use Rattle.function_walks.specs.Entry.{view_origin, view_origins}

-- ---- one more, behind others

pub file_step : (done made all : List walk.Origin) (xs : List FunctionVariable) (i : ℕ) (x : FunctionVariable) → i < length xs → x ≡ get_or xs i x
    → done ++ file_origins (view_variables (drop i xs)) ≡ all → made ≡ done ++ own ∷ fixed (pos 1) ∷ [] → made ++ file_origins (view_variables (drop (i + 1) xs)) ≡ all
file_step done made all xs i x lt is h e =
    ap (λ ys. ys ++ file_origins (view_variables (drop (i + 1) xs))) e
    ∙ append_assoc done (own ∷ fixed (pos 1) ∷ []) (file_origins (view_variables (drop (i + 1) xs)))
    ∙ sym (at_drop_more (λ ys. done ++ file_origins (view_variables ys)) xs i x lt)
    ∙ h

own_suc : (n : ℕ) (v : Variable) (vs : List Variable) → 0 < n → own_origins n (v ∷ vs) ≡ own ∷ fixed (pos 1) ∷ own_origins (n - 1) vs
own_suc zero v vs lt = absurd (omega (arith, lt))
own_suc (suc n) v vs lt = let same : n ≡ suc n - 1 = omega arith in ap (λ k. own ∷ fixed (pos 1) ∷ own_origins k vs) same

pub param_step : (done made all : List walk.Origin) (n m : ℕ) (xs : List FunctionVariable) (i : ℕ) (x : FunctionVariable) → i < length xs → x ≡ get_or xs i x → 0 < n → m ≡ n - 1
    → done ++ own_origins n (view_variables (drop i xs)) ≡ all → made ≡ done ++ own ∷ fixed (pos 1) ∷ [] → made ++ own_origins m (view_variables (drop (i + 1) xs)) ≡ all
param_step done made all n m xs i x lt is some less h e =
    let rest = view_variables (drop (i + 1) xs) in
    ap (λ ys. ys ++ own_origins m rest) e
    ∙ append_assoc done (own ∷ fixed (pos 1) ∷ []) (own_origins m rest)
    ∙ ap (λ k. done ++ own ∷ fixed (pos 1) ∷ own_origins k rest) less
    ∙ ap (λ ys. done ++ ys) (sym (own_suc n (view_variable (get_or xs i x)) rest some))
    ∙ sym (at_drop_more (λ ys. done ++ own_origins n (view_variables ys)) xs i x lt)
    ∙ h

pub local_step : (done made all : List walk.Origin) (n : ℕ) (xs : List FunctionVariable) (i : ℕ) (x : FunctionVariable) → i < length xs → x ≡ get_or xs i x → n ≡ 0
    → done ++ own_origins n (view_variables (drop i xs)) ≡ all → made ≡ done ++ fixed (pos 0) ∷ fixed (pos 0) ∷ [] → made ++ own_origins n (view_variables (drop (i + 1) xs)) ≡ all
local_step done made all n xs i x lt is none h e =
    let rest = view_variables (drop (i + 1) xs) in
    ap (λ ys. ys ++ own_origins n rest) e
    ∙ append_assoc done (fixed (pos 0) ∷ fixed (pos 0) ∷ []) (own_origins n rest)
    ∙ ap (λ k. done ++ fixed (pos 0) ∷ fixed (pos 0) ∷ own_origins k rest) none
    ∙ ap (λ k. done ++ own_origins k (view_variable (get_or xs i x) ∷ rest)) (sym none)
    ∙ sym (at_drop_more (λ ys. done ++ own_origins n (view_variables ys)) xs i x lt)
    ∙ h

pub zero_step : (done made all : List walk.Origin) (n i : ℕ) → i < n → done ++ zero_origins (n - i) ≡ all → made ≡ done ++ fixed (pos 0) ∷ [] → made ++ zero_origins (n - (i + 1)) ≡ all
zero_step done made all n i lt h e =
    let less : n - i ≡ suc (n - (i + 1)) = omega (arith, lt) in
    ap (λ ys. ys ++ zero_origins (n - (i + 1))) e
    ∙ append_assoc done (fixed (pos 0) ∷ []) (zero_origins (n - (i + 1)))
    ∙ ap (λ k. done ++ zero_origins k) (sym less)
    ∙ h

-- ---- the terms in them

no_bases : (os : List walk.Origin) → start_slots [] os ≡ []
no_bases [] = refl
no_bases (o ∷ os) = refl

pub no_more : (bs : List (List ℕ)) (os : List Origin) (i : ℕ) (made all : List Tree) → length bs ≤ i → made ++ start_slots (drop i bs) (view_origins (drop i os)) ≡ all → made ≡ all
no_more bs os i made all over h =
    sym (append-nil made) ∙ ap (λ ts. made ++ ts) (sym (no_bases (view_origins (drop i os))))
    ∙ ap (λ xs. made ++ start_slots xs (view_origins (drop i os))) (sym (drop_all i bs over))
    ∙ h

pub all_done : (bs : List (List ℕ)) (os : List Origin) (i : ℕ) (made all : List Tree) → length os ≤ i → made ++ start_slots (drop i bs) (view_origins (drop i os)) ≡ all → made ≡ all
all_done bs os i made all over h = sym (append-nil made) ∙ ap (λ xs. made ++ start_slots (drop i bs) (view_origins xs)) (sym (drop_all i os over)) ∙ h

pub slot_step : (bs : List (List ℕ)) (os : List Origin) (i : ℕ) (b : List ℕ) (o : Origin) (t : Tree) (done made all : List Tree) → i < length bs → i < length os → b ≡ get_or bs i b → o ≡ get_or os i o
    → ((cs : List (List ℕ)) (ps : List walk.Origin) → t ∷ start_slots cs ps ≡ start_slots (b ∷ cs) (view_origin o ∷ ps))
    → done ++ start_slots (drop i bs) (view_origins (drop i os)) ≡ all → made ≡ done ++ t ∷ [] → made ++ start_slots (drop (i + 1) bs) (view_origins (drop (i + 1) os)) ≡ all
slot_step bs os i b o t done made all in_bs in_os is_b is_o one h e =
    let cs = drop (i + 1) bs in
    let ps = view_origins (drop (i + 1) os) in
    ap (λ ts. ts ++ start_slots cs ps) e
    ∙ append_assoc done (t ∷ []) (start_slots cs ps)
    ∙ ap (λ ts. done ++ ts) (one cs ps)
    ∙ (λ j. done ++ start_slots (is_b j ∷ cs) (view_origin (is_o j) ∷ ps))
    ∙ sym (at_drop_more (λ xs. done ++ start_slots xs (view_origin (get_or os i o) ∷ ps)) bs i b in_bs)
    ∙ sym (at_drop_more (λ xs. done ++ start_slots (drop i bs) (view_origins xs)) os i o in_os)
    ∙ h
