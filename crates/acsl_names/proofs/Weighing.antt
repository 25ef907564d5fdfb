-- Arguments of calls, one after another.
use Rattle.std.proofs.Common.{◌≡◌, ℕ, suc, ◌+◌, ◌<◌, ◌≤◌, List, [], ◌∷◌, length, drop, get_or, refl, sym, ap, ◌∙◌}
use Rattle.std.proofs.lemmas.List.{at_drop_more, at_drop_all}
use Rattle.c_syntax.specs.declared.annot.Term.{Term}
use Rattle.c_syntax.specs.Term as t
use Rattle.c_syntax.specs.View.{view_term}
use Rattle.acsl_names.specs.declared.names.Bound.{Bound}
use Rattle.acsl_names.specs.declared.counting.Weight.{Weight}
use Rattle.acsl_names.specs.Names.{Around}
use Rattle.acsl_names.specs.Counting.{times}
use Rattle.acsl_names.specs.Weights.{args_of, count_of, with_term, with_each, with_all}

-- ---- all arguments

pub all_turn : (c : Around) (b : Bound) (n : ℕ) (args : List Term) (i : ℕ) (arg : Term) (w w' whole : Weight) → i < length args → arg ≡ get_or args i arg → w' ≡ with_term c b n (view_term arg) w
    → with_all c b n (args_of (drop i args)) w ≡ whole → with_all c b n (args_of (drop (i + 1) args)) w' ≡ whole
all_turn c b n args i arg w w' whole inside is made so_far =
    ap (with_all c b n (args_of (drop (i + 1) args))) made
    ∙ sym (at_drop_more (λ xs. with_all c b n (args_of xs) w) args i arg inside ∙ ap (λ x. with_all c b n (args_of (x ∷ drop (i + 1) args)) w) (sym is)) ∙ so_far

pub all_done : (c : Around) (b : Bound) (n : ℕ) (args : List Term) (i : ℕ) (w whole : Weight) → length args ≤ i → with_all c b n (args_of (drop i args)) w ≡ whole → w ≡ whole
all_done c b n args i w whole all so_far = sym (at_drop_all (λ xs. with_all c b n (args_of xs) w) args i all) ∙ so_far

pub ruleset all_laws = (all_turn, all_done)

-- ---- each as often as its parameter stands

no_argument : (c : Around) (b : Bound) (n : ℕ) (ks : List ℕ) (w : Weight) → with_each c b n ks t.stop w ≡ w
no_argument c b n [] w = refl
no_argument c b n (k ∷ ks) w = refl

no_parameter : (c : Around) (b : Bound) (n : ℕ) (args : t.Terms) (w : Weight) → with_each c b n [] args w ≡ w
no_parameter c b n t.stop w = refl
no_parameter c b n (t.more a rest) w = refl

pub each_turn : (c : Around) (b : Bound) (n : ℕ) (ks : List ℕ) (args : List Term) (i k m : ℕ) (arg : Term) (w w' whole : Weight) → i < length ks → i < length args → k ≡ get_or ks i k → arg ≡ get_or args i arg
    → m ≡ times n k → w' ≡ with_term c b m (view_term arg) w
    → with_each c b n (drop i ks) (args_of (drop i args)) w ≡ whole → with_each c b n (drop (i + 1) ks) (args_of (drop (i + 1) args)) w' ≡ whole
each_turn c b n ks args i k m arg w w' whole in_ks inside is_k is factor made so_far =
    ap (with_each c b n (drop (i + 1) ks) (args_of (drop (i + 1) args))) (made ∙ ap (λ l. with_term c b l (view_term arg) w) factor)
    ∙ sym (at_drop_more (λ ls. with_each c b n ls (args_of (drop i args)) w) ks i k in_ks ∙ ap (λ l. with_each c b n (l ∷ drop (i + 1) ks) (args_of (drop i args)) w) (sym is_k)
    ∙ at_drop_more (λ xs. with_each c b n (k ∷ drop (i + 1) ks) (args_of xs) w) args i arg inside
    ∙ ap (λ x. with_each c b n (k ∷ drop (i + 1) ks) (args_of (x ∷ drop (i + 1) args)) w) (sym is))
    ∙ so_far

pub each_done : (c : Around) (b : Bound) (n : ℕ) (ks : List ℕ) (args : List Term) (i : ℕ) (w whole : Weight) → length args ≤ i
    → with_each c b n (drop i ks) (args_of (drop i args)) w ≡ whole → w ≡ whole
each_done c b n ks args i w whole all so_far =
    sym (no_argument c b n (drop i ks) w) ∙ sym (at_drop_all (λ xs. with_each c b n (drop i ks) (args_of xs) w) args i all) ∙ so_far

pub each_short : (c : Around) (b : Bound) (n : ℕ) (ks : List ℕ) (args : List Term) (i : ℕ) (w whole : Weight) → length ks ≤ i
    → with_each c b n (drop i ks) (args_of (drop i args)) w ≡ whole → w ≡ whole
each_short c b n ks args i w whole all so_far =
    sym (no_parameter c b n (args_of (drop i args)) w) ∙ sym (at_drop_all (λ ls. with_each c b n ls (args_of (drop i args)) w) ks i all) ∙ so_far

pub ruleset each_laws = (each_turn, each_done, each_short)

-- ---- calls

pub count_is : (args : List Term) → count_of (args_of args) ≡ length args
count_is [] = refl
count_is (x ∷ xs) = ap suc (count_is xs)
