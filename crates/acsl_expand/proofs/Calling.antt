-- Calls as the code has them.
use Rattle.std.proofs.Common.{◌≡◌, ℕ, zero, suc, ◌+◌, ◌<◌, ◌≤◌, ◌==◌, true, false, if◌then◌else◌, List, [], ◌∷◌, take, length, eqb, get_or, ap, sym, refl, ◌∙◌, ⊎_elim, arith}
use Rattle.std.specs.Prelude.{pos}
use Rattle.std.proofs.lemmas.Bool.{cases_Bool}
use Rattle.std.proofs.lemmas.Bool.Decides.{Decides-eqb}
use Rattle.std.proofs.lemmas.List.{length-take-le}
use Rattle.acsl_trees.specs.declared.heads.Head.TheVariants as hd
use Rattle.acsl_trees.specs.declared.tree.Tree.{Tree as Code, roll-Tree, size-Tree}
use Rattle.acsl_trees.specs.Tree.{Tree, leaf, view_tree, view_trees}
use Rattle.acsl_trees.proofs.Equations.{view_made}
use Rattle.acsl_expand.specs.declared.expansion.Meant.{Meant}
use Rattle.acsl_expand.specs.Expansion.{Definition, definition_at, nought, view_meant, view_all, expand, call_tree, call_trees, calls_in, expanded_body}
use Rattle.acsl_expand.proofs.Numbers.{below, unlike}

-- ---- definitions before a number are those of the whole list

before_at : (ds : List Definition) (f n : ℕ) → n < f → definition_at (take f ds) n ≡ definition_at ds n
before_at [] zero n lt = refl
before_at [] (suc f) n lt = refl
before_at (x ∷ ds) zero n lt = absurd (omega (arith, lt))
before_at (x ∷ ds) (suc f) zero lt = refl
before_at (x ∷ ds) (suc f) (suc n) lt = before_at ds f n (omega (arith, lt))

before_trees : (ds : List Definition) (f n : ℕ) → n ≤ f → call_trees (take f ds) n ≡ call_trees ds n
unfolding call_trees
before_trees ds f zero le = refl
before_trees ds f (suc n) le =
    let p = before_at ds f n (omega (arith, le)) in
    let q = before_trees ds f n (omega (arith, le)) in λ i g d args. if g == n then call_tree (q i) n (p i) d args else q i g d args

take_all : (xs : List Meant) (f : ℕ) → view_all (take f xs) ≡ take f (view_all xs)
take_all xs zero = refl
take_all [] (suc f) = refl
take_all (x ∷ xs) (suc f) = ap (λ ys. view_meant x ∷ ys) (take_all xs f)

first_calls : (xs before : List Meant) (f : ℕ) → f ≤ length xs → before ≡ take f xs → calls_in before ≡ call_trees (view_all xs) f
first_calls xs before f le first =
    let long : length before ≡ f = ap length first ∙ length-take-le f xs le in
    (λ i. call_trees (view_all (first i)) (long i)) ∙ ap (λ ds. call_trees ds f) (take_all xs f)
    ∙ before_trees (view_all xs) f f (omega arith)

-- ---- a call

call_at : (ds : List Definition) (n f d : ℕ) (args : List Tree) → f < n
    → call_trees ds n f d args ≡ call_tree (call_trees ds f) f (definition_at ds f) d args
unfolding call_trees
call_at ds zero f d args lt = absurd (omega (arith, lt))
call_at ds (suc n) f d args lt =
    ⊎_elim
    (λ t. let e : f ≡ n = (Decides-eqb f n).0 t in rw t (ap (λ n. call_tree (call_trees ds n) n (definition_at ds n) d args) (sym e)))
    (λ x. rw x (call_at ds n f d args (below f n lt x)))
    (cases_Bool (eqb f n))

call_past : (ds : List Definition) (n f d : ℕ) (args : List Tree) → n ≤ f → call_trees ds n f d args ≡ nought
unfolding call_trees
call_past ds zero f d args le = refl
call_past ds (suc n) f d args le =
    let x = unlike f n (λ e. omega (arith, e, le)) in rw x (call_past ds n f d args (omega (arith, le)))

meant_at : (xs : List Meant) (f : ℕ) (x : Meant) → f < length xs → x ≡ get_or xs f x → definition_at (view_all xs) f ≡ view_meant x
meant_at [] f x lt is = absurd (omega (arith, lt))
meant_at (y ∷ xs) zero x lt is = ap view_meant (sym is)
meant_at (y ∷ xs) (suc f) x lt is = meant_at xs f x (omega (arith, lt)) is

meant_call : (xs : List Meant) (f d : ℕ) (args : List Tree) (x : Meant) → f < length xs → x ≡ get_or xs f x
    → calls_in xs f d args ≡ call_tree (call_trees (view_all xs) f) f (view_meant x) d args
meant_call xs f d args x lt is =
    call_at (view_all xs) (length xs) f d args lt ∙ ap (λ y. call_tree (call_trees (view_all xs) f) f y d args) (meant_at xs f x lt is)

pub past : (xs : List Meant) (f d : ℕ) (args : List Tree) (r : Code) → length xs ≤ f → view_tree r ≡ leaf (hd.Number (pos 0))
    → view_tree r ≡ calls_in xs f d args
past xs f d args r le made = made ∙ sym (call_past (view_all xs) (length xs) f d args le)

pub stays : (xs : List Meant) (f d : ℕ) (args : List Code) (x : Meant) → f < length xs → x ≡ get_or xs f x → x.is_recursive ≡ true
    → view_tree (roll-Tree (record { head = hd.Call f; kids = args })) ≡ calls_in xs f d (view_trees args)
stays xs f d args x lt is rec = view_made (hd.Call f) args ∙ sym (meant_call xs f d (view_trees args) x lt is ∙ rw rec refl)

pub opens : (xs before : List Meant) (f d : ℕ) (args : List Code) (x : Meant) (r : Code) → f < length xs → x ≡ get_or xs f x → x.is_recursive ≡ false
    → before ≡ take f xs → view_tree r ≡ expand (calls_in before) (view_trees args) d d (view_tree x.body)
    → view_tree r ≡ calls_in xs f d (view_trees args)
opens xs before f d args x r lt is rec first made =
    made ∙ ap (λ b. expand b (view_trees args) d d (view_tree x.body)) (first_calls xs before f (omega (arith, lt)) first)
    ∙ sym (meant_call xs f d (view_trees args) x lt is ∙ rw rec refl)

pub ruleset call_laws = (past, stays, opens)

-- the body of one, over those up to it
pub body_is : (xs upto : List Meant) (n params : ℕ) (x : Meant) (r : Code) → n < length xs → x ≡ get_or xs n x → upto ≡ take (n + 1) xs
    → view_tree r ≡ expand (calls_in upto) [] 0 params (view_tree x.body) → view_tree r ≡ expanded_body (view_all xs) n params
body_is xs upto n params x r lt is first made =
    let next : n + 1 ≡ suc n = omega arith in
    made ∙ ap (λ b. expand b [] 0 params (view_tree x.body)) (first_calls xs upto (suc n) (omega (arith, lt)) (first ∙ ap (λ k. take k xs) next))
    ∙ ap (λ y. expand (call_trees (view_all xs) (suc n)) [] 0 params y.body) (sym (meant_at xs n x lt is))

-- ---- the measure

-- how much there is to expand in definitions
abbrev pub weight : List Meant → ℕ
weight [] = 0
weight (x ∷ xs) = suc (size-Tree x.body) + weight xs

pub weighed : (xs : List Meant) (f : ℕ) (x : Meant) → f < length xs → x ≡ get_or xs f x → weight (take f xs) + size-Tree x.body < weight xs
weighed [] f x lt is = absurd (omega (arith, lt))
weighed (y ∷ xs) zero x lt is = let k = ap (λ x. size-Tree x.body) is in omega (arith, k)
weighed (y ∷ xs) (suc f) x lt is = let k = weighed xs f x (omega (arith, lt)) is in omega (arith, k)
