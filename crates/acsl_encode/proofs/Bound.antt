-- Parameters that differ have the values that they are bound to.
use Rattle.std.proofs.Common.{◌≡◌, ℕ, Bool, true, false, not, ◌&&◌, ◌||◌, cond, List, [], ◌∷◌, ◌++◌, refl, sym, ap, ◌∙◌, ⊎_elim}
use Rattle.std.specs.Str.{bytes_eq}
use Rattle.std.specs.List.{list_any}
use Rattle.std.proofs.lemmas.Bool.{cases_Bool, and_parts, false≢true}
use Rattle.std.proofs.lemmas.Slice.Eq.{bytes_eq-Decides}
use Rattle.qed_terms.specs.declared.head.Sort.{Sort}
use Rattle.qed_terms.specs.declared.head.Sort.TheVariants as sort
use Rattle.qed_terms.specs.Meaning.{Value, Whole, Truth, Cells, Blocks, Values, value_of}
use Rattle.qed_terms.specs.Setting.{Param, has_sort, are_arguments, with_value, bound, same_param, all_differ}
use Rattle.acsl_encode.specs.Calls.{Given}

-- each parameter has the value at its place
abbrev pub AllBound : Values → List Param → Given → Type 0
AllBound env [] [] = Unit {0}
AllBound env [] (v ∷ vs) = ⊥
AllBound env (p ∷ ps) [] = ⊥
AllBound env (p ∷ ps) (v ∷ vs) = (value_of env p.name p.sort ≡ v) × AllBound env ps vs

itself : (x : List ℕ) → bytes_eq x x ≡ true
itself x = (bytes_eq-Decides x x).1 refl

other_way : (x y : List ℕ) → bytes_eq x y ≡ false → bytes_eq y x ≡ false
other_way x y h = ⊎_elim
    (λ yes. absurd (false≢true (sym h ∙ (bytes_eq-Decides x y).1 (sym ((bytes_eq-Decides y x).0 yes)))))
    (λ no. no)
    (cases_Bool (bytes_eq y x))

abbrev named : List ℕ → Sort → Param
named x s = record { name = x; sort = s }

here_bound : (env : Values) (x : List ℕ) (s : Sort) (v : Value) → has_sort s v ≡ true → value_of (with_value env (named x s) v) x s ≡ v
here_bound env x sort.Int (Whole z) h = ap (λ b. Whole (cond b z (env.ints x))) (itself x)
here_bound env x sort.Memory (Cells m) h = ap (λ b. Cells (cond b m (env.memories x))) (itself x)
here_bound env x sort.Table (Blocks t) h = ap (λ b. Blocks (cond b t (env.tables x))) (itself x)
here_bound env x sort.Int (Truth b) h = absurd (false≢true h)
here_bound env x sort.Int (Cells m) h = absurd (false≢true h)
here_bound env x sort.Int (Blocks t) h = absurd (false≢true h)
here_bound env x sort.Memory (Whole z) h = absurd (false≢true h)
here_bound env x sort.Memory (Truth b) h = absurd (false≢true h)
here_bound env x sort.Memory (Blocks t) h = absurd (false≢true h)
here_bound env x sort.Table (Whole z) h = absurd (false≢true h)
here_bound env x sort.Table (Truth b) h = absurd (false≢true h)
here_bound env x sort.Table (Cells m) h = absurd (false≢true h)

and_true_is : (b : Bool) → (b && true) ≡ false → b ≡ false
and_true_is true h = h
and_true_is false h = refl

-- another parameter stays args it was
there_bound : (env : Values) (x y : List ℕ) (s s' : Sort) (v : Value) → has_sort s v ≡ true → same_param (named x s) (named y s') ≡ false
    → value_of (with_value env (named x s) v) y s' ≡ value_of env y s'
there_bound env x y sort.Int sort.Int (Whole z) h d = ap (λ b. Whole (cond b z (env.ints y))) (other_way x y (and_true_is (bytes_eq x y) d))
there_bound env x y sort.Int sort.Memory (Whole z) h d = refl
there_bound env x y sort.Int sort.Table (Whole z) h d = refl
there_bound env x y sort.Memory sort.Int (Cells m) h d = refl
there_bound env x y sort.Memory sort.Memory (Cells m) h d = ap (λ b. Cells (cond b m (env.memories y))) (other_way x y (and_true_is (bytes_eq x y) d))
there_bound env x y sort.Memory sort.Table (Cells m) h d = refl
there_bound env x y sort.Table sort.Int (Blocks t) h d = refl
there_bound env x y sort.Table sort.Memory (Blocks t) h d = refl
there_bound env x y sort.Table sort.Table (Blocks t) h d = ap (λ b. Blocks (cond b t (env.tables y))) (other_way x y (and_true_is (bytes_eq x y) d))
there_bound env x y sort.Int s' (Truth b) h d = absurd (false≢true h)
there_bound env x y sort.Int s' (Cells m) h d = absurd (false≢true h)
there_bound env x y sort.Int s' (Blocks t) h d = absurd (false≢true h)
there_bound env x y sort.Memory s' (Whole z) h d = absurd (false≢true h)
there_bound env x y sort.Memory s' (Truth b) h d = absurd (false≢true h)
there_bound env x y sort.Memory s' (Blocks t) h d = absurd (false≢true h)
there_bound env x y sort.Table s' (Whole z) h d = absurd (false≢true h)
there_bound env x y sort.Table s' (Truth b) h d = absurd (false≢true h)
there_bound env x y sort.Table s' (Cells m) h d = absurd (false≢true h)

none_of : (a b : Bool) → (a || b) ≡ false → (a ≡ false) × (b ≡ false)
none_of true b h = absurd (false≢true (sym h))
none_of false b h = (refl, h)

is_not : (b : Bool) → not b ≡ true → b ≡ false
is_not true h = absurd (false≢true h)
is_not false h = refl

still_bound : (env : Values) (p : Param) (v : Value) (ps : List Param) (vs : Given) → has_sort p.sort v ≡ true → list_any (same_param p) ps ≡ false
    → AllBound env ps vs → AllBound (with_value env p v) ps vs
still_bound env p v [] [] h d k = tt
still_bound env p v [] (u ∷ us) h d k = k
still_bound env p v (r ∷ ps) [] h d k = k
still_bound env p v (r ∷ ps) (u ∷ us) h d k =
    let e = none_of (same_param p r) (list_any (same_param p) ps) d in
    (there_bound env p.name r.name p.sort r.sort v h e.0 ∙ k.0, still_bound env p v ps us h e.1 k.1)

pub all_bound : (ps : List Param) (vs : Given) → all_differ same_param ps ≡ true → are_arguments ps vs ≡ true → AllBound (bound ps vs) ps vs
all_bound [] [] d a = tt
all_bound [] (v ∷ vs) d a = absurd (false≢true a)
all_bound (p ∷ ps) [] d a = absurd (false≢true a)
all_bound (p ∷ ps) (v ∷ vs) d a =
    let e = and_parts (not (list_any (same_param p) ps)) (all_differ same_param ps) d in
    let f = and_parts (has_sort p.sort v) (are_arguments ps vs) a in
    (here_bound (bound ps vs) p.name p.sort v f.0, still_bound (bound ps vs) p v ps vs f.0 (is_not (list_any (same_param p) ps) e.0) (all_bound ps vs e.1 f.1))

-- ---- one list behind another one

pub both_arguments : (ps qs : List Param) (args bs : Given) → are_arguments ps args ≡ true → are_arguments qs bs ≡ true → are_arguments (ps ++ qs)
    (args ++ bs) ≡ true
both_arguments [] qs [] bs h k = k
both_arguments [] qs (a ∷ args) bs h k = absurd (false≢true h)
both_arguments (p ∷ ps) qs [] bs h k = absurd (false≢true h)
both_arguments (p ∷ ps) qs (a ∷ args) bs h k =
    let e = and_parts (has_sort p.sort a) (are_arguments ps args) h in let rest = both_arguments ps qs args bs e.1 k in λ i. e.0 i && rest i

pub split_bound : (env : Values) (ps qs : List Param) (args bs : Given) → are_arguments ps args ≡ true → AllBound env (ps ++ qs) (args ++ bs)
    → AllBound env ps args × AllBound env qs bs
split_bound env [] qs [] bs h k = (tt, k)
split_bound env [] qs (a ∷ args) bs h k = absurd (false≢true h)
split_bound env (p ∷ ps) qs [] bs h k = absurd (false≢true h)
split_bound env (p ∷ ps) qs (a ∷ args) bs h k =
    let rest = split_bound env ps qs args bs (and_parts (has_sort p.sort a) (are_arguments ps args) h).1 k.1 in ((k.0, rest.0), rest.1)
