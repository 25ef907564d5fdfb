-- What calls become means what the definitions do, those that call themselves among them.
use Rattle.std.proofs.Common.{◌≡◌, ℕ, zero, suc, ◌+◌, ◌<◌, Bool, true, false, ◌&&◌, not, if◌then◌else◌, List, [], ◌∷◌, length, nat_lt, eqb, get_or, refl, sym, ap, subst, ◌∙◌, ⊎_elim, arith}
use Rattle.std.specs.Prelude.{◌-◌, ◌-ℤ◌}
use Rattle.wp_base.specs.Blocks.{to_nat}
use Rattle.std.proofs.lemmas.Bool.{cases_Bool, false≢true, and_parts}
use Rattle.std.proofs.lemmas.Bool.Decides.{Decides-eqb}
use Rattle.acsl_trees.specs.declared.heads.Head.TheVariants as hd
use Rattle.acsl_trees.specs.Tree.{Tree, Trees, node, stop, more, trees_of, list_of}
use Rattle.c_runs.specs.TruthStates.{Value, World, number_of}
use Rattle.c_runs.specs.Truth.{last_of, Env, Calls, value, values, value_at, named, body_value, with_call, stepped, kid, spelled_number, test_number, steps_for, recursive_value, call_value, calls_first, head_of}
use Rattle.acsl_expand.specs.Expansion.{Definition, nought, definition_at, CallTrees, expand, expand_kids, call_tree, call_trees, expanded_body}
use Rattle.c_runs.specs.TruthLaws.{Signatures, is_well_formed, is_choice, is_comparison, is_number, tests_number, is_definition, are_definitions, Expands, SameMeaning}
use Rattle.acsl_expand.proofs.Numbers.{itself, earlier, below}
use Rattle.c_runs.proofs.Standing.{Keeps, Deep, deep_refl, Level, Fits as NamesFit, Around}
use Rattle.c_runs.proofs.Meaning.{Agree, same_value}

-- ---- the number that a body is tested for

same_list : (ts : List Tree) → list_of (trees_of ts) ≡ ts
same_list [] = refl
same_list (t ∷ ts) = ap (λ ts. t ∷ ts) (same_list ts)

module _ (b : CallTrees) (args : List Tree) (base d : ℕ) where
  kid_expanded : (ks : Trees) (i : ℕ) → get_or (expand_kids b args base d false ks) i nought ≡ expand b args base d (get_or (list_of ks) i nought)
  kid_expanded stop i = refl
  kid_expanded (more t ts) zero = refl
  kid_expanded (more t ts) (suc i) = kid_expanded ts i

  kid_of : (ks : Trees) (i : ℕ)
      → get_or (list_of (trees_of (expand_kids b args base d false ks))) i nought ≡ expand b args base d (get_or (list_of ks) i nought)
  kid_of ks i = ap (λ ts. get_or ts i nought) (same_list (expand_kids b args base d false ks)) ∙ kid_expanded ks i

  kid_of_choice : (t : Tree) → is_choice (head_of t) ≡ true → kid (expand b args base d t) 0 ≡ expand b args base d (kid t 0)
  kid_of_choice (node hd.Choose ks) is = kid_of ks 0
  kid_of_choice (node _ ks) is = absurd (false≢true is)

  kid_of_comparison : (t : Tree) → is_comparison (head_of t) ≡ true → kid (expand b args base d t) 1 ≡ expand b args base d (kid t 1)
  kid_of_comparison (node (hd.Compare c) ks) is = kid_of ks 1
  kid_of_comparison (node _ ks) is = absurd (false≢true is)

  same_number : (t : Tree) → is_number (head_of t) ≡ true → spelled_number (expand b args base d t) ≡ spelled_number t
  same_number (node (hd.Number z) ks) is = refl
  same_number (node _ ks) is = absurd (false≢true is)

  same_test : (t : Tree) → tests_number t ≡ true → test_number (expand b args base d t) ≡ test_number t
  same_test t tests =
      let p = and_parts (is_choice (head_of t)) (is_comparison (head_of (kid t 0)) && is_number (head_of (kid (kid t 0) 1))) tests in
      let q = and_parts (is_comparison (head_of (kid t 0))) (is_number (head_of (kid (kid t 0) 1))) p.1 in
      ap (λ u. spelled_number (kid u 1)) (kid_of_choice t p.0) ∙ ap spelled_number (kid_of_comparison (kid t 0) q.0) ∙ same_number (kid (kid t 0) 1) q.1

-- ---- arguments

keep : (d : ℕ) (env : Env) → Keeps d env env
keep d env i lt = refl

module _ (m : Calls) (env : Env) (e : ℕ) (w : World) where
  long_values : (ts : List Tree) → length (values m env e w (trees_of ts)) ≡ length ts
  long_values [] = refl
  long_values (t ∷ ts) = ap suc (long_values ts)

  argument_value : (ts : List Tree) (x : ℕ) → value m env e w (get_or ts x nought) ≡ value_at (values m env e w (trees_of ts)) x
  argument_value [] x = refl
  argument_value (t ∷ ts) zero = refl
  argument_value (t ∷ ts) (suc x) = argument_value ts x

-- ---- calls

-- one definition more is called, or another one
with_itself : (n : ℕ) (c : List Value → World → Value) (m : Calls) (f : ℕ) (vs : List Value) (w : World) → f ≡ n
    → with_call n c m f vs w ≡ c vs w
with_itself n c m f vs w is = ap (λ f. with_call n c m f vs w) is ∙ rw (itself n) refl

trees_itself : (ds : List Definition) (n f d : ℕ) (ts : List Tree) → f ≡ n
    → call_trees ds (suc n) f d ts ≡ call_tree (call_trees ds n) n (definition_at ds n) d ts
unfolding call_trees
trees_itself ds n f d ts is = ap (λ f. call_trees ds (suc n) f d ts) is ∙ rw (itself n) refl

trees_other : (ds : List Definition) (n f d : ℕ) (ts : List Tree) → eqb f n ≡ false → call_trees ds (suc n) f d ts ≡ call_trees ds n f d ts
unfolding call_trees
trees_other ds n f d ts x = rw x refl

level_called : (n d : ℕ) (ts : List Tree) → n ≡ length ts → Level n d ts d
level_called n d ts long = record { place = omega (arith, long); above = omega arith }

level_outside : (n : ℕ) → Level n n [] 0
level_outside n = record { place = omega arith; above = omega arith }

module _ (s : Signatures) (ds : List Definition) where
  abbrev body : ℕ → Tree
  body n = (definition_at ds n).body

  abbrev Fits : ℕ → Type 0
  Fits n = is_definition s n (definition_at ds n) ≡ true

  abbrev is_recursive : ℕ → Bool
  is_recursive n = (definition_at ds n).is_recursive

  abbrev form : ℕ → Bool
  form n = if is_recursive n then tests_number (body n) else true

  abbrev body_fits : (n around : ℕ) → Bool
  body_fits n k = is_well_formed false (not (s n).is_term) s k (body n)

  -- what calls become of the first definitions means what those do
  abbrev Agrees : (count : ℕ) → Calls → Type 0
  Agrees n m = Agree s (calls_first ds n) m (call_trees ds n)

  -- those of the first definitions that call themselves give what they should
  abbrev Right : (count : ℕ) → Calls → Type 0
  Right n m =
      (f : ℕ) → f < n → is_recursive f ≡ true → (vs : List Value) (w : World) → length vs ≡ (s f).params → m f vs w ≡ calls_first ds n f vs w

  right_before : (n : ℕ) (m : Calls) → Right (suc n) m → Right n m
  right_before n m right f lt is vs w long =
      let x = earlier f n lt in
      let k : f < suc n = omega (arith, lt) in right f k is vs w long ∙ rw x refl

  well_formed_body : (n k : ℕ) → Fits n → k ≡ (s n).params → body_fits n k ≡ true
  well_formed_body n k g long = ap (body_fits n) long ∙ (and_parts (body_fits n (s n).params) (form n) g).0

  -- the values of arguments, whatever binders are added
  abbrev Given : (m : Calls) → (around : ℕ) → Env → World → List Tree → List Value → Type 0
  Given m d env w ts vs = (env' : Env) (e : ℕ) → Keeps d env env' → values m env' e w (trees_of ts) ≡ vs

  fits_arguments : (m : Calls) (d : ℕ) (env : Env) (w : World) (ts : List Tree) (vs : List Value) → length vs ≡ length ts
      → Given m d env w ts vs → NamesFit m false (length vs) d env w ts d (named vs)
  fits_arguments m d env w ts vs long fit x env' e w' lt keeps same =
      let t : nat_lt x (length ts) ≡ true = grind (arith, lt, long) in
      rw (t, same) (argument_value m env' e w ts x ∙ ap (λ vs. value_at vs x) (fit env' e keeps))

  -- where the body of a definition stands, for these arguments
  abbrev arguments : (n d e : ℕ) (m : Calls) (env : Env) (w : World) (ts : List Tree) (vs : List Value) → length vs ≡ length ts
      → Given m d env w ts vs → Deep (not (s n).is_term) d e → Around m
  arguments n d e m env w ts vs long fit deep = record {
    l = false;
    u = not (s n).is_term;
    n = length vs;
    d = d;
    e = e;
    env = env;
    w = w;
    args = ts;
    base = d;
    ns = named vs;
    level = level_called (length vs) d ts long;
    deep = deep;
    fits = fits_arguments m d env w ts vs long fit;
  }

  -- one definition more
  module _ (n : ℕ) (g : Fits n) (m : Calls) (right : Right (suc n) m) (deeper : Agrees n m) where
    one_more : Agrees (suc n) m
    unfolding call_trees
    one_more f d e env w ts vs long fit deep =
        ⊎_elim (λ t. rw t (here ((Decides-eqb f n).0 t))) (λ x. rw x (deeper f d e env w ts vs long fit deep)) (cases_Bool (eqb f n))
      where
        given : length vs ≡ length ts
        given = ap length (sym (fit env e (keep d env))) ∙ long_values m env e w ts

        wanted : f ≡ n → length vs ≡ (s n).params
        wanted is = given ∙ long ∙ ap (λ f. (s f).params) is

        inside : f ≡ n → value m env e w (expand (call_trees ds n) ts d d (body n)) ≡ body_value (calls_first ds n) (body n) vs w
        inside is =
            let at_n : Deep (not (s n).is_term) d e = subst (λ f. Deep (not (s f).is_term) d e) is deep in
            same_value s (calls_first ds n) m (call_trees ds n) deeper (body n) (arguments n d e m env w ts vs given fit at_n)
            (well_formed_body n (length vs) g (wanted is))

        called : f ≡ n → is_recursive n ≡ true → m n (values m env e w (trees_of ts)) w ≡ recursive_value (calls_first ds n) n (body n) vs w
        called is rec = ap (λ vs. m n vs w) (fit env e (keep d env)) ∙ right n (omega arith) rec vs w (wanted is) ∙ rw (itself n, rec) refl

        here : f ≡ n → value m env e w (call_tree (call_trees ds n) n (definition_at ds n) d ts) ≡ call_value (calls_first ds n) n (definition_at ds n) vs w
        here is = ⊎_elim (λ t. rw t (called is t)) (λ x. rw x (inside is)) (cases_Bool (is_recursive n))

  agrees : (n : ℕ) → are_definitions s ds n ≡ true → (m : Calls) → Right n m → Agrees n m
  unfolding call_trees
  agrees zero g m right = λ f d e env w ts vs long fit deep. refl
  agrees (suc n) g m right =
      let q = and_parts (is_definition s n (definition_at ds n)) (are_definitions s ds n) g in
      one_more n q.0 m right (agrees n q.1 m (right_before n m right))

  -- ---- outside of any call, where so many names are around

  fits_outside : (l : Bool) (d : ℕ) (m : Calls) (env : Env) (w : World) → NamesFit m l d d env w [] 0 env
  fits_outside l d m env w x env' e w' lt keeps same =
      let t : nat_lt x 0 ≡ false = grind arith in
      let is : (x - 0) + 0 ≡ x = omega arith in rw (t, is) (keeps x lt)

  abbrev outside : (l u : Bool) (d : ℕ) (m : Calls) (env : Env) (w : World) → Around m
  outside l u d m env w = record {
    l = l;
    u = u;
    n = d;
    d = d;
    e = d;
    env = env;
    w = w;
    args = [];
    base = 0;
    ns = env;
    level = level_outside d;
    deep = deep_refl u d;
    fits = fits_outside l d m env w;
  }

  -- ---- definitions that call themselves

  module _ (n : ℕ) (g : Fits n) (rec : is_recursive n ≡ true) (agree : (m : Calls) → Right n m → Agrees n m) (m : Calls) (right : Right n m) where
    -- so many steps, by the body that is expanded and by that with its calls
    abbrev steps_here : ℕ → List Value → World → Value
    steps_here k = stepped m n (expanded_body ds n (s n).params) k

    abbrev steps_there : ℕ → List Value → World → Value
    steps_there k = stepped (calls_first ds n) n (body n) k

    abbrev here : ℕ → Calls
    here k = with_call n (steps_here k) m

    abbrev there : ℕ → Calls
    there k = with_call n (steps_there k) (calls_first ds n)

    abbrev SameSteps : ℕ → Type 0
    SameSteps k = (vs : List Value) (w : World) → length vs ≡ (s n).params → steps_here k vs w ≡ steps_there k vs w

    right_within : (k : ℕ) → Right n (here k)
    right_within k f lt is vs w long = let x = earlier f n lt in rw x (right f lt is vs w long)

    agree_within : (k : ℕ) → SameSteps k → Agree s (there k) (here k) (call_trees ds (suc n))
    agree_within k same f d e env w ts vs long fit deep =
        ⊎_elim
        (λ t. itself_ ((Decides-eqb f n).0 t))
        (λ x. ap (value (here k) env e w) (trees_other ds n f d ts x) ∙ rw x (agree (here k) (right_within k) f d e env w ts vs long fit deep))
        (cases_Bool (eqb f n))
      where
        stays : call_tree (call_trees ds n) n (definition_at ds n) d ts ≡ node (hd.Call n) (trees_of ts)
        stays = rw rec refl

        wanted : f ≡ n → length vs ≡ (s n).params
        wanted is = ap length (sym (fit env e (keep d env))) ∙ long_values (here k) env e w ts ∙ long ∙ ap (λ f. (s f).params) is

        itself_ : f ≡ n → value (here k) env e w (call_trees ds (suc n) f d ts) ≡ there k f vs w
        itself_ is =
            ap (value (here k) env e w) (trees_itself ds n f d ts is ∙ stays)
            ∙ with_itself n (steps_here k) m n (values (here k) env e w (trees_of ts)) w refl
            ∙ ap (λ vs. steps_here k vs w) (fit env e (keep d env)) ∙ same vs w (wanted is)
            ∙ sym (with_itself n (steps_there k) (calls_first ds n) f vs w is)

    same_steps : (k : ℕ) → SameSteps k
    same_steps zero vs w long = refl
    same_steps (suc k) vs w long =
        ap (λ p. value (here k) (named vs) (length vs) w (expand (call_trees ds (suc n)) [] 0 p (body n))) (sym long)
        ∙ same_value s (there k) (here k) (call_trees ds (suc n)) (agree_within k (same_steps k)) (body n)
        (outside false (not (s n).is_term) (length vs) (here k) (named vs) w) (well_formed_body n (length vs) g long)

    tested : tests_number (body n) ≡ true
    tested = let p = (and_parts (body_fits n (s n).params) (form n) g).1 in rw rec at p

    same_recursive : (vs : List Value) (w : World) → length vs ≡ (s n).params
        → recursive_value m n (expanded_body ds n (s n).params) vs w ≡ recursive_value (calls_first ds n) n (body n) vs w
    same_recursive vs w long =
        ap (λ z. steps_here (suc (to_nat (number_of (last_of vs) -ℤ z))) vs w) (same_test (call_trees ds (suc n)) [] 0 (s n).params (body n) tested)
        ∙ same_steps (steps_for (body n) vs) vs w long

  module _ (es : List Definition) (expands : Expands s ds es) where
    one_right : (n : ℕ) → Fits n → ((m : Calls) → Right n m → Agrees n m) → Right n (calls_first es n) → Right (suc n) (calls_first es (suc n))
    one_right n g agree right f lt rec vs w long =
        ⊎_elim (λ t. here ((Decides-eqb f n).0 t)) (λ x. rw x (right f (below f n lt x) rec vs w long)) (cases_Bool (eqb f n))
      where
        same : is_recursive n ≡ true → length vs ≡ (s n).params
            → call_value (calls_first es n) n (definition_at es n) vs w ≡ call_value (calls_first ds n) n (definition_at ds n) vs w
        same is wanted =
            ap (λ x. call_value (calls_first es n) n x vs w) (expands.bodies n is)
            ∙ same_recursive n g is agree (calls_first es n) right vs w wanted ∙ rw is refl

        here : f ≡ n → calls_first es (suc n) f vs w ≡ calls_first ds (suc n) f vs w
        here is =
            with_itself n (call_value (calls_first es n) n (definition_at es n)) (calls_first es n) f vs w is
            ∙ same (ap is_recursive (sym is) ∙ rec) (long ∙ ap (λ f. (s f).params) is)
            ∙ sym (with_itself n (call_value (calls_first ds n) n (definition_at ds n)) (calls_first ds n) f vs w is)

    all_right : (n : ℕ) → are_definitions s ds n ≡ true → Right n (calls_first es n)
    all_right zero g = λ f lt. absurd (omega (arith, lt))
    all_right (suc n) g =
        let p = and_parts (is_definition s n (definition_at ds n)) (are_definitions s ds n) g in
        one_right n p.0 (agrees n p.1) (all_right n p.1)

pub same_meaning : SameMeaning
same_meaning s ds es t env w g expands fits =
    let n = length ds in
    ap (λ k. value (calls_first es k) env 0 w (expand (call_trees ds n) [] 0 0 t)) expands.count
    ∙ same_value s (calls_first ds n) (calls_first es n) (call_trees ds n) (agrees s ds n g (calls_first es n) (all_right s ds es expands n g)) t
    (outside s ds true true 0 (calls_first es n) env w) fits
