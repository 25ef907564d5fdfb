-- A function that calls itself has the value of its body.
use Rattle.std.proofs.Common.{◌≡◌, ℕ, zero, suc, ◌==◌, eqb, Bool, true, false, ◌&&◌, not, if◌then◌else◌, List, [], ◌∷◌, length, refl, sym, ap, subst, ◌∙◌, arith, ⊎_elim}
use Rattle.std.specs.Prelude.{ℤ, pos, negsuc, ◌+ℤ◌, ◌-ℤ◌, ◌-◌, int_le, slice_index_or}
use Rattle.std.proofs.lemmas.Bool.{cases_Bool, and_parts, false≢true, eqb-true}
use Rattle.std.proofs.lemmas.Int.{ints}
use Rattle.wp_base.specs.Blocks.{to_nat}
use Rattle.typed_prog.specs.declared.operators.Arithmetic.TheVariants as ar
use Rattle.typed_prog.specs.declared.operators.Comparison.TheVariants as cmp
use Rattle.acsl_trees.specs.declared.heads.Head.{Head}
use Rattle.acsl_trees.specs.declared.heads.Head.TheVariants as hd
use Rattle.acsl_trees.specs.Tree.{Tree, Trees, node, stop, more, leaf, two, three}
use Rattle.acsl_expand.proofs.Numbers.{itself}
use Rattle.c_runs.specs.TruthStates.{Value, World, number, number_of, truth, moved_to}
use Rattle.c_runs.specs.Truth.{Env, Calls, Kids, first, last_of, value_at, named, under, chosen, heads_of, applied, node_value, value, values, with_call, stepped, steps_for, recursive_value, body_value}
use Rattle.c_runs.specs.Recursion.{is_own, never_calls, none_calls, is_plain, last_kid, is_one, is_one_less, goes_down, all_go_down, IsRecursion, RecursionUnfolds}

not_true : (b : Bool) → not b ≡ true → b ≡ false
not_true true h = absurd (false≢true h)
not_true false h = refl

-- ---- two meanings of calls that differ in one function

module _ (m m' : Calls) (n : ℕ) (others : (f : ℕ) → eqb f n ≡ false → m f ≡ m' f) where
  node_same : (head : Head) (ls : List Head) (k k' : Kids) → k ≡ k' → is_own n head ≡ false → (env : Env) (d : ℕ) (w : World) → node_value m env d w head ls k ≡ node_value m' env d w head ls k'
  node_same (hd.Name x) ls k k' e own env d w = refl
  node_same (hd.Call f) ls k k' e own env d w = ap (λ g. g (k env d w) w) (others f own) ∙ ap (λ c. m' f (c env d w) w) e
  node_same (hd.At l) ls k k' e own env d w = ap (λ c. first (c env d (moved_to l w))) e
  node_same hd.Let ls k k' e own env d w = ap (λ c. under c env d w (first (c env d w))) e
  node_same (hd.Every r) ls k k' e own env d w = ap (node_value m env d w (hd.Every r) ls) e
  node_same (hd.Some r) ls k k' e own env d w = ap (node_value m env d w (hd.Some r) ls) e
  node_same hd.Chain ls k k' e own env d w = ap (node_value m env d w hd.Chain ls) e
  node_same head ls k k' e own env d w = ap (λ c. applied w head (c env d w)) e

  -- a tree without calls of it
  mutual
    without : (t : Tree) → never_calls n t ≡ true → (env : Env) (d : ℕ) (w : World) → value m env d w t ≡ value m' env d w t
    without (node head ks) h env d w =
        let p = and_parts (not (is_own n head)) (none_calls n ks) h in
        let e : (env : Env) (d : ℕ) (w : World) → values m env d w ks ≡ values m' env d w ks = all_without ks p.1 in
        node_same head (heads_of ks) (λ env' d' w'. values m env' d' w' ks) (λ env' d' w'. values m' env' d' w' ks) (λ i env' d' w'. e env' d' w' i) (not_true (is_own n head) p.0) env d w

    all_without : (ts : Trees) → none_calls n ts ≡ true → (env : Env) (d : ℕ) (w : World) → values m env d w ts ≡ values m' env d w ts
    all_without stop h env d w = refl
    all_without (more t ts) h env d w =
        let p = and_parts (never_calls n t) (none_calls n ts) h in
        let q = without t p.0 env d w in let r = all_without ts p.1 env d w in λ i. q i ∷ r i

-- ---- the last argument

last_step : (v u : Value) (us : List Value) → last_of (v ∷ u ∷ us) ≡ last_of (u ∷ us)
last_step v u us = let e : length (v ∷ u ∷ us) - 1 ≡ suc (length (u ∷ us) - 1) = omega arith in ap (λ k. slice_index_or (v ∷ u ∷ us) k (number (pos 0))) e

last_value : (m : Calls) (env : Env) (d : ℕ) (w : World) (ks : Trees) → last_of (values m env d w ks) ≡ value m env d w (last_kid ks)
last_value m env d w stop = refl
last_value m env d w (more t stop) = refl
last_value m env d w (more t (more u ts)) = last_step (value m env d w t) (value m env d w u) (values m env d w ts) ∙ last_value m env d w (more u ts)

one_is : (z : ℤ) → is_one z ≡ true → z ≡ pos 1
one_is (pos (suc zero)) h = refl
one_is (pos zero) h = absurd (false≢true h)
one_is (pos (suc (suc k))) h = absurd (false≢true h)
one_is (negsuc k) h = absurd (false≢true h)

less_value : (m : Calls) (env : Env) (d : ℕ) (w : World) (x : ℕ) (t : Tree) → is_one_less x t ≡ true → number_of (value m env d w t) ≡ number_of (env x) -ℤ pos 1
less_value m env d w x (node (hd.Arithmetic ar.Sub) (more (node (hd.Name y) us) (more (node (hd.Number z) vs) stop))) h =
    let p = and_parts (y == x) (is_one z) h in
    ap (λ k. number_of (env k) -ℤ z) (eqb-true y x p.0) ∙ ap (λ k. number_of (env x) -ℤ k) (one_is z p.1)
less_value m env d w x t h = absurd (false≢true h)

-- ---- a tree whose calls of it go down

module _ (m m' : Calls) (n x : ℕ) (env : Env) (d : ℕ) (w : World) (others : (f : ℕ) → eqb f n ≡ false → m f ≡ m' f)
    (lower : (us : List Value) → number_of (last_of us) ≡ number_of (env x) -ℤ pos 1 → m n us w ≡ m' n us w) where
  -- a call, whose arguments have the same values
  call_same : (f : ℕ) (ks : Trees) → (if f == n then is_one_less x (last_kid ks) else true) ≡ true → values m env d w ks ≡ values m' env d w ks → m f (values m env d w ks) w ≡ m' f (values m' env d w ks) w
  call_same f ks h e = ap (λ us. m f us w) e ∙ ⊎_elim own other (cases_Bool (eqb f n))
    where
      own : eqb f n ≡ true → m f (values m' env d w ks) w ≡ m' f (values m' env d w ks) w
      own so =
          let is : f ≡ n = eqb-true f n so in
          let less : is_one_less x (last_kid ks) ≡ true = ap (λ b. if b then is_one_less x (last_kid ks) else true) (sym so) ∙ h in
          let at : number_of (last_of (values m' env d w ks)) ≡ number_of (env x) -ℤ pos 1 = ap number_of (last_value m' env d w ks) ∙ less_value m' env d w x (last_kid ks) less in
          ap (λ g. m g (values m' env d w ks) w) is ∙ lower (values m' env d w ks) at ∙ ap (λ g. m' g (values m' env d w ks) w) (sym is)

      other : eqb f n ≡ false → m f (values m' env d w ks) w ≡ m' f (values m' env d w ks) w
      other not_so = ap (λ g. g (values m' env d w ks) w) (others f not_so)

  node_below : (head : Head) (ks : Trees) → is_plain head ≡ true → (if is_own n head then is_one_less x (last_kid ks) else true) ≡ true → values m env d w ks ≡ values m' env d w ks
      → value m env d w (node head ks) ≡ value m' env d w (node head ks)
  node_below (hd.Name y) ks plain own e = refl
  node_below (hd.Call f) ks plain own e = call_same f ks own e
  node_below (hd.At l) ks plain own e = absurd (false≢true plain)
  node_below hd.Let ks plain own e = absurd (false≢true plain)
  node_below (hd.Every r) ks plain own e = absurd (false≢true plain)
  node_below (hd.Some r) ks plain own e = absurd (false≢true plain)
  node_below hd.Chain ks plain own e = ap (λ vs. node_value m env d w hd.Chain (heads_of ks) (λ env' d' w'. vs)) e
  node_below head ks plain own e = ap (applied w head) e

  mutual
    below : (t : Tree) → goes_down n x t ≡ true → value m env d w t ≡ value m' env d w t
    below (node head ks) h =
        let p = and_parts (is_plain head && (if is_own n head then is_one_less x (last_kid ks) else true)) (all_go_down n x ks) h in
        let q = and_parts (is_plain head) (if is_own n head then is_one_less x (last_kid ks) else true) p.0 in
        node_below head ks q.0 q.1 (all_below ks p.1)

    all_below : (ts : Trees) → all_go_down n x ts ≡ true → values m env d w ts ≡ values m' env d w ts
    all_below stop h = refl
    all_below (more t ts) h =
        let p = and_parts (goes_down n x t) (all_go_down n x ts) h in
        let q = below t p.0 in let r = all_below ts p.1 in λ i. q i ∷ r i

-- ---- the function

choice_same : (b : Bool) (v v' u u' : Value) → (b ≡ true → v ≡ v') → (b ≡ false → u ≡ u') → chosen (truth b ∷ v ∷ u ∷ []) ≡ chosen (truth b ∷ v' ∷ u' ∷ [])
choice_same true v v' u u' so not_so = so refl
choice_same false v v' u u' so not_so = not_so refl

-- how many steps are left
left_by : (z c d : ℤ) → int_le z c ≡ false → z -ℤ c ≡ d → to_nat (z -ℤ c) ≡ suc (to_nat ((z -ℤ pos 1) -ℤ c))
left_by z c d above is = left d is
  where
    left : (d : ℤ) → z -ℤ c ≡ d → to_nat (z -ℤ c) ≡ suc (to_nat ((z -ℤ pos 1) -ℤ c))
    left (pos (suc k)) is =
        let less : (z -ℤ pos 1) -ℤ c ≡ pos k = omega (arith, ints, is) in ap to_nat is ∙ ap (λ e. suc (to_nat e)) (sym less)
    left (pos zero) is = absurd (false≢true (sym above ∙ not_above is))
      where
        not_above : z -ℤ c ≡ pos zero → int_le z c ≡ true
        not_above is = grind (arith, ints, is)
    left (negsuc k) is = absurd (false≢true (sym above ∙ not_above is))
      where
        not_above : z -ℤ c ≡ negsuc k → int_le z c ≡ true
        not_above is = grind (arith, ints, is)

module _ (m : Calls) (n x : ℕ) (bound : ℤ) (base step : Tree) (no_calls : never_calls n base ≡ true) (goes : goes_down n x step ≡ true) where
  abbrev body : Tree
  body = three hd.Choose (two (hd.Compare cmp.AtMost) (leaf (hd.Name x)) (leaf (hd.Number bound))) base step

  abbrev by_steps : ℕ → Calls
  by_steps k = with_call n (stepped m n body k) m

  abbrev by_itself : Calls
  by_itself = with_call n (recursive_value m n body) m

  others : (k f : ℕ) → eqb f n ≡ false → by_steps k f ≡ by_itself f
  others k f not_so = λ i us w'. either us w' i
    where
      either : (us : List Value) (w' : World) → by_steps k f us w' ≡ by_itself f us w'
      either us w' =
          ap (λ b. if b then stepped m n body k us w' else m f us w') not_so ∙ sym (ap (λ b. if b then recursive_value m n body us w' else m f us w') not_so)

  unfolds : (vs : List Value) → length vs ≡ suc x → (w : World) → recursive_value m n body vs w ≡ body_value by_itself body vs w
  unfolds vs count w =
      let k = to_nat (number_of (last_of vs) -ℤ bound) in
      let place : length vs - 1 ≡ x = omega (arith, count) in
      let last : last_of vs ≡ value_at vs x = ap (value_at vs) place in
      choice_same (int_le (number_of (value_at vs x)) bound) (value (by_steps k) (named vs) (length vs) w base) (value by_itself (named vs) (length vs) w base)
      (value (by_steps k) (named vs) (length vs) w step) (value by_itself (named vs) (length vs) w step)
      (λ so. without (by_steps k) by_itself n (others k) base no_calls (named vs) (length vs) w)
      (λ not_so. below (by_steps k) by_itself n x (named vs) (length vs) w (others k) (lower k last not_so) step goes)
    where
      lower : (k : ℕ) → last_of vs ≡ value_at vs x → int_le (number_of (value_at vs x)) bound ≡ false → (us : List Value) → number_of (last_of us) ≡ number_of (value_at vs x) -ℤ pos 1
          → by_steps (to_nat (number_of (last_of vs) -ℤ bound)) n us w ≡ by_itself n us w
      lower k last not_so us at =
          let t : eqb n n ≡ true = itself n in
          let count_ : to_nat (number_of (last_of vs) -ℤ bound) ≡ suc (to_nat (number_of (last_of us) -ℤ bound)) =
          ap (λ v. to_nat (number_of v -ℤ bound)) last ∙ left_by (number_of (value_at vs x)) bound (number_of (value_at vs x) -ℤ bound) not_so refl ∙ ap (λ z. suc (to_nat (z -ℤ bound))) (sym at) in
          rw t (ap (λ j. stepped m n body j us w) count_)

pub recursion_unfolds : RecursionUnfolds
recursion_unfolds m n x t r vs count w =
    subst (λ b. recursive_value m n b vs w ≡ body_value (with_call n (recursive_value m n b) m) b vs w) (sym r.is) (unfolds m n x r.bound r.base r.step r.base_calls r.step_goes vs count w)
