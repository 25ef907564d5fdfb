-- A step's term means the step, where calls of the function itself are one further down.
use Rattle.std.proofs.Common.{◌≡◌, ℕ, zero, suc, ◌+◌, ◌==◌, eqb, true, false, ◌&&◌, List, ◌∷◌, length, refl, sym, ap, ◌∙◌, subst, arith, ⊎_elim, Bool}
use Rattle.std.specs.Prelude.{ℤ, pos, negsuc, ◌-ℤ◌, ◌-◌, Option, Some, None, if◌then◌else◌, slice_index_or}
use Rattle.std.proofs.lemmas.Bool.{cases_Bool, and_parts, false≢true, eqb-true}
use Rattle.typed_prog.specs.declared.operators.Arithmetic.TheVariants as ar
use Rattle.wp_base.specs.declared.kinds.CellKind.{CellKind}
use Rattle.acsl_trees.specs.declared.heads.Head.{Head}
use Rattle.acsl_trees.specs.declared.heads.Head.TheVariants as hd
use Rattle.acsl_trees.specs.Tree.{Tree, Trees, node, stop, more}
use Rattle.c_runs.specs.TruthStates.{Value, World, number, number_of}
use Rattle.c_runs.specs.Truth.{value_at, Calls, Env, last_of, heads_of, value, values}
use Rattle.c_runs.specs.Recursion.{is_own, is_plain, last_kid, is_one, is_one_less, goes_down, all_go_down}
use Rattle.qed_terms.specs.Meaning.{Values, World as Logic}
use Rattle.acsl_encode.specs.Readings.{Called, Terms, integer, truth, address, variable, elements, region, nothing, Common, Reading}
use Rattle.acsl_encode.specs.Encode as encode
use Rattle.acsl_encode.specs.Encode.{terms_at, Names, encoded, all_encoded, binders}
use Rattle.acsl_encode.specs.Meaning.{Means, Stands}
use Rattle.acsl_encode.specs.Calls.{CallStands}
use Rattle.acsl_encode.specs.WellFormed.{ReadingFits}
use Rattle.acsl_encode.specs.Setting.{Known, with_called}
use Rattle.acsl_encode.proofs.Operands.{AllMean, kid_means}
use Rattle.c_runs.specs.TruthStates as state
use Rattle.acsl_encode.proofs.Annotated.{same_cells}
use Rattle.acsl_encode.proofs.Regions.{region_means, separated_means}
use Rattle.acsl_encode.proofs.Nodes.{applied_means, chain_means}
use Rattle.acsl_encode.proofs.Fitted.{AllFit, NamesFit, trees_fit}
use Rattle.acsl_encode.proofs.Calling.{Wanted, call_means, shared}

-- ---- the last argument

last_step : (v u : Value) (us : List Value) → last_of (v ∷ u ∷ us) ≡ last_of (u ∷ us)
last_step v u us = let e : length (v ∷ u ∷ us) - 1 ≡ suc (length (u ∷ us) - 1) = omega arith in ap (λ k. slice_index_or (v ∷ u ∷ us) k (number (pos 0))) e

last_value : (m : Calls) (env : Env) (d : ℕ) (w : World) (ks : Trees) → last_of (values m env d w ks) ≡ value m env d w (last_kid ks)
last_value m env d w stop = refl
last_value m env d w (more t stop) = refl
last_value m env d w (more t (more u ts)) = last_step (value m env d w t) (value m env d w u) (values m env d w ts) ∙ last_value m env d w (more u ts)

one_is : (z : ℤ) → is_one z ≡ true → z ≡ pos 1
one_is (pos (suc zero)) h = refl
one_is (pos zero) h = absurd (false≢true h)
one_is (pos (suc (suc k))) h = absurd (false≢true h)
one_is (negsuc k) h = absurd (false≢true h)

less_value : (m : Calls) (env : Env) (d : ℕ) (w : World) (x : ℕ) (t : Tree) → is_one_less x t ≡ true → number_of (value m env d w t) ≡ number_of
    (env x) -ℤ pos 1
less_value m env d w x (node (hd.Arithmetic ar.Sub) (more (node (hd.Name y) us) (more (node (hd.Number z) vs) stop))) h =
    let p = and_parts (y == x) (is_one z) h in
    ap (λ k. number_of (env k) -ℤ z) (eqb-true y x p.0) ∙ ap (λ k. number_of (env x) -ℤ k) (one_is z p.1)
less_value m env d w x t h = absurd (false≢true h)

-- ---- nothing is known of cells where there is no table

without_table : (q : Logic) (r : Common) (env : Values) (x : List ℕ) (writable : Bool) (ks : List CellKind) (y : Terms) (v : Value)
    → Means q r env (encode.valid x writable ks None y) v
without_table q r env x writable ks (integer l t) v = tt
without_table q r env x writable ks (truth f) v = tt
without_table q r env x writable ks (address b o) v = tt
without_table q r env x writable ks (variable y) v = tt
without_table q r env x writable ks (elements b o n i j) v = tt
without_table q r env x writable ks (region cells b i j) v = tt
without_table q r env x writable ks nothing v = tt

-- ---- trees whose calls of function n go down

module _ (q : Logic) (m : Calls) (r : Reading) (known : Known) (n x : ℕ) (c : Called) (env : Values) (w : World) (names : Names) (vals : Env) (d : ℕ)
    (stands : Stands q r env w) (good : ReadingFits r) (fit : NamesFit names) (mean : (y : ℕ) → Means q r.common env (names y) (vals y))
    (is : (f : ℕ) → r.called f ≡ with_called n (Some c) known f)
    (others : (f : ℕ) (e : Called) → eqb f n ≡ false → known f ≡ Some e → CallStands q.apps m r.common f e)
    (no_table : r.here.table ≡ None)
    (own : (us : List Value) → number_of (last_of us) ≡ number_of (vals x) -ℤ pos 1 → Wanted q env r w stands good m n c us) where
  abbrev terms : ℕ → Tree → Terms
  terms i t = encoded r names i d t

  abbrev all_terms : ℕ → Trees → List Terms
  all_terms i ts = all_encoded r names i d ts

  abbrev meant : Tree → Value
  meant t = value m vals d w t

  abbrev all_meant : Trees → List Value
  all_meant ts = values m vals d w ts

  called_means : (f i : ℕ) (ks : Trees) → AllMean q r.common env (all_terms i ks) (all_meant ks) → (if f == n then is_one_less x (last_kid ks) else true) ≡ true
      → Means q r.common env (terms i (node (hd.Call f) ks)) (m f (all_meant ks) w)
  called_means f i ks h goes =
      subst (λ o. Means q r.common env (encode.called r o (all_terms i ks)) (m f (all_meant ks) w)) (sym (is f))
      (⊎_elim own_case other_case (cases_Bool (eqb f n)))
    where
      fits : AllFit (all_terms i ks)
      fits = trees_fit ks r names i d good fit

      own_case : eqb f n ≡ true → Means q r.common env (encode.called r (with_called n (Some c) known f) (all_terms i ks)) (m f (all_meant ks) w)
      own_case so =
          let is : f ≡ n = eqb-true f n so in
          let less : is_one_less x (last_kid ks) ≡ true = ap (λ b. if b then is_one_less x (last_kid ks) else true) (sym so) ∙ goes in
          let at : number_of (last_of (all_meant ks)) ≡ number_of (vals x) -ℤ pos 1 = ap number_of (last_value m vals d w ks) ∙ less_value m vals d w x
          (last_kid ks) less in
          subst (λ b. Means q r.common env (encode.called r (if b then Some c else known f) (all_terms i ks)) (m f (all_meant ks) w)) (sym so)
          (subst (λ g. Means q r.common env (encode.called r (Some c) (all_terms i ks)) (m g (all_meant ks) w)) (sym is)
          (call_means q env r w stands good m n c (all_terms i ks) (all_meant ks) h fits (own (all_meant ks) at)))

      by_known : eqb f n ≡ false → (o : Option Called) → known f ≡ o → Means q r.common env (encode.called r o (all_terms i ks)) (m f (all_meant ks) w)
      by_known not_so None e = tt
      by_known not_so (Some k) e =
          call_means q env r w stands good m f k (all_terms i ks) (all_meant ks) h fits
          (λ args ms gs a b g. others f k not_so e (all_meant ks) w args ms gs (shared q env r w stands good) a b g)

      other_case : eqb f n ≡ false → Means q r.common env (encode.called r (with_called n (Some c) known f) (all_terms i ks)) (m f (all_meant ks) w)
      other_case not_so =
          subst (λ b. Means q r.common env (encode.called r (if b then Some c else known f) (all_terms i ks)) (m f (all_meant ks) w)) (sym not_so)
          (by_known not_so (known f) refl)

  node_means : (head : Head) (i : ℕ) (ks : Trees) → AllMean q r.common env (all_terms i ks) (all_meant ks) → is_plain head ≡ true
      → (if is_own n head then is_one_less x (last_kid ks) else true) ≡ true → Means q r.common env (terms i (node head ks)) (meant (node head ks))
  node_means (hd.Name y) i ks h plain goes = mean y
  node_means (hd.Call f) i ks h plain goes = called_means f i ks h goes
  node_means (hd.At l) i ks h plain goes = absurd (false≢true plain)
  node_means hd.Let i ks h plain goes = absurd (false≢true plain)
  node_means (hd.Every g) i ks h plain goes = absurd (false≢true plain)
  node_means (hd.Some g) i ks h plain goes = absurd (false≢true plain)
  node_means hd.Chain i ks h plain goes = chain_means q r env (heads_of ks) (all_terms i ks) (all_meant ks) h
  node_means (hd.Valid k writable) i ks h plain goes =
      let x = terms_at (all_terms (i + encode.own_binders (hd.Valid k writable) (heads_of ks)) ks) 0 in
      subst (λ o. Means q r.common env (encode.valid (r.common.binder i) writable (encode.content_cells r.common k) o x)
      (meant (node (hd.Valid k writable) ks))) (sym no_table)
      (without_table q r.common env (r.common.binder i) writable (encode.content_cells r.common k) x (meant (node (hd.Valid k writable) ks)))
  node_means hd.Separated i ks h plain goes = separated_means q r env (all_terms i ks) (all_meant ks) h
  node_means (hd.Region k) i ks h plain goes =
      subst (λ cells. Means q r.common env (terms i (node (hd.Region k) ks)) (state.region cells (state.span_of (value_at (all_meant ks) 0))))
      (same_cells q m r.common w k stands.structs)
      (region_means q r env (encode.content_cells r.common k) (terms_at (all_terms i ks) 0) (value_at (all_meant ks) 0)
      (kid_means q r.common env (all_terms i ks) (all_meant ks) 0 h))
  node_means head i ks h plain goes = applied_means q r env (all_terms i ks) (all_meant ks) h w stands head

  mutual
    pub step_means : (t : Tree) (i : ℕ) → goes_down n x t ≡ true → Means q r.common env (terms i t) (meant t)
    step_means (node head ks) i h =
        let p = and_parts (is_plain head && (if is_own n head then is_one_less x (last_kid ks) else true)) (all_go_down n x ks) h in
        let e = and_parts (is_plain head) (if is_own n head then is_one_less x (last_kid ks) else true) p.0 in
        node_means head i ks (steps_mean ks i p.1) e.0 e.1

    steps_mean : (ts : Trees) (i : ℕ) → all_go_down n x ts ≡ true → AllMean q r.common env (all_terms i ts) (all_meant ts)
    steps_mean stop i h = tt
    steps_mean (more t ts) i h = let p = and_parts (goes_down n x t) (all_go_down n x ts) h in (step_means t i p.0, steps_mean ts (i + binders t) p.1)
