-- The terms of an annotation mean what the annotation means, node by node.
use Rattle.std.proofs.Common.{◌≡◌, ℕ, suc, ◌+◌, Bool, List, refl, subst, arith}
use Rattle.std.specs.Prelude.{ℤ, Option, Some, None}
use Rattle.c_kinds.specs.declared.models.Machdep.{Machdep}
use Rattle.acsl_trees.specs.declared.heads.Content.{Content}
use Rattle.acsl_trees.specs.declared.heads.Content.TheVariants as content
use Rattle.acsl_trees.specs.declared.heads.Label.{Label}
use Rattle.acsl_trees.specs.declared.heads.Range.{Range}
use Rattle.acsl_trees.specs.declared.heads.Head.{Head}
use Rattle.acsl_trees.specs.declared.heads.Head.TheVariants as hd
use Rattle.acsl_trees.specs.Tree.{Tree, Trees, node, stop, more}
use Rattle.c_runs.specs.TruthStates as state
use Rattle.c_runs.specs.TruthStates.{Value, World, number, is_true}
use Rattle.c_runs.specs.Truth as truth
use Rattle.c_runs.specs.Truth.{heads_of, least, greatest}
use Rattle.qed_terms.specs.Meaning.{Values, World as Logic, with_int}
use Rattle.acsl_encode.specs.Readings.{Called, Terms, Common}
use Rattle.acsl_encode.specs.Encode as encode
use Rattle.acsl_encode.specs.Encode.{encoded, all_encoded, binders, all_binders, as_formula, ends_of, kind_of, terms_at}
use Rattle.acsl_encode.specs.Meaning.{Holds, Means, Stands}
use Rattle.acsl_encode.specs.Binders.{Later}
use Rattle.acsl_encode.proofs.Operands.{as_truth, AllMean, kid_means, last_means}
use Rattle.acsl_encode.proofs.Nodes.{applied_means, chain_means}
use Rattle.acsl_encode.proofs.Around.{Around, later_same, later_bound, this_int, behind, at_values, under_label, under_let, under_binder}
use Rattle.acsl_encode.proofs.Fitted.{AllFit, kid_fits, trees_fit}
use Rattle.acsl_encode.proofs.Calling.{call_means, shared}
use Rattle.acsl_encode.proofs.Cells.{valid_means}
use Rattle.acsl_encode.proofs.Regions.{region_means, separated_means}
use Rattle.acsl_encode.proofs.Ranging.{Reach, Body, ends_mean, every_means, some_means, inside_kind}

module _ (q : Logic) (m : truth.Calls) where
  abbrev terms : Around q m → Tree → Terms
  terms c t = encoded c.r c.ns c.i c.d t

  abbrev meant : Around q m → Tree → Value
  meant c t = truth.value m c.values c.d c.w t

  abbrev all_terms : Around q m → Trees → List Terms
  all_terms c ts = all_encoded c.r c.ns c.i c.d ts

  abbrev all_meant : Around q m → Trees → List Value
  all_meant c ts = truth.values m c.values c.d c.w ts

  abbrev pub Meant : Tree → Type 0
  Meant t = (c : Around q m) → Means q c.r.common c.env (terms c t) (meant c t)

  abbrev pub AllMeant : Trees → Type 0
  AllMeant ts = (c : Around q m) → AllMean q c.r.common c.env (all_terms c ts) (all_meant c ts)

  all_fit : (c : Around q m) (ks : Trees) → AllFit (all_terms c ks)
  all_fit c ks = trees_fit ks c.r c.ns c.i c.d c.good c.names_fit

  call_meant : (f : ℕ) (ks : Trees) → AllMeant ks → Meant (node (hd.Call f) ks)
  call_meant f ks h c = by (c.r.called f) refl
    where
      stands : Stands q c.r c.env c.w
      stands = c.stands c.env (later_same c.r.common.binder c.i c.env)

      by : (o : Option Called) → c.r.called f ≡ o → Means q c.r.common c.env (encode.called c.r o (all_terms c ks)) (m f (all_meant c ks) c.w)
      by None e = tt
      by (Some called) e =
          call_means q c.env c.r c.w stands c.good m f called (all_terms c ks) (all_meant c ks) (h c) (all_fit c ks)
          (λ args ms gs a b g. c.calls f called e (all_meant c ks) c.w args ms gs (shared q c.env c.r c.w stands c.good) a b g)

  label_meant : (l : Label) (ks : Trees) → AllMeant ks → Meant (node (hd.At l) ks)
  label_meant l ks h c = kid_means q c.r.common c.env (all_terms (under_label q m c l) ks) (all_meant (under_label q m c l) ks) 0 (h (under_label q m c l))

  let_meant : (ks : Trees) → AllMeant ks → Meant (node hd.Let ks)
  let_meant ks h c =
      let first : (env' : Values) → Later c.r.common.binder c.i c.env env' → Means q c.r.common env' (terms_at (all_terms c ks) 0)
      (truth.first (all_meant c ks))
      = λ env' l. kid_means q c.r.common env' (all_terms c ks) (all_meant c ks) 0 (h (at_values q m c env' l)) in
      let inside = under_let q m c (terms_at (all_terms c ks) 0) (truth.first (all_meant c ks)) (kid_fits (all_terms c ks) 0 (all_fit c ks)) first in
      last_means q c.r.common c.env (all_terms inside ks) (all_meant inside ks) (h inside)

  -- ---- quantifiers

  module _ (g : Range) (ks : Trees) (h : AllMeant ks) (c : Around q m) where
    -- behind the node's own binder
    abbrev after : Around q m
    after = behind q m c 1

    abbrev m_of : Machdep
    m_of = c.r.common.model

    abbrev low : ℤ
    low = least m_of g (all_meant c ks)

    abbrev high : ℤ
    high = greatest m_of g (all_meant c ks)

    abbrev test : ℤ → Bool
    test z = truth.is_true_at (λ env' d' w'. truth.values m env' d' w' ks) c.values c.d c.w z

    abbrev body : Terms
    body = encode.body_of (λ r' ns' i' d'. all_encoded r' ns' i' d' ks) c.r c.ns c.i c.d g

    ends_hold : Holds (Reach q c.r.common c.env low high) (ends_of m_of g (all_encoded c.r c.ns (suc c.i) c.d ks))
    ends_hold =
        let next : c.i + 1 ≡ suc c.i = omega arith in
        subst (λ i. Holds (Reach q c.r.common c.env low high) (ends_of m_of g (all_encoded c.r c.ns i c.d ks))) next
        (ends_mean q c.r.common c.env g (all_terms after ks) (all_meant after ks) (h after))

    body_holds : Body q c.r.common c.env (c.r.common.binder c.i) low high test (as_formula body)
    body_holds z le lt =
        let inside = under_binder q m c (kind_of g) z (inside_kind m_of g (all_meant c ks) z le lt) in
        as_truth q c.r.common inside.env body (truth.last_of (all_meant inside ks))
        (last_means q c.r.common inside.env (all_terms inside ks) (all_meant inside ks) (h inside))

  same_model : (c : Around q m) → c.r.common.model ≡ c.w.model
  same_model c = (c.stands c.env (later_same c.r.common.binder c.i c.env)).model

  every_meant : (g : Range) (ks : Trees) → AllMeant ks → Meant (node (hd.Every g) ks)
  every_meant g ks h c =
      subst (λ k. Means q c.r.common c.env (terms c (node (hd.Every g) ks)) (state.truth
      (state.every_between (least k g (all_meant c ks)) (greatest k g (all_meant c ks)) (test g ks h c))))
      (same_model c)
      (every_means q c.r.common c.env (c.r.common.binder c.i) (low g ks h c) (high g ks h c) (test g ks h c)
      (ends_of c.r.common.model g (all_encoded c.r c.ns (suc c.i) c.d ks))
      (as_formula (body g ks h c)) (ends_hold g ks h c) (body_holds g ks h c))

  some_meant : (g : Range) (ks : Trees) → AllMeant ks → Meant (node (hd.Some g) ks)
  some_meant g ks h c =
      subst (λ k. Means q c.r.common c.env (terms c (node (hd.Some g) ks)) (state.truth
      (state.some_between (least k g (all_meant c ks)) (greatest k g (all_meant c ks)) (test g ks h c))))
      (same_model c)
      (some_means q c.r.common c.env (c.r.common.binder c.i) (low g ks h c) (high g ks h c) (test g ks h c)
      (ends_of c.r.common.model g (all_encoded c.r c.ns (suc c.i) c.d ks))
      (as_formula (body g ks h c)) (ends_hold g ks h c) (body_holds g ks h c))

  -- ---- all nodes

  plain_meant : (head : Head) (ks : Trees) → AllMeant ks → (c : Around q m)
      → Means q c.r.common c.env (encode.applied c.r head (all_terms c ks)) (truth.applied c.w head (all_meant c ks))
  plain_meant head ks h c =
      applied_means q c.r c.env (all_terms c ks) (all_meant c ks) (h c) c.w (c.stands c.env (later_same c.r.common.binder c.i c.env)) head

  -- ---- cells that may be read or written

  pub same_cells : (r : Common) (w : World) (k : Content) → ((n : ℕ) → r.structs n ≡ w.structs n) → encode.content_cells r k ≡ state.content_cells w k
  same_cells r w (content.Integer k) h = refl
  same_cells r w content.Pointer h = refl
  same_cells r w (content.Struct n) h = h n

  valid_meant : (k : Content) (writable : Bool) (ks : Trees) → AllMeant ks → Meant (node (hd.Valid k writable) ks)
  valid_meant k writable ks h c =
      subst (λ cells. Means q c.r.common c.env (terms c (node (hd.Valid k writable) ks))
      (state.truth (state.is_valid writable c.w.here.blocks cells (state.span_of (truth.first (all_meant c ks))))))
      (same_cells c.r.common c.w k (here c).structs)
      (valid_means q c.r c.env x writable (encode.content_cells c.r.common k) c.r.here.table (terms_at (all_terms (kids c) ks) 0)
      (truth.first (all_meant c ks)) c.w.here.blocks
      (kid_means q c.r.common c.env (all_terms (kids c) ks) (all_meant c ks) 0 (h (kids c))) ((here c).here.table)
      (λ z. kid_means q c.r.common (with_int c.env x z) (all_terms (kids c) ks) (all_meant c ks) 0 (h (kids (bound z)))) (λ z. (here (bound z)).here.table)
      (λ z. this_int c.env x z))
    where
      x : List ℕ
      x = c.r.common.binder c.i

      bound : ℤ → Around q m
      bound z = at_values q m c (with_int c.env x z) (later_bound c.r.common.binder c.i c.env z)

      kids : Around q m → Around q m
      kids a = behind q m a (encode.own_binders (hd.Valid k writable) (heads_of ks))

      here : (a : Around q m) → Stands q a.r a.env a.w
      here a = a.stands a.env (later_same a.r.common.binder a.i a.env)

  region_meant : (k : Content) (ks : Trees) → AllMeant ks → Meant (node (hd.Region k) ks)
  region_meant k ks h c =
      subst (λ cells. Means q c.r.common c.env (terms c (node (hd.Region k) ks)) (state.region cells (state.span_of (truth.first (all_meant c ks)))))
      (same_cells c.r.common c.w k (c.stands c.env (later_same c.r.common.binder c.i c.env)).structs)
      (region_means q c.r c.env (encode.content_cells c.r.common k) (terms_at (all_terms c ks) 0) (truth.first (all_meant c ks))
      (kid_means q c.r.common c.env (all_terms c ks) (all_meant c ks) 0 (h c)))

  mutual
    pub same_meaning : (t : Tree) → Meant t
    same_meaning (node (hd.Name x) ks) c = c.fits c.env (later_same c.r.common.binder c.i c.env) x
    same_meaning (node (hd.Call f) ks) c = call_meant f ks (same_meanings ks) c
    same_meaning (node (hd.At l) ks) c = label_meant l ks (same_meanings ks) c
    same_meaning (node hd.Let ks) c = let_meant ks (same_meanings ks) c
    same_meaning (node (hd.Every g) ks) c = every_meant g ks (same_meanings ks) c
    same_meaning (node (hd.Some g) ks) c = some_meant g ks (same_meanings ks) c
    same_meaning (node hd.Chain ks) c = chain_means q c.r c.env (heads_of ks) (all_terms c ks) (all_meant c ks) (same_meanings ks c)
    same_meaning (node (hd.Valid k writable) ks) c = valid_meant k writable ks (same_meanings ks) c
    same_meaning (node hd.Separated ks) c = separated_means q c.r c.env (all_terms c ks) (all_meant c ks) (same_meanings ks c)
    same_meaning (node (hd.Region k) ks) c = region_meant k ks (same_meanings ks) c
    same_meaning (node head ks) c = plain_meant head ks (same_meanings ks) c

    pub same_meanings : (ts : Trees) → AllMeant ts
    same_meanings stop c = tt
    same_meanings (more t ts) c = (same_meaning t c, same_meanings ts (behind q m c (binders t)))
