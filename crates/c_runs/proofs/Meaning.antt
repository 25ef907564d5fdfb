-- A tree that is expanded means what it means with calls, where what calls become means what the definitions do.
use Rattle.std.proofs.Common.{◌≡◌, ℕ, suc, ◌<◌, ◌==◌, Bool, true, false, ◌&&◌, ◌||◌, not, ℤ, List, [], ◌∷◌, length, nat_lt, refl, ap, ◌∙◌, arith}
use Rattle.std.proofs.lemmas.Bool.{false≢true, and_parts, eqb-true, ltb-true}
use Rattle.wp_base.specs.declared.kinds.Kind.{Kind}
use Rattle.c_kinds.specs.Models.{low, high}
use Rattle.acsl_trees.specs.declared.heads.Head.{Head}
use Rattle.acsl_trees.specs.declared.heads.Head.TheVariants as hd
use Rattle.acsl_trees.specs.declared.heads.Label.{Label}
use Rattle.acsl_trees.specs.declared.heads.BinderPlace.{BinderPlace}
use Rattle.acsl_trees.specs.declared.heads.Range.{Range}
use Rattle.acsl_trees.specs.declared.heads.Range.TheVariants as range
use Rattle.acsl_trees.specs.Tree.{Tree, Trees, node, stop, more, trees_of, one, two, three}
use Rattle.c_runs.specs.TruthStates.{Value, number, World, number_of, truth, is_true, every_between, some_between}
use Rattle.c_runs.specs.Truth.{Env, Calls, first, head_of, heads_of, in_chain, all_linked, value, values, beyond, short_of, applied}
use Rattle.acsl_expand.specs.Expansion.{CallTrees, expand, expand_kids}
use Rattle.c_runs.specs.TruthLaws.{Signatures, count_of, is_link, are_links, is_chain, is_well_formed, are_well_formed}
use Rattle.c_runs.proofs.Standing.{Keeps, same_refl, Deep, deep_is, deep_call, Around, under, in_place, as_argument, under_label}

-- ---- chains

module _ (b : CallTrees) (args : List Tree) (base d : ℕ) where
  link_head : (t : Tree) → is_link (head_of t) ≡ true → head_of (expand b args base d t) ≡ head_of t
  link_head (node (hd.Link c) ks) is = refl
  link_head (node (hd.LinkPointers c) ks) is = refl
  link_head (node _ ks) is = absurd (false≢true is)

  link_heads : (ts : Trees) → are_links (heads_of ts) ≡ true → heads_of (trees_of (expand_kids b args base d false ts)) ≡ heads_of ts
  link_heads stop are = refl
  link_heads (more t ts) are =
      let e = and_parts (is_link (head_of t)) (are_links (heads_of ts)) are in
      let p = link_head t e.0 in let q = link_heads ts e.1 in λ i. p i ∷ q i

  same_chain : (ts : Trees) (vs : List Value) → is_chain (heads_of ts) ≡ true
      → in_chain (heads_of (trees_of (expand_kids b args base d false ts))) vs ≡ in_chain (heads_of ts) vs
  same_chain stop vs are = refl
  same_chain (more t ts) [] are = refl
  same_chain (more t ts) (v ∷ vs) are = ap (λ ls. all_linked v ls vs) (link_heads ts are)

-- ---- what is well formed, by its parts

-- a binder has so many kids
abbrev Counted : (binders : Bool) → (kids wanted : ℕ) → (rest : Bool) → Type 0
Counted u k n rest = ((u && k == n) && rest) ≡ true

may_bind : (u : Bool) (k n : ℕ) (rest : Bool) → Counted u k n rest → u ≡ true
may_bind u k n rest g = (and_parts u (k == n) (and_parts (u && k == n) rest g).0).0

are_kids : (u : Bool) (k n : ℕ) (rest : Bool) → Counted u k n rest → rest ≡ true
are_kids u k n rest g = (and_parts (u && k == n) rest g).1

miscounted : (u : Bool) (k n : ℕ) (rest : Bool) → (k ≡ n → ⊥) → Counted u k n rest → ⊥
miscounted u k n rest differs g = differs (eqb-true k n (and_parts u (k == n) (and_parts (u && k == n) rest g).0).1)

few_kids : (u : Bool) (k n : ℕ) (rest : Bool) → k < n → Counted u k n rest → ⊥
few_kids u k n rest lt = miscounted u k n rest (λ p. omega (arith, lt, p))

many_kids : (u : Bool) (k n : ℕ) (rest : Bool) → n < k → Counted u k n rest → ⊥
many_kids u k n rest lt = miscounted u k n rest (λ p. omega (arith, lt, p))

-- ---- trees

-- `m` is what calls mean, and `m'` what those mean that are left
module _ (s : Signatures) (m m' : Calls) where
  -- what a call becomes means what the definition gives for the values of the arguments
  abbrev pub Agree : CallTrees → Type 0
  Agree b =
      (f d e : ℕ) (env : Env) (w : World) (ts : List Tree) (vs : List Value) → length ts ≡ (s f).params
      → ((env' : Env) (e' : ℕ) → Keeps d env env' → values m' env' e' w (trees_of ts) ≡ vs)
      → Deep (not (s f).is_term) d e → value m' env e w (b f d ts) ≡ m f vs w

  module _ (b : CallTrees) (agree : Agree b) where
    -- what a tree means in its body, and what it means expanded
    abbrev spelled : Around m' → Tree → Value
    spelled c t = value m c.ns c.n c.w t

    abbrev opened : Around m' → Tree → Value
    opened c t = value m' c.env c.e c.w (expand b c.args c.base c.d t)

    abbrev fits : Around m' → Tree → Bool
    fits c t = is_well_formed c.l c.u s c.n t

    -- the last kid of a binder
    abbrev fits_under : Around m' → Tree → Bool
    fits_under c t = is_well_formed c.l c.u s (suc c.n) t && true

    abbrev all_fit : Around m' → Trees → Bool
    all_fit c ts = are_well_formed c.l c.u s c.n false ts

    abbrev pub Meant : Tree → Type 0
    Meant t = (c : Around m') → fits c t ≡ true → opened c t ≡ spelled c t

    abbrev AllMeant : Trees → Type 0
    AllMeant ts =
        (c : Around m') → all_fit c ts ≡ true → values m' c.env c.e c.w (trees_of (expand_kids b c.args c.base c.d false ts)) ≡ values m c.ns c.n c.w ts

    list_long : (args : List Tree) (base d : ℕ) (ts : Trees) → length (expand_kids b args base d false ts) ≡ count_of ts
    list_long args base d stop = refl
    list_long args base d (more t ts) = ap suc (list_long args base d ts)

    name_meant : (x : ℕ) (ks : Trees) → Meant (node (hd.Name x) ks)
    name_meant x ks c g = c.fits x c.env c.e c.w (ltb-true x c.n (and_parts (nat_lt x c.n) (all_fit c ks) g).0) (λ i le. refl) (same_refl c.l c.w)

    call_meant : (f : ℕ) (ks : Trees) → AllMeant ks → Meant (node (hd.Call f) ks)
    call_meant f ks meant c g =
        let p = and_parts ((count_of ks == (s f).params) && (c.u || (s f).is_term)) (are_well_formed c.l false s c.n false ks) g in
        let q = and_parts (count_of ks == (s f).params) (c.u || (s f).is_term) p.0 in
        agree f c.d c.e c.env c.w (expand_kids b c.args c.base c.d false ks) (values m c.ns c.n c.w ks)
        (list_long c.args c.base c.d ks ∙ eqb-true (count_of ks) (s f).params q.0)
        (λ env' e' keeps. meant (as_argument m' c env' e' keeps) p.1)
        (deep_call c.u (s f).is_term c.d c.e q.1 c.deep)

    label_meant : (label : Label) (ks : Trees) → AllMeant ks → Meant (node (hd.At label) ks)
    label_meant label ks meant c g = let p = and_parts c.l (all_fit c ks) g in ap first (meant (under_label m' c label p.0) p.1)

    chain_meant : (ks : Trees) → AllMeant ks → Meant (node hd.Chain ks)
    chain_meant ks meant c g =
        let p = and_parts (is_chain (heads_of ks)) (all_fit c ks) g in
        ap (λ vs. truth (in_chain (heads_of (trees_of (expand_kids b c.args c.base c.d false ks))) vs)) (meant c p.1)
        ∙ ap truth (same_chain b c.args c.base c.d ks (values m c.ns c.n c.w ks) p.0)

    -- ---- binders, each read where it stands

    abbrev MeantInPlace : Tree → Type 0
    MeantInPlace t = (c : Around m') → fits c t ≡ true → opened (in_place m' c) t ≡ spelled c t

    binder_meant : (t : Tree) → ((c : Around m') → fits c t ≡ true → c.u ≡ true) → MeantInPlace t → Meant t
    binder_meant t may meant c g = ap (λ e. value m' c.env e c.w (expand b c.args c.base c.d t)) (deep_is c.u c.d c.e (may c g) c.deep) ∙ meant c g

    inside_meant : (t : Tree) → Meant t → (c : Around m') → fits_under c t ≡ true → (v : Value) → opened (under m' c v) t ≡ spelled (under m' c v) t
    inside_meant t meant c g v = meant (under m' c v) (and_parts (is_well_formed c.l c.u s (suc c.n) t) true g).0

    let_meant : (a t : Tree) → Meant a → Meant t → Meant (two hd.Let a t)
    let_meant a t ma mt = binder_meant (two hd.Let a t) (λ c g. may_bind c.u 2 2 _ g) go
      where
        go : MeantInPlace (two hd.Let a t)
        go c g =
            let p = and_parts (fits c a) (fits_under c t) (are_kids c.u 2 2 _ g) in
            inside_meant t mt c p.1 (opened (in_place m' c) a) ∙ ap (λ v. spelled (under m' c v) t) (ma (in_place m' c) p.0)

    -- whether the last kid is true for all or for some of the numbers from one to another one
    abbrev Over : Type 0
    Over = (low high : ℤ) → (ℤ → Bool) → Bool

    abbrev between : Over → (low_out high_out : Bool) → (low high : Value) → (Value → Value) → Value
    between over low_out high_out v w inside = truth (over (beyond low_out (number_of v)) (short_of high_out (number_of w)) (λ z. is_true (inside (number z))))

    between_meant : (over : Over) (low_out high_out : Bool) (a z t : Tree) → Meant a → Meant z → Meant t
        → (c : Around m') → Counted c.u 3 3 (fits c a && (fits c z && fits_under c t))
        → between over low_out high_out (opened (in_place m' c) a) (opened (in_place m' c) z) (λ v. opened (under m' c v) t)
        ≡ between over low_out high_out (spelled c a) (spelled c z) (λ v. spelled (under m' c v) t)
    between_meant over low_out high_out a z t ma mz mt c g =
        let p = and_parts (fits c a) (fits c z && fits_under c t) (are_kids c.u 3 3 _ g) in
        let q = and_parts (fits c z) (fits_under c t) p.1 in
        let low_ = ma (in_place m' c) p.0 in
        let high_ = mz (in_place m' c) q.0 in
        let inside = inside_meant t mt c q.1 in λ i. between over low_out high_out (low_ i) (high_ i) (λ v. inside v i)

    abbrev of_kind : Over → World → Kind → (Value → Value) → Value
    of_kind over w k inside = truth (over (low w.model k) (high w.model k) (λ z. is_true (inside (number z))))

    of_kind_meant : (over : Over) (k : Kind) (t : Tree) → Meant t → (c : Around m') → Counted c.u 1 1 (fits_under c t)
        → of_kind over c.w k (λ v. opened (under m' c v) t) ≡ of_kind over c.w k (λ v. spelled (under m' c v) t)
    of_kind_meant over k t mt c g = let inside = inside_meant t mt c (are_kids c.u 1 1 _ g) in λ i. of_kind over c.w k (λ v. inside v i)

    abbrev MeantBetween : (Range → Head) → Type 0
    MeantBetween q = (low_out high_out : Bool) (place : BinderPlace) (a z t : Tree) → Meant a → Meant z → Meant t → Meant (three (q (range.Between low_out high_out place)) a z t)

    every_between_meant : MeantBetween hd.Every
    every_between_meant low_out high_out place a z t ma mz mt =
        binder_meant (three (hd.Every (range.Between low_out high_out place)) a z t) (λ c g. may_bind c.u 3 3 _ g)
        (between_meant every_between low_out high_out a z t ma mz mt)

    some_between_meant : MeantBetween hd.Some
    some_between_meant low_out high_out place a z t ma mz mt =
        binder_meant (three (hd.Some (range.Between low_out high_out place)) a z t) (λ c g. may_bind c.u 3 3 _ g)
        (between_meant some_between low_out high_out a z t ma mz mt)

    every_of_kind_meant : (k : Kind) (place : BinderPlace) (t : Tree) → Meant t → Meant (one (hd.Every (range.Kind k place)) t)
    every_of_kind_meant k place t mt = binder_meant (one (hd.Every (range.Kind k place)) t) (λ c g. may_bind c.u 1 1 _ g) (of_kind_meant every_between k t mt)

    some_of_kind_meant : (k : Kind) (place : BinderPlace) (t : Tree) → Meant t → Meant (one (hd.Some (range.Kind k place)) t)
    some_of_kind_meant k place t mt = binder_meant (one (hd.Some (range.Kind k place)) t) (λ c g. may_bind c.u 1 1 _ g) (of_kind_meant some_between k t mt)

    mutual
      pub same_value : (t : Tree) → Meant t
      same_value (node (hd.Name x) ks) c g = name_meant x ks c g
      same_value (node (hd.Call f) ks) c g = call_meant f ks (same_values ks) c g
      same_value (node (hd.At label) ks) c g = label_meant label ks (same_values ks) c g
      same_value (node hd.Chain ks) c g = chain_meant ks (same_values ks) c g
      same_value (node hd.Let (more a (more t stop))) c g = let_meant a t (same_value a) (same_value t) c g
      same_value (node hd.Let stop) c g = absurd (few_kids c.u 0 2 _ (omega arith) g)
      same_value (node hd.Let (more a stop)) c g = absurd (few_kids c.u 1 2 _ (omega arith) g)
      same_value (node hd.Let (more a (more t (more x ks)))) c g = absurd (many_kids c.u (count_of (more a (more t (more x ks)))) 2 _ (omega arith) g)
      same_value (node (hd.Every (range.Between p q place)) (more a (more z (more t stop)))) c g =
          every_between_meant p q place a z t (same_value a) (same_value z) (same_value t) c g
      same_value (node (hd.Every (range.Between p q place)) stop) c g = absurd (few_kids c.u 0 3 _ (omega arith) g)
      same_value (node (hd.Every (range.Between p q place)) (more a stop)) c g = absurd (few_kids c.u 1 3 _ (omega arith) g)
      same_value (node (hd.Every (range.Between p q place)) (more a (more z stop))) c g = absurd (few_kids c.u 2 3 _ (omega arith) g)
      same_value (node (hd.Every (range.Between p q place)) (more a (more z (more t (more x ks))))) c g =
          absurd (many_kids c.u (count_of (more a (more z (more t (more x ks))))) 3 _ (omega arith) g)
      same_value (node (hd.Every (range.Kind k place)) (more t stop)) c g = every_of_kind_meant k place t (same_value t) c g
      same_value (node (hd.Every (range.Kind k place)) stop) c g = absurd (few_kids c.u 0 1 _ (omega arith) g)
      same_value (node (hd.Every (range.Kind k place)) (more t (more x ks))) c g = absurd (many_kids c.u (count_of (more t (more x ks))) 1 _ (omega arith) g)
      same_value (node (hd.Some (range.Between p q place)) (more a (more z (more t stop)))) c g =
          some_between_meant p q place a z t (same_value a) (same_value z) (same_value t) c g
      same_value (node (hd.Some (range.Between p q place)) stop) c g = absurd (few_kids c.u 0 3 _ (omega arith) g)
      same_value (node (hd.Some (range.Between p q place)) (more a stop)) c g = absurd (few_kids c.u 1 3 _ (omega arith) g)
      same_value (node (hd.Some (range.Between p q place)) (more a (more z stop))) c g = absurd (few_kids c.u 2 3 _ (omega arith) g)
      same_value (node (hd.Some (range.Between p q place)) (more a (more z (more t (more x ks))))) c g =
          absurd (many_kids c.u (count_of (more a (more z (more t (more x ks))))) 3 _ (omega arith) g)
      same_value (node (hd.Some (range.Kind k place)) (more t stop)) c g = some_of_kind_meant k place t (same_value t) c g
      same_value (node (hd.Some (range.Kind k place)) stop) c g = absurd (few_kids c.u 0 1 _ (omega arith) g)
      same_value (node (hd.Some (range.Kind k place)) (more t (more x ks))) c g = absurd (many_kids c.u (count_of (more t (more x ks))) 1 _ (omega arith) g)
      same_value (node head ks) c g = ap (applied c.w head) (same_values ks c g)

      same_values : (ts : Trees) → AllMeant ts
      same_values stop c g = refl
      same_values (more t ts) c g =
          let p = and_parts (fits c t) (all_fit c ts) g in
          let q = same_value t c p.0 in
          let r = same_values ts c p.1 in λ i. q i ∷ r i
