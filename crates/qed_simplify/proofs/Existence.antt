-- Each tree has a normal form: a step at a quantifier makes the weight fall, and all other rules go down the tree.
use Rattle.std.proofs.Common.{◌≡◌, ℕ, zero, suc, ◌+◌, ◌<◌, ◌≤◌, Bool, true, false, cond, inl, inr, bytes_eq, List, [], ◌∷◌, ◌++◌, refl, sym, ◌∙◌, ap, subst, arith}
use Rattle.std.specs.Prelude.{Option, Some, None}
use Rattle.std.specs.List.{list_any}
use Rattle.qed_terms.specs.declared.head.Head.{Head}
use Rattle.qed_terms.specs.declared.head.Head.TheVariants as h
use Rattle.qed_terms.specs.declared.head.FormOp.{FormOp}
use Rattle.qed_terms.specs.declared.head.FormOp.TheVariants as rel
use Rattle.qed_terms.specs.Setting.{Param, Logic, Setting, same_param, kids_match, is_plain, are_plain, some_takes, is_regular_after, are_regular_after, is_regular}
use Rattle.qed_terms.specs.Tree.{Tree, node, Trees, stop, more, list_of, head_of, one, two, three, not_of}
use Rattle.qed_rules.specs.Rules.{is_formula, then_some, nots, first_some, step}
use Rattle.qed_substitution.specs.Substitution.{quantifier}
use Rattle.qed_rules.specs.Passes.{normal_junction}
use Rattle.qed_linear.proofs.Facts.{and_left, and_right}
use Rattle.qed_calls.specs.Calls.{with_arguments, all_with_arguments, fits_call, base_at, base_of}
use Rattle.qed_calls.proofs.Keeps.{has_name, taken_named, regular_functions}
use Rattle.qed_simplify.specs.Normal.{Normal, Normals, stays, changes, nothing, each}
use Rattle.qed_simplify.proofs.Derived.{work, works, opened, same_normal, Fixed, AllFixed, fixed-normal, fixed-normals, normal-fixed, normals-fixed, over_kids}
use Rattle.qed_simplify.proofs.Relations.{truth_normal}
use Rattle.qed_simplify.proofs.Memories.{asked_found}
use Rattle.qed_simplify.proofs.Passed.{not_stays, not_form, relation_normal, passes}
use Rattle.qed_simplify.proofs.Weights.{Numbers, with_number, least, weight, weights, range_weight, grows, at_least, under_both, kids_within}
use Rattle.qed_simplify.proofs.Tables.{call_step}
use Rattle.qed_simplify.proofs.Calls.{argument_there, bodies_light, based, plain_base, base_skip, later_none}
use Rattle.qed_simplify.proofs.Lighter.{step_light, forall_falls, exists_falls}

abbrev is_call : Head → Bool
is_call (h.App x) = true
is_call head = false

regrouped : (before : List Logic) (f : Logic) (fs : List Logic) → (before ++ f ∷ []) ++ fs ≡ before ++ f ∷ fs
regrouped [] f fs = refl
regrouped (g ∷ before) f fs = ap (λ gs. g ∷ gs) (regrouped before f fs)

module _ (set : Setting) (regular : is_regular set ≡ true) where
  -- ---- a normal form weighs no more than its tree

  abbrev NoHeavier : Tree → Tree → Type 0
  NoHeavier u t = (e : Numbers) → weight u e ≤ weight t e

  abbrev AllNoHeavier : Trees → Trees → Type 0
  AllNoHeavier stop ts = Unit {0}
  AllNoHeavier (more u us) stop = Unit {0}
  AllNoHeavier (more u us) (more t ts) = NoHeavier u t × AllNoHeavier us ts

  all_lighter : {ts us : Trees} → Normals (step set) ts us → AllNoHeavier us ts → (e : Numbers) → weights us e ≤ weights ts e
  all_lighter nothing k e = omega arith
  all_lighter (each d ds) k e = let a = k.0 e in let b = all_lighter ds k.1 e in omega (arith, a, b)

  body_lighter : (x : List ℕ) (g f : Tree) (m n : ℕ) → m ≤ n → NoHeavier g f → (e : Numbers) → weight g (with_number e x m) ≤ weight f (with_number e x n)
  body_lighter x g f m n l k e =
      let a = grows g (with_number e x m) (with_number e x n) (λ y s q. under_both (bytes_eq y x) s m (e y s) n (e y s) l (λ r. omega arith)) in
      let b = k (with_number e x n) in
      omega (arith, a, b)

  range_lighter : {ts us : Trees} (x : List ℕ) → Normals (step set) ts us → AllNoHeavier us ts → (e : Numbers) → range_weight x us e ≤ range_weight x ts e
  range_lighter x nothing k e = omega arith
  range_lighter x (each d nothing) k e = k.0 e
  range_lighter x (each d (each d1 nothing)) k e = let a = k.0 e in let b = k.1.0 e in omega (arith, a, b)
  range_lighter x (each {t} {u} d (each d1 (each {t = f} {u = g} d2 ds))) k e =
      let a = k.0 e in
      let b = k.1.0 e in
      let c = body_lighter x g f (weight u e) (weight t e) a k.1.1.0 e in
      let r = all_lighter ds k.1.1.1 e in
      omega (arith, a, b, c, r)

  node_lighter : {ts us : Trees} (head : Head) → Normals (step set) ts us → AllNoHeavier us ts → NoHeavier (node head us) (node head ts)
  node_lighter (h.Var x s) ks k e = let a = all_lighter ks k e in omega (arith, a)
  node_lighter (h.Forall x) ks k e = range_lighter x ks k e
  node_lighter (h.Exists x) ks k e = range_lighter x ks k e
  node_lighter head ks k e = all_lighter ks k e

  mutual
    pub normal_light : {t u : Tree} → Normal (step set) t u → NoHeavier u t
    normal_light (stays {head} ks q) e = node_lighter head ks (normals_light ks) e
    normal_light (changes {head} {us = us} {w = w} ks q d) e =
        let a = node_lighter head ks (normals_light ks) e in
        let b = (step_light set) e regular head us w q in
        let c = normal_light d e in
        omega (arith, a, b, c)

    normals_light : {ts us : Trees} → Normals (step set) ts us → AllNoHeavier us ts
    normals_light nothing = tt
    normals_light (each d ds) = ((λ e. normal_light d e), normals_light ds)

  -- ---- the normal form of a tree, where all lighter trees have one

  abbrev pub Found : Tree → Type 0
  Found t = (u : Tree) × Normal (step set) t u

  abbrev FoundAll : Trees → Type 0
  FoundAll ts = (us : Trees) × Normals (step set) ts us

  abbrev Below : ℕ → Type 0
  Below n = (t : Tree) → weight t least < n → Found t

  relation_found : (o : FormOp) (us : Trees) → AllFixed (step set) us → Found (node (h.Form o) us)
  relation_found (rel.Read k) (more t (more b (more x stop))) f = (asked_found set) (rel.Read k) t b (one x) refl f
  relation_found (rel.Write k) (more t (more b (more x stop))) f = (asked_found set) (rel.Write k) t b (one x) refl f
  relation_found rel.Live (more t (more b stop)) f = (asked_found set) rel.Live t b stop refl f
  relation_found o us f = (_, (relation_normal set) o us f refl)

  quantifier_falls : (b : Bool) (x : List ℕ) (t u a w : Tree) → (step set) (node (quantifier b x) (three t u a)) ≡ Some w → weight w least < weight (node (quantifier b x) (three t u a)) least
  quantifier_falls true x t u a w k = (forall_falls set) least x t u a w k
  quantifier_falls false x t u a w k = (exists_falls set) least x t u a w k

  range_below : (b : Bool) (x : List ℕ) (t u g f : Tree) → NoHeavier g f → weight (node (quantifier b x) (three t u g)) least ≤ range_weight x (three t u f) least
  range_below true x t u g f k = let a = body_lighter x g f (weight t least) (weight t least) (omega arith) k least in omega (arith, a)
  range_below false x t u g f k = let a = body_lighter x g f (weight t least) (weight t least) (omega arith) k least in omega (arith, a)

  module _ (n : ℕ) (below : Below n) where
    range_found : (b : Bool) (x : List ℕ) (t u a : Tree) → AllFixed (step set) (three t u a) → weight (node (quantifier b x) (three t u a)) least < suc n → Found (node (quantifier b x) (three t u a))
    range_found b x t u a f k = go ((step set) (node (quantifier b x) (three t u a))) refl
      where
        go : (o : Option Tree) → (step set) (node (quantifier b x) (three t u a)) ≡ o → Found (node (quantifier b x) (three t u a))
        go None q = (node (quantifier b x) (three t u a), stays (fixed-normals (step set) (three t u a) f) q)
        go (Some w) q =
            let l = quantifier_falls b x t u a w q in
            let r = below w (omega (arith, l, k)) in
            (r.0, changes (fixed-normals (step set) (three t u a) f) q r.1)

    -- the negation of a quantifier, by the normal form of the negation of its body
    turned_found : (b c : Bool) (x : List ℕ) (t u a : Tree) → Fixed (step set) (node (quantifier b x) (three t u a)) → AllFixed (step set) (three t u a) → (step set) (not_of (node (quantifier b x) (three t u a))) ≡ Some (node (quantifier c x) (three t u (not_of a)))
        → range_weight x (three t u a) least < suc n → Found (not_of a) → Found (not_of (node (quantifier b x) (three t u a)))
    turned_found b c x t u a f k q l r =
        let light : NoHeavier r.0 a = λ e. let o = normal_light r.1 e in omega (arith, o) in
        let m = range_below c x t u r.0 a light in
        let found = range_found c x t u r.0 (k.0, (k.1.0, (normal-fixed (step set) r.1, tt))) (omega (arith, l, m)) in
        (found.0, changes (each (fixed-normal (step set) (node (quantifier b x) (three t u a)) f) nothing) q (over_kids (step set) (each (fixed-normal (step set) t k.0) (each (fixed-normal (step set) u k.1.0) (each r.1 nothing))) found.1))

    mutual
      not_found : (t : Tree) → Fixed (step set) t → weight t least < suc n → Found (not_of t)
      not_found (node h.True ts) f k = (_, changes (each (fixed-normal (step set) (node h.True ts) f) nothing) refl ((truth_normal set) false))
      not_found (node h.False ts) f k = (_, changes (each (fixed-normal (step set) (node h.False ts) f) nothing) refl ((truth_normal set) true))
      not_found (node h.Not (more u stop)) f k = go (is_formula (head_of u)) refl
        where
          go : (b : Bool) → is_formula (head_of u) ≡ b → Found (not_of (not_of u))
          go true q = (u, changes (each (fixed-normal (step set) (not_of u) f) nothing) (ap (λ b. first_some (then_some b u) None) q) (fixed-normal (step set) u f.0.0))
          go false q = (not_of (not_of u), (not_stays set) h.Not (one u) f (ap (λ b. first_some (then_some b u) None) q))
      not_found (node h.And ts) f k =
          let ks = nots_found ts f.0 k in
          (normal_junction false (list_of ks.0), changes (each (fixed-normal (step set) (node h.And ts) f) nothing) refl (over_kids (step set) ks.1 ((passes set) h.Or ks.0 (normals-fixed (step set) ks.1))))
      not_found (node h.Or ts) f k =
          let ks = nots_found ts f.0 k in
          (normal_junction true (list_of ks.0), changes (each (fixed-normal (step set) (node h.Or ts) f) nothing) refl (over_kids (step set) ks.1 ((passes set) h.And ks.0 (normals-fixed (step set) ks.1))))
      not_found (node (h.Forall x) (more t (more u (more a stop)))) f k =
          turned_found true false x t u a f f.0 refl k (not_found a f.0.1.1.0 (let l = at_least a (with_number least x (weight t least)) in omega (arith, k, l)))
      not_found (node (h.Exists x) (more t (more u (more a stop)))) f k =
          turned_found false true x t u a f f.0 refl k (not_found a f.0.1.1.0 (let l = at_least a (with_number least x (weight t least)) in omega (arith, k, l)))
      not_found (node (h.Form o) ts) f k = (_, (not_form set) o ts f)
      not_found (node head ts) f k = (not_of (node head ts), (not_stays set) head ts f refl)

      nots_found : (ts : Trees) → AllFixed (step set) ts → weights ts least < suc n → FoundAll (nots ts)
      nots_found stop f k = (stop, nothing)
      nots_found (more t ts) f k =
          let r = not_found t f.0 (omega (arith, k)) in
          let rs = nots_found ts f.1 (omega (arith, k)) in
          (more r.0 rs.0, each r.1 rs.1)

    -- `or` and `and` over two whose normal forms are known
    joined : (head : Head) (a b : Tree) → ((us : Trees) → AllFixed (step set) us → Found (node head us)) → Found a → Found b → Found (node head (two a b))
    joined head a b found l r =
        let ks : Normals (step set) (two a b) (two l.0 r.0) = each l.1 (each r.1 nothing) in
        let o = found (two l.0 r.0) (normals-fixed (step set) ks) in
        (o.0, over_kids (step set) ks o.1)

    or_found : (us : Trees) → AllFixed (step set) us → Found (node h.Or us)
    or_found us f = (normal_junction false (list_of us), (passes set) h.Or us f)

    and_found : (us : Trees) → AllFixed (step set) us → Found (node h.And us)
    and_found us f = (normal_junction true (list_of us), (passes set) h.And us f)

    plain_found : (head : Head) (us : Trees) → is_call head ≡ false → AllFixed (step set) us → weight (node head us) least < suc n → Found (node head us)
    plain_found h.Not (more t stop) c f k = not_found t f.0 (omega (arith, k))
    plain_found h.Imp (more a (more b stop)) c f k =
        let r = joined h.Or (not_of a) b or_found (not_found a f.0 (omega (arith, k))) (b, fixed-normal (step set) b f.1.0) in
        (r.0, changes {v = r.0} (fixed-normals (step set) (two a b) f) refl r.1)
    plain_found h.Iff (more a (more b stop)) c f k =
        let p = joined h.Or (not_of a) b or_found (not_found a f.0 (omega (arith, k))) (b, fixed-normal (step set) b f.1.0) in
        let q = joined h.Or a (not_of b) or_found (a, fixed-normal (step set) a f.0) (not_found b f.1.0 (omega (arith, k))) in
        let r = joined h.And (node h.Or (two (not_of a) b)) (node h.Or (two a (not_of b))) and_found p q in
        (r.0, changes {v = r.0} (fixed-normals (step set) (two a b) f) refl r.1)
    plain_found (h.Forall x) (more t (more u (more a stop))) c f k = range_found true x t u a f k
    plain_found (h.Exists x) (more t (more u (more a stop))) c f k = range_found false x t u a f k
    plain_found (h.App x) us c f k = absurd cc
    plain_found (h.Form o) us c f k = relation_found o us f
    plain_found head us c f k = (_, (passes set) head us f)

    -- ---- calls: the base case of a function has calls of functions before it alone

    abbrev Known : List Logic → Type 0
    Known fs = (y : List ℕ) → has_name y fs ≡ true → (vs : Trees) → AllFixed (step set) vs → weights vs least < suc n → Found (node (h.App y) vs)

    module _ (before : List Logic) (known : Known before) (ps : List Param) (us : Trees) (match : kids_match ps us ≡ true) (fixed : AllFixed (step set) us) (small : weights us least < suc n) where
      bodies_small : (ts vs : Trees) → are_plain ps (some_takes before) ts ≡ true → Normals (step set) (all_with_arguments ps us ts) vs → weights vs least < suc n
      bodies_small ts vs k ks =
          let a = all_lighter ks (normals_light ks) least in
          let b = bodies_light least ps us match (some_takes before) ts k in
          omega (arith, small, a, b)

      mutual
        -- a body over arguments in normal form
        body_found : (t : Tree) → is_plain ps (some_takes before) t ≡ true → Found (with_arguments ps us t)
        body_found (node (h.Var x s) ts) k =
            argument_there Found (AllFixed (step set)) (λ u vs f. ((u, fixed-normal (step set) u f.0), f.1)) ps us x s (node (h.Var x s) ts) match
            (and_left (list_any (same_param (record { name = x; sort = s })) ps) (are_plain ps (some_takes before) ts) k) fixed
        body_found (node (h.App y) ts) k =
            let named = taken_named y ts before (and_left (some_takes before y ts) (are_plain ps (some_takes before) ts) k) in
            let plain = and_right (some_takes before y ts) (are_plain ps (some_takes before) ts) k in
            let ks = bodies_found ts plain in
            let r = known y named ks.0 (normals-fixed (step set) ks.1) (bodies_small ts ks.0 plain ks.1) in
            (r.0, over_kids (step set) ks.1 r.1)
        body_found (node (h.Forall x) ts) k = absurd cc
        body_found (node (h.Exists x) ts) k = absurd cc
        body_found (node head ts) k =
            let ks = bodies_found ts k in
            let r = plain_found head ks.0 refl (normals-fixed (step set) ks.1) (bodies_small ts ks.0 k ks.1) in
            (r.0, over_kids (step set) ks.1 r.1)

        bodies_found : (ts : Trees) → are_plain ps (some_takes before) ts ≡ true → FoundAll (all_with_arguments ps us ts)
        bodies_found stop k = (stop, nothing)
        bodies_found (more t ts) k =
            let r = body_found t (and_left (is_plain ps (some_takes before) t) (are_plain ps (some_takes before) ts) k) in
            let rs = bodies_found ts (and_right (is_plain ps (some_takes before) t) (are_plain ps (some_takes before) ts) k) in
            (more r.0 rs.0, each r.1 rs.1)

    -- one function more
    one_known : (f : Logic) (fs before : List Logic) → are_regular_after before (f ∷ fs) ≡ true → set.logic ≡ before ++ f ∷ fs → Known before → Known (before ++ f ∷ [])
    one_known f fs before r e known y named vs fixed small = go (has_name y before) refl (base_of set.logic y vs) refl
      where
        this : is_regular_after before f ≡ true
        this = and_left (is_regular_after before f) (are_regular_after (before ++ f ∷ []) fs) r

        later : are_regular_after (before ++ f ∷ []) fs ≡ true
        later = and_right (is_regular_after before f) (are_regular_after (before ++ f ∷ []) fs) r

        taken : (w : Tree) → (b : Bool) → fits_call y vs f ≡ b → cond b (base_at f vs) (base_of fs y vs) ≡ Some w → base_of set.logic y vs ≡ Some w → Found (node (h.App y) vs)
        taken w true q s whole =
            let p = based f y vs w q s in
            let found = body_found before known f.params vs p.0 fixed small f.base (plain_base before f this) in
            (found.0, changes (fixed-normals (step set) vs fixed) (call_step set y vs ∙ whole) (subst (λ z. Normal (step set) z found.0) p.1 found.1))
        taken w false q s whole = let none = later_none fs (before ++ f ∷ []) y vs later named in absurd cc

        go : (b : Bool) → has_name y before ≡ b → (o : Option Tree) → base_of set.logic y vs ≡ o → Found (node (h.App y) vs)
        go true q o s = known y q vs fixed small
        go false q None s = (node (h.App y) vs, stays (fixed-normals (step set) vs fixed) (call_step set y vs ∙ s))
        go false q (Some w) s = taken w (fits_call y vs f) refl (sym (base_skip before (f ∷ fs) y vs q) ∙ sym (ap (λ gs. base_of gs y vs) e) ∙ s) s

    all_known : (fs before : List Logic) → are_regular_after before fs ≡ true → set.logic ≡ before ++ fs → Known before → (y : List ℕ) (vs : Trees) → AllFixed (step set) vs → weights vs least < suc n → Found (node (h.App y) vs)
    all_known [] before r e known y vs fixed small = go (has_name y before) refl (base_of set.logic y vs) refl
      where
        go : (b : Bool) → has_name y before ≡ b → (o : Option Tree) → base_of set.logic y vs ≡ o → Found (node (h.App y) vs)
        go true q o s = known y q vs fixed small
        go false q None s = (node (h.App y) vs, stays (fixed-normals (step set) vs fixed) (call_step set y vs ∙ s))
        go false q (Some w) s = let none = sym (ap (λ gs. base_of gs y vs) e ∙ base_skip before [] y vs q) ∙ s in absurd cc
    all_known (f ∷ fs) before r e known y vs fixed small =
        all_known fs (before ++ f ∷ []) (and_right (is_regular_after before f) (are_regular_after (before ++ f ∷ []) fs) r) (e ∙ sym (regrouped before f fs)) (one_known f fs before r e known) y vs fixed small

    none_known : Known []
    none_known y k vs fixed small = absurd cc

    node_found : (head : Head) (us : Trees) → AllFixed (step set) us → weight (node head us) least < suc n → Found (node head us)
    node_found (h.App x) us f k = all_known set.logic [] (regular_functions set regular) refl none_known x us f k
    node_found head us f k = plain_found head us refl f k

    mutual
      tree_found : (t : Tree) → weight t least < suc n → Found t
      tree_found (node head ts) k =
          let l = kids_within head ts in
          let ks = trees_found ts (omega (arith, k, l)) in
          let m = node_lighter head ks.1 (normals_light ks.1) least in
          let r = node_found head ks.0 (normals-fixed (step set) ks.1) (omega (arith, k, m)) in
          (r.0, over_kids (step set) ks.1 r.1)

      trees_found : (ts : Trees) → weights ts least < suc n → FoundAll ts
      trees_found stop k = (stop, nothing)
      trees_found (more t ts) k =
          let r = tree_found t (omega (arith, k)) in
          let rs = trees_found ts (omega (arith, k)) in
          (more r.0 rs.0, each r.1 rs.1)

  found_below : (n : ℕ) → Below n
  found_below zero t k = absurd (omega (arith, k))
  found_below (suc n) t k = tree_found n (λ u l. found_below n u l) t k

  pub each_has_normal : (t : Tree) → Found t
  each_has_normal t = found_below (suc (weight t least)) t (omega arith)

-- ---- how much work the normal form of a tree is

module _ (set : Setting) where
  pub work_by : (b : Bool) → is_regular set ≡ b → Tree → ℕ
  work_by true k t = work (step set) (each_has_normal set k t).1
  work_by false k t = 0

  unfoldable pub work_on : Tree → ℕ
  work_on t = work_by (is_regular set) refl t

  abbrev pub works_on : Trees → ℕ
  works_on stop = 0
  works_on (more t ts) = work_on t + works_on ts

module _ (set : Setting) (regular : is_regular set ≡ true) where
  work_at : {t u : Tree} (d : Normal (step set) t u) (b : Bool) (k : is_regular set ≡ b) → work_by set b k t ≡ work (step set) d
  unfolding work_by
  work_at {t} d true k = (same_normal (step set) (each_has_normal set k t).1 d).1
  work_at d false k = absurd cc

  work_of : {t u : Tree} (d : Normal (step set) t u) → work_on set t ≡ work (step set) d
  unfolding work_on
  work_of d = work_at d (is_regular set) refl

  works_of : {ts us : Trees} (ds : Normals (step set) ts us) → works_on set ts ≡ works (step set) ds
  works_of nothing = refl
  works_of (each d ds) = let a = work_of d in let b = works_of ds in λ i. a i + b i

  -- that of its kids is less
  pub kids_work : (head : Head) (ts : Trees) → works_on set ts < work_on set (node head ts)
  kids_work head ts = elim (opened (step set) (each_has_normal set regular (node head ts)).1) [
    | inl s ↦ let a = works_of s.1 in let b = work_of (each_has_normal set regular (node head ts)).1 in let c = s.4 in omega (arith, a, b, c)
    | inr c ↦ let a = works_of c.2 in let b = work_of (each_has_normal set regular (node head ts)).1 in let q = c.5 in omega (arith, a, b, q)
  ]

  -- and that of what a rule makes of it over its kids' normal forms
  pub next_work : {ts us : Trees} (head : Head) (w : Tree) → Normals (step set) ts us → (step set) (node head us) ≡ Some w → work_on set w < work_on set (node head ts)
  next_work {ts} {us} head w ks q =
      let r = each_has_normal set regular w in
      let d : Normal (step set) (node head ts) r.0 = changes ks q r.1 in
      let a = work_of d in
      let b = work_of r.1 in
      omega (arith, a, b)
