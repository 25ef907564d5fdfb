-- The normal form is one tree and its own normal form; where each step keeps the meaning, so does the normal form.
use Rattle.std.proofs.Common.{◌≡◌, ◌⊎◌, ℕ, suc, ◌+◌, refl, sym, ◌∙◌, ap, inl, inr, subst}
use Rattle.std.specs.Prelude.{Option, Some, None}
use Rattle.qed_terms.specs.declared.head.Head.{Head}
use Rattle.qed_terms.specs.Tree.{Tree, node, Trees, stop, more, head_of, kids_in}
use Rattle.qed_terms.specs.Meaning.{World, Values, meaning, meanings}
use Rattle.qed_memories.specs.Alike.{Alike, AllAlike, RespectsAlike}
use Rattle.qed_memories.proofs.Congruence.{heads_keep_alike}
use Rattle.qed_memories.proofs.Keeps.{alike_then}
use Rattle.qed_simplify.specs.Normal.{Normal, Normals, stays, changes, nothing, each}

module _ (step : Tree → Option Tree) where
  abbrev mutual
    -- how many nodes and rules it takes to a normal form
    pub work : {t u : Tree} → Normal step t u → ℕ
    work (stays ks e) = suc (works ks)
    work (changes ks e d) = suc (works ks + work d)

    pub works : {ts us : Trees} → Normals step ts us → ℕ
    works nothing = 0
    works (each d ds) = work d + works ds

  abbrev Stays : Tree → Tree → ℕ → Type 0
  Stays t v n = (us : Trees) × (ks : Normals step (kids_in t) us) × (step (node (head_of t) us) ≡ None) × (v ≡ node (head_of t) us) × (n ≡ suc (works ks))

  abbrev Changes : Tree → Tree → ℕ → Type 0
  Changes t v n = (us : Trees) × (w : Tree) × (ks : Normals step (kids_in t) us) × (step (node (head_of t) us) ≡ Some w) × (d : Normal step w v) × (n ≡ suc (works ks + work d))

  pub opened : {t v : Tree} (d : Normal step t v) → Stays t v (work d) ⊎ Changes t v (work d)
  opened (stays ks e) = inl (_, ks, e, refl, refl)
  opened (changes ks e d) = inr (_, _, ks, e, d, refl)

  abbrev First : Trees → Trees → ℕ → Type 0
  First stop us n = (us ≡ stop) × (n ≡ 0)
  First (more t ts) us n = (v : Tree) × (vs : Trees) × (d : Normal step t v) × (ds : Normals step ts vs) × (us ≡ more v vs) × (n ≡ work d + works ds)

  pub firsts : {ts us : Trees} (ds : Normals step ts us) → First ts us (works ds)
  firsts nothing = (refl, refl)
  firsts (each d ds) = (_, _, d, ds, refl, refl)

  mutual
    -- a tree has one normal form, in one way
    pub same_normal : {t u v : Tree} (n : Normal step t u) (d : Normal step t v) → (u ≡ v) × (work n ≡ work d)
    same_normal {v = v} (stays {head} {ts} {us} ks e) d = elim (opened d) [
      | inl s ↦ let same = same_normals ks s.1 in (ap (node head) same.0 ∙ sym s.3, ap suc same.1 ∙ sym s.4)
      | inr c ↦ let k : us ≡ c.0 = (same_normals ks c.2).0 in let x = c.3 in let y = ap (λ z. step (node head z)) k in absurd cc
    ]
    same_normal {u = u} {v = v} (changes {head} {ts} {us} {w} ks e n) d = elim (opened d) [
      | inl s ↦ let k : us ≡ s.0 = (same_normals ks s.1).0 in let x = s.2 in let y = ap (λ z. step (node head z)) k in absurd cc
      | inr c ↦
          let k = same_normals ks c.2 in
          let x = c.3 in
          let y = ap (λ z. step (node head z)) k.0 in
          let same : w ≡ c.1 = cc in
          let rest = subst (λ z. (m : Normal step z v) → (u ≡ v) × (work n ≡ work m)) same (λ m. same_normal n m) c.4 in
          (rest.0, (λ i. suc (k.1 i + rest.1 i)) ∙ sym c.5)
    ]

    pub same_normals : {ts us vs : Trees} (ns : Normals step ts us) (ds : Normals step ts vs) → (us ≡ vs) × (works ns ≡ works ds)
    same_normals nothing d = let f = firsts d in (sym f.0, sym f.1)
    same_normals (each d ds) e =
        let f = firsts e in
        let a = same_normal d f.2 in
        let b = same_normals ds f.3 in
        ((λ i. more (a.0 i) (b.0 i)) ∙ sym f.4, (λ i. a.1 i + b.1 i) ∙ sym f.5)

  pub one_normal : {t u v : Tree} → Normal step t u → Normal step t v → u ≡ v
  one_normal n d = (same_normal n d).0

  pub one_normals : {ts us vs : Trees} → Normals step ts us → Normals step ts vs → us ≡ vs
  one_normals ns ds = (same_normals ns ds).0

  mutual
    -- a normal form is its own normal form
    pub settled : {t u : Tree} → Normal step t u → Normal step u u
    settled (stays ks e) = stays (settleds ks) e
    settled (changes ks e d) = settled d

    pub settleds : {ts us : Trees} → Normals step ts us → Normals step us us
    settleds nothing = nothing
    settleds (each d ds) = each (settled d) (settleds ds)

  -- the normal form of a node is that of the node over its kids' normal forms
  pub over_kids : {head : Head} {ts us : Trees} {v : Tree} → Normals step ts us → Normal step (node head us) v → Normal step (node head ts) v
  over_kids {head} {ts} {us} {v} ks d = elim (opened d) [
    | inl s ↦
        let same = one_normals s.1 (settleds ks) in
        subst (λ z. Normal step (node head ts) z) (ap (node head) (sym same) ∙ sym s.3) (stays ks (ap (λ z. step (node head z)) (sym same) ∙ s.2))
    | inr c ↦
        let same = one_normals c.2 (settleds ks) in
        changes ks (ap (λ z. step (node head z)) (sym same) ∙ c.3) c.4
  ]

  -- where no step changes any node of a tree
  abbrev mutual
    pub Fixed : Tree → Type 0
    Fixed (node head ts) = AllFixed ts × (step (node head ts) ≡ None)

    pub AllFixed : Trees → Type 0
    AllFixed stop = Unit {0}
    AllFixed (more t ts) = Fixed t × AllFixed ts

  mutual
    pub normal-fixed : {t u : Tree} → Normal step t u → Fixed u
    normal-fixed (stays ks e) = (normals-fixed ks, e)
    normal-fixed (changes ks e d) = normal-fixed d

    pub normals-fixed : {ts us : Trees} → Normals step ts us → AllFixed us
    normals-fixed nothing = tt
    normals-fixed (each d ds) = (normal-fixed d, normals-fixed ds)

  mutual
    pub fixed-normal : (t : Tree) → Fixed t → Normal step t t
    fixed-normal (node head ts) f = stays (fixed-normals ts f.0) f.1

    pub fixed-normals : (ts : Trees) → AllFixed ts → Normals step ts ts
    fixed-normals stop f = nothing
    fixed-normals (more t ts) f = each (fixed-normal t f.0) (fixed-normals ts f.1)

  -- where each step keeps the meaning under all values, so does the normal form
  module _ (world : World) (respects : RespectsAlike world) (keeps : (head : Head) (ts : Trees) (w : Tree) → AllFixed ts → step (node head ts) ≡ Some w → (env : Values) → Alike (meaning world env w) (meaning world env (node head ts))) where
    over_alike : (head : Head) (ts us : Trees) → ((env : Values) → AllAlike (meanings world env us) (meanings world env ts)) → (env : Values) → Alike (meaning world env (node head us)) (meaning world env (node head ts))
    over_alike head ts us alike env = heads_keep_alike world respects head (λ env'. meanings world env' us) (λ env'. meanings world env' ts) alike env

    mutual
      pub normal_keeps : {t u : Tree} → Normal step t u → (env : Values) → Alike (meaning world env u) (meaning world env t)
      normal_keeps (stays {head} {ts} {us} ks e) env = over_alike head ts us (λ env'. normals_keep ks env') env
      normal_keeps {u = u} (changes {head} {ts} {us} {w} ks e d) env =
          alike_then (meaning world env u) (meaning world env w) (meaning world env (node head ts)) (normal_keeps d env)
          (alike_then (meaning world env w) (meaning world env (node head us)) (meaning world env (node head ts)) (keeps head us w (normals-fixed ks) e env) (over_alike head ts us (λ env'. normals_keep ks env') env))

      normals_keep : {ts us : Trees} → Normals step ts us → (env : Values) → AllAlike (meanings world env us) (meanings world env ts)
      normals_keep nothing env = tt
      normals_keep (each d ds) env = (normal_keeps d env, normals_keep ds env)
