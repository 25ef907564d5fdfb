-- A normal form has no free name that its tree hasn't: a free name weighs its number at least, and a name that isn't free weighs nothing.
use Rattle.std.proofs.Common.{◌≡◌, ℕ, suc, ◌≤◌, Bool, true, false, not, ◌&&◌, ◌||◌, inl, inr, cond, List, bytes_eq, refl, sym, ◌∙◌, ap, arith}
use Rattle.qed_terms.specs.declared.head.Sort.{Sort}
use Rattle.qed_terms.specs.declared.head.Sort.TheVariants as sort
use Rattle.qed_terms.specs.declared.head.Head.TheVariants as h
use Rattle.qed_terms.specs.Free.{is_free, free_among}
use Rattle.qed_terms.specs.Setting.{Setting, is_regular}
use Rattle.qed_terms.specs.Tree.{Tree, node, Trees, stop, more}
use Rattle.qed_terms.specs.WellFormed.{same_sort}
use Rattle.qed_numbers.proofs.Tests.{or_either}
use Rattle.qed_linear.proofs.Facts.{and_left, and_right}
use Rattle.qed_substitution.proofs.Names.{name_itself, same_name}
use Rattle.qed_rules.specs.Rules.{step}
use Rattle.qed_simplify.specs.Normal.{Normal, NormalFreeNames}
use Rattle.qed_simplify.proofs.Existence.{normal_light}
use Rattle.qed_simplify.proofs.Weights.{Numbers, with_number, least, weight, weights, range_weight, free_first, bound_at, grows}

module _ (set : Setting) (regular : is_regular set ≡ true) where
  -- a number where names and sorts agree, and else 0
  abbrev alone : List ℕ → Sort → ℕ → Numbers
  alone x s n = λ y r. cond (bytes_eq x y && same_sort s r) n 0

  same_sorts : (s r : Sort) → same_sort s r ≡ true → s ≡ r
  same_sorts sort.Int sort.Int k = refl
  same_sorts sort.Memory sort.Memory k = refl
  same_sorts sort.Table sort.Table k = refl
  same_sorts s r k = absurd cc

  sort_itself : (s : Sort) → same_sort s s ≡ true
  sort_itself sort.Int = refl
  sort_itself sort.Memory = refl
  sort_itself sort.Table = refl

  -- ---- a free name weighs its number at least

  -- numbers of which that of the name is n
  abbrev Has : List ℕ → Sort → ℕ → Numbers → Type 0
  Has x s n e = n ≤ e x s

  has_below : (x : List ℕ) (s : Sort) (n : ℕ) (e : Numbers) (y : List ℕ) (m : ℕ) → bound_at (bytes_eq x y) s ≡ false → Has x s n e → Has x s n (with_number e y m)
  has_below x sort.Int n e y m k l = let c : cond (bytes_eq x y) m (e x sort.Int) ≡ e x sort.Int = ap (λ b. cond b m (e x sort.Int)) (unit (bytes_eq x y) k) in omega (arith, c, l)
    where
      unit : (b : Bool) → b && true ≡ false → b ≡ false
      unit true r = absurd cc
      unit false r = refl
  has_below x sort.Memory n e y m k l = l
  has_below x sort.Table n e y m k l = l

  unbound : (b c : Bool) → not b && c ≡ true → (b ≡ false) × (c ≡ true)
  unbound true c k = absurd cc
  unbound false c k = (refl, k)

  range_weighs : (x : List ℕ) (s : Sort) (n : ℕ) (y : List ℕ) (low high f : Tree) (ts : Trees) (e : Numbers) → free_among (bound_at (bytes_eq x y) s) x s (more low (more high (more f ts))) ≡ true → Has x s n e
      → (is_free x s low ≡ true → n ≤ weight low e) → (is_free x s high ≡ true → n ≤ weight high e) → ((d : Numbers) → Has x s n d → is_free x s f ≡ true → n ≤ weight f d) → (free_among false x s ts ≡ true → n ≤ weights ts e)
      → n ≤ range_weight y (more low (more high (more f ts))) e
  range_weighs x s n y low high f ts e k l p q r v = elim (or_either ((is_free x s low || is_free x s high) || (not (bound_at (bytes_eq x y) s) && is_free x s f)) (free_among false x s ts) k) [
    | inl c ↦ elim (or_either (is_free x s low || is_free x s high) (not (bound_at (bytes_eq x y) s) && is_free x s f) c) [
      | inl a ↦ elim (or_either (is_free x s low) (is_free x s high) a) [
        | inl b ↦ let o = p b in omega (arith, o)
        | inr b ↦ let o = q b in omega (arith, o)
      ]
      | inr a ↦
          let u = unbound (bound_at (bytes_eq x y) s) (is_free x s f) a in
          let o = r (with_number e y (weight low e)) (has_below x s n e y (weight low e) u.0 l) u.1 in
          omega (arith, o)
    ]
    | inr c ↦ let o = v c in omega (arith, o)
  ]

  mutual
    free_weighs : (x : List ℕ) (s : Sort) (n : ℕ) (t : Tree) (e : Numbers) → Has x s n e → is_free x s t ≡ true → n ≤ weight t e
    free_weighs x s n (node (h.Var y r) ts) e l k = elim (or_either (bytes_eq x y && same_sort s r) (free_among false x s ts) k) [
      | inl a ↦
          let p = same_name x y (and_left (bytes_eq x y) (same_sort s r) a) in
          let q = same_sorts s r (and_right (bytes_eq x y) (same_sort s r) a) in
          let o : e x s ≡ e y r = λ i. e (p i) (q i) in
          omega (arith, l, o)
      | inr a ↦ let o = frees_weigh x s n ts e l a in omega (arith, o)
    ]
    free_weighs x s n (node (h.Forall y) (more low (more high (more f ts)))) e l k =
        range_weighs x s n y low high f ts e k l (λ q. free_weighs x s n low e l q) (λ q. free_weighs x s n high e l q) (λ d m q. free_weighs x s n f d m q) (λ q. frees_weigh x s n ts e l q)
    free_weighs x s n (node (h.Forall y) stop) e l k = absurd cc
    free_weighs x s n (node (h.Forall y) (more low stop)) e l k = free_weighs x s n low e l k
    free_weighs x s n (node (h.Forall y) (more low (more high stop))) e l k = elim (or_either (is_free x s low) (is_free x s high) k) [
      | inl a ↦ let o = free_weighs x s n low e l a in omega (arith, o)
      | inr a ↦ let o = free_weighs x s n high e l a in omega (arith, o)
    ]
    free_weighs x s n (node (h.Exists y) (more low (more high (more f ts)))) e l k =
        range_weighs x s n y low high f ts e k l (λ q. free_weighs x s n low e l q) (λ q. free_weighs x s n high e l q) (λ d m q. free_weighs x s n f d m q) (λ q. frees_weigh x s n ts e l q)
    free_weighs x s n (node (h.Exists y) stop) e l k = absurd cc
    free_weighs x s n (node (h.Exists y) (more low stop)) e l k = free_weighs x s n low e l k
    free_weighs x s n (node (h.Exists y) (more low (more high stop))) e l k = elim (or_either (is_free x s low) (is_free x s high) k) [
      | inl a ↦ let o = free_weighs x s n low e l a in omega (arith, o)
      | inr a ↦ let o = free_weighs x s n high e l a in omega (arith, o)
    ]
    free_weighs x s n (node head ts) e l k = frees_weigh x s n ts e l k

    frees_weigh : (x : List ℕ) (s : Sort) (n : ℕ) (ts : Trees) (e : Numbers) → Has x s n e → free_among false x s ts ≡ true → n ≤ weights ts e
    frees_weigh x s n stop e l k = absurd cc
    frees_weigh x s n (more t ts) e l k = elim (or_either (is_free x s t) (free_among false x s ts) (sym (free_first x s t ts) ∙ k)) [
      | inl a ↦ let o = free_weighs x s n t e l a in omega (arith, o)
      | inr a ↦ let o = frees_weigh x s n ts e l a in omega (arith, o)
    ]

  -- ---- a name that isn't free weighs nothing

  unseen : (x : List ℕ) (s : Sort) (n : ℕ) (t : Tree) → is_free x s t ≡ false → weight t (alone x s n) ≤ weight t least
  unseen x s n t none = grows t (alone x s n) least (λ y r q. go y r q (bytes_eq x y && same_sort s r) refl)
    where
      go : (y : List ℕ) (r : Sort) → is_free y r t ≡ true → (b : Bool) → bytes_eq x y && same_sort s r ≡ b → cond b n 0 ≤ 0
      go y r q true e =
          let p = same_name x y (and_left (bytes_eq x y) (same_sort s r) e) in
          let o = same_sorts s r (and_right (bytes_eq x y) (same_sort s r) e) in
          let no : is_free y r t ≡ false = sym (λ i. is_free (p i) (o i) t) ∙ none in
          absurd cc
      go y r q false e = omega arith

  free_names_in : (t u : Tree) → Normal (step set) t u → (x : List ℕ) (s : Sort) → is_free x s u ≡ true → is_free x s t ≡ true
  free_names_in t u d x s k = go (is_free x s t) refl
    where
      n : ℕ
      n = suc (weight t least)

      own : alone x s n x s ≡ n
      own = ap (λ b. cond (b && same_sort s s) n 0) (name_itself x) ∙ ap (λ b. cond b n 0) (sort_itself s)

      go : (b : Bool) → is_free x s t ≡ b → b ≡ true
      go true e = refl
      go false e =
          let a = free_weighs x s n u (alone x s n) (omega (arith, own)) k in
          let b = (normal_light set regular) d (alone x s n) in
          let c = unseen x s n t e in
          absurd (omega (arith, a, b, c))

pub normal_free_names : NormalFreeNames
normal_free_names set t u regular d x s k = free_names_in set regular t u d x s k
