-- A weight of trees under numbers for their names: how many quantifiers stand in one another where each range has its beginning alone, a name
-- having as many as its number. It falls where a quantifier goes, and no rule makes it rise, however often a rule copies what it is over.
use Rattle.std.proofs.Common.{◌≡◌, ◌⊎◌, inl, inr, ℕ, suc, max, ◌≤◌, Bool, true, false, not, ◌&&◌, ◌||◌, cond, List, bytes_eq, refl, sym, ◌∙◌, ap, arith}
use Rattle.qed_terms.specs.declared.head.Sort.{Sort}
use Rattle.qed_terms.specs.declared.head.Sort.TheVariants as sort
use Rattle.qed_terms.specs.declared.head.Head.{Head}
use Rattle.qed_terms.specs.declared.head.Head.TheVariants as h
use Rattle.qed_terms.specs.Free.{is_free, free_among}
use Rattle.qed_terms.specs.WellFormed.{same_sort}
use Rattle.qed_terms.specs.Tree.{Tree, node, Trees, stop, more}
use Rattle.qed_substitution.specs.Substitution.{replace, replace_all, is_clear, are_clear, may_replace}
use Rattle.qed_linear.proofs.Facts.{and_left, and_right}
use Rattle.qed_substitution.proofs.Names.{name_itself, same_name, other_name, other_too}
use Rattle.qed_simplify.proofs.Tests.{or_left, or_right}

-- a number for each name at each sort
abbrev pub Numbers : Type 0
Numbers = List ℕ → Sort → ℕ

-- the same, with this number for the name of an integer
abbrev pub at_int : ℕ → ℕ → Bool → Sort → ℕ
at_int n m b sort.Int = cond b n m
at_int n m b s = m

abbrev pub with_number : Numbers → List ℕ → ℕ → Numbers
with_number e x n = λ y s. at_int n (e y s) (bytes_eq y x) s

abbrev pub least : Numbers
least = λ y s. 0

abbrev mutual
  pub weight : Tree → Numbers → ℕ
  weight (node (h.Var x s) ts) e = max (e x s) (weights ts e)
  weight (node (h.Forall x) ts) e = range_weight x ts e
  weight (node (h.Exists x) ts) e = range_weight x ts e
  weight (node head ts) e = weights ts e

  pub weights : Trees → Numbers → ℕ
  weights stop e = 0
  weights (more t ts) e = max (weight t e) (weights ts e)

  pub range_weight : List ℕ → Trees → Numbers → ℕ
  range_weight x stop e = 0
  range_weight x (more low stop) e = weight low e
  range_weight x (more low (more high stop)) e = max (weight low e) (weight high e)
  range_weight x (more low (more high (more f ts))) e = suc (max (max (weight low e) (weight high e)) (max (weight f (with_number e x (weight low e))) (weights ts e)))

-- ---- what is free in a kid

or_assoc : (a b c : Bool) → (a || b) || c ≡ a || (b || c)
or_assoc true b c = refl
or_assoc false b c = refl

or_unit : (a : Bool) → a || false ≡ a
or_unit true = refl
or_unit false = refl

pub free_first : (y : List ℕ) (s : Sort) (t : Tree) (ts : Trees) → free_among false y s (more t ts) ≡ is_free y s t || free_among false y s ts
free_first y s t stop = sym (or_unit (is_free y s t))
free_first y s t (more u stop) = refl
free_first y s t (more u (more v stop)) = or_unit _ ∙ or_assoc (is_free y s t) (is_free y s u) (is_free y s v)
free_first y s t (more u (more v (more w ts))) =
    let a = is_free y s t in
    let b = is_free y s u in
    let c = is_free y s v in
    ap (λ r. ((a || b) || c) || r) (free_first y s w ts) ∙ turned a b c (is_free y s w) (free_among false y s ts)
  where
    turned : (a b c d r : Bool) → ((a || b) || c) || (d || r) ≡ a || (((b || c) || d) || r)
    turned true b c d r = refl
    turned false true c d r = refl
    turned false false true d r = refl
    turned false false false d r = refl

in_first : (y : List ℕ) (s : Sort) (t : Tree) (ts : Trees) → is_free y s t ≡ true → free_among false y s (more t ts) ≡ true
in_first y s t ts k = free_first y s t ts ∙ ap (λ b. b || free_among false y s ts) k

in_rest : (y : List ℕ) (s : Sort) (t : Tree) (ts : Trees) → free_among false y s ts ≡ true → free_among false y s (more t ts) ≡ true
in_rest y s t ts k = free_first y s t ts ∙ ap (λ b. is_free y s t || b) k ∙ go (is_free y s t)
  where
    go : (b : Bool) → b || true ≡ true
    go true = refl
    go false = refl

-- ---- it grows with the numbers of the free names

abbrev pub GrowsOn : Tree → Numbers → Numbers → Type 0
GrowsOn t e e' = (y : List ℕ) (s : Sort) → is_free y s t ≡ true → e y s ≤ e' y s

abbrev GrowsOnAll : Trees → Numbers → Numbers → Type 0
GrowsOnAll ts e e' = (y : List ℕ) (s : Sort) → free_among false y s ts ≡ true → e y s ≤ e' y s

-- a quantifier over the name binds it at the sort of integers
abbrev pub bound_at : Bool → Sort → Bool
bound_at b s = b && same_sort s sort.Int

never : (b : Bool) → b && false ≡ false
never true = refl
never false = refl

pub under_both : (b : Bool) (s : Sort) (m n p q : ℕ) → m ≤ p → (bound_at b s ≡ false → n ≤ q) → at_int m n b s ≤ at_int p q b s
under_both true sort.Int m n p q k l = k
under_both false sort.Int m n p q k l = l refl
under_both b sort.Memory m n p q k l = l (never b)
under_both b sort.Table m n p q k l = l (never b)

rest_free : (a b : Bool) → b ≡ true → a || b ≡ true
rest_free true b k = refl
rest_free false b k = k

abbrev range : Tree → Tree → Tree → Trees → Trees
range low high f ts = more low (more high (more f ts))

range_grows : (x : List ℕ) (low high f : Tree) (ts : Trees) (e e' : Numbers)
    → weight low e ≤ weight low e' → weight high e ≤ weight high e' → weight f (with_number e x (weight low e)) ≤ weight f (with_number e' x (weight low e')) → weights ts e ≤ weights ts e' → range_weight x (range low high f ts) e ≤ range_weight x (range low high f ts) e'
range_grows x low high f ts e e' a b c d = omega (arith, a, b, c, d)

first_free : (y : List ℕ) (s : Sort) (x : List ℕ) (low high f : Tree) (ts : Trees) → is_free y s low ≡ true → free_among (bound_at (bytes_eq y x) s) y s (range low high f ts) ≡ true
first_free y s x low high f ts k = ap (λ b. ((b || is_free y s high) || (not (bound_at (bytes_eq y x) s) && is_free y s f)) || free_among false y s ts) k

second_free : (y : List ℕ) (s : Sort) (x : List ℕ) (low high f : Tree) (ts : Trees) → is_free y s high ≡ true → free_among (bound_at (bytes_eq y x) s) y s (range low high f ts) ≡ true
second_free y s x low high f ts k = ap (λ b. ((is_free y s low || b) || (not (bound_at (bytes_eq y x) s) && is_free y s f)) || free_among false y s ts) k ∙ go (is_free y s low) (not (bound_at (bytes_eq y x) s) && is_free y s f) (free_among false y s ts)
  where
    go : (a c d : Bool) → ((a || true) || c) || d ≡ true
    go true c d = refl
    go false c d = refl

third_free : (y : List ℕ) (s : Sort) (x : List ℕ) (low high f : Tree) (ts : Trees) → bound_at (bytes_eq y x) s ≡ false → is_free y s f ≡ true → free_among (bound_at (bytes_eq y x) s) y s (range low high f ts) ≡ true
third_free y s x low high f ts e k =
    ap (λ b. ((is_free y s low || is_free y s high) || (not b && is_free y s f)) || free_among false y s ts) e ∙ ap (λ c. ((is_free y s low || is_free y s high) || c) || free_among false y s ts) k
    ∙ go (is_free y s low) (is_free y s high) (free_among false y s ts)
  where
    go : (a b d : Bool) → ((a || b) || true) || d ≡ true
    go true b d = refl
    go false true d = refl
    go false false d = refl

fourth_free : (y : List ℕ) (s : Sort) (x : List ℕ) (low high f : Tree) (ts : Trees) → free_among false y s ts ≡ true → free_among (bound_at (bytes_eq y x) s) y s (range low high f ts) ≡ true
fourth_free y s x low high f ts k = rest_free ((is_free y s low || is_free y s high) || (not (bound_at (bytes_eq y x) s) && is_free y s f)) (free_among false y s ts) k

sort_itself : (s : Sort) → same_sort s s ≡ true
sort_itself sort.Int = refl
sort_itself sort.Memory = refl
sort_itself sort.Table = refl

this_free : (x : List ℕ) (s : Sort) (rest : Bool) → (bytes_eq x x && same_sort s s) || rest ≡ true
this_free x s rest = ap (λ b. (b && same_sort s s) || rest) (name_itself x) ∙ ap (λ b. b || rest) (sort_itself s)

either_free : (a b : Bool) → (a ≡ true) ⊎ (b ≡ true) → a || b ≡ true
either_free true b k = refl
either_free false b (inl k) = absurd cc
either_free false b (inr k) = k

mutual
  pub grows : (t : Tree) (e e' : Numbers) → GrowsOn t e e' → weight t e ≤ weight t e'
  grows (node (h.Var x r) ts) e e' k =
      let own = k x r (this_free x r (free_among false x r ts)) in
      let rest = weights_grow ts e e' (λ y s q. k y s (rest_free (bytes_eq y x && same_sort s r) (free_among false y s ts) q)) in
      omega (arith, own, rest)
  grows (node (h.Forall x) (more low (more high (more f ts)))) e e' k =
      let a = grows low e e' (λ y s q. k y s (first_free y s x low high f ts q)) in
      range_grows x low high f ts e e' a (grows high e e' (λ y s q. k y s (second_free y s x low high f ts q)))
      (grows f (with_number e x (weight low e)) (with_number e' x (weight low e')) (λ y s q. under_both (bytes_eq y x) s (weight low e) (e y s) (weight low e') (e' y s) a (λ n. k y s (third_free y s x low high f ts n q))))
      (weights_grow ts e e' (λ y s q. k y s (fourth_free y s x low high f ts q)))
  grows (node (h.Forall x) stop) e e' k = omega arith
  grows (node (h.Forall x) (more low stop)) e e' k = grows low e e' k
  grows (node (h.Forall x) (more low (more high stop))) e e' k =
      let a = grows low e e' (λ y s q. k y s (either_free (is_free y s low) (is_free y s high) (inl q))) in
      let b = grows high e e' (λ y s q. k y s (either_free (is_free y s low) (is_free y s high) (inr q))) in
      omega (arith, a, b)
  grows (node (h.Exists x) (more low (more high (more f ts)))) e e' k =
      let a = grows low e e' (λ y s q. k y s (first_free y s x low high f ts q)) in
      range_grows x low high f ts e e' a (grows high e e' (λ y s q. k y s (second_free y s x low high f ts q)))
      (grows f (with_number e x (weight low e)) (with_number e' x (weight low e')) (λ y s q. under_both (bytes_eq y x) s (weight low e) (e y s) (weight low e') (e' y s) a (λ n. k y s (third_free y s x low high f ts n q))))
      (weights_grow ts e e' (λ y s q. k y s (fourth_free y s x low high f ts q)))
  grows (node (h.Exists x) stop) e e' k = omega arith
  grows (node (h.Exists x) (more low stop)) e e' k = grows low e e' k
  grows (node (h.Exists x) (more low (more high stop))) e e' k =
      let a = grows low e e' (λ y s q. k y s (either_free (is_free y s low) (is_free y s high) (inl q))) in
      let b = grows high e e' (λ y s q. k y s (either_free (is_free y s low) (is_free y s high) (inr q))) in
      omega (arith, a, b)
  grows (node head ts) e e' k = weights_grow ts e e' k

  weights_grow : (ts : Trees) (e e' : Numbers) → GrowsOnAll ts e e' → weights ts e ≤ weights ts e'
  weights_grow stop e e' k = omega arith
  weights_grow (more t ts) e e' k =
      let a = grows t e e' (λ y s q. k y s (in_first y s t ts q)) in
      let b = weights_grow ts e e' (λ y s q. k y s (in_rest y s t ts q)) in
      omega (arith, a, b)

-- ---- kids weigh no more than their node, at the least numbers

pub at_least : (t : Tree) (e : Numbers) → weight t least ≤ weight t e
at_least t e = grows t least e (λ y s q. omega arith)

range_within : (x : List ℕ) (ts : Trees) → weights ts least ≤ range_weight x ts least
range_within x stop = omega arith
range_within x (more low stop) = omega arith
range_within x (more low (more high stop)) = omega arith
range_within x (more low (more high (more f ts))) = let k = at_least f (with_number least x (weight low least)) in omega (arith, k)

pub kids_within : (head : Head) (ts : Trees) → weights ts least ≤ weight (node head ts) least
kids_within (h.Var x s) ts = omega arith
kids_within (h.Forall x) ts = range_within x ts
kids_within (h.Exists x) ts = range_within x ts
kids_within head ts = omega arith

-- ---- a term in the places of a name

module _ (x : List ℕ) (u : Tree) where
  abbrev Above : Numbers → Numbers → Type 0
  Above e e' = (y : List ℕ) (s : Sort) → bound_at (bytes_eq x y) s ≡ false → e y s ≤ e' y s

  abbrev Given : Bool → Numbers → Numbers → Type 0
  Given under e e' = under ≡ false → weight u e ≤ e' x sort.Int

  abbrev Weighs : Tree → Type 0
  Weighs t = (under : Bool) (e e' : Numbers) → Above e e' → Given under e e' → is_clear under x u t ≡ true → weight (replace x u t) e ≤ weight t e'

  at_name : (under : Bool) (y : List ℕ) (ts us : Trees) (e e' : Numbers) → Above e e' → Given under e e' → not (under && bytes_eq x y) ≡ true → weights us e ≤ weights ts e'
      → weight (cond (bytes_eq x y) u (node (h.Var y sort.Int) us)) e ≤ max (e' y sort.Int) (weights ts e')
  at_name under y ts us e e' a g k l = go (bytes_eq x y) refl k
    where
      open_at : (b : Bool) → not (b && true) ≡ true → b ≡ false
      open_at true q = absurd cc
      open_at false q = refl

      go : (b : Bool) → bytes_eq x y ≡ b → not (under && b) ≡ true → weight (cond b u (node (h.Var y sort.Int) us)) e ≤ max (e' y sort.Int) (weights ts e')
      go true p q = let r = g (open_at under q) in let s = ap (λ z. e' z sort.Int) (same_name x y p) in omega (arith, r, s)
      go false p q = let r = a y sort.Int (ap (λ b. b && true) p) in omega (arith, r, l)

  unseen : (y : List ℕ) (n : ℕ) (e : Numbers) → is_free y sort.Int u ≡ false → weight u (with_number e y n) ≤ weight u e
  unseen y n e none = grows u (with_number e y n) e (λ w s q. go w s q (bytes_eq w y) refl)
    where
      go : (w : List ℕ) (s : Sort) → is_free w s u ≡ true → (b : Bool) → bytes_eq w y ≡ b → at_int n (e w s) b s ≤ e w s
      go w sort.Int q true p = let no : is_free w sort.Int u ≡ false = ap (λ v. is_free v sort.Int u) (same_name w y p) ∙ none in absurd cc
      go w sort.Int q false p = omega arith
      go w sort.Memory q b p = omega arith
      go w sort.Table q b p = omega arith

  given_below : (under : Bool) (y : List ℕ) (m n : ℕ) (e e' : Numbers) → bytes_eq x y ≡ false → Given under e e' → Given (under || is_free y sort.Int u) (with_number e y m) (with_number e' y n)
  given_below under y m n e e' p g k =
      let a = unseen y m e (or_right under (is_free y sort.Int u) k) in
      let b = g (or_left under (is_free y sort.Int u) k) in
      let c : cond (bytes_eq x y) n (e' x sort.Int) ≡ e' x sort.Int = ap (λ b. cond b n (e' x sort.Int)) p in
      omega (arith, a, b, c)

  other_bound : (y w : List ℕ) (s : Sort) → bytes_eq x y ≡ true → bound_at (bytes_eq w y) s ≡ false → bound_at (bytes_eq x w) s ≡ false
  other_bound y w sort.Int p q = ap (λ b. b && true) (other_too x y w p (unit (bytes_eq w y) q))
    where
      unit : (b : Bool) → b && true ≡ false → b ≡ false
      unit true r = absurd cc
      unit false r = refl
  other_bound y w sort.Memory p q = never (bytes_eq x w)
  other_bound y w sort.Table p q = never (bytes_eq x w)

  at_body : (under : Bool) (y : List ℕ) (f : Tree) (m n : ℕ) (e e' : Numbers) → m ≤ n → Above e e' → Given under e e' → bytes_eq x y || is_clear (under || is_free y sort.Int u) x u f ≡ true → Weighs f
      → weight (cond (bytes_eq x y) f (replace x u f)) (with_number e y m) ≤ weight f (with_number e' y n)
  at_body under y f m n e e' l a g k inside = go (bytes_eq x y) refl k
    where
      go : (b : Bool) → bytes_eq x y ≡ b → b || is_clear (under || is_free y sort.Int u) x u f ≡ true → weight (cond b f (replace x u f)) (with_number e y m) ≤ weight f (with_number e' y n)
      go true p q = grows f (with_number e y m) (with_number e' y n) (λ w s r. under_both (bytes_eq w y) s m (e w s) n (e' w s) l (λ o. a w s (other_bound y w s p o)))
      go false p q = inside (under || is_free y sort.Int u) (with_number e y m) (with_number e' y n) (λ w s r. under_both (bytes_eq w y) s m (e w s) n (e' w s) l (λ o. a w s r)) (given_below under y m n e e' p g) q

  range_weighs : (y : List ℕ) (low high f : Tree) → Weighs low → Weighs high → Weighs f → (under : Bool) (e e' : Numbers) → Above e e' → Given under e e'
      → is_clear under x u low && is_clear under x u high && (bytes_eq x y || is_clear (under || is_free y sort.Int u) x u f) ≡ true
      → range_weight y (more (replace x u low) (more (replace x u high) (more (cond (bytes_eq x y) f (replace x u f)) stop))) e ≤ range_weight y (more low (more high (more f stop))) e'
  range_weighs y low high f l m n under e e' a g k =
      let bounds = and_left (is_clear under x u low && is_clear under x u high) (bytes_eq x y || is_clear (under || is_free y sort.Int u) x u f) k in
      let p = l under e e' a g (and_left (is_clear under x u low) (is_clear under x u high) bounds) in
      let q = m under e e' a g (and_right (is_clear under x u low) (is_clear under x u high) bounds) in
      let r = at_body under y f (weight (replace x u low) e) (weight low e') e e' p a g (and_right (is_clear under x u low && is_clear under x u high) (bytes_eq x y || is_clear (under || is_free y sort.Int u) x u f) k) n in
      omega (arith, p, q, r)

  mutual
    pub replace_weighs : (t : Tree) (under : Bool) (e e' : Numbers) → Above e e' → Given under e e' → is_clear under x u t ≡ true → weight (replace x u t) e ≤ weight t e'
    replace_weighs (node (h.Var y sort.Int) ts) under e e' a g k =
        at_name under y ts (replace_all x u ts) e e' a g (and_left (not (under && bytes_eq x y)) (are_clear under x u ts) k) (replace_all_weigh ts under e e' a g (and_right (not (under && bytes_eq x y)) (are_clear under x u ts) k))
    replace_weighs (node (h.Var y sort.Memory) ts) under e e' a g k = let o = a y sort.Memory (never (bytes_eq x y)) in let r = replace_all_weigh ts under e e' a g k in omega (arith, o, r)
    replace_weighs (node (h.Var y sort.Table) ts) under e e' a g k = let o = a y sort.Table (never (bytes_eq x y)) in let r = replace_all_weigh ts under e e' a g k in omega (arith, o, r)
    replace_weighs (node (h.Forall y) (more low (more high (more f stop)))) under e e' a g k =
        range_weighs y low high f (λ v d d' a' g' k'. replace_weighs low v d d' a' g' k') (λ v d d' a' g' k'. replace_weighs high v d d' a' g' k') (λ v d d' a' g' k'. replace_weighs f v d d' a' g' k') under e e' a g k
    replace_weighs (node (h.Exists y) (more low (more high (more f stop)))) under e e' a g k =
        range_weighs y low high f (λ v d d' a' g' k'. replace_weighs low v d d' a' g' k') (λ v d d' a' g' k'. replace_weighs high v d d' a' g' k') (λ v d d' a' g' k'. replace_weighs f v d d' a' g' k') under e e' a g k
    replace_weighs (node (h.Forall y) ts) under e e' a g k = absurd cc
    replace_weighs (node (h.Exists y) ts) under e e' a g k = absurd cc
    replace_weighs (node head ts) under e e' a g k = replace_all_weigh ts under e e' a g k

    replace_all_weigh : (ts : Trees) (under : Bool) (e e' : Numbers) → Above e e' → Given under e e' → are_clear under x u ts ≡ true → weights (replace_all x u ts) e ≤ weights ts e'
    replace_all_weigh stop under e e' a g k = omega arith
    replace_all_weigh (more t ts) under e e' a g k =
        let p = replace_weighs t under e e' a g (and_left (is_clear under x u t) (are_clear under x u ts) k) in
        let q = replace_all_weigh ts under e e' a g (and_right (is_clear under x u t) (are_clear under x u ts) k) in
        omega (arith, p, q)

  -- in the place of the name
  pub replaced_lighter : (t : Tree) (e : Numbers) → may_replace x u t ≡ true → weight (replace x u t) e ≤ weight t (with_number e x (weight u e))
  replaced_lighter t e k =
      let n = weight u e in
      replace_weighs t false e (with_number e x n) (λ y s p. above y s p) (λ q. let c : cond (bytes_eq x x) n (e x sort.Int) ≡ n = ap (λ b. cond b n (e x sort.Int)) (name_itself x) in omega (arith, c)) k
    where
      unit : (b : Bool) → b && true ≡ false → b ≡ false
      unit true r = absurd cc
      unit false r = refl

      above : (y : List ℕ) (s : Sort) → bound_at (bytes_eq x y) s ≡ false → e y s ≤ at_int (weight u e) (e y s) (bytes_eq y x) s
      above y sort.Int p = let c : cond (bytes_eq y x) (weight u e) (e y sort.Int) ≡ e y sort.Int = ap (λ b. cond b (weight u e) (e y sort.Int)) (other_name x y (unit (bytes_eq x y) p)) in omega (arith, c)
      above y sort.Memory p = omega arith
      above y sort.Table p = omega arith
