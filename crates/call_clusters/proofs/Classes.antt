-- Functions that reach each other have one first function with which they do so.
use Rattle.std.proofs.Common.{◌≡◌, ◌≢◌, ℕ, zero, suc, ◌+◌, ◌<◌, ◌≤◌, ◌==◌, Bool, true, false, ◌&&◌, ◌⊎◌, inl, inr, if◌then◌else◌, List, [], ◌∷◌, length, Option, Some, None, refl, sym, ap, ◌∙◌, subst, arith, zero-add}
use Rattle.std.proofs.lemmas.Bool.Decides.{nat_tests}
use Rattle.c_runs.specs.Program.{Stmts, Function}
use Rattle.c_programs.specs.Clusters.{at, body_calls, calls_directly, reaches, call_each_other}
use Rattle.program_trees.specs.Files as files
use Rattle.program_trees.specs.Files.{same_cluster, in_cluster_of}
use Rattle.call_clusters.specs.Rows.{entry, AreRows, least_from, both_ways, cluster_in, clusters_from}
use Rattle.call_clusters.proofs.Through.{and_left, and_right, and_both, reaching_composes, nothing_reached}

-- ---- tests

same_test : (a b : Bool) → (a ≡ true → b ≡ true) → (b ≡ true → a ≡ true) → a ≡ b
same_test true b to from = sym (to refl)
same_test false true to from = from refl
same_test false false to from = refl

and-comm : (a b : Bool) → (a && b) ≡ (b && a)
and-comm true true = refl
and-comm true false = refl
and-comm false true = refl
and-comm false false = refl

and-false : (a : Bool) → (a && false) ≡ false
and-false true = refl
and-false false = refl

true_or_false : (b : Bool) → (b ≡ true) ⊎ (b ≡ false)
true_or_false true = inl refl
true_or_false false = inr refl

-- ---- the first that passes

least_same : (p q : ℕ → Bool) (n g : ℕ) → ((x : ℕ) → x < g + n → p x ≡ q x) → least_from p n g ≡ least_from q n g
least_same p q zero g same = refl
least_same p q (suc n) g same =
    ap (λ b. if b then Some g else least_from p n (g + 1)) (same g (omega arith))
    ∙ ap (λ o. if q g then Some g else o) (least_same p q n (g + 1) (λ x lt. same x (omega (arith, lt))))

not_both : (b : Bool) → b ≡ true → b ≡ false → ⊥
not_both true p h = cc
not_both false p h = cc

some_by : (q : ℕ → Bool) (n g x : ℕ) (b : Bool) → q g ≡ b → q x ≡ true → (g ≢ x → (k : ℕ) × (least_from q n (g + 1) ≡ Some k)) → (k : ℕ) × (least_from q (suc n) g ≡ Some k)
some_by q n g x true is passes further = (g, ap (λ u. if u then Some g else least_from q n (g + 1)) is)
some_by q n g x false is passes further =
    let r = further (λ e. not_both (q x) passes (ap q (sym e) ∙ is)) in (r.0, ap (λ u. if u then Some g else least_from q n (g + 1)) is ∙ r.1)

least_some : (q : ℕ → Bool) (n g x : ℕ) → g ≤ x → x < g + n → q x ≡ true → (k : ℕ) × (least_from q n g ≡ Some k)
least_some q zero g x from below passes = absurd (omega (arith, from, below))
least_some q (suc n) g x from below passes =
    some_by q n g x (q g) refl passes (λ other. least_some q n (g + 1) x (omega (arith, from, other)) (omega (arith, below)) passes)

found_by : (q : ℕ → Bool) (n g k : ℕ) (b : Bool) → q g ≡ b → (least_from q n (g + 1) ≡ Some k → (q k ≡ true) × (k < (g + 1) + n)) → (if b then Some g else least_from q n (g + 1)) ≡ Some k
    → (q k ≡ true) × (k < g + suc n)
found_by q n g k true is further found = let e : g ≡ k = cc in (ap q (sym e) ∙ is, omega (arith, e))
found_by q n g k false is further found = let r = further found in (r.0, omega (arith, r.1))

least_found : (q : ℕ → Bool) (n g k : ℕ) → least_from q n g ≡ Some k → (q k ≡ true) × (k < g + n)
least_found q zero g k found = absurd cc
least_found q (suc n) g k found = found_by q n g k (q g) refl (least_found q n (g + 1) k) found

-- ---- classes

same_is : (k : ℕ) → (k == k) ≡ true
same_is k = grind (arith, nat_tests)

are_same : (k j : ℕ) → (k == j) ≡ true → k ≡ j
are_same k j h = grind (arith, nat_tests)

module _ (fs : List (Option (Function Stmts))) where
  abbrev R : ℕ → ℕ → Bool
  R f g = call_each_other fs f g

  abbrev n : ℕ
  n = length fs

  abbrev d : ℕ → ℕ → Bool
  d = calls_directly fs

  turned : (f g : ℕ) → R f g ≡ R g f
  turned f g = and-comm (reaches fs f g) (reaches fs g f)

  joins : (a b c : ℕ) → b < n → R a b ≡ true → R b c ≡ true → R a c ≡ true
  joins a b c lt p q =
      and_both (reaches fs a c) (reaches fs c a)
      (reaching_composes d n a b c lt (and_left (reaches fs a b) (reaches fs b a) p) (and_left (reaches fs b c) (reaches fs c b) q))
      (reaching_composes d n c b a lt (and_right (reaches fs b c) (reaches fs c b) q) (and_right (reaches fs a b) (reaches fs b a) p))

  same_class : (f g : ℕ) → f < n → g < n → R f g ≡ true → (x : ℕ) → R f x ≡ R g x
  same_class f g f_in g_in both x =
      same_test (R f x) (R g x) (λ p. joins g f x f_in (turned g f ∙ both) p) (λ p. joins f g x g_in both p)

  abbrev number : ℕ → Option ℕ
  number f = least_from (R f) n 0

  apart : (f g : ℕ) → R f g ≡ false → (o u : Option ℕ) → number f ≡ o → number g ≡ u → same_cluster o u ≡ false
  apart f g not_so None u p q = refl
  apart f g not_so (Some k) None p q = refl
  apart f g not_so (Some k) (Some j) p q = by (true_or_false (k == j))
    where
      by : ((k == j) ≡ true) ⊎ ((k == j) ≡ false) → (k == j) ≡ false
      by (inl same) =
          let a = least_found (R f) n 0 k p in
          let c = least_found (R g) n 0 j q in
          let e : k ≡ j = are_same k j same in
          let P : ℕ → Type 0 = λ x. R g x ≡ true in
          absurd (not_both (R f g) (joins f k g (omega (arith, a.1)) a.0 (turned k g ∙ subst P (sym e) c.0)) not_so)
      by (inr other) = other

  in_one : (f g : ℕ) → f < n → g < n → same_cluster (number f) (number g) ≡ R f g
  in_one f g f_in g_in = by (true_or_false (R f g))
    where
      by : (R f g ≡ true) ⊎ (R f g ≡ false) → same_cluster (number f) (number g) ≡ R f g
      by (inl both) =
          let e : number f ≡ number g = least_same (R f) (R g) n 0 (λ x lt. same_class f g f_in g_in both x) in
          let s = least_some (R g) n 0 f (omega arith) (omega (arith, f_in)) (turned g f ∙ both) in
          ap (λ o. same_cluster o (number g)) e ∙ ap (λ o. same_cluster o o) s.1 ∙ same_is s.0 ∙ sym both
      by (inr not_so) = apart f g not_so (number f) (number g) refl refl ∙ sym not_so

  -- ---- the table of clusters

  at_past : {X : Type 0} (xs : List (Option X)) (i : ℕ) → length xs ≤ i → at xs i ≡ None
  at_past [] i past = refl
  at_past (x ∷ xs) zero past = absurd (omega (arith, past))
  at_past (x ∷ xs) (suc i) past = at_past xs i (omega (arith, past))

  outside : (f g : ℕ) → n ≤ f → reaches fs f g ≡ false
  outside f g past = nothing_reached d n f (λ y. ap (λ o. body_calls o y) (at_past fs f past)) g

  at_number : (rows : List (List Bool)) (m g i : ℕ) → i < m → files.at (clusters_from rows m g) i ≡ cluster_in rows (g + i)
  at_number rows zero g i lt = absurd (omega (arith, lt))
  at_number rows (suc m) g zero lt = let e : g ≡ g + 0 = omega arith in ap (cluster_in rows) e
  at_number rows (suc m) g (suc i) lt =
      let e : (g + 1) + i ≡ g + suc i = omega arith in at_number rows m (g + 1) i (omega (arith, lt)) ∙ ap (cluster_in rows) e

  at_none : (rows : List (List Bool)) (m g i : ℕ) → m ≤ i → files.at (clusters_from rows m g) i ≡ None
  at_none rows zero g i past = refl
  at_none rows (suc m) g zero past = absurd (omega (arith, past))
  at_none rows (suc m) g (suc i) past = at_none rows m (g + 1) i (omega (arith, past))

  none_there : (o : Option ℕ) → same_cluster o None ≡ false
  none_there None = refl
  none_there (Some k) = refl

  module _ (rows : List (List Bool)) (so : AreRows n n (reaches fs) rows) where
    is_number : (f : ℕ) → f < n → cluster_in rows f ≡ number f
    is_number f f_in =
        ap (λ m. least_from (both_ways rows f) m 0) so.count
        ∙ least_same (both_ways rows f) (R f) n 0 (λ x lt.
        let x_in : x < n = omega (arith, lt) in
        ap (λ b. b && entry rows x f) ((so.each f f_in).entries x x_in) ∙ ap (λ b. reaches fs f x && b) ((so.each x x_in).entries f f_in))

    found_at : (f : ℕ) → f < n → files.at (clusters_from rows (length rows) 0) f ≡ number f
    found_at f f_in =
        let P : ℕ → Type 0 = λ m. f < m in
        at_number rows (length rows) 0 f (subst P (sym so.count) f_in) ∙ ap (cluster_in rows) (zero-add f) ∙ is_number f f_in

    none_at : (f : ℕ) → n ≤ f → files.at (clusters_from rows (length rows) 0) f ≡ None
    none_at f past = let P : ℕ → Type 0 = λ m. m ≤ f in at_none rows (length rows) 0 f (subst P (sym so.count) past)

    below_or_past : (f : ℕ) → (f < n) ⊎ (n ≤ f)
    below_or_past f = grind arith

    both_below : (f g : ℕ) → (f < n) ⊎ (n ≤ f) → (g < n) ⊎ (n ≤ g)
        → same_cluster (files.at (clusters_from rows (length rows) 0) f) (files.at (clusters_from rows (length rows) 0) g) ≡ R f g
    both_below f g (inl f_in) (inl g_in) =
        ap (λ o. same_cluster o (files.at (clusters_from rows (length rows) 0) g)) (found_at f f_in) ∙ ap (same_cluster (number f)) (found_at g g_in) ∙ in_one f g f_in g_in
    both_below f g (inl f_in) (inr past) =
        ap (same_cluster (files.at (clusters_from rows (length rows) 0) f)) (none_at g past) ∙ none_there (files.at (clusters_from rows (length rows) 0) f)
        ∙ sym (ap (λ b. reaches fs f g && b) (outside g f past) ∙ and-false (reaches fs f g))
    both_below f g (inr past) h =
        ap (λ o. same_cluster o (files.at (clusters_from rows (length rows) 0) g)) (none_at f past) ∙ sym (ap (λ b. b && reaches fs g f) (outside f g past))

pub are_clusters : (fs : List (Option (Function Stmts))) (rows : List (List Bool)) (cs : List (Option ℕ)) → AreRows (length fs) (length fs) (reaches fs) rows → cs ≡ clusters_from rows (length rows) 0
    → (f g : ℕ) → in_cluster_of cs f g ≡ call_each_other fs f g
are_clusters fs rows cs so is f g =
    ap (λ us. in_cluster_of us f g) is ∙ both_below fs rows so f g (below_or_past fs rows so f) (below_or_past fs rows so g)
