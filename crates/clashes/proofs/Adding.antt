-- Sums of coefficients by class: parts one behind the other, and tables of sums.
use Rattle.std.proofs.Common.{◌≡◌, ℕ, ◌+◌, ◌<◌, ◌==◌, Bool, true, false, List, [], ◌∷◌, ◌++◌, map, length, get_or, take, refl, sym, ◌∙◌, ap, subst, arith}
use Rattle.std.specs.Prelude.{Some, ℤ, pos, ◌+ℤ◌, ◌*ℤ◌, nat_eq, if◌then◌else◌, All}
use Rattle.std.specs.Bool.{MatchBool}
use Rattle.std.proofs.lemmas.List.{map_push, take_more}
use Rattle.std.proofs.lemmas.List.Elements.{All-head, All-tail, All-cons}
use Rattle.std.specs.Map.{lookup}
use Rattle.std.proofs.lemmas.Int.{ints}
use Rattle.qed_linear.proofs.Ring.{sum_times}
use Rattle.same_places.specs.Same.{Part}
use Rattle.branch_rows.proofs.Marking.{number_is}
use Rattle.clashes.specs.Sums.{signed_place, share, class_sum, parts_between, EachSumVanishes, total_of, sum_of, sum_in}
use Rattle.clashes.specs.declared.totals.Total.{Total}

module _ (class_of : ℕ → ℕ) (c : ℕ) where
  pub sum_append : (ps qs : List Part) → class_sum class_of c (ps ++ qs) ≡ class_sum class_of c ps +ℤ class_sum class_of c qs
  sum_append [] qs = omega (arith, ints)
  sum_append (p ∷ ps) qs = let r = sum_append ps qs in omega (arith, ints, r)

-- a part more
pub sum_push : (class_of : ℕ → ℕ) (c : ℕ) (ps : List Part) (p : Part) → class_sum class_of c (ps ++ p ∷ []) ≡ class_sum class_of c ps +ℤ share class_of c p
sum_push class_of c ps p = let r = sum_append class_of c ps (p ∷ []) in omega (arith, ints, r)

pub as_they_are : (ps : List Part) → map (signed_place false) ps ≡ ps
as_they_are [] = refl
as_they_are (p ∷ ps) = ap (λ qs. p ∷ qs) (as_they_are ps)

-- ---- tables

pub no_sums : (entries : List (ℕ × Total)) → entries ≡ [] → (c : ℕ) → sum_in entries c ≡ pos 0
unfolding sum_in
no_sums entries e c = ap (λ es. sum_of (lookup (λ k. nat_eq c k) es)) e

module _ (old new : List (ℕ × Total)) (class : ℕ) (number : ℤ) (sum : Total) (is : total_of sum ≡ sum_in old class +ℤ number) (there : lookup (λ k. nat_eq class k) new ≡ Some sum) (others : (q : ℕ) → nat_eq class q ≡ false → lookup (λ k. nat_eq q k) new ≡ lookup (λ k. nat_eq q k) old) where
  put_here : (c : ℕ) → (class == c) ≡ true → sum_in new c ≡ sum_in old c +ℤ number
  unfolding sum_in
  put_here c e = subst (λ z. sum_of (lookup (λ k. nat_eq z k) new) ≡ sum_of (lookup (λ k. nat_eq z k) old) +ℤ number) (number_is class c e) (ap sum_of there ∙ is)

  put_elsewhere : (c : ℕ) → (class == c) ≡ false → sum_in new c ≡ sum_in old c
  unfolding sum_in
  put_elsewhere c e = ap sum_of (others c e)

  pub sum_put : (c : ℕ) → sum_in new c ≡ sum_in old c +ℤ (if class == c then number else pos 0)
  sum_put c = go (class == c) refl
    where
      go : (b : Bool) → (class == c) ≡ b → sum_in new c ≡ sum_in old c +ℤ (if class == c then number else pos 0)
      go true e = let h = put_here c e in let d = ap (λ b. if b then number else pos 0) e in omega (arith, ints, h, d)
      go false e = let h = put_elsewhere c e in let d = ap (λ b. if b then number else pos 0) e in omega (arith, ints, h, d)

-- ---- totals

-- one step of a total: its low part may turn over once
pub turns_more : (low turns step turn sum n : ℤ) → step +ℤ turn *ℤ pos 340282366920938463463374607431768211456 ≡ low +ℤ n → sum ≡ turns +ℤ turn → step +ℤ sum *ℤ pos 340282366920938463463374607431768211456 ≡ (low +ℤ turns *ℤ pos 340282366920938463463374607431768211456) +ℤ n
turns_more low turns step turn sum n e d =
    let m = ap (λ z. z *ℤ pos 340282366920938463463374607431768211456) d ∙ sum_times turns turn (pos 340282366920938463463374607431768211456) in
    omega (arith, ints, e, m)

-- ---- parts one by one

pub parts_more : (class_of : ℕ → ℕ) (c : ℕ) (turned : Bool) (ps : List Part) (i : ℕ) (d : Part) → i < length ps →
    class_sum class_of c (map (signed_place turned) (take (i + 1) ps)) ≡ class_sum class_of c (map (signed_place turned) (take i ps)) +ℤ share class_of c (signed_place turned (get_or ps i d))
parts_more class_of c turned ps i d l =
    ap (λ qs. class_sum class_of c (map (signed_place turned) qs)) (take_more ps i d l)
    ∙ ap (class_sum class_of c) (map_push (signed_place turned) (take i ps) (get_or ps i d))
    ∙ sum_push class_of c (map (signed_place turned) (take i ps)) (signed_place turned (get_or ps i d))

-- ---- parts of which each sum is told

module _ (class_of : ℕ → ℕ) (all : List Part) (s : ℕ → ℤ) (told : (c : ℕ) → s c ≡ class_sum class_of c all) where
  abbrev pub IsNothing : Part → Type 0
  IsNothing p = s (class_of (p.0)) ≡ pos 0

  each_nothing : (ps : List Part) → All IsNothing ps → EachSumVanishes class_of all ps
  each_nothing [] a = tt
  each_nothing (p ∷ ps) a = (sym (told (class_of (p.0))) ∙ All-head IsNothing p ps a, each_nothing ps (All-tail IsNothing p ps a))

  all_nothing : (ps : List Part) → EachSumVanishes class_of all ps → All IsNothing ps
  all_nothing [] e = λ k d l. absurd (omega arith)
  all_nothing (p ∷ ps) e = All-cons IsNothing p ps (told (class_of (p.0)) ∙ e.0) (all_nothing ps e.1)

  turned_nothing : (ps : List Part) → All IsNothing ps → EachSumVanishes class_of all (map (signed_place true) ps)
  turned_nothing [] a = tt
  turned_nothing (p ∷ ps) a = (sym (told (class_of (p.0))) ∙ All-head IsNothing p ps a, turned_nothing ps (All-tail IsNothing p ps a))

  nothing_turned : (ps : List Part) → EachSumVanishes class_of all (map (signed_place true) ps) → All IsNothing ps
  nothing_turned [] e = λ k d l. absurd (omega arith)
  nothing_turned (p ∷ ps) e = All-cons IsNothing p ps (told (class_of (p.0)) ∙ e.0) (nothing_turned ps e.1)

  each_both : (ps qs : List Part) → EachSumVanishes class_of all ps → EachSumVanishes class_of all qs → EachSumVanishes class_of all (ps ++ qs)
  each_both [] qs a b = b
  each_both (p ∷ ps) qs a b = (a.0, each_both ps qs a.1 b)

  each_left : (ps qs : List Part) → EachSumVanishes class_of all (ps ++ qs) → EachSumVanishes class_of all ps
  each_left [] qs e = tt
  each_left (p ∷ ps) qs e = (e.0, each_left ps qs e.1)

  each_right : (ps qs : List Part) → EachSumVanishes class_of all (ps ++ qs) → EachSumVanishes class_of all qs
  each_right [] qs e = e
  each_right (p ∷ ps) qs e = each_right ps qs e.1

-- what two puts leave
pub between_sums : (class_of : ℕ → ℕ) (first second : List Part) (s0 s1 s2 : ℕ → ℤ) → ((c : ℕ) → s0 c ≡ pos 0) → ((c : ℕ) → s1 c ≡ s0 c +ℤ class_sum class_of c (map (signed_place false) first))
    → ((c : ℕ) → s2 c ≡ s1 c +ℤ class_sum class_of c (map (signed_place true) second)) → (c : ℕ) → s2 c ≡ class_sum class_of c (parts_between first second)
between_sums class_of first second s0 s1 s2 none one two c =
    let a = none c in
    let b = one c in
    let d = ap (class_sum class_of c) (as_they_are first) in
    let e = two c in
    let f = sum_append class_of c first (map (signed_place true) second) in
    omega (arith, ints, a, b, d, e, f)

module _ (class_of : ℕ → ℕ) (first second : List Part) (s : ℕ → ℤ) (told : (c : ℕ) → s c ≡ class_sum class_of c (parts_between first second)) where
  pub not_gone : (All (λ (p : Part). s (class_of (p.0)) ≡ pos 0) first → ⊥) → EachSumVanishes class_of (parts_between first second) (parts_between first second) → ⊥
  not_gone none e = none (all_nothing class_of (parts_between first second) s told first (each_left class_of (parts_between first second) s told first (map (signed_place true) second) e))

  pub gone_told : (b : Bool) → All (λ (p : Part). s (class_of (p.0)) ≡ pos 0) first → MatchBool b (All (λ (p : Part). s (class_of (p.0)) ≡ pos 0) second) (All (λ (p : Part). s (class_of (p.0)) ≡ pos 0) second → ⊥) →
      MatchBool b (EachSumVanishes class_of (parts_between first second) (parts_between first second)) (EachSumVanishes class_of (parts_between first second) (parts_between first second) → ⊥)
  gone_told true a m = each_both class_of (parts_between first second) s told first (map (signed_place true) second) (each_nothing class_of (parts_between first second) s told first a) (turned_nothing class_of (parts_between first second) s told second m)
  gone_told false a m = λ e. m (nothing_turned class_of (parts_between first second) s told second (each_right class_of (parts_between first second) s told first (map (signed_place true) second) e))
