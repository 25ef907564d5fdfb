-- The range that a guard gives, where its chain is true; and its chain, where its one binder is in the range.
use Rattle.std.proofs.Common.{◌≡◌, ℕ, suc, ◌-◌, ◌≤◌, ℤ, Bool, true, false, ◌&&◌, ◌||◌, ◌==◌, List, [], ◌∷◌, length, Some, refl, sym, ap, ◌∙◌, arith, ⊎_elim, if◌then◌else◌}
use Rattle.std.specs.List.{list_all, slice_get}
use Rattle.std.proofs.lemmas.Bool.{and_from, and_parts, both_ways, false≢true, or_cases}
use Rattle.std.proofs.lemmas.Option.{same_Some}
use Rattle.c_syntax.specs.declared.expr.BinOp.{BinOp}
use Rattle.c_syntax.specs.Term as t
use Rattle.acsl_guards.specs.Mentions.{is_name}
use Rattle.acsl_guards.specs.Chains.{between, falls, is_strict, rises, stands_in, strict_at}
use Rattle.acsl_guards.specs.Guarding.{guard_of}
use Rattle.acsl_guards.specs.Meaning.{Valuation, Value, below, between_ends, chained, compare, ends_at}
use Rattle.acsl_guards.specs.declared.ranges.Guard.{Guard}
use Rattle.acsl_guards.proofs.Chained.{between_is, compare_is, goes, inside, last_place, last_term, ordered, strict_last}
use Rattle.acsl_guards.proofs.Holding.{name_is}

-- z is between the ends of the chain
pub record Bounds (d : Bool) (value : t.Term → ℤ) (ts : List t.Term) (os : List BinOp) (z : ℤ) : Type 0 where
  pub first : t.Term
  pub last : t.Term
  pub first_is : slice_get ts 0 ≡ Some first
  pub last_is : slice_get ts (length ts - 1) ≡ Some last
  pub behind_first : ordered d (strict_at os 0) (value first) z ≡ true
  pub before_end : ordered d (strict_at os (length os - 1)) z (value last) ≡ true

module _ (value : t.Term → ℤ) (x : List ℕ) (z : ℤ) (named : (line : ℕ) → value (t.name line x) ≡ z) where
  pub bounded : (d : Bool) (ts : List t.Term) (os : List BinOp) → 3 ≤ length ts → length ts ≡ suc (length os) → list_all (goes d) os ≡ true → chained value ts os ≡ true
      → stands_in x (between ts) ≡ true → Bounds d value ts os z
  bounded d [] os long fits g h s = absurd (omega (arith, long))
  bounded d (a ∷ []) os long fits g h s = absurd (omega (arith, long))
  bounded d (a ∷ b ∷ ts) [] long fits g h s = absurd (omega (arith, fits))
  bounded d (a ∷ b ∷ ts) (o ∷ os) long fits g h s =
      let i = inside d value x z named a b ts o os (omega (arith, fits)) g h (ap (stands_in x) (sym (between_is a b ts)) ∙ s) in
      record {
        first = a;
        last = last_term b ts;
        first_is = refl;
        last_is = last_place a (b ∷ ts);
        behind_first = i.0;
        before_end = ap (λ k. ordered d k z (value (last_term b ts))) (strict_last o os) ∙ i.1;
      }

  -- a chain of three terms with x in the middle
  pub says_chain : (d : Bool) (ts : List t.Term) (os : List BinOp) → length ts ≡ 3 → length ts ≡ suc (length os) → list_all (goes d) os ≡ true → stands_in x (between ts) ≡ true
      → Bounds d value ts os z → chained value ts os ≡ true
  says_chain d [] os three fits g s i = absurd (omega (arith, three))
  says_chain d (a ∷ []) os three fits g s i = absurd (omega (arith, three))
  says_chain d (a ∷ b ∷ []) os three fits g s i = absurd (omega (arith, three))
  says_chain d (a ∷ b ∷ c ∷ e ∷ ts) os three fits g s i = absurd (omega (arith, three))
  says_chain d (a ∷ b ∷ c ∷ []) [] three fits g s i = absurd (omega (arith, fits))
  says_chain d (a ∷ b ∷ c ∷ []) (o ∷ []) three fits g s i = absurd (omega (arith, fits))
  says_chain d (a ∷ b ∷ c ∷ []) (o ∷ p ∷ q ∷ os) three fits g s i = absurd (omega (arith, fits))
  says_chain d (a ∷ b ∷ c ∷ []) (o ∷ p ∷ []) three fits g s i =
      let n = name_is x b (one_stands (ap (stands_in x) (sym (between_is a b (c ∷ []))) ∙ s)) in
      let k : z ≡ value b = sym (named n.0) ∙ ap value (sym n.1) in
      let first : i.first ≡ a = sym (same_Some a i.first i.first_is) in
      let last : i.last ≡ c = sym (same_Some c i.last (sym (last_place a (b ∷ c ∷ [])) ∙ i.last_is)) in
      let go = and_parts (goes d o) (goes d p && true) g in
      let one : compare o (value a) (value b) ≡ true = compare_is d o (value a) (value b) go.0 ∙ (λ j. ordered d (is_strict o) (value (sym first j)) (sym k j)) ∙ i.behind_first in
      let two : compare p (value b) (value c) ≡ true =
      compare_is d p (value b) (value c) (and_parts (goes d p) true go.1).0 ∙ (λ j. ordered d (sym (strict_last o (p ∷ [])) j) (sym k j) (value (sym last j))) ∙ i.before_end in
      and_from (compare o (value a) (value b)) (compare p (value b) (value c) && true) one (and_from (compare p (value b) (value c)) true two refl)
    where
      one_stands : stands_in x (b ∷ []) ≡ true → is_name x b ≡ true
      one_stands h = ⊎_elim (λ k. k) (λ k. absurd (false≢true k)) (or_cases (is_name x b) false h)

-- ---- the range as the guard has it

module _ (value : Value) (v : Valuation) (n : ℕ) (ts : List t.Term) (os : List BinOp) (z : ℤ) where
  abbrev guard_by : Bool → Guard
  guard_by d = record {
    conjunct = n;
    descending = d;
    low_strict = strict_at os (if d then length os - 1 else 0);
    high_strict = strict_at os (if d then 0 else length os - 1);
    alone = length ts == 3;
  }

  abbrev ends_by : Bool → Bool
  ends_by d = ends_at value v (guard_by d) ts z

  abbrev both : Bool → t.Term → t.Term → Bool
  both false first last = below (strict_at os 0) (value v first) z && below (strict_at os (length os - 1)) z (value v last)
  both true first last = below (strict_at os (length os - 1)) (value v last) z && below (strict_at os 0) z (value v first)

  both_are : (d : Bool) (first last : t.Term) → slice_get ts 0 ≡ Some first → slice_get ts (length ts - 1) ≡ Some last → ends_by d ≡ both d first last
  both_are false first last f l = λ i. between_ends value v (guard_by false) (f i) (l i) z
  both_are true first last f l = λ i. between_ends value v (guard_by true) (l i) (f i) z

  to_range : (d : Bool) → Bounds d (value v) ts os z → ends_by d ≡ true
  to_range false i = both_are false i.first i.last i.first_is i.last_is ∙ and_from (below (strict_at os 0) (value v i.first) z) (below (strict_at os (length os - 1)) z (value v i.last)) i.behind_first i.before_end
  to_range true i = both_are true i.first i.last i.first_is i.last_is ∙ and_from (below (strict_at os (length os - 1)) (value v i.last) z) (below (strict_at os 0) z (value v i.first)) i.before_end i.behind_first

  from_range : (d : Bool) (first last : t.Term) → slice_get ts 0 ≡ Some first → slice_get ts (length ts - 1) ≡ Some last → ends_by d ≡ true → Bounds d (value v) ts os z
  from_range false first last f l h =
      let p = and_parts (below (strict_at os 0) (value v first) z) (below (strict_at os (length os - 1)) z (value v last)) (sym (both_are false first last f l) ∙ h) in
      record { first = first; last = last; first_is = f; last_is = l; behind_first = p.0; before_end = p.1 }
  from_range true first last f l h =
      let p = and_parts (below (strict_at os (length os - 1)) (value v last) z) (below (strict_at os 0) z (value v first)) (sym (both_are true first last f l) ∙ h) in
      record { first = first; last = last; first_is = f; last_is = l; behind_first = p.1; before_end = p.0 }

  pub range_of : (d : Bool) → list_all falls os ≡ d → Bounds d (value v) ts os z → ends_at value v (guard_of n ts os) ts z ≡ true
  range_of d e i = ap ends_by e ∙ to_range d i

  pub of_range : (d : Bool) → list_all falls os ≡ d → (first last : t.Term) → slice_get ts 0 ≡ Some first → slice_get ts (length ts - 1) ≡ Some last
      → ends_at value v (guard_of n ts os) ts z ≡ true → Bounds d (value v) ts os z
  of_range d e first last f l h = from_range d first last f l (ap ends_by (sym e) ∙ h)

-- ---- directions

-- where all operators go one way, they go the way that `list_all falls` tells
pub all_go_so : (os : List BinOp) → (list_all rises os || list_all falls os) ≡ true → (d : Bool) → list_all falls os ≡ d → list_all (goes d) os ≡ true
all_go_so os h true e = e
all_go_so os h false e = ⊎_elim (λ r. r) (λ f. absurd (both_ways (list_all falls os) e f)) (or_cases (list_all rises os) (list_all falls os) h)
