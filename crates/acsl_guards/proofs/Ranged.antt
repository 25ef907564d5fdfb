-- Quantifiers over all integers are those over the ranges of their guards.
use Rattle.std.proofs.Common.{◌≡◌, ℕ, zero, suc, ◌+◌, ◌-◌, ◌≤◌, ℤ, Bool, true, false, not, ◌&&◌, ◌==◌, List, [], ◌∷◌, ◌++◌, map, length, Option, Some, None, option_map, refl, sym, ap, subst, ◌∙◌, arith, append_assoc, ⊎_elim, inl, inr, if◌then◌else◌}
use Rattle.std.specs.List.{list_all, slice_get, zip}
use Rattle.std.specs.Str.{bytes_eq}
use Rattle.std.proofs.lemmas.Bool.{and_parts, both_ways, cases_Bool, eqb-true, false_from_ne_true, false≢true, leb-true, not-true, or_left, or_parts, or_right, true≢false}
use Rattle.std.proofs.lemmas.List.Folds.{list_all-append}
use Rattle.std.proofs.lemmas.Option.{none-some, same_Some, slice_get-map}
use Rattle.c_syntax.specs.Expr as e
use Rattle.c_syntax.specs.Term as t
use Rattle.c_syntax.specs.Pred as p
use Rattle.acsl_guards.specs.Mentions.{Names, is_among, is_name, is_one_of, mentions, names_of}
use Rattle.acsl_guards.specs.Chains.{between, falls, from_first, stands_in}
use Rattle.acsl_guards.specs.Guarding.{candidates, conjuncts, first_with, guard_for, guard_of, guarding, guards, is_integer, is_range, stands_alone}
use Rattle.acsl_guards.specs.Rules.{IsEnd}
use Rattle.acsl_guards.specs.Meaning.{AllInRanges, Binder, ForEach, ForSome, May, Meaning, RangesSayChains, SaidByRanges, SomeInRanges, Valuation, Value, any_value, below, between_ends, binders, by_guard, chain_terms, chained, distinct, ends_at, in_range, others, put, ranged}
use Rattle.acsl_guards.specs.declared.ranges.Guard.{Guard}
use Rattle.acsl_guards.proofs.Bounded.{all_go_so, bounded, of_range, range_of, says_chain}
use Rattle.acsl_guards.proofs.Chained.{goes, last_place, last_term}
use Rattle.acsl_guards.proofs.Holding.{name_is, not_mentioned, same_bytes}
use Rattle.acsl_guards.proofs.Picking.{Found, found}
use Rattle.acsl_guards.proofs.Ruling.{all_in, any_in, end_free, form_of}

-- ---- the values that binders may come to have

data Reach (may : May) : List Binder → Valuation → Valuation → Type 0 where
  here : (v : Valuation) → Reach may [] v v
  next : (b : Binder) (bs : List Binder) (z : ℤ) (v w : Valuation) → may v b z ≡ true → Reach may bs (put b.0.name z v) w → Reach may (b ∷ bs) v w

module _ (may : May) (P : Valuation → Type 0) where
  each_reach : (bs : List Binder) (v w : Valuation) → ForEach may bs v P → Reach may bs v w → P w
  each_reach [] v w h (here v1) = h
  each_reach (b ∷ bs) v w h (next b1 bs1 z v1 w1 so r) = each_reach bs (put b.0.name z v) w (h z so) r

  reach_each : (bs : List Binder) (v : Valuation) → ((w : Valuation) → Reach may bs v w → P w) → ForEach may bs v P
  reach_each [] v h = h v (here v)
  reach_each (b ∷ bs) v h = λ z so. reach_each bs (put b.0.name z v) (λ w r. h w (next b bs z v w so r))

  some_reach : (bs : List Binder) (v : Valuation) → ForSome may bs v P → (w : Valuation) × Reach may bs v w × P w
  some_reach [] v h = (v, here v, h)
  some_reach (b ∷ bs) v h = let k = some_reach bs (put b.0.name h.0 v) h.2 in (k.0, next b bs h.0 v k.0 h.1 k.1, k.2)

  reach_some : (bs : List Binder) (v w : Valuation) → Reach may bs v w → P w → ForSome may bs v P
  reach_some [] v w (here v1) h = h
  reach_some (b ∷ bs) v w (next b1 bs1 z v1 w1 so r) h = (z, so, reach_some bs (put b.0.name z v) w r h)

-- ---- names that binders leave as they are

if_false : {X : Type 0} (b : Bool) (x y : X) → b ≡ false → (if b then x else y) ≡ y
if_false b x y h = ap (λ b. if b then x else y) h

if_true : {X : Type 0} (b : Bool) (x y : X) → b ≡ true → (if b then x else y) ≡ x
if_true b x y h = ap (λ b. if b then x else y) h

module _ (f : e.VarDecl → Option Guard) where
  abbrev pair : e.VarDecl → Binder
  pair b = (b, f b)

  pairs_are : (bs : List e.VarDecl) → zip bs (map f bs) ≡ map pair bs
  pairs_are [] = refl
  pairs_are (b ∷ bs) = ap (λ ps. pair b ∷ ps) (pairs_are bs)

  kept : (may : May) (bs : List e.VarDecl) (v w : Valuation) → Reach may (map pair bs) v w → (x : List ℕ) → is_among (names_of bs) x ≡ false → w x ≡ v x
  kept may [] v w (here v1) x h = refl
  kept may (b ∷ bs) v w (next b1 bs1 z v1 w1 so r) x h =
      let k = or_parts (bytes_eq x b.name) (is_among (names_of bs) x) h in
      kept may bs (put b.name z v) w r x k.1 ∙ if_false (bytes_eq x b.name) z (v x) k.0

-- ---- a binder with its guard, and the values that are reached

-- binders behind one that stands between the ends stand behind the first such one
among_later : (before : List e.VarDecl) (bs : List e.VarDecl) (x : List ℕ) → is_among (names_of bs) x ≡ true → is_among (names_of (before ++ bs)) x ≡ true
among_later [] bs x h = h
among_later (c ∷ before) bs x h = or_right (bytes_eq x c.name) (is_among (names_of (before ++ bs)) x) (among_later before bs x h)

later_among : (ts : List t.Term) (before : List e.VarDecl) (b : e.VarDecl) (bs : List e.VarDecl) (x : List ℕ) → stands_in b.name ts ≡ true → is_among (names_of (b ∷ bs)) x ≡ true
    → is_among (from_first ts (names_of (before ++ (b ∷ bs)))) x ≡ true
later_among ts [] b bs x s h = ap (λ xs. is_among xs x) (if_true (stands_in b.name ts) (names_of (b ∷ bs)) (from_first ts (names_of bs)) s) ∙ h
later_among ts (c ∷ before) b bs x s h = go (stands_in c.name ts) (later_among ts before b bs x s h)
  where
    go : (q : Bool) → is_among (from_first ts (names_of (before ++ (b ∷ bs)))) x ≡ true
        → is_among (if q then names_of (c ∷ (before ++ (b ∷ bs))) else from_first ts (names_of (before ++ (b ∷ bs)))) x ≡ true
    go true more = among_later (c ∷ before) (b ∷ bs) x h
    go false more = more

module _ (value : Value) (v w : Valuation) (g : Guard) (y z : ℤ) (same : y ≡ z) where
  ends_same : (low high : Option t.Term) → ((a : t.Term) → low ≡ Some a → value v a ≡ value w a) → ((a : t.Term) → high ≡ Some a → value v a ≡ value w a)
      → between_ends value v g low high y ≡ between_ends value w g low high z
  ends_same None high l h = refl
  ends_same (Some a) None l h = refl
  ends_same (Some a) (Some b) l h = λ i. below g.low_strict (l a refl i) (same i) && below g.high_strict (same i) (h b refl i)

  ends_of : (d : Bool) (ts : List t.Term) → ((a : t.Term) → IsEnd a ts → value v a ≡ value w a)
      → between_ends value v g (slice_get ts (if d then length ts - 1 else 0)) (slice_get ts (if d then 0 else length ts - 1)) y
      ≡ between_ends value w g (slice_get ts (if d then length ts - 1 else 0)) (slice_get ts (if d then 0 else length ts - 1)) z
  ends_of false ts h = ends_same (slice_get ts 0) (slice_get ts (length ts - 1)) (λ a is. h a (inl is)) (λ a is. h a (inr is))
  ends_of true ts h = ends_same (slice_get ts (length ts - 1)) (slice_get ts 0) (λ a is. h a (inr is)) (λ a is. h a (inl is))

-- a chain of three terms or more has two ends
ends_there : (ts : List t.Term) → 3 ≤ length ts → (first : t.Term) × (last : t.Term) × (slice_get ts 0 ≡ Some first) × (slice_get ts (length ts - 1) ≡ Some last)
ends_there [] long = absurd (omega (arith, long))
ends_there (a ∷ ts) long = (a, last_term a ts, refl, last_place a ts)

module _ (bs : List e.VarDecl) (m : Meaning (names_of bs)) (other : e.VarDecl → ℤ → Bool) (cs : List p.Pred) where
  abbrev guard : e.VarDecl → Option Guard
  guard b = guard_for (candidates (names_of bs) 0 cs) b

  abbrev At : e.VarDecl → Guard → Type 0
  At b g = Found (names_of bs) b.name 0 cs g

  abbrev anywhere : May
  anywhere = any_value other

  abbrev in_ranges : May
  in_ranges = ranged m.value cs other

  guard_found : (b : e.VarDecl) (g : Guard) → guard b ≡ Some g → (is_integer b.ty ≡ true) × At b g
  guard_found b g h = go (is_integer b.ty) refl h
    where
      go : (i : Bool) → is_integer b.ty ≡ i → (if i then first_with b.name (candidates (names_of bs) 0 cs) else None) ≡ Some g → (is_integer b.ty ≡ true) × At b g
      go true e h = (e, found (names_of bs) b.name 0 cs g h)
      go false e h = absurd (none-some g h)

  module _ (b : e.VarDecl) (g : Guard) (f : At b g) where
    place : slice_get cs g.conjunct ≡ Some (p.chain f.line f.chain.0 f.chain.1)
    place = ap (slice_get cs) (ap (λ g. g.conjunct) f.told ∙ omega arith) ∙ f.is

    told : g ≡ guard_of f.at f.chain.0 f.chain.1
    told = f.told ∙ ap (λ k. guard_of k f.chain.0 f.chain.1) (omega arith)

    range_is : (v : Valuation) (z : ℤ) → in_range m.value cs v g z ≡ ends_at m.value v (guard_of f.at f.chain.0 f.chain.1) f.chain.0 z
    range_is v z = λ i. ends_at m.value v (told i) (chain_terms (place i)) z

    is_binder : is_among (names_of bs) b.name ≡ true
    is_binder =
        let s = any_in (is_name b.name) (between f.chain.0) f.gives.1 in
        let n = name_is b.name s.0 s.2 in
        ap (is_one_of (names_of bs)) (sym n.1) ∙ all_in (is_one_of (names_of bs)) (between f.chain.0) (form_of (names_of bs) f.chain.0 f.chain.1 f.gives.0).inside s.0 s.1.0 s.1.1

    -- the range says the same before the binder has its value and behind all binders
    module _ (may : May) (before rest : List e.VarDecl) (split : bs ≡ before ++ (b ∷ rest)) (alone : is_among (names_of rest) b.name ≡ false)
        (v w : Valuation) (z : ℤ) (so : may v (b, guard b) z ≡ true) (r : Reach may (map (pair guard) rest) (put b.name z v) w) where
      has_value : w b.name ≡ z
      has_value = kept guard may rest (put b.name z v) w r b.name alone ∙ if_true (bytes_eq b.name b.name) z (v b.name) (same_bytes b.name)

      end_same : (a : t.Term) → IsEnd a f.chain.0 → m.value v a ≡ m.value w a
      end_same a is_end =
          let free = end_free (from_first (between f.chain.0) (names_of bs)) f.chain.0 (form_of (names_of bs) f.chain.0 f.chain.1 f.gives.0).free a is_end in
          m.by_names v w a (λ x mentioned.
          let not_later : is_among (names_of (b ∷ rest)) x ≡ false =
          false_from_ne_true (is_among (names_of (b ∷ rest)) x) (λ h.
          let there : is_among (from_first (between f.chain.0) (names_of bs)) x ≡ true =
          ap (λ bs. is_among (from_first (between f.chain.0) (names_of bs)) x) split ∙ later_among (between f.chain.0) before b rest x f.gives.1 h in
          both_ways (mentions x a) (not_mentioned (from_first (between f.chain.0) (names_of bs)) x a free there) mentioned) in
          sym (kept guard may (b ∷ rest) v w (next (b, guard b) (map (pair guard) rest) z v w so r) x not_later))

      same_range : in_range m.value cs v g z ≡ in_range m.value cs w g (w b.name)
      same_range =
          ap (λ o. ends_at m.value v g (chain_terms o) z) place ∙ ends_of m.value v w g z (w b.name) (sym has_value) g.descending f.chain.0 end_same
          ∙ ap (λ o. ends_at m.value w g (chain_terms o) (w b.name)) (sym place)

    module _ (w : Valuation) where
      named : (line : ℕ) → m.value w (t.name line b.name) ≡ w b.name
      named line = m.name_is w line b.name is_binder

      fits : length f.chain.0 ≡ suc (length f.chain.1)
      fits = eqb-true (length f.chain.0) (suc (length f.chain.1)) (form_of (names_of bs) f.chain.0 f.chain.1 f.gives.0).fits

      long : 3 ≤ length f.chain.0
      long = leb-true 3 (length f.chain.0) (form_of (names_of bs) f.chain.0 f.chain.1 f.gives.0).long

      says : m.holds w (p.chain f.line f.chain.0 f.chain.1) ≡ chained (m.value w) f.chain.0 f.chain.1
      says = m.chain_is w f.line f.chain.0 f.chain.1 f.gives.0

      go : list_all (goes (list_all falls f.chain.1)) f.chain.1 ≡ true
      go = all_go_so f.chain.1 (form_of (names_of bs) f.chain.0 f.chain.1 f.gives.0).goes (list_all falls f.chain.1) refl

      -- where all conjuncts are true, the binder is in its range
      bounds : list_all (m.holds w) cs ≡ true → in_range m.value cs w g (w b.name) ≡ true
      bounds all =
          let so = sym says ∙ all_in (m.holds w) cs all (p.chain f.line f.chain.0 f.chain.1) f.at f.is in
          range_is w (w b.name)
          ∙ range_of m.value w f.at f.chain.0 f.chain.1 (w b.name) (list_all falls f.chain.1) refl (bounded (m.value w) b.name (w b.name) named (list_all falls f.chain.1) f.chain.0 f.chain.1 long fits go so f.gives.1)

      -- where the binder stands alone and is in its range, the conjunct is true
      says_so : g.alone ≡ true → in_range m.value cs w g (w b.name) ≡ true → m.holds w (p.chain f.line f.chain.0 f.chain.1) ≡ true
      says_so one inside =
          let three = eqb-true (length f.chain.0) 3 (sym (ap (λ g. g.alone) told) ∙ one) in
          let ends = ends_there f.chain.0 long in
          says ∙ says_chain (m.value w) b.name (w b.name) named (list_all falls f.chain.1) f.chain.0 f.chain.1 three fits go f.gives.1
          (of_range m.value w f.at f.chain.0 f.chain.1 (w b.name) (list_all falls f.chain.1) refl ends.0 ends.1 ends.2 ends.3 (sym (range_is w (w b.name)) ∙ inside))

  -- ---- ways through all binders

  narrow : (before rest : List e.VarDecl) → bs ≡ before ++ rest → distinct (names_of rest) ≡ true → (v w : Valuation) → list_all (m.holds w) cs ≡ true
      → Reach anywhere (map (pair guard) rest) v w → Reach in_ranges (map (pair guard) rest) v w
  narrow before [] split d v w all (here v1) = here v
  narrow before (b ∷ rest) split d v w all (next b1 bs1 z v1 w1 so r) =
      let k = and_parts (not (is_among (names_of rest) b.name)) (distinct (names_of rest)) d in
      next (pair guard b) (map (pair guard) rest) z v w (at (guard b) refl)
      (narrow (before ++ (b ∷ [])) rest (split ∙ sym (append_assoc before (b ∷ []) rest)) k.1 (put b.name z v) w all r)
    where
      at : (o : Option Guard) → guard b ≡ o → by_guard m.value cs other v (pair guard b) z o ≡ true
      at None e = so
      at (Some g) e =
          let f = (guard_found b g e).1 in
          same_range b g f anywhere before rest split (not-true (is_among (names_of rest) b.name) (and_parts (not (is_among (names_of rest) b.name)) (distinct (names_of rest)) d).0) v w z so r
          ∙ bounds b g f w all

  widen : (rest : List e.VarDecl) (v w : Valuation) → Reach in_ranges (map (pair guard) rest) v w → Reach anywhere (map (pair guard) rest) v w
  widen [] v w (here v1) = here v
  widen (b ∷ rest) v w (next b1 bs1 z v1 w1 so r) = next (pair guard b) (map (pair guard) rest) z v w (at (guard b) refl so) (widen rest (put b.name z v) w r)
    where
      at : (o : Option Guard) → guard b ≡ o → by_guard m.value cs other v (pair guard b) z o ≡ true → any_value other v (pair guard b) z ≡ true
      at None e h = h
      at (Some g) e h = or_left (is_integer b.ty) (other b z) (guard_found b g e).0

  -- each binder is in the range of its guard
  within : (before rest : List e.VarDecl) → bs ≡ before ++ rest → distinct (names_of rest) ≡ true → (v w : Valuation) → Reach in_ranges (map (pair guard) rest) v w
      → (i : ℕ) (b : e.VarDecl) (g : Guard) → slice_get rest i ≡ Some b → guard b ≡ Some g → in_range m.value cs w g (w b.name) ≡ true
  within before [] split d v w (here v1) i b g is e = absurd (none-some b is)
  within before (c ∷ rest) split d v w (next b1 bs1 z v1 w1 so r) zero b g is e =
      let q : guard c ≡ Some g = ap guard (same_Some c b is) ∙ e in
      let f = (guard_found c g q).1 in
      let n = not-true (is_among (names_of rest) c.name) (and_parts (not (is_among (names_of rest) c.name)) (distinct (names_of rest)) d).0 in
      subst (λ b. in_range m.value cs w g (w b.name) ≡ true) (same_Some c b is)
      (sym (same_range c g f in_ranges before rest split n v w z so r) ∙ ap (by_guard m.value cs other v (pair guard c) z) (sym q) ∙ so)
  within before (c ∷ rest) split d v w (next b1 bs1 z v1 w1 so r) (suc i) b g is e =
      within (before ++ (c ∷ [])) rest (split ∙ sym (append_assoc before (c ∷ []) rest)) (and_parts (not (is_among (names_of rest) c.name)) (distinct (names_of rest)) d).1
      (put c.name z v) w r i b g is e

  true_at : distinct (names_of bs) ≡ true → (v w : Valuation) → Reach in_ranges (map (pair guard) bs) v w → (n : ℕ) (a : p.Pred) → is_range (map guard bs) n ≡ true → slice_get cs n ≡ Some a
      → m.holds w a ≡ true
  true_at d v w r n a h is =
      let k = any_in (stands_alone n) (map guard bs) h in
      at k.0 k.2 (slice_get bs k.1.0) refl (sym (slice_get-map guard bs k.1.0) ∙ k.1.1)
    where
      here_ : (b : e.VarDecl) (i : ℕ) (g : Guard) → slice_get bs i ≡ Some b → guard b ≡ Some g → (g.alone && (g.conjunct == n)) ≡ true → m.holds w a ≡ true
      here_ b i g at_i e so =
          let s = and_parts g.alone (g.conjunct == n) so in
          let f = (guard_found b g e).1 in
          let same : p.chain f.line f.chain.0 f.chain.1 ≡ a = same_Some (p.chain f.line f.chain.0 f.chain.1) a (sym (place b g f) ∙ ap (slice_get cs) (eqb-true g.conjunct n s.1) ∙ is) in
          subst (λ a. m.holds w a ≡ true) same (says_so b g f w s.0 (within [] bs refl d v w r i b g at_i e))

      at : (o : Option Guard) → stands_alone n o ≡ true → (q : Option e.VarDecl) → slice_get bs (any_in (stands_alone n) (map guard bs) h).1.0 ≡ q → option_map guard q ≡ Some o → m.holds w a ≡ true
      at None so q e l = absurd (false≢true so)
      at (Some g) so None e l = absurd (none-some (Some g) l)
      at (Some g) so (Some b) e l = here_ b (any_in (stands_alone n) (map guard bs) h).1.0 g e (same_Some (guard b) (Some g) l) so

-- ---- without the conjuncts that are true

others_same : (holds : p.Pred → Bool) (gs : List (Option Guard)) (n : ℕ) (cs : List p.Pred) → ((k : ℕ) (a : p.Pred) → is_range gs (n + k) ≡ true → slice_get cs k ≡ Some a → holds a ≡ true)
    → list_all holds (others gs n cs) ≡ list_all holds cs
others_same holds gs n [] h = refl
others_same holds gs n (a ∷ cs) h = go (is_range gs n) refl (others_same holds gs (n + 1) cs (λ k b r is. h (suc k) b (subst (λ j. is_range gs j ≡ true) (omega arith) r) is))
  where
    go : (q : Bool) → is_range gs n ≡ q → list_all holds (others gs (n + 1) cs) ≡ list_all holds cs → list_all holds (if q then others gs (n + 1) cs else a ∷ others gs (n + 1) cs) ≡ list_all holds (a ∷ cs)
    go true e more = more ∙ ap (λ b. b && list_all holds cs) (sym (h 0 a (subst (λ j. is_range gs j ≡ true) (omega arith) e) refl))
    go false e more = ap (λ b. holds a && b) more

-- ---- bodies

and_true : (b : Bool) → b ≡ b && true
and_true true = refl
and_true false = refl

holds_conjuncts : (bs : Names) (m : Meaning bs) (w : Valuation) (a : p.Pred) → m.holds w a ≡ list_all (m.holds w) (conjuncts a)
holds_conjuncts bs m w (p.and_of line a b) =
    m.and_is w line a b ∙ (λ i. holds_conjuncts bs m w a i && holds_conjuncts bs m w b i) ∙ sym (list_all-append (m.holds w) (conjuncts a) (conjuncts b))
holds_conjuncts bs m w (p.always line) = and_true (m.holds w (p.always line))
holds_conjuncts bs m w (p.never line) = and_true (m.holds w (p.never line))
holds_conjuncts bs m w (p.not_of line a) = and_true (m.holds w (p.not_of line a))
holds_conjuncts bs m w (p.xor_of line a b) = and_true (m.holds w (p.xor_of line a b))
holds_conjuncts bs m w (p.or_of line a b) = and_true (m.holds w (p.or_of line a b))
holds_conjuncts bs m w (p.implies line a b) = and_true (m.holds w (p.implies line a b))
holds_conjuncts bs m w (p.iff line a b) = and_true (m.holds w (p.iff line a b))
holds_conjuncts bs m w (p.cond line test a b) = and_true (m.holds w (p.cond line test a b))
holds_conjuncts bs m w (p.let_in line x value a) = and_true (m.holds w (p.let_in line x value a))
holds_conjuncts bs m w (p.chain line ts os) = and_true (m.holds w (p.chain line ts os))
holds_conjuncts bs m w (p.for_all line ds a) = and_true (m.holds w (p.for_all line ds a))
holds_conjuncts bs m w (p.for_some line ds a) = and_true (m.holds w (p.for_some line ds a))
holds_conjuncts bs m w (p.valid line a) = and_true (m.holds w (p.valid line a))
holds_conjuncts bs m w (p.valid_read line a) = and_true (m.holds w (p.valid_read line a))
holds_conjuncts bs m w (p.separated line ts) = and_true (m.holds w (p.separated line ts))
holds_conjuncts bs m w (p.old line a) = and_true (m.holds w (p.old line a))
holds_conjuncts bs m w (p.call line f args) = and_true (m.holds w (p.call line f args))

-- where what stands before `==>` is false, the body is true
unless_guarded : (bs : Names) (m : Meaning bs) (w : Valuation) (a : p.Pred) → list_all (m.holds w) (guarding true a) ≡ false → m.holds w a ≡ true
unless_guarded bs m w (p.implies line a b) h =
    m.implies_is w line a b ∙ or_left (not (m.holds w a)) (m.holds w b) (ap not (holds_conjuncts bs m w a ∙ h))
unless_guarded bs m w (p.always line) h = absurd (true≢false h)
unless_guarded bs m w (p.never line) h = absurd (true≢false h)
unless_guarded bs m w (p.not_of line a) h = absurd (true≢false h)
unless_guarded bs m w (p.and_of line a b) h = absurd (true≢false h)
unless_guarded bs m w (p.xor_of line a b) h = absurd (true≢false h)
unless_guarded bs m w (p.or_of line a b) h = absurd (true≢false h)
unless_guarded bs m w (p.iff line a b) h = absurd (true≢false h)
unless_guarded bs m w (p.cond line test a b) h = absurd (true≢false h)
unless_guarded bs m w (p.let_in line x value a) h = absurd (true≢false h)
unless_guarded bs m w (p.chain line ts os) h = absurd (true≢false h)
unless_guarded bs m w (p.for_all line ds a) h = absurd (true≢false h)
unless_guarded bs m w (p.for_some line ds a) h = absurd (true≢false h)
unless_guarded bs m w (p.valid line a) h = absurd (true≢false h)
unless_guarded bs m w (p.valid_read line a) h = absurd (true≢false h)
unless_guarded bs m w (p.separated line ts) h = absurd (true≢false h)
unless_guarded bs m w (p.old line a) h = absurd (true≢false h)
unless_guarded bs m w (p.call line f args) h = absurd (true≢false h)

-- ---- the laws

module _ (for_all : Bool) (bs : List e.VarDecl) (body : p.Pred) (m : Meaning (names_of bs)) (other : e.VarDecl → ℤ → Bool) (v : Valuation) (d : distinct (names_of bs) ≡ true) where
  abbrev cs : List p.Pred
  cs = guarding for_all body

  abbrev f : e.VarDecl → Option Guard
  f = guard_for (candidates (names_of bs) 0 cs)

  as_pairs : binders for_all bs body ≡ map (pair f) bs
  as_pairs = pairs_are f bs

  into : (w : Valuation) → list_all (m.holds w) cs ≡ true → Reach (any_value other) (binders for_all bs body) v w → Reach (ranged m.value cs other) (binders for_all bs body) v w
  into w all r =
      subst (λ ps. Reach (ranged m.value cs other) ps v w) (sym as_pairs) (narrow bs m other cs [] bs refl d v w all (subst (λ ps. Reach (any_value other) ps v w) as_pairs r))

  out_of : (w : Valuation) → Reach (ranged m.value cs other) (binders for_all bs body) v w → Reach (any_value other) (binders for_all bs body) v w
  out_of w r = subst (λ ps. Reach (any_value other) ps v w) (sym as_pairs) (widen bs m other cs bs v w (subst (λ ps. Reach (ranged m.value cs other) ps v w) as_pairs r))

  said : (w : Valuation) → Reach (ranged m.value cs other) (binders for_all bs body) v w → SaidByRanges (m.holds w) (guards for_all bs body) cs
  said w r =
      let there = true_at bs m other cs d v w (subst (λ ps. Reach (ranged m.value cs other) ps v w) as_pairs r) in
      record { true_there = there; same = others_same (m.holds w) (guards for_all bs body) 0 cs (λ k a q is. there k a (subst (λ j. is_range (guards for_all bs body) j ≡ true) (omega arith) q) is) }

pub all_in_ranges : AllInRanges
all_in_ranges bs body m other v d =
    let ps = binders true bs body in
    let P : Valuation → Type 0 = λ w. m.holds w body ≡ true in
    let near = ranged m.value (guarding true body) other in (
      λ h. reach_each near P ps v (λ w r. each_reach (any_value other) P ps v w h (out_of true bs body m other v d w r)),
      λ h. reach_each (any_value other) P ps v (λ w r.
          ⊎_elim (λ all. each_reach near P ps v w h (into true bs body m other v d w all r)) (λ none. unless_guarded (names_of bs) m w body none) (cases_Bool (list_all (m.holds w) (guarding true body)))),
    )

pub some_in_ranges : SomeInRanges
some_in_ranges bs body m other v d =
    let ps = binders false bs body in
    let P : Valuation → Type 0 = λ w. m.holds w body ≡ true in
    let near = ranged m.value (guarding false body) other in (
      λ h.
          let k = some_reach (any_value other) P ps v h in
          reach_some near P ps v k.0 (into false bs body m other v d k.0 (sym (holds_conjuncts (names_of bs) m k.0 body) ∙ k.2) k.1) k.2,
      λ h.
          let k = some_reach near P ps v h in
          reach_some (any_value other) P ps v k.0 (out_of false bs body m other v d k.0 k.1) k.2,
    )

pub ranges_say_chains : RangesSayChains
ranges_say_chains for_all bs body m other v d =
    reach_each (ranged m.value (guarding for_all body) other) (λ w. SaidByRanges (m.holds w) (guards for_all bs body) (guarding for_all body)) (binders for_all bs body) v
    (λ w r. said for_all bs body m other v d w r)
