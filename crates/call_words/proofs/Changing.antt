-- Changes of the slots of the file's variables, and of one slot alone, as lists of slots.
use Rattle.std.proofs.Common.{◌≡◌, ℕ, zero, suc, ◌+◌, ◌<◌, ◌≤◌, ℤ, Bool, true, false, ◌&&◌, if◌then◌else◌, List, [], ◌∷◌, length, Some, slice_get, refl, sym, ap, subst, arith}
use Rattle.std.specs.Prelude.{int_le}
use Rattle.std.proofs.lemmas.Bool.{false≢true, and_parts}
use Rattle.wp_base.specs.declared.kinds.Kind.{Kind}
use Rattle.c_kinds.specs.Models.{low, high, holds}
use Rattle.c_runs.specs.Program.{Variable, Contract, Facts}
use Rattle.plain_states.specs.Slots.{State, at, double, value_slot, put}
use Rattle.plain_states.specs.Scopes.{kind_of}
use Rattle.plain_states.proofs.Calling.{some_same}
use Rattle.plain_states.proofs.Scoping.{none_some}
use Rattle.walk_steps.specs.Step.{keeps}
use Rattle.walk_steps.specs.Run.{Changed, Changes}
use Rattle.walk_words.specs.Changes.{ranged}
use Rattle.call_words.specs.Sets.{may_differ, file_change, file_changes}
use Rattle.call_words.specs.Words.{change_at}

-- ---- values of the first variables

abbrev pub with_values : (count : ℕ) → (ℕ → ℤ) → State → State
with_values zero h st = st
with_values (suc n) h [] = []
with_values (suc n) h (a ∷ []) = a ∷ []
with_values (suc n) h (a ∷ b ∷ st) = h 0 ∷ b ∷ with_values n (λ i. h (suc i)) st

pub with_length : (n : ℕ) (h : ℕ → ℤ) (st : State) → length (with_values n h st) ≡ length st
with_length zero h st = refl
with_length (suc n) h [] = refl
with_length (suc n) h (a ∷ []) = refl
with_length (suc n) h (a ∷ b ∷ st) = ap (λ k. suc (suc k)) (with_length n (λ i. h (suc i)) st)

pub with_value : (n : ℕ) (h : ℕ → ℤ) (st : State) → double n ≤ length st → (i : ℕ) → i < n → at (with_values n h st) (value_slot i) ≡ h i
with_value zero h st b i l = absurd (omega (arith, l))
with_value (suc n) h [] b i l = absurd (omega (arith, b))
with_value (suc n) h (a ∷ []) b i l = absurd (omega (arith, b))
with_value (suc n) h (a ∷ c ∷ st) b zero l = refl
with_value (suc n) h (a ∷ c ∷ st) b (suc i) l = with_value n (λ i. h (suc i)) st (omega (arith, b)) i (omega (arith, l))

pub with_behind : (n : ℕ) (h : ℕ → ℤ) (st : State) (j : ℕ) → double n ≤ j → at (with_values n h st) j ≡ at st j
with_behind zero h st j l = refl
with_behind (suc n) h [] j l = refl
with_behind (suc n) h (a ∷ []) j l = refl
with_behind (suc n) h (a ∷ b ∷ st) zero l = absurd (omega (arith, l))
with_behind (suc n) h (a ∷ b ∷ st) (suc zero) l = absurd (omega (arith, l))
with_behind (suc n) h (a ∷ b ∷ st) (suc (suc j)) l = with_behind n (λ i. h (suc i)) st j (omega (arith, l))

-- ---- a value of a range

module _ (p : Facts) (sts : List State) where
  to_range : (k : Kind) (a b : ℤ) → holds p.model k b ≡ true → Changed sts (ranged (low p.model k) (high p.model k)) a b
  to_range k a b h = let both = and_parts (int_le (low p.model k) b) (int_le b (high p.model k)) h in (both.0, (both.1, tt))

  from_range : (k : Kind) (a b : ℤ) → Changed sts (ranged (low p.model k) (high p.model k)) a b → holds p.model k b ≡ true
  from_range k a b h = λ i. (h.0 i) && (h.1.0 i)

  -- ---- one slot alone

  pub one_changes : (k : Kind) (i : ℕ) (st : State) (z : ℤ) → i < length st → holds p.model k z ≡ true → Changes sts (change_at i (ranged (low p.model k) (high p.model k))) st (put st i z)
  one_changes k i [] z l h = absurd (omega (arith, l))
  one_changes k zero (a ∷ st) z l h = (to_range k a z h, refl)
  one_changes k (suc i) (a ∷ st) z l h = (refl, one_changes k i st z (omega (arith, l)) h)

  pub one_changed : (k : Kind) (i : ℕ) (st after : State) → i < length st → Changes sts (change_at i (ranged (low p.model k) (high p.model k))) st after
      → (after ≡ put st i (at after i)) × (holds p.model k (at after i) ≡ true)
  one_changed k i [] after l h = absurd (omega (arith, l))
  one_changed k zero (a ∷ st) [] l h = absurd h
  one_changed k zero (a ∷ st) (b ∷ after) l h = ((λ j. b ∷ (sym h.1) j), from_range k a b h.0)
  one_changed k (suc i) (a ∷ st) [] l h = absurd h
  one_changed k (suc i) (a ∷ st) (b ∷ after) l h = let r = one_changed k i st after (omega (arith, l)) h.1 in ((λ j. (sym h.0) j ∷ r.0 j), r.1)

  -- ---- the variables of the file

  module _ (c : Contract) where
    -- a variable of the file holds a value of its kind, and the same where it may not differ
    pub record Differs (x : ℕ) (v : Variable) (old new : ℤ) : Type 0 where
      pub fits : may_differ c x ≡ true → holds p.model (kind_of v) new ≡ true
      pub same : may_differ c x ≡ false → old ≡ new

    to_changed : (x : ℕ) (v : Variable) (a b : ℤ) → Differs x v a b → Changed sts (file_change p c x v) a b
    to_changed x v a b h = by (may_differ c x) h.fits h.same where
      by : (d : Bool) → (d ≡ true → holds p.model (kind_of v) b ≡ true) → (d ≡ false → a ≡ b) → Changed sts (if d then ranged (low p.model (kind_of v)) (high p.model (kind_of v)) else keeps) a b
      by true f e = to_range (kind_of v) a b (f refl)
      by false f e = e refl

    from_changed : (x : ℕ) (v : Variable) (a b : ℤ) → Changed sts (file_change p c x v) a b → Differs x v a b
    from_changed x v a b h = let r = by (may_differ c x) h in record { fits = r.0; same = r.1 } where
      by : (d : Bool) → Changed sts (if d then ranged (low p.model (kind_of v)) (high p.model (kind_of v)) else keeps) a b
          → (d ≡ true → holds p.model (kind_of v) b ≡ true) × (d ≡ false → a ≡ b)
      by true h = ((λ e. from_range (kind_of v) a b h), (λ e. absurd (false≢true (sym e))))
      by false h = ((λ e. absurd (false≢true e)), (λ e. h))

    pub file_changes_so : (x : ℕ) (vs : List Variable) (h : ℕ → ℤ) (st : State) → double (length vs) ≤ length st
        → ((i : ℕ) (v : Variable) → slice_get vs i ≡ Some v → Differs (x + i) v (at st (value_slot i)) (h i)) → Changes sts (file_changes p c x vs) st (with_values (length vs) h st)
    file_changes_so x [] h st b so = refl
    file_changes_so x (v ∷ vs) h [] b so = absurd (omega (arith, b))
    file_changes_so x (v ∷ vs) h (a ∷ []) b so = absurd (omega (arith, b))
    file_changes_so x (v ∷ vs) h (a ∷ d ∷ st) b so = (
      to_changed x v a (h 0) (let e : x + 0 ≡ x = omega arith in subst (λ n. Differs n v a (h 0)) e (so 0 v refl)),
      (
        refl,
        file_changes_so (suc x) vs (λ i. h (suc i)) st (omega (arith, b))
            (λ i u g. let e : x + suc i ≡ suc x + i = omega arith in subst (λ n. Differs n u (at st (value_slot i)) (h (suc i))) e (so (suc i) u g)),
      ),
    )

    pub record FileChanged (x : ℕ) (vs : List Variable) (st after : State) : Type 0 where
      pub size : length after ≡ length st
      pub values : (i : ℕ) (v : Variable) → slice_get vs i ≡ Some v → Differs (x + i) v (at st (value_slot i)) (at after (value_slot i))
      pub behind : (j : ℕ) → double (length vs) ≤ j → at after j ≡ at st j

    pub file_changed : (x : ℕ) (vs : List Variable) (st after : State) → double (length vs) ≤ length st → Changes sts (file_changes p c x vs) st after → FileChanged x vs st after
    file_changed x [] st after b h = record { size = ap length (sym h); values = λ i v e. absurd (none_some v e); behind = λ j l. ap (λ s. at s j) (sym h) }
    file_changed x (v ∷ vs) [] after b h = absurd (omega (arith, b))
    file_changed x (v ∷ vs) (a ∷ []) after b h = absurd (omega (arith, b))
    file_changed x (v ∷ vs) (a ∷ d ∷ st) [] b h = absurd h
    file_changed x (v ∷ vs) (a ∷ d ∷ st) (e ∷ []) b h = absurd h.1
    file_changed x (v ∷ vs) (a ∷ d ∷ st) (e ∷ f ∷ after) b h =
        let r = file_changed (suc x) vs st after (omega (arith, b)) h.1.1 in
        record { size = ap (λ n. suc (suc n)) r.size; values = values r.values; behind = behind r.behind }
      where
        values : ((i : ℕ) (u : Variable) → slice_get vs i ≡ Some u → Differs (suc x + i) u (at st (value_slot i)) (at after (value_slot i)))
            → (i : ℕ) (u : Variable) → slice_get (v ∷ vs) i ≡ Some u → Differs (x + i) u (at (a ∷ d ∷ st) (value_slot i)) (at (e ∷ f ∷ after) (value_slot i))
        values rest zero u g =
            let n : x ≡ x + 0 = omega arith in
            subst (λ u. Differs (x + 0) u a e) (first v u g) (subst (λ n. Differs n v a e) n (from_changed x v a e h.0)) where
              first : (v u : Variable) → Some v ≡ Some u → v ≡ u
              first v u g = some_same v u g
        values rest (suc i) u g =
            let n : suc x + i ≡ x + suc i = omega arith in
            subst (λ n. Differs n u (at st (value_slot i)) (at after (value_slot i))) n (rest i u g)

        behind : ((j : ℕ) → double (length vs) ≤ j → at after j ≡ at st j) → (j : ℕ) → suc (suc (double (length vs))) ≤ j → at (e ∷ f ∷ after) j ≡ at (a ∷ d ∷ st) j
        behind rest zero l = absurd (omega (arith, l))
        behind rest (suc zero) l = absurd (omega (arith, l))
        behind rest (suc (suc j)) l = rest j (omega (arith, l))
