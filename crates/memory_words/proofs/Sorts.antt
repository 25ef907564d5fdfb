-- Where a number is held, a number is held also behind a change, and where one is put.
use Rattle.std.proofs.Common.{◌≡◌, ℕ, zero, suc, ℤ, false, List, [], ◌∷◌, refl, sym, ap, subst}
use Rattle.walk_steps.specs.State.{at_or, put}
use Rattle.memory_steps.specs.State.{Datum, number, cells as memory_datum, State, HasSort, nothing}
use Rattle.memory_steps.specs.Step.{Change, keeps, fresh, raised}
use Rattle.memory_steps.specs.Run.{Changed}
use Rattle.memory_words.specs.Places.{Place, Sizes, slot, held, with_held, number_in}

pub number_is : (d : Datum) → HasSort false d → d ≡ number (number_in d)
number_is (number z) h = refl
number_is (memory_datum l) h = absurd h

-- a slot that holds a number does so where another one is put, and where it is put itself if that is a number
pub put_sorted : (ds : List Datum) (i j : ℕ) (d : Datum) → (i ≡ j → HasSort false d) → HasSort false (at_or nothing ds j) → HasSort false (at_or nothing (put ds i d) j)
put_sorted [] i j d f h = h
put_sorted (x ∷ ds) zero zero d f h = f refl
put_sorted (x ∷ ds) zero (suc j) d f h = h
put_sorted (x ∷ ds) (suc i) zero d f h = h
put_sorted (x ∷ ds) (suc i) (suc j) d f h = put_sorted ds i j d (λ e. f (ap suc e)) h

pub held_number : (z : Sizes) (a : Place) (x : ℤ) (st : State) (c : Place) → HasSort false (held z st c) → HasSort false (held z (with_held z a (number x) st) c)
held_number z a x st c = put_sorted st.slots (slot z a) (slot z c) (number x) (λ e. tt)

-- where what is put is a number if a number was there
pub held_sorted : (z : Sizes) (a : Place) (d : Datum) (old st : State) (c : Place) → (HasSort false (held z old a) → HasSort false d) → HasSort false (held z old c)
    → HasSort false (held z st c) → HasSort false (held z (with_held z a d st) c)
held_sorted z a d old st c fits was =
    put_sorted st.slots (slot z a) (slot z c) d (λ e. fits (subst (λ i. HasSort false (at_or nothing old.slots i)) (sym e) was))

pub changed_number : (sts : List State) (c : Change) (x y : Datum) → Changed sts c x y → HasSort false x → HasSort false y
changed_number sts keeps x y c h = subst (HasSort false) c h
changed_number sts (fresh fs) (number x) (number y) c h = tt
changed_number sts (fresh fs) (number x) (memory_datum n) c h = absurd c.0
changed_number sts (fresh fs) (memory_datum k) y c h = absurd h
changed_number sts raised (number x) (number y) c h = tt
changed_number sts raised (number x) (memory_datum n) c h = absurd c
changed_number sts raised (memory_datum k) y c h = absurd h
