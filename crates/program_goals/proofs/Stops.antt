-- A check's place says how a run stops that fails there.
use Rattle.std.proofs.Common.{◌≡◌, ℕ, ◌-◌, Bool, true, false, List, [], ◌∷◌, Some, slice_get, refl, sym, ap, ◌∙◌}
use Rattle.std.specs.Prelude.{nat_lt}
use Rattle.std.proofs.lemmas.Bool.{false≢true}
use Rattle.c_runs.specs.Operators as undefined_of
use Rattle.c_runs.specs.Operators.{Undefined}
use Rattle.c_runs.specs.Claims as broken
use Rattle.c_runs.specs.Claims.{Broken, Stop, spent, undefined, failed}
use Rattle.walk_steps.specs.Forms.{Place}
use Rattle.walk_steps.proofs.Lists.{some_parts}
use Rattle.program_steps.specs.Stops.{undefined_number, broken_number, broken_at, IsStop}

-- all of them in the order of their numbers
abbrev all_undefined : List Undefined
all_undefined =
    undefined_of.init ∷ undefined_of.overflow ∷ undefined_of.divzero ∷ undefined_of.shift ∷ undefined_of.access ∷ undefined_of.index ∷ undefined_of.pointing ∷ undefined_of.comparing ∷ undefined_of.noreturn ∷ []

undefined_is : (u : Undefined) → slice_get all_undefined (undefined_number u) ≡ Some u
undefined_is undefined_of.init = refl
undefined_is undefined_of.overflow = refl
undefined_is undefined_of.divzero = refl
undefined_is undefined_of.shift = refl
undefined_is undefined_of.access = refl
undefined_is undefined_of.index = refl
undefined_is undefined_of.pointing = refl
undefined_is undefined_of.comparing = refl
undefined_is undefined_of.noreturn = refl

-- and of the others, from 9 on
abbrev all_broken : List Broken
all_broken =
    broken.requires ∷ broken.decreases ∷ broken.complete ∷ broken.disjoint ∷ broken.assert ∷ broken.invariant ∷ broken.variant_positive ∷ broken.variant_less ∷ broken.assigns ∷ broken.ensures ∷ []

broken_is : (b : Broken) → slice_get all_broken (broken_number b - 9) ≡ Some b
broken_is broken.requires = refl
broken_is broken.decreases = refl
broken_is broken.complete = refl
broken_is broken.disjoint = refl
broken_is broken.assert = refl
broken_is broken.invariant = refl
broken_is broken.variant_positive = refl
broken_is broken.variant_less = refl
broken_is broken.assigns = refl
broken_is broken.ensures = refl

-- numbers below 9 are those of what is undefined
abbrev is_low : ℕ → Bool
is_low n = nat_lt n 9

low_undefined : (u : Undefined) → is_low (broken_at (undefined_number u)) ≡ true
low_undefined undefined_of.init = refl
low_undefined undefined_of.overflow = refl
low_undefined undefined_of.divzero = refl
low_undefined undefined_of.shift = refl
low_undefined undefined_of.access = refl
low_undefined undefined_of.index = refl
low_undefined undefined_of.pointing = refl
low_undefined undefined_of.comparing = refl
low_undefined undefined_of.noreturn = refl

high_broken : (b : Broken) → is_low (broken_number b) ≡ false
high_broken broken.requires = refl
high_broken broken.decreases = refl
high_broken broken.complete = refl
high_broken broken.disjoint = refl
high_broken broken.assert = refl
high_broken broken.invariant = refl
high_broken broken.variant_positive = refl
high_broken broken.variant_less = refl
high_broken broken.assigns = refl
high_broken broken.ensures = refl

no_both : (k : ℕ) (u : Undefined) (b : Broken) → k ≡ undefined_number u → broken_at k ≡ broken_number b → ⊥
no_both k u b h l = false≢true (sym (high_broken b) ∙ ap is_low (sym l ∙ ap broken_at h) ∙ low_undefined u)

pub one_stop : (e e' : Stop) (a : Place) → IsStop e a → IsStop e' a → e ≡ e'
one_stop (spent w) e' a h k = absurd h
one_stop (undefined u l) (spent w) a h k = absurd k
one_stop (undefined u l) (undefined v j) a h k =
    let same = some_parts (sym (undefined_is u) ∙ ap (slice_get all_undefined) (sym h.0 ∙ k.0) ∙ undefined_is v) in
    let line = sym h.1 ∙ k.1 in λ i. undefined (same i) (line i)
one_stop (undefined u l) (failed b j) a h k = absurd (no_both a.kind u b h.0 k.0)
one_stop (failed b l) (spent w) a h k = absurd k
one_stop (failed b l) (undefined u j) a h k = absurd (no_both a.kind u b k.0 h.0)
one_stop (failed b l) (failed c j) a h k =
    let same = some_parts (sym (broken_is b) ∙ ap (λ n. slice_get all_broken (n - 9)) (sym h.0 ∙ k.0) ∙ broken_is c) in
    let line = sym h.1 ∙ k.1 in λ i. failed (same i) (line i)
