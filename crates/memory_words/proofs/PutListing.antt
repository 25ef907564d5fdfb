-- Places of checks, and ends that are come to.
use Rattle.std.proofs.Common.{◌≡◌, ℕ, zero, suc, ◌+◌, Bool, true, false, ◌&&◌, ◌||◌, List, [], ◌∷◌, ◌++◌, length, refl, sym, ap, ◌∙◌, subst, inl, inr, add-zero, arith}
use Rattle.std.proofs.lemmas.Bool.Decides.{Decides-eqb}
use Rattle.walk_steps.specs.Step.{where_so}
use Rattle.walk_steps.specs.Forms.{Place}
use Rattle.memory_steps.specs.State.{State}
use Rattle.memory_steps.specs.Step.{Step, goes, leaves_by, places, count}
use Rattle.memory_steps.specs.Step as step
use Rattle.memory_steps.specs.Run.{End, goes_on, leaves, fails, IsOver, out, on_state, Seg}
use Rattle.memory_steps.specs.Run as seg
use Rattle.memory_words.specs.Placed.{IsPlace, FailsAs}

-- ---- places

pub in_front : (ps qs : List Place) (n i : ℕ) (a : Place) → IsPlace ps n i a → IsPlace (ps ++ qs) n i a
in_front [] qs n i a h = absurd h
in_front (p ∷ ps) qs n i a (inl h) = inl h
in_front (p ∷ ps) qs n i a (inr h) = inr (in_front ps qs (suc n) i a h)

pub in_back : (ps qs : List Place) (n i : ℕ) (a : Place) → IsPlace qs (n + length ps) i a → IsPlace (ps ++ qs) n i a
in_back [] qs n i a h = subst (λ k. IsPlace qs k i a) (add-zero n) h
in_back (p ∷ ps) qs n i a h = inr (in_back ps qs (suc n) i a (let e : n + length (p ∷ ps) ≡ suc n + length ps = omega arith in subst (λ k. IsPlace qs k i a) e h))

-- ---- ends that are come to

or_left : (a b : Bool) → a ≡ true → (a || b) ≡ true
or_left a b e = ap (λ t. t || b) e

or_right : (a b : Bool) → b ≡ true → (a || b) ≡ true
or_right true b e = refl
or_right false b e = e

and_both : (a b : Bool) → a ≡ true → b ≡ true → (a && b) ≡ true
and_both a b e f = ap (λ t. t && b) e ∙ f

-- a step comes to its end, or leaves blocks, only where that is said of it
abbrev pub Comes : Step → End → Type 0
Comes a (goes_on st) = goes a ≡ true
Comes a (leaves k st) = leaves_by a k ≡ true
Comes a (fails i) = Unit {0}

block_comes : (a : Step) (o : End) → Comes a o → Comes (step.block a) (out o)
block_comes a (goes_on st) h = or_right (leaves_by a 0) (goes a) h
block_comes a (leaves zero st) h = or_left (leaves_by a 0) (goes a) h
block_comes a (leaves (suc k) st) h = h
block_comes a (fails i) h = tt

scope_comes : (is : List ℕ) (a : Step) (f : State → State) (o : End) → Comes a o → Comes (step.scope is a) (on_state f o)
scope_comes is a f (goes_on st) h = h
scope_comes is a f (leaves k st) h = h
scope_comes is a f (fails i) h = tt

remember_comes : (a : Step) (o : End) → Comes a o → Comes (step.remember a) o
remember_comes a (goes_on st) h = h
remember_comes a (leaves k st) h = h
remember_comes a (fails i) h = tt

both_come : (a b : Step) (o : End) → goes a ≡ true → Comes b o → Comes (step.seq a b) o
both_come a b (goes_on st) e h = and_both (goes a) (goes b) e h
both_come a b (leaves k st) e h = or_right (leaves_by a k) (goes a && leaves_by b k) (and_both (goes a) (leaves_by b k) e h)
both_come a b (fails i) e h = tt

first_comes : (a b : Step) (o : End) → IsOver o → Comes a o → Comes (step.seq a b) o
first_comes a b (goes_on st) over h = absurd over
first_comes a b (leaves k st) over h = or_left (leaves_by a k) (goes a && leaves_by b k) h
first_comes a b (fails i) over h = tt

arm_comes : (f : _) (a b : Step) (o : End) → Comes a o → Comes (step.choose f a b) o
arm_comes f a b (goes_on st) h = or_left (goes a) (goes b) h
arm_comes f a b (leaves k st) h = or_left (leaves_by a k) (leaves_by b k) h
arm_comes f a b (fails i) h = tt

other_comes : (f : _) (a b : Step) (o : End) → Comes b o → Comes (step.choose f a b) o
other_comes f a b (goes_on st) h = or_right (goes a) (goes b) h
other_comes f a b (leaves k st) h = or_right (leaves_by a k) (leaves_by b k) h
other_comes f a b (fails i) h = tt

pub comes : {olds : List State} {n : ℕ} {a : Step} {st : State} {o : End} → Seg olds n a st o → Comes a o
comes seg.skips = refl
comes (seg.goes_both {a} {b} {o} s k) = both_come a b o (comes s) (comes k)
comes (seg.ends_first {a} {b} {o} s over) = first_comes a b o over (comes s)
comes (seg.asks t) = refl
comes (seg.ask_fails f) = tt
comes (seg.knows_so t) = refl
comes seg.sets = refl
comes (seg.changes ds h) = refl
comes (seg.first_arm {f} {a} {b} {o} e s) = arm_comes f a b o (comes s)
comes (seg.second_arm {f} {a} {b} {o} e s) = other_comes f a b o (comes s)
comes (seg.blocks {a} {o} s) = block_comes a o (comes s)
comes (seg.exits {k}) = (Decides-eqb k k).1 refl
comes (seg.scopes {is} {a} {st} {o} s) = scope_comes is a (seg.put_back is st) o (comes s)
comes (seg.remembers {a} {o} s) = remember_comes a o (comes s)
comes (seg.grows z h) = refl
comes seg.makes = refl
comes seg.ends = refl

-- ---- failing checks in words

pub fails_first : (a b : Step) (n i : ℕ) (e : _) → FailsAs (places a) n i e → FailsAs (places (step.seq a b)) n i e
fails_first a b n i e h = (h.0, in_front (places a) (where_so (goes a) (places b)) n i h.0 h.1, h.2)

pub fails_second : (a b : Step) (n i : ℕ) (e : _) → goes a ≡ true → FailsAs (places b) (n + count a) i e → FailsAs (places (step.seq a b)) n i e
fails_second a b n i e go h =
    (h.0, in_back (places a) (where_so (goes a) (places b)) n i h.0 (subst (λ t. IsPlace (where_so t (places b)) (n + count a) i h.0) (sym go) h.1), h.2)

pub fails_arm : (f : _) (a b : Step) (n i : ℕ) (e : _) → FailsAs (places a) n i e → FailsAs (places (step.choose f a b)) n i e
fails_arm f a b n i e h = (h.0, in_front (places a) (places b) n i h.0 h.1, h.2)

pub fails_other : (f : _) (a b : Step) (n i : ℕ) (e : _) → FailsAs (places b) (n + count a) i e → FailsAs (places (step.choose f a b)) n i e
fails_other f a b n i e h = (h.0, in_back (places a) (places b) n i h.0 h.1, h.2)
