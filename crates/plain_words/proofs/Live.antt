-- Which temporaries are used before core statements, that blocks are left from inside of them, and that nothing is used at the heads of loops.
use Rattle.std.proofs.Common.{◌≡◌, ℕ, ◌<◌, ◌≤◌, Bool, true, false, not, ◌&&◌, ◌||◌, if◌then◌else◌, List, ◌∷◌, length, refl, sym, ap, ◌∙◌, subst, arith}
use Rattle.std.specs.Prelude.{nat_lt}
use Rattle.std.proofs.lemmas.Bool.{false≢true}
use Rattle.std.proofs.lemmas.Bool.Decides.{nat_tests}
use Rattle.c_runs.specs.Program.{Variable}
use Rattle.c_runs.specs.Core.{Core, set, store, start, call, branch, repeat, around, exit, give, claim, scope, Cores, end, then_, join, one}
use Rattle.c_runs.specs.Adding.{step_of, steps_of}
use Rattle.plain_runs.specs.Fitting.{with_names}
use Rattle.loop_words.specs.Told.{Temporaries, no_temporaries, out_at, live, all_live}
use Rattle.plain_words.specs.Temporaries.{greater, temporaries_by, temporaries_in}
use Rattle.plain_words.specs.Sets.{set_stands}

-- ---- tests

pub either : {P : Type 0} (a b : Bool) → (a ≡ true → P) → (b ≡ true → P) → (a || b) ≡ true → P
either true b f g h = f refl
either false b f g h = g h

pub left_in : (a b : Bool) → a ≡ true → (a || b) ≡ true
left_in true b h = refl
left_in false b h = absurd (false≢true h)

pub right_in : (a b : Bool) → b ≡ true → (a || b) ≡ true
right_in true b h = refl
right_in false b h = h

pub regroup : (a b c : Bool) → (a || (b || c)) ≡ true → ((a || b) || c) ≡ true
regroup true b c h = refl
regroup false b c h = h

-- what is used before something that is set
pub before_set : (u e g a : Bool) → (u || (not e && g)) ≡ true → (g ≡ true → (a || e) ≡ true) → (a || u) ≡ true
before_set true e g true h k = refl
before_set true e g false h k = refl
before_set false true g a h k = absurd (false≢true h)
before_set false false false a h k = absurd (false≢true h)
before_set false false true true h k = refl
before_set false false true false h k = absurd (false≢true (k refl))

-- ---- temporaries

-- each of these is one of those
abbrev pub Among : Temporaries → Temporaries → Type 0
Among f a = (n : ℕ) → f n ≡ true → a n ≡ true

abbrev pub also : Temporaries → Temporaries → Temporaries
also a b n = a n || b n

pub among_none : (a : Temporaries) → Among no_temporaries a
among_none a n h = absurd (false≢true h)

pub among_more : (a b : Temporaries) → Among a (also a b)
among_more a b n h = left_in (a n) (b n) h

pub among_other : (a b : Temporaries) → Among b (also a b)
among_other a b n h = right_in (a n) (b n) h

pub among_then : (a b c : Temporaries) → Among a b → Among b c → Among a c
among_then a b c h k n e = k n (h n e)

pub among_grouped : (f a b c : Temporaries) → Among f (also a (λ n. b n || c n)) → Among f (also (also a b) c)
among_grouped f a b c h n e = regroup (a n) (b n) (c n) (h n e)

-- ---- how many there are

pub greater_below : (n k j : ℕ) → greater n k ≤ j → (n ≤ j) × (k ≤ j)
greater_below n k j h = by (nat_lt n k) refl h where
  by : (b : Bool) → nat_lt n k ≡ b → (if b then k else n) ≤ j → (n ≤ j) × (k ≤ j)
  by true e h = (grind (arith, nat_tests, e, h), h)
  by false e h = (h, grind (arith, nat_tests, e, h))

pub below_greater : (n k j : ℕ) → n ≤ j → k ≤ j → greater n k ≤ j
below_greater n k j h g = by (nat_lt n k) where
  by : (b : Bool) → (if b then k else n) ≤ j
  by true = g
  by false = h

module _ (xs : List Variable) where
  abbrev pub count_in : Cores → ℕ
  count_in cs = temporaries_in (steps_of xs cs)

  pub join_below : (a b : Cores) (k : ℕ) → count_in (join a b) ≤ k → (count_in a ≤ k) × (count_in b ≤ k)
  join_below end b k h = (omega (arith), h)
  join_below (then_ s a) b k h =
      let both = greater_below (temporaries_by (step_of xs s)) (count_in (join a b)) k h in
      let rest = join_below a b k both.1 in
      (below_greater (temporaries_by (step_of xs s)) (count_in a) k both.0 rest.0, rest.1)

  pub one_below : (c : Core) (k : ℕ) → count_in (one c) ≤ k → temporaries_by (step_of xs c) ≤ k
  one_below c k h = (greater_below (temporaries_by (step_of xs c)) 0 k h).0

  -- these statements set temporaries from this number up to that one
  abbrev pub Reaches : Cores → (first next : ℕ) → Type 0
  Reaches cs n m = (k : ℕ) → n ≤ k → count_in cs ≤ k → m ≤ k

  -- ---- statements

  abbrev pub lives : Cores → List Temporaries → Temporaries → Temporaries
  lives cs os f = all_live (steps_of xs cs) os f

  -- Blocks are left from inside of them; at the head of a loop no temporary is used, and a loop's own set is of what is in scope.
  abbrev mutual
    pub StaysOne : (in_scope : ℕ → Bool) → List Temporaries → (after : Temporaries) → Core → Type 0
    StaysOne i os f (set n e) = Unit {0}
    StaysOne i os f (store type l path es) = Unit {0}
    StaysOne i os f (start x e) = Unit {0}
    StaysOne i os f (call to n l es) = Unit {0}
    StaysOne i os f (branch e a b) = Stays i os f a × Stays i os f b
    StaysOne i os f (repeat l ss) = (set_stands i l ≡ true) × ((n : ℕ) → lives ss os no_temporaries n ≡ false) × Stays i os no_temporaries ss
    StaysOne i os f (around ss) = Stays i (f ∷ os) f ss
    StaysOne i os f (exit k) = k < length os
    StaysOne i os f (give e) = Unit {0}
    StaysOne i os f (claim c) = Unit {0}
    StaysOne i os f (scope ys ss) = Stays (with_names ys i) os f ss

    pub Stays : (in_scope : ℕ → Bool) → List Temporaries → (after : Temporaries) → Cores → Type 0
    Stays i os f end = Unit {0}
    Stays i os f (then_ s ss) = StaysOne i os (lives ss os f) s × Stays i os f ss

  pub joined : (a b : Cores) (os : List Temporaries) (f : Temporaries) → lives (join a b) os f ≡ lives a os (lives b os f)
  joined end b os f = refl
  joined (then_ s a) b os f = let rest = joined a b os f in λ i n. live (step_of xs s) os (rest i) n

  module _ (i : ℕ → Bool) where
    pub join_stays : (a b : Cores) (os : List Temporaries) (f : Temporaries) → Stays i os (lives b os f) a → Stays i os f b → Stays i os f (join a b)
    join_stays end b os f h k = k
    join_stays (then_ s a) b os f h k = (subst (λ g. StaysOne i os g s) (sym (joined a b os f)) h.0, join_stays a b os f h.1 k)

    -- what is used before these statements is among that
    pub record Fine (a : Temporaries) (os : List Temporaries) (f : Temporaries) (cs : Cores) : Type 0 where
      pub live : Among (lives cs os f) a
      pub stays : Stays i os f cs

    pub end_fine : (a : Temporaries) (os : List Temporaries) (f : Temporaries) → Among f a → Fine a os f end
    end_fine a os f h = record { live = h; stays = tt }

    pub join_fine : (x y : Cores) (a : Temporaries) (os : List Temporaries) (f : Temporaries) → Fine a os (lives y os f) x → Stays i os f y → Fine a os f (join x y)
    join_fine x y a os f h k =
        record { live = λ n e. h.live n (sym (ap (λ g. g n) (joined x y os f)) ∙ e); stays = join_stays x y os f h.stays k }

    pub around_fine : (cs : Cores) (a : Temporaries) (os : List Temporaries) (f : Temporaries) → Fine a (f ∷ os) f cs → Fine a os f (one (around cs))
    around_fine cs a os f h = record { live = h.live; stays = (h.stays, tt) }

    pub more_fine : (cs : Cores) (a b : Temporaries) (os : List Temporaries) (f : Temporaries) → Among a b → Fine a os f cs → Fine b os f cs
    more_fine cs a b os f h k = record { live = λ n e. h n (k.live n e); stays = k.stays }

    -- a block that may be left, behind whose end no more than that is used
    abbrev pub Leaves : Temporaries → List Temporaries → ℕ → Type 0
    Leaves a os k = (k < length os) × Among (out_at os k) a

    pub exit_fine : (a : Temporaries) (os : List Temporaries) (f : Temporaries) (k : ℕ) → Leaves a os k → Fine a os f (one (exit k))
    exit_fine a os f k h = record { live = h.1; stays = (h.0, tt) }
