-- Where numbers meet all links there is no walk back with a negative sum; a walk back with one has a chain in it.
use Rattle.std.proofs.Common.{◌≡◌, ◌≢◌, ◌⊎◌, ℕ, zero, suc, ◌+◌, ◌<◌, length, get_or, take, map, Bool, true, false, List, [], ◌∷◌, ◌++◌, refl, sym, ◌∙◌, ap, subst, inl, inr, arith}
use Rattle.std.specs.Prelude.{ℤ, pos, ◌+ℤ◌, ◌≤ℤ◌, ◌<ℤ◌, int_lt, Option, Some, None, slice_get}
use Rattle.std.proofs.lemmas.Int.{ints}
use Rattle.linear_chains.specs.Links.{Form, Step}
use Rattle.linear_chains.specs.Chains.{Walk, stays, goes, NotAmong, AllDiffer, IsChain, Meets}
use Rattle.linear_chains.specs.Tables.{from_at, no_step, WalkAt}
use Rattle.linear_chains.proofs.Equality.{told}
use Rattle.linear_chains.proofs.Lists.{get_default, take_next, map_more}

one_step : (du df dt dv b z y : ℤ) → du ≡ df → df ≤ℤ (dt +ℤ b) → dt ≤ℤ (dv +ℤ z) → y ≡ b +ℤ z → du ≤ℤ (dv +ℤ y)
one_step du df dt dv b z y c a h g = omega (arith, ints)

told_negative : (a : ℤ) → (a <ℤ pos 0) ⊎ (pos 0 ≤ℤ a)
told_negative a = go (int_lt a (pos 0)) refl
  where
    go : (b : Bool) → int_lt a (pos 0) ≡ b → (a <ℤ pos 0) ⊎ (pos 0 ≤ℤ a)
    go true e = inl (omega (arith, ints, e))
    go false e = inr (omega (arith, ints, e))

smaller : (s x y b z t : ℤ) → s ≡ x +ℤ y → s ≤ℤ z → pos 0 ≤ℤ (b +ℤ x) → t ≡ b +ℤ z → y ≤ℤ t
smaller s x y b z t sum small n g = omega (arith, ints)

larger : (s b z t : ℤ) → s ≤ℤ z → t ≡ b +ℤ z → (b +ℤ s) ≤ℤ t
larger s b z t small g = omega (arith, ints)

below : (s z : ℤ) → s ≤ℤ z → z <ℤ pos 0 → s <ℤ pos 0
below s z small n = omega (arith, ints)

further : (y b z x w : ℤ) → y ≡ b +ℤ z → z ≡ x +ℤ w → y ≡ (b +ℤ x) +ℤ w
further y b z x w g h = omega (arith, ints)

nothing_more : (z : ℤ) → z ≡ pos 0 +ℤ z
nothing_more z = omega (arith, ints)

module _ (steps : List Step) where
  pub no_less : (d : Form → ℤ) → Meets steps d → {u v : Form} {ks : List ℕ} {us : List Form} {z : ℤ} → Walk steps u ks us v z → d u ≤ℤ (d v +ℤ z)
  no_less d meets {u} stays = omega (arith, ints)
  no_less d meets {u} {v} (goes {z = z} {y = y} k s e f w g) = one_step (d u) (d s.from) (d s.to) (d v) s.bound z y (ap d f) (meets k s e) (no_less d meets w) g

  pub none_where_met : (d : Form → ℤ) → Meets steps d → (ks : List ℕ) (total : ℤ) → IsChain steps ks total → ⊥
  none_where_met d meets ks total c =
      let a = no_less d meets c.walk in
      let n = c.negative in
      absurd (omega (arith, ints))

  -- ---- a walk back with a negative sum has a chain in it

  -- up to the first time that the walk comes to a side, and on from there
  record Cut (p u v : Form) (us : List Form) (z : ℤ) : Type 0 where
    before : List ℕ
    front : List Form
    after : List ℕ
    back : List Form
    x : ℤ
    y : ℤ
    there : Walk steps u before front p x
    onward : Walk steps p after back v y
    front_once : AllDiffer front
    back_once : AllDiffer back
    apart : NotAmong p front
    fewer : (q : Form) → NotAmong q us → NotAmong q front
    sum : z ≡ x +ℤ y

  cut : (p : Form) {u v : Form} {ks : List ℕ} {us : List Form} {z : ℤ} → Walk steps u ks us v z → AllDiffer us → NotAmong p us ⊎ Cut p u v us z
  cut p stays d = inl tt
  cut p {u} {v} (goes {ks = ks} {us = us} {z = z} {y = y} k s e f w g) d = elim (told p u) [
    | inl q ↦ inr (record {
      before = [];
      front = [];
      after = k ∷ ks;
      back = u ∷ us;
      x = pos 0;
      y = y;
      there = subst (λ t. Walk steps u [] [] t (pos 0)) (sym q) stays;
      onward = subst (λ t. Walk steps t (k ∷ ks) (u ∷ us) v y) (sym q) (goes k s e f w g);
      front_once = tt;
      back_once = d;
      apart = tt;
      fewer = λ r n. tt;
      sum = nothing_more y;
    })
    | inr n ↦ elim (cut p w (d.1)) [
      | inl a ↦ inl (n, a)
      | inr c ↦ inr (record {
        before = k ∷ c.before;
        front = u ∷ c.front;
        after = c.after;
        back = c.back;
        x = s.bound +ℤ c.x;
        y = c.y;
        there = goes k s e f c.there refl;
        onward = c.onward;
        front_once = (c.fewer u (d.0), c.front_once);
        back_once = c.back_once;
        apart = (n, c.apart);
        fewer = λ r m. (m.0, c.fewer r (m.1));
        sum = further y s.bound z c.x c.y g c.sum;
      })
    ]
  ]

  record Shorter (u v : Form) (z : ℤ) : Type 0 where
    places : List ℕ
    sides : List Form
    total : ℤ
    walk : Walk steps u places sides v total
    once : AllDiffer sides
    small : total ≤ℤ z

  SomeChain : Type 0
  SomeChain = (ks : List ℕ) × (total : ℤ) × IsChain steps ks total

  -- there is a chain, or a walk with no side twice that is no larger
  simplify : {u v : Form} {ks : List ℕ} {us : List Form} {z : ℤ} → Walk steps u ks us v z → SomeChain ⊎ Shorter u v z
  unfolding SomeChain
  simplify stays = inr (record { places = []; sides = []; total = pos 0; walk = stays; once = tt; small = omega (arith, ints) })
  simplify {u} {v} (goes {z = z} {y = y} k s e f w g) = elim (simplify w) [
    | inl c ↦ inl c
    | inr r ↦ elim (cut u r.walk r.once) [
      | inl n ↦ inr (record {
        places = k ∷ r.places;
        sides = u ∷ r.sides;
        total = s.bound +ℤ r.total;
        walk = goes k s e f r.walk refl;
        once = (n, r.once);
        small = larger r.total s.bound z y r.small g;
      })
      | inr c ↦ elim (told_negative (s.bound +ℤ c.x)) [
        | inl m ↦ inl (k ∷ c.before, s.bound +ℤ c.x, record { start = u; sides = u ∷ c.front; walk = goes k s e f c.there refl; once = (c.apart, c.front_once); negative = m })
        | inr m ↦ inr (record {
          places = c.after;
          sides = c.back;
          total = c.y;
          walk = c.onward;
          once = c.back_once;
          small = smaller r.total c.x c.y s.bound z y c.sum r.small m g;
        })
      ]
    ]
  ]

  pub chain_in : {u : Form} {ks : List ℕ} {us : List Form} {z : ℤ} → Walk steps u ks us u z → z <ℤ pos 0 → (ms : List ℕ) × (total : ℤ) × IsChain steps ms total
  unfolding SomeChain
  chain_in {u} {z = z} w n = elim (simplify w) [
    | inl c ↦ c
    | inr r ↦ (r.places, r.total, record { start = u; sides = r.sides; walk = r.walk; once = r.once; negative = below r.total z r.small n })
  ]

  -- ---- as the code goes

  walk_more : {u v : Form} {ks : List ℕ} {us : List Form} {z : ℤ} → Walk steps u ks us v z → (k : ℕ) (s : Step) → slice_get steps k ≡ Some s → v ≡ s.from → (y : ℤ) → y ≡ z +ℤ s.bound → Walk steps u (ks ++ k ∷ []) (us ++ v ∷ []) (s.to) y
  walk_more stays k s e f y g = goes k s e f stays (last y (s.bound) g)
    where
      last : (y b : ℤ) → y ≡ pos 0 +ℤ b → y ≡ b +ℤ pos 0
      last y b g = omega (arith, ints)
  walk_more (goes {z = z} {y = t} m r h i w j) k s e f y g = goes m r h i (walk_more w k s e f (z +ℤ s.bound) refl) (moved y t z (r.bound) (s.bound) g j)
    where
      moved : (y t z a b : ℤ) → y ≡ t +ℤ b → t ≡ a +ℤ z → y ≡ a +ℤ (z +ℤ b)
      moved y t z a b g j = omega (arith, ints)

  -- one link more on a walk along places
  pub walk_next : (u : Form) (places : List ℕ) (i : ℕ) (at : Form) (z y : ℤ) (s : Step) → i < length places → slice_get steps (get_or places i 0) ≡ Some s → at ≡ s.from → y ≡ z +ℤ s.bound → WalkAt steps u (take i places) at z → WalkAt steps u (take (i + 1) places) (s.to) y
  walk_next u places i at z y s k e f g w =
      let place = get_or places i 0 in
      let more = walk_more w place s e f y g in
      let t = take_next places i k in
      let a : at ≡ from_at steps place = f ∙ ap (λ r. r.from) (sym (get_default steps place s no_step e)) in
      let m : map (from_at steps) (take i places ++ place ∷ []) ≡ map (from_at steps) (take i places) ++ at ∷ [] = map_more (from_at steps) (take i places) place ∙ ap (λ r. map (from_at steps) (take i places) ++ r ∷ []) (sym a) in
      subst (λ r. Walk steps u r (map (from_at steps) r) (s.to) y) (sym t) (subst (λ r. Walk steps u (take i places ++ place ∷ []) r (s.to) y) (sym m) more)
