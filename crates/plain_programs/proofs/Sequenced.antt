-- A full expression that has one result in every order has one embedded effect at most.
use Rattle.std.proofs.Common.{◌≡◌, ℕ, Bool, true, false, not, ◌&&◌, ◌||◌, if◌then◌else◌, ◌⊎◌, inl, inr, refl, sym, ap, ◌∙◌}
use Rattle.std.proofs.lemmas.Bool.{false≢true, and_parts}
use Rattle.typed_prog.specs.declared.types.CoreType.{CoreType}
use Rattle.typed_prog.specs.declared.operators.Effect.{Effect}
use Rattle.typed_prog.specs.declared.operators.Effect.TheVariants as effect
use Rattle.typed_prog.specs.declared.operators.Path.{Path}
use Rattle.typed_prog.specs.declared.operators.UpdateForm.TheVariants as form
use Rattle.typed_prog.specs.Tree as t
use Rattle.c_sequence.specs.declared.found.Found.{Found}
use Rattle.c_sequence.specs.declared.found.Found.TheVariants as seen
use Rattle.c_sequence.specs.Sequence.{Plain, embedded_in, and_also, effects, all_effects, alone_by, assigned_by, updated_by, effect_by, is_of_context, sequenced}
use Rattle.c_runs.specs.Values.{has_effect, have_effect}
use Rattle.plain_normal.specs.Single.{is_single, are_single}
use Rattle.plain_programs.specs.Laws.{SequencedAreSingle}

-- ---- how many effects there are

abbrev is_nothing : Found → Bool
is_nothing seen.Nothing = true
is_nothing (seen.One x) = false
is_nothing seen.Several = false

-- not several
abbrev Few : Found → Type 0
Few seen.Nothing = Unit {0}
Few (seen.One x) = Unit {0}
Few seen.Several = ⊥

nothing_in : (x y : Found) → is_nothing (and_also x y) ≡ (is_nothing x && is_nothing y)
nothing_in seen.Nothing y = refl
nothing_in (seen.One x) seen.Nothing = refl
nothing_in (seen.One x) (seen.One y) = refl
nothing_in (seen.One x) seen.Several = refl
nothing_in seen.Several y = refl

-- of both parts one has none
record FewIn (x y : Found) : Type 0 where
  pub first : Few x
  pub second : Few y
  pub one : (is_nothing x ≡ true) ⊎ (is_nothing y ≡ true)

few_in : (x y : Found) → Few (and_also x y) → FewIn x y
few_in seen.Nothing y h = record { first = tt; second = h; one = inl refl }
few_in (seen.One x) seen.Nothing h = record { first = tt; second = tt; one = inr refl }
few_in (seen.One x) (seen.One y) h = elim h [ ]
few_in (seen.One x) seen.Several h = elim h [ ]
few_in seen.Several y h = elim h [ ]

none_of_two : (a b : Bool) → a ≡ false → b ≡ false → (a || b) ≡ false
none_of_two true b h k = h
none_of_two false b h k = k

mutual
  quiet : (e : t.Value) → is_nothing (effects e) ≡ true → has_effect e ≡ false
  quiet (t.typed (t.constant z) type l) h = refl
  quiet (t.typed t.null type l) h = refl
  quiet (t.typed (t.temporary n) type l) h = refl
  quiet (t.typed (t.apply o es) type l) h = all_quiet es h
  quiet (t.typed (t.logic c a b) type l) h =
      let both = and_parts (is_nothing (effects a)) (is_nothing (effects b)) (sym (nothing_in (effects a) (effects b)) ∙ h) in
      none_of_two (has_effect a) (has_effect b) (quiet a both.0) (quiet b both.1)
  quiet (t.typed (t.choose c a b) type l) h =
      let both = and_parts (is_nothing (effects c)) (is_nothing (and_also (effects a) (effects b))) (sym (nothing_in (effects c) (and_also (effects a) (effects b))) ∙ h) in
      let arms = and_parts (is_nothing (effects a)) (is_nothing (effects b)) (sym (nothing_in (effects a) (effects b)) ∙ both.1) in
      none_of_two (has_effect c || has_effect a) (has_effect b) (none_of_two (has_effect c) (has_effect a) (quiet c both.0) (quiet a arms.0)) (quiet b arms.1)
  quiet (t.typed (t.effect e es) type l) h = absurd (false≢true (sym (nothing_in (seen.One (embedded_in e)) (all_effects es)) ∙ h))

  all_quiet : (es : t.Values) → is_nothing (all_effects es) ≡ true → have_effect es ≡ false
  all_quiet t.stop h = refl
  all_quiet (t.more e es) h =
      let both = and_parts (is_nothing (effects e)) (is_nothing (all_effects es)) (sym (nothing_in (effects e) (all_effects es)) ∙ h) in
      none_of_two (has_effect e) (have_effect es) (quiet e both.0) (all_quiet es both.1)

-- ---- one at most among operands

one_at_most : (a b : Bool) → (a ≡ false) ⊎ (b ≡ false) → not (a && b) ≡ true
one_at_most true b (inl h) = absurd (false≢true (sym h))
one_at_most false b (inl h) = refl
one_at_most true b (inr h) = ap not h
one_at_most false b (inr h) = refl

quiet_one : (x y : Found) (a b : Bool) → ((is_nothing x ≡ true) → a ≡ false) → ((is_nothing y ≡ true) → b ≡ false) → (is_nothing x ≡ true) ⊎ (is_nothing y ≡ true) → not (a && b) ≡ true
quiet_one x y a b f g (inl h) = one_at_most a b (inl (f h))
quiet_one x y a b f g (inr h) = one_at_most a b (inr (g h))

both_true : (a b : Bool) → a ≡ true → b ≡ true → (a && b) ≡ true
both_true true b h k = k
both_true false b h k = h

mutual
  single : (e : t.Value) → Few (effects e) → is_single e ≡ true
  single (t.typed (t.constant z) type l) h = refl
  single (t.typed t.null type l) h = refl
  single (t.typed (t.temporary n) type l) h = refl
  single (t.typed (t.apply o es) type l) h = all_single es h
  single (t.typed (t.logic c a b) type l) h =
      let few = few_in (effects a) (effects b) h in
      both_true (not (has_effect a && has_effect b)) (is_single a && is_single b) (quiet_one (effects a) (effects b) (has_effect a) (has_effect b) (quiet a) (quiet b) few.one)
      (both_true (is_single a) (is_single b) (single a few.first) (single b few.second))
  single (t.typed (t.choose c a b) type l) h =
      let few = few_in (effects c) (and_also (effects a) (effects b)) h in
      let arms = few_in (effects a) (effects b) few.second in
      both_true (not (has_effect c && (has_effect a || has_effect b))) (is_single c && (is_single a && is_single b))
      (quiet_one (effects c) (and_also (effects a) (effects b)) (has_effect c) (has_effect a || has_effect b) (quiet c)
      (λ k. let both = and_parts (is_nothing (effects a)) (is_nothing (effects b)) (sym (nothing_in (effects a) (effects b)) ∙ k) in
      none_of_two (has_effect a) (has_effect b) (quiet a both.0) (quiet b both.1)) few.one)
      (both_true (is_single c) (is_single a && is_single b) (single c few.first) (both_true (is_single a) (is_single b) (single a arms.first) (single b arms.second)))
  single (t.typed (t.effect e es) type l) h = all_single es (few_in (seen.One (embedded_in e)) (all_effects es) h).second

  all_single : (es : t.Values) → Few (all_effects es) → are_single es ≡ true
  all_single t.stop h = refl
  all_single (t.more e es) h =
      let few = few_in (effects e) (all_effects es) h in
      both_true (not (has_effect e && have_effect es)) (is_single e && are_single es) (quiet_one (effects e) (all_effects es) (has_effect e) (have_effect es) (quiet e) (all_quiet es) few.one)
      (both_true (is_single e) (are_single es) (single e few.first) (all_single es few.second))

-- ---- full expressions

alone_few : (plain : Plain) (v : t.Value) (x : Found) → alone_by plain v x ≡ true → Few x
alone_few plain v seen.Nothing h = tt
alone_few plain v (seen.One e) h = tt
alone_few plain v seen.Several h = absurd (false≢true h)

assigned_few : (plain : Plain) (path : Path) (vs : t.Values) (x : Found) → assigned_by plain path vs x ≡ true → Few x
assigned_few plain path vs seen.Nothing h = tt
assigned_few plain path vs (seen.One e) h = tt
assigned_few plain path vs seen.Several h = absurd (false≢true h)

updated_few : (plain : Plain) (path : Path) (vs : t.Values) (x : Found) → updated_by plain path vs x ≡ true → Few x
updated_few plain path vs seen.Nothing h = tt
updated_few plain path vs (seen.One e) h = tt
updated_few plain path vs seen.Several h = absurd (false≢true h)

effect_single : (plain : Plain) (does : Effect) (vs : t.Values) (type : CoreType) (l : ℕ) → effect_by plain (t.typed (t.effect does vs) type l) does vs ≡ true → are_single vs ≡ true
effect_single plain (effect.Assign path) vs type l h = all_single vs (assigned_few plain path vs (all_effects vs) h)
effect_single plain (effect.Update path by form.Compound) vs type l h = all_single vs (updated_few plain path vs (all_effects vs) h)
effect_single plain (effect.Update path by form.Prefix) vs type l h =
    let v = t.typed (t.effect (effect.Update path by form.Prefix) vs) type l in single v (alone_few plain v (effects v) h)
effect_single plain (effect.Update path by form.Postfix) vs type l h =
    let v = t.typed (t.effect (effect.Update path by form.Postfix) vs) type l in single v (alone_few plain v (effects v) h)
effect_single plain (effect.Call n) vs type l h = let v = t.typed (t.effect (effect.Call n) vs) type l in single v (alone_few plain v (effects v) h)

one_operand : (e : t.Value) → is_single e ≡ true → are_single (t.more e t.stop) ≡ true
one_operand e h = both_true (not (has_effect e && false)) (is_single e && true) (one_at_most (has_effect e) false (inr refl)) (both_true (is_single e) true h refl)

pub sequenced_are_single : SequencedAreSingle
sequenced_are_single plain (t.typed (t.constant z) type l) h = refl
sequenced_are_single plain (t.typed t.null type l) h = refl
sequenced_are_single plain (t.typed (t.temporary n) type l) h = refl
sequenced_are_single plain (t.typed (t.logic c a b) type l) h =
    let v = t.typed (t.logic c a b) type l in single v (alone_few plain v (effects v) h)
sequenced_are_single plain (t.typed (t.choose c a b) type l) h =
    let v = t.typed (t.choose c a b) type l in single v (alone_few plain v (effects v) h)
sequenced_are_single plain (t.typed (t.effect does vs) type l) h = effect_single plain does vs type l h
sequenced_are_single plain (t.typed (t.apply o t.stop) type l) h = refl
sequenced_are_single plain (t.typed (t.apply o (t.more v (t.more w vs))) type l) h =
    all_single (t.more v (t.more w vs)) (alone_few plain (t.typed (t.apply o (t.more v (t.more w vs))) type l) (all_effects (t.more v (t.more w vs))) h)
sequenced_are_single plain (t.typed (t.apply o (t.more v t.stop)) type l) h = by (is_of_context o) h (sequenced_are_single plain v) where
  by : (z : Bool) → (if z then sequenced plain v else alone_by plain (t.typed (t.apply o (t.more v t.stop)) type l) (all_effects (t.more v t.stop))) ≡ true
      → (sequenced plain v ≡ true → is_single v ≡ true) → are_single (t.more v t.stop) ≡ true
  by true k inside = one_operand v (inside k)
  by false k inside = all_single (t.more v t.stop) (alone_few plain (t.typed (t.apply o (t.more v t.stop)) type l) (all_effects (t.more v t.stop)) k)
