-- The logic functions of a setting don't tell alike arguments apart.
use Rattle.std.proofs.Common.{◌≡◌, ℕ, zero, suc, Bool, true, false, ◌&&◌, if◌then◌else◌, ℤ, ◌-ℤ◌, List, [], ◌∷◌, refl, ◌∙◌, ap}
use Rattle.std.specs.Str.{bytes_eq}
use Rattle.wp_base.specs.Blocks.{to_nat}
use Rattle.qed_terms.specs.declared.head.Sort.{Sort}
use Rattle.qed_terms.specs.declared.head.Sort.TheVariants as sort
use Rattle.qed_terms.specs.Meaning.{Value, Whole, Truth, Cells, Blocks, Values, World}
use Rattle.qed_terms.specs.Setting.{Param, Logic, Apps, has_sort, are_arguments, with_value, bound, argument_at, with_function, descend, steps_of, after, apps_from, no_apps, world_of}
use Rattle.same_memories.specs.Alike.{SameMap, Alike, AllAlike, AlikeValues}
use Rattle.same_memories.specs.Laws.{ParametersAreAlike, SettingsRespect}
use Rattle.same_memories.proofs.Values.{whole_alike}
use Rattle.same_memories.proofs.Terms.{meaning_alike}

-- ---- parameters

param_alike : (env env' : Values) → AlikeValues env env' → (p : Param) (v u : Value) → Alike v u → AlikeValues (with_value env p v) (with_value env' p u)
param_alike env env' a p (Whole x) (Whole y) e = record { ints = λ n i. if bytes_eq n p.name then e i else a.ints n i; memories = a.memories; tables = a.tables }
param_alike env env' a p (Truth x) (Truth y) e = a
param_alike env env' a p (Cells m) (Cells n) e = record { ints = a.ints; memories = λ x. by x (bytes_eq x p.name); tables = a.tables }
  where
    by : (x : List ℕ) (t : Bool) → SameMap (if t then m else env.memories x) (if t then n else env'.memories x)
    by x true = e
    by x false = a.memories x
param_alike env env' a p (Blocks s) (Blocks t) e = record { ints = a.ints; memories = a.memories; tables = λ n i. if bytes_eq n p.name then e i else a.tables n i }
param_alike env env' a p v u e = absurd e

pub parameters_are_alike : ParametersAreAlike
parameters_are_alike [] vs us a = record { ints = λ x. refl; memories = λ x b o. refl; tables = λ x. refl }
parameters_are_alike (p ∷ ps) [] [] a = record { ints = λ x. refl; memories = λ x b o. refl; tables = λ x. refl }
parameters_are_alike (p ∷ ps) [] (u ∷ us) a = absurd a
parameters_are_alike (p ∷ ps) (v ∷ vs) [] a = absurd a
parameters_are_alike (p ∷ ps) (v ∷ vs) (u ∷ us) a = param_alike (bound ps vs) (bound ps us) (parameters_are_alike ps vs us a.1) p v u a.0

sorts_alike : (s : Sort) (v u : Value) → Alike v u → has_sort s v ≡ has_sort s u
sorts_alike sort.Int (Whole x) (Whole y) a = refl
sorts_alike sort.Int (Truth x) (Truth y) a = refl
sorts_alike sort.Int (Cells m) (Cells n) a = refl
sorts_alike sort.Int (Blocks t) (Blocks r) a = refl
sorts_alike sort.Memory (Whole x) (Whole y) a = refl
sorts_alike sort.Memory (Truth x) (Truth y) a = refl
sorts_alike sort.Memory (Cells m) (Cells n) a = refl
sorts_alike sort.Memory (Blocks t) (Blocks r) a = refl
sorts_alike sort.Table (Whole x) (Whole y) a = refl
sorts_alike sort.Table (Truth x) (Truth y) a = refl
sorts_alike sort.Table (Cells m) (Cells n) a = refl
sorts_alike sort.Table (Blocks t) (Blocks r) a = refl
sorts_alike s v u a = absurd a

arguments_alike : (ps : List Param) (vs us : List Value) → AllAlike vs us → are_arguments ps vs ≡ are_arguments ps us
arguments_alike ps [] [] a = refl
arguments_alike ps [] (u ∷ us) a = absurd a
arguments_alike ps (v ∷ vs) [] a = absurd a
arguments_alike [] (v ∷ vs) (u ∷ us) a = refl
arguments_alike (p ∷ ps) (v ∷ vs) (u ∷ us) a = let x = sorts_alike p.sort v u a.0 in let y = arguments_alike ps vs us a.1 in λ i. x i && y i

place_alike : (vs us : List Value) → AllAlike vs us → (n : ℕ) → argument_at vs n ≡ argument_at us n
place_alike [] [] a n = refl
place_alike [] (u ∷ us) a n = absurd a
place_alike (v ∷ vs) [] a n = absurd a
place_alike (v ∷ vs) (u ∷ us) a zero = whole_alike v u a.0
place_alike (v ∷ vs) (u ∷ us) a (suc n) = place_alike vs us a.1 n

-- ---- functions

abbrev AppsRespect : Apps → Type 0
AppsRespect apps = (f : List ℕ) (vs us : List Value) → AllAlike vs us → apps f vs ≡ apps f us

abbrev OwnRespects : (List Value → ℤ) → Type 0
OwnRespects own = (vs us : List Value) → AllAlike vs us → own vs ≡ own us

function_respects : (known : Apps) (f : Logic) (own : List Value → ℤ) → AppsRespect known → OwnRespects own → AppsRespect (with_function known f own)
function_respects known f own k o x vs us a =
    let test = arguments_alike f.params vs us a in
    λ i. if bytes_eq x f.name && test i then o vs us a i else k x vs us a i

module _ (bits : ℕ) (known : Apps) (f : Logic) (k : AppsRespect known) where
  -- so many steps above the cut, by those below
  descend_respects : (n : ℕ) → OwnRespects (descend bits known f n)
  unfolding descend
  descend_respects zero vs us a =
      let w : World = record { long_bits = bits; apps = known } in
      whole_alike _ _ (meaning_alike w k f.base (bound f.params vs) (bound f.params us) (parameters_are_alike f.params vs us a))
  descend_respects (suc n) vs us a =
      let w : World = record { long_bits = bits; apps = with_function known f (descend bits known f n) } in
      let r = function_respects known f (descend bits known f n) k (descend_respects n) in
      whole_alike _ _ (meaning_alike w r f.step (bound f.params vs) (bound f.params us) (parameters_are_alike f.params vs us a))

  after_respects : AppsRespect (after bits known f)
  after_respects =
      function_respects known f (λ vs. descend bits known f (steps_of f vs) vs) k
      (λ vs us a. ap (λ z. descend bits known f (to_nat (z -ℤ f.cut)) vs) (place_alike vs us a f.number) ∙ descend_respects (steps_of f us) vs us a)

apps_respect : (bits : ℕ) (known : Apps) (fs : List Logic) → AppsRespect known → AppsRespect (apps_from bits known fs)
apps_respect bits known [] k = k
apps_respect bits known (f ∷ fs) k = apps_respect bits (after bits known f) fs (after_respects bits known f k)

pub settings_respect : SettingsRespect
unfolding world_of
settings_respect s = apps_respect s.long_bits no_apps s.logic (λ f vs us a. refl)
