-- Blocks of variables of the file, and ways step by step.
use Rattle.std.proofs.Common.{◌≡◌, ◌<◌, ◌≤◌, ℕ, zero, suc, ◌+◌, ◌-◌, true, false, ℤ, pos, negsuc, List, ◌∷◌, Ok, length, drop, get_or, refl, sym, ap, ◌∙◌, subst, arith}
use Rattle.std.specs.Prelude.{◌==◌, if◌then◌else◌}
use Rattle.std.proofs.lemmas.List.{at_drop_more, at_drop_all}
use Rattle.core_trees.specs.declared.variables.FunctionVariable.{FunctionVariable}
use Rattle.core_trees.specs.View.{view_variable, view_variables}
use Rattle.typed_prog.specs.declared.operators.Step.{Step}
use Rattle.c_runs.specs.Program.{Facts}
use Rattle.c_runs.specs.States.{home_from}
use Rattle.value_terms.specs.Readings.{Term, Reading}
use Rattle.value_terms.specs.Terms.{stepped_term, along_term}
use Rattle.memory_values.specs.declared.terms.ValueTerm.{ValueTerm}
use Rattle.memory_values.specs.View.{view_term}
use Rattle.memory_values.specs.Drafts.{ValueIs}

-- ---- blocks

-- the variables from a place on, behind so many blocks and so many variables that no pointer leads to
pub home_at : List FunctionVariable → (place blocks plains left : ℕ) → ℤ
home_at gs i n k x = home_from n k (view_variables (drop i gs)) x

pub record HomeLeft (gs : List FunctionVariable) (place blocks plains left number : ℕ) : Type 0 where
  pub whole : home_at gs place blocks plains left ≡ home_from 0 0 (view_variables gs) number
  pub count : plains + blocks + left ≡ number

next_home : (gs : List FunctionVariable) (i n k x : ℕ) (v : FunctionVariable) → i < length gs → v ≡ get_or gs i v
    → home_at gs i n k x ≡ home_from n k (view_variable v ∷ view_variables (drop (i + 1) gs)) x
unfolding home_at
next_home gs i n k x v h e =
    at_drop_more (λ zs. home_from n k (view_variables zs) x) gs i v h ∙ ap (λ z. home_from n k (view_variable z ∷ view_variables (drop (i + 1) gs)) x) (sym e)

pub plain_here : (gs : List FunctionVariable) (i n k x number : ℕ) (v : FunctionVariable) → HomeLeft gs i n k x number → i < length gs → v ≡ get_or gs i v → (x == 0) ≡ true → v.is_plain ≡ true
    → negsuc k ≡ home_from 0 0 (view_variables gs) number
plain_here gs i n k zero number v so_far h e z plain = sym (ap (λ b. if b then negsuc k else pos (suc n)) plain) ∙ sym (next_home gs i n k zero v h e) ∙ so_far.whole
plain_here gs i n k (suc x) number v so_far h e z plain = absurd (grind (arith, z))

pub open_here : (gs : List FunctionVariable) (i n k x number : ℕ) (v : FunctionVariable) → HomeLeft gs i n k x number → i < length gs → v ≡ get_or gs i v → (x == 0) ≡ true → v.is_plain ≡ false
    → pos (suc n) ≡ home_from 0 0 (view_variables gs) number
open_here gs i n k zero number v so_far h e z plain = sym (ap (λ b. if b then negsuc k else pos (suc n)) plain) ∙ sym (next_home gs i n k zero v h e) ∙ so_far.whole
open_here gs i n k (suc x) number v so_far h e z plain = absurd (grind (arith, z))

pub no_home : (gs : List FunctionVariable) (i n k x number : ℕ) → HomeLeft gs i n k x number → length gs ≤ i → pos 0 ≡ home_from 0 0 (view_variables gs) number
unfolding home_at
no_home gs i n k x number so_far h = sym (at_drop_all (λ zs. home_from n k (view_variables zs) x) gs i h) ∙ so_far.whole

pub plain_turn : (gs : List FunctionVariable) (i n k x number : ℕ) (v : FunctionVariable) → HomeLeft gs i n k x number → i < length gs → v ≡ get_or gs i v → (x == 0) ≡ false → v.is_plain ≡ true
    → HomeLeft gs (i + 1) n (k + 1) (x - 1) number
unfolding home_at
plain_turn gs i n k zero number v so_far h e z plain = absurd (grind (arith, z))
plain_turn gs i n k (suc x) number v so_far h e z plain =
    let rest = view_variables (drop (i + 1) gs) in
    let next : k + 1 ≡ suc k = omega arith in
    let less : suc x - 1 ≡ x = omega arith in
    record {
      whole = ap (λ y. home_from n (k + 1) rest y) less ∙ ap (λ k. home_from n k rest x) next ∙ sym (ap (λ b. if b then home_from n (suc k) rest x else home_from (suc n) k rest x) plain) ∙ sym (next_home gs i n k (suc x) v h e) ∙ so_far.whole;
      count = omega (arith, so_far.count);
    }

pub open_turn : (gs : List FunctionVariable) (i n k x number : ℕ) (v : FunctionVariable) → HomeLeft gs i n k x number → i < length gs → v ≡ get_or gs i v → (x == 0) ≡ false → v.is_plain ≡ false
    → HomeLeft gs (i + 1) (n + 1) k (x - 1) number
unfolding home_at
open_turn gs i n k zero number v so_far h e z plain = absurd (grind (arith, z))
open_turn gs i n k (suc x) number v so_far h e z plain =
    let rest = view_variables (drop (i + 1) gs) in
    let next : n + 1 ≡ suc n = omega arith in
    let less : suc x - 1 ≡ x = omega arith in
    record {
      whole = ap (λ y. home_from (n + 1) k rest y) less ∙ ap (λ n. home_from n k rest x) next ∙ sym (ap (λ b. if b then home_from n (suc k) rest x else home_from (suc n) k rest x) plain) ∙ sym (next_home gs i n k (suc x) v h e) ∙ so_far.whole;
      count = omega (arith, so_far.count);
    }

pub first_home : (gs : List FunctionVariable) (number : ℕ) → HomeLeft gs 0 0 0 number number
unfolding home_at
first_home gs number = record { whole = refl; count = omega arith }

pub ruleset home_laws = (plain_here, open_here, no_home, plain_turn, open_turn, first_home)

-- ---- ways

pub first_step : (p : Facts) (r : Reading) (ts : List Term) (ss : List Step) (made : ValueTerm) (a : Term) → ValueIs (Ok made) a → along_term p r ts (drop 0 ss) (view_term made) ≡ along_term p r ts ss a
first_step p r ts ss made a h = ap (along_term p r ts ss) h.is

pub step_turn : (p : Facts) (r : Reading) (ts : List Term) (items ss : List Step) (i : ℕ) (s : Step) (made next : ValueTerm) (whole : Term) → items ≡ ss → i < length items → s ≡ get_or items i s
    → ValueIs (Ok next) (stepped_term p r ts s (view_term made)) → along_term p r ts (drop i ss) (view_term made) ≡ whole → along_term p r ts (drop (i + 1) ss) (view_term next) ≡ whole
step_turn p r ts items ss i s made next whole same h e is so_far =
    let within : i < length ss = subst (λ zs. i < length zs) same h in
    let here : s ≡ get_or ss i s = subst (λ zs. s ≡ get_or zs i s) same e in
    ap (along_term p r ts (drop (i + 1) ss)) is.is ∙ ap (λ z. along_term p r ts (z ∷ drop (i + 1) ss) (view_term made)) here
    ∙ sym (at_drop_more (λ zs. along_term p r ts zs (view_term made)) ss i s within) ∙ so_far

pub all_steps : (p : Facts) (r : Reading) (ts : List Term) (ss : List Step) (i : ℕ) (made : ValueTerm) (whole : Term) → length ss ≤ i → along_term p r ts (drop i ss) (view_term made) ≡ whole
    → ValueIs (Ok made) whole
all_steps p r ts ss i made whole h so_far = record { is = sym (at_drop_all (λ zs. along_term p r ts zs (view_term made)) ss i h) ∙ so_far }

pub ruleset way_laws = (first_step, step_turn, all_steps)
