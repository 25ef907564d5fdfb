-- Formulas that are made of several ones: when they are closed, and what they say.
use Rattle.std.proofs.Common.{◌≡◌, Bool, true, false, not, ◌&&◌, ◌||◌, List, [], ◌∷◌, ◌++◌, map, refl, sym, ap, ◌∙◌}
use Rattle.std.specs.List.{list_all}
use Rattle.std.proofs.lemmas.Bool.{and_parts}
use Rattle.acsl_trees.specs.Tree as acsl
use Rattle.c_runs.specs.TruthStates as labelled
use Rattle.acsl_encode.specs.Readings as annotation
use Rattle.acsl_encode.specs.Meaning.{Stands}
use Rattle.acsl_encode.specs.Encode.{all_of}
use Rattle.qed_terms.specs.Meaning as sense
use Rattle.qed_terms.specs.Meaning.{truth, is_so, meanings, each_true}
use Rattle.qed_terms.specs.Tree.{Tree, trees_of, imp_of}
use Rattle.c_runs.specs.Program.{Facts}
use Rattle.c_runs.specs.Claims.{holds}
use Rattle.typed_memories.proofs.Tests.{both_so}
use Rattle.memory_steps.specs.State.{State}
use Rattle.memory_words.specs.Leaves.{leaves_of, is_closed, closed}
use Rattle.memory_words.specs.Seen.{ClaimFits}
use Rattle.memory_words.proofs.Valued.{closed_told}
use Rattle.memory_words.specs.Sets.{or_none, claim_tree, assumed_tree, under, as_one, as_one_unless}
use Rattle.memory_words.specs.Typed.{AllOf}
use Rattle.memory_words.specs.Placed.{all_told}
use Rattle.memory_calls.proofs.Clauses.{trees_closed}

abbrev pub AllClosed : List Tree → Type 0
AllClosed fs = list_all (is_closed []) fs ≡ true

pub all_closed : (fs : List Tree) → AllClosed fs → is_closed [] (all_of fs) ≡ true
all_closed [] h = refl
all_closed (f ∷ []) h = (and_parts (is_closed [] f) true h).0
all_closed (f ∷ g ∷ fs) h = trees_closed (f ∷ g ∷ fs) h

pub more_closed : (fs gs : List Tree) → AllClosed fs → AllClosed gs → AllClosed (fs ++ gs)
more_closed [] gs h k = k
more_closed (f ∷ fs) gs h k =
    let both = and_parts (is_closed [] f) (list_all (is_closed []) fs) h in both_so (is_closed [] f) (list_all (is_closed []) (fs ++ gs)) both.0 (more_closed fs gs both.1 k)

pub under_closed : (plain : Bool) (a : Tree) → is_closed [] a ≡ true → (fs : List Tree) → AllClosed fs → AllClosed (map (under plain a) fs)
under_closed plain a closed_a [] h = refl
under_closed true a closed_a (f ∷ fs) h =
    let both = and_parts (is_closed [] f) (list_all (is_closed []) fs) h in both_so (is_closed [] f) (list_all (is_closed []) (map (under true a) fs)) both.0 (under_closed true a closed_a fs both.1)
under_closed false a closed_a (f ∷ fs) h =
    let both = and_parts (is_closed [] f) (list_all (is_closed []) fs) h in
    both_so (is_closed [] (imp_of a f)) (list_all (is_closed []) (map (under false a) fs)) (λ i. closed_a i && (both.0 i && true)) (under_closed false a closed_a fs both.1)

module _ (m : sense.World) (sts : List State) where
  abbrev T : Tree → Bool
  T f = truth m (leaves_of sts) f

  and_so : (a : Bool) → (a && true) ≡ a
  and_so true = refl
  and_so false = refl

  each_told : (fs : List Tree) → each_true (map is_so (meanings m (leaves_of sts) (trees_of fs))) ≡ list_all T fs
  each_told [] = refl
  each_told (f ∷ fs) = ap (λ b. T f && b) (each_told fs)

  all_is : (fs : List Tree) → T (all_of fs) ≡ list_all T fs
  all_is [] = refl
  all_is (f ∷ []) = sym (and_so (T f))
  all_is (f ∷ g ∷ fs) = each_told (f ∷ g ∷ fs)

  pub told_is : (fs : List Tree) → AllClosed fs → all_told m sts fs ≡ list_all T fs
  told_is [] h = refl
  told_is (f ∷ fs) h =
      let both = and_parts (is_closed [] f) (list_all (is_closed []) fs) h in λ i. closed_told m sts f both.0 i && told_is fs both.1 i

  -- all of them are told as one
  pub all_one : (fs : List Tree) → AllClosed fs → T (closed (all_of fs)) ≡ all_told m sts fs
  all_one fs h = closed_told m sts (all_of fs) (all_closed fs h) ∙ all_is fs ∙ sym (told_is fs h)

  pub one_told : (fs : List Tree) → AllClosed fs → all_told m sts (as_one fs) ≡ all_told m sts fs
  one_told [] h = refl
  one_told (f ∷ fs) h = and_so (T (closed (all_of (f ∷ fs)))) ∙ all_one (f ∷ fs) h

  pub unless_told : (b : Bool) (fs : List Tree) → AllClosed fs → (b ≡ true → all_told m sts fs ≡ false) → all_told m sts (as_one_unless b fs) ≡ all_told m sts fs
  unless_told true fs h refuses = sym (refuses refl)
  unless_told false fs h refuses = one_told fs h

  -- ---- where something is assumed

  implied : (a b c : Bool) → ((not a || b) && (not a || c)) ≡ (not a || (b && c))
  implied true b c = refl
  implied false b c = refl

  none_implied : (a : Bool) → true ≡ (not a || true)
  none_implied true = refl
  none_implied false = refl

  imp_is : (a f : Tree) → T (imp_of a f) ≡ (not (T a) || T f)
  imp_is a f = refl

  pub under_told : (a : Tree) → is_closed [] a ≡ true → (fs : List Tree) → AllClosed fs → all_told m sts (map (under false a) fs) ≡ (not (T a) || all_told m sts fs)
  under_told a closed_a [] h = none_implied (T a)
  under_told a closed_a (f ∷ fs) h =
      let both = and_parts (is_closed [] f) (list_all (is_closed []) fs) h in
      (λ i. (closed_told m sts (imp_of a f) (λ i. closed_a i && (both.0 i && true)) ∙ imp_is a f ∙ ap (λ b. not (T a) || b) (sym (closed_told m sts f both.0))) i
      && under_told a closed_a fs both.1 i)
      ∙ implied (T a) (T (closed f)) (all_told m sts fs)

  pub plain_told : (a : Tree) (fs : List Tree) → all_told m sts (map (under true a) fs) ≡ all_told m sts fs
  plain_told a [] = refl
  plain_told a (f ∷ fs) = ap (λ b. T (closed f) && b) (plain_told a fs)

  -- ---- what a behavior assumes

  module _ (p : Facts) (r : acsl.Tree → annotation.Reading) (w : labelled.World) (stands : (a : acsl.Tree) → Stands m (r a) (leaves_of sts) w) where
    abbrev ClaimsFit : List acsl.Tree → Type 0
    ClaimsFit as_ = AllOf (ClaimFits m p r) as_

    claims_closed : (as_ : List acsl.Tree) → ClaimsFit as_ → AllClosed (map (claim_tree r) as_)
    claims_closed [] fits = refl
    claims_closed (a ∷ as_) fits =
        both_so (is_closed [] (claim_tree r a)) (list_all (is_closed []) (map (claim_tree r) as_)) (ap (λ o. is_closed [] (or_none o)) fits.0.is ∙ fits.0.closed) (claims_closed as_ fits.1)

    claims_are : (as_ : List acsl.Tree) → ClaimsFit as_ → list_all T (map (claim_tree r) as_) ≡ list_all (holds p w) as_
    claims_are [] fits = refl
    claims_are (a ∷ as_) fits = λ i. (ap (λ o. T (or_none o)) fits.0.is ∙ fits.0.means w sts (stands a)) i && claims_are as_ fits.1 i

    pub assumed_closed : (as_ : List acsl.Tree) → ClaimsFit as_ → is_closed [] (assumed_tree r as_) ≡ true
    assumed_closed as_ fits = all_closed (map (claim_tree r) as_) (claims_closed as_ fits)

    pub assumed_is : (as_ : List acsl.Tree) → ClaimsFit as_ → T (assumed_tree r as_) ≡ list_all (holds p w) as_
    assumed_is as_ fits = all_is (map (claim_tree r) as_) ∙ claims_are as_ fits
