-- Contracts of functions that are called, over states of labels as they are seen in memory (ACSL 2.3).
use Rattle.std.specs.Prelude.{ℕ, suc, Bool, true, false, ◌&&◌, if◌then◌else◌, pos, List, [], ◌∷◌, ◌++◌, map, Option, Some, None}
use Rattle.acsl_trees.specs.Tree as acsl
use Rattle.typed_prog.specs.declared.operators.Variable.TheVariants as variables
use Rattle.qed_terms.specs.Tree.{Tree, num, at_most, less, equal, and_of, imp_of}
use Rattle.walk_steps.specs.Forms.{Slots}
use Rattle.c_runs.specs.Program.{Claim, Measure, Behavior, Contract, Variable, Facts}
use Rattle.plain_states.specs.Slots.{value_slot}
use Rattle.program_steps.specs.Terms.{Texts, or_zero}
use Rattle.program_steps.specs.Words.{under, lacks}
use Rattle.value_words.specs.OverSlots.{slot_term}
use Rattle.walk_frames.specs.declared.readings.Labels.{Labels}
use Rattle.walk_frames.specs.Labelled.{claimed_in, number_in, assumed_in}

-- what each item gives, one behind the other
abbrev pub joined : {X Y : Type 0} → (X → List Y) → List X → List Y
joined f [] = []
joined f (x ∷ xs) = f x ++ joined f xs

-- ---- claims

-- where this is assumed
abbrev pub claims_under : Facts → Texts → Labels → (is_plain : Bool) → (assumed : Tree) → List Claim → List Tree
claims_under p texts x plain f cs = map (λ (c : Claim). under plain f (claimed_in p texts x c.what)) cs

module _ (p : Facts) (texts : Texts) (entered : Labels) where
  -- claims of a behavior, where it is assumed at the function's entry
  abbrev pub claims_in : Labels → (is_plain : Bool) → (assumes : List acsl.Tree) → List Claim → List Tree
  claims_in x plain as_ cs = claims_under p texts x plain (assumed_in p texts entered as_) cs

  abbrev pub required_by : (is_plain : Bool) → Behavior → List Tree
  required_by plain b = claims_in entered plain b.assumes b.requires

  abbrev pub required_in : Contract → List Tree
  required_in c = required_by true c.plain ++ joined (required_by false) c.behaviors

  abbrev pub promised_by : Labels → (is_plain : Bool) → Behavior → List Tree
  promised_by x plain b = claims_in x plain b.assumes b.ensures

  abbrev pub promised_in : Labels → Contract → List Tree
  promised_in x c = promised_by x true c.plain ++ joined (promised_by x false) c.behaviors

-- ---- measures

-- the one now is below the old one, which isn't negative; one without a term counts as 0
abbrev pub lower_tree : (old now : Option Tree) → Tree
lower_tree old now = and_of (at_most (num (pos 0)) (or_zero old) ∷ less (or_zero now) (or_zero old) ∷ [])

abbrev pub lower_in : (old now : acsl.Tree → Option Tree) → (in_cluster : Bool) → (caller callee : Option Measure) → List Tree
lower_in old now true (Some a) (Some b) = lower_tree (old a.what) (now b.what) ∷ []
lower_in old now _ a b = []

-- ---- what stays

module _ (now before : Slots) (changes : ℕ → Bool) where
  abbrev pub stay_in : (assumed : Tree) → Option (List acsl.Tree) → (variable : ℕ) → List Tree
  stay_in a set x =
      if changes x && lacks set (variables.Global x) then imp_of a (equal (slot_term now (value_slot x)) (slot_term before (value_slot x))) ∷ [] else []

  -- of the variables from this number on
  abbrev pub stays_in : (assumed : Tree) → Option (List acsl.Tree) → (number : ℕ) → List Variable → List Tree
  stays_in a set x [] = []
  stays_in a set x (v ∷ vs) = stay_in a set x ++ stays_in a set (suc x) vs

  abbrev pub all_stay_in : (assumed : Behavior → Tree) → (file : List Variable) → List Behavior → List Tree
  all_stay_in a vs bs = joined (λ (b : Behavior). stays_in (a b) b.assigns 0 vs) bs
