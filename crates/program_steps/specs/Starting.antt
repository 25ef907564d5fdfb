-- Where the word of a function starts: its variables of the file and its parameters hold any values of their kinds for which its requirements hold;
-- all other slots are 0, and so are the flags of variables that are not set yet.
use Rattle.std.specs.Prelude.{◌≡◌, ℕ, zero, suc, Bool, true, false, pos, List, [], ◌∷◌, ◌++◌, map, length}
use Rattle.wp_base.specs.declared.kinds.Kind.{Kind}
use Rattle.c_kinds.specs.Models.{low, high}
use Rattle.qed_terms.specs.Meaning as sense
use Rattle.qed_terms.specs.Tree.{Tree, num, at_most}
use Rattle.c_runs.specs.Program.{Variable, Claim, Behavior, Contract, Function, Facts}
use Rattle.c_runs.specs.Tree.{Steps}
use Rattle.plain_states.specs.Slots.{value_slot, local_value}
use Rattle.plain_states.specs.Scopes.{kind_of}
use Rattle.goal_segments.specs.Told.{Shape, sizes}
use Rattle.walk_steps.specs.Laws.{Origin, own, fixed, Start}
use Rattle.program_steps.specs.Leaves.{leaf, form}
use Rattle.program_steps.specs.Terms.{Texts, entry_reading, claim_tree, assumed_tree}
use Rattle.program_steps.specs.Words.{under}
use Rattle.program_steps.specs.Typed.{ClaimFits}
use Rattle.program_steps.specs.Functions.{AllOf}

-- ---- slots

abbrev pub file_origins : List Variable → List Origin
file_origins [] = []
file_origins (v ∷ vs) = own ∷ fixed (pos 1) ∷ file_origins vs

-- the first ones are parameters
abbrev pub own_origins : (params : ℕ) → List Variable → List Origin
own_origins n [] = []
own_origins zero (v ∷ vs) = fixed (pos 0) ∷ fixed (pos 0) ∷ own_origins zero vs
own_origins (suc n) (v ∷ vs) = own ∷ fixed (pos 1) ∷ own_origins n vs

abbrev pub zero_origins : ℕ → List Origin
zero_origins zero = []
zero_origins (suc n) = fixed (pos 0) ∷ zero_origins n

module _ (m : sense.World) (p : Facts) (s : Shape) (texts : Texts) where
  abbrev pub origins_of : (params : ℕ) → List Origin
  origins_of n = file_origins p.globals ++ (own_origins n s.variables ++ zero_origins (suc (suc s.temporaries)))

  -- ---- what is known

  abbrev pub range_trees : Kind → (slot : ℕ) → List Tree
  range_trees k i = at_most (num (low p.model k)) (leaf 0 i) ∷ at_most (leaf 0 i) (num (high p.model k)) ∷ []

  abbrev pub file_ranges : (number : ℕ) → List Variable → List Tree
  file_ranges x [] = []
  file_ranges x (v ∷ vs) = range_trees (kind_of v) (value_slot x) ++ file_ranges (suc x) vs

  abbrev pub param_ranges : (params number : ℕ) → List Variable → List Tree
  param_ranges zero x vs = []
  param_ranges (suc n) x [] = []
  param_ranges (suc n) x (v ∷ vs) = range_trees (kind_of v) (local_value (sizes p s) x) ++ param_ranges n (suc x) vs

  abbrev pub start_claim : Claim → Tree
  start_claim c = claim_tree p s texts (entry_reading p s texts 0) c.what

  abbrev pub start_assumed : Behavior → Tree
  start_assumed b = assumed_tree p s texts (entry_reading p s texts 0) b.assumes

  abbrev pub required_trees : (is_plain : Bool) → Behavior → List Tree
  required_trees plain b = map (λ c. under plain (start_assumed b) (start_claim c)) b.requires

  abbrev pub all_required : List Behavior → List Tree
  all_required [] = []
  all_required (b ∷ bs) = required_trees false b ++ all_required bs

  abbrev pub start_trees : Function Steps → List Tree
  start_trees f =
      file_ranges 0 p.globals ++ (param_ranges f.params 0 s.variables ++ (required_trees true f.contract.plain ++ all_required f.contract.behaviors))

  abbrev pub start_of : Function Steps → Start
  start_of f = record { origins = origins_of f.params; facts = map (form m) (start_trees f) }

  -- ---- what is asked of it

  pub record BehaviorStarts (b : Behavior) : Type 0 where
    pub assumes : AllOf (λ a. ClaimFits m p s texts a 0 0 0) b.assumes
    pub requires : AllOf (λ (c : Claim). ClaimFits m p s texts c.what 0 0 0) b.requires

  pub record StartFits (c : Contract) : Type 0 where
    pub assumes : c.plain.assumes ≡ []
    pub plain : BehaviorStarts c.plain
    pub behaviors : AllOf BehaviorStarts c.behaviors
