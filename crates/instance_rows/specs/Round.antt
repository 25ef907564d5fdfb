-- A round of instances: which formulas it adds to a branch.
use Rattle.std.specs.Prelude.{◌≡◌, Bool, true, false, ◌||◌, List, [], ◌∷◌, ◌++◌, map}
use Rattle.qed_terms.specs.Setting.{Setting}
use Rattle.qed_terms.specs.Tree.{Tree, true_tree}
use Rattle.qed_terms.specs.Order.{same}
use Rattle.qed_rules.specs.Rules.{among, step}
use Rattle.qed_simplify.specs.Normal.{Normal}
use Rattle.branches.specs.Branch.{Branch}
use Rattle.instance_rows.specs.Rows.{order_of_unequal, load_of_store, read_of_write, place_of_read, answer_of_alloc, cases_of_wrap, cases_of_quotient, bounds_of_operator, arm_of_ite}
use Rattle.instance_rows.specs.PairRows.{frame_of_load, range_of_load, answer_of_layout}
use Rattle.instance_rows.specs.Calls.{cases_of_call}
use Rattle.instance_rows.specs.Occurrences.{occurrences, at_each, at_pairs}
use Rattle.instance_rows.specs.Accesses.{loads_in, accesses_in}
use Rattle.instance_rows.specs.Triggers.{calls_in}
use Rattle.instance_rows.specs.Candidates.{Candidate, Given, offset_candidates, forall_candidates, asked_terms, marker}

-- ---- all formulas, in the order of the rows and then in that of what occurs; those on offsets and those of `forall`s are parameters

-- Rows at a literal take the literals alone, all others whatever occurs.
abbrev pub first_formulas : Setting → (literals occurring : List Tree) → List Tree
first_formulas s ls ts =
    at_each order_of_unequal ls
    ++ (at_each load_of_store ts
    ++ (at_pairs frame_of_load ls ts
    ++ (at_pairs (range_of_load s.long_bits) ls ts
    ++ (at_each read_of_write ts
    ++ (at_each place_of_read ts
    ++ (at_each answer_of_alloc ts
    ++ (at_pairs answer_of_layout ts ts
    ++ (at_each (cases_of_wrap s.long_bits) ts
    ++ (at_each cases_of_quotient ts
    ++ (at_each bounds_of_operator ts
    ++ at_each arm_of_ite ts))))))))))

abbrev pub formulas : Setting → (literals occurring on_offsets of_foralls : List Tree) → List Tree
formulas s ls ts on_offsets of_foralls = first_formulas s ls ts ++ (on_offsets ++ (at_each (cases_of_call s.logic) ts ++ of_foralls))

-- ---- those that are added

abbrev pub is_old : List Tree → Tree → Bool
is_old there f = same true_tree f || among f there

-- Formulas are brought to normal form one after the other. A normal form is added unless it is `true` or is there already, in the branch or since it was added.
pub data Adds (normal : Tree → Tree → Type 0) : (there : List Tree) → List Tree → List Tree → Type 0 where
  no_more : {there : List Tree} → Adds normal there [] []
  adds : {there fs gs : List Tree} {f g : Tree} → normal f g → is_old there g ≡ false → Adds normal (there ++ g ∷ []) fs gs → Adds normal there (f ∷ fs) (g ∷ gs)
  is_there : {there fs gs : List Tree} {f g : Tree} → normal f g → is_old there g ≡ true → Adds normal there fs gs → Adds normal there (f ∷ fs) gs

-- ---- the round

-- the literals, and behind them a marker for each term of which it is asked whether it is same to another
abbrev pub with_markers : Branch → List Tree
with_markers b = b.literals ++ map marker (asked_terms (loads_in (occurrences b)) (accesses_in (occurrences b)) b.literals)

abbrev pub loads_that_meet : Branch → List Candidate
loads_that_meet b = offset_candidates (loads_in (occurrences b))

abbrev pub foralls_that_meet : Setting → Branch → List Candidate
foralls_that_meet s b = forall_candidates s.logic (accesses_in (occurrences b)) (calls_in s.logic (occurrences b)) b.literals

-- a round adds these formulas to the branch, in this order
pub record IsRound (s : Setting) (b : Branch) (added : List Tree) : Type 0 where
  pub on_offsets : List Tree
  pub of_foralls : List Tree
  pub offsets_given : Given (with_markers b) (loads_that_meet b) on_offsets
  pub foralls_given : Given (with_markers b) (foralls_that_meet s b) of_foralls
  pub are_added : Adds (Normal (step s)) (b.literals ++ b.waiting) (formulas s b.literals (occurrences b) on_offsets of_foralls) added
