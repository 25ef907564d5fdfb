-- What is known where a function is entered.
use Rattle.std.proofs.Common.{◌≡◌, ℕ, zero, suc, Bool, true, false, ◌&&◌, List, [], ◌∷◌, map, refl}
use Rattle.std.specs.List.{list_all}
use Rattle.wp_base.specs.declared.kinds.Kind.{Kind}
use Rattle.c_runs.specs.Program as program
use Rattle.c_runs.specs.Program.{Behavior, Claim, Contract, Facts}
use Rattle.plain_states.specs.Slots.{value_slot, local_value}
use Rattle.plain_states.specs.Scopes.{kind_of}
use Rattle.plain_runs.specs.Fitting.{Shape, sizes}
use Rattle.qed_terms.specs.Meaning as sense
use Rattle.qed_terms.specs.Tree.{Tree}
use Rattle.walk_steps.specs.Forms.{Slots, written_forms}
use Rattle.program_steps.specs.Leaves.{is_closed, fill, form}
use Rattle.program_steps.specs.Terms.{Texts}
use Rattle.program_steps.specs.Words.{under}
use Rattle.program_steps.specs.Starting.{range_trees, file_ranges, param_ranges, start_claim, start_assumed, required_trees, all_required}
use Rattle.program_steps.proofs.Starting.{leaf_closed}
use Rattle.walk_frames.specs.Asked.{AreClosed}
use Rattle.walk_frames.proofs.Asking.{closed_is, all_parts}
use Rattle.walk_frames.proofs.Closedness.{all_so, both_closed, under_closed, assumed_closed, formulas_closed}
use Rattle.function_walks.specs.Entry.{entry_trees}

module _ (m : sense.World) where
  -- what is closed is written as it is
  pub forms_written : (ss : List Slots) (ts : List Tree) → AreClosed ts → written_forms ss (map (form m) ts) ≡ map (fill ss) ts
  forms_written ss [] h = refl
  forms_written ss (t ∷ ts) h =
      let parts = all_parts (is_closed [] t) (list_all (is_closed []) ts) h in
      (λ i. fill ss (closed_is t parts.0 i) ∷ forms_written ss ts parts.1 i)

  module _ (p : Facts) (s : Shape) (texts : Texts) where
    range_closed : (k : Kind) (i : ℕ) → AreClosed (range_trees m p s texts k i)
    range_closed k i = λ j. (leaf_closed 0 i j && true) && ((leaf_closed 0 i j && true) && true)

    files_closed : (x : ℕ) (vs : List program.Variable) → AreClosed (file_ranges m p s texts x vs)
    files_closed x [] = refl
    files_closed x (v ∷ vs) =
        both_closed (range_trees m p s texts (kind_of v) (value_slot x)) (file_ranges m p s texts (suc x) vs) (range_closed (kind_of v) (value_slot x)) (files_closed (suc x) vs)

    params_closed : (n x : ℕ) (vs : List program.Variable) → AreClosed (param_ranges m p s texts n x vs)
    params_closed zero x vs = refl
    params_closed (suc n) x [] = refl
    params_closed (suc n) x (v ∷ vs) =
        both_closed (range_trees m p s texts (kind_of v) (local_value (sizes p s) x)) (param_ranges m p s texts n (suc x) vs) (range_closed (kind_of v) (local_value (sizes p s) x)) (params_closed n (suc x) vs)

    clauses_closed : (plain : Bool) (b : Behavior) (cs : List Claim) → AreClosed (map (λ (c : Claim). under plain (start_assumed m p s texts b) (start_claim m p s texts c)) cs)
    clauses_closed plain b [] = refl
    clauses_closed plain b (c ∷ cs) =
        all_so _ _ (under_closed plain (start_assumed m p s texts b) (start_claim m p s texts c) (assumed_closed p s texts 0 b.assumes) (formulas_closed.claims p s texts 0 0 0 c.what))
        (clauses_closed plain b cs)

    behaviors_closed : (bs : List Behavior) → AreClosed (all_required m p s texts bs)
    behaviors_closed [] = refl
    behaviors_closed (b ∷ bs) = both_closed (required_trees m p s texts false b) (all_required m p s texts bs) (clauses_closed false b b.requires) (behaviors_closed bs)

    pub entry_closed : (params : ℕ) (c : Contract) → AreClosed (entry_trees m p s texts params c)
    entry_closed n c =
        both_closed (file_ranges m p s texts 0 p.globals) _ (files_closed 0 p.globals)
        (both_closed (param_ranges m p s texts n 0 s.variables) _ (params_closed n 0 s.variables)
        (both_closed (required_trees m p s texts true c.plain) (all_required m p s texts c.behaviors) (clauses_closed true c.plain c.plain.requires) (behaviors_closed c.behaviors)))
