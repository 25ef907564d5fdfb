-- What a function requires, clause by clause.
use Rattle.std.proofs.Common.{◌≡◌, Bool, false, List, [], ◌∷◌, ◌++◌, map, refl, sym, ap, ◌∙◌}
use Rattle.std.proofs.lemmas.List.{map-append}
use Rattle.core_trees.specs.declared.claims.Claim.{Claim}
use Rattle.core_trees.specs.View.{view_claim}
use Rattle.c_runs.specs.Program as program
use Rattle.c_runs.specs.Program.{Facts}
use Rattle.plain_runs.specs.Fitting.{Shape}
use Rattle.qed_terms.specs.Meaning as sense
use Rattle.qed_terms.specs.Tree.{Tree}
use Rattle.walk_steps.specs.Forms.{Slots}
use Rattle.program_steps.specs.Leaves.{fill}
use Rattle.program_steps.specs.Terms.{Texts}
use Rattle.program_steps.specs.Words.{under}
use Rattle.program_steps.specs.Starting.{start_claim, start_assumed, required_trees, all_required}
use Rattle.program_trees.specs.declared.contracts.Behavior.{Behavior}
use Rattle.program_trees.specs.View.{view_behavior}
use Rattle.function_walks.proofs.Requiring.{flat, map_twice}

module _ (m : sense.World) (p : Facts) (s : Shape) (texts : Texts) (ss : List Slots) where
  abbrev pub required_by : (is_plain : Bool) → Behavior → Claim → Tree
  required_by plain b c = fill ss (under plain (start_assumed m p s texts (view_behavior b)) (start_claim m p s texts (view_claim c)))

  pub required_are : (plain : Bool) (b : Behavior) → map (required_by plain b) b.requires_ ≡ map (fill ss) (required_trees m p s texts plain (view_behavior b))
  required_are plain b =
      let f = λ (c : program.Claim). under plain (start_assumed m p s texts (view_behavior b)) (start_claim m p s texts c) in
      sym (map_twice (fill ss) f (map view_claim b.requires_) ∙ map_twice (λ c. fill ss (f c)) view_claim b.requires_)

  abbrev pub required_of : Behavior → List Tree
  required_of b = map (fill ss) (required_trees m p s texts false (view_behavior b))

  pub all_are : (bs : List Behavior) → flat required_of bs ≡ map (fill ss) (all_required m p s texts (map view_behavior bs))
  all_are [] = refl
  all_are (b ∷ bs) =
      ap (λ ts. required_of b ++ ts) (all_are bs)
      ∙ sym (map-append (fill ss) (required_trees m p s texts false (view_behavior b)) (all_required m p s texts (map view_behavior bs)))
