-- What is asked before a call and known behind it, over leaves and as it is written in a state.
use Rattle.std.proofs.Common.{◌≡◌, ℕ, zero, suc, ◌++◌, Bool, true, false, ◌&&◌, pos, List, [], ◌∷◌, map, Option, Some, None, refl, sym, ap, ◌∙◌}
use Rattle.std.specs.Prelude.{if◌then◌else◌}
use Rattle.std.specs.List.{list_all}
use Rattle.std.specs.Option.{option_map}
use Rattle.typed_prog.specs.Tree as t
use Rattle.typed_prog.specs.declared.operators.Variable.TheVariants as variables
use Rattle.acsl_trees.specs.Tree as acsl
use Rattle.qed_terms.specs.Tree.{Tree, num, imp_of, equal}
use Rattle.walk_steps.specs.Forms.{Slots}
use Rattle.walk_steps.specs.State.{at_or}
use Rattle.c_runs.specs.Program.{Claim, Measure, Behavior, Contract, Function, Facts, Variable}
use Rattle.c_runs.specs.Tree.{Steps}
use Rattle.plain_states.specs.Slots.{value_slot}
use Rattle.plain_runs.specs.Fitting.{Shape}
use Rattle.acsl_encode.specs.Readings.{Reading}
use Rattle.acsl_encode.specs.Encode.{term_of}
use Rattle.program_steps.specs.Leaves.{leaf, fill}
use Rattle.program_steps.specs.Terms.{Texts, entry_reading, claim_tree, assumed_tree}
use Rattle.program_steps.specs.Words.{Force, of_function, of_loop, Point, under, lacks}
use Rattle.program_steps.specs.Staying.{stay_of, stays_from, all_stay}
use Rattle.value_words.specs.OverSlots.{slot_term}
use Rattle.call_words.specs.Callee.{entered_at, returned_from}
use Rattle.call_words.specs.Sets as words
use Rattle.call_words.specs.Sets.{is_in, callee_assumes, refuses, may_differ, inclusion_trees}
use Rattle.call_words.specs.Words.{call_requires, all_required, lower_by, stay_trees, call_promises, all_promised}
use Rattle.walk_frames.specs.declared.readings.Labels.{Labels}
use Rattle.walk_frames.specs.Labelled.{reading_in, claimed_in, number_in, assumed_in}
use Rattle.call_walks.specs.Claimed.{joined, claims_in, required_by, required_in, promised_by, promised_in, lower_in, stay_in, stays_in, all_stay_in}
use Rattle.call_walks.specs.Sets.{unless_empty, clause_within, within_by, within, inclusion_under, inclusion_by, inclusions, asked_inclusions}
use Rattle.call_walks.proofs.Said.{IsSaid, AreSaid, none, some, number_said, imp_said, at_most_said, less_said, equal_said, both_said, under_said, truth_said, only_said, any_said, refused_said, said_both, map_said}
use Rattle.call_walks.proofs.Levels.{leaf_said}
use Rattle.call_walks.proofs.Callees.{Sees, claim_said, assumed_said, measure_said, caller_assumes, caller_measure}

module _ (p : Facts) (s : Shape) (texts : Texts) (ss : List Slots) where
  -- ---- claims

  claims_said : {r q : acsl.Tree → Reading} (e x : Labels) → Sees ss r (reading_in p texts e) → Sees ss q (reading_in p texts x)
      → (plain : Bool) (as_ : List acsl.Tree) (cs : List Claim)
      → AreSaid ss (map (λ (c : Claim). under plain (assumed_tree p s texts r as_) (claim_tree p s texts q c.what)) cs) (claims_in p texts e x plain as_ cs)
  claims_said {r = r} {q = q} e x so seen plain as_ cs =
      map_said (λ (c : Claim). under plain (assumed_tree p s texts r as_) (claim_tree p s texts q c.what))
      (λ (c : Claim). under plain (assumed_in p texts e as_) (claimed_in p texts x c.what))
      (λ c. under_said plain (assumed_said p s texts so as_) (claim_said p s texts seen c.what)) cs

  module _ (g : Function Steps) (es : t.Values) where
    module _ (e : Labels) (so : Sees ss (entered_at p s texts g es 0) (reading_in p texts e)) where
      all_required_said : (bs : List Behavior) → AreSaid ss (all_required p s texts g es bs) (joined (required_by p texts e false) bs)
      all_required_said [] = none
      all_required_said (b ∷ bs) = said_both (claims_said e e so so false b.assumes b.requires) (all_required_said bs)

      pub required_said : AreSaid ss (call_requires p s texts g es) (required_in p texts e g.contract)
      required_said = said_both (claims_said e e so so true g.contract.plain.assumes g.contract.plain.requires) (all_required_said g.contract.behaviors)

      -- ---- measures

      pub lower_said : (level : ℕ) (in_cluster : Bool) (old now : Option Measure)
          → AreSaid ss (lower_by p s texts g es level in_cluster old now)
          (lower_in (λ a. option_map (fill ss) (term_of (entry_reading p s texts level a) a)) (number_in p texts e) in_cluster old now)
      lower_said level true (Some a) (Some b) =
          let old = caller_measure p s texts ss level a.what in
          some (both_said (at_most_said (number_said (pos 0)) old) (less_said (measure_said p s texts so b.what) old)) none
      lower_said level true (Some a) None = none
      lower_said level true None now = none
      lower_said level false old now = none

      -- ---- sets

      clause_said : (ws : List acsl.Tree) (plain : Bool) (b : Behavior) (o : Option (List acsl.Tree))
          → AreSaid ss (words.clause_in p s texts g es ws plain b o) (clause_within p texts e ws plain b.assumes o)
      clause_said ws plain b None = none
      clause_said ws plain b (Some rs) = some (only_said plain (assumed_said p s texts so b.assumes) (truth_said (list_all (is_in ws) rs))) none

      clauses_said : (ws : List acsl.Tree) (bs : List Behavior) → AreSaid ss (words.clauses_in p s texts g es ws bs) (joined (within_by p texts e ws false) bs)
      clauses_said ws [] = none
      clauses_said ws (b ∷ bs) = said_both (clause_said ws false b b.assigns) (clauses_said ws bs)

      included_said : (ws : List acsl.Tree) → IsSaid ss (words.included p s texts g es ws) (within p texts e g.contract ws)
      included_said ws = any_said (said_both (clause_said ws true g.contract.plain g.contract.plain.assigns) (clauses_said ws g.contract.behaviors))

      module _ (level : ℕ) where
        abbrev assumed : List acsl.Tree → Tree
        assumed as_ = fill ss (assumed_tree p s texts (entry_reading p s texts level) as_)

        inclusion_said : (plain : Bool) (b : Behavior) (o : Option (List acsl.Tree))
            → AreSaid ss (words.included_in p s texts g es level plain b o) (inclusion_under p texts e g.contract assumed plain b.assumes o)
        inclusion_said plain b None = none
        inclusion_said plain b (Some ws) = some (under_said plain (caller_assumes p s texts ss level b.assumes) (included_said ws)) none

        inclusions_said : (bs : List Behavior) → AreSaid ss (words.included_in_all p s texts g es level bs) (joined (inclusion_by p texts e g.contract assumed false) bs)
        inclusions_said [] = none
        inclusions_said (b ∷ bs) = said_both (inclusion_said false b b.assigns) (inclusions_said bs)

        by_said : (c : Contract) (f : Force) → AreSaid ss (words.included_by p s texts g es level c f) (inclusions p texts e g.contract assumed c f)
        by_said c of_function = refused_said (refuses g.contract c.plain.assigns) (said_both (inclusion_said true c.plain c.plain.assigns) (inclusions_said c.behaviors))
        by_said c (of_loop ws d) = some (included_said ws) none

        unless_said : (o : Option (List acsl.Tree)) {fs us : List Tree} → AreSaid ss fs us → AreSaid ss (words.unless_nothing p s texts g es o fs) (unless_empty o us)
        unless_said None h = h
        unless_said (Some []) h = none
        unless_said (Some (a ∷ as_)) h = h

      pub asked_said : (c : Contract) (pt : Point)
          → AreSaid ss (inclusion_trees p s texts g es c pt)
          (asked_inclusions p texts e g.contract (λ as_. fill ss (assumed_tree p s texts (entry_reading p s texts (suc pt.entry)) as_)) c pt.force)
      asked_said c pt = unless_said (suc pt.entry) g.contract.plain.assigns (by_said (suc pt.entry) c pt.force)

    -- ---- behind the call

    module _ (e : Labels) (so : Sees ss (entered_at p s texts g es 1) (reading_in p texts e)) where
      module _ (x : Labels) (seen : Sees ss (returned_from p s texts g es) (reading_in p texts x)) where
        all_promised_said : (bs : List Behavior) → AreSaid ss (all_promised p s texts g es bs) (joined (promised_by p texts e x false) bs)
        all_promised_said [] = none
        all_promised_said (b ∷ bs) = said_both (claims_said e x so seen false b.assumes b.ensures) (all_promised_said bs)

        pub promised_said : AreSaid ss (call_promises p s texts g es) (promised_in p texts e x g.contract)
        promised_said = said_both (claims_said e x so seen true g.contract.plain.assumes g.contract.plain.ensures) (all_promised_said g.contract.behaviors)

      if_said : (b : Bool) {f u : Tree} → IsSaid ss f u → AreSaid ss (if b then f ∷ [] else []) (if b then u ∷ [] else [])
      if_said true h = some h none
      if_said false h = none

      stay_said : (f : ℕ → Bool) (as_ : List acsl.Tree) (set : Option (List acsl.Tree)) (x : ℕ)
          → AreSaid ss (stay_of (assumed_tree p s texts (entered_at p s texts g es 1) as_) set f x)
          (stay_in (at_or [] ss 0) (at_or [] ss 1) f (assumed_in p texts e as_) set x)
      stay_said f as_ set x =
          if_said (f x && lacks set (variables.Global x))
          (imp_said (assumed_said p s texts so as_) (equal_said (leaf_said ss 0 (value_slot x)) (leaf_said ss 1 (value_slot x))))

      from_said : (f : ℕ → Bool) (as_ : List acsl.Tree) (set : Option (List acsl.Tree)) (x : ℕ) (vs : List Variable)
          → AreSaid ss (stays_from (assumed_tree p s texts (entered_at p s texts g es 1) as_) set f x vs)
          (stays_in (at_or [] ss 0) (at_or [] ss 1) f (assumed_in p texts e as_) set x vs)
      from_said f as_ set x [] = none
      from_said f as_ set x (v ∷ vs) = said_both (stay_said f as_ set x) (from_said f as_ set (suc x) vs)

      all_from_said : (f : ℕ → Bool) (vs : List Variable) (bs : List Behavior)
          → AreSaid ss (all_stay (callee_assumes p s texts g es 1) f vs bs)
          (all_stay_in (at_or [] ss 0) (at_or [] ss 1) f (λ (b : Behavior). assumed_in p texts e b.assumes) vs bs)
      all_from_said f vs [] = none
      all_from_said f vs (b ∷ bs) = said_both (from_said f b.assumes b.assigns 0 vs) (all_from_said f vs bs)

      pub stays_said : AreSaid ss (stay_trees p s texts g es)
          (all_stay_in (at_or [] ss 0) (at_or [] ss 1) (may_differ g.contract) (λ (b : Behavior). assumed_in p texts e b.assumes) p.globals g.contract.behaviors)
      stays_said = all_from_said (may_differ g.contract) p.globals g.contract.behaviors
