-- What is asked where a function returns.
use Rattle.std.proofs.Common.{◌≡◌, ℕ, Bool, false, List, [], ◌∷◌, ◌++◌, map, Option, refl, sym, ap, ◌∙◌}
use Rattle.std.proofs.lemmas.List.{map-append}
use Rattle.acsl_encode.specs.Binders.{Spelled}
use Rattle.acsl_encode.specs.Encode.{formula_of}
use Rattle.acsl_encode.specs.Readings.{Called, Reading}
use Rattle.acsl_trees.specs.Tree as acsl
use Rattle.annotation_words.specs.Bodies.{return_over, slots_seen}
use Rattle.annotation_words.specs.Claims.{claimed}
use Rattle.annotation_words.specs.Seen.{common_with, result_in}
use Rattle.annotation_words.proofs.OverLeaves.{annotations_closed, annotations_filled}
use Rattle.c_runs.specs.Claims as broken
use Rattle.c_runs.specs.Program as program
use Rattle.c_runs.specs.Program.{Facts}
use Rattle.core_trees.specs.declared.claims.Claim.{Claim}
use Rattle.core_trees.specs.View.{view_claim}
use Rattle.plain_runs.specs.Fitting.{Shape, sizes}
use Rattle.plain_states.specs.Slots.{result_slot}
use Rattle.program_trees.specs.declared.contracts.Behavior.{Behavior}
use Rattle.program_trees.specs.View.{view_behavior}
use Rattle.qed_terms.specs.Meaning as sense
use Rattle.qed_terms.specs.Tree.{Tree}
use Rattle.walk_steps.specs.Forms.{Check, Place, Slots}
use Rattle.walk_steps.specs.State.{at_or}
use Rattle.program_steps.specs.Functions.{behavior_tree, ensure_check, ensure_checks, all_ensured}
use Rattle.program_steps.specs.Leaves.{fill}
use Rattle.program_steps.specs.Stops.{broken_place}
use Rattle.program_steps.specs.Terms.{Texts, claim_tree, return_reading, kind_given}
use Rattle.program_steps.specs.Words.{under}
use Rattle.walk_frames.specs.Asked.{Written, at_place, written_check}
use Rattle.walk_frames.proofs.Asking.{closed_is, filled_closed}
use Rattle.walk_frames.proofs.Closedness.{under_closed, assumed_closed, claim_closed, formulas_closed}
use Rattle.walk_frames.proofs.Over.{under_filled}
use Rattle.function_walks.specs.Ending.{written_checks}
use Rattle.function_walks.proofs.Requiring.{flat, map_twice}
use Rattle.wp_base.specs.declared.kinds.Kind.{Kind}

-- ---- checks, one behind the other

pub all_written : (ss : List Slots) (none one two : List Written) (cs ds : List Check) → none ≡ [] → one ≡ none ++ written_checks ss cs → two ≡ one ++ written_checks ss ds → two ≡ written_checks ss (cs ++ ds)
all_written ss none one two cs ds n h k =
    k ∙ ap (λ zs. zs ++ written_checks ss ds) (h ∙ ap (λ zs. zs ++ written_checks ss cs) n) ∙ sym (map-append (written_check ss) cs ds)

-- ---- annotations where it returns

module _ (p : Facts) (s : Shape) (called : (number : ℕ) → Option Called) (names : Spelled) where
  pub return_same : (h e h' e' : Slots) (at : ℕ) (k : Option Kind) → h ≡ h' → e ≡ e' → at ≡ result_slot (sizes p s) → k ≡ kind_given s.result
      → (let over : Reading = record {
        here = slots_seen p s called names h e;
        pre = slots_seen p s called names e e;
        post = slots_seen p s called names h e;
        loop_entry = slots_seen p s called names e e;
        result = result_in k h at;
        common = common_with p names;
        called = called;
      } in over ≡ return_over p s called names h' e')
  return_same h e h' e' at k a b c d = λ i. record {
    here = slots_seen p s called names (a i) (b i);
    pre = slots_seen p s called names (b i) (b i);
    post = slots_seen p s called names (a i) (b i);
    loop_entry = slots_seen p s called names (b i) (b i);
    result = result_in (d i) (a i) (c i);
    common = common_with p names;
    called = called;
  }

module _ (p : Facts) (s : Shape) (texts : Texts) (ss : List Slots) where
  abbrev over : acsl.Tree → Reading
  over a = return_over p s texts.called (texts.binders a) (at_or [] ss 0) (at_or [] ss 1)

  promise_over : (a : acsl.Tree) → claimed (formula_of (over a) a) ≡ fill ss (claim_tree p s texts (return_reading p s texts 1) a)
  promise_over a =
      let r = return_reading p s texts 1 in
      let c = annotations_closed.returns p s texts 1 a in
      ap (λ x. claimed (formula_of x a)) (sym (annotations_filled.returns ss p s texts 1 a)) ∙ sym (annotations_filled.claims ss p s texts r a c)
      ∙ ap (fill ss) (closed_is (claim_tree p s texts r a) (claim_closed p s texts r a c))

  -- as made of a reading that is one over these slots
  pub promise_made : (r : acsl.Tree → Reading) (a : acsl.Tree) (made : Tree) → ((a : acsl.Tree) → r a ≡ over a) → made ≡ claimed (formula_of (r a) a)
      → made ≡ fill ss (claim_tree p s texts (return_reading p s texts 1) a)
  promise_made r a made is so = so ∙ ap (λ x. claimed (formula_of x a)) (is a) ∙ promise_over a

  -- ---- promises

  module _ (m : sense.World) where
    pub promise_is : (plain : Bool) (b : program.Behavior) (c : program.Claim) (place : Place) (promise claim : Tree) → place ≡ broken_place broken.ensures c.line
        → promise ≡ fill ss (claim_tree p s texts (return_reading p s texts 1) c.what) → claim ≡ under plain (fill ss (behavior_tree m p s texts b)) promise
        → at_place place claim ≡ written_check ss (ensure_check m p s texts plain b c)
    promise_is plain b c place promise claim at is made =
        let f = claim_tree p s texts (return_reading p s texts 1) c.what in
        let g = behavior_tree m p s texts b in
        let whole = filled_closed ss (under plain g f) claim (under_closed plain g f (assumed_closed p s texts 1 b.assumes) (formulas_closed.promises p s texts 1 c.what))
        (made ∙ ap (under plain (fill ss g)) is ∙ sym (under_filled ss plain g f)) in
        λ i. at_place (at i) (sym whole i)

    abbrev pub promised_by : (is_plain : Bool) → Behavior → Claim → Written
    promised_by plain b c = written_check ss (ensure_check m p s texts plain (view_behavior b) (view_claim c))

    pub promised_are : (plain : Bool) (b : Behavior) → map (promised_by plain b) b.ensures_ ≡ written_checks ss (ensure_checks m p s texts plain (view_behavior b))
    promised_are plain b =
        let f = ensure_check m p s texts plain (view_behavior b) in
        sym (map_twice (written_check ss) f (map view_claim b.ensures_) ∙ map_twice (λ c. written_check ss (f c)) view_claim b.ensures_)

    abbrev pub promised_of : Behavior → List Written
    promised_of b = written_checks ss (ensure_checks m p s texts false (view_behavior b))

    pub all_promised : (bs : List Behavior) → flat promised_of bs ≡ written_checks ss (all_ensured m p s texts (map view_behavior bs))
    all_promised [] = refl
    all_promised (b ∷ bs) =
        ap (λ xs. promised_of b ++ xs) (all_promised bs)
        ∙ sym (map-append (written_check ss) (ensure_checks m p s texts false (view_behavior b)) (all_ensured m p s texts (map view_behavior bs)))
