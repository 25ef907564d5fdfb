-- Annotations over the slots of states are those over leaves, with the slots' terms in the leaves' places.
use Rattle.std.proofs.Common.{◌≡◌, ℕ, Bool, true, false, List, [], ◌∷◌, map, Option, refl, sym, ap, ap₂, ◌∙◌}
use Rattle.std.specs.Option.{option_map}
use Rattle.acsl_trees.specs.Tree as acsl
use Rattle.acsl_encode.specs.Readings.{Reading}
use Rattle.acsl_encode.specs.Encode.{formula_of, term_of, all_of}
use Rattle.qed_terms.specs.Tree.{Tree, trees_of, more}
use Rattle.qed_terms.specs.Tree.{node}
use Rattle.qed_terms.specs.declared.head.Head.TheVariants as head
use Rattle.c_runs.specs.Program.{Facts}
use Rattle.plain_runs.specs.Fitting.{Shape}
use Rattle.walk_steps.specs.State.{at_or}
use Rattle.walk_steps.specs.Forms.{Slots}
use Rattle.program_steps.specs.Leaves.{fill, fill_all}
use Rattle.program_steps.specs.Terms.{Texts, assumed_tree, body_reading, claim_tree, entry_reading}
use Rattle.program_steps.specs.Words.{as_one, as_one_unless, under}
use Rattle.annotation_words.specs.Bodies.{body_over}
use Rattle.annotation_words.specs.Claims.{claimed}
use Rattle.annotation_words.proofs.OverLeaves.{annotations_closed, annotations_filled}
use Rattle.walk_frames.proofs.Asking.{closed_is}
use Rattle.walk_frames.proofs.Closedness.{claim_closed}

parts_filled : (ss : List Slots) (fs : List Tree) → fill_all ss (trees_of fs) ≡ trees_of (map (fill ss) fs)
parts_filled ss [] = refl
parts_filled ss (f ∷ fs) = ap (more (fill ss f)) (parts_filled ss fs)

pub all_of_filled : (ss : List Slots) (fs : List Tree) → fill ss (all_of fs) ≡ all_of (map (fill ss) fs)
all_of_filled ss [] = refl
all_of_filled ss (f ∷ []) = refl
all_of_filled ss (f ∷ g ∷ fs) = ap (node head.And) (parts_filled ss (f ∷ g ∷ fs))

as_one_filled : (ss : List Slots) (fs : List Tree) → map (fill ss) (as_one fs) ≡ as_one (map (fill ss) fs)
as_one_filled ss [] = refl
as_one_filled ss (f ∷ fs) = ap (λ t. t ∷ []) (all_of_filled ss (f ∷ fs))

pub unless_filled : (ss : List Slots) (refused : Bool) (fs : List Tree) → map (fill ss) (as_one_unless refused fs) ≡ as_one_unless refused (map (fill ss) fs)
unless_filled ss true fs = refl
unless_filled ss false fs = as_one_filled ss fs

pub under_filled : (ss : List Slots) (b : Bool) (a f : Tree) → fill ss (under b a f) ≡ under b (fill ss a) (fill ss f)
under_filled ss true a f = refl
under_filled ss false a f = refl

module _ (p : Facts) (s : Shape) (texts : Texts) (ss : List Slots) where
  abbrev over : (here entry loop_entry : ℕ) → acsl.Tree → Reading
  over h e g a = body_over p s texts.called (texts.binders a) (at_or [] ss h) (at_or [] ss e) (at_or [] ss g)

  module _ (h e g : ℕ) where
    claim_over : (a : acsl.Tree) → claimed (formula_of (over h e g a) a) ≡ fill ss (claim_tree p s texts (body_reading p s texts h e g) a)
    claim_over a =
        let r = body_reading p s texts h e g in
        let c = annotations_closed.bodies p s texts h e g a in
        ap (λ x. claimed (formula_of x a)) (sym (annotations_filled.bodies ss p s texts h e g a)) ∙ sym (annotations_filled.claims ss p s texts r a c)
        ∙ ap (fill ss) (closed_is (claim_tree p s texts r a) (claim_closed p s texts r a c))

    -- as made of a reading that is one over these slots
    pub claim_made : (r : acsl.Tree → Reading) (a : acsl.Tree) (made : Tree) → ((a : acsl.Tree) → r a ≡ over h e g a) → made ≡ claimed (formula_of (r a) a)
        → made ≡ fill ss (claim_tree p s texts (body_reading p s texts h e g) a)
    claim_made r a made is so = so ∙ ap (λ x. claimed (formula_of x a)) (is a) ∙ claim_over a

    pub number_made : (r : acsl.Tree → Reading) (a : acsl.Tree) (made : Option Tree) → ((a : acsl.Tree) → r a ≡ over h e g a) → made ≡ term_of (r a) a
        → made ≡ option_map (fill ss) (term_of (body_reading p s texts h e g a) a)
    number_made r a made is so =
        so ∙ ap (λ x. term_of x a) (is a) ∙ ap (λ x. term_of x a) (sym (annotations_filled.bodies ss p s texts h e g a))
        ∙ sym (annotations_filled.numbers ss (body_reading p s texts h e g a) a (annotations_closed.bodies p s texts h e g a).binders)

  module _ (l : ℕ) where
    claims_over : (r : acsl.Tree → Reading) → ((a : acsl.Tree) → r a ≡ over l l l a) → (as_ : List acsl.Tree)
        → map (λ a. claimed (formula_of (r a) a)) as_ ≡ map (fill ss) (map (claim_tree p s texts (entry_reading p s texts l)) as_)
    claims_over r is [] = refl
    claims_over r is (a ∷ as_) = ap₂ (λ t ts. t ∷ ts) (claim_made l l l r a (claimed (formula_of (r a) a)) is refl) (claims_over r is as_)

    pub assumed_made : (r : acsl.Tree → Reading) (as_ : List acsl.Tree) (made : Tree) → ((a : acsl.Tree) → r a ≡ over l l l a) → made ≡ all_of (map (λ a. claimed (formula_of (r a) a)) as_)
        → made ≡ fill ss (assumed_tree p s texts (entry_reading p s texts l) as_)
    assumed_made r as_ made is so =
        so ∙ ap all_of (claims_over r is as_) ∙ sym (all_of_filled ss (map (claim_tree p s texts (entry_reading p s texts l)) as_))
