-- What behaviors say of each other, as it is asked.
use Rattle.std.proofs.Common.{◌≡◌, ℕ, Bool, true, false, if◌then◌else◌, cond, List, [], ◌∷◌, ◌++◌, map, length, Option, Some, None, refl, sym, ap, ◌∙◌, append-nil, arith}
use Rattle.std.specs.Prelude.{slice_get}
use Rattle.std.specs.List.{list_all}
use Rattle.std.proofs.lemmas.List.{map-append}
use Rattle.acsl_encode.specs.Encode.{all_of}
use Rattle.c_runs.specs.Claims as broken
use Rattle.c_runs.specs.Claims.{in_order, says_complete, says_disjoint}
use Rattle.c_runs.specs.Program as program
use Rattle.c_runs.specs.Program.{Facts}
use Rattle.plain_runs.specs.Fitting.{Shape}
use Rattle.program_trees.specs.declared.contracts.Behavior.{Behavior}
use Rattle.program_trees.specs.declared.contracts.Together.{Together}
use Rattle.program_trees.specs.View.{view_behavior, view_together}
use Rattle.qed_terms.specs.Meaning as sense
use Rattle.qed_terms.specs.Tree.{Tree}
use Rattle.walk_steps.specs.Forms.{Place, Slots}
use Rattle.program_steps.specs.Functions.{any_of, no_two, behavior_tree, named_tree, named_trees, together_check}
use Rattle.program_steps.specs.Leaves.{fill, is_closed}
use Rattle.program_steps.specs.Stops.{broken_place}
use Rattle.program_steps.specs.Terms.{Texts}
use Rattle.program_steps.specs.Words.{check}
use Rattle.walk_frames.specs.Asked.{AreClosed, Written, at_place, written_check}
use Rattle.walk_frames.proofs.Asking.{filled_closed}
use Rattle.walk_frames.proofs.Closedness.{all_so, all_of_closed, assumed_closed}
use Rattle.walk_frames.proofs.Over.{all_of_filled}
use Rattle.function_walks.specs.Ending.{saying, says, written_checks}
use Rattle.function_walks.proofs.Choices.{any_of_filled, no_two_filled, any_of_closed, no_two_closed}
use Rattle.function_walks.proofs.Requiring.{flat, map_twice}

-- ---- checks, one behind the other

pub both_written : {X A B : Type 0} (g : A → B) (f : X → A) (none one two : List B) (xs ys : List X) → none ≡ [] → one ≡ none ++ map g (map f xs) → two ≡ one ++ map g (map f ys)
    → two ≡ map g (map f (xs ++ ys))
both_written g f none one two xs ys n h k =
    k ∙ ap (λ zs. zs ++ map g (map f ys)) (h ∙ ap (λ zs. zs ++ map g (map f xs)) n)
    ∙ sym (map-append g (map f xs) (map f ys)) ∙ ap (map g) (sym (map-append f xs ys))

module _ (m : sense.World) (p : Facts) (s : Shape) (texts : Texts) where
  -- ---- formulas of behaviors are closed

  named_is_closed : (o : Option program.Behavior) → is_closed [] (named_tree m p s texts o) ≡ true
  named_is_closed (Some b) = assumed_closed p s texts 1 b.assumes
  named_is_closed None = refl

  all_closed : (bs : List program.Behavior) → AreClosed (map (behavior_tree m p s texts) bs)
  all_closed [] = refl
  all_closed (b ∷ bs) = all_so (is_closed [] (behavior_tree m p s texts b)) (list_all (is_closed []) (map (behavior_tree m p s texts) bs)) (assumed_closed p s texts 1 b.assumes) (all_closed bs)

  some_closed : (bs : List program.Behavior) (ns : List ℕ) → AreClosed (map (λ i. named_tree m p s texts (slice_get bs i)) ns)
  some_closed bs [] = refl
  some_closed bs (n ∷ ns) =
      all_so (is_closed [] (named_tree m p s texts (slice_get bs n))) (list_all (is_closed []) (map (λ i. named_tree m p s texts (slice_get bs i)) ns)) (named_is_closed (slice_get bs n)) (some_closed bs ns)

  named_closed : (bs : List program.Behavior) (ns : List ℕ) → AreClosed (named_trees m p s texts bs ns)
  named_closed bs [] = all_closed bs
  named_closed bs (n ∷ ns) = some_closed bs (n ∷ ns)

  module _ (ss : List Slots) where
    -- ---- as they are made

    abbrev pub formula_by : Behavior → Tree
    formula_by b = fill ss (behavior_tree m p s texts (view_behavior b))

    pub formulas_are : (bs : List Behavior) → map formula_by bs ≡ map (fill ss) (named_trees m p s texts (map view_behavior bs) [])
    formulas_are bs = sym (map_twice (fill ss) (behavior_tree m p s texts) (map view_behavior bs) ∙ map_twice (λ b. fill ss (behavior_tree m p s texts b)) view_behavior bs)

    abbrev pub named_by : List program.Behavior → ℕ → Tree
    named_by bs n = fill ss (named_tree m p s texts (slice_get bs n))

    pub none_named : (bs : List program.Behavior) (ns : List ℕ) → length ns ≡ 0 → map (fill ss) (named_trees m p s texts bs []) ≡ map (fill ss) (named_trees m p s texts bs ns)
    none_named bs [] e = refl
    none_named bs (n ∷ ns) e = absurd (omega (arith, e))

    pub some_named : (bs : List program.Behavior) (ns : List ℕ) → (length ns ≡ 0 → ⊥) → map (named_by bs) ns ≡ map (fill ss) (named_trees m p s texts bs ns)
    some_named bs [] h = absurd (h refl)
    some_named bs (n ∷ ns) h = sym (map_twice (fill ss) (λ i. named_tree m p s texts (slice_get bs i)) (n ∷ ns))

    -- ---- what is asked

    module _ (bs : List program.Behavior) (t : program.Together) (place : Place) (claim : Tree) (fs : List Tree) (are : fs ≡ map (fill ss) (named_trees m p s texts bs t.numbers)) where
      abbrev trees : List Tree
      trees = named_trees m p s texts bs t.numbers

      abbrev check_by : Bool → Written
      check_by b = written_check ss (if b then check m (any_of trees) (broken_place broken.complete t.line) else check m (all_of (no_two trees)) (broken_place broken.disjoint t.line))

      pub complete_made : t.is_complete ≡ true → place ≡ broken_place broken.complete t.line → claim ≡ any_of fs → at_place place claim ≡ written_check ss (together_check m p s texts bs t)
      complete_made is at made =
          let whole = filled_closed ss (any_of trees) claim (any_of_closed trees (named_closed bs t.numbers)) (made ∙ ap any_of are ∙ sym (any_of_filled ss trees)) in
          (λ i. at_place (at i) (sym whole i)) ∙ ap check_by (sym is)

      pub disjoint_made : t.is_complete ≡ false → place ≡ broken_place broken.disjoint t.line → claim ≡ all_of (no_two fs) → at_place place claim ≡ written_check ss (together_check m p s texts bs t)
      disjoint_made is at made =
          let filled = ap (λ gs. all_of (no_two gs)) are ∙ ap all_of (sym (no_two_filled ss trees)) ∙ sym (all_of_filled ss (no_two trees)) in
          let whole = filled_closed ss (all_of (no_two trees)) claim (all_of_closed (no_two trees) (no_two_closed trees (named_closed bs t.numbers))) (made ∙ filled) in
          (λ i. at_place (at i) (sym whole i)) ∙ ap check_by (sym is)

    module _ (bs : List program.Behavior) where
      abbrev pub asked_of : Together → Written
      asked_of t = written_check ss (together_check m p s texts bs (view_together t))

      abbrev pub checked : List program.Together → List Written
      checked ts = written_checks ss (map (together_check m p s texts bs) ts)

      abbrev pub asked_by : Bool → Together → List Written
      asked_by o t = checked (saying o (view_together t ∷ []))

      abbrev one_by : Together → Bool → List Written
      one_by t b = checked (cond b (view_together t ∷ []) [])

      pub asked_here : (o : Bool) (t : Together) (old new : List Written) → says o (view_together t) ≡ true → new ≡ old ++ asked_of t ∷ [] → new ≡ old ++ asked_by o t
      asked_here true t old new h e = e ∙ ap (λ b. old ++ one_by t b) (sym h)
      asked_here false t old new h e = e ∙ ap (λ b. old ++ one_by t b) (sym h)

      pub not_here : (o : Bool) (t : Together) (old : List Written) → says o (view_together t) ≡ false → old ≡ old ++ asked_by o t
      not_here true t old h = sym (append-nil old) ∙ ap (λ b. old ++ one_by t b) (sym h)
      not_here false t old h = sym (append-nil old) ∙ ap (λ b. old ++ one_by t b) (sym h)

      one_more : (t : Together) (rest : List program.Together) (b : Bool) → one_by t b ++ checked rest ≡ checked (cond b (view_together t ∷ rest) rest)
      one_more t rest true = refl
      one_more t rest false = refl

      pub asked_are : (o : Bool) (ts : List Together) → flat (asked_by o) ts ≡ checked (saying o (map view_together ts))
      asked_are true [] = refl
      asked_are false [] = refl
      asked_are true (t ∷ ts) = ap (λ xs. asked_by true t ++ xs) (asked_are true ts) ∙ one_more t (saying true (map view_together ts)) (says_complete (view_together t))
      asked_are false (t ∷ ts) = ap (λ xs. asked_by false t ++ xs) (asked_are false ts) ∙ one_more t (saying false (map view_together ts)) (says_disjoint (view_together t))
