-- Clauses that don't name a variable, one after the other.
use Rattle.std.proofs.Common.{◌≡◌, ◌<◌, ◌≤◌, ℕ, ◌+◌, Bool, false, List, [], ◌∷◌, ◌++◌, map, drop, length, get_or, refl, sym, ap, ◌∙◌, append_assoc, append-nil}
use Rattle.std.proofs.lemmas.List.{at_drop_more, at_drop_all}
use Rattle.typed_prog.specs.declared.operators.Variable.{Variable}
use Rattle.qed_terms.specs.Tree.{Tree}
use Rattle.c_runs.specs.Program.{Facts}
use Rattle.plain_runs.specs.Fitting.{Shape}
use Rattle.walk_steps.specs.Forms.{Slots}
use Rattle.program_trees.specs.declared.contracts.Behavior.{Behavior}
use Rattle.program_trees.specs.View.{view_behavior}
use Rattle.program_steps.specs.Leaves.{fill}
use Rattle.program_steps.specs.Terms.{Texts}
use Rattle.program_steps.specs.Words.{as_one_unless, missing_all, missing_in}
use Rattle.walk_frames.proofs.Over.{unless_filled}

pub filled_both : (ss : List Slots) (fs gs : List Tree) → map (fill ss) (fs ++ gs) ≡ map (fill ss) fs ++ map (fill ss) gs
filled_both ss [] gs = refl
filled_both ss (f ∷ fs) gs = ap (λ ts. fill ss f ∷ ts) (filled_both ss fs gs)

module _ (ss : List Slots) (p : Facts) (s : Shape) (texts : Texts) (e : ℕ) (x : Variable) where
  pub missing_turn : (bs : List Behavior) (i : ℕ) (b : Behavior) (made new whole : List Tree) → i < length bs → b ≡ get_or bs i b
      → made ++ map (fill ss) (missing_all p s texts e (map view_behavior (drop i bs)) x) ≡ whole → new ≡ made ++ map (fill ss) (missing_in p s texts e false (view_behavior b) x)
      → new ++ map (fill ss) (missing_all p s texts e (map view_behavior (drop (i + 1) bs)) x) ≡ whole
  missing_turn bs i b made new whole lt is h push =
      let rest = missing_all p s texts e (map view_behavior (drop (i + 1) bs)) x in
      let one : Behavior → List Tree = λ c. missing_in p s texts e false (view_behavior c) x in
      ap (λ fs. fs ++ map (fill ss) rest) push ∙ append_assoc made (map (fill ss) (one b)) (map (fill ss) rest) ∙ ap (λ fs. made ++ fs) (sym (filled_both ss (one b) rest))
      ∙ ap (λ c. made ++ map (fill ss) (one c ++ rest)) is
      ∙ ap (λ fs. made ++ map (fill ss) fs) (sym (at_drop_more (λ cs. missing_all p s texts e (map view_behavior cs) x) bs i b lt)) ∙ h

  pub missing_end : (bs : List Behavior) (i : ℕ) (made whole : List Tree) → length bs ≤ i → made ++ map (fill ss) (missing_all p s texts e (map view_behavior (drop i bs)) x) ≡ whole → made ≡ whole
  missing_end bs i made whole le h =
      sym (append-nil made) ∙ ap (λ fs. made ++ map (fill ss) fs) (sym (at_drop_all (λ cs. missing_all p s texts e (map view_behavior cs) x) bs i le)) ∙ h

pub missing_joined : (ss : List Slots) (fs : List Tree) (made new : List Tree) (refused is_refused : Bool) → refused ≡ is_refused → made ≡ map (fill ss) fs → new ≡ as_one_unless refused made
    → new ≡ map (fill ss) (as_one_unless is_refused fs)
missing_joined ss fs made new refused is_refused is h push = push ∙ (λ i. as_one_unless (is i) (h i)) ∙ sym (unless_filled ss is_refused fs)
