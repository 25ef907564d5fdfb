-- Clauses that don't name each variable of a set, one after the other.
use Rattle.std.proofs.Common.{◌≡◌, ◌<◌, ◌≤◌, ℕ, ◌+◌, Bool, true, false, if◌then◌else◌, List, [], ◌∷◌, ◌++◌, map, drop, length, get_or, sym, ap, ◌∙◌, subst}
use Rattle.std.proofs.lemmas.List.{at_drop_more, at_drop_all}
use Rattle.acsl_trees.specs.Tree as acsl
use Rattle.qed_terms.specs.Tree.{Tree, false_tree}
use Rattle.qed_terms.specs.View.{formula_tree}
use Rattle.qed_terms.specs.declared.term.Formula.{Formula}
use Rattle.walk_words.proofs.Pushing.{map_push}
use Rattle.c_runs.specs.Program.{Facts}
use Rattle.plain_runs.specs.Fitting.{Shape}
use Rattle.walk_steps.specs.Forms.{Slots}
use Rattle.program_trees.specs.declared.contracts.Behavior.{Behavior}
use Rattle.program_trees.specs.View.{view_behavior}
use Rattle.program_steps.specs.Leaves.{fill}
use Rattle.program_steps.specs.Terms.{Texts}
use Rattle.program_steps.specs.Terms.{assumed_tree, entry_reading}
use Rattle.program_steps.specs.Words.{as_one_unless, under}
use Rattle.walk_frames.proofs.Over.{unless_filled, under_filled}
use Rattle.loop_words.specs.Sets.{lacking_all, lacking_in, lacks_some}
use Rattle.loop_walks.proofs.Lists.{one_more, all_done, map_both}

module _ (ss : List Slots) (p : Facts) (s : Shape) (texts : Texts) (e : ℕ) (rs : List acsl.Tree) where
  abbrev to_come : List Behavior → List Tree
  to_come bs = map (fill ss) (lacking_all p s texts e (map view_behavior bs) rs)

  pub lacking_turn : (xs bs : List Behavior) → xs ≡ bs → (i : ℕ) (b : Behavior) (made new whole : List Tree) → i < length xs → b ≡ get_or xs i b
      → made ++ map (fill ss) (lacking_all p s texts e (map view_behavior (drop i bs)) rs) ≡ whole → new ≡ made ++ map (fill ss) (lacking_in p s texts e false (view_behavior b) rs)
      → new ++ map (fill ss) (lacking_all p s texts e (map view_behavior (drop (i + 1) bs)) rs) ≡ whole
  lacking_turn xs bs seen i b made new whole within found h push =
      let lt = subst (λ ys. i < length ys) seen within in
      let is : b ≡ get_or bs i b = found ∙ ap (λ ys. get_or ys i b) seen in
      let rest = lacking_all p s texts e (map view_behavior (drop (i + 1) bs)) rs in
      let item : Behavior → List Tree = λ (c : Behavior). lacking_in p s texts e false (view_behavior c) rs in
      one_more made new (map (fill ss) (item b)) (to_come (drop i bs)) (map (fill ss) rest) whole h
      (at_drop_more to_come bs i b lt ∙ map_both (fill ss) (item (get_or bs i b)) rest ∙ ap (λ (c : Behavior). map (fill ss) (item c) ++ map (fill ss) rest) (sym is))
      push

  pub lacking_end : (bs : List Behavior) (i : ℕ) (made whole : List Tree) → length bs ≤ i → made ++ map (fill ss) (lacking_all p s texts e (map view_behavior (drop i bs)) rs) ≡ whole → made ≡ whole
  lacking_end bs i made whole le h = all_done made (to_come (drop i bs)) whole h (at_drop_all to_come bs i le)

-- a clause that lacks some
pub lacking_more : (ss : List Slots) (p : Facts) (s : Shape) (texts : Texts) (e : ℕ) (rs : List acsl.Tree) (plain : Bool) (b : Behavior) (lacks : Bool) (x : Formula) (t : Tree) (made new : List Formula)
    → lacks ≡ lacks_some (view_behavior b).assigns rs → lacks ≡ true → t ≡ false_tree
    → formula_tree x ≡ under plain (fill ss (assumed_tree p s texts (entry_reading p s texts e) (view_behavior b).assumes)) t → new ≡ made ++ x ∷ []
    → map formula_tree new ≡ map formula_tree made ++ map (fill ss) (lacking_in p s texts e plain (view_behavior b) rs)
lacking_more ss p s texts e rs plain b lacks x t made new is so none h k =
    let a = assumed_tree p s texts (entry_reading p s texts e) (view_behavior b).assumes in
    ap (map formula_tree) k ∙ map_push formula_tree made x ∙ ap (λ u. map formula_tree made ++ u ∷ []) (h ∙ ap (under plain (fill ss a)) none ∙ sym (under_filled ss plain a false_tree))
    ∙ ap (λ c. map formula_tree made ++ map (fill ss) (if c then under plain a false_tree ∷ [] else [])) (sym so ∙ is)

pub clauses_joined : (ss : List Slots) (fs : List Tree) (made new : List Tree) (refused is_refused : Bool) → refused ≡ is_refused → made ≡ map (fill ss) fs → new ≡ as_one_unless refused made
    → new ≡ map (fill ss) (as_one_unless is_refused fs)
clauses_joined ss fs made new refused is_refused is h push = push ∙ (λ i. as_one_unless (is i) (h i)) ∙ sym (unless_filled ss is_refused fs)
