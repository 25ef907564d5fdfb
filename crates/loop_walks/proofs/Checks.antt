-- Checks of a loop, as they are written over the terms in slots.
use Rattle.std.proofs.Common.{◌≡◌, ◌<◌, ◌≤◌, ℕ, ◌+◌, true, ◌&&◌, pos, List, [], ◌∷◌, ◌++◌, map, drop, length, get_or, Option, Some, None, refl, sym, ap, ap₂, ◌∙◌}
use Rattle.std.specs.Option.{option_map}
use Rattle.std.proofs.lemmas.List.{at_drop_more, at_drop_all}
use Rattle.acsl_trees.specs.Tree as acsl
use Rattle.acsl_encode.specs.Encode as encode
use Rattle.core_trees.specs.View.{view_claim}
use Rattle.core_trees.specs.declared.claims.Claim as memory
use Rattle.qed_terms.specs.Meaning as sense
use Rattle.qed_terms.specs.Tree.{Tree, num, at_most, less}
use Rattle.c_runs.specs.Program.{Claim, Facts}
use Rattle.plain_runs.specs.Fitting.{Shape}
use Rattle.walk_steps.specs.Forms.{Slots, Place, Check}
use Rattle.program_steps.specs.Leaves.{fill, is_closed}
use Rattle.program_steps.specs.Terms.{Texts, body_reading, claim_tree, or_zero}
use Rattle.program_steps.specs.Words.{check}
use Rattle.walk_frames.specs.Asked.{Written, written_check}
use Rattle.walk_frames.proofs.Asking.{closed_is}
use Rattle.walk_frames.proofs.Closedness.{formulas_closed, all_so}
use Rattle.loop_walks.proofs.Lists.{one_more, all_done, map_both}

abbrev pub written : Place → Tree → Written
written at t = record { place = at; claim = t }

-- what is closed is written as it is filled
check_written : (m : sense.World) (ss : List Slots) (t made : Tree) (at place : Place) → is_closed [] t ≡ true → place ≡ at → made ≡ fill ss t
    → record { place = place; claim = made } ≡ written_check ss (check m t at)
check_written m ss t made at place c e is = λ i. record { place = e i; claim = (is ∙ ap (fill ss) (sym (closed_is t c))) i }

-- a claim that was made, at its place
pub asked_so : {t u : Tree} {at : Place} → t ≡ u → written at t ≡ written at u
asked_so {at = at} e = ap (written at) e

module _ (m : sense.World) (ss : List Slots) (p : Facts) (s : Shape) (texts : Texts) where
  pub claim_written : (here entry loop_entry : ℕ) (a : acsl.Tree) (made : Tree) (at place : Place) → place ≡ at
      → made ≡ fill ss (claim_tree p s texts (body_reading p s texts here entry loop_entry) a)
      → record { place = place; claim = made } ≡ written_check ss (check m (claim_tree p s texts (body_reading p s texts here entry loop_entry) a) at)
  claim_written h e g a made at place is so =
      check_written m ss (claim_tree p s texts (body_reading p s texts h e g) a) made at place (formulas_closed.claims p s texts h e g a) is so

  -- ---- measures

  abbrev measure : (here entry loop_entry : ℕ) → acsl.Tree → Option Tree
  measure h e g a = encode.term_of (body_reading p s texts h e g a) a

  measure_closed : (h e g : ℕ) (a : acsl.Tree) → is_closed [] (or_zero (measure h e g a)) ≡ true
  measure_closed h e g a = by (measure h e g a) refl
    where
      by : (o : Option Tree) → measure h e g a ≡ o → is_closed [] (or_zero o) ≡ true
      by (Some t) is = formulas_closed.numbers p s texts h e g a t is
      by None is = refl

  pub positive_written : (h e g : ℕ) (a : acsl.Tree) (none before : Tree) (at place : Place) → place ≡ at → none ≡ num (pos 0) → before ≡ fill ss (or_zero (measure h e g a))
      → record { place = place; claim = at_most none before } ≡ written_check ss (check m (at_most (num (pos 0)) (or_zero (measure h e g a))) at)
  positive_written h e g a none before at place is nought so =
      let t = or_zero (measure h e g a) in
      check_written m ss (at_most (num (pos 0)) t) (at_most none before) at place (all_so (is_closed [] t) true (measure_closed h e g a) refl) is (ap₂ at_most nought so)

  pub less_written : (h h' e g : ℕ) (a : acsl.Tree) (now before : Tree) (at place : Place) → place ≡ at → now ≡ fill ss (or_zero (measure h e g a)) → before ≡ fill ss (or_zero (measure h' e g a))
      → record { place = place; claim = less now before } ≡ written_check ss (check m (less (or_zero (measure h e g a)) (or_zero (measure h' e g a))) at)
  less_written h h' e g a now before at place is so was =
      let t = or_zero (measure h e g a) in
      let u = or_zero (measure h' e g a) in
      check_written m ss (less t u) (less now before) at place
      (all_so (is_closed [] t) (is_closed [] u && true) (measure_closed h e g a) (all_so (is_closed [] u) true (measure_closed h' e g a) refl)) is (ap₂ less so was)

-- ---- terms that there are, or aren't

pub measure_some : (ss : List Slots) (o : Option Tree) (t : Tree) → Some t ≡ option_map (fill ss) o → t ≡ fill ss (or_zero o)
measure_some ss (Some u) t e = ap or_zero e
measure_some ss None t e = ap or_zero e

pub measure_none : (ss : List Slots) (o : Option Tree) (t : Tree) → t ≡ num (pos 0) → None ≡ option_map (fill ss) o → t ≡ fill ss (or_zero o)
measure_none ss (Some u) t z e = z ∙ ap or_zero e
measure_none ss None t z e = z

-- ---- one after the other

-- the checks of one list behind those of another one
pub checks_both : (ss : List Slots) (cs ds : List Check) (made first : List Written) → first ≡ map (written_check ss) cs → made ≡ first ++ map (written_check ss) ds → made ≡ map (written_check ss) (cs ++ ds)
checks_both ss cs ds made first h k = k ∙ ap (λ xs. xs ++ map (written_check ss) ds) h ∙ sym (map_both (written_check ss) cs ds)

module _ (ss : List Slots) (check : Claim → Check) where
  abbrev pub to_come : List memory.Claim → List Written
  to_come cs = map (written_check ss) (map check (map view_claim cs))

  pub check_next : (cs : List memory.Claim) (i : ℕ) (c : memory.Claim) (x : Written) (done new whole : List Written) → i < length cs → c ≡ get_or cs i c
      → done ++ to_come (drop i cs) ≡ whole → x ≡ written_check ss (check (view_claim c)) → new ≡ done ++ x ∷ [] → new ++ to_come (drop (i + 1) cs) ≡ whole
  check_next cs i c x done new whole lt is h so k =
      one_more done new (x ∷ []) (to_come (drop i cs)) (to_come (drop (i + 1) cs)) whole h
      (at_drop_more to_come cs i c lt ∙ ap (λ (y : memory.Claim). to_come (y ∷ drop (i + 1) cs)) (sym is) ∙ ap (λ y. y ∷ to_come (drop (i + 1) cs)) (sym so)) k

  pub check_end : (cs : List memory.Claim) (i : ℕ) (done whole : List Written) → length cs ≤ i → done ++ to_come (drop i cs) ≡ whole → done ≡ whole
  check_end cs i done whole le h = all_done done (to_come (drop i cs)) whole h (at_drop_all to_come cs i le)

module _ (ss : List Slots) (tree : Claim → Tree) where
  abbrev pub trees_to_come : List memory.Claim → List Tree
  trees_to_come cs = map (fill ss) (map tree (map view_claim cs))

  pub tree_next : (cs : List memory.Claim) (i : ℕ) (c : memory.Claim) (x : Tree) (done new whole : List Tree) → i < length cs → c ≡ get_or cs i c
      → done ++ trees_to_come (drop i cs) ≡ whole → x ≡ fill ss (tree (view_claim c)) → new ≡ done ++ x ∷ [] → new ++ trees_to_come (drop (i + 1) cs) ≡ whole
  tree_next cs i c x done new whole lt is h so k =
      one_more done new (x ∷ []) (trees_to_come (drop i cs)) (trees_to_come (drop (i + 1) cs)) whole h
      (at_drop_more trees_to_come cs i c lt ∙ ap (λ (y : memory.Claim). trees_to_come (y ∷ drop (i + 1) cs)) (sym is) ∙ ap (λ y. y ∷ trees_to_come (drop (i + 1) cs)) (sym so)) k

  pub tree_end : (cs : List memory.Claim) (i : ℕ) (done whole : List Tree) → length cs ≤ i → done ++ trees_to_come (drop i cs) ≡ whole → done ≡ whole
  tree_end cs i done whole le h = all_done done (trees_to_come (drop i cs)) whole h (at_drop_all trees_to_come cs i le)
