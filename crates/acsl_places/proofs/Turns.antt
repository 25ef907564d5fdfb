-- The terms of `\separated`, one after another.
use Rattle.std.proofs.Common.{◌≡◌, ℕ, ◌+◌, ◌<◌, ◌≤◌, List, [], ◌∷◌, ◌++◌, map, length, drop, get_or, Ok, Err, refl, sym, ap, ◌∙◌, append_assoc, append-nil}
use Rattle.std.proofs.lemmas.List.{at_drop_more, at_drop_all, map_push}
use Rattle.wp_base.specs.declared.answers.Stop.{Stop}
use Rattle.wp_base.specs.declared.answers.Stop.TheVariants as stop
use Rattle.c_syntax.specs.declared.annot.Term.{Term}
use Rattle.c_syntax.specs.View.{view_term}
use Rattle.c_answers.specs.Answers.{Answer, after, Gives}
use Rattle.acsl_trees.specs.declared.tree.Tree.{Tree as CodeTree}
use Rattle.acsl_trees.specs.Tree.{Tree, view_tree, view_trees}
use Rattle.acsl_names.specs.declared.names.Bound.{Bound}
use Rattle.acsl_names.specs.declared.names.Reading.{Reading}
use Rattle.acsl_names.specs.declared.counting.Count.{Count}
use Rattle.acsl_names.specs.Names.{Around}
use Rattle.acsl_places.specs.declared.aims.Aim.{Aim as Code}
use Rattle.acsl_places.specs.Places.{Aim, view_aim, aimed, all_aimed, region_tree, region_trees}

-- ---- each typed

-- these, and then those that are typed
abbrev pub typed_onto : List Aim → Answer (List Aim × Count) → Answer (List Aim × Count)
typed_onto done o = after o (λ xs. Ok (done ++ xs.0, xs.1))

one_onto : (done : List Aim) (x : Aim) (o : Answer (List Aim × Count)) → typed_onto (done ++ x ∷ []) o ≡ typed_onto done (after o (λ xs. Ok (x ∷ xs.0, xs.1)))
one_onto done x (Ok xs) = ap (λ ys. Ok (ys, xs.1)) (append_assoc done (x ∷ []) xs.0)
one_onto done x (Err e) = refl

module _ (c : Around) (b : Bound) (r : Reading) where
  abbrev rest_from : List Term → ℕ → Count → Answer (List Aim × Count)
  rest_from terms i n = all_aimed c b r n (map view_term (drop i terms))

  abbrev then_rest : List Term → ℕ → Answer (Aim × Count) → Answer (List Aim × Count)
  then_rest terms i o = after o (λ x. after (rest_from terms (i + 1) x.1) (λ xs. Ok (x.0 ∷ xs.0, xs.1)))

  first_aimed : (n : Count) (terms : List Term) (i : ℕ) (a : Term) → i < length terms → a ≡ get_or terms i a → rest_from terms i n ≡ then_rest terms i (aimed c b r n (view_term a))
  first_aimed n terms i a in_terms is =
      at_drop_more (λ xs. all_aimed c b r n (map view_term xs)) terms i a in_terms ∙ ap (λ x. all_aimed c b r n (map view_term (x ∷ drop (i + 1) terms))) (sym is)

  pub aim_turn : (n m : Count) (terms : List Term) (i : ℕ) (a : Term) (done more : List Code) (x : Code) (whole : Answer (List Aim × Count)) → i < length terms → a ≡ get_or terms i a
      → aimed c b r n (view_term a) ≡ Ok (view_aim x, m) → more ≡ done ++ x ∷ []
      → typed_onto (map view_aim done) (all_aimed c b r n (map view_term (drop i terms))) ≡ whole → typed_onto (map view_aim more) (all_aimed c b r m (map view_term (drop (i + 1) terms))) ≡ whole
  aim_turn n m terms i a done more x whole in_terms is made grown so_far =
      ap (λ xs. typed_onto (map view_aim xs) (rest_from terms (i + 1) m)) grown ∙ ap (λ xs. typed_onto xs (rest_from terms (i + 1) m)) (map_push view_aim done x)
      ∙ one_onto (map view_aim done) (view_aim x) (rest_from terms (i + 1) m) ∙ ap (λ o. typed_onto (map view_aim done) (then_rest terms i o)) (sym made)
      ∙ ap (typed_onto (map view_aim done)) (sym (first_aimed n terms i a in_terms is)) ∙ so_far

  pub aim_fault : {V W : Type 0} (see : V → Aim × Count) (see' : W → List Aim × Count) (n : Count) (terms : List Term) (i : ℕ) (a : Term) (done : List Code) (x : Stop) (whole : Answer (List Aim × Count))
      → i < length terms → a ≡ get_or terms i a → Gives see (Err x) (aimed c b r n (view_term a))
      → typed_onto (map view_aim done) (all_aimed c b r n (map view_term (drop i terms))) ≡ whole → Gives see' (Err x) whole
  aim_fault see see' n terms i a done (stop.Refused e) whole in_terms is fault so_far =
      sym so_far ∙ ap (typed_onto (map view_aim done)) (first_aimed n terms i a in_terms is) ∙ ap (λ o. typed_onto (map view_aim done) (then_rest terms i o)) fault
  aim_fault see see' n terms i a done stop.NoMemory whole in_terms is fault so_far = tt

  pub aims_done : (n : Count) (terms : List Term) (i : ℕ) (done : List Code) (whole : Answer (List Aim × Count)) → length terms ≤ i
      → typed_onto (map view_aim done) (all_aimed c b r n (map view_term (drop i terms))) ≡ whole → whole ≡ Ok (map view_aim done, n)
  aims_done n terms i done whole all so_far =
      sym so_far ∙ at_drop_all (λ xs. typed_onto (map view_aim done) (all_aimed c b r n (map view_term xs))) terms i all ∙ ap (λ xs. Ok (xs, n)) (append-nil (map view_aim done))

pub ruleset aim_laws = (aim_turn, aim_fault, aims_done)

-- ---- each as a region

abbrev pub onto : List Tree → Answer (List Tree) → Answer (List Tree)
onto done o = after o (λ ts. Ok (done ++ ts))

more_onto : (done : List Tree) (t : Tree) (o : Answer (List Tree)) → onto (done ++ t ∷ []) o ≡ onto done (after o (λ ts. Ok (t ∷ ts)))
more_onto done t (Ok ts) = ap Ok (append_assoc done (t ∷ []) ts)
more_onto done t (Err e) = refl

abbrev then_trees : (line : ℕ) → List Code → Answer Tree → Answer (List Tree)
then_trees line xs o = after o (λ t. after (region_trees line (map view_aim xs)) (λ ts. Ok (t ∷ ts)))

pub region_turn : (line : ℕ) (done more : List CodeTree) (t : CodeTree) (x : Code) (all xs : List Code) (whole : Answer (List Tree)) → all ≡ x ∷ xs → more ≡ done ++ t ∷ [] → region_tree line (view_aim x) ≡ Ok (view_tree t)
    → onto (view_trees done) (region_trees line (map view_aim all)) ≡ whole → onto (view_trees more) (region_trees line (map view_aim xs)) ≡ whole
region_turn line done more t x all xs whole first pushed made so_far =
    ap (λ ts. onto (view_trees ts) (region_trees line (map view_aim xs))) pushed ∙ ap (λ ts. onto ts (region_trees line (map view_aim xs))) (map_push view_tree done t)
    ∙ more_onto (view_trees done) (view_tree t) (region_trees line (map view_aim xs)) ∙ ap (λ o. onto (view_trees done) (then_trees line xs o)) (sym made)
    ∙ sym (ap (λ ys. onto (view_trees done) (region_trees line (map view_aim ys))) first) ∙ so_far

pub region_fault : (line : ℕ) (done : List CodeTree) (x : Code) (all xs : List Code) (e : Stop) (whole : Answer (List Tree)) → all ≡ x ∷ xs → Gives view_tree (Err e) (region_tree line (view_aim x))
    → onto (view_trees done) (region_trees line (map view_aim all)) ≡ whole → Gives view_trees (Err e) whole
region_fault line done x all xs (stop.Refused r) whole first fault so_far =
    sym so_far ∙ ap (λ ys. onto (view_trees done) (region_trees line (map view_aim ys))) first ∙ ap (λ o. onto (view_trees done) (then_trees line xs o)) fault
region_fault line done x all xs stop.NoMemory whole first fault so_far = tt

pub regions_done : (line : ℕ) (done : List CodeTree) (all : List Code) (whole : Answer (List Tree)) → all ≡ [] → onto (view_trees done) (region_trees line (map view_aim all)) ≡ whole → whole ≡ Ok (view_trees done)
regions_done line done all whole none so_far = sym so_far ∙ ap (λ ys. onto (view_trees done) (region_trees line (map view_aim ys))) none ∙ ap Ok (append-nil (view_trees done))

pub ruleset region_laws = (region_turn, region_fault, regions_done)
