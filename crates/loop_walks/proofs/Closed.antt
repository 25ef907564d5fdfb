-- What the walk of a loop asks for and knows is closed.
use Rattle.std.proofs.Common.{◌≡◌, ℕ, suc, Bool, true, false, not, ◌&&◌, ◌||◌, if◌then◌else◌, List, [], ◌∷◌, ◌++◌, map, Option, Some, None, refl, ap}
use Rattle.std.specs.List.{list_all, list_any}
use Rattle.std.specs.Str.{bytes_eq}
use Rattle.typed_prog.specs.declared.operators.Variable.TheVariants as variables
use Rattle.acsl_trees.specs.Tree as acsl
use Rattle.qed_terms.specs.Tree.{Tree, false_tree, imp_of}
use Rattle.c_runs.specs.Program.{Variable, Claim, Behavior, Contract, Loop, Facts}
use Rattle.plain_runs.specs.Fitting.{Shape}
use Rattle.plain_states.specs.Slots.{value_slot}
use Rattle.program_steps.specs.Leaves.{leaf_name, leaf, is_closed}
use Rattle.program_steps.specs.Terms.{Texts, assumed_tree, entry_reading}
use Rattle.program_steps.specs.Words.{Force, of_function, of_loop, Point, under, lacks}
use Rattle.program_steps.specs.Staying.{stays, stay_of, stays_from, all_stay}
use Rattle.loop_words.specs.Sets.{lacks_some, lacking_in, lacking_all, some_outside, within, inside_trees}
use Rattle.loop_words.specs.Words.{assumed_at, stay_trees, head_tree}
use Rattle.walk_frames.specs.Asked.{AreClosed}
use Rattle.walk_frames.proofs.Closedness.{all_so, both_closed, unless_closed, under_closed, assumed_closed, formulas_closed}
use Rattle.loop_walks.specs.Parts.{head_trees}
use Rattle.loop_walks.proofs.Staying.{leaf_unmarked}

if_closed : (b : Bool) (f : Tree) → is_closed [] f ≡ true → AreClosed (if b then f ∷ [] else [])
if_closed true f h = all_so (is_closed [] f) true h refl
if_closed false f h = refl

leaf_closed : (l i : ℕ) → is_closed [] (leaf l i) ≡ true
leaf_closed l i = ap (λ b. not b || list_any (bytes_eq (leaf_name l i)) []) (leaf_unmarked l i)

stays_closed : (x : ℕ) → is_closed [] (stays x) ≡ true
stays_closed x =
    let now = is_closed [] (leaf 0 (value_slot x)) in
    let before = is_closed [] (leaf 1 (value_slot x)) in
    all_so now (before && true) (leaf_closed 0 (value_slot x)) (all_so before true (leaf_closed 1 (value_slot x)) refl)

module _ (p : Facts) (s : Shape) (texts : Texts) where
  -- ---- its set

  lacking_one : (e : ℕ) (plain : Bool) (b : Behavior) (rs : List acsl.Tree) → AreClosed (lacking_in p s texts e plain b rs)
  lacking_one e plain b rs =
      let f = under plain (assumed_tree p s texts (entry_reading p s texts e) b.assumes) false_tree in
      if_closed (lacks_some b.assigns rs) f (under_closed plain (assumed_tree p s texts (entry_reading p s texts e) b.assumes) false_tree (assumed_closed p s texts e b.assumes) refl)

  lacking_each : (e : ℕ) (bs : List Behavior) (rs : List acsl.Tree) → AreClosed (lacking_all p s texts e bs rs)
  lacking_each e [] rs = refl
  lacking_each e (b ∷ bs) rs = both_closed (lacking_in p s texts e false b rs) (lacking_all p s texts e bs rs) (lacking_one e false b rs) (lacking_each e bs rs)

  within_closed : (e : ℕ) (c : Contract) (w : Force) (rs : List acsl.Tree) → AreClosed (within p s texts e c w rs)
  within_closed e c of_function rs =
      unless_closed (lacks_some c.plain.assigns rs) (lacking_in p s texts e true c.plain rs ++ lacking_all p s texts e c.behaviors rs)
      (both_closed (lacking_in p s texts e true c.plain rs) (lacking_all p s texts e c.behaviors rs) (lacking_one e true c.plain rs) (lacking_each e c.behaviors rs))
  within_closed e c (of_loop ws d) rs = if_closed (some_outside p s texts ws d rs) false_tree refl

  pub inside_closed : (c : Contract) (pt : Point) (l : Loop) → AreClosed (inside_trees p s texts c pt l)
  inside_closed c pt l = by l.assigns
    where
      by : (o : Option (List acsl.Tree)) → AreClosed (inside_trees p s texts c pt (record l { assigns = o }))
      by None = refl
      by (Some rs) = within_closed (suc pt.entry) c pt.force rs

  -- ---- the head

  stay_closed : (a : Tree) (set : Option (List acsl.Tree)) (f : ℕ → Bool) (x : ℕ) → is_closed [] a ≡ true → AreClosed (stay_of a set f x)
  stay_closed a set f x h =
      if_closed (f x && lacks set (variables.Global x)) (imp_of a (stays x)) (under_closed false a (stays x) h (stays_closed x))

  stays_all_closed : (a : Tree) (set : Option (List acsl.Tree)) (f : ℕ → Bool) (x : ℕ) (vs : List Variable) → is_closed [] a ≡ true → AreClosed (stays_from a set f x vs)
  stays_all_closed a set f x [] h = refl
  stays_all_closed a set f x (v ∷ vs) h = both_closed (stay_of a set f x) (stays_from a set f (suc x) vs) (stay_closed a set f x h) (stays_all_closed a set f (suc x) vs h)

  behaviors_closed : (e : ℕ) (f : ℕ → Bool) (vs : List Variable) (bs : List Behavior) → AreClosed (all_stay (assumed_at p s texts e) f vs bs)
  behaviors_closed e f vs [] = refl
  behaviors_closed e f vs (b ∷ bs) =
      both_closed (stays_from (assumed_at p s texts e b) b.assigns f 0 vs) (all_stay (assumed_at p s texts e) f vs bs)
      (stays_all_closed (assumed_at p s texts e b) b.assigns f 0 vs (assumed_closed p s texts e b.assumes)) (behaviors_closed e f vs bs)

  stay_trees_closed : (c : Contract) (pt : Point) (l : Loop) → AreClosed (stay_trees p s texts c pt l)
  stay_trees_closed c pt l = by l.assigns pt.force
    where
      by : (o : Option (List acsl.Tree)) (w : Force) → AreClosed (stay_trees p s texts c (record pt { force = w }) (record l { assigns = o }))
      by None of_function = behaviors_closed (suc (suc pt.entry)) _ p.globals c.behaviors
      by None (of_loop ws d) = refl
      by (Some rs) w = refl

  invariants_closed : (pt : Point) (cs : List Claim) → AreClosed (map (head_tree p s texts pt) cs)
  invariants_closed pt [] = refl
  invariants_closed pt (c ∷ cs) =
      all_so (is_closed [] (head_tree p s texts pt c)) (list_all (is_closed []) (map (head_tree p s texts pt) cs))
      (formulas_closed.claims p s texts 0 (suc (suc pt.entry)) 1 c.what) (invariants_closed pt cs)

  pub head_closed : (c : Contract) (pt : Point) (l : Loop) → AreClosed (head_trees p s texts c pt l)
  head_closed c pt l = both_closed (stay_trees p s texts c pt l) (map (head_tree p s texts pt) l.invariants) (stay_trees_closed c pt l) (invariants_closed pt l.invariants)
