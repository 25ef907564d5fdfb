-- What stays at the head, over the terms in slots.
use Rattle.std.proofs.Common.{◌≡◌, ◌<◌, ◌≤◌, ℕ, zero, suc, ◌+◌, Bool, false, if◌then◌else◌, pos, List, [], ◌∷◌, ◌++◌, map, drop, length, get_or, Option, refl, sym, ap, ap₂, ◌∙◌, arith, subst}
use Rattle.std.proofs.lemmas.List.{at_drop_more, at_drop_all}
use Rattle.acsl_trees.specs.Tree as acsl
use Rattle.qed_terms.specs.Tree.{Tree, num, var, equal}
use Rattle.c_runs.specs.Program.{Variable, Behavior}
use Rattle.plain_states.specs.Slots as plain
use Rattle.plain_states.specs.Slots.{value_slot}
use Rattle.walk_steps.specs.State as walk
use Rattle.walk_steps.specs.Forms.{Slots}
use Rattle.program_steps.specs.Leaves.{after_as, leaf_name, leaf, slot_named, as_integer, is_marked, fill}
use Rattle.program_steps.specs.Staying.{stays, stay_of, stays_from, all_stay}
use Rattle.program_steps.proofs.Listing.{slot_leaf}
use Rattle.program_trees.specs.View.{view_behavior}
use Rattle.program_trees.specs.declared.contracts.Behavior as memory
use Rattle.loop_walks.proofs.Lists.{one_more, all_done, map_both}

-- ---- leaves

after_unmarked : (n : ℕ) (bytes : List ℕ) → is_marked bytes ≡ false → is_marked (after_as n bytes) ≡ false
after_unmarked zero bytes e = e
after_unmarked (suc n) bytes e = after_unmarked n bytes e

pub leaf_unmarked : (l i : ℕ) → is_marked (leaf_name l i) ≡ false
unfolding leaf_name
leaf_unmarked l i = after_unmarked l (98 ∷ after_as i []) (after_unmarked i [] refl)

leaf_read : (ss : List Slots) (l i : ℕ) → fill ss (leaf l i) ≡ as_integer (plain.at_or (num (pos 0)) (walk.at_or [] ss l) i)
leaf_read ss l i =
    ap (λ b. if b then var (leaf_name l i) else as_integer (slot_named (num (pos 0)) ss (leaf_name l i))) (leaf_unmarked l i) ∙ ap as_integer (slot_leaf (num (pos 0)) ss l i)

-- the slot's terms here and before
pub stays_filled : (ss : List Slots) (x i : ℕ) (here before : Slots) (now old : Tree) → i ≡ value_slot x → here ≡ walk.at_or [] ss 0 → before ≡ walk.at_or [] ss 1
    → now ≡ as_integer (plain.at_or (num (pos 0)) here i) → old ≡ as_integer (plain.at_or (num (pos 0)) before i) → equal now old ≡ fill ss (stays x)
stays_filled ss x i here before now old slot h b is was = ap₂ equal
    (is ∙ ap₂ (λ ts k. as_integer (plain.at_or (num (pos 0)) ts k)) h slot ∙ sym (leaf_read ss 0 (value_slot x)))
    (was ∙ ap₂ (λ ts k. as_integer (plain.at_or (num (pos 0)) ts k)) b slot ∙ sym (leaf_read ss 1 (value_slot x)))

-- ---- one after the other

module _ (ss : List Slots) where
  -- the next variable of the file; that many are to come
  pub stays_next : (a : Tree) (set : Option (List acsl.Tree)) (f : ℕ → Bool) (vs : List Variable) (i : ℕ) (done new whole : List Tree) → i < length vs
      → done ++ map (fill ss) (stays_from a set f i (drop i vs)) ≡ whole → new ≡ done ++ map (fill ss) (stay_of a set f i) → new ++ map (fill ss) (stays_from a set f (i + 1) (drop (i + 1) vs)) ≡ whole
  stays_next a set f [] i done new whole lt h k = absurd (omega (arith, lt))
  stays_next a set f (v ∷ vs) i done new whole lt h k =
      let xs = v ∷ vs in
      let next : suc i ≡ i + 1 = omega arith in
      one_more done new (map (fill ss) (stay_of a set f i)) (map (fill ss) (stays_from a set f i (drop i xs))) (map (fill ss) (stays_from a set f (i + 1) (drop (i + 1) xs))) whole h
      (at_drop_more (λ ys. map (fill ss) (stays_from a set f i ys)) xs i v lt ∙ map_both (fill ss) (stay_of a set f i) (stays_from a set f (suc i) (drop (i + 1) xs))
      ∙ ap (λ j. map (fill ss) (stay_of a set f i) ++ map (fill ss) (stays_from a set f j (drop (i + 1) xs))) next)
      k

  pub stays_end : (a : Tree) (set : Option (List acsl.Tree)) (f : ℕ → Bool) (vs : List Variable) (i : ℕ) (done whole : List Tree) → length vs ≤ i
      → done ++ map (fill ss) (stays_from a set f i (drop i vs)) ≡ whole → done ≡ whole
  stays_end a set f vs i done whole le h =
      all_done done (map (fill ss) (stays_from a set f i (drop i vs))) whole h (at_drop_all (λ ys. map (fill ss) (stays_from a set f i ys)) vs i le)

  -- the next behavior
  pub behavior_next : (a : Behavior → Tree) (f : ℕ → Bool) (vs : List Variable) (xs bs : List memory.Behavior) → xs ≡ bs → (i : ℕ) (b : memory.Behavior) (done new whole : List Tree) → i < length xs → b ≡ get_or xs i b
      → done ++ map (fill ss) (all_stay a f vs (map view_behavior (drop i bs))) ≡ whole
      → new ≡ done ++ map (fill ss) (stays_from (a (view_behavior b)) (view_behavior b).assigns f 0 vs) → new ++ map (fill ss) (all_stay a f vs (map view_behavior (drop (i + 1) bs))) ≡ whole
  behavior_next a f vs xs bs seen i b done new whole within found h k =
      let lt = subst (λ ys. i < length ys) seen within in
      let is : b ≡ get_or bs i b = found ∙ ap (λ ys. get_or ys i b) seen in
      let item = λ (x : memory.Behavior). stays_from (a (view_behavior x)) (view_behavior x).assigns f 0 vs in
      let rest = all_stay a f vs (map view_behavior (drop (i + 1) bs)) in
      one_more done new (map (fill ss) (item b)) (map (fill ss) (all_stay a f vs (map view_behavior (drop i bs)))) (map (fill ss) rest) whole h
      (at_drop_more (λ xs. map (fill ss) (all_stay a f vs (map view_behavior xs))) bs i b lt ∙ map_both (fill ss) (item (get_or bs i b)) rest ∙ ap (λ x. map (fill ss) (item x) ++ map (fill ss) rest) (sym is))
      k

  pub behavior_end : (a : Behavior → Tree) (f : ℕ → Bool) (vs : List Variable) (bs : List memory.Behavior) (i : ℕ) (done whole : List Tree) → length bs ≤ i
      → done ++ map (fill ss) (all_stay a f vs (map view_behavior (drop i bs))) ≡ whole → done ≡ whole
  behavior_end a f vs bs i done whole le h =
      all_done done (map (fill ss) (all_stay a f vs (map view_behavior (drop i bs)))) whole h (at_drop_all (λ xs. map (fill ss) (all_stay a f vs (map view_behavior xs))) bs i le)
