-- Where arms meet, in the words of the code.
use Rattle.std.proofs.Common.{◌≡◌, ℕ, zero, suc, Bool, true, false, cond, List, [], ◌∷◌, ◌++◌, map, drop, length, Option, Some, None, refl, sym, ap, ap₂, ◌∙◌, subst, append_assoc}
use Rattle.qed_terms.proofs.Total.{same_itself}
use Rattle.qed_terms.specs.Fresh.{Used}
use Rattle.qed_terms.specs.Tree.{Tree, or_of}
use Rattle.qed_terms.specs.View.{formula_tree}
use Rattle.walk_steps.specs.Join.{Split, split, in_front, all_of}
use Rattle.memory_steps.specs.State.{Base}
use Rattle.memory_steps.specs.Forms.{Slots, slots_of}
use Rattle.memory_steps.specs.World.{World, world, chosen}
use Rattle.memory_steps.specs.Join.{picks, common, last_table, count_at, side_links, table_with, join, used_by_join, meet, used_by_meet}
use Rattle.walk_steps.specs.Walk.{list_of}
use Rattle.memory_worlds.specs.View.{view_slots}
use Rattle.memory_walks.specs.declared.arms.Arm.{Arm}
use Rattle.memory_walks.specs.Walks.{Held, Begins, EndsAs}
use Rattle.memory_walks.specs.Ways.{IsArm, Meets, BlockEnds, first_alone, arms_joined}
use Rattle.memory_walks.proofs.Begun.{begins_is, begins_more}

-- ---- joins behind what is known on both sides

split_behind : (k a b : List Tree) → split (k ++ a) (k ++ b) ≡ record { front = k ++ (split a b).front; left = (split a b).left; right = (split a b).right }
split_behind [] a b = refl
split_behind (f ∷ k) a b =
    (λ i. cond (same_itself f i) (in_front f (split (k ++ a) (k ++ b))) (record { front = []; left = f ∷ k ++ a; right = f ∷ k ++ b })) ∙ ap (in_front f) (split_behind k a b)

module _ (bs : List Base) where
  pub join_behind : (c : Used) (k a b : List Tree) (ss ts : Slots)
      → join bs c (world (k ++ a) ss) (world (k ++ b) ts) ≡ world (k ++ (join bs c (world a ss) (world b ts)).known) (join bs c (world a ss) (world b ts)).slots
  join_behind c k a b ss ts =
      let w = world a ss in
      let v = world b ts in
      let ps = picks bs c ss.terms ts.terms in
      let p = count_at bs c w v in
      let trail = common ss.trail ts.trail in
      let slots = slots_of (chosen ps ss.terms) (table_with p ss.table (last_table ss.table trail)) trail in
      let s = split a b in
      ap (λ (s : Split). world (s.front ++ or_of (all_of (s.left ++ side_links bs ps p ss) ∷ all_of (s.right ++ side_links bs ps p ts) ∷ []) ∷ []) slots) (split_behind k a b)
      ∙ ap (λ fs. world fs slots) (append_assoc k s.front _)

  -- ---- where two arms meet

  pub second_alone : (p : Held) (first : Bool) (w : World) (second : Bool) (r : Held) → first ≡ false → Begins p.world.known r.world.known → Meets bs p first w second r r second
  second_alone p first w second r n h = record { olds = refl; left = refl; front = h; end = λ e e' a b. by e (gone e a) second e' b; used = λ e e' a b. names e (gone e a) second e' b }
    where
      gone : (e : Option World) → EndsAs first w e → EndsAs false w e
      gone e a = subst (λ b. EndsAs b w e) n a

      by : (e : Option World) → EndsAs false w e → (b : Bool) → (e' : Option World) → EndsAs b r.world e' → EndsAs b r.world (meet bs r.used (list_of e ++ list_of e'))
      by (Some x) a b e' k = absurd a
      by None a b None k = k
      by None a b (Some x) k = k

      names : (e : Option World) → EndsAs false w e → (b : Bool) → (e' : Option World) → EndsAs b r.world e' → r.used ≡ used_by_meet bs r.used (list_of e ++ list_of e')
      names (Some x) a b e' k = absurd a
      names None a b None k = refl
      names None a b (Some x) k = refl

  pub first_meets : (p : Held) (arm : Arm) (first : Bool) (w : World) (second : Bool) (r x : Held) → first ≡ true → second ≡ false → IsArm arm p w → x ≡ first_alone p arm r → Meets bs p first w second r x true
  first_meets p arm first w second r x so n a e =
      subst (λ (x : Held). Meets bs p first w second r x true) (sym e)
      record { olds = refl; left = refl; front = begins_more p.world.known _; end = λ e e' h k. by e (subst (λ b. EndsAs b w e) so h) e' (subst (λ b. EndsAs b r.world e') n k); used = λ e e' h k. names e (subst (λ b. EndsAs b w e) so h) e' (subst (λ b. EndsAs b r.world e') n k) }
    where
      by : (e : Option World) → EndsAs true w e → (e' : Option World) → EndsAs false r.world e' → EndsAs true (first_alone p arm r).world (meet bs r.used (list_of e ++ list_of e'))
      by None h e' k = absurd h
      by (Some y) h (Some z) k = absurd k
      by (Some y) h None k = sym a.world ∙ h

      names : (e : Option World) → EndsAs true w e → (e' : Option World) → EndsAs false r.world e' → r.used ≡ used_by_meet bs r.used (list_of e ++ list_of e')
      names None h e' k = absurd h
      names (Some y) h (Some z) k = absurd k
      names (Some y) h None k = refl

  pub both_meet : (p : Held) (arm : Arm) (first : Bool) (w : World) (second : Bool) (r x : Held) → first ≡ true → second ≡ true → IsArm arm p w → Begins p.world.known r.world.known → x ≡ arms_joined bs p arm r
      → Meets bs p first w second r x true
  both_meet p arm first w second r x so so' a front e =
      subst (λ (x : Held). Meets bs p first w second r x true) (sym e)
      record { olds = refl; left = refl; front = begins_more p.world.known _; end = λ e e' h k. by e (subst (λ b. EndsAs b w e) so h) e' (subst (λ b. EndsAs b r.world e') so' k); used = λ e e' h k. names e (subst (λ b. EndsAs b w e) so h) e' (subst (λ b. EndsAs b r.world e') so' k) }
    where
      met : (y z : World) → w ≡ y → r.world ≡ z → world (p.world.known ++ (join bs r.used (world (map formula_tree arm.known.items) (view_slots arm.slots)) (world (drop (length p.world.known) r.world.known) r.world.slots)).known) (join bs r.used (world (map formula_tree arm.known.items) (view_slots arm.slots)) (world (drop (length p.world.known) r.world.known) r.world.slots)).slots ≡ join bs r.used y z
      met y z h g =
          sym (join_behind r.used p.world.known (map formula_tree arm.known.items) (drop (length p.world.known) r.world.known) (view_slots arm.slots) r.world.slots)
          ∙ (λ i. join bs r.used (sym a.world i) (world (sym (begins_is p.world.known r.world.known front) i) r.world.slots))
          ∙ ap₂ (join bs r.used) h g

      by : (e : Option World) → EndsAs true w e → (e' : Option World) → EndsAs true r.world e' → EndsAs true (arms_joined bs p arm r).world (meet bs r.used (list_of e ++ list_of e'))
      by None h e' g = absurd h
      by (Some y) h None g = absurd g
      by (Some y) h (Some z) g = met y z h g

      names : (e : Option World) → EndsAs true w e → (e' : Option World) → EndsAs true r.world e' → (arms_joined bs p arm r).used ≡ used_by_meet bs r.used (list_of e ++ list_of e')
      names None h e' g = absurd h
      names (Some y) h None g = absurd g
      names (Some y) h (Some z) g = ap₂ (used_by_join bs r.used) (sym a.world ∙ h) g

  -- ---- where a block ends

  abbrev IsNone : Option World → Type 0
  IsNone None = Unit {0}
  IsNone (Some x) = ⊥

  never : (c : Used) (vs : List World) (w : World) (ws : List World) → ws ≡ vs ++ w ∷ [] → None ≡ meet bs c ws → ⊥
  never c [] w ws e n = subst IsNone (n ∙ ap (meet bs c) e) tt
  never c (v ∷ vs) w ws e n = subst IsNone (n ∙ ap (meet bs c) e) tt

  module _ (outer : ℕ → List World) (goes : Bool) (q r : Held) (ws : List World) (ends : (e : Option World) → EndsAs goes q.world e → ws ≡ q.left zero ++ list_of e)
      (used : r.used ≡ used_by_meet bs q.used ws) (olds : r.olds ≡ q.olds) (left : (k : ℕ) → r.left k ≡ outer k ++ q.left (suc k)) where
    pub block_goes : Some r.world ≡ meet bs q.used ws → BlockEnds bs outer goes q r true
    block_goes h = record {
      olds = olds;
      left = left;
      kept = λ e. absurd cc;
      end = λ e k. subst (EndsAs true r.world) (h ∙ ap (meet bs q.used) (ends e k)) refl;
      used = λ e k. used ∙ ap (used_by_meet bs q.used) (ends e k);
    }

    pub block_stops : None ≡ meet bs q.used ws → (goes ≡ false → r.world ≡ q.world) → BlockEnds bs outer goes q r false
    block_stops h kept = record {
      olds = olds;
      left = left;
      kept = λ e. kept (by goes ends);
      end = λ e k. subst (EndsAs false r.world) (h ∙ ap (meet bs q.used) (ends e k)) tt;
      used = λ e k. used ∙ ap (used_by_meet bs q.used) (ends e k);
    }
      where
        by : (b : Bool) → ((e : Option World) → EndsAs b q.world e → ws ≡ q.left zero ++ list_of e) → b ≡ false
        by false f = refl
        by true f = absurd (never q.used (q.left zero) q.world ws (f (Some q.world) refl) h)
