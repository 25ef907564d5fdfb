-- What was known before a step is at the front of what is known at its ends.
use Rattle.std.proofs.Common.{◌≡◌, ℕ, zero, suc, ◌+◌, List, [], ◌∷◌, ◌++◌, map, drop, length, true, Option, Some, None, refl, sym, ◌∙◌, subst}
use Rattle.std.specs.Option.{option_map}
use Rattle.qed_terms.specs.Fresh.{Used, use_one}
use Rattle.qed_terms.specs.Tree.{Tree, not_of}
use Rattle.walk_steps.specs.Walk.{list_of}
use Rattle.memory_steps.specs.State.{Base}
use Rattle.memory_steps.specs.Forms.{Slots}
use Rattle.memory_steps.specs.Step as steps
use Rattle.memory_steps.specs.Step.{Step, count}
use Rattle.memory_steps.specs.World.{World, world, knows, restored, mark_base, marked}
use Rattle.memory_steps.specs.Join.{join, used_by_join, joined, meet}
use Rattle.memory_steps.specs.Walk.{Walked, then_walk, left_by, walk}
use Rattle.memory_walks.specs.Walks.{Begins, EndsAs}
use Rattle.memory_walks.proofs.Begun.{begins_is, begins_itself, begins_more, begins_trans}
use Rattle.memory_walks.proofs.Meeting.{join_behind}

join_begins : (bs : List Base) (c : Used) (k : List Tree) (w v : World) → Begins k w.known → Begins k v.known → Begins k (join bs c w v).known
join_begins bs c k w v h g =
    let a = drop (length k) w.known in
    let b = drop (length k) v.known in
    let same : join bs c w v ≡ world (k ++ (join bs c (world a w.slots) (world b v.slots)).known) (join bs c (world a w.slots) (world b v.slots)).slots =
    (λ i. join bs c (world (begins_is k w.known h i) w.slots) (world (begins_is k v.known g i) v.slots)) ∙ join_behind bs c k a b w.slots v.slots in
    subst (λ (x : World). Begins k x.known) (sym same) (begins_more k _)

abbrev AllBegin : List Tree → List World → Type 0
AllBegin k [] = Unit {0}
AllBegin k (w ∷ ws) = Begins k w.known × AllBegin k ws

all_both : (k : List Tree) (ws vs : List World) → AllBegin k ws → AllBegin k vs → AllBegin k (ws ++ vs)
all_both k [] vs h g = g
all_both k (w ∷ ws) vs h g = (h.0, all_both k ws vs h.1 g)

joined_begins : (bs : List Base) (k : List Tree) (vs : List World) (c : Used) (w : World) → Begins k w.known → AllBegin k vs → Begins k (joined bs c w vs).known
joined_begins bs k [] c w h g = h
joined_begins bs k (v ∷ vs) c w h g = joined_begins bs k vs (used_by_join bs c w v) (join bs c w v) (join_begins bs c k w v h g.0) g.1

abbrev EndBegins : List Tree → Option World → Type 0
EndBegins k None = Unit {0}
EndBegins k (Some w) = Begins k w.known

meet_begins : (bs : List Base) (k : List Tree) (c : Used) (ws : List World) → AllBegin k ws → EndBegins k (meet bs c ws)
meet_begins bs k c [] h = tt
meet_begins bs k c (w ∷ ws) h = joined_begins bs k ws c w h.0 h.1

one_begins : (k : List Tree) (o : Option World) → EndBegins k o → AllBegin k (list_of o)
one_begins k None h = tt
one_begins k (Some w) h = (h, tt)

record Fine (k : List Tree) (r : Walked) : Type 0 where
  end : EndBegins k r.end
  left : (j : ℕ) → AllBegin k (r.left j)

longer_end : (k k' : List Tree) → Begins k k' → (o : Option World) → EndBegins k' o → EndBegins k o
longer_end k k' b None h = tt
longer_end k k' b (Some w) h = begins_trans k k' w.known b h

longer_all : (k k' : List Tree) → Begins k k' → (ws : List World) → AllBegin k' ws → AllBegin k ws
longer_all k k' b [] h = tt
longer_all k k' b (w ∷ ws) h = (begins_trans k k' w.known b h.0, longer_all k k' b ws h.1)

longer : (k k' : List Tree) → Begins k k' → (r : Walked) → Fine k' r → Fine k r
longer k k' b r h = record { end = longer_end k k' b r.end h.end; left = λ j. longer_all k k' b (r.left j) (h.left j) }

then_fine : (k : List Tree) (r : Walked) (o : Option World) (go : Used → World → Walked) → Fine k r → ((v : World) → o ≡ Some v → Fine k (go r.used v)) → Fine k (then_walk r o go)
then_fine k r None go h f = h
then_fine k r (Some v) go h f = let s = f v refl in record { end = s.end; left = λ j. all_both k (r.left j) ((go r.used v).left j) (h.left j) (s.left j) }

exit_begins : (l : ℕ) (w : World) (j : ℕ) → AllBegin w.known (left_by l w j)
exit_begins zero w zero = (begins_itself w.known, tt)
exit_begins zero w (suc j) = tt
exit_begins (suc l) w zero = tt
exit_begins (suc l) w (suc j) = exit_begins l w j

restored_all : (k : List Tree) (is : List ℕ) (old : World) (ws : List World) → AllBegin k ws → AllBegin k (map (restored is old) ws)
restored_all k is old [] h = tt
restored_all k is old (w ∷ ws) h = (h.0, restored_all k is old ws h.1)

restored_end : (k : List Tree) (is : List ℕ) (old : World) (o : Option World) → EndBegins k o → EndBegins k (option_map (restored is old) o)
restored_end k is old None h = tt
restored_end k is old (Some w) h = h

module _ (bs : List Base) where
  walk_fine : (s : Step) (olds : List Slots) (n : ℕ) (c : Used) (w : World) → Fine w.known (walk bs olds n s c w)
  walk_fine steps.skip olds n c w = record { end = begins_itself w.known; left = λ j. tt }
  walk_fine steps.halt olds n c w = record { end = tt; left = λ j. tt }
  walk_fine (steps.seq a b) olds n c w =
      let r = walk bs olds n a c w in
      let h = walk_fine a olds n c w in
      let go = walk bs olds (n + count a) b in
      then_fine w.known r r.end go h (λ v e. longer w.known v.known (subst (EndBegins w.known) e h.end) (go r.used v) (walk_fine b olds (n + count a) r.used v))
  walk_fine (steps.ask fs) olds n c w = record { end = begins_more w.known _; left = λ j. tt }
  walk_fine (steps.know fs) olds n c w = record { end = begins_more w.known _; left = λ j. tt }
  walk_fine (steps.set i t) olds n c w = record { end = begins_more w.known _; left = λ j. tt }
  walk_fine (steps.change cs) olds n c w = record { end = begins_more w.known _; left = λ j. tt }
  walk_fine (steps.choose f a b) olds n c w =
      let g = f.written (w.slots ∷ olds) in
      let v = marked c w in
      let d = use_one c mark_base in
      let r = walk bs olds n a d (knows v (g ∷ [])) in
      let q = walk bs olds (n + count a) b r.used (knows v (not_of g ∷ [])) in
      let h = longer w.known (w.known ++ g ∷ []) (begins_more w.known (g ∷ [])) r (walk_fine a olds n d (knows v (g ∷ []))) in
      let k = longer w.known (w.known ++ not_of g ∷ []) (begins_more w.known (not_of g ∷ [])) q (walk_fine b olds (n + count a) r.used (knows v (not_of g ∷ []))) in
      record {
        end = meet_begins bs w.known q.used (list_of r.end ++ list_of q.end) (all_both w.known (list_of r.end) (list_of q.end) (one_begins w.known r.end h.end) (one_begins w.known q.end k.end));
        left = λ j. all_both w.known (r.left j) (q.left j) (h.left j) (k.left j);
      }
  walk_fine (steps.block a) olds n c w =
      let r = walk bs olds n a c w in
      let h = walk_fine a olds n c w in
      record {
        end = meet_begins bs w.known r.used (r.left 0 ++ list_of r.end) (all_both w.known (r.left 0) (list_of r.end) (h.left 0) (one_begins w.known r.end h.end));
        left = λ j. h.left (suc j);
      }
  walk_fine (steps.exit l) olds n c w = record { end = tt; left = exit_begins l w }
  walk_fine (steps.scope is a) olds n c w =
      let r = walk bs olds n a c w in
      let h = walk_fine a olds n c w in
      record { end = restored_end w.known is w r.end h.end; left = λ j. restored_all w.known is w (r.left j) (h.left j) }
  walk_fine (steps.remember a) olds n c w = let v = marked c w in walk_fine a (v.slots ∷ olds) n (use_one c mark_base) v
  walk_fine steps.grown olds n c w = record { end = begins_more w.known _; left = λ j. tt }
  walk_fine (steps.made i l) olds n c w = record { end = begins_itself w.known; left = λ j. tt }
  walk_fine (steps.ended l) olds n c w = record { end = begins_itself w.known; left = λ j. tt }

  pub front_of : (olds : List Slots) (n : ℕ) (s : Step) (c : Used) (w v : World) → EndsAs true v (walk bs olds n s c w).end → Begins w.known v.known
  front_of olds n s c w v h = by (walk bs olds n s c w).end (walk_fine s olds n c w).end h
    where
      by : (o : Option World) → EndBegins w.known o → EndsAs true v o → Begins w.known v.known
      by None f e = absurd e
      by (Some x) f e = subst (λ (y : World). Begins w.known y.known) (sym e) f
