-- There is one goal for each check that is walked, numbered in order.
use Rattle.std.proofs.Common.{◌≡◌, ℕ, zero, suc, ◌+◌, Bool, true, false, ◌&&◌, ◌||◌, nat_eq, List, [], ◌∷◌, ◌++◌, map, length, Option, Some, None, refl, sym, ap, ap₂, ◌∙◌, arith, suc-add, add-suc, zero-add, add-zero, append-nil}
use Rattle.std.specs.Option.{option_map}
use Rattle.std.proofs.lemmas.Bool.{false≢true}
use Rattle.std.proofs.lemmas.Bool.Decides.{Decides-eqb}
use Rattle.qed_terms.specs.Tree.{Tree, not_of}
use Rattle.qed_terms.specs.Fresh.{Used, use_one}
use Rattle.walk_steps.specs.Forms.{Place}
use Rattle.walk_steps.specs.Step.{where_so}
use Rattle.walk_steps.specs.Walk.{Goal, list_of}
use Rattle.walk_steps.specs.Laws.{from}
use Rattle.walk_steps.proofs.Lists.{map_both}
use Rattle.walk_steps.proofs.Numbers.{numbers}
use Rattle.memory_steps.specs.State.{Base}
use Rattle.memory_steps.specs.Forms.{Slots, Check}
use Rattle.memory_steps.specs.Step as s
use Rattle.memory_steps.specs.Step.{Step, goes, leaves_by, places, count}
use Rattle.memory_steps.specs.World.{World, knows, restored, mark_base, marked}
use Rattle.memory_steps.specs.Join.{meet}
use Rattle.memory_steps.specs.Walk.{Walked, asked, then_walk, left_by, walk}

from_both : (n k l : ℕ) → from n k ++ from (n + k) l ≡ from n (k + l)
from_both n zero l = ap (λ n. from n l) (add-zero n) ∙ ap (from n) (sym (zero-add l))
from_both n (suc k) l = ap (λ xs. n ∷ xs) (ap (λ m. from (suc n) k ++ from m l) (add-suc n k ∙ sym (suc-add n k)) ∙ from_both (suc n) k l) ∙ ap (from n) (sym (suc-add k l))

length_both : {X : Type 0} (xs ys : List X) → length xs + length ys ≡ length (xs ++ ys)
length_both [] ys = zero-add (length ys)
length_both (x ∷ xs) ys = suc-add (length xs) (length ys) ∙ ap suc (length_both xs ys)

abbrev goal_places : List Goal → List Place
goal_places gs = map (λ (g : Goal). g.place) gs

abbrev is_some : {X : Type 0} → Option X → Bool
is_some None = false
is_some (Some x) = true

abbrev is_any : {X : Type 0} → List X → Bool
is_any [] = false
is_any (x ∷ xs) = true

any_both : {X : Type 0} (xs ys : List X) → is_any (xs ++ ys) ≡ (is_any xs || is_any ys)
any_both [] ys = refl
any_both (x ∷ xs) ys = refl

any_map : {X Y : Type 0} (f : X → Y) (xs : List X) → is_any (map f xs) ≡ is_any xs
any_map f [] = refl
any_map f (x ∷ xs) = refl

any_list : {X : Type 0} (o : Option X) → is_any (list_of o) ≡ is_some o
any_list None = refl
any_list (Some x) = refl

some_map : {X Y : Type 0} (f : X → Y) (o : Option X) → is_some (option_map f o) ≡ is_some o
some_map f None = refl
some_map f (Some x) = refl

some_meet : (bases : List Base) (c : Used) (ws : List World) → is_some (meet bases c ws) ≡ is_any ws
some_meet bases c [] = refl
some_meet bases c (w ∷ ws) = refl

pub differ : (x y : ℕ) → (x ≡ y → ⊥) → nat_eq x y ≡ false
differ x y n = by (nat_eq x y) refl
  where
    by : (b : Bool) → nat_eq x y ≡ b → b ≡ false
    by true e = absurd (n ((Decides-eqb x y).0 e))
    by false e = refl

same_next : (l k : ℕ) (b : Bool) → nat_eq l k ≡ b → nat_eq l k ≡ nat_eq (suc l) (suc k)
same_next l k true e = e ∙ sym ((Decides-eqb (suc l) (suc k)).1 (ap suc ((Decides-eqb l k).0 e)))
same_next l k false e = e ∙ sym (differ (suc l) (suc k) (λ q. false≢true (sym e ∙ (Decides-eqb l k).1 (omega (arith, q)))))

left_any : (l : ℕ) (w : World) (k : ℕ) → is_any (left_by l w k) ≡ nat_eq l k
left_any zero w zero = refl
left_any zero w (suc k) = sym (differ 0 (suc k) (λ e. omega (arith, e)))
left_any (suc l) w zero = sym (differ (suc l) 0 (λ e. omega (arith, e)))
left_any (suc l) w (suc k) = left_any l w k ∙ same_next l k (nat_eq l k) refl

asked_numbers : (n : ℕ) (known : List Tree) (ss : List Slots) (cs : List Check) → numbers (asked n known ss cs) ≡ from n (length (map (λ (c : Check). c.place) cs))
asked_numbers n known ss [] = refl
asked_numbers n known ss (c ∷ cs) = ap (λ xs. n ∷ xs) (asked_numbers (suc n) (known ++ c.form.written ss ∷ []) ss cs)

asked_places : (n : ℕ) (known : List Tree) (ss : List Slots) (cs : List Check) → goal_places (asked n known ss cs) ≡ map (λ (c : Check). c.place) cs
asked_places n known ss [] = refl
asked_places n known ss (c ∷ cs) = ap (λ xs. c.place ∷ xs) (asked_places (suc n) (known ++ c.form.written ss ∷ []) ss cs)

pub record Numbered (n : ℕ) (a : Step) (r : Walked) : Type 0 where
  pub places : goal_places r.goals ≡ places a
  pub numbers : numbers r.goals ≡ from n (count a)
  goes : is_some r.end ≡ goes a
  left : (k : ℕ) → is_any (r.left k) ≡ leaves_by a k

or_false : (b : Bool) → (b || false) ≡ b
or_false true = refl
or_false false = refl

-- the goals of two walks, the second of which goes on where the first one ended
both_numbers : (n : ℕ) (gs hs : List Goal) (xs ys : List Place) → numbers gs ≡ from n (length xs) → numbers hs ≡ from (n + length xs) (length ys) → numbers (gs ++ hs) ≡ from n (length (xs ++ ys))
both_numbers n gs hs xs ys e f =
    map_both (λ (g : Goal). g.number) gs hs ∙ ap₂ (λ x y. x ++ y) e f ∙ from_both n (length xs) (length ys) ∙ ap (from n) (length_both xs ys)

both_places : (gs hs : List Goal) (xs ys : List Place) → goal_places gs ≡ xs → goal_places hs ≡ ys → goal_places (gs ++ hs) ≡ xs ++ ys
both_places gs hs xs ys e f = map_both (λ (g : Goal). g.place) gs hs ∙ ap₂ (λ x y. x ++ y) e f

seq_numbered : (n : ℕ) (a b : Step) (r : Walked) (go : Used → World → Walked) (e : Option World) → r.end ≡ e → Numbered n a r → ((c : Used) (w : World) → Numbered (n + count a) b (go c w)) → Numbered n (s.seq a b) (then_walk r e go)
seq_numbered n a b r go None e h f =
    let stop : false ≡ goes a = sym (ap is_some e) ∙ h.goes in
    let same : places a ≡ places a ++ where_so (goes a) (places b) = sym (append-nil (places a)) ∙ ap (λ t. places a ++ where_so t (places b)) stop in
    record {
      places = h.places ∙ same;
      numbers = h.numbers ∙ ap (λ ps. from n (length ps)) same;
      goes = ap is_some e ∙ ap (λ t. t && goes b) stop;
      left = λ k. h.left k ∙ sym (or_false (leaves_by a k)) ∙ ap (λ t. leaves_by a k || (t && leaves_by b k)) stop;
    }
seq_numbered n a b r go (Some w) e h f =
    let on : true ≡ goes a = sym (ap is_some e) ∙ h.goes in
    let q = go r.used w in
    let x = f r.used w in
    record {
      places = both_places r.goals q.goals (places a) (places b) h.places x.places ∙ ap (λ t. places a ++ where_so t (places b)) on;
      numbers = both_numbers n r.goals q.goals (places a) (places b) h.numbers x.numbers ∙ ap (λ t. from n (length (places a ++ where_so t (places b)))) on;
      goes = x.goes ∙ ap (λ t. t && goes b) on;
      left = λ k. any_both (r.left k) (q.left k) ∙ ap₂ (λ x y. x || y) (h.left k) (x.left k) ∙ ap (λ t. leaves_by a k || (t && leaves_by b k)) on;
    }

module _ (bases : List Base) where
  pub walk_numbered : (a : Step) (olds : List Slots) (n : ℕ) (c : Used) (w : World) → Numbered n a (walk bases olds n a c w)
  walk_numbered s.skip olds n c w = record { places = refl; numbers = refl; goes = refl; left = λ k. refl }
  walk_numbered s.halt olds n c w = record { places = refl; numbers = refl; goes = refl; left = λ k. refl }
  walk_numbered (s.seq a b) olds n c w =
      let r = walk bases olds n a c w in
      seq_numbered n a b r (walk bases olds (n + count a) b) r.end refl (walk_numbered a olds n c w) (λ c w. walk_numbered b olds (n + count a) c w)
  walk_numbered (s.ask cs) olds n c w =
      record { places = asked_places n w.known (w.slots ∷ olds) cs; numbers = asked_numbers n w.known (w.slots ∷ olds) cs; goes = refl; left = λ k. refl }
  walk_numbered (s.know fs) olds n c w = record { places = refl; numbers = refl; goes = refl; left = λ k. refl }
  walk_numbered (s.set i u) olds n c w = record { places = refl; numbers = refl; goes = refl; left = λ k. refl }
  walk_numbered (s.change cs) olds n c w = record { places = refl; numbers = refl; goes = refl; left = λ k. refl }
  walk_numbered (s.choose f a b) olds n c w =
      let g = f.written (w.slots ∷ olds) in
      let d = use_one c mark_base in
      let v = marked c w in
      let r = walk bases olds n a d (knows v (g ∷ [])) in
      let q = walk bases olds (n + count a) b r.used (knows v (not_of g ∷ [])) in
      let x = walk_numbered a olds n d (knows v (g ∷ [])) in
      let y = walk_numbered b olds (n + count a) r.used (knows v (not_of g ∷ [])) in
      record {
        places = both_places r.goals q.goals (places a) (places b) x.places y.places;
        numbers = both_numbers n r.goals q.goals (places a) (places b) x.numbers y.numbers;
        goes = some_meet bases q.used (list_of r.end ++ list_of q.end) ∙ any_both (list_of r.end) (list_of q.end) ∙ ap₂ (λ u v. u || v) (any_list r.end ∙ x.goes) (any_list q.end ∙ y.goes);
        left = λ k. any_both (r.left k) (q.left k) ∙ ap₂ (λ u v. u || v) (x.left k) (y.left k);
      }
  walk_numbered (s.block a) olds n c w =
      let r = walk bases olds n a c w in
      let x = walk_numbered a olds n c w in
      record {
        places = x.places;
        numbers = x.numbers;
        goes = some_meet bases r.used (r.left 0 ++ list_of r.end) ∙ any_both (r.left 0) (list_of r.end) ∙ ap₂ (λ u v. u || v) (x.left 0) (any_list r.end ∙ x.goes);
        left = λ k. x.left (suc k);
      }
  walk_numbered (s.exit l) olds n c w = record { places = refl; numbers = refl; goes = refl; left = left_any l w }
  walk_numbered (s.scope is a) olds n c w =
      let r = walk bases olds n a c w in
      let x = walk_numbered a olds n c w in
      record { places = x.places; numbers = x.numbers; goes = some_map (restored is w) r.end ∙ x.goes; left = λ k. any_map (restored is w) (r.left k) ∙ x.left k }
  walk_numbered (s.remember a) olds n c w =
      let x = walk_numbered a ((marked c w).slots ∷ olds) n (use_one c mark_base) (marked c w) in record { places = x.places; numbers = x.numbers; goes = x.goes; left = x.left }
  walk_numbered s.grown olds n c w = record { places = refl; numbers = refl; goes = refl; left = λ k. refl }
  walk_numbered (s.made i l) olds n c w = record { places = refl; numbers = refl; goes = refl; left = λ k. refl }
  walk_numbered (s.ended l) olds n c w = record { places = refl; numbers = refl; goes = refl; left = λ k. refl }
