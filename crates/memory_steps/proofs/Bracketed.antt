-- Worlds of one epoch can be joined, and bracketed steps join no others.
use Rattle.std.proofs.Common.{◌≡◌, ◌≤◌, ℕ, zero, suc, ◌+◌, Bool, true, false, cond, ◌&&◌, ◌||◌, nat_eq, List, [], ◌∷◌, ◌++◌, Option, Some, None, refl, sym, ap, ap₂, ◌∙◌, subst, inl, inr, ⊎_elim, arith, le_trans, le_refl}
use Rattle.std.specs.Option.{option_map}
use Rattle.std.proofs.lemmas.Bool.Decides.{Decides-eqb}
use Rattle.qed_terms.specs.Tree.{not_of}
use Rattle.qed_terms.specs.Order.{same}
use Rattle.qed_terms.proofs.Total.{same_itself}
use Rattle.qed_terms.specs.Fresh.{Used, use_one, none_used}
use Rattle.walk_steps.specs.State.{at_or, In}
use Rattle.walk_steps.specs.Walk.{Goal, list_of}
use Rattle.walk_steps.proofs.Lists.{some_parts, none_some, in_either, map_in}
use Rattle.memory_steps.specs.State.{Base}
use Rattle.memory_steps.specs.Forms.{Mark, Slots}
use Rattle.memory_steps.specs.Step as s
use Rattle.memory_steps.specs.Step.{Step, count}
use Rattle.memory_steps.specs.World.{World, knows, restored, base_at, named, set_to, count_base, mark_base, marked, grown_world, made_world, ended_world}
use Rattle.memory_steps.specs.Renew.{renewed, used_by_renewed}
use Rattle.memory_steps.specs.Join.{same_mark, common, is_some_mark, join, used_by_join, joined, can_all_join, meet, can_meet}
use Rattle.memory_steps.specs.Walk.{Walked, stays, then_walk, on_worlds, both_arms, blocked, walk}
use Rattle.memory_steps.specs.Bracketed.{Behind, is_back, keeps_epochs, EpochsCompose}
use Rattle.memory_steps.specs.Laws.{start_mark, start_world, BracketedStepsMeet}
use Rattle.memory_steps.proofs.Trails.{both_parts}
use Rattle.memory_steps.proofs.Combining.{list_of_in, left_only}
use Rattle.memory_steps.proofs.Numbers.{differ}

-- ---- the first point of a trail

-- the trail begins with this point
abbrev Begins : Mark → List Mark → Type 0
Begins p [] = ⊥
Begins p (q ∷ qs) = q ≡ p

begins_more : (p : Mark) (ps qs : List Mark) → Begins p ps → Begins p (ps ++ qs)
begins_more p [] qs h = absurd h
begins_more p (q ∷ ps) qs h = h

number_itself : (x : ℕ) → nat_eq x x ≡ true
number_itself x = (Decides-eqb x x).1 refl

mark_itself : (p : Mark) → same_mark p p ≡ true
mark_itself p = ap₂ (λ x y. x && y) (number_itself p.number) (same_itself p.table)

common_begins : (p : Mark) (ps qs : List Mark) → Begins p ps → Begins p qs → Begins p (common ps qs)
common_begins p [] qs h k = absurd h
common_begins p (x ∷ ps) [] h k = absurd k
common_begins p (x ∷ ps) (y ∷ qs) h k =
    let e : same_mark x y ≡ true = ap₂ same_mark h k ∙ mark_itself p in subst (λ t. Begins p (cond t (x ∷ common ps qs) [])) (sym e) h

is_some : (p : Mark) (ps : List Mark) → Begins p ps → is_some_mark ps ≡ true
is_some p [] h = absurd h
is_some p (q ∷ ps) h = refl

both : {a b : Bool} → a ≡ true → b ≡ true → (a && b) ≡ true
both h k = ap₂ (λ x y. x && y) h k

or_second : (a b : Bool) → b ≡ true → (a || b) ≡ true
or_second true b h = refl
or_second false b h = h

-- ---- joins

-- the world is in the epoch that begins with this point
abbrev Within : Mark → World → Type 0
Within p w = Begins p w.slots.trail

module _ (bases : List Base) where
  joined_within : (p : Mark) (c : Used) (w : World) (vs : List World) → Within p w → ((v : World) → In v vs → Within p v)
      → (can_all_join bases c w vs ≡ true) × Within p (joined bases c w vs)
  joined_within p c w [] h k = (refl, h)
  joined_within p c w (v ∷ vs) h k =
      let j : Within p (join bases c w v) = common_begins p w.slots.trail v.slots.trail h (k v (inl refl)) in
      let r = joined_within p (used_by_join bases c w v) (join bases c w v) vs j (λ u i. k u (inr i)) in
      (both (or_second (same w.slots.table v.slots.table) _ (is_some p (common w.slots.trail v.slots.trail) j)) r.0, r.1)

  meet_within : (p : Mark) (c : Used) (ws : List World) → ((w : World) → In w ws → Within p w)
      → (can_meet bases c ws ≡ true) × ((w : World) → meet bases c ws ≡ Some w → Within p w)
  meet_within p c [] h = (refl, λ w e. absurd (none_some e))
  meet_within p c (v ∷ vs) h = let r = joined_within p c v vs (h v (inl refl)) (λ u i. h u (inr i)) in (r.0, λ w e. subst (Within p) (some_parts e) r.1)

-- ---- epochs

-- the first point of each epoch
abbrev Points : Type 0
Points = ℕ → Mark

-- the same for the epochs up to this number
abbrev SamePoints : ℕ → Points → Points → Type 0
SamePoints m ps qs = (x : ℕ) → x ≤ m → ps x ≡ qs x

abbrev AtMost : ℕ → List ℕ → Type 0
AtMost m [] = Unit {0}
AtMost m (x ∷ xs) = (x ≤ m) × AtMost m xs

-- the remembered slots are in these epochs
abbrev Levels : Points → List ℕ → List Slots → Type 0
Levels ps [] [] = Unit {0}
Levels ps [] (ss ∷ olds) = ⊥
Levels ps (x ∷ xs) [] = ⊥
Levels ps (x ∷ xs) (ss ∷ olds) = Begins (ps x) ss.trail × Levels ps xs olds

-- a world at an exit is in the epoch of its block
abbrev Out : Points → List ℕ → ℕ → World → Type 0
Out ps [] k w = Unit {0}
Out ps (x ∷ xs) zero w = Within (ps x) w
Out ps (x ∷ xs) (suc k) w = Out ps xs k w

most_more : {m n : ℕ} → m ≤ n → (xs : List ℕ) → AtMost m xs → AtMost n xs
most_more le [] h = tt
most_more le (x ∷ xs) h = (le_trans h.0 le, most_more le xs h.1)

most_at : (m x : ℕ) (xs : List ℕ) (l : ℕ) → x ≤ m → AtMost m xs → at_or x xs l ≤ m
most_at m x [] l le h = le
most_at m x (y ∷ xs) zero le h = h.0
most_at m x (y ∷ xs) (suc l) le h = most_at m x xs l le h.1

levels_kept : (m : ℕ) (ps qs : Points) → SamePoints m ps qs → (xs : List ℕ) (olds : List Slots) → AtMost m xs → Levels ps xs olds → Levels qs xs olds
levels_kept m ps qs e [] [] le h = tt
levels_kept m ps qs e [] (ss ∷ olds) le h = absurd h
levels_kept m ps qs e (x ∷ xs) [] le h = absurd h
levels_kept m ps qs e (x ∷ xs) (ss ∷ olds) le h = (subst (λ p. Begins p ss.trail) (e x le.0) h.0, levels_kept m ps qs e xs olds le.1 h.1)

level_at : (ps : Points) (x : ℕ) (xs : List ℕ) (ss : Slots) (olds : List Slots) (l : ℕ) → Begins (ps x) ss.trail → Levels ps xs olds → Begins (ps (at_or x xs l)) (at_or ss olds l).trail
level_at ps x [] ss [] l h k = h
level_at ps x [] ss (old ∷ olds) l h k = absurd k
level_at ps x (y ∷ xs) ss [] l h k = absurd k
level_at ps x (y ∷ xs) ss (old ∷ olds) zero h k = k.0
level_at ps x (y ∷ xs) ss (old ∷ olds) (suc l) h k = level_at ps x xs ss olds l h k.1

out_kept : (m : ℕ) (ps qs : Points) → SamePoints m ps qs → (xs : List ℕ) (k : ℕ) (w : World) → AtMost m xs → Out qs xs k w → Out ps xs k w
out_kept m ps qs e [] k w le h = tt
out_kept m ps qs e (x ∷ xs) zero w le h = subst (λ p. Within p w) (sym (e x le.0)) h
out_kept m ps qs e (x ∷ xs) (suc k) w le h = out_kept m ps qs e xs k w le.1 h

out_here : (ps : Points) (x : ℕ) (xs : List ℕ) (k : ℕ) (w : World) → at_or x xs k ≡ x → Within (ps x) w → Out ps xs k w
out_here ps x [] k w e h = tt
out_here ps x (y ∷ xs) zero w e h = subst (λ z. Within (ps z) w) (sym e) h
out_here ps x (y ∷ xs) (suc k) w e h = out_here ps x xs k w e h

-- with the first point of one more epoch
abbrev with_point : Points → ℕ → Mark → Points
with_point ps x p = λ y. cond (nat_eq y x) p (ps y)

point_there : (ps : Points) (x : ℕ) (p : Mark) → with_point ps x p x ≡ p
point_there ps x p = ap (λ t. cond t p (ps x)) (number_itself x)

points_kept : (ps : Points) (m : ℕ) (p : Mark) → SamePoints m ps (with_point ps (suc m) p)
points_kept ps m p y le = ap (λ t. cond t p (ps y)) (sym (differ y (suc m) (λ e. omega (arith, le, e))))

-- ---- walks

-- the world is in an epoch behind which all is so
record Ends (ps : Points) (newest : ℕ) (go : Behind) (w : World) : Type 0 where
  points : Points
  last : ℕ
  now : ℕ
  more : newest ≤ last
  most : now ≤ last
  kept : SamePoints newest ps points
  so : go last now ≡ true
  within : Within (points now) w

record Joins (ps : Points) (newest : ℕ) (blocks : List ℕ) (go : Behind) (r : Walked) : Type 0 where
  fits : r.fits ≡ true
  goes : (w : World) → r.end ≡ Some w → Ends ps newest go w
  left : (k : ℕ) (w : World) → In w (r.left k) → Out ps blocks k w

ends_here : (ps : Points) (m x : ℕ) (go : Behind) (w : World) → x ≤ m → go m x ≡ true → Within (ps x) w → Ends ps m go w
ends_here ps m x go w le h k = record { points = ps; last = m; now = x; more = le_refl m; most = le; kept = λ y le. refl; so = h; within = k }

ends_back : (ps : Points) (m x : ℕ) (w : World) → x ≤ m → Ends ps m (is_back x) w → Within (ps x) w
ends_back ps m x w le h =
    let e : h.now ≡ x = (Decides-eqb h.now x).0 h.so in subst (λ p. Within p w) (ap h.points e ∙ sym (h.kept x le)) h.within

ends_from : (ps : Points) (m : ℕ) (mid go : Behind) (v w : World) (h : Ends ps m mid v) → Ends h.points h.last go w → Ends ps m go w
ends_from ps m mid go v w h k = record {
  points = k.points;
  last = k.last;
  now = k.now;
  more = le_trans h.more k.more;
  most = k.most;
  kept = λ x le. h.kept x le ∙ k.kept x (le_trans le h.more);
  so = k.so;
  within = k.within;
}

stays_joins : (ps : Points) (m : ℕ) (bs : List ℕ) (go : Behind) (gs : List Goal) (c : Used) (w : World) → Ends ps m go w → Joins ps m bs go (stays gs c w)
stays_joins ps m bs go gs c w h = record { fits = refl; goes = λ v e. subst (Ends ps m go) (some_parts e) h; left = λ k v i. absurd i }

then_joins : (ps : Points) (m : ℕ) (bs : List ℕ) (mid go : Behind) → AtMost m bs → (r : Walked) (on : Used → World → Walked) (end : Option World) → r.end ≡ end → Joins ps m bs mid r
    → ((w : World) (h : Ends ps m mid w) → Joins h.points h.last bs go (on r.used w)) → Joins ps m bs go (then_walk r end on)
then_joins ps m bs mid go le r on None e h f = record { fits = h.fits; goes = λ v q. absurd (none_some (sym e ∙ q)); left = h.left }
then_joins ps m bs mid go le r on (Some w) e h f =
    let x = h.goes w e in
    let q = on r.used w in
    let y = f w x in
    record {
      fits = both h.fits y.fits;
      goes = λ v g. ends_from ps m mid go w v x (y.goes v g);
      left = λ k v i. ⊎_elim (λ j. h.left k v j) (λ j. out_kept m ps x.points x.kept bs k v le (y.left k v j)) (in_either v (r.left k) (q.left k) i);
    }

scope_joins : (ps : Points) (m : ℕ) (bs : List ℕ) (go : Behind) (is : List ℕ) (old : World) (r : Walked) → Joins ps m bs go r → Joins ps m bs go (on_worlds (restored is old) r)
scope_joins ps m bs go is old r h = record {
  fits = h.fits;
  goes = λ v e. by r.end refl v e;
  left = λ k v i. let x = map_in (restored is old) v (r.left k) i in subst (Out ps bs k) x.2 (same_out bs k x.0 (h.left k x.0 x.1));
}
  where
    same_ends : (u : World) → Ends ps m go u → Ends ps m go (restored is old u)
    same_ends u h = record { points = h.points; last = h.last; now = h.now; more = h.more; most = h.most; kept = h.kept; so = h.so; within = h.within }

    same_out : (xs : List ℕ) (k : ℕ) (u : World) → Out ps xs k u → Out ps xs k (restored is old u)
    same_out [] k u h = tt
    same_out (x ∷ xs) zero u h = h
    same_out (x ∷ xs) (suc k) u h = same_out xs k u h

    by : (x : Option World) → r.end ≡ x → (v : World) → option_map (restored is old) x ≡ Some v → Ends ps m go v
    by None q v e = absurd (none_some e)
    by (Some u) q v e = subst (Ends ps m go) (some_parts e) (same_ends u (h.goes u q))

module _ (bases : List Base) (ps : Points) (m x : ℕ) (bs : List ℕ) (go : Behind) (le : x ≤ m) (so : go m x ≡ true) where
  arms_join : (r q : Walked) → Joins ps m bs (is_back x) r → Joins ps m bs (is_back x) q → Joins ps m bs go (both_arms bases r q)
  arms_join r q h k =
      let ends : (w : World) → In w (list_of r.end ++ list_of q.end) → Within (ps x) w =
      λ w i.
      ⊎_elim (λ j. ends_back ps m x w le (h.goes w (list_of_in w r.end j))) (λ j. ends_back ps m x w le (k.goes w (list_of_in w q.end j)))
      (in_either w (list_of r.end) (list_of q.end) i)
      in
      let y = meet_within bases (ps x) q.used (list_of r.end ++ list_of q.end) ends in
      record {
        fits = both (both h.fits k.fits) y.0;
        goes = λ w e. ends_here ps m x go w le so (y.1 w e);
        left = λ l w i. ⊎_elim (λ j. h.left l w j) (λ j. k.left l w j) (in_either w (r.left l) (q.left l) i);
      }

  block_joins : (r : Walked) → Joins ps m (x ∷ bs) (is_back x) r → Joins ps m bs go (blocked bases r)
  block_joins r h =
      let ends : (w : World) → In w (r.left 0 ++ list_of r.end) → Within (ps x) w =
      λ w i. ⊎_elim (λ j. h.left 0 w j) (λ j. ends_back ps m x w le (h.goes w (list_of_in w r.end j))) (in_either w (r.left 0) (list_of r.end) i)
      in
      let y = meet_within bases (ps x) r.used (r.left 0 ++ list_of r.end) ends in
      record { fits = both h.fits y.0; goes = λ w e. ends_here ps m x go w le so (y.1 w e); left = λ l w i. h.left (suc l) w i }

module _ (bases : List Base) where
  walk_joins : (a : Step) (ls bs : List ℕ) (m x : ℕ) (go : Behind) → keeps_epochs ls bs a m x go ≡ true → (ps : Points) → x ≤ m → AtMost m ls → AtMost m bs → (olds : List Slots) → Levels ps ls olds
      → (n : ℕ) (c : Used) (w : World) → Within (ps x) w → Joins ps m bs go (walk bases olds n a c w)
  walk_joins s.skip ls bs m x go h ps le lm bm olds o n c w k = stays_joins ps m bs go [] c w (ends_here ps m x go w le h k)
  walk_joins s.halt ls bs m x go h ps le lm bm olds o n c w k = record { fits = refl; goes = λ v e. absurd (none_some e); left = λ l v i. absurd i }
  walk_joins (s.seq a b) ls bs m x go h ps le lm bm olds o n c w k =
      let r = walk bases olds n a c w in
      let mid : Behind = λ m y. keeps_epochs ls bs b m y go in
      then_joins ps m bs mid go bm r (walk bases olds (n + count a) b) r.end refl (walk_joins a ls bs m x mid h ps le lm bm olds o n c w k)
      (λ v e.
      walk_joins b ls bs e.last e.now go e.so e.points e.most (most_more e.more ls lm) (most_more e.more bs bm) olds (levels_kept m ps e.points e.kept ls olds lm o) (n + count a) r.used v e.within)
  walk_joins (s.ask cs) ls bs m x go h ps le lm bm olds o n c w k = stays_joins ps m bs go _ c _ (ends_here ps m x go _ le h k)
  walk_joins (s.know fs) ls bs m x go h ps le lm bm olds o n c w k = stays_joins ps m bs go [] c _ (ends_here ps m x go _ le h k)
  walk_joins (s.set i u) ls bs m x go h ps le lm bm olds o n c w k =
      let t = named (base_at bases i) c (u.written (w.slots ∷ olds)) in stays_joins ps m bs go [] t.used (set_to w i t) (ends_here ps m x go (set_to w i t) le h k)
  walk_joins (s.change cs) ls bs m x go h ps le lm bm olds o n c w k =
      stays_joins ps m bs go [] (used_by_renewed bases c cs w) (renewed bases olds c cs w) (ends_here ps m x go (renewed bases olds c cs w) le h k)
  walk_joins (s.choose f a b) ls bs m x go h ps le lm bm olds o n c w k =
      let g = f.written (w.slots ∷ olds) in
      let d = use_one c mark_base in
      let v = marked c w in
      let r = walk bases olds n a d (knows v (g ∷ [])) in
      let begins = begins_more (ps x) w.slots.trail _ k in
      let outer = both_parts (keeps_epochs ls bs a m x (is_back x) && keeps_epochs ls bs b m x (is_back x)) (go m x) h in
      let arms = both_parts (keeps_epochs ls bs a m x (is_back x)) (keeps_epochs ls bs b m x (is_back x)) outer.0 in
      arms_join bases ps m x bs go le outer.1 r (walk bases olds (n + count a) b r.used (knows v (not_of g ∷ [])))
      (walk_joins a ls bs m x (is_back x) arms.0 ps le lm bm olds o n d (knows v (g ∷ [])) begins)
      (walk_joins b ls bs m x (is_back x) arms.1 ps le lm bm olds o (n + count a) r.used (knows v (not_of g ∷ [])) begins)
  walk_joins (s.block a) ls bs m x go h ps le lm bm olds o n c w k =
      let parts = both_parts (keeps_epochs ls (x ∷ bs) a m x (is_back x)) (go m x) h in
      block_joins bases ps m x bs go le parts.1 (walk bases olds n a c w) (walk_joins a ls (x ∷ bs) m x (is_back x) parts.0 ps le lm (le, bm) olds o n c w k)
  walk_joins (s.exit l) ls bs m x go h ps le lm bm olds o n c w k = record {
    fits = refl;
    goes = λ v e. absurd (none_some e);
    left = λ j v i.
        let q = left_only l w j v i in
        subst (λ v. Out ps bs j v) (sym q.1) (subst (λ j. Out ps bs j w) q.0 (out_here ps x bs l w ((Decides-eqb (at_or x bs l) x).0 h) k));
  }
  walk_joins (s.scope is a) ls bs m x go h ps le lm bm olds o n c w k =
      scope_joins ps m bs go is w (walk bases olds n a c w) (walk_joins a ls bs m x go h ps le lm bm olds o n c w k)
  walk_joins (s.remember a) ls bs m x go h ps le lm bm olds o n c w k =
      let begins = begins_more (ps x) w.slots.trail _ k in
      walk_joins a (x ∷ ls) bs m x go h ps le (le, lm) bm ((marked c w).slots ∷ olds) (begins, o) n (use_one c mark_base) (marked c w) begins
  walk_joins s.grown ls bs m x go h ps le lm bm olds o n c w k =
      stays_joins ps m bs go [] (use_one c count_base.name) (grown_world c w) (ends_here ps m x go (grown_world c w) le h k)
  walk_joins (s.made i l) ls bs m x go h ps le lm bm olds o n c w k =
      let v = made_world c i l w in
      let p : Mark = record { number = suc (c mark_base); table = v.slots.table } in
      stays_joins ps m bs go [] (use_one c mark_base) v
      (record {
        points = with_point ps (suc m) p;
        last = suc m;
        now = suc m;
        more = omega (arith);
        most = le_refl (suc m);
        kept = points_kept ps m p;
        so = h;
        within = sym (point_there ps (suc m) p);
      })
  walk_joins (s.ended l) ls bs m x go h ps le lm bm olds o n c w k =
      let v = ended_world (at_or w.slots olds l) w in
      stays_joins ps m bs go [] c v (ends_here ps m (at_or x ls l) go v (most_at m x ls l le lm) h (level_at ps x ls w.slots olds l k o))

pub bracketed_steps_meet : BracketedStepsMeet
bracketed_steps_meet bases e a h =
    (walk_joins bases a [] [] zero zero (λ m x. true) h (λ x. start_mark) (le_refl 0) tt tt [] tt zero none_used (start_world bases e) refl).fits

-- ---- words

pub epochs_compose : EpochsCompose
epochs_compose = record {
  sequence = λ ls bs x y z a b h k m go so. h m (λ m y. keeps_epochs ls bs b m y go) (λ m. k m go so);
  choice = λ ls bs x f a b h k m go so. both (both (h m (is_back x) (λ m. number_itself x)) (k m (is_back x) (λ m. number_itself x))) (so m);
  inside = λ ls bs x a h m go so. both (h m (is_back x) (λ m. number_itself x)) (so m);
  out = λ ls bs x y k e m go so. (Decides-eqb (at_or x bs k) x).1 e;
  never = λ ls bs x y m go so. refl;
  scoped = λ ls bs x y is a h m go so. h m go so;
  remembered = λ ls bs x y a h m go so. h m go so;
  makes = λ ls bs x z i l b h m go so. h (suc m) (suc m) go so;
  ends = λ ls bs x l m go so. so m;
  whole = λ a h. h zero (λ m x. true) (λ m. refl);
}
