-- Where walks meet, in the words of the code.
use Rattle.std.proofs.Common.{◌≡◌, ◌<◌, ℕ, zero, suc, ◌+◌, List, [], ◌∷◌, ◌++◌, map, drop, length, get_or, Option, Some, None, refl, sym, ap, ◌∙◌, append_assoc, append-nil}
use Rattle.std.proofs.lemmas.List.{at_drop_more}
use Rattle.qed_terms.specs.Fresh.{Used}
use Rattle.walk_steps.specs.State.{at_or, put, restore}
use Rattle.walk_steps.specs.World.{World, restored}
use Rattle.walk_steps.specs.Join.{join, used_by_join}
use Rattle.walk_steps.specs.Walk.{left_by}
use Rattle.walk_words.specs.declared.ends.Exit.{Exit}
use Rattle.walk_words.specs.View.{exits_at, met_with, used_by_met_with, view_world}
use Rattle.walk_steps.proofs.Lists.{map_both}

-- ---- worlds as one

module _ (bs : List (List ℕ)) (c d : Used) (o : Option World) (f v w : World) (e : o ≡ Some f) (h : w ≡ join bs c f v) (k : d ≡ used_by_join bs c f v) where
  pub joins_next : (ws : List World) → met_with bs d (Some w) ws ≡ met_with bs c o (v ∷ ws)
  joins_next ws = (λ i. met_with bs (k i) (Some (h i)) ws) ∙ ap (λ o. met_with bs c o (v ∷ ws)) (sym e)

  pub joins_used : (ws : List World) → used_by_met_with bs d (Some w) ws ≡ used_by_met_with bs c o (v ∷ ws)
  joins_used ws = (λ i. used_by_met_with bs (k i) (Some (h i)) ws) ∙ ap (λ o. used_by_met_with bs c o (v ∷ ws)) (sym e)

-- nothing is to come
pub met_first : (bs : List (List ℕ)) (c : Used) (o : Option World) → met_with bs c o [] ≡ o
met_first bs c None = refl
met_first bs c (Some w) = refl

pub met_first_used : (bs : List (List ℕ)) (c : Used) (o : Option World) → used_by_met_with bs c o [] ≡ c
met_first_used bs c None = refl
met_first_used bs c (Some w) = refl

-- ---- exits

exits_both : (xs ys : List Exit) (k : ℕ) → exits_at (xs ++ ys) k ≡ exits_at xs k ++ exits_at ys k
exits_both [] ys k = refl
exits_both (x ∷ xs) ys k = ap (λ ws. left_by x.level (view_world x.world) k ++ ws) (exits_both xs ys k) ∙ sym (append_assoc (left_by x.level (view_world x.world) k) (exits_at xs k) (exits_at ys k))

pub one_exit : (xs : List Exit) (e : Exit) (k : ℕ) → exits_at (xs ++ e ∷ []) k ≡ exits_at xs k ++ left_by e.level (view_world e.world) k
one_exit xs e k = exits_both xs (e ∷ []) k ∙ ap (λ ws. exits_at xs k ++ ws) (append-nil (left_by e.level (view_world e.world) k))

-- one that ends here, one that goes further
pub here_next : (e : Exit) (rest : List Exit) → e.level ≡ 0 → exits_at (e ∷ rest) 0 ≡ view_world e.world ∷ exits_at rest 0
here_next e rest h = ap (λ l. left_by l (view_world e.world) 0 ++ exits_at rest 0) h

pub here_not_further : (e : Exit) (rest : List Exit) (k : ℕ) → e.level ≡ 0 → exits_at (e ∷ rest) (suc k) ≡ exits_at rest (suc k)
here_not_further e rest k h = ap (λ l. left_by l (view_world e.world) (suc k) ++ exits_at rest (suc k)) h

pub further_not_here : (e : Exit) (rest : List Exit) (l : ℕ) → e.level ≡ suc l → exits_at (e ∷ rest) 0 ≡ exits_at rest 0
further_not_here e rest l h = ap (λ l. left_by l (view_world e.world) 0 ++ exits_at rest 0) h

pub further_next : (e : Exit) (rest : List Exit) (l k : ℕ) → e.level ≡ suc l → exits_at (e ∷ rest) (suc k) ≡ left_by l (view_world e.world) k ++ exits_at rest (suc k)
further_next e rest l k h = ap (λ l. left_by l (view_world e.world) (suc k) ++ exits_at rest (suc k)) h

-- ---- scopes

pub put_back_next : {X : Type 0} (d : X) (places : List ℕ) (i p z : ℕ) (old new now : List X) → i < length places → p ≡ get_or places i z → now ≡ put new p (at_or d old p)
    → restore d (drop (i + 1) places) old now ≡ restore d (drop i places) old new
put_back_next d places i p z old new now lt e h =
    sym (at_drop_more (λ ps. restore d ps old new) places i z lt ∙ ap (λ q. restore d (drop (i + 1) places) old (put new q (at_or d old q))) (sym e) ∙ ap (restore d (drop (i + 1) places) old) (sym h))

map_restored : (is : List ℕ) (old : World) (l : ℕ) (w : World) (k : ℕ) → map (restored is old) (left_by l w k) ≡ left_by l (restored is old w) k
map_restored is old zero w zero = refl
map_restored is old zero w (suc k) = refl
map_restored is old (suc l) w zero = refl
map_restored is old (suc l) w (suc k) = map_restored is old l w k

pub restored_next : (is : List ℕ) (old : World) (e f : Exit) (rest now new : List Exit) (k : ℕ) → f.level ≡ e.level → view_world f.world ≡ restored is old (view_world e.world) → new ≡ now ++ f ∷ []
    → exits_at new k ++ map (restored is old) (exits_at rest k) ≡ exits_at now k ++ map (restored is old) (exits_at (e ∷ rest) k)
restored_next is old e f rest now new k l w h =
    (λ i. exits_at (h i) k ++ map (restored is old) (exits_at rest k)) ∙ ap (λ ws. ws ++ map (restored is old) (exits_at rest k)) (one_exit now f k)
    ∙ append_assoc (exits_at now k) (left_by f.level (view_world f.world) k) _
    ∙ (λ i. exits_at now k ++ (left_by (l i) (w i) k ++ map (restored is old) (exits_at rest k)))
    ∙ ap (λ ws. exits_at now k ++ (ws ++ map (restored is old) (exits_at rest k))) (sym (map_restored is old e.level (view_world e.world) k))
    ∙ ap (λ ws. exits_at now k ++ ws) (sym (map_both (restored is old) (left_by e.level (view_world e.world) k) (exits_at rest k)))
