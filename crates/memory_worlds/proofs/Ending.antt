-- Where walks meet, in the words of the code.
use Rattle.std.proofs.Common.{◌≡◌, ◌<◌, ◌≤◌, ℕ, zero, suc, ◌+◌, List, [], ◌∷◌, ◌++◌, map, drop, length, min, get_or, ⊎_elim, Option, Some, None, refl, sym, ap, ◌∙◌, append_assoc, append-nil}
use Rattle.std.proofs.lemmas.List.{at_drop_more, at_drop_all}
use Rattle.qed_terms.specs.Fresh.{Used}
use Rattle.qed_terms.specs.Tree.{Tree}
use Rattle.walk_steps.specs.State.{put}
use Rattle.walk_steps.proofs.Lists.{map_both}
use Rattle.memory_steps.specs.State.{Base}
use Rattle.memory_steps.specs.World.{World}
use Rattle.memory_steps.specs.Join.{join, used_by_join}
use Rattle.memory_steps.specs.Walk.{left_by}
use Rattle.memory_worlds.specs.declared.ends.Exit.{Exit}
use Rattle.memory_worlds.specs.Scopes.{put_all, with_saved}
use Rattle.memory_worlds.specs.View.{exits_at, met_with, used_by_met_with, view_world}
use Rattle.memory_worlds.proofs.Joined.{at_end}
use Rattle.memory_worlds.proofs.Pushing.{dropped}

-- ---- worlds as one

module _ (bs : List Base) (c d : Used) (o : Option World) (f v w : World) (e : o ≡ Some f) (h : w ≡ join bs c f v) (k : d ≡ used_by_join bs c f v) where
  pub joins_next : (ws : List World) → met_with bs d (Some w) ws ≡ met_with bs c o (v ∷ ws)
  joins_next ws = (λ i. met_with bs (k i) (Some (h i)) ws) ∙ ap (λ o. met_with bs c o (v ∷ ws)) (sym e)

  pub joins_used : (ws : List World) → used_by_met_with bs d (Some w) ws ≡ used_by_met_with bs c o (v ∷ ws)
  joins_used ws = (λ i. used_by_met_with bs (k i) (Some (h i)) ws) ∙ ap (λ o. used_by_met_with bs c o (v ∷ ws)) (sym e)

-- nothing is to come
pub met_first : (bs : List Base) (c : Used) (o : Option World) → met_with bs c o [] ≡ o
met_first bs c None = refl
met_first bs c (Some w) = refl

pub met_first_used : (bs : List Base) (c : Used) (o : Option World) → used_by_met_with bs c o [] ≡ c
met_first_used bs c None = refl
met_first_used bs c (Some w) = refl

-- ---- exits

exits_both : (xs ys : List Exit) (k : ℕ) → exits_at (xs ++ ys) k ≡ exits_at xs k ++ exits_at ys k
exits_both [] ys k = refl
exits_both (x ∷ xs) ys k = ap (λ ws. left_by x.level (view_world x.world) k ++ ws) (exits_both xs ys k) ∙ sym (append_assoc (left_by x.level (view_world x.world) k) (exits_at xs k) (exits_at ys k))

pub one_exit : (xs : List Exit) (e : Exit) (k : ℕ) → exits_at (xs ++ e ∷ []) k ≡ exits_at xs k ++ left_by e.level (view_world e.world) k
one_exit xs e k = exits_both xs (e ∷ []) k ∙ ap (λ ws. exits_at xs k ++ ws) (append-nil (left_by e.level (view_world e.world) k))

-- one that ends here, one that goes further
pub here_next : (e : Exit) (rest : List Exit) → e.level ≡ 0 → exits_at (e ∷ rest) 0 ≡ view_world e.world ∷ exits_at rest 0
here_next e rest h = ap (λ l. left_by l (view_world e.world) 0 ++ exits_at rest 0) h

pub here_not_further : (e : Exit) (rest : List Exit) (k : ℕ) → e.level ≡ 0 → exits_at (e ∷ rest) (suc k) ≡ exits_at rest (suc k)
here_not_further e rest k h = ap (λ l. left_by l (view_world e.world) (suc k) ++ exits_at rest (suc k)) h

pub further_not_here : (e : Exit) (rest : List Exit) (l : ℕ) → e.level ≡ suc l → exits_at (e ∷ rest) 0 ≡ exits_at rest 0
further_not_here e rest l h = ap (λ l. left_by l (view_world e.world) 0 ++ exits_at rest 0) h

pub further_next : (e : Exit) (rest : List Exit) (l k : ℕ) → e.level ≡ suc l → exits_at (e ∷ rest) (suc k) ≡ left_by l (view_world e.world) k ++ exits_at rest (suc k)
further_next e rest l k h = ap (λ l. left_by l (view_world e.world) (suc k) ++ exits_at rest (suc k)) h

-- ---- scopes

pub put_back_next : {X : Type 0} (f : X → Tree) (is : List ℕ) (i p z : ℕ) (saved : List X) (t : X) (ts now : List Tree) → i < length is → i < length saved → p ≡ get_or is i z → t ≡ get_or saved i t → now ≡ put ts p (f t)
    → put_all (drop (i + 1) is) (map f (drop (i + 1) saved)) now ≡ put_all (drop i is) (map f (drop i saved)) ts
put_back_next f is i p z saved t ts now lt lu e d h =
    let js = drop (i + 1) is in
    let us = map f (drop (i + 1) saved) in
    ap (put_all js us) (h ∙ ap (λ q. put ts q (f t)) e)
    ∙ sym (at_drop_more (λ ps. put_all ps (map f (drop i saved)) ts) is i z lt ∙ ap (λ vs. put_all (get_or is i z ∷ js) vs ts) (dropped f saved i t lu d))

no_saved : (is : List ℕ) (ts : List Tree) → put_all is [] ts ≡ ts
no_saved [] ts = refl
no_saved (i ∷ is) ts = refl

pub put_back_end : {X : Type 0} (f : X → Tree) (is : List ℕ) (saved : List X) (i : ℕ) (ts : List Tree) → min (length is) (length saved) ≤ i → put_all (drop i is) (map f (drop i saved)) ts ≡ ts
put_back_end f is saved i ts h = ⊎_elim
    (λ k. at_drop_all (λ ps. put_all ps (map f (drop i saved)) ts) is i k)
    (λ k. at_drop_all (λ xs. put_all (drop i is) (map f xs) ts) saved i k ∙ no_saved (drop i is) ts)
    (at_end (length is) (length saved) i h)

map_saved : (is : List ℕ) (saved : List Tree) (l : ℕ) (w : World) (k : ℕ) → map (with_saved is saved) (left_by l w k) ≡ left_by l (with_saved is saved w) k
map_saved is saved zero w zero = refl
map_saved is saved zero w (suc k) = refl
map_saved is saved (suc l) w zero = refl
map_saved is saved (suc l) w (suc k) = map_saved is saved l w k

pub saved_next : (is : List ℕ) (saved : List Tree) (e f : Exit) (rest now new : List Exit) (k : ℕ) → f.level ≡ e.level → view_world f.world ≡ with_saved is saved (view_world e.world) → new ≡ now ++ f ∷ []
    → exits_at new k ++ map (with_saved is saved) (exits_at rest k) ≡ exits_at now k ++ map (with_saved is saved) (exits_at (e ∷ rest) k)
saved_next is saved e f rest now new k l w h =
    (λ i. exits_at (h i) k ++ map (with_saved is saved) (exits_at rest k)) ∙ ap (λ ws. ws ++ map (with_saved is saved) (exits_at rest k)) (one_exit now f k)
    ∙ append_assoc (exits_at now k) (left_by f.level (view_world f.world) k) _
    ∙ (λ i. exits_at now k ++ (left_by (l i) (w i) k ++ map (with_saved is saved) (exits_at rest k)))
    ∙ ap (λ ws. exits_at now k ++ (ws ++ map (with_saved is saved) (exits_at rest k))) (sym (map_saved is saved e.level (view_world e.world) k))
    ∙ ap (λ ws. exits_at now k ++ ws) (sym (map_both (with_saved is saved) (left_by e.level (view_world e.world) k) (exits_at rest k)))
