-- Changes that are written alike, and slots that are put back.
use Rattle.std.proofs.Common.{◌≡◌, ℕ, suc, pos, Bool, true, false, List, [], ◌∷◌, ◌++◌, map, refl, ap, ap₂, ◌∙◌}
use Rattle.qed_terms.specs.Fresh.{Used, fresh_name}
use Rattle.qed_terms.specs.Tree.{Tree, num}
use Rattle.walk_steps.specs.State.{at_or, put, restore}
use Rattle.memory_steps.specs.State.{Base}
use Rattle.memory_steps.specs.Forms.{Slots}
use Rattle.memory_steps.specs.Step.{Change, keeps, fresh, raised}
use Rattle.memory_steps.specs.World.{World, world, with_terms, name_for, pick, after_pick, after_picks, chosen, restored}
use Rattle.memory_steps.specs.Renew.{is_renewed, renewals, facts_of, facts_if, facts}
use Rattle.memory_worlds.specs.Scopes.{saved_at, put_all, with_saved}
use Rattle.memory_walks.specs.Walks.{Held, states, now_changed}
use Rattle.memory_walks.specs.Alike.{IsAlike, AreAlike}
use Rattle.memory_walks.specs.Ways.{now_put_back}

-- ---- changes

renewed_alike : (ss : List Slots) (b : Base) (d c : Change) (t : Tree) → IsAlike ss b d c → is_renewed d t ≡ is_renewed c t
renewed_alike ss b keeps keeps t h = refl
renewed_alike ss b keeps (fresh gs) t h = absurd h
renewed_alike ss b keeps raised t h = absurd h
renewed_alike ss b (fresh fs) keeps t h = absurd h
renewed_alike ss b (fresh fs) (fresh gs) t h = refl
renewed_alike ss b (fresh fs) raised t h = absurd h
renewed_alike ss b raised keeps t h = absurd h
renewed_alike ss b raised (fresh gs) t h = absurd h
renewed_alike ss b raised raised t h = refl

facts_alike : (ss : List Slots) (b : Base) (d c : Change) (x : List ℕ) (t : Tree) → IsAlike ss b d c → facts_of ss d (name_for b.is_memory x) t ≡ facts_of ss c (name_for b.is_memory x) t
facts_alike ss b keeps keeps x t h = refl
facts_alike ss b keeps (fresh gs) x t h = absurd h
facts_alike ss b keeps raised x t h = absurd h
facts_alike ss b (fresh fs) keeps x t h = absurd h
facts_alike ss b (fresh fs) (fresh gs) x t h = h x
facts_alike ss b (fresh fs) raised x t h = absurd h
facts_alike ss b raised keeps x t h = absurd h
facts_alike ss b raised (fresh gs) x t h = absurd h
facts_alike ss b raised raised x t h = refl

picked_alike : (ss : List Slots) (b : Base) (u : Used) (d c : Change) (t : Tree) (r : Bool) → IsAlike ss b d c → facts_if ss d (pick u b r) t ≡ facts_if ss c (pick u b r) t
picked_alike ss b u d c t true h = facts_alike ss b d c (fresh_name b.name (suc (u b.name))) t h
picked_alike ss b u d c t false h = refl

renewals_alike : (ss : List Slots) (bs : List Base) (ds cs : List Change) → AreAlike ss bs ds cs → (u : Used) (ts : List Tree) → renewals bs u ds ts ≡ renewals bs u cs ts
renewals_alike ss bs [] [] h u ts = refl
renewals_alike ss bs [] (c ∷ cs) h u ts = absurd h
renewals_alike ss bs (d ∷ ds) [] h u ts = absurd h
renewals_alike ss [] (d ∷ ds) (c ∷ cs) h u ts = refl
renewals_alike ss (b ∷ bs) (d ∷ ds) (c ∷ cs) h u [] = refl
renewals_alike ss (b ∷ bs) (d ∷ ds) (c ∷ cs) h u (t ∷ ts) =
    ap (λ r. pick u b r ∷ renewals bs (after_pick u b (pick u b r)) ds ts) (renewed_alike ss b d c t h.0)
    ∙ ap (λ ps. pick u b (is_renewed c t) ∷ ps) (renewals_alike ss bs ds cs h.1 (after_pick u b (pick u b (is_renewed c t))) ts)

all_alike : (ss : List Slots) (bs : List Base) (ds cs : List Change) → AreAlike ss bs ds cs → (u : Used) (ts : List Tree)
    → facts ss ds (renewals bs u ds ts) ts ≡ facts ss cs (renewals bs u cs ts) ts
all_alike ss bs [] [] h u ts = refl
all_alike ss bs [] (c ∷ cs) h u ts = absurd h
all_alike ss bs (d ∷ ds) [] h u ts = absurd h
all_alike ss [] (d ∷ ds) (c ∷ cs) h u ts = refl
all_alike ss (b ∷ bs) (d ∷ ds) (c ∷ cs) h u [] = refl
all_alike ss (b ∷ bs) (d ∷ ds) (c ∷ cs) h u (t ∷ ts) =
    ap (λ r. facts_if ss d (pick u b r) t ++ facts ss ds (renewals bs (after_pick u b (pick u b r)) ds ts) ts) (renewed_alike ss b d c t h.0)
    ∙ ap₂ (λ x y. x ++ y) (picked_alike ss b u d c t (is_renewed c t) h.0) (all_alike ss bs ds cs h.1 (after_pick u b (pick u b (is_renewed c t))) ts)

pub changed_alike : (bs : List Base) (p : Held) (ds cs : List Change) → AreAlike (states p) bs ds cs → now_changed bs p ds ≡ now_changed bs p cs
changed_alike bs p ds cs h =
    let ts = p.world.slots.terms in
    let r = renewals_alike (states p) bs ds cs h p.used ts in
    let f = all_alike (states p) bs ds cs h p.used ts in
    λ i. record p { used = after_picks bs (r i) p.used; world = world (p.world.known ++ f i) (with_terms p.world.slots (chosen (r i) ts)) }

-- ---- scopes

restored_terms : (is : List ℕ) (old new : List Tree) → put_all is (saved_at is old) new ≡ restore (num (pos 0)) is old new
restored_terms [] old new = refl
restored_terms (i ∷ is) old new = restored_terms is old (put new i (at_or (num (pos 0)) old i))

restored_one : (is : List ℕ) (saved : List Tree) (old w : World) → saved ≡ saved_at is old.slots.terms → with_saved is saved w ≡ restored is old w
restored_one is saved old w e =
    ap (λ ts. with_saved is ts w) e ∙ ap (λ ts. world w.known (with_terms w.slots ts)) (restored_terms is old.slots.terms w.slots.terms)

restored_all : (is : List ℕ) (saved : List Tree) (old : World) (ws : List World) → saved ≡ saved_at is old.slots.terms → map (with_saved is saved) ws ≡ map (restored is old) ws
restored_all is saved old [] e = refl
restored_all is saved old (w ∷ ws) e = ap₂ (λ v vs. v ∷ vs) (restored_one is saved old w e) (restored_all is saved old ws e)

pub restored_so : (is : List ℕ) (saved : List Tree) (p q : Held) → saved ≡ saved_at is p.world.slots.terms
    → now_put_back is saved p.left q ≡ record q { world = restored is p.world q.world; left = λ k. p.left k ++ map (restored is p.world) (q.left k) }
restored_so is saved p q e =
    λ i. record q { world = restored_one is saved p.world q.world e i; left = λ k. p.left k ++ restored_all is saved p.world (q.left k) e i }
