-- Slots that change, in the words of the code.
use Rattle.std.proofs.Common.{◌≡◌, ◌≤◌, ℕ, List, [], ◌∷◌, ◌++◌, map, drop, length, min, Option, ⊎_elim, refl, sym, ap, ◌∙◌, append_assoc}
use Rattle.std.proofs.lemmas.List.{at_drop_all}
use Rattle.qed_terms.specs.Fresh.{Used}
use Rattle.qed_terms.specs.Tree.{Tree}
use Rattle.walk_steps.specs.Forms.{Slots}
use Rattle.walk_steps.specs.Step.{Change}
use Rattle.walk_steps.specs.World.{World, world, pick, after_pick, after_picks, or_own, chosen}
use Rattle.walk_steps.specs.Renew.{is_renewed, renewals, facts_if, facts, renewed}
use Rattle.walk_words.proofs.Joined.{past}

-- one slot, and those to come
module _ (c d : Used) (b : List ℕ) (bs rb : List (List ℕ)) (ch : Change) (cs rc : List Change) (t : Tree) (ts rt : Slots) (eb : rb ≡ b ∷ bs) (e : rc ≡ ch ∷ cs) (f : rt ≡ t ∷ ts)
    (u : d ≡ after_pick c b (pick c b (is_renewed ch t))) where
  abbrev name : Option Tree
  name = pick c b (is_renewed ch t)

  pub renewed_next : (before after : Slots) (v : Tree) → v ≡ or_own name t → after ≡ before ++ v ∷ [] → after ++ chosen (renewals bs d cs ts) ts ≡ before ++ chosen (renewals rb c rc rt) rt
  renewed_next before after v h k =
      (λ i. k i ++ chosen (renewals bs (u i) cs ts) ts) ∙ append_assoc before (v ∷ []) _ ∙ ap (λ x. before ++ x ∷ chosen (renewals bs (after_pick c b name) cs ts) ts) h
      ∙ (λ i. before ++ chosen (renewals (sym eb i) c (sym e i) (sym f i)) (sym f i))

  pub facts_next : (ss : List Slots) (before after : List Tree) → after ≡ before ++ facts_if ss ch name t → after ++ facts ss cs (renewals bs d cs ts) ts ≡ before ++ facts ss rc (renewals rb c rc rt) rt
  facts_next ss before after k =
      (λ i. k i ++ facts ss cs (renewals bs (u i) cs ts) ts) ∙ append_assoc before (facts_if ss ch name t) _ ∙ (λ i. before ++ facts ss (sym e i) (renewals (sym eb i) c (sym e i) (sym f i)) (sym f i))

  pub renewals_next : after_picks bs (renewals bs d cs ts) d ≡ after_picks rb (renewals rb c rc rt) c
  renewals_next = (λ i. after_picks bs (renewals bs (u i) cs ts) (u i)) ∙ (λ i. after_picks (sym eb i) (renewals (sym eb i) c (sym e i) (sym f i)) c)

no_slot : (bs : List (List ℕ)) (c : Used) (cs : List Change) → renewals bs c cs [] ≡ []
no_slot bs c [] = refl
no_slot [] c (ch ∷ cs) = refl
no_slot (b ∷ bs) c (ch ∷ cs) = refl

no_base : (c : Used) (cs : List Change) (ts : Slots) → renewals [] c cs ts ≡ []
no_base c [] ts = refl
no_base c (ch ∷ cs) ts = refl

pub no_facts : (ss : List Slots) (cs : List Change) (ts : Slots) → facts ss cs [] ts ≡ []
no_facts ss [] ts = refl
no_facts ss (ch ∷ cs) ts = refl

pub none_left : {X Y : Type 0} (f : X → Tree) (g : Y → Change) (c : Used) (bs : List (List ℕ)) (cs : List Y) (ts : List X) (i : ℕ) → min (length bs) (min (length cs) (length ts)) ≤ i
    → renewals (drop i bs) c (map g (drop i cs)) (map f (drop i ts)) ≡ []
none_left f g c bs cs ts i h = ⊎_elim
    (λ k. at_drop_all (λ xs. renewals xs c (map g (drop i cs)) (map f (drop i ts))) bs i k ∙ no_base c (map g (drop i cs)) (map f (drop i ts)))
    (λ k. ⊎_elim
    (λ k. at_drop_all (λ xs. renewals (drop i bs) c (map g xs) (map f (drop i ts))) cs i k)
    (λ k. at_drop_all (λ xs. renewals (drop i bs) c (map g (drop i cs)) (map f xs)) ts i k ∙ no_slot (drop i bs) c (map g (drop i cs))) k)
    (past (length bs) (length cs) (length ts) i h)

pub renewed_so : (bs : List (List ℕ)) (olds : List Slots) (c : Used) (cs : List Change) (w : World) (known slots : List Tree) → known ≡ w.known ++ facts (w.slots ∷ olds) cs (renewals bs c cs w.slots) w.slots
    → slots ≡ chosen (renewals bs c cs w.slots) w.slots → world known slots ≡ renewed bs olds c cs w
renewed_so bs olds c cs w known slots h k = λ i. world (h i) (k i)
