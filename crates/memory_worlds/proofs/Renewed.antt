-- Slots that change, in the words of the code.
use Rattle.std.proofs.Common.{◌≡◌, ◌≤◌, ℕ, pos, List, [], ◌∷◌, ◌++◌, map, drop, length, min, Option, ⊎_elim, refl, sym, ap, ◌∙◌, append_assoc}
use Rattle.std.proofs.lemmas.List.{at_drop_all}
use Rattle.qed_terms.specs.Fresh.{Used}
use Rattle.qed_terms.specs.Tree.{Tree, num, at_most, less}
use Rattle.memory_steps.specs.State.{Base}
use Rattle.memory_steps.specs.Forms.{Slots, written_facts}
use Rattle.memory_steps.specs.Step.{Change}
use Rattle.memory_steps.specs.World.{World, world, with_terms, count_of, pick, after_pick, after_picks, or_own, chosen}
use Rattle.memory_steps.specs.Renew.{is_renewed, renewals, facts_if, facts, renewed}
use Rattle.memory_worlds.specs.declared.renewals.Fact.{Fact}
use Rattle.memory_worlds.specs.Changes.{present_table, fact_tree, view_fact}
use Rattle.memory_worlds.proofs.Joined.{past}
use Rattle.memory_worlds.proofs.Pushing.{then_two}

-- ---- facts

pub block_facts : (ss : List Slots) (x u : Tree) (before mid after : List Tree) → present_table ss ≡ u → mid ≡ before ++ at_most (num (pos 0)) x ∷ [] → after ≡ mid ++ less x (count_of u) ∷ []
    → after ≡ before ++ at_most (num (pos 0)) x ∷ less x (count_of (present_table ss)) ∷ []
block_facts ss x u before mid after e h k = then_two before mid after (at_most (num (pos 0)) x) (less x (count_of u)) h k ∙ ap (λ t. before ++ at_most (num (pos 0)) x ∷ less x (count_of t) ∷ []) (sym e)

pub given_facts : (ss : List Slots) (x : Tree) (fs : List Fact) → map (λ f. fact_tree f x) fs ≡ written_facts ss (map view_fact fs) x
given_facts ss x [] = refl
given_facts ss x (f ∷ fs) = ap (λ ts. fact_tree f x ∷ ts) (given_facts ss x fs)

-- ---- one slot, and those to come

module _ (c d : Used) (b : Base) (bs rb : List Base) (ch : Change) (cs rc : List Change) (t : Tree) (ts rt : List Tree) (eb : rb ≡ b ∷ bs) (e : rc ≡ ch ∷ cs) (f : rt ≡ t ∷ ts)
    (u : d ≡ after_pick c b (pick c b (is_renewed ch t))) where
  abbrev name : Option Tree
  name = pick c b (is_renewed ch t)

  pub renewed_next : (before after : List Tree) (v : Tree) → v ≡ or_own name t → after ≡ before ++ v ∷ [] → after ++ chosen (renewals bs d cs ts) ts ≡ before ++ chosen (renewals rb c rc rt) rt
  renewed_next before after v h k =
      (λ i. k i ++ chosen (renewals bs (u i) cs ts) ts) ∙ append_assoc before (v ∷ []) _ ∙ ap (λ x. before ++ x ∷ chosen (renewals bs (after_pick c b name) cs ts) ts) h
      ∙ (λ i. before ++ chosen (renewals (sym eb i) c (sym e i) (sym f i)) (sym f i))

  pub facts_next : (ss : List Slots) (before after : List Tree) → after ≡ before ++ facts_if ss ch name t → after ++ facts ss cs (renewals bs d cs ts) ts ≡ before ++ facts ss rc (renewals rb c rc rt) rt
  facts_next ss before after k =
      (λ i. k i ++ facts ss cs (renewals bs (u i) cs ts) ts) ∙ append_assoc before (facts_if ss ch name t) _ ∙ (λ i. before ++ facts ss (sym e i) (renewals (sym eb i) c (sym e i) (sym f i)) (sym f i))

  pub renewals_next : after_picks bs (renewals bs d cs ts) d ≡ after_picks rb (renewals rb c rc rt) c
  renewals_next = (λ i. after_picks bs (renewals bs (u i) cs ts) (u i)) ∙ (λ i. after_picks (sym eb i) (renewals (sym eb i) c (sym e i) (sym f i)) c)

no_slot : (bs : List Base) (c : Used) (cs : List Change) → renewals bs c cs [] ≡ []
no_slot bs c [] = refl
no_slot [] c (ch ∷ cs) = refl
no_slot (b ∷ bs) c (ch ∷ cs) = refl

no_base : (c : Used) (cs : List Change) (ts : List Tree) → renewals [] c cs ts ≡ []
no_base c [] ts = refl
no_base c (ch ∷ cs) ts = refl

pub no_facts : (ss : List Slots) (cs : List Change) (ts : List Tree) → facts ss cs [] ts ≡ []
no_facts ss [] ts = refl
no_facts ss (ch ∷ cs) ts = refl

pub none_left : {X Y Z : Type 0} (v : Z → Base) (g : Y → Change) (f : X → Tree) (c : Used) (bs : List Z) (cs : List Y) (ts : List X) (i : ℕ) → min (length bs) (min (length cs) (length ts)) ≤ i
    → renewals (map v (drop i bs)) c (map g (drop i cs)) (map f (drop i ts)) ≡ []
none_left v g f c bs cs ts i h = ⊎_elim
    (λ k. at_drop_all (λ xs. renewals (map v xs) c (map g (drop i cs)) (map f (drop i ts))) bs i k ∙ no_base c (map g (drop i cs)) (map f (drop i ts)))
    (λ k. ⊎_elim
    (λ k. at_drop_all (λ xs. renewals (map v (drop i bs)) c (map g xs) (map f (drop i ts))) cs i k)
    (λ k. at_drop_all (λ xs. renewals (map v (drop i bs)) c (map g (drop i cs)) (map f xs)) ts i k ∙ no_slot (map v (drop i bs)) c (map g (drop i cs))) k)
    (past (length bs) (length cs) (length ts) i h)

pub renewed_so : (bs : List Base) (olds : List Slots) (c : Used) (cs : List Change) (w : World) (known terms : List Tree) → known ≡ w.known ++ facts (w.slots ∷ olds) cs (renewals bs c cs w.slots.terms) w.slots.terms
    → terms ≡ chosen (renewals bs c cs w.slots.terms) w.slots.terms → world known (with_terms w.slots terms) ≡ renewed bs olds c cs w
renewed_so bs olds c cs w known terms h k = λ i. world (h i) (with_terms w.slots (k i))
