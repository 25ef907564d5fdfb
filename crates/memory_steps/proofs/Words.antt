-- Words come back to their epochs: what is made ends on each way out.
use Rattle.std.proofs.Common.{◌≡◌, ℕ, zero, suc, ◌+◌, true, false, List, [], ◌∷◌, refl, sym, ap, ◌∙◌, subst, suc-add, add-suc, zero-add, add-zero}
use Rattle.walk_steps.specs.State.{at_or}
use Rattle.memory_steps.specs.Step as s
use Rattle.memory_steps.specs.Step.{Step}
use Rattle.memory_steps.specs.Bracketed.{Comes}
use Rattle.memory_steps.specs.Words.{Around, blocked, level, leave_through, Making, made_then, AreEpochs, ExitsEnd, BracketsEnd, Word, does, leaves, both, chooses, blocks, scopes, remembers, brackets, steps, WordsAreBracketed}
use Rattle.memory_steps.proofs.Bracketed.{epochs_compose}

-- the rest of a list behind so many items
abbrev IsRest : ℕ → (all rest : List ℕ) → Type 0
IsRest n all rest = (x l : ℕ) → at_or x all (n + l) ≡ at_or x rest l

rest_more : (n y : ℕ) (all rest : List ℕ) → IsRest n all (y ∷ rest) → IsRest (suc n) all rest
rest_more n y all rest h x l = ap (at_or x all) (suc-add n l ∙ sym (add-suc n l)) ∙ h x (suc l)

leave_comes : (is : List Around) (x y : ℕ) (ls' bs' : List ℕ) → AreEpochs is x ls' bs' → (l k out : ℕ) (ls bs : List ℕ) → IsRest l ls ls' → ((z : ℕ) → at_or z bs out ≡ at_or z bs' k)
    → Comes ls bs x (leave_through is l k out) y
leave_comes [] x y ls' bs' f l k out ls bs t e = epochs_compose.out ls bs x y out (e x ∙ ap (λ bs. at_or x bs k) f.1)
leave_comes (blocked ∷ is) x y ls' [] f l k out ls bs t e = absurd f
leave_comes (blocked ∷ is) x y ls' (b ∷ bs') f l zero out ls bs t e = epochs_compose.out ls bs x y out (e x ∙ f.0)
leave_comes (blocked ∷ is) x y ls' (b ∷ bs') f l (suc k) out ls bs t e = leave_comes is x y ls' bs' f.1 l k out ls bs t e
leave_comes (level true ∷ is) x y [] bs' f l k out ls bs t e = absurd f
leave_comes (level false ∷ is) x y [] bs' f l k out ls bs t e = absurd f
leave_comes (level true ∷ is) x y (v ∷ ls') bs' f l k out ls bs t e =
    let there : at_or x ls l ≡ v = ap (at_or x ls) (sym (add-zero l)) ∙ t x 0 in
    epochs_compose.sequence ls bs x v y (s.ended l) (leave_through is (suc l) k out) (subst (Comes ls bs x (s.ended l)) there (epochs_compose.ends ls bs x l))
    (leave_comes is v y ls' bs' f (suc l) k out ls bs (rest_more l v ls ls' t) e)
leave_comes (level false ∷ is) x y (v ∷ ls') bs' f l k out ls bs t e = leave_comes is x y ls' bs' f.1 (suc l) k out ls bs (rest_more l v ls ls' t) e

pub exits_end : ExitsEnd
exits_end is ls bs x y k f = leave_comes is x y ls bs f 0 k k ls bs (λ z l. ap (at_or z ls) (zero-add l)) (λ z. refl)

-- what comes behind blocks that are made is so in whatever epoch
pub makes_then : (ls bs : List ℕ) (z : ℕ) (ps : List Making) (a : Step) → ((y : ℕ) → Comes ls bs y a z) → (x : ℕ) → Comes ls bs x (made_then ps a) z
makes_then ls bs z [] a h x = h x
makes_then ls bs z (p ∷ ps) a h x = epochs_compose.makes ls bs x z p.slot p.layout (made_then ps a) (makes_then ls bs z ps a h)

pub brackets_end : BracketsEnd
brackets_end ls bs x ps a h =
    let inner = s.seq a (s.ended 0) in
    epochs_compose.remembered ls bs x x (made_then ps inner)
    (makes_then (x ∷ ls) bs x ps inner (λ y. epochs_compose.sequence (x ∷ ls) bs y y x a (s.ended 0) (h y) (epochs_compose.ends (x ∷ ls) bs y 0)) x)

word_comes : (w : Word) (is : List Around) (x : ℕ) (ls bs : List ℕ) → AreEpochs is x ls bs → Comes ls bs x (steps is w) x
word_comes (does a h) is x ls bs f = h ls bs x
word_comes (leaves k) is x ls bs f = exits_end is ls bs x x k f
word_comes (both v w) is x ls bs f = epochs_compose.sequence ls bs x x x (steps is v) (steps is w) (word_comes v is x ls bs f) (word_comes w is x ls bs f)
word_comes (chooses p v w) is x ls bs f = epochs_compose.choice ls bs x p (steps is v) (steps is w) (word_comes v is x ls bs f) (word_comes w is x ls bs f)
word_comes (blocks w) is x ls bs f = epochs_compose.inside ls bs x (steps (blocked ∷ is) w) (word_comes w (blocked ∷ is) x ls (x ∷ bs) (refl, f))
word_comes (scopes js w) is x ls bs f = epochs_compose.scoped ls bs x x js (steps is w) (word_comes w is x ls bs f)
word_comes (remembers w) is x ls bs f = epochs_compose.remembered ls bs x x (steps (level false ∷ is) w) (word_comes w (level false ∷ is) x (x ∷ ls) bs (refl, f))
word_comes (brackets ps w) is x ls bs f = brackets_end ls bs x ps (steps (level true ∷ is) w) (λ y. word_comes w (level true ∷ is) y (x ∷ ls) bs f)

pub words_are_bracketed : WordsAreBracketed
words_are_bracketed w = epochs_compose.whole (steps [] w) (word_comes w [] 0 [] [] (refl, refl))
