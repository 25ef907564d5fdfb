-- What is kept adds up, statement by statement.
use Rattle.std.proofs.Common.{◌≡◌, ℕ, zero, suc, Bool, true, false, ◌||◌, List, refl, sym, ◌∙◌, subst, arith}
use Rattle.std.proofs.lemmas.Bool.{false≢true}
use Rattle.c_runs.specs.TruthStates.{Value}
use Rattle.c_runs.specs.Program.{Facts}
use Rattle.c_runs.specs.States.{Memory, Granted}
use Rattle.c_runs.specs.Claims.{may_change_local}
use Rattle.plain_states.specs.Told.{CoreWorld, Ending, goes_on, exits, returns, stopped, then_do, block_end}
use Rattle.plain_states.specs.Slots.{State, core_in}
use Rattle.plain_runs.specs.Fitting.{Shape, sizes, Fit}
use Rattle.plain_runs.specs.Kept.{may_change_global, IsScoped, Unchanged, KeptFile, Kept, Comes}

-- ---- tests

pub first_false : (a b : Bool) → (a || b) ≡ false → a ≡ false
first_false true b h = h
first_false false b h = refl

pub second_false : (a b : Bool) → (a || b) ≡ false → b ≡ false
second_false true b h = absurd (false≢true (sym h))
second_false false b h = h

module _ (p : Facts) (s : Shape) where
  -- ---- nothing is changed

  pub kept_none : (gs : List Granted) (t u f : ℕ → Bool) (st : State) → Fit p s st → IsScoped p s f st → Kept p s gs t u f st st
  kept_none gs t u f st fit scoped = record {
    fit = fit;
    globals = λ x l h. refl;
    allowed = λ x l h. (refl, refl);
    untouched = λ x l h. (refl, refl);
    rises = λ x l h. h;
    scoped = scoped;
    temporaries = λ n h. refl;
  }

  -- ---- one after the other

  both_unchanged : (st mid after : State) (x : ℕ) → Unchanged p s st mid x → Unchanged p s mid after x → Unchanged p s st after x
  both_unchanged st mid after x a b = (b.0 ∙ a.0, b.1 ∙ a.1)

  pub kept_then : (gs : List Granted) (t u f : ℕ → Bool) (st mid after : State) → Kept p s gs t u f st mid → Kept p s gs t u f mid after → Kept p s gs t u f st after
  kept_then gs t u f st mid after a b = record {
    fit = b.fit;
    globals = λ x l h. b.globals x l h ∙ a.globals x l h;
    allowed = λ x l h. both_unchanged st mid after x (a.allowed x l h) (b.allowed x l h);
    untouched = λ x l h. both_unchanged st mid after x (a.untouched x l h) (b.untouched x l h);
    rises = λ x l h. b.rises x l (a.rises x l h);
    scoped = b.scoped;
    temporaries = λ n h. b.temporaries n h ∙ a.temporaries n h;
  }

  -- where less is set, under more sets
  pub kept_more : (gs hs : List Granted) (t t' u u' f : ℕ → Bool) (st after : State)
      → ((x : ℕ) → may_change_global gs x ≡ false → may_change_global hs x ≡ false) → ((x : ℕ) → may_change_local p gs x ≡ false → may_change_local p hs x ≡ false)
      → ((x : ℕ) → t x ≡ false → t' x ≡ false) → ((n : ℕ) → u n ≡ false → u' n ≡ false) → Kept p s hs t' u' f st after → Kept p s gs t u f st after
  kept_more gs hs t t' u u' f st after g l a b k = record {
    fit = k.fit;
    globals = λ x le h. k.globals x le (g x h);
    allowed = λ x le h. k.allowed x le (l x h);
    untouched = λ x le h. k.untouched x le (a x h);
    rises = k.rises;
    scoped = k.scoped;
    temporaries = λ n h. k.temporaries n (b n h);
  }

  -- ---- variables of the file

  pub file_of : (gs : List Granted) (t u f : ℕ → Bool) (st after : State) → Kept p s gs t u f st after → KeptFile p s gs st after
  file_of gs t u f st after k = record { fit = k.fit.globals; flags = λ x l. k.fit.flags x (omega (arith, l)); same = k.globals }

  pub file_then : (gs : List Granted) (t u f : ℕ → Bool) (st mid after : State) → Kept p s gs t u f st mid → KeptFile p s gs mid after → KeptFile p s gs st after
  file_then gs t u f st mid after a b = record { fit = b.fit; flags = b.flags; same = λ x l h. b.same x l h ∙ a.globals x l h }

  pub file_more : (gs hs : List Granted) (st after : State) → ((x : ℕ) → may_change_global gs x ≡ false → may_change_global hs x ≡ false) → KeptFile p s hs st after → KeptFile p s gs st after
  file_more gs hs st after g k = record { fit = k.fit; flags = k.flags; same = λ x l h. k.same x l (g x h) }

  -- ---- ends of statements

  module _ (m : Memory) where
    pub comes_more : (K K' : State → Type 0) (R R' : Value → State → Type 0) → ((st : State) → K st → K' st) → ((v : Value) (st : State) → R v st → R' v st)
        → (o : Ending) → Comes p s m K R o → Comes p s m K' R' o
    comes_more K K' R R' f g (goes_on c) h = record { turns = h.turns; contents = h.contents; state = h.state; same = h.same; so = f h.state h.so }
    comes_more K K' R R' f g (exits k c) h = record { turns = h.turns; contents = h.contents; state = h.state; same = h.same; so = f h.state h.so }
    comes_more K K' R R' f g (returns v c) h = record { turns = h.turns; contents = h.contents; state = h.state; same = h.same; so = g v h.state h.so }
    comes_more K K' R R' f g (stopped e) h = tt

    pub comes_then : (K K' : State → Type 0) (R R' : Value → State → Type 0) (go : CoreWorld → Ending) → ((st : State) → K st → K' st) → ((v : Value) (st : State) → R v st → R' v st)
        → ((n : ℕ) (vs : List Value) (st : State) → K st → Comes p s m K' R' (go (core_in (sizes p s) m n vs st))) → (o : Ending) → Comes p s m K R o → Comes p s m K' R' (then_do o go)
    comes_then K K' R R' go f g next (goes_on c) h = subst (λ c. Comes p s m K' R' (go c)) (sym h.same) (next h.turns h.contents h.state h.so)
    comes_then K K' R R' go f g next (exits k c) h = comes_more K K' R R' f g (exits k c) h
    comes_then K K' R R' go f g next (returns v c) h = comes_more K K' R R' f g (returns v c) h
    comes_then K K' R R' go f g next (stopped e) h = tt

    pub block_comes : (K : State → Type 0) (R : Value → State → Type 0) (o : Ending) → Comes p s m K R o → Comes p s m K R (block_end o)
    block_comes K R (goes_on c) h = h
    block_comes K R (exits zero c) h = h
    block_comes K R (exits (suc k) c) h = h
    block_comes K R (returns v c) h = h
    block_comes K R (stopped e) h = tt
