-- Steps that end the blocks that they make, so that all worlds which meet can be joined.
-- An epoch begins at the start and behind each block that is made; `ended` goes back to the epoch of its level. Worlds of one epoch have passed its first
-- point, so they can be joined. Epochs have numbers.
use Rattle.std.specs.Prelude.{◌≡◌, ℕ, zero, suc, Bool, true, ◌&&◌, nat_eq, List, [], ◌∷◌}
use Rattle.wp_base.specs.declared.kinds.Layout.{Layout}
use Rattle.walk_steps.specs.State.{at_or}
use Rattle.memory_steps.specs.Forms.{Form}
use Rattle.memory_steps.specs.Step.{Step, halt, seq, choose, block, exit, scope, remember, made, ended}

-- what comes behind a step, told by the newest number and by the epoch that it comes to
abbrev pub Behind : Type 0
Behind = (newest now : ℕ) → Bool

-- in the epoch of this number again
abbrev pub is_back : ℕ → Behind
is_back x newest now = nat_eq now x

-- Whether arms and blocks end in the epoch in which they began, as do exits out of them, and what comes behind is so. The lists are the epochs of the
-- remembered levels, and those in which the blocks around began, the innermost first.
abbrev pub keeps_epochs : (levels blocks : List ℕ) → Step → (newest now : ℕ) → Behind → Bool
keeps_epochs ls bs halt m x go = true
keeps_epochs ls bs (seq a b) m x go = keeps_epochs ls bs a m x (λ m y. keeps_epochs ls bs b m y go)
keeps_epochs ls bs (choose f a b) m x go = keeps_epochs ls bs a m x (is_back x) && keeps_epochs ls bs b m x (is_back x) && go m x
keeps_epochs ls bs (block a) m x go = keeps_epochs ls (x ∷ bs) a m x (is_back x) && go m x
keeps_epochs ls bs (exit k) m x go = nat_eq (at_or x bs k) x
keeps_epochs ls bs (scope is a) m x go = keeps_epochs ls bs a m x go
keeps_epochs ls bs (remember a) m x go = keeps_epochs (x ∷ ls) bs a m x go
keeps_epochs ls bs (made i l) m x go = go (suc m) (suc m)
keeps_epochs ls bs (ended l) m x go = go m (at_or x ls l)
keeps_epochs ls bs s m x go = go m x

abbrev pub is_bracketed : Step → Bool
is_bracketed a = keeps_epochs [] [] a zero zero (λ m x. true)

abbrev pub IsBracketed : Step → Type 0
IsBracketed a = is_bracketed a ≡ true

-- ---- words

-- from epoch x a step comes to epoch y, or it doesn't come to its end
abbrev pub Comes : (levels blocks : List ℕ) → ℕ → Step → ℕ → Type 0
Comes ls bs x a y = (m : ℕ) (go : Behind) → ((m : ℕ) → go m y ≡ true) → keeps_epochs ls bs a m x go ≡ true

-- How words are bracketed. A step that isn't named here stays in its epoch, by computing.
pub record EpochsCompose : Type 0 where
  pub sequence : (ls bs : List ℕ) (x y z : ℕ) (a b : Step) → Comes ls bs x a y → Comes ls bs y b z → Comes ls bs x (seq a b) z
  pub choice : (ls bs : List ℕ) (x : ℕ) (f : Form) (a b : Step) → Comes ls bs x a x → Comes ls bs x b x → Comes ls bs x (choose f a b) x
  pub inside : (ls bs : List ℕ) (x : ℕ) (a : Step) → Comes ls (x ∷ bs) x a x → Comes ls bs x (block a) x
  pub out : (ls bs : List ℕ) (x y k : ℕ) → at_or x bs k ≡ x → Comes ls bs x (exit k) y
  pub never : (ls bs : List ℕ) (x y : ℕ) → Comes ls bs x halt y
  pub scoped : (ls bs : List ℕ) (x y : ℕ) (is : List ℕ) (a : Step) → Comes ls bs x a y → Comes ls bs x (scope is a) y
  pub remembered : (ls bs : List ℕ) (x y : ℕ) (a : Step) → Comes (x ∷ ls) bs x a y → Comes ls bs x (remember a) y
  -- what comes behind a block that is made is so in whatever epoch
  pub makes : (ls bs : List ℕ) (x z i : ℕ) (l : Layout) (b : Step) → ((y : ℕ) → Comes ls bs y b z) → Comes ls bs x (seq (made i l) b) z
  pub ends : (ls bs : List ℕ) (x l : ℕ) → Comes ls bs x (ended l) (at_or x ls l)
  pub whole : (a : Step) → Comes [] [] zero a zero → IsBracketed a
