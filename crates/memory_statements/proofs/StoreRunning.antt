-- Words with one end.
use Rattle.std.proofs.Common.{◌≡◌, ◌⊎◌, ℕ, ◌+◌, List, ◌∷◌, sym, ap, ◌∙◌, subst, inl, inr}
use Rattle.memory_steps.specs.State.{State}
use Rattle.memory_steps.specs.Forms.{Term}
use Rattle.memory_steps.specs.Step as step
use Rattle.memory_steps.specs.Step.{Step, count}
use Rattle.memory_steps.specs.Run as seg
use Rattle.memory_steps.specs.Run.{End, goes_on, IsOver, on_state, set_in, put_back, Seg}
use Rattle.memory_steps.proofs.Readings.{seq_ways, set_way, scope_way, remember_way}
use Rattle.memory_words.specs.Puts.{OneEnd}

goes_parts : {a b : State} → goes_on a ≡ goes_on b → a ≡ b
goes_parts e = cc

module _ {olds : List State} where
  pub one_set : (st : State) (i : ℕ) (u : Term) → OneEnd olds (step.set i u) st (set_in st i (u.told (st ∷ olds)))
  one_set st i u = record { runs = λ n. seg.sets; only = λ n e k. set_way k }

  pub one_then : {a b : Step} {st mid new : State} → OneEnd olds a st mid → OneEnd olds b mid new → OneEnd olds (step.seq a b) st new
  one_then {a} {b} {st} {mid} {new} x y = record { runs = λ n. seg.goes_both (x.runs n) (y.runs (n + count a)); only = λ n e k. by n e (seq_ways k) } where
    by : (n : ℕ) (e : End) → (IsOver e × Seg olds n a st e) ⊎ ((to : State) × Seg olds n a st (goes_on to) × Seg olds (n + count a) b to e) → goes_on new ≡ e
    by n e (inl (over, k)) = absurd (subst IsOver (sym (x.only n e k)) over)
    by n e (inr (to, k, l)) = y.only (n + count a) e (subst (λ to. Seg olds (n + count a) b to e) (sym (goes_parts (x.only n (goes_on to) k))) l)

  pub one_remember : {a : Step} {st new : State} → OneEnd (st ∷ olds) a st new → OneEnd olds (step.remember a) st new
  one_remember x = record { runs = λ n. seg.remembers (x.runs n); only = λ n e k. x.only n e (remember_way k) }

  pub one_scope : {is : List ℕ} {a : Step} {st mid : State} → OneEnd olds a st mid → OneEnd olds (step.scope is a) st (put_back is st mid)
  one_scope {is} {a} {st} {mid} x = record { runs = λ n. seg.scopes (x.runs n); only = λ n e k. by n e (scope_way k) } where
    by : (n : ℕ) (e : End) → (o : End) × Seg olds n a st o × (on_state (put_back is st) o ≡ e) → goes_on (put_back is st mid) ≡ e
    by n e (o, k, same) = ap (on_state (put_back is st)) (x.only n o k) ∙ same
