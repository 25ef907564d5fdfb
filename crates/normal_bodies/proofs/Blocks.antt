-- Numbers of blocks from under more.
use Rattle.std.proofs.Common.{◌≡◌, ℕ, zero, suc, ◌+◌, ap, sym, ◌∙◌, arith}
use Rattle.c_runs.specs.Normal.{up}

up_sum : (k b : ℕ) → up k b ≡ b + k
up_sum zero b = omega arith
up_sum (suc k) b = ap suc (up_sum k b) ∙ omega arith

pub up_is : (k b n : ℕ) → n ≡ b + k → n ≡ up k b
up_is k b n e = e ∙ sym (up_sum k b)

-- the number of blocks is one more
pub up_more : (k b m n : ℕ) → m ≡ k + 1 → n ≡ up m b → n ≡ up (suc k) b
up_more k b m n e d = let next : m ≡ suc k = e ∙ omega arith in d ∙ ap (λ m. up m b) next
