-- The numbers of definitions compared.
use Rattle.std.proofs.Common.{◌≡◌, ℕ, suc, ◌<◌, true, false, eqb, refl, sym, ◌∙◌, ⊎_elim, arith}
use Rattle.std.proofs.lemmas.Bool.{cases_Bool, false≢true}
use Rattle.std.proofs.lemmas.Bool.Decides.{Decides-eqb}

pub itself : (n : ℕ) → eqb n n ≡ true
itself n = (Decides-eqb n n).1 refl

pub unlike : (f n : ℕ) → (f ≡ n → ⊥) → eqb f n ≡ false
unlike f n differs = ⊎_elim (λ t. absurd (differs ((Decides-eqb f n).0 t))) (λ x. x) (cases_Bool (eqb f n))

pub earlier : (f n : ℕ) → f < n → eqb f n ≡ false
earlier f n lt = unlike f n (λ e. omega (arith, e, lt))

pub below : (f n : ℕ) → f < suc n → eqb f n ≡ false → f < n
below f n lt x = let e : f ≡ n → ⊥ = λ e. false≢true (sym x ∙ (Decides-eqb f n).1 e) in grind (arith, lt, e)
