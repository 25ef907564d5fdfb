-- Lists of bounds: one of them, one more, more behind them, and all up to a place.
use Rattle.std.proofs.Common.{◌≡◌, ℕ, zero, suc, ◌+◌, ◌<◌, ◌⊎◌, List, [], ◌∷◌, ◌++◌, length, take, get_or, refl, sym, ap, ◌∙◌, subst, append_assoc, append-nil, arith}
use Rattle.qed_terms.specs.Meaning.{Values}
use Rattle.known_bounds.specs.Ranges.{IsIn}
use Rattle.known_bounds.specs.Bounds.{AreKept, Extends}
use Rattle.known_bounds.specs.declared.bounds.Bound.{Bound}

pub kept_at : (env : Values) (bs : List Bound) (i : ℕ) (b : Bound) → i < length bs → b ≡ get_or bs i b → AreKept env bs → IsIn b.range (env.ints b.name)
kept_at env [] i b lt e k = absurd (omega (arith, lt))
kept_at env (c ∷ bs) zero b lt e k = subst (λ (x : Bound). IsIn x.range (env.ints x.name)) (sym e) k.0
kept_at env (c ∷ bs) (suc i) b lt e k = kept_at env bs i b (omega (arith, lt)) e k.1

pub named : (env : Values) (bs : List Bound) (i : ℕ) (b : Bound) (x : List ℕ) → i < length bs → b ≡ get_or bs i b → b.name ≡ x → AreKept env bs → IsIn b.range (env.ints x)
named env bs i b x lt e n k = subst (λ y. IsIn b.range (env.ints y)) n (kept_at env bs i b lt e k)

pub kept_more : (env : Values) (bs : List Bound) (b : Bound) → AreKept env bs → IsIn b.range (env.ints b.name) → AreKept env (bs ++ b ∷ [])
kept_more env [] b k h = (h, tt)
kept_more env (c ∷ bs) b k h = (k.0, kept_more env bs b k.1 h)

-- ---- more behind

pub itself : (bs : List Bound) → Extends bs bs
itself bs = ([], sym (append-nil bs))

pub extends_both : (bs cs ds : List Bound) → Extends bs cs → Extends cs ds → Extends bs ds
extends_both bs cs ds e f = (e.0 ++ f.0, f.1 ∙ ap (λ xs. xs ++ f.0) e.1 ∙ append_assoc bs e.0 f.0)

taken : (bs more : List Bound) → take (length bs) (bs ++ more) ≡ bs
taken [] more = refl
taken (b ∷ bs) more = ap (λ xs. b ∷ xs) (taken bs more)

pub cut_back : (bs cs : List Bound) → Extends bs cs → take (length bs) cs ≡ bs
cut_back bs cs e = ap (take (length bs)) e.1 ∙ taken bs e.0
