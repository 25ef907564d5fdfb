-- Equations of the readers in the words of the code, and the views of types.
use Rattle.std.proofs.Common.{◌≡◌, ℕ, zero, suc, ◌+◌, Bool, true, false, ◌||◌, List, [], ◌∷◌, ◌++◌, length, Some, None, refl, sym, ap, ◌∙◌, arith, append_assoc, append-nil}
use Rattle.c_syntax.specs.declared.token.Token.{Token}
use Rattle.c_syntax.specs.declared.token.Word.{Word}
use Rattle.c_syntax.specs.declared.token.Punct.TheVariants as p
use Rattle.c_syntax.specs.Expr as e
use Rattle.c_syntax.proofs.Equations as eq
use Rattle.c_grammar.specs.Types.{const_if}
use Rattle.c_grammar.specs.Reading.{punct_at}
use Rattle.parse_types.specs.Read as r

pub ruleset views = (eq.view_ctype-Void, eq.view_ctype-Kind, eq.view_ctype-Struct, eq.view_ctype-Enum, eq.view_ctype-Named, eq.view_ctype-Pointer, eq.view_ctype-Const)

-- ---- what comes in any number

pub words_none : (ts : List Token) → length ts ≡ 0 → ((r.words_at ts).0 ≡ []) × ((r.words_at ts).1 ≡ ts)
unfolding r.words_at
words_none [] h = (refl, refl)
words_none (t ∷ ts) h = absurd (omega arith)

pub words_take : (ts : List Token) (t : Token) (after : List Token) (v : Word) → ts ≡ t ∷ after → r.kind_word t.kind ≡ Some v
    → ((r.words_at ts).0 ≡ v ∷ (r.words_at after).0) × ((r.words_at ts).1 ≡ (r.words_at after).1)
unfolding r.words_at
words_take ts t after v is h = rw (is, h) (refl, refl)

pub words_stop : (ts : List Token) (t : Token) (after : List Token) → ts ≡ t ∷ after → r.kind_word t.kind ≡ None → ((r.words_at ts).0 ≡ []) × ((r.words_at ts).1 ≡ ts)
unfolding r.words_at
words_stop ts t after is h = rw (is, h) (refl, refl)

pub consts_none : (ts : List Token) → length ts ≡ 0 → ((r.consts_at ts).0 ≡ false) × ((r.consts_at ts).1 ≡ ts)
unfolding r.consts_at
consts_none [] h = (refl, refl)
consts_none (t ∷ ts) h = absurd (omega arith)

pub consts_take : (ts : List Token) (t : Token) (after : List Token) → ts ≡ t ∷ after → r.is_const t.kind ≡ true → ((r.consts_at ts).0 ≡ true) × ((r.consts_at ts).1 ≡ (r.consts_at after).1)
unfolding r.consts_at
consts_take ts t after is h = rw (is, h) (refl, refl)

pub consts_stop : (ts : List Token) (t : Token) (after : List Token) → ts ≡ t ∷ after → r.is_const t.kind ≡ false → ((r.consts_at ts).0 ≡ false) × ((r.consts_at ts).1 ≡ ts)
unfolding r.consts_at
consts_stop ts t after is h = rw (is, h) (refl, refl)

-- what was found so far and what is left, where nothing more is found
pub consts_end : (all ts : List Token) (found : Bool) → (r.consts_at all).0 ≡ (found || (r.consts_at ts).0) → (r.consts_at all).1 ≡ (r.consts_at ts).1
    → ((r.consts_at ts).0 ≡ false) × ((r.consts_at ts).1 ≡ ts) → (found ≡ (r.consts_at all).0) × (ts ≡ (r.consts_at all).1)
consts_end all ts true a b h = (sym a, sym (b ∙ h.1))
consts_end all ts false a b h = (sym (a ∙ h.0), sym (b ∙ h.1))

pub consts_turn : (all ts after : List Token) (found : Bool) → (r.consts_at all).0 ≡ (found || (r.consts_at ts).0) → (r.consts_at all).1 ≡ (r.consts_at ts).1
    → ((r.consts_at ts).0 ≡ true) × ((r.consts_at ts).1 ≡ (r.consts_at after).1) → ((r.consts_at all).0 ≡ true) × ((r.consts_at all).1 ≡ (r.consts_at after).1)
consts_turn all ts after true a b h = (a, b ∙ h.1)
consts_turn all ts after false a b h = (a ∙ h.0, b ∙ h.1)

pub words_end : (all ts : List Token) (found : List Word) → (r.words_at all).0 ≡ found ++ (r.words_at ts).0 → (r.words_at all).1 ≡ (r.words_at ts).1
    → ((r.words_at ts).0 ≡ []) × ((r.words_at ts).1 ≡ ts) → (found ≡ (r.words_at all).0) × (ts ≡ (r.words_at all).1)
words_end all ts found a b h = (sym (a ∙ ap (λ l. found ++ l) h.0 ∙ append-nil found), sym (b ∙ h.1))

pub words_turn : (all ts after : List Token) (found more : List Word) (v : Word) → (r.words_at all).0 ≡ found ++ (r.words_at ts).0 → (r.words_at all).1 ≡ (r.words_at ts).1
    → ((r.words_at ts).0 ≡ v ∷ (r.words_at after).0) × ((r.words_at ts).1 ≡ (r.words_at after).1) → more ≡ found ++ v ∷ []
    → ((r.words_at all).0 ≡ more ++ (r.words_at after).0) × ((r.words_at all).1 ≡ (r.words_at after).1)
words_turn all ts after found more v a b h is = (a ∙ ap (λ l. found ++ l) h.0 ∙ rw is (sym (append_assoc found (v ∷ []) (r.words_at after).0)), b ∙ h.1)

-- ---- stars

-- all of them
pub stars_all : (consts : Bool) (t : e.CType) (ts : List Token) → r.stars_at consts t ts ≡ r.more_stars consts (length ts) t ts
unfolding r.stars_at
stars_all consts t ts = refl

pub stars_end : (consts : Bool) (turns : ℕ) (t : e.CType) (ts : List Token) → turns ≡ 0 → r.more_stars consts turns t ts ≡ Some (t, ts)
unfolding r.more_stars
stars_end consts zero t ts none = refl
stars_end consts (suc turns) t ts none = absurd (omega arith)

pub stars_stop : (consts : Bool) (turns : ℕ) (t : e.CType) (ts : List Token) → punct_at p.Star ts ≡ None → r.more_stars consts turns t ts ≡ Some (t, ts)
unfolding r.more_stars
stars_stop consts zero t ts h = refl
stars_stop consts (suc turns) t ts h = rw h refl

stars_go : (consts : Bool) (turns : ℕ) (t : e.CType) (ts : List Token) (line : ℕ) (after : List Token) → punct_at p.Star ts ≡ Some (line, after)
    → r.more_stars consts (suc turns) t ts ≡ r.more_stars consts turns (const_if (r.const_at consts after).0 (e.pointer t)) (r.const_at consts after).1
unfolding r.more_stars
stars_go consts turns t ts line after h = rw h refl

pub stars_turn : (consts : Bool) (turns turns' : ℕ) (t t' : e.CType) (ts : List Token) (line : ℕ) (after : List Token) (constant : Bool) (rest : List Token) → turns ≡ turns' + 1
    → punct_at p.Star ts ≡ Some (line, after) → constant ≡ (r.const_at consts after).0 → rest ≡ (r.const_at consts after).1 → t' ≡ const_if constant (e.pointer t)
    → r.more_stars consts turns' t' rest ≡ r.more_stars consts turns t ts
stars_turn consts turns turns' t t' ts line after constant rest more found c n is =
    let m : turns ≡ suc turns' = omega arith in
    rw (m, stars_go consts turns' t ts line after found, is, n, c) refl
