-- What comes after a bracket, token by token.
use Rattle.std.proofs.Common.{◌≡◌, ℕ, zero, suc, ◌+◌, ◌-◌, Bool, true, List, [], ◌∷◌, length, Option, Some, None, refl, ap, ◌∙◌, add-one, arith}
use Rattle.c_syntax.specs.declared.token.Token.{Token}
use Rattle.c_syntax.specs.declared.token.TokenKind.{TokenKind}
use Rattle.c_syntax.specs.declared.token.TokenKind.TheVariants as k
use Rattle.c_syntax.specs.declared.token.Punct.TheVariants as p
use Rattle.c_grammar.specs.Reading.{past, past_by}
use Rattle.parse_terms.specs.declared.past.Side.{Side}
use Rattle.parse_terms.specs.declared.past.Side.TheVariants as side
use Rattle.parse_terms.specs.Views.{side_of}

-- by the side
abbrev past_side : (go : ℕ → Bool → Option (Bool × List Token)) → (depth : ℕ) → (found : Bool) → Side → List Token → Option (Bool × List Token)
past_side go depth found side.Opens ts = go (suc depth) found
past_side go zero found side.Closes ts = Some (found, ts)
past_side go (suc depth) found side.Closes ts = go depth found
past_side go zero found side.Dots ts = go zero true
past_side go (suc depth) found side.Dots ts = go (suc depth) found
past_side go depth found side.Neither ts = go depth found

by_side : (go : ℕ → Bool → Option (Bool × List Token)) (depth : ℕ) (found : Bool) (kind : TokenKind) (ts : List Token)
    → past_by go depth found kind ts ≡ past_side go depth found (side_of kind) ts
by_side go depth found (k.Punct p.OpenParen) ts = refl
by_side go depth found (k.Punct p.OpenBracket) ts = refl
by_side go zero found (k.Punct p.CloseParen) ts = refl
by_side go (suc depth) found (k.Punct p.CloseParen) ts = refl
by_side go zero found (k.Punct p.CloseBracket) ts = refl
by_side go (suc depth) found (k.Punct p.CloseBracket) ts = refl
by_side go zero found (k.Punct p.Range) ts = refl
by_side go (suc depth) found (k.Punct p.Range) ts = refl
by_side go depth found _ ts = refl

past_is : (depth : ℕ) (found : Bool) (t : Token) (ts : List Token) → past depth found (t ∷ ts) ≡ past_side (λ depth found. past depth found ts) depth found (side_of t.kind) ts
past_is depth found t ts = by_side (λ depth found. past depth found ts) depth found t.kind ts

-- an opening bracket
pub past_opens : (depth : ℕ) (found : Bool) (t : Token) (ts : List Token) → side.Opens ≡ side_of t.kind → past depth found (t ∷ ts) ≡ past (depth + 1) found ts
past_opens depth found t ts h = past_is depth found t ts ∙ rw (← h, add-one) refl

-- a closing bracket, of one that was opened inside, or the last
pub past_closes : (depth : ℕ) (found : Bool) (t : Token) (ts : List Token) → side.Closes ≡ side_of t.kind → (depth ≡ 0 → ⊥) → past depth found (t ∷ ts) ≡ past (depth - 1) found ts
past_closes zero found t ts h inside = absurd (inside refl)
past_closes (suc depth) found t ts h inside =
    let less : depth ≡ suc depth - 1 = omega arith in
    past_is (suc depth) found t ts ∙ rw (← h) (ap (λ depth. past depth found ts) less)

pub past_ends : (depth : ℕ) (found : Bool) (t : Token) (ts : List Token) → side.Closes ≡ side_of t.kind → depth ≡ 0 → past depth found (t ∷ ts) ≡ Some (found, ts)
past_ends depth found t ts h outside = past_is depth found t ts ∙ rw (← h, outside) refl

pub past_dots : (depth : ℕ) (found : Bool) (t : Token) (ts : List Token) → side.Dots ≡ side_of t.kind → depth ≡ 0 → past depth found (t ∷ ts) ≡ past depth true ts
past_dots depth found t ts h outside = past_is depth found t ts ∙ rw (← h, outside) refl

pub past_inner_dots : (depth : ℕ) (found : Bool) (t : Token) (ts : List Token) → side.Dots ≡ side_of t.kind → (depth ≡ 0 → ⊥) → past depth found (t ∷ ts) ≡ past depth found ts
past_inner_dots zero found t ts h inside = absurd (inside refl)
past_inner_dots (suc depth) found t ts h inside = past_is (suc depth) found t ts ∙ rw (← h) refl

pub past_goes : (depth : ℕ) (found : Bool) (t : Token) (ts : List Token) → side.Neither ≡ side_of t.kind → past depth found (t ∷ ts) ≡ past depth found ts
past_goes depth found t ts h = past_is depth found t ts ∙ rw (← h) refl

-- no token is left
pub past_out : (depth : ℕ) (found : Bool) (ts : List Token) → length ts ≡ 0 → past depth found ts ≡ None
past_out depth found [] h = refl
past_out depth found (t ∷ ts) h = absurd (omega arith)
