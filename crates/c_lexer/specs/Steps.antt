-- What the steps of the lexer give, whatever items follow.
use Rattle.std.specs.Prelude.{◌≡◌, ℕ, ◌-◌, Bool, List, ◌++◌, length, drop, Result, Ok, Err}
use Rattle.wp_base.specs.declared.answers.Refusal.{Refusal}
use Rattle.wp_base.specs.declared.answers.Stop.{Stop}
use Rattle.c_syntax.specs.declared.token.Token.{Token}
use Rattle.c_lexer.specs.declared.piece.Piece.{Piece}
use Rattle.c_lexer.specs.declared.place.Place.{Place}
use Rattle.c_lexer.specs.Tokens.{Item, items_from, items_by, answer, most_tokens, StopsWith}

-- the items of a text, in as many turns as it has bytes
abbrev pub all_items : (annotated : Bool) → (line : ℕ) → (fresh : Bool) → List ℕ → List Item
all_items annotated line fresh bytes = items_from (length bytes) annotated line fresh bytes

-- those of a piece, and behind it
abbrev pub items_at : (annotated : Bool) → (line : ℕ) → (fresh : Bool) → List ℕ → Piece → List Item
items_at annotated line fresh bytes piece = items_by (λ annotated line fresh bytes. all_items annotated line fresh bytes) annotated line fresh bytes piece

abbrev pub ahead_of : List Token → Result (List Token) Refusal → Result (List Token) Refusal
ahead_of found (Ok ts) = Ok (found ++ ts)
ahead_of found (Err refusal) = Err refusal

-- the answer with these tokens found and those items to come
abbrev pub answer_behind : (found : List Token) → List Item → Result (List Token) Refusal
answer_behind found items = ahead_of found (answer (most_tokens - length found) items)

-- The tokens now found and the items now to come give the same as those before; a refusal is what those before give.
abbrev pub GoesOn : {X : Type 0} → Result X Stop → (now before : Result (List Token) Refusal) → Type 0
GoesOn (Ok x) now before = now ≡ before
GoesOn (Err stop) now before = StopsWith stop before

-- a step over a piece of the bytes whose items are these
abbrev pub Steps : (annotated : Bool) → (old new : List Token) → List ℕ → List Item → Result Place Stop → Type 0
Steps annotated old new bytes items (Ok p) = (more : List Item) → answer_behind new (all_items annotated p.line p.fresh (drop p.len bytes) ++ more) ≡ answer_behind old (items ++ more)
Steps annotated old new bytes items (Err stop) = (more : List Item) → StopsWith stop (answer_behind old (items ++ more))
