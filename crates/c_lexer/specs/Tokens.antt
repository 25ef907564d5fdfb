-- The tokens of a text, or its first fault.
use Rattle.std.specs.Prelude.{◌≡◌, ℕ, zero, suc, ◌+◌, Bool, true, false, ◌||◌, if◌then◌else◌, List, [], ◌∷◌, ◌++◌, length, take, drop, Result, Ok, Err}
use Rattle.wp_base.specs.declared.answers.Rule.{Rule}
use Rattle.wp_base.specs.declared.answers.Rule.TheVariants as rule
use Rattle.wp_base.specs.declared.answers.Refusal.{Refusal}
use Rattle.wp_base.specs.declared.answers.Stop.{Stop}
use Rattle.wp_base.specs.declared.answers.Stop.TheVariants as stop
use Rattle.c_syntax.specs.declared.token.Token.{Token}
use Rattle.c_syntax.specs.declared.token.TokenKind.{TokenKind}
use Rattle.c_syntax.specs.declared.token.TokenKind.TheVariants as k
use Rattle.c_lexer.specs.declared.piece.Piece.{Piece}
use Rattle.c_lexer.specs.declared.piece.Piece.TheVariants as piece
use Rattle.c_lexer.specs.Bytes.{is_newline}
use Rattle.c_lexer.specs.Lexemes.{may_end}
use Rattle.c_lexer.specs.Pieces.{piece_at}

-- the line behind these bytes: a newline ends a line
abbrev pub line_after : (line : ℕ) → List ℕ → ℕ
line_after line [] = line
line_after line (b ∷ bytes) = line_after (if is_newline b then line + 1 else line) bytes

-- whether only blanks and comments stand on the line behind these, which are such
abbrev pub fresh_after : (fresh : Bool) → List ℕ → Bool
fresh_after fresh [] = fresh
fresh_after fresh (b ∷ bytes) = fresh_after (is_newline b || fresh) bytes

-- what a text gives, in order: tokens, and behind them perhaps a fault
pub data Item : Type 0 where
  token : Token → Item
  fault : Refusal → Item

abbrev pub token_on : (line : ℕ) → TokenKind → Item
token_on line kind = token (record { kind = kind; line = line })

abbrev pub fault_on : (line : ℕ) → Rule → Item
fault_on line broken = fault (record { rule = broken; line = line })

-- The items from here on, piece by piece. A piece has a byte, so as many turns as there are bytes are enough.
-- An annotation gives the items of its inside between its two tokens.
abbrev pub items_by : (go : (annotated : Bool) → (line : ℕ) → (fresh : Bool) → List ℕ → List Item) → (annotated : Bool) → (line : ℕ) → (fresh : Bool) → List ℕ → Piece → List Item
items_by go annotated line fresh bytes (piece.Skip n) = go annotated (line_after line (take n bytes)) (fresh_after fresh (take n bytes)) (drop n bytes)
items_by go annotated line fresh bytes (piece.Token kind n) =
    token_on line kind ∷ (if may_end kind (drop n bytes) then go annotated line false (drop n bytes) else fault_on line rule.Lexical ∷ [])
items_by go annotated line fresh bytes (piece.Annot n close) =
    let inside = take n (drop 3 bytes) in
    let last = line_after line inside in
    token_on line k.AnnotOpen ∷ go true line false inside ++ token_on last k.AnnotClose ∷ go annotated last false (drop (n + close) (drop 3 bytes))
items_by go annotated line fresh bytes (piece.Fault broken) = fault_on line broken ∷ []

abbrev pub items_from : (turns : ℕ) → (annotated : Bool) → (line : ℕ) → (fresh : Bool) → List ℕ → List Item
items_from zero annotated line fresh bytes = []
items_from (suc turns) annotated line fresh [] = []
items_from (suc turns) annotated line fresh (b ∷ bytes) =
    items_by (λ annotated line fresh bytes. items_from turns annotated line fresh bytes) annotated line fresh (b ∷ bytes) (piece_at annotated fresh (b ∷ bytes))

abbrev pub items_of : (text : List ℕ) → List Item
items_of text = items_from (length text) false 1 true text

abbrev pub put_first : Token → Result (List Token) Refusal → Result (List Token) Refusal
put_first t (Ok ts) = Ok (t ∷ ts)
put_first t (Err refusal) = Err refusal

-- The tokens up to the end, if there is no fault and no more than there is room for; else the first fault.
abbrev pub answer : (room : ℕ) → List Item → Result (List Token) Refusal
answer room [] = Ok []
answer room (fault refusal ∷ items) = Err refusal
answer zero (token t ∷ items) = Err (record { rule = rule.Limit; line = t.line })
answer (suc room) (token t ∷ items) = put_first t (answer room items)

-- how many bytes and how many tokens a text may have
abbrev pub most_bytes : ℕ
most_bytes = 1048576

abbrev pub most_tokens : ℕ
most_tokens = 200000

-- The tokens of a text of at most 200,000, or the first of its faults: a place where no token begins, a refused word, a token too many.
abbrev pub tokens_of : (text : List ℕ) → Result (List Token) Refusal
tokens_of text = answer most_tokens (items_of text)

-- the answer says so, unless memory ran out
abbrev pub StopsWith : Stop → Result (List Token) Refusal → Type 0
StopsWith stop.NoMemory given = Unit {0}
StopsWith (stop.Refused refusal) given = given ≡ Err refusal
