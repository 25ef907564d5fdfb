-- What stands at a place of a text: blanks, comments and line markers, annotations, tokens, or a fault.
use Rattle.std.specs.Prelude.{ℕ, zero, suc, ◌+◌, ◌-◌, Bool, true, false, not, ◌&&◌, if◌then◌else◌, ◌==◌, List, [], ◌∷◌, drop, codes, Option, Some, None}
use Rattle.std.specs.Option.{option_map}
use Rattle.std.specs.List.{prefix_len}
use Rattle.wp_base.specs.declared.answers.Rule.TheVariants as rule
use Rattle.c_lexer.specs.declared.piece.Piece.{Piece}
use Rattle.c_lexer.specs.declared.piece.Piece.TheVariants as piece
use Rattle.c_lexer.specs.Bytes.{is_newline, is_blank, is_digit, begins, starts}
use Rattle.c_lexer.specs.Lexemes.{token_at}

-- how many bytes come before the end of the line
abbrev pub line_len : List ℕ → ℕ
line_len bytes = prefix_len (λ b. not (is_newline b)) bytes

-- how many bytes come before the first `*/`
abbrev pub close_at : List ℕ → Option ℕ
close_at [] = None
close_at (b ∷ bytes) = if b == 42 && begins (λ c. c == 47) bytes then Some 0 else option_map suc (close_at bytes)

-- the length of a comment of the form `/* .. */` at the front (C11 6.4.9); in an annotation there is none
abbrev pub comment_len : (annotated : Bool) → List ℕ → Option ℕ
comment_len annotated bytes =
    if not annotated && starts (codes "/*") bytes && not (starts (codes "/*@") bytes) then option_map (λ n. n + 4) (close_at (drop 2 bytes)) else None

-- goes on within a comment whose first byte is read
abbrev pub in_comment : Option ℕ → (ℕ → Bool) → Bool
in_comment None go = false
in_comment (Some n) go = go (n - 1)

-- past the bytes that are left of a comment: on this line come blanks and comments, and then a digit
abbrev pub digit_follows : (annotated : Bool) → (left : ℕ) → List ℕ → Bool
digit_follows annotated left [] = false
digit_follows annotated (suc left) (b ∷ bytes) = not (is_newline b) && digit_follows annotated left bytes
digit_follows annotated zero (b ∷ bytes) =
    if is_digit b then true
    else (if is_newline b then false
    else (if is_blank annotated b then digit_follows annotated 0 bytes
    else in_comment (comment_len annotated (b ∷ bytes)) (λ n. digit_follows annotated n bytes)))

-- what is closed has its form, what isn't is a fault where it begins
abbrev pub if_closed : Option ℕ → (ℕ → Piece) → Piece
if_closed None form = piece.Fault rule.Lexical
if_closed (Some n) form = form n

-- the text stands at the front, outside of annotations
abbrev pub opens : (annotated : Bool) → List ℕ → List ℕ → Bool
opens annotated text bytes = not annotated && starts text bytes

-- A line marker: the rest of its line says nothing.
abbrev pub marker_at : (annotated fresh : Bool) → List ℕ → Piece
marker_at annotated fresh bytes = if fresh && digit_follows annotated 0 (drop 1 bytes) then piece.Skip (line_len bytes) else piece.Fault rule.Lexical

-- What stands at the front. `fresh`: only blanks and comments come before it on its line.
unfoldable pub piece_at : (annotated fresh : Bool) → List ℕ → Piece
piece_at annotated fresh bytes =
    if begins (is_blank annotated) bytes then piece.Skip 1
    else (if opens annotated (codes "//@") bytes then piece.Annot (line_len (drop 3 bytes)) 0
    else (if starts (codes "//") bytes then piece.Skip (line_len bytes)
    else (if opens annotated (codes "/*@") bytes then if_closed (close_at (drop 3 bytes)) (λ n. piece.Annot n 2)
    else (if opens annotated (codes "/*") bytes then if_closed (comment_len annotated bytes) (λ n. piece.Skip n)
    else (if starts (codes "#") bytes then marker_at annotated fresh bytes
    else token_at annotated bytes)))))
