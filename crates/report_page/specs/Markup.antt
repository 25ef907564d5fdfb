-- Markup as pieces: a tag, and the text that stands behind it (HTML 13.1).
use Rattle.std.specs.Prelude.{◌≡◌, ℕ, ◌==◌, ◌&&◌, not, Bool, true, List, [], ◌∷◌, ◌++◌, map, codes, Option, Some, None, if◌then◌else◌}
use Rattle.std.specs.List.{list_all}
use Rattle.std.specs.Str.{bytes_eq}
use Rattle.std.specs.Str.Lossy.{utf8_lossy}
use Rattle.goal_words.specs.Bytes.{Reader, ◌>>=◌, expect, with_rest}
use Rattle.report_read.specs.Bytes.{joined, until, all_of}

-- ---- characters

-- the character reference for a byte of a text: of those that markup has for itself, and of CR, which HTML would read as a newline
unfoldable pub reference : ℕ → Option (List ℕ)
reference b =
    if b == 38 then Some (codes "amp")
    else if b == 60 then Some (codes "lt")
    else if b == 62 then Some (codes "gt")
    else if b == 34 then Some (codes "quot")
    else if b == 13 then Some (codes "#13")
    else None

abbrev pub escaped_by : ℕ → Option (List ℕ) → List ℕ
escaped_by b None = b ∷ []
escaped_by b (Some name) = 38 ∷ (name ++ 59 ∷ [])

unfoldable pub escaped : ℕ → List ℕ
escaped b = escaped_by b (reference b)

abbrev pub escaped_text : List ℕ → List ℕ
escaped_text bytes = joined (map escaped bytes)

-- ---- pieces

-- a tag, without its angle brackets, and the text behind it
abbrev pub Piece : Type 0
Piece = List ℕ × List ℕ

unfoldable pub markup : Piece → List ℕ
markup p = 60 ∷ (p.0 ++ 62 ∷ escaped_text p.1)

-- its text as it is shown: what isn't UTF-8 is U+FFFD
abbrev pub as_shown : Piece → Piece
as_shown p = (p.0, utf8_lossy p.1)

-- the bytes of these pieces
unfoldable pub texts : List Piece → List ℕ
texts ps = joined (map markup (map as_shown ps))

-- ---- reading

-- what a character reference stands for
abbrev pub referred : List ℕ → Option ℕ
referred name =
    if bytes_eq name (codes "amp") then Some 38
    else if bytes_eq name (codes "lt") then Some 60
    else if bytes_eq name (codes "gt") then Some 62
    else if bytes_eq name (codes "quot") then Some 34
    else if bytes_eq name (codes "#13") then Some 13
    else None

-- a byte of a text, which ends where a tag begins
unfoldable pub char_at : Reader ℕ
char_at [] = None
char_at (b ∷ bytes) = if b == 60 then None else if b == 38 then (until 59 bytes >>= λ p. with_rest p.1 (referred p.0)) else Some (b, bytes)

-- a byte of a tag
unfoldable pub tag_char_at : Reader ℕ
tag_char_at [] = None
tag_char_at (b ∷ bytes) = if b == 62 then None else Some (b, bytes)

-- a tag and the text behind it
unfoldable pub piece_at : Reader Piece
piece_at bytes =
    expect 60 bytes >>= λ rest. let t = all_of tag_char_at rest in expect 62 t.1 >>= λ rest. let s = all_of char_at rest in Some ((t.0, s.0), s.1)

-- ---- a law

-- no angle bracket and no quotation mark stands in a text that is escaped
abbrev pub is_harmless : ℕ → Bool
is_harmless b = not (b == 60) && (not (b == 62) && not (b == 34))

abbrev pub TextIsHarmless : Type 0
TextIsHarmless = (bytes : List ℕ) → list_all is_harmless (escaped_text bytes) ≡ true
