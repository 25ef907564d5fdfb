-- Markup, read back; and what can't stand in an escaped text.
use Rattle.std.proofs.Common.{◌≡◌, ℕ, ◌<◌, eqb, Bool, true, false, not, cond, ◌&&◌, List, [], ◌∷◌, ◌++◌, length, map, codes, Option, Some, None, refl, sym, ap, ◌∙◌, arith, append_assoc, append-nil, eqb-true}
use Rattle.std.specs.List.{list_all}
use Rattle.goal_words.specs.Bytes.{◌>>=◌, expect, with_rest}
use Rattle.goal_words.proofs.Numerals.{both_true}
use Rattle.report_read.specs.Bytes.{joined, until, is_free_of, all_of}
use Rattle.report_read.proofs.Fronts.{until_of}
use Rattle.report_read.proofs.Many.{all_read, bytes_read}
use Rattle.report_page.specs.Markup.{reference, escaped_by, escaped, escaped_text, Piece, markup, as_shown, texts, referred, char_at, tag_char_at, piece_at, is_harmless, TextIsHarmless}

-- ---- character references

-- what a reference is
record IsReference (b : ℕ) (name : List ℕ) : Type 0 where
  back : referred name ≡ Some b
  free : is_free_of 59 name ≡ true
  harmless : list_all is_harmless (38 ∷ (name ++ 59 ∷ [])) ≡ true

-- what a byte is that has none
record IsPlain (b : ℕ) : Type 0 where
  amp : eqb b 38 ≡ false
  lt : eqb b 60 ≡ false
  harmless : is_harmless b ≡ true

reference_is : (c b : ℕ) (word name : List ℕ) → eqb b c ≡ true → Some word ≡ Some name → IsReference c word → IsReference b name
reference_is c b word name e h r =
    let same : word ≡ name = cc in
    let byte : b ≡ c = eqb-true b c e in record {
      back = ap referred (sym same) ∙ r.back ∙ ap Some (sym byte);
      free = ap (is_free_of 59) (sym same) ∙ r.free;
      harmless = ap (λ n. list_all is_harmless (38 ∷ (n ++ 59 ∷ []))) (sym same) ∙ r.harmless;
    }

abbrev reference_by : (v w x y z : Bool) → Option (List ℕ)
reference_by v w x y z = cond v (Some (codes "amp")) (cond w (Some (codes "lt")) (cond x (Some (codes "gt")) (cond y (Some (codes "quot")) (cond z (Some (codes "#13")) None))))

named : (b : ℕ) (name : List ℕ) → reference b ≡ Some name → IsReference b name
unfolding reference
named b name h = by (eqb b 38) (eqb b 60) (eqb b 62) (eqb b 34) (eqb b 13) refl refl refl refl refl h
  where
    by : (v w x y z : Bool) → eqb b 38 ≡ v → eqb b 60 ≡ w → eqb b 62 ≡ x → eqb b 34 ≡ y → eqb b 13 ≡ z → reference_by v w x y z ≡ Some name → IsReference b name
    by true w x y z e f g i j k = reference_is 38 b (codes "amp") name e k (record { back = refl; free = refl; harmless = refl })
    by false true x y z e f g i j k = reference_is 60 b (codes "lt") name f k (record { back = refl; free = refl; harmless = refl })
    by false false true y z e f g i j k = reference_is 62 b (codes "gt") name g k (record { back = refl; free = refl; harmless = refl })
    by false false false true z e f g i j k = reference_is 34 b (codes "quot") name i k (record { back = refl; free = refl; harmless = refl })
    by false false false false true e f g i j k = reference_is 13 b (codes "#13") name j k (record { back = refl; free = refl; harmless = refl })
    by false false false false false e f g i j k = absurd cc

plain : (b : ℕ) → reference b ≡ None → IsPlain b
unfolding reference
plain b h = by (eqb b 38) (eqb b 60) (eqb b 62) (eqb b 34) (eqb b 13) refl refl refl refl refl h
  where
    by : (v w x y z : Bool) → eqb b 38 ≡ v → eqb b 60 ≡ w → eqb b 62 ≡ x → eqb b 34 ≡ y → eqb b 13 ≡ z → reference_by v w x y z ≡ None → IsPlain b
    by true w x y z e f g i j k = absurd cc
    by false true x y z e f g i j k = absurd cc
    by false false true y z e f g i j k = absurd cc
    by false false false true z e f g i j k = absurd cc
    by false false false false z e f g i j k = record { amp = e; lt = f; harmless = rw (f, g, i) }

-- ---- texts

char_read : (b : ℕ) (rest : List ℕ) → char_at (escaped b ++ rest) ≡ Some (b, rest)
unfolding char_at escaped
char_read b rest = by (reference b) refl
  where
    by : (o : Option (List ℕ)) → reference b ≡ o → char_at (escaped_by b o ++ rest) ≡ Some (b, rest)
    by None e = let p = plain b e in rw (p.lt, p.amp)
    by (Some name) e =
        let r = named b name e in
        let from : Option (List ℕ × List ℕ) → Option (ℕ × List ℕ) = λ o. o >>= λ p. with_rest p.1 (referred p.0) in
        ap (λ bytes. from (until 59 bytes)) (append_assoc name (59 ∷ []) rest) ∙ ap from (until_of 59 name rest r.free) ∙ ap (with_rest rest) r.back

some_escaped : (b : ℕ) → 0 < length (escaped b)
unfolding escaped
some_escaped b = by (reference b)
  where
    by : (o : Option (List ℕ)) → 0 < length (escaped_by b o)
    by None = omega arith
    by (Some name) = omega arith

any_byte : ℕ → Bool
any_byte b = true

all_bytes : (s : List ℕ) → list_all any_byte s ≡ true
unfolding any_byte
all_bytes [] = refl
all_bytes (b ∷ s) = all_bytes s

-- no text goes on here
abbrev Ends : List ℕ → Type 0
Ends rest = char_at rest ≡ None

text_read : (s rest : List ℕ) → Ends rest → all_of char_at (escaped_text s ++ rest) ≡ (s, rest)
text_read s rest none = all_read char_at escaped any_byte (λ _. Unit {0}) (λ b r i f. char_read b r) (λ b r. tt) some_escaped s rest (all_bytes s) tt none

both : {X : Type 0} (p : X → Bool) (xs ys : List X) → list_all p xs ≡ true → list_all p ys ≡ true → list_all p (xs ++ ys) ≡ true
both p [] ys h k = k
both p (x ∷ xs) ys h k = let b = both_true (p x) (list_all p xs) h in let more = both p xs ys b.1 k in λ j. b.0 j && more j

harmless_char : (b : ℕ) → list_all is_harmless (escaped b) ≡ true
unfolding escaped
harmless_char b = by (reference b) refl
  where
    by : (o : Option (List ℕ)) → reference b ≡ o → list_all is_harmless (escaped_by b o) ≡ true
    by None e = let one = (plain b e).harmless in λ j. one j && true
    by (Some name) e = (named b name e).harmless

pub harmless_text : TextIsHarmless
harmless_text [] = refl
harmless_text (b ∷ s) = both is_harmless (escaped b) (escaped_text s) (harmless_char b) (harmless_text s)

-- ---- pieces

abbrev pub is_tag_char : ℕ → Bool
is_tag_char b = not (eqb b 62)

-- a tag has no angle bracket at its end
abbrev pub is_tag : List ℕ → Bool
is_tag t = list_all is_tag_char t

abbrev pub is_piece : Piece → Bool
is_piece p = is_tag p.0

tag_char_read : (b : ℕ) (rest : List ℕ) → is_tag_char b ≡ true → tag_char_at (b ∷ rest) ≡ Some (b, rest)
unfolding tag_char_at
tag_char_read b rest h = by (eqb b 62) h
  where
    by : (t : Bool) → not t ≡ true → cond {A = Option (ℕ × List ℕ)} t None (Some (b, rest)) ≡ Some (b, rest)
    by true k = absurd cc
    by false k = refl

tag_ends : (rest : List ℕ) → tag_char_at (62 ∷ rest) ≡ None
unfolding tag_char_at
tag_ends rest = refl

tag_read : (t rest : List ℕ) → is_tag t ≡ true → all_of tag_char_at (t ++ 62 ∷ rest) ≡ (t, 62 ∷ rest)
tag_read t rest h = bytes_read tag_char_at is_tag_char tag_char_read t (62 ∷ rest) h (tag_ends rest)

piece_read : (p : Piece) (rest : List ℕ) → is_piece p ≡ true → Ends rest → piece_at (markup p ++ rest) ≡ Some (p, rest)
unfolding piece_at markup
piece_read p rest h none =
    let texted : List ℕ → List ℕ × List ℕ → Option (Piece × List ℕ) = λ t s. Some ((t, s.0), s.1) in
    let from : List ℕ × List ℕ → Option (Piece × List ℕ) = λ t. expect 62 t.1 >>= λ r. texted t.0 (all_of char_at r) in
    ap (λ bytes. from (all_of tag_char_at bytes)) (append_assoc p.0 (62 ∷ escaped_text p.1) rest) ∙ ap from (tag_read p.0 (escaped_text p.1 ++ rest) h)
    ∙ ap (texted p.0) (text_read p.1 rest none)

some_markup : (p : Piece) → 0 < length (markup p)
unfolding markup
some_markup p = omega arith

markup_ends : (p : Piece) (rest : List ℕ) → Ends (markup p ++ rest)
unfolding markup char_at
markup_ends p rest = refl

over_ends : Ends []
unfolding char_at
over_ends = refl

piece_over : piece_at [] ≡ None
unfolding piece_at
piece_over = refl

shown_fit : (ps : List Piece) → list_all is_piece (map as_shown ps) ≡ list_all is_piece ps
shown_fit [] = refl
shown_fit (p ∷ ps) = ap (λ t. is_piece p && t) (shown_fit ps)

pub pieces_read : (ps : List Piece) → list_all is_piece ps ≡ true → all_of piece_at (texts ps) ≡ (map as_shown ps, [])
unfolding texts
pieces_read ps h =
    ap (all_of piece_at) (sym (append-nil (joined (map markup (map as_shown ps)))))
    ∙ all_read piece_at markup is_piece Ends piece_read markup_ends some_markup (map as_shown ps) [] (shown_fit ps ∙ h) over_ends piece_over

pub escaped_is_tag : (s : List ℕ) → is_tag (escaped_text s) ≡ true
escaped_is_tag s = tagged (escaped_text s) (harmless_text s)
  where
    tagged : (t : List ℕ) → list_all is_harmless t ≡ true → is_tag t ≡ true
    tagged [] h = refl
    tagged (b ∷ t) h =
        let b1 = both_true (is_harmless b) (list_all is_harmless t) h in
        let b2 = both_true (not (eqb b 60)) (not (eqb b 62) && not (eqb b 34)) b1.0 in
        let b3 = both_true (not (eqb b 62)) (not (eqb b 34)) b2.1 in
        let more = tagged t b1.1 in
        λ j. b3.0 j && more j

pub tags_joined : (s t : List ℕ) → is_tag s ≡ true → is_tag t ≡ true → is_tag (s ++ t) ≡ true
tags_joined s t h k = both is_tag_char s t h k

pub pieces_joined : (ps qs : List Piece) → list_all is_piece ps ≡ true → list_all is_piece qs ≡ true → list_all is_piece (ps ++ qs) ≡ true
pieces_joined ps qs h k = both is_piece ps qs h k
