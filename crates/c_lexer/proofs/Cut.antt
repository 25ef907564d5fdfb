-- What stands at the front of a text, case by case, and that it lies within the text.
use Rattle.std.proofs.Common.{◌≡◌, ℕ, suc, ◌+◌, ◌<◌, ◌≤◌, ◌==◌, Bool, true, false, not, cond, ◌&&◌, List, [], ◌∷◌, length, take, drop, codes, Option, Some, None, Result, Ok, Err, refl, sym, ◌∙◌, subst, arith}
use Rattle.std.specs.Option.{option_map}
use Rattle.std.proofs.lemmas.Bool.{false≢true}
use Rattle.std.proofs.lemmas.List.Sums.{prefix_len-le-length}
use Rattle.std.proofs.lemmas.List.{length-drop}
use Rattle.wp_base.specs.declared.answers.Rule.{Rule}
use Rattle.wp_base.specs.declared.answers.Rule.TheVariants as rule
use Rattle.c_syntax.specs.declared.token.TokenKind.{TokenKind}
use Rattle.c_lexer.specs.declared.piece.Piece.{Piece}
use Rattle.c_lexer.specs.declared.piece.Piece.TheVariants as piece
use Rattle.c_lexer.specs.declared.tables.Scope.TheVariants as scope
use Rattle.c_lexer.specs.Bytes.{is_newline, is_blank, begins, starts}
use Rattle.c_lexer.specs.Lexemes.{is_lexeme, kind_of, longest, piece_of, token_at}
use Rattle.c_lexer.specs.Pieces.{line_len, close_at, comment_len, digit_follows, opens, if_closed, marker_at, piece_at}
use Rattle.c_lexer.proofs.Fronts.{and_right, front_within, front_begins}
use Rattle.c_lexer.proofs.Numerals.{some_run}
use Rattle.c_lexer.proofs.Marks.{Within, token_within}

pub piece_blank : (annotated fresh : Bool) (bytes : List ℕ) → begins (is_blank annotated) bytes ≡ true → piece_at annotated fresh bytes ≡ piece.Skip 1
unfolding piece_at
piece_blank annotated fresh bytes blank = rw blank refl

pub piece_line : (annotated fresh : Bool) (bytes : List ℕ) → begins (is_blank annotated) bytes ≡ false → opens annotated (codes "//@") bytes ≡ true → piece_at annotated fresh bytes ≡ piece.Annot (line_len (drop 3 bytes)) 0
unfolding piece_at
piece_line annotated fresh bytes blank line = rw (blank, line) refl

pub piece_comment : (annotated fresh : Bool) (bytes : List ℕ) → begins (is_blank annotated) bytes ≡ false → opens annotated (codes "//@") bytes ≡ false → starts (codes "//") bytes ≡ true → piece_at annotated fresh bytes ≡ piece.Skip (line_len bytes)
unfolding piece_at
piece_comment annotated fresh bytes blank line comment = rw (blank, line, comment) refl

module _ (annotated fresh : Bool) (bytes : List ℕ) (blank : begins (is_blank annotated) bytes ≡ false) (line : opens annotated (codes "//@") bytes ≡ false) (comment : starts (codes "//") bytes ≡ false) where
  pub piece_block : opens annotated (codes "/*@") bytes ≡ true → piece_at annotated fresh bytes ≡ if_closed (close_at (drop 3 bytes)) (λ n. piece.Annot n 2)
  unfolding piece_at
  piece_block block = rw (blank, line, comment, block) refl

  pub piece_skipped : opens annotated (codes "/*@") bytes ≡ false → opens annotated (codes "/*") bytes ≡ true → piece_at annotated fresh bytes ≡ if_closed (comment_len annotated bytes) (λ n. piece.Skip n)
  unfolding piece_at
  piece_skipped block skipped = rw (blank, line, comment, block, skipped) refl

  pub piece_marker : opens annotated (codes "/*@") bytes ≡ false → opens annotated (codes "/*") bytes ≡ false → starts (codes "#") bytes ≡ true → piece_at annotated fresh bytes ≡ marker_at annotated fresh bytes
  unfolding piece_at
  piece_marker block skipped marker = rw (blank, line, comment, block, skipped, marker) refl

  pub piece_token : opens annotated (codes "/*@") bytes ≡ false → opens annotated (codes "/*") bytes ≡ false → starts (codes "#") bytes ≡ false → piece_at annotated fresh bytes ≡ token_at annotated bytes
  unfolding piece_at
  piece_token block skipped marker = rw (blank, line, comment, block, skipped, marker) refl

-- ---- within the text

starts_within : (text bytes : List ℕ) → starts text bytes ≡ true → length text ≤ length bytes
starts_within text bytes h = front_within (text, tt {0}, scope.Anywhere) false bytes h

starts_begins : (test : ℕ → Bool) (text bytes : List ℕ) → starts text bytes ≡ true → 0 < length text → begins test text ≡ begins test bytes
starts_begins test text bytes h lt = front_begins test (text, tt {0}, scope.Anywhere) false bytes h lt

-- what begins with no newline has a byte on its line
line_some : (text bytes : List ℕ) → starts text bytes ≡ true → 0 < length text → begins (λ b. not (is_newline b)) text ≡ true → 0 < line_len bytes
line_some text bytes h lt first = some_run (λ b. not (is_newline b)) bytes (sym (starts_begins (λ b. not (is_newline b)) text bytes h lt) ∙ first)

line_within : (text bytes : List ℕ) → starts text bytes ≡ true → 0 < length text → begins (λ b. not (is_newline b)) text ≡ true → Within bytes (piece.Skip (line_len bytes))
line_within text bytes h lt first = (line_some text bytes h lt first, prefix_len-le-length (λ b. not (is_newline b)) bytes)

-- what is closed lies within
abbrev Closes : List ℕ → Option ℕ → Type 0
Closes bytes None = Unit {0}
Closes bytes (Some n) = n + 2 ≤ length bytes

one_more : (b : ℕ) (bytes : List ℕ) (found : Option ℕ) → Closes bytes found → Closes (b ∷ bytes) (option_map suc found)
one_more b bytes None h = tt
one_more b bytes (Some n) h = omega (arith, h)

has_byte : (bytes : List ℕ) → begins (λ c. c == 47) bytes ≡ true → 1 ≤ length bytes
has_byte [] h = absurd (false≢true h)
has_byte (c ∷ bytes) h = omega arith

close_here : (b : ℕ) (bytes : List ℕ) → Closes bytes (close_at bytes) → (here : Bool) → ((b == 42) && begins (λ c. c == 47) bytes) ≡ here → Closes (b ∷ bytes) (cond here (Some 0) (option_map suc (close_at bytes)))
close_here b bytes rest true h = omega (arith, has_byte bytes (and_right (b == 42) _ h))
close_here b bytes rest false h = one_more b bytes (close_at bytes) rest

close_within : (bytes : List ℕ) → Closes bytes (close_at bytes)
close_within [] = tt
close_within (b ∷ bytes) = close_here b bytes (close_within bytes) ((b == 42) && begins (λ c. c == 47) bytes) refl

annot_within : (bytes : List ℕ) → 3 ≤ length bytes → (found : Option ℕ) → Closes (drop 3 bytes) found → Within bytes (if_closed found (λ n. piece.Annot n 2))
annot_within bytes le None h = tt
annot_within bytes le (Some n) h = omega (arith, le, h, length-drop 3 bytes)

comment_within : (bytes : List ℕ) → 2 ≤ length bytes → (plain : Bool) → (found : Option ℕ) → Closes (drop 2 bytes) found → Within bytes (if_closed (cond plain (option_map (λ n. n + 4) found) None) (λ n. piece.Skip n))
comment_within bytes le true None h = tt
comment_within bytes le true (Some n) h = (omega arith, omega (arith, le, h, length-drop 2 bytes))
comment_within bytes le false found h = tt

marker_within : (annotated fresh : Bool) (bytes : List ℕ) → starts (codes "#") bytes ≡ true → Within bytes (marker_at annotated fresh bytes)
marker_within annotated fresh bytes h = by_digit (fresh && digit_follows annotated 0 (drop 1 bytes))
  where
    by_digit : (marks : Bool) → Within bytes (cond marks (piece.Skip (line_len bytes)) (piece.Fault rule.Lexical))
    by_digit true = line_within (codes "#") bytes h (omega arith) refl
    by_digit false = tt

module _ (annotated fresh : Bool) (bytes : List ℕ) (some : 0 < length bytes) where
  within_by : (blank line comment block skipped marker : Bool) → opens annotated (codes "//@") bytes ≡ line → starts (codes "//") bytes ≡ comment → opens annotated (codes "/*@") bytes ≡ block → opens annotated (codes "/*") bytes ≡ skipped
      → starts (codes "#") bytes ≡ marker
      → Within bytes (cond blank (piece.Skip 1) (cond line (piece.Annot (line_len (drop 3 bytes)) 0) (cond comment (piece.Skip (line_len bytes)) (cond block (if_closed (close_at (drop 3 bytes)) (λ n. piece.Annot n 2))
      (cond skipped (if_closed (comment_len annotated bytes) (λ n. piece.Skip n)) (cond marker (marker_at annotated fresh bytes) (token_at annotated bytes)))))))
  within_by true line comment block skipped marker l c b s m = (omega arith, some)
  within_by false true comment block skipped marker l c b s m =
      let le = starts_within (codes "//@") bytes (and_right (not annotated) _ l) in
      omega (arith, le, length-drop 3 bytes, prefix_len-le-length (λ b. not (is_newline b)) (drop 3 bytes))
  within_by false false true block skipped marker l c b s m = line_within (codes "//") bytes c (omega arith) refl
  within_by false false false true skipped marker l c b s m = annot_within bytes (starts_within (codes "/*@") bytes (and_right (not annotated) _ b)) (close_at (drop 3 bytes)) (close_within (drop 3 bytes))
  within_by false false false false true marker l c b s m =
      comment_within bytes (starts_within (codes "/*") bytes (and_right (not annotated) _ s)) (not annotated && starts (codes "/*") bytes && not (starts (codes "/*@") bytes)) (close_at (drop 2 bytes)) (close_within (drop 2 bytes))
  within_by false false false false false true l c b s m = marker_within annotated fresh bytes m
  within_by false false false false false false l c b s m = token_within annotated bytes

  pub piece_within_text : Within bytes (piece_at annotated fresh bytes)
  unfolding piece_at
  piece_within_text = within_by (begins (is_blank annotated) bytes) _ _ _ _ _ refl refl refl refl refl

-- in an annotation none begins
abbrev pub NoAnnot : Piece → Type 0
NoAnnot (piece.Annot n close) = ⊥
NoAnnot _ = Unit {0}

no_annot_kind : (n : ℕ) (kind : Result TokenKind Rule) → NoAnnot (piece_of n kind)
no_annot_kind n (Ok kind) = tt
no_annot_kind n (Err broken) = tt

no_annot_token : (annotated : Bool) (bytes : List ℕ) → NoAnnot (token_at annotated bytes)
unfolding token_at
no_annot_token annotated bytes = no_annot_kind _ (kind_of annotated (take (longest (is_lexeme annotated) bytes (length bytes)) bytes))

no_annot_by : (blank comment marker marks : Bool) (bytes : List ℕ) (last : Piece) → NoAnnot last
    → NoAnnot (cond blank (piece.Skip 1) (cond comment (piece.Skip (line_len bytes)) (cond marker (cond marks (piece.Skip (line_len bytes)) (piece.Fault rule.Lexical)) last)))
no_annot_by true comment marker marks bytes last h = tt
no_annot_by false true marker marks bytes last h = tt
no_annot_by false false true true bytes last h = tt
no_annot_by false false true false bytes last h = tt
no_annot_by false false false marks bytes last h = h

pub no_annot : (fresh : Bool) (bytes : List ℕ) → NoAnnot (piece_at true fresh bytes)
unfolding piece_at
no_annot fresh bytes =
    no_annot_by (begins (is_blank true) bytes) (starts (codes "//") bytes) (starts (codes "#") bytes) (fresh && digit_follows true 0 (drop 1 bytes)) bytes (token_at true bytes) (no_annot_token true bytes)

pub never_annot : (fresh : Bool) (bytes : List ℕ) (n close : ℕ) → piece.Annot n close ≡ piece_at true fresh bytes → ⊥
never_annot fresh bytes n close e = subst NoAnnot (sym e) (no_annot fresh bytes)
