-- The items of a text, step by step, and the answer behind the tokens that are found.
use Rattle.std.proofs.Common.{◌≡◌, ℕ, zero, suc, ◌+◌, ◌-◌, ◌<◌, ◌≤◌, Bool, true, false, cond, List, [], ◌∷◌, ◌++◌, length, take, drop, Result, Ok, Err, refl, sym, ap, ◌∙◌, subst, arith, append_assoc}
use Rattle.std.proofs.lemmas.List.{length-drop, length-take, length-append, drop-drop}
use Rattle.wp_base.specs.declared.answers.Rule.{Rule}
use Rattle.wp_base.specs.declared.answers.Rule.TheVariants as rule
use Rattle.wp_base.specs.declared.answers.Refusal.{Refusal}
use Rattle.wp_base.specs.declared.answers.Stop.{Stop}
use Rattle.wp_base.specs.declared.answers.Stop.TheVariants as stop
use Rattle.c_syntax.specs.declared.token.Token.{Token}
use Rattle.c_syntax.specs.declared.token.TokenKind.{TokenKind}
use Rattle.c_syntax.specs.declared.token.TokenKind.TheVariants as k
use Rattle.c_lexer.specs.declared.piece.Piece.{Piece}
use Rattle.c_lexer.specs.declared.piece.Piece.TheVariants as piece
use Rattle.c_lexer.specs.declared.place.Place.{Place}
use Rattle.c_lexer.specs.Bytes.{is_newline}
use Rattle.c_lexer.specs.Lexemes.{may_end}
use Rattle.c_lexer.specs.Pieces.{piece_at}
use Rattle.c_lexer.specs.Tokens.{line_after, fresh_after, Item, token, fault, token_on, fault_on, items_by, items_from, put_first, answer, most_tokens, StopsWith}
use Rattle.c_lexer.specs.Steps.{all_items, items_at, ahead_of, answer_behind, Steps}
use Rattle.c_lexer.proofs.Marks.{Within}
use Rattle.c_lexer.proofs.Cut.{piece_within_text}

-- ---- as many turns as there are bytes are enough

module _ (go other : Bool → ℕ → Bool → List ℕ → List Item) (annotated : Bool) (line : ℕ) (fresh : Bool) (bytes : List ℕ)
    (alike : (annotated : Bool) (line : ℕ) (fresh : Bool) (shorter : List ℕ) → length shorter < length bytes → go annotated line fresh shorter ≡ other annotated line fresh shorter) where
  by_alike : (p : Piece) → Within bytes p → items_by go annotated line fresh bytes p ≡ items_by other annotated line fresh bytes p
  by_alike (piece.Skip n) h = alike annotated _ _ (drop n bytes) (omega (arith, h.0, h.1, length-drop n bytes))
  by_alike (piece.Token kind n) h =
      ap (λ items. token_on line kind ∷ cond (may_end kind (drop n bytes)) items (fault_on line rule.Lexical ∷ [])) (alike annotated line false (drop n bytes) (omega (arith, h.0, h.1, length-drop n bytes)))
  by_alike (piece.Annot n close) h =
      let inside = alike true line false (take n (drop 3 bytes)) (omega (arith, h, length-take n (drop 3 bytes), length-drop 3 bytes)) in
      let last = line_after line (take n (drop 3 bytes)) in
      let behind = alike annotated last false (drop (n + close) (drop 3 bytes)) (omega (arith, h, length-drop (n + close) (drop 3 bytes), length-drop 3 bytes)) in
      λ i. token_on line k.AnnotOpen ∷ inside i ++ token_on last k.AnnotClose ∷ behind i
  by_alike (piece.Fault broken) h = refl

turns_alike : (t u : ℕ) (annotated : Bool) (line : ℕ) (fresh : Bool) (bytes : List ℕ) → length bytes ≤ t → length bytes ≤ u → items_from t annotated line fresh bytes ≡ items_from u annotated line fresh bytes
turns_alike zero zero annotated line fresh bytes le le' = refl
turns_alike zero (suc u) annotated line fresh [] le le' = refl
turns_alike zero (suc u) annotated line fresh (b ∷ bytes) le le' = absurd (omega (arith, le))
turns_alike (suc t) zero annotated line fresh [] le le' = refl
turns_alike (suc t) zero annotated line fresh (b ∷ bytes) le le' = absurd (omega (arith, le'))
turns_alike (suc t) (suc u) annotated line fresh [] le le' = refl
turns_alike (suc t) (suc u) annotated line fresh (b ∷ bytes) le le' =
    by_alike
    (λ annotated line fresh bytes. items_from t annotated line fresh bytes)
    (λ annotated line fresh bytes. items_from u annotated line fresh bytes)
    annotated line fresh (b ∷ bytes)
    (λ annotated line fresh shorter lt. turns_alike t u annotated line fresh shorter (omega (arith, lt, le)) (omega (arith, lt, le')))
    (piece_at annotated fresh (b ∷ bytes))
    (piece_within_text annotated fresh (b ∷ bytes) (omega arith))

pub step_is : (annotated : Bool) (line : ℕ) (fresh : Bool) (bytes : List ℕ) → 0 < length bytes → all_items annotated line fresh bytes ≡ items_at annotated line fresh bytes (piece_at annotated fresh bytes)
step_is annotated line fresh [] lt = absurd (omega arith)
step_is annotated line fresh (b ∷ bytes) lt =
    by_alike
    (λ annotated line fresh xs. items_from (length bytes) annotated line fresh xs)
    (λ annotated line fresh xs. all_items annotated line fresh xs)
    annotated line fresh (b ∷ bytes)
    (λ annotated line fresh shorter lt. turns_alike (length bytes) (length shorter) annotated line fresh shorter (omega (arith, lt)) (omega arith))
    (piece_at annotated fresh (b ∷ bytes))
    (piece_within_text annotated fresh (b ∷ bytes) (omega arith))

pub piece_step : (annotated : Bool) (line : ℕ) (fresh : Bool) (bytes : List ℕ) (p : Piece) → 0 < length bytes → p ≡ piece_at annotated fresh bytes → items_at annotated line fresh bytes p ≡ all_items annotated line fresh bytes
piece_step annotated line fresh bytes p lt e = ap (items_at annotated line fresh bytes) e ∙ sym (step_is annotated line fresh bytes lt)

-- a step over the piece is one over the bytes
pub stepped : (annotated : Bool) (old new : List Token) (line : ℕ) (fresh : Bool) (bytes : List ℕ) (p : Piece) (r : Result Place Stop) → 0 < length bytes → p ≡ piece_at annotated fresh bytes → Steps annotated old new bytes (items_at annotated line fresh bytes p) r
    → Steps annotated old new bytes (all_items annotated line fresh bytes) r
stepped annotated old new line fresh bytes p r lt e h = subst (λ items. Steps annotated old new bytes items r) (piece_step annotated line fresh bytes p lt e) h

pub within_step : (annotated fresh : Bool) (bytes : List ℕ) (p : Piece) → 0 < length bytes → p ≡ piece_at annotated fresh bytes → Within bytes p
within_step annotated fresh bytes p lt e = subst (Within bytes) (sym e) (piece_within_text annotated fresh bytes lt)

-- ---- lines

grows_by : (newline : Bool) (line : ℕ) (bytes : List ℕ) → ((line : ℕ) → line_after line bytes ≤ line + length bytes) → line_after (cond newline (line + 1) line) bytes ≤ line + suc (length bytes)
grows_by true line bytes h = omega (arith, h (line + 1))
grows_by false line bytes h = omega (arith, h line)

pub line_grows : (line : ℕ) (bytes : List ℕ) → line_after line bytes ≤ line + length bytes
line_grows line [] = omega arith
line_grows line (b ∷ bytes) = grows_by (is_newline b) line bytes (λ line. line_grows line bytes)

-- ---- tokens and faults

ahead_of-more : (found : List Token) (t : Token) (given : Result (List Token) Refusal) → ahead_of (found ++ t ∷ []) given ≡ ahead_of found (put_first t given)
ahead_of-more found t (Ok ts) = ap (λ ts. Ok ts) (append_assoc found (t ∷ []) ts)
ahead_of-more found t (Err refusal) = refl

pub token_put : (found : List Token) (t : Token) (items : List Item) → length found < most_tokens → answer_behind (found ++ t ∷ []) items ≡ answer_behind found (token t ∷ items)
token_put found t items lt =
    let room : most_tokens - length found ≡ suc (most_tokens - length (found ++ t ∷ [])) = omega (arith, lt, length-append found (t ∷ [])) in
    ahead_of-more found t (answer (most_tokens - length (found ++ t ∷ [])) items) ∙ ap (λ room. ahead_of found (answer room (token t ∷ items))) (sym room)

pub no_room : (found : List Token) (t : Token) (items : List Item) → most_tokens ≤ length found → answer_behind found (token t ∷ items) ≡ Err (record { rule = rule.Limit; line = t.line })
no_room found t items le = let room : most_tokens - length found ≡ 0 = omega (arith, le) in ap (λ room. ahead_of found (answer room (token t ∷ items))) room

fault_any : (room : ℕ) (refusal : Refusal) (items : List Item) → answer room (fault refusal ∷ items) ≡ Err refusal
fault_any zero refusal items = refl
fault_any (suc room) refusal items = refl

pub fault_first : (found : List Token) (refusal : Refusal) (items : List Item) → answer_behind found (fault refusal ∷ items) ≡ Err refusal
fault_first found refusal items = ap (ahead_of found) (fault_any (most_tokens - length found) refusal items)

no_items : (room : ℕ) → answer room [] ≡ Ok []
no_items zero = refl
no_items (suc room) = refl

append_nil : {X : Type 0} (xs : List X) → xs ++ [] ≡ xs
append_nil [] = refl
append_nil (x ∷ xs) = ap (λ xs. x ∷ xs) (append_nil xs)

pub all_found : (found : List Token) → answer_behind found [] ≡ Ok found
all_found found = ap (ahead_of found) (no_items (most_tokens - length found)) ∙ ap (λ ts. Ok ts) (append_nil found)

-- ---- steps

module _ (annotated : Bool) (old new : List Token) (line : ℕ) (kind : TokenKind) (n : ℕ) (bytes : List ℕ) where
  pub token_ends : ((items : List Item) → answer_behind new items ≡ answer_behind old (token_on line kind ∷ items)) → may_end kind (drop n bytes) ≡ true
      → Steps annotated old new bytes (items_at annotated line false bytes (piece.Token kind n)) (Ok (record { line = line; fresh = false; len = n }))
  token_ends h e more = rw e (h (all_items annotated line false (drop n bytes) ++ more))

  pub token_runs_on : ((items : List Item) → answer_behind new items ≡ answer_behind old (token_on line kind ∷ items)) → may_end kind (drop n bytes) ≡ false
      → Steps annotated old new bytes (items_at annotated line false bytes (piece.Token kind n)) (Err (stop.Refused (record { rule = rule.Lexical; line = line })))
  token_runs_on h e more = rw e (sym (h (fault_on line rule.Lexical ∷ more)) ∙ fault_first new (record { rule = rule.Lexical; line = line }) more)

  pub token_stops : (stop : Stop) → ((items : List Item) → StopsWith stop (answer_behind old (token_on line kind ∷ items))) → Steps annotated old new bytes (items_at annotated line false bytes (piece.Token kind n)) (Err stop)
  token_stops stop h more = h _

pub skip_step : (annotated : Bool) (old : List Token) (line : ℕ) (fresh : Bool) (n : ℕ) (bytes : List ℕ)
    → Steps annotated old old bytes (items_at annotated line fresh bytes (piece.Skip n)) (Ok (record { line = line_after line (take n bytes); fresh = fresh_after fresh (take n bytes); len = n }))
skip_step annotated old line fresh n bytes more = refl

pub fault_step : (annotated : Bool) (old new : List Token) (line : ℕ) (fresh : Bool) (broken : Rule) (bytes : List ℕ)
    → Steps annotated old new bytes (items_at annotated line fresh bytes (piece.Fault broken)) (Err (stop.Refused (record { rule = broken; line = line })))
fault_step annotated old new line fresh broken bytes more = fault_first old (record { rule = broken; line = line }) more

module _ (old t1 t2 new : List Token) (line last n close : ℕ) (bytes : List ℕ) where
  abbrev text : List ℕ
  text = take n (drop 3 bytes)

  pub annotation_step : ((items : List Item) → answer_behind t1 items ≡ answer_behind old (token_on line k.AnnotOpen ∷ items))
      → ((items : List Item) → answer_behind t2 items ≡ answer_behind t1 (all_items true line false (take n (drop 3 bytes)) ++ items))
      → ((items : List Item) → answer_behind new items ≡ answer_behind t2 (token_on last k.AnnotClose ∷ items))
      → last ≡ line_after line (take n (drop 3 bytes))
      → Steps false old new bytes (items_at false line false bytes (piece.Annot n close)) (Ok (record { line = last; fresh = false; len = 3 + n + close }))
  annotation_step h1 h2 h3 e more =
      let inside : List Item = all_items true line false text in
      let behind : List Item = all_items false last false (drop (3 + n + close) bytes) in
      let opened : answer_behind t1 (inside ++ (token_on last k.AnnotClose ∷ (behind ++ more))) ≡ answer_behind old (token_on line k.AnnotOpen ∷ (inside ++ (token_on last k.AnnotClose ∷ (behind ++ more)))) =
      h1 (inside ++ (token_on last k.AnnotClose ∷ (behind ++ more)))
      in
      let read : answer_behind t2 (token_on last k.AnnotClose ∷ (behind ++ more)) ≡ answer_behind t1 (inside ++ (token_on last k.AnnotClose ∷ (behind ++ more))) = h2 (token_on last k.AnnotClose ∷ (behind ++ more)) in
      let ended : answer_behind new (behind ++ more) ≡ answer_behind t2 (token_on last k.AnnotClose ∷ (behind ++ more)) = h3 (behind ++ more) in
      let grouped : (inside ++ (token_on last k.AnnotClose ∷ (behind ++ more))) ≡ ((inside ++ (token_on last k.AnnotClose ∷ behind)) ++ more) = sym (append_assoc inside (token_on last k.AnnotClose ∷ behind) more) in
      let past : drop (3 + n + close) bytes ≡ drop (n + close) (drop 3 bytes) = drops in
      ended ∙ read ∙ opened ∙ (λ i. answer_behind old (token_on line k.AnnotOpen ∷ grouped i))
      ∙ (λ i. answer_behind old (token_on line k.AnnotOpen ∷ ((inside ++ (token_on (e i) k.AnnotClose ∷ all_items false (e i) false (past i))) ++ more)))
    where
      drops : drop (3 + n + close) bytes ≡ drop (n + close) (drop 3 bytes)
      drops = let sum : 3 + n + close ≡ 3 + (n + close) = omega arith in ap (λ j. drop j bytes) sum ∙ sym (drop-drop (n + close) 3 bytes)

-- behind the last item there is none
pub goes_on : (old new : List Token) (xs ys : List Item) → ((more : List Item) → answer_behind new (xs ++ more) ≡ answer_behind old (ys ++ more)) → answer_behind new xs ≡ answer_behind old ys
goes_on old new xs ys h = ap (answer_behind new) (sym (append_nil xs)) ∙ h [] ∙ ap (answer_behind old) (append_nil ys)

pub stops : (old : List Token) (items : List Item) (end : Stop) (given : Result (List Token) Refusal) → ((more : List Item) → StopsWith end (answer_behind old (items ++ more))) → answer_behind old items ≡ given → StopsWith end given
stops old items stop.NoMemory given h e = tt
stops old items (stop.Refused refusal) given h e = sym e ∙ ap (answer_behind old) (sym (append_nil items)) ∙ h []

pub stops_more : (end : Stop) (given other : Result (List Token) Refusal) → StopsWith end given → given ≡ other → StopsWith end other
stops_more end given other h e = subst (StopsWith end) e h

-- ---- what a step over a piece leaves

pub fits : (annotated fresh : Bool) (bytes : List ℕ) (p q : Piece) → 0 < length bytes → p ≡ q → p ≡ piece_at annotated fresh bytes → Within bytes q
fits annotated fresh bytes p q lt e found = subst (Within bytes) e (within_step annotated fresh bytes p lt found)

abbrev pub Bound : (line : ℕ) → List ℕ → Place → Type 0
Bound line bytes place = (0 < place.len) × (place.len ≤ length bytes) × (place.line ≤ line + place.len)

pub skip_bound : (line : ℕ) (fresh : Bool) (n : ℕ) (bytes : List ℕ) (place : Place) → (0 < n) × (n ≤ length bytes) → place ≡ record { line = line_after line (take n bytes); fresh = fresh_after fresh (take n bytes); len = n } → Bound line bytes place
skip_bound line fresh n bytes place h e =
    subst (Bound line bytes) (sym e) (h.0, h.1, omega (arith, h.1, line_grows line (take n bytes), length-take n bytes))

pub token_bound : (line n : ℕ) (bytes : List ℕ) (place : Place) → (0 < n) × (n ≤ length bytes) → place ≡ record { line = line; fresh = false; len = n } → Bound line bytes place
token_bound line n bytes place h e = subst (Bound line bytes) (sym e) (h.0, h.1, omega arith)

pub annotation_bound : (line n close : ℕ) (bytes : List ℕ) (place : Place) → 3 + n + close ≤ length bytes → (place.len ≡ 3 + n + close) × (place.line ≤ line + n) → Bound line bytes place
annotation_bound line n close bytes place le h = (omega (arith, h.0), omega (arith, h.0, le), omega (arith, h.0, h.1))

pub skip_steps : (annotated : Bool) (old : List Token) (line : ℕ) (fresh : Bool) (n : ℕ) (bytes : List ℕ) (place : Place) → 0 < length bytes → piece.Skip n ≡ piece_at annotated fresh bytes
    → place ≡ record { line = line_after line (take n bytes); fresh = fresh_after fresh (take n bytes); len = n } → Steps annotated old old bytes (all_items annotated line fresh bytes) (Ok place)
skip_steps annotated old line fresh n bytes place lt found e =
    subst (λ place. Steps annotated old old bytes (all_items annotated line fresh bytes) (Ok place)) (sym e) (stepped annotated old old line fresh bytes (piece.Skip n) (Ok (record { line = line_after line (take n bytes); fresh = fresh_after fresh (take n bytes); len = n })) lt found (skip_step annotated old line fresh n bytes))
