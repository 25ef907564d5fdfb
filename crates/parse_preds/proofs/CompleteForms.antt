-- What is spelled as a predicate is read as that predicate.
use Rattle.std.proofs.Common.{◌≡◌, ℕ, zero, suc, ◌-◌, ◌≤◌, Bool, true, false, eqb, List, [], ◌∷◌, ◌++◌, length, Some, None, refl, sym, ap, ◌∙◌, subst, arith, append_assoc, length-append}
use Rattle.std.proofs.lemmas.Bool.Decides.{nat_tests}
use Rattle.c_syntax.specs.declared.token.Token.{Token}
use Rattle.c_syntax.specs.declared.token.TokenKind.{TokenKind}
use Rattle.c_syntax.specs.declared.token.TokenKind.TheVariants as k
use Rattle.c_syntax.specs.declared.token.Punct.TheVariants as p
use Rattle.c_syntax.specs.declared.token.Word.TheVariants as w
use Rattle.c_syntax.specs.Expr as e
use Rattle.c_syntax.specs.Term as t
use Rattle.c_syntax.specs.Pred as r
use Rattle.c_grammar.specs.Tokens.{Names, is_type, punct, word, name}
use Rattle.c_grammar.specs.Terms.{anywhere, SpellsTerm}
use Rattle.c_grammar.specs.Preds as g
use Rattle.c_grammar.specs.Preds.{SpellsBinders, SpellsAtom, SpellsOperand, SpellsJoined, SpellsImplied, SpellsIff, SpellsPred, connected}
use Rattle.c_grammar.specs.Reading.{Reader, punct_at}
use Rattle.c_grammar.proofs.Levels.{Ends, Reads, reads_all, looser_to, flat}
use Rattle.parse_terms.specs.Next.{begins_chain, begins_chain_by}
use Rattle.parse_preds.specs.Next.{ends_atom, ends_pred, connective_at}
use Rattle.parse_preds.specs.Read.{seen_as, atom_at, Form, an_operand, an_implied, a_whole, quantified, let_at, operand_by, operand_over, joined_over, implied_over, iff_at, iff_of, iff_over, whole_over, form_at, below_at, go_at}
use Rattle.parse_preds.proofs.Ends.{atom_may_end, no_connective, pred_stops, connective_ends, connective_takes, connective_skips}
use Rattle.parse_preds.proofs.Below.{Below}
use Rattle.parse_preds.proofs.Neutral.{pred_neutral, pred_no_type}
use Rattle.parse_preds.proofs.Reading.{operand_is, implied_is, whole_is, under_is}
use Rattle.parse_preds.proofs.Trailing.{reads_joined}
use Rattle.parse_preds.proofs.BindersComplete.{binders_complete}
use Rattle.parse_preds.proofs.Complete.{chain_begins, chain_complete, semicolon_ends, atom_chain, ReadsAtom, ReadsInside, atom_always, atom_never, atom_valid, atom_valid_read, atom_separated, atom_old, atom_parens, atom_named, atom_call}

-- ---- what may come behind

abbrev StopsOf : Bool → List Token → Type 0
StopsOf true rest = ends_pred rest ≡ true
StopsOf false rest = ends_atom rest ≡ true

stops_any : (trails : Bool) (rest : List Token) → ends_pred rest ≡ true → StopsOf trails rest
stops_any true rest h = h
stops_any false rest h = atom_may_end rest h

abbrev StopsImplied : Bool → List Token → Type 0
StopsImplied trails rest = StopsOf trails rest × ((n : ℕ) → connective_at n rest ≡ None) × (punct_at p.Implies rest ≡ None)

stops_implied : (trails : Bool) (rest : List Token) → ends_pred rest ≡ true → StopsImplied trails rest
stops_implied trails rest h = (stops_any trails rest h, λ n. no_connective n rest h, pred_stops p.Implies refl rest h)

close_stops : (line : ℕ) (ts : List Token) → ends_pred (punct p.CloseParen line ∷ ts) ≡ true
unfolding ends_pred
close_stops line ts = refl

colon_stops : (line : ℕ) (ts : List Token) → ends_pred (punct p.Colon line ∷ ts) ≡ true
unfolding ends_pred
colon_stops line ts = refl

before_implies : (line : ℕ) (ts : List Token) → (ends_atom (punct p.Implies line ∷ ts) ≡ true) × ((n : ℕ) → connective_at n (punct p.Implies line ∷ ts) ≡ None)
unfolding ends_atom connective_at
before_implies line ts = (refl, λ n. refl)

before_iff : (line : ℕ) (ts : List Token) → StopsImplied false (punct p.Iff line ∷ ts)
unfolding ends_atom connective_at
before_iff line ts = (refl, λ n. refl, refl)

before_question : (line : ℕ) (ts : List Token) → StopsImplied false (punct p.Question line ∷ ts)
unfolding ends_atom connective_at
before_question line ts = (refl, λ n. refl, refl)

-- ---- atoms as operands

chain_is_operand : (types : Names) (room : ℕ) (below : Form → Reader r.Pred) (go : Reader r.Pred) (ts : List Token) → begins_chain types ts ≡ true → operand_over types room below go ts ≡ atom_at types room (below a_whole) ts
unfolding begins_chain
chain_is_operand types room below go [] h = absurd cc
chain_is_operand types room below go (t ∷ ts) h = by_kind t.kind h
  where
    by_kind : (kind : TokenKind) → begins_chain_by types kind ts ≡ true → operand_by types room below go t.line kind ts (t ∷ ts) ≡ atom_at types room (below a_whole) (t ∷ ts)
    by_kind (k.Punct p.Not) h = absurd cc
    by_kind (k.Word w.Forall) h = absurd cc
    by_kind (k.Word w.Exists) h = absurd cc
    by_kind (k.Word w.Let) h = absurd cc
    by_kind _ h = refl

-- an operand that begins as an atom is one
abbrev IsAtomAt : Names → List Token → Type 0
IsAtomAt types ts = (room : ℕ) (below : Form → Reader r.Pred) (go : Reader r.Pred) → operand_over types room below go ts ≡ atom_at types room (below a_whole) ts

atom_is_operand : {types : Names} → Below types → {room : ℕ} {xs : List Token} {a : r.Pred} → SpellsAtom types room xs a → (rest : List Token) → IsAtomAt types (xs ++ rest)
atom_is_operand laws g.always rest room below go = refl
atom_is_operand laws g.never rest room below go = refl
atom_is_operand {types} laws {xs = xs} (g.chain s is) rest room below go = chain_is_operand types room below go (xs ++ rest) (chain_begins laws s rest)
atom_is_operand {types} laws (g.valid line' line'' s eq) rest room below go = subst (λ xs. operand_over types room below go (xs ++ rest) ≡ atom_at types room (below a_whole) (xs ++ rest)) (sym eq) refl
atom_is_operand {types} laws (g.valid_read line' line'' s eq) rest room below go = subst (λ xs. operand_over types room below go (xs ++ rest) ≡ atom_at types room (below a_whole) (xs ++ rest)) (sym eq) refl
atom_is_operand {types} laws (g.separated line' line'' s eq) rest room below go = subst (λ xs. operand_over types room below go (xs ++ rest) ≡ atom_at types room (below a_whole) (xs ++ rest)) (sym eq) refl
atom_is_operand {types} laws (g.old line' line'' s eq) rest room below go = subst (λ xs. operand_over types room below go (xs ++ rest) ≡ atom_at types room (below a_whole) (xs ++ rest)) (sym eq) refl
atom_is_operand laws (g.named free) rest room below go = refl
atom_is_operand {types} laws (g.call line' line'' free s eq) rest room below go = subst (λ xs. operand_over types room below go (xs ++ rest) ≡ atom_at types room (below a_whole) (xs ++ rest)) (sym eq) refl
atom_is_operand {types} laws (g.parens line line' s eq) rest room below go = subst (λ xs. operand_over types room below go (xs ++ rest) ≡ atom_at types room (below a_whole) (xs ++ rest)) (sym eq) refl

-- ---- what reaches as far as it can

go_is : (types : Names) (room turns : ℕ) (ts : List Token) → go_at types room (suc turns) ts ≡ form_at types room turns a_whole ts
go_is types room turns ts =
    let some : eqb (suc turns) 0 ≡ false = grind (arith, nat_tests) in
    let less : suc turns - 1 ≡ turns = omega arith in
    rw (some, less) refl

quantified_reads : (types : Names) (go : Reader r.Pred) (make : List e.VarDecl → r.Pred → r.Pred) (first body : List Token) (line : ℕ) (xs : List e.VarDecl) (a : r.Pred) (rest : List Token) → SpellsBinders types first xs
    → go (body ++ rest) ≡ Some (a, rest) → ends_pred rest ≡ true → quantified types go make ((first ++ punct p.Semicolon line ∷ body) ++ rest) ≡ Some (make xs a, rest)
quantified_reads types go make first body line xs a rest s read ends =
    ap (quantified types go make) (append_assoc first (punct p.Semicolon line ∷ body) rest) ∙ rw (binders_complete s line (body ++ rest), read, ends) refl

let_reads : (types : Names) → Below types → (room : ℕ) (go : Reader r.Pred) (line line' line'' line''' : ℕ) (x : List ℕ) (value body : List Token) (v : t.Term) (a : r.Pred) (rest : List Token) → is_type types x ≡ false
    → SpellsTerm types anywhere room value v → go (body ++ rest) ≡ Some (a, rest) → ends_pred rest ≡ true
    → let_at types room go line (name x line' ∷ punct p.Assign line'' ∷ ((value ++ punct p.Semicolon line''' ∷ body) ++ rest)) ≡ Some (r.let_in line x v a, rest)
let_reads types laws room go line line' line'' line''' x value body v a rest free s read ends =
    let behind = punct p.Semicolon line''' ∷ (body ++ rest) in
    ap (λ l. let_at types room go line (name x line' ∷ punct p.Assign line'' ∷ l)) (append_assoc value (punct p.Semicolon line''' ∷ body) rest)
    ∙ rw (free, laws.term_complete room value v s behind (semicolon_ends line''' (body ++ rest)), read, ends) refl

-- a whole predicate, with turns for what is in it
abbrev ReadsWhole : Names → ℕ → List Token → r.Pred → Type 0
ReadsWhole types room xs a = (turns : ℕ) → length xs ≤ turns → (rest : List Token) → ends_pred rest ≡ true → form_at types room turns a_whole (xs ++ rest) ≡ Some (a, rest)

read_forall : (types : Names) (room line line' : ℕ) (first body : List Token) (xs : List e.VarDecl) (a : r.Pred) → SpellsBinders types first xs → ReadsWhole types room body a
    → (turns : ℕ) → length (word w.Forall line ∷ (first ++ punct p.Semicolon line' ∷ body)) ≤ turns → (rest : List Token) → ends_pred rest ≡ true
    → form_at types room turns an_operand ((word w.Forall line ∷ (first ++ punct p.Semicolon line' ∷ body)) ++ rest) ≡ Some (r.for_all line xs a, rest)
read_forall types room line line' first body xs a s whole zero le rest ends = absurd (omega arith)
read_forall types room line line' first body xs a s whole (suc turns) le rest ends =
    operand_is types room (suc turns) ((word w.Forall line ∷ (first ++ punct p.Semicolon line' ∷ body)) ++ rest)
    ∙ quantified_reads types (go_at types room (suc turns)) (r.for_all line) first body line' xs a rest s
    (go_is types room turns (body ++ rest) ∙ whole turns (omega (arith, length-append first (punct p.Semicolon line' ∷ body))) rest ends) ends

read_exists : (types : Names) (room line line' : ℕ) (first body : List Token) (xs : List e.VarDecl) (a : r.Pred) → SpellsBinders types first xs → ReadsWhole types room body a
    → (turns : ℕ) → length (word w.Exists line ∷ (first ++ punct p.Semicolon line' ∷ body)) ≤ turns → (rest : List Token) → ends_pred rest ≡ true
    → form_at types room turns an_operand ((word w.Exists line ∷ (first ++ punct p.Semicolon line' ∷ body)) ++ rest) ≡ Some (r.for_some line xs a, rest)
read_exists types room line line' first body xs a s whole zero le rest ends = absurd (omega arith)
read_exists types room line line' first body xs a s whole (suc turns) le rest ends =
    operand_is types room (suc turns) ((word w.Exists line ∷ (first ++ punct p.Semicolon line' ∷ body)) ++ rest)
    ∙ quantified_reads types (go_at types room (suc turns)) (r.for_some line) first body line' xs a rest s
    (go_is types room turns (body ++ rest) ∙ whole turns (omega (arith, length-append first (punct p.Semicolon line' ∷ body))) rest ends) ends

read_let : (types : Names) → Below types → (room line line' line'' line''' : ℕ) (x : List ℕ) (value body : List Token) (v : t.Term) (a : r.Pred) → is_type types x ≡ false → SpellsTerm types anywhere room value v
    → ReadsWhole types room body a
    → (turns : ℕ) → length (word w.Let line ∷ name x line' ∷ punct p.Assign line'' ∷ (value ++ punct p.Semicolon line''' ∷ body)) ≤ turns → (rest : List Token) → ends_pred rest ≡ true
    → form_at types room turns an_operand ((word w.Let line ∷ name x line' ∷ punct p.Assign line'' ∷ (value ++ punct p.Semicolon line''' ∷ body)) ++ rest) ≡ Some (r.let_in line x v a, rest)
read_let types laws room line line' line'' line''' x value body v a free s whole zero le rest ends = absurd (omega arith)
read_let types laws room line line' line'' line''' x value body v a free s whole (suc turns) le rest ends =
    operand_is types room (suc turns) ((word w.Let line ∷ name x line' ∷ punct p.Assign line'' ∷ (value ++ punct p.Semicolon line''' ∷ body)) ++ rest)
    ∙ let_reads types laws room (go_at types room (suc turns)) line line' line'' line''' x value body v a rest free s
    (go_is types room turns (body ++ rest) ∙ whole turns (omega (arith, length-append value (punct p.Semicolon line''' ∷ body))) rest ends) ends

-- ---- operators

implied_alone : (below : Form → Reader r.Pred) (operand : Reader r.Pred) (ts : List Token) (a : r.Pred) (rest : List Token) → joined_over operand ts ≡ Some (a, rest) → punct_at p.Implies rest ≡ None
    → implied_over below operand ts ≡ Some (a, rest)
implied_alone below operand ts a rest read none = rw (read, none) refl

implied_joined : (below : Form → Reader r.Pred) (operand : Reader r.Pred) (ts : List Token) (a b : r.Pred) (line : ℕ) (after rest : List Token) → joined_over operand ts ≡ Some (a, punct p.Implies line ∷ after)
    → below an_implied after ≡ Some (b, rest) → implied_over below operand ts ≡ Some (r.implies line a b, rest)
implied_joined below operand ts a b line after rest read right = rw (read, right) refl

whole_alone : (below : Form → Reader r.Pred) (implied : Reader r.Pred) (ts : List Token) (a : r.Pred) (rest : List Token) → iff_over implied ts ≡ Some (a, rest) → punct_at p.Question rest ≡ None
    → whole_over below implied ts ≡ Some (a, rest)
whole_alone below implied ts a rest read none = rw (read, none) refl

whole_cond : (below : Form → Reader r.Pred) (implied : Reader r.Pred) (ts : List Token) (a b c : r.Pred) (line line' : ℕ) (first second rest : List Token) → iff_over implied ts ≡ Some (a, punct p.Question line ∷ first)
    → below a_whole first ≡ Some (b, punct p.Colon line' ∷ second) → below a_whole second ≡ Some (c, rest) → whole_over below implied ts ≡ Some (r.cond line a b c, rest)
whole_cond below implied ts a b c line line' first second rest read left right = rw (read, left, right) refl

no_iff : (ts : List Token) → punct_at p.Iff ts ≡ None → Ends iff_at 1 ts
no_iff ts none zero le = refl
no_iff ts none (suc n) le = rw none refl

iff_skips : (ts : List Token) → Ends iff_at 0 ts
iff_skips ts zero le = refl
iff_skips ts (suc n) le = absurd (omega arith)

abbrev ReadsJoined : Names → (n room : ℕ) → Bool → List Token → r.Pred → Type 0
ReadsJoined types n room trails xs a = (turns : ℕ) → length xs ≤ turns → Reads connected connective_at (StopsOf trails) n (form_at types room turns an_operand) xs a

joined_end : (types : Names) (room : ℕ) (trails : Bool) (xs : List Token) (a : r.Pred) → ReadsJoined types 3 room trails xs a → (turns : ℕ) → length xs ≤ turns → (rest : List Token) → StopsOf trails rest
    → ((n : ℕ) → connective_at n rest ≡ None) → joined_over (form_at types room turns an_operand) (xs ++ rest) ≡ Some (a, rest)
joined_end types room trails xs a read turns le rest stops none =
    reads_all connected connective_at (StopsOf trails) 3 (form_at types room turns an_operand) xs a (read turns le) rest stops (λ m less. none m)

abbrev ReadsImplied : Names → (room : ℕ) → Bool → List Token → r.Pred → Type 0
ReadsImplied types room trails xs a = (turns : ℕ) → length xs ≤ turns → (rest : List Token) → StopsImplied trails rest → form_at types room turns an_implied (xs ++ rest) ≡ Some (a, rest)

abbrev ReadsIff : Names → (room : ℕ) → Bool → List Token → r.Pred → Type 0
ReadsIff types room trails xs a = (turns : ℕ) → length xs ≤ turns → Reads iff_of iff_at (StopsImplied trails) 1 (form_at types room turns an_implied) xs a

iff_end : (types : Names) (room : ℕ) (trails : Bool) (xs : List Token) (a : r.Pred) → ReadsIff types room trails xs a → (turns : ℕ) → length xs ≤ turns → (rest : List Token) → StopsImplied trails rest
    → punct_at p.Iff rest ≡ None → iff_over (form_at types room turns an_implied) (xs ++ rest) ≡ Some (a, rest)
iff_end types room trails xs a read turns le rest stops none =
    reads_all iff_of iff_at (StopsImplied trails) 1 (form_at types room turns an_implied) xs a (read turns le) rest stops (no_iff rest none)

read_implies : (types : Names) (room line : ℕ) (trails : Bool) (left right : List Token) (a b : r.Pred) → ReadsJoined types 3 (suc room) false left a → ReadsImplied types room trails right b
    → ReadsImplied types (suc room) trails (left ++ punct p.Implies line ∷ right) (r.implies line a b)
read_implies types room line trails left right a b ra rb turns le rest stops =
    let behind = right ++ rest in
    let before = before_implies line behind in
    let long = length-append left (punct p.Implies line ∷ right) in
    implied_is types (suc room) turns ((left ++ punct p.Implies line ∷ right) ++ rest)
    ∙ ap (implied_over (below_at types (suc room) turns) (form_at types (suc room) turns an_operand)) (append_assoc left (punct p.Implies line ∷ right) rest)
    ∙ implied_joined (below_at types (suc room) turns) (form_at types (suc room) turns an_operand) (left ++ punct p.Implies line ∷ behind) a b line behind rest
    (joined_end types (suc room) false left a ra turns (omega (arith, long)) (punct p.Implies line ∷ behind) before.0 before.1)
    (under_is types room turns an_implied behind ∙ rb turns (omega (arith, long)) rest stops)

read_iff : (types : Names) (room line : ℕ) (trails : Bool) (left right : List Token) (a b : r.Pred) → ReadsIff types room false left a → ReadsImplied types room trails right b
    → ReadsIff types room trails (left ++ punct p.Iff line ∷ right) (r.iff line a b)
read_iff types room line trails left right a b ra rb turns le =
    let long = length-append left (punct p.Iff line ∷ right) in
    let read = form_at types room turns an_implied in
    reads_joined iff_of iff_at (StopsImplied false) (StopsImplied trails) 0 line p.Iff read (punct p.Iff line) left right a b (λ rest. refl) (λ rest. iff_skips (punct p.Iff line ∷ (right ++ rest)))
    (λ rest. before_iff line (right ++ rest)) (ra turns (omega (arith, long))) (flat iff_of iff_at (StopsImplied trails) 0 read right b (rb turns (omega (arith, long))))

read_cond : (types : Names) (room line line' : ℕ) (test first second : List Token) (a b c : r.Pred) → ReadsIff types (suc room) false test a → ReadsWhole types room first b → ReadsWhole types room second c
    → ReadsWhole types (suc room) (test ++ punct p.Question line ∷ (first ++ punct p.Colon line' ∷ second)) (r.cond line a b c)
read_cond types room line line' test first second a b c ra rb rc turns le rest ends =
    let behind = first ++ punct p.Colon line' ∷ (second ++ rest) in
    let long = length-append test (punct p.Question line ∷ (first ++ punct p.Colon line' ∷ second)) in
    let long' = length-append first (punct p.Colon line' ∷ second) in
    let split : (test ++ punct p.Question line ∷ (first ++ punct p.Colon line' ∷ second)) ++ rest ≡ test ++ punct p.Question line ∷ behind =
    append_assoc test (punct p.Question line ∷ (first ++ punct p.Colon line' ∷ second)) rest ∙ ap (λ l. test ++ punct p.Question line ∷ l) (append_assoc first (punct p.Colon line' ∷ second) rest) in
    whole_is types (suc room) turns ((test ++ punct p.Question line ∷ (first ++ punct p.Colon line' ∷ second)) ++ rest)
    ∙ ap (whole_over (below_at types (suc room) turns) (form_at types (suc room) turns an_implied)) split
    ∙ whole_cond (below_at types (suc room) turns) (form_at types (suc room) turns an_implied) (test ++ punct p.Question line ∷ behind) a b c line line' behind (second ++ rest) rest
    (iff_end types (suc room) false test a ra turns (omega (arith, long)) (punct p.Question line ∷ behind) (before_question line behind) refl)
    (under_is types room turns a_whole behind ∙ rb turns (omega (arith, long, long')) (punct p.Colon line' ∷ (second ++ rest)) (colon_stops line' (second ++ rest)))
    (under_is types room turns a_whole (second ++ rest) ∙ rc turns (omega (arith, long, long')) rest ends)

-- what parentheses enclose
inside_reads : (types : Names) (room : ℕ) (inside : List Token) (a : r.Pred) → ReadsWhole types room inside a → (turns : ℕ) → length inside ≤ turns → ReadsInside (below_at types (suc room) turns a_whole) inside a
inside_reads types room inside a read turns le line rest =
    under_is types room turns a_whole (inside ++ punct p.CloseParen line ∷ rest) ∙ read turns le (punct p.CloseParen line ∷ rest) (close_stops line rest)

-- ---- every form

abbrev ReadsOperand : Names → (room : ℕ) → Bool → List Token → r.Pred → Type 0
ReadsOperand types room trails xs a = (turns : ℕ) → length xs ≤ turns → (rest : List Token) → StopsOf trails rest → form_at types room turns an_operand (xs ++ rest) ≡ Some (a, rest)

abbrev ReadsAsAtom : Names → (room : ℕ) → List Token → r.Pred → Type 0
ReadsAsAtom types room xs a = (turns : ℕ) → length xs ≤ turns → ReadsAtom types room (below_at types room turns a_whole) xs a

not_operand : (types : Names) (room line : ℕ) (trails : Bool) (inside : List Token) (a : r.Pred) → ReadsOperand types room trails inside a → ReadsOperand types (suc room) trails (punct p.Not line ∷ inside) (r.not_of line a)
not_operand types room line trails inside a read turns le rest stops =
    operand_is types (suc room) turns (punct p.Not line ∷ (inside ++ rest))
    ∙ ap (seen_as (r.not_of line)) (under_is types room turns an_operand (inside ++ rest) ∙ read turns (omega arith) rest stops)

in_bracket : (front : Token) (line line' turns : ℕ) (inside : List Token) → length (front ∷ punct p.OpenParen line ∷ (inside ++ punct p.CloseParen line' ∷ [])) ≤ turns → length inside ≤ turns
in_bracket front line line' turns inside le = omega (arith, length-append inside (punct p.CloseParen line' ∷ []))

in_parens : (line line' turns : ℕ) (inside : List Token) → length (punct p.OpenParen line ∷ (inside ++ punct p.CloseParen line' ∷ [])) ≤ turns → length inside ≤ turns
in_parens line line' turns inside le = omega (arith, length-append inside (punct p.CloseParen line' ∷ []))

mutual
  atom_complete : {types : Names} → Below types → {room : ℕ} {xs : List Token} {a : r.Pred} → SpellsAtom types room xs a → ReadsAsAtom types room xs a
  atom_complete {types} laws (g.always {room} {line}) = λ turns le. atom_always types room (below_at types room turns a_whole) line
  atom_complete {types} laws (g.never {room} {line}) = λ turns le. atom_never types room (below_at types room turns a_whole) line
  atom_complete {types} laws {room} {xs} (g.chain s is) =
      λ turns le rest ends. atom_chain types room (below_at types room turns a_whole) (xs ++ rest) (chain_begins laws s rest) ∙ chain_complete laws s is rest ends
  atom_complete {types} laws (g.valid {room} {line} line' line'' {inside} {a} s eq) =
      subst (λ xs. ReadsAsAtom types (suc room) xs (r.valid line a)) (sym eq) (λ turns le. atom_valid laws room (below_at types (suc room) turns a_whole) line line' line'' inside a s)
  atom_complete {types} laws (g.valid_read {room} {line} line' line'' {inside} {a} s eq) =
      subst (λ xs. ReadsAsAtom types (suc room) xs (r.valid_read line a)) (sym eq) (λ turns le. atom_valid_read laws room (below_at types (suc room) turns a_whole) line line' line'' inside a s)
  atom_complete {types} laws (g.separated {room} {line} line' line'' {inside} {pointers} s eq) =
      subst (λ xs. ReadsAsAtom types (suc room) xs (r.separated line pointers)) (sym eq) (λ turns le. atom_separated laws room (below_at types (suc room) turns a_whole) line line' line'' inside pointers s)
  atom_complete {types} laws (g.old {room} {line} line' line'' {inside} {a} s eq) =
      subst (λ xs. ReadsAsAtom types (suc room) xs (r.old line a)) (sym eq)
      (λ turns le.
      atom_old types (suc room) (below_at types (suc room) turns a_whole) line line' line'' inside a (pred_neutral laws s)
      (inside_reads types room inside a (pred_complete laws s) turns (in_bracket (word w.Old line) line' line'' turns inside le)))
  atom_complete {types} laws (g.named {room} {line} {x} free) = λ turns le. atom_named types room (below_at types room turns a_whole) line x free
  atom_complete {types} laws (g.call {room} {line} line' line'' {x} {inside} {args} free s eq) =
      subst (λ xs. ReadsAsAtom types (suc room) xs (r.call line x (t.list_of args))) (sym eq) (λ turns le. atom_call laws room (below_at types (suc room) turns a_whole) line line' line'' x inside args free s)
  atom_complete {types} laws (g.parens {room} line line' {inside} {a} s eq) =
      subst (λ xs. ReadsAsAtom types (suc room) xs a) (sym eq)
      (λ turns le.
      atom_parens types (suc room) (below_at types (suc room) turns a_whole) line line' inside a (pred_neutral laws s) (pred_no_type laws s)
      (inside_reads types room inside a (pred_complete laws s) turns (in_parens line line' turns inside le)))

  operand_complete : {types : Names} → Below types → {room : ℕ} {trails : Bool} {xs : List Token} {a : r.Pred} → SpellsOperand types room trails xs a → ReadsOperand types room trails xs a
  operand_complete {types} laws {room} {xs = xs} (g.of_atom s) =
      λ turns le rest stops. operand_is types room turns (xs ++ rest) ∙ atom_is_operand laws s rest room (below_at types room turns) (go_at types room turns) ∙ atom_complete laws s turns le rest stops
  operand_complete {types} laws (g.not_of {room} {line} {trails} {operand = inside} {a} s) = not_operand types room line trails inside a (operand_complete laws s)
  operand_complete {types} laws (g.for_all {room} {line} line' {first} {body} {xs} {a} bs s eq) =
      subst (λ all. ReadsOperand types room true all (r.for_all line xs a)) (sym eq) (read_forall types room line line' first body xs a bs (pred_complete laws s))
  operand_complete {types} laws (g.for_some {room} {line} line' {first} {body} {xs} {a} bs s eq) =
      subst (λ all. ReadsOperand types room true all (r.for_some line xs a)) (sym eq) (read_exists types room line line' first body xs a bs (pred_complete laws s))
  operand_complete {types} laws (g.let_in {room} {line} line' line'' line''' {x} {value} {body} {v} {a} free sv s eq) =
      subst (λ all. ReadsOperand types room true all (r.let_in line x v a)) (sym eq) (read_let types laws room line line' line'' line''' x value body v a free sv (pred_complete laws s))

  joined_complete : {types : Names} → Below types → {n room : ℕ} {trails : Bool} {xs : List Token} {a : r.Pred} → SpellsJoined types n room trails xs a → ReadsJoined types n room trails xs a
  joined_complete {types} laws {n} {room} {trails} {xs} {a} (g.of_operand s) = λ turns le. flat connected connective_at (StopsOf trails) n (form_at types room turns an_operand) xs a (operand_complete laws s turns le)
  joined_complete {types} laws (g.joined {n} {m} {room} {trails} line q {c} {left} {right} {all} {a} {b} le is level sa sb eq made) =
      subst (λ d. ReadsJoined types n room trails all d) (sym made)
      (subst (λ all. ReadsJoined types n room trails all (connected c line a b)) (sym eq)
      (λ turns short.
      let read = form_at types room turns an_operand in
      let long = length-append left (punct q line ∷ right) in
      looser_to connected connective_at (StopsOf trails) (suc m) n read (left ++ punct q line ∷ right) (connected c line a b) le
      (reads_joined connected connective_at (StopsOf false) (StopsOf trails) m line c read (punct q line) left right a b (λ rest. connective_takes q c (suc m) is level line (right ++ rest))
      (λ rest i less. connective_skips q c m i is level less line (right ++ rest)) (λ rest. connective_ends q c is line (right ++ rest))
      (joined_complete laws sa turns (omega (arith, long))) (joined_complete laws sb turns (omega (arith, long))))))

  implied_complete : {types : Names} → Below types → {room : ℕ} {trails : Bool} {xs : List Token} {a : r.Pred} → SpellsImplied types room trails xs a → ReadsImplied types room trails xs a
  implied_complete {types} laws {room} {trails} {xs} {a} (g.of_joined s) =
      λ turns le rest stops.
      implied_is types room turns (xs ++ rest)
      ∙ implied_alone (below_at types room turns) (form_at types room turns an_operand) (xs ++ rest) a rest (joined_end types room trails xs a (joined_complete laws s) turns le rest stops.0 stops.1) stops.2
  implied_complete {types} laws (g.implies {room} {line} {trails} {left} {right} {a} {b} sa sb eq) =
      subst (λ all. ReadsImplied types (suc room) trails all (r.implies line a b)) (sym eq) (read_implies types room line trails left right a b (joined_complete laws sa) (implied_complete laws sb))

  iff_complete : {types : Names} → Below types → {room : ℕ} {trails : Bool} {xs : List Token} {a : r.Pred} → SpellsIff types room trails xs a → ReadsIff types room trails xs a
  iff_complete {types} laws {room} {trails} {xs} {a} (g.of_implied s) = λ turns le. flat iff_of iff_at (StopsImplied trails) 1 (form_at types room turns an_implied) xs a (implied_complete laws s turns le)
  iff_complete {types} laws (g.iff {room} {line} {trails} {left} {right} {a} {b} sa sb eq) =
      subst (λ all. ReadsIff types room trails all (r.iff line a b)) (sym eq) (read_iff types room line trails left right a b (iff_complete laws sa) (implied_complete laws sb))

  pub pred_complete : {types : Names} → Below types → {room : ℕ} {trails : Bool} {xs : List Token} {a : r.Pred} → SpellsPred types room trails xs a → ReadsWhole types room xs a
  pred_complete {types} laws {room} {trails} {xs} {a} (g.of_iff s) =
      λ turns le rest ends.
      whole_is types room turns (xs ++ rest)
      ∙ whole_alone (below_at types room turns) (form_at types room turns an_implied) (xs ++ rest) a rest
      (iff_end types room trails xs a (iff_complete laws s) turns le rest (stops_implied trails rest ends) (pred_stops p.Iff refl rest ends)) (pred_stops p.Question refl rest ends)
  pred_complete {types} laws (g.cond {room} {line} line' {test} {yes = first} {no' = second} {a} {b} {c} sa sb sc eq) =
      subst (λ all. ReadsWhole types (suc room) all (r.cond line a b c)) (sym eq) (read_cond types room line line' test first second a b c (iff_complete laws sa) (pred_complete laws sb) (pred_complete laws sc))
