-- What was read at a place, over all tokens of a text.
use Rattle.std.proofs.Common.{◌≡◌, ℕ, zero, suc, ◌+◌, ◌-◌, ◌≤◌, Bool, true, false, not, ◌||◌, if◌then◌else◌, List, [], ◌∷◌, ◌++◌, length, take, drop, slice_get, IfOk, Some, Result, Ok, Err, refl, sym, ap, ◌∙◌, arith, length-append, length-drop}
use Rattle.std.specs.Borrow.{Bor}
use Rattle.wp_base.specs.declared.answers.Refusal.{Refusal}
use Rattle.wp_base.specs.declared.answers.Rule.TheVariants as rule
use Rattle.wp_base.specs.declared.answers.Stop.TheVariants as stop
use Rattle.c_syntax.specs.declared.token.Token.{Token}
use Rattle.c_syntax.specs.declared.token.TokenKind.{TokenKind}
use Rattle.c_syntax.specs.declared.token.TokenKind.TheVariants as k
use Rattle.c_grammar.specs.declared.fault.Fault.{Fault}
use Rattle.c_grammar.specs.declared.fault.Fault.TheVariants as fault
use Rattle.acsl_parser.specs.Spelled.{IsClosed}
use Rattle.acsl_parser.specs.Places.{MayFollow, StandsAt, OnlyPart, RefusesAt, closes_by, is_closed, unspelled, placed, without_line}
use Rattle.acsl_parser.proofs.Promises.{IsSpelled, IsRead, IsOnly}

-- ---- lists

at_front : {X : Type 0} (xs ys : List X) → drop (length xs) (xs ++ ys) ≡ ys
at_front [] ys = refl
at_front (x ∷ xs) ys = at_front xs ys

halves : {X : Type 0} (n : ℕ) (xs : List X) → xs ≡ take n xs ++ drop n xs
halves zero xs = refl
halves (suc n) [] = refl
halves (suc n) (x ∷ xs) = ap (λ ys. x ∷ ys) (halves n xs)

half : {X : Type 0} (n : ℕ) (xs : List X) → n ≤ length xs → length (take n xs) ≡ n
half zero xs le = refl
half (suc n) [] le = absurd (omega arith)
half (suc n) (x ∷ xs) le = ap suc (half n xs (omega arith))

sizes : {X : Type 0} (xs ys zs all : List X) → all ≡ xs ++ (ys ++ zs) → length all ≡ length xs + (length ys + length zs)
sizes xs ys zs all is = ap length is ∙ length-append xs (ys ++ zs) ∙ ap (λ n. length xs + n) (length-append ys zs)

take_whole : {X : Type 0} (n : ℕ) (xs : List X) → length xs ≤ n → take n xs ≡ xs
take_whole zero [] le = refl
take_whole zero (x ∷ xs) le = absurd (omega arith)
take_whole (suc n) [] le = refl
take_whole (suc n) (x ∷ xs) le = ap (λ ys. x ∷ ys) (take_whole n xs (omega arith))

left_behind : {X : Type 0} (at : ℕ) (xs : List X) → at ≤ length xs → length xs ≡ at + length (drop at xs)
left_behind at xs le = ap length (halves at xs) ∙ length-append (take at xs) (drop at xs) ∙ ap (λ n. n + length (drop at xs)) (half at xs le)

-- ---- the end of an annotation

pub closed_is : (ts : List Token) → is_closed ts ≡ true → IsClosed ts
closed_is [] h = absurd cc
closed_is (t ∷ ts) h = closed_kind t.kind t.line ts h where
  closed_kind : (kind : TokenKind) (line : ℕ) (ts : List Token) → closes_by kind ≡ true → IsClosed ((record { kind = kind; line = line }) ∷ ts)
  closed_kind k.AnnotClose line ts h = (line, ts, refl)
  closed_kind k.AnnotOpen line ts h = absurd cc
  closed_kind (k.Name x) line ts h = absurd cc
  closed_kind (k.Word x) line ts h = absurd cc
  closed_kind (k.Number value base suffix) line ts h = absurd cc
  closed_kind (k.Char value) line ts h = absurd cc
  closed_kind (k.Punct x) line ts h = absurd cc

pub is_closed_by : (ts : List Token) → IsClosed ts → is_closed ts ≡ true
is_closed_by ts h = ap is_closed h.2

may_follow : (closes : Bool) (ts : List Token) → (not closes || is_closed ts) ≡ true → MayFollow closes ts
may_follow true ts h = closed_is ts h
may_follow false ts h = tt

follows_so : (closes : Bool) (ts : List Token) → MayFollow closes ts → (not closes || is_closed ts) ≡ true
follows_so true ts h = is_closed_by ts h
follows_so false ts h = refl

-- ---- the three clauses

stands_if : {X Y : Type 0} (Spells : List Token → Y → Type 0) (see : X → Y) (closes : Bool) (tokens : List Token) (at line : ℕ) (x : X × Bor (List Token)) (b : Bool) → (b ≡ true → MayFollow closes x.1.now)
    → at ≤ length tokens → IsSpelled Spells see (drop at tokens) (Ok x)
    → IfOk {T = X × ℕ} (if b then Ok (x.0, length tokens - length x.1.now) else Err (unspelled line)) (λ r. StandsAt Spells closes tokens at (see r.0) r.1)
stands_if Spells see closes tokens at line x true follows le s =
    let split : tokens ≡ take at tokens ++ (s.0 ++ x.1.now) = halves at tokens ∙ ap (λ ts. take at tokens ++ ts) s.1 in
    let place : length (take at tokens) ≡ at = half at tokens le in
    record { before = take at tokens; inside = s.0; after = x.1.now; split = split; place = place; spelled = s.2; follows = follows refl; end = omega (arith, sizes (take at tokens) s.0 x.1.now tokens split, place) }
stands_if Spells see closes tokens at line x false follows le s = tt

pub stands : {X Y : Type 0} (Spells : List Token → Y → Type 0) (see : X → Y) (closes : Bool) (tokens : List Token) (at line : ℕ) (found : Result (X × Bor (List Token)) Fault)
    → at ≤ length tokens → IsSpelled Spells see (drop at tokens) found → IfOk (placed closes (length tokens) line found) (λ r. StandsAt Spells closes tokens at (see r.0) r.1)
stands Spells see closes tokens at line (Ok x) le s = stands_if Spells see closes tokens at line x (not closes || is_closed x.1.now) (may_follow closes x.1.now) le s
stands Spells see closes tokens at line (Err fault.Syntax) le s = tt
stands Spells see closes tokens at line (Err fault.NoMemory) le s = tt

only_found : {X Y : Type 0} (see : X → Y) (closes : Bool) (end line : ℕ) (found : Result (X × Bor (List Token)) Fault) (y : Y) (after : List Token) (next : ℕ)
    → MayFollow closes after → next ≡ end - length after → IsRead see y after found → OnlyPart see (placed closes end line found) y next
only_found see closes end line (Ok x) y after next follows is read =
    let open_or_closed : (not closes || is_closed x.1.now) ≡ true = ap (λ ts. not closes || is_closed ts) read.1 ∙ follows_so closes after follows in
    rw open_or_closed (read.0, ap (λ (ts : List Token). end - length ts) read.1 ∙ sym is)
only_found see closes end line (Err fault.Syntax) y after next follows is read = absurd read
only_found see closes end line (Err fault.NoMemory) y after next follows is read = refl

pub only_there : {X Y : Type 0} (Spells : List Token → Y → Type 0) (Follows : List Token → Type 0) (see : X → Y) (closes : Bool) (tokens : List Token) (at line : ℕ) (found : Result (X × Bor (List Token)) Fault)
    → ((ts : List Token) → MayFollow closes ts → Follows ts) → IsOnly Spells Follows see (drop at tokens) found
    → (y : Y) (next : ℕ) → StandsAt Spells closes tokens at y next → OnlyPart see (placed closes (length tokens) line found) y next
only_there Spells Follows see closes tokens at line found implied only y next s =
    let here : drop at tokens ≡ s.inside ++ s.after = ap (λ n. drop n tokens) (sym s.place) ∙ ap (drop (length s.before)) s.split ∙ at_front s.before (s.inside ++ s.after) in
    let count = sizes s.before s.inside s.after tokens s.split in
    let is : next ≡ length tokens - length s.after = omega (arith, count, s.place, s.end) in
    only_found see closes (length tokens) line found y s.after next s.follows is (only s.inside y s.after here s.spelled (implied s.after s.follows))

refused_if : {X : Type 0} (b : Bool) (x : X) (line : ℕ) (r : Refusal) → (if b then Ok x else Err (unspelled line)) ≡ Err (stop.Refused r) → r ≡ record { rule = rule.Syntax; line = line }
refused_if true x line r h = absurd cc
refused_if false x line r h = cc

refused_so : {X : Type 0} (closes : Bool) (end line : ℕ) (found : Result (X × Bor (List Token)) Fault) (r : Refusal) → placed closes end line found ≡ Err (stop.Refused r) → r ≡ record { rule = rule.Syntax; line = line }
refused_so closes end line (Ok x) r h = refused_if (not closes || is_closed x.1.now) (x.0, end - length x.1.now) line r h
refused_so closes end line (Err fault.Syntax) r h = cc
refused_so closes end line (Err fault.NoMemory) r h = absurd cc

pub refuses : {X : Type 0} (closes : Bool) (end : ℕ) (tokens : List Token) (at : ℕ) (t : Token) (found : Result (X × Bor (List Token)) Fault) → slice_get tokens at ≡ Some t
    → (r : Refusal) → placed closes end t.line found ≡ Err (stop.Refused r) → RefusesAt tokens at r
refuses closes end tokens at t found there r h =
    let is = refused_so closes end t.line found r h in
    (ap (λ (r : Refusal). r.rule) is, rw there (ap (λ (r : Refusal). r.line) is))

-- ---- an assertion without its line

pub spelled_alone : {X Y : Type 0} (Spells : List Token → Y → ℕ → Type 0) (see : X → Y) (tokens : List Token) (found : Result ((X × ℕ) × Bor (List Token)) Fault)
    → IsSpelled (λ ts (a : Y × ℕ). Spells ts a.0 a.1) (λ (x : X × ℕ). (see x.0, x.1)) tokens found → IsSpelled (λ ts a. (line : ℕ) × Spells ts a line) see tokens (without_line found)
spelled_alone Spells see tokens (Ok x) s = (s.0, s.1, (x.0.1, s.2))
spelled_alone Spells see tokens (Err e) s = tt

read_alone : {X Y : Type 0} (see : X → Y) (y : Y) (line : ℕ) (rest : List Token) (found : Result ((X × ℕ) × Bor (List Token)) Fault)
    → IsRead {Y = Y × ℕ} (λ (x : X × ℕ). (see x.0, x.1)) (y, line) rest found → IsRead see y rest (without_line found)
read_alone see y line rest (Ok x) r = (ap (λ a. a.0) r.0, r.1)
read_alone see y line rest (Err fault.Syntax) r = r
read_alone see y line rest (Err fault.NoMemory) r = tt

pub only_alone : {X Y : Type 0} (Spells : List Token → Y → ℕ → Type 0) (Follows : List Token → Type 0) (see : X → Y) (tokens : List Token) (found : Result ((X × ℕ) × Bor (List Token)) Fault)
    → IsOnly (λ ts (a : Y × ℕ). Spells ts a.0 a.1) Follows (λ (x : X × ℕ). (see x.0, x.1)) tokens found → IsOnly (λ ts a. (line : ℕ) × Spells ts a line) Follows see tokens (without_line found)
only_alone Spells Follows see tokens found only front y rest split s follows = read_alone see y s.0 rest found (only front (y, s.0) rest split s.1 follows)

-- ---- places

-- the tokens from a place on
pub rest_here : (at : ℕ) (tokens : List Token) → at ≤ length tokens → take (length tokens - at) (drop at tokens) ≡ drop at tokens
rest_here at tokens le = take_whole (length tokens - at) (drop at tokens) (omega (arith, left_behind at tokens le))

-- the place of the tokens behind a front is the front's length
pub place_here : (at : ℕ) (tokens : List Token) → at ≤ length tokens → length tokens - length (drop at tokens) ≡ at
place_here at tokens le = omega (arith, left_behind at tokens le)

pub rest_shorter : (at : ℕ) (tokens : List Token) → length (drop at tokens) ≤ length tokens
rest_shorter at tokens = omega (arith, length-drop at tokens)
