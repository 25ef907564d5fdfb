-- Parts of annotations at places among all tokens of a text.
use Rattle.std.specs.Prelude.{◌≡◌, ℕ, ◌+◌, ◌-◌, Bool, true, false, ◌||◌, not, if◌then◌else◌, List, [], ◌∷◌, ◌++◌, length, slice_get, IfSome, Result, Ok, Err}
use Rattle.std.specs.Borrow.{Bor}
use Rattle.wp_base.specs.declared.answers.Refusal.{Refusal}
use Rattle.wp_base.specs.declared.answers.Rule.TheVariants as rule
use Rattle.wp_base.specs.declared.answers.Stop.{Stop}
use Rattle.wp_base.specs.declared.answers.Stop.TheVariants as stop
use Rattle.c_syntax.specs.declared.token.Token.{Token}
use Rattle.c_syntax.specs.declared.token.TokenKind.{TokenKind}
use Rattle.c_syntax.specs.declared.token.TokenKind.TheVariants as k
use Rattle.c_grammar.specs.declared.fault.Fault.{Fault}
use Rattle.c_grammar.specs.declared.fault.Fault.TheVariants as fault
use Rattle.acsl_parser.specs.Spelled.{IsClosed}

-- What comes behind a part: the end of the annotation, or anything.
abbrev pub MayFollow : (closes : Bool) → List Token → Type 0
MayFollow true rest = IsClosed rest
MayFollow false rest = Unit {0}

-- The tokens from one place up to another spell this, and what comes then may.
pub record StandsAt {Y : Type 0} (Spells : List Token → Y → Type 0) (closes : Bool) (tokens : List Token) (at : ℕ) (y : Y) (next : ℕ) : Type 0 where
  pub before : List Token
  pub inside : List Token
  pub after : List Token
  pub split : tokens ≡ before ++ (inside ++ after)
  pub place : length before ≡ at
  pub spelled : Spells inside y
  pub follows : MayFollow closes after
  pub end : next ≡ at + length inside

-- this part and the place behind it are the answer, unless memory ran out
abbrev pub OnlyPart : {X Y : Type 0} → (see : X → Y) → Result (X × ℕ) Stop → Y → (next : ℕ) → Type 0
OnlyPart see (Ok x) y next = (see x.0 ≡ y) × (x.1 ≡ next)
OnlyPart see (Err end) y next = end ≡ stop.NoMemory

-- a refusal by the rule of syntax, on the line of the token at this place
abbrev pub RefusesAt : List Token → (at : ℕ) → Refusal → Type 0
RefusesAt tokens at r = (r.rule ≡ rule.Syntax) × IfSome (slice_get tokens at) (λ t. r.line ≡ t.line)

-- ---- as the code finds it

abbrev pub closes_by : TokenKind → Bool
closes_by k.AnnotClose = true
closes_by _ = false

-- what ends an annotation comes first
abbrev pub is_closed : List Token → Bool
is_closed [] = false
is_closed (t ∷ ts) = closes_by t.kind

abbrev pub unspelled : (line : ℕ) → Stop
unspelled line = stop.Refused (record { rule = rule.Syntax; line = line })

-- what was read, with its place behind it
abbrev pub placed : {X : Type 0} → (closes : Bool) → (end line : ℕ) → Result (X × Bor (List Token)) Fault → Result (X × ℕ) Stop
placed closes end line (Ok x) = if not closes || is_closed x.1.now then Ok (x.0, end - length x.1.now) else Err (unspelled line)
placed closes end line (Err fault.Syntax) = Err (unspelled line)
placed closes end line (Err fault.NoMemory) = Err stop.NoMemory

abbrev pub without_line : {X : Type 0} → Result ((X × ℕ) × Bor (List Token)) Fault → Result (X × Bor (List Token)) Fault
without_line (Ok x) = Ok (x.0.0, x.1)
without_line (Err fault) = Err fault
