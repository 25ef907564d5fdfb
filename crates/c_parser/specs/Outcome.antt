-- What the tokens of a whole file give: a program, or the line of what isn't spelled or passes a limit.
use Rattle.std.specs.Prelude.{◌≡◌, ℕ, List, [], ◌∷◌, Option, Some, None, Result, Ok, Err, ◌⊎◌, slice_get}
use Rattle.wp_base.specs.declared.answers.Refusal.{Refusal}
use Rattle.wp_base.specs.declared.answers.Rule.TheVariants as rule
use Rattle.wp_base.specs.declared.answers.Stop.{Stop}
use Rattle.wp_base.specs.declared.answers.Stop.TheVariants as stop
use Rattle.c_syntax.specs.declared.token.Token.{Token}
use Rattle.c_syntax.specs.declared.decl.Program.{Program}
use Rattle.c_syntax.specs.Decl as d
use Rattle.c_syntax.specs.View.{view_program}
use Rattle.c_grammar.specs.Decls.{Lines, past_limit, or_else, SpellsLines, IsUnspelledOn}
use Rattle.c_grammar.specs.declared.limits.TheConstants.{MOST_PARAMS, MOST_STMTS}
use Rattle.parse_file.specs.Read.{Front, file_front}

pub data Outcome : Type 0 where
  parsed : (p : d.Program) → Outcome
  unspelled : (line : ℕ) → Outcome
  past : (line : ℕ) → Outcome

abbrev pub within_limits : d.Program → Option ℕ → Outcome
within_limits p None = parsed p
within_limits p (Some line) = past line

abbrev pub outcome_by : List Token → Front → Outcome
outcome_by [] front = within_limits front.decls (past_limit 0 front.lines)
outcome_by (t ∷ ts) front = unspelled t.line

unfoldable pub outcome : List Token → Outcome
outcome ts = outcome_by (file_front ts).left (file_front ts)

abbrev pub refusal_of : Outcome → Option Refusal
refusal_of (parsed p) = None
refusal_of (unspelled line) = Some (record { rule = rule.Syntax; line = line })
refusal_of (past line) = Some (record { rule = rule.Limit; line = line })

-- the same, unless memory ran out
abbrev pub Answers : Result Program Stop → Outcome → Type 0
Answers (Ok p) given = given ≡ parsed (view_program p)
Answers (Err (stop.Refused r)) given = refusal_of given ≡ Some r
Answers (Err stop.NoMemory) given = Unit {0}

-- ---- over the grammar

-- the tokens spell the program, and no limit is passed
abbrev pub SpellsWithin : List Token → d.Program → Type 0
SpellsWithin ts p = (ls : List Lines) × SpellsLines ts p ls × (past_limit 0 ls ≡ None)

-- the tokens spell a program that passes a limit on this line
abbrev pub SpellsPast : List Token → (line : ℕ) → Type 0
SpellsPast ts line = (p : d.Program) × (ls : List Lines) × SpellsLines ts p ls × (past_limit 0 ls ≡ Some line)

abbrev pub SpellsNone : List Token → Type 0
SpellsNone ts = (p : d.Program) (ls : List Lines) → SpellsLines ts p ls → ⊥

-- which refusals there are, and what they say of the tokens
abbrev pub Refuses : List Token → Refusal → Type 0
Refuses ts r = ((r.rule ≡ rule.Syntax) × SpellsNone ts × IsUnspelledOn ts r.line) ⊎ ((r.rule ≡ rule.Limit) × SpellsPast ts r.line)

-- the only answer, where a program is spelled within the limits
abbrev pub OnlyParsed : Result Program Stop → d.Program → Type 0
OnlyParsed (Ok p) q = view_program p ≡ q
OnlyParsed (Err end) q = end ≡ stop.NoMemory

-- the only answers, where this is refused
abbrev pub OnlyRefused : Result Program Stop → Refusal → Type 0
OnlyRefused (Ok p) x = ⊥
OnlyRefused (Err end) x = (end ≡ stop.Refused x) ⊎ (end ≡ stop.NoMemory)

-- the line of the first parameter, or else of the first statement, that is one too many
abbrev pub line_within : Lines → Option ℕ
line_within f = or_else (slice_get f.params MOST_PARAMS) (slice_get f.stmts MOST_STMTS)
