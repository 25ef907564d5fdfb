-- Readers of items one after another, over any reader of items, and of the words that begin them.
use Rattle.std.specs.Prelude.{ℕ, zero, suc, Bool, true, false, List, [], ◌∷◌, Option, Some, None}
use Rattle.c_syntax.specs.declared.token.Token.{Token}
use Rattle.c_syntax.specs.declared.token.TokenKind.{TokenKind}
use Rattle.c_syntax.specs.declared.token.TokenKind.TheVariants as k
use Rattle.c_grammar.specs.Reading.{Reader, ◌>>=◌}

-- ---- one after another

-- goes on where an item starts, or ends
abbrev pub repeat_go : {X : Type 0} → Bool → Reader X → List Token → Reader (List X) → Option (List X × List Token)
repeat_go false item ts go = Some ([], ts)
repeat_go true item ts go = item ts >>= λ x. go x.1 >>= λ xs. Some (x.0 ∷ xs.0, xs.1)

-- items as long as one starts, at most so many
unfoldable pub repeat : {X : Type 0} → (starts : List Token → Bool) → Reader X → (turns : ℕ) → Reader (List X)
repeat starts item zero ts = Some ([], ts)
repeat starts item (suc turns) ts = repeat_go (starts ts) item ts (repeat starts item turns)

-- ---- words

abbrev pub is_some : {X : Type 0} → Option X → Bool
is_some None = false
is_some (Some x) = true

abbrev pub found_on : {W : Type 0} → Option W → (line : ℕ) → Reader (W × ℕ)
found_on None line ts = None
found_on (Some w) line ts = Some ((w, line), ts)

abbrev pub worded_by : {W : Type 0} → (List ℕ → Option W) → (line : ℕ) → TokenKind → Reader (W × ℕ)
worded_by which line (k.Name x) ts = found_on (which x) line ts
worded_by which line _ ts = None

-- which of some words a name is, with its line
abbrev pub worded : {W : Type 0} → (List ℕ → Option W) → Reader (W × ℕ)
worded which [] = None
worded which (t ∷ ts) = worded_by which t.line t.kind ts
