-- Readers of items between commas, over any reader of items.
use Rattle.std.specs.Prelude.{ℕ, zero, suc, List, [], ◌∷◌, ◌++◌, length, Option, Some, None}
use Rattle.c_syntax.specs.declared.token.Token.{Token}
use Rattle.c_syntax.specs.declared.token.Punct.TheVariants as p
use Rattle.c_grammar.specs.Reading.{Reader, ◌>>=◌, punct_at}

-- these, and then those that are read
abbrev pub with_items : {X : Type 0} → List X → Option (List X × List Token) → Option (List X × List Token)
with_items xs given = given >>= λ x. Some (xs ++ x.0, x.1)

-- goes on behind a comma, or ends
abbrev pub separated_go : {X : Type 0} → Reader X → Option (ℕ × List Token) → List Token → Reader (List X) → Option (List X × List Token)
separated_go item None ts go = Some ([], ts)
separated_go item (Some c) ts go = item c.1 >>= λ x. go x.1 >>= λ xs. Some (x.0 ∷ xs.0, xs.1)

-- {"," item}, at most so many
unfoldable pub more_separated : {X : Type 0} → Reader X → (turns : ℕ) → Reader (List X)
more_separated item zero ts = Some ([], ts)
more_separated item (suc turns) ts = separated_go item (punct_at p.Comma ts) ts (more_separated item turns)

-- item {"," item}
unfoldable pub separated_at : {X : Type 0} → Reader X → Reader (List X)
separated_at item ts = item ts >>= λ x. more_separated item (length x.1) x.1 >>= λ xs. Some (x.0 ∷ xs.0, xs.1)
