-- A table of names beside a list of names.
use Rattle.std.specs.Prelude.{◌≡◌, ℕ, List}
use Rattle.std.specs.Option.{is_some}
use Rattle.name_table.specs.Names.{Names as Declarations, meaning_of}
use Rattle.c_grammar.specs.Tokens.{Names, is_type}

-- The table has the names of the list, and no others.
abbrev pub Knows : {V : Type 0} → Declarations V → Names → Type 0
Knows known types = (x : List ℕ) → is_some (meaning_of known x) ≡ is_type types x
