-- What a reader of the program gives, beside what the reader on lists gives.
use Rattle.std.specs.Prelude.{◌≡◌, List, Option, Some, None, Result, Ok, Err}
use Rattle.std.specs.Borrow.{Bor}
use Rattle.c_syntax.specs.declared.token.Token.{Token}
use Rattle.c_grammar.specs.declared.fault.Fault.{Fault}
use Rattle.c_grammar.specs.declared.fault.Fault.TheVariants.{Syntax, NoMemory}

-- the same, unless memory ran out
abbrev pub Gives : {X Y : Type 0} → (X → Y) → Result (X × Bor (List Token)) Fault → Option (Y × List Token) → Type 0
Gives see (Ok x) given = given ≡ Some (see x.0, x.1.now)
Gives see (Err Syntax) given = given ≡ None
Gives see (Err NoMemory) given = Unit {0}

abbrev pub GivesRest : {Y : Type 0} → Result (Bor (List Token)) Fault → Option (Y × List Token) → Type 0
GivesRest {Y} (Ok rest) given = (y : Y) × (given ≡ Some (y, rest.now))
GivesRest (Err Syntax) given = given ≡ None
GivesRest (Err NoMemory) given = Unit {0}

-- the same for an option
abbrev pub Finds : {X Y : Type 0} → (X → Y) → Option (X × Bor (List Token)) → Option (Y × List Token) → Type 0
Finds see (Some x) given = given ≡ Some (see x.0, x.1.now)
Finds see None given = given ≡ None
