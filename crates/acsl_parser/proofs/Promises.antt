-- A reader of the program that gives what a reader on lists gives keeps what that one keeps on the same tokens.
use Rattle.std.proofs.Common.{◌≡◌, List, ◌++◌, Some, Result, Ok, Err, sym}
use Rattle.std.specs.Borrow.{Bor}
use Rattle.c_syntax.specs.declared.token.Token.{Token}
use Rattle.c_grammar.specs.declared.fault.Fault.{Fault}
use Rattle.c_grammar.specs.declared.fault.Fault.TheVariants.{Syntax, NoMemory}
use Rattle.c_grammar.specs.Reading.{Reader}
use Rattle.c_grammar.specs.Views.{Gives}
use Rattle.c_grammar.proofs.Readers.{Took, pair_is}

-- The tokens begin with some that spell what was read, and those behind them are left.
abbrev pub IsSpelled : {X Y : Type 0} → (Spells : List Token → Y → Type 0) → (see : X → Y) → List Token → Result (X × Bor (List Token)) Fault → Type 0
IsSpelled Spells see tokens (Ok x) = (front : List Token) × (tokens ≡ front ++ x.1.now) × Spells front (see x.0)
IsSpelled Spells see tokens (Err e) = Unit {0}

-- this was read and these are left, unless memory ran out
abbrev pub IsRead : {X Y : Type 0} → (see : X → Y) → Y → (rest : List Token) → Result (X × Bor (List Token)) Fault → Type 0
IsRead see y rest (Ok x) = (see x.0 ≡ y) × (x.1.now ≡ rest)
IsRead see y rest (Err Syntax) = ⊥
IsRead see y rest (Err NoMemory) = Unit {0}

-- Where the tokens begin with some that spell something, and those behind them may come after it, nothing else is read.
abbrev pub IsOnly : {X Y : Type 0} → (Spells : List Token → Y → Type 0) → (MayFollow : List Token → Type 0) → (see : X → Y) → List Token → Result (X × Bor (List Token)) Fault → Type 0
IsOnly {X} {Y} Spells MayFollow see tokens result =
    (front : List Token) (y : Y) (rest : List Token) → tokens ≡ front ++ rest → Spells front y → MayFollow rest → IsRead see y rest result

pub spelled_here : {X Y : Type 0} (Spells : List Token → Y → Type 0) (see : X → Y) (read : Reader Y) (ts : List Token) → ((y : Y) (rest : List Token) → read ts ≡ Some (y, rest) → Took Spells ts y rest)
    → (r : Result (X × Bor (List Token)) Fault) → Gives see r (read ts) → IsSpelled Spells see ts r
spelled_here Spells see read ts sound (Ok x) h = sound (see x.0) x.1.now h
spelled_here Spells see read ts sound (Err e) h = tt

is_read : {X Y : Type 0} (see : X → Y) (y : Y) (rest : List Token) (r : Result (X × Bor (List Token)) Fault) → Gives see r (Some (y, rest)) → IsRead see y rest r
is_read see y rest (Ok x) h = pair_is (see x.0) y x.1.now rest (sym h)
is_read see y rest (Err Syntax) h = absurd cc
is_read see y rest (Err NoMemory) h = tt

pub only_here : {X Y : Type 0} (Spells : List Token → Y → Type 0) (MayFollow : List Token → Type 0) (see : X → Y) (read : Reader Y) (ts : List Token)
    → ((xs : List Token) (y : Y) (rest : List Token) → ts ≡ xs ++ rest → Spells xs y → MayFollow rest → read ts ≡ Some (y, rest))
    → (r : Result (X × Bor (List Token)) Fault) → Gives see r (read ts) → IsOnly Spells MayFollow see ts r
only_here Spells MayFollow see read ts complete r h xs y rest is s follows =
    let same = complete xs y rest is s follows in
    is_read see y rest r (rw same at h)
