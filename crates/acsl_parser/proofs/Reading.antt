-- Equations of the readers of lists in the words of the code.
use Rattle.std.proofs.Common.{◌≡◌, ℕ, zero, suc, ◌+◌, ◌-◌, Bool, true, false, List, [], ◌∷◌, ◌++◌, length, map, Some, None, Err, refl, ap, ◌∙◌, arith, append-nil}
use Rattle.std.proofs.lemmas.List.{map-append}
use Rattle.c_syntax.specs.declared.token.Token.{Token}
use Rattle.c_syntax.specs.declared.token.Punct.TheVariants as p
use Rattle.c_grammar.specs.declared.fault.Fault.{Fault}
use Rattle.c_grammar.specs.declared.fault.Fault.TheVariants.{Syntax, NoMemory}
use Rattle.c_grammar.specs.Reading.{Reader, punct_at}
use Rattle.c_grammar.specs.Views.{Gives}
use Rattle.c_grammar.specs.Tokens.{Names}
use Rattle.c_grammar.specs.ListReaders.{with_items, more_separated}
use Rattle.c_grammar.proofs.Turns.{with_one, items_turn}
use Rattle.acsl_parser.specs.Read as r
use Rattle.acsl_parser.specs.Lists.{repeat}

-- ---- items one after another

pub all_end : {X : Type 0} (starts : List Token → Bool) (item : Reader X) (turns : ℕ) (xs : List X) (ts : List Token) → turns ≡ 0 → with_items xs (repeat starts item turns ts) ≡ Some (xs, ts)
unfolding repeat
all_end starts item zero xs ts none = rw append-nil refl
all_end starts item (suc turns) xs ts none = absurd (omega arith)

pub all_stop : {X : Type 0} (starts : List Token → Bool) (item : Reader X) (turns : ℕ) (xs : List X) (ts : List Token) → starts ts ≡ false → with_items xs (repeat starts item turns ts) ≡ Some (xs, ts)
unfolding repeat
all_stop starts item zero xs ts h = rw append-nil refl
all_stop starts item (suc turns) xs ts h = rw (h, append-nil) refl

all_turn : {X : Type 0} (starts : List Token → Bool) (item : Reader X) (turns turns' : ℕ) (xs : List X) (x : X) (ts rest : List Token) → turns ≡ turns' + 1
    → starts ts ≡ true → item ts ≡ Some (x, rest) → with_items (xs ++ x ∷ []) (repeat starts item turns' rest) ≡ with_items xs (repeat starts item turns ts)
unfolding repeat
all_turn starts item turns turns' xs x ts rest more start' read =
    let m : turns ≡ suc turns' = omega arith in
    rw (m, start', read) (with_one xs x (repeat starts item turns' rest))

pub all_fault : {X Y : Type 0} (see : X → Y) (starts : List Token → Bool) (item : Reader Y) (turns turns' : ℕ) (xs : List Y) (ts : List Token) (e : Fault) → turns ≡ turns' + 1
    → starts ts ≡ true → Gives see (Err e) (item ts) → Gives (map see) (Err e) (with_items xs (repeat starts item turns ts))
unfolding repeat
all_fault see starts item turns turns' xs ts Syntax more start' read =
    let m : turns ≡ suc turns' = omega arith in
    rw (m, start', read) refl
all_fault see starts item turns turns' xs ts NoMemory more start' read = tt

pub all_next : {X Y : Type 0} (see : X → Y) (starts : List Token → Bool) (item : Reader Y) (turns turns' : ℕ) (xs more : List X) (x : X) (ts rest : List Token) → turns ≡ turns' + 1
    → starts ts ≡ true → item ts ≡ Some (see x, rest) → more ≡ xs ++ x ∷ []
    → with_items (map see more) (repeat starts item turns' rest) ≡ with_items (map see xs) (repeat starts item turns ts)
all_next see starts item turns turns' xs more x ts rest n start' read put =
    ap (λ more. with_items (map see more) (repeat starts item turns' rest)) put
    ∙ ap (λ ys. with_items ys (repeat starts item turns' rest)) (map-append see xs (x ∷ []))
    ∙ all_turn starts item turns turns' (map see xs) (see x) ts rest n start' read

-- ---- the same where an item is seen as itself

pub plain_next : {X : Type 0} (item : Reader X) (turns turns' : ℕ) (xs more : List X) (x : X) (ts : List Token) (line : ℕ) (after rest : List Token) → turns ≡ turns' + 1
    → punct_at p.Comma ts ≡ Some (line, after) → item after ≡ Some (x, rest) → more ≡ xs ++ x ∷ [] → with_items more (more_separated item turns' rest) ≡ with_items xs (more_separated item turns ts)
plain_next item turns turns' xs more x ts line after rest n comma read put =
    ap (λ more. with_items more (more_separated item turns' rest)) put ∙ items_turn item turns turns' xs x ts line after rest n comma read

-- ---- whole lists

pub items_all : (types : Names) (room end : ℕ) (ts : List Token) → r.items_at types room end ts ≡ repeat r.starts_item (r.item_at types room end) (length ts) ts
unfolding r.items_at
items_all types room end ts = refl

pub behaviors_all : (types : Names) (end : ℕ) (ts : List Token) → r.all_behaviors_at types end ts ≡ repeat r.starts_behavior (r.behavior_at types end) (length ts) ts
unfolding r.all_behaviors_at
behaviors_all types end ts = refl

pub endings_all : (end : ℕ) (ts : List Token) → r.all_endings_at end ts ≡ repeat r.starts_ending (r.ending_at end) (length ts) ts
unfolding r.all_endings_at
endings_all end ts = refl

pub logics_all : (types : Names) (ts : List Token) → r.starts_logic ts ≡ true → r.logics_at types ts ≡ repeat r.starts_logic (r.logic_at types) (length ts) ts
unfolding r.logics_at
logics_all types ts start' = rw start' refl

pub logics_none : (types : Names) (ts : List Token) → r.starts_logic ts ≡ false → r.logics_at types ts ≡ None
unfolding r.logics_at
logics_none types ts stop = rw stop refl
