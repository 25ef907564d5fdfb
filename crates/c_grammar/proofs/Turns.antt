-- Items between commas, turn by turn, in the words of the code.
use Rattle.std.proofs.Common.{◌≡◌, ℕ, zero, suc, ◌+◌, List, [], ◌∷◌, ◌++◌, length, map, Option, Some, None, Err, refl, sym, ap, ◌∙◌, arith, append_assoc, append-nil}
use Rattle.std.proofs.lemmas.List.{map-append}
use Rattle.c_syntax.specs.declared.token.Token.{Token}
use Rattle.c_syntax.specs.declared.token.Punct.TheVariants as p
use Rattle.c_grammar.specs.declared.fault.Fault.{Fault}
use Rattle.c_grammar.specs.declared.fault.Fault.TheVariants.{Syntax, NoMemory}
use Rattle.c_grammar.specs.Reading.{Reader, ◌>>=◌, punct_at}
use Rattle.c_grammar.specs.Views.{Gives}
use Rattle.c_grammar.specs.ListReaders.{more_separated, separated_at, with_items}

pub items_end : {X : Type 0} (item : Reader X) (turns : ℕ) (xs : List X) (ts : List Token) → turns ≡ 0 → with_items xs (more_separated item turns ts) ≡ Some (xs, ts)
unfolding more_separated
items_end item zero xs ts none = rw append-nil refl
items_end item (suc turns) xs ts none = absurd (omega arith)

pub items_stop : {X : Type 0} (item : Reader X) (turns : ℕ) (xs : List X) (ts : List Token) → punct_at p.Comma ts ≡ None → with_items xs (more_separated item turns ts) ≡ Some (xs, ts)
unfolding more_separated
items_stop item zero xs ts h = rw append-nil refl
items_stop item (suc turns) xs ts h = rw (h, append-nil) refl

pub with_one : {X : Type 0} (xs : List X) (x : X) (given : Option (List X × List Token)) → with_items (xs ++ x ∷ []) given ≡ with_items xs (given >>= λ ys. Some (x ∷ ys.0, ys.1))
with_one xs x None = refl
with_one xs x (Some ys) = rw append_assoc refl

pub items_turn : {X : Type 0} (item : Reader X) (turns turns' : ℕ) (xs : List X) (x : X) (ts : List Token) (line : ℕ) (after rest : List Token) → turns ≡ turns' + 1
    → punct_at p.Comma ts ≡ Some (line, after) → item after ≡ Some (x, rest) → with_items (xs ++ x ∷ []) (more_separated item turns' rest) ≡ with_items xs (more_separated item turns ts)
unfolding more_separated
items_turn item turns turns' xs x ts line after rest more comma read =
    let m : turns ≡ suc turns' = omega arith in
    rw (m, comma, read) (with_one xs x (more_separated item turns' rest))

-- a fault of the item that comes next is one of them all
pub items_fault : {X Y Z : Type 0} (see : X → Y) (see' : Z → List Y) (item : Reader Y) (turns turns' : ℕ) (xs : List Y) (ts : List Token) (line : ℕ) (after : List Token) (e : Fault) → turns ≡ turns' + 1
    → punct_at p.Comma ts ≡ Some (line, after) → Gives see (Err e) (item after) → Gives see' (Err e) (with_items xs (more_separated item turns ts))
unfolding more_separated
items_fault see see' item turns turns' xs ts line after Syntax more comma read =
    let m : turns ≡ suc turns' = omega arith in
    rw (m, comma, read) refl
items_fault see see' item turns turns' xs ts line after NoMemory more comma read = tt

-- one more item, put at the end
pub items_next : {X Y : Type 0} (see : X → Y) (item : Reader Y) (turns turns' : ℕ) (xs more : List X) (x : X) (ts : List Token) (line : ℕ) (after rest : List Token) → turns ≡ turns' + 1
    → punct_at p.Comma ts ≡ Some (line, after) → item after ≡ Some (see x, rest) → more ≡ xs ++ x ∷ []
    → with_items (map see more) (more_separated item turns' rest) ≡ with_items (map see xs) (more_separated item turns ts)
items_next see item turns turns' xs more x ts line after rest n comma read put =
    ap (λ more. with_items (map see more) (more_separated item turns' rest)) put
    ∙ ap (λ ys. with_items ys (more_separated item turns' rest)) (map-append see xs (x ∷ []))
    ∙ items_turn item turns turns' (map see xs) (see x) ts line after rest n comma read

-- the first item, put at the end
pub items_first : {X Y : Type 0} (see : X → Y) (item : Reader Y) (xs more : List X) (x : X) (ts rest : List Token) → item ts ≡ Some (see x, rest) → more ≡ xs ++ x ∷ []
    → with_items (map see xs) (separated_at item ts) ≡ with_items (map see more) (more_separated item (length rest) rest)
unfolding separated_at
items_first see item xs more x ts rest read put =
    rw (put, map-append, read) (sym (with_one (map see xs) (see x) (more_separated item (length rest) rest)))

pub one_more : {X : Type 0} (x : X) (given : Option (List X × List Token)) → with_items (x ∷ []) given ≡ (given >>= λ xs. Some (x ∷ xs.0, xs.1))
one_more x None = refl
one_more x (Some xs) = refl
