-- Items between commas: what is read is spelled so, and what is spelled is read.
use Rattle.std.proofs.Common.{◌≡◌, ℕ, zero, suc, ◌≤◌, List, [], ◌∷◌, ◌++◌, length, Some, None, refl, sym, ap, ◌∙◌, subst, arith, append_assoc, append-nil, length-append}
use Rattle.c_syntax.specs.declared.token.Token.{Token}
use Rattle.c_syntax.specs.declared.token.Punct.TheVariants as p
use Rattle.c_grammar.specs.Tokens.{punct}
use Rattle.c_grammar.specs.Lists as g
use Rattle.c_grammar.specs.Exactness.{Sound, Complete}
use Rattle.c_grammar.specs.Reading.{Reader, ◌>>=◌, punct_at}
use Rattle.c_grammar.proofs.Readers.{bind_ok, got, pair_is}
use Rattle.c_grammar.proofs.SingleTokens.{punct_is}
use Rattle.c_grammar.specs.ListReaders.{separated_go, more_separated, separated_at}

-- ---- what is read is spelled so

-- the tokens `first` spell an item, and those at the front go on with more
abbrev pub GoesOn : {X : Type 0} → (List Token → X → Type 0) → (first ts : List Token) → X → List X → List Token → Type 0
GoesOn Item first ts x xs rest = (front : List Token) × (ts ≡ front ++ rest) × g.Separated Item (first ++ front) (x ∷ xs)

ends_here : {X : Type 0} (Item : List Token → X → Type 0) (first ts : List Token) (x : X) → Item first x → (xs : List X) (rest : List Token) → got [] ts ≡ got xs rest → GoesOn Item first ts x xs rest
ends_here {X} Item first ts x s xs rest h =
    let none : List X = [] in
    let same = pair_is none xs ts rest h in
    ([], same.1, subst (λ xs. g.Separated Item (first ++ []) (x ∷ xs)) same.0 (subst (λ l. g.Separated Item l (x ∷ [])) (sym (append-nil first)) (g.one s)))

pub more_separated_sound : {X : Type 0} (Item : List Token → X → Type 0) (item : Reader X) → Sound Item item → (turns : ℕ) (first ts : List Token) (x : X) → Item first x → (xs : List X) (rest : List Token)
    → more_separated item turns ts ≡ Some (xs, rest) → GoesOn Item first ts x xs rest
unfolding more_separated
more_separated_sound Item item sound zero first ts x s xs rest h = ends_here Item first ts x s xs rest h
more_separated_sound {X} Item item sound (suc turns) first ts x s xs rest h =
    elim (punct_at p.Comma ts) as (λ o. punct_at p.Comma ts ≡ o → separated_go item o ts (more_separated item turns) ≡ Some (xs, rest) → GoesOn Item first ts x xs rest) [
      | None ↦ (λ none h. ends_here Item first ts x s xs rest h)
      | Some c ↦ (λ some h.
          let y = bind_ok (item c.1) (λ x. more_separated item turns x.1 >>= λ xs. Some (x.0 ∷ xs.0, xs.1)) (xs, rest) h in
          let ys = bind_ok (more_separated item turns y.0.1) (λ xs. Some (y.0.0 ∷ xs.0, xs.1)) (xs, rest) y.2 in
          let same = pair_is (y.0.0 ∷ ys.0.0) xs ys.0.1 rest ys.2 in
          let took = sound c.1 y.0.0 y.0.1 y.1 in
          let more = more_separated_sound Item item sound turns took.0 y.0.1 y.0.0 took.2 ys.0.0 ys.0.1 ys.1 in
          let comma = punct p.Comma c.0 in (
            comma ∷ (took.0 ++ more.0),
            punct_is p.Comma ts c.0 c.1 some ∙ ap (λ l. comma ∷ l) (took.1 ∙ ap (λ l. took.0 ++ l) (more.1 ∙ ap (λ l. more.0 ++ l) same.1) ∙ sym (append_assoc took.0 more.0 rest)),
            subst (λ xs. g.Separated Item (first ++ comma ∷ (took.0 ++ more.0)) (x ∷ xs)) same.0 (g.more c.0 s more.2 refl),
          ))
    ]
    refl h

pub separated_sound : {X : Type 0} (Item : List Token → X → Type 0) (item : Reader X) → Sound Item item → Sound (g.Separated Item) (separated_at item)
unfolding separated_at
separated_sound Item item sound ts xs rest h =
    let x = bind_ok (item ts) (λ x. more_separated item (length x.1) x.1 >>= λ xs. Some (x.0 ∷ xs.0, xs.1)) (xs, rest) h in
    let more = bind_ok (more_separated item (length x.0.1) x.0.1) (λ xs. Some (x.0.0 ∷ xs.0, xs.1)) (xs, rest) x.2 in
    let same = pair_is (x.0.0 ∷ more.0.0) xs more.0.1 rest more.2 in
    let took = sound ts x.0.0 x.0.1 x.1 in
    let others = more_separated_sound Item item sound (length x.0.1) took.0 x.0.1 x.0.0 took.2 more.0.0 more.0.1 more.1 in (
      took.0 ++ others.0,
      took.1 ∙ ap (λ l. took.0 ++ l) (others.1 ∙ ap (λ l. others.0 ++ l) same.1) ∙ sym (append_assoc took.0 others.0 rest),
      subst (g.Separated Item (took.0 ++ others.0)) same.0 others.2,
    )

-- ---- what is spelled is read

-- an item, and those after it
abbrev some_of : {X : Type 0} → Reader X → (turns : ℕ) → Reader (List X)
some_of item turns ts = item ts >>= λ x. more_separated item turns x.1 >>= λ xs. Some (x.0 ∷ xs.0, xs.1)

items_stop : {X : Type 0} (item : Reader X) (turns : ℕ) (ts : List Token) → punct_at p.Comma ts ≡ None → more_separated item turns ts ≡ Some ([], ts)
unfolding more_separated
items_stop item zero ts h = refl
items_stop item (suc turns) ts h = rw h refl

one_read : {X : Type 0} (item : Reader X) (turns : ℕ) (xs rest : List Token) (x : X) → item (xs ++ rest) ≡ Some (x, rest) → punct_at p.Comma rest ≡ None → some_of item turns (xs ++ rest) ≡ Some (x ∷ [], rest)
one_read item turns xs rest x read stop = rw (read, items_stop item turns rest stop) refl

more_read : {X : Type 0} (item : Reader X) (turns : ℕ) (ts : List Token) (x : X) (line : ℕ) (after : List Token) (xs : List X) (rest : List Token) → item ts ≡ Some (x, punct p.Comma line ∷ after)
    → some_of item turns after ≡ Some (xs, rest) → some_of item (suc turns) ts ≡ Some (x ∷ xs, rest)
unfolding more_separated
more_read item turns ts x line after xs rest read others = rw (read, others) refl

separated_some : {X : Type 0} {Item : List Token → X → Type 0} {all : List Token} {xs : List X} → g.Separated Item all xs → 1 ≤ length xs
separated_some (g.one s) = omega arith
separated_some (g.more line s others eq) = omega arith

separated_length : {X : Type 0} {Item : List Token → X → Type 0} {all : List Token} {xs : List X} → g.Separated Item all xs → length xs ≤ suc (length all)
separated_length (g.one s) = omega arith
separated_length (g.more line {first} {rest} s others eq) = omega (arith, separated_length others, ap length eq, length-append first (punct p.Comma line ∷ rest))

items_read : {X : Type 0} {Item : List Token → X → Type 0} (May : List Token → Type 0) (item : Reader X) → Complete Item May item → ((line : ℕ) (ts : List Token) → May (punct p.Comma line ∷ ts))
    → {all : List Token} {xs : List X} → g.Separated Item all xs → (rest : List Token) → May rest → punct_at p.Comma rest ≡ None → (turns : ℕ) → length xs ≤ suc turns → some_of item turns (all ++ rest) ≡ Some (xs, rest)
items_read May item reads comma (g.one {all} {x} s) rest may stop turns le = one_read item turns all rest x (reads all x s rest may) stop
items_read May item reads comma (g.more line {first} {rest = tail} {all} {x} {xs} s others eq) rest may stop zero le = let some = separated_some others in absurd (omega arith)
items_read May item reads comma (g.more line {first} {rest = tail} {all} {x} {xs} s others eq) rest may stop (suc turns) le =
    let c = punct p.Comma line in
    ap (λ all. some_of item (suc turns) (all ++ rest)) eq ∙ ap (some_of item (suc turns)) (append_assoc first (c ∷ tail) rest)
    ∙ more_read item turns (first ++ c ∷ (tail ++ rest)) x line (tail ++ rest) xs rest (reads first x s (c ∷ (tail ++ rest)) (comma line (tail ++ rest)))
    (items_read May item reads comma others rest may stop turns (omega arith))

pub separated_complete : {X : Type 0} (Item : List Token → X → Type 0) (May : List Token → Type 0) (item : Reader X) → Complete Item May item → ((line : ℕ) (ts : List Token) → May (punct p.Comma line ∷ ts))
    → (all : List Token) (xs : List X) → g.Separated Item all xs → (rest : List Token) → May rest → punct_at p.Comma rest ≡ None → separated_at item (all ++ rest) ≡ Some (xs, rest)
unfolding separated_at
separated_complete Item May item reads comma all xs (g.one {all = a} {x} s) rest may stop =
    let top : separated_at item (all ++ rest) ≡ some_of item (length rest) (all ++ rest) = rw (reads all x s rest may) refl in
    top ∙ one_read item (length rest) all rest x (reads all x s rest may) stop
separated_complete Item May item reads comma all xs (g.more line {first} {rest = tail} {all = a} {x} {xs = ys} s others eq) rest may stop =
    let c = punct p.Comma line in
    let after = c ∷ (tail ++ rest) in
    let enough : length (x ∷ ys) ≤ suc (length after) = omega (arith, separated_length others, length-append tail rest) in
    let first_read : item (all ++ rest) ≡ Some (x, after) = ap (λ all. item (all ++ rest)) eq ∙ ap item (append_assoc first (c ∷ tail) rest) ∙ reads first x s after (comma line (tail ++ rest)) in
    let here = items_read May item reads comma (g.more line s others eq) rest may stop (length after) enough in
    let top : separated_at item (all ++ rest) ≡ some_of item (length after) (all ++ rest) = rw first_read refl in
    top ∙ here
