-- Items one after another, each with its place: what is read is spelled so, and what is spelled is read.
use Rattle.std.proofs.Common.{◌≡◌, ℕ, zero, suc, ◌+◌, ◌-◌, ◌≤◌, Bool, true, false, List, [], ◌∷◌, ◌++◌, length, Some, refl, sym, ap, ◌∙◌, subst, arith, append_assoc, length-append}
use Rattle.c_syntax.specs.declared.token.Token.{Token}
use Rattle.c_grammar.specs.Reading.{Reader, ◌>>=◌}
use Rattle.c_grammar.specs.Exactness.{Took, SoundAt}
use Rattle.c_grammar.proofs.Readers.{bind_ok, got, pair_is}
use Rattle.acsl_parser.specs.Lists.{repeat_go, repeat}

-- {item}, where the place of each item counts
pub data RepeatedAt {X : Type 0} (Item : (at : ℕ) → List Token → X → Type 0) : (at : ℕ) → List Token → List X → Type 0 where
  none : {at : ℕ} → RepeatedAt Item at [] []
  more : {at : ℕ} {first rest all : List Token} {x : X} {xs : List X}
      → Item at first x → RepeatedAt Item (at + length first) rest xs → all ≡ first ++ rest → RepeatedAt Item at all (x ∷ xs)

-- ---- what is read is spelled so

repeat_ends : {X : Type 0} (Item : (at : ℕ) → List Token → X → Type 0) (at : ℕ) (ts : List Token) (xs : List X) (rest : List Token) → got [] ts ≡ got xs rest → Took (RepeatedAt Item at) ts xs rest
repeat_ends {X} Item at ts xs rest h =
    let no_items : List X = [] in
    let same = pair_is no_items xs ts rest h in
    ([], same.1, subst (RepeatedAt Item at []) same.0 none)

pub repeat_sound : {X : Type 0} (Item : (at : ℕ) → List Token → X → Type 0) (starts : List Token → Bool) (item : Reader X) (end : ℕ) → SoundAt Item end item → (turns : ℕ) → SoundAt (RepeatedAt Item) end (repeat starts item turns)
unfolding repeat
repeat_sound Item starts item end sound zero ts xs rest le h = repeat_ends Item (end - length ts) ts xs rest h
repeat_sound Item starts item end sound (suc turns) ts xs rest le h =
    elim (starts ts) as (λ b. repeat_go b item ts (repeat starts item turns) ≡ Some (xs, rest) → Took (RepeatedAt Item (end - length ts)) ts xs rest) [
      | false ↦ (λ h. repeat_ends Item (end - length ts) ts xs rest h)
      | true ↦ (λ h.
          let x = bind_ok (item ts) (λ x. repeat starts item turns x.1 >>= λ xs. Some (x.0 ∷ xs.0, xs.1)) (xs, rest) h in
          let ys = bind_ok (repeat starts item turns x.0.1) (λ xs. Some (x.0.0 ∷ xs.0, xs.1)) (xs, rest) x.2 in
          let same = pair_is (x.0.0 ∷ ys.0.0) xs ys.0.1 rest ys.2 in
          let took = sound ts x.0.0 x.0.1 le x.1 in
          let count : length ts ≡ length took.0 + length x.0.1 = ap length took.1 ∙ length-append took.0 x.0.1 in
          let within : length x.0.1 ≤ end = omega (arith, count, le) in
          let place : end - length x.0.1 ≡ (end - length ts) + length took.0 = omega (arith, count, le) in
          let others = repeat_sound Item starts item end sound turns x.0.1 ys.0.0 ys.0.1 within ys.1 in (
            took.0 ++ others.0,
            took.1 ∙ ap (λ l. took.0 ++ l) (others.1 ∙ ap (λ l. others.0 ++ l) same.1) ∙ sym (append_assoc took.0 others.0 rest),
            subst (RepeatedAt Item (end - length ts) (took.0 ++ others.0)) same.0 (more took.2 (subst (λ at. RepeatedAt Item at others.0 ys.0.0) place others.2) refl),
          ))
    ]
    h

-- ---- what is spelled is read

-- what an item needs of the tokens behind it, and how it begins
pub record Repeats {X : Type 0} (Item : (at : ℕ) → List Token → X → Type 0) (May : List Token → Type 0) (starts : List Token → Bool) (item : Reader X) (end : ℕ) : Type 0 where
  pub reads : (at : ℕ) (xs : List Token) (x : X) → Item at xs x → (rest : List Token) → May rest → at + length (xs ++ rest) ≡ end → item (xs ++ rest) ≡ Some (x, rest)
  pub may : (ts : List Token) → starts ts ≡ true → May ts
  pub begins : (at : ℕ) (xs : List Token) (x : X) → Item at xs x → (rest : List Token) → starts (xs ++ rest) ≡ true
  pub bare : starts [] ≡ false

some_tokens : (starts : List Token → Bool) (xs : List Token) → starts (xs ++ []) ≡ true → starts [] ≡ false → 1 ≤ length xs
some_tokens starts [] h bare = absurd cc
some_tokens starts (x ∷ xs) h bare = omega arith

few : {X : Type 0} {Item : (at : ℕ) → List Token → X → Type 0} {May : List Token → Type 0} {starts : List Token → Bool} {item : Reader X} {end : ℕ} → Repeats Item May starts item end
    → {at : ℕ} {all : List Token} {xs : List X} → RepeatedAt Item at all xs → length xs ≤ length all
few r none = omega arith
few {starts} r (more {at} {first} {rest = tail} {x} s others eq) =
    omega (arith, few r others, some_tokens starts first (r.begins at first x s []) r.bare, ap length eq, length-append first tail)

pub goes_on : {X : Type 0} {Item : (at : ℕ) → List Token → X → Type 0} {May : List Token → Type 0} {starts : List Token → Bool} {item : Reader X} {end : ℕ} → Repeats Item May starts item end
    → {at : ℕ} {all : List Token} {xs : List X} → RepeatedAt Item at all xs → (rest : List Token) → May rest → May (all ++ rest)
goes_on r none rest may = may
goes_on {May} r (more {at} {first} {rest = tail} {x} s others eq) rest may =
    subst May (sym (ap (λ l. l ++ rest) eq ∙ append_assoc first tail rest)) (r.may (first ++ (tail ++ rest)) (r.begins at first x s (tail ++ rest)))

stop_read : {X : Type 0} (starts : List Token → Bool) (item : Reader X) (turns : ℕ) (rest : List Token) → starts rest ≡ false → repeat starts item turns rest ≡ Some ([], rest)
unfolding repeat
stop_read starts item zero rest stop = refl
stop_read starts item (suc turns) rest stop = rw stop refl

more_read : {X : Type 0} (starts : List Token → Bool) (item : Reader X) (turns : ℕ) (ts : List Token) (x : X) (after : List Token) (xs : List X) (rest : List Token) → starts ts ≡ true → item ts ≡ Some (x, after)
    → repeat starts item turns after ≡ Some (xs, rest) → repeat starts item (suc turns) ts ≡ Some (x ∷ xs, rest)
unfolding repeat
more_read starts item turns ts x after xs rest start' read others = rw (start', read, others) refl

repeat_read : {X : Type 0} {Item : (at : ℕ) → List Token → X → Type 0} {May : List Token → Type 0} {starts : List Token → Bool} {item : Reader X} {end : ℕ} → Repeats Item May starts item end
    → {at : ℕ} {all : List Token} {xs : List X} → RepeatedAt Item at all xs → (rest : List Token) → May rest → starts rest ≡ false → at + length (all ++ rest) ≡ end
    → (turns : ℕ) → length xs ≤ turns → repeat starts item turns (all ++ rest) ≡ Some (xs, rest)
repeat_read {starts} {item} r none rest may stop place turns le = stop_read starts item turns rest stop
repeat_read r (more s others eq) rest may stop place zero le = absurd (omega arith)
repeat_read {starts} {item} {end} r (more {at} {first} {rest = tail} {all} {x} {xs} s others eq) rest may stop place (suc turns) le =
    let split : all ++ rest ≡ first ++ (tail ++ rest) = ap (λ l. l ++ rest) eq ∙ append_assoc first tail rest in
    let count = length-append first (tail ++ rest) in
    let here : at + length (first ++ (tail ++ rest)) ≡ end = omega (arith, ap length split, place) in
    let later : (at + length first) + length (tail ++ rest) ≡ end = omega (arith, here, count) in
    ap (repeat starts item (suc turns)) split
    ∙ more_read starts item turns (first ++ (tail ++ rest)) x (tail ++ rest) xs rest (r.begins at first x s (tail ++ rest)) (r.reads at first x s (tail ++ rest) (goes_on r others rest may) here)
    (repeat_read r others rest may stop later turns (omega arith))

pub repeat_complete : {X : Type 0} {Item : (at : ℕ) → List Token → X → Type 0} {May : List Token → Type 0} {starts : List Token → Bool} {item : Reader X} {end : ℕ} → Repeats Item May starts item end
    → {at : ℕ} {all : List Token} {xs : List X} → RepeatedAt Item at all xs → (rest : List Token) → May rest → starts rest ≡ false → at + length (all ++ rest) ≡ end
    → repeat starts item (length (all ++ rest)) (all ++ rest) ≡ Some (xs, rest)
repeat_complete r {all} s rest may stop place = repeat_read r s rest may stop place (length (all ++ rest)) (omega (arith, few r s, length-append all rest))

-- the first one, and those behind it
pub repeat_starts : {X : Type 0} {Item : (at : ℕ) → List Token → X → Type 0} {May : List Token → Type 0} {starts : List Token → Bool} {item : Reader X} {end : ℕ} → Repeats Item May starts item end
    → {at : ℕ} {all : List Token} {x : X} {xs : List X} → RepeatedAt Item at all (x ∷ xs) → (rest : List Token) → starts (all ++ rest) ≡ true
repeat_starts {starts} r (more {at} {first} {rest = tail} {x} s others eq) rest =
    subst (λ ts. starts ts ≡ true) (sym (ap (λ l. l ++ rest) eq ∙ append_assoc first tail rest)) (r.begins at first x s (tail ++ rest))
