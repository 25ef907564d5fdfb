-- Levels of operators, each grouped to the left: what is read is spelled so, and what is spelled is read.
use Rattle.std.proofs.Common.{◌≡◌, ℕ, zero, suc, ◌≤◌, List, [], ◌∷◌, ◌++◌, length, Some, None, refl, sym, ap, ◌∙◌, subst, ⊎_elim, arith, append_assoc, append-nil, length-append}
use Rattle.std.proofs.lemmas.Bool.{cases_lt}
use Rattle.c_syntax.specs.declared.token.Token.{Token}
use Rattle.c_grammar.specs.Reading.{Reader, ◌>>=◌, linked, chain, levels}
use Rattle.c_grammar.proofs.Readers.{Sound, bind_ok, got, pair_is}
use Rattle.c_grammar.proofs.Chains.{chain_stops}

-- ---- what is read is spelled so

-- the operator of level m + 1 takes tokens that join what is left of them to what is right
abbrev pub Joins : {X O : Type 0} → (S : ℕ → List Token → X → Type 0) → (make : O → ℕ → X → X → X) → (operator : ℕ → Reader (O × ℕ)) → Type 0
Joins {X} {O} S make operator = (m : ℕ) (ts : List Token) (op : O) (line : ℕ) (after : List Token) → operator (suc m) ts ≡ Some ((op, line), after)
    → (first : List Token) × (ts ≡ first ++ after) × ((left right : List Token) (a b : X) → S (suc m) left a → S m right b → S (suc m) (left ++ (first ++ right)) (make op line a b))

abbrev pub Widens : {X : Type 0} → (S : ℕ → List Token → X → Type 0) → Type 0
Widens {X} S = (n : ℕ) (xs : List Token) (a : X) → S n xs a → S (suc n) xs a

-- the tokens in `before` spell what was read, and the tokens at the front go on with it
abbrev GoesOn : {X : Type 0} → (List Token → X → Type 0) → (before ts : List Token) → X → List Token → Type 0
GoesOn S before ts e rest = (xs : List Token) × (ts ≡ xs ++ rest) × S (before ++ xs) e

goes_nowhere : {X : Type 0} (S : List Token → X → Type 0) (a : X) (before ts : List Token) → S before a → (e : X) (rest : List Token) → got a ts ≡ got e rest → GoesOn S before ts e rest
goes_nowhere S a before ts s e rest h =
    let same = pair_is a e ts rest h in
    ([], same.1, subst (λ e. S (before ++ []) e) same.0 (subst (λ l. S l a) (sym (append-nil before)) s))

chain_sound : {X O : Type 0} (S : ℕ → List Token → X → Type 0) (make : O → ℕ → X → X → X) (operator : ℕ → Reader (O × ℕ)) → Joins S make operator
    → (n : ℕ) (operand : Reader X) → Sound (S n) operand → (turns : ℕ) (a : X) (before ts : List Token) → S (suc n) before a → (e : X) (rest : List Token)
    → chain make (operator (suc n)) operand turns a ts ≡ Some (e, rest) → GoesOn (S (suc n)) before ts e rest
unfolding chain
chain_sound S make operator joins n operand sound zero a before ts s e rest h = goes_nowhere (S (suc n)) a before ts s e rest h
chain_sound {X} {O} S make operator joins n operand sound (suc turns) a before ts s e rest h =
    elim (operator (suc n) ts) as (λ o. operator (suc n) ts ≡ o → linked make o a ts operand (chain make (operator (suc n)) operand turns) ≡ Some (e, rest) → GoesOn (S (suc n)) before ts e rest) [
      | None ↦ (λ none h. goes_nowhere (S (suc n)) a before ts s e rest h)
      | Some x ↦ (λ some h.
          let j = joins n ts x.0.0 x.0.1 x.1 some in
          let b = bind_ok (operand x.1) (λ b. chain make (operator (suc n)) operand turns (make x.0.0 x.0.1 a b.0) b.1) (e, rest) h in
          let right = sound x.1 b.0.0 b.0.1 b.1 in
          let more = chain_sound S make operator joins n operand sound turns (make x.0.0 x.0.1 a b.0.0) (before ++ (j.0 ++ right.0)) b.0.1 (j.2 before right.0 a b.0.0 s right.2) e rest b.2 in (
            j.0 ++ (right.0 ++ more.0),
            j.1 ∙ ap (λ l. j.0 ++ l) (right.1 ∙ ap (λ l. right.0 ++ l) more.1 ∙ sym (append_assoc right.0 more.0 rest)) ∙ sym (append_assoc j.0 (right.0 ++ more.0) rest),
            subst (λ l. S (suc n) l e) (append_assoc before (j.0 ++ right.0) more.0 ∙ ap (λ l. before ++ l) (append_assoc j.0 right.0 more.0)) more.2,
          ))
    ]
    refl h

pub levels_sound : {X O : Type 0} (S : ℕ → List Token → X → Type 0) (make : O → ℕ → X → X → X) (operator : ℕ → Reader (O × ℕ)) → Joins S make operator → Widens S
    → (n : ℕ) (operand : Reader X) → Sound (S 0) operand → Sound (S n) (levels make operator n operand)
unfolding levels
levels_sound S make operator joins widens zero operand sound ts e rest h = sound ts e rest h
levels_sound S make operator joins widens (suc n) operand sound ts e rest h =
    let below = levels_sound S make operator joins widens n operand sound in
    let a = bind_ok (levels make operator n operand ts) (λ a. chain make (operator (suc n)) (levels make operator n operand) (length a.1) a.0 a.1) (e, rest) h in
    let left = below ts a.0.0 a.0.1 a.1 in
    let more = chain_sound S make operator joins n (levels make operator n operand) below (length a.0.1) a.0.0 left.0 a.0.1 (widens n left.0 a.0.0 left.2) e rest a.2 in
    (left.0 ++ more.0, left.1 ∙ ap (λ l. left.0 ++ l) more.1 ∙ sym (append_assoc left.0 more.0 rest), more.2)

-- ---- what is spelled is read

-- no operator up to the level comes next
abbrev pub Ends : {O : Type 0} → (operator : ℕ → Reader (O × ℕ)) → ℕ → List Token → Type 0
Ends operator n ts = (m : ℕ) → m ≤ n → operator m ts ≡ None

pub ends_fewer : {O : Type 0} (operator : ℕ → Reader (O × ℕ)) (m n : ℕ) (ts : List Token) → m ≤ n → Ends operator n ts → Ends operator m ts
ends_fewer operator m n ts le h i less = h i (omega arith)

-- Where operators of level n may still come, the reader of the level has read e and goes on with them. An operand ends only where `Stops` holds of
-- what comes next.
abbrev pub Reads : {X O : Type 0} → (make : O → ℕ → X → X → X) → (operator : ℕ → Reader (O × ℕ)) → (Stops : List Token → Type 0) → ℕ → Reader X → List Token → X → Type 0
Reads make operator Stops zero operand xs e = (rest : List Token) → Stops rest → levels make operator 0 operand (xs ++ rest) ≡ Some (e, rest)
Reads make operator Stops (suc n) operand xs e = (rest : List Token) → Stops rest → Ends operator n rest
    → (turns : ℕ) × (length rest ≤ turns) × (levels make operator (suc n) operand (xs ++ rest) ≡ chain make (operator (suc n)) (levels make operator n operand) turns e rest)

-- at the end of the level it has read e
pub reads_all : {X O : Type 0} (make : O → ℕ → X → X → X) (operator : ℕ → Reader (O × ℕ)) (Stops : List Token → Type 0) (n : ℕ) (p : Reader X) (xs : List Token) (e : X)
    → Reads make operator Stops n p xs e → (rest : List Token) → Stops rest → Ends operator n rest → levels make operator n p (xs ++ rest) ≡ Some (e, rest)
reads_all make operator Stops zero p xs e r rest stops h = r rest stops
reads_all make operator Stops (suc n) p xs e r rest stops h =
    let x = r rest stops (ends_fewer operator n (suc n) rest (omega arith) h) in
    x.2 ∙ chain_stops make (operator (suc n)) x.0 (levels make operator n p) e rest (h (suc n) (omega arith))

-- what a level reads, the looser ones read
looser : {X O : Type 0} (make : O → ℕ → X → X → X) (operator : ℕ → Reader (O × ℕ)) (Stops : List Token → Type 0) (n : ℕ) (p : Reader X) (xs : List Token) (e : X)
    → Reads make operator Stops n p xs e → Reads make operator Stops (suc n) p xs e
unfolding levels
looser make operator Stops n p xs e r rest stops h =
    (length rest, omega arith, ap (λ o. o >>= λ a. chain make (operator (suc n)) (levels make operator n p) (length a.1) a.0 a.1) (reads_all make operator Stops n p xs e r rest stops h))

pub looser_to : {X O : Type 0} (make : O → ℕ → X → X → X) (operator : ℕ → Reader (O × ℕ)) (Stops : List Token → Type 0) (n m : ℕ) (p : Reader X) (xs : List Token) (e : X)
    → n ≤ m → Reads make operator Stops n p xs e → Reads make operator Stops m p xs e
looser_to make operator Stops n zero p xs e le r = let same : n ≡ 0 = omega arith in subst (λ n. Reads make operator Stops n p xs e) same r
looser_to make operator Stops n (suc m) p xs e le r =
    ⊎_elim
    (λ lt. looser make operator Stops m p xs e (looser_to make operator Stops n m p xs e (omega arith) r))
    (λ ge. let same : n ≡ suc m = omega arith in subst (λ n. Reads make operator Stops n p xs e) same r)
    (cases_lt n (suc m))

-- an operand is spelled at every level
pub flat : {X O : Type 0} (make : O → ℕ → X → X → X) (operator : ℕ → Reader (O × ℕ)) (Stops : List Token → Type 0) (n : ℕ) (p : Reader X) (xs : List Token) (e : X)
    → ((rest : List Token) → Stops rest → p (xs ++ rest) ≡ Some (e, rest)) → Reads make operator Stops n p xs e
unfolding levels
flat make operator Stops n p xs e h = looser_to make operator Stops 0 n p xs e (omega arith) h

chain_takes : {X O : Type 0} (make : O → ℕ → X → X → X) (operator : Reader (O × ℕ)) (turns line : ℕ) (op : O) (p : Reader X) (a b : X) (ts after rest : List Token)
    → operator ts ≡ Some ((op, line), after) → suc (length rest) ≤ turns → p after ≡ Some (b, rest)
    → (turns' : ℕ) × (length rest ≤ turns') × (chain make operator p turns a ts ≡ chain make operator p turns' (make op line a b) rest)
unfolding chain
chain_takes make operator zero line op p a b ts after rest takes le read = absurd (omega arith)
chain_takes make operator (suc turns) line op p a b ts after rest takes le read = (turns, omega arith, rw (takes, read) refl)

-- an operator of the level, and an operand of the one below
pub reads_binary : {X O : Type 0} (make : O → ℕ → X → X → X) (operator : ℕ → Reader (O × ℕ)) (Stops : List Token → Type 0) (m line : ℕ) (op : O) (p : Reader X) (tok : Token) (left right : List Token) (a b : X)
    → ((rest : List Token) → Stops rest → operator (suc m) (tok ∷ (right ++ rest)) ≡ Some ((op, line), right ++ rest))
    → ((rest : List Token) → Stops rest → Ends operator m (tok ∷ (right ++ rest)))
    → ((rest : List Token) → Stops rest → Stops (tok ∷ (right ++ rest)))
    → Reads make operator Stops (suc m) p left a → Reads make operator Stops m p right b
    → Reads make operator Stops (suc m) p (left ++ tok ∷ right) (make op line a b)
reads_binary make operator Stops m line op p tok left right a b takes ends stops ra rb rest s h =
    let x = ra (tok ∷ (right ++ rest)) (stops rest s) (ends rest s) in
    let y = chain_takes make (operator (suc m)) x.0 line op (levels make operator m p) a b (tok ∷ (right ++ rest)) (right ++ rest) rest (takes rest s) (omega (arith, x.1, length-append right rest)) (reads_all make operator Stops m p right b rb rest s h) in
    (y.0, y.1, ap (levels make operator (suc m) p) (append_assoc left (tok ∷ right) rest) ∙ x.2 ∙ y.2)
