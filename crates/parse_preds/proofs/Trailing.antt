-- Levels of connectives over operands that may trail: what is read is spelled so, where no connective comes behind one that trails.
use Rattle.std.proofs.Common.{◌≡◌, ℕ, zero, suc, ◌≤◌, Bool, true, false, List, [], ◌∷◌, ◌++◌, length, Some, None, refl, sym, ap, ◌∙◌, subst, arith, append_assoc, append-nil, length-append}
use Rattle.c_syntax.specs.declared.token.Token.{Token}
use Rattle.c_syntax.specs.Pred as r
use Rattle.c_grammar.specs.Reading.{Reader, ◌>>=◌, linked, chain, levels}
use Rattle.c_grammar.proofs.Readers.{bind_ok, got, pair_is}
use Rattle.c_grammar.proofs.Levels.{Ends, Reads, reads_all}
use Rattle.parse_preds.specs.Next.{ends_pred}

-- what tokens spell, and whether that trails
abbrev pub Trailing : Type 1
Trailing = (trails : Bool) → List Token → r.Pred → Type 0

-- Tokens at the front are spelled so, and these come after them. Where what is spelled trails, nothing goes on with it.
abbrev pub Reached : Trailing → List Token → r.Pred → List Token → Type 0
Reached S ts a rest = (xs : List Token) × (ts ≡ xs ++ rest) × (trails : Bool) × S trails xs a × (trails ≡ true → ends_pred rest ≡ true)

abbrev pub Reaches : Trailing → Reader r.Pred → Type 0
Reaches S read = (ts : List Token) (a : r.Pred) (rest : List Token) → read ts ≡ Some (a, rest) → Reached S ts a rest

-- an operator takes tokens that join what is left of them, which does not trail, to what is right
abbrev pub Joins : {O : Type 0} → (Whole Item : Trailing) → (make : O → ℕ → r.Pred → r.Pred → r.Pred) → Reader (O × ℕ) → Type 0
Joins {O} Whole Item make operator = (ts : List Token) (op : O) (line : ℕ) (after : List Token) → operator ts ≡ Some ((op, line), after)
    → (first : List Token) × (ts ≡ first ++ after) × ((trails : Bool) (left right : List Token) (a b : r.Pred) → Whole false left a → Item trails right b → Whole trails (left ++ (first ++ right)) (make op line a b))

abbrev pub Halts : {O : Type 0} → Reader (O × ℕ) → Type 0
Halts operator = (ts : List Token) → ends_pred ts ≡ true → operator ts ≡ None

-- the tokens in `before` spell what was read, and the tokens at the front go on with it
abbrev GoesOn : Trailing → (before ts : List Token) → r.Pred → List Token → Type 0
GoesOn S before ts e rest = (xs : List Token) × (ts ≡ xs ++ rest) × (trails : Bool) × S trails (before ++ xs) e × (trails ≡ true → ends_pred rest ≡ true)

goes_nowhere : (S : Trailing) (a : r.Pred) (before ts : List Token) (trails : Bool) → S trails before a → (trails ≡ true → ends_pred ts ≡ true) → (e : r.Pred) (rest : List Token) → got a ts ≡ got e rest → GoesOn S before ts e rest
goes_nowhere S a before ts trails s ends e rest h =
    let same = pair_is a e ts rest h in (
      [],
      same.1,
      trails,
      subst (λ e. S trails (before ++ []) e) same.0 (subst (λ l. S trails l a) (sym (append-nil before)) s),
      λ t. ap ends_pred (sym same.1) ∙ ends t,
    )

-- before an operator nothing trails
pub not_trailing : {O : Type 0} (operator : Reader (O × ℕ)) → Halts operator → (S : Trailing) (trails : Bool) (xs : List Token) (a : r.Pred) (ts : List Token) (x : (O × ℕ) × List Token)
    → operator ts ≡ Some x → S trails xs a → (trails ≡ true → ends_pred ts ≡ true) → S false xs a
not_trailing operator halts S false xs a ts x some s ends = s
not_trailing operator halts S true xs a ts x some s ends = let none = halts ts (ends refl) in absurd cc

pub chain_reaches : {O : Type 0} (Whole Item : Trailing) (make : O → ℕ → r.Pred → r.Pred → r.Pred) (operator : Reader (O × ℕ)) → Joins Whole Item make operator → Halts operator
    → (operand : Reader r.Pred) → Reaches Item operand → (turns : ℕ) (a : r.Pred) (before ts : List Token) (trails : Bool) → Whole trails before a → (trails ≡ true → ends_pred ts ≡ true) → (e : r.Pred) (rest : List Token)
    → chain make operator operand turns a ts ≡ Some (e, rest) → GoesOn Whole before ts e rest
unfolding chain
chain_reaches Whole Item make operator joins halts operand sound zero a before ts trails s ends e rest h = goes_nowhere Whole a before ts trails s ends e rest h
chain_reaches {O} Whole Item make operator joins halts operand sound (suc turns) a before ts trails s ends e rest h =
    elim (operator ts) as (λ o. operator ts ≡ o → linked make o a ts operand (chain make operator operand turns) ≡ Some (e, rest) → GoesOn Whole before ts e rest) [
      | None ↦ (λ none h. goes_nowhere Whole a before ts trails s ends e rest h)
      | Some x ↦ (λ some h.
          let j = joins ts x.0.0 x.0.1 x.1 some in
          let b = bind_ok (operand x.1) (λ b. chain make operator operand turns (make x.0.0 x.0.1 a b.0) b.1) (e, rest) h in
          let right = sound x.1 b.0.0 b.0.1 b.1 in
          let left = not_trailing operator halts Whole trails before a ts x some s ends in
          let more = chain_reaches Whole Item make operator joins halts operand sound turns (make x.0.0 x.0.1 a b.0.0) (before ++ (j.0 ++ right.0)) b.0.1 right.2 (j.2 right.2 before right.0 a b.0.0 left right.3) right.4 e rest b.2 in (
            j.0 ++ (right.0 ++ more.0),
            j.1 ∙ ap (λ l. j.0 ++ l) (right.1 ∙ ap (λ l. right.0 ++ l) more.1 ∙ sym (append_assoc right.0 more.0 rest)) ∙ sym (append_assoc j.0 (right.0 ++ more.0) rest),
            more.2,
            subst (λ l. Whole more.2 l e) (append_assoc before (j.0 ++ right.0) more.0 ∙ ap (λ l. before ++ l) (append_assoc j.0 right.0 more.0)) more.3,
            more.4,
          ))
    ]
    refl h

-- what a chain of one level reads behind its first operand
pub linked_reaches : {O : Type 0} (Whole Item : Trailing) (make : O → ℕ → r.Pred → r.Pred → r.Pred) (operator : Reader (O × ℕ)) → Joins Whole Item make operator → Halts operator
    → ((trails : Bool) (xs : List Token) (a : r.Pred) → Item trails xs a → Whole trails xs a) → (operand : Reader r.Pred) → Reaches Item operand
    → (ts : List Token) (e : r.Pred) (rest : List Token) → (operand ts >>= λ a. chain make operator operand (length a.1) a.0 a.1) ≡ Some (e, rest) → Reached Whole ts e rest
linked_reaches Whole Item make operator joins halts widens operand sound ts e rest h =
    let a = bind_ok (operand ts) (λ a. chain make operator operand (length a.1) a.0 a.1) (e, rest) h in
    let left = sound ts a.0.0 a.0.1 a.1 in
    let more = chain_reaches Whole Item make operator joins halts operand sound (length a.0.1) a.0.0 left.0 a.0.1 left.2 (widens left.2 left.0 a.0.0 left.3) left.4 e rest a.2 in
    (left.0 ++ more.0, left.1 ∙ ap (λ l. left.0 ++ l) more.1 ∙ sym (append_assoc left.0 more.0 rest), more.2, more.3, more.4)

pub levels_reach : {O : Type 0} (S : ℕ → Trailing) (make : O → ℕ → r.Pred → r.Pred → r.Pred) (operator : ℕ → Reader (O × ℕ)) → ((m : ℕ) → Joins (S (suc m)) (S m) make (operator (suc m))) → ((m : ℕ) → Halts (operator (suc m)))
    → ((n : ℕ) (trails : Bool) (xs : List Token) (a : r.Pred) → S n trails xs a → S (suc n) trails xs a) → (n : ℕ) (operand : Reader r.Pred) → Reaches (S 0) operand → Reaches (S n) (levels make operator n operand)
unfolding levels
levels_reach S make operator joins halts widens zero operand sound ts e rest h = sound ts e rest h
levels_reach S make operator joins halts widens (suc n) operand sound ts e rest h =
    linked_reaches (S (suc n)) (S n) make (operator (suc n)) (joins n) (halts n) (widens n) (levels make operator n operand) (levels_reach S make operator joins halts widens n operand sound) ts e rest h

-- ---- what is spelled is read

chain_takes : {O : Type 0} (make : O → ℕ → r.Pred → r.Pred → r.Pred) (operator : Reader (O × ℕ)) (turns line : ℕ) (op : O) (p : Reader r.Pred) (a b : r.Pred) (ts after rest : List Token)
    → operator ts ≡ Some ((op, line), after) → suc (length rest) ≤ turns → p after ≡ Some (b, rest)
    → (turns' : ℕ) × (length rest ≤ turns') × (chain make operator p turns a ts ≡ chain make operator p turns' (make op line a b) rest)
unfolding chain
chain_takes make operator zero line op p a b ts after rest takes le read = absurd (omega arith)
chain_takes make operator (suc turns) line op p a b ts after rest takes le read = (turns, omega arith, rw (takes, read) refl)

-- an operator of the level and an operand of the one below, where the left side ends otherwise than the whole
pub reads_joined : {O : Type 0} (make : O → ℕ → r.Pred → r.Pred → r.Pred) (operator : ℕ → Reader (O × ℕ)) (StopsLeft Stops : List Token → Type 0) (m line : ℕ) (op : O) (p : Reader r.Pred) (tok : Token) (left right : List Token) (a b : r.Pred)
    → ((rest : List Token) → operator (suc m) (tok ∷ (right ++ rest)) ≡ Some ((op, line), right ++ rest))
    → ((rest : List Token) → Ends operator m (tok ∷ (right ++ rest)))
    → ((rest : List Token) → StopsLeft (tok ∷ (right ++ rest)))
    → Reads make operator StopsLeft (suc m) p left a → Reads make operator Stops m p right b
    → Reads make operator Stops (suc m) p (left ++ tok ∷ right) (make op line a b)
reads_joined make operator StopsLeft Stops m line op p tok left right a b takes ends stops ra rb rest s h =
    let x = ra (tok ∷ (right ++ rest)) (stops rest) (ends rest) in
    let y = chain_takes make (operator (suc m)) x.0 line op (levels make operator m p) a b (tok ∷ (right ++ rest)) (right ++ rest) rest (takes rest) (omega (arith, x.1, length-append right rest)) (reads_all make operator Stops m p right b rb rest s h) in
    (y.0, y.1, ap (levels make operator (suc m) p) (append_assoc left (tok ∷ right) rest) ∙ x.2 ∙ y.2)
