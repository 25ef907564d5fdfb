-- Levels of operators, turn by turn, in the words of the code.
use Rattle.std.proofs.Common.{◌≡◌, ℕ, zero, suc, ◌+◌, ◌-◌, ◌≤◌, List, length, Some, None, Err, refl, sym, ap, ◌∙◌, arith, add-one}
use Rattle.c_syntax.specs.declared.token.Token.{Token}
use Rattle.c_grammar.specs.declared.fault.Fault.{Fault}
use Rattle.c_grammar.specs.Reading.{Reader, ◌>>=◌, chain, levels}
use Rattle.c_grammar.specs.Views.{Gives}
use Rattle.c_grammar.proofs.Readers.{gives_fault}

pub levels_zero : {X O : Type 0} (make : O → ℕ → X → X → X) (operator : ℕ → Reader (O × ℕ)) (n : ℕ) (p : Reader X) (ts : List Token) → n ≡ 0 → levels make operator n p ts ≡ p ts
unfolding levels
levels_zero make operator n p ts e = rw e refl

pub levels_more : {X O : Type 0} (make : O → ℕ → X → X → X) (operator : ℕ → Reader (O × ℕ)) (n : ℕ) (p : Reader X) (ts : List Token) → 1 ≤ n
    → levels make operator n p ts ≡ (levels make operator (n - 1) p ts >>= λ a. chain make (operator n) (levels make operator (n - 1) p) (length a.1) a.0 a.1)
unfolding levels
levels_more make operator zero p ts le = absurd (omega arith)
levels_more make operator (suc n) p ts le =
    let e : n ≡ suc n - 1 = omega arith in
    ap (λ m. levels make operator m p ts >>= λ a. chain make (operator (suc n)) (levels make operator m p) (length a.1) a.0 a.1) e

pub chain_ends : {X O : Type 0} (make : O → ℕ → X → X → X) (operator : Reader (O × ℕ)) (turns : ℕ) (p : Reader X) (a : X) (ts : List Token) → turns ≡ 0 → chain make operator p turns a ts ≡ Some (a, ts)
unfolding chain
chain_ends make operator turns p a ts e = rw e refl

pub chain_stops : {X O : Type 0} (make : O → ℕ → X → X → X) (operator : Reader (O × ℕ)) (turns : ℕ) (p : Reader X) (a : X) (ts : List Token) → operator ts ≡ None → chain make operator p turns a ts ≡ Some (a, ts)
unfolding chain
chain_stops make operator zero p a ts e = refl
chain_stops make operator (suc turns) p a ts e = rw e refl

pub chain_goes : {X O : Type 0} (make : O → ℕ → X → X → X) (operator : Reader (O × ℕ)) (turns turns' : ℕ) (p : Reader X) (a : X) (ts : List Token) (op : O) (line : ℕ) (after : List Token) → turns ≡ turns' + 1
    → operator ts ≡ Some ((op, line), after) → chain make operator p turns a ts ≡ (p after >>= λ b. chain make operator p turns' (make op line a b.0) b.1)
unfolding chain
chain_goes make operator turns turns' p a ts op line after e found = rw (e, add-one, found) refl

pub chain_turn : {X O : Type 0} (make : O → ℕ → X → X → X) (operator : Reader (O × ℕ)) (turns turns' : ℕ) (p : Reader X) (a b made : X) (ts : List Token) (op : O) (line : ℕ) (after rest : List Token) → turns ≡ turns' + 1
    → operator ts ≡ Some ((op, line), after) → p after ≡ Some (b, rest) → made ≡ make op line a b → chain make operator p turns' made rest ≡ chain make operator p turns a ts
chain_turn make operator turns turns' p a b made ts op line after rest e found read same =
    ap (λ made. chain make operator p turns' made rest) same
    ∙ sym (chain_goes make operator turns turns' p a ts op line after e found ∙ ap (λ x. x >>= λ b. chain make operator p turns' (make op line a b.0) b.1) read)

-- the same where the operand is at fault
pub chain_fault : {X Y O : Type 0} (see : Y → X) (make : O → ℕ → X → X → X) (operator : Reader (O × ℕ)) (turns turns' : ℕ) (p : Reader X) (a : X) (ts : List Token) (op : O) (line : ℕ) (after : List Token) (e : Fault)
    → turns ≡ turns' + 1 → operator ts ≡ Some ((op, line), after) → Gives see (Err e) (p after) → Gives see (Err e) (chain make operator p turns a ts)
chain_fault see make operator turns turns' p a ts op line after e eq found h =
    rw (chain_goes make operator turns turns' p a ts op line after eq found) (gives_fault see see (p after) _ e h)
