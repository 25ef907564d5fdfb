-- What is spelled before what ends the annotation is read, from the tokens on which it stands.
use Rattle.std.proofs.Common.{◌≡◌, ℕ, ◌+◌, ◌-◌, ◌≤◌, List, ◌∷◌, ◌++◌, length, Some, sym, ap, ◌∙◌, arith}
use Rattle.c_syntax.specs.declared.token.Token.{Token}
use Rattle.c_syntax.specs.Pred as r
use Rattle.c_syntax.specs.Decl as d
use Rattle.c_syntax.specs.Contract.{Contract, LoopAnnot}
use Rattle.c_grammar.specs.Tokens.{Names, annot_close}
use Rattle.c_grammar.specs.Annots.{SpellsContract, SpellsLoop, SpellsLogic}
use Rattle.acsl_parser.specs.Read.{loop_at, assert_at, contract_at, logic_at, logics_at}
use Rattle.acsl_parser.specs.Spelled.{IsClosed, SpellsAssertOn, SpellsLogics}
use Rattle.acsl_parser.proofs.Laws as law

pub loop_only : (types : Names) (room end : ℕ) (ts : List Token) → length ts ≤ end → (xs : List Token) (a : LoopAnnot) (rest : List Token) → ts ≡ xs ++ rest → SpellsLoop types room (end - length ts) xs a
    → IsClosed rest → loop_at types room end ts ≡ Some (a, rest)
loop_only types room end ts le xs a rest is s closed =
    let whole : ts ≡ xs ++ annot_close closed.0 ∷ closed.1 = is ∙ ap (λ l. xs ++ l) closed.2 in
    let placed : (end - length ts) + length (xs ++ annot_close closed.0 ∷ closed.1) ≡ end = omega (arith, le, ap length whole) in
    ap (loop_at types room end) whole ∙ law.loop_complete types room end (end - length ts) xs a s closed.0 closed.1 placed ∙ ap (λ (l : List Token). Some (a, l)) (sym closed.2)

pub assert_only : (types : Names) (room : ℕ) (ts xs : List Token) (a : r.Pred × ℕ) (rest : List Token) → ts ≡ xs ++ rest → SpellsAssertOn types room xs a → Unit {0} → assert_at types room ts ≡ Some (a, rest)
assert_only types room ts xs a rest is s follows = ap (assert_at types room) is ∙ law.assert_always types room xs a s rest

pub contract_only : (types : Names) (end : ℕ) (ts : List Token) → length ts ≤ end → (xs : List Token) (c : Contract) (rest : List Token) → ts ≡ xs ++ rest → SpellsContract types (end - length ts) xs c
    → IsClosed rest → contract_at types end ts ≡ Some (c, rest)
contract_only types end ts le xs c rest is s closed =
    let whole : ts ≡ xs ++ annot_close closed.0 ∷ closed.1 = is ∙ ap (λ l. xs ++ l) closed.2 in
    let placed : (end - length ts) + length (xs ++ annot_close closed.0 ∷ closed.1) ≡ end = omega (arith, le, ap length whole) in
    ap (contract_at types end) whole ∙ law.contract_complete types end (end - length ts) xs c s closed.0 closed.1 placed ∙ ap (λ (l : List Token). Some (c, l)) (sym closed.2)

pub logic_only : (types : Names) (ts xs : List Token) (x : d.LogicDecl) (rest : List Token) → ts ≡ xs ++ rest → SpellsLogic types xs x → Unit {0} → logic_at types ts ≡ Some (x, rest)
logic_only types ts xs x rest is s follows = ap (logic_at types) is ∙ law.logic_complete types xs x s rest

pub logics_only : (types : Names) (ts xs : List Token) (ds : List d.LogicDecl) (rest : List Token) → ts ≡ xs ++ rest → SpellsLogics types xs ds → IsClosed rest → logics_at types ts ≡ Some (ds, rest)
logics_only types ts xs ds rest is s closed =
    ap (logics_at types) (is ∙ ap (λ l. xs ++ l) closed.2) ∙ law.logics_complete types xs s.first s.more s.spelled closed.0 closed.1
    ∙ ap (λ (ds : List d.LogicDecl). Some (ds, annot_close closed.0 ∷ closed.1)) (sym s.are) ∙ ap (λ (l : List Token). Some (ds, l)) (sym closed.2)
