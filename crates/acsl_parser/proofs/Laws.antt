-- The readers of annotations read exactly what is spelled. The crates above cite these laws.
use Rattle.std.proofs.Common.{◌≡◌, ℕ, ◌+◌, ◌-◌, ◌≤◌, List, ◌∷◌, ◌++◌, length, codes, Some, None, subst}
use Rattle.c_syntax.specs.declared.token.Token.{Token}
use Rattle.c_syntax.specs.Pred as r
use Rattle.c_syntax.specs.Decl as d
use Rattle.c_syntax.specs.Contract.{Contract, LoopAnnot}
use Rattle.c_grammar.specs.Tokens.{Names, annot_close}
use Rattle.c_grammar.specs.Lists.{Repeated}
use Rattle.c_grammar.specs.Annots.{SpellsContract, SpellsLoop, SpellsAssert, SpellsLogic}
use Rattle.c_grammar.specs.Annots as g
use Rattle.c_grammar.specs.Reading.{keyword_at}
use Rattle.c_grammar.proofs.Readers.{Took, Sound}
use Rattle.acsl_parser.specs.Read.{loop_at, assert_at, contract_at, logic_at, logics_at}
use Rattle.acsl_parser.specs.Spelled.{SpellsAssertOn, SpellsLogics}
use Rattle.acsl_parser.proofs.Parts.{below}
use Rattle.acsl_parser.proofs.SoundParts as sound
use Rattle.acsl_parser.proofs.CompleteParts as complete
use Rattle.acsl_parser.proofs.Facts.{close_no_part, close_no_ending, close_no_logic, Begins, assert_begins, loop_no_assert, and_left}

-- ---- what is read is spelled so

pub loop_sound : (types : Names) (room end : ℕ) (ts : List Token) (a : LoopAnnot) (rest : List Token) → length ts ≤ end → loop_at types room end ts ≡ Some (a, rest)
    → Took (SpellsLoop types room (end - length ts)) ts a rest
loop_sound types room end = sound.loop_sound (below types) room end

pub assert_sound : (types : Names) (room : ℕ) → Sound (SpellsAssertOn types room) (assert_at types room)
assert_sound types room = sound.assert_sound (below types) room

pub contract_sound : (types : Names) (end : ℕ) (ts : List Token) (c : Contract) (rest : List Token) → length ts ≤ end → contract_at types end ts ≡ Some (c, rest)
    → Took (SpellsContract types (end - length ts)) ts c rest
contract_sound types end = sound.contract_sound (below types) end

pub logic_sound : (types : Names) → Sound (SpellsLogic types) (logic_at types)
logic_sound types = sound.logic_sound (below types)

pub logics_sound : (types : Names) → Sound (SpellsLogics types) (logics_at types)
logics_sound types ts ds rest h =
    let took = sound.logics_sound (below types) ts ds rest h in
    let some = sound.logics_some types ts ds rest h in
    (took.0, took.1, record { first = some.0; more = some.1; are = some.2; spelled = subst (Repeated (SpellsLogic types) took.0) some.2 took.2 })

-- ---- what is spelled is read, before what ends the annotation

pub loop_complete : (types : Names) (room end at : ℕ) (xs : List Token) (a : LoopAnnot) → SpellsLoop types room at xs a → (line : ℕ) (rest : List Token)
    → at + length (xs ++ annot_close line ∷ rest) ≡ end → loop_at types room end (xs ++ annot_close line ∷ rest) ≡ Some (a, annot_close line ∷ rest)
loop_complete types room end at xs a sp line rest placed = complete.loop_complete (below types) room end at xs a sp (annot_close line ∷ rest) (close_no_part line rest).0 placed

pub assert_complete : (types : Names) (room : ℕ) (xs : List Token) (a : r.Pred × ℕ) → SpellsAssert types room xs a.0 a.1 → (line : ℕ) (rest : List Token)
    → assert_at types room (xs ++ annot_close line ∷ rest) ≡ Some (a, annot_close line ∷ rest)
assert_complete types room xs a sp line rest = complete.assert_complete (below types) room xs a.0 a.1 sp (annot_close line ∷ rest)

-- whatever comes next
pub assert_always : (types : Names) (room : ℕ) (xs : List Token) (a : r.Pred × ℕ) → SpellsAssert types room xs a.0 a.1 → (rest : List Token) → assert_at types room (xs ++ rest) ≡ Some (a, rest)
assert_always types room xs a sp rest = complete.assert_complete (below types) room xs a.0 a.1 sp rest

pub contract_complete : (types : Names) (end at : ℕ) (xs : List Token) (c : Contract) → SpellsContract types at xs c → (line : ℕ) (rest : List Token)
    → at + length (xs ++ annot_close line ∷ rest) ≡ end → contract_at types end (xs ++ annot_close line ∷ rest) ≡ Some (c, annot_close line ∷ rest)
contract_complete types end at xs c sp line rest placed =
    complete.contract_complete (below types) end at xs c sp (annot_close line ∷ rest) (close_no_part line rest) (close_no_ending line rest) placed

pub logic_complete : (types : Names) (xs : List Token) (x : d.LogicDecl) → SpellsLogic types xs x → (rest : List Token) → logic_at types (xs ++ rest) ≡ Some (x, rest)
logic_complete types = complete.logic_complete (below types)

pub logics_complete : (types : Names) (xs : List Token) (x : d.LogicDecl) (ds : List d.LogicDecl) → Repeated (SpellsLogic types) xs (x ∷ ds) → (line : ℕ) (rest : List Token)
    → logics_at types (xs ++ annot_close line ∷ rest) ≡ Some (x ∷ ds, annot_close line ∷ rest)
logics_complete types xs x ds sp line rest = complete.logics_complete (below types) xs x ds sp (annot_close line ∷ rest) (close_no_logic line rest)

-- ---- how the parts begin

pub loop_starts : (types : Names) (room at : ℕ) (xs : List Token) (a : LoopAnnot) → SpellsLoop types room at xs a → (line : ℕ) (rest : List Token) → keyword_at (codes "assert") (xs ++ annot_close line ∷ rest) ≡ None
loop_starts types room at xs a (g.loop its stands is) line rest = loop_no_assert its (and_left _ _ stands) line rest

pub assert_starts : (types : Names) (room : ℕ) (xs : List Token) (a : r.Pred) (line : ℕ) → SpellsAssert types room xs a line → Begins (codes "assert") xs
assert_starts types room xs a line sp = assert_begins sp
