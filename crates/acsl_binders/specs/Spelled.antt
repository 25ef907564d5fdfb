-- Each quantifier of a program as spelled binds a name (ACSL 2.2, 2.3, 2.4, 2.6).
use Rattle.std.specs.Prelude.{ℕ, Bool, List, Option, Some, None}
use Rattle.c_syntax.specs.declared.token.Token.{Token}
use Rattle.c_syntax.specs.Pred.{Pred}
use Rattle.c_syntax.specs.Contract.{Contract, LoopAnnot}
use Rattle.c_syntax.specs.Stmt as p
use Rattle.c_syntax.specs.Decl as d
use Rattle.c_grammar.specs.Tokens.{Names}
use Rattle.c_grammar.specs.Preds.{SpellsPred}
use Rattle.c_grammar.specs.Annots.{SpellsAssert, SpellsLoop, SpellsContract, SpellsLogic}
use Rattle.c_grammar.specs.Stmts.{SpellsStmt}
use Rattle.c_grammar.specs.Decls.{Lines, SpellsLines}
use Rattle.acsl_well_typed.specs.Ranges.{EachBinds}
use Rattle.acsl_well_typed.specs.Clauses.{All, ContractBinds, LoopBinds}
use Rattle.acsl_well_typed.specs.Definitions.{BodyBinds}

-- ---- of trees

abbrev mutual
  pub SpelledBinds : p.Stmt → Type 0
  SpelledBinds (p.empty line) = Unit {0}
  SpelledBinds (p.expr line a) = Unit {0}
  SpelledBinds (p.block line body) = AllSpelledBind body
  SpelledBinds (p.locals line vars) = Unit {0}
  SpelledBinds (p.if_only line test x) = SpelledBinds x
  SpelledBinds (p.if_else line test x y) = SpelledBinds x × SpelledBinds y
  SpelledBinds (p.while_of line annot test body) = LoopBinds annot × SpelledBinds body
  SpelledBinds (p.do_of line annot body test) = LoopBinds annot × SpelledBinds body
  SpelledBinds (p.for_of line annot first test next body) = LoopBinds annot × SpelledBinds first × SpelledBinds body
  SpelledBinds (p.switch line a body) = AllSpelledBind body
  SpelledBinds (p.case_of line value) = Unit {0}
  SpelledBinds (p.default line) = Unit {0}
  SpelledBinds (p.break line) = Unit {0}
  SpelledBinds (p.continue line) = Unit {0}
  SpelledBinds (p.return_of line value) = Unit {0}
  SpelledBinds (p.assert line q) = EachBinds q

  pub AllSpelledBind : p.Stmts → Type 0
  AllSpelledBind p.stop = Unit {0}
  AllSpelledBind (p.more x xs) = SpelledBinds x × AllSpelledBind xs

-- a prototype has no body
abbrev pub BodySpelledBinds : Option p.Stmt → Type 0
BodySpelledBinds None = Unit {0}
BodySpelledBinds (Some x) = SpelledBinds x

abbrev pub DeclBinds : d.Decl → Type 0
DeclBinds (d.struct_decl x) = Unit {0}
DeclBinds (d.enum_decl x) = Unit {0}
DeclBinds (d.typedef_decl x) = Unit {0}
DeclBinds (d.globals xs) = Unit {0}
DeclBinds (d.function f) = ContractBinds f.contract × BodySpelledBinds f.body
DeclBinds (d.logic_decl l) = BodyBinds l.body

abbrev pub ProgramBinds : d.Program → Type 0
ProgramBinds p = All DeclBinds p

-- ---- laws

abbrev pub SpelledPredsBind : Type 0
SpelledPredsBind = (types : Names) (room : ℕ) (trails : Bool) (ts : List Token) (a : Pred) → SpellsPred types room trails ts a → EachBinds a

abbrev pub SpelledAssertionsBind : Type 0
SpelledAssertionsBind = (types : Names) (room : ℕ) (ts : List Token) (a : Pred) (line : ℕ) → SpellsAssert types room ts a line → EachBinds a

abbrev pub SpelledContractsBind : Type 0
SpelledContractsBind = (types : Names) (at : ℕ) (ts : List Token) (c : Contract) → SpellsContract types at ts c → ContractBinds c

abbrev pub SpelledLoopsBind : Type 0
SpelledLoopsBind = (types : Names) (room at : ℕ) (ts : List Token) (annot : LoopAnnot) → SpellsLoop types room at ts annot → LoopBinds annot

abbrev pub SpelledDefinitionsBind : Type 0
SpelledDefinitionsBind = (types : Names) (ts : List Token) (l : d.LogicDecl) → SpellsLogic types ts l → BodyBinds l.body

abbrev pub SpelledStatementsBind : Type 0
SpelledStatementsBind = (types : Names) (loops breaks : Bool) (room at : ℕ) (ts : List Token) (x : p.Stmt) (starts : List ℕ)
    → SpellsStmt types loops breaks room at ts x starts → SpelledBinds x

-- the tokens spell the program
abbrev pub SpelledProgramsBind : Type 0
SpelledProgramsBind = (ts : List Token) (p : d.Program) (ls : List Lines) → SpellsLines ts p ls → ProgramBinds p
