-- Where declarations stand in a program as spelled: in blocks, and before the loop of a `for` (C11 6.8.2, 6.8.5); and where `break` and `continue` do: inside
-- of what they leave (C11 6.8.6.2, 6.8.6.3).
use Rattle.std.specs.Prelude.{◌≡◌, Bool, true, false, List, [], ◌∷◌, Option, Some, None}
use Rattle.c_syntax.specs.declared.token.Token.{Token}
use Rattle.c_syntax.specs.Stmt as p
use Rattle.c_syntax.specs.Decl as d
use Rattle.c_grammar.specs.Decls.{Lines, SpellsLines}

abbrev pub is_declaration : p.Stmt → Bool
is_declaration (p.locals line vars) = true
is_declaration x = false

-- an arm, the body of a loop, and what stands in a `switch` are no declarations
abbrev mutual
  pub Nests : p.Stmt → Type 0
  Nests (p.empty line) = Unit {0}
  Nests (p.expr line a) = Unit {0}
  Nests (p.block line body) = AllNest body
  Nests (p.locals line vars) = Unit {0}
  Nests (p.if_only line test x) = (is_declaration x ≡ false) × Nests x
  Nests (p.if_else line test x y) = (is_declaration x ≡ false) × Nests x × (is_declaration y ≡ false) × Nests y
  Nests (p.while_of line annot test body) = (is_declaration body ≡ false) × Nests body
  Nests (p.do_of line annot body test) = (is_declaration body ≡ false) × Nests body
  Nests (p.for_of line annot first test next body) = Nests first × (is_declaration body ≡ false) × Nests body
  Nests (p.switch line a body) = NoneDeclares body
  Nests (p.case_of line value) = Unit {0}
  Nests (p.default line) = Unit {0}
  Nests (p.break line) = Unit {0}
  Nests (p.continue line) = Unit {0}
  Nests (p.return_of line value) = Unit {0}
  Nests (p.assert line q) = Unit {0}

  pub AllNest : p.Stmts → Type 0
  AllNest p.stop = Unit {0}
  AllNest (p.more x xs) = Nests x × AllNest xs

  pub NoneDeclares : p.Stmts → Type 0
  NoneDeclares p.stop = Unit {0}
  NoneDeclares (p.more x xs) = (is_declaration x ≡ false) × Nests x × NoneDeclares xs

-- whether a loop is around, and whether a loop or a switch is
abbrev mutual
  pub JumpsStand : (loops breaks : Bool) → p.Stmt → Type 0
  JumpsStand loops breaks (p.empty line) = Unit {0}
  JumpsStand loops breaks (p.expr line a) = Unit {0}
  JumpsStand loops breaks (p.block line body) = AllJumpsStand loops breaks body
  JumpsStand loops breaks (p.locals line vars) = Unit {0}
  JumpsStand loops breaks (p.if_only line test x) = JumpsStand loops breaks x
  JumpsStand loops breaks (p.if_else line test x y) = JumpsStand loops breaks x × JumpsStand loops breaks y
  JumpsStand loops breaks (p.while_of line annot test body) = JumpsStand true true body
  JumpsStand loops breaks (p.do_of line annot body test) = JumpsStand true true body
  JumpsStand loops breaks (p.for_of line annot first test next body) = JumpsStand loops breaks first × JumpsStand true true body
  JumpsStand loops breaks (p.switch line a body) = AllJumpsStand loops true body
  JumpsStand loops breaks (p.case_of line value) = Unit {0}
  JumpsStand loops breaks (p.default line) = Unit {0}
  JumpsStand loops breaks (p.break line) = breaks ≡ true
  JumpsStand loops breaks (p.continue line) = loops ≡ true
  JumpsStand loops breaks (p.return_of line value) = Unit {0}
  JumpsStand loops breaks (p.assert line q) = Unit {0}

  pub AllJumpsStand : (loops breaks : Bool) → p.Stmts → Type 0
  AllJumpsStand loops breaks p.stop = Unit {0}
  AllJumpsStand loops breaks (p.more x xs) = JumpsStand loops breaks x × AllJumpsStand loops breaks xs

-- ---- programs

-- a prototype has no body
abbrev pub BodyNests : Option p.Stmt → Type 0
BodyNests None = Unit {0}
BodyNests (Some x) = Nests x × (is_declaration x ≡ false) × JumpsStand false false x

abbrev pub DeclNests : d.Decl → Type 0
DeclNests (d.struct_decl x) = Unit {0}
DeclNests (d.enum_decl x) = Unit {0}
DeclNests (d.typedef_decl x) = Unit {0}
DeclNests (d.globals xs) = Unit {0}
DeclNests (d.function f) = BodyNests f.body
DeclNests (d.logic_decl l) = Unit {0}

abbrev pub ProgramNests : List d.Decl → Type 0
ProgramNests [] = Unit {0}
ProgramNests (x ∷ xs) = DeclNests x × ProgramNests xs

-- So it is where tokens spell the program.
abbrev pub SpelledProgramsNest : Type 0
SpelledProgramsNest = (ts : List Token) (p : d.Program) (ls : List Lines) → SpellsLines ts p ls → ProgramNests p
