-- Declarations and whole files (C11 6.7, 6.9; ACSL 2.6) as relations between whole token lists and plain trees, and which files pass a limit.
use Rattle.std.specs.Prelude.{◌≡◌, ℕ, ◌+◌, ◌≤◌, suc, false, if◌then◌else◌, nat_le, List, [], ◌∷◌, ◌++◌, length, map, slice_get, Option, Some, None}
use Rattle.wp_base.specs.declared.kinds.Kind.TheVariants as kind
use Rattle.c_syntax.specs.declared.token.Token.{Token}
use Rattle.c_syntax.specs.declared.token.Punct.TheVariants as p
use Rattle.c_syntax.specs.declared.token.Word.TheVariants as w
use Rattle.c_syntax.specs.Expr as e
use Rattle.c_syntax.specs.Stmt as s
use Rattle.c_syntax.specs.Contract.{Contract}
use Rattle.c_syntax.specs.Decl as d
use Rattle.c_grammar.specs.Tokens.{Names, is_type, punct, word, name, annot_open, annot_close, first_line}
use Rattle.c_grammar.specs.Lists.{Separated, Repeated}
use Rattle.c_grammar.specs.Types.{SpellsType, SpellsStars}
use Rattle.c_grammar.specs.Exprs.{SpellsCond}
use Rattle.c_grammar.specs.Annots.{SpellsContract, SpellsLogic, contract_of}
use Rattle.c_grammar.specs.Declarators.{declared, with_init, SpellsDeclarator, SpellsVariables, SpellsParamOn}
use Rattle.c_grammar.specs.Stmts.{SpellsBlock}
use Rattle.c_grammar.specs.declared.limits.TheConstants.{DEEPEST, MOST_WITHIN, MOST_FUNCTIONS, MOST_PARAMS, MOST_STMTS}

-- ---- structs and enums (C11 6.7.2.1, 6.7.2.2)

-- type declarator {"," declarator} ";"
pub data SpellsGroup (types : Names) (room : ℕ) : List Token → List e.VarDecl → Type 0 where
  group : (line : ℕ) {first second all : List Token} {t : e.CType} {vs : List e.VarDecl}
      → SpellsType types first t → Separated (SpellsDeclarator types room t) second vs
      → all ≡ first ++ (second ++ punct p.Semicolon line ∷ []) → SpellsGroup types room all vs

pub data SpellsFields (types : Names) (room : ℕ) : List Token → List e.VarDecl → Type 0 where
  one : {all : List Token} {vs : List e.VarDecl} → SpellsGroup types room all vs → SpellsFields types room all vs
  more : {first rest all : List Token} {vs ws us : List e.VarDecl}
      → SpellsGroup types room first vs → SpellsFields types room rest ws
      → all ≡ first ++ rest → us ≡ vs ++ ws → SpellsFields types room all us

-- NAME ["=" conditional]; an enumerator is an `int`
pub data SpellsEnumerator (types : Names) (room : ℕ) : List Token → e.VarDecl → Type 0 where
  counted : {line : ℕ} {x : List ℕ} → is_type types x ≡ false → SpellsEnumerator types room (name x line ∷ []) (declared x (e.kind kind.Int) line)
  valued : {line : ℕ} (line' : ℕ) {x : List ℕ} {value all : List Token} {a : e.Expr} {v : e.VarDecl}
      → is_type types x ≡ false → SpellsCond types room value a
      → all ≡ name x line ∷ punct p.Assign line' ∷ value → v ≡ with_init (declared x (e.kind kind.Int) line) a → SpellsEnumerator types room all v

-- "{" enumerator {"," enumerator} [","] "}" ";"
pub data SpellsEnumerators (types : Names) : (room : ℕ) → List Token → List e.VarDecl → Type 0 where
  enumerators : {room : ℕ} (line line' line'' : ℕ) {inside all : List Token} {vs : List e.VarDecl}
      → Separated (SpellsEnumerator types room) inside vs
      → all ≡ punct p.OpenBrace line ∷ (inside ++ punct p.CloseBrace line' ∷ punct p.Semicolon line'' ∷ []) → SpellsEnumerators types (suc room) all vs
  trailing : {room : ℕ} (line line' line'' line''' : ℕ) {inside all : List Token} {vs : List e.VarDecl}
      → Separated (SpellsEnumerator types room) inside vs
      → all ≡ punct p.OpenBrace line ∷ (inside ++ punct p.Comma line' ∷ punct p.CloseBrace line'' ∷ punct p.Semicolon line''' ∷ []) → SpellsEnumerators types (suc room) all vs

-- ---- functions (C11 6.7.6.3, 6.9.1)

-- ["extern" | "static"] (C11 6.7.1)
pub data SpellsLinkage : List Token → Type 0 where
  none : SpellsLinkage []
  extern : {line : ℕ} → SpellsLinkage (word w.Extern line ∷ [])
  static : {line : ℕ} → SpellsLinkage (word w.Static line ∷ [])

-- "void" | param {"," param} | nothing, each with its line
pub data SpellsParams (types : Names) (room : ℕ) : List Token → List (e.VarDecl × ℕ) → Type 0 where
  nothing : SpellsParams types room [] []
  void : {line : ℕ} → SpellsParams types room (word w.Void line ∷ []) []
  params : {all : List Token} {vs : List (e.VarDecl × ℕ)} → Separated (SpellsParamOn types room) all vs → SpellsParams types room all vs

-- ["/*@" contract "*/"]
pub data SpellsContractAt (types : Names) (at : ℕ) : List Token → Contract → Type 0 where
  none : {c : Contract} → c ≡ contract_of [] [] [] → SpellsContractAt types at [] c
  annotated : (line line' : ℕ) {inside all : List Token} {c : Contract}
      → SpellsContract types (suc at) inside c
      → all ≡ annot_open line ∷ (inside ++ annot_close line' ∷ []) → SpellsContractAt types at all c

-- block | ";", with the line of the last token
pub data SpellsEnd (types : Names) (at : ℕ) : List Token → (body : Option s.Stmt) (end : ℕ) (starts : List ℕ) → Type 0 where
  prototype : {end : ℕ} → SpellsEnd types at (punct p.Semicolon end ∷ []) None end []
  body : {line end : ℕ} {all : List Token} {body : s.Stmts} {starts : List ℕ}
      → SpellsBlock types false false DEEPEST at all line end body starts → SpellsEnd types at all (Some (s.block line body)) end starts

-- where a function, its parameters and its statements begin
pub record Lines : Type 0 where
  pub first : ℕ
  pub params : List ℕ
  pub stmts : List ℕ

abbrev pub param_lines : List (e.VarDecl × ℕ) → List ℕ
param_lines vs = map (λ (v : e.VarDecl × ℕ). v.1) vs

abbrev pub params_of : List (e.VarDecl × ℕ) → List e.VarDecl
params_of vs = map (λ (v : e.VarDecl × ℕ). v.0) vs

-- contract linkage type {"*"} NAME "(" params ")" (block | ";")
pub data SpellsFunction (types : Names) (at : ℕ) : List Token → d.Function → Lines → Type 0 where
  function : {line end : ℕ} (line' line'' : ℕ) {x : List ℕ} {t t' : e.CType} {c : Contract} {vs : List (e.VarDecl × ℕ)} {body : Option s.Stmt} {starts : List ℕ}
      {first second third fourth inside last before all : List Token} {f : d.Function} {ls : Lines}
      → SpellsContractAt types at first c → SpellsLinkage second → SpellsType types third t → SpellsStars false fourth t t'
      → is_type types x ≡ false → SpellsParams types MOST_WITHIN inside vs
      → before ≡ first ++ (second ++ (third ++ (fourth ++ name x line ∷ punct p.OpenParen line' ∷ (inside ++ punct p.CloseParen line'' ∷ []))))
      → SpellsEnd types (at + length before) last body end starts
      → all ≡ before ++ last
      → f ≡ record { name = x; result = t'; params = params_of vs; contract = c; body = body; line = line; end = end }
      → ls ≡ record { first = first_line all; params = param_lines vs; stmts = starts }
      → SpellsFunction types at all f ls

-- ---- declarations

-- A declaration, with the typedef names behind it and the lines of its function. An annotation of definitions is one, whatever their number.
pub data SpellsDecl (types : Names) (at : ℕ) : List Token → List d.Decl → (after : Names) → List Lines → Type 0 where
  logic : (line line' : ℕ) {inside all : List Token} {x : d.LogicDecl} {xs : List d.LogicDecl} {ds : List d.Decl}
      → Repeated (SpellsLogic types) inside (x ∷ xs)
      → all ≡ annot_open line ∷ (inside ++ annot_close line' ∷ []) → ds ≡ map d.logic_decl (x ∷ xs) → SpellsDecl types at all ds types []
  struct_of : (line line'' line''' line'''' : ℕ) {line' : ℕ} {x : List ℕ} {inside all : List Token} {vs : List e.VarDecl}
      → is_type types x ≡ false → SpellsFields types MOST_WITHIN inside vs
      → all ≡ word w.Struct line ∷ name x line' ∷ punct p.OpenBrace line'' ∷ (inside ++ punct p.CloseBrace line''' ∷ punct p.Semicolon line'''' ∷ [])
      → SpellsDecl types at all (d.struct_decl (record { name = x; fields = vs; line = line' }) ∷ []) types []
  enum_of : (line : ℕ) {line' : ℕ} {x : List ℕ} {rest : List Token} {vs : List e.VarDecl}
      → is_type types x ≡ false → SpellsEnumerators types DEEPEST rest vs
      → SpellsDecl types at (word w.Enum line ∷ name x line' ∷ rest) (d.enum_decl (record { name = Some x; items = vs; line = line' }) ∷ []) types []
  enum_alone : {line : ℕ} {rest : List Token} {vs : List e.VarDecl}
      → SpellsEnumerators types DEEPEST rest vs
      → SpellsDecl types at (word w.Enum line ∷ rest) (d.enum_decl (record { name = None; items = vs; line = line }) ∷ []) types []
  typedef_of : (line line' : ℕ) {first second all : List Token} {t : e.CType} {v : e.VarDecl} {after : Names}
      → SpellsType types first t → SpellsDeclarator types DEEPEST t second v
      → all ≡ word w.Typedef line ∷ (first ++ (second ++ punct p.Semicolon line' ∷ [])) → after ≡ types ++ v.name ∷ []
      → SpellsDecl types at all (d.typedef_decl v ∷ []) after []
  globals : {first second all : List Token} {vs : List e.VarDecl}
      → SpellsLinkage first → SpellsVariables types DEEPEST second vs
      → all ≡ first ++ second → SpellsDecl types at all (d.globals vs ∷ []) types []
  function : {all : List Token} {f : d.Function} {ls : Lines}
      → SpellsFunction types at all f ls → SpellsDecl types at all (d.function f ∷ []) types (ls ∷ [])

-- {declaration}
pub data SpellsDecls : (types : Names) (at : ℕ) → List Token → List d.Decl → (after : Names) → List Lines → Type 0 where
  none : {types : Names} {at : ℕ} → SpellsDecls types at [] [] types []
  more : {types middle after : Names} {at : ℕ} {first rest all : List Token} {ds ds' all_ds : List d.Decl} {ls ls' all_ls : List Lines}
      → SpellsDecl types at first ds middle ls → SpellsDecls middle (at + length first) rest ds' after ls'
      → all ≡ first ++ rest → all_ds ≡ ds ++ ds' → all_ls ≡ ls ++ ls' → SpellsDecls types at all all_ds after all_ls

-- ---- files

-- the tokens spell the program, whose functions stand on these lines
abbrev pub SpellsLines : List Token → d.Program → List Lines → Type 0
SpellsLines tokens p ls = (after : Names) × SpellsDecls [] 0 tokens p after ls

-- The line of the first declaration that isn't spelled: of the token behind the longest list of declarations with which the tokens begin.
pub record IsUnspelledOn (tokens : List Token) (line : ℕ) : Type 0 where
  pub front : List Token
  pub next : Token
  pub rest : List Token
  pub ds : List d.Decl
  pub after : Names
  pub ls : List Lines
  pub split : tokens ≡ front ++ next ∷ rest
  pub spelled : SpellsDecls [] 0 front ds after ls
  pub longest : (front' rest' : List Token) (ds' : List d.Decl) (after' : Names) (ls' : List Lines) → tokens ≡ front' ++ rest' → SpellsDecls [] 0 front' ds' after' ls' → length front' ≤ length front
  pub same_line : line ≡ next.line

-- ---- limits: functions of a file, parameters and statements of a function

abbrev pub or_else : Option ℕ → Option ℕ → Option ℕ
or_else None other = other
or_else (Some line) other = Some line

-- the line of the first token past a limit, with k functions before
abbrev pub past_limit : (k : ℕ) → List Lines → Option ℕ
past_limit k [] = None
past_limit k (f ∷ fs) =
    if nat_le MOST_FUNCTIONS k then Some f.first
    else or_else (slice_get f.params MOST_PARAMS) (or_else (slice_get f.stmts MOST_STMTS) (past_limit (suc k) fs))
