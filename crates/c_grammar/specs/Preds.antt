-- Predicates of annotations (ACSL 2.2) as relations between whole token lists and plain trees. `room` more forms may be open: brackets
-- with their contents, the operands of `!`, the arms of `?` and the right sides of `==>`. `trails` says that a predicate ends, outside brackets,
-- in a quantifier or `\let`, which would take whatever came behind it.
use Rattle.std.specs.Prelude.{◌≡◌, ℕ, suc, ◌≤◌, Bool, true, false, if◌then◌else◌, List, [], ◌∷◌, ◌++◌, codes, Some}
use Rattle.std.specs.Str.{bytes_eq}
use Rattle.c_syntax.specs.declared.token.Token.{Token}
use Rattle.c_syntax.specs.declared.token.Punct.{Punct}
use Rattle.c_syntax.specs.declared.token.Punct.TheVariants as p
use Rattle.c_syntax.specs.declared.token.Word.TheVariants as w
use Rattle.c_syntax.specs.declared.expr.BinOp.{BinOp}
use Rattle.c_syntax.specs.Expr as e
use Rattle.c_syntax.specs.Term as t
use Rattle.c_syntax.specs.Pred as r
use Rattle.c_grammar.specs.Tokens.{Names, is_type, punct, word, name}
use Rattle.c_grammar.specs.Lists.{Separated}
use Rattle.c_grammar.specs.Operators.{comparison_of, is_chain, shift_level, Connective, both, one_of, either, connective_of, connective_level}
use Rattle.c_grammar.specs.Types.{SpellsTypeName}
use Rattle.c_grammar.specs.Declarators.{declared}
use Rattle.c_grammar.specs.Terms.{anywhere, in_chain, SpellsTerm, SpellsTermBinary, SpellsSomeTerms, SpellsPointer}

-- ---- types and names that annotations declare (ACSL 2.2, 2.6.1)

-- `integer` is the unbounded type, also where a typedef has its name.
abbrev pub without_integer : Names → Names
without_integer [] = []
without_integer (x ∷ types) = if bytes_eq x (codes "integer") then without_integer types else x ∷ without_integer types

-- "integer" | type {"*"}
pub data SpellsLogicType (types : Names) : List Token → e.CType → Type 0 where
  integer : {line : ℕ} → SpellsLogicType types (name (codes "integer") line ∷ []) e.integer
  c_type : {all : List Token} {type : e.CType} → SpellsTypeName (without_integer types) all type → SpellsLogicType types all type

-- ltype NAME
pub data SpellsTyped (types : Names) : List Token → e.VarDecl → Type 0 where
  typed : {line : ℕ} {x : List ℕ} {first all : List Token} {type : e.CType}
      → SpellsLogicType types first type → is_type types x ≡ false → all ≡ first ++ name x line ∷ [] → SpellsTyped types all (declared x type line)

-- {"," [ltype] NAME}; a binder without a type has that of the one before it
pub data SpellsMoreBinders (types : Names) : (type : e.CType) → List Token → List e.VarDecl → Type 0 where
  none : {type : e.CType} → SpellsMoreBinders types type [] []
  untyped : {type : e.CType} {line' : ℕ} (line : ℕ) {x : List ℕ} {rest : List Token} {xs : List e.VarDecl}
      → is_type types x ≡ false → SpellsMoreBinders types type rest xs
      → SpellsMoreBinders types type (punct p.Comma line ∷ name x line' ∷ rest) (declared x type line' ∷ xs)
  typed : {type : e.CType} (line : ℕ) {x : e.VarDecl} {first rest all : List Token} {xs : List e.VarDecl}
      → SpellsTyped types first x → SpellsMoreBinders types x.ty rest xs
      → all ≡ punct p.Comma line ∷ (first ++ rest) → SpellsMoreBinders types type all (x ∷ xs)

-- ltype NAME {"," [ltype] NAME}
pub data SpellsBinders (types : Names) : List Token → List e.VarDecl → Type 0 where
  binders : {x : e.VarDecl} {first rest all : List Token} {xs : List e.VarDecl}
      → SpellsTyped types first x → SpellsMoreBinders types x.ty rest xs → all ≡ first ++ rest → SpellsBinders types all (x ∷ xs)

-- ---- chains of comparisons

-- term cmp term {cmp term}, with the line of the first comparison
pub data SpellsChain (types : Names) : (room : ℕ) → List Token → (terms : List t.Term) (ops : List BinOp) (line : ℕ) → Type 0 where
  two : {room line : ℕ} (q : Punct) {op : BinOp} {left right all : List Token} {a b : t.Term}
      → comparison_of q ≡ Some op → SpellsTermBinary types in_chain shift_level room left a → SpellsTermBinary types in_chain shift_level room right b
      → all ≡ left ++ punct q line ∷ right → SpellsChain types room all (a ∷ b ∷ []) (op ∷ []) line
  more : {room line : ℕ} (line' : ℕ) (q : Punct) {op : BinOp} {left right all : List Token} {a : t.Term} {terms : List t.Term} {ops : List BinOp}
      → comparison_of q ≡ Some op → SpellsTermBinary types in_chain shift_level room left a → SpellsChain types room right terms ops line'
      → all ≡ left ++ punct q line ∷ right → SpellsChain types room all (a ∷ terms) (op ∷ ops) line

-- ---- predicates

-- ptr "," ptr {"," ptr}
pub data SpellsPointers (types : Names) : (room : ℕ) → List Token → List t.Term → Type 0 where
  pointers : {room : ℕ} {all : List Token} {a b : t.Term} {rest : List t.Term}
      → Separated (SpellsPointer types room) all (a ∷ b ∷ rest) → SpellsPointers types room all (a ∷ b ∷ rest)

abbrev pub connected : Connective → (line : ℕ) → r.Pred → r.Pred → r.Pred
connected both line a b = r.and_of line a b
connected one_of line a b = r.xor_of line a b
connected either line a b = r.or_of line a b

mutual
  -- what is closed by itself
  pub data SpellsAtom (types : Names) : (room : ℕ) → List Token → r.Pred → Type 0 where
    always : {room line : ℕ} → SpellsAtom types room (word w.True line ∷ []) (r.always line)
    never : {room line : ℕ} → SpellsAtom types room (word w.False line ∷ []) (r.never line)
    chain : {room line : ℕ} {all : List Token} {terms : List t.Term} {ops : List BinOp}
        → SpellsChain types room all terms ops line → is_chain ops ≡ true → SpellsAtom types room all (r.chain line terms ops)
    valid : {room line : ℕ} (line' line'' : ℕ) {inside all : List Token} {a : t.Term}
        → SpellsPointer types room inside a
        → all ≡ word w.Valid line ∷ punct p.OpenParen line' ∷ (inside ++ punct p.CloseParen line'' ∷ []) → SpellsAtom types (suc room) all (r.valid line a)
    valid_read : {room line : ℕ} (line' line'' : ℕ) {inside all : List Token} {a : t.Term}
        → SpellsPointer types room inside a
        → all ≡ word w.ValidRead line ∷ punct p.OpenParen line' ∷ (inside ++ punct p.CloseParen line'' ∷ []) → SpellsAtom types (suc room) all (r.valid_read line a)
    separated : {room line : ℕ} (line' line'' : ℕ) {inside all : List Token} {pointers : List t.Term}
        → SpellsPointers types room inside pointers
        → all ≡ word w.Separated line ∷ punct p.OpenParen line' ∷ (inside ++ punct p.CloseParen line'' ∷ []) → SpellsAtom types (suc room) all (r.separated line pointers)
    old : {room line : ℕ} {trails : Bool} (line' line'' : ℕ) {inside all : List Token} {a : r.Pred}
        → SpellsPred types room trails inside a
        → all ≡ word w.Old line ∷ punct p.OpenParen line' ∷ (inside ++ punct p.CloseParen line'' ∷ []) → SpellsAtom types (suc room) all (r.old line a)
    named : {room line : ℕ} {x : List ℕ} → is_type types x ≡ false → SpellsAtom types room (name x line ∷ []) (r.call line x [])
    call : {room line : ℕ} (line' line'' : ℕ) {x : List ℕ} {inside all : List Token} {args : t.Terms}
        → is_type types x ≡ false → SpellsSomeTerms types anywhere room inside args
        → all ≡ name x line ∷ punct p.OpenParen line' ∷ (inside ++ punct p.CloseParen line'' ∷ []) → SpellsAtom types (suc room) all (r.call line x (t.list_of args))
    parens : {room : ℕ} {trails : Bool} (line line' : ℕ) {inside all : List Token} {a : r.Pred}
        → SpellsPred types room trails inside a
        → all ≡ punct p.OpenParen line ∷ (inside ++ punct p.CloseParen line' ∷ []) → SpellsAtom types (suc room) all a

  -- {"!"} atom, or a quantifier or `\let`, which reaches as far to the right as it can
  pub data SpellsOperand (types : Names) : (room : ℕ) (trails : Bool) → List Token → r.Pred → Type 0 where
    of_atom : {room : ℕ} {all : List Token} {a : r.Pred} → SpellsAtom types room all a → SpellsOperand types room false all a
    not_of : {room line : ℕ} {trails : Bool} {operand : List Token} {a : r.Pred}
        → SpellsOperand types room trails operand a → SpellsOperand types (suc room) trails (punct p.Not line ∷ operand) (r.not_of line a)
    for_all : {room line : ℕ} {trails : Bool} (line' : ℕ) {first body all : List Token} {xs : List e.VarDecl} {a : r.Pred}
        → SpellsBinders types first xs → SpellsPred types room trails body a
        → all ≡ word w.Forall line ∷ (first ++ punct p.Semicolon line' ∷ body) → SpellsOperand types room true all (r.for_all line xs a)
    for_some : {room line : ℕ} {trails : Bool} (line' : ℕ) {first body all : List Token} {xs : List e.VarDecl} {a : r.Pred}
        → SpellsBinders types first xs → SpellsPred types room trails body a
        → all ≡ word w.Exists line ∷ (first ++ punct p.Semicolon line' ∷ body) → SpellsOperand types room true all (r.for_some line xs a)
    let_in : {room line : ℕ} {trails : Bool} (line' line'' line''' : ℕ) {x : List ℕ} {value body all : List Token} {v : t.Term} {a : r.Pred}
        → is_type types x ≡ false → SpellsTerm types anywhere room value v → SpellsPred types room trails body a
        → all ≡ word w.Let line ∷ name x line' ∷ punct p.Assign line'' ∷ (value ++ punct p.Semicolon line''' ∷ body) → SpellsOperand types room true all (r.let_in line x v a)

  -- `&&`, `^^` and `||` up to level n, each level grouped to the left
  pub data SpellsJoined (types : Names) : (n room : ℕ) (trails : Bool) → List Token → r.Pred → Type 0 where
    of_operand : {n room : ℕ} {trails : Bool} {all : List Token} {a : r.Pred} → SpellsOperand types room trails all a → SpellsJoined types n room trails all a
    joined : {n m room : ℕ} {trails : Bool} (line : ℕ) (q : Punct) {c : Connective} {left right all : List Token} {a b d : r.Pred}
        → suc m ≤ n → connective_of q ≡ Some c → connective_level c ≡ suc m
        → SpellsJoined types (suc m) room false left a → SpellsJoined types m room trails right b
        → all ≡ left ++ punct q line ∷ right → d ≡ connected c line a b → SpellsJoined types n room trails all d

  -- joined ["==>" implied]
  pub data SpellsImplied (types : Names) : (room : ℕ) (trails : Bool) → List Token → r.Pred → Type 0 where
    of_joined : {room : ℕ} {trails : Bool} {all : List Token} {a : r.Pred} → SpellsJoined types 3 room trails all a → SpellsImplied types room trails all a
    implies : {room line : ℕ} {trails : Bool} {left right all : List Token} {a b : r.Pred}
        → SpellsJoined types 3 (suc room) false left a → SpellsImplied types room trails right b
        → all ≡ left ++ punct p.Implies line ∷ right → SpellsImplied types (suc room) trails all (r.implies line a b)

  -- implied {"<==>" implied}, grouped to the left
  pub data SpellsIff (types : Names) : (room : ℕ) (trails : Bool) → List Token → r.Pred → Type 0 where
    of_implied : {room : ℕ} {trails : Bool} {all : List Token} {a : r.Pred} → SpellsImplied types room trails all a → SpellsIff types room trails all a
    iff : {room line : ℕ} {trails : Bool} {left right all : List Token} {a b : r.Pred}
        → SpellsIff types room false left a → SpellsImplied types room trails right b
        → all ≡ left ++ punct p.Iff line ∷ right → SpellsIff types room trails all (r.iff line a b)

  -- iff ["?" pred ":" pred]
  pub data SpellsPred (types : Names) : (room : ℕ) (trails : Bool) → List Token → r.Pred → Type 0 where
    of_iff : {room : ℕ} {trails : Bool} {all : List Token} {a : r.Pred} → SpellsIff types room trails all a → SpellsPred types room trails all a
    cond : {room line : ℕ} {trails trails'' : Bool} (line' : ℕ) {test yes no' all : List Token} {a b c : r.Pred}
        → SpellsIff types (suc room) false test a → SpellsPred types room trails'' yes b → SpellsPred types room trails no' c
        → all ≡ test ++ punct p.Question line ∷ (yes ++ punct p.Colon line' ∷ no') → SpellsPred types (suc room) trails all (r.cond line a b c)
