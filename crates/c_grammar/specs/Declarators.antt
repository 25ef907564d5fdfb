-- Declarators and declarations of variables (C11 6.7, 6.7.6) as relations between whole token lists and plain trees.
use Rattle.std.specs.Prelude.{◌≡◌, ℕ, suc, true, false, List, [], ◌∷◌, ◌++◌, Some, None}
use Rattle.c_syntax.specs.declared.token.Token.{Token}
use Rattle.c_syntax.specs.declared.token.Punct.TheVariants as p
use Rattle.c_syntax.specs.Expr as e
use Rattle.c_grammar.specs.Tokens.{Names, is_type, punct, name, first_line}
use Rattle.c_grammar.specs.Lists.{Separated}
use Rattle.c_grammar.specs.Types.{SpellsType, SpellsStars}
use Rattle.c_grammar.specs.Exprs.{SpellsExpr, SpellsCond}

abbrev pub declared : List ℕ → e.CType → (line : ℕ) → e.VarDecl
declared x type line = record { name = x; ty = type; init = None; line = line }

abbrev pub with_init : e.VarDecl → e.Expr → e.VarDecl
with_init v value = record { name = v.name; ty = v.ty; init = Some value; line = v.line }

-- {"*" ["const"]} NAME ["[" conditional "]"], from the type that the specifiers give
pub data SpellsDeclarator (types : Names) : (room : ℕ) (base : e.CType) → List Token → e.VarDecl → Type 0 where
  plain : {room line : ℕ} {base t : e.CType} {x : List ℕ} {first all : List Token}
      → SpellsStars true first base t → is_type types x ≡ false
      → all ≡ first ++ name x line ∷ [] → SpellsDeclarator types room base all (declared x t line)
  array : {room line : ℕ} (line' line'' : ℕ) {base t : e.CType} {x : List ℕ} {first inside all : List Token} {n : e.Expr}
      → SpellsStars true first base t → is_type types x ≡ false → SpellsCond types room inside n
      → all ≡ first ++ name x line ∷ punct p.OpenBracket line' ∷ (inside ++ punct p.CloseBracket line'' ∷ [])
      → SpellsDeclarator types (suc room) base all (declared x (e.array t n) line)

-- declarator ["=" expr] (C11 6.7.9)
pub data SpellsInitialised (types : Names) (room : ℕ) (base : e.CType) : List Token → e.VarDecl → Type 0 where
  bare : {all : List Token} {v : e.VarDecl} → SpellsDeclarator types room base all v → SpellsInitialised types room base all v
  initialised : (line : ℕ) {first value all : List Token} {v v' : e.VarDecl} {a : e.Expr}
      → SpellsDeclarator types room base first v → SpellsExpr types room value a
      → all ≡ first ++ punct p.Assign line ∷ value → v' ≡ with_init v a → SpellsInitialised types room base all v'

-- type initialised {"," initialised} ";"
pub data SpellsVariables (types : Names) (room : ℕ) : List Token → List e.VarDecl → Type 0 where
  variables : (line : ℕ) {first second all : List Token} {t : e.CType} {vs : List e.VarDecl}
      → SpellsType types first t → Separated (SpellsInitialised types room t) second vs
      → all ≡ first ++ (second ++ punct p.Semicolon line ∷ []) → SpellsVariables types room all vs

-- type {"*" ["const"]} NAME ["[" [conditional] "]"]; without a length it is a pointer (C11 6.7.6.3)
pub data SpellsParam (types : Names) : (room : ℕ) → List Token → e.VarDecl → Type 0 where
  declarator : {room : ℕ} {first second all : List Token} {t : e.CType} {v : e.VarDecl}
      → SpellsType types first t → SpellsDeclarator types room t second v → all ≡ first ++ second → SpellsParam types room all v
  unsized : {room line : ℕ} (line' line'' : ℕ) {first second all : List Token} {t t' : e.CType} {x : List ℕ}
      → SpellsType types first t → SpellsStars true second t t' → is_type types x ≡ false
      → all ≡ first ++ (second ++ name x line ∷ punct p.OpenBracket line' ∷ punct p.CloseBracket line'' ∷ [])
      → SpellsParam types (suc room) all (declared x (e.pointer t') line)

-- a parameter, with the line of its first token
pub data SpellsParamOn (types : Names) (room : ℕ) : List Token → e.VarDecl × ℕ → Type 0 where
  on_line : {all : List Token} {v : e.VarDecl} → SpellsParam types room all v → SpellsParamOn types room all (v, first_line all)
