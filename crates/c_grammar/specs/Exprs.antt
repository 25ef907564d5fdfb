-- Expressions (C11 6.5) as relations between whole token lists and plain trees. `room` more forms may be open in them: brackets with
-- their contents, the operands of prefix operators and casts, and the arms of `?`.
use Rattle.std.specs.Prelude.{◌≡◌, ℕ, ℤ, suc, ◌≤◌, Bool, true, false, List, [], ◌∷◌, ◌++◌, Option, Some}
use Rattle.c_syntax.specs.declared.token.Token.{Token}
use Rattle.c_syntax.specs.declared.token.Base.{Base}
use Rattle.c_syntax.specs.declared.token.Suffix.{Suffix}
use Rattle.c_syntax.specs.declared.token.Punct.{Punct}
use Rattle.c_syntax.specs.declared.token.Punct.TheVariants as p
use Rattle.c_syntax.specs.declared.token.Word.TheVariants as w
use Rattle.c_syntax.specs.declared.expr.UnOp.{UnOp}
use Rattle.c_syntax.specs.declared.expr.BinOp.{BinOp}
use Rattle.c_syntax.specs.Expr as e
use Rattle.c_grammar.specs.Tokens.{Names, is_type, punct, word, name, number, char}
use Rattle.c_grammar.specs.Operators.{unop_of, step_of, binop_of, level, loosest, assign_of, field_of}
use Rattle.c_grammar.specs.Types.{SpellsTypeName}

mutual
  -- a constant, a variable, a call of a named function, or an expression in parentheses (C11 6.5.1, 6.5.2.2)
  pub data SpellsPrimary (types : Names) : (room : ℕ) → List Token → e.Expr → Type 0 where
    constant : {room line : ℕ} {value : ℤ} {base : Base} {suffix : Suffix} → SpellsPrimary types room (number value base suffix line ∷ []) (e.number line (number value base suffix line))
    character : {room line : ℕ} {value : ℤ} → SpellsPrimary types room (char value line ∷ []) (e.char line value)
    variable : {room line : ℕ} {x : List ℕ} → is_type types x ≡ false → SpellsPrimary types room (name x line ∷ []) (e.name line x)
    call : {room line : ℕ} (line' line'' : ℕ) {x : List ℕ} {inside all : List Token} {es : e.Exprs}
        → is_type types x ≡ false → SpellsArgs types room inside es
        → all ≡ name x line ∷ punct p.OpenParen line' ∷ (inside ++ punct p.CloseParen line'' ∷ []) → SpellsPrimary types (suc room) all (e.call line x es)
    parens : {room : ℕ} (line line' : ℕ) {inside all : List Token} {a : e.Expr}
        → SpellsExpr types room inside a
        → all ≡ punct p.OpenParen line ∷ (inside ++ punct p.CloseParen line' ∷ []) → SpellsPrimary types (suc room) all a

  -- [expr {"," expr}]
  pub data SpellsArgs (types : Names) : (room : ℕ) → List Token → e.Exprs → Type 0 where
    no_args : {room : ℕ} → SpellsArgs types room [] e.stop
    args : {room : ℕ} {all : List Token} {es : e.Exprs} → SpellsSomeArgs types room all es → SpellsArgs types room all es

  pub data SpellsSomeArgs (types : Names) : (room : ℕ) → List Token → e.Exprs → Type 0 where
    one_arg : {room : ℕ} {all : List Token} {a : e.Expr} → SpellsExpr types room all a → SpellsSomeArgs types room all (e.more a e.stop)
    more_args : {room : ℕ} (line : ℕ) {first rest all : List Token} {a : e.Expr} {es : e.Exprs}
        → SpellsExpr types room first a → SpellsSomeArgs types room rest es
        → all ≡ first ++ punct p.Comma line ∷ rest → SpellsSomeArgs types room all (e.more a es)

  -- primary {"[" expr "]" | "." NAME | "->" NAME | "++" | "--"} (C11 6.5.2)
  pub data SpellsPostfix (types : Names) : (room : ℕ) → List Token → e.Expr → Type 0 where
    of_primary : {room : ℕ} {all : List Token} {a : e.Expr} → SpellsPrimary types room all a → SpellsPostfix types room all a
    index : {room line : ℕ} (line' : ℕ) {base inside all : List Token} {a b : e.Expr}
        → SpellsPostfix types (suc room) base a → SpellsExpr types room inside b
        → all ≡ base ++ punct p.OpenBracket line ∷ (inside ++ punct p.CloseBracket line' ∷ []) → SpellsPostfix types (suc room) all (e.index line a b)
    field : {room line : ℕ} (line' : ℕ) (q : Punct) {arrow : Bool} {x : List ℕ} {base all : List Token} {a : e.Expr}
        → field_of q ≡ Some arrow → SpellsPostfix types room base a
        → all ≡ base ++ punct q line ∷ name x line' ∷ [] → SpellsPostfix types room all (e.field line a x arrow)
    step_behind : {room line : ℕ} (q : Punct) {up : Bool} {base all : List Token} {a : e.Expr}
        → step_of q ≡ Some up → SpellsPostfix types room base a
        → all ≡ base ++ punct q line ∷ [] → SpellsPostfix types room all (e.step line up false a)

  -- {prefix operator | "(" type {"*"} ")"} postfix | "sizeof" "(" type {"*"} ")" (C11 6.5.3, 6.5.4)
  pub data SpellsUnary (types : Names) : (room : ℕ) → List Token → e.Expr → Type 0 where
    of_postfix : {room : ℕ} {all : List Token} {a : e.Expr} → SpellsPostfix types room all a → SpellsUnary types room all a
    prefixed : {room line : ℕ} {q : Punct} {op : UnOp} {operand : List Token} {a : e.Expr}
        → unop_of q ≡ Some op → SpellsUnary types room operand a → SpellsUnary types (suc room) (punct q line ∷ operand) (e.unary line op a)
    step_before : {room line : ℕ} {q : Punct} {up : Bool} {operand : List Token} {a : e.Expr}
        → step_of q ≡ Some up → SpellsUnary types room operand a → SpellsUnary types (suc room) (punct q line ∷ operand) (e.step line up true a)
    cast : {room line : ℕ} (line' : ℕ) {inside operand all : List Token} {t : e.CType} {a : e.Expr}
        → SpellsTypeName types inside t → SpellsUnary types room operand a
        → all ≡ punct p.OpenParen line ∷ (inside ++ punct p.CloseParen line' ∷ operand) → SpellsUnary types (suc room) all (e.cast line t a)
    sizeof : {room line : ℕ} (line' line'' : ℕ) {inside all : List Token} {t : e.CType}
        → SpellsTypeName types inside t
        → all ≡ word w.SizeOf line ∷ punct p.OpenParen line' ∷ (inside ++ punct p.CloseParen line'' ∷ []) → SpellsUnary types (suc room) all (e.sizeof line t)

  -- operators of two operands up to level n, each level grouped to the left (C11 6.5.5 to 6.5.14)
  pub data SpellsBinary (types : Names) : (n room : ℕ) → List Token → e.Expr → Type 0 where
    of_unary : {n room : ℕ} {all : List Token} {a : e.Expr} → SpellsUnary types room all a → SpellsBinary types n room all a
    binary : {n m room line : ℕ} (q : Punct) {op : BinOp} {left right all : List Token} {a b : e.Expr}
        → suc m ≤ n → binop_of q ≡ Some op → level op ≡ suc m
        → SpellsBinary types (suc m) room left a → SpellsBinary types m room right b
        → all ≡ left ++ punct q line ∷ right → SpellsBinary types n room all (e.binary line op a b)

  -- binary ["?" expr ":" conditional] (C11 6.5.15)
  pub data SpellsCond (types : Names) : (room : ℕ) → List Token → e.Expr → Type 0 where
    of_binary : {room : ℕ} {all : List Token} {a : e.Expr} → SpellsBinary types loosest room all a → SpellsCond types room all a
    cond : {room line : ℕ} (line' : ℕ) {test yes no' all : List Token} {a b c : e.Expr}
        → SpellsBinary types loosest (suc room) test a → SpellsExpr types room yes b → SpellsCond types room no' c
        → all ≡ test ++ punct p.Question line ∷ (yes ++ punct p.Colon line' ∷ no') → SpellsCond types (suc room) all (e.cond line a b c)

  -- unary "=" expr, and with the other operators of assignment, or a conditional (C11 6.5.16)
  pub data SpellsExpr (types : Names) : (room : ℕ) → List Token → e.Expr → Type 0 where
    of_cond : {room : ℕ} {all : List Token} {a : e.Expr} → SpellsCond types room all a → SpellsExpr types room all a
    assign : {room line : ℕ} (q : Punct) {op : Option BinOp} {place value all : List Token} {a b : e.Expr}
        → assign_of q ≡ Some op → SpellsUnary types room place a → SpellsExpr types room value b
        → all ≡ place ++ punct q line ∷ value → SpellsExpr types room all (e.assign line op a b)
