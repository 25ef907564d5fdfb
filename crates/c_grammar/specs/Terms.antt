-- Terms of annotations (ACSL 2.2) as relations between whole token lists and plain trees: the conditionals of C without assignments,
-- increments and `sizeof`, with `\result`, `\null`, `\old` and `\at`. `room` more forms may be open, as in expressions.
use Rattle.std.specs.Prelude.{◌≡◌, ℕ, ℤ, suc, ◌≤◌, Bool, true, false, not, ◌&&◌, ◌||◌, List, [], ◌∷◌, ◌++◌, Option, Some, None}
use Rattle.c_syntax.specs.declared.token.Token.{Token}
use Rattle.c_syntax.specs.declared.token.Base.{Base}
use Rattle.c_syntax.specs.declared.token.Suffix.{Suffix}
use Rattle.c_syntax.specs.declared.token.Punct.{Punct}
use Rattle.c_syntax.specs.declared.token.Punct.TheVariants as p
use Rattle.c_syntax.specs.declared.token.Word.TheVariants as w
use Rattle.c_syntax.specs.declared.expr.UnOp.{UnOp}
use Rattle.c_syntax.specs.declared.expr.UnOp.TheVariants as u
use Rattle.c_syntax.specs.declared.expr.BinOp.{BinOp}
use Rattle.c_syntax.specs.declared.expr.BinOp.TheVariants as o
use Rattle.c_syntax.specs.Expr.{CType}
use Rattle.c_syntax.specs.Term as t
use Rattle.c_grammar.specs.Tokens.{Names, is_type, punct, word, name, number, char}
use Rattle.c_grammar.specs.Operators.{unop_of, binop_of, level, loosest, field_of}
use Rattle.c_grammar.specs.Types.{SpellsTypeName}

-- Where a term stands: anywhere, in an entry of a set, where ranges may stand in it, or in a chain of comparisons, where no `!` stands
-- outside brackets.
pub data Place : Type 0 where
  anywhere : Place
  in_set : Place
  in_chain : Place

-- the place in brackets
abbrev pub inside_of : Place → Place
inside_of anywhere = anywhere
inside_of in_set = in_set
inside_of in_chain = anywhere

-- the operator before a term
abbrev pub term_unop_of : Place → Punct → Option UnOp
term_unop_of in_chain p.Not = None
term_unop_of place q = unop_of q

mutual
  -- a constant, a name, a call, `\result`, `\null`, `\old`, `\at`, or a term in parentheses
  pub data SpellsTermPrimary (types : Names) : (place : Place) (room : ℕ) → List Token → t.Term → Type 0 where
    constant : {place : Place} {room line : ℕ} {value : ℤ} {base : Base} {suffix : Suffix}
        → SpellsTermPrimary types place room (number value base suffix line ∷ []) (t.number line (number value base suffix line))
    character : {place : Place} {room line : ℕ} {value : ℤ} → SpellsTermPrimary types place room (char value line ∷ []) (t.char line value)
    variable : {place : Place} {room line : ℕ} {x : List ℕ} → is_type types x ≡ false → SpellsTermPrimary types place room (name x line ∷ []) (t.name line x)
    result : {place : Place} {room line : ℕ} → SpellsTermPrimary types place room (word w.Result line ∷ []) (t.result line)
    null : {place : Place} {room line : ℕ} → SpellsTermPrimary types place room (word w.Null line ∷ []) (t.null line)
    call : {place : Place} {room line : ℕ} (line' line'' : ℕ) {x : List ℕ} {inside all : List Token} {args : t.Terms}
        → is_type types x ≡ false → SpellsTermArgs types (inside_of place) room inside args
        → all ≡ name x line ∷ punct p.OpenParen line' ∷ (inside ++ punct p.CloseParen line'' ∷ []) → SpellsTermPrimary types place (suc room) all (t.call line x args)
    old : {place : Place} {room line : ℕ} (line' line'' : ℕ) {inside all : List Token} {a : t.Term}
        → SpellsTerm types (inside_of place) room inside a
        → all ≡ word w.Old line ∷ punct p.OpenParen line' ∷ (inside ++ punct p.CloseParen line'' ∷ []) → SpellsTermPrimary types place (suc room) all (t.old line a)
    at_label : {place : Place} {room line : ℕ} (line' line'' line''' line'''' : ℕ) {label : List ℕ} {inside all : List Token} {a : t.Term}
        → SpellsTerm types (inside_of place) room inside a
        → all ≡ word w.At line ∷ punct p.OpenParen line' ∷ (inside ++ punct p.Comma line'' ∷ name label line''' ∷ punct p.CloseParen line'''' ∷ [])
        → SpellsTermPrimary types place (suc room) all (t.at_label line a label)
    parens : {place : Place} {room : ℕ} (line line' : ℕ) {inside all : List Token} {a : t.Term}
        → SpellsTerm types (inside_of place) room inside a
        → all ≡ punct p.OpenParen line ∷ (inside ++ punct p.CloseParen line' ∷ []) → SpellsTermPrimary types place (suc room) all a
    -- "(" term "+" "(" lo ".." hi ")" ")" in a set
    spread_parens : {room : ℕ} (line line' : ℕ) {inside all : List Token} {a : t.Term}
        → SpellsSpread types in_set room inside a
        → all ≡ punct p.OpenParen line ∷ (inside ++ punct p.CloseParen line' ∷ []) → SpellsTermPrimary types in_set (suc room) all a

  -- term "+" "(" lo ".." hi ")"
  pub data SpellsSpread (types : Names) : (place : Place) (room : ℕ) → List Token → t.Term → Type 0 where
    spread : {place : Place} {room line line'' : ℕ} (line' line''' : ℕ) {first low high all : List Token} {a lo hi : t.Term}
        → SpellsTerm types place (suc room) first a → SpellsTerm types (inside_of place) room low lo → SpellsTerm types (inside_of place) room high hi
        → all ≡ first ++ punct p.Plus line ∷ punct p.OpenParen line' ∷ (low ++ punct p.Range line'' ∷ (high ++ punct p.CloseParen line''' ∷ []))
        → SpellsSpread types place (suc room) all (t.binary line o.Add a (t.range line'' lo hi))

  -- [term {"," term}]
  pub data SpellsTermArgs (types : Names) : (place : Place) (room : ℕ) → List Token → t.Terms → Type 0 where
    no_terms : {place : Place} {room : ℕ} → SpellsTermArgs types place room [] t.stop
    terms : {place : Place} {room : ℕ} {all : List Token} {args : t.Terms} → SpellsSomeTerms types place room all args → SpellsTermArgs types place room all args

  pub data SpellsSomeTerms (types : Names) : (place : Place) (room : ℕ) → List Token → t.Terms → Type 0 where
    one_term : {place : Place} {room : ℕ} {all : List Token} {a : t.Term} → SpellsTerm types place room all a → SpellsSomeTerms types place room all (t.more a t.stop)
    more_terms : {place : Place} {room : ℕ} (line : ℕ) {first rest all : List Token} {a : t.Term} {args : t.Terms}
        → SpellsTerm types place room first a → SpellsSomeTerms types place room rest args
        → all ≡ first ++ punct p.Comma line ∷ rest → SpellsSomeTerms types place room all (t.more a args)

  -- primary {"[" term "]" | "." NAME | "->" NAME}; in a set also "[" lo ".." hi "]"
  pub data SpellsTermPostfix (types : Names) : (place : Place) (room : ℕ) → List Token → t.Term → Type 0 where
    of_primary : {place : Place} {room : ℕ} {all : List Token} {a : t.Term} → SpellsTermPrimary types place room all a → SpellsTermPostfix types place room all a
    index : {place : Place} {room line : ℕ} (line' : ℕ) {base inside all : List Token} {a b : t.Term}
        → SpellsTermPostfix types place (suc room) base a → SpellsTerm types (inside_of place) room inside b
        → all ≡ base ++ punct p.OpenBracket line ∷ (inside ++ punct p.CloseBracket line' ∷ []) → SpellsTermPostfix types place (suc room) all (t.index line a b)
    range : {room line line' : ℕ} (line'' : ℕ) {base low high all : List Token} {a lo hi : t.Term}
        → SpellsTermPostfix types in_set (suc room) base a → SpellsTerm types in_set room low lo → SpellsTerm types in_set room high hi
        → all ≡ base ++ punct p.OpenBracket line ∷ (low ++ punct p.Range line' ∷ (high ++ punct p.CloseBracket line'' ∷ []))
        → SpellsTermPostfix types in_set (suc room) all (t.index line a (t.range line' lo hi))
    field : {place : Place} {room line : ℕ} (line' : ℕ) (q : Punct) {arrow : Bool} {x : List ℕ} {base all : List Token} {a : t.Term}
        → field_of q ≡ Some arrow → SpellsTermPostfix types place room base a
        → all ≡ base ++ punct q line ∷ name x line' ∷ [] → SpellsTermPostfix types place room all (t.field line a x arrow)

  -- {prefix operator | "(" type {"*"} ")"} postfix
  pub data SpellsTermUnary (types : Names) : (place : Place) (room : ℕ) → List Token → t.Term → Type 0 where
    of_postfix : {place : Place} {room : ℕ} {all : List Token} {a : t.Term} → SpellsTermPostfix types place room all a → SpellsTermUnary types place room all a
    prefixed : {place : Place} {room line : ℕ} {q : Punct} {op : UnOp} {operand : List Token} {a : t.Term}
        → term_unop_of place q ≡ Some op → SpellsTermUnary types place room operand a → SpellsTermUnary types place (suc room) (punct q line ∷ operand) (t.unary line op a)
    cast : {place : Place} {room line : ℕ} (line' : ℕ) {inside operand all : List Token} {type : CType} {a : t.Term}
        → SpellsTypeName types inside type → SpellsTermUnary types place room operand a
        → all ≡ punct p.OpenParen line ∷ (inside ++ punct p.CloseParen line' ∷ operand) → SpellsTermUnary types place (suc room) all (t.cast line type a)

  -- operators of two operands up to level n, each level grouped to the left
  pub data SpellsTermBinary (types : Names) : (place : Place) (n room : ℕ) → List Token → t.Term → Type 0 where
    of_unary : {place : Place} {n room : ℕ} {all : List Token} {a : t.Term} → SpellsTermUnary types place room all a → SpellsTermBinary types place n room all a
    binary : {place : Place} {n m room line : ℕ} (q : Punct) {op : BinOp} {left right all : List Token} {a b : t.Term}
        → suc m ≤ n → binop_of q ≡ Some op → level op ≡ suc m
        → SpellsTermBinary types place (suc m) room left a → SpellsTermBinary types place m room right b
        → all ≡ left ++ punct q line ∷ right → SpellsTermBinary types place n room all (t.binary line op a b)

  -- binary ["?" term ":" term]
  pub data SpellsTerm (types : Names) : (place : Place) (room : ℕ) → List Token → t.Term → Type 0 where
    of_binary : {place : Place} {room : ℕ} {all : List Token} {a : t.Term} → SpellsTermBinary types place loosest room all a → SpellsTerm types place room all a
    cond : {place : Place} {room line : ℕ} (line' : ℕ) {test yes no' all : List Token} {a b c : t.Term}
        → SpellsTermBinary types place loosest (suc room) test a → SpellsTerm types place room yes b → SpellsTerm types place room no' c
        → all ≡ test ++ punct p.Question line ∷ (yes ++ punct p.Colon line' ∷ no') → SpellsTerm types place (suc room) all (t.cond line a b c)

-- a term, or a term and a range of offsets from it: term ["+" "(" lo ".." hi ")"] (ACSL 2.7.1)
pub data SpellsPointer (types : Names) : (room : ℕ) → List Token → t.Term → Type 0 where
  term : {room : ℕ} {all : List Token} {a : t.Term} → SpellsTerm types anywhere room all a → SpellsPointer types room all a
  spread : {room : ℕ} {all : List Token} {a : t.Term} → SpellsSpread types anywhere room all a → SpellsPointer types room all a

-- ---- the entries of sets (ACSL 2.3.4)

-- whether an index stands in it, and whether a range does
abbrev mutual
  pub has_index : t.Term → Bool
  has_index (t.index line a b) = true
  has_index (t.unary line op a) = has_index a
  has_index (t.binary line op a b) = has_index a || has_index b
  has_index (t.cond line a b c) = has_index a || (has_index b || has_index c)
  has_index (t.call line f args) = some_index args
  has_index (t.field line a x arrow) = has_index a
  has_index (t.cast line type a) = has_index a
  has_index (t.old line a) = has_index a
  has_index (t.at_label line a label) = has_index a
  has_index (t.range line a b) = has_index a || has_index b
  has_index (t.number line n) = false
  has_index (t.char line n) = false
  has_index (t.name line x) = false
  has_index (t.result line) = false
  has_index (t.null line) = false

  pub some_index : t.Terms → Bool
  some_index t.stop = false
  some_index (t.more a args) = has_index a || some_index args

abbrev mutual
  pub has_range : t.Term → Bool
  has_range (t.range line a b) = true
  has_range (t.index line a b) = has_range a || has_range b
  has_range (t.unary line op a) = has_range a
  has_range (t.binary line op a b) = has_range a || has_range b
  has_range (t.cond line a b c) = has_range a || (has_range b || has_range c)
  has_range (t.call line f args) = some_range args
  has_range (t.field line a x arrow) = has_range a
  has_range (t.cast line type a) = has_range a
  has_range (t.old line a) = has_range a
  has_range (t.at_label line a label) = has_range a
  has_range (t.number line n) = false
  has_range (t.char line n) = false
  has_range (t.name line x) = false
  has_range (t.result line) = false
  has_range (t.null line) = false

  pub some_range : t.Terms → Bool
  some_range t.stop = false
  some_range (t.more a args) = has_range a || some_range args

-- Of two parts, one behind the other: a range that stands in the first is in the last brackets of both where the second has no index.
abbrev pub last_of : (ranged last : Bool) → (ranged' last' index' : Bool) → Bool
last_of true last ranged' last' index' = last && (not ranged' && not index')
last_of false last ranged' last' index' = last'

abbrev pub last_index : t.Term → (a : Bool) → (b : Bool) → Bool
last_index (t.range line lo hi) a b = not a && (not (has_range lo) && not (has_range hi))
last_index at a b = not a && not b

-- No range stands in it, or one, in its last pair of square brackets.
abbrev mutual
  pub has_range_last : t.Term → Bool
  has_range_last (t.range line a b) = false
  has_range_last (t.index line a b) = last_index b (has_range a) (has_range b)
  has_range_last (t.unary line op a) = has_range_last a
  has_range_last (t.binary line op a b) = last_of (has_range a) (has_range_last a) (has_range b) (has_range_last b) (has_index b)
  has_range_last (t.cond line a b c) =
      last_of (has_range a) (has_range_last a) (has_range b || has_range c) (last_of (has_range b) (has_range_last b) (has_range c) (has_range_last c) (has_index c)) (has_index b || has_index c)
  has_range_last (t.call line f args) = some_range_last args
  has_range_last (t.field line a x arrow) = has_range_last a
  has_range_last (t.cast line type a) = has_range_last a
  has_range_last (t.old line a) = has_range_last a
  has_range_last (t.at_label line a label) = has_range_last a
  has_range_last (t.number line n) = true
  has_range_last (t.char line n) = true
  has_range_last (t.name line x) = true
  has_range_last (t.result line) = true
  has_range_last (t.null line) = true

  pub some_range_last : t.Terms → Bool
  some_range_last t.stop = true
  some_range_last (t.more a args) = last_of (has_range a) (has_range_last a) (some_range args) (some_range_last args) (some_index args)

-- A range in last place, or "*" "(" term "+" "(" lo ".." hi ")" ")".
abbrev pub is_entry : t.Term → Bool
is_entry (t.unary line u.Deref (t.binary line' o.Add a (t.range line'' lo hi))) = not (has_range a) && (not (has_range lo) && not (has_range hi))
is_entry a = has_range_last a

pub data SpellsEntry (types : Names) : (room : ℕ) → List Token → t.Term → Type 0 where
  entry : {room : ℕ} {all : List Token} {a : t.Term} → SpellsTerm types in_set room all a → is_entry a ≡ true → SpellsEntry types room all a
