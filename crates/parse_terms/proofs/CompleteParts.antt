-- What is spelled in operands, lists of terms and brackets is read.
use Rattle.std.proofs.Common.{◌≡◌, ℕ, ℤ, zero, suc, ◌≤◌, eqb, Bool, true, false, cond, List, [], ◌∷◌, ◌++◌, length, Option, Some, None, refl, ap, ◌∙◌, arith, append_assoc}
use Rattle.std.proofs.lemmas.Bool.Decides.{Decides-eqb, nat_tests}
use Rattle.c_syntax.specs.declared.token.Token.{Token}
use Rattle.c_syntax.specs.declared.token.TokenKind.TheVariants as k
use Rattle.c_syntax.specs.declared.token.Base.{Base}
use Rattle.c_syntax.specs.declared.token.Suffix.{Suffix}
use Rattle.c_syntax.specs.declared.token.Punct.{Punct}
use Rattle.c_syntax.specs.declared.token.Punct.TheVariants as p
use Rattle.c_syntax.specs.declared.token.Word.TheVariants as w
use Rattle.c_syntax.specs.declared.expr.BinOp.{BinOp}
use Rattle.c_syntax.specs.declared.expr.BinOp.TheVariants as o
use Rattle.c_syntax.specs.Term as t
use Rattle.c_grammar.specs.Tokens.{Names, is_type, token, punct, word, name}
use Rattle.c_grammar.specs.Operators.{binop_of, level, loosest}
use Rattle.c_grammar.specs.Terms as g
use Rattle.c_grammar.specs.Terms.{Place, anywhere, in_set, in_chain, inside_of}
use Rattle.c_grammar.specs.Reading.{Reader, ◌>>=◌, punct_at}
use Rattle.c_grammar.proofs.Levels.{Ends}
use Rattle.c_grammar.specs.ListReaders.{more_separated}
use Rattle.parse_terms.specs.declared.tokens.Selector.TheVariants as selector
use Rattle.parse_terms.specs.Read as r
use Rattle.parse_terms.proofs.Reading.{inner_is, args_is, group_is}
use Rattle.parse_terms.proofs.First.{First}

-- ---- what may come next

-- what ends an operand
abbrev pub Stops : List Token → Type 0
Stops ts = (punct_at p.OpenParen ts ≡ None) × (r.selector_at ts ≡ None)

-- what ends a whole term
abbrev pub Follows : List Token → Type 0
Follows ts = Stops ts × Ends r.operator loosest ts × (punct_at p.Question ts ≡ None)

-- the punctuators behind a term
abbrev is_end : Punct → Bool
is_end p.CloseParen = true
is_end p.CloseBracket = true
is_end p.Comma = true
is_end p.Range = true
is_end p.Colon = true
is_end _ = false

pub end_follows : (q : Punct) (line : ℕ) (ts : List Token) → is_end q ≡ true → Follows (punct q line ∷ ts)
unfolding r.selector_at r.operator
end_follows p.CloseParen line ts h = ((refl, refl), (λ m le. refl), refl)
end_follows p.CloseBracket line ts h = ((refl, refl), (λ m le. refl), refl)
end_follows p.Comma line ts h = ((refl, refl), (λ m le. refl), refl)
end_follows p.Range line ts h = ((refl, refl), (λ m le. refl), refl)
end_follows p.Colon line ts h = ((refl, refl), (λ m le. refl), refl)
end_follows _ line ts h = absurd cc

pub question_ends : (line : ℕ) (ts : List Token) → Stops (punct p.Question line ∷ ts) × Ends r.operator loosest (punct p.Question line ∷ ts)
unfolding r.selector_at r.operator
question_ends line ts = ((refl, refl), (λ m le. refl))

never : {X : Type 0} (b : Bool) → cond {A = Option X} b None None ≡ None
never true = refl
never false = refl

-- `+` before a range
pub plus_follows : (line : ℕ) (ts : List Token) → r.opens_range ts ≡ true → Follows (punct p.Plus line ∷ ts)
unfolding r.selector_at r.operator
plus_follows line ts h = ((refl, refl), (λ m le. rw h (never (eqb 2 m))), refl)

pub binop_stops : (q : Punct) (op : BinOp) → binop_of q ≡ Some op → (line : ℕ) (ts : List Token) → Stops (punct q line ∷ ts)
unfolding r.selector_at
binop_stops p.Star op h line ts = (refl, refl)
binop_stops p.Slash op h line ts = (refl, refl)
binop_stops p.Percent op h line ts = (refl, refl)
binop_stops p.Plus op h line ts = (refl, refl)
binop_stops p.Minus op h line ts = (refl, refl)
binop_stops p.Shl op h line ts = (refl, refl)
binop_stops p.Shr op h line ts = (refl, refl)
binop_stops p.Less op h line ts = (refl, refl)
binop_stops p.AtMost op h line ts = (refl, refl)
binop_stops p.Greater op h line ts = (refl, refl)
binop_stops p.AtLeast op h line ts = (refl, refl)
binop_stops p.Equal op h line ts = (refl, refl)
binop_stops p.NotEqual op h line ts = (refl, refl)
binop_stops p.Amp op h line ts = (refl, refl)
binop_stops p.Caret op h line ts = (refl, refl)
binop_stops p.Bar op h line ts = (refl, refl)
binop_stops p.And op h line ts = (refl, refl)
binop_stops p.Or op h line ts = (refl, refl)
binop_stops _ op h line ts = absurd cc

joins_next : (op : BinOp) (ts : List Token) → r.opens_range ts ≡ false → r.is_operator op ts ≡ true
joins_next o.Add ts h = rw h refl
joins_next _ ts h = refl

pub operator_takes : (m : ℕ) (q : Punct) (op : BinOp) (line : ℕ) (ts : List Token) → binop_of q ≡ Some op → level op ≡ m → r.opens_range ts ≡ false → r.operator m (punct q line ∷ ts) ≡ Some ((op, line), ts)
unfolding r.operator
operator_takes m q op line ts which at h =
    let same : eqb (level op) m ≡ true = (Decides-eqb (level op) m).1 at in
    rw (which, same, joins_next op ts h) refl

pub looser_operator : (m : ℕ) (q : Punct) (op : BinOp) (line : ℕ) (ts : List Token) → binop_of q ≡ Some op → level op ≡ suc m → Ends r.operator m (punct q line ∷ ts)
unfolding r.operator
looser_operator m q op line ts which at i le =
    let other : eqb (level op) i ≡ false = grind (arith, nat_tests, at) in
    rw (which, other) refl

-- ---- operands

-- the readers in a term with so many more forms to open
abbrev pub Args : Names → (room : ℕ) → Place → Reader (List t.Term)
Args types room place = r.inner_args types room (inside_of place)

abbrev pub Inner : Names → (room : ℕ) → Place → Reader t.Term
Inner types room place = r.inner types room r.wholes (inside_of place)

abbrev pub Group : Names → (room : ℕ) → Place → Reader t.Term
Group types room place = r.inner types room r.groups (inside_of place)

abbrev pub PrimaryReads : (types : Names) (place : Place) (room : ℕ) → List Token → t.Term → Type 0
PrimaryReads types place room xs a = (rest : List Token) → punct_at p.OpenParen rest ≡ None → r.primary types (Args types room place) (Inner types room place) (Group types room place) (xs ++ rest) ≡ Some (a, rest)

-- a part was read, and its reader goes on with what comes after
abbrev pub PostfixReads : (types : Names) (place : Place) (room : ℕ) → List Token → t.Term → Type 0
PostfixReads types place room xs a = (rest : List Token) → punct_at p.OpenParen rest ≡ None
    → (turns : ℕ) × (length rest ≤ turns) × (r.postfix types place (Args types room place) (Inner types room place) (Group types room place) (xs ++ rest) ≡ r.parts place (Inner types room place) turns a rest)

abbrev pub UnaryReads : (types : Names) (place : Place) (room : ℕ) → List Token → t.Term → Type 0
UnaryReads types place room xs a = (rest : List Token) → Stops rest → r.read types room r.operands place (xs ++ rest) ≡ Some (a, rest)

abbrev pub TermReads : (types : Names) (place : Place) (room : ℕ) → List Token → t.Term → Type 0
TermReads types place room xs a = (rest : List Token) → Follows rest → r.read types room r.wholes place (xs ++ rest) ≡ Some (a, rest)

-- the same one form deeper
abbrev pub InnerReads : (types : Names) (place : Place) (room : ℕ) → List Token → t.Term → Type 0
InnerReads types place room xs a = (rest : List Token) → Follows rest → r.inner types (suc room) r.wholes place (xs ++ rest) ≡ Some (a, rest)

pub deeper : (types : Names) (place : Place) (room : ℕ) (xs : List Token) (a : t.Term) → TermReads types place room xs a → InnerReads types place room xs a
deeper types place room xs a reads rest follows = inner_is types room r.wholes place (xs ++ rest) ∙ reads rest follows

-- a reader up to the closing parenthesis
closed_reads : {X : Type 0} (read : Reader X) (xs : List Token) (line : ℕ) (a : X) (rest : List Token) → read (xs ++ punct p.CloseParen line ∷ rest) ≡ Some (a, punct p.CloseParen line ∷ rest)
    → r.closed (read ((xs ++ punct p.CloseParen line ∷ []) ++ rest)) ≡ Some (a, rest)
closed_reads read xs line a rest h = ap (λ ts. r.closed (read ts)) (append_assoc xs (punct p.CloseParen line ∷ []) rest) ∙ ap r.closed h

-- ---- lists of terms

-- what ends a list of terms
abbrev pub EndsList : List Token → Type 0
EndsList ts = Follows ts × (punct_at p.Comma ts ≡ None)

pub terms_stop : (one : Reader t.Term) (turns : ℕ) (ts : List Token) → punct_at p.Comma ts ≡ None → more_separated one turns ts ≡ Some ([], ts)
unfolding more_separated
terms_stop one zero ts h = refl
terms_stop one (suc turns) ts h = rw h refl

-- a list of terms whose first was read
abbrev pub behind : (one : Reader t.Term) → (turns : ℕ) → Reader (List t.Term)
behind one turns ts = one ts >>= λ a. more_separated one turns a.1 >>= λ as'. Some (a.0 ∷ as'.0, as'.1)

pub one_read : (one : Reader t.Term) (turns : ℕ) (xs : List Token) (a : t.Term) (rest : List Token) → one (xs ++ rest) ≡ Some (a, rest) → punct_at p.Comma rest ≡ None → behind one turns (xs ++ rest) ≡ Some (a ∷ [], rest)
one_read one turns xs a rest h ends = rw (h, terms_stop one turns rest ends) refl

pub more_read : (one : Reader t.Term) (turns line : ℕ) (first others : List Token) (a : t.Term) (as' : List t.Term) (rest : List Token) → one (first ++ punct p.Comma line ∷ (others ++ rest)) ≡ Some (a, punct p.Comma line ∷ (others ++ rest))
    → behind one turns (others ++ rest) ≡ Some (as', rest) → behind one (suc turns) ((first ++ punct p.Comma line ∷ others) ++ rest) ≡ Some (a ∷ as', rest)
unfolding more_separated
more_read one turns line first others a as' rest h more =
    ap (behind one (suc turns)) (append_assoc first (punct p.Comma line ∷ others) rest)
    ∙ ap (λ o. o >>= λ a. more_separated one (suc turns) a.1 >>= λ as'. Some (a.0 ∷ as'.0, as'.1)) h
    ∙ ap (λ o. o >>= λ as'. Some (a ∷ as'.0, as'.1)) more

pub args_closed : (types : Names) (one : Reader t.Term) (line : ℕ) (xs rest : List Token) (as' : List t.Term) → First types (xs ++ punct p.CloseParen line ∷ rest)
    → r.terms_by one (xs ++ punct p.CloseParen line ∷ rest) ≡ Some (as', punct p.CloseParen line ∷ rest) → r.args_at one ((xs ++ punct p.CloseParen line ∷ []) ++ rest) ≡ Some (as', rest)
args_closed types one line xs rest as' first h =
    ap (r.args_at one) (append_assoc xs (punct p.CloseParen line ∷ []) rest)
    ∙ ap (λ o. r.args_after o one (xs ++ punct p.CloseParen line ∷ rest)) first.1 ∙ ap r.closed h

-- ---- brackets

pub no_plus : (types : Names) (place : Place) (room line : ℕ) (ts rest : List Token) (a : t.Term) → r.read types room r.wholes place ts ≡ Some (a, punct p.CloseParen line ∷ rest)
    → r.read types room r.groups place ts ≡ Some (a, punct p.CloseParen line ∷ rest)
no_plus types place room line ts rest a h = group_is types room place ts ∙ by_place place h
  where
    by_place : (place : Place) → r.read types room r.wholes place ts ≡ Some (a, punct p.CloseParen line ∷ rest)
        → r.group place (r.read types room r.wholes place) (r.inner types room r.wholes (inside_of place)) ts ≡ Some (a, punct p.CloseParen line ∷ rest)
    by_place anywhere h = h
    by_place in_chain h = h
    by_place in_set h = rw h refl

abbrev pub Whole : (types : Names) (place : Place) (room : ℕ) → Reader t.Term
Whole types place room = r.primary types (Args types room place) (Inner types room place) (Group types room place)

pub parens_read : (types : Names) (place : Place) (room line line' : ℕ) (inside : List Token) (a : t.Term) (rest : List Token)
    → r.read types room r.groups (inside_of place) (inside ++ punct p.CloseParen line' ∷ rest) ≡ Some (a, punct p.CloseParen line' ∷ rest)
    → Whole types place (suc room) ((punct p.OpenParen line ∷ (inside ++ punct p.CloseParen line' ∷ [])) ++ rest) ≡ Some (a, rest)
unfolding r.primary
parens_read types place room line line' inside a rest h =
    closed_reads (Group types (suc room) place) inside line' a rest (inner_is types room r.groups (inside_of place) (inside ++ punct p.CloseParen line' ∷ rest) ∙ h)

pub call_reads : (types : Names) (place : Place) (room line line' line'' : ℕ) (x : List ℕ) (inside : List Token) (as' : List t.Term) (rest : List Token) → is_type types x ≡ false
    → r.args_at (r.read types room r.wholes (inside_of place)) ((inside ++ punct p.CloseParen line'' ∷ []) ++ rest) ≡ Some (as', rest)
    → Whole types place (suc room) ((name x line ∷ punct p.OpenParen line' ∷ (inside ++ punct p.CloseParen line'' ∷ [])) ++ rest) ≡ Some (t.call line x (t.terms_of as'), rest)
unfolding r.primary
call_reads types place room line line' line'' x inside as' rest new h =
    rw (new, args_is types room (inside_of place) ((inside ++ punct p.CloseParen line'' ∷ []) ++ rest), h) refl

pub variable_reads : (types : Names) (place : Place) (room line : ℕ) (x : List ℕ) (rest : List Token) → is_type types x ≡ false → punct_at p.OpenParen rest ≡ None
    → Whole types place room (name x line ∷ rest) ≡ Some (t.name line x, rest)
unfolding r.primary
variable_reads types place room line x rest new h = rw (new, h) refl

pub old_reads : (types : Names) (place : Place) (room line line' line'' : ℕ) (inside : List Token) (a : t.Term) (rest : List Token) → InnerReads types (inside_of place) room inside a
    → Whole types place (suc room) ((word w.Old line ∷ punct p.OpenParen line' ∷ (inside ++ punct p.CloseParen line'' ∷ [])) ++ rest) ≡ Some (t.old line a, rest)
unfolding r.primary
old_reads types place room line line' line'' inside a rest h =
    ap (λ o. o >>= λ a. Some (t.old line a.0, a.1)) (closed_reads (Inner types (suc room) place) inside line'' a rest (h (punct p.CloseParen line'' ∷ rest) (end_follows p.CloseParen line'' rest refl)))

pub label_reads : (types : Names) (place : Place) (room line line' line'' line''' line'''' : ℕ) (label : List ℕ) (inside : List Token) (a : t.Term) (rest : List Token) → InnerReads types (inside_of place) room inside a
    → Whole types place (suc room) ((word w.At line ∷ punct p.OpenParen line' ∷ (inside ++ punct p.Comma line'' ∷ name label line''' ∷ punct p.CloseParen line'''' ∷ [])) ++ rest) ≡ Some (t.at_label line a label, rest)
unfolding r.primary
label_reads types place room line line' line'' line''' line'''' label inside a rest h =
    let tail = punct p.Comma line'' ∷ name label line''' ∷ punct p.CloseParen line'''' ∷ [] in
    let end = name label line''' ∷ punct p.CloseParen line'''' ∷ rest in
    ap (λ ts. r.label_at line (Inner types (suc room) place) (punct p.OpenParen line' ∷ ts)) (append_assoc inside tail rest) ∙ rw (h (punct p.Comma line'' ∷ end) (end_follows p.Comma line'' end refl)) refl

pub number_reads : (types : Names) (place : Place) (room line : ℕ) (value : ℤ) (base : Base) (suffix : Suffix) (rest : List Token)
    → Whole types place room (token (k.Number value base suffix) line ∷ rest) ≡ Some (t.number line (token (k.Number value base suffix) line), rest)
unfolding r.primary
number_reads types place room line value base suffix rest = refl

pub char_reads : (types : Names) (place : Place) (room line : ℕ) (value : ℤ) (rest : List Token) → Whole types place room (token (k.Char value) line ∷ rest) ≡ Some (t.char line value, rest)
unfolding r.primary
char_reads types place room line value rest = refl

pub constant_reads : (types : Names) (place : Place) (room line : ℕ) (rest : List Token)
    → (Whole types place room (word w.Result line ∷ rest) ≡ Some (t.result line, rest)) × (Whole types place room (word w.Null line ∷ rest) ≡ Some (t.null line, rest))
unfolding r.primary
constant_reads types place room line rest = (refl, refl)
