-- What single tokens, lists of terms and brackets spell, where they are read.
use Rattle.std.proofs.Common.{◌≡◌, ℕ, zero, suc, eqb, Bool, true, false, cond, List, [], ◌∷◌, ◌++◌, length, Option, Some, None, refl, sym, ap, ◌∙◌, subst, arith, append_assoc, append-nil}
use Rattle.std.proofs.lemmas.Bool.Decides.{Decides-eqb}
use Rattle.c_syntax.specs.declared.token.Token.{Token}
use Rattle.c_syntax.specs.declared.token.TokenKind.{TokenKind}
use Rattle.c_syntax.specs.declared.token.TokenKind.TheVariants as k
use Rattle.c_syntax.specs.declared.token.Punct.{Punct}
use Rattle.c_syntax.specs.declared.token.Punct.TheVariants as p
use Rattle.c_syntax.specs.declared.token.Word.TheVariants as w
use Rattle.c_syntax.specs.declared.expr.UnOp.{UnOp}
use Rattle.c_syntax.specs.declared.expr.BinOp.{BinOp}
use Rattle.c_syntax.specs.declared.expr.BinOp.TheVariants as o
use Rattle.c_syntax.specs.Term as t
use Rattle.c_grammar.specs.Tokens.{Names, token, punct}
use Rattle.c_grammar.specs.Operators.{binop_of, level}
use Rattle.c_grammar.specs.Terms as g
use Rattle.c_grammar.specs.Terms.{Place, anywhere, in_set, in_chain, inside_of, term_unop_of}
use Rattle.c_grammar.specs.Reading.{Reader, punct_at}
use Rattle.c_grammar.proofs.Readers.{Took, Sound, bind_ok, guard_ok, got, pair_is}
use Rattle.c_grammar.proofs.SingleTokens.{punct_is}
use Rattle.c_grammar.specs.ListReaders.{more_separated, separated_go}
use Rattle.parse_types.specs.Read.{starts_type}
use Rattle.parse_terms.specs.declared.tokens.Selector.{Selector}
use Rattle.parse_terms.specs.declared.tokens.Selector.TheVariants as selector
use Rattle.parse_terms.specs.Read as r

-- ---- in a form that opens here

abbrev Less : {X : Type 0} → (S : ℕ → List Token → X → Type 0) → (room : ℕ) → List Token → X → List Token → Type 0
Less S room ts a rest = (less : ℕ) × (room ≡ suc less) × Took (S less) ts a rest

-- one more form was open where it was read
abbrev pub Inside : {X : Type 0} → (S : ℕ → List Token → X → Type 0) → (room : ℕ) → Reader X → Type 0
Inside {X} S room read = (ts : List Token) (a : X) (rest : List Token) → read ts ≡ Some (a, rest) → Less S room ts a rest

pub again : {X : Type 0} (S : ℕ → List Token → X → Type 0) (room less : ℕ) (read : Reader X) → Inside S room read → room ≡ suc less → Sound (S less) read
again S room less read inside one ts a rest h =
    let x = inside ts a rest h in
    let same : x.0 ≡ less = omega (arith, x.1, one) in
    subst (λ less. Took (S less) ts a rest) same x.2

-- tokens, and one behind them
pub ends_with : (ts xs after rest : List Token) (tok : Token) → ts ≡ xs ++ after → after ≡ tok ∷ rest → ts ≡ (xs ++ tok ∷ []) ++ rest
ends_with ts xs after rest tok h e = h ∙ ap (λ l. xs ++ l) e ∙ sym (append_assoc xs (tok ∷ []) rest)

-- ---- single tokens

abbrev OpLine : Type 0
OpLine = BinOp × ℕ

-- what was found is what is given
op_is : (op op' : BinOp) (line line' : ℕ) (ts after : List Token) → got {X = BinOp × ℕ} (op, line) ts ≡ got (op', line') after → (op ≡ op') × (line ≡ line') × (ts ≡ after)
op_is op op' line line' ts after h =
    let x = pair_is {X = BinOp × ℕ} {Y = List Token} (op, line) (op', line') ts after h in
    (ap (λ (x : BinOp × ℕ). x.0) x.0, ap (λ (x : BinOp × ℕ). x.1) x.0, x.1)

operator_of_is : (n line : ℕ) (found : Option BinOp) (ts : List Token) (op : BinOp) (line' : ℕ) (after : List Token) → r.operator_of n line found ts ≡ Some ((op, line'), after)
    → (found ≡ Some op) × (line ≡ line') × (ts ≡ after) × (level op ≡ n)
operator_of_is n line None ts op line' after h = absurd cc
operator_of_is n line (Some found) ts op line' after h =
    let y : OpLine × List Token = ((op, line'), after) in
    let x : OpLine × List Token = ((found, line), ts) in
    let first = if_some (eqb (level found) n) (cond (r.is_operator found ts) (Some x) None) y h in
    let second = guard_ok (r.is_operator found ts) x y first.1 in
    let same = op_is found op line line' ts after (ap Some second.1) in
    let at : level found ≡ n = (Decides-eqb (level found) n).0 first.0 in
    (ap Some same.0, same.1, same.2, sym (ap level same.0) ∙ at)
  where
    if_some : {X : Type 0} (b : Bool) (o : Option X) (y : X) → cond b o None ≡ Some y → (b ≡ true) × (o ≡ Some y)
    if_some true o y h = (refl, h)
    if_some false o y h = absurd cc

operator_by_is : (n line : ℕ) (kind : TokenKind) (ts : List Token) (op : BinOp) (line' : ℕ) (after : List Token) → r.operator_by n line kind ts ≡ Some ((op, line'), after)
    → (q : Punct) × (kind ≡ k.Punct q) × (binop_of q ≡ Some op) × (line ≡ line') × (ts ≡ after) × (level op ≡ n)
operator_by_is n line (k.Punct q) ts op line' after h = let x = operator_of_is n line (binop_of q) ts op line' after h in (q, refl, x.0, x.1, x.2, x.3)
operator_by_is n line _ ts op line' after h = absurd cc

-- a token, by its kind and its line
same_token : (t : Token) (ts : List Token) (kind : TokenKind) (line : ℕ) (after : List Token) → t.kind ≡ kind → t.line ≡ line → ts ≡ after → t ∷ ts ≡ token kind line ∷ after
same_token t ts kind line after a b c =
    ap (λ kind. record { kind = kind; line = t.line } ∷ ts) a ∙ ap (λ line. token kind line ∷ ts) b ∙ ap (λ ts. token kind line ∷ ts) c

pub operator_is : (n : ℕ) (ts : List Token) (op : BinOp) (line : ℕ) (after : List Token) → r.operator n ts ≡ Some ((op, line), after)
    → (q : Punct) × (ts ≡ punct q line ∷ after) × (binop_of q ≡ Some op) × (level op ≡ n)
unfolding r.operator
operator_is n [] op line after h = absurd cc
operator_is n (t ∷ ts) op line after h =
    let x = operator_by_is n t.line t.kind ts op line after h in
    (x.0, same_token t ts (k.Punct x.0) line after x.1 x.3 x.4, x.2, x.5)

prefix_of_is : (line : ℕ) (found : Option UnOp) (ts : List Token) (op : UnOp) (line' : ℕ) (after : List Token) → r.prefix_of line found ts ≡ Some ((op, line'), after)
    → (found ≡ Some op) × (line ≡ line') × (ts ≡ after)
prefix_of_is line None ts op line' after h = absurd cc
prefix_of_is line (Some found) ts op line' after h =
    let x = pair_is {X = UnOp × ℕ} {Y = List Token} (found, line) (op, line') ts after h in
    (ap (λ (x : UnOp × ℕ). Some x.0) x.0, ap (λ (x : UnOp × ℕ). x.1) x.0, x.1)

prefix_by_is : (place : Place) (line : ℕ) (kind : TokenKind) (ts : List Token) (op : UnOp) (line' : ℕ) (after : List Token) → r.prefix_by place line kind ts ≡ Some ((op, line'), after)
    → (q : Punct) × (kind ≡ k.Punct q) × (term_unop_of place q ≡ Some op) × (line ≡ line') × (ts ≡ after)
prefix_by_is place line (k.Punct q) ts op line' after h = let x = prefix_of_is line (term_unop_of place q) ts op line' after h in (q, refl, x.0, x.1, x.2)
prefix_by_is place line _ ts op line' after h = absurd cc

pub prefix_is : (place : Place) (ts : List Token) (op : UnOp) (line : ℕ) (after : List Token) → r.prefix_at place ts ≡ Some ((op, line), after)
    → (q : Punct) × (ts ≡ punct q line ∷ after) × (term_unop_of place q ≡ Some op)
unfolding r.prefix_at
prefix_is place [] op line after h = absurd cc
prefix_is place (t ∷ ts) op line after h =
    let x = prefix_by_is place t.line t.kind ts op line after h in
    (x.0, same_token t ts (k.Punct x.0) line after x.1 x.3 x.4, x.2)

cast_by_is : (types : Names) (line : ℕ) (kind : TokenKind) (ts : List Token) (line' : ℕ) (after : List Token) → r.cast_by types line kind ts ≡ Some (line', after)
    → (kind ≡ k.Punct p.OpenParen) × (line ≡ line') × (ts ≡ after)
cast_by_is types line (k.Punct p.OpenParen) ts line' after h =
    let x = guard_ok (starts_type types ts) (line, ts) (line', after) h in
    let same = pair_is line line' ts after (ap Some x.1) in
    (refl, same.0, same.1)
cast_by_is types line _ ts line' after h = absurd cc

pub cast_is : (types : Names) (ts : List Token) (line : ℕ) (after : List Token) → r.cast_at types ts ≡ Some (line, after) → ts ≡ punct p.OpenParen line ∷ after
unfolding r.cast_at
cast_is types [] line after h = absurd cc
cast_is types (t ∷ ts) line after h =
    let x = cast_by_is types t.line t.kind ts line after h in
    same_token t ts (k.Punct p.OpenParen) line after x.0 x.1 x.2

abbrev pub selects : Selector → Punct
selects selector.Index = p.OpenBracket
selects selector.Dot = p.Dot
selects selector.Arrow = p.Arrow

selector_found : (s s' : Selector) (line line' : ℕ) (ts after : List Token) → got {X = Selector × ℕ} (s, line) ts ≡ got (s', line') after → (s ≡ s') × (line ≡ line') × (ts ≡ after)
selector_found s s' line line' ts after h =
    let x = pair_is {X = Selector × ℕ} {Y = List Token} (s, line) (s', line') ts after h in
    (ap (λ (x : Selector × ℕ). x.0) x.0, ap (λ (x : Selector × ℕ). x.1) x.0, x.1)

selector_by_is : (line : ℕ) (kind : TokenKind) (ts : List Token) (s : Selector) (line' : ℕ) (after : List Token) → r.selector_by line kind ts ≡ Some ((s, line'), after)
    → (kind ≡ k.Punct (selects s)) × (line ≡ line') × (ts ≡ after)
selector_by_is line (k.Punct p.OpenBracket) ts s line' after h = let x = selector_found selector.Index s line line' ts after h in (ap (λ s. k.Punct (selects s)) x.0, x.1, x.2)
selector_by_is line (k.Punct p.Dot) ts s line' after h = let x = selector_found selector.Dot s line line' ts after h in (ap (λ s. k.Punct (selects s)) x.0, x.1, x.2)
selector_by_is line (k.Punct p.Arrow) ts s line' after h = let x = selector_found selector.Arrow s line line' ts after h in (ap (λ s. k.Punct (selects s)) x.0, x.1, x.2)
selector_by_is line _ ts s line' after h = absurd cc

pub selector_is : (ts : List Token) (s : Selector) (line : ℕ) (after : List Token) → r.selector_at ts ≡ Some ((s, line), after) → ts ≡ punct (selects s) line ∷ after
unfolding r.selector_at
selector_is [] s line after h = absurd cc
selector_is (t ∷ ts) s line after h =
    let x = selector_by_is t.line t.kind ts s line after h in
    same_token t ts (k.Punct (selects s)) line after x.0 x.1 x.2

-- ---- lists of terms

-- more terms behind one
abbrev MoreTerms : (types : Names) (place : Place) (room : ℕ) (first ts : List Token) → t.Term → List t.Term → List Token → Type 0
MoreTerms types place room first ts a as' rest = (xs : List Token) × (ts ≡ xs ++ rest) × g.SpellsSomeTerms types place room (first ++ xs) (t.more a (t.terms_of as'))

no_more : (types : Names) (place : Place) (room : ℕ) (first : List Token) (a : t.Term) → g.SpellsTerm types place room first a → (ts : List Token) (as' : List t.Term) (rest : List Token)
    → got [] ts ≡ got as' rest → MoreTerms types place room first ts a as' rest
no_more types place room first a s ts as' rest h =
    let none : List t.Term = [] in
    let same = pair_is none as' ts rest h in
    ([], same.1, subst (λ as'. g.SpellsSomeTerms types place room (first ++ []) (t.more a (t.terms_of as'))) same.0 (g.one_term (subst (λ l. g.SpellsTerm types place room l a) (sym (append-nil first)) s)))

more_sound : (types : Names) (place : Place) (room : ℕ) (one : Reader t.Term) → Sound (g.SpellsTerm types place room) one → (turns : ℕ) (first : List Token) (a : t.Term) → g.SpellsTerm types place room first a
    → (ts : List Token) (as' : List t.Term) (rest : List Token) → more_separated one turns ts ≡ Some (as', rest) → MoreTerms types place room first ts a as' rest
unfolding more_separated
more_sound types place room one sound zero first a s ts as' rest h = no_more types place room first a s ts as' rest h
more_sound types place room one sound (suc turns) first a s ts as' rest h =
    elim (punct_at p.Comma ts) as (λ o. punct_at p.Comma ts ≡ o → separated_go one o ts (more_separated one turns) ≡ Some (as', rest) → MoreTerms types place room first ts a as' rest) [
      | None ↦ (λ none h. no_more types place room first a s ts as' rest h)
      | Some comma ↦ (λ some h.
          let b = bind_ok (one comma.1) _ (as', rest) h in
          let bs = bind_ok (more_separated one turns b.0.1) _ (as', rest) b.2 in
          let same = pair_is (b.0.0 ∷ bs.0.0) as' bs.0.1 rest bs.2 in
          let right = sound comma.1 b.0.0 b.0.1 b.1 in
          let more = more_sound types place room one sound turns right.0 b.0.0 right.2 b.0.1 bs.0.0 bs.0.1 bs.1 in
          let tok = punct p.Comma comma.0 in (
            tok ∷ (right.0 ++ more.0),
            punct_is p.Comma ts comma.0 comma.1 some ∙ ap (λ l. tok ∷ l) (right.1 ∙ ap (λ l. right.0 ++ l) more.1 ∙ sym (append_assoc right.0 more.0 bs.0.1)) ∙ ap (λ l. tok ∷ ((right.0 ++ more.0) ++ l)) same.1,
            subst (λ as'. g.SpellsSomeTerms types place room (first ++ tok ∷ (right.0 ++ more.0)) (t.more a (t.terms_of as'))) same.0 (g.more_terms comma.0 s more.2 refl),
          ))
    ]
    refl h

-- terms with commas between them
abbrev pub SpellsList : (types : Names) (place : Place) (room : ℕ) → List Token → List t.Term → Type 0
SpellsList types place room xs as' = g.SpellsSomeTerms types place room xs (t.terms_of as')

pub terms_sound : (types : Names) (place : Place) (room : ℕ) (one : Reader t.Term) → Sound (g.SpellsTerm types place room) one → Sound (SpellsList types place room) (r.terms_by one)
terms_sound types place room one sound ts as' rest h =
    let a = bind_ok (one ts) _ (as', rest) h in
    let bs = bind_ok (more_separated one (length a.0.1) a.0.1) _ (as', rest) a.2 in
    let same = pair_is (a.0.0 ∷ bs.0.0) as' bs.0.1 rest bs.2 in
    let first = sound ts a.0.0 a.0.1 a.1 in
    let more = more_sound types place room one sound (length a.0.1) first.0 a.0.0 first.2 a.0.1 bs.0.0 bs.0.1 bs.1 in (
      first.0 ++ more.0,
      first.1 ∙ ap (λ l. first.0 ++ l) more.1 ∙ sym (append_assoc first.0 more.0 bs.0.1) ∙ ap (λ l. (first.0 ++ more.0) ++ l) same.1,
      subst (λ as'. SpellsList types place room (first.0 ++ more.0) as') same.0 more.2,
    )

-- up to a closing parenthesis
abbrev pub Closed : {X : Type 0} → (List Token → X → Type 0) → List Token → X → Type 0
Closed S xs a = (inside : List Token) × (line : ℕ) × (xs ≡ inside ++ punct p.CloseParen line ∷ []) × S inside a

pub closed_is : {X : Type 0} (read : Option (X × List Token)) (a : X) (rest : List Token) → r.closed read ≡ Some (a, rest) → (line : ℕ) × (read ≡ Some (a, punct p.CloseParen line ∷ rest))
closed_is {X} read a rest h =
    let x = bind_ok read _ (a, rest) h in
    let end = bind_ok (punct_at p.CloseParen x.0.1) _ (a, rest) x.2 in
    let same = pair_is x.0.0 a end.0.1 rest end.2 in
    (end.0.0, x.1 ∙ ap (λ (a : X). Some (a, x.0.1)) same.0 ∙ ap (λ l. got a l) (punct_is p.CloseParen x.0.1 end.0.0 end.0.1 end.1 ∙ ap (λ l. punct p.CloseParen end.0.0 ∷ l) same.1))

closed_sound : {X : Type 0} (S : List Token → X → Type 0) (read : Reader X) → Sound S read → Sound (Closed S) (λ ts. r.closed (read ts))
closed_sound S read sound ts a rest h =
    let x = closed_is (read ts) a rest h in
    let inside = sound ts a (punct p.CloseParen x.0 ∷ rest) x.1 in
    (inside.0 ++ punct p.CloseParen x.0 ∷ [], ends_with ts inside.0 (punct p.CloseParen x.0 ∷ rest) rest (punct p.CloseParen x.0) inside.1 refl, (inside.0, x.0, refl, inside.2))

abbrev pub SpellsArguments : (types : Names) (place : Place) (room : ℕ) → List Token → List t.Term → Type 0
SpellsArguments types place room xs as' = g.SpellsTermArgs types place room xs (t.terms_of as')

pub args_sound : (types : Names) (place : Place) (room : ℕ) (one : Reader t.Term) → Sound (g.SpellsTerm types place room) one → Sound (Closed (SpellsArguments types place room)) (r.args_at one)
args_sound types place room one sound ts as' rest h =
    elim (punct_at p.CloseParen ts) as (λ o. punct_at p.CloseParen ts ≡ o → r.args_after o one ts ≡ Some (as', rest) → Took (Closed (SpellsArguments types place room)) ts as' rest) [
      | None ↦ (λ none h.
          let x = closed_sound (SpellsList types place room) (r.terms_by one) (terms_sound types place room one sound) ts as' rest h in
          (x.0, x.1, (x.2.0, x.2.1, x.2.2, g.terms x.2.3)))
      | Some end ↦ (λ some h.
          let none : List t.Term = [] in
          let same = pair_is none as' end.1 rest h in
          let tok = punct p.CloseParen end.0 in (
            tok ∷ [],
            punct_is p.CloseParen ts end.0 end.1 some ∙ ap (λ l. tok ∷ l) same.1,
            ([], end.0, refl, subst (λ as'. SpellsArguments types place room [] as') same.0 g.no_terms),
          ))
    ]
    refl h

-- ---- what stands in brackets

-- what parentheses alone enclose
pub data SpellsGroup (types : Names) : (place : Place) (room : ℕ) → List Token → t.Term → Type 0 where
  plain : {place : Place} {room : ℕ} {all : List Token} {a : t.Term} → g.SpellsTerm types place room all a → SpellsGroup types place room all a
  spread_out : {room : ℕ} {all : List Token} {a : t.Term} → g.SpellsSpread types in_set room all a → SpellsGroup types in_set room all a

-- what square brackets enclose
pub data SpellsOffset (types : Names) : (place : Place) (room : ℕ) → List Token → t.Term → Type 0 where
  single : {place : Place} {room : ℕ} {all : List Token} {a : t.Term} → g.SpellsTerm types (inside_of place) room all a → SpellsOffset types place room all a
  double : {room line : ℕ} {low high all : List Token} {lo hi : t.Term} → g.SpellsTerm types in_set room low lo → g.SpellsTerm types in_set room high hi
      → all ≡ low ++ punct p.Range line ∷ high → SpellsOffset types in_set room all (t.range line lo hi)

pub group_parens : (types : Names) (place : Place) (room line line' : ℕ) (inside : List Token) (a : t.Term) → SpellsGroup types (inside_of place) room inside a
    → g.SpellsTermPrimary types place (suc room) (punct p.OpenParen line ∷ (inside ++ punct p.CloseParen line' ∷ [])) a
group_parens types anywhere room line line' inside a (plain s) = g.parens line line' s refl
group_parens types in_set room line line' inside a (plain s) = g.parens line line' s refl
group_parens types in_set room line line' inside a (spread_out s) = g.spread_parens line line' s refl
group_parens types in_chain room line line' inside a (plain s) = g.parens line line' s refl

pub offset_brackets : (types : Names) (place : Place) (room line line' : ℕ) (base inside : List Token) (a b : t.Term) → g.SpellsTermPostfix types place (suc room) base a → SpellsOffset types place room inside b
    → g.SpellsTermPostfix types place (suc room) (base ++ punct p.OpenBracket line ∷ (inside ++ punct p.CloseBracket line' ∷ [])) (t.index line a b)
offset_brackets types place room line line' base inside a b s (single s') = g.index line' s s' refl
offset_brackets types in_set room line line' base inside a b s (double {line = dots} {low} {high} s1 s2 eq) =
    g.range line' s s1 s2 (ap (λ l. base ++ punct p.OpenBracket line ∷ l) (ap (λ l. l ++ punct p.CloseBracket line' ∷ []) eq ∙ append_assoc low (punct p.Range dots ∷ high) (punct p.CloseBracket line' ∷ [])))

abbrev Ranged : (types : Names) (place : Place) (room : ℕ) → (before ts : List Token) → t.Term → List Token → Type 0
Ranged types place room before ts b rest = (xs : List Token) × (ts ≡ xs ++ rest) × SpellsOffset types place room (before ++ xs) b

not_ranged : (types : Names) (place : Place) (room : ℕ) (before ts : List Token) (lo : t.Term) → g.SpellsTerm types (inside_of place) room before lo → (b : t.Term) (rest : List Token) → got lo ts ≡ got b rest
    → Ranged types place room before ts b rest
not_ranged types place room before ts lo s b rest h =
    let same = pair_is lo b ts rest h in
    ([], same.1, subst (λ b. SpellsOffset types place room (before ++ []) b) same.0 (single (subst (λ l. g.SpellsTerm types (inside_of place) room l lo) (sym (append-nil before)) s)))

ranged_sound : (types : Names) (room : ℕ) (inner : Reader t.Term) → Sound (g.SpellsTerm types in_set room) inner → (before ts : List Token) (lo : t.Term) → g.SpellsTerm types in_set room before lo
    → (b : t.Term) (rest : List Token) → r.ranged (punct_at p.Range ts) lo inner ts ≡ Some (b, rest) → Ranged types in_set room before ts b rest
ranged_sound types room inner sound before ts lo s b rest h =
    elim (punct_at p.Range ts) as (λ o. punct_at p.Range ts ≡ o → r.ranged o lo inner ts ≡ Some (b, rest) → Ranged types in_set room before ts b rest) [
      | None ↦ (λ none h. not_ranged types in_set room before ts lo s b rest h)
      | Some dots ↦ (λ some h.
          let high = bind_ok (inner dots.1) _ (b, rest) h in
          let same = pair_is (t.range dots.0 lo high.0.0) b high.0.1 rest high.2 in
          let right = sound dots.1 high.0.0 high.0.1 high.1 in
          let tok = punct p.Range dots.0 in (
            tok ∷ right.0,
            punct_is p.Range ts dots.0 dots.1 some ∙ ap (λ l. tok ∷ l) (right.1 ∙ ap (λ l. right.0 ++ l) same.1),
            subst (λ b. SpellsOffset types in_set room (before ++ tok ∷ right.0) b) same.0 (double s right.2 refl),
          ))
    ]
    refl h

ranged_at : (types : Names) (place : Place) (room : ℕ) (inner : Reader t.Term) → Sound (g.SpellsTerm types (inside_of place) room) inner → (before ts : List Token) (lo : t.Term) → g.SpellsTerm types (inside_of place) room before lo
    → (b : t.Term) (rest : List Token) → r.ranged (r.range_at place ts) lo inner ts ≡ Some (b, rest) → Ranged types place room before ts b rest
ranged_at types anywhere room inner sound before ts lo s b rest h = not_ranged types anywhere room before ts lo s b rest h
ranged_at types in_chain room inner sound before ts lo s b rest h = not_ranged types in_chain room before ts lo s b rest h
ranged_at types in_set room inner sound before ts lo s b rest h = ranged_sound types room inner sound before ts lo s b rest h

pub offset_sound : (types : Names) (place : Place) (room : ℕ) (inner : Reader t.Term) → Inside (g.SpellsTerm types (inside_of place)) room inner → Inside (SpellsOffset types place) room (r.offset_at place inner)
offset_sound types place room inner inside ts b rest h =
    let low = bind_ok (inner ts) _ (b, rest) h in
    let left = inside ts low.0.0 low.0.1 low.1 in
    let more = ranged_at types place left.0 inner (again (g.SpellsTerm types (inside_of place)) room left.0 inner inside left.1) left.2.0 low.0.1 low.0.0 left.2.2 b rest low.2 in
    (left.0, left.1, (left.2.0 ++ more.0, left.2.1 ∙ ap (λ l. left.2.0 ++ l) more.1 ∙ sym (append_assoc left.2.0 more.0 rest), more.2))
