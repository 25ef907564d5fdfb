-- What is spelled is read, and as that tree.
use Rattle.std.proofs.Common.{◌≡◌, ℕ, zero, suc, ◌≤◌, Bool, true, false, List, [], ◌∷◌, ◌++◌, length, Some, None, refl, sym, ap, ◌∙◌, subst, arith, append_assoc, length-append}
use Rattle.c_syntax.specs.declared.token.Token.{Token}
use Rattle.c_syntax.specs.declared.token.TokenKind.TheVariants as k
use Rattle.c_syntax.specs.declared.token.Punct.{Punct}
use Rattle.c_syntax.specs.declared.token.Punct.TheVariants as p
use Rattle.c_syntax.specs.declared.token.Word.TheVariants as w
use Rattle.c_syntax.specs.declared.expr.UnOp.{UnOp}
use Rattle.c_syntax.specs.declared.expr.BinOp.{BinOp}
use Rattle.c_syntax.specs.declared.expr.BinOp.TheVariants as o
use Rattle.c_syntax.specs.Expr.{CType}
use Rattle.c_syntax.specs.Term as t
use Rattle.c_grammar.specs.Tokens.{Names, punct, name}
use Rattle.c_grammar.specs.Operators.{binop_of, level, loosest, field_of}
use Rattle.c_grammar.specs.Types.{SpellsTypeName}
use Rattle.c_grammar.specs.Terms as g
use Rattle.c_grammar.specs.Terms.{Place, anywhere, in_set, in_chain, inside_of, term_unop_of}
use Rattle.c_grammar.specs.Reading.{Reader, ◌>>=◌, punct_at}
use Rattle.c_grammar.proofs.Levels.{Reads, reads_all, flat, looser_to, reads_binary}
use Rattle.c_grammar.specs.ListReaders.{more_separated}
use Rattle.parse_types.specs.Read.{starts_type, ends_type_name}
use Rattle.parse_types.proofs.Laws.{type_name_complete, type_name_starts}
use Rattle.parse_terms.specs.declared.tokens.Selector.{Selector}
use Rattle.parse_terms.specs.declared.tokens.Selector.TheVariants as selector
use Rattle.parse_terms.specs.Read as r
use Rattle.parse_terms.proofs.Reading.{inner_is, operand_is, term_is, group_is, postfix_is, parts_stop}
use Rattle.parse_terms.proofs.Neutral.{Neutral, term_neutral}
use Rattle.parse_terms.proofs.First.{First, term_first, binary_first, spread_first, some_first}
use Rattle.parse_terms.proofs.CompleteParts.{Stops, Follows, end_follows, question_ends, plus_follows, binop_stops, operator_takes, looser_operator, Args, Inner, Group, PrimaryReads, PostfixReads, UnaryReads, TermReads, InnerReads, deeper, EndsList, terms_stop, behind, one_read, more_read, args_closed, no_plus, Whole, parens_read, call_reads, variable_reads, old_reads, label_reads, number_reads, char_reads, constant_reads}

-- ---- parts

parts_take : (place : Place) (inner : Reader t.Term) (turns : ℕ) (a b : t.Term) (ts : List Token) (s : Selector) (line : ℕ) (after rest : List Token) → r.selector_at ts ≡ Some ((s, line), after) → suc (length rest) ≤ turns
    → r.selected place inner s line a after ≡ Some (b, rest) → (turns' : ℕ) × (length rest ≤ turns') × (r.parts place inner turns a ts ≡ r.parts place inner turns' b rest)
unfolding r.parts
parts_take place inner zero a b ts s line after rest found le h = absurd (omega arith)
parts_take place inner (suc turns) a b ts s line after rest found le h = (turns, omega arith, rw (found, h) refl)

abbrev Postfix : (types : Names) (place : Place) (room : ℕ) → Reader t.Term
Postfix types place room = r.postfix types place (Args types room place) (Inner types room place) (Group types room place)

-- a part behind another
part_reads : (types : Names) (place : Place) (room : ℕ) (base tail : List Token) (tok : Token) (a b : t.Term) (s : Selector) (line : ℕ) → PostfixReads types place room base a
    → ((ts : List Token) → r.selector_at (tok ∷ ts) ≡ Some ((s, line), ts)) → ((ts : List Token) → punct_at p.OpenParen (tok ∷ ts) ≡ None)
    → ((rest : List Token) → r.selected place (Inner types room place) s line a (tail ++ rest) ≡ Some (b, rest)) → PostfixReads types place room (base ++ tok ∷ tail) b
part_reads types place room base tail tok a b s line reads selects no_call h rest none =
    let x = reads (tok ∷ (tail ++ rest)) (no_call (tail ++ rest)) in
    let y = parts_take place (Inner types room place) x.0 a b (tok ∷ (tail ++ rest)) s line (tail ++ rest) rest (selects (tail ++ rest)) (omega (arith, x.1, length-append tail rest)) (h rest) in
    (y.0, y.1, ap (Postfix types place room) (append_assoc base (tok ∷ tail) rest) ∙ x.2 ∙ y.2)

bracket_selects : (line : ℕ) (ts : List Token) → r.selector_at (punct p.OpenBracket line ∷ ts) ≡ Some ((selector.Index, line), ts)
unfolding r.selector_at
bracket_selects line ts = refl

dot_selects : (line : ℕ) (ts : List Token) → r.selector_at (punct p.Dot line ∷ ts) ≡ Some ((selector.Dot, line), ts)
unfolding r.selector_at
dot_selects line ts = refl

arrow_selects : (line : ℕ) (ts : List Token) → r.selector_at (punct p.Arrow line ∷ ts) ≡ Some ((selector.Arrow, line), ts)
unfolding r.selector_at
arrow_selects line ts = refl

no_range : (place : Place) (line : ℕ) (rest : List Token) → r.range_at place (punct p.CloseBracket line ∷ rest) ≡ None
no_range anywhere line rest = refl
no_range in_set line rest = refl
no_range in_chain line rest = refl

index_reads : (place : Place) (inner : Reader t.Term) (line line' : ℕ) (inside : List Token) (a b : t.Term) (rest : List Token) → inner (inside ++ punct p.CloseBracket line' ∷ rest) ≡ Some (b, punct p.CloseBracket line' ∷ rest)
    → r.index_at place inner line a ((inside ++ punct p.CloseBracket line' ∷ []) ++ rest) ≡ Some (t.index line a b, rest)
index_reads place inner line line' inside a b rest h =
    ap (r.index_at place inner line a) (append_assoc inside (punct p.CloseBracket line' ∷ []) rest) ∙ rw (h, no_range place line' rest) refl

range_reads : (inner : Reader t.Term) (line line' line'' : ℕ) (low high : List Token) (a lo hi : t.Term) (rest : List Token)
    → inner (low ++ punct p.Range line' ∷ (high ++ punct p.CloseBracket line'' ∷ rest)) ≡ Some (lo, punct p.Range line' ∷ (high ++ punct p.CloseBracket line'' ∷ rest))
    → inner (high ++ punct p.CloseBracket line'' ∷ rest) ≡ Some (hi, punct p.CloseBracket line'' ∷ rest)
    → r.index_at in_set inner line a ((low ++ punct p.Range line' ∷ (high ++ punct p.CloseBracket line'' ∷ [])) ++ rest) ≡ Some (t.index line a (t.range line' lo hi), rest)
range_reads inner line line' line'' low high a lo hi rest h h' =
    let regrouped : (low ++ punct p.Range line' ∷ (high ++ punct p.CloseBracket line'' ∷ [])) ++ rest ≡ low ++ punct p.Range line' ∷ (high ++ punct p.CloseBracket line'' ∷ rest) = simp append_assoc in
    ap (r.index_at in_set inner line a) regrouped ∙ rw (h, h') refl

-- ---- prefixes

-- no prefix operator and no cast
abbrev Plain : (types : Names) (place : Place) → List Token → Type 0
Plain types place ts = (r.prefix_at place ts ≡ None) × (r.cast_at types ts ≡ None)

paren_no_prefix : (place : Place) (line : ℕ) (ts : List Token) → r.prefix_at place (punct p.OpenParen line ∷ ts) ≡ None
unfolding r.prefix_at
paren_no_prefix anywhere line ts = refl
paren_no_prefix in_set line ts = refl
paren_no_prefix in_chain line ts = refl

paren_no_cast : (types : Names) (line : ℕ) (ts : List Token) → starts_type types ts ≡ false → r.cast_at types (punct p.OpenParen line ∷ ts) ≡ None
unfolding r.cast_at
paren_no_cast types line ts h = rw h refl

parens_plain : (types : Names) (place : Place) (line line' : ℕ) (inside rest : List Token) → First types (inside ++ punct p.CloseParen line' ∷ rest) → Plain types place ((punct p.OpenParen line ∷ (inside ++ punct p.CloseParen line' ∷ [])) ++ rest)
parens_plain types place line line' inside rest first =
    let ts = (inside ++ punct p.CloseParen line' ∷ []) ++ rest in
    (paren_no_prefix place line ts, paren_no_cast types line ts (ap (starts_type types) (append_assoc inside (punct p.CloseParen line' ∷ []) rest) ∙ first.0))

primary_plain : {types : Names} {place : Place} {room : ℕ} {xs : List Token} {a : t.Term} → g.SpellsTermPrimary types place room xs a → (rest : List Token) → Plain types place (xs ++ rest)
unfolding r.prefix_at r.cast_at
primary_plain g.constant rest = (refl, refl)
primary_plain g.character rest = (refl, refl)
primary_plain (g.variable new) rest = (refl, refl)
primary_plain g.result rest = (refl, refl)
primary_plain g.null rest = (refl, refl)
primary_plain {types} {place} (g.call line' line'' new s eq) rest = subst (λ xs. Plain types place (xs ++ rest)) (sym eq) (refl, refl)
primary_plain {types} {place} (g.old line' line'' s eq) rest = subst (λ xs. Plain types place (xs ++ rest)) (sym eq) (refl, refl)
primary_plain {types} {place} (g.at_label line' line'' line''' line'''' s eq) rest = subst (λ xs. Plain types place (xs ++ rest)) (sym eq) (refl, refl)
primary_plain {types} {place} (g.parens line line' {inside} s eq) rest =
    subst (λ xs. Plain types place (xs ++ rest)) (sym eq) (parens_plain types place line line' inside rest (term_first s (punct p.CloseParen line' ∷ rest)))
primary_plain {types} (g.spread_parens line line' {inside} s eq) rest =
    subst (λ xs. Plain types in_set (xs ++ rest)) (sym eq) (parens_plain types in_set line line' inside rest (spread_first s (punct p.CloseParen line' ∷ rest)))

postfix_plain : {types : Names} {place : Place} {room : ℕ} {xs : List Token} {a : t.Term} → g.SpellsTermPostfix types place room xs a → (rest : List Token) → Plain types place (xs ++ rest)
postfix_plain (g.of_primary s) rest = primary_plain s rest
postfix_plain {types} {place} (g.index {line} line' {base} {inside} s s' eq) rest =
    let tail = punct p.OpenBracket line ∷ (inside ++ punct p.CloseBracket line' ∷ []) in
    subst (λ xs. Plain types place (xs ++ rest)) (sym eq) (subst (Plain types place) (sym (append_assoc base tail rest)) (postfix_plain s (tail ++ rest)))
postfix_plain {types} (g.range {line} {line'} line'' {base} {low} {high} s a b eq) rest =
    let tail = punct p.OpenBracket line ∷ (low ++ punct p.Range line' ∷ (high ++ punct p.CloseBracket line'' ∷ [])) in
    subst (λ xs. Plain types in_set (xs ++ rest)) (sym eq) (subst (Plain types in_set) (sym (append_assoc base tail rest)) (postfix_plain s (tail ++ rest)))
postfix_plain {types} {place} (g.field {line} line' q {arrow} {x} {base} which s eq) rest =
    let tail = punct q line ∷ name x line' ∷ [] in
    subst (λ xs. Plain types place (xs ++ rest)) (sym eq) (subst (Plain types place) (sym (append_assoc base tail rest)) (postfix_plain s (tail ++ rest)))

prefix_takes : (place : Place) (q : Punct) (op : UnOp) (line : ℕ) (ts : List Token) → term_unop_of place q ≡ Some op → r.prefix_at place (punct q line ∷ ts) ≡ Some ((op, line), ts)
unfolding r.prefix_at
prefix_takes place q op line ts h = rw h refl

prefixed_reads : (types : Names) (place : Place) (room line : ℕ) (q : Punct) (op : UnOp) (operand : List Token) (a : t.Term) → term_unop_of place q ≡ Some op → UnaryReads types place room operand a
    → UnaryReads types place (suc room) (punct q line ∷ operand) (t.unary line op a)
prefixed_reads types place room line q op operand a which h rest stops =
    operand_is types (suc room) place (punct q line ∷ (operand ++ rest))
    ∙ rw (prefix_takes place q op line (operand ++ rest) which, inner_is types room r.operands place (operand ++ rest), h rest stops) refl

cast_takes : (types : Names) (line : ℕ) (ts : List Token) → starts_type types ts ≡ true → r.cast_at types (punct p.OpenParen line ∷ ts) ≡ Some (line, ts)
unfolding r.cast_at
cast_takes types line ts h = rw h refl

close_ends_type : (line : ℕ) (ts : List Token) → ends_type_name (punct p.CloseParen line ∷ ts) ≡ true
unfolding ends_type_name
close_ends_type line ts = refl

cast_reads : (types : Names) (place : Place) (room line line' : ℕ) (inside operand : List Token) (type' : CType) (a : t.Term) → SpellsTypeName types inside type' → UnaryReads types place room operand a
    → UnaryReads types place (suc room) (punct p.OpenParen line ∷ (inside ++ punct p.CloseParen line' ∷ operand)) (t.cast line type' a)
cast_reads types place room line line' inside operand type' a s h rest stops =
    let close' = punct p.CloseParen line' in
    let ts = inside ++ close' ∷ (operand ++ rest) in
    let regrouped : (inside ++ close' ∷ operand) ++ rest ≡ ts = append_assoc inside (close' ∷ operand) rest in
    ap (λ ts. r.read types (suc room) r.operands place (punct p.OpenParen line ∷ ts)) regrouped
    ∙ operand_is types (suc room) place (punct p.OpenParen line ∷ ts)
    ∙ rw (
      paren_no_prefix place line ts,
      cast_takes types line ts (type_name_starts types inside type' s (close' ∷ (operand ++ rest))),
      type_name_complete types inside type' s (close' ∷ (operand ++ rest)) (close_ends_type line' (operand ++ rest)),
      inner_is types room r.operands place (operand ++ rest),
      h rest stops,
    )
    refl

postfix_ends : (types : Names) (place : Place) (room : ℕ) (xs : List Token) (a : t.Term) → PostfixReads types place room xs a → ((rest : List Token) → Plain types place (xs ++ rest)) → UnaryReads types place room xs a
postfix_ends types place room xs a reads plain rest stops =
    let x = reads rest stops.0 in
    let y = plain rest in
    operand_is types room place (xs ++ rest) ∙ rw (y.0, y.1) (x.2 ∙ parts_stop place (Inner types room place) x.0 a rest stops.1)

primary_ends : (types : Names) (place : Place) (room : ℕ) (xs : List Token) (a : t.Term) → PrimaryReads types place room xs a → PostfixReads types place room xs a
primary_ends types place room xs a reads rest none =
    let inner = Inner types room place in
    (length rest, omega arith, postfix_is types place (Args types room place) inner (Group types room place) (xs ++ rest) ∙ ap (λ o. o >>= λ a. r.parts place inner (length a.1) a.0 a.1) (reads rest none))

-- ---- whole terms

alone_reads : (types : Names) (place : Place) (room : ℕ) (xs : List Token) (a : t.Term) → Reads r.joined r.operator Stops loosest (r.read types room r.operands place) xs a → TermReads types place room xs a
alone_reads types place room xs a reads rest follows =
    let operand = r.read types room r.operands place in
    term_is types room place (xs ++ rest)
    ∙ ap (λ o. o >>= λ a. r.chosen (punct_at p.Question a.1) (r.inner types room r.wholes place) a.0 a.1) (reads_all r.joined r.operator Stops loosest operand xs a reads rest follows.0 follows.1)
    ∙ rw follows.2 refl

cond_reads : (types : Names) (place : Place) (room line line' : ℕ) (test first second : List Token) (a b c : t.Term) → Reads r.joined r.operator Stops loosest (r.read types (suc room) r.operands place) test a
    → InnerReads types place room first b → InnerReads types place room second c → TermReads types place (suc room) (test ++ punct p.Question line ∷ (first ++ punct p.Colon line' ∷ second)) (t.cond line a b c)
cond_reads types place room line line' test first second a b c reads h h' rest follows =
    let operand = r.read types (suc room) r.operands place in
    let after = first ++ punct p.Colon line' ∷ (second ++ rest) in
    let regrouped : (test ++ punct p.Question line ∷ (first ++ punct p.Colon line' ∷ second)) ++ rest ≡ test ++ punct p.Question line ∷ after = simp append_assoc in
    let ends = question_ends line after in
    ap (r.read types (suc room) r.wholes place) regrouped
    ∙ term_is types (suc room) place (test ++ punct p.Question line ∷ after)
    ∙ ap (λ o. o >>= λ a. r.chosen (punct_at p.Question a.1) (r.inner types (suc room) r.wholes place) a.0 a.1)
    (reads_all r.joined r.operator Stops loosest operand test a reads (punct p.Question line ∷ after) ends.0 ends.1)
    ∙ rw (h (punct p.Colon line' ∷ (second ++ rest)) (end_follows p.Colon line' (second ++ rest) refl), h' rest follows) refl

binary_read : (types : Names) (place : Place) (n m room line : ℕ) (q : Punct) (op : BinOp) (left right : List Token) (a b : t.Term) → suc m ≤ n → binop_of q ≡ Some op → level op ≡ suc m
    → ((rest : List Token) → First types (right ++ rest)) → Reads r.joined r.operator Stops (suc m) (r.read types room r.operands place) left a → Reads r.joined r.operator Stops m (r.read types room r.operands place) right b
    → Reads r.joined r.operator Stops n (r.read types room r.operands place) (left ++ punct q line ∷ right) (t.binary line op a b)
binary_read types place n m room line q op left right a b le which at first ra rb =
    let operand = r.read types room r.operands place in
    looser_to r.joined r.operator Stops (suc m) n operand (left ++ punct q line ∷ right) (t.binary line op a b) le
    (reads_binary r.joined r.operator Stops m line op operand (punct q line) left right a b
    (λ rest stops. operator_takes (suc m) q op line (right ++ rest) which at (first rest).2)
    (λ rest stops. looser_operator m q op line (right ++ rest) which at)
    (λ rest stops. binop_stops q op which line (right ++ rest))
    ra rb)

-- ---- ranges of offsets

-- the parenthesis after the `+`
range_opens : (line line' line'' : ℕ) (low high rest : List Token) → Neutral low → Neutral high → r.opens_range (punct p.OpenParen line ∷ (low ++ punct p.Range line' ∷ (high ++ punct p.CloseParen line'' ∷ rest))) ≡ true
unfolding r.opens_range
range_opens line line' line'' low high rest a b =
    ap r.is_found (a 0 false (punct p.Range line' ∷ (high ++ punct p.CloseParen line'' ∷ rest)) ∙ b 0 true (punct p.CloseParen line'' ∷ rest))

spread_reads : (types : Names) (place : Place) (room line line' line'' line''' : ℕ) (first low high : List Token) (a lo hi : t.Term) → Neutral low → Neutral high → TermReads types place (suc room) first a
    → InnerReads types (inside_of place) room low lo → InnerReads types (inside_of place) room high hi → (rest : List Token)
    → r.spread_term (r.read types (suc room) r.wholes place) (Inner types (suc room) place) ((first ++ punct p.Plus line ∷ punct p.OpenParen line' ∷ (low ++ punct p.Range line'' ∷ (high ++ punct p.CloseParen line''' ∷ []))) ++ rest)
    ≡ Some (t.binary line o.Add a (t.range line'' lo hi), rest)
spread_reads types place room line line' line'' line''' first low high a lo hi na nb h hl hh rest =
    let behind_low = high ++ punct p.CloseParen line''' ∷ rest in
    let opened = punct p.OpenParen line' ∷ (low ++ punct p.Range line'' ∷ behind_low) in
    let regrouped : (first ++ punct p.Plus line ∷ punct p.OpenParen line' ∷ (low ++ punct p.Range line'' ∷ (high ++ punct p.CloseParen line''' ∷ []))) ++ rest ≡ first ++ punct p.Plus line ∷ opened = simp append_assoc in
    ap (r.spread_term (r.read types (suc room) r.wholes place) (Inner types (suc room) place)) regrouped
    ∙ rw (
      h (punct p.Plus line ∷ opened) (plus_follows line opened (range_opens line' line'' line''' low high rest na nb)),
      hl (punct p.Range line'' ∷ behind_low) (end_follows p.Range line'' behind_low refl),
      hh (punct p.CloseParen line''' ∷ rest) (end_follows p.CloseParen line''' rest refl),
    )
    refl

-- ---- the induction

abbrev SpreadReads : (types : Names) (place : Place) (room : ℕ) → List Token → t.Term → Type 0
SpreadReads types place room xs a = (rest : List Token) → r.spread_term (r.read types room r.wholes place) (Inner types room place) (xs ++ rest) ≡ Some (a, rest)

spread_grouped : (types : Names) (room line : ℕ) (inside rest : List Token) (a : t.Term) → SpreadReads types in_set room inside a
    → r.read types room r.groups in_set (inside ++ punct p.CloseParen line ∷ rest) ≡ Some (a, punct p.CloseParen line ∷ rest)
spread_grouped types room line inside rest a h = group_is types room in_set (inside ++ punct p.CloseParen line ∷ rest) ∙ h (punct p.CloseParen line ∷ rest)

list_terms : (args : t.Terms) → t.terms_of (t.list_of args) ≡ args
list_terms t.stop = refl
list_terms (t.more a args) = ap (t.more a) (list_terms args)

-- a list of terms of which the first is read here
list_read : (one : Reader t.Term) (line : ℕ) (first others : List Token) (a : t.Term) (as' : List t.Term) (rest : List Token) → one (first ++ punct p.Comma line ∷ (others ++ rest)) ≡ Some (a, punct p.Comma line ∷ (others ++ rest))
    → behind one (length (others ++ rest)) (others ++ rest) ≡ Some (as', rest) → r.terms_by one ((first ++ punct p.Comma line ∷ others) ++ rest) ≡ Some (a ∷ as', rest)
unfolding more_separated
list_read one line first others a as' rest h more =
    ap (r.terms_by one) (append_assoc first (punct p.Comma line ∷ others) rest)
    ∙ ap (λ o. o >>= λ a. more_separated one (length a.1) a.1 >>= λ as'. Some (a.0 ∷ as'.0, as'.1)) h
    ∙ ap (λ o. o >>= λ as'. Some (a ∷ as'.0, as'.1)) more

single_read : (one : Reader t.Term) (xs : List Token) (a : t.Term) (rest : List Token) → one (xs ++ rest) ≡ Some (a, rest) → punct_at p.Comma rest ≡ None → r.terms_by one (xs ++ rest) ≡ Some (a ∷ [], rest)
single_read one xs a rest h ends = rw (h, terms_stop one (length rest) rest ends) refl

comma_follows : (line : ℕ) (ts : List Token) → Follows (punct p.Comma line ∷ ts)
comma_follows line ts = end_follows p.Comma line ts refl

close_follows : (line : ℕ) (ts : List Token) → Follows (punct p.CloseParen line ∷ ts)
close_follows line ts = end_follows p.CloseParen line ts refl

field_part : (types : Names) (place : Place) (room line line' : ℕ) (q : Punct) (arrow : Bool) (x : List ℕ) (base : List Token) (a : t.Term) → field_of q ≡ Some arrow → PostfixReads types place room base a
    → PostfixReads types place room (base ++ punct q line ∷ name x line' ∷ []) (t.field line a x arrow)
field_part types place room line line' p.Dot arrow x base a which reads =
    let same : false ≡ arrow = cc in
    subst (λ arrow. PostfixReads types place room (base ++ punct p.Dot line ∷ name x line' ∷ []) (t.field line a x arrow)) same
    (part_reads types place room base (name x line' ∷ []) (punct p.Dot line) a (t.field line a x false) selector.Dot line reads (dot_selects line) (λ ts. refl) (λ rest. refl))
field_part types place room line line' p.Arrow arrow x base a which reads =
    let same : true ≡ arrow = cc in
    subst (λ arrow. PostfixReads types place room (base ++ punct p.Arrow line ∷ name x line' ∷ []) (t.field line a x arrow)) same
    (part_reads types place room base (name x line' ∷ []) (punct p.Arrow line) a (t.field line a x true) selector.Arrow line reads (arrow_selects line) (λ ts. refl) (λ rest. refl))
field_part types place room line line' _ arrow x base a which reads = absurd cc

index_part : (types : Names) (place : Place) (room line line' : ℕ) (base inside : List Token) (a b : t.Term) → PostfixReads types place (suc room) base a → TermReads types (inside_of place) room inside b
    → PostfixReads types place (suc room) (base ++ punct p.OpenBracket line ∷ (inside ++ punct p.CloseBracket line' ∷ [])) (t.index line a b)
index_part types place room line line' base inside a b reads h =
    part_reads types place (suc room) base (inside ++ punct p.CloseBracket line' ∷ []) (punct p.OpenBracket line) a (t.index line a b) selector.Index line reads (bracket_selects line) (λ ts. refl)
    (λ rest. index_reads place (Inner types (suc room) place) line line' inside a b rest
    (deeper types (inside_of place) room inside b h (punct p.CloseBracket line' ∷ rest) (end_follows p.CloseBracket line' rest refl)))

range_part : (types : Names) (room line line' line'' : ℕ) (base low high : List Token) (a lo hi : t.Term) → PostfixReads types in_set (suc room) base a → TermReads types in_set room low lo → TermReads types in_set room high hi
    → PostfixReads types in_set (suc room) (base ++ punct p.OpenBracket line ∷ (low ++ punct p.Range line' ∷ (high ++ punct p.CloseBracket line'' ∷ []))) (t.index line a (t.range line' lo hi))
range_part types room line line' line'' base low high a lo hi reads h h' =
    part_reads types in_set (suc room) base (low ++ punct p.Range line' ∷ (high ++ punct p.CloseBracket line'' ∷ [])) (punct p.OpenBracket line) a (t.index line a (t.range line' lo hi)) selector.Index line reads
    (bracket_selects line) (λ ts. refl)
    (λ rest.
    let behind_low = high ++ punct p.CloseBracket line'' ∷ rest in
    range_reads (Inner types (suc room) in_set) line line' line'' low high a lo hi rest
    (deeper types in_set room low lo h (punct p.Range line' ∷ behind_low) (end_follows p.Range line' behind_low refl))
    (deeper types in_set room high hi h' (punct p.CloseBracket line'' ∷ rest) (end_follows p.CloseBracket line'' rest refl)))

mutual
  primary_reads : {types : Names} {place : Place} {room : ℕ} {xs : List Token} {a : t.Term} → g.SpellsTermPrimary types place room xs a → PrimaryReads types place room xs a
  primary_reads {types} {place} {room} (g.constant {line} {value} {base} {suffix}) rest none = number_reads types place room line value base suffix rest
  primary_reads {types} {place} {room} (g.character {line} {value}) rest none = char_reads types place room line value rest
  primary_reads {types} {place} (g.variable {room} {line} {x} new) rest none = variable_reads types place room line x rest new none
  primary_reads {types} {place} {room} (g.result {line}) rest none = (constant_reads types place room line rest).0
  primary_reads {types} {place} {room} (g.null {line}) rest none = (constant_reads types place room line rest).1
  primary_reads {types} {place} (g.call {room} {line} line' line'' {x} {inside} {all} {args} new s eq) rest none =
      subst (λ xs. Whole types place (suc room) (xs ++ rest) ≡ Some (t.call line x args, rest)) (sym eq)
      (call_reads types place room line line' line'' x inside (t.list_of args) rest new (args_read s line'' rest) ∙ ap (λ args. Some (t.call line x args, rest)) (list_terms args))
  primary_reads {types} {place} (g.old {room} {line} line' line'' {inside} {all} {a} s eq) rest none =
      subst (λ xs. Whole types place (suc room) (xs ++ rest) ≡ Some (t.old line a, rest)) (sym eq)
      (old_reads types place room line line' line'' inside a rest (deeper types (inside_of place) room inside a (term_reads s)))
  primary_reads {types} {place} (g.at_label {room} {line} line' line'' line''' line'''' {label} {inside} {all} {a} s eq) rest none =
      subst (λ xs. Whole types place (suc room) (xs ++ rest) ≡ Some (t.at_label line a label, rest)) (sym eq)
      (label_reads types place room line line' line'' line''' line'''' label inside a rest (deeper types (inside_of place) room inside a (term_reads s)))
  primary_reads {types} {place} (g.parens {room} line line' {inside} {all} {a} s eq) rest none =
      subst (λ xs. Whole types place (suc room) (xs ++ rest) ≡ Some (a, rest)) (sym eq)
      (parens_read types place room line line' inside a rest
      (no_plus types (inside_of place) room line' (inside ++ punct p.CloseParen line' ∷ rest) rest a (term_reads s (punct p.CloseParen line' ∷ rest) (close_follows line' rest))))
  primary_reads {types} (g.spread_parens {room} line line' {inside} {all} {a} s eq) rest none =
      subst (λ xs. Whole types in_set (suc room) (xs ++ rest) ≡ Some (a, rest)) (sym eq)
      (parens_read types in_set room line line' inside a rest (spread_grouped types room line' inside rest a (spread_read s)))

  pub spread_read : {types : Names} {place : Place} {room : ℕ} {xs : List Token} {a : t.Term} → g.SpellsSpread types place room xs a → SpreadReads types place room xs a
  spread_read {types} {place} (g.spread {room} {line} {line''} line' line''' {first} {low} {high} {all} {a} {lo} {hi} s sl sh eq) rest =
      subst (λ xs. r.spread_term (r.read types (suc room) r.wholes place) (Inner types (suc room) place) (xs ++ rest) ≡ Some (t.binary line o.Add a (t.range line'' lo hi), rest)) (sym eq)
      (spread_reads types place room line line' line'' line''' first low high a lo hi (term_neutral sl) (term_neutral sh) (term_reads s)
      (deeper types (inside_of place) room low lo (term_reads sl)) (deeper types (inside_of place) room high hi (term_reads sh)) rest)

  args_read : {types : Names} {place : Place} {room : ℕ} {xs : List Token} {args : t.Terms} → g.SpellsTermArgs types place room xs args → (line : ℕ) (rest : List Token)
      → r.args_at (r.read types room r.wholes place) ((xs ++ punct p.CloseParen line ∷ []) ++ rest) ≡ Some (t.list_of args, rest)
  args_read g.no_terms line rest = refl
  args_read {types} {place} {room} (g.terms {all} {args} s) line rest =
      args_closed types (r.read types room r.wholes place) line all rest (t.list_of args) (some_first s (punct p.CloseParen line ∷ rest))
      (some_read s (punct p.CloseParen line ∷ rest) (close_follows line rest, refl))

  pub some_read : {types : Names} {place : Place} {room : ℕ} {xs : List Token} {args : t.Terms} → g.SpellsSomeTerms types place room xs args → (rest : List Token) → EndsList rest
      → r.terms_by (r.read types room r.wholes place) (xs ++ rest) ≡ Some (t.list_of args, rest)
  some_read {types} {place} {room} (g.one_term {all} {a} s) rest ends = single_read (r.read types room r.wholes place) all a rest (term_reads s rest ends.0) ends.1
  some_read {types} {place} {room} (g.more_terms line {first} {rest = others} {all} {a} {args} s s' eq) rest ends =
      subst (λ xs. r.terms_by (r.read types room r.wholes place) (xs ++ rest) ≡ Some (a ∷ t.list_of args, rest)) (sym eq)
      (list_read (r.read types room r.wholes place) line first others a (t.list_of args) rest (term_reads s (punct p.Comma line ∷ (others ++ rest)) (comma_follows line (others ++ rest)))
      (behind_read s' (length (others ++ rest)) (omega (arith, length-append others rest)) rest ends))

  behind_read : {types : Names} {place : Place} {room : ℕ} {xs : List Token} {args : t.Terms} → g.SpellsSomeTerms types place room xs args → (turns : ℕ) → length xs ≤ turns → (rest : List Token) → EndsList rest
      → behind (r.read types room r.wholes place) turns (xs ++ rest) ≡ Some (t.list_of args, rest)
  behind_read {types} {place} {room} (g.one_term {all} {a} s) turns le rest ends = one_read (r.read types room r.wholes place) turns all a rest (term_reads s rest ends.0) ends.1
  behind_read (g.more_terms line {first} {rest = others} s s' eq) zero le rest ends = absurd (omega (arith, le, ap length eq, length-append first (punct p.Comma line ∷ others)))
  behind_read {types} {place} {room} (g.more_terms line {first} {rest = others} {all} {a} {args} s s' eq) (suc turns) le rest ends =
      let fewer : length others ≤ turns = omega (arith, le, ap length eq, length-append first (punct p.Comma line ∷ others)) in
      subst (λ xs. behind (r.read types room r.wholes place) (suc turns) (xs ++ rest) ≡ Some (a ∷ t.list_of args, rest)) (sym eq)
      (more_read (r.read types room r.wholes place) turns line first others a (t.list_of args) rest (term_reads s (punct p.Comma line ∷ (others ++ rest)) (comma_follows line (others ++ rest)))
      (behind_read s' turns fewer rest ends))

  postfix_reads : {types : Names} {place : Place} {room : ℕ} {xs : List Token} {a : t.Term} → g.SpellsTermPostfix types place room xs a → PostfixReads types place room xs a
  postfix_reads {types} {place} {room} {xs} {a} (g.of_primary s) = primary_ends types place room xs a (primary_reads s)
  postfix_reads {types} {place} (g.index {room} {line} line' {base} {inside} {all} {a} {b} s s' eq) =
      subst (λ xs. PostfixReads types place (suc room) xs (t.index line a b)) (sym eq) (index_part types place room line line' base inside a b (postfix_reads s) (term_reads s'))
  postfix_reads {types} (g.range {room} {line} {line'} line'' {base} {low} {high} {all} {a} {lo} {hi} s sl sh eq) =
      subst (λ xs. PostfixReads types in_set (suc room) xs (t.index line a (t.range line' lo hi))) (sym eq)
      (range_part types room line line' line'' base low high a lo hi (postfix_reads s) (term_reads sl) (term_reads sh))
  postfix_reads {types} {place} (g.field {room} {line} line' q {arrow} {x} {base} {all} {a} which s eq) =
      subst (λ xs. PostfixReads types place room xs (t.field line a x arrow)) (sym eq) (field_part types place room line line' q arrow x base a which (postfix_reads s))

  pub unary_reads : {types : Names} {place : Place} {room : ℕ} {xs : List Token} {a : t.Term} → g.SpellsTermUnary types place room xs a → UnaryReads types place room xs a
  unary_reads {types} {place} {room} {xs} {a} (g.of_postfix s) = postfix_ends types place room xs a (postfix_reads s) (postfix_plain s)
  unary_reads {types} {place} (g.prefixed {room} {line} {q} {op} {operand} {a} which s) = prefixed_reads types place room line q op operand a which (unary_reads s)
  unary_reads {types} {place} (g.cast {room} {line} line' {inside} {operand} {all} {type} {a} s s' eq) =
      subst (λ xs. UnaryReads types place (suc room) xs (t.cast line type a)) (sym eq) (cast_reads types place room line line' inside operand type a s (unary_reads s'))

  pub binary_reads : {types : Names} {place : Place} {n room : ℕ} {xs : List Token} {a : t.Term} → g.SpellsTermBinary types place n room xs a
      → Reads r.joined r.operator Stops n (r.read types room r.operands place) xs a
  binary_reads {types} {place} {n} {room} {xs} {a} (g.of_unary s) = flat r.joined r.operator Stops n (r.read types room r.operands place) xs a (unary_reads s)
  binary_reads {types} {place} (g.binary {n} {m} {room} {line} q {op} {left} {right} {all} {a} {b} le which at s s' eq) =
      subst (λ xs. Reads r.joined r.operator Stops n (r.read types room r.operands place) xs (t.binary line op a b)) (sym eq)
      (binary_read types place n m room line q op left right a b le which at (binary_first s') (binary_reads s) (binary_reads s'))

  pub term_reads : {types : Names} {place : Place} {room : ℕ} {xs : List Token} {a : t.Term} → g.SpellsTerm types place room xs a → TermReads types place room xs a
  term_reads {types} {place} {room} {xs} {a} (g.of_binary s) = alone_reads types place room xs a (binary_reads s)
  term_reads {types} {place} (g.cond {room} {line} line' {test} {yes = first} {no' = second} {all} {a} {b} {c} s s' s'' eq) =
      subst (λ xs. TermReads types place (suc room) xs (t.cond line a b c)) (sym eq)
      (cond_reads types place room line line' test first second a b c (binary_reads s) (deeper types place room first b (term_reads s')) (deeper types place room second c (term_reads s'')))
