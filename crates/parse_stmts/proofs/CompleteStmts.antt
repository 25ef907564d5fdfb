-- The reader on lists reads whatever statements the grammar spells.
use Rattle.std.proofs.Common.{◌≡◌, ℕ, zero, suc, ◌+◌, ◌-◌, ◌≤◌, Bool, true, false, nat_le, ◌&&◌, List, [], ◌∷◌, ◌++◌, length, Option, Some, None, refl, sym, ap, ◌∙◌, subst, arith, append_assoc, append-nil, length-append}
use Rattle.c_syntax.specs.declared.token.Token.{Token}
use Rattle.c_syntax.specs.declared.token.Punct.TheVariants as p
use Rattle.c_syntax.specs.declared.token.Word.{Word}
use Rattle.c_syntax.specs.declared.token.Word.TheVariants as w
use Rattle.c_syntax.specs.Expr as ex
use Rattle.c_syntax.specs.Stmt as tree
use Rattle.c_syntax.specs.Contract.{LoopAnnot}
use Rattle.c_grammar.specs.Tokens.{Names, punct, word, annot_open, annot_close, first_line}
use Rattle.c_grammar.specs.Exprs.{SpellsExpr, SpellsCond}
use Rattle.c_grammar.specs.Annots.{loop_of}
use Rattle.c_grammar.specs.Declarators.{SpellsVariables}
use Rattle.c_grammar.specs.Stmts as g
use Rattle.c_grammar.specs.Stmts.{SpellsOptional, SpellsFirst, SpellsLoopAnnot, SpellsStmt, SpellsBody, SpellsBlock, SpellsStmts, SpellsCases, is_block, ends_short, begins_labelled, defaults}
use Rattle.c_grammar.specs.Reading.{◌>>=◌, punct_at, word_at}
use Rattle.c_grammar.specs.declared.limits.TheConstants.{MOST_WITHIN, DEEPEST}
use Rattle.c_grammar.proofs.SingleTokens.{first_line_front}
use Rattle.parse_exprs.specs.Read.{cond_at}
use Rattle.parse_leaf_stmts.specs.Read as parts_of
use Rattle.parse_stmts.specs.Read as r
use Rattle.parse_leaf_stmts.specs.Read.{form_of}
use Rattle.parse_stmts.specs.Read.{Starting, Body}
use Rattle.parse_stmts.proofs.Turns.{deep_by, deep_annotated, deep_is, stmts_go}
use Rattle.parse_stmts.proofs.Starts.{stmt_goes, stmt_some, stmt_begun, no_open}
use Rattle.parse_stmts.proofs.Complete.{Whole, no_type, no_brace_at, no_else_at, variables_some, test_complete, locals_complete, head_complete, do_end_complete, loop_annot_complete, ReadsStmt, read_empty, read_break, read_continue, read_return, read_value, read_assert}

-- ---- lists

abbrev ReadsItem : Starting tree.Stmt → (end at : ℕ) → List Token → tree.Stmt → List ℕ → Type 0
ReadsItem one end at xs a own =
    (starts : List ℕ) (rest : List Token) → at + length (xs ++ rest) ≡ end → (ends_short a ≡ true → word_at w.Else rest ≡ None) → one starts (xs ++ rest) ≡ Some ((a, starts ++ own), rest)

abbrev ReadsList : Starting tree.Stmt → (end at : ℕ) → List Token → tree.Stmts → List ℕ → Type 0
ReadsList one end at xs ss own =
    (line : ℕ) (rest : List Token) (turns : ℕ) (starts : List ℕ) → at + length (xs ++ punct p.CloseBrace line ∷ rest) ≡ end → suc (length xs) ≤ turns
    → r.stmts one turns starts (xs ++ punct p.CloseBrace line ∷ rest) ≡ Some ((ss, line, starts ++ own), rest)

-- no `else` comes where items and a closing brace do
abbrev NoElse : List Token → Type 0
NoElse xs = (line : ℕ) (rest : List Token) → word_at w.Else (xs ++ punct p.CloseBrace line ∷ rest) ≡ None

-- an item is no closing brace
abbrev NoBrace : List Token → Type 0
NoBrace xs = (rest : List Token) → punct_at p.CloseBrace (xs ++ rest) ≡ None

no_items : (one : Starting tree.Stmt) (end at : ℕ) → ReadsList one end at [] tree.stop []
unfolding r.stmts
no_items one end at line rest zero starts place le = absurd (omega arith)
no_items one end at line rest (suc turns) starts place le = ap (λ starts. Some ((tree.stop, line, starts), rest)) (sym (append-nil starts))

more_items : (one : Starting tree.Stmt) (end at : ℕ) (first others : List Token) (a : tree.Stmt) (ss : tree.Stmts) (own own' : List ℕ) → NoBrace first → 1 ≤ length first → NoElse others
    → ReadsItem one end at first a own → ReadsList one end (at + length first) others ss own' → ReadsList one end at (first ++ others) (tree.more a ss) (own ++ own')
more_items one end at first others a ss own own' starts' some next reads more line rest zero starts place le = absurd (omega arith)
more_items one end at first others a ss own own' starts' some next reads more line rest (suc turns) starts place le =
    let tail = others ++ punct p.CloseBrace line ∷ rest in
    let same = append_assoc first others (punct p.CloseBrace line ∷ rest) in
    let long = ap length same in
    let long' = length-append first tail in
    let long'' = length-append first others in
    ap (r.stmts one (suc turns) starts) same
    ∙ stmts_go one (suc turns) turns starts (first ++ tail) (omega arith) (starts' tail)
    ∙ ap (λ o. o >>= λ a. r.stmts one turns a.0.1 a.1 >>= λ b. Some ((tree.more a.0.0 b.0.0, b.0.1, b.0.2), b.1)) (reads starts tail (omega (arith, place, long)) (λ t. next line rest))
    ∙ ap (λ o. o >>= λ b. Some ((tree.more a b.0.0, b.0.1, b.0.2), b.1)) (more line rest turns (starts ++ own) (omega (arith, place, long, long')) (omega (arith, le, long'', some)))
    ∙ ap (λ starts. Some ((tree.more a ss, line, starts), rest)) (append_assoc starts own own')

-- an item of a block
stmt_item : (types : Names) → Whole types → (end : ℕ) (loops breaks : Bool) (room at : ℕ) {xs : List Token} {a : tree.Stmt} {own : List ℕ} → SpellsStmt types loops breaks room at xs a own
    → ReadsStmt types end loops breaks room at xs a own → ReadsItem (r.item types room false (r.stmt types end room loops breaks)) end at xs a own
unfolding r.item
stmt_item types whole end loops breaks room at {xs} s reads starts rest place taken =
    ap (λ b. r.local_by b types room starts (xs ++ rest) (r.stmt types end room loops breaks starts (xs ++ rest))) (no_type whole (stmt_begun s) rest)
    ∙ reads starts rest place taken

local_item : (types : Names) → Whole types → (end room at : ℕ) (inner : Starting tree.Stmt) {xs : List Token} {vs : List ex.VarDecl} → SpellsVariables types room xs vs
    → ReadsItem (r.item types room false inner) end at xs (tree.locals (first_line xs) vs) (first_line xs ∷ [])
unfolding r.item
local_item types whole end room at inner {xs} {vs} s starts rest place taken =
    ap (λ b. r.local_by b types room starts (xs ++ rest) (inner starts (xs ++ rest))) (whole.variables_start room xs vs s rest)
    ∙ ap (λ line. r.beside (starts ++ line ∷ []) (parts_of.locals_at types room (xs ++ rest))) (first_line_front xs rest (variables_some s))
    ∙ ap (r.beside (starts ++ first_line xs ∷ [])) (locals_complete types whole room s rest)

-- an item of a `switch`
stmt_behind : (types : Names) (end : ℕ) (loops : Bool) (room at : ℕ) {xs : List Token} {a : tree.Stmt} {own : List ℕ} → SpellsStmt types loops true room at xs a own
    → ReadsStmt types end loops true room at xs a own → ReadsItem (r.item types room true (r.stmt types end room loops true)) end at xs a own
unfolding r.item
stmt_behind types end loops room at {xs} s reads starts rest place taken =
    let goes = stmt_goes s rest in
    let read = r.stmt types end room loops true starts (xs ++ rest) in
    ap (λ o. r.case_by o (word_at w.Default (xs ++ rest)) types room starts read) goes.no_case
    ∙ ap (λ o. r.case_by None o types room starts read) goes.no_default
    ∙ reads starts rest place taken

case_item : (types : Names) → Whole types → (end room at line line' : ℕ) (inner : Starting tree.Stmt) {value : List Token} {a : ex.Expr} → SpellsCond types room value a
    → ReadsItem (r.item types room true inner) end at (word w.Case line ∷ (value ++ punct p.Colon line' ∷ [])) (tree.case_of line a) []
unfolding r.item parts_of.case_at
case_item types whole end room at line line' inner {value} {a} s starts rest place taken =
    ap (λ ts. r.beside starts (cond_at types room ts >>= λ a. punct_at p.Colon a.1 >>= λ x. Some (tree.case_of line a.0, x.1))) (append_assoc value (punct p.Colon line' ∷ []) rest)
    ∙ ap (λ o. r.beside starts (o >>= λ a. punct_at p.Colon a.1 >>= λ x. Some (tree.case_of line a.0, x.1))) (whole.cond_complete room value a s line' rest)
    ∙ ap (λ starts. Some ((tree.case_of line a, starts), rest)) (sym (append-nil starts))

default_item : (types : Names) (end room at line line' : ℕ) (inner : Starting tree.Stmt)
    → ReadsItem (r.item types room true inner) end at (word w.Default line ∷ punct p.Colon line' ∷ []) (tree.default line) []
unfolding r.item parts_of.default_at
default_item types end room at line line' inner starts rest place taken =
    ap (λ starts. Some ((tree.default line, starts), rest)) (sym (append-nil starts))

-- ---- first tokens of lists

stmts_no_else : {types : Names} → Whole types → {loops breaks : Bool} {room at : ℕ} {xs : List Token} {ss : tree.Stmts} {own : List ℕ} → SpellsStmts types loops breaks room at xs ss own → NoElse xs
stmts_no_else whole g.no_stmts line rest = refl
stmts_no_else whole (g.stmt {first} {rest = others} {all} st sss eq) line rest =
    let tail = others ++ punct p.CloseBrace line ∷ rest in
    ap (λ xs. word_at w.Else (xs ++ punct p.CloseBrace line ∷ rest)) eq ∙ ap (word_at w.Else) (append_assoc first others (punct p.CloseBrace line ∷ rest)) ∙ (stmt_goes st tail).no_else
stmts_no_else {types} whole (g.variables {room} {first} {rest = others} {all} {vs} st sss eq) line rest =
    let tail = others ++ punct p.CloseBrace line ∷ rest in
    ap (λ xs. word_at w.Else (xs ++ punct p.CloseBrace line ∷ rest)) eq ∙ ap (word_at w.Else) (append_assoc first others (punct p.CloseBrace line ∷ rest))
    ∙ no_else_at types whole (first ++ tail) (whole.variables_start room first vs st tail)

cases_no_else : {types : Names} {loops : Bool} {room at : ℕ} {xs : List Token} {ss : tree.Stmts} {own : List ℕ} → SpellsCases types loops room at xs ss own → NoElse xs
cases_no_else g.no_cases line rest = refl
cases_no_else (g.case_of line' s sss eq) line rest = ap (λ xs. word_at w.Else (xs ++ punct p.CloseBrace line ∷ rest)) eq
cases_no_else (g.default line' sss) line rest = refl
cases_no_else (g.behind {first} {rest = others} {all} st sss eq) line rest =
    let tail = others ++ punct p.CloseBrace line ∷ rest in
    ap (λ xs. word_at w.Else (xs ++ punct p.CloseBrace line ∷ rest)) eq ∙ ap (word_at w.Else) (append_assoc first others (punct p.CloseBrace line ∷ rest)) ∙ (stmt_goes st tail).no_else

-- ---- statements with statements in them

-- with room for one form more
deep : (types : Names) (end room : ℕ) (loops breaks : Bool) (starts : List ℕ) (t : Token) (ts : List Token)
    → r.stmt types end (suc room) loops breaks starts (t ∷ ts) ≡ deep_by types end room (r.stmt types end room) loops breaks t.line (form_of t.kind) (starts ++ t.line ∷ []) ts (t ∷ ts)
unfolding r.stmt
deep types end room loops breaks starts t ts = deep_is types end room (r.stmt types end room) loops breaks t.line (form_of t.kind) (starts ++ t.line ∷ []) ts (t ∷ ts)

abbrev ReadsBody : Names → (end : ℕ) → (loops breaks : Bool) → (room at : ℕ) → List Token → tree.Stmt → List ℕ → Type 0
ReadsBody types end loops breaks room at xs a own =
    (starts : List ℕ) (rest : List Token) → at + length (xs ++ rest) ≡ end → (ends_short a ≡ true → word_at w.Else rest ≡ None)
    → r.body types room (r.stmt types end room loops breaks) starts (xs ++ rest) ≡ Some ((a, starts ++ own), rest)

-- as a statement and as a body
abbrev ReadsBlock : Names → (end : ℕ) → (loops breaks : Bool) → (room at line : ℕ) → List Token → tree.Stmts → List ℕ → Type 0
ReadsBlock types end loops breaks room at line xs ss own =
    (starts : List ℕ) (rest : List Token) → at + length (xs ++ rest) ≡ end
    → (r.stmt types end (suc room) loops breaks starts (xs ++ rest) ≡ Some ((tree.block line ss, starts ++ line ∷ own), rest))
    × (r.body types room (r.stmt types end room loops breaks) starts (xs ++ rest) ≡ Some ((tree.block line ss, starts ++ line ∷ own), rest))

abbrev blocked : (line : ℕ) → Option ((tree.Stmts × ℕ × List ℕ) × List Token) → Option ((tree.Stmt × List ℕ) × List Token)
blocked line o = o >>= λ b. Some ((tree.block line b.0.0, b.0.2), b.1)

read_block : (types : Names) (end : ℕ) (loops breaks : Bool) (room at line last : ℕ) (inside : List Token) (ss : tree.Stmts) (own : List ℕ)
    → ReadsList (r.item types room false (r.stmt types end room loops breaks)) end (suc at) inside ss own
    → ReadsBlock types end loops breaks room at line (punct p.OpenBrace line ∷ (inside ++ punct p.CloseBrace last ∷ [])) ss own
unfolding r.body r.braces
read_block types end loops breaks room at line last inside ss own reads starts rest place =
    let close' = punct p.CloseBrace last in
    let one = r.item types room false (r.stmt types end room loops breaks) in
    let now = starts ++ line ∷ [] in
    let all = inside ++ close' ∷ rest in
    let same = append_assoc inside (close' ∷ []) rest in
    let long = ap length same in
    let read = ap (λ ts. blocked line (r.stmts one (length ts) now ts)) same
    ∙ ap (blocked line) (reads last rest (length all) now (omega (arith, place, long)) (omega (arith, length-append inside (close' ∷ rest))))
    ∙ ap (λ starts. Some ((tree.block line ss, starts), rest)) (append_assoc starts (line ∷ []) own) in
    (deep types end room loops breaks starts (punct p.OpenBrace line) ((inside ++ close' ∷ []) ++ rest) ∙ read, read)

read_plain : (types : Names) (end : ℕ) (loops breaks : Bool) (room at : ℕ) {xs : List Token} {a : tree.Stmt} {own : List ℕ} → is_block a ≡ false → SpellsStmt types loops breaks room at xs a own
    → ReadsStmt types end loops breaks room at xs a own → ReadsBody types end loops breaks room at xs a own
unfolding r.body
read_plain types end loops breaks room at {xs} h s reads starts rest place taken =
    let inner = r.stmt types end room loops breaks in
    ap (λ o. r.body_by o (r.item types room false inner) inner starts (xs ++ rest)) (no_open s h rest) ∙ reads starts rest place taken

abbrev otherwise_of : (line : ℕ) → ex.Expr → tree.Stmt → Option ((Option tree.Stmt × List ℕ) × List Token) → Option ((tree.Stmt × List ℕ) × List Token)
otherwise_of line e a o = o >>= λ b. Some ((tree.if_of line e a b.0.0, b.0.1), b.1)

abbrev chosen : Names → (room : ℕ) → Starting tree.Stmt → (line : ℕ) → ex.Expr → Option ((tree.Stmt × List ℕ) × List Token) → Option ((tree.Stmt × List ℕ) × List Token)
chosen types room inner line e o = o >>= λ a. r.otherwise types room inner a.0.1 a.1 >>= λ b. Some ((tree.if_of line e a.0.0 b.0.0, b.0.1), b.1)

read_if_only : (types : Names) → Whole types → (end : ℕ) (loops breaks : Bool) (room at line line' line'' : ℕ) (one : List Token) {test : List Token} {e : ex.Expr} {a : tree.Stmt} {own : List ℕ} → SpellsExpr types room test e
    → ReadsBody types end loops breaks room (at + length test + 3) one a own
    → ReadsStmt types end loops breaks (suc room) at (word w.If line ∷ punct p.OpenParen line' ∷ (test ++ punct p.CloseParen line'' ∷ one)) (tree.if_only line e a) (line ∷ own)
unfolding r.choice r.otherwise
read_if_only types whole end loops breaks room at line line' line'' one {test} {e} {a} {own} s reads starts rest place taken =
    let close' = punct p.CloseParen line'' in
    let open' = punct p.OpenParen line' in
    let inner = r.stmt types end room loops breaks in
    let now = starts ++ line ∷ [] in
    let same = append_assoc test (close' ∷ one) rest in
    let long = ap length same in
    let long' = length-append test (close' ∷ (one ++ rest)) in
    let none = taken refl in
    deep types end room loops breaks starts (word w.If line) (open' ∷ ((test ++ close' ∷ one) ++ rest))
    ∙ ap (λ ts. parts_of.test_at types room (open' ∷ ts) >>= λ e. chosen types room inner line e.0 (r.body types room inner now e.1)) same
    ∙ ap (λ o. o >>= λ e. chosen types room inner line e.0 (r.body types room inner now e.1)) (test_complete types whole room s line' line'' (one ++ rest))
    ∙ ap (chosen types room inner line e) (reads now rest (omega (arith, place, long, long')) (λ t. none))
    ∙ ap (λ o. otherwise_of line e a (r.otherwise_by o types room inner (now ++ own) rest)) none
    ∙ ap (λ starts. Some ((tree.if_only line e a, starts), rest)) (append_assoc starts (line ∷ []) own)

read_if_else : (types : Names) → Whole types → (end : ℕ) (loops breaks : Bool) (room at line line' line'' line''' : ℕ) (one two : List Token) {test : List Token} {e : ex.Expr} {a b : tree.Stmt} {own own' : List ℕ} → SpellsExpr types room test e
    → ReadsBody types end loops breaks room (at + length test + 3) one a own → ends_short a ≡ false
    → ReadsBody types end loops breaks room (at + length test + length one + 4) two b own'
    → ReadsStmt types end loops breaks (suc room) at (word w.If line ∷ punct p.OpenParen line' ∷ (test ++ punct p.CloseParen line'' ∷ (one ++ word w.Else line''' ∷ two))) (tree.if_else line e a b) (line ∷ (own ++ own'))
unfolding r.choice r.otherwise
read_if_else types whole end loops breaks room at line line' line'' line''' one two {test} {e} {a} {b} {own} {own'} s reads short reads' starts rest place taken =
    let close' = punct p.CloseParen line'' in
    let open' = punct p.OpenParen line' in
    let els = word w.Else line''' in
    let inner = r.stmt types end room loops breaks in
    let now = starts ++ line ∷ [] in
    let tail = one ++ els ∷ (two ++ rest) in
    let same : (test ++ close' ∷ (one ++ els ∷ two)) ++ rest ≡ test ++ close' ∷ tail = simp append_assoc in
    let long = ap length same in
    let long' = length-append test (close' ∷ tail) in
    let long'' = length-append one (els ∷ (two ++ rest)) in
    let grouped : ((starts ++ line ∷ []) ++ own) ++ own' ≡ starts ++ line ∷ (own ++ own') = simp append_assoc in
    let never : ends_short a ≡ true → word_at w.Else (els ∷ (two ++ rest)) ≡ None = λ t. absurd cc in
    deep types end room loops breaks starts (word w.If line) (open' ∷ ((test ++ close' ∷ (one ++ els ∷ two)) ++ rest))
    ∙ ap (λ ts. parts_of.test_at types room (open' ∷ ts) >>= λ e. chosen types room inner line e.0 (r.body types room inner now e.1)) same
    ∙ ap (λ o. o >>= λ e. chosen types room inner line e.0 (r.body types room inner now e.1)) (test_complete types whole room s line' line'' tail)
    ∙ ap (chosen types room inner line e) (reads now (els ∷ (two ++ rest)) (omega (arith, place, long, long')) never)
    ∙ ap (λ o. otherwise_of line e a (o >>= λ b. Some ((Some b.0.0, b.0.1), b.1))) (reads' (now ++ own) rest (omega (arith, place, long, long', long'')) taken)
    ∙ ap (λ starts. Some ((tree.if_else line e a b, starts), rest)) grouped

-- ---- loops

-- a loop behind what may be its annotation, where the annotation is that of the loop
abbrev ReadsLoop : Names → (end : ℕ) → (loops breaks : Bool) → (room : ℕ) → (annot : LoopAnnot) → (ts : List Token) → tree.Stmt → List ℕ → List Token → Type 0
ReadsLoop types end loops breaks room annot ts a own rest = (now : List ℕ) → r.looped types room (r.stmt types end room true true) annot now ts ≡ Some ((a, now ++ own), rest)

-- which words begin a loop
abbrev IsLoop : Word → Type 0
IsLoop v = (types : Names) (end room : ℕ) (loops breaks : Bool) (starts : List ℕ) (line : ℕ) (ts : List Token)
    → r.stmt types end (suc room) loops breaks starts (word v line ∷ ts) ≡ r.looped types room (r.stmt types end room true true) (loop_of []) (starts ++ line ∷ []) (word v line ∷ ts)

while_is : IsLoop w.While
while_is types end room loops breaks starts line ts = deep types end room loops breaks starts (word w.While line) ts

do_is : IsLoop w.Do
do_is types end room loops breaks starts line ts = deep types end room loops breaks starts (word w.Do line) ts

for_is : IsLoop w.For
for_is types end room loops breaks starts line ts = deep types end room loops breaks starts (word w.For line) ts

-- with its annotation or without, a loop that is read is a statement
with_annot : (types : Names) → Whole types → (end : ℕ) (loops breaks : Bool) (room at : ℕ) (v : Word) → IsLoop v → {before : List Token} {annot : LoopAnnot} → SpellsLoopAnnot types (suc room) at before annot
    → (line : ℕ) (ts rest all xs : List Token) (a : tree.Stmt) (own : List ℕ) → xs ++ rest ≡ before ++ word v line ∷ ts → at + length (xs ++ rest) ≡ end → 1 ≤ length xs
    → ReadsLoop types end loops breaks room annot (word v line ∷ ts) a own rest
    → (starts : List ℕ) → r.stmt types end (suc room) loops breaks starts (xs ++ rest) ≡ Some ((a, starts ++ first_line xs ∷ own), rest)
with_annot types whole end loops breaks room at v is {before} {annot} (g.none eq) line ts rest all xs a own same place some reads starts =
    let on : line ≡ first_line xs = sym (ap first_line same) ∙ first_line_front xs rest some in
    ap (r.stmt types end (suc room) loops breaks starts) same
    ∙ is types end room loops breaks starts line ts
    ∙ ap (λ annot. r.looped types room (r.stmt types end room true true) annot (starts ++ line ∷ []) (word v line ∷ ts)) (sym eq)
    ∙ reads (starts ++ line ∷ [])
    ∙ ap (λ starts. Some ((a, starts), rest)) (append_assoc starts (line ∷ []) own ∙ ap (λ line. starts ++ line ∷ own) on)
with_annot types whole end loops breaks room at v is {before} {annot} (g.annotated line' line'' {inside} s eq) line ts rest all xs a own same place some reads starts =
    let open' = annot_open line' in
    let close' = annot_close line'' in
    let behind = word v line ∷ ts in
    let tail = inside ++ close' ∷ behind in
    let now = starts ++ line' ∷ [] in
    let inner = r.stmt types end room in
    let same' : xs ++ rest ≡ open' ∷ tail = same ∙ ap (λ l. l ++ behind) eq ∙ ap (λ l. open' ∷ l) (append_assoc inside (close' ∷ []) behind) in
    let on : line' ≡ first_line xs = sym (ap first_line same') ∙ first_line_front xs rest some in
    let long = ap length same' in
    ap (r.stmt types end (suc room) loops breaks starts) same'
    ∙ deep types end room loops breaks starts open' tail
    ∙ ap (λ o. deep_annotated o types end room inner now tail) (whole.loop_starts (suc room) (suc at) inside annot s line'' behind)
    ∙ ap (λ o. o >>= λ a. r.looped types room (inner true true) a.0 now a.1) (loop_annot_complete types whole (suc room) end (suc at) s line'' behind (omega (arith, place, long)))
    ∙ reads now
    ∙ ap (λ starts. Some ((a, starts), rest)) (append_assoc starts (line' ∷ []) own ∙ ap (λ line. starts ++ line ∷ own) on)

abbrev whiled : (line : ℕ) → LoopAnnot → ex.Expr → Option ((tree.Stmt × List ℕ) × List Token) → Option ((tree.Stmt × List ℕ) × List Token)
whiled line annot e o = o >>= λ a. Some ((tree.while_of line annot e a.0.0, a.0.1), a.1)

read_while : (types : Names) → Whole types → (end : ℕ) (loops breaks : Bool) (room at line line' line'' : ℕ) (one : List Token) {before test all : List Token} {annot : LoopAnnot} {e : ex.Expr} {a : tree.Stmt} {own : List ℕ}
    → SpellsLoopAnnot types (suc room) at before annot → SpellsExpr types room test e
    → ReadsBody types end true true room (at + length before + length test + 3) one a own
    → all ≡ before ++ word w.While line ∷ punct p.OpenParen line' ∷ (test ++ punct p.CloseParen line'' ∷ one)
    → ReadsStmt types end loops breaks (suc room) at all (tree.while_of line annot e a) (first_line all ∷ own)
unfolding r.looped r.while_of
read_while types whole end loops breaks room at line line' line'' one {before} {test} {all} {annot} {e} {a} {own} sa s reads eq starts rest place taken =
    let open' = punct p.OpenParen line' in
    let close' = punct p.CloseParen line'' in
    let inner = r.stmt types end room true true in
    let ts = open' ∷ (test ++ close' ∷ (one ++ rest)) in
    let regrouped : (before ++ word w.While line ∷ open' ∷ (test ++ close' ∷ one)) ++ rest ≡ before ++ word w.While line ∷ ts = simp append_assoc in
    let same = ap (λ l. l ++ rest) eq ∙ regrouped in
    let long = ap length same in
    let long' = length-append before (word w.While line ∷ ts) in
    let long'' = length-append test (close' ∷ (one ++ rest)) in
    with_annot types whole end loops breaks room at w.While while_is sa line ts rest all all (tree.while_of line annot e a) own same place (omega (arith, ap length eq, length-append before (word w.While line ∷ open' ∷ (test ++ close' ∷ one))))
    (λ now.
    ap (λ o. o >>= λ e. whiled line annot e.0 (r.body types room inner now e.1)) (test_complete types whole room s line' line'' (one ++ rest))
    ∙ ap (whiled line annot e) (reads now rest (omega (arith, place, long, long', long'')) taken))
    starts

abbrev done : Names → (room line : ℕ) → LoopAnnot → Option ((tree.Stmt × List ℕ) × List Token) → Option ((tree.Stmt × List ℕ) × List Token)
done types room line annot o = o >>= λ a. parts_of.do_end_at types room a.1 >>= λ e. Some ((tree.do_of line annot a.0.0 e.0, a.0.1), e.1)

read_do : (types : Names) → Whole types → (end : ℕ) (loops breaks : Bool) (room at line line' line'' line''' line'''' : ℕ) (one : List Token) {before test all : List Token} {annot : LoopAnnot} {e : ex.Expr} {a : tree.Stmt} {own : List ℕ}
    → SpellsLoopAnnot types (suc room) at before annot → ReadsBody types end true true room (at + length before + 1) one a own → SpellsExpr types room test e
    → all ≡ before ++ word w.Do line ∷ (one ++ word w.While line' ∷ punct p.OpenParen line'' ∷ (test ++ punct p.CloseParen line''' ∷ punct p.Semicolon line'''' ∷ []))
    → ReadsStmt types end loops breaks (suc room) at all (tree.do_of line annot a e) (first_line all ∷ own)
unfolding r.looped r.do_of
read_do types whole end loops breaks room at line line' line'' line''' line'''' one {before} {test} {all} {annot} {e} {a} {own} sa reads s eq starts rest place taken =
    let while' = word w.While line' in
    let open' = punct p.OpenParen line'' in
    let close' = punct p.CloseParen line''' in
    let semi = punct p.Semicolon line'''' in
    let inner = r.stmt types end room true true in
    let tail = while' ∷ open' ∷ (test ++ close' ∷ semi ∷ rest) in
    let ts = one ++ tail in
    let regrouped : (before ++ word w.Do line ∷ (one ++ while' ∷ open' ∷ (test ++ close' ∷ semi ∷ []))) ++ rest ≡ before ++ word w.Do line ∷ ts = simp append_assoc in
    let same = ap (λ l. l ++ rest) eq ∙ regrouped in
    let long = ap length same in
    let long' = length-append before (word w.Do line ∷ ts) in
    with_annot types whole end loops breaks room at w.Do do_is sa line ts rest all all (tree.do_of line annot a e) own same place
    (omega (arith, ap length eq, length-append before (word w.Do line ∷ (one ++ while' ∷ open' ∷ (test ++ close' ∷ semi ∷ [])))))
    (λ now.
    ap (done types room line annot) (reads now tail (omega (arith, place, long, long')) (λ t. refl))
    ∙ ap (λ o. o >>= λ e. Some ((tree.do_of line annot a e.0, now ++ own), e.1)) (do_end_complete types whole room s line' line'' line''' line'''' rest))
    starts

abbrev fored : (line : ℕ) → LoopAnnot → tree.Stmt × Option ex.Expr × Option ex.Expr → Option ((tree.Stmt × List ℕ) × List Token) → Option ((tree.Stmt × List ℕ) × List Token)
fored line annot h o = o >>= λ a. Some ((tree.for_of line annot h.0 h.1 h.2 a.0.0, a.0.1), a.1)

read_for : (types : Names) → Whole types → (end : ℕ) (loops breaks : Bool) (room at line line' line'' line''' : ℕ) (one : List Token) {before first test next all : List Token} {annot : LoopAnnot} {i a : tree.Stmt} {c n : Option ex.Expr} {own : List ℕ}
    → SpellsLoopAnnot types (suc room) at before annot → SpellsFirst types room first i → SpellsOptional types room test c → SpellsOptional types room next n
    → ReadsBody types end true true room (at + length before + length first + length test + length next + 4) one a own
    → all ≡ before ++ word w.For line ∷ punct p.OpenParen line' ∷ (first ++ (test ++ punct p.Semicolon line'' ∷ (next ++ punct p.CloseParen line''' ∷ one)))
    → ReadsStmt types end loops breaks (suc room) at all (tree.for_of line annot i c n a) (first_line all ∷ own)
unfolding r.looped r.for_of
read_for types whole end loops breaks room at line line' line'' line''' one {before} {first} {test} {next} {all} {annot} {i} {a} {c} {n} {own} sa si sc sn reads eq starts rest place taken =
    let open' = punct p.OpenParen line' in
    let semi = punct p.Semicolon line'' in
    let close' = punct p.CloseParen line''' in
    let inner = r.stmt types end room true true in
    let head = i in
    let ts = open' ∷ (first ++ (test ++ semi ∷ (next ++ close' ∷ (one ++ rest)))) in
    let regrouped : (before ++ word w.For line ∷ open' ∷ (first ++ (test ++ semi ∷ (next ++ close' ∷ one)))) ++ rest ≡ before ++ word w.For line ∷ ts = simp append_assoc in
    let same = ap (λ l. l ++ rest) eq ∙ regrouped in
    let long = ap length same in
    let long0 = length-append before (word w.For line ∷ ts) in
    let long1 = length-append first (test ++ semi ∷ (next ++ close' ∷ (one ++ rest))) in
    let long2 = length-append test (semi ∷ (next ++ close' ∷ (one ++ rest))) in
    let long3 = length-append next (close' ∷ (one ++ rest)) in
    with_annot types whole end loops breaks room at w.For for_is sa line ts rest all all (tree.for_of line annot i c n a) own same place
    (omega (arith, ap length eq, length-append before (word w.For line ∷ open' ∷ (first ++ (test ++ semi ∷ (next ++ close' ∷ one))))))
    (λ now.
    ap (λ o. o >>= λ h. fored line annot h.0 (r.body types room inner now h.1)) (head_complete types whole room si sc sn line' line'' line''' (one ++ rest))
    ∙ ap (fored line annot (i, c, n)) (reads now rest (omega (arith, place, long, long0, long1, long2, long3)) taken))
    starts

-- ---- `switch`

abbrev switched : (line : ℕ) → ex.Expr → Option ((tree.Stmts × ℕ × List ℕ) × List Token) → Option ((tree.Stmt × List ℕ) × List Token)
switched line e o = o >>= λ b. r.switch_if (parts_of.is_switch b.0.0) (tree.switch line e b.0.0) b.0.2 b.1

read_switch : (types : Names) → Whole types → (end : ℕ) (loops breaks : Bool) (room at line line' line'' line''' line'''' : ℕ) (inside : List Token) {test : List Token} {e : ex.Expr} {ss : tree.Stmts} {own : List ℕ} → SpellsExpr types room test e
    → ReadsList (r.item types room true (r.stmt types end room loops true)) end (at + length test + 4) inside ss own
    → begins_labelled ss ≡ true → nat_le (defaults ss) 1 ≡ true
    → ReadsStmt types end loops breaks (suc room) at (word w.Switch line ∷ punct p.OpenParen line' ∷ (test ++ punct p.CloseParen line'' ∷ punct p.OpenBrace line''' ∷ (inside ++ punct p.CloseBrace line'''' ∷ [])))
    (tree.switch line e ss) (line ∷ own)
unfolding r.switch_of
read_switch types whole end loops breaks room at line line' line'' line''' line'''' inside {test} {e} {ss} {own} s reads labelled few starts rest place taken =
    let open' = punct p.OpenParen line' in
    let close' = punct p.CloseParen line'' in
    let brace = punct p.OpenBrace line''' in
    let end' = punct p.CloseBrace line'''' in
    let one = r.item types room true (r.stmt types end room loops true) in
    let now = starts ++ line ∷ [] in
    let tail = inside ++ end' ∷ rest in
    let same : (test ++ close' ∷ brace ∷ (inside ++ end' ∷ [])) ++ rest ≡ test ++ close' ∷ brace ∷ tail = simp append_assoc in
    let long = ap length same in
    let long' = length-append test (close' ∷ brace ∷ tail) in
    let fits : parts_of.is_switch ss ≡ true = ap (λ b. b && nat_le (defaults ss) 1) labelled ∙ few in
    deep types end room loops breaks starts (word w.Switch line) (open' ∷ ((test ++ close' ∷ brace ∷ (inside ++ end' ∷ [])) ++ rest))
    ∙ ap (λ ts. parts_of.test_at types room (open' ∷ ts) >>= λ e. punct_at p.OpenBrace e.1 >>= λ x. switched line e.0 (r.stmts one (length x.1) now x.1)) same
    ∙ ap (λ o. o >>= λ e. punct_at p.OpenBrace e.1 >>= λ x. switched line e.0 (r.stmts one (length x.1) now x.1)) (test_complete types whole room s line' line'' (brace ∷ tail))
    ∙ ap (switched line e) (reads line'''' rest (length tail) now (omega (arith, place, long, long')) (omega (arith, length-append inside (end' ∷ rest))))
    ∙ ap (λ b. r.switch_if b (tree.switch line e ss) (now ++ own) rest) fits
    ∙ ap (λ starts. Some ((tree.switch line e ss, starts), rest)) (append_assoc starts (line ∷ []) own)

-- ---- every form

mutual
  stmt_complete : {types : Names} (whole : Whole types) (end : ℕ) {loops breaks : Bool} {room at : ℕ} {xs : List Token} {a : tree.Stmt} {own : List ℕ}
      → SpellsStmt types loops breaks room at xs a own → ReadsStmt types end loops breaks room at xs a own
  stmt_complete {types} whole end (g.empty {loops} {breaks} {room} {at} {line}) = read_empty types end loops breaks room at line
  stmt_complete {types} whole end (g.expr {loops} {breaks} {room} {at} line' s eq) = read_value types whole end loops breaks room at line' s eq
  stmt_complete {types} whole end (g.block b) = λ starts rest place taken. block_stmt whole end b starts rest place
  stmt_complete {types} whole end (g.if_only {loops} {breaks} {room} {at} {line} line' line'' {one} {all} {e} {a} {starts = own} s b eq) =
      subst (λ xs. ReadsStmt types end loops breaks (suc room) at xs (tree.if_only line e a) (line ∷ own)) (sym eq)
      (read_if_only types whole end loops breaks room at line line' line'' one s (body_complete whole end b))
  stmt_complete {types} whole end (g.if_else {loops} {breaks} {room} {at} {line} line' line'' line''' {one} {two} {all} {e} {a} {b} {starts = own} {starts' = own'} s x short y eq) =
      subst (λ xs. ReadsStmt types end loops breaks (suc room) at xs (tree.if_else line e a b) (line ∷ (own ++ own'))) (sym eq)
      (read_if_else types whole end loops breaks room at line line' line'' line''' one two s (body_complete whole end x) short (body_complete whole end y))
  stmt_complete {types} whole end (g.while_of {loops} {breaks} {room} {at} {line} line' line'' {one} f s b eq) =
      read_while types whole end loops breaks room at line line' line'' one f s (body_complete whole end b) eq
  stmt_complete {types} whole end (g.do_of {loops} {breaks} {room} {at} {line} line' line'' line''' line'''' {one} f b s eq) =
      read_do types whole end loops breaks room at line line' line'' line''' line'''' one f (body_complete whole end b) s eq
  stmt_complete {types} whole end (g.for_of {loops} {breaks} {room} {at} {line} line' line'' line''' {one} f i c n b eq) =
      read_for types whole end loops breaks room at line line' line'' line''' one f i c n (body_complete whole end b) eq
  stmt_complete {types} whole end (g.switch {loops} {breaks} {room} {at} {line} line' line'' line''' line'''' {inside} {all} {e} {body = ss} {starts = own} s cs labelled few eq) =
      subst (λ xs. ReadsStmt types end loops breaks (suc room) at xs (tree.switch line e ss) (line ∷ own)) (sym eq)
      (read_switch types whole end loops breaks room at line line' line'' line''' line'''' inside s (cases_complete whole end cs) labelled few)
  stmt_complete {types} whole end (g.break {loops} {breaks} {room} {at} {line} line' h) = read_break types end loops breaks room at line line' h
  stmt_complete {types} whole end (g.continue {loops} {breaks} {room} {at} {line} line' h) = read_continue types end loops breaks room at line line' h
  stmt_complete {types} whole end (g.return_of {loops} {breaks} {room} {at} {line} line' {all} {a} s eq) =
      subst (λ xs. ReadsStmt types end loops breaks room at xs (tree.return_of line a) (line ∷ [])) (sym eq) (read_return types whole end loops breaks room at line line' s)
  stmt_complete {types} whole end (g.assert {loops} {breaks} {room} {at} {line} line' line'' {all} {a} s eq) =
      subst (λ xs. ReadsStmt types end loops breaks room at xs (tree.assert line a) (line' ∷ [])) (sym eq) (read_assert types whole end loops breaks room at line line' line'' s)

  block_stmt : {types : Names} (whole : Whole types) (end : ℕ) {loops breaks : Bool} {room at : ℕ} {xs : List Token} {line last : ℕ} {ss : tree.Stmts} {own : List ℕ}
      → SpellsBlock types loops breaks room at xs line last ss own → (starts : List ℕ) (rest : List Token) → at + length (xs ++ rest) ≡ end
      → r.stmt types end room loops breaks starts (xs ++ rest) ≡ Some ((tree.block line ss, starts ++ line ∷ own), rest)
  block_stmt {types} whole end (g.between {loops} {breaks} {room} {at} {line} {end = last} {inside} {all} {body = ss} {starts = own} sss eq) starts rest place =
      (subst (λ xs. ReadsBlock types end loops breaks room at line xs ss own) (sym eq) (read_block types end loops breaks room at line last inside ss own (stmts_complete whole end sss)) starts rest place).0

  body_complete : {types : Names} (whole : Whole types) (end : ℕ) {loops breaks : Bool} {room at : ℕ} {xs : List Token} {a : tree.Stmt} {own : List ℕ}
      → SpellsBody types loops breaks (suc room) at xs a own → ReadsBody types end loops breaks room at xs a own
  body_complete {types} whole end (g.braces (g.between {loops} {breaks} {room} {at} {line} {end = last} {inside} {all} {body = ss} {starts = own} sss eq)) =
      λ starts rest place taken.
      (subst (λ xs. ReadsBlock types end loops breaks room at line xs ss own) (sym eq) (read_block types end loops breaks room at line last inside ss own (stmts_complete whole end sss)) starts rest place).1
  body_complete {types} whole end (g.plain {loops} {breaks} {room} {at} h s) = read_plain types end loops breaks room at h s (stmt_complete whole end s)

  stmts_complete : {types : Names} (whole : Whole types) (end : ℕ) {loops breaks : Bool} {room at : ℕ} {xs : List Token} {ss : tree.Stmts} {own : List ℕ}
      → SpellsStmts types loops breaks room at xs ss own → ReadsList (r.item types room false (r.stmt types end room loops breaks)) end at xs ss own
  stmts_complete {types} whole end (g.no_stmts {loops} {breaks} {room} {at}) = no_items (r.item types room false (r.stmt types end room loops breaks)) end at
  stmts_complete {types} whole end (g.stmt {loops} {breaks} {room} {at} {first} {rest = others} {all} {a} {body = ss} {starts = own} {starts' = own'} s sss eq) =
      let one = r.item types room false (r.stmt types end room loops breaks) in
      subst (λ xs. ReadsList one end at xs (tree.more a ss) (own ++ own')) (sym eq)
      (more_items one end at first others a ss own own' (λ rest. (stmt_goes s rest).no_brace) (stmt_some s) (stmts_no_else whole sss)
      (stmt_item types whole end loops breaks room at s (stmt_complete whole end s)) (stmts_complete whole end sss))
  stmts_complete {types} whole end (g.variables {loops} {breaks} {room} {at} {first} {rest = others} {all} {vs} {body = ss} {starts = own} s sss eq) =
      let one = r.item types room false (r.stmt types end room loops breaks) in
      subst (λ xs. ReadsList one end at xs (tree.more (tree.locals (first_line first) vs) ss) (first_line first ∷ own)) (sym eq)
      (more_items one end at first others (tree.locals (first_line first) vs) ss (first_line first ∷ []) own
      (λ rest. no_brace_at types whole (first ++ rest) (whole.variables_start room first vs s rest)) (variables_some s) (stmts_no_else whole sss)
      (local_item types whole end room at (r.stmt types end room loops breaks) s) (stmts_complete whole end sss))

  cases_complete : {types : Names} (whole : Whole types) (end : ℕ) {loops : Bool} {room at : ℕ} {xs : List Token} {ss : tree.Stmts} {own : List ℕ}
      → SpellsCases types loops room at xs ss own → ReadsList (r.item types room true (r.stmt types end room loops true)) end at xs ss own
  cases_complete {types} whole end (g.no_cases {loops} {room} {at}) = no_items (r.item types room true (r.stmt types end room loops true)) end at
  cases_complete {types} whole end (g.case_of {loops} {room} {at} {line} line' {value} {rest = others} {all} {a} {body = ss} {starts = own} s sss eq) =
      let one = r.item types room true (r.stmt types end room loops true) in
      let colon = punct p.Colon line' in
      let first = word w.Case line ∷ (value ++ colon ∷ []) in
      let place : at + length value + 2 ≡ at + length first = omega (arith, length-append value (colon ∷ [])) in
      let same : all ≡ first ++ others = eq ∙ ap (λ l. word w.Case line ∷ l) (sym (append_assoc value (colon ∷ []) others)) in
      subst (λ xs. ReadsList one end at xs (tree.more (tree.case_of line a) ss) own) (sym same)
      (more_items one end at first others (tree.case_of line a) ss [] own (λ rest. refl) (omega arith) (cases_no_else sss)
      (case_item types whole end room at line line' (r.stmt types end room loops true) s) (subst (λ at. ReadsList one end at others ss own) place (cases_complete whole end sss)))
  cases_complete {types} whole end (g.default {loops} {room} {at} {line} line' {rest = others} {body = ss} {starts = own} sss) =
      let one = r.item types room true (r.stmt types end room loops true) in
      more_items one end at (word w.Default line ∷ punct p.Colon line' ∷ []) others (tree.default line) ss [] own (λ rest. refl) (omega arith) (cases_no_else sss)
      (default_item types end room at line line' (r.stmt types end room loops true)) (cases_complete whole end sss)
  cases_complete {types} whole end (g.behind {loops} {room} {at} {first} {rest = others} {all} {a} {body = ss} {starts = own} {starts' = own'} s sss eq) =
      let one = r.item types room true (r.stmt types end room loops true) in
      subst (λ xs. ReadsList one end at xs (tree.more a ss) (own ++ own')) (sym eq)
      (more_items one end at first others a ss own own' (λ rest. (stmt_goes s rest).no_brace) (stmt_some s) (cases_no_else sss)
      (stmt_behind types end loops room at s (stmt_complete whole end s)) (cases_complete whole end sss))

-- ---- the body of a function

from_block : (types : Names) → Whole types → (end at room : ℕ) (xs : List Token) (line last : ℕ) (ss : tree.Stmts) (own : List ℕ) → room ≡ 200 → SpellsBlock types false false room at xs line last ss own
    → (rest : List Token) → at + length (xs ++ rest) ≡ end → r.block_at types end (xs ++ rest) ≡ Some (record { stmts = ss; line = line; end = last; starts = own }, rest)
unfolding r.block_at
from_block types whole end at room xs line last ss own full (g.between {room = less} {inside} sss eq) rest place =
    let close' = punct p.CloseBrace last in
    let same : less ≡ MOST_WITHIN = omega (arith, full) in
    let all = inside ++ close' ∷ rest in
    let regrouped : xs ++ rest ≡ punct p.OpenBrace line ∷ all = ap (λ l. l ++ rest) eq ∙ ap (λ l. punct p.OpenBrace line ∷ l) (append_assoc inside (close' ∷ []) rest) in
    let reads = subst (λ room. ReadsList (r.item types room false (r.stmt types end room false false)) end (suc at) inside ss own) same (stmts_complete whole end sss) in
    let long = ap length regrouped in
    ap (r.block_at types end) regrouped
    ∙ ap (λ o. o >>= λ b. Some (r.body_of line b.0, b.1)) (reads last rest (length all) [] (omega (arith, place, long)) (omega (arith, length-append inside (close' ∷ rest))))

pub block_complete : (types : Names) → Whole types → (end at : ℕ) (xs : List Token) (b : Body) → SpellsBlock types false false 200 at xs b.line b.end b.stmts b.starts
    → (rest : List Token) → at + length (xs ++ rest) ≡ end → r.block_at types end (xs ++ rest) ≡ Some (b, rest)
block_complete types whole end at xs b s rest place = from_block types whole end at DEEPEST xs b.line b.end b.stmts b.starts refl s rest place
