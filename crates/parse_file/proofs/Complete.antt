-- What is spelled is read: declarations, for every rest, and lists of them.
use Rattle.std.proofs.Common.{◌≡◌, ℕ, zero, suc, ◌+◌, ◌≤◌, ◌<◌, Bool, true, false, cond, List, [], ◌∷◌, ◌++◌, length, map, Option, Some, None, refl, sym, ap, ◌∙◌, subst, arith, append_assoc, append-nil, length-append}
use Rattle.c_syntax.specs.declared.token.Token.{Token}
use Rattle.c_syntax.specs.declared.token.Punct.TheVariants as p
use Rattle.c_syntax.specs.declared.token.Word.TheVariants as w
use Rattle.c_syntax.specs.Expr as e
use Rattle.c_syntax.specs.Stmt as s
use Rattle.c_syntax.specs.Contract.{Contract}
use Rattle.c_syntax.specs.Decl as d
use Rattle.c_grammar.specs.Tokens.{Names, is_type, punct, word, name, annot_open, annot_close, first_line}
use Rattle.c_grammar.specs.Lists.{Separated, Repeated}
use Rattle.c_grammar.specs.Types.{SpellsType, SpellsStars}
use Rattle.c_grammar.specs.Annots.{contract_of, SpellsLogic}
use Rattle.c_grammar.specs.Declarators.{SpellsDeclarator, SpellsInitialised, SpellsVariables}
use Rattle.c_grammar.specs.Stmts.{SpellsBlock}
use Rattle.c_grammar.specs.Decls.{SpellsParams, SpellsFields, SpellsEnumerators, SpellsLinkage, SpellsContractAt, SpellsEnd, SpellsFunction, SpellsDecl, SpellsDecls, Lines}
use Rattle.c_grammar.specs.Reading.{punct_at}
use Rattle.c_grammar.proofs.Readers.{got}
use Rattle.c_grammar.specs.declared.limits.TheConstants.{DEEPEST, MOST_WITHIN}
use Rattle.parse_types.specs.Read.{ends_stars}
use Rattle.parse_types.proofs.Laws.{type_complete, stars_complete, type_starts}
use Rattle.parse_decls.specs.Read.{declarator_at, variables_after, params_at, fields_at}
use Rattle.parse_decls.proofs.Laws.{declarator_complete, variables_after_complete, params_complete, fields_complete, enumerators_complete, linkage_complete, close_is_next, brace_is_next}
use Rattle.parse_file.specs.declared.forms.Form.{Form}
use Rattle.parse_file.specs.declared.forms.Form.TheVariants as form
use Rattle.parse_file.specs.Read as r
use Rattle.parse_file.specs.Read.{Header, Ending, Found, Front}
use Rattle.parse_file.proofs.Parts.{Parts}
use Rattle.parse_file.proofs.FirstTokens.{Named, named_end_type, named_open, declarator_named, variables_named, plain_form, definitions_begin, contract_begins, annotated_form, typedef_form, struct_form, enum_form, enum_alone_form}

-- the tokens begin with a declaration that is read
abbrev pub ReadsDecl : Names → (end : ℕ) → List Token → List d.Decl → (after : Names) → List Lines → List Token → Type 0
ReadsDecl types end ts ds after ls rest = (names : Names) × (after ≡ types ++ names) × (r.decl_at types end ts ≡ Some (record { decls = ds; names = names; lines = ls }, rest))

no_names : (types : Names) (end : ℕ) (ts : List Token) (ds : List d.Decl) (ls : List Lines) (rest : List Token) → r.decl_at types end ts ≡ Some (record { decls = ds; names = []; lines = ls }, rest)
    → ReadsDecl types end ts ds types ls rest
no_names types end ts ds ls rest h = ([], sym (append-nil types), h)

by_form : (types : Names) (end : ℕ) (ts : List Token) (f : Form) → r.form_of ts ≡ f → r.decl_at types end ts ≡ r.decl_by f types end ts
unfolding r.decl_at
by_form types end ts f h = ap (λ f. r.decl_by f types end ts) h

-- ---- parts of declarations, before what ends them

declarator_reads : (types : Names) (room : ℕ) (t : e.CType) (xs : List Token) (v : e.VarDecl) → SpellsDeclarator types room t xs v → (line : ℕ) (rest : List Token)
    → declarator_at types room t (xs ++ punct p.Semicolon line ∷ rest) ≡ Some (v, punct p.Semicolon line ∷ rest)
declarator_reads types room t xs v s line rest = declarator_complete types room t xs v s (punct p.Semicolon line ∷ rest) refl

variables_read : (types : Names) (room : ℕ) (t : e.CType) (xs : List Token) (vs : List e.VarDecl) → Separated (SpellsInitialised types room t) xs vs → (line : ℕ) (rest : List Token)
    → variables_after types room t (xs ++ punct p.Semicolon line ∷ rest) ≡ Some (vs, rest)
variables_read types room t xs vs s line rest =
    let last : List Token = punct p.Semicolon line ∷ [] in
    ap (variables_after types room t) (sym (append_assoc xs last rest)) ∙ variables_after_complete types room t (xs ++ last) vs (xs, line, refl, s) rest

params_read : (types : Names) (room : ℕ) (xs : List Token) (vs : List (e.VarDecl × ℕ)) → SpellsParams types room xs vs → (line : ℕ) (rest : List Token)
    → params_at types room (xs ++ punct p.CloseParen line ∷ rest) ≡ Some (vs, punct p.CloseParen line ∷ rest)
params_read types room xs vs s line rest = params_complete types room xs vs s (punct p.CloseParen line ∷ rest) (close_is_next line rest)

fields_read : (types : Names) (room : ℕ) (xs : List Token) (vs : List e.VarDecl) → SpellsFields types room xs vs → (line : ℕ) (rest : List Token)
    → fields_at types room (xs ++ punct p.CloseBrace line ∷ rest) ≡ Some (vs, punct p.CloseBrace line ∷ rest)
fields_read types room xs vs s line rest = fields_complete types room xs vs s (punct p.CloseBrace line ∷ rest) (brace_is_next line rest)

-- ---- declarations by their first words

definitions_complete : Parts → (types : Names) (end line line' : ℕ) (inside : List Token) (x : d.LogicDecl) (xs : List d.LogicDecl) → Repeated (SpellsLogic types) inside (x ∷ xs) → (rest : List Token)
    → r.decl_at types end (annot_open line ∷ (inside ++ annot_close line' ∷ rest)) ≡ Some (record { decls = map d.logic_decl (x ∷ xs); names = []; lines = [] }, rest)
unfolding r.definitions_at
definitions_complete parts types end line line' inside x xs s rest =
    let close : List Token = annot_close line' ∷ rest in
    let formed : r.form_of (annot_open line ∷ (inside ++ close)) ≡ form.Definitions = annotated_form line (inside ++ close) true (definitions_begin s close) in
    by_form types end (annot_open line ∷ (inside ++ close)) form.Definitions formed ∙ rw (parts.logics types inside x xs s line' rest) refl

struct_complete : Parts → (types : Names) (end line line' line'' line''' line'''' : ℕ) (x : List ℕ) (inside : List Token) (vs : List e.VarDecl) → is_type types x ≡ false → SpellsFields types MOST_WITHIN inside vs → (rest : List Token)
    → r.decl_at types end (word w.Struct line ∷ name x line' ∷ punct p.OpenBrace line'' ∷ (inside ++ punct p.CloseBrace line''' ∷ punct p.Semicolon line'''' ∷ rest))
    ≡ Some (r.alone (d.struct_decl (record { name = x; fields = vs; line = line' })), rest)
unfolding r.struct_at
struct_complete parts types end line line' line'' line''' line'''' x inside vs is_new s rest =
    let after : List Token = inside ++ punct p.CloseBrace line''' ∷ punct p.Semicolon line'''' ∷ rest in
    by_form types end (word w.Struct line ∷ name x line' ∷ punct p.OpenBrace line'' ∷ after) form.Struct (struct_form line line' line'' x after)
    ∙ rw (is_new, fields_read types MOST_WITHIN inside vs s line''' (punct p.Semicolon line'''' ∷ rest)) refl

enumerators_begin : {types : Names} {room : ℕ} {xs : List Token} {vs : List e.VarDecl} → SpellsEnumerators types room xs vs → (line : ℕ) × (more : List Token) × (xs ≡ punct p.OpenBrace line ∷ more)
enumerators_begin (SpellsEnumerators.enumerators line line' line'' s eq) = (line, _, eq)
enumerators_begin (SpellsEnumerators.trailing line line' line'' line''' s eq) = (line, _, eq)

enum_complete : Parts → (types : Names) (end line line' : ℕ) (x : List ℕ) (inside : List Token) (vs : List e.VarDecl) → is_type types x ≡ false → SpellsEnumerators types DEEPEST inside vs → (rest : List Token)
    → r.decl_at types end (word w.Enum line ∷ name x line' ∷ inside ++ rest) ≡ Some (r.alone (d.enum_decl (record { name = Some x; items = vs; line = line' })), rest)
unfolding r.enum_at
enum_complete parts types end line line' x inside vs is_new s rest =
    let begin = enumerators_begin s in
    let formed : r.form_of (word w.Enum line ∷ name x line' ∷ inside ++ rest) ≡ form.Enum =
    ap (λ l. r.form_of (word w.Enum line ∷ name x line' ∷ l ++ rest)) begin.2 ∙ enum_form line line' begin.0 x (begin.1 ++ rest) in
    by_form types end (word w.Enum line ∷ name x line' ∷ inside ++ rest) form.Enum formed ∙ rw (is_new, enumerators_complete types DEEPEST inside vs s rest) refl

enum_by_brace : (types : Names) (line line' : ℕ) (more rest : List Token) → r.enum_by types line (punct p.OpenBrace line' ∷ more) (punct_at p.OpenBrace (punct p.OpenBrace line' ∷ more)) ≡ r.enum_by types line (punct p.OpenBrace line' ∷ more) (Some (line', more))
enum_by_brace types line line' more rest = refl

enum_alone_complete : Parts → (types : Names) (end line : ℕ) (inside : List Token) (vs : List e.VarDecl) → SpellsEnumerators types DEEPEST inside vs → (rest : List Token)
    → r.decl_at types end (word w.Enum line ∷ inside ++ rest) ≡ Some (r.alone (d.enum_decl (record { name = None; items = vs; line = line })), rest)
unfolding r.enum_at
enum_alone_complete parts types end line inside vs s rest =
    let begin = enumerators_begin s in
    let formed : r.form_of (word w.Enum line ∷ inside ++ rest) ≡ form.Enum =
    ap (λ l. r.form_of (word w.Enum line ∷ l ++ rest)) begin.2 ∙ enum_alone_form line begin.0 (begin.1 ++ rest) in
    let brace : punct_at p.OpenBrace (inside ++ rest) ≡ Some (begin.0, begin.1 ++ rest) = ap (λ l. punct_at p.OpenBrace (l ++ rest)) begin.2 in
    by_form types end (word w.Enum line ∷ inside ++ rest) form.Enum formed
    ∙ ap (r.enum_by types line (inside ++ rest)) brace ∙ rw (enumerators_complete types DEEPEST inside vs s rest) refl

typedef_complete : Parts → (types : Names) (end line line' : ℕ) (first second : List Token) (t : e.CType) (v : e.VarDecl) → SpellsType types first t → SpellsDeclarator types DEEPEST t second v → (rest : List Token)
    → r.decl_at types end (word w.Typedef line ∷ (first ++ (second ++ punct p.Semicolon line' ∷ rest))) ≡ Some (record { decls = d.typedef_decl v ∷ []; names = v.name ∷ []; lines = [] }, rest)
unfolding r.typedef_at
typedef_complete parts types end line line' first second t v s s' rest =
    let last : List Token = punct p.Semicolon line' ∷ rest in
    let ends = named_end_type (second ++ last) false (declarator_named s' last refl) in
    by_form types end (word w.Typedef line ∷ (first ++ (second ++ last))) form.Typedef (typedef_form line (first ++ (second ++ last)))
    ∙ rw (type_complete types first t s (second ++ last) ends, declarator_reads types DEEPEST t second v s' line' rest) refl

-- ---- functions and variables, behind their first type

plain_reads : Parts → (types : Names) (end : ℕ) (one two rest : List Token) (t : e.CType) (is_function : Bool) → SpellsLinkage one → SpellsType types two t → Named rest is_function
    → r.decl_at types end (one ++ (two ++ rest))
    ≡ cond is_function (r.function_at types end (first_line (one ++ (two ++ rest))) (contract_of [] [] []) t rest) (r.globals_at types t rest)
unfolding r.plain_at
plain_reads parts types end one two rest t is_function l s n =
    let starts = type_starts types two t s rest in
    let read = type_complete types two t s rest (named_end_type rest is_function n) in
    by_form types end (one ++ (two ++ rest)) form.Plain (plain_form l s n starts)
    ∙ rw (linkage_complete types one l (two ++ rest) starts, read, named_open rest is_function n) refl

globals_complete : Parts → (types : Names) (end line : ℕ) (one two three : List Token) (t : e.CType) (vs : List e.VarDecl) → SpellsLinkage one → SpellsType types two t
    → Separated (SpellsInitialised types DEEPEST t) three vs → (rest : List Token)
    → r.decl_at types end (one ++ (two ++ (three ++ punct p.Semicolon line ∷ rest))) ≡ Some (r.alone (d.globals vs), rest)
unfolding r.globals_at
globals_complete parts types end line one two three t vs l s s' rest =
    let last : List Token = punct p.Semicolon line ∷ rest in
    plain_reads parts types end one two (three ++ last) t false l s (variables_named s' last refl) ∙ rw (variables_read types DEEPEST t three vs s' line rest) refl

header_complete : Parts → (types : Names) (t t' : e.CType) (x : List ℕ) (line line' line'' : ℕ) (stars inside : List Token) (vs : List (e.VarDecl × ℕ)) → SpellsStars false stars t t' → is_type types x ≡ false
    → SpellsParams types MOST_WITHIN inside vs → (rest : List Token)
    → r.header_at types t (stars ++ name x line ∷ punct p.OpenParen line' ∷ (inside ++ punct p.CloseParen line'' ∷ rest)) ≡ Some (record { name = x; result = t'; params = vs; line = line }, rest)
unfolding r.header_at ends_stars
header_complete parts types t t' x line line' line'' stars inside vs s is_new s' rest =
    let after : List Token = name x line ∷ punct p.OpenParen line' ∷ (inside ++ punct p.CloseParen line'' ∷ rest) in
    rw (stars_complete false stars t t' s after refl, is_new, params_read types MOST_WITHIN inside vs s' line'' rest) refl

block_begins : {types : Names} {room at line end : ℕ} {xs : List Token} {body : s.Stmts} {starts : List ℕ} → SpellsBlock types false false room at xs line end body starts → (rest : List Token)
    → punct_at p.Semicolon (xs ++ rest) ≡ None
block_begins (SpellsBlock.between s eq) rest = ap (λ l. punct_at p.Semicolon (l ++ rest)) eq

ending_complete : Parts → {types : Names} {at last_line : ℕ} {last : List Token} {body : Option s.Stmt} {starts : List ℕ} → SpellsEnd types at last body last_line starts → (end : ℕ) (rest : List Token)
    → at + length (last ++ rest) ≡ end → r.ending_at types end (last ++ rest) ≡ Some (record { body = body; end = last_line; starts = starts }, rest)
unfolding r.ending_at
ending_complete parts SpellsEnd.prototype end rest place = refl
ending_complete parts {types} {at} {last_line} {last} (SpellsEnd.body {line} {body} {starts} s) end rest place =
    rw (block_begins s rest, parts.block types at end last line last_line body starts s rest place) refl

function_reads : Parts → (types : Names) (end first : ℕ) (c : Contract) (t : e.CType) (tail between : List Token) (h : Header) (b : Ending) (rest : List Token)
    → r.header_at types t tail ≡ Some (h, between) → r.ending_at types end between ≡ Some (b, rest)
    → r.function_at types end first c t tail ≡ Some (r.function_found first c h b, rest)
unfolding r.function_at
function_reads parts types end first c t tail between h b rest head ending = rw (head, ending) refl

-- what stands before a function
before_function : Parts → (types : Names) (at end : ℕ) (first one two tail : List Token) (c : Contract) (t : e.CType) → SpellsContractAt types at first c → SpellsLinkage one → SpellsType types two t → Named tail true
    → at + length (first ++ (one ++ (two ++ tail))) ≡ end
    → r.decl_at types end (first ++ (one ++ (two ++ tail))) ≡ r.function_at types end (first_line (first ++ (one ++ (two ++ tail)))) c t tail
unfolding r.contracted_at r.contract_part
before_function parts types at end first one two tail c t (SpellsContractAt.none is) l s n place =
    plain_reads parts types end one two tail t true l s n ∙ ap (λ c. r.function_at types end (first_line (one ++ (two ++ tail))) c t tail) (sym is)
before_function parts types at end first one two tail c t (SpellsContractAt.annotated line line' {inside} s eq) l s' n place =
    let behind : List Token = one ++ (two ++ tail) in
    let close : List Token = annot_close line' ∷ behind in
    let ts : List Token = annot_open line ∷ (inside ++ close) in
    let whole : first ++ behind ≡ ts = ap (λ l. l ++ behind) eq ∙ simp append_assoc in
    let longer : length (first ++ behind) ≡ suc (length (inside ++ close)) = ap length whole in
    let placed : suc at + length (inside ++ close) ≡ end = omega arith in
    let starts = type_starts types two t s' tail in
    let formed : r.form_of ts ≡ form.Contracted = annotated_form line (inside ++ close) false (contract_begins s line' behind) in
    let contract = parts.contract types (suc at) end inside c s line' behind placed in
    let read = type_complete types two t s' tail (named_end_type tail true n) in
    let at_ts : r.decl_at types end ts ≡ r.function_at types end (first_line ts) c t tail =
    by_form types end ts form.Contracted formed ∙ rw (contract, linkage_complete types one l (two ++ tail) starts, read) refl in
    subst (λ ts. r.decl_at types end ts ≡ r.function_at types end (first_line ts) c t tail) (sym whole) at_ts

abbrev found_of : d.Function → Lines → Found
found_of f ls = record { decls = d.function f ∷ []; names = []; lines = ls ∷ [] }

same_line : (xs ys : List Token) → 0 < length xs → first_line (xs ++ ys) ≡ first_line xs
same_line [] ys h = absurd (omega arith)
same_line (x ∷ xs) ys h = refl

function_complete : Parts → {types : Names} {at : ℕ} {xs : List Token} {f : d.Function} {ls : Lines} → SpellsFunction types at xs f ls → (end : ℕ) (rest : List Token)
    → at + length (xs ++ rest) ≡ end → r.decl_at types end (xs ++ rest) ≡ got (found_of f ls) rest
function_complete parts {types} {at}
    (SpellsFunction.function {line} {end = last_line} line' line'' {x} {t} {t'} {c} {vs} {body} {starts} {first} {second} {third} {fourth} {inside} {last} {before} {all} {f} {ls}
    contract linkage spelled stars is_new spelled_params eq_before ending eq_all eq_f eq_ls) end rest place =
    let tail : List Token = fourth ++ name x line ∷ punct p.OpenParen line' ∷ (inside ++ punct p.CloseParen line'' ∷ (last ++ rest)) in
    let named : Named tail true = record { consts = false; base = t; result = t'; stars = fourth; starred = stars; x = x; line = line; more = punct p.OpenParen line' ∷ (inside ++ punct p.CloseParen line'' ∷ (last ++ rest)); split = refl; opens = refl } in
    let whole : all ++ rest ≡ first ++ (second ++ (third ++ tail)) = ap (λ l. l ++ rest) eq_all ∙ ap (λ l. (l ++ last) ++ rest) eq_before ∙ simp append_assoc in
    let lengths : length (all ++ rest) ≡ length before + length (last ++ rest) = ap (λ l. length (l ++ rest)) eq_all ∙ ap length (append_assoc before last rest) ∙ length-append before (last ++ rest) in
    let sizes : length before ≡ length first + (length second + (length third + (length fourth + suc (suc (length inside + 1))))) = ap length eq_before ∙ simp length-append in
    let all_size : length all ≡ length before + length last = ap length eq_all ∙ length-append before last in
    let some : 0 < length all = omega arith in
    let placed : at + length (first ++ (second ++ (third ++ tail))) ≡ end = ap (λ l. at + length l) (sym whole) ∙ place in
    let end_placed : (at + length before) + length (last ++ rest) ≡ end = omega arith in
    let h : Header = record { name = x; result = t'; params = vs; line = line } in
    let b : Ending = record { body = body; end = last_line; starts = starts } in
    let head : r.header_at types t tail ≡ Some (h, last ++ rest) = header_complete parts types t t' x line line' line'' fourth inside vs stars is_new spelled_params (last ++ rest) in
    let tailed : r.ending_at types end (last ++ rest) ≡ Some (b, rest) = ending_complete parts ending end rest end_placed in
    let begin : ℕ = first_line (first ++ (second ++ (third ++ tail))) in
    let begins : begin ≡ first_line all = ap first_line (sym whole) ∙ same_line all rest some in
    let lines : r.lines_of begin h b ≡ ls = ap (λ (first : ℕ). r.lines_of first h b) begins ∙ sym eq_ls in
    ap (r.decl_at types end) whole ∙ before_function parts types at end first second third tail c t contract linkage spelled named placed
    ∙ function_reads parts types end begin c t tail (last ++ rest) h b rest head tailed
    ∙ ap (λ ls. got (found_of (r.function_of c h b) ls) rest) lines
    ∙ ap (λ f. got (found_of f ls) rest) (sym eq_f)

-- ---- declarations

pub decl_complete : Parts → {types : Names} {at : ℕ} {xs : List Token} {ds : List d.Decl} {after : Names} {ls : List Lines} → SpellsDecl types at xs ds after ls → (end : ℕ) (rest : List Token)
    → at + length (xs ++ rest) ≡ end → ReadsDecl types end (xs ++ rest) ds after ls rest
decl_complete parts {types} (SpellsDecl.logic line line' {inside} {all} {x} {xs} {ds} s eq is) end rest place =
    let whole : all ++ rest ≡ annot_open line ∷ (inside ++ annot_close line' ∷ rest) = ap (λ l. l ++ rest) eq ∙ simp append_assoc in
    let read = ap (r.decl_at types end) whole ∙ definitions_complete parts types end line line' inside x xs s rest in
    no_names types end (all ++ rest) ds [] rest (subst (λ (ds : List d.Decl). r.decl_at types end (all ++ rest) ≡ got (record { decls = ds; names = []; lines = [] }) rest) (sym is) read)
decl_complete parts {types} (SpellsDecl.struct_of line line'' line''' line'''' {line'} {x} {inside} {all} {vs} is_new s eq) end rest place =
    let whole : all ++ rest ≡ word w.Struct line ∷ name x line' ∷ punct p.OpenBrace line'' ∷ (inside ++ punct p.CloseBrace line''' ∷ punct p.Semicolon line'''' ∷ rest) = ap (λ l. l ++ rest) eq ∙ simp append_assoc in
    no_names types end (all ++ rest) _ [] rest (ap (r.decl_at types end) whole ∙ struct_complete parts types end line line' line'' line''' line'''' x inside vs is_new s rest)
decl_complete parts {types} (SpellsDecl.enum_of line {line'} {x} {rest = inside} {vs} is_new s) end rest place =
    no_names types end (word w.Enum line ∷ name x line' ∷ inside ++ rest) _ [] rest (enum_complete parts types end line line' x inside vs is_new s rest)
decl_complete parts {types} (SpellsDecl.enum_alone {line} {rest = inside} {vs} s) end rest place =
    no_names types end (word w.Enum line ∷ inside ++ rest) _ [] rest (enum_alone_complete parts types end line inside vs s rest)
decl_complete parts {types} (SpellsDecl.typedef_of line line' {first} {second} {all} {t} {v} {after} s s' eq is) end rest place =
    let whole : all ++ rest ≡ word w.Typedef line ∷ (first ++ (second ++ punct p.Semicolon line' ∷ rest)) = ap (λ l. l ++ rest) eq ∙ simp append_assoc in
    (v.name ∷ [], is, ap (r.decl_at types end) whole ∙ typedef_complete parts types end line line' first second t v s s' rest)
decl_complete parts {types} (SpellsDecl.globals {first} {second} {all} {vs} linkage (SpellsVariables.variables line {first = two} {second = three} {t} s s' eq') eq) end rest place =
    let whole : all ++ rest ≡ first ++ (two ++ (three ++ punct p.Semicolon line ∷ rest)) = ap (λ l. l ++ rest) eq ∙ ap (λ l. (first ++ l) ++ rest) eq' ∙ simp append_assoc in
    no_names types end (all ++ rest) _ [] rest (ap (r.decl_at types end) whole ∙ globals_complete parts types end line first two three t vs linkage s s' rest)
decl_complete parts {types} {at} {xs} (SpellsDecl.function s) end rest place = no_names types end (xs ++ rest) _ _ rest (function_complete parts s end rest place)

-- a declaration has a token
pub decl_some : {types : Names} {at : ℕ} {xs : List Token} {ds : List d.Decl} {after : Names} {ls : List Lines} → SpellsDecl types at xs ds after ls → 0 < length xs
decl_some (SpellsDecl.logic line line' s eq is) = let size = ap length eq in omega arith
decl_some (SpellsDecl.struct_of line line'' line''' line'''' is_new s eq) = let size = ap length eq in omega arith
decl_some (SpellsDecl.enum_of line is_new s) = omega arith
decl_some (SpellsDecl.enum_alone s) = omega arith
decl_some (SpellsDecl.typedef_of line line' s s' eq is) = let size = ap length eq in omega arith
decl_some (SpellsDecl.globals {first} {second} {all} linkage (SpellsVariables.variables line {first = two} {second = three} s s' eq') eq) =
    let outer : length all ≡ length first + length second = ap length eq ∙ length-append first second in
    let inner : length second ≡ length two + (length three + 1) = ap length eq' ∙ simp length-append in
    omega arith
decl_some (SpellsDecl.function (SpellsFunction.function line' line'' {first} {second} {third} {fourth} {inside} {last} {before} {all} contract linkage spelled stars is_new spelled_params eq_before ending eq_all eq_f eq_ls)) =
    let sizes : length before ≡ length first + (length second + (length third + (length fourth + suc (suc (length inside + 1))))) = ap length eq_before ∙ simp length-append in
    let all_size : length all ≡ length before + length last = ap length eq_all ∙ length-append before last in
    omega arith

-- ---- lists of declarations

front_goes : (end turns : ℕ) (types : Names) (ts : List Token) (x : Found) (rest : List Token) → r.decl_at types end ts ≡ Some (x, rest)
    → r.front_of end (suc turns) types ts ≡ r.before_front x (r.front_of end turns (types ++ x.names) rest)
unfolding r.front_of
front_goes end turns types ts x rest h = rw h refl

abbrev pub read_so : List d.Decl → List Lines → Found
read_so ds ls = record { decls = ds; names = []; lines = ls }

before_both : (ds ds' : List d.Decl) (names : Names) (ls ls' : List Lines) (g : Front)
    → r.before_front (record { decls = ds; names = names; lines = ls }) (r.before_front (read_so ds' ls') g) ≡ r.before_front (read_so (ds ++ ds') (ls ++ ls')) g
before_both ds ds' names ls ls' g =
    let apart : Front = r.before_front (record { decls = ds; names = names; lines = ls }) (r.before_front (read_so ds' ls') g) in
    let joined : r.before_front (read_so (ds ++ ds') (ls ++ ls')) g ≡ apart = (λ i. record { decls = append_assoc ds ds' g.decls i; names = g.names; lines = append_assoc ls ls' g.lines i; left = g.left }) in
    sym joined

-- the tokens begin with declarations that are read, and the reader goes on behind them
abbrev pub ReadsDecls : Names → (end turns : ℕ) → List Token → List d.Decl → (after : Names) → List Lines → List Token → Type 0
ReadsDecls types end turns ts ds after ls rest =
    (turns' : ℕ) × (length rest ≤ turns') × (r.front_of end turns types ts ≡ r.before_front (read_so ds ls) (r.front_of end turns' after rest))

more_complete : (types middle after : Names) (end turns : ℕ) (ts between rest : List Token) (ds ds' : List d.Decl) (ls ls' : List Lines)
    → ReadsDecl types end ts ds middle ls between → ReadsDecls middle end turns between ds' after ls' rest → ReadsDecls types end (suc turns) ts (ds ++ ds') after (ls ++ ls') rest
more_complete types middle after end turns ts between rest ds ds' ls ls' one more =
    let g = r.front_of end more.0 after rest in
    let x : Found = record { decls = ds; names = one.0; lines = ls } in (
      more.0,
      more.1,
      front_goes end turns types ts x between one.2 ∙ ap (λ names. r.before_front x (r.front_of end turns names between)) (sym one.1)
          ∙ ap (r.before_front x) more.2 ∙ before_both ds ds' one.0 ls ls' g,
    )

pub decls_complete : Parts → {types after : Names} {at : ℕ} {xs : List Token} {ds : List d.Decl} {ls : List Lines} → SpellsDecls types at xs ds after ls → (end turns : ℕ) (rest : List Token)
    → at + length (xs ++ rest) ≡ end → length (xs ++ rest) ≤ turns → ReadsDecls types end turns (xs ++ rest) ds after ls rest
decls_complete parts SpellsDecls.none end turns rest place le = (turns, le, refl)
decls_complete parts {types} {after} {at} (SpellsDecls.more {middle} {first} {rest = others} {all} {ds} {ds'} {all_ds} {ls} {ls'} s others_spelled eq eq_ds eq_ls) end zero rest place le =
    let size : length (all ++ rest) ≡ length first + length others + length rest = ap (λ l. length (l ++ rest)) eq ∙ simp length-append in
    let some = decl_some s in
    absurd (omega arith)
decls_complete parts {types} {after} {at} (SpellsDecls.more {middle} {first} {rest = others} {all} {ds} {ds'} {all_ds} {ls} {ls'} s others_spelled eq eq_ds eq_ls) end (suc turns) rest place le =
    let whole : all ++ rest ≡ first ++ (others ++ rest) = ap (λ l. l ++ rest) eq ∙ append_assoc first others rest in
    let size : length (all ++ rest) ≡ length first + length (others ++ rest) = ap length whole ∙ length-append first (others ++ rest) in
    let some = decl_some s in
    let placed : at + length (first ++ (others ++ rest)) ≡ end = ap (λ l. at + length l) (sym whole) ∙ place in
    let later : (at + length first) + length (others ++ rest) ≡ end = omega arith in
    let fewer : length (others ++ rest) ≤ turns = omega arith in
    let one = decl_complete parts s end (others ++ rest) placed in
    let two = decls_complete parts others_spelled end turns rest later fewer in
    let both = more_complete types middle after end turns (first ++ (others ++ rest)) (others ++ rest) rest ds ds' ls ls' one two in
    let on_all = subst (λ l. ReadsDecls types end (suc turns) l (ds ++ ds') after (ls ++ ls') rest) (sym whole) both in
    let with_decls = subst (λ ds. ReadsDecls types end (suc turns) (all ++ rest) ds after (ls ++ ls') rest) (sym eq_ds) on_all in
    subst (λ (ls : List Lines). ReadsDecls types end (suc turns) (all ++ rest) all_ds after ls rest) (sym eq_ls) with_decls
