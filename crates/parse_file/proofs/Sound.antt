-- What the readers of declarations and files read is spelled so.
use Rattle.std.proofs.Common.{◌≡◌, ℕ, zero, suc, ◌+◌, ◌-◌, ◌≤◌, ◌<◌, Bool, true, false, cond, List, [], ◌∷◌, ◌++◌, length, map, Option, Some, None, refl, sym, ap, ◌∙◌, subst, arith, append_assoc, append-nil, length-append}
use Rattle.c_syntax.specs.declared.token.Token.{Token}
use Rattle.c_syntax.specs.declared.token.Punct.TheVariants as p
use Rattle.c_syntax.specs.declared.token.Word.TheVariants as w
use Rattle.c_syntax.specs.Expr as e
use Rattle.c_syntax.specs.Stmt as s
use Rattle.c_syntax.specs.Contract.{Contract}
use Rattle.c_syntax.specs.Decl as d
use Rattle.c_grammar.specs.Tokens.{Names, is_type, punct, word, name, annot_open, annot_close, first_line}
use Rattle.c_grammar.specs.Types.{SpellsType, SpellsStars}
use Rattle.c_grammar.specs.Annots.{contract_of, SpellsContract}
use Rattle.c_grammar.specs.Declarators.{SpellsVariables}
use Rattle.c_grammar.specs.Decls.{SpellsParams, SpellsLinkage, SpellsContractAt, SpellsEnd, SpellsFunction, SpellsDecl, SpellsDecls, Lines}
use Rattle.c_grammar.specs.Reading.{punct_at, word_at, new_name_at, annot_open_at, annot_close_at}
use Rattle.c_grammar.proofs.Readers.{Took, Sound, bind_ok, got, pair_is}
use Rattle.c_grammar.specs.declared.limits.TheConstants.{DEEPEST, MOST_WITHIN}
use Rattle.c_grammar.proofs.SingleTokens.{punct_is, word_is, new_name_is, open_is, close_is}
use Rattle.parse_types.specs.Read.{type_at, stars_at}
use Rattle.parse_types.proofs.Laws.{type_sound, stars_sound}
use Rattle.parse_decls.specs.Read.{declarator_at, variables_after, params_at, fields_at, enumerators_at, linkage_at}
use Rattle.parse_decls.proofs.Laws.{declarator_sound, variables_after_sound, params_sound, fields_sound, enumerators_sound, linkage_sound}
use Rattle.acsl_parser.specs.Read.{contract_at, logics_at}
use Rattle.acsl_parser.proofs.Laws.{contract_sound, logics_sound}
use Rattle.parse_stmts.specs.Read.{block_at}
use Rattle.parse_stmts.proofs.Laws.{block_sound}
use Rattle.parse_file.specs.declared.forms.Form.{Form}
use Rattle.parse_file.specs.declared.forms.Form.TheVariants as form
use Rattle.parse_file.specs.Read as r
use Rattle.parse_file.specs.Read.{Header, Ending, Found, Front}

-- ---- joining parts

-- the tokens of a list behind others, and of a token behind others
behind : (xs : List Token) (ts a b : List Token) → ts ≡ xs ++ a → a ≡ b → ts ≡ xs ++ b
behind xs ts a b h g = h ∙ ap (λ l. xs ++ l) g

next : (t : Token) (ts a b : List Token) → ts ≡ t ∷ a → a ≡ b → ts ≡ t ∷ b
next t ts a b h g = h ∙ ap (λ l. t ∷ l) g

-- the tokens spell what was found
abbrev pub Spelled : Names → (at : ℕ) → List Token → Found → Type 0
Spelled types at xs x = SpellsDecl types at xs x.decls (types ++ x.names) x.lines

-- no typedef name is new
same_names : (types : Names) (at : ℕ) (xs : List Token) (ds : List d.Decl) (ls : List Lines) → SpellsDecl types at xs ds types ls
    → Spelled types at xs (record { decls = ds; names = []; lines = ls })
same_names types at xs ds ls h = subst (λ after. SpellsDecl types at xs ds after ls) (sym (append-nil types)) h

finish : (types : Names) (at : ℕ) (x y : Found) (ts xs left rest : List Token) → got x left ≡ got y rest → ts ≡ xs ++ left → Spelled types at xs x
    → Took (Spelled types at) ts y rest
finish types at x y ts xs left rest h split spelled =
    let same = pair_is x y left rest h in
    (xs, split ∙ ap (λ l. xs ++ l) same.1, subst (Spelled types at xs) same.0 spelled)

-- ---- declarations by their first words

definitions_sound : (types : Names) (at : ℕ) → Sound (Spelled types at) (r.definitions_at types)
unfolding r.definitions_at
definitions_sound types at ts x rest h =
    let a = bind_ok (annot_open_at ts) _ (x, rest) h in
    let ds = bind_ok (logics_at types a.0.1) _ (x, rest) a.2 in
    let b = bind_ok (annot_close_at ds.0.1) _ (x, rest) ds.2 in
    let inside = logics_sound types a.0.1 ds.0.0 ds.0.1 ds.1 in
    let opening = annot_open a.0.0 in
    let close = annot_close b.0.0 in
    let made : Found = record { decls = map d.logic_decl ds.0.0; names = []; lines = [] } in
    let all : List Token = opening ∷ (inside.0 ++ close ∷ []) in
    let split : ts ≡ opening ∷ (inside.0 ++ close ∷ b.0.1) =
    next opening ts a.0.1 (inside.0 ++ close ∷ b.0.1) (open_is ts a.0.0 a.0.1 a.1)
    (behind inside.0 a.0.1 ds.0.1 (close ∷ b.0.1) inside.1 (close_is ds.0.1 b.0.0 b.0.1 b.1)) in
    let grouped : opening ∷ (inside.0 ++ close ∷ b.0.1) ≡ all ++ b.0.1 = simp append_assoc in
    finish types at made x ts all b.0.1 rest b.2 (split ∙ grouped)
    (same_names types at all made.decls [] (SpellsDecl.logic a.0.0 b.0.0 inside.2.spelled refl (ap (map d.logic_decl) inside.2.are)))

typedef_sound : (types : Names) (at : ℕ) → Sound (Spelled types at) (r.typedef_at types)
unfolding r.typedef_at
typedef_sound types at ts x rest h =
    let a = bind_ok (word_at w.Typedef ts) _ (x, rest) h in
    let t = bind_ok (type_at types a.0.1) _ (x, rest) a.2 in
    let v = bind_ok (declarator_at types DEEPEST t.0.0 t.0.1) _ (x, rest) t.2 in
    let b = bind_ok (punct_at p.Semicolon v.0.1) _ (x, rest) v.2 in
    let one = type_sound types a.0.1 t.0.0 t.0.1 t.1 in
    let two = declarator_sound types DEEPEST t.0.0 t.0.1 v.0.0 v.0.1 v.1 in
    let begin = word w.Typedef a.0.0 in
    let last = punct p.Semicolon b.0.0 in
    let made : Found = record { decls = d.typedef_decl v.0.0 ∷ []; names = v.0.0.name ∷ []; lines = [] } in
    let all : List Token = begin ∷ (one.0 ++ (two.0 ++ last ∷ [])) in
    let split : ts ≡ begin ∷ (one.0 ++ (two.0 ++ last ∷ b.0.1)) =
    next begin ts a.0.1 (one.0 ++ (two.0 ++ last ∷ b.0.1)) (word_is w.Typedef ts a.0.0 a.0.1 a.1)
    (behind one.0 a.0.1 t.0.1 (two.0 ++ last ∷ b.0.1) one.1 (behind two.0 t.0.1 v.0.1 (last ∷ b.0.1) two.1 (punct_is p.Semicolon v.0.1 b.0.0 b.0.1 b.1))) in
    let grouped : begin ∷ (one.0 ++ (two.0 ++ last ∷ b.0.1)) ≡ all ++ b.0.1 = simp append_assoc in
    finish types at made x ts all b.0.1 rest b.2 (split ∙ grouped) (SpellsDecl.typedef_of a.0.0 b.0.0 one.2 two.2 refl refl)

struct_sound : (types : Names) (at : ℕ) → Sound (Spelled types at) (r.struct_at types)
unfolding r.struct_at
struct_sound types at ts x rest h =
    let a = bind_ok (word_at w.Struct ts) _ (x, rest) h in
    let n = bind_ok (new_name_at types a.0.1) _ (x, rest) a.2 in
    let b = bind_ok (punct_at p.OpenBrace n.0.1) _ (x, rest) n.2 in
    let vs = bind_ok (fields_at types MOST_WITHIN b.0.1) _ (x, rest) b.2 in
    let c = bind_ok (punct_at p.CloseBrace vs.0.1) _ (x, rest) vs.2 in
    let f = bind_ok (punct_at p.Semicolon c.0.1) _ (x, rest) c.2 in
    let named = new_name_is types a.0.1 n.0.0 n.0.1 n.1 in
    let inside = fields_sound types MOST_WITHIN b.0.1 vs.0.0 vs.0.1 vs.1 in
    let begin = word w.Struct a.0.0 in
    let called = name n.0.0.0 n.0.0.1 in
    let opening = punct p.OpenBrace b.0.0 in
    let close = punct p.CloseBrace c.0.0 in
    let last = punct p.Semicolon f.0.0 in
    let made : Found = r.alone (d.struct_decl (record { name = n.0.0.0; fields = vs.0.0; line = n.0.0.1 })) in
    let all : List Token = begin ∷ called ∷ opening ∷ (inside.0 ++ close ∷ last ∷ []) in
    let split : ts ≡ begin ∷ called ∷ opening ∷ (inside.0 ++ close ∷ last ∷ f.0.1) =
    next begin ts a.0.1 (called ∷ opening ∷ (inside.0 ++ close ∷ last ∷ f.0.1)) (word_is w.Struct ts a.0.0 a.0.1 a.1)
    (next called a.0.1 n.0.1 (opening ∷ (inside.0 ++ close ∷ last ∷ f.0.1)) named.0
    (next opening n.0.1 b.0.1 (inside.0 ++ close ∷ last ∷ f.0.1) (punct_is p.OpenBrace n.0.1 b.0.0 b.0.1 b.1)
    (behind inside.0 b.0.1 vs.0.1 (close ∷ last ∷ f.0.1) inside.1
    (next close vs.0.1 c.0.1 (last ∷ f.0.1) (punct_is p.CloseBrace vs.0.1 c.0.0 c.0.1 c.1) (punct_is p.Semicolon c.0.1 f.0.0 f.0.1 f.1))))) in
    let grouped : begin ∷ called ∷ opening ∷ (inside.0 ++ close ∷ last ∷ f.0.1) ≡ all ++ f.0.1 = simp append_assoc in
    finish types at made x ts all f.0.1 rest f.2 (split ∙ grouped)
    (same_names types at all made.decls [] (SpellsDecl.struct_of a.0.0 b.0.0 c.0.0 f.0.0 named.1 inside.2 refl))

enum_alone : (types : Names) (at line : ℕ) (ts : List Token) (brace : ℕ × List Token) (x : Found) (rest : List Token) → r.enum_by types line ts (Some brace) ≡ Some (x, rest)
    → Took (Spelled types at) (word w.Enum line ∷ ts) x rest
enum_alone types at line ts brace x rest h =
    let vs = bind_ok (enumerators_at types DEEPEST ts) _ (x, rest) h in
    let inside = enumerators_sound types DEEPEST ts vs.0.0 vs.0.1 vs.1 in
    let made : Found = r.alone (d.enum_decl (record { name = None; items = vs.0.0; line = line })) in
    finish types at made x (word w.Enum line ∷ ts) (word w.Enum line ∷ inside.0) vs.0.1 rest vs.2 (ap (λ l. word w.Enum line ∷ l) inside.1)
    (same_names types at (word w.Enum line ∷ inside.0) made.decls [] (SpellsDecl.enum_alone inside.2))

enum_named : (types : Names) (at line : ℕ) (ts : List Token) (x : Found) (rest : List Token) → r.enum_by types line ts None ≡ Some (x, rest)
    → Took (Spelled types at) (word w.Enum line ∷ ts) x rest
enum_named types at line ts x rest h =
    let n = bind_ok (new_name_at types ts) _ (x, rest) h in
    let vs = bind_ok (enumerators_at types DEEPEST n.0.1) _ (x, rest) n.2 in
    let named = new_name_is types ts n.0.0 n.0.1 n.1 in
    let inside = enumerators_sound types DEEPEST n.0.1 vs.0.0 vs.0.1 vs.1 in
    let called = name n.0.0.0 n.0.0.1 in
    let made : Found = r.alone (d.enum_decl (record { name = Some n.0.0.0; items = vs.0.0; line = n.0.0.1 })) in
    let all : List Token = word w.Enum line ∷ called ∷ inside.0 in
    finish types at made x (word w.Enum line ∷ ts) all vs.0.1 rest vs.2 (ap (λ l. word w.Enum line ∷ l) (named.0 ∙ ap (λ l. called ∷ l) inside.1))
    (same_names types at all made.decls [] (SpellsDecl.enum_of line named.1 inside.2))

enum_by_sound : (types : Names) (at line : ℕ) (ts : List Token) (brace : Option (ℕ × List Token)) (x : Found) (rest : List Token) → r.enum_by types line ts brace ≡ Some (x, rest)
    → Took (Spelled types at) (word w.Enum line ∷ ts) x rest
enum_by_sound types at line ts None x rest h = enum_named types at line ts x rest h
enum_by_sound types at line ts (Some brace) x rest h = enum_alone types at line ts brace x rest h

enum_sound : (types : Names) (at : ℕ) → Sound (Spelled types at) (r.enum_at types)
unfolding r.enum_at
enum_sound types at ts x rest h =
    let a = bind_ok (word_at w.Enum ts) _ (x, rest) h in
    let took = enum_by_sound types at a.0.0 a.0.1 (punct_at p.OpenBrace a.0.1) x rest a.2 in
    (took.0, word_is w.Enum ts a.0.0 a.0.1 a.1 ∙ took.1, took.2)

-- ---- functions

pub record SpellsHeader (types : Names) (t : e.CType) (xs : List Token) (h : Header) : Type 0 where
  pub open_line : ℕ
  pub close_line : ℕ
  pub stars : List Token
  pub inside : List Token
  pub starred : SpellsStars false stars t h.result
  pub is_new : is_type types h.name ≡ false
  pub spelled : SpellsParams types MOST_WITHIN inside h.params
  pub split : xs ≡ stars ++ name h.name h.line ∷ punct p.OpenParen open_line ∷ (inside ++ punct p.CloseParen close_line ∷ [])

header_sound : (types : Names) (t : e.CType) → Sound (SpellsHeader types t) (r.header_at types t)
unfolding r.header_at
header_sound types t ts x rest h =
    let u = bind_ok (stars_at false t ts) _ (x, rest) h in
    let n = bind_ok (new_name_at types u.0.1) _ (x, rest) u.2 in
    let a = bind_ok (punct_at p.OpenParen n.0.1) _ (x, rest) n.2 in
    let vs = bind_ok (params_at types MOST_WITHIN a.0.1) _ (x, rest) a.2 in
    let b = bind_ok (punct_at p.CloseParen vs.0.1) _ (x, rest) vs.2 in
    let made : Header = record { name = n.0.0.0; result = u.0.0; params = vs.0.0; line = n.0.0.1 } in
    let same = pair_is made x b.0.1 rest b.2 in
    let stars = stars_sound false t ts u.0.0 u.0.1 u.1 in
    let named = new_name_is types u.0.1 n.0.0 n.0.1 n.1 in
    let inside = params_sound types MOST_WITHIN a.0.1 vs.0.0 vs.0.1 vs.1 in
    let called = name n.0.0.0 n.0.0.1 in
    let opening = punct p.OpenParen a.0.0 in
    let close = punct p.CloseParen b.0.0 in
    let all : List Token = stars.0 ++ called ∷ opening ∷ (inside.0 ++ close ∷ []) in
    let split : ts ≡ stars.0 ++ called ∷ opening ∷ (inside.0 ++ close ∷ rest) =
    behind stars.0 ts u.0.1 (called ∷ opening ∷ (inside.0 ++ close ∷ rest)) stars.1
    (next called u.0.1 n.0.1 (opening ∷ (inside.0 ++ close ∷ rest)) named.0
    (next opening n.0.1 a.0.1 (inside.0 ++ close ∷ rest) (punct_is p.OpenParen n.0.1 a.0.0 a.0.1 a.1)
    (behind inside.0 a.0.1 vs.0.1 (close ∷ rest) inside.1
    (next close vs.0.1 b.0.1 rest (punct_is p.CloseParen vs.0.1 b.0.0 b.0.1 b.1) same.1)))) in
    let grouped : stars.0 ++ called ∷ opening ∷ (inside.0 ++ close ∷ rest) ≡ all ++ rest = simp append_assoc in
    let spelled : SpellsHeader types t all made = record { open_line = a.0.0; close_line = b.0.0; stars = stars.0; inside = inside.0; starred = stars.2; is_new = named.1; spelled = inside.2; split = refl } in
    (all, split ∙ grouped, subst (SpellsHeader types t all) same.0 spelled)

abbrev SpellsEnding : Names → (at : ℕ) → List Token → Ending → Type 0
SpellsEnding types at xs b = SpellsEnd types at xs b.body b.end b.starts

ending_by_sound : (types : Names) (end : ℕ) (ts : List Token) (o : Option (ℕ × List Token)) → punct_at p.Semicolon ts ≡ o → length ts ≤ end → (x : Ending) (rest : List Token)
    → r.ending_by types end ts o ≡ Some (x, rest) → Took (SpellsEnding types (end - length ts)) ts x rest
ending_by_sound types end ts None none le x rest h =
    let b = bind_ok (block_at types end ts) _ (x, rest) h in
    let made : Ending = record { body = Some (s.block b.0.0.line b.0.0.stmts); end = b.0.0.end; starts = b.0.0.starts } in
    let same = pair_is made x b.0.1 rest b.2 in
    let block = block_sound types end (end - length ts) ts b.0.0 b.0.1 (omega (arith, le)) b.1 in
    (block.0, block.1 ∙ ap (λ l. block.0 ++ l) same.1, subst (SpellsEnding types (end - length ts) block.0) same.0 (SpellsEnd.body block.2))
ending_by_sound types end ts (Some a) some le x rest h =
    let made : Ending = record { body = None; end = a.0; starts = [] } in
    let same = pair_is made x a.1 rest h in
    let all : List Token = punct p.Semicolon a.0 ∷ [] in
    (all, punct_is p.Semicolon ts a.0 a.1 some ∙ ap (λ l. punct p.Semicolon a.0 ∷ l) same.1, subst (SpellsEnding types (end - length ts) all) same.0 SpellsEnd.prototype)

ending_sound : (types : Names) (end : ℕ) (ts : List Token) (x : Ending) (rest : List Token) → length ts ≤ end → r.ending_at types end ts ≡ Some (x, rest)
    → Took (SpellsEnding types (end - length ts)) ts x rest
unfolding r.ending_at
ending_sound types end ts x rest le h = ending_by_sound types end ts (punct_at p.Semicolon ts) refl le x rest h

first_line_front : (xs ys : List Token) → 0 < length xs → first_line (xs ++ ys) ≡ first_line xs
first_line_front [] ys h = absurd (omega arith)
first_line_front (x ∷ xs) ys h = refl

-- the function behind what was read before it
function_sound : (types : Names) (end at first : ℕ) (c : Contract) (t : e.CType) (one two three ts : List Token) (x : Found) (rest : List Token)
    → SpellsContractAt types at one c → SpellsLinkage two → SpellsType types three t
    → at + length (one ++ (two ++ (three ++ ts))) ≡ end → first ≡ first_line (one ++ (two ++ (three ++ ts)))
    → r.function_at types end first c t ts ≡ Some (x, rest)
    → (xs : List Token) × (ts ≡ xs ++ rest) × Spelled types at (one ++ (two ++ (three ++ xs))) x
unfolding r.function_at
function_sound types end at first c t one two three ts x rest contract linkage typed place begins h =
    let head = bind_ok (r.header_at types t ts) _ (x, rest) h in
    let tail = bind_ok (r.ending_at types end head.0.1) _ (x, rest) head.2 in
    let same = pair_is (r.function_found first c head.0.0 tail.0.0) x tail.0.1 rest tail.2 in
    let four = header_sound types t ts head.0.0 head.0.1 head.1 in
    let lengths : length ts ≡ length four.0 + length head.0.1 = ap length four.1 ∙ length-append four.0 head.0.1 in
    let all_lengths : length (one ++ (two ++ (three ++ ts))) ≡ length one + (length two + (length three + length ts)) = simp length-append in
    let within : length head.0.1 ≤ end = omega arith in
    let five = ending_sound types end head.0.1 tail.0.0 tail.0.1 within tail.1 in
    let before : List Token = one ++ (two ++ (three ++ four.0)) in
    let before_length : length before ≡ length one + (length two + (length three + length four.0)) = simp length-append in
    let placed : end - length head.0.1 ≡ at + length before = omega arith in
    let xs : List Token = four.0 ++ five.0 in
    let all : List Token = one ++ (two ++ (three ++ xs)) in
    let split : ts ≡ four.0 ++ (five.0 ++ rest) = behind four.0 ts head.0.1 (five.0 ++ rest) four.1 (five.1 ∙ ap (λ l. five.0 ++ l) same.1) in
    let grouped : four.0 ++ (five.0 ++ rest) ≡ xs ++ rest = simp append_assoc in
    let joined : all ≡ before ++ five.0 = simp append_assoc in
    let whole : one ++ (two ++ (three ++ ts)) ≡ all ++ rest = ap (λ l. one ++ (two ++ (three ++ l))) (split ∙ grouped) ∙ simp append_assoc in
    let some : 0 < length four.0 = (let sizes : length four.0 ≡ length four.2.stars + suc (suc (length four.2.inside + 1)) = ap length four.2.split ∙ simp length-append in omega arith) in
    let all_length : length all ≡ length before + length five.0 = ap length joined ∙ length-append before five.0 in
    let line : first ≡ first_line all = begins ∙ ap first_line whole ∙ first_line_front all rest (omega arith) in
    let header : before ≡ one ++ (two ++ (three ++ (four.2.stars ++ name head.0.0.name head.0.0.line ∷ punct p.OpenParen four.2.open_line ∷ (four.2.inside ++ punct p.CloseParen four.2.close_line ∷ [])))) =
    ap (λ l. one ++ (two ++ (three ++ l))) four.2.split in
    let body = subst (λ at. SpellsEnding types at five.0 tail.0.0) placed five.2 in
    let f = r.function_of c head.0.0 tail.0.0 in
    let ls = r.lines_of first head.0.0 tail.0.0 in
    let spelled : SpellsFunction types at all f ls =
    SpellsFunction.function four.2.open_line four.2.close_line contract linkage typed four.2.starred four.2.is_new four.2.spelled header body joined refl
    (ap (λ (first : ℕ). r.lines_of first head.0.0 tail.0.0) line) in
    let made = r.function_found first c head.0.0 tail.0.0 in
    (xs, split ∙ grouped, subst (Spelled types at all) same.0 (same_names types at all made.decls made.lines (SpellsDecl.function spelled)))

-- ---- functions and variables, behind their first typed

contract_sound_at : (types : Names) (end : ℕ) (ts : List Token) (c : Contract) (rest : List Token) → length ts ≤ end → r.contract_part types end ts ≡ Some (c, rest)
    → Took (SpellsContractAt types (end - length ts)) ts c rest
unfolding r.contract_part
contract_sound_at types end ts x rest le h =
    let a = bind_ok (annot_open_at ts) _ (x, rest) h in
    let c = bind_ok (contract_at types end a.0.1) _ (x, rest) a.2 in
    let b = bind_ok (annot_close_at c.0.1) _ (x, rest) c.2 in
    let same = pair_is c.0.0 x b.0.1 rest b.2 in
    let begun = open_is ts a.0.0 a.0.1 a.1 in
    let longer : length ts ≡ suc (length a.0.1) = ap length begun in
    let within : length a.0.1 ≤ end = omega arith in
    let inside = contract_sound types end a.0.1 c.0.0 c.0.1 within c.1 in
    let placed : end - length a.0.1 ≡ suc (end - length ts) = omega arith in
    let opening = annot_open a.0.0 in
    let close = annot_close b.0.0 in
    let all : List Token = opening ∷ (inside.0 ++ close ∷ []) in
    let split : ts ≡ opening ∷ (inside.0 ++ close ∷ rest) =
    next opening ts a.0.1 (inside.0 ++ close ∷ rest) begun
    (behind inside.0 a.0.1 c.0.1 (close ∷ rest) inside.1 (next close c.0.1 b.0.1 rest (close_is c.0.1 b.0.0 b.0.1 b.1) same.1)) in
    let grouped : opening ∷ (inside.0 ++ close ∷ rest) ≡ all ++ rest = simp append_assoc in
    let spelled = subst (λ at. SpellsContract types at inside.0 c.0.0) placed inside.2 in
    (all, split ∙ grouped, subst (SpellsContractAt types (end - length ts) all) same.0 (SpellsContractAt.annotated a.0.0 b.0.0 spelled refl))

contracted_sound : (types : Names) (end : ℕ) (ts : List Token) (x : Found) (rest : List Token) → length ts ≤ end → r.contracted_at types end ts ≡ Some (x, rest)
    → Took (Spelled types (end - length ts)) ts x rest
unfolding r.contracted_at
contracted_sound types end ts x rest le h =
    let c = bind_ok (r.contract_part types end ts) _ (x, rest) h in
    let t = bind_ok (type_at types (linkage_at c.0.1)) _ (x, rest) c.2 in
    let one = contract_sound_at types end ts c.0.0 c.0.1 le c.1 in
    let two = linkage_sound c.0.1 in
    let three = type_sound types (linkage_at c.0.1) t.0.0 t.0.1 t.1 in
    let split : ts ≡ one.0 ++ (two.0 ++ (three.0 ++ t.0.1)) = behind one.0 ts c.0.1 (two.0 ++ (three.0 ++ t.0.1)) one.1 (behind two.0 c.0.1 (linkage_at c.0.1) (three.0 ++ t.0.1) two.1 three.1) in
    let place : end - length ts + length (one.0 ++ (two.0 ++ (three.0 ++ t.0.1))) ≡ end = (let same = ap length split in omega arith) in
    let xs = function_sound types end (end - length ts) (first_line ts) c.0.0 t.0.0 one.0 two.0 three.0 t.0.1 x rest one.2 two.2 three.2 place (ap first_line split) t.2 in
    let all : List Token = one.0 ++ (two.0 ++ (three.0 ++ xs.0)) in
    let grouped : one.0 ++ (two.0 ++ (three.0 ++ (xs.0 ++ rest))) ≡ all ++ rest = simp append_assoc in
    (all, split ∙ ap (λ l. one.0 ++ (two.0 ++ (three.0 ++ l))) xs.1 ∙ grouped, xs.2)

globals_sound : (types : Names) (at : ℕ) (t : e.CType) (two three ts : List Token) (x : Found) (rest : List Token) → SpellsLinkage two → SpellsType types three t
    → r.globals_at types t ts ≡ Some (x, rest) → (xs : List Token) × (ts ≡ xs ++ rest) × Spelled types at (two ++ (three ++ xs)) x
unfolding r.globals_at
globals_sound types at t two three ts x rest linkage typed h =
    let vs = bind_ok (variables_after types DEEPEST t ts) _ (x, rest) h in
    let same = pair_is (r.alone (d.globals vs.0.0)) x vs.0.1 rest vs.2 in
    let after = variables_after_sound types DEEPEST t ts vs.0.0 vs.0.1 vs.1 in
    let all : List Token = two ++ (three ++ after.0) in
    let variables : SpellsVariables types DEEPEST (three ++ after.0) vs.0.0 = SpellsVariables.variables after.2.1 typed after.2.3 (ap (λ l. three ++ l) after.2.2) in
    (after.0, after.1 ∙ ap (λ l. after.0 ++ l) same.1, subst (Spelled types at all) same.0 (same_names types at all (d.globals vs.0.0 ∷ []) [] (SpellsDecl.globals linkage variables refl)))

plain_by : (types : Names) (end at first : ℕ) (t : e.CType) (two three ts : List Token) (is_function : Bool) (x : Found) (rest : List Token) → SpellsLinkage two → SpellsType types three t
    → at + length (two ++ (three ++ ts)) ≡ end → first ≡ first_line (two ++ (three ++ ts))
    → cond is_function (r.function_at types end first (contract_of [] [] []) t ts) (r.globals_at types t ts) ≡ Some (x, rest)
    → (xs : List Token) × (ts ≡ xs ++ rest) × Spelled types at (two ++ (three ++ xs)) x
plain_by types end at first t two three ts true x rest linkage typed place begins h =
    function_sound types end at first (contract_of [] [] []) t [] two three ts x rest (SpellsContractAt.none refl) linkage typed place begins h
plain_by types end at first t two three ts false x rest linkage typed place begins h = globals_sound types at t two three ts x rest linkage typed h

plain_sound : (types : Names) (end : ℕ) (ts : List Token) (x : Found) (rest : List Token) → length ts ≤ end → r.plain_at types end ts ≡ Some (x, rest)
    → Took (Spelled types (end - length ts)) ts x rest
unfolding r.plain_at
plain_sound types end ts x rest le h =
    let t = bind_ok (type_at types (linkage_at ts)) _ (x, rest) h in
    let two = linkage_sound ts in
    let three = type_sound types (linkage_at ts) t.0.0 t.0.1 t.1 in
    let split : ts ≡ two.0 ++ (three.0 ++ t.0.1) = behind two.0 ts (linkage_at ts) (three.0 ++ t.0.1) two.1 three.1 in
    let place : end - length ts + length (two.0 ++ (three.0 ++ t.0.1)) ≡ end = (let same = ap length split in omega arith) in
    let xs = plain_by types end (end - length ts) (first_line ts) t.0.0 two.0 three.0 t.0.1 (r.opens_params t.0.1) x rest two.2 three.2 place (ap first_line split) t.2 in
    let all : List Token = two.0 ++ (three.0 ++ xs.0) in
    let grouped : two.0 ++ (three.0 ++ (xs.0 ++ rest)) ≡ all ++ rest = simp append_assoc in
    (all, split ∙ ap (λ l. two.0 ++ (three.0 ++ l)) xs.1 ∙ grouped, xs.2)

-- ---- declarations

decl_by_sound : (f : Form) (types : Names) (end : ℕ) (ts : List Token) (x : Found) (rest : List Token) → length ts ≤ end → r.decl_by f types end ts ≡ Some (x, rest)
    → Took (Spelled types (end - length ts)) ts x rest
decl_by_sound form.Definitions types end ts x rest le h = definitions_sound types (end - length ts) ts x rest h
decl_by_sound form.Contracted types end ts x rest le h = contracted_sound types end ts x rest le h
decl_by_sound form.Typedef types end ts x rest le h = typedef_sound types (end - length ts) ts x rest h
decl_by_sound form.Struct types end ts x rest le h = struct_sound types (end - length ts) ts x rest h
decl_by_sound form.Enum types end ts x rest le h = enum_sound types (end - length ts) ts x rest h
decl_by_sound form.Plain types end ts x rest le h = plain_sound types end ts x rest le h

pub decl_sound : (types : Names) (end : ℕ) (ts : List Token) (x : Found) (rest : List Token) → length ts ≤ end → r.decl_at types end ts ≡ Some (x, rest)
    → Took (Spelled types (end - length ts)) ts x rest
unfolding r.decl_at
decl_sound types end ts x rest le h = decl_by_sound (r.form_of ts) types end ts x rest le h

-- ---- files

abbrev pub SpelledFront : Names → (at : ℕ) → List Token → Front → Type 0
SpelledFront types at xs front = SpellsDecls types at xs front.decls front.names front.lines

front_by_sound : (end turns : ℕ) (types : Names) (ts : List Token) (o : Option (Found × List Token)) → r.decl_at types end ts ≡ o → length ts ≤ end
    → ((types : Names) (ts : List Token) → length ts ≤ end → (xs : List Token) × (ts ≡ xs ++ (r.front_of end turns types ts).left) × SpelledFront types (end - length ts) xs (r.front_of end turns types ts))
    → (xs : List Token) × (ts ≡ xs ++ (r.front_by types ts o (r.front_of end turns)).left) × SpelledFront types (end - length ts) xs (r.front_by types ts o (r.front_of end turns))
front_by_sound end turns types ts None none le more = ([], refl, SpellsDecls.none)
front_by_sound end turns types ts (Some x) some le more =
    let one = decl_sound types end ts x.0 x.1 le some in
    let lengths : length ts ≡ length one.0 + length x.1 = ap length one.1 ∙ length-append one.0 x.1 in
    let within : length x.1 ≤ end = omega arith in
    let rest = more (types ++ x.0.names) x.1 within in
    let placed : end - length x.1 ≡ end - length ts + length one.0 = omega arith in
    let front = r.front_of end turns (types ++ x.0.names) x.1 in
    let later = subst (λ at. SpelledFront (types ++ x.0.names) at rest.0 front) placed rest.2 in
    (one.0 ++ rest.0, behind one.0 ts x.1 (rest.0 ++ front.left) one.1 rest.1 ∙ sym (append_assoc one.0 rest.0 front.left), SpellsDecls.more one.2 later refl refl refl)

pub front_sound : (end turns : ℕ) (types : Names) (ts : List Token) → length ts ≤ end
    → (xs : List Token) × (ts ≡ xs ++ (r.front_of end turns types ts).left) × SpelledFront types (end - length ts) xs (r.front_of end turns types ts)
unfolding r.front_of
front_sound end zero types ts le = ([], refl, SpellsDecls.none)
front_sound end (suc turns) types ts le = front_by_sound end turns types ts (r.decl_at types end ts) refl le (front_sound end turns)
