-- Readers of declarations and whole files (C11 6.7, 6.9; ACSL 2.3, 2.6), as functions on token lists.
use Rattle.std.specs.Prelude.{ℕ, zero, suc, Bool, true, false, ◌||◌, if◌then◌else◌, List, [], ◌∷◌, ◌++◌, length, map, codes, Option, Some, None}
use Rattle.c_syntax.specs.declared.token.Token.{Token}
use Rattle.c_syntax.specs.declared.token.TokenKind.{TokenKind}
use Rattle.c_syntax.specs.declared.token.TokenKind.TheVariants as k
use Rattle.c_syntax.specs.declared.token.Punct.{Punct}
use Rattle.c_syntax.specs.declared.token.Punct.TheVariants as p
use Rattle.c_syntax.specs.declared.token.Word.TheVariants as w
use Rattle.c_syntax.specs.Expr as e
use Rattle.c_syntax.specs.Stmt as s
use Rattle.c_syntax.specs.Contract.{Contract}
use Rattle.c_syntax.specs.Decl as d
use Rattle.c_grammar.specs.Tokens.{Names, first_line}
use Rattle.c_grammar.specs.Annots.{contract_of}
use Rattle.c_grammar.specs.Decls.{Lines, params_of, param_lines}
use Rattle.c_grammar.specs.Reading.{Reader, ◌>>=◌, punct_at, word_at, name_at, new_name_at, keyword_at, annot_open_at, annot_close_at}
use Rattle.c_grammar.specs.declared.limits.TheConstants.{DEEPEST, MOST_WITHIN}
use Rattle.parse_types.specs.Read.{type_at, stars_at}
use Rattle.parse_decls.specs.Read.{declarator_at, variables_after, params_at, fields_at, enumerators_at, linkage_at}
use Rattle.acsl_parser.specs.Read.{contract_at, logics_at}
use Rattle.parse_stmts.specs.Read.{block_at}
use Rattle.parse_file.specs.declared.forms.Form.{Form}
use Rattle.parse_file.specs.declared.forms.Form.TheVariants as form

-- ---- first tokens

abbrev pub is_found : {X : Type 0} → Option X → Bool
is_found (Some x) = true
is_found None = false

-- the tokens behind a name
unfoldable pub after_name : List Token → Option (List Token)
after_name ts = name_at ts >>= λ x. Some x.1

-- whether a definition comes first (ACSL 2.6.1)
unfoldable pub begins_logic : List Token → Bool
begins_logic ts = is_found (keyword_at (codes "predicate") ts) || is_found (keyword_at (codes "logic") ts)

-- a name, and then this punctuator
unfoldable pub names_then : Punct → List Token → Bool
names_then q ts = is_found (after_name ts >>= λ rest. punct_at q rest)

abbrev pub then_holds : Option (ℕ × List Token) → (List Token → Bool) → Bool
then_holds None test = false
then_holds (Some x) test = test x.1

-- "struct" NAME "{"
unfoldable pub is_struct : List Token → Bool
is_struct ts = then_holds (word_at w.Struct ts) (names_then p.OpenBrace)

-- "enum" [NAME] "{"
unfoldable pub is_enum : List Token → Bool
is_enum ts = then_holds (word_at w.Enum ts) (λ rest. is_found (punct_at p.OpenBrace rest) || names_then p.OpenBrace rest)

-- "typedef"
unfoldable pub is_typedef : List Token → Bool
is_typedef ts = is_found (word_at w.Typedef ts)

-- which declaration comes first, where no annotation does
unfoldable pub bare_form : List Token → Form
bare_form ts = if is_typedef ts then form.Typedef else if is_struct ts then form.Struct else if is_enum ts then form.Enum else form.Plain

abbrev pub form_by : Option (ℕ × List Token) → List Token → Form
form_by None ts = bare_form ts
form_by (Some x) ts = if begins_logic x.1 then form.Definitions else form.Contracted

-- which declaration comes first, by its first tokens
unfoldable pub form_of : List Token → Form
form_of ts = form_by (annot_open_at ts) ts

abbrev pub is_pointer : TokenKind → Bool
is_pointer (k.Punct p.Star) = true
is_pointer (k.Word w.Const) = true
is_pointer _ = false

-- whether a function comes behind a type: {"*" | "const"} NAME "("
unfoldable pub opens_params : List Token → Bool
opens_params [] = false
opens_params (t ∷ ts) = if is_pointer t.kind then opens_params ts else names_then p.OpenParen (t ∷ ts)

-- ---- what a declaration gives

-- the declarations, the typedef names that are new, and the lines of a function
pub record Found : Type 0 where
  pub decls : List d.Decl
  pub names : Names
  pub lines : List Lines

abbrev pub alone : d.Decl → Found
alone x = record { decls = x ∷ []; names = []; lines = [] }

-- ---- functions (C11 6.7.6.3, 6.9.1)

-- "/*@" contract "*/" (ACSL 2.3)
unfoldable pub contract_part : Names → (end : ℕ) → Reader Contract
contract_part types end ts = annot_open_at ts >>= λ a. contract_at types end a.1 >>= λ c. annot_close_at c.1 >>= λ b. Some (c.0, b.1)

pub record Header : Type 0 where
  pub name : List ℕ
  pub result : e.CType
  pub params : List (e.VarDecl × ℕ)
  pub line : ℕ

-- {"*"} NAME "(" params ")", behind the type
unfoldable pub header_at : Names → e.CType → Reader Header
header_at types t ts =
    stars_at false t ts >>= λ u. new_name_at types u.1 >>= λ x. punct_at p.OpenParen x.1 >>= λ a. params_at types MOST_WITHIN a.1 >>= λ vs. punct_at p.CloseParen vs.1 >>= λ b.
    Some (record { name = x.0.0; result = u.0; params = vs.0; line = x.0.1 }, b.1)

-- what a function ends in, with the line of its last token
pub record Ending : Type 0 where
  pub body : Option s.Stmt
  pub end : ℕ
  pub starts : List ℕ

abbrev pub ending_by : Names → (end : ℕ) → List Token → Option (ℕ × List Token) → Option (Ending × List Token)
ending_by types end ts None = block_at types end ts >>= λ b. Some (record { body = Some (s.block b.0.line b.0.stmts); end = b.0.end; starts = b.0.starts }, b.1)
ending_by types end ts (Some x) = Some (record { body = None; end = x.0; starts = [] }, x.1)

-- block | ";"
unfoldable pub ending_at : Names → (end : ℕ) → Reader Ending
ending_at types end ts = ending_by types end ts (punct_at p.Semicolon ts)

abbrev pub function_of : Contract → Header → Ending → d.Function
function_of c h b = record { name = h.name; result = h.result; params = params_of h.params; contract = c; body = b.body; line = h.line; end = b.end }

abbrev pub lines_of : (first : ℕ) → Header → Ending → Lines
lines_of first h b = record { first = first; params = param_lines h.params; stmts = b.starts }

abbrev pub function_found : (first : ℕ) → Contract → Header → Ending → Found
function_found first c h b = record { decls = d.function (function_of c h b) ∷ []; names = []; lines = lines_of first h b ∷ [] }

-- {"*"} NAME "(" params ")" (block | ";"), behind the type
unfoldable pub function_at : Names → (end first : ℕ) → Contract → e.CType → Reader Found
function_at types end first c t ts =
    header_at types t ts >>= λ h. ending_at types end h.1 >>= λ b. Some (function_found first c h.0 b.0, b.1)

-- ---- declarations

-- "/*@" definition {definition} "*/" (ACSL 2.6.1)
unfoldable pub definitions_at : Names → Reader Found
definitions_at types ts =
    annot_open_at ts >>= λ a. logics_at types a.1 >>= λ ds. annot_close_at ds.1 >>= λ b.
    Some (record { decls = map d.logic_decl ds.0; names = []; lines = [] }, b.1)

-- a function with a contract
unfoldable pub contracted_at : Names → (end : ℕ) → Reader Found
contracted_at types end ts = contract_part types end ts >>= λ c. type_at types (linkage_at c.1) >>= λ t. function_at types end (first_line ts) c.0 t.0 t.1

-- "typedef" type declarator ";" (C11 6.7.8)
unfoldable pub typedef_at : Names → Reader Found
typedef_at types ts =
    word_at w.Typedef ts >>= λ a. type_at types a.1 >>= λ t. declarator_at types DEEPEST t.0 t.1 >>= λ v. punct_at p.Semicolon v.1 >>= λ b.
    Some (record { decls = d.typedef_decl v.0 ∷ []; names = v.0.name ∷ []; lines = [] }, b.1)

-- "struct" NAME "{" fields "}" ";" (C11 6.7.2.1)
unfoldable pub struct_at : Names → Reader Found
struct_at types ts =
    word_at w.Struct ts >>= λ a. new_name_at types a.1 >>= λ x. punct_at p.OpenBrace x.1 >>= λ b. fields_at types MOST_WITHIN b.1 >>= λ vs.
    punct_at p.CloseBrace vs.1 >>= λ c. punct_at p.Semicolon c.1 >>= λ f.
    Some (alone (d.struct_decl (record { name = x.0.0; fields = vs.0; line = x.0.1 })), f.1)

abbrev pub enum_by : Names → (line : ℕ) → List Token → Option (ℕ × List Token) → Option (Found × List Token)
enum_by types line ts None =
    new_name_at types ts >>= λ x. enumerators_at types DEEPEST x.1 >>= λ vs.
    Some (alone (d.enum_decl (record { name = Some x.0.0; items = vs.0; line = x.0.1 })), vs.1)
enum_by types line ts (Some brace) = enumerators_at types DEEPEST ts >>= λ vs. Some (alone (d.enum_decl (record { name = None; items = vs.0; line = line })), vs.1)

-- "enum" [NAME] enumerators (C11 6.7.2.2)
unfoldable pub enum_at : Names → Reader Found
enum_at types ts = word_at w.Enum ts >>= λ a. enum_by types a.0 a.1 (punct_at p.OpenBrace a.1)

-- variables, behind the type
unfoldable pub globals_at : Names → e.CType → Reader Found
globals_at types t ts = variables_after types DEEPEST t ts >>= λ vs. Some (alone (d.globals vs.0), vs.1)

-- a function without a contract, or variables
unfoldable pub plain_at : Names → (end : ℕ) → Reader Found
plain_at types end ts =
    type_at types (linkage_at ts) >>= λ t.
    if opens_params t.1 then function_at types end (first_line ts) (contract_of [] [] []) t.0 t.1 else globals_at types t.0 t.1

abbrev pub decl_by : Form → Names → (end : ℕ) → Reader Found
decl_by form.Definitions types end = definitions_at types
decl_by form.Contracted types end = contracted_at types end
decl_by form.Typedef types end = typedef_at types
decl_by form.Struct types end = struct_at types
decl_by form.Enum types end = enum_at types
decl_by form.Plain types end = plain_at types end

-- a declaration; `end` is the number of all tokens
unfoldable pub decl_at : Names → (end : ℕ) → Reader Found
decl_at types end ts = decl_by (form_of ts) types end ts

-- ---- files

-- the declarations at the front, as far as they are spelled, the typedef names behind them, the lines of their functions, and the tokens that are left
pub record Front : Type 0 where
  pub decls : List d.Decl
  pub names : Names
  pub lines : List Lines
  pub left : List Token

abbrev pub nothing_more : Names → List Token → Front
nothing_more types ts = record { decls = []; names = types; lines = []; left = ts }

abbrev pub before_front : Found → Front → Front
before_front x front = record { decls = x.decls ++ front.decls; names = front.names; lines = x.lines ++ front.lines; left = front.left }

abbrev pub front_by : Names → List Token → Option (Found × List Token) → (Names → List Token → Front) → Front
front_by types ts None go = nothing_more types ts
front_by types ts (Some x) go = before_front x.0 (go (types ++ x.0.names) x.1)

-- at most so many declarations
unfoldable pub front_of : (end turns : ℕ) → Names → List Token → Front
front_of end zero types ts = nothing_more types ts
front_of end (suc turns) types ts = front_by types ts (decl_at types end ts) (front_of end turns)

-- the front of a whole file
abbrev pub file_front : List Token → Front
file_front ts = front_of (length ts) (length ts) [] ts
