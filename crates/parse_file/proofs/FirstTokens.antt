-- What the first tokens of a declaration tell of it.
use Rattle.std.proofs.Common.{◌≡◌, ℕ, Bool, true, false, ◌||◌, if◌then◌else◌, List, [], ◌∷◌, ◌++◌, codes, Some, None, refl, sym, ap, ◌∙◌, subst, append_assoc}
use Rattle.std.specs.Str.{bytes_eq}
use Rattle.wp_base.specs.declared.kinds.Kind.{Kind}
use Rattle.c_syntax.specs.declared.token.Token.{Token}
use Rattle.c_syntax.specs.declared.token.TokenKind.{TokenKind}
use Rattle.c_syntax.specs.declared.token.TokenKind.TheVariants as k
use Rattle.c_syntax.specs.declared.token.Punct.TheVariants as p
use Rattle.c_syntax.specs.declared.token.Word.{Word}
use Rattle.c_syntax.specs.declared.token.Word.TheVariants as w
use Rattle.c_syntax.specs.Expr as e
use Rattle.c_syntax.specs.Contract.{Clause, Measure, AssignsClause, Behavior, Contract}
use Rattle.c_syntax.specs.Decl as d
use Rattle.c_grammar.specs.Tokens.{Names, punct, word, name, annot_open, annot_close}
use Rattle.c_grammar.specs.Lists.{Separated, Repeated}
use Rattle.c_grammar.specs.Types.{is_kind_word, kind_of, kind_rows, SpellsWords, SpellsConsts, SpellsSpecifier, SpellsType, SpellsStars}
use Rattle.c_grammar.specs.Declarators.{SpellsDeclarator, SpellsInitialised}
use Rattle.c_grammar.specs.Annots.{Item, Ending, SpellsClause, SpellsAssigns, SpellsMeasure, SpellsItem, SpellsItems, SpellsBehavior, SpellsBehaviors, SpellsEnding, SpellsEndings, SpellsContract, SpellsLogic}
use Rattle.c_grammar.specs.Decls.{SpellsLinkage}
use Rattle.c_grammar.specs.Reading.{punct_at}
use Rattle.parse_types.specs.Read as t
use Rattle.parse_file.specs.declared.forms.Form.TheVariants as form
use Rattle.parse_file.specs.Read as r

-- ---- behind a type: pointers and a name

-- pointers and a name, and then a bracket for parameters or not
pub record Named (all : List Token) (is_function : Bool) : Type 0 where
  pub consts : Bool
  pub base : e.CType
  pub result : e.CType
  pub stars : List Token
  pub starred : SpellsStars consts stars base result
  pub x : List ℕ
  pub line : ℕ
  pub more : List Token
  pub split : all ≡ stars ++ name x line ∷ more
  pub opens : r.is_found (punct_at p.OpenParen more) ≡ is_function

stars_end_type : {consts : Bool} {xs : List Token} {a b : e.CType} → SpellsStars consts xs a b → (x : List ℕ) (line : ℕ) (more : List Token) → t.ends_type (xs ++ name x line ∷ more) ≡ true
unfolding t.ends_type
stars_end_type SpellsStars.none x line more = refl
stars_end_type (SpellsStars.star s) x line more = refl
stars_end_type (SpellsStars.const_star allowed s) x line more = refl

stars_open : {consts : Bool} {xs : List Token} {a b : e.CType} → SpellsStars consts xs a b → (x : List ℕ) (line : ℕ) (more : List Token)
    → r.opens_params (xs ++ name x line ∷ more) ≡ r.is_found (punct_at p.OpenParen more)
unfolding r.opens_params r.names_then r.after_name
stars_open SpellsStars.none x line more = refl
stars_open (SpellsStars.star s) x line more = stars_open s x line more
stars_open (SpellsStars.const_star allowed s) x line more = stars_open s x line more

stars_no_brace : {consts : Bool} {xs : List Token} {a b : e.CType} → SpellsStars consts xs a b → (x : List ℕ) (line : ℕ) (more : List Token) → punct_at p.OpenBrace (xs ++ name x line ∷ more) ≡ None
stars_no_brace SpellsStars.none x line more = refl
stars_no_brace (SpellsStars.star s) x line more = refl
stars_no_brace (SpellsStars.const_star allowed s) x line more = refl

pub named_end_type : (all : List Token) (is_function : Bool) → Named all is_function → t.ends_type all ≡ true
named_end_type all is_function n = ap t.ends_type n.split ∙ stars_end_type n.starred n.x n.line n.more

pub named_open : (all : List Token) (is_function : Bool) → Named all is_function → r.opens_params all ≡ is_function
named_open all is_function n = ap r.opens_params n.split ∙ stars_open n.starred n.x n.line n.more ∙ n.opens

named_no_brace : (all : List Token) (is_function : Bool) → Named all is_function → punct_at p.OpenBrace all ≡ None
named_no_brace all is_function n = ap (punct_at p.OpenBrace) n.split ∙ stars_no_brace n.starred n.x n.line n.more

-- no bracket for parameters comes next
abbrev NoParams : List Token → Type 0
NoParams after = r.is_found (punct_at p.OpenParen after) ≡ false

pub declarator_named : {types : Names} {room : ℕ} {base : e.CType} {xs : List Token} {v : e.VarDecl} → SpellsDeclarator types room base xs v → (after : List Token) → NoParams after → Named (xs ++ after) false
declarator_named (SpellsDeclarator.plain {line} {base} {t} {x} {first} stars is_new eq) after none =
    record { consts = true; base = base; result = t; stars = first; starred = stars; x = x; line = line; more = after; split = ap (λ l. l ++ after) eq ∙ append_assoc first (name x line ∷ []) after; opens = none }
declarator_named (SpellsDeclarator.array {line} line' line'' {base} {t} {x} {first} {inside} stars is_new size eq) after none =
    let close : List Token = punct p.CloseBracket line'' ∷ [] in
    let more : List Token = punct p.OpenBracket line' ∷ (inside ++ close) in
    record { consts = true; base = base; result = t; stars = first; starred = stars; x = x; line = line; more = more ++ after; split = ap (λ l. l ++ after) eq ∙ append_assoc first (name x line ∷ more) after; opens = refl }

initialised_named : {types : Names} {room : ℕ} {base : e.CType} {xs : List Token} {v : e.VarDecl} → SpellsInitialised types room base xs v → (after : List Token) → NoParams after → Named (xs ++ after) false
initialised_named (SpellsInitialised.bare s) after none = declarator_named s after none
initialised_named (SpellsInitialised.initialised line {first} {value} {all} s a eq is) after none =
    let split : all ++ after ≡ first ++ (punct p.Assign line ∷ value ++ after) = ap (λ l. l ++ after) eq ∙ append_assoc first (punct p.Assign line ∷ value) after in
    subst (λ l. Named l false) (sym split) (declarator_named s (punct p.Assign line ∷ value ++ after) refl)

pub variables_named : {types : Names} {room : ℕ} {base : e.CType} {xs : List Token} {vs : List e.VarDecl} → Separated (SpellsInitialised types room base) xs vs → (after : List Token) → NoParams after
    → Named (xs ++ after) false
variables_named (Separated.one s) after none = initialised_named s after none
variables_named (Separated.more line {first} {rest} {all} s others eq) after none =
    let split : all ++ after ≡ first ++ (punct p.Comma line ∷ rest ++ after) = ap (λ l. l ++ after) eq ∙ append_assoc first (punct p.Comma line ∷ rest) after in
    subst (λ l. Named l false) (sym split) (initialised_named s (punct p.Comma line ∷ rest ++ after) refl)

-- ---- types

-- behind these no name of a struct or an enum is followed by a brace
abbrev NoBody : List Token → Type 0
NoBody ts = (r.is_struct ts ≡ false) × (r.is_enum ts ≡ false)

consts_no_brace : {xs : List Token} {some : Bool} → SpellsConsts xs some → (rest : List Token) → punct_at p.OpenBrace rest ≡ None → punct_at p.OpenBrace (xs ++ rest) ≡ None
consts_no_brace SpellsConsts.none rest none = none
consts_no_brace (SpellsConsts.more s) rest none = refl

no_kind : (kind : Kind) → kind_of [] ≡ Some kind → ⊥
unfolding kind_of kind_rows
no_kind kind h = absurd cc

kind_word_no_body : (v : Word) → is_kind_word v ≡ true → (line : ℕ) (ts : List Token) → NoBody (word v line ∷ ts)
unfolding r.is_struct r.is_enum
kind_word_no_body w.Struct h line ts = absurd cc
kind_word_no_body w.Enum h line ts = absurd cc
kind_word_no_body _ h line ts = (refl, refl)

words_no_body : {xs : List Token} {ws : List Word} → SpellsWords xs ws → (kind : Kind) → kind_of ws ≡ Some kind → (rest : List Token) → NoBody (xs ++ rest)
words_no_body SpellsWords.none kind is rest = absurd (no_kind kind is)
words_no_body (SpellsWords.more {line} {v} {rest = others} test s) kind is rest = kind_word_no_body v test line (others ++ rest)

specifier_no_body : {types : Names} {xs : List Token} {a : e.CType} → SpellsSpecifier types xs a → (rest : List Token) → punct_at p.OpenBrace rest ≡ None → NoBody (xs ++ rest)
unfolding r.is_struct r.is_enum r.names_then r.after_name
specifier_no_body (SpellsSpecifier.kind_words {k} s is) rest none = words_no_body s k is rest
specifier_no_body SpellsSpecifier.void rest none = (refl, refl)
specifier_no_body SpellsSpecifier.struct_of rest none = (ap r.is_found none, refl)
specifier_no_body SpellsSpecifier.enum_of rest none = (refl, ap r.is_found none)
specifier_no_body (SpellsSpecifier.named is) rest none = (refl, refl)

consts_no_body : {xs : List Token} {some : Bool} → SpellsConsts xs some → (rest : List Token) → NoBody rest → NoBody (xs ++ rest)
unfolding r.is_struct r.is_enum
consts_no_body SpellsConsts.none rest none = none
consts_no_body (SpellsConsts.more s) rest none = (refl, refl)

type_no_body : {types : Names} {xs : List Token} {a : e.CType} → SpellsType types xs a → (rest : List Token) → punct_at p.OpenBrace rest ≡ None → NoBody (xs ++ rest)
type_no_body (SpellsType.type {first} {middle} {last} {all} c s c' eq is) rest none =
    let split : all ++ rest ≡ first ++ (middle ++ (last ++ rest)) = ap (λ l. l ++ rest) eq ∙ simp append_assoc in
    subst NoBody (sym split) (consts_no_body c (middle ++ (last ++ rest)) (specifier_no_body s (last ++ rest) (consts_no_brace c' rest none)))

kind_plain : (types : Names) (kind : TokenKind) (line : ℕ) (ts : List Token) → t.kind_starts types kind ≡ true → NoBody (record { kind = kind; line = line } ∷ ts)
    → r.form_of (record { kind = kind; line = line } ∷ ts) ≡ form.Plain
unfolding r.form_of r.bare_form r.is_typedef
kind_plain types k.AnnotOpen line ts h none = absurd cc
kind_plain types (k.Word w.Typedef) line ts h none = absurd cc
kind_plain types _ line ts h none = rw (none.0, none.1) refl

-- where a type begins and no struct or enum is declared with its body
starts_plain : (types : Names) (ts : List Token) → t.starts_type types ts ≡ true → NoBody ts → r.form_of ts ≡ form.Plain
unfolding t.starts_type
starts_plain types [] h none = absurd cc
starts_plain types (t ∷ ts) h none = kind_plain types t.kind t.line ts h none

pub plain_form : {types : Names} {one two rest : List Token} {a : e.CType} {is_function : Bool} → SpellsLinkage one → SpellsType types two a → Named rest is_function → t.starts_type types (two ++ rest) ≡ true
    → r.form_of (one ++ (two ++ rest)) ≡ form.Plain
unfolding r.form_of r.bare_form r.is_typedef r.is_struct r.is_enum
plain_form {types} {one} {two} {rest} {a} {is_function} SpellsLinkage.none s n starts = starts_plain types (two ++ rest) starts (type_no_body s rest (named_no_brace rest is_function n))
plain_form SpellsLinkage.extern s n starts = refl
plain_form SpellsLinkage.static s n starts = refl

-- ---- annotations

-- a name with this text comes first
abbrev Begins : List ℕ → List Token → Type 0
Begins keyword xs = (line : ℕ) × (more : List Token) × (xs ≡ name keyword line ∷ more)

abbrev is_logic : List ℕ → Bool
is_logic x = bytes_eq x (codes "predicate") || bytes_eq x (codes "logic")

name_logic : (x : List ℕ) (line : ℕ) (ts : List Token) (a b : Bool) → bytes_eq x (codes "predicate") ≡ a → bytes_eq x (codes "logic") ≡ b → r.begins_logic (name x line ∷ ts) ≡ (a || b)
unfolding r.begins_logic
name_logic x line ts true b is other = rw is refl
name_logic x line ts false true is other = rw (is, other) refl
name_logic x line ts false false is other = rw (is, other) refl

begins_as : (keyword : List ℕ) (xs rest : List Token) → Begins keyword xs → r.begins_logic (xs ++ rest) ≡ is_logic keyword
begins_as keyword xs rest b =
    ap (λ l. r.begins_logic (l ++ rest)) b.2 ∙ name_logic keyword b.0 (b.1 ++ rest) (bytes_eq keyword (codes "predicate")) (bytes_eq keyword (codes "logic")) refl refl

definition_begins : {types : Names} {xs : List Token} {x : d.LogicDecl} → SpellsLogic types xs x → (rest : List Token) → r.begins_logic (xs ++ rest) ≡ true
definition_begins {types} {xs} (SpellsLogic.predicate line line'' line''' is_new s s' eq) rest = begins_as (codes "predicate") xs rest (line, _, eq)
definition_begins {types} {xs} (SpellsLogic.logic line line'' line''' s is_new s' s'' eq) rest = begins_as (codes "logic") xs rest (line, _, eq)

pub definitions_begin : {types : Names} {xs : List Token} {x : d.LogicDecl} {ds : List d.LogicDecl} → Repeated (SpellsLogic types) xs (x ∷ ds) → (rest : List Token) → r.begins_logic (xs ++ rest) ≡ true
definitions_begin (Repeated.more {first} {rest = others} {all} s spelled eq) rest =
    ap (λ l. r.begins_logic (l ++ rest)) eq ∙ ap r.begins_logic (append_assoc first others rest) ∙ definition_begins s (others ++ rest)

clause_begins : {types : Names} {room at : ℕ} {keyword : List ℕ} {xs : List Token} {c : Clause} → SpellsClause types room at keyword xs c → Begins keyword xs
clause_begins (SpellsClause.clause {line} line' s eq) = (line, _, eq)

assigns_begin : {types : Names} {room at : ℕ} {xs : List Token} {a : AssignsClause} → SpellsAssigns types room at xs a → Begins (codes "assigns") xs
assigns_begin (SpellsAssigns.assigns {line} line' s s' eq) = (line, _, eq)

measure_begins : {types : Names} {room at : ℕ} {keyword : List ℕ} {xs : List Token} {m : Measure} → SpellsMeasure types room at keyword xs m → Begins keyword xs
measure_begins (SpellsMeasure.measure {line} line' s eq) = (line, _, eq)

item_begins : {types : Names} {room at : ℕ} {xs : List Token} {item : Item} → SpellsItem types room at xs item → (rest : List Token) → r.begins_logic (xs ++ rest) ≡ false
item_begins {xs = xs} (SpellsItem.requires s) rest = begins_as (codes "requires") xs rest (clause_begins s)
item_begins {xs = xs} (SpellsItem.ensures s) rest = begins_as (codes "ensures") xs rest (clause_begins s)
item_begins {xs = xs} (SpellsItem.assumes s) rest = begins_as (codes "assumes") xs rest (clause_begins s)
item_begins {xs = xs} (SpellsItem.assigns s) rest = begins_as (codes "assigns") xs rest (assigns_begin s)
item_begins {xs = xs} (SpellsItem.decreases s) rest = begins_as (codes "decreases") xs rest (measure_begins s)
item_begins {xs = xs} (SpellsItem.invariant {line} s is) rest = begins_as (codes "loop") xs rest (line, _, refl)
item_begins {xs = xs} (SpellsItem.loop_assigns {line} s is) rest = begins_as (codes "loop") xs rest (line, _, refl)
item_begins {xs = xs} (SpellsItem.variant {line} s is) rest = begins_as (codes "loop") xs rest (line, _, refl)

items_begin : {types : Names} {room at : ℕ} {xs : List Token} {items : List Item} → SpellsItems types room at xs items → (rest : List Token) → r.begins_logic rest ≡ false → r.begins_logic (xs ++ rest) ≡ false
items_begin SpellsItems.none rest none = none
items_begin (SpellsItems.more {first} {rest = others} s spelled eq) rest none =
    ap (λ l. r.begins_logic (l ++ rest)) eq ∙ ap r.begins_logic (append_assoc first others rest) ∙ item_begins s (others ++ rest)

behavior_begins : {types : Names} {at : ℕ} {xs : List Token} {b : Behavior} → SpellsBehavior types at xs b → (rest : List Token) → r.begins_logic (xs ++ rest) ≡ false
behavior_begins {xs = xs} (SpellsBehavior.behavior line line'' is_new s stand eq is) rest = begins_as (codes "behavior") xs rest (line, _, eq)

behaviors_begin : {types : Names} {at : ℕ} {xs : List Token} {bs : List Behavior} → SpellsBehaviors types at xs bs → (rest : List Token) → r.begins_logic rest ≡ false → r.begins_logic (xs ++ rest) ≡ false
behaviors_begin SpellsBehaviors.none rest none = none
behaviors_begin (SpellsBehaviors.more {first} {rest = others} s spelled eq) rest none =
    ap (λ l. r.begins_logic (l ++ rest)) eq ∙ ap r.begins_logic (append_assoc first others rest) ∙ behavior_begins s (others ++ rest)

ending_begins : {at : ℕ} {xs : List Token} {x : Ending} → SpellsEnding at xs x → (rest : List Token) → r.begins_logic (xs ++ rest) ≡ false
ending_begins {xs = xs} (SpellsEnding.complete {line} line' line'' s eq) rest = begins_as (codes "complete") xs rest (line, _, eq)
ending_begins {xs = xs} (SpellsEnding.disjoint {line} line' line'' s eq) rest = begins_as (codes "disjoint") xs rest (line, _, eq)

endings_begin : {at : ℕ} {xs : List Token} {es : List Ending} → SpellsEndings at xs es → (rest : List Token) → r.begins_logic rest ≡ false → r.begins_logic (xs ++ rest) ≡ false
endings_begin SpellsEndings.none rest none = none
endings_begin (SpellsEndings.more {first} {rest = others} s spelled eq) rest none =
    ap (λ l. r.begins_logic (l ++ rest)) eq ∙ ap r.begins_logic (append_assoc first others rest) ∙ ending_begins s (others ++ rest)

close_begins : (line : ℕ) (rest : List Token) → r.begins_logic (annot_close line ∷ rest) ≡ false
unfolding r.begins_logic
close_begins line rest = refl

-- a contract begins with no definition
pub contract_begins : {types : Names} {at : ℕ} {xs : List Token} {c : Contract} → SpellsContract types at xs c → (line : ℕ) (rest : List Token) → r.begins_logic (xs ++ annot_close line ∷ rest) ≡ false
contract_begins {xs = xs} (SpellsContract.contract {first} {second} {third} s stand s' s'' eq is) line rest =
    let close : List Token = annot_close line ∷ rest in
    let split : xs ++ close ≡ first ++ (second ++ (third ++ close)) = ap (λ l. l ++ close) eq ∙ simp append_assoc in
    ap r.begins_logic split ∙ items_begin s (second ++ (third ++ close)) (behaviors_begin s' (third ++ close) (endings_begin s'' close (close_begins line rest)))

pub annotated_form : (line : ℕ) (ts : List Token) (is_definition : Bool) → r.begins_logic ts ≡ is_definition → r.form_of (annot_open line ∷ ts) ≡ (if is_definition then form.Definitions else form.Contracted)
unfolding r.form_of
annotated_form line ts is_definition h = rw h refl

-- ---- other first words

pub typedef_form : (line : ℕ) (ts : List Token) → r.form_of (word w.Typedef line ∷ ts) ≡ form.Typedef
unfolding r.form_of r.bare_form r.is_typedef
typedef_form line ts = refl

pub struct_form : (line line' line'' : ℕ) (x : List ℕ) (ts : List Token) → r.form_of (word w.Struct line ∷ name x line' ∷ punct p.OpenBrace line'' ∷ ts) ≡ form.Struct
unfolding r.form_of r.bare_form r.is_typedef r.is_struct r.names_then r.after_name
struct_form line line' line'' x ts = refl

pub enum_form : (line line' line'' : ℕ) (x : List ℕ) (ts : List Token) → r.form_of (word w.Enum line ∷ name x line' ∷ punct p.OpenBrace line'' ∷ ts) ≡ form.Enum
unfolding r.form_of r.bare_form r.is_typedef r.is_struct r.is_enum r.names_then r.after_name
enum_form line line' line'' x ts = refl

pub enum_alone_form : (line line' : ℕ) (ts : List Token) → r.form_of (word w.Enum line ∷ punct p.OpenBrace line' ∷ ts) ≡ form.Enum
unfolding r.form_of r.bare_form r.is_typedef r.is_struct r.is_enum r.names_then r.after_name
enum_alone_form line line' ts = refl
