-- The readers of parameters, fields and enumerators read whatever is spelled.
use Rattle.std.proofs.Common.{◌≡◌, ℕ, zero, suc, ◌+◌, ◌-◌, ◌≤◌, ◌==◌, Bool, true, false, cond, List, [], ◌∷◌, ◌++◌, length, Option, Some, None, refl, sym, ap, ◌∙◌, subst, arith, append_assoc, append-nil, length-append}
use Rattle.std.proofs.lemmas.Bool.Decides.{nat_tests}
use denote.Enum.Bare.{sameb}
use Rattle.wp_base.specs.declared.kinds.Kind.{Kind}
use Rattle.wp_base.specs.declared.kinds.Kind.TheVariants as kind
use Rattle.c_syntax.specs.contracts.token.Word.{the_type as word_type}
use Rattle.c_syntax.specs.declared.token.Token.{Token}
use Rattle.c_syntax.specs.declared.token.TokenKind.{TokenKind}
use Rattle.c_syntax.specs.declared.token.TokenKind.TheVariants as k
use Rattle.c_syntax.specs.declared.token.Word.{Word}
use Rattle.c_syntax.specs.declared.token.Word.TheVariants as w
use Rattle.c_syntax.specs.declared.token.Punct.TheVariants as p
use Rattle.c_syntax.specs.Expr as e
use Rattle.c_grammar.specs.Tokens.{Names, is_type, token, punct, word, name, first_line}
use Rattle.c_grammar.specs.Types as t
use Rattle.c_grammar.specs.Types.{SpellsType, SpellsStars, SpellsSpecifier, SpellsWords, SpellsConsts}
use Rattle.c_grammar.specs.Lists.{Separated}
use Rattle.c_grammar.specs.Exprs.{SpellsCond}
use Rattle.c_grammar.specs.Declarators as g
use Rattle.c_grammar.specs.Decls as d
use Rattle.c_grammar.specs.Reading.{Reader, ◌>>=◌, punct_at, word_at, name_at, new_name_at}
use Rattle.c_grammar.specs.ListReaders.{separated_at}
use Rattle.c_grammar.proofs.SingleTokens.{first_line_front}
use Rattle.c_grammar.proofs.Separating.{separated_complete}
use Rattle.c_grammar.specs.Exactness.{Complete}
use Rattle.parse_types.specs.Read.{type_at, stars_at, starts_type, kind_starts, ends_type, ends_stars}
use Rattle.parse_types.proofs.Laws.{type_complete, stars_complete, type_starts}
use Rattle.parse_decls.specs.Read as r
use Rattle.parse_decls.proofs.Parts.{Parts, ends_value}
use Rattle.parse_decls.proofs.SoundMembers.{Trailing, bare, comma, param_some}
use Rattle.parse_decls.proofs.Complete.{CondReads, NoBracket, new_name_reads, stars_end, type_end, stars_end_type, length_reads, declarator_complete, declarator_ends_type, ended_reads, items_begin}

-- ---- first tokens

start_no_close : (types : Names) (kind : TokenKind) → kind_starts types kind ≡ true → r.closes kind ≡ false
start_no_close types (k.Punct q) h = absurd cc
start_no_close types _ h = refl

start_no_brace : (types : Names) (kind : TokenKind) → kind_starts types kind ≡ true → r.closes_brace kind ≡ false
start_no_brace types (k.Punct q) h = absurd cc
start_no_brace types _ h = refl

-- what begins like a type closes nothing
type_no_close : (types : Names) (ts : List Token) → starts_type types ts ≡ true → r.at_close ts ≡ false
unfolding starts_type r.at_close
type_no_close types [] h = refl
type_no_close types (x ∷ ts) h = start_no_close types x.kind h

type_no_brace : (types : Names) (ts : List Token) → starts_type types ts ≡ true → r.at_brace ts ≡ false
unfolding starts_type r.at_brace
type_no_brace types [] h = refl
type_no_brace types (x ∷ ts) h = start_no_brace types x.kind h

name_no_close : (x : List ℕ) (line : ℕ) (ts : List Token) → r.at_close (name x line ∷ ts) ≡ false
unfolding r.at_close
name_no_close x line ts = refl

stars_no_close : {consts : Bool} {xs : List Token} {t t' : e.CType} → SpellsStars consts xs t t' → (ts : List Token) → r.at_close ts ≡ false → r.at_close (xs ++ ts) ≡ false
unfolding r.at_close
stars_no_close SpellsStars.none ts h = h
stars_no_close (SpellsStars.star s) ts h = refl
stars_no_close (SpellsStars.const_star is s) ts h = refl

consts_no_close : {xs : List Token} {some : Bool} → SpellsConsts xs some → (ts : List Token) → r.at_close ts ≡ false → r.at_close (xs ++ ts) ≡ false
unfolding r.at_close
consts_no_close SpellsConsts.none ts h = h
consts_no_close (SpellsConsts.more s) ts h = refl

-- ---- `void` alone

-- the tokens aren't `void` and a closing parenthesis
abbrev NotAlone : List Token → Type 0
NotAlone ts = r.no_params (word_at w.Void ts) ≡ None

kind_no_void : (v : Word) → t.is_kind_word v ≡ true → sameb word_type v w.Void ≡ false
kind_no_void w.Void h = absurd cc
kind_no_void _ h = refl

no_kind : (kind : Kind) → t.kind_of [] ≡ Some kind → ⊥
unfolding t.kind_of t.kind_rows
no_kind kind h = cc

words_not_alone : {xs : List Token} {ws : List Word} → SpellsWords xs ws → (kind : Kind) → t.kind_of ws ≡ Some kind → (ts : List Token) → NotAlone (xs ++ ts)
words_not_alone SpellsWords.none kind is ts = absurd (no_kind kind is)
words_not_alone (SpellsWords.more {line} {v} word_is s) kind is ts = let other = kind_no_void v word_is in rw other refl

specifier_not_alone : {types : Names} {xs : List Token} {t : e.CType} → SpellsSpecifier types xs t → (ts : List Token) → r.at_close ts ≡ false → NotAlone (xs ++ ts)
specifier_not_alone (SpellsSpecifier.kind_words {ws} {k = kind} s is) ts h = words_not_alone s kind is ts
specifier_not_alone SpellsSpecifier.void ts h = rw h refl
specifier_not_alone SpellsSpecifier.struct_of ts h = refl
specifier_not_alone SpellsSpecifier.enum_of ts h = refl
specifier_not_alone (SpellsSpecifier.named is) ts h = refl

consts_not_alone : {xs : List Token} {some : Bool} → SpellsConsts xs some → (ts : List Token) → NotAlone ts → NotAlone (xs ++ ts)
consts_not_alone SpellsConsts.none ts h = h
consts_not_alone (SpellsConsts.more s) ts h = refl

type_not_alone : {types : Names} {xs : List Token} {t : e.CType} → SpellsType types xs t → (ts : List Token) → r.at_close ts ≡ false → NotAlone (xs ++ ts)
type_not_alone (SpellsType.type {first} {middle} {last} s s' s'' eq is) ts h =
    let regrouped : first ++ (middle ++ (last ++ ts)) ≡ (first ++ (middle ++ last)) ++ ts = simp append_assoc in
    subst (λ xs. NotAlone (xs ++ ts)) (sym eq)
    (subst NotAlone regrouped (consts_not_alone s (middle ++ (last ++ ts)) (specifier_not_alone s' (last ++ ts) (consts_no_close s'' ts h))))

declarator_no_close : {types : Names} {room : ℕ} {base : e.CType} {xs : List Token} {v : e.VarDecl} → g.SpellsDeclarator types room base xs v → (rest : List Token) → r.at_close (xs ++ rest) ≡ false
declarator_no_close (g.plain {line} {x} {first} s new eq) rest =
    subst (λ xs. r.at_close (xs ++ rest) ≡ false) (sym eq)
    (subst (λ ts. r.at_close ts ≡ false) (sym (append_assoc first (name x line ∷ []) rest)) (stars_no_close s (name x line ∷ rest) (name_no_close x line rest)))
declarator_no_close (g.array {line} line' line'' {x} {first} {inside} s new s' eq) rest =
    let tail = punct p.OpenBracket line' ∷ (inside ++ punct p.CloseBracket line'' ∷ []) in
    subst (λ xs. r.at_close (xs ++ rest) ≡ false) (sym eq)
    (subst (λ ts. r.at_close ts ≡ false) (sym (append_assoc first (name x line ∷ tail) rest)) (stars_no_close s (name x line ∷ (tail ++ rest)) (name_no_close x line (tail ++ rest))))

param_not_alone : {types : Names} {room : ℕ} {xs : List Token} {v : e.VarDecl} → g.SpellsParam types room xs v → (rest : List Token) → NotAlone (xs ++ rest)
param_not_alone (g.declarator {first} {second} s s' eq) rest =
    subst (λ xs. NotAlone (xs ++ rest)) (sym eq) (subst NotAlone (sym (append_assoc first second rest)) (type_not_alone s (second ++ rest) (declarator_no_close s' rest)))
param_not_alone (g.unsized {line} line' line'' {first} {second} {x} s s' new eq) rest =
    let tail = name x line ∷ punct p.OpenBracket line' ∷ punct p.CloseBracket line'' ∷ [] in
    let regrouped : first ++ (second ++ (tail ++ rest)) ≡ (first ++ (second ++ tail)) ++ rest = simp append_assoc in
    subst (λ xs. NotAlone (xs ++ rest)) (sym eq) (subst NotAlone regrouped (type_not_alone s (second ++ (tail ++ rest)) (stars_no_close s' (tail ++ rest) (name_no_close x line _))))

param_starts : {types : Names} {room : ℕ} {xs : List Token} {v : e.VarDecl} → g.SpellsParam types room xs v → (rest : List Token) → starts_type types (xs ++ rest) ≡ true
param_starts {types} (g.declarator {first} {second} {t} s s' eq) rest =
    subst (λ xs. starts_type types (xs ++ rest) ≡ true) (sym eq) (subst (λ ts. starts_type types ts ≡ true) (sym (append_assoc first second rest)) (type_starts types first t s (second ++ rest)))
param_starts {types} (g.unsized {line} line' line'' {first} {second} {t} {x} s s' new eq) rest =
    let tail = second ++ name x line ∷ punct p.OpenBracket line' ∷ punct p.CloseBracket line'' ∷ [] in
    subst (λ xs. starts_type types (xs ++ rest) ≡ true) (sym eq) (subst (λ ts. starts_type types ts ≡ true) (sym (append_assoc first tail rest)) (type_starts types first t s (tail ++ rest)))

-- ---- parameters

abbrev CondOpens : Names → Type 0
CondOpens types = (room : ℕ) (xs : List Token) (a : e.Expr) → SpellsCond types room xs a → (rest : List Token) → punct_at p.CloseBracket (xs ++ rest) ≡ None

-- a type, pointers and a name
param_head : (types : Names) (cond' : ℕ → Reader e.Expr) (room : ℕ) (first second : List Token) (t t' : e.CType) (x : List ℕ) (line : ℕ) → SpellsType types first t → SpellsStars true second t t' → is_type types x ≡ false
    → (after : List Token) → r.param_of types cond' room (first ++ (second ++ name x line ∷ after)) ≡ r.sized_param (r.length_of cond' room) room (x, line) t' (punct_at p.OpenBracket after) after
unfolding r.param_of
param_head types cond' room first second t t' x line s s' new after =
    let ends = stars_end_type s' (name x line ∷ after) (type_end x line after) in
    rw (type_complete types first t s (second ++ name x line ∷ after) ends, stars_complete true second t t' s' (name x line ∷ after) (stars_end x line after), new_name_reads types x line after new) refl

sized_reads : (types : Names) (cond' : ℕ → Reader e.Expr) → CondReads types cond' → CondOpens types → (room : ℕ) (x : List ℕ × ℕ) (t : e.CType) (inside : List Token) (n : e.Expr) → SpellsCond types room inside n
    → (line : ℕ) (rest : List Token) → r.bracketed (r.length_of cond' (suc room)) (suc room) x t (inside ++ punct p.CloseBracket line ∷ rest) ≡ Some (g.declared x.0 (e.array t n) x.1, rest)
unfolding r.bracketed
sized_reads types cond' reads opens room x t inside n s line rest =
    let roomed : (suc room == 0) ≡ false = grind (arith, nat_tests) in
    rw (roomed, opens room inside n s (punct p.CloseBracket line ∷ rest), length_reads types cond' reads room inside n s line rest) refl

unsized_reads : (cond' : ℕ → Reader e.Expr) (room : ℕ) (x : List ℕ × ℕ) (t : e.CType) (line : ℕ) (rest : List Token)
    → r.bracketed (r.length_of cond' (suc room)) (suc room) x t (punct p.CloseBracket line ∷ rest) ≡ Some (g.declared x.0 (e.pointer t) x.1, rest)
unfolding r.bracketed
unsized_reads cond' room x t line rest =
    let roomed : (suc room == 0) ≡ false = grind (arith, nat_tests) in
    rw roomed refl

named_reads : (types : Names) (cond' : ℕ → Reader e.Expr) → CondReads types cond' → CondOpens types → {room : ℕ} (first : List Token) {t : e.CType} → SpellsType types first t
    → {second : List Token} {v : e.VarDecl} → g.SpellsDeclarator types room t second v → (rest : List Token) → NoBracket rest → r.param_of types cond' room (first ++ (second ++ rest)) ≡ Some (v, rest)
named_reads types cond' reads opens {room} first {t} s (g.plain {line} {t = t'} {x} {first = stars} s' new eq) rest none =
    ap (λ xs. r.param_of types cond' room (first ++ (xs ++ rest))) eq ∙ ap (λ ts. r.param_of types cond' room (first ++ ts)) (append_assoc stars (name x line ∷ []) rest)
    ∙ param_head types cond' room first stars t t' x line s s' new rest ∙ rw none refl
named_reads types cond' reads opens first {t} s (g.array {room} {line} line' line'' {t = t'} {x} {first = stars} {inside} {n} s' new s'' eq) rest none =
    let tail = punct p.OpenBracket line' ∷ (inside ++ punct p.CloseBracket line'' ∷ []) in
    let after = inside ++ punct p.CloseBracket line'' ∷ rest in
    let regrouped : (stars ++ name x line ∷ tail) ++ rest ≡ stars ++ name x line ∷ punct p.OpenBracket line' ∷ after = simp append_assoc in
    ap (λ xs. r.param_of types cond' (suc room) (first ++ (xs ++ rest))) eq ∙ ap (λ ts. r.param_of types cond' (suc room) (first ++ ts)) regrouped
    ∙ param_head types cond' (suc room) first stars t t' x line s s' new (punct p.OpenBracket line' ∷ after) ∙ sized_reads types cond' reads opens room (x, line) t' inside n s'' line'' rest

param_complete : (types : Names) (cond' : ℕ → Reader e.Expr) → CondReads types cond' → CondOpens types → (room : ℕ) → Complete (g.SpellsParam types room) NoBracket (r.param_of types cond' room)
param_complete types cond' reads opens room xs v (g.declarator {first} {second} s s' eq) rest none =
    ap (λ xs. r.param_of types cond' room (xs ++ rest)) eq ∙ ap (r.param_of types cond' room) (append_assoc first second rest) ∙ named_reads types cond' reads opens first s s' rest none
param_complete types cond' reads opens room xs v (g.unsized {room = less} {line} line' line'' {first} {second} {t} {t'} {x} s s' new eq) rest none =
    let tail = name x line ∷ punct p.OpenBracket line' ∷ punct p.CloseBracket line'' ∷ [] in
    let regrouped : (first ++ (second ++ tail)) ++ rest ≡ first ++ (second ++ (tail ++ rest)) = simp append_assoc in
    ap (λ xs. r.param_of types cond' (suc less) (xs ++ rest)) eq ∙ ap (r.param_of types cond' (suc less)) regrouped
    ∙ param_head types cond' (suc less) first second t t' x line s s' new _ ∙ unsized_reads cond' less (x, line) t' line'' rest

abbrev lined : e.VarDecl → ℕ → e.VarDecl × ℕ
lined v line = (v, line)

line_reads : (types : Names) (cond' : ℕ → Reader e.Expr) (room : ℕ) (ts : List Token) (v : e.VarDecl) (rest : List Token) → r.param_of types cond' room ts ≡ Some (v, rest)
    → r.param_on_of types cond' room ts ≡ Some (lined v (first_line ts), rest)
unfolding r.param_on_of
line_reads types cond' room ts v rest read = rw read refl

param_on_complete : (types : Names) (cond' : ℕ → Reader e.Expr) → CondReads types cond' → CondOpens types → (room : ℕ) → Complete (g.SpellsParamOn types room) NoBracket (r.param_on_of types cond' room)
param_on_complete types cond' reads opens room xs v (g.on_line {all} {v = u} s) rest none =
    line_reads types cond' room (xs ++ rest) u rest (param_complete types cond' reads opens room xs u s rest none)
    ∙ ap (λ line. Some (lined u line, rest)) (first_line_front xs rest (param_some s))

param_on_starts : (types : Names) (room : ℕ) (xs : List Token) (v : e.VarDecl × ℕ) → g.SpellsParamOn types room xs v → (rest : List Token) → starts_type types (xs ++ rest) ≡ true
param_on_starts types room xs v (g.on_line s) rest = param_starts s rest

param_on_not_alone : (types : Names) (room : ℕ) (xs : List Token) (v : e.VarDecl × ℕ) → g.SpellsParamOn types room xs v → (rest : List Token) → NotAlone (xs ++ rest)
param_on_not_alone types room xs v (g.on_line s) rest = param_not_alone s rest

-- behind a closing parenthesis no item goes on
close_by : (kind : TokenKind) (line : ℕ) (ts : List Token) → r.closes kind ≡ true → (NoBracket (token kind line ∷ ts)) × (punct_at p.Comma (token kind line ∷ ts) ≡ None)
close_by (k.Punct p.CloseParen) line ts h = (refl, refl)
close_by (k.Punct _) line ts h = absurd cc
close_by _ line ts h = absurd cc

close_stops : (ts : List Token) → r.at_close ts ≡ true → (NoBracket ts) × (punct_at p.Comma ts ≡ None)
unfolding r.at_close
close_stops [] h = absurd cc
close_stops (x ∷ ts) h = close_by x.kind x.line ts h

void_reads : (types : Names) (cond' : ℕ → Reader e.Expr) (room line : ℕ) (rest : List Token) → r.at_close rest ≡ true → r.params_of types cond' room (word w.Void line ∷ rest) ≡ Some ([], rest)
unfolding r.params_of r.at_close
void_reads types cond' room line rest close = rw close refl

nothing_reads : (types : Names) (cond' : ℕ → Reader e.Expr) (room : ℕ) (rest : List Token) → r.at_close rest ≡ true → r.params_of types cond' room rest ≡ Some ([], rest)
unfolding r.params_of
nothing_reads types cond' room rest close = rw close refl

some_reads : (types : Names) (cond' : ℕ → Reader e.Expr) (room : ℕ) (ts : List Token) (vs : List (e.VarDecl × ℕ)) (rest : List Token) → r.at_close ts ≡ false → NotAlone ts
    → separated_at (r.param_on_of types cond' room) ts ≡ Some (vs, rest) → r.params_of types cond' room ts ≡ Some (vs, rest)
unfolding r.params_of
some_reads types cond' room ts vs rest close alone read = rw (close, alone) read

pub params_complete : (types : Names) (cond' : ℕ → Reader e.Expr) → CondReads types cond' → CondOpens types → (room : ℕ) (xs : List Token) (vs : List (e.VarDecl × ℕ)) → d.SpellsParams types room xs vs
    → (rest : List Token) → r.at_close rest ≡ true → r.params_of types cond' room (xs ++ rest) ≡ Some (vs, rest)
params_complete types cond' reads opens room xs vs d.nothing rest close = nothing_reads types cond' room rest close
params_complete types cond' reads opens room xs vs (d.void {line}) rest close = void_reads types cond' room line rest close
params_complete types cond' reads opens room xs vs (d.params s) rest close =
    let stops = close_stops rest close in
    some_reads types cond' room (xs ++ rest) vs rest
    (type_no_close types (xs ++ rest) (items_begin (λ ts. starts_type types ts ≡ true) (param_on_starts types room) s rest))
    (items_begin NotAlone (param_on_not_alone types room) s rest)
    (separated_complete (g.SpellsParamOn types room) NoBracket (r.param_on_of types cond' room) (param_on_complete types cond' reads opens room) (λ line ts. refl) xs vs s rest stops.0 stops.1)

-- ---- fields

group_reads : (types : Names) (cond' : ℕ → Reader e.Expr) (room : ℕ) (ts : List Token) (t : e.CType) (after : List Token) (vs : List e.VarDecl) (rest : List Token) → type_at types ts ≡ Some (t, after)
    → r.ended (separated_at (r.declarator_of types cond' room t)) after ≡ Some (vs, rest) → r.group_of types cond' room ts ≡ Some (vs, rest)
unfolding r.group_of
group_reads types cond' room ts t after vs rest read others = rw read others

-- no bracket and no comma
group_complete : (types : Names) (cond' : ℕ → Reader e.Expr) → CondReads types cond' → (room : ℕ) (xs : List Token) (vs : List e.VarDecl) → d.SpellsGroup types room xs vs → (rest : List Token)
    → r.group_of types cond' room (xs ++ rest) ≡ Some (vs, rest)
group_complete types cond' reads room xs vs (d.group line {first} {second} {t} s s' eq) rest =
    let semi = punct p.Semicolon line in
    let tail = second ++ semi ∷ [] in
    let ends : ends_type (tail ++ rest) ≡ true =
    subst (λ ts. ends_type ts ≡ true) (sym (append_assoc second (semi ∷ []) rest)) (items_begin (λ ts. ends_type ts ≡ true) (λ xs x s rest. declarator_ends_type s rest) s' (semi ∷ rest)) in
    let items = separated_complete (g.SpellsDeclarator types room t) NoBracket (r.declarator_of types cond' room t) (declarator_complete types cond' reads room t) (λ line ts. refl) second vs s' (semi ∷ rest) refl refl in
    ap (λ xs. r.group_of types cond' room (xs ++ rest)) eq ∙ ap (r.group_of types cond' room) (append_assoc first tail rest)
    ∙ group_reads types cond' room (first ++ (tail ++ rest)) t (tail ++ rest) vs rest (type_complete types first t s (tail ++ rest) ends)
    (ended_reads (separated_at (r.declarator_of types cond' room t)) second vs line rest items)

group_starts : {types : Names} {room : ℕ} {xs : List Token} {vs : List e.VarDecl} → d.SpellsGroup types room xs vs → (rest : List Token) → (starts_type types (xs ++ rest) ≡ true) × (1 ≤ length xs)
group_starts {types} (d.group line {first} {second} {t} s s' eq) rest =
    let tail = second ++ punct p.Semicolon line ∷ [] in (
      subst (λ xs. starts_type types (xs ++ rest) ≡ true) (sym eq) (subst (λ ts. starts_type types ts ≡ true) (sym (append_assoc first tail rest)) (type_starts types first t s (tail ++ rest))),
      omega (arith, ap length eq, length-append first tail, length-append second (punct p.Semicolon line ∷ [])),
    )

pub fields_start : {types : Names} {room : ℕ} {xs : List Token} {vs : List e.VarDecl} → d.SpellsFields types room xs vs → (rest : List Token) → starts_type types (xs ++ rest) ≡ true
fields_start (d.one s) rest = (group_starts s rest).0
fields_start {types} (d.more {first} {rest = tail} s others eq is) rest =
    subst (λ xs. starts_type types (xs ++ rest) ≡ true) (sym eq) (subst (λ ts. starts_type types ts ≡ true) (sym (append_assoc first tail rest)) (group_starts s (tail ++ rest)).0)

last_group : (group : Reader (List e.VarDecl)) (turns : ℕ) (ts : List Token) (vs : List e.VarDecl) (rest : List Token) → group ts ≡ Some (vs, rest) → r.at_brace rest ≡ true
    → r.groups group (suc turns) ts ≡ Some (vs, rest)
unfolding r.groups
last_group group turns ts vs rest read close = rw (read, close) refl

next_group : (group : Reader (List e.VarDecl)) (turns : ℕ) (ts after : List Token) (vs ws : List e.VarDecl) (rest : List Token) → group ts ≡ Some (vs, after) → r.at_brace after ≡ false
    → r.groups group turns after ≡ Some (ws, rest) → r.groups group (suc turns) ts ≡ Some (vs ++ ws, rest)
unfolding r.groups
next_group group turns ts after vs ws rest read close others = rw (read, close, others) refl

groups_complete : (types : Names) (cond' : ℕ → Reader e.Expr) → CondReads types cond' → {room : ℕ} {xs : List Token} {vs : List e.VarDecl} → d.SpellsFields types room xs vs → (rest : List Token) → r.at_brace rest ≡ true
    → (turns : ℕ) → length xs ≤ turns → r.groups (r.group_of types cond' room) turns (xs ++ rest) ≡ Some (vs, rest)
groups_complete types cond' reads (d.one s) rest close zero le = let some = (group_starts s rest).1 in absurd (omega arith)
groups_complete types cond' reads {room} (d.one {all} {vs} s) rest close (suc turns) le = last_group (r.group_of types cond' room) turns (all ++ rest) vs rest (group_complete types cond' reads room all vs s rest) close
groups_complete types cond' reads (d.more {first} {rest = tail} s others eq is) rest close zero le =
    let some = (group_starts s rest).1 in absurd (omega (arith, ap length eq, length-append first tail))
groups_complete types cond' reads {room} (d.more {first} {rest = tail} {all} {vs} {ws} s others eq is) rest close (suc turns) le =
    let some = (group_starts s rest).1 in
    let fewer : length tail ≤ turns = omega (arith, le, ap length eq, length-append first tail) in
    let group = r.group_of types cond' room in
    ap (λ xs. r.groups group (suc turns) (xs ++ rest)) eq ∙ ap (r.groups group (suc turns)) (append_assoc first tail rest)
    ∙ next_group group turns (first ++ (tail ++ rest)) (tail ++ rest) vs ws rest (group_complete types cond' reads room first vs s (tail ++ rest)) (type_no_brace types (tail ++ rest) (fields_start others rest))
    (groups_complete types cond' reads others rest close turns fewer)
    ∙ ap (λ vs. Some (vs, rest)) (sym is)

pub fields_complete : (types : Names) (cond' : ℕ → Reader e.Expr) → CondReads types cond' → (room : ℕ) (xs : List Token) (vs : List e.VarDecl) → d.SpellsFields types room xs vs → (rest : List Token) → r.at_brace rest ≡ true
    → r.fields_of types cond' room (xs ++ rest) ≡ Some (vs, rest)
unfolding r.fields_of
fields_complete types cond' reads room xs vs s rest close = groups_complete types cond' reads s rest close (length (xs ++ rest)) (omega (arith, length-append xs rest))

-- ---- enumerators

-- no `=` comes next, and a value may end here
abbrev EndsEnumerator : List Token → Type 0
EndsEnumerator rest = (punct_at p.Assign rest ≡ None) × (ends_value rest ≡ true)

counted_reads : (types : Names) (cond' : ℕ → Reader e.Expr) (room : ℕ) (x : List ℕ) (line : ℕ) → is_type types x ≡ false → (rest : List Token) → punct_at p.Assign rest ≡ None
    → r.enumerator_of types cond' room (name x line ∷ rest) ≡ Some (g.declared x (e.kind kind.Int) line, rest)
unfolding r.enumerator_of
counted_reads types cond' room x line new rest none = rw (new_name_reads types x line rest new, none) refl

valued_reads : (types : Names) (cond' : ℕ → Reader e.Expr) (room : ℕ) (x : List ℕ) (line line' : ℕ) → is_type types x ≡ false → (after : List Token) (a : e.Expr) (rest : List Token) → cond' room after ≡ Some (a, rest)
    → r.enumerator_of types cond' room (name x line ∷ punct p.Assign line' ∷ after) ≡ Some (g.with_init (g.declared x (e.kind kind.Int) line) a, rest)
unfolding r.enumerator_of
valued_reads types cond' room x line line' new after a rest read = rw (new_name_reads types x line (punct p.Assign line' ∷ after) new, read) refl

enumerator_complete : (types : Names) (cond' : ℕ → Reader e.Expr) → CondReads types cond' → (room : ℕ) → Complete (d.SpellsEnumerator types room) EndsEnumerator (r.enumerator_of types cond' room)
enumerator_complete types cond' reads room xs v (d.counted {line} {x} new) rest ends = counted_reads types cond' room x line new rest ends.0
enumerator_complete types cond' reads room xs v (d.valued {line} line' {x} {value} {a} new s eq is) rest ends =
    ap (λ xs. r.enumerator_of types cond' room (xs ++ rest)) eq
    ∙ valued_reads types cond' room x line line' new (value ++ rest) a rest (reads room value a s rest ends.1)
    ∙ ap (λ v. Some (v, rest)) (sym is)

enumerator_no_brace : (types : Names) (room : ℕ) (xs : List Token) (v : e.VarDecl) → d.SpellsEnumerator types room xs v → (rest : List Token) → r.at_brace (xs ++ rest) ≡ false
unfolding r.at_brace
enumerator_no_brace types room xs v (d.counted new) rest = refl
enumerator_no_brace types room xs v (d.valued {line} line' {x} {value} new s eq is) rest = subst (λ xs. r.at_brace (xs ++ rest) ≡ false) (sym eq) refl

-- an enumerator, and those after it
abbrev some_of : Reader e.VarDecl → (turns : ℕ) → Reader (List e.VarDecl)
some_of item turns ts = item ts >>= λ x. r.more_enumerators item turns x.1 >>= λ xs. Some (x.0 ∷ xs.0, xs.1)

-- what comes behind the last enumerator: a comma or none, and a brace
trail_reads : (item : Reader e.VarDecl) (turns line : ℕ) (end : List Token) → Trailing end → (rest : List Token)
    → r.more_enumerators item (suc turns) (end ++ punct p.CloseBrace line ∷ rest) ≡ Some ([], punct p.CloseBrace line ∷ rest)
unfolding r.more_enumerators r.at_brace
trail_reads item turns line end bare rest = refl
trail_reads item turns line end (comma line') rest = refl

trail_ends : (line : ℕ) (end : List Token) → Trailing end → (rest : List Token) → EndsEnumerator (end ++ punct p.CloseBrace line ∷ rest)
trail_ends line end bare rest = (refl, refl)
trail_ends line end (comma line') rest = (refl, refl)

one_read : (item : Reader e.VarDecl) (turns line : ℕ) (end : List Token) → Trailing end → (xs rest : List Token) (v : e.VarDecl) → item (xs ++ (end ++ punct p.CloseBrace line ∷ rest)) ≡ Some (v, end ++ punct p.CloseBrace line ∷ rest)
    → some_of item (suc turns) (xs ++ (end ++ punct p.CloseBrace line ∷ rest)) ≡ Some (v ∷ [], punct p.CloseBrace line ∷ rest)
one_read item turns line end trails xs rest v read = rw (read, trail_reads item turns line end trails rest) refl

more_read : (item : Reader e.VarDecl) (turns : ℕ) (ts : List Token) (v : e.VarDecl) (line : ℕ) (after : List Token) (vs : List e.VarDecl) (rest : List Token) → item ts ≡ Some (v, punct p.Comma line ∷ after)
    → r.at_brace after ≡ false → some_of item turns after ≡ Some (vs, rest) → some_of item (suc turns) ts ≡ Some (v ∷ vs, rest)
unfolding r.more_enumerators
more_read item turns ts v line after vs rest read close others = rw (read, close, others) refl

enumerators_read : (types : Names) (room : ℕ) (item : Reader e.VarDecl) → Complete (d.SpellsEnumerator types room) EndsEnumerator item → (end : List Token) → Trailing end → (line : ℕ)
    → {all : List Token} {vs : List e.VarDecl} → Separated (d.SpellsEnumerator types room) all vs → (rest : List Token) → (turns : ℕ) → length vs ≤ turns
    → some_of item turns (all ++ (end ++ punct p.CloseBrace line ∷ rest)) ≡ Some (vs, punct p.CloseBrace line ∷ rest)
enumerators_read types room item reads end trails line (Separated.one s) rest zero le = absurd (omega arith)
enumerators_read types room item reads end trails line (Separated.more line' s others eq) rest zero le = absurd (omega arith)
enumerators_read types room item reads end trails line (Separated.one {all} {x} s) rest (suc turns) le =
    one_read item turns line end trails all rest x (reads all x s (end ++ punct p.CloseBrace line ∷ rest) (trail_ends line end trails rest))
enumerators_read types room item reads end trails line (Separated.more line' {first} {rest = tail} {x} {xs = vs} s others eq) rest (suc turns) le =
    let c = punct p.Comma line' in
    let behind = end ++ punct p.CloseBrace line ∷ rest in
    ap (λ all. some_of item (suc turns) (all ++ behind)) eq ∙ ap (some_of item (suc turns)) (append_assoc first (c ∷ tail) behind)
    ∙ more_read item turns (first ++ c ∷ (tail ++ behind)) x line' (tail ++ behind) vs (punct p.CloseBrace line ∷ rest) (reads first x s (c ∷ (tail ++ behind)) (refl, refl))
    (items_begin (λ ts. r.at_brace ts ≡ false) (enumerator_no_brace types room) others behind)
    (enumerators_read types room item reads end trails line others rest turns (omega arith))

separated_length : {X : Type 0} {Item : List Token → X → Type 0} {all : List Token} {xs : List X} → Separated Item all xs → length xs ≤ suc (length all)
separated_length (Separated.one s) = omega arith
separated_length (Separated.more line {first} {rest} s others eq) = omega (arith, separated_length others, ap length eq, length-append first (punct p.Comma line ∷ rest))

some_read : (types : Names) (room : ℕ) (item : Reader e.VarDecl) → Complete (d.SpellsEnumerator types room) EndsEnumerator item → (end : List Token) → Trailing end → (line : ℕ)
    → (all : List Token) (vs : List e.VarDecl) → Separated (d.SpellsEnumerator types room) all vs → (rest : List Token)
    → r.some_enumerators item (all ++ (end ++ punct p.CloseBrace line ∷ rest)) ≡ Some (vs, punct p.CloseBrace line ∷ rest)
some_read types room item reads end trails line all vs (Separated.one {x} s) rest =
    let behind = end ++ punct p.CloseBrace line ∷ rest in
    let first_read = reads all x s behind (trail_ends line end trails rest) in
    let enough : 1 ≤ length behind = omega (arith, length-append end (punct p.CloseBrace line ∷ rest)) in
    let top : r.some_enumerators item (all ++ behind) ≡ some_of item (length behind) (all ++ behind) = rw first_read refl in
    top ∙ enumerators_read types room item reads end trails line (Separated.one s) rest (length behind) enough
some_read types room item reads end trails line all vs (Separated.more line' {first} {rest = tail} {x} {xs = ys} s others eq) rest =
    let c = punct p.Comma line' in
    let behind = end ++ punct p.CloseBrace line ∷ rest in
    let after = c ∷ (tail ++ behind) in
    let enough : length (x ∷ ys) ≤ length after = omega (arith, separated_length others, length-append tail behind, length-append end (punct p.CloseBrace line ∷ rest)) in
    let first_read : item (all ++ behind) ≡ Some (x, after) = ap (λ all. item (all ++ behind)) eq ∙ ap item (append_assoc first (c ∷ tail) behind) ∙ reads first x s after (refl, refl) in
    let top : r.some_enumerators item (all ++ behind) ≡ some_of item (length after) (all ++ behind) = rw first_read refl in
    top ∙ enumerators_read types room item reads end trails line (Separated.more line' s others eq) rest (length after) enough

enclosed_reads : (types : Names) (cond' : ℕ → Reader e.Expr) → CondReads types cond' → (room : ℕ) (line line' line'' : ℕ) (inside end : List Token) → Trailing end → (vs : List e.VarDecl)
    → Separated (d.SpellsEnumerator types room) inside vs → (rest : List Token)
    → r.enumerators_of types cond' (suc room) (punct p.OpenBrace line ∷ (inside ++ (end ++ punct p.CloseBrace line' ∷ punct p.Semicolon line'' ∷ rest))) ≡ Some (vs, rest)
unfolding r.enumerators_of r.enumerated
enclosed_reads types cond' reads room line line' line'' inside end trails vs s rest =
    let roomed : (suc room == 0) ≡ false = grind (arith, nat_tests) in
    let less : suc room - 1 ≡ room = omega arith in
    let read = some_read types room (r.enumerator_of types cond' room) (enumerator_complete types cond' reads room) end trails line' inside vs s (punct p.Semicolon line'' ∷ rest) in
    rw (roomed, less, read) refl

pub enumerators_complete : (types : Names) (cond' : ℕ → Reader e.Expr) → CondReads types cond' → (room : ℕ) (xs : List Token) (vs : List e.VarDecl) → d.SpellsEnumerators types room xs vs → (rest : List Token)
    → r.enumerators_of types cond' room (xs ++ rest) ≡ Some (vs, rest)
enumerators_complete types cond' reads room xs vs (d.enumerators {room = less} line line' line'' {inside} s eq) rest =
    let tail = punct p.CloseBrace line' ∷ punct p.Semicolon line'' ∷ [] in
    ap (λ xs. r.enumerators_of types cond' (suc less) (xs ++ rest)) eq ∙ ap (λ ts. r.enumerators_of types cond' (suc less) (punct p.OpenBrace line ∷ ts)) (append_assoc inside tail rest)
    ∙ enclosed_reads types cond' reads less line line' line'' inside [] bare vs s rest
enumerators_complete types cond' reads room xs vs (d.trailing {room = less} line line' line'' line''' {inside} s eq) rest =
    let tail = punct p.Comma line' ∷ punct p.CloseBrace line'' ∷ punct p.Semicolon line''' ∷ [] in
    ap (λ xs. r.enumerators_of types cond' (suc less) (xs ++ rest)) eq ∙ ap (λ ts. r.enumerators_of types cond' (suc less) (punct p.OpenBrace line ∷ ts)) (append_assoc inside tail rest)
    ∙ enclosed_reads types cond' reads less line line'' line''' inside (punct p.Comma line' ∷ []) (comma line') vs s rest

-- ---- linkage

start_no_link : (types : Names) (kind : TokenKind) → kind_starts types kind ≡ true → r.links kind ≡ false
start_no_link types (k.Word w.Extern) h = absurd cc
start_no_link types (k.Word w.Static) h = absurd cc
start_no_link types (k.Word _) h = refl
start_no_link types _ h = refl

none_links : (types : Names) (rest : List Token) → starts_type types rest ≡ true → r.linkage_at rest ≡ rest
unfolding starts_type r.linkage_at
none_links types [] h = refl
none_links types (x ∷ rest) h = let no_link = start_no_link types x.kind h in rw no_link refl

pub linkage_complete : (types : Names) (xs : List Token) → d.SpellsLinkage xs → (rest : List Token) → starts_type types rest ≡ true → r.linkage_at (xs ++ rest) ≡ rest
unfolding r.linkage_at
linkage_complete types xs d.none rest h = none_links types rest h
linkage_complete types xs d.extern rest h = refl
linkage_complete types xs d.static rest h = refl
