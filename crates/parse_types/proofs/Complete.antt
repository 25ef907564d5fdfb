-- The readers of types read whatever is spelled.
use Rattle.std.proofs.Common.{◌≡◌, ℕ, zero, suc, ◌≤◌, Bool, true, false, not, ◌||◌, ◌&&◌, List, [], ◌∷◌, ◌++◌, length, Some, None, refl, sym, ap, ◌∙◌, subst, arith, append_assoc, length-append}
use Rattle.wp_base.specs.declared.kinds.Kind.{Kind}
use Rattle.c_syntax.specs.declared.token.Token.{Token}
use Rattle.c_syntax.specs.declared.token.TokenKind.{TokenKind}
use Rattle.c_syntax.specs.declared.token.TokenKind.TheVariants as k
use Rattle.c_syntax.specs.declared.token.Word.{Word}
use Rattle.c_syntax.specs.declared.token.Word.TheVariants as w
use Rattle.c_syntax.specs.declared.token.Punct.TheVariants as p
use Rattle.c_syntax.specs.Expr as e
use Rattle.c_grammar.specs.Tokens.{Names, word}
use Rattle.c_grammar.specs.Types as g
use Rattle.c_grammar.specs.Reading.{punct_at, punct_by, past}
use Rattle.parse_types.specs.Read as r
use Rattle.parse_types.proofs.Tokens.{kind_not_const, kind_word_starts, kind_worded}

-- ---- what may come next

-- no word of a kind comes next
abbrev NoWord : List Token → Type 0
NoWord [] = Unit {0}
NoWord (t ∷ ts) = r.kind_word t.kind ≡ None

-- no `const` comes next
abbrev NoConst : List Token → Type 0
NoConst ts = r.begins r.is_const ts ≡ false

word_stops : (v : Word) → not (r.word_goes_on v) ≡ true → (g.is_kind_word v ≡ false) × (r.is_const (k.Word v) ≡ false)
word_stops w.Const h = absurd cc
word_stops w.Bool h = absurd cc
word_stops w.Char h = absurd cc
word_stops w.Int h = absurd cc
word_stops w.Long h = absurd cc
word_stops w.Short h = absurd cc
word_stops w.Signed h = absurd cc
word_stops w.Unsigned h = absurd cc
word_stops _ h = (refl, refl)

kind_stops : (kind : TokenKind) → not (r.goes_on kind) ≡ true → (r.kind_word kind ≡ None) × (r.is_const kind ≡ false)
kind_stops (k.Word v) h = let x = word_stops v h in (rw x.0 refl, x.1)
kind_stops _ h = (refl, refl)

type_stops : (ts : List Token) → r.ends_type ts ≡ true → NoWord ts × NoConst ts
unfolding r.ends_type
type_stops [] h = (tt, refl)
type_stops (t ∷ ts) h = kind_stops t.kind h

neither : (a b c : Bool) → not (a || b) ≡ true → (not a ≡ true) × (not (b || (false && c)) ≡ true)
neither false false c h = (refl, refl)
neither false true c h = absurd cc
neither true b c h = absurd cc

pub type_name_stops : (ts : List Token) → r.ends_type_name ts ≡ true → (r.ends_type ts ≡ true) × (r.ends_stars false ts ≡ true)
unfolding r.ends_type_name r.ends_type r.ends_stars
type_name_stops ts h = neither (r.begins r.goes_on ts) (r.begins r.is_star ts) (r.begins r.is_const ts) h

-- ---- what comes in any number

abbrev with_rest : {X : Type 0} → X → List Token → X × List Token
with_rest x rest = (x, rest)

words_complete : {xs : List Token} {ws : List Word} → g.SpellsWords xs ws → (rest : List Token) → NoWord rest → r.words_at (xs ++ rest) ≡ with_rest ws rest
unfolding r.words_at
words_complete g.none [] stops = refl
words_complete g.none (t ∷ ts) stops = rw stops refl
words_complete (g.more is s) rest stops = rw (is, words_complete s rest stops) refl

consts_complete : {xs : List Token} {some : Bool} → g.SpellsConsts xs some → (rest : List Token) → NoConst rest → r.consts_at (xs ++ rest) ≡ with_rest some rest
unfolding r.consts_at
consts_complete g.none [] stops = refl
consts_complete g.none (t ∷ ts) stops = rw stops refl
consts_complete (g.more s) rest stops = rw (consts_complete s rest stops) refl

consts_stop : {xs : List Token} {some : Bool} → g.SpellsConsts xs some → (rest : List Token) → NoWord rest → NoWord (xs ++ rest)
consts_stop g.none rest stops = stops
consts_stop (g.more s) rest stops = refl

-- ---- types

kind_complete : {xs : List Token} {ws : List Word} → g.SpellsWords xs ws → (kind : Kind) → g.kind_of ws ≡ Some kind → (rest : List Token) → NoWord rest → r.kind_at (xs ++ rest) ≡ Some (kind, rest)
unfolding r.kind_at
kind_complete s kind is rest stops = rw (words_complete s rest stops, is) refl

no_kind : (kind : Kind) → g.kind_of [] ≡ Some kind → ⊥
unfolding g.kind_of g.kind_rows
no_kind kind h = cc

kinds_complete : (types : Names) {xs : List Token} {ws : List Word} → g.SpellsWords xs ws → (kind : Kind) → g.kind_of ws ≡ Some kind → (rest : List Token) → NoWord rest
    → (r.specifier_at types (xs ++ rest) ≡ Some (e.kind kind, rest)) × (r.starts_type types (xs ++ rest) ≡ true) × NoConst (xs ++ rest)
unfolding r.specifier_at r.starts_type
kinds_complete types g.none kind is rest stops = absurd (no_kind kind is)
kinds_complete types (g.more {line} {v} {rest = xs} {ws} word_is s) kind is rest stops =
    let read = kind_complete (g.more {line = line} word_is s) kind is rest stops in (
      kind_worded v word_is (word v line ∷ (xs ++ rest)) (xs ++ rest) ∙ rw read refl,
      kind_word_starts v word_is,
      kind_not_const v word_is,
    )

specifier_complete : {types : Names} {xs : List Token} {t : e.CType} → g.SpellsSpecifier types xs t → (rest : List Token) → NoWord rest
    → (r.specifier_at types (xs ++ rest) ≡ Some (t, rest)) × (r.starts_type types (xs ++ rest) ≡ true) × NoConst (xs ++ rest)
unfolding r.specifier_at r.starts_type
specifier_complete {types} (g.kind_words {all} {ws} {k = kind} s is) rest stops = kinds_complete types s kind is rest stops
specifier_complete g.void rest stops = (refl, refl, refl)
specifier_complete g.struct_of rest stops = (refl, refl, refl)
specifier_complete g.enum_of rest stops = (refl, refl, refl)
specifier_complete (g.named is) rest stops = (rw is refl, is, refl)

pub type_complete : (types : Names) (xs : List Token) (t : e.CType) → g.SpellsType types xs t → (rest : List Token) → r.ends_type rest ≡ true → r.type_at types (xs ++ rest) ≡ Some (t, rest)
unfolding r.type_at
type_complete types xs t (g.type {before} {after} {first} {middle} {last} {all} {t = u} {t' = u'} s s' s'' eq is) rest ends =
    let stops = type_stops rest ends in
    let regrouped : (first ++ (middle ++ last)) ++ rest ≡ first ++ (middle ++ (last ++ rest)) = simp append_assoc in
    let two = specifier_complete s' (last ++ rest) (consts_stop s'' rest stops.0) in
    let one = consts_complete s (middle ++ (last ++ rest)) two.2 in
    let three = consts_complete s'' rest stops.1 in
    ap (λ all. r.type_at types (all ++ rest)) eq ∙ ap (r.type_at types) regrouped ∙ rw (one, two.0, three, is) refl

consts_start : (types : Names) {xs : List Token} {some : Bool} → g.SpellsConsts xs some → (rest : List Token) → r.starts_type types rest ≡ true → r.starts_type types (xs ++ rest) ≡ true
unfolding r.starts_type
consts_start types g.none rest h = h
consts_start types (g.more s) rest h = refl

words_start : (types : Names) {xs : List Token} {ws : List Word} → g.SpellsWords xs ws → (kind : Kind) → g.kind_of ws ≡ Some kind → (rest : List Token) → r.starts_type types (xs ++ rest) ≡ true
unfolding r.starts_type
words_start types g.none kind is rest = absurd (no_kind kind is)
words_start types (g.more {line} {v} word_is s) kind is rest = kind_word_starts v word_is

specifier_starts : {types : Names} {xs : List Token} {t : e.CType} → g.SpellsSpecifier types xs t → (rest : List Token) → r.starts_type types (xs ++ rest) ≡ true
unfolding r.starts_type
specifier_starts {types} (g.kind_words {all} {ws} {k = kind} s is) rest = words_start types s kind is rest
specifier_starts g.void rest = refl
specifier_starts g.struct_of rest = refl
specifier_starts g.enum_of rest = refl
specifier_starts (g.named is) rest = is

pub type_starts : (types : Names) (xs : List Token) (t : e.CType) → g.SpellsType types xs t → (rest : List Token) → r.starts_type types (xs ++ rest) ≡ true
type_starts types xs t (g.type {before} {after} {first} {middle} {last} {all} s s' s'' eq is) rest =
    let regrouped : first ++ (middle ++ (last ++ rest)) ≡ (first ++ (middle ++ last)) ++ rest = simp append_assoc in
    subst (λ xs. r.starts_type types (xs ++ rest) ≡ true) (sym eq) (subst (λ xs. r.starts_type types xs ≡ true) regrouped (consts_start types s (middle ++ (last ++ rest)) (specifier_starts s' (last ++ rest))))

-- ---- stars

star_stops : (consts : Bool) (kind : TokenKind) (line : ℕ) (ts : List Token) → not (r.is_star kind || (consts && r.is_const kind)) ≡ true → (punct_by p.Star line kind ts ≡ None) × ((consts && r.is_const kind) ≡ false)
star_stops consts (k.Punct p.Star) line ts h = absurd cc
star_stops true (k.Punct _) line ts h = (refl, refl)
star_stops false (k.Punct _) line ts h = (refl, refl)
star_stops true (k.Word w.Const) line ts h = absurd cc
star_stops true (k.Word _) line ts h = (refl, refl)
star_stops true _ line ts h = (refl, refl)
star_stops false _ line ts h = (refl, refl)

stars_stop : (consts : Bool) (ts : List Token) → r.ends_stars consts ts ≡ true → (punct_at p.Star ts ≡ None) × (r.const_at consts ts ≡ with_rest false ts)
unfolding r.ends_stars r.const_at
stars_stop consts [] h = (refl, refl)
stars_stop consts (t ∷ ts) h = let x = star_stops consts t.kind t.line ts h in (x.0, rw (x.1) refl)

no_const : {consts : Bool} {xs : List Token} {t t' : e.CType} → g.SpellsStars consts xs t t' → (rest : List Token) → r.ends_stars consts rest ≡ true → r.const_at consts (xs ++ rest) ≡ with_rest false (xs ++ rest)
unfolding r.const_at
no_const {consts} g.none rest ends = (stars_stop consts rest ends).1
no_const {consts = true} (g.star s) rest ends = refl
no_const {consts = false} (g.star s) rest ends = refl
no_const {consts = true} (g.const_star is s) rest ends = refl
no_const {consts = false} (g.const_star is s) rest ends = refl

const_taken : (consts : Bool) (line : ℕ) (ts : List Token) → consts ≡ true → r.const_at consts (word w.Const line ∷ ts) ≡ with_rest true ts
unfolding r.const_at
const_taken true line ts h = refl
const_taken false line ts h = absurd cc

more_stars_complete : {consts : Bool} {xs : List Token} {t t' : e.CType} → g.SpellsStars consts xs t t' → (rest : List Token) → r.ends_stars consts rest ≡ true → (turns : ℕ) → length xs ≤ turns
    → r.more_stars consts turns t (xs ++ rest) ≡ Some (t', rest)
unfolding r.more_stars
more_stars_complete {consts} g.none rest ends zero le = refl
more_stars_complete {consts} g.none rest ends (suc turns) le = rw ((stars_stop consts rest ends).0) refl
more_stars_complete (g.star s) rest ends zero le = absurd (omega arith)
more_stars_complete (g.star s) rest ends (suc turns) le = rw (no_const s rest ends, more_stars_complete s rest ends turns (omega arith)) refl
more_stars_complete (g.const_star is s) rest ends zero le = absurd (omega arith)
more_stars_complete {consts} (g.const_star {line} {line'} {rest = xs} is s) rest ends (suc turns) le = rw (const_taken consts line' (xs ++ rest) is, more_stars_complete s rest ends turns (omega arith)) refl

pub stars_complete : (consts : Bool) (xs : List Token) (t t' : e.CType) → g.SpellsStars consts xs t t' → (rest : List Token) → r.ends_stars consts rest ≡ true → r.stars_at consts t (xs ++ rest) ≡ Some (t', rest)
unfolding r.stars_at
stars_complete consts xs t t' s rest ends = more_stars_complete s rest ends (length (xs ++ rest)) (omega (arith, length-append xs rest))

-- ---- names of types

stars_end_type : {consts : Bool} {xs : List Token} {t t' : e.CType} → g.SpellsStars consts xs t t' → (rest : List Token) → r.ends_type rest ≡ true → r.ends_type (xs ++ rest) ≡ true
unfolding r.ends_type
stars_end_type g.none rest ends = ends
stars_end_type (g.star s) rest ends = refl
stars_end_type (g.const_star is s) rest ends = refl

pub type_name_complete : (types : Names) (xs : List Token) (t : e.CType) → g.SpellsTypeName types xs t → (rest : List Token) → r.ends_type_name rest ≡ true → r.type_name_at types (xs ++ rest) ≡ Some (t, rest)
unfolding r.type_name_at
type_name_complete types xs t (g.type_name {first} {last} {all} {t = u} {t' = u'} s s' eq) rest ends =
    let stops = type_name_stops rest ends in
    let one = type_complete types first u s (last ++ rest) (stars_end_type s' rest stops.0) in
    ap (λ all. r.type_name_at types (all ++ rest)) eq ∙ ap (r.type_name_at types) (append_assoc first last rest)
    ∙ rw one (stars_complete false last u u' s' rest stops.1)

pub type_name_starts : (types : Names) (xs : List Token) (t : e.CType) → g.SpellsTypeName types xs t → (rest : List Token) → r.starts_type types (xs ++ rest) ≡ true
type_name_starts types xs t (g.type_name {first} {last} {all} {t = u} {t' = u'} s s' eq) rest =
    subst (λ xs. r.starts_type types (xs ++ rest) ≡ true) (sym eq) (subst (λ xs. r.starts_type types xs ≡ true) (sym (append_assoc first last rest)) (type_starts types first u s (last ++ rest)))

-- ---- no bracket and no `..` in types

-- these tokens open and close nothing
abbrev Neutral : List Token → Type 0
Neutral xs = (depth : ℕ) (found : Bool) (rest : List Token) → past depth found (xs ++ rest) ≡ past depth found rest

both_neutral : (xs ys : List Token) → Neutral xs → Neutral ys → Neutral (xs ++ ys)
both_neutral xs ys a b depth found rest = ap (past depth found) (append_assoc xs ys rest) ∙ a depth found (ys ++ rest) ∙ b depth found rest

words_neutral : {xs : List Token} {ws : List Word} → g.SpellsWords xs ws → Neutral xs
words_neutral g.none depth found rest = refl
words_neutral (g.more is s) depth found rest = words_neutral s depth found rest

consts_neutral : {xs : List Token} {some : Bool} → g.SpellsConsts xs some → Neutral xs
consts_neutral g.none depth found rest = refl
consts_neutral (g.more s) depth found rest = consts_neutral s depth found rest

specifier_neutral : {types : Names} {xs : List Token} {t : e.CType} → g.SpellsSpecifier types xs t → Neutral xs
specifier_neutral (g.kind_words s is) depth found rest = words_neutral s depth found rest
specifier_neutral g.void depth found rest = refl
specifier_neutral g.struct_of depth found rest = refl
specifier_neutral g.enum_of depth found rest = refl
specifier_neutral (g.named is) depth found rest = refl

pub type_neutral : (types : Names) (xs : List Token) (t : e.CType) → g.SpellsType types xs t → (depth : ℕ) (found : Bool) (rest : List Token) → past depth found (xs ++ rest) ≡ past depth found rest
type_neutral types xs t (g.type {before} {after} {first} {middle} {last} {all} s s' s'' eq is) depth found rest =
    ap (λ all. past depth found (all ++ rest)) eq
    ∙ both_neutral first (middle ++ last) (consts_neutral s) (both_neutral middle last (specifier_neutral s') (consts_neutral s'')) depth found rest

pub stars_neutral : {consts : Bool} {xs : List Token} {t t' : e.CType} → g.SpellsStars consts xs t t' → (depth : ℕ) (found : Bool) (rest : List Token) → past depth found (xs ++ rest) ≡ past depth found rest
stars_neutral g.none depth found rest = refl
stars_neutral (g.star s) depth found rest = stars_neutral s depth found rest
stars_neutral (g.const_star is s) depth found rest = stars_neutral s depth found rest

pub type_name_neutral : (types : Names) (xs : List Token) (t : e.CType) → g.SpellsTypeName types xs t → (depth : ℕ) (found : Bool) (rest : List Token) → past depth found (xs ++ rest) ≡ past depth found rest
type_name_neutral types xs t (g.type_name {first} {last} {all} {t = u} {t' = u'} s s' eq) depth found rest =
    ap (λ all. past depth found (all ++ rest)) eq ∙ both_neutral first last (type_neutral types first u s) (stars_neutral s') depth found rest
