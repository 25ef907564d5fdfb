-- The readers of declarations read whatever is spelled.
use Rattle.std.proofs.Common.{◌≡◌, ℕ, zero, suc, ◌+◌, ◌-◌, ◌≤◌, ◌==◌, Bool, true, false, cond, List, [], ◌∷◌, ◌++◌, length, Option, Some, None, refl, sym, ap, ◌∙◌, subst, arith, append_assoc, length-append}
use Rattle.std.proofs.lemmas.Bool.Decides.{nat_tests}
use Rattle.wp_base.specs.declared.kinds.Kind.TheVariants as kind
use Rattle.c_syntax.specs.declared.token.Token.{Token}
use Rattle.c_syntax.specs.declared.token.Word.TheVariants as w
use Rattle.c_syntax.specs.declared.token.Punct.TheVariants as p
use Rattle.c_syntax.specs.Expr as e
use Rattle.c_grammar.specs.Tokens.{Names, is_type, punct, word, name, first_line}
use Rattle.c_grammar.specs.Types.{SpellsType, SpellsStars}
use Rattle.c_grammar.specs.Lists.{Separated}
use Rattle.c_grammar.specs.Exprs.{SpellsCond, SpellsExpr}
use Rattle.c_grammar.specs.Declarators as g
use Rattle.c_grammar.specs.Decls as d
use Rattle.c_grammar.specs.Reading.{Reader, ◌>>=◌, punct_at, word_at, name_at, new_name_at}
use Rattle.c_grammar.specs.ListReaders.{separated_at}
use Rattle.c_grammar.proofs.Separating.{separated_complete}
use Rattle.c_grammar.specs.Exactness.{Complete}
use Rattle.parse_types.specs.Read.{type_at, stars_at, starts_type, ends_type, ends_stars}
use Rattle.parse_types.proofs.Laws.{type_complete, stars_complete, type_starts}
use Rattle.parse_decls.specs.Read as r
use Rattle.parse_decls.proofs.Parts.{Parts, ends_value}

-- ---- tokens

-- a conditional is read where a value may end
abbrev pub CondReads : Names → (ℕ → Reader e.Expr) → Type 0
CondReads types cond' = (room : ℕ) (xs : List Token) (a : e.Expr) → SpellsCond types room xs a → (rest : List Token) → ends_value rest ≡ true → cond' room (xs ++ rest) ≡ Some (a, rest)

pub new_name_reads : (types : Names) (x : List ℕ) (line : ℕ) (rest : List Token) → is_type types x ≡ false → new_name_at types (name x line ∷ rest) ≡ Some ((x, line), rest)
new_name_reads types x line rest new = rw new refl

-- a name ends stars and a type
pub stars_end : (x : List ℕ) (line : ℕ) (rest : List Token) → ends_stars true (name x line ∷ rest) ≡ true
unfolding ends_stars
stars_end x line rest = refl

pub type_end : (x : List ℕ) (line : ℕ) (rest : List Token) → ends_type (name x line ∷ rest) ≡ true
unfolding ends_type
type_end x line rest = refl

pub stars_end_type : {consts : Bool} {xs : List Token} {t t' : e.CType} → SpellsStars consts xs t t' → (rest : List Token) → ends_type rest ≡ true → ends_type (xs ++ rest) ≡ true
unfolding ends_type
stars_end_type SpellsStars.none rest ends = ends
stars_end_type (SpellsStars.star s) rest ends = refl
stars_end_type (SpellsStars.const_star is s) rest ends = refl

-- ---- declarators

pub length_reads : (types : Names) (cond' : ℕ → Reader e.Expr) → CondReads types cond' → (room : ℕ) (inside : List Token) (n : e.Expr) → SpellsCond types room inside n
    → (line : ℕ) (rest : List Token) → r.length_of cond' (suc room) (inside ++ punct p.CloseBracket line ∷ rest) ≡ Some (n, rest)
unfolding r.length_of
length_reads types cond' reads room inside n s line rest =
    let roomed : (suc room == 0) ≡ false = grind (arith, nat_tests) in
    let less : suc room - 1 ≡ room = omega arith in
    rw (roomed, less, reads room inside n s (punct p.CloseBracket line ∷ rest) refl) refl

-- no bracket comes next
abbrev pub NoBracket : List Token → Type 0
NoBracket rest = punct_at p.OpenBracket rest ≡ None

plain_reads : (types : Names) (cond' : ℕ → Reader e.Expr) (room : ℕ) (base t : e.CType) (first : List Token) (x : List ℕ) (line : ℕ) → SpellsStars true first base t → is_type types x ≡ false
    → (rest : List Token) → NoBracket rest → r.declarator_of types cond' room base ((first ++ name x line ∷ []) ++ rest) ≡ Some (g.declared x t line, rest)
unfolding r.declarator_of
plain_reads types cond' room base t first x line s new rest none =
    ap (λ ts. r.declarator_of types cond' room base ts) (append_assoc first (name x line ∷ []) rest)
    ∙ rw (stars_complete true first base t s (name x line ∷ rest) (stars_end x line rest), new_name_reads types x line rest new, none) refl

array_reads : (types : Names) (cond' : ℕ → Reader e.Expr) → CondReads types cond' → (room : ℕ) (base t : e.CType) (first : List Token) (x : List ℕ) (line line' line'' : ℕ) (inside : List Token) (n : e.Expr)
    → SpellsStars true first base t → is_type types x ≡ false → SpellsCond types room inside n
    → (rest : List Token) → r.declarator_of types cond' (suc room) base ((first ++ name x line ∷ punct p.OpenBracket line' ∷ (inside ++ punct p.CloseBracket line'' ∷ [])) ++ rest) ≡ Some (g.declared x (e.array t n) line, rest)
unfolding r.declarator_of
array_reads types cond' reads room base t first x line line' line'' inside n s new s' rest =
    let open' = punct p.OpenBracket line' in
    let close' = punct p.CloseBracket line'' in
    let after = open' ∷ (inside ++ close' ∷ rest) in
    let regrouped : (first ++ name x line ∷ open' ∷ (inside ++ close' ∷ [])) ++ rest ≡ first ++ name x line ∷ after = simp append_assoc in
    ap (λ ts. r.declarator_of types cond' (suc room) base ts) regrouped
    ∙ rw (stars_complete true first base t s (name x line ∷ after) (stars_end x line after), new_name_reads types x line after new, length_reads types cond' reads room inside n s' line'' rest) refl

pub declarator_complete : (types : Names) (cond' : ℕ → Reader e.Expr) → CondReads types cond' → (room : ℕ) (base : e.CType) → Complete (g.SpellsDeclarator types room base) NoBracket (r.declarator_of types cond' room base)
declarator_complete types cond' reads room base xs v (g.plain {line} {t} {x} {first} s new eq) rest none =
    ap (λ xs. r.declarator_of types cond' room base (xs ++ rest)) eq ∙ plain_reads types cond' room base t first x line s new rest none
declarator_complete types cond' reads room base xs v (g.array {room = less} {line} line' line'' {t} {x} {first} {inside} {n} s new s' eq) rest none =
    ap (λ xs. r.declarator_of types cond' (suc less) base (xs ++ rest)) eq ∙ array_reads types cond' reads less base t first x line line' line'' inside n s new s' rest

-- ---- variables

-- no bracket and no `=` comes next, and a value may end here
abbrev pub EndsVariable : List Token → Type 0
EndsVariable rest = (punct_at p.OpenBracket rest ≡ None) × (punct_at p.Assign rest ≡ None) × (ends_value rest ≡ true)

bare_reads : (types : Names) (cond' expr' : ℕ → Reader e.Expr) (room : ℕ) (base : e.CType) (ts : List Token) (v : e.VarDecl) (rest : List Token)
    → r.declarator_of types cond' room base ts ≡ Some (v, rest) → punct_at p.Assign rest ≡ None → r.initialised_of types cond' expr' room base ts ≡ Some (v, rest)
unfolding r.initialised_of
bare_reads types cond' expr' room base ts v rest read none = rw (read, none) refl

given_reads : (types : Names) (cond' expr' : ℕ → Reader e.Expr) (room : ℕ) (base : e.CType) (ts : List Token) (v : e.VarDecl) (line : ℕ) (after : List Token) (a : e.Expr) (rest : List Token)
    → r.declarator_of types cond' room base ts ≡ Some (v, punct p.Assign line ∷ after) → expr' room after ≡ Some (a, rest) → r.initialised_of types cond' expr' room base ts ≡ Some (g.with_init v a, rest)
unfolding r.initialised_of
given_reads types cond' expr' room base ts v line after a rest read value = rw (read, value) refl

pub initialised_complete : (types : Names) (cond' expr' : ℕ → Reader e.Expr) → Parts types cond' expr' → (room : ℕ) (base : e.CType)
    → Complete (g.SpellsInitialised types room base) EndsVariable (r.initialised_of types cond' expr' room base)
initialised_complete types cond' expr' parts room base xs v (g.bare s) rest ends =
    bare_reads types cond' expr' room base (xs ++ rest) v rest (declarator_complete types cond' parts.cond_complete room base xs v s rest ends.0) ends.1
initialised_complete types cond' expr' parts room base xs v (g.initialised line {first} {value} {v = u} {a} s s' eq is) rest ends =
    let tok = punct p.Assign line in
    let read = declarator_complete types cond' parts.cond_complete room base first u s (tok ∷ (value ++ rest)) refl in
    ap (λ xs. r.initialised_of types cond' expr' room base (xs ++ rest)) eq ∙ ap (r.initialised_of types cond' expr' room base) (append_assoc first (tok ∷ value) rest)
    ∙ given_reads types cond' expr' room base (first ++ tok ∷ (value ++ rest)) u line (value ++ rest) a rest read (parts.expr_complete room value a s' rest ends.2)
    ∙ ap (λ v. Some (v, rest)) (sym is)

-- a list that ends before a semicolon
pub ended_reads : {X : Type 0} (items : Reader (List X)) (inside : List Token) (xs : List X) (line : ℕ) (rest : List Token)
    → items (inside ++ punct p.Semicolon line ∷ rest) ≡ Some (xs, punct p.Semicolon line ∷ rest) → r.ended items ((inside ++ punct p.Semicolon line ∷ []) ++ rest) ≡ Some (xs, rest)
ended_reads items inside xs line rest read =
    ap (λ ts. r.ended items ts) (append_assoc inside (punct p.Semicolon line ∷ []) rest) ∙ rw read refl

pub variables_after_complete : (types : Names) (cond' expr' : ℕ → Reader e.Expr) → Parts types cond' expr' → (room : ℕ) (base : e.CType) (inside : List Token) (vs : List e.VarDecl)
    → Separated (g.SpellsInitialised types room base) inside vs → (line : ℕ) (rest : List Token)
    → r.variables_after_of types cond' expr' room base ((inside ++ punct p.Semicolon line ∷ []) ++ rest) ≡ Some (vs, rest)
unfolding r.variables_after_of
variables_after_complete types cond' expr' parts room base inside vs s line rest =
    ended_reads (separated_at (r.initialised_of types cond' expr' room base)) inside vs line rest
    (separated_complete (g.SpellsInitialised types room base) EndsVariable (r.initialised_of types cond' expr' room base) (initialised_complete types cond' expr' parts room base)
    (λ line ts. (refl, refl, refl)) inside vs s (punct p.Semicolon line ∷ rest) (refl, refl, refl) refl)

pub declarator_ends_type : {types : Names} {room : ℕ} {base : e.CType} {xs : List Token} {v : e.VarDecl} → g.SpellsDeclarator types room base xs v → (rest : List Token) → ends_type (xs ++ rest) ≡ true
declarator_ends_type (g.plain {line} {x} {first} s new eq) rest =
    subst (λ xs. ends_type (xs ++ rest) ≡ true) (sym eq)
    (subst (λ ts. ends_type ts ≡ true) (sym (append_assoc first (name x line ∷ []) rest)) (stars_end_type s (name x line ∷ rest) (type_end x line rest)))
declarator_ends_type (g.array {line} line' line'' {x} {first} {inside} s new s' eq) rest =
    let tail = punct p.OpenBracket line' ∷ (inside ++ punct p.CloseBracket line'' ∷ []) in
    subst (λ xs. ends_type (xs ++ rest) ≡ true) (sym eq)
    (subst (λ ts. ends_type ts ≡ true) (sym (append_assoc first (name x line ∷ tail) rest)) (stars_end_type s (name x line ∷ (tail ++ rest)) (type_end x line (tail ++ rest))))

initialised_ends_type : {types : Names} {room : ℕ} {base : e.CType} {xs : List Token} {v : e.VarDecl} → g.SpellsInitialised types room base xs v → (rest : List Token) → ends_type (xs ++ rest) ≡ true
initialised_ends_type (g.bare s) rest = declarator_ends_type s rest
initialised_ends_type (g.initialised line {first} {value} s s' eq is) rest =
    let tail = punct p.Assign line ∷ value in
    subst (λ xs. ends_type (xs ++ rest) ≡ true) (sym eq) (subst (λ ts. ends_type ts ≡ true) (sym (append_assoc first tail rest)) (declarator_ends_type s (tail ++ rest)))

-- what begins with an item begins as the item does
pub items_begin : {X : Type 0} {Item : List Token → X → Type 0} (P : List Token → Type 0) → ((xs : List Token) (x : X) → Item xs x → (rest : List Token) → P (xs ++ rest))
    → {all : List Token} {xs : List X} → Separated Item all xs → (rest : List Token) → P (all ++ rest)
items_begin P item (Separated.one {all} {x} s) rest = item all x s rest
items_begin P item (Separated.more line {first} {rest = tail} {x} s others eq) rest =
    subst (λ all. P (all ++ rest)) (sym eq) (subst P (sym (append_assoc first (punct p.Comma line ∷ tail) rest)) (item first x s (punct p.Comma line ∷ (tail ++ rest))))

typed_reads : (types : Names) (cond' expr' : ℕ → Reader e.Expr) (room : ℕ) (ts : List Token) (t : e.CType) (after : List Token) (vs : List e.VarDecl) (rest : List Token) → type_at types ts ≡ Some (t, after)
    → r.variables_after_of types cond' expr' room t after ≡ Some (vs, rest) → r.variables_of types cond' expr' room ts ≡ Some (vs, rest)
unfolding r.variables_of
typed_reads types cond' expr' room ts t after vs rest read others = rw read others

pub variables_complete : (types : Names) (cond' expr' : ℕ → Reader e.Expr) → Parts types cond' expr' → (room : ℕ) (xs : List Token) (vs : List e.VarDecl) → g.SpellsVariables types room xs vs
    → (rest : List Token) → r.variables_of types cond' expr' room (xs ++ rest) ≡ Some (vs, rest)
variables_complete types cond' expr' parts room xs vs (g.variables line {first} {second} {t} s s' eq) rest =
    let tail = second ++ punct p.Semicolon line ∷ [] in
    let ends : ends_type (tail ++ rest) ≡ true =
    subst (λ ts. ends_type ts ≡ true) (sym (append_assoc second (punct p.Semicolon line ∷ []) rest))
    (items_begin (λ ts. ends_type ts ≡ true) (λ xs x s rest. initialised_ends_type s rest) s' (punct p.Semicolon line ∷ rest)) in
    ap (λ xs. r.variables_of types cond' expr' room (xs ++ rest)) eq ∙ ap (r.variables_of types cond' expr' room) (append_assoc first tail rest)
    ∙ typed_reads types cond' expr' room (first ++ (tail ++ rest)) t (tail ++ rest) vs rest (type_complete types first t s (tail ++ rest) ends) (variables_after_complete types cond' expr' parts room t second vs s' line rest)

pub variables_start : (types : Names) (room : ℕ) (xs : List Token) (vs : List e.VarDecl) → g.SpellsVariables types room xs vs → (rest : List Token) → starts_type types (xs ++ rest) ≡ true
variables_start types room xs vs (g.variables line {first} {second} {t} s s' eq) rest =
    let tail = second ++ punct p.Semicolon line ∷ [] in
    subst (λ xs. starts_type types (xs ++ rest) ≡ true) (sym eq) (subst (λ ts. starts_type types ts ≡ true) (sym (append_assoc first tail rest)) (type_starts types first t s (tail ++ rest)))
