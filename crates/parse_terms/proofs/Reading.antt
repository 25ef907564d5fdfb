-- The readers' equations, in the code's words.
use Rattle.std.proofs.Common.{◌≡◌, ℕ, zero, suc, ◌+◌, ◌-◌, ◌≤◌, eqb, true, false, List, [], ◌∷◌, ◌++◌, length, Option, Some, None, Err, refl, sym, ap, ◌∙◌, arith, add-one, append_assoc, append-nil}
use Rattle.std.proofs.lemmas.Bool.Decides.{nat_tests}
use Rattle.c_syntax.specs.declared.token.Token.{Token}
use Rattle.c_syntax.specs.declared.token.Punct.TheVariants as p
use Rattle.c_syntax.specs.Term as t
use Rattle.c_grammar.specs.declared.fault.Fault.{Fault}
use Rattle.c_grammar.specs.declared.fault.Fault.TheVariants.{Syntax, NoMemory}
use Rattle.c_grammar.specs.Tokens.{Names}
use Rattle.c_grammar.specs.Terms.{Place, inside_of}
use Rattle.c_grammar.specs.Reading.{Reader, ◌>>=◌, nothing, punct_at, chain, levels}
use Rattle.c_grammar.specs.Views.{Gives}
use Rattle.c_grammar.proofs.Readers.{gives_fault}
use Rattle.parse_terms.specs.declared.tokens.Selector.{Selector}
use Rattle.parse_terms.specs.Read.{Part, operands, wholes, groups, Readers, Args, read, inner, inner_args, over, operand, term, group, primary, postfix, parts, selected, selector_at, args_at, choice}

-- ---- room

no_room : (room : ℕ) → room ≡ 0 → eqb room 0 ≡ true
no_room room e = rw e refl

some_room : (room : ℕ) → 1 ≤ room → eqb room 0 ≡ false
some_room room le = grind (arith, nat_tests)

pub inner_none : (types : Names) (room : ℕ) (part : Part) (place : Place) (ts : List Token) → room ≡ 0 → inner types room part place ts ≡ None
unfolding inner
inner_none types room part place ts e = rw (no_room room e) refl

pub inner_some : (types : Names) (room : ℕ) (part : Part) (place : Place) (ts : List Token) → 1 ≤ room → inner types room part place ts ≡ read types (room - 1) part place ts
unfolding inner
inner_some types room part place ts le = rw (some_room room le) refl

pub inner_is : (types : Names) (room : ℕ) (part : Part) (place : Place) (ts : List Token) → inner types (suc room) part place ts ≡ read types room part place ts
inner_is types room part place ts =
    let less : suc room - 1 ≡ room = omega arith in
    inner_some types (suc room) part place ts (omega arith) ∙ ap (λ room. read types room part place ts) less

pub args_none : (types : Names) (room : ℕ) (place : Place) (ts : List Token) → room ≡ 0 → inner_args types room place ts ≡ None
unfolding inner_args
args_none types room place ts e = rw (no_room room e) refl

pub args_some : (types : Names) (room : ℕ) (place : Place) (ts : List Token) → 1 ≤ room → inner_args types room place ts ≡ args_at (read types (room - 1) wholes place) ts
unfolding inner_args
args_some types room place ts le = rw (some_room room le) refl

pub args_is : (types : Names) (room : ℕ) (place : Place) (ts : List Token) → inner_args types (suc room) place ts ≡ args_at (read types room wholes place) ts
args_is types room place ts =
    let less : suc room - 1 ≡ room = omega arith in
    args_some types (suc room) place ts (omega arith) ∙ ap (λ room. args_at (read types room wholes place) ts) less

-- readers that read alike are equal
alike : (p q : Readers) → ((part : Part) (place : Place) (ts : List Token) → p part place ts ≡ q part place ts) → p ≡ q
alike p q h = λ i part place ts. h part place ts i

args_alike : (p q : Args) → ((place : Place) (ts : List Token) → p place ts ≡ q place ts) → p ≡ q
args_alike p q h = λ i place ts. h place ts i

pub read_is : (types : Names) (room : ℕ) → read types room ≡ over types (inner types room) (inner_args types room)
unfolding read
read_is types zero =
    let none : (λ part place. nothing) ≡ inner types 0 = alike (λ part place. nothing) (inner types 0) (λ part place ts. sym (inner_none types 0 part place ts refl)) in
    let no_args : (λ place. nothing) ≡ inner_args types 0 = args_alike (λ place. nothing) (inner_args types 0) (λ place ts. sym (args_none types 0 place ts refl)) in
    λ i. over types (none i) (no_args i)
read_is types (suc room) =
    let some : read types room ≡ inner types (suc room) = alike (read types room) (inner types (suc room)) (λ part place ts. sym (inner_is types room part place ts)) in
    let args : (λ place. args_at (read types room wholes place)) ≡ inner_args types (suc room) =
    args_alike (λ place. args_at (read types room wholes place)) (inner_args types (suc room)) (λ place ts. sym (args_is types room place ts))
    in
    λ i. over types (some i) (args i)

pub operand_is : (types : Names) (room : ℕ) (place : Place) (ts : List Token)
    → read types room operands place ts ≡ operand types place (inner types room operands place) (inner_args types room (inside_of place)) (inner types room wholes (inside_of place)) (inner types room groups (inside_of place)) ts
operand_is types room place ts = ap (λ (r : Readers). r operands place ts) (read_is types room)

pub term_is : (types : Names) (room : ℕ) (place : Place) (ts : List Token) → read types room wholes place ts ≡ term (read types room operands place) (inner types room wholes place) ts
term_is types room place ts =
    let whole = ap (λ (r : Readers). r wholes place ts) (read_is types room) in
    let same = ap (λ (r : Readers). r operands place) (read_is types room) in
    whole ∙ ap (λ (p : Reader t.Term). term p (inner types room wholes place) ts) (sym same)

pub group_is : (types : Names) (room : ℕ) (place : Place) (ts : List Token) → read types room groups place ts ≡ group place (read types room wholes place) (inner types room wholes (inside_of place)) ts
group_is types room place ts =
    let whole = ap (λ (r : Readers). r groups place ts) (read_is types room) in
    let same = ap (λ (r : Readers). r wholes place) (read_is types room) in
    whole ∙ ap (λ (p : Reader t.Term). group place p (inner types room wholes (inside_of place)) ts) (sym same)

-- ---- parts

pub postfix_is : (types : Names) (place : Place) (args : Reader (List t.Term)) (inner group : Reader t.Term) (ts : List Token)
    → postfix types place args inner group ts ≡ (primary types args inner group ts >>= λ a. parts place inner (length a.1) a.0 a.1)
unfolding postfix
postfix_is types place args inner group ts = refl

pub parts_end : (place : Place) (inner : Reader t.Term) (turns : ℕ) (a : t.Term) (ts : List Token) → turns ≡ 0 → parts place inner turns a ts ≡ Some (a, ts)
unfolding parts
parts_end place inner turns a ts e = rw e refl

pub parts_stop : (place : Place) (inner : Reader t.Term) (turns : ℕ) (a : t.Term) (ts : List Token) → selector_at ts ≡ None → parts place inner turns a ts ≡ Some (a, ts)
unfolding parts
parts_stop place inner zero a ts e = refl
parts_stop place inner (suc turns) a ts e = rw e refl

pub parts_go : (place : Place) (inner : Reader t.Term) (turns turns' : ℕ) (a : t.Term) (ts : List Token) (s : Selector) (line : ℕ) (after : List Token) → turns ≡ turns' + 1 → selector_at ts ≡ Some ((s, line), after)
    → parts place inner turns a ts ≡ (selected place inner s line a after >>= λ b. parts place inner turns' b.0 b.1)
unfolding parts
parts_go place inner turns turns' a ts s line after e found = rw (e, add-one, found) refl

pub parts_turn : (place : Place) (inner : Reader t.Term) (turns turns' : ℕ) (a b : t.Term) (ts : List Token) (s : Selector) (line : ℕ) (after rest : List Token) → turns ≡ turns' + 1 → selector_at ts ≡ Some ((s, line), after)
    → selected place inner s line a after ≡ Some (b, rest) → parts place inner turns' b rest ≡ parts place inner turns a ts
parts_turn place inner turns turns' a b ts s line after rest e found read =
    sym (parts_go place inner turns turns' a ts s line after e found ∙ ap (λ x. x >>= λ b. parts place inner turns' b.0 b.1) read)

pub parts_fault : {Y : Type 0} (see : Y → t.Term) (place : Place) (inner : Reader t.Term) (turns turns' : ℕ) (a : t.Term) (ts : List Token) (s : Selector) (line : ℕ) (after : List Token) (e : Fault)
    → turns ≡ turns' + 1 → selector_at ts ≡ Some ((s, line), after) → Gives see (Err e) (selected place inner s line a after) → Gives see (Err e) (parts place inner turns a ts)
parts_fault see place inner turns turns' a ts s line after e eq found h =
    rw (parts_go place inner turns turns' a ts s line after eq found) (gives_fault see see (selected place inner s line a after) _ e h)

-- ---- choices

-- where the second arm is at fault
pub choice_fault : {X : Type 0} (see : X → t.Term) (deeper : Reader t.Term) (a : t.Term) (line colon : ℕ) (first : t.Term) (ts after behind : List Token) (e : Fault) → deeper ts ≡ Some (first, after)
    → punct_at p.Colon after ≡ Some (colon, behind) → Gives see (Err e) (deeper behind) → Gives see (Err e) (choice deeper a line ts)
choice_fault see deeper a line colon first ts after behind e read found h =
    rw (read, found) (gives_fault see see (deeper behind) (λ second. Some (t.cond line a first second.0, second.1)) e h)
