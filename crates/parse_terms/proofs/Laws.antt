-- The readers of terms read exactly what is spelled. The crates above cite these laws.
use Rattle.std.proofs.Common.{◌≡◌, ℕ, ◌≤◌, Bool, true, List, [], ◌∷◌, ◌++◌, Some, refl, ap, ◌∙◌, subst}
use Rattle.c_syntax.specs.declared.token.Token.{Token}
use Rattle.c_syntax.specs.Term as t
use Rattle.c_grammar.specs.Tokens.{Names}
use Rattle.c_grammar.specs.Operators.{shift_level}
use Rattle.c_grammar.specs.Terms as g
use Rattle.c_grammar.specs.Terms.{Place, anywhere, in_set, in_chain, SpellsTerm, SpellsTermBinary, SpellsSomeTerms, SpellsPointer, SpellsEntry, is_entry}
use Rattle.c_grammar.specs.Reading.{past}
use Rattle.c_grammar.proofs.Readers.{Sound, bind_ok, guard_ok, pair_is}
use Rattle.c_grammar.proofs.Levels.{reads_all}
use Rattle.parse_terms.specs.Read as r
use Rattle.parse_terms.specs.Read.{term_at, chain_term_at, some_terms_at, pointer_at, entry_at}
use Rattle.parse_terms.specs.Next.{ends_term, ends_chain_term, ends_terms, continues, begins_chain}
use Rattle.parse_terms.proofs.SoundParts.{terms_sound}
use Rattle.parse_terms.proofs.Sound.{SpellsSum, no_range, with_range, binary_sound, spread_term_sound, read_sound, inner_sound}
use Rattle.parse_terms.proofs.CompleteParts.{Stops}
use Rattle.parse_terms.proofs.Complete.{term_reads, binary_reads, some_read, spread_read}
use Rattle.parse_terms.proofs.Ends.{term_ends, list_ends, chain_ends}
use Rattle.parse_terms.proofs.Neutral as neutral
use Rattle.parse_terms.proofs.Begins as begins

-- ---- what is read is spelled so

pub term_sound : (types : Names) (room : ℕ) → Sound (SpellsTerm types anywhere room) (term_at types room)
unfolding term_at
term_sound types room = read_sound types room r.wholes anywhere

pub chain_term_sound : (types : Names) (room : ℕ) → Sound (SpellsTermBinary types in_chain shift_level room) (chain_term_at types room)
unfolding chain_term_at
chain_term_sound types room = binary_sound types in_chain shift_level room (r.read types room r.operands in_chain) (read_sound types room r.operands in_chain)

pub some_terms_sound : (types : Names) (room : ℕ) → Sound (λ xs as'. SpellsSomeTerms types anywhere room xs (t.terms_of as')) (some_terms_at types room)
unfolding some_terms_at
some_terms_sound types room = terms_sound types anywhere room (r.read types room r.wholes anywhere) (read_sound types room r.wholes anywhere)

sum_pointed : {types : Names} {room : ℕ} {xs : List Token} {a : t.Term} → SpellsSum types anywhere room xs a → SpellsPointer types room xs a
sum_pointed (no_range s) = g.term s
sum_pointed (with_range s) = g.spread s

pub pointer_sound : (types : Names) (room : ℕ) → Sound (SpellsPointer types room) (pointer_at types room)
unfolding pointer_at
pointer_sound types room ts a rest h =
    let x = spread_term_sound types anywhere room (r.read types room r.wholes anywhere) (r.inner types room r.wholes anywhere) (read_sound types room r.wholes anywhere) (inner_sound types room r.wholes anywhere) ts a rest h in
    (x.0, x.1, sum_pointed x.2)

pub entry_sound : (types : Names) (room : ℕ) → Sound (SpellsEntry types room) (entry_at types room)
unfolding entry_at
entry_sound types room ts a rest h =
    let read = bind_ok (r.read types room r.wholes in_set ts) _ (a, rest) h in
    let found : t.Term × List Token = (a, rest) in
    let test = guard_ok (is_entry read.0.0) read.0 found read.2 in
    let same = pair_is read.0.0 a read.0.1 rest (ap Some test.1) in
    let x = read_sound types room r.wholes in_set ts read.0.0 read.0.1 read.1 in
    (x.0, x.1 ∙ ap (λ l. x.0 ++ l) same.1, subst (λ a. SpellsEntry types room x.0 a) same.0 (g.entry x.2 test.0))

-- ---- what is spelled is read

pub term_complete : (types : Names) (room : ℕ) (xs : List Token) (a : t.Term) → SpellsTerm types anywhere room xs a → (rest : List Token) → ends_term rest ≡ true → term_at types room (xs ++ rest) ≡ Some (a, rest)
unfolding term_at
term_complete types room xs a s rest ends = term_reads s rest (term_ends rest ends).0

pub chain_term_complete : (types : Names) (room : ℕ) (xs : List Token) (a : t.Term) → SpellsTermBinary types in_chain shift_level room xs a → (rest : List Token) → ends_chain_term rest ≡ true
    → chain_term_at types room (xs ++ rest) ≡ Some (a, rest)
unfolding chain_term_at
chain_term_complete types room xs a s rest ends =
    let x = chain_ends rest ends in
    reads_all r.joined r.operator Stops shift_level (r.read types room r.operands in_chain) xs a (binary_reads s) rest x.0 x.1

pub some_terms_complete : (types : Names) (room : ℕ) (xs : List Token) (args : t.Terms) → SpellsSomeTerms types anywhere room xs args → (rest : List Token) → ends_terms rest ≡ true
    → some_terms_at types room (xs ++ rest) ≡ Some (t.list_of args, rest)
unfolding some_terms_at
some_terms_complete types room xs args s rest ends = some_read s rest (list_ends rest ends)

list_of_terms : (as' : List t.Term) → t.list_of (t.terms_of as') ≡ as'
list_of_terms [] = refl
list_of_terms (a ∷ as') = ap (λ (l : List t.Term). a ∷ l) (list_of_terms as')

-- the same over lists
pub some_terms_listed : (types : Names) (room : ℕ) (xs : List Token) (as' : List t.Term) → SpellsSomeTerms types anywhere room xs (t.terms_of as') → (rest : List Token) → ends_terms rest ≡ true
    → some_terms_at types room (xs ++ rest) ≡ Some (as', rest)
some_terms_listed types room xs as' s rest ends = some_terms_complete types room xs (t.terms_of as') s rest ends ∙ ap (λ (l : List t.Term). Some (l, rest)) (list_of_terms as')

pub pointer_complete : (types : Names) (room : ℕ) (xs : List Token) (a : t.Term) → SpellsPointer types room xs a → (rest : List Token) → ends_term rest ≡ true → pointer_at types room (xs ++ rest) ≡ Some (a, rest)
unfolding pointer_at
pointer_complete types room xs a (g.term s) rest ends =
    let x = term_ends rest ends in
    rw (term_reads s rest x.0, x.1) refl
pointer_complete types room xs a (g.spread s) rest ends = spread_read s rest

pub entry_complete : (types : Names) (room : ℕ) (xs : List Token) (a : t.Term) → SpellsEntry types room xs a → (rest : List Token) → ends_term rest ≡ true → entry_at types room (xs ++ rest) ≡ Some (a, rest)
unfolding entry_at
entry_complete types room xs a (g.entry s test) rest ends = rw (term_reads s rest (term_ends rest ends).0, test) refl

-- ---- brackets

pub term_neutral : (types : Names) (place : Place) (room : ℕ) (xs : List Token) (a : t.Term) → SpellsTerm types place room xs a → (depth : ℕ) (found : Bool) (rest : List Token)
    → past depth found (xs ++ rest) ≡ past depth found rest
term_neutral types place room xs a s = neutral.term_neutral s

pub chain_term_neutral : (types : Names) (place : Place) (n room : ℕ) (xs : List Token) (a : t.Term) → SpellsTermBinary types place n room xs a → (depth : ℕ) (found : Bool) (rest : List Token)
    → past depth found (xs ++ rest) ≡ past depth found rest
chain_term_neutral types place n room xs a s = neutral.binary_neutral s

pub some_terms_neutral : (types : Names) (place : Place) (room : ℕ) (xs : List Token) (args : t.Terms) → SpellsSomeTerms types place room xs args → (depth : ℕ) (found : Bool) (rest : List Token)
    → past depth found (xs ++ rest) ≡ past depth found rest
some_terms_neutral types place room xs args s = neutral.some_neutral s

pub pointer_neutral : (types : Names) (room : ℕ) (xs : List Token) (a : t.Term) → SpellsPointer types room xs a → (depth : ℕ) (found : Bool) (rest : List Token) → past depth found (xs ++ rest) ≡ past depth found rest
pointer_neutral types room xs a s = neutral.pointer_neutral s

-- ---- comparisons

pub chain_begins : (types : Names) (n room : ℕ) (xs : List Token) (a : t.Term) → SpellsTermBinary types in_chain n room xs a → n ≤ shift_level → (rest : List Token) → continues rest ≡ true
    → begins_chain types (xs ++ rest) ≡ true
chain_begins types n room xs a s = begins.chain_begins s
