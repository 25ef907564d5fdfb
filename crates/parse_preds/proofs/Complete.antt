-- What is spelled as an atom is read as that atom.
use Rattle.std.proofs.Common.{◌≡◌, ℕ, zero, suc, ◌-◌, ◌≤◌, ◌<◌, Bool, true, false, eqb, List, [], ◌∷◌, ◌++◌, length, Some, None, refl, ap, ◌∙◌, subst, arith, append_assoc, length-append}
use Rattle.std.proofs.lemmas.Bool.Decides.{nat_tests}
use Rattle.c_syntax.specs.declared.token.Token.{Token}
use Rattle.c_syntax.specs.declared.token.Punct.TheVariants as p
use Rattle.c_syntax.specs.declared.token.Word.TheVariants as w
use Rattle.c_syntax.specs.declared.expr.BinOp.{BinOp}
use Rattle.c_syntax.specs.Term as t
use Rattle.c_syntax.specs.Pred as r
use Rattle.c_grammar.specs.Tokens.{Names, is_type, punct, word, name}
use Rattle.c_grammar.specs.Operators.{is_chain}
use Rattle.c_grammar.specs.Lists.{Separated}
use Rattle.c_grammar.specs.Lists as lists
use Rattle.c_grammar.specs.Terms.{anywhere, SpellsSomeTerms, SpellsPointer}
use Rattle.c_grammar.specs.Preds as g
use Rattle.c_grammar.specs.Preds.{SpellsChain, SpellsPointers, SpellsAtom}
use Rattle.c_grammar.specs.Reading.{Reader, punct_at, past}
use Rattle.c_grammar.specs.ListReaders.{with_items, more_separated}
use Rattle.parse_types.specs.Read.{starts_type}
use Rattle.parse_terms.specs.Next.{begins_chain, continues_behind, ends_term}
use Rattle.parse_terms.specs.Read.{chain_term_at, some_terms_at, pointer_at}
use Rattle.parse_preds.specs.Read.{ends_atom, comparison_at, with_tail, tail_at, chain_at, pointers_at, seen_as, named_by, named, closed, atom_at, under, enclosed, bracketed}
use Rattle.parse_preds.proofs.Ends.{comparison_ends, comparison_continues, comparison_takes, no_comparison, chain_may_end, not_continued, atom_stops}
use Rattle.parse_preds.proofs.Below.{Below, Complete}
use Rattle.parse_preds.proofs.Neutral.{Neutral, NoType}

-- ---- steps

pub under_reads : {X : Type 0} (read : ℕ → Reader X) (room : ℕ) (ts : List Token) → under read (suc room) ts ≡ read room ts
under_reads read room ts =
    let some : eqb (suc room) 0 ≡ false = grind (arith, nat_tests) in
    let less : suc room - 1 ≡ room = omega arith in
    rw (some, less) refl

pub enclosed_reads : {X : Type 0} (read : Reader X) (inside : List Token) (line : ℕ) (rest : List Token) (a : X) → read (inside ++ punct p.CloseParen line ∷ rest) ≡ Some (a, punct p.CloseParen line ∷ rest)
    → enclosed read ((inside ++ punct p.CloseParen line ∷ []) ++ rest) ≡ Some (a, rest)
enclosed_reads read inside line rest a h = ap (enclosed read) (append_assoc inside (punct p.CloseParen line ∷ []) rest) ∙ rw h refl

-- behind an opening parenthesis
pub bracketed_reads : {X : Type 0} (read : Reader X) (inside : List Token) (line line' : ℕ) (rest : List Token) (a : X) → read (inside ++ punct p.CloseParen line' ∷ rest) ≡ Some (a, punct p.CloseParen line' ∷ rest)
    → bracketed read (punct p.OpenParen line ∷ ((inside ++ punct p.CloseParen line' ∷ []) ++ rest)) ≡ Some (a, rest)
bracketed_reads read inside line line' rest a h = enclosed_reads read inside line' rest a h

-- what comes after a bracket with these inside
pub past_inside : (inside : List Token) → Neutral inside → (line : ℕ) (rest : List Token) → past 0 false ((inside ++ punct p.CloseParen line ∷ []) ++ rest) ≡ Some (false, rest)
past_inside inside n line rest = ap (past 0 false) (append_assoc inside (punct p.CloseParen line ∷ []) rest) ∙ n 0 false (punct p.CloseParen line ∷ rest)

-- ---- chains of comparisons

tail_step : (read : Reader t.Term) (turns : ℕ) (ts : List Token) (op : BinOp) (line : ℕ) (after : List Token) (b : t.Term) (rest : List Token) → comparison_at ts ≡ Some ((op, line), after) → read after ≡ Some (b, rest)
    → tail_at read (suc turns) ts ≡ with_tail (b ∷ []) (op ∷ []) (tail_at read turns rest)
unfolding tail_at
tail_step read turns ts op line after b rest found took = rw (found, took) refl

tail_over : (read : Reader t.Term) (turns : ℕ) (ts : List Token) → comparison_at ts ≡ None → tail_at read turns ts ≡ Some (([], []), ts)
unfolding tail_at
tail_over read zero ts h = refl
tail_over read (suc turns) ts h = rw h refl

-- the first term is read, and then a comparison and the others
record ChainReads (types : Names) (room : ℕ) (ts : List Token) (terms : List t.Term) (ops : List BinOp) (line : ℕ) (rest : List Token) : Type 0 where
  a : t.Term
  others : List t.Term
  op : BinOp
  mid : List Token
  after : List Token
  first : chain_term_at types room ts ≡ Some (a, mid)
  all : a ∷ others ≡ terms
  compares : comparison_at mid ≡ Some ((op, line), after)
  shorter : length mid ≤ length ts
  tail : (turns : ℕ) → length mid ≤ turns → tail_at (chain_term_at types room) turns mid ≡ Some ((others, ops), rest)

two_tail : (read : Reader t.Term) (mid : List Token) (op : BinOp) (line : ℕ) (after : List Token) (b : t.Term) (rest : List Token) → comparison_at mid ≡ Some ((op, line), after) → 0 < length mid → read after ≡ Some (b, rest)
    → comparison_at rest ≡ None → (turns : ℕ) → length mid ≤ turns → tail_at read turns mid ≡ Some ((b ∷ [], op ∷ []), rest)
two_tail read mid op line after b rest found some took none zero le = absurd (omega arith)
two_tail read mid op line after b rest found some took none (suc turns) le =
    tail_step read turns mid op line after b rest found took ∙ ap (with_tail (b ∷ []) (op ∷ [])) (tail_over read turns rest none)

more_tail : (read : Reader t.Term) (mid : List Token) (op : BinOp) (line : ℕ) (after : List Token) (b : t.Term) (mid' : List Token) (others : List t.Term) (ops : List BinOp) (rest : List Token) → comparison_at mid ≡ Some ((op, line), after)
    → suc (length mid') ≤ length mid → read after ≡ Some (b, mid') → ((turns : ℕ) → length mid' ≤ turns → tail_at read turns mid' ≡ Some ((others, ops), rest))
    → (turns : ℕ) → length mid ≤ turns → tail_at read turns mid ≡ Some ((b ∷ others, op ∷ ops), rest)
more_tail read mid op line after b mid' others ops rest found shorter took tail zero le = absurd (omega arith)
more_tail read mid op line after b mid' others ops rest found shorter took tail (suc turns) le =
    tail_step read turns mid op line after b mid' found took ∙ ap (with_tail (b ∷ []) (op ∷ [])) (tail turns (omega arith))

chain_reads : {types : Names} → Below types → {room line : ℕ} {xs : List Token} {terms : List t.Term} {ops : List BinOp} → SpellsChain types room xs terms ops line → (rest : List Token) → ends_atom rest ≡ true
    → ChainReads types room (xs ++ rest) terms ops line rest
chain_reads {types} laws {room} {line} {xs} (g.two q {op} {left} {right} {a} {b} is sa sb eq) rest ends =
    let mid = punct q line ∷ (right ++ rest) in
    let split : xs ++ rest ≡ left ++ mid = ap (λ l. l ++ rest) eq ∙ append_assoc left (punct q line ∷ right) rest in
    record {
      a = a;
      others = b ∷ [];
      op = op;
      mid = mid;
      after = right ++ rest;
      first = ap (chain_term_at types room) split ∙ laws.chain_complete room left a sa mid (comparison_ends q op is line (right ++ rest));
      all = refl;
      compares = comparison_takes q op is line (right ++ rest);
      shorter = omega (arith, ap length split, length-append left mid);
      tail =
          two_tail (chain_term_at types room) mid op line (right ++ rest) b rest (comparison_takes q op is line (right ++ rest)) (omega arith) (laws.chain_complete room right b sb rest (chain_may_end rest ends)) (no_comparison rest ends);
    }
chain_reads {types} laws {room} {line} {xs} (g.more line' q {op} {left} {right} {a} {terms} {ops} is sa s eq) rest ends =
    let mid = punct q line ∷ (right ++ rest) in
    let split : xs ++ rest ≡ left ++ mid = ap (λ l. l ++ rest) eq ∙ append_assoc left (punct q line ∷ right) rest in
    let x = chain_reads laws s rest ends in
    record {
      a = a;
      others = terms;
      op = op;
      mid = mid;
      after = right ++ rest;
      first = ap (chain_term_at types room) split ∙ laws.chain_complete room left a sa mid (comparison_ends q op is line (right ++ rest));
      all = refl;
      compares = comparison_takes q op is line (right ++ rest);
      shorter = omega (arith, ap length split, length-append left mid);
      tail =
          subst (λ terms. (turns : ℕ) → length mid ≤ turns → tail_at (chain_term_at types room) turns mid ≡ Some ((terms, op ∷ ops), rest)) x.all
          (more_tail (chain_term_at types room) mid op line (right ++ rest) x.a x.mid x.others ops rest (comparison_takes q op is line (right ++ rest)) (omega (arith, x.shorter)) x.first x.tail);
    }

chain_at_reads : (types : Names) (room : ℕ) (ts : List Token) (terms : List t.Term) (ops : List BinOp) (line : ℕ) (rest : List Token) → ChainReads types room ts terms ops line rest → is_chain ops ≡ true
    → chain_at types room ts ≡ Some (r.chain line terms ops, rest)
unfolding chain_at
chain_at_reads types room ts terms ops line rest x is =
    rw (x.first, x.compares, x.tail (length x.mid) (omega arith), is) (ap (λ terms. Some (r.chain line terms ops, rest)) x.all)

pub chain_begins : {types : Names} → Below types → {room line : ℕ} {xs : List Token} {terms : List t.Term} {ops : List BinOp} → SpellsChain types room xs terms ops line → (rest : List Token) → begins_chain types (xs ++ rest) ≡ true
chain_begins {types} laws {room} {line} {xs} (g.two q {op} {left} {right} {a} is sa sb eq) rest =
    ap (begins_chain types) (ap (λ l. l ++ rest) eq ∙ append_assoc left (punct q line ∷ right) rest)
    ∙ laws.chain_starts room left a sa (punct q line ∷ (right ++ rest)) (comparison_continues q op is line (right ++ rest))
chain_begins {types} laws {room} {line} {xs} (g.more line' q {op} {left} {right} {a} is sa s eq) rest =
    ap (begins_chain types) (ap (λ l. l ++ rest) eq ∙ append_assoc left (punct q line ∷ right) rest)
    ∙ laws.chain_starts room left a sa (punct q line ∷ (right ++ rest)) (comparison_continues q op is line (right ++ rest))

pub chain_complete : {types : Names} → Below types → {room line : ℕ} {xs : List Token} {terms : List t.Term} {ops : List BinOp} → SpellsChain types room xs terms ops line → is_chain ops ≡ true
    → (rest : List Token) → ends_atom rest ≡ true → chain_at types room (xs ++ rest) ≡ Some (r.chain line terms ops, rest)
chain_complete {types} laws {room} {line} {xs} {terms} {ops} s is rest ends = chain_at_reads types room (xs ++ rest) terms ops line rest (chain_reads laws s rest ends) is

-- ---- items between commas

-- the first item is read, and then the others
pub record ItemsRead {X : Type 0} (read : Reader X) (ts : List Token) (items : List X) (rest : List Token) : Type 0 where
  pub a : X
  pub others : List X
  pub mid : List Token
  pub first : read ts ≡ Some (a, mid)
  pub all : a ∷ others ≡ items
  pub shorter : length mid ≤ length ts
  pub tail : (turns : ℕ) → length mid ≤ turns → more_separated read turns mid ≡ Some (others, rest)

items_over : {X : Type 0} (read : Reader X) (turns : ℕ) (ts : List Token) → punct_at p.Comma ts ≡ None → more_separated read turns ts ≡ Some ([], ts)
unfolding more_separated
items_over read zero ts h = refl
items_over read (suc turns) ts h = rw h refl

items_step : {X : Type 0} (read : Reader X) (turns line : ℕ) (after : List Token) (b : X) (rest : List Token) → read after ≡ Some (b, rest)
    → more_separated read (suc turns) (punct p.Comma line ∷ after) ≡ with_items (b ∷ []) (more_separated read turns rest)
unfolding more_separated
items_step read turns line after b rest took = rw took refl

items_tail : {X : Type 0} (read : Reader X) (line : ℕ) (after : List Token) (items : List X) (rest : List Token) → ItemsRead read after items rest → (turns : ℕ) → suc (length after) ≤ turns
    → more_separated read turns (punct p.Comma line ∷ after) ≡ Some (items, rest)
items_tail read line after items rest x zero le = absurd (omega arith)
items_tail {X} read line after items rest x (suc turns) le =
    items_step read turns line after x.a x.mid x.first
    ∙ ap (with_items (x.a ∷ [])) (x.tail turns (omega (arith, x.shorter)))
    ∙ ap (λ (l : List X). Some (l, rest)) x.all

pub items_complete : {X : Type 0} (Item : List Token → X → Type 0) (ends : List Token → Bool) (read : Reader X) → Complete Item ends read → ((line : ℕ) (ts : List Token) → ends (punct p.Comma line ∷ ts) ≡ true)
    → {xs : List Token} {items : List X} → Separated Item xs items → (rest : List Token) → ends rest ≡ true → punct_at p.Comma rest ≡ None → ItemsRead read (xs ++ rest) items rest
items_complete Item ends read complete comma {xs} (lists.one {x} s) rest may none = record {
  a = x;
  others = [];
  mid = rest;
  first = complete xs x s rest may;
  all = refl;
  shorter = omega (arith, length-append xs rest);
  tail = λ turns le. items_over read turns rest none;
}
items_complete {X} Item ends read complete comma {xs} (lists.more line {first} {rest = behind} {x} {xs = items} s tail eq) rest may none =
    let mid = punct p.Comma line ∷ (behind ++ rest) in
    let split : xs ++ rest ≡ first ++ mid = ap (λ l. l ++ rest) eq ∙ append_assoc first (punct p.Comma line ∷ behind) rest in
    let others = items_complete Item ends read complete comma tail rest may none in
    record {
      a = x;
      others = items;
      mid = mid;
      first = ap read split ∙ complete first x s mid (comma line (behind ++ rest));
      all = refl;
      shorter = omega (arith, ap length split, length-append first mid);
      tail = λ turns le. items_tail read line (behind ++ rest) items rest others turns (omega (arith, le));
    }

comma_ends : (line : ℕ) (ts : List Token) → ends_term (punct p.Comma line ∷ ts) ≡ true
unfolding ends_term
comma_ends line ts = refl

close_ends : (line : ℕ) (ts : List Token) → ends_term (punct p.CloseParen line ∷ ts) ≡ true
unfolding ends_term
close_ends line ts = refl

pub semicolon_ends : (line : ℕ) (ts : List Token) → ends_term (punct p.Semicolon line ∷ ts) ≡ true
unfolding ends_term
semicolon_ends line ts = refl

pointers_read : (types : Names) (room : ℕ) (ts : List Token) (a : t.Term) (line : ℕ) (after : List Token) (b : t.Term) (others : List t.Term) (rest : List Token) → pointer_at types room ts ≡ Some (a, punct p.Comma line ∷ after)
    → ItemsRead (pointer_at types room) after (b ∷ others) rest → pointers_at types room ts ≡ Some (a ∷ b ∷ others, rest)
unfolding pointers_at
pointers_read types room ts a line after b others rest first x =
    rw (first, x.first, x.tail (length x.mid) (omega arith)) (ap (λ (l : List t.Term). Some (a ∷ l, rest)) x.all)

pub pointers_complete : {types : Names} → Below types → {room : ℕ} {xs : List Token} {pointers : List t.Term} → SpellsPointers types room xs pointers → (line : ℕ) (rest : List Token)
    → pointers_at types room (xs ++ punct p.CloseParen line ∷ rest) ≡ Some (pointers, punct p.CloseParen line ∷ rest)
pointers_complete {types} laws {room} {xs} (g.pointers {a} {b} {rest = others} (lists.more line' {first} {rest = behind} s tail eq)) line rest =
    let close = punct p.CloseParen line ∷ rest in
    let mid = punct p.Comma line' ∷ (behind ++ close) in
    let split : xs ++ close ≡ first ++ mid = ap (λ l. l ++ close) eq ∙ append_assoc first (punct p.Comma line' ∷ behind) close in
    pointers_read types room (xs ++ close) a line' (behind ++ close) b others close
    (ap (pointer_at types room) split ∙ laws.pointer_complete room first a s mid (comma_ends line' (behind ++ close)))
    (items_complete (SpellsPointer types room) ends_term (pointer_at types room) (laws.pointer_complete room) comma_ends tail close (close_ends line rest) refl)

-- ---- atoms

pub atom_chain : (types : Names) (room : ℕ) (inside : Reader r.Pred) (ts : List Token) → begins_chain types ts ≡ true → atom_at types room inside ts ≡ chain_at types room ts
unfolding atom_at
atom_chain types room inside ts h = rw h refl

pub atom_closed : (types : Names) (room : ℕ) (inside : Reader r.Pred) (ts : List Token) → begins_chain types ts ≡ false → atom_at types room inside ts ≡ closed types room inside ts
unfolding atom_at
atom_closed types room inside ts h = rw h refl

abbrev pub ReadsAtom : Names → ℕ → Reader r.Pred → List Token → r.Pred → Type 0
ReadsAtom types room inside xs a = (rest : List Token) → ends_atom rest ≡ true → atom_at types room inside (xs ++ rest) ≡ Some (a, rest)

pub atom_always : (types : Names) (room : ℕ) (inside : Reader r.Pred) (line : ℕ) → ReadsAtom types room inside (word w.True line ∷ []) (r.always line)
unfolding begins_chain
atom_always types room inside line rest ends = atom_closed types room inside (word w.True line ∷ rest) refl

pub atom_never : (types : Names) (room : ℕ) (inside : Reader r.Pred) (line : ℕ) → ReadsAtom types room inside (word w.False line ∷ []) (r.never line)
unfolding begins_chain
atom_never types room inside line rest ends = atom_closed types room inside (word w.False line ∷ rest) refl

pub atom_valid : {types : Names} → Below types → (room : ℕ) (below : Reader r.Pred) (line line' line'' : ℕ) (inside : List Token) (a : t.Term) → SpellsPointer types room inside a
    → ReadsAtom types (suc room) below (word w.Valid line ∷ punct p.OpenParen line' ∷ (inside ++ punct p.CloseParen line'' ∷ [])) (r.valid line a)
unfolding begins_chain
atom_valid {types} laws room below line line' line'' inside a s rest ends =
    let close = punct p.CloseParen line'' ∷ rest in
    atom_closed types (suc room) below (word w.Valid line ∷ punct p.OpenParen line' ∷ ((inside ++ punct p.CloseParen line'' ∷ []) ++ rest)) refl
    ∙ ap (seen_as (r.valid line)) (bracketed_reads (under (pointer_at types) (suc room)) inside line' line'' rest a
    (under_reads (pointer_at types) room (inside ++ close) ∙ laws.pointer_complete room inside a s close (close_ends line'' rest)))

pub atom_valid_read : {types : Names} → Below types → (room : ℕ) (below : Reader r.Pred) (line line' line'' : ℕ) (inside : List Token) (a : t.Term) → SpellsPointer types room inside a
    → ReadsAtom types (suc room) below (word w.ValidRead line ∷ punct p.OpenParen line' ∷ (inside ++ punct p.CloseParen line'' ∷ [])) (r.valid_read line a)
unfolding begins_chain
atom_valid_read {types} laws room below line line' line'' inside a s rest ends =
    let close = punct p.CloseParen line'' ∷ rest in
    atom_closed types (suc room) below (word w.ValidRead line ∷ punct p.OpenParen line' ∷ ((inside ++ punct p.CloseParen line'' ∷ []) ++ rest)) refl
    ∙ ap (seen_as (r.valid_read line)) (bracketed_reads (under (pointer_at types) (suc room)) inside line' line'' rest a
    (under_reads (pointer_at types) room (inside ++ close) ∙ laws.pointer_complete room inside a s close (close_ends line'' rest)))

pub atom_separated : {types : Names} → Below types → (room : ℕ) (below : Reader r.Pred) (line line' line'' : ℕ) (inside : List Token) (pointers : List t.Term) → SpellsPointers types room inside pointers
    → ReadsAtom types (suc room) below (word w.Separated line ∷ punct p.OpenParen line' ∷ (inside ++ punct p.CloseParen line'' ∷ [])) (r.separated line pointers)
unfolding begins_chain
atom_separated {types} laws room below line line' line'' inside pointers s rest ends =
    atom_closed types (suc room) below (word w.Separated line ∷ punct p.OpenParen line' ∷ ((inside ++ punct p.CloseParen line'' ∷ []) ++ rest)) refl
    ∙ ap (seen_as (r.separated line)) (bracketed_reads (under (pointers_at types) (suc room)) inside line' line'' rest pointers
    (under_reads (pointers_at types) room (inside ++ punct p.CloseParen line'' ∷ rest) ∙ pointers_complete laws s line'' rest))

-- what is read before a closing parenthesis
abbrev pub ReadsInside : Reader r.Pred → List Token → r.Pred → Type 0
ReadsInside read inside a = (line : ℕ) (rest : List Token) → read (inside ++ punct p.CloseParen line ∷ rest) ≡ Some (a, punct p.CloseParen line ∷ rest)

pub atom_old : (types : Names) (room : ℕ) (below : Reader r.Pred) (line line' line'' : ℕ) (inside : List Token) (a : r.Pred) → Neutral inside → ReadsInside below inside a
    → ReadsAtom types room below (word w.Old line ∷ punct p.OpenParen line' ∷ (inside ++ punct p.CloseParen line'' ∷ [])) (r.old line a)
unfolding begins_chain
atom_old types room below line line' line'' inside a n read rest ends =
    atom_closed types room below (word w.Old line ∷ punct p.OpenParen line' ∷ ((inside ++ punct p.CloseParen line'' ∷ []) ++ rest)) (ap continues_behind (past_inside inside n line'' rest) ∙ not_continued rest ends)
    ∙ ap (seen_as (r.old line)) (bracketed_reads below inside line' line'' rest a (read line'' rest))

pub atom_parens : (types : Names) (room : ℕ) (below : Reader r.Pred) (line line' : ℕ) (inside : List Token) (a : r.Pred) → Neutral inside → NoType types inside → ReadsInside below inside a
    → ReadsAtom types room below (punct p.OpenParen line ∷ (inside ++ punct p.CloseParen line' ∷ [])) a
unfolding begins_chain
atom_parens types room below line line' inside a n first read rest ends =
    let ts = (inside ++ punct p.CloseParen line' ∷ []) ++ rest in
    let no_type : starts_type types ts ≡ false = ap (starts_type types) (append_assoc inside (punct p.CloseParen line' ∷ []) rest) ∙ first (punct p.CloseParen line' ∷ rest) in
    atom_closed types room below (punct p.OpenParen line ∷ ts) (rw no_type (ap continues_behind (past_inside inside n line' rest) ∙ not_continued rest ends))
    ∙ enclosed_reads below inside line' rest a (read line' rest)

named_reads : (types : Names) (room : ℕ) (x : List ℕ) (line : ℕ) (ts : List Token) → is_type types x ≡ false → named types room x line ts ≡ named_by types room x line (punct_at p.OpenParen ts) ts
named_reads types room x line ts free = rw free refl

pub atom_named : (types : Names) (room : ℕ) (below : Reader r.Pred) (line : ℕ) (x : List ℕ) → is_type types x ≡ false → ReadsAtom types room below (name x line ∷ []) (r.call line x [])
unfolding begins_chain
atom_named types room below line x free rest ends =
    let none = atom_stops p.OpenParen refl rest ends in
    atom_closed types room below (name x line ∷ rest) (rw none (not_continued rest ends)) ∙ named_reads types room x line rest free ∙ rw none refl

pub atom_call : {types : Names} → Below types → (room : ℕ) (below : Reader r.Pred) (line line' line'' : ℕ) (x : List ℕ) (inside : List Token) (args : t.Terms) → is_type types x ≡ false → SpellsSomeTerms types anywhere room inside args
    → ReadsAtom types (suc room) below (name x line ∷ punct p.OpenParen line' ∷ (inside ++ punct p.CloseParen line'' ∷ [])) (r.call line x (t.list_of args))
unfolding begins_chain
atom_call {types} laws room below line line' line'' x inside args free s rest ends =
    let ts = (inside ++ punct p.CloseParen line'' ∷ []) ++ rest in
    let close = punct p.CloseParen line'' ∷ rest in
    atom_closed types (suc room) below (name x line ∷ punct p.OpenParen line' ∷ ts) (ap continues_behind (past_inside inside (laws.some_neutral room inside args s) line'' rest) ∙ not_continued rest ends)
    ∙ named_reads types (suc room) x line (punct p.OpenParen line' ∷ ts) free
    ∙ ap (seen_as (r.call line x)) (enclosed_reads (under (some_terms_at types) (suc room)) inside line'' rest (t.list_of args) (under_reads (some_terms_at types) room (inside ++ close) ∙ laws.some_complete room inside args s line'' rest))
