-- The readers of clauses read whatever is spelled.
use Rattle.std.proofs.Common.{◌≡◌, ℕ, ◌+◌, ◌-◌, Bool, true, false, List, [], ◌∷◌, ◌++◌, length, codes, Some, None, refl, sym, ap, ◌∙◌, subst, arith, append_assoc}
use Rattle.c_syntax.specs.declared.token.Token.{Token}
use Rattle.c_syntax.specs.declared.token.Punct.TheVariants as p
use Rattle.c_syntax.specs.declared.token.Word.TheVariants as w
use Rattle.c_syntax.specs.Term as t
use Rattle.c_syntax.specs.Pred as r
use Rattle.c_syntax.specs.Contract.{Clause, Measure, AssignsClause}
use Rattle.c_grammar.specs.Tokens.{Names, punct, word, name}
use Rattle.c_grammar.specs.Lists.{Separated}
use Rattle.c_grammar.specs.Terms.{anywhere, SpellsTerm, SpellsEntry}
use Rattle.c_grammar.specs.Preds.{SpellsPred}
use Rattle.c_grammar.specs.Annots as g
use Rattle.c_grammar.specs.Reading.{Reader, ◌>>=◌, punct_at, word_at}
use Rattle.c_grammar.proofs.Readers.{got}
use Rattle.c_grammar.proofs.Separating.{separated_complete}
use Rattle.parse_terms.specs.Next.{ends_term}
use Rattle.parse_terms.specs.Read.{term_at, entry_at}
use Rattle.parse_terms.proofs.Laws.{term_complete, entry_complete}
use Rattle.parse_preds.specs.Next.{ends_pred}
use Rattle.parse_preds.specs.Read.{pred_at}
use Rattle.parse_clauses.specs.declared.items.Part.{Part}
use Rattle.acsl_parser.specs.declared.words.ClauseWord.{ClauseWord}
use Rattle.acsl_parser.specs.declared.words.ClauseWord.TheVariants as cw
use Rattle.acsl_parser.specs.declared.words.LoopWord.{LoopWord}
use Rattle.acsl_parser.specs.declared.words.LoopWord.TheVariants as lw
use Rattle.acsl_parser.specs.Lists.{is_some}
use Rattle.parse_clauses.specs.Sorts.{Sorted, sorted_of, is_in}
use Rattle.acsl_parser.specs.Read as s
use Rattle.acsl_parser.proofs.Repeating.{RepeatedAt, none, more, Repeats, repeat_complete}
use Rattle.acsl_parser.proofs.Keywords.{clause_text, clause_found, loop_text, loop_found}
use Rattle.acsl_parser.proofs.Parts.{Below}
use Rattle.acsl_parser.proofs.Entries.{NotNothing, entry_first}
use Rattle.acsl_parser.proofs.Sound.{SpellsPart}

-- what was read, made into something else
pub bound : {X Y : Type 0} (read : Reader X) (f : X → Y) (ts : List Token) (a : X) (y : Y) (rest : List Token) → read ts ≡ Some (a, rest) → f a ≡ y → (read ts >>= λ a. got (f a.0) a.1) ≡ got y rest
bound read f ts a y rest h same = rw h (ap (λ y. got y rest) same)

pub ended_reads : {X : Type 0} (read : Reader X) (inside : List Token) (a : X) (line : ℕ) (rest : List Token) → read (inside ++ punct p.Semicolon line ∷ rest) ≡ Some (a, punct p.Semicolon line ∷ rest)
    → s.ended read (inside ++ punct p.Semicolon line ∷ rest) ≡ Some (a, rest)
ended_reads read inside a line rest h = rw h refl

pred_ends : (line : ℕ) (rest : List Token) → ends_pred (punct p.Semicolon line ∷ rest) ≡ true
unfolding ends_pred
pred_ends line rest = refl

pub pred_reads : {types : Names} → Below types → (room : ℕ) (trails : Bool) (inside : List Token) (a : r.Pred) → SpellsPred types room trails inside a → (line : ℕ) (rest : List Token)
    → s.pred_ended types room (inside ++ punct p.Semicolon line ∷ rest) ≡ Some (a, rest)
unfolding s.pred_ended
pred_reads {types} below room trails inside a sp line rest =
    ended_reads (pred_at types room) inside a line rest (below.pred_complete room trails inside a sp (punct p.Semicolon line ∷ rest) (pred_ends line rest))

semicolon_ends : (line : ℕ) (rest : List Token) → ends_term (punct p.Semicolon line ∷ rest) ≡ true
unfolding ends_term
semicolon_ends line rest = refl

comma_ends : (line : ℕ) (rest : List Token) → ends_term (punct p.Comma line ∷ rest) ≡ true
unfolding ends_term
comma_ends line rest = refl

from_ends : (line : ℕ) (rest : List Token) → ends_term (word w.From line ∷ rest) ≡ true
unfolding ends_term
from_ends line rest = refl

pub term_reads : (types : Names) (room : ℕ) (inside : List Token) (a : t.Term) → SpellsTerm types anywhere room inside a → (line : ℕ) (rest : List Token)
    → s.term_ended types room (inside ++ punct p.Semicolon line ∷ rest) ≡ Some (a, rest)
unfolding s.term_ended
term_reads types room inside a sp line rest =
    ended_reads (term_at types room) inside a line rest (term_complete types room inside a sp (punct p.Semicolon line ∷ rest) (semicolon_ends line rest))

-- ---- sets

-- what begins with an item begins as the item does
pub separated_begin : {X : Type 0} {Item : List Token → X → Type 0} (P : List Token → Type 0) → ((xs : List Token) (x : X) → Item xs x → (rest : List Token) → P (xs ++ rest))
    → {all : List Token} {xs : List X} → Separated Item all xs → (rest : List Token) → P (all ++ rest)
separated_begin P item (Separated.one {all} {x} sp) rest = item all x sp rest
separated_begin P item (Separated.more line {first} {rest = tail} {x} sp others eq) rest =
    subst (λ all. P (all ++ rest)) (sym eq) (subst P (sym (append_assoc first (punct p.Comma line ∷ tail) rest)) (item first x sp (punct p.Comma line ∷ (tail ++ rest))))

entries_complete : {types : Names} {room : ℕ} {xs : List Token} {ts : List t.Term} → g.SpellsEntries types room xs ts → (rest : List Token) → ends_term rest ≡ true → punct_at p.Comma rest ≡ None
    → s.entries_at types room (xs ++ rest) ≡ Some (ts, rest)
unfolding s.entries_at
entries_complete g.nothing rest ends stop = refl
entries_complete {types} {room} {xs} {ts} (g.entries sp) rest ends stop =
    let other : word_at w.Nothing (xs ++ rest) ≡ None = separated_begin NotNothing (λ xs x s rest. entry_first s rest) sp rest in
    rw other (separated_complete (SpellsEntry types room) (λ rest. ends_term rest ≡ true) (entry_at types room) (entry_complete types room) comma_ends xs ts sp rest ends stop)

from_complete : {types : Names} {room : ℕ} {xs : List Token} {lines : List ℕ} → g.SpellsFrom types room xs lines → (line : ℕ) (rest : List Token)
    → s.from_at types room (xs ++ punct p.Semicolon line ∷ rest) ≡ Some (lines, punct p.Semicolon line ∷ rest)
unfolding s.from_at
from_complete g.SpellsFrom.none line rest = refl
from_complete (g.from sp) line rest = rw (entries_complete sp (punct p.Semicolon line ∷ rest) (semicolon_ends line rest) refl) refl

behind_entries : {types : Names} {room : ℕ} {xs : List Token} {lines : List ℕ} → g.SpellsFrom types room xs lines → (line : ℕ) (rest : List Token)
    → (ends_term (xs ++ punct p.Semicolon line ∷ rest) ≡ true) × (punct_at p.Comma (xs ++ punct p.Semicolon line ∷ rest) ≡ None)
behind_entries g.SpellsFrom.none line rest = (semicolon_ends line rest, refl)
behind_entries (g.from {line = line'} {rest = tail} sp) line rest = (from_ends line' (tail ++ punct p.Semicolon line ∷ rest), refl)

assigns_read : (types : Names) (room at line semi : ℕ) (first second : List Token) (ts : List t.Term) (lines : List ℕ) → g.SpellsEntries types room first ts → g.SpellsFrom types room second lines
    → (rest : List Token) → s.assigns_at types room at line (first ++ (second ++ punct p.Semicolon semi ∷ rest)) ≡ Some (g.assigns_at at line ts lines, rest)
unfolding s.assigns_at
assigns_read types room at line semi first second ts lines es fs rest =
    let ends = behind_entries fs semi rest in
    rw (entries_complete es (second ++ punct p.Semicolon semi ∷ rest) ends.0 ends.1, from_complete fs semi rest) refl

-- ---- one clause

-- a clause behind its word
record ClauseAt (types : Names) (room at : ℕ) (keyword : List ℕ) (ts : List Token) (c : Clause) (rest : List Token) : Type 0 where
  own : ℕ
  after : List Token
  is : ts ≡ name keyword own ∷ after
  pred : r.Pred
  read : s.pred_ended types room after ≡ Some (pred, rest)
  made : g.clause_at at own pred ≡ c

clause_at' : {types : Names} → Below types → {room at : ℕ} {keyword : List ℕ} {xs : List Token} {c : Clause} → g.SpellsClause types room at keyword xs c → (rest : List Token) → ClauseAt types room at keyword (xs ++ rest) c rest
clause_at' below {room} {at} {keyword} (g.clause {line} {trails} line' {inside} {a} sp eq) rest =
    let semi = punct p.Semicolon line' in
    record {
      own = line;
      after = inside ++ semi ∷ rest;
      is = ap (λ l. l ++ rest) eq ∙ ap (λ l. name keyword line ∷ l) (append_assoc inside (semi ∷ []) rest);
      pred = a;
      read = pred_reads below room trails inside a sp line' rest;
      made = refl;
    }

record MeasureAt (types : Names) (room at : ℕ) (keyword : List ℕ) (ts : List Token) (m : Measure) (rest : List Token) : Type 0 where
  own : ℕ
  after : List Token
  is : ts ≡ name keyword own ∷ after
  term : t.Term
  read : s.term_ended types room after ≡ Some (term, rest)
  made : g.measure_at at own term ≡ m

measure_at' : {types : Names} {room at : ℕ} {keyword : List ℕ} {xs : List Token} {m : Measure} → g.SpellsMeasure types room at keyword xs m → (rest : List Token) → MeasureAt types room at keyword (xs ++ rest) m rest
measure_at' {types} {room} {at} {keyword} (g.measure {line} line' {inside} {a} sp eq) rest =
    let semi = punct p.Semicolon line' in
    record {
      own = line;
      after = inside ++ semi ∷ rest;
      is = ap (λ l. l ++ rest) eq ∙ ap (λ l. name keyword line ∷ l) (append_assoc inside (semi ∷ []) rest);
      term = a;
      read = term_reads types room inside a sp line' rest;
      made = refl;
    }

record AssignsAt (types : Names) (room at : ℕ) (ts : List Token) (a : AssignsClause) (rest : List Token) : Type 0 where
  own : ℕ
  after : List Token
  is : ts ≡ name (codes "assigns") own ∷ after
  set : List t.Term
  lines : List ℕ
  read : (line : ℕ) → s.assigns_at types room at line after ≡ Some (g.assigns_at at line set lines, rest)
  made : g.assigns_at at own set lines ≡ a

assigns_at' : {types : Names} {room at : ℕ} {xs : List Token} {a : AssignsClause} → g.SpellsAssigns types room at xs a → (rest : List Token) → AssignsAt types room at (xs ++ rest) a rest
assigns_at' {types} {room} {at} (g.assigns {line} line' {first} {second} {ts} {lines} es fs eq) rest =
    let semi = punct p.Semicolon line' in
    let own_word = name (codes "assigns") line in
    let regrouped : (own_word ∷ (first ++ (second ++ semi ∷ []))) ++ rest ≡ own_word ∷ (first ++ (second ++ semi ∷ rest)) = simp append_assoc in
    record {
      own = line;
      after = first ++ (second ++ semi ∷ rest);
      is = ap (λ l. l ++ rest) eq ∙ regrouped;
      set = ts;
      lines = lines;
      read = λ line. assigns_read types room at line line' first second ts lines es fs rest;
      made = refl;
    }

-- a clause's word, and what is read behind it
record ItemAt (types : Names) (room at : ℕ) (ts : List Token) (item : g.Item) (rest : List Token) : Type 0 where
  which : ClauseWord
  line : ℕ
  after : List Token
  is : ts ≡ name (clause_text which) line ∷ after
  read : s.item_by types room at line which after ≡ Some (item, rest)

loop_reads : (types : Names) (room at line own : ℕ) (which : LoopWord) (ts after : List Token) (item : g.Item) (rest : List Token) → ts ≡ name (loop_text which) own ∷ after
    → s.loop_item_by types room at line which after ≡ Some (item, rest) → s.loop_item_at types room at line ts ≡ Some (item, rest)
unfolding s.loop_item_at
loop_reads types room at line own which ts after item rest is read = rw (is, loop_found which own after) read

item_at' : {types : Names} → Below types → {room at : ℕ} {xs : List Token} {item : g.Item} → g.SpellsItem types room at xs item → (rest : List Token) → ItemAt types room at (xs ++ rest) item rest
item_at' {types} below {room} {at} (g.requires {c} sp) rest =
    let x = clause_at' below sp rest in
    record {
      which = cw.Requires;
      line = x.own;
      after = x.after;
      is = x.is;
      read = bound (s.pred_ended types room) (λ a. g.requires_item (g.clause_at at x.own a)) x.after x.pred (g.requires_item c) rest x.read (ap g.requires_item x.made);
    }
item_at' {types} below {room} {at} (g.ensures {c} sp) rest =
    let x = clause_at' below sp rest in
    record {
      which = cw.Ensures;
      line = x.own;
      after = x.after;
      is = x.is;
      read = bound (s.pred_ended types room) (λ a. g.ensures_item (g.clause_at at x.own a)) x.after x.pred (g.ensures_item c) rest x.read (ap g.ensures_item x.made);
    }
item_at' {types} below {room} {at} (g.assumes {c} sp) rest =
    let x = clause_at' below sp rest in
    record {
      which = cw.Assumes;
      line = x.own;
      after = x.after;
      is = x.is;
      read = bound (s.pred_ended types room) (λ a. g.assumes_item (g.clause_at at x.own a)) x.after x.pred (g.assumes_item c) rest x.read (ap g.assumes_item x.made);
    }
item_at' {types} below {room} {at} (g.assigns {a} sp) rest =
    let x = assigns_at' sp rest in
    record {
      which = cw.Assigns;
      line = x.own;
      after = x.after;
      is = x.is;
      read = bound (s.assigns_at types room at x.own) g.assigns_item x.after (g.assigns_at at x.own x.set x.lines) (g.assigns_item a) rest (x.read x.own) (ap g.assigns_item x.made);
    }
item_at' {types} below {room} {at} (g.decreases {m} sp) rest =
    let x = measure_at' sp rest in
    record {
      which = cw.Decreases;
      line = x.own;
      after = x.after;
      is = x.is;
      read = bound (s.term_ended types room) (λ a. g.decreases_item (g.measure_at at x.own a)) x.after x.term (g.decreases_item m) rest x.read (ap g.decreases_item x.made);
    }
item_at' {types} below {room} {at} (g.invariant {line} {rest = tail} {c} {c'} sp same) rest =
    let x = clause_at' below sp rest in
    let made : g.clause_at at line x.pred ≡ c' = ap (g.clause_from at line) x.made ∙ sym same in
    let read = bound (s.pred_ended types room) (λ a. g.invariant_item (g.clause_at at line a)) x.after x.pred (g.invariant_item c') rest x.read (ap g.invariant_item made) in
    record {
      which = cw.Loop;
      line = line;
      after = tail ++ rest;
      is = refl;
      read = loop_reads types room at line x.own lw.Invariant (tail ++ rest) x.after (g.invariant_item c') rest x.is read;
    }
item_at' {types} below {room} {at} (g.loop_assigns {line} {rest = tail} {a} {a'} sp same) rest =
    let x = assigns_at' sp rest in
    let made : g.assigns_at at line x.set x.lines ≡ a' = ap (g.assigns_from at line) x.made ∙ sym same in
    let read = bound (s.assigns_at types room at line) g.loop_assigns_item x.after (g.assigns_at at line x.set x.lines) (g.loop_assigns_item a') rest (x.read line) (ap g.loop_assigns_item made) in
    record {
      which = cw.Loop;
      line = line;
      after = tail ++ rest;
      is = refl;
      read = loop_reads types room at line x.own lw.Assigns (tail ++ rest) x.after (g.loop_assigns_item a') rest x.is read;
    }
item_at' {types} below {room} {at} (g.variant {line} {rest = tail} {m} {m'} sp same) rest =
    let x = measure_at' sp rest in
    let made : g.measure_at at line x.term ≡ m' = ap (g.measure_from at line) x.made ∙ sym same in
    let read = bound (s.term_ended types room) (λ a. g.variant_item (g.measure_at at line a)) x.after x.term (g.variant_item m') rest x.read (ap g.variant_item made) in
    record {
      which = cw.Loop;
      line = line;
      after = tail ++ rest;
      is = refl;
      read = loop_reads types room at line x.own lw.Variant (tail ++ rest) x.after (g.variant_item m') rest x.is read;
    }

item_found : (types : Names) (room at end line : ℕ) (which : ClauseWord) (after : List Token) (item : g.Item) (rest : List Token) → end - length (name (clause_text which) line ∷ after) ≡ at
    → s.item_by types room at line which after ≡ Some (item, rest) → s.item_at types room end (name (clause_text which) line ∷ after) ≡ Some (item, rest)
unfolding s.item_at
item_found types room at end line which after item rest place read =
    ap (λ o. o >>= λ x. s.item_by types room (end - length (name (clause_text which) line ∷ after)) x.0.1 x.0.0 x.1) (clause_found which line after) ∙ ap (λ at. s.item_by types room at line which after) place ∙ read

pub item_complete : {types : Names} → Below types → (room end at : ℕ) (xs : List Token) (item : g.Item) → g.SpellsItem types room at xs item → (rest : List Token) → at + length (xs ++ rest) ≡ end
    → s.item_at types room end (xs ++ rest) ≡ Some (item, rest)
item_complete {types} below room end at xs item sp rest placed =
    let x = item_at' below sp rest in
    let place : end - length (name (clause_text x.which) x.line ∷ x.after) ≡ at = omega (arith, placed, ap length x.is) in
    ap (s.item_at types room end) x.is ∙ item_found types room at end x.line x.which x.after item rest place x.read

pub word_starts : (which : ClauseWord) (line : ℕ) (after : List Token) → s.starts_item (name (clause_text which) line ∷ after) ≡ true
unfolding s.starts_item
word_starts which line after = ap is_some (clause_found which line after)

pub item_begins : {types : Names} → Below types → (room at : ℕ) (xs : List Token) (item : g.Item) → g.SpellsItem types room at xs item → (rest : List Token) → s.starts_item (xs ++ rest) ≡ true
item_begins below room at xs item sp rest =
    let x = item_at' below sp rest in
    ap s.starts_item x.is ∙ word_starts x.which x.line x.after

-- ---- clauses one after another

no_item : s.starts_item [] ≡ false
unfolding s.starts_item
no_item = refl

abbrev Anything : List Token → Type 0
Anything rest = Unit {0}

items_repeat : {types : Names} → Below types → (room end : ℕ) → Repeats (g.SpellsItem types room) Anything s.starts_item (s.item_at types room end) end
items_repeat below room end = record {
  reads = λ at xs item sp rest may placed. item_complete below room end at xs item sp rest placed;
  may = λ ts start'. tt;
  begins = item_begins below room;
  bare = no_item;
}

placed_items : {types : Names} {room at : ℕ} {xs : List Token} {items : List g.Item} → g.SpellsItems types room at xs items → RepeatedAt (g.SpellsItem types room) at xs items
placed_items g.SpellsItems.none = none
placed_items (g.SpellsItems.more x others eq) = more x (placed_items others) eq

pub items_complete : {types : Names} → Below types → (room end at : ℕ) (xs : List Token) (items : List g.Item) → g.SpellsItems types room at xs items → (rest : List Token) → s.starts_item rest ≡ false
    → at + length (xs ++ rest) ≡ end → s.items_at types room end (xs ++ rest) ≡ Some (items, rest)
unfolding s.items_at
items_complete below room end at xs items sp rest stop placed = repeat_complete (items_repeat below room end) (placed_items sp) rest tt stop placed

part_reads : (which : Part) (types : Names) (room end : ℕ) (ts : List Token) (items : List g.Item) (rest : List Token) → s.items_at types room end ts ≡ Some (items, rest) → g.may_stand (is_in which) items ≡ true
    → s.part_at which types room end ts ≡ Some (sorted_of items, rest)
unfolding s.part_at
part_reads which types room end ts items rest read stand = rw (read, stand) refl

pub part_complete : {types : Names} → Below types → (which : Part) (room end at : ℕ) (xs : List Token) (sorted : Sorted) → SpellsPart which types room at xs sorted → (rest : List Token) → s.starts_item rest ≡ false
    → at + length (xs ++ rest) ≡ end → s.part_at which types room end (xs ++ rest) ≡ Some (sorted, rest)
part_complete {types} below which room end at xs sorted sp rest stop placed =
    part_reads which types room end (xs ++ rest) sp.0 rest (items_complete below room end at xs sp.0 sp.1 rest stop placed) sp.2 ∙ ap (λ s. Some (s, rest)) sp.3
