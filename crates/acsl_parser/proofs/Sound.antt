-- What the readers of clauses and of the parts of contracts read is spelled so.
use Rattle.std.proofs.Common.{◌≡◌, ℕ, ◌+◌, ◌-◌, true, List, [], ◌∷◌, ◌++◌, length, codes, Some, None, refl, sym, ap, ◌∙◌, subst, append_assoc}
use Rattle.c_syntax.specs.declared.token.Token.{Token}
use Rattle.c_syntax.specs.declared.token.Punct.TheVariants as p
use Rattle.c_syntax.specs.declared.token.Word.TheVariants as w
use Rattle.c_syntax.specs.Term as t
use Rattle.c_syntax.specs.Pred as r
use Rattle.c_syntax.specs.Contract.{AssignsClause}
use Rattle.c_grammar.specs.Tokens.{Names, punct, word, name}
use Rattle.c_grammar.specs.Terms.{anywhere, SpellsTerm, SpellsEntry}
use Rattle.c_grammar.specs.Annots as g
use Rattle.c_grammar.specs.Reading.{Reader, ◌>>=◌, punct_at, word_at}
use Rattle.c_grammar.proofs.Readers.{Took, Sound, bind_ok, guard_ok, got, pair_is}
use Rattle.c_grammar.proofs.SingleTokens.{punct_is, word_is}
use Rattle.c_grammar.proofs.Separating.{separated_sound}
use Rattle.c_grammar.specs.Exactness.{SoundAt}
use Rattle.parse_terms.specs.Read.{term_at, entry_at}
use Rattle.parse_terms.proofs.Laws.{term_sound, entry_sound}
use Rattle.parse_preds.specs.Read.{pred_at}
use Rattle.parse_clauses.specs.declared.items.Part.{Part}
use Rattle.acsl_parser.specs.declared.words.ClauseWord.{ClauseWord}
use Rattle.acsl_parser.specs.declared.words.ClauseWord.TheVariants as cw
use Rattle.acsl_parser.specs.declared.words.LoopWord.{LoopWord}
use Rattle.acsl_parser.specs.declared.words.LoopWord.TheVariants as lw
use Rattle.acsl_parser.specs.Lists.{worded}
use Rattle.parse_clauses.specs.Sorts.{Sorted, sorted_of, is_in}
use Rattle.acsl_parser.specs.Read as s
use Rattle.acsl_parser.proofs.Repeating.{RepeatedAt, none, more, repeat_sound}
use Rattle.acsl_parser.proofs.Keywords.{clause_text, clause_worded, loop_text, loop_worded}
use Rattle.acsl_parser.proofs.Parts.{SomePred, Below}

-- ---- what is read, and made into something else

pub finish : {X Y : Type 0} (S : List Token → X → Type 0) (T : List Token → Y → Type 0) (read : Reader X) (f : X → Y) (ts after : List Token) → ((a : X) (rest : List Token) → read after ≡ Some (a, rest) → Took S ts a rest)
    → ((xs : List Token) (a : X) → S xs a → T xs (f a)) → (y : Y) (rest : List Token) → (read after >>= λ a. got (f a.0) a.1) ≡ got y rest → Took T ts y rest
finish S T read f ts after took makes y rest h =
    let a = bind_ok (read after) (λ a. got (f a.0) a.1) (y, rest) h in
    let same = pair_is (f a.0.0) y a.0.1 rest a.2 in
    let x = took a.0.0 a.0.1 a.1 in
    (x.0, x.1 ∙ ap (λ l. x.0 ++ l) same.1, subst (T x.0) same.0 (makes x.0 a.0.0 x.2))

-- some tokens, and a semicolon
pub record Ended {X : Type 0} (S : List Token → X → Type 0) (ts : List Token) (a : X) (rest : List Token) : Type 0 where
  pub inside : List Token
  pub line : ℕ
  pub spelled : S inside a
  pub all : ts ≡ inside ++ punct p.Semicolon line ∷ rest

pub ended_is : {X : Type 0} (S : List Token → X → Type 0) (read : Reader X) → Sound S read → (ts : List Token) (a : X) (rest : List Token) → s.ended read ts ≡ Some (a, rest) → Ended S ts a rest
ended_is S read sound ts a rest h =
    let x = bind_ok (read ts) (λ x. punct_at p.Semicolon x.1 >>= λ s. Some (x.0, s.1)) (a, rest) h in
    let e = bind_ok (punct_at p.Semicolon x.0.1) (λ s. Some (x.0.0, s.1)) (a, rest) x.2 in
    let same = pair_is x.0.0 a e.0.1 rest e.2 in
    let took = sound ts x.0.0 x.0.1 x.1 in
    record {
      inside = took.0;
      line = e.0.0;
      spelled = subst (S took.0) same.0 took.2;
      all = took.1 ∙ ap (λ l. took.0 ++ l) (punct_is p.Semicolon x.0.1 e.0.0 e.0.1 e.1 ∙ ap (λ l. punct p.Semicolon e.0.0 ∷ l) same.1);
    }

-- the same behind a word
pub worded_ended : {X : Type 0} (S : List Token → X → Type 0) (T : List Token → X → Type 0) (text : List ℕ) (line : ℕ)
    → ((line' : ℕ) (inside : List Token) (a : X) → S inside a → T (name text line ∷ (inside ++ punct p.Semicolon line' ∷ [])) a)
    → (ts after : List Token) → ts ≡ name text line ∷ after → (a : X) (rest : List Token) → Ended S after a rest → Took T ts a rest
worded_ended S T text line makes ts after is a rest e =
    let tail = punct p.Semicolon e.line ∷ [] in
    (name text line ∷ (e.inside ++ tail), is ∙ ap (λ l. name text line ∷ l) (e.all ∙ sym (append_assoc e.inside tail rest)), makes e.line e.inside a e.spelled)

-- ---- clauses

pub clause_took : {types : Names} → Below types → (room at : ℕ) (keyword : List ℕ) (line : ℕ) (ts after : List Token) → ts ≡ name keyword line ∷ after → (a : r.Pred) (rest : List Token)
    → s.pred_ended types room after ≡ Some (a, rest) → Took (λ xs a. g.SpellsClause types room at keyword xs (g.clause_at at line a)) ts a rest
unfolding s.pred_ended
clause_took {types} below room at keyword line ts after is a rest h =
    worded_ended (SomePred types room) (λ xs a. g.SpellsClause types room at keyword xs (g.clause_at at line a)) keyword line (λ line' inside a x. g.clause line' x.1 refl) ts after is a rest
    (ended_is (SomePred types room) (pred_at types room) (below.pred_sound room) after a rest h)

pub measure_took : (types : Names) (room at : ℕ) (keyword : List ℕ) (line : ℕ) (ts after : List Token) → ts ≡ name keyword line ∷ after → (a : t.Term) (rest : List Token)
    → s.term_ended types room after ≡ Some (a, rest) → Took (λ xs a. g.SpellsMeasure types room at keyword xs (g.measure_at at line a)) ts a rest
unfolding s.term_ended
measure_took types room at keyword line ts after is a rest h =
    worded_ended (SpellsTerm types anywhere room) (λ xs a. g.SpellsMeasure types room at keyword xs (g.measure_at at line a)) keyword line (λ line' inside a x. g.measure line' x refl) ts after is a rest
    (ended_is (SpellsTerm types anywhere room) (term_at types room) (term_sound types room) after a rest h)

pub entries_sound : (types : Names) (room : ℕ) → Sound (g.SpellsEntries types room) (s.entries_at types room)
unfolding s.entries_at
entries_sound types room ts as' rest h =
    elim (word_at w.Nothing ts) as (λ o. word_at w.Nothing ts ≡ o → s.entries_by types room o ts ≡ Some (as', rest) → Took (g.SpellsEntries types room) ts as' rest) [
      | None ↦ (λ none h.
          let x = separated_sound (SpellsEntry types room) (entry_at types room) (entry_sound types room) ts as' rest h in
          (x.0, x.1, g.entries x.2))
      | Some n ↦ (λ some h.
          let no_terms : List t.Term = [] in
          let same = pair_is no_terms as' n.1 rest h in
          let front = word w.Nothing n.0 ∷ [] in
          (front, word_is w.Nothing ts n.0 n.1 some ∙ ap (λ l. front ++ l) same.1, subst (g.SpellsEntries types room front) same.0 g.nothing))
    ]
    refl h

pub from_sound : (types : Names) (room : ℕ) → Sound (g.SpellsFrom types room) (s.from_at types room)
unfolding s.from_at
from_sound types room ts lines rest h =
    elim (word_at w.From ts) as (λ o. word_at w.From ts ≡ o → s.from_by types room o ts ≡ Some (lines, rest) → Took (g.SpellsFrom types room) ts lines rest) [
      | None ↦ (λ none h.
          let no_lines : List ℕ = [] in
          let same = pair_is no_lines lines ts rest h in
          ([], same.1, subst (g.SpellsFrom types room []) same.0 g.none))
      | Some f ↦ (λ some h.
          let es = bind_ok (s.entries_at types room f.1) (λ es. Some (f.0 ∷ [], es.1)) (lines, rest) h in
          let same = pair_is (f.0 ∷ []) lines es.0.1 rest es.2 in
          let took = entries_sound types room f.1 es.0.0 es.0.1 es.1 in
          let front = word w.From f.0 ∷ took.0 in
          (front, word_is w.From ts f.0 f.1 some ∙ ap (λ l. word w.From f.0 ∷ l) (took.1 ∙ ap (λ l. took.0 ++ l) same.1), subst (g.SpellsFrom types room front) same.0 (g.from took.2)))
    ]
    refl h

-- with the line of its own word, and with that of the part
abbrev pub SpellsAssigned : Names → (room at own line : ℕ) → List Token → AssignsClause → Type 0
SpellsAssigned types room at own line xs a = g.SpellsAssigns types room at xs (g.assigns_from at own a) × (g.assigns_from at line (g.assigns_from at own a) ≡ a)

pub assigns_took : (types : Names) (room at own line : ℕ) (ts after : List Token) → ts ≡ name (codes "assigns") own ∷ after → (a : AssignsClause) (rest : List Token)
    → s.assigns_at types room at line after ≡ Some (a, rest) → Took (SpellsAssigned types room at own line) ts a rest
unfolding s.assigns_at
assigns_took types room at own line ts after is a rest h =
    let es = bind_ok (s.entries_at types room after) (λ es. s.from_at types room es.1 >>= λ ls. punct_at p.Semicolon ls.1 >>= λ s. Some (g.assigns_at at line es.0 ls.0, s.1)) (a, rest) h in
    let ls = bind_ok (s.from_at types room es.0.1) (λ ls. punct_at p.Semicolon ls.1 >>= λ s. Some (g.assigns_at at line es.0.0 ls.0, s.1)) (a, rest) es.2 in
    let e = bind_ok (punct_at p.Semicolon ls.0.1) (λ s. Some (g.assigns_at at line es.0.0 ls.0.0, s.1)) (a, rest) ls.2 in
    let same = pair_is (g.assigns_at at line es.0.0 ls.0.0) a e.0.1 rest e.2 in
    let first = entries_sound types room after es.0.0 es.0.1 es.1 in
    let second = from_sound types room es.0.1 ls.0.0 ls.0.1 ls.1 in
    let own_word = name (codes "assigns") own in
    let semi = punct p.Semicolon e.0.0 in
    let end : ls.0.1 ≡ semi ∷ rest = punct_is p.Semicolon ls.0.1 e.0.0 e.0.1 e.1 ∙ ap (λ l. semi ∷ l) same.1 in
    let all = own_word ∷ (first.0 ++ (second.0 ++ semi ∷ [])) in
    let regrouped : own_word ∷ (first.0 ++ (second.0 ++ semi ∷ rest)) ≡ all ++ rest = simp append_assoc in
    let clause : g.SpellsAssigns types room at all (g.assigns_at at own es.0.0 ls.0.0) = g.assigns e.0.0 first.2 second.2 refl in (
      all,
      is ∙ ap (λ l. own_word ∷ l) (first.1 ∙ ap (λ l. first.0 ++ l) (second.1 ∙ ap (λ l. second.0 ++ l) end)) ∙ regrouped,
      subst (SpellsAssigned types room at own line all) same.0 (clause, refl),
    )

-- with `loop` before it
abbrev BehindLoop : Names → (room at line : ℕ) → List Token → g.Item → Type 0
BehindLoop types room at line xs item = g.SpellsItem types room at (name (codes "loop") line ∷ xs) item

loop_by_sound : {types : Names} → Below types → (room at line own : ℕ) (which : LoopWord) (ts after : List Token) → ts ≡ name (loop_text which) own ∷ after → (item : g.Item) (rest : List Token)
    → s.loop_item_by types room at line which after ≡ Some (item, rest) → Took (BehindLoop types room at line) ts item rest
loop_by_sound {types} below room at line own lw.Invariant ts after is =
    finish (λ xs a. g.SpellsClause types room at (codes "invariant") xs (g.clause_at at own a)) (BehindLoop types room at line) (s.pred_ended types room) (λ a. g.invariant_item (g.clause_at at line a)) ts after
    (clause_took below room at (codes "invariant") own ts after is) (λ xs a x. g.invariant x refl)
loop_by_sound {types} below room at line own lw.Assigns ts after is =
    finish (SpellsAssigned types room at own line) (BehindLoop types room at line) (s.assigns_at types room at line) (λ a. g.loop_assigns_item a) ts after
    (assigns_took types room at own line ts after is) (λ xs a x. g.loop_assigns x.0 (sym x.1))
loop_by_sound {types} below room at line own lw.Variant ts after is =
    finish (λ xs a. g.SpellsMeasure types room at (codes "variant") xs (g.measure_at at own a)) (BehindLoop types room at line) (s.term_ended types room) (λ a. g.variant_item (g.measure_at at line a)) ts after
    (measure_took types room at (codes "variant") own ts after is) (λ xs a x. g.variant x refl)

loop_item_sound : {types : Names} → Below types → (room at line : ℕ) (ts after : List Token) → ts ≡ name (codes "loop") line ∷ after → (item : g.Item) (rest : List Token)
    → s.loop_item_at types room at line after ≡ Some (item, rest) → Took (g.SpellsItem types room at) ts item rest
unfolding s.loop_item_at
loop_item_sound {types} below room at line ts after is item rest h =
    let x = bind_ok (worded s.loop_word after) (λ x. s.loop_item_by types room at line x.0.0 x.1) (item, rest) h in
    let took = loop_by_sound below room at line x.0.0.1 x.0.0.0 after x.0.1 (loop_worded after x.0.0.0 x.0.0.1 x.0.1 x.1) item rest x.2 in
    (name (codes "loop") line ∷ took.0, is ∙ ap (λ l. name (codes "loop") line ∷ l) took.1, took.2)

item_by_sound : {types : Names} → Below types → (room at line : ℕ) (which : ClauseWord) (ts after : List Token) → ts ≡ name (clause_text which) line ∷ after → (item : g.Item) (rest : List Token)
    → s.item_by types room at line which after ≡ Some (item, rest) → Took (g.SpellsItem types room at) ts item rest
item_by_sound {types} below room at line cw.Requires ts after is =
    finish (λ xs a. g.SpellsClause types room at (codes "requires") xs (g.clause_at at line a)) (g.SpellsItem types room at) (s.pred_ended types room) (λ a. g.requires_item (g.clause_at at line a)) ts after
    (clause_took below room at (codes "requires") line ts after is) (λ xs a x. g.requires x)
item_by_sound {types} below room at line cw.Ensures ts after is =
    finish (λ xs a. g.SpellsClause types room at (codes "ensures") xs (g.clause_at at line a)) (g.SpellsItem types room at) (s.pred_ended types room) (λ a. g.ensures_item (g.clause_at at line a)) ts after
    (clause_took below room at (codes "ensures") line ts after is) (λ xs a x. g.ensures x)
item_by_sound {types} below room at line cw.Assumes ts after is =
    finish (λ xs a. g.SpellsClause types room at (codes "assumes") xs (g.clause_at at line a)) (g.SpellsItem types room at) (s.pred_ended types room) (λ a. g.assumes_item (g.clause_at at line a)) ts after
    (clause_took below room at (codes "assumes") line ts after is) (λ xs a x. g.assumes x)
item_by_sound {types} below room at line cw.Assigns ts after is =
    finish (SpellsAssigned types room at line line) (g.SpellsItem types room at) (s.assigns_at types room at line) (λ a. g.assigns_item a) ts after
    (assigns_took types room at line line ts after is) (λ xs a x. g.assigns (subst (g.SpellsAssigns types room at xs) x.1 x.0))
item_by_sound {types} below room at line cw.Decreases ts after is =
    finish (λ xs a. g.SpellsMeasure types room at (codes "decreases") xs (g.measure_at at line a)) (g.SpellsItem types room at) (s.term_ended types room) (λ a. g.decreases_item (g.measure_at at line a)) ts after
    (measure_took types room at (codes "decreases") line ts after is) (λ xs a x. g.decreases x)
item_by_sound below room at line cw.Loop ts after is = loop_item_sound below room at line ts after is

pub item_sound : {types : Names} → Below types → (room end : ℕ) → SoundAt (g.SpellsItem types room) end (s.item_at types room end)
unfolding s.item_at
item_sound {types} below room end ts item rest le h =
    let at = end - length ts in
    let x = bind_ok (worded s.clause_word ts) (λ x. s.item_by types room at x.0.1 x.0.0 x.1) (item, rest) h in
    item_by_sound below room at x.0.0.1 x.0.0.0 ts x.0.1 (clause_worded ts x.0.0.0 x.0.0.1 x.0.1 x.1) item rest x.2

-- ---- clauses one after another

pub items_of : {types : Names} {room at : ℕ} {xs : List Token} {items : List g.Item} → RepeatedAt (g.SpellsItem types room) at xs items → g.SpellsItems types room at xs items
items_of none = g.SpellsItems.none
items_of (more x others eq) = g.SpellsItems.more x (items_of others) eq

pub items_sound : {types : Names} → Below types → (room end : ℕ) → SoundAt (g.SpellsItems types room) end (s.items_at types room end)
unfolding s.items_at
items_sound {types} below room end ts items rest le h =
    let x = repeat_sound (g.SpellsItem types room) s.starts_item (s.item_at types room end) end (item_sound below room end) (length ts) ts items rest le h in
    (x.0, x.1, items_of x.2)

-- clauses that may stand together, by their sorts
abbrev pub SpellsPart : Part → Names → (room at : ℕ) → List Token → Sorted → Type 0
SpellsPart which types room at xs sorted = (items : List g.Item) × g.SpellsItems types room at xs items × (g.may_stand (is_in which) items ≡ true) × (sorted_of items ≡ sorted)

pub part_sound : {types : Names} → Below types → (which : Part) (room end : ℕ) → SoundAt (SpellsPart which types room) end (s.part_at which types room end)
unfolding s.part_at
part_sound {types} below which room end ts sorted rest le h =
    let x = bind_ok (s.items_at types room end ts) _ (sorted, rest) h in
    let made : Sorted × List Token = (sorted_of x.0.0, x.0.1) in
    let found : Sorted × List Token = (sorted, rest) in
    let test = guard_ok (g.may_stand (is_in which) x.0.0) made found x.2 in
    let same = pair_is (sorted_of x.0.0) sorted x.0.1 rest (ap Some test.1) in
    let took = items_sound below room end ts x.0.0 x.0.1 le x.1 in
    (took.0, took.1 ∙ ap (λ l. took.0 ++ l) same.1, (x.0.0, took.2, test.0, same.0))
