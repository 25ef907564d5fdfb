-- The readers of contracts, loops, assertions and definitions read whatever is spelled.
use Rattle.std.proofs.Common.{◌≡◌, ℕ, suc, ◌+◌, ◌-◌, true, false, List, [], ◌∷◌, ◌++◌, length, codes, Option, Some, None, refl, sym, ap, ◌∙◌, subst, arith, append_assoc, length-append}
use Rattle.c_syntax.specs.declared.token.Token.{Token}
use Rattle.c_syntax.specs.declared.token.Punct.TheVariants as p
use Rattle.c_syntax.specs.Expr as e
use Rattle.c_syntax.specs.Term as t
use Rattle.c_syntax.specs.Pred as r
use Rattle.c_syntax.specs.Decl as d
use Rattle.c_syntax.specs.Contract.{Behavior, Contract, LoopAnnot}
use Rattle.c_grammar.specs.Tokens.{Names, is_type, punct, name}
use Rattle.c_grammar.specs.Lists.{Repeated}
use Rattle.c_grammar.specs.Preds.{SpellsTyped}
use Rattle.c_grammar.specs.Annots as g
use Rattle.c_grammar.specs.Reading.{◌>>=◌, punct_at, keyword_at}
use Rattle.c_grammar.specs.declared.limits.TheConstants.{DEEPEST}
use Rattle.c_grammar.specs.Declarators.{declared}
use Rattle.c_grammar.specs.ListReaders.{separated_at}
use Rattle.c_grammar.proofs.Separating.{separated_complete}
use Rattle.parse_preds.specs.Read.{typed_at}
use Rattle.parse_clauses.specs.declared.items.Part.TheVariants as part
use Rattle.acsl_parser.specs.declared.words.EndWord.{EndWord}
use Rattle.acsl_parser.specs.declared.words.EndWord.TheVariants as ew
use Rattle.acsl_parser.specs.declared.words.LogicWord.{LogicWord}
use Rattle.acsl_parser.specs.declared.words.LogicWord.TheVariants as gw
use Rattle.acsl_parser.specs.Lists.{worded, is_some}
use Rattle.parse_clauses.specs.Sorts.{Sorted, sorted_of, behavior_of, loop_made, contract_made}
use Rattle.acsl_parser.specs.Read as s
use Rattle.acsl_parser.proofs.Repeating.{RepeatedAt, none, more, Repeats, goes_on, repeat_complete, repeat_starts}
use Rattle.acsl_parser.proofs.Keywords.{keyword_is, end_text, end_found, end_worded, logic_text, logic_found}
use Rattle.acsl_parser.proofs.Parts.{Below}
use Rattle.acsl_parser.proofs.SoundParts.{LogicAt}
use Rattle.acsl_parser.proofs.Complete.{ended_reads, pred_reads, term_reads, separated_begin, part_complete}

-- ---- behaviors

behavior_found : (types : Names) (at end line line' line'' : ℕ) (x : List ℕ) (after : List Token) (sorted : Sorted) (rest : List Token) → is_type types x ≡ false
    → end - length (name (codes "behavior") line ∷ name x line' ∷ punct p.Colon line'' ∷ after) ≡ at → s.part_at part.Behavior types DEEPEST end after ≡ Some (sorted, rest)
    → s.behavior_at types end (name (codes "behavior") line ∷ name x line' ∷ punct p.Colon line'' ∷ after) ≡ Some (behavior_of at (x, line') sorted, rest)
unfolding s.behavior_at
behavior_found types at end line line' line'' x after sorted rest new place read =
    let made : ℕ → Option (Behavior × List Token) = λ at. Some (behavior_of at (x, line') sorted, rest) in
    let here : s.behavior_at types end (name (codes "behavior") line ∷ name x line' ∷ punct p.Colon line'' ∷ after) ≡ made (end - length (name (codes "behavior") line ∷ name x line' ∷ punct p.Colon line'' ∷ after)) = rw (new, read) refl in
    here ∙ ap made place

pub behavior_complete : {types : Names} → Below types → (end at : ℕ) (xs : List Token) (b : Behavior) → g.SpellsBehavior types at xs b → (rest : List Token) → s.starts_item rest ≡ false
    → at + length (xs ++ rest) ≡ end → s.behavior_at types end (xs ++ rest) ≡ Some (b, rest)
behavior_complete {types} below end at xs b (g.behavior line line'' {line'} {x} {inside} {items} new its stands eq is) rest stop placed =
    let split : xs ++ rest ≡ name (codes "behavior") line ∷ name x line' ∷ punct p.Colon line'' ∷ (inside ++ rest) = ap (λ l. l ++ rest) eq in
    let count : length (xs ++ rest) ≡ suc (suc (suc (length (inside ++ rest)))) = ap length split in
    let within : (at + 3) + length (inside ++ rest) ≡ end = omega (arith, count, placed) in
    let place : end - suc (suc (suc (length (inside ++ rest)))) ≡ at = omega (arith, count, placed) in
    let read = part_complete below part.Behavior DEEPEST end (at + 3) inside (sorted_of items) (items, its, stands, refl) rest stop within in
    ap (s.behavior_at types end) split ∙ behavior_found types at end line line' line'' x (inside ++ rest) (sorted_of items) rest new place read ∙ ap (λ b. Some (b, rest)) (sym is)

behavior_begins : (types : Names) (at : ℕ) (xs : List Token) (b : Behavior) → g.SpellsBehavior types at xs b → (rest : List Token) → s.starts_behavior (xs ++ rest) ≡ true
unfolding s.starts_behavior
behavior_begins types at xs b (g.behavior line line'' new its stands eq is) rest = ap (λ l. s.starts_behavior (l ++ rest)) eq

some_found : {X : Type 0} (o : Option X) → is_some o ≡ true → (x : X) × (o ≡ Some x)
some_found None h = absurd cc
some_found (Some x) h = (x, refl)

-- ---- where a part ends

behavior_no_item : (line : ℕ) (after : List Token) → s.starts_item (name (codes "behavior") line ∷ after) ≡ false
unfolding s.starts_item s.clause_word
behavior_no_item line after = refl

behavior_no_clause : (ts : List Token) → s.starts_behavior ts ≡ true → s.starts_item ts ≡ false
unfolding s.starts_behavior
behavior_no_clause ts h =
    let x = some_found (keyword_at (codes "behavior") ts) h in
    ap s.starts_item (keyword_is (codes "behavior") ts x.0.0 x.0.1 x.1) ∙ behavior_no_item x.0.0 x.0.1

-- no clause and no behavior starts here
abbrev pub NoPart : List Token → Type 0
NoPart ts = (s.starts_item ts ≡ false) × (s.starts_behavior ts ≡ false)

end_no_part : (which : EndWord) (line : ℕ) (after : List Token) → NoPart (name (end_text which) line ∷ after)
unfolding s.starts_item s.clause_word s.starts_behavior
end_no_part ew.Complete line after = (refl, refl)
end_no_part ew.Disjoint line after = (refl, refl)

ending_no_part : (ts : List Token) → s.starts_ending ts ≡ true → NoPart ts
unfolding s.starts_ending
ending_no_part ts h =
    let x = some_found (worded s.end_word ts) h in
    subst NoPart (sym (end_worded ts x.0.0.0 x.0.0.1 x.0.1 x.1)) (end_no_part x.0.0.0 x.0.0.1 x.0.1)

no_behavior : s.starts_behavior [] ≡ false
unfolding s.starts_behavior
no_behavior = refl

behaviors_repeat : {types : Names} → Below types → (end : ℕ) → Repeats (g.SpellsBehavior types) (λ rest. s.starts_item rest ≡ false) s.starts_behavior (s.behavior_at types end) end
behaviors_repeat {types} below end = record {
  reads = λ at xs b sp rest stop placed. behavior_complete below end at xs b sp rest stop placed;
  may = behavior_no_clause;
  begins = behavior_begins types;
  bare = no_behavior;
}

placed_behaviors : {types : Names} {at : ℕ} {xs : List Token} {bs : List Behavior} → g.SpellsBehaviors types at xs bs → RepeatedAt (g.SpellsBehavior types) at xs bs
placed_behaviors g.SpellsBehaviors.none = none
placed_behaviors (g.SpellsBehaviors.more x others eq) = more x (placed_behaviors others) eq

behaviors_complete : {types : Names} → Below types → (end at : ℕ) (xs : List Token) (bs : List Behavior) → g.SpellsBehaviors types at xs bs → (rest : List Token) → NoPart rest
    → at + length (xs ++ rest) ≡ end → s.all_behaviors_at types end (xs ++ rest) ≡ Some (bs, rest)
unfolding s.all_behaviors_at
behaviors_complete below end at xs bs sp rest stop placed = repeat_complete (behaviors_repeat below end) (placed_behaviors sp) rest stop.0 stop.1 placed

-- ---- what is said of behaviors

Anything : List Token → Type 0
Anything rest = Unit {0}

name_complete : (xs : List Token) (x : List ℕ) → g.SpellsName xs x → (rest : List Token) → Anything rest → s.plain_name_at (xs ++ rest) ≡ Some (x, rest)
unfolding s.plain_name_at
name_complete xs x g.name_of rest may = refl

name_no_semicolon : (xs : List Token) (x : List ℕ) → g.SpellsName xs x → (rest : List Token) → punct_at p.Semicolon (xs ++ rest) ≡ None
name_no_semicolon xs x g.name_of rest = refl

names_complete : {xs : List Token} {ns : List (List ℕ)} → g.SpellsNames xs ns → (line : ℕ) (rest : List Token) → s.names_at (xs ++ punct p.Semicolon line ∷ rest) ≡ Some (ns, rest)
unfolding s.names_at Anything
names_complete g.SpellsNames.none line rest = refl
names_complete {xs} {ns} (g.SpellsNames.some sp) line rest =
    let other : punct_at p.Semicolon (xs ++ punct p.Semicolon line ∷ rest) ≡ None = separated_begin (λ ts. punct_at p.Semicolon ts ≡ None) name_no_semicolon sp (punct p.Semicolon line ∷ rest) in
    rw other
    (ended_reads (separated_at s.plain_name_at) xs ns line rest (separated_complete g.SpellsName Anything s.plain_name_at name_complete (λ line ts. tt) xs ns sp (punct p.Semicolon line ∷ rest) tt refl))

ending_found : (at end line line' : ℕ) (which : EndWord) (after : List Token) (ns : List (List ℕ)) (rest : List Token) → end - length (name (end_text which) line ∷ name (codes "behaviors") line' ∷ after) ≡ at
    → s.names_at after ≡ Some (ns, rest) → s.ending_at end (name (end_text which) line ∷ name (codes "behaviors") line' ∷ after) ≡ Some (s.ending_of which (g.behaviors_at at line ns), rest)
unfolding s.ending_at
ending_found at end line line' which after ns rest place read =
    let ts = name (end_text which) line ∷ name (codes "behaviors") line' ∷ after in
    let made : ℕ → Option (g.Ending × List Token) = λ at. Some (s.ending_of which (g.behaviors_at at line ns), rest) in
    let inner : (keyword_at (codes "behaviors") (name (codes "behaviors") line' ∷ after) >>= λ b. s.names_at b.1 >>= λ xs. Some (s.ending_of which (g.behaviors_at (end - length ts) line xs.0), xs.1)) ≡ made (end - length ts) = rw read refl in
    ap (λ o. o >>= λ x. keyword_at (codes "behaviors") x.1 >>= λ b. s.names_at b.1 >>= λ xs. Some (s.ending_of x.0.0 (g.behaviors_at (end - length ts) x.0.1 xs.0), xs.1)) (end_found which line (name (codes "behaviors") line' ∷ after))
    ∙ inner ∙ ap made place

ending_reads : (at end line line' line'' : ℕ) (which : EndWord) (inside : List Token) (ns : List (List ℕ)) (xs : List Token) → g.SpellsNames inside ns
    → xs ≡ name (end_text which) line ∷ name (codes "behaviors") line' ∷ (inside ++ punct p.Semicolon line'' ∷ []) → (rest : List Token)
    → at + length (xs ++ rest) ≡ end → s.ending_at end (xs ++ rest) ≡ Some (s.ending_of which (g.behaviors_at at line ns), rest)
ending_reads at end line line' line'' which inside ns xs sp eq rest placed =
    let after = inside ++ punct p.Semicolon line'' ∷ rest in
    let front = name (end_text which) line ∷ name (codes "behaviors") line' ∷ [] in
    let split : xs ++ rest ≡ front ++ after = ap (λ l. l ++ rest) eq ∙ ap (λ l. front ++ l) (append_assoc inside (punct p.Semicolon line'' ∷ []) rest) in
    let count : length (xs ++ rest) ≡ suc (suc (length after)) = ap length split in
    let place : end - suc (suc (length after)) ≡ at = omega (arith, count, placed) in
    ap (s.ending_at end) split ∙ ending_found at end line line' which after ns rest place (names_complete sp line'' rest)

pub ending_complete : (end at : ℕ) (xs : List Token) (x : g.Ending) → g.SpellsEnding at xs x → (rest : List Token) → at + length (xs ++ rest) ≡ end → s.ending_at end (xs ++ rest) ≡ Some (x, rest)
ending_complete end at xs x (g.complete {line} line' line'' {inside} {xs = ns} sp eq) rest placed = ending_reads at end line line' line'' ew.Complete inside ns xs sp eq rest placed
ending_complete end at xs x (g.disjoint {line} line' line'' {inside} {xs = ns} sp eq) rest placed = ending_reads at end line line' line'' ew.Disjoint inside ns xs sp eq rest placed

end_starts : (which : EndWord) (line : ℕ) (after : List Token) → s.starts_ending (name (end_text which) line ∷ after) ≡ true
unfolding s.starts_ending
end_starts which line after = ap is_some (end_found which line after)

ending_begins : (at : ℕ) (xs : List Token) (x : g.Ending) → g.SpellsEnding at xs x → (rest : List Token) → s.starts_ending (xs ++ rest) ≡ true
ending_begins at xs x (g.complete {line} line' line'' {inside} sp eq) rest =
    ap (λ l. s.starts_ending (l ++ rest)) eq ∙ end_starts ew.Complete line ((name (codes "behaviors") line' ∷ (inside ++ punct p.Semicolon line'' ∷ [])) ++ rest)
ending_begins at xs x (g.disjoint {line} line' line'' {inside} sp eq) rest =
    ap (λ l. s.starts_ending (l ++ rest)) eq ∙ end_starts ew.Disjoint line ((name (codes "behaviors") line' ∷ (inside ++ punct p.Semicolon line'' ∷ [])) ++ rest)

no_ending : s.starts_ending [] ≡ false
unfolding s.starts_ending
no_ending = refl

endings_repeat : (end : ℕ) → Repeats g.SpellsEnding NoPart s.starts_ending (s.ending_at end) end
endings_repeat end = record {
  reads = λ at xs x sp rest stop placed. ending_complete end at xs x sp rest placed;
  may = ending_no_part;
  begins = ending_begins;
  bare = no_ending;
}

placed_endings : {at : ℕ} {xs : List Token} {es : List g.Ending} → g.SpellsEndings at xs es → RepeatedAt g.SpellsEnding at xs es
placed_endings g.SpellsEndings.none = none
placed_endings (g.SpellsEndings.more x others eq) = more x (placed_endings others) eq

endings_complete : (end at : ℕ) (xs : List Token) (es : List g.Ending) → g.SpellsEndings at xs es → (rest : List Token) → NoPart rest → s.starts_ending rest ≡ false
    → at + length (xs ++ rest) ≡ end → s.all_endings_at end (xs ++ rest) ≡ Some (es, rest)
unfolding s.all_endings_at
endings_complete end at xs es sp rest stop stop' placed = repeat_complete (endings_repeat end) (placed_endings sp) rest stop stop' placed

-- ---- contracts

contract_reads : (types : Names) (end : ℕ) (ts ts' ts'' rest : List Token) (sorted : Sorted) (bs : List Behavior) (es : List g.Ending) → s.part_at part.Contract types DEEPEST end ts ≡ Some (sorted, ts')
    → s.all_behaviors_at types end ts' ≡ Some (bs, ts'') → s.all_endings_at end ts'' ≡ Some (es, rest) → s.contract_at types end ts ≡ Some (contract_made sorted bs es, rest)
unfolding s.contract_at
contract_reads types end ts ts' ts'' rest sorted bs es first second third = rw (first, second, third) refl

pub contract_complete : {types : Names} → Below types → (end at : ℕ) (xs : List Token) (c : Contract) → g.SpellsContract types at xs c → (rest : List Token) → NoPart rest → s.starts_ending rest ≡ false
    → at + length (xs ++ rest) ≡ end → s.contract_at types end (xs ++ rest) ≡ Some (c, rest)
contract_complete {types} below end at xs c (g.contract {first} {second} {third} {items} {behaviors} {endings} its stands bs es eq is) rest stop stop' placed =
    let split : xs ++ rest ≡ first ++ (second ++ (third ++ rest)) = ap (λ l. l ++ rest) eq ∙ simp append_assoc in
    let count : length (xs ++ rest) ≡ length first + length (second ++ (third ++ rest)) = ap length split ∙ length-append first (second ++ (third ++ rest)) in
    let count' = length-append second (third ++ rest) in
    let place : at + length (first ++ (second ++ (third ++ rest))) ≡ end = omega (arith, placed, ap length split) in
    let place' : (at + length first) + length (second ++ (third ++ rest)) ≡ end = omega (arith, placed, count) in
    let place'' : (at + length first + length second) + length (third ++ rest) ≡ end = omega (arith, place', count') in
    let later = goes_on (endings_repeat end) (placed_endings es) rest stop in
    let after = goes_on (behaviors_repeat below end) (placed_behaviors bs) (third ++ rest) later.0 in
    ap (s.contract_at types end) split
    ∙ contract_reads types end (first ++ (second ++ (third ++ rest))) (second ++ (third ++ rest)) (third ++ rest) rest (sorted_of items) behaviors endings
    (part_complete below part.Contract DEEPEST end at first (sorted_of items) (items, its, stands, refl) (second ++ (third ++ rest)) after place)
    (behaviors_complete below end (at + length first) second behaviors bs (third ++ rest) later place')
    (endings_complete end (at + length first + length second) third endings es rest stop stop' place'')
    ∙ ap (λ c. Some (c, rest)) (sym is)

-- ---- loops and assertions

loop_reads : (types : Names) (room end : ℕ) (ts rest : List Token) (sorted : Sorted) → s.part_at part.Loop types room end ts ≡ Some (sorted, rest) → s.loop_at types room end ts ≡ Some (loop_made sorted, rest)
unfolding s.loop_at
loop_reads types room end ts rest sorted read = rw read refl

pub loop_complete : {types : Names} → Below types → (room end at : ℕ) (xs : List Token) (a : LoopAnnot) → g.SpellsLoop types room at xs a → (rest : List Token) → s.starts_item rest ≡ false
    → at + length (xs ++ rest) ≡ end → s.loop_at types room end (xs ++ rest) ≡ Some (a, rest)
loop_complete {types} below room end at xs a (g.loop {items} its stands is) rest stop placed =
    loop_reads types room end (xs ++ rest) rest (sorted_of items) (part_complete below part.Loop room end at xs (sorted_of items) (items, its, stands, refl) rest stop placed) ∙ ap (λ a. Some (a, rest)) (sym is)

assert_reads : (types : Names) (room line : ℕ) (after : List Token) (a : r.Pred) (rest : List Token) → s.pred_ended types room after ≡ Some (a, rest) → s.assert_at types room (name (codes "assert") line ∷ after) ≡ Some ((a, line), rest)
unfolding s.assert_at
assert_reads types room line after a rest read = rw read refl

pub assert_complete : {types : Names} → Below types → (room : ℕ) (xs : List Token) (a : r.Pred) (line : ℕ) → g.SpellsAssert types room xs a line → (rest : List Token) → s.assert_at types room (xs ++ rest) ≡ Some ((a, line), rest)
assert_complete {types} below room xs a line (g.assert {trails} line' {inside} sp eq) rest =
    let semi = punct p.Semicolon line' in
    ap (λ l. s.assert_at types room (l ++ rest)) eq ∙ ap (λ l. s.assert_at types room (name (codes "assert") line ∷ l)) (append_assoc inside (semi ∷ []) rest)
    ∙ assert_reads types room line (inside ++ semi ∷ rest) a rest (pred_reads below room trails inside a sp line' rest)

-- ---- definitions

params_complete : {types : Names} → Below types → {xs : List Token} {vs : List e.VarDecl} → g.SpellsLogicParams types xs vs → (line : ℕ) (rest : List Token)
    → s.params_at types (xs ++ punct p.Assign line ∷ rest) ≡ Some (vs, punct p.Assign line ∷ rest)
unfolding s.params_at Anything
params_complete below g.SpellsLogicParams.none line rest = refl
params_complete {types} below {xs} {vs} (g.SpellsLogicParams.some line' line'' {inside} sp eq) line rest =
    let behind = punct p.Assign line ∷ rest in
    let close' = punct p.CloseParen line'' in
    let split : xs ++ behind ≡ punct p.OpenParen line' ∷ (inside ++ close' ∷ behind) = ap (λ l. l ++ behind) eq ∙ ap (λ l. punct p.OpenParen line' ∷ l) (append_assoc inside (close' ∷ []) behind) in
    let read = separated_complete (SpellsTyped types) Anything (typed_at types) (λ xs x sp rest may. below.typed_complete xs x sp rest) (λ line ts. tt) inside vs sp (close' ∷ behind) tt refl in
    ap (s.params_at types) split ∙ rw read refl

predicate_reads : (types : Names) (line line' : ℕ) (x : List ℕ) (ts after : List Token) (vs : List e.VarDecl) (a : r.Pred) (rest : List Token) → is_type types x ≡ false
    → s.params_at types ts ≡ Some (vs, punct p.Assign line' ∷ after) → s.pred_ended types DEEPEST after ≡ Some (a, rest) → s.predicate_at types (name x line ∷ ts) ≡ Some (s.predicate_of (x, line) vs a, rest)
unfolding s.predicate_at
predicate_reads types line line' x ts after vs a rest new params body = rw (new, params, body) refl

function_reads : (types : Names) (line' : ℕ) (ts ts' after : List Token) (v : e.VarDecl) (vs : List e.VarDecl) (a : t.Term) (rest : List Token) → typed_at types ts ≡ Some (v, ts')
    → s.params_at types ts' ≡ Some (vs, punct p.Assign line' ∷ after) → s.term_ended types DEEPEST after ≡ Some (a, rest) → s.function_at types ts ≡ Some (s.function_of v vs a, rest)
unfolding s.function_at
function_reads types line' ts ts' after v vs a rest typed params body = rw (typed, params, body) refl

logic_reads : (types : Names) (line : ℕ) (which : LogicWord) (after : List Token) (made : d.LogicDecl) (rest : List Token) → s.logic_by types which after ≡ Some (made, rest)
    → s.logic_at types (name (logic_text which) line ∷ after) ≡ Some (made, rest)
unfolding s.logic_at
logic_reads types line which after made rest read = ap (λ o. o >>= λ x. s.logic_by types x.0.0 x.1) (logic_found which line after) ∙ read

pub logic_complete : {types : Names} → Below types → (xs : List Token) (x : d.LogicDecl) → g.SpellsLogic types xs x → (rest : List Token) → s.logic_at types (xs ++ rest) ≡ Some (x, rest)
logic_complete {types} below xs made (g.predicate line line'' line''' {line'} {trails} {x} {params} {body} {xs = vs} {a} new ps sp eq) rest =
    let semi = punct p.Semicolon line''' in
    let equals = punct p.Assign line'' in
    let first = name (codes "predicate") line in
    let behind = body ++ semi ∷ rest in
    let regrouped : (first ∷ name x line' ∷ (params ++ equals ∷ (body ++ semi ∷ []))) ++ rest ≡ first ∷ name x line' ∷ (params ++ equals ∷ behind) = simp append_assoc in
    ap (λ l. s.logic_at types (l ++ rest)) eq ∙ ap (s.logic_at types) regrouped
    ∙ logic_reads types line gw.Predicate (name x line' ∷ (params ++ equals ∷ behind)) made rest
    (predicate_reads types line' line'' x (params ++ equals ∷ behind) behind vs a rest new (params_complete below ps line'' behind) (pred_reads below DEEPEST trails body a sp line''' rest))
logic_complete {types} below xs made (g.logic line line'' line''' {line'} {x} {result} {params} {body} {type} {xs = vs} {a} is_logic new ps sp eq) rest =
    let semi = punct p.Semicolon line''' in
    let equals = punct p.Assign line'' in
    let first = name (codes "logic") line in
    let behind = body ++ semi ∷ rest in
    let front = result ++ name x line' ∷ [] in
    let regrouped : (first ∷ (result ++ name x line' ∷ (params ++ equals ∷ (body ++ semi ∷ [])))) ++ rest ≡ first ∷ (front ++ (params ++ equals ∷ behind)) = simp append_assoc in
    let typed = below.typed_complete front (declared x type line') (SpellsTyped.typed is_logic new refl) (params ++ equals ∷ behind) in
    ap (λ l. s.logic_at types (l ++ rest)) eq ∙ ap (s.logic_at types) regrouped
    ∙ logic_reads types line gw.Logic (front ++ (params ++ equals ∷ behind)) made rest
    (function_reads types line'' (front ++ (params ++ equals ∷ behind)) (params ++ equals ∷ behind) behind (declared x type line') vs a rest typed (params_complete below ps line'' behind)
    (term_reads types DEEPEST body a sp line''' rest))

logic_starts : (which : LogicWord) (line : ℕ) (after : List Token) → s.starts_logic (name (logic_text which) line ∷ after) ≡ true
unfolding s.starts_logic
logic_starts which line after = ap is_some (logic_found which line after)

pub logic_begins : (types : Names) (xs : List Token) (x : d.LogicDecl) → g.SpellsLogic types xs x → (rest : List Token) → s.starts_logic (xs ++ rest) ≡ true
logic_begins types xs made (g.predicate line line'' line''' {line'} {x} {params} {body} new ps sp eq) rest =
    ap (λ l. s.starts_logic (l ++ rest)) eq ∙ logic_starts gw.Predicate line ((name x line' ∷ (params ++ punct p.Assign line'' ∷ (body ++ punct p.Semicolon line''' ∷ []))) ++ rest)
logic_begins types xs made (g.logic line line'' line''' {line'} {x} {result} {params} {body} is_logic new ps sp eq) rest =
    ap (λ l. s.starts_logic (l ++ rest)) eq ∙ logic_starts gw.Logic line ((result ++ name x line' ∷ (params ++ punct p.Assign line'' ∷ (body ++ punct p.Semicolon line''' ∷ []))) ++ rest)

no_logic : s.starts_logic [] ≡ false
unfolding s.starts_logic
no_logic = refl

logics_repeat : {types : Names} → Below types → (end : ℕ) → Repeats (LogicAt types) (λ rest. Unit {0}) s.starts_logic (s.logic_at types) end
logics_repeat {types} below end = record {
  reads = λ at xs x sp rest may placed. logic_complete below xs x sp rest;
  may = λ ts start'. tt;
  begins = λ at xs x sp rest. logic_begins types xs x sp rest;
  bare = no_logic;
}

placed_logics : {types : Names} {xs : List Token} {ds : List d.LogicDecl} → Repeated (g.SpellsLogic types) xs ds → (at : ℕ) → RepeatedAt (LogicAt types) at xs ds
placed_logics Repeated.none at = none
placed_logics (Repeated.more {first} x others eq) at = more x (placed_logics others (at + length first)) eq

pub logics_complete : {types : Names} → Below types → (xs : List Token) (x : d.LogicDecl) (ds : List d.LogicDecl) → Repeated (g.SpellsLogic types) xs (x ∷ ds) → (rest : List Token) → s.starts_logic rest ≡ false
    → s.logics_at types (xs ++ rest) ≡ Some (x ∷ ds, rest)
unfolding s.logics_at
logics_complete {types} below xs x ds sp rest stop =
    let end = length (xs ++ rest) in
    let repeats = logics_repeat below end in
    let placed : 0 + length (xs ++ rest) ≡ end = omega arith in
    let starts' = repeat_starts repeats (placed_logics sp 0) rest in
    rw starts' (repeat_complete repeats (placed_logics sp 0) rest tt stop placed)
