-- What the readers of contracts, loops, assertions and definitions read is spelled so.
use Rattle.std.proofs.Common.{◌≡◌, ℕ, suc, ◌+◌, ◌-◌, ◌≤◌, Bool, true, false, cond, List, [], ◌∷◌, ◌++◌, length, codes, Some, None, refl, sym, ap, ◌∙◌, subst, arith, append_assoc, length-append}
use Rattle.c_syntax.specs.declared.token.Token.{Token}
use Rattle.c_syntax.specs.declared.token.Punct.TheVariants as p
use Rattle.c_syntax.specs.Expr as e
use Rattle.c_syntax.specs.Term as t
use Rattle.c_syntax.specs.Pred as r
use Rattle.c_syntax.specs.Decl as d
use Rattle.c_syntax.specs.Contract.{Behavior, Contract}
use Rattle.c_grammar.specs.Tokens.{Names, is_type, punct, name}
use Rattle.c_grammar.specs.Lists.{Separated, Repeated}
use Rattle.c_grammar.specs.Terms.{anywhere, SpellsTerm}
use Rattle.c_grammar.specs.Preds.{SpellsTyped}
use Rattle.c_grammar.specs.Annots as g
use Rattle.c_grammar.specs.Reading.{Reader, ◌>>=◌, punct_at, name_at, new_name_at, keyword_at}
use Rattle.c_grammar.proofs.Readers.{Took, Sound, bind_ok, pair_is}
use Rattle.c_grammar.specs.declared.limits.TheConstants.{DEEPEST}
use Rattle.c_grammar.specs.ListReaders.{separated_at}
use Rattle.c_grammar.proofs.SingleTokens.{punct_is, name_is, new_name_is}
use Rattle.c_grammar.proofs.Separating.{separated_sound}
use Rattle.c_grammar.specs.Exactness.{SoundAt}
use Rattle.parse_terms.specs.Read.{term_at}
use Rattle.parse_terms.proofs.Laws.{term_sound}
use Rattle.parse_preds.specs.Read.{pred_at, typed_at}
use Rattle.parse_clauses.specs.declared.items.Part.TheVariants as part
use Rattle.acsl_parser.specs.declared.words.EndWord.{EndWord}
use Rattle.acsl_parser.specs.declared.words.EndWord.TheVariants as ew
use Rattle.acsl_parser.specs.declared.words.LogicWord.{LogicWord}
use Rattle.acsl_parser.specs.declared.words.LogicWord.TheVariants as gw
use Rattle.acsl_parser.specs.Lists.{worded, repeat}
use Rattle.parse_clauses.specs.Sorts.{Sorted, behavior_of, loop_made, contract_made}
use Rattle.acsl_parser.specs.Read as s
use Rattle.acsl_parser.proofs.Repeating.{RepeatedAt, none, more, repeat_sound}
use Rattle.acsl_parser.proofs.Keywords.{keyword_is, end_text, end_worded, logic_text, logic_worded}
use Rattle.acsl_parser.proofs.Parts.{SomePred, Below}
use Rattle.acsl_parser.proofs.Sound.{Ended, ended_is, worded_ended, finish, SpellsPart, part_sound}

-- ---- behaviors

behavior_is : {types : Names} {at line line'' : ℕ} {x : List ℕ × ℕ} {inside : List Token} {s : Sorted} → is_type types x.0 ≡ false → SpellsPart part.Behavior types DEEPEST (at + 3) inside s
    → g.SpellsBehavior types at (name (codes "behavior") line ∷ name x.0 x.1 ∷ punct p.Colon line'' ∷ inside) (behavior_of at x s)
behavior_is {types} {at} {line} {line''} {x} {inside} {s} new spelled =
    subst (λ s. g.SpellsBehavior types at (name (codes "behavior") line ∷ name x.0 x.1 ∷ punct p.Colon line'' ∷ inside) (behavior_of at x s)) spelled.3 (g.behavior line line'' new spelled.1 spelled.2 refl refl)

pub behavior_sound : {types : Names} → Below types → (end : ℕ) → SoundAt (g.SpellsBehavior types) end (s.behavior_at types end)
unfolding s.behavior_at
behavior_sound {types} below end ts made rest le h =
    let b = bind_ok (keyword_at (codes "behavior") ts) _ (made, rest) h in
    let x = bind_ok (new_name_at types b.0.1) _ (made, rest) b.2 in
    let c = bind_ok (punct_at p.Colon x.0.1) _ (made, rest) x.2 in
    let s = bind_ok (s.part_at part.Behavior types DEEPEST end c.0.1) (λ s. Some (behavior_of (end - length ts) x.0.0 s.0, s.1)) (made, rest) c.2 in
    let same = pair_is (behavior_of (end - length ts) x.0.0 s.0.0) made s.0.1 rest s.2 in
    let found = new_name_is types b.0.1 x.0.0 x.0.1 x.1 in
    let front = name (codes "behavior") b.0.0 ∷ name x.0.0.0 x.0.0.1 ∷ punct p.Colon c.0.0 ∷ [] in
    let is : ts ≡ front ++ c.0.1 =
    keyword_is (codes "behavior") ts b.0.0 b.0.1 b.1 ∙ ap (λ l. name (codes "behavior") b.0.0 ∷ l) (found.0 ∙ ap (λ l. name x.0.0.0 x.0.0.1 ∷ l) (punct_is p.Colon x.0.1 c.0.0 c.0.1 c.1)) in
    let count : length ts ≡ suc (suc (suc (length c.0.1))) = ap length is in
    let within : length c.0.1 ≤ end = omega (arith, count, le) in
    let place : end - length c.0.1 ≡ (end - length ts) + 3 = omega (arith, count, le) in
    let took = part_sound below part.Behavior DEEPEST end c.0.1 s.0.0 s.0.1 within s.1 in (
      front ++ took.0,
      is ∙ ap (λ l. front ++ l) (took.1 ∙ ap (λ l. took.0 ++ l) same.1),
      subst (g.SpellsBehavior types (end - length ts) (front ++ took.0)) same.0 (behavior_is found.1 (subst (λ at. SpellsPart part.Behavior types DEEPEST at took.0 s.0.0) place took.2)),
    )

pub behaviors_of : {types : Names} {at : ℕ} {xs : List Token} {bs : List Behavior} → RepeatedAt (g.SpellsBehavior types) at xs bs → g.SpellsBehaviors types at xs bs
behaviors_of none = g.SpellsBehaviors.none
behaviors_of (more x others eq) = g.SpellsBehaviors.more x (behaviors_of others) eq

behaviors_sound : {types : Names} → Below types → (end : ℕ) → SoundAt (g.SpellsBehaviors types) end (s.all_behaviors_at types end)
unfolding s.all_behaviors_at
behaviors_sound {types} below end ts bs rest le h =
    let x = repeat_sound (g.SpellsBehavior types) s.starts_behavior (s.behavior_at types end) end (behavior_sound below end) (length ts) ts bs rest le h in
    (x.0, x.1, behaviors_of x.2)

-- ---- what is said of behaviors

name_sound : Sound g.SpellsName s.plain_name_at
unfolding s.plain_name_at
name_sound ts x rest h =
    let n = bind_ok (name_at ts) (λ (x : (List ℕ × ℕ) × List Token). Some (x.0.0, x.1)) (x, rest) h in
    let same = pair_is n.0.0.0 x n.0.1 rest n.2 in
    let front = name n.0.0.0 n.0.0.1 ∷ [] in
    (front, name_is ts n.0.0 n.0.1 n.1 ∙ ap (λ l. front ++ l) same.1, subst (g.SpellsName front) same.0 g.name_of)

names_is : (ts : List Token) (xs : List (List ℕ)) (rest : List Token) → s.names_at ts ≡ Some (xs, rest) → Ended g.SpellsNames ts xs rest
unfolding s.names_at
names_is ts xs rest h =
    elim (punct_at p.Semicolon ts) as (λ o. punct_at p.Semicolon ts ≡ o → s.names_by o ts ≡ Some (xs, rest) → Ended g.SpellsNames ts xs rest) [
      | Some n ↦ (λ some h.
          let no_names : List (List ℕ) = [] in
          let same = pair_is no_names xs n.1 rest h in
          record {
            inside = [];
            line = n.0;
            spelled = subst (g.SpellsNames []) same.0 g.SpellsNames.none;
            all = punct_is p.Semicolon ts n.0 n.1 some ∙ ap (λ l. punct p.Semicolon n.0 ∷ l) same.1;
          })
      | None ↦ (λ none h.
          let x = ended_is (Separated g.SpellsName) (separated_at s.plain_name_at) (separated_sound g.SpellsName s.plain_name_at name_sound) ts xs rest h in
          record { inside = x.inside; line = x.line; spelled = g.SpellsNames.some x.spelled; all = x.all })
    ]
    refl h

ending_is : (at line line' line'' : ℕ) (which : EndWord) (inside : List Token) (xs : List (List ℕ)) → g.SpellsNames inside xs
    → g.SpellsEnding at (name (end_text which) line ∷ name (codes "behaviors") line' ∷ (inside ++ punct p.Semicolon line'' ∷ [])) (s.ending_of which (g.behaviors_at at line xs))
ending_is at line line' line'' ew.Complete inside xs x = g.complete line' line'' x refl
ending_is at line line' line'' ew.Disjoint inside xs x = g.disjoint line' line'' x refl

pub ending_sound : (end : ℕ) → SoundAt g.SpellsEnding end (s.ending_at end)
unfolding s.ending_at
ending_sound end ts made rest le h =
    let at = end - length ts in
    let x = bind_ok (worded s.end_word ts) _ (made, rest) h in
    let b = bind_ok (keyword_at (codes "behaviors") x.0.1) _ (made, rest) x.2 in
    let xs = bind_ok (s.names_at b.0.1) (λ xs. Some (s.ending_of x.0.0.0 (g.behaviors_at at x.0.0.1 xs.0), xs.1)) (made, rest) b.2 in
    let same = pair_is (s.ending_of x.0.0.0 (g.behaviors_at at x.0.0.1 xs.0.0)) made xs.0.1 rest xs.2 in
    let e = names_is b.0.1 xs.0.0 xs.0.1 xs.1 in
    let tail = punct p.Semicolon e.line ∷ [] in
    let front = name (end_text x.0.0.0) x.0.0.1 ∷ name (codes "behaviors") b.0.0 ∷ [] in
    let is : ts ≡ front ++ b.0.1 = end_worded ts x.0.0.0 x.0.0.1 x.0.1 x.1 ∙ ap (λ l. name (end_text x.0.0.0) x.0.0.1 ∷ l) (keyword_is (codes "behaviors") x.0.1 b.0.0 b.0.1 b.1) in (
      front ++ (e.inside ++ tail),
      is ∙ ap (λ l. front ++ l) (e.all ∙ ap (λ l. e.inside ++ punct p.Semicolon e.line ∷ l) same.1 ∙ sym (append_assoc e.inside tail rest)),
      subst (g.SpellsEnding at (front ++ (e.inside ++ tail))) same.0 (ending_is at x.0.0.1 b.0.0 e.line x.0.0.0 e.inside xs.0.0 e.spelled),
    )

pub endings_of : {at : ℕ} {xs : List Token} {es : List g.Ending} → RepeatedAt g.SpellsEnding at xs es → g.SpellsEndings at xs es
endings_of none = g.SpellsEndings.none
endings_of (more x others eq) = g.SpellsEndings.more x (endings_of others) eq

endings_sound : (end : ℕ) → SoundAt g.SpellsEndings end (s.all_endings_at end)
unfolding s.all_endings_at
endings_sound end ts es rest le h =
    let x = repeat_sound g.SpellsEnding s.starts_ending (s.ending_at end) end (ending_sound end) (length ts) ts es rest le h in
    (x.0, x.1, endings_of x.2)

-- ---- contracts

contract_is : {types : Names} {at : ℕ} {first second third : List Token} {s : Sorted} {bs : List Behavior} {es : List g.Ending} → SpellsPart part.Contract types DEEPEST at first s
    → g.SpellsBehaviors types (at + length first) second bs → g.SpellsEndings (at + length first + length second) third es → g.SpellsContract types at (first ++ (second ++ third)) (contract_made s bs es)
contract_is {types} {at} {first} {second} {third} {s} {bs} {es} spelled bs' es' =
    subst (λ s. g.SpellsContract types at (first ++ (second ++ third)) (contract_made s bs es)) spelled.3 (g.contract spelled.1 spelled.2 bs' es' refl refl)

pub contract_sound : {types : Names} → Below types → (end : ℕ) → SoundAt (g.SpellsContract types) end (s.contract_at types end)
unfolding s.contract_at
contract_sound {types} below end ts made rest le h =
    let at = end - length ts in
    let head = bind_ok (s.part_at part.Contract types DEEPEST end ts) _ (made, rest) h in
    let bs = bind_ok (s.all_behaviors_at types end head.0.1) _ (made, rest) head.2 in
    let es = bind_ok (s.all_endings_at end bs.0.1) (λ es. Some (contract_made head.0.0 bs.0.0 es.0, es.1)) (made, rest) bs.2 in
    let same = pair_is (contract_made head.0.0 bs.0.0 es.0.0) made es.0.1 rest es.2 in
    let first = part_sound below part.Contract DEEPEST end ts head.0.0 head.0.1 le head.1 in
    let count : length ts ≡ length first.0 + length head.0.1 = ap length first.1 ∙ length-append first.0 head.0.1 in
    let within : length head.0.1 ≤ end = omega (arith, count, le) in
    let second = behaviors_sound below end head.0.1 bs.0.0 bs.0.1 within bs.1 in
    let count' : length head.0.1 ≡ length second.0 + length bs.0.1 = ap length second.1 ∙ length-append second.0 bs.0.1 in
    let within' : length bs.0.1 ≤ end = omega (arith, count', within) in
    let third = endings_sound end bs.0.1 es.0.0 es.0.1 within' es.1 in
    let place : end - length head.0.1 ≡ at + length first.0 = omega (arith, count, le) in
    let place' : end - length bs.0.1 ≡ at + length first.0 + length second.0 = omega (arith, count, count', le) in
    let all = first.0 ++ (second.0 ++ third.0) in
    let regrouped : first.0 ++ (second.0 ++ (third.0 ++ rest)) ≡ all ++ rest = simp append_assoc in (
      all,
      first.1 ∙ ap (λ l. first.0 ++ l) (second.1 ∙ ap (λ l. second.0 ++ l) (third.1 ∙ ap (λ l. third.0 ++ l) same.1)) ∙ regrouped,
      subst (g.SpellsContract types at all) same.0
          (contract_is first.2 (subst (λ at. g.SpellsBehaviors types at second.0 bs.0.0) place second.2) (subst (λ at. g.SpellsEndings at third.0 es.0.0) place' third.2)),
    )

-- ---- loops and assertions

loop_is : {types : Names} {room at : ℕ} {xs : List Token} {s : Sorted} → SpellsPart part.Loop types room at xs s → g.SpellsLoop types room at xs (loop_made s)
loop_is {types} {room} {at} {xs} spelled = subst (λ s. g.SpellsLoop types room at xs (loop_made s)) spelled.3 (g.loop spelled.1 spelled.2 refl)

pub loop_sound : {types : Names} → Below types → (room end : ℕ) → SoundAt (g.SpellsLoop types room) end (s.loop_at types room end)
unfolding s.loop_at
loop_sound {types} below room end ts made rest le =
    finish (SpellsPart part.Loop types room (end - length ts)) (g.SpellsLoop types room (end - length ts)) (s.part_at part.Loop types room end) loop_made ts ts
    (λ s rest h. part_sound below part.Loop room end ts s rest le h) (λ xs s x. loop_is x) made rest

abbrev pub SpellsAsserted : Names → ℕ → List Token → r.Pred × ℕ → Type 0
SpellsAsserted types room xs x = g.SpellsAssert types room xs x.0 x.1

pub assert_sound : {types : Names} → Below types → (room : ℕ) → Sound (SpellsAsserted types room) (s.assert_at types room)
unfolding s.assert_at s.pred_ended
assert_sound {types} below room ts x rest h =
    let word = bind_ok (keyword_at (codes "assert") ts) _ (x, rest) h in
    let lined : r.Pred → r.Pred × ℕ = λ a. (a, word.0.0) in
    finish (λ xs a. g.SpellsAssert types room xs a word.0.0) (SpellsAsserted types room) (s.ended (pred_at types room)) lined ts word.0.1
    (λ a rest h. worded_ended (SomePred types room) (λ xs a. g.SpellsAssert types room xs a word.0.0) (codes "assert") word.0.0 (λ line' inside a x. g.assert line' x.1 refl) ts word.0.1
    (keyword_is (codes "assert") ts word.0.0 word.0.1 word.1) a rest (ended_is (SomePred types room) (pred_at types room) (below.pred_sound room) word.0.1 a rest h)) (λ xs a x. x) x rest word.2

-- ---- definitions

params_sound : {types : Names} → Below types → Sound (g.SpellsLogicParams types) (s.params_at types)
unfolding s.params_at
params_sound {types} below ts vs rest h =
    elim (punct_at p.OpenParen ts) as (λ o. punct_at p.OpenParen ts ≡ o → s.params_by types o ts ≡ Some (vs, rest) → Took (g.SpellsLogicParams types) ts vs rest) [
      | None ↦ (λ none h.
          let no_params : List e.VarDecl = [] in
          let same = pair_is no_params vs ts rest h in
          ([], same.1, subst (g.SpellsLogicParams types []) same.0 g.SpellsLogicParams.none))
      | Some o ↦ (λ some h.
          let x = bind_ok (separated_at (typed_at types) o.1) (λ vs. punct_at p.CloseParen vs.1 >>= λ c. Some (vs.0, c.1)) (vs, rest) h in
          let c = bind_ok (punct_at p.CloseParen x.0.1) (λ c. Some (x.0.0, c.1)) (vs, rest) x.2 in
          let same = pair_is x.0.0 vs c.0.1 rest c.2 in
          let took = separated_sound (SpellsTyped types) (typed_at types) below.typed_sound o.1 x.0.0 x.0.1 x.1 in
          let open' = punct p.OpenParen o.0 in
          let close' = punct p.CloseParen c.0.0 in
          let all = open' ∷ (took.0 ++ close' ∷ []) in
          let closed : x.0.1 ≡ close' ∷ rest = punct_is p.CloseParen x.0.1 c.0.0 c.0.1 c.1 ∙ ap (λ l. close' ∷ l) same.1 in (
            all,
            punct_is p.OpenParen ts o.0 o.1 some ∙ ap (λ l. open' ∷ l) (took.1 ∙ ap (λ l. took.0 ++ l) closed ∙ sym (append_assoc took.0 (close' ∷ []) rest)),
            subst (g.SpellsLogicParams types all) same.0 (g.SpellsLogicParams.some o.0 c.0.0 took.2 refl),
          ))
    ]
    refl h

predicate_sound : {types : Names} → Below types → (line : ℕ) (ts after : List Token) → ts ≡ name (codes "predicate") line ∷ after → (made : d.LogicDecl) (rest : List Token)
    → s.predicate_at types after ≡ Some (made, rest) → Took (g.SpellsLogic types) ts made rest
unfolding s.predicate_at s.pred_ended
predicate_sound {types} below line ts after is made rest h =
    let x = bind_ok (new_name_at types after) _ (made, rest) h in
    let vs = bind_ok (s.params_at types x.0.1) _ (made, rest) x.2 in
    let a = bind_ok (punct_at p.Assign vs.0.1) _ (made, rest) vs.2 in
    let b = bind_ok (s.ended (pred_at types DEEPEST) a.0.1) (λ b. Some (s.predicate_of x.0.0 vs.0.0 b.0, b.1)) (made, rest) a.2 in
    let same = pair_is (s.predicate_of x.0.0 vs.0.0 b.0.0) made b.0.1 rest b.2 in
    let found = new_name_is types after x.0.0 x.0.1 x.1 in
    let params = params_sound below x.0.1 vs.0.0 vs.0.1 vs.1 in
    let body = ended_is (SomePred types DEEPEST) (pred_at types DEEPEST) (below.pred_sound DEEPEST) a.0.1 b.0.0 b.0.1 b.1 in
    let first = name (codes "predicate") line in
    let second = name x.0.0.0 x.0.0.1 in
    let equals = punct p.Assign a.0.0 in
    let semi = punct p.Semicolon body.line in
    let all = first ∷ second ∷ (params.0 ++ equals ∷ (body.inside ++ semi ∷ [])) in
    let regrouped : first ∷ second ∷ (params.0 ++ equals ∷ (body.inside ++ semi ∷ rest)) ≡ all ++ rest = simp append_assoc in (
      all,
      is ∙ ap (λ l. first ∷ l) (found.0 ∙ ap (λ l. second ∷ l) (params.1 ∙ ap (λ l. params.0 ++ l) (punct_is p.Assign vs.0.1 a.0.0 a.0.1 a.1 ∙ ap (λ l. equals ∷ l) (body.all ∙ ap (λ l. body.inside ++ semi ∷ l) same.1)))) ∙ regrouped,
      subst (g.SpellsLogic types all) same.0 (g.predicate line a.0.0 body.line found.1 params.2 body.spelled.1 refl),
    )

-- behind a type and a name
function_is : {types : Names} (line line'' line''' : ℕ) {front params body all : List Token} {v : e.VarDecl} {vs : List e.VarDecl} {a : t.Term} → SpellsTyped types front v → g.SpellsLogicParams types params vs
    → SpellsTerm types anywhere DEEPEST body a → all ≡ name (codes "logic") line ∷ (front ++ (params ++ punct p.Assign line'' ∷ (body ++ punct p.Semicolon line''' ∷ []))) → g.SpellsLogic types all (s.function_of v vs a)
function_is line line'' line''' {front} {params} {body} (SpellsTyped.typed {line = line'} {x} {first} type new eq) params' body' is =
    let tail = params ++ punct p.Assign line'' ∷ (body ++ punct p.Semicolon line''' ∷ []) in
    g.logic line line'' line''' type new params' body' (is ∙ ap (λ l. name (codes "logic") line ∷ (l ++ tail)) eq ∙ ap (λ l. name (codes "logic") line ∷ l) (append_assoc first (name x line' ∷ []) tail))

function_sound : {types : Names} → Below types → (line : ℕ) (ts after : List Token) → ts ≡ name (codes "logic") line ∷ after → (made : d.LogicDecl) (rest : List Token)
    → s.function_at types after ≡ Some (made, rest) → Took (g.SpellsLogic types) ts made rest
unfolding s.function_at s.term_ended
function_sound {types} below line ts after is made rest h =
    let x = bind_ok (typed_at types after) _ (made, rest) h in
    let vs = bind_ok (s.params_at types x.0.1) _ (made, rest) x.2 in
    let a = bind_ok (punct_at p.Assign vs.0.1) _ (made, rest) vs.2 in
    let b = bind_ok (s.ended (term_at types DEEPEST) a.0.1) (λ b. Some (s.function_of x.0.0 vs.0.0 b.0, b.1)) (made, rest) a.2 in
    let same = pair_is (s.function_of x.0.0 vs.0.0 b.0.0) made b.0.1 rest b.2 in
    let typed = below.typed_sound after x.0.0 x.0.1 x.1 in
    let params = params_sound below x.0.1 vs.0.0 vs.0.1 vs.1 in
    let body = ended_is (SpellsTerm types anywhere DEEPEST) (term_at types DEEPEST) (term_sound types DEEPEST) a.0.1 b.0.0 b.0.1 b.1 in
    let first = name (codes "logic") line in
    let equals = punct p.Assign a.0.0 in
    let semi = punct p.Semicolon body.line in
    let all = first ∷ (typed.0 ++ (params.0 ++ equals ∷ (body.inside ++ semi ∷ []))) in
    let regrouped : first ∷ (typed.0 ++ (params.0 ++ equals ∷ (body.inside ++ semi ∷ rest))) ≡ all ++ rest = simp append_assoc in (
      all,
      is ∙ ap (λ l. first ∷ l) (typed.1 ∙ ap (λ l. typed.0 ++ l) (params.1 ∙ ap (λ l. params.0 ++ l) (punct_is p.Assign vs.0.1 a.0.0 a.0.1 a.1 ∙ ap (λ l. equals ∷ l) (body.all ∙ ap (λ l. body.inside ++ semi ∷ l) same.1)))) ∙ regrouped,
      subst (g.SpellsLogic types all) same.0 (function_is line a.0.0 body.line typed.2 params.2 body.spelled refl),
    )

logic_by_sound : {types : Names} → Below types → (line : ℕ) (which : LogicWord) (ts after : List Token) → ts ≡ name (logic_text which) line ∷ after → (made : d.LogicDecl) (rest : List Token)
    → s.logic_by types which after ≡ Some (made, rest) → Took (g.SpellsLogic types) ts made rest
logic_by_sound below line gw.Predicate ts after is = predicate_sound below line ts after is
logic_by_sound below line gw.Logic ts after is = function_sound below line ts after is

pub logic_sound : {types : Names} → Below types → Sound (g.SpellsLogic types) (s.logic_at types)
unfolding s.logic_at
logic_sound {types} below ts made rest h =
    let x = bind_ok (worded s.logic_word ts) (λ x. s.logic_by types x.0.0 x.1) (made, rest) h in
    logic_by_sound below x.0.0.1 x.0.0.0 ts x.0.1 (logic_worded ts x.0.0.0 x.0.0.1 x.0.1 x.1) made rest x.2

-- wherever it stands
abbrev pub LogicAt : Names → (at : ℕ) → List Token → d.LogicDecl → Type 0
LogicAt types at xs x = g.SpellsLogic types xs x

pub logics_of : {types : Names} {at : ℕ} {xs : List Token} {ds : List d.LogicDecl} → RepeatedAt (LogicAt types) at xs ds → Repeated (g.SpellsLogic types) xs ds
logics_of none = Repeated.none
logics_of (more x others eq) = Repeated.more x (logics_of others) eq

pub logics_sound : {types : Names} → Below types → Sound (Repeated (g.SpellsLogic types)) (s.logics_at types)
unfolding s.logics_at
logics_sound {types} below ts ds rest h =
    elim (s.starts_logic ts) as (λ b. cond b (repeat s.starts_logic (s.logic_at types) (length ts) ts) None ≡ Some (ds, rest) → Took (Repeated (g.SpellsLogic types)) ts ds rest) [
      | true ↦ (λ h.
          let x = repeat_sound (LogicAt types) s.starts_logic (s.logic_at types) (length ts) (λ ts x rest le h. logic_sound below ts x rest h) (length ts) ts ds rest (omega arith) h in
          (x.0, x.1, logics_of x.2))
      | false ↦ (λ h. absurd cc)
    ]
    h

-- ---- one definition or more

repeat_some : {X : Type 0} (starts : List Token → Bool) (item : Reader X) (ts : List Token) (xs : List X) (rest : List Token) → starts [] ≡ false → starts ts ≡ true
    → repeat starts item (length ts) ts ≡ Some (xs, rest) → (x : X) × (more' : List X) × (xs ≡ x ∷ more')
unfolding repeat
repeat_some starts item [] xs rest bare start' h = absurd cc
repeat_some starts item (t ∷ ts) xs rest bare start' h =
    let x = bind_ok (item (t ∷ ts)) (λ x. repeat starts item (length ts) x.1 >>= λ xs. Some (x.0 ∷ xs.0, xs.1)) (xs, rest) (rw start' at h) in
    let ys = bind_ok (repeat starts item (length ts) x.0.1) (λ xs. Some (x.0.0 ∷ xs.0, xs.1)) (xs, rest) x.2 in
    let same = pair_is (x.0.0 ∷ ys.0.0) xs ys.0.1 rest ys.2 in
    (x.0.0, ys.0.0, sym same.0)

no_logic : s.starts_logic [] ≡ false
unfolding s.starts_logic
no_logic = refl

pub logics_some : (types : Names) (ts : List Token) (ds : List d.LogicDecl) (rest : List Token) → s.logics_at types ts ≡ Some (ds, rest) → (x : d.LogicDecl) × (more' : List d.LogicDecl) × (ds ≡ x ∷ more')
unfolding s.logics_at
logics_some types ts ds rest h =
    let P : Type 0 = (x : d.LogicDecl) × (more' : List d.LogicDecl) × (ds ≡ x ∷ more') in
    elim (s.starts_logic ts) as (λ b. s.starts_logic ts ≡ b → cond b (repeat s.starts_logic (s.logic_at types) (length ts) ts) None ≡ Some (ds, rest) → P) [
      | true ↦ (λ start' h. repeat_some s.starts_logic (s.logic_at types) ts ds rest no_logic start' h)
      | false ↦ (λ stop h. absurd cc)
    ]
    refl h
