-- The words that begin the parts of annotations: which tokens they are.
use Rattle.std.proofs.Common.{◌≡◌, ℕ, true, false, cond, List, [], ◌∷◌, codes, Option, Some, None, refl, ap, ◌∙◌}
use Rattle.std.specs.Str.{bytes_eq}
use Rattle.std.proofs.lemmas.Slice.Eq.{bytes_eq-Decides}
use Rattle.c_syntax.specs.declared.token.Token.{Token}
use Rattle.c_syntax.specs.declared.token.TokenKind.{TokenKind}
use Rattle.c_syntax.specs.declared.token.TokenKind.TheVariants as k
use Rattle.c_grammar.specs.Tokens.{token, name}
use Rattle.c_grammar.specs.Reading.{keyword_at, keyword_by}
use Rattle.c_grammar.proofs.Readers.{guard_ok, pair_is}
use Rattle.acsl_parser.specs.declared.words.ClauseWord.{ClauseWord}
use Rattle.acsl_parser.specs.declared.words.ClauseWord.TheVariants as cw
use Rattle.acsl_parser.specs.declared.words.LoopWord.{LoopWord}
use Rattle.acsl_parser.specs.declared.words.LoopWord.TheVariants as lw
use Rattle.acsl_parser.specs.declared.words.EndWord.{EndWord}
use Rattle.acsl_parser.specs.declared.words.EndWord.TheVariants as ew
use Rattle.acsl_parser.specs.declared.words.LogicWord.{LogicWord}
use Rattle.acsl_parser.specs.declared.words.LogicWord.TheVariants as gw
use Rattle.acsl_parser.specs.Lists.{found_on, worded_by, worded}
use Rattle.acsl_parser.specs.Read.{clause_word, loop_word, end_word, logic_word}

bytes_same : (x y : List ℕ) → bytes_eq x y ≡ true → x ≡ y
bytes_same x y h = (bytes_eq-Decides x y).0 h

keyword_by_is : (text : List ℕ) (line : ℕ) (kind : TokenKind) (ts : List Token) (line' : ℕ) (after : List Token) → keyword_by text line kind ts ≡ Some (line', after) → token kind line ∷ ts ≡ name text line' ∷ after
keyword_by_is text line (k.Name x) ts line' after h =
    let found : ℕ × List Token = (line, ts) in
    let given : ℕ × List Token = (line', after) in
    let g = guard_ok (bytes_eq x text) found given h in
    let same = pair_is line line' ts after (ap Some g.1) in
    ap (λ x. name x line ∷ ts) (bytes_same x text g.0) ∙ ap (λ line. name text line ∷ ts) same.0 ∙ ap (λ ts. name text line' ∷ ts) same.1
keyword_by_is text line _ ts line' after h = absurd cc

pub keyword_is : (text : List ℕ) (ts : List Token) (line : ℕ) (after : List Token) → keyword_at text ts ≡ Some (line, after) → ts ≡ name text line ∷ after
keyword_is text [] line after h = absurd cc
keyword_is text (t ∷ ts) line after h = keyword_by_is text t.line t.kind ts line after h

-- ---- one of some words

found_is : {W : Type 0} (o : Option W) (line : ℕ) (ts : List Token) (w : W) (line' : ℕ) (after : List Token) → found_on o line ts ≡ Some ((w, line'), after) → (o ≡ Some w) × (line ≡ line') × (ts ≡ after)
found_is None line ts w line' after h = absurd cc
found_is {W} (Some v) line ts w line' after h =
    let found : W × ℕ = (v, line) in
    let given : W × ℕ = (w, line') in
    let same = pair_is found given ts after h in
    (ap (λ (x : W × ℕ). Some x.0) same.0, ap (λ (x : W × ℕ). x.1) same.0, same.1)

worded_by_is : {W : Type 0} (which : List ℕ → Option W) (text : W → List ℕ) → ((x : List ℕ) (w : W) → which x ≡ Some w → x ≡ text w) → (line : ℕ) (kind : TokenKind) (ts : List Token) (w : W) (line' : ℕ) (after : List Token)
    → worded_by which line kind ts ≡ Some ((w, line'), after) → token kind line ∷ ts ≡ name (text w) line' ∷ after
worded_by_is which text is line (k.Name x) ts w line' after h =
    let found = found_is (which x) line ts w line' after h in
    ap (λ x. name x line ∷ ts) (is x w found.0) ∙ ap (λ line. name (text w) line ∷ ts) found.1 ∙ ap (λ ts. name (text w) line' ∷ ts) found.2
worded_by_is which text is line _ ts w line' after h = absurd cc

worded_is : {W : Type 0} (which : List ℕ → Option W) (text : W → List ℕ) → ((x : List ℕ) (w : W) → which x ≡ Some w → x ≡ text w) → (ts : List Token) (w : W) (line : ℕ) (after : List Token)
    → worded which ts ≡ Some ((w, line), after) → ts ≡ name (text w) line ∷ after
worded_is which text is [] w line after h = absurd cc
worded_is which text is (t ∷ ts) w line after h = worded_by_is which text is t.line t.kind ts w line after h

some_is : {W : Type 0} (w v : W) → Some w ≡ Some v → w ≡ v
some_is w v h = cc

-- this word, or one of the others
pick : {W : Type 0} (text : W → List ℕ) (x : List ℕ) (w : W) (others : Option W) → ((v : W) → others ≡ Some v → x ≡ text v) → (v : W) → cond (bytes_eq x (text w)) (Some w) others ≡ Some v → x ≡ text v
pick text x w others rest v h =
    elim (bytes_eq x (text w)) as (λ b. bytes_eq x (text w) ≡ b → cond b (Some w) others ≡ Some v → x ≡ text v) [
      | true ↦ (λ same h. bytes_same x (text w) same ∙ ap text (some_is w v h))
      | false ↦ (λ other h. rest v h)
    ]
    refl h

no_word : {W : Type 0} (text : W → List ℕ) (x : List ℕ) (v : W) → None ≡ Some v → x ≡ text v
no_word text x v h = absurd cc

abbrev pub clause_text : ClauseWord → List ℕ
clause_text cw.Requires = codes "requires"
clause_text cw.Ensures = codes "ensures"
clause_text cw.Assumes = codes "assumes"
clause_text cw.Assigns = codes "assigns"
clause_text cw.Decreases = codes "decreases"
clause_text cw.Loop = codes "loop"

clause_word_is : (x : List ℕ) (w : ClauseWord) → clause_word x ≡ Some w → x ≡ clause_text w
unfolding clause_word
clause_word_is x =
    pick clause_text x cw.Requires _ (pick clause_text x cw.Ensures _ (pick clause_text x cw.Assumes _ (pick clause_text x cw.Assigns _ (pick clause_text x cw.Decreases _ (pick clause_text x cw.Loop None (no_word clause_text x))))))

pub clause_worded : (ts : List Token) (w : ClauseWord) (line : ℕ) (after : List Token) → worded clause_word ts ≡ Some ((w, line), after) → ts ≡ name (clause_text w) line ∷ after
clause_worded = worded_is clause_word clause_text clause_word_is

abbrev pub loop_text : LoopWord → List ℕ
loop_text lw.Invariant = codes "invariant"
loop_text lw.Assigns = codes "assigns"
loop_text lw.Variant = codes "variant"

loop_word_is : (x : List ℕ) (w : LoopWord) → loop_word x ≡ Some w → x ≡ loop_text w
unfolding loop_word
loop_word_is x = pick loop_text x lw.Invariant _ (pick loop_text x lw.Assigns _ (pick loop_text x lw.Variant None (no_word loop_text x)))

pub loop_worded : (ts : List Token) (w : LoopWord) (line : ℕ) (after : List Token) → worded loop_word ts ≡ Some ((w, line), after) → ts ≡ name (loop_text w) line ∷ after
loop_worded = worded_is loop_word loop_text loop_word_is

abbrev pub end_text : EndWord → List ℕ
end_text ew.Complete = codes "complete"
end_text ew.Disjoint = codes "disjoint"

end_word_is : (x : List ℕ) (w : EndWord) → end_word x ≡ Some w → x ≡ end_text w
unfolding end_word
end_word_is x = pick end_text x ew.Complete _ (pick end_text x ew.Disjoint None (no_word end_text x))

pub end_worded : (ts : List Token) (w : EndWord) (line : ℕ) (after : List Token) → worded end_word ts ≡ Some ((w, line), after) → ts ≡ name (end_text w) line ∷ after
end_worded = worded_is end_word end_text end_word_is

abbrev pub logic_text : LogicWord → List ℕ
logic_text gw.Predicate = codes "predicate"
logic_text gw.Logic = codes "logic"

logic_word_is : (x : List ℕ) (w : LogicWord) → logic_word x ≡ Some w → x ≡ logic_text w
unfolding logic_word
logic_word_is x = pick logic_text x gw.Predicate _ (pick logic_text x gw.Logic None (no_word logic_text x))

pub logic_worded : (ts : List Token) (w : LogicWord) (line : ℕ) (after : List Token) → worded logic_word ts ≡ Some ((w, line), after) → ts ≡ name (logic_text w) line ∷ after
logic_worded = worded_is logic_word logic_text logic_word_is

-- ---- the words are found

pub clause_found : (w : ClauseWord) (line : ℕ) (ts : List Token) → worded clause_word (name (clause_text w) line ∷ ts) ≡ Some ((w, line), ts)
unfolding clause_word
clause_found cw.Requires line ts = refl
clause_found cw.Ensures line ts = refl
clause_found cw.Assumes line ts = refl
clause_found cw.Assigns line ts = refl
clause_found cw.Decreases line ts = refl
clause_found cw.Loop line ts = refl

pub loop_found : (w : LoopWord) (line : ℕ) (ts : List Token) → worded loop_word (name (loop_text w) line ∷ ts) ≡ Some ((w, line), ts)
unfolding loop_word
loop_found lw.Invariant line ts = refl
loop_found lw.Assigns line ts = refl
loop_found lw.Variant line ts = refl

pub end_found : (w : EndWord) (line : ℕ) (ts : List Token) → worded end_word (name (end_text w) line ∷ ts) ≡ Some ((w, line), ts)
unfolding end_word
end_found ew.Complete line ts = refl
end_found ew.Disjoint line ts = refl

pub logic_found : (w : LogicWord) (line : ℕ) (ts : List Token) → worded logic_word (name (logic_text w) line ∷ ts) ≡ Some ((w, line), ts)
unfolding logic_word
logic_found gw.Predicate line ts = refl
logic_found gw.Logic line ts = refl
