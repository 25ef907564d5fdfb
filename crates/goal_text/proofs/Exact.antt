-- A goal and its text: what is read from a text is the one goal that has it.
use Rattle.std.proofs.Common.{◌≡◌, ℕ, ◌≤◌, true, ◌&&◌, List, [], ◌∷◌, ◌++◌, length, codes, Option, Some, None, Result, Ok, Err, refl, sym, ap, ◌∙◌, subst, arith, append_assoc}
use Rattle.std.specs.Prelude.{IfOk, MatchResult}
use Rattle.std.specs.List.{list_all}
use Rattle.qed_terms.specs.declared.term.Goal.{Goal}
use Rattle.qed_terms.specs.Tree.{Tree, trees_of, list_of, goal_of}
use Rattle.qed_terms.specs.View.{goal_tree}
use Rattle.qed_terms.specs.WellFormed.{formula, fits, is_goal}
use Rattle.goal_words.specs.Bytes.{◌>>=◌, expect, is_end, only_if}
use Rattle.goal_words.proofs.Front.{then_some, both, parts, expect_is}
use Rattle.goal_words.proofs.Numerals.{both_true}
use Rattle.goal_text.specs.Held.{is_held, all_held, goal_held}
use Rattle.goal_text.specs.Text.{spaced, bracket, tree_text, tree_texts, goal_text}
use Rattle.goal_text.specs.Reader as r
use Rattle.goal_text.specs.Reader.{Inner, Kids, opened, no_kids}
use Rattle.goal_text.specs.Views.{GivesOne, check_of, known_of, parts_of}
use Rattle.goal_text.specs.declared.answer.GoalText.{GoalText}
use Rattle.goal_text.specs.declared.answer.GoalText.TheVariants.{NotAGoal, NoMemory}
use Rattle.goal_text.proofs.Complete.{tree_read}
use Rattle.goal_text.proofs.CompleteKids.{ReadsUpTo, any_read, bracket_long, opened_read, part_long}
use Rattle.goal_text.proofs.Pieces.{bracket_rest, spaced_ends}
use Rattle.goal_text.proofs.Sound.{tree_sound}
use Rattle.goal_text.proofs.SoundKids.{Sound, any_sound, each_fits, opened_is, texts_of}

all_are_held : (ts : List Tree) → all_held (trees_of ts) ≡ list_all is_held ts
all_are_held [] = refl
all_are_held (t ∷ ts) = ap (λ b. is_held t && b) (all_are_held ts)

list_of-trees_of : (ts : List Tree) → list_of (trees_of ts) ≡ ts
list_of-trees_of [] = refl
list_of-trees_of (t ∷ ts) = ap (λ us. t ∷ us) (list_of-trees_of ts)

two_spaced : (a c rest : List ℕ) → spaced (a ∷ c ∷ []) ++ rest ≡ 32 ∷ (a ++ 32 ∷ (c ++ rest))
two_spaced a c rest = ap (λ l. 32 ∷ l) (append_assoc a (32 ∷ (c ++ [])) rest ∙ ap (λ l. a ++ 32 ∷ l) (append_assoc c [] rest))

abbrev and_text : List Tree → List ℕ
and_text known = bracket (codes "and") (tree_texts (trees_of known))

-- ---- what is read is a goal with this text

known_sound : (inner : Inner) → Sound inner → (bytes : List ℕ) (known : List Tree) (rest : List ℕ) → r.known inner bytes ≡ Some (known, rest) → (bytes ≡ 40 ∷ (codes "imp" ++ 32 ∷ (and_text known ++ rest))) × (list_all (fits formula) known ≡ true)
unfolding r.known
known_sound inner sound bytes known rest h =
    let whole : List Tree × List ℕ = (known, rest) in
    let k = then_some (opened (codes "imp") bytes >>= expect 32 >>= opened (codes "and") >>= r.kids_any inner formula no_kids) _ whole h in
    let b = then_some (opened (codes "imp") bytes >>= expect 32 >>= opened (codes "and")) (r.kids_any inner formula no_kids) k.0 k.1 in
    let c = then_some (opened (codes "imp") bytes >>= expect 32) (opened (codes "and")) b.0 b.1 in
    let d = then_some (opened (codes "imp") bytes) (expect 32) c.0 c.1 in
    let close' = then_some (expect 41 k.0.1) _ whole k.2 in
    let same = parts k.0.0.formulas known close'.0 rest close'.2 in
    let came = any_sound inner sound formula no_kids b.0 k.0.0 k.0.1 b.2 in
    let all : came.kids ≡ known = ap (λ (k : Kids). k.formulas) (sym came.are) ∙ same.0 in
    let ps = tree_texts (trees_of known) in
    let inside : b.0 ≡ spaced ps ++ 41 ∷ rest = came.stand ∙ (λ i. spaced ((sym (texts_of came.kids) ∙ ap (λ ts. tree_texts (trees_of ts)) all) i) ++ (expect_is 41 k.0.1 close'.0 close'.1 ∙ ap (λ l. 41 ∷ l) same.1) i) in
    let conjunction : c.0 ≡ and_text known ++ rest = opened_is (codes "and") c.0 b.0 c.2 ∙ ap (λ l. 40 ∷ (codes "and" ++ l)) inside ∙ sym (bracket_rest (codes "and") ps rest) in (
      opened_is (codes "imp") bytes d.0 d.1 ∙ ap (λ l. 40 ∷ (codes "imp" ++ l)) (expect_is 32 d.0 c.0 d.2 ∙ ap (λ l. 32 ∷ l) conjunction),
      ap (list_all (fits formula)) (sym all) ∙ came.fit,
    )

at_end : (bytes rest : List ℕ) → only_if (is_end bytes) bytes ≡ Some rest → bytes ≡ []
at_end [] rest h = refl
at_end (b ∷ bytes) rest h = absurd cc

goal_sound : (inner : Inner) → Sound inner → (text : List ℕ) (known : List Tree) (check : Tree) → r.goal inner text ≡ Some (known, check) → (is_goal known check ≡ true) × (goal_text known check ≡ text)
goal_sound inner sound text known check h =
    let whole : List Tree × Tree = (known, check) in
    let k = then_some (r.known inner text) _ whole h in
    let c = then_some (expect 32 k.0.1 >>= inner formula) _ whole k.2 in
    let space = then_some (expect 32 k.0.1) (inner formula) c.0 c.1 in
    let end = then_some (r.closes c.0.1) _ whole c.2 in
    let last = then_some (expect 41 c.0.1) _ end.0 end.1 in
    let same = parts k.0.0 known c.0.0 check end.2 in
    let first = known_sound inner sound text k.0.0 k.0.1 k.1 in
    let one = sound formula space.0 c.0.0 c.0.1 space.2 in
    let tail : k.0.1 ≡ 32 ∷ (tree_text c.0.0 ++ 41 ∷ []) = expect_is 32 k.0.1 space.0 space.1 ∙ ap (λ l. 32 ∷ l) (one.0 ∙ ap (λ l. tree_text c.0.0 ++ l) (expect_is 41 c.0.1 last.0 last.1 ∙ ap (λ l. 41 ∷ l) (at_end last.0 end.0 last.2))) in
    let stands : text ≡ goal_text k.0.0 c.0.0 = first.0 ∙ ap (λ l. 40 ∷ (codes "imp" ++ 32 ∷ (and_text k.0.0 ++ l))) tail ∙ ap (λ l. 40 ∷ (codes "imp" ++ l)) (sym (two_spaced (and_text k.0.0) (tree_text c.0.0) (41 ∷ []))) in (
      (λ i. is_goal (sym same.0 i) (sym same.1 i)) ∙ rw (first.1, one.1),
      (λ i. goal_text (sym same.0 i) (sym same.1 i)) ∙ sym stands,
    )

-- ---- a goal is read from its text

known_read : (inner : Inner) (n : ℕ) → ReadsUpTo inner n → (known : List Tree) (rest : List ℕ) → list_all (fits formula) known ≡ true → list_all is_held known ≡ true → length (spaced (tree_texts (trees_of known))) ≤ n
    → r.known inner (40 ∷ (codes "imp" ++ 32 ∷ (and_text known ++ rest))) ≡ Some (known, rest)
unfolding r.known
known_read inner n up known rest f k le =
    let ps = tree_texts (trees_of known) in
    ap (λ x. r.known inner (40 ∷ (codes "imp" ++ 32 ∷ x))) (bracket_rest (codes "and") ps rest)
    ∙ rw (
      opened_read (codes "imp") (32 ∷ (40 ∷ (codes "and" ++ (spaced ps ++ 41 ∷ rest)))) refl refl,
      opened_read (codes "and") (spaced ps ++ 41 ∷ rest) refl (spaced_ends ps (41 ∷ rest) refl),
      any_read inner n up formula (trees_of known) no_kids rest (each_fits formula known ∙ f) (all_are_held known ∙ k) le,
    ) (ap (λ ts. both ts rest) (list_of-trees_of known))

goal_found : (known : List Tree) (check : Tree) (text : List ℕ) → is_goal known check ≡ true → goal_held known check ≡ true → goal_text known check ≡ text → r.goal (r.tree (length text)) text ≡ Some (known, check)
goal_found known check text fit k e = subst (λ text. r.goal (r.tree (length text)) text ≡ Some (known, check)) e (by (length (goal_text known check)) (omega arith) (omega arith))
  where
    by : (n : ℕ) → length (goal_text known check) ≤ n → n ≤ n → r.goal (r.tree n) (goal_text known check) ≡ Some (known, check)
    by n le _ =
        let f = both_true (list_all (fits formula) known) (fits formula check) fit in
        let held = both_true (list_all is_held known) (is_held check) k in
        let ps = tree_texts (trees_of known) in
        let conjunction = and_text known in
        let c = tree_text check in
        let long = bracket_long (codes "imp") (conjunction ∷ c ∷ []) in
        let long' = part_long conjunction (c ∷ []) in
        let long'' = part_long c [] in
        let inner = bracket_long (codes "and") ps in
        ap (λ l. r.goal (r.tree n) (40 ∷ (codes "imp" ++ l))) (two_spaced conjunction c (41 ∷ []))
        ∙ rw (known_read (r.tree n) n (tree_read n) known (32 ∷ (c ++ 41 ∷ [])) f.0 held.0 (omega arith), tree_read n formula check f.1 held.1 (omega arith) (41 ∷ []) refl)

pub text_of_one : (known known' : List Tree) (check check' : Tree) → is_goal known check ≡ true → goal_held known check ≡ true → is_goal known' check' ≡ true → goal_held known' check' ≡ true
    → goal_text known check ≡ goal_text known' check' → goal_of known check ≡ goal_of known' check'
text_of_one known known' check check' a b c d e =
    let x = goal_found known check (goal_text known' check') a b e in
    let y = goal_found known' check' (goal_text known' check') c d refl in
    let same = parts known known' check check' (sym x ∙ y) in
    (λ i. goal_of (same.0 i) (same.1 i))

-- ---- in the words of the code

pub is_well_formed : (text : List ℕ) (result : Result Goal GoalText) → GivesOne parts_of result (r.goal (r.tree (length text)) text) → IfOk result (λ g. is_goal (known_of g) (check_of g) ≡ true)
is_well_formed text (Ok g) h = (goal_sound (r.tree (length text)) (tree_sound (length text)) text (known_of g) (check_of g) h).0
is_well_formed text (Err end) h = tt

pub is_text : (text : List ℕ) (result : Result Goal GoalText) → GivesOne parts_of result (r.goal (r.tree (length text)) text) → IfOk result (λ g. goal_text (known_of g) (check_of g) ≡ text)
is_text text (Ok g) h = (goal_sound (r.tree (length text)) (tree_sound (length text)) text (known_of g) (check_of g) h).1
is_text text (Err end) h = tt

pub is_only : (text : List ℕ) (result : Result Goal GoalText) → GivesOne parts_of result (r.goal (r.tree (length text)) text) → (known : List Tree) (check : Tree) → is_goal known check ≡ true → goal_held known check ≡ true → goal_text known check ≡ text
    → MatchResult result (λ g. goal_tree g ≡ goal_of known check) (λ end. end ≡ NoMemory)
is_only text (Ok g) h known check a b e =
    let same = parts (known_of g) known (check_of g) check (sym h ∙ goal_found known check text a b e) in
    (λ i. goal_of (same.0 i) (same.1 i))
is_only text (Err NotAGoal) h known check a b e = none (r.goal (r.tree (length text)) text) h (goal_found known check text a b e)
  where
    none : (o : Option (List Tree × Tree)) → o ≡ None → o ≡ Some (known, check) → NotAGoal ≡ NoMemory
    none o p q = absurd cc
is_only text (Err NoMemory) h known check a b e = refl
