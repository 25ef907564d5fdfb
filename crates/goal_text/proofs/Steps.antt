-- Steps of the reader, in the words of the code.
use Rattle.std.proofs.Common.{◌≡◌, ℕ, zero, suc, ◌+◌, ◌-◌, ◌<◌, ◌≤◌, List, [], ◌∷◌, ◌++◌, length, get_or, drop, map, Option, Some, None, Err, refl, sym, ap, ◌∙◌, arith}
use Rattle.std.proofs.lemmas.List.{drop_all, drop_more}
use Rattle.qed_terms.specs.Tree.{Tree}
use Rattle.qed_terms.specs.WellFormed.{Place, formula}
use Rattle.goal_words.specs.Bytes.{Reader, ◌>>=◌, expect, front, after, with_rest}
use Rattle.goal_text.specs.declared.answer.GoalText.{GoalText}
use Rattle.goal_text.specs.declared.answer.GoalText.TheVariants.{NotAGoal, NoMemory}
use Rattle.goal_text.specs.declared.fronts.FormHead.{FormHead}
use Rattle.goal_text.specs.declared.fronts.TermHead.{TermHead}
use Rattle.goal_text.specs.declared.leaves.TermPlace.{TermPlace}
use Rattle.goal_text.specs.declared.leaves.TermPlace.TheVariants as tp
use Rattle.goal_text.specs.declared.leaves.Wanted.{Wanted}
use Rattle.goal_text.specs.declared.leaves.Wanted.TheVariants as wanted
use Rattle.goal_text.specs.Views.{GivesRest, Leaves, place_of, term_place}
use Rattle.goal_text.specs.Reader.{repeat, one_more, Kids, Inner, Plan, no_kids, with_kids, with_terms, kid, kids_at, kids_by, only_one, only_two, term_front, form_front, term_end, form_end, after_term, after_form, leaf, tree}

-- no part comes next
pub repeat_stops : {S : Type 0} (step : S → Reader S) (turns : ℕ) (s : S) (bytes : List ℕ) → expect 32 bytes ≡ None → repeat step turns s bytes ≡ Some (s, bytes)
unfolding repeat
repeat_stops step zero s bytes h = refl
repeat_stops step (suc turns) s bytes h = rw h

-- no turn is left
pub repeat_over : {S : Type 0} (step : S → Reader S) (turns : ℕ) (s : S) (bytes : List ℕ) → turns ≡ 0 → repeat step turns s bytes ≡ Some (s, bytes)
unfolding repeat
repeat_over step zero s bytes h = refl
repeat_over step (suc turns) s bytes h = absurd (omega arith)

-- one more part
pub repeat_turn : {S : Type 0} (step : S → Reader S) (turns later : ℕ) (s s' : S) (bytes rest rest' : List ℕ) → turns ≡ later + 1 → expect 32 bytes ≡ Some rest → step s rest ≡ Some (s', rest')
    → repeat step turns s bytes ≡ repeat step later s' rest'
unfolding repeat
repeat_turn step zero later s s' bytes rest rest' n h e = absurd (omega arith)
repeat_turn step (suc turns) later s s' bytes rest rest' n h e = let same : turns ≡ later = omega arith in rw (h, e, same)

-- a part that is none
pub repeat_fault : {S : Type 0} (step : S → Reader S) (turns later : ℕ) (s : S) (bytes rest : List ℕ) → turns ≡ later + 1 → expect 32 bytes ≡ Some rest → step s rest ≡ None → repeat step turns s bytes ≡ None
unfolding repeat
repeat_fault step zero later s bytes rest n h e = absurd (omega arith)
repeat_fault step (suc turns) later s bytes rest n h e = rw (h, e)

-- the same of a list that grows
pub list_turn : {X : Type 0} (read : Reader X) (turns later : ℕ) (done : List X) (x : X) (bytes rest rest' : List ℕ) → turns ≡ later + 1 → expect 32 bytes ≡ Some rest → read rest ≡ Some (x, rest')
    → repeat (one_more read) later (done ++ x ∷ []) rest' ≡ repeat (one_more read) turns done bytes
list_turn {X} read turns later done x bytes rest rest' n h e = sym (repeat_turn (one_more read) turns later done (done ++ x ∷ []) bytes rest rest' n h (rw e))

pub list_fault : {X : Type 0} (read : Reader X) (turns later : ℕ) (done : List X) (bytes rest : List ℕ) → turns ≡ later + 1 → expect 32 bytes ≡ Some rest → read rest ≡ None → repeat (one_more read) turns done bytes ≡ None
list_fault {X} read turns later done bytes rest n h e = repeat_fault (one_more read) turns later done bytes rest n h (rw e)

-- ---- where a part is none, or memory runs out

pub repeat_ends : {S : Type 0} (step : S → Reader S) (turns later : ℕ) (s s' s'' : S) (bytes rest : List ℕ) (e : GoalText) → turns ≡ later + 1 → expect 32 bytes ≡ Some rest
    → Leaves s' (Err e) (step s rest) → Leaves s'' (Err e) (repeat step turns s bytes)
repeat_ends step turns later s s' s'' bytes rest NotAGoal n h g = repeat_fault step turns later s bytes rest n h g
repeat_ends step turns later s s' s'' bytes rest NoMemory n h g = tt

-- ---- trees

pub tree_none : (room : ℕ) (place : Place) (bytes : List ℕ) → room ≡ 0 → tree room place bytes ≡ None
unfolding tree
tree_none zero place bytes h = refl
tree_none (suc room) place bytes h = absurd (omega arith)

pub leaf_read : (room : ℕ) (place : Place) (bytes : List ℕ) → (room ≡ 0 → ⊥) → expect 40 bytes ≡ None → tree room place bytes ≡ with_rest (after bytes) (leaf place (front bytes))
unfolding tree
leaf_read zero place bytes h e = absurd (h refl)
leaf_read (suc room) place bytes h e = rw e

bracket_of_term : (room : ℕ) (p : TermPlace) (bytes rest : List ℕ) → (room ≡ 0 → ⊥) → expect 40 bytes ≡ Some rest → tree room (term_place p) bytes ≡ after_term (tree (room - 1)) (term_front (term_place p) rest)
unfolding tree
bracket_of_term zero p bytes rest h e = absurd (h refl)
bracket_of_term (suc room) (tp.Of s) bytes rest h e = let same : suc room - 1 ≡ room = omega arith in rw (e, same)
bracket_of_term (suc room) tp.Argument bytes rest h e = let same : suc room - 1 ≡ room = omega arith in rw (e, same)

bracket_of_form : (room : ℕ) (bytes rest : List ℕ) → (room ≡ 0 → ⊥) → expect 40 bytes ≡ Some rest → tree room formula bytes ≡ after_form (tree (room - 1)) (form_front rest)
unfolding tree
bracket_of_form zero bytes rest h e = absurd (h refl)
bracket_of_form (suc room) bytes rest h e = let same : suc room - 1 ≡ room = omega arith in rw (e, same)

pub term_no_front : (room : ℕ) (p : TermPlace) (bytes rest : List ℕ) → (room ≡ 0 → ⊥) → expect 40 bytes ≡ Some rest → term_front (term_place p) rest ≡ None → tree room (term_place p) bytes ≡ None
term_no_front room p bytes rest h e f = bracket_of_term room p bytes rest h e ∙ ap (after_term (tree (room - 1))) f

pub term_no_kids : (room : ℕ) (p : TermPlace) (bytes rest rest' : List ℕ) (head : TermHead) (plan : Plan) → (room ≡ 0 → ⊥) → expect 40 bytes ≡ Some rest → term_front (term_place p) rest ≡ Some ((head, plan), rest')
    → kids_by (tree (room - 1)) plan no_kids rest' ≡ None → tree room (term_place p) bytes ≡ None
term_no_kids room p bytes rest rest' head plan h e f k = bracket_of_term room p bytes rest h e ∙ ap (after_term (tree (room - 1))) f ∙ rw k

pub term_read : (room : ℕ) (p : TermPlace) (bytes rest rest' rest'' : List ℕ) (head : TermHead) (plan : Plan) (k : Kids) → (room ≡ 0 → ⊥) → expect 40 bytes ≡ Some rest → term_front (term_place p) rest ≡ Some ((head, plan), rest')
    → kids_by (tree (room - 1)) plan no_kids rest' ≡ Some (k, rest'') → tree room (term_place p) bytes ≡ term_end head k rest''
term_read room p bytes rest rest' rest'' head plan k h e f g = bracket_of_term room p bytes rest h e ∙ ap (after_term (tree (room - 1))) f ∙ rw g

pub form_no_front : (room : ℕ) (bytes rest : List ℕ) → (room ≡ 0 → ⊥) → expect 40 bytes ≡ Some rest → form_front rest ≡ None → tree room formula bytes ≡ None
form_no_front room bytes rest h e f = bracket_of_form room bytes rest h e ∙ ap (after_form (tree (room - 1))) f

pub form_no_kids : (room : ℕ) (bytes rest rest' : List ℕ) (head : FormHead) (plan : Plan) → (room ≡ 0 → ⊥) → expect 40 bytes ≡ Some rest → form_front rest ≡ Some ((head, plan), rest')
    → kids_by (tree (room - 1)) plan no_kids rest' ≡ None → tree room formula bytes ≡ None
form_no_kids room bytes rest rest' head plan h e f k = bracket_of_form room bytes rest h e ∙ ap (after_form (tree (room - 1))) f ∙ rw k

pub form_read : (room : ℕ) (bytes rest rest' rest'' : List ℕ) (head : FormHead) (plan : Plan) (k : Kids) → (room ≡ 0 → ⊥) → expect 40 bytes ≡ Some rest → form_front rest ≡ Some ((head, plan), rest')
    → kids_by (tree (room - 1)) plan no_kids rest' ≡ Some (k, rest'') → tree room formula bytes ≡ form_end head k rest''
form_read room bytes rest rest' rest'' head plan k h e f g = bracket_of_form room bytes rest h e ∙ ap (after_form (tree (room - 1))) f ∙ rw g

pub ruleset term_laws = (tree_none, leaf_read, term_no_front, term_no_kids, term_read)

pub ruleset form_laws = (tree_none, leaf_read, form_no_front, form_no_kids, form_read)

-- ---- kids

pub with_terms_at : (p : TermPlace) (ts : List Tree) (k : Kids) → with_kids (term_place p) ts k ≡ with_terms k ts
with_terms_at (tp.Of s) ts k = refl
with_terms_at tp.Argument ts k = refl

pub kids_done : (inner : Inner) (k : Kids) (bytes : List ℕ) → kids_at inner [] k bytes ≡ Some (k, bytes)
unfolding kids_at
kids_done inner k bytes = refl

kids_more : (inner : Inner) (place : Place) (places : List Place) (k : Kids) (bytes : List ℕ)
    → kids_at inner (place ∷ places) k bytes ≡ (expect 32 bytes >>= λ rest. kid inner place k rest >>= λ x. kids_at inner places x.0 x.1)
unfolding kids_at
kids_more inner place places k bytes = refl

pub kids_over : (inner : Inner) (ws : List Wanted) (i : ℕ) (k : Kids) (bytes : List ℕ) → length ws ≤ i → kids_at inner (map place_of (drop i ws)) k bytes ≡ Some (k, bytes)
kids_over inner ws i k bytes le = rw (drop_all i ws le) (kids_done inner k bytes)

kids_next : (inner : Inner) (ws : List Wanted) (i : ℕ) (d : Wanted) (k : Kids) (bytes : List ℕ) → i < length ws
    → kids_at inner (map place_of (drop i ws)) k bytes ≡ (expect 32 bytes >>= λ rest. kid inner (place_of (get_or ws i d)) k rest >>= λ x. kids_at inner (map place_of (drop (i + 1) ws)) x.0 x.1)
kids_next inner ws i d k bytes lt =
    ap (λ ws. kids_at inner (map place_of ws) k bytes) (drop_more ws i d lt)
    ∙ kids_more inner (place_of (get_or ws i d)) (map place_of (drop (i + 1) ws)) k bytes

-- one more kid: from here on the same is read
pub kids_turn : (inner : Inner) (ws : List Wanted) (i : ℕ) (d : Wanted) (k k' : Kids) (bytes rest rest' : List ℕ) (whole : Option (Kids × List ℕ)) → i < length ws → expect 32 bytes ≡ Some rest
    → kid inner (place_of (get_or ws i d)) k rest ≡ Some (k', rest') → kids_at inner (map place_of (drop i ws)) k bytes ≡ whole → kids_at inner (map place_of (drop (i + 1) ws)) k' rest' ≡ whole
kids_turn inner ws i d k k' bytes rest rest' whole lt h e before =
    let over : (expect 32 bytes >>= λ rest. kid inner (place_of (get_or ws i d)) k rest >>= λ x. kids_at inner (map place_of (drop (i + 1) ws)) x.0 x.1) ≡ kids_at inner (map place_of (drop (i + 1) ws)) k' rest' = rw (h, e) in
    sym over ∙ sym (kids_next inner ws i d k bytes lt) ∙ before

pub kids_end : (inner : Inner) (ws : List Wanted) (i : ℕ) (d : Wanted) (k k' k'' : Kids) (bytes rest : List ℕ) (e : GoalText) → i < length ws → expect 32 bytes ≡ Some rest
    → Leaves k' (Err e) (kid inner (place_of (get_or ws i d)) k rest) → Leaves k'' (Err e) (kids_at inner (map place_of (drop i ws)) k bytes)
kids_end inner ws i d k k' k'' bytes rest NotAGoal lt h g = kids_next inner ws i d k bytes lt ∙ rw (h, g)
kids_end inner ws i d k k' k'' bytes rest NoMemory lt h g = tt

pub kids_stop : (inner : Inner) (ws : List Wanted) (i : ℕ) (k k' : Kids) (bytes : List ℕ) (e : GoalText) → i < length ws → GivesRest (Err e) (expect 32 bytes) → Leaves k' (Err e) (kids_at inner (map place_of (drop i ws)) k bytes)
kids_stop inner ws i k k' bytes NotAGoal lt g = kids_next inner ws i wanted.Formula k bytes lt ∙ rw g
kids_stop inner ws i k k' bytes NoMemory lt g = tt

-- ---- lists of one and of two, seen through a function

pub one_mapped : {X Y : Type 0} (see : X → Y) (xs : List X) (x : X) → Some x ≡ only_one xs → only_one (map see xs) ≡ Some (see x)
one_mapped see [] x h = absurd cc
one_mapped see (y ∷ []) x h = let same : x ≡ y = cc in ap (λ x. Some (see x)) (sym same)
one_mapped see (y ∷ z ∷ xs) x h = absurd cc

pub one_missing : {X Y : Type 0} (see : X → Y) (xs : List X) → None ≡ only_one xs → only_one (map see xs) ≡ None
one_missing see [] h = refl
one_missing see (y ∷ []) h = absurd cc
one_missing see (y ∷ z ∷ xs) h = refl

pub two_mapped : {X Y : Type 0} (see : X → Y) (xs : List X) (x y : X) → Some (x, y) ≡ only_two xs → only_two (map see xs) ≡ Some (see x, see y)
two_mapped see [] x y h = absurd cc
two_mapped see (a ∷ []) x y h = absurd cc
two_mapped {X} see (a ∷ b ∷ []) x y h = let pair : X × X = (x, y) in let pair' : X × X = (a, b) in let same : pair ≡ pair' = cc in ap (λ (p : X × X). Some (see p.0, see p.1)) (sym same)
two_mapped see (a ∷ b ∷ c ∷ xs) x y h = absurd cc

pub two_missing : {X Y : Type 0} (see : X → Y) (xs : List X) → None ≡ only_two xs → only_two (map see xs) ≡ None
two_missing see [] h = refl
two_missing see (a ∷ []) h = refl
two_missing see (a ∷ b ∷ []) h = absurd cc
two_missing see (a ∷ b ∷ c ∷ xs) h = refl

pub ruleset list_laws = (one_mapped, one_missing, two_mapped, two_missing)
