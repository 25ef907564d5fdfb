-- Goals by their lines.
use Rattle.std.proofs.Common.{◌≡◌, ◌⊎◌, inl, inr, ℕ, zero, suc, ◌+◌, ◌-◌, ◌<◌, ◌≤◌, eqb, Bool, true, false, cond, List, [], ◌∷◌, ◌++◌, length, map, drop, take, get_or, set, refl, sym, ap, ◌∙◌, subst, arith, append_assoc, append-nil, eqb-true, eq-eqb, Some, None}
use Rattle.std.proofs.lemmas.Bool.Decides.{nat_tests}
use Rattle.std.specs.Prelude.{filter}
use Rattle.std.proofs.lemmas.List.{drop_all, drop_more, map_push, map-append, take_more, take_all}
use Rattle.report_read.specs.Bytes.{joined, until, all_of}
use Rattle.report_read.specs.Report.{Goal}
use Rattle.std.specs.Borrow.{Bor}
use Rattle.report_read.specs.View.{bytes_of, view_goal}
use Rattle.report_read.specs.declared.report.Goal as memory
use Rattle.std.specs.Prelude.{Vec}
use Rattle.std.specs.declared.alloc.Global.{Global}
use Rattle.report_shown.specs.View.{view_goals, view_list}
use Rattle.report_read.proofs.Fronts.{until_is}
use Rattle.report_read.proofs.Many.{Consumes, many_is, found_end, behind_end}
use Rattle.report_shown.specs.Source.{last_line, lines, with_newline, LinesAreTheText, on_line, with_goal, by_line}

-- ---- lines

append_length : (xs ys : List ℕ) → length (xs ++ ys) ≡ length xs + length ys
append_length [] ys = omega arith
append_length (x ∷ xs) ys = omega (arith, append_length xs ys)

pub until_consumes : (end : ℕ) → Consumes (until end)
until_consumes end bytes part rest h = let a = ap length (until_is end bytes part rest h).0 in let l = append_length part (end ∷ rest) in omega (arith, a, l)

pub newline_consumes : Consumes (until 10)
newline_consumes = until_consumes 10

pub no_last : (rest : List ℕ) (found : List (List ℕ)) → length rest ≡ 0 → found ≡ found ++ last_line rest
no_last [] found e = sym (append-nil found)
no_last (b ∷ rest) found e = absurd (omega (arith, e))

pub one_last : (rest : Bor (List ℕ)) (found found' : List (Bor (List ℕ))) → (length rest.now ≡ 0 → ⊥) → found' ≡ found ++ rest ∷ [] → map bytes_of found' ≡ map bytes_of found ++ last_line rest.now
one_last rest found found' n e = ap (map bytes_of) e ∙ map_push bytes_of found rest ∙ ap (λ l. map bytes_of found ++ l) (one rest.now n)
  where
    one : (xs : List ℕ) → (length xs ≡ 0 → ⊥) → xs ∷ [] ≡ last_line xs
    one [] n = absurd (n refl)
    one (x ∷ xs) n = refl

pub lines_done : (text rest : List ℕ) (found found' : List (List ℕ)) → until 10 rest ≡ None → found ++ (all_of (until 10) rest).0 ≡ (all_of (until 10) text).0 → (all_of (until 10) rest).1 ≡ (all_of (until 10) text).1
    → found' ≡ found ++ last_line rest → found' ≡ lines text
unfolding lines
lines_done text rest found found' e f b g = g ∙ (λ j. found_end (until 10) rest found (all_of (until 10) text).0 e f j ++ last_line (behind_end (until 10) rest (all_of (until 10) text).1 e b j))

joined_append : (xs ys : List (List ℕ)) → joined (xs ++ ys) ≡ joined xs ++ joined ys
joined_append [] ys = refl
joined_append (x ∷ xs) ys = ap (λ r. x ++ r) (joined_append xs ys) ∙ sym (append_assoc x (joined xs) (joined ys))

line_is : (bytes line rest : List ℕ) → until 10 bytes ≡ Some (line, rest) → bytes ≡ with_newline line ++ rest
line_is bytes line rest h = (until_is 10 bytes line rest h).0 ∙ sym (append_assoc line (10 ∷ []) rest)

pub lines_whole : LinesAreTheText
unfolding lines
lines_whole text =
    let p = all_of (until 10) text in
    let whole : text ≡ joined (map with_newline p.0) ++ p.1 = many_is (until 10) with_newline line_is (length text) text in
    let parts : joined (map with_newline (p.0 ++ last_line p.1)) ≡ joined (map with_newline p.0) ++ joined (map with_newline (last_line p.1)) =
    ap joined (map-append with_newline p.0 (last_line p.1)) ∙ joined_append (map with_newline p.0) (map with_newline (last_line p.1)) in
    by p.1 refl whole parts
  where
    by : (r : List ℕ) → (all_of (until 10) text).1 ≡ r → text ≡ joined (map with_newline (all_of (until 10) text).0) ++ (all_of (until 10) text).1
        → joined (map with_newline ((all_of (until 10) text).0 ++ last_line (all_of (until 10) text).1)) ≡ joined (map with_newline (all_of (until 10) text).0) ++ joined (map with_newline (last_line (all_of (until 10) text).1))
        → (joined (map with_newline ((all_of (until 10) text).0 ++ last_line (all_of (until 10) text).1)) ≡ text) ⊎ (joined (map with_newline ((all_of (until 10) text).0 ++ last_line (all_of (until 10) text).1)) ≡ text ++ 10 ∷ [])
    by [] e w q = inl (q ∙ ap (λ r. joined (map with_newline (all_of (until 10) text).0) ++ joined (map with_newline (last_line r))) e ∙ sym (w ∙ ap (λ r. joined (map with_newline (all_of (until 10) text).0) ++ r) e))
    by (b ∷ r) e w q =
        inr (q ∙ ap (λ r. joined (map with_newline (all_of (until 10) text).0) ++ joined (map with_newline (last_line r))) e
        ∙ ap (λ r. joined (map with_newline (all_of (until 10) text).0) ++ r) (append-nil ((b ∷ r) ++ 10 ∷ []))
        ∙ sym (append_assoc (joined (map with_newline (all_of (until 10) text).0)) (b ∷ r) (10 ∷ []))
        ∙ ap (λ t. t ++ 10 ∷ []) (sym (w ∙ ap (λ r. joined (map with_newline (all_of (until 10) text).0) ++ r) e)))

-- ---- a goal put behind those of its line

filter_push : {X : Type 0} (p : X → Bool) (xs : List X) (x : X) → cond (p x) (filter p xs ++ x ∷ []) (filter p xs) ≡ filter p (xs ++ x ∷ [])
filter_push p [] x = by (p x)
  where
    by : (t : Bool) → cond t (x ∷ []) [] ≡ cond t (x ∷ []) []
    by t = refl
filter_push p (y ∷ xs) x = by (p x) (p y) (filter_push p xs x)
  where
    by : (t u : Bool) → cond t (filter p xs ++ x ∷ []) (filter p xs) ≡ filter p (xs ++ x ∷ [])
        → cond t (cond u (y ∷ filter p xs) (filter p xs) ++ x ∷ []) (cond u (y ∷ filter p xs) (filter p xs)) ≡ cond u (y ∷ filter p (xs ++ x ∷ [])) (filter p (xs ++ x ∷ []))
    by true true h = ap (λ r. y ∷ r) h
    by true false h = h
    by false true h = ap (λ r. y ∷ r) h
    by false false h = h

pub goal_placed : (from n : ℕ) (g : Goal) (goals : List Goal) → with_goal from g (by_line from n goals) ≡ by_line from n (goals ++ g ∷ [])
goal_placed from zero g goals = refl
goal_placed from (suc n) g goals = λ j. filter_push (λ (h : Goal). eqb h.line from) goals g j ∷ goal_placed (suc from) n g goals j

-- a goal of an earlier line, or of none of these
pub before_all : (from : ℕ) (g : Goal) (lists : List (List Goal)) → g.line < from → with_goal from g lists ≡ lists
before_all from g [] l = refl
before_all from g (there ∷ lists) l =
    let other : eqb g.line from ≡ false = grind (arith, nat_tests) in
    rw other (ap (λ r. there ∷ r) (before_all (suc from) g lists (omega (arith, l))))

pub past_all : (from : ℕ) (g : Goal) (lists : List (List Goal)) → from + length lists ≤ g.line → with_goal from g lists ≡ lists
past_all from g [] l = refl
past_all from g (there ∷ lists) l =
    let other : eqb g.line from ≡ false = grind (arith, nat_tests) in
    rw other (ap (λ r. there ∷ r) (past_all (suc from) g lists (omega (arith, l))))

pub at_place : {A : Type 0} (see : A → List Goal) (from at : ℕ) (g : Goal) (lists : List A) (there there' : A) → g.line ≡ from + at → at < length lists → there ≡ get_or lists at there → see there' ≡ see there ++ g ∷ []
    → map see (set lists at there') ≡ with_goal from g (map see lists)
at_place see from at g [] there there' e l is h = absurd (omega (arith, l))
at_place see from zero g (x ∷ lists) there there' e l is h =
    let here : eqb g.line from ≡ true = eq-eqb g.line from (omega (arith, e)) in
    rw here (λ j. (h ∙ ap (λ t. see t ++ g ∷ []) is) j ∷ sym (before_all (suc from) g (map see lists) (omega (arith, e))) j)
at_place see from (suc at) g (x ∷ lists) there there' e l is h =
    let other : eqb g.line from ≡ false = grind (arith, nat_tests) in
    rw other (ap (λ r. see x ∷ r) (at_place see (suc from) at g lists there there' (omega (arith, e)) (omega (arith, l)) is h))

same_item : {A : Type 0} (items : List A) (i : ℕ) (d e : A) → i < length items → get_or items i d ≡ get_or items i e
same_item [] i d e l = absurd (omega (arith, l))
same_item (x ∷ items) zero d e l = refl
same_item (x ∷ items) (suc i) d e l = same_item items i d e (omega (arith, l))

pub placed_more : (n i : ℕ) (items : List memory.Goal) (d : memory.Goal) (lists lists' : List (List Goal)) → i < length items → lists' ≡ with_goal 1 (view_goal (get_or items i d)) lists
    → lists ≡ by_line 1 n (view_goals (take i items)) → lists' ≡ by_line 1 n (view_goals (take (i + 1) items))
placed_more n i items d lists lists' l e h =
    let g = get_or items i d in
    let front : take (i + 1) items ≡ take i items ++ g ∷ [] = take_more items i g l ∙ ap (λ x. take i items ++ x ∷ []) (same_item items i g d l) in
    e ∙ ap (with_goal 1 (view_goal g)) h ∙ goal_placed 1 n (view_goal g) (view_goals (take i items)) ∙ ap (by_line 1 n) (sym (ap view_goals front ∙ map_push view_goal (take i items) g))

pub placed_end : (n i : ℕ) (items : List memory.Goal) (lists : List (List Goal)) → length items ≤ i → lists ≡ by_line 1 n (view_goals (take i items)) → lists ≡ by_line 1 n (view_goals items)
placed_end n i items lists l h = h ∙ ap (λ xs. by_line 1 n (view_goals xs)) (take_all i items l)

pub no_line : (g : Goal) (lists : List (List Goal)) → g.line ≡ 0 → lists ≡ with_goal 1 g lists
no_line g lists e = sym (before_all 1 g lists (omega (arith, e)))

pub past_line : (g : Goal) (lists : List (List Goal)) (at : ℕ) → g.line ≡ 1 + at → length lists ≤ at → lists ≡ with_goal 1 g lists
past_line g lists at e l = sym (past_all 1 g lists (omega (arith, e, l)))

-- ---- so many empty lists

abbrev pub empties : ℕ → List (List Goal)
empties zero = []
empties (suc n) = empties n ++ [] ∷ []

one_before : (n : ℕ) → [] ∷ empties n ≡ empties n ++ [] ∷ []
one_before zero = refl
one_before (suc n) = ap (λ ls. ls ++ [] ∷ []) (one_before n)

pub empties_all : (from n : ℕ) (lists : List (List Goal)) → lists ≡ empties n → lists ≡ by_line from n []
empties_all from n lists e = e ∙ by from n
  where
    by : (from n : ℕ) → empties n ≡ by_line from n []
    by from zero = refl
    by from (suc n) = sym (one_before n) ∙ ap (λ ls. [] ∷ ls) (by (suc from) n)

pub empties_more : (n : ℕ) (lists lists' : List (Vec memory.Goal Global)) (one : Vec memory.Goal Global) → map view_list lists ≡ empties n → one.items ≡ [] → lists' ≡ lists ++ one ∷ [] → map view_list lists' ≡ empties (n + 1)
empties_more n lists lists' one h e f =
    let next : suc n ≡ n + 1 = omega arith in
    let last : map view_list (one ∷ []) ≡ [] ∷ [] = ap (λ (xs : List memory.Goal). view_goals xs ∷ []) e in
    ap (map view_list) f ∙ map_push view_list lists one ∙ (λ j. h j ++ last j) ∙ ap empties next

seen_lists : (lists : List (Vec memory.Goal Global)) → length (map view_list lists) ≡ length lists
seen_lists [] = refl
seen_lists (l ∷ lists) = let more = seen_lists lists in omega (arith, more)

pub line_missing : (g : Goal) (lists : List (Vec memory.Goal Global)) (at : ℕ) → g.line ≡ 1 + at → (at < length lists → ⊥) → map view_list lists ≡ with_goal 1 g (map view_list lists)
line_missing g lists at e n = let l = seen_lists lists in past_line g (map view_list lists) at e (omega (arith, l, n))

pub goal_pushed : (list list' : List memory.Goal) (g : memory.Goal) → list' ≡ list ++ g ∷ [] → view_goals list' ≡ view_goals list ++ view_goal g ∷ []
goal_pushed list list' g e = ap view_goals e ∙ map_push view_goal list g
