-- Names that are hidden in a part of a predicate.
use Rattle.std.proofs.Common.{◌≡◌, ℕ, ◌+◌, ◌<◌, ◌≤◌, Bool, true, false, not, cond, ◌||◌, List, [], ◌∷◌, ◌++◌, map, length, take, refl, sym, ap, ◌∙◌, append-nil, append_assoc, arith, length-take, if◌then◌else◌}
use Rattle.std.specs.List.{filter, list_any}
use Rattle.std.specs.Str.{bytes_eq}
use Rattle.std.specs.Borrow.{Bor}
use Rattle.std.specs.declared.vec.Vec.{Vec}
use Rattle.indexmap.specs.IndexSet.{insert_key}
use Rattle.std.proofs.lemmas.Slice.Eq.{bytes_eq-Decides}
use Rattle.std.proofs.lemmas.List.{map-append, take-append-le, take-map, take_all}
use Rattle.std.proofs.lemmas.List.Elements.{filter-append}
use Rattle.std.proofs.lemmas.List.Folds.{list_any-append}
use Rattle.c_syntax.specs.declared.annot.Pred.{Pred}
use Rattle.c_syntax.specs.Pred as p
use Rattle.c_syntax.specs.View.{view_pred}
use Rattle.c_taken.specs.declared.preds.Piece.{Piece}
use Rattle.c_taken.specs.declared.preds.Piece.TheVariants.{Look, Back}
use Rattle.c_taken.specs.Addressed.{Names, last_first, is_among, outside, pred_addressed, term_addressed}
use Rattle.c_taken.specs.Pieces.{Sofar, sofar, Task, look, back, view_piece, tasks_in, done, all_done, tasks, hidden_by, hidden_by_all, pred_own, bound, pred_parts}
use Rattle.c_taken.proofs.Gathering.{total, total-append}

-- ---- what is hidden

pub outside_none : (xs : Names) → outside [] xs ≡ xs
outside_none [] = refl
outside_none (x ∷ xs) = ap (λ ys. x ∷ ys) (outside_none xs)

or_none : (b : Bool) → (b || false) ≡ b
or_none true = refl
or_none false = refl

or_assoc : (a b c : Bool) → ((a || b) || c) ≡ (a || (b || c))
or_assoc true b c = refl
or_assoc false b c = refl

one_more : (hidden : Names) (x y : List ℕ) → is_among (hidden_by hidden x) y ≡ (is_among hidden y || bytes_eq y x)
one_more hidden x y = by (is_among hidden x) refl
  where
    there : (b : Bool) → bytes_eq y x ≡ b → is_among hidden x ≡ true → is_among hidden y ≡ (is_among hidden y || b)
    there false e h = sym (or_none (is_among hidden y))
    there true e h =
        let same : y ≡ x = (bytes_eq-Decides y x).0 e in
        let among : is_among hidden y ≡ true = ap (is_among hidden) same ∙ h in
        among ∙ sym (ap (λ b. b || true) among)

    by : (b : Bool) → is_among hidden x ≡ b → is_among (if b then hidden else hidden ++ x ∷ []) y ≡ (is_among hidden y || bytes_eq y x)
    by true h = there (bytes_eq y x) refl h
    by false h = list_any-append (bytes_eq y) hidden (x ∷ []) ∙ ap (λ b. is_among hidden y || b) (or_none (bytes_eq y x))

all_more : (hidden xs : Names) (y : List ℕ) → is_among (hidden_by_all hidden xs) y ≡ (is_among hidden y || is_among xs y)
all_more hidden [] y = sym (or_none (is_among hidden y))
all_more hidden (x ∷ xs) y =
    all_more (hidden_by hidden x) xs y ∙ ap (λ b. b || is_among xs y) (one_more hidden x y) ∙ or_assoc (is_among hidden y) (bytes_eq y x) (is_among xs y)

twice : (f g h : List ℕ → Bool) → ((y : List ℕ) → h y ≡ (f y || g y)) → (ys : Names) → filter (λ y. not (h y)) ys ≡ filter (λ y. not (f y)) (filter (λ y. not (g y)) ys)
twice f g h is [] = refl
twice f g h is (y ∷ ys) =
    ap (λ b. cond (not b) (y ∷ filter (λ z. not (h z)) ys) (filter (λ z. not (h z)) ys)) (is y) ∙ by (f y) (g y) refl (twice f g h is ys)
  where
    by : (a b : Bool) → f y ≡ a → filter (λ z. not (h z)) ys ≡ filter (λ z. not (f z)) (filter (λ z. not (g z)) ys)
        → cond (not (a || b)) (y ∷ filter (λ z. not (h z)) ys) (filter (λ z. not (h z)) ys)
        ≡ filter (λ z. not (f z)) (cond (not b) (y ∷ filter (λ z. not (g z)) ys) (filter (λ z. not (g z)) ys))
    by true true q rest = rest
    by false true q rest = rest
    by true false q rest = rest ∙ sym (ap (λ a. cond (not a) (y ∷ filter (λ z. not (f z)) (filter (λ z. not (g z)) ys)) (filter (λ z. not (f z)) (filter (λ z. not (g z)) ys))) q)
    by false false q rest =
        ap (λ zs. y ∷ zs) rest
        ∙ sym (ap (λ a. cond (not a) (y ∷ filter (λ z. not (f z)) (filter (λ z. not (g z)) ys)) (filter (λ z. not (f z)) (filter (λ z. not (g z)) ys))) q)

-- what is outside of more names is outside of those, and of the others
pub outside_more : (hidden xs ys : Names) → outside (hidden_by_all hidden xs) ys ≡ outside hidden (outside xs ys)
outside_more hidden xs ys = twice (is_among hidden) (is_among xs) (is_among (hidden_by_all hidden xs)) (all_more hidden xs) ys

pub hidden_all : (xs ys : Names) → outside (hidden_by_all [] xs) ys ≡ outside xs ys
hidden_all xs ys = outside_more [] xs ys ∙ outside_none (outside xs ys)

-- ---- hidden names in memory

pub among_keys : {Z : Type 0} (keys : List (Vec ℕ Z)) (x : List ℕ) → is_among (map (λ k. k.items) keys) x ≡ list_any (λ k. bytes_eq x k.items) keys
among_keys [] x = refl
among_keys (k ∷ keys) x = ap (λ b. bytes_eq x k.items || b) (among_keys keys x)

pub fewer_keys : {Z : Type 0} (keys keys' : List (Vec ℕ Z)) (count : ℕ) → keys' ≡ take count keys → map (λ k. k.items) keys' ≡ take count (map (λ k. k.items) keys)
fewer_keys keys keys' count is = ap (map (λ k. k.items)) is ∙ sym (take-map (λ k. k.items) count keys)

-- a new key
pub one_key : {Z : Type 0} (all : Names) (keys keys' : List (Vec ℕ Z)) (k : Vec ℕ Z) (x : List ℕ) → all ≡ map (λ k. k.items) keys → is_among all x ≡ false → k.items ≡ x
    → keys' ≡ insert_key (λ a b. bytes_eq a.items b.items) keys k → map (λ k. k.items) keys' ≡ hidden_by all x
one_key all keys keys' k x whole new is put =
    let absent : list_any (λ b. bytes_eq k.items b.items) keys ≡ false = sym (among_keys keys k.items) ∙ (λ i. is_among (sym whole i) (is i)) ∙ new in
    ap (map (λ k. k.items)) (put ∙ ap (λ b. if b then keys else keys ++ k ∷ []) absent) ∙ map-append (λ k. k.items) keys (k ∷ []) ∙ (λ i. sym whole i ++ is i ∷ [])
    ∙ sym (ap (λ b. if b then all else all ++ x ∷ []) new)

pub ruleset key_laws = (among_keys, fewer_keys)

-- ---- going back

front_of_one : (hidden front : Names) (x : List ℕ) → take (length front) hidden ≡ front → take (length front) (hidden_by hidden x) ≡ front
front_of_one hidden front x h = by (is_among hidden x)
  where
    within : length front ≤ length hidden
    within = omega (arith, length-take (length front) hidden, ap length h)

    by : (b : Bool) → take (length front) (if b then hidden else hidden ++ x ∷ []) ≡ front
    by true = h
    by false = take-append-le (length front) hidden (x ∷ []) within ∙ h

front_of_all : (hidden xs front : Names) → take (length front) hidden ≡ front → take (length front) (hidden_by_all hidden xs) ≡ front
front_of_all hidden [] front h = h
front_of_all hidden (x ∷ xs) front h = front_of_all (hidden_by hidden x) xs front (front_of_one hidden front x h)

pub back_again : (hidden xs : Names) → take (length hidden) (hidden_by_all hidden xs) ≡ hidden
back_again hidden xs = front_of_all hidden xs hidden (take_all (length hidden) hidden (omega arith))

-- ---- what is still to be done

done_append : (ts us : List Task) (s : Sofar) → all_done (ts ++ us) s ≡ all_done ts (all_done us s)
unfolding all_done
done_append [] us s = refl
done_append (t ∷ ts) us s = ap (done t) (done_append ts us s)

done_one : (t : Task) (s : Sofar) → all_done (t ∷ []) s ≡ done t s
unfolding all_done
done_one t s = refl

done_first : (t : Task) (ts : List Task) (s : Sofar) → all_done (t ∷ ts) s ≡ done t (all_done ts s)
unfolding all_done
done_first t ts s = refl

done_none : (s : Sofar) → all_done [] s ≡ s
unfolding all_done
done_none s = refl

looks_done : (ps : List p.Pred) (hidden found : Names) → all_done (map look ps) (sofar hidden found) ≡ sofar hidden (found ++ outside hidden (last_first pred_addressed ps))
unfolding all_done
looks_done [] hidden found = ap (sofar hidden) (sym (append-nil found))
looks_done (a ∷ ps) hidden found =
    ap (done (look a)) (looks_done ps hidden found)
    ∙ ap (sofar hidden) (append_assoc found (outside hidden (last_first pred_addressed ps)) (outside hidden (pred_addressed a))
    ∙ ap (λ ns. found ++ ns) (sym (filter-append (λ x. not (is_among hidden x)) (last_first pred_addressed ps) (pred_addressed a))))

pred_is : (a : p.Pred) → pred_addressed a ≡ pred_own a ++ outside (bound a) (last_first pred_addressed (pred_parts a))
unfolding pred_own bound pred_parts
pred_is (p.always line) = refl
pred_is (p.never line) = refl
pred_is (p.not_of line a) = sym (outside_none (pred_addressed a))
pred_is (p.and_of line a b) = sym (outside_none (pred_addressed b ++ pred_addressed a))
pred_is (p.xor_of line a b) = sym (outside_none (pred_addressed b ++ pred_addressed a))
pred_is (p.or_of line a b) = sym (outside_none (pred_addressed b ++ pred_addressed a))
pred_is (p.implies line a b) = sym (outside_none (pred_addressed b ++ pred_addressed a))
pred_is (p.iff line a b) = sym (outside_none (pred_addressed b ++ pred_addressed a))
pred_is (p.cond line test a b) = sym (outside_none ((pred_addressed b ++ pred_addressed a) ++ pred_addressed test))
pred_is (p.let_in line x value a) = refl
pred_is (p.chain line terms ops) = sym (append-nil (last_first term_addressed terms))
pred_is (p.for_all line binders a) = refl
pred_is (p.for_some line binders a) = refl
pred_is (p.valid line pointer) = sym (append-nil (term_addressed pointer))
pred_is (p.valid_read line pointer) = sym (append-nil (term_addressed pointer))
pred_is (p.separated line pointers) = sym (append-nil (last_first term_addressed pointers))
pred_is (p.old line a) = sym (outside_none (pred_addressed a))
pred_is (p.call line f args) = sym (append-nil (last_first term_addressed args))

-- a predicate gave place to what it leaves to be done
gave_place : (hidden found : Names) (a : p.Pred) → all_done (tasks hidden a) (sofar (hidden_by_all hidden (bound a)) (found ++ outside hidden (pred_own a))) ≡ done (look a) (sofar hidden found)
gave_place hidden found a =
    let inner = hidden_by_all hidden (bound a) in
    let names = last_first pred_addressed (pred_parts a) in
    done_first (back (length hidden)) (map look (pred_parts a)) (sofar inner (found ++ outside hidden (pred_own a)))
    ∙ ap (done (back (length hidden))) (looks_done (pred_parts a) inner (found ++ outside hidden (pred_own a)))
    ∙ ap (λ h. sofar h ((found ++ outside hidden (pred_own a)) ++ outside inner names)) (back_again hidden (bound a))
    ∙ ap (sofar hidden) (append_assoc found (outside hidden (pred_own a)) (outside inner names)
    ∙ ap (λ ns. found ++ ns) (ap (λ ns. outside hidden (pred_own a) ++ ns) (outside_more hidden (bound a) names)
    ∙ sym (filter-append (λ x. not (is_among hidden x)) (pred_own a) (outside (bound a) names)) ∙ ap (outside hidden) (sym (pred_is a))))

last_task : (l l' : List Piece) (x : Piece) → l ≡ l' ++ x ∷ [] → tasks_in l ≡ tasks_in l' ++ view_piece x ∷ []
last_task l l' x is = ap tasks_in is ∙ map-append view_piece l' (x ∷ [])

-- one turn
look_done : (l l' l'' : List Piece) (x : Piece) (a : p.Pred) (hidden hidden' found found' : Names) (whole : Sofar) → l ≡ l' ++ x ∷ [] → view_piece x ≡ look a
    → found' ≡ found ++ outside hidden (pred_own a) → hidden' ≡ hidden_by_all hidden (bound a) → tasks_in l'' ≡ tasks_in l' ++ tasks hidden a
    → all_done (tasks_in l) (sofar hidden found) ≡ whole → all_done (tasks_in l'') (sofar hidden' found') ≡ whole
look_done l l' l'' x a hidden hidden' found found' whole taken is noted bounds put done_before =
    (λ i. all_done (put i) (sofar (bounds i) (noted i)))
    ∙ done_append (tasks_in l') (tasks hidden a) (sofar (hidden_by_all hidden (bound a)) (found ++ outside hidden (pred_own a)))
    ∙ ap (all_done (tasks_in l')) (gave_place hidden found a ∙ sym (done_one (look a) (sofar hidden found)))
    ∙ sym (done_append (tasks_in l') (look a ∷ []) (sofar hidden found))
    ∙ ap (λ y. all_done (tasks_in l' ++ y ∷ []) (sofar hidden found)) (sym is)
    ∙ ap (λ ts. all_done ts (sofar hidden found)) (sym (last_task l l' x taken)) ∙ done_before

-- the same by the piece that the code finds
pub look_turn : (l l' l'' : List Piece) (x : Piece) (b : Bor Pred) (hidden hidden' found found' : Names) (whole : Sofar) → l ≡ l' ++ x ∷ [] → x ≡ Look b
    → found' ≡ found ++ outside hidden (pred_own (view_pred b.now)) → hidden' ≡ hidden_by_all hidden (bound (view_pred b.now)) → tasks_in l'' ≡ tasks_in l' ++ tasks hidden (view_pred b.now)
    → all_done (tasks_in l) (sofar hidden found) ≡ whole → all_done (tasks_in l'') (sofar hidden' found') ≡ whole
look_turn l l' l'' x b hidden hidden' found found' whole taken is noted bounds put sofar_is =
    look_done l l' l'' x (view_pred b.now) hidden hidden' found found' whole taken (ap view_piece is) noted bounds put sofar_is

pub back_turn : (l l' : List Piece) (x : Piece) (count : ℕ) (hidden hidden' found : Names) (whole : Sofar) → l ≡ l' ++ x ∷ [] → x ≡ Back count
    → hidden' ≡ take count hidden → all_done (tasks_in l) (sofar hidden found) ≡ whole → all_done (tasks_in l') (sofar hidden' found) ≡ whole
back_turn l l' x count hidden hidden' found whole taken is less done_before =
    ap (λ h. all_done (tasks_in l') (sofar h found)) less
    ∙ ap (all_done (tasks_in l')) (sym (done_one (back count) (sofar hidden found)))
    ∙ sym (done_append (tasks_in l') (back count ∷ []) (sofar hidden found))
    ∙ ap (λ y. all_done (tasks_in l' ++ view_piece y ∷ []) (sofar hidden found)) (sym is)
    ∙ ap (λ ts. all_done ts (sofar hidden found)) (sym (last_task l l' x taken)) ∙ done_before

-- the first task is the whole predicate, and at the end nothing is left
pub all_looked : (l : List Piece) (a : p.Pred) (hidden found : Names) → l ≡ [] → all_done (tasks_in l) (sofar hidden found) ≡ done (look a) (sofar [] []) → found ≡ pred_addressed a
all_looked l a hidden found none is =
    ap (λ s. s.found) (sym (ap (λ l. all_done (tasks_in l) (sofar hidden found)) none ∙ done_none (sofar hidden found)) ∙ is) ∙ outside_none (pred_addressed a)

pub first_task : (a : p.Pred) → all_done (look a ∷ []) (sofar [] []) ≡ done (look a) (sofar [] [])
first_task a = done_one (look a) (sofar [] [])

-- ---- how much is left

abbrev pub pred_weighs : p.Pred → ℕ
pred_weighs (p.always line) = 2
pred_weighs (p.never line) = 2
pred_weighs (p.not_of line a) = 2 + pred_weighs a
pred_weighs (p.and_of line a b) = 2 + (pred_weighs a + pred_weighs b)
pred_weighs (p.xor_of line a b) = 2 + (pred_weighs a + pred_weighs b)
pred_weighs (p.or_of line a b) = 2 + (pred_weighs a + pred_weighs b)
pred_weighs (p.implies line a b) = 2 + (pred_weighs a + pred_weighs b)
pred_weighs (p.iff line a b) = 2 + (pred_weighs a + pred_weighs b)
pred_weighs (p.cond line test a b) = 2 + (pred_weighs test + (pred_weighs a + pred_weighs b))
pred_weighs (p.let_in line x value a) = 2 + pred_weighs a
pred_weighs (p.chain line terms ops) = 2
pred_weighs (p.for_all line binders a) = 2 + pred_weighs a
pred_weighs (p.for_some line binders a) = 2 + pred_weighs a
pred_weighs (p.valid line pointer) = 2
pred_weighs (p.valid_read line pointer) = 2
pred_weighs (p.separated line pointers) = 2
pred_weighs (p.old line a) = 2 + pred_weighs a
pred_weighs (p.call line f args) = 2

abbrev pub task_weighs : Task → ℕ
task_weighs (look a) = pred_weighs a
task_weighs (back count) = 1

abbrev pub task_weight : List Piece → ℕ
task_weight l = total task_weighs (tasks_in l)

looks_weigh : (ps : List p.Pred) → total task_weighs (map look ps) ≡ total pred_weighs ps
looks_weigh [] = refl
looks_weigh (a ∷ ps) = ap (λ n. pred_weighs a + n) (looks_weigh ps)

pred_parts_weigh : (a : p.Pred) → total pred_weighs (pred_parts a) + 1 < pred_weighs a
unfolding pred_parts
pred_parts_weigh (p.always line) = omega arith
pred_parts_weigh (p.never line) = omega arith
pred_parts_weigh (p.not_of line a) = omega arith
pred_parts_weigh (p.and_of line a b) = omega arith
pred_parts_weigh (p.xor_of line a b) = omega arith
pred_parts_weigh (p.or_of line a b) = omega arith
pred_parts_weigh (p.implies line a b) = omega arith
pred_parts_weigh (p.iff line a b) = omega arith
pred_parts_weigh (p.cond line test a b) = omega arith
pred_parts_weigh (p.let_in line x value a) = omega arith
pred_parts_weigh (p.chain line terms ops) = omega arith
pred_parts_weigh (p.for_all line binders a) = omega arith
pred_parts_weigh (p.for_some line binders a) = omega arith
pred_parts_weigh (p.valid line pointer) = omega arith
pred_parts_weigh (p.valid_read line pointer) = omega arith
pred_parts_weigh (p.separated line pointers) = omega arith
pred_parts_weigh (p.old line a) = omega arith
pred_parts_weigh (p.call line f args) = omega arith

pub look_lighter : (l l' l'' : List Piece) (x : Piece) (b : Bor Pred) (hidden : Names) → l ≡ l' ++ x ∷ [] → x ≡ Look b → tasks_in l'' ≡ tasks_in l' ++ tasks hidden (view_pred b.now)
    → task_weight l'' < task_weight l
look_lighter l l' l'' x b hidden taken is put =
    let a = view_pred b.now in
    let after : task_weight l'' ≡ total task_weighs (tasks_in l') + (1 + total task_weighs (map look (pred_parts a))) = ap (total task_weighs) put ∙ total-append task_weighs (tasks_in l') (tasks hidden a) in
    let before : task_weight l ≡ total task_weighs (tasks_in l') + (task_weighs (view_piece x) + 0) =
    ap (total task_weighs) (last_task l l' x taken) ∙ total-append task_weighs (tasks_in l') (view_piece x ∷ []) in
    omega (arith, after, before, ap (λ y. task_weighs (view_piece y)) is, looks_weigh (pred_parts a), pred_parts_weigh a)

pub back_lighter : (l l' : List Piece) (x : Piece) (count : ℕ) → l ≡ l' ++ x ∷ [] → x ≡ Back count → task_weight l' < task_weight l
back_lighter l l' x count taken is =
    let before : task_weight l ≡ total task_weighs (tasks_in l') + (task_weighs (view_piece x) + 0) =
    ap (total task_weighs) (last_task l l' x taken) ∙ total-append task_weighs (tasks_in l') (view_piece x ∷ []) in
    omega (arith, before, ap (λ y. task_weighs (view_piece y)) is)

pub ruleset task_laws = (look_turn, back_turn, look_lighter, back_lighter, all_looked, first_task)
