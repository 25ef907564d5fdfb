-- One declaration after another, by a loop over a slice.
use Rattle.std.proofs.Common.{◌≡◌, ℕ, ◌+◌, ◌<◌, ◌≤◌, List, [], ◌∷◌, ◌++◌, map, length, drop, get_or, Ok, Err, refl, sym, ap, subst, ◌∙◌}
use Rattle.std.proofs.lemmas.List.{at_drop_more, at_drop_all}
use Rattle.wp_base.specs.declared.answers.Stop.{Stop}
use Rattle.wp_base.specs.declared.answers.Stop.TheVariants as stop
use Rattle.c_answers.specs.Answers.{Answer, after, Gives}
use Rattle.c_decls.specs.Each.{each}

-- what is left begins with an item
one_left : {S X V : Type 0} (f : S → V → Answer S) (view : X → V) (s : S) (xs : List X) (i : ℕ) (x : X) → i < length xs → x ≡ get_or xs i x
    → each f s (map view (drop i xs)) ≡ after (f s (view x)) (λ next. each f next (map view (drop (i + 1) xs)))
one_left f view s xs i x in_list is =
    at_drop_more (λ ys. each f s (map view ys)) xs i x in_list ∙ ap (λ y. each f s (map view (y ∷ drop (i + 1) xs))) (sym is)

pub each_turn : {S X V : Type 0} (f : S → V → Answer S) (view : X → V) (xs : List X) (i : ℕ) (x : X) (s next : S) (whole : Answer S) → i < length xs → x ≡ get_or xs i x → f s (view x) ≡ Ok next
    → each f s (map view (drop i xs)) ≡ whole → each f next (map view (drop (i + 1) xs)) ≡ whole
each_turn f view xs i x s next whole in_list is made so_far =
    sym (one_left f view s xs i x in_list is ∙ ap (λ o. after o (λ next. each f next (map view (drop (i + 1) xs)))) made) ∙ so_far

pub each_fault : {S X V Y Z : Type 0} (see : Y → S) (see' : Z → S) (f : S → V → Answer S) (view : X → V) (xs : List X) (i : ℕ) (x : X) (s : S) (e : Stop) (whole : Answer S) → i < length xs → x ≡ get_or xs i x
    → Gives see (Err e) (f s (view x)) → each f s (map view (drop i xs)) ≡ whole → Gives see' (Err e) whole
each_fault see see' f view xs i x s (stop.Refused r) whole in_list is fault so_far =
    sym so_far ∙ one_left f view s xs i x in_list is ∙ ap (λ o. after o (λ next. each f next (map view (drop (i + 1) xs)))) fault
each_fault see see' f view xs i x s stop.NoMemory whole in_list is fault so_far = tt

pub each_done : {S X V : Type 0} (f : S → V → Answer S) (view : X → V) (xs : List X) (i : ℕ) (s : S) (whole : Answer S) → length xs ≤ i → each f s (map view (drop i xs)) ≡ whole → whole ≡ Ok s
each_done f view xs i s whole all so_far = sym so_far ∙ at_drop_all (λ ys. each f s (map view ys)) xs i all

pub ruleset turn_laws = (each_turn, each_fault, each_done)

-- ---- what one item keeps, all of them keep

keeps_by : {S X : Type 0} (P : S → Type 0) (f : S → X → Answer S) (xs : List X) (o : Answer S) (last : S) → ((next : S) → o ≡ Ok next → P next) → ((s : S) → P s → each f s xs ≡ Ok last → P last)
    → after o (λ next. each f next xs) ≡ Ok last → P last
keeps_by P f xs (Ok next) last kept rest h = rest next (kept next refl) h
keeps_by P f xs (Err r) last kept rest h = absurd cc

pub each_keeps : {S X : Type 0} (P : S → Type 0) (f : S → X → Answer S) → ((s : S) (x : X) (next : S) → P s → f s x ≡ Ok next → P next) → (s : S) (xs : List X) (last : S) → P s → each f s xs ≡ Ok last → P last
each_keeps P f kept s [] last so_far h = subst P (let e : s ≡ last = cc in e) so_far
each_keeps P f kept s (x ∷ xs) last so_far h = keeps_by P f xs (f s x) last (λ next made. kept s x next so_far made) (λ next there rest. each_keeps P f kept next xs last there rest) h

-- what comes behind an answer was given by one
pub after_gives : {X Y : Type 0} (o : Answer X) (f : X → Answer Y) (y : Y) → after o f ≡ Ok y → (x : X) × (o ≡ Ok x) × (f x ≡ Ok y)
after_gives (Ok x) f y h = (x, refl, h)
after_gives (Err r) f y h = absurd cc

-- two parts of a list, one after the other
pub each_split : {S X : Type 0} (f : S → X → Answer S) (s : S) (xs ys : List X) (last : S) → each f s (xs ++ ys) ≡ Ok last → (mid : S) × (each f s xs ≡ Ok mid) × (each f mid ys ≡ Ok last)
each_split f s [] ys last h = (s, refl, h)
each_split f s (x ∷ xs) ys last h =
    let a = after_gives (f s x) (λ next. each f next (xs ++ ys)) last h in
    let r = each_split f a.0 xs ys last a.2 in
    (r.0, ap (λ o. after o (λ next. each f next xs)) a.1 ∙ r.1, r.2)

abbrev pub given : {X : Type 0} → X → Answer X
given x = Ok x

pub ok_is : {X : Type 0} (x y : X) → given x ≡ given y → x ≡ y
ok_is x y h = cc
