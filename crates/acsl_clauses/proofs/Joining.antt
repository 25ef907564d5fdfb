-- Two sorts of clauses as one, and lists that are filled item by item.
use Rattle.std.proofs.Common.{◌≡◌, ◌==◌, ℕ, ◌+◌, ◌<◌, ◌≤◌, true, false, List, [], ◌∷◌, ◌++◌, map, length, drop, get_or, refl, sym, ap, ◌∙◌, append_assoc, append-nil, nat_lt, if◌then◌else◌, arith, rules}
use Rattle.std.proofs.lemmas.List.{at_drop_more, at_drop_all, map_push, map-append}
use Rattle.std.proofs.lemmas.Bool.{lt-ltb, le-ltb}
use Rattle.c_syntax.specs.declared.annot.Clause.{Clause}
use Rattle.c_syntax.specs.declared.annot.Names.{Names}
use Rattle.c_syntax.specs.declared.annot.Behavior.{Behavior}
use Rattle.c_syntax.specs.View.{view_clause, view_behavior}
use Rattle.acsl_clauses.specs.declared.items.Role.{Role}
use Rattle.acsl_clauses.specs.declared.items.Group.{Group}
use Rattle.acsl_clauses.specs.declared.items.Item.{Item as Code}
use Rattle.acsl_clauses.specs.Items.{Item, view_item, place_of, ahead, behind, merged, claim, together, behavior_of, behaviors_of}

-- ---- clauses of one sort

pub claim_turn : (r : Role) (xs : List Clause) (i : ℕ) (x : Clause) (ys more : List Code) (y : Code) (whole : List Item) → i < length xs → x ≡ get_or xs i x → view_item y ≡ claim r (view_clause x) → more ≡ ys ++ y ∷ []
    → map view_item ys ++ map (claim r) (map view_clause (drop i xs)) ≡ whole → map view_item more ++ map (claim r) (map view_clause (drop (i + 1) xs)) ≡ whole
claim_turn r xs i x ys more y whole in_list is made grown so_far =
    let rest = map (claim r) (map view_clause (drop (i + 1) xs)) in
    ap (λ us. map view_item us ++ rest) grown ∙ ap (λ us. us ++ rest) (map_push view_item ys y) ∙ append_assoc (map view_item ys) (view_item y ∷ []) rest
    ∙ ap (λ u. map view_item ys ++ u ∷ rest) made
    ∙ ap (λ us. map view_item ys ++ us) (sym (at_drop_more (λ zs. map (claim r) (map view_clause zs)) xs i x in_list ∙ ap (λ z. claim r (view_clause z) ∷ rest) (sym is))) ∙ so_far

pub claims_done : (r : Role) (xs : List Clause) (i : ℕ) (ys : List Code) (whole : List Item) → length xs ≤ i → map view_item ys ++ map (claim r) (map view_clause (drop i xs)) ≡ whole → map view_item ys ≡ whole
claims_done r xs i ys whole all so_far = sym (append-nil (map view_item ys)) ∙ sym (at_drop_all (λ zs. map view_item ys ++ map (claim r) (map view_clause zs)) xs i all) ∙ so_far

pub ruleset claim_laws = (claim_turn, claims_done)

pub together_turn : (g : Group) (xs : List Names) (i : ℕ) (x : Names) (ys more : List Code) (y : Code) (whole : List Item) → i < length xs → x ≡ get_or xs i x → view_item y ≡ together g x → more ≡ ys ++ y ∷ []
    → map view_item ys ++ map (together g) (drop i xs) ≡ whole → map view_item more ++ map (together g) (drop (i + 1) xs) ≡ whole
together_turn g xs i x ys more y whole in_list is made grown so_far =
    let rest = map (together g) (drop (i + 1) xs) in
    ap (λ us. map view_item us ++ rest) grown ∙ ap (λ us. us ++ rest) (map_push view_item ys y) ∙ append_assoc (map view_item ys) (view_item y ∷ []) rest
    ∙ ap (λ u. map view_item ys ++ u ∷ rest) made
    ∙ ap (λ us. map view_item ys ++ us) (sym (at_drop_more (map (together g)) xs i x in_list ∙ ap (λ z. together g z ∷ rest) (sym is))) ∙ so_far

pub together_done : (g : Group) (xs : List Names) (i : ℕ) (ys : List Code) (whole : List Item) → length xs ≤ i → map view_item ys ++ map (together g) (drop i xs) ≡ whole → map view_item ys ≡ whole
together_done g xs i ys whole all so_far = sym (append-nil (map view_item ys)) ∙ sym (at_drop_all (λ zs. map view_item ys ++ map (together g) zs) xs i all) ∙ so_far

pub ruleset together_laws = (together_turn, together_done)

-- ---- behaviors

pub behavior_turn : (xs : List Behavior) (i : ℕ) (x : Behavior) (so more whole : List Item) → i < length xs → x ≡ get_or xs i x → more ≡ so ++ behavior_of (view_behavior x)
    → so ++ behaviors_of (map view_behavior (drop i xs)) ≡ whole → more ++ behaviors_of (map view_behavior (drop (i + 1) xs)) ≡ whole
behavior_turn xs i x so more whole in_list is made so_far =
    let rest = behaviors_of (map view_behavior (drop (i + 1) xs)) in
    ap (λ us. us ++ rest) made ∙ append_assoc so (behavior_of (view_behavior x)) rest
    ∙ ap (λ us. so ++ us) (sym (at_drop_more (λ zs. behaviors_of (map view_behavior zs)) xs i x in_list ∙ ap (λ z. behavior_of (view_behavior z) ++ rest) (sym is))) ∙ so_far

pub behaviors_done : (xs : List Behavior) (i : ℕ) (so whole : List Item) → length xs ≤ i → so ++ behaviors_of (map view_behavior (drop i xs)) ≡ whole → so ≡ whole
behaviors_done xs i so whole all so_far = sym (append-nil so) ∙ sym (at_drop_all (λ zs. so ++ behaviors_of (map view_behavior zs)) xs i all) ∙ so_far

pub ruleset behavior_laws = (behavior_turn, behaviors_done)

-- ---- merging

-- what is left of a list begins with a clause
left_is : (ys : List Code) (n : ℕ) (y : Code) → n < length ys → y ≡ get_or ys n y → map view_item (drop n ys) ≡ view_item y ∷ map view_item (drop (n + 1) ys)
left_is ys n y in_list is = at_drop_more (map view_item) ys n y in_list ∙ ap (λ z. view_item z ∷ map view_item (drop (n + 1) ys)) (sym is)

-- one clause more stands before the place
pub ahead_turn : (place : ℕ) (ys : List Code) (n : ℕ) (y : Code) (done more : List Code) (whole : List Item) → n < length ys → y ≡ get_or ys n y → place_of (view_item y) < place → more ≡ done ++ y ∷ []
    → map view_item done ++ ahead place (map view_item (drop n ys)) ≡ whole → map view_item more ++ ahead place (map view_item (drop (n + 1) ys)) ≡ whole
ahead_turn place ys n y done more whole in_list is before grown so_far =
    let rest = ahead place (map view_item (drop (n + 1) ys)) in
    let t : nat_lt (place_of (view_item y)) place ≡ true = grind (arith, before) in
    ap (λ us. map view_item us ++ rest) grown ∙ ap (λ us. us ++ rest) (map_push view_item done y) ∙ append_assoc (map view_item done) (view_item y ∷ []) rest
    ∙ ap (λ us. map view_item done ++ us) (sym (ap (ahead place) (left_is ys n y in_list is) ∙ ap (λ b. if b then view_item y ∷ rest else []) t)) ∙ so_far

pub behind_turn : (place : ℕ) (ys : List Code) (n : ℕ) (y : Code) (whole : List Item) → n < length ys → y ≡ get_or ys n y → place_of (view_item y) < place
    → behind place (map view_item (drop n ys)) ≡ whole → behind place (map view_item (drop (n + 1) ys)) ≡ whole
behind_turn place ys n y whole in_list is before so_far =
    let t : nat_lt (place_of (view_item y)) place ≡ true = grind (arith, before) in
    sym (ap (behind place) (left_is ys n y in_list is) ∙ ap (λ b. if b then behind place (map view_item (drop (n + 1) ys)) else view_item y ∷ map view_item (drop (n + 1) ys)) t) ∙ so_far

-- the next one doesn't
pub ahead_ends : (place : ℕ) (ys : List Code) (n : ℕ) (y : Code) (done : List Code) (whole : List Item) → n < length ys → y ≡ get_or ys n y → place ≤ place_of (view_item y)
    → map view_item done ++ ahead place (map view_item (drop n ys)) ≡ whole → map view_item done ≡ whole
ahead_ends place ys n y done whole in_list is not_before so_far =
    let f : nat_lt (place_of (view_item y)) place ≡ false = grind (arith, not_before) in
    sym (append-nil (map view_item done)) ∙ ap (λ us. map view_item done ++ us) (sym (ap (ahead place) (left_is ys n y in_list is)
    ∙ ap (λ b. if b then view_item y ∷ ahead place (map view_item (drop (n + 1) ys)) else []) f)) ∙ so_far

pub behind_ends : (place : ℕ) (ys : List Code) (n : ℕ) (y : Code) (whole : List Item) → n < length ys → y ≡ get_or ys n y → place ≤ place_of (view_item y)
    → behind place (map view_item (drop n ys)) ≡ whole → map view_item (drop n ys) ≡ whole
behind_ends place ys n y whole in_list is not_before so_far =
    let f : nat_lt (place_of (view_item y)) place ≡ false = grind (arith, not_before) in
    left_is ys n y in_list is ∙ sym (ap (behind place) (left_is ys n y in_list is)
    ∙ ap (λ b. if b then behind place (map view_item (drop (n + 1) ys)) else view_item y ∷ map view_item (drop (n + 1) ys)) f) ∙ so_far

-- none is left
pub ahead_done : (place : ℕ) (ys : List Code) (n : ℕ) (done : List Code) (whole : List Item) → length ys ≤ n → map view_item done ++ ahead place (map view_item (drop n ys)) ≡ whole → map view_item done ≡ whole
ahead_done place ys n done whole all so_far = sym (append-nil (map view_item done)) ∙ sym (at_drop_all (λ zs. map view_item done ++ ahead place (map view_item zs)) ys n all) ∙ so_far

pub behind_done : (place : ℕ) (ys : List Code) (n : ℕ) (whole : List Item) → length ys ≤ n → behind place (map view_item (drop n ys)) ≡ whole → map view_item (drop n ys) ≡ whole
behind_done place ys n whole all so_far = at_drop_all (map view_item) ys n all ∙ sym (at_drop_all (λ zs. behind place (map view_item zs)) ys n all) ∙ so_far

pub ruleset ahead_laws = (ahead_turn, behind_turn, ahead_ends, behind_ends, ahead_done, behind_done)

pub rest_turn : (ys : List Code) (n : ℕ) (y : Code) (done more : List Code) (whole : List Item) → n < length ys → y ≡ get_or ys n y → more ≡ done ++ y ∷ []
    → map view_item done ++ map view_item (drop n ys) ≡ whole → map view_item more ++ map view_item (drop (n + 1) ys) ≡ whole
rest_turn ys n y done more whole in_list is grown so_far =
    let rest = map view_item (drop (n + 1) ys) in
    ap (λ us. map view_item us ++ rest) grown ∙ ap (λ us. us ++ rest) (map_push view_item done y) ∙ append_assoc (map view_item done) (view_item y ∷ []) rest
    ∙ ap (λ us. map view_item done ++ us) (sym (left_is ys n y in_list is)) ∙ so_far

pub rest_done : (ys : List Code) (n : ℕ) (done : List Code) (whole : List Item) → length ys ≤ n → map view_item done ++ map view_item (drop n ys) ≡ whole → map view_item done ≡ whole
rest_done ys n done whole all so_far = sym (append-nil (map view_item done)) ∙ sym (at_drop_all (λ zs. map view_item done ++ map view_item zs) ys n all) ∙ so_far

pub ruleset rest_laws = (rest_turn, rest_done)

-- three parts of a contract
pub three_parts : (so behind more : List Code) (xs ys zs front : List Item) → more ≡ so ++ behind → front ≡ xs → map view_item so ≡ front ++ ys → map view_item behind ≡ zs
    → map view_item more ≡ xs ++ (ys ++ zs)
three_parts so behind more xs ys zs front grown own middle back =
    ap (map view_item) grown ∙ map-append view_item so behind ∙ ap (λ us. us ++ map view_item behind) (middle ∙ ap (λ us. us ++ ys) own) ∙ ap (λ us. (xs ++ ys) ++ us) back ∙ append_assoc xs ys zs

-- one clause of the first sort more, with those of the second sort that stand before it
pub merge_turn : (xs ys : List Code) (i n k : ℕ) (x : Code) (done more : List Code) (so whole : List Item) → i < length xs → x ≡ get_or xs i x
    → so ≡ map view_item done ++ ahead (place_of (view_item x)) (map view_item (drop n ys)) → map view_item more ≡ so ++ view_item x ∷ []
    → map view_item (drop k ys) ≡ behind (place_of (view_item x)) (map view_item (drop n ys))
    → map view_item done ++ merged (map view_item (drop i xs)) (map view_item (drop n ys)) ≡ whole
    → map view_item more ++ merged (map view_item (drop (i + 1) xs)) (map view_item (drop k ys)) ≡ whole
merge_turn xs ys i n k x done more so whole in_list is put grown left so_far =
    let rest = merged (map view_item (drop (i + 1) xs)) (map view_item (drop k ys)) in
    let front = ahead (place_of (view_item x)) (map view_item (drop n ys)) in
    ap (λ us. us ++ rest) (grown ∙ ap (λ us. us ++ view_item x ∷ []) put) ∙ append_assoc (map view_item done ++ front) (view_item x ∷ []) rest
    ∙ append_assoc (map view_item done) front (view_item x ∷ rest)
    ∙ ap (λ us. map view_item done ++ (front ++ view_item x ∷ merged (map view_item (drop (i + 1) xs)) us)) left
    ∙ ap (λ us. map view_item done ++ merged us (map view_item (drop n ys))) (sym (left_is xs i x in_list is)) ∙ so_far

pub merge_done : (xs ys : List Code) (i n : ℕ) (done : List Code) (whole : List Item) → length xs ≤ i → map view_item done ++ merged (map view_item (drop i xs)) (map view_item (drop n ys)) ≡ whole
    → map view_item done ++ map view_item (drop n ys) ≡ whole
merge_done xs ys i n done whole all so_far = sym (at_drop_all (λ zs. map view_item done ++ merged (map view_item zs) (map view_item (drop n ys))) xs i all) ∙ so_far

pub ruleset merge_laws = (merge_turn, merge_done, map_push)
