-- Clauses one after another.
use Rattle.std.proofs.Common.{◌≡◌, ℕ, ◌+◌, ◌<◌, ◌≤◌, Bool, true, false, if◌then◌else◌, List, [], ◌∷◌, ◌++◌, map, length, drop, take, get_or, Option, Some, None, refl, sym, ap, ◌∙◌, append_assoc, append-nil}
use Rattle.std.specs.Option.{option_map}
use Rattle.std.specs.List.{filter_map, cons_option}
use Rattle.std.proofs.lemmas.List.{at_drop_more, at_drop_all, map_push, take_more, take_all}
use Rattle.acsl_trees.specs.declared.tree.Tree.{Tree as Code}
use Rattle.acsl_trees.specs.Tree.{Tree, view_tree}
use Rattle.acsl_clauses.specs.declared.typed.TypedClause.{TypedClause as CodeClause}
use Rattle.acsl_clauses.specs.Typed.{TypedClause, view_clause}
use Rattle.c_runs.specs.Program.{Behavior}
use Rattle.program_trees.specs.declared.contracts.Behavior.{Behavior as CodeBehavior}
use Rattle.program_trees.specs.View.{view_behavior}
use Rattle.c_programs.specs.Clauses.{first, or_else, assigns_line, assigns_line_in, begins_one, own, behavior_of, behaviors_of}

-- ---- what passes

one_more : {D Y : Type 0} (view : D → Y) (ys : List D) (o : Option D) → map view (ys ++ cons_option o []) ≡ map view ys ++ cons_option (option_map view o) []
one_more view ys None = ap (map view) (append-nil ys) ∙ sym (append-nil (map view ys))
one_more view ys (Some y) = map_push view ys y

moved : {Y : Type 0} (ys : List Y) (o : Option Y) (rest : List Y) → (ys ++ cons_option o []) ++ rest ≡ ys ++ cons_option o rest
moved ys None rest = ap (λ us. us ++ rest) (append-nil ys)
moved ys (Some y) rest = append_assoc ys (y ∷ []) rest

pub gather_turn : {C X D Y : Type 0} (f : X → Option Y) (see : C → X) (view : D → Y) (xs : List C) (i : ℕ) (x : C) (ys more : List D) (o : Option D) (whole : List Y) → i < length xs → x ≡ get_or xs i x
    → option_map view o ≡ f (see x) → more ≡ ys ++ cons_option o [] → map view ys ++ filter_map f (map see (drop i xs)) ≡ whole → map view more ++ filter_map f (map see (drop (i + 1) xs)) ≡ whole
gather_turn f see view xs i x ys more o whole in_list is made grown so_far =
    let rest = filter_map f (map see (drop (i + 1) xs)) in
    ap (λ us. map view us ++ rest) grown ∙ ap (λ us. us ++ rest) (one_more view ys o) ∙ moved (map view ys) (option_map view o) rest ∙ ap (λ u. map view ys ++ cons_option u rest) made
    ∙ ap (λ us. map view ys ++ us) (sym (at_drop_more (λ zs. filter_map f (map see zs)) xs i x in_list ∙ ap (λ z. cons_option (f (see z)) rest) (sym is))) ∙ so_far

pub gather_done : {C X D Y : Type 0} (f : X → Option Y) (see : C → X) (view : D → Y) (xs : List C) (i : ℕ) (ys : List D) (whole : List Y) → length xs ≤ i → map view ys ++ filter_map f (map see (drop i xs)) ≡ whole → map view ys ≡ whole
gather_done f see view xs i ys whole all so_far = sym (append-nil (map view ys)) ∙ sym (at_drop_all (λ zs. map view ys ++ filter_map f (map see zs)) xs i all) ∙ so_far

pub ruleset gather_laws = (gather_turn, gather_done)

-- ---- copies

pub copy_turn : (xs : List Code) (i : ℕ) (x : Code) (ys more : List Code) (whole : List Tree) → i < length xs → x ≡ get_or xs i x → more ≡ ys ++ x ∷ []
    → map view_tree ys ++ map view_tree (drop i xs) ≡ whole → map view_tree more ++ map view_tree (drop (i + 1) xs) ≡ whole
copy_turn xs i x ys more whole in_list is grown so_far =
    let rest = map view_tree (drop (i + 1) xs) in
    ap (λ us. map view_tree us ++ rest) grown ∙ ap (λ us. us ++ rest) (map_push view_tree ys x) ∙ append_assoc (map view_tree ys) (view_tree x ∷ []) rest
    ∙ ap (λ us. map view_tree ys ++ us) (sym (at_drop_more (map view_tree) xs i x in_list ∙ ap (λ z. view_tree z ∷ rest) (sym is))) ∙ so_far

pub copy_done : (xs : List Code) (i : ℕ) (ys : List Code) (whole : List Tree) → length xs ≤ i → map view_tree ys ++ map view_tree (drop i xs) ≡ whole → map view_tree ys ≡ whole
copy_done xs i ys whole all so_far = sym (append-nil (map view_tree ys)) ∙ sym (at_drop_all (λ zs. map view_tree ys ++ map view_tree zs) xs i all) ∙ so_far

pub ruleset copy_laws = (copy_turn, copy_done)

-- ---- the first one

module _ {C X D Y : Type 0} (f : X → Option Y) (see : C → X) (view : D → Y) where
  one_left : (xs : List C) (i : ℕ) (x : C) (o : Option D) → i < length xs → x ≡ get_or xs i x → option_map view o ≡ f (see x)
      → first f (map see (drop i xs)) ≡ or_else (option_map view o) (first f (map see (drop (i + 1) xs)))
  one_left xs i x o in_list is made =
      at_drop_more (λ zs. first f (map see zs)) xs i x in_list ∙ ap (λ z. or_else (f (see z)) (first f (map see (drop (i + 1) xs)))) (sym is)
      ∙ ap (λ u. or_else u (first f (map see (drop (i + 1) xs)))) (sym made)

  pub first_turn : (xs : List C) (i : ℕ) (x : C) (o : Option D) (whole : Option Y) → i < length xs → x ≡ get_or xs i x → option_map view o ≡ f (see x) → o ≡ None
      → first f (map see (drop i xs)) ≡ whole → first f (map see (drop (i + 1) xs)) ≡ whole
  first_turn xs i x o whole in_list is made none so_far =
      ap (λ u. or_else (option_map view u) (first f (map see (drop (i + 1) xs)))) (sym none) ∙ sym (one_left xs i x o in_list is made) ∙ so_far

  pub first_found : (xs : List C) (i : ℕ) (x : C) (y : D) (whole : Option Y) → i < length xs → x ≡ get_or xs i x → Some (view y) ≡ f (see x)
      → first f (map see (drop i xs)) ≡ whole → Some (view y) ≡ whole
  first_found xs i x y whole in_list is made so_far = sym (one_left xs i x (Some y) in_list is made) ∙ so_far

  pub first_done : (xs : List C) (i : ℕ) (whole : Option Y) → length xs ≤ i → first f (map see (drop i xs)) ≡ whole → None ≡ whole
  first_done xs i whole all so_far = sym (at_drop_all (λ zs. first f (map see zs)) xs i all) ∙ so_far

pub ruleset first_laws = (first_turn, first_found, first_done)

-- the line of the first one on what is assigned

same_line : (o : Option ℕ) → option_map (λ l. l) o ≡ o
same_line None = refl
same_line (Some l) = refl

pub line_turn : (xs : List CodeClause) (i : ℕ) (x : CodeClause) (o : Option ℕ) (whole : Option ℕ) → i < length xs → x ≡ get_or xs i x → o ≡ assigns_line (view_clause x) → o ≡ None
    → assigns_line_in (map view_clause (drop i xs)) ≡ whole → assigns_line_in (map view_clause (drop (i + 1) xs)) ≡ whole
line_turn xs i x o whole in_list is made none so_far = first_turn assigns_line view_clause (λ l. l) xs i x o whole in_list is (same_line o ∙ made) none so_far

pub line_found : (xs : List CodeClause) (i : ℕ) (x : CodeClause) (line : ℕ) (whole : Option ℕ) → i < length xs → x ≡ get_or xs i x → Some line ≡ assigns_line (view_clause x)
    → assigns_line_in (map view_clause (drop i xs)) ≡ whole → Some line ≡ whole
line_found xs i x line whole in_list is made so_far = first_found assigns_line view_clause (λ l. l) xs i x line whole in_list is made so_far

pub line_done : (xs : List CodeClause) (i : ℕ) (whole : Option ℕ) → length xs ≤ i → assigns_line_in (map view_clause (drop i xs)) ≡ whole → None ≡ whole
line_done xs i whole all so_far = first_done assigns_line view_clause (λ (l : ℕ). l) xs i whole all so_far

pub ruleset line_laws = (line_turn, line_found, line_done)

-- ---- parts of contracts

own_left : (xs : List CodeClause) (i : ℕ) (x : CodeClause) (b : Bool) → i < length xs → x ≡ get_or xs i x → b ≡ begins_one (view_clause x).said
    → own (map view_clause (drop i xs)) ≡ (if b then [] else view_clause x ∷ own (map view_clause (drop (i + 1) xs)))
own_left xs i x b in_list is made =
    at_drop_more (λ zs. own (map view_clause zs)) xs i x in_list
    ∙ ap (λ z. if begins_one (view_clause z).said then [] else view_clause z ∷ own (map view_clause (drop (i + 1) xs))) (sym is)
    ∙ ap (λ u. if u then [] else view_clause x ∷ own (map view_clause (drop (i + 1) xs))) (sym made)

pub own_turn : (xs : List CodeClause) (i : ℕ) (x : CodeClause) (b : Bool) (whole : List TypedClause) → i < length xs → x ≡ get_or xs i x → b ≡ begins_one (view_clause x).said → b ≡ false
    → map view_clause (take i xs) ++ own (map view_clause (drop i xs)) ≡ whole → map view_clause (take (i + 1) xs) ++ own (map view_clause (drop (i + 1) xs)) ≡ whole
own_turn xs i x b whole in_list is made fails_so so_far =
    let rest = own (map view_clause (drop (i + 1) xs)) in
    ap (λ us. map view_clause us ++ rest) (take_more xs i x in_list) ∙ ap (λ z. map view_clause (take i xs ++ z ∷ []) ++ rest) (sym is)
    ∙ ap (λ us. us ++ rest) (map_push view_clause (take i xs) x) ∙ append_assoc (map view_clause (take i xs)) (view_clause x ∷ []) rest
    ∙ ap (λ us. map view_clause (take i xs) ++ us) (ap (λ u. if u then [] else view_clause x ∷ rest) (sym fails_so) ∙ sym (own_left xs i x b in_list is made)) ∙ so_far

pub own_found : (xs : List CodeClause) (i : ℕ) (x : CodeClause) (b : Bool) (whole : List TypedClause) → i < length xs → x ≡ get_or xs i x → b ≡ begins_one (view_clause x).said → b ≡ true
    → map view_clause (take i xs) ++ own (map view_clause (drop i xs)) ≡ whole → map view_clause (take i xs) ≡ whole
own_found xs i x b whole in_list is made holds_so so_far =
    let rest = own (map view_clause (drop (i + 1) xs)) in
    sym (append-nil (map view_clause (take i xs)))
    ∙ ap (λ us. map view_clause (take i xs) ++ us) (ap (λ u. if u then [] else view_clause x ∷ rest) (sym holds_so) ∙ sym (own_left xs i x b in_list is made)) ∙ so_far

pub own_done : (xs : List CodeClause) (i : ℕ) (whole : List TypedClause) → length xs ≤ i → map view_clause (take i xs) ++ own (map view_clause (drop i xs)) ≡ whole → map view_clause xs ≡ whole
own_done xs i whole all so_far =
    sym (append-nil (map view_clause xs)) ∙ sym (at_drop_all (λ zs. map view_clause xs ++ own (map view_clause zs)) xs i all)
    ∙ ap (λ us. map view_clause us ++ own (map view_clause (drop i xs))) (sym (take_all i xs all)) ∙ so_far

pub ruleset own_laws = (own_turn, own_found, own_done)

behaviors_left : (xs : List CodeClause) (i : ℕ) (x : CodeClause) (b : Bool) → i < length xs → x ≡ get_or xs i x → b ≡ begins_one (view_clause x).said
    → behaviors_of (map view_clause (drop i xs))
    ≡ (if b then behavior_of (own (map view_clause (drop (i + 1) xs))) ∷ behaviors_of (map view_clause (drop (i + 1) xs)) else behaviors_of (map view_clause (drop (i + 1) xs)))
behaviors_left xs i x b in_list is made =
    let rest = map view_clause (drop (i + 1) xs) in
    at_drop_more (λ zs. behaviors_of (map view_clause zs)) xs i x in_list
    ∙ ap (λ z. if begins_one (view_clause z).said then behavior_of (own rest) ∷ behaviors_of rest else behaviors_of rest) (sym is)
    ∙ ap (λ u. if u then behavior_of (own rest) ∷ behaviors_of rest else behaviors_of rest) (sym made)

pub behavior_turn : (xs : List CodeClause) (i : ℕ) (x : CodeClause) (b : Bool) (found more : List CodeBehavior) (y : CodeBehavior) (section : List TypedClause) (whole : List Behavior) → i < length xs → x ≡ get_or xs i x
    → b ≡ begins_one (view_clause x).said → b ≡ true → section ≡ own (map view_clause (drop (i + 1) xs)) → view_behavior y ≡ behavior_of section → more ≡ found ++ y ∷ []
    → map view_behavior found ++ behaviors_of (map view_clause (drop i xs)) ≡ whole → map view_behavior more ++ behaviors_of (map view_clause (drop (i + 1) xs)) ≡ whole
behavior_turn xs i x b found more y section whole in_list is made holds_so its got grown so_far =
    let rest = map view_clause (drop (i + 1) xs) in
    ap (λ us. map view_behavior us ++ behaviors_of rest) grown ∙ ap (λ us. us ++ behaviors_of rest) (map_push view_behavior found y)
    ∙ append_assoc (map view_behavior found) (view_behavior y ∷ []) (behaviors_of rest) ∙ ap (λ u. map view_behavior found ++ u ∷ behaviors_of rest) (got ∙ ap behavior_of its)
    ∙ ap (λ us. map view_behavior found ++ us)
    (ap (λ u. if u then behavior_of (own rest) ∷ behaviors_of rest else behaviors_of rest) (sym holds_so) ∙ sym (behaviors_left xs i x b in_list is made)) ∙ so_far

pub behavior_skip : (xs : List CodeClause) (i : ℕ) (x : CodeClause) (b : Bool) (found : List CodeBehavior) (whole : List Behavior) → i < length xs → x ≡ get_or xs i x
    → b ≡ begins_one (view_clause x).said → b ≡ false
    → map view_behavior found ++ behaviors_of (map view_clause (drop i xs)) ≡ whole → map view_behavior found ++ behaviors_of (map view_clause (drop (i + 1) xs)) ≡ whole
behavior_skip xs i x b found whole in_list is made fails_so so_far =
    let rest = map view_clause (drop (i + 1) xs) in
    ap (λ us. map view_behavior found ++ us)
    (ap (λ u. if u then behavior_of (own rest) ∷ behaviors_of rest else behaviors_of rest) (sym fails_so) ∙ sym (behaviors_left xs i x b in_list is made)) ∙ so_far

pub behavior_done : (xs : List CodeClause) (i : ℕ) (found : List CodeBehavior) (whole : List Behavior) → length xs ≤ i → map view_behavior found ++ behaviors_of (map view_clause (drop i xs)) ≡ whole
    → map view_behavior found ≡ whole
behavior_done xs i found whole all so_far =
    sym (append-nil (map view_behavior found)) ∙ sym (at_drop_all (λ zs. map view_behavior found ++ behaviors_of (map view_clause zs)) xs i all) ∙ so_far

pub ruleset behavior_laws = (behavior_turn, behavior_skip, behavior_done)
