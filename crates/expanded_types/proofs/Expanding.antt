-- A body whose calls are expanded gives what it gives with its calls, in the places of its parameters the arguments.
use Rattle.std.proofs.Common.{◌≡◌, ℕ, suc, ◌+◌, ◌-◌, ◌<◌, ◌≤◌, ◌==◌, nat_lt, Bool, true, false, not, ◌||◌, if◌then◌else◌, List, [], ◌∷◌, ◌++◌, length, append_assoc, take, slice_index_or, Option, Some, option_and_then, slice_get, refl, sym, ap, ◌∙◌, subst}
use Rattle.std.proofs.lemmas.Bool.{and_parts, and_from, false≢true, ltb-true, ltb-false}
use Rattle.typed_prog.specs.declared.types.CoreType.{CoreType}
use Rattle.acsl_trees.specs.declared.heads.Head.{Head}
use Rattle.acsl_trees.specs.declared.heads.Head.TheVariants as head
use Rattle.acsl_trees.specs.Tree.{Tree, Trees, node, stop, more, leaf, trees_of}
use Rattle.acsl_names.specs.declared.names.Definition.{Definition as Declared}
use Rattle.acsl_expand.specs.Expansion.{binds, around_kid, CallTrees, placed, node_tree, expand, expand_kids, nought}
use Rattle.c_runs.specs.TruthLaws.{Signatures, count_of, node_fits, binders_inside, is_well_formed, are_well_formed}
use Rattle.acsl_well_typed.specs.WellTyped.{What, an_integer, Known, Names, Binder, no_name, a_value, a_name, a_number, binder_of, names_in, binder_behind, kid_gives, called, alone, returned, gives, what_of, kids_give}
use Rattle.acsl_well_typed.specs.Definitions.{known_with}
use Rattle.expanded_types.proofs.Lists.{get_front, get_behind, get_after, node_given, more_given, more_made}
use Rattle.expanded_types.proofs.Silence.{is_silent, all_silent, alone_given, weaker, argument_at, as_many}

-- ---- binders

-- a binder is there where the head binds a name
abbrev Agree : Binder → (in_binder : Bool) → Type 0
Agree no_name false = Unit {0}
Agree no_name true = ⊥
Agree b true = Unit {0}
Agree b false = ⊥

agree : (h : Head) → Agree (binder_of h) (binds h)
agree head.Let = tt
agree (head.Every r) = tt
agree (head.Some r) = tt
agree h = tt

agree_behind : (b : Binder) (w : What) (u : Bool) → Agree b u → Agree (binder_behind b w) u
agree_behind a_value w true h = tt
agree_behind a_value w false h = absurd h
agree_behind no_name w u h = h
agree_behind (a_name v) w u h = h
agree_behind a_number w u h = h

-- a value of `\let` isn't the last kid
abbrev NotLast : Binder → Trees → Type 0
NotLast a_value (more t stop) = ⊥
NotLast _ _ = Unit {0}

not_last : (b : Binder) (w : What) (ks : Trees) → NotLast (binder_behind b w) ks
not_last a_value w ks = tt
not_last no_name w ks = tt
not_last (a_name v) w ks = tt
not_last a_number w ks = tt

kid_true : (b : Binder) (ks : Trees) (o : Option What) → kid_gives b ks true o ≡ o
kid_true no_name ks o = refl
kid_true a_value ks o = refl
kid_true (a_name w) ks o = refl
kid_true a_number stop o = refl
kid_true a_number (more t ks) o = refl

names_behind : (b : Binder) (ks : Trees) (front ns : Names) → names_in b ks (front ++ ns) ≡ front ++ names_in b ks ns
names_behind no_name ks front ns = refl
names_behind a_value ks front ns = refl
names_behind (a_name w) stop front ns = append_assoc front ns (w ∷ [])
names_behind (a_name w) (more t ks) front ns = refl
names_behind a_number stop front ns = append_assoc front ns (an_integer ∷ [])
names_behind a_number (more t ks) front ns = refl

one_longer : (ws : Names) (w : What) → length (ws ++ w ∷ []) ≡ suc (length ws)
one_longer [] w = refl
one_longer (a ∷ ws) w = ap suc (one_longer ws w)

around_is : (b : Binder) (t : Tree) (ks : Trees) (u : Bool) (outer inner : Names) (d : ℕ) → Agree b u → NotLast b (more t ks) → length (outer ++ inner) ≡ d
    → length (outer ++ names_in b ks inner) ≡ around_kid u ks d
around_is no_name t ks false outer inner d a n e = e
around_is no_name t ks true outer inner d a n e = absurd a
around_is a_value t stop u outer inner d a n e = absurd n
around_is a_value t (more s ks) true outer inner d a n e = e
around_is a_value t (more s ks) false outer inner d a n e = absurd a
around_is (a_name w) t stop true outer inner d a n e = ap length (sym (append_assoc outer inner (w ∷ []))) ∙ one_longer (outer ++ inner) w ∙ ap suc e
around_is (a_name w) t (more s ks) true outer inner d a n e = e
around_is (a_name w) t ks false outer inner d a n e = absurd a
around_is a_number t stop true outer inner d a n e = ap length (sym (append_assoc outer inner (an_integer ∷ []))) ∙ one_longer (outer ++ inner) an_integer ∙ ap suc e
around_is a_number t (more s ks) true outer inner d a n e = e
around_is a_number t ks false outer inner d a n e = absurd a

-- ---- heads that are left as they are

abbrev Stays : Head → Type 0
Stays (head.Name x) = ⊥
Stays (head.Call f) = ⊥
Stays h = Unit {0}

quiet_head : (l v : Bool) (s : Signatures) (d : ℕ) (h : Head) (ks : Trees) → v ≡ false → node_fits l v s d h ks ≡ true → not (binds h) ≡ true
quiet_head l v s d head.Let ks q e = let p = and_parts v (count_of ks == 2) e in absurd (false≢true (sym q ∙ p.0))
quiet_head l v s d (head.Every r) ks q e = let p = and_parts v _ e in absurd (false≢true (sym q ∙ p.0))
quiet_head l v s d (head.Some r) ks q e = let p = and_parts v _ e in absurd (false≢true (sym q ∙ p.0))
quiet_head l v s d h ks q e = refl

module _ (known : List Declared) (result : CoreType) (s : Signatures) where
  abbrev pub All : Known
  All = known_with true known result

  -- expanded calls of the first definitions give what the calls give, and bind no name where they are terms
  abbrev pub CallsKeep : (count : ℕ) → CallTrees → Type 0
  CallsKeep n b =
      (f : ℕ) (us : List What) (w : What) (ws : Names) (args : List Tree) → called (slice_get (take n known) f) us ≡ Some w
      → kids_give All ws no_name (trees_of args) ≡ Some us → all_silent (trees_of args) ≡ true
      → (what_of All ws (b f (length ws) args) ≡ Some w) × ((s f).is_term ≡ true → is_silent (b f (length ws) args) ≡ true)

  module _ (n : ℕ) (b : CallTrees) (keeps : CallsKeep n b) (res : CoreType) (less : (w : What) → returned res ≡ Some w → returned result ≡ Some w) (args : List Tree)
      (outer params : Names) (typed : kids_give All outer no_name (trees_of args) ≡ Some params) (quiet : all_silent (trees_of args) ≡ true) where
    abbrev First : Known
    First = known_with true (take n known) res

    abbrev pub Of : (v : Bool) → Names → What → Tree → Type 0
    Of v inner w t = (what_of All (outer ++ inner) t ≡ Some w) × (v ≡ false → is_silent t ≡ true)

    abbrev ex : ℕ → Tree → Tree
    ex d t = expand b args (length outer) d t

    abbrev ex_kids : ℕ → Bool → Trees → List Tree
    ex_kids d u ks = expand_kids b args (length outer) d u ks

    head_same : (h : Head) → Stays h → (ns ns' : Names) (us : List What) (w : What) → gives First ns h us ≡ Some w → gives All ns' h us ≡ Some w
    head_same (head.Name x) k ns ns' us w e = absurd k
    head_same (head.Call f) k ns ns' us w e = absurd k
    head_same head.Result k ns ns' us w e = let p = alone_given us (returned res) w e in subst (λ us. alone us (returned result) ≡ Some w) (sym p.0) (less w p.1)
    head_same h k ns ns' us w e = e

    same_node : (h : Head) (xs : List Tree) (d : ℕ) → Stays h → node_tree b args (length outer) d h xs ≡ node h (trees_of xs)
    same_node (head.Name x) xs d k = absurd k
    same_node (head.Call f) xs d k = absurd k
    same_node h xs d k = refl

    -- ---- a name

    in_front : (x : ℕ) (inner : Names) (w : What) → slice_get (params ++ inner) x ≡ Some w → x < length params
        → Of false inner w (slice_index_or args x nought)
    in_front x inner w e lt =
        let p = argument_at All outer args params x w typed quiet (get_front params inner x w e lt) in
        (weaker All outer inner (slice_index_or args x nought) w p.1 p.0, λ q. p.1)

    placed_is : (x : ℕ) (inner : Names) (w : What) (v : Bool) → slice_get (params ++ inner) x ≡ Some w → Of v inner w (placed args (length outer) x)
    placed_is x inner w v e = by (nat_lt x (length args)) refl
      where
        same : length params ≡ length args
        same = as_many All outer args params typed

        by : (t : Bool) → nat_lt x (length args) ≡ t
            → Of v inner w (if t then slice_index_or args x nought else leaf (head.Name ((x - length args) + length outer)))
        by true lt =
            let l = ltb-true x (length args) lt in
            let k : x < length params = subst (λ m. x < m) (sym same) l in
            let p = in_front x inner w e k in (p.0, λ q. p.1 refl)
        by false ge =
            let l = ltb-false x (length args) ge in
            let k : length params ≤ x = subst (λ m. m ≤ x) (sym same) l in
            let g = get_after outer inner (x - length params) w (get_behind params inner x w e k) in
            (subst (λ m. slice_get (outer ++ inner) ((x - m) + length outer) ≡ Some w) same g, λ q. refl)

    -- ---- trees

    abbrev Says : Tree → Type 0
    Says t =
        (l v : Bool) (d' d : ℕ) (inner : Names) (w : What) → length (outer ++ inner) ≡ d → what_of First (params ++ inner) t ≡ Some w → is_well_formed l v s d' t ≡ true
        → Of v inner w (ex d t)

    abbrev AllSay : Trees → Type 0
    AllSay ks =
        (r : Binder) (u : Bool) → Agree r u → NotLast r ks → (l v : Bool) (d' d : ℕ) (inner : Names) (us : List What) → length (outer ++ inner) ≡ d
        → kids_give First (params ++ inner) r ks ≡ Some us → are_well_formed l v s d' u ks ≡ true
        → (kids_give All (outer ++ inner) r (trees_of (ex_kids d u ks)) ≡ Some us) × (v ≡ false → all_silent (trees_of (ex_kids d u ks)) ≡ true)

    names_same : (r : Binder) (ks : Trees) (d : ℕ) (u : Bool) (ns : Names) → names_in r (trees_of (ex_kids d u ks)) ns ≡ names_in r ks ns
    names_same r stop d u ns = refl
    names_same no_name (more t ks) d u ns = refl
    names_same a_value (more t ks) d u ns = refl
    names_same (a_name w) (more t ks) d u ns = refl
    names_same a_number (more t ks) d u ns = refl

    stays : (h : Head) (ks : Trees) → AllSay ks → Stays h → NotLast (binder_of h) ks → (l v : Bool) → binders_inside v h ≡ v → (d' d : ℕ) (inner : Names) (w : What)
        → length (outer ++ inner) ≡ d → what_of First (params ++ inner) (node h ks) ≡ Some w → is_well_formed l v s d' (node h ks) ≡ true
        → Of v inner w (ex d (node h ks))
    stays h ks all k nl l v same d' d inner w e g f =
        let p = node_given (gives First (params ++ inner) h) (kids_give First (params ++ inner) (binder_of h) ks) w g in
        let q = and_parts (node_fits l v s d' h ks) (are_well_formed l (binders_inside v h) s d' (binds h) ks) f in
        let f' = subst (λ v. are_well_formed l v s d' (binds h) ks ≡ true) same q.1 in
        let r = all (binder_of h) (binds h) (agree h) nl l v d' d inner p.0 e p.1 f' in
        subst (Of v inner w) (sym (same_node h (ex_kids d (binds h) ks) d k)) (
          ap (option_and_then (gives All (outer ++ inner) h)) r.0 ∙ head_same h k (params ++ inner) (outer ++ inner) p.0 w p.2,
          (λ z. and_from (not (binds h)) (all_silent (trees_of (ex_kids d (binds h) ks))) (quiet_head l v s d' h ks z q.0) (r.1 z)),
        )

    mutual
      tree : (t : Tree) → Says t
      tree (node (head.Name x) ks) l v d' d inner w e g f =
          let p = node_given (gives First (params ++ inner) (head.Name x)) (kids_give First (params ++ inner) no_name ks) w g in
          placed_is x inner w v (alone_given p.0 (slice_get (params ++ inner) x) w p.2).1
      tree (node (head.Call c) ks) l v d' d inner w e g f =
          let p = node_given (gives First (params ++ inner) (head.Call c)) (kids_give First (params ++ inner) no_name ks) w g in
          let q = and_parts (node_fits l v s d' (head.Call c) ks) (are_well_formed l false s d' false ks) f in
          let t = and_parts (count_of ks == (s c).params) (v || (s c).is_term) q.0 in
          let r = trees ks no_name false tt tt l false d' d inner p.0 e p.1 q.1 in
          let k = keeps c p.0 w (outer ++ inner) (ex_kids d false ks) p.2 r.0 (r.1 refl) in
          let o : Of v inner w (b c (length (outer ++ inner)) (ex_kids d false ks)) = (k.0, λ z. k.1 (subst (λ v. (v || (s c).is_term) ≡ true) z t.1)) in
          subst (λ m. Of v inner w (b c m (ex_kids d false ks))) e o
      tree (node head.Let (more t stop)) l v d' d inner w e g f =
          let p = and_parts (node_fits l v s d' head.Let (more t stop)) (are_well_formed l v s d' true (more t stop)) f in
          absurd (false≢true (and_parts v false p.0).1)
      tree (node head.Let stop) l v d' d inner w e g f = absurd cc
      tree (node head.Let (more t (more u ks))) l v d' d inner w e g f =
          stays head.Let (more t (more u ks)) (trees (more t (more u ks))) tt tt l v refl d' d inner w e g f
      tree (node h ks) l v d' d inner w e g f = stays h ks (trees ks) tt tt l v refl d' d inner w e g f

      trees : (ks : Trees) → AllSay ks
      trees stop r u a n l v d' d inner us e g f = (g, λ z. refl)
      trees (more t ks) r u a n l v d' d inner us e g f =
          let p = more_given (kid_gives r ks true (what_of First (names_in r ks (params ++ inner)) t)) (λ w. kids_give First (params ++ inner) (binder_behind r w) ks) us g in
          let q = and_parts (is_well_formed l v s (around_kid u ks d') t) (are_well_formed l v s d' u ks) f in
          let first : what_of First (params ++ names_in r ks inner) t ≡ Some p.0 =
          ap (λ ns. what_of First ns t) (sym (names_behind r ks params inner)) ∙ sym (kid_true r ks (what_of First (names_in r ks (params ++ inner)) t)) ∙ p.2 in
          let x = tree t l v (around_kid u ks d') (around_kid u ks d) (names_in r ks inner) p.0 (around_is r t ks u outer inner d a n e) first q.0 in
          let rest = trees ks (binder_behind r p.0) u (agree_behind r p.0 u a) (not_last r p.0 ks) l v d' d inner p.1 e p.3 q.1 in
          let ks' = trees_of (ex_kids d u ks) in
          let t' = ex (around_kid u ks d) t in
          let same : what_of All (names_in r ks' (outer ++ inner)) t' ≡ Some p.0 =
          ap (λ ns. what_of All ns t') (names_same r ks d u (outer ++ inner) ∙ names_behind r ks outer inner) ∙ x.0 in (
            more_made (kid_gives r ks' true (what_of All (names_in r ks' (outer ++ inner)) t')) (λ w. kids_give All (outer ++ inner) (binder_behind r w) ks') p.0 p.1
                (kid_true r ks' (what_of All (names_in r ks' (outer ++ inner)) t') ∙ same) rest.0
                ∙ ap (λ us. Some us) (sym p.4),
            (λ z. and_from (is_silent t') (all_silent ks') (x.1 z) (rest.1 z)),
          )

    pub tree_keeps : (t : Tree) (l v : Bool) (d' d : ℕ) (inner : Names) (w : What) → length (outer ++ inner) ≡ d → what_of First (params ++ inner) t ≡ Some w
        → is_well_formed l v s d' t ≡ true → Of v inner w (ex d t)
    tree_keeps = tree
