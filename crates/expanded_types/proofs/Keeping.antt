-- Calls of definitions, and whole annotations.
use Rattle.std.proofs.Common.{◌≡◌, ℕ, zero, suc, ◌<◌, ◌≤◌, ◌==◌, Bool, true, false, not, if◌then◌else◌, List, [], ◌∷◌, ◌++◌, length, append-nil, take, Option, Some, None, option_and_then, slice_get, refl, sym, ap, ◌∙◌, subst, arith, inl, inr, ⊎_elim, ◌⊎◌}
use Rattle.std.proofs.lemmas.Bool.{and_parts, eqb-true, eqb-false, ne_eqb}
use Rattle.typed_prog.specs.declared.types.CoreType.{CoreType}
use Rattle.typed_prog.specs.Types.{void}
use Rattle.acsl_trees.specs.declared.heads.Head.TheVariants as head
use Rattle.acsl_trees.specs.declared.operands.TermType.{TermType}
use Rattle.acsl_trees.specs.declared.operands.TermType.TheVariants as type
use Rattle.acsl_trees.specs.Tree.{Tree, node, trees_of}
use Rattle.acsl_names.specs.declared.names.Definition.{Definition as Declared}
use Rattle.acsl_expand.specs.Expansion.{Definition, definition_at, expand, call_tree, call_trees, nought}
use Rattle.c_runs.specs.TruthLaws.{Signatures, is_definition, are_definitions, is_well_formed, tests_number}
use Rattle.acsl_well_typed.specs.WellTyped.{What, an_integer, a_pointer, Names, no_name, one_more, types_give, result_gives, all_taken, called, returned, gives, what_of, kids_give}
use Rattle.acsl_well_typed.specs.Definitions.{known_with}
use Rattle.expanded_types.specs.Laws.{BodiesAreTyped, ExpansionKeepsTypes}
use Rattle.expanded_types.proofs.Lists.{take_less, take_get, get_take, take_whole}
use Rattle.expanded_types.proofs.Silence.{is_silent, all_silent}
use Rattle.expanded_types.proofs.Expanding.{All, CallsKeep, tree_keeps}

-- ---- arguments of a definition give what its parameters do

one_given : {X : Type 0} (x : X) (o : Option (List X)) (ws : List X) → one_more (Some x) o ≡ Some ws → (vs : List X) × (o ≡ Some vs) × (ws ≡ x ∷ vs)
one_given x (Some vs) ws e = (vs, refl, cc)
one_given x None ws e = absurd cc

taken_are : (ts : List TermType) (us ws : List What) → all_taken ts us ≡ true → types_give ts ≡ Some ws → us ≡ ws
taken_are [] [] [] e f = refl
taken_are [] [] (w ∷ ws) e f = absurd cc
taken_are (type.Integer ∷ ts) (an_integer ∷ us) ws e f =
    let g = one_given an_integer (types_give ts) ws f in ap (λ us. an_integer ∷ us) (taken_are ts us g.0 e g.1) ∙ sym g.2
taken_are (type.Pointer c ∷ ts) (a_pointer ∷ us) ws e f =
    let g = one_given a_pointer (types_give ts) ws f in ap (λ us. a_pointer ∷ us) (taken_are ts us g.0 e g.1) ∙ sym g.2
taken_are ts us ws e f = absurd cc

taken_all : (b : Bool) (o : Option What) (w : What) → (if b then o else None) ≡ Some w → (b ≡ true) × (o ≡ Some w)
taken_all true o w e = (refl, e)
taken_all false o w e = absurd cc

-- a call that gives something is one of a definition
called_one : (o : Option Declared) (us : List What) (w : What) → called o us ≡ Some w → (d : Declared) × (o ≡ Some d)
called_one (Some d) us w e = (d, refl)
called_one None us w e = absurd cc

-- an integer or a pointer
result_is : (o : Option TermType) (w : What) → result_gives o ≡ Some w → (w ≡ an_integer) ⊎ (w ≡ a_pointer)
result_is None w e = inl cc
result_is (Some type.Integer) w e = inl cc
result_is (Some (type.Pointer t)) w e = inr cc
result_is (Some type.Unknown) w e = absurd cc

some_same : {v w : What} → ◌≡◌ {A = Option What} (Some v) (Some w) → v ≡ w
some_same e = cc

-- a call of a definition that isn't among the first ones becomes 0
past : (ds : List Definition) (n f d : ℕ) (args : List Tree) → n ≤ f → call_trees ds n f d args ≡ nought
unfolding call_trees
past ds zero f d args le = refl
past ds (suc n) f d args le =
    let lower : n ≤ f = omega (arith, le) in
    ap (λ t. if t then call_tree (call_trees ds n) n (definition_at ds n) d args else call_trees ds n f d args) (ne_eqb f n (apart n f le)) ∙ past ds n f d args lower
  where
    apart : (n f : ℕ) → suc n ≤ f → f ≡ n → ⊥
    apart n f le e = omega (arith, le, e)

module _ (known : List Declared) (result : CoreType) (s : Signatures) (ds : List Definition) (bodies : BodiesAreTyped known ds) where
  fits_at : (n : ℕ) → are_definitions s ds (suc n) ≡ true → (is_definition s n (definition_at ds n) ≡ true) × (are_definitions s ds n ≡ true)
  fits_at n e = and_parts (is_definition s n (definition_at ds n)) (are_definitions s ds n) e

  -- a call of one of the first definitions, and not of the last one
  lower_call : (n f : ℕ) (us : List What) (w : What) → called (slice_get (take (suc n) known) f) us ≡ Some w → (f ≡ n → ⊥) → called (slice_get (take n known) f) us ≡ Some w
  lower_call n f us w e apart =
      let it = called_one (slice_get (take (suc n) known) f) us w e in
      let less : f < suc n = take_less (suc n) known f it.0 it.1 in
      let lower : f < n = below f n less apart in
      ap (λ o. called o us) (get_take n known f it.0 (take_get (suc n) known f it.0 it.1) lower ∙ sym it.1) ∙ e
    where
      below : (f n : ℕ) → f < suc n → (f ≡ n → ⊥) → f < n
      below f n l a = omega (arith, l, a)

  -- where it gives an integer, a call of the next definition may become 0
  own_keeps : (n : ℕ) (d : Declared) → slice_get known n ≡ Some d → result_gives d.result ≡ Some an_integer → CallsKeep known result s n (call_trees ds n)
      → CallsKeep known result s (suc n) (call_trees ds n)
  own_keeps n d found gives_so rest f us w ws args e typed quiet = by (f == n) refl
    where
      by : (t : Bool) → (f == n) ≡ t
          → (what_of (All known result s) ws (call_trees ds n f (length ws) args) ≡ Some w) × ((s f).is_term ≡ true → is_silent (call_trees ds n f (length ws) args) ≡ true)
      by true same =
          let i : f ≡ n = eqb-true f n same in
          let it = called_one (slice_get (take (suc n) known) f) us w e in
          let g : slice_get known f ≡ Some it.0 = take_get (suc n) known f it.0 it.1 in
          let c : called (Some d) us ≡ Some w = ap (λ o. called o us) (sym found ∙ ap (slice_get known) (sym i) ∙ g ∙ sym it.1) ∙ e in
          let w_is : an_integer ≡ w = some_same (sym gives_so ∙ (taken_all (all_taken d.params us) (result_gives d.result) w c).1) in
          let le : n ≤ f = omega (arith, i) in
          let z = past ds n f (length ws) args le in
          (ap (what_of (All known result s) ws) z ∙ ap (λ w. Some w) w_is, λ q. ap is_silent z)
      by false other = rest f us w ws args (lower_call n f us w e (eqb-false f n other)) typed quiet

  -- the definition itself
  this_call : (n : ℕ) → n < length ds → is_definition s n (definition_at ds n) ≡ true → CallsKeep known result s n (call_trees ds n)
      → (us : List What) (w : What) (ws : Names) (args : List Tree) → called (slice_get known n) us ≡ Some w
      → kids_give (All known result s) ws no_name (trees_of args) ≡ Some us → all_silent (trees_of args) ≡ true
      → (what_of (All known result s) ws (call_tree (call_trees ds n) n (definition_at ds n) (length ws) args) ≡ Some w)
      × ((s n).is_term ≡ true → is_silent (call_tree (call_trees ds n) n (definition_at ds n) (length ws) args) ≡ true)
  this_call n lt def keeps us w ws args e typed quiet = by (definition_at ds n).is_recursive refl
    where
      nothing : (w : What) → returned void ≡ Some w → ⊥
      nothing w e = absurd cc

      -- by so many definitions
      by_first : (m : ℕ) → CallsKeep known result s m (call_trees ds n) → (names : Names) → us ≡ names
          → what_of (known_with true (take m known) void) names (definition_at ds n).body ≡ Some w
          → (what_of (All known result s) ws (expand (call_trees ds n) args (length ws) (length ws) (definition_at ds n).body) ≡ Some w) ×
          ((s n).is_term ≡ true → is_silent (expand (call_trees ds n) args (length ws) (length ws) (definition_at ds n).body) ≡ true)
      by_first m kept names same is =
          let typed' = subst (λ us. kids_give (All known result s) ws no_name (trees_of args) ≡ Some us) same typed in
          let form = (and_parts (is_well_formed false (not (s n).is_term) s (s n).params (definition_at ds n).body)
          (if (definition_at ds n).is_recursive then tests_number (definition_at ds n).body else true) def).0 in
          let body : what_of (known_with true (take m known) void) (names ++ []) (definition_at ds n).body ≡ Some w =
          ap (λ ns. what_of (known_with true (take m known) void) ns (definition_at ds n).body) (append-nil names) ∙ is in
          let k = tree_keeps known result s m (call_trees ds n) kept void (λ w e. absurd (nothing w e)) args ws names typed' quiet (definition_at ds n).body false
          (not (s n).is_term) (s n).params (length ws) [] w (ap length (append-nil ws)) body form in (
            ap (λ ns. what_of (All known result s) ns (expand (call_trees ds n) args (length ws) (length ws) (definition_at ds n).body)) (sym (append-nil ws)) ∙ k.0,
            λ q. k.1 (ap not q),
          )

      by : (t : Bool) → (definition_at ds n).is_recursive ≡ t
          → (what_of (All known result s) ws (if t then node (head.Call n) (trees_of args) else expand (call_trees ds n) args (length ws) (length ws)
          (definition_at ds n).body) ≡ Some w)
          × ((s n).is_term ≡ true → is_silent (if t then node (head.Call n) (trees_of args) else expand (call_trees ds n) args (length ws) (length ws)
          (definition_at ds n).body) ≡ true)
      by true r = (ap (option_and_then (gives (All known result s) ws (head.Call n))) typed ∙ e, λ q. quiet)
      by false r =
          let x = bodies n lt r in
          let c : called (Some x.declared) us ≡ Some w = ap (λ o. called o us) (sym x.found) ∙ e in
          let t = taken_all (all_taken x.declared.params us) (result_gives x.declared.result) w c in
          let same = taken_are x.declared.params us x.names t.0 x.params in
          let g : x.given ≡ w = some_same (sym x.result ∙ t.1) in
          ⊎_elim
          (λ i. by_first (suc n) (own_keeps n x.declared x.found (x.result ∙ ap (λ w. Some w) i) keeps) x.names same (x.body ∙ ap (λ w. Some w) g))
          (λ i. by_first n keeps x.names same (x.pointers i ∙ ap (λ w. Some w) g)) (result_is x.declared.result x.given x.result)

  no_calls : CallsKeep known result s 0 (call_trees ds 0)
  unfolding call_trees
  no_calls f us w ws args e typed quiet = let p = called_one (slice_get (take 0 known) f) us w e in absurd (none f p.0 p.1)
    where
      none : (f : ℕ) (d : Declared) → slice_get (take 0 known) f ≡ Some d → ⊥
      none f d e = absurd cc

  one_more_keeps : (n : ℕ) → n < length ds → is_definition s n (definition_at ds n) ≡ true → CallsKeep known result s n (call_trees ds n)
      → CallsKeep known result s (suc n) (call_trees ds (suc n))
  unfolding call_trees
  one_more_keeps n now def rest f us w ws args e typed quiet = by (f == n) refl
    where
      it : (d : Declared) × (slice_get (take (suc n) known) f ≡ Some d)
      it = called_one (slice_get (take (suc n) known) f) us w e

      by : (t : Bool) → (f == n) ≡ t
          → (what_of (All known result s) ws (if t then call_tree (call_trees ds n) n (definition_at ds n) (length ws) args else call_trees ds n f (length ws) args) ≡ Some w)
          × ((s f).is_term ≡ true
          → is_silent (if t then call_tree (call_trees ds n) n (definition_at ds n) (length ws) args else call_trees ds n f (length ws) args) ≡ true)
      by true same =
          let i : f ≡ n = eqb-true f n same in
          let found : slice_get known f ≡ Some it.0 = take_get (suc n) known f it.0 it.1 in
          let c : called (slice_get known n) us ≡ Some w = ap (λ f. called (slice_get known f) us) (sym i) ∙ ap (λ o. called o us) (found ∙ sym it.1) ∙ e in
          let k = this_call n now def rest us w ws args c typed quiet in
          (k.0, λ q. k.1 (ap (λ f. (s f).is_term) (sym i) ∙ q))
      by false other = rest f us w ws args (lower_call n f us w e (eqb-false f n other)) typed quiet

  calls_keep : (n : ℕ) → n ≤ length ds → are_definitions s ds n ≡ true → CallsKeep known result s n (call_trees ds n)
  calls_keep zero le def = no_calls
  calls_keep (suc n) le def =
      let before : n ≤ length ds = omega (arith, le) in
      let now : n < length ds = omega (arith, le) in
      one_more_keeps n now (fits_at n def).0 (calls_keep n before (fits_at n def).1)

pub expansion_keeps_types : ExpansionKeepsTypes
expansion_keeps_types known result s ds same def bodies t w e f =
    let n = length ds in
    let whole : take n known ≡ known = ap (λ n. take n known) (sym same) ∙ take_whole known in
    let first : what_of (known_with true (take n known) result) [] t ≡ Some w = ap (λ ks. what_of (known_with true ks result) [] t) whole ∙ e in
    let le : n ≤ length ds = omega arith in
    (tree_keeps known result s n (call_trees ds n) (calls_keep known result s ds bodies n le def) result (λ w e. e) [] [] [] refl refl t true true 0 0 [] w refl first f).0
