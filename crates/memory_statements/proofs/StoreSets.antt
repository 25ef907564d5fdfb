-- What formulas of sets of cells mean.
use Rattle.std.proofs.Common.{◌≡◌, ℕ, Bool, true, false, ◌&&◌, ◌||◌, if◌then◌else◌, ℤ, List, [], ◌∷◌, ◌++◌, map, length, refl, sym, ap, ap₂, ◌∙◌, subst, inl, inr}
use Rattle.std.specs.Prelude.{int_le, int_lt}
use Rattle.std.specs.List.{list_any, list_all}
use Rattle.std.proofs.lemmas.Bool.{false≢true, and_parts}
use Rattle.wp_base.specs.declared.kinds.Kind.TheVariants as kind
use Rattle.wp_base.specs.declared.kinds.CellKind.{CellKind}
use Rattle.wp_base.specs.declared.kinds.CellKind.TheVariants as cell
use Rattle.wp_base.specs.Blocks.{same_cell}
use Rattle.qed_terms.specs.Meaning as sense
use Rattle.qed_terms.specs.Meaning.{value, truth, is_so, meanings, each_true, some_true}
use Rattle.qed_terms.specs.Operators.{is_equal}
use Rattle.qed_terms.specs.Tree.{Tree, trees_of, at_most}
use Rattle.c_runs.specs.TruthStates.{Value, span_of, cells_of, address_at, is_among, some_between, covers, is_negative}
use Rattle.c_runs.specs.TruthAllowed as allowed
use Rattle.c_runs.specs.TruthAllowed.{lies_in, is_named}
use Rattle.acsl_encode.specs.Meaning.{HasAddress}
use Rattle.acsl_encode.specs.Encode.{all_of}
use Rattle.acsl_encode.specs.Told.{those, every_cell}
use Rattle.c_runs.specs.Program.{Facts}
use Rattle.c_runs.specs.States.{Granted}
use Rattle.c_runs.proofs.Numbers.{equal_is}
use Rattle.goal_segments.specs.Sets.{first_cell, last_end, is_within, lets_region, lets_variable, region_inside}
use Rattle.typed_memories.proofs.Tests.{on_test, both_so, same_number, number_same}
use Rattle.typed_memories.proofs.CellKinds.{same_kind, kind_same}
use Rattle.walk_steps.specs.State.{In}
use Rattle.memory_words.specs.Regions as tree
use Rattle.memory_words.specs.Regions.{RegionTree, has_kind, of_kind, any_of, cell_in, cell_inside, region_within, kinds_of, region_trees, all_region_trees}
use Rattle.memory_statements.specs.Regions.{set_of, HasCells, HasEnds, AreRegions, no_more, has_cells, is_variable, AllHaveEnds, CellsInside, RegionsInside}

-- ---- truth values

or_none_else : (a : Bool) → (a || false) ≡ a
or_none_else true = refl
or_none_else false = refl

and_so : (a : Bool) → (a && true) ≡ a
and_so true = refl
and_so false = refl

or_turned : (a b : Bool) → (a || b) ≡ (b || a)
or_turned true true = refl
or_turned true false = refl
or_turned false true = refl
or_turned false false = refl

or_other : (a b c : Bool) → ((a || b) || c) ≡ (a || (b || c))
or_other true b c = refl
or_other false b c = refl

and_other : (a b c : Bool) → ((a && b) && c) ≡ (a && (b && c))
and_other true b c = refl
and_other false b c = refl

-- two tests that are so together
same_so : (a b : Bool) → (a ≡ true → b ≡ true) → (b ≡ true → a ≡ true) → a ≡ b
same_so true b f g = sym (f refl)
same_so false true f g = g refl
same_so false false f g = refl

equal_turned : (a b : ℤ) → is_equal a b ≡ is_equal b a
equal_turned a b =
    same_so (is_equal a b) (is_equal b a) (λ h. equal_is b a ∙ number_same b a (sym (same_number a b (sym (equal_is a b) ∙ h))))
    (λ h. equal_is a b ∙ number_same a b (sym (same_number b a (sym (equal_is b a) ∙ h))))

-- numbers of which one alone is negative
address_differs : (a b : ℤ) → is_negative a ≡ true → is_negative b ≡ false → is_equal a b ≡ false
address_differs a b h g =
    on_test (is_equal a b) (λ t. absurd (false≢true (sym g ∙ ap is_negative (sym (same_number a b (sym (equal_is a b) ∙ t))) ∙ h))) (λ f. f)

any_both : {X : Type 0} (p : X → Bool) (xs ys : List X) → list_any p (xs ++ ys) ≡ (list_any p xs || list_any p ys)
any_both p [] ys = refl
any_both p (x ∷ xs) ys = ap (λ b. p x || b) (any_both p xs ys) ∙ sym (or_other (p x) (list_any p xs) (list_any p ys))

all_both : {X : Type 0} (p : X → Bool) (xs ys : List X) → list_all p (xs ++ ys) ≡ (list_all p xs && list_all p ys)
all_both p [] ys = refl
all_both p (x ∷ xs) ys = ap (λ b. p x && b) (all_both p xs ys) ∙ sym (and_other (p x) (list_all p xs) (list_all p ys))

all_mapped : {X Y : Type 0} (p : Y → Bool) (f : X → Y) (xs : List X) → list_all p (map f xs) ≡ list_all (λ x. p (f x)) xs
all_mapped p f [] = refl
all_mapped p f (x ∷ xs) = ap (λ b. p (f x) && b) (all_mapped p f xs)

all_same : {X : Type 0} (p q : X → Bool) → ((x : X) → p x ≡ q x) → (xs : List X) → list_all p xs ≡ list_all q xs
all_same p q h xs = ap (λ f. list_all f xs) (λ i. λ x. h x i)

-- ---- kinds

every_kind : (k : CellKind) → In k every_cell
every_kind (cell.Of kind.Bool) = inl refl
every_kind (cell.Of kind.Char) = inr (inl refl)
every_kind (cell.Of kind.SChar) = inr (inr (inl refl))
every_kind (cell.Of kind.UChar) = inr (inr (inr (inl refl)))
every_kind (cell.Of kind.Short) = inr (inr (inr (inr (inl refl))))
every_kind (cell.Of kind.UShort) = inr (inr (inr (inr (inr (inl refl)))))
every_kind (cell.Of kind.Int) = inr (inr (inr (inr (inr (inr (inl refl))))))
every_kind (cell.Of kind.UInt) = inr (inr (inr (inr (inr (inr (inr (inl refl)))))))
every_kind (cell.Of kind.Long) = inr (inr (inr (inr (inr (inr (inr (inr (inl refl))))))))
every_kind (cell.Of kind.ULong) = inr (inr (inr (inr (inr (inr (inr (inr (inr (inl refl)))))))))
every_kind (cell.Of kind.LLong) = inr (inr (inr (inr (inr (inr (inr (inr (inr (inr (inl refl))))))))))
every_kind (cell.Of kind.ULLong) = inr (inr (inr (inr (inr (inr (inr (inr (inr (inr (inr (inl refl)))))))))))
every_kind cell.Ptr = inr (inr (inr (inr (inr (inr (inr (inr (inr (inr (inr (inr (inl refl))))))))))))

-- a test of those items that pass another one
one_of_those : {X : Type 0} (p q : X → Bool) (x : X) (xs : List X) → list_all p (those q xs) ≡ true → In x xs → q x ≡ true → p x ≡ true
one_of_those p q x [] h m so = absurd m
one_of_those p q x (y ∷ xs) h (inl e) so =
    let here = subst (λ y. q y ≡ true) e so in
    ap p e ∙ (and_parts (p y) (list_all p (those q xs)) (ap (λ b. list_all p (if b then y ∷ those q xs else those q xs)) (sym here) ∙ h)).0
one_of_those p q x (y ∷ xs) h (inr m) so =
    on_test (q y)
    (λ t. one_of_those p q x xs (and_parts (p y) (list_all p (those q xs)) (ap (λ b. list_all p (if b then y ∷ those q xs else those q xs)) (sym t) ∙ h)).1 m so)
    (λ t. one_of_those p q x xs (ap (λ b. list_all p (if b then y ∷ those q xs else those q xs)) (sym t) ∙ h) m so)

all_of_those : {X : Type 0} (p q : X → Bool) → ((x : X) → q x ≡ true → p x ≡ true) → (xs : List X) → list_all p (those q xs) ≡ true
all_of_those p q f [] = refl
all_of_those p q f (y ∷ xs) =
    on_test (q y)
    (λ t. ap (λ b. list_all p (if b then y ∷ those q xs else those q xs)) t ∙ both_so (p y) (list_all p (those q xs)) (f y t) (all_of_those p q f xs))
    (λ t. ap (λ b. list_all p (if b then y ∷ those q xs else those q xs)) t ∙ all_of_those p q f xs)

all_in_kinds : (p : CellKind → Bool) (ks : List CellKind) (k : CellKind) → list_all p ks ≡ true → list_any (same_cell k) ks ≡ true → p k ≡ true
all_in_kinds p [] k h g = absurd (false≢true g)
all_in_kinds p (l ∷ ks) k h g =
    let both = and_parts (p l) (list_all p ks) h in
    on_test (same_cell k l) (λ same. ap p (same_kind k l same) ∙ both.0)
    (λ other. all_in_kinds p ks k both.1 (ap (λ b. b || list_any (same_cell k) ks) (sym other) ∙ g))

kinds_all : (p : CellKind → Bool) (ks : List CellKind) → ((k : CellKind) → list_any (same_cell k) ks ≡ true → p k ≡ true) → list_all p ks ≡ true
kinds_all p [] f = refl
kinds_all p (l ∷ ks) f =
    both_so (p l) (list_all p ks) (f l (ap (λ b. b || list_any (same_cell l) ks) (kind_same l l refl)))
    (kinds_all p ks (λ k h. f k (on_test (same_cell k l) (λ t. ap (λ b. b || list_any (same_cell k) ks) t) (λ t. ap (λ b. b || list_any (same_cell k) ks) t ∙ h))))

-- in the order of kinds, each once
in_order : (p : CellKind → Bool) (ks : List CellKind) → list_all p (those (λ k. list_any (same_cell k) ks) every_cell) ≡ list_all p ks
in_order p ks =
    same_so _ _
    (λ h. kinds_all p ks (λ k so. one_of_those p (λ k. list_any (same_cell k) ks) k every_cell h (every_kind k) so))
    (λ h. all_of_those p (λ k. list_any (same_cell k) ks) (λ k so. all_in_kinds p ks k h so) every_cell)

module _ (m : sense.World) (env : sense.Values) where
  abbrev T : Tree → Bool
  T f = truth m env f

  abbrev V : Tree → ℤ
  V t = value m env t

  -- ---- several formulas

  some_told : (fs : List Tree) → some_true (map is_so (meanings m env (trees_of fs))) ≡ list_any T fs
  some_told [] = refl
  some_told (f ∷ fs) = ap (λ b. T f || b) (some_told fs)

  any_told : (fs : List Tree) → T (any_of fs) ≡ list_any T fs
  any_told [] = refl
  any_told (f ∷ []) = sym (or_none_else (T f))
  any_told (f ∷ g ∷ fs) = some_told (f ∷ g ∷ fs)

  each_told : (fs : List Tree) → each_true (map is_so (meanings m env (trees_of fs))) ≡ list_all T fs
  each_told [] = refl
  each_told (f ∷ fs) = ap (λ b. T f && b) (each_told fs)

  all_told : (fs : List Tree) → T (all_of fs) ≡ list_all T fs
  all_told [] = refl
  all_told (f ∷ []) = sym (and_so (T f))
  all_told (f ∷ g ∷ fs) = each_told (f ∷ g ∷ fs)

  -- ---- regions of a set

  module _ (P : RegionTree → Value → Type 0) (k : CellKind) (formula : RegionTree → Tree) (in_region : Value → Bool)
      (same : (g : RegionTree) (v : Value) → P g v → (if has_kind k g then T (formula g) else false) ≡ in_region v)
      (not_hidden : (v : Value) → is_negative (span_of v).block ≡ true → in_region v ≡ false) where
    -- some region of the kind
    some_region : (gs : List RegionTree) (vs : List Value) → AreRegions P gs vs → list_any T (map formula (of_kind k gs)) ≡ list_any in_region vs
    some_region _ _ no_more = refl
    some_region _ _ (has_cells {g} {gs} {v} {vs} h more) =
        on_test (has_kind k g)
        (λ t. ap (λ b. list_any T (map formula (if b then g ∷ of_kind k gs else of_kind k gs))) t
        ∙ ap₂ (λ a b. a || b) (ap (λ b. if b then T (formula g) else false) (sym t) ∙ same g v h) (some_region gs vs more))
        (λ t. ap (λ b. list_any T (map formula (if b then g ∷ of_kind k gs else of_kind k gs))) t
        ∙ some_region gs vs more
        ∙ ap (λ b. b || list_any in_region vs) (ap (λ b. if b then T (formula g) else false) (sym t) ∙ same g v h))
    some_region _ _ (is_variable {gs} {v} {vs} h more) = some_region gs vs more ∙ ap (λ b. b || list_any in_region vs) (sym (not_hidden v h))

  -- ---- cells

  kind_told : (k : CellKind) (g : RegionTree) (v : Value) → cells_of v ≡ g.cells → has_kind k g ≡ allowed.has_kind k v
  kind_told k g v e = ap (list_any (same_cell k)) (sym e)

  either_and : (s a b : Bool) → a ≡ b → (if s then a else false) ≡ (b && s)
  either_and true a b e = e ∙ sym (and_so b)
  either_and false a true e = refl
  either_and false a false e = refl

  module _ (k : CellKind) (b o : Tree) (address : HasAddress (V b)) where
    abbrev covers_it : Value → Bool
    covers_it v = covers v (V b) (V o) && allowed.has_kind k v

    lies_some : (vs : List Value) → lies_in vs k (V b) (V o) ≡ list_any covers_it vs
    lies_some [] = refl
    lies_some (v ∷ vs) = ap (λ t. covers_it v || t) (lies_some vs)

    cell_told : (g : RegionTree) (v : Value) → HasCells m env g v → (if has_kind k g then T (cell_in b o g) else false) ≡ covers_it v
    cell_told g v h =
        either_and (has_kind k g) (T (cell_in b o g)) (covers v (V b) (V o))
        (ap₂ (λ s t. s && (int_le (V g.low) (V o) && t)) (equal_turned (V b) (V g.block)) (and_so (int_lt (V o) (V g.high))) ∙ sym (h.covered (V b) (V o)))
        ∙ ap (λ t. covers v (V b) (V o) && t) (kind_told k g v h.kinds)

    hidden_covers : (v : Value) → is_negative (span_of v).block ≡ true → covers_it v ≡ false
    hidden_covers v h =
        ap (λ t. (t && some_between (span_of v).low (span_of v).high (λ i. is_among (length (cells_of v)) (address_at (span_of v) i) (V o))) && allowed.has_kind k v)
        (address_differs (span_of v).block (V b) h address)

    cell_inside_told : (e : Tree) (gs : List RegionTree) (vs : List Value) → AreRegions (HasCells m env) gs vs
        → T (cell_inside e gs k b o) ≡ (int_le (V e) (V b) || lies_in vs k (V b) (V o))
    cell_inside_told e gs vs are =
        any_told (map (cell_in b o) (of_kind k gs) ++ at_most e b ∷ [])
        ∙ any_both T (map (cell_in b o) (of_kind k gs)) (at_most e b ∷ [])
        ∙ ap₂ (λ s t. s || t) (some_region (HasCells m env) k (cell_in b o) covers_it cell_told hidden_covers gs vs are ∙ sym (lies_some vs)) (or_none_else (int_le (V e) (V b)))
        ∙ or_turned (lies_in vs k (V b) (V o)) (int_le (V e) (V b))

  -- ---- regions

  module _ (p : Facts) (e : Tree) (gs : List RegionTree) (vs : List Value) (are : AreRegions (HasEnds m env) gs vs) (d : ℕ) where
    abbrev set : Granted
    set = set_of vs (V e) d

    module _ (r : RegionTree) (u : Value) (ends : HasEnds m env r u) (address : HasAddress (V r.block)) where
      within_told : (k : CellKind) (g : RegionTree) (v : Value) → HasEnds m env g v → (if has_kind k g then T (region_within r g) else false) ≡ is_within k u v
      within_told k g v h =
          first_then (has_kind k g) (T (region_within r g)) _ (λ i. is_equal (sym ends.block i) (sym h.block i) && (int_le (sym h.first i) (sym ends.first i)
          && and_so (int_le (sym ends.last i) (sym h.last i)) i))
          ∙ ap (λ t. t && (is_equal (span_of u).block (span_of v).block && (int_le (first_cell v) (first_cell u) && int_le (last_end u) (last_end v))))
          (kind_told k g v h.cells.kinds)
          ∙ sym (and_other (allowed.has_kind k v) (is_equal (span_of u).block (span_of v).block) (int_le (first_cell v) (first_cell u) && int_le (last_end u) (last_end v)))
          ∙ sym (and_other (allowed.has_kind k v && is_equal (span_of u).block (span_of v).block) (int_le (first_cell v) (first_cell u)) (int_le (last_end u) (last_end v))) where
            first_then : (s a b : Bool) → a ≡ b → (if s then a else false) ≡ (s && b)
            first_then true a b e = e
            first_then false a b e = refl

      hidden_within : (k : CellKind) (v : Value) → is_negative (span_of v).block ≡ true → is_within k u v ≡ false
      hidden_within k v h =
          ap (λ t. (allowed.has_kind k v && t) && int_le (first_cell v) (first_cell u) && int_le (last_end u) (last_end v))
          (equal_turned (span_of u).block (span_of v).block ∙ address_differs (span_of v).block (span_of u).block h (ap is_negative ends.block ∙ address))
          ∙ ap (λ t. t && int_le (first_cell v) (first_cell u) && int_le (last_end u) (last_end v)) (and_not (allowed.has_kind k v)) where
            and_not : (a : Bool) → (a && false) ≡ false
            and_not true = refl
            and_not false = refl

      kind_inside_told : (k : CellKind) → T (tree.region_inside e gs r k) ≡ lets_region set u k
      kind_inside_told k =
          some_told (at_most r.high r.low ∷ at_most e r.block ∷ map (region_within r) (of_kind k gs))
          ∙ (λ i. int_le (sym ends.last i) (sym ends.first i) || (int_le (V e) (sym ends.block i)
          || some_region (HasEnds m env) k (region_within r) (is_within k u) (within_told k) (hidden_within k) gs vs are i))
          ∙ sym (or_other (int_le (last_end u) (first_cell u)) (int_le (V e) (span_of u).block) (list_any (is_within k u) vs))

      region_told : list_all T (region_trees e gs r) ≡ region_inside p set u
      region_told =
          all_mapped T (tree.region_inside e gs r) (kinds_of r) ∙ all_same (λ k. T (tree.region_inside e gs r k)) (lets_region set u) kind_inside_told (kinds_of r)
          ∙ in_order (lets_region set u) r.cells ∙ ap (list_all (lets_region set u)) (sym ends.cells.kinds)
          ∙ sym (ap (λ b. if is_negative b then lets_variable p set b else list_all (lets_region set u) (cells_of u)) ends.block
          ∙ ap (λ t. if t then lets_variable p set (V r.block) else list_all (lets_region set u) (cells_of u)) address)

    all_regions_told : (rs : List RegionTree) (us : List Value) → AllHaveEnds m env rs us → list_all T (all_region_trees e gs rs) ≡ list_all (region_inside p set) us
    all_regions_told [] [] h = refl
    all_regions_told [] (u ∷ us) h = absurd h
    all_regions_told (r ∷ rs) [] h = absurd h
    all_regions_told (r ∷ rs) (u ∷ us) h =
        all_both T (region_trees e gs r) (all_region_trees e gs rs) ∙ ap₂ (λ a b. a && b) (region_told r u h.0 h.1) (all_regions_told rs us h.2)

pub cells_inside : CellsInside
cells_inside m env e gs vs are k b o address d =
    cell_inside_told m env k b o address e gs vs are
    ∙ sym (ap (λ t. if t then is_named vs (value m env b) else int_le (value m env e) (value m env b) || lies_in vs k (value m env b) (value m env o)) address)

pub regions_inside : RegionsInside
regions_inside m env p e gs vs are rs us ends d = all_told m env (all_region_trees e gs rs) ∙ all_regions_told m env p e gs vs are d rs us ends
