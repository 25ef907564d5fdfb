-- A set that lies inside of those in force lets no cell change that they don't, where regions have no gaps.
use Rattle.std.proofs.Common.{◌≡◌, ℕ, ◌≤◌, Bool, true, false, ◌&&◌, ◌||◌, if◌then◌else◌, ℤ, pos, List, [], ◌∷◌, ◌++◌, map, Option, Some, None, refl, sym, ap, ◌∙◌, subst, arith}
use Rattle.std.specs.Prelude.{int_le, int_lt}
use Rattle.std.specs.List.{list_all, list_any}
use Rattle.std.proofs.lemmas.Int.{ints}
use Rattle.std.proofs.lemmas.Bool.{false≢true, and_parts}
use Rattle.wp_base.specs.declared.kinds.CellKind.{CellKind}
use Rattle.wp_base.specs.Blocks.{count, same_cell}
use Rattle.c_kinds.proofs.Converting.{test_le}
use Rattle.qed_terms.specs.Operators.{is_equal}
use Rattle.acsl_trees.specs.Tree.{Tree}
use Rattle.c_runs.specs.TruthStates.{Value, World as Labelled, span_of, cells_of, covers, is_negative}
use Rattle.c_runs.specs.TruthAllowed.{has_kind, lies_in}
use Rattle.c_runs.specs.Program.{Facts, Loop, Behavior}
use Rattle.c_runs.specs.States.{World, Here, Granted, seen}
use Rattle.c_runs.specs.Claims.{lets_cell, may_change, granted_by, granted_in, of_caller, in_body, in_loop, is_assumed}
use Rattle.goal_segments.specs.Sets.{first_cell, last_end, is_within, lets_region, lets_variable, region_inside, set_inside, own_or, own_loop, own_inside, loop_inside, some_inside, call_inside}
use Rattle.goal_segments.proofs.Including as plain
use Rattle.plain_runs.specs.Kept.{AllBelow}
use Rattle.plain_runs.proofs.Told.{equal_is}
use Rattle.typed_memories.proofs.Tests.{both_so, or_first, or_second}
use Rattle.typed_memories.proofs.CellKinds.{same_kind}
use Rattle.typed_memories.proofs.Tables.{test_lt, lt_test}
use Rattle.typed_runs.specs.Kept.{AllCounted}
use Rattle.typed_runs.proofs.Keeping.{le_then, callers_cells}
use Rattle.typed_modular.specs.Solid.{IsSolid, AllSolid, SetIsSolid, AllAreSolid}

-- ---- tests

pub or_cases : {P : Type 0} (a b : Bool) → (a || b) ≡ true → (a ≡ true → P) → (b ≡ true → P) → P
or_cases true b h f g = f refl
or_cases false b h f g = g h

-- what one of them is, which all are something else
any_of_all : {X : Type 0} (f g : X → Bool) (xs : List X) → list_any f xs ≡ true → list_all g xs ≡ true → (x : X) × (f x ≡ true) × (g x ≡ true)
any_of_all f g [] h all = absurd (false≢true h)
any_of_all f g (x ∷ xs) h all =
    let both = and_parts (g x) (list_all g xs) all in
    or_cases (f x) (list_any f xs) h (λ here. (x, here, both.0)) (λ later. any_of_all f g xs later both.1)

-- ---- regions

pub record Between (r : Value) (b o : ℤ) : Type 0 where
  pub block : (span_of r).block ≡ b
  pub first : int_le (first_cell r) o ≡ true
  pub last : int_lt o (last_end r) ≡ true

pub between : (r : Value) → IsSolid r → (b o : ℤ) → covers r b o ≡ true → Between r b o
between r solid b o h =
    let both = and_parts (is_equal (span_of r).block b) _ (sym (solid b o) ∙ h) in
    let ends = and_parts (int_le (first_cell r) o) (int_lt o (last_end r)) both.1 in
    record { block = equal_is (span_of r).block b both.0; first = ends.0; last = ends.1 }

-- what an inner region has between its ends, an outer one has
within_covers : (k : CellKind) (r q : Value) → IsSolid q → (b o : ℤ) → Between r b o → is_within k r q ≡ true → (covers q b o ≡ true) × (has_kind k q ≡ true)
within_covers k r q solid b o at h =
    let d = and_parts (has_kind k q && is_equal (span_of r).block (span_of q).block && int_le (first_cell q) (first_cell r)) (int_le (last_end r) (last_end q)) h in
    let c = and_parts (has_kind k q && is_equal (span_of r).block (span_of q).block) (int_le (first_cell q) (first_cell r)) d.0 in
    let a = and_parts (has_kind k q) (is_equal (span_of r).block (span_of q).block) c.0 in
    let same : is_equal (span_of q).block b ≡ true =
    subst (λ x. is_equal (span_of q).block x ≡ true) at.block (subst (λ x. is_equal x (span_of r).block ≡ true) (equal_is (span_of r).block (span_of q).block a.1)
    (subst (λ x. is_equal (span_of r).block x ≡ true) (sym (equal_is (span_of r).block (span_of q).block a.1)) a.1)) in
    let last = let x = test_lt o (last_end r) at.last in let y = test_le (last_end r) (last_end q) d.1 in lt_test o (last_end q) (omega (arith, ints, x, y)) in (
      solid b o ∙ both_so (is_equal (span_of q).block b) (int_le (first_cell q) o && int_lt o (last_end q)) same
          (both_so (int_le (first_cell q) o) (int_lt o (last_end q)) (le_then (first_cell q) (first_cell r) o c.1 at.first) last),
      a.0,
    )

within_lies : (k : CellKind) (r : Value) (qs : List Value) → AllSolid qs → (b o : ℤ) → Between r b o → list_any (is_within k r) qs ≡ true → lies_in qs k b o ≡ true
within_lies k r [] solid b o at h = absurd (false≢true h)
within_lies k r (q ∷ qs) solid b o at h =
    or_cases (is_within k r q) (list_any (is_within k r) qs) h
    (λ here. let c = within_covers k r q solid.0 b o at here in or_first (covers q b o && has_kind k q) (lies_in qs k b o) (both_so (covers q b o) (has_kind k q) c.0 c.1))
    (λ later. or_second (covers q b o && has_kind k q) (lies_in qs k b o) (within_lies k r qs solid.1 b o at later))

module _ (p : Facts) where
  -- a region that lies inside of a set lets nothing change that the set doesn't
  region_lets : (g : Granted) → AllSolid g.regions → (r : Value) → IsSolid r → (k : CellKind) (i : ℕ) (o : ℤ) → region_inside p g r ≡ true → covers r (pos i) o ≡ true → has_kind k r ≡ true
      → lets_cell k (pos i) o g ≡ true
  region_lets g solid r solid_r k i o inside c has =
      let at = between r solid_r (pos i) o c in
      let all : list_all (lets_region g r) (cells_of r) ≡ true =
      subst (λ b. (if is_negative b then lets_variable p g b else list_all (lets_region g r) (cells_of r)) ≡ true) at.block inside in
      let l = any_of_all (same_cell k) (lets_region g r) (cells_of r) has all in
      let same : k ≡ l.0 = same_kind k l.0 l.1 in
      or_cases (int_le (last_end r) (first_cell r) || int_le g.count (span_of r).block) (list_any (is_within l.0 r) g.regions) l.2
      (λ first. or_cases (int_le (last_end r) (first_cell r)) (int_le g.count (span_of r).block) first
      (λ none. let x = test_le (last_end r) (first_cell r) none in let y = test_le (first_cell r) o at.first in let z = test_lt o (last_end r) at.last in absurd (omega (arith, ints, x, y, z)))
      (λ newer. or_first (int_le g.count (pos i)) (lies_in g.regions k (pos i) o) (subst (λ b. int_le g.count b ≡ true) at.block newer)))
      (λ within. or_second (int_le g.count (pos i)) (lies_in g.regions k (pos i) o)
      (subst (λ l. lies_in g.regions l (pos i) o ≡ true) (sym same) (within_lies l.0 r g.regions solid (pos i) o at within)))

  -- regions that all lie inside of it
  regions_let : (g : Granted) → AllSolid g.regions → (rs : List Value) → AllSolid rs → (k : CellKind) (i : ℕ) (o : ℤ) → list_all (region_inside p g) rs ≡ true → lies_in rs k (pos i) o ≡ true
      → lets_cell k (pos i) o g ≡ true
  regions_let g solid [] s k i o inside h = absurd (false≢true h)
  regions_let g solid (r ∷ rs) s k i o inside h =
      let both = and_parts (region_inside p g r) (list_all (region_inside p g) rs) inside in
      or_cases (covers r (pos i) o && has_kind k r) (lies_in rs k (pos i) o) h
      (λ here. let c = and_parts (covers r (pos i) o) (has_kind k r) here in region_lets g solid r s.0 k i o both.0 c.0 c.1)
      (λ later. regions_let g solid rs s.1 k i o both.1 later)

  -- ---- sets

  abbrev pub SolidSets : List Granted → Type 0
  SolidSets [] = Unit {0}
  SolidSets (g ∷ gs) = AllSolid g.regions × SolidSets gs

  pub solid_both : (gs hs : List Granted) → SolidSets gs → SolidSets hs → SolidSets (gs ++ hs)
  solid_both [] hs a b = b
  solid_both (g ∷ gs) hs a b = (a.0, solid_both gs hs a.1 b)

  -- a set inside of one that was taken before
  inner_lets : (g c : Granted) → AllSolid g.regions → AllSolid c.regions → int_le g.count c.count ≡ true → list_all (region_inside p g) c.regions ≡ true
      → (k : CellKind) (i : ℕ) (o : ℤ) → lets_cell k (pos i) o c ≡ true → lets_cell k (pos i) o g ≡ true
  inner_lets g c solid solid_c le inside k i o h =
      or_cases (int_le c.count (pos i)) (lies_in c.regions k (pos i) o) h
      (λ newer. or_first (int_le g.count (pos i)) (lies_in g.regions k (pos i) o) (le_then g.count c.count (pos i) le newer))
      (λ lies. regions_let g solid c.regions solid_c k i o inside lies)

  set_lets : (gs : List Granted) (c : Granted) → SolidSets gs → AllSolid c.regions → AllCounted c.count gs → set_inside p gs c.regions ≡ true
      → (k : CellKind) (i : ℕ) (o : ℤ) → lets_cell k (pos i) o c ≡ true → may_change gs k (pos i) o ≡ true
  set_lets [] c solid solid_c counted inside k i o h = refl
  set_lets (g ∷ gs) c solid solid_c counted inside k i o h =
      let both = and_parts (list_all (region_inside p g) c.regions) (set_inside p gs c.regions) inside in
      both_so (lets_cell k (pos i) o g) (may_change gs k (pos i) o) (inner_lets g c solid.0 solid_c counted.0 both.0 k i o h) (set_lets gs c solid.1 solid_c counted.1 both.1 k i o h)

  -- ---- the set in force lets the same as all active sets

  pub record Agrees (gs hs : List Granted) : Type 0 where
    pub hidden : plain.Agrees p gs hs
    pub cells : (k : CellKind) (i : ℕ) (o : ℤ) → may_change gs k (pos i) o ≡ may_change hs k (pos i) o

  pub agrees_same : (gs : List Granted) → Agrees gs gs
  agrees_same gs = record { hidden = plain.agrees_same p gs; cells = λ k i o. refl }

  alone : (a b : Bool) → (a ≡ true → b ≡ true) → (a && true) ≡ (a && b)
  alone true b h = sym (h refl)
  alone false b h = refl

  -- the sets of a loop or of a call are taken where there are so many blocks
  abbrev pub TakenAt : ℤ → List Granted → Type 0
  TakenAt n [] = Unit {0}
  TakenAt n (g ∷ gs) = (g.count ≡ n) × TakenAt n gs

  abbrev IsOne : List Granted → Type 0
  IsOne [] = Unit {0}
  IsOne (g ∷ []) = Unit {0}
  IsOne (g ∷ f ∷ more) = ⊥

  own_cells : (n : ℤ) (gs hs own : List Granted) → ((k : CellKind) (i : ℕ) (o : ℤ) → may_change gs k (pos i) o ≡ may_change hs k (pos i) o) → SolidSets gs → SolidSets own → AllCounted n gs
      → TakenAt n own → IsOne own → own_inside p gs own ≡ true → (k : CellKind) (i : ℕ) (o : ℤ) → may_change (own_or own gs) k (pos i) o ≡ may_change (own ++ hs) k (pos i) o
  own_cells n gs hs [] same solid solid_own counted taken one inside k i o = same k i o
  own_cells n gs hs (g ∷ []) same solid solid_own counted taken one inside k i o =
      alone (lets_cell k (pos i) o g) (may_change hs k (pos i) o)
      (λ h. sym (same k i o) ∙ set_lets gs g solid solid_own.0 (subst (λ n. AllCounted n gs) (sym taken.0) counted) inside k i o h)
  own_cells n gs hs (g ∷ f ∷ more) same solid solid_own counted taken one inside k i o = absurd one

  by_one : (v : Labelled) (n : ℤ) (d : ℕ) (o : Option (List Tree)) → IsOne (granted_by p v n d o)
  by_one v n d None = tt
  by_one v n d (Some ts) = tt

  by_taken : (v : Labelled) (n : ℤ) (d : ℕ) (o : Option (List Tree)) → TakenAt n (granted_by p v n d o)
  by_taken v n d None = tt
  by_taken v n d (Some ts) = (refl, tt)

  pub by_solid : (v : Labelled) (n : ℤ) (d : ℕ) (o : Option (List Tree)) → SetIsSolid p v o → SolidSets (granted_by p v n d o)
  by_solid v n d None h = tt
  by_solid v n d (Some ts) h = (h, tt)

  pub own_or_solid : (own gs : List Granted) → SolidSets own → SolidSets gs → SolidSets (own_or own gs)
  own_or_solid [] gs a b = b
  own_or_solid (g ∷ more) gs a b = a

  pub own_or_counted : (n : ℤ) (own gs : List Granted) → AllCounted n own → AllCounted n gs → AllCounted n (own_or own gs)
  own_or_counted n [] gs a b = b
  own_or_counted n (g ∷ more) gs a b = a

  pub loop_agrees : (low : ℕ) (here : Here) (gs : List Granted) (l : Loop) (w : World) → low ≤ l.declared → Agrees gs here.granted → AllBelow low gs → SolidSets gs
      → AllCounted (count w.memory.blocks) gs
      → SetIsSolid p (in_body p (record here { loop_entry = seen p w }) w) l.assigns → loop_inside p (record here { granted = gs }) l w ≡ true
      → Agrees (own_loop p (record here { granted = gs }) l w).granted (in_loop p here l w).granted
  loop_agrees low here gs l w le a below solid counted own_solid inside =
      let v = in_body p (record here { loop_entry = seen p w }) w in
      let n = count w.memory.blocks in
      record {
        hidden = plain.loop_agrees p low here gs l w le a.hidden below inside;
        cells = own_cells n gs here.granted (granted_by p v n l.declared l.assigns) a.cells solid (by_solid v n l.declared l.assigns own_solid) counted (by_taken v n l.declared l.assigns)
            (by_one v n l.declared l.assigns) inside;
      }

  -- ---- in a function that is called

  parts_taken : (v : Labelled) (n : ℤ) (bs : List Behavior) → TakenAt n (granted_in p v n bs)
  parts_taken v n [] = tt
  parts_taken v n (b ∷ bs) = both (if is_assumed p v b then granted_by p v n 0 b.assigns else []) (granted_in p v n bs) (by (is_assumed p v b)) (parts_taken v n bs) where
    by : (t : Bool) → TakenAt n (if t then granted_by p v n 0 b.assigns else [])
    by true = by_taken v n 0 b.assigns
    by false = tt

    both : (gs hs : List Granted) → TakenAt n gs → TakenAt n hs → TakenAt n (gs ++ hs)
    both [] hs a b = b
    both (g ∷ gs) hs a b = (a.0, both gs hs a.1 b)

  pub parts_solid : (v : Labelled) (n : ℤ) (bs : List Behavior) → AllAreSolid p v bs → SolidSets (granted_in p v n bs)
  parts_solid v n [] h = tt
  parts_solid v n (b ∷ bs) h = solid_both (if is_assumed p v b then granted_by p v n 0 b.assigns else []) (granted_in p v n bs) (by (is_assumed p v b)) (parts_solid v n bs h.1) where
    by : (t : Bool) → SolidSets (if t then granted_by p v n 0 b.assigns else [])
    by true = by_solid v n 0 b.assigns h.0
    by false = tt

  -- a clause that lets the cell change lies inside
  some_lets : (n : ℤ) (g : Granted) (cs : List Granted) → AllSolid g.regions → SolidSets cs → int_le g.count n ≡ true → TakenAt n cs → some_inside p cs g ≡ true
      → (k : CellKind) (i : ℕ) (o : ℤ) → may_change cs k (pos i) o ≡ true → lets_cell k (pos i) o g ≡ true
  some_lets n g [] solid solid_cs le taken h k i o may = absurd (false≢true h)
  some_lets n g (c ∷ cs) solid solid_cs le taken h k i o may =
      let both = and_parts (lets_cell k (pos i) o c) (may_change cs k (pos i) o) may in
      or_cases (list_all (region_inside p g) c.regions) (some_inside p cs g) h
      (λ here. inner_lets g c solid solid_cs.0 (subst (λ n. int_le g.count n ≡ true) (sym taken.0) le) here k i o both.0)
      (λ later. some_lets n g cs solid solid_cs.1 le taken.1 later k i o both.1)

  call_lets : (n : ℤ) (gs cs : List Granted) → SolidSets gs → SolidSets cs → AllCounted n gs → TakenAt n cs → call_inside p gs cs ≡ true
      → (k : CellKind) (i : ℕ) (o : ℤ) → may_change cs k (pos i) o ≡ true → may_change gs k (pos i) o ≡ true
  call_lets n [] cs solid solid_cs counted taken h k i o may = refl
  call_lets n (g ∷ gs) cs solid solid_cs counted taken h k i o may =
      let both = and_parts (some_inside p cs g) (call_inside p gs cs) h in
      both_so (lets_cell k (pos i) o g) (may_change gs k (pos i) o) (some_lets n g cs solid.0 solid_cs counted.0 taken both.0 k i o may)
      (call_lets n gs cs solid.1 solid_cs counted.1 taken both.1 k i o may)

  may_both : (gs hs : List Granted) (k : CellKind) (b o : ℤ) → may_change (gs ++ hs) k b o ≡ (may_change gs k b o && may_change hs k b o)
  may_both [] hs k b o = refl
  may_both (g ∷ gs) hs k b o = ap (λ t. lets_cell k b o g && t) (may_both gs hs k b o) ∙ by (lets_cell k b o g) (may_change gs k b o) (may_change hs k b o) where
    by : (a b c : Bool) → (a && (b && c)) ≡ ((a && b) && c)
    by true b c = refl
    by false b c = refl

  pub call_agrees : (v : Labelled) (n : ℤ) (bs : List Behavior) (gs hs : List Granted) → Agrees gs hs → SolidSets gs → AllCounted n gs → AllAreSolid p v bs → AllBelow 0 (granted_in p v n bs)
      → call_inside p gs (granted_in p v n bs) ≡ true → Agrees (granted_in p v n bs ++ map of_caller []) (granted_in p v n bs ++ map of_caller hs)
  call_agrees v n bs gs hs a solid counted solid_own below inside =
      let own = granted_in p v n bs in
      record {
        hidden = plain.call_agrees p gs hs own a.hidden below inside;
        cells = λ k i o. may_both own [] k (pos i) o
            ∙ alone (may_change own k (pos i) o) (may_change (map of_caller hs) k (pos i) o)
            (λ may. callers_cells hs k (pos i) o ∙ sym (a.cells k i o) ∙ call_lets n gs own solid (parts_solid v n bs solid_own) counted (parts_taken v n bs) inside k i o may)
            ∙ sym (may_both own (map of_caller hs) k (pos i) o);
      }
