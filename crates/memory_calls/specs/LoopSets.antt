-- What a loop's own set asks for, and what its turns may change (ACSL 2.4.2).
use Rattle.std.specs.Prelude.{ℕ, Bool, true, false, not, ◌||◌, ◌&&◌, nat_lt, List, [], ◌∷◌, ◌++◌, map, Option, Some, None}
use Rattle.std.specs.List.{list_any}
use Rattle.wp_base.specs.declared.kinds.CellKind.{CellKind}
use Rattle.typed_prog.specs.declared.operators.Variable.{Variable}
use Rattle.typed_prog.specs.declared.operators.Variable.TheVariants as variables
use Rattle.acsl_trees.specs.Tree as acsl
use Rattle.acsl_trees.specs.declared.heads.Head.TheVariants as head
use Rattle.acsl_encode.specs.Readings as annotation
use Rattle.qed_terms.specs.Tree.{Tree, false_tree}
use Rattle.c_runs.specs.Program.{Behavior, Contract, Loop, Facts}
use Rattle.c_runs.specs.Tree.{Steps}
use Rattle.plain_runs.specs.Kept.{some_sets}
use Rattle.memory_words.specs.Shapes.{FileCells, Shape}
use Rattle.memory_words.specs.Readings.{Texts, Standpoint, body_reading}
use Rattle.memory_words.specs.Points.{Force, of_function, of_loop, Point, later}
use Rattle.memory_words.specs.Regions.{RegionTree, has_kind, regions_in, regions_inside}
use Rattle.memory_words.specs.Renewal.{Leave, of_all, of_regions}
use Rattle.memory_words.specs.Sets.{under, as_one_unless, has_variable, lacks, is_inside, since, entry_at, assumed_at}
use Rattle.memory_words.specs.Words.{entered_loop, own_kind}
use Rattle.memory_words.specs.Typed.{is_plain_variable}
use Rattle.memory_calls.specs.Havoc.{Havoc}

-- ---- regions that are variables

abbrev pub region_variable : acsl.Tree → Option Variable
region_variable (acsl.node (head.Region c) (acsl.more (acsl.node (head.Variable x) acsl.stop) acsl.stop)) = Some x
region_variable _ = None

module _ (p : Facts) (s : Shape) where
  -- a variable of the file that no pointer leads to, and that the clause doesn't name
  abbrev pub lacks_file : Option (List acsl.Tree) → Option Variable → Bool
  lacks_file set (Some (variables.Global x)) = is_plain_variable p s (variables.Global x) && lacks set (variables.Global x)
  lacks_file set o = false

  abbrev pub lacks_some : Option (List acsl.Tree) → (regions : List acsl.Tree) → Bool
  lacks_some set rs = list_any (λ a. lacks_file set (region_variable a)) rs

  -- one that neither the loop's set names nor the loop declares
  abbrev pub is_outside : (names : List acsl.Tree) → (declared : ℕ) → Option Variable → Bool
  is_outside ws d (Some x) = is_plain_variable p s x && not (has_variable ws x || is_inside d x)
  is_outside ws d None = false

  abbrev pub some_outside : (names : List acsl.Tree) → (declared : ℕ) → (regions : List acsl.Tree) → Bool
  some_outside ws d rs = list_any (λ a. is_outside ws d (region_variable a)) rs

-- ---- that it lies inside the set in force

-- `false` where a variable isn't let change, else the inclusion of the regions, if there are any
abbrev pub inside_by : (refused : Bool) → (since : Tree) → (around inner : List RegionTree) → List Tree
inside_by true e gs rs = false_tree ∷ []
inside_by false e gs [] = []
inside_by false e gs (r ∷ rs) = regions_inside e gs (r ∷ rs) ∷ []

module _ (p : Facts) (s : Shape) (cells : FileCells) (texts : Texts) where
  -- the loop is entered in the present state
  abbrev pub own_reading : Point → acsl.Tree → annotation.Reading
  own_reading pt = body_reading p s cells texts (entered_loop pt)

  abbrev pub clause_trees : Point → (is_plain : Bool) → Behavior → Option (List acsl.Tree) → (regions : List acsl.Tree) → List Tree
  clause_trees pt plain b None rs = []
  clause_trees pt plain b (Some ws) rs =
      map (under plain (assumed_at p s cells texts pt.stands b))
      (inside_by (lacks_some p s (Some ws) rs) (since pt.stands.entry) (regions_in (entry_at p s cells texts pt.stands) ws) (regions_in (own_reading pt) rs))

  abbrev pub all_clause_trees : Point → List Behavior → (regions : List acsl.Tree) → List Tree
  all_clause_trees pt [] rs = []
  all_clause_trees pt (b ∷ bs) rs = clause_trees pt false b b.assigns rs ++ all_clause_trees pt bs rs

  abbrev pub within : Contract → Point → Force → (regions : List acsl.Tree) → List Tree
  within c pt of_function rs =
      as_one_unless (lacks_some p s c.plain.assigns rs) (clause_trees pt true c.plain c.plain.assigns rs ++ all_clause_trees pt c.behaviors rs)
  within c pt (of_loop sp ws d) rs =
      inside_by (some_outside p s ws d rs) (since sp.here) (regions_in (body_reading p s cells texts sp) ws) (regions_in (own_reading pt) rs)

  -- a loop without a set of its own asks for nothing
  abbrev pub inside_trees : Contract → Point → Loop → List Tree
  inside_trees c pt l = by l.assigns where
    by : Option (List acsl.Tree) → List Tree
    by None = []
    by (Some rs) = within c pt pt.force rs

-- ---- what its turns may change

-- of the function's clauses the one outside behaviors counts; where there is none, all may change
pub data InForce : Type 0 where
  anything : InForce
  by_function : (regions : List acsl.Tree) → InForce
  by_loop : (entered : Standpoint) (regions : List acsl.Tree) → InForce
  by_own : (regions : List acsl.Tree) → InForce

abbrev pub in_force : Contract → Point → Loop → InForce
in_force c pt l = by l.assigns pt.force c.plain.assigns where
  by : Option (List acsl.Tree) → Force → Option (List acsl.Tree) → InForce
  by (Some rs) w o = by_own rs
  by None (of_loop sp rs d) o = by_loop sp rs
  by None of_function (Some rs) = by_function rs
  by None of_function None = anything

abbrev pub names : InForce → Option (List acsl.Tree)
names anything = None
names (by_function rs) = Some rs
names (by_loop sp rs) = Some rs
names (by_own rs) = Some rs

-- the locals that its own set names, or, where it has none, the ones that its text sets; of those that are declared before the loop
abbrev pub lets_local : Loop → Steps → (variable : ℕ) → Bool
lets_local l ss x = by l.assigns where
  by : Option (List acsl.Tree) → Bool
  by None = some_sets ss x
  by (Some rs) = has_variable rs (variables.Local x)

abbrev pub variable_changes : InForce → Loop → Steps → Variable → Bool
variable_changes w l ss (variables.Global x) = not (lacks (names w) (variables.Global x))
variable_changes w l ss (variables.Local x) = nat_lt x l.declared && lets_local l ss x

-- some region has cells of the kind
abbrev pub some_has : CellKind → List RegionTree → Bool
some_has k gs = list_any (has_kind k) gs

module _ (p : Facts) (s : Shape) (cells : FileCells) (texts : Texts) where
  -- Facts of memories stand three levels deeper than the loop's entry: the new list, the present state, and the one before the renewal are there besides.
  abbrev pub three_later : Standpoint → Standpoint
  three_later sp = later (later (later sp))

  abbrev pub set_regions : Point → InForce → List RegionTree
  set_regions pt anything = []
  set_regions pt (by_function rs) = regions_in (entry_at p s cells texts (three_later pt.stands)) rs
  set_regions pt (by_loop sp rs) = regions_in (body_reading p s cells texts (three_later sp)) rs
  set_regions pt (by_own rs) = regions_in (body_reading p s cells texts (three_later (entered_loop pt))) rs

  abbrev pub set_since : Point → InForce → Tree
  set_since pt anything = since 0
  set_since pt (by_function rs) = since (three_later pt.stands).entry
  set_since pt (by_loop sp rs) = since (three_later sp).here
  set_since pt (by_own rs) = since (three_later (entered_loop pt)).here

  abbrev pub is_own : InForce → Bool
  is_own (by_own rs) = true
  is_own w = false

  -- without a set of its own, also the kinds of the function's own blocks
  abbrev pub renewed_kind : Point → InForce → CellKind → Bool
  renewed_kind pt anything k = true
  renewed_kind pt w k = some_has k (set_regions pt w) || (not (is_own w) && own_kind s.variables k)

  abbrev pub leave_of : Point → InForce → Leave
  leave_of pt anything = of_all
  leave_of pt w = of_regions (set_since pt w ∷ []) (set_regions pt w)

  abbrev pub turns : Contract → Point → Loop → Steps → Havoc
  turns c pt l ss =
      let w = in_force c pt l in
      record { variables = variable_changes w l ss; kinds = renewed_kind pt w; leave = leave_of pt w }
