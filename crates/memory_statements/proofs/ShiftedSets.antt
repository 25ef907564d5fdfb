-- What is asked before a write, where one more state is remembered.
use Rattle.std.proofs.Common.{◌≡◌, ℕ, suc, ℤ, Bool, true, false, ◌&&◌, ◌||◌, if◌then◌else◌, List, [], ◌∷◌, ◌++◌, map, Option, Some, None, refl, sym, ap, ap₂, ◌∙◌}
use Rattle.std.specs.Option.{option_map}
use Rattle.wp_base.specs.declared.kinds.CellKind.{CellKind}
use Rattle.typed_prog.specs.declared.operators.Variable.{Variable}
use Rattle.typed_prog.specs.declared.operators.Variable.TheVariants as variables
use Rattle.acsl_trees.specs.Tree as acsl
use Rattle.acsl_encode.specs.Readings as annotation
use Rattle.acsl_encode.specs.Readings.{Terms, integer, truth, address, variable, elements, region, nothing}
use Rattle.acsl_encode.specs.Encode.{terms_of, all_of, formula_of}
use Rattle.qed_terms.specs.Meaning as sense
use Rattle.qed_terms.specs.Tree as tree
use Rattle.qed_terms.specs.Tree.{Tree, num, at_most, false_tree, imp_of, trees_of}
use Rattle.qed_terms.specs.declared.head.Head.TheVariants as th
use Rattle.c_runs.specs.Program.{Behavior, Contract, Facts}
use Rattle.memory_steps.specs.State.{State}
use Rattle.memory_steps.specs.World.{count_of}
use Rattle.memory_words.specs.Shapes.{FileCells, Shape}
use Rattle.memory_words.specs.Readings.{Texts, Standpoint, body_reading}
use Rattle.memory_words.specs.Points.{Force, of_function, of_loop, Open, Out, Point, later, at_present, remembered}
use Rattle.memory_words.specs.Regions.{RegionTree, region_in, regions_in, has_kind, of_kind, any_of, cell_in, cell_inside}
use Rattle.memory_words.specs.Sets.{or_none, claim_tree, assumed_tree, under, as_one, as_one_unless, lacks, has_variable, is_inside, since, assumed_at, entry_at}
use Rattle.memory_words.specs.Sets.{missing_in, missing_all, variable_trees, set_tree, clause_trees, all_clause_trees, cell_trees}
use Rattle.memory_words.specs.Placed.{all_told}
use Rattle.memory_statements.proofs.ShiftedTrees.{later_tree, later_list, later_truth}
use Rattle.memory_statements.proofs.ShiftedHeads.{later_terms, later_reading}
use Rattle.memory_statements.proofs.ShiftedTerms.{BindersMarked, later_annotation, later_claim, later_all_of}
use Rattle.memory_statements.proofs.ShiftedReadings.{binders_marked, later_table_leaf, later_body_reading, later_entry_reading}

-- ---- lists

joined : {X Y : Type 0} (g : X → Y) (xs ys : List X) → map g xs ++ map g ys ≡ map g (xs ++ ys)
joined g [] ys = refl
joined g (x ∷ xs) ys = ap (λ l. g x ∷ l) (joined g xs ys)

mapped : {X : Type 0} (f f' : X → Tree) → ((x : X) → f' x ≡ later_tree (f x)) → (xs : List X) → map f' xs ≡ map later_tree (map f xs)
mapped f f' h [] = refl
mapped f f' h (x ∷ xs) = ap₂ (λ t ts. t ∷ ts) (h x) (mapped f f' h xs)

-- ---- regions

abbrev later_region : RegionTree → RegionTree
later_region g = record { cells = g.cells; block = later_tree g.block; low = later_tree g.low; high = later_tree g.high }

later_region_in : (t : Terms) → region_in (later_terms t) ≡ map later_region (region_in t)
later_region_in (integer k t) = refl
later_region_in (truth f) = refl
later_region_in (address b o) = refl
later_region_in (variable x) = refl
later_region_in (elements b o n low high) = refl
later_region_in (region ks b low high) = refl
later_region_in nothing = refl

-- two readings of an annotation, the second one a level later
abbrev AreLater : (r r' : acsl.Tree → annotation.Reading) → Type 0
AreLater r r' = ((a : acsl.Tree) → r' a ≡ later_reading (r a)) × ((a : acsl.Tree) → BindersMarked (r a))

module _ (r r' : acsl.Tree → annotation.Reading) (are : AreLater r r') where
  later_regions : (as_ : List acsl.Tree) → regions_in r' as_ ≡ map later_region (regions_in r as_)
  later_regions [] = refl
  later_regions (a ∷ as_) =
      ap₂ (λ g gs. g ++ gs) (ap region_in (ap (λ q. terms_of q a) (are.0 a) ∙ later_annotation (r a) (are.1 a) a) ∙ later_region_in (terms_of (r a) a)) (later_regions as_)
      ∙ joined later_region (region_in (terms_of (r a) a)) (regions_in r as_)

  later_none : (o : Option Tree) → or_none (option_map later_tree o) ≡ later_tree (or_none o)
  later_none (Some f) = refl
  later_none None = refl

  pub later_claim_tree : (a : acsl.Tree) → claim_tree r' a ≡ later_tree (claim_tree r a)
  later_claim_tree a = ap or_none (ap (λ q. formula_of q a) (are.0 a) ∙ later_claim (r a) (are.1 a) a) ∙ later_none (formula_of (r a) a)

  later_assumed : (as_ : List acsl.Tree) → assumed_tree r' as_ ≡ later_tree (assumed_tree r as_)
  later_assumed as_ = ap all_of (mapped (claim_tree r) (claim_tree r') later_claim_tree as_) ∙ later_all_of (map (claim_tree r) as_)

later_of_kind : (k : CellKind) (gs : List RegionTree) → of_kind k (map later_region gs) ≡ map later_region (of_kind k gs)
later_of_kind k [] = refl
later_of_kind k (g ∷ gs) = ap (λ l. if has_kind k g then later_region g ∷ l else l) (later_of_kind k gs) ∙ by (has_kind k g) where
  by : (b : Bool) → (if b then later_region g ∷ map later_region (of_kind k gs) else map later_region (of_kind k gs)) ≡ map later_region (if b then g ∷ of_kind k gs else of_kind k gs)
  by true = refl
  by false = refl

later_any_of : (fs : List Tree) → any_of (map later_tree fs) ≡ later_tree (any_of fs)
later_any_of [] = refl
later_any_of (f ∷ []) = refl
later_any_of (f ∷ g ∷ fs) = ap (λ ts. tree.node th.Or (tree.more (later_tree f) (tree.more (later_tree g) ts))) (sym (later_list fs))

-- of a cell whose address is given by numbers
later_inside : (e : Tree) (gs : List RegionTree) (k : CellKind) (x y : ℤ)
    → cell_inside (later_tree e) (map later_region gs) k (num x) (num y) ≡ later_tree (cell_inside e gs k (num x) (num y))
later_inside e gs k x y =
    ap (λ l. any_of (map (cell_in (num x) (num y)) l ++ at_most (later_tree e) (num x) ∷ [])) (later_of_kind k gs)
    ∙ ap (λ l. any_of (l ++ at_most (later_tree e) (num x) ∷ [])) (each (of_kind k gs))
    ∙ ap any_of (joined later_tree (map (cell_in (num x) (num y)) (of_kind k gs)) (at_most e (num x) ∷ []))
    ∙ later_any_of (map (cell_in (num x) (num y)) (of_kind k gs) ++ at_most e (num x) ∷ [])
  where
    each : (gs : List RegionTree) → map (cell_in (num x) (num y)) (map later_region gs) ≡ map later_tree (map (cell_in (num x) (num y)) gs)
    each [] = refl
    each (g ∷ gs) = ap (λ l. later_tree (cell_in (num x) (num y) g) ∷ l) (each gs)

later_under : (plain : Bool) (a f : Tree) → under plain (later_tree a) (later_tree f) ≡ later_tree (under plain a f)
later_under true a f = refl
later_under false a f = refl

later_as_one : (fs : List Tree) → as_one (map later_tree fs) ≡ map later_tree (as_one fs)
later_as_one [] = refl
later_as_one (f ∷ fs) = ap (λ t. t ∷ []) (later_all_of (f ∷ fs))

later_unless : (b : Bool) (fs : List Tree) → as_one_unless b (map later_tree fs) ≡ map later_tree (as_one_unless b fs)
later_unless true fs = refl
later_unless false fs = later_as_one fs

later_listed : (b : Bool) (f : Tree) → (if b then later_tree f ∷ [] else []) ≡ map later_tree (if b then f ∷ [] else [])
later_listed true f = refl
later_listed false f = refl

-- ---- clauses

module _ (p : Facts) (s : Shape) (cells : FileCells) (texts : Texts) where
  entries_later : (sp : Standpoint) → AreLater (entry_at p s cells texts sp) (entry_at p s cells texts (at_present sp))
  entries_later sp = (λ a. later_entry_reading p s cells texts a sp.entry sp.is_param, λ a n. binders_marked (texts.binders a) n)

  bodies_later : (sp : Standpoint) → AreLater (body_reading p s cells texts sp) (body_reading p s cells texts (later sp))
  bodies_later sp = (λ a. later_body_reading p s cells texts a sp, λ a n. binders_marked (texts.binders a) n)

  later_assumes : (sp : Standpoint) (b : Behavior) → assumed_at p s cells texts (at_present sp) b ≡ later_tree (assumed_at p s cells texts sp b)
  later_assumes sp b = later_assumed (entry_at p s cells texts sp) (entry_at p s cells texts (at_present sp)) (entries_later sp) b.assumes

  later_set : (r r' : acsl.Tree → annotation.Reading) → AreLater r r' → (sp sp' : Standpoint) (as_ : List acsl.Tree) (l : ℕ) (k : CellKind) (x y : ℤ)
      → set_tree p s cells texts sp' r' as_ (suc l) k (num x) (num y) ≡ later_tree (set_tree p s cells texts sp r as_ l k (num x) (num y))
  later_set r r' are sp sp' as_ l k x y =
      ap₂ (λ t gs. cell_inside (count_of t) gs k (num x) (num y)) (later_table_leaf l) (later_regions r r' are as_)
      ∙ later_inside (since l) (regions_in r as_) k x y

  later_clause : (sp : Standpoint) (plain : Bool) (b : Behavior) (o : Option (List acsl.Tree)) (k : CellKind) (x y : ℤ)
      → clause_trees p s cells texts (at_present sp) plain b o k (num x) (num y) ≡ map later_tree (clause_trees p s cells texts sp plain b o k (num x) (num y))
  later_clause sp plain b None k x y = refl
  later_clause sp plain b (Some as_) k x y =
      ap (λ t. t ∷ [])
      (ap₂ (under plain) (later_assumes sp b) (later_set (entry_at p s cells texts sp) (entry_at p s cells texts (at_present sp)) (entries_later sp) sp (at_present sp) as_ sp.entry k x y)
      ∙ later_under plain (assumed_at p s cells texts sp b) (set_tree p s cells texts sp (entry_at p s cells texts sp) as_ sp.entry k (num x) (num y)))

  later_clauses : (sp : Standpoint) (bs : List Behavior) (k : CellKind) (x y : ℤ)
      → all_clause_trees p s cells texts (at_present sp) bs k (num x) (num y) ≡ map later_tree (all_clause_trees p s cells texts sp bs k (num x) (num y))
  later_clauses sp [] k x y = refl
  later_clauses sp (b ∷ bs) k x y =
      ap₂ (λ l m. l ++ m) (later_clause sp false b b.assigns k x y) (later_clauses sp bs k x y)
      ∙ joined later_tree (clause_trees p s cells texts sp false b b.assigns k (num x) (num y)) (all_clause_trees p s cells texts sp bs k (num x) (num y))

  -- of a point with these parts
  later_cell_trees : (c : Contract) (self : ℕ) (sp : Standpoint) (os : List Open) (outs : List Out) (force : Force) (k : CellKind) (x y : ℤ)
      → cell_trees p s cells texts c (remembered (record { self = self; stands = sp; scopes = os; outs = outs; force = force })) k (num x) (num y)
      ≡ map later_tree (cell_trees p s cells texts c (record { self = self; stands = sp; scopes = os; outs = outs; force = force }) k (num x) (num y))
  later_cell_trees c self sp os outs of_function k x y =
      ap as_one
      (ap₂ (λ l m. l ++ m) (later_clause sp true c.plain c.plain.assigns k x y) (later_clauses sp c.behaviors k x y)
      ∙ joined later_tree (clause_trees p s cells texts sp true c.plain c.plain.assigns k (num x) (num y)) (all_clause_trees p s cells texts sp c.behaviors k (num x) (num y)))
      ∙ later_as_one (clause_trees p s cells texts sp true c.plain c.plain.assigns k (num x) (num y) ++ all_clause_trees p s cells texts sp c.behaviors k (num x) (num y))
  later_cell_trees c self sp os outs (of_loop q rs d) k x y =
      ap (λ t. t ∷ []) (later_set (body_reading p s cells texts q) (body_reading p s cells texts (later q)) (bodies_later q) q (later q) rs q.here k x y)

  -- ---- variables

  later_missing : (sp : Standpoint) (plain : Bool) (b : Behavior) (x : Variable) → missing_in p s cells texts (at_present sp) plain b x ≡ map later_tree (missing_in p s cells texts sp plain b x)
  later_missing sp plain b x =
      ap (λ t. if lacks b.assigns x then t ∷ [] else []) (ap (λ a. under plain a false_tree) (later_assumes sp b) ∙ later_under plain (assumed_at p s cells texts sp b) false_tree)
      ∙ later_listed (lacks b.assigns x) (under plain (assumed_at p s cells texts sp b) false_tree)

  later_all_missing : (sp : Standpoint) (bs : List Behavior) (x : Variable) → missing_all p s cells texts (at_present sp) bs x ≡ map later_tree (missing_all p s cells texts sp bs x)
  later_all_missing sp [] x = refl
  later_all_missing sp (b ∷ bs) x =
      ap₂ (λ l m. l ++ m) (later_missing sp false b x) (later_all_missing sp bs x) ∙ joined later_tree (missing_in p s cells texts sp false b x) (missing_all p s cells texts sp bs x)

  later_variable_trees : (c : Contract) (self : ℕ) (sp : Standpoint) (os : List Open) (outs : List Out) (force : Force) (x : Variable)
      → variable_trees p s cells texts c (remembered (record { self = self; stands = sp; scopes = os; outs = outs; force = force })) x
      ≡ map later_tree (variable_trees p s cells texts c (record { self = self; stands = sp; scopes = os; outs = outs; force = force }) x)
  later_variable_trees c self sp os outs of_function (variables.Global x) =
      let fs = missing_in p s cells texts sp true c.plain (variables.Global x) ++ missing_all p s cells texts sp c.behaviors (variables.Global x) in
      ap (as_one_unless (lacks c.plain.assigns (variables.Global x)))
      (ap₂ (λ l m. l ++ m) (later_missing sp true c.plain (variables.Global x)) (later_all_missing sp c.behaviors (variables.Global x))
      ∙ joined later_tree (missing_in p s cells texts sp true c.plain (variables.Global x)) (missing_all p s cells texts sp c.behaviors (variables.Global x)))
      ∙ later_unless (lacks c.plain.assigns (variables.Global x)) fs
  later_variable_trees c self sp os outs of_function (variables.Local x) = refl
  later_variable_trees c self sp os outs (of_loop q rs d) x = by (has_variable rs x || is_inside d x) where
    by : (b : Bool) → (if b then [] else false_tree ∷ []) ≡ map later_tree (if b then [] else false_tree ∷ [])
    by true = refl
    by false = refl

-- ---- told

later_told : (m : sense.World) (st : State) (sts : List State) (fs : List Tree) → all_told m (st ∷ sts) (map later_tree fs) ≡ all_told m sts fs
later_told m st sts [] = refl
later_told m st sts (f ∷ fs) = ap₂ (λ a b. a && b) (later_truth m st sts f) (later_told m st sts fs)

module _ (m : sense.World) (p : Facts) (s : Shape) (cells : FileCells) (texts : Texts) (c : Contract) (pt : Point) (st : State) (sts : List State) where
  pub variables_told : (x : Variable) → all_told m (st ∷ sts) (variable_trees p s cells texts c (remembered pt) x) ≡ all_told m sts (variable_trees p s cells texts c pt x)
  variables_told x =
      ap (all_told m (st ∷ sts)) (later_variable_trees p s cells texts c pt.self pt.stands pt.scopes pt.outs pt.force x) ∙ later_told m st sts (variable_trees p s cells texts c pt x)

  pub cells_told : (k : CellKind) (x y : ℤ)
      → all_told m (st ∷ sts) (cell_trees p s cells texts c (remembered pt) k (num x) (num y)) ≡ all_told m sts (cell_trees p s cells texts c pt k (num x) (num y))
  cells_told k x y =
      ap (all_told m (st ∷ sts)) (later_cell_trees p s cells texts c pt.self pt.stands pt.scopes pt.outs pt.force k x y)
      ∙ later_told m st sts (cell_trees p s cells texts c pt k (num x) (num y))
