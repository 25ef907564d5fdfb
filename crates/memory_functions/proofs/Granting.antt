-- What is asked before a write says whether the clauses of the function let it.
use Rattle.std.proofs.Common.{◌≡◌, ◌⊎◌, ℕ, zero, suc, ◌+◌, ◌<◌, ℤ, pos, negsuc, ◌-ℤ◌, Bool, true, false, not, ◌&&◌, ◌||◌, if◌then◌else◌, List, [], ◌∷◌, ◌++◌, map, Option, Some, None, slice_get, refl, sym, ap, ◌∙◌, subst, arith}
use Rattle.std.specs.Prelude.{◌==◌, int_le, int_lt}
use Rattle.std.specs.List.{list_all}
use Rattle.std.proofs.lemmas.Bool.{false≢true, and_parts, le-leb}
use Rattle.std.proofs.lemmas.Bool.Decides.{Decides-eqb}
use Rattle.wp_base.specs.declared.kinds.CellKind.{CellKind}
use Rattle.wp_base.specs.declared.kinds.CellKind.TheVariants as cell
use Rattle.typed_prog.specs.declared.operators.Variable as code
use Rattle.typed_prog.specs.declared.operators.Variable.TheVariants as variables
use Rattle.acsl_trees.specs.Tree as acsl
use Rattle.acsl_trees.specs.declared.heads.Content.{Content}
use Rattle.acsl_trees.specs.declared.heads.Content.TheVariants as content
use Rattle.acsl_trees.specs.declared.heads.Head.TheVariants as head
use Rattle.c_runs.specs.TruthStates as labelled
use Rattle.c_runs.specs.TruthStates.{Value, span_of, covers, is_negative}
use Rattle.c_runs.specs.TruthAllowed.{lies_in, is_named}
use Rattle.acsl_encode.specs.Readings as annotation
use Rattle.acsl_encode.specs.Readings.{home, absent, region, nothing}
use Rattle.acsl_encode.specs.Encode as encode
use Rattle.acsl_encode.specs.Meaning.{Stands}
use Rattle.qed_terms.specs.Meaning as sense
use Rattle.qed_terms.specs.Meaning.{Values, truth, value}
use Rattle.qed_terms.specs.Operators.{is_equal}
use Rattle.qed_terms.specs.Tree.{Tree, num, false_tree}
use Rattle.c_runs.specs.Program.{Variable, Behavior, Contract, Facts}
use Rattle.c_runs.specs.Objects.{is_plain_in}
use Rattle.c_runs.specs.States.{Memory, Granted, plain, params_from, block_of_local, hidden, global_home, plain_globals}
use Rattle.c_runs.specs.Claims.{holds, is_assumed, at_entry, value_of, regions_of, granted_by, granted_in, lets_cell, lets_local}
use Rattle.typed_memories.proofs.Tests.{on_test, same_number, number_same}
use Rattle.c_runs.proofs.Numbers.{equal_is}
use Rattle.memory_steps.specs.State.{State}
use Rattle.memory_words.specs.Places.{value as value_place, offset}
use Rattle.memory_words.specs.Leaves.{is_closed, closed, leaves_of}
use Rattle.memory_words.specs.Shapes.{FileCells, Shape, kind_of}
use Rattle.memory_words.specs.Readings.{InScope, Texts, Standpoint, leaf, slot_of_kind, global_slot, param_slot, contract_slot, common_of, entry_reading}
use Rattle.memory_words.specs.Seen.{InSetting, EntrySeen}
use Rattle.memory_words.proofs.Worlds.{annotations_read}
use Rattle.memory_words.specs.Sets.{lacks, is_region_of, same_variable, has_variable, as_one, as_one_unless, missing_in, missing_all, missing, under}
use Rattle.memory_words.specs.Typed.{AllOf, is_scalar, is_plain_variable, RegionFits, names, has_cells, SetFits}
use Rattle.memory_words.specs.Placed.{all_told}
use Rattle.memory_words.proofs.Valued.{closed_told}
use Rattle.memory_words.proofs.Homes.{hidden_number, same_hidden}
use Rattle.memory_functions.specs.GoalFunctions.{is_param, none_in, behavior_tree}
use Rattle.memory_functions.specs.FunctionFunctions.{BehaviorFits}
use Rattle.memory_functions.proofs.Tests.{all_closed, all_so}
use Rattle.memory_functions.proofs.Contracts.{behavior_tells}

pub and_so : (b : Bool) → (b && true) ≡ b
and_so true = refl
and_so false = refl

pub all_append : {X : Type 0} (f : X → Bool) (xs ys : List X) → list_all f (xs ++ ys) ≡ (list_all f xs && list_all f ys)
all_append f [] ys = refl
all_append f (x ∷ xs) ys = ap (λ b. f x && b) (all_append f xs ys) ∙ grouped (f x) (list_all f xs) (list_all f ys) where
  grouped : (a b c : Bool) → (a && (b && c)) ≡ ((a && b) && c)
  grouped true b c = refl
  grouped false b c = refl

-- several formulas as one
each_told : (m : sense.World) (sts : List State) (fs : List Tree) → list_all (is_closed []) fs ≡ true → all_told m sts fs ≡ list_all (truth m (leaves_of sts)) fs
each_told m sts [] h = refl
each_told m sts (f ∷ fs) h = let both = and_parts (is_closed [] f) (list_all (is_closed []) fs) h in λ i. (closed_told m sts f both.0 i) && (each_told m sts fs both.1 i)

pub one_so : (m : sense.World) (sts : List State) (fs : List Tree) → list_all (is_closed []) fs ≡ true → all_told m sts (as_one fs) ≡ all_told m sts fs
one_so m sts [] h = refl
one_so m sts (f ∷ fs) h =
    and_so (truth m (leaves_of sts) (closed (encode.all_of (f ∷ fs)))) ∙ closed_told m sts (encode.all_of (f ∷ fs)) (all_closed (f ∷ fs) h) ∙ all_so m (leaves_of sts) (f ∷ fs)
    ∙ sym (each_told m sts (f ∷ fs) h)

-- where the body of a function stands
abbrev pub stands_at : (params : ℕ) → Standpoint
stands_at n = record { here = 0; in_scope = is_param n; entry = 1; is_param = is_param n; loop_entry = None; loop_scope = none_in }

-- ---- numbers of blocks

same_is : (a b : ℤ) → a ≡ b → is_equal a b ≡ true
same_is a b e = equal_is a b ∙ number_same a b e

apart_is : (a b : ℤ) → (a ≡ b → ⊥) → is_equal a b ≡ false
apart_is a b n = on_test (is_equal a b) (λ t. absurd (n (same_number a b (sym (equal_is a b) ∙ t)))) (λ e. e)

negative_apart : (a b : ℤ) → is_negative a ≡ false → is_negative b ≡ true → a ≡ b → ⊥
negative_apart a b h k same = false≢true (sym h ∙ ap is_negative same ∙ k)

-- ---- variables that no pointer leads to

plain_found : (o : Option Variable) → is_plain_in o ≡ true → (v : Variable) × (o ≡ Some v) × (v.is_plain ≡ true)
plain_found (Some v) h = (v, refl, h)
plain_found None h = absurd (false≢true h)

param_home : (p : Facts) (n : ℕ) (vs : List Value) (y : ℕ) → block_of_local p y (params_from n vs y) ≡ hidden p y
param_home p n [] y = refl
param_home p n (v ∷ vs) y = by (n == y) (param_home p (suc n) vs y) where
  by : (t : Bool) → block_of_local p y (params_from (suc n) vs y) ≡ hidden p y → block_of_local p y (if t then plain v true else params_from (suc n) vs y) ≡ hidden p y
  by true rest = refl
  by false rest = rest

-- ---- regions that are variables

abbrev region_of_variable : Content → code.Variable → acsl.Tree
region_of_variable c y = acsl.node (head.Region c) (acsl.more (acsl.node (head.Variable y) acsl.stop) acsl.stop)

one_cell : (p : Facts) (w : labelled.World) (c : Content) (y : code.Variable) (b : ℤ) → is_scalar c ≡ true
    → covers (value_of p w (region_of_variable c y)) b (pos 0) ≡ is_equal (w.here.home y) b
one_cell p w (content.Integer k) y b h = and_so (is_equal (w.here.home y) b)
one_cell p w content.Pointer y b h = and_so (is_equal (w.here.home y) b)
one_cell p w (content.Struct n) y b h = absurd (false≢true h)

-- what is the region of a variable
pub record NamesIt (x : code.Variable) (a : acsl.Tree) : Type 0 where
  pub content : Content
  pub variable : code.Variable
  pub is : a ≡ region_of_variable content variable
  pub same : same_variable x variable ≡ true

names_it : (x : code.Variable) (a : acsl.Tree) → is_region_of x a ≡ true → NamesIt x a
names_it x (acsl.node (head.Region c) (acsl.more (acsl.node (head.Variable y) acsl.stop) acsl.stop)) h = record { content = c; variable = y; is = refl; same = h }
names_it x _ h = absurd (false≢true h)

-- it has no terms of cells
kind_no_region : (ks : List CellKind) (y : code.Variable) (k : CellKind) (t u : Tree) → encode.region_of ks (encode.of_variable y (slot_of_kind k t u)) ≡ nothing
kind_no_region ks y (cell.Of k) t u = refl
kind_no_region ks y cell.Ptr t u = refl

module _ (p : Facts) (s : Shape) (cells : FileCells) (i : InScope) (ks : List CellKind) where
  no_region : (y : code.Variable) → is_plain_variable p s y ≡ true → encode.region_of ks (encode.of_variable y (contract_slot p s cells 1 1 i y)) ≡ nothing
  no_region (variables.Global y) h = by (slice_get p.globals y) h where
    by : (o : Option Variable) → is_plain_in o ≡ true → encode.region_of ks (encode.of_variable (variables.Global y) (global_slot p s cells 1 y o)) ≡ nothing
    by None h = absurd (false≢true h)
    by (Some v) h = by_plain v.is_plain h where
      by_plain : (t : Bool) → t ≡ true → encode.region_of ks (encode.of_variable (variables.Global y)
          (if t then slot_of_kind (kind_of v) (leaf p s cells 1 (value_place (variables.Global y))) (leaf p s cells 1 (offset (variables.Global y))) else home (num (global_home p y))))
          ≡ nothing
      by_plain true h = kind_no_region ks (variables.Global y) (kind_of v) (leaf p s cells 1 (value_place (variables.Global y))) (leaf p s cells 1 (offset (variables.Global y)))
      by_plain false h = absurd (false≢true h)
  no_region (variables.Local y) h = by (i y) (slice_get s.variables y) where
    by : (t : Bool) (o : Option Variable) → encode.region_of ks (encode.of_variable (variables.Local y) (if t then param_slot p s cells 1 y o else absent)) ≡ nothing
    by true (Some v) = kind_no_region ks (variables.Local y) (kind_of v) (leaf p s cells 1 (value_place (variables.Local y))) (leaf p s cells 1 (offset (variables.Local y)))
    by true None = refl
    by false o = refl

no_cells : {ks : List CellKind} {b l h : Tree} → nothing ≡ region ks b l h → ⊥
no_cells e = cc

module _ (m : sense.World) (p : Facts) (s : Shape) (cells : FileCells) (texts : Texts) (params : ℕ) (setting : InSetting m p s cells) (st' st : State)
    (vs : List Value) (mem : Memory) (seen : EntrySeen m p s cells texts 1 (is_param params) (st' ∷ st ∷ []) (at_entry p vs mem)) (n : ℤ) where
  abbrev w : labelled.World
  w = at_entry p vs mem

  abbrev sts : List State
  sts = st' ∷ st ∷ []

  abbrev env : Values
  env = leaves_of sts

  abbrev r : acsl.Tree → annotation.Reading
  r a = entry_reading p s cells texts 1 (is_param params) a

  abbrev Region : acsl.Tree → Type 0
  Region a = RegionFits m p s r a

  pub variable_hidden : (y : code.Variable) → is_plain_variable p s y ≡ true → is_negative (w.here.home y) ≡ true
  variable_hidden (variables.Global y) h = let v = plain_found (slice_get p.globals y) h in ap is_negative (hidden_number p y v.0 v.1 v.2).1
  variable_hidden (variables.Local y) h = ap is_negative (param_home p 0 vs y)

  pub cells_stand : (a : acsl.Tree) → Stands m (r a) env w
  cells_stand a = (annotations_read m p s cells texts setting sts w a).entry 1 (is_param params) seen

  pub terms_no_region : (a : acsl.Tree) (c : Content) (y : code.Variable) → is_plain_variable p s y ≡ true → a ≡ region_of_variable c y → encode.terms_of (r a) a ≡ nothing
  terms_no_region a c y h same =
      ap (λ t. encode.terms_of (r a) t) same ∙ no_region p s cells (is_param params) (encode.content_cells (common_of p s cells texts a) c) y h

  module _ (x : ℕ) (v : Variable) (found : slice_get p.globals x ≡ Some v) (plainly : v.is_plain ≡ true) where
    abbrev at_home : ℤ
    at_home = global_home p x

    hidden_so : is_negative at_home ≡ true
    hidden_so = ap is_negative (hidden_number p x v found plainly).1

    home_so : (y : code.Variable) → is_plain_variable p s y ≡ true → is_equal (w.here.home y) at_home ≡ same_variable (variables.Global x) y
    home_so (variables.Global y) h = let u = plain_found (slice_get p.globals y) h in on_test (x == y)
        (λ t. same_is (global_home p y) at_home (ap (global_home p) (sym ((Decides-eqb x y).0 t))) ∙ sym t)
        (λ f. apart_is (global_home p y) at_home (λ e. false≢true (sym f ∙ (Decides-eqb x y).1 (same_hidden p x v found plainly y u.0 u.1 u.2 (sym e)))) ∙ sym f)
    home_so (variables.Local y) h =
        let i = hidden_number p x v found plainly in
        apart_is (block_of_local p y (params_from 0 vs y)) at_home
        (λ e. let d = negative_parts (sym (param_home p 0 vs y) ∙ e ∙ i.1) in let l = i.2 in absurd (omega (arith, d, l)))
      where
        negative_parts : {a b : ℕ} → negsuc a ≡ negsuc b → a ≡ b
        negative_parts e = cc

    region_so : (a : acsl.Tree) → Region a → covers (value_of p w a) at_home (pos 0) ≡ is_region_of (variables.Global x) a
    region_so a (names y c scalar is_plain same) =
        ap (λ a. covers (value_of p w a) at_home (pos 0)) same ∙ one_cell p w c y at_home scalar ∙ home_so y is_plain ∙ sym (ap (is_region_of (variables.Global x)) same)
    region_so a (has_cells fits address) =
        (fits.means w sts (cells_stand a)).covered at_home (pos 0)
        ∙ ap (λ t. t && (int_le (value m env fits.low) (pos 0) && int_lt (pos 0) (value m env fits.high)))
        (apart_is (value m env fits.block) at_home (negative_apart (value m env fits.block) at_home (address w sts (cells_stand a)) hidden_so))
        ∙ sym (on_test (is_region_of (variables.Global x) a) (λ t. absurd (not_named (names_it (variables.Global x) a t))) (λ f. f))
      where
        is_this : (y : code.Variable) → same_variable (variables.Global x) y ≡ true → is_plain_variable p s y ≡ true
        is_this (variables.Global y) h = ap (λ y. is_plain_in (slice_get p.globals y)) (sym ((Decides-eqb x y).0 h)) ∙ ap is_plain_in found ∙ plainly
        is_this (variables.Local y) h = absurd (false≢true h)

        not_named : NamesIt (variables.Global x) a → ⊥
        not_named it = no_cells (sym (terms_no_region a it.content it.variable (is_this it.variable it.same) it.is) ∙ fits.is)

    names_so : (as_ : List acsl.Tree) → AllOf Region as_ → is_named (regions_of p w as_) at_home ≡ has_variable as_ (variables.Global x)
    names_so [] fits = refl
    names_so (a ∷ as_) fits = λ i. (region_so a fits.0 i) || (names_so as_ fits.1 i)

    module _ (k : CellKind) where
      abbrev lets : Granted → Bool
      lets g = lets_cell k at_home (pos 0) g

      lets_so : (g : Granted) → lets g ≡ is_named g.regions at_home
      lets_so g = ap (λ t. if t then is_named g.regions at_home else int_le g.count at_home || lies_in g.regions k at_home (pos 0)) hidden_so

      -- of one behavior
      abbrev not_lacking : Behavior → Bool
      not_lacking b = not (is_assumed p w b) || not (lacks b.assigns (variables.Global x))

      granted_so : (b : Behavior) → SetFits m p s r b.assigns → list_all lets (if is_assumed p w b then granted_by p w n 0 b.assigns else []) ≡ not_lacking b
      granted_so b fits = by (is_assumed p w b) b.assigns fits where
        by : (a : Bool) (o : Option (List acsl.Tree)) → SetFits m p s r o → list_all lets (if a then granted_by p w n 0 o else []) ≡ (not a || not (lacks o (variables.Global x)))
        by true None fits = refl
        by false None fits = refl
        by true (Some as_) fits =
            and_so (lets (record { regions = regions_of p w as_; count = n; declared = 0 })) ∙ lets_so (record { regions = regions_of p w as_; count = n; declared = 0 })
            ∙ names_so as_ fits ∙ twice (has_variable as_ (variables.Global x))
          where
            twice : (b : Bool) → b ≡ not (not b)
            twice true = refl
            twice false = refl
        by false (Some as_) fits = refl

      missing_so : (outer : Bool) (b : Behavior) → BehaviorFits m p s cells texts params b → (outer ≡ true → is_assumed p w b ≡ true)
          → (list_all (is_closed []) (missing_in p s cells texts (stands_at params) outer b (variables.Global x)) ≡ true)
          × (all_told m sts (missing_in p s cells texts (stands_at params) outer b (variables.Global x)) ≡ not_lacking b)
      missing_so outer b fits so = by (lacks b.assigns (variables.Global x)) where
        one : (outer : Bool) → (outer ≡ true → is_assumed p w b ≡ true)
            → (is_closed [] (under outer (behavior_tree m p s cells texts params b) false_tree) ≡ true)
            × (truth m env (under outer (behavior_tree m p s cells texts params b) false_tree) ≡ (not (is_assumed p w b) || false))
        one true so = (refl, sym (ap (λ a. not a || false) (so refl)))
        one false so =
            let h = behavior_tells m p s cells texts params setting st' st w seen b fits in ((λ i. h.closed_so i && true), (λ i. not (h.true_so i) || false))

        by : (l : Bool) → (list_all (is_closed []) (if l then under outer (behavior_tree m p s cells texts params b) false_tree ∷ [] else []) ≡ true)
            × (all_told m sts (if l then under outer (behavior_tree m p s cells texts params b) false_tree ∷ [] else []) ≡ (not (is_assumed p w b) || not l))
        by true =
            let h = one outer so in (
              (λ i. h.0 i && true),
              and_so (truth m env (closed (under outer (behavior_tree m p s cells texts params b) false_tree)))
                  ∙ closed_told m sts (under outer (behavior_tree m p s cells texts params b) false_tree) h.0 ∙ h.1,
            )
        by false = (refl, sym (none (is_assumed p w b))) where
          none : (a : Bool) → (not a || true) ≡ true
          none true = refl
          none false = refl

      abbrev all_missing : List Behavior → List Tree
      all_missing bs = missing_all p s cells texts (stands_at params) bs (variables.Global x)

      one_more : (outer : Bool) (b : Behavior) (bs : List Behavior) (fits : BehaviorFits m p s cells texts params b) (so : outer ≡ true → is_assumed p w b ≡ true)
          → (list_all (is_closed []) (all_missing bs) ≡ true) × (all_told m sts (all_missing bs) ≡ list_all lets (granted_in p w n bs))
          → (list_all (is_closed []) (missing_in p s cells texts (stands_at params) outer b (variables.Global x) ++ all_missing bs) ≡ true)
          × (all_told m sts (missing_in p s cells texts (stands_at params) outer b (variables.Global x) ++ all_missing bs) ≡ list_all lets (granted_in p w n (b ∷ bs)))
      one_more outer b bs fits so rest =
          let h = missing_so outer b fits so in
          let g = granted_so b fits.assigns in (
            all_append (is_closed []) (missing_in p s cells texts (stands_at params) outer b (variables.Global x)) (all_missing bs) ∙ (λ i. h.0 i && rest.0 i),
            all_append (λ f. truth m env (closed f)) (missing_in p s cells texts (stands_at params) outer b (variables.Global x)) (all_missing bs)
                ∙ (λ i. (h.1 ∙ sym g) i && rest.1 i)
                ∙ sym (all_append lets (if is_assumed p w b then granted_by p w n 0 b.assigns else []) (granted_in p w n bs)),
          )

      behaviors_so : (bs : List Behavior) → AllOf (BehaviorFits m p s cells texts params) bs
          → (list_all (is_closed []) (all_missing bs) ≡ true) × (all_told m sts (all_missing bs) ≡ list_all lets (granted_in p w n bs))
      behaviors_so [] fits = (refl, refl)
      behaviors_so (b ∷ bs) fits = one_more false b bs fits.0 (λ e. absurd (false≢true e)) (behaviors_so bs fits.1)

      unless_so : (refused : Bool) (fs : List Tree) → (refused ≡ true → all_told m sts fs ≡ false) → list_all (is_closed []) fs ≡ true
          → all_told m sts (as_one_unless refused fs) ≡ all_told m sts fs
      unless_so true fs none h = sym (none refl)
      unless_so false fs none h = one_so m sts fs h

      -- the write of a variable of the file
      pub writes_so : (c : Contract) → BehaviorFits m p s cells texts params c.plain → c.plain.assumes ≡ [] → AllOf (BehaviorFits m p s cells texts params) c.behaviors
          → all_told m sts (missing p s cells texts (stands_at params) c (variables.Global x)) ≡ list_all lets (granted_in p w n (c.plain ∷ c.behaviors))
      writes_so c fits none behaviors =
          let h = one_more true c.plain c.behaviors fits (λ e. ap (list_all (holds p w)) none) (behaviors_so c.behaviors behaviors) in
          unless_so (lacks c.plain.assigns (variables.Global x)) (missing_in p s cells texts (stands_at params) true c.plain (variables.Global x) ++ all_missing c.behaviors)
          (λ refused. ap (λ l. all_told m sts ((if l then false_tree ∷ [] else []) ++ all_missing c.behaviors)) refused) h.0 ∙ h.1

  -- no variable of the function needs leave
  pub locals_so : (x : ℕ) (bs : List Behavior) → list_all (lets_local p x) (granted_in p w n bs) ≡ true
  locals_so x [] = refl
  locals_so x (b ∷ bs) =
      all_append (lets_local p x) (if is_assumed p w b then granted_by p w n 0 b.assigns else []) (granted_in p w n bs)
      ∙ (λ i. (by (is_assumed p w b) b.assigns i) && (locals_so x bs i))
    where
      by : (a : Bool) (o : Option (List acsl.Tree)) → list_all (lets_local p x) (if a then granted_by p w n 0 o else []) ≡ true
      by true None = refl
      by true (Some as_) = ap (λ t. (t || is_named (regions_of p w as_) (hidden p x)) && true) (le-leb 0 x (omega arith))
      by false o = refl
