-- Those that a function reads.
use Rattle.std.proofs.Common.{◌≡◌, ℕ, zero, suc, ◌+◌, ◌<◌, ◌≤◌, ◌==◌, Bool, true, false, not, ◌&&◌, ◌||◌, if◌then◌else◌, List, [], ◌∷◌, ◌++◌, map, length, drop, get_or, refl, sym, ap, ◌∙◌, append_assoc, append-nil, arith, eq-eqb, ne_eqb, inl, inr}
use Rattle.std.specs.Prelude.{nat_lt, ◌⊎◌, Some, slice_get}
use Rattle.std.proofs.lemmas.List.{at_drop_more, at_drop_all, map-append}
use Rattle.std.proofs.lemmas.Bool.{cases_lt, or_right, lt-ltb, le-ltb}
use Rattle.wp_base.specs.declared.kinds.CellKind.{CellKind}
use Rattle.typed_prog.specs.declared.operators.Variable.TheVariants as variables
use Rattle.acsl_trees.specs.declared.heads.Head.{Head}
use Rattle.acsl_trees.specs.declared.heads.Head.TheVariants as hd
use Rattle.acsl_expand.specs.Expansion.{Definition}
use Rattle.c_runs.specs.Program as program
use Rattle.c_runs.specs.Program.{Facts}
use Rattle.acsl_encode.specs.Readings.{Named, Global}
use Rattle.acsl_encode.specs.Told.{Spelling, number_of, is_among, is_variable, is_cell_of, reads_cell, reads_variable, reads_first, those, every_cell}
use Rattle.plain_annotations.specs.Settings.{globals_from}
use Rattle.annotation_words.specs.View.{view_global}
use Rattle.annotation_words.specs.declared.readings.GlobalName.{GlobalName}
use Rattle.logic_order.specs.Names.{FileNames, spelling_or}
use Rattle.logic_order.specs.Order.{told_as}
use Rattle.logic_trees.specs.Heads.{first_global}
use Rattle.logic_trees.specs.Asking.{is_below, asks_cell, asks_variable, asks}
use Rattle.logic_trees.specs.declared.questions.Asked.TheVariants as asked
use Rattle.logic_calls.specs.Told.{reads_at, told_with}
use Rattle.logic_calls.specs.View.{one_if}

pub mapped_length : {X Y : Type 0} (f : X → Y) (xs : List X) → length (map f xs) ≡ length xs
mapped_length f [] = refl
mapped_length f (x ∷ xs) = ap suc (mapped_length f xs)

-- ---- loops

those_one : {X : Type 0} (p : X → Bool) (x : X) (xs : List X) → those p (x ∷ xs) ≡ one_if (p x) x ++ those p xs
those_one p x xs = by (p x)
  where
    by : (b : Bool) → (if b then x ∷ those p xs else those p xs) ≡ one_if b x ++ those p xs
    by true = refl
    by false = refl

turned : {X : Type 0} (p : X → Bool) (done more : List X) (b : Bool) (x : X) (xs whole : List X) → done ++ those p (x ∷ xs) ≡ whole → b ≡ p x → more ≡ done ++ one_if b x
    → more ++ those p xs ≡ whole
turned p done more b x xs whole so is pushed =
    ap (λ zs. zs ++ those p xs) pushed ∙ append_assoc done (one_if b x) (those p xs) ∙ ap (λ c. done ++ (one_if c x ++ those p xs)) is
    ∙ ap (λ zs. done ++ zs) (sym (those_one p x xs)) ∙ so

module _ (p : CellKind → Bool) (ks : List CellKind) where
  pub cell_turn : (i : ℕ) (k : CellKind) (done more : List CellKind) (b : Bool) (whole : List CellKind) → done ++ those p (drop i ks) ≡ whole → i < length ks
      → k ≡ get_or ks i k → b ≡ p k → more ≡ done ++ one_if b k → more ++ those p (drop (i + 1) ks) ≡ whole
  cell_turn i k done more b whole so l is read pushed =
      turned p done more b k (drop (i + 1) ks) whole
      (ap (λ c. done ++ those p (c ∷ drop (i + 1) ks)) is ∙ ap (λ zs. done ++ zs) (sym (at_drop_more (λ us. those p us) ks i k l)) ∙ so) read pushed

  pub cell_end : (i : ℕ) (done whole : List CellKind) → done ++ those p (drop i ks) ≡ whole → length ks ≤ i → done ≡ whole
  cell_end i done whole so l = sym (append-nil done) ∙ ap (λ zs. done ++ zs) (sym (at_drop_all (λ us. those p us) ks i l)) ∙ so

pub ruleset cell_laws = (cell_turn, cell_end)

module _ (p : Global → Bool) (gs : List GlobalName) where
  abbrev pub globals_from_place : ℕ → List Global
  globals_from_place i = those p (map view_global (drop i gs))

  pub global_turn : (i : ℕ) (g : GlobalName) (done more : List Global) (b : Bool) (whole : List Global) → done ++ globals_from_place i ≡ whole → i < length gs
      → g ≡ get_or gs i g → b ≡ p (view_global g) → more ≡ done ++ one_if b (view_global g) → more ++ globals_from_place (i + 1) ≡ whole
  global_turn i g done more b whole so l is read pushed =
      turned p done more b (view_global g) (map view_global (drop (i + 1) gs)) whole
      (ap (λ h. done ++ those p (view_global h ∷ map view_global (drop (i + 1) gs))) is
      ∙ ap (λ zs. done ++ zs) (sym (at_drop_more (λ us. those p (map view_global us)) gs i g l)) ∙ so) read pushed

  pub global_end : (i : ℕ) (done whole : List Global) → done ++ globals_from_place i ≡ whole → length gs ≤ i → done ≡ whole
  global_end i done whole so l = sym (append-nil done) ∙ ap (λ zs. done ++ zs) (sym (at_drop_all (λ us. those p (map view_global us)) gs i l)) ∙ so

pub ruleset global_laws = (global_turn, global_end)

-- ---- one item

pub cell_left : (old : List CellKind) (b : Bool) (k : CellKind) → b ≡ false → old ≡ old ++ one_if b k
cell_left old b k e = sym (append-nil old) ∙ ap (λ c. old ++ one_if c k) (sym e)

pub cell_put : (old new : List CellKind) (b : Bool) (k : CellKind) → b ≡ true → new ≡ old ++ k ∷ [] → new ≡ old ++ one_if b k
cell_put old new b k e pushed = pushed ∙ ap (λ c. old ++ one_if c k) (sym e)

pub global_left : (old : List GlobalName) (b : Bool) (g : GlobalName) → b ≡ false → map view_global old ≡ map view_global old ++ one_if b (view_global g)
global_left old b g e = sym (append-nil (map view_global old)) ∙ ap (λ c. map view_global old ++ one_if c (view_global g)) (sym e)

pub global_put : (old new : List GlobalName) (b : Bool) (g h : GlobalName) → b ≡ true → h ≡ g → new ≡ old ++ h ∷ [] → map view_global new ≡ map view_global old ++ one_if b (view_global g)
global_put old new b g h e same pushed =
    ap (map view_global) pushed ∙ map-append view_global old (h ∷ []) ∙ ap (λ k. map view_global old ++ view_global k ∷ []) same
    ∙ ap (λ c. map view_global old ++ one_if c (view_global g)) (sym e)

pub ruleset put_laws = (cell_left, cell_put, global_left, global_put)

-- ---- what is asked

among_true : (m : ℕ) (vs : List program.Variable) (xs : List (List ℕ)) (i : ℕ) → i < length vs → is_among (globals_from m vs xs) (m + i) ≡ true
among_true m [] xs i l = absurd (omega (arith, l))
among_true m (v ∷ vs) [] zero l = ap (λ b. b || is_among (globals_from (suc m) vs []) (m + 0)) (eq-eqb m (m + 0) (omega arith))
among_true m (v ∷ vs) (x ∷ xs) zero l = ap (λ b. b || is_among (globals_from (suc m) vs xs) (m + 0)) (eq-eqb m (m + 0) (omega arith))
among_true m (v ∷ vs) [] (suc i) l =
    let next : suc m + i ≡ m + suc i = omega arith in
    or_right (m == m + suc i) (is_among (globals_from (suc m) vs []) (m + suc i))
    (ap (is_among (globals_from (suc m) vs [])) (sym next) ∙ among_true (suc m) vs [] i (omega (arith, l)))
among_true m (v ∷ vs) (x ∷ xs) (suc i) l =
    let next : suc m + i ≡ m + suc i = omega arith in
    or_right (m == m + suc i) (is_among (globals_from (suc m) vs xs) (m + suc i))
    (ap (is_among (globals_from (suc m) vs xs)) (sym next) ∙ among_true (suc m) vs xs i (omega (arith, l)))

among_false : (m : ℕ) (vs : List program.Variable) (xs : List (List ℕ)) (n : ℕ) → m + length vs ≤ n → is_among (globals_from m vs xs) n ≡ false
among_false m [] xs n l = refl
among_false m (v ∷ vs) [] n l =
    ap (λ b. b || is_among (globals_from (suc m) vs []) n) (ne_eqb m n (λ e. omega (arith, e, l))) ∙ among_false (suc m) vs [] n (omega (arith, l))
among_false m (v ∷ vs) (x ∷ xs) n l =
    ap (λ b. b || is_among (globals_from (suc m) vs xs) n) (ne_eqb m n (λ e. omega (arith, e, l))) ∙ among_false (suc m) vs xs n (omega (arith, l))

as_many : (m : ℕ) (vs : List program.Variable) (xs : List (List ℕ)) → length (globals_from m vs xs) ≡ length vs
as_many m [] xs = refl
as_many m (v ∷ vs) [] = ap suc (as_many (suc m) vs [])
as_many m (v ∷ vs) (x ∷ xs) = ap suc (as_many (suc m) vs xs)

module _ (vs : List program.Variable) (xs : List (List ℕ)) where
  abbrev gs : List Global
  gs = globals_from 0 vs xs

  below_is : (n : ℕ) → nat_lt n (length vs) ≡ is_among gs n
  below_is n = by (cases_lt n (length vs))
    where
      by : ((n < length vs) ⊎ (length vs ≤ n)) → nat_lt n (length vs) ≡ is_among gs n
      by (inl l) = let at : 0 + n ≡ n = omega arith in lt-ltb n (length vs) l ∙ sym (ap (is_among gs) (sym at) ∙ among_true 0 vs xs n l)
      by (inr l) = le-ltb n (length vs) l ∙ sym (among_false 0 vs xs n (omega (arith, l)))

  variable_is : (ls : List Head) → is_below (length vs) (first_global ls) ≡ is_variable gs ls
  variable_is [] = refl
  variable_is (hd.Variable (variables.Global n) ∷ ls) = below_is n
  variable_is (hd.Variable (variables.Local n) ∷ ls) = refl
  variable_is (l ∷ ls) = refl

  cell_asked : (k : CellKind) (head : Head) (ls : List Head) → asks_cell (length vs) k head ls ≡ reads_cell gs k head ls
  cell_asked k (hd.Read c l) ls = ap (λ b. is_cell_of k c && not b) (variable_is ls)
  cell_asked k head ls = refl

variable_asked : (n : ℕ) (head : Head) (ls : List Head) → asks_variable n head ls ≡ reads_variable n head ls
variable_asked n (hd.Read c l) [] = refl
variable_asked n (hd.Read c l) (hd.Variable (variables.Global i) ∷ ls) = refl
variable_asked n (hd.Read c l) (hd.Variable (variables.Local i) ∷ ls) = refl
variable_asked n (hd.Read c l) (m ∷ ls) = refl
variable_asked n head ls = refl

-- a definition that is spelled
pub told_same : (p : Facts) (names : FileNames) (n : ℕ) (s : Spelling) → slice_get names.functions n ≡ Some s
    → told_with s (globals_from 0 p.globals names.variables) p.definitions n ≡ told_as p names n
told_same p names n s spelled =
    let gs = globals_from 0 p.globals names.variables in
    let cells : (k : CellKind) → asks (length gs) (asked.Cell k) ≡ reads_cell gs k =
    λ k i head ls. (ap (λ m. asks_cell m k head ls) (as_many 0 p.globals names.variables) ∙ cell_asked p.globals names.variables k head ls) i in
    let asked_of : (m : ℕ) → asks (length gs) (asked.Variable m) ≡ reads_variable m = λ m i head ls. variable_asked m head ls i in
    λ i. record {
      name = (spelling_or n (sym spelled i)).name;
      params = (spelling_or n (sym spelled i)).params;
      memories = those (λ k. reads_first (cells k i) p.definitions (suc n) n) every_cell;
      globals = those (λ g. reads_first (asked_of (number_of g) i) p.definitions (suc n) n) gs;
    }

-- the parts of a function make the whole
pub told_made : (s : Spelling) (gs : List Global) (ds : List Definition) (n : ℕ) (x : List ℕ) (ps : List Named) (ks : List CellKind) (hs : List Global) → x ≡ s.name → ps ≡ s.params
    → ks ≡ those (λ k. reads_at (length gs) ds n (asked.Cell k)) every_cell → hs ≡ those (λ g. reads_at (length gs) ds n (asked.Variable (number_of g))) gs
    → record { name = x; params = ps; memories = ks; globals = hs } ≡ told_with s gs ds n
told_made s gs ds n x ps ks hs name params memories globals =
    let same : record { name = x; params = ps; memories = ks; globals = hs } ≡ told_with s gs ds n =
    λ i. record { name = name i; params = params i; memories = memories i; globals = globals i } in
    same
