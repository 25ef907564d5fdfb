-- A variable with a block is made.
use Rattle.std.proofs.Common.{◌≡◌, ◌⊎◌, ℕ, zero, suc, ◌<◌, ℤ, pos, negsuc, true, false, not, ◌&&◌, ◌||◌, if◌then◌else◌, List, [], ◌∷◌, length, Option, Some}
use Rattle.std.proofs.Common.{slice_get, refl, sym, ap, ◌∙◌, subst, inl, inr}
use Rattle.std.specs.Prelude.{int_le, ◌==◌, ◌+ℤ◌}
use Rattle.std.specs.Option.{unwrap_or}
use Rattle.std.proofs.lemmas.Bool.{false≢true, and_parts}
use Rattle.std.proofs.lemmas.Bool.Decides.{Decides-eqb}
use Rattle.std.proofs.lemmas.Option.{none-some, same_Some}
use Rattle.wp_base.specs.declared.kinds.CellKind.{CellKind}
use Rattle.wp_base.specs.Blocks.{count, alloc, block_of, is_block, cells_of, has_layout}
use Rattle.c_kinds.specs.Models.{high, difference_kind}
use Rattle.typed_prog.specs.declared.operators.Variable.TheVariants as variables
use Rattle.qed_terms.specs.Meaning as sense
use Rattle.c_runs.specs.TruthStates.{Value}
use Rattle.c_runs.specs.Program.{Variable, Facts}
use Rattle.c_runs.specs.States.{World, home, unset, with_local, with_memory}
use Rattle.c_runs.specs.Scopes.{filled, with_block, block_made}
use Rattle.c_runs.specs.CoreRun.{CoreWorld, in_world}
use Rattle.goal_segments.specs.Told.{IsGood, with_name}
use Rattle.goal_segments.specs.Segments.{with_cells}
use Rattle.typed_memories.proofs.Tests.{on_test, chosen, unchosen, neither}
use Rattle.typed_memories.specs.Changes.{Makes, StillThere, SameCells}
use Rattle.typed_memories.proofs.Tables.{new_block, not_count}
use Rattle.typed_memories.proofs.Making.{hidden_before}
use Rattle.typed_memories.proofs.Filling.{made_blocks_hold_contents}
use Rattle.typed_memories.proofs.Alone.{newer_blocks_lack_kinds}
use Rattle.run_blocks.proofs.Standing.{block_still, still_same, still_then}
use Rattle.run_blocks.proofs.Good.{good_shaped}
use Rattle.program_steps.specs.Temporaries.{Temporaries}
use Rattle.memory_steps.specs.State.{State, HasSort, number as number_datum, nothing}
use Rattle.memory_steps.specs.Run.{End, goes_on, Seg}
use Rattle.memory_words.specs.Places.{Place, value, offset, flag, temporary, temporary_offset, Sizes, IsIn, held}
use Rattle.memory_words.proofs.Holding.{puts_are_held}
use Rattle.memory_words.proofs.Lists.{found_below}
use Rattle.memory_words.specs.Shapes.{FileCells, Shape, sizes}
use Rattle.memory_words.specs.Standing.{Frame, AllLive, StandsFor}
use Rattle.memory_words.specs.Seen.{InSetting}
use Rattle.memory_words.proofs.Sorts.{held_number}
use Rattle.memory_words.specs.Words.{has_cell_of, home_kinds, has_home, opened, block_opened}
use Rattle.memory_words.specs.Typed.{DeclaredFits}
use Rattle.memory_statements.specs.Renewed.{ListsRead, is_renewed}
use Rattle.memory_statements.specs.RenewalLaws.{ComesTo, MakesBlock, file_kinds, block_in}
use Rattle.memory_statements.proofs.Places.{not_renewed}
use Rattle.memory_statements.proofs.Made.{made_is_renewed}
use Rattle.memory_statements.specs.Scopes.{frame_inside, OpenedAs}
use Rattle.memory_statements.proofs.Carrying.{carried}
use Rattle.memory_statements.proofs.Framing.{layout_still, own_layout, named_or_not, name_in}
use Rattle.memory_statements.proofs.Ending.{same_own}
use Rattle.memory_statements.proofs.Plain.{MadeTo, MadeFrom}

filled_locals : (p : Facts) (n b o : ℤ) (ks : List CellKind) (w : World) → (filled p n b o ks w).locals ≡ w.locals
filled_locals p n b o [] w = refl
filled_locals p n b o (k ∷ ks) w = filled_locals p n b (o +ℤ pos 1) ks _

pub same_variable : (v u : Variable) (o : Option Variable) → o ≡ Some v → o ≡ Some u → v ≡ u
same_variable v u o e d = ap (λ (o : Option Variable). unwrap_or o v) (sym e ∙ d)

-- ---- variables of a block by their kinds

pub home_kinds_of : (xs : List Variable) (x : ℕ) (v : Variable) (k : CellKind) → slice_get xs x ≡ Some v
    → home_kinds xs (x ∷ []) k ≡ ((not v.is_plain && has_cell_of v.layout k) || false)
home_kinds_of [] x v k e = absurd (none-some v e)
home_kinds_of (y ∷ xs) zero v k e = ap (λ (v : Variable). (not v.is_plain && has_cell_of v.layout k) || false) (same_Some y v e)
home_kinds_of (y ∷ xs) (suc x) v k e = home_kinds_of xs x v k e

pub has_home_of : (xs : List Variable) (x : ℕ) (v : Variable) → slice_get xs x ≡ Some v → has_home xs (x ∷ []) ≡ (not v.is_plain || false)
has_home_of [] x v e = absurd (none-some v e)
has_home_of (y ∷ xs) zero v e = ap (λ (v : Variable). not v.is_plain || false) (same_Some y v e)
has_home_of (y ∷ xs) (suc x) v e = has_home_of xs x v e

module _ (m : sense.World) (p : Facts) (s : Shape) (cells : FileCells) (setting : InSetting m p s cells) (fr : Frame) (all : AllLive fr) (f : Temporaries) (c : CoreWorld)
    (olds : List State) (x : ℕ) (v : Variable) (found : slice_get s.variables x ≡ Some v) (not_plain : v.is_plain ≡ false) (fits : DeclaredFits s cells v)
    (short : int_le (pos (length (cells_of v.layout))) (high p.model (difference_kind p.model)) ≡ true) (out : fr.in_scope x ≡ false) (w : World) (st : State)
    (stands : StandsFor p s cells fr f (in_world c w) st) where
  abbrev z : Sizes
  z = sizes p s

  below : x < length s.variables
  below = found_below s.variables x v found

  abbrev bare : Variable
  bare = record v { has_value = false }

  abbrev made : List Value → World
  made contents = block_made p x bare (record w { contents = contents })

  abbrev homes : ℕ → ℤ
  homes y = if x == y then count w.memory.blocks else fr.homes y

  abbrev behind : Frame
  behind = record { in_scope = with_name x fr.in_scope; table = fr.table; lives = with_name x fr.in_scope; homes = homes }

  apart_so : (y : ℕ) → (x ≡ y → ⊥) → (x == y) ≡ false
  apart_so y n = on_test (x == y) (λ e. absurd (n ((Decides-eqb x y).0 e))) (λ e. e)

  here_so : (x == x) ≡ true
  here_so = (Decides-eqb x x).1 refl

  apart_scoped : (y : ℕ) → fr.in_scope y ≡ true → x ≡ y → ⊥
  apart_scoped y scoped e = false≢true (sym out ∙ ap fr.in_scope e ∙ scoped)

  module _ (contents : List Value) where
    abbrev u : World
    u = made contents

    there : StillThere w.memory.blocks u.memory.blocks
    there = block_still p x bare (record w { contents = contents })

    makes : Makes v.layout w.memory u.memory
    makes = (made_blocks_hold_contents p x bare (record w { contents = contents })).makes

    -- before its cells are filled
    abbrev empty : World
    empty = with_local x (home (count w.memory.blocks)) (with_memory (with_block bare w.memory) (record w { contents = contents }))

    locals_are : u.locals ≡ empty.locals
    locals_are = filled_locals p (count empty.memory.blocks) (count w.memory.blocks) (pos 0) (cells_of v.layout) empty

    local_apart : (y : ℕ) → (x ≡ y → ⊥) → u.locals y ≡ w.locals y
    local_apart y n = (λ i. locals_are i y) ∙ unchosen (x == y) (home (count w.memory.blocks)) (w.locals y) (apart_so y n)

    local_here : u.locals x ≡ home (count w.memory.blocks)
    local_here = (λ i. locals_are i x) ∙ chosen (x == x) (home (count w.memory.blocks)) (w.locals x) here_so

    module _ (good : IsGood p u.memory) (new : State) (to : ComesTo p s cells (file_kinds cells v) (block_in p s x v st) u.memory new) where
      same_at : (a : Place) → IsIn z a → is_renewed (file_kinds cells v) a ≡ false → (value (variables.Local x) ≡ a → ⊥) → held z new a ≡ held z st a
      same_at a l none apart =
          to.besides.places a l none ∙ (puts_are_held z (value (variables.Local x)) (number_datum (count st.table)) st below stands.size).elsewhere a l apart

      value_apart : (y : ℕ) → (x ≡ y → ⊥) → value (variables.Local x) ≡ value (variables.Local y) → ⊥
      value_apart y n e = n (value_same e) where
        value_same : {a b : ℕ} → value (variables.Local a) ≡ value (variables.Local b) → a ≡ b
        value_same e = cc

      has_blocks : cells.has_blocks ≡ true
      has_blocks = fits.blocks not_plain

      number_here : held z new (value (variables.Local x)) ≡ number_datum (count w.memory.blocks)
      number_here =
          to.besides.places (value (variables.Local x)) below refl
          ∙ (puts_are_held z (value (variables.Local x)) (number_datum (count st.table)) st below stands.size).here
          ∙ ap (λ t. number_datum (count t)) (stands.table_is has_blocks)

      other_variable : (y : ℕ) (v' : Variable) → slice_get s.variables y ≡ Some v' → v'.is_plain ≡ true → x ≡ y → ⊥
      other_variable y v' e plain same =
          false≢true (sym not_plain ∙ ap (λ (v : Variable). v.is_plain) (same_variable v v' (slice_get s.variables y) (ap (slice_get s.variables) (sym same) ∙ found) e) ∙ plain)

      before_scoped : (y : ℕ) → (x ≡ y → ⊥) → with_name x fr.in_scope y ≡ true → fr.in_scope y ≡ true
      before_scoped y n scoped = sym (ap (λ t. t || fr.in_scope y) (apart_so y n)) ∙ scoped

      layout_here : has_layout u.memory.blocks (count w.memory.blocks) v.layout ≡ true
      layout_here =
          ap (λ t. has_layout t (count w.memory.blocks) v.layout) makes.blocks ∙ ap (λ b. is_block b (block_of v.layout)) (new_block w.memory.blocks v.layout) ∙ own_layout v.layout

      made_as : OpenedAs p s cells fr f (x ∷ []) (in_world c w) u new
      made_as = record {
        homes = homes;
        kept = λ y scoped. unchosen (x == y) _ _ (apart_so y (apart_scoped y scoped));
        stands = carried p s cells fr f (in_world c w) st stands (frame_inside fr (x ∷ []) u.memory.blocks homes) u new (record {
          good = good;
          blocks = same_own u.memory.blocks;
          table = λ has. to.besides.table ∙ ap (λ t. alloc t v.layout) (stands.table_is has) ∙ sym makes.blocks;
          memories = to.memories;
          size = to.besides.size ∙ (puts_are_held z (value (variables.Local x)) (number_datum (count st.table)) st below stands.size).size;
          sorted = λ a l off.
              subst (HasSort false) (sym (to.besides.places a l (not_renewed cells (file_kinds cells v) (λ k on. (and_parts (cells.has_kind k) (has_cell_of v.layout k) on).0) a off)))
              (held_number z (value (variables.Local x)) (count st.table) st a (stands.sorted a l off));
          more = there.more;
          hidden = λ i o. makes.cells (negsuc i) o (not_count (negsuc i) (count w.memory.blocks) (hidden_before i (suc (length w.memory.blocks))));
          globals = λ y l. (same_at (value (variables.Global y)) l refl (λ e. cc), same_at (offset (variables.Global y)) l refl (λ e. cc));
          locals = λ y v' e plain scoped.
              let l = found_below s.variables y v' e in
              let n = other_variable y v' e plain in (
                before_scoped y n scoped,
                local_apart y n,
                same_at (value (variables.Local y)) l refl (value_apart y n),
                same_at (offset (variables.Local y)) l refl (λ e. cc),
                same_at (flag (variables.Local y)) l refl (λ e. cc),
              );
          temporaries = λ n l. (same_at (temporary n) l refl (λ e. cc), same_at (temporary_offset n) l refl (λ e. cc));
          homes = home_is;
          living = living;
          unscoped = unscoped;
        });
        blocks = there;
        kinds = λ k none. same_cells k (sym (home_kinds_of s.variables x v k found) ∙ none);
        none = λ none. absurd (false≢true (sym none ∙ has_home_of s.variables x v found ∙ ap (λ t. not t || false) not_plain));
      }
        where
          in_old : (y : ℕ) → (x ≡ y → ⊥) → with_name x fr.in_scope y ≡ true → fr.in_scope y ≡ true
          in_old y n h = by (named_or_not x y) where
            by : (x ≡ y) ⊎ ((x ≡ y → ⊥) × ((i : _) → with_name x i y ≡ i y)) → fr.in_scope y ≡ true
            by (inl same) = absurd (n same)
            by (inr (apart, same)) = sym (same fr.in_scope) ∙ h

          home_is : (y : ℕ) (v' : Variable) → slice_get s.variables y ≡ Some v' → v'.is_plain ≡ false → with_name x fr.in_scope y ≡ true
              → (u.locals y ≡ home (homes y)) × (held z new (value (variables.Local y)) ≡ number_datum (homes y))
          home_is y v' e plain scoped = by (named_or_not x y) where
            by : (x ≡ y) ⊎ ((x ≡ y → ⊥) × ((i : _) → with_name x i y ≡ i y)) → (u.locals y ≡ home (homes y)) × (held z new (value (variables.Local y)) ≡ number_datum (homes y))
            by (inl same) =
                subst (λ y. (u.locals y ≡ home (homes y)) × (held z new (value (variables.Local y)) ≡ number_datum (homes y))) same
                (local_here ∙ ap home (sym (chosen (x == x) _ _ here_so)), number_here ∙ ap number_datum (sym (chosen (x == x) _ _ here_so)))
            by (inr (n, is)) =
                let was = stands.homes y v' e plain (sym (is fr.in_scope) ∙ scoped) in (
                  local_apart y n ∙ was.0 ∙ ap home (sym (unchosen (x == y) _ _ (apart_so y n))),
                  same_at (value (variables.Local y)) (found_below s.variables y v' e) refl (value_apart y n) ∙ was.1 ∙ ap number_datum (sym (unchosen (x == y) _ _ (apart_so y n))),
                )

          living : (y : ℕ) (v' : Variable) → slice_get s.variables y ≡ Some v' → v'.is_plain ≡ false → with_name x fr.in_scope y ≡ true → with_name x fr.in_scope y ≡ true
              → has_layout u.memory.blocks (homes y) v'.layout ≡ true
          living y v' e plain scoped lives = by (named_or_not x y) where
            by : (x ≡ y) ⊎ ((x ≡ y → ⊥) × ((i : _) → with_name x i y ≡ i y)) → has_layout u.memory.blocks (homes y) v'.layout ≡ true
            by (inl same) =
                ap (λ b. has_layout u.memory.blocks b v'.layout) (ap homes (sym same) ∙ chosen (x == x) _ _ here_so)
                ∙ ap (λ (v : Variable). has_layout u.memory.blocks (count w.memory.blocks) v.layout)
                (same_variable v' v (slice_get s.variables y) e (ap (slice_get s.variables) (sym same) ∙ found)) ∙ layout_here
            by (inr (n, is)) =
                let scoped_before = sym (is fr.in_scope) ∙ scoped in
                ap (λ b. has_layout u.memory.blocks b v'.layout) (unchosen (x == y) _ _ (apart_so y n))
                ∙ layout_still fr.table u.memory.blocks (fr.homes y) v'.layout
                (still_then fr.table w.memory.blocks u.memory.blocks (still_same fr.table w.memory.blocks stands.blocks_are) there)
                (stands.living y v' e plain scoped_before (all y scoped_before))

          unscoped : (y : ℕ) → y < length s.variables → with_name x fr.in_scope y ≡ false
              → (u.locals y ≡ unset) × (held z new (value (variables.Local y)) ≡ nothing) × (held z new (offset (variables.Local y)) ≡ nothing)
              × (held z new (flag (variables.Local y)) ≡ nothing)
          unscoped y l none = by (named_or_not x y) where
            by : (x ≡ y) ⊎ ((x ≡ y → ⊥) × ((i : _) → with_name x i y ≡ i y)) → (u.locals y ≡ unset) × (held z new (value (variables.Local y)) ≡ nothing)
                × (held z new (offset (variables.Local y)) ≡ nothing) × (held z new (flag (variables.Local y)) ≡ nothing)
            by (inl same) = absurd (false≢true (sym none ∙ ap (with_name x fr.in_scope) (sym same) ∙ name_in x fr.in_scope))
            by (inr (n, is)) =
                let was = stands.unscoped y l (sym (is fr.in_scope) ∙ none) in (
                  local_apart y n ∙ was.0,
                  same_at (value (variables.Local y)) l refl (value_apart y n) ∙ was.1,
                  same_at (offset (variables.Local y)) l refl (λ e. cc) ∙ was.2,
                  same_at (flag (variables.Local y)) l refl (λ e. cc) ∙ was.3,
                )

          same_cells : (k : CellKind) → ((not v.is_plain && has_cell_of v.layout k) || false) ≡ false → SameCells k w.memory.blocks u.memory.blocks
          same_cells k none =
              let alone : has_cell_of v.layout k ≡ false = ap (λ t. not t && has_cell_of v.layout k) (sym not_plain) ∙ (neither (not v.is_plain && has_cell_of v.layout k) false none).0 in
              subst (SameCells k w.memory.blocks) (sym makes.blocks)
              ((((newer_blocks_lack_kinds k).later w.memory.blocks w.memory.blocks ((newer_blocks_lack_kinds k).first w.memory.blocks)).made v.layout (ap not alone)).1)

  -- ---- both ways

  lists_read : ListsRead m p s cells w.memory st
  lists_read = record { model = setting.model; size = stands.size; stand = record { numbers_are = stands.numbers_are; pointers_are = stands.pointers_are } }

  makes_block : (n : ℕ) → MakesBlock m p s cells x v olds n w.memory st
  makes_block n = made_is_renewed m p s cells x v olds n w.memory st lists_read stands.good (stands.table_is (fits.blocks not_plain)) below (fits.kinds not_plain) short

  block_word : opened m p s cells x (Some v) ≡ block_opened m p s cells x v
  block_word = unchosen v.is_plain _ _ not_plain

  pub block_to : (contents : List Value) → IsGood p (made contents).memory → (n : ℕ) → MadeTo m p s cells fr f c olds x v w st n (made contents)
  block_to contents good n =
      let r = (makes_block n).forth (made contents).memory good (makes contents) in
      (r.0, subst (λ b. Seg olds n b st (goes_on r.0)) (sym block_word) r.1, made_as contents good r.0 r.2)

  pub block_from : (n : ℕ) (e : End) → Seg olds n (opened m p s cells x (Some v)) st e → MadeFrom m p s cells fr f c olds x v w st e
  block_from n e k =
      let r = (makes_block n).back e (subst (λ b. Seg olds n b st e) block_word k) in
      let some = (made_blocks_hold_contents p x bare w).any refl r.2 (good_shaped p w.memory stands.good) (good_shaped p r.2 r.3) r.4 r.5 in
      let same = some.1 in (
        made some.0,
        λ ys u' rest. with_cells found not_plain some.0 rest,
        (r.0, r.1, made_as some.0 (subst (IsGood p) (sym same) r.3) r.0 (subst (λ n. ComesTo p s cells (file_kinds cells v) (block_in p s x v st) n r.0) (sym same) r.6)),
      )
