-- Frames whose tables have the same live blocks; variables that are named; places that are put.
use Rattle.std.proofs.Common.{◌≡◌, ◌⊎◌, ℕ, ℤ, Bool, true, false, ◌&&◌, ◌||◌, List, [], ◌∷◌, refl, sym, ap, ◌∙◌, subst, inl, inr}
use Rattle.std.specs.Prelude.{int_lt, ◌==◌}
use Rattle.std.proofs.lemmas.Bool.{false≢true}
use Rattle.std.proofs.lemmas.Bool.Decides.{Decides-eqb}
use Rattle.wp_base.specs.declared.kinds.CellKind.{CellKind}
use Rattle.wp_base.specs.declared.kinds.Layout.{Layout}
use Rattle.wp_base.specs.Blocks.{Table, count, block_of, is_block, has_layout, cells_of, same_cell, same_cells, same_truth}
use Rattle.c_runs.specs.Program.{Facts}
use Rattle.c_runs.specs.CoreRun.{CoreWorld}
use Rattle.goal_segments.specs.Told.{with_name, with_names}
use Rattle.goal_segments.specs.Segments.{SameBlocks}
use Rattle.typed_memories.proofs.Tests.{on_test}
use Rattle.typed_memories.specs.Changes.{StillThere}
use Rattle.typed_memories.proofs.Tables.{no_block}
use Rattle.memory_steps.specs.State.{State}
use Rattle.program_steps.specs.Temporaries.{Temporaries}
use Rattle.memory_words.specs.Shapes.{FileCells, Shape}
use Rattle.memory_words.specs.Readings.{InScope}
use Rattle.memory_words.specs.Standing.{Frame, AllLive, StandsFor}

-- ---- blocks that are still there

pub layout_still : (t u : Table) (b : ℤ) (l : Layout) → StillThere t u → has_layout t b l ≡ true → has_layout u b l ≡ true
layout_still t u b l there h =
    on_test (int_lt b (count t)) (λ below. ap (λ x. is_block x (block_of l)) (there.blocks b below) ∙ h)
    (λ above. absurd (false≢true (sym (ap (λ x. is_block x (block_of l)) (no_block t b above)) ∙ h)))

same_kind : (k : CellKind) → same_cell k k ≡ true
same_kind k = (Decides-eqb _ _).1 refl

all_same : (ks : List CellKind) → same_cells ks ks ≡ true
all_same [] = refl
all_same (k ∷ ks) = ap (λ t. t && same_cells ks ks) (same_kind k) ∙ all_same ks

same_as_it : (t : Bool) → same_truth t t ≡ true
same_as_it true = refl
same_as_it false = refl

pub own_layout : (l : Layout) → is_block (block_of l) (block_of l) ≡ true
own_layout l = ap (λ t. t && same_truth l.writable l.writable) (all_same (cells_of l)) ∙ same_as_it l.writable

-- ---- variables that are named

pub named_or_not : (x y : ℕ) → (x ≡ y) ⊎ ((x ≡ y → ⊥) × ((i : InScope) → with_name x i y ≡ i y))
named_or_not x y =
    on_test (x == y) (λ e. inl ((Decides-eqb x y).0 e))
    (λ e. inr ((λ same. false≢true (sym e ∙ (Decides-eqb x y).1 same)), λ i. ap (λ t. t || i y) e))

pub name_in : (x : ℕ) (i : InScope) → with_name x i x ≡ true
name_in x i = ap (λ t. t || i x) ((Decides-eqb x x).1 refl)

pub names_more : (ys : List ℕ) (i j : InScope) → ((x : ℕ) → i x ≡ true → j x ≡ true) → (x : ℕ) → with_names ys i x ≡ true → with_names ys j x ≡ true
names_more [] i j more x h = more x h
names_more (y ∷ ys) i j more x h =
    names_more ys (with_name y i) (with_name y j) (λ z k. by z (named_or_not y z) k) x h
  where
    by : (z : ℕ) → (y ≡ z) ⊎ ((y ≡ z → ⊥) × ((i : InScope) → with_name y i z ≡ i z)) → with_name y i z ≡ true → with_name y j z ≡ true
    by z (inl e) k = subst (λ z. with_name y j z ≡ true) e (name_in y j)
    by z (inr (apart, same)) k = same j ∙ more z (sym (same i) ∙ k)

pub in_names : (ys : List ℕ) (i : InScope) (x : ℕ) → i x ≡ true → with_names ys i x ≡ true
in_names [] i x h = h
in_names (y ∷ ys) i x h = in_names ys (with_name y i) x (by (named_or_not y x)) where
  by : (y ≡ x) ⊎ ((y ≡ x → ⊥) × ((i : InScope) → with_name y i x ≡ i x)) → with_name y i x ≡ true
  by (inl e) = subst (λ z. with_name y i z ≡ true) e (name_in y i)
  by (inr (apart, same)) = same i ∙ h

pub names_same : (ys : List ℕ) (i j : InScope) → ((x : ℕ) → i x ≡ j x) → (x : ℕ) → with_names ys i x ≡ with_names ys j x
names_same [] i j same x = same x
names_same (y ∷ ys) i j same x = names_same ys (with_name y i) (with_name y j) (λ z. ap (λ t. (y == z) || t) (same z)) x

-- ---- another table

module _ (p : Facts) (s : Shape) (cells : FileCells) (f : Temporaries) (c : CoreWorld) (st : State) where
  -- all blocks of variables in scope live, and the table is one with the same blocks
  pub retabled : (fr : Frame) → AllLive fr → StandsFor p s cells fr f c st → (t : Table) → SameBlocks t c.world.memory.blocks
      → StandsFor p s cells (record { in_scope = fr.in_scope; table = t; lives = fr.in_scope; homes = fr.homes }) f c st
  retabled fr all stands t same = record {
    size = stands.size;
    sorted = stands.sorted;
    good = stands.good;
    blocks_are = same;
    table_is = stands.table_is;
    numbers_are = stands.numbers_are;
    pointers_are = stands.pointers_are;
    globals = stands.globals;
    locals = stands.locals;
    homes = stands.homes;
    living = λ x v e plain scoped lives.
        ap (λ b. is_block b (block_of v.layout)) (sym (same.live (fr.homes x)) ∙ stands.blocks_are.live (fr.homes x)) ∙ stands.living x v e plain scoped (all x scoped);
    temporaries = stands.temporaries;
    unscoped = stands.unscoped;
  }
