-- Worlds behind a call and their slots: each such world has slots, and slots that may be come to are those of such a world.
use Rattle.std.proofs.Common.{◌≡◌, ℕ, zero, suc, ◌+◌, ◌<◌, ◌≤◌, ℤ, pos, negsuc, Bool, true, ◌&&◌, if◌then◌else◌, List, [], ◌∷◌, length, Some, None, slice_get, refl, sym, ap, ◌∙◌, subst, inr, arith}
use Rattle.std.specs.List.{list_all}
use Rattle.std.proofs.lemmas.Bool.{lt-ltb, le-leb, leb-true}
use Rattle.wp_base.specs.Blocks.{Table, count}
use Rattle.c_kinds.specs.Models.{holds}
use Rattle.typed_prog.specs.Tree as t
use Rattle.c_runs.specs.TruthStates as labelled
use Rattle.c_runs.specs.TruthStates.{Value, number, number_of}
use Rattle.qed_terms.specs.Meaning as sense
use Rattle.c_runs.specs.Program.{Variable, Function, Facts}
use Rattle.c_runs.specs.States.{Memory, World, seen_by_contract}
use Rattle.c_runs.specs.Claims.{at_entry, ensured, here_in, parts_of}
use Rattle.c_runs.specs.Scopes.{scalar_of}
use Rattle.c_runs.specs.Entry.{is_value, is_placed}
use Rattle.c_runs.specs.Allowed.{AllAllow, MayChange}
use Rattle.c_runs.specs.CoreRun.{CoreWorld, in_world}
use Rattle.c_runs.specs.Tree.{Steps}
use Rattle.goal_segments.specs.Segments.{SameBlocks, BehindCall}
use Rattle.goal_segments.specs.Segments as segment
use Rattle.goal_segments.proofs.Heads.{same_blocks, good_state, all_allow}
use Rattle.plain_states.specs.Slots.{State, at, held, double, value_slot, flag_slot, local_value, local_flag, answer_slot, temp_slot, memory_in}
use Rattle.plain_states.specs.Scopes.{is_integer, kind_of}
use Rattle.plain_states.proofs.Lists.{double_is}
use Rattle.plain_states.proofs.Scoping.{found_below, none_some}
use Rattle.plain_states.proofs.Entering.{when_true}
use Rattle.plain_runs.specs.Fitting.{IsGood, Shape, sizes, Fit}
use Rattle.plain_runs.proofs.Objects.{home_is}
use Rattle.plain_runs.proofs.Whole.{number_value, outer, start, same_memory}
use Rattle.program_steps.specs.Temporaries.{Temporaries}
use Rattle.program_steps.specs.Terms.{Texts}
use Rattle.program_steps.specs.Standing.{LocalIs, StandsFor}
use Rattle.program_steps.specs.Functions.{AllOf}
use Rattle.program_steps.proofs.Scoping.{found_at}
use Rattle.program_steps.proofs.Standing.{of_file}
use Rattle.call_words.specs.Fits.{CalleeFits}
use Rattle.call_words.proofs.Staying.{KeepsBy, granted_same}

same_after : (t u w : Table) → SameBlocks t u → SameBlocks u w → SameBlocks t w
same_after t u w h k = record {
  live = λ b. k.live b ∙ h.live b;
  more =
      let x = leb-true (suc (length t)) (suc (length u)) h.more in
      let y = leb-true (suc (length u)) (suc (length w)) k.more in
      le-leb (suc (length t)) (suc (length w)) (omega (arith, x, y));
}

-- ---- slots of the variables of the file alone

abbrev slots_from : ℕ → (ℕ → ℤ) → State
slots_from zero h = pos 0 ∷ pos 0 ∷ []
slots_from (suc n) h = h 0 ∷ pos 1 ∷ slots_from n (λ i. h (suc i))

from_length : (n : ℕ) (h : ℕ → ℤ) → length (slots_from n h) ≡ suc (suc (double n))
from_length zero h = refl
from_length (suc n) h = ap (λ k. suc (suc k)) (from_length n (λ i. h (suc i)))

from_value : (n : ℕ) (h : ℕ → ℤ) (x : ℕ) → x < n → at (slots_from n h) (value_slot x) ≡ h x
from_value zero h x l = absurd (omega (arith, l))
from_value (suc n) h zero l = refl
from_value (suc n) h (suc x) l = from_value n (λ i. h (suc i)) x (omega (arith, l))

from_flag : (n : ℕ) (h : ℕ → ℤ) (x : ℕ) → x < n → at (slots_from n h) (flag_slot x) ≡ pos 1
from_flag zero h x l = absurd (omega (arith, l))
from_flag (suc n) h zero l = refl
from_flag (suc n) h (suc x) l = from_flag n (λ i. h (suc i)) x (omega (arith, l))

module _ (p : Facts) (s : Shape) (globals : list_all is_integer p.globals ≡ true) (integers : list_all is_integer s.variables ≡ true) where
  -- a variable of the file holds a number in a good memory
  pub file_number : (u : Memory) → IsGood p u → (x : ℕ) (v : Variable) → slice_get p.globals x ≡ Some v
      → (u.cells (negsuc x) (pos 0) ≡ number (number_of (u.cells (negsuc x) (pos 0)))) × (holds p.model (kind_of v) (number_of (u.cells (negsuc x) (pos 0))) ≡ true)
  file_number u good x v e =
      let parts = of_file p s globals integers x v e in
      let placed : is_placed p u (negsuc x) v ≡ true = subst (λ b. is_placed p u b v ≡ true) (home_is p globals x v e) (good.well.globals x v e) in
      let there : is_value p u.blocks (scalar_of v.layout.cells) (u.cells (negsuc x) (pos 0)) ≡ true = sym (when_true v.is_plain _ _ parts.0) ∙ placed in
      let both = number_value p u.blocks (kind_of v) (u.cells (negsuc x) (pos 0)) (sym (ap (λ k. is_value p u.blocks k (u.cells (negsuc x) (pos 0))) parts.1) ∙ there) in
      (sym both.0, both.1)

  -- ---- slots stand for the world behind

  module _ {t0 : Table} (i : ℕ → Bool) (used : Temporaries) (c : CoreWorld) (st : State) (stands : StandsFor p s t0 i used c st) where
    abbrev pub Behind : State → Type 0
    Behind after = (j : ℕ) → double (length p.globals) ≤ j → (j ≡ answer_slot (sizes p s) → ⊥) → at after j ≡ at st j

    pub stands_behind : (u : World) (after : State) → length after ≡ length st → IsGood p u.memory → SameBlocks c.world.memory.blocks u.memory.blocks
        → ((x : ℕ) (v : Variable) → slice_get p.globals x ≡ Some v → u.memory.cells (negsuc x) (pos 0) ≡ number (at after (value_slot x)))
        → ((x : ℕ) → u.locals x ≡ c.world.locals x) → Behind after → StandsFor p s t0 i used (in_world c u) after
    stands_behind u after size good blocks cells locals behind = record {
      size = size ∙ stands.size;
      good = good;
      blocks = same_after t0 c.world.memory.blocks u.memory.blocks stands.blocks blocks;
      globals = cells;
      locals = λ x v e.
          let same = local_same x (found_below s.variables x v e) in
          subst (λ l. LocalIs p v l (at after (local_value (sizes p s) x)) (at after (local_flag (sizes p s) x))) (sym (locals x))
          (subst (λ a. LocalIs p v (c.world.locals x) a (at after (local_flag (sizes p s) x))) (sym same.0)
          (subst (LocalIs p v (c.world.locals x) (at st (local_value (sizes p s) x))) (sym same.1) (stands.locals x v e)));
      temporaries = λ j l e.
          let old = stands.temporaries j l e in
          let same = temp_same j in
          record { same = old.same ∙ ap number (sym same); fits = ap (holds p.model (s.temp_kind j)) same ∙ old.fits };
      unscoped = λ x l e. let same = local_same x l in let h = stands.unscoped x l e in (same.0 ∙ h.0, same.1 ∙ h.1);
    }
      where
        local_same : (x : ℕ) → x < length s.variables
            → (at after (local_value (sizes p s) x) ≡ at st (local_value (sizes p s) x)) × (at after (local_flag (sizes p s) x) ≡ at st (local_flag (sizes p s) x))
        local_same x l =
            let a = double_is (length p.globals) in
            let b = double_is (length p.globals + x) in
            let d = double_is (length p.globals + length s.variables) in (
              behind (local_value (sizes p s) x) (omega (arith, a, b)) (λ e. omega (arith, l, b, d, e)),
              behind (local_flag (sizes p s) x) (omega (arith, a, b)) (λ e. omega (arith, l, b, d, e)),
            )

        temp_same : (j : ℕ) → at after (temp_slot (sizes p s) j) ≡ at st (temp_slot (sizes p s) j)
        temp_same j =
            let a = double_is (length p.globals) in
            let d = double_is (length p.globals + length s.variables) in
            behind (temp_slot (sizes p s) j) (omega (arith, a, d)) (λ e. omega (arith, e))

  -- ---- the world that slots tell

  module _ (w : World) (good : IsGood p w.memory) (after : State) (fits : (x : ℕ) (v : Variable) → slice_get p.globals x ≡ Some v → holds p.model (kind_of v) (at after (value_slot x)) ≡ true) where
    abbrev file_slots : State
    file_slots = slots_from (length p.globals) (λ x. at after (value_slot x))

    abbrev pub behind_memory : Memory
    behind_memory = memory_in (sizes p outer) w.memory file_slots

    abbrev pub behind_world : World
    behind_world = record w { memory = behind_memory }

    file_fits : Fit p outer file_slots
    file_fits =
        let h = from_length (length p.globals) (λ x. at after (value_slot x)) in
        let e : length p.globals + 0 ≡ length p.globals = omega arith in
        record {
          size = h ∙ omega arith ∙ sym (ap (λ n. suc (suc (double n)) + 0) e);
          globals = λ x v g. ap (holds p.model (kind_of v)) (from_value (length p.globals) (λ x. at after (value_slot x)) x (found_below p.globals x v g)) ∙ fits x v g;
          locals = λ x v g. absurd (none_some v g);
          temps = λ n l. absurd (omega (arith, l));
          flags = λ x l. inr (from_flag (length p.globals) (λ x. at after (value_slot x)) x (omega (arith, l)));
        }

    pub behind_good : IsGood p behind_memory
    behind_good = good_state p globals w.memory good outer file_slots file_fits

    pub behind_cells : (x : ℕ) (v : Variable) → slice_get p.globals x ≡ Some v → behind_memory.cells (negsuc x) (pos 0) ≡ number (at after (value_slot x))
    behind_cells x v e =
        let l = found_below p.globals x v e in
        ap (λ t. if t && true then held file_slots (value_slot x) else w.memory.cells (negsuc x) (pos 0)) (lt-ltb x (length p.globals) l)
        ∙ ap number (from_value (length p.globals) (λ x. at after (value_slot x)) x l)

    -- it is one that the contract lets be, where it keeps what its clauses don't name
    module _ (m : sense.World) (texts : Texts) (g : Function Steps) (es : t.Values) (callee : CalleeFits m p s texts g es) (vs : List Value) (st : State)
        (before : (x : ℕ) (v : Variable) → slice_get p.globals x ≡ Some v → w.memory.cells (negsuc x) (pos 0) ≡ number (at st (value_slot x)))
        (keep : AllOf (KeepsBy m p s texts g es globals w.memory vs after st) (parts_of g.contract)) where
      abbrev first : State
      first = start p globals w.memory good.well

      first_value : (x : ℕ) → x < length p.globals → at first (value_slot x) ≡ at st (value_slot x)
      first_value x l =
          let u = found_at p.globals x l in
          ap number_of (sym (ap (λ t. if t && true then held first (value_slot x) else w.memory.cells (negsuc x) (pos 0)) (lt-ltb x (length p.globals) l))
          ∙ ap (λ (a : Memory). a.cells (negsuc x) (pos 0)) (same_memory p globals w.memory good.well) ∙ before x u.0 u.1)

      abbrev entry : labelled.World
      entry = at_entry p vs w.memory

      allowed : MayChange p g.contract vs w.memory behind_memory
      allowed = subst (λ a. AllAllow p entry (parts_of g.contract) (seen_by_contract p vs a) (seen_by_contract p vs behind_memory)) (same_memory p globals w.memory good.well)
          (all_allow p globals w.memory good outer vs entry (count w.memory.blocks) first file_slots (parts_of g.contract)
          (λ x l h. from_value (length p.globals) (λ x. at after (value_slot x)) x l
          ∙ granted_same m p s texts g es globals w.memory vs after st (count w.memory.blocks) (parts_of g.contract) (callee.plain, callee.behaviors) keep x l h ∙ sym (first_value x l)))

      pub behind_call : (k : ℕ) (v : Value) → segment.IsResult p behind_memory.blocks g.result v → ensured p (here_in p k vs w.memory g.contract []) behind_memory v g.contract ≡ None
          → BehindCall p k g vs w v behind_world
      behind_call k v result promised = record {
        good = behind_good;
        blocks = same_blocks w.memory.blocks;
        changes = allowed;
        locals = λ x. refl;
        result = result;
        promises = promised;
      }
