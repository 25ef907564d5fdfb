-- Open scopes end.
use Rattle.std.proofs.Common.{◌≡◌, ◌⊎◌, ℕ, zero, suc, ◌+◌, ◌<◌, ℤ, pos, negsuc, true, false, List, [], ◌∷◌, length, refl, sym, ap, ◌∙◌, subst, inl, inr, arith}
use Rattle.std.specs.Prelude.{int_le, int_lt}
use Rattle.std.proofs.lemmas.Bool.{leb-true, le-leb}
use Rattle.wp_base.specs.Blocks.{Table, count, grow}
use Rattle.typed_prog.specs.declared.operators.Variable.TheVariants as variables
use Rattle.qed_terms.specs.Meaning as sense
use Rattle.c_runs.specs.TruthStates.{number}
use Rattle.c_runs.specs.Program.{Facts}
use Rattle.c_runs.specs.States.{Memory, World, with_memory}
use Rattle.c_runs.specs.Scopes.{ended_since}
use Rattle.c_runs.specs.CoreRun.{CoreWorld, in_world}
use Rattle.goal_segments.specs.Told.{IsGood}
use Rattle.goal_segments.specs.Segments.{SameBlocks}
use Rattle.typed_memories.specs.Cells.{typed, encoded}
use Rattle.typed_memories.proofs.Listing.{states_have_memories}
use Rattle.typed_memories.specs.Changes.{StillThere}
use Rattle.typed_memories.proofs.Tests.{chosen}
use Rattle.typed_memories.proofs.Tables.{same_grown, grown_same}
use Rattle.typed_memories.proofs.Making.{hidden_before}
use Rattle.typed_memories.proofs.Alone.{newer_blocks_lack_kinds}
use Rattle.typed_memories.proofs.Ending.{growing_ends_blocks, standing_blocks_stay}
use Rattle.run_blocks.proofs.Standing.{still_same, still_then}
use Rattle.run_blocks.proofs.Good.{ends_are_good}
use Rattle.program_steps.specs.Temporaries.{Temporaries}
use Rattle.walk_steps.specs.State.{at_or}
use Rattle.memory_steps.specs.State.{State, HasSort, state}
use Rattle.memory_steps.specs.Step as step
use Rattle.memory_steps.specs.Step.{Step, count as checks_in}
use Rattle.memory_steps.specs.Run.{End, goes_on, IsOver, Seg}
use Rattle.memory_steps.specs.Run as seg
use Rattle.memory_steps.proofs.Readings.{seq_ways}
use Rattle.memory_words.specs.Places.{Place, value, offset, flag, result, result_offset, temporary, temporary_offset, IsIn, held}
use Rattle.memory_words.proofs.Lists.{found_below}
use Rattle.memory_words.specs.Shapes.{FileCells, Shape, sizes}
use Rattle.memory_words.specs.Standing.{Frame, StandsFor}
use Rattle.memory_words.specs.Seen.{InSetting}
use Rattle.memory_words.specs.Points.{Open}
use Rattle.memory_words.specs.Words.{scope_ends, all_end}
use Rattle.memory_words.specs.Placed.{Opening, frame_behind, IsOpen}
use Rattle.memory_statements.specs.Renewed.{ListsRead, is_renewed}
use Rattle.memory_statements.specs.RenewalLaws.{ComesTo, EndsFrom, EndsBlocks, ended_in}
use Rattle.memory_statements.specs.Scopes.{GoesTo, EndedAs}
use Rattle.memory_statements.specs.ScopeLaws.{ScopesEnd, AllScopesEnd, NothingEnds}
use Rattle.memory_statements.proofs.Places.{not_renewed}
use Rattle.memory_statements.proofs.Ended.{ended_is_renewed}
use Rattle.memory_statements.proofs.Carrying.{carried}

-- ---- words that go on

pub goes_parts : {a b : State} → goes_on a ≡ goes_on b → a ≡ b
goes_parts e = cc

pub goes_then : (olds : List State) (a b : Step) (st : State) (so also : State → Type 0) → GoesTo olds a st so → ((mid : State) → so mid → GoesTo olds b mid also)
    → GoesTo olds (step.seq a b) st also
goes_then olds a b st so also first second = record {
  forth = λ n. let x = first.forth n in let y = (second x.0 x.2).forth (n + checks_in a) in (y.0, seg.goes_both x.1 y.1, y.2);
  back = λ n e k. by n e (seq_ways k);
}
  where
    by : (n : ℕ) (e : End) → (IsOver e × Seg olds n a st e) ⊎ ((mid : State) × Seg olds n a st (goes_on mid) × Seg olds (n + checks_in a) b mid e)
        → (new : State) × (goes_on new ≡ e) × also new
    by n e (inl (over, k)) = absurd (subst IsOver (sym (first.back n e k).1) over)
    by n e (inr (mid, k, l)) = let x = first.back n (goes_on mid) k in (second mid (subst so (goes_parts x.1) x.2)).back (n + checks_in a) e l

pub goes_as : (olds : List State) (a : Step) (st : State) (so also : State → Type 0) → ((new : State) → so new → also new) → GoesTo olds a st so → GoesTo olds a st also
goes_as olds a st so also more h = record {
  forth = λ n. let x = h.forth n in (x.0, x.1, more x.0 x.2);
  back = λ n e k. let x = h.back n e k in (x.0, x.1, more x.0 x.2);
}

-- ---- tables

pub more_through : (a b c : Table) → int_le (count a) (count b) ≡ true → int_le (count b) (count c) ≡ true → int_le (count a) (count c) ≡ true
more_through a b c h k =
    let x = leb-true (suc (length a)) (suc (length b)) h in
    let y = leb-true (suc (length b)) (suc (length c)) k in
    le-leb (suc (length a)) (suc (length c)) (omega (arith, x, y))

pub as_many : (a : Table) → int_le (count a) (count a) ≡ true
as_many a = le-leb (suc (length a)) (suc (length a)) (omega arith)

pub same_own : (t : Table) → SameBlocks t t
same_own t = record { live = λ b. refl; more = as_many t }

pub same_through : (t u w : Table) → SameBlocks t u → SameBlocks u w → SameBlocks t w
same_through t u w h k = record { live = λ b. k.live b ∙ h.live b; more = more_through t u w h.more k.more }

at_there : {X : Type 0} (d e : X) (xs : List X) (i : ℕ) → i < length xs → at_or d xs i ≡ at_or e xs i
at_there d e [] i l = absurd (omega (arith, l))
at_there d e (x ∷ xs) zero l = refl
at_there d e (x ∷ xs) (suc i) l = at_there d e xs i (omega (arith, l))

pub same_since : (before n : Memory) (i : ℕ) (z : ℤ) → (ended_since before n).cells (negsuc i) z ≡ n.cells (negsuc i) z
same_since before n i z = chosen (int_lt (negsuc i) (count before.blocks)) (n.cells (negsuc i) z) (number (pos 0)) (hidden_before i (suc (length before.blocks)))

-- ---- one scope

module _ (m : sense.World) (p : Facts) (s : Shape) (cells : FileCells) (setting : InSetting m p s cells) (olds : List State) (fr : Frame) (f : Temporaries) (o : Open)
    (q : Opening) (is_open : IsOpen p s cells olds fr.in_scope fr.homes fr.table o q) (c : CoreWorld) (st : State) (stands : StandsFor p s cells fr f c st) where
  abbrev now : Memory
  now = c.world.memory

  there : StillThere q.before.blocks now.blocks
  there = still_then q.before.blocks fr.table now.blocks is_open.blocks (still_same fr.table now.blocks stands.blocks_are)

  abbrev behind : World
  behind = with_memory (ended_since q.before now) c.world

  good_behind : IsGood p (ended_since q.before now)
  good_behind = ends_are_good p q.before [] c.world there is_open.good stands.good

  lists_read : ListsRead m p s cells now st
  lists_read = record { model = setting.model; size = stands.size; stand = record { numbers_are = stands.numbers_are; pointers_are = stands.pointers_are } }

  ends_from : EndsFrom cells olds o q.before now
  ends_from = record {
    level_there = is_open.level_there;
    level_is = is_open.level_is;
    blocks = there;
    kinds = λ k has none. (((newer_blocks_lack_kinds k).later q.before.blocks fr.table (is_open.kinds k has none)).changed now.blocks stands.blocks_are).0;
    of_file = λ k has. (is_open.of_file k has).0;
  }

  table_behind : (ended_in olds o st).table ≡ grow q.before.blocks (count now.blocks)
  table_behind =
      let old = ap (λ (x : State). x.table) (at_there st (state [] []) olds o.level is_open.level_there) ∙ is_open.level_is in
      let here = stands.table_is is_open.in_blocks in
      λ i. grow (old i) (count (here i))

  ended : (new : State) → ComesTo p s cells o.has_kind (ended_in olds o st) (ended_since q.before now) new → EndedAs p s cells fr f (q ∷ []) c st new
  ended new to =
      let stay = standing_blocks_stay q.before.blocks now.blocks there in
      let same : (a : Place) → IsIn (sizes p s) a → is_renewed o.has_kind a ≡ false → held (sizes p s) new a ≡ held (sizes p s) st a = to.besides.places in
      record {
        stands = carried p s cells fr f c st stands (frame_behind fr (q ∷ [])) behind new (record {
          good = good_behind;
          blocks = same_through q.around q.before.blocks (grow q.before.blocks (count now.blocks)) is_open.around (grown_same q.before.blocks (count now.blocks));
          table = λ has. to.besides.table ∙ table_behind;
          memories = to.memories;
          size = to.besides.size;
          sorted = λ a l off. subst (HasSort false) (sym (same a l (not_renewed cells o.has_kind (λ k has. (is_open.of_file k has).0) a off))) (stands.sorted a l off);
          more = ap (λ z. int_le (count now.blocks) z) stay.all_ended.1 ∙ as_many now.blocks;
          hidden = λ i z. same_since q.before now i z;
          globals = λ x l. (same (value (variables.Global x)) l refl, same (offset (variables.Global x)) l refl);
          locals = λ x v e plain scoped.
              let l = found_below s.variables x v e in
              (scoped, refl, same (value (variables.Local x)) l refl, same (offset (variables.Local x)) l refl, same (flag (variables.Local x)) l refl);
          temporaries = λ n l. (same (temporary n) l refl, same (temporary_offset n) l refl);
          homes = λ x v e plain scoped.
              let was = stands.homes x v e plain scoped in
              (was.0, same (value (variables.Local x)) (found_below s.variables x v e) refl ∙ was.1);
          living = λ x v e plain scoped lives. is_open.living x v e plain lives;
          unscoped = λ x l out.
              let was = stands.unscoped x l out in
              (was.0, same (value (variables.Local x)) l refl ∙ was.1, same (offset (variables.Local x)) l refl ∙ was.2, same (flag (variables.Local x)) l refl ∙ was.3);
        });
        result = same result tt refl;
        offset = same result_offset tt refl;
      }

pub scopes_end : ScopesEnd
scopes_end m p s cells setting olds fr f o q is_open c st stands = record {
  forth = λ n. let x = (renews n).forth in (x.0, x.1, ended m p s cells setting olds fr f o q is_open c st stands x.0 x.2);
  back = λ n e k. let x = (renews n).back e k in (x.0, x.1, ended m p s cells setting olds fr f o q is_open c st stands x.0 x.2);
}
  where
    renews : (n : ℕ) → EndsBlocks m p s cells o q.before olds n c.world.memory st
    renews n = ended_is_renewed m p s cells o q.before olds n c.world.memory st (lists_read m p s cells setting olds fr f o q is_open c st stands) stands.good
        (good_behind m p s cells setting olds fr f o q is_open c st stands) (stands.table_is is_open.in_blocks) (ends_from m p s cells setting olds fr f o q is_open c st stands)

-- ---- several scopes

-- behind the first one, of which the others are as they were around
pub all_scopes_end : AllScopesEnd
all_scopes_end m p s cells setting olds fr f [] [] are_open c st stands = record {
  forth = λ n. (st, seg.skips, record { stands = stands; result = refl; offset = refl });
  back = λ n e k. (st, skip_way e k, record { stands = stands; result = refl; offset = refl });
}
  where
    skip_way : {n : ℕ} (e : End) → Seg olds n step.skip st e → goes_on st ≡ e
    skip_way _ seg.skips = refl
all_scopes_end m p s cells setting olds fr f [] (q ∷ qs) are_open c st stands = absurd are_open
all_scopes_end m p s cells setting olds fr f (o ∷ os) [] are_open c st stands = absurd are_open
all_scopes_end m p s cells setting olds fr f (o ∷ os) (q ∷ qs) are_open c st stands =
    goes_then olds (scope_ends m p s cells o) (all_end m p s cells os) st (EndedAs p s cells fr f (q ∷ []) c st) (EndedAs p s cells fr f (q ∷ qs) c st)
    (scopes_end m p s cells setting olds fr f o q are_open.0 c st stands)
    (λ mid one. goes_as olds (all_end m p s cells os) mid (EndedAs p s cells (frame_behind fr (q ∷ [])) f qs (in_world c (with_memory (ended_since q.before c.world.memory) c.world)) mid)
    (EndedAs p s cells fr f (q ∷ qs) c st)
    (λ new rest. record { stands = rest.stands; result = rest.result ∙ one.result; offset = rest.offset ∙ one.offset })
    (all_scopes_end m p s cells setting olds (frame_behind fr (q ∷ [])) f os qs are_open.1 (in_world c (with_memory (ended_since q.before c.world.memory) c.world)) mid one.stands))

-- ---- where the same blocks live nothing ends

pub nothing_ends : NothingEnds
nothing_ends before m shaped same =
    let there : StillThere before.blocks m.blocks = still_same before.blocks m.blocks same in
    let g = typed (encoded m) in
    let read = (states_have_memories m).some in
    sym ((growing_ends_blocks before m m g g there (record { before = read; behind = read; shaped_before = shaped; shaped_behind = shaped })).ends.0
    (sym (same_grown before.blocks m.blocks same), λ k b o out. refl, λ i o. refl))
