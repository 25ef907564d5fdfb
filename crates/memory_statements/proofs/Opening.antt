-- The variables of a block are made, one after the other.
use Rattle.std.proofs.Common.{◌≡◌, ◌⊎◌, ℕ, zero, suc, ◌+◌, ℤ, pos, true, false, ◌||◌, List, [], ◌∷◌, length, Option, Some, None, is_some, slice_get, refl, sym, ap}
use Rattle.std.proofs.Common.{◌∙◌, subst, inl, inr}
use Rattle.std.specs.Prelude.{int_le}
use Rattle.std.specs.Option.{unwrap_or}
use Rattle.std.specs.List.{list_all}
use Rattle.std.proofs.lemmas.Bool.{false≢true, and_parts}
use Rattle.wp_base.specs.Blocks.{cells_of}
use Rattle.c_kinds.specs.Models.{high, difference_kind}
use Rattle.qed_terms.specs.Meaning as sense
use Rattle.c_runs.specs.Program.{Variable, Facts}
use Rattle.c_runs.specs.States.{World, plain, with_local}
use Rattle.c_runs.specs.Scopes.{variable_made, block_made}
use Rattle.c_runs.specs.CoreRun.{CoreWorld, in_world}
use Rattle.goal_segments.specs.Segments.{Opened, all_opened, unknown, with_value, not_set, with_cells}
use Rattle.typed_memories.proofs.Tests.{on_test, neither, or_left}
use Rattle.run_blocks.specs.Ends.{is_short}
use Rattle.run_blocks.proofs.Standing.{still, still_then}
use Rattle.run_blocks.proofs.Good.{openings_are_good}
use Rattle.program_steps.specs.Temporaries.{Temporaries}
use Rattle.memory_steps.specs.State.{State}
use Rattle.memory_steps.specs.Step.{count as checks_in}
use Rattle.memory_steps.specs.Run.{End, goes_on, IsOver, Seg}
use Rattle.memory_steps.specs.Run as seg
use Rattle.memory_steps.proofs.Readings.{seq_ways}
use Rattle.memory_words.specs.Shapes.{FileCells, Shape}
use Rattle.memory_words.specs.Standing.{Frame, AllLive, StandsFor}
use Rattle.memory_words.specs.Seen.{InSetting}
use Rattle.memory_words.specs.Words as word
use Rattle.memory_words.specs.Words.{home_kinds, has_home, opened}
use Rattle.memory_words.specs.Typed.{DeclaredFits, Declares}
use Rattle.memory_statements.specs.Scopes.{frame_inside, OpenedAs}
use Rattle.memory_statements.specs.ScopeLaws.{OpeningsRun}
use Rattle.memory_statements.proofs.Ending.{goes_parts, same_own}
use Rattle.memory_statements.proofs.Framing.{in_names, retabled}
use Rattle.memory_statements.proofs.Plain.{MadeTo, MadeFrom, value_to, value_from, any_to, any_from_run}
use Rattle.memory_statements.proofs.Block.{same_variable, block_to, block_from}

none_some : {X : Type 0} {x : X} → None ≡ Some x → ⊥
none_some e = cc

short_of : (p : Facts) (xs : List Variable) → list_all (is_short p) xs ≡ true → (x : ℕ) (v : Variable) → slice_get xs x ≡ Some v → is_short p v ≡ true
short_of p [] h x v e = absurd (false≢true (ap is_some e))
short_of p (y ∷ xs) h zero v e =
    ap (λ (o : Option Variable). is_short p (unwrap_or o y)) (sym e) ∙ (and_parts (is_short p y) (list_all (is_short p) xs) h).0
short_of p (y ∷ xs) h (suc x) v e = short_of p xs (and_parts (is_short p y) (list_all (is_short p) xs) h).1 x v e

module _ (m : sense.World) (p : Facts) (s : Shape) (cells : FileCells) (setting : InSetting m p s cells) (short : list_all (is_short p) s.variables ≡ true) (f : Temporaries)
    (olds : List State) (c : CoreWorld) where
  -- ---- one, and those behind

  -- where the first one has been made
  abbrev next : Frame → ℕ → World → (homes : ℕ → ℤ) → Frame
  next fr x u homes = frame_inside fr (x ∷ []) u.memory.blocks homes

  join_opened : (fr : Frame) (x : ℕ) (ys : List ℕ) (w u u' : World) (mid new : State) (one : OpenedAs p s cells fr f (x ∷ []) (in_world c w) u mid)
      → OpenedAs p s cells (next fr x u one.homes) f ys (in_world c u) u' new → OpenedAs p s cells fr f (x ∷ ys) (in_world c w) u' new
  join_opened fr x ys w u u' mid new one rest = record {
    homes = rest.homes;
    kept = λ y scoped. rest.kept y (in_names (x ∷ []) fr.in_scope y scoped) ∙ one.kept y scoped;
    stands = rest.stands;
    blocks = still_then w.memory.blocks u.memory.blocks u'.memory.blocks one.blocks rest.blocks;
    kinds = λ k none b o. let both = neither _ _ none in rest.kinds k both.1 b o ∙ one.kinds k (ap (λ t. t || false) both.0) b o;
    none = λ none. let both = neither _ _ none in rest.none both.1 ∙ one.none (ap (λ t. t || false) both.0);
  }

  opened_none : (fr : Frame) → AllLive fr → (w : World) (st : State) → StandsFor p s cells fr f (in_world c w) st → OpenedAs p s cells fr f [] (in_world c w) w st
  opened_none fr all w st stands = record {
    homes = fr.homes;
    kept = λ y scoped. refl;
    stands = retabled p s cells f (in_world c w) st fr all stands w.memory.blocks (same_own w.memory.blocks);
    blocks = still w.memory.blocks;
    kinds = λ k none b o. refl;
    none = λ none. refl;
  }

  -- ---- forth

  abbrev ForthTo : Frame → List ℕ → World → World → State → ℕ → Type 0
  ForthTo fr ys w u st n = (new : State) × Seg olds n (word.all_opened m p s cells ys) st (goes_on new) × OpenedAs p s cells fr f ys (in_world c w) u new

  one_then : (fr : Frame) (x : ℕ) (ys : List ℕ) (v : Variable) → slice_get s.variables x ≡ Some v → (w u u' : World) (st : State) (n : ℕ)
      → MadeTo m p s cells fr f c olds x v w st n u
      → ((mid : State) (one : OpenedAs p s cells fr f (x ∷ []) (in_world c w) u mid)
      → ForthTo (next fr x u one.homes) ys u u' mid (n + checks_in (opened m p s cells x (slice_get s.variables x)))) → ForthTo fr (x ∷ ys) w u' st n
  one_then fr x ys v e w u u' st n (mid, run, one) rest =
      let r = rest mid one in
      (r.0, seg.goes_both (subst (λ o. Seg olds n (opened m p s cells x o) st (goes_on mid)) (sym e) run) r.1, join_opened fr x ys w u u' mid r.0 one r.2)

  all_next : (fr : Frame) (x : ℕ) (u : World) (homes : ℕ → ℤ) → AllLive (next fr x u homes)
  all_next fr x u homes y h = h

  module _ (fr : Frame) (x : ℕ) (ys : List ℕ) (d : Declares s cells fr.in_scope (x ∷ ys)) (v : Variable) (e : slice_get s.variables x ≡ Some v) where
    fits_of : DeclaredFits s cells v
    fits_of = subst (DeclaredFits s cells) (same_variable d.1.0 v (slice_get s.variables x) d.1.1 e) d.1.2

    short_so : v.is_plain ≡ false → int_le (pos (length (cells_of v.layout))) (high p.model (difference_kind p.model)) ≡ true
    short_so not_plain = or_left v.is_plain _ (short_of p s.variables short x v e) not_plain

  forth : (ys : List ℕ) (fr : Frame) → AllLive fr → Declares s cells fr.in_scope ys → (w u : World) (st : State) → StandsFor p s cells fr f (in_world c w) st
      → Opened p s.variables ys w u → (n : ℕ) → ForthTo fr ys w u st n
  forth [] fr all d w _ st stands all_opened n = (st, seg.skips, opened_none fr all w st stands)
  forth (x ∷ ys) fr all d w u st stands (unknown e rest) n = absurd (none_some (sym e ∙ d.1.1))
  forth (x ∷ ys) fr all d w u st stands (with_value {v = v} e has plain_v rest) n =
      one_then fr x ys v e w (variable_made p x (Some v) w) u st n (value_to m p s cells fr all f c olds x v e plain_v d.0 w st stands has n)
      (λ mid one. forth ys (next fr x (variable_made p x (Some v) w) one.homes) (all_next fr x (variable_made p x (Some v) w) one.homes) d.2 (variable_made p x (Some v) w) u mid one.stands
      rest (n + checks_in (opened m p s cells x (slice_get s.variables x))))
  forth (x ∷ ys) fr all d w u st stands (not_set {v = v} e none plain_v held any contents rest) n =
      let u1 : World = with_local x (plain held false) (record w { contents = contents }) in
      one_then fr x ys v e w u1 u st n (any_to m p s cells fr all f c olds x v e plain_v d.0 w st stands none held any contents n)
      (λ mid one. forth ys (next fr x u1 one.homes) (all_next fr x u1 one.homes) d.2 u1 u mid one.stands rest (n + checks_in (opened m p s cells x (slice_get s.variables x))))
  forth (x ∷ ys) fr all d w u st stands (with_cells {v = v} e not_plain contents rest) n =
      let u1 : World = block_made p x (record v { has_value = false }) (record w { contents = contents }) in
      one_then fr x ys v e w u1 u st n
      (block_to m p s cells setting fr all f c olds x v e not_plain (fits_of fr x ys d v e) (short_so fr x ys d v e not_plain) d.0 w st stands contents
      (openings_are_good p s.variables short (x ∷ []) w u1 stands.good (with_cells e not_plain contents all_opened)) n)
      (λ mid one. forth ys (next fr x u1 one.homes) (all_next fr x u1 one.homes) d.2 u1 u mid one.stands rest (n + checks_in (opened m p s cells x (slice_get s.variables x))))

  -- ---- back

  abbrev BackFrom : Frame → List ℕ → World → End → Type 0
  BackFrom fr ys w e = (u : World) × Opened p s.variables ys w u × ((new : State) × (goes_on new ≡ e) × OpenedAs p s cells fr f ys (in_world c w) u new)

  first_from : (fr : Frame) → AllLive fr → (x : ℕ) (ys : List ℕ) → Declares s cells fr.in_scope (x ∷ ys) → (v : Variable) → slice_get s.variables x ≡ Some v → (w : World) (st : State)
      → StandsFor p s cells fr f (in_world c w) st → (n : ℕ) (e : End) → Seg olds n (opened m p s cells x (slice_get s.variables x)) st e → MadeFrom m p s cells fr f c olds x v w st e
  first_from fr all x ys d v found w st stands n e k =
      let k' = subst (λ o. Seg olds n (opened m p s cells x o) st e) found k in
      on_test v.is_plain
      (λ plain_v. on_test v.has_value (λ has. value_from m p s cells fr all f c olds x v found plain_v d.0 w st stands has n e k')
      (λ none. any_from_run m p s cells fr all f c olds x v found plain_v d.0 w st stands none n e k'))
      (λ not_plain. block_from m p s cells setting fr all f c olds x v found not_plain (fits_of fr x ys d v found) (short_so fr x ys d v found not_plain) d.0 w st stands n e k')

  join_back : (fr : Frame) (x : ℕ) (ys : List ℕ) (w u : World) (mid : State) (e : End) (one : OpenedAs p s cells fr f (x ∷ []) (in_world c w) u mid)
      → ((u' : World) → Opened p s.variables ys u u' → Opened p s.variables (x ∷ ys) w u') → BackFrom (next fr x u one.homes) ys u e → BackFrom fr (x ∷ ys) w e
  join_back fr x ys w u mid e one wrap (u', opened, (new, is, rest)) = (u', wrap u' opened, (new, is, join_opened fr x ys w u u' mid new one rest))

  back : (ys : List ℕ) (fr : Frame) → AllLive fr → Declares s cells fr.in_scope ys → (w : World) (st : State) → StandsFor p s cells fr f (in_world c w) st → (n : ℕ) (e : End)
      → Seg olds n (word.all_opened m p s cells ys) st e → BackFrom fr ys w e
  back [] fr all d w st stands n e seg.skips = (w, all_opened, (st, refl, opened_none fr all w st stands))
  back (x ∷ ys) fr all d w st stands n e k = by (seq_ways k) (λ u mid one l. back ys (next fr x u one.homes) (all_next fr x u one.homes) d.2 u mid one.stands _ e l) where
    by : (IsOver e × Seg olds n (opened m p s cells x (slice_get s.variables x)) st e)
        ⊎ ((mid : State) × Seg olds n (opened m p s cells x (slice_get s.variables x)) st (goes_on mid)
        × Seg olds (n + checks_in (opened m p s cells x (slice_get s.variables x))) (word.all_opened m p s cells ys) mid e)
        → ((u : World) (mid : State) (one : OpenedAs p s cells fr f (x ∷ []) (in_world c w) u mid)
        → Seg olds (n + checks_in (opened m p s cells x (slice_get s.variables x))) (word.all_opened m p s cells ys) mid e → BackFrom (next fr x u one.homes) ys u e)
        → BackFrom fr (x ∷ ys) w e
    by (inl (over, k)) rest = absurd (subst IsOver (sym (first_from fr all x ys d d.1.0 d.1.1 w st stands n e k).2.1) over)
    by (inr (mid, k, l)) rest =
        let r = first_from fr all x ys d d.1.0 d.1.1 w st stands n (goes_on mid) k in
        let one = subst (λ st. OpenedAs p s cells fr f (x ∷ []) (in_world c w) r.0 st) (goes_parts r.2.1) r.2.2 in
        join_back fr x ys w r.0 mid e one (λ u'. r.1 ys u') (rest r.0 mid one l)

pub openings_run : OpeningsRun
openings_run m p s cells setting short fr all f ys d olds n c st stands = record {
  forth = λ u h. forth m p s cells setting short f olds c ys fr all d c.world u st stands h n;
  back = λ e k. back m p s cells setting short f olds c ys fr all d c.world st stands n e k;
}
