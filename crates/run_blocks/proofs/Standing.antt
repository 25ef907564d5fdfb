-- Blocks that were there stay along a segment run.
use Rattle.std.proofs.Common.{◌≡◌, ℕ, Bool, true, false, if◌then◌else◌, ℤ, List, [], ◌∷◌, Option, Some, None, slice_get, refl, sym, ◌∙◌, subst, arith}
use Rattle.std.proofs.lemmas.Bool.{false≢true}
use Rattle.std.proofs.lemmas.Int.{ints}
use Rattle.wp_base.specs.Blocks.{Table, count, grow}
use Rattle.typed_prog.specs.declared.types.CoreType.{CoreType}
use Rattle.typed_prog.specs.declared.operators.Path.{Path}
use Rattle.typed_prog.specs.Tree as t
use Rattle.c_kinds.proofs.Converting.{test_le, le_test}
use Rattle.c_runs.specs.TruthStates.{Value, block_of, offset_of, nothing_of}
use Rattle.c_runs.specs.Program.{Variable, Facts, Program}
use Rattle.c_runs.specs.States.{Local, plain, home, World, Memory, Here, with_local, with_memory, stored_in}
use Rattle.c_runs.specs.Objects.{plain_root, cell_of, address}
use Rattle.c_runs.specs.Claims as broken
use Rattle.c_runs.specs.Claims.{unless_true, holds, in_body, may_change, may_change_local}
use Rattle.c_runs.specs.Scopes.{scalar_of, next_content, others, block_made, plain_made, variable_made}
use Rattle.c_runs.specs.Effects.{granted, kind_there, wrote_act, initial_in, initial_by, initial_act}
use Rattle.c_runs.specs.CoreRun.{CoreWorld, Ending, goes_on, exits, returns, stopped, with_eval, in_world, with_temp, scope_end, unless}
use Rattle.c_runs.specs.Checks.{Check}
use Rattle.c_runs.specs.CheckLaws.{settle}
use Rattle.c_runs.specs.Tests.{is_met}
use Rattle.c_runs.specs.Tree.{Goal, nowhere, temporary, place, variable, Step, set, store, start, call, branch, repeat, around, exit, give, claim, scope, Steps}
use Rattle.c_runs.specs.CheckedRun as run
use Rattle.c_runs.specs.CheckedRun.{goes_wrong, stored_value, way_values}
use Rattle.goal_segments.specs.RunSegments.{BlockEnds, at_end, left_here, left_further, returned, stopped_in}
use Rattle.goal_segments.specs.Sets.{own_loop}
use Rattle.goal_segments.specs.Segments as segs
use Rattle.goal_segments.specs.Segments.{SameBlocks, Opened, all_opened, unknown, with_value, not_set, with_cells, is_single, no_deeper, Seg, AllSeg}
use Rattle.typed_memories.specs.Changes.{StillThere}
use Rattle.typed_memories.proofs.Tables.{below_more, grown_same, stay_changed, stay_made}
use Rattle.typed_memories.proofs.Filling.{made_blocks_hold_contents}
use Rattle.run_blocks.specs.Ends.{StillAt}
use Rattle.run_blocks.specs.Laws.{StandingBlocks}

-- ---- tables

pub still : (t : Table) → StillThere t t
still t = record { blocks = λ b h. refl; more = le_test (count t) (count t) (omega (arith, ints)) }

pub still_same : (t u : Table) → SameBlocks t u → StillThere t u
still_same t u s = stay_changed t t (still t) u s

pub still_then : (t u w : Table) → StillThere t u → StillThere u w → StillThere t w
still_then t u w s r = record {
  blocks = λ b h. r.blocks b (below_more b (count t) (count u) h s.more) ∙ s.blocks b h;
  more = let x = test_le (count t) (count u) s.more in let y = test_le (count u) (count w) r.more in le_test (count t) (count w) (omega (arith, ints, x, y));
}

still_equal : (t u : Table) → u ≡ t → StillThere t u
still_equal t u e = subst (StillThere t) (sym e) (still t)

at_then : (t u : Table) (o : Ending) → StillThere t u → StillAt u o → StillAt t o
at_then t u (goes_on c) s h = still_then t u c.world.memory.blocks s h
at_then t u (exits k c) s h = still_then t u c.world.memory.blocks s h
at_then t u (returns v c) s h = still_then t u c.world.memory.blocks s h
at_then t u (stopped e) s h = tt

-- ---- variables that are made

module _ (p : Facts) (x : ℕ) (v : Variable) (w : World) where
  pub block_still : StillThere w.memory.blocks (block_made p x v w).memory.blocks
  block_still = subst (StillThere w.memory.blocks) (sym (made_blocks_hold_contents p x v w).makes.blocks) (stay_made w.memory.blocks w.memory.blocks (still w.memory.blocks) v.layout)

  plain_still : (b : Bool) → StillThere w.memory.blocks (if b then with_local x (plain (nothing_of (scalar_of v.layout.cells)) true) w
      else with_local x (plain (next_content p (count w.memory.blocks) (scalar_of v.layout.cells) w.contents) false) (record w { contents = others w.contents })).memory.blocks
  plain_still true = still w.memory.blocks
  plain_still false = still w.memory.blocks

  made_by : (b : Bool) → StillThere w.memory.blocks (if b then plain_made p x v w else block_made p x v w).memory.blocks
  made_by true = plain_still v.has_value
  made_by false = block_still

  made_still : StillThere w.memory.blocks (variable_made p x (Some v) w).memory.blocks
  made_still = made_by v.is_plain

pub opened_still : (p : Facts) (xs : List Variable) (ys : List ℕ) (w u : World) → Opened p xs ys w u → StillThere w.memory.blocks u.memory.blocks
opened_still p xs _ w _ all_opened = still w.memory.blocks
opened_still p xs _ w u (unknown {ys = ys} e more) = opened_still p xs ys w u more
opened_still p xs _ w u (with_value {x = x} {ys = ys} {v = v} e has is_plain more) =
    still_then w.memory.blocks (variable_made p x (Some v) w).memory.blocks u.memory.blocks (made_still p x v w) (opened_still p xs ys (variable_made p x (Some v) w) u more)
opened_still p xs _ w u (not_set {x = x} {ys = ys} e none is held any contents more) =
    opened_still p xs ys (with_local x (plain held false) (record w { contents = contents })) u more
opened_still p xs _ w u (with_cells {x = x} {ys = ys} {v = v} e not_plain contents more) =
    let now : World = record w { contents = contents } in
    let v' : Variable = record v { has_value = false } in
    still_then w.memory.blocks (block_made p x v' now).memory.blocks u.memory.blocks (block_still p x v' now) (opened_still p xs ys (block_made p x v' now) u more)

-- ---- single statements

module _ (q : Program Steps) (xs : List Variable) (here : Here) where
  behind_checks : (t : Table) (cs : List Check) (test : Check → Bool) (o : Ending) → StillAt t o → StillAt t (settle cs test goes_wrong o)
  behind_checks t [] test o h = h
  behind_checks t (c ∷ cs) test o h = by (test c) (behind_checks t cs test o h) where
    by : (b : Bool) → StillAt t (settle cs test goes_wrong o) → StillAt t (if b then settle cs test goes_wrong o else goes_wrong c.kind c.line)
    by true more = more
    by false more = tt

  -- where it is granted
  written : (b : Bool) (line : ℕ) (v : Value) (c : CoreWorld) (w : World) → w.memory.blocks ≡ c.world.memory.blocks
      → StillAt c.world.memory.blocks (with_eval (wrote_act v (granted b line w)) (λ z w. goes_on (in_world c w)))
  written true line v c w e = still_equal c.world.memory.blocks w.memory.blocks e
  written false line v c w e = tt

  put_still : (o : Option ℕ) (type : CoreType) (line : ℕ) (path : Path) (vs : List Value) (v : Value) (c : CoreWorld)
      → StillAt c.world.memory.blocks (with_eval (wrote_act v (run.put_by o q.facts here line type path c.world vs v)) (λ z w. goes_on (in_world c w)))
  put_still (Some x) type line path vs v c = written (may_change_local q.facts here.granted x) line v c (with_local x (plain v true) c.world) refl
  put_still None type line path vs v c =
      let a = address q.facts c.world path vs in
      written (may_change here.granted (kind_there c.world.memory.blocks (cell_of type) a) (block_of a) (offset_of a)) line v c
      (with_memory (stored_in (block_of a) (offset_of a) v c.world.memory) c.world) refl

  put_at : (cs : List Check) (type : CoreType) (line : ℕ) (path : Path) (vs : List Value) (es : t.Values) (v : Value) (c : CoreWorld)
      → StillAt c.world.memory.blocks (run.asked_at q no_deeper xs cs c type path vs es (run.put_to q no_deeper xs here type line path vs v c))
  put_at cs type line path vs es v c =
      behind_checks c.world.memory.blocks cs (run.place_test q.facts xs c.temps c.world type path vs es) (run.put_to q no_deeper xs here type line path vs v c)
      (put_still (plain_root xs path.root) type line path vs v c)

  initial_blocks : (o : Option Variable) (x : ℕ) (l : Local) (v : Value) (w : World) → (initial_by o x l v w).memory.blocks ≡ w.memory.blocks
  initial_blocks None x l v w = refl
  initial_blocks (Some y) x l v w = by y.is_plain l where
    by : (b : Bool) (l : Local) → (if b then with_local x (plain v true) w else with_memory (initial_in l v w.memory) w).memory.blocks ≡ w.memory.blocks
    by true l = refl
    by false (plain held is_set) = refl
    by false (home b) = refl

  starts : (x : ℕ) (v : Value) (c : CoreWorld) → StillAt c.world.memory.blocks (goes_on (in_world c (initial_act xs x v c.world)))
  starts x v c = still_equal c.world.memory.blocks (initial_act xs x v c.world).memory.blocks (initial_blocks (slice_get xs x) x (c.world.locals x) v c.world)

  received : (to : Goal) (v : Value) (c : CoreWorld) → StillAt c.world.memory.blocks (run.result_to q no_deeper xs here to v c)
  received nowhere v c = still c.world.memory.blocks
  received (temporary n) v c = still c.world.memory.blocks
  received (place cs type line path es) v c = put_at cs type line path (run.totals_in q no_deeper xs c es) es v c
  received (variable x) v c = starts x v c

  claims : (b : Bool) (what : broken.Broken) (line : ℕ) (c : CoreWorld) → StillAt c.world.memory.blocks (unless (unless_true b what line) (goes_on c))
  claims true what line c = still c.world.memory.blocks
  claims false what line c = tt

  gives_still : (cs : List Check) (e : Option t.Value) (c : CoreWorld) → StillAt c.world.memory.blocks (run.gives_back q no_deeper xs cs e c)
  gives_still cs None c = still c.world.memory.blocks
  gives_still cs (Some e) c =
      behind_checks c.world.memory.blocks cs (is_met q.facts xs c.temps c.world e) (returns (run.total_in q no_deeper xs c e) c) (still c.world.memory.blocks)

  single_still : (s : Step) (c : CoreWorld) → is_single s ≡ true → StillAt c.world.memory.blocks (run.exec q no_deeper xs here s c)
  single_still (set cs n e) c is =
      behind_checks c.world.memory.blocks cs (is_met q.facts xs c.temps c.world e) (goes_on (with_temp n (run.total_in q no_deeper xs c e) c)) (still c.world.memory.blocks)
  single_still (store cs type line path es) c is =
      let vs = run.totals_in q no_deeper xs c es in put_at cs type line path (way_values vs) es (stored_value vs) c
  single_still (start cs x e) c is =
      behind_checks c.world.memory.blocks cs (is_met q.facts xs c.temps c.world e) (goes_on (in_world c (initial_act xs x (run.total_in q no_deeper xs c e) c.world)))
      (starts x (run.total_in q no_deeper xs c e) c)
  single_still (exit k) c is = still c.world.memory.blocks
  single_still (give cs e) c is = gives_still cs e c
  single_still (claim a) c is = claims (holds q.facts (in_body q.facts here c.world) a.what) broken.assert a.line c
  single_still (call cs to n l es) c is = absurd (false≢true is)
  single_still (branch cs e a b) c is = absurd (false≢true is)
  single_still (repeat l ss) c is = absurd (false≢true is)
  single_still (around ss) c is = absurd (false≢true is)
  single_still (scope ys ss) c is = absurd (false≢true is)

-- ---- blocks and scopes that end

block_ends : (t : Table) (o u : Ending) → BlockEnds o u → StillAt t o → StillAt t u
block_ends t _ _ at_end h = h
block_ends t _ _ left_here h = h
block_ends t _ _ left_further h = h
block_ends t _ _ returned h = h
block_ends t _ _ stopped_in h = tt

-- whatever was made since, the table of before is grown
pub grown_still : (t : Table) (z : ℤ) → StillThere t (grow t z)
grown_still t z = still_same t (grow t z) (grown_same t z)

scope_ends : (m : Memory) (ys : List ℕ) (o : Ending) → StillAt m.blocks (scope_end m ys o)
scope_ends m ys (goes_on c) = grown_still m.blocks (count c.world.memory.blocks)
scope_ends m ys (exits k c) = grown_still m.blocks (count c.world.memory.blocks)
scope_ends m ys (returns v c) = grown_still m.blocks (count c.world.memory.blocks)
scope_ends m ys (stopped s) = tt

-- ---- runs

module _ (q : Program Steps) (xs : List Variable) where
  mutual
    one_still : (here : Here) (s : Step) (c : CoreWorld) (o : Ending) → Seg q xs here s c o → StillAt c.world.memory.blocks o
    one_still here s c o (segs.single is e) = subst (StillAt c.world.memory.blocks) e (single_still q xs here s c is)
    one_still here _ c o (segs.first_arm {a = a} asks is k) = all_still here a c o k
    one_still here _ c o (segs.other_arm {b = b} asks is k) = all_still here b c o k
    one_still here s c _ (segs.test_stops asks) = tt
    one_still here _ c _ (segs.blocks {ss = ss} {o = o} {u = u} k ends) = block_ends c.world.memory.blocks o u ends (all_still here ss c o k)
    one_still here _ c _ (segs.scopes {ys = ys} {o = o} opened k) = scope_ends c.world.memory ys o
    one_still here s c _ (segs.set_outside out) = tt
    one_still here s c _ (segs.entry_fails inside fails) = tt
    one_still here _ c o (segs.pass_ends {l = l} {ss = ss} {d = d} inside first head now k over) =
        at_then c.world.memory.blocks d.world.memory.blocks o (still_same c.world.memory.blocks d.world.memory.blocks head.blocks)
        (all_still (own_loop q.facts here l c.world) ss d o k)
    one_still here s c _ (segs.again_fails inside first head now k fails) = tt
    one_still here s c _ (segs.argument_stops asks) = tt
    one_still here s c _ (segs.not_required asks found fails) = tt
    one_still here s c _ (segs.not_lower asks found needs fails) = tt
    one_still here s c _ (segs.call_outside asks found needs lower out) = tt
    one_still here _ c o (segs.returns_from {to = to} {v = v} {u = u} asks found needs lower inside behind e) =
        subst (StillAt c.world.memory.blocks) e
        (at_then c.world.memory.blocks u.memory.blocks (run.result_to q no_deeper xs here to v (in_world c u))
        (still_same c.world.memory.blocks u.memory.blocks behind.blocks) (received q xs here to v (in_world c u)))

    all_still : (here : Here) (ss : Steps) (c : CoreWorld) (o : Ending) → AllSeg q xs here ss c o → StillAt c.world.memory.blocks o
    all_still here _ c _ segs.none = still c.world.memory.blocks
    all_still here _ c o (segs.goes {s = s} {ss = ss} {d = d} h k) =
        at_then c.world.memory.blocks d.world.memory.blocks o (one_still here s c (goes_on d) h) (all_still here ss d o k)
    all_still here _ c o (segs.stays {s = s} h over) = one_still here s c o h

pub standing_blocks : StandingBlocks
standing_blocks q xs = record { one = one_still q xs; all = all_still q xs; opened = opened_still q.facts xs }
