-- A block that is entered: what a run makes is an opening of segments, and a world that fits.
use Rattle.std.proofs.Common.{◌≡◌, ℕ, Bool, true, false, ◌||◌, if◌then◌else◌, ℤ, pos, ◌+ℤ◌, List, [], ◌∷◌, Option, Some, None, is_some, slice_get, refl, sym, ap, ◌∙◌, subst, arith}
use Rattle.std.proofs.lemmas.Int.{ints}
use Rattle.std.specs.Prelude.{◌==◌, int_le, int_lt}
use Rattle.std.specs.List.{list_all}
use Rattle.std.proofs.lemmas.Bool.{false≢true, and_parts}
use Rattle.std.proofs.lemmas.Bool.Decides.{Decides-eqb}
use Rattle.wp_base.specs.declared.kinds.CellKind.{CellKind}
use Rattle.wp_base.specs.declared.kinds.CellKind.TheVariants as cell
use Rattle.wp_base.specs.Blocks.{Table, count, cells_of, block_at, block_of, alloc}
use Rattle.wp_base.specs.declared.kinds.Layout.{Layout}
use Rattle.c_runs.specs.TruthStates.{Value, number, pointer, addresses, region, nothing_of}
use Rattle.c_runs.specs.Program.{Variable, Facts}
use Rattle.c_runs.specs.States.{Local, plain, home, at, World, with_local, with_memory, stored_in}
use Rattle.c_runs.specs.Scopes.{scalar_of, is_content, next_content, others, filled, cleared, with_block, plain_made, block_made, variable_made, entered}
use Rattle.c_runs.specs.CoreRun.{CoreWorld, in_world}
use Rattle.goal_segments.specs.Segments.{IsAny, Opened, all_opened, unknown, with_value, not_set, with_cells}
use Rattle.goal_segments.specs.Told.{with_name, with_names}
use Rattle.plain_runs.specs.Fitting.{IsGood}
use Rattle.typed_memories.proofs.Tests.{on_test, chosen, unchosen, not_both, neither, or_left}
use Rattle.typed_memories.proofs.Formed.{nothing_in_range}
use Rattle.typed_memories.specs.Changes.{StillThere}
use Rattle.typed_memories.proofs.Tables.{lt_test, below_more, not_count, new_block, count_alloc}
use Rattle.typed_memories.proofs.Filling.{made_blocks_hold_contents}
use Rattle.run_blocks.specs.Ends.{is_short}
use Rattle.run_blocks.proofs.Standing.{still, still_then, block_still}
use Rattle.run_blocks.proofs.Good.{content_more, openings_are_good}
use Rattle.program_steps.specs.Temporaries.{Temporaries}
use Rattle.typed_runs.specs.Fitting.{Shape, InScope, kind_of, Declares}
use Rattle.typed_runs.specs.Kept.{home_at, HoldsValue, HasHome, Holds}
use Rattle.typed_runs.proofs.Keeping.{le_same, le_then}

-- ---- contents

pub next_content_is : (p : Facts) (t : Table) (k : CellKind) (vs : List Value) → is_content p (count t) k (next_content p (count t) k vs) ≡ true
next_content_is p t k [] = nothing_in_range p t k
next_content_is p t k (v ∷ vs) =
    on_test (is_content p (count t) k v)
    (λ is. ap (is_content p (count t) k) (chosen (is_content p (count t) k v) v (nothing_of k) is) ∙ is)
    (λ none. ap (is_content p (count t) k) (unchosen (is_content p (count t) k v) v (nothing_of k) none) ∙ nothing_in_range p t k)

any_of : (p : Facts) (n : ℤ) (k : CellKind) (v : Value) → is_content p n k v ≡ true → IsAny k v
any_of p n (cell.Of k) (number z) h = (z, refl)
any_of p n (cell.Of k) (pointer b o) h = absurd (false≢true h)
any_of p n (cell.Of k) (addresses s) h = absurd (false≢true h)
any_of p n (cell.Of k) (region ks s) h = absurd (false≢true h)
any_of p n cell.Ptr (number z) h = absurd (false≢true h)
any_of p n cell.Ptr (pointer b o) h = (b, o, refl, (and_parts (int_le (pos 0) b) (int_lt b n) h).0)
any_of p n cell.Ptr (addresses s) h = absurd (false≢true h)
any_of p n cell.Ptr (region ks s) h = absurd (false≢true h)

-- ---- a block whose variable gets its value later is one that holds 0 or null at first

abbrev nothings : List CellKind → List Value → List Value
nothings [] vs = vs
nothings (k ∷ ks) vs = nothing_of k ∷ nothings ks vs

nothing_next : (p : Facts) (n : ℤ) (k : CellKind) (vs : List Value) → next_content p n k (nothing_of k ∷ vs) ≡ nothing_of k
nothing_next p n k vs = by (is_content p n k (nothing_of k)) where
  by : (b : Bool) → (if b then nothing_of k else nothing_of k) ≡ nothing_of k
  by true = refl
  by false = refl

filled_nothings : (p : Facts) (n b o : ℤ) (ks : List CellKind) (vs : List Value) (w : World)
    → filled p n b o ks (record w { contents = nothings ks vs }) ≡ record w { contents = vs; memory = cleared b o ks w.memory }
filled_nothings p n b o [] vs w = refl
filled_nothings p n b o (k ∷ ks) vs w =
    ap (λ v. filled p n b (o +ℤ pos 1) ks (record w { contents = nothings ks vs; memory = stored_in b o v w.memory })) (nothing_next p n k (nothings ks vs))
    ∙ filled_nothings p n b (o +ℤ pos 1) ks vs (record w { memory = stored_in b o (nothing_of k) w.memory })

filled_locals : (p : Facts) (n b o : ℤ) (ks : List CellKind) (w : World) → (filled p n b o ks w).locals ≡ w.locals
filled_locals p n b o [] w = refl
filled_locals p n b o (k ∷ ks) w =
    filled_locals p n b (o +ℤ pos 1) ks (record w { contents = others w.contents; memory = stored_in b o (next_content p n k w.contents) w.memory })

-- with a block for a variable, which isn't filled yet
abbrev with_home : (variable : ℕ) → Variable → List Value → World → World
with_home x v vs w = with_local x (home (count w.memory.blocks)) (with_memory (with_block v w.memory) (record w { contents = vs }))

block_locals : (p : Facts) (x : ℕ) (v : Variable) (w : World) → (block_made p x v w).locals ≡ at x (home (count w.memory.blocks)) w.locals
block_locals p x v w = by v.has_value where
  by : (t : Bool) → (if t then with_memory (cleared (count w.memory.blocks) (pos 0) (cells_of v.layout) (with_home x v w.contents w).memory) (with_home x v w.contents w)
      else filled p (count (with_block v w.memory).blocks) (count w.memory.blocks) (pos 0) (cells_of v.layout) (with_home x v w.contents w)).locals
      ≡ at x (home (count w.memory.blocks)) w.locals
  by true = refl
  by false = filled_locals p (count (with_block v w.memory).blocks) (count w.memory.blocks) (pos 0) (cells_of v.layout) (with_home x v w.contents w)

-- ---- what a run makes is an opening

-- the contents that segments draw in its place
abbrev drawn : Variable → World → List Value
drawn v w = if v.has_value then nothings (cells_of v.layout) w.contents else w.contents

block_opens : (p : Facts) (x : ℕ) (v : Variable) (w : World) → block_made p x (record v { has_value = false }) (record w { contents = drawn v w }) ≡ block_made p x v w
block_opens p x v w = by v.has_value where
  by : (t : Bool)
      → filled p (count (with_block v w.memory).blocks) (count w.memory.blocks) (pos 0) (cells_of v.layout) (with_home x v (if t then nothings (cells_of v.layout) w.contents else w.contents) w)
      ≡ (if t then with_memory (cleared (count w.memory.blocks) (pos 0) (cells_of v.layout) (with_home x v w.contents w).memory) (with_home x v w.contents w)
      else filled p (count (with_block v w.memory).blocks) (count w.memory.blocks) (pos 0) (cells_of v.layout) (with_home x v w.contents w))
  by true = filled_nothings p (count (with_block v w.memory).blocks) (count w.memory.blocks) (pos 0) (cells_of v.layout) w.contents (with_home x v w.contents w)
  by false = refl

module _ (p : Facts) (xs : List Variable) where
  opens_one : (x : ℕ) (ys : List ℕ) (w : World) → ((u : World) → Opened p xs ys u (entered p xs ys u)) → (o : Option Variable) → slice_get xs x ≡ o
      → Opened p xs (x ∷ ys) w (entered p xs ys (variable_made p x o w))
  opens_one x ys w rest None e = unknown e (rest w)
  opens_one x ys w rest (Some v) e = on_test v.is_plain
      (λ is. on_test v.has_value
      (λ has. with_value e has is (rest (variable_made p x (Some v) w)))
      (λ none.
      let held = next_content p (count w.memory.blocks) (scalar_of v.layout.cells) w.contents in
      let made : with_local x (plain held false) (record w { contents = others w.contents }) ≡ variable_made p x (Some v) w =
      sym (chosen v.is_plain (plain_made p x v w) (block_made p x v w) is
      ∙ unchosen v.has_value (with_local x (plain (nothing_of (scalar_of v.layout.cells)) true) w) (with_local x (plain held false) (record w { contents = others w.contents })) none) in
      not_set e none is held (any_of p (count w.memory.blocks) (scalar_of v.layout.cells) held (next_content_is p w.memory.blocks (scalar_of v.layout.cells) w.contents)) (others w.contents)
      (subst (λ u. Opened p xs ys u (entered p xs ys (variable_made p x (Some v) w))) (sym made) (rest (variable_made p x (Some v) w)))))
      (λ not_plain.
      let made : block_made p x (record v { has_value = false }) (record w { contents = drawn v w }) ≡ variable_made p x (Some v) w =
      block_opens p x v w ∙ sym (unchosen v.is_plain (plain_made p x v w) (block_made p x v w) not_plain) in
      with_cells e not_plain (drawn v w) (subst (λ u. Opened p xs ys u (entered p xs ys (variable_made p x (Some v) w))) (sym made) (rest (variable_made p x (Some v) w))))

  pub opens : (ys : List ℕ) (w : World) → Opened p xs ys w (entered p xs ys w)
  opens [] w = all_opened
  opens (x ∷ ys) w = opens_one x ys w (opens ys) (slice_get xs x) refl

-- ---- which variables are declared

abbrev pub declares : List ℕ → (variable : ℕ) → Bool
declares [] x = false
declares (y ∷ ys) x = (y == x) || declares ys x

-- ---- worlds that fit

-- a world before a block is entered, and behind it
pub record Opens (p : Facts) (s : Shape) (f g : InScope) (t : Temporaries) (new : InScope) (c d : CoreWorld) : Type 0 where
  pub holds : Holds p s g t d
  pub there : StillThere c.world.memory.blocks d.world.memory.blocks
  pub cells : (b o : ℤ) → int_lt b (count c.world.memory.blocks) ≡ true → d.world.memory.cells b o ≡ c.world.memory.cells b o
  pub others : (x : ℕ) → new x ≡ false → d.world.locals x ≡ c.world.locals x
  pub homes : (x : ℕ) (b : ℤ) → new x ≡ true → home_at (d.world.locals x) ≡ Some b → int_le (count c.world.memory.blocks) b ≡ true
  pub temps : (n : ℕ) → d.temps n ≡ c.temps n

pub same_name : (y x : ℕ) → (y == x) ≡ true → y ≡ x
same_name y x h = (Decides-eqb y x).0 h

pub name_same : (y : ℕ) → (y == y) ≡ true
name_same y = (Decides-eqb y y).1 refl

pub value_still : (p : Facts) (n m : ℤ) (v : Variable) (l : Local) → int_le n m ≡ true → HoldsValue p n v l → HoldsValue p m v l
value_still p n m v l le h = record { held = h.held; is_set = h.is_set; same = h.same; content = content_more p n m le (kind_of v) h.held h.content }

pub home_still : (t u : Table) (v : Variable) (l : Local) → StillThere t u → HasHome t v l → HasHome u v l
home_still t u v l s h = record {
  block = h.block;
  same = h.same;
  made = below_more h.block (count t) (count u) h.made s.more;
  layout = s.blocks h.block h.made ∙ h.layout;
}

some_same : {X : Type 0} (a b : X) → Some a ≡ Some b → a ≡ b
some_same a b e = cc

pub home_same : (a b : ℤ) → Some a ≡ Some b → a ≡ b
home_same a b e = cc

pub next_below : (t : Table) (l : Layout) → int_lt (count t) (count (alloc t l)) ≡ true
next_below t l = let e = count_alloc t l in lt_test (count t) (count (alloc t l)) (omega (arith, ints, e))

or_turned : (a b : Bool) → (a || b) ≡ true → (b || a) ≡ true
or_turned true true h = refl
or_turned true false h = refl
or_turned false true h = refl
or_turned false false h = h

module _ (p : Facts) (s : Shape) (short : list_all (is_short p) s.variables ≡ true) (f : InScope) (t : Temporaries) (y : ℕ) (v : Variable) (found : slice_get s.variables y ≡ Some v)
    (c : CoreWorld) (h : Holds p s f t c) where
  abbrev made_good : IsGood p (variable_made p y (Some v) c.world).memory
  made_good =
      subst (λ o. IsGood p (variable_made p y o c.world).memory) found
      (openings_are_good p s.variables short (y ∷ []) c.world (entered p s.variables (y ∷ []) c.world) h.good (opens p s.variables (y ∷ []) c.world))

  at_other : (l : Local) (x : ℕ) → (y == x) ≡ false → at y l c.world.locals x ≡ c.world.locals x
  at_other l x other = unchosen (y == x) l (c.world.locals x) other

  at_here : (l : Local) (x : ℕ) → (y == x) ≡ true → at y l c.world.locals x ≡ l
  at_here l x here = chosen (y == x) l (c.world.locals x) here

  here_is : (x : ℕ) (w : Variable) → (y == x) ≡ true → slice_get s.variables x ≡ Some w → v ≡ w
  here_is x w here e = some_same v w (sym found ∙ ap (slice_get s.variables) (same_name y x here) ∙ e)

  in_scope_before : (x : ℕ) → (y == x) ≡ false → with_name y f x ≡ true → f x ≡ true
  in_scope_before x other on = sym (ap (λ b. b || f x) other) ∙ on

  out_before : (x : ℕ) → with_name y f x ≡ false → ((y == x) ≡ false) × (f x ≡ false)
  out_before x out = by (y == x) refl out where
    by : (b : Bool) → (y == x) ≡ b → (b || f x) ≡ false → ((y == x) ≡ false) × (f x ≡ false)
    by true e out = absurd (false≢true (sym out))
    by false e out = (e, out)

  -- any world with this memory, in which the variable is this local, which fits
  module _ (u : World) (l : Local) (good : IsGood p u.memory) (same : u.locals ≡ at y l c.world.locals) (there : StillThere c.world.memory.blocks u.memory.blocks)
      (value : v.is_plain ≡ true → HoldsValue p (count u.memory.blocks) v l) (has_home : v.is_plain ≡ false → HasHome u.memory.blocks v l) where
    local_is : (x : ℕ) → u.locals x ≡ at y l c.world.locals x
    local_is x = ap (λ (ls : ℕ → Local). ls x) same

    pub now_holds : Holds p s (with_name y f) t (in_world c u)
    now_holds = record {
      good = good;
      locals = λ x w e on is. on_test (y == x)
          (λ here. subst (HoldsValue p (count u.memory.blocks) w) (sym (local_is x ∙ at_here l x here))
          (subst (λ w. HoldsValue p (count u.memory.blocks) w l) (here_is x w here e) (value (ap (λ (w : Variable). w.is_plain) (here_is x w here e) ∙ is))))
          (λ other. subst (HoldsValue p (count u.memory.blocks) w) (sym (local_is x ∙ at_other l x other))
          (value_still p (count c.world.memory.blocks) (count u.memory.blocks) w (c.world.locals x) there.more (h.locals x w e (in_scope_before x other on) is)));
      homes = λ x w e on not_plain. on_test (y == x)
          (λ here. subst (HasHome u.memory.blocks w) (sym (local_is x ∙ at_here l x here))
          (subst (λ w. HasHome u.memory.blocks w l) (here_is x w here e) (has_home (ap (λ (w : Variable). w.is_plain) (here_is x w here e) ∙ not_plain))))
          (λ other. subst (HasHome u.memory.blocks w) (sym (local_is x ∙ at_other l x other))
          (home_still c.world.memory.blocks u.memory.blocks w (c.world.locals x) there (h.homes x w e (in_scope_before x other on) not_plain)));
      scoped = λ x out. let both = out_before x out in local_is x ∙ at_other l x both.0 ∙ h.scoped x both.1;
      temporaries = λ n used. content_more p (count c.world.memory.blocks) (count u.memory.blocks) there.more (s.temp_kind n) (c.temps n) (h.temporaries n used);
    }

  -- one variable
  by_plain : v.is_plain ≡ true → Opens p s f (with_name y f) t (λ x. y == x) c (in_world c (variable_made p y (Some v) c.world))
  by_plain is = subst (λ u. Opens p s f (with_name y f) t (λ x. y == x) c (in_world c u)) (sym (chosen v.is_plain (plain_made p y v c.world) (block_made p y v c.world) is)) (by v.has_value) where
    one : (vs : List Value) (held : Value) (is_set : Bool) → is_content p (count c.world.memory.blocks) (kind_of v) held ≡ true
        → Opens p s f (with_name y f) t (λ x. y == x) c (in_world c (with_local y (plain held is_set) (record c.world { contents = vs })))
    one vs held is_set content = record {
      holds = now_holds (with_local y (plain held is_set) (record c.world { contents = vs })) (plain held is_set) h.good refl (still c.world.memory.blocks)
          (λ is. record { held = held; is_set = is_set; same = refl; content = content }) (λ not_plain. not_both v.is_plain is not_plain);
      there = still c.world.memory.blocks;
      cells = λ b o below. refl;
      others = λ x other. at_other (plain held is_set) x other;
      homes = λ x b here e. absurd (false≢true (ap is_some (sym (ap home_at (at_here (plain held is_set) x here)) ∙ e)));
      temps = λ n. refl;
    }

    by : (b : Bool) → Opens p s f (with_name y f) t (λ x. y == x) c (in_world c (if b then with_local y (plain (nothing_of (scalar_of v.layout.cells)) true) c.world
        else with_local y (plain (next_content p (count c.world.memory.blocks) (scalar_of v.layout.cells) c.world.contents) false) (record c.world { contents = others c.world.contents })))
    by true = one c.world.contents (nothing_of (scalar_of v.layout.cells)) true (nothing_in_range p c.world.memory.blocks (scalar_of v.layout.cells))
    by false = one (others c.world.contents) (next_content p (count c.world.memory.blocks) (scalar_of v.layout.cells) c.world.contents) false
        (next_content_is p c.world.memory.blocks (scalar_of v.layout.cells) c.world.contents)

  -- its block is the next one
  by_block : v.is_plain ≡ false → Opens p s f (with_name y f) t (λ x. y == x) c (in_world c (variable_made p y (Some v) c.world))
  by_block not_plain =
      let u = block_made p y v c.world in
      let is_made : variable_made p y (Some v) c.world ≡ u = unchosen v.is_plain (plain_made p y v c.world) u not_plain in
      let makes = (made_blocks_hold_contents p y v c.world).makes in
      let there = block_still p y v c.world in
      let same = block_locals p y v c.world in
      let b = count c.world.memory.blocks in
      let at_block : block_at u.memory.blocks b ≡ block_of v.layout = ap (λ t. block_at t b) makes.blocks ∙ new_block c.world.memory.blocks v.layout in
      let below : int_lt b (count u.memory.blocks) ≡ true = ap (λ t. int_lt b (count t)) makes.blocks ∙ next_below c.world.memory.blocks v.layout in
      subst (λ u. Opens p s f (with_name y f) t (λ x. y == x) c (in_world c u)) (sym is_made)
      (record {
        holds = now_holds u (home b) (subst (λ u. IsGood p u.memory) is_made made_good) same there (λ is. not_both v.is_plain is not_plain)
            (λ h. record { block = b; same = refl; made = below; layout = at_block });
        there = there;
        cells = λ x o old. makes.cells x o (not_count x b old);
        others = λ x other. ap (λ (ls : ℕ → Local). ls x) same ∙ at_other (home b) x other;
        homes = λ x i here e. subst (λ z. int_le b z ≡ true) (home_same b i (sym (ap home_at (ap (λ (ls : ℕ → Local). ls x) same ∙ at_here (home b) x here)) ∙ e)) (le_same b);
        temps = λ n. refl;
      })

  pub opens_variable : Opens p s f (with_name y f) t (λ x. y == x) c (in_world c (variable_made p y (Some v) c.world))
  opens_variable = on_test v.is_plain by_plain by_block

-- ---- all variables of a block

module _ (p : Facts) (s : Shape) (short : list_all (is_short p) s.variables ≡ true) (t : Temporaries) where
  pub opens_none : (f : InScope) (c : CoreWorld) → Holds p s f t c → Opens p s f f t (λ x. false) c c
  opens_none f c h = record {
    holds = h;
    there = still c.world.memory.blocks;
    cells = λ b o below. refl;
    others = λ x other. refl;
    homes = λ x b on e. absurd (false≢true on);
    temps = λ n. refl;
  }

  pub opens_then : (f g k : InScope) (a b : InScope) (c d e : CoreWorld) → Opens p s f g t a c d → Opens p s g k t b d e → Opens p s f k t (λ x. a x || b x) c e
  opens_then f g k a b c d e m n = record {
    holds = n.holds;
    there = still_then c.world.memory.blocks d.world.memory.blocks e.world.memory.blocks m.there n.there;
    cells = λ x o below. n.cells x o (below_more x (count c.world.memory.blocks) (count d.world.memory.blocks) below m.there.more) ∙ m.cells x o below;
    others = λ x out. let both = neither (a x) (b x) out in n.others x both.1 ∙ m.others x both.0;
    homes = λ x i on h. on_test (b x)
        (λ later. le_then (count c.world.memory.blocks) (count d.world.memory.blocks) i m.there.more (n.homes x i later h))
        (λ out. m.homes x i (or_left (b x) (a x) (or_turned (a x) (b x) on) out) (sym (ap home_at (n.others x out)) ∙ h));
    temps = λ i. n.temps i ∙ m.temps i;
  }

  pub opens_all : (f : InScope) (low : ℕ) (ys : List ℕ) → Declares p s f low ys → (c : CoreWorld) → Holds p s f t c
      → Opens p s f (with_names ys f) t (declares ys) c (in_world c (entered p s.variables ys c.world))
  opens_all f low [] d c h = opens_none f c h
  opens_all f low (y ∷ ys) d c h =
      let first = opens_variable p s short f t y d.2.0 d.2.1 c h in
      let now = in_world c (variable_made p y (Some d.2.0) c.world) in
      subst (λ o. Opens p s f (with_names ys (with_name y f)) t (declares (y ∷ ys)) c (in_world c (entered p s.variables ys (variable_made p y o c.world)))) (sym d.2.1)
      (opens_then f (with_name y f) (with_names ys (with_name y f)) (λ x. y == x) (declares ys) c now (in_world now (entered p s.variables ys now.world)) first
      (opens_all (with_name y f) low ys d.3 now first.holds))
