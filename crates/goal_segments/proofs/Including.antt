-- A set that lies inside of those in force lets nothing change that they don't, so a write is let by the one exactly where it is by all.
use Rattle.std.proofs.Common.{◌≡◌, ℕ, zero, suc, ◌+◌, ◌-◌, ◌<◌, ◌≤◌, ℤ, pos, negsuc, ◌-ℤ◌, Bool, true, false, not, ◌&&◌, ◌||◌, if◌then◌else◌, List, [], ◌∷◌, ◌++◌, map, Option, Some, None, refl, sym, ap, ◌∙◌, subst, arith}
use Rattle.std.specs.Prelude.{nat_lt, nat_le}
use Rattle.std.specs.List.{list_all, list_any}
use Rattle.std.proofs.lemmas.Bool.{false≢true, and_parts, ltb-true, lt-ltb, le-leb, leb-true}
use Rattle.wp_base.specs.declared.kinds.CellKind.TheVariants as cell
use Rattle.wp_base.specs.Blocks.{count}
use Rattle.qed_terms.specs.Operators.{is_equal}
use Rattle.acsl_trees.specs.Tree.{Tree}
use Rattle.c_runs.specs.TruthStates.{Value, World as Labelled, span_of, cells_of, covers, is_negative}
use Rattle.c_runs.specs.TruthAllowed.{is_named}
use Rattle.c_runs.specs.Program.{Facts, Loop, Behavior}
use Rattle.c_runs.specs.States.{World, Here, Granted, hidden, plain_globals, seen}
use Rattle.c_runs.specs.Claims.{may_change_local, lets_local, granted_by, granted_in, of_caller, in_body, in_loop, is_assumed, regions_of}
use Rattle.plain_runs.proofs.Told.{equal_is}
use Rattle.plain_runs.specs.Kept.{may_change_global, AllBelow}
use Rattle.plain_runs.proofs.Sets.{high_may, callers_globals, callers_below, below_both, below_more, one_below}
use Rattle.plain_runs.proofs.Scopes.{on_bool}
use Rattle.goal_segments.specs.Sets.{own_or, own_loop, lets_region, lets_variable, region_inside, set_inside, own_inside, loop_inside, some_inside, call_inside}

-- ---- tests

and_both : (a b : Bool) → a ≡ true → b ≡ true → (a && b) ≡ true
and_both a b h k = ap (λ t. t && b) h ∙ k

or_left : (a b : Bool) → a ≡ true → (a || b) ≡ true
or_left a b h = ap (λ t. t || b) h

or_right : (a b : Bool) → b ≡ true → (a || b) ≡ true
or_right true b h = refl
or_right false b h = h

or_cases : {P : Type 0} (a b : Bool) → (a || b) ≡ true → (a ≡ true → P) → (b ≡ true → P) → P
or_cases true b h f g = f refl
or_cases false b h f g = g h

-- ---- a named region

named_region : (q : Value → Bool) (rs : List Value) (b : ℤ) → is_named rs b ≡ true → list_all q rs ≡ true → (r : Value) × ((span_of r).block ≡ b) × (q r ≡ true)
named_region q [] b h all = absurd (false≢true h)
named_region q (r ∷ rs) b h all =
    or_cases (covers r b (pos 0)) (is_named rs b) h
    (λ c. (r, equal_is (span_of r).block b (and_parts (is_equal (span_of r).block b) _ c).0, (and_parts (q r) (list_all q rs) all).0))
    (λ n. named_region q rs b n (and_parts (q r) (list_all q rs) all).1)

-- the set that it lies in lets the variable
named_lets : (p : Facts) (g : Granted) (rs : List Value) (n : ℕ) → is_named rs (negsuc n) ≡ true → list_all (region_inside p g) rs ≡ true → lets_variable p g (negsuc n) ≡ true
named_lets p g rs n h all =
    let r = named_region (region_inside p g) rs (negsuc n) h all in
    subst (λ b. (if is_negative b then lets_variable p g b else list_all (lets_region g r.0) (cells_of r.0)) ≡ true) r.1 r.2

module _ (p : Facts) where
  lets_global : (g : Granted) (n : ℕ) → nat_lt n (plain_globals p) ≡ true → lets_variable p g (negsuc n) ≡ true → is_named g.regions (negsuc n) ≡ true
  lets_global g n l h =
      or_cases (is_named g.regions (negsuc n)) _ h (λ k. k)
      (λ k. absurd (false≢true (sym (ap not l) ∙ (and_parts (not (nat_lt n (plain_globals p))) (nat_le g.declared (n - plain_globals p)) k).0)))

  lets_own : (g : Granted) (x : ℕ) → lets_variable p g (hidden p x) ≡ true → lets_local p x g ≡ true
  lets_own g x h =
      or_cases (is_named g.regions (hidden p x)) _ h (λ k. or_right (nat_le g.declared x) (is_named g.regions (hidden p x)) k)
      (λ k. let same : plain_globals p + x - plain_globals p ≡ x = omega arith in
      or_left (nat_le g.declared x) (is_named g.regions (hidden p x)) (ap (nat_le g.declared) (sym same) ∙ (and_parts (not (nat_lt (plain_globals p + x) (plain_globals p))) (nat_le g.declared (plain_globals p + x - plain_globals p)) k).1))

  -- ---- all sets in force let what one inside of them names

  pub inside_global : (gs : List Granted) (rs : List Value) (x : ℕ) → set_inside p gs rs ≡ true → is_named rs (negsuc x) ≡ true → nat_lt x (plain_globals p) ≡ true → may_change_global gs x ≡ true
  inside_global [] rs x h n l = refl
  inside_global (g ∷ gs) rs x h n l =
      let both = and_parts (list_all (region_inside p g) rs) (set_inside p gs rs) h in
      and_both (is_named g.regions (negsuc x)) (may_change_global gs x) (lets_global g x l (named_lets p g rs x n both.0)) (inside_global gs rs x both.1 n l)

  pub inside_local : (gs : List Granted) (rs : List Value) (x : ℕ) → set_inside p gs rs ≡ true → is_named rs (hidden p x) ≡ true → may_change_local p gs x ≡ true
  inside_local [] rs x h n = refl
  inside_local (g ∷ gs) rs x h n =
      let both = and_parts (list_all (region_inside p g) rs) (set_inside p gs rs) h in
      and_both (lets_local p x g) (may_change_local p gs x) (lets_own g x (named_lets p g rs (plain_globals p + x) n both.0)) (inside_local gs rs x both.1 n)

  -- ---- the set in force lets the same as all active sets

  pub record Agrees (gs hs : List Granted) : Type 0 where
    pub globals : (x : ℕ) → nat_lt x (plain_globals p) ≡ true → may_change_global gs x ≡ may_change_global hs x
    pub locals : (x : ℕ) → may_change_local p gs x ≡ may_change_local p hs x

  pub agrees_same : (gs : List Granted) → Agrees gs gs
  agrees_same gs = record { globals = λ x l. refl; locals = λ x. refl }

  -- one more, which lets no more than the others
  alone : (a b : Bool) → (a ≡ true → b ≡ true) → (a && true) ≡ (a && b)
  alone true b h = sym (h refl)
  alone false b h = refl

  -- ---- in a loop

  -- a loop has one set of its own at most, from where its variables begin
  abbrev pub IsOne : ℕ → List Granted → Type 0
  IsOne low [] = Unit {0}
  IsOne low (g ∷ []) = low ≤ g.declared
  IsOne low (g ∷ f ∷ more) = ⊥

  own_agrees : (low : ℕ) (gs hs own : List Granted) → Agrees gs hs → AllBelow low gs → own_inside p gs own ≡ true → IsOne low own → Agrees (own_or own gs) (own ++ hs)
  own_agrees low gs hs [] a below h one = a
  own_agrees low gs hs (g ∷ []) a below h one = record {
    globals = λ x l. alone (is_named g.regions (negsuc x)) (may_change_global hs x) (λ n. sym (a.globals x l) ∙ inside_global gs g.regions x h n l);
    locals = λ x. alone (lets_local p x g) (may_change_local p hs x)
        (λ n. or_cases (nat_le g.declared x) (is_named g.regions (hidden p x)) n
        (λ k. let d = leb-true g.declared x k in let e = one in sym (a.locals x) ∙ high_may p low gs below x (omega (arith, d, e)))
        (λ k. sym (a.locals x) ∙ inside_local gs g.regions x h k));
  }
  own_agrees low gs hs (g ∷ f ∷ more) a below h one = absurd one

  own_one : (v : Labelled) (n : ℤ) (low d : ℕ) (o : Option (List Tree)) → low ≤ d → IsOne low (granted_by p v n d o)
  own_one v n low d None l = tt
  own_one v n low d (Some ts) l = l

  pub loop_agrees : (low : ℕ) (here : Here) (gs : List Granted) (l : Loop) (w : World) → low ≤ l.declared → Agrees gs here.granted → AllBelow low gs → loop_inside p (record here { granted = gs }) l w ≡ true
      → Agrees (own_loop p (record here { granted = gs }) l w).granted (in_loop p here l w).granted
  loop_agrees low here gs l w le a below h =
      own_agrees low gs here.granted (granted_by p (in_body p (record here { loop_entry = seen p w }) w) (count w.memory.blocks) l.declared l.assigns) a below h
      (own_one (in_body p (record here { loop_entry = seen p w }) w) (count w.memory.blocks) low l.declared l.assigns le)

  own_or_below : (low d : ℕ) (gs own : List Granted) → low ≤ d → AllBelow low gs → AllBelow d own → AllBelow d (own_or own gs)
  own_or_below low d gs [] l below h = below_more low d gs l below
  own_or_below low d gs (g ∷ more) l below h = h

  pub own_below : (here : Here) (gs : List Granted) (l : Loop) (w : World) (low : ℕ) → low ≤ l.declared → AllBelow low gs → AllBelow l.declared (own_loop p (record here { granted = gs }) l w).granted
  own_below here gs l w low le below =
      own_or_below low l.declared gs (granted_by p (in_body p (record here { loop_entry = seen p w }) w) (count w.memory.blocks) l.declared l.assigns) le below
      (one_below p (in_body p (record here { loop_entry = seen p w }) w) (count w.memory.blocks) l.declared l.assigns)

  -- ---- in a function that is called

  -- a clause that names the variable lies inside
  some_lets : (g : Granted) (cs : List Granted) (x : ℕ) → some_inside p cs g ≡ true → may_change_global cs x ≡ true → nat_lt x (plain_globals p) ≡ true → is_named g.regions (negsuc x) ≡ true
  some_lets g [] x h n l = absurd (false≢true h)
  some_lets g (c ∷ cs) x h n l =
      let both = and_parts (is_named c.regions (negsuc x)) (may_change_global cs x) n in
      or_cases (list_all (region_inside p g) c.regions) (some_inside p cs g) h
      (λ k. lets_global g x l (named_lets p g c.regions x both.0 k)) (λ k. some_lets g cs x k both.1 l)

  call_lets : (gs cs : List Granted) (x : ℕ) → call_inside p gs cs ≡ true → may_change_global cs x ≡ true → nat_lt x (plain_globals p) ≡ true → may_change_global gs x ≡ true
  call_lets [] cs x h n l = refl
  call_lets (g ∷ gs) cs x h n l =
      let both = and_parts (some_inside p cs g) (call_inside p gs cs) h in
      and_both (is_named g.regions (negsuc x)) (may_change_global gs x) (some_lets g cs x both.0 n l) (call_lets gs cs x both.1 n l)

  may_both : (gs hs : List Granted) (x : ℕ) → may_change_global (gs ++ hs) x ≡ (may_change_global gs x && may_change_global hs x)
  may_both [] hs x = refl
  may_both (g ∷ gs) hs x = ap (λ t. is_named g.regions (negsuc x) && t) (may_both gs hs x) ∙ by (is_named g.regions (negsuc x)) (may_change_global gs x) (may_change_global hs x) where
    by : (a b c : Bool) → (a && (b && c)) ≡ ((a && b) && c)
    by true b c = refl
    by false b c = refl

  joined : (a b : Bool) → (a ≡ true → b ≡ true) → a ≡ (a && b)
  joined true b h = sym (h refl)
  joined false b h = refl

  pub call_agrees : (gs hs own : List Granted) → Agrees gs hs → AllBelow 0 own → call_inside p gs own ≡ true → Agrees (own ++ map of_caller []) (own ++ map of_caller hs)
  call_agrees gs hs own a below h = record {
    globals = λ x l. may_both own [] x ∙ with_true (may_change_global own x)
        ∙ joined (may_change_global own x) (may_change_global (map of_caller hs) x) (λ n. callers_globals hs x ∙ sym (a.globals x l) ∙ call_lets gs own x h n l)
        ∙ sym (may_both own (map of_caller hs) x);
    locals = λ x. high_may p 0 (own ++ map of_caller []) (below_both 0 own [] below tt) x (omega arith)
        ∙ sym (high_may p 0 (own ++ map of_caller hs) (below_both 0 own (map of_caller hs) below (callers_below hs)) x (omega arith));
  } where
    with_true : (b : Bool) → (b && true) ≡ b
    with_true true = refl
    with_true false = refl
