-- What is left of the effect in an expression has the type of what it stands for.
use Rattle.std.proofs.Common.{◌≡◌, Bool, true, false, not, ◌&&◌, ◌||◌, if◌then◌else◌, refl, sym, ap, ◌∙◌}
use Rattle.std.proofs.lemmas.Bool.{false≢true, and_parts}
use Rattle.typed_prog.specs.declared.types.CoreType.{CoreType}
use Rattle.typed_prog.specs.Types.{void}
use Rattle.typed_prog.specs.Tree as t
use Rattle.c_runs.specs.Values.{has_effect, have_effect}
use Rattle.plain_normal.specs.Single.{is_single, are_single}

-- the type of what comes first; of what is of no use where no effect is in it
abbrev mutual
  pub first_type : t.Value → CoreType
  first_type (t.typed node type line) = node_first type node

  pub node_first : CoreType → t.ValueNode → CoreType
  node_first type (t.constant z) = void
  node_first type t.null = void
  node_first type (t.temporary n) = void
  node_first type (t.apply o es) = first_types es
  node_first type (t.logic c a b) = if has_effect a then first_type a else if has_effect b then type else void
  node_first type (t.choose c a b) = if has_effect c then first_type c else if has_effect a || has_effect b then type else void
  node_first type (t.effect e es) = type

  pub first_types : t.Values → CoreType
  first_types t.stop = void
  first_types (t.more e es) = if has_effect e then first_type e else first_types es

-- where what is left of the effect stands, a value of this type is wanted
abbrev mutual
  pub NodeTakes : (left type : CoreType) → t.ValueNode → Type 0
  NodeTakes d type (t.constant z) = Unit {0}
  NodeTakes d type t.null = Unit {0}
  NodeTakes d type (t.temporary n) = Unit {0}
  NodeTakes d type (t.apply o es) = AllTake d es
  NodeTakes d type (t.logic c a b) = (has_effect b ≡ true → d ≡ type) × (has_effect b ≡ false → Takes d a × Takes d b)
  NodeTakes d type (t.choose c a b) =
      ((has_effect a || has_effect b) ≡ true → d ≡ type) × ((has_effect a || has_effect b) ≡ false → Takes d c × (Takes d a × Takes d b))
  NodeTakes d type (t.effect e es) = d ≡ type

  pub Takes : (left : CoreType) → t.Value → Type 0
  Takes d (t.typed node type line) = NodeTakes d type node

  pub AllTake : (left : CoreType) → t.Values → Type 0
  AllTake d t.stop = Unit {0}
  AllTake d (t.more e es) = Takes d e × AllTake d es

-- ---- tests

pub or_false : (a b : Bool) → (a || b) ≡ false → (a ≡ false) × (b ≡ false)
or_false true b h = absurd (false≢true (sym h))
or_false false b h = (refl, h)

first_only : (a b : Bool) → not (a && b) ≡ true → a ≡ true → b ≡ false
first_only true true h e = absurd (false≢true h)
first_only true false h e = refl
first_only false b h e = absurd (false≢true e)

second_only : (a b : Bool) → not (a && b) ≡ true → b ≡ true → a ≡ false
second_only true true h e = absurd (false≢true h)
second_only false b h e = refl
second_only true false h e = absurd (false≢true e)

-- ---- without effect nothing is left

mutual
  pub nothing_left : (d : CoreType) (e : t.Value) → has_effect e ≡ false → Takes d e
  nothing_left d (t.typed (t.constant z) type line) h = tt
  nothing_left d (t.typed t.null type line) h = tt
  nothing_left d (t.typed (t.temporary n) type line) h = tt
  nothing_left d (t.typed (t.apply o es) type line) h = none_left d es h
  nothing_left d (t.typed (t.logic c a b) type line) h =
      let both = or_false (has_effect a) (has_effect b) h in
      (λ e. absurd (false≢true (sym both.1 ∙ e)), λ e. (nothing_left d a both.0, nothing_left d b both.1))
  nothing_left d (t.typed (t.choose c a b) type line) h =
      let both = or_false (has_effect c || has_effect a) (has_effect b) h in
      let first = or_false (has_effect c) (has_effect a) both.0 in (
        λ e. absurd (false≢true (sym (ap (λ x. x || has_effect b) first.1 ∙ both.1) ∙ e)),
        λ e. (nothing_left d c first.0, (nothing_left d a first.1, nothing_left d b both.1)),
      )
  nothing_left d (t.typed (t.effect e es) type line) h = absurd (false≢true (sym h))

  pub none_left : (d : CoreType) (es : t.Values) → have_effect es ≡ false → AllTake d es
  none_left d t.stop h = tt
  none_left d (t.more e es) h = let both = or_false (has_effect e) (have_effect es) h in (nothing_left d e both.0, none_left d es both.1)

-- ---- what comes first has the type that is wanted

pub on_test : (b : Bool) (P : Bool → Type 0) → (b ≡ true → P true) → (b ≡ false → P false) → P b
on_test true P f g = f refl
on_test false P f g = g refl

mutual
  pub takes_first : (e : t.Value) → is_single e ≡ true → Takes (first_type e) e
  takes_first (t.typed (t.constant z) type line) h = tt
  takes_first (t.typed t.null type line) h = tt
  takes_first (t.typed (t.temporary n) type line) h = tt
  takes_first (t.typed (t.apply o es) type line) h = take_first es h
  takes_first (t.typed (t.logic c a b) type line) h =
      let parts = and_parts (not (has_effect a && has_effect b)) (is_single a && is_single b) h in
      let inner = and_parts (is_single a) (is_single b) parts.1 in (
        λ e. ap (λ x. if x then first_type a else if has_effect b then type else void) (second_only (has_effect a) (has_effect b) parts.0 e) ∙ ap (λ x. if x then type else void) e,
        λ e. (
          on_test (has_effect a) (λ x. Takes (if x then first_type a else if has_effect b then type else void) a)
              (λ y. takes_first a inner.0) (λ y. nothing_left (if has_effect b then type else void) a y),
          nothing_left (if has_effect a then first_type a else if has_effect b then type else void) b e,
        ),
      )
  takes_first (t.typed (t.choose c a b) type line) h =
      let parts = and_parts (not (has_effect c && (has_effect a || has_effect b))) (is_single c && (is_single a && is_single b)) h in
      let inner = and_parts (is_single c) (is_single a && is_single b) parts.1 in
      let left = if has_effect c then first_type c else if has_effect a || has_effect b then type else void in (
        λ e. ap (λ x. if x then first_type c else if has_effect a || has_effect b then type else void) (second_only (has_effect c) (has_effect a || has_effect b) parts.0 e)
            ∙ ap (λ x. if x then type else void) e,
        λ e. let both = or_false (has_effect a) (has_effect b) e in (
          on_test (has_effect c) (λ x. Takes (if x then first_type c else if has_effect a || has_effect b then type else void) c)
              (λ y. takes_first c inner.0) (λ y. nothing_left (if has_effect a || has_effect b then type else void) c y),
          (nothing_left left a both.0, nothing_left left b both.1),
        ),
      )
  takes_first (t.typed (t.effect e es) type line) h = refl

  pub take_first : (es : t.Values) → are_single es ≡ true → AllTake (first_types es) es
  take_first t.stop h = tt
  take_first (t.more e es) h =
      let parts = and_parts (not (has_effect e && have_effect es)) (is_single e && are_single es) h in
      let inner = and_parts (is_single e) (are_single es) parts.1 in
      on_test (has_effect e) (λ x. Takes (if x then first_type e else first_types es) e × AllTake (if x then first_type e else first_types es) es)
      (λ y. (takes_first e inner.0, none_left (first_type e) es (first_only (has_effect e) (have_effect es) parts.0 y)))
      (λ y. (nothing_left (first_types es) e y, take_first es inner.1))
