-- Expressions whose effect is done, over a value that it left.
use Rattle.std.proofs.Common.{◌≡◌, ℕ, Bool, false, ◌||◌, if◌then◌else◌, List, length, refl, sym, subst}
use Rattle.wp_base.specs.declared.kinds.Kind.{Kind}
use Rattle.typed_prog.specs.declared.types.CoreType.{CoreType}
use Rattle.typed_prog.specs.Types.{is_pointer}
use Rattle.typed_prog.specs.Tree as t
use Rattle.c_runs.specs.Values.{has_effect}
use Rattle.c_runs.specs.Plans.{Made, Mades, kept, leafy, logic_plan, choice_made, need, put_before, op_made, save_if, pure, pures}
use Rattle.plain_normal.specs.Plain.{IsPlain, AreAllPlain, NodeIsPlain}
use Rattle.plain_normal.proofs.Sorts.{op_same}
use Rattle.plain_normal.proofs.Done.{NodeTakes, Takes, AllTake, on_test}
use Rattle.plain_normal.proofs.Making.{Place, shape, Extends, Makes, makes_none, makes_then, makes_map, Has, has_more, MadeIs, MadesAre, PlanIs, join_fits, saves_if, leafy_is, logic_is, choice_is, kept_is}

module _ (q : Place) (f : ℕ → Bool) (low : ℕ) where
  -- the first operand, and those behind it
  pub put_is : (ks : List Kind) (e : t.Value) (es : t.Values) (x : Made) (y : Mades) → Makes ks x.next_temp (MadeIs q f low (t.type_of e) x)
      → ((ls : List Kind) → length ls ≡ x.next_temp → Extends ks ls → Makes ls y.next_temp (MadesAre q f low es y)) → Makes ks (put_before x y).next_temp (MadesAre q f low (t.more e es) (put_before x y))
  put_is ks e es x y h next =
      makes_map ks y.next_temp
      (λ env both. record {
        before = join_fits q f low env x.before y.before both.0.before both.1.before;
        values = (both.0.value, both.1.values);
        same = (sym both.0.same, both.1.same);
      })
      (makes_then ks x.next_temp y.next_temp h (λ ls count more so. next ls count more))

  module _ (d : t.Value) where
    abbrev pub Left : CoreType
    Left = t.type_of d

    -- what is left of the effect stands here
    left_is : (type : CoreType) → Left ≡ type → is_pointer type ≡ false → PlanIs q f low d type (leafy (kept d))
    left_is type same number = leafy_is q f low d type (kept d) (kept_is q f low d type d same number (λ ks left. left))

    mutual
      node_pure : (type : CoreType) (l : ℕ) (e : t.ValueNode) → is_pointer type ≡ false → NodeIsPlain q.facts q.variables q.functions f type e → NodeTakes Left type e
          → PlanIs q f low d type (pure q.variables d (t.typed e type l))
      node_pure type l (t.constant z) number h left =
          leafy_is q f low d type (kept (t.typed (t.constant z) type l)) (kept_is q f low d type (t.typed (t.constant z) type l) refl number (λ ks left e known. (number, h)))
      node_pure type l t.null number h left = elim h [ ]
      node_pure type l (t.temporary i) number h left = elim h [ ]
      node_pure type l (t.apply o es) number h left =
          leafy_is q f low d type (op_made type l o (pures q.variables d es)) (λ ks n count has.
          makes_map ks (pures q.variables d es n).next_temp
          (λ e m. record { before = m.before; value = (m.values, op_same q.facts q.variables (shape q e) type o es (pures q.variables d es n).values m.same h.1); same = refl; number = number })
          (pures_are es h.0 left ks n count has))
      node_pure type l (t.logic c a b) number h left =
          on_test (has_effect b) (λ z. PlanIs q f low d type (if z then leafy (kept d) else logic_plan type l c (pure q.variables d a) (pure q.variables d b)))
          (λ y. left_is type (left.0 y) number)
          (λ y. logic_is q f low d type l c (t.type_of a) (t.type_of b) (pure q.variables d a) (pure q.variables d b) h.2 (pure_is a h.0 (left.1 y).0) (pure_is b h.1 (left.1 y).1))
      node_pure type l (t.choose c a b) number h left =
          let made = choice_made type l (pure q.variables d c) (pure q.variables d a) (pure q.variables d b) in
          on_test (has_effect a || has_effect b) (λ z. PlanIs q f low d type (if z then leafy (kept d) else leafy (choice_made type l (pure q.variables d c) (pure q.variables d a) (pure q.variables d b))))
          (λ y. left_is type (left.0 y) number)
          (λ y. leafy_is q f low d type (choice_made type l (pure q.variables d c) (pure q.variables d a) (pure q.variables d b))
          (choice_is q f low d type l (t.type_of c) (pure q.variables d c) (pure q.variables d a) (pure q.variables d b) number (pure_is c h.0 (left.1 y).0)
          (subst (λ u. PlanIs q f low d u (pure q.variables d a)) h.3 (pure_is a h.1 (left.1 y).1.0))
          (subst (λ u. PlanIs q f low d u (pure q.variables d b)) h.4 (pure_is b h.2 (left.1 y).1.1))))
      node_pure type l (t.effect e es) number h left = left_is type left number

      pub pure_is : (e : t.Value) → IsPlain q.facts q.variables q.functions f e → Takes Left e → PlanIs q f low d (t.type_of e) (pure q.variables d e)
      pure_is (t.typed node type l) h left = node_pure type l node h.0 h.1 left

      pub pures_are : (es : t.Values) → AreAllPlain q.facts q.variables q.functions f es → AllTake Left es → (ks : List Kind) (n : ℕ) → length ks ≡ n → Has q ks d
          → Makes ks (pures q.variables d es n).next_temp (MadesAre q f low es (pures q.variables d es n))
      pures_are t.stop h left ks n count has = makes_none ks n count (λ e known. record { before = tt; values = tt; same = tt })
      pures_are (t.more e es) h left ks n count has =
          let m = (pure q.variables d e).made n in
          let x = save_if q.variables (need es) m in
          put_is ks e es x (pures q.variables d es x.next_temp) (saves_if q f low (need es) ks (t.type_of e) m ((pure_is e h.0 left.0).made ks n count has))
          (λ ls count more. pures_are es h.1 left.1 ls x.next_temp count (has_more q ks ls d more has))
