-- Expressions whose effect is done, over a value that it left.
use Rattle.std.proofs.Common.{◌≡◌, ℕ, ◌||◌, if◌then◌else◌, List, length, refl, sym}
use Rattle.wp_base.specs.declared.kinds.CellKind.{CellKind}
use Rattle.typed_prog.specs.declared.types.CoreType.{CoreType}
use Rattle.typed_prog.specs.Tree as t
use Rattle.c_runs.specs.Values.{has_effect}
use Rattle.c_runs.specs.Plans.{Made, Mades, kept, leafy, logic_plan, choice_made, need, put_before, op_made, save_if, pure, pures}
use Rattle.typed_runs.specs.Fitting.{InScope}
use Rattle.typed_normal.specs.Spelled.{spelled_scope, IsKinded, AllAreKinded, NodeIsKinded}
use Rattle.typed_normal.specs.Typed.{core_scope}
use Rattle.typed_normal.proofs.Sorts.{op_kept}
use Rattle.typed_normal.proofs.Objects.{in_core}
use Rattle.plain_normal.proofs.Done.{NodeTakes, Takes, AllTake, on_test}
use Rattle.typed_normal.proofs.Making.{Place, shape, Extends, Makes, makes_none, makes_then, makes_map, Has, has_more, MadeIs, MadesAre, PlanIs, join_fits, saves_if, leafy_is, logic_is, choice_is, kept_is}

module _ (q : Place) (f : InScope) (low : ℕ) where
  -- the first operand, and those behind it
  pub put_is : (ks : List CellKind) (e : t.Value) (es : t.Values) (x : Made) (y : Mades) → Makes ks x.next_temp (MadeIs q f low (t.type_of e) x)
      → ((ls : List CellKind) → length ls ≡ x.next_temp → Extends ks ls → Makes ls y.next_temp (MadesAre q f low es y)) → Makes ks (put_before x y).next_temp (MadesAre q f low (t.more e es) (put_before x y))
  put_is ks e es x y h next =
      makes_map ks y.next_temp
      (λ env both. record {
        before = join_fits q f low env x.before y.before both.0.before both.1.before;
        values = (both.0.value, both.1.values);
        same = (sym both.0.same, both.1.same);
      })
      (makes_then ks x.next_temp y.next_temp h (λ ls count more so. next ls count more))

  module _ (d : t.Value) where
    abbrev pub Left : CoreType
    Left = t.type_of d

    -- what is left of the effect stands here
    left_is : (type : CoreType) → Left ≡ type → PlanIs q f low d type (leafy (kept d))
    left_is type same = leafy_is q f low d type (kept d) (kept_is q f low d type d same (λ ks left. left))

    mutual
      node_pure : (type : CoreType) (l : ℕ) (e : t.ValueNode) → NodeIsKinded q.facts q.bare q.functions f type e → NodeTakes Left type e
          → PlanIs q f low d type (pure q.bare.variables d (t.typed e type l))
      node_pure type l (t.constant z) h left =
          leafy_is q f low d type (kept (t.typed (t.constant z) type l)) (kept_is q f low d type (t.typed (t.constant z) type l) refl (λ ks left e known. h))
      node_pure type l t.null h left = leafy_is q f low d type (kept (t.typed t.null type l)) (kept_is q f low d type (t.typed t.null type l) refl (λ ks left e known. h))
      node_pure type l (t.temporary i) h left = elim h [ ]
      node_pure type l (t.apply o es) h left =
          leafy_is q f low d type (op_made type l o (pures q.bare.variables d es)) (λ ks n count has.
          makes_map ks (pures q.bare.variables d es n).next_temp
          (λ e m. record {
            before = m.before;
            value = (
              m.values,
              op_kept q.facts q.bare.variables (spelled_scope q.facts q.bare f) (core_scope q.facts (shape q e) f) (in_core q f e) type o es (pures q.bare.variables d es n).values m.same h.1,
            );
            same = refl;
          })
          (pures_are es h.0 left ks n count has))
      node_pure type l (t.logic c a b) h left =
          on_test (has_effect b) (λ z. PlanIs q f low d type (if z then leafy (kept d) else logic_plan type l c (pure q.bare.variables d a) (pure q.bare.variables d b)))
          (λ y. left_is type (left.0 y))
          (λ y. logic_is q f low d type l c (t.type_of a) (t.type_of b) (pure q.bare.variables d a) (pure q.bare.variables d b) h.2 (pure_is a h.0 (left.1 y).0) (pure_is b h.1 (left.1 y).1))
      node_pure type l (t.choose c a b) h left =
          on_test (has_effect a || has_effect b) (λ z. PlanIs q f low d type (if z then leafy (kept d) else leafy (choice_made type l (pure q.bare.variables d c) (pure q.bare.variables d a) (pure q.bare.variables d b))))
          (λ y. left_is type (left.0 y))
          (λ y. leafy_is q f low d type (choice_made type l (pure q.bare.variables d c) (pure q.bare.variables d a) (pure q.bare.variables d b))
          (choice_is q f low d type l (t.type_of c) (t.type_of a) (t.type_of b) (pure q.bare.variables d c) (pure q.bare.variables d a) (pure q.bare.variables d b) h.3 h.4
          (pure_is c h.0 (left.1 y).0) (pure_is a h.1 (left.1 y).1.0) (pure_is b h.2 (left.1 y).1.1)))
      node_pure type l (t.effect e es) h left = left_is type left

      pub pure_is : (e : t.Value) → IsKinded q.facts q.bare q.functions f e → Takes Left e → PlanIs q f low d (t.type_of e) (pure q.bare.variables d e)
      pure_is (t.typed node type l) h left = node_pure type l node h left

      pub pures_are : (es : t.Values) → AllAreKinded q.facts q.bare q.functions f es → AllTake Left es → (ks : List CellKind) (n : ℕ) → length ks ≡ n → Has q f ks d
          → Makes ks (pures q.bare.variables d es n).next_temp (MadesAre q f low es (pures q.bare.variables d es n))
      pures_are t.stop h left ks n count has = makes_none ks n count (λ e known. record { before = tt; values = tt; same = tt })
      pures_are (t.more e es) h left ks n count has =
          let m = (pure q.bare.variables d e).made n in
          let x = save_if q.bare.variables (need es) m in
          put_is ks e es x (pures q.bare.variables d es x.next_temp) (saves_if q f low (need es) ks (t.type_of e) m ((pure_is e h.0 left.0).made ks n count has))
          (λ ls count more. pures_are es h.1 left.1 ls x.next_temp count (has_more q f ks ls d more has))
