-- Whole expressions, the effect in them first.
use Rattle.std.proofs.Common.{◌≡◌, ℕ, suc, ◌≤◌, Bool, true, false, ◌||◌, List, refl, arith}
use Rattle.std.proofs.lemmas.Bool.{false≢true}
use Rattle.typed_prog.specs.declared.types.CoreType.{CoreType}
use Rattle.typed_prog.specs.declared.operators.Effect.{Effect}
use Rattle.typed_prog.specs.declared.operators.Effect.TheVariants as effect
use Rattle.typed_prog.specs.declared.operators.UpdateForm.{UpdateForm}
use Rattle.typed_prog.specs.declared.operators.UpdateForm.TheVariants as form
use Rattle.typed_prog.specs.declared.operators.Path.{Path}
use Rattle.typed_prog.specs.declared.operators.Change.{Change}
use Rattle.typed_prog.specs.Tree as tree
use Rattle.c_runs.specs.Program.{Facts, Variable, Program}
use Rattle.c_runs.specs.States.{World, Here}
use Rattle.c_runs.specs.Values.{has_effect, Temps, Vals, values}
use Rattle.c_runs.specs.Calls.{Eval, Act, bind, nothing, nought}
use Rattle.c_runs.specs.Run.{no_temps, logic_act, choice_act, first_if, Acts, same_acts, updating, whole, plain_acts, update_act, effect_act, node_acts, acts, first_of}
use Rattle.c_runs.specs.Core.{Cores, join, one}
use Rattle.c_runs.specs.CoreRun.{CoreWorld, Ending, then_do}
use Rattle.c_runs.specs.CoreRun as core
use Rattle.c_runs.specs.Plans.{Made, Sent, Plan, Plans, jump, leafy, logic_made, choice_made, no_value, pure, operands, nothing_made, made_if, whole_made, plain_plans, update_made, called_sent, sent_value, sending, plans_of, effect_plan, node_plans, plans, first_plan}
use Rattle.c_runs.proofs.Relations.{pair, moved_none, Gives, early, there, Fixed, fixed_early, fixed, Puts, gives_of_sure, sure_of_fixed, PlanOk, FirstOk, BothOk}
use Rattle.c_runs.proofs.Plans.{ex, join_ex, put_fixed, leaf_tested, leafy_ok, logic_ok, logic_fixed}
use Rattle.c_runs.proofs.Forks.{gives_after, choice_ok, choice_fixed}
use Rattle.c_runs.proofs.Pure.{pure_ok, pures_grow}
use Rattle.c_runs.proofs.Unaffected.{zero_stays}
use Rattle.c_runs.proofs.Effects.{assigned_ok, postfix_ok, call_puts}

gives_moving : {p : Facts} {xs : List Variable} {w : World} {tm : Temps} {t n : ℕ} {e : tree.Value} {o : Ending} {r : Eval} → Gives p xs true w tm t e n o r → Gives p xs false w tm t e n o r
gives_moving (early s) = early s
gives_moving (there w' tm' v mv h) = there w' tm' v (record { stays = λ i. absurd (false≢true i); keeps = mv.keeps; later = mv.later }) h

module _ (cp : Program Cores) (deeper : core.Deeper) (xs : List Variable) (here : Here) (calls : (function line : ℕ) → Vals → Act)
    (same_calls : (f l : ℕ) (vs : Vals) (w : World) → core.calls cp deeper here f l vs w ≡ calls f l vs w) where
  abbrev run : Cores → CoreWorld → Ending
  run = ex cp deeper xs here

  abbrev First : (ℕ → Made) → Act → Type 0
  First = FirstOk cp.facts xs run

  abbrev AllOk : Plan → Act → Type 0
  AllOk = PlanOk cp.facts xs run false no_value nought

  abbrev Both : Plans → Acts → Type 0
  Both = BothOk cp.facts xs run no_value nought

  nothing_ok : First nothing_made nothing
  nothing_ok = record { grows = λ t. omega arith; ok = λ t w tm. fixed w tm nought (moved_none false w t tm) (λ tm2 k w2. refl) }

  if_ok : (b : Bool) (f g : ℕ → Made) (a c : Act) → First f a → First g c → First (made_if b f g) (first_if b a c)
  if_ok true f g a c h k = h
  if_ok false f g a c h k = k

  -- ---- what comes first, and then the value

  whole_end : {w : World} {tm : Temps} {t n : ℕ} {d : tree.Value} {o : Ending} {r : Eval} (e : tree.Value) → Fixed cp.facts xs false w tm t d n o r
      → (let q = (pure xs d e).made n in Gives cp.facts xs false w tm t q.value q.next_temp (then_do o (run q.before)) (whole cp.facts xs here calls e (λ w. r) w))
  whole_end e (fixed_early s) = early s
  whole_end {w} {tm} {t} {n} {d} e (fixed w1 tm1 v mv h) = gives_after mv (gives_moving ((pure_ok cp deeper xs here d v e).made_ok n w1 tm1 h))

  whole_ok : (e : tree.Value) (f : ℕ → Made) (act : Act) → First f act → AllOk (leafy (whole_made xs e f)) (whole cp.facts xs here calls e act)
  whole_ok e f act h =
      leafy_ok cp deeper xs here (whole_made xs e f) (whole cp.facts xs here calls e act)
      (λ t. let g = h.grows t in let k = (pure_ok cp deeper xs here (f t).value nought e).made_grows (f t).next_temp in omega (arith, g, k))
      (λ t w tm st. rw (join_ex cp deeper xs here (f t).before ((pure xs (f t).value e).made (f t).next_temp).before (pair w tm)) (whole_end e (h.ok t w tm)))

  plain_ok : (e : tree.Value) (f : ℕ → Made) (act : Act) → First f act → Both (plain_plans xs e f) (plain_acts cp.facts xs here calls e act)
  plain_ok e f act h = record { first_ok = h; all_ok = whole_ok e f act h }

  -- ---- effects

  leafy_both : (f : ℕ → Made) (act : Act) → First f act → Both (plans_of (leafy f)) (same_acts act)
  leafy_both f act h = record { first_ok = h; all_ok = leafy_ok cp deeper xs here f act h.grows (λ t w tm st. gives_of_sure (sure_of_fixed (h.ok t w tm))) }

  sending_both : (type : CoreType) (l : ℕ) (f : ℕ → Sent) (act : Act) → ((t : ℕ) → t ≤ (f t).next_temp)
      → ((i t : ℕ) (w : World) (tm : Temps) → Puts false w tm t i (f t).next_temp (run (join (f t).before (one ((f t).put i))) (pair w tm)) (act w)) → Both (plans_of (sending type l f)) (same_acts act)
  sending_both type l f act grows h =
      let made_grows : (t : ℕ) → t ≤ suc (f t).next_temp = λ t. let g = grows t in omega (arith, g) in
      let made_ok : (t : ℕ) (w : World) (tm : Temps) → (let m = sent_value type l (f t) in Fixed cp.facts xs false w tm t m.value m.next_temp (run m.before (pair w tm)) (act w))
      = λ t w tm. put_fixed cp deeper xs here type l (h (f t).next_temp t w tm) in
      record {
        first_ok = record { grows = made_grows; ok = made_ok };
        all_ok = record {
          made_grows = made_grows;
          sent_grows = grows;
          test_grows = λ want k t. made_grows t;
          made_ok = λ t w tm st. gives_of_sure (sure_of_fixed (made_ok t w tm));
          sent_ok = λ i t w tm st. h i t w tm;
          test_ok = λ want k t w tm st.
              let m = sent_value type l (f t) in
              rw (join_ex cp deeper xs here m.before (one (jump want k m.value)) (pair w tm)) (leaf_tested cp deeper xs here want k (gives_of_sure (sure_of_fixed (made_ok t w tm))));
        };
      }

  update_ok : (type : CoreType) (l : ℕ) (path : Path) (by : Change) (f : UpdateForm) (es : tree.Values) (first : ℕ → Made) (act : Act) → First first act
      → First (update_made xs type l path by f es first) (λ w. bind (act w) (update_act cp.facts xs here calls type l path by f es))
  update_ok type l path by form.Compound es first act h = assigned_ok cp deeper xs here type l path (updating path by type l es) first act h
  update_ok type l path by form.Prefix es first act h = assigned_ok cp deeper xs here type l path (updating path by type l es) first act h
  update_ok type l path by form.Postfix es first act h = postfix_ok cp deeper xs here type l path by es calls first act h

  effect_ok : (type : CoreType) (l : ℕ) (e : Effect) (es : tree.Values) (first : ℕ → Made) (act : Act) → First first act
      → Both (plans_of (effect_plan xs type l e es first)) (same_acts (λ w. bind (act w) (effect_act cp.facts xs here calls type l e es)))
  effect_ok type l (effect.Assign path) es first act h =
      leafy_both (effect_plan xs type l (effect.Assign path) es first).made (λ w. bind (act w) (effect_act cp.facts xs here calls type l (effect.Assign path) es)) (assigned_ok cp deeper xs here type l path es first act h)
  effect_ok type l (effect.Update path by f) es first act h =
      leafy_both (update_made xs type l path by f es first) (λ w. bind (act w) (update_act cp.facts xs here calls type l path by f es)) (update_ok type l path by f es first act h)
  effect_ok type l (effect.Call f) es first act h =
      sending_both type l (λ n. called_sent l f (operands xs es first n)) (λ w. bind (act w) (λ d w. calls f l (values cp.facts xs no_temps d w es) w))
      (λ t. let g = h.grows t in let k = pures_grow cp deeper xs here (first t).value es (first t).next_temp in omega (arith, g, k))
      (λ i t w tm. call_puts cp deeper xs here calls same_calls f l i es first act h t w tm)

  -- ---- all expressions

  mutual
    node_ok : (type : CoreType) (l : ℕ) (node : tree.ValueNode) → Both (node_plans xs type l node) (node_acts cp.facts xs here calls type l node)
    node_ok type l (tree.constant z) = plain_ok (tree.typed (tree.constant z) type l) nothing_made nothing nothing_ok
    node_ok type l tree.null = plain_ok (tree.typed tree.null type l) nothing_made nothing nothing_ok
    node_ok type l (tree.temporary n) = plain_ok (tree.typed (tree.temporary n) type l) nothing_made nothing nothing_ok
    node_ok type l (tree.apply o es) = plain_ok (tree.typed (tree.apply o es) type l) (first_plan xs es) (first_of cp.facts xs here calls es) (firsts_ok es)
    node_ok type l (tree.logic c a b) =
        let pa = (plans_ok a).all_ok in
        let pb = (plans_ok b).all_ok in
        let x = (plans xs a).all in
        let y = (plans xs b).all in
        let act_a = (acts cp.facts xs here calls a).all in
        let act_b = (acts cp.facts xs here calls b).all in
        let act = logic_act c act_a act_b in
        let all = logic_ok cp deeper xs here false no_value nought c x y act_a act_b pa pb type l in
        let all_first : First (logic_made type l c x y) act = record {
          grows = all.made_grows;
          ok = λ t w tm. logic_fixed cp deeper xs here false no_value nought c x y act_a act_b pa pb type l t w tm (zero_stays cp.facts xs t tm);
        } in
        record {
          first_ok = if_ok (has_effect a) (plans xs a).first (made_if (has_effect b) (logic_made type l c x y) nothing_made) (acts cp.facts xs here calls a).first (first_if (has_effect b) act nothing) (plans_ok a).first_ok
              (if_ok (has_effect b) (logic_made type l c x y) nothing_made act nothing all_first nothing_ok);
          all_ok = all;
        }
    node_ok type l (tree.choose c a b) =
        let pc = (plans_ok c).all_ok in
        let pa = (plans_ok a).all_ok in
        let pb = (plans_ok b).all_ok in
        let u = (plans xs c).all in
        let x = (plans xs a).all in
        let y = (plans xs b).all in
        let act_c = (acts cp.facts xs here calls c).all in
        let act_a = (acts cp.facts xs here calls a).all in
        let act_b = (acts cp.facts xs here calls b).all in
        let act = choice_act act_c act_a act_b in
        let all = choice_ok cp deeper xs here false no_value nought u x y act_c act_a act_b pc pa pb type l in
        let all_first : First (choice_made type l u x y) act = record {
          grows = all.made_grows;
          ok = λ t w tm. choice_fixed cp deeper xs here false no_value nought u x y act_c act_a act_b pc pa pb type l t w tm (zero_stays cp.facts xs t tm);
        } in
        record {
          first_ok = if_ok (has_effect c) (plans xs c).first (made_if (has_effect a || has_effect b) (choice_made type l u x y) nothing_made) (acts cp.facts xs here calls c).first (first_if (has_effect a || has_effect b) act nothing) (plans_ok c).first_ok
              (if_ok (has_effect a || has_effect b) (choice_made type l u x y) nothing_made act nothing all_first nothing_ok);
          all_ok = all;
        }
    node_ok type l (tree.effect e es) = effect_ok type l e es (first_plan xs es) (first_of cp.facts xs here calls es) (firsts_ok es)

    pub plans_ok : (e : tree.Value) → Both (plans xs e) (acts cp.facts xs here calls e)
    plans_ok (tree.typed node type l) = node_ok type l node

    pub firsts_ok : (es : tree.Values) → First (first_plan xs es) (first_of cp.facts xs here calls es)
    firsts_ok tree.stop = nothing_ok
    firsts_ok (tree.more e es) =
        if_ok (has_effect e) (plans xs e).first (first_plan xs es) (acts cp.facts xs here calls e).first (first_of cp.facts xs here calls es) (plans_ok e).first_ok (firsts_ok es)
