-- Assignments, updates and calls whose value is wanted.
use Rattle.std.proofs.Common.{◌≡◌, ℕ, suc, Bool, true, false, List, [], refl, sym, ap, ◌∙◌, subst, arith}
use Rattle.typed_prog.specs.declared.types.CoreType.{CoreType}
use Rattle.typed_prog.specs.declared.operators.Path.{Path}
use Rattle.typed_prog.specs.declared.operators.Change.{Change}
use Rattle.typed_prog.specs.Tree as tree
use Rattle.c_runs.specs.Told.{Value}
use Rattle.c_runs.specs.Program.{Facts, Variable, Program}
use Rattle.c_runs.specs.States.{World, Here}
use Rattle.c_runs.specs.Operators.{Val, is, then_val}
use Rattle.c_runs.specs.Values.{Temps, Vals, are, wrongs, push_val, value, values}
use Rattle.c_runs.specs.Claims.{undefined}
use Rattle.c_runs.specs.Calls.{Eval, gives, stops, Act, bind, of_val, nought}
use Rattle.c_runs.specs.Effects.{changed, changed_value, Written, wrote, unwritten, write, wrote_act, assign_act}
use Rattle.c_runs.specs.Run.{no_temps, first_operand, other_operands, old_value, giving, postfix_act}
use Rattle.c_runs.specs.Core.{temporary, store, call, Cores, end, join, one}
use Rattle.c_runs.specs.CoreRun.{CoreWorld, Ending, goes_on, stopped, then_do}
use Rattle.c_runs.specs.CoreRun as core
use Rattle.c_runs.specs.Plans.{Made, Mades, save, save_if, put_before, need, pure, pures, no_value, operands, assigned_made, changed_made, postfix_made, called_sent}
use Rattle.c_runs.proofs.Relations.{pair, Keeps, keeps_all, keeps_trans, Moved, moved_trans, any_world, Gives, early, there, Fixed, fixed_early, fixed, Puts, puts_early, puts, Lists, lists_early, lists, Stays, stays_later, FirstOk}
use Rattle.c_runs.proofs.Plans.{ex, join_ex, join_join, saved, save_grows}
use Rattle.c_runs.proofs.Pure.{Plain, plain_early, plain, plain_of, Sealed, sealed_early, sealed, sealed_of, put_lists, quiet_all, pure_ok, pures_ok, pures_grow}
use Rattle.c_runs.proofs.Updates.{value_changed, assign_gives, postfix_gives}

-- the old value of what is updated is v: the new one, from the value of the other operand
changed_gives : (p : Facts) (xs : List Variable) {w : World} {tm : Temps} {t n : ℕ} {e : tree.Value} {o : Ending} {y : Val} (by : Change) (type : CoreType) (l : ℕ) (a : tree.Value) (v : Value)
    → ((tm2 : Temps) → Keeps t tm tm2 → value p xs tm2 nought w a ≡ is v) → Plain p xs w tm t e n o y
    → Gives p xs true w tm t (changed by type l a e) n o (of_val w (then_val y (λ u. changed_value p xs w by type l v u)))
changed_gives p xs by type l a v h (plain_early u k) = early (undefined u k)
changed_gives p xs {w} {tm} {t} {n} {e} by type l a v h (plain tm1 y mv g) =
    there w tm1 (then_val y (λ u. changed_value p xs w by type l v u)) mv
    (λ tm2 k. value_changed p xs tm2 nought w by type l a e ∙ rw (h tm2 (keeps_trans t n tm tm1 tm2 mv.later mv.keeps k), g tm2 k) refl)

-- to any world, in two steps
two_moves : {w w1 w2 : World} {tm tm1 tm2 : Temps} {t n m : ℕ} {still : Bool} → Moved false w w1 t tm tm1 n → Moved still w1 w1 n tm1 tm2 m → Moved false w w2 t tm tm2 m
two_moves {w} {w1} {w2} {tm} {tm1} {tm2} {t} {n} {m} mv mv2 = any_world w w2 t m tm tm2 (keeps_trans t n tm tm1 tm2 mv.later mv.keeps mv2.keeps) (omega (arith, mv.later, mv2.later))

module _ (cp : Program Cores) (deeper : core.Deeper) (xs : List Variable) (here : Here) where
  abbrev run : Cores → CoreWorld → Ending
  run = ex cp deeper xs here

  -- ---- stores

  module _ (type : CoreType) (l : ℕ) (path : Path) where
    abbrev assign : Vals → Act
    assign = assign_act cp.facts xs here l type path

    -- the value of the whole is v, and is left in e
    store_done : {w w1 : World} {tm tm1 : Temps} {t n : ℕ} (e : tree.Value) (es : tree.Values) (v : Value) (r : Eval) → assign (values cp.facts xs tm1 nought w1 es) w1 ≡ r
        → ((tm2 : Temps) → Keeps n tm1 tm2 → (w2 : World) → value cp.facts xs tm2 nought w2 e ≡ is v) → Moved false w w1 t tm tm1 n
        → Fixed cp.facts xs false w tm t e n (run (one (store type l path es)) (pair w1 tm1)) (giving v r)
    store_done {w} {w1} {tm} {tm1} {t} {n} e es v (gives z w2) h g mv = rw h (fixed w2 tm1 v (any_world w w2 t n tm tm1 mv.keeps mv.later) g)
    store_done e es v (stops s) h g mv = rw h (fixed_early s)

    store_lists : {w w1 : World} {tm tm1 : Temps} {t n m : ℕ} {es : tree.Values} {o : Ending} {vs : Vals} (e : tree.Value) (v : Value)
        → ((tm2 : Temps) → Keeps n tm1 tm2 → (w2 : World) → value cp.facts xs tm2 nought w2 e ≡ is v) → Moved false w w1 t tm tm1 n → Lists cp.facts xs w1 tm1 n es m o vs
        → Fixed cp.facts xs false w tm t e m (then_do o (run (one (store type l path es)))) (giving v (assign vs w1))
    store_lists e v h mv (lists_early u k) = fixed_early (undefined u k)
    store_lists {w} {w1} {tm} {tm1} {t} {n} {m} {es} e v h mv (lists tm2 vs mv2 g) =
        store_done e es v (assign vs w1) (ap (λ vs. assign vs w1) (g tm2 (keeps_all m tm2))) (λ tm3 k w2. h tm3 (keeps_trans n m tm1 tm2 tm3 mv2.later mv2.keeps k) w2) (two_moves mv mv2)

    -- ---- assignments

    kept_list : {w : World} {tm tm1 : Temps} {t n m : ℕ} {es : tree.Values} {o : Ending} {vs : Vals} (e : tree.Value) (v : Value) → Moved true w w t tm tm1 n
        → ((tm2 : Temps) → Keeps n tm1 tm2 → (w2 : World) → value cp.facts xs tm2 nought w2 e ≡ is v) → Lists cp.facts xs w tm1 n es m o vs → Lists cp.facts xs w tm t (tree.more e es) m o (push_val (is v) vs)
    kept_list e v mv h (lists_early u l) = lists_early u l
    kept_list {w} {tm} {tm1} {t} {n} {m} e v mv h (lists tm2 vs mv2 g) =
        lists tm2 (push_val (is v) vs) (moved_trans mv mv2) (λ tm3 k. rw (h tm3 (keeps_trans n m tm1 tm2 tm3 mv2.later mv2.keeps k) w, g tm3 k) refl)

    -- from the value that is assigned on
    sealed_stored : {w w1 : World} {tm tm1 : Temps} {t n m : ℕ} {e : tree.Value} {o : Ending} {x : Val} (d : tree.Value) (v : Value) (es : tree.Values) → Stays cp.facts xs d v n tm1
        → Moved false w w1 t tm tm1 n → Sealed cp.facts xs w1 tm1 n e m o x
        → (let y = pures xs d es m in Fixed cp.facts xs false w tm t e y.next_temp (then_do o (run (join y.before (one (store type l path (tree.more e y.values)))))) (assign (push_val x (values cp.facts xs no_temps v w1 es)) w1))
    sealed_stored d v es st mv (sealed_early u k) = fixed_early (undefined u k)
    sealed_stored {w} {w1} {tm} {tm1} {t} {n} {m} {e} d v es st mv (sealed tm2 z mv2 h) =
        let y = pures xs d es m in
        let vs = values cp.facts xs no_temps v w1 es in
        let same : Moved true w1 w1 m tm2 tm2 m = record { stays = λ i. refl; keeps = keeps_all m tm2; later = omega arith } in
        rw (join_ex cp deeper xs here y.before (one (store type l path (tree.more e y.values))) (pair w1 tm2))
        (subst (λ r. Fixed cp.facts xs false w tm t e y.next_temp (then_do (run y.before (pair w1 tm2)) (run (one (store type l path (tree.more e y.values))))) r) (assign_gives cp.facts xs here type l path z vs w1)
        (store_lists e z h (two_moves mv mv2) (kept_list e z same h (pures_ok cp deeper xs here d v es w1 m tm2 (stays_later cp.facts xs d v mv2 st)))))

    assigned_end : {w : World} {tm : Temps} {t n : ℕ} {d : tree.Value} {o : Ending} {r : Eval} (e : tree.Value) (es : tree.Values) → Fixed cp.facts xs false w tm t d n o r
        → (let x = save ((pure xs d e).made n) in let y = pures xs d es x.next_temp in
        Fixed cp.facts xs false w tm t x.value y.next_temp (then_do o (run (join (join x.before y.before) (one (store type l path (tree.more x.value y.values))))))
        (bind r (λ d w. assign (values cp.facts xs no_temps d w (tree.more e es)) w)))
    assigned_end e es (fixed_early s) = fixed_early s
    assigned_end {w} {tm} {t} {n} {d} e es (fixed w1 tm1 v mv h) =
        let x = save ((pure xs d e).made n) in
        let y = pures xs d es x.next_temp in
        rw (join_join cp deeper xs here x.before y.before (one (store type l path (tree.more x.value y.values))) (pair w1 tm1))
        (sealed_stored d v es h mv (sealed_of (saved cp deeper xs here ((pure xs d e).made n) ((pure_ok cp deeper xs here d v e).made_ok n w1 tm1 h)) (value cp.facts xs no_temps v w1 e) refl))

    assigned_none : {w : World} {tm : Temps} {t n : ℕ} {d : tree.Value} {o : Ending} {r : Eval} → Fixed cp.facts xs false w tm t d n o r
        → Fixed cp.facts xs false w tm t no_value n (then_do o (run (one (store type l path tree.stop)))) (bind r (λ d w. assign (are []) w))
    assigned_none (fixed_early s) = fixed_early s
    assigned_none {w} {tm} {t} {n} (fixed w1 tm1 v mv h) = by_write (write cp.facts xs here l type path w1 [] nought) refl
      where
        by_write : (r : Written) → write cp.facts xs here l type path w1 [] nought ≡ r → Fixed cp.facts xs false w tm t no_value n (run (one (store type l path tree.stop)) (pair w1 tm1)) (wrote_act nought (write cp.facts xs here l type path w1 [] nought))
        by_write (wrote w2) i = rw i (fixed w2 tm1 nought (any_world w w2 t n tm tm1 mv.keeps mv.later) (λ tm2 k w3. refl))
        by_write (unwritten s) i = rw i (fixed_early s)

    pub assigned_ok : (es : tree.Values) (first : ℕ → Made) (act : Act) → FirstOk cp.facts xs run first act
        → FirstOk cp.facts xs run (assigned_made xs type l path es first) (λ w. bind (act w) (λ d w. assign (values cp.facts xs no_temps d w es) w))
    assigned_ok tree.stop first act h = record {
      grows = λ t. h.grows t;
      ok = λ t w tm. rw (join_join cp deeper xs here (first t).before end (one (store type l path tree.stop)) (pair w tm)) (assigned_none (h.ok t w tm));
    }
    assigned_ok (tree.more e es) first act h = record {
      grows = λ t.
          let m = first t in
          let g = h.grows t in
          let x = (pure_ok cp deeper xs here m.value nought e).made_grows m.next_temp in
          let k = pures_grow cp deeper xs here m.value es (suc ((pure xs m.value e).made m.next_temp).next_temp) in
          omega (arith, g, x, k);
      ok = λ t w tm.
          let m = first t in
          let x = save ((pure xs m.value e).made m.next_temp) in
          let y = pures xs m.value es x.next_temp in
          rw (join_join cp deeper xs here m.before (join x.before y.before) (one (store type l path (tree.more x.value y.values))) (pair w tm)) (assigned_end e es (h.ok t w tm));
    }

    -- ---- postfix updates

    module _ (by : Change) (es : tree.Values) (calls : (function line : ℕ) → Vals → Act) where
      abbrev others : tree.Values
      others = other_operands es

      -- the new value, before the others; a is the old value
      abbrev new_made : tree.Value → tree.Value → ℕ → Made
      new_made d a n = changed_made xs by type l a ((pure xs d (first_operand es)).made n)

      abbrev new_mades : tree.Value → tree.Value → ℕ → Mades
      new_mades d a n = let u = save_if xs (need others) (new_made d a n) in put_before u (pures xs d others u.next_temp)

      postfix_stored : {w w1 : World} {tm tm1 : Temps} {t n m : ℕ} {e : tree.Value} {o : Ending} {x : Val} (d : tree.Value) (v : Value) → Stays cp.facts xs d v n tm1
          → Moved false w w1 t tm tm1 n → Sealed cp.facts xs w1 tm1 n e m o x → x ≡ value cp.facts xs no_temps v w1 (old_value path type l others)
          → (let y = new_mades d e m in Fixed cp.facts xs false w tm t e y.next_temp (then_do o (run (join y.before (one (store type l path y.values))))) (postfix_act cp.facts xs here calls type l path by es v w1))
      postfix_stored d v st mv (sealed_early u k) i = rw (sym i) (fixed_early (undefined u k))
      postfix_stored {w} {w1} {tm} {tm1} {t} {n} {m} {e} d v st mv (sealed tm2 z mv2 h) i =
          let y = new_mades d e m in
          let st2 = stays_later cp.facts xs d v mv2 st in
          rw (join_ex cp deeper xs here y.before (one (store type l path y.values)) (pair w1 tm2))
          (subst (λ r. Fixed cp.facts xs false w tm t e y.next_temp (then_do (run y.before (pair w1 tm2)) (run (one (store type l path y.values)))) r) (postfix_gives cp.facts xs here type l path calls by es v w1 z (sym i))
          (store_lists e z h (two_moves mv mv2)
          (put_lists cp deeper xs here (new_made d e m) (then_val (value cp.facts xs no_temps v w1 (first_operand es)) (λ u. changed_value cp.facts xs w1 by type l z u)) (pures xs d others) (values cp.facts xs no_temps v w1 others)
          (need others) (quiet_all xs d others)
          (changed_gives cp.facts xs by type l e z (λ tm3 k. h tm3 k w1) (plain_of ((pure_ok cp deeper xs here d v (first_operand es)).made_ok m w1 tm2 st2) (value cp.facts xs no_temps v w1 (first_operand es)) refl))
          (λ n3 tm3 mv3. pures_ok cp deeper xs here d v others w1 n3 tm3 (stays_later cp.facts xs d v mv3 st2)))))

      postfix_end : {w : World} {tm : Temps} {t n : ℕ} {d : tree.Value} {o : Ending} {r : Eval} → Fixed cp.facts xs false w tm t d n o r
          → (let x = save ((pure xs d (old_value path type l others)).made n) in let y = new_mades d x.value x.next_temp in
          Fixed cp.facts xs false w tm t x.value y.next_temp (then_do o (run (join x.before (join y.before (one (store type l path y.values)))))) (bind r (postfix_act cp.facts xs here calls type l path by es)))
      postfix_end (fixed_early s) = fixed_early s
      postfix_end {w} {tm} {t} {n} {d} (fixed w1 tm1 v mv h) =
          let old = old_value path type l others in
          let x = save ((pure xs d old).made n) in
          let y = new_mades d x.value x.next_temp in
          rw (join_ex cp deeper xs here x.before (join y.before (one (store type l path y.values))) (pair w1 tm1))
          (postfix_stored d v h mv (sealed_of (saved cp deeper xs here ((pure xs d old).made n) ((pure_ok cp deeper xs here d v old).made_ok n w1 tm1 h)) (value cp.facts xs no_temps v w1 old) refl) refl)

      pub postfix_ok : (first : ℕ → Made) (act : Act) → FirstOk cp.facts xs run first act
          → FirstOk cp.facts xs run (postfix_made xs type l path by es first) (λ w. bind (act w) (postfix_act cp.facts xs here calls type l path by es))
      postfix_ok first act h = record {
        grows = λ t.
            let m = first t in
            let old = old_value path type l others in
            let x = save ((pure xs m.value old).made m.next_temp) in
            let u = save_if xs (need others) (new_made m.value x.value x.next_temp) in
            let g = h.grows t in
            let a = (pure_ok cp deeper xs here m.value nought old).made_grows m.next_temp in
            let b = (pure_ok cp deeper xs here m.value nought (first_operand es)).made_grows x.next_temp in
            let c = save_grows cp deeper xs here (need others) (new_made m.value x.value x.next_temp) in
            let k = pures_grow cp deeper xs here m.value others u.next_temp in
            omega (arith, g, a, b, c, k);
        ok = λ t w tm.
            let m = first t in
            let x = save ((pure xs m.value (old_value path type l others)).made m.next_temp) in
            let y = new_mades m.value x.value x.next_temp in
            rw (join_ex cp deeper xs here m.before (join x.before (join y.before (one (store type l path y.values)))) (pair w tm)) (postfix_end (h.ok t w tm));
      }

  -- ---- calls

  module _ (calls : (function line : ℕ) → Vals → Act) (same_calls : (f l : ℕ) (vs : Vals) (w : World) → core.calls cp deeper here f l vs w ≡ calls f l vs w) (f l i : ℕ) where
    call_done : {w w1 : World} {tm tm1 : Temps} {t n : ℕ} (es : tree.Values) (r : Eval) → core.calls cp deeper here f l (values cp.facts xs tm1 nought w1 es) w1 ≡ r → Moved false w w1 t tm tm1 n
        → Puts false w tm t i n (run (one (call (temporary i) f l es)) (pair w1 tm1)) r
    call_done {w} {w1} {tm} {tm1} {t} {n} es (gives z w2) h mv = rw h (puts w2 tm1 z (any_world w w2 t n tm tm1 mv.keeps mv.later))
    call_done es (stops s) h mv = rw h (puts_early s)

    call_lists : {w w1 : World} {tm tm1 : Temps} {t n m : ℕ} {es : tree.Values} {o : Ending} {vs : Vals} → Moved false w w1 t tm tm1 n → Lists cp.facts xs w1 tm1 n es m o vs
        → Puts false w tm t i m (then_do o (run (one (call (temporary i) f l es)))) (calls f l vs w1)
    call_lists {w} {w1} mv (lists_early u k) = rw (sym (same_calls f l (wrongs u k) w1)) (puts_early (undefined u k))
    call_lists {w} {w1} {tm} {tm1} {t} {n} {m} {es} mv (lists tm2 vs mv2 h) =
        call_done es (calls f l vs w1) (ap (λ vs. core.calls cp deeper here f l vs w1) (h tm2 (keeps_all m tm2)) ∙ same_calls f l vs w1) (two_moves mv mv2)

    call_end : {w : World} {tm : Temps} {t n : ℕ} {d : tree.Value} {o : Ending} {r : Eval} (es : tree.Values) → Fixed cp.facts xs false w tm t d n o r
        → (let y = pures xs d es n in Puts false w tm t i y.next_temp (then_do o (run (join y.before (one (call (temporary i) f l y.values))))) (bind r (λ d w. calls f l (values cp.facts xs no_temps d w es) w)))
    call_end es (fixed_early s) = puts_early s
    call_end {w} {tm} {t} {n} {d} es (fixed w1 tm1 v mv h) =
        let y = pures xs d es n in
        rw (join_ex cp deeper xs here y.before (one (call (temporary i) f l y.values)) (pair w1 tm1)) (call_lists mv (pures_ok cp deeper xs here d v es w1 n tm1 h))

    pub call_puts : (es : tree.Values) (first : ℕ → Made) (act : Act) → FirstOk cp.facts xs run first act → (t : ℕ) (w : World) (tm : Temps)
        → (let x = called_sent l f (operands xs es first t) in Puts false w tm t i x.next_temp (run (join x.before (one (x.put i))) (pair w tm)) (bind (act w) (λ d w. calls f l (values cp.facts xs no_temps d w es) w)))
    call_puts es first act h t w tm =
        let m = first t in
        let y = pures xs m.value es m.next_temp in
        rw (join_join cp deeper xs here m.before y.before (one (call (temporary i) f l y.values)) (pair w tm)) (call_end es (h.ok t w tm))
