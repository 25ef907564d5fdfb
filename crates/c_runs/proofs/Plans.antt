-- Plans of values and of conditions keep the evaluation of what they are made of, whatever core statements are run with.
use Rattle.std.proofs.Common.{◌≡◌, ℕ, suc, ◌≤◌, Bool, true, false, not, ◌&&◌, if◌then◌else◌, List, refl, sym, ap, ◌∙◌, subst, arith}
use Rattle.std.proofs.lemmas.Bool.{false≢true}
use Rattle.std.specs.Prelude.{pos}
use Rattle.typed_prog.specs.declared.types.CoreType.{CoreType}
use Rattle.typed_prog.specs.declared.operators.Connective.{Connective}
use Rattle.typed_prog.specs.Tree as tree
use Rattle.c_runs.specs.Told.{Value, number}
use Rattle.c_runs.specs.Program.{Variable, Program}
use Rattle.c_runs.specs.States.{World, Here, at, is_nonzero}
use Rattle.c_runs.specs.Operators.{Val, is, wrong, truth_number}
use Rattle.c_runs.specs.Values.{agree, decides, value, Temps}
use Rattle.c_runs.specs.Claims.{undefined}
use Rattle.c_runs.specs.Calls.{Eval, gives, stops, Act, bind, of_val, nought}
use Rattle.c_runs.specs.Run.{logic_act}
use Rattle.c_runs.specs.Core.{Core, set, exit, Cores, end, then_, join, one}
use Rattle.c_runs.specs.CoreRun.{CoreWorld, Ending, goes_on, exits, returns, stopped, then_do, with_val, block_end}
use Rattle.c_runs.specs.CoreRun as core
use Rattle.c_runs.specs.Checks.{has_checks}
use Rattle.c_runs.specs.Plans.{Made, Tests, Plan, temp_of, temp_for, constant_of, save, save_if, jump, leafy, straight, crossed, logic_test, flag, logic_made, logic_plan}
use Rattle.c_runs.proofs.Relations.{pair, keeps_all, at_same, Moved, moved_trans, moved_set, Gives, early, there, Sure, sure_early, sure, Fixed, fixed_early, fixed, Puts, puts_early, puts, Tested, tested_early, passes, leaves, gives_of_sure, sure_of_fixed, Stays, stays_later, PlanOk}
use Rattle.c_runs.proofs.Unchecked.{no_checks}

-- ---- endings

pub then_on : (o : Ending) → then_do o (λ c. goes_on c) ≡ o
then_on (goes_on c) = refl
then_on (exits k c) = refl
then_on (returns v c) = refl
then_on (stopped s) = refl

pub then_then : (o : Ending) (f g h : CoreWorld → Ending) → ((c : CoreWorld) → f c ≡ then_do (g c) h) → then_do o f ≡ then_do (then_do o g) h
then_then (goes_on c) f g h p = p c
then_then (exits k c) f g h p = refl
then_then (returns v c) f g h p = refl
then_then (stopped s) f g h p = refl

-- ---- truth

pub truth_of_number : (b : Bool) → is_nonzero (truth_number b) ≡ b
truth_of_number true = refl
truth_of_number false = refl

agreed : (a b : Bool) → agree a b ≡ true → b ≡ a
agreed true b h = h
agreed false true h = absurd (false≢true h)
agreed false false h = refl

disagreed : (a b : Bool) → agree a b ≡ false → b ≡ not a
disagreed true b h = h
disagreed false true h = refl
disagreed false false h = absurd (false≢true (sym h))

not_agree : (o want : Bool) → agree o want ≡ false → agree o (not want) ≡ true
not_agree true true h = absurd (false≢true (sym h))
not_agree true false h = refl
not_agree false true h = refl
not_agree false false h = absurd (false≢true (sym h))

agree_sym : (a b : Bool) → agree a b ≡ agree b a
agree_sym true true = refl
agree_sym true false = refl
agree_sym false true = refl
agree_sym false false = refl

agree_not : (o want : Bool) → agree o want ≡ true → agree o (not want) ≡ false
agree_not true true h = refl
agree_not true false h = absurd (false≢true h)
agree_not false true h = absurd (false≢true h)
agree_not false false h = refl

not_not : (b : Bool) → not (not b) ≡ b
not_not true = refl
not_not false = refl

module _ (cp : Program Cores) (deeper : core.Deeper) (xs : List Variable) (here : Here) where
  abbrev pub ex : Cores → CoreWorld → Ending
  ex = core.exec_all cp deeper xs here

  pub join_ex : (a b : Cores) (c : CoreWorld) → ex (join a b) c ≡ then_do (ex a c) (ex b)
  join_ex end b c = refl
  join_ex (then_ s a) b c = then_then (core.exec cp deeper xs here s c) (ex (join a b)) (ex a) (ex b) (λ c. join_ex a b c)

  pub join_join : (a b c : Cores) (x : CoreWorld) → ex (join (join a b) c) x ≡ then_do (ex a x) (ex (join b c))
  join_join end b c x = refl
  join_join (then_ s a) b c x = then_then (core.exec cp deeper xs here s x) (ex (join (join a b) c)) (ex a) (ex (join b c)) (λ x. join_join a b c x)

  pub one_ex : (s : Core) (c : CoreWorld) → ex (one s) c ≡ core.exec cp deeper xs here s c
  one_ex s c = then_on (core.exec cp deeper xs here s c)

  -- ---- a value that is put into a temporary

  set_temp : {still : Bool} {w w' : World} {tm tm' : Temps} {t : ℕ} (e : tree.Value) (n : ℕ) (v : Val) → Moved still w w' t tm tm' n → value cp.facts xs tm' nought w' e ≡ v
      → Fixed cp.facts xs still w tm t (temp_for e n) (suc n) (ex (one (set n e)) (pair w' tm')) (of_val w' v)
  set_temp {still} {w} {w'} {tm} {tm'} {t} e n (is z) mv h =
      rw h (fixed w' (at n z tm') z (moved_trans mv (moved_set still w' n tm' z)) (λ tm2 k w2. ap is (k n (omega arith) ∙ at_same n z tm')))
  set_temp {still} {w} {w'} {tm} {tm'} {t} e n (wrong u l) mv h = rw h (fixed_early (undefined u l))

  save_fixed : {still : Bool} {w : World} {tm : Temps} {t n : ℕ} {e : tree.Value} {o : Ending} {r : Eval} → Gives cp.facts xs still w tm t e n o r
      → Fixed cp.facts xs still w tm t (temp_for e n) (suc n) (then_do o (ex (one (set n e)))) r
  save_fixed (early s) = fixed_early s
  save_fixed {still} {w} {tm} {t} {n} {e} (there w' tm' v mv h) = set_temp e n v mv (h tm' (keeps_all n tm'))

  pub saved : {still : Bool} {w : World} {tm : Temps} {t : ℕ} (m : Made) {r : Eval} → Gives cp.facts xs still w tm t m.value m.next_temp (ex m.before (pair w tm)) r
      → Fixed cp.facts xs still w tm t (save m).value (save m).next_temp (ex (save m).before (pair w tm)) r
  saved {still} {w} {tm} {t} m {r} g = rw (join_ex m.before (one (set m.next_temp m.value)) (pair w tm)) (save_fixed g)

  pub kept_sure : {still : Bool} {w : World} {tm : Temps} {t n : ℕ} {e : tree.Value} {o : Ending} {r : Eval} → has_checks xs e ≡ false → Gives cp.facts xs still w tm t e n o r
      → Sure cp.facts xs still w tm t e n o r
  kept_sure h (early s) = sure_early s
  kept_sure {still} {w} {tm} {t} {n} {e} h (there w' tm' v mv g) =
      let x = no_checks cp.facts xs tm' w' e h in
      let i : v ≡ is x.0 = sym (g tm' (keeps_all n tm')) ∙ x.1 in
      rw i (sure w' tm' x.0 mv (λ tm2 k. g tm2 k ∙ i))

  pub save_grows : (b : Bool) (m : Made) → m.next_temp ≤ (save_if xs b m).next_temp
  save_grows b m = elim (b && has_checks xs m.value) as (λ c. m.next_temp ≤ (if c then save m else m).next_temp) [ true ↦ omega arith | false ↦ omega arith ]

  pub save_if_sure : {still : Bool} {w : World} {tm : Temps} {t : ℕ} (m : Made) {r : Eval} → Gives cp.facts xs still w tm t m.value m.next_temp (ex m.before (pair w tm)) r
      → Sure cp.facts xs still w tm t (save_if xs true m).value (save_if xs true m).next_temp (ex (save_if xs true m).before (pair w tm)) r
  save_if_sure {still} {w} {tm} {t} m {r} g =
      elim (has_checks xs m.value) as (λ b. has_checks xs m.value ≡ b
      → Sure cp.facts xs still w tm t (if b then save m else m).value (if b then save m else m).next_temp (ex (if b then save m else m).before (pair w tm)) r)
      [ true ↦ (λ h. sure_of_fixed (saved m g)) | false ↦ (λ h. kept_sure h g) ] refl

  -- a temporary that is put is there
  pub put_fixed : {still : Bool} {w : World} {tm : Temps} {t n : ℕ} {o : Ending} {r : Eval} (type : CoreType) (l : ℕ) → Puts still w tm t n n o r
      → Fixed cp.facts xs still w tm t (temp_of type l n) (suc n) o r
  put_fixed type l (puts_early s) = fixed_early s
  put_fixed {still} {w} {tm} {t} {n} type l (puts w' tm' z mv) =
      fixed w' (at n z tm') z (moved_trans mv (moved_set still w' n tm' z)) (λ tm2 k w2. ap is (k n (omega arith) ∙ at_same n z tm'))

  pub sent_end : {still : Bool} {w : World} {tm : Temps} {t n : ℕ} {e : tree.Value} {o : Ending} {r : Eval} (i : ℕ) → Gives cp.facts xs still w tm t e n o r
      → Puts still w tm t i n (then_do o (ex (one (set i e)))) r
  sent_end i (early s) = puts_early s
  sent_end {still} {w} {tm} {t} {n} i (there w' tm' (is z) mv h) = rw (h tm' (keeps_all n tm')) (puts w' tm' z mv)
  sent_end {still} {w} {tm} {t} {n} i (there w' tm' (wrong u l) mv h) = rw (h tm' (keeps_all n tm')) (puts_early (undefined u l))

  -- ---- conditions

  jump_ok : {still : Bool} {w w' : World} {tm tm' : Temps} {t n : ℕ} (want : Bool) (k : ℕ) (e : tree.Value) (v : Val) → Moved still w w' t tm tm' n → value cp.facts xs tm' nought w' e ≡ v
      → Tested still want k w tm t n (ex (one (jump want k e)) (pair w' tm')) (of_val w' v)
  jump_ok {still} {w} {w'} {tm} {tm'} {t} {n} true k e (is z) mv h =
      rw h (elim (is_nonzero z) as (λ b. is_nonzero z ≡ b → Tested still true k w tm t n (then_do (if b then ex end (pair w' tm') else ex (one (exit k)) (pair w' tm')) (ex end)) (gives z w'))
      [ true ↦ (λ q. passes z w' tm' q mv) | false ↦ (λ q. leaves z w' tm' q mv) ] refl)
  jump_ok {still} {w} {w'} {tm} {tm'} {t} {n} false k e (is z) mv h =
      rw h (elim (is_nonzero z) as (λ b. is_nonzero z ≡ b → Tested still false k w tm t n (then_do (if b then ex (one (exit k)) (pair w' tm') else ex end (pair w' tm')) (ex end)) (gives z w'))
      [ true ↦ (λ q. leaves z w' tm' (ap not q) mv) | false ↦ (λ q. passes z w' tm' (ap not q) mv) ] refl)
  jump_ok {still} {w} {w'} {tm} {tm'} {t} {n} true k e (wrong u l) mv h = rw h (tested_early (undefined u l))
  jump_ok {still} {w} {w'} {tm} {tm'} {t} {n} false k e (wrong u l) mv h = rw h (tested_early (undefined u l))

  pub leaf_tested : {still : Bool} {w : World} {tm : Temps} {t n : ℕ} {e : tree.Value} {o : Ending} {r : Eval} (want : Bool) (k : ℕ) → Gives cp.facts xs still w tm t e n o r
      → Tested still want k w tm t n (then_do o (ex (one (jump want k e)))) r
  leaf_tested want k (early s) = tested_early s
  leaf_tested {still} {w} {tm} {t} {n} {e} want k (there w' tm' v mv h) = jump_ok want k e v mv (h tm' (keeps_all n tm'))

  pub leafy_ok : {still : Bool} {d : tree.Value} {v : Value} (f : ℕ → Made) (act : Act) → ((t : ℕ) → t ≤ (f t).next_temp)
      → ((t : ℕ) (w : World) (tm : Temps) → Stays cp.facts xs d v t tm → Gives cp.facts xs still w tm t (f t).value (f t).next_temp (ex (f t).before (pair w tm)) (act w))
      → PlanOk cp.facts xs ex still d v (leafy f) act
  leafy_ok f act grows h = record {
    made_grows = grows;
    sent_grows = grows;
    test_grows = λ want k t. grows t;
    made_ok = h;
    sent_ok = λ i t w tm st. rw (join_ex (f t).before (one (set i (f t).value)) (pair w tm)) (sent_end i (h t w tm st));
    test_ok = λ want k t w tm st. rw (join_ex (f t).before (one (jump want k (f t).value)) (pair w tm)) (leaf_tested want k (h t w tm st));
  }

  -- ---- connectives

  abbrev truth_of : Eval → Eval
  truth_of r = bind r (λ z w. gives (truth_number (is_nonzero z)) w)

  flag_end : {still : Bool} {w : World} {tm : Temps} {t n : ℕ} (type : CoreType) (l : ℕ) {o : Ending} {r : Eval} → Tested still true 0 w tm t n o r
      → Fixed cp.facts xs still w tm t (temp_of type l n) (suc n)
      (then_do (block_end (then_do (block_end (then_do o (ex (then_ (set n (constant_of type l (pos 1))) (one (exit 1)))))) (ex (one (set n (constant_of type l (pos 0))))))) (ex end))
      (truth_of r)
  flag_end type l (tested_early s) = fixed_early s
  flag_end {still} {w} {tm} {t} {n} type l (passes z w' tm' h mv) =
      let one = number (pos 1) in
      rw h (fixed w' (at n one tm') one (moved_trans mv (moved_set still w' n tm' one)) (λ tm2 k w2. ap is (k n (omega arith) ∙ at_same n one tm')))
  flag_end {still} {w} {tm} {t} {n} type l (leaves z w' tm' h mv) =
      rw h (fixed w' (at n nought tm') nought (moved_trans mv (moved_set still w' n tm' nought)) (λ tm2 k w2. ap is (k n (omega arith) ∙ at_same n nought tm')))

  flag_fixed : {still : Bool} {w : World} {tm : Temps} {t : ℕ} (type : CoreType) (l : ℕ) (x : Tests) {r : Eval} → Tested still true 0 w tm t x.next_temp (ex x.tests (pair w tm)) r
      → Fixed cp.facts xs still w tm t (flag type l x).value (flag type l x).next_temp (ex (flag type l x).before (pair w tm)) (truth_of r)
  flag_fixed {still} {w} {tm} {t} type l x h = rw (join_ex x.tests (then_ (set x.next_temp (constant_of type l (pos 1))) (one (exit 1))) (pair w tm)) (flag_end type l h)

  abbrev decide : Bool → Act → Value → World → Eval
  decide o b x w = if agree o (is_nonzero x) then gives (truth_number o) w else bind (b w) (λ y w. gives (truth_number (is_nonzero y)) w)

  truth_of_logic : (o : Bool) (b : Act) (r : Eval) → truth_of (bind r (decide o b)) ≡ bind r (decide o b)
  truth_of_logic o b (stops s) = refl
  truth_of_logic o b (gives z w) = decided (agree o (is_nonzero z))
    where
      second : (r : Eval) → truth_of (truth_of r) ≡ truth_of r
      second (gives y w') = ap (λ b. gives (truth_number b) w') (truth_of_number (is_nonzero y))
      second (stops s) = refl

      decided : (d : Bool) → truth_of (if d then gives (truth_number o) w else truth_of (b w)) ≡ (if d then gives (truth_number o) w else truth_of (b w))
      decided true = ap (λ b. gives (truth_number b) w) (truth_of_number o)
      decided false = second (b w)

  -- the second operand's test is that of the whole
  second_tested : {still want : Bool} {k : ℕ} {w w1 : World} {tm tm1 : Temps} {t n n' : ℕ} {o : Ending} {r : Eval} → Moved still w w1 t tm tm1 n → Tested still want k w1 tm1 n n' o r
      → Tested still want k w tm t n' o (truth_of r)
  second_tested mv (tested_early s) = tested_early s
  second_tested {still} {want} mv (passes y w2 tm2 h mv2) = passes (truth_number (is_nonzero y)) w2 tm2 (ap (agree want) (truth_of_number (is_nonzero y)) ∙ h) (moved_trans mv mv2)
  second_tested {still} {want} mv (leaves y w2 tm2 h mv2) = leaves (truth_number (is_nonzero y)) w2 tm2 (ap (agree want) (truth_of_number (is_nonzero y)) ∙ h) (moved_trans mv mv2)

  straight_end : {still : Bool} {w : World} {tm : Temps} {t n n' : ℕ} {e : Ending} {r : Eval} (o want : Bool) (k : ℕ) (b : Act) (second : Cores) → agree o want ≡ false
      → ((w1 : World) (tm1 : Temps) → Moved still w w1 t tm tm1 n → Tested still want k w1 tm1 n n' (ex second (pair w1 tm1)) (b w1)) → n ≤ n'
      → Tested still want k w tm t n e r → Tested still want k w tm t n' (then_do e (ex second)) (bind r (decide o b))
  straight_end o want k b second h f le (tested_early s) = tested_early s
  straight_end {still} {w} {tm} {t} {n} {n'} o want k b second h f le (passes z w1 tm1 g mv) =
      let i : agree o (is_nonzero z) ≡ false = ap (agree o) (agreed want (is_nonzero z) g) ∙ h in
      rw i (second_tested mv (f w1 tm1 mv))
  straight_end {still} {w} {tm} {t} {n} {n'} o want k b second h f le (leaves z w1 tm1 g mv) =
      let i : agree o (is_nonzero z) ≡ true = ap (agree o) (disagreed want (is_nonzero z) g) ∙ not_agree o want h in
      rw i (leaves (truth_number o) w1 tm1 (ap (agree want) (truth_of_number o) ∙ agree_sym want o ∙ h) (record { stays = mv.stays; keeps = mv.keeps; later = omega (arith, mv.later, le) }))

  in_block : {still want : Bool} {k : ℕ} {w w1 : World} {tm tm1 : Temps} {t n n' : ℕ} {o : Ending} {r : Eval} → Moved still w w1 t tm tm1 n → Tested still want (suc k) w1 tm1 n n' o r
      → Tested still want k w tm t n' (then_do (block_end o) (ex end)) (truth_of r)
  in_block mv (tested_early s) = tested_early s
  in_block {still} {want} mv (passes y w2 tm2 h mv2) = passes (truth_number (is_nonzero y)) w2 tm2 (ap (agree want) (truth_of_number (is_nonzero y)) ∙ h) (moved_trans mv mv2)
  in_block {still} {want} mv (leaves y w2 tm2 h mv2) = leaves (truth_number (is_nonzero y)) w2 tm2 (ap (agree want) (truth_of_number (is_nonzero y)) ∙ h) (moved_trans mv mv2)

  crossed_end : {still : Bool} {w : World} {tm : Temps} {t n n' : ℕ} {e : Ending} {r : Eval} (o want : Bool) (k : ℕ) (b : Act) (second : Cores) → agree o want ≡ true
      → ((w1 : World) (tm1 : Temps) → Moved still w w1 t tm tm1 n → Tested still want (suc k) w1 tm1 n n' (ex second (pair w1 tm1)) (b w1)) → n ≤ n'
      → Tested still (not want) 0 w tm t n e r → Tested still want k w tm t n' (then_do (block_end (then_do e (ex second))) (ex end)) (bind r (decide o b))
  crossed_end o want k b second h f le (tested_early s) = tested_early s
  crossed_end {still} {w} {tm} {t} {n} {n'} o want k b second h f le (passes z w1 tm1 g mv) =
      let i : agree o (is_nonzero z) ≡ false = ap (agree o) (agreed (not want) (is_nonzero z) g) ∙ agree_not o want h in
      rw i (in_block mv (f w1 tm1 mv))
  crossed_end {still} {w} {tm} {t} {n} {n'} o want k b second h f le (leaves z w1 tm1 g mv) =
      let i : agree o (is_nonzero z) ≡ true = ap (agree o) (disagreed (not want) (is_nonzero z) g ∙ not_not want) ∙ h in
      rw i (passes (truth_number o) w1 tm1 (ap (agree want) (truth_of_number o) ∙ agree_sym want o ∙ h) (record { stays = mv.stays; keeps = mv.keeps; later = omega (arith, mv.later, le) }))

  module _ (still : Bool) (d : tree.Value) (v : Value) where
    abbrev pub Ok : Plan → Act → Type 0
    Ok = PlanOk cp.facts xs ex still d v

    pub plan_as : (plan : Plan) (act act' : Act) → ((w : World) → act w ≡ act' w) → Ok plan act → Ok plan act'
    plan_as plan act act' h p = record {
      made_grows = p.made_grows;
      sent_grows = p.sent_grows;
      test_grows = p.test_grows;
      made_ok = λ t w tm st. subst (λ r. Gives cp.facts xs still w tm t (plan.made t).value (plan.made t).next_temp (ex (plan.made t).before (pair w tm)) r) (h w) (p.made_ok t w tm st);
      sent_ok = λ i t w tm st. subst (λ r. Puts still w tm t i (plan.sent t).next_temp (ex (join (plan.sent t).before (one ((plan.sent t).put i))) (pair w tm)) r) (h w) (p.sent_ok i t w tm st);
      test_ok = λ want k t w tm st. subst (λ r. Tested still want k w tm t (plan.test want k t).next_temp (ex (plan.test want k t).tests (pair w tm)) r) (h w) (p.test_ok want k t w tm st);
    }

    module _ (c : Connective) (a b : Plan) (act_a act_b : Act) (pa : Ok a act_a) (pb : Ok b act_b) where
      straight_ok : (want : Bool) (k : ℕ) → agree (decides c) want ≡ false → (t : ℕ) (w : World) (tm : Temps) → Stays cp.facts xs d v t tm
          → Tested still want k w tm t (straight a b want k t).next_temp (ex (straight a b want k t).tests (pair w tm)) (logic_act c act_a act_b w)
      straight_ok want k h t w tm st =
          let x = a.test want k t in
          let y = b.test want k x.next_temp in
          rw (join_ex x.tests y.tests (pair w tm))
          (straight_end (decides c) want k act_b y.tests h (λ w1 tm1 mv. pb.test_ok want k x.next_temp w1 tm1 (stays_later cp.facts xs d v mv st)) (pb.test_grows want k x.next_temp) (pa.test_ok want k t w tm st))

      crossed_ok : (want : Bool) (k : ℕ) → agree (decides c) want ≡ true → (t : ℕ) (w : World) (tm : Temps) → Stays cp.facts xs d v t tm
          → Tested still want k w tm t (crossed a b want k t).next_temp (ex (crossed a b want k t).tests (pair w tm)) (logic_act c act_a act_b w)
      crossed_ok want k h t w tm st =
          let x = a.test (not want) 0 t in
          let y = b.test want (suc k) x.next_temp in
          rw (join_ex x.tests y.tests (pair w tm))
          (crossed_end (decides c) want k act_b y.tests h (λ w1 tm1 mv. pb.test_ok want (suc k) x.next_temp w1 tm1 (stays_later cp.facts xs d v mv st)) (pb.test_grows want (suc k) x.next_temp) (pa.test_ok (not want) 0 t w tm st))

      logic_test_ok : (want : Bool) (k t : ℕ) (w : World) (tm : Temps) → Stays cp.facts xs d v t tm
          → Tested still want k w tm t (logic_test c a b want k t).next_temp (ex (logic_test c a b want k t).tests (pair w tm)) (logic_act c act_a act_b w)
      logic_test_ok want k t w tm st =
          elim (agree (decides c) want) as (λ f. agree (decides c) want ≡ f → Tested still want k w tm t (if f then crossed a b want k t else straight a b want k t).next_temp
          (ex (if f then crossed a b want k t else straight a b want k t).tests (pair w tm)) (logic_act c act_a act_b w))
          [ true ↦ (λ h. crossed_ok want k h t w tm st) | false ↦ (λ h. straight_ok want k h t w tm st) ] refl

      logic_grows : (want : Bool) (k t : ℕ) → t ≤ (logic_test c a b want k t).next_temp
      logic_grows want k t =
          elim (agree (decides c) want) as (λ f. t ≤ (if f then crossed a b want k t else straight a b want k t).next_temp) [
            | true ↦ (let h = pa.test_grows (not want) 0 t in let h2 = pb.test_grows want (suc k) (a.test (not want) 0 t).next_temp in omega (arith, h, h2))
            | false ↦ (let h = pa.test_grows want k t in let h2 = pb.test_grows want k (a.test want k t).next_temp in omega (arith, h, h2))
          ]

      pub logic_fixed : (type : CoreType) (l t : ℕ) (w : World) (tm : Temps) → Stays cp.facts xs d v t tm
          → Fixed cp.facts xs still w tm t (logic_made type l c a b t).value (logic_made type l c a b t).next_temp (ex (logic_made type l c a b t).before (pair w tm)) (logic_act c act_a act_b w)
      logic_fixed type l t w tm st =
          let x = logic_test c a b true 0 t in
          subst (λ r. Fixed cp.facts xs still w tm t (flag type l x).value (flag type l x).next_temp (ex (flag type l x).before (pair w tm)) r)
          (truth_of_logic (decides c) act_b (act_a w)) (flag_fixed type l x (logic_test_ok true 0 t w tm st))

      pub logic_ok : (type : CoreType) (l : ℕ) → Ok (logic_plan type l c a b) (logic_act c act_a act_b)
      logic_ok type l =
          let made_ok : (t : ℕ) (w : World) (tm : Temps) → Stays cp.facts xs d v t tm → Gives cp.facts xs still w tm t (logic_made type l c a b t).value (logic_made type l c a b t).next_temp (ex (logic_made type l c a b t).before (pair w tm)) (logic_act c act_a act_b w)
          = λ t w tm st. gives_of_sure (sure_of_fixed (logic_fixed type l t w tm st)) in
          record {
            made_grows = λ t. let h = logic_grows true 0 t in omega (arith, h);
            sent_grows = λ t. let h = logic_grows true 0 t in omega (arith, h);
            test_grows = logic_grows;
            made_ok = made_ok;
            sent_ok = λ i t w tm st. let m = logic_made type l c a b t in rw (join_ex m.before (one (set i m.value)) (pair w tm)) (sent_end i (made_ok t w tm st));
            test_ok = logic_test_ok;
          }
