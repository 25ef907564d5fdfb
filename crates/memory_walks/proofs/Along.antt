-- Steps that are walked one after the other, as in a loop: what is done, what is still to come, and the whole.
use Rattle.std.proofs.Common.{◌≡◌, ℕ, ◌+◌, Bool, true, false, ◌&&◌, List, length, Option, Some, None, refl, sym, ap, ◌∙◌, append_assoc, add-zero, arith, subst}
use Rattle.qed_terms.specs.Fresh.{Used}
use Rattle.walk_steps.specs.Walk.{Goal}
use Rattle.memory_steps.specs.State.{Base}
use Rattle.memory_steps.specs.Step.{Step, skip, seq, count}
use Rattle.memory_steps.specs.World.{World}
use Rattle.memory_steps.specs.Walk.{Walked, then_walk, followed, walk}
use Rattle.memory_walks.specs.Walks.{Held, walk_at, Walks}
use Rattle.memory_walks.proofs.Walking.{goals_count, length_both, skip_walks, seq_goes, seq_stops, transported}

and_assoc : (a b c : Bool) → (a && b) && c ≡ a && (b && c)
and_assoc true b c = refl
and_assoc false b c = refl

followed_assoc : (r q s : Walked) → followed (followed r q) s ≡ followed r (followed q s)
followed_assoc r q s = λ i. record {
  goals = append_assoc r.goals q.goals s.goals i;
  end = s.end;
  left = λ k. append_assoc (r.left k) (q.left k) (s.left k) i;
  used = s.used;
  fits = and_assoc r.fits q.fits s.fits i;
}

module _ (bases : List Base) (p : Held) where
  -- where the end of both is reached, they have the checks of both
  count_both : (n : ℕ) (a b : Step) (w : World) → (walk_at bases p n a).end ≡ Some w → count (seq a b) ≡ count a + count b
  count_both n a b w e =
      let r = walk_at bases p n a in
      let q = walk bases p.olds (n + count a) b r.used w in
      let both : walk_at bases p n (seq a b) ≡ followed r q = ap (λ o. then_walk r o (walk bases p.olds (n + count a) b)) e in
      let c = goals_count bases (seq a b) p.olds n p.used p.world in
      let l : length (walk_at bases p n (seq a b)).goals ≡ length r.goals + length q.goals = ap (λ (x : Walked). length x.goals) both ∙ length_both r.goals q.goals in
      let d = goals_count bases a p.olds n p.used p.world in
      let f = goals_count bases b p.olds (n + count a) r.used w in
      omega (arith, c, l, d, f)

  pub seq_assoc : (a b c : Step) (n : ℕ) → walk_at bases p n (seq (seq a b) c) ≡ walk_at bases p n (seq a (seq b c))
  seq_assoc a b c n = by_first (walk_at bases p n a).end refl
    where
      r : Walked
      r = walk_at bases p n a

      go_b : Used → World → Walked
      go_b = walk bases p.olds (n + count a) b

      go_c : ℕ → Used → World → Walked
      go_c m = walk bases p.olds m c

      first_so : Option World → Walked
      first_so o = let x = then_walk r o go_b in then_walk x x.end (go_c (n + count (seq a b)))

      second_so : Option World → Walked
      second_so o = then_walk r o (λ d w. let q = go_b d w in then_walk q q.end (go_c ((n + count a) + count b)))

      by_second : (w : World) → r.end ≡ Some w → (o : Option World) → (go_b r.used w).end ≡ o
          → then_walk (followed r (go_b r.used w)) o (go_c (n + count (seq a b))) ≡ followed r (then_walk (go_b r.used w) o (go_c ((n + count a) + count b)))
      by_second w e None f = refl
      by_second w e (Some v) f =
          let m : n + count (seq a b) ≡ (n + count a) + count b = (let k = count_both n a b w e in omega (arith, k)) in
          followed_assoc r (go_b r.used w) (go_c (n + count (seq a b)) (go_b r.used w).used v) ∙ ap (λ m. followed r (followed (go_b r.used w) (go_c m (go_b r.used w).used v))) m

      by_first : (o : Option World) → r.end ≡ o → first_so r.end ≡ second_so r.end
      by_first None e = ap first_so e ∙ by_none e ∙ ap second_so (sym e)
        where
          by_none : r.end ≡ None → then_walk r r.end (go_c (n + count (seq a b))) ≡ r
          by_none e = ap (λ o. then_walk r o (go_c (n + count (seq a b)))) e
      by_first (Some w) e = ap first_so e ∙ by_second w e (go_b r.used w).end refl ∙ ap second_so (sym e)

  pub skip_first : (a : Step) (n : ℕ) → walk_at bases p n (seq skip a) ≡ walk_at bases p n a
  skip_first a n = ap (λ m. walk_at bases p m a) (add-zero n)

-- From the start this is done, and what is to come makes it the whole.
pub record Along (bases : List Base) (start now : Held) (fit fit' : List Goal → Type 0) (rest whole : Step) : Type 0 where
  done : Step
  walks : Walks bases done start now fit fit' true
  same : (n : ℕ) → walk_at bases start n (seq done rest) ≡ walk_at bases start n whole

module _ {bases : List Base} where
  pub along_start : {start : Held} {fit : List Goal → Type 0} (whole : Step) → Along bases start start fit fit whole whole
  along_start {start = start} whole = record { done = skip; walks = skip_walks; same = skip_first bases start whole }

  pub along_turn : {start now new : Held} {fit fit' fit'' : List Goal → Type 0} {a rest whole : Step} → Along bases start now fit fit' (seq a rest) whole → Walks bases a now new fit' fit'' true
      → Along bases start new fit fit'' rest whole
  along_turn {start = start} {a = a} {rest = rest} h k = record { done = seq h.done a; walks = seq_goes h.walks k; same = λ n. seq_assoc bases start h.done a rest n ∙ h.same n }

  pub along_ends : {start now new : Held} {fit fit' fit'' : List Goal → Type 0} {rest whole : Step} {goes : Bool} → Along bases start now fit fit' rest whole → Walks bases rest now new fit' fit'' goes
      → Walks bases whole start new fit fit'' goes
  along_ends {rest = rest} {whole = whole} h k = transported (seq h.done rest) whole h.same (seq_goes h.walks k)

  pub along_end : {start now : Held} {fit fit' : List Goal → Type 0} {whole : Step} → Along bases start now fit fit' skip whole → Walks bases whole start now fit fit' true
  along_end h = along_ends h skip_walks

  pub along_stops : {start now new : Held} {fit fit' fit'' : List Goal → Type 0} {a rest whole : Step} → Along bases start now fit fit' (seq a rest) whole → Walks bases a now new fit' fit'' false
      → Walks bases whole start new fit fit'' false
  along_stops h k = along_ends h (seq_stops k)

  -- what is to come, told otherwise
  pub along_same : {start now : Held} {fit fit' : List Goal → Type 0} {rest rest' whole : Step} → Along bases start now fit fit' rest whole → rest ≡ rest' → Along bases start now fit fit' rest' whole
  along_same {start = start} {now = now} {fit = fit} {fit' = fit'} {whole = whole} h e = subst (λ rest. Along bases start now fit fit' rest whole) e h
