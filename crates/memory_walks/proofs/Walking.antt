-- The walk of each step, in the words of the code.
use Rattle.std.proofs.Common.{◌≡◌, ℕ, zero, suc, ◌+◌, Bool, true, false, ◌&&◌, List, [], ◌∷◌, ◌++◌, map, length, Option, Some, None, refl, sym, ap, ap₂, ◌∙◌, subst, append_assoc, append-nil, add-zero, add-suc, suc-add, arith}
use Rattle.std.specs.Option.{option_map}
use Rattle.wp_base.specs.declared.kinds.Layout.{Layout}
use Rattle.qed_terms.specs.Fresh.{Used}
use Rattle.qed_terms.specs.Tree.{Tree, not_of}
use Rattle.walk_steps.specs.Forms.{Place}
use Rattle.walk_steps.specs.Walk.{Goal, list_of}
use Rattle.memory_steps.specs.State.{Base}
use Rattle.memory_steps.specs.Forms.{Slots, Form, Term, Check, forms, written_forms}
use Rattle.memory_steps.specs.Step as steps
use Rattle.memory_steps.specs.Step.{Step, Change, places, count}
use Rattle.memory_steps.specs.World.{World, world, knows, restored}
use Rattle.memory_steps.specs.Join.{meet, used_by_meet}
use Rattle.memory_steps.specs.Walk.{Walked, asked, then_walk, walk}
use Rattle.memory_steps.proofs.Numbers.{walk_numbered}
use Rattle.memory_worlds.specs.Scopes.{saved_at}
use Rattle.memory_walks.specs.Walks.{Held, states, EndsAs, Begins, walk_at, Walks, now_knows, now_set, now_changed, now_left, now_marked, now_remembers, rest_of, now_forgets, now_grown, now_made, now_ended}
use Rattle.memory_walks.specs.Alike.{AreAlike}
use Rattle.memory_walks.specs.declared.arms.Arm.{Arm}
use Rattle.memory_walks.specs.Ways.{TurnsBack, Meets, BlockEnds, now_inside, now_put_back}
use Rattle.memory_walks.proofs.Alike.{changed_alike, restored_so}
use Rattle.memory_walks.proofs.Begun.{begins_itself, begins_more, begins_trans, length_map}
use Rattle.memory_walks.proofs.Kept.{front_of}

pub length_both : {X : Type 0} (xs ys : List X) → length (xs ++ ys) ≡ length xs + length ys
length_both [] ys = omega arith
length_both (x ∷ xs) ys = let e = length_both xs ys in omega (arith, e)

-- a step passes on a goal for each of its checks
pub goals_count : (bases : List Base) (a : Step) (olds : List Slots) (n : ℕ) (c : Used) (w : World) → length (walk bases olds n a c w).goals ≡ count a
goals_count bases a olds n c w =
    let gs = (walk bases olds n a c w).goals in
    sym (length_map (λ (g : Goal). g.place) gs) ∙ ap (λ (ps : List Place). length ps) (walk_numbered bases a olds n c w).places

-- behind the goals of a step
numbered_on : (bases : List Base) (p : Held) (a : Step) (gs : List Goal) → length (gs ++ (walk_at bases p (length gs) a).goals) ≡ length gs + count a
numbered_on bases p a gs = length_both gs _ ∙ ap (λ k. length gs + k) (goals_count bases a p.olds (length gs) p.used p.world)

asked_both : (n : ℕ) (known : List Tree) (ss : List Slots) (cs ds : List Check)
    → asked n known ss (cs ++ ds) ≡ asked n known ss cs ++ asked (n + length cs) (known ++ written_forms ss (forms cs)) ss ds
asked_both n known ss [] ds = (λ i. asked (sym (add-zero n) i) (sym (append-nil known) i) ss ds)
asked_both n known ss (c ∷ cs) ds =
    ap (λ gs. record { number = n; place = c.place; known = known; claim = c.form.written ss } ∷ gs)
    (asked_both (suc n) (known ++ c.form.written ss ∷ []) ss cs ds
    ∙ (λ i. asked (suc n) (known ++ c.form.written ss ∷ []) ss cs
    ++ asked ((suc-add n (length cs) ∙ sym (add-suc n (length cs))) i) (append_assoc known (c.form.written ss ∷ []) (written_forms ss (forms cs)) i) ss ds))

written_both : (ss : List Slots) (cs ds : List Check) → written_forms ss (forms cs) ++ written_forms ss (forms ds) ≡ written_forms ss (forms (cs ++ ds))
written_both ss [] ds = refl
written_both ss (c ∷ cs) ds = ap (λ ts. c.form.written ss ∷ ts) (written_both ss cs ds)

ends_map : (f : World → World) (b : Bool) (w : World) (o : Option World) → EndsAs b w o → EndsAs b (f w) (option_map f o)
ends_map f true w (Some x) h = ap f h
ends_map f true w None h = absurd h
ends_map f false w (Some x) h = absurd h
ends_map f false w None h = tt

module _ {bases : List Base} where
  -- by another step whose walk is the same
  pub transported : {p q : Held} {fit fit' : List Goal → Type 0} {goes : Bool} (a b : Step) → ((n : ℕ) → walk_at bases p n a ≡ walk_at bases p n b) → Walks bases a p q fit fit' goes
      → Walks bases b p q fit fit' goes
  transported {p = p} {q = q} {fit = fit} {fit' = fit'} {goes = goes} a b e h = record {
    goals = λ gs f. subst (λ (r : Walked). fit' (gs ++ r.goals)) (e (length gs)) (h.goals gs f);
    left = λ n k. h.left n k ∙ ap (λ (r : Walked). p.left k ++ r.left k) (e n);
    used = λ n. h.used n ∙ ap (λ (r : Walked). r.used) (e n);
    olds = h.olds;
    front = h.front;
    end = λ n. subst (λ (r : Walked). EndsAs goes q.world r.end) (e n) (h.end n);
  }

  pub skip_walks : {p : Held} {fit : List Goal → Type 0} → Walks bases steps.skip p p fit fit true
  skip_walks {p = p} {fit = fit} =
      record { goals = λ gs h. subst fit (sym (append-nil gs)) h; left = λ n k. sym (append-nil (p.left k)); used = λ n. refl; olds = refl; front = begins_itself p.world.known; end = λ n. refl }

  pub halt_walks : {p : Held} {fit : List Goal → Type 0} → Walks bases steps.halt p p fit fit false
  halt_walks {p = p} {fit = fit} =
      record { goals = λ gs h. subst fit (sym (append-nil gs)) h; left = λ n k. sym (append-nil (p.left k)); used = λ n. refl; olds = refl; front = begins_itself p.world.known; end = λ n. tt }

  pub asks_walk : {p q : Held} {fit fit' : List Goal → Type 0} (cs : List Check) → ((gs : List Goal) → fit gs → fit' (gs ++ asked (length gs) p.world.known (states p) cs))
      → q ≡ now_knows p (written_forms (states p) (forms cs)) → Walks bases (steps.ask cs) p q fit fit' true
  asks_walk {p = p} {q = q} {fit = fit} {fit' = fit'} cs h e = subst (λ q. Walks bases (steps.ask cs) p q fit fit' true) (sym e)
      record { goals = h; left = λ n k. sym (append-nil (p.left k)); used = λ n. refl; olds = refl; front = begins_more p.world.known _; end = λ n. refl }

  -- a check
  pub ask_walks : {p q : Held} {fit fit' : List Goal → Type 0} (c : Check) (at : Place) (t : Tree) → c.place ≡ at → c.form.written (states p) ≡ t
      → ((gs : List Goal) → fit gs → fit' (gs ++ record { number = length gs; place = at; known = p.world.known; claim = t } ∷ [])) → q ≡ now_knows p (t ∷ [])
      → Walks bases (steps.ask (c ∷ [])) p q fit fit' true
  ask_walks {p = p} {q = q} {fit = fit} {fit' = fit'} c at t e f h k = asks_walk (c ∷ [])
      (λ gs g. subst fit' (λ i. gs ++ record { number = length gs; place = sym e i; known = p.world.known; claim = sym f i } ∷ []) (h gs g))
      (k ∙ ap (λ t. now_knows p (t ∷ [])) (sym f))

  pub knows_walk : {p q : Held} {fit : List Goal → Type 0} (fs : List Form) → q ≡ now_knows p (written_forms (states p) fs) → Walks bases (steps.know fs) p q fit fit true
  knows_walk {p = p} {q = q} {fit = fit} fs e = subst (λ q. Walks bases (steps.know fs) p q fit fit true) (sym e)
      record { goals = λ gs h. subst fit (sym (append-nil gs)) h; left = λ n k. sym (append-nil (p.left k)); used = λ n. refl; olds = refl; front = begins_more p.world.known _; end = λ n. refl }

  pub know_walks : {p q : Held} {fit : List Goal → Type 0} (f : Form) (t : Tree) → f.written (states p) ≡ t → q ≡ now_knows p (t ∷ []) → Walks bases (steps.know (f ∷ [])) p q fit fit true
  know_walks {p = p} f t e k = knows_walk (f ∷ []) (k ∙ ap (λ t. now_knows p (t ∷ [])) (sym e))

  pub set_walks : {p q : Held} {fit : List Goal → Type 0} (i : ℕ) (u : Term) (t : Tree) → u.written (states p) ≡ t → q ≡ now_set bases p i t → Walks bases (steps.set i u) p q fit fit true
  set_walks {p = p} {q = q} {fit = fit} i u t e k = subst (λ q. Walks bases (steps.set i u) p q fit fit true) (sym (k ∙ ap (now_set bases p i) (sym e)))
      record { goals = λ gs h. subst fit (sym (append-nil gs)) h; left = λ n k. sym (append-nil (p.left k)); used = λ n. refl; olds = refl; front = begins_more p.world.known _; end = λ n. refl }

  -- changes that are written alike
  pub change_walks : {p q : Held} {fit : List Goal → Type 0} (ds cs : List Change) → AreAlike (states p) bases ds cs → q ≡ now_changed bases p ds → Walks bases (steps.change cs) p q fit fit true
  change_walks {p = p} {q = q} {fit = fit} ds cs a e = subst (λ q. Walks bases (steps.change cs) p q fit fit true) (sym (e ∙ changed_alike bases p ds cs a))
      record { goals = λ gs h. subst fit (sym (append-nil gs)) h; left = λ n k. sym (append-nil (p.left k)); used = λ n. refl; olds = refl; front = begins_more p.world.known _; end = λ n. refl }

  pub grown_walks : {p q : Held} {fit : List Goal → Type 0} → q ≡ now_grown p → Walks bases steps.grown p q fit fit true
  grown_walks {p = p} {q = q} {fit = fit} e = subst (λ q. Walks bases steps.grown p q fit fit true) (sym e)
      record { goals = λ gs h. subst fit (sym (append-nil gs)) h; left = λ n k. sym (append-nil (p.left k)); used = λ n. refl; olds = refl; front = begins_more p.world.known _; end = λ n. refl }

  pub made_walks : {p q : Held} {fit : List Goal → Type 0} (i : ℕ) (l : Layout) → q ≡ now_made p i l → Walks bases (steps.made i l) p q fit fit true
  made_walks {p = p} {q = q} {fit = fit} i l e = subst (λ q. Walks bases (steps.made i l) p q fit fit true) (sym e)
      record { goals = λ gs h. subst fit (sym (append-nil gs)) h; left = λ n k. sym (append-nil (p.left k)); used = λ n. refl; olds = refl; front = begins_itself p.world.known; end = λ n. refl }

  pub ended_walks : {p q : Held} {fit : List Goal → Type 0} (l : ℕ) → q ≡ now_ended p l → Walks bases (steps.ended l) p q fit fit true
  ended_walks {p = p} {q = q} {fit = fit} l e = subst (λ q. Walks bases (steps.ended l) p q fit fit true) (sym e)
      record { goals = λ gs h. subst fit (sym (append-nil gs)) h; left = λ n k. sym (append-nil (p.left k)); used = λ n. refl; olds = refl; front = begins_itself p.world.known; end = λ n. refl }

  pub exit_walks : {p q : Held} {fit : List Goal → Type 0} (l : ℕ) → q ≡ now_left p l → Walks bases (steps.exit l) p q fit fit false
  exit_walks {p = p} {q = q} {fit = fit} l e = subst (λ q. Walks bases (steps.exit l) p q fit fit false) (sym e)
      record { goals = λ gs h. subst fit (sym (append-nil gs)) h; left = λ n k. refl; used = λ n. refl; olds = refl; front = begins_itself p.world.known; end = λ n. tt }

  -- ---- in turn

  pub seq_stops : {p q : Held} {fit fit' : List Goal → Type 0} {a b : Step} → Walks bases a p q fit fit' false → Walks bases (steps.seq a b) p q fit fit' false
  seq_stops {p = p} {q = q} {fit = fit} {fit' = fit'} {a = a} {b = b} h = record {
    goals = λ gs f. subst (λ (r : Walked). fit' (gs ++ r.goals)) (stops (length gs)) (h.goals gs f);
    left = λ n k. h.left n k ∙ ap (λ (r : Walked). p.left k ++ r.left k) (stops n);
    used = λ n. h.used n ∙ ap (λ (r : Walked). r.used) (stops n);
    olds = h.olds;
    front = h.front;
    end = λ n. subst (λ (r : Walked). EndsAs false q.world r.end) (stops n) (h.end n);
  }
    where
      by : (n : ℕ) (o : Option World) → EndsAs false q.world o → walk_at bases p n a ≡ then_walk (walk_at bases p n a) o (walk bases p.olds (n + count a) b)
      by n None e = refl
      by n (Some x) e = absurd e

      stops : (n : ℕ) → walk_at bases p n a ≡ walk_at bases p n (steps.seq a b)
      stops n = by n (walk_at bases p n a).end (h.end n)

  pub seq_goes : {p q r : Held} {fit fit' fit'' : List Goal → Type 0} {a b : Step} {goes : Bool} → Walks bases a p q fit fit' true → Walks bases b q r fit' fit'' goes
      → Walks bases (steps.seq a b) p r fit fit'' goes
  seq_goes {p = p} {q = q} {r = r} {fit = fit} {fit' = fit'} {fit'' = fit''} {a = a} {b = b} {goes = goes} h k = record {
    goals = λ gs f.
        let m = length (gs ++ (walk_at bases p (length gs) a).goals) in
        subst (λ (x : Walked). fit'' (gs ++ x.goals)) (goes_on (length gs))
        (subst (λ n. fit'' (gs ++ ((walk_at bases p (length gs) a).goals ++ (walk_at bases q n b).goals))) (numbered_on bases p a gs)
        (subst fit'' (append_assoc gs (walk_at bases p (length gs) a).goals (walk_at bases q m b).goals) (k.goals (gs ++ (walk_at bases p (length gs) a).goals) (h.goals gs f))));
    left = λ n i.
        k.left (n + count a) i ∙ ap (λ xs. xs ++ (walk_at bases q (n + count a) b).left i) (h.left n i)
        ∙ append_assoc (p.left i) ((walk_at bases p n a).left i) ((walk_at bases q (n + count a) b).left i) ∙ ap (λ (x : Walked). p.left i ++ x.left i) (goes_on n);
    used = λ n. k.used (n + count a) ∙ ap (λ (x : Walked). x.used) (goes_on n);
    olds = k.olds ∙ h.olds;
    front = begins_trans p.world.known q.world.known r.world.known h.front k.front;
    end = λ n. subst (λ (x : Walked). EndsAs goes r.world x.end) (goes_on n) (k.end (n + count a));
  }
    where
      both : ℕ → Walked
      both n = record {
        goals = (walk_at bases p n a).goals ++ (walk_at bases q (n + count a) b).goals;
        end = (walk_at bases q (n + count a) b).end;
        left = λ i. (walk_at bases p n a).left i ++ (walk_at bases q (n + count a) b).left i;
        used = (walk_at bases q (n + count a) b).used;
        fits = (walk_at bases p n a).fits && (walk_at bases q (n + count a) b).fits;
      }

      by : (n : ℕ) (o : Option World) → EndsAs true q.world o → both n ≡ then_walk (walk_at bases p n a) o (walk bases p.olds (n + count a) b)
      by n None e = absurd e
      by n (Some x) e =
          let w = walk_at bases p n a in
          λ i. record {
            goals = w.goals ++ (walk bases (h.olds i) (n + count a) b (h.used n i) (e i)).goals;
            end = (walk bases (h.olds i) (n + count a) b (h.used n i) (e i)).end;
            left = λ j. w.left j ++ (walk bases (h.olds i) (n + count a) b (h.used n i) (e i)).left j;
            used = (walk bases (h.olds i) (n + count a) b (h.used n i) (e i)).used;
            fits = w.fits && (walk bases (h.olds i) (n + count a) b (h.used n i) (e i)).fits;
          }

      goes_on : (n : ℕ) → both n ≡ walk_at bases p n (steps.seq a b)
      goes_on n = by n (walk_at bases p n a).end (h.end n)

  -- ---- states that are remembered, scopes, blocks

  pub remember_walks : {p q r : Held} {fit fit' : List Goal → Type 0} {a : Step} {goes : Bool} → Walks bases a (now_remembers p) q fit fit' goes → r ≡ now_forgets q
      → Walks bases (steps.remember a) p r fit fit' goes
  remember_walks {p = p} {q = q} {r = r} {fit = fit} {fit' = fit'} {a = a} {goes = goes} h e = subst (λ r. Walks bases (steps.remember a) p r fit fit' goes) (sym e)
      record { goals = h.goals; left = h.left; used = h.used; olds = ap rest_of h.olds; front = h.front; end = h.end }

  pub scope_walks : {p q r : Held} {fit fit' : List Goal → Type 0} {a : Step} {goes : Bool} (is : List ℕ) (saved : List Tree) → saved ≡ saved_at is p.world.slots.terms → Walks bases a (now_inside p) q fit fit' goes
      → r ≡ now_put_back is saved p.left q → Walks bases (steps.scope is a) p r fit fit' goes
  scope_walks {p = p} {q = q} {r = r} {fit = fit} {fit' = fit'} {a = a} {goes = goes} is saved same h e =
      let back = restored is p.world in
      subst (λ r. Walks bases (steps.scope is a) p r fit fit' goes) (sym (e ∙ restored_so is saved p q same))
      record {
        goals = h.goals;
        left = λ n k. ap (λ ws. p.left k ++ map back ws) (h.left n k);
        used = h.used;
        olds = h.olds;
        front = h.front;
        end = λ n. ends_map back goes q.world (walk_at bases p n a).end (h.end n);
      }

  pub block_walks : {p q r : Held} {fit fit' : List Goal → Type 0} {a : Step} {goes on : Bool} → Walks bases a (now_inside p) q fit fit' goes → BlockEnds bases p.left goes q r on
      → Walks bases (steps.block a) p r fit fit' on
  block_walks {p = p} {q = q} {r = r} {fit = fit} {fit' = fit'} {a = a} {goes = goes} {on = on} h e = record {
    goals = h.goals;
    left = λ n k. e.left k ∙ ap (λ ws. p.left k ++ ws) (h.left n (suc k));
    used = λ n. e.used (walk_at bases p n a).end (h.end n) ∙ ap₂ (λ c ws. used_by_meet bases c (ws ++ list_of (walk_at bases p n a).end)) (h.used n) (h.left n zero);
    olds = e.olds ∙ h.olds;
    front = by on e.kept (ends zero);
    end = ends;
  }
    where
      ends : (n : ℕ) → EndsAs on r.world (walk_at bases p n (steps.block a)).end
      ends n = subst (EndsAs on r.world) (ap₂ (λ c ws. meet bases c (ws ++ list_of (walk_at bases p n a).end)) (h.used n) (h.left n zero)) (e.end (walk_at bases p n a).end (h.end n))

      by : (b : Bool) → (b ≡ false → r.world ≡ q.world) → EndsAs b r.world (walk_at bases p zero (steps.block a)).end → Begins p.world.known r.world.known
      by true k h = front_of bases p.olds zero (steps.block a) p.used p.world r.world h
      by false k f = subst (λ (x : World). Begins p.world.known x.known) (sym (k refl)) h.front

  -- ---- two arms

  -- what is known before them is known at the end of one
  pub arm_begins : {p q : Held} {fit fit' : List Goal → Type 0} {a : Step} {goes : Bool} (fs : List Tree) → Walks bases a (now_knows p fs) q fit fit' goes → Begins p.world.known q.world.known
  arm_begins {p = p} {q = q} fs h = begins_trans p.world.known (p.world.known ++ fs) q.world.known (begins_more p.world.known fs) h.front

  -- so it is where the second one begins
  pub turned_begins : {p q r x : Held} {arm : Arm} {fit fit' : List Goal → Type 0} {b : Step} {goes : Bool} (fs : List Tree) → TurnsBack p q arm r → Walks bases b (now_knows r fs) x fit fit' goes
      → Begins p.world.known x.world.known
  turned_begins {p = p} {q = q} {r = r} {x = x} fs t h =
      subst (λ (w : Held). Begins w.world.known x.world.known) t.back (arm_begins fs h)

  choose_by : {p q x y : Held} {fit fit' fit'' : List Goal → Type 0} {a b : Step} {first second goes : Bool} (f : Form)
      → Walks bases a (now_knows (now_marked p) (f.written (states p) ∷ [])) q fit fit' first
      → Walks bases b (now_knows (record q { world = (now_marked p).world }) (not_of (f.written (states p)) ∷ [])) x fit' fit'' second
      → Meets bases (now_marked p) first q.world second x y goes → Walks bases (steps.choose f a b) p y fit fit'' goes
  choose_by {p = p} {q = q} {x = x} {y = y} {fit = fit} {fit' = fit'} {fit'' = fit''} {a = a} {b = b} {first = first} {second = second} {goes = goes} f h k meets = record {
    goals = λ gs g.
        let m = length (gs ++ (one (length gs)).goals) in
        subst (λ (r : Walked). fit'' (gs ++ ((one (length gs)).goals ++ r.goals))) (same (length gs))
        (subst (λ n. fit'' (gs ++ ((one (length gs)).goals ++ (other q.olds n q.used).goals))) (numbered_on bases (now_knows (now_marked p) (f.written (states p) ∷ [])) a gs)
        (subst fit'' (append_assoc gs (one (length gs)).goals (other q.olds m q.used).goals) (k.goals (gs ++ (one (length gs)).goals) (h.goals gs g))));
    left = λ n i.
        ap (λ (l : ℕ → List World). l i) meets.left ∙ k.left (n + count a) i ∙ ap (λ ws. ws ++ (other q.olds (n + count a) q.used).left i) (h.left n i)
        ∙ append_assoc (p.left i) ((one n).left i) ((other q.olds (n + count a) q.used).left i) ∙ ap (λ (r : Walked). p.left i ++ ((one n).left i ++ r.left i)) (same n);
    used = λ n.
        meets.used (one n).end (other q.olds (n + count a) q.used).end (h.end n) (k.end (n + count a))
        ∙ ap (λ c. used_by_meet bases c (list_of (one n).end ++ list_of (other q.olds (n + count a) q.used).end)) (k.used (n + count a))
        ∙ ap (λ (r : Walked). used_by_meet bases r.used (list_of (one n).end ++ list_of r.end)) (same n);
    olds = meets.olds ∙ k.olds ∙ h.olds;
    front = meets.front;
    end = λ n.
        subst (λ (r : Walked). EndsAs goes y.world (meet bases r.used (list_of (one n).end ++ list_of r.end))) (same n)
        (subst (λ c. EndsAs goes y.world (meet bases c (list_of (one n).end ++ list_of (other q.olds (n + count a) q.used).end))) (k.used (n + count a))
        (meets.end (one n).end (other q.olds (n + count a) q.used).end (h.end n) (k.end (n + count a))));
  }
    where
      one : ℕ → Walked
      one n = walk_at bases (now_knows (now_marked p) (f.written (states p) ∷ [])) n a

      other : List Slots → ℕ → Used → Walked
      other olds n c = walk bases olds n b c (knows (now_marked p).world (not_of (f.written (states p)) ∷ []))

      same : (n : ℕ) → other q.olds (n + count a) q.used ≡ other p.olds (n + count a) (one n).used
      same n = ap₂ (λ olds c. other olds (n + count a) c) h.olds (h.used n)

  pub choose_walks : {p q r x y : Held} {arm : Arm} {fit fit' fit'' : List Goal → Type 0} {a b : Step} {first second goes : Bool} (f : Form) (t : Tree) → f.written (states p) ≡ t
      → Walks bases a (now_knows (now_marked p) (t ∷ [])) q fit fit' first → TurnsBack (now_marked p) q arm r → Walks bases b (now_knows r (not_of t ∷ [])) x fit' fit'' second
      → Meets bases (now_marked p) first q.world second x y goes → Walks bases (steps.choose f a b) p y fit fit'' goes
  choose_walks {p = p} {q = q} {x = x} {fit = fit} {fit' = fit'} {fit'' = fit''} {a = a} {b = b} {first = first} {second = second} f t is h turns k meets = choose_by f
      (subst (λ t. Walks bases a (now_knows (now_marked p) (t ∷ [])) q fit fit' first) (sym is) h)
      (subst (λ t. Walks bases b (now_knows (record q { world = (now_marked p).world }) (not_of t ∷ [])) x fit' fit'' second) (sym is)
      (subst (λ (r : Held). Walks bases b (now_knows r (not_of t ∷ [])) x fit' fit'' second) turns.back k))
      meets

  -- ---- checks and formulas in turn

  pub none_asked : {p : Held} {fit : List Goal → Type 0} → Walks bases (steps.ask []) p p fit fit true
  none_asked {p = p} {fit = fit} = asks_walk [] (λ gs h. subst fit (sym (append-nil gs)) h) (ap (λ ks. record p { world = world ks p.world.slots }) (sym (append-nil p.world.known)))

  pub both_asked : {p q r : Held} {fit fit' fit'' : List Goal → Type 0} {cs ds : List Check} → Walks bases (steps.ask cs) p q fit fit' true → Walks bases (steps.ask ds) q r fit' fit'' true
      → Walks bases (steps.ask (cs ++ ds)) p r fit fit'' true
  both_asked {p = p} {q = q} {r = r} {fit = fit} {fit' = fit'} {fit'' = fit''} {cs = cs} {ds = ds} h k = transported (steps.seq (steps.ask cs) (steps.ask ds)) (steps.ask (cs ++ ds)) same (seq_goes h k)
    where
      same : (n : ℕ) → walk_at bases p n (steps.seq (steps.ask cs) (steps.ask ds)) ≡ walk_at bases p n (steps.ask (cs ++ ds))
      same n = λ i. record {
        goals = (ap (λ m. asked n p.world.known (states p) cs ++ asked (n + m) (p.world.known ++ written_forms (states p) (forms cs)) (states p) ds) (length_map (λ (c : Check). c.place) cs) ∙ sym (asked_both n p.world.known (states p) cs ds)) i;
        end = Some (world ((append_assoc p.world.known (written_forms (states p) (forms cs)) (written_forms (states p) (forms ds)) ∙ ap (λ fs. p.world.known ++ fs) (written_both (states p) cs ds)) i) p.world.slots);
        left = λ k. [];
        used = p.used;
        fits = true;
      }
