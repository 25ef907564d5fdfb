-- What the passes on memories and tables make of an operator over kids in normal form is its normal form. What they make of a relation that
-- asks of a block has a normal form, and the rules lead to it.
use Rattle.std.proofs.Common.{◌≡◌, ◌⊎◌, inl, inr, ℕ, suc, Bool, true, false, cond, pos, List, [], ◌∷◌, refl, sym, ◌∙◌, ap, subst, is_some}
use Rattle.std.specs.Prelude.{Option, Some, None, option_map}
use Rattle.wp_base.specs.declared.kinds.CellKind.{CellKind}
use Rattle.wp_base.specs.declared.kinds.Layout.{Layout}
use Rattle.wp_base.specs.Blocks.{same_cell}
use Rattle.qed_terms.specs.declared.head.Head.{Head}
use Rattle.qed_terms.specs.declared.head.Head.TheVariants as h
use Rattle.qed_terms.specs.declared.head.TermOp.{TermOp}
use Rattle.qed_terms.specs.declared.head.TermOp.TheVariants as op
use Rattle.qed_terms.specs.declared.head.FormOp.{FormOp}
use Rattle.qed_terms.specs.declared.head.FormOp.TheVariants as rel
use Rattle.qed_terms.specs.Setting.{Setting}
use Rattle.qed_terms.specs.Tree.{Tree, node, Trees, stop, more, trees_of, list_of, kids_in, one, two, three, num, false_tree, less}
use Rattle.qed_terms.proofs.Lists.{trees_of-list_of}
use Rattle.qed_linear.specs.Linear.{to_lin, unwrap_or}
use Rattle.qed_memories.specs.Memories.{is_zero_where, load_tree, store_tree, count_tree, normal_count, grow_tree, asks, asked, over_grown, over_made, over_none, is_at_place, are_at_places, cell_count, has_cell_tree, layout_answer, past_count, layout_or_below, is_no_block, no_answer, memory_step}
use Rattle.qed_memories.specs.Passes.{count_down, find, made_where, nowhere_where, find_down, found_tree, found_down, memory_pass}
use Rattle.qed_memories.specs.Laws.{IsAmong, IsPart, AreParts, behind_two, Leads, passed}
use Rattle.qed_memories.specs.Laws as law
use Rattle.qed_memories.proofs.Again.{passes_are_steps}
use Rattle.qed_rules.specs.Rules.{then_some, first_some, step}
use Rattle.qed_rules.specs.Passes.{by_rules, linear_term, normal_op, normal_junction}
use Rattle.qed_simplify.specs.Normal.{Normal, Normals, stays, changes, nothing, each}
use Rattle.qed_simplify.proofs.Derived.{Fixed, AllFixed, fixed-normal, fixed-normals, normal-fixed, normals-fixed, over_kids}
use Rattle.qed_simplify.proofs.Settled.{num_normal, plain_normal}
use Rattle.qed_simplify.proofs.Relations.{truth_normal, at_most_normal, equal_normal}
use Rattle.qed_simplify.proofs.Junctions.{each_fixed, junction_normal}

-- What rules make of a node over kids in normal form, one after another, each at a node over such kids.
pub data Comes (set : Setting) : Head → Trees → Tree → Type 0 where
  at_once : {head : Head} {us : Trees} {w : Tree} → step set (node head us) ≡ Some w → Comes set head us w
  first : {head : Head} {us vs : Trees} {w : Tree} → step set (node head us) ≡ Some (node head vs) → AllFixed (step set) vs → Comes set head vs w → Comes set head us w

module _ (set : Setting) where
  -- ---- parts of kids in normal form

  kids_fixed : (t : Tree) → Fixed (step set) t → AllFixed (step set) (kids_in t)
  kids_fixed (node head ts) f = f.0

  among_fixed : (t : Tree) (ts : Trees) → IsAmong t ts → AllFixed (step set) ts → Fixed (step set) t
  among_fixed t stop k f = absurd k
  among_fixed t (more u ts) k f = elim k [
    | inl e ↦ subst (Fixed (step set)) (sym e) f.0
    | inr e ↦ among_fixed t ts e f.1
  ]

  part_fixed : (t : Tree) (ts : Trees) → IsPart t ts → AllFixed (step set) ts → Fixed (step set) t
  part_fixed t stop k f = absurd k
  part_fixed t (more u ts) k f = elim k [
    | inl e ↦ subst (Fixed (step set)) (sym e) f.0
    | inr e ↦ elim e [
      | inl a ↦ among_fixed t (kids_in u) a (kids_fixed u f.0)
      | inr a ↦ part_fixed t ts a f.1
    ]
  ]

  parts_fixed : (us ts : Trees) → AreParts us ts → AllFixed (step set) ts → AllFixed (step set) us
  parts_fixed stop ts k f = tt
  parts_fixed (more u us) ts k f = (part_fixed u ts k.0 f, parts_fixed us ts k.1 f)

  behind_fixed : (ts : Trees) → AllFixed (step set) ts → AllFixed (step set) (behind_two ts)
  behind_fixed stop f = tt
  behind_fixed (more t stop) f = tt
  behind_fixed (more t (more u us)) f = f.1.1

  -- ---- where the rules lead

  -- a head at which no other rule changes a node
  abbrev pub IsRemembered : Head → Type 0
  IsRemembered head = (ts : Trees) → (step set) (node head ts) ≡ memory_step head ts

  none_normal : (head : Head) → Normal (step set) (no_answer head) (no_answer head)
  none_normal (h.Term o) = (num_normal set) (pos 0)
  none_normal head = (truth_normal set) false

  abbrev Found : Tree → Type 0
  Found t = (u : Tree) × Normal (step set) t u

  -- where what a layout answers is its own normal form, so is that to which the rules lead
  leads_normal : {head : Head} {ts : Trees} {w : Tree} → Leads head ts w → IsRemembered head → ((l : Layout) (us : Trees) → Normal (step set) (layout_answer l head us) (layout_answer l head us)) → AllFixed (step set) ts → Normal (step set) (node head ts) w
  leads_normal (law.stays {head} {ts} e) is answers f = stays (fixed-normals (step set) ts f) (is ts ∙ e)
  leads_normal (law.ends {head} {ts} {w} e a) is answers f = changes (fixed-normals (step set) ts f) (is ts ∙ e) (elim a [
    | inl p ↦ fixed-normal (step set) w (part_fixed w ts p f)
    | inr b ↦ elim b [
      | inl n ↦ subst (λ z. Normal (step set) z z) (sym n) (none_normal head)
      | inr l ↦ subst (λ z. Normal (step set) z z) (sym l.1) (answers l.0 (behind_two ts))
    ]
  ])
  leads_normal (law.goes_on {head} {ts} {us} e p l) is answers f = changes (fixed-normals (step set) ts f) (is ts ∙ e) (leads_normal l is answers (parts_fixed us ts p f))

  -- where what a layout answers has a normal form, so has the node
  pub leads_found : {head : Head} {ts : Trees} {w : Tree} → Leads head ts w → IsRemembered head → ((l : Layout) (us : Trees) → AllFixed (step set) us → Found (layout_answer l head us)) → AllFixed (step set) ts → Found (node head ts)
  leads_found (law.stays {head} {ts} e) is answers f = (node head ts, stays (fixed-normals (step set) ts f) (is ts ∙ e))
  leads_found (law.ends {head} {ts} {w} e a) is answers f = elim a [
    | inl p ↦ (w, changes (fixed-normals (step set) ts f) (is ts ∙ e) (fixed-normal (step set) w (part_fixed w ts p f)))
    | inr b ↦ elim b [
      | inl n ↦ (no_answer head, changes (fixed-normals (step set) ts f) (is ts ∙ e) (subst (λ z. Normal (step set) z (no_answer head)) (sym n) (none_normal head)))
      | inr l ↦
          let r = answers l.0 (behind_two ts) (behind_fixed ts f) in
          (r.0, changes (fixed-normals (step set) ts f) (is ts ∙ e) (subst (λ z. Normal (step set) z r.0) (sym l.1) r.1))
    ]
  ]
  leads_found (law.goes_on {head} {ts} {us} e p l) is answers f = let r = leads_found l is answers (parts_fixed us ts p f) in (r.0, changes (fixed-normals (step set) ts f) (is ts ∙ e) r.1)

  -- ---- operators

  -- by the pass, where the node is the term of its own form
  by_pass : (p : Option Tree) (t : Tree) → linear_term t ≡ t → unwrap_or p t ≡ by_rules None p t
  by_pass None t e = sym e
  by_pass (Some w) t e = refl

  -- the count of a table
  count_found : (t : Tree) → Fixed (step set) t → Normal (step set) (count_tree t) (normal_count t)
  unfolding normal_count
  count_found (node (h.Term (op.Alloc l)) (more t stop)) f =
      let ks : Normals (step set) (two (count_tree t) (num (pos 1))) (two (normal_count t) (num (pos 1))) = each (count_found t f.0.0) (each ((num_normal set) (pos 1)) nothing) in
      changes (fixed-normals (step set) (one (node (h.Term (op.Alloc l)) (more t stop))) (f, tt)) refl (over_kids (step set) ks ((plain_normal set) op.Add (two (normal_count t) (num (pos 1))) (normals-fixed (step set) ks) refl refl))
  count_found t f = stays (fixed-normals (step set) (one t) (f, tt)) refl

  count_is : (t : Tree) → normal_count t ≡ by_rules None (count_down t) (count_tree t)
  unfolding normal_count count_down
  count_is (node (h.Term (op.Alloc l)) (more t stop)) = refl
  count_is t = refl

  number_answers : (o : TermOp) (l : Layout) (us : Trees) → Normal (step set) (layout_answer l (h.Term o) us) (layout_answer l (h.Term o) us)
  number_answers o l us = (num_normal set) (pos (cell_count l))

  pub op_normal : (o : TermOp) (ts : Trees) → AllFixed (step set) ts → Normal (step set) (node (h.Term o) ts) ((normal_op set.long_bits) o ts)
  op_normal op.Load (more m (more b (more o stop))) f =
      subst (Normal (step set) (load_tree m b o)) (by_pass (memory_pass (h.Term op.Load) (three m b o)) (load_tree m b o) refl) (leads_normal (passes_are_steps.loads m b o) (λ ts. refl) (number_answers op.Load) f)
  op_normal op.Store (more m (more b (more o (more v stop)))) f =
      subst (Normal (step set) (store_tree m b o v)) (by_pass (memory_pass (h.Term op.Store) (more m (three b o v))) (store_tree m b o v) refl) (leads_normal (passes_are_steps.stores m b o v) (λ ts. refl) (number_answers op.Store) f)
  op_normal op.Count (more t stop) f = subst (Normal (step set) (count_tree t)) (count_is t) (count_found t f.0)
  op_normal op.Grow (more t (more u stop)) f =
      subst (Normal (step set) (grow_tree t u)) (by_pass (memory_pass (h.Term op.Grow) (two t u)) (grow_tree t u) refl) (leads_normal (passes_are_steps.grows t u) (λ ts. refl) (number_answers op.Grow) f)
  op_normal op.Len (more t (more b stop)) f =
      subst (Normal (step set) (node (h.Term op.Len) (two t b))) (by_pass (memory_pass (h.Term op.Len) (two t b)) (node (h.Term op.Len) (two t b)) refl)
      (leads_normal (passes_are_steps.asks_block (h.Term op.Len) t b stop refl) (λ ts. refl) (number_answers op.Len) f)
  op_normal o ts f = (plain_normal set) o ts f refl refl

  -- ---- what a layout answers

  less_found : (t u : Tree) → Fixed (step set) t → Fixed (step set) u → Found (less t u)
  less_found t u f k =
      let more_kids = two t (num (pos 1)) in
      let known : AllFixed (step set) more_kids = (f, (normal-fixed (step set) ((num_normal set) (pos 1)), tt)) in
      let s = op_normal op.Add more_kids known in
      let l = fixed-normal (step set) u k in
      (_, changes (fixed-normals (step set) (two t u) (f, (k, tt))) refl (over_kids (step set) (each s (each l nothing)) ((at_most_normal set) (linear_term (node (h.Term op.Add) more_kids)) u (normal-fixed (step set) s) k)))

  and_normal : (us : Trees) → AllFixed (step set) us → Normal (step set) (node h.And us) (normal_junction true (list_of us))
  and_normal us f = subst (λ ts. Normal (step set) (node h.And ts) (normal_junction true (list_of us))) (trees_of-list_of us) ((junction_normal set) true (list_of us) ((each_fixed set) us f))

  or_normal : (us : Trees) → AllFixed (step set) us → Normal (step set) (node h.Or us) (normal_junction false (list_of us))
  or_normal us f = subst (λ ts. Normal (step set) (node h.Or ts) (normal_junction false (list_of us))) (trees_of-list_of us) ((junction_normal set) false (list_of us) ((each_fixed set) us f))

  place_found : (n s : ℕ) (o : Tree) (j : ℕ) → Fixed (step set) o → Found (is_at_place n s o j)
  place_found n s o j f =
      let zero = normal-fixed (step set) ((num_normal set) (pos 0)) in
      let low = (at_most_normal set) (num (pos 0)) o zero f in
      let high = less_found o (num (pos n)) f (normal-fixed (step set) ((num_normal set) (pos n))) in
      let known : AllFixed (step set) (two o (num (pos s))) = (f, (normal-fixed (step set) ((num_normal set) (pos s)), tt)) in
      let rest = op_normal op.Mod (two o (num (pos s))) known in
      let at = over_kids (step set) (each rest (each ((num_normal set) (pos j)) nothing)) ((equal_normal set) ((normal_op set.long_bits) op.Mod (two o (num (pos s)))) (num (pos j)) (normal-fixed (step set) rest) (normal-fixed (step set) ((num_normal set) (pos j)))) in
      let ks = each low (each high.1 (each at nothing)) in
      (_, over_kids (step set) ks (and_normal _ (normals-fixed (step set) ks)))

  abbrev FoundAll : Trees → Type 0
  FoundAll ts = (us : Trees) × Normals (step set) ts us

  places_found : (n s : ℕ) (k : CellKind) (o : Tree) (j : ℕ) (cs : List CellKind) → Fixed (step set) o → FoundAll (trees_of (are_at_places n s k o j cs))
  places_found n s k o j [] f = (stop, nothing)
  places_found n s k o j (c ∷ cs) f = go (same_cell k c) (places_found n s k o (suc j) cs f)
    where
      go : (b : Bool) → FoundAll (trees_of (are_at_places n s k o (suc j) cs)) → FoundAll (trees_of (cond b (is_at_place n s o j ∷ are_at_places n s k o (suc j) cs) (are_at_places n s k o (suc j) cs)))
      go true r = let p = place_found n s o j f in (more p.0 r.0, each p.1 r.1)
      go false r = r

  cell_found : (l : Layout) (k : CellKind) (o : Tree) → Fixed (step set) o → Found (has_cell_tree l k o)
  cell_found l k o f = let r = places_found (cell_count l) _ k o 0 l.cells f in (_, over_kids (step set) r.1 (or_normal r.0 (normals-fixed (step set) r.1)))

  written_found : (l : Layout) (k : CellKind) (o : Tree) (b : Bool) → Fixed (step set) o → Found (cond b (has_cell_tree l k o) false_tree)
  written_found l k o true f = cell_found l k o f
  written_found l k o false f = (false_tree, (truth_normal set) false)

  layout_found : (o : FormOp) (l : Layout) (us : Trees) → AllFixed (step set) us → Found (layout_answer l (h.Form o) us)
  layout_found (rel.Read k) l (more o us) f = cell_found l k o f.0
  layout_found (rel.Write k) l (more o us) f = written_found l k o l.writable f.0
  layout_found rel.Live l us f = (_, (truth_normal set) true)
  layout_found o l us f = (_, (truth_normal set) false)

  -- ---- relations that ask of a block

  -- the pass answers exactly where a rule changes the node
  found_where : (head : Head) (t b : Tree) (ts : Trees) → is_some (found_down head t b ts) ≡ is_some (first_some (over_grown head t b ts) (first_some (over_made head t b ts) (first_some (over_none head t b ts) None)))
  unfolding find_down
  found_where head (node (h.Term op.Grow) (more t (more u stop))) b ts = refl
  found_where head (node (h.Term (op.Alloc l)) (more t stop)) b ts = go (is_zero_where (past_count (to_lin b) t)) (is_no_block (node (h.Term (op.Alloc l)) (more t stop)) (to_lin b))
    where
      go : (x : Option Bool) (n : Bool) → is_some (option_map (found_tree head b ts) (made_where x l (find t (to_lin b)) n)) ≡ is_some (first_some (layout_or_below x (layout_answer l head ts) (asked head t b ts)) (first_some (then_some n (no_answer head)) None))
      go None true = refl
      go None false = refl
      go (Some true) n = refl
      go (Some false) n = refl
  found_where head t b ts = go (is_no_block t (to_lin b))
    where
      go : (n : Bool) → is_some (option_map (found_tree head b ts) (nowhere_where n)) ≡ is_some (first_some (then_some n (no_answer head)) None)
      go true = refl
      go false = refl

  asks_where : (o : FormOp) (t b : Tree) (ts : Trees) → asks (h.Form o) ts ≡ true → is_some (memory_pass (h.Form o) (more t (more b ts))) ≡ is_some (memory_step (h.Form o) (more t (more b ts)))
  asks_where (rel.Read k) t b (more x stop) a = found_where (h.Form (rel.Read k)) t b (one x)
  asks_where (rel.Write k) t b (more x stop) a = found_where (h.Form (rel.Write k)) t b (one x)
  asks_where rel.Live t b stop a = found_where (h.Form rel.Live) t b stop
  asks_where o t b ts a = absurd cc

  form_remembered : (o : FormOp) (ts : Trees) → asks (h.Form o) ts ≡ true → IsRemembered (h.Form o)
  form_remembered (rel.Read k) (more x stop) a = λ us. refl
  form_remembered (rel.Write k) (more x stop) a = λ us. refl
  form_remembered rel.Live stop a = λ us. refl
  form_remembered o ts a = absurd cc

  -- the normal form of what comes is that of the node
  pub comes_normal : {head : Head} {us : Trees} {w : Tree} (v : Tree) → (Comes set) head us w → AllFixed (step set) us → Normal (step set) w v → Normal (step set) (node head us) v
  comes_normal v (at_once {head} {us} e) f d = changes (fixed-normals (step set) us f) e d
  comes_normal v (first {head} {us} e k c) f d = changes (fixed-normals (step set) us f) e (comes_normal v c k d)

  abbrev Stood : Head → Trees → Tree → Type 0
  Stood head ts w = (Comes set) head ts w ⊎ ((memory_step head ts ≡ None) × (w ≡ node head ts))

  leads_come : {head : Head} {ts : Trees} {w : Tree} → Leads head ts w → IsRemembered head → AllFixed (step set) ts → Stood head ts w
  leads_come (law.stays {head} {ts} e) is f = inr (e, refl)
  leads_come (law.ends {head} {ts} e a) is f = inl (at_once (is ts ∙ e))
  leads_come (law.goes_on {head} {ts} {us} e p l) is f = elim (leads_come l is (parts_fixed us ts p f)) [
    | inl c ↦ inl (first (is ts ∙ e) (parts_fixed us ts p f) c)
    | inr q ↦ inl (at_once (is ts ∙ e ∙ ap Some (sym q.1)))
  ]

  -- where the pass changes a relation, its rules come to what that makes; where it doesn't, no rule changes it
  pub asked_none : (o : FormOp) (t b : Tree) (ts : Trees) → asks (h.Form o) ts ≡ true → memory_pass (h.Form o) (more t (more b ts)) ≡ None → (step set) (node (h.Form o) (more t (more b ts))) ≡ None
  asked_none o t b ts a k = form_remembered o ts a (more t (more b ts)) ∙ go (memory_step (h.Form o) (more t (more b ts))) (sym (asks_where o t b ts a) ∙ ap is_some k)
    where
      go : (p : Option Tree) → is_some p ≡ false → p ≡ None
      go None e = refl
      go (Some w) e = absurd cc

  pub asked_comes : (o : FormOp) (t b : Tree) (ts : Trees) (w : Tree) → asks (h.Form o) ts ≡ true → AllFixed (step set) (more t (more b ts)) → memory_pass (h.Form o) (more t (more b ts)) ≡ Some w → (Comes set) (h.Form o) (more t (more b ts)) w
  asked_comes o t b ts w a f k =
      let us = more t (more b ts) in
      let l : Leads (h.Form o) us w = subst (Leads (h.Form o) us) (ap (λ p. unwrap_or p (node (h.Form o) us)) k) (passes_are_steps.asks_block (h.Form o) t b ts a) in
      elim (leads_come l (form_remembered o ts a) f) [
        | inl c ↦ c
        | inr q ↦ absurd (never (ap is_some (sym k) ∙ asks_where o t b ts a ∙ ap is_some q.0))
      ]
    where
      never : true ≡ false → ⊥
      never e = absurd cc

  pub asked_found : (o : FormOp) (t b : Tree) (ts : Trees) → asks (h.Form o) ts ≡ true → AllFixed (step set) (more t (more b ts)) → (u : Tree) × Normal (step set) (node (h.Form o) (more t (more b ts))) u
  asked_found o t b ts a f = leads_found (passes_are_steps.asks_block (h.Form o) t b ts a) (form_remembered o ts a) (layout_found o) f
