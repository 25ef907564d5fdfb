-- What the walk does at a node: its kids are less work, what goes again too, and what it makes is the normal form.
use Rattle.std.proofs.Common.{◌≡◌, true, ℕ, ◌+◌, ◌*◌, ◌<◌, ◌≤◌, List, [], ◌∷◌, ◌++◌, map, take, drop, length, get_or, take-append-drop, refl, sym, ◌∙◌, ap, subst, arith}
use Rattle.qed_terms.specs.declared.head.Head.{Head}
use Rattle.qed_terms.specs.declared.head.Head.TheVariants as h
use Rattle.qed_terms.specs.declared.head.Sort.{Sort}
use Rattle.qed_terms.specs.declared.term.Term.{Term}
use Rattle.qed_terms.specs.declared.term.Formula.{Formula}
use Rattle.qed_terms.specs.View.{term_tree, formula_tree}
use Rattle.qed_terms.specs.Setting.{Setting, is_regular}
use Rattle.qed_terms.specs.Tree.{Tree, node, Trees, stop, trees_of}
use Rattle.qed_rules.specs.Rules.{step}
use Rattle.qed_rules.specs.Passes.{Pass, done, again, pass}
use Rattle.qed_simplify.specs.Normal.{Normal, Normals, Settles, stays, nothing, each}
use Rattle.qed_simplify.proofs.Derived.{firsts, fixed-normals, normals-fixed, over_kids}
use Rattle.qed_simplify.proofs.Memories.{Comes, at_once, first, comes_normal}
use Rattle.qed_simplify.proofs.Existence.{work_on, works_on, kids_work, next_work}
use Rattle.qed_simplify.proofs.Passed.{Passes, passes}
use Rattle.qed_linear.proofs.Places.{one_off, take_one, map_append}

module _ (set : Setting) where
  -- ---- work

  abbrev pub pass_work : Pass → ℕ
  pass_work (done t) = 0
  pass_work (again t) = 2 * (work_on set) t + 1

  works_append : (ts us : List Tree) → (works_on set) (trees_of (ts ++ us)) ≡ (works_on set) (trees_of ts) + (works_on set) (trees_of us)
  works_append [] us = omega arith
  works_append (t ∷ ts) us = let k = works_append ts us in omega (arith, k)

  -- an item of a list is no more work than the list
  pub item_work : {X : Type 0} (view : X → Tree) (xs : List X) (i : ℕ) (x : X) → i < length xs → x ≡ get_or xs i x → (work_on set) (view x) ≤ (works_on set) (trees_of (map view xs))
  item_work view xs i x k e =
      let split : xs ≡ take i xs ++ (x ∷ drop (i + 1) xs) = sym (take-append-drop i xs) ∙ ap (λ ys. take i xs ++ ys) (one_off xs i x k e) in
      let all = ap (λ ys. (works_on set) (trees_of (map view ys))) split ∙ ap (λ ts. (works_on set) (trees_of ts)) (map_append view (take i xs) (x ∷ drop (i + 1) xs)) ∙ works_append (map view (take i xs)) (map view (x ∷ drop (i + 1) xs)) in
      omega (arith, all)

  -- a node's kids, where the node is given by an equation
  pub less : is_regular set ≡ true → (t : Tree) (head : Head) (ts : Trees) → t ≡ node head ts → (works_on set) ts < (work_on set) t
  less regular t head ts e = let a = (kids_work set regular) head ts in let b = ap (work_on set) e in omega (arith, a, b)

  -- what rules come to is less work than the node
  comes_less : {head : Head} {ts us : Trees} {w : Tree} → is_regular set ≡ true → (Comes set) head us w → Normals (step set) ts us → (work_on set) w < (work_on set) (node head ts)
  comes_less {ts = ts} regular (at_once {head} {us} {w} e) ks = (next_work set regular) head w ks e
  comes_less {ts = ts} regular (first {head} {us} {vs} {w} e k c) ks = let a = (next_work set regular) head (node head vs) ks e in let b = comes_less regular c (fixed-normals (step set) vs k) in omega (arith, a, b)

  -- what goes again is less work than the node
  pub pass_less : is_regular set ≡ true → (t : Tree) (head : Head) (ts us : Trees) (p : Pass) → t ≡ node head ts → Normals (step set) ts us → p ≡ (pass set) head us → pass_work p < 2 * (work_on set) t
  pass_less regular t head ts us p e ks q = go p (subst ((Passes set) head us) (sym q) ((passes set) head us (normals-fixed (step set) ks)))
    where
      go : (p : Pass) → (Passes set) head us p → pass_work p < 2 * (work_on set) t
      go (done v) d = let a = (kids_work set regular) head ts in let b = ap (work_on set) e in omega (arith, a, b)
      go (again w) d = let a = comes_less regular d ks in let b = ap (work_on set) e in omega (arith, a, b)

  -- ---- the normal form of a node

  -- where the pass is done
  pub made : (t : Tree) (head : Head) (ts us : Trees) (v w : Tree) → t ≡ node head ts → Normals (step set) ts us → (pass set) head us ≡ done w → v ≡ w → Normal (step set) t v
  made t head ts us v w e ks q same =
      subst (λ z. Normal (step set) z v) (sym e) (subst (Normal (step set) (node head ts)) (sym same) (over_kids (step set) ks (subst ((Passes set) head us) q ((passes set) head us (normals-fixed (step set) ks)))))

  -- where what it made goes again
  pub settled_at : (t : Tree) (head : Head) (ts us : Trees) (v : Tree) (p : Pass) → t ≡ node head ts → Normals (step set) ts us → p ≡ (pass set) head us → (Settles set) p v → Normal (step set) t v
  settled_at t head ts us v p e ks q s = subst (λ z. Normal (step set) z v) (sym e) (go p (subst ((Passes set) head us) (sym q) ((passes set) head us (normals-fixed (step set) ks))) s)
    where
      go : (p : Pass) → (Passes set) head us p → (Settles set) p v → Normal (step set) (node head ts) v
      go (done w) d same = subst (Normal (step set) (node head ts)) (sym same) (over_kids (step set) ks d)
      go (again w) d n = over_kids (step set) ks ((comes_normal set) v d (normals-fixed (step set) ks) n)

  -- ---- lists

  normals_append : (ts us vs ws : List Tree) → Normals (step set) (trees_of ts) (trees_of us) → Normals (step set) (trees_of vs) (trees_of ws) → Normals (step set) (trees_of (ts ++ vs)) (trees_of (us ++ ws))
  normals_append [] [] vs ws n d = d
  normals_append [] (u ∷ us) vs ws n d = let f = firsts (step set) n in let e = f.0 in absurd cc
  normals_append (t ∷ ts) [] vs ws n d = let f = firsts (step set) n in let e = f.4 in absurd cc
  normals_append (t ∷ ts) (u ∷ us) vs ws n d =
      let f = firsts (step set) n in
      let e = f.4 in
      let front : f.0 ≡ u = cc in
      let rest : f.1 ≡ trees_of us = cc in
      each (subst (Normal (step set) t) front f.2) (normals_append ts us vs ws (subst (Normals (step set) (trees_of ts)) rest f.3) d)

  -- one more item
  pub normals_more : {X Y : Type 0} (view : X → Tree) (view' : Y → Tree) (xs : List X) (ys : List Y) (i : ℕ) (x : X) (y : Y) → i < length xs → x ≡ get_or xs i x
      → Normals (step set) (trees_of (map view (take i xs))) (trees_of (map view' ys)) → Normal (step set) (view x) (view' y) → Normals (step set) (trees_of (map view (take (i + 1) xs))) (trees_of (map view' (ys ++ y ∷ [])))
  normals_more view view' xs ys i x y k e ns n =
      let a = ap (map view) (take_one xs i x k e) ∙ map_append view (take i xs) (x ∷ []) in
      let b = map_append view' ys (y ∷ []) in
      subst (λ ts. Normals (step set) (trees_of ts) (trees_of (map view' (ys ++ y ∷ [])))) (sym a) (subst (λ us. Normals (step set) (trees_of (map view (take i xs) ++ view x ∷ [])) (trees_of us)) (sym b) (normals_append (map view (take i xs)) (map view' ys) (view x ∷ []) (view' y ∷ []) ns (each n nothing)))

  -- ---- a term or a formula behind a box

  pub formula_of : (f g : Formula) (u : Tree) → f ≡ g → Normal (step set) (formula_tree f) u → Normal (step set) (formula_tree g) u
  formula_of f g u e n = subst (λ z. Normal (step set) (formula_tree z) u) e n

  pub term_of : (t s : Term) (u : Tree) → t ≡ s → Normal (step set) (term_tree t) u → Normal (step set) (term_tree s) u
  term_of t s u e n = subst (λ z. Normal (step set) (term_tree z) u) e n

  -- a number or a name is its own normal form
  pub leaf : (t : Tree) (head : Head) → t ≡ node head stop → Normal (step set) (node head stop) (node head stop) → Normal (step set) t t
  leaf t head e n = subst (λ z. Normal (step set) z z) (sym e) n

  pub name_normal : (x : List ℕ) (s : Sort) → Normal (step set) (node (h.Var x s) stop) (node (h.Var x s) stop)
  name_normal x s = stays nothing refl
