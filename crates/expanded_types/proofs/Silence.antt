-- Trees that bind no name: they give the same where more names are around, so they may stand for a parameter.
use Rattle.std.proofs.Common.{◌≡◌, ℕ, zero, suc, Bool, true, not, ◌&&◌, List, [], ◌∷◌, ◌++◌, length, slice_index_or, Option, Some, option_and_then, slice_get, refl, sym, ap, ◌∙◌, subst}
use Rattle.std.proofs.lemmas.Bool.{and_parts, false≢true}
use Rattle.acsl_trees.specs.declared.heads.Head.{Head}
use Rattle.acsl_trees.specs.declared.heads.Head.TheVariants as head
use Rattle.acsl_trees.specs.Tree.{Tree, Trees, node, stop, more, trees_of}
use Rattle.acsl_expand.specs.Expansion.{binds, nought}
use Rattle.acsl_well_typed.specs.WellTyped.{What, Known, Names, no_name, binder_behind, alone, gives, what_of, kids_give}
use Rattle.expanded_types.proofs.Lists.{node_given, more_given, more_made}

abbrev mutual
  pub is_silent : Tree → Bool
  is_silent (node h ks) = not (binds h) && all_silent ks

  pub all_silent : Trees → Bool
  all_silent stop = true
  all_silent (more t ts) = is_silent t && all_silent ts

-- a name, or not
abbrev NoName : Head → Type 0
NoName (head.Name x) = ⊥
NoName h = Unit {0}

pub get_more : (ws vs : Names) (x : ℕ) (w : What) → slice_get ws x ≡ Some w → slice_get (ws ++ vs) x ≡ Some w
get_more [] vs x w e = absurd cc
get_more (a ∷ ws) vs zero w e = e
get_more (a ∷ ws) vs (suc x) w e = get_more ws vs x w e

pub alone_given : (us : List What) (o : Option What) (w : What) → alone us o ≡ Some w → (us ≡ []) × (o ≡ Some w)
alone_given [] o w e = (refl, e)
alone_given (u ∷ us) o w e = absurd cc

module _ (k : Known) (ws vs : Names) where
  head_same : (h : Head) → NoName h → (us : List What) (w : What) → gives k ws h us ≡ Some w → gives k (ws ++ vs) h us ≡ Some w
  head_same (head.Name x) n us w e = absurd n
  head_same h n us w e = e

  name_same : (x : ℕ) (us : List What) (w : What) → gives k ws (head.Name x) us ≡ Some w → gives k (ws ++ vs) (head.Name x) us ≡ Some w
  name_same x us w e =
      let p = alone_given us (slice_get ws x) w e in subst (λ us. alone us (slice_get (ws ++ vs) x) ≡ Some w) (sym p.0) (get_more ws vs x w p.1)

  -- a node that binds no name
  silent_node : (h : Head) (o q : Option (List What)) (w : What) → ((us : List What) → o ≡ Some us → q ≡ Some us)
      → ((us : List What) → gives k ws h us ≡ Some w → gives k (ws ++ vs) h us ≡ Some w)
      → option_and_then (gives k ws h) o ≡ Some w → option_and_then (gives k (ws ++ vs) h) q ≡ Some w
  silent_node h o q w kids same e =
      let p = node_given (gives k ws h) o w e in ap (option_and_then (gives k (ws ++ vs) h)) (kids p.0 p.1) ∙ same p.0 p.2

  mutual
    pub weaker : (t : Tree) (w : What) → is_silent t ≡ true → what_of k ws t ≡ Some w → what_of k (ws ++ vs) t ≡ Some w
    weaker (node head.Let ks) w s e = absurd (false≢true s)
    weaker (node (head.Every r) ks) w s e = absurd (false≢true s)
    weaker (node (head.Some r) ks) w s e = absurd (false≢true s)
    weaker (node (head.Name x) ks) w s e =
        silent_node (head.Name x) (kids_give k ws no_name ks) (kids_give k (ws ++ vs) no_name ks) w (λ us f. all_weaker ks us s f) (λ us f. name_same x us w f) e
    weaker (node h ks) w s e =
        silent_node h (kids_give k ws no_name ks) (kids_give k (ws ++ vs) no_name ks) w (λ us f. all_weaker ks us s f) (λ us f. head_same h tt us w f) e

    all_weaker : (ks : Trees) (us : List What) → all_silent ks ≡ true → kids_give k ws no_name ks ≡ Some us → kids_give k (ws ++ vs) no_name ks ≡ Some us
    all_weaker stop us s e = e
    all_weaker (more t ts) us s e =
        let b = and_parts (is_silent t) (all_silent ts) s in
        let p = more_given (what_of k ws t) (λ w. kids_give k ws (binder_behind no_name w) ts) us e in
        more_made (what_of k (ws ++ vs) t) (λ w. kids_give k (ws ++ vs) (binder_behind no_name w) ts) p.0 p.1 (weaker t p.0 b.0 p.2) (all_weaker ts p.1 b.1 p.3)
        ∙ ap (λ us. Some us) (sym p.4)

-- ---- arguments

module _ (k : Known) (ws : Names) where
  pub argument_at : (args : List Tree) (us : List What) (x : ℕ) (w : What) → kids_give k ws no_name (trees_of args) ≡ Some us → all_silent (trees_of args) ≡ true
      → slice_get us x ≡ Some w → (what_of k ws (slice_index_or args x nought) ≡ Some w) × (is_silent (slice_index_or args x nought) ≡ true)
  argument_at [] [] x w e s f = absurd cc
  argument_at [] (u ∷ us) x w e s f = absurd cc
  argument_at (t ∷ ts) us zero w e s f =
      let b = and_parts (is_silent t) (all_silent (trees_of ts)) s in
      let p = more_given (what_of k ws t) (λ w. kids_give k ws (binder_behind no_name w) (trees_of ts)) us e in
      (p.2 ∙ ap (λ us. slice_get us 0) (sym p.4) ∙ f, b.0)
  argument_at (t ∷ ts) us (suc x) w e s f =
      let b = and_parts (is_silent t) (all_silent (trees_of ts)) s in
      let p = more_given (what_of k ws t) (λ w. kids_give k ws (binder_behind no_name w) (trees_of ts)) us e in
      argument_at ts p.1 x w p.3 b.1 (ap (λ us. slice_get us (suc x)) (sym p.4) ∙ f)

  pub as_many : (args : List Tree) (us : List What) → kids_give k ws no_name (trees_of args) ≡ Some us → length us ≡ length args
  as_many [] [] e = refl
  as_many [] (u ∷ us) e = absurd cc
  as_many (t ∷ ts) us e =
      let p = more_given (what_of k ws t) (λ w. kids_give k ws (binder_behind no_name w) (trees_of ts)) us e in
      ap length p.4 ∙ ap suc (as_many ts p.1 p.3)
