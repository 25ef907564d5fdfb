-- What stands for `\result` doesn't count where it isn't named.
use Rattle.std.proofs.Common.{◌≡◌, ℕ, suc, ◌+◌, Bool, true, false, if◌then◌else◌, List, ◌∷◌, refl, ap, ◌∙◌, subst}
use Rattle.std.specs.Prelude.{Option, Some, None}
use Rattle.std.proofs.lemmas.Bool.{and_parts, false≢true}
use Rattle.acsl_trees.specs.declared.heads.Content.TheVariants as content
use Rattle.acsl_trees.specs.declared.heads.Label.{Label}
use Rattle.acsl_trees.specs.declared.heads.Label.TheVariants as label
use Rattle.acsl_trees.specs.declared.heads.Head.{Head}
use Rattle.acsl_trees.specs.declared.heads.Head.TheVariants as h
use Rattle.acsl_trees.specs.Tree.{Tree, Trees, node, stop, more}
use Rattle.c_runs.specs.Truth.{heads_of}
use Rattle.acsl_expand.specs.Expansion.{binds, around_kid}
use Rattle.qed_terms.specs.Tree.{var}
use Rattle.qed_terms.specs.declared.head.Head.TheVariants as th
use Rattle.acsl_encode.specs.Readings.{Called, Terms, integer, truth, Reading, moved_to, seen_in}
use Rattle.acsl_encode.specs.Encode as encode
use Rattle.acsl_encode.specs.Encode.{Names, with_name, with_one, as_formula, first, last_of, encoded, all_encoded, binders}
use Rattle.plain_annotations.specs.Plain.{Place, reads_variable, node_fits, is_read, is_plain, are_plain}
use Rattle.plain_annotations.specs.Laws.{with_result}

module _ (p : Place) (given : Terms) where
  -- it is this one, where it is named
  abbrev Same : Reading → Type 0
  Same r = p.has_result ≡ true → r.result ≡ given

  abbrev Says : Tree → Type 0
  Says t = (r : Reading) → Same r → (ns : Names) (i n : ℕ) → encoded r ns i n t ≡ encoded (with_result given r) ns i n t

  abbrev AllSay : Trees → Type 0
  AllSay ts = (r : Reading) → Same r → (ns : Names) (i n : ℕ) → all_encoded r ns i n ts ≡ all_encoded (with_result given r) ns i n ts

  -- ---- single nodes

  moved_is : (l : Label) (r : Reading) → with_result given (moved_to l r) ≡ moved_to l (with_result given r)
  moved_is label.Here r = refl
  moved_is label.Pre r = refl
  moved_is label.Post r = refl
  moved_is label.LoopEntry r = refl

  seen_is : (l : Option Label) (r : Reading) → seen_in l r ≡ seen_in l (with_result given r)
  seen_is None r = refl
  seen_is (Some label.Here) r = refl
  seen_is (Some label.Pre) r = refl
  seen_is (Some label.Post) r = refl
  seen_is (Some label.LoopEntry) r = refl

  called_is : (r : Reading) (o : Option Called) (xs : List Terms) → encode.called r o xs ≡ encode.called (with_result given r) o xs
  called_is r None xs = refl
  called_is r (Some c) xs = refl

  read_tree : (k : _) (l : Option Label) (ts : Trees) (r : Reading) → reads_variable p.variables ts ≡ true → (ns : Names) (i n : ℕ)
      → encoded r ns i n (node (h.Read (content.Integer k) l) ts) ≡ encoded (with_result given r) ns i n (node (h.Read (content.Integer k) l) ts)
  read_tree k l stop r e ns i n = absurd (false≢true e)
  read_tree k l (more (node (h.Variable x) us) ts) r e ns i n =
      ap (λ s. encode.read (content.Integer k) s (encode.of_variable x (r.here.variable x))) (seen_is l r)
  read_tree k l (more (node (h.Number z0) us) ts) r e ns i n = absurd (false≢true e)
  read_tree k l (more (node h.Null us) ts) r e ns i n = absurd (false≢true e)
  read_tree k l (more (node (h.Name z0) us) ts) r e ns i n = absurd (false≢true e)
  read_tree k l (more (node (h.Call z0) us) ts) r e ns i n = absurd (false≢true e)
  read_tree k l (more (node h.Result us) ts) r e ns i n = absurd (false≢true e)
  read_tree k l (more (node (h.At z0) us) ts) r e ns i n = absurd (false≢true e)
  read_tree k l (more (node h.Pointed us) ts) r e ns i n = absurd (false≢true e)
  read_tree k l (more (node (h.Field z0 z1) us) ts) r e ns i n = absurd (false≢true e)
  read_tree k l (more (node (h.Element z0 z1) us) ts) r e ns i n = absurd (false≢true e)
  read_tree k l (more (node (h.Elements z0 z1) us) ts) r e ns i n = absurd (false≢true e)
  read_tree k l (more (node (h.Behind z0) us) ts) r e ns i n = absurd (false≢true e)
  read_tree k l (more (node (h.Read z0 z1) us) ts) r e ns i n = absurd (false≢true e)
  read_tree k l (more (node h.Address us) ts) r e ns i n = absurd (false≢true e)
  read_tree k l (more (node (h.Moved z0 z1) us) ts) r e ns i n = absurd (false≢true e)
  read_tree k l (more (node (h.Difference z0) us) ts) r e ns i n = absurd (false≢true e)
  read_tree k l (more (node h.Negate us) ts) r e ns i n = absurd (false≢true e)
  read_tree k l (more (node h.Complement us) ts) r e ns i n = absurd (false≢true e)
  read_tree k l (more (node (h.Arithmetic z0) us) ts) r e ns i n = absurd (false≢true e)
  read_tree k l (more (node (h.Convert z0) us) ts) r e ns i n = absurd (false≢true e)
  read_tree k l (more (node (h.Compare z0) us) ts) r e ns i n = absurd (false≢true e)
  read_tree k l (more (node (h.ComparePointers z0) us) ts) r e ns i n = absurd (false≢true e)
  read_tree k l (more (node h.Not us) ts) r e ns i n = absurd (false≢true e)
  read_tree k l (more (node h.And us) ts) r e ns i n = absurd (false≢true e)
  read_tree k l (more (node h.Or us) ts) r e ns i n = absurd (false≢true e)
  read_tree k l (more (node h.Xor us) ts) r e ns i n = absurd (false≢true e)
  read_tree k l (more (node h.Implies us) ts) r e ns i n = absurd (false≢true e)
  read_tree k l (more (node h.Iff us) ts) r e ns i n = absurd (false≢true e)
  read_tree k l (more (node h.Choose us) ts) r e ns i n = absurd (false≢true e)
  read_tree k l (more (node h.Chain us) ts) r e ns i n = absurd (false≢true e)
  read_tree k l (more (node (h.Link z0) us) ts) r e ns i n = absurd (false≢true e)
  read_tree k l (more (node (h.LinkPointers z0) us) ts) r e ns i n = absurd (false≢true e)
  read_tree k l (more (node h.Let us) ts) r e ns i n = absurd (false≢true e)
  read_tree k l (more (node (h.Every z0) us) ts) r e ns i n = absurd (false≢true e)
  read_tree k l (more (node (h.Some z0) us) ts) r e ns i n = absurd (false≢true e)
  read_tree k l (more (node (h.Valid z0 z1) us) ts) r e ns i n = absurd (false≢true e)
  read_tree k l (more (node h.Separated us) ts) r e ns i n = absurd (false≢true e)
  read_tree k l (more (node (h.Region z0) us) ts) r e ns i n = absurd (false≢true e)

  -- a node whose kids say so
  node_says : (head : Head) (ts : Trees) (d : ℕ) → is_plain p d (node head ts) ≡ true → (is_read head ≡ false → AllSay ts) → Says (node head ts)
  node_says h.Null ts d e kids r s ns i n = absurd (false≢true e)
  node_says (h.Variable x) ts d e kids r s ns i n = absurd (false≢true e)
  node_says h.Pointed ts d e kids r s ns i n = absurd (false≢true e)
  node_says (h.Field k o) ts d e kids r s ns i n = absurd (false≢true e)
  node_says (h.Element k c) ts d e kids r s ns i n = absurd (false≢true e)
  node_says (h.Elements k c) ts d e kids r s ns i n = absurd (false≢true e)
  node_says (h.Behind k) ts d e kids r s ns i n = absurd (false≢true e)
  node_says (h.Read content.Pointer l) ts d e kids r s ns i n = absurd (false≢true e)
  node_says (h.Read (content.Struct k) l) ts d e kids r s ns i n = absurd (false≢true e)
  node_says h.Address ts d e kids r s ns i n = absurd (false≢true e)
  node_says (h.Moved m k) ts d e kids r s ns i n = absurd (false≢true e)
  node_says (h.Difference k) ts d e kids r s ns i n = absurd (false≢true e)
  node_says (h.ComparePointers c) ts d e kids r s ns i n = absurd (false≢true e)
  node_says (h.LinkPointers c) ts d e kids r s ns i n = absurd (false≢true e)
  node_says (h.Valid c w) ts d e kids r s ns i n = absurd (false≢true e)
  node_says h.Separated ts d e kids r s ns i n = absurd (false≢true e)
  node_says (h.Region c) ts d e kids r s ns i n = absurd (false≢true e)
  node_says (h.Number z) ts d e kids r s ns i n = refl
  node_says (h.Name x) ts d e kids r s ns i n = refl
  node_says (h.Call f) ts d e kids r s ns i n = ap (encode.called r (r.called f)) (kids refl r s ns i n) ∙ called_is r (r.called f) (all_encoded (with_result given r) ns i n ts)
  node_says h.Result ts d e kids r s ns i n = s (and_parts p.has_result (are_plain p d false ts) e).0
  node_says (h.At l) ts d e kids r s ns i n = ap first (kids refl (moved_to l r) s ns i n) ∙ ap (λ q. first (all_encoded q ns i n ts)) (moved_is l r)
  node_says (h.Read (content.Integer k) l) ts d e kids r s ns i n = read_tree k l ts r (and_parts (reads_variable p.variables ts) true e).0 ns i n
  node_says h.Negate ts d e kids r s ns i n = ap (encode.applied r h.Negate) (kids refl r s ns i n)
  node_says h.Complement ts d e kids r s ns i n = ap (encode.applied r h.Complement) (kids refl r s ns i n)
  node_says (h.Arithmetic o) ts d e kids r s ns i n = ap (encode.applied r (h.Arithmetic o)) (kids refl r s ns i n)
  node_says (h.Convert k) ts d e kids r s ns i n = ap (encode.applied r (h.Convert k)) (kids refl r s ns i n)
  node_says (h.Compare c) ts d e kids r s ns i n = ap (encode.applied r (h.Compare c)) (kids refl r s ns i n)
  node_says h.Not ts d e kids r s ns i n = ap (encode.applied r h.Not) (kids refl r s ns i n)
  node_says h.And ts d e kids r s ns i n = ap (encode.applied r h.And) (kids refl r s ns i n)
  node_says h.Or ts d e kids r s ns i n = ap (encode.applied r h.Or) (kids refl r s ns i n)
  node_says h.Xor ts d e kids r s ns i n = ap (encode.applied r h.Xor) (kids refl r s ns i n)
  node_says h.Implies ts d e kids r s ns i n = ap (encode.applied r h.Implies) (kids refl r s ns i n)
  node_says h.Iff ts d e kids r s ns i n = ap (encode.applied r h.Iff) (kids refl r s ns i n)
  node_says h.Choose ts d e kids r s ns i n = ap (encode.applied r h.Choose) (kids refl r s ns i n)
  node_says (h.Link c) ts d e kids r s ns i n = ap (encode.applied r (h.Link c)) (kids refl r s ns i n)
  node_says h.Chain ts d e kids r s ns i n = ap (λ xs. with_one (λ fs. truth (encode.all_of fs)) (encode.in_chain (heads_of ts) xs)) (kids refl r s ns i n)
  node_says h.Let ts d e kids r s ns i n =
      ap last_of (kids refl r s (with_name n (first (all_encoded r ns i n ts)) ns) i (suc n))
      ∙ ap (λ xs. last_of (all_encoded (with_result given r) (with_name n (first xs) ns) i (suc n) ts)) (kids refl r s ns i n)
  node_says (h.Every g) ts d e kids r s ns i n = λ j.
      encode.quantified (th.Forall (r.common.binder i)) (encode.ends_of r.common.model g (kids refl r s ns (suc i) n j))
      (as_formula (last_of (kids refl r s (with_name n (integer (encode.kind_of g) (var (r.common.binder i))) ns) (suc i) (suc n) j)))
  node_says (h.Some g) ts d e kids r s ns i n = λ j.
      encode.quantified (th.Exists (r.common.binder i)) (encode.ends_of r.common.model g (kids refl r s ns (suc i) n j))
      (as_formula (last_of (kids refl r s (with_name n (integer (encode.kind_of g) (var (r.common.binder i))) ns) (suc i) (suc n) j)))

  -- ---- trees

  kids_plain : (head : Head) (ts : Trees) (d : ℕ) → is_plain p d (node head ts) ≡ true → is_read head ≡ false → are_plain p d (binds head) ts ≡ true
  kids_plain head ts d e unread =
      subst (λ b. (if b then true else are_plain p d (binds head) ts) ≡ true) unread
      (and_parts (node_fits p d head ts) (if is_read head then true else are_plain p d (binds head) ts) e).1

  mutual
    pub same_tree : (t : Tree) (d : ℕ) → is_plain p d t ≡ true → Says t
    same_tree (node head ts) d e = node_says head ts d e (λ unread. same_trees ts d (binds head) (kids_plain head ts d e unread))

    same_trees : (ts : Trees) (d : ℕ) (in_binder : Bool) → are_plain p d in_binder ts ≡ true → AllSay ts
    same_trees stop d b e r s ns i n = refl
    same_trees (more t ts) d b e r s ns i n =
        let f = and_parts (is_plain p (around_kid b ts d) t) (are_plain p d b ts) e in
        λ j. same_tree t (around_kid b ts d) f.0 r s ns i n j ∷ same_trees ts d b f.1 r s ns (i + binders t) n j
