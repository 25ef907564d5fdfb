-- Annotations over plain integers have terms where all that they may name has one.
use Rattle.std.proofs.Common.{◌≡◌, ℕ, suc, ◌+◌, true, false, [], ◌∷◌, refl}
use Rattle.std.specs.Prelude.{nat_lt, Option, Some, None}
use Rattle.std.proofs.lemmas.Bool.{and_parts, false≢true}
use Rattle.acsl_trees.specs.declared.heads.Content.TheVariants as content
use Rattle.acsl_trees.specs.declared.heads.Label.{Label}
use Rattle.acsl_trees.specs.declared.heads.Range.TheVariants as range
use Rattle.acsl_trees.specs.declared.heads.Head.TheVariants as h
use Rattle.acsl_trees.specs.Tree.{Tree, Trees, node, stop, more}
use Rattle.c_runs.specs.Truth.{heads_of}
use Rattle.qed_terms.specs.Tree.{var, not_of, and_of, or_of, imp_of}
use Rattle.qed_terms.specs.declared.head.Head.TheVariants as th
use Rattle.qed_terms.specs.declared.head.TermOp.TheVariants as op
use Rattle.acsl_encode.specs.Readings.{integer, truth}
use Rattle.acsl_encode.specs.Readings.{Reading, moved_to, seen_in}
use Rattle.acsl_encode.specs.Encode as encode
use Rattle.acsl_encode.specs.Encode.{Names, with_name, with_one, with_two, as_integer, as_formula, terms_at, encoded, all_encoded, binders, own_binders}
use Rattle.acsl_encode.specs.Encode.{put, all_put, memory_of, global_of, linked, all_linked}
use Rattle.plain_annotations.specs.Plain.{Place, takes, is_chain, reads_variable, node_fits, is_plain, are_plain}
use Rattle.plain_annotations.specs.Views.{IsInteger, Serves}
use Rattle.plain_annotations.proofs.Integers.{on_number, on_formula, on_numbers, on_formulas, converted_integer, either_integer, lengths, kid_first, kid_second, kid_third, fewer_two, fewer_three, one_there, called_there, held_integer, read_integer, ends_there, quantified_integer, named_serves, in_label, moved_serves, chain_there, AllInteger, NamesServe}

-- ---- trees

module _ (p : Place) where
  abbrev Says : Tree → Type 0
  Says t = (r : Reading) (ns : Names) (i d : ℕ) → Serves p r → NamesServe d ns → is_plain p d t ≡ true → IsInteger (encoded r ns i d t)

  pub read_tree : (k : _) (l : Option Label) (ks : Trees) → (r : Reading) (ns : Names) (i d : ℕ) → Serves p r → reads_variable p.variables ks ≡ true
      → IsInteger (encoded r ns i d (node (h.Read (content.Integer k) l) ks))
  read_tree k l stop r ns i d s e = absurd (false≢true e)
  read_tree k l (more (node (h.Variable x) us) ts) r ns i d s e =
      read_integer k (seen_in l r) x (r.here.variable x) (s.here.variables x e) (held_integer k ((seen_in l r).variable x) ((in_label p r s l).variables x e))
  read_tree k l (more (node (h.Number z) us) ts) r ns i d s e = absurd (false≢true e)
  read_tree k l (more (node h.Null us) ts) r ns i d s e = absurd (false≢true e)
  read_tree k l (more (node (h.Name x) us) ts) r ns i d s e = absurd (false≢true e)
  read_tree k l (more (node (h.Call f) us) ts) r ns i d s e = absurd (false≢true e)
  read_tree k l (more (node h.Result us) ts) r ns i d s e = absurd (false≢true e)
  read_tree k l (more (node (h.At j) us) ts) r ns i d s e = absurd (false≢true e)
  read_tree k l (more (node h.Pointed us) ts) r ns i d s e = absurd (false≢true e)
  read_tree k l (more (node (h.Field j o) us) ts) r ns i d s e = absurd (false≢true e)
  read_tree k l (more (node (h.Element j c) us) ts) r ns i d s e = absurd (false≢true e)
  read_tree k l (more (node (h.Elements j c) us) ts) r ns i d s e = absurd (false≢true e)
  read_tree k l (more (node (h.Behind j) us) ts) r ns i d s e = absurd (false≢true e)
  read_tree k l (more (node (h.Read c j) us) ts) r ns i d s e = absurd (false≢true e)
  read_tree k l (more (node h.Address us) ts) r ns i d s e = absurd (false≢true e)
  read_tree k l (more (node (h.Moved m j) us) ts) r ns i d s e = absurd (false≢true e)
  read_tree k l (more (node (h.Difference j) us) ts) r ns i d s e = absurd (false≢true e)
  read_tree k l (more (node h.Negate us) ts) r ns i d s e = absurd (false≢true e)
  read_tree k l (more (node h.Complement us) ts) r ns i d s e = absurd (false≢true e)
  read_tree k l (more (node (h.Arithmetic o) us) ts) r ns i d s e = absurd (false≢true e)
  read_tree k l (more (node (h.Convert j) us) ts) r ns i d s e = absurd (false≢true e)
  read_tree k l (more (node (h.Compare c) us) ts) r ns i d s e = absurd (false≢true e)
  read_tree k l (more (node (h.ComparePointers c) us) ts) r ns i d s e = absurd (false≢true e)
  read_tree k l (more (node h.Not us) ts) r ns i d s e = absurd (false≢true e)
  read_tree k l (more (node h.And us) ts) r ns i d s e = absurd (false≢true e)
  read_tree k l (more (node h.Or us) ts) r ns i d s e = absurd (false≢true e)
  read_tree k l (more (node h.Xor us) ts) r ns i d s e = absurd (false≢true e)
  read_tree k l (more (node h.Implies us) ts) r ns i d s e = absurd (false≢true e)
  read_tree k l (more (node h.Iff us) ts) r ns i d s e = absurd (false≢true e)
  read_tree k l (more (node h.Choose us) ts) r ns i d s e = absurd (false≢true e)
  read_tree k l (more (node h.Chain us) ts) r ns i d s e = absurd (false≢true e)
  read_tree k l (more (node (h.Link c) us) ts) r ns i d s e = absurd (false≢true e)
  read_tree k l (more (node (h.LinkPointers c) us) ts) r ns i d s e = absurd (false≢true e)
  read_tree k l (more (node h.Let us) ts) r ns i d s e = absurd (false≢true e)
  read_tree k l (more (node (h.Every g) us) ts) r ns i d s e = absurd (false≢true e)
  read_tree k l (more (node (h.Some g) us) ts) r ns i d s e = absurd (false≢true e)
  read_tree k l (more (node (h.Valid c w) us) ts) r ns i d s e = absurd (false≢true e)
  read_tree k l (more (node h.Separated us) ts) r ns i d s e = absurd (false≢true e)
  read_tree k l (more (node (h.Region c) us) ts) r ns i d s e = absurd (false≢true e)

  called_tree : (f : ℕ) (ks : Trees) (o : Option ℕ) → p.params f ≡ o → (r : Reading) (ns : Names) (i d : ℕ) → Serves p r → takes o ks ≡ true
      → AllInteger (all_encoded r ns i d ks) → IsInteger (encoded r ns i d (node (h.Call f) ks))
  called_tree f ks (Some n) q r ns i d s e a = called_there r (r.called f) n (all_encoded r ns i d ks) (s.here.calls f n q) (lengths n ks r ns i d e) a
  called_tree f ks None q r ns i d s e a = absurd (false≢true e)

  mutual
    pub integer_tree : (t : Tree) → Says t
    integer_tree (node (h.Number z) ks) r ns i d s n e = tt
    integer_tree (node h.Null ks) r ns i d s n e = absurd (false≢true e)
    integer_tree (node (h.Name x) ks) r ns i d s n e = n x (and_parts (nat_lt x d) (are_plain p d false ks) e).0
    integer_tree (node (h.Call f) ks) r ns i d s n e =
        let b = and_parts (takes (p.params f) ks) (are_plain p d false ks) e in
        called_tree f ks (p.params f) refl r ns i d s b.0 (integer_trees ks r ns i d s n b.1)
    integer_tree (node h.Result ks) r ns i d s n e = s.result (and_parts p.has_result (are_plain p d false ks) e).0
    integer_tree (node (h.At l) ks) r ns i d s n e =
        let b = and_parts (node_fits p d (h.At l) ks) (are_plain p d false ks) e in
        kid_first ks (moved_to l r) ns i d b.0 (integer_trees ks (moved_to l r) ns i d (moved_serves p l r s) n b.1)
    integer_tree (node (h.Variable x) ks) r ns i d s n e = absurd (false≢true e)
    integer_tree (node h.Pointed ks) r ns i d s n e = absurd (false≢true e)
    integer_tree (node (h.Field k o) ks) r ns i d s n e = absurd (false≢true e)
    integer_tree (node (h.Element k c) ks) r ns i d s n e = absurd (false≢true e)
    integer_tree (node (h.Elements k c) ks) r ns i d s n e = absurd (false≢true e)
    integer_tree (node (h.Behind k) ks) r ns i d s n e = absurd (false≢true e)
    integer_tree (node (h.Read (content.Integer k) l) ks) r ns i d s n e = read_tree k l ks r ns i d s (and_parts (reads_variable p.variables ks) true e).0
    integer_tree (node (h.Read content.Pointer l) ks) r ns i d s n e = absurd (false≢true e)
    integer_tree (node (h.Read (content.Struct k) l) ks) r ns i d s n e = absurd (false≢true e)
    integer_tree (node h.Address ks) r ns i d s n e = absurd (false≢true e)
    integer_tree (node (h.Moved m k) ks) r ns i d s n e = absurd (false≢true e)
    integer_tree (node (h.Difference k) ks) r ns i d s n e = absurd (false≢true e)
    integer_tree (node h.Negate ks) r ns i d s n e =
        let b = and_parts (node_fits p d h.Negate ks) (are_plain p d false ks) e in
        on_number (encode.first (all_encoded r ns i d ks)) (λ t. encode.unbounded (encode.op_one op.Neg t)) (kid_first ks r ns i d b.0 (integer_trees ks r ns i d s n b.1)) (λ t. tt)
    integer_tree (node h.Complement ks) r ns i d s n e =
        let b = and_parts (node_fits p d h.Complement ks) (are_plain p d false ks) e in
        on_number (encode.first (all_encoded r ns i d ks)) (λ t. encode.unbounded (encode.op_one op.BitNot t)) (kid_first ks r ns i d b.0 (integer_trees ks r ns i d s n b.1)) (λ t. tt)
    integer_tree (node (h.Arithmetic o) ks) r ns i d s n e =
        let b = and_parts (node_fits p d (h.Arithmetic o) ks) (are_plain p d false ks) e in
        let a = integer_trees ks r ns i d s n b.1 in
        on_numbers (encode.first (all_encoded r ns i d ks)) (encode.second (all_encoded r ns i d ks)) (λ t u. encode.unbounded (encode.op_two (encode.op_of o) t u))
        (kid_first ks r ns i d (fewer_two ks b.0) a) (kid_second ks r ns i d b.0 a) (λ t u. tt)
    integer_tree (node (h.Convert k) ks) r ns i d s n e =
        let b = and_parts (node_fits p d (h.Convert k) ks) (are_plain p d false ks) e in
        converted_integer r.common.model k (encode.first (all_encoded r ns i d ks)) (kid_first ks r ns i d b.0 (integer_trees ks r ns i d s n b.1))
    integer_tree (node (h.Compare c) ks) r ns i d s n e =
        let b = and_parts (node_fits p d (h.Compare c) ks) (are_plain p d false ks) e in
        let a = integer_trees ks r ns i d s n b.1 in
        on_numbers (encode.first (all_encoded r ns i d ks)) (encode.second (all_encoded r ns i d ks)) (λ t u. truth (encode.comparison c t u))
        (kid_first ks r ns i d (fewer_two ks b.0) a) (kid_second ks r ns i d b.0 a) (λ t u. tt)
    integer_tree (node (h.ComparePointers c) ks) r ns i d s n e = absurd (false≢true e)
    integer_tree (node h.Not ks) r ns i d s n e =
        let b = and_parts (node_fits p d h.Not ks) (are_plain p d false ks) e in
        on_formula (encode.first (all_encoded r ns i d ks)) (λ f. truth (not_of f)) (kid_first ks r ns i d b.0 (integer_trees ks r ns i d s n b.1)) (λ f. tt)
    integer_tree (node h.And ks) r ns i d s n e =
        let b = and_parts (node_fits p d h.And ks) (are_plain p d false ks) e in
        let a = integer_trees ks r ns i d s n b.1 in
        on_formulas (encode.first (all_encoded r ns i d ks)) (encode.second (all_encoded r ns i d ks)) (λ f g. truth (and_of (f ∷ g ∷ [])))
        (kid_first ks r ns i d (fewer_two ks b.0) a) (kid_second ks r ns i d b.0 a) (λ t u. tt)
    integer_tree (node h.Or ks) r ns i d s n e =
        let b = and_parts (node_fits p d h.Or ks) (are_plain p d false ks) e in
        let a = integer_trees ks r ns i d s n b.1 in
        on_formulas (encode.first (all_encoded r ns i d ks)) (encode.second (all_encoded r ns i d ks)) (λ f g. truth (or_of (f ∷ g ∷ [])))
        (kid_first ks r ns i d (fewer_two ks b.0) a) (kid_second ks r ns i d b.0 a) (λ t u. tt)
    integer_tree (node h.Xor ks) r ns i d s n e =
        let b = and_parts (node_fits p d h.Xor ks) (are_plain p d false ks) e in
        let a = integer_trees ks r ns i d s n b.1 in
        on_formulas (encode.first (all_encoded r ns i d ks)) (encode.second (all_encoded r ns i d ks)) (λ f g. truth (not_of (encode.iff_of f g)))
        (kid_first ks r ns i d (fewer_two ks b.0) a) (kid_second ks r ns i d b.0 a) (λ t u. tt)
    integer_tree (node h.Implies ks) r ns i d s n e =
        let b = and_parts (node_fits p d h.Implies ks) (are_plain p d false ks) e in
        let a = integer_trees ks r ns i d s n b.1 in
        on_formulas (encode.first (all_encoded r ns i d ks)) (encode.second (all_encoded r ns i d ks)) (λ f g. truth (imp_of f g))
        (kid_first ks r ns i d (fewer_two ks b.0) a) (kid_second ks r ns i d b.0 a) (λ t u. tt)
    integer_tree (node h.Iff ks) r ns i d s n e =
        let b = and_parts (node_fits p d h.Iff ks) (are_plain p d false ks) e in
        let a = integer_trees ks r ns i d s n b.1 in
        on_formulas (encode.first (all_encoded r ns i d ks)) (encode.second (all_encoded r ns i d ks)) (λ f g. truth (encode.iff_of f g))
        (kid_first ks r ns i d (fewer_two ks b.0) a) (kid_second ks r ns i d b.0 a) (λ t u. tt)
    integer_tree (node h.Choose ks) r ns i d s n e =
        let b = and_parts (node_fits p d h.Choose ks) (are_plain p d false ks) e in
        let a = integer_trees ks r ns i d s n b.1 in
        on_formula (encode.first (all_encoded r ns i d ks)) (encode.either (encode.second (all_encoded r ns i d ks)) (encode.third (all_encoded r ns i d ks)))
        (kid_first ks r ns i d (fewer_two ks (fewer_three ks b.0)) a)
        (λ c. either_integer (encode.second (all_encoded r ns i d ks)) (encode.third (all_encoded r ns i d ks)) c (kid_second ks r ns i d (fewer_three ks b.0) a) (kid_third ks r ns i d b.0 a))
    integer_tree (node h.Chain ks) r ns i d s n e =
        let b = and_parts (is_chain (heads_of ks)) (are_plain p d false ks) e in
        one_there (λ fs. truth (encode.all_of fs)) (encode.in_chain (heads_of ks) (all_encoded r ns i d ks))
        (chain_there ks r ns i d b.0 (integer_trees ks r ns i d s n b.1)) (λ fs. tt)
    integer_tree (node (h.Link c) ks) r ns i d s n e =
        let b = and_parts (node_fits p d (h.Link c) ks) (are_plain p d false ks) e in
        (kid_first ks r ns i d b.0 (integer_trees ks r ns i d s n b.1))
    integer_tree (node (h.LinkPointers c) ks) r ns i d s n e = absurd (false≢true e)
    integer_tree (node h.Let stop) r ns i d s n e = absurd (false≢true e)
    integer_tree (node h.Let (more t stop)) r ns i d s n e = absurd (false≢true e)
    integer_tree (node h.Let (more t (more u stop))) r ns i d s n e =
        let b = and_parts (is_plain p d t) (are_plain p d true (more u stop)) e in
        let c = and_parts (is_plain p (suc d) u) true b.1 in
        let x = integer_tree t r ns i d s n b.0 in
        integer_tree u r (with_name d (encoded r ns i d t) ns) (i + binders t) (suc d) s (named_serves d (encoded r ns i d t) ns x n) c.0
    integer_tree (node h.Let (more t (more u (more v ts)))) r ns i d s n e = absurd (false≢true e)
    integer_tree (node (h.Every (range.Kind k place)) stop) r ns i d s n e = absurd (false≢true e)
    integer_tree (node (h.Every (range.Kind k place)) (more t stop)) r ns i d s n e =
        let b = and_parts (is_plain p (suc d) t) true e in
        quantified_integer (th.Forall (r.common.binder i)) (encode.ends_of r.common.model (range.Kind k place) (all_encoded r ns (suc i) d (more t stop)))
        (encoded r (with_name d (integer (Some k) (var (r.common.binder i))) ns) (suc i) (suc d) t) tt
        (integer_tree t r (with_name d (integer (Some k) (var (r.common.binder i))) ns) (suc i) (suc d) s
        (named_serves d (integer (Some k) (var (r.common.binder i))) ns tt n) b.0)
    integer_tree (node (h.Every (range.Kind k place)) (more t (more u ts))) r ns i d s n e = absurd (false≢true e)
    integer_tree (node (h.Every (range.Between a z place)) stop) r ns i d s n e = absurd (false≢true e)
    integer_tree (node (h.Every (range.Between a z place)) (more t stop)) r ns i d s n e = absurd (false≢true e)
    integer_tree (node (h.Every (range.Between a z place)) (more t (more u stop))) r ns i d s n e = absurd (false≢true e)
    integer_tree (node (h.Every (range.Between a z place)) (more t (more u (more v stop)))) r ns i d s n e =
        let b = and_parts (is_plain p d t) (are_plain p d true (more u (more v stop))) e in
        let c = and_parts (is_plain p d u) (are_plain p d true (more v stop)) b.1 in
        let f = and_parts (is_plain p (suc d) v) true c.1 in
        let ns' = with_name d (integer None (var (r.common.binder i))) ns in
        let x = integer_tree t r ns (suc i) d s n b.0 in
        let y = integer_tree u r ns (suc i + binders t) d s n c.0 in
        quantified_integer (th.Forall (r.common.binder i)) (encode.ends_of r.common.model (range.Between a z place) (all_encoded r ns (suc i) d (more t (more u (more v stop)))))
        (encoded r ns' ((suc i + binders t) + binders u) (suc d) v)
        (ends_there (λ t u. record { low = encode.low_end a t; high = encode.high_end z u }) (encoded r ns (suc i) d t) (encoded r ns (suc i + binders t) d u) x y)
        (integer_tree v r ns' ((suc i + binders t) + binders u) (suc d) s (named_serves d (integer None (var (r.common.binder i))) ns tt n) f.0)
    integer_tree (node (h.Every (range.Between a z place)) (more t (more u (more v (more y ts))))) r ns i d s n e = absurd (false≢true e)
    integer_tree (node (h.Some (range.Kind k place)) stop) r ns i d s n e = absurd (false≢true e)
    integer_tree (node (h.Some (range.Kind k place)) (more t stop)) r ns i d s n e =
        let b = and_parts (is_plain p (suc d) t) true e in
        quantified_integer (th.Exists (r.common.binder i)) (encode.ends_of r.common.model (range.Kind k place) (all_encoded r ns (suc i) d (more t stop)))
        (encoded r (with_name d (integer (Some k) (var (r.common.binder i))) ns) (suc i) (suc d) t) tt
        (integer_tree t r (with_name d (integer (Some k) (var (r.common.binder i))) ns) (suc i) (suc d) s
        (named_serves d (integer (Some k) (var (r.common.binder i))) ns tt n) b.0)
    integer_tree (node (h.Some (range.Kind k place)) (more t (more u ts))) r ns i d s n e = absurd (false≢true e)
    integer_tree (node (h.Some (range.Between a z place)) stop) r ns i d s n e = absurd (false≢true e)
    integer_tree (node (h.Some (range.Between a z place)) (more t stop)) r ns i d s n e = absurd (false≢true e)
    integer_tree (node (h.Some (range.Between a z place)) (more t (more u stop))) r ns i d s n e = absurd (false≢true e)
    integer_tree (node (h.Some (range.Between a z place)) (more t (more u (more v stop)))) r ns i d s n e =
        let b = and_parts (is_plain p d t) (are_plain p d true (more u (more v stop))) e in
        let c = and_parts (is_plain p d u) (are_plain p d true (more v stop)) b.1 in
        let f = and_parts (is_plain p (suc d) v) true c.1 in
        let ns' = with_name d (integer None (var (r.common.binder i))) ns in
        let x = integer_tree t r ns (suc i) d s n b.0 in
        let y = integer_tree u r ns (suc i + binders t) d s n c.0 in
        quantified_integer (th.Exists (r.common.binder i)) (encode.ends_of r.common.model (range.Between a z place) (all_encoded r ns (suc i) d (more t (more u (more v stop)))))
        (encoded r ns' ((suc i + binders t) + binders u) (suc d) v)
        (ends_there (λ t u. record { low = encode.low_end a t; high = encode.high_end z u }) (encoded r ns (suc i) d t) (encoded r ns (suc i + binders t) d u) x y)
        (integer_tree v r ns' ((suc i + binders t) + binders u) (suc d) s (named_serves d (integer None (var (r.common.binder i))) ns tt n) f.0)
    integer_tree (node (h.Some (range.Between a z place)) (more t (more u (more v (more y ts))))) r ns i d s n e = absurd (false≢true e)
    integer_tree (node (h.Valid c w) ks) r ns i d s n e = absurd (false≢true e)
    integer_tree (node h.Separated ks) r ns i d s n e = absurd (false≢true e)
    integer_tree (node (h.Region c) ks) r ns i d s n e = absurd (false≢true e)

    integer_trees : (ks : Trees) (r : Reading) (ns : Names) (i d : ℕ) → Serves p r → NamesServe d ns → are_plain p d false ks ≡ true
        → AllInteger (all_encoded r ns i d ks)
    integer_trees stop r ns i d s n e = tt
    integer_trees (more t ts) r ns i d s n e =
        let b = and_parts (is_plain p d t) (are_plain p d false ts) e in
        (integer_tree t r ns i d s n b.0, integer_trees ts r ns (i + binders t) d s n b.1)
