-- The rows at unequal integers and at offsets.
use Rattle.std.proofs.Common.{◌≡◌, Bool, true, false, cond}
use Rattle.std.specs.Prelude.{List, [], ◌∷◌}
use Rattle.qed_terms.specs.declared.head.Head.TheVariants as h
use Rattle.qed_terms.specs.declared.head.FormOp.TheVariants as form
use Rattle.qed_terms.specs.Meaning.{World, Values, truth, value}
use Rattle.qed_terms.specs.Tree.{Tree, node, stop, more, not_of}
use Rattle.branches.specs.Branch.{AreTrue}
use Rattle.instance_rows.specs.Rows.{order_of_sides, order_of_unequal}
use Rattle.instance_rows.specs.Accesses.{Load}
use Rattle.instance_rows.specs.Candidates.{may_meet, meeting, meetings_with, offset_candidates}
use Rattle.instance_rows.specs.Laws.{RowFollows, OffsetsAreOrdered}
use Rattle.instance_rows.proofs.Tests.{ordered, ordered_apart}
use Rattle.instance_rows.proofs.Below.{Below}
use Rattle.instance_rows.proofs.Foralls.{CandidatesTrue, candidates_append}

sides_true : (w : World) (env : Values) (f : Tree) → truth w env (not_of f) ≡ true → AreTrue w env (order_of_sides f)
sides_true w env (node (h.Form form.Equal) (more t (more u stop))) e = (ordered_apart (value w env t) (value w env u) e, tt)
sides_true w env f e = tt

pub unequal_follows : (w : World) → RowFollows w order_of_unequal
unequal_follows w h.Not (more f stop) env e = sides_true w env f e
unequal_follows w head ts env e = tt

pub offsets_valid : OffsetsAreOrdered
offsets_valid w env o p = ordered (value w env o) (value w env p)

module _ (below : Below) (w : World) (env : Values) where
  meetings_true : (l : Load) (ks : List Load) → CandidatesTrue below w env (meetings_with l ks)
  meetings_true l [] = tt
  meetings_true l (k ∷ ks) = go (may_meet l k) (meetings_true l ks)
    where
      go : (b : Bool) → CandidatesTrue below w env (meetings_with l ks) → CandidatesTrue below w env (cond b (meeting l k ∷ meetings_with l ks) (meetings_with l ks))
      go true r = (offsets_valid w env (l.offset) (k.offset), r)
      go false r = r

  pub loads_true : (ls : List Load) → CandidatesTrue below w env (offset_candidates ls)
  loads_true [] = tt
  loads_true (l ∷ ls) = candidates_append below w env (meetings_with l ls) (offset_candidates ls) (meetings_true l ls) (loads_true ls)
