use Rattle.std.proofs.Common.{[], ◌∷◌, ◌++◌, ◌∙◌, ap, sym}
use Rattle.slot_names.proofs.Pairs.{numbered}
use Rattle.slot_names.proofs.bases.temporary_name.Goals as goal

pub returns : goal.returns
returns c =
    c.from_vec.ensures ∙ c.in_ok-extend_from_slice.ensures.items ∙ (λ i. (c.in_ok-push.ensures.items ∙ ap (λ xs. xs ++ 37 ∷ []) c.new-bytes.ensures.items) i ++ c.as_bytes.result.now)
    ∙ numbered c.args.number c.as_bytes.result.now c.requires c.ranges.number.fits (c.as_bytes.ensures.value ∙ c.format.ensures.text)
