use Rattle.std.proofs.Common.{[], ◌∷◌, ◌++◌, ◌∙◌, ap}
use Rattle.changed_branches.proofs.Numbered.{spelled}
use Rattle.changed_branches.proofs.new_names.numbered.Goals as goal

pub returns : goal.returns
returns c =
    c.from_vec.ensures ∙ c.in_ok-extend_from_slice-2.ensures.items ∙ ap (λ xs. xs ++ c.as_bytes.result.now) (c.in_ok-extend_from_slice.ensures.items ∙ ap (λ xs. xs ++ 115 ∷ 107 ∷ []) c.new-bytes.ensures.items)
    ∙ spelled c.as_bytes.result.now c.args.number c.requires c.ranges.number.fits (c.as_bytes.ensures.value ∙ c.format.ensures.text)
