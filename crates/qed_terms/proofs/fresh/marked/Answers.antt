use Rattle.std.proofs.Common.{[], ◌∷◌, ◌++◌, ◌∙◌, ap}
use Rattle.qed_terms.specs.Fresh.{fresh_name}
use Rattle.qed_terms.proofs.Colons.{parts, rest_all}
use Rattle.qed_terms.proofs.fresh.marked.Goals as goal

pub returns : goal.returns
returns c =
    let name = c.in_ok-push.ensures.items ∙ ap (λ xs. xs ++ 35 ∷ []) c.in_ok-name.ensures.items in
    let numbered = c.in_ok-extend_from_slice.ensures.items ∙ ap (λ xs. xs ++ c.as_bytes.result.now) name in
    let rest = rest_all c.bytes-bytes.result.now c.colon_place-colon.result in
    let whole = c.from_vec.ensures ∙ c.in_ok-extend_from_slice-2.ensures.items ∙ (λ i. numbered i ++ rest i) in
    whole ∙ parts c.bytes-bytes.result.now c.as_bytes.result.now c.colon_place-colon.result c.args.number c.colon_place-colon.ensures.place c.requires c.ranges.number.fits (c.as_bytes.ensures.value ∙ c.format.ensures.text)
    ∙ ap (λ base. fresh_name base c.args.number) c.bytes-bytes.ensures
