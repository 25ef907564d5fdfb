use Rattle.std.proofs.Common.{◌≡◌, ◌++◌, ◌∷◌, [], length, arith, ap, refl, ◌∙◌}
use Rattle.acsl_definitions.specs.Definitions as spec
use Rattle.acsl_definitions.proofs.Last.{last_written, some_last}
use Rattle.acsl_definitions.proofs.definitions.finish.Goals.{then-count-gt0, else-count-gt0}
use Rattle.acsl_definitions.proofs.definitions.finish.Goals as goal

pub returns : goal.returns
returns c before name last is =
    let read = spec.once_read c.args.weight c.args.is_recursive in
    let items = c.into_vec-items.result.items in
    let whole : items ≡ before.items ++ last ∷ [] = c.into_vec-items.ensures ∙ c.replace.ensures.value ∙ ap (λ ds. ds.items) is in
    let count : c.len-count.result ≡ length items = omega (arith, c.into_vec-items.result.ok.0, c.len-count.ensures) in
    let written : c.from_vec.result ≡ before.items ++ read last ∷ [] = elim c.if-count-gt0.branch [
      | then-count-gt0 w ↦
          c.from_vec.ensures ∙ ap (λ v. v.items) w.items-is
          ∙ last_written read items before.items c.len-count.result w.index_mut-last.result.now _ last count w.index_mut-last.ensures.value refl whole
      | else-count-gt0 w ↦ absurd (some_last items before.items c.len-count.result last count w.if-count-gt0.false whole)
    ] in
    rw (ap (λ ds. ds.names) is, written) refl
