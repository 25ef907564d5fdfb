use Rattle.std.proofs.Common.{◌≡◌, map, take}
use Rattle.same_terms.specs.Written.{written_part}
use Rattle.equality_variables.specs.Forms.{part_of, PartsHeld}
use Rattle.equality_variables.proofs.forms.front_parts.Given as goal

abbrev pub invariant-loop-i : goal.invariant-loop-i
invariant-loop-i g l =
    let tree = g.S.TermStore.tree l.store in
    record { parts : map (part_of tree) l.parts.items ≡ map written_part (map tree (take l.i l.terms)); held : PartsHeld (g.S.TermStore.held l.store) l.parts.items }
