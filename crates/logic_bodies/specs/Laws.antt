-- Bodies that pass the test come to what they are encoded as.
use Rattle.std.specs.Prelude.{◌≡◌, true, []}
use Rattle.acsl_trees.specs.Tree.{Tree}
use Rattle.c_runs.specs.Program.{Facts}
use Rattle.acsl_encode.specs.Readings.{Called}
use Rattle.acsl_encode.specs.Encode.{as_integer}
use Rattle.acsl_encode.specs.Setting.{Known, names_of, body_term}
use Rattle.logic_trees.specs.Told.{shared, is_simple}
use Rattle.logic_bodies.specs.Bodies.{reading_with, body_terms}

-- of a function that is given no memories
abbrev pub BodiesAreEncoded : Type 0
BodiesAreEncoded =
    (p : Facts) (known : Known) (c : Called) (t : Tree) → c.memories ≡ [] → is_simple t ≡ true
    → body_term (shared p) known c t ≡ as_integer (body_terms (reading_with (shared p) known c.globals) (names_of c.params) t)
