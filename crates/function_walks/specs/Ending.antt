-- What is asked where a function was entered and where it returns, as checks that are written in a state.
use Rattle.std.specs.Prelude.{Bool, true, false, List, map, filter}
use Rattle.c_runs.specs.Program.{Together}
use Rattle.c_runs.specs.Claims.{says_complete, says_disjoint}
use Rattle.walk_steps.specs.Forms.{Slots, Check}
use Rattle.walk_frames.specs.Asked.{Written, written_check}

abbrev pub written_checks : List Slots → List Check → List Written
written_checks ss cs = map (written_check ss) cs

-- that one of the behaviors is there, or that no two of them are
abbrev pub says : (is_complete : Bool) → Together → Bool
says true t = says_complete t
says false t = says_disjoint t

-- those that say so
abbrev pub saying : (is_complete : Bool) → List Together → List Together
saying true ts = filter says_complete ts
saying false ts = filter says_disjoint ts
