use Rattle.parse_decls.proofs.Laws.{linkage_sound, linkage_complete}
use Rattle.parse_decls.proofs.exact.linkage_is_exact.Goals as goal

pub returns : goal.returns
returns c = record { sound = linkage_sound; complete = linkage_complete }
