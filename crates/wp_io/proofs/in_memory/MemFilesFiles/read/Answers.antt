use Rattle.wp_io.proofs.Steps.{reads_piece}
use Rattle.wp_io.proofs.in_memory.MemFilesFiles.read.Goals as goal

pub returns-clause-bytes : goal.returns-clause-bytes
returns-clause-bytes c =
    let files = c.args.self.now in
    let copied = c.copy_piece-count.ensures in
    reads_piece files.texts files.current files.at c.copy_piece-count.result files.piece c.rest.result.now c.copy_piece-count.new.into c.rest.ensures.rest files.gives copied.count copied.bytes
