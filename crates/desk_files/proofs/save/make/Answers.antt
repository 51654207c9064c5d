-- `save::make` meets its contract. Assumes nothing.
use Rattle.desk_files.proofs.DeskLaws.{said_on}
use Rattle.desk_files.proofs.save.make.Goals as goal

pub returns : goal.returns
returns g c = said_on c.write-written.ensures (c.keep.ensures c.args.file.now)
