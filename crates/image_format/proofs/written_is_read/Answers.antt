use Rattle.image_format.proofs.Back.{written_is_read_lem}
use Rattle.image_format.proofs.written_is_read.Goals as goal

pub returns : goal.returns
returns c = written_is_read_lem
