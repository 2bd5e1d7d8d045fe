use Rattle.blocks.specs.Over.{over}
use Rattle.image_format.proofs.records.NodeRecord.bytes.Goals as goal

pub returns : goal.returns
unfolding over
returns c = rw (c.put32-3.ensures, c.put32-2.ensures, c.put32.ensures)
