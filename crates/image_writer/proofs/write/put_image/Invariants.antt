use Rattle.image_format.specs.Encode.{node_bytes_at, leg_bytes_at}
use Rattle.image_writer.proofs.write.put_image.Given as goal

abbrev pub ghost-put : goal.ghost-put
ghost-put g a = node_bytes_at (g.N.Network.meaning a.records.net.now)

abbrev pub ghost-put-2 : goal.ghost-put-2
ghost-put-2 g a = leg_bytes_at (g.N.Network.meaning a.records.net.now)
