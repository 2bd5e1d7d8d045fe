-- The records of nodes.
use Rattle.std.specs.Prelude.{ℕ, List}
use Rattle.image_format.specs.Layout.{node_record}
use Rattle.image_format.specs.Decode.{node_in_record}
use Rattle.image_format.specs.declared.records.NodeRecord.{NodeRecord}

-- what the record of node i holds
abbrev pub node_at : List ℕ → ℕ → NodeRecord
node_at image i = node_in_record (node_record image i)
