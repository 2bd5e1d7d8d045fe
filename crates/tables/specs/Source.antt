-- What a source holds, the network that it stands for, and its rows.
use Rattle.std.specs.Prelude.{◌≡◌, ℕ, ◌+◌, ◌<◌, ◌≤◌, List, length}
use Rattle.network.specs.Limits.{most_legs}
use Rattle.network.specs.Meaning.{Net}
use Rattle.network.specs.declared.leg.Leg.{Leg}
use Rattle.tables.specs.declared.record.NodeRecord.{NodeRecord}
use Rattle.tables.specs.declared.source.TableSource.{TableSource}
use Rattle.tables.specs.Tables.{row_start, row_of, table_net}

-- a source reads these tables
pub record Holds (s : TableSource) (nodes : List NodeRecord) (legs : List Leg) (depot sink : ℕ) : Type 0 where
  pub nodes_are : s.nodes.now ≡ nodes
  pub legs_are : s.legs.now ≡ legs
  pub depot_is : s.depot ≡ depot
  pub sink_is : s.sink ≡ sink

-- the network of a source
abbrev pub source_net : TableSource → Net
source_net s = table_net s.nodes.now s.legs.now s.depot s.sink

-- where the row of node i starts among the legs
abbrev pub start_in : TableSource → ℕ → ℕ
start_in s i = row_start s.nodes.now s.legs.now i

-- the row of node i is the legs from `start` to before `end`
pub record IsSpan (s : TableSource) (i start end : ℕ) : Type 0 where
  pub starts : start ≡ start_in s i
  pub ends : end ≡ start_in s (i + 1)
  pub rises : start ≤ end
  pub within : end ≤ length s.legs.now
  pub few : length s.legs.now ≤ most_legs

-- the legs of node i, which is there
pub record IsRow (s : TableSource) (i : ℕ) (row : List Leg) : Type 0 where
  pub node_in : i < length s.nodes.now
  pub legs_are : row ≡ row_of s.nodes.now s.legs.now i
  pub few : length row ≤ most_legs
