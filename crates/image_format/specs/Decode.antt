-- The network that an image means.
use Rattle.std.specs.Prelude.{ℕ, ◌+◌, ◌-◌, ◌/◌, cond, List, Some, None, Option, nat_lt}
use Rattle.network.specs.First.{first_of}
use Rattle.network.specs.Meaning.{Net, Row, legs_row, unreadable_row}
use Rattle.network.specs.Rows.{legs_from}
use Rattle.network.specs.declared.fault.FileFault.{FileFault}
use Rattle.network.specs.declared.leg.Leg.{Leg}
use Rattle.network.specs.declared.leg.Window.{Window}
use Rattle.blocks.specs.Numbers.{u16_at, u32_at, i32_at}
use Rattle.blocks.specs.Tables.{blocks_for}
use Rattle.image_format.specs.declared.records.NodeRecord.{NodeRecord}
use Rattle.image_format.specs.Layout.{nodes_in, depot_in_image, sink_in_image, node_record, start, leg_record, most_cost}
use Rattle.image_format.specs.Judge.{leg_block_fault_at}

-- what a record holds
abbrev pub window_in : List ℕ → Window
window_in t = record { opens = u32_at t 0; closes = u32_at t 4 }

abbrev pub node_in_record : List ℕ → NodeRecord
node_in_record t = record { window = window_in t; first_leg = u32_at t 8 }

abbrev pub leg_in_record : List ℕ → Leg
leg_in_record t = record { head = u16_at t 0; duration = u32_at t 4; cost = i32_at t 8 }

-- leg j of the image
abbrev pub leg_at : List ℕ → ℕ → Leg
leg_at image j = leg_in_record (leg_record image j)

-- how many leg blocks hold the legs `from` to before `to`, and the fault of the first unsound one of them
abbrev pub blocks_over : ℕ → ℕ → ℕ
blocks_over from to = cond (nat_lt from to) (blocks_for 42 to - from / 42) 0

unfoldable pub span_fault : List ℕ → ℕ → ℕ → Option FileFault
span_fault image from to = first_of (λ k. leg_block_fault_at image (from / 42 + k)) (blocks_over from to)

-- a row can be read where every leg block that holds a leg of it is sound
abbrev pub row_by : Option FileFault → List Leg → Row
row_by None ls = legs_row ls
row_by (Some f) ls = unreadable_row f

abbrev pub row_span : List ℕ → ℕ → ℕ → Row
row_span image from to = row_by (span_fault image from to) (legs_from (leg_at image) from to)

abbrev pub image_net : List ℕ → Net
image_net image = record {
  n = nodes_in image;
  depot = depot_in_image image;
  sink = sink_in_image image;
  window = λ i. window_in (node_record image i);
  row = λ i. row_span image (start image i) (start image (i + 1));
  reach = most_cost;
}
