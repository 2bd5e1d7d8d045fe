use Rattle.std.proofs.Common.{◌≡◌, ◌<◌, false, length, take}
use Rattle.std.specs.List.{list_any}
use Rattle.label_table.specs.Rows.{stands_over}
use Rattle.label_table.specs.Considering.{EntersMore, along_row}
use Rattle.label_table.proofs.Weighing.{Left}
use Rattle.label_table.proofs.table.LabelTable.consider.Given as goal

abbrev pub invariant-legs : goal.invariant-legs
invariant-legs g l =
    let N = g.N.Network.meaning l.net in
    let room = g.A.Agenda.limit l.fn.agenda in
    let bag = g.A.Agenda.bag l.fn.agenda in
    let bag' = g.A.Agenda.bag l.agenda in
    record {
      rest : Left N g.L.Label.kind room l.from l.fn.legs.end l.k-iterator.start l.self.entered (length bag') l.self.rows.now (along_row N g.L.Label.kind room l.from l.fn.legs.start l.fn.legs.end l.fn.self.entered (length bag) l.fn.self.rows.now);
      end : l.k-iterator.end ≡ l.fn.legs.end;
      more : EntersMore l.fn.self l.self bag bag';
      keeps : g.A.Agenda.limit l.agenda ≡ room;
    }

abbrev pub invariant-rows : goal.invariant-rows
invariant-rows g l = record {
  room : l.at < l.len;
  none : list_any (stands_over g.L.Label.kind l.new.node l.new.label) (take l.at l.row-items) ≡ false;
}
