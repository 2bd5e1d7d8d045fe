-- Faults in numbers: each case has its number and its values. A part that a refusal has no place for is 0.
use Rattle.std.specs.Prelude.{ℕ, List, ◌++◌, Some, None, Ok, Err, Option, Result, codes}
use Rattle.std.specs.Fmt.{decimal}
use Rattle.network.specs.declared.fault.FilePart.{FilePart}
use Rattle.network.specs.declared.fault.FilePart.TheVariants.{Size, Check, Frame, Header, NodeTable, LegTable}
use Rattle.network.specs.declared.fault.FileFault.{FileFault}
use Rattle.network.specs.declared.fault.NetworkFault.{NetworkFault}
use Rattle.network.specs.declared.fault.NetworkFault.TheVariants.{NoNode, NoLeg, UnreadableRow}

-- of a file: the number, and where the fault lies
pub record FileRefusal : Type 0 where
  pub number : ℕ
  pub block : ℕ
  pub byte : ℕ

-- of a network: the number, the node asked about, and the refusal of the file below, whole
pub record NetworkRefusal : Type 0 where
  pub number : ℕ
  pub node : ℕ
  pub below : FileRefusal

abbrev pub part_number : FilePart → ℕ
part_number Size = 1
part_number Check = 2
part_number Frame = 3
part_number Header = 4
part_number NodeTable = 5
part_number LegTable = 6

abbrev pub fault : FilePart → ℕ → ℕ → FileFault
fault part b k = record { part = part; block = b; byte = k }

abbrev pub file_refusal : FileFault → FileRefusal
file_refusal f = record { number = part_number f.part; block = f.block; byte = f.byte }

-- how a refusal of a file is printed: its number, the block and the byte
abbrev pub file_refusal_text : FileRefusal → List ℕ
file_refusal_text r = decimal r.number ++ codes " " ++ decimal r.block ++ codes " " ++ decimal r.byte

abbrev pub no_file : FileRefusal
no_file = record { number = 0; block = 0; byte = 0 }

-- 7: no such node; 8: no such leg; 9: a row that cannot be read
abbrev pub no_node : ℕ → NetworkRefusal
no_node i = record { number = 7; node = i; below = no_file }

abbrev pub no_such_leg : ℕ → NetworkRefusal
no_such_leg i = record { number = 8; node = i; below = no_file }

abbrev pub unreadable : ℕ → FileFault → NetworkRefusal
unreadable i f = record { number = 9; node = i; below = file_refusal f }

abbrev pub network_refusal : NetworkFault → NetworkRefusal
network_refusal (NoNode i) = no_node i
network_refusal (NoLeg i) = no_such_leg i
network_refusal (UnreadableRow i f) = unreadable i f

-- what a call told its caller, with a fault in numbers
abbrev pub told_file : {X : Type 0} → Result X FileFault → Result X FileRefusal
told_file (Ok x) = Ok x
told_file (Err e) = Err (file_refusal e)

-- what judging a file tells: nothing where nothing is wrong, else the first fault
abbrev pub verdict : Option FileFault → Result (Unit {0}) FileRefusal
verdict None = Ok tt
verdict (Some f) = Err (file_refusal f)

abbrev pub told : {X : Type 0} → Result X NetworkFault → Result X NetworkRefusal
told (Ok x) = Ok x
told (Err e) = Err (network_refusal e)
