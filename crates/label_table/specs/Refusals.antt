-- Why a run refuses, in numbers: each case has its number and its values. A part that a refusal has no place for is 0.
use Rattle.std.specs.Prelude.{ℕ, Ok, Err, Result}
use Rattle.network.specs.Refusals.{NetworkRefusal, network_refusal, no_file}
use Rattle.label_table.specs.declared.fault.Cause.{Cause}
use Rattle.label_table.specs.declared.fault.Cause.TheVariants.{Network, AgendaFull, WrongTable, AgendaUnready, Stopped, NoEntry, TableFull, NotIdle, ShortBuffer}
use Rattle.label_table.specs.declared.fault.RunFault.{RunFault}

-- of a run: the number, the entry taken or named, and the refusal of the network below, whole
pub record RunRefusal : Type 0 where
  pub number : ℕ
  pub entry : ℕ
  pub below : NetworkRefusal

abbrev pub no_network : NetworkRefusal
no_network = record { number = 0; node = 0; below = no_file }

-- a refusal of the run's own, and one of the network
abbrev pub refused : ℕ → ℕ → RunRefusal
refused number m = record { number = number; entry = m; below = no_network }

abbrev pub net_refused : ℕ → NetworkRefusal → RunRefusal
net_refused m f = record { number = f.number; entry = m; below = f }

abbrev pub cause_refusal : Cause → ℕ → RunRefusal
cause_refusal (Network f) m = net_refused m (network_refusal f)
cause_refusal AgendaFull m = refused 12 m
cause_refusal WrongTable m = refused 13 m
cause_refusal AgendaUnready m = refused 14 m
cause_refusal Stopped m = refused 15 m
cause_refusal NoEntry m = refused 16 m
cause_refusal TableFull m = refused 17 m
cause_refusal NotIdle m = refused 18 m
cause_refusal ShortBuffer m = refused 19 m

abbrev pub cause_number : Cause → ℕ
cause_number c = (cause_refusal c 0).number

abbrev pub fault_at : Cause → ℕ → RunFault
fault_at c m = record { entry = m; cause = c }

abbrev pub run_refusal : RunFault → RunRefusal
run_refusal f = cause_refusal f.cause f.entry

-- what a call told its caller, with a fault in numbers
abbrev pub told_run : {X : Type 0} → Result X RunFault → Result X RunRefusal
told_run (Ok x) = Ok x
told_run (Err f) = Err (run_refusal f)
