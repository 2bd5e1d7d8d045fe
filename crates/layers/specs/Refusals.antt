-- Refusals of a layer in numbers: each case has its number and the node that it names.
use Rattle.std.specs.Prelude.{ℕ, List, ◌++◌, Ok, Err, Result, codes}
use Rattle.std.specs.Fmt.{decimal}
use Rattle.network.specs.Refusals.{NetworkRefusal, no_file, no_node}
use Rattle.layers.specs.declared.fault.LayerFault.{LayerFault}
use Rattle.layers.specs.declared.fault.LayerFault.TheVariants.{NoNode, PriceTooLarge, TooManyBars}

-- 10: a price that is too large
abbrev pub price_too_large : ℕ → NetworkRefusal
price_too_large i = record { number = 10; node = i; below = no_file }

-- 11: one pair too many
abbrev pub too_many_bars : ℕ → NetworkRefusal
too_many_bars i = record { number = 11; node = i; below = no_file }

-- a fault in numbers
abbrev pub layer_refusal : LayerFault → NetworkRefusal
layer_refusal (NoNode i) = no_node i
layer_refusal (PriceTooLarge i) = price_too_large i
layer_refusal (TooManyBars i) = too_many_bars i

-- what a change told its caller, with a fault in numbers
abbrev pub told : {X : Type 0} → Result X LayerFault → Result X NetworkRefusal
told (Ok x) = Ok x
told (Err e) = Err (layer_refusal e)

-- how a refusal is printed: its number and its node
abbrev pub layer_refusal_text : NetworkRefusal → List ℕ
layer_refusal_text r = decimal r.number ++ codes " " ++ decimal r.node
