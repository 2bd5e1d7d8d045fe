-- How labels are considered: `held` entries wait in an agenda in which `room` can.
use Rattle.std.specs.Prelude.{◌≡◌, ℕ, ◌+◌, ◌≤◌, cond, ◌&&◌, List, [], ◌∷◌, length, take, drop, Some, None, Ok, Err, Option, Result, nat_le, nat_lt}
use Rattle.std.specs.List.{list_any}
use Rattle.std.specs.Option.{option_map}
use Rattle.network.specs.Meaning.{Net, legs_at}
use Rattle.network.specs.declared.leg.Leg.{Leg}
use Rattle.labels.specs.Kinds.{Kind}
use Rattle.agendas.specs.Bags.{times}
use Rattle.paths.specs.Paths.{step_of}
use Rattle.label_table.specs.declared.table.Departure.{Departure}
use Rattle.label_table.specs.declared.table.LabelTable.{LabelTable}
use Rattle.label_table.specs.declared.row.Row.{Row}
use Rattle.label_table.specs.declared.fault.RunFault.{RunFault}
use Rattle.label_table.specs.Refusals.{RunRefusal, run_refusal, refused}
use Rattle.label_table.specs.Rows.{stands_over, fresh, entering}

-- `more` is `less` with one each of the numbers from e up to before e' more, in any order
pub record Joined (less more : List ℕ) (e e' : ℕ) : Type 0 where
  pub counts : (x : ℕ) → times x more ≡ times x less + cond (nat_le e x && nat_lt x e') 1 0
  pub len : length more + e ≡ length less + e'

-- the same rows are lent still, no entry is gone, and the new entries wait in the agenda
pub record EntersMore {L : Type 0} (old new : LabelTable L) (less more : List ℕ) : Type 0 where
  pub same_reference : new.rows.ghost_name ≡ old.rows.ghost_name
  pub len : length new.rows.now ≡ length old.rows.now
  pub least : old.entered ≤ new.entered
  pub puts : Joined less more old.entered new.entered

-- why no more legs were gone along, in numbers
abbrev pub stop_in : {U : Type 0} → Result U RunFault → Option RunRefusal
stop_in (Ok u) = None
stop_in (Err f) = Some (run_refusal f)

-- what came of a leg: it leads outside, or its label is covered, or it entered
pub data Verdict : Type 0 where
  outside : Verdict
  covered : Verdict
  entered : Verdict

-- how many entries a verdict adds
abbrev pub added : Verdict → ℕ
added outside = 0
added covered = 0
added entered = 1

-- what entering a row told
abbrev pub told_entering : {U : Type 0} → Result U RunFault → Result Verdict RunRefusal
told_entering (Ok u) = Ok entered
told_entering (Err f) = Err (run_refusal f)

module _ {L : Type 0} (K : Kind L) (room : ℕ) where
  -- a row for which there is a place enters as number e: 12 with no room to wait
  abbrev pub placed : (e held : ℕ) → Row L → List (Row L) → Result Verdict RunRefusal × List (Row L)
  placed e held row rows = cond (nat_lt held room) (Ok entered, entering K e row rows) (Err (refused 12 row.parent), rows)

  -- the row is considered: covered by an entry that stands at its node; else 17 with all rows entered; else placed
  abbrev pub considered : (e held : ℕ) → Row L → List (Row L) → Result Verdict RunRefusal × List (Row L)
  considered e held row rows =
      cond (list_any (stands_over K row.node row.label) (take e rows)) (Ok covered, rows)
      (cond (nat_lt e (length rows)) (placed e held row rows) (Err (refused 17 row.parent), rows))

  -- the row, if any, that a leg gives
  abbrev pub weighed : Option (Row L) → (e held : ℕ) → List (Row L) → Result Verdict RunRefusal × List (Row L)
  weighed None e held rows = (Ok outside, rows)
  weighed (Some row) e held rows = considered e held row rows

module _ {L : Type 0} (N : Net) (K : Kind L) where
  -- the row that a leg gives, the k-th of its node
  abbrev pub row_along : Departure L → (k : ℕ) → Leg → Option (Row L)
  row_along d k g = option_map (fresh g.head d.entry k) (K.extend d.label (step_of N g))

module _ {L : Type 0} (N : Net) (K : Kind L) (room : ℕ) where
  -- along these legs in order, the first of them its k-th, until one is refused: how many entries there are then, the
  -- refusal, and the rows
  abbrev pub along : Departure L → (k : ℕ) → List Leg → (e held : ℕ) → List (Row L) → ℕ × Option RunRefusal × List (Row L)
  along d k [] e held rows = (e, None, rows)
  along d k (g ∷ gs) e held rows =
      let o = weighed K room (row_along N K d k g) e held rows in
      elim o.0 [ Ok v ↦ along d (k + 1) gs (e + added v) (held + added v) o.1 | Err f ↦ (e, Some f, o.1) ]

  -- along the legs of its node from the k-th up to before end
  abbrev pub along_row : Departure L → (k end : ℕ) → (e held : ℕ) → List (Row L) → ℕ × Option RunRefusal × List (Row L)
  along_row d k end e held rows = along d k (drop k (take end (legs_at N d.node))) e held rows
