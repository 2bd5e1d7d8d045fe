-- What is certain of a leg that is there.
use Rattle.std.proofs.Common.{◌≡◌, ℕ, ◌<◌, Some, Ok}
use Rattle.std.specs.List.{slice_get}
use Rattle.std.proofs.lemmas.Option.{slice_get_within, get_or_from_slice_get}
use Rattle.network.specs.Meaning.{Net, legs_at, no_leg}
use Rattle.network.specs.Lawful.{Lawful, LawfulLeg}
use Rattle.network.specs.Answers.{leg_answer}
use Rattle.network.specs.declared.leg.Leg.{Leg}
use Rattle.network.proofs.Legs.{leg_tells}
use Rattle.labels.specs.Steps.{LawfulStep}
use Rattle.labels.specs.Bounds.{lawful_step}
use Rattle.paths.specs.Paths.{step_of}

-- a leg that a lawful network gave
pub told_lawful : (N : Net) → Lawful N → (i k : ℕ) (g : Leg) → Ok g ≡ leg_answer N i k → LawfulLeg N.n N.reach g
told_lawful N law i k g e =
    let t = leg_tells N i k g e in
    rw t.2 (law.rows i t.0 k t.1)

-- a leg that stands in one, and the step along it
pub leg_lawful : (N : Net) → Lawful N → (i : ℕ) → i < N.n → (k : ℕ) (g : Leg) → slice_get (legs_at N i) k ≡ Some g → LawfulLeg N.n N.reach g
leg_lawful N law i h k g e =
    rw (← get_or_from_slice_get (legs_at N i) k g no_leg e) (law.rows i h k (slice_get_within (legs_at N i) k g e))

pub step_lawful : (N : Net) → Lawful N → (i : ℕ) → i < N.n → (k : ℕ) (g : Leg) → slice_get (legs_at N i) k ≡ Some g → LawfulStep (step_of N g)
step_lawful N law i h k g e =
    let w = leg_lawful N law i h k g e in
    lawful_step N.n N.reach g (N.window g.head) law.near w (law.windows g.head w.head_in)
