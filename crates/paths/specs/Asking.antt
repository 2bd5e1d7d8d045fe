-- What is told of a leg with the window of its head.
use Rattle.std.specs.Prelude.{ℕ, Result}
use Rattle.std.specs.Result.{result_map_both}
use Rattle.network.specs.Meaning.{Net}
use Rattle.network.specs.Answers.{leg_answer}
use Rattle.network.specs.Refusals.{NetworkRefusal}
use Rattle.labels.specs.declared.step.Step.{Step}
use Rattle.paths.specs.Paths.{step_of}

-- leg k of node i: refused as the question for the leg is
abbrev pub step_answer : Net → ℕ → ℕ → Result Step NetworkRefusal
step_answer N i k = result_map_both (step_of N) (λ f. f) (leg_answer N i k)
