-- Where a row stands among the legs, or why it is refused.
use Rattle.std.specs.Prelude.{◌≡◌, ℕ, ◌+◌, ◌<◌, ◌≤◌, List, None, Err}
use Rattle.network.specs.Answers.{length_answer, leg_answer}
use Rattle.network.specs.Limits.{most_legs}
use Rattle.network.specs.Refusals.{NetworkRefusal}
use Rattle.image_format.specs.Layout.{nodes_in, legs_in, start}
use Rattle.image_format.specs.Decode.{span_fault, image_net}

-- the row of node i, which is there and can be read, is the legs with the numbers `from` to before `to`
pub record IsSpan (image : List ℕ) (i from to : ℕ) : Type 0 where
  pub node_in : i < nodes_in image
  pub readable : span_fault image (start image i) (start image (i + 1)) ≡ None
  pub starts : from ≡ start image i
  pub ends : to ≡ start image (i + 1)
  pub rises : from ≤ to
  pub within : to ≤ legs_in image
  pub few : legs_in image ≤ most_legs

-- the questions about the row of node i are refused with r
pub record IsRefused (image : List ℕ) (i : ℕ) (r : NetworkRefusal) : Type 0 where
  pub length : Err r ≡ length_answer (image_net image) i
  pub leg : (k : ℕ) → Err r ≡ leg_answer (image_net image) i k
