-- The reason of a frame that is decoded under a limit, and that it is `Clean` for the clean frames and for no other.
use Rattle.std.specs.Prelude.{◌≡◌, true, ℕ, List, Float}
use Rattle.rounds.specs.Rounds.{chosen}
use Rattle.batch.specs.Codes.{decode_of}
use Rattle.clean_frames.specs.Limits.{clean_under}
use Rattle.first_reason.specs.declared.Reason.{Reason}
use Rattle.first_reason.specs.declared.Reason.TheVariants as reason
use Rattle.first_reason.specs.Reasons.{reason_for}

-- of a frame's values and the word that its decode chooses under a limit
unfoldable pub reason_under : ℕ → ℕ → Float → List Float → ℕ → Reason
reason_under code rule scale values limit = reason_for code values (chosen (decode_of code rule scale values) limit)

-- "`clean` appears only for a clean frame", and for each
pub record CleanExactly (code rule : ℕ) (scale : Float) (values : List Float) (limit : ℕ) : Type 0 where
  pub only : reason_under code rule scale values limit ≡ reason.Clean → clean_under code rule scale values limit ≡ true
  pub each : clean_under code rule scale values limit ≡ true → reason_under code rule scale values limit ≡ reason.Clean
