-- Of a frame decoded under a limit: its reason holds and no earlier one does, and it is `Clean` exactly for a clean frame. Assumes nothing.
use mathlib.Core.Path.{◌≡◌, sym, ◌∙◌}
use Prim.Native.Nat.{ℕ}
use mathlib.Core.List.{List}
use lib.Ieee.{Float}
use lib.ListN.{take}
use Rattle.tanner.specs.Checks.{Word, count}
use Rattle.rules.specs.Rules.{rule_of}
use Rattle.rounds.specs.Rounds.{chosen, chosen_count, chosen_bits}
use Rattle.batch.specs.Codes.{size_k, decode_of}
use Rattle.clean.specs.Clean.{frame_clean}
use Rattle.clean_frames.specs.Limits.{clean_under}
use Rattle.numbered.specs.Codes.{checks_by}
use Rattle.first_reason.specs.Holds.{Holds}
use Rattle.first_reason.proofs.Holds.{reason-holds, clean-only, clean-each}
use Rattle.reason.specs.Under.{reason_under, CleanExactly}
use Rattle.reason.proofs.Word.{checks_are}

module _ (code rule : ℕ) (scale : Float) (values : List Float) (limit : ℕ) where
  abbrev word : Word
  word = chosen (decode_of code rule scale values) limit

  -- "the printed reason holds of that frame", and "each earlier one doesn't"
  pub under-holds : Holds code values word (reason_under code rule scale values limit)
  unfolding reason_under
  under-holds = reason-holds code values word

  same-clean : clean_under code rule scale values limit ≡ frame_clean code values (count (checks_by code) word) (take (size_k code) word)
  unfolding clean_under chosen_count chosen_bits
  same-clean = rw (checks_are code (rule_of code rule scale) values)

  -- "`clean` appears only for a clean frame", and for each
  pub clean-exactly : CleanExactly code rule scale values limit
  unfolding reason_under
  clean-exactly = record { only = λ e. same-clean ∙ clean-only code values word e; each = λ h. clean-each code values word (sym same-clean ∙ h) }
