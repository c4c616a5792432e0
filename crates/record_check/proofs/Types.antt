-- What stands past the end of the records. Assumes nothing.
use Rattle.record_check.specs.declared.Pair.{Pair}

abbrev pub none : Pair
none = record { offset = 0; length = 0 }
