-- "a lent list of pair records, each an offset and a length": the pairs that the records are.
use Rattle.std.specs.Prelude.{List, map}
use Rattle.batch_refusals.specs.Pairs as named
use Rattle.record_check.specs.declared.Pair.{Pair}

abbrev pub pair_of : Pair → named.Pair
pair_of p = named.pair p.offset p.length

abbrev pub pairs_of : List Pair → List named.Pair
pairs_of ps = map pair_of ps
