-- The work area that a decode is lent (document 01).
use Rattle.std.specs.Prelude.{List, ◌++◌, Float, drop, replicate}
use Rattle.softmath.specs.Single.{zero32}

-- the work area after an accepted call: "its first 3,070 are +0.0 and the rest are unchanged"
unfoldable pub cleared : List Float → List Float
cleared work = replicate 3070 zero32 ++ drop 3070 work
