-- Answers known beforehand, computed.
use mathlib.Core.Path.{◌≡◌, refl}
use Rattle.refusal.specs.Outcome.{judged, refused, accepted}
use Rattle.figures.specs.Fraction.{gcd_within, gcd, lowest}
use Rattle.figures.specs.Totals.{join_refusals, sums, nothing_yet}
use Rattle.figures.specs.declared.Totals.{Totals}

fractions : (lowest 6
    4 ≡ record { over = 3; under = 2 }) × ((lowest 0 7 ≡ record { over = 0; under = 1 }) × (lowest 18446744073709551615
    4294967295 ≡ record { over = 4294967297; under = 1 }))
unfolding lowest gcd gcd_within
fractions = (refl, (refl, refl))

all_frames : Totals
all_frames = record { frames = 4294967295; clean = 7; counts = 18446744073709551615; rounds = 0 }

one_more : Totals
one_more = record { frames = 1; clean = 0; counts = 0; rounds = 0 }

-- the limits can be reached, and no sum can pass them
limits : (judged (join_refusals all_frames nothing_yet) (sums all_frames nothing_yet) ≡ accepted all_frames) × (judged (join_refusals all_frames one_more)
    (sums all_frames one_more) ≡ refused 14)
unfolding all_frames one_more
limits = (refl, refl)
