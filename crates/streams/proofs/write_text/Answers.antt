-- What a write took is what comes next of the text; a write that failed took nothing.
use Rattle.std.proofs.Common.{◌≡◌, ℕ, ◌-◌, List, ◌++◌, length, take, drop, append_assoc}
use Rattle.std.proofs.lemmas.List.{take_rest, take-append-drop}
use Rattle.std.proofs.KnownBytes.{Appends-trans}
use Rattle.streams.proofs.write_text.Goals as goal

further : (text done rest : List ℕ) (n : ℕ) → text ≡ done ++ rest → text ≡ (done ++ take n rest) ++ take (length rest - n) (drop n rest)
further text done rest n e = rw (take_rest rest n, append_assoc, take-append-drop) e

pub loop-rest-preserved-in-Ok : goal.loop-rest-preserved-in-Ok
loop-rest-preserved-in-Ok g c =
    let was = c.loop-rest.invariant in
    let rest = c.loop-rest.rest.now in
    (was.0 ++ take c.in-Ok.more rest, further _ _ rest c.in-Ok.more was.1, Appends-trans _ _ _ _ _ was.2 c.in-Ok.ensures.bytes)
