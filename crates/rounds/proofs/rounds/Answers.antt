-- `rounds::rounds` meets its contract. The invariant: whatever messages the work area held at first, what is kept is of the chosen word so far, the choice
-- from here is the choice among all, and the rounds run with those ahead are all. Assumes nothing.
use mathlib.Core.Path.{◌≡◌, refl, ap, ◌∙◌}
use mathlib.Core.List.{List}
use Prim.Native.Nat.{ℕ, suc, ◌+◌, ◌-◌, ◌<◌}
use native.Mathlib.Omega.{arith}
use lib.Ieee.{Float}
use lib.ListN.{length, take}
use Rattle.tanner.specs.Checks.{Word}
use Rattle.tanner.specs.Found.{syndrome_of}
use Rattle.tanner.specs.declared.Counted.{Counted}
use Rattle.numbered.specs.Numbers.{code_number}
use Rattle.passes.specs.Codes.{checks_by}
use Rattle.one_round.specs.Round.{Decode}
use Rattle.rounds.specs.Rounds.{better}
use Rattle.rounds.specs.Run.{Kept}
use Rattle.rounds.proofs.Loop.{Running, round-found, kept-better, kept_same, round-on, round-out, rounds_out}
use Rattle.rounds.proofs.rounds.Goals.{then-found-kept, else-found-kept}
use Rattle.rounds.proofs.rounds.Goals as goal

-- a turn's start: the rounds to go are one and those after it
off : (d : Decode) (m g k limit done : ℕ) (work : List Float) (bits : List ℕ) (kept : Counted) (word : Word) (all : ℕ) → done < limit
    → Running d m g k (limit - done) work bits kept done word all → Running d m g k (suc (limit - (done + 1))) work bits kept done word all
off d m g k limit done work bits kept word all l s = let e : limit - done ≡ suc (limit - (done + 1)) = omega arith in rw e at s

pub loop-turn-preserved : goal.loop-turn-preserved
loop-turn-preserved c =
    let k = c.loop-turn.invariant.3 in (
      refl,
      c.round-found.auto.messages ∙ c.loop-turn.invariant.1,
      c.round-found.auto.hard ∙ c.loop-turn.invariant.2,
      omega arith,
      λ ms h.
          let s = off _ _ _ _ _ _ _ _ _ _ _ c.loop-turn-test.true (c.loop-turn.invariant.4 ms h) in
          let r = c.round-found.ensures.round_by s.ms s.holds in
          let b : Kept (checks_by (code_number c.args.code)) (length c.args.bits.now)
          (better (checks_by (code_number c.args.code)) s.word c.round-found.new.hard) c.if-found-kept.bits
          c.if-found-kept.kept =
          elim c.if-found-kept.branch [
            | then-found-kept w ↦
                kept-better _ _ _ _ _ _ _ _ _ s.held r.counted w.if-found-kept.true
                (w.bits-is ∙ w.keep_word.ensures ∙ ap (λ (n : ℕ). take n c.round-found.new.hard) k)
                (ap syndrome_of w.kept-is ∙ round-found _ _ _ _ _ _ _ r _ w.first_counted-lowest.ensures)
            | else-found-kept w ↦ kept_same _ _ _ _ _ _ _ _ _ s.held r.counted w.if-found-kept.false w.bits-is w.kept-is
          ] in
          round-on _ _ _ _ _ _ _ _ _ _ _ _ _ _ _ _ s r b c.if-found-eq0.false,
    )

pub returns-after-loop-turn : goal.returns-after-loop-turn
returns-after-loop-turn c = λ ms h.
    let e : c.args.limit - c.loop-turn.turn ≡ 0 = omega arith in
    let out = rounds_out _ _ _ _ _ _ _ _ _ _ (rw e at (c.loop-turn.invariant.4 ms h)) in
    record { kept = out.0; rounds = c.loop-turn.invariant.0 ∙ out.1 }

pub returns-then-found-eq0 : goal.returns-then-found-eq0
returns-then-found-eq0 c =
    let k = c.loop-turn.invariant.3 in
    λ ms h.
    let s = off _ _ _ _ _ _ _ _ _ _ _ c.loop-turn-test.true (c.loop-turn.invariant.4 ms h) in
    let r = c.round-found.ensures.round_by s.ms s.holds in
    let b : Kept (checks_by (code_number c.args.code)) (length c.args.bits.now)
    (better (checks_by (code_number c.args.code)) s.word c.round-found.new.hard) c.if-found-kept.bits
    c.if-found-kept.kept =
    elim c.if-found-kept.branch [
      | then-found-kept w ↦
          kept-better _ _ _ _ _ _ _ _ _ s.held r.counted w.if-found-kept.true
          (w.bits-is ∙ w.keep_word.ensures ∙ ap (λ (n : ℕ). take n c.round-found.new.hard) k)
          (ap syndrome_of w.kept-is ∙ round-found _ _ _ _ _ _ _ r _ w.first_counted-lowest.ensures)
      | else-found-kept w ↦ kept_same _ _ _ _ _ _ _ _ _ s.held r.counted w.if-found-kept.false w.bits-is w.kept-is
    ] in
    let out = round-out _ _ _ _ _ _ _ _ _ _ _ _ _ _ _ _ s r b c.if-found-eq0.true in
    record { kept = out.0; rounds = out.1 }
