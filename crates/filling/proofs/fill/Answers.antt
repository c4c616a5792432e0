-- `filling::fill` meets its contract. The invariant: what is still to be set, after what is set, is all that is set. Assumes nothing.
use mathlib.Core.Path.{sym, ap, ◌∙◌}
use Rattle.std.proofs.Common.{arith}
use Rattle.filling.specs.Calls.{next_of}
use Rattle.filling.proofs.Settings.{taken, taken_inside}
use Rattle.filling.proofs.Steps.{going_start, going_more, going-none, going-full}
use Rattle.filling.proofs.fill.Goals as goal

pub loop-n-init : goal.loop-n-init
loop-n-init c = going_start _ _ _ c.requires.places_len

pub returns-in_default : goal.returns-in_default
returns-in_default c =
    let e = going-none _ _ _ _ _ _ c.loop-n.invariant (sym c.next_setting.ensures ∙ ap next_of c.in_default.is) in
    record { value = e.many; word_after = e.word; places_after = e.places }

pub bounds-word-at : goal.bounds-word-at
bounds-word-at c = taken_inside (taken _ _ _ _ (sym c.next_setting.ensures ∙ ap next_of c.in-Some.is))

pub loop-n-preserved : goal.loop-n-preserved
loop-n-preserved c =
    going_more _ _ _ _ _ _ c.loop-n.invariant _ _ (omega (arith, c.loop-n-test.true, c.loop-n.invariant.room))
    (sym c.next_setting.ensures ∙ ap next_of c.in-Some.is)

pub returns : goal.returns
returns c =
    let e = going-full _ _ _ _ _ _ c.loop-n.invariant (omega (arith, c.loop-n-test.false, c.loop-n.invariant.room)) in
    record {
      value = omega (arith, e.many, c.loop-n-test.false, c.loop-n.invariant.room, c.loop-n.invariant.within);
      word_after = e.word;
      places_after = e.places;
    }
