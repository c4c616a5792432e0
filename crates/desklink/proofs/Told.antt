-- The calls of the decoders, as C sees them, from the calls beneath and the numbers that tell their answers. Assumes nothing.
use mathlib.Core.Path.{◌≡◌, subst, ap, ◌∙◌}
use mathlib.Core.Bool.{Bool, true, false, cond}
use mathlib.Core.List.{List, [], ◌∷◌}
use Prim.Native.Nat.{ℕ, ◌<◌}
use native.Mathlib.Omega.{arith}
use lib.Ieee.{Float}
use lib.IntN.{ℤ}
use Rattle.refusal.specs.Outcome.{Outcome, refused, Condition, judged}
use Rattle.tanner.specs.Checks.{Syndrome}
use Rattle.rounds.specs.Told.{Told}
use Rattle.decoders.specs.Calls as decoders
use Rattle.batch.specs.Calls as batch
use Rattle.first_reason.specs.declared.Reason.{Reason}
use Rattle.reason.specs.Calls as reason
use Rattle.groups.specs.Groups as groups
use Rattle.cycles.specs.Calls.{Report}
use Rattle.coded.specs.Coded.{coded_unit, told_in, Lent}
use Rattle.coded_parts.specs.Parts.{Counts, Decodes, Explains, Lists}
use Rattle.desklink.specs.Calls.{DecodeCall, BatchCall, GroupsCall, ReasonCall}

-- z is what was stored, and n what is read back of it

pub count-told : {answer outcome : Outcome Syndrome} {z n : ℤ} {first : Lent} → answer ≡ outcome → Counts answer z first → n ≡ z → Counts outcome n first
count-told {answer} {outcome} {z} {n} {first} same c read =
    subst (λ (o : Outcome Syndrome). Counts o n first) same (record { its_count = read ∙ c.its_count; its_first = c.its_first })

pub list_told : {answer outcome : Outcome Report} {z n : ℤ} {relaxed : Lent} → answer ≡ outcome → Lists answer z relaxed → n ≡ z → Lists outcome n relaxed
list_told {answer} {outcome} {z} {n} {relaxed} same l read =
    subst (λ (o : Outcome Report). Lists o n relaxed) same (record { its_cycles = read ∙ l.its_cycles; its_relaxed = l.its_relaxed })

-- an accepted call tells few cycles, a refused one none
pub told_few : (cs : List Condition) (r : Report) (most : ℕ) → r.cycles < most → told_in (λ (q : Report). q.cycles) (judged cs r) 0 < most
told_few [] r most h = h
told_few (c ∷ cs) r most h = by c.holds (told_few cs r most h)
  where
    by : (b : Bool) → told_in (λ (q : Report). q.cycles) (judged cs r) 0 < most
        → told_in (λ (q : Report). q.cycles) (cond b (refused c.number) (judged cs r)) 0 < most
    by true rest = omega arith
    by false rest = rest

pub decode_told : (s : decoders.Single) {answer : Outcome Told} {bits : List ℕ} {work : List Float} {z n : ℤ} {rounds first : Lent}
    → decoders.Answered s answer bits work → Decodes answer z rounds first → n ≡ z → DecodeCall s n rounds first bits work
decode_told s {answer} {bits} {work} {z} {n} {rounds} {first} a d read = record {
  tells =
      subst (λ (o : Outcome Told). Decodes o n rounds first) a.tells
      (record { its_count = read ∙ d.its_count; its_rounds = d.its_rounds; its_first = d.its_first });
  its_bits = a.its_bits;
  its_work = a.its_work;
}

pub batch-told : (b : batch.Batch) {answer : Outcome Unit} {left : batch.Lent} {z n : ℤ} → batch.Answered b answer left → z ≡ coded_unit answer → n ≡ z
    → BatchCall b n left
batch-told b a coded read = record { says = read ∙ coded ∙ ap coded_unit a.says; leaves = a.leaves }

pub groups_told : (b : batch.Batch) (sizes : List ℕ) {answer : Outcome Unit} {left : batch.Lent} {z n : ℤ} → groups.Answered b sizes answer left
    → z ≡ coded_unit answer → n ≡ z → GroupsCall b sizes n left
groups_told b sizes a coded read = record { says = read ∙ coded ∙ ap coded_unit a.says; leaves = a.leaves }

pub reason_told : (a : reason.Asked) {answer : Outcome Reason} {word : List ℕ} {work : List Float} {z n : ℤ} {part computed : Lent}
    → reason.Answered a answer word work
    → Explains answer z part computed → n ≡ z → ReasonCall a n part computed word work
reason_told a {answer} {word} {work} {z} {n} {part} {computed} r e read = record {
  says =
      subst (λ (o : Outcome Reason). Explains o n part computed) r.says
      (record { its_kind = read ∙ e.its_kind; its_part = e.its_part; its_computed = e.its_computed });
  its_word = r.its_word;
  its_work = r.its_work;
}
