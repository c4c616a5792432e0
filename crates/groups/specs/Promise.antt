-- What is promised of a call with groups (change request N13): that it is the batch where the list is empty, that its numbers are the batch's, that a group is
-- delivered whole or not at all, and what a larger limit may change.
use Rattle.std.specs.Prelude.{◌≡◌, Bool, true, false, List, [], ℕ, ◌+◌, ◌*◌, ◌<◌, ◌≤◌, Float, length, get_or, take, drop, replicate}
use Rattle.refusal.specs.Outcome.{Outcome, accepted}
use Rattle.lists.specs.Below.{Below}
use Rattle.softmath.specs.declared.DecodeRule.{DecodeRule}
use Rattle.rules.specs.Rules.{rule_of}
use Rattle.batch.specs.Codes.{size_k}
use Rattle.batch.specs.Calls.{Lent, Batch, frames, written}
use Rattle.batch.specs.Calls as batch
use Rattle.grouping.specs.Grouping.{total, all}
use Rattle.groups.specs.Groups.{Answered, clean_list}

-- ---- no list

-- "An empty list is no list": a call with it answers and leaves what the batch does, and nothing else
pub record NoList (b : Batch) (answer : Outcome Unit) (left : Lent) : Type 0 where
  pub is_batch : Answered b [] answer left → batch.Answered b answer left
  pub from_batch : batch.Answered b answer left → Answered b [] answer left

-- ---- a call, and its groups

-- a call that was made: what was handed over, what it answered, what it left in the lent memory; by the contract of `decode_groups`
pub record GroupCall : Type 0 where
  pub handed : Batch
  pub sizes : List ℕ
  pub answer : Outcome Unit
  pub left : Lent
  pub answered : Answered handed sizes answer left

abbrev pub Accepted : GroupCall → Type 0
Accepted c = c.answer ≡ accepted tt

-- the size of group g, and the place of its first frame
abbrev pub size_of : GroupCall → ℕ → ℕ
size_of c g = get_or c.sizes g 0

abbrev pub start_of : GroupCall → ℕ → ℕ
start_of c g = total (take g c.sizes)

-- the values of its frame i
abbrev pub values_of : GroupCall → ℕ → ℕ → List Float
values_of c g i = get_or (frames c.handed) (start_of c g + i) []

-- its bytes among the bit bytes of all frames
abbrev pub bytes_of : GroupCall → ℕ → List ℕ → List ℕ
bytes_of c g bits = let k = size_k c.handed.code in take (size_of c g * k) (drop (start_of c g * k) bits)

-- whether "all its frames are clean"; its bytes as the call left them, and before the overwriting
unfoldable pub is_delivered : GroupCall → ℕ → Bool
is_delivered c g = all (take (size_of c g) (drop (start_of c g) (clean_list c.handed (written c.handed))))

abbrev pub bits_of : GroupCall → ℕ → List ℕ
bits_of c g = bytes_of c g c.left.bits

abbrev pub bits_before : GroupCall → ℕ → List ℕ
bits_before c g = bytes_of c g (written c.handed).bits

-- ---- before the overwriting

-- what an accepted call left, with the bits before the overwriting in place of those that it left
abbrev pub before : GroupCall → Lent
before c = record { bits = (written c.handed).bits; counts = c.left.counts; rounds = c.left.rounds; firsts = c.left.firsts; work = c.left.work }

-- "Demand 2 and the frame promise now speak of these numbers and of the bits before that overwriting": they are what the batch leaves, so that what is said of
-- a batch is said of them (`Answered`, and with it `SameFrame` and `Promise`, in the definitions of `batch`). Of the bits that such a call leaves no more is
-- promised than what follows here, "since equal counts of one frame do not make its group delivered in both".
abbrev pub Before : GroupCall → Type 0
Before c = Accepted c → batch.Answered c.handed c.answer (before c)

-- ---- all or nothing

-- A delivered group has the bits of all its frames, and a group that is not has none of them. A group has bytes, and a bit's byte is 0 or 1: any of its bytes,
-- 255 or not, tells a caller which of the two it is.
pub record AllOrNothing (c : GroupCall) (g : ℕ) : Type 0 where
  pub some : 0 < length (bits_of c g)
  pub whole : is_delivered c g ≡ true → bits_of c g ≡ bits_before c g
  pub are_bits : is_delivered c g ≡ true → Below 2 (bits_of c g)
  pub withheld : is_delivered c g ≡ false → bits_of c g ≡ replicate (size_of c g * size_k c.handed.code) 255

-- ---- between two limits

-- the check step that its frames are decoded by
abbrev pub reading : GroupCall → DecodeRule
reading c = rule_of c.handed.code c.handed.rule c.handed.scale

-- two accepted calls of one reading with limits a ≤ b, "that hold the same whole group": its frames bit for bit, in order, at any places
pub record SameGroup (a b : GroupCall) (g h : ℕ) : Type 0 where
  pub accepted_a : Accepted a
  pub accepted_b : Accepted b
  pub code : a.handed.code ≡ b.handed.code
  pub rule : reading a ≡ reading b
  pub limits : a.handed.limit ≤ b.handed.limit
  pub group_a : g < length a.sizes
  pub group_b : h < length b.sizes
  pub size : size_of a g ≡ size_of b h
  pub frame : (i : ℕ) → i < size_of a g → values_of a g i ≡ values_of b h i

-- "A group delivered under a limit is delivered with the same bits under a larger one."
pub record StaysDelivered (a b : GroupCall) (g h : ℕ) : Type 0 where
  pub delivered : is_delivered a g ≡ true → is_delivered b h ≡ true
  pub bits : is_delivered a g ≡ true → bits_of a g ≡ bits_of b h
