-- `why::explain` meets its contract: what the pair names is the frame, its word has room in the array, and what is found is written. Assumes nothing.
use mathlib.Core.Path.{◌≡◌, sym, ap, ◌∙◌}
use mathlib.Core.List.{List, []}
use Prim.Native.Nat.{ℕ, ◌+◌, ◌-◌, ◌*◌, ◌≤◌, ◌<◌}
use native.Mathlib.Omega.{arith}
use lib.Ieee.{Float}
use lib.ListN.{length, get_or, take, drop}
use Rattle.numbered.specs.Numbers.{code_number}
use Rattle.batch.specs.Codes.{size_n}
use Rattle.batch.specs.Pairs.{pairs_of, AllWithin, frames_of}
use Rattle.batch.proofs.Sizes.{size_small}
use Rattle.batch.proofs.Frames.{pair_inside, frame-inside}
use Rattle.clean_frames.proofs.FrameAt.{frame_at}
use Rattle.batch_input.specs.Input.{code_of}
use Rattle.batch_input.proofs.Room.{part_length, back, back_fits, back-length}
use Rattle.why.proofs.Frame.{reason_named, frame-line}
use Rattle.why.proofs.explain.Goals as goal

-- N fits the array
fits : (room code n : ℕ) → n ≡ size_n code → 576 ≡ room → n ≤ room
fits room code n e long = omega (arith, e, (size_small code).values, long)

-- the frame of a pair that lies within the values, N as computed
inside : (values : List Float) (pairs : List ℕ) (code place n : ℕ) → n ≡ size_n code → AllWithin (size_n code) (length values) (pairs_of pairs)
    → place < length (pairs_of pairs) → get_or pairs (place * 2) 0 + n ≤ length values
inside values pairs code place n e all here = omega (arith, e, frame-inside values pairs (size_n code) place all here)

-- the values handed on are the frame's
part_is : (values : List Float) (pairs : List ℕ) (code place n : ℕ) → n ≡ size_n code → AllWithin (size_n code) (length values) (pairs_of pairs)
    → place < length (pairs_of pairs) → let from = get_or pairs (place * 2) 0 in
    take (from + n - from) (drop from values) ≡ get_or (frames_of values (pairs_of pairs)) place []
part_is values pairs code place n e all here = sym (rw (← e) at (frame_at values pairs (size_n code) place all here))

pub bounds-pairs-j : goal.bounds-pairs-j
bounds-pairs-j c =
    omega (arith, pair_inside c.args.values.now c.args.pairs.now _ c.args.place c.requires.all_within c.requires.place_in_bounds)

pub slice_bounds-find_reason-end : goal.slice_bounds-find_reason-end
slice_bounds-find_reason-end c =
    let a = c.args in
    let size = c.n-n.ensures ∙ ap size_n (c.of_number-code.ensures ∙ c.read_header-head.ensures.code) in
    let here = inside a.values.now a.pairs.now _ a.place _ size c.requires.all_within c.requires.place_in_bounds in
    omega (arith, here)

pub slice_bounds-word-end : goal.slice_bounds-word-end
slice_bounds-word-end c = fits _ _ _ c.n-n.ensures c.word_room-word.ensures

pub slice_bounds-find_reason-end-2 : goal.slice_bounds-find_reason-end-2
slice_bounds-find_reason-end-2 c = part_length c.word_room-word.result _ (fits _ _ _ c.n-n.ensures c.word_room-word.ensures)

pub find_reason-found-requires-clause-word_len : goal.find_reason-found-requires-clause-word_len
find_reason-found-requires-clause-word_len c =
    sym (part_length c.word_room-word.result _ (fits _ _ _ c.n-n.ensures c.word_room-word.ensures)) ∙ c.n-n.ensures

pub slice_bounds-word-end-2 : goal.slice_bounds-word-end-2
slice_bounds-word-end-2 c =
    let f = fits _ _ _ c.n-n.ensures c.word_room-word.ensures in
    back_fits c.word_room-word.result _ f c.find_reason-found.new.word c.find_reason-found.auto.word

pub slice_bounds-reason_line-end : goal.slice_bounds-reason_line-end
slice_bounds-reason_line-end c =
    let f = fits _ _ _ c.n-n.ensures c.word_room-word.ensures in
    back-length c.word_room-word.result _ f c.find_reason-found.new.word c.find_reason-found.auto.word

pub reason_line-requires-clause-word_len : goal.reason_line-requires-clause-word_len
reason_line-requires-clause-word_len c =
    let f = fits _ _ _ c.n-n.ensures c.word_room-word.ensures in
    sym (back-length c.word_room-word.result _ f c.find_reason-found.new.word c.find_reason-found.auto.word) ∙ c.n-n.ensures

pub reason_line-requires-clause-named : goal.reason_line-requires-clause-named
reason_line-requires-clause-named c =
    let h = c.read_header-head.result in
    reason_named (code_number c.of_number-code.result) h.rule h.scale _ h.limit c.find_reason-found.ensures.value

pub returns : goal.returns
returns c =
    let a = c.args in
    let n = c.n-n.result in
    let from = get_or a.pairs.now (a.place * 2) 0 in
    let size = c.n-n.ensures ∙ ap size_n (c.of_number-code.ensures ∙ c.read_header-head.ensures.code) in
    let here = part_is a.values.now a.pairs.now (code_of a.input.now) a.place n size c.requires.all_within c.requires.place_in_bounds in
    let f = fits _ _ _ c.n-n.ensures c.word_room-word.ensures in
    let front = back c.word_room-word.result _ f c.find_reason-found.new.word c.find_reason-found.auto.word in
    let found = rw c.of_number-code.ensures at c.find_reason-found.ensures in
    let line =
    frame-line a.input.now c.read_header-head.result c.read_header-head.ensures a.values.now (pairs_of a.pairs.now)
    (take (from + n - from) (drop from a.values.now)) _ here (front ∙ found.word_after) found.value in
    record { written = rw (c.of_number-code.ensures, line) at c.reason_line.ensures.written; upper_bound = c.reason_line.ensures.upper_bound }
