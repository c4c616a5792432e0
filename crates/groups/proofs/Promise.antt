-- What is promised of a call with groups: an accepted call is a batch whose bits were overwritten, so that what the batch promises carries over, frame by
-- frame. Assumes nothing.
use mathlib.Core.Path.{◌≡◌, refl, sym, ap, subst, ◌∙◌}
use mathlib.Core.Bool.{true}
use mathlib.Core.List.{List, [], append-nil}
use Prim.Native.Nat.{ℕ, zero, suc, ◌+◌, ◌*◌, ◌<◌, ◌≤◌}
use native.Mathlib.Nat.{zero-mul, add-mul, mul-le-mul}
use native.Mathlib.Omega.{arith}
use lib.Dec.{lit<}
use lib.ListN.{length, take, drop, replicate, length-drop}
use lib.Seq.{length-take-le}
use Rattle.refusal.specs.Outcome.{Outcome, Condition, judged, kept}
use Rattle.refusal.proofs.Judged.{verdict, nothing, kept_accepted}
use Rattle.lists.specs.Below.{Below}
use Rattle.batch.specs.Codes.{size_k}
use Rattle.batch.specs.Calls.{Lent, Batch, refusals, frames, written}
use Rattle.batch.specs.Calls as batch
use Rattle.batch.specs.Promise.{Call, values_at, SameFrame}
use Rattle.batch.proofs.Promise.{bits-proper}
use Rattle.batch.proofs.Whole as batch-whole
use Rattle.clean_frames.specs.CleanFrames.{clean_of}
use Rattle.clean_frames.specs.Limits.{clean_at}
use Rattle.clean_frames.proofs.Limits.{clean_in_both, clean_bits}
use Rattle.grouping.specs.Grouping.{total, group_bits, delivered}
use Rattle.groups.specs.Groups.{group_refusals, clean_list, overwritten}
use Rattle.groups.specs.Promise.{
  NoList,
  GroupCall,
  Accepted,
  size_of,
  start_of,
  bytes_of,
  is_delivered,
  bits_of,
  bits_before,
  before,
  Before,
  AllOrNothing,
  SameGroup,
  StaysDelivered,
}
use Rattle.grouping.proofs.Sizes.{sizes_right, total-fits, size-some, span_fits}
use Rattle.groups.proofs.Clean.{each-clean, all-clean}
use Rattle.grouping.proofs.Groups.{held, withheld, group_length, group_at}
use Rattle.groups.proofs.Parts.{frame_at, frames-same, frames_below, frames_fit}
use Rattle.groups.proofs.Whole.{batch-passed, sizes-passed}

-- ---- no list

-- the tests are the batch's, and what is written is what the batch writes
no_tests : (b : Batch) → group_refusals b [] ≡ refusals b
no_tests b = append-nil (refusals b)

nothing-overwritten : (b : Batch) (wrote : Lent) → overwritten b [] wrote ≡ wrote
unfolding overwritten delivered
nothing-overwritten b wrote = refl

pub no_list : (b : Batch) (answer : Outcome Unit) (left : Lent) → NoList b answer left
no_list b answer left =
    let tests = ap (λ (cs : List Condition). judged cs tt) (no_tests b) in
    let same =
    ap (λ (cs : List Condition). kept cs b.memory (overwritten b [] (written b))) (no_tests b)
    ∙ ap (kept (refusals b) b.memory) (nothing-overwritten b (written b)) in
    record {
      is_batch = λ a. record { says = a.says ∙ tests; leaves = a.leaves ∙ same };
      from_batch = λ a. record { says = a.says ∙ sym tests; leaves = a.leaves ∙ sym same };
    }

-- ---- an accepted call

some_bits : (code : ℕ) → 0 < size_k code
unfolding size_k
some_bits zero = lit< tt
some_bits (suc zero) = lit< tt
some_bits (suc (suc zero)) = lit< tt
some_bits (suc (suc (suc n))) = lit< tt

module _ (c : GroupCall) (ok : Accepted c) where
  abbrev b : Batch
  b = c.handed

  abbrev k : ℕ
  k = size_k b.code

  agreed : verdict (group_refusals b c.sizes) ≡ nothing
  agreed = sym c.answered.says ∙ ok

  left_is : c.left ≡ overwritten b c.sizes (written b)
  left_is = c.answered.leaves ∙ kept_accepted (group_refusals b c.sizes) b.memory (overwritten b c.sizes (written b)) agreed

  bits_are : c.left.bits ≡ delivered k c.sizes (clean_list b (written b)) (written b).bits
  unfolding overwritten
  bits_are = ap (λ (l : Lent). l.bits) left_is

  before_is : before c ≡ written b
  unfolding overwritten
  before_is =
      ap (λ (l : Lent). batch.lent (written b).bits l.counts l.rounds l.firsts l.work) left_is

  -- the batch that it is
  called : batch.Answered b nothing (written b)
  called = batch-whole.carried-out b (batch-passed b c.sizes agreed) (written b) refl

  abbrev call : Call
  call = record { handed = b; answer = nothing; left = written b; answered = called }

  -- the first m frames have their bytes
  bytes-in : (m : ℕ) → m ≤ length b.pairs → m * k ≤ length (written b).bits
  bytes-in zero h = rw zero-mul (omega arith)
  bytes-in (suc j) h = frames_fit k j (written b).bits (bits-proper call refl j (omega arith)).long (some_bits b.code)

  all_in : total c.sizes ≤ length b.pairs
  all_in = total-fits c.sizes (length b.pairs) (sizes-passed b c.sizes agreed)

  -- a group
  module _ (g : ℕ) (h : g < length c.sizes) where
    frames-in : start_of c g + size_of c g ≤ length b.pairs
    frames-in = omega (arith, span_fits c.sizes g h, all_in)

    own : bits_of c g ≡ group_bits (is_delivered c g) (bits_before c g)
    unfolding is_delivered
    own = ap (bytes_of c g) bits_are ∙ group_at k c.sizes (clean_list b (written b)) (written b).bits g h (bytes-in (total c.sizes) all_in)

    long : length (bits_before c g) ≡ size_of c g * k
    long =
        let fits = bytes-in (start_of c g + size_of c g) frames-in in
        let span = add-mul (start_of c g) (size_of c g) k in
        length-take-le (size_of c g * k) (drop (start_of c g * k) (written b).bits) (simp length-drop (omega (arith, fits, span)))

    pub whole : is_delivered c g ≡ true → bits_of c g ≡ bits_before c g
    whole e = own ∙ sym (held (is_delivered c g) (bits_before c g) e)

    some : 0 < length (bits_of c g)
    some =
        let right = sizes_right c.sizes (length b.pairs) (omega arith) (sizes-passed b c.sizes agreed) in
        let size = ap length own ∙ group_length (is_delivered c g) (bits_before c g) ∙ long in
        let least = mul-le-mul {n₁ = 1} {m₁ = 1} {n₂ = size_of c g} {m₂ = k} (size-some c.sizes g right.no_zero h) (some_bits b.code) in
        omega (arith, size, least)

    are-bits : is_delivered c g ≡ true → Below 2 (bits_of c g)
    are-bits e =
        subst (Below 2) (sym (whole e))
        (frames_below 2 k (start_of c g) (size_of c g) (written b).bits (λ i q. (bits-proper call refl (start_of c g + i) (omega (arith, frames-in))).bits))

    pub all-or-nothing : AllOrNothing c g
    all-or-nothing = record {
      some = some;
      whole = whole;
      are_bits = are-bits;
      withheld = λ e. own ∙ sym (withheld (is_delivered c g) (bits_before c g) e) ∙ ap (λ (n : ℕ). replicate n 255) long;
    }

    -- each of its frames is clean, in the batch that the call is
    clean-each : is_delivered c g ≡ true → (i : ℕ) → i < size_of c g → clean_at call (start_of c g + i) ≡ true
    unfolding is_delivered clean_at values_at
    clean-each e i q =
        each-clean (clean_of b.code (frames b) (written b).counts (written b).bits) (length b.pairs) (start_of c g) (size_of c g) frames-in e i q

    each-delivered : ((i : ℕ) → i < size_of c g → clean_at call (start_of c g + i) ≡ true) → is_delivered c g ≡ true
    unfolding is_delivered clean_at values_at
    each-delivered f =
        all-clean (clean_of b.code (frames b) (written b).counts (written b).bits) (length b.pairs) (start_of c g) (size_of c g) frames-in f

pub numbers_stay : (c : GroupCall) → Before c
numbers_stay c ok = let a = called c ok in record { says = ok ∙ a.says; leaves = before_is c ok ∙ a.leaves }

-- ---- between two limits

module _ (x y : GroupCall) (g h : ℕ) (s : SameGroup x y g h) where
  abbrev call_x : Call
  call_x = call x s.accepted_a

  abbrev call_y : Call
  call_y = call y s.accepted_b

  same-frame : (i : ℕ) → i < size_of x g → SameFrame call_x call_y (start_of x g + i) (start_of y h + i)
  unfolding values_at
  same-frame i q = record {
    accepted_a = refl;
    accepted_b = refl;
    code = s.code;
    rule = s.rule;
    limits = s.limits;
    place_a = omega (arith, frames-in x s.accepted_a g s.group_a);
    place_b = omega (arith, s.size, frames-in y s.accepted_b h s.group_b);
    frame = s.frame i q;
  }

  still : is_delivered x g ≡ true → is_delivered y h ≡ true
  still e =
      each-delivered y s.accepted_b h s.group_b
      (λ i q.
      let low : i < size_of x g = omega (arith, s.size) in
      clean_in_both call_x call_y (start_of x g + i) (start_of y h + i) (same-frame i low) (clean-each x s.accepted_a g s.group_a e i low))

  -- of one code: the bits before the overwriting are equal frame by frame
  same-before : is_delivered x g ≡ true → bits_before x g ≡ bits_before y h
  same-before e =
      let kx = size_k x.handed.code in
      let ky = size_k y.handed.code in
      let code : kx ≡ ky = ap size_k s.code in
      let bits = (written y.handed).bits in
      let one : (i : ℕ) → i < size_of x g → frame_at kx (start_of x g + i) (written x.handed).bits ≡ frame_at kx (start_of y h + i) bits = λ i q.
      clean_bits call_x call_y (start_of x g + i) (start_of y h + i) (same-frame i q) (clean-each x s.accepted_a g s.group_a e i q)
      ∙ ap (λ (k : ℕ). frame_at k (start_of y h + i) bits) (sym code) in
      frames-same kx (start_of x g) (start_of y h) (size_of x g) (written x.handed).bits bits one
      ∙ ap (λ (n : ℕ). take (n * kx) (drop (start_of y h * kx) bits)) s.size
      ∙ ap (λ (k : ℕ). take (size_of y h * k) (drop (start_of y h * k) bits)) code

  pub stays-delivered : StaysDelivered x y g h
  stays-delivered = record {
    delivered = still;
    bits = λ e. whole x s.accepted_a g s.group_a e ∙ same-before e ∙ sym (whole y s.accepted_b h s.group_b (still e));
  }
