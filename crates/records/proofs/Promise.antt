-- Demand 3 where either call, or both, are over records: the promise of crate `batch`, which is of any two calls that have its contract. Assumes nothing.
use Prim.Native.Nat.{ℕ}
use Rattle.batch.specs.Promise.{Call, SameFrame, Promise}
use Rattle.batch.proofs.Promise.{promise}
use Rattle.records.specs.Promise.{RecordsCall, called}

module _ (a : RecordsCall) (b : Call) (i j : ℕ) where
  -- over records with the lesser limit, and with the greater
  pub records-promise : SameFrame (called a) b i j → Promise (called a) b i j
  records-promise s = promise (called a) b i j s

  pub promise-records : SameFrame b (called a) j i → Promise b (called a) j i
  promise-records s = promise b (called a) j i s
