-- The status of a heap that is opened or not, by the heap that the disk gives.
use Rattle.std.proofs.Common.{◌≡◌, ◌⊎◌, ℕ, List, Option, None, Some, inl, inr, subst, arith}
use Rattle.sdr_stands.specs.Standing.{StandsForWhole}
use Rattle.sdr_base.specs.Causes.{Rose}
use Rattle.sdr_log.specs.Log.{put_back_of}
use Rattle.sdr_forms.specs.Recovering.{GivesWorld, IsByHeap}
use Rattle.sdr_forms.specs.Shutting.{status_shut}
use Rattle.sdr_forms.specs.declared.status.TheConstants.{DONE, USAGE, NOT_FORMATTED, DAMAGED, NO_MEMORY}
use Rattle.sdr_station.specs.Opening.{ExplainsOpen}
use Rattle.sdr_station.specs.declared.error.OpenError.{OpenError}
use Rattle.sdr_station.specs.declared.error.OpenError.TheVariants as errors

-- two heaps that a disk gives are one
one_heap : (given : Option (List ℕ)) (heap other : List ℕ) → given ≡ Some heap → given ≡ Some other → other ≡ heap
one_heap given heap other is is' = cc

-- none is none
no_heap : (given : Option (List ℕ)) (heap : List ℕ) → given ≡ None → given ≡ Some heap → ⊥
no_heap given heap none is = cc

-- where a world stands for the heap, the status is that of what is done
pub by_world : (status : ℕ) (x : List ℕ) → status ≡ DONE → GivesWorld x → IsByHeap status x
by_world status x done g = record {
  none = λ none. absurd (no_heap (put_back_of x) g.heap none g.gives);
  damaged = λ heap gives nobody. absurd (nobody g.world g.pools
      (subst (λ (h : List ℕ). StandsForWhole h g.world g.pools) (one_heap (put_back_of x) heap g.heap gives g.gives) g.stands));
  taken = λ heap w P gives stands. inl done;
}

-- a heap that isn't opened is told so by its status, where the disk didn't fail
pub by_shut : (why : OpenError) (status before now : ℕ) (x : List ℕ) → ¬ Rose before now → status ≡ status_shut why
    → ExplainsOpen x before now why → IsByHeap status x
by_shut errors.NotFormatted status before now x sound tells explained = record {
  none = λ _. inl tells;
  damaged = λ heap gives nobody. absurd (no_heap (put_back_of x) heap explained gives);
  taken = λ heap w P gives stands. absurd (no_heap (put_back_of x) heap explained gives);
}
by_shut (errors.Damaged place why) status before now x sound tells explained =
    let damaged = explained in
    record {
      none = λ none. absurd (no_heap (put_back_of x) damaged.heap none damaged.gives);
      damaged = λ heap gives nobody. inl tells;
      taken = λ heap w P gives stands. absurd (damaged.none w P
          (subst (λ (h : List ℕ). StandsForWhole h w P) (one_heap (put_back_of x) damaged.heap heap damaged.gives gives) stands));
    }
by_shut errors.DiskFault status before now x sound tells explained = absurd (sound explained)
by_shut errors.NoMemory status before now x sound tells explained = record {
  none = λ _. inr tells;
  damaged = λ heap gives nobody. inr tells;
  taken = λ heap w P gives stands. inr tells;
}

-- and its status is one of three
pub shut_status : (why : OpenError) (status before now : ℕ) (x : List ℕ) → ¬ Rose before now → status ≡ status_shut why
    → ExplainsOpen x before now why → (status ≡ DONE) ⊎ (status ≡ NOT_FORMATTED) ⊎ (status ≡ DAMAGED) ⊎ (status ≡ NO_MEMORY)
shut_status errors.NotFormatted status before now x sound tells explained = inr (inl tells)
shut_status (errors.Damaged place why) status before now x sound tells explained = inr (inr (inl tells))
shut_status errors.DiskFault status before now x sound tells explained = absurd (sound explained)
shut_status errors.NoMemory status before now x sound tells explained = inr (inr (inr tells))

-- it is never that of words which are no form
pub shut_not_usage : (why : OpenError) (status : ℕ) → status ≡ status_shut why → status ≡ USAGE → ⊥
shut_not_usage errors.NotFormatted status is usage = omega (arith, is, usage)
shut_not_usage (errors.Damaged place why) status is usage = omega (arith, is, usage)
shut_not_usage errors.DiskFault status is usage = omega (arith, is, usage)
shut_not_usage errors.NoMemory status is usage = omega (arith, is, usage)
