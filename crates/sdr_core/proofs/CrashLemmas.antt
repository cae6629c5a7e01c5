-- One entry more of a journal, and what a crash then leaves.
use Rattle.std.proofs.Common.{◌≡◌, ℕ, zero, suc, ◌+◌, ◌<◌, ◌≤◌, ◌⊎◌, inl, inr, Bool, true, false, cond, ◌&&◌, List, [], ◌∷◌, ◌++◌, length, refl, sym, ◌∙◌, ap, subst, arith, nat_lt, nat_le, true≢false}
use Rattle.std.proofs.lemmas.Bool.Decides.{nat_tests}
use Rattle.sdr_disk.specs.Moments.{AtEach}
use Rattle.sdr_model.specs.declared.journal.Entry.{Entry}
use Rattle.sdr_machine.specs.Crash.{AfterSome, IsCrashSafe, begun_below, done_by, is_sound, is_whole}

pub done_by-le : (m : ℕ) (journal : List Entry) → done_by m journal ≤ length journal
unfolding done_by
done_by-le m [] = omega arith
done_by-le m (e ∷ journal) = step (is_whole e && nat_le e.done m) (done_by-le m journal)
  where
    step : (b : Bool) → done_by m journal ≤ length journal → cond b (suc (done_by m journal)) 0 ≤ suc (length journal)
    step true le = omega arith
    step false le = omega arith

-- an entry that isn't done yet
pub done_by-open : (m : ℕ) (journal : List Entry) (e : Entry) → (is_whole e && nat_le e.done m) ≡ false → done_by m (journal ++ e ∷ []) ≡ done_by m journal
unfolding done_by
done_by-open m [] e is = rw is refl
done_by-open m (d ∷ journal) e is = ap (λ (n : ℕ). cond (is_whole d && nat_le d.done m) (suc n) 0) (done_by-open m journal e is)

-- an entry that is done, where all before it are
pub done_by-done : (m : ℕ) (journal : List Entry) (e : Entry) → (is_whole e && nat_le e.done m) ≡ true → done_by m journal ≡ length journal → done_by m (journal ++ e ∷ []) ≡ length journal + 1
unfolding done_by
done_by-done m [] e is all = rw is refl
done_by-done m (d ∷ journal) e is all = step (is_whole d && nat_le d.done m) (λ rest. done_by-done m journal e is rest) all
  where
    step : (b : Bool) → (done_by m journal ≡ length journal → done_by m (journal ++ e ∷ []) ≡ length journal + 1) → cond b (suc (done_by m journal)) 0 ≡ suc (length journal) → cond b (suc (done_by m (journal ++ e ∷ []))) 0 ≡ suc (length journal) + 1
    step true go a = let rest : done_by m journal ≡ length journal = omega arith in omega (arith, go rest)
    step false go a = absurd (omega arith)

-- behind an entry in which the disk failed none is done
pub done_by-unsound : (m : ℕ) (journal : List Entry) (e : Entry) → is_sound journal ≡ false → (done_by m (journal ++ e ∷ []) ≡ done_by m journal) × (done_by m journal < length journal)
unfolding done_by
done_by-unsound m [] e unsound = absurd (true≢false unsound)
done_by-unsound m (d ∷ journal) e unsound = by (is_whole d) refl unsound (done_by-unsound m journal e)
  where
    of : (b : Bool) → (done_by m (journal ++ e ∷ []) ≡ done_by m journal) × (done_by m journal < length journal)
        → (cond b (suc (done_by m (journal ++ e ∷ []))) 0 ≡ cond b (suc (done_by m journal)) 0) × (cond b (suc (done_by m journal)) 0 < suc (length journal))
    of true rest = (ap suc rest.0, let lt = rest.1 in omega arith)
    of false rest = (refl, omega arith)

    by : (b : Bool) → is_whole d ≡ b → (b && is_sound journal) ≡ false
        → (is_sound journal ≡ false → (done_by m (journal ++ e ∷ []) ≡ done_by m journal) × (done_by m journal < length journal))
        → (cond (is_whole d && nat_le d.done m) (suc (done_by m (journal ++ e ∷ []))) 0 ≡ cond (is_whole d && nat_le d.done m) (suc (done_by m journal)) 0)
        × (cond (is_whole d && nat_le d.done m) (suc (done_by m journal)) 0 < suc (length journal))
    by true whole broken rest = of (is_whole d && nat_le d.done m) (rest broken)
    by false faulted broken rest = rw faulted (refl, omega arith)

pub begun-within : (m k : ℕ) (journal : List Entry) → begun_below m k journal ≡ true → k < length journal
unfolding begun_below
begun-within m k [] is = absurd cc
begun-within m zero (e ∷ journal) is = omega arith
begun-within m (suc k) (e ∷ journal) is = omega (arith, begun-within m k journal is)

pub begun-more : (m k : ℕ) (journal : List Entry) (e : Entry) → k < length journal → begun_below m k (journal ++ e ∷ []) ≡ begun_below m k journal
unfolding begun_below
begun-more m k [] e lt = absurd (omega arith)
begun-more m zero (d ∷ journal) e lt = refl
begun-more m (suc k) (d ∷ journal) e lt = begun-more m k journal e (omega arith)

pub begun-last : (m : ℕ) (journal : List Entry) (e : Entry) → begun_below m (length journal) (journal ++ e ∷ []) ≡ nat_lt e.begun m
unfolding begun_below
begun-last m [] e = refl
begun-last m (d ∷ journal) e = begun-last m journal e

module _ {D : Type 0} (moment : D → ℕ) (left_at : D → ℕ → List ℕ → Type 0) (P Q : ℕ → List ℕ → Type 0) (start : ℕ) (journal : List Entry) (e : Entry) (old new : D)
    (more : (k : ℕ) (image : List ℕ) → k ≤ length journal → P k image → Q k image)
    (safe : IsCrashSafe moment left_at P start journal old)
    (all : (m : ℕ) → moment old ≤ m → done_by m journal ≡ length journal)
    (begun : e.begun ≡ moment old)
    (each : AtEach moment left_at old new (λ c. P (length journal) c ⊎ Q (length journal + 1) c)) where
  weaker : (k : ℕ) (c : List ℕ) → k ≤ length journal → P k c → Q k c
  weaker k c le b = more k c le b

  -- a moment at which the new entry isn't done
  not_done : (m : ℕ) (c : List ℕ) → (is_whole e && nat_le e.done m) ≡ false → start ≤ m → m ≤ moment new → left_at new m c → AfterSome Q m (journal ++ e ∷ []) c
  not_done m c open_yet ge le left = by_time (split m (moment old))
    where
      k : ℕ
      k = done_by m journal

      same : done_by m (journal ++ e ∷ []) ≡ done_by m journal
      same = done_by-open m journal e open_yet

      split : (m n : ℕ) → (m ≤ n) ⊎ (n < m)
      split m n = grind arith

      -- with k for the number done in the longer journal
      at_k : (Q (done_by m journal) c ⊎ ((begun_below m (done_by m journal) (journal ++ e ∷ []) ≡ true) × Q (done_by m journal + 1) c)) → AfterSome Q m (journal ++ e ∷ []) c
      at_k b = subst (λ (n : ℕ). Q n c ⊎ ((begun_below m n (journal ++ e ∷ []) ≡ true) × Q (n + 1) c)) (sym same) b

      from_old : AfterSome P m journal c → AfterSome Q m (journal ++ e ∷ []) c
      from_old (inl b) = at_k (inl (weaker (done_by m journal) c (done_by-le m journal) b))
      from_old (inr b) =
          let within = begun-within m (done_by m journal) journal b.0 in
          at_k (inr (begun-more m (done_by m journal) journal e within ∙ b.0, weaker (done_by m journal + 1) c (omega (arith, within)) b.1))

      from_new : done_by m journal ≡ length journal → moment old < m → P (length journal) c ⊎ Q (length journal + 1) c → AfterSome Q m (journal ++ e ∷ []) c
      from_new full lt (inl b) = at_k (inl (subst (λ (n : ℕ). Q n c) (sym full) (weaker (length journal) c (omega arith) b)))
      from_new full lt (inr b) =
          at_k (subst (λ (n : ℕ). Q n c ⊎ ((begun_below m n (journal ++ e ∷ []) ≡ true) × Q (n + 1) c)) (sym full)
          (inr (begun-last m journal e ∙ (let l : e.begun < m = omega (arith, begun, lt) in grind (arith, nat_tests)), b)))

      by_time : (m ≤ moment old) ⊎ (moment old < m) → AfterSome Q m (journal ++ e ∷ []) c
      by_time (inl before) = from_old (safe m c ge before (each.past m c before left))
      by_time (inr later) = from_new (all m (omega arith)) later (each.each m c (omega arith) le left)

  -- the entry met a disk fault
  pub crash_faulted : is_whole e ≡ false → IsCrashSafe moment left_at Q start (journal ++ e ∷ []) new
  crash_faulted broken m c ge le left = not_done m c (grind arith) ge le left

  -- the entry is done at the moment of its return, when all images stand for it
  pub crash_ended : is_whole e ≡ true → e.done ≡ moment new → ((c : List ℕ) → left_at new (moment new) c → Q (length journal + 1) c) → IsCrashSafe moment left_at Q start (journal ++ e ∷ []) new
  crash_ended whole done last m c ge le left = at_end (split m (moment new))
    where
      split : (m n : ℕ) → (m < n) ⊎ (n ≤ m)
      split m n = grind arith

      at_end : (m < moment new) ⊎ (moment new ≤ m) → AfterSome Q m (journal ++ e ∷ []) c
      at_end (inl before) = not_done m c (let l : m < e.done = omega (arith, done) in grind (arith, nat_tests)) ge le left
      at_end (inr now) =
          let same : m ≡ moment new = omega arith in
          let is_done : (is_whole e && nat_le e.done m) ≡ true = grind (arith, nat_tests) in
          let n = done_by-done m journal e is_done (all m (omega (arith, each.later))) in
          inl (subst (λ (k : ℕ). Q k c) (sym n) (last c (subst (λ (k : ℕ). left_at new k c) same left)))
