-- What a disk that was formatted keeps.
use Rattle.std.proofs.Common.{◌≡◌, ◌≤◌, lit≤, ℕ, List, [], ◌*◌, refl, ◌∙◌, subst}
use Rattle.sdr_base.specs.Entries.{BlocksAre, at, times}
use Rattle.sdr_base.specs.FreshHeap.{fresh_heap}
use Rattle.sdr_base.specs.KeptPools.{KeepsSomeSmall}
use Rattle.sdr_base.specs.Pools.{fresh_pools}
use Rattle.sdr_base.specs.KeptHeap.{KeepsHeap, block_in}
use Rattle.sdr_base.specs.Roots.{roots_by}
use Rattle.sdr_base.specs.declared.account.Acct.{Acct}
use Rattle.sdr_base.specs.declared.account.Acct.TheVariants as accts
use Rattle.sdr_base.proofs.FreshBlocksLemmas.{fresh_block, fresh_keeps_heap, fresh_root, fresh_roots}
use Rattle.sdr_base.proofs.FreshHeapLemmas.{length-fresh_heap}
use Rattle.sdr_heap.proofs.HeldLemmas.{keeps_region}
use Rattle.zco_acct.specs.Words.{first_word, last_word}
use Rattle.law_formatted.specs.Formatted.{GivesFormatted, HasNoTicket, KeepsNothing}
use Rattle.sdr_image.proofs.FormattedLemmas.{put_back_of-formatted}
use Rattle.sdr_large.specs.Both.{KeepsBoth}
use Rattle.sdr_log.specs.declared.frame.Frame.{Frame}

-- the heap is the fresh one
formatted_is : (f : Frame) (disk bytes : List ℕ) → GivesFormatted f disk bytes → fresh_heap f.heap_lines ≡ bytes
formatted_is f disk bytes given =
    let gives = put_back_of-formatted f disk given.limits given.long in
    let is = given.gives in
    cc

-- a heap without a block
pub formatted_heap : (f : Frame) (disk bytes : List ℕ) → GivesFormatted f disk bytes →
    KeepsHeap bytes (fresh_pools f.heap_lines)
formatted_heap f disk bytes given =
    subst (λ (l : List ℕ). KeepsHeap l (fresh_pools f.heap_lines)) (formatted_is f disk bytes given)
    (fresh_keeps_heap f.heap_lines given.limits.least_heap given.limits.most_heap)

-- both pools
pub formatted_both : (f : Frame) (disk bytes : List ℕ) → GivesFormatted f disk bytes → KeepsBoth bytes
formatted_both f disk bytes given =
    let keeps = formatted_heap f disk bytes given in
    record { pools = fresh_pools f.heap_lines; small = keeps.small; large = keeps.large }

-- a small pool
pub formatted_small : (f : Frame) (disk bytes : List ℕ) → GivesFormatted f disk bytes → KeepsSomeSmall bytes
formatted_small f disk bytes given =
    record { pools = fresh_pools f.heap_lines; keeps = (formatted_heap f disk bytes given).small }

-- no block is in use
fresh_blocks : (lines : ℕ) → 32 ≤ lines → BlocksAre (block_in (fresh_heap lines)) []
unfolding at times
fresh_blocks lines least = record { same = λ addr. fresh_block lines addr least; once = λ addr. lit≤ tt; null = refl }

-- no ticket waits
fresh_first : (lines : ℕ) (acct : Acct) → roots_by (fresh_roots lines) (first_word acct) ≡ 0
unfolding roots_by
fresh_first lines accts.Inbound = refl
fresh_first lines accts.Outbound = refl

fresh_last : (lines : ℕ) (acct : Acct) → roots_by (fresh_roots lines) (last_word acct) ≡ 0
unfolding roots_by
fresh_last lines accts.Inbound = refl
fresh_last lines accts.Outbound = refl

fresh_nothing : (lines : ℕ) → 32 ≤ lines → lines ≤ 262144 → KeepsNothing lines (fresh_heap lines)
fresh_nothing lines least most = record {
  region =
      keeps_region (64 * lines) (fresh_heap lines) (fresh_pools lines) (length-fresh_heap lines least) (fresh_keeps_heap lines least most);
  no_block = fresh_blocks lines least;
  no_ticket = λ acct. record {
    first = fresh_root lines (first_word acct) least most ∙ fresh_first lines acct;
    last = fresh_root lines (last_word acct) least most ∙ fresh_last lines acct;
  };
}

-- neither is there
pub formatted_nothing : (f : Frame) (disk bytes : List ℕ) → GivesFormatted f disk bytes → KeepsNothing f.heap_lines bytes
formatted_nothing f disk bytes given =
    subst (KeepsNothing f.heap_lines) (formatted_is f disk bytes given)
    (fresh_nothing f.heap_lines given.limits.least_heap given.limits.most_heap)
