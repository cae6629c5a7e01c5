-- A disk that was just formatted gives a heap without a block or a ticket.
use Rattle.std.proofs.Common.{◌≡◌, ◌≤◌, ◌+◌, ◌/◌, lit≤, arith, ℕ, List, [], length, Some, sym, ap, ◌∙◌, refl, subst}
use Rattle.std.proofs.lemmas.List.Elements.{All-nil}
use Rattle.sdr_base.specs.Entries.{BlocksAre}
use Rattle.sdr_base.specs.KeptHeap.{KeepsRegion, block_in, root_in}
use Rattle.sdr_base.specs.Moves.{KeepsSome}
use Rattle.sdr_base.specs.Objects.{Heap}
use Rattle.sdr_base.specs.Pools.{fresh_pools}
use Rattle.sdr_base.specs.declared.account.Acct.{Acct}
use Rattle.sdr_image.specs.Format.{formatted}
use Rattle.sdr_log.specs.Frame.{IsInLimits, disk_bytes}
use Rattle.sdr_log.specs.Log.{put_back_of}
use Rattle.sdr_log.specs.declared.frame.Frame.{Frame}
use Rattle.zco_acct.specs.Kept.{TicketFits}
use Rattle.zco_acct.specs.Words.{first_word, last_word}
use Rattle.law_formatted.specs.Formatted.{GivesFormatted, KeepsNothing}
use Rattle.zco_join.specs.Stocks.{TellsQueue}
use Rattle.law_pieces.specs.Texts.{HasNothing}
use Rattle.example_pieces.proofs.begun.Goals as goal

-- what a disk gives that was formatted
gives : (f : Frame) (old disk bytes : List ℕ) → IsInLimits f → disk_bytes f ≤ length old → disk ≡ formatted f old →
    put_back_of disk ≡ Some bytes → GivesFormatted f old bytes
gives f old disk bytes limits long is back = record { limits = limits; long = long; gives = sym (ap put_back_of is) ∙ back }

-- a heap is kept there
keeps : (bytes : List ℕ) → KeepsNothing 1024 bytes → KeepsSome (KeepsRegion (length bytes) bytes)
keeps bytes k = record {
  pools = fresh_pools 1024;
  keeps = subst (λ n. KeepsRegion n bytes (fresh_pools 1024)) (sym k.region.size) k.region;
}

-- which has nothing
nothing : {heap : Heap} (bytes : List ℕ) → ((h : Heap) → BlocksAre h.blocks [] →
    ((acct : Acct) → TellsQueue h (record { acct = acct; tickets = [] })) → HasNothing h) → heap.blocks ≡ block_in bytes → heap.roots ≡ root_in bytes →
    KeepsNothing 1024 bytes → HasNothing heap
nothing {heap} bytes law blocks roots k =
    law heap (subst (λ b. BlocksAre b []) (sym blocks) k.no_block)
    (λ acct. record {
      first = ap (λ (words : ℕ → ℕ). words (first_word acct)) roots ∙ (k.no_ticket acct).first;
      last = ap (λ (words : ℕ → ℕ). words (last_word acct)) roots ∙ (k.no_ticket acct).last;
      fits = All-nil TicketFits;
    })

-- and room for moves
roomy : (bytes : List ℕ) → KeepsNothing 1024 bytes → 304 ≤ length bytes / 4 + 4
roomy bytes k = let s = k.region.size in omega (arith, s)

-- the regions of the disk
abbrev frame : Frame
frame = record { log_lines = 256; heap_lines = 1024 }

limits : IsInLimits frame
limits = record { least_log = lit≤ tt; most_log = lit≤ tt; least_heap = lit≤ tt; most_heap = lit≤ tt }

pub returns-clause-kept : goal.returns-clause-kept
returns-clause-kept c =
    let disk = c.in-Ok-format.ensures in
    let back = c.in-Ok-open.ensures.opened.heap in
    let k = c.formatted_keeps.ensures.nothing frame _ _ (gives frame _ _ _ limits disk.cause.explained disk.formatted back) in
    rw (c.in-Ok-new.ensures.made, c.begin.ensures.begun) (keeps _ k)

pub returns-clause-nothing : goal.returns-clause-nothing
returns-clause-nothing c =
    let disk = c.in-Ok-format.ensures in
    let back = c.in-Ok-open.ensures.opened.heap in
    let k = c.formatted_keeps.ensures.nothing frame _ _ (gives frame _ _ _ limits disk.cause.explained disk.formatted back) in
    rw (c.in-Ok-new.ensures.made, c.begin.ensures.begun) (nothing _ c.texts_keep.ensures.nothing refl refl k)

pub returns-clause-spare : goal.returns-clause-spare
returns-clause-spare c =
    let disk = c.in-Ok-format.ensures in
    let back = c.in-Ok-open.ensures.opened.heap in
    let k = c.formatted_keeps.ensures.nothing frame _ _ (gives frame _ _ _ limits disk.cause.explained disk.formatted back) in
    rw (c.in-Ok-new.ensures.made, c.begin.ensures.begun) (roomy _ k)
