use Rattle.std.proofs.Common.{◌≡◌, ◌∙◌, List, ℕ, None, Some, ap, rules, subst, sym}
use Rattle.sdr_disk.specs.MemoryDisk.{bytes_now}
use Rattle.sdr_log.specs.Calls.{GivesNone, IsFramed}
use Rattle.sdr_log.specs.Log.{first_gate, heap_of, put_back_of}
use Rattle.sdr_log.specs.Logged.{GivesHeap}
use Rattle.sdr_image.specs.Peeking.{IsCopied}
use Rattle.sdr_image.proofs.PeekLemmas.{heap_closed, heap_copied, if_given, if_none, none_copied}
use Rattle.sdr_image.proofs.peeking.peek.Goals as goal

pub returns-clause-heap : goal.returns-clause-heap
returns-clause-heap g c =
    let same = c.is_closed.ensures.reads.same ∙ c.read_frame.ensures.reads.same in
    let copied = subst (λ (x : List ℕ). IsCopied c.in-Some.frame x (bytes_now c.in_ok-copy.copy)) same
    c.in_ok-copy.ensures.copy in
    if_given c.put_back_copy.result (λ s. GivesHeap s (bytes_now c.in_ok-copy.copy))
    (λ s. put_back_of (g.D.Disk.bytes c.args.disk.now) ≡ Some s)
    (λ s gives. heap_copied c.in-Some.frame _ _ s copied gives)
    c.put_back_copy.ensures.heap

pub returns-clause-not_formatted : goal.returns-clause-not_formatted
returns-clause-not_formatted g c =
    let same = c.is_closed.ensures.reads.same ∙ c.read_frame.ensures.reads.same in
    let copied = subst (λ (x : List ℕ). IsCopied c.in-Some.frame x (bytes_now c.in_ok-copy.copy)) same
    c.in_ok-copy.ensures.copy in
    if_none c.put_back_copy.result (GivesNone c.in-Some.frame (bytes_now c.in_ok-copy.copy))
    (put_back_of (g.D.Disk.bytes c.args.disk.now) ≡ None)
    (λ none. none_copied c.in-Some.frame _ _ copied none)
    c.put_back_copy.ensures.none

pub returns-then-branch-clause-heap : goal.returns-then-branch-clause-heap
returns-then-branch-clause-heap g c =
    let framed : IsFramed (g.D.Disk.bytes c.args.disk.now) c.in-Some.frame = search rules in
    if_given c.heap_region.result (λ s. s ≡ heap_of c.in-Some.frame (g.D.Disk.bytes c.is_closed.new.disk))
    (λ s. put_back_of (g.D.Disk.bytes c.args.disk.now) ≡ Some s)
    (λ s region. heap_closed c.in-Some.frame _ s framed
    (ap first_gate (sym c.read_frame.ensures.reads.same) ∙ c.in_ok-is_closed.ensures.closed c.if-branch.true)
    (region ∙ ap (heap_of c.in-Some.frame) (c.is_closed.ensures.reads.same ∙ c.read_frame.ensures.reads.same)))
    c.heap_region.ensures.heap
