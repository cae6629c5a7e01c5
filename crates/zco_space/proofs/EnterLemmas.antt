-- A new ticket enters a queue.
use Rattle.std.proofs.Common.{◌≡◌, ◌+◌, ◌≢◌, ◌<◌, ◌^◌, ℕ, List, [], ◌∷◌, ◌++◌, refl, sym, ap, ◌∙◌, arith, subst, append_assoc}
use Rattle.std.specs.Prelude.{All}
use Rattle.std.proofs.lemmas.List.Elements.{All-cons, All-head, All-tail}
use Rattle.sdr_base.specs.Blocks.{Blocks, Reaches}
use Rattle.sdr_base.specs.Entries.{Entries, BlocksAre}
use Rattle.sdr_base.specs.Linked.{first_of, last_of, linked}
use Rattle.sdr_base.specs.Making.{Made, besides, with_moves}
use Rattle.sdr_base.specs.Objects.{Heap, with_root}
use Rattle.sdr_base.specs.Sources.{flag_word}
use Rattle.sdr_base.specs.Words.{TakesBytes, layout}
use Rattle.sdr_base.specs.ZcoObjects.{account_number}
use Rattle.sdr_base.specs.declared.kind.Kind.TheVariants as kinds
use Rattle.sdr_base.specs.declared.account.Acct.{Acct}
use Rattle.sdr_base.specs.declared.moves.Move.TheVariants.{Took}
use Rattle.sdr_base.proofs.LayoutLemmas.{length-layout}
use Rattle.sdr_base.proofs.LinkedLemmas.{first-append, last-append, linked-append}
use Rattle.sdr_base.proofs.StandingLemmas.{came}
use Rattle.sdr_model.specs.declared.accounts.Ticket.{Ticket}
use Rattle.zco_acct.specs.Kept.{KeepsQueue, SomeQueue, TicketFits, block_of, queue_entries, queued_block}
use Rattle.zco_acct.specs.Words.{first_word, last_word}
use Rattle.zco_acct.proofs.GrantLemmas.{queue-around}
use Rattle.zco_acct.proofs.QueueLemmas.{here, none_at_zero}
use Rattle.zco_acct.proofs.TicketLemmas.{words}
use Rattle.zco_space.specs.Links.{QueueChain, LinksLast, LinksNext, with_ends}
use Rattle.zco_space.specs.Places.{EntersQueue, FindsPlace, IsNew, IsPlace, TakesTicket, at_addr}
use Rattle.zco_space.specs.declared.requesting.Place.{Place}
use Rattle.zco_space.proofs.LinkLemmas.{any_previous, last_reaches}
use Rattle.zco_space.proofs.RootLemmas.{ends_set, first_of_ends, last_blocks, last_of_ends}

-- the words of a ticket that is new
pub takes_new : (acct : Acct) (new : Ticket) (next : ℕ) (old mid : Heap) (addr account : ℕ) → IsNew new →
    account ≡ account_number acct →
    TakesBytes kinds.Ticket
    (layout (new.number ∷ account ∷ new.coarse ∷ new.fine ∷ new.asked.file ∷ new.asked.bulk ∷ new.asked.heap ∷ 0 ∷ 0 ∷ 0 ∷ 0
    ∷ next ∷ []) []) addr old mid → TakesTicket acct new next old mid addr
takes_new acct new next old mid addr account n e t = record {
  takes =
      subst (λ (ws : List ℕ). TakesBytes kinds.Ticket (layout ws []) addr old mid)
      (λ i. new.number ∷ e i ∷ new.coarse ∷ new.fine ∷ new.asked.file ∷ new.asked.bulk ∷ new.asked.heap
      ∷ (sym n.left i).file ∷ (sym n.left i).bulk ∷ (sym n.left i).heap ∷ flag_word (sym n.waiting i) ∷ next ∷ []) t;
}

-- the ticket's block was taken
pub took_ticket : {acct : Acct} {new : Ticket} {next addr : ℕ} {old mid : Heap} → TakesTicket acct new next old mid addr →
    Made (Took 96 addr ∷ []) old mid
took_ticket {acct} {new} {next} {addr} {old} {mid} t = record {
  all =
      ap besides t.takes.taken
      ∙ ap (λ n. besides (with_moves old (Took n addr ∷ [])))
      (let l = length-layout (words acct next new) [] in let z : 96 + 0 ≡ 96 = omega arith in l ∙ z);
}

-- the numbers of the tickets fit still
pub All-entered : {new : Ticket} (addr : ℕ) → IsNew new → addr < 2 ^ 64 → (xs ys : List Ticket) →
    All TicketFits (xs ++ ys) → All TicketFits (xs ++ (at_addr new addr ∷ ys))
All-entered {new} addr n small [] ys g =
    All-cons TicketFits (at_addr new addr) ys
    (record {
      block = small;
      number = n.fits.number;
      coarse = n.fits.coarse;
      fine = n.fits.fine;
      asked = n.fits.asked;
      left = n.fits.left;
    }) g
All-entered {new} addr n small (x ∷ xs) ys g =
    All-cons TicketFits x (xs ++ (at_addr new addr ∷ ys)) (All-head TicketFits x (xs ++ ys) g)
    (All-entered addr n small xs ys (All-tail TicketFits x (xs ++ ys) g))

-- what stands behind those before it
abbrev from_it : Acct → Ticket → ℕ → ℕ → List Ticket → List Ticket → Entries → Entries
from_it acct new next addr xs ys rest =
    (addr, queued_block acct 0 next (at_addr new addr)) ∷ (linked block_of (queued_block acct) (last_of block_of 0 xs) 0 ys ++ rest)

module _ {acct : Acct} {new : Ticket} {place : Place} {addr : ℕ} {old mid : Heap}
    (t : TakesTicket acct new place.next old mid addr) where
  -- the queue is opened at its place
  pub opened : {tickets : List Ticket} → KeepsQueue old acct tickets → (p : IsPlace new tickets place) → (rest : Entries) →
      BlocksAre old.blocks (queue_entries acct tickets ++ rest) →
      QueueChain mid acct p.before (first_of block_of 0 p.behind)
      (from_it acct new place.next addr p.before p.behind rest)
  opened {tickets} k p rest s =
      let xs = p.before in
      let ys = p.behind in
      let A = linked block_of (queued_block acct) 0 (first_of block_of 0 ys) xs in
      let B = linked block_of (queued_block acct) (last_of block_of 0 xs) 0 ys in
      let cut : BlocksAre old.blocks (A ++ (B ++ rest)) =
      subst (λ (es : Entries). BlocksAre old.blocks es)
      (ap (λ (l : List Ticket). queue_entries acct l ++ rest) p.whole
      ∙ ap (λ (es : Entries). es ++ rest) (linked-append block_of (queued_block acct) 0 0 xs ys)
      ∙ append_assoc A B rest) s in
      record {
        stands =
            subst (λ (b : Blocks). BlocksAre b (A ++ ((addr, queued_block acct 0 place.next (at_addr new addr)) ∷ (B ++ rest))))
            (sym (ap (λ (h : Heap). h.blocks) t.takes.taken))
            (came old.blocks addr (queued_block acct 0 place.next (at_addr new addr)) A (B ++ rest) t.takes.nonzero t.takes.fresh cut);
        first = ap (λ (h : Heap). h.roots (first_word acct)) t.takes.taken ∙ k.first ∙ ap (first_of block_of 0) p.whole
            ∙ first-append block_of (queued_block acct) 0 xs ys;
      }

  -- the ticket before it is there
  pub previous_reaches : SomeQueue old acct → FindsPlace acct new old place → place.previous ≢ 0 →
      Reaches (mid.blocks place.previous) 96
  previous_reaches q f n =
      let p = f.finds q.tickets q.keeps in
      last_reaches p.before (opened q.keeps p q.keeps.rest q.keeps.stands) p.at_previous n

  module _ {lk now : Heap} (l : LinksNext acct place.previous addr mid lk) (e : LinksLast acct place.next addr lk now) where
    chain : {tickets : List Ticket} → KeepsQueue old acct tickets → (p : IsPlace new tickets place) → (rest : Entries) →
        BlocksAre old.blocks (queue_entries acct tickets ++ rest) → QueueChain lk acct p.before addr (from_it acct new place.next addr p.before p.behind rest)
    chain k p rest s =
        l.links p.before (first_of block_of 0 p.behind) (from_it acct new place.next addr p.before p.behind rest) p.at_previous (opened k p rest s)

    -- linked on either side, it stands in the queue
    joined : {tickets : List Ticket} (p : IsPlace new tickets place) (rest : Entries) →
        linked block_of (queued_block acct) 0 addr p.before ++ from_it acct new place.next addr p.before p.behind rest
        ≡ queue_entries acct (p.before ++ (at_addr new addr ∷ p.behind)) ++ rest
    joined p rest =
        let xs = p.before in
        let ys = p.behind in
        let A = linked block_of (queued_block acct) 0 addr xs in
        ap (λ (n : ℕ). A ++ ((addr, queued_block acct 0 n (at_addr new addr))
        ∷ (linked block_of (queued_block acct) (last_of block_of 0 xs) 0 ys ++ rest))) p.at_next
        ∙ ap (λ (es : Entries). A ++ ((addr, queued_block acct 0 (first_of block_of 0 ys) (at_addr new addr)) ∷ (es ++ rest)))
        (any_previous acct (last_of block_of 0 xs) addr 0 ys)
        ∙ sym (queue-around acct xs (at_addr new addr) ys rest)

    same_blocks : now.blocks ≡ lk.blocks
    same_blocks = ap (λ (x : Heap). x.blocks) e.links ∙ last_blocks acct place.next addr lk

    follows : {tickets : List Ticket} → KeepsQueue old acct tickets → (p : IsPlace new tickets place) →
        (ys : List Ticket) → p.behind ≡ ys → (place.next ≡ 0 → ⊥) →
        old.roots (last_word acct) ≡ last_of block_of 0 (p.before ++ (at_addr new addr ∷ ys))
    follows k p [] b n = absurd (n (p.at_next ∙ ap (first_of block_of 0) b))
    follows k p (y ∷ ys) b n =
        k.last ∙ ap (last_of block_of 0) (p.whole ∙ ap (λ (l : List Ticket). p.before ++ l) b)
        ∙ last-append block_of (queued_block acct) 0 p.before (y ∷ ys)
        ∙ sym (last-append block_of (queued_block acct) 0 p.before (at_addr new addr ∷ y ∷ ys))

    -- the ticket at the end of a queue is no ticket of address 0
    nonzero : {tickets : List Ticket} → KeepsQueue old acct tickets → (p : IsPlace new tickets place) → place.next ≡ 0 →
        (ys : List Ticket) → p.behind ≡ ys → ys ≡ []
    nonzero k p z [] b = refl
    nonzero k p z (y ∷ ys) b =
        absurd (none_at_zero k
        (here k p.before y ys (p.whole ∙ ap (λ (l : List Ticket). p.before ++ l) b))
        (sym (p.at_next ∙ ap (first_of block_of 0) b) ∙ z))

    ended : {tickets : List Ticket} → KeepsQueue old acct tickets → (p : IsPlace new tickets place) → place.next ≡ 0 →
        addr ≡ last_of block_of 0 (p.before ++ (at_addr new addr ∷ p.behind))
    ended k p z =
        sym (last-append block_of (queued_block acct) 0 p.before (at_addr new addr ∷ p.behind)
        ∙ ap (λ (l : List Ticket). last_of block_of addr l) (nonzero k p z p.behind refl))

    -- all but the blocks
    rest_of : {tickets : List Ticket} → KeepsQueue old acct tickets → (p : IsPlace new tickets place) →
        besides now
        ≡ besides (with_ends (with_moves old (Took 96 addr ∷ [])) acct (p.before ++ (at_addr new addr ∷ p.behind)))
    rest_of k p =
        let queue = p.before ++ (at_addr new addr ∷ p.behind) in
        let base = with_moves old (Took 96 addr ∷ []) in
        let front : lk.roots (first_word acct) ≡ first_of block_of 0 queue =
        (chain k p k.rest k.stands).first
        ∙ sym (first-append block_of (queued_block acct) 0 p.before (at_addr new addr ∷ p.behind)) in
        let first : besides lk ≡ besides (with_root base (first_word acct) (first_of block_of 0 queue)) =
        l.same
        ∙ ap (λ (h : Heap). with_root h (first_word acct) (lk.roots (first_word acct))) (took_ticket t).all
        ∙ ap (λ v. besides (with_root base (first_word acct) v)) front in
        ap besides e.links
        ∙ ends_set base lk acct queue addr place.next first (ended k p) (follows k p p.behind refl)

    -- the blocks
    stands_of : {tickets : List Ticket} → KeepsQueue old acct tickets → (p : IsPlace new tickets place) → (rest : Entries) →
        BlocksAre old.blocks (queue_entries acct tickets ++ rest) →
        BlocksAre now.blocks (queue_entries acct (p.before ++ (at_addr new addr ∷ p.behind)) ++ rest)
    stands_of k p rest s =
        subst (λ (b : Blocks). BlocksAre b (queue_entries acct (p.before ++ (at_addr new addr ∷ p.behind)) ++ rest))
        (sym same_blocks)
        (subst (λ (es : Entries). BlocksAre lk.blocks es) (joined p rest) (chain k p rest s).stands)

    -- the whole call
    pub enters : IsNew new → FindsPlace acct new old place → EntersQueue acct new old now addr
    enters n f = record {
      adds = λ tickets k. record {
        nonzero = t.takes.nonzero;
        small = t.takes.small;
        fresh = t.takes.fresh;
        changes = record {
          kept = λ rest s.
              let p = f.finds tickets k in
              subst (λ (q : List Ticket). BlocksAre now.blocks (queue_entries acct q ++ rest)) (sym (p.enters addr))
              (stands_of k p rest s);
        };
      };
      keeps = λ tickets k.
          let p = f.finds tickets k in
          let queue = p.before ++ (at_addr new addr ∷ p.behind) in
          let base = with_moves old (Took 96 addr ∷ []) in
          let small = t.takes.small in
          subst (KeepsQueue now acct) (sym (p.enters addr)) (record {
            rest = k.rest;
            stands = stands_of k p k.rest k.stands;
            first = ap (λ (h : Heap). h.roots (first_word acct)) (rest_of k p) ∙ first_of_ends base acct queue;
            last = ap (λ (h : Heap). h.roots (last_word acct)) (rest_of k p) ∙ last_of_ends base acct queue;
            fits = All-entered addr n (omega (arith, small)) p.before p.behind (subst (All TicketFits) p.whole k.fits);
          });
      others = λ tickets k.
          let p = f.finds tickets k in
          rest_of k p
          ∙ ap (λ (q : List Ticket). besides (with_ends (with_moves old (Took 96 addr ∷ [])) acct q)) (sym (p.enters addr));
    }
