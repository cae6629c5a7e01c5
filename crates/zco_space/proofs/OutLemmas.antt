-- A ticket is taken out of a queue.
use Rattle.std.proofs.Common.{◌≡◌, ◌≢◌, ℕ, ◌-◌, Bool, true, false, cond, List, [], ◌∷◌, ◌++◌, None, Some, refl, sym, ap, ◌∙◌, arith, subst, append_assoc, append-nil}
use Rattle.std.specs.Prelude.{All, find}
use Rattle.std.proofs.lemmas.List.Elements.{All-cons, All-head, All-tail}
use Rattle.sdr_base.specs.Blocks.{Blocks, Reaches, with_block}
use Rattle.sdr_base.specs.Entries.{Entries, BlocksAre}
use Rattle.sdr_base.specs.Linked.{first_of, last_of, linked}
use Rattle.sdr_base.specs.Making.{besides, with_moves}
use Rattle.sdr_base.specs.Objects.{Heap, with_given, with_root}
use Rattle.sdr_base.specs.declared.account.Acct.{Acct}
use Rattle.sdr_base.specs.declared.kind.Kind.TheVariants as kinds
use Rattle.sdr_base.specs.declared.moves.Move.TheVariants.{Gave}
use Rattle.sdr_base.proofs.HeapLemmas.{given_blocks}
use Rattle.sdr_base.proofs.LinkedLemmas.{first-append, last-append, taken_out}
use Rattle.sdr_base.proofs.StandingLemmas.{found}
use Rattle.sdr_base.proofs.WritingLemmas.{reaches}
use Rattle.sdr_model.specs.declared.accounts.Ticket.{Ticket}
use Rattle.zco_acct.specs.Kept.{KeepsQueue, TicketFits, block_of, queue_entries, queued_block}
use Rattle.zco_acct.specs.Walks.{IsFirst, has_number}
use Rattle.zco_acct.specs.Words.{first_word, last_word}
use Rattle.zco_acct.specs.declared.queue.Found.{Found}
use Rattle.zco_acct.proofs.GrantLemmas.{queue-around}
use Rattle.zco_acct.proofs.QueueLemmas.{here, none_at_zero}
use Rattle.zco_acct.proofs.TicketLemmas.{words}
use Rattle.zco_space.specs.Links.{QueueChain, LinksLast, LinksNext, with_ends}
use Rattle.zco_space.specs.Shreds.{SomeFirst, TakesOut, without_number}
use Rattle.zco_space.proofs.LinkLemmas.{any_previous, last_reaches}
use Rattle.zco_space.proofs.RootLemmas.{ends_set, first_of_ends, last_blocks, last_of_ends}

-- the tickets without the first of a number
without : (number : ℕ) (xs : List Ticket) (t : Ticket) (ys : List Ticket) → find (has_number number) xs ≡ None →
    has_number number t ≡ true → without_number number (xs ++ (t ∷ ys)) ≡ xs ++ ys
unfolding without_number
without number [] t ys n is = ap (λ v. cond v ys (t ∷ without_number number ys)) is
without number (x ∷ xs) t ys n is =
    elim (has_number number x) as (λ v. cond v (Some x) (find (has_number number) xs) ≡ None →
    cond v (xs ++ (t ∷ ys)) (x ∷ without_number number (xs ++ (t ∷ ys))) ≡ x ∷ (xs ++ ys)) [
      | true ↦ λ k. let d : Some x ≡ None = k in cc
      | false ↦ λ k. ap (λ (l : List Ticket). x ∷ l) (without number xs t ys k is)
    ] n

pub without_is : (number : ℕ) {tickets : List Ticket} {found : Found} → (f : IsFirst (has_number number) tickets found) →
    without_number number tickets ≡ f.before ++ f.behind
without_is number {tickets} {found} f =
    ap (without_number number) f.whole ∙ without number f.before found.ticket f.behind f.none f.passes

-- their numbers fit still
pub All-without : {test : Ticket → Bool} {tickets : List Ticket} {found : Found} → (f : IsFirst test tickets found) →
    All TicketFits tickets → All TicketFits (f.before ++ f.behind)
All-without {test} {tickets} {found} f all = left f.before (subst (All TicketFits) f.whole all)
  where
    left : (xs : List Ticket) → All TicketFits (xs ++ (found.ticket ∷ f.behind)) → All TicketFits (xs ++ f.behind)
    left [] g = All-tail TicketFits found.ticket f.behind g
    left (x ∷ xs) g =
        All-cons TicketFits x (xs ++ f.behind) (All-head TicketFits x (xs ++ (found.ticket ∷ f.behind)) g)
        (left xs (All-tail TicketFits x (xs ++ (found.ticket ∷ f.behind)) g))

-- what stands behind those before it
abbrev pub from_it : Acct → List Ticket → Ticket → List Ticket → Entries → Entries
from_it acct xs t ys rest =
    (t.block, queued_block acct 0 (first_of block_of 0 ys) t)
    ∷ (linked block_of (queued_block acct) (last_of block_of 0 xs) 0 ys ++ rest)

-- the queue is opened at it
pub opened : {heap : Heap} {acct : Acct} {test : Ticket → Bool} {tickets : List Ticket} {found : Found} →
    KeepsQueue heap acct tickets → (f : IsFirst test tickets found) → (rest : Entries) →
    BlocksAre heap.blocks (queue_entries acct tickets ++ rest) →
    QueueChain heap acct f.before found.ticket.block (from_it acct f.before found.ticket f.behind rest)
opened {heap} {acct} {test} {tickets} {found} k f rest s =
    let xs = f.before in
    let t = found.ticket in
    let ys = f.behind in
    record {
      stands =
          subst (λ (es : Entries). BlocksAre heap.blocks es)
          (ap (λ (l : List Ticket). queue_entries acct l ++ rest) f.whole
          ∙ queue-around acct xs t ys rest
          ∙ ap (λ (es : Entries). linked block_of (queued_block acct) 0 t.block xs
          ++ ((t.block, queued_block acct 0 (first_of block_of 0 ys) t) ∷ (es ++ rest)))
          (any_previous acct t.block (last_of block_of 0 xs) 0 ys)) s;
      first = k.first ∙ ap (first_of block_of 0) f.whole ∙ first-append block_of (queued_block acct) 0 xs (t ∷ ys);
    }

module _ {acct : Acct} (found_one : Found) {old mid last : Heap}
    (l : LinksNext acct found_one.previous found_one.next old mid)
    (e : LinksLast acct found_one.next found_one.previous mid last) where
  linked_past : {test : Ticket → Bool} {tickets : List Ticket} → KeepsQueue old acct tickets →
      (f : IsFirst test tickets found_one) → (rest : Entries) → BlocksAre old.blocks
      (queue_entries acct tickets ++ rest) →
      QueueChain mid acct f.before found_one.next (from_it acct f.before found_one.ticket f.behind rest)
  linked_past k f rest s =
      l.links f.before found_one.ticket.block (from_it acct f.before found_one.ticket f.behind rest) f.at_previous
      (opened k f rest s)

  same_blocks : last.blocks ≡ mid.blocks
  same_blocks = ap (λ (x : Heap). x.blocks) e.links ∙ last_blocks acct found_one.next found_one.previous mid

  -- the ticket is there still
  pub still : SomeFirst acct found_one old → Reaches (last.blocks found_one.ticket.block) 0
  still q =
      let f = q.first in
      let t = found_one.ticket in
      let c = linked_past q.keeps f q.keeps.rest q.keeps.stands in
      reaches (last.blocks t.block) kinds.Ticket (words acct (first_of block_of 0 f.behind) t) [] 0
      (ap (λ (b : Blocks). b t.block) same_blocks
      ∙ found mid.blocks t.block (queued_block acct 0 (first_of block_of 0 f.behind) t)
      (linked block_of (queued_block acct) 0 found_one.next f.before)
      (linked block_of (queued_block acct) (last_of block_of 0 f.before) 0 f.behind ++ q.keeps.rest) c.stands) (omega arith)

  -- the ticket behind it isn't at 0
  none_behind : {test : Ticket → Bool} {tickets : List Ticket} → KeepsQueue old acct tickets →
      (f : IsFirst test tickets found_one) → found_one.next ≡ 0 → (ys : List Ticket) → f.behind ≡ ys → ys ≡ []
  none_behind k f z [] b = refl
  none_behind k f z (y ∷ ys) b =
      absurd (none_at_zero k
      (here k (f.before ++ found_one.ticket ∷ []) y ys
      (f.whole ∙ ap (λ (l : List Ticket). f.before ++ (found_one.ticket ∷ l)) b
      ∙ sym (append_assoc f.before (found_one.ticket ∷ []) (y ∷ ys))))
      (sym (f.at_next ∙ ap (first_of block_of 0) b) ∙ z))

  ended : {test : Ticket → Bool} {tickets : List Ticket} → KeepsQueue old acct tickets →
      (f : IsFirst test tickets found_one) → found_one.next ≡ 0 →
      found_one.previous ≡ last_of block_of 0 (f.before ++ f.behind)
  ended k f z =
      f.at_previous ∙ ap (last_of block_of 0) (sym (append-nil f.before))
      ∙ ap (λ (l : List Ticket). last_of block_of 0 (f.before ++ l)) (sym (none_behind k f z f.behind refl))

  follows : {test : Ticket → Bool} {tickets : List Ticket} → KeepsQueue old acct tickets →
      (f : IsFirst test tickets found_one) → (ys : List Ticket) → f.behind ≡ ys → (found_one.next ≡ 0 → ⊥) →
      old.roots (last_word acct) ≡ last_of block_of 0 (f.before ++ ys)
  follows k f [] b n = absurd (n (f.at_next ∙ ap (first_of block_of 0) b))
  follows k f (y ∷ ys) b n =
      k.last ∙ ap (last_of block_of 0) (f.whole ∙ ap (λ (l : List Ticket). f.before ++ (found_one.ticket ∷ l)) b)
      ∙ last-append block_of (queued_block acct) 0 f.before (found_one.ticket ∷ y ∷ ys)
      ∙ sym (last-append block_of (queued_block acct) 0 f.before (y ∷ ys))

  module _ (new : Heap) (w : new ≡ with_given last found_one.ticket.block) where
    -- all but the blocks
    rest_of : {test : Ticket → Bool} {tickets : List Ticket} → KeepsQueue old acct tickets →
        (f : IsFirst test tickets found_one) →
        besides new ≡ besides (with_ends (with_moves old (Gave found_one.ticket.block ∷ [])) acct (f.before ++ f.behind))
    rest_of k f =
        let queue = f.before ++ f.behind in
        let c = linked_past k f k.rest k.stands in
        let front : mid.roots (first_word acct) ≡ first_of block_of 0 queue =
        c.first ∙ ap (λ n. first_of block_of n f.before) f.at_next
        ∙ sym (first-append block_of (queued_block acct) 0 f.before f.behind) in
        let first : besides mid ≡ besides (with_root old (first_word acct) (first_of block_of 0 queue)) =
        l.same ∙ ap (λ v. besides (with_root old (first_word acct) v)) front in
        let lasts : besides last ≡ besides (with_ends old acct queue) =
        ap besides e.links
        ∙ ends_set old mid acct queue found_one.previous found_one.next first (ended k f) (follows k f f.behind refl) in
        ap besides w
        ∙ ap (λ (x : Heap). record x { moves = x.moves ++ Gave found_one.ticket.block ∷ []; spare = x.spare - 1 }) lasts

    -- the blocks
    stands_of : {test : Ticket → Bool} {tickets : List Ticket} → KeepsQueue old acct tickets →
        (f : IsFirst test tickets found_one) → (rest : Entries) → BlocksAre old.blocks (queue_entries acct tickets ++ rest) →
        BlocksAre new.blocks (queue_entries acct (f.before ++ f.behind) ++ rest)
    stands_of k f rest s =
        let t = found_one.ticket in
        let c = linked_past k f rest s in
        let gone : new.blocks ≡ with_block mid.blocks t.block None =
        given_blocks t.block last new w ∙ ap (λ (b : Blocks). with_block b t.block None) same_blocks in
        taken_out block_of (queued_block acct) mid.blocks new.blocks [] rest 0 0 f.before
        (queued_block acct 0 (first_of block_of 0 f.behind) t) t.block f.behind gone
        (subst (λ n. BlocksAre mid.blocks
        (linked block_of (queued_block acct) 0 n f.before ++ from_it acct f.before t f.behind rest)) f.at_next c.stands)

    -- the whole call
    pub takes_out : TakesOut acct found_one old new
    takes_out = record {
      changes = λ test tickets k f. record { kept = λ rest s. stands_of k f rest s };
      keeps = λ test tickets k f.
          let base = with_moves old (Gave found_one.ticket.block ∷ []) in
          record {
            rest = k.rest;
            stands = stands_of k f k.rest k.stands;
            first = ap (λ (h : Heap). h.roots (first_word acct)) (rest_of k f)
                ∙ first_of_ends base acct (f.before ++ f.behind);
            last = ap (λ (h : Heap). h.roots (last_word acct)) (rest_of k f)
                ∙ last_of_ends base acct (f.before ++ f.behind);
            fits = All-without f k.fits;
          };
      others = λ test tickets k f. rest_of k f;
    }

-- the ticket before it is there
pub previous_reaches : {old : Heap} {acct : Acct} {found_one : Found} → SomeFirst acct found_one old →
    found_one.previous ≢ 0 → Reaches (old.blocks found_one.previous) 96
previous_reaches q n =
    let f = q.first in last_reaches f.before (opened q.keeps f q.keeps.rest q.keeps.stands) f.at_previous n
