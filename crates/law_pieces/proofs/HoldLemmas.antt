-- A stock that is held, told in another order, and sources that count more or fewer extents.
use Rattle.std.proofs.Common.{◌≡◌, ◌≤◌, ℕ, Bool, true, false, cond, eqb, List, [], ◌∷◌, ◌++◌, length, Some, refl, sym, ap, ◌∙◌, subst, arith}
use Rattle.std.specs.Prelude.{All, map}
use Rattle.std.proofs.lemmas.List.Elements.{All-cons, All-head, All-nil, All-tail, All-weaker}
use Rattle.sdr_base.specs.Entries.{Entries}
use Rattle.sdr_base.specs.Objects.{Heap}
use Rattle.sdr_base.specs.ZcoObjects.{ExtentRow}
use Rattle.sdr_base.specs.declared.account.Acct.{Acct}
use Rattle.sdr_base.specs.declared.account.Acct.TheVariants as accts
use Rattle.sdr_model.specs.declared.accounts.Ticket.{Ticket}
use Rattle.zco_obj.specs.Gone.{NamedSource, less_source, source_at}
use Rattle.zco_obj.specs.Links.{piece_of}
use Rattle.zco_obj.specs.declared.extent.ExtentPiece.{ExtentPiece}
use Rattle.zco_part.specs.Sources.{counted}
use Rattle.zco_join.specs.Joining.{left_by}
use Rattle.zco_join.specs.Stocks.{CountsMore, KeepsStock, Queue, Standing, Stock}
use Rattle.law_pieces.specs.Texts.{HasAllBytes, HasBytes, Holds, both, other}
use Rattle.law_pieces.proofs.StockLemmas.{all_moved, objects_moved, queues_swapped}

-- the tickets of both
abbrev pub tickets_by : List Ticket → List Ticket → Acct → List Ticket
tickets_by i o accts.Inbound = i
tickets_by i o accts.Outbound = o

-- the queue of an account is told first
abbrev pub before_other : Acct → (Acct → List Ticket) → List Queue
before_other acct tickets = record { acct = acct; tickets = tickets acct } ∷ record { acct = other acct; tickets = tickets (other acct) } ∷ []

-- a stock with other queues
abbrev pub with_queues : Stock → List Queue → Stock
with_queues s queues = record s { queues = queues }

module _ {heap : Heap} (s : Stock) where
  pub queue_first : (acct : Acct) (tickets : Acct → List Ticket) → KeepsStock heap (with_queues s (both tickets)) →
      KeepsStock heap (with_queues s (before_other acct tickets))
  queue_first accts.Inbound tickets k = k
  queue_first accts.Outbound tickets k =
      queues_swapped (record { acct = accts.Inbound; tickets = tickets accts.Inbound }) (record { acct = accts.Outbound; tickets = tickets accts.Outbound }) k

  pub queues_back : (acct : Acct) (ts us : List Ticket) →
      KeepsStock heap (with_queues s (record { acct = acct; tickets = ts } ∷ record { acct = other acct; tickets = us } ∷ [])) →
      (tickets : Acct → List Ticket) × KeepsStock heap (with_queues s (both tickets))
  queues_back accts.Inbound ts us k = (tickets_by ts us, k)
  queues_back accts.Outbound ts us k =
      (tickets_by us ts, queues_swapped (record { acct = accts.Outbound; tickets = ts }) (record { acct = accts.Inbound; tickets = us }) k)

  -- with the stock told in another way
  pub holds_as : {most room : ℕ} (queues : List Queue) → KeepsStock heap (with_queues s queues) →
      Holds heap most room s → Holds heap most room (with_queues s queues)
  holds_as queues k h = record { keeps = k; short = h.short; bytes = h.bytes; counts = h.counts; spare = h.spare }

-- objects that stand behind others stand before them
pub holds_moved : {heap : Heap} {most room : ℕ} {queues : List Queue} {sources : List NamedSource} {rest : Entries} (as' bs cs : List Standing) →
    Holds heap most room (record { objects = as' ++ (bs ++ cs); queues = queues; sources = sources; rest = rest }) →
    Holds heap most room (record { objects = bs ++ (as' ++ cs); queues = queues; sources = sources; rest = rest })
holds_moved {most = most} {sources = sources} as' bs cs h = record {
  keeps = objects_moved as' bs cs h.keeps;
  short = all_moved (λ (z : Standing). length z.row.extents ≤ most) as' bs cs h.short;
  bytes = all_moved (HasAllBytes sources) as' bs cs h.bytes;
  counts = h.counts;
  spare = h.spare;
}

counts_one : (n m : ℕ) (s : NamedSource) → m ≤ n → CountsMore n s → CountsMore m s
counts_one n m s le c = record { inbound = let i = c.inbound in omega (arith, i, le); outbound = let o = c.outbound in omega (arith, o, le) }

pub counts_fewer : (n m : ℕ) (ss : List NamedSource) → m ≤ n → All (CountsMore n) ss → All (CountsMore m) ss
counts_fewer n m ss le all = All-weaker (CountsMore n) (CountsMore m) (λ s c. counts_one n m s le c) ss all

-- less room will do, and more extents
pub holds_less : {heap : Heap} {most most' room room' : ℕ} {s : Stock} → room' ≤ room → most ≤ most' → Holds heap most room s → Holds heap most' room' s
holds_less {most = most} {most' = most'} {room = room} {room' = room'} {s = s} le more h = record {
  keeps = h.keeps;
  short = All-weaker (λ (z : Standing). length z.row.extents ≤ most) (λ (z : Standing). length z.row.extents ≤ most') (λ z l. omega (arith, l, more)) s.objects h.short;
  bytes = h.bytes;
  counts = counts_fewer room room' s.sources le h.counts;
  spare = let r = h.spare in omega (arith, r, le);
}

-- a source that counts otherwise has the same bytes
pub record SameBytes (s s' : NamedSource) : Type 0 where
  pub addr : s'.addr ≡ s.addr
  pub row : s'.source.row ≡ s.source.row
  pub bytes : s'.bytes ≡ s.bytes

module _ (f : NamedSource → NamedSource) (same : (s : NamedSource) → SameBytes s (f s)) where
  one_kept : (p : ExtentPiece) (s : NamedSource) → HasBytes p (Some s) → HasBytes p (Some (f s))
  one_kept p s h =
      let r = same s in (
        ap (λ (row : _). row.medium) r.row ∙ h.0,
        ap (λ (row : _). row.path) r.row ∙ h.1,
        let l = ap (length {A = ℕ}) r.bytes in let i = h.2 in omega (arith, l, i),
      )

  pub bytes_kept : (p : ExtentPiece) (addr : ℕ) (ss : List NamedSource) → HasBytes p (source_at addr ss) → HasBytes p (source_at addr (map f ss))
  bytes_kept p addr [] h = absurd h
  bytes_kept p addr (s ∷ ss) h =
      subst (λ a. HasBytes p (cond (eqb a addr) (Some (f s)) (source_at addr (map f ss)))) (sym (same s).addr)
      (by (eqb s.addr addr) h (bytes_kept p addr ss))
    where
      by : (b : Bool) → HasBytes p (cond b (Some s) (source_at addr ss)) → (HasBytes p (source_at addr ss) → HasBytes p (source_at addr (map f ss))) →
          HasBytes p (cond b (Some (f s)) (source_at addr (map f ss)))
      by true here later = one_kept p s here
      by false here later = later here

  row_kept : (ss : List NamedSource) (es : List ExtentRow) → All (λ e. HasBytes (piece_of e) (source_at e.source ss)) es →
      All (λ e. HasBytes (piece_of e) (source_at e.source (map f ss))) es
  row_kept ss es all =
      All-weaker (λ (e : ExtentRow). HasBytes (piece_of e) (source_at e.source ss)) (λ (e : ExtentRow). HasBytes (piece_of e) (source_at e.source (map f ss)))
      (λ e h. bytes_kept (piece_of e) e.source ss h) es all

  pub all_kept : (ss : List NamedSource) (zs : List Standing) → All (HasAllBytes ss) zs → All (HasAllBytes (map f ss)) zs
  all_kept ss zs all = All-weaker (HasAllBytes ss) (HasAllBytes (map f ss)) (λ z h. row_kept ss z.row.extents h) zs all

pub counted_same : (acct : Acct) (ps : List ExtentPiece) (s : NamedSource) → SameBytes s (counted acct ps s)
counted_same accts.Inbound ps s = record { addr = refl; row = refl; bytes = refl }
counted_same accts.Outbound ps s = record { addr = refl; row = refl; bytes = refl }

less_same : (acct : Acct) (es : List ExtentRow) (s : NamedSource) → SameBytes s (less_source acct es s)
less_same accts.Inbound es s = record { addr = refl; row = refl; bytes = refl }
less_same accts.Outbound es s = record { addr = refl; row = refl; bytes = refl }

less_counts : (acct : Acct) (es : List ExtentRow) (n : ℕ) (s : NamedSource) → CountsMore n s → CountsMore n (less_source acct es s)
less_counts accts.Inbound es n s c = record { inbound = let i = c.inbound in omega (arith, i); outbound = c.outbound }
less_counts accts.Outbound es n s c = record { inbound = c.inbound; outbound = let o = c.outbound in omega (arith, o) }

all_less_counts : (acct : Acct) (es : List ExtentRow) (n : ℕ) (ss : List NamedSource) → All (CountsMore n) ss → All (CountsMore n) (map (less_source acct es) ss)
all_less_counts acct es n [] all = All-nil (CountsMore n)
all_less_counts acct es n (s ∷ ss) all =
    All-cons (CountsMore n) (less_source acct es s) (map (less_source acct es) ss) (less_counts acct es n s (All-head (CountsMore n) s ss all))
    (all_less_counts acct es n ss (All-tail (CountsMore n) s ss all))

-- once clones are gone, the sources have the same bytes, and may count as many more
pub left_counts : (n : ℕ) (gone : List Standing) (ss : List NamedSource) → All (CountsMore n) ss → All (CountsMore n) (left_by gone ss)
left_counts n [] ss all = all
left_counts n (z ∷ zs) ss all = left_counts n zs (map (less_source z.row.account z.row.extents) ss) (all_less_counts z.row.account z.row.extents n ss all)

pub left_bytes : (gone : List Standing) (ss : List NamedSource) (zs : List Standing) → All (HasAllBytes ss) zs → All (HasAllBytes (left_by gone ss)) zs
left_bytes [] ss zs all = all
left_bytes (z ∷ gone) ss zs all =
    left_bytes gone (map (less_source z.row.account z.row.extents) ss) zs
    (all_kept (less_source z.row.account z.row.extents) (less_same z.row.account z.row.extents) ss zs all)
