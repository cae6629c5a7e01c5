-- An object was made for clones, it has got their extents, and they may go.
use Rattle.std.proofs.Common.{◌≡◌, ◌+◌, ◌≤◌, ℕ, List, [], ◌∷◌, ◌++◌, refl, sym, ap, ◌∙◌, subst, arith, append_assoc}
use Rattle.std.proofs.lemmas.List.Elements.{All-head, All-nil, All-tail, All-weaker}
use Rattle.sdr_base.specs.Entries.{BlocksAre, Entries}
use Rattle.sdr_base.specs.Objects.{Heap}
use Rattle.sdr_base.specs.ZcoObjects.{ExtentRow, object_entries}
use Rattle.sdr_base.specs.declared.account.Acct.{Acct}
use Rattle.sdr_model.specs.declared.accounts.Ticket.{Ticket}
use Rattle.zco_acct.specs.Kept.{KeepsQueue, SomeQueue, queue_entries}
use Rattle.zco_obj.specs.Gone.{NamedSource, source_at, sources_entries}
use Rattle.zco_acct.specs.Charges.{charged}
use Rattle.zco_obj.specs.Amounts.{object_amounts}
use Rattle.zco_obj.specs.Charging.{Pays}
use Rattle.zco_obj.specs.Kept.{ExtentFits}
use Rattle.zco_obj.specs.Making.{CreatesObject, empty_row}
use Rattle.zco_part.specs.Pieces.{whole_row}
use Rattle.zco_part.specs.Sources.{all_counted, counted}
use Rattle.sdr_base.specs.declared.moves.Move.TheVariants.{Took}
use Rattle.sdr_base.specs.declared.account.Acct.TheVariants as accts
use Rattle.zco_join.proofs.AppendLemmas.{all_tell, pays_first, pays_last, pays_moves, pays_queue, pays_spare}
use Rattle.zco_obj.specs.Uses.{AreNamed, CountsUses, IsThere}
use Rattle.zco_obj.proofs.CountLemmas.{naming-append}
use Rattle.zco_join.specs.Appending.{HasAppended, SomeAppended}
use Rattle.zco_join.specs.Joining.{KeepsToJoin, Together, pieces_in}
use Rattle.zco_join.specs.Stocks.{TellsQueue, objects_entries, queues_entries}
use Rattle.zco_join.specs.declared.filled.Filled.{Filled}
use Rattle.zco_join.proofs.CountedLemmas.{all_behind, all_front, all_joined}
use Rattle.zco_join.proofs.TurnLemmas.{turn}

-- extents in another order are named too
pub named_moved : (acct : Acct) (sources : List NamedSource) (xs ys zs : List ExtentRow) → AreNamed acct (xs ++ (ys ++ zs)) sources →
    AreNamed acct (ys ++ (xs ++ zs)) sources
named_moved acct sources xs ys zs n =
    let P : ExtentRow → Type 0 = λ e. IsThere (source_at e.source sources) in
    let behind = all_behind P xs (ys ++ zs) n.there in
    record {
      there = all_joined P ys (xs ++ zs) (all_front P ys zs behind) (all_joined P xs zs (all_front P xs (ys ++ zs) n.there) (all_behind P ys zs behind));
      counted =
          All-weaker (CountsUses acct (xs ++ (ys ++ zs))) (CountsUses acct (ys ++ (xs ++ zs)))
          (λ s u. record {
            fits = u.fits;
            short = u.short;
            enough =
                let e = u.enough in
                let a = naming-append s.addr xs (ys ++ zs) in
                let b = naming-append s.addr ys zs in
                let c = naming-append s.addr ys (xs ++ zs) in
                let d = naming-append s.addr xs zs in
                omega (arith, e, a, b, c, d);
          }) sources n.counted;
    }

-- no piece changes no count
none_counted : (acct : Acct) (ss : List NamedSource) → all_counted acct [] ss ≡ ss
none_counted acct [] = refl
none_counted acct (s ∷ ss) = ap (λ (x : NamedSource). x ∷ all_counted acct [] ss) (one acct) ∙ ap (λ (xs : List NamedSource). s ∷ xs) (none_counted acct ss)
  where
    one : (a : Acct) → counted a [] s ≡ s
    one accts.Inbound =
        let e : s.source.inbound + 0 ≡ s.source.inbound = omega arith in
        λ i. record s { source = record s.source { inbound = e i } }
    one accts.Outbound =
        let e : s.source.outbound + 0 ≡ s.source.outbound = omega arith in
        λ i. record s { source = record s.source { outbound = e i } }

-- the clones that are to become one object
module _ {old : Heap} {acct : Acct} {parts : List Filled} {t : Together} (k : KeepsToJoin old acct parts t) where
  queue_stands : BlocksAre old.blocks (queue_entries acct t.tickets ++ (objects_entries (t.clones ++ t.others)
      ++ (queues_entries t.more ++ (sources_entries t.sources ++ t.rest))))
  queue_stands =
      let O = objects_entries (t.clones ++ t.others) in
      let Q = queue_entries acct t.tickets in
      let M = queues_entries t.more in
      let S = sources_entries t.sources in
      turn (1 ∷ []) (O ∷ Q ∷ M ∷ S ∷ []) t.rest
      (subst (λ (es : Entries). BlocksAre old.blocks (O ++ es)) (append_assoc Q M (S ++ t.rest)) k.keeps.stands)

  queue_told : TellsQueue old (record { acct = acct; tickets = t.tickets })
  queue_told = All-head (TellsQueue old) (record { acct = acct; tickets = t.tickets }) t.more k.keeps.queues

  pub keeps_queue : KeepsQueue old acct t.tickets
  keeps_queue = record {
    rest = _;
    stands = queue_stands;
    first = queue_told.first;
    last = queue_told.last;
    fits = queue_told.fits;
  }

  pub some_queue : SomeQueue old acct
  some_queue = record { tickets = t.tickets; keeps = keeps_queue }

  pub room_first : 1 ≤ old.spare
  room_first = let r = k.room in omega (arith, r)

  module _ {number object : ℕ} {made : Heap} (c : CreatesObject acct number object old made) where
    pays : Pays acct number object_amounts t.tickets (Took 72 object ∷ []) [] (object_entries object (empty_row acct)) old made
    pays = c.pays t.tickets keeps_queue

    abbrev tickets_then : List Ticket
    tickets_then = charged t.tickets number object_amounts

    stands_then : BlocksAre made.blocks ((object_entries object (whole_row acct []) ++ queue_entries acct tickets_then)
        ++ (sources_entries (all_counted acct [] t.sources) ++ (objects_entries (t.clones ++ t.others) ++ (queues_entries t.more ++ t.rest))))
    stands_then =
        let O = objects_entries (t.clones ++ t.others) in
        let M = queues_entries t.more in
        let S = sources_entries t.sources in
        let A = object_entries object (empty_row acct) ++ queue_entries acct tickets_then in
        let one : BlocksAre made.blocks (A ++ (O ++ (M ++ (S ++ t.rest)))) = pays.changes.kept (O ++ (M ++ (S ++ t.rest))) queue_stands in
        subst (λ (ss : List NamedSource). BlocksAre made.blocks (A ++ (sources_entries ss ++ (O ++ (M ++ t.rest))))) (sym (none_counted acct t.sources))
        (turn (3 ∷ 1 ∷ []) (A ∷ O ∷ M ∷ S ∷ []) t.rest one)

    -- it has no extent yet
    pub has_begun : HasAppended old acct parts t object [] (pieces_in t.clones) made
    has_begun = record {
      from = k;
      whole = refl;
      addrs = [];
      each = refl;
      fits = All-nil ExtentFits;
      tickets = tickets_then;
      stands = stands_then;
      queue = pays_queue pays queue_told;
      more = all_tell (pays_first pays) (pays_last pays) t.more (All-tail (TellsQueue old) (record { acct = acct; tickets = t.tickets }) t.more k.keeps.queues);
      moves = pays_moves pays;
      spent = let s = pays_spare pays in omega (arith, s);
      room = let s = pays_spare pays in let r = k.room in omega (arith, s, r);
    }

    pub some_begun : SomeAppended made object parts
    some_begun = record { start = old; acct = acct; t = t; has = has_begun }
