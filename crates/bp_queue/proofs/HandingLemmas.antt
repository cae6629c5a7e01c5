-- What each call leaves of bundles.
use Rattle.std.proofs.Common.{◌≡◌, ◌≢◌, ℕ, ◌+◌, ◌-◌, ◌≤◌, Bool, true, false, cond, List, [], ◌∷◌, ◌++◌, length, Option, Some, None, refl, sym, ap, ◌∙◌, subst, arith, append_assoc, append-nil, length-append}
use Rattle.std.specs.Prelude.{◌==◌, if◌then◌else◌, All, flat_map, fold, map, sum_by}
use Rattle.std.specs.List.{AllByRecursion as Each}
use Rattle.std.proofs.lemmas.Bool.{eq-eqb, ne_eqb}
use Rattle.std.proofs.lemmas.List.{map-append}
use Rattle.std.proofs.lemmas.List.Elements.{All-cons, All-from_recursion, All-head, All-nil, All-tail, recursion_from_All}
use Rattle.std.proofs.lemmas.List.Sums.{sum_by-cons}
use Rattle.sdr_base.specs.Blocks.{Blocks, with_at}
use Rattle.sdr_base.specs.Entries.{BlocksAre, Changes, Entries}
use Rattle.sdr_base.specs.Linked.{linked}
use Rattle.sdr_base.specs.Making.{Made, besides, gave, with_moves}
use Rattle.sdr_base.specs.Objects.{Heap}
use Rattle.sdr_base.specs.ZcoObjects.{ExtentRow, ObjectRow, object_block, object_entries}
use Rattle.sdr_base.specs.declared.account.Acct.{Acct}
use Rattle.sdr_base.specs.declared.account.Acct.TheVariants as accts
use Rattle.sdr_base.specs.declared.account.Amounts.{Amounts}
use Rattle.sdr_base.specs.declared.moves.Move.TheVariants.{Took}
use Rattle.sdr_base.proofs.GaveLemmas.{gave_spare}
use Rattle.sdr_base.proofs.StandingLemmas.{found, moved, moved_back}
use Rattle.sdr_model.specs.Accounts.{is_same_account}
use Rattle.sdr_model.specs.Charges.{object_bytes}
use Rattle.sdr_model.specs.declared.accounts.Ticket.{Ticket}
use Rattle.zco_acct.specs.Kept.{queue_entries as tickets_of}
use Rattle.zco_acct.specs.Words.{first_word, last_word, with_occupied}
use Rattle.zco_obj.specs.Amounts.{object_amounts}
use Rattle.zco_obj.specs.Charging.{Pays}
use Rattle.zco_obj.specs.Gone.{NamedSource, sources_entries}
use Rattle.zco_obj.specs.Kept.{CapsuleFits, ExtentFits, ObjectFits}
use Rattle.zco_obj.specs.Leaving.{raws_left}
use Rattle.zco_obj.specs.Making.{CreatesObject, empty_row}
use Rattle.zco_obj.specs.Uses.{AreNamed, CountsUses, IsThere}
use Rattle.bp_queue.specs.Bundles.{Bundles, HasNothing, KeepsBundles, SomeBundles, TellsTickets, bundle_entries, bundle_extents, bundle_moves, extents_for, moves_with, tickets_entries, with_loose, with_taken}
use Rattle.bp_queue.specs.Calls.{CreatesQueues}
use Rattle.bp_queue.specs.Expiring.{Expired, ExpiresAll, Expiry, expire_one, expiry_of, object_for}
use Rattle.bp_queue.specs.Kept.{KeepsQueues, Row, RowFits, queue_entries, waiting_of}
use Rattle.bp_queue.specs.Putting.{PutsLast}
use Rattle.bp_queue.specs.States.{Waiting, except, highest, later_than, object_of, overdue}
use Rattle.bp_queue.specs.Taking.{TakesFirst, TakesRow, blocks_of}
use Rattle.bp_queue.specs.declared.queues.Queues.{Queues}
use Rattle.bp_queue.proofs.BundleLemmas.{beside_late, gone_few, keeps_late, kept_unordered, moves_late, named_late, named_unordered, object_in, overdue_first, queue_kept, ticket_among}
use Rattle.bp_queue.proofs.FitLemmas.{rows_apart}
use Rattle.bp_queue.proofs.ReorderLemmas.{Reorders, all_behind, all_reordered, reorders_behind, reorders_front, reorders_part, reorders_same, reorders_then, sum_reordered, unordered_behind}
use Rattle.bp_queue.proofs.SortingLemmas.{each_at, each_both, each_weaker}
use Rattle.bp_queue.proofs.StateLemmas.{highest_among, split_object}

-- the tickets are told by control words that stay
tells_still : {old new : Heap} {acct : Acct} {tickets : List Ticket} → new.roots (first_word acct) ≡ old.roots (first_word acct) →
    new.roots (last_word acct) ≡ old.roots (last_word acct) → TellsTickets old acct tickets → TellsTickets new acct tickets
tells_still f l t = record { first = f ∙ t.first; last = l ∙ t.last; fits = t.fits }

tells_same : {old new : Heap} {acct : Acct} {tickets : List Ticket} → new.roots ≡ old.roots → TellsTickets old acct tickets →
    TellsTickets new acct tickets
tells_same {acct = acct} e t = tells_still (ap (λ roots. roots (first_word acct)) e) (ap (λ roots. roots (last_word acct)) e) t

-- the queues were made, where nothing stood
pub created : {q : Queues} {room : ℕ} {old new : Heap} → HasNothing old → room + 4 ≤ old.spare → CreatesQueues q old new → SomeBundles new q [] room
unfolding linked
created {q} {room} {old} {new} h r c = record {
  bundles = record { next = 1; rows = []; object_at = λ addr. empty_row accts.Outbound; sources = []; tickets = λ acct. []; rest = [] };
  keeps = record {
    queues = c.keeps [] h.no_block;
    fits = All-nil (λ (addr : ℕ). ObjectFits (empty_row accts.Outbound));
    named = λ acct. record {
      there = All-nil (λ (e : ExtentRow). IsThere None);
      counted = All-nil (CountsUses acct []);
    };
    tickets = λ acct. tells_same (ap (λ (x : Heap). x.roots) c.made.all) (h.no_ticket acct);
    spare = let s = ap (λ (x : Heap). x.spare) c.made.all in omega (arith, s, r);
  };
}

-- Bundles that are kept, of which others wait once a call was made.
module _ {old : Heap} {q : Queues} {loose : List ℕ} {room : ℕ} {b : Bundles} (k : KeepsBundles old q loose room b) where
  abbrev beside : Entries
  beside = sources_entries b.sources ++ (tickets_entries b.tickets ++ b.rest)

  handed_on : {new : Heap} {next more : ℕ} (used : ℕ) {rows : List Row} {others : List ℕ} →
      KeepsQueues new.blocks q next rows (bundle_entries b.object_at (with_loose b.rows loose) ++ beside) → new.roots ≡ old.roots →
      Reorders (with_loose b.rows loose) (with_loose rows others) → old.spare ≤ new.spare + used → more + used ≤ room →
      KeepsBundles new q others more (record b { next = next; rows = rows })
  handed_on {new} {next} {more} used {rows} {others} keeps same turns spare few = record {
    queues =
        turns.parts (λ addr. object_entries addr (b.object_at addr)) (KeepsQueues new.blocks q next rows)
        (kept_unordered new.blocks q next rows) beside keeps;
    fits = all_reordered (λ addr. ObjectFits (b.object_at addr)) turns k.fits;
    named = λ acct.
        let P : List ExtentRow → Type 0 = λ es. AreNamed acct es b.sources in
        let own : ℕ → List ExtentRow = λ addr. extents_for acct (b.object_at addr) in
        subst P (append-nil (flat_map own (with_loose rows others)))
        (turns.parts own P (named_unordered acct b.sources) []
        (subst P (sym (append-nil (flat_map own (with_loose b.rows loose)))) (k.named acct)));
    tickets = λ acct. tells_same same (k.tickets acct);
    spare =
        let s = sum_reordered (λ (addr : ℕ). moves_with (b.object_at addr)) turns in
        let r = k.spare in
        omega (arith, s, r, spare, few);
  }

-- one that didn't wait waits
puts_last : (before behind : List ℕ) (rows : List Row) (r : Row) →
    Reorders (with_loose rows (before ++ (r.waiting.object ∷ behind))) (with_loose (rows ++ (r ∷ [])) (before ++ behind))
puts_last before behind rows r =
    let M = map object_in rows in
    let all = before ++ (behind ++ M) in
    let one : Reorders ((before ++ (r.waiting.object ∷ behind)) ++ M) (r.waiting.object ∷ all) =
    reorders_then (reorders_same (append_assoc before (r.waiting.object ∷ behind) M)) (reorders_front before (behind ++ M) r.waiting.object) in
    let two : Reorders (r.waiting.object ∷ all) (all ++ (r.waiting.object ∷ [])) =
    reorders_then (reorders_same (ap (λ xs. r.waiting.object ∷ xs) (sym (append-nil all)))) (reorders_part (r.waiting.object ∷ []) all []) in
    reorders_then one
    (reorders_then two
    (reorders_same
    (ap (λ xs. xs ++ (r.waiting.object ∷ [])) (sym (append_assoc before behind M))
    ∙ append_assoc (before ++ behind) M (r.waiting.object ∷ [])
    ∙ ap (λ xs. (before ++ behind) ++ xs) (sym (map-append object_in rows (r ∷ []))))))

pub put : {q : Queues} (before behind : List ℕ) {room : ℕ} {w : Waiting} {old new : Heap} →
    SomeBundles old q (before ++ (w.object ∷ behind)) (room + 3) → PutsLast q w old new → SomeBundles new q (before ++ behind) room
put {q} before behind {room} {w} {old} {new} s p =
    let b = s.bundles in
    let r : Row = record { waiting = w; number = b.next; in_class = p.at.in_class; in_line = p.at.in_line } in
    let one = p.puts b.next b.rows _ s.keeps.queues in
    record {
      bundles = record b { next = b.next + 1; rows = b.rows ++ (r ∷ []) };
      keeps =
          handed_on s.keeps 3 one.keeps (ap (λ (x : Heap). x.roots) p.made.all) (puts_last before behind b.rows r)
          (let n = ap (λ (x : Heap). x.spare) p.made.all in omega (arith, n)) (omega arith);
    }

-- one that waited doesn't wait any more
takes_one : (loose : List ℕ) (before behind : List Row) (r : Row) →
    Reorders (with_loose (before ++ (r ∷ behind)) loose) (with_loose (before ++ behind) (r.waiting.object ∷ loose))
takes_one loose before behind r =
    let A = map object_in before in
    let B = map object_in behind in
    let one : Reorders (with_loose (before ++ (r ∷ behind)) loose) ((loose ++ A) ++ (r.waiting.object ∷ B)) =
    reorders_same
    (ap (λ xs. loose ++ xs) (map-append object_in before (r ∷ behind)) ∙ sym (append_assoc loose A (r.waiting.object ∷ B))) in
    reorders_then one
    (reorders_then (reorders_front (loose ++ A) B r.waiting.object)
    (reorders_same
    (ap (λ xs. r.waiting.object ∷ xs)
    (append_assoc loose A B ∙ ap (λ xs. loose ++ xs) (sym (map-append object_in before behind))))))

few_blocks : (o : Option Row) → length (blocks_of o) ≤ 3
few_blocks None = omega arith
few_blocks (Some r) = omega arith

-- the first one of the highest class was taken
module _ {q : Queues} {loose : List ℕ} {most object : ℕ} {old new : Heap} (s : SomeBundles old q loose most) (t : TakesFirst q old new object) where
  abbrev waited : List Row
  waited = s.bundles.rows

  abbrev left : List Row
  left = except waiting_of (highest waiting_of waited) waited

  abbrev others_there : Entries
  others_there = bundle_entries s.bundles.object_at (with_loose waited loose) ++ beside s.keeps

  takes : TakesRow q s.bundles.next waited others_there old new object
  takes = t.takes s.bundles.next waited others_there s.keeps.queues

  hands : {room : ℕ} {others : List ℕ} → room + 3 ≤ most → Reorders (with_loose waited loose) (with_loose left others) →
      SomeBundles new q others room
  hands few turns = record {
    bundles = record s.bundles { rows = left };
    keeps =
        handed_on s.keeps 3 takes.keeps (ap (λ (x : Heap). x.roots) takes.made.all) turns
        (let n = gave_spare (blocks_of (highest waiting_of waited)) takes.made in
        let f = few_blocks (highest waiting_of waited) in omega (arith, n, f))
        few;
  }

  taken_by : {room : ℕ} → room + 3 ≤ most → (o : Option Row) → highest waiting_of waited ≡ o → SomeBundles new q (with_taken object loose) room
  taken_by {room} few None e =
      let all : left ≡ waited = ap (λ (o : Option Row). except waiting_of o waited) e in
      let none : object ≡ 0 = takes.named ∙ ap (object_of waiting_of) e in
      subst (λ n. SomeBundles new q (with_taken n loose) room) (sym none)
      (hands few (reorders_same (ap (λ (xs : List Row). with_loose xs loose) (sym all))))
  taken_by {room} few (Some r) e =
      let fit = s.keeps.queues.fits in
      let among = highest_among waiting_of r waited e in
      let split = split_object waiting_of r waited (rows_apart fit) among in
      let all : left ≡ split.before ++ split.behind = ap (λ (o : Option Row). except waiting_of o waited) e ∙ split.left in
      let is : object ≡ r.waiting.object = takes.named ∙ ap (object_of waiting_of) e in
      let some : r.waiting.object ≢ 0 = (each_at RowFits r waited (recursion_from_All RowFits waited fit.fits) among).some in
      let loosed : r.waiting.object ∷ loose ≡ with_taken object loose =
      sym
      (ap (λ n. with_taken n loose) is ∙ ap (λ v. cond v loose (r.waiting.object ∷ loose)) (ne_eqb r.waiting.object 0 some)) in
      subst (λ xs. SomeBundles new q xs room) loosed
      (hands few
      (reorders_then (reorders_same (ap (λ (xs : List Row). with_loose xs loose) split.whole))
      (reorders_then (takes_one loose split.before split.behind r)
      (reorders_same (ap (λ (xs : List Row). with_loose xs (r.waiting.object ∷ loose)) (sym all))))))

  pub taken : {room : ℕ} → room + 3 ≤ most → SomeBundles new q (with_taken object loose) room
  taken few = taken_by few (highest waiting_of waited) refl

-- the control words that tell of tickets aren't those that say what is occupied
occupied_first : (heap : Heap) (charged acct : Acct) (amounts : Amounts) →
    (with_occupied heap charged amounts).roots (first_word acct) ≡ heap.roots (first_word acct)
unfolding with_at
occupied_first heap accts.Inbound accts.Inbound amounts = refl
occupied_first heap accts.Inbound accts.Outbound amounts = refl
occupied_first heap accts.Outbound accts.Inbound amounts = refl
occupied_first heap accts.Outbound accts.Outbound amounts = refl

occupied_last : (heap : Heap) (charged acct : Acct) (amounts : Amounts) →
    (with_occupied heap charged amounts).roots (last_word acct) ≡ heap.roots (last_word acct)
unfolding with_at
occupied_last heap accts.Inbound accts.Inbound amounts = refl
occupied_last heap accts.Inbound accts.Outbound amounts = refl
occupied_last heap accts.Outbound accts.Inbound amounts = refl
occupied_last heap accts.Outbound accts.Outbound amounts = refl

-- What an expiry comes to: which other blocks it leaves, and what it doesn't change.
module _ (object_at : ℕ → ObjectRow) where
  abbrev all_gone : Expiry → List Row → Expiry
  all_gone e rows = fold (expire_one object_at) e rows

  raws_before : (e : Expiry) (rows : List Row) → (raws : Entries) × ((all_gone e rows).rest ≡ raws ++ e.rest)
  raws_before e [] = ([], refl)
  raws_before e (r ∷ rows) =
      let raws = raws_left (object_for object_at r).extents e.sources in
      let more = raws_before (expire_one object_at e r) rows in
      (more.0 ++ raws, more.1 ∙ sym (append_assoc more.0 raws e.rest))

  gone_first : (e : Expiry) (rows : List Row) (acct : Acct) → (all_gone e rows).heap.roots (first_word acct) ≡ e.heap.roots (first_word acct)
  gone_first e [] acct = refl
  gone_first e (r ∷ rows) acct = gone_first (expire_one object_at e r) rows acct ∙ occupied_first e.heap (object_for object_at r).account acct _

  gone_last : (e : Expiry) (rows : List Row) (acct : Acct) → (all_gone e rows).heap.roots (last_word acct) ≡ e.heap.roots (last_word acct)
  gone_last e [] acct = refl
  gone_last e (r ∷ rows) acct = gone_last (expire_one object_at e r) rows acct ∙ occupied_last e.heap (object_for object_at r).account acct _

  gone_spare : (e : Expiry) (rows : List Row) → (all_gone e rows).heap.spare ≡ e.heap.spare
  gone_spare e [] = refl
  gone_spare e (r ∷ rows) = gone_spare (expire_one object_at e r) rows

-- those that were overdue are gone
module _ {q : Queues} {loose : List ℕ} {room now count : ℕ} {old new : Heap} (s : SomeBundles old q loose room) (e : ExpiresAll q now old new count)
  where
    abbrev b : Bundles
    b = s.bundles

    abbrev later : List Row
    later = later_than waiting_of now b.rows

    abbrev late : List Row
    late = overdue waiting_of now b.rows

    abbrev begun : Expiry
    begun = record { gone = []; sources = b.sources; rest = beside_late s.keeps now; heap = old }

    abbrev gone : Expiry
    gone = expiry_of now b.rows b.object_at b.sources (beside_late s.keeps now) old

    abbrev raws : Entries
    raws = (raws_before b.object_at begun late).0

    expires : Expired q now b.next b.rows b.object_at b.sources gone old new count
    expires = e.expires b.next b.rows b.object_at b.sources (beside_late s.keeps now) (keeps_late s.keeps now)

    left_kept : KeepsQueues new.blocks q b.next later
        (bundle_entries b.object_at (with_loose later loose) ++ (sources_entries gone.sources ++ (tickets_entries b.tickets ++ (raws ++ b.rest))))
    left_kept =
        let P : Entries → Type 0 = KeepsQueues new.blocks q b.next later in
        let U = kept_unordered new.blocks q b.next later in
        let B = bundle_entries b.object_at (with_loose later loose) in
        let S = sources_entries gone.sources in
        let T = tickets_entries b.tickets in
        let R = b.rest in
        let one : P (S ++ (raws ++ (B ++ (T ++ R)))) =
        subst (λ es. P (S ++ es)) (raws_before b.object_at begun late).1 expires.keeps in
        let two : P (B ++ ((S ++ raws) ++ (T ++ R))) = U (S ++ raws) B (T ++ R) (subst P (sym (append_assoc S raws (B ++ (T ++ R)))) one) in
        let three : P ((B ++ S) ++ (raws ++ (T ++ R))) =
        subst P (ap (λ es. B ++ es) (append_assoc S raws (T ++ R)) ∙ sym (append_assoc B S (raws ++ (T ++ R)))) two in
        subst P (append_assoc B S (T ++ (raws ++ R))) (unordered_behind P U (B ++ S) raws T R three)

    pub expired : SomeBundles new q loose room
    expired = record {
      bundles = record b { rows = later; sources = gone.sources; rest = raws ++ b.rest };
      keeps = record {
        queues = left_kept;
        fits =
            let P : ℕ → Type 0 = λ addr. ObjectFits (b.object_at addr) in
            all_behind P (map object_in late) (with_loose later loose) (all_reordered P (overdue_first now b.rows loose) s.keeps.fits);
        named = λ acct. expires.named acct (bundle_extents b.object_at acct (with_loose later loose)) (named_late s.keeps now acct);
        tickets = λ acct.
            let roots : new.roots ≡ gone.heap.roots = ap (λ (x : Heap). x.roots) expires.others in
            tells_still (ap (λ words. words (first_word acct)) roots ∙ gone_first b.object_at begun late acct)
            (ap (λ words. words (last_word acct)) roots ∙ gone_last b.object_at begun late acct) (s.keeps.tickets acct);
        spare =
            let g = gave_spare {old = gone.heap} {new = new} gone.gone (record { all = expires.others }) in
            let h = gone_spare b.object_at begun late in
            let n = gone_few b.object_at begun late in
            let m = moves_late s.keeps now in
            let r = s.keeps.spare in
            omega (arith, g, h, n, m, r);
      };
    }

-- an object comes to stand beside tickets, and other blocks
added : {b b' : Blocks} (O T A Z : Entries) → Changes b b' T (O ++ T) → BlocksAre b (A ++ (T ++ Z)) → BlocksAre b' (O ++ (A ++ (T ++ Z)))
added {b} {b'} O T A Z c s =
    unordered_behind (BlocksAre b') (λ us vs ws h. moved us vs ws h) O T A Z
    (subst (BlocksAre b') (append_assoc O T (A ++ Z)) (c.kept (A ++ Z) (moved A T Z s)))

-- no object stands where no block was
others_apart : {b : Blocks} (object : ℕ) (object_at : ℕ → ObjectRow) → b object ≡ None → (before : Entries) (addrs : List ℕ) (rest : Entries) →
    BlocksAre b (before ++ (bundle_entries object_at addrs ++ rest)) → Each (λ addr. addr ≢ object) addrs
others_apart object object_at free before [] rest s = tt
others_apart {b} object object_at free before (addr ∷ addrs) rest s =
    let z = object_at addr in
    let O = object_entries addr z in
    let B = bundle_entries object_at addrs in
    let there : b addr ≡ Some (object_block z) = found b addr (object_block z) before _ s in (
      λ same. (let n : None ≡ Some (object_block z) = sym free ∙ ap b (sym same) ∙ there in cc),
      others_apart object object_at free (before ++ O) addrs rest
          (subst (BlocksAre b) (ap (λ es. before ++ es) (append_assoc O B rest) ∙ sym (append_assoc before O (B ++ rest))) s),
    )

flat_same : {Y : Type 0} (f g : ℕ → List Y) (addrs : List ℕ) → Each (λ addr. f addr ≡ g addr) addrs → flat_map f addrs ≡ flat_map g addrs
flat_same f g [] e = refl
flat_same f g (addr ∷ addrs) e = ap (λ ys. ys ++ flat_map f addrs) e.0 ∙ ap (λ ys. g addr ++ ys) (flat_same f g addrs e.1)

sum_same : (f g : ℕ → ℕ) (addrs : List ℕ) → Each (λ addr. f addr ≡ g addr) addrs → sum_by f addrs ≡ sum_by g addrs
sum_same f g [] e = refl
sum_same f g (addr ∷ addrs) e =
    let ih = sum_same f g addrs e.1 in
    let h = e.0 in
    let a = sum_by-cons f addr addrs in
    let b = sum_by-cons g addr addrs in
    omega (arith, ih, h, a, b)

empty_fits : (acct : Acct) → ObjectFits (empty_row acct)
empty_fits acct = record {
  headers = All-nil CapsuleFits;
  extents = All-nil ExtentFits;
  trailers = All-nil CapsuleFits;
  few = omega arith;
  part = omega arith;
}

-- An object with nothing in it was made.
module _ {q : Queues} {loose : List ℕ} {most object : ℕ} {acct : Acct} {old new : Heap} (s : SomeBundles old q loose most)
    (c : CreatesObject acct 0 object old new) where
  abbrev was : Bundles
  was = s.bundles

  abbrev all : List ℕ
  all = with_loose was.rows loose

  abbrev object_now : ℕ → ObjectRow
  object_now addr = if addr == object then empty_row acct else was.object_at addr

  here : object_now object ≡ empty_row acct
  here = ap (λ v. cond v (empty_row acct) (was.object_at object)) (eq-eqb object object refl)

  there : Each (λ addr. object_now addr ≡ was.object_at addr) all
  there =
      each_weaker (λ addr. addr ≢ object) (λ addr. object_now addr ≡ was.object_at addr)
      (λ addr other. ap (λ v. cond v (empty_row acct) (was.object_at addr)) (ne_eqb addr object other)) all
      (others_apart object was.object_at c.new_block.free (queue_entries q was.next was.rows) all (beside s.keeps) s.keeps.queues.stands)

  -- what is told of each is told so still
  still : {Y : Type 0} (f : ℕ → ObjectRow → Y) → Each (λ addr. f addr (object_now addr) ≡ f addr (was.object_at addr)) all
  still f =
      each_weaker (λ addr. object_now addr ≡ was.object_at addr) (λ addr. f addr (object_now addr) ≡ f addr (was.object_at addr))
      (λ addr e. ap (f addr) e) all there

  pays : Pays acct 0 object_amounts (was.tickets acct) (Took object_bytes object ∷ []) [] (object_entries object (empty_row acct)) old new
  pays = c.pays (was.tickets acct) (queue_kept s.keeps acct)

  -- its block stands beside all that stood
  object_stands : BlocksAre new.blocks
      (object_entries object (empty_row acct) ++ (queue_entries q was.next was.rows ++ (bundle_entries was.object_at all ++ beside s.keeps)))
  object_stands =
      let a =
      ticket_among acct (queue_entries q was.next was.rows) (bundle_entries was.object_at all) (sources_entries was.sources) was.tickets was.rest in
      let O = object_entries object (empty_row acct) in
      subst (λ es. BlocksAre new.blocks (O ++ es)) (sym a.2)
      (added O (tickets_of acct (was.tickets acct)) a.0 a.1 pays.changes (subst (BlocksAre old.blocks) a.2 s.keeps.queues.stands))

  object_kept : KeepsQueues new.blocks q was.next was.rows (bundle_entries object_now (object ∷ all) ++ beside s.keeps)
  object_kept =
      let O = object_entries object (empty_row acct) in
      let B = bundle_entries was.object_at all in
      let same : bundle_entries object_now (object ∷ all) ≡ O ++ B =
      ap (λ (z : ObjectRow). object_entries object z ++ bundle_entries object_now all) here
      ∙ ap (λ es. O ++ es)
      (flat_same (λ addr. object_entries addr (object_now addr)) (λ addr. object_entries addr (was.object_at addr)) all (still object_entries)) in
      record {
        stands =
            subst (λ es. BlocksAre new.blocks (queue_entries q was.next was.rows ++ es))
            (sym (ap (λ es. es ++ beside s.keeps) same ∙ append_assoc O B (beside s.keeps)))
            (moved O (queue_entries q was.next was.rows) (B ++ beside s.keeps) object_stands);
        fits = s.keeps.queues.fits;
      }

  named_now : (other : Acct) → AreNamed other (bundle_extents object_now other (object ∷ all)) was.sources
  named_now other =
      let none : extents_for other (object_now object) ≡ [] = ap (extents_for other) here ∙ nothing (is_same_account acct other) in
      let same : bundle_extents object_now other (object ∷ all) ≡ bundle_extents was.object_at other all =
      ap (λ es. es ++ bundle_extents object_now other all) none
      ∙ flat_same (λ addr. extents_for other (object_now addr)) (λ addr. extents_for other (was.object_at addr)) all
      (still (λ addr z. extents_for other z)) in
      subst (λ es. AreNamed other es was.sources) (sym same) (s.keeps.named other)
    where
      nothing : (v : Bool) → cond v (let es : List ExtentRow = [] in es) [] ≡ []
      nothing true = refl
      nothing false = refl

  pub made : {room : ℕ} → room + 5 ≤ most → SomeBundles new q (object ∷ loose) room
  made few = record {
    bundles = record was { object_at = object_now };
    keeps = record {
      queues = object_kept;
      fits =
          let P : ℕ → Type 0 = λ addr. ObjectFits (object_now addr) in
          let Q : ℕ → Type 0 = λ addr. ObjectFits (was.object_at addr) in
          All-cons P object all (subst ObjectFits (sym here) (empty_fits acct))
          (All-from_recursion P all
          (each_both (λ addr. object_now addr ≡ was.object_at addr) Q P (λ addr e h. subst ObjectFits (sym e) h) all there
          (recursion_from_All Q all s.keeps.fits)));
      named = named_now;
      tickets = λ other.
          let roots : new.roots ≡ (with_occupied old acct _).roots = ap (λ (x : Heap). x.roots) pays.others in
          tells_still (ap (λ words. words (first_word other)) roots ∙ occupied_first old acct other _)
          (ap (λ words. words (last_word other)) roots ∙ occupied_last old acct other _) (s.keeps.tickets other);
      spare =
          let n = ap (λ (x : Heap). x.spare) pays.others in
          let a = sum_by-cons (λ addr. moves_with (object_now addr)) object all in
          let e = ap moves_with here in
          let m =
          sum_same (λ addr. moves_with (object_now addr)) (λ addr. moves_with (was.object_at addr)) all (still (λ addr z. moves_with z)) in
          let r = s.keeps.spare in
          omega (arith, n, a, e, m, r, few);
    };
  }
