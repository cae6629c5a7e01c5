-- The numbers of a world keep fitting where accounts are charged or served, and where sources and objects change.
use Rattle.std.proofs.Common.{◌≡◌, ◌≤◌, ◌<◌, ◌+◌, ◌-◌, ◌==◌, ◌||◌, ℕ, List, is_some, Option, Some, length, nat_lt, arith}
use Rattle.std.specs.List.{prefix_len, remove}
use Rattle.std.proofs.lemmas.Bool.{ltb-false}
use Rattle.std.proofs.lemmas.List.Elements.{All-cons, All-drop, All-nil, All-push, All-take}
use Rattle.sdr_base.specs.declared.account.Acct.{Acct}
use Rattle.sdr_base.specs.declared.account.Acct.TheVariants as accts
use Rattle.sdr_base.specs.declared.account.Amounts.{Amounts}
use Rattle.sdr_base.specs.declared.kind.Space.{Space}
use Rattle.sdr_base.specs.declared.kind.Space.TheVariants as spaces
use Rattle.law_steps.proofs.FieldLemmas.{FitsTickets, KeepsFields, all_inserted, all_removed, changes, charges, fits_accounts, fits_served, fits_tickets, found, makes, refused, takes_one, tested, thing_fits, tickets_fit, told, unmarked}
use Rattle.law_steps.proofs.ObjectFields.{cut_fits, extents_end, gone_fits, in_test, its_limits, lost_fits, put_fits, with_extent_fits}
use Rattle.law_steps.proofs.ObjectShapes.{AddsTo, AppendsTo, Creates, in_range}
use Rattle.law_steps.proofs.ThingLemmas.{object_is, raw_is, source_is}
use Rattle.sdr_model.specs.AccountSteps as account
use Rattle.sdr_model.specs.Accounts.{account_of, most_amount, tickets_of, with_account, with_tickets}
use Rattle.sdr_model.specs.Amounts.{first_above, in_space}
use Rattle.sdr_model.specs.Charges.{capsule_bytes, object_bytes, use_charge}
use Rattle.sdr_model.specs.Fields.{AreBytes, FitsCapsule, FitsFields, FitsObject, FitsSubject, FitsThing, FitsTicket, IsWord}
use Rattle.sdr_model.specs.Gone.{gone_things, without_things}
use Rattle.sdr_model.specs.Limits.{is_no_capsule, is_no_path, longest_source}
use Rattle.sdr_model.specs.ObjectSteps as object
use Rattle.sdr_model.specs.PartSteps as part
use Rattle.sdr_model.specs.Queue.{enqueued, stands_before}
use Rattle.sdr_model.specs.SourceSteps as source
use Rattle.sdr_model.specs.Steps.{without_thing}
use Rattle.sdr_model.specs.Valid.{FitTogether, IsValid}
use Rattle.sdr_model.specs.World.{World, as_raw, thing_at}
use Rattle.sdr_model.specs.Zco.{empty_object, extents_length, object_at, owned_raw, source_at, source_naming, uses_of}
use Rattle.sdr_model.specs.declared.accounts.Accounts.{Accounts}
use Rattle.sdr_model.specs.declared.accounts.Ticket.{Ticket}
use Rattle.sdr_model.specs.declared.things.Thing.TheVariants as things
use Rattle.sdr_model.specs.declared.zco.Capsule.{Capsule}
use Rattle.sdr_model.specs.declared.zco.Extent.{Extent}
use Rattle.sdr_model.specs.declared.zco.Subject.{Subject}
use Rattle.sdr_model.specs.declared.zco.Subject.TheVariants as subjects
use Rattle.sdr_model.specs.declared.zco.ZcoObject.{ZcoObject}
use Rattle.sdr_model.specs.declared.zco.ZcoSource.{ZcoSource}

-- other maxima leave the tickets
maximum_fits : (accounts : Accounts) (acct : Acct) (space : Space) (value : ℕ) → FitsTickets accounts
    → FitsTickets (with_account accounts acct (account.with_maximum (account_of accounts acct) space value))
maximum_fits accounts accts.Inbound space value fit = fit
maximum_fits accounts accts.Outbound space value fit = fit

-- a source of so many bytes
new_source_fits : (s : Subject) (bytes : ℕ) → FitsSubject s → bytes ≤ longest_source
    → FitsThing (things.Source (source.new_source s bytes))
new_source_fits s bytes fit short = record { subject = fit; length = omega (arith, short) }

-- an object with one header or trailer more or less
pub header_fits : (z : ZcoObject) (c : Capsule) → FitsCapsule c → FitsObject z → FitsObject (object.with_header z c)
header_fits z c its old = record {
  headers = All-cons FitsCapsule c z.headers its old.headers;
  extents = old.extents;
  trailers = old.trailers;
}

pub trailer_fits : (z : ZcoObject) (c : Capsule) → FitsCapsule c → FitsObject z → FitsObject (object.with_trailer z c)
trailer_fits z c its old = record {
  headers = old.headers;
  extents = old.extents;
  trailers = All-push FitsCapsule z.trailers c old.trailers its;
}

pub without_header_fits : (z : ZcoObject) → FitsObject z → FitsObject (object.without_header z)
without_header_fits z old = record {
  headers = All-drop FitsCapsule 1 z.headers old.headers;
  extents = old.extents;
  trailers = old.trailers;
}

pub without_trailer_fits : (z : ZcoObject) → FitsObject z → FitsObject (object.without_trailer z)
without_trailer_fits z old = record {
  headers = old.headers;
  extents = old.extents;
  trailers = All-take FitsCapsule (length z.trailers - 1) z.trailers old.trailers;
}

module _ (w : World) where
  pub sets_maximum : (acct : Acct) (space : Space) (value : ℕ)
      → KeepsFields w (λ o. account.SetMaximum w o acct space value)
  sets_maximum acct space value =
      tested (nat_lt most_amount value) refused (told (λ fits.
      let accounts =
      with_account w.accounts acct (account.with_maximum (account_of w.accounts acct) space value) in
      unmarked (fits_served (record w { accounts = accounts }) acct
      (fits_accounts w accounts (maximum_fits w.accounts acct space value (fits.inbound, fits.outbound)) fits))))

  pub requests : (acct : Acct) (asked : Amounts) (coarse fine : ℕ) → coarse < 256 → fine < 256
      → KeepsFields w (λ o. account.Request w o acct asked coarse fine)
  requests acct asked coarse fine small_coarse small_fine =
      found (first_above asked (account_of w.accounts acct).maxima)
      (tested (w.accounts.next == most_amount) refused (takes_one (λ fits block word.
      let t : Ticket = account.new_ticket w.accounts.next block asked coarse fine in
      let tickets = tickets_of w.accounts acct in
      let fit = fits_tickets w.accounts acct (enqueued tickets t) (fits.inbound, fits.outbound)
      (all_inserted FitsTicket tickets (prefix_len (λ u. stands_before u t) tickets) t
      (record { block = word; coarse = small_coarse; fine = small_fine })
      (tickets_fit w.accounts acct (fits.inbound, fits.outbound))) in
      let accounts : Accounts = record (with_tickets w.accounts acct (enqueued tickets t)) { next = t.number + 1 } in
      unmarked (fits_served (record w { accounts = accounts }) acct (fits_accounts w accounts fit fits)))))
      (λ space above. refused)

  pub shreds : (number : ℕ) → KeepsFields w (λ o. account.Shred w o number)
  shreds number =
      found (account.pending_of w number) refused (λ p is. told (λ fits.
      let tickets = tickets_of w.accounts p.acct in
      let accounts = with_tickets w.accounts p.acct (remove tickets p.place) in
      unmarked (fits_served (record w { accounts = accounts }) p.acct
      (fits_accounts w accounts
      (fits_tickets w.accounts p.acct (remove tickets p.place) (fits.inbound, fits.outbound)
      (all_removed FitsTicket tickets p.place (tickets_fit w.accounts p.acct (fits.inbound, fits.outbound)))) fits))))

  pub file_refs : (path : List ℕ) (bytes : ℕ) → AreBytes path → KeepsFields w (λ o. source.FileRef w o path bytes)
  file_refs path bytes fit =
      tested (is_no_path (length path)) refused
      (in_test (nat_lt longest_source bytes) refused (λ short.
      makes (things.Source (source.new_source (subjects.File path) bytes))
      (λ fits. new_source_fits (subjects.File path) bytes fit (ltb-false _ _ short))))

  pub bulk_refs : (item bytes : ℕ) → IsWord item → KeepsFields w (λ o. source.BulkRef w o item bytes)
  bulk_refs item bytes fit =
      in_test (nat_lt longest_source bytes) refused (λ short.
      makes (things.Source (source.new_source (subjects.Bulk item) bytes))
      (λ fits. new_source_fits (subjects.Bulk item) bytes fit (ltb-false _ _ short)))

  pub obj_refs : IsValid w → (raw : ℕ) → KeepsFields w (λ o. source.ObjRef w o raw)
  obj_refs valid raw =
      found (as_raw (thing_at w raw)) refused (λ bytes is.
      found (source_naming w raw)
      (makes (things.Source (source.new_source (subjects.Obj raw) (length bytes)))
      (λ fits. new_source_fits (subjects.Obj raw) (length bytes)
      (thing_fits w fits raw (things.Raw bytes) (raw_is _ _ is)).0
      (omega (arith, its_limits w valid raw (things.Raw bytes) (raw_is _ _ is)))))
      (λ s named. refused))

  pub destroys_ref : (addr : ℕ) → KeepsFields w (λ o. source.DestroyRef w o addr)
  destroys_ref addr =
      found (source_at w addr) refused (λ s is.
      tested (is_some (owned_raw s)) refused
      (tested s.flagged refused
      (tested (uses_of w addr == 0) (told (λ fits. unmarked (lost_fits w addr fits)))
      (changes addr (things.Source s) (things.Source (source.flagged s)) (source_is _ _ is)
      (λ old. record { subject = old.subject; length = old.length })))))

  pub creates : (acct : Acct) (number : ℕ) → KeepsFields w (λ o. object.Create w o acct number)
  creates acct number =
      charges (λ o used. Creates w o acct used) acct number (in_space spaces.Heap object_bytes) (λ used like.
      takes_one (λ fits a word. unmarked (put_fits used a (things.Object (empty_object acct)) word
      (record { headers = All-nil _; extents = All-nil _; trailers = All-nil _ }) (like fits))))

  -- an object is another
  object_fits : (used : World) (addr : ℕ) (z after : ZcoObject) → object_at w addr ≡ Some z
      → (FitsObject z → FitsObject after) → FitsFields w → FitsFields used
      → FitsFields (object.with_object used addr after)
  object_fits used addr z after is fit fits like =
      let old = thing_fits w fits addr (things.Object z) (object_is _ _ is) in
      put_fits used addr (things.Object after) old.0 (fit old.1) like

  pub adds_capsule : (addr number : ℕ) (text : List ℕ) (with_capsule : ZcoObject → Capsule → ZcoObject)
      → ((z : ZcoObject) (c : Capsule) → FitsCapsule c → FitsObject z → FitsObject (with_capsule z c))
      → AreBytes text → KeepsFields w (λ o. object.AddsCapsule w o addr number text with_capsule)
  adds_capsule addr number text with_capsule fit bytes =
      found (object_at w addr) refused (λ z is.
      tested (is_no_capsule (length text)) refused
      (charges (λ o used. AddsTo w o addr z text with_capsule used) z.account number
      (in_space spaces.Heap (capsule_bytes (length text))) (λ used like.
      takes_one (λ fits a word.
      let c : Capsule = record { block = a; text = text } in
      unmarked (object_fits used addr z (with_capsule z c) is
      (fit z c (record { block = word; text = bytes })) fits (like fits))))))

  pub discards : (addr : ℕ) (z after : ZcoObject) (capsule : Option Capsule) → object_at w addr ≡ Some z
      → (FitsObject z → FitsObject after) → KeepsFields w (λ o. object.Discards w o addr z capsule after)
  discards addr z after capsule is fit =
      found capsule refused (λ c there. told (λ fits.
      unmarked (fits_served (object.with_object w addr after) z.account (object_fits w addr z after is fit fits fits))))

  pub appends_source : (addr : ℕ) (z : ZcoObject) (number named : ℕ) (s : ZcoSource) (offset bytes : ℕ)
      → object_at w addr ≡ Some z → source_at w named ≡ Some s
      → KeepsFields w (λ o. object.AppendsSource w o addr z number named s offset bytes)
  appends_source addr z number named s offset bytes is there =
      tested s.flagged refused
      (in_test (bytes == 0 || nat_lt s.length (offset + bytes)) refused (λ ranged.
      charges (λ o used. AppendsTo w o addr z named offset bytes used) z.account number
      (use_charge w z.account named s) (λ used like.
      takes_one (λ fits a word.
      let e : Extent = record { block = a; source = named; offset = offset; length = bytes } in
      let its = thing_fits w fits named (things.Source s) (source_is _ _ there) in
      let within = (in_range offset bytes s.length ranged).1 in
      unmarked (object_fits used addr z (object.with_extent z e) is
      (with_extent_fits z e (record {
        block = word;
        source = its.0;
        offset = omega (arith, within, its.1.length);
        length = omega (arith, within, its.1.length);
      })) fits (like fits))))))

  pub delimits : (addr offset bytes : ℕ) → KeepsFields w (λ o. part.Delimit w o addr offset bytes)
  delimits addr offset bytes =
      found (object_at w addr) refused (λ z is.
      tested (nat_lt (extents_length z.extents) (offset + bytes)) refused
      (changes addr (things.Object z)
      (things.Object (record z { part = record { offset = offset; length = bytes } })) (object_is _ _ is)
      (λ old. record { headers = old.headers; extents = old.extents; trailers = old.trailers })))

  pub destroys : (addr : ℕ) → KeepsFields w (λ o. object.Destroy w o addr)
  destroys addr =
      found (object_at w addr) refused (λ z is. told (λ fits.
      let gone = gone_things w z.extents z.extents in
      unmarked (fits_served (without_thing (without_things w gone) addr) z.account
      (lost_fits (without_things w gone) addr (gone_fits w gone fits)))))

  pub strips : IsValid w → FitTogether w → (addr : ℕ) → KeepsFields w (λ o. part.Strip w o addr)
  strips valid fit addr =
      found (object_at w addr) refused (λ z is. told (λ fits.
      let gone = gone_things w (part.outside_part z) (part.outside_part z) in
      unmarked (fits_served (object.with_object (without_things w gone) addr (part.stripped z)) z.account
      (object_fits (without_things w gone) addr z (part.stripped z) is
      (λ old. record {
        headers = old.headers;
        extents = cut_fits z.part.offset (part.part_end z) z.extents (extents_end w valid fit fits addr z is);
        trailers = old.trailers;
      }) fits (gone_fits w gone fits)))))
