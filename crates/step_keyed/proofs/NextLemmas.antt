-- The number of the next ticket never falls.
use Rattle.std.proofs.Common.{◌≡◌, ◌≤◌, ◌+◌, ◌==◌, ◌∙◌, ℕ, List, [], ◌∷◌, Option, None, Some, nat_lt, length, refl, ap, arith}
use Rattle.std.specs.Prelude.{◌||◌, is_some, slice_get}
use Rattle.sdr_base.specs.declared.account.Acct.{Acct}
use Rattle.sdr_base.specs.declared.account.Acct.TheVariants as accts
use Rattle.sdr_base.specs.declared.account.Amounts.{Amounts}
use Rattle.sdr_base.specs.declared.kind.Space.{Space}
use Rattle.sdr_base.specs.declared.kind.Space.TheVariants as spaces
use Rattle.sdr_base.specs.declared.moves.Move.{Move}
use Rattle.sdr_base.specs.declared.refusal.Refusal.TheVariants as refusals
use Rattle.law_steps.proofs.BondLemmas.{bonded_rest}
use Rattle.law_steps.proofs.Effects.{Plain}
use Rattle.law_steps.proofs.PlainRows.{row_change}
use Rattle.sdr_machine.proofs.StepLemmas.{from_option, from_test}
use Rattle.sdr_model.proofs.FewLemmas.{in_takes_one}
use Rattle.sdr_model.specs.AccountSteps.{new_ticket, pending_of, with_maximum, with_request, without_ticket}
use Rattle.sdr_model.specs.Accounts.{account_of, most_amount, pending_in, tickets_of, with_account, with_ticket}
use Rattle.sdr_model.specs.Amounts.{amounts_by, first_above, in_space, minus}
use Rattle.sdr_model.specs.BondSteps.{bond_charge, bond_moves, bonded, capsules_of, with_bonded}
use Rattle.sdr_model.specs.Charges.{bytes_charge, capsule_bytes, object_bytes, object_charge, rooms, use_charge}
use Rattle.sdr_model.specs.Charging.{Charges, grant_left, no_space, with_covered}
use Rattle.sdr_model.specs.Cuts.{placed}
use Rattle.sdr_model.specs.Gone.{gone_things, without_things}
use Rattle.sdr_model.specs.Limits.{is_no_capsule, is_no_path, longest_source}
use Rattle.sdr_model.specs.ObjectSteps.{AddsCapsule, Discards, last_capsule, raw_append_moves, with_extent, with_header, with_object, with_trailer, without_header, without_trailer}
use Rattle.sdr_model.specs.PartSteps.{asked_extents, clone_moves, object_of, outside_part, stripped}
use Rattle.sdr_model.specs.Queue.{barrier, with_served}
use Rattle.sdr_model.specs.Rows.{ByRow}
use Rattle.sdr_model.specs.SourceSteps.{new_source}
use Rattle.sdr_model.specs.Steps.{DoesWith, Outcome, RefusedFor, Takes, taken_at, with_thing, without_thing}
use Rattle.sdr_model.specs.Things.{capsule_need, extent_need, object_need}
use Rattle.sdr_model.specs.World.{World, as_raw, thing_at}
use Rattle.sdr_model.specs.Zco.{empty_object, extents_length, object_at, owned_raw, source_at, source_naming, uses_of}
use Rattle.sdr_model.specs.declared.accounts.Accounts.{Accounts}
use Rattle.sdr_model.specs.declared.accounts.Pending.{Pending}
use Rattle.sdr_model.specs.declared.accounts.Ticket.{Ticket}
use Rattle.sdr_model.specs.declared.answer.Reply.{Reply}
use Rattle.sdr_model.specs.declared.answer.Reply.TheVariants as replies
use Rattle.sdr_model.specs.declared.call.Call.{Call}
use Rattle.sdr_model.specs.declared.call.Call.TheVariants as calls
use Rattle.sdr_model.specs.declared.things.Thing.TheVariants as things
use Rattle.sdr_model.specs.declared.zco.Capsule.{Capsule}
use Rattle.sdr_model.specs.declared.zco.Subject.TheVariants as subjects
use Rattle.sdr_model.specs.declared.zco.ZcoObject.{ZcoObject}

-- the number of the next ticket of a world
abbrev next_of : World → ℕ
next_of w = w.accounts.next

-- serving a queue leaves it
served_next : (w : World) (acct : Acct) → next_of (with_served w acct) ≡ next_of w
served_next w accts.Inbound = refl
served_next w accts.Outbound = refl

-- the world with another maximum of a space
abbrev maxed : World → Acct → Space → ℕ → World
maxed w acct space value =
    record w { accounts = with_account w.accounts acct (with_maximum (account_of w.accounts acct) space value) }

maximum_next : (w : World) (acct : Acct) (space : Space) (value : ℕ) → next_of (maxed w acct space value) ≡ next_of w
maximum_next w accts.Inbound space value = refl
maximum_next w accts.Outbound space value = refl

request_next : (w : World) (acct : Acct) (t : Ticket) → next_of (with_request w acct t) ≡ t.number + 1
request_next w accts.Inbound t = refl
request_next w accts.Outbound t = refl

gone_next : (w : World) (p : Pending) → next_of (without_ticket w p) ≡ next_of w
gone_next w p = by p.acct
  where
    by : (acct : Acct) → next_of (without_ticket w (record p { acct = acct })) ≡ next_of w
    by accts.Inbound = refl
    by accts.Outbound = refl

used_next : (w : World) (found : Option Pending) (amounts : Amounts) → next_of (with_covered w found amounts)
    ≡ next_of w
used_next w None amounts = refl
used_next w (Some p) amounts = by p.acct
  where
    by : (acct : Acct) → (with_ticket w.accounts (record p { acct = acct }) (record p.ticket { left = minus p.ticket.left amounts })).next ≡ w.accounts.next
    by accts.Inbound = refl
    by accts.Outbound = refl

without_next : (w : World) (addrs : List ℕ) → next_of (without_things w addrs) ≡ next_of w
without_next w [] = refl
without_next w (addr ∷ addrs) = without_next (without_thing w addr) addrs

-- what the row of a call leaves
module _ (w : World) (o : Outcome) where
  -- the outcome has this world, whose number is the same
  same_next : (next : World) → o.after ≡ next → next_of next ≡ next_of w → next_of w ≤ next_of o.after
  same_next next after same = let is = ap next_of after in omega (arith, is, same)

  plain_next : Plain w o → next_of w ≤ next_of o.after
  plain_next (Plain.leaves things accounts) = let is = ap (λ (a : Accounts). a.next) accounts in omega (arith, is)
  plain_next (Plain.swaps addr before after was no_zco still bytes things accounts) =
      let is = ap (λ (a : Accounts). a.next) accounts in omega (arith, is)
  plain_next (Plain.frees addr bytes there unnamed things accounts) =
      let is = ap (λ (a : Accounts). a.next) accounts in omega (arith, is)

  -- a charge leaves it, which a ticket's grant covers as far as it can
  charged_next : (acct : Acct) (number : ℕ) (charge : Space → ℕ) (goes : World → Type 0) → Charges w o acct number charge goes
      → ((used : World) → next_of used ≡ next_of w → goes used → next_of w ≤ next_of o.after) → next_of w ≤ next_of o.after
  charged_next acct number charge goes row then_so =
      from_test (number == 0) row (λ _ h. on None h) (λ _ h.
      from_option (pending_in w.accounts acct number) h (λ _ h. same_next _ h.1 refl) (λ p _ h.
      from_test p.ticket.granted h (λ _ h. on (Some p) h) (λ _ h. same_next _ h.1 refl)))
    where
      on : (p : Option Pending)
          → RefusedFor w o (barrier (minus (amounts_by charge) (grant_left p)) (tickets_of w.accounts acct)) (λ t. refusals.Queue t.number)
          (RefusedFor w o (first_above (minus (amounts_by charge) (grant_left p)) (rooms w acct))
          (no_space w acct (minus (amounts_by charge) (grant_left p))) (goes (with_covered w p (amounts_by charge))))
          → next_of w ≤ next_of o.after
      on p h =
          let uncovered = minus (amounts_by charge) (grant_left p) in
          from_option (barrier uncovered (tickets_of w.accounts acct)) h (λ _ h.
          from_option (first_above uncovered (rooms w acct)) h (λ _ h. then_so _ (used_next w p (amounts_by charge)) h)
          (λ space _ h. same_next _ h.1 refl))
          (λ t _ h. same_next _ h.1 refl)

  -- a block is taken
  takes_next : (need : ℕ) (next : ℕ → World) (reply : ℕ → Reply) → Takes w o need next reply
      → ((addr : ℕ) → next_of (next addr) ≡ next_of w) → next_of w ≤ next_of o.after
  takes_next need next reply row same = in_takes_one o.moves _ _ row (λ addr p. same_next _ p.0 (same addr))

  -- blocks are
  does_next : (moves : (ℕ → ℕ) → List Move) (next : (ℕ → ℕ) → World) (reply : (ℕ → ℕ) → Reply) → DoesWith w o moves next reply
      → ((at : ℕ → ℕ) → next_of (next at) ≡ next_of w) → next_of w ≤ next_of o.after
  does_next moves next reply row same = same_next _ row.1 (same (taken_at o.moves))

  -- a header or trailer more
  capsule_next : (addr number : ℕ) (text : List ℕ) (with_capsule : ZcoObject → Capsule → ZcoObject)
      → AddsCapsule w o addr number text with_capsule → next_of w ≤ next_of o.after
  capsule_next addr number text with_capsule row =
      from_option (object_at w addr) row (λ _ h. same_next _ h.1 refl) (λ z _ h.
      from_test (is_no_capsule (length text)) h (λ _ h. same_next _ h.1 refl) (λ _ h.
      charged_next z.account number (in_space spaces.Heap (capsule_bytes (length text))) _ h (λ used same h.
      takes_next (capsule_need (length text)) (λ block. with_object used addr (with_capsule z (record { block = block; text = text })))
      (λ block. replies.Done) h (λ block. same))))

  -- one less, with the queue served
  discard_next : (addr : ℕ) (z : ZcoObject) (capsule : Option Capsule) (after : ZcoObject) → Discards w o addr z capsule after
      → next_of w ≤ next_of o.after
  discard_next addr z capsule after row =
      from_option capsule row (λ _ h. same_next _ h.1 refl) (λ c _ h. same_next _ h.1 (served_next (with_object w addr after) z.account))

  pub next_kept : (call : Call) → ByRow w o call → next_of w ≤ next_of o.after
  next_kept (calls.FileRef path bytes) row =
      from_test (is_no_path (length path)) row (λ _ h. same_next _ h.1 refl) (λ _ h.
      from_test (nat_lt longest_source bytes) h (λ _ h. same_next _ h.1 refl)
      (λ _ h. in_takes_one o.moves _ _ h (λ addr p. same_next _ p.0 refl)))
  next_kept (calls.BulkRef item bytes) row =
      from_test (nat_lt longest_source bytes) row (λ _ h. same_next _ h.1 refl)
      (λ _ h. in_takes_one o.moves _ _ h (λ addr p. same_next _ p.0 refl))
  next_kept (calls.ObjRef raw) row =
      from_option (as_raw (thing_at w raw)) row (λ _ h. same_next _ h.1 refl) (λ bytes _ h.
      from_option (source_naming w raw) h (λ _ h. in_takes_one o.moves _ _ h (λ addr p. same_next _ p.0 refl))
      (λ source _ h. same_next _ h.1 refl))
  next_kept (calls.DestroyRef addr) row =
      from_option (source_at w addr) row (λ _ h. same_next _ h.1 refl) (λ source _ h.
      from_test (is_some (owned_raw source)) h (λ _ h. same_next _ h.1 refl) (λ _ h.
      from_test source.flagged h (λ _ h. same_next _ h.1 refl) (λ _ h.
      from_test (uses_of w addr == 0) h (λ _ h. same_next _ h.1 refl) (λ _ h. same_next _ h.1 refl))))
  next_kept (calls.SetMaximum acct space value) row =
      from_test (nat_lt most_amount value) row (λ _ h. same_next _ h.1 refl)
      (λ _ h. same_next _ h.1 (served_next (maxed w acct space value) acct ∙ maximum_next w acct space value))
  next_kept (calls.Request acct file bulk heap coarse fine) row =
      let asked : Amounts = record { file = file; bulk = bulk; heap = heap } in
      from_option (first_above asked (account_of w.accounts acct).maxima) row (λ _ h.
      from_test (w.accounts.next == most_amount) h (λ _ h. same_next _ h.1 refl)
      (λ _ h. in_takes_one o.moves _ _ h (λ addr p.
      let later = ap next_of p.0 in
      let one = request_next w acct (new_ticket w.accounts.next addr asked coarse fine) in
      omega (arith, later, one))))
      (λ space _ h. same_next _ h.1 refl)
  next_kept (calls.Shred number) row =
      from_option (pending_of w number) row (λ _ h. same_next _ h.1 refl) (λ p _ h. same_next _ h.1 (gone_next w p))
  next_kept (calls.Create acct number) row =
      charged_next acct number (in_space spaces.Heap object_bytes) _ row (λ used same h.
      takes_next object_need (λ addr. with_object used addr (empty_object acct)) (λ addr. replies.At addr) h (λ addr. same))
  next_kept (calls.AppendExtent addr number named offset bytes) row =
      from_option (object_at w addr) row (λ _ h. same_next _ h.1 refl) (λ z _ h.
      from_option (source_at w named) h (λ _ h.
      from_option (as_raw (thing_at w named)) h (λ _ h. same_next _ h.1 refl) (λ text _ h.
      from_option (source_naming w named) h (λ _ h.
      from_test (bytes == 0 || nat_lt (length text) (offset + bytes)) h (λ _ h. same_next _ h.1 refl) (λ _ h.
      charged_next z.account number (bytes_charge spaces.Heap (length text)) _ h (λ used same h.
      does_next raw_append_moves
      (λ at. with_object (with_thing used (at 0) (things.Source (new_source (subjects.Heap named) (length text)))) addr
      (with_extent z (record { block = at 1; source = at 0; offset = offset; length = bytes })))
      (λ at. replies.Done) h (λ at. same))))
      (λ source _ h. same_next _ h.1 refl)))
      (λ s _ h.
      from_test s.flagged h (λ _ h. same_next _ h.1 refl) (λ _ h.
      from_test (bytes == 0 || nat_lt s.length (offset + bytes)) h (λ _ h. same_next _ h.1 refl) (λ _ h.
      charged_next z.account number (use_charge w z.account named s) _ h (λ used same h.
      takes_next extent_need (λ block. with_object used addr
      (with_extent z (record { block = block; source = named; offset = offset; length = bytes })))
      (λ block. replies.Done) h (λ block. same))))))
  next_kept (calls.PrependHeader addr number text) row = capsule_next addr number text with_header row
  next_kept (calls.AppendTrailer addr number text) row = capsule_next addr number text with_trailer row
  next_kept (calls.DiscardFirstHeader addr) row =
      from_option (object_at w addr) row (λ _ h. same_next _ h.1 refl) (λ z _ h.
      discard_next addr z (slice_get z.headers 0) (without_header z) h)
  next_kept (calls.DiscardLastTrailer addr) row =
      from_option (object_at w addr) row (λ _ h. same_next _ h.1 refl) (λ z _ h.
      discard_next addr z (last_capsule z.trailers) (without_trailer z) h)
  next_kept (calls.Destroy addr) row =
      from_option (object_at w addr) row (λ _ h. same_next _ h.1 refl) (λ z _ h.
      let gone = gone_things w z.extents z.extents in
      same_next _ h.1 (served_next (without_thing (without_things w gone) addr) z.account ∙ without_next w gone))
  next_kept (calls.Bond addr number) row =
      from_option (object_at w addr) row (λ _ h. same_next _ h.1 refl) (λ z _ h.
      let capsules = capsules_of z in
      charged_next z.account number (bond_charge capsules) _ h (λ used same h.
      does_next (λ at. bond_moves at 0 capsules)
      (λ at. with_object (with_bonded used at 0 capsules) addr (bonded at z))
      (λ at. replies.Done) h (λ at. ap next_of (bonded_rest used at 0 capsules) ∙ same)))
  next_kept (calls.ClonePart addr number offset bytes) row =
      from_option (object_at w addr) row (λ _ h. same_next _ h.1 refl) (λ z _ h.
      from_test (bytes == 0 || nat_lt z.part.length (offset + bytes)) h (λ _ h. same_next _ h.1 refl) (λ _ h.
      let extents = asked_extents z offset bytes in
      charged_next z.account number (λ (space : Space). object_charge space (object_of z.account extents)) _ h (λ used same h.
      does_next (λ at. clone_moves at extents)
      (λ at. with_object used (at 0) (object_of z.account (placed at 1 extents)))
      (λ at. replies.At (at 0)) h (λ at. same))))
  next_kept (calls.Delimit addr offset bytes) row =
      from_option (object_at w addr) row (λ _ h. same_next _ h.1 refl) (λ z _ h.
      from_test (nat_lt (extents_length z.extents) (offset + bytes)) h (λ _ h. same_next _ h.1 refl) (λ _ h. same_next _ h.1 refl))
  next_kept (calls.Strip addr) row =
      from_option (object_at w addr) row (λ _ h. same_next _ h.1 refl) (λ z _ h.
      let gone = gone_things w (outside_part z) (outside_part z) in
      same_next _ h.1 (served_next (with_object (without_things w gone) addr (stripped z)) z.account ∙ without_next w gone))
  next_kept call row = row_change w call o row (λ _ plain. plain_next plain) (λ zco. absurd zco)
