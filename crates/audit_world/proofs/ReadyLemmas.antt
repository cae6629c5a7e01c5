-- A world can be made of a heap that passes the audit up to its queues.
use Rattle.std.proofs.Common.{◌/◌, ℕ, List, [], ◌∷◌, length, map, arith}
use Rattle.std.specs.Prelude.{IfSome}
use Rattle.std.specs.List.{All}
use Rattle.std.proofs.lemmas.List.Elements.{All-cons, All-head, All-nil, All-tail}
use Rattle.sdr_base.specs.declared.account.Acct.{Acct}
use Rattle.sdr_base.specs.declared.account.Acct.TheVariants as accts
use Rattle.audit_counts.specs.Queues.{ticket_in}
use Rattle.audit_owners.specs.Members.{members}
use Rattle.sdr_model.specs.Fields.{FitsFields, FitsName, FitsTicket}
use Rattle.sdr_model.specs.Valid.{IsValidThing}
use Rattle.audit_owners.specs.View.{view_in}
use Rattle.audit_owners.specs.declared.owner.Owner.TheVariants as owners
use Rattle.audit_world.proofs.FieldsLemmas.{fields_fit}
use Rattle.audit_world.proofs.Fitting.{AreFitting}
use Rattle.audit_world.proofs.FittingLemmas.{fits_so}
use Rattle.audit_world.proofs.OccupiedLemmas.{all_so}
use Rattle.audit_world.proofs.OwnLemmas.{IsAudited}
use Rattle.audit_world.proofs.RegionLemmas.{audited}
use Rattle.audit_world.proofs.ValidLemmas.{thing_valid}
use Rattle.audit_world.specs.Made.{AreShort, AreTyped, IsShort, IsTyped}
use Rattle.audit_world.specs.Standing.{IsCounted}
use Rattle.audit_world.specs.Told.{name_told, thing_told, world_told}

-- what holds of all that a function makes
all_made : {X : Type 0} (P : X → Type 0) (f : ℕ → X) (ns : List ℕ) → All P (map f ns) → All (λ n. P (f n)) ns
all_made P f [] all = All-nil (λ n. P (f n))
all_made P f (n ∷ ns) all =
    All-cons (λ n. P (f n)) n ns (All-head P (f n) (map f ns) all) (all_made P f ns (All-tail P (f n) (map f ns) all))

module _ (bytes : List ℕ) (c : IsCounted bytes) where
  heap_audited : IsAudited (view_in bytes) (length bytes / 8)
  heap_audited = audited bytes c.region c.sound c.bytes_are c.owned

  heap_fitting : AreFitting (view_in bytes) (length bytes / 8)
  heap_fitting = fits_so (view_in bytes) (length bytes / 8) heap_audited c.counted

  fields : FitsFields (world_told (view_in bytes) (length bytes / 8))
  fields =
      let whole = c.region.whole in
      let most = c.region.most in
      fields_fit (view_in bytes) (length bytes / 8) heap_audited (omega (arith, whole, most))

  -- each thing keeps its limits
  pub things_valid : (addr : ℕ) → IfSome (thing_told (view_in bytes) (length bytes / 8) addr) IsValidThing
  things_valid addr = thing_valid (view_in bytes) (length bytes / 8) heap_audited heap_fitting addr

  -- types of names fit their numbers
  pub names_typed : AreTyped (view_in bytes) (length bytes / 8)
  names_typed =
      let addrs = members (view_in bytes) (length bytes / 8) owners.Catalogue in
      all_so (λ n. FitsName (name_told (view_in bytes) n)) (IsTyped (view_in bytes)) (λ n fits. record { kind = fits.kind }) addrs
      (all_made FitsName (name_told (view_in bytes)) addrs fields.names)

  -- and priorities of tickets theirs
  pub tickets_short : (account : Acct) → AreShort (view_in bytes) (length bytes / 8) account
  tickets_short account =
      let addrs = members (view_in bytes) (length bytes / 8) (owners.Queue account) in
      all_so (λ n. FitsTicket (ticket_in (view_in bytes) n)) (IsShort (view_in bytes))
      (λ n fits. record { coarse = fits.coarse; fine = fits.fine }) addrs
      (all_made FitsTicket (ticket_in (view_in bytes)) addrs (by_account account))
    where
      by_account : (of : Acct) → All FitsTicket (map (ticket_in (view_in bytes)) (members (view_in bytes) (length bytes / 8) (owners.Queue of)))
      by_account accts.Inbound = fields.inbound
      by_account accts.Outbound = fields.outbound
