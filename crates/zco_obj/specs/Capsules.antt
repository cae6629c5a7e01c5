-- Headers and trailers that come, and why one doesn't.
use Rattle.std.specs.Prelude.{◌≡◌, ◌≤◌, ◌<◌, ◌⊎◌, ℕ, List, [], ◌∷◌, ◌++◌, length}
use Rattle.sdr_base.specs.Blocks.{IsKind}
use Rattle.sdr_base.specs.Objects.{Heap, Misses, OnlyFault}
use Rattle.sdr_base.specs.ZcoObjects.{CapsuleRow, ObjectRow, object_entries}
use Rattle.sdr_base.specs.declared.kind.Kind.TheVariants as kinds
use Rattle.sdr_base.specs.declared.moves.Move.TheVariants.{Took}
use Rattle.sdr_base.specs.declared.refusal.Refusal.{Refusal}
use Rattle.sdr_base.specs.declared.refusal.Refusal.TheVariants as refusals
use Rattle.sdr_base.specs.declared.stop.Stop.{Stop}
use Rattle.sdr_base.specs.declared.stop.Stop.TheVariants.{Refused}
use Rattle.sdr_model.specs.Limits.{longest_capsule}
use Rattle.sdr_model.specs.Things.{capsule_need}
use Rattle.sdr_model.specs.declared.accounts.Ticket.{Ticket}
use Rattle.zco_obj.specs.Amounts.{capsule_amounts}
use Rattle.zco_obj.specs.Charging.{ChargesObject, IsFree, LacksRoom, ObjectAllows, ObjectRefuses, Pays}
use Rattle.zco_obj.specs.Kept.{KeepsWithQueue}

-- a header or trailer has a byte at least, and not too many
pub record IsCapsuleLength (count : ℕ) : Type 0 where
  pub some : 1 ≤ count
  pub short : count ≤ longest_capsule

-- none has so many bytes
abbrev pub IsNoCapsule : ℕ → ℕ → ℕ → Type 0
IsNoCapsule count bad most = (bad ≡ count) × (most ≡ longest_capsule) × ((count ≡ 0) ⊎ (longest_capsule < count))

-- a text is refused for its length
abbrev pub TextRefused : ℕ → Stop → Type 0
TextRefused count (Refused (refusals.BadLength bad most)) = IsNoCapsule count bad most
TextRefused count stop = ⊥

-- an object stands there, this may be a header or trailer, and the account of whichever object is kept is charged for it
pub record ChargesCapsule (object number : ℕ) (text : List ℕ) (old new : Heap) : Type 0 where
  pub kind : IsKind (old.blocks object) kinds.Object
  pub fits : IsCapsuleLength (length text)
  pub charged : ChargesObject object number (λ acct. capsule_amounts text) old new

-- an object stands there, this may be a header or trailer, and the account of whichever object is kept allows its charge
pub record CapsuleAllowed (object number : ℕ) (text : List ℕ) (heap : Heap) : Type 0 where
  pub kind : IsKind (heap.blocks object) kinds.Object
  pub fits : IsCapsuleLength (length text)
  pub allows : ObjectAllows object number (λ acct. capsule_amounts text) heap

-- the same, and the account has this cause to refuse
pub record CapsuleRefused (object number : ℕ) (text : List ℕ) (heap : Heap) (refusal : Refusal) : Type 0 where
  pub kind : IsKind (heap.blocks object) kinds.Object
  pub fits : IsCapsuleLength (length text)
  pub refuses : ObjectRefuses object number (λ acct. capsule_amounts text) heap refusal

-- why no header or trailer comes: for the object, for the text, or since its account refuses, in this order, and all is as
-- before; or there is no block for it, or no log room; or a fault
abbrev pub CapsuleStops : ℕ → ℕ → List ℕ → Heap → Heap → Stop → Type 0
CapsuleStops object number text old new (Refused (refusals.BadAddress bad)) =
    Misses (old.blocks object) object kinds.Object (Refused (refusals.BadAddress bad)) × (new ≡ old)
CapsuleStops object number text old new (Refused (refusals.WrongKind bad kind)) =
    Misses (old.blocks object) object kinds.Object (Refused (refusals.WrongKind bad kind)) × (new ≡ old)
CapsuleStops object number text old new (Refused (refusals.BadLength bad most)) =
    IsKind (old.blocks object) kinds.Object × IsNoCapsule (length text) bad most × (new ≡ old)
CapsuleStops object number text old new (Refused (refusals.NoBlock missing)) =
    CapsuleAllowed object number text old × LacksRoom (capsule_need (length text)) old new (Refused (refusals.NoBlock missing))
CapsuleStops object number text old new (Refused (refusals.LogFull lines room)) =
    CapsuleAllowed object number text old
    × LacksRoom (capsule_need (length text)) old new (Refused (refusals.LogFull lines room))
CapsuleStops object number text old new (Refused refusal) = CapsuleRefused object number text old refusal × (new ≡ old)
CapsuleStops object number text old new stop = OnlyFault stop

-- the object with one more header, which is first
abbrev pub with_header : ObjectRow → CapsuleRow → ObjectRow
with_header row c = record row { headers = c ∷ row.headers }

-- the object with one more trailer, which is last
abbrev pub with_trailer : ObjectRow → CapsuleRow → ObjectRow
with_trailer row c = record row { trailers = row.trailers ++ c ∷ [] }

-- whichever object is kept has one more header or trailer of this text, for which its account is charged
pub record AddsCapsule (with_capsule : ObjectRow → CapsuleRow → ObjectRow) (object number : ℕ) (text : List ℕ) (old new : Heap)
    : Type 0 where
  pub kind : IsKind (old.blocks object) kinds.Object
  pub fits : IsCapsuleLength (length text)
  pub addr : ℕ
  pub new_block : IsFree old.blocks addr
  pub pays : (row : ObjectRow) (tickets : List Ticket) → KeepsWithQueue old object row tickets →
      Pays row.account number (capsule_amounts text) tickets (Took (capsule_need (length text)) addr ∷ [])
      (object_entries object row) (object_entries object (with_capsule row (record { addr = addr; text = text }))) old new
