-- An object that has lost a header or trailer, and the queue of its account, whatever else a heap has.
use Rattle.std.proofs.Common.{◌≡◌, ◌∙◌, ◌-◌, ◌++◌, ℕ, List, [], ◌∷◌, length, refl, sym, ap, subst, arith}
use Rattle.std.proofs.lemmas.List.{length-drop, length-take}
use Rattle.std.proofs.lemmas.List.Elements.{All-drop, All-take}
use Rattle.std.specs.Prelude.{Option, None, Some}
use Rattle.sdr_base.proofs.StandingLemmas.{moved}
use Rattle.sdr_base.specs.Entries.{BlocksAre}
use Rattle.sdr_base.specs.Making.{with_moves}
use Rattle.sdr_base.specs.Objects.{Heap}
use Rattle.sdr_base.specs.ZcoObjects.{CapsuleRow, ObjectRow, object_entries}
use Rattle.sdr_base.specs.declared.account.Acct.{Acct}
use Rattle.sdr_base.specs.declared.moves.Move.TheVariants.{Gave}
use Rattle.sdr_model.specs.Amounts.{minus}
use Rattle.sdr_model.specs.declared.accounts.Ticket.{Ticket}
use Rattle.zco_acct.specs.Kept.{SomeQueue, queue_entries}
use Rattle.zco_acct.specs.Words.{first_word, last_word, occupied_in}
use Rattle.zco_obj.specs.Amounts.{capsule_amounts}
use Rattle.zco_obj.specs.Discards.{Discarded, DiscardsCapsule, DiscardsOne, without_header, without_trailer}
use Rattle.zco_obj.specs.Kept.{CapsuleFits, IsWithQueue, KeepsObject, KeepsWithQueue, ObjectFits, SomeObject, SomeWithQueue}
use Rattle.zco_obj.specs.Reading.{Tells}
use Rattle.zco_space.proofs.RootLemmas.{first_of_occupied, last_of_occupied}

-- an object without one of its headers or trailers fits still, and has its account
pub record StillFits (without : ObjectRow → ObjectRow) : Type 0 where
  pub fits : (row : ObjectRow) → ObjectFits row → ObjectFits (without row)
  pub account : (row : ObjectRow) → (without row).account ≡ row.account

pub header_fits : StillFits without_header
header_fits = record {
  fits = λ row f. record {
    headers = All-drop CapsuleFits 1 row.headers f.headers;
    extents = f.extents;
    trailers = f.trailers;
    few = let less = length-drop 1 row.headers in let few = f.few in omega (arith, less, few);
    part = f.part;
  };
  account = λ row. refl;
}

pub trailer_fits : StillFits without_trailer
trailer_fits = record {
  fits = λ row f.
      let n = length row.trailers - 1 in
      record {
        headers = f.headers;
        extents = f.extents;
        trailers = All-take CapsuleFits n row.trailers f.trailers;
        few = let less = length-take n row.trailers in let few = f.few in omega (arith, less, few);
        part = f.part;
      };
  account = λ row. refl;
}

-- the one that went
pub record Lost (object : ℕ) (row after : ObjectRow) (picked : Option CapsuleRow) (old mid : Heap) : Type 0 where
  pub capsule : CapsuleRow
  pub is : picked ≡ Some capsule
  pub discarded : Discarded object row after capsule old mid

pub lost_of : {object : ℕ} {row after : ObjectRow} {old mid : Heap} (picked : Option CapsuleRow) →
    DiscardsOne object row picked after old mid → Lost object row after picked old mid
lost_of None d = absurd d
lost_of (Some c) d = record { capsule = c; is = refl; discarded = d }

-- an object that is kept with its queue is kept alone
pub kept_alone : {heap : Heap} {object : ℕ} {row : ObjectRow} {tickets : List Ticket} → KeepsWithQueue heap object row tickets →
    KeepsObject heap.blocks object row
kept_alone k = record { rest = _; stands = k.stands; fits = k.fits }

-- once one went from whichever object is kept
module _ {picks : ObjectRow → Option CapsuleRow} {without : ObjectRow → ObjectRow} (still : StillFits without) {object : ℕ}
    {old mid : Heap} (kept : IsWithQueue old object) (d : DiscardsCapsule picks without object old mid) where
  some : SomeWithQueue old object
  some = kept d.kind

  lost : Lost object some.row (without some.row) (picks some.row) old mid
  lost = lost_of (picks some.row) (d.discards some.row (kept_alone some.keeps))

  still_stands : BlocksAre mid.blocks (object_entries object (without some.row)
      ++ (queue_entries some.row.account some.tickets ++ some.keeps.rest))
  still_stands = lost.discarded.changes.kept (queue_entries some.row.account some.tickets ++ some.keeps.rest) some.keeps.stands

  -- the object is kept still
  left_kept : KeepsObject mid.blocks object (without some.row)
  left_kept = record { rest = _; stands = still_stands; fits = still.fits some.row some.keeps.fits }

  pub object_left : SomeObject mid.blocks object
  object_left = record { row = without some.row; keeps = left_kept }

  -- and so is the queue of its account
  pub queue_left : {acct : Acct} {heap : Heap} → Tells mid.blocks object (λ row. row.account) acct → heap ≡ mid → SomeQueue heap acct
  queue_left {acct} {heap} told same =
      let row = some.row in
      let k = some.keeps in
      let own : acct ≡ row.account = told.tells (without row) left_kept ∙ still.account row in
      let given = with_moves old (Gave lost.capsule.addr ∷ []) in
      let amounts = minus (occupied_in old row.account) (capsule_amounts lost.capsule.text) in
      let others = lost.discarded.others in
      let queue : SomeQueue mid row.account = record {
        tickets = some.tickets;
        keeps = record {
          rest = object_entries object (without row) ++ k.rest;
          stands = moved (object_entries object (without row)) (queue_entries row.account some.tickets) k.rest still_stands;
          first = ap (λ (h : Heap). h.roots (first_word row.account)) others ∙ first_of_occupied given row.account amounts ∙ k.first;
          last = ap (λ (h : Heap). h.roots (last_word row.account)) others ∙ last_of_occupied given row.account amounts ∙ k.last;
          fits = k.tickets_fit;
        };
      } in
      subst (λ (h : Heap). SomeQueue h acct) (sym same) (subst (λ (a : Acct). SomeQueue mid a) (sym own) queue)
