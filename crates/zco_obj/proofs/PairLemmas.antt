-- An object and a source beside it: an extent comes that names the source, which counts it.
use Rattle.std.proofs.Common.{◌<◌, ◌^◌, ℕ, List, [], ◌++◌, sym, ◌∙◌, subst, append_assoc}
use Rattle.sdr_base.specs.Blocks.{Blocks}
use Rattle.sdr_base.specs.Entries.{Entries, BlocksAre}
use Rattle.sdr_base.specs.Objects.{Heap}
use Rattle.sdr_base.specs.ZcoObjects.{ObjectRow, object_entries}
use Rattle.sdr_base.specs.declared.account.Acct.{Acct}
use Rattle.sdr_base.specs.declared.account.Amounts.{Amounts}
use Rattle.sdr_base.proofs.StandingLemmas.{found, moved, moved_back}
use Rattle.sdr_model.specs.declared.accounts.Ticket.{Ticket}
use Rattle.zco_acct.specs.Charges.{charged}
use Rattle.zco_acct.specs.Kept.{queue_entries}
use Rattle.zco_obj.specs.Appending.{NamesSource}
use Rattle.zco_obj.specs.Beside.{KeepsBeside, KeepsPair, KeepsWithSource, SomePair}
use Rattle.zco_obj.specs.Charging.{ChargesObject}
use Rattle.zco_obj.specs.Extents.{AddsExtent, extent_of, with_extent}
use Rattle.zco_obj.specs.Kept.{KeepsObject, SomeObject}
use Rattle.zco_obj.specs.Reading.{Tells}
use Rattle.zco_obj.specs.declared.extent.ExtentPiece.{ExtentPiece}
use Rattle.zco_obj.proofs.ChargeLemmas.{queue_of, stands_still}
use Rattle.zco_ref.specs.Counting.{Attaches, attached}
use Rattle.zco_ref.specs.Kept.{CountedSource, KeepsSource, SomeBelow, count_in, counted_block, counted_entries}

-- a part may stand before the others, behind some first ones
pub swapped : (b : Blocks) (xs ys part zs : Entries) → BlocksAre b (xs ++ (ys ++ (part ++ zs))) → BlocksAre b (xs ++ (part ++ (ys ++ zs)))
swapped b xs ys part zs s =
    moved_back xs part (ys ++ zs)
    (subst (λ (es : Entries). BlocksAre b (part ++ es)) (append_assoc xs ys zs)
    (moved (xs ++ ys) part zs (subst (λ (es : Entries). BlocksAre b es) (sym (append_assoc xs ys (part ++ zs))) s)))

-- the object, and the source, of a pair
module _ {blocks : Blocks} {object : ℕ} {row : ObjectRow} {addr : ℕ} {source : CountedSource} (k : KeepsPair blocks object row addr source) where
  pub pair_object : KeepsObject blocks object row
  pair_object = record { rest = counted_entries addr source ++ k.rest; stands = k.stands; fits = k.object_fits }

  pub pair_source : KeepsSource (blocks addr) source
  pair_source = record { block = found blocks addr (counted_block source) (object_entries object row) k.rest k.stands; fits = k.source_fits }

pub some_of_pair : {blocks : Blocks} {object addr : ℕ} → SomePair blocks object addr → SomeObject blocks object
some_of_pair q = record { row = q.row; keeps = pair_object q.keeps }

-- an extent comes, and then the source counts it
module _ {object : ℕ} {acct : Acct} {old mid : Heap} (piece : ExtentPiece) (a : AddsExtent object piece old mid)
    (t : Tells old.blocks object (λ row. row.account) acct) where
  -- the source is there once the extent has come
  counted_first : {row : ObjectRow} {source : CountedSource} → KeepsPair old.blocks object row piece.of source → (rest : Entries) →
      BlocksAre old.blocks (object_entries object row ++ (counted_entries piece.of source ++ rest)) →
      BlocksAre mid.blocks
      (counted_entries piece.of source ++ (object_entries object (with_extent row (extent_of a.addr piece)) ++ rest))
  counted_first {row} {source} k rest s =
      moved (object_entries object (with_extent row (extent_of a.addr piece))) (counted_entries piece.of source) rest
      ((a.adds row (pair_object k)).kept (counted_entries piece.of source ++ rest) s)

  source_kept : {row : ObjectRow} {source : CountedSource} → KeepsPair old.blocks object row piece.of source →
      KeepsSource (mid.blocks piece.of) source
  source_kept {row} {source} k = record {
    block = found mid.blocks piece.of (counted_block source) [] _ (counted_first k k.rest k.stands);
    fits = k.source_fits;
  }

  pub some_below : SomePair old.blocks object piece.of → SomeBelow acct (mid.blocks piece.of)
  some_below q = record {
    source = q.source;
    keeps = source_kept q.keeps;
    below = subst (λ (c : Acct). count_in c q.source < 2 ^ 62) (sym (t.tells q.row (pair_object q.keeps))) q.keeps.below;
  }

  pub names_source : {new : Heap} → SomePair old.blocks object piece.of → Attaches piece.of acct mid new → NamesSource object piece old new
  names_source {new} q b = record {
    addr = a.addr;
    new_block = a.new_block;
    names = λ row source k. record {
      kept = λ rest s.
          let C = counted_entries piece.of source in
          let O' = object_entries object (with_extent row (extent_of a.addr piece)) in
          let own = t.tells row (pair_object k) in
          let first = counted_first k rest (subst (λ (es : Entries). BlocksAre old.blocks es) (append_assoc (object_entries object row) C rest) s) in
          let counts : BlocksAre new.blocks (counted_entries piece.of (attached acct source) ++ (O' ++ rest)) =
          (b.becomes source (source_kept k)).changes.kept (O' ++ rest) first in
          subst (λ (es : Entries). BlocksAre new.blocks es)
          (sym (append_assoc O' (counted_entries piece.of (attached row.account source)) rest))
          (moved_back O' (counted_entries piece.of (attached row.account source)) rest
          (subst (λ (c : Acct). BlocksAre new.blocks (counted_entries piece.of (attached c source) ++ (O' ++ rest))) own counts));
    };
    made = record { all = (b.becomes q.source (source_kept q.keeps)).same ∙ a.made.all };
  }

-- what stands beside an object and its queue stands so once its account was charged
pub beside_still : {object number : ℕ} {amounts : Acct → Amounts} {old mid : Heap} → ChargesObject object number amounts old mid →
    {row : ObjectRow} {tickets : List Ticket} {es : Entries} (k : KeepsBeside old object row tickets es) →
    BlocksAre mid.blocks (object_entries object row ++ (es ++ (queue_entries row.account (charged tickets number (amounts row.account)) ++ k.behind)))
beside_still {object} {number} {amounts} {old} {mid} c {row} {tickets} {es} k =
    swapped mid.blocks (object_entries object row) (queue_entries row.account (charged tickets number (amounts row.account))) es k.behind
    (stands_still (c.charges row tickets k.keeps) (queue_of k.keeps) (object_entries object row) (es ++ k.behind)
    (subst (λ (rest : Entries). BlocksAre old.blocks (object_entries object row ++ (queue_entries row.account tickets ++ rest))) k.whole
    k.keeps.stands))

pub pair_still : {object number addr : ℕ} {amounts : Acct → Amounts} {old mid : Heap} → ChargesObject object number amounts old mid →
    {row : ObjectRow} {tickets : List Ticket} {source : CountedSource} → KeepsWithSource old object row tickets addr source →
    KeepsPair mid.blocks object row addr source
pair_still c {row} {tickets} {source} k = record {
  rest = _;
  stands = beside_still c k.beside;
  object_fits = k.beside.keeps.fits;
  source_fits = k.fits;
  below = k.below;
}
