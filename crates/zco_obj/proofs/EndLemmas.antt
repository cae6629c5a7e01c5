-- An object is destroyed.
use Rattle.std.proofs.Common.{◌≡◌, ◌≤◌, ℕ, List, [], ◌∷◌, ◌++◌, sym, ap, ◌∙◌, arith, subst, append_assoc, append-nil, length-append}
use Rattle.sdr_base.specs.Blocks.{Blocks, IsKind, Reaches}
use Rattle.sdr_base.specs.Entries.{Entries, BlocksAre}
use Rattle.sdr_base.specs.Making.{GaveSome, besides, gave, with_moves}
use Rattle.sdr_base.specs.Objects.{Heap, Misses, OnlyUnmoved, with_given}
use Rattle.sdr_base.specs.ZcoObjects.{object_block, object_entries}
use Rattle.sdr_base.specs.declared.account.Acct.{Acct}
use Rattle.sdr_base.specs.declared.account.Amounts.{Amounts}
use Rattle.sdr_base.specs.declared.kind.Kind.TheVariants as kinds
use Rattle.sdr_base.specs.declared.refusal.Refusal.TheVariants as refusals
use Rattle.sdr_base.specs.declared.stop.Stop.{Stop}
use Rattle.sdr_base.specs.declared.stop.Stop.TheVariants.{Refused, DiskFault, MediaFault, Failed}
use Rattle.sdr_base.proofs.GaveLemmas.{gave_spare, one_gave, some_of, some_then}
use Rattle.sdr_base.proofs.HeapLemmas.{given_blocks, heap_blocks}
use Rattle.sdr_base.proofs.StandingLemmas.{found, went}
use Rattle.sdr_base.proofs.WritingLemmas.{reaches}
use Rattle.sdr_model.specs.Amounts.{minus, plus}
use Rattle.zco_acct.specs.Words.{occupied_in, with_occupied}
use Rattle.zco_obj.specs.Amounts.{heap_amounts}
use Rattle.zco_obj.specs.Destroying.{DestroysObject, DestroyStops, GivesParts, KeepsSources, PartStops, SomeWithSources, charges_of, gone_object, gone_parts}
use Rattle.zco_obj.specs.Gone.{sources_entries, sources_left}
use Rattle.zco_obj.specs.Reading.{Tells}
use Rattle.zco_obj.proofs.KeptLemmas.{object_words}
use Rattle.zco_ref.proofs.GoneLemmas.{unmoved}

-- for the address nothing is destroyed
pub missed_stops : (object : ℕ) (old new : Heap) (stop : Stop) → Misses (old.blocks object) object kinds.Object stop → new ≡ old →
    DestroyStops object old new stop
missed_stops object old new (Refused (refusals.BadAddress bad)) m same = (m, same)
missed_stops object old new (Refused (refusals.WrongKind bad number)) m same = (m, same)
missed_stops object old new (Refused refusal) m same = absurd m
missed_stops object old new DiskFault m same = m
missed_stops object old new MediaFault m same = m
missed_stops object old new Failed m same = m

-- or since the parts aren't all given back
pub parts_stop : (object : ℕ) (old new : Heap) (stop : Stop) → IsKind (old.blocks object) kinds.Object → PartStops object old new stop →
    DestroyStops object old new stop
parts_stop object old new (Refused (refusals.LogFull lines room)) kind s = record {
  kind = kind;
  gave = λ row ss k. some_of (object ∷ []) (s.gives row ss k);
}
parts_stop object old new (Refused refusal) kind s = absurd s
parts_stop object old new DiskFault kind s = s
parts_stop object old new MediaFault kind s = s
parts_stop object old new Failed kind s = s

module _ {object : ℕ} {old mid : Heap} (parts : Amounts) (g : GivesParts object old mid parts) where
  -- its own block is there still, and there is room for the move
  pub object_still : SomeWithSources old object → Reaches (mid.blocks object) 0
  object_still q =
      reaches (mid.blocks object) kinds.Object (object_words q.row) [] 0
      (found mid.blocks object (object_block q.row) [] _ (g.gives q.row q.sources q.keeps).stands) (omega arith)

  pub object_room : SomeWithSources old object → 1 ≤ mid.spare
  object_room q =
      let m = gave_spare (gone_parts q.row q.sources) (g.gives q.row q.sources q.keeps).made in
      let l = length-append (gone_parts q.row q.sources) (object ∷ []) in
      let r = q.room in omega (arith, m, l, r)

  -- it isn't given back
  pub object_stop : (new : Heap) (stop : Stop) → IsKind (old.blocks object) kinds.Object → OnlyUnmoved mid new stop →
      DestroyStops object old new stop
  object_stop new (Refused (refusals.LogFull lines room)) kind u = record {
    kind = kind;
    gave = λ row ss k. some_then (gone_parts row ss) [] (object ∷ []) (g.gives row ss k).made (unmoved [] u.moves u.spare);
  }
  object_stop new (Refused refusal) kind u = absurd u
  object_stop new DiskFault kind u = u
  object_stop new MediaFault kind u = absurd u
  object_stop new Failed kind u = u

  module _ {last : Heap} (w : last ≡ with_given mid object) where
    -- or the account isn't given back what it charged
    pub release_stop : (new : Heap) (stop : Stop) → IsKind (old.blocks object) kinds.Object → OnlyUnmoved last new stop →
        DestroyStops object old new stop
    release_stop new (Refused (refusals.LogFull lines room)) kind u = record {
      kind = kind;
      gave = λ row ss k.
          subst (λ (l : List ℕ). GaveSome l old new) (append-nil (gone_object object row ss))
          (some_then (gone_object object row ss) [] [] (one_gave (gone_parts row ss) object (g.gives row ss k).made w)
          (unmoved [] u.moves u.spare));
    }
    release_stop new (Refused refusal) kind u = absurd u
    release_stop new DiskFault kind u = u
    release_stop new MediaFault kind u = absurd u
    release_stop new Failed kind u = u

    -- it is destroyed
    pub destroys : {new : Heap} (acct : Acct) (charged : Amounts) → IsKind (old.blocks object) kinds.Object →
        Tells old.blocks object (λ row. row.account) acct → charged ≡ plus parts (heap_amounts 72) →
        new ≡ with_occupied last acct (minus (occupied_in last acct) charged) → DestroysObject object old new
    destroys {new} acct charged kind t c r = record {
      kind = kind;
      gone = λ row ss k.
          let own : acct ≡ row.account =
          t.tells row (record { rest = sources_entries ss ++ k.rest; stands = k.stands; fits = k.fits }) in
          let made = one_gave (gone_parts row ss) object (g.gives row ss k).made w in
          let same : occupied_in last acct ≡ occupied_in old acct = ap (λ (h : Heap). occupied_in h acct) made.all in
          let all : charged ≡ charges_of row ss =
          c ∙ ap (λ a. plus a (heap_amounts 72)) (g.gives row ss k).charge in
          let moves = gave (gone_object object row ss) in
          record {
            changes = record {
              kept = λ rest s.
                  let L = sources_left row.account row.extents ss in
                  let k' : KeepsSources old.blocks object row ss =
                  record {
                    rest = rest;
                    stands = subst (λ (es : Entries). BlocksAre old.blocks es) (append_assoc (object_entries object row) (sources_entries ss) rest) s;
                    fits = k.fits;
                    named = k.named;
                  } in
                  subst (λ (b : Blocks). BlocksAre b (L ++ rest)) (sym (heap_blocks r ∙ given_blocks object mid last w))
                  (went mid.blocks object (object_block row) [] (L ++ rest) (g.gives row ss k').stands);
            };
            others =
                ap besides r
                ∙ ap (λ (h : Heap). with_occupied h acct (minus (occupied_in last acct) charged)) made.all
                ∙ ap (λ (a : Amounts). besides (with_occupied (with_moves old moves) acct (minus a charged))) same
                ∙ ap (λ (a : Amounts). besides (with_occupied (with_moves old moves) acct (minus (occupied_in old acct) a))) all
                ∙ ap (λ (a : Acct). besides (with_occupied (with_moves old moves) a (minus (occupied_in old a) (charges_of row ss)))) own;
          };
    }
