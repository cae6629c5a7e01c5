-- The parts of an object are given back, with what goes with its extents.
use Rattle.std.proofs.Common.{◌≡◌, ◌+◌, ℕ, List, [], ◌∷◌, ◌++◌, length, map, sym, ap, ◌∙◌, arith, subst, append_assoc, append-nil, length-append}
use Rattle.std.proofs.lemmas.List.{length-map}
use Rattle.sdr_base.specs.Entries.{Entries, BlocksAre}
use Rattle.sdr_base.specs.Making.{GaveSome}
use Rattle.sdr_base.specs.Objects.{Heap}
use Rattle.sdr_base.specs.ZcoObjects.{ObjectRow, capsule_addr, capsule_entries, extent_entries, object_block}
use Rattle.sdr_base.specs.declared.account.Acct.{Acct}
use Rattle.sdr_base.specs.declared.account.Amounts.{Amounts}
use Rattle.sdr_base.specs.declared.refusal.Refusal.TheVariants.{LogFull}
use Rattle.sdr_base.specs.declared.stop.Stop.{Stop}
use Rattle.sdr_base.specs.declared.stop.Stop.TheVariants.{Refused, DiskFault, MediaFault, Failed}
use Rattle.sdr_base.proofs.GaveLemmas.{gave_spare, more_gave, some_of, some_then}
use Rattle.sdr_base.proofs.StandingLemmas.{moved}
use Rattle.sdr_model.specs.Amounts.{plus}
use Rattle.zco_obj.specs.Amounts.{heap_amounts}
use Rattle.zco_obj.specs.Destroying.{GivesParts, KeepsSources, PartStops, SomeWithSources, gone_parts}
use Rattle.zco_obj.specs.Giving.{CapsuleGiveStops, CapsulesGone, GivesCapsules, SomeCapsulesToGive, capsules_charge}
use Rattle.zco_obj.specs.Uses.{AreNamed, ExtentsGiveStops, ExtentsGone, GivesExtents, SomeUses, UsesAt}
use Rattle.zco_obj.specs.Gone.{NamedSource, extents_amounts, gone_blocks, sources_entries, sources_left}
use Rattle.zco_obj.specs.Kept.{KeepsObject, SomeObject}
use Rattle.zco_obj.specs.Reading.{Tells, TellsFirsts}
use Rattle.zco_obj.specs.Walks.{CapsulesAt}
use Rattle.zco_obj.specs.declared.object.Firsts.{Firsts}
use Rattle.zco_obj.proofs.PairLemmas.{swapped}

-- how many blocks go
count_parts : (row : ObjectRow) (ss : List NamedSource) → length (gone_parts row ss)
    ≡ length row.headers + length (gone_blocks ss row.extents row.extents) + length row.trailers
count_parts row ss =
    let H = map capsule_addr row.headers in
    let G = gone_blocks ss row.extents row.extents in
    let T = map capsule_addr row.trailers in
    let a = length-append (H ++ G) T in
    let b = length-append H G in
    let c = length-map row.headers capsule_addr in
    let d = length-map row.trailers capsule_addr in omega (arith, a, b, c, d)

-- an object is kept
pub some_kept : {heap : Heap} {object : ℕ} → SomeWithSources heap object → SomeObject heap.blocks object
some_kept q = record {
  row = q.row;
  keeps = record { rest = sources_entries q.sources ++ q.keeps.rest; stands = q.keeps.stands; fits = q.keeps.fits };
}

module _ {object : ℕ} {acct : Acct} (old : Heap) (first : Firsts) (f : TellsFirsts old.blocks object first)
    (t : Tells old.blocks object (λ row. row.account) acct) where
  pub kept : {row : ObjectRow} {ss : List NamedSource} → KeepsSources old.blocks object row ss → KeepsObject old.blocks object row
  kept {row} {ss} k = record { rest = sources_entries ss ++ k.rest; stands = k.stands; fits = k.fits }

  headers_stand : {row : ObjectRow} {ss : List NamedSource} (k : KeepsSources old.blocks object row ss) →
      BlocksAre old.blocks
      (capsule_entries row.headers
      ++ ((object, object_block row)
      ∷ (extent_entries row.extents ++ (capsule_entries row.trailers ++ (sources_entries ss ++ k.rest)))))
  headers_stand {row} {ss} k =
      let H = capsule_entries row.headers in
      let X = extent_entries row.extents in
      let T = capsule_entries row.trailers in
      let R = sources_entries ss ++ k.rest in
      moved ((object, object_block row) ∷ []) H (X ++ (T ++ R))
      (subst (λ (es : Entries). BlocksAre old.blocks ((object, object_block row) ∷ es))
      (append_assoc (H ++ X) T R ∙ append_assoc H X (T ++ R)) k.stands)

  pub headers_in : {row : ObjectRow} {ss : List NamedSource} → KeepsSources old.blocks object row ss → CapsulesAt old.blocks first.header row.headers
  headers_in {row} k = record {
    rest = _;
    stands = headers_stand k;
    at_first = (f.told row (kept k)).header;
    fits = k.fits.headers;
    few = let f = k.fits.few in omega (arith, f);
  }

  pub some_headers : SomeWithSources old object → SomeCapsulesToGive old first.header
  some_headers q = record {
    rows = q.row.headers;
    is = headers_in q.keeps;
    room =
        let r = q.room in
        let n = count_parts q.row q.sources in
        let l = length-append (gone_parts q.row q.sources) (object ∷ []) in omega (arith, r, n, l);
  }

  -- why they aren't given back
  pub headers_stop : (new : Heap) (stop : Stop) → CapsuleGiveStops first.header old new stop → PartStops object old new stop
  headers_stop new (Refused (LogFull lines room)) s = record {
    gives = λ row ss k.
        let H = map capsule_addr row.headers in
        let G = gone_blocks ss row.extents row.extents in
        let T = map capsule_addr row.trailers in
        subst (λ (l : List ℕ). GaveSome l old new) (sym (append_assoc H G T)) (some_of (G ++ T) (s.gives row.headers (headers_in k)));
  }
  headers_stop new (Refused refusal) s = s
  headers_stop new DiskFault s = s
  headers_stop new MediaFault s = s
  headers_stop new Failed s = s

  module _ {h1 : Heap} {headers : ℕ} (g1 : GivesCapsules first.header old h1 headers) where
    headers_gone : {row : ObjectRow} {ss : List NamedSource} (k : KeepsSources old.blocks object row ss) →
        CapsulesGone row.headers (headers_in k).rest old h1 headers
    headers_gone {row} k = g1.gives row.headers (headers_in k)

    pub extents_in : {row : ObjectRow} {ss : List NamedSource} → KeepsSources old.blocks object row ss → UsesAt acct h1.blocks first.extent row.extents ss
    unfolding headers_in
    extents_in {row} {ss} k =
        let X = extent_entries row.extents in
        let T = capsule_entries row.trailers in
        let S = sources_entries ss in
        let O : Entries = (object, object_block row) ∷ [] in
        record {
          rest = (O ++ T) ++ k.rest;
          stands = swapped h1.blocks X (O ++ T) S k.rest (moved O X (T ++ (S ++ k.rest)) (headers_gone k).stands);
          at_first = (f.told row (kept k)).extent;
          fits = k.fits.extents;
          few = let f = k.fits.few in omega (arith, f);
          named = subst (λ (n : Acct). AreNamed n row.extents ss) (sym (t.tells row (kept k))) k.named;
        }

    pub some_extents : SomeWithSources old object → SomeUses acct h1 first.extent
    some_extents q = record {
      extents = q.row.extents;
      sources = q.sources;
      is = extents_in q.keeps;
      room =
          let r = q.room in
          let n = count_parts q.row q.sources in
          let l = length-append (gone_parts q.row q.sources) (object ∷ []) in
          let m = gave_spare (map capsule_addr q.row.headers) (headers_gone q.keeps).made in
          let h = length-map q.row.headers capsule_addr in omega (arith, r, n, l, m, h);
    }

    pub extents_stop : (new : Heap) (stop : Stop) → ExtentsGiveStops acct first.extent h1 new stop → PartStops object old new stop
    extents_stop new (Refused (LogFull lines room)) s = record {
      gives = λ row ss k.
          let H = map capsule_addr row.headers in
          let G = gone_blocks ss row.extents row.extents in
          let T = map capsule_addr row.trailers in
          subst (λ (l : List ℕ). GaveSome l old new) (sym (append_assoc H G T))
          (some_then H G T (headers_gone k).made (s.gives row.extents ss (extents_in k)));
    }
    extents_stop new (Refused refusal) s = s
    extents_stop new DiskFault s = s
    extents_stop new MediaFault s = s
    extents_stop new Failed s = s

    module _ {h2 : Heap} {extents : Amounts} (g2 : GivesExtents acct first.extent h1 h2 extents) where
      extents_gone : {row : ObjectRow} {ss : List NamedSource} (k : KeepsSources old.blocks object row ss) →
          ExtentsGone acct row.extents ss (extents_in k).rest h1 h2 extents
      extents_gone {row} {ss} k = g2.gives row.extents ss (extents_in k)

      pub trailers_in : {row : ObjectRow} {ss : List NamedSource} → KeepsSources old.blocks object row ss → CapsulesAt h2.blocks first.trailer row.trailers
      unfolding extents_in
      trailers_in {row} {ss} k =
          let T = capsule_entries row.trailers in
          let S = sources_left acct row.extents ss in
          let O : Entries = (object, object_block row) ∷ [] in
          record {
            rest = (object, object_block row) ∷ (S ++ k.rest);
            stands = moved (O ++ S) T k.rest (moved S O (T ++ k.rest) (extents_gone k).stands);
            at_first = (f.told row (kept k)).trailer;
            fits = k.fits.trailers;
            few = let f = k.fits.few in omega (arith, f);
          }

      pub some_trailers : SomeWithSources old object → SomeCapsulesToGive h2 first.trailer
      some_trailers q = record {
        rows = q.row.trailers;
        is = trailers_in q.keeps;
        room =
            let r = q.room in
            let n = count_parts q.row q.sources in
            let l = length-append (gone_parts q.row q.sources) (object ∷ []) in
            let m = gave_spare (map capsule_addr q.row.headers) (headers_gone q.keeps).made in
            let h = length-map q.row.headers capsule_addr in
            let x = gave_spare (gone_blocks q.sources q.row.extents q.row.extents) (extents_gone q.keeps).made in
            omega (arith, r, n, l, m, h, x);
      }

      pub trailers_stop : (new : Heap) (stop : Stop) → CapsuleGiveStops first.trailer h2 new stop → PartStops object old new stop
      trailers_stop new (Refused (LogFull lines room)) s = record {
        gives = λ row ss k.
            let H = map capsule_addr row.headers in
            let G = gone_blocks ss row.extents row.extents in
            let T = map capsule_addr row.trailers in
            subst (λ (l : List ℕ). GaveSome ((H ++ G) ++ l) old new) (append-nil T)
            (some_then (H ++ G) T [] (more_gave H G (headers_gone k).made (extents_gone k).made) (s.gives row.trailers (trailers_in k)));
      }
      trailers_stop new (Refused refusal) s = s
      trailers_stop new DiskFault s = s
      trailers_stop new MediaFault s = s
      trailers_stop new Failed s = s

      -- all are gone
      pub gives_parts : {h3 : Heap} {trailers : ℕ} (charged : Amounts) → GivesCapsules first.trailer h2 h3 trailers →
          charged ≡ plus extents (heap_amounts (headers + trailers)) → GivesParts object old h3 charged
      unfolding trailers_in
      gives_parts {h3} {trailers} charged g3 e = record {
        gives = λ row ss k.
            let H = map capsule_addr row.headers in
            let G = gone_blocks ss row.extents row.extents in
            let T = map capsule_addr row.trailers in
            let one = headers_gone k in
            let two = extents_gone k in
            let three = g3.gives row.trailers (trailers_in k) in
            let own = t.tells row (kept k) in
            record {
              stands = subst (λ (n : Acct). BlocksAre h3.blocks ((object, object_block row) ∷ (sources_left n row.extents ss ++ k.rest))) own three.stands;
              made = more_gave (H ++ G) T (more_gave H G one.made two.made) three.made;
              charge =
                  e ∙ ap (λ (m : Amounts). plus m (heap_amounts (headers + trailers))) (two.charge ∙ ap (λ n. extents_amounts n ss row.extents) own)
                  ∙ ap (λ n. plus (extents_amounts row.account ss row.extents) (heap_amounts (n + trailers))) one.charge
                  ∙ ap (λ n. plus (extents_amounts row.account ss row.extents) (heap_amounts (capsules_charge row.headers + n))) three.charge;
            };
      }
