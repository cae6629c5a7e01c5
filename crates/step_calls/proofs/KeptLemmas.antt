-- What is of a kind is kept where a heap stands for a world in which calls are served.
use Rattle.std.proofs.Common.{◌≡◌, ◌≢◌, ◌≤◌, ℕ, List, Option, None, Some, arith, length, map, refl, subst}
use Rattle.std.specs.Prelude.{IfSome}
use Rattle.sdr_base.specs.Blocks as base
use Rattle.sdr_base.specs.Blocks.{IsKind}
use Rattle.sdr_base.specs.Objects.{Heap}
use Rattle.sdr_base.specs.Raws.{raw_block}
use Rattle.sdr_base.specs.declared.kind.Kind.TheVariants as kinds
use Rattle.sdr_heap.specs.Raw.{HasSourceWord}
use Rattle.sdr_model.specs.Pieces.{extent_pieces}
use Rattle.sdr_model.specs.Valid.{IsValidObject, IsValidThing}
use Rattle.sdr_model.specs.World.{World}
use Rattle.sdr_model.specs.Zco.{source_naming}
use Rattle.sdr_model.specs.declared.things.Thing.{Thing}
use Rattle.sdr_stands.specs.Rows.{hash_row, list_row, name_row, object_row, table_row}
use Rattle.sdr_stands.specs.Standing.{HeapStandsFor}
use Rattle.sdr_stands.specs.Ties.{or_null, ties_of}
use Rattle.step_calls.specs.Serving.{KeepsKinds}
use Rattle.step_keyed.proofs.HashLemmas.{hash_is_at}
use Rattle.step_keyed.proofs.NameLemmas.{names_kept}
use Rattle.step_things.proofs.EntryLemmas.{source_there}
use Rattle.step_things.proofs.ListLemmas.{IsSmall, list_is_at}
use Rattle.step_things.proofs.RawLemmas.{length_of_raw, raw_is_at}
use Rattle.step_things.proofs.SpotLemmas.{spot_is_at}
use Rattle.step_things.proofs.TableLemmas.{table_is_at}
use Rattle.step_things.proofs.TextLemmas.{text_is_at}
use Rattle.step_things.specs.Answering.{HeapStands, IsReady}
use Rattle.step_zco.proofs.AppendRaws.{with_raw}
use Rattle.step_zco.proofs.AppendSources.{with_source}
use Rattle.step_zco.proofs.ComingLemmas.{queues_kept}
use Rattle.step_zco.proofs.DestroyKept.{with_all}
use Rattle.step_zco.proofs.ObjectLemmas.{object_is_at, object_kept, object_with_queue}
use Rattle.step_zco.proofs.SourceLemmas.{counted_in, named_is_at, source_few, source_is_at, source_tied}
use Rattle.step_zco_parts.proofs.CutRows.{bytes_row}
use Rattle.step_zco_parts.proofs.PartKeptLemmas.{countable}
use Rattle.step_zco_parts.proofs.WireKeptLemmas.{wire_kept}
use Rattle.step_zco_parts.specs.Stripping.{IsToCut}
use Rattle.zco_ref.specs.Kept.{SomeFew}

module _ (heap : Heap) (w : World) (s : HeapStandsFor heap w) (ready : IsReady w) (small : IsSmall heap) where
  -- a raw object's block has its source word
  has_word : (addr : ℕ) → HasSourceWord (heap.blocks addr)
  has_word addr = by (heap.blocks addr) (λ kind. let r = raw_is_at heap w addr s ready.whole.valid kind in (r.bytes, r.block))
    where
      named_by : ℕ
      named_by = (ties_of w).named_by addr

      by : (found : Option base.Block) → (IsKind found kinds.Raw → (bytes : List ℕ) × (found ≡ Some (raw_block named_by bytes)))
          → HasSourceWord found
      by None raws = tt
      by (Some block) raws =
          λ kind.
          let r = raws kind in
          let same : raw_block named_by r.0 ≡ block = cc in
          subst (λ (b : base.Block). 8 ≤ length b.bytes) same (omega (arith, length_of_raw named_by r.0))

  -- a source that names a raw object has counts that can be added
  naming_few : (raw : ℕ) (o : Option ℕ) → source_naming w raw ≡ o → or_null o ≢ 0 → SomeFew (heap.blocks (or_null o))
  naming_few raw None is some = absurd (some refl)
  naming_few raw (Some a) is some = let n = source_there w raw a is in source_few heap w a n.source s ready small n.there

  -- an object is kept with all that it takes to cut it to its part
  to_cut : (addr : ℕ) → IsToCut heap addr
  unfolding with_all
  to_cut addr kind =
      let at = object_is_at heap w addr s ready kind in
      let valid : IsValidObject at.object =
      subst (λ (o : Option Thing). IfSome o IsValidThing) at.there (ready.whole.valid.things addr) in
      record { all = with_all heap w s ready small addr at.object at.there; bytes = bytes_row at.object valid }

  all_kept : KeepsKinds heap
  all_kept = record {
    words = has_word;
    strings = λ addr kind. let t = text_is_at heap w addr s ready.whole.valid kind in record { text = t.text; keeps = t.keeps };
    lists = λ addr kind. let l = list_is_at heap w addr s ready small kind in record { row = list_row l.row; keeps = l.keeps };
    elements = λ addr kind. let e = spot_is_at heap w addr s ready small kind in record { spot = _; is = e.keeps };
    tables = λ addr kind. let t = table_is_at heap w addr s ready kind in record { table = table_row t.table; keeps = t.keeps };
    hashes = λ addr kind. let h = hash_is_at heap w addr s ready kind in record { row = hash_row h.hash; keeps = h.keeps };
    names = record { names = map name_row w.names; keeps = names_kept heap w s ready };
    few = λ addr kind.
        let f = source_is_at heap w addr s ready small kind in source_few heap w addr f.source s ready small f.there;
    tied = λ addr kind.
        let f = source_is_at heap w addr s ready small kind in
        let t = source_tied heap w addr f.source s ready small f.there in
        record { source = counted_in w addr f.source; bytes = t.bytes; tied = t.tied };
    raws = λ raw kind.
        let r = named_is_at heap w raw s ready kind in
        record { named_by = or_null (source_naming w raw); bytes = r.bytes; keeps = r.keeps; named = λ some. naming_few raw (source_naming w raw) refl some };
    queues = λ acct. queues_kept s ready acct;
    objects = λ addr kind.
        let at = object_is_at heap w addr s ready kind in
        record { row = object_row at.object; keeps = object_kept heap w s ready small addr at.object at.there };
    with_queues = λ addr kind.
        let at = object_is_at heap w addr s ready kind in
        record { row = object_row at.object; tickets = _; keeps = object_with_queue heap w addr at.object s ready small at.there };
    with_sources = λ addr source. with_source heap w s ready small addr source;
    with_raws = λ addr raw. with_raw heap w s ready small addr raw;
    with_all = λ addr kind. let at = object_is_at heap w addr s ready kind in with_all heap w s ready small addr at.object at.there;
    countable = λ addr. countable heap w s ready small addr;
    to_cut = to_cut;
    wires = λ addr kind.
        let at = object_is_at heap w addr s ready kind in
        record {
          row = object_row at.object;
          named = extent_pieces w at.object.extents;
          keeps = wire_kept heap w s ready small addr at.object at.there;
        };
  }

-- so it is where a heap stands for some
pub kinds_kept : {heap : Heap} → HeapStands heap → IsSmall heap → KeepsKinds heap
kinds_kept {heap} h small = all_kept heap h.world h.stands h.ready small
