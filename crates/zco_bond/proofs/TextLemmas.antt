-- A raw object of a text, and the source that takes it over.
use Rattle.std.proofs.Common.{◌≡◌, ◌≢◌, ◌+◌, ◌-◌, ◌≤◌, ℕ, List, [], ◌∷◌, ◌++◌, length, None, Some, refl, sym, ap, ◌∙◌, arith, subst}
use Rattle.std.specs.Prelude.{Option}
use Rattle.std.proofs.lemmas.List.{take_all}
use Rattle.byteorder.specs.Endian.{big_bytes}
use Rattle.sdr_base.specs.Blocks.{Block, Blocks, HasBytes, Reaches}
use Rattle.sdr_base.specs.Making.{MakesThing}
use Rattle.sdr_base.specs.Objects.{Heap, OnlyShort}
use Rattle.sdr_base.specs.Parts.{overwrite, part}
use Rattle.sdr_base.specs.Raws.{raw_block, raw_entries}
use Rattle.sdr_base.specs.Words.{TakesBytes, layout}
use Rattle.sdr_base.specs.ZcoObjects.{CapsuleRow}
use Rattle.sdr_base.specs.declared.kind.Kind.TheVariants as kinds
use Rattle.sdr_base.specs.declared.medium.Medium.TheVariants as media
use Rattle.sdr_base.specs.declared.moves.Move.{Move}
use Rattle.sdr_base.specs.declared.moves.Move.TheVariants.{Took}
use Rattle.sdr_base.specs.declared.refusal.Refusal.TheVariants as refusals
use Rattle.sdr_base.specs.declared.stop.Stop.{Stop}
use Rattle.sdr_base.specs.declared.stop.Stop.TheVariants.{Refused, DiskFault, MediaFault, Failed}
use Rattle.sdr_base.proofs.GaveLemmas.{made_then, none_made}
use Rattle.sdr_base.proofs.LayoutLemmas.{length-layout, overwrite-layout}
use Rattle.sdr_base.proofs.MakingLemmas.{taken_makes}
use Rattle.sdr_base.proofs.ObjectsLemmas.{with_block-apart, with_block-here}
use Rattle.zco_obj.specs.Walks.{KeepsCapsule}
use Rattle.zco_obj.proofs.RawLemmas.{none_some, other_kind}
use Rattle.zco_ref.specs.Kept.{KeepsRaw, SomeRaw}
use Rattle.zco_ref.specs.Naming.{MakesRawSource, NamingStops}
use Rattle.zco_bond.specs.Rows.{RowStops}
use Rattle.zco_bond.specs.Texts.{CopiesText, FillsRaw, IsSourceRow, IsText, MakesSource}
use Rattle.zco_bond.specs.declared.text.Text.{Text}
use Rattle.zco_bond.proofs.RowLemmas.{TookOne, short_stops, stops_then}

-- the block of a header or trailer has its link and its text
text_whole : {blocks : Blocks} {text : Text} → IsText blocks text → {next : ℕ} {c : CapsuleRow} → KeepsCapsule (blocks text.of) next c →
    8 + text.bytes ≡ length (layout (next ∷ []) c.text)
text_whole t {next} {c} k = let l = length-layout (next ∷ []) c.text in let e = t.tells next c k in omega (arith, l, e)

pub text_short : {blocks : Blocks} {text : Text} → IsText blocks text → text.bytes ≤ 1024
text_short t =
    let e = t.tells t.some.next t.some.capsule t.some.keeps in let f = t.some.keeps.fits.short in omega (arith, e, f)

pub text_reaches : {blocks : Blocks} {text : Text} → IsText blocks text → (end : ℕ) → end ≤ 8 + text.bytes → Reaches (blocks text.of) end
text_reaches {blocks} {text} t end le =
    let k = t.some.keeps in
    let w = text_whole t k in
    subst (λ (o : Option Block). Reaches o end) (sym k.block) (omega (arith, w, le))

-- its bytes, with a raw object's source word in place of the link
pub fills_raw : {blocks : Blocks} {text : Text} (t : IsText blocks text) (got bytes : List ℕ) →
    HasBytes (blocks text.of) 0 (8 + text.bytes) got → bytes ≡ overwrite 0 (big_bytes 8 0) got → FillsRaw (blocks text.of) bytes
fills_raw {blocks} {text} t got bytes h e = record {
  fills = λ next c k.
      let W = layout (next ∷ []) c.text in
      let is : got ≡ part 0 (8 + text.bytes) W = subst (λ (o : Option Block). HasBytes o 0 (8 + text.bytes) got) k.block h in
      let w = text_whole t k in
      e ∙ ap (overwrite 0 (big_bytes 8 0)) (is ∙ take_all (8 + text.bytes) W (omega (arith, w)))
      ∙ overwrite-layout (next ∷ []) c.text 0 0 (omega arith);
}

pub copies_text : {text : Text} {old new : Heap} {raw : ℕ} (block : List ℕ) → FillsRaw (old.blocks text.of) block →
    TakesBytes kinds.Raw block raw old new → CopiesText text old new raw
copies_text {text} {old} {new} {raw} block f b = record {
  copies = λ next c k. subst (λ (x : List ℕ). TakesBytes kinds.Raw x raw old new) (f.fills next c k) b;
}

-- these are the moves that were made once the raw object was taken
module _ {text : Text} {old mid : Heap} {raw : ℕ} (t : IsText old.blocks text) (c : CopiesText text old mid raw) where
  copied : TakesBytes kinds.Raw (raw_block 0 t.some.capsule.text).bytes raw old mid
  copied = c.copies t.some.next t.some.capsule t.some.keeps

  long : {next : ℕ} {row : CapsuleRow} → KeepsCapsule (old.blocks text.of) next row → length (layout (0 ∷ []) row.text) ≡ 8 + text.bytes
  long {next} {row} k = let l = length-layout (0 ∷ []) row.text in let n = t.tells next row k in omega (arith, l, n)

  copy_makes : {next : ℕ} {row : CapsuleRow} → KeepsCapsule (old.blocks text.of) next row →
      MakesThing (8 + text.bytes) raw (raw_entries raw 0 row.text) old mid
  copy_makes {next} {row} k =
      subst (λ n. MakesThing n raw (raw_entries raw 0 row.text) old mid) (long k) (taken_makes (c.copies next row k))

  raw_kept : {next : ℕ} {row : CapsuleRow} → KeepsCapsule (old.blocks text.of) next row → KeepsRaw (mid.blocks raw) 0 row.text
  raw_kept {next} {row} k = record {
    block = ap (λ (h : Heap). h.blocks raw) (c.copies next row k).taken ∙ with_block-here old.blocks raw (Some (raw_block 0 row.text));
    small = omega arith;
  }

  pub some_raw : SomeRaw mid.blocks raw
  some_raw = record { named_by = 0; bytes = t.some.capsule.text; keeps = raw_kept t.some.keeps; named = λ n. absurd (n refl) }

  pub raw_spare : 2 ≤ old.spare → 1 ≤ mid.spare
  raw_spare le = let e : mid.spare ≡ old.spare - 1 = ap (λ (h : Heap). h.spare) (copy_makes t.some.keeps).made.all in omega (arith, e, le)

  -- no block was taken for the source
  source_short : (new : Heap) (stop : Stop) → OnlyShort 48 mid new stop → RowStops (IsSourceRow text.bytes) old new stop
  source_short new stop s =
      stops_then (TookOne 48) (IsSourceRow text.bytes) (Took (8 + text.bytes) raw ∷ []) (copy_makes t.some.keeps).made
      (λ u r. record {
        more = [];
        is = record {
          raw = raw;
          source = r.addr;
          is = ap (λ (l : List Move). Took (8 + text.bytes) raw ∷ (l ++ [])) r.is;
        };
      }) new stop (short_stops 48 mid new stop s)

  pub source_stops : (new : Heap) (stop : Stop) → NamingStops raw mid new stop → RowStops (IsSourceRow text.bytes) old new stop
  source_stops new (Refused (refusals.BadAddress bad)) s = absurd (none_some (sym s.0.1 ∙ (raw_kept t.some.keeps).block))
  source_stops new (Refused (refusals.WrongKind bad kind)) s =
      absurd (other_kind (mid.blocks raw) _ kind (raw_kept t.some.keeps).block s.0.1)
  source_stops new (Refused (refusals.InUse bad count)) s = absurd ((s.0.1.used 0 _ (raw_kept t.some.keeps)).some refl)
  source_stops new (Refused (refusals.NoBlock missing)) s = source_short new (Refused (refusals.NoBlock missing)) s.1
  source_stops new (Refused (refusals.LogFull lines room)) s = source_short new (Refused (refusals.LogFull lines room)) s.1
  source_stops new (Refused refusal) s = absurd s.1
  source_stops new DiskFault s = s
  source_stops new MediaFault s = s
  source_stops new Failed s = s

  -- or it was
  pub makes_source : {source : ℕ} {new : Heap} → MakesRawSource media.Heap raw source mid new → MakesSource text old new source
  makes_source {source} {new} m =
      let adds = m.adds t.some.capsule.text (raw_kept t.some.keeps) in
      let apart : source ≢ raw = λ same.
      (let no : None ≡ Some (raw_block 0 t.some.capsule.text) =
      sym adds.fresh ∙ ap mid.blocks same ∙ (raw_kept t.some.keeps).block in cc) in
      let before : old.blocks source ≡ None =
      sym (ap (λ (h : Heap). h.blocks source) copied.taken
      ∙ with_block-apart old.blocks raw (Some (raw_block 0 t.some.capsule.text)) source apart) ∙ adds.fresh in
      record {
        raw = raw;
        raw_small = copied.small;
        small = (m.adds t.some.capsule.text (raw_kept t.some.keeps)).small;
        takes = (copied.nonzero, copied.fresh, (adds.nonzero, (apart, before), tt));
        makes = λ next row k. record {
          kept = λ rest s. (m.adds row.text (raw_kept k)).changes.kept rest ((copy_makes k).adds.changes.kept rest s);
        };
        made = made_then (Took (8 + text.bytes) raw ∷ []) (Took 48 source ∷ []) (copy_makes t.some.keeps).made m.made;
      }

-- no block was taken for the raw object
pub raw_stops : (bytes : ℕ) (old new : Heap) (stop : Stop) → OnlyShort (8 + bytes) old new stop → RowStops (IsSourceRow bytes) old new stop
raw_stops bytes old new stop s =
    stops_then (TookOne (8 + bytes)) (IsSourceRow bytes) [] (none_made old)
    (λ u r. record {
      more = Took 48 0 ∷ [];
      is = record { raw = r.addr; source = 0; is = ap (λ (l : List Move). l ++ (Took 48 0 ∷ [])) r.is };
    }) new stop (short_stops (8 + bytes) old new stop s)
