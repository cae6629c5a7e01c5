-- Ranges of sources that are read.
use Rattle.std.proofs.Common.{◌≡◌, ◌≤◌, ◌<◌, ◌+◌, ℕ, true, false, cond, List, [], ◌∷◌, length, take, Option, None, Some, IfSome, refl, sym, ap, ◌∙◌, subst, arith, true≢false}
use Rattle.sdr_base.specs.Blocks.{Block, Blocks, HasBytes, Reaches}
use Rattle.sdr_base.specs.Causes.{Rose}
use Rattle.sdr_base.specs.Media.{GivesFrom, Told, file_bytes, item_bytes}
use Rattle.sdr_base.specs.Parts.{part}
use Rattle.sdr_base.specs.Raws.{raw_block}
use Rattle.sdr_base.specs.Sources.{SourceRow}
use Rattle.sdr_base.specs.Words.{HasWord}
use Rattle.sdr_base.specs.declared.kind.Kind.TheVariants as kinds
use Rattle.sdr_base.specs.declared.media.Media.{Ghosts}
use Rattle.sdr_base.specs.declared.medium.Medium.{Medium}
use Rattle.sdr_base.specs.declared.medium.Medium.TheVariants as media
use Rattle.sdr_base.specs.declared.refusal.Refusal.TheVariants.{SourceShort}
use Rattle.sdr_base.specs.declared.stop.Stop.{Stop}
use Rattle.sdr_base.specs.declared.stop.Stop.TheVariants as stops
use Rattle.sdr_base.proofs.LayoutLemmas.{length-layout}
use Rattle.sdr_gather.specs.Gathering.{GivesPiece, HasGiven}
use Rattle.sdr_gather.proofs.GatheringLemmas.{file_given, item_given, known_given}
use Rattle.sdr_machine.specs.Ground.{lies_with_media}
use Rattle.sdr_model.specs.Pieces.{media_bytes, piece_length}
use Rattle.sdr_model.specs.declared.piece.Piece.{Piece}
use Rattle.sdr_model.specs.declared.piece.Piece.TheVariants as pieces
use Rattle.zco_obj.specs.declared.extent.ExtentPiece.{ExtentPiece as Range}
use Rattle.zco_ref.specs.Kept.{IsTiedRaw}
use Rattle.zco_ref.proofs.KeptLemmas.{subject_is}
use Rattle.zco_wire.specs.Asking.{AsksRange}
use Rattle.zco_wire.specs.Naming.{HasUntil, IsNamed, medium_piece}
use Rattle.zco_wire.specs.Seeing.{SeesMedium, SeesRaw, is_raw}
use Rattle.zco_wire.specs.Sources.{GivesRange, IsShortOf, SeesPath}
use Rattle.zco_wire.specs.Stopping.{StopsPiece, StopsRange}
use Rattle.zco_wire.proofs.SeeingLemmas.{bytes_behind}

-- the raw object of a range, where the source has one
tied_raw : (m : Medium) (found : Option Block) (source : ℕ) (bytes : List ℕ) → is_raw m ≡ true → IsTiedRaw m found source bytes →
    found ≡ Some (raw_block source bytes)
tied_raw media.File found source bytes is t = absurd (true≢false (sym is))
tied_raw media.Bulk found source bytes is t = absurd (true≢false (sym is))
tied_raw media.Heap found source bytes is t = t
tied_raw media.Obj found source bytes is t = t

until_raw : (m : Medium) (bytes : List ℕ) (end : ℕ) → is_raw m ≡ true → HasUntil m bytes end → end ≤ length bytes
until_raw media.File bytes end is h = absurd (true≢false (sym is))
until_raw media.Bulk bytes end is h = absurd (true≢false (sym is))
until_raw media.Heap bytes end is h = h
until_raw media.Obj bytes end is h = h

-- in it the range lies
pub raw_range : {blocks : Blocks} {range : Range} {p : Piece} (addr : ℕ) (n : IsNamed blocks range p) → SeesRaw blocks range.of →
    HasWord (blocks range.of) 4 addr → Reaches (blocks addr) (8 + range.offset + range.bytes)
raw_range {blocks} {range} addr n s h =
    let is = s.sees n.source n.tied.keeps in
    let at : addr ≡ n.source.row.subject = subject_is n.tied.keeps h in
    let found = ap blocks at ∙ tied_raw n.source.row.medium (blocks n.source.row.subject) range.of n.bytes is n.tied.raw in
    let inside = until_raw n.source.row.medium n.bytes (range.offset + range.bytes) is n.inside in
    subst (λ (o : Option Block). Reaches o (8 + range.offset + range.bytes)) (sym found)
    (let l = length-layout (range.of ∷ []) n.bytes in omega (arith, l, inside))

piece_raw : (m : Medium) (row : SourceRow) (bytes : List ℕ) (offset count : ℕ) → is_raw m ≡ true →
    medium_piece m row bytes offset count ≡ pieces.Known (part offset count bytes)
piece_raw media.File row bytes offset count is = absurd (true≢false (sym is))
piece_raw media.Bulk row bytes offset count is = absurd (true≢false (sym is))
piece_raw media.Heap row bytes offset count is = refl
piece_raw media.Obj row bytes offset count is = refl

-- and its bytes are given
pub raw_given : {blocks : Blocks} {range : Range} (told : Option Told) (addr : ℕ) (bytes : List ℕ) → SeesRaw blocks range.of →
    HasWord (blocks range.of) 4 addr → HasBytes (blocks addr) (8 + range.offset) range.bytes bytes → GivesRange told blocks range bytes
raw_given {blocks} {range} told addr bytes s h b = record {
  gives = λ p n.
      let is = s.sees n.source n.tied.keeps in
      let at : addr ≡ n.source.row.subject = subject_is n.tied.keeps h in
      let found = ap blocks at ∙ tied_raw n.source.row.medium (blocks n.source.row.subject) range.of n.bytes is n.tied.raw in
      let e : bytes ≡ part range.offset range.bytes n.bytes =
      bytes_behind (blocks addr) kinds.Raw (range.of ∷ []) n.bytes 8 range.offset range.bytes bytes found refl b in
      let q : p ≡ pieces.Known bytes =
      n.is ∙ piece_raw n.source.row.medium n.source.row n.bytes range.offset range.bytes is ∙ ap (λ l. pieces.Known l) (sym e) in
      subst (λ (x : Piece). GivesPiece told x bytes) (sym q) ((known_given told bytes (Unit {0})).whole refl);
}

-- too few bytes of a piece that lies with media
module _ {M : Type 0} (m : Ghosts M) (old new : M) (p : Piece) (into : List ℕ) (have : ℕ) where
  both : (told : Option Told) (had want : ℕ) → had ≡ have → want ≡ piece_length p → IfSome told (λ media. have ≡ length (media_bytes media p)) →
      IfSome told (λ media. (had ≡ length (media_bytes media p)) × (want ≡ piece_length p))
  both None had want e f h = tt
  both (Some media) had want e f h = (e ∙ h, f)

  pub lacks : (stop : Stop) → lies_with_media p ≡ true → length into ≡ piece_length p →
      (have < length into → Rose (m.short old) (m.short new)) → HasGiven (m.told old) p into have (Unit {0}) → IsShortOf have (length into) stop →
      StopsPiece m p old new stop
  lacks (stops.Refused (SourceShort had want)) lies long rose g lack =
      (omega (arith, lack.0, lack.1, lack.2), (lies, rose lack.0), both (m.told old) had want lack.1 (lack.2 ∙ long) g.held)
  lacks stop lies long rose g lack = absurd lack

-- a range of a file
module _ {M : Type 0} (m : Ghosts M) (blocks : Blocks) (range : Range) (old new : M) (into buffer path : List ℕ) (count have : ℕ)
    (s : SeesMedium (blocks range.of) media.File) (v : SeesPath (blocks range.of) buffer count) (is : path ≡ take count buffer)
    (long : length into ≡ range.bytes) (few : have ≤ length into)
    (gives : GivesFrom (file_bytes (m.told old) path) range.offset have into) where
  file_is : (p : Piece) → IsNamed blocks range p → p ≡ pieces.File path range.offset range.bytes
  file_is p n =
      n.is ∙ ap (λ (k : Medium). medium_piece k n.source.row n.bytes range.offset range.bytes) (sym (s.sees n.source n.tied.keeps))
      ∙ ap (λ l. pieces.File l range.offset range.bytes) (sym (is ∙ v.sees n.source n.tied.keeps))

  given : HasGiven (m.told old) (pieces.File path range.offset range.bytes) into have (Unit {0})
  given = file_given (m.told old) path range.offset range.bytes have into (Unit {0}) gives long few (λ l. tt)

  pub file_gives : length into ≤ have → GivesRange (m.told old) blocks range into
  file_gives whole = record {
    gives = λ p n. subst (λ (x : Piece). GivesPiece (m.told old) x into) (sym (file_is p n)) (given.whole (omega (arith, long, few, whole)));
  }

  pub file_lacks : (stop : Stop) → (have < length into → Rose (m.short old) (m.short new)) → IsShortOf have (length into) stop →
      StopsRange m blocks range old new stop
  file_lacks stop rose lack = record {
    stops = λ p n. subst (λ (x : Piece). StopsPiece m x old new stop) (sym (file_is p n))
        (lacks m old new (pieces.File path range.offset range.bytes) into have stop refl long rose given lack);
  }

-- a range of an item
module _ {M : Type 0} (m : Ghosts M) (blocks : Blocks) (range : Range) (old new : M) (into : List ℕ) (item have : ℕ)
    (s : SeesMedium (blocks range.of) media.Bulk) (h : HasWord (blocks range.of) 4 item)
    (long : length into ≡ range.bytes) (few : have ≤ length into)
    (gives : GivesFrom (item_bytes (m.told old) item) range.offset have into) where
  item_is : (p : Piece) → IsNamed blocks range p → p ≡ pieces.Bulk item range.offset range.bytes
  item_is p n =
      n.is ∙ ap (λ (k : Medium). medium_piece k n.source.row n.bytes range.offset range.bytes) (sym (s.sees n.source n.tied.keeps))
      ∙ ap (λ i. pieces.Bulk i range.offset range.bytes) (sym (subject_is n.tied.keeps h))

  bulk_given : HasGiven (m.told old) (pieces.Bulk item range.offset range.bytes) into have (Unit {0})
  bulk_given = item_given (m.told old) item range.offset range.bytes have into (Unit {0}) gives long few (λ l. tt)

  pub item_gives : length into ≤ have → GivesRange (m.told old) blocks range into
  item_gives whole = record {
    gives = λ p n.
        subst (λ (x : Piece). GivesPiece (m.told old) x into) (sym (item_is p n)) (bulk_given.whole (omega (arith, long, few, whole)));
  }

  pub item_lacks : (stop : Stop) → (have < length into → Rose (m.short old) (m.short new)) → IsShortOf have (length into) stop →
      StopsRange m blocks range old new stop
  item_lacks stop rose lack = record {
    stops = λ p n. subst (λ (x : Piece). StopsPiece m x old new stop) (sym (item_is p n))
        (lacks m old new (pieces.Bulk item range.offset range.bytes) into have stop refl long rose bulk_given lack);
  }

-- media failed in a read of a range that lies with them
module _ {M : Type 0} (m : Ghosts M) (blocks : Blocks) (range : Range) (old new : M) (rose : Rose (m.faults old) (m.faults new)) where
  fails_by : (k : Medium) → is_raw k ≡ false → (row : SourceRow) (bytes : List ℕ) →
      StopsPiece m (medium_piece k row bytes range.offset range.bytes) old new stops.MediaFault
  fails_by media.File is row bytes = (refl, rose)
  fails_by media.Bulk is row bytes = (refl, rose)
  fails_by media.Heap is row bytes = absurd (true≢false is)
  fails_by media.Obj is row bytes = absurd (true≢false is)

  pub range_fails : (k : Medium) → is_raw k ≡ false → SeesMedium (blocks range.of) k → StopsRange m blocks range old new stops.MediaFault
  range_fails k is s = record {
    stops = λ p n.
        subst (λ (x : Piece). StopsPiece m x old new stops.MediaFault)
        (sym (n.is ∙ ap (λ (j : Medium). medium_piece j n.source.row n.bytes range.offset range.bytes) (sym (s.sees n.source n.tied.keeps))))
        (fails_by k is n.source.row n.bytes);
  }

-- media were asked once for a range that lies with them
module _ {M : Type 0} (m : Ghosts M) (blocks : Blocks) (range : Range) (old new : M) where
  outside_by : (k : Medium) → is_raw k ≡ false → (row : SourceRow) (bytes : List ℕ) →
      lies_with_media (medium_piece k row bytes range.offset range.bytes) ≡ true
  outside_by media.File is row bytes = refl
  outside_by media.Bulk is row bytes = refl
  outside_by media.Heap is row bytes = absurd (true≢false is)
  outside_by media.Obj is row bytes = absurd (true≢false is)

  pub range_asks : (k : Medium) → is_raw k ≡ false → SeesMedium (blocks range.of) k → m.asks new ≤ m.asks old + 1 → AsksRange m blocks range old new
  range_asks k is s once = record {
    asks = λ p n.
        let e : lies_with_media p ≡ true =
        ap lies_with_media
        (n.is ∙ ap (λ (j : Medium). medium_piece j n.source.row n.bytes range.offset range.bytes) (sym (s.sees n.source n.tied.keeps)))
        ∙ outside_by k is n.source.row n.bytes in
        subst (λ b. m.asks new ≤ m.asks old + (0 + cond b 1 0)) (sym e) (omega (arith, once));
  }

-- they weren't asked
pub range_unasked : {M : Type 0} (m : Ghosts M) (blocks : Blocks) (range : Range) (old : M) → AsksRange m blocks range old old
range_unasked m blocks range old = record { asks = λ p n. omega arith }
