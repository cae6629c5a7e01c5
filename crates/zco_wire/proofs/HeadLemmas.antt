-- A header or trailer, or a range of a source, that is gone over.
use Rattle.std.proofs.Common.{◌≡◌, ◌≢◌, ◌≤◌, ◌+◌, ◌-◌, ℕ, List, [], ◌∷◌, ◌++◌, Option, length, take, drop, min, refl, sym, ap, ◌∙◌, subst, arith, append-nil}
use Rattle.std.proofs.lemmas.List.{length-drop, length-take}
use Rattle.sdr_base.specs.Blocks.{Block, Blocks, HasBytes}
use Rattle.sdr_base.specs.Media.{Told}
use Rattle.sdr_base.specs.Objects.{OnlyFault}
use Rattle.sdr_base.specs.Parts.{part}
use Rattle.sdr_base.specs.declared.media.Media.{Ghosts}
use Rattle.sdr_base.specs.declared.stop.Stop.{Stop}
use Rattle.sdr_base.proofs.PartsLemmas.{length-part}
use Rattle.sdr_gather.proofs.GatheringLemmas.{known_given}
use Rattle.sdr_gather.specs.Gathering.{GivesPiece}
use Rattle.sdr_model.specs.Pieces.{cut_pieces, piece_length, piece_part}
use Rattle.sdr_model.specs.declared.piece.Piece.{Piece}
use Rattle.sdr_model.specs.declared.piece.Piece.TheVariants as pieces
use Rattle.sdr_model.specs.declared.zco.Part.{Part}
use Rattle.zco_obj.specs.Walks.{SeesCapsule}
use Rattle.zco_obj.specs.declared.extent.ExtentPiece.{ExtentPiece as Range}
use Rattle.zco_obj.specs.declared.seeing.SeenCapsule.{SeenCapsule}
use Rattle.zco_wire.specs.Asking.{AsksAtRange, AsksFor, AsksRange}
use Rattle.zco_wire.specs.Going.{GoesOverHead, GoesOverRange, ahead}
use Rattle.zco_wire.specs.Naming.{SomeNamed}
use Rattle.zco_wire.specs.Sources.{GivesRange}
use Rattle.zco_wire.specs.Stopping.{StopsAtRange, StopsPieces, StopsRange}
use Rattle.zco_wire.specs.declared.cursor.Cursor.{Cursor}
use Rattle.zco_wire.proofs.GoingLemmas.{cut_first, goes_one}
use Rattle.zco_wire.proofs.NamingLemmas.{named_length, within_named}
use Rattle.zco_wire.proofs.SeeingLemmas.{head_bytes}
use Rattle.zco_wire.proofs.StoppingLemmas.{only_fault, stops_first}

-- so many bytes of a buffer from a place on are so many
pub slice_long : (from count : ℕ) (xs : List ℕ) → from + count ≤ length xs → length (take (from + count - from) (drop from xs)) ≡ count
slice_long from count xs le =
    let t = length-take (from + count - from) (drop from xs) in let d = length-drop from xs in omega (arith, t, d, le)

-- the window of a piece of so many bytes, and the cursor behind it
pub record Window (at : Cursor) (bytes room : ℕ) (window : Part) (new : Cursor) : Type 0 where
  pub offset : window.offset ≡ min at.skip bytes
  pub length : window.length ≡ min (room - at.given) (bytes - at.skip)
  pub skip : new.skip ≡ at.skip - window.offset
  pub given : new.given ≡ at.given + window.length

module _ (at new : Cursor) (window : Part) (into into' got : List ℕ) (room : at.given ≤ length into)
    (stand : take new.given into' ≡ take at.given into ++ got) where
  -- so a header or trailer is gone over
  pub head_over : {found : Option Block} (seen : SeenCapsule) → SeesCapsule found seen → Window at seen.bytes (length into) window new →
      HasBytes found (8 + window.offset) window.length got → GoesOverHead found at new into into'
  head_over {found} seen s w h = record {
    goes = λ told next c k.
        let b = s.bytes next c k in
        let o = w.offset in let l = w.length in let sk = w.skip in let gv = w.given in
        let e : got ≡ part window.offset window.length c.text = head_bytes window.offset window.length got k h in
        let within : window.offset + window.length ≤ length c.text = omega (arith, o, l, b) in
        goes_one told (pieces.Known c.text) at new into into' got window.length room (omega (arith, l, b)) (omega (arith, sk, o, b)) gv
        (ap length e ∙ length-part window.offset window.length c.text within) stand
        (λ nz.
        let at_skip : window.offset ≡ at.skip = omega (arith, o, l, nz) in
        subst (λ (x : List ℕ). GivesPiece told (pieces.Known (part at.skip window.length c.text)) x)
        (sym (e ∙ ap (λ n. part n window.length c.text) at_skip))
        ((known_given told (part at.skip window.length c.text) (Unit {0})).whole refl));
  }

  -- so is a range of a source
  pub range_over : {told : Option Told} {blocks : Blocks} (range : Range) → Window at range.bytes (length into) window new →
      length got ≡ window.length →
      (window.length ≢ 0 → GivesRange told blocks (record { of = range.of; offset = range.offset + window.offset; bytes = window.length }) got) →
      GoesOverRange told blocks range at new into into'
  range_over {told} {blocks} range w long gives = record {
    goes = λ p n.
        let b = named_length n in
        let o = w.offset in let l = w.length in let sk = w.skip in let gv = w.given in
        goes_one told p at new into into' got window.length room (omega (arith, l, b)) (omega (arith, sk, o, b)) gv long stand
        (λ nz.
        let at_skip : window.offset ≡ at.skip = omega (arith, o, l, nz) in
        subst (λ k. GivesPiece told (piece_part k window.length p) got) at_skip
        ((gives nz).gives (piece_part window.offset window.length p) (within_named window.offset window.length n (omega (arith, o, l)))));
  }

-- a window without a byte
pub nothing_over : {told : Option Told} {blocks : Blocks} (range : Range) (at new : Cursor) (window : Part) (into : List ℕ) →
    at.given ≤ length into → window.length ≡ 0 → Window at range.bytes (length into) window new → GoesOverRange told blocks range at new into into
nothing_over range at new window into room none w =
    let gv = w.given in
    range_over at new window into into [] room
    (ap (λ n. take n into) (omega (arith, gv, none)) ∙ sym (append-nil (take at.given into))) range w (sym none) (λ nz. absurd (nz none))

-- a window of a range that is named is named
pub some_within : {blocks : Blocks} {range : Range} (window : Part) → SomeNamed blocks range → window.offset + window.length ≤ range.bytes →
    SomeNamed blocks (record { of = range.of; offset = range.offset + window.offset; bytes = window.length })
some_within window s le = record {
  piece = piece_part window.offset window.length s.piece;
  named = within_named window.offset window.length s.named le;
}

-- a window that wasn't read is the first that was to be given of the range and of others behind it
pub range_stops : {blocks : Blocks} {M : Type 0} (m : Ghosts M) (range : Range) (at : Cursor) (window : Part) (room : ℕ) (old new : M) (stop : Stop) →
    window.offset ≡ min at.skip range.bytes → window.length ≡ min (room - at.given) (range.bytes - at.skip) → window.length ≢ 0 →
    StopsRange m blocks (record { of = range.of; offset = range.offset + window.offset; bytes = window.length }) old new stop →
    StopsAtRange m blocks range at room old new stop
range_stops m range at window room old new stop o l nz s = record {
  stops = λ p n others.
      let b = named_length n in
      let at_skip : window.offset ≡ at.skip = omega (arith, o, l, nz) in
      let many : window.length ≡ min (room - at.given) (piece_length p - at.skip) = omega (arith, l, b) in
      let first = stops_first m (piece_part window.offset window.length p)
      (cut_pieces (at.skip - piece_length p) ((room - at.given) - window.length) others) old new stop
      (s.stops (piece_part window.offset window.length p) (within_named window.offset window.length n (omega (arith, o, l)))) in
      subst (λ (all : List Piece). StopsPieces m all old new stop)
      (ap (λ k. piece_part k window.length p ∷ cut_pieces (at.skip - piece_length p) ((room - at.given) - window.length) others) at_skip
      ∙ sym (cut_first p at.skip (room - at.given) window.length others many nz)) first;
}

pub range_failed : {blocks : Blocks} {room : ℕ} {M : Type 0} (m : Ghosts M) (range : Range) (at : Cursor) (old new : M) (stop : Stop) →
    OnlyFault stop → StopsAtRange m blocks range at room old new stop
range_failed {blocks} {room} m range at old new stop f = record { stops = λ p n others. only_fault m (ahead at room (p ∷ others)) old new stop f }

-- media were asked once for a window that lies with them
pub range_asks_at : {blocks : Blocks} {M : Type 0} (m : Ghosts M) (range : Range) (at : Cursor) (window : Part) (room : ℕ) (old new : M) →
    window.offset ≡ min at.skip range.bytes → window.length ≡ min (room - at.given) (range.bytes - at.skip) → window.length ≢ 0 →
    AsksRange m blocks (record { of = range.of; offset = range.offset + window.offset; bytes = window.length }) old new →
    AsksAtRange m blocks range at room old new
range_asks_at m range at window room old new o l nz s = record {
  asks = λ p n.
      let b = named_length n in
      let at_skip : window.offset ≡ at.skip = omega (arith, o, l, nz) in
      let many : window.length ≡ min (room - at.given) (piece_length p - at.skip) = omega (arith, l, b) in
      subst (λ (all : List Piece). AsksFor m all old new)
      (ap (λ k. piece_part k window.length p ∷ []) at_skip ∙ sym (cut_first p at.skip (room - at.given) window.length [] many nz))
      (s.asks (piece_part window.offset window.length p) (within_named window.offset window.length n (omega (arith, o, l))));
}

pub range_unasked_at : {blocks : Blocks} {room : ℕ} {M : Type 0} (m : Ghosts M) (range : Range) (at : Cursor) (old : M) →
    AsksAtRange m blocks range at room old old
range_unasked_at m range at old = record { asks = λ p n. omega arith }
