-- Pieces, and the bytes in them.
use Rattle.sdr_base.specs.declared.moves.Move.{Move}
use Rattle.sdr_base.specs.declared.refusal.Refusal.TheVariants as refusals
use Rattle.sdr_model.specs.Dry.{StepsDry, addr_after, answered_moves, dry_moves}
use Rattle.sdr_model.specs.Limits.{longest_read}
use Rattle.sdr_model.specs.PartSteps.{part_end}
use Rattle.sdr_model.specs.Pieces.{AsksBytes, AsksPage, asked_addr, asked_count, capsule_pieces, cut_pieces, extent_piece, extent_pieces, filled, piece_length, piece_part, piece_told, pieces_asked, pieces_of, pieces_told, part_asked, part_pieces, raw_piece, source_piece, subject_piece, wire_pieces}
use Rattle.sdr_model.specs.Reading.{reads_media}
use Rattle.sdr_model.specs.RowMoves.{row_moves}
use Rattle.sdr_model.specs.Rows.{ByRow}
use Rattle.sdr_model.specs.Steps.{On, Outcome, Refuses}
use Rattle.sdr_model.specs.Wire.{GivesBytes, GivesOf, Spells, ToldBytes, capsules_told, bytes_of_extent, extents_told, known, raw_told, some_of, bytes_of_source, bytes_of_subject, unknown, wire_told}
use Rattle.sdr_model.specs.World.{World, as_raw, thing_at}
use Rattle.sdr_model.specs.Zco.{object_at, source_at}
use Rattle.sdr_model.specs.declared.answer.Reply.TheVariants as replies
use Rattle.sdr_model.specs.declared.answer.Reply.{Reply}
use Rattle.sdr_model.specs.declared.call.Call.TheVariants as calls
use Rattle.sdr_model.specs.declared.call.Call.{Call}
use Rattle.sdr_model.specs.declared.piece.Piece.TheVariants as pieces
use Rattle.sdr_model.specs.declared.piece.Piece.{Piece}
use Rattle.sdr_model.specs.declared.zco.Capsule.{Capsule}
use Rattle.sdr_model.specs.declared.zco.Extent.{Extent}
use Rattle.sdr_model.specs.declared.zco.Subject.TheVariants as subjects
use Rattle.sdr_model.specs.declared.zco.Subject.{Subject}
use Rattle.sdr_model.specs.declared.zco.ZcoObject.{ZcoObject}
use Rattle.sdr_model.specs.declared.zco.ZcoSource.{ZcoSource}
use Rattle.std.proofs.Common.{◌≡◌, ◌≤◌, ◌-◌, ◌==◌, ℕ, zero, suc, Bool, true, false, List, [], ◌∷◌, ◌++◌, length, take, drop, replicate, min, max, Option, None, Some, ap, sym, ◌∙◌, refl, ap₂, subst, cond, arith, length-drop, length-take}
use Rattle.std.proofs.lemmas.Bool.{eqb-true, le-ltb}
use Rattle.std.proofs.lemmas.Grind.{flat_map-append}
use Rattle.std.proofs.lemmas.List.Concat.{flat_map-cons}
use Rattle.std.proofs.lemmas.List.Folds.{flat_map-map}
use Rattle.std.proofs.lemmas.List.{take-replicate, drop-replicate, length-map, length-replicate, take-map, take_min, drop-map}
use Rattle.std.specs.Prelude.{nat_lt, MatchBool}

module _ {X : Type 0} where
  take_zero : (k : ℕ) (xs : List X) → k ≡ 0 → take k xs ≡ []
  take_zero zero [] e = refl
  take_zero zero (x ∷ xs) e = refl
  take_zero (suc k) xs e = absurd (omega (arith, e))

  drop_none : (k : ℕ) (xs : List X) → xs ≡ [] → drop k xs ≡ []
  drop_none zero [] e = refl
  drop_none (suc k) [] e = refl
  drop_none k (x ∷ xs) e = cc

  take_none : (k : ℕ) (xs : List X) → xs ≡ [] → take k xs ≡ []
  take_none zero [] e = refl
  take_none (suc k) [] e = refl
  take_none k (x ∷ xs) e = cc

  -- some of two lists, one behind the other
  pub some-append : (skip count over left : ℕ) (xs ys : List X) → over ≡ skip - length xs
      → left ≡ count - min count (length xs - skip)
      → take count (drop skip (xs ++ ys)) ≡ take count (drop skip xs) ++ take left (drop over ys)
  some-append skip count over left [] ys o l =
      let none : List X = [] in
      let gone : take count (drop skip none) ≡ [] = take_none count (drop skip none) (drop_none skip none refl) in
      let same : over ≡ skip = omega (arith, o) in
      let all : left ≡ count = omega (arith, l) in
      sym (ap (λ (t : List X). t ++ take left (drop over ys)) gone ∙ ap₂ (λ (k n : ℕ). take k (drop n ys)) all same)
  some-append zero zero over left (x ∷ xs) ys o l = sym (take_zero left (drop over ys) (omega (arith, l)))
  some-append zero (suc count) over left (x ∷ xs) ys o l =
      ap (λ (t : List X). x ∷ t) (some-append zero count over left xs ys (omega (arith, o)) (omega (arith, l)))
  some-append (suc skip) count over left (x ∷ xs) ys o l =
      some-append skip count over left xs ys (omega (arith, o)) (omega (arith, l))

  -- some of the first ones
  take-first : (count end k : ℕ) (xs : List X) → k ≡ min count end → take k xs ≡ take count (take end xs)
  take-first count end k [] is =
      take_none k [] refl ∙ sym (take_none count (take end []) (take_none end [] refl))
  take-first zero end k (x ∷ xs) is =
      take_zero k (x ∷ xs) (omega (arith, is)) ∙ sym (take_zero 0 (take end (x ∷ xs)) refl)
  take-first (suc count) zero k (x ∷ xs) is = take_zero k (x ∷ xs) (omega (arith, is))
  take-first (suc count) (suc end) zero (x ∷ xs) is = absurd (omega (arith, is))
  take-first (suc count) (suc end) (suc k) (x ∷ xs) is =
      ap (λ (l : List X). x ∷ l) (take-first count end k xs (omega (arith, is)))

  pub some-take : (skip count end k : ℕ) (xs : List X) → k ≡ min count (end - skip)
      → take k (drop skip xs) ≡ take count (drop skip (take end xs))
  some-take skip count end k [] is =
      take_none k (drop skip []) (drop_none skip [] refl)
      ∙ sym (take_none count (drop skip (take end [])) (drop_none skip (take end []) (take_none end [] refl)))
  some-take zero count end k (x ∷ xs) is = take-first count end k (x ∷ xs) (omega (arith, is))
  some-take (suc skip) count zero k (x ∷ xs) is =
      take_zero k (drop skip xs) (omega (arith, is)) ∙ sym (take_none count [] refl)
  some-take (suc skip) count (suc end) k (x ∷ xs) is = some-take skip count end k xs (omega (arith, is))

-- so many are told of bytes that are left to media
some-unknown : (skip count many bytes : ℕ) → many ≡ min count (bytes - skip)
    → some_of skip count (unknown bytes) ≡ unknown many
some-unknown skip count many bytes is =
    let rest : ToldBytes = unknown (bytes - skip) in
    ap (take count) (drop-replicate skip bytes None) ∙ sym (take_min count rest)
    ∙ ap (λ k. take k rest) (ap (min count) (length-replicate (bytes - skip) None) ∙ sym is)
    ∙ take-replicate many (bytes - skip) None (omega (arith, is))

-- a piece has as many bytes as are told of it
pub length-piece_told : (p : Piece) → length (piece_told p) ≡ piece_length p
length-piece_told (pieces.Known bytes) = length-map bytes (λ b. Some b)
length-piece_told (pieces.File path offset bytes) = length-replicate bytes None
length-piece_told (pieces.Bulk item offset bytes) = length-replicate bytes None

-- what is told of a part of a piece
pub piece_told-part : (skip count many : ℕ) (p : Piece) → many ≡ min count (piece_length p - skip)
    → some_of skip count (piece_told p) ≡ piece_told (piece_part skip many p)
piece_told-part skip count many (pieces.Known bytes) is =
    ap (take count) (drop-map (λ b. Some b) skip bytes) ∙ take-map (λ b. Some b) count (drop skip bytes)
    ∙ ap (λ l. known l) (sym (take_min count (drop skip bytes))
    ∙ ap (λ k. take k (drop skip bytes)) (ap (min count) (length-drop skip bytes) ∙ sym is))
piece_told-part skip count many (pieces.File path offset bytes) is = some-unknown skip count many bytes is
piece_told-part skip count many (pieces.Bulk item offset bytes) is = some-unknown skip count many bytes is

-- of a part of no byte nothing is told
piece_told-none : (skip many : ℕ) (p : Piece) → many ≡ 0 → piece_told (piece_part skip many p) ≡ []
piece_told-none skip many (pieces.Known bytes) is = ap (λ l. known l) (take_zero many (drop skip bytes) is)
piece_told-none skip many (pieces.File path offset bytes) is = ap unknown is
piece_told-none skip many (pieces.Bulk item offset bytes) is = ap unknown is

-- what is told of a part of a piece before others, where it is left out if it has no byte
pieces_told-kept : (skip many : ℕ) (p : Piece) (rest : List Piece) (b : Bool) → (many == 0) ≡ b
    → pieces_told (cond b rest (piece_part skip many p ∷ rest)) ≡ piece_told (piece_part skip many p) ++ pieces_told rest
pieces_told-kept skip many p rest true is =
    ap (λ (t : ToldBytes). t ++ pieces_told rest) (sym (piece_told-none skip many p (eqb-true many 0 is)))
pieces_told-kept skip many p rest false is = flat_map-cons piece_told (piece_part skip many p) rest

-- what is told of pieces that are cut
pub pieces_told-cut : (skip count : ℕ) (ps : List Piece)
    → pieces_told (cut_pieces skip count ps) ≡ some_of skip count (pieces_told ps)
pieces_told-cut skip count [] = sym (take_none count (drop skip []) (drop_none skip [] refl))
pieces_told-cut skip count (p ∷ ps) =
    let many = min count (piece_length p - skip) in
    let over = skip - piece_length p in
    let left = count - many in
    pieces_told-kept skip many p (cut_pieces over left ps) (many == 0) refl
    ∙ ap₂ (λ (a b : ToldBytes). a ++ b) (sym (piece_told-part skip count many p refl)) (pieces_told-cut over left ps)
    ∙ sym (some-append skip count over left (piece_told p) (pieces_told ps)
    (ap (λ n. skip - n) (sym (length-piece_told p)))
    (ap (λ n. count - min count (n - skip)) (sym (length-piece_told p))))

-- what is told of capsules as pieces
pub pieces_told-capsules : (capsules : List Capsule) → pieces_told (capsule_pieces capsules) ≡ capsules_told capsules
pieces_told-capsules capsules = flat_map-map piece_told (λ (c : Capsule). pieces.Known c.text) capsules

-- what is told of an extent as a piece
pub piece_told-extent : (w : World) (e : Extent) → piece_told (extent_piece w e) ≡ bytes_of_extent w e
piece_told-extent w e = of_source (source_at w e.source)
  where
    of_raw : (raw : Option (List ℕ)) → piece_told (raw_piece e.offset e.length raw) ≡ raw_told e.offset e.length raw
    of_raw None = refl
    of_raw (Some text) = refl

    of_subject : (s : Subject) → piece_told (subject_piece w e.offset e.length s) ≡ bytes_of_subject w e.offset
        e.length s
    of_subject (subjects.File path) = refl
    of_subject (subjects.Bulk item) = refl
    of_subject (subjects.Heap raw) = of_raw (as_raw (thing_at w raw))
    of_subject (subjects.Obj raw) = of_raw (as_raw (thing_at w raw))

    of_source : (s : Option ZcoSource) → piece_told (source_piece w e.offset e.length s) ≡ bytes_of_source w e.offset e.length s
    of_source None = refl
    of_source (Some s) = of_subject s.subject

-- what is told of extents as pieces
pub pieces_told-extents : (w : World) (es : List Extent) → pieces_told (extent_pieces w es) ≡ extents_told w es
pieces_told-extents w [] = refl
pieces_told-extents w (e ∷ es) =
    flat_map-cons piece_told (extent_piece w e) (extent_pieces w es)
    ∙ ap₂ (λ (a b : ToldBytes). a ++ b) (piece_told-extent w e) (pieces_told-extents w es)
    ∙ sym (flat_map-cons (bytes_of_extent w) e es)

-- what is told of an object on the wire as pieces
pub pieces_told-wire : (w : World) (z : ZcoObject) → pieces_told (wire_pieces w z) ≡ wire_told w z
pieces_told-wire w z =
    let headers = capsule_pieces z.headers in
    let extents = extent_pieces w z.extents in
    flat_map-append piece_told (headers ++ extents) (capsule_pieces z.trailers)
    ∙ ap₂ (λ (a b : ToldBytes). a ++ b)
    (flat_map-append piece_told headers extents
    ∙ ap₂ (λ (a b : ToldBytes). a ++ b) (pieces_told-capsules z.headers) (pieces_told-extents w z.extents))
    (pieces_told-capsules z.trailers)

-- what is told of extents that are cut
cut_extents : (w : World) (skip count : ℕ) (es : List Extent)
    → pieces_told (cut_pieces skip count (extent_pieces w es)) ≡ some_of skip count (extents_told w es)
cut_extents w skip count es =
    pieces_told-cut skip count (extent_pieces w es) ∙ ap (some_of skip count) (pieces_told-extents w es)

-- what is told of those before a place
cut_before : (w : World) (skip count end : ℕ) (es : List Extent)
    → pieces_told (cut_pieces skip (min count (end - skip)) (extent_pieces w es))
    ≡ some_of skip count (take end (extents_told w es))
cut_before w skip count end es =
    cut_extents w skip (min count (end - skip)) es
    ∙ some-take skip count end (min count (end - skip)) (extents_told w es) refl

-- the pieces of a part that is asked tell its bytes
pub pieces_told-part : (w : World) (call : Call) (z : ZcoObject) → pieces_told (part_pieces w call z) ≡ part_asked w call z
pieces_told-part w (calls.Transmit addr place count) z =
    pieces_told-cut place count (wire_pieces w z) ∙ ap (some_of place count) (pieces_told-wire w z)
pieces_told-part w (calls.ReceiveHeaders addr place count) z = cut_before w place count z.part.offset z.extents
pieces_told-part w (calls.ReceiveSource addr place count) z =
    cut_before w (max place z.part.offset) count (part_end z) z.extents
pieces_told-part w (calls.ReceiveTrailers addr place count) z = cut_extents w (max place (part_end z)) count z.extents
pieces_told-part w call z = refl

-- bytes that are told are as many
pub length-spelled : (told : ToldBytes) (bytes : List ℕ) → Spells told bytes → length bytes ≡ length told
length-spelled [] [] spells = refl
length-spelled [] (b ∷ bytes) spells = absurd spells
length-spelled (t ∷ told) [] spells = absurd spells
length-spelled (t ∷ told) (b ∷ bytes) spells = ap suc (length-spelled told bytes spells.1)

-- with zeros for the others, these are those that are told
pub Spells-filled : (told : ToldBytes) → Spells told (filled told)
Spells-filled [] = tt
Spells-filled (None ∷ told) = (tt, Spells-filled told)
Spells-filled (Some b ∷ told) = (refl, Spells-filled told)

-- bytes that the world tells stay as they are
pub filled-known : (bytes : List ℕ) → filled (known bytes) ≡ bytes
filled-known [] = refl
filled-known (b ∷ bytes) = ap (λ (l : List ℕ). b ∷ l) (filled-known bytes)

-- the others are zeros
pub filled-unknown : (bytes : ℕ) → filled (unknown bytes) ≡ replicate bytes 0
filled-unknown zero = refl
filled-unknown (suc bytes) = ap (λ (l : List ℕ). 0 ∷ l) (filled-unknown bytes)

-- so much of a page is at most a page
length-some : (skip count : ℕ) (told : ToldBytes) → count ≤ longest_read → length (some_of skip count told) ≤ longest_read
length-some skip count told most = omega (arith, length-take count (drop skip told))

-- at most a page is asked
pub length-part : (w : World) (call : Call) (z : ZcoObject) → asked_count call ≤ longest_read
    → length (part_asked w call z) ≤ longest_read
length-part w (calls.Transmit addr place count) z most = length-some place count (wire_told w z) most
length-part w (calls.ReceiveHeaders addr place count) z most =
    length-some place count (take z.part.offset (extents_told w z.extents)) most
length-part w (calls.ReceiveSource addr place count) z most =
    length-some (max place z.part.offset) count (take (part_end z) (extents_told w z.extents)) most
length-part w (calls.ReceiveTrailers addr place count) z most =
    length-some (max place (part_end z)) count (extents_told w z.extents) most
length-part w call z most = omega arith

-- the pieces asked have at most a page of bytes
pub length-asked : (w : World) (call : Call) → AsksBytes w call → length (pieces_told (pieces_asked w call)) ≤ longest_read
length-asked w call asks = of_object (object_at w (asked_addr call)) asks.there
  where
    of_object : (named : Option ZcoObject) → AsksPage named (asked_count call)
        → length (pieces_told (pieces_of named (part_pieces w call))) ≤ longest_read
    of_object None there = absurd there
    of_object (Some z) most = subst (λ told. length told ≤ longest_read) (sym (pieces_told-part w call z))
        (length-part w call z most)

-- the rows of the calls that ask bytes of an object
pub row-asked : (w : World) (o : Outcome) (call : Call) → reads_media call ≡ true
    → GivesOf w o (asked_addr call) (asked_count call) (part_asked w call) → ByRow w o call
row-asked w o (calls.Transmit addr place count) reads gives = gives
row-asked w o (calls.ReceiveHeaders addr place count) reads gives = gives
row-asked w o (calls.ReceiveSource addr place count) reads gives = gives
row-asked w o (calls.ReceiveTrailers addr place count) reads gives = gives
row-asked w o call reads gives = cc

-- the outcome in which such a call shows bytes
abbrev Shows : World → List ℕ → Outcome
Shows w bytes = record { moves = []; after = record w { shown = bytes }; reply = replies.Bytes (length bytes) }

-- where the object is there, at most a page is asked and the bytes are as they are told, they are given
gives-page : (w : World) (addr count : ℕ) (named : Option ZcoObject) (z : ZcoObject) (of : ZcoObject → ToldBytes)
    (bytes : List ℕ) → named ≡ Some z → count ≤ longest_read → Spells (of z) bytes
    → On w (Shows w bytes) addr named (λ z.
    MatchBool (nat_lt longest_read count)
    (Refuses w (Shows w bytes) (refusals.BadLength count longest_read))
    (GivesBytes w (Shows w bytes) (of z)))
gives-page w addr count None z of bytes is most spells = cc
gives-page w addr count (Some y) z of bytes is most spells =
    subst (λ b. MatchBool b (Refuses w (Shows w bytes) (refusals.BadLength count longest_read)) (GivesBytes w (Shows w bytes) (of y)))
    (sym (le-ltb longest_read count most))
    (subst (λ x. GivesBytes w (Shows w bytes) (of x)) (let same : z ≡ y = cc in same)
    (refl, refl, spells, ap replies.Bytes (length-spelled (of z) bytes spells)))

-- bytes that the pieces asked tell are what the row of the call gives
pub asked-row : (w : World) (call : Call) (bytes : List ℕ) → AsksBytes w call
    → Spells (pieces_told (pieces_asked w call)) bytes → ByRow w (Shows w bytes) call
asked-row w call bytes asks spells =
    of_object (object_at w (asked_addr call)) refl asks.there spells
  where
    of_object : (named : Option ZcoObject) → object_at w (asked_addr call) ≡ named → AsksPage named (asked_count call)
        → Spells (pieces_told (pieces_of named (part_pieces w call))) bytes → ByRow w (Shows w bytes) call
    of_object None is there spells = absurd there
    of_object (Some z) is most spells =
        row-asked w (Shows w bytes) call asks.reads
        (gives-page w (asked_addr call) (asked_count call) (object_at w (asked_addr call)) z (part_asked w call) bytes is most
        (subst (λ told. Spells told bytes) (pieces_told-part w call z) spells))

-- a call that reads media moves nothing
no_moves : (w : World) (call : Call) (at : ℕ → ℕ) → reads_media call ≡ true → row_moves w call at ≡ []
no_moves w (calls.Transmit addr place count) at reads = refl
no_moves w (calls.ReceiveHeaders addr place count) at reads = refl
no_moves w (calls.ReceiveSource addr place count) at reads = refl
no_moves w (calls.ReceiveTrailers addr place count) at reads = refl
no_moves w call at reads = cc

-- a step without moves
step-still : (w w' : World) (call : Call) (moves : List Move) (reply : Reply) → moves ≡ [] → w'.taken ≡ w.taken
    → ByRow w (record { moves = []; after = record w' { taken = w.taken }; reply = reply }) call
    → StepsDry w call moves w' reply
step-still w w' call moves reply none same row =
    subst (λ m. StepsDry w call m w' reply) (sym none)
    (record { step = row; in_order = tt; counted = omega (arith, same) })

-- bytes as they are told are given
pub gives-step : (w w' : World) (call : Call) (z : ZcoObject) (bytes : List ℕ) → reads_media call ≡ true
    → object_at w (asked_addr call) ≡ Some z → asked_count call ≤ longest_read
    → bytes ≡ filled (pieces_told (part_pieces w call z)) → w' ≡ record w { shown = bytes }
    → StepsDry w call (dry_moves w call (replies.Bytes (length bytes))) w' (replies.Bytes (length bytes))
gives-step w w' call z bytes reads there page is shown =
    let told = pieces_told (part_pieces w call z) in
    let spells : Spells told bytes = subst (λ b. Spells told b) (sym is) (Spells-filled told) in
    let reply : Reply = replies.Bytes (length bytes) in
    subst (λ v. StepsDry w call (dry_moves w call reply) v reply) (sym shown)
    (step-still w (record w { shown = bytes }) call (answered_moves w call) reply
    (no_moves w call (addr_after w.taken) reads) refl
    (row-asked w (Shows w bytes) call reads
    (gives-page w (asked_addr call) (asked_count call) (object_at w (asked_addr call)) z (part_asked w call) bytes there page
    (subst (λ t. Spells t bytes) (pieces_told-part w call z) spells))))
