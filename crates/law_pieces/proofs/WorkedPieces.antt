-- A worked case: five bytes of a raw object are cut by three, the second piece is added before the first, and the text becomes an object.
use Rattle.std.proofs.Common.{◌≡◌, ◌+◌, ◌≤◌, ◌<◌, ◌^◌, ℕ, List, [], ◌∷◌, length, refl, ap, ◌∙◌, arith}
use Rattle.std.specs.Prelude.{map}
use Rattle.std.specs.List.{range_with_len}
use Rattle.std.proofs.lemmas.List.Elements.{All-cons, All-nil}
use Rattle.std.proofs.lemmas.List.FromFn.{length-map-range_with_len}
use Rattle.sdr_base.specs.Objects.{Heap}
use Rattle.sdr_base.specs.ZcoObjects.{ObjectRow}
use Rattle.sdr_base.specs.declared.account.Acct.{Acct}
use Rattle.sdr_model.specs.Limits.{longest_source}
use Rattle.zco_obj.specs.Appending.{AppendsPiece}
use Rattle.zco_obj.specs.declared.extent.ExtentPiece.{ExtentPiece}
use Rattle.zco_join.specs.Joining.{Joins}
use Rattle.zco_join.specs.Stocks.{Standing}
use Rattle.zco_pieces.specs.Adding.{AddsPiece}
use Rattle.zco_pieces.specs.Bytes.{FitsText, part_bytes}
use Rattle.zco_pieces.specs.Cutting.{CutsPiece}
use Rattle.zco_pieces.specs.Places.{Range, Rebuilt, cut_length, missing_of, uncovered}
use Rattle.zco_pieces.specs.declared.piece.Piece.{Piece}
use Rattle.law_pieces.specs.Rebuilding.{HasPayload, HoldsRebuilt, PieceRow, covers}
use Rattle.law_pieces.specs.Texts.{HasEmpty, room_to_add, room_to_join}
use Rattle.law_pieces.proofs.AddedLemmas.{parts_longer}
use Rattle.law_pieces.proofs.BeginLemmas.{rebuilt_begun}
use Rattle.law_pieces.proofs.FinishLemmas.{row_then, text_bytes}
use Rattle.law_pieces.proofs.RebuildLemmas.{cut_long, cut_row, cut_text, rebuilt_added, rebuilt_cut, rebuilt_missing}

-- the room that the calls need
abbrev room_joined : ℕ
room_joined = room_to_join 1 3

abbrev room_added : ℕ
room_added = (room_joined + room_to_add 1 1) + room_to_add 1 0

abbrev room_cut : ℕ
room_cut = (room_added + (1 + 1)) + (1 + 1)

module _ {h0 h1 h2 h3 h4 h5 h6 : Heap} (acct : Acct) (object number made : ℕ) (bytes : List ℕ) (from : ExtentPiece) (second first : Piece) (r r' : Rebuilt)
    (empty : HasEmpty h0 acct object from.of bytes (room_cut + 2)) (short : length bytes ≤ longest_source) (few : room_cut < 2 ^ 60)
    (five : from.bytes ≡ 5) (appends : AppendsPiece object number from h0 h1) (cuts : CutsPiece object number 3 1 h1 h2 second)
    (cuts_more : CutsPiece object number 3 0 h2 h3 first)
    (adds : AddsPiece number second (record { total = 5; parts = [] }) r h3 h4)
    (adds_more : AddsPiece number first r r' h4 h5) (joins : Joins acct number r'.parts h5 h6 made) where
  begun : (row : ObjectRow) × HasPayload from.offset from.bytes row
      × HoldsRebuilt h1 5 [] (record { total = 5; parts = [] }) (record { addr = object; row = row } ∷ []) 1 room_cut
  begun = rebuilt_begun from empty short few 5 appends

  abbrev z : Standing
  z = record { addr = object; row = begun.0 }

  long : z.row.part_length ≡ 5
  long = begun.1.long ∙ five

  abbrev second_row : ObjectRow
  second_row = cut_row [] z [] (room_added + (1 + 1)) second begun.2 cuts

  second_cut : HoldsRebuilt h2 5 [] (record { total = 5; parts = [] }) (record { addr = second.object; row = second_row } ∷ (z ∷ [])) 1 (room_added + (1 + 1))
  second_cut = rebuilt_cut [] z [] (room_added + (1 + 1)) second begun.2 cuts

  abbrev s : Standing
  s = record { addr = second.object; row = second_row }

  abbrev first_row : ObjectRow
  first_row = cut_row (s ∷ []) z [] room_added first second_cut cuts_more

  abbrev f : Standing
  f = record { addr = first.object; row = first_row }

  first_cut : HoldsRebuilt h3 5 [] (record { total = 5; parts = [] }) (f ∷ z ∷ s ∷ []) 1 room_added
  first_cut = rebuilt_cut (s ∷ []) z [] room_added first second_cut cuts_more

  abbrev added : List PieceRow
  added = record { piece = second; row = second_row } ∷ record { piece = first; row = first_row } ∷ []

  second_added : HoldsRebuilt h4 5 (record { piece = second; row = second_row } ∷ []) r (s ∷ f ∷ z ∷ []) 1 (room_joined + room_to_add 1 1)
  second_added = rebuilt_added (f ∷ z ∷ []) s [] 0 second first_cut refl (omega arith) adds

  first_added : HoldsRebuilt h5 5 added r' (f ∷ s ∷ z ∷ []) 1 room_joined
  first_added = rebuilt_added (s ∷ []) f (z ∷ []) 1 first second_added refl (parts_longer 0 second (omega arith) adds) adds_more

  -- no byte is missing
  none_missing : missing_of r' ≡ 0
  none_missing =
      let two = cut_long [] z [] (room_added + (1 + 1)) second begun.2 cuts ∙ ap (λ n. cut_length n 3 1) long in
      let three = cut_long (s ∷ []) z [] room_added first second_cut cuts_more ∙ ap (λ n. cut_length n 3 0) long in
      rebuilt_missing first_added
      ∙ ap (λ (x : Range). uncovered 5 (x ∷ covers (record { piece = first; row = first_row }) ∷ []))
      (ap (λ n. record { offset = n; length = second_row.part_length }) cuts.offset ∙ ap (λ n. record { offset = 3; length = n }) two)
      ∙ ap (λ (x : Range). uncovered 5 (record { offset = 3; length = 2 } ∷ x ∷ []))
      (ap (λ n. record { offset = n; length = first_row.part_length }) cuts_more.offset ∙ ap (λ n. record { offset = 0; length = n }) three)

  abbrev made_row : ObjectRow
  made_row = row_then 0 3 acct first_added (parts_longer 1 first (parts_longer 0 second (omega arith) adds) adds_more) (omega arith) joins

  -- and the object has the five bytes
  five_bytes : (held : ℕ → ℕ → ℕ) → part_bytes held made_row ≡ map (held begun.1.source) (range_with_len from.offset 5)
  five_bytes held =
      let text = part_bytes held z.row in
      let is : text ≡ map (held begun.1.source) (range_with_len from.offset 5) =
      begun.1.bytes held ∙ ap (λ n. map (held begun.1.source) (range_with_len from.offset n)) five in
      let F : PieceRow → Type 0 = λ p. FitsText held text p.piece p.row in
      text_bytes 0 3 acct first_added (parts_longer 1 first (parts_longer 0 second (omega arith) adds) adds_more) (omega arith) joins held text
      (ap (length {A = ℕ}) is ∙ length-map-range_with_len (held begun.1.source) from.offset 5)
      (All-cons F (record { piece = second; row = second_row }) (record { piece = first; row = first_row } ∷ [])
      (cut_text [] z [] (room_added + (1 + 1)) second begun.2 cuts held)
      (All-cons F (record { piece = first; row = first_row }) [] (cut_text (s ∷ []) z [] room_added first second_cut cuts_more held) (All-nil F)))
      none_missing
      ∙ is
