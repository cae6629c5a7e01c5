-- The object that a text becomes has the text's bytes.
use Rattle.std.proofs.Common.{◌≡◌, ◌+◌, ◌*◌, ◌≤◌, ◌<◌, ◌^◌, ℕ, List, [], ◌∷◌, length, refl, sym, ap, ◌∙◌, subst}
use Rattle.std.specs.Prelude.{All, map}
use Rattle.sdr_base.specs.Objects.{Heap}
use Rattle.sdr_base.specs.ZcoObjects.{ObjectRow}
use Rattle.sdr_base.specs.declared.account.Acct.{Acct}
use Rattle.zco_part.specs.Pieces.{extents_at}
use Rattle.zco_join.specs.Joining.{Joins, pieces_in}
use Rattle.zco_join.specs.Stocks.{Standing}
use Rattle.zco_join.proofs.CountedLemmas.{all_mapped}
use Rattle.zco_pieces.specs.Bytes.{FitsText, bytes_named, part_bytes}
use Rattle.zco_pieces.specs.Places.{Rebuilt, missing_of}
use Rattle.zco_pieces.specs.Runs.{Added, Rebuilds}
use Rattle.zco_pieces.proofs.BytesLemmas.{pieces_placed}
use Rattle.zco_pieces.proofs.RunLemmas.{run_text}
use Rattle.zco_pieces.proofs.CutLawLemmas.{named_length}
use Rattle.law_pieces.specs.Rebuilding.{AreAt, HoldsRebuilt, PieceRow, by_held}
use Rattle.law_pieces.specs.Texts.{Beside, SomeText, other, room_to_join}
use Rattle.law_pieces.proofs.AddedLemmas.{joined, joined_holds, joined_row}
use Rattle.law_pieces.proofs.TextLemmas.{told_both}
use Rattle.law_pieces.proofs.RowLemmas.{clones_named, row_at, rows_there, whole_bytes}

-- A text became one object.
module _ {old new : Heap} {total : ℕ} {added : List PieceRow} {r : Rebuilt} {others : List Standing} {most number object : ℕ} (room n : ℕ) (acct : Acct)
    (h : HoldsRebuilt old total added r others most (room + room_to_join most n)) (few : length r.parts ≤ n) (low : n * most < 2 ^ 22)
    (joins : Joins acct number r.parts old new object) where
  abbrev x : Beside
  x = h.beside

  abbrev t : SomeText old r.parts (map (λ (z : Standing). z.addr) h.beside.others) most (room + room_to_join most n)
  t = record { beside = h.beside; keeps = record { holds = h.holds; clones = h.clones; at = refl } }

  abbrev pub row_then : ObjectRow
  row_then = joined_row room n acct t few low joins

  -- it has the bytes of whichever text the pieces fit
  pub text_bytes : (held : ℕ → ℕ → ℕ) (text : List ℕ) → length text ≡ total → All (λ p. FitsText held text p.piece p.row) added → missing_of r ≡ 0 →
      part_bytes held row_then ≡ text
  text_bytes held text long fit none =
      let clones = x.clones in
      let j = joined room n acct t few low joins in
      let at = row_at clones in
      let told : AreAt at clones = rows_there x h.holds in
      let run : Rebuilds at held (record { total = length text; parts = [] }) (map (by_held held) added) r =
      subst (λ m. Rebuilds at held (record { total = m; parts = [] }) (map (by_held held) added) r) (sym long) (h.rebuilt.rebuilds at held told) in
      let fits : All (λ a. FitsText a.held text a.piece a.row) (map (by_held held) added) =
      all_mapped (λ (p : PieceRow). FitsText held text p.piece p.row) (λ (a : Added). FitsText a.held text a.piece a.row) (by_held held) (λ p f. f) added fit in
      whole_bytes held acct (extents_at j.addrs (pieces_in clones))
      ∙ ap (bytes_named held) (pieces_placed j.addrs (pieces_in clones) j.each ∙ sym (clones_named at r.parts clones h.clones told))
      ∙ run_text at held text (map (by_held held) added) r fits run none

  -- and as many
  pub text_long : (held : ℕ → ℕ → ℕ) (text : List ℕ) → part_bytes held row_then ≡ text → row_then.part_length ≡ length text
  text_long held text is =
      let es = row_then.extents in
      sym (named_length held es) ∙ ap (length {A = ℕ}) (sym (whole_bytes held acct es) ∙ is)

  -- and it stands before the others; no byte of a next text is filled
  pub rebuilt_joined : (next : ℕ) →
      HoldsRebuilt new next [] (record { total = next; parts = [] }) (record { addr = object; row = row_then } ∷ others) (most + n * most) room
  rebuilt_joined next =
      let w = joined_holds room n acct t few low joins in
      let j = joined room n acct t few low joins in
      let o : Standing = record { addr = object; row = row_then } in
      let told = told_both (o ∷ x.others) acct j.tickets (x.tickets (other acct)) _ x.rest w in
      record {
        beside = record { clones = []; others = o ∷ x.others; tickets = told.0; sources = _; rest = x.rest };
        holds = told.1;
        clones = tt;
        stand = ap (λ (zs : List Standing). o ∷ zs) h.stand;
        rebuilt = record { rebuilds = λ clone_at held at. refl };
      }
