-- Lines that are changed in one batch.
use Rattle.std.proofs.Common.{◌≡◌, ◌∙◌, ℕ, List, [], ◌∷◌, ◌++◌, refl, sym, ap, subst, arith}
use Rattle.std.specs.Prelude.{IsPermutation, map}
use Rattle.std.proofs.lemmas.List.Sorted.{IsPermutation-map, IsPermutation-sym, IsPermutation-trans}
use Rattle.std.proofs.lemmas.Option.{same_Some}
use Rattle.sdr_base.specs.Parts.{overwrite}
use Rattle.sdr_log.specs.Batch.{with_batch}
use Rattle.sdr_log.specs.Calls.{HoldLines, with_records}
use Rattle.sdr_log.specs.Log.{first_gate, heap_of}
use Rattle.sdr_log.specs.declared.frame.Frame.{Frame}
use Rattle.sdr_log.specs.declared.record.Record.{Record}
use Rattle.sdr_log.proofs.GoodLemmas.{HoldLines-put_records}
use Rattle.sdr_log.proofs.TransactionLemmas.{log_end-closed}
use Rattle.sdr_image.specs.Buffer.{Changes, Rises}
use Rattle.sdr_image.specs.Changed.{HasChanged, line_in}
use Rattle.sdr_image.specs.Lines.{IsLines, Stands, lines_named, now_of}
use Rattle.sdr_image.specs.Marks.{touched_in}
use Rattle.sdr_image.specs.declared.lines.Lines.{Lines}
use Rattle.sdr_image.proofs.EnteredLemmas.{news_good}
use Rattle.sdr_image.proofs.RestedLemmas.{closed_none, nil_records}
use Rattle.sdr_image.proofs.StandsLemmas.{stands_logs, stands_wide}

-- records that have the bytes of their lines
HoldLines-line_in : (heap : List ℕ) (rs : List Record) → HoldLines heap rs → map (line_in heap) (lines_named rs) ≡ rs
HoldLines-line_in heap [] own = refl
HoldLines-line_in heap (r ∷ rs) own =
    let rest = HoldLines-line_in heap rs own.1 in
    let first = own.0 in
    (λ i. record { line = r.line; bytes = sym first i } ∷ rest i)

-- Where no batch is open.
module _ (f : Frame) (begun : List ℕ) (lines : Lines) (x : List ℕ) (s : Stands f begun lines x) (k : IsLines f lines)
    (gate : first_gate x ≡ 0) where
  no_records : s.records ≡ []
  no_records = nil_records s.records (omega (arith, closed_none f begun lines x s k gate, s.many))

  -- the next batch is the first
  pub first_place : lines.place ≡ 0
  first_place =
      let logs = stands_logs f begun lines x s in
      same_Some lines.place 0 (sym s.may.keeps.ends ∙ log_end-closed f x logs.regions gate)

  -- and the touched lines are those of the buffer
  buffered : IsPermutation (lines_named lines.buffer.olds) (touched_in lines.marks)
  buffered = subst (λ (rs : List Record). IsPermutation (lines_named (rs ++ lines.buffer.olds)) (touched_in lines.marks))
      no_records s.permuted

  -- records of them, in any order
  in_order : (heap : List ℕ) (rs rising : List Record) → HoldLines heap rs → lines_named rs ≡ lines_named lines.buffer.olds →
      IsPermutation rs rising → IsPermutation (map (line_in heap) (touched_in lines.marks)) rising
  in_order heap rs rising own same p =
      let names = lines_named lines.buffer.olds in
      let all : map (line_in heap) names ≡ rs =
      ap (map (line_in heap)) (sym same) ∙ HoldLines-line_in heap rs own in
      let there = IsPermutation-map (line_in heap) names (touched_in lines.marks) buffered in
      IsPermutation-trans (map (line_in heap) (touched_in lines.marks)) rs rising
      (subst (IsPermutation (map (line_in heap) (touched_in lines.marks))) all
      (IsPermutation-sym (map (line_in heap) names) (map (line_in heap) (touched_in lines.marks)) there)) p

  -- so they are changed
  pub changed_once : (risen : Changes) (y : List ℕ) → Rises lines.buffer risen →
      y ≡ overwrite 64 (0 ∷ []) (with_records f risen.news (with_batch lines.place risen.olds x)) →
      HasChanged f begun (now_of f lines x) (touched_in lines.marks) x y
  changed_once risen y r is = record {
    olds = risen.olds;
    news = risen.news;
    were = in_order begun lines.buffer.olds risen.olds s.may.own refl r.olds;
    are = in_order (now_of f lines x) lines.buffer.news risen.news
        (HoldLines-put_records f.heap_lines lines.buffer.news (heap_of f x) (news_good f begun lines x s k) k.whole
        (stands_wide f begun lines x s)) s.same r.news;
    rising = r.rising;
    rising' = r.rising';
    written = is
        ∙ ap (λ (p : ℕ). overwrite 64 (0 ∷ []) (with_records f risen.news (with_batch p risen.olds x))) first_place;
  }
