-- How many lines a call may touch by what it asks.
use Rattle.std.proofs.Common.{◌≡◌, ◌∙◌, ◌≤◌, ◌+◌, ◌++◌, ℕ, List, [], ◌∷◌, true, inl, refl, ap, length, arith}
use Rattle.std.proofs.lemmas.List.{length-append, length-map}
use Rattle.std.specs.Prelude.{slice_get, slice_index}
use Rattle.step_calls.proofs.CutLemmas.{cut_enough}
use Rattle.step_keyed.proofs.HashLemmas.{entries_are}
use Rattle.step_things.proofs.ListLemmas.{IsSmall, elements_told}
use Rattle.sdr_stands.specs.Standing.{HeapStandsFor}
use Rattle.sdr_base.specs.Objects.{Heap}
use Rattle.sdr_base.specs.declared.account.Amounts.{Amounts}
use Rattle.sdr_base.specs.declared.moves.Move.{Move}
use Rattle.sdr_base.specs.declared.moves.Move.TheVariants.{Gave}
use Rattle.law_steps.proofs.StepLemmas.{moves_are_the_rows}
use Rattle.sdr_machine.specs.Demand.{Demand, bytes_taken, demand_after, grants_between, most_lines}
use Rattle.sdr_model.specs.HashSteps.{as_hash}
use Rattle.sdr_model.specs.ListSteps.{as_list}
use Rattle.sdr_model.specs.ObjectSteps.{last_capsule, without_header, without_trailer}
use Rattle.sdr_model.specs.Reading.{is_reading}
use Rattle.sdr_model.specs.RowMoves.{destroyed_blocks, elements_in, entries_in, row_moves}
use Rattle.sdr_model.specs.Rows.{ByRow}
use Rattle.sdr_model.specs.Step.{is_answer}
use Rattle.sdr_model.specs.Steps.{Outcome, gave, taken_addresses}
use Rattle.sdr_model.specs.World.{World, thing_at}
use Rattle.sdr_model.specs.Zco.{object_at, source_at}
use Rattle.sdr_model.specs.declared.call.Call.{Call}
use Rattle.sdr_model.specs.declared.call.Call.TheVariants as calls
use Rattle.step_things.specs.Answering.{IsReady}
use Rattle.step_zco.proofs.AnswerLemmas.{has_requested, has_set, has_shredded}
use Rattle.step_zco.proofs.ObjectDemandLemmas.{append_enough, has_gone, has_lost}
use Rattle.step_zco.proofs.RequestedAlike.{request_alike}
use Rattle.step_zco.specs.AccountAnswering as tickets
use Rattle.step_zco_parts.proofs.BondDemandLemmas.{enough as bond_enough}
use Rattle.step_zco_parts.proofs.PartDemandLemmas.{clone_enough}
use Rattle.step_calls.specs.Serving.{call_lines}

-- a call that is answered by its row asks for as many lines as it touches
pub enough : (d : Demand) (heap : Heap) (w : World) (call : Call) (o : Outcome) → HeapStandsFor heap w
    → IsReady w
    → IsSmall heap → ByRow w o call → is_answer o.reply ≡ true
    → most_lines d + call_lines heap w call ≤ most_lines (demand_after d w call o)
enough d heap w call o s served small row answered =
    by call row (moves_are_the_rows w o.after call o.moves o.reply (inl row) answered)
  where
    at : ℕ → ℕ
    at = slice_index (taken_addresses o.moves)

    by : (c : Call) → ByRow w o c → o.moves ≡ row_moves w c at
        → most_lines d + call_lines heap w c ≤ most_lines (demand_after d w c o)
    by (calls.ListDestroy list) there moves =
        let elements = elements_in (as_list (thing_at w list)) in
        let all : length o.moves ≡ length (gave (elements ++ list ∷ [])) = ap (λ (ms : List Move). length ms) moves in
        let same = length-map (elements ++ list ∷ []) (λ (addr : ℕ). Gave addr) in
        let split = length-append elements (list ∷ []) in
        let few = elements_told heap w list s served small in
        omega (arith, all, same, split, few)
    by (calls.HashDestroy hash) there moves =
        let entries = entries_in (as_hash (thing_at w hash)) in
        let all : length o.moves ≡ length (gave (entries ++ hash ∷ [])) = ap (λ (ms : List Move). length ms) moves in
        let same = length-map (entries ++ hash ∷ []) (λ (addr : ℕ). Gave addr) in
        let split = length-append entries (hash ∷ []) in
        let few = entries_are heap w hash s served small in
        omega (arith, all, same, split, few)
    by (calls.SetMaximum acct space value) there moves =
        let grants = ap (grants_between w) (has_set w acct space value o there answered) in omega (arith, grants)
    by (calls.Request acct file bulk heap_space coarse fine) there moves =
        let asked : Amounts = record { file = file; bulk = bulk; heap = heap_space } in
        let r = has_requested w acct asked coarse fine o there answered in
        let grants : grants_between w o.after ≡ tickets.grants_of w (calls.Request acct file bulk heap_space coarse fine) =
        ap (grants_between w) r.after ∙ request_alike w asked coarse fine acct r.addr 0 in
        let one = r.one in omega (arith, grants, one)
    by (calls.Shred number) there moves =
        let r = has_shredded w number o there answered in
        let grants = ap (grants_between w) r.after in
        let one = r.one in omega (arith, grants, one)
    by (calls.AppendExtent addr ticket named offset bytes) there moves =
        append_enough d w (calls.AppendExtent addr ticket named offset bytes) o (source_at w named) at refl moves
    by (calls.DiscardFirstHeader addr) there moves =
        let l = has_lost w addr (λ z. slice_get z.headers 0) without_header o there answered in
        let one = l.one in
        let grants = ap (grants_between w) l.after in omega (arith, one, grants)
    by (calls.DiscardLastTrailer addr) there moves =
        let l = has_lost w addr (λ z. last_capsule z.trailers) without_trailer o there answered in
        let one = l.one in
        let grants = ap (grants_between w) l.after in omega (arith, one, grants)
    by (calls.Destroy addr) there moves =
        let blocks = destroyed_blocks w addr (object_at w addr) in
        let many : length o.moves ≡ length (gave blocks) = ap (λ (ms : List Move). length ms) moves in
        let same = length-map blocks (λ (a : ℕ). Gave a) in
        let grants = ap (grants_between w) (has_gone w addr o there answered) in omega (arith, many, same, grants)
    by (calls.ClonePart addr ticket offset bytes) there moves = clone_enough d w addr ticket offset bytes o (object_at w addr) at moves
    by (calls.Bond addr ticket) there moves = bond_enough d w addr ticket o there answered
    by (calls.Strip addr) there moves = cut_enough d w addr o there answered moves
    by c there moves =
        let many = ap (λ (ms : List Move). length ms) moves in
        let need = ap bytes_taken moves in omega (arith, many, need)

-- a call that reads touches none
pub reading_lines : (heap : Heap) (w : World) (call : Call) → is_reading call ≡ true → call_lines heap w call ≡ 0
reading_lines heap w (calls.Length addr) reads = refl
reading_lines heap w call reads = cc

-- no call takes back what was asked
pub asks_more : (d : Demand) (w : World) (call : Call) (o : Outcome) → most_lines d ≤ most_lines (demand_after d w call o)
asks_more d w call o = omega arith
