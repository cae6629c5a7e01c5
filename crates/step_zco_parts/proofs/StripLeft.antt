-- An object that is kept with its sources and with the queue of its account, before it is cut to its part and after.
use Rattle.std.proofs.Common.{◌≡◌, ◌∙◌, ◌+◌, ◌/◌, ◌≤◌, ℕ, ◌++◌, length, sym, ap, subst, arith, append_assoc, length-append}
use Rattle.sdr_base.proofs.LinkedLemmas.{length-linked}
use Rattle.sdr_base.proofs.StandingLemmas.{moved}
use Rattle.sdr_base.specs.Entries.{Entries, Few, BlocksAre}
use Rattle.sdr_base.specs.Making.{gave, with_moves}
use Rattle.sdr_base.specs.Objects.{Heap}
use Rattle.sdr_base.specs.ZcoObjects.{capsule_entries, extent_addr, extent_block, extent_entries, object_entries}
use Rattle.sdr_base.specs.declared.account.Acct.{Acct}
use Rattle.sdr_model.specs.Amounts.{minus}
use Rattle.zco_acct.specs.Kept.{SomeQueue, queue_entries}
use Rattle.zco_acct.specs.Words.{first_word, last_word, occupied_in}
use Rattle.step_zco.proofs.DestroyLeft.{kept_alone, sources_kept, three_blocks}
use Rattle.zco_strip.proofs.OutsideLaws.{length_out}
use Rattle.zco_strip.specs.Cuts.{outside, part_end, stripped}
use Rattle.zco_strip.specs.Stripping.{IsToStrip, KeepsToStrip, StripsObject, gone_outside, stripped_amounts}
use Rattle.step_zco_parts.specs.Stripping.{IsToCut, SomeToCut}
use Rattle.zco_obj.specs.Gone.{sources_entries, sources_left}
use Rattle.zco_obj.specs.Reading.{Tells}
use Rattle.zco_space.proofs.RootLemmas.{first_of_occupied, last_of_occupied}

-- it is kept with its sources alone
pub kept_to_strip : {heap : Heap} {object : ℕ} (k : SomeToCut heap object) →
    KeepsToStrip heap.blocks object k.all.row k.all.sources
kept_to_strip k = record { keeps = sources_kept k.all; bytes = k.bytes }

-- all that goes has room
few_gone : {heap : Heap} {object : ℕ} (k : SomeToCut heap object) → Few heap.size heap.blocks →
    length (gone_outside k.all.row k.all.sources) ≤ heap.size / 4 + 4
few_gone {heap} {object} k few =
    let row = k.all.row in
    let h = capsule_entries row.headers in
    let e = extent_entries row.extents in
    let t = capsule_entries row.trailers in
    let rest = queue_entries row.account k.all.tickets ++ k.all.beside.keeps.rest in
    omega (
      arith,
      few.few (object_entries object row ++ rest) k.all.beside.keeps.stands,
      three_blocks k.all.sources (outside row) (outside row),
      length_out row.part_offset (part_end row) row.extents,
      length-append (h ++ e ++ t) rest,
      length-append (h ++ e) t,
      length-append h e,
      length-linked extent_addr extent_block 0 0 row.extents,
    )

pub with_room : {heap : Heap} {object : ℕ} → IsToCut heap object → Few heap.size heap.blocks → heap.size / 4 + 4 ≤ heap.spare →
    IsToStrip heap object
with_room to_cut few room kind =
    let k = to_cut kind in
    record {
      row = k.all.row;
      sources = k.all.sources;
      keeps = kept_to_strip k;
      room = let gone = few_gone k few in omega (arith, gone, room);
    }

-- once it is cut, the queue of its account is kept still
pub queue_left : {old mid : Heap} {object : ℕ} {acct : Acct} → IsToCut old object → StripsObject object old mid →
    Tells old.blocks object (λ row. row.account) acct → SomeQueue mid acct
unfolding sources_kept kept_to_strip
queue_left {old} {mid} {object} {acct} to_cut d told =
    let k = to_cut d.kind in
    let row = k.all.row in
    let sources = k.all.sources in
    let mine = kept_to_strip k in
    let cut = d.strips row sources mine in
    let given = with_moves old (gave (gone_outside row sources)) in
    let amounts = minus (occupied_in old row.account) (stripped_amounts row sources) in
    let queue = queue_entries row.account k.all.tickets in
    let left = object_entries object (stripped row) ++ sources_left row.account (outside row) sources in
    let were : BlocksAre old.blocks ((object_entries object row ++ sources_entries sources) ++ (queue ++ k.all.beside.behind)) =
    subst (λ (es : Entries). BlocksAre old.blocks es)
    (sym (append_assoc (object_entries object row) (sources_entries sources) (queue ++ k.all.beside.behind))) mine.keeps.stands in
    let own : acct ≡ row.account = told.tells row (kept_alone k.all) in
    let kept : SomeQueue mid row.account = record {
      tickets = k.all.tickets;
      keeps = record {
        rest = left ++ k.all.beside.behind;
        stands = moved left queue k.all.beside.behind (cut.changes.kept (queue ++ k.all.beside.behind) were);
        first = ap (λ (h : Heap). h.roots (first_word row.account)) cut.others ∙ first_of_occupied given row.account amounts
            ∙ k.all.beside.keeps.first;
        last = ap (λ (h : Heap). h.roots (last_word row.account)) cut.others ∙ last_of_occupied given row.account amounts
            ∙ k.all.beside.keeps.last;
        fits = k.all.beside.keeps.tickets_fit;
      };
    } in
    subst (λ (a : Acct). SomeQueue mid a) (sym own) kept
