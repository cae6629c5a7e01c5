-- An object that is kept with its sources and the queue of its account: how many blocks go with it, and the queue that is left.
use Rattle.std.proofs.Common.{◌≡◌, ◌∙◌, ◌+◌, ◌*◌, ◌/◌, ◌≤◌, ◌==◌, ◌&&◌, ℕ, List, [], ◌∷◌, ◌++◌, map, Bool, true, false, Option, Some, None, length, sym, ap, subst, arith, append_assoc, length-append}
use Rattle.std.proofs.lemmas.List.{length-map}
use Rattle.std.specs.Prelude.{if◌then◌else◌}
use Rattle.sdr_base.proofs.LinkedLemmas.{length-linked}
use Rattle.sdr_base.proofs.StandingLemmas.{moved, moved_back}
use Rattle.sdr_base.specs.Entries.{Entries, Few, BlocksAre}
use Rattle.sdr_base.specs.Making.{gave, with_moves}
use Rattle.sdr_base.specs.Objects.{Heap}
use Rattle.sdr_base.specs.ZcoObjects.{ExtentRow, ObjectRow, capsule_addr, capsule_block, capsule_entries, extent_addr, extent_block, extent_entries, object_entries}
use Rattle.sdr_base.specs.declared.account.Acct.{Acct}
use Rattle.sdr_base.specs.declared.medium.Medium.{Medium}
use Rattle.sdr_base.specs.declared.medium.Medium.TheVariants as media
use Rattle.sdr_model.specs.Amounts.{minus}
use Rattle.zco_acct.specs.Kept.{SomeQueue, queue_entries}
use Rattle.zco_acct.specs.Words.{first_word, last_word, occupied_in}
use Rattle.step_zco.specs.Destroying.{IsWithAll, SomeWithAll}
use Rattle.zco_obj.specs.Destroying.{DestroysObject, IsWithSources, KeepsSources, charges_of, gone_object, gone_parts}
use Rattle.zco_obj.specs.Gone.{NamedSource, going_before, gone_blocks, goes_with, naming, source_at, sources_entries, sources_left}
use Rattle.zco_obj.specs.Kept.{KeepsObject, SomeObject}
use Rattle.zco_obj.specs.Reading.{Tells}
use Rattle.zco_ref.specs.Going.{gone_with}
use Rattle.zco_space.proofs.RootLemmas.{first_of_occupied, last_of_occupied}

-- a source goes with at most one other block
two_blocks : (medium : Medium) (raw addr : ℕ) → length (gone_with medium raw addr) ≤ 2
two_blocks media.File raw addr = omega arith
two_blocks media.Bulk raw addr = omega arith
two_blocks media.Heap raw addr = omega arith
two_blocks media.Obj raw addr = omega arith

two_before : (all later : List ExtentRow) (o : Option NamedSource) → length (going_before all later o) ≤ 2
two_before all later None = omega arith
two_before all later (Some s) = by (goes_with all s && (naming s.addr later == 0))
  where
    by : (b : Bool) → length (if b then gone_with s.source.row.medium s.source.row.subject s.addr else []) ≤ 2
    by true = two_blocks s.source.row.medium s.source.row.subject s.addr
    by false = omega arith

-- so no more than three go with an extent
pub three_blocks : (sources : List NamedSource) (all es : List ExtentRow) → length (gone_blocks sources all es) ≤ 3 * length es
three_blocks sources all [] = omega arith
three_blocks sources all (e ∷ es) =
    let before = going_before all es (source_at e.source sources) in
    let rest = gone_blocks sources all es in
    omega (
      arith,
      three_blocks sources all es,
      two_before all es (source_at e.source sources),
      length-append before (e.addr ∷ rest),
    )

-- each extent goes itself
pub extents_few : (sources : List NamedSource) (all es : List ExtentRow) → length es ≤ length (gone_blocks sources all es)
extents_few sources all [] = omega arith
extents_few sources all (e ∷ es) =
    let before = going_before all es (source_at e.source sources) in
    let rest = gone_blocks sources all es in
    omega (arith, extents_few sources all es, length-append before (e.addr ∷ rest))

-- an object that is kept with its sources and with the queue of its account
module _ {heap : Heap} {object : ℕ} (k : SomeWithAll heap object) where
  abbrev pub row : ObjectRow
  row = k.row

  abbrev queue : Entries
  queue = queue_entries row.account k.tickets

  abbrev named : Entries
  named = sources_entries k.sources

  -- is kept alone
  pub kept_alone : KeepsObject heap.blocks object row
  kept_alone = record { rest = _; stands = k.beside.keeps.stands; fits = k.beside.keeps.fits }

  pub alone : SomeObject heap.blocks object
  alone = record { row = row; keeps = kept_alone }

  -- and with its sources alone
  unfoldable pub sources_kept : KeepsSources heap.blocks object row k.sources
  sources_kept =
      let own = object_entries object row in
      let behind = k.beside.behind in
      let all : BlocksAre heap.blocks ((own ++ queue) ++ (named ++ behind)) =
      subst (λ (es : Entries). BlocksAre heap.blocks ((own ++ queue) ++ es)) k.beside.whole
      (subst (λ (es : Entries). BlocksAre heap.blocks es) (sym (append_assoc own queue k.beside.keeps.rest)) k.beside.keeps.stands) in
      let first : BlocksAre heap.blocks (named ++ (own ++ (queue ++ behind))) =
      subst (λ (es : Entries). BlocksAre heap.blocks (named ++ es)) (append_assoc own queue behind)
      (moved (own ++ queue) named behind all) in
      record {
        rest = queue ++ behind;
        stands = moved_back own named (queue ++ behind) first;
        fits = k.beside.keeps.fits;
        named = k.named;
      }

  -- and all that goes with it has room
  few_gone : Few heap.size heap.blocks → length (gone_object object row k.sources) ≤ heap.size / 4 + 4
  few_gone few =
      let h = capsule_entries row.headers in
      let e = extent_entries row.extents in
      let t = capsule_entries row.trailers in
      let rest = queue ++ k.beside.keeps.rest in
      let parts = map capsule_addr row.headers ++ gone_blocks k.sources row.extents row.extents in
      omega (
        arith,
        few.few (object_entries object row ++ rest) k.beside.keeps.stands,
        three_blocks k.sources row.extents row.extents,
        length-append (gone_parts row k.sources) (object ∷ []),
        length-append parts (map capsule_addr row.trailers),
        length-append (map capsule_addr row.headers) (gone_blocks k.sources row.extents row.extents),
        length-map row.headers capsule_addr,
        length-map row.trailers capsule_addr,
        length-append (h ++ e ++ t) rest,
        length-append (h ++ e) t,
        length-append h e,
        length-linked capsule_addr capsule_block 0 0 row.headers,
        length-linked extent_addr extent_block 0 0 row.extents,
        length-linked capsule_addr capsule_block 0 0 row.trailers,
      )

pub with_sources : {heap : Heap} {object : ℕ} → IsWithAll heap object → Few heap.size heap.blocks →
    heap.size / 4 + 4 ≤ heap.spare → IsWithSources heap object
with_sources {heap} {object} with_all few room kind =
    let k = with_all kind in
    record {
      row = k.row;
      sources = k.sources;
      keeps = sources_kept k;
      room = let gone = few_gone k few in omega (arith, gone, room);
    }

-- once it is gone, the queue of its account is kept still
pub queue_left : {old mid : Heap} {object : ℕ} {acct : Acct} → IsWithAll old object → DestroysObject object old mid →
    Tells old.blocks object (λ row. row.account) acct → SomeQueue mid acct
unfolding sources_kept
queue_left {old} {mid} {object} {acct} with_all d told =
    let k = with_all d.kind in
    let row = k.row in
    let mine = sources_kept k in
    let gone = d.gone row k.sources mine in
    let given = with_moves old (gave (gone_object object row k.sources)) in
    let amounts = minus (occupied_in old row.account) (charges_of row k.sources) in
    let queue = queue_entries row.account k.tickets in
    let left = sources_left row.account row.extents k.sources in
    let were : BlocksAre old.blocks ((object_entries object row ++ sources_entries k.sources) ++ (queue ++ k.beside.behind)) =
    subst (λ (es : Entries). BlocksAre old.blocks es)
    (sym (append_assoc (object_entries object row) (sources_entries k.sources) (queue ++ k.beside.behind))) mine.stands in
    let own : acct ≡ row.account = told.tells row (kept_alone k) in
    let kept : SomeQueue mid row.account = record {
      tickets = k.tickets;
      keeps = record {
        rest = left ++ k.beside.behind;
        stands = moved left queue k.beside.behind (gone.changes.kept (queue ++ k.beside.behind) were);
        first = ap (λ (h : Heap). h.roots (first_word row.account)) gone.others ∙ first_of_occupied given row.account amounts
            ∙ k.beside.keeps.first;
        last = ap (λ (h : Heap). h.roots (last_word row.account)) gone.others ∙ last_of_occupied given row.account amounts
            ∙ k.beside.keeps.last;
        fits = k.beside.keeps.tickets_fit;
      };
    } in
    subst (λ (a : Acct). SomeQueue mid a) (sym own) kept
