-- The extents of a chain are given back, each after what goes with it.
use Rattle.std.proofs.Common.{◌≡◌, ◌≢◌, ◌+◌, ◌-◌, ◌*◌, ◌≤◌, ℕ, List, [], ◌∷◌, ◌++◌, length, refl, sym, ap, ◌∙◌, arith, subst, append_assoc, length-append}
use Rattle.std.specs.Prelude.{◌==◌, ◌&&◌, All, if◌then◌else◌}
use Rattle.std.proofs.lemmas.List.Concat.{flat_map-append}
use Rattle.std.proofs.lemmas.List.Elements.{All-head, All-tail}
use Rattle.sdr_base.specs.Blocks.{Block}
use Rattle.sdr_base.specs.Entries.{Entries, BlocksAre, times}
use Rattle.sdr_base.specs.Linked.{first_of}
use Rattle.sdr_base.specs.Making.{gave}
use Rattle.sdr_base.specs.Objects.{Heap}
use Rattle.sdr_base.specs.Sources.{SourceRow}
use Rattle.sdr_base.specs.ZcoObjects.{ExtentRow, extent_addr, extent_block, extent_entries}
use Rattle.sdr_base.specs.declared.account.Acct.{Acct}
use Rattle.sdr_base.specs.declared.account.Amounts.{Amounts}
use Rattle.sdr_base.specs.declared.refusal.Refusal.TheVariants.{LogFull}
use Rattle.sdr_base.specs.declared.stop.Stop.{Stop}
use Rattle.sdr_base.specs.declared.stop.Stop.TheVariants.{Refused, DiskFault, MediaFault, Failed}
use Rattle.sdr_base.proofs.GaveLemmas.{length-gave}
use Rattle.sdr_base.proofs.StandingLemmas.{moved_back, rotated, times-append}
use Rattle.sdr_model.specs.Amounts.{amounts_by, plus}
use Rattle.sdr_model.specs.Limits.{longest_source}
use Rattle.zco_obj.specs.Amounts.{last_amounts}
use Rattle.zco_obj.specs.Uses.{CountsUses, ExtentGiveStops, ExtentsGiveStops, GivesExtent, GivesExtents, GivesSomeOfExtent, IsThere, SomeUse, SomeUses, UseAt, UsesAt, going_with, left_next}
use Rattle.zco_obj.specs.Gone.{NamedSource, extents_amounts, going_before, gone_blocks, left_of, less_uses, naming, source_at, sources_entries, sources_left}
use Rattle.zco_obj.specs.Kept.{ExtentFits}
use Rattle.zco_obj.specs.declared.destroying.GivenExtent.{GivenExtent}
use Rattle.zco_obj.proofs.ChainGoneLemmas.{Leaving, PartLeft, given_most, over_made, over_stands, over_told, part_at, part_begun, part_below, part_count, part_first, part_fits, part_many, part_none, part_on, part_room, part_some, part_stands, passed_most}
use Rattle.zco_obj.proofs.CountLemmas.{goes_after, gone_then, left_after, left_then, left_there, less_row, naming_all, naming_one, still_counted}
use Rattle.zco_obj.proofs.KeptLemmas.{first_extent}
use Rattle.zco_obj.proofs.UseLemmas.{going_told}
use Rattle.zco_obj.proofs.WalkLemmas.{HasFirst, fits_from}
use Rattle.zco_ref.specs.Counting.{gone_next}
use Rattle.zco_ref.specs.Going.{gone_with}
use Rattle.zco_ref.specs.Kept.{CountedSource, count_in, counted_block, tied_entries}
use Rattle.zco_obj.proofs.SourcesLessLemmas.{extents_none, extents_push}
use Rattle.zco_obj.proofs.SpotLemmas.{SpotOf, find_spot, less_fits, none_gone, others, times_head}

-- extents with their sources, which go
abbrev pub leaving_extents : Acct → List ExtentRow → List NamedSource → Leaving ExtentRow Amounts
leaving_extents acct xs ss = record {
  addr = extent_addr;
  block = extent_block;
  beside = λ passed. sources_left acct passed ss;
  blocks = gone_blocks ss xs;
  told = extents_amounts acct ss;
}

-- so many first ones of whichever are a chain there are gone
pub record ExtentsLeft (acct : Acct) (first : ℕ) (old now : Heap) (cursor i : ℕ) (charged : Amounts) : Type 0 where
  pub left : (xs : List ExtentRow) (ss : List NamedSource) (u : UsesAt acct old.blocks first xs ss) →
      PartLeft ExtentFits (leaving_extents acct xs ss) old now xs u.rest cursor i charged

pub extents_begun : (acct : Acct) (first : ℕ) (old : Heap) (nothing : Amounts) → nothing ≡ amounts_by (λ space. 0) →
    ExtentsLeft acct first old old first 0 nothing
extents_begun acct first old nothing e = record {
  left = λ xs ss u. part_begun ExtentFits (leaving_extents acct xs ss) old xs u.rest first nothing (e ∙ sym (extents_none acct ss))
      (subst (λ (es : Entries). BlocksAre old.blocks (extent_entries xs ++ (es ++ u.rest))) (sym (none_gone acct ss)) u.stands)
      u.at_first u.fits;
}

-- the next extent, with its source
module _ {acct : Acct} {first : ℕ} {old now : Heap} {cursor i : ℕ} {charged : Amounts} {xs : List ExtentRow} {ss : List NamedSource}
    (u : UsesAt acct old.blocks first xs ss) (p : PartLeft ExtentFits (leaving_extents acct xs ss) old now xs u.rest cursor i charged)
    (h : HasFirst p.left) where
  whole : xs ≡ p.passed ++ (h.one ∷ h.behind)
  whole = p.whole ∙ ap (λ (l : List ExtentRow). p.passed ++ l) h.is

  pub spot : SpotOf h.one.source ss
  spot =
      let there = fits_from (λ (e : ExtentRow). IsThere (source_at e.source ss)) p.passed (h.one ∷ h.behind)
      (subst (All (λ (e : ExtentRow). IsThere (source_at e.source ss))) whole u.named.there) in
      find_spot h.one.source ss (All-head (λ (e : ExtentRow). IsThere (source_at e.source ss)) h.one h.behind there)

  abbrev pub before_it : ℕ
  before_it = naming spot.here.addr p.passed

  abbrev pub behind_it : ℕ
  behind_it = naming spot.here.addr h.behind

  all_uses : naming spot.here.addr xs ≡ before_it + 1 + behind_it
  all_uses = ap (naming spot.here.addr) whole ∙ naming_all spot.here.addr p.passed h.one h.behind (sym spot.at)

  counts : CountsUses acct xs spot.here
  counts =
      All-head (CountsUses acct xs) spot.here spot.behind
      (fits_from (CountsUses acct xs) spot.before (spot.here ∷ spot.behind) (subst (All (CountsUses acct xs)) spot.whole u.named.counted))

  enough : before_it + 1 + behind_it ≤ count_in acct spot.here.source
  enough = let c = counts.enough in let a = all_uses in omega (arith, c, a)

  -- the source as it is now
  abbrev pub source_now : CountedSource
  source_now = less_uses acct before_it spot.here.source

  abbrev left_before : Entries
  left_before = sources_left acct p.passed spot.before

  abbrev left_behind : Entries
  left_behind = sources_left acct p.passed spot.behind

  -- the other sources are at other addresses
  apart : (times h.one.source (sources_entries spot.before) ≡ 0) × (times h.one.source (sources_entries spot.behind) ≡ 0)
  apart =
      let a = h.one.source in
      let S = tied_entries spot.here.addr spot.here.source spot.here.bytes in
      let one = u.stands.once a in
      let x = times-append a (extent_entries xs) (sources_entries ss ++ u.rest) in
      let y = times-append a (sources_entries ss) u.rest in
      let e : times a (sources_entries ss) ≡ times a (sources_entries spot.before ++ (S ++ sources_entries spot.behind)) =
      ap (λ (l : List NamedSource). times a (sources_entries l)) spot.whole
      ∙ ap (times a) (flat_map-append (λ (s : NamedSource). tied_entries s.addr s.source s.bytes) spot.before (spot.here ∷ spot.behind)) in
      let b = times-append a (sources_entries spot.before) (S ++ sources_entries spot.behind) in
      let c = times-append a S (sources_entries spot.behind) in
      let d : 1 ≤ times a S = times_head spot.here.addr a (counted_block spot.here.source) _ spot.at in
      (omega (arith, one, x, y, e, b, c, d), omega (arith, one, x, y, e, b, c, d))

  -- the source is brought to the front of the others
  focus : (block : ℕ × Block) (r : Entries) → BlocksAre now.blocks (block ∷ (sources_left acct p.passed ss ++ r)) →
      BlocksAre now.blocks (block ∷ (tied_entries h.one.source source_now spot.here.bytes ++ (left_before ++ (left_behind ++ r))))
  focus block r s =
      let T = tied_entries spot.here.addr source_now spot.here.bytes in
      let there = left_there acct spot.here before_it behind_it enough in
      let cut : sources_left acct p.passed ss ≡ left_before ++ (T ++ left_behind) =
      ap (sources_left acct p.passed) spot.whole
      ∙ flat_map-append (left_of acct p.passed) spot.before (spot.here ∷ spot.behind)
      ∙ ap (λ (es : Entries). left_before ++ (es ++ left_behind)) there in
      let whole_cut : sources_left acct p.passed ss ++ r ≡ left_before ++ (T ++ (left_behind ++ r)) =
      ap (λ (es : Entries). es ++ r) cut ∙ append_assoc left_before (T ++ left_behind) r
      ∙ ap (λ (es : Entries). left_before ++ es) (append_assoc T left_behind r) in
      subst (λ a. BlocksAre now.blocks (block ∷ (tied_entries a source_now spot.here.bytes ++ (left_before ++ (left_behind ++ r))))) spot.at
      (rotated now.blocks block left_before T (left_behind ++ r)
      (subst (λ (es : Entries). BlocksAre now.blocks (block ∷ es)) whole_cut s))

  -- and back, with what is left of it
  unfocus : (new : Heap) (r : Entries) →
      BlocksAre new.blocks (left_next acct h.one.source source_now spot.here.bytes ++ (left_before ++ (left_behind ++ r))) →
      BlocksAre new.blocks (sources_left acct (p.passed ++ (h.one ∷ [])) ss ++ r)
  unfocus new r s =
      let more = p.passed ++ (h.one ∷ []) in
      let L = left_of acct more spot.here in
      let is : left_next acct h.one.source source_now spot.here.bytes ≡ L =
      ap (λ a. left_next acct a source_now spot.here.bytes) (sym spot.at)
      ∙ left_then acct spot.here before_it behind_it enough
      ∙ ap (λ n. left_after acct n spot.here) (sym (naming_one spot.here.addr p.passed h.one (sym spot.at))) in
      let whole_cut : sources_left acct more ss ++ r ≡ left_before ++ (L ++ (left_behind ++ r)) =
      ap (λ (l : List NamedSource). sources_left acct more l ++ r) spot.whole
      ∙ ap (λ (es : Entries). es ++ r) (flat_map-append (left_of acct more) spot.before (spot.here ∷ spot.behind))
      ∙ ap (λ (es : Entries). (es ++ (L ++ sources_left acct more spot.behind)) ++ r)
      (others acct h.one.source p.passed h.one refl spot.before apart.0)
      ∙ ap (λ (es : Entries). (left_before ++ (L ++ es)) ++ r) (others acct h.one.source p.passed h.one refl spot.behind apart.1)
      ∙ append_assoc left_before (L ++ left_behind) r
      ∙ ap (λ (es : Entries). left_before ++ es) (append_assoc L left_behind r) in
      subst (λ (es : Entries). BlocksAre new.blocks es) (sym whole_cut)
      (moved_back left_before L (left_behind ++ r)
      (subst (λ (es : Entries). BlocksAre new.blocks (es ++ (left_before ++ (left_behind ++ r)))) is s))

  -- both are there
  pub use_now : UseAt acct now.blocks h.one.addr (first_of extent_addr 0 h.behind) h.one source_now spot.here.bytes
  use_now =
      let w = leaving_extents acct xs ss in
      let block : ℕ × Block = (h.one.addr, extent_block 0 (first_of extent_addr 0 h.behind) h.one) in
      let fits = part_fits ExtentFits w p h in
      record {
        rest = _;
        stands = focus block _
            (rotated now.blocks block _ (sources_left acct p.passed ss) u.rest (part_stands ExtentFits w p h));
        extent_fits = All-head ExtentFits h.one h.behind fits;
        next_fits = first_extent h.behind (All-tail ExtentFits h.one h.behind fits);
        source_fits = less_fits acct before_it spot.here.source counts.fits;
        short = subst (λ (r : SourceRow). r.length ≤ longest_source) (sym (less_row acct before_it spot.here.source)) counts.short;
        some = still_counted acct spot.here before_it behind_it enough;
      }

  -- what goes with it, and its own
  abbrev pub goes_now : List ℕ
  goes_now = gone_next h.one.source source_now ++ (h.one.addr ∷ [])

  pub going_now : gone_blocks ss xs (h.one ∷ h.behind) ≡ goes_now ++ gone_blocks ss xs h.behind
  going_now =
      let G = gone_next h.one.source source_now in
      let here = spot.here in
      let of = λ (n : ℕ). if goes_after n here && (behind_it == 0) then gone_with here.source.row.medium here.source.row.subject here.addr else [] in
      let is : going_before xs h.behind (source_at h.one.source ss) ≡ G =
      ap (going_before xs h.behind) spot.is_found ∙ ap of all_uses
      ∙ sym (gone_then acct here before_it behind_it enough) ∙ ap (λ a. gone_next a source_now) spot.at in
      ap (λ (l : List ℕ). l ++ (h.one.addr ∷ gone_blocks ss xs h.behind)) is
      ∙ sym (append_assoc G (h.one.addr ∷ []) (gone_blocks ss xs h.behind))

  pub count_now : length goes_now ≡ going_with now.blocks cursor + 1
  count_now =
      let at = part_at ExtentFits (leaving_extents acct xs ss) p h in
      let a = length-append (gone_next h.one.source source_now) (h.one.addr ∷ []) in
      let g = ap (going_with now.blocks) at ∙ going_told use_now in omega (arith, a, g)

  -- what is charged less with it
  pub charges_now : extents_amounts acct ss (p.passed ++ (h.one ∷ [])) ≡ plus charged (last_amounts acct source_now)
  charges_now =
      extents_push acct ss p.passed h.one spot apart.0 apart.1 (let e = enough in omega (arith, e))
      ∙ ap (λ (m : Amounts). plus m (last_amounts acct source_now)) (sym p.is)

module _ {acct : Acct} {first : ℕ} {old now : Heap} {cursor i : ℕ} {charged : Amounts}
    (l : ExtentsLeft acct first old now cursor i charged) where
  module _ (nz : cursor ≢ 0) {xs : List ExtentRow} {ss : List NamedSource} (u : UsesAt acct old.blocks first xs ss) where
    abbrev pub next_one : HasFirst (l.left xs ss u).left
    next_one = part_first ExtentFits (leaving_extents acct xs ss) (l.left xs ss u) nz

    next_at : cursor ≡ next_one.one.addr
    next_at = part_at ExtentFits (leaving_extents acct xs ss) (l.left xs ss u) next_one

    -- so many lines are touched with it at most
    pub lines_with : length (l.left xs ss u).given + (going_with now.blocks cursor + 1) ≤ length (gone_blocks ss xs xs)
    lines_with =
        let p = l.left xs ss u in
        let c = count_now u p next_one in
        let m = part_count ExtentFits (leaving_extents acct xs ss) p next_one (goes_now u p next_one) (going_now u p next_one) in
        omega (arith, c, m)

    pub extent_below : i + 1 ≤ length xs
    extent_below = let b = part_below ExtentFits (leaving_extents acct xs ss) (l.left xs ss u) next_one in omega (arith, b)

  pub extent_there : cursor ≢ 0 → SomeUses acct old first → SomeUse acct now.blocks cursor
  extent_there nz q =
      subst (SomeUse acct now.blocks) (sym (next_at nz q.is))
      (record { next = _; row = _; source = _; bytes = _; is = use_now q.is (l.left q.extents q.sources q.is) (next_one nz q.is) })

  pub extent_room : cursor ≢ 0 → SomeUses acct old first → 1 + going_with now.blocks cursor ≤ now.spare
  extent_room nz q =
      let p = l.left q.extents q.sources q.is in
      let h = next_one nz q.is in
      let c = count_now q.is p h in
      let r = part_room ExtentFits (leaving_extents acct q.extents q.sources) p h (goes_now q.is p h) (going_now q.is p h) q.room in
      omega (arith, c, r)

  -- it was given back
  pub extents_on : {new : Heap} (given : GivenExtent) (charged' : Amounts) → cursor ≢ 0 → GivesExtent acct cursor now new given →
      charged' ≡ plus charged given.charged → ExtentsLeft acct first old new given.next (i + 1) charged'
  extents_on {new} given charged' nz g e = record {
    left = λ xs ss u.
        let p = l.left xs ss u in
        let h = next_one nz u in
        let gives = subst (λ a. GivesExtent acct a now new given) (next_at nz u) g in
        let gone = gives.gives _ h.one (source_now u p h) _ (use_now u p h) in
        part_on ExtentFits (leaving_extents acct xs ss) p h given.next (goes_now u p h) charged' gone.is_next (going_now u p h)
        (λ r s. unfocus u p h new r (gone.changes.kept _ (focus u p h _ r s))) gone.made
        (e ∙ ap (plus charged) gone.charge ∙ sym (charges_now u p h));
  }

  -- so many moves were made with it
  pub moves_with : {new : Heap} (given : GivenExtent) → cursor ≢ 0 → SomeUses acct old first → GivesExtent acct cursor now new given →
      length new.moves ≡ length now.moves + (going_with now.blocks cursor + 1)
  moves_with {new} given nz q g =
      let u = q.is in
      let p = l.left q.extents q.sources u in
      let h = next_one nz u in
      let gives = subst (λ a. GivesExtent acct a now new given) (next_at nz u) g in
      let gone = gives.gives _ h.one (source_now u p h) _ (use_now u p h) in
      let c = count_now u p h in
      let m : length new.moves ≡ length (now.moves ++ gave (goes_now u p h)) = ap (λ (x : Heap). length x.moves) gone.made.all in
      let a = length-append now.moves (gave (goes_now u p h)) in
      let n = length-gave (goes_now u p h) in omega (arith, c, m, a, n)

  -- or it wasn't
  pub extent_stops : (new : Heap) (stop : Stop) → cursor ≢ 0 → ExtentGiveStops acct cursor now new stop →
      ExtentsGiveStops acct first old new stop
  extent_stops new (Refused (LogFull lines room)) nz s = record {
    gives = λ xs ss u.
        let p = l.left xs ss u in
        let h = next_one nz u in
        let some = subst (λ a. GivesSomeOfExtent acct a now new) (next_at nz u) s in
        part_some ExtentFits (leaving_extents acct xs ss) p h (goes_now u p h) (going_now u p h)
        (some.gives _ h.one (source_now u p h) _ (use_now u p h));
  }
  extent_stops new (Refused refusal) nz s = s
  extent_stops new DiskFault nz s = s
  extent_stops new MediaFault nz s = s
  extent_stops new Failed nz s = s

  gives_where : ((xs : List ExtentRow) (ss : List NamedSource) (u : UsesAt acct old.blocks first xs ss) → (l.left xs ss u).left ≡ []) →
      GivesExtents acct first old now charged
  gives_where none = record {
    gives = λ xs ss u. record {
      stands = over_stands ExtentFits (leaving_extents acct xs ss) (l.left xs ss u) (none xs ss u);
      made = over_made ExtentFits (leaving_extents acct xs ss) (l.left xs ss u) (none xs ss u) refl;
      charge = over_told ExtentFits (leaving_extents acct xs ss) (l.left xs ss u) (none xs ss u);
    };
  }

  -- all are gone
  pub extents_all : cursor ≡ 0 → GivesExtents acct first old now charged
  extents_all z = gives_where (λ xs ss u. part_none ExtentFits (leaving_extents acct xs ss) (l.left xs ss u) z)

  pub extents_many : i ≡ 4194304 → GivesExtents acct first old now charged
  extents_many all = gives_where (λ xs ss u. part_many ExtentFits (leaving_extents acct xs ss) (l.left xs ss u) 4194304 all u.few)

  -- so many moves were made
  pub moves_so_far : {xs : List ExtentRow} {ss : List NamedSource} (u : UsesAt acct old.blocks first xs ss) →
      length now.moves ≡ length old.moves + length (l.left xs ss u).given
  moves_so_far {xs} {ss} u =
      let p = l.left xs ss u in
      let m : length now.moves ≡ length (old.moves ++ gave p.given) = ap (λ (x : Heap). length x.moves) p.made.all in
      let a = length-append old.moves (gave p.given) in
      let n = length-gave p.given in omega (arith, m, a, n)

  pub lines_most : {xs : List ExtentRow} {ss : List NamedSource} → UsesAt acct old.blocks first xs ss →
      24 * (length now.moves - length old.moves) + 4 * i ≤ 24 * length (gone_blocks ss xs xs) + 4 * length xs
  lines_most {xs} {ss} u =
      let p = l.left xs ss u in
      let m = moves_so_far u in
      let g = given_most ExtentFits (leaving_extents acct xs ss) p in
      let n = passed_most ExtentFits (leaving_extents acct xs ss) p in omega (arith, m, g, n)

  -- with the next one, which isn't given back whole
  pub lines_next : cursor ≢ 0 → {xs : List ExtentRow} {ss : List NamedSource} → UsesAt acct old.blocks first xs ss →
      24 * (length now.moves - length old.moves) + 4 * i + (28 + 24 * going_with now.blocks cursor)
      ≤ 24 * length (gone_blocks ss xs xs) + 4 * length xs
  lines_next nz u =
      let m = moves_so_far u in
      let w = lines_with nz u in
      let b = extent_below nz u in omega (arith, m, w, b)
