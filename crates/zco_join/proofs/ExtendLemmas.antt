-- An object gets the extents of a clone, one after another.
use Rattle.std.proofs.Common.{◌≡◌, ◌≢◌, ◌+◌, ◌*◌, ◌≤◌, ◌<◌, ◌^◌, ℕ, List, [], ◌∷◌, ◌++◌, length, refl, sym, ap, ◌∙◌, subst, arith, append_assoc, append-nil, length-append}
use Rattle.std.specs.Prelude.{map, All}
use Rattle.std.proofs.lemmas.List.{map-append}
use Rattle.std.proofs.lemmas.List.Concat.{flat_map-append}
use Rattle.std.proofs.lemmas.List.Elements.{All-head, All-tail}
use Rattle.sdr_base.specs.Blocks.{IsKind}
use Rattle.sdr_base.specs.Entries.{BlocksAre, Entries}
use Rattle.sdr_base.specs.Linked.{first_of}
use Rattle.sdr_base.specs.Objects.{Heap, OnlyFault}
use Rattle.sdr_base.specs.ZcoObjects.{ExtentRow, extent_addr, extent_block, object_entries}
use Rattle.sdr_base.specs.declared.account.Acct.{Acct}
use Rattle.sdr_base.specs.declared.kind.Kind.TheVariants as kinds
use Rattle.sdr_base.specs.declared.stop.Stop.{Stop}
use Rattle.sdr_base.specs.declared.stop.Stop.TheVariants as stops
use Rattle.zco_acct.specs.Kept.{queue_entries}
use Rattle.zco_obj.specs.Appending.{AppendsPiece}
use Rattle.zco_obj.specs.AppendStops.{AppendStops}
use Rattle.zco_obj.specs.Beside.{IsWithRaw, IsWithSource}
use Rattle.zco_obj.specs.Gone.{sources_entries}
use Rattle.zco_obj.specs.Kept.{ExtentFits, KeepsObject, ObjectFits}
use Rattle.zco_obj.specs.Links.{SeesLink, piece_of}
use Rattle.zco_obj.specs.Walks.{ExtentsAt, KeepsExtent, Passed, SomeExtent}
use Rattle.zco_obj.specs.declared.extent.ExtentPiece.{ExtentPiece}
use Rattle.zco_obj.specs.declared.link.Link.{Link}
use Rattle.zco_obj.proofs.PartsLemmas.{extents_at}
use Rattle.zco_obj.proofs.KeptLemmas.{first_extent}
use Rattle.zco_obj.proofs.WalkLemmas.{HasFirst, fits_left, has_first, none_at_zero, one_found}
use Rattle.zco_part.specs.Pieces.{whole_row}
use Rattle.zco_part.specs.Pieces.{extents_at as rows_at}
use Rattle.zco_part.specs.Sources.{all_counted}
use Rattle.zco_join.specs.Appending.{CloneAt, HasAppended}
use Rattle.zco_join.specs.Joining.{AppendsEach, AppendsSome, StopsAppend, Together}
use Rattle.zco_join.specs.Stocks.{Standing, objects_entries, queues_entries}
use Rattle.zco_join.specs.declared.filled.Filled.{Filled}
use Rattle.zco_join.proofs.AppendLemmas.{all_one, append_steps, appends_more, appends_source, is_source, is_with_raw, is_with_source}
use Rattle.zco_join.proofs.CountedLemmas.{all_front}
use Rattle.zco_join.proofs.TurnLemmas.{turn}

-- a clone is kept as its object gets extents
module _ {start : Heap} {acct : Acct} {parts : List Filled} {t : Together} {object : ℕ} {done left : List ExtentPiece} {heap : Heap}
    (h : HasAppended start acct parts t object done left heap) where
  pub clone_kept : (before : List Standing) (z : Standing) (behind : List Standing) → t.clones ≡ before ++ (z ∷ behind) → KeepsObject heap.blocks z.addr z.row
  clone_kept before z behind w =
      let A = object_entries object (whole_row acct (rows_at h.addrs done)) ++ queue_entries acct h.tickets in
      let S = sources_entries (all_counted acct done t.sources) in
      let B = objects_entries before in
      let Z = object_entries z.addr z.row in
      let C = objects_entries (behind ++ t.others) in
      let rest = queues_entries t.more ++ t.rest in
      let objects : objects_entries (t.clones ++ t.others) ≡ B ++ (Z ++ C) =
      ap (λ (zs : List Standing). objects_entries (zs ++ t.others)) w
      ∙ ap objects_entries (append_assoc before (z ∷ behind) t.others)
      ∙ flat_map-append (λ (x : Standing). object_entries x.addr x.row) before (z ∷ (behind ++ t.others)) in
      record {
        rest = A ++ (S ++ (B ++ (C ++ rest)));
        stands =
            turn (3 ∷ []) (A ∷ S ∷ B ∷ Z ∷ C ∷ []) rest
            (subst (λ (es : Entries). BlocksAre heap.blocks (A ++ (S ++ es)))
            (ap (λ (es : Entries). es ++ rest) objects ∙ append_assoc B (Z ++ C) rest ∙ ap (λ (es : Entries). B ++ es) (append_assoc Z C rest)) h.stands);
        fits =
            let P : Standing → Type 0 = λ x. ObjectFits x.row in
            all_one P before z behind (subst (All P) w (all_front P t.clones t.others h.from.keeps.fits));
      }

-- Some first ones of extents were passed, and an object got extents of what they name.
pub record Extended (object number : ℕ) (xs : List ExtentRow) (old now : Heap) (cursor i : ℕ) : Type 0 where
  pub walk : Passed extent_addr xs cursor i
  pub appends : AppendsEach object number (map piece_of walk.passed) old now

abbrev pub extended_none : (object number : ℕ) (xs : List ExtentRow) (old now : Heap) (cursor : ℕ) → cursor ≡ first_of extent_addr 0 xs → now ≡ old →
    Extended object number xs old now cursor 0
extended_none object number xs old now cursor a e = record {
  walk = record { passed = []; left = xs; whole = refl; counted = refl; at_cursor = a };
  appends = e;
}

-- a fault stops it too
pub stops_fault : (object number : ℕ) (ps : List ExtentPiece) (old new : Heap) (stop : Stop) → OnlyFault stop → StopsAppend object number ps old new stop
stops_fault object number [] old new stop f = f
stops_fault object number (p ∷ ps) old new (stops.Refused r) f = absurd f
stops_fault object number (p ∷ ps) old new stops.DiskFault f = f
stops_fault object number (p ∷ ps) old new stops.MediaFault f = f
stops_fault object number (p ∷ ps) old new stops.Failed f = f

-- none came before it
pub stopped_first : (object number : ℕ) (ps : List ExtentPiece) (old new : Heap) (stop : Stop) → OnlyFault stop → AppendsSome object number ps old new stop
stopped_first object number ps old new stop f =
    record { done = []; left = ps; whole = refl; mid = old; appends = refl; stops = stops_fault object number ps old new stop f }

module _ {start : Heap} {acct : Acct} {parts : List Filled} {t : Together} {object number clone : ℕ} {done : List ExtentPiece} {z : Standing}
    {left : List ExtentPiece} {old now : Heap} {cursor i : ℕ} (c : CloneAt start acct parts t object clone done z left old)
    (l : Extended object number z.row.extents old now cursor i) where
  pub has_now : HasAppended start acct parts t object (done ++ map piece_of l.walk.passed) (map piece_of l.walk.left ++ left) now
  has_now =
      let P = map piece_of l.walk.passed in
      let L = map piece_of l.walk.left in
      append_steps object number done P (L ++ left) old now
      (subst (λ (qs : List ExtentPiece). HasAppended start acct parts t object done qs old)
      (ap (λ (xs : List ExtentRow). map piece_of xs ++ left) l.walk.whole
      ∙ ap (λ (ps : List ExtentPiece). ps ++ left) (map-append piece_of l.walk.passed l.walk.left) ∙ append_assoc P L left) c.has)
      l.appends

  chain : ExtentsAt now.blocks (first_of extent_addr 0 z.row.extents) z.row.extents
  chain = extents_at (clone_kept has_now c.before z c.behind c.whole) (first_of extent_addr 0 z.row.extents) refl

  -- all were passed
  all_of : l.walk.left ≡ [] → AppendsEach object number (map piece_of z.row.extents) old now
  all_of none =
      subst (λ (xs : List ExtentRow). AppendsEach object number (map piece_of xs) old now)
      (sym (l.walk.whole ∙ ap (λ (xs : List ExtentRow). l.walk.passed ++ xs) none ∙ append-nil l.walk.passed)) l.appends

  pub extended_all : cursor ≡ 0 → AppendsEach object number (map piece_of z.row.extents) old now
  extended_all zero =
      all_of (none_at_zero ExtentFits extent_addr extent_block chain l.walk.passed l.walk.left l.walk.whole l.walk.at_cursor zero)

  few : length l.walk.passed + length l.walk.left < 2 ^ 22
  few =
      let e = ap (length {A = ExtentRow}) l.walk.whole in
      let a = length-append l.walk.passed l.walk.left in
      let n = chain.few in omega (arith, e, a, n)

  pub extended_many : i ≡ 2 ^ 22 → AppendsEach object number (map piece_of z.row.extents) old now
  extended_many many = absurd (let f = few in let k = l.walk.counted in omega (arith, f, k, many))

  -- so many at most
  pub extended_most : 42 * i ≤ 42 * length z.row.extents
  extended_most =
      let e = ap (length {A = ExtentRow}) l.walk.whole in
      let a = length-append l.walk.passed l.walk.left in
      let k = l.walk.counted in omega (arith, e, a, k)

  pub extended_failed : (new : Heap) (stop : Stop) → OnlyFault stop → AppendsSome object number (map piece_of z.row.extents) old new stop
  extended_failed new stop f = record {
    done = map piece_of l.walk.passed;
    left = map piece_of l.walk.left;
    whole = ap (λ (xs : List ExtentRow). map piece_of xs) l.walk.whole ∙ map-append piece_of l.walk.passed l.walk.left;
    mid = now;
    appends = l.appends;
    stops = stops_fault object number (map piece_of l.walk.left) now new stop f;
  }

  module _ (nz : cursor ≢ 0) where
    pub h : HasFirst l.walk.left
    h = has_first extent_addr l.walk.left (λ e. nz (l.walk.at_cursor ∙ e))

    pub whole_here : z.row.extents ≡ l.walk.passed ++ (h.one ∷ h.behind)
    whole_here = l.walk.whole ∙ ap (λ (xs : List ExtentRow). l.walk.passed ++ xs) h.is

    pub keeps_here : KeepsExtent (now.blocks cursor) (first_of extent_addr 0 h.behind) h.one
    keeps_here =
        subst (λ a. KeepsExtent (now.blocks a) (first_of extent_addr 0 h.behind) h.one) (sym (l.walk.at_cursor ∙ ap (first_of extent_addr 0) h.is))
        (let fits = fits_left ExtentFits extent_addr extent_block chain l.walk.passed (h.one ∷ h.behind) whole_here in
        record {
          block = one_found ExtentFits extent_addr extent_block chain l.walk.passed h.one h.behind whole_here;
          fits = All-head ExtentFits h.one h.behind fits;
          small = first_extent h.behind (All-tail ExtentFits h.one h.behind fits);
        })

    pub extent_there : SomeExtent (now.blocks cursor)
    extent_there = record { next = _; extent = _; keeps = keeps_here }

    pub one_more : 42 * i + 42 ≤ 42 * length z.row.extents
    one_more =
        let e = ap (length {A = ExtentRow}) whole_here in
        let a = length-append l.walk.passed (h.one ∷ h.behind) in
        let k = l.walk.counted in omega (arith, e, a, k)

    pub has_here : HasAppended start acct parts t object (done ++ map piece_of l.walk.passed) (piece_of h.one ∷ (map piece_of h.behind ++ left)) now
    has_here =
        subst (λ (xs : List ExtentRow). HasAppended start acct parts t object (done ++ map piece_of l.walk.passed) (map piece_of xs ++ left) now) h.is has_now

    module _ (link : Link) (v : SeesLink (now.blocks cursor) link) where
      pub is_here : link.piece ≡ piece_of h.one
      is_here = v.piece _ h.one keeps_here

      pub source_there : IsWithSource now object link.piece.of
      source_there = subst (λ (p : ExtentPiece). IsWithSource now object p.of) (sym is_here) (is_with_source has_here)

      pub raw_there : IsWithRaw now object link.piece.of
      raw_there = subst (λ (p : ExtentPiece). IsWithRaw now object p.of) (sym is_here) (is_with_raw has_here)

      pub of_source : IsKind (now.blocks link.piece.of) kinds.Source
      of_source = subst (λ (p : ExtentPiece). IsKind (now.blocks p.of) kinds.Source) (sym is_here) (is_source has_here)

      pub room_there : 2 ≤ now.spare
      room_there =
          let r = has_here.room in
          let w = ap (length {A = ExtentPiece}) has_here.whole in
          let a = length-append (done ++ map piece_of l.walk.passed) (piece_of h.one ∷ (map piece_of h.behind ++ left)) in
          omega (arith, r, w, a)

      abbrev pub extended_next : (new : Heap) → AppendsPiece object number link.piece now new → Extended object number z.row.extents old new link.next (i + 1)
      extended_next new a = record {
        walk = record {
          passed = l.walk.passed ++ (h.one ∷ []);
          left = h.behind;
          whole = whole_here ∙ sym (append_assoc l.walk.passed (h.one ∷ []) h.behind);
          counted = let m = length-append l.walk.passed (h.one ∷ []) in let k = l.walk.counted in omega (arith, m, k);
          at_cursor = v.next _ h.one keeps_here;
        };
        appends =
            subst (λ (ps : List ExtentPiece). AppendsEach object number ps old new) (sym (map-append piece_of l.walk.passed (h.one ∷ [])))
            (appends_more object number (map piece_of l.walk.passed) (piece_of h.one ∷ []) old now new l.appends
            (new, appends_source has_here (subst (λ (p : ExtentPiece). AppendsPiece object number p now new) is_here a), refl));
      }

      pub extended_stopped : (new : Heap) (stop : Stop) → AppendStops object number link.piece now new stop →
          AppendsSome object number (map piece_of z.row.extents) old new stop
      extended_stopped new stop s = record {
        done = map piece_of l.walk.passed;
        left = piece_of h.one ∷ map piece_of h.behind;
        whole = ap (λ (xs : List ExtentRow). map piece_of xs) whole_here ∙ map-append piece_of l.walk.passed (h.one ∷ h.behind);
        mid = now;
        appends = l.appends;
        stops = subst (λ (p : ExtentPiece). AppendStops object number p now new stop) is_here s;
      }
