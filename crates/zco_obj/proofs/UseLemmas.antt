-- An extent is given back, once its source counts one less.
use Rattle.std.proofs.Common.{◌≡◌, ◌+◌, ◌≤◌, ◌^◌, ℕ, Bool, List, [], ◌∷◌, ◌++◌, length, true, false, Some, refl, sym, ap, ◌∙◌, arith, subst}
use Rattle.std.specs.Prelude.{◌==◌, ◌&&◌, MatchBool, Option, if◌then◌else◌}
use Rattle.sdr_base.specs.Blocks.{Block, Blocks, Reaches}
use Rattle.sdr_base.specs.Entries.{Changes, Entries, BlocksAre}
use Rattle.sdr_base.specs.Making.{Made, gave}
use Rattle.sdr_base.specs.Objects.{Heap, OnlyUnmoved, with_given}
use Rattle.sdr_base.specs.Raws.{raw_block}
use Rattle.sdr_base.specs.Sources.{flag_word, medium_number}
use Rattle.sdr_base.specs.Words.{HasWord}
use Rattle.sdr_base.specs.ZcoObjects.{ExtentRow, extent_block}
use Rattle.sdr_base.specs.declared.account.Acct.{Acct}
use Rattle.sdr_base.specs.declared.account.Acct.TheVariants as accts
use Rattle.sdr_base.specs.declared.kind.Kind.TheVariants as kinds
use Rattle.sdr_base.specs.declared.kind.Space.{Space}
use Rattle.sdr_base.specs.declared.kind.Space.TheVariants as spaces
use Rattle.sdr_base.specs.declared.medium.Medium.{Medium}
use Rattle.sdr_base.specs.declared.medium.Medium.TheVariants as media
use Rattle.sdr_base.specs.declared.refusal.Refusal.TheVariants.{LogFull}
use Rattle.sdr_base.specs.declared.stop.Stop.{Stop}
use Rattle.sdr_base.specs.declared.stop.Stop.TheVariants.{Refused, DiskFault, MediaFault, Failed}
use Rattle.sdr_base.proofs.GaveLemmas.{gave_spare, none_made, one_gave, some_of, some_then}
use Rattle.sdr_base.proofs.HeapLemmas.{given_blocks}
use Rattle.sdr_base.proofs.StandingLemmas.{found, moved, went}
use Rattle.sdr_base.proofs.WritingLemmas.{reaches}
use Rattle.zco_obj.specs.Amounts.{extent_amounts, heap_amounts, naming_amounts}
use Rattle.zco_obj.specs.Giving.{AreAtMost}
use Rattle.zco_obj.specs.Uses.{ExtentGiveStops, GivesExtent, SomeUse, UseAt, going_with, left_next}
use Rattle.zco_obj.specs.Sources.{SeesSource}
use Rattle.zco_obj.specs.Walks.{KeepsExtent, SeesExtent, SomeExtent}
use Rattle.zco_obj.specs.declared.destroying.GivenExtent.{GivenExtent}
use Rattle.zco_obj.specs.declared.seeing.SeenExtent.{SeenExtent}
use Rattle.zco_obj.specs.declared.seeing.SeenSource.{SeenSource}
use Rattle.zco_obj.proofs.SourceLemmas.{naming_read}
use Rattle.zco_obj.proofs.WalkLemmas.{source_is}
use Rattle.zco_ref.specs.Counting.{Becomes, CountsIn, DetachStops, Detaches, detached, gone_next}
use Rattle.zco_ref.specs.Going.{SourceGoes, goes_next, going, going_by, gone_with, is_passing, blocks_left, passing_blocks, word_in}
use Rattle.zco_ref.specs.Kept.{CountedSource, IsTiedRaw, KeepsSource, KeepsTied, SomeAttached, SomeSource, counted_block, counted_entries, raw_part, tied_entries, uses_of}
use Rattle.zco_ref.proofs.GoneLemmas.{unmoved}
use Rattle.zco_ref.proofs.KeptLemmas.{flag_is, inbound_is, medium_is, outbound_is}

-- the number in a word of a block that is there
word_there : (found : Option Block) (x : Block) (field : ℕ) → found ≡ Some x → HasWord found field (word_in found field)
word_there found x field e = subst (λ (o : Option Block). HasWord o field (word_in o field)) (sym e) refl

-- so many blocks go with a source
gone_count : (m : Medium) (f b : Bool) (raw addr : ℕ) →
    (if b then passing_blocks (medium_number m) (flag_word f) else 0) ≡ length (if is_passing m f && b then gone_with m raw addr else [])
gone_count media.Heap f true raw addr = refl
gone_count media.Heap f false raw addr = refl
gone_count media.File true true raw addr = refl
gone_count media.File true false raw addr = refl
gone_count media.File false true raw addr = refl
gone_count media.File false false raw addr = refl
gone_count media.Bulk true true raw addr = refl
gone_count media.Bulk true false raw addr = refl
gone_count media.Bulk false true raw addr = refl
gone_count media.Bulk false false raw addr = refl
gone_count media.Obj true true raw addr = refl
gone_count media.Obj true false raw addr = refl
gone_count media.Obj false true raw addr = refl
gone_count media.Obj false false raw addr = refl

-- as its words tell
going_is : {found : Option Block} (addr : ℕ) (s : CountedSource) → KeepsSource found s → going found ≡ length (gone_next addr s)
going_is {found} addr s k =
    let m = medium_is k (word_there found (counted_block s) 0 k.block) in
    let f = flag_is k (word_there found (counted_block s) 1 k.block) in
    let i = inbound_is k (word_there found (counted_block s) 2 k.block) in
    let o = outbound_is k (word_there found (counted_block s) 3 k.block) in
    ap (λ (n : ℕ). going_by (n + word_in found 3) (word_in found 0) (word_in found 1)) i
    ∙ ap (λ (n : ℕ). going_by (s.inbound + n) (word_in found 0) (word_in found 1)) o
    ∙ ap (λ (n : ℕ). going_by (uses_of s) n (word_in found 1)) m
    ∙ ap (λ (n : ℕ). going_by (uses_of s) (medium_number s.row.medium) n) f
    ∙ gone_count s.row.medium s.row.flagged (uses_of s == 1) s.row.subject addr

-- a source's raw object stands with it
raw_stands : (m : Medium) (b : Blocks) (raw addr : ℕ) (bytes : List ℕ) (xs rest : Entries) →
    BlocksAre b (xs ++ (raw_part m raw addr bytes ++ rest)) → IsTiedRaw m (b raw) addr bytes
raw_stands media.Heap b raw addr bytes xs rest s = found b raw (raw_block addr bytes) xs rest s
raw_stands media.Obj b raw addr bytes xs rest s = found b raw (raw_block addr bytes) xs rest s
raw_stands media.File b raw addr bytes xs rest s = tt
raw_stands media.Bulk b raw addr bytes xs rest s = tt

module _ {acct : Acct} {b : Blocks} {extent next : ℕ} {e : ExtentRow} {s : CountedSource} {bytes : List ℕ}
    (u : UseAt acct b extent next e s bytes) where
  pub use_extent : KeepsExtent (b extent) next e
  use_extent = record {
    block = found b extent (extent_block 0 next e) [] _ u.stands;
    fits = u.extent_fits;
    small = u.next_fits;
  }

  pub use_tied : KeepsTied b e.source s bytes
  use_tied = record {
    keeps = record {
      block = found b e.source (counted_block s) ((extent, extent_block 0 next e) ∷ []) _ u.stands;
      fits = u.source_fits;
    };
    raw = raw_stands s.row.medium b s.row.subject e.source bytes
        ((extent, extent_block 0 next e) ∷ (e.source, counted_block s) ∷ []) u.rest u.stands;
  }

  pub going_told : going_with b extent ≡ length (gone_next e.source s)
  going_told =
      let w = source_is use_extent (word_there (b extent) (extent_block 0 next e) 0 use_extent.block) in
      ap (λ n. going (b n)) w ∙ going_is e.source s use_tied.keeps

pub some_use_extent : {acct : Acct} {b : Blocks} {extent : ℕ} → SomeUse acct b extent → SomeExtent (b extent)
some_use_extent q = record { next = q.next; extent = q.row; keeps = use_extent q.is }

module _ {acct : Acct} {b : Blocks} {extent : ℕ} {seen : SeenExtent} (q : SomeUse acct b extent) (v : SeesExtent (b extent) seen) where
  seen_source : seen.source ≡ q.row.source
  seen_source = v.source q.next q.row (use_extent q.is)

  pub some_use_source : SomeSource (b seen.source)
  some_use_source =
      subst (λ n. SomeSource (b n)) (sym seen_source) (record { source = q.source; keeps = (use_tied q.is).keeps })

  -- it has few bytes
  pub source_short : (source : SeenSource) → SeesSource (b seen.source) source → source.bytes ≤ 2 ^ 40
  source_short source w =
      let kept = subst (λ n. KeepsSource (b n) q.source) (sym seen_source) (use_tied q.is).keeps in
      let e = (w.sees q.source kept).bytes in let s = q.is.short in omega (arith, e, s)

  pub some_attached : SomeAttached acct b seen.source
  some_attached =
      subst (λ n. SomeAttached acct b n) (sym seen_source)
      (record { source = q.source; bytes = q.bytes; tied = use_tied q.is; some = q.is.some })

  pub same_going : going (b seen.source) ≡ going_with b extent
  same_going =
      ap (λ n. going (b n)) seen_source ∙ going_is q.row.source q.source (use_tied q.is).keeps ∙ sym (going_told q.is)

-- what becomes of a source that counts one less
pub record DetachedAs (acct : Acct) (addr : ℕ) (s : CountedSource) (bytes : List ℕ) (goes : Bool) (old mid : Heap) : Type 0 where
  pub changes : Changes old.blocks mid.blocks (tied_entries addr s bytes)
      (if goes then blocks_left s.row.medium s.row.subject bytes else tied_entries addr (detached acct s) bytes)
  pub made : Made (gave (if goes then gone_with s.row.medium s.row.subject addr else [])) old mid

-- its raw object stays beside it
wider : (acct : Acct) (addr : ℕ) (s : CountedSource) (bytes : List ℕ) (old mid : Blocks) →
    Changes old mid (counted_entries addr s) (counted_entries addr (detached acct s)) →
    Changes old mid (tied_entries addr s bytes) (tied_entries addr (detached acct s) bytes)
wider accts.Inbound addr s bytes old mid c = record {
  kept = λ rest st. c.kept (raw_part s.row.medium s.row.subject addr bytes ++ rest) st;
}
wider accts.Outbound addr s bytes old mid c = record {
  kept = λ rest st. c.kept (raw_part s.row.medium s.row.subject addr bytes ++ rest) st;
}

detached_as : (acct : Acct) (addr : ℕ) (s : CountedSource) (bytes : List ℕ) (old mid : Heap) (goes : Bool) →
    MatchBool goes (SourceGoes addr s bytes old mid) (Becomes addr s (detached acct s) old mid) → DetachedAs acct addr s bytes goes old mid
detached_as acct addr s bytes old mid true g = record { changes = g.changes; made = g.made }
detached_as acct addr s bytes old mid false g = record {
  changes = wider acct addr s bytes old.blocks mid.blocks g.changes;
  made = record { all = g.same ∙ (none_made old).all };
}

module _ {acct : Acct} (extent : ℕ) {old mid : Heap} {gone : Bool} (seen : SeenExtent) (v : SeesExtent (old.blocks extent) seen)
    (d : Detaches seen.source acct old mid gone) where
  module _ {next : ℕ} {e : ExtentRow} {s : CountedSource} {bytes : List ℕ} (u : UseAt acct old.blocks extent next e s bytes) where
    use_detached : DetachedAs acct e.source s bytes (goes_next s) old mid
    use_detached =
        let at = v.source next e (use_extent u) in
        let t = use_tied u in
        let there : Detaches e.source acct old mid gone = subst (λ n. Detaches n acct old mid gone) at d in
        detached_as acct e.source s bytes old mid (goes_next s)
        (subst (λ (b : Bool). MatchBool b (SourceGoes e.source s bytes old mid) (Becomes e.source s (detached acct s) old mid))
        (there.told s t.keeps) (there.does s bytes t))

    -- the extent is there still
    extent_behind : (rest : Entries) →
        BlocksAre old.blocks ((extent, extent_block 0 next e) ∷ (tied_entries e.source s bytes ++ rest)) →
        BlocksAre mid.blocks (left_next acct e.source s bytes ++ ((extent, extent_block 0 next e) ∷ rest))
    extent_behind rest st =
        use_detached.changes.kept ((extent, extent_block 0 next e) ∷ rest)
        (moved ((extent, extent_block 0 next e) ∷ []) (tied_entries e.source s bytes) rest st)

  pub used_still : SomeUse acct old.blocks extent → Reaches (mid.blocks extent) 0
  used_still q =
      reaches (mid.blocks extent) kinds.Extent (q.row.source ∷ q.row.offset ∷ q.row.length ∷ q.next ∷ []) [] 0
      (found mid.blocks extent (extent_block 0 q.next q.row) (left_next acct q.row.source q.source q.bytes) q.is.rest
      (extent_behind q.is q.is.rest q.is.stands)) (omega arith)

  pub spare_still : SomeUse acct old.blocks extent → 1 + going_with old.blocks extent ≤ old.spare → 1 ≤ mid.spare
  spare_still q enough =
      let n = going_told q.is in
      let m = gave_spare (gone_next q.row.source q.source) (use_detached q.is).made in omega (arith, n, m, enough)

  -- it was given back then
  pub gives_extent : {new : Heap} (given : GivenExtent) (source : SeenSource) (count : ℕ) → SeesSource (old.blocks seen.source) source →
      CountsIn acct (old.blocks seen.source) count →
      given.charged ≡ (if count == 1 then extent_amounts source.space source.bytes else heap_amounts 32) →
      given.next ≡ seen.next → new ≡ with_given mid extent → GivesExtent acct extent old new given
  gives_extent {new} given source count w n charged after g = record {
    gives = λ next e s bytes u.
        let at = v.source next e (use_extent u) in
        let kept = subst (λ p. KeepsSource (old.blocks p) s) (sym at) (use_tied u).keeps in
        record {
          changes = record {
            kept = λ rest st.
                subst (λ (b : Blocks). BlocksAre b (left_next acct e.source s bytes ++ rest)) (sym (given_blocks extent mid new g))
                (went mid.blocks extent (extent_block 0 next e) (left_next acct e.source s bytes) rest (extent_behind u rest st));
          };
          made = one_gave (gone_next e.source s) extent (use_detached u).made g;
          charge = charged ∙ naming_read (count == 1) s source (w.sees s kept) ∙ ap (λ m. naming_amounts (m == 1) s) (n.tells s kept);
          is_next = after ∙ v.next next e (use_extent u);
        };
  }

  -- or it wasn't
  pub give_stops : (new : Heap) (stop : Stop) → OnlyUnmoved mid new stop → ExtentGiveStops acct extent old new stop
  give_stops new (Refused (LogFull lines room)) w = record {
    gives = λ next e s bytes u. some_then (gone_next e.source s) [] (extent ∷ []) (use_detached u).made (unmoved [] w.moves w.spare);
  }
  give_stops new (Refused refusal) w = absurd w
  give_stops new DiskFault w = w
  give_stops new MediaFault w = absurd w
  give_stops new Failed w = w

-- nor does its source count one less
pub detach_stops : (acct : Acct) (extent : ℕ) (seen : SeenExtent) (old new : Heap) (stop : Stop) → SeesExtent (old.blocks extent) seen →
    DetachStops seen.source old new stop → ExtentGiveStops acct extent old new stop
detach_stops acct extent seen old new (Refused (LogFull lines room)) v d = record {
  gives = λ next e s bytes u.
      let at = v.source next e (use_extent u) in
      some_of (extent ∷ [])
      ((subst (λ n. DetachStops n old new (Refused (LogFull lines room))) at d).gave s (use_tied u).keeps);
}
detach_stops acct extent seen old new (Refused refusal) v d = d
detach_stops acct extent seen old new DiskFault v d = d
detach_stops acct extent seen old new MediaFault v d = d
detach_stops acct extent seen old new Failed v d = d

-- what is charged less is at most so much
pub charge_most : (only : Bool) (space : Space) (bytes : ℕ) → bytes ≤ 2 ^ 40 →
    AreAtMost (2 ^ 40 + 32) (if only then extent_amounts space bytes else heap_amounts 32)
charge_most true spaces.File bytes le = record { file = omega (arith, le); bulk = omega arith; heap = omega arith }
charge_most true spaces.Bulk bytes le = record { file = omega arith; bulk = omega (arith, le); heap = omega arith }
charge_most true spaces.Heap bytes le = record { file = omega arith; bulk = omega arith; heap = omega (arith, le) }
charge_most false space bytes le = record { file = omega arith; bulk = omega arith; heap = omega arith }
