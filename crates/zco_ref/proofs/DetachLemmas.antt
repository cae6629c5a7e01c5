-- An extent less names a source.
use Rattle.std.proofs.Common.{◌≡◌, ℕ, ◌+◌, ◌-◌, ◌≤◌, List, [], ◌∷◌, ◌++◌, Bool, true, false, refl, sym, ap, ◌∙◌, arith, subst, append_assoc}
use Rattle.std.specs.Prelude.{Option, ◌==◌, ◌&&◌}
use Rattle.std.specs.Prelude.{if◌then◌else◌}
use Rattle.sdr_base.specs.Blocks.{Block}
use Rattle.sdr_base.specs.Making.{GaveSome}
use Rattle.sdr_base.specs.Objects.{Heap, OnlyFull, OnlyUnmoved}
use Rattle.sdr_base.specs.Sources.{flag_word, medium_number}
use Rattle.sdr_base.specs.Words.{HasWord, with_word}
use Rattle.sdr_base.specs.declared.account.Acct.{Acct}
use Rattle.sdr_base.specs.declared.medium.Medium.{Medium}
use Rattle.sdr_base.specs.declared.medium.Medium.TheVariants as media
use Rattle.sdr_base.specs.declared.moves.Move.{Move}
use Rattle.sdr_base.specs.declared.moves.Move.TheVariants.{Gave}
use Rattle.sdr_base.specs.declared.refusal.Refusal.TheVariants.{LogFull}
use Rattle.sdr_base.specs.declared.stop.Stop.{Stop}
use Rattle.sdr_base.specs.declared.stop.Stop.TheVariants.{Refused, DiskFault, MediaFault, Failed}
use Rattle.zco_ref.specs.Counting.{Detaches, DetachStops, count_field, gone_next}
use Rattle.zco_ref.specs.Going.{OnlyGave, VanishStops, Vanishes, blocks_with, goes_by, goes_next, going, going_by, gone_with, is_passing, passing_blocks, word_in}
use Rattle.zco_ref.specs.Kept.{CountedSource, KeepsSource, SomeAttached, uses_of}
use Rattle.zco_ref.specs.Seeing.{SeesSource}
use Rattle.zco_ref.specs.declared.seeing.Seen.{Seen}
use Rattle.zco_ref.proofs.CountedLemmas.{detaches_one}
use Rattle.zco_ref.proofs.GoneLemmas.{unmoved}
use Rattle.zco_ref.proofs.KeptLemmas.{count_is, flag_is, inbound_is, medium_is, outbound_is}

-- what is said of the source says whether it goes
pub goes_told : {found : Option Block} {seen : Seen} → SeesSource found seen → (s : CountedSource) → KeepsSource found s →
    goes_by seen.medium seen.flagged (seen.inbound + seen.outbound) ≡ goes_next s
goes_told {found} {seen} sees s k =
    let said = sees.sees s k in
    ap (λ (m : Medium). goes_by m seen.flagged (seen.inbound + seen.outbound)) said.medium
    ∙ ap (λ (f : Bool). goes_by s.row.medium f (seen.inbound + seen.outbound)) said.flagged
    ∙ ap (λ (n : ℕ). goes_by s.row.medium s.row.flagged (n + seen.outbound)) said.inbound
    ∙ ap (λ (n : ℕ). goes_by s.row.medium s.row.flagged (s.inbound + n)) said.outbound

-- the words of a block
word_told : {found : Option Block} {s : CountedSource} (field : ℕ) → KeepsSource found s → HasWord found field (word_in found field)
word_told {found} {s} field k = subst (λ (o : Option Block). HasWord o field (word_in o field)) (sym k.block) refl

-- a source that goes takes so many blocks with it
closed : (m : Medium) (f b : Bool) → (is_passing m f && b) ≡ true →
    (if b then passing_blocks (medium_number m) (flag_word f) else 0) ≡ blocks_with m
closed media.Heap f true e = refl
closed media.Heap f false e = cc
closed media.File true true e = refl
closed media.File true false e = cc
closed media.File false b e = cc
closed media.Bulk true true e = refl
closed media.Bulk true false e = cc
closed media.Bulk false b e = cc
closed media.Obj true true e = refl
closed media.Obj true false e = cc
closed media.Obj false b e = cc

-- so it is told by the words of its block
going_is : {found : Option Block} (s : CountedSource) → KeepsSource found s → goes_next s ≡ true → going found ≡ blocks_with s.row.medium
going_is {found} s k goes =
    let m = medium_is k (word_told 0 k) in
    let f = flag_is k (word_told 1 k) in
    let i = inbound_is k (word_told 2 k) in
    let o = outbound_is k (word_told 3 k) in
    ap (λ (n : ℕ). going_by (n + word_in found 3) (word_in found 0) (word_in found 1)) i
    ∙ ap (λ (n : ℕ). going_by (s.inbound + n) (word_in found 0) (word_in found 1)) o
    ∙ ap (λ (n : ℕ). going_by (uses_of s) n (word_in found 1)) m
    ∙ ap (λ (n : ℕ). going_by (uses_of s) (medium_number s.row.medium) n) f
    ∙ closed s.row.medium s.row.flagged (uses_of s == 1) goes

module _ (addr : ℕ) (acct : Acct) (old : Heap) (seen : Seen) (sees : SeesSource (old.blocks addr) seen)
    (a : SomeAttached acct old.blocks addr) where
  -- as many as what is said of it tells
  pub going_told : goes_by seen.medium seen.flagged (seen.inbound + seen.outbound) ≡ true →
      going (old.blocks addr) ≡ blocks_with seen.medium
  going_told goes =
      let k = a.tied.keeps in
      going_is a.source k (sym (goes_told sees a.source k) ∙ goes)
      ∙ ap blocks_with (sym (sees.sees a.source k).medium)

  -- an extent of the account names it
  pub some_counted : (count : ℕ) → HasWord (old.blocks addr) (count_field acct) count → 1 ≤ count
  some_counted count h = let e = count_is a.tied.keeps acct h in let n = a.some in omega (arith, e, n)

module _ {addr : ℕ} {old new : Heap} (seen : Seen) (sees : SeesSource (old.blocks addr) seen) where
  -- it is gone
  pub detached_last : {acct : Acct} → goes_by seen.medium seen.flagged (seen.inbound + seen.outbound) ≡ true → Vanishes addr old new →
      Detaches addr acct old new true
  detached_last goes v = record {
    told = λ s k. sym goes ∙ goes_told sees s k;
    does = λ s bytes t. v.goes s bytes t;
  }

  -- or it is there still
  pub detached_one : {acct : Acct} (count : ℕ) → goes_by seen.medium seen.flagged (seen.inbound + seen.outbound) ≡ false →
      HasWord (old.blocks addr) (count_field acct) count → new ≡ with_word old addr (count_field acct) (count - 1) →
      Detaches addr acct old new false
  detached_one {acct} count stays h w = record {
    told = λ s k. sym stays ∙ goes_told sees s k;
    does = λ s bytes t. detaches_one acct count s t.keeps h w;
  }

-- some first ones of more blocks
some_more : {old new : Heap} (raw addr : ℕ) → GaveSome (raw ∷ []) old new → GaveSome (raw ∷ addr ∷ []) old new
some_more raw addr g = record {
  made = g.made;
  first = record {
    rest = g.first.rest ++ Gave addr ∷ [];
    whole =
        ap (λ (ms : List Move). ms ++ (Gave addr ∷ [])) g.first.whole ∙ append_assoc g.made g.first.rest (Gave addr ∷ []);
  };
  moves = g.moves;
  spare = g.spare;
}

-- where log room is wanting, some first ones of the blocks that go were given back
stopped_some : (medium : Medium) (raw addr lines room : ℕ) (old new : Heap) →
    VanishStops medium raw old new (Refused (LogFull lines room)) → GaveSome (gone_with medium raw addr) old new
stopped_some media.Heap raw addr lines room old new v = some_more raw addr v
stopped_some media.File raw addr lines room old new v = unmoved (addr ∷ []) v.moves v.spare
stopped_some media.Bulk raw addr lines room old new v = unmoved (addr ∷ []) v.moves v.spare
stopped_some media.Obj raw addr lines room old new v = unmoved (addr ∷ []) v.moves v.spare

unmoved_full : (old new : Heap) (stop : Stop) → OnlyUnmoved old new stop → OnlyFull stop
unmoved_full old new (Refused (LogFull lines room)) u = tt
unmoved_full old new (Refused refusal) u = absurd u
unmoved_full old new DiskFault u = tt
unmoved_full old new MediaFault u = absurd u
unmoved_full old new Failed u = tt

gave_full : (raw : ℕ) (old new : Heap) (stop : Stop) → OnlyGave raw old new stop → OnlyFull stop
gave_full raw old new (Refused (LogFull lines room)) u = tt
gave_full raw old new (Refused refusal) u = absurd u
gave_full raw old new DiskFault u = tt
gave_full raw old new MediaFault u = absurd u
gave_full raw old new Failed u = tt

-- a source that doesn't go is stopped for no other reason
stopped_full : (medium : Medium) (raw : ℕ) (old new : Heap) (stop : Stop) → VanishStops medium raw old new stop → OnlyFull stop
stopped_full media.Heap raw old new stop v = gave_full raw old new stop v
stopped_full media.File raw old new stop v = unmoved_full old new stop v
stopped_full media.Bulk raw old new stop v = unmoved_full old new stop v
stopped_full media.Obj raw old new stop v = unmoved_full old new stop v

-- why no extent is taken off
detach_stops : (addr : ℕ) (old new : Heap) (stop : Stop) → OnlyFull stop →
    ((lines room : ℕ) → stop ≡ Refused (LogFull lines room) → (s : CountedSource) → KeepsSource (old.blocks addr) s →
    GaveSome (gone_next addr s) old new) → DetachStops addr old new stop
detach_stops addr old new (Refused (LogFull lines room)) full some = record { gave = some lines room refl }
detach_stops addr old new (Refused refusal) full some = full
detach_stops addr old new DiskFault full some = full
detach_stops addr old new MediaFault full some = full
detach_stops addr old new Failed full some = full

-- since the source doesn't go
pub stopped_last : (addr : ℕ) (old new : Heap) (seen : Seen) (stop : Stop) → SeesSource (old.blocks addr) seen →
    goes_by seen.medium seen.flagged (seen.inbound + seen.outbound) ≡ true →
    VanishStops seen.medium seen.subject old new stop → DetachStops addr old new stop
stopped_last addr old new seen stop sees goes v =
    detach_stops addr old new stop (stopped_full seen.medium seen.subject old new stop v)
    (λ lines room is s k.
    let said = sees.sees s k in
    let there : goes_next s ≡ true = sym (goes_told sees s k) ∙ goes in
    let some : GaveSome (gone_with seen.medium seen.subject addr) old new =
    stopped_some seen.medium seen.subject addr lines room old new
    (subst (VanishStops seen.medium seen.subject old new) is v) in
    let same : gone_with seen.medium seen.subject addr ≡ gone_next addr s =
    ap (λ (m : Medium). gone_with m seen.subject addr) said.medium
    ∙ ap (λ (raw : ℕ). gone_with s.row.medium raw addr) said.subject
    ∙ ap (λ (b : Bool). if b then gone_with s.row.medium s.row.subject addr else []) (sym there) in
    subst (λ (addrs : List ℕ). GaveSome addrs old new) same some)

-- or since the count isn't set
pub stopped_one : (addr : ℕ) (old new : Heap) (stop : Stop) → OnlyUnmoved old new stop → DetachStops addr old new stop
stopped_one addr old new stop u =
    detach_stops addr old new stop (unmoved_full old new stop u)
    (λ lines room is s k.
    let here : OnlyUnmoved old new (Refused (LogFull lines room)) = subst (OnlyUnmoved old new) is u in
    unmoved (gone_next addr s) here.moves here.spare)
