-- The extents outside an object's part are given back, and then what is charged less.
use Rattle.std.proofs.Common.{◌≡◌, ◌∙◌, ℕ, List, [], ◌++◌, sym, ap, subst, arith, append_assoc, append-nil}
use Rattle.std.proofs.lemmas.List.Elements.{All-weaker}
use Rattle.sdr_base.proofs.GaveLemmas.{more_gave, none_made, some_then}
use Rattle.sdr_base.proofs.HeapLemmas.{heap_blocks}
use Rattle.sdr_base.proofs.StandingLemmas.{moved}
use Rattle.sdr_base.specs.Blocks.{Blocks, IsKind}
use Rattle.sdr_base.specs.Entries.{Entries, BlocksAre}
use Rattle.sdr_base.specs.Making.{GaveSome, Made, besides, gave, with_moves}
use Rattle.sdr_base.specs.Objects.{Heap, Misses, OnlyUnmoved}
use Rattle.sdr_base.specs.ZcoObjects.{ObjectRow, extent_entries, object_entries}
use Rattle.sdr_base.specs.declared.account.Acct.{Acct}
use Rattle.sdr_base.specs.declared.account.Amounts.{Amounts}
use Rattle.sdr_base.specs.declared.kind.Kind.TheVariants as kinds
use Rattle.sdr_base.specs.declared.refusal.Refusal.TheVariants as refusals
use Rattle.sdr_base.specs.declared.stop.Stop.{Stop}
use Rattle.sdr_base.specs.declared.stop.Stop.TheVariants.{Refused, DiskFault, MediaFault, Failed}
use Rattle.sdr_model.specs.Amounts.{minus}
use Rattle.zco_acct.specs.Words.{occupied_in, with_occupied}
use Rattle.zco_strip.proofs.OutsideLaws.{all_out, length_out, sum_out}
use Rattle.zco_strip.proofs.SpanLemmas.{object_kept}
use Rattle.zco_strip.specs.Cuts.{outside, part_end, stripped}
use Rattle.zco_strip.specs.Stripping.{CutsObject, KeepsToStrip, SomeToStrip, StripsObject, StripStops, gone_outside}
use Rattle.zco_strip.specs.declared.chain.Parted.{Parted}
use Rattle.zco_obj.proofs.CountLemmas.{names}
use Rattle.zco_obj.proofs.PairLemmas.{swapped}
use Rattle.zco_obj.specs.Gone.{NamedSource, extents_amounts, source_at, sources_entries, sources_left}
use Rattle.zco_obj.specs.Kept.{ExtentFits}
use Rattle.zco_obj.specs.Reading.{Tells}
use Rattle.zco_obj.specs.Uses.{AreNamed, CountsUses, ExtentsGiveStops, ExtentsGone, GivesExtents, IsThere, SomeUses, UsesAt}
use Rattle.zco_ref.proofs.GoneLemmas.{unmoved}

-- for the address nothing is cut
pub missed_stops : (object : ℕ) (old new : Heap) (stop : Stop) → Misses (old.blocks object) object kinds.Object stop → new ≡ old →
    StripStops object old new stop
missed_stops object old new (Refused (refusals.BadAddress bad)) m same = (m, same)
missed_stops object old new (Refused (refusals.WrongKind bad number)) m same = (m, same)
missed_stops object old new (Refused refusal) m same = absurd m
missed_stops object old new DiskFault m same = m
missed_stops object old new MediaFault m same = m
missed_stops object old new Failed m same = m

-- or since its extents aren't cut
pub cut_stop : (object : ℕ) (old new : Heap) (stop : Stop) → IsKind (old.blocks object) kinds.Object → OnlyUnmoved old new stop →
    StripStops object old new stop
cut_stop object old new (Refused (refusals.LogFull lines room)) kind u = record {
  kind = kind;
  gave = λ row ss k. unmoved (gone_outside row ss) u.moves u.spare;
}
cut_stop object old new (Refused refusal) kind u = absurd u
cut_stop object old new DiskFault kind u = u
cut_stop object old new MediaFault kind u = absurd u
cut_stop object old new Failed kind u = u

-- the extents outside name those of an object's sources that they named
outside_named : (row : ObjectRow) (ss : List NamedSource) → AreNamed row.account row.extents ss → AreNamed row.account (outside row) ss
outside_named row ss n = record {
  there = all_out (λ e. IsThere (source_at e.source ss)) row.part_offset (part_end row) row.extents n.there;
  counted = All-weaker (CountsUses row.account row.extents) (CountsUses row.account (outside row)) (λ s counts.
      record {
        fits = counts.fits;
        short = counts.short;
        enough =
            let fewer = sum_out (names s.addr) row.part_offset (part_end row) row.extents in
            let enough = counts.enough in omega (arith, fewer, enough);
      }) ss n.counted;
}

module _ {object : ℕ} {acct : Acct} {old mid : Heap} {parted : Parted} (c : CutsObject object old mid parted)
    (t : Tells old.blocks object (λ row. row.account) acct) where
  account_is : {row : ObjectRow} {ss : List NamedSource} → KeepsToStrip old.blocks object row ss → acct ≡ row.account
  account_is {row} k = t.tells row (object_kept k)

  -- they are a chain, with the object beside it
  pub uses_out : {row : ObjectRow} {ss : List NamedSource} → KeepsToStrip old.blocks object row ss →
      UsesAt acct mid.blocks parted.out (outside row) ss
  uses_out {row} {ss} k =
      let cut = c.cuts row ss k in
      let O = object_entries object (stripped row) in
      let U = extent_entries (outside row) in
      let S = sources_entries ss in
      record {
        rest = O ++ k.keeps.rest;
        stands =
            swapped mid.blocks U O S k.keeps.rest
            (moved O U (S ++ k.keeps.rest)
            (subst (λ (es : Entries). BlocksAre mid.blocks es) (append_assoc O U (S ++ k.keeps.rest))
            (cut.changes.kept (S ++ k.keeps.rest) k.keeps.stands)));
        at_first = cut.at_out;
        fits = all_out ExtentFits row.part_offset (part_end row) row.extents k.keeps.fits.extents;
        few =
            let fewer = length_out row.part_offset (part_end row) row.extents in
            let few = k.keeps.fits.few in omega (arith, fewer, few);
        named = subst (λ (n : Acct). AreNamed n (outside row) ss) (sym (account_is k)) (outside_named row ss k.keeps.named);
      }

  -- no move was made
  none_moved : Made [] old mid
  none_moved = record { all = c.same ∙ (none_made old).all }

  pub some_uses : SomeToStrip old object → SomeUses acct mid parted.out
  some_uses q = record {
    extents = outside q.row;
    sources = q.sources;
    is = uses_out q.keeps;
    room = let r = q.room in let e : mid.spare ≡ old.spare = ap (λ (h : Heap). h.spare) c.same in omega (arith, r, e);
  }

  -- why they aren't all given back
  pub outside_stop : (new : Heap) (stop : Stop) → IsKind (old.blocks object) kinds.Object →
      ExtentsGiveStops acct parted.out mid new stop → StripStops object old new stop
  outside_stop new (Refused (refusals.LogFull lines room)) kind s = record {
    kind = kind;
    gave = λ row ss k.
        subst (λ (l : List ℕ). GaveSome l old new) (append-nil (gone_outside row ss))
        (some_then [] (gone_outside row ss) [] none_moved (s.gives (outside row) ss (uses_out k)));
  }
  outside_stop new (Refused refusal) kind s = absurd s
  outside_stop new DiskFault kind s = s
  outside_stop new MediaFault kind s = absurd s
  outside_stop new Failed kind s = s

  module _ {last : Heap} {charged : Amounts} (g : GivesExtents acct parted.out mid last charged) where
    gone : {row : ObjectRow} {ss : List NamedSource} (k : KeepsToStrip old.blocks object row ss) →
        ExtentsGone acct (outside row) ss (uses_out k).rest mid last charged
    gone {row} {ss} k = g.gives (outside row) ss (uses_out k)

    gone_moves : {row : ObjectRow} {ss : List NamedSource} → KeepsToStrip old.blocks object row ss →
        Made (gave (gone_outside row ss)) old last
    gone_moves {row} {ss} k = more_gave [] (gone_outside row ss) none_moved (gone k).made

    -- or the account isn't given back what is charged less
    pub release_stop : (new : Heap) (stop : Stop) → IsKind (old.blocks object) kinds.Object → OnlyUnmoved last new stop →
        StripStops object old new stop
    release_stop new (Refused (refusals.LogFull lines room)) kind u = record {
      kind = kind;
      gave = λ row ss k.
          subst (λ (l : List ℕ). GaveSome l old new) (append-nil (gone_outside row ss))
          (some_then (gone_outside row ss) [] [] (gone_moves k) (unmoved [] u.moves u.spare));
    }
    release_stop new (Refused refusal) kind u = absurd u
    release_stop new DiskFault kind u = u
    release_stop new MediaFault kind u = absurd u
    release_stop new Failed kind u = u

    -- it is stripped
    pub strips : {new : Heap} → IsKind (old.blocks object) kinds.Object →
        new ≡ with_occupied last acct (minus (occupied_in last acct) charged) → StripsObject object old new
    unfolding uses_out
    strips {new} kind r = record {
      kind = kind;
      strips = λ row ss k.
          let own = account_is k in
          let moves = gave (gone_outside row ss) in
          let made = gone_moves k in
          let same : occupied_in last acct ≡ occupied_in old acct = ap (λ (h : Heap). occupied_in h acct) made.all in
          record {
            changes = record {
              kept = λ rest s.
                  let O = object_entries object (stripped row) in
                  let S = sources_entries ss in
                  let L = sources_left row.account (outside row) ss in
                  let k' : KeepsToStrip old.blocks object row ss =
                  record {
                    keeps = record {
                      rest = rest;
                      stands = subst (λ (es : Entries). BlocksAre old.blocks es) (append_assoc (object_entries object row) S rest) s;
                      fits = k.keeps.fits;
                      named = k.keeps.named;
                    };
                    bytes = k.bytes;
                  } in
                  let left : BlocksAre last.blocks (L ++ (O ++ rest)) =
                  subst (λ (n : Acct). BlocksAre last.blocks (sources_left n (outside row) ss ++ (O ++ rest))) own (gone k').stands in
                  subst (λ (b : Blocks). BlocksAre b ((O ++ L) ++ rest)) (sym (heap_blocks r))
                  (subst (λ (es : Entries). BlocksAre last.blocks es) (sym (append_assoc O L rest))
                  (moved L O rest left));
            };
            others =
                ap besides r
                ∙ ap (λ (h : Heap). with_occupied h acct (minus (occupied_in last acct) charged)) made.all
                ∙ ap (λ (a : Amounts). besides (with_occupied (with_moves old moves) acct (minus a charged))) same
                ∙ ap (λ (a : Amounts). besides (with_occupied (with_moves old moves) acct (minus (occupied_in old acct) a)))
                (gone k).charge
                ∙ ap (λ (a : Acct). besides (with_occupied (with_moves old moves) a
                (minus (occupied_in old a) (extents_amounts a ss (outside row))))) own;
          };
    }
