-- An object of a world, kept in its blocks with the sources that its extents name and with the queue of its account.
use Rattle.std.proofs.Common.{◌≡◌, ◌∙◌, ◌+◌, ◌≤◌, ℕ, List, [], ◌∷◌, ◌++◌, map, true, sym, ap, subst, arith, append_assoc, None}
use Rattle.std.proofs.lemmas.List.Elements.{All-cons, All-nil}
use Rattle.std.specs.Prelude.{All, Some, if◌then◌else◌}
use Rattle.step_things.proofs.ListLemmas.{IsSmall}
use Rattle.step_things.specs.Answering.{IsReady}
use Rattle.sdr_stands.specs.Rows.{extent_row, object_row}
use Rattle.sdr_stands.specs.Standing.{HeapStandsFor, other_entries, thing_entries}
use Rattle.sdr_stands.specs.Ties.{ties_of}
use Rattle.sdr_base.specs.Entries.{Entries, BlocksAre}
use Rattle.sdr_base.specs.Objects.{Heap}
use Rattle.sdr_base.specs.Section.{section}
use Rattle.sdr_base.specs.ZcoObjects.{ExtentRow, object_entries}
use Rattle.sdr_base.specs.declared.account.Acct.{Acct}
use Rattle.sdr_base.specs.declared.account.Acct.TheVariants as accts
use Rattle.law_steps.proofs.SourceViews.{AllLie, fits_from}
use Rattle.sdr_model.specs.Accounts.{is_same_account, tickets_of}
use Rattle.sdr_model.specs.Gone.{names_source}
use Rattle.sdr_model.specs.Valid.{FitTogether}
use Rattle.sdr_model.specs.World.{World, thing_at}
use Rattle.sdr_model.specs.Zco.{as_object, as_source, count_of, naming}
use Rattle.sdr_model.specs.declared.things.Thing.TheVariants as things
use Rattle.sdr_model.specs.declared.zco.Extent.{Extent}
use Rattle.sdr_model.specs.declared.zco.ZcoObject.{ZcoObject}
use Rattle.step_zco.proofs.AlikeLemmas.{StandAlike}
use Rattle.step_zco.proofs.GoneMoves.{naming_rows}
use Rattle.step_zco.proofs.GoneTies.{counts_less, leaves_none, lost_world}
use Rattle.step_zco.proofs.GoneUses.{IsFound, UsedBy, UsedSource, itself, named_later, named_of, used_by}
use Rattle.step_zco.proofs.GoneWorlds.{beside, own_first}
use Rattle.step_zco.proofs.ObjectLemmas.{object_beside, object_fits, short_source}
use Rattle.step_zco.specs.Destroying.{SomeWithAll}
use Rattle.zco_obj.specs.Destroying.{KeepsSources}
use Rattle.zco_obj.specs.Gone as rows
use Rattle.zco_obj.specs.Gone.{NamedSource, sources_entries}
use Rattle.zco_obj.specs.Uses.{AreNamed, CountsUses, IsThere}
use Rattle.zco_ref.specs.Kept.{count_in}
use Rattle.step_zco.proofs.SourceLemmas.{counted_in, source_stands}

-- the sources that the extents of an object name
pub lie : (w : World) (addr : ℕ) (z : ZcoObject) → FitTogether w → thing_at w addr ≡ Some (things.Object z) → AllLie w.things z.extents
lie w addr z fits there = (fits_from w fits).inside addr z (ap as_object there)

abbrev pub used : (w : World) (addr : ℕ) (z : ZcoObject) → FitTogether w → thing_at w addr ≡ Some (things.Object z) →
    UsedBy w z.extents z.extents
used w addr z fits there = used_by w z.extents fits z.extents (lie w addr z fits there) (λ q named. named)

-- in a heap that stands for a world in which calls are served
module _ (heap : Heap) (w : World) (s : HeapStandsFor heap w) (served : IsReady w) (small : IsSmall heap) (addr : ℕ) (z : ZcoObject)
    (there : thing_at w addr ≡ Some (things.Object z)) where
  abbrev pub mine : UsedBy w z.extents z.extents
  mine = used w addr z served.whole.fits there

  abbrev pub sources : List NamedSource
  sources = map (named_of w z.extents) mine.sources

  abbrev pub extents : List ExtentRow
  extents = map extent_row z.extents

  -- are found, and count its extents
  all_there : (es : List Extent) → ((q : ℕ) → names_source q es ≡ true → IsFound w z.extents mine.sources q) →
      All (λ e. IsThere (rows.source_at e.source sources)) (map extent_row es)
  all_there [] found = All-nil (λ e. IsThere (rows.source_at e.source sources))
  all_there (e ∷ es) found =
      All-cons (λ (x : ExtentRow). IsThere (rows.source_at x.source sources)) (extent_row e) (map extent_row es)
      (subst IsThere (sym (found e.source (itself e es)).is) tt)
      (all_there es (λ q named. found q (named_later q e es named)))

  enough : (u : UsedSource w z.extents) → rows.naming u.addr extents ≤ count_in z.account (counted_in w u.addr u.source)
  enough u =
      by z.account
      (λ acct. counts_less w addr z there served.whole.fits z.extents None (leaves_none z) mine.sources mine.are u.addr acct)
    where
      by : (acct : Acct) →
          ((b : Acct) → count_of (lost_world w addr z.extents None) u.addr b
          + (if is_same_account b acct then naming u.addr z.extents else 0) ≡ count_of w u.addr b) →
          rows.naming u.addr extents ≤ count_in acct (counted_in w u.addr u.source)
      by accts.Inbound less =
          let one = less accts.Inbound in let same = naming_rows u.addr z.extents in omega (arith, one, same)
      by accts.Outbound less =
          let one = less accts.Outbound in let same = naming_rows u.addr z.extents in omega (arith, one, same)

  all_counted : (us : List (UsedSource w z.extents)) → All (CountsUses z.account extents) (map (named_of w z.extents) us)
  all_counted [] = All-nil (CountsUses z.account extents)
  all_counted (u ∷ us) =
      All-cons (CountsUses z.account extents) (named_of w z.extents u) (map (named_of w z.extents) us)
      (record {
        fits = (source_stands heap w u.addr u.source s served small u.there).fits;
        short = short_source heap w s served small u.addr u.source (ap as_source u.there);
        enough = enough u;
      })
      (all_counted us)

  pub named : AreNamed z.account extents sources
  named = record { there = all_there z.extents mine.are.found; counted = all_counted mine.sources }

  -- their blocks may stand behind the object's, before all others
  abbrev pub rest : Entries
  rest = beside w addr z there served.whole.fits z.extents None (leaves_none z) mine.sources mine.are

  pub sources_behind : StandAlike (section (thing_entries (ties_of w)) w.things)
      (object_entries addr (object_row z) ++ (sources_entries sources ++ rest))
  sources_behind =
      subst (λ (es : Entries). StandAlike (section (thing_entries (ties_of w)) w.things) es)
      (append_assoc (object_entries addr (object_row z)) (sources_entries sources) rest)
      (own_first w addr z there served.whole.fits z.extents None (leaves_none z) mine.sources mine.are)

  -- so the object is kept with them
  pub keeps_sources : KeepsSources heap.blocks addr (object_row z) sources
  keeps_sources =
      let object = object_entries addr (object_row z) in
      record {
        rest = rest ++ other_entries w;
        stands = subst (λ (es : Entries). BlocksAre heap.blocks es)
            (append_assoc object (sources_entries sources ++ rest) (other_entries w)
            ∙ ap (λ (es : Entries). object ++ es) (append_assoc (sources_entries sources) rest (other_entries w)))
            (sources_behind.forth heap.blocks (other_entries w) s.blocks);
        fits = object_fits heap w s served small addr z there;
        named = named;
      }

  -- and with the queue of its account
  unfoldable pub with_all : SomeWithAll heap addr
  with_all = record {
    row = object_row z;
    tickets = tickets_of w.accounts z.account;
    sources = sources;
    beside = object_beside heap w addr z s served small there (sources_entries sources) rest sources_behind;
    named = named;
  }
