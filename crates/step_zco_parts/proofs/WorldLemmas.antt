-- The world after a bond, as its row has it and as its blocks have it.
use Rattle.std.proofs.Common.{◌≡◌, ◌∙◌, ◌*◌, ◌++◌, ℕ, List, map, Some, length, sym, ap, subst, arith, append_assoc}
use Rattle.std.specs.FinMap as finite
use Rattle.sdr_stands.specs.Rows.{extent_row, object_row}
use Rattle.sdr_stands.specs.Standing.{thing_entries}
use Rattle.sdr_stands.specs.Ties.{ties_of}
use Rattle.sdr_base.specs.Entries.{Entries}
use Rattle.sdr_base.specs.Section.{section}
use Rattle.sdr_base.specs.ZcoObjects.{object_entries}
use Rattle.law_steps.proofs.BondLaws.{with_all, with_all_is}
use Rattle.law_steps.proofs.BondLemmas.{bonded_rest}
use Rattle.law_steps.proofs.SourceViews.{here_at}
use Rattle.sdr_model.specs.BondSteps.{bonded, capsules_of, with_bonded}
use Rattle.sdr_model.specs.ObjectSteps.{with_object}
use Rattle.sdr_model.specs.Things.{Things}
use Rattle.sdr_model.specs.Valid.{FitTogether}
use Rattle.sdr_model.specs.World.{World, thing_at}
use Rattle.sdr_model.specs.declared.things.Thing.{Thing}
use Rattle.sdr_model.specs.declared.things.Thing.TheVariants as things
use Rattle.sdr_model.specs.declared.zco.Capsule.{Capsule}
use Rattle.sdr_model.specs.declared.zco.ZcoObject.{ZcoObject}
use Rattle.step_zco.proofs.AlikeLemmas.{StandAlike, alike_behind, alike_then, one_first}
use Rattle.step_zco.proofs.AppendLemmas.{lost_again}
use Rattle.zco_bond.specs.Bonded.{BondedCapsule, bonded_sources, joined, whole_of}
use Rattle.step_zco_parts.proofs.RowLemmas.{append_by, bonded_by, bonded_row, written_by}
use Rattle.step_zco_parts.proofs.ThingsLemmas.{Come, all_first, all_lost, come_lost, written}
use Rattle.step_zco_parts.proofs.TiesLemmas.{others_alike, tied}

-- the row leaves a world of these things
pub bonded_world : (v : World) (addr : ℕ) (z : ZcoObject) (at : ℕ → ℕ) →
    with_object (with_bonded v at 0 (capsules_of z)) addr (bonded at z)
    ≡ record v { things = finite.insert (with_all v.things at 0 (capsules_of z)) addr (things.Object (bonded at z)) }
bonded_world v addr z at =
    let cs = capsules_of z in
    ap (λ (u : World). with_object u addr (bonded at z)) (bonded_rest v at 0 cs)
    ∙ ap (λ (m : Things). record v { things = finite.insert m addr (things.Object (bonded at z)) }) (with_all_is v at 0 cs)

-- what the headers and what the trailers have become
abbrev pub heads_by : (ℕ → ℕ) → ZcoObject → List BondedCapsule
heads_by at z = bonded_by at 0 z.headers

abbrev pub tails_by : (ℕ → ℕ) → ZcoObject → List BondedCapsule
tails_by at z = bonded_by at (3 * length z.headers) z.trailers

pub both_by : (at : ℕ → ℕ) (z : ZcoObject) → bonded_by at 0 (capsules_of z) ≡ heads_by at z ++ tails_by at z
both_by at z =
    append_by at 0 z.headers z.trailers ∙ ap (λ (i : ℕ). heads_by at z ++ bonded_by at i z.trailers) (omega arith)

module _ (w : World) (addr : ℕ) (z : ZcoObject) (at : ℕ → ℕ) (there : thing_at w addr ≡ Some (things.Object z)) (fits : FitTogether w)
    (come : Come w.things at 0 (capsules_of z)) where
  abbrev cs : List Capsule
  cs = capsules_of z

  abbrev m : Things
  m = finite.insert (with_all w.things at 0 cs) addr (things.Object (bonded at z))

  abbrev g : ℕ → Thing → Entries
  g = thing_entries (ties_of (record w { things = m }))

  abbrev left : Things
  left = finite.remove w.things addr

  abbrev pub rest : Entries
  rest = section (thing_entries (ties_of w)) (finite.remove w.things addr)

  -- the blocks of the object, and of the raw objects and sources
  abbrev pub bonded_part : Entries
  bonded_part =
      object_entries addr (whole_of (object_row z) (joined (heads_by at z) (map extent_row z.extents) (tails_by at z)))
      ++ bonded_sources z.account (heads_by at z ++ tails_by at z)

  sources_same : written g at 0 cs ≡ bonded_sources z.account (heads_by at z ++ tails_by at z)
  sources_same =
      written_by (ties_of (record w { things = m })) z.account at 0 cs (tied w addr z at there fits come)
      ∙ ap (bonded_sources z.account) (both_by at z)

  -- stand in front of all others
  pub bonded_first : StandAlike (section (thing_entries (ties_of (record w { things = m }))) m) (bonded_part ++ rest)
  bonded_first =
      let own = g addr (things.Object (bonded at z)) in
      let all = with_all w.things at 0 cs in
      let lost : finite.remove m addr ≡ with_all left at 0 cs =
      lost_again all addr (things.Object (bonded at z)) ∙ all_lost at w.things 0 cs come addr (things.Object z) there in
      let first : StandAlike (section g m) (own ++ section g (with_all left at 0 cs)) =
      subst (λ (n : Things). StandAlike (section g m) (own ++ section g n)) lost
      (one_first g m addr (things.Object (bonded at z)) (here_at all addr (Some (things.Object (bonded at z))))) in
      let second : StandAlike (section g m) (own ++ (written g at 0 cs ++ section g left)) =
      alike_then first
      (alike_behind own (all_first g left at 0 cs (come_lost at w.things 0 cs come addr (things.Object z) there))) in
      subst (λ (es : Entries). StandAlike (section g m) es)
      ((λ i. object_entries addr (bonded_row at z i) ++ (sources_same i ++ others_alike w addr z at there fits come i))
      ∙ sym (append_assoc
      (object_entries addr (whole_of (object_row z) (joined (heads_by at z) (map extent_row z.extents) (tails_by at z))))
      (bonded_sources z.account (heads_by at z ++ tails_by at z)) rest)) second
