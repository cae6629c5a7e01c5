-- The headers or trailers of a chain are given back.
use Rattle.std.proofs.Common.{◌≡◌, ◌≢◌, ◌+◌, ◌≤◌, ℕ, List, [], ◌∷◌, length, map, refl, sym, ap, ◌∙◌, arith, subst}
use Rattle.std.proofs.lemmas.List.{length-map}
use Rattle.std.proofs.lemmas.List.Elements.{All-head, All-tail}
use Rattle.std.proofs.lemmas.List.Sums.{sum_by_push}
use Rattle.sdr_base.specs.Blocks.{Blocks, Reaches}
use Rattle.sdr_base.specs.Entries.{BlocksAre}
use Rattle.sdr_base.specs.Linked.{first_of}
use Rattle.sdr_base.specs.Making.{besides}
use Rattle.sdr_base.specs.Objects.{Heap, OnlyUnmoved, with_given}
use Rattle.sdr_base.specs.ZcoObjects.{CapsuleRow, capsule_addr, capsule_block}
use Rattle.sdr_base.specs.declared.refusal.Refusal.TheVariants.{LogFull}
use Rattle.sdr_base.specs.declared.stop.Stop.{Stop}
use Rattle.sdr_base.specs.declared.stop.Stop.TheVariants.{Refused, DiskFault, MediaFault, Failed}
use Rattle.sdr_base.proofs.HeapLemmas.{given_blocks}
use Rattle.sdr_base.proofs.StandingLemmas.{went}
use Rattle.sdr_base.proofs.WritingLemmas.{reaches_less}
use Rattle.sdr_model.specs.Charges.{capsule_bytes}
use Rattle.zco_obj.specs.Giving.{CapsuleGiveStops, GivesCapsules, SomeCapsulesToGive, capsules_charge}
use Rattle.zco_obj.specs.Kept.{CapsuleFits}
use Rattle.zco_obj.specs.Walks.{CapsulesAt, KeepsCapsule, SeesCapsule, SomeCapsule}
use Rattle.zco_obj.specs.declared.seeing.SeenCapsule.{SeenCapsule}
use Rattle.zco_obj.proofs.ChainGoneLemmas.{Leaving, PartLeft, over_made, over_stands, over_told, part_at, part_begun, part_below, part_first, part_fits, part_found, part_many, part_none, part_on, part_room, part_some, passed_most}
use Rattle.zco_obj.proofs.KeptLemmas.{first_capsule}
use Rattle.zco_obj.proofs.WalkLemmas.{HasFirst, capsule_reaches}
use Rattle.zco_ref.proofs.GoneLemmas.{unmoved}

-- headers or trailers that go alone
abbrev pub leaving_capsules : Leaving CapsuleRow ℕ
leaving_capsules = record {
  addr = capsule_addr;
  block = capsule_block;
  beside = λ passed. [];
  blocks = map capsule_addr;
  told = capsules_charge;
}

-- so many first ones of whichever are a chain there are gone
pub record CapsulesLeft (first : ℕ) (old now : Heap) (cursor i charged : ℕ) : Type 0 where
  pub left : (rows : List CapsuleRow) (c : CapsulesAt old.blocks first rows) →
      PartLeft CapsuleFits leaving_capsules old now rows c.rest cursor i charged

pub capsules_begun : (first : ℕ) (old : Heap) → CapsulesLeft first old old first 0 0
capsules_begun first old = record {
  left = λ rows c. part_begun CapsuleFits leaving_capsules old rows c.rest first 0 refl c.stands c.at_first c.fits;
}

module _ {first : ℕ} {old now : Heap} {cursor i charged : ℕ} (l : CapsulesLeft first old now cursor i charged) where
  module _ (nz : cursor ≢ 0) {rows : List CapsuleRow} (c : CapsulesAt old.blocks first rows) where
    abbrev pub one_left : HasFirst (l.left rows c).left
    one_left = part_first CapsuleFits leaving_capsules (l.left rows c) nz

    -- the next one is there
    pub capsule_kept : KeepsCapsule (now.blocks cursor) (first_of capsule_addr 0 one_left.behind) one_left.one
    capsule_kept =
        let a = part_fits CapsuleFits leaving_capsules (l.left rows c) one_left in
        record {
          block = part_found CapsuleFits leaving_capsules (l.left rows c) one_left;
          fits = All-head CapsuleFits one_left.one one_left.behind a;
          small = first_capsule one_left.behind (All-tail CapsuleFits one_left.one one_left.behind a);
        }

    -- with it so many are there
    pub capsule_below : i + 1 ≤ length rows
    capsule_below = let b = part_below CapsuleFits leaving_capsules (l.left rows c) one_left in omega (arith, b)

  pub capsule_there : cursor ≢ 0 → SomeCapsulesToGive old first → SomeCapsule (now.blocks cursor)
  capsule_there nz q = record { next = _; capsule = _; keeps = capsule_kept nz q.is }

  pub capsule_used : cursor ≢ 0 → SomeCapsulesToGive old first → Reaches (now.blocks cursor) 0
  capsule_used nz q = reaches_less (now.blocks cursor) 8 0 (capsule_reaches (capsule_kept nz q.is)) (omega arith)

  pub capsule_room : cursor ≢ 0 → SomeCapsulesToGive old first → 1 ≤ now.spare
  capsule_room nz q =
      let h = one_left nz q.is in
      let m = length-map q.rows capsule_addr in
      let r = q.room in
      part_room CapsuleFits leaving_capsules (l.left q.rows q.is) h (h.one.addr ∷ []) refl (omega (arith, m, r))

  -- it was given back
  pub capsules_on : {new : Heap} (seen : SeenCapsule) → cursor ≢ 0 → SeesCapsule (now.blocks cursor) seen → new ≡ with_given now cursor →
      CapsulesLeft first old new seen.next (i + 1) (charged + capsule_bytes seen.bytes)
  capsules_on {new} seen nz v g = record {
    left = λ rows c.
        let p = l.left rows c in
        let h = one_left nz c in
        let k = capsule_kept nz c in
        let at = part_at CapsuleFits leaving_capsules p h in
        let given : new ≡ with_given now h.one.addr = g ∙ ap (λ (a : ℕ). with_given now a) at in
        part_on CapsuleFits leaving_capsules p h seen.next (h.one.addr ∷ []) (charged + capsule_bytes seen.bytes)
        (v.next (first_of capsule_addr 0 h.behind) h.one k) refl
        (λ r s. subst (λ (b : Blocks). BlocksAre b r) (sym (given_blocks h.one.addr now new given))
        (went now.blocks h.one.addr _ [] r s)) (record { all = ap besides given })
        (let e = p.is in
        let b = ap capsule_bytes (v.bytes (first_of capsule_addr 0 h.behind) h.one k) in
        let s = sum_by_push (λ (x : CapsuleRow). capsule_bytes (length x.text)) p.passed h.one in omega (arith, e, b, s));
  }

  -- or it wasn't
  pub capsule_stops : (new : Heap) (stop : Stop) → cursor ≢ 0 → OnlyUnmoved now new stop → CapsuleGiveStops first old new stop
  capsule_stops new (Refused (LogFull lines room)) nz u = record {
    gives = λ rows c.
        let h = one_left nz c in
        part_some CapsuleFits leaving_capsules (l.left rows c) h (h.one.addr ∷ []) refl (unmoved (h.one.addr ∷ []) u.moves u.spare);
  }
  capsule_stops new (Refused refusal) nz u = absurd u
  capsule_stops new DiskFault nz u = u
  capsule_stops new MediaFault nz u = absurd u
  capsule_stops new Failed nz u = u

  gives_where : ((rows : List CapsuleRow) (c : CapsulesAt old.blocks first rows) → (l.left rows c).left ≡ []) →
      GivesCapsules first old now charged
  gives_where none = record {
    gives = λ rows c. record {
      stands = over_stands CapsuleFits leaving_capsules (l.left rows c) (none rows c);
      made = over_made CapsuleFits leaving_capsules (l.left rows c) (none rows c) refl;
      charge = over_told CapsuleFits leaving_capsules (l.left rows c) (none rows c);
    };
  }

  -- all are gone
  pub capsules_all : cursor ≡ 0 → GivesCapsules first old now charged
  capsules_all z = gives_where (λ rows c. part_none CapsuleFits leaving_capsules (l.left rows c) z)

  pub capsules_many : i ≡ 4194304 → GivesCapsules first old now charged
  capsules_many all = gives_where (λ rows c. part_many CapsuleFits leaving_capsules (l.left rows c) 4194304 all c.few)

  pub capsules_most : {rows : List CapsuleRow} → CapsulesAt old.blocks first rows → i ≤ length rows
  capsules_most {rows} c = passed_most CapsuleFits leaving_capsules (l.left rows c)
