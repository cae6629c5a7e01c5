-- A header or trailer comes between two others, or goes from there.
use Rattle.std.proofs.Common.{◌≡◌, ◌≢◌, ◌+◌, ◌-◌, ℕ, List, [], ◌∷◌, ◌++◌, length, None, refl, sym, ap, ◌∙◌, arith, subst, append_assoc}
use Rattle.std.specs.Prelude.{◌==◌, if◌then◌else◌}
use Rattle.std.proofs.lemmas.Bool.{ne_eqb}
use Rattle.sdr_base.specs.Blocks.{Blocks, Reaches, with_block}
use Rattle.sdr_base.specs.Entries.{Entries, BlocksAre}
use Rattle.sdr_base.specs.Linked.{first_of, last_of, linked}
use Rattle.sdr_base.specs.Making.{Made, besides, with_moves}
use Rattle.sdr_base.specs.Objects.{Heap, with_given}
use Rattle.sdr_base.specs.Parts.{overwrite}
use Rattle.sdr_base.specs.Words.{layout}
use Rattle.sdr_base.specs.ZcoObjects.{CapsuleRow, ObjectRow, capsule_addr, capsule_block, object_entries}
use Rattle.sdr_base.specs.declared.kind.Kind.TheVariants as kinds
use Rattle.sdr_base.specs.declared.moves.Move.TheVariants.{Gave, Took}
use Rattle.sdr_base.proofs.ChainLemmas.{linked-around}
use Rattle.sdr_base.proofs.HeapLemmas.{given_blocks}
use Rattle.sdr_base.proofs.LayoutLemmas.{layout-append, length-layout}
use Rattle.sdr_base.proofs.LinkedLemmas.{first-append, last-append, linked-append}
use Rattle.sdr_base.proofs.StandingLemmas.{came, found, nonzero, went}
use Rattle.sdr_base.proofs.WritingLemmas.{reaches}
use Rattle.zco_ref.proofs.MadeLemmas.{filled}
use Rattle.zco_obj.specs.Chains.{InsertsCapsule, IsGap, IsSpot, LinksLast, LinksNext, RemovesCapsule, SomeGap, SomeSpot, TakesCapsule, capsules, ends_block, ends_words, threaded, with_capsules}
use Rattle.zco_obj.specs.declared.linking.Side.{Side}
use Rattle.zco_obj.specs.declared.linking.Side.TheVariants as sides
use Rattle.zco_obj.proofs.ChainLemmas.{any_previous, around, closed, focused, last_reaches, opened}

-- a chain of headers or trailers
abbrev chain : ℕ → ℕ → List CapsuleRow → Entries
chain prev next rows = linked capsule_addr capsule_block prev next rows

-- the ends' block of an object has its words
pub ends_reach : {blocks : Blocks} (side : Side) (object : ℕ) (row : ObjectRow) (first last : ℕ) (rest : Entries) →
    BlocksAre blocks ((object, ends_block side row first last) ∷ rest) → Reaches (blocks object) 72
ends_reach {blocks} sides.Headers object row first last rest s =
    reaches (blocks object) kinds.Object (ends_words sides.Headers row first last) [] 72
    (found blocks object (ends_block sides.Headers row first last) [] rest s) (omega arith)
ends_reach {blocks} sides.Trailers object row first last rest s =
    reaches (blocks object) kinds.Object (ends_words sides.Trailers row first last) [] 72
    (found blocks object (ends_block sides.Trailers row first last) [] rest s) (omega arith)

-- what stands behind a gap, and behind the one at a spot
abbrev behind_gap : Side → ObjectRow → ℕ → ℕ → List ℕ → List CapsuleRow → List CapsuleRow → Entries → Entries
behind_gap side row addr next text before behind rest =
    (addr, capsule_block 0 next (record { addr = addr; text = text })) ∷ (chain (last_of capsule_addr 0 before) 0 behind ++ (around side row ++ rest))

-- an object opened at a gap
cut : {blocks : Blocks} (side : Side) (object : ℕ) (row : ObjectRow) (next : ℕ) (before behind : List CapsuleRow) (rest : Entries) →
    next ≡ first_of capsule_addr 0 behind → capsules side row ≡ before ++ behind → BlocksAre blocks (object_entries object row ++ rest) →
    BlocksAre blocks (((object, ends_block side row (first_of capsule_addr next before) (last_of capsule_addr 0 (before ++ behind)))
    ∷ chain 0 next before) ++ (chain (last_of capsule_addr 0 before) 0 behind ++ (around side row ++ rest)))
cut {blocks} side object row next before behind rest n w s =
    let R = around side row ++ rest in
    let L = last_of capsule_addr 0 (before ++ behind) in
    let B = chain (last_of capsule_addr 0 before) 0 behind in
    let one : BlocksAre blocks (focused side object row (before ++ behind) rest) =
    subst (λ (rows : List CapsuleRow). BlocksAre blocks (focused side object row rows rest)) w (opened side object row rest s) in
    let two : BlocksAre blocks ((object, ends_block side row (first_of capsule_addr 0 (before ++ behind)) L)
    ∷ (chain 0 (first_of capsule_addr 0 behind) before ++ (B ++ R))) =
    subst (λ (es : Entries). BlocksAre blocks ((object, ends_block side row (first_of capsule_addr 0 (before ++ behind)) L) ∷ es))
    (ap (λ (es : Entries). es ++ R) (linked-append capsule_addr capsule_block 0 0 before behind)
    ∙ append_assoc (chain 0 (first_of capsule_addr 0 behind) before) B R) one in
    let three : BlocksAre blocks ((object, ends_block side row (first_of capsule_addr (first_of capsule_addr 0 behind) before) L)
    ∷ (chain 0 (first_of capsule_addr 0 behind) before ++ (B ++ R))) =
    subst (λ (f : ℕ). BlocksAre blocks ((object, ends_block side row f L) ∷ (chain 0 (first_of capsule_addr 0 behind) before ++ (B ++ R))))
    (first-append capsule_addr capsule_block 0 before behind) two in
    subst (λ (f : ℕ). BlocksAre blocks ((object, ends_block side row (first_of capsule_addr f before) L) ∷ (chain 0 f before ++ (B ++ R))))
    (sym n) three

-- a chain joined around one
joined : (addr next : ℕ) (text : List ℕ) (before behind : List CapsuleRow) (rest : Entries) → next ≡ first_of capsule_addr 0 behind →
    chain 0 addr before
    ++ ((addr, capsule_block 0 next (record { addr = addr; text = text })) ∷ (chain (last_of capsule_addr 0 before) 0 behind ++ rest))
    ≡ chain 0 0 (before ++ (record { addr = addr; text = text } ∷ behind)) ++ rest
joined addr next text before behind rest n =
    let c : CapsuleRow = record { addr = addr; text = text } in
    let A = chain 0 addr before in
    ap (λ (m : ℕ). A ++ ((addr, capsule_block 0 m c) ∷ (chain (last_of capsule_addr 0 before) 0 behind ++ rest))) n
    ∙ ap (λ (es : Entries). A ++ ((addr, capsule_block 0 (first_of capsule_addr 0 behind) c) ∷ (es ++ rest)))
    (any_previous (last_of capsule_addr 0 before) addr 0 behind)
    ∙ sym (append_assoc A ((addr, capsule_block 0 (first_of capsule_addr 0 behind) c) ∷ chain addr 0 behind) rest)
    ∙ ap (λ (es : Entries). es ++ rest) (sym (linked-around capsule_addr capsule_block 0 0 before c behind))

-- the last one, once another came
last_after : (next addr : ℕ) (text : List ℕ) (before behind : List CapsuleRow) → (next ≡ 0 → behind ≡ []) →
    next ≡ first_of capsule_addr 0 behind →
    (if next == 0 then addr else last_of capsule_addr 0 (before ++ behind))
    ≡ last_of capsule_addr 0 (before ++ (record { addr = addr; text = text } ∷ behind))
last_after next addr text before [] z n =
    ap (λ (m : ℕ). if m == 0 then addr else last_of capsule_addr 0 (before ++ [])) n
    ∙ sym (last-append capsule_addr capsule_block 0 before (record { addr = addr; text = text } ∷ []))
last_after next addr text before (x ∷ xs) z n =
    let nz : next ≢ 0 = λ e. let d : x ∷ xs ≡ [] = z e in cc in
    ap (λ v. if v then addr else last_of capsule_addr 0 (before ++ (x ∷ xs))) (ne_eqb next 0 nz)
    ∙ last-append capsule_addr capsule_block 0 before (x ∷ xs)
    ∙ sym (last-append capsule_addr capsule_block 0 before (record { addr = addr; text = text } ∷ x ∷ xs))

-- the last one, once one went
last_without : (next prev : ℕ) (c : CapsuleRow) (before behind : List CapsuleRow) → (next ≡ 0 → behind ≡ []) →
    next ≡ first_of capsule_addr 0 behind → prev ≡ last_of capsule_addr 0 before →
    (if next == 0 then prev else last_of capsule_addr 0 (before ++ (c ∷ behind))) ≡ last_of capsule_addr 0 (before ++ behind)
last_without next prev c before [] z n p =
    ap (λ (m : ℕ). if m == 0 then prev else last_of capsule_addr 0 (before ++ (c ∷ []))) n
    ∙ p ∙ sym (last-append capsule_addr capsule_block 0 before [])
last_without next prev c before (x ∷ xs) z n p =
    let nz : next ≢ 0 = λ e. let d : x ∷ xs ≡ [] = z e in cc in
    ap (λ v. if v then prev else last_of capsule_addr 0 (before ++ (c ∷ x ∷ xs))) (ne_eqb next 0 nz)
    ∙ last-append capsule_addr capsule_block 0 before (c ∷ x ∷ xs)
    ∙ sym (last-append capsule_addr capsule_block 0 before (x ∷ xs))

-- what stands behind isn't at 0
none_behind : {blocks : Blocks} (next : ℕ) (before : Entries) (prev : ℕ) (behind : List CapsuleRow) (rest : Entries) →
    BlocksAre blocks (before ++ (chain prev 0 behind ++ rest)) → next ≡ first_of capsule_addr 0 behind → next ≡ 0 → behind ≡ []
unfolding linked
none_behind next before prev [] rest s n z = refl
none_behind {blocks} next before prev (x ∷ xs) rest s n z =
    absurd (nonzero blocks x.addr (capsule_block prev (first_of capsule_addr 0 xs) x) before (chain x.addr 0 xs ++ rest) s (sym n ∙ z))

-- the block's need
pub took_capsule : {next addr : ℕ} {text : List ℕ} {old mid : Heap} → TakesCapsule next text old mid addr →
    Made (Took (8 + length text) addr ∷ []) old mid
took_capsule {next} {addr} {text} {old} t = record {
  all =
      ap besides t.takes.taken
      ∙ ap (λ n. besides (with_moves old (Took n addr ∷ []))) (length-layout (next ∷ []) text);
}

module _ {side : Side} {object prev next addr : ℕ} {text : List ℕ} {old mid : Heap} (t : TakesCapsule next text old mid addr) where
  -- the object opened at the gap, with the block in it
  opened_at : (row : ObjectRow) (before behind : List CapsuleRow) (rest : Entries) → IsGap side row prev next before behind →
      BlocksAre old.blocks (object_entries object row ++ rest) →
      BlocksAre mid.blocks (threaded side object row (first_of capsule_addr next before) (last_of capsule_addr 0 (before ++ behind)) next before
      ++ behind_gap side row addr next text before behind rest)
  opened_at row before behind rest g s =
      subst (λ (b : Blocks). BlocksAre b (threaded side object row (first_of capsule_addr next before)
      (last_of capsule_addr 0 (before ++ behind)) next before ++ behind_gap side row addr next text before behind rest))
      (sym (ap (λ (h : Heap). h.blocks) t.takes.taken))
      (came old.blocks addr (capsule_block 0 next (record { addr = addr; text = text }))
      (threaded side object row (first_of capsule_addr next before) (last_of capsule_addr 0 (before ++ behind)) next before)
      (chain (last_of capsule_addr 0 before) 0 behind ++ (around side row ++ rest)) t.takes.nonzero t.takes.fresh
      (cut side object row next before behind rest g.at_next g.whole s))

  module _ (q : SomeGap side old.blocks object prev next) where
    pub gap_reaches : Reaches (mid.blocks object) 72
    gap_reaches = ends_reach side object q.row _ _ _ (opened_at q.row q.before q.behind q.keeps.rest q.gap q.keeps.stands)

    pub previous_reaches : prev ≢ 0 → Reaches (mid.blocks prev) 8
    previous_reaches n =
        last_reaches side object q.row _ _ prev next q.before _ (opened_at q.row q.before q.behind q.keeps.rest q.gap q.keeps.stands)
        q.gap.at_previous n

  module _ {lk : Heap} (l : LinksNext side object prev addr mid lk) where
    linked_at : (row : ObjectRow) (before behind : List CapsuleRow) (rest : Entries) → IsGap side row prev next before behind →
        BlocksAre old.blocks (object_entries object row ++ rest) →
        BlocksAre lk.blocks (threaded side object row (first_of capsule_addr addr before) (last_of capsule_addr 0 (before ++ behind)) addr before
        ++ behind_gap side row addr next text before behind rest)
    linked_at row before behind rest g s =
        (l.links row (last_of capsule_addr 0 (before ++ behind)) next before g.at_previous).kept
        (behind_gap side row addr next text before behind rest) (opened_at row before behind rest g s)

    pub still_reaches : SomeGap side old.blocks object prev next → Reaches (lk.blocks object) 72
    still_reaches q = ends_reach side object q.row _ _ _ (linked_at q.row q.before q.behind q.keeps.rest q.gap q.keeps.stands)

    module _ {new : Heap} (e : LinksLast side object next addr lk new) where
      stands_of : (row : ObjectRow) (before behind : List CapsuleRow) (rest : Entries) → IsGap side row prev next before behind →
          BlocksAre old.blocks (object_entries object row ++ rest) →
          BlocksAre new.blocks
          (object_entries object (with_capsules side (before ++ (record { addr = addr; text = text } ∷ behind)) row) ++ rest)
      stands_of row before behind rest g s =
          let c : CapsuleRow = record { addr = addr; text = text } in
          let L = last_of capsule_addr 0 (before ++ behind) in
          let R = around side row ++ rest in
          let none = none_behind next (threaded side object row (first_of capsule_addr next before) L next before
          ++ ((addr, capsule_block 0 next c) ∷ [])) (last_of capsule_addr 0 before) behind R
          (subst (λ (es : Entries). BlocksAre mid.blocks es)
          (sym (append_assoc (threaded side object row (first_of capsule_addr next before) L next before)
          ((addr, capsule_block 0 next c) ∷ []) (chain (last_of capsule_addr 0 before) 0 behind ++ R)))
          (opened_at row before behind rest g s)) g.at_next in
          let one : BlocksAre new.blocks ((object, ends_block side row (first_of capsule_addr addr before) (if next == 0 then addr else L))
          ∷ (chain 0 addr before ++ behind_gap side row addr next text before behind rest)) =
          (e.links row (first_of capsule_addr addr before) L).kept
          (chain 0 addr before ++ behind_gap side row addr next text before behind rest) (linked_at row before behind rest g s) in
          let two : BlocksAre new.blocks ((object, ends_block side row (first_of capsule_addr addr before) (if next == 0 then addr else L))
          ∷ (chain 0 0 (before ++ (c ∷ behind)) ++ R)) =
          subst (λ (es : Entries). BlocksAre new.blocks
          ((object, ends_block side row (first_of capsule_addr addr before) (if next == 0 then addr else L)) ∷ es))
          (joined addr next text before behind R g.at_next) one in
          let three : BlocksAre new.blocks ((
            object,
            ends_block side row (first_of capsule_addr addr before)
                (last_of capsule_addr 0 (before ++ (c ∷ behind))),
          ) ∷ (chain 0 0 (before ++ (c ∷ behind)) ++ R)) =
          subst (λ (n : ℕ). BlocksAre new.blocks
          ((object, ends_block side row (first_of capsule_addr addr before) n) ∷ (chain 0 0 (before ++ (c ∷ behind)) ++ R)))
          (last_after next addr text before behind none g.at_next) two in
          closed side object row (before ++ (c ∷ behind)) rest
          (subst (λ (n : ℕ). BlocksAre new.blocks ((object, ends_block side row n (last_of capsule_addr 0 (before ++ (c ∷ behind))))
          ∷ (chain 0 0 (before ++ (c ∷ behind)) ++ R)))
          (sym (first-append capsule_addr capsule_block 0 before (c ∷ behind))) three)

      -- it stands there
      pub inserts : InsertsCapsule side object prev next text old new addr
      inserts = record {
        new_block = record { nonzero = t.takes.nonzero; small = t.takes.small; free = t.takes.fresh };
        changes = λ row before behind g. record { kept = λ rest s. stands_of row before behind rest g s };
        made = record { all = e.same ∙ l.same ∙ (took_capsule t).all };
      }

-- what stands behind the one at a spot, with it
abbrev from_spot : Side → ObjectRow → List CapsuleRow → CapsuleRow → List CapsuleRow → Entries → Entries
from_spot side row before c behind rest =
    (c.addr, capsule_block 0 (first_of capsule_addr 0 behind) c) ∷ (chain c.addr 0 behind ++ (around side row ++ rest))

-- an object opened at a spot
at_spot : {blocks : Blocks} (side : Side) (object : ℕ) (row : ObjectRow) (before : List CapsuleRow) (c : CapsuleRow)
    (behind : List CapsuleRow) (rest : Entries) → capsules side row ≡ before ++ (c ∷ behind) →
    BlocksAre blocks (object_entries object row ++ rest) →
    BlocksAre blocks (threaded side object row (first_of capsule_addr c.addr before) (last_of capsule_addr 0 (before ++ (c ∷ behind)))
    c.addr before ++ from_spot side row before c behind rest)
at_spot {blocks} side object row before c behind rest w s =
    let R = around side row ++ rest in
    let L = last_of capsule_addr 0 (before ++ (c ∷ behind)) in
    let A = chain 0 c.addr before in
    let one : BlocksAre blocks (focused side object row (before ++ (c ∷ behind)) rest) =
    subst (λ (rows : List CapsuleRow). BlocksAre blocks (focused side object row rows rest)) w (opened side object row rest s) in
    let two : BlocksAre blocks ((object, ends_block side row (first_of capsule_addr 0 (before ++ (c ∷ behind))) L)
    ∷ (A ++ from_spot side row before c behind rest)) =
    subst (λ (es : Entries). BlocksAre blocks ((object, ends_block side row (first_of capsule_addr 0 (before ++ (c ∷ behind))) L) ∷ es))
    (ap (λ (es : Entries). es ++ R) (linked-around capsule_addr capsule_block 0 0 before c behind)
    ∙ append_assoc A ((c.addr, capsule_block 0 (first_of capsule_addr 0 behind) c) ∷ chain c.addr 0 behind) R) one in
    subst (λ (f : ℕ). BlocksAre blocks ((object, ends_block side row f L) ∷ (A ++ from_spot side row before c behind rest)))
    (first-append capsule_addr capsule_block 0 before (c ∷ behind)) two

-- a chain joined where one went
rejoined : (next : ℕ) (prev : ℕ) (before behind : List CapsuleRow) (rest : Entries) → next ≡ first_of capsule_addr 0 behind →
    chain 0 next before ++ (chain prev 0 behind ++ rest) ≡ chain 0 0 (before ++ behind) ++ rest
rejoined next prev before behind rest n =
    ap (λ (m : ℕ). chain 0 m before ++ (chain prev 0 behind ++ rest)) n
    ∙ ap (λ (es : Entries). chain 0 (first_of capsule_addr 0 behind) before ++ (es ++ rest))
    (any_previous prev (last_of capsule_addr 0 before) 0 behind)
    ∙ sym (append_assoc (chain 0 (first_of capsule_addr 0 behind) before) (chain (last_of capsule_addr 0 before) 0 behind) rest)
    ∙ ap (λ (es : Entries). es ++ rest) (sym (linked-append capsule_addr capsule_block 0 0 before behind))

module _ {side : Side} {object prev gone next : ℕ} {blocks : Blocks} (q : SomeSpot side blocks object prev gone next) where
  pub spot_reaches : Reaches (blocks object) 72
  spot_reaches =
      ends_reach side object q.row _ _ _
      (at_spot side object q.row q.before q.capsule q.behind q.keeps.rest q.spot.whole q.keeps.stands)

  pub before_reaches : prev ≢ 0 → Reaches (blocks prev) 8
  before_reaches n =
      last_reaches side object q.row _ _ prev _ q.before _
      (at_spot side object q.row q.before q.capsule q.behind q.keeps.rest q.spot.whole q.keeps.stands) q.spot.at_previous n

module _ {side : Side} {object prev next : ℕ} {old : Heap} where
  module _ {lk : Heap} (l : LinksNext side object prev next old lk) where
    past : (row : ObjectRow) (before : List CapsuleRow) (c : CapsuleRow) (behind : List CapsuleRow) (rest : Entries) →
        IsSpot side row prev next before c behind → BlocksAre old.blocks (object_entries object row ++ rest) →
        BlocksAre lk.blocks (threaded side object row (first_of capsule_addr next before) (last_of capsule_addr 0 (before ++ (c ∷ behind)))
        next before ++ from_spot side row before c behind rest)
    past row before c behind rest p s =
        (l.links row (last_of capsule_addr 0 (before ++ (c ∷ behind))) c.addr before p.at_previous).kept
        (from_spot side row before c behind rest) (at_spot side object row before c behind rest p.whole s)

    pub linked_reaches : {gone : ℕ} → SomeSpot side old.blocks object prev gone next → Reaches (lk.blocks object) 72
    linked_reaches q =
        ends_reach side object q.row _ _ _ (past q.row q.before q.capsule q.behind q.keeps.rest q.spot q.keeps.stands)

    module _ {last : Heap} (e : LinksLast side object next prev lk last) where
      unlinked : (row : ObjectRow) (before : List CapsuleRow) (c : CapsuleRow) (behind : List CapsuleRow) (rest : Entries) →
          IsSpot side row prev next before c behind → BlocksAre old.blocks (object_entries object row ++ rest) →
          BlocksAre last.blocks (threaded side object row (first_of capsule_addr next before)
          (if next == 0 then prev else last_of capsule_addr 0 (before ++ (c ∷ behind))) next before
          ++ from_spot side row before c behind rest)
      unlinked row before c behind rest p s =
          (e.links row (first_of capsule_addr next before) (last_of capsule_addr 0 (before ++ (c ∷ behind)))).kept
          (chain 0 next before ++ from_spot side row before c behind rest) (past row before c behind rest p s)

      pub gone_reaches : {gone : ℕ} → SomeSpot side old.blocks object prev gone next → Reaches (last.blocks gone) 0
      gone_reaches {gone} q =
          let c = q.capsule in
          subst (λ p. Reaches (last.blocks p) 0) (sym q.at_gone)
          (reaches (last.blocks c.addr) kinds.Capsule (first_of capsule_addr 0 q.behind ∷ []) c.text 0
          (found last.blocks c.addr (capsule_block 0 (first_of capsule_addr 0 q.behind) c)
          (threaded side object q.row (first_of capsule_addr next q.before)
          (if next == 0 then prev else last_of capsule_addr 0 (q.before ++ (c ∷ q.behind))) next q.before)
          (chain c.addr 0 q.behind ++ (around side q.row ++ q.keeps.rest))
          (unlinked q.row q.before c q.behind q.keeps.rest q.spot q.keeps.stands)) (omega arith))

      module _ {gone : ℕ} {new : Heap} (w : new ≡ with_given last gone) where
        left_of : (row : ObjectRow) (before : List CapsuleRow) (c : CapsuleRow) (behind : List CapsuleRow) (rest : Entries) →
            IsSpot side row prev next before c behind → gone ≡ c.addr → BlocksAre old.blocks (object_entries object row ++ rest) →
            BlocksAre new.blocks (object_entries object (with_capsules side (before ++ behind) row) ++ rest)
        left_of row before c behind rest p g s =
            let R = around side row ++ rest in
            let L = if next == 0 then prev else last_of capsule_addr 0 (before ++ (c ∷ behind)) in
            let F = threaded side object row (first_of capsule_addr next before) L next before in
            let at_end = unlinked row before c behind rest p s in
            let none = none_behind next (F ++ ((c.addr, capsule_block 0 (first_of capsule_addr 0 behind) c) ∷ [])) c.addr behind R
            (subst (λ (es : Entries). BlocksAre last.blocks es)
            (sym (append_assoc F ((c.addr, capsule_block 0 (first_of capsule_addr 0 behind) c) ∷ []) (chain c.addr 0 behind ++ R)))
            at_end) p.at_next in
            let one : BlocksAre (with_block last.blocks c.addr None) (F ++ (chain c.addr 0 behind ++ R)) =
            went last.blocks c.addr (capsule_block 0 (first_of capsule_addr 0 behind) c) F (chain c.addr 0 behind ++ R) at_end in
            let here : BlocksAre new.blocks (F ++ (chain c.addr 0 behind ++ R)) =
            subst (λ (b : Blocks). BlocksAre b (F ++ (chain c.addr 0 behind ++ R)))
            (sym (given_blocks gone last new w ∙ ap (λ p. with_block last.blocks p None) g)) one in
            let two : BlocksAre new.blocks ((object, ends_block side row (first_of capsule_addr next before) L)
            ∷ (chain 0 0 (before ++ behind) ++ R)) =
            subst (λ (es : Entries). BlocksAre new.blocks ((object, ends_block side row (first_of capsule_addr next before) L) ∷ es))
            (rejoined next c.addr before behind R p.at_next) here in
            let three : BlocksAre new.blocks ((
              object,
              ends_block side row (first_of capsule_addr next before)
                  (last_of capsule_addr 0 (before ++ behind)),
            ) ∷ (chain 0 0 (before ++ behind) ++ R)) =
            subst (λ (n : ℕ). BlocksAre new.blocks
            ((object, ends_block side row (first_of capsule_addr next before) n) ∷ (chain 0 0 (before ++ behind) ++ R)))
            (last_without next prev c before behind none p.at_next p.at_previous) two in
            closed side object row (before ++ behind) rest
            (subst (λ (n : ℕ). BlocksAre new.blocks ((object, ends_block side row n (last_of capsule_addr 0 (before ++ behind)))
            ∷ (chain 0 0 (before ++ behind) ++ R)))
            (ap (λ (m : ℕ). first_of capsule_addr m before) p.at_next ∙ sym (first-append capsule_addr capsule_block 0 before behind)) three)

        -- it has gone
        pub removes : RemovesCapsule side object prev gone next old new
        removes = record {
          changes = λ row before c behind p g. record { kept = λ rest s. left_of row before c behind rest p g s };
          made = record {
            all =
                ap besides w
                ∙ ap (λ (h : Heap). record h { moves = h.moves ++ Gave gone ∷ []; spare = h.spare - 1 }) (e.same ∙ l.same);
          };
        }

-- the link in front, and the text behind it
pub capsule_is : (next : ℕ) (text head x : List ℕ) → head ≡ layout (next ∷ []) [] → length x ≡ 8 + length text →
    overwrite 8 text (overwrite 0 head x) ≡ layout (next ∷ []) text
capsule_is next text head x e long =
    let l : length head ≡ 8 = ap length e ∙ length-layout (next ∷ []) [] in
    ap (λ (n : ℕ). overwrite n text (overwrite 0 head x)) (sym l)
    ∙ filled head text x (omega (arith, l, long))
    ∙ ap (λ (h : List ℕ). h ++ text) e
    ∙ layout-append (next ∷ []) text
