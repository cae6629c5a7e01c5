-- A chain of extents is parted: those in a part are one chain, and those outside another.
use Rattle.std.proofs.Common.{◌≡◌, ◌≢◌, ◌∙◌, ◌+◌, ◌-◌, ◌≤◌, ◌<◌, ◌==◌, ℕ, List, [], ◌∷◌, ◌++◌, Bool, sym, ap, subst, arith, append_assoc}
use Rattle.std.proofs.lemmas.Bool.{eq-eqb, ne_eqb}
use Rattle.std.specs.Prelude.{if◌then◌else◌}
use Rattle.sdr_base.proofs.LinkedLemmas.{last_nonzero}
use Rattle.sdr_base.specs.Blocks.{Blocks, Reaches}
use Rattle.sdr_base.specs.Entries.{Changes, Entries, BlocksAre}
use Rattle.sdr_base.specs.Linked.{first_of, last_of, linked}
use Rattle.sdr_base.specs.Making.{besides}
use Rattle.sdr_base.specs.Objects.{Heap}
use Rattle.sdr_base.specs.ZcoObjects.{ExtentRow, extent_addr, extent_block, extent_entries}
use Rattle.zco_strip.proofs.ChainChanges.{changes_then, ended, in_two, split}
use Rattle.zco_strip.proofs.ChainLemmas.{chain_left, last_reaches, one_there}
use Rattle.zco_strip.proofs.CutLaws.{before_part, empty_part}
use Rattle.zco_strip.proofs.PartingLemmas.{Kept, end_there, kept_all}
use Rattle.zco_strip.proofs.PlaceLemmas.{Begins, Ends, begins, ends, length-both}
use Rattle.zco_strip.specs.Chain.{ChainOf, ChainParted, PartsChain, SomeChain}
use Rattle.zco_strip.specs.Cuts.{cut, cut_all, left_out}
use Rattle.zco_strip.specs.Finding.{FindsPlace}
use Rattle.zco_strip.specs.Linking.{LinksAfter}
use Rattle.zco_strip.specs.Parting.{CutsEnd, CutsTo}
use Rattle.zco_strip.specs.declared.finding.Place.{Place}
use Rattle.zco_strip.specs.declared.parting.End.{End}
use Rattle.zco_obj.specs.Kept.{extents_length}
use Rattle.zco_obj.specs.Walks.{ExtentsAt, SomeExtent, SomeExtents}

pub some_extents : {blocks : Blocks} {first bytes : ℕ} → SomeChain blocks first bytes → SomeExtents blocks first
some_extents q = record { rows = q.rows; is = q.is.chain }

-- an empty part: all are outside
pub parts_none : {old new : Heap} (first from to : ℕ) → from ≡ to → new ≡ old →
    PartsChain first from to old new (record { first = 0; last = 0; out = first })
unfolding linked
parts_none {old} {new} first from to e same = record {
  parts = λ rows c le.
      let law = empty_part to rows in
      let inside : cut_all from to rows ≡ [] = ap (λ n. cut_all n to rows) e ∙ law.0 in
      let out : left_out from to rows ≡ rows = ap (λ n. left_out n to rows) e ∙ law.1 in
      record {
        changes =
            subst (λ (l : List ExtentRow). Changes old.blocks new.blocks (extent_entries rows)
            (extent_entries l ++ extent_entries (left_out from to rows))) (sym inside)
            (subst (λ (l : List ExtentRow). Changes old.blocks new.blocks (extent_entries rows) (extent_entries l)) (sym out)
            (subst (λ (h : Heap). Changes old.blocks h.blocks (extent_entries rows) (extent_entries rows)) (sym same)
            (record { kept = λ rest s. s })));
        at_first = ap (first_of extent_addr 0) (sym inside);
        at_last = ap (last_of extent_addr 0) (sym inside);
        at_out = c.chain.at_first ∙ ap (first_of extent_addr 0) (sym out);
      };
  same = ap besides same;
}

-- the first one outside is that of the chain, or the one behind the part where none is before it
out_is : {b : Blocks} (before : List ExtentRow) (e : ExtentRow) (behind out : List ExtentRow) (first last next : ℕ) (rest : Entries) →
    BlocksAre b (extent_entries (before ++ (e ∷ behind)) ++ rest) → first ≡ first_of extent_addr 0 (before ++ (e ∷ behind)) →
    last ≡ last_of extent_addr 0 before → next ≡ first_of extent_addr 0 out →
    (if last == 0 then next else first) ≡ first_of extent_addr 0 (before ++ out)
out_is [] e behind out first last next rest s f l n = ap (λ (v : Bool). if v then next else first) (eq-eqb last 0 l) ∙ n
out_is {b} (x ∷ xs) e behind out first last next rest s f l n =
    let some : last ≢ 0 = λ z.
    last_nonzero extent_addr extent_block b [] (extent_entries (e ∷ behind) ++ rest) 0 e.addr x xs
    (subst (λ (es : Entries). BlocksAre b es)
    (ap (λ (es : Entries). es ++ rest) (in_two 0 (x ∷ xs) (e ∷ behind))
    ∙ append_assoc (linked extent_addr extent_block 0 e.addr (x ∷ xs)) (extent_entries (e ∷ behind)) rest) s) (sym l ∙ z) in
    ap (λ (v : Bool). if v then next else first) (ne_eqb last 0 some) ∙ f

-- a part with a byte: where it begins was found
module _ (old : Heap) {first from to : ℕ} {begin : Place} (lt : from < to) (f : FindsPlace old.blocks first from begin)
    {rows : List ExtentRow} (c : ChainOf old.blocks first rows) (le : to ≤ extents_length rows) where
  begun : Begins rows from begin
  begun = begins f c.chain (omega (arith, lt, le))

  chain : ChainOf old.blocks first (begun.before ++ (begun.one ∷ begun.behind))
  chain = subst (λ (l : List ExtentRow). ChainOf old.blocks first l) begun.whole c

  left_at : ExtentsAt old.blocks begin.extent (begun.one ∷ begun.behind)
  left_at = chain_left begun.before (begun.one ∷ begun.behind) begin.extent chain.chain begun.at_extent

  pub left_there : SomeExtents old.blocks begin.extent
  left_there = record { rows = begun.one ∷ begun.behind; is = left_at }

  pub first_there : SomeExtent (old.blocks begin.extent)
  first_there =
      subst (λ n. SomeExtent (old.blocks n)) (sym begun.at_extent) (one_there old begun.before begun.one begun.behind chain)

  pub within_from : begin.inside ≤ from
  within_from = let s = begun.sum in omega (arith, s)

  -- so many bytes behind the begin of that extent the part ends
  abbrev bytes : ℕ
  bytes = begin.inside + (to - from)

  -- the first extent in it
  abbrev k : ExtentRow
  k = cut begin.inside bytes begun.one

  -- and where it ends
  module _ {place : Place} (g : FindsPlace old.blocks begin.extent (begin.inside + (to - from)) place) where
    ended_at : Ends begun.one begun.behind bytes place
    ended_at =
        ends g left_at
        (let whole = ap extents_length begun.whole in
        let both = length-both begun.before (begun.one ∷ begun.behind) in
        let s = begun.sum in omega (arith, whole, both, s, lt, le))

    module _ {mid : Heap} (cuts : CutsTo begin.extent begin.inside bytes old mid) where
      cuts_first : CutsTo begun.one.addr begin.inside bytes old mid
      cuts_first = subst (λ n. CutsTo n begin.inside bytes old mid) begun.at_extent cuts

      pub last_there : place.inside ≢ 0 → SomeExtent (mid.blocks place.extent)
      last_there nz =
          end_there begun.before begun.one begin.inside bytes begun.within (omega (arith, lt)) place cuts_first chain ended_at nz

      module _ (now : Heap) (end : End) (e : CutsEnd place mid now end) where
        kept : Kept old now begun.before begun.one begun.behind begin.inside bytes end
        kept =
            kept_all begun.before begun.one begin.inside bytes begun.within (omega (arith, lt)) place cuts_first chain ended_at e

        kept_stands : BlocksAre now.blocks (extent_entries (begun.before ++ ((k ∷ kept.more) ++ kept.out)) ++ chain.chain.rest)
        kept_stands = kept.changes.kept chain.chain.rest chain.chain.stands

        -- the last one in the part is there
        pub end_reaches : end.last ≢ 0 → Reaches (now.blocks end.last) 32
        end_reaches nz =
            let next = first_of extent_addr 0 kept.out in
            let A = linked extent_addr extent_block 0 k.addr begun.before in
            let B = linked extent_addr extent_block 0 next (k ∷ kept.more) in
            let C = extent_entries kept.out in
            let R = chain.chain.rest in
            let line : extent_entries (begun.before ++ ((k ∷ kept.more) ++ kept.out)) ++ R ≡ A ++ (B ++ (C ++ R)) =
            ap (λ (es : Entries). es ++ R)
            (in_two 0 begun.before ((k ∷ kept.more) ++ kept.out) ∙ ap (λ (es : Entries). A ++ es) (in_two 0 (k ∷ kept.more) kept.out))
            ∙ append_assoc A (B ++ C) R ∙ ap (λ (es : Entries). A ++ es) (append_assoc B C R) in
            subst (λ n. Reaches (now.blocks n) 32) (sym kept.at_last)
            (last_reaches A (C ++ R) next (k ∷ kept.more) (subst (λ (es : Entries). BlocksAre now.blocks es) line kept_stands)
            (λ z. nz (kept.at_last ∙ z)))

        module _ {linked_once : Heap} (l : LinksAfter end.last 0 now linked_once) where
          link_in : LinksAfter (last_of extent_addr 0 (k ∷ kept.more)) 0 now linked_once
          link_in = subst (λ n. LinksAfter n 0 now linked_once) kept.at_last l

          -- and the last one before it is there still
          pub begin_reaches : begin.last ≢ 0 → Reaches (linked_once.blocks begin.last) 32
          begin_reaches nz =
              let A = linked extent_addr extent_block 0 k.addr begun.before in
              let B = linked extent_addr extent_block 0 0 (k ∷ kept.more) in
              let C = extent_entries kept.out in
              let R = chain.chain.rest in
              subst (λ n. Reaches (linked_once.blocks n) 32) (sym begun.at_last)
              (last_reaches [] ((B ++ C) ++ R) k.addr begun.before
              (subst (λ (es : Entries). BlocksAre linked_once.blocks es) (append_assoc A (B ++ C) R)
              ((ended begun.before k kept.more kept.out link_in).kept R kept_stands)) (λ z. nz (begun.at_last ∙ z)))

          -- it is parted
          pub parted : {new : Heap} (out : ℕ) → LinksAfter begin.last end.next linked_once new →
              out ≡ (if begin.last == 0 then end.next else first) →
              ChainParted from to rows old new (record { first = begin.extent; last = end.last; out = out })
          parted {new} out m out_at =
              let s = begun.sum in
              let law = before_part from to begun.before (begun.one ∷ begun.behind) (omega (arith, s)) in
              let a : from - extents_length begun.before ≡ begin.inside = omega (arith, s) in
              let t : to - extents_length begun.before ≡ bytes = omega (arith, s, lt) in
              let inside : cut_all from to rows ≡ k ∷ kept.more =
              ap (cut_all from to) begun.whole ∙ law.0 ∙ (λ i. cut_all (a i) (t i) (begun.one ∷ begun.behind)) ∙ kept.inside in
              let outside : left_out from to rows ≡ begun.before ++ kept.out =
              ap (left_out from to) begun.whole ∙ law.1
              ∙ ap (λ (l : List ExtentRow). begun.before ++ l)
              ((λ i. left_out (a i) (t i) (begun.one ∷ begun.behind)) ∙ kept.outside) in
              let second : LinksAfter (last_of extent_addr 0 begun.before) (first_of extent_addr 0 kept.out) linked_once new =
              subst (λ n. LinksAfter n (first_of extent_addr 0 kept.out) linked_once new) begun.at_last
              (subst (λ n. LinksAfter begin.last n linked_once new) kept.at_next m) in
              let change : Changes old.blocks new.blocks (extent_entries (begun.before ++ (begun.one ∷ begun.behind)))
              (extent_entries (k ∷ kept.more) ++ extent_entries (begun.before ++ kept.out)) =
              changes_then kept.changes (split begun.before k kept.more kept.out link_in second) in
              record {
                changes =
                    subst (λ (l : List ExtentRow). Changes old.blocks new.blocks (extent_entries l)
                    (extent_entries (cut_all from to rows) ++ extent_entries (left_out from to rows))) (sym begun.whole)
                    (subst (λ (l : List ExtentRow). Changes old.blocks new.blocks
                    (extent_entries (begun.before ++ (begun.one ∷ begun.behind))) (extent_entries l ++ extent_entries (left_out from to rows)))
                    (sym inside)
                    (subst (λ (l : List ExtentRow). Changes old.blocks new.blocks
                    (extent_entries (begun.before ++ (begun.one ∷ begun.behind))) (extent_entries (k ∷ kept.more) ++ extent_entries l))
                    (sym outside) change));
                at_first = begun.at_extent ∙ ap (first_of extent_addr 0) (sym inside);
                at_last = kept.at_last ∙ ap (last_of extent_addr 0) (sym inside);
                at_out =
                    out_at
                    ∙ out_is begun.before begun.one begun.behind kept.out first begin.last end.next chain.chain.rest
                    chain.chain.stands chain.chain.at_first begun.at_last kept.at_next
                    ∙ ap (first_of extent_addr 0) (sym outside);
              }
