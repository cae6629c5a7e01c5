-- A chain of extents, of which one is cut, and which is linked into two.
use Rattle.std.proofs.Common.{◌≡◌, ◌∙◌, ℕ, List, [], ◌∷◌, ◌++◌, refl, sym, ap, subst, append_assoc}
use Rattle.sdr_base.proofs.LinkedLemmas.{linked-append}
use Rattle.sdr_base.proofs.StandingLemmas.{moved, stands_swapped, swaps_before}
use Rattle.sdr_base.specs.Blocks.{Blocks}
use Rattle.sdr_base.specs.Entries.{Changes, Entries, BlocksAre, Swaps}
use Rattle.sdr_base.specs.Linked.{first_of, last_of, linked}
use Rattle.sdr_base.specs.Objects.{Heap}
use Rattle.sdr_base.specs.ZcoObjects.{ExtentRow, extent_addr, extent_block, extent_entries}
use Rattle.zco_strip.specs.Cuts.{cut}
use Rattle.zco_strip.specs.Linking.{LinksAfter}

pub changes_then : {a b c : Blocks} {es fs gs : Entries} → Changes a b es fs → Changes b c fs gs → Changes a c es gs
changes_then first second = record { kept = λ rest s. second.kept rest (first.kept rest s) }

-- a change of a part is one of the whole
pub changes_swapped : {b b' : Blocks} {es es' part part' : Entries} → Swaps es es' part part' → Changes b b' part part' →
    Changes b b' es es'
changes_swapped swap c = record { kept = λ rest s. stands_swapped s (swaps_before rest swap) c }

-- the block of an extent doesn't say what is before it
pub any_previous : (previous next : ℕ) (rows : List ExtentRow) →
    linked extent_addr extent_block previous next rows ≡ linked extent_addr extent_block 0 next rows
unfolding linked
any_previous previous next [] = refl
any_previous previous next (x ∷ xs) = refl

-- a chain in two pieces
pub in_two : (next : ℕ) (xs ys : List ExtentRow) → linked extent_addr extent_block 0 next (xs ++ ys)
    ≡ linked extent_addr extent_block 0 (first_of extent_addr next ys) xs ++ linked extent_addr extent_block 0 next ys
in_two next xs ys =
    linked-append extent_addr extent_block 0 next xs ys
    ∙ ap (λ (es : Entries). linked extent_addr extent_block 0 (first_of extent_addr next ys) xs ++ es)
    (any_previous (last_of extent_addr 0 xs) next ys)

-- one extent of a chain
one_of : (from to : ℕ) (before : List ExtentRow) (e : ExtentRow) (behind : List ExtentRow) →
    Swaps (extent_entries (before ++ (e ∷ behind))) (extent_entries (before ++ (cut from to e ∷ behind)))
    ((e.addr, extent_block 0 (first_of extent_addr 0 behind) e) ∷ [])
    ((e.addr, extent_block 0 (first_of extent_addr 0 behind) (cut from to e)) ∷ [])
unfolding linked
one_of from to before e behind = record {
  before = linked extent_addr extent_block 0 e.addr before;
  behind = linked extent_addr extent_block e.addr 0 behind;
  was = in_two 0 before (e ∷ behind);
  is = in_two 0 before (cut from to e ∷ behind);
}

-- is cut
pub one_cut : {b b' : Blocks} (from to : ℕ) (before : List ExtentRow) (e : ExtentRow) (behind : List ExtentRow) →
    Changes b b' ((e.addr, extent_block 0 (first_of extent_addr 0 behind) e) ∷ [])
    ((e.addr, extent_block 0 (first_of extent_addr 0 behind) (cut from to e)) ∷ []) →
    Changes b b' (extent_entries (before ++ (e ∷ behind))) (extent_entries (before ++ (cut from to e ∷ behind)))
one_cut from to before e behind c = changes_swapped (one_of from to before e behind) c

-- those between others become a chain of their own
module _ (before : List ExtentRow) (k : ExtentRow) (ks behind : List ExtentRow) where
  abbrev kept : List ExtentRow
  kept = k ∷ ks

  abbrev front : ℕ → Entries
  front next = linked extent_addr extent_block 0 next before

  abbrev middle : ℕ → Entries
  middle next = linked extent_addr extent_block 0 next kept

  in_three : extent_entries (before ++ (kept ++ behind))
      ≡ front k.addr ++ (middle (first_of extent_addr 0 behind) ++ extent_entries behind)
  in_three =
      in_two 0 before (kept ++ behind)
      ∙ ap (λ (es : Entries). front k.addr ++ es) (in_two 0 kept behind)

  -- the last of them is linked anew
  pub ended : {old mid : Heap} → LinksAfter (last_of extent_addr 0 kept) 0 old mid →
      Changes old.blocks mid.blocks (extent_entries (before ++ (kept ++ behind)))
      (front k.addr ++ (middle 0 ++ extent_entries behind))
  ended {old} {mid} l =
      subst (λ (es : Entries). Changes old.blocks mid.blocks es (front k.addr ++ (middle 0 ++ extent_entries behind))) (sym in_three)
      (changes_swapped (record { before = front k.addr; behind = extent_entries behind; was = refl; is = refl })
      (l.links kept (first_of extent_addr 0 behind) refl))

  -- and then the last one before them
  pub split : {old mid new : Heap} → LinksAfter (last_of extent_addr 0 kept) 0 old mid →
      LinksAfter (last_of extent_addr 0 before) (first_of extent_addr 0 behind) mid new →
      Changes old.blocks new.blocks (extent_entries (before ++ (kept ++ behind)))
      (extent_entries kept ++ extent_entries (before ++ behind))
  split {old} {mid} {new} l m =
      let next = first_of extent_addr 0 behind in
      let two : Changes mid.blocks new.blocks (front k.addr ++ (middle 0 ++ extent_entries behind))
      (front next ++ (middle 0 ++ extent_entries behind)) =
      changes_swapped (record { before = []; behind = middle 0 ++ extent_entries behind; was = refl; is = refl })
      (m.links before k.addr refl) in
      let three : Changes new.blocks new.blocks (front next ++ (middle 0 ++ extent_entries behind))
      (middle 0 ++ (front next ++ extent_entries behind)) =
      record {
        kept = λ rest s.
            let line : (xs ys : Entries) → (xs ++ (ys ++ extent_entries behind)) ++ rest ≡ xs ++ (ys ++ (extent_entries behind ++ rest)) =
            λ xs ys. append_assoc xs (ys ++ extent_entries behind) rest
            ∙ ap (λ (es : Entries). xs ++ es) (append_assoc ys (extent_entries behind) rest) in
            subst (λ (es : Entries). BlocksAre new.blocks es) (sym (line (middle 0) (front next)))
            (moved (front next) (middle 0) (extent_entries behind ++ rest)
            (subst (λ (es : Entries). BlocksAre new.blocks es) (line (front next) (middle 0)) s));
      } in
      subst (λ (es : Entries). Changes old.blocks new.blocks (extent_entries (before ++ (kept ++ behind))) (middle 0 ++ es))
      (sym (in_two 0 before behind)) (changes_then (ended l) (changes_then two three))
