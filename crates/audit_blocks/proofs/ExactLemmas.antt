-- A region that passes each check isn't wrong first by any.
use Rattle.std.proofs.Common.{◌≡◌, ◌≢◌, ◌≤◌, ◌+◌, ◌*◌, ℕ, List, [], ◌∷◌, ◌++◌, None, true, false, length, arith, ap, ◌∙◌, sym, subst, inl, inr}
use Rattle.std.specs.List.{All}
use Rattle.std.proofs.lemmas.Bool.{and_parts, both_ways, leb-true}
use Rattle.std.proofs.lemmas.List.Elements.{All-head, All-tail}
use Rattle.sdr_base.specs.Pools.{PoolBlock}
use Rattle.sdr_base.specs.Stored.{leader_words}
use Rattle.sdr_base.specs.declared.control.TheConstants.{HIGH, LOW, START}
use Rattle.audit_blocks.proofs.BitsLemmas.{large_same, small_same}
use Rattle.audit_blocks.proofs.SpacedLemmas.{none_some}
use Rattle.audit_blocks.specs.Content.{AllFilled, FirstUnfilled, is_filled}
use Rattle.audit_blocks.specs.Control.{control_word}
use Rattle.audit_blocks.specs.Free.{AllReached, FirstLost}
use Rattle.audit_blocks.specs.Region.{IsSound, IsSoundRegion, RegionIsWrongFirst}
use Rattle.audit_blocks.specs.Walk.{BlocksFollow, LargeFollow, SmallFollow, is_large_at, is_small_at, wrong_block}
use Rattle.audit_blocks.specs.declared.error.Check.{Check}
use Rattle.audit_blocks.specs.declared.error.Check.TheVariants as whys

-- where small blocks go on to the end, the next one is right
small_onward : (bytes : List ℕ) (before blocks : List PoolBlock) (from place : ℕ) → SmallFollow bytes from before place →
    SmallFollow bytes from blocks (control_word bytes LOW) → place ≢ control_word bytes LOW → is_small_at bytes place ≡ false → ⊥
small_onward bytes [] [] from place at end short wrong = short (sym at ∙ end)
small_onward bytes [] (y ∷ blocks) from place at (here, is, more) short wrong = both_ways _ wrong (ap (is_small_at bytes) (sym at) ∙ here)
small_onward bytes (x ∷ before) [] from place (here, is, more) end short wrong =
    let ends : from + 8 * (1 + leader_words from bytes) ≤ control_word bytes LOW = leb-true _ _ (and_parts _ _ here).1 in
    omega (arith, ends, end)
small_onward bytes (x ∷ before) (y ∷ blocks) from place (here, is, more) (here', is', more') short wrong =
    small_onward bytes before blocks (from + 8 * (1 + x.words)) place more
    (subst (λ (b : PoolBlock). SmallFollow bytes (from + 8 * (1 + b.words)) blocks (control_word bytes LOW)) (is' ∙ sym is) more') short wrong

large_onward : (bytes : List ℕ) (before blocks : List PoolBlock) (from place : ℕ) → LargeFollow bytes from before place →
    LargeFollow bytes from blocks (length bytes) → place ≢ length bytes → is_large_at bytes place ≡ false → ⊥
large_onward bytes [] [] from place at end short wrong = short (sym at ∙ end)
large_onward bytes [] (y ∷ blocks) from place at (here, is, more) short wrong = both_ways _ wrong (ap (is_large_at bytes) (sym at) ∙ here)
large_onward bytes (x ∷ before) [] from place (here, is, more) end short wrong =
    let ends : from + 8 * (4 + leader_words from bytes) ≤ length bytes = leb-true _ _ (and_parts _ _ (and_parts _ _ here).0).1 in
    omega (arith, ends, end)
large_onward bytes (x ∷ before) (y ∷ blocks) from place (here, is, more) (here', is', more') short wrong =
    large_onward bytes before blocks (from + 8 * (4 + x.words)) place more
    (subst (λ (b : PoolBlock). LargeFollow bytes (from + 8 * (4 + b.words)) blocks (length bytes)) (is' ∙ sym is) more') short wrong

-- what holds of all holds of one among them
all_at : (P : PoolBlock → Type 0) (before : List PoolBlock) (block : PoolBlock) (behind : List PoolBlock) → All P (before ++ block ∷ behind) → P block
all_at P [] block behind all = All-head P block behind all
all_at P (x ∷ before) block behind all = all_at P before block behind (All-tail P x (before ++ block ∷ behind) all)

-- none is lost among blocks that all are reached, and none unfilled among those that all are filled
none_lost : (Reached : PoolBlock → Type 0) (blocks : List PoolBlock) (addr : ℕ) → AllReached Reached blocks → FirstLost Reached blocks addr → ⊥
none_lost Reached blocks addr all f =
    f.lost (all_at (λ (b : PoolBlock). (b.used ≡ false) → Reached b) f.before f.block f.behind
    (subst (AllReached Reached) f.whole all) f.free)

none_unfilled : (bytes : List ℕ) (frame : ℕ) (blocks : List PoolBlock) (addr : ℕ) → AllFilled bytes frame blocks → FirstUnfilled bytes frame blocks addr → ⊥
none_unfilled bytes frame blocks addr all f =
    both_ways _ f.wrong (all_at (λ (b : PoolBlock). is_filled bytes frame b ≡ true) f.before f.block f.behind (subst (AllFilled bytes frame) f.whole all))

-- blocks that follow one another are those
same_blocks : (bytes : List ℕ) (P : List PoolBlock → List PoolBlock → Type 0) (small large small' large' : List PoolBlock) → BlocksFollow bytes small large →
    BlocksFollow bytes small' large' → P small large → P small' large'
same_blocks bytes P small large small' large' f f' holds =
    subst (λ (l : List PoolBlock). P small' l) (large_same bytes large large' (control_word bytes HIGH) (length bytes) f.above f'.above)
    (subst (λ (s : List PoolBlock). P s large) (small_same bytes small small' (control_word bytes START) (control_word bytes LOW) f.below f'.below) holds)

pub sound_or_wrong : (bytes : List ℕ) → IsSoundRegion bytes → (why : Check) (place : ℕ) →
    RegionIsWrongFirst bytes why place → ⊥
sound_or_wrong bytes r whys.Control place w = both_ways _ w.wrong (r.sound.control w.word w.below)
sound_or_wrong bytes r whys.Block place w = elim w.wrong [
  | inl small ↦
      small_onward bytes small.before r.small (control_word bytes START) place small.follow r.sound.blocks.follow.below small.short small.wrong
  | inr above ↦ elim above [
    | inl large ↦
        large_onward bytes large.before r.large (control_word bytes HIGH) place large.follow r.sound.blocks.follow.above large.short large.wrong
    | inr broken ↦
        none_some
        (same_blocks bytes (λ s l. wrong_block bytes s l ≡ None) r.small r.large broken.small broken.large r.sound.blocks.follow broken.follow r.sound.blocks.right)
        broken.wrong
  ]
]
sound_or_wrong bytes r whys.Bits place w =
    let s = same_blocks bytes (IsSound bytes) r.small r.large w.small w.large r.sound.blocks.follow w.blocks.follow r.sound in
    both_ways _ w.wrong.wrong (s.bits place w.wrong.inside)
sound_or_wrong bytes r whys.Free place w =
    let s = same_blocks bytes (IsSound bytes) r.small r.large w.small w.large r.sound.blocks.follow w.blocks.follow r.sound in
    elim w.wrong [
      | inl list ↦ list.wrong (s.free.lists list.word list.of_list)
      | inr lost ↦ elim lost.first [
        | inl small ↦ none_lost _ w.small place s.free.below small
        | inr large ↦ none_lost _ w.large place s.free.above large.1
      ]
    ]
sound_or_wrong bytes r whys.Content place w =
    let s = same_blocks bytes (IsSound bytes) r.small r.large w.small w.large r.sound.blocks.follow w.blocks.follow r.sound in
    elim w.wrong [
      | inl small ↦ none_unfilled bytes 8 w.small place s.content.below small
      | inr large ↦ none_unfilled bytes 16 w.large place s.content.above large.1
    ]
sound_or_wrong bytes r whys.Owner place w = w
sound_or_wrong bytes r whys.Count place w = w
sound_or_wrong bytes r whys.Queue place w = w
