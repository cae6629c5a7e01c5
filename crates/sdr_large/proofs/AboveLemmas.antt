-- The way over the lists above an order.
use Rattle.std.proofs.Common.{◌≡◌, ◌≢◌, ◌≤◌, ◌<◌, ℕ, suc, ◌+◌, ◌-◌}
use Rattle.std.proofs.Common.{List, [], ◌∷◌, length, refl, sym, ap, ◌∙◌, arith}
use Rattle.std.specs.Prelude.{Some, None}
use Rattle.std.specs.List.{count_by}
use Rattle.sdr_base.specs.Pools.{Pools}
use Rattle.sdr_base.specs.LargePool.{front_from, front_or}
use Rattle.sdr_base.specs.KeptLarge.{KeepsLarge, KeepsSomeLarge, Links, is_entry, large_place}
use Rattle.sdr_base.specs.Stored.{number_at, leader_words}
use Rattle.sdr_large.specs.declared.block.Block.{Block}
use Rattle.sdr_large.specs.Gap.{IsFree}
use Rattle.sdr_large.specs.Steps.{named, FindsAbove, HasLeader}
use Rattle.sdr_large.proofs.LinksLemmas.{first_entry}
use Rattle.sdr_large.proofs.PlacesLemmas.{at_block, free_of, nonzero, entered_free}
use Rattle.sdr_large.proofs.WalkLemmas.{tiles_whole}

-- the lists above an order are empty up to another, so that the rule finds what it finds from there
pub record IsAbove (order higher : ℕ) (bytes : List ℕ) : Type 0 where
  pub last : higher ≤ 21
  pub rule : (P : Pools) → KeepsLarge bytes P →
      front_from P.large_lists (order + 1) (20 - order) ≡ front_from P.large_lists higher (21 - higher)

-- one list more of those that are left
front_from-more : (P : Pools) (higher : ℕ) → higher ≤ 20 →
    front_from P.large_lists higher (21 - higher)
    ≡ front_or (P.large_lists higher) (front_from P.large_lists (higher + 1) (21 - (higher + 1)))
unfolding front_from
front_from-more P higher le =
    ap (λ (n : ℕ). front_from P.large_lists higher n) (left higher le)
    ∙ ap (λ (n : ℕ). front_or (P.large_lists higher) (front_from P.large_lists (higher + 1) n)) (omega arith)
  where
    left : (higher : ℕ) → higher ≤ 20 → 21 - higher ≡ suc (20 - higher)
    left higher le = omega (arith, le)

module _ (order : ℕ) (x : List ℕ) where
  pub above_start : order ≤ 20 → IsAbove order (order + 1) x
  above_start le = record {
    last = omega (arith, le);
    rule = λ P keeps. ap (λ (n : ℕ). front_from P.large_lists (order + 1) n) (omega arith);
  }

  -- no list is left
  pub above_none : (higher : ℕ) → IsAbove order higher x → 21 ≤ higher → FindsAbove order None x
  unfolding front_from
  above_none higher above past = record {
    rule = λ P keeps. sym (above.rule P keeps ∙ ap (λ (n : ℕ). front_from P.large_lists higher n) none);
  }
    where
      none : 21 - higher ≡ 0
      none = omega (arith, past)

  -- an empty list is passed
  pub above_next : (higher addr : ℕ) → IsAbove order higher x → higher ≤ 20 → addr ≡ number_at (large_place higher) x →
      addr ≡ 0 → IsAbove order (higher + 1) x
  unfolding Links
  above_next higher addr above le at none = record {
    last = omega (arith, le);
    rule = λ P keeps. above.rule P keeps ∙ front_from-more P higher le
        ∙ cases P keeps (P.large_lists higher) (keeps.holds.lists higher le)
        (λ w b there. entered_free P P.end P.end (tiles_whole P keeps.tiles) higher w b there);
  }
    where
      cases : (P : Pools) → KeepsLarge x P → (l : List (ℕ × ℕ)) → Links x (large_place higher) 0 l →
          ((w b : ℕ) → 0 < count_by (is_entry w b) l → IsFree P w b) →
          front_or l (front_from P.large_lists (higher + 1) (21 - (higher + 1)))
          ≡ front_from P.large_lists (higher + 1) (21 - (higher + 1))
      cases P keeps [] links free = refl
      cases P keeps (e ∷ l) links free =
          absurd (nonzero P P.end P.end (tiles_whole P keeps.tiles) e.1 e.0 (free e.1 e.0 (first_entry e l))
          (sym links.0 ∙ sym at ∙ none))

  -- the front of one that isn't empty is found
  pub above_found : (higher addr : ℕ) (block : Block) → IsAbove order higher x → higher ≤ 20 →
      addr ≡ number_at (large_place higher) x → addr ≢ 0 → HasLeader block addr x → FindsAbove order (Some block) x
  unfolding Links
  above_found higher addr block above le at some leader = record {
    rule = λ P keeps. sym (above.rule P keeps ∙ front_from-more P higher le
        ∙ cases P keeps (P.large_lists higher) (keeps.holds.lists higher le)
        (λ w b there. entered_free P P.end P.end (tiles_whole P keeps.tiles) higher w b there));
  }
    where
      cases : (P : Pools) → KeepsLarge x P → (l : List (ℕ × ℕ)) → Links x (large_place higher) 0 l →
          ((w b : ℕ) → 0 < count_by (is_entry w b) l → IsFree P w b) →
          front_or l (front_from P.large_lists (higher + 1) (21 - (higher + 1))) ≡ named (Some block)
      cases P keeps [] links free = absurd (some (at ∙ links))
      cases P keeps (e ∷ l) links free =
          let at_e : block.addr ≡ e.0 = leader.addr_is ∙ at ∙ links.0 in
          let is : block.words ≡ e.1 =
          leader.words_are ∙ ap (λ (a : ℕ). leader_words (a - 16) x) (at ∙ links.0)
          ∙ keeps.holds.leaders e.1 e.0 (free_of P P.end P.end (tiles_whole P keeps.tiles) e.1 e.0
          (free e.1 e.0 (first_entry e l))) in
          sym (ap (λ (n : ℕ). Some (n, block.words)) at_e ∙ ap (λ (n : ℕ). Some (e.0, n)) is)

  -- a front that was read stands within the region
  pub above_fits : (higher addr : ℕ) → KeepsSomeLarge x → higher ≤ 20 → addr ≡ number_at (large_place higher) x →
      addr ≢ 0 → (16 ≤ addr) × (addr ≤ length x)
  unfolding Links
  above_fits higher addr k le at some =
      cases (k.pools.large_lists higher) (k.keeps.holds.lists higher le)
      (λ w b there. entered_free k.pools k.pools.end k.pools.end (tiles_whole k.pools k.keeps.tiles) higher w b there)
    where
      cases : (l : List (ℕ × ℕ)) → Links x (large_place higher) 0 l →
          ((w b : ℕ) → 0 < count_by (is_entry w b) l → IsFree k.pools w b) → (16 ≤ addr) × (addr ≤ length x)
      cases [] links free = absurd (some (at ∙ links))
      cases (e ∷ l) links free =
          let t = tiles_whole k.pools k.keeps.tiles in
          let b = at_block k.pools k.pools.end k.pools.end t e.1 e.0
          (free_of k.pools k.pools.end k.pools.end t e.1 e.0 (free e.1 e.0 (first_entry e l))) in
          (omega (arith, at, links.0, b.first), omega (arith, at, links.0, b.last, k.keeps.holds.size))
