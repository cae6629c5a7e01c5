-- A free block that leaves its list, in the bytes.
use Rattle.std.proofs.Common.{◌≡◌, ◌≢◌, ◌≤◌, ◌<◌, ◌⊎◌, inl, inr, ℕ, ◌+◌, ◌-◌, ◌*◌, ◌/◌, ◌^◌}
use Rattle.std.proofs.Common.{List, length, get_or, refl, sym, ap, ◌∙◌, arith, subst}
use Rattle.std.proofs.lemmas.Bool.{cases_eq}
use Rattle.sdr_base.specs.Pools.{Pools}
use Rattle.sdr_base.specs.LargePool.{order_of}
use Rattle.sdr_base.specs.KeptPools.{IsOutside}
use Rattle.sdr_base.specs.KeptLarge.{HoldsLarge, large_place}
use Rattle.sdr_base.specs.Stored.{number_at, with_number, leader_words, start_bit}
use Rattle.sdr_base.proofs.PartsLemmas.{sides}
use Rattle.sdr_base.proofs.StartBitsLemmas.{start_bit-same}
use Rattle.sdr_base.proofs.StoredLemmas.{number_at-with_number, get_or-with_number, length-with_number, number_at-same}
use Rattle.sdr_large.specs.Gap.{TilesAround, IsFree}
use Rattle.sdr_large.specs.Steps.{link_place, with_before, ReachesBack}
use Rattle.sdr_large.proofs.BackLemmas.{outside_of, link_place-first, link_place-other, length-with_before}
use Rattle.sdr_large.proofs.BackLemmas.{get_or-with_before, number_at-with_before}
use Rattle.sdr_large.proofs.ChangeLemmas.{MayChange, ChangesOnly}
use Rattle.sdr_large.proofs.LinksLemmas.{IsLinked, linked}
use Rattle.sdr_large.proofs.ListsLemmas.{order_of-le, free_entry}
use Rattle.sdr_large.proofs.PartedLemmas.{IsBeside}
use Rattle.sdr_large.proofs.PlacesLemmas.{IsApart, InOrder, in_order, at_block, free_of, unique, nonzero}
use Rattle.sdr_large.proofs.PlacesLemmas.{entered_free, next_next, next_back, back_back}

-- the block's neighbours in its list are linked with each other, and all other links stay
pub record IsRelinked (P : Pools) (from to words addr : ℕ) (x y : List ℕ) : Type 0 where
  pub changes : ChangesOnly P from to x y
  pub moved : number_at (link_place (order_of words) (number_at (addr + 8 * words) x)) y ≡ number_at (addr - 8) x
  pub back : (w : ℕ) → number_at (addr - 8) x ≢ 0 → IsFree P w (number_at (addr - 8) x) →
      number_at (number_at (addr - 8) x + 8 * w) y ≡ number_at (addr + 8 * words) x
  pub next_same : (w b : ℕ) → IsFree P w b → number_at (b - 8) x ≢ addr → number_at (b - 8) y ≡ number_at (b - 8) x
  pub back_same : (w b : ℕ) → IsFree P w b → number_at (b + 8 * w) x ≢ addr →
      number_at (b + 8 * w) y ≡ number_at (b + 8 * w) x
  pub front_same : (o : ℕ) → o ≤ 20 → number_at (large_place o) x ≢ addr →
      number_at (large_place o) y ≡ number_at (large_place o) x
  pub bits : (word : ℕ) → word < 8 * (P.start - 1024) → start_bit word y ≡ start_bit word x

module _ (P : Pools) (from to : ℕ) (x : List ℕ) (tiles : TilesAround P from to) (holds : HoldsLarge x P)
    (words addr : ℕ) (free : IsFree P words addr) where
  abbrev pub next : ℕ
  next = number_at (addr - 8) x

  abbrev pub before : ℕ
  before = number_at (addr + 8 * words) x

  abbrev pub place : ℕ
  place = link_place (order_of words) before

  order : InOrder P from to
  order = in_order P from to tiles

  block : IsBeside P.high P.end from to words addr P.large
  block = at_block P from to tiles words addr (free_of P from to tiles words addr free)

  pub links : IsLinked x P.large (order_of words) words addr
  links = linked x P.large (order_of words) (nonzero P from to tiles) (unique P from to tiles) words addr
      (large_place (order_of words)) 0 (P.large_lists (order_of words))
      (holds.lists (order_of words) (order_of-le words)) refl (λ none. absurd (none refl))
      (λ w b there. entered_free P from to tiles (order_of words) w b there)
      (omega (arith, free, free_entry P tiles.lists words addr))

  -- where a free block stands that the pool has
  at_free : (w b : ℕ) → IsFree P w b → IsBeside P.high P.end from to w b P.large
  at_free w b f = at_block P from to tiles w b (free_of P from to tiles w b f)

  -- the words of the next are read in its leader
  next_words : (some : next ≢ 0) → leader_words (next - 16) x ≡ (links.next some).words
  next_words some = holds.leaders (links.next some).words next
      (free_of P from to tiles (links.next some).words next (links.next some).free)

  pub next_fits : next ≢ 0 → ReachesBack next x
  next_fits some =
      let b = at_free (links.next some).words next (links.next some).free in
      record {
        short = omega (arith, holds.size, order.most);
        least = omega (arith, b.first);
        leader = omega (arith, b.last, holds.size);
        inside = omega (arith, b.last, holds.size, next_words some);
      }

  -- the word that links back from the next
  abbrev pub back_at : ℕ
  back_at = next + 8 * leader_words (next - 16) x

  next_small : next < 2 ^ 64
  next_small = elim (cases_eq next 0) [
    | inl none ↦ omega (arith, none)
    | inr some ↦ omega (
      arith,
      (at_free (links.next some).words next (links.next some).free).last,
      order.most,
    )
  ]

  before_small : before < 2 ^ 64
  before_small = elim (cases_eq before 0) [
    | inl none ↦ omega (arith, none)
    | inr some ↦ omega (
      arith,
      (at_free (links.before some).words before (links.before some).free).last,
      order.most,
    )
  ]

  -- the front of a list lies apart from each link
  front_apart : (o w b : ℕ) → o ≤ 20 → IsFree P w b → IsApart (large_place o) (b - 8)
  front_apart o w b le f =
      inl (omega (arith, le, (at_free w b f).first, order.control, order.small, order.order))

  flip : (p q : ℕ) → IsApart p q → IsApart q p
  flip p q (inl before) = inr before
  flip p q (inr behind) = inl behind

  place_in : place + 8 ≤ length x
  place_in = elim (cases_eq before 0) [
    | inl none ↦ omega (
      arith,
      link_place-first (order_of words) before none,
      order_of-le words,
      holds.size,
      order.control,
      order.small,
      order.order,
      order.first,
      order.gap,
      order.second,
    )
    | inr some ↦ omega (
      arith,
      link_place-other (order_of words) before some,
      (at_free (links.before some).words before (links.before some).free).first,
      (at_free (links.before some).words before (links.before some).free).last,
      holds.size,
    )
  ]

  -- the link to the next of another block lies apart from both words
  next_from_place : (w b : ℕ) → IsFree P w b → number_at (b - 8) x ≢ addr → IsApart (b - 8) place
  next_from_place w b f other = elim (cases_eq before 0) [
    | inl none ↦ subst (λ (p : ℕ). IsApart (b - 8) p) (sym (link_place-first (order_of words) before none))
        (flip (large_place (order_of words)) (b - 8) (front_apart (order_of words) w b (order_of-le words) f))
    | inr some ↦ subst (λ (p : ℕ). IsApart (b - 8) p) (sym (link_place-other (order_of words) before some))
        (next_next P from to tiles w b (links.before some).words before f (links.before some).free
        (λ same. other (ap (λ (a : ℕ). number_at (a - 8) x) (sym same)
        ∙ ap (λ (p : ℕ). number_at p x) (sym (link_place-other (order_of words) before some)) ∙ links.to_here)))
  ]

  next_from_back : (w b : ℕ) → IsFree P w b → next ≢ 0 → IsApart (b - 8) back_at
  next_from_back w b f some =
      subst (λ (n : ℕ). IsApart (b - 8) (next + 8 * n)) (sym (next_words some))
      (next_back P from to tiles w b (links.next some).words next f (links.next some).free)

  -- and so does the link back
  back_from_place : (w b : ℕ) → IsFree P w b → IsApart (b + 8 * w) place
  back_from_place w b f = elim (cases_eq before 0) [
    | inl none ↦ subst (λ (p : ℕ). IsApart (b + 8 * w) p) (sym (link_place-first (order_of words) before none))
        (inr (omega (
          arith,
          order_of-le words,
          (at_free w b f).first,
          order.control,
          order.small,
          order.order,
        )))
    | inr some ↦ subst (λ (p : ℕ). IsApart (b + 8 * w) p) (sym (link_place-other (order_of words) before some))
        (flip (before - 8) (b + 8 * w)
        (next_back P from to tiles (links.before some).words before w b (links.before some).free f))
  ]

  back_from_back : (w b : ℕ) → IsFree P w b → number_at (b + 8 * w) x ≢ addr → next ≢ 0 →
      IsApart (b + 8 * w) back_at
  back_from_back w b f other some =
      subst (λ (n : ℕ). IsApart (b + 8 * w) (next + 8 * n)) (sym (next_words some))
      (back_back P from to tiles w b (links.next some).words next f (links.next some).free
      (λ same. other (ap (λ (a : ℕ). number_at (a + 8 * w) x) (sym same)
      ∙ links.back w some (subst (λ (a : ℕ). IsFree P w a) (sym same) f))))

  -- the front of a list that isn't the link to the block
  front_from_place : (o : ℕ) → o ≤ 20 → number_at (large_place o) x ≢ addr → IsApart (large_place o) place
  front_from_place o le other = elim (cases_eq before 0) [
    | inl none ↦ subst (λ (p : ℕ). IsApart (large_place o) p) (sym (link_place-first (order_of words) before none))
        (sides_of o (λ same. other (ap (λ (k : ℕ). number_at (large_place k) x) same
        ∙ ap (λ (p : ℕ). number_at p x) (sym (link_place-first (order_of words) before none)) ∙ links.to_here)))
    | inr some ↦ subst (λ (p : ℕ). IsApart (large_place o) p) (sym (link_place-other (order_of words) before some))
        (front_apart o (links.before some).words before le (links.before some).free)
  ]
    where
      sides_of : (o : ℕ) → o ≢ order_of words → IsApart (large_place o) (large_place (order_of words))
      sides_of o differ = grind arith

  front_from_back : (o : ℕ) → o ≤ 20 → next ≢ 0 → IsApart (large_place o) back_at
  front_from_back o le some =
      inl (omega (
        arith,
        le,
        (at_free (links.next some).words next (links.next some).free).first,
        order.control,
        order.small,
        order.order,
      ))

  -- the bytes afterwards
  module _ (y : List ℕ) (is : y ≡ with_number place next (with_before next before x)) where
    was_in : place + 8 ≤ length (with_before next before x)
    was_in = omega (arith, place_in, length-with_before x next before next_fits)

    size : length y ≡ length x
    size = ap length is ∙ length-with_number place next (with_before next before x) was_in
        ∙ length-with_before x next before next_fits

    byte : (i : ℕ) → IsOutside place (place + 8) i → (next ≢ 0 → IsOutside back_at (back_at + 8) i) →
        get_or y i 0 ≡ get_or x i 0
    byte i out out_back =
        ap (λ (l : List ℕ). get_or l i 0) is
        ∙ get_or-with_number place next (with_before next before x) i was_in out
        ∙ get_or-with_before x next before next_fits i out_back

    word_same : (p : ℕ) → IsApart p place → (next ≢ 0 → IsApart p back_at) → number_at p y ≡ number_at p x
    word_same p apart apart_back = number_at-same p x y (λ i ge lt.
        byte i (outside_of p place i apart ge lt) (λ some. outside_of p back_at i (apart_back some) ge lt))

    moved : number_at place y ≡ next
    moved = ap (λ (l : List ℕ). number_at place l) is
        ∙ number_at-with_number place next (with_before next before x) was_in next_small

    back : (w : ℕ) → next ≢ 0 → IsFree P w next → number_at (next + 8 * w) y ≡ before
    back w some f =
        let same : next + 8 * w ≡ back_at = ap (λ (n : ℕ). next + 8 * n)
        (sym (holds.leaders w next (free_of P from to tiles w next f))) in
        ap (λ (p : ℕ). number_at p y) same
        ∙ number_at-same back_at (with_before next before x) y (λ i ge lt.
        ap (λ (l : List ℕ). get_or l i 0) is
        ∙ get_or-with_number place next (with_before next before x) i was_in
        (outside_of back_at place i (subst (λ (p : ℕ). IsApart p place) same (back_from_place w next f)) ge lt))
        ∙ number_at-with_before x next before next_fits some before_small

    changes : ChangesOnly P from to x y
    changes = record {
      size = size;
      bytes = λ i out none. byte i (out_place i none (sides place 8 i)) (λ some. out_back i some none (sides back_at 8 i));
    }
      where
        out_place : (i : ℕ) → (MayChange P from to i → ⊥) →
            ((i < place) ⊎ (place + 8 ≤ i)) ⊎ ((place ≤ i) × (i < place + 8)) → IsOutside place (place + 8) i
        out_place i never (inl out) = out
        out_place i never (inr within) = absurd (never (elim (cases_eq before 0) [
          | inl none ↦ inl (
            omega (arith, within.0, link_place-first (order_of words) before none),
            omega (arith, within.1, link_place-first (order_of words) before none, order_of-le words),
          )
          | inr some ↦ inr (inr (record {
            words = (links.before some).words;
            addr = before;
            free = (links.before some).free;
            at = inl (
              omega (arith, within.0, link_place-other (order_of words) before some),
              omega (
                arith,
                within.1,
                link_place-other (order_of words) before some,
                (at_free (links.before some).words before (links.before some).free).first,
              ),
            );
          }))
        ]))

        out_back : (i : ℕ) → next ≢ 0 → (MayChange P from to i → ⊥) →
            ((i < back_at) ⊎ (back_at + 8 ≤ i)) ⊎ ((back_at ≤ i) × (i < back_at + 8)) →
            IsOutside back_at (back_at + 8) i
        out_back i some never (inl out) = out
        out_back i some never (inr within) = absurd (never (inr (inr (record {
          words = (links.next some).words;
          addr = next;
          free = (links.next some).free;
          at = inr (omega (arith, within.0, next_words some), omega (arith, within.1, next_words some));
        }))))

    positive : addr ≢ 0
    positive = nonzero P from to tiles words addr free

    next_same : (w b : ℕ) → IsFree P w b → number_at (b - 8) x ≢ addr → number_at (b - 8) y ≡ number_at (b - 8) x
    next_same w b f other = word_same (b - 8) (next_from_place w b f other) (next_from_back w b f)

    back_same : (w b : ℕ) → IsFree P w b → number_at (b + 8 * w) x ≢ addr →
        number_at (b + 8 * w) y ≡ number_at (b + 8 * w) x
    back_same w b f other = word_same (b + 8 * w) (back_from_place w b f) (back_from_back w b f other)

    front_same : (o : ℕ) → o ≤ 20 → number_at (large_place o) x ≢ addr →
        number_at (large_place o) y ≡ number_at (large_place o) x
    front_same o le other = word_same (large_place o) (front_from_place o le other) (front_from_back o le)

    bit_same : (word : ℕ) → word < 8 * (P.start - 1024) → start_bit word y ≡ start_bit word x
    bit_same word within = start_bit-same word x y
        (byte (1024 + word / 8) (beside (cases_eq before 0)) (λ some. inl (omega (
          arith,
          within,
          (at_free (links.next some).words next (links.next some).free).first,
          order.small,
          order.order,
        ))))
      where
        beside : (before ≡ 0) ⊎ (before ≢ 0) → IsOutside place (place + 8) (1024 + word / 8)
        beside (inl none) = inr (omega (arith, link_place-first (order_of words) before none, order_of-le words))
        beside (inr some) = inl (omega (
          arith,
          within,
          link_place-other (order_of words) before some,
          (at_free (links.before some).words before (links.before some).free).first,
          order.small,
          order.order,
        ))

    pub relinked : IsRelinked P from to words addr x y
    relinked = record {
      changes = changes;
      moved = moved;
      back = back;
      next_same = next_same;
      back_same = back_same;
      front_same = front_same;
      bits = bit_same;
    }
