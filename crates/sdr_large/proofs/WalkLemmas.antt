-- The way along a list of free blocks, and over the lists above an order.
use Rattle.std.proofs.Common.{◌≡◌, ◌≢◌, ◌≤◌, ◌<◌, ◌⊎◌, inl, inr, ℕ, ◌+◌, ◌-◌, ◌*◌, ◌/◌, Bool, true, false, not, cond, ◌&&◌, ◌==◌}
use Rattle.std.proofs.Common.{List, [], ◌∷◌, length, refl, sym, ap, ◌∙◌, arith, append-nil}
use Rattle.std.specs.Prelude.{Some, None, filter}
use Rattle.std.specs.List.{count_by, find}
use Rattle.std.proofs.lemmas.Bool.{cases_Bool, cases_eq, le-leb, lt-leb, eqb-true, and_parts}
use Rattle.sdr_base.specs.Pools.{PoolBlock, Pools, is_of, is_free_of}
use Rattle.sdr_base.specs.LargePool.{has_words, order_of}
use Rattle.sdr_base.specs.KeptLarge.{FollowsLarge, TilesLarge, KeepsLarge, KeepsSomeLarge, Links, is_entry, large_place}
use Rattle.sdr_base.specs.Stored.{number_at, leader_words}
use Rattle.sdr_base.proofs.PoolsLemmas.{count_by-yes, count_by-no}
use Rattle.sdr_large.specs.declared.block.Block.{Block}
use Rattle.sdr_large.specs.Gap.{TilesAround, IsFree}
use Rattle.sdr_large.specs.Steps.{named, FindsIn, HasLeader}
use Rattle.sdr_large.proofs.BlocksLemmas.{filter_kept, filter_lost}
use Rattle.sdr_large.proofs.FollowsLemmas.{follows-le, follows-whole}
use Rattle.sdr_large.proofs.LinksLemmas.{first_entry, later_entry}
use Rattle.sdr_large.proofs.PlacesLemmas.{at_block, free_of, nonzero, entered_free, entered_once}

-- a pool without a gap has an empty one at its end
pub tiles_whole : (P : Pools) → TilesLarge P → TilesAround P P.end P.end
tiles_whole P tiles = record {
  bounds = tiles.bounds;
  least = tiles.least;
  whole = omega (
    arith,
    follows-whole P.high P.end P.large tiles.follow,
    follows-le P.high P.end P.large tiles.follow,
    tiles.bounds.region.whole,
  );
  parted = record {
    below = P.large;
    above = [];
    parts = sym (append-nil P.large);
    first = tiles.follow;
    gap = omega arith;
    second = refl;
  };
  lists = tiles.lists;
}

-- what a filter leaves out
length-filter_not : (p : ℕ × ℕ → Bool) (l : List (ℕ × ℕ)) →
    length l ≡ length (filter (λ e. not (p e)) l) + count_by p l
length-filter_not p [] = refl
length-filter_not p (e ∷ l) = elim (cases_Bool (p e)) [
  | inl passes ↦ omega (
    arith,
    length-filter_not p l,
    count_by-yes p e l passes,
    ap (λ (v : Bool). length (cond (not v) (e ∷ filter (λ d. not (p d)) l) (filter (λ d. not (p d)) l))) passes,
  )
  | inr fails ↦ omega (
    arith,
    length-filter_not p l,
    count_by-no p e l fails,
    ap (λ (v : Bool). length (cond (not v) (e ∷ filter (λ d. not (p d)) l) (filter (λ d. not (p d)) l))) fails,
  )
]

-- entries that each name another free block are no more than the blocks
few_entries : (bs : List PoolBlock) (l : List (ℕ × ℕ)) →
    ((w b : ℕ) → count_by (is_entry w b) l ≤ count_by (is_free_of w b) bs) →
    ((w b : ℕ) → count_by (is_entry w b) l ≤ 1) → length l ≤ length bs
few_entries [] [] le once = omega arith
few_entries [] (e ∷ l) le once = absurd (omega (arith, first_entry e l, le e.1 e.0))
few_entries (b ∷ bs) l le once =
    let rest = filter (λ e. not (is_entry b.words b.addr e)) l in
    omega (
      arith,
      length-filter_not (is_entry b.words b.addr) l,
      once b.words b.addr,
      few_entries bs rest (λ w a. fewer w a (cases_eq w b.words) (cases_eq a b.addr))
          (λ w a. still w a (cases_eq w b.words) (cases_eq a b.addr)),
    )
  where
    same_entry : (w a : ℕ) (e : ℕ × ℕ) → (w ≡ b.words → a ≡ b.addr → ⊥) →
        not (is_entry b.words b.addr e) ≡ false → is_entry w a e ≡ false
    same_entry w a e differ gone = go (cases_Bool (is_entry w a e))
      where
        go : (is_entry w a e ≡ true) ⊎ (is_entry w a e ≡ false) → is_entry w a e ≡ false
        go (inr other) = other
        go (inl is) =
            let own : is_entry b.words b.addr e ≡ true = not_false (is_entry b.words b.addr e) gone in
            let mine = and_parts (e.0 == a) (e.1 == w) is in
            let its = and_parts (e.0 == b.addr) (e.1 == b.words) own in
            absurd (differ (sym (eqb-true e.1 w mine.1) ∙ eqb-true e.1 b.words its.1)
            (sym (eqb-true e.0 a mine.0) ∙ eqb-true e.0 b.addr its.0))
          where
            not_false : (v : Bool) → not v ≡ false → v ≡ true
            not_false true is = refl
            not_false false is = sym is

    here : (e : ℕ × ℕ) → not (is_entry b.words b.addr e) ≡ true → is_entry b.words b.addr e ≡ false
    here e kept = not_true (is_entry b.words b.addr e) kept
      where
        not_true : (v : Bool) → not v ≡ true → v ≡ false
        not_true true is = sym is
        not_true false is = refl

    apart : (w a : ℕ) → (w ≡ b.words → a ≡ b.addr → ⊥) →
        (count_by (is_entry w a) (filter (λ e. not (is_entry b.words b.addr e)) l) ≡ count_by (is_entry w a) l)
        × (count_by (is_free_of w a) (b ∷ bs) ≡ count_by (is_free_of w a) bs)
    apart w a differ = (
      filter_kept (λ e. not (is_entry b.words b.addr e)) (is_entry w a) (λ e gone. same_entry w a e differ gone) l,
      count_by-no (is_free_of w a) b bs (other (cases_Bool (is_of w a b))),
    )
      where
        other : (is_of w a b ≡ true) ⊎ (is_of w a b ≡ false) → is_free_of w a b ≡ false
        other (inr no_it) = ap (λ (v : Bool). v && not b.used) no_it
        other (inl is) =
            let parts = and_parts (b.addr == a) (b.words == w) is in
            absurd (differ (sym (eqb-true b.words w parts.1)) (sym (eqb-true b.addr a parts.0)))

    gone : (w a : ℕ) → w ≡ b.words → a ≡ b.addr →
        count_by (is_entry w a) (filter (λ e. not (is_entry b.words b.addr e)) l) ≡ 0
    gone w a w_is a_is =
        ap (λ (n : ℕ). count_by (is_entry n a) (filter (λ e. not (is_entry b.words b.addr e)) l)) w_is
        ∙ ap (λ (n : ℕ). count_by (is_entry b.words n) (filter (λ e. not (is_entry b.words b.addr e)) l)) a_is
        ∙ filter_lost (λ e. not (is_entry b.words b.addr e)) (is_entry b.words b.addr) here l

    fewer : (w a : ℕ) → (w ≡ b.words) ⊎ (w ≢ b.words) → (a ≡ b.addr) ⊎ (a ≢ b.addr) →
        count_by (is_entry w a) (filter (λ e. not (is_entry b.words b.addr e)) l) ≤ count_by (is_free_of w a) bs
    fewer w a (inl w_is) (inl a_is) = omega (arith, gone w a w_is a_is)
    fewer w a (inl w_is) (inr differ) = let k = apart w a (λ u v. differ v) in omega (arith, k.0, k.1, le w a)
    fewer w a (inr differ) either = let k = apart w a (λ u v. differ u) in omega (arith, k.0, k.1, le w a)

    still : (w a : ℕ) → (w ≡ b.words) ⊎ (w ≢ b.words) → (a ≡ b.addr) ⊎ (a ≢ b.addr) →
        count_by (is_entry w a) (filter (λ e. not (is_entry b.words b.addr e)) l) ≤ 1
    still w a (inl w_is) (inl a_is) = omega (arith, gone w a w_is a_is)
    still w a (inl w_is) (inr differ) = let k = apart w a (λ u v. differ v) in omega (arith, k.0, once w a)
    still w a (inr differ) either = let k = apart w a (λ u v. differ u) in omega (arith, k.0, once w a)

-- each block takes 40 bytes or more
follows-long : (from to : ℕ) (bs : List PoolBlock) → FollowsLarge from bs to → 40 * length bs + from ≤ to
follows-long from to [] f = omega (arith, f)
follows-long from to (b ∷ bs) f = omega (arith, f.1, follows-long (from + 8 * (4 + b.words)) to bs f.2)

-- no list is longer than the region has room for
pub short_list : (x : List ℕ) (P : Pools) (order : ℕ) → KeepsLarge x P →
    length (P.large_lists order) ≤ length x / 40
short_list x P order keeps =
    let t = tiles_whole P keeps.tiles in
    omega (
      arith,
      follows-long P.high P.end P.large keeps.tiles.follow,
      keeps.holds.size,
      few_entries P.large (P.large_lists order) (λ w b. listed w b) (λ w b. entered_once P P.end P.end t order w b),
    )
  where
    listed : (w b : ℕ) → count_by (is_entry w b) (P.large_lists order) ≤ count_by (is_free_of w b) P.large
    listed w b = elim (cases_Bool (order == order_of w)) [
      | inl same ↦ omega (
        arith,
        keeps.tiles.lists.listed order w b
            ∙ ap (λ (v : Bool). cond v (count_by (is_free_of w b) P.large) 0) same,
      )
      | inr differ ↦ omega (
        arith,
        keeps.tiles.lists.listed order w b
            ∙ ap (λ (v : Bool). cond v (count_by (is_free_of w b) P.large) 0) differ,
      )
    ]

-- the way along a list has come to a block, or to its end at 0: the rule finds what it finds in the rest
pub record Walks (P : Pools) (order words addr seen : ℕ) (bytes : List ℕ) : Type 0 where
  pub rest : List (ℕ × ℕ)
  pub place : ℕ
  pub before : ℕ
  pub links : Links bytes place before rest
  pub at : addr ≡ number_at place bytes
  pub rule : find (has_words words) (P.large_lists order) ≡ find (has_words words) rest
  pub long : length (P.large_lists order) ≡ seen + length rest
  pub free : (w b : ℕ) → 0 < count_by (is_entry w b) rest → IsFree P w b

-- so it is for whatever pools the bytes keep
pub record IsWalk (order words addr seen : ℕ) (bytes : List ℕ) : Type 0 where
  pub walks : (P : Pools) → KeepsLarge bytes P → Walks P order words addr seen bytes

module _ (order words : ℕ) (x : List ℕ) where
  pub walk_start : (addr : ℕ) → order ≤ 20 → addr ≡ number_at (large_place order) x → IsWalk order words addr 0 x
  walk_start addr le at = record {
    walks = λ P keeps. record {
      rest = P.large_lists order;
      place = large_place order;
      before = 0;
      links = keeps.holds.lists order le;
      at = at;
      rule = refl;
      long = omega arith;
      free = λ w b there. entered_free P P.end P.end (tiles_whole P keeps.tiles) order w b there;
    };
  }

  -- at the end of the list no block was found
  pub walk_none : (addr seen : ℕ) → IsWalk order words addr seen x → addr ≡ 0 → FindsIn order words None x
  unfolding Links
  walk_none addr seen walk none = record {
    rule = λ P keeps. let w = walk.walks P keeps in cases P keeps w w.rest w.links w.free w.rule;
  }
    where
      cases : (P : Pools) → KeepsLarge x P → (w : Walks P order words addr seen x) → (rest : List (ℕ × ℕ)) →
          Links x w.place w.before rest → ((k b : ℕ) → 0 < count_by (is_entry k b) rest → IsFree P k b) →
          find (has_words words) (P.large_lists order) ≡ find (has_words words) rest →
          named None ≡ find (has_words words) (P.large_lists order)
      cases P keeps w [] links free rule = sym rule
      cases P keeps w (e ∷ l) links free rule =
          absurd (nonzero P P.end P.end (tiles_whole P keeps.tiles) e.1 e.0 (free e.1 e.0 (first_entry e l))
          (sym links.0 ∙ sym w.at ∙ none))

  -- after as many steps as the region has room for blocks none is left
  pub walk_end : (addr seen : ℕ) → IsWalk order words addr seen x → length x / 40 ≤ seen → FindsIn order words None x
  walk_end addr seen walk past = record {
    rule = λ P keeps. let w = walk.walks P keeps in
        cases P w.rest w.rule (omega (arith, w.long, short_list x P order keeps, past));
  }
    where
      cases : (P : Pools) (rest : List (ℕ × ℕ)) →
          find (has_words words) (P.large_lists order) ≡ find (has_words words) rest → length rest ≡ 0 →
          named None ≡ find (has_words words) (P.large_lists order)
      cases P [] rule none = sym rule
      cases P (e ∷ l) rule none = absurd (omega (arith, none))

  -- a block that has so many words is found
  pub walk_found : (addr seen : ℕ) (block : Block) → IsWalk order words addr seen x → addr ≢ 0 →
      HasLeader block addr x → words ≤ block.words → FindsIn order words (Some block) x
  unfolding Links
  walk_found addr seen block walk some leader fits = record {
    rule = λ P keeps. let w = walk.walks P keeps in cases P keeps w w.rest w.links w.free w.rule;
  }
    where
      cases : (P : Pools) → KeepsLarge x P → (w : Walks P order words addr seen x) → (rest : List (ℕ × ℕ)) →
          Links x w.place w.before rest → ((k b : ℕ) → 0 < count_by (is_entry k b) rest → IsFree P k b) →
          find (has_words words) (P.large_lists order) ≡ find (has_words words) rest →
          named (Some block) ≡ find (has_words words) (P.large_lists order)
      cases P keeps w [] links free rule = absurd (some (w.at ∙ links))
      cases P keeps w (e ∷ l) links free rule =
          let at : block.addr ≡ e.0 = leader.addr_is ∙ w.at ∙ links.0 in
          let is : block.words ≡ e.1 =
          leader.words_are ∙ ap (λ (a : ℕ). leader_words (a - 16) x) (w.at ∙ links.0)
          ∙ keeps.holds.leaders e.1 e.0 (free_of P P.end P.end (tiles_whole P keeps.tiles) e.1 e.0
          (free e.1 e.0 (first_entry e l))) in
          ap (λ (n : ℕ). Some (n, block.words)) at ∙ ap (λ (n : ℕ). Some (e.0, n)) is
          ∙ sym (rule ∙ ap (λ (v : Bool). cond v (Some e) (find (has_words words) l))
          (le-leb words e.1 (omega (arith, fits, is))))

  -- one that has fewer is passed
  pub walk_next : (addr seen next : ℕ) (block : Block) → IsWalk order words addr seen x → addr ≢ 0 →
      HasLeader block addr x → block.words < words → next ≡ number_at (addr - 8) x →
      IsWalk order words next (seen + 1) x
  unfolding Links
  walk_next addr seen next block walk some leader short next_is = record {
    walks = λ P keeps. let w = walk.walks P keeps in cases P keeps w w.rest w.links w.free w.rule w.long;
  }
    where
      cases : (P : Pools) → KeepsLarge x P → (w : Walks P order words addr seen x) → (rest : List (ℕ × ℕ)) →
          Links x w.place w.before rest → ((k b : ℕ) → 0 < count_by (is_entry k b) rest → IsFree P k b) →
          find (has_words words) (P.large_lists order) ≡ find (has_words words) rest →
          length (P.large_lists order) ≡ seen + length rest → Walks P order words next (seen + 1) x
      cases P keeps w [] links free rule long = absurd (some (w.at ∙ links))
      cases P keeps w (e ∷ l) links free rule long =
          let is : block.words ≡ e.1 =
          leader.words_are ∙ ap (λ (a : ℕ). leader_words (a - 16) x) (w.at ∙ links.0)
          ∙ keeps.holds.leaders e.1 e.0 (free_of P P.end P.end (tiles_whole P keeps.tiles) e.1 e.0
          (free e.1 e.0 (first_entry e l))) in
          record {
            rest = l;
            place = e.0 - 8;
            before = e.0;
            links = links.2;
            at = next_is ∙ ap (λ (a : ℕ). number_at (a - 8) x) (w.at ∙ links.0);
            rule = rule ∙ ap (λ (v : Bool). cond v (Some e) (find (has_words words) l))
                (lt-leb words e.1 (omega (arith, short, is)));
            long = omega (arith, long);
            free = λ k b there. free k b (later_entry k b e l there);
          }

  -- a block that the way has come to stands within the region
  pub walk_fits : (addr seen : ℕ) → IsWalk order words addr seen x → KeepsSomeLarge x → addr ≢ 0 →
      (16 ≤ addr) × (addr ≤ length x)
  unfolding Links
  walk_fits addr seen walk k some =
      let w = walk.walks k.pools k.keeps in cases w w.rest w.links w.free
    where
      cases : (w : Walks k.pools order words addr seen x) → (rest : List (ℕ × ℕ)) → Links x w.place w.before rest →
          ((h b : ℕ) → 0 < count_by (is_entry h b) rest → IsFree k.pools h b) → (16 ≤ addr) × (addr ≤ length x)
      cases w [] links free = absurd (some (w.at ∙ links))
      cases w (e ∷ l) links free =
          let t = tiles_whole k.pools k.keeps.tiles in
          let b = at_block k.pools k.pools.end k.pools.end t e.1 e.0
          (free_of k.pools k.pools.end k.pools.end t e.1 e.0 (free e.1 e.0 (first_entry e l))) in
          (omega (arith, w.at, links.0, b.first), omega (arith, w.at, links.0, b.last, k.keeps.holds.size))
