-- The free blocks that lists reached are struck out of what was told.
use Rattle.std.proofs.Common.{◌≡◌, ◌≢◌, ◌<◌, ◌+◌, ◌-◌, ◌*◌, ◌/◌, ◌&&◌, ℕ, Bool, List, cond, not, map, true, false, length, get_or, set, arith, ap, ◌∙◌, refl, sym, inl, inr}
use Rattle.std.proofs.Math.Bool.{and-true}
use Rattle.std.proofs.Math.ListN.{get_or-map}
use Rattle.std.proofs.lemmas.Bool.{and_from, and_parts, and_right, cases_Bool, cases_eq, not-true}
use Rattle.std.proofs.lemmas.List.{get_or-set_other, get_or-set_same, length-map, length-set}
use Rattle.std.proofs.lemmas.List.Sums.{sum_by-set}
use Rattle.sdr_base.specs.Pools.{PoolBlock}
use Rattle.sdr_base.specs.Stored.{number_at}
use Rattle.audit_blocks.proofs.FreeLemmas.{IsBadLink, list_ends, list_goes_on, list_wrong, lists_begin}
use Rattle.audit_blocks.proofs.ListedLemmas.{at_listed, free_inside, listed_at}
use Rattle.audit_blocks.specs.Control.{ControlIsRight}
use Rattle.audit_blocks.specs.Free.{IsWrongList}
use Rattle.audit_blocks.specs.Listed.{IsLeft, Leaves, ListWalked, ListsWalked, frame_in, free_left, has_previous, is_listed, is_lost, is_marked, may_follow}
use Rattle.audit_blocks.specs.Spots.{is_free_spot}
use Rattle.audit_blocks.specs.Walk.{AreBlocks}
use Rattle.audit_blocks.specs.Walked.{AllFound}
use Rattle.audit_blocks.specs.declared.free.Link.{Link}
use Rattle.audit_blocks.specs.declared.spot.Spot.{Spot}
use Rattle.audit_blocks.specs.declared.spot.Spot.TheVariants as spots

module _ {told : List Spot} {reached : List Bool} {left : List Spot} (is : IsLeft told reached left) where
  -- a word that isn't marked is left as it was told, and another is struck out
  left_told : (word : ℕ) → get_or reached word false ≡ false → get_or left word spots.Nothing ≡ get_or told word spots.Nothing
  left_told word unmarked = is.each word ∙ ap (λ (t : Bool). cond t spots.Nothing (get_or told word spots.Nothing)) unmarked

  left_struck : (word : ℕ) → get_or reached word false ≡ true → get_or left word spots.Nothing ≡ spots.Nothing
  left_struck word marked = is.each word ∙ ap (λ (t : Bool). cond t spots.Nothing (get_or told word spots.Nothing)) marked

  -- a free block is left where it isn't marked
  pub lost_is : (word : ℕ) → is_lost left word ≡ is_free_spot (get_or told word spots.Nothing) && not (get_or reached word false)
  lost_is word = elim (cases_Bool (get_or reached word false)) [
    | inl marked ↦
        ap is_free_spot (left_struck word marked)
        ∙ sym (and_right (is_free_spot (get_or told word spots.Nothing)) (not (get_or reached word false)) (ap not marked))
    | inr unmarked ↦
        ap is_free_spot (left_told word unmarked)
        ∙ sym (ap (λ (t : Bool). is_free_spot (get_or told word spots.Nothing) && not t) unmarked ∙ and-true (is_free_spot (get_or told word spots.Nothing)))
  ]

  module _ (bytes : List ℕ) (word addr : ℕ) where
    -- a block that is left in a list was told to be in it, and isn't marked
    pub listed_left : is_listed bytes left word addr ≡ true → (is_listed bytes told word addr ≡ true) × (is_marked reached word addr ≡ false)
    listed_left listed =
        let at = listed_at bytes left word addr listed in
        let free = and_parts _ _ (sym (lost_is ((addr - frame_in word) / 8)) ∙ at.free) in (
          at_listed bytes told word addr (record { frame = at.frame; whole = at.whole; free = free.0; list = at.list }),
          not-true (is_marked reached word addr) free.1,
        )

    left_listed : is_listed bytes told word addr ≡ true → is_marked reached word addr ≡ false → is_listed bytes left word addr ≡ true
    left_listed listed unmarked =
        let at = listed_at bytes told word addr listed in
        at_listed bytes left word addr (record {
          frame = at.frame;
          whole = at.whole;
          free = ap is_free_spot (left_told ((addr - frame_in word) / 8) unmarked) ∙ at.free;
          list = at.list;
        })

    module _ (before : ℕ) where
      follows_left : may_follow bytes left word before addr ≡ true → (may_follow bytes told word before addr ≡ true) × (is_marked reached word addr ≡ false)
      follows_left follows =
          let both = and_parts (is_listed bytes left word addr) (has_previous bytes word before addr) follows in
          let l = listed_left both.0 in
          (and_from _ _ l.0 both.1, l.1)

      left_follows : may_follow bytes told word before addr ≡ true → is_marked reached word addr ≡ false → may_follow bytes left word before addr ≡ true
      left_follows follows unmarked =
          let both = and_parts (is_listed bytes told word addr) (has_previous bytes word before addr) follows in
          and_from _ _ (left_listed both.0 unmarked) both.1

-- a link that may not be followed leads to none of the list, or to one that is marked
bad_left : {told : List Spot} {reached : List Bool} {left : List Spot} (is : IsLeft told reached left) (bytes : List ℕ) (link : Link) →
    may_follow bytes left link.word link.before link.addr ≡ false → IsBadLink bytes told reached link
bad_left {told} {reached} {left} is bytes link fails = elim (cases_Bool (is_marked reached link.word link.addr)) [
  | inl marked ↦ inr marked
  | inr unmarked ↦ elim (cases_Bool (may_follow bytes told link.word link.before link.addr)) [
    | inl follows ↦
        let d : false ≡ true = sym fails ∙ left_follows is bytes link.word link.addr link.before follows unmarked in
        cc
    | inr wrong ↦ inl wrong
  ]
]

-- before the first list nothing is struck out
pub left_begin : (bytes : List ℕ) (told : List Spot) → length told * 8 ≡ length bytes → AllFound bytes told →
    Leaves bytes told (λ told' reached. ListsWalked bytes told' reached 4)
left_begin bytes told long found = record {
  told = told;
  reached = map (λ (spot : Spot). false) told;
  long = long;
  found = found;
  left_is = record {
    long = refl;
    each = λ word. sym (ap (λ (t : Bool). cond t spots.Nothing (get_or told word spots.Nothing)) (none word));
  };
  walked = lists_begin bytes told (map (λ (spot : Spot). false) told) (length-map told (λ (spot : Spot). false)) none;
}
  where
    none : (word : ℕ) → get_or (map (λ (spot : Spot). false) told) word false ≡ false
    none word = get_or-map (λ (spot : Spot). false) told word spots.Nothing

-- what is left where a list is walked up to a link
abbrev pub LeavesList : List ℕ → List Spot → Link → Type 0
LeavesList bytes left link = Leaves bytes left (λ told reached. ListWalked bytes told reached link)

-- a list that ended
pub left_ends : {bytes : List ℕ} {left : List Spot} {link : Link} → LeavesList bytes left link → link.addr ≡ 0 →
    Leaves bytes left (λ told reached. ListsWalked bytes told reached (link.word + 1))
left_ends w none = record {
  told = w.told;
  reached = w.reached;
  long = w.long;
  found = w.found;
  left_is = w.left_is;
  walked = list_ends w.walked none;
}

module _ {bytes : List ℕ} {left : List Spot} {link : Link} (w : LeavesList bytes left link) where
  -- where a link may not be followed its list is wrong
  pub left_wrong : ControlIsRight bytes → link.addr ≢ 0 → may_follow bytes left link.word link.before link.addr ≡ false →
      (small large : List PoolBlock) → AreBlocks bytes small large → IsWrongList bytes small large (8 * link.word)
  left_wrong right some fails small large are =
      list_wrong bytes w.told w.reached link right w.long w.found w.walked some (bad_left w.left_is bytes link fails) small large are

  module _ (follows : may_follow bytes left link.word link.before link.addr ≡ true) where
    abbrev begins : ℕ
    begins = (link.addr - frame_in link.word) / 8

    -- it was told to be a free block of the list
    pub left_told_so : is_listed bytes w.told link.word link.addr ≡ true
    left_told_so = (listed_left w.left_is bytes link.word link.addr (and_parts _ _ follows).0).0

    left_free : is_free_spot (get_or left begins spots.Nothing) ≡ true
    left_free = (listed_at bytes left link.word link.addr (and_parts _ _ follows).0).free

    pub left_inside : begins < length left
    left_inside = free_inside left begins left_free

    -- the block to which it leads is struck out
    struck : IsLeft w.told (set w.reached begins true) (set left begins spots.Nothing)
    struck = record {
      long = length-set left begins spots.Nothing ∙ w.left_is.long;
      each = λ word. elim (cases_eq word begins) [
        | inl same ↦
            ap (λ (n : ℕ). get_or (set left begins spots.Nothing) n spots.Nothing) same
            ∙ get_or-set_same left begins spots.Nothing spots.Nothing left_inside
            ∙ sym (ap (λ (n : ℕ). cond (get_or (set w.reached begins true) n false) spots.Nothing (get_or w.told n spots.Nothing)) same
            ∙ ap (λ (t : Bool). cond t spots.Nothing (get_or w.told begins spots.Nothing)) (get_or-set_same w.reached begins true false inside))
        | inr other ↦
            get_or-set_other left begins word spots.Nothing spots.Nothing other
            ∙ w.left_is.each word
            ∙ sym (ap (λ (t : Bool). cond t spots.Nothing (get_or w.told word spots.Nothing)) (get_or-set_other w.reached begins word true false other))
      ];
    }
      where
        inside : begins < length w.reached
        inside = let a = left_inside in let b = w.left_is.long in let c = w.walked.long in omega (arith, a, b, c)

    -- the list goes on behind it
    pub left_goes_on : {addr : ℕ} → addr ≡ number_at (link.addr - frame_in link.word + 8) bytes →
        LeavesList bytes (set left begins spots.Nothing) (record { word = link.word; before = link.addr; addr = addr })
    left_goes_on is =
        let f = follows_left w.left_is bytes link.word link.addr link.before follows in
        record {
          told = w.told;
          reached = set w.reached begins true;
          long = w.long;
          found = w.found;
          left_is = struck;
          walked = list_goes_on w.walked f.0 f.1 is;
        }

    -- fewer free blocks are left
    pub left_fewer : free_left (set left begins spots.Nothing) < free_left left
    left_fewer =
        let s = sum_by-set (λ (spot : Spot). cond (is_free_spot spot) 1 0) left begins spots.Nothing spots.Nothing left_inside in
        let e : cond {A = ℕ} (is_free_spot (get_or left begins spots.Nothing)) 1 0 ≡ 1 = ap (λ (t : Bool). cond t 1 0) left_free in
        omega (arith, s, e)
